-- Frames by a table of types alone.
use Rattle.std.proofs.Common.{◌≡◌, ℕ, ◌+◌, ◌*◌, Bool, true, false, List, [], ◌∷◌, ◌++◌, refl, sym, subst, ◌≤◌, ◌<◌, ◌-◌, ◌%◌, ◌^◌, length, length-append, ap, ◌∙◌, arith}
use Rattle.std.proofs.lemmas.List.{length-map}
use Rattle.std.specs.Prelude.{get_or, map, None}
use Rattle.odc_program.specs.declared.program.TypeRow.{TypeRow}
use Rattle.odc_program.specs.Trees.Program.{Ty, Local, Head, fields}
use Rattle.odc_program.specs.Trees.Tree.{Stmts}
use Rattle.odc_program.specs.States.State.{Env, ty_of, size_of, shape_of}
use Rattle.odc_program.specs.Kinds.Calling.{types_of}
use Rattle.odc_program.specs.Typing.Frames.{rounded, rounded_sum, value_bytes, variable_bytes, node_bytes, stmts_weight}
use Rattle.odc_program.specs.Views.ProgramView.{ty}
use Rattle.odc_program.specs.Kinds.Layouts.{round_up}
use Rattle.odc_program.specs.Views.Instances.{local}
use Rattle.odc_limits.specs.declared.frame.Variables.{Variables}
use Rattle.odc_limits.specs.Sized.{capped, table}
use Rattle.odc_limits.specs.Weighed.{weight, listed}
use Rattle.odc_limits.proofs.Same.{same_stmts}

variables_apart : (env : Env) (xs ys : List Local) → variable_bytes env (xs ++ ys) ≡ variable_bytes env xs + variable_bytes env ys
variables_apart env [] ys = omega arith
variables_apart env (x ∷ xs) ys = omega (arith, variables_apart env xs ys)

module _ (env : Env) (rows : List TypeRow) (types : env.tables.types ≡ map ty rows) where
  ty_same : (t : ℕ) → ty_of env t ≡ ty_of (table rows) t
  ty_same t = ap (λ (ts : List Ty). get_or ts t (record { size = 0; align = 1; base = t; name = None; shape = fields [] })) types

  pub size_same : (t : ℕ) → size_of env t ≡ size_of (table rows) t
  size_same t = ap (λ (r : Ty). r.size) (ty_same t)

  sum_same : (ts : List ℕ) → rounded_sum env ts ≡ rounded_sum (table rows) ts
  sum_same [] = refl
  sum_same (t ∷ ts) = ap (λ n. rounded n + rounded_sum env ts) (size_same t) ∙ ap (λ n. rounded (size_of (table rows) t) + n) (sum_same ts)

  value_same : (t : ℕ) → value_bytes env t ≡ value_bytes (table rows) t
  value_same t = ap (λ (r : Ty). rounded_sum env (types_of t r.shape)) (ty_same t) ∙ sum_same (types_of t (shape_of (table rows) t))

  pub variables_same : (ls : List Local) → variable_bytes env ls ≡ variable_bytes (table rows) ls
  variables_same [] = refl
  variables_same (l ∷ ls) = ap (λ n. 128 + (rounded n + variable_bytes env ls)) (size_same l.ty) ∙ ap (λ n. 128 + (rounded (size_of (table rows) l.ty) + n)) (variables_same ls)

  node_same : (place : Bool) (t : ℕ) → weight 128 rows place t ≡ node_bytes env place t
  node_same true t = refl
  node_same false t = ap (λ n. 128 + 2 * n) (sym (value_same t))

  pub bytes_same : (body : Stmts) → stmts_weight (weight 128 rows) 128 body ≡ stmts_weight (node_bytes env) 128 body
  bytes_same body = same_stmts (weight 128 rows) (node_bytes env) 128 node_same body

  -- what a frame holds, without the 256 bytes of each
  pub held : (p : Head) (v : Variables) (body : Stmts) → p.locals ≡ listed v →
      variable_bytes env p.locals + stmts_weight (node_bytes env) 128 body ≡
      variable_bytes (table rows) (map local v.params.now) + (variable_bytes (table rows) (map local v.results.now) + variable_bytes (table rows) (map local v.locals.now)) + stmts_weight (weight 128 rows) 128 body
  held p v body h = omega (
    arith,
    bytes_same body,
    variables_same p.locals,
    ap (variable_bytes (table rows)) h ∙ variables_apart (table rows) (map local v.params.now ++ map local v.results.now) (map local v.locals.now),
    variables_apart (table rows) (map local v.params.now) (map local v.results.now),
  )

-- a sum that is past the limit, and one that isn't, rounded up to a multiple of 16
pub past : (n size : ℕ) → size ≡ capped n → 2 ^ 24 < size → round_up n 16 ≤ 2 ^ 24 → ⊥
past n size h large small = omega (arith, h, large, small)

pub within : (n size : ℕ) → size ≡ capped n → size ≤ 2 ^ 24 → (round_up n 16 ≤ 2 ^ 24) × (size + (16 - size % 16) % 16 ≡ round_up n 16)
within n size h small = of n size (omega (arith, h, small)) small
  where
    of : (n size : ℕ) → size ≡ n → size ≤ 2 ^ 24 → (round_up n 16 ≤ 2 ^ 24) × (size + (16 - size % 16) % 16 ≡ round_up n 16)
    of n size h small = subst (λ k. (round_up k 16 ≤ 2 ^ 24) × (size + (16 - size % 16) % 16 ≡ round_up k 16)) h (omega (arith, small), refl)

-- without types, each node weighs a unit
one : (place : Bool) (t : ℕ) → weight 1 [] place t ≡ 1
one true t = refl
one false t = refl

pub counted : (body : Stmts) → stmts_weight (weight 1 []) 1 body ≡ stmts_weight (λ place t. 1) 1 body
counted body = same_stmts (weight 1 []) (λ place t. 1) 1 one body

pub how_many : (p : Head) (v : Variables) → p.locals ≡ listed v → length p.locals ≡ length v.params.now + (length v.results.now + length v.locals.now)
how_many p v h = omega (
  arith,
  ap length h ∙ length-append (map local v.params.now ++ map local v.results.now) (map local v.locals.now),
  length-append (map local v.params.now) (map local v.results.now),
  length-map v.params.now local,
  length-map v.results.now local,
  length-map v.locals.now local,
)
