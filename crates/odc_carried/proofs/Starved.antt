-- A run of well core code for which nothing is left of the bound: it does nothing.
use Rattle.std.proofs.Common.{◌≡◌, ℕ, zero, suc, ◌<◌, List, [], ◌∷◌, length, arith, ap, ◌∙◌, refl}
use Rattle.std.specs.Prelude.{Option, Some, None, ◌+◌, ◌%◌, ◌^◌, ◌==◌, option_map, slice_get, replicate, if◌then◌else◌}
use Rattle.odc_text.specs.Run.{going, checked, exited}
use Rattle.odc_core.specs.declared.tree.Variable.{Variable}
use Rattle.odc_core.specs.Words.{width_size, unary_word, binary_word, compare_words, number_of, bytes_of}
use Rattle.odc_core.specs.Program.{called_by}
use Rattle.odc_core.specs.Frames.{variable_address}
use Rattle.odc_core.specs.Tree.{Expr, const, slot, address, procedure, load, unary, binary, compare, call, call_value, none, more, Stmt, eval, store, copy, zero_bytes, choose, repeat, leave, answer, check, read, write, exit, Stmts, follow}
use Rattle.odc_core.specs.Run.{State, Res, stop, Act, pure, then_by, ◌>>=◌, spend_from, spend, node, World, Env, need, load_bytes, store_bytes, write_bytes, read_bytes, call_found, calls_of, value_of, values_of, Flow, falls, leaves, answers, after, exec, exec_all}
use Rattle.odc_core.specs.Well.{Names, IsExpr, IsStmt, AreStmts}

-- with nothing left, the run stands as it is
pub record Starves {A : Type 0} (m : Act A) : Type 0 where
  pub by : (s : State) → s.left ≡ 0 → m s ≡ stop going s

pub starves_then : {A B : Type 0} (m : Act A) (f : A → Act B) → Starves m → Starves (m >>= f)
starves_then {A} {B} m f h = record { by = λ s e. ap (λ (r : Res A). then_by r f) (h.by s e) }

spent : {A : Type 0} (m : Act A) (s : State) → s.left ≡ 0 → spend_from s.left m s ≡ stop going s
spent {A} m s e = ap (λ (left : ℕ). spend_from left m s) e

there : {A : Type 0} (xs : List A) (x : ℕ) → x < length xs → (v : A) × (slice_get xs x ≡ Some v)
there [] x less = absurd (omega (arith, less))
there (v ∷ xs) zero less = (v, refl)
there (v ∷ xs) (suc x) less = there xs x (omega (arith, less))

module _ (world : World) (env : Env) (names : Names) (variables : names.variables ≡ length env.variables) (addresses : names.addresses ≡ length env.world.addresses) where
  slot_there : (x : ℕ) → x < names.variables → (v : ℕ) × (variable_address env.low env.variables x ≡ Some v)
  slot_there x less =
      let found = there env.variables x (omega (arith, less, variables)) in
      (env.low + found.0.offset, ap (λ (o : Option Variable). option_map (λ (v : Variable). env.low + v.offset) o) found.1)

  node_starves : {A : Type 0} (m : Act A) → Starves m → Starves (node m)
  node_starves {A} m h = starves_then m (λ v. spend (pure v)) h

  leaf : {A : Type 0} (v : A) → Starves (node (pure v))
  leaf {A} v = record { by = λ s left. spent (pure v) s left }

  known : {A : Type 0} (o : Option A) (v : A) → o ≡ Some v → Starves (node (need env o))
  known {A} o v e = record { by = λ s left. ap (λ (p : Option A). then_by (need env p s) (λ v. spend (pure v))) e ∙ spent (pure v) s left }

  value : (e : Expr) → IsExpr names e → Starves (value_of (calls_of world 0) env e)
  value (const word) h = leaf word
  value (slot x) h = let f = slot_there x h in known (variable_address env.low env.variables x) f.0 f.1
  value (address n) h = let f = there env.world.addresses n (omega (arith, h, addresses)) in known (slice_get env.world.addresses n) f.0 f.1
  value (procedure f) h = leaf (env.world.entries f)
  value (load width at) h =
      node_starves (value_of (calls_of world 0) env at >>= (λ a. load_bytes env a (width_size width) >>= (λ bytes. pure (number_of bytes))))
      (starves_then (value_of (calls_of world 0) env at) (λ a. load_bytes env a (width_size width) >>= (λ bytes. pure (number_of bytes))) (value at h))
  value (unary op operand) h =
      node_starves (value_of (calls_of world 0) env operand >>= (λ v. pure (unary_word op v)))
      (starves_then (value_of (calls_of world 0) env operand) (λ v. pure (unary_word op v)) (value operand h))
  value (binary op left right) h =
      let f : ℕ → Act ℕ = λ v. value_of (calls_of world 0) env right >>= (λ w. pure (binary_word op v w)) in
      node_starves (value_of (calls_of world 0) env left >>= f) (starves_then (value_of (calls_of world 0) env left) f (value left h.0))
  value (compare op left right) h =
      let f : ℕ → Act ℕ = λ v. value_of (calls_of world 0) env right >>= (λ w. pure (compare_words op v w)) in
      node_starves (value_of (calls_of world 0) env left >>= f) (starves_then (value_of (calls_of world 0) env left) f (value left h.0))
  value (call f none) h = record { by = λ s left. refl }
  value (call f (more e es)) h =
      let k : List ℕ → Act ℕ = λ vs. calls_of world 0 None f vs env.touched env.low in
      let g : ℕ → Act (List ℕ) = λ v. values_of (calls_of world 0) env es >>= (λ vs. pure (v ∷ vs)) in
      let m : Act (List ℕ) = values_of (calls_of world 0) env (more e es) in
      node_starves (m >>= k) (starves_then m k (starves_then (value_of (calls_of world 0) env e) g (value e h.1.0)))
  value (call_value target arguments marked) h =
      let f : ℕ → Act ℕ = λ word. values_of (calls_of world 0) env arguments >>= (λ vs. call_found (calls_of world 0) env word vs marked (called_by env.world.entries 0 env.world.procedures word)) in
      node_starves (value_of (calls_of world 0) env target >>= f) (starves_then (value_of (calls_of world 0) env target) f (value target h.0))

  statement : (loops : ℕ) (t : Stmt) → IsStmt names loops t → Starves (exec 0 (calls_of world 0) env t)
  statement loops (eval e) h =
      node_starves (value_of (calls_of world 0) env e >>= (λ v. pure falls)) (starves_then (value_of (calls_of world 0) env e) (λ v. pure falls) (value e h))
  statement loops (store width to e) h =
      let f : ℕ → Act Flow = λ a. value_of (calls_of world 0) env e >>= (λ v. store_bytes env a (bytes_of (width_size width) v) >>= (λ u. pure falls)) in
      node_starves (value_of (calls_of world 0) env to >>= f) (starves_then (value_of (calls_of world 0) env to) f (value to h.0))
  statement loops (copy to from size) h =
      let f : ℕ → Act Flow = λ a. value_of (calls_of world 0) env from >>= (λ b. value_of (calls_of world 0) env size >>= (λ k. load_bytes env b k >>= (λ bytes. store_bytes env a bytes >>= (λ u. pure falls)))) in
      node_starves (value_of (calls_of world 0) env to >>= f) (starves_then (value_of (calls_of world 0) env to) f (value to h.0))
  statement loops (zero_bytes to size) h =
      let f : ℕ → Act Flow = λ a. value_of (calls_of world 0) env size >>= (λ k. store_bytes env a (replicate k 0) >>= (λ u. pure falls)) in
      node_starves (value_of (calls_of world 0) env to >>= f) (starves_then (value_of (calls_of world 0) env to) f (value to h.0))
  statement loops (choose condition one other) h =
      let f : ℕ → Act Flow = λ v. if v == 0 then exec_all 0 (calls_of world 0) env other else exec_all 0 (calls_of world 0) env one in
      node_starves (value_of (calls_of world 0) env condition >>= f) (starves_then (value_of (calls_of world 0) env condition) f (value condition h.0))
  statement loops (repeat body) h = record { by = λ s left. refl }
  statement loops (leave depth) h = leaf (leaves depth)
  statement loops (answer e) h =
      let f : ℕ → Act Flow = λ v. pure (answers v) in
      node_starves (value_of (calls_of world 0) env e >>= f) (starves_then (value_of (calls_of world 0) env e) f (value e h))
  statement loops (check condition which place) h =
      let f : ℕ → Act Flow = λ v. if v == 0 then (λ s. stop (checked which place) s) else pure falls in
      node_starves (value_of (calls_of world 0) env condition >>= f) (starves_then (value_of (calls_of world 0) env condition) f (value condition h))
  statement loops (read to size count) h =
      let f : ℕ → Act Flow = λ a. value_of (calls_of world 0) env size >>= (λ k. value_of (calls_of world 0) env count >>= (λ c. read_bytes env a k >>= (λ came. store_bytes env c (bytes_of 8 came) >>= (λ u. pure falls)))) in
      node_starves (value_of (calls_of world 0) env to >>= f) (starves_then (value_of (calls_of world 0) env to) f (value to h.0))
  statement loops (write descriptor from size) h =
      let f : ℕ → Act Flow = λ a. value_of (calls_of world 0) env size >>= (λ k. load_bytes env a k >>= (λ bytes. write_bytes descriptor bytes >>= (λ u. pure falls))) in
      node_starves (value_of (calls_of world 0) env from >>= f) (starves_then (value_of (calls_of world 0) env from) f (value from h.0))
  statement loops (exit code) h =
      let f : ℕ → Act Flow = λ v. (λ s. stop (exited (v % 2 ^ 8)) s) in
      node_starves (value_of (calls_of world 0) env code >>= f) (starves_then (value_of (calls_of world 0) env code) f (value code h))

  pub statements : (t : Stmt) (ts : Stmts) → AreStmts names 0 (follow t ts) → Starves (exec_all 0 (calls_of world 0) env (follow t ts))
  statements t ts h = starves_then (exec 0 (calls_of world 0) env t) (λ flow. after flow (exec_all 0 (calls_of world 0) env ts)) (statement 0 t h.0)
