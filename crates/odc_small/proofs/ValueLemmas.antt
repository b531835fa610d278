-- The sums of a text are expressions of type `int`, and its comparisons conditions.
use Rattle.std.proofs.Common.{◌≡◌, ◌≢◌, ℕ, zero, suc, ◌+◌, ◌*◌, ◌<◌, ◌≤◌, ◌==◌, Bool, true, false, List, [], ◌∷◌, ◌++◌, length, map, arith, ap, ◌∙◌, sym, subst, refl, lit≤, inl, inr, length-append}
use Rattle.std.specs.Prelude.{ℤ, pos, codes, FitsSigned, Option, Some, None, slice_get}
use Rattle.std.specs.Int.{w64}
use Rattle.std.specs.List.{AllByRecursion}
use Rattle.std.proofs.lemmas.Int.{ints}
use Rattle.odc_text.specs.declared.place.Place.{Place}
use Rattle.odc_typed.specs.declared.tree.BinaryOp.{BinaryOp}
use Rattle.odc_typed.specs.declared.tree.BinaryOp.TheVariants.{Add, Subtract, Multiply, Divide, Remainder, Equal, Less as Under}
use Rattle.odc_typed.specs.declared.tree.Constant.TheVariants.{Int, Bool as Truth}
use Rattle.odc_typed.specs.Source.{exact}
use Rattle.odc_typed.specs.Tree.{Expr, const, local, binary, Exprs}
use Rattle.odc_typed.specs.Tree.{call as calls}
use Rattle.odc_typed.specs.Well.{Scope, InScope, IsArithmetic, IsInt, AreInts, IsCondition, count}
use Rattle.odc_typed.specs.Well.{Signature as Shape}
use Rattle.odc_typed.specs.Nodes.{expr_nodes, exprs_nodes}
use Rattle.odc_small.specs.declared.grammar.Sign.{Sign}
use Rattle.odc_small.specs.declared.grammar.Sign.TheVariants.{Plus, Minus}
use Rattle.odc_small.specs.declared.grammar.Scale.{Scale}
use Rattle.odc_small.specs.declared.grammar.Scale.TheVariants.{Times, Over, Rest}
use Rattle.odc_small.specs.declared.grammar.Relation.{Relation}
use Rattle.odc_small.specs.declared.grammar.Relation.TheVariants.{Less, Same}
use Rattle.odc_small.specs.Forms.{Form, spellings, never}
use Rattle.odc_small.specs.Grammar.{Factor, Mul, Term, Sum, Atom, name, number, call, ArgumentAt, AtomAt, SumAt, Value, IsName, number_of, Leads, IsAtom, IsFactor, IsMul, IsTerm, IsSum, factor_spelling, mul_spelling, term_spelling, sum_spelling, scale_spelling, sign_spelling, list_spelling, next_spelling, relation_spelling, atom_spelling, atoms_over, arguments, atoms, sums, values}
use Rattle.odc_small.specs.Names.{Callable, IsCallable, procedure_of, Names, variable_of, or_zero, IsDeclared, KnowsAtom, KnowsFactor, KnowsMul, KnowsTerm, KnowsSum, KnowsArgument, KnowsAtomAt, KnowsSumAt}
use Rattle.odc_small.specs.Small.{Below, ValueBelow, IsSmall}
use Rattle.odc_small.specs.Typing.{at, scaled_by, mul_from, mul_expr, added_by, constant_of, folded, joined, sum_from, sum_expr, list_exprs, atom_expr, argument_expr, atom_at, sum_at, value_at, compared_by, compared, condition_at, related_by}

-- ---- names and procedures

-- the names of the open blocks are variables that have begun
pub record Covers (names : Names) (scope : Scope) : Type 0 where
  pub by : (c : ℕ) → IsDeclared names c → InScope scope (or_zero (variable_of c names))

-- the procedures that may be called are there
pub record Serves (callable : Callable) (ss : List Shape) : Type 0 where
  pub by : (f n : ℕ) → IsCallable callable f n → slice_get ss (procedure_of f callable) ≡ Some (record { parameters = n; results = 1 })

-- ---- small constants

weaker_value : (a b : ℕ) (v : Option ℤ) → a ≤ b → ValueBelow a v → ValueBelow b v
weaker_value a b (Some z) h (p, q) = (omega (arith, ints), omega (arith, ints))
weaker_value a b None h p = tt

below_sum : (a b : ℕ) (y z : ℤ) (sign : Sign) → Below a y → Below b z → Below (a + b) (exact (added_by sign) y z)
below_sum a b y z Plus (p, q) (r, s) = (omega (arith, ints), omega (arith, ints))
below_sum a b y z Minus (p, q) (r, s) = (omega (arith, ints), omega (arith, ints))

joined_value : (a b : ℕ) (place : Place) (sign : Sign) (left right : Expr) (y z : Option ℤ) → ValueBelow a y → ValueBelow b z
    → ValueBelow (a + b) (constant_of (folded place (added_by sign) left right y z))
joined_value a b place sign left right (Some y) (Some z) p q = below_sum a b y z sign p q
joined_value a b place sign left right (Some y) None p q = tt
joined_value a b place sign left right None (Some z) p q = tt
joined_value a b place sign left right None None p q = tt

joined_small : (k : ℕ) (place : Place) (sign : Sign) (left right : Expr) → IsSmall k left → IsSmall 1 right → IsSmall (k + 1) (joined place (added_by sign) left right)
joined_small k place sign left right p q =
    let sum : k * 1000000000 + 1 * 1000000000 ≡ (k + 1) * 1000000000 = omega arith in
    record {
      below = subst (λ (b : ℕ). ValueBelow b (constant_of (joined place (added_by sign) left right))) sum
          (joined_value (k * 1000000000) (1 * 1000000000) place sign left right (constant_of left) (constant_of right) p.below q.below);
    }

fits : (b : ℕ) (z : ℤ) → b ≤ 8000000000 → Below b z → FitsSigned w64 z
fits b z h (p, q) = omega (arith, ints)

int_fits : (n : ℕ) → n < 1000000000 → FitsSigned w64 (pos n)
int_fits n h = omega arith

arithmetic : (s : Scale) → IsArithmetic (scaled_by s)
arithmetic Times = tt
arithmetic Over = tt
arithmetic Rest = tt

-- ---- sums over atoms that are `int`s

module _ {S : Type 0} (form : Form (Atom S)) (expr : ℕ → Atom S → Expr) (line : ℕ) (ss : List Shape) (scope : Scope) (Knows : Atom S → Type 0)
    (ints_of : (column : ℕ) (a : Atom S) → form.Is a → Knows a → IsInt ss scope (expr column a))
    (constants : (column : ℕ) (a : Atom S) → form.Is a → ValueBelow 1000000000 (constant_of (expr column a)))
    (no_constant : (column : ℕ) (a : Atom S) → number_of a ≡ None → constant_of (expr column a) ≡ None) where
  product_none : (column : ℕ) (left : Expr) (more : List (Factor (Atom S))) → constant_of left ≡ None → constant_of (mul_from form expr line column left more) ≡ None
  product_none column left [] e = e
  product_none column left (f ∷ rest) e =
      product_none (column + length (factor_spelling form f)) (binary (at line (column + 1)) (scaled_by f.scale) left (expr (column + 3) f.atom)) rest refl

  mul_small : (column : ℕ) (m : Mul (Atom S)) → IsMul form m → IsSmall 1 (mul_expr form expr line column m)
  mul_small column m is = by m.more (number_of m.first) refl is.leads
    where
      by : (more : List (Factor (Atom S))) (o : Option ℕ) → number_of m.first ≡ o → Leads o more → IsSmall 1 (mul_from form expr line (column + length (form.spelling m.first)) (expr column m.first) more)
      by more None e leads = record { below = subst (ValueBelow (1 * 1000000000)) (sym (product_none (column + length (form.spelling m.first)) (expr column m.first) more (no_constant column m.first e))) tt }
      by [] (Some n) e leads = record { below = constants column m.first is.first }
      by (f ∷ rest) (Some n) e leads = absurd (omega (arith, leads))

  product_int : (column : ℕ) (left : Expr) (more : List (Factor (Atom S))) → IsInt ss scope left → AllByRecursion (IsFactor form) more → AllByRecursion (KnowsFactor Knows) more →
      IsInt ss scope (mul_from form expr line column left more)
  product_int column left [] int is knows = int
  product_int column left (f ∷ rest) int is knows =
      product_int (column + length (factor_spelling form f)) (binary (at line (column + 1)) (scaled_by f.scale) left (expr (column + 3) f.atom)) rest
      (arithmetic f.scale, (int, ints_of (column + 3) f.atom is.0.0 knows.0)) is.1 knows.1

  mul_int : (column : ℕ) (m : Mul (Atom S)) → IsMul form m → KnowsMul Knows m → IsInt ss scope (mul_expr form expr line column m)
  mul_int column m is knows =
      product_int (column + length (form.spelling m.first)) (expr column m.first) m.more (ints_of column m.first is.first knows.0) is.more knows.1

  folded_int : (a b : ℕ) (place : Place) (sign : Sign) (left right : Expr) (y z : Option ℤ) → a + b ≤ 8000000000 → ValueBelow a y → ValueBelow b z
      → IsInt ss scope left → IsInt ss scope right → IsInt ss scope (folded place (added_by sign) left right y z)
  folded_int a b place sign left right (Some y) (Some z) h p q f g = fits (a + b) (exact (added_by sign) y z) h (below_sum a b y z sign p q)
  folded_int a b place Plus left right (Some y) None h p q f g = (tt, (f, g))
  folded_int a b place Minus left right (Some y) None h p q f g = (tt, (f, g))
  folded_int a b place Plus left right None (Some z) h p q f g = (tt, (f, g))
  folded_int a b place Minus left right None (Some z) h p q f g = (tt, (f, g))
  folded_int a b place Plus left right None None h p q f g = (tt, (f, g))
  folded_int a b place Minus left right None None h p q f g = (tt, (f, g))

  rest_int : (column k : ℕ) (left : Expr) (ts : List (Term (Atom S))) → k + length ts ≤ 8 → IsSmall k left → IsInt ss scope left
      → AllByRecursion (IsTerm form) ts → AllByRecursion (KnowsTerm Knows) ts → IsInt ss scope (sum_from form expr line column left ts)
  rest_int column k left [] h small int is knows = int
  rest_int column k left (t ∷ ts) h small int is knows =
      let right = mul_expr form expr line (column + 3) t.mul in
      let right_small = mul_small (column + 3) t.mul is.0 in
      let place = at line (column + 1) in
      rest_int (column + length (term_spelling form t)) (k + 1) (joined place (added_by t.sign) left right) ts (omega arith)
      (joined_small k place t.sign left right small right_small)
      (folded_int (k * 1000000000) (1 * 1000000000) place t.sign left right (constant_of left) (constant_of right) (omega arith) small.below right_small.below
      int (mul_int (column + 3) t.mul is.0 knows.0))
      is.1 knows.1

  sum_int : (column : ℕ) (s : Sum (Atom S)) → IsSum form s → KnowsSum Knows s → IsInt ss scope (sum_expr form expr line column s)
  sum_int column s is knows =
      rest_int (column + length (mul_spelling form s.first)) 1 (mul_expr form expr line column s.first) s.more (omega (arith, is.short))
      (mul_small column s.first is.first) (mul_int column s.first is.first knows.0) is.more knows.1

-- ---- lists

list_count : {T : Type 0} (form : Form T) (expr : ℕ → T → Expr) (column : ℕ) (ts : List T) → count (list_exprs form expr column ts) ≡ length ts
list_count form expr column [] = refl
list_count form expr column (t ∷ ts) = ap suc (list_count form expr (column + length (form.spelling t) + 2) ts)

list_ints : {T : Type 0} (form : Form T) (expr : ℕ → T → Expr) (ss : List Shape) (scope : Scope) (Knows : T → Type 0) →
    ((column : ℕ) (t : T) → form.Is t → Knows t → IsInt ss scope (expr column t)) →
    (column : ℕ) (ts : List T) → AllByRecursion form.Is ts → AllByRecursion Knows ts → AreInts ss scope (list_exprs form expr column ts)
list_ints form expr ss scope Knows each column [] is knows = tt
list_ints form expr ss scope Knows each column (t ∷ ts) is knows =
    (each column t is.0 knows.0, list_ints form expr ss scope Knows each (column + length (form.spelling t) + 2) ts is.1 knows.1)

-- ---- atoms and sums at each depth

module _ (callable : Callable) (names : Names) (line : ℕ) (ss : List Shape) (scope : Scope) (covers : Covers names scope) (serves : Serves callable ss) where
  atom_int : {S : Type 0} (allowed : Type 0) (form : Form S) (expr : ℕ → S → Expr) (Knows : S → Type 0) → ((column : ℕ) (s : S) → form.Is s → Knows s → IsInt ss scope (expr column s)) →
      (column : ℕ) (a : Atom S) → (atoms_over allowed form).Is a → KnowsAtom callable names Knows a → IsInt ss scope (atom_expr callable names form expr line column a)
  atom_int allowed form expr Knows each column (name c) is knows = covers.by c knows
  atom_int allowed form expr Knows each column (number n) is knows = int_fits n is
  atom_int allowed form expr Knows each column (call f items) is knows =
      let n : ℕ = count (list_exprs form expr (column + 2) items) in
      let same : length items ≡ n = sym (list_count form expr (column + 2) items) in (
        serves.by f (length items) knows.0 ∙ ap (λ (k : ℕ). Some (record { parameters = k; results = 1 })) same,
        list_ints form expr ss scope Knows each (column + 2) items is.1.1 knows.1,
      )

  atom_constant : {S : Type 0} (allowed : Type 0) (form : Form S) (expr : ℕ → S → Expr) (column : ℕ) (a : Atom S) → (atoms_over allowed form).Is a →
      ValueBelow 1000000000 (constant_of (atom_expr callable names form expr line column a))
  atom_constant allowed form expr column (name c) is = tt
  atom_constant allowed form expr column (number n) is = (omega (arith, ints, is), omega (arith, ints, is))
  atom_constant allowed form expr column (call f items) is = tt

  atom_none : {S : Type 0} (form : Form S) (expr : ℕ → S → Expr) (column : ℕ) (a : Atom S) → number_of a ≡ None → constant_of (atom_expr callable names form expr line column a) ≡ None
  atom_none form expr column (name c) e = refl
  atom_none form expr column (number n) e = cc
  atom_none form expr column (call f items) e = refl

  argument_int : (n column : ℕ) (s : ArgumentAt n) → (arguments n).Is s → KnowsArgument callable names n s → IsInt ss scope (argument_expr callable names line n column s)
  argument_int zero column s is knows = absurd is
  argument_int (suc n) column s is knows =
      sum_int (atoms n) (atom_expr callable names (arguments n) (argument_expr callable names line n) line) line ss scope (KnowsAtom callable names (KnowsArgument callable names n))
      (atom_int (0 < n) (arguments n) (argument_expr callable names line n) (KnowsArgument callable names n) (argument_int n))
      (atom_constant (0 < n) (arguments n) (argument_expr callable names line n)) (atom_none (arguments n) (argument_expr callable names line n)) column s is knows

  pub value_int : (column : ℕ) (s : Value) → values.Is s → KnowsSumAt callable names 4 s → IsInt ss scope (value_at callable names line column s)
  value_int column s is knows = argument_int 5 column s is knows

  pub values_int : (column : ℕ) (vs : List Value) → AllByRecursion values.Is vs → AllByRecursion (KnowsSumAt callable names 4) vs → AreInts ss scope (list_exprs values (value_at callable names line) column vs)
  values_int column vs is knows = list_ints values (value_at callable names line) ss scope (KnowsSumAt callable names 4) value_int column vs is knows

  compared_well : (place : Place) (relation : Relation) (left right : Expr) (y z : Option ℤ) → IsInt ss scope left → IsInt ss scope right → IsCondition ss scope (compared_by place relation left right y z)
  compared_well place relation left right (Some y) (Some z) a b = tt
  compared_well place Less left right (Some y) None a b = (tt, (a, b))
  compared_well place Same left right (Some y) None a b = (tt, (a, b))
  compared_well place Less left right None z a b = (tt, (a, b))
  compared_well place Same left right None z a b = (tt, (a, b))

  pub condition_well : (column : ℕ) (left : Value) (relation : Relation) (right : Value) → values.Is left → values.Is right → KnowsSumAt callable names 4 left → KnowsSumAt callable names 4 right →
      IsCondition ss scope (condition_at callable names line column left relation right)
  condition_well column left relation right is also knows known =
      let a : Expr = value_at callable names line column left in
      let b : Expr = value_at callable names line (column + length (values.spelling left) + length (relation_spelling relation)) right in
      compared_well (at line (column + length (values.spelling left) + 1)) relation a b (constant_of a) (constant_of b)
      (value_int column left is knows) (value_int (column + length (values.spelling left) + length (relation_spelling relation)) right also known)
