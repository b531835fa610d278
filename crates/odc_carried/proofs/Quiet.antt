-- Expressions that hold no call and no check: the source gives a value and changes nothing but its cost, or strays; and
-- the core expression gives the word of that value and changes nothing.
use Rattle.std.proofs.Common.{◌≡◌, ℕ, ◌+◌, ◌*◌, ◌^◌, ◌<◌, ◌≤◌, ◌⊎◌, inl, inr, Bool, true, false, arith, ap, ◌∙◌, sym, subst, refl, lit<, lit≤}
use Rattle.std.specs.Prelude.{ℤ, Option, Some, None, slice_get, ◌==◌, ◌&&◌, ◌||◌, not, if◌then◌else◌}
use Rattle.std.specs.Int.{w64, cast_signed}
use Rattle.std.proofs.lemmas.Bool.Decides.{nat_tests}
use Rattle.odc_text.specs.declared.place.Place.{Place}
use Rattle.std.proofs.Math.Nat.{add-zero}
use Rattle.odc_text.specs.declared.check.Check.TheVariants as check
use Rattle.odc_text.specs.Run.{strayed, checked}
use Rattle.rv_table.specs.Words.{flag}
use Rattle.odc_types.specs.declared.width.Width.{Width}
use Rattle.odc_types.specs.Widths.{is_signed}
use Rattle.odc_program.specs.States.Bytes.{Value, bytes_of, int_bytes, truth_bytes}
use Rattle.odc_program.specs.States.Run.{Res, ok, stop, then_by, pure}
use Rattle.odc_program.specs.States.State.{State, Leave, ends, Do, known, fail}
use Rattle.odc_program.specs.Kinds.Operators.{divided}
use Rattle.odc_program.specs.Trees.Program.{Shape, whole, truth, Tables}
use Rattle.odc_core.specs.declared.tree.BinaryOp.{BinaryOp as CoreOp}
use Rattle.odc_core.specs.declared.tree.Comparison.{Comparison}
use Rattle.odc_core.specs.declared.tree.Variable.{Variable}
use Rattle.odc_core.specs.Tree.{Expr as CoreExpr, const as word, binary as operated, compare}
use Rattle.odc_core.specs.Words.{binary_word, compare_words}
use Rattle.odc_core.specs.declared.tree.Comparison.TheVariants.{Equal}
use Rattle.odc_carried.specs.Code.{variables_of, held, negated}
use Rattle.odc_carried.specs.Carried.{type_in, is_int, is_bool, is_signed_shape, is_truth_shape}
use Rattle.odc_carried.proofs.Runs.{Face, Runs}
use Rattle.odc_carried.proofs.Values.{Val, zero_test}
use Rattle.odc_carried.specs.Tied.{Site, o}
use Rattle.odc_carried.proofs.Frame.{WordAt, ev, r_const, r_held, r_binary, r_compare}

-- ---- core expressions that change nothing
pub record Quiet (S : Site) (e : CoreExpr) (h : Face) (w limit : ℕ) : Type 0 where
  pub budget : ℕ
  pub cost : ℕ
  pub runs : (j : ℕ) → Runs j (ev S e) h budget cost w h
  pub cheap : cost ≤ limit
  pub small : w < 2 ^ 64

pub quiet_const : (S : Site) (w : ℕ) (h : Face) → w < 2 ^ 64 → Quiet S (word w) h w 1
quiet_const S w h small = record { budget = 1; cost = 1; runs = λ j. r_const S j w h; cheap = lit≤ tt; small = small }

pub quiet_held : (S : Site) (i : ℕ) (v : Variable) (w : ℕ) (h : Face) → slice_get (variables_of (o S)) i ≡ Some v → 8 ≤ v.size → w < 2 ^ 64 → WordAt h.memory (S.low + v.offset) w → Quiet S (held i) h w 3
quiet_held S i v w h found big small is = record { budget = 2; cost = 3; runs = λ j. r_held S j i v w h found big small is; cheap = lit≤ tt; small = small }

pub quiet_binary : (S : Site) (op : CoreOp) (x y : CoreExpr) (h : Face) (v w L M : ℕ) → binary_word op v w < 2 ^ 64 → Quiet S x h v L → Quiet S y h w M → Quiet S (operated op x y) h (binary_word op v w) (L + M + 1)
quiet_binary S op x y h v w L M small p q = record {
  budget = p.budget + q.budget + 1;
  cost = p.cost + q.cost + 1;
  runs = λ j. r_binary S j op x y (p.runs j) (q.runs j);
  cheap = omega (arith, p.cheap, q.cheap);
  small = small;
}

pub flag_small : (b : Bool) → flag b < 2 ^ 64
flag_small true = lit< tt
flag_small false = lit< tt

pub quiet_compare : (S : Site) (op : Comparison) (x y : CoreExpr) (h : Face) (v w L M : ℕ) (b : Bool) → compare_words op v w ≡ flag b → Quiet S x h v L → Quiet S y h w M → Quiet S (compare op x y) h (flag b) (L + M + 1)
quiet_compare S op x y h v w L M b e p q = record {
  budget = p.budget + q.budget + 1;
  cost = p.cost + q.cost + 1;
  runs = λ j. let P : ℕ → Type 0 = λ k. Runs j (ev S (compare op x y)) h (p.budget + q.budget + 1) (p.cost + q.cost + 1) k h in subst P e (r_compare S j op x y (p.runs j) (q.runs j));
  cheap = omega (arith, p.cheap, q.cheap);
  small = flag_small b;
}

flag_zero : (b : Bool) → (flag b == 0) ≡ not b
flag_zero true = refl
flag_zero false = refl

pub quiet_not : (S : Site) (x : CoreExpr) (h : Face) (L : ℕ) (b : Bool) → Quiet S x h (flag b) L → Quiet S (negated x) h (flag (not b)) (L + 1 + 1)
quiet_not S x h L b p = quiet_compare S Equal x (word 0) h (flag b) 0 L 1 (not b) (ap flag (flag_zero b)) p (quiet_const S 0 h (lit< tt))

pub quiet_less : (S : Site) (x : CoreExpr) (h : Face) (w L M : ℕ) → L ≤ M → Quiet S x h w L → Quiet S x h w M
quiet_less S x h w L M le p = record { budget = p.budget; cost = p.cost; runs = p.runs; cheap = omega (arith, p.cheap); small = p.small }

pub quiet_as : (S : Site) (x : CoreExpr) (h : Face) (w w' L : ℕ) → w ≡ w' → Quiet S x h w L → Quiet S x h w' L
quiet_as S x h w w' L e p = let P : ℕ → Type 0 = λ k. Quiet S x h k L in subst P e p

-- ---- what the source gives
abbrev pub costing : State → ℕ → State
costing s k = record s { cost = k }

-- a value and its word
pub record Gave (S : Site) (Is : Value → ℕ → Type 0) (code : CoreExpr) (s : State) (h : Face) (r : Res Leave State Value) : Type 0 where
  pub value : Value
  pub word : ℕ
  pub cost : ℕ
  pub paid : ℕ
  pub is : r ≡ ok value (costing s cost)
  pub enough : s.cost + paid ≤ cost
  pub some : 1 ≤ paid
  pub holds : Is value word
  pub quiet : Quiet S code h word (2 * paid)

pub record Went (s : State) (r : Res Leave State Value) : Type 0 where
  pub place : Place
  pub cost : ℕ
  pub is : r ≡ stop (ends (strayed place)) (costing s cost)

abbrev pub Evaluated : (S : Site) → (Value → ℕ → Type 0) → CoreExpr → State → Face → Res Leave State Value → Type 0
Evaluated S Is code s h r = Gave S Is code s h r ⊎ Went s r

pub evaluated_as : (S : Site) (Is : Value → ℕ → Type 0) (code : CoreExpr) (s : State) (h : Face) (r r' : Res Leave State Value) → r ≡ r' → Evaluated S Is code s h r' → Evaluated S Is code s h r
evaluated_as S Is code s h r r' e x = let P : Res Leave State Value → Type 0 = λ q. Evaluated S Is code s h q in subst P (sym e) x

-- one after the other
pub evaluated_then : (S : Site) (Is Is' : Value → ℕ → Type 0) (code code' : CoreExpr) (s0 s : State) (h : Face) (r : Res Leave State Value) (f : Value → Do Value) → (let u : State = costing s0 s.cost in u ≡ s) → Evaluated S Is code s h r →
    ((v : Value) (w cost paid : ℕ) → s.cost + paid ≤ cost → Is v w → Quiet S code h w (2 * paid) → Evaluated S Is' code' s0 h (f v (costing s0 cost))) → Evaluated S Is' code' s0 h (then_by r f)
evaluated_then S Is Is' code code' s0 s h r f same (inl x) k =
    evaluated_as S Is' code' s0 h (then_by r f) (f x.value (costing s0 x.cost))
    (ap (λ (q : Res Leave State Value). then_by q f) x.is ∙ ap (λ (u : State). f x.value (costing u x.cost)) (sym same))
    (k x.value x.word x.cost x.paid x.enough x.holds x.quiet)
evaluated_then S Is Is' code code' s0 s h r f same (inr x) k =
    inr (record { place = x.place; cost = x.cost; is = ap (λ (q : Res Leave State Value). then_by q f) x.is ∙ ap (λ (u : State). stop (ends (strayed x.place)) (costing u x.cost)) (sym same) })

-- a part that may be missing
pub evaluated_known : {A : Type 0} (S : Site) (Is : Value → ℕ → Type 0) (code : CoreExpr) (s : State) (h : Face) (cost : ℕ) (at : Place) (a : Option A) (f : A → Do Value) →
    ((x : A) → a ≡ Some x → Evaluated S Is code s h (f x (costing s cost))) → Evaluated S Is code s h (then_by (known at a (costing s cost)) f)
evaluated_known {A} S Is code s h cost at a f k = by a refl
  where
    by : (q : Option A) → a ≡ q → Evaluated S Is code s h (then_by (known at q (costing s cost)) f)
    by (Some x) e = k x e
    by None e = inr (record { place = at; cost = cost; is = refl })

-- ---- types
pub record IntType (tables : Tables) (t : ℕ) : Type 0 where
  pub size : (type_in tables t).size ≡ 8
  pub width : Width
  pub shape : (type_in tables t).shape ≡ whole width
  pub signed : is_signed width ≡ true

pub record BoolType (tables : Tables) (t : ℕ) : Type 0 where
  pub size : (type_in tables t).size ≡ 1
  pub shape : (type_in tables t).shape ≡ truth

signed_shape : (s : Shape) → is_signed_shape s ≡ true → (w : Width) × (s ≡ whole w) × (is_signed w ≡ true)
signed_shape (whole w) e = (w, refl, e)
signed_shape _ e = cc

truth_shape : (s : Shape) → is_truth_shape s ≡ true → s ≡ truth
truth_shape truth e = refl
truth_shape _ e = cc

pub and_true : (a b : Bool) → (a && b) ≡ true → (a ≡ true) × (b ≡ true)
and_true true b e = (refl, e)
and_true false b e = cc

pub or_false : (a b : Bool) → (a || b) ≡ false → (a ≡ false) × (b ≡ false)
or_false true b e = cc
or_false false b e = (refl, e)

pub int_type : (tables : Tables) (t : ℕ) → is_int tables t ≡ true → IntType tables t
int_type tables t e =
    let both = and_true ((type_in tables t).size == 8) (is_signed_shape (type_in tables t).shape) e in
    let test : ((type_in tables t).size == 8) ≡ true = both.0 in
    let shape = signed_shape (type_in tables t).shape both.1 in
    record { size = grind (arith, nat_tests); width = shape.0; shape = shape.1; signed = shape.2 }

pub bool_type : (tables : Tables) (t : ℕ) → is_bool tables t ≡ true → BoolType tables t
bool_type tables t e =
    let both = and_true ((type_in tables t).size == 1) (is_truth_shape (type_in tables t).shape) e in
    let test : ((type_in tables t).size == 1) ≡ true = both.0 in
    record { size = grind (arith, nat_tests); shape = truth_shape (type_in tables t).shape both.1 }

-- ---- results
-- an integer as a word
pub worded : (u : State) (n w : ℕ) → n ≡ w → (let r : Res Leave State Value = ok (bytes_of 8 n) u in r) ≡ ok (bytes_of 8 w) (costing u (u.cost + 0))
worded u n w e = ap (λ (k : ℕ). let r : Res Leave State Value = ok (bytes_of 8 k) u in r) e ∙ ap (λ (k : ℕ). let r : Res Leave State Value = ok (bytes_of 8 w) (costing u k) in r) (sym (add-zero u.cost))

pub some_divisor : (at : Place) (u : State) (z : ℤ) (b : ℕ) → b < 2 ^ 64 → (b == 0) ≡ false → divided at 8 z (cast_signed w64 b) u ≡ ok (int_bytes 8 z) u
some_divisor at u z b p e = ap (λ (t : Bool). (if t then fail check.Division at else pure (int_bytes 8 z)) u) (zero_test b p ∙ e)

pub zero_divisor : (at : Place) (u : State) (z : ℤ) (b : ℕ) → b < 2 ^ 64 → (b == 0) ≡ true → divided at 8 z (cast_signed w64 b) u ≡ stop (ends (checked check.Division at)) u
zero_divisor at u z b p e = ap (λ (t : Bool). (if t then fail check.Division at else pure (int_bytes 8 z)) u) (zero_test b p ∙ e)

-- a divisor that isn't zero
pub record IsDivisor (S : Site) (v : Value) (w : ℕ) : Type 0 where
  pub val : Val S.entries 8 v w
  pub some : (w == 0) ≡ false

-- a truth value
pub record IsTruth (v : Value) (w : ℕ) : Type 0 where
  pub b : Bool
  pub value : v ≡ truth_bytes b
  pub word : w ≡ flag b
