-- The integers and truth values of expressions that hold no call and no check.
use Rattle.std.proofs.Common.{◌≡◌, ℕ, ◌+◌, ◌*◌, ◌%◌, ◌^◌, ◌<◌, ◌≤◌, inl, Bool, true, false, [], ◌∷◌, map, arith, ap, ◌∙◌, sym, subst, refl, lit<, lit≤}
use Rattle.std.specs.Prelude.{ℤ, pos, ◌+ℤ◌, ◌-ℤ◌, ◌*ℤ◌, Option, Some, None, slice_get, ◌==◌, ◌||◌, not, int_lt, int_div, int_rem}
use Rattle.std.specs.Ordering.{int_eq}
use Rattle.std.specs.Int.{w64, cast_signed}
use Rattle.std.proofs.lemmas.List.{length-map}
use Rattle.odc_text.specs.declared.place.Place.{Place}
use Rattle.rv_table.specs.Bytes.{run}
use Rattle.rv_table.specs.Words.{plus, minus, quotient, remainder, flag}
use Rattle.odc_program.specs.declared.ops.Constant.TheVariants as con
use Rattle.odc_program.specs.declared.ops.UnaryOp.TheVariants as un
use Rattle.odc_program.specs.declared.ops.BinaryOp.{BinaryOp}
use Rattle.odc_program.specs.declared.ops.BinaryOp.TheVariants as op
use Rattle.odc_program.specs.States.Bytes.{Block, to, Value, bytes_of, residue, int_bytes, int_of, truth_bytes}
use Rattle.odc_program.specs.States.Memory.{load}
use Rattle.odc_program.specs.States.Run.{Res, ok, stop, then_by, pure}
use Rattle.odc_program.specs.States.State.{State, Leave, Do, known, read_at, Calls, Context, Base, is}
use Rattle.odc_program.specs.Kinds.Places.{value_in, whole_by, as_read}
use Rattle.odc_program.specs.Kinds.Operators.{unary_value, calculate, says, operate, by_shape, wholes_by}
use Rattle.odc_program.specs.Kinds.Expressions.{value_of}
use Rattle.odc_program.specs.Trees.Tree.{Expr, expr, Kind, const, local, unary, binary, ty}
use Rattle.odc_program.specs.Trees.Program.{Shape, whole, truth, Local}
use Rattle.odc_core.specs.declared.tree.BinaryOp.TheVariants.{Add, Subtract, Multiply, Divide, Remainder}
use Rattle.odc_core.specs.declared.tree.Comparison.TheVariants.{Equal, Different, Less}
use Rattle.odc_core.specs.declared.tree.BinaryOp.{BinaryOp as CoreOp}
use Rattle.odc_core.specs.Tree.{Expr as CoreExpr, const as word, binary as operated, compare}
use Rattle.odc_core.specs.Words.{number_of as word_of, binary_word}
use Rattle.odc_carried.specs.Carried.{type_in, is_int, names_int, is_int_local, refused_int, refused_truth, unless, and_then, is_loud, is_loud_kind, is_divisor, checks, refused_kind, refused_test, truth_binary, is_plain, is_quotient, is_comparison, is_connective, is_bool}
use Rattle.odc_carried.specs.Code.{Way, nested, way_by, value_by, value, value_kind, variable_of, held, negated}
use Rattle.odc_carried.specs.Places.{place_of, bytes_at}
use Rattle.odc_carried.specs.Tied.{Tied, size_of, Site, o, env}
use Rattle.odc_carried.proofs.Runs.{Face}
use Rattle.odc_carried.proofs.Sims.{then_then}
use Rattle.odc_carried.proofs.Values.{Val, AreBytes, eight_bytes, val_int, val_word, residue_small, added, subtracted, multiplied, divided_word, rest_word, behind_is, not_twice, quotient_small, remainder_small, equal_test}
use Rattle.odc_carried.proofs.Ties.{Loaded, loaded_from, local_found, block, AreSane}
use Rattle.odc_carried.proofs.Frame.{WordAt, local_variable}
use Rattle.odc_carried.proofs.Quiet.{Quiet, quiet_const, quiet_held, quiet_binary, quiet_compare, quiet_not, quiet_less, quiet_as, flag_small, costing, worded, some_divisor, IsDivisor, IsTruth, Evaluated, evaluated_as, evaluated_then, evaluated_known, IntType, BoolType, int_type, bool_type, or_false}

-- what a refusal that isn't there tells
pub passed : (b : Bool) (at : Place) (r : Option Place) → unless b at r ≡ None → (b ≡ true) × (r ≡ None)
passed true at r e = (refl, e)
passed false at r e = cc

pub passed_both : (p q : Option Place) → and_then p q ≡ None → (p ≡ None) × (q ≡ None)
passed_both (Some at) q e = cc
passed_both None q e = (refl, e)

pub assoc3 : {A B C D : Type 0} (r : Res Leave State A) (F : A → Do B) (G : B → Do C) (H : C → Do D) → then_by (then_by (then_by r F) G) H ≡ then_by r (λ v. (λ t. then_by (then_by (F v t) G) H))
assoc3 (ok v t) F G H = refl
assoc3 (stop e t) F G H = refl

pub sane_bytes : (entries : ℕ → ℕ) (v : Value) → AreSane entries v → AreBytes (bytes_at entries v)
sane_bytes entries [] h = tt
sane_bytes entries (x ∷ v) h = (h.0, sane_bytes entries v h.1)

-- a condition that isn't connected of others compares integers
pub compared_kind : (o1 : BinaryOp) (at : Place) (p q : Option Place) → is_connective o1 ≡ false → truth_binary (is_comparison o1) (is_connective o1) at p q ≡ None → (is_comparison o1 ≡ true) × (p ≡ None)
compared_kind o1 at p q e r = by (is_comparison o1) (is_connective o1) e r
  where
    by : (a b : Bool) → b ≡ false → truth_binary a b at p q ≡ None → (a ≡ true) × (p ≡ None)
    by true b f g = (refl, g)
    by false true f g = cc
    by false false f g = cc

module _ (S : Site) (c : Context) (s : State) (h : Face) where
  -- a value as it is read
  pub int_read : (t : ℕ) (at : Place) (v : Value) (u : State) → IntType S.tables t → value_in (env S c) at t (is v) u ≡ ok v u
  int_read t at v u i = ap (λ (k : Shape). as_read at k v u) i.shape

  pub truth_read : (t : ℕ) (at : Place) (b : Bool) (u : State) → BoolType S.tables t → value_in (env S c) at t (is (truth_bytes b)) u ≡ ok (truth_bytes b) u
  truth_read t at b u i = ap (λ (k : Shape). as_read at k (truth_bytes b) u) i.shape ∙ by b
    where
      by : (b : Bool) → as_read at truth (truth_bytes b) u ≡ ok (truth_bytes b) u
      by true = refl
      by false = refl

  module _ (Is2 Is3 : Value → ℕ → Type 0) (x y code : CoreExpr) (q k : ℕ) (fits : q ≤ 2 * (1 + k)) (calc : ℤ → ℤ → Do Value) (res : ℕ → ℕ → Value) (fw : ℕ → ℕ → ℕ)
      (val2 : (v : Value) (w : ℕ) → Is2 v w → Val S.entries 8 v w)
      (law : (a b : ℕ) (v : Value) → a < 2 ^ 64 → b < 2 ^ 64 → Is2 v b → (u : State) → calc (cast_signed w64 a) (cast_signed w64 b) u ≡ ok (res a b) (costing u (u.cost + k)))
      (good : (a b : ℕ) → a < 2 ^ 64 → b < 2 ^ 64 → Is3 (res a b) (fw a b))
      (quiet : (a b L M : ℕ) (v : Value) → a < 2 ^ 64 → b < 2 ^ 64 → Is2 v b → Quiet S x h a L → Quiet S y h b M → Quiet S code h (fw a b) (L + M + q)) where
    -- an operation on two integers, behind the tick of its node
    pub operation : (at : Place) (t : ℕ) (read : (v : Value) (w : ℕ) (u : State) → Is3 v w → value_in (env S c) at t (is v) u ≡ ok v u) (opr : Value → Value → Do Value)
        (oper : (v w : Value) (u : State) → opr v w u ≡ then_by (known at (int_of true 8 v) u) (λ y. (λ u. then_by (known at (int_of true 8 w) u) (λ z. calc y z)))) (r1 : Res Leave State Value) (r2 : Do Value) →
        Evaluated S (Val S.entries 8) x (costing s (s.cost + 1)) h r1 → ((cost : ℕ) → Evaluated S Is2 y (costing s cost) h (r2 (costing s cost))) →
        Evaluated S Is3 code s h (then_by (then_by (then_by r1 (λ v. (λ t1. then_by (r2 t1) (λ w. opr v w)))) (λ v. pure (is v))) (value_in (env S c) at t))
    operation at t read opr oper r1 r2 first second =
        evaluated_as S Is3 code s h _ _ (assoc3 r1 (λ v. (λ t1. then_by (r2 t1) (λ w. opr v w))) (λ v. pure (is v)) (value_in (env S c) at t))
        (evaluated_then S (Val S.entries 8) Is3 x code s (costing s (s.cost + 1)) h r1 (λ v. (λ t1. then_by (then_by (then_by (r2 t1) (λ w. opr v w)) (λ v. pure (is v))) (value_in (env S c) at t))) refl first
        (λ v a cost paid enough isv qx.
        evaluated_as S Is3 code s h _ _ (assoc3 (r2 (costing s cost)) (λ w. opr v w) (λ v. pure (is v)) (value_in (env S c) at t))
        (evaluated_then S Is2 Is3 y code s (costing s cost) h (r2 (costing s cost)) (λ w. (λ t'. then_by (then_by (opr v w t') (λ v. pure (is v))) (value_in (env S c) at t))) refl (second cost)
        (λ w b cost2 paid2 enough2 isw qy.
        let u : State = costing s cost2 in
        let G : Value → Do Base = λ v. pure (is v) in
        let H : Base → Do Value = value_in (env S c) at t in
        evaluated_as S Is3 code s h _ _ (ap (λ (q : Res Leave State Value). then_by (then_by q G) H) (oper v w u) ∙ assoc3 (known at (int_of true 8 v) u) (λ y. (λ u. then_by (known at (int_of true 8 w) u) (λ z. calc y z))) G H)
        (evaluated_known S Is3 code s h cost2 at (int_of true 8 v) (λ y. (λ u. then_by (then_by (then_by (known at (int_of true 8 w) u) (λ z. calc y z)) G) H))
        (λ yz ey.
        evaluated_as S Is3 code s h _ _ (assoc3 (known at (int_of true 8 w) u) (λ z. calc yz z) G H)
        (evaluated_known S Is3 code s h cost2 at (int_of true 8 w) (λ z. (λ u. then_by (then_by (calc yz z u) G) H))
        (λ zz ez.
        let left : yz ≡ cast_signed w64 a = val_int S.entries v a yz isv ey in
        let right : zz ≡ cast_signed w64 b = val_int S.entries w b zz (val2 w b isw) ez in
        let done : Is3 (res a b) (fw a b) = good a b isv.small (val2 w b isw).small in
        inl (record {
          value = res a b;
          word = fw a b;
          cost = cost2 + k;
          paid = 1 + paid + paid2 + k;
          is =
              ap (λ (q : ℤ). then_by (then_by (calc q zz u) G) H) left
              ∙ ap (λ (q : ℤ). then_by (then_by (calc (cast_signed w64 a) q u) G) H) right
              ∙ ap (λ (q : Res Leave State Value). then_by (then_by q G) H) (law a b w isv.small (val2 w b isw).small isw u)
              ∙ read (res a b) (fw a b) (costing u (u.cost + k)) done;
          enough = omega (arith, enough, enough2);
          some = omega arith;
          holds = done;
          quiet = quiet_less S code h (fw a b) (2 * paid + 2 * paid2 + q) (2 * (1 + paid + paid2 + k)) (omega arith) (quiet a b (2 * paid) (2 * paid2) w isv.small (val2 w b isw).small isw qx qy);
        })))))))))

-- ---- operators
module _ (S : Site) (c : Context) where
  -- two integers of this type
  pub shaped : (o1 : BinaryOp) (at : Place) (t : ℕ) → IntType S.tables t → (v w : Value) (u : State) →
      by_shape (env S c) at o1 (type_in S.tables t).size (type_in S.tables t).shape v w u ≡ then_by (known at (int_of true 8 v) u) (λ y. (λ u. then_by (known at (int_of true 8 w) u) (λ z. calculate at o1 8 y z)))
  shaped o1 at t i v w u =
      ap (λ (k : Shape). by_shape (env S c) at o1 (type_in S.tables t).size k v w u) i.shape
      ∙ ap (λ (b : Bool). wholes_by at o1 (type_in S.tables t).size (int_of b (type_in S.tables t).size v) (int_of b (type_in S.tables t).size w) u) i.signed
      ∙ ap (λ (n : ℕ). wholes_by at o1 n (int_of true n v) (int_of true n w) u) i.size

  -- a constant
  pub const_eval : (calls : Calls) (Is : Value → ℕ → Type 0) (t : ℕ) (at : Place) (z : ℤ) (s : State) (h : Face) → IntType S.tables t → Is (bytes_of 8 (residue (2 ^ 64) z)) (residue (2 ^ 64) z) →
      Evaluated S Is (word (residue (2 ^ 64) z)) s h (value_of calls (env S c) (expr t at (const (con.Int z))) s)
  const_eval calls Is t at z s h i holds = inl (record {
    value = bytes_of 8 (residue (2 ^ 64) z);
    word = residue (2 ^ 64) z;
    cost = s.cost + 1;
    paid = 1;
    is = ap (λ (n : ℕ). value_in (env S c) at t (is (int_bytes n z)) (costing s (s.cost + 1))) i.size ∙ int_read S c s h t at (int_bytes 8 z) (costing s (s.cost + 1)) i;
    enough = omega arith;
    some = omega arith;
    holds = holds;
    quiet = quiet_less S (word (residue (2 ^ 64) z)) h (residue (2 ^ 64) z) 1 2 (lit≤ tt) (quiet_const S (residue (2 ^ 64) z) h (residue_small z));
  })

  -- a variable
  pub local_eval : (calls : Calls) (t : ℕ) (at : Place) (x : ℕ) (s : State) (h : Face) → IntType S.tables t → names_int S.tables S.proc x ≡ true → Tied S.entries s.memory h.memory →
      Evaluated S (Val S.entries 8) (held x) s h (value_of calls (env S c) (expr t at (local x)) s)
  local_eval calls t at x s h i names tied = by (slice_get S.proc.locals x) refl names
    where
      by : (l : Option Local) → slice_get S.proc.locals x ≡ l → is_int_local S.tables l ≡ true → Evaluated S (Val S.entries 8) (held x) s h (value_of calls (env S c) (expr t at (local x)) s)
      by None e f = cc
      by (Some l) e f =
          let b : Block = block S x in
          let u : State = costing s (s.cost + 1 + 1) in
          let placed : place_of b ≡ S.low + l.place = ap (λ (k : Local). S.low + k.place) (local_found S.proc.locals x l (record { ty = 0; place = 0 }) e) in
          let size : size_of S.tables l ≡ 8 = (int_type S.tables l.ty f).size in
          evaluated_as S (Val S.entries 8) (held x) s h _ _
          (ap (λ (n : ℕ). then_by (read_at at (to b 0) n (costing s (s.cost + 1))) (as_read at (type_in S.tables t).shape)) i.size
          ∙ ap (λ (k : Shape). then_by (known at (load s.memory b 0 8) u) (as_read at k)) i.shape)
          (evaluated_known S (Val S.entries 8) (held x) s h (s.cost + 1 + 1) at (load s.memory b 0 8) (as_read at (whole i.width))
          (λ v loaded.
          let l8 : Loaded S.entries h.memory b (s.memory.size b) 8 v = loaded_from S.entries s.memory h.memory b 7 v tt tied loaded in
          let bytes = eight_bytes (bytes_at S.entries v) (simp length-map l8.long) (sane_bytes S.entries v l8.sane) in
          let w : ℕ = word_of (bytes_at S.entries v) in
          let there : WordAt h.memory (S.low + l.place) w = ap (λ (a : ℕ). run h.memory a 8) (sym placed) ∙ l8.there ∙ ap (map Some) bytes.0 in
          inl (record {
            value = v;
            word = w;
            cost = s.cost + 1 + 1;
            paid = 2;
            is = refl;
            enough = omega arith;
            some = omega arith;
            holds = record { long = l8.long; is = bytes.0; small = bytes.1 };
            quiet = quiet_less S (held x) h w 3 (2 * 2) (lit≤ tt) (quiet_held S x (variable_of S.tables l) w h (local_variable S x l e) (omega (arith, size)) bytes.1 there);
          })))

  not_zero : (b : Bool) → not b ≡ true → b ≡ false
  not_zero true e = cc
  not_zero false e = refl

  pub not_not : (b : Bool) → not b ≡ false → b ≡ true
  not_not true e = refl
  not_not false e = cc

  pub divisor_eval : (calls : Calls) (d : ℕ) (f : Expr) (s : State) (h : Face) → refused_int S.tables S.proc f ≡ None → is_divisor f ≡ true →
      Evaluated S (IsDivisor S) (value (o S) d f) s h (value_of calls (env S c) f s)
  divisor_eval calls d (expr t at (const (con.Int z))) s h r e =
      const_eval calls (IsDivisor S) t at z s h (int_type S.tables t (passed (is_int S.tables t) at None r).0) (record { val = val_word S.entries (residue (2 ^ 64) z) (residue_small z); some = not_zero (residue (2 ^ 64) z == 0) e })
  divisor_eval calls d _ s h r e = cc

  -- a sign before an integer
  plus_eval : (x : CoreExpr) (t : ℕ) (at : Place) (s : State) (h : Face) (r : Res Leave State Value) → IntType S.tables t → Evaluated S (Val S.entries 8) x (costing s (s.cost + 1)) h r →
      Evaluated S (Val S.entries 8) x s h (then_by (then_by r (unary_value (env S c) at t un.Plus)) (value_in (env S c) at t))
  plus_eval x t at s h r i first =
      evaluated_as S (Val S.entries 8) x s h _ _ (then_then S.entries r (unary_value (env S c) at t un.Plus) (value_in (env S c) at t))
      (evaluated_then S (Val S.entries 8) (Val S.entries 8) x x s (costing s (s.cost + 1)) h r (λ v. (λ t1. then_by (unary_value (env S c) at t un.Plus v t1) (value_in (env S c) at t))) refl first
      (λ v w cost paid enough holds q. inl (record {
        value = v;
        word = w;
        cost = cost;
        paid = 1 + paid;
        is = int_read S c s h t at v (costing s cost) i;
        enough = omega (arith, enough);
        some = omega arith;
        holds = holds;
        quiet = quiet_less S x h w (2 * paid) (2 * (1 + paid)) (omega arith) q;
      })))

  negate_eval : (x : CoreExpr) (t : ℕ) (at : Place) (s : State) (h : Face) (r : Res Leave State Value) → IntType S.tables t → Evaluated S (Val S.entries 8) x (costing s (s.cost + 1)) h r →
      Evaluated S (Val S.entries 8) (operated Subtract (word 0) x) s h (then_by (then_by r (unary_value (env S c) at t un.Negate)) (value_in (env S c) at t))
  negate_eval x t at s h r i first =
      let code : CoreExpr = operated Subtract (word 0) x in
      let H : Base → Do Value = value_in (env S c) at t in
      let G : ℤ → Do Base = λ z. pure (is (int_bytes (type_in S.tables t).size (pos 0 -ℤ z))) in
      evaluated_as S (Val S.entries 8) code s h _ _ (then_then S.entries r (unary_value (env S c) at t un.Negate) H)
      (evaluated_then S (Val S.entries 8) (Val S.entries 8) x code s (costing s (s.cost + 1)) h r (λ v. (λ t1. then_by (unary_value (env S c) at t un.Negate v t1) H)) refl first
      (λ v w cost paid enough holds q.
      let u : State = costing s cost in
      evaluated_as S (Val S.entries 8) code s h _ _
      (ap (λ (k : Shape). then_by (then_by (whole_by at (type_in S.tables t).size k v u) G) H) i.shape
      ∙ ap (λ (b : Bool). then_by (then_by (known at (int_of b (type_in S.tables t).size v) u) G) H) i.signed
      ∙ ap (λ (n : ℕ). then_by (then_by (known at (int_of true n v) u) G) H) i.size
      ∙ then_then S.entries (known at (int_of true 8 v) u) G H)
      (evaluated_known S (Val S.entries 8) code s h cost at (int_of true 8 v) (λ z. (λ t1. then_by (G z t1) H))
      (λ z ez.
      let same : z ≡ cast_signed w64 w = val_int S.entries v w z holds ez in
      let small : minus 0 w < 2 ^ 64 = omega arith in
      let law : residue (2 ^ 64) (pos 0 -ℤ cast_signed w64 w) ≡ minus 0 w = subtracted 0 w (lit< tt) holds.small in
      inl (record {
        value = bytes_of 8 (minus 0 w);
        word = minus 0 w;
        cost = cost;
        paid = 1 + paid;
        is =
            ap (λ (n : ℕ). H (is (int_bytes n (pos 0 -ℤ z))) u) i.size
            ∙ ap (λ (y : ℤ). H (is (int_bytes 8 (pos 0 -ℤ y))) u) same
            ∙ ap (λ (n : ℕ). H (is (bytes_of 8 n)) u) law
            ∙ int_read S c s h t at (bytes_of 8 (minus 0 w)) u i;
        enough = omega (arith, enough);
        some = omega arith;
        holds = val_word S.entries (minus 0 w) small;
        quiet = quiet_less S code h (minus 0 w) (1 + 2 * paid + 1) (2 * (1 + paid)) (omega arith) (quiet_binary S Subtract (word 0) x h 0 w 1 (2 * paid) small (quiet_const S 0 h (lit< tt)) q);
      })))))

  -- an operator that core code has
  plain_eval : (o1 : BinaryOp) (x y : CoreExpr) (core : CoreOp) (fw : ℕ → ℕ → ℕ) (Is2 : Value → ℕ → Type 0) (at : Place) (t t1 : ℕ) (s : State) (h : Face) (r1 : Res Leave State Value) (r2 : Do Value) → IntType S.tables t → IntType S.tables t1 →
      ((v : Value) (w : ℕ) → Is2 v w → Val S.entries 8 v w) →
      ((a b : ℕ) (v : Value) → a < 2 ^ 64 → b < 2 ^ 64 → Is2 v b → (u : State) → calculate at o1 8 (cast_signed w64 a) (cast_signed w64 b) u ≡ ok (bytes_of 8 (fw a b)) (costing u (u.cost + 0))) →
      ((a b : ℕ) → a < 2 ^ 64 → fw a b < 2 ^ 64) → ((a b : ℕ) → binary_word core a b ≡ fw a b) → (opr : Value → Value → Do Value) →
      ((v w : Value) (u : State) → opr v w u ≡ by_shape (env S c) at o1 (type_in S.tables t1).size (type_in S.tables t1).shape v w u) →
      Evaluated S (Val S.entries 8) x (costing s (s.cost + 1)) h r1 → ((cost : ℕ) → Evaluated S Is2 y (costing s cost) h (r2 (costing s cost))) →
      Evaluated S (Val S.entries 8) (operated core x y) s h (then_by (then_by (then_by r1 (λ v. (λ t1. then_by (r2 t1) (λ w. opr v w)))) (λ v. pure (is v))) (value_in (env S c) at t))
  plain_eval o1 x y core fw Is2 at t t1 s h r1 r2 i i1 val2 law small same opr oper first second =
      operation S c s h Is2 (Val S.entries 8) x y (operated core x y) 1 0 (lit≤ tt) (calculate at o1 8) (λ a b. bytes_of 8 (fw a b)) fw val2 law (λ a b p q. val_word S.entries (fw a b) (small a b p))
      (λ a b L M v p q isv qx qy.
      let P : ℕ → Type 0 = λ k. k < 2 ^ 64 in
      quiet_as S (operated core x y) h (binary_word core a b) (fw a b) (L + M + 1) (same a b) (quiet_binary S core x y h a b L M (subst P (sym (same a b)) (small a b p)) qx qy))
      at t (λ v w u k. int_read S c s h t at v u i) opr (λ v w u. oper v w u ∙ shaped o1 at t1 i1 v w u) r1 r2 first second

  -- where neither operand waits
  way_nested : (X : Way → Type 0) (l k : Bool) → l ≡ false → k ≡ false → X nested → X (way_by l k)
  way_nested X l k e f x = let P : Bool → Type 0 = λ b. X (way_by l b) in let Q : Bool → Type 0 = λ b. X (way_by b false) in subst P (sym f) (subst Q (sym e) x)

  pub int_of_expr : (t : ℕ) (at : Place) (k : Kind) → refused_int S.tables S.proc (expr t at k) ≡ None → IntType S.tables t
  int_of_expr t at k r = int_type S.tables t (passed (is_int S.tables t) at (refused_kind S.tables S.proc at k) r).0

  pub type_of : (e : Expr) → refused_int S.tables S.proc e ≡ None → IntType S.tables (ty e)
  type_of (expr t at k) r = int_of_expr t at k r

  module _ (calls : Calls) where
    quiet_binary_kind : (o1 : BinaryOp) (t : ℕ) (at : Place) (e f : Expr) (d : ℕ) (s : State) (h : Face) → IntType S.tables t → (is_plain o1 || is_quotient o1) ≡ true → refused_int S.tables S.proc e ≡ None → refused_int S.tables S.proc f ≡ None → checks o1 f ≡ false → is_loud f ≡ false →
        Evaluated S (Val S.entries 8) (value (o S) d e) (costing s (s.cost + 1)) h (value_of calls (env S c) e (costing s (s.cost + 1))) →
        ((cost : ℕ) → Evaluated S (Val S.entries 8) (value (o S) (d + 1) f) (costing s cost) h (value_of calls (env S c) f (costing s cost))) →
        Evaluated S (Val S.entries 8) (value_kind (o S) d (binary o1 e f)) s h (value_of calls (env S c) (expr t at (binary o1 e f)) s)
    quiet_binary_kind op.Add t at e f d s h i kind re rf check quiet first second =
        let r2 : Do Value = value_of calls (env S c) f in
        way_nested (λ w. Evaluated S (Val S.entries 8) (value_by (o S) d op.Add w (value (o S) d e) (value (o S) (d + 1) f)) s h (value_of calls (env S c) (expr t at (binary op.Add e f)) s)) (is_loud f) (checks op.Add f) quiet check
        (plain_eval op.Add (value (o S) d e) (value (o S) (d + 1) f) Add plus (Val S.entries 8) at t (ty e) s h (value_of calls (env S c) e (costing s (s.cost + 1))) r2 i (type_of e re) (λ v w k. k)
        (λ a b v p q k u. worded u (residue (2 ^ 64) (cast_signed w64 a +ℤ cast_signed w64 b)) (plus a b) (added a b p q)) (λ a b p. omega arith) (λ a b. refl) (operate (env S c) at op.Add (ty e) (ty f)) (λ v w u. refl) first second)
    quiet_binary_kind op.Subtract t at e f d s h i kind re rf check quiet first second =
        let r2 : Do Value = value_of calls (env S c) f in
        way_nested (λ w. Evaluated S (Val S.entries 8) (value_by (o S) d op.Subtract w (value (o S) d e) (value (o S) (d + 1) f)) s h (value_of calls (env S c) (expr t at (binary op.Subtract e f)) s)) (is_loud f) (checks op.Subtract f) quiet check
        (plain_eval op.Subtract (value (o S) d e) (value (o S) (d + 1) f) Subtract minus (Val S.entries 8) at t (ty e) s h (value_of calls (env S c) e (costing s (s.cost + 1))) r2 i (type_of e re) (λ v w k. k)
        (λ a b v p q k u. worded u (residue (2 ^ 64) (cast_signed w64 a -ℤ cast_signed w64 b)) (minus a b) (subtracted a b p q)) (λ a b p. omega arith) (λ a b. refl) (operate (env S c) at op.Subtract (ty e) (ty f)) (λ v w u. refl) first second)
    quiet_binary_kind op.Multiply t at e f d s h i kind re rf check quiet first second =
        let r2 : Do Value = value_of calls (env S c) f in
        way_nested (λ w. Evaluated S (Val S.entries 8) (value_by (o S) d op.Multiply w (value (o S) d e) (value (o S) (d + 1) f)) s h (value_of calls (env S c) (expr t at (binary op.Multiply e f)) s)) (is_loud f) (checks op.Multiply f) quiet check
        (plain_eval op.Multiply (value (o S) d e) (value (o S) (d + 1) f) Multiply (λ a b. a * b % 2 ^ 64) (Val S.entries 8) at t (ty e) s h (value_of calls (env S c) e (costing s (s.cost + 1))) r2 i (type_of e re) (λ v w k. k)
        (λ a b v p q k u. worded u (residue (2 ^ 64) (cast_signed w64 a *ℤ cast_signed w64 b)) (a * b % 2 ^ 64) (multiplied a b p q)) (λ a b p. omega arith) (λ a b. refl) (operate (env S c) at op.Multiply (ty e) (ty f)) (λ v w u. refl) first second)
    quiet_binary_kind op.Divide t at e f d s h i kind re rf check quiet first second =
        let r2 : Do Value = value_of calls (env S c) f in
        way_nested (λ w. Evaluated S (Val S.entries 8) (value_by (o S) d op.Divide w (value (o S) d e) (value (o S) (d + 1) f)) s h (value_of calls (env S c) (expr t at (binary op.Divide e f)) s)) (is_loud f) (checks op.Divide f) quiet check
        (plain_eval op.Divide (value (o S) d e) (value (o S) (d + 1) f) Divide (quotient w64) (IsDivisor S) at t (ty e) s h (value_of calls (env S c) e (costing s (s.cost + 1))) r2 i (type_of e re) (λ v w k. k.val)
        (λ a b v p q k u. some_divisor at u (int_div (cast_signed w64 a) (cast_signed w64 b)) b q k.some ∙ worded u (residue (2 ^ 64) (int_div (cast_signed w64 a) (cast_signed w64 b))) (quotient w64 a b) (divided_word a b p k.some)) (λ a b p. quotient_small a b p) (λ a b. refl) (operate (env S c) at op.Divide (ty e) (ty f)) (λ v w u. refl) first (λ cost. divisor_eval calls (d + 1) f (costing s cost) h rf (not_not (is_divisor f) check)))
    quiet_binary_kind op.Remainder t at e f d s h i kind re rf check quiet first second =
        let r2 : Do Value = value_of calls (env S c) f in
        way_nested (λ w. Evaluated S (Val S.entries 8) (value_by (o S) d op.Remainder w (value (o S) d e) (value (o S) (d + 1) f)) s h (value_of calls (env S c) (expr t at (binary op.Remainder e f)) s)) (is_loud f) (checks op.Remainder f) quiet check
        (plain_eval op.Remainder (value (o S) d e) (value (o S) (d + 1) f) Remainder (remainder w64) (IsDivisor S) at t (ty e) s h (value_of calls (env S c) e (costing s (s.cost + 1))) r2 i (type_of e re) (λ v w k. k.val)
        (λ a b v p q k u. some_divisor at u (int_rem (cast_signed w64 a) (cast_signed w64 b)) b q k.some ∙ worded u (residue (2 ^ 64) (int_rem (cast_signed w64 a) (cast_signed w64 b))) (remainder w64 a b) (rest_word a b p k.some)) (λ a b p. remainder_small a b p) (λ a b. refl) (operate (env S c) at op.Remainder (ty e) (ty f)) (λ v w u. refl) first (λ cost. divisor_eval calls (d + 1) f (costing s cost) h rf (not_not (is_divisor f) check)))
    quiet_binary_kind o1 t at e f d s h i kind re rf check quiet first second = absurd (cc)

    mutual
      pub quiet_int : (e : Expr) (d : ℕ) (s : State) (h : Face) → refused_int S.tables S.proc e ≡ None → is_loud e ≡ false → Tied S.entries s.memory h.memory →
          Evaluated S (Val S.entries 8) (value (o S) d e) s h (value_of calls (env S c) e s)
      quiet_int (expr t at k) d s h r q tied = let p = passed (is_int S.tables t) at (refused_kind S.tables S.proc at k) r in quiet_kind t at k d s h (int_type S.tables t p.0) p.1 q tied

      quiet_kind : (t : ℕ) (at : Place) (k : Kind) (d : ℕ) (s : State) (h : Face) → IntType S.tables t → refused_kind S.tables S.proc at k ≡ None → is_loud_kind k ≡ false → Tied S.entries s.memory h.memory →
          Evaluated S (Val S.entries 8) (value_kind (o S) d k) s h (value_of calls (env S c) (expr t at k) s)
      quiet_kind t at (const (con.Int z)) d s h i r q tied = const_eval calls (Val S.entries 8) t at z s h i (val_word S.entries (residue (2 ^ 64) z) (residue_small z))
      quiet_kind t at (const (con.Bool v)) d s h i r q tied = absurd (cc)
      quiet_kind t at (const (con.Text n l)) d s h i r q tied = absurd (cc)
      quiet_kind t at (const con.Nil) d s h i r q tied = absurd (cc)
      quiet_kind t at (local x) d s h i r q tied = local_eval calls t at x s h i (passed (names_int S.tables S.proc x) at None r).0 tied
      quiet_kind t at (unary un.Plus e) d s h i r q tied = plus_eval (value (o S) d e) t at s h (value_of calls (env S c) e (costing s (s.cost + 1))) i (quiet_int e d (costing s (s.cost + 1)) h r q (record { byte = tied.byte; sane = tied.sane }))
      quiet_kind t at (unary un.Negate e) d s h i r q tied = negate_eval (value (o S) d e) t at s h (value_of calls (env S c) e (costing s (s.cost + 1))) i (quiet_int e d (costing s (s.cost + 1)) h r q (record { byte = tied.byte; sane = tied.sane }))
      quiet_kind t at (unary un.Complement e) d s h i r q tied = absurd (cc)
      quiet_kind t at (unary un.Not e) d s h i r q tied = absurd (cc)
      quiet_kind t at (binary o1 e f) d s h i r q tied =
          let p = passed (is_plain o1 || is_quotient o1) at (and_then (refused_int S.tables S.proc e) (refused_int S.tables S.proc f)) r in
          let both = passed_both (refused_int S.tables S.proc e) (refused_int S.tables S.proc f) p.1 in
          let loud = or_false (is_connective o1 || checks o1 f) (is_loud e || is_loud f) q in
          let parts = or_false (is_loud e) (is_loud f) loud.1 in
          quiet_binary_kind o1 t at e f d s h i p.0 both.0 both.1 (or_false (is_connective o1) (checks o1 f) loud.0).1 parts.1
          (quiet_int e d (costing s (s.cost + 1)) h both.0 parts.0 (record { byte = tied.byte; sane = tied.sane }))
          (λ cost. quiet_int f (d + 1) (costing s cost) h both.1 parts.1 (record { byte = tied.byte; sane = tied.sane }))
      quiet_kind t at k d s h i r q tied = absurd (cc)

  -- ---- truth values
  compare_eval : (o1 : BinaryOp) (x y code : CoreExpr) (q : ℕ) (fits : q ≤ 4) (fb : ℕ → ℕ → Bool) (at : Place) (t t1 : ℕ) (s : State) (h : Face) (r1 : Res Leave State Value) (r2 : Do Value) → BoolType S.tables t → IntType S.tables t1 →
      ((a b : ℕ) (u : State) → calculate at o1 8 (cast_signed w64 a) (cast_signed w64 b) u ≡ ok (truth_bytes (fb a b)) (costing u (u.cost + 1))) →
      ((a b L M : ℕ) → a < 2 ^ 64 → b < 2 ^ 64 → Quiet S x h a L → Quiet S y h b M → Quiet S code h (flag (fb a b)) (L + M + q)) → (opr : Value → Value → Do Value) →
      ((v w : Value) (u : State) → opr v w u ≡ by_shape (env S c) at o1 (type_in S.tables t1).size (type_in S.tables t1).shape v w u) →
      Evaluated S (Val S.entries 8) x (costing s (s.cost + 1)) h r1 → ((cost : ℕ) → Evaluated S (Val S.entries 8) y (costing s cost) h (r2 (costing s cost))) →
      Evaluated S IsTruth code s h (then_by (then_by (then_by r1 (λ v. (λ t1. then_by (r2 t1) (λ w. opr v w)))) (λ v. pure (is v))) (value_in (env S c) at t))
  compare_eval o1 x y code q fits fb at t t1 s h r1 r2 i i1 law quiet opr oper first second =
      operation S c s h (Val S.entries 8) IsTruth x y code q 1 fits (calculate at o1 8) (λ a b. truth_bytes (fb a b)) (λ a b. flag (fb a b)) (λ v w k. k) (λ a b v p q k u. law a b u) (λ a b p q. record { b = fb a b; value = refl; word = refl })
      (λ a b L M v p q k qx qy. quiet a b L M p q qx qy)
      at t (λ v w u k. ap (λ (y : Value). value_in (env S c) at t (is y) u) k.value ∙ truth_read S c s h t at k.b u i ∙ ap (λ (y : Value). let r : Res Leave State Value = ok y u in r) (sym k.value)) opr (λ v w u. oper v w u ∙ shaped o1 at t1 i1 v w u) r1 r2 first second

  -- what a comparison says of two words
  said : BinaryOp → ℕ → ℕ → Bool
  said o1 a b = says o1 (int_eq (cast_signed w64 a) (cast_signed w64 b)) (int_lt (cast_signed w64 a) (cast_signed w64 b))

  not_eval : (x : CoreExpr) (t : ℕ) (at : Place) (s : State) (h : Face) (r : Res Leave State Value) → BoolType S.tables t → Evaluated S IsTruth x (costing s (s.cost + 1)) h r →
      Evaluated S IsTruth (negated x) s h (then_by (then_by r (unary_value (env S c) at t un.Not)) (value_in (env S c) at t))
  not_eval x t at s h r i first =
      let H : Base → Do Value = value_in (env S c) at t in
      evaluated_as S IsTruth (negated x) s h _ _ (then_then S.entries r (unary_value (env S c) at t un.Not) H)
      (evaluated_then S IsTruth IsTruth x (negated x) s (costing s (s.cost + 1)) h r (λ v. (λ t1. then_by (unary_value (env S c) at t un.Not v t1) H)) refl first
      (λ v w cost paid enough holds q.
      let u : State = costing s cost in
      let qb : Quiet S x h (flag holds.b) (2 * paid) = quiet_as S x h w (flag holds.b) (2 * paid) holds.word q in
      inl (record {
        value = truth_bytes (not holds.b);
        word = flag (not holds.b);
        cost = cost;
        paid = 1 + paid;
        is = ap (λ (y : Value). then_by (unary_value (env S c) at t un.Not y u) H) holds.value ∙ by holds.b u ∙ truth_read S c s h t at (not holds.b) u i;
        enough = omega (arith, enough);
        some = omega arith;
        holds = record { b = not holds.b; value = refl; word = refl };
        quiet = quiet_less S (negated x) h (flag (not holds.b)) (2 * paid + 1 + 1) (2 * (1 + paid)) (omega arith) (quiet_not S x h (2 * paid) holds.b qb);
      })))
    where
      by : (b : Bool) (u : State) → then_by (unary_value (env S c) at t un.Not (truth_bytes b) u) (value_in (env S c) at t) ≡ value_in (env S c) at t (is (truth_bytes (not b))) u
      by true u = refl
      by false u = refl

  pub truth_constant_eval : (calls : Calls) (t : ℕ) (at : Place) (b : Bool) (s : State) (h : Face) → BoolType S.tables t → Evaluated S IsTruth (word (flag b)) s h (value_of calls (env S c) (expr t at (const (con.Bool b))) s)
  truth_constant_eval calls t at b s h i = inl (record {
    value = truth_bytes b;
    word = flag b;
    cost = s.cost + 1;
    paid = 1;
    is = truth_read S c s h t at b (costing s (s.cost + 1)) i;
    enough = omega arith;
    some = omega arith;
    holds = record { b = b; value = refl; word = refl };
    quiet = quiet_less S (word (flag b)) h (flag b) 1 2 (lit≤ tt) (quiet_const S (flag b) h (flag_small b));
  })

  module _ (calls : Calls) where
    quiet_compare_kind : (o1 : BinaryOp) (t : ℕ) (at : Place) (e f : Expr) (d : ℕ) (s : State) (h : Face) → BoolType S.tables t → is_comparison o1 ≡ true → refused_int S.tables S.proc e ≡ None → is_loud f ≡ false →
        Evaluated S (Val S.entries 8) (value (o S) d e) (costing s (s.cost + 1)) h (value_of calls (env S c) e (costing s (s.cost + 1))) →
        ((cost : ℕ) → Evaluated S (Val S.entries 8) (value (o S) (d + 1) f) (costing s cost) h (value_of calls (env S c) f (costing s cost))) →
        Evaluated S IsTruth (value_kind (o S) d (binary o1 e f)) s h (value_of calls (env S c) (expr t at (binary o1 e f)) s)
    unfolding said
    quiet_compare_kind op.Equal t at e f d s h i kind re quiet first second =
        let x : CoreExpr = value (o S) d e in
        let y : CoreExpr = value (o S) (d + 1) f in
        way_nested (λ w. Evaluated S IsTruth (value_by (o S) d op.Equal w x y) s h (value_of calls (env S c) (expr t at (binary op.Equal e f)) s)) (is_loud f) (checks op.Equal f) quiet refl
        (compare_eval op.Equal x y (compare Equal x y) 1 (lit≤ tt) (said op.Equal) at t (ty e) s h (value_of calls (env S c) e (costing s (s.cost + 1))) (value_of calls (env S c) f) i (type_of e re) (λ a b u. refl)
        (λ a b L M p q qx qy. quiet_compare S Equal x y h a b L M (said op.Equal a b) (ap flag (sym (equal_test a b p q))) qx qy) (operate (env S c) at op.Equal (ty e) (ty f)) (λ v w u. refl) first second)
    quiet_compare_kind op.Unequal t at e f d s h i kind re quiet first second =
        let x : CoreExpr = value (o S) d e in
        let y : CoreExpr = value (o S) (d + 1) f in
        way_nested (λ w. Evaluated S IsTruth (value_by (o S) d op.Unequal w x y) s h (value_of calls (env S c) (expr t at (binary op.Unequal e f)) s)) (is_loud f) (checks op.Unequal f) quiet refl
        (compare_eval op.Unequal x y (compare Different x y) 1 (lit≤ tt) (said op.Unequal) at t (ty e) s h (value_of calls (env S c) e (costing s (s.cost + 1))) (value_of calls (env S c) f) i (type_of e re) (λ a b u. refl)
        (λ a b L M p q qx qy. quiet_compare S Different x y h a b L M (said op.Unequal a b) (ap (λ (k : Bool). flag (not k)) (sym (equal_test a b p q))) qx qy) (operate (env S c) at op.Unequal (ty e) (ty f)) (λ v w u. refl) first second)
    quiet_compare_kind op.Less t at e f d s h i kind re quiet first second =
        let x : CoreExpr = value (o S) d e in
        let y : CoreExpr = value (o S) (d + 1) f in
        way_nested (λ w. Evaluated S IsTruth (value_by (o S) d op.Less w x y) s h (value_of calls (env S c) (expr t at (binary op.Less e f)) s)) (is_loud f) (checks op.Less f) quiet refl
        (compare_eval op.Less x y (compare Less x y) 1 (lit≤ tt) (said op.Less) at t (ty e) s h (value_of calls (env S c) e (costing s (s.cost + 1))) (value_of calls (env S c) f) i (type_of e re) (λ a b u. refl)
        (λ a b L M p q qx qy. quiet_compare S Less x y h a b L M (said op.Less a b) refl qx qy) (operate (env S c) at op.Less (ty e) (ty f)) (λ v w u. refl) first second)
    quiet_compare_kind op.Greater t at e f d s h i kind re quiet first second =
        let x : CoreExpr = value (o S) d e in
        let y : CoreExpr = value (o S) (d + 1) f in
        way_nested (λ w. Evaluated S IsTruth (value_by (o S) d op.Greater w x y) s h (value_of calls (env S c) (expr t at (binary op.Greater e f)) s)) (is_loud f) (checks op.Greater f) quiet refl
        (compare_eval op.Greater x y (compare Less y x) 1 (lit≤ tt) (said op.Greater) at t (ty e) s h (value_of calls (env S c) e (costing s (s.cost + 1))) (value_of calls (env S c) f) i (type_of e re) (λ a b u. refl)
        (λ a b L M p q qx qy. quiet_less S (compare Less y x) h (flag (said op.Greater a b)) (M + L + 1) (L + M + 1) (omega arith) (quiet_compare S Less y x h b a M L (said op.Greater a b) (ap flag (behind_is (cast_signed w64 a) (cast_signed w64 b))) qy qx))
        (operate (env S c) at op.Greater (ty e) (ty f)) (λ v w u. refl) first second)
    quiet_compare_kind op.AtMost t at e f d s h i kind re quiet first second =
        let x : CoreExpr = value (o S) d e in
        let y : CoreExpr = value (o S) (d + 1) f in
        way_nested (λ w. Evaluated S IsTruth (value_by (o S) d op.AtMost w x y) s h (value_of calls (env S c) (expr t at (binary op.AtMost e f)) s)) (is_loud f) (checks op.AtMost f) quiet refl
        (compare_eval op.AtMost x y (negated (compare Less y x)) 3 (lit≤ tt) (said op.AtMost) at t (ty e) s h (value_of calls (env S c) e (costing s (s.cost + 1))) (value_of calls (env S c) f) i (type_of e re) (λ a b u. refl)
        (λ a b L M p q qx qy.
        let behind : Bool = int_lt (cast_signed w64 b) (cast_signed w64 a) in
        quiet_less S (negated (compare Less y x)) h (flag (said op.AtMost a b)) (M + L + 1 + 1 + 1) (L + M + 3) (omega arith)
        (quiet_as S (negated (compare Less y x)) h (flag (not behind)) (flag (said op.AtMost a b)) (M + L + 1 + 1 + 1) (ap (λ (k : Bool). flag (not k)) (behind_is (cast_signed w64 a) (cast_signed w64 b)) ∙ ap flag (not_twice (said op.AtMost a b)))
        (quiet_not S (compare Less y x) h (M + L + 1) behind (quiet_compare S Less y x h b a M L behind refl qy qx))))
        (operate (env S c) at op.AtMost (ty e) (ty f)) (λ v w u. refl) first second)
    quiet_compare_kind op.AtLeast t at e f d s h i kind re quiet first second =
        let x : CoreExpr = value (o S) d e in
        let y : CoreExpr = value (o S) (d + 1) f in
        way_nested (λ w. Evaluated S IsTruth (value_by (o S) d op.AtLeast w x y) s h (value_of calls (env S c) (expr t at (binary op.AtLeast e f)) s)) (is_loud f) (checks op.AtLeast f) quiet refl
        (compare_eval op.AtLeast x y (negated (compare Less x y)) 3 (lit≤ tt) (said op.AtLeast) at t (ty e) s h (value_of calls (env S c) e (costing s (s.cost + 1))) (value_of calls (env S c) f) i (type_of e re) (λ a b u. refl)
        (λ a b L M p q qx qy. quiet_less S (negated (compare Less x y)) h (flag (said op.AtLeast a b)) (L + M + 1 + 1 + 1) (L + M + 3) (omega arith)
        (quiet_not S (compare Less x y) h (L + M + 1) (said op.Less a b) (quiet_compare S Less x y h a b L M (said op.Less a b) refl qx qy)))
        (operate (env S c) at op.AtLeast (ty e) (ty f)) (λ v w u. refl) first second)
    quiet_compare_kind o1 t at e f d s h i kind re quiet first second = absurd (cc)

    mutual
      pub quiet_truth : (e : Expr) (d : ℕ) (s : State) (h : Face) → refused_truth S.tables S.proc e ≡ None → is_loud e ≡ false → Tied S.entries s.memory h.memory →
          Evaluated S IsTruth (value (o S) d e) s h (value_of calls (env S c) e s)
      quiet_truth (expr t at k) d s h r q tied = let p = passed (is_bool S.tables t) at (refused_test S.tables S.proc at k) r in quiet_test t at k d s h (bool_type S.tables t p.0) p.1 q tied

      quiet_test : (t : ℕ) (at : Place) (k : Kind) (d : ℕ) (s : State) (h : Face) → BoolType S.tables t → refused_test S.tables S.proc at k ≡ None → is_loud_kind k ≡ false → Tied S.entries s.memory h.memory →
          Evaluated S IsTruth (value_kind (o S) d k) s h (value_of calls (env S c) (expr t at k) s)
      quiet_test t at (const (con.Bool true)) d s h i r q tied = truth_constant_eval calls t at true s h i
      quiet_test t at (const (con.Bool false)) d s h i r q tied = truth_constant_eval calls t at false s h i
      quiet_test t at (unary un.Not e) d s h i r q tied = not_eval (value (o S) d e) t at s h (value_of calls (env S c) e (costing s (s.cost + 1))) i (quiet_truth e d (costing s (s.cost + 1)) h r q (record { byte = tied.byte; sane = tied.sane }))
      quiet_test t at (binary o1 e f) d s h i r q tied =
          let loud = or_false (is_connective o1 || checks o1 f) (is_loud e || is_loud f) q in
          let parts = or_false (is_loud e) (is_loud f) loud.1 in
          let kind = compared_kind o1 at (and_then (refused_int S.tables S.proc e) (refused_int S.tables S.proc f)) (and_then (refused_truth S.tables S.proc e) (refused_truth S.tables S.proc f)) (or_false (is_connective o1) (checks o1 f) loud.0).0 r in
          let both = passed_both (refused_int S.tables S.proc e) (refused_int S.tables S.proc f) kind.1 in
          quiet_compare_kind o1 t at e f d s h i kind.0 both.0 parts.1
          (quiet_int calls e d (costing s (s.cost + 1)) h both.0 parts.0 (record { byte = tied.byte; sane = tied.sane }))
          (λ cost. quiet_int calls f (d + 1) (costing s cost) h both.1 parts.1 (record { byte = tied.byte; sane = tied.sane }))
      quiet_test t at k d s h i r q tied = absurd (cc)
