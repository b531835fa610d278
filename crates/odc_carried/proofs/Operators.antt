-- Operators on two integers, as data: what they cost and give on both sides.
use Rattle.std.proofs.Common.{◌≡◌, ℕ, ◌+◌, ◌*◌, ◌%◌, ◌^◌, ◌<◌, ◌≤◌, Bool, true, arith, ap, ◌∙◌, sym, refl, lit≤}
use Rattle.std.specs.Prelude.{ℤ, ◌+ℤ◌, ◌-ℤ◌, ◌*ℤ◌, ◌==◌, not, int_lt, int_div, int_rem}
use Rattle.std.specs.Ordering.{int_eq}
use Rattle.std.specs.Int.{w64, cast_signed}
use Rattle.odc_text.specs.declared.place.Place.{Place}
use Rattle.odc_text.specs.declared.check.Check.TheVariants as check
use Rattle.odc_text.specs.Run.{checked}
use Rattle.rv_table.specs.Words.{plus, minus, quotient, remainder, flag}
use Rattle.odc_program.specs.declared.ops.BinaryOp.{BinaryOp}
use Rattle.odc_program.specs.declared.ops.BinaryOp.TheVariants as op
use Rattle.odc_program.specs.States.Bytes.{Value, bytes_of, residue, truth_bytes}
use Rattle.odc_program.specs.States.Run.{ok, stop}
use Rattle.odc_program.specs.States.State.{State, ends}
use Rattle.odc_program.specs.Kinds.Operators.{calculate, says}
use Rattle.odc_core.specs.declared.tree.BinaryOp.TheVariants.{Add, Subtract, Multiply, Divide, Remainder}
use Rattle.odc_core.specs.declared.tree.Comparison.TheVariants.{Equal, Different, Less}
use Rattle.odc_core.specs.Tree.{Expr as CoreExpr, compare}
use Rattle.odc_carried.specs.Carried.{is_plain, is_quotient, is_comparison}
use Rattle.odc_carried.specs.Code.{binary_code, negated}
use Rattle.odc_carried.specs.Tied.{Site}
use Rattle.odc_carried.proofs.Runs.{Face}
use Rattle.odc_carried.proofs.Values.{Val, val_word, added, subtracted, multiplied, divided_word, rest_word, quotient_small, remainder_small, equal_test, behind_is, not_twice}
use Rattle.odc_carried.proofs.Quiet.{Quiet, quiet_binary, quiet_compare, quiet_not, quiet_less, quiet_as, costing, IsTruth, IsDivisor, worded, some_divisor, zero_divisor}

pub record Operator (S : Site) (Is2 Is3 : Value → ℕ → Type 0) (o1 : BinaryOp) (at : Place) : Type 0 where
  -- what it costs beside its node, and what its core code does beside the operands
  pub k : ℕ
  pub q : ℕ
  pub fits : q ≤ 4
  pub res : ℕ → ℕ → Value
  pub fw : ℕ → ℕ → ℕ
  pub val2 : (v : Value) (w : ℕ) → Is2 v w → Val S.entries 8 v w
  pub law : (a b : ℕ) (v : Value) → a < 2 ^ 64 → b < 2 ^ 64 → Is2 v b → (u : State) → calculate at o1 8 (cast_signed w64 a) (cast_signed w64 b) u ≡ ok (res a b) (costing u (u.cost + k))
  pub good : (a b : ℕ) → a < 2 ^ 64 → b < 2 ^ 64 → Is3 (res a b) (fw a b)
  pub quiet : (x y : CoreExpr) (h : Face) (a b L M : ℕ) → a < 2 ^ 64 → b < 2 ^ 64 → Quiet S x h a L → Quiet S y h b M → Quiet S (binary_code o1 x y) h (fw a b) (L + M + q)

module _ (S : Site) (at : Place) where
  pub plain_operator : (o1 : BinaryOp) → is_plain o1 ≡ true → Operator S (Val S.entries 8) (Val S.entries 8) o1 at
  plain_operator op.Add e = record {
    k = 0;
    q = 1;
    fits = lit≤ tt;
    res = λ a b. bytes_of 8 (plus a b);
    fw = plus;
    val2 = λ v w x. x;
    law = λ a b v p q x u. worded u (residue (2 ^ 64) (cast_signed w64 a +ℤ cast_signed w64 b)) (plus a b) (added a b p q);
    good = λ a b p q. val_word S.entries (plus a b) (omega arith);
    quiet = λ x y h a b L M p q qx qy. quiet_binary S Add x y h a b L M (omega arith) qx qy;
  }
  plain_operator op.Subtract e = record {
    k = 0;
    q = 1;
    fits = lit≤ tt;
    res = λ a b. bytes_of 8 (minus a b);
    fw = minus;
    val2 = λ v w x. x;
    law = λ a b v p q x u. worded u (residue (2 ^ 64) (cast_signed w64 a -ℤ cast_signed w64 b)) (minus a b) (subtracted a b p q);
    good = λ a b p q. val_word S.entries (minus a b) (omega arith);
    quiet = λ x y h a b L M p q qx qy. quiet_binary S Subtract x y h a b L M (omega arith) qx qy;
  }
  plain_operator op.Multiply e = record {
    k = 0;
    q = 1;
    fits = lit≤ tt;
    res = λ a b. bytes_of 8 (a * b % 2 ^ 64);
    fw = λ a b. a * b % 2 ^ 64;
    val2 = λ v w x. x;
    law = λ a b v p q x u. worded u (residue (2 ^ 64) (cast_signed w64 a *ℤ cast_signed w64 b)) (a * b % 2 ^ 64) (multiplied a b p q);
    good = λ a b p q. val_word S.entries (a * b % 2 ^ 64) (omega arith);
    quiet = λ x y h a b L M p q qx qy. quiet_binary S Multiply x y h a b L M (omega arith) qx qy;
  }
  plain_operator o1 e = absurd (cc)

  -- quotients, where the divisor isn't zero; and what they do where it is
  pub quotient_operator : (o1 : BinaryOp) → is_quotient o1 ≡ true → Operator S (IsDivisor S) (Val S.entries 8) o1 at
  quotient_operator op.Divide e = record {
    k = 0;
    q = 1;
    fits = lit≤ tt;
    res = λ a b. bytes_of 8 (quotient w64 a b);
    fw = quotient w64;
    val2 = λ v w x. x.val;
    law = λ a b v p q x u. some_divisor at u (int_div (cast_signed w64 a) (cast_signed w64 b)) b q x.some ∙ worded u (residue (2 ^ 64) (int_div (cast_signed w64 a) (cast_signed w64 b))) (quotient w64 a b) (divided_word a b p x.some);
    good = λ a b p q. val_word S.entries (quotient w64 a b) (quotient_small a b p);
    quiet = λ x y h a b L M p q qx qy. quiet_binary S Divide x y h a b L M (quotient_small a b p) qx qy;
  }
  quotient_operator op.Remainder e = record {
    k = 0;
    q = 1;
    fits = lit≤ tt;
    res = λ a b. bytes_of 8 (remainder w64 a b);
    fw = remainder w64;
    val2 = λ v w x. x.val;
    law = λ a b v p q x u. some_divisor at u (int_rem (cast_signed w64 a) (cast_signed w64 b)) b q x.some ∙ worded u (residue (2 ^ 64) (int_rem (cast_signed w64 a) (cast_signed w64 b))) (remainder w64 a b) (rest_word a b p x.some);
    good = λ a b p q. val_word S.entries (remainder w64 a b) (remainder_small a b p);
    quiet = λ x y h a b L M p q qx qy. quiet_binary S Remainder x y h a b L M (remainder_small a b p) qx qy;
  }
  quotient_operator o1 e = absurd (cc)

  pub stops_at_zero : (o1 : BinaryOp) → is_quotient o1 ≡ true → (y : ℤ) (b : ℕ) (u : State) → b < 2 ^ 64 → (b == 0) ≡ true → calculate at o1 8 y (cast_signed w64 b) u ≡ stop (ends (checked check.Division at)) u
  stops_at_zero op.Divide e y b u p z = zero_divisor at u (int_div y (cast_signed w64 b)) b p z
  stops_at_zero op.Remainder e y b u p z = zero_divisor at u (int_rem y (cast_signed w64 b)) b p z
  stops_at_zero o1 e y b u p z = absurd (cc)

  -- what a comparison says of two words
  abbrev said : BinaryOp → ℕ → ℕ → Bool
  said o1 a b = says o1 (int_eq (cast_signed w64 a) (cast_signed w64 b)) (int_lt (cast_signed w64 a) (cast_signed w64 b))

  compare_by : (o1 : BinaryOp) → (q : ℕ) → q ≤ 4 → ((a b : ℕ) (u : State) → calculate at o1 8 (cast_signed w64 a) (cast_signed w64 b) u ≡ ok (truth_bytes (said o1 a b)) (costing u (u.cost + 1))) →
      ((x y : CoreExpr) (h : Face) (a b L M : ℕ) → a < 2 ^ 64 → b < 2 ^ 64 → Quiet S x h a L → Quiet S y h b M → Quiet S (binary_code o1 x y) h (flag (said o1 a b)) (L + M + q)) → Operator S (Val S.entries 8) IsTruth o1 at
  compare_by o1 q fits law quiet = record {
    k = 1;
    q = q;
    fits = fits;
    res = λ a b. truth_bytes (said o1 a b);
    fw = λ a b. flag (said o1 a b);
    val2 = λ v w x. x;
    law = λ a b v p q x u. law a b u;
    good = λ a b p q. record { b = said o1 a b; value = refl; word = refl };
    quiet = quiet;
  }

  pub compare_operator : (o1 : BinaryOp) → is_comparison o1 ≡ true → Operator S (Val S.entries 8) IsTruth o1 at
  compare_operator op.Equal e = compare_by op.Equal 1 (lit≤ tt) (λ a b u. refl) (λ x y h a b L M p q qx qy. quiet_compare S Equal x y h a b L M (said op.Equal a b) (ap flag (sym (equal_test a b p q))) qx qy)
  compare_operator op.Unequal e = compare_by op.Unequal 1 (lit≤ tt) (λ a b u. refl) (λ x y h a b L M p q qx qy. quiet_compare S Different x y h a b L M (said op.Unequal a b) (ap (λ (k : Bool). flag (not k)) (sym (equal_test a b p q))) qx qy)
  compare_operator op.Less e = compare_by op.Less 1 (lit≤ tt) (λ a b u. refl) (λ x y h a b L M p q qx qy. quiet_compare S Less x y h a b L M (said op.Less a b) refl qx qy)
  compare_operator op.Greater e = compare_by op.Greater 1 (lit≤ tt) (λ a b u. refl)
      (λ x y h a b L M p q qx qy. quiet_less S (compare Less y x) h (flag (said op.Greater a b)) (M + L + 1) (L + M + 1) (omega arith) (quiet_compare S Less y x h b a M L (said op.Greater a b) (ap flag (behind_is (cast_signed w64 a) (cast_signed w64 b))) qy qx))
  compare_operator op.AtMost e = compare_by op.AtMost 3 (lit≤ tt) (λ a b u. refl)
      (λ x y h a b L M p q qx qy.
      let behind : Bool = int_lt (cast_signed w64 b) (cast_signed w64 a) in
      quiet_less S (negated (compare Less y x)) h (flag (said op.AtMost a b)) (M + L + 1 + 1 + 1) (L + M + 3) (omega arith)
      (quiet_as S (negated (compare Less y x)) h (flag (not behind)) (flag (said op.AtMost a b)) (M + L + 1 + 1 + 1) (ap (λ (k : Bool). flag (not k)) (behind_is (cast_signed w64 a) (cast_signed w64 b)) ∙ ap flag (not_twice (said op.AtMost a b)))
      (quiet_not S (compare Less y x) h (M + L + 1) behind (quiet_compare S Less y x h b a M L behind refl qy qx))))
  compare_operator op.AtLeast e = compare_by op.AtLeast 3 (lit≤ tt) (λ a b u. refl)
      (λ x y h a b L M p q qx qy. quiet_less S (negated (compare Less x y)) h (flag (said op.AtLeast a b)) (L + M + 1 + 1 + 1) (L + M + 3) (omega arith)
      (quiet_not S (compare Less x y) h (L + M + 1) (said op.Less a b) (quiet_compare S Less x y h a b L M (said op.Less a b) refl qx qy)))
  compare_operator o1 e = absurd (cc)
