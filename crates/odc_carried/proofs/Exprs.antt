-- The code of each expression does what the source does with it.
use Rattle.std.proofs.Common.{◌≡◌, ℕ, ◌+◌, ◌*◌, ◌^◌, ◌<◌, ◌≤◌, ◌⊎◌, inl, inr, Bool, true, false, List, [], arith, ap, ◌∙◌, sym, subst, refl, lit<, lit≤}
use Rattle.std.specs.Prelude.{ℤ, pos, ◌-ℤ◌, Option, Some, None, slice_get, ◌||◌, not, if◌then◌else◌}
use Rattle.std.specs.Int.{w64, cast_signed}
use Rattle.odc_text.specs.declared.place.Place.{Place}
use Rattle.rv_table.specs.Words.{minus, flag}
use Rattle.odc_program.specs.declared.ops.Constant.TheVariants as con
use Rattle.odc_program.specs.declared.ops.UnaryOp.TheVariants as un
use Rattle.odc_program.specs.declared.ops.BinaryOp.{BinaryOp}
use Rattle.odc_program.specs.declared.ops.BinaryOp.TheVariants as op
use Rattle.odc_program.specs.States.Bytes.{Value, bytes_of, residue, int_bytes, int_of, truth_bytes}
use Rattle.odc_program.specs.States.Run.{Res, ok, stop, then_by, pure}
use Rattle.odc_program.specs.States.State.{State, Leave, Do, known, Calls, Context, Base, is}
use Rattle.odc_program.specs.States.State.{Env as SourceEnv}
use Rattle.odc_program.specs.Kinds.Places.{value_in, whole_by, read_truth}
use Rattle.odc_program.specs.Kinds.Operators.{unary_value, operate, by_shape, run_binary, calculate}
use Rattle.odc_program.specs.Kinds.Calling.{handed}
use Rattle.odc_program.specs.Kinds.Expressions.{value_of, values_of}
use Rattle.odc_program.specs.Trees.Tree.{Expr, expr, Kind, const, local, call, unary, binary, Exprs, none, more, ty}
use Rattle.odc_program.specs.Trees.Program.{Shape}
use Rattle.odc_core.specs.declared.tree.BinaryOp.TheVariants.{Subtract}
use Rattle.odc_core.specs.Tree.{const as word, binary as operated, Stmts as CoreStmts}
use Rattle.odc_carried.specs.Carried.{type_in, is_int, is_bool, names_int, refused_int, refused_ints, refused_kind, refused_truth, refused_test, and_then, is_plain, is_quotient, is_comparison, is_loud, is_any_loud, is_divisor, can_call, needed, count, takes}
use Rattle.odc_carried.specs.Code.{join, Way, nested, waiting, checking, both, either, way, way_by, before_by, value_by, depth_by, before, before_kind, befores, value, value_kind, depth, depth_kind, depths, waits, held, negated, argument_before, argument_values}
use Rattle.odc_carried.specs.Code.{values as core_values}
use Rattle.odc_carried.specs.Tied.{Tied, Site, o, env}
use Rattle.odc_carried.proofs.Runs.{Face}
use Rattle.odc_carried.proofs.Sims.{rate, sim_later, sim_richer, sim_result, then_then}
use Rattle.odc_carried.proofs.Values.{Val, val_int, val_word, residue_small, subtracted}
use Rattle.odc_carried.proofs.Ties.{Facts}
use Rattle.odc_carried.proofs.Frame.{ex}
use Rattle.odc_carried.proofs.Quiet.{quiet_const, quiet_binary, quiet_not, quiet_as, quiet_less, costing, IntType, BoolType, int_type, bool_type, or_false, IsTruth, IsDivisor}
use Rattle.odc_carried.proofs.Evals.{passed, passed_both, int_read, truth_read, shaped, const_eval, local_eval, divisor_eval, truth_constant_eval, not_not, type_of, quiet_int, assoc3}
use Rattle.odc_carried.proofs.Operators.{Operator, plain_operator, quotient_operator, compare_operator}
use Rattle.odc_carried.proofs.Codes.{ready_cost, quiet_waits, Codes, codes_quiet}
use Rattle.odc_carried.proofs.Loud.{nested_codes, waiting_codes, checking_codes}
use Rattle.odc_carried.proofs.Branches.{One, Lost, unary_codes, both_codes, either_codes}
use Rattle.odc_carried.proofs.Arguments.{EvaluatedAll, quiet_none, evaluated_more, CodesAll, codes_none, codes_waiting, codes_nested, CallsFollow, call_step}

pub then_same : {A B : Type 0} (r : Res Leave State A) (f g : A → Do B) → ((v : A) (t : State) → f v t ≡ g v t) → then_by r f ≡ then_by r g
then_same (ok v t) f g h = h v t
then_same (stop why t) f g h = refl

-- ---- the equations of the source that an operator without a condition has
abbrev IsEager : BinaryOp → Bool
IsEager o1 = is_plain o1 || (is_quotient o1 || is_comparison o1)

operate_is : (o1 : BinaryOp) → IsEager o1 ≡ true → (e : SourceEnv) (at : Place) (t u : ℕ) (v w : Value) (s : State) → operate e at o1 t u v w s ≡ by_shape e at o1 (type_in e.tables t).size (type_in e.tables t).shape v w s
operate_is op.Add h e at t u v w s = refl
operate_is op.Subtract h e at t u v w s = refl
operate_is op.Multiply h e at t u v w s = refl
operate_is op.Divide h e at t u v w s = refl
operate_is op.Remainder h e at t u v w s = refl
operate_is op.Equal h e at t u v w s = refl
operate_is op.Unequal h e at t u v w s = refl
operate_is op.Less h e at t u v w s = refl
operate_is op.Greater h e at t u v w s = refl
operate_is op.AtMost h e at t u v w s = refl
operate_is op.AtLeast h e at t u v w s = refl
operate_is o1 h e at t u v w s = absurd (cc)

run_is : (o1 : BinaryOp) → IsEager o1 ≡ true → (e : SourceEnv) (at : Place) (t u : ℕ) (m n : Do Value) (s : State) → run_binary e at o1 t u m n s ≡ then_by (m s) (λ v. (λ t1. then_by (n t1) (λ w. operate e at o1 t u v w)))
run_is op.Add h e at t u m n s = refl
run_is op.Subtract h e at t u m n s = refl
run_is op.Multiply h e at t u m n s = refl
run_is op.Divide h e at t u m n s = refl
run_is op.Remainder h e at t u m n s = refl
run_is op.Equal h e at t u m n s = refl
run_is op.Unequal h e at t u m n s = refl
run_is op.Less h e at t u m n s = refl
run_is op.Greater h e at t u m n s = refl
run_is op.AtMost h e at t u m n s = refl
run_is op.AtLeast h e at t u m n s = refl
run_is o1 h e at t u m n s = absurd (cc)

way_plain : (o1 : BinaryOp) (f : Expr) → is_plain o1 ≡ true → way o1 f ≡ way_by (is_loud f) false
way_plain op.Add f h = refl
way_plain op.Subtract f h = refl
way_plain op.Multiply f h = refl
way_plain o1 f h = absurd (cc)

way_compared : (o1 : BinaryOp) (f : Expr) → is_comparison o1 ≡ true → way o1 f ≡ way_by (is_loud f) false
way_compared op.Equal f h = refl
way_compared op.Unequal f h = refl
way_compared op.Less f h = refl
way_compared op.Greater f h = refl
way_compared op.AtMost f h = refl
way_compared op.AtLeast f h = refl
way_compared o1 f h = absurd (cc)

way_quotient : (o1 : BinaryOp) (f : Expr) → is_quotient o1 ≡ true → way o1 f ≡ way_by (is_loud f) (not (is_divisor f))
way_quotient op.Divide f h = refl
way_quotient op.Remainder f h = refl
way_quotient o1 f h = absurd (cc)

divisor_quiet : (f : Expr) → is_divisor f ≡ true → is_loud f ≡ false
divisor_quiet (expr t at (const (con.Int z))) h = refl
divisor_quiet _ h = absurd (cc)

eager_plain : (o1 : BinaryOp) → is_plain o1 ≡ true → IsEager o1 ≡ true
eager_plain o1 h = ap (λ (b : Bool). b || (is_quotient o1 || is_comparison o1)) h

eager_quotient : (o1 : BinaryOp) → is_quotient o1 ≡ true → IsEager o1 ≡ true
eager_quotient op.Divide h = refl
eager_quotient op.Remainder h = refl
eager_quotient o1 h = absurd (cc)

eager_compared : (o1 : BinaryOp) → is_comparison o1 ≡ true → IsEager o1 ≡ true
eager_compared op.Equal h = refl
eager_compared op.Unequal h = refl
eager_compared op.Less h = refl
eager_compared op.Greater h = refl
eager_compared op.AtMost h = refl
eager_compared op.AtLeast h = refl
eager_compared o1 h = absurd (cc)

module _ (S : Site) (F : Facts S) (calls : Calls) (follows : CallsFollow S F (λ f vs c low. calls.call f (pure tt) vs c low)) (c : Context) where
  abbrev G : Value → Do Base
  G v = pure (is v)

  -- ---- two operands
  module _ (Is3 : Value → ℕ → Type 0) (t : ℕ) (at : Place) (o1 : BinaryOp) (e f : Expr) (d : ℕ) (re : refused_int S.tables S.proc e ≡ None) (rf : refused_int S.tables S.proc f ≡ None) (eager : IsEager o1 ≡ true)
      (read : (v : Value) (w : ℕ) (u : State) → Is3 v w → value_in (env S c) at t (is v) u ≡ ok v u) (left : Codes S F (Val S.entries 8) (before (o S) d e) (value (o S) d e) d (value_of calls (env S c) e))
      (right : d + 1 + depth f ≤ (o S).waiting → Codes S F (Val S.entries 8) (before (o S) (d + 1) f) (value (o S) (d + 1) f) (d + 1) (value_of calls (env S c) f)) where
    abbrev m : Do Value
    m = value_of calls (env S c) (expr t at (binary o1 e f))

    abbrev opr : Value → Value → Do Value
    opr = operate (env S c) at o1 (ty e) (ty f)

    m_is : (s : State) → value_of calls (env S c) (expr t at (binary o1 e f)) s ≡ then_by (then_by (then_by (value_of calls (env S c) e (costing s (s.cost + 1))) (λ v. (λ t1. then_by (value_of calls (env S c) f t1) (λ w. operate (env S c) at o1 (ty e) (ty f) v w)))) G) (value_in (env S c) at t)
    m_is s = ap (λ (r : Res Leave State Value). then_by (then_by r G) (value_in (env S c) at t)) (run_is o1 eager (env S c) at (ty e) (ty f) (value_of calls (env S c) e) (value_of calls (env S c) f) (costing s (s.cost + 1)))

    oper : (v w : Value) (u : State) → operate (env S c) at o1 (ty e) (ty f) v w u ≡ then_by (known at (int_of true 8 v) u) (λ y. (λ u1. then_by (known at (int_of true 8 w) u1) (λ z. calculate at o1 8 y z)))
    oper v w u = operate_is o1 eager (env S c) at (ty e) (ty f) v w u ∙ shaped S c o1 at (ty e) (type_of S c e re) v w u

    abbrev Goal : Way → Type 1
    Goal w = d + depth_by w (depth e) (depth f) ≤ (o S).waiting → Codes S F Is3 (before_by (o S) d at w (before (o S) d e) (value (o S) d e) (before (o S) (d + 1) f) (value (o S) (d + 1) f)) (value_by (o S) d o1 w (value (o S) d e) (value (o S) (d + 1) f)) d (value_of calls (env S c) (expr t at (binary o1 e f)))

    -- without a check
    pub plain_codes : Operator S (Val S.entries 8) Is3 o1 at → (l : Bool) → is_loud f ≡ l → Goal (way_by l false)
    plain_codes X false quiet fit =
        nested_codes S F (Val S.entries 8) Is3 o1 at X (operate (env S c) at o1 (ty e) (ty f)) oper G (value_in (env S c) at t) read (value_of calls (env S c) (expr t at (binary o1 e f))) (value_of calls (env S c) e) (value_of calls (env S c) f) m_is
        (before (o S) d e) (value (o S) d e) (value (o S) (d + 1) f) d left (λ s h tied. quiet_int S c calls f (d + 1) s h rf quiet tied)
    plain_codes X true loud fit =
        waiting_codes S F (Val S.entries 8) Is3 o1 at X (operate (env S c) at o1 (ty e) (ty f)) oper G (value_in (env S c) at t) read (value_of calls (env S c) (expr t at (binary o1 e f))) (value_of calls (env S c) e) (value_of calls (env S c) f) m_is
        (before (o S) d e) (before (o S) (d + 1) f) (value (o S) d e) (value (o S) (d + 1) f) d (omega arith) left (right (omega arith))

    pub quotient_codes : is_quotient o1 ≡ true → Operator S (IsDivisor S) Is3 o1 at → (l k : Bool) → is_loud f ≡ l → not (is_divisor f) ≡ k → Goal (way_by l k)
    quotient_codes quotient X l true loud check fit =
        checking_codes S F Is3 o1 quotient at X (operate (env S c) at o1 (ty e) (ty f)) oper G (value_in (env S c) at t) read (value_of calls (env S c) (expr t at (binary o1 e f))) (value_of calls (env S c) e) (value_of calls (env S c) f) m_is
        (before (o S) d e) (before (o S) (d + 1) f) (value (o S) d e) (value (o S) (d + 1) f) d (omega arith) left (right (omega arith))
    quotient_codes quotient X false false quiet divisor fit =
        nested_codes S F (IsDivisor S) Is3 o1 at X (operate (env S c) at o1 (ty e) (ty f)) oper G (value_in (env S c) at t) read (value_of calls (env S c) (expr t at (binary o1 e f))) (value_of calls (env S c) e) (value_of calls (env S c) f) m_is
        (before (o S) d e) (value (o S) d e) (value (o S) (d + 1) f) d left (λ s h tied. divisor_eval S c calls (d + 1) f s h rf (not_not S c (is_divisor f) divisor))
    quotient_codes quotient X true false loud divisor fit = let wrong : true ≡ false = sym loud ∙ divisor_quiet f (not_not S c (is_divisor f) divisor) in absurd (cc)

  -- ---- one operand
  signed_one : (t : ℕ) (at : Place) → IntType S.tables t → (v : Value) (w : ℕ) (u : State) → Val S.entries 8 v w →
      One S (Val S.entries 8) (λ x. x) 0 w u (then_by (unary_value (env S c) at t un.Plus v u) (value_in (env S c) at t)) ⊎ Lost u (then_by (unary_value (env S c) at t un.Plus v u) (value_in (env S c) at t))
  signed_one t at i v w u holds = inl (record { res = v; fw = w; is = int_read S c u (record { memory = λ k. None; log = []; input = []; taken = 0 }) t at v u i; good = holds; quiet = λ x h L q. quiet_less S x h w L (L + 0) (omega arith) q })

  abbrev H : ℕ → Place → Base → Do Value
  H t at = value_in (env S c) at t

  abbrev K : ℕ → ℤ → Do Base
  K t z = pure (is (int_bytes (type_in S.tables t).size (pos 0 -ℤ z)))

  negate_first : (t : ℕ) (at : Place) → IntType S.tables t → (v : Value) (u : State) → then_by (unary_value (env S c) at t un.Negate v u) (value_in (env S c) at t) ≡ then_by (then_by (known at (int_of true 8 v) u) (K t)) (H t at)
  negate_first t at i v u =
      ap (λ (k : Shape). then_by (then_by (whole_by at (type_in S.tables t).size k v u) (K t)) (H t at)) i.shape
      ∙ ap (λ (b : Bool). then_by (then_by (known at (int_of b (type_in S.tables t).size v) u) (K t)) (H t at)) i.signed
      ∙ ap (λ (n : ℕ). then_by (then_by (known at (int_of true n v) u) (K t)) (H t at)) i.size

  negated_one : (t : ℕ) (at : Place) → IntType S.tables t → (v : Value) (w : ℕ) (u : State) → Val S.entries 8 v w →
      One S (Val S.entries 8) (λ x. operated Subtract (word 0) x) 2 w u (then_by (unary_value (env S c) at t un.Negate v u) (value_in (env S c) at t)) ⊎ Lost u (then_by (unary_value (env S c) at t un.Negate v u) (value_in (env S c) at t))
  negated_one t at i v w u holds = by (int_of true 8 v) refl
    where
      by : (o1 : Option ℤ) → int_of true 8 v ≡ o1 → One S (Val S.entries 8) (λ x. operated Subtract (word 0) x) 2 w u (then_by (unary_value (env S c) at t un.Negate v u) (value_in (env S c) at t)) ⊎ Lost u (then_by (unary_value (env S c) at t un.Negate v u) (value_in (env S c) at t))
      by None e = inr (record { place = at; is = negate_first t at i v u ∙ ap (λ (q : Option ℤ). then_by (then_by (known at q u) (K t)) (H t at)) e })
      by (Some z) e =
          let small : minus 0 w < 2 ^ 64 = omega arith in
          let same : z ≡ cast_signed w64 w = val_int S.entries v w z holds e in
          let law : residue (2 ^ 64) (pos 0 -ℤ cast_signed w64 w) ≡ minus 0 w = subtracted 0 w (lit< tt) holds.small in
          inl (record {
            res = bytes_of 8 (minus 0 w);
            fw = minus 0 w;
            is =
                negate_first t at i v u
                ∙ ap (λ (q : Option ℤ). then_by (then_by (known at q u) (K t)) (H t at)) e
                ∙ ap (λ (n : ℕ). H t at (is (int_bytes n (pos 0 -ℤ z))) u) i.size
                ∙ ap (λ (y : ℤ). H t at (is (int_bytes 8 (pos 0 -ℤ y))) u) same
                ∙ ap (λ (n : ℕ). H t at (is (bytes_of 8 n)) u) law
                ∙ int_read S c u (record { memory = λ k. None; log = []; input = []; taken = 0 }) t at (bytes_of 8 (minus 0 w)) u i;
            good = val_word S.entries (minus 0 w) small;
            quiet = λ x h L q. quiet_less S (operated Subtract (word 0) x) h (minus 0 w) (1 + L + 1) (L + 2) (omega arith) (quiet_binary S Subtract (word 0) x h 0 w 1 L small (quiet_const S 0 h (lit< tt)) q);
          })

  not_one : (t : ℕ) (at : Place) → BoolType S.tables t → (v : Value) (w : ℕ) (u : State) → IsTruth v w →
      One S IsTruth negated 2 w u (then_by (unary_value (env S c) at t un.Not v u) (value_in (env S c) at t)) ⊎ Lost u (then_by (unary_value (env S c) at t un.Not v u) (value_in (env S c) at t))
  not_one t at i v w u holds = inl (record {
    res = truth_bytes (not holds.b);
    fw = flag (not holds.b);
    is = ap (λ (y : Value). then_by (unary_value (env S c) at t un.Not y u) (value_in (env S c) at t)) holds.value ∙ by holds.b ∙ truth_read S c u (record { memory = λ k. None; log = []; input = []; taken = 0 }) t at (not holds.b) u i;
    good = record { b = not holds.b; value = refl; word = refl };
    quiet = λ x h L q. quiet_less S (negated x) h (flag (not holds.b)) (L + 1 + 1) (L + 2) (omega arith) (quiet_not S x h L holds.b (quiet_as S x h w (flag holds.b) L holds.word q));
  })
    where
      by : (b : Bool) → then_by (unary_value (env S c) at t un.Not (truth_bytes b) u) (value_in (env S c) at t) ≡ value_in (env S c) at t (is (truth_bytes (not b))) u
      by true = refl
      by false = refl

  unary_is : (o1 : _) (t : ℕ) (at : Place) (e : Expr) (s : State) → value_of calls (env S c) (expr t at (unary o1 e)) s ≡ then_by (value_of calls (env S c) e (costing s (s.cost + 1))) (λ v. (λ u. then_by (unary_value (env S c) at t o1 v u) (value_in (env S c) at t)))
  unary_is o1 t at e s = then_then S.entries (value_of calls (env S c) e (costing s (s.cost + 1))) (unary_value (env S c) at t o1) (value_in (env S c) at t)

  -- ---- a call
  call_codes : (t : ℕ) (at : Place) (need : ℕ) (es : Exprs) (d n : ℕ) → IntType S.tables t → d < (o S).waiting → takes n 1 (slice_get S.tables.procedures (needed S.proc need)) ≡ true →
      CodesAll S F n (befores (o S) d es) (core_values (o S) d es) d (values_of calls (env S c) es) → Codes S F (Val S.entries 8) (before_kind (o S) d at (call need [] es)) (waits (o S) d) d (value_of calls (env S c) (expr t at (call need [] es)))
  call_codes t at need es d n i inside found all = record {
    by = λ tail Q j b g s h f ready k.
        let s1 : State = costing s (s.cost + 1) in
        let proc : ℕ = needed S.proc need in
        let ctx : Context = handed (env S c) proc in
        let m2 : Do (List Value) = values_of calls (env S c) es in
        let K : Value → Do _ = λ v. (λ u. then_by (H t at (is v) u) f) in
        let code : CoreStmts = join (before_kind (o S) d at (call need [] es)) tail in
        sim_result S.entries
        (assoc3 (m2 s1) (λ vs. (λ u. then_by (calls.call proc (pure tt) vs ctx S.low u) G)) (H t at) f
        ∙ then_same (m2 s1) (λ vs. (λ u. then_by (then_by (then_by (calls.call proc (pure tt) vs ctx S.low u) G) (H t at)) f)) (λ vs. (λ u. then_by (calls.call proc (pure tt) vs ctx S.low u) K)) (λ vs u. assoc3 (calls.call proc (pure tt) vs ctx S.low u) G (H t at) f))
        (sim_later S.entries Q j b g 1 (ex S code) s s1 h refl (omega arith) (then_by (m2 s1) (λ vs. (λ u. then_by (calls.call proc (pure tt) vs ctx S.low u) K)))
        (sim_richer S.entries Q j (b + 36 + 4) (b + rate * 1) g (ex S code) s1 h (then_by (m2 s1) (λ vs. (λ u. then_by (calls.call proc (pure tt) vs ctx S.low u) K))) (omega arith)
        (call_step S F (λ f vs c low. calls.call f (pure tt) vs c low) follows proc 1 d n ctx inside found (befores (o S) d es) (core_values (o S) d es) m2 all tail Q j (b + 36) g s1 h K (ready_cost S F s h (s.cost + 1) ready)
        (λ v u w h' val none there ready' alike fewer.
        let holds : Val S.entries 8 v w = val refl in
        sim_result S.entries (ap (λ (r : Res Leave State Value). then_by r f) (int_read S c u h' t at v u i))
        (sim_richer S.entries Q j (b + (3 + 8)) (b + 36) g (ex S tail) u h' (f v u) (omega arith)
        (k v u w 3 h' holds (quiet_waits S F d w h' inside holds.small there) ready' alike fewer))))));
  }

  quiet_ints : (es : Exprs) (d : ℕ) (s : State) (h : Face) → refused_ints S.tables S.proc es ≡ None → is_any_loud es ≡ false → Tied S.entries s.memory h.memory → EvaluatedAll S (count es) (core_values (o S) d es) s h (values_of calls (env S c) es s)
  quiet_ints none d s h r q tied = inl (record { values = []; words = []; cost = s.cost; paid = 0; is = refl; enough = omega arith; holds = tt; counted = refl; quiet = quiet_none S h })
  quiet_ints (more e es) d s h r q tied =
      let both = passed_both (refused_int S.tables S.proc e) (refused_ints S.tables S.proc es) r in
      let parts = or_false (is_loud e) (is_any_loud es) q in
      let P : Bool → Type 0 = λ l. EvaluatedAll S (count es + 1) (argument_values (o S) d l (value (o S) d e) (core_values (o S) (d + 1) es) (core_values (o S) d es)) s h (values_of calls (env S c) (more e es) s) in
      subst P (sym parts.1)
      (evaluated_more S (count es) (value (o S) d e) (core_values (o S) d es) s h (value_of calls (env S c) e s) (values_of calls (env S c) es) (quiet_int S c calls e d s h both.0 parts.0 tied)
      (λ cost. quiet_ints es d (costing s cost) h both.1 parts.1 (record { byte = tied.byte; sane = tied.sane })))

  depth_left : (w : Way) (a b : ℕ) → a ≤ depth_by w a b
  depth_left nested a b = omega arith
  depth_left waiting a b = omega arith
  depth_left checking a b = omega arith
  depth_left both a b = omega arith
  depth_left either a b = omega arith

  int_codes : (t : ℕ) (at : Place) (o1 : BinaryOp) (e f : Expr) (d : ℕ) → refused_int S.tables S.proc e ≡ None → refused_int S.tables S.proc f ≡ None → IntType S.tables t →
      Codes S F (Val S.entries 8) (before (o S) d e) (value (o S) d e) d (value_of calls (env S c) e) →
      (d + 1 + depth f ≤ (o S).waiting → Codes S F (Val S.entries 8) (before (o S) (d + 1) f) (value (o S) (d + 1) f) (d + 1) (value_of calls (env S c) f)) →
      (is_plain o1 || is_quotient o1) ≡ true → d + depth_by (way o1 f) (depth e) (depth f) ≤ (o S).waiting →
      Codes S F (Val S.entries 8) (before_by (o S) d at (way o1 f) (before (o S) d e) (value (o S) d e) (before (o S) (d + 1) f) (value (o S) (d + 1) f)) (value_by (o S) d o1 (way o1 f) (value (o S) d e) (value (o S) (d + 1) f)) d (value_of calls (env S c) (expr t at (binary o1 e f)))
  int_codes t at o1 e f d re rf i left right kind fit = by (is_plain o1) refl kind fit
    where
      by : (b : Bool) → is_plain o1 ≡ b → (b || is_quotient o1) ≡ true → d + depth_by (way o1 f) (depth e) (depth f) ≤ (o S).waiting →
          Codes S F (Val S.entries 8) (before_by (o S) d at (way o1 f) (before (o S) d e) (value (o S) d e) (before (o S) (d + 1) f) (value (o S) (d + 1) f)) (value_by (o S) d o1 (way o1 f) (value (o S) d e) (value (o S) (d + 1) f)) d (value_of calls (env S c) (expr t at (binary o1 e f)))
      by true plain h =
          subst (Goal (Val S.entries 8) t at o1 e f d re rf (eager_plain o1 plain) (λ v w u x. int_read S c u (record { memory = λ k. None; log = []; input = []; taken = 0 }) t at v u i) left right) (sym (way_plain o1 f plain))
          (plain_codes (Val S.entries 8) t at o1 e f d re rf (eager_plain o1 plain) (λ v w u x. int_read S c u (record { memory = λ k. None; log = []; input = []; taken = 0 }) t at v u i) left right (plain_operator S at o1 plain) (is_loud f) refl)
      by false plain h =
          subst (Goal (Val S.entries 8) t at o1 e f d re rf (eager_quotient o1 h) (λ v w u x. int_read S c u (record { memory = λ k. None; log = []; input = []; taken = 0 }) t at v u i) left right) (sym (way_quotient o1 f h))
          (quotient_codes (Val S.entries 8) t at o1 e f d re rf (eager_quotient o1 h) (λ v w u x. int_read S c u (record { memory = λ k. None; log = []; input = []; taken = 0 }) t at v u i) left right h (quotient_operator S at o1 h) (is_loud f) (not (is_divisor f)) refl refl)

  more_codes : (e : Expr) (es : Exprs) (d : ℕ) → refused_ints S.tables S.proc es ≡ None → d + depths (more e es) ≤ (o S).waiting → Codes S F (Val S.entries 8) (before (o S) d e) (value (o S) d e) d (value_of calls (env S c) e) →
      CodesAll S F (count es) (befores (o S) (d + 1) es) (core_values (o S) (d + 1) es) (d + 1) (values_of calls (env S c) es) → (l : Bool) → is_any_loud es ≡ l →
      CodesAll S F (count es + 1) (befores (o S) d (more e es)) (core_values (o S) d (more e es)) d (values_of calls (env S c) (more e es))
  more_codes e es d r fit first rest l q =
      let P : Bool → Type 1 = λ b. CodesAll S F (count es + 1) (argument_before (o S) d b (before (o S) d e) (value (o S) d e) (befores (o S) (d + 1) es)) (argument_values (o S) d b (value (o S) d e) (core_values (o S) (d + 1) es) (core_values (o S) d es)) d (values_of calls (env S c) (more e es)) in
      subst P (sym q) (by l q)
    where
      by : (b : Bool) → is_any_loud es ≡ b → CodesAll S F (count es + 1) (argument_before (o S) d b (before (o S) d e) (value (o S) d e) (befores (o S) (d + 1) es)) (argument_values (o S) d b (value (o S) d e) (core_values (o S) (d + 1) es) (core_values (o S) d es)) d (values_of calls (env S c) (more e es))
      by true q = codes_waiting S F (count es) (before (o S) d e) (befores (o S) (d + 1) es) (value (o S) d e) (core_values (o S) (d + 1) es) d (value_of calls (env S c) e) (values_of calls (env S c) es) first (omega arith) rest
      by false q = codes_nested S F (count es) (before (o S) d e) (befores (o S) (d + 1) es) (value (o S) d e) (core_values (o S) d es) d (value_of calls (env S c) e) (values_of calls (env S c) es) first (λ s h tied. quiet_ints es d s h r q tied)

  mutual
    pub code_int : (e : Expr) (d : ℕ) → refused_int S.tables S.proc e ≡ None → d + depth e ≤ (o S).waiting → Codes S F (Val S.entries 8) (before (o S) d e) (value (o S) d e) d (value_of calls (env S c) e)
    code_int (expr t at k) d r fit = let p = passed (is_int S.tables t) at (refused_kind S.tables S.proc at k) r in code_kind t at k d (int_type S.tables t p.0) p.1 fit

    code_kind : (t : ℕ) (at : Place) (k : Kind) (d : ℕ) → IntType S.tables t → refused_kind S.tables S.proc at k ≡ None → d + depth_kind k ≤ (o S).waiting →
        Codes S F (Val S.entries 8) (before_kind (o S) d at k) (value_kind (o S) d k) d (value_of calls (env S c) (expr t at k))
    code_kind t at (const (con.Int z)) d i r fit = codes_quiet S F (Val S.entries 8) (word (residue (2 ^ 64) z)) d (value_of calls (env S c) (expr t at (const (con.Int z)))) (λ s h tied. const_eval S c calls (Val S.entries 8) t at z s h i (val_word S.entries (residue (2 ^ 64) z) (residue_small z)))
    code_kind t at (local x) d i r fit = codes_quiet S F (Val S.entries 8) (held x) d (value_of calls (env S c) (expr t at (local x))) (λ s h tied. local_eval S c calls t at x s h i (passed (names_int S.tables S.proc x) at None r).0 tied)
    code_kind t at (unary un.Plus e) d i r fit =
        unary_codes S F (Val S.entries 8) (Val S.entries 8) (λ x. x) 0 (lit≤ tt) (value_of calls (env S c) (expr t at (unary un.Plus e))) (value_of calls (env S c) e) (λ v. (λ u. then_by (unary_value (env S c) at t un.Plus v u) (value_in (env S c) at t))) (unary_is un.Plus t at e) (signed_one t at i)
        (before (o S) d e) (value (o S) d e) d (code_int e d r fit)
    code_kind t at (unary un.Negate e) d i r fit =
        unary_codes S F (Val S.entries 8) (Val S.entries 8) (λ x. operated Subtract (word 0) x) 2 (lit≤ tt) (value_of calls (env S c) (expr t at (unary un.Negate e))) (value_of calls (env S c) e) (λ v. (λ u. then_by (unary_value (env S c) at t un.Negate v u) (value_in (env S c) at t))) (unary_is un.Negate t at e) (negated_one t at i)
        (before (o S) d e) (value (o S) d e) d (code_int e d r fit)
    code_kind t at (binary o1 e f) d i r fit =
        let p = passed (is_plain o1 || is_quotient o1) at (and_then (refused_int S.tables S.proc e) (refused_int S.tables S.proc f)) r in
        let both = passed_both (refused_int S.tables S.proc e) (refused_int S.tables S.proc f) p.1 in
        let below : depth e ≤ depth_by (way o1 f) (depth e) (depth f) = depth_left (way o1 f) (depth e) (depth f) in
        int_codes t at o1 e f d both.0 both.1 i (code_int e d both.0 (omega (arith, below))) (λ fit'. code_int f (d + 1) both.1 fit') p.0 fit
    code_kind t at (call need [] es) d i r fit =
        let p = passed (can_call S.tables S.proc need (count es) 1) at (refused_ints S.tables S.proc es) r in
        call_codes t at need es d (count es) i (omega arith) p.0 (code_ints es d p.1 (omega arith))
    code_kind t at k d i r fit = absurd (cc)

    pub code_ints : (es : Exprs) (d : ℕ) → refused_ints S.tables S.proc es ≡ None → d + depths es ≤ (o S).waiting → CodesAll S F (count es) (befores (o S) d es) (core_values (o S) d es) d (values_of calls (env S c) es)
    code_ints none d r fit = codes_none S F d
    code_ints (more e es) d r fit =
        let both = passed_both (refused_int S.tables S.proc e) (refused_ints S.tables S.proc es) r in
        more_codes e es d both.1 fit (code_int e d both.0 (omega arith)) (code_ints es (d + 1) both.1 (omega arith)) (is_any_loud es) refl

  truth_back : (t : ℕ) (at : Place) → BoolType S.tables t → (v : Value) (w : ℕ) (u : State) → IsTruth v w → value_in (env S c) at t (is v) u ≡ ok v u
  truth_back t at i v w u x =
      ap (λ (y : Value). value_in (env S c) at t (is y) u) x.value ∙ truth_read S c u (record { memory = λ k. None; log = []; input = []; taken = 0 }) t at x.b u i ∙ ap (λ (y : Value). let r : Res Leave State Value = ok y u in r) (sym x.value)

  -- ---- conditions
  truth_codes : (t : ℕ) (at : Place) (o1 : BinaryOp) (e f : Expr) (d : ℕ) → refused_int S.tables S.proc e ≡ None → refused_int S.tables S.proc f ≡ None → BoolType S.tables t →
      Codes S F (Val S.entries 8) (before (o S) d e) (value (o S) d e) d (value_of calls (env S c) e) →
      (d + 1 + depth f ≤ (o S).waiting → Codes S F (Val S.entries 8) (before (o S) (d + 1) f) (value (o S) (d + 1) f) (d + 1) (value_of calls (env S c) f)) →
      is_comparison o1 ≡ true → d + depth_by (way o1 f) (depth e) (depth f) ≤ (o S).waiting →
      Codes S F IsTruth (before_by (o S) d at (way o1 f) (before (o S) d e) (value (o S) d e) (before (o S) (d + 1) f) (value (o S) (d + 1) f)) (value_by (o S) d o1 (way o1 f) (value (o S) d e) (value (o S) (d + 1) f)) d (value_of calls (env S c) (expr t at (binary o1 e f)))
  truth_codes t at o1 e f d re rf i left right compared fit =
      subst (Goal IsTruth t at o1 e f d re rf (eager_compared o1 compared) (λ v w u x. truth_back t at i v w u x) left right) (sym (way_compared o1 f compared))
      (plain_codes IsTruth t at o1 e f d re rf (eager_compared o1 compared) (λ v w u x. truth_back t at i v w u x) left right (compare_operator S at o1 compared) (is_loud f) refl) fit

  -- the two connectives
  connected : (b : Bool) (t : ℕ) (at : Place) (u : State) → BoolType S.tables t → then_by (then_by (let r : Res Leave State Value = ok (truth_bytes b) u in r) G) (value_in (env S c) at t) ≡ ok (truth_bytes b) u
  connected b t at u i = truth_read S c u (record { memory = λ k. None; log = []; input = []; taken = 0 }) t at b u i

  and_is : (t : ℕ) (at : Place) (e f : Expr) (s : State) → value_of calls (env S c) (expr t at (binary op.AndAlso e f)) s ≡
      then_by (then_by (then_by (value_of calls (env S c) e (costing s (s.cost + 1))) (λ v. (λ u. then_by (read_truth at v u) (λ b. if b then value_of calls (env S c) f else (λ u. ok (truth_bytes false) u))))) G) (value_in (env S c) at t)
  and_is t at e f s = refl

  or_is : (t : ℕ) (at : Place) (e f : Expr) (s : State) → value_of calls (env S c) (expr t at (binary op.OrElse e f)) s ≡
      then_by (then_by (then_by (value_of calls (env S c) e (costing s (s.cost + 1))) (λ v. (λ u. then_by (read_truth at v u) (λ b. if b then (λ u. ok (truth_bytes true) u) else value_of calls (env S c) f)))) G) (value_in (env S c) at t)
  or_is t at e f s = refl

  compared_codes : (t : ℕ) (at : Place) (o1 : BinaryOp) (e f : Expr) (d : ℕ) → BoolType S.tables t → is_comparison o1 ≡ true → refused_int S.tables S.proc e ≡ None → refused_int S.tables S.proc f ≡ None → d + depth_by (way o1 f) (depth e) (depth f) ≤ (o S).waiting →
      Codes S F IsTruth (before_by (o S) d at (way o1 f) (before (o S) d e) (value (o S) d e) (before (o S) (d + 1) f) (value (o S) (d + 1) f)) (value_by (o S) d o1 (way o1 f) (value (o S) d e) (value (o S) (d + 1) f)) d (value_of calls (env S c) (expr t at (binary o1 e f)))
  compared_codes t at o1 e f d i compared re rf fit =
      let below : depth e ≤ depth_by (way o1 f) (depth e) (depth f) = depth_left (way o1 f) (depth e) (depth f) in
      truth_codes t at o1 e f d re rf i (code_int e d re (omega (arith, below))) (λ fit'. code_int f (d + 1) rf fit') compared fit

  mutual
    pub code_truth : (e : Expr) (d : ℕ) → refused_truth S.tables S.proc e ≡ None → d + depth e ≤ (o S).waiting → Codes S F IsTruth (before (o S) d e) (value (o S) d e) d (value_of calls (env S c) e)
    code_truth (expr t at k) d r fit = let p = passed (is_bool S.tables t) at (refused_test S.tables S.proc at k) r in code_test t at k d (bool_type S.tables t p.0) p.1 fit

    code_test : (t : ℕ) (at : Place) (k : Kind) (d : ℕ) → BoolType S.tables t → refused_test S.tables S.proc at k ≡ None → d + depth_kind k ≤ (o S).waiting →
        Codes S F IsTruth (before_kind (o S) d at k) (value_kind (o S) d k) d (value_of calls (env S c) (expr t at k))
    code_test t at (const (con.Bool true)) d i r fit = codes_quiet S F IsTruth (word 1) d (value_of calls (env S c) (expr t at (const (con.Bool true)))) (λ s h tied. truth_constant_eval S c calls t at true s h i)
    code_test t at (const (con.Bool false)) d i r fit = codes_quiet S F IsTruth (word 0) d (value_of calls (env S c) (expr t at (const (con.Bool false)))) (λ s h tied. truth_constant_eval S c calls t at false s h i)
    code_test t at (unary un.Not e) d i r fit =
        unary_codes S F IsTruth IsTruth negated 2 (lit≤ tt) (value_of calls (env S c) (expr t at (unary un.Not e))) (value_of calls (env S c) e) (λ v. (λ u. then_by (unary_value (env S c) at t un.Not v u) (value_in (env S c) at t))) (unary_is un.Not t at e) (not_one t at i)
        (before (o S) d e) (value (o S) d e) d (code_truth e d r fit)
    code_test t at (binary op.AndAlso e f) d i r fit =
        let both = passed_both (refused_truth S.tables S.proc e) (refused_truth S.tables S.proc f) r in
        both_codes S F at G (value_in (env S c) at t) (λ b u. connected b t at u i) (value_of calls (env S c) (expr t at (binary op.AndAlso e f))) (value_of calls (env S c) e) (value_of calls (env S c) f) (before (o S) d e) (before (o S) (d + 1) f) (value (o S) d e) (value (o S) (d + 1) f) d (omega arith)
        (code_truth e d both.0 (omega arith)) (code_truth f (d + 1) both.1 (omega arith)) (and_is t at e f)
    code_test t at (binary op.OrElse e f) d i r fit =
        let both = passed_both (refused_truth S.tables S.proc e) (refused_truth S.tables S.proc f) r in
        either_codes S F at G (value_in (env S c) at t) (λ b u. connected b t at u i) (value_of calls (env S c) (expr t at (binary op.OrElse e f))) (value_of calls (env S c) e) (value_of calls (env S c) f) (before (o S) d e) (before (o S) (d + 1) f) (value (o S) d e) (value (o S) (d + 1) f) d (omega arith)
        (code_truth e d both.0 (omega arith)) (code_truth f (d + 1) both.1 (omega arith)) (or_is t at e f)
    code_test t at (binary op.Equal e f) d i r fit = let both = passed_both (refused_int S.tables S.proc e) (refused_int S.tables S.proc f) r in compared_codes t at op.Equal e f d i refl both.0 both.1 fit
    code_test t at (binary op.Unequal e f) d i r fit = let both = passed_both (refused_int S.tables S.proc e) (refused_int S.tables S.proc f) r in compared_codes t at op.Unequal e f d i refl both.0 both.1 fit
    code_test t at (binary op.Less e f) d i r fit = let both = passed_both (refused_int S.tables S.proc e) (refused_int S.tables S.proc f) r in compared_codes t at op.Less e f d i refl both.0 both.1 fit
    code_test t at (binary op.Greater e f) d i r fit = let both = passed_both (refused_int S.tables S.proc e) (refused_int S.tables S.proc f) r in compared_codes t at op.Greater e f d i refl both.0 both.1 fit
    code_test t at (binary op.AtMost e f) d i r fit = let both = passed_both (refused_int S.tables S.proc e) (refused_int S.tables S.proc f) r in compared_codes t at op.AtMost e f d i refl both.0 both.1 fit
    code_test t at (binary op.AtLeast e f) d i r fit = let both = passed_both (refused_int S.tables S.proc e) (refused_int S.tables S.proc f) r in compared_codes t at op.AtLeast e f d i refl both.0 both.1 fit
    code_test t at k d i r fit = absurd (cc)
