-- Integers, conditions, arguments and calls stray nowhere, where the variables that they read have begun.
use Rattle.std.proofs.Common.{◌≡◌, ℕ, ◌+◌, Bool, true, false, List, [], ◌∷◌, length, arith, ◌∙◌, sym, refl}
use Rattle.std.specs.Prelude.{◌==◌, ◌&&◌, ◌||◌, not, nat_lt, Option, Some, None, slice_get}
use Rattle.std.proofs.lemmas.Bool.Decides.{nat_tests}
use Rattle.odc_text.specs.declared.place.Place.{Place}
use Rattle.odc_program.specs.declared.ops.Constant.TheVariants as con
use Rattle.odc_program.specs.declared.ops.UnaryOp.TheVariants as un
use Rattle.odc_program.specs.declared.ops.BinaryOp.{BinaryOp}
use Rattle.odc_program.specs.declared.ops.Builtin.TheVariants as b
use Rattle.odc_program.specs.States.Bytes.{Value, truth_bytes}
use Rattle.odc_program.specs.States.Run.{pure, ◌>>=◌}
use Rattle.odc_program.specs.States.State.{State, Do, Base, lies, is, views, Env, Context, Calls, shape_of}
use Rattle.odc_program.specs.Kinds.Places.{read_truth, run_const, gives}
use Rattle.odc_program.specs.Kinds.Operators.{run_unary, run_binary}
use Rattle.odc_program.specs.Kinds.Calling.{handed, run_call}
use Rattle.odc_program.specs.Kinds.Printing.{print}
use Rattle.odc_program.specs.Kinds.Builtins.{run_println}
use Rattle.odc_program.specs.Kinds.Expressions.{kind_of, value_of, values_of, truth_of}
use Rattle.odc_program.specs.Trees.Tree.{Expr, expr, Kind, const, local, call, builtin, unary, binary, Exprs, none, more, ty, at_of, tys, in_order}
use Rattle.odc_program.specs.Trees.Program.{Head, Tables}
use Rattle.odc_program.specs.Typing.WellTypes.{is_there, has}
use Rattle.odc_program.specs.Typing.Well.{Ways, need_of, call_type, is_order, can_ask, builtin_type, unary_type, binary_type, operands, is_located, well_expr, well_kind, well_exprs}
use Rattle.odc_carried.specs.Carried.{is_int, is_bool, is_nothing, is_plain, is_quotient, is_comparison, is_connective, count, takes, needed, can_call, refused_int, refused_kind, refused_ints, refused_truth, refused_test, refused_eval, truth_binary, and_then}
use Rattle.odc_carried.proofs.Quiet.{IntType, BoolType, int_type, bool_type, and_true}
use Rattle.odc_carried.proofs.Evals.{passed, passed_both}
use Rattle.odc_carried.proofs.steady.Outcomes.{ArePlain, IsWord, AreWords, Plain, Steady}
use Rattle.odc_carried.proofs.steady.Actions.{Activation, env, either, Safe, Any, safe_then, safe_pure, safe_as}
use Rattle.odc_carried.proofs.steady.Values.{Gives, AreIntTypes, truth_plain, safe_gives, safe_truth, int_binary, compare_binary, connect_binary, int_value, truth_value, nothing_value, local_value, const_value, plus_value, negate_value, not_value, safe_print, print_ints}

-- the value of a call with so many results, of which there is at most one
abbrev pub IsAnswer : ℕ → Value → Type 0
IsAnswer n v = n ≡ 1 → IsWord v

-- what a call gives, whatever the state
pub record CallsSafe (tables : Tables) (calls : Calls) : Type 0 where
  pub by : (f : ℕ) (q : Head) (vs : List Value) (c : Context) (base : ℕ) (s : State) → slice_get tables.procedures f ≡ Some q → length vs ≡ q.parameters → AreWords vs → Plain s.memory →
      Steady (λ v t. IsAnswer q.results v) s (calls.call f (pure tt) vs c base s)

-- what connects or compares
pub connected : (o : BinaryOp) (at : Place) (p q : Option Place) (P : Type 0) → truth_binary (is_comparison o) (is_connective o) at p q ≡ None → (is_comparison o ≡ true → p ≡ None → P) → (is_connective o ≡ true → q ≡ None → P) → P
connected o at p q P r f g = by (is_comparison o) (is_connective o) r f g
  where
    by : (x y : Bool) → truth_binary x y at p q ≡ None → (x ≡ true → p ≡ None → P) → (y ≡ true → q ≡ None → P) → P
    by true y r f g = f refl r
    by false true r f g = g refl r
    by false false r f g = absurd (cc)

module _ (a : Activation) (calls : Calls) (follows : CallsSafe a.tables calls) (c : Context) (w : Ways) (E : Env) where
  pub kind_well : (t : ℕ) (at : Place) (k : Kind) → well_expr w E (expr t at k) ≡ true → well_kind w E t k ≡ true
  kind_well t at k h = (and_true (is_located E at k) (well_kind w E t k) (and_true (nat_lt t (length E.tables.types)) (is_located E at k && well_kind w E t k) h).1).1

  int_typed : (e : Expr) → refused_int a.tables a.proc e ≡ None → IntType a.tables (ty e)
  int_typed (expr t at k) r = int_type a.tables t (passed (is_int a.tables t) at (refused_kind a.tables a.proc at k) r).0

  ints_typed : (es : Exprs) → refused_ints a.tables a.proc es ≡ None → AreIntTypes a.tables (tys es)
  ints_typed none r = tt
  ints_typed (more e es) r = let both = passed_both (refused_int a.tables a.proc e) (refused_ints a.tables a.proc es) r in (int_typed e both.0, ints_typed es both.1)

  -- a call
  called : (f results n : ℕ) (vs : List Value) (d : Context) → takes n results (slice_get a.tables.procedures f) ≡ true → AreWords vs → length vs ≡ n → Safe a w.begun (IsAnswer results) (calls.call f (pure tt) vs d a.low)
  called f results n vs d e words long = by (slice_get a.tables.procedures f) refl e
    where
      by : (o : Option Head) → slice_get a.tables.procedures f ≡ o → takes n results o ≡ true → Safe a w.begun (IsAnswer results) (calls.call f (pure tt) vs d a.low)
      by None found e = absurd (cc)
      by (Some q) found e =
          let both = and_true (q.parameters == n) (q.results == results) e in
          let one : (q.parameters == n) ≡ true = both.0 in
          let two : (q.results == results) ≡ true = both.1 in
          let counted : length vs ≡ q.parameters = grind (arith, nat_tests) in
          let same : results ≡ q.results = grind (arith, nat_tests) in
          safe_as a w.begun (IsAnswer results) (calls.call f (pure tt) vs d a.low) (λ v k one. k (sym same ∙ one))
          (record { by = λ s r. follows.by f q vs d a.low s found counted words r.plain })

  call_gives : (need results n : ℕ) (m : Do (List Value)) → can_call a.tables a.proc need n results ≡ true → Safe a w.begun (λ vs. AreWords vs × (length vs ≡ n)) m →
      Safe a w.begun (Gives (IsAnswer results)) (run_call calls (env a c) need [] m)
  call_gives need results n m e p =
      let f : ℕ = needed a.proc need in
      safe_then a w.begun (Gives (IsAnswer results)) (λ vs. gives (calls.call f (pure tt) vs (handed (env a c) f) a.low)) p
      (λ vs h. safe_gives a w.begun c (calls.call f (pure tt) vs (handed (env a c) f) a.low) (called f results n vs (handed (env a c) f) e h.0 h.1))

  one_given : (b : Base) → Gives (IsAnswer 1) b → Gives IsWord b
  one_given (is v) h = h refl
  one_given (lies s) h = absurd h
  one_given (views b t k) h = absurd h

  arguments_well : (t need : ℕ) (es : Exprs) → well_kind w E t (call need [] es) ≡ true → well_exprs w E es ≡ true
  arguments_well t need es h = (and_true (is_order [] (tys es)) (well_exprs w E es) (and_true (need_of E need (λ p. not w.counts && ((w.context || not p.has_context) && call_type E (shape_of E p.ty) (in_order 0 [] (tys es)) t))) (is_order [] (tys es) && well_exprs w E es) h).1).1

  more_safe : (n : ℕ) (m : Do Value) (ms : Do (List Value)) → Safe a w.begun IsWord m → Safe a w.begun (λ vs. AreWords vs × (length vs ≡ n)) ms →
      Safe a w.begun (λ vs. AreWords vs × (length vs ≡ n + 1)) (m >>= (λ v. ms >>= (λ vs. pure (v ∷ vs))))
  more_safe n m ms p q =
      let R : List Value → Type 0 = λ vs. AreWords vs × (length vs ≡ n + 1) in
      safe_then a w.begun R (λ v. ms >>= (λ vs. pure (v ∷ vs))) p
      (λ v h. safe_then a w.begun R (λ vs. pure (v ∷ vs)) q (λ vs k. safe_pure a w.begun R (v ∷ vs) ((h, k.0), omega (arith, k.1))))

  mutual
    pub int_safe : (e : Expr) → refused_int a.tables a.proc e ≡ None → well_expr w E e ≡ true → Safe a w.begun IsWord (value_of calls (env a c) e)
    int_safe (expr t at k) r h = let p = passed (is_int a.tables t) at (refused_kind a.tables a.proc at k) r in int_kind t at k (int_type a.tables t p.0) p.1 (kind_well t at k h)

    int_kind : (t : ℕ) (at : Place) (k : Kind) → IntType a.tables t → refused_kind a.tables a.proc at k ≡ None → well_kind w E t k ≡ true → Safe a w.begun IsWord (value_of calls (env a c) (expr t at k))
    int_kind t at (const (con.Int z)) i r h = int_value a w.begun c at t IsWord (run_const (env a c) t (con.Int z)) i (const_value a w.begun c t z i)
    int_kind t at (local x) i r h = local_value a w.begun c at t x i (and_true (is_there (slice_get E.proc.locals x) (λ l. l.ty == t)) (has x w.begun) h).1
    int_kind t at (unary un.Plus e) i r h =
        let x = and_true (unary_type E un.Plus (ty e) t) (well_expr w E e) h in
        int_value a w.begun c at t IsWord (run_unary (env a c) at t un.Plus (value_of calls (env a c) e)) i (plus_value a w.begun c at t (value_of calls (env a c) e) (int_safe e r x.1))
    int_kind t at (unary un.Negate e) i r h =
        let x = and_true (unary_type E un.Negate (ty e) t) (well_expr w E e) h in
        int_value a w.begun c at t IsWord (run_unary (env a c) at t un.Negate (value_of calls (env a c) e)) i (negate_value a w.begun c at t (value_of calls (env a c) e) i (int_safe e r x.1))
    int_kind t at (binary o e f) i r h =
        let p = passed (is_plain o || is_quotient o) at (and_then (refused_int a.tables a.proc e) (refused_int a.tables a.proc f)) r in
        let both = passed_both (refused_int a.tables a.proc e) (refused_int a.tables a.proc f) p.1 in
        let x = and_true (operands E o e f) (well_expr w E e && well_expr w E f) (and_true (binary_type E o (ty e) (ty f) t) (operands E o e f && (well_expr w E e && well_expr w E f)) h).1 in
        let y = and_true (well_expr w E e) (well_expr w E f) x.1 in
        let m : Do Value = run_binary (env a c) at o (ty e) (ty f) (value_of calls (env a c) e) (value_of calls (env a c) f) in
        int_value a w.begun c at t IsWord (gives m) i
        (safe_gives a w.begun c m (int_binary a w.begun c at (ty e) (value_of calls (env a c) e) (value_of calls (env a c) f) (int_typed e both.0) (int_safe e both.0 y.0) (int_safe f both.1 y.1) o (ty f) p.0))
    int_kind t at (call need [] es) i r h =
        let p = passed (can_call a.tables a.proc need (count es) 1) at (refused_ints a.tables a.proc es) r in
        int_value a w.begun c at t IsWord (run_call calls (env a c) need [] (values_of calls (env a c) es)) i
        (safe_as a w.begun (Gives IsWord) (run_call calls (env a c) need [] (values_of calls (env a c) es)) one_given (call_gives need 1 (count es) (values_of calls (env a c) es) p.0 (ints_safe es p.1 (arguments_well t need es h))))
    int_kind t at k i r h = absurd (cc)

    pub ints_safe : (es : Exprs) → refused_ints a.tables a.proc es ≡ None → well_exprs w E es ≡ true → Safe a w.begun (λ vs. AreWords vs × (length vs ≡ count es)) (values_of calls (env a c) es)
    ints_safe none r h = safe_pure a w.begun (λ vs. AreWords vs × (length vs ≡ 0)) [] (tt, refl)
    ints_safe (more e es) r h =
        let both = passed_both (refused_int a.tables a.proc e) (refused_ints a.tables a.proc es) r in
        let x = and_true (well_expr w E e) (well_exprs w E es) h in
        more_safe (count es) (value_of calls (env a c) e) (values_of calls (env a c) es) (int_safe e both.0 x.0) (ints_safe es both.1 x.1)

  print_line : (at : Place) (ts : List ℕ) (m : Do (List Value)) → AreIntTypes a.tables ts → Safe a w.begun AreWords m → Safe a w.begun (Gives (Any a w.begun)) (m >>= (λ vs. run_println (env a c) at ts vs))
  print_line at ts m i p =
      let R : Base → Type 0 = Gives (Any a w.begun) in
      safe_then a w.begun R (λ vs. run_println (env a c) at ts vs) p
      (λ vs h. safe_then a w.begun R (λ _. pure (is [])) (safe_then a w.begun (Any a w.begun) (λ _. print (10 ∷ [])) (print_ints a w.begun c at ts vs i h) (λ _ _. safe_print a w.begun c (10 ∷ []))) (λ _ _. safe_pure a w.begun R (is []) tt))

  -- ---- what stands as a statement
  pub eval_safe : (e : Expr) → refused_eval a.tables a.proc e ≡ None → well_expr w E e ≡ true → Safe a w.begun (Any a w.begun) (value_of calls (env a c) e)
  eval_safe (expr t at (call need [] es)) r h =
      let p = passed ((is_nothing a.tables t && can_call a.tables a.proc need (count es) 0) || (is_int a.tables t && can_call a.tables a.proc need (count es) 1)) at (refused_ints a.tables a.proc es) r in
      let args = ints_safe es p.1 (arguments_well t need es (kind_well t at (call need [] es) h)) in
      let m : Do Base = run_call calls (env a c) need [] (values_of calls (env a c) es) in
      either (is_nothing a.tables t && can_call a.tables a.proc need (count es) 0) (is_int a.tables t && can_call a.tables a.proc need (count es) 1) p.0 (Safe a w.begun (Any a w.begun) (value_of calls (env a c) (expr t at (call need [] es))))
      (λ e. let both = and_true (is_nothing a.tables t) (can_call a.tables a.proc need (count es) 0) e in
      nothing_value a w.begun c at t (IsAnswer 0) m both.0 (call_gives need 0 (count es) (values_of calls (env a c) es) both.1 args))
      (λ e. let both = and_true (is_int a.tables t) (can_call a.tables a.proc need (count es) 1) e in
      safe_as a w.begun (Any a w.begun) (value_of calls (env a c) (expr t at (call need [] es))) (λ v _. tt)
      (int_value a w.begun c at t (IsAnswer 1) m (int_type a.tables t both.0) (call_gives need 1 (count es) (values_of calls (env a c) es) both.1 args)))
  eval_safe (expr t at (builtin b.Println [] es)) r h =
      let p = passed (is_nothing a.tables t) at (refused_ints a.tables a.proc es) r in
      let k = kind_well t at (builtin b.Println [] es) h in
      let x = and_true (builtin_type E b.Println (in_order 0 [] (tys es)) t) (is_order [] (tys es) && well_exprs w E es) (and_true (can_ask w E b.Println (in_order 0 [] (tys es))) (builtin_type E b.Println (in_order 0 [] (tys es)) t && (is_order [] (tys es) && well_exprs w E es)) k).1 in
      let y = and_true (is_order [] (tys es)) (well_exprs w E es) x.1 in
      nothing_value a w.begun c at t (Any a w.begun) (kind_of calls (env a c) t at (builtin b.Println [] es)) p.0
      (print_line at (tys es) (values_of calls (env a c) es) (ints_typed es p.1) (safe_as a w.begun AreWords (values_of calls (env a c) es) (λ vs k. k.0) (ints_safe es p.1 y.1)))
  eval_safe _ r h = absurd (cc)

  -- ---- conditions
  mutual
    pub truth_safe : (e : Expr) → refused_truth a.tables a.proc e ≡ None → well_expr w E e ≡ true → Safe a w.begun ArePlain (value_of calls (env a c) e)
    truth_safe (expr t at k) r h = let p = passed (is_bool a.tables t) at (refused_test a.tables a.proc at k) r in truth_kind t at k (bool_type a.tables t p.0) p.1 (kind_well t at k h)

    truth_kind : (t : ℕ) (at : Place) (k : Kind) → BoolType a.tables t → refused_test a.tables a.proc at k ≡ None → well_kind w E t k ≡ true → Safe a w.begun ArePlain (value_of calls (env a c) (expr t at k))
    truth_kind t at (const (con.Bool v)) i r h = truth_value a w.begun c at t (run_const (env a c) t (con.Bool v)) i (safe_pure a w.begun (Gives ArePlain) (is (truth_bytes v)) (truth_plain v))
    truth_kind t at (unary un.Not e) i r h =
        let x = and_true (unary_type E un.Not (ty e) t) (well_expr w E e) h in
        truth_value a w.begun c at t (run_unary (env a c) at t un.Not (value_of calls (env a c) e)) i (not_value a w.begun c at t (value_of calls (env a c) e) (truth_safe e r x.1))
    truth_kind t at (binary o e f) i r h =
        let x = and_true (operands E o e f) (well_expr w E e && well_expr w E f) (and_true (binary_type E o (ty e) (ty f) t) (operands E o e f && (well_expr w E e && well_expr w E f)) h).1 in
        let y = and_true (well_expr w E e) (well_expr w E f) x.1 in
        let m : Do Value = value_of calls (env a c) e in
        let n : Do Value = value_of calls (env a c) f in
        let both : Do Value = run_binary (env a c) at o (ty e) (ty f) m n in
        let ints : Option Place = and_then (refused_int a.tables a.proc e) (refused_int a.tables a.proc f) in
        let truths : Option Place = and_then (refused_truth a.tables a.proc e) (refused_truth a.tables a.proc f) in
        truth_value a w.begun c at t (gives both) i (safe_gives a w.begun c both
        (connected o at ints truths (Safe a w.begun ArePlain both) r
        (λ is_o q. let parts = passed_both (refused_int a.tables a.proc e) (refused_int a.tables a.proc f) q in
        compare_binary a w.begun c at (ty e) m n (int_typed e parts.0) (int_safe e parts.0 y.0) (int_safe f parts.1 y.1) o (ty f) is_o)
        (λ is_o q. let parts = passed_both (refused_truth a.tables a.proc e) (refused_truth a.tables a.proc f) q in
        connect_binary a w.begun c o at (ty e) (ty f) m n is_o (truth_safe e parts.0 y.0) (truth_safe f parts.1 y.1))))
    truth_kind t at k i r h = absurd (cc)

  pub test_safe : (e : Expr) → refused_truth a.tables a.proc e ≡ None → well_expr w E e ≡ true → Safe a w.begun (Any a w.begun) (truth_of calls (env a c) e)
  test_safe e r h = safe_then a w.begun (Any a w.begun) (read_truth (at_of e)) (truth_safe e r h) (λ v k. safe_truth a w.begun c (at_of e) v k)
