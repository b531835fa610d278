-- The core code of carried statements names only what is there.
use Rattle.std.proofs.Common.{◌≡◌, ℕ, zero, suc, ◌<◌, ◌≤◌, ◌⊎◌, inl, inr, Bool, true, false, List, [], ◌∷◌, arith, lit<, refl}
use Rattle.std.specs.Prelude.{Option, Some, None, ◌==◌, ◌&&◌, ◌||◌}
use Rattle.std.proofs.lemmas.Bool.Decides.{nat_tests}
use Rattle.odc_text.specs.declared.place.Place.{Place}
use Rattle.odc_program.specs.declared.ops.Builtin.TheVariants as b
use Rattle.odc_program.specs.Trees.Tree
use Rattle.odc_program.specs.Trees.Tree.{Expr, expr, Kind, Exprs, none, more, Maybe, absent, present, Lefts, no_lefts, left_, dropped, Rights, nothing, each, parted, Stmt, stmt, Form, MaybeStmt, no_stmt, some_stmt, Stmts, finish, follow}
use Rattle.odc_program.specs.Trees.Program.{Head, Tables, Body}
use Rattle.odc_core.specs.Tree.{answer as answered}
use Rattle.odc_core.specs.Well.{Names, IsExpr, AreStmts}
use Rattle.odc_carried.specs.Carried.{is_int, is_nothing, names_int, and_then, in_place, can_call, count, refused_int, refused_ints, refused_truth, refused_eval, refused_declared, refused_assigned, refused_return, refused_condition, refused_stmt, refused_form, refused_maybe, refused_stmts}
use Rattle.odc_carried.specs.Code.{Around, join, one, put, value, before, waits_all, line_code, depth, depths, eval_code, eval_depth, put_code, declare_code, assign_code, result_code, return_code, condition_before, condition_value, stmt_code, form_code, maybe_code, stmts_code, stmt_depth, form_depth, maybe_depth, stmts_depth, rights_depth, condition_depth, begin_code, body_code}
use Rattle.odc_carried.proofs.Evals.{passed, passed_both}
use Rattle.odc_carried.proofs.Quiet.{and_true}
use Rattle.odc_carried.proofs.Wells.{Around_is, int_fine, ints_fine, truth_fine, call_fine, local_fine, local_there, join_are, line_are, value_is, before_are, before_kind_are, waits_are}

pub or_true : (a b : Bool) → (a || b) ≡ true → (a ≡ true) ⊎ (b ≡ true)
or_true true b e = inl refl
or_true false b e = inr e

enough : (es : Exprs) → count es ≤ depths es
enough none = omega arith
enough (more e es) = let r : count es ≤ depths es = enough es in omega (arith, r)

module _ (tables : Tables) (p : Head) (o : Around) (N : Names) (is : Around_is tables p o N) where
  put_are : (loops x : ℕ) (e : Expr) → names_int tables p x ≡ true → refused_int tables p e ≡ None → depth e ≤ o.waiting → AreStmts N loops (put_code o x e)
  put_are loops x e n r room =
      let f = int_fine tables p o N is e r in
      let t : x < N.variables = local_there tables p o N is x (local_fine tables p o N is x n) in
      join_are tables p o N is loops (before o 0 e) (one (put x (value o 0 e))) (before_are tables p o N is loops 0 e (omega (arith, room)) f) ((t, value_is tables p o N is 0 e (omega (arith, room)) f), tt)

  declare_are : (loops : ℕ) (at : Place) (xs : List (Option ℕ)) (vs : Rights) → refused_declared tables p at xs vs ≡ None → rights_depth vs ≤ o.waiting → AreStmts N loops (declare_code o xs vs)
  declare_are loops at [] vs r room = tt
  declare_are loops at (None ∷ xs) vs r room = tt
  declare_are loops at (Some x ∷ []) nothing r room = ((local_there tables p o N is x (local_fine tables p o N is x (passed (names_int tables p x) at None r).0), lit< tt), tt)
  declare_are loops at (Some x ∷ []) (each none) r room = tt
  declare_are loops at (Some x ∷ []) (each (more e none)) r room = let q = passed (names_int tables p x) at (refused_int tables p e) r in put_are loops x e q.0 q.1 room
  declare_are loops at (Some x ∷ []) (each (more e (more f es))) r room = tt
  declare_are loops at (Some x ∷ []) (parted ts e) r room = tt
  declare_are loops at (Some x ∷ y ∷ xs) vs r room = tt

  assign_are : (loops : ℕ) (at : Place) (lefts : Lefts) (vs : Rights) → refused_assigned tables p at lefts vs ≡ None → rights_depth vs ≤ o.waiting → AreStmts N loops (assign_code o lefts vs)
  assign_are loops at no_lefts vs r room = tt
  assign_are loops at (dropped es) vs r room = tt
  assign_are loops at (left_ (expr t at' (Tree.local x)) no_lefts) nothing r room = tt
  assign_are loops at (left_ (expr t at' (Tree.local x)) no_lefts) (each none) r room = tt
  assign_are loops at (left_ (expr t at' (Tree.local x)) no_lefts) (each (more e none)) r room =
      let q = passed (is_int tables t && names_int tables p x) at (refused_int tables p e) r in put_are loops x e (and_true (is_int tables t) (names_int tables p x) q.0).1 q.1 room
  assign_are loops at (left_ (expr t at' (Tree.local x)) no_lefts) (each (more e (more f es))) r room = tt
  assign_are loops at (left_ (expr t at' (Tree.local x)) no_lefts) (parted ts e) r room = tt
  assign_are loops at (left_ (expr t at' (Tree.local x)) (left_ l ls)) vs r room = tt
  assign_are loops at (left_ (expr t at' (Tree.local x)) (dropped ls)) vs r room = tt
  assign_are loops at (left_ (expr t at' (Tree.const c)) ls) vs r room = tt
  assign_are loops at (left_ (expr t at' (Tree.global_ g)) ls) vs r room = tt
  assign_are loops at (left_ (expr t at' (Tree.proc_value n)) ls) vs r room = tt
  assign_are loops at (left_ (expr t at' Tree.context) ls) vs r room = tt
  assign_are loops at (left_ (expr t at' (Tree.field b n)) ls) vs r room = tt
  assign_are loops at (left_ (expr t at' (Tree.deref b)) ls) vs r room = tt
  assign_are loops at (left_ (expr t at' (Tree.index b i)) ls) vs r room = tt
  assign_are loops at (left_ (expr t at' (Tree.cut b a c)) ls) vs r room = tt
  assign_are loops at (left_ (expr t at' (Tree.column b n)) ls) vs r room = tt
  assign_are loops at (left_ (expr t at' (Tree.call n order es)) ls) vs r room = tt
  assign_are loops at (left_ (expr t at' (Tree.call_value m b es)) ls) vs r room = tt
  assign_are loops at (left_ (expr t at' (Tree.builtin which order es)) ls) vs r room = tt
  assign_are loops at (left_ (expr t at' (Tree.or_return b v)) ls) vs r room = tt
  assign_are loops at (left_ (expr t at' (Tree.build m ps)) ls) vs r room = tt
  assign_are loops at (left_ (expr t at' (Tree.unary u b)) ls) vs r room = tt
  assign_are loops at (left_ (expr t at' (Tree.binary k b f)) ls) vs r room = tt
  assign_are loops at (left_ (expr t at' (Tree.convert b)) ls) vs r room = tt
  assign_are loops at (left_ (expr t at' (Tree.inject n b)) ls) vs r room = tt
  assign_are loops at (left_ (expr t at' (Tree.assert_ n b)) ls) vs r room = tt
  assign_are loops at (left_ (expr t at' (Tree.test_ n b)) ls) vs r room = tt
  assign_are loops at (left_ (expr t at' (Tree.address_ b)) ls) vs r room = tt
  assign_are loops at (left_ (expr t at' Tree.location) ls) vs r room = tt
  assign_are loops at (left_ (expr t at' (Tree.help n es)) ls) vs r room = tt

  println_are : (loops : ℕ) (es : Exprs) → refused_ints tables p es ≡ None → depths es ≤ o.waiting → AreStmts N loops (join (waits_all o 0 es) (line_code o 0 (count es)))
  println_are loops es r room =
      join_are tables p o N is loops (waits_all o 0 es) (line_code o 0 (count es)) (waits_are tables p o N is loops 0 es (omega (arith, room)) (ints_fine tables p o N is es r))
      (line_are tables p o N is loops (count es) (let f : count es ≤ depths es = enough es in omega (arith, f, room)))

  eval_are : (loops : ℕ) (e : Expr) → refused_eval tables p e ≡ None → eval_depth e ≤ o.waiting → AreStmts N loops (eval_code o e)
  eval_are loops (expr t at (Tree.call need order es)) r room =
      let q = passed (in_place order && ((is_nothing tables t && can_call tables p need (count es) 0) || (is_int tables t && can_call tables p need (count es) 1))) at (refused_ints tables p es) r in
      let can = (and_true (in_place order) ((is_nothing tables t && can_call tables p need (count es) 0) || (is_int tables t && can_call tables p need (count es) 1)) q.0).1 in
      let f = ints_fine tables p o N is es q.1 in
      elim (or_true (is_nothing tables t && can_call tables p need (count es) 0) (is_int tables t && can_call tables p need (count es) 1) can) [
        | inl h ↦ before_kind_are tables p o N is loops 0 at (Tree.call need order es) (omega (arith, room)) (call_fine tables p o N is need (count es) 0 (and_true (is_nothing tables t) (can_call tables p need (count es) 0) h).1, f)
        | inr h ↦ before_kind_are tables p o N is loops 0 at (Tree.call need order es) (omega (arith, room)) (call_fine tables p o N is need (count es) 1 (and_true (is_int tables t) (can_call tables p need (count es) 1) h).1, f)
      ]
  eval_are loops (expr t at (Tree.builtin b.Println order es)) r room = println_are loops es (passed (in_place order && is_nothing tables t) at (refused_ints tables p es) r).1 room
  eval_are loops (expr t at (Tree.builtin b.Print order es)) r room = absurd (cc)
  eval_are loops (expr t at (Tree.builtin b.Read order es)) r room = absurd (cc)
  eval_are loops (expr t at (Tree.builtin b.Write order es)) r room = absurd (cc)
  eval_are loops (expr t at (Tree.builtin b.Exit order es)) r room = absurd (cc)
  eval_are loops (expr t at (Tree.builtin b.Len order es)) r room = absurd (cc)
  eval_are loops (expr t at (Tree.builtin b.Cap order es)) r room = absurd (cc)
  eval_are loops (expr t at (Tree.builtin b.RawData order es)) r room = absurd (cc)
  eval_are loops (expr t at (Tree.builtin b.Min order es)) r room = absurd (cc)
  eval_are loops (expr t at (Tree.builtin b.Max order es)) r room = absurd (cc)
  eval_are loops (expr t at (Tree.builtin b.Abs order es)) r room = absurd (cc)
  eval_are loops (expr t at (Tree.builtin b.Copy order es)) r room = absurd (cc)
  eval_are loops (expr t at (Tree.builtin b.Assert order es)) r room = absurd (cc)
  eval_are loops (expr t at (Tree.builtin b.Panic order es)) r room = absurd (cc)
  eval_are loops (expr t at (Tree.builtin b.Clear order es)) r room = absurd (cc)
  eval_are loops (expr t at (Tree.builtin b.Pop order es)) r room = absurd (cc)
  eval_are loops (expr t at (Tree.builtin b.OrderedRemove order es)) r room = absurd (cc)
  eval_are loops (expr t at (Tree.builtin b.UnorderedRemove order es)) r room = absurd (cc)
  eval_are loops (expr t at (Tree.builtin b.HeapRegion order es)) r room = absurd (cc)
  eval_are loops (expr t at (Tree.builtin b.TempRegion order es)) r room = absurd (cc)
  eval_are loops (expr t at (Tree.builtin b.ByteSlice order es)) r room = absurd (cc)
  eval_are loops (expr t at (Tree.builtin b.New order es)) r room = absurd (cc)
  eval_are loops (expr t at (Tree.builtin b.Make order es)) r room = absurd (cc)
  eval_are loops (expr t at (Tree.builtin b.Append order es)) r room = absurd (cc)
  eval_are loops (expr t at (Tree.builtin b.Reserve order es)) r room = absurd (cc)
  eval_are loops (expr t at (Tree.builtin b.Resize order es)) r room = absurd (cc)
  eval_are loops (expr t at (Tree.builtin b.Delete order es)) r room = absurd (cc)
  eval_are loops (expr t at (Tree.builtin b.Free order es)) r room = absurd (cc)
  eval_are loops (expr t at (Tree.builtin b.FreeAll order es)) r room = absurd (cc)
  eval_are loops (expr t at (Tree.const c)) r room = absurd (cc)
  eval_are loops (expr t at (Tree.global_ g)) r room = absurd (cc)
  eval_are loops (expr t at (Tree.proc_value n)) r room = absurd (cc)
  eval_are loops (expr t at Tree.context) r room = absurd (cc)
  eval_are loops (expr t at (Tree.field b n)) r room = absurd (cc)
  eval_are loops (expr t at (Tree.deref b)) r room = absurd (cc)
  eval_are loops (expr t at (Tree.index b i)) r room = absurd (cc)
  eval_are loops (expr t at (Tree.cut b a c)) r room = absurd (cc)
  eval_are loops (expr t at (Tree.column b n)) r room = absurd (cc)
  eval_are loops (expr t at (Tree.call_value m b es)) r room = absurd (cc)
  eval_are loops (expr t at (Tree.or_return b v)) r room = absurd (cc)
  eval_are loops (expr t at (Tree.build m ps)) r room = absurd (cc)
  eval_are loops (expr t at (Tree.unary u b)) r room = absurd (cc)
  eval_are loops (expr t at (Tree.binary k b f)) r room = absurd (cc)
  eval_are loops (expr t at (Tree.convert b)) r room = absurd (cc)
  eval_are loops (expr t at (Tree.inject n b)) r room = absurd (cc)
  eval_are loops (expr t at (Tree.assert_ n b)) r room = absurd (cc)
  eval_are loops (expr t at (Tree.test_ n b)) r room = absurd (cc)
  eval_are loops (expr t at (Tree.address_ b)) r room = absurd (cc)
  eval_are loops (expr t at Tree.location) r room = absurd (cc)
  eval_are loops (expr t at (Tree.help n es)) r room = absurd (cc)
  eval_are loops (expr t at (Tree.local x)) r room = absurd (cc)

  result_is : IsExpr N (result_code o o.results)
  result_is = by o.results refl
    where
      by : (n : ℕ) → o.results ≡ n → IsExpr N (result_code o n)
      by zero e = lit< tt
      by (suc n) e = let less = is.result (omega (arith, e)) in local_there tables p o N is o.result (omega (arith, less, is.locals))

  return_are : (loops : ℕ) (at : Place) (vs : Rights) → refused_return tables p at vs ≡ None → rights_depth vs ≤ o.waiting → AreStmts N loops (return_code o vs)
  return_are loops at nothing r room = (result_is, tt)
  return_are loops at (each none) r room = (result_is, tt)
  return_are loops at (each (more e none)) r room =
      let q = passed (p.results == 1) at (refused_int tables p e) r in
      let one' : (p.results == 1) ≡ true = q.0 in
      let single : p.results ≡ 1 = grind (arith, nat_tests) in
      let less = is.result (omega (arith, single, is.results)) in
      let f = int_fine tables p o N is e q.1 in
      join_are tables p o N is loops (before o 0 e) _ (before_are tables p o N is loops 0 e (omega (arith, room)) f)
      ((local_there tables p o N is o.result (omega (arith, less, is.locals)), value_is tables p o N is 0 e (omega (arith, room)) f), (result_is, tt))
  return_are loops at (each (more e (more f es))) r room = (result_is, tt)
  return_are loops at (parted ts e) r room = (result_is, tt)

  condition_is : (e : Maybe) → refused_condition tables p e ≡ None → condition_depth e ≤ o.waiting → IsExpr N (condition_value o e)
  condition_is absent r room = lit< tt
  condition_is (present e) r room = value_is tables p o N is 0 e (omega (arith, room)) (truth_fine tables p o N is e r)

  condition_are : (loops : ℕ) (e : Maybe) → refused_condition tables p e ≡ None → condition_depth e ≤ o.waiting → AreStmts N loops (condition_before o e)
  condition_are loops absent r room = tt
  condition_are loops (present e) r room = before_are tables p o N is loops 0 e (omega (arith, room)) (truth_fine tables p o N is e r)

  mutual
    stmt_are : (loops : ℕ) (s : Stmt) → refused_stmt tables p s ≡ None → stmt_depth s ≤ o.waiting → AreStmts N loops (stmt_code o s)
    stmt_are loops (stmt at k) r room = form_are loops at k r room

    form_are : (loops : ℕ) (at : Place) (k : Form) → refused_form tables p at k ≡ None → form_depth k ≤ o.waiting → AreStmts N loops (form_code o k)
    form_are loops at (Tree.declare xs vs) r room = declare_are loops at xs vs r room
    form_are loops at (Tree.assign lefts vs) r room = assign_are loops at lefts vs r room
    form_are loops at (Tree.eval e) r room = eval_are loops e r room
    form_are loops at (Tree.block l body) r room = stmts_are loops body r room
    form_are loops at (Tree.if_ init e body other) r room =
        let q = passed_both (refused_maybe tables p init) (and_then (refused_truth tables p e) (and_then (refused_stmts tables p body) (refused_stmts tables p other))) r in
        let u = passed_both (refused_truth tables p e) (and_then (refused_stmts tables p body) (refused_stmts tables p other)) q.1 in
        let w = passed_both (refused_stmts tables p body) (refused_stmts tables p other) u.1 in
        let f = truth_fine tables p o N is e u.0 in
        join_are tables p o N is loops (maybe_code o init) _ (maybe_are loops init q.0 (omega (arith, room)))
        (join_are tables p o N is loops (before o 0 e) _ (before_are tables p o N is loops 0 e (omega (arith, room)) f)
        ((value_is tables p o N is 0 e (omega (arith, room)) f, (stmts_are loops body w.0 (omega (arith, room)), stmts_are loops other w.1 (omega (arith, room)))), tt))
    form_are loops at (Tree.loop l init e post body) r room =
        let q = passed_both (refused_maybe tables p init) (and_then (refused_condition tables p e) (and_then (refused_maybe tables p post) (refused_stmts tables p body))) r in
        let u = passed_both (refused_condition tables p e) (and_then (refused_maybe tables p post) (refused_stmts tables p body)) q.1 in
        let w = passed_both (refused_maybe tables p post) (refused_stmts tables p body) u.1 in
        let zero_in : 0 < suc loops = omega arith in
        join_are tables p o N is loops (maybe_code o init) _ (maybe_are loops init q.0 (omega (arith, room))) (
          (join_are tables p o N is (suc loops) (condition_before o e) _ (condition_are (suc loops) e u.0 (omega (arith, room))) (
            (condition_is e u.0 (omega (arith, room)), (tt, (zero_in, tt))),
            join_are tables p o N is (suc loops) (stmts_code o body) (maybe_code o post) (stmts_are (suc loops) body w.1 (omega (arith, room))) (maybe_are (suc loops) post w.0 (omega (arith, room))),
          )),
          tt,
        )
    form_are loops at (Tree.return vs) r room = return_are loops at vs r room
    form_are loops at (Tree.change k e f) r room = tt
    form_are loops at (Tree.range l over x k body) r room = tt
    form_are loops at (Tree.switch l init e cs) r room = tt
    form_are loops at (Tree.type_switch l e cs) r room = tt
    form_are loops at (Tree.defer i) r room = tt
    form_are loops at (Tree.break_ l) r room = tt
    form_are loops at (Tree.continue_ l) r room = tt
    form_are loops at Tree.fallthrough r room = tt
    form_are loops at (Tree.counted n l e body) r room = tt

    maybe_are : (loops : ℕ) (s : MaybeStmt) → refused_maybe tables p s ≡ None → maybe_depth s ≤ o.waiting → AreStmts N loops (maybe_code o s)
    maybe_are loops no_stmt r room = tt
    maybe_are loops (some_stmt s) r room = stmt_are loops s r room

    stmts_are : (loops : ℕ) (ss : Stmts) → refused_stmts tables p ss ≡ None → stmts_depth ss ≤ o.waiting → AreStmts N loops (stmts_code o ss)
    stmts_are loops finish r room = tt
    stmts_are loops (follow s ss) r room =
        let q = passed_both (refused_stmt tables p s) (refused_stmts tables p ss) r in
        join_are tables p o N is loops (stmt_code o s) (stmts_code o ss) (stmt_are loops s q.0 (omega (arith, room))) (stmts_are loops ss q.1 (omega (arith, room)))

  begin_are : AreStmts N 0 (begin_code o o.results)
  begin_are = by o.results refl
    where
      by : (n : ℕ) → o.results ≡ n → AreStmts N 0 (begin_code o n)
      by zero e = tt
      by (suc n) e = let less = is.result (omega (arith, e)) in ((local_there tables p o N is o.result (omega (arith, less, is.locals)), lit< tt), tt)

  pub body_are : (q : Body) → refused_stmts tables p q.stmts ≡ None → stmts_depth q.stmts ≤ o.waiting → AreStmts N 0 (body_code o q)
  body_are q r room =
      join_are tables p o N is 0 (begin_code o o.results) _ begin_are
      (join_are tables p o N is 0 (stmts_code o q.stmts) (one (answered (result_code o o.results))) (stmts_are 0 q.stmts r room) (result_is, tt))
