-- The core code of a well program whose frames fit is well.
use Rattle.std.proofs.Common.{◌≡◌, ℕ, zero, suc, ◌+◌, ◌^◌, ◌<◌, ◌≤◌, inl, inr, List, [], ◌∷◌, length, map, arith, ap, ◌∙◌, sym, subst, refl, lit<, lit≤}
use Rattle.std.specs.Prelude.{Option, Some, None, slice_get}
use Rattle.odc_text.specs.declared.place.Place.{Place}
use Rattle.odc_typed.specs.declared.tree.Constant.TheVariants.{Int, Bool as Truth}
use Rattle.odc_typed.specs.declared.tree.BinaryOp.{BinaryOp}
use Rattle.odc_typed.specs.declared.tree.BinaryOp.TheVariants.{Add, Subtract, Multiply, Divide, Remainder, Less, Equal}
use Rattle.odc_typed.specs.declared.tree.Builtin.TheVariants.{Println}
use Rattle.odc_typed.specs.declared.tree.Local.{Local}
use Rattle.odc_typed.specs.Tree.{Expr, const, local, binary, call, builtin, Exprs, none, more, Stmt, eval, declare, assign, choose, repeat, answer, Stmts, finish, follow, Proc, Whole}
use Rattle.odc_typed.specs.Frame.{frame, FramesFit}
use Rattle.odc_typed.specs.Well.{Signature, signatures, Scope, InScope, IsInt, AreInts, IsCondition, IsCall, IsPlace, Around, around, scope_after, first_scope, IsWellStmt, AreWell}
use Rattle.odc_typed.specs.Well.{AllWell as AllWellSource, IsWell as IsWellSource, IsMain as IsMainSource, IsWellProc as IsWellSourceProc}
use Rattle.odc_core.specs.Tree.{Expr as CoreExpr, const as word, Stmts as CoreStmts, finish as done, follow as then, Proc as CoreProc}
use Rattle.odc_core.specs.Well.{Names, count as core_count, IsExpr, AreExprs, AreStmts, parameters_of, names_in, IsWellProc, AllWell, IsMain, IsWell}
use Rattle.odc_context.specs.Code.{Own, join, one, buffer_at, pointer_at, number_at, all_waiting, before, digit_code, write_code, print_code, values_code, line_code, operation_code, count, expr_code, exprs_code, depth_of, depth_of_all, place_code, stmt_code, stmts_code, stmt_depth, stmts_depth, own_of, begin_code, end_code, crossed, crossed_program}
use Rattle.odc_context.proofs.simulation.Texts.{word_fits}
use Rattle.rv_table.specs.Words.{flag}
use Rattle.std.specs.Prelude.{Bool, true, false}
use Rattle.odc_context.proofs.simulation.Values.{few, depth_some}
use Rattle.odc_context.proofs.Procs.{frame_room}
use Rattle.odc_context.proofs.Calls.{mapped_get}
use Rattle.odc_context.proofs.Laid.{words_length, words_laid, words_parameters, rounded_even}

pub join_well : (names : Names) (loops : ℕ) (a b : CoreStmts) → AreStmts names loops a → AreStmts names loops b → AreStmts names loops (join a b)
join_well names loops done b h k = k
join_well names loops (then s a) b h k = (h.0, join_well names loops a b h.1 k)

-- every variable in scope is one of the procedure's
abbrev AllBelow : Scope → ℕ → Type 0
AllBelow scope n = (x : ℕ) → InScope scope x → x < n

-- the names of a procedure: its own variables are there, and the procedures have their signatures' parameters
record Known (names : Names) (o : Own) (ss : List Signature) : Type 0 where
  pub variables : names.variables ≡ o.first + o.waiting + 3
  pub called : (f : ℕ) (s : Signature) → slice_get ss f ≡ Some s → slice_get names.parameters f ≡ Some s.parameters

module _ (names : Names) (o : Own) (ss : List Signature) (known : Known names o ss) where
  waiting_known : (d : ℕ) → d < o.waiting → o.first + d < names.variables
  waiting_known d inside = omega (arith, known.variables)

  buffer_known : buffer_at o < names.variables
  buffer_known = omega (arith, known.variables)

  pointer_known : pointer_at o < names.variables
  pointer_known = omega (arith, known.variables)

  number_known : number_at o < names.variables
  number_known = omega (arith, known.variables)

  -- ---- printing

  before_well : (loops : ℕ) (byte : CoreExpr) (rest : CoreStmts) → IsExpr names byte → AreStmts names loops rest → AreStmts names loops (join (before o byte) rest)
  before_well loops byte rest h k = ((pointer_known, (pointer_known, lit< tt)), ((pointer_known, h), k))

  digit_well : (loops : ℕ) → AreStmts names (suc loops) (digit_code o)
  digit_well loops = (
    (pointer_known, (pointer_known, lit< tt)),
    (
      (pointer_known, ((number_known, lit< tt), lit< tt)),
      ((number_known, (number_known, lit< tt)), ((number_known, (tt, (omega arith, tt))), tt)),
    ),
  )

  write_well : (loops : ℕ) → AreStmts names loops (one (write_code o))
  write_well loops = ((pointer_known, ((buffer_known, lit< tt), pointer_known)), tt)

  print_well : (loops d behind : ℕ) → d < o.waiting → behind < 2 ^ 64 → AreStmts names loops (print_code o d behind)
  print_well loops d behind inside small =
      let w : o.first + d < names.variables = waiting_known d inside in
      let minus : AreStmts names loops (before o (word 45)) = before_well loops (word 45) done (lit< tt) tt in (
        (pointer_known, (buffer_known, lit< tt)),
        (
          (pointer_known, (pointer_known, lit< tt)),
          (
            (pointer_known, small),
            (
              (number_known, w),
              (
                ((w, lit< tt), (((number_known, (lit< tt, w)), tt), tt)),
                (
                  digit_well loops,
                  (
                    ((w, lit< tt), (minus, tt)),
                    write_well loops,
                  ),
                ),
              ),
            ),
          ),
        ),
      )

  values_well : (loops d n : ℕ) → d + n ≤ o.waiting → AreStmts names loops (values_code o d n)
  values_well loops d zero fit = tt
  values_well loops d (suc zero) fit = print_well loops d 10 (omega arith) (lit< tt)
  values_well loops d (suc (suc n)) fit = join_well names loops (print_code o d 32) (values_code o (d + 1) (suc n)) (print_well loops d 32 (omega arith) (lit< tt)) (values_well loops (d + 1) (suc n) (omega arith))

  line_well : (loops d n : ℕ) → d + n ≤ o.waiting → AreStmts names loops (line_code o d n)
  line_well loops d zero fit = ((pointer_known, (buffer_known, lit< tt)), ((pointer_known, (pointer_known, lit< tt)), ((pointer_known, lit< tt), write_well loops)))
  line_well loops d (suc n) fit = values_well loops d (suc n) fit

  -- ---- expressions

  operation_well : (loops d : ℕ) (at : Place) (op : BinaryOp) → d + 1 < o.waiting → AreStmts names loops (operation_code o d at op)
  operation_well loops d at op inside = by op
    where
      first : o.first + d < names.variables
      first = waiting_known d (omega arith)

      second : o.first + (d + 1) < names.variables
      second = waiting_known (d + 1) inside

      by : (op : BinaryOp) → AreStmts names loops (operation_code o d at op)
      by Add = ((first, (first, second)), tt)
      by Subtract = ((first, (first, second)), tt)
      by Multiply = ((first, (first, second)), tt)
      by Divide = (second, ((first, (first, second)), tt))
      by Remainder = (second, ((first, (first, second)), tt))
      by Less = ((first, (first, second)), tt)
      by Equal = ((first, (first, second)), tt)

  waiting_well : (d n : ℕ) → d + n ≤ o.waiting → AreExprs names (all_waiting o d n)
  waiting_well d zero fit = tt
  waiting_well d (suc n) fit = (waiting_known d (omega arith), waiting_well (d + 1) n (omega arith))

  waiting_count : (d n : ℕ) → core_count (all_waiting o d n) ≡ n
  waiting_count d zero = refl
  waiting_count d (suc n) = ap suc (waiting_count (d + 1) n)

  module _ (scope : Scope) (below : AllBelow scope o.first) where
    two_well : (loops d : ℕ) (at : Place) (op : BinaryOp) (left right : Expr) → 1 ≤ depth_of right → AreStmts names loops (expr_code o d left) → AreStmts names loops (expr_code o (d + 1) right) →
        d + depth_of (binary at op left right) ≤ o.waiting → AreStmts names loops (expr_code o d (binary at op left right))
    two_well loops d at op left right some a b fit =
        join_well names loops (expr_code o d left) (join (expr_code o (d + 1) right) (operation_code o d at op)) a
        (join_well names loops (expr_code o (d + 1) right) (operation_code o d at op) b (operation_well loops d at op (omega arith)))

    mutual
      expr_well : (loops d : ℕ) (e : Expr) → IsInt ss scope e → d + depth_of e ≤ o.waiting → AreStmts names loops (expr_code o d e)
      expr_well loops d (const at (Int z)) h fit = ((waiting_known d (omega arith), word_fits z h), tt)
      expr_well loops d (const at (Truth b)) h fit = absurd h
      expr_well loops d (local at x) h fit = let small : x < o.first = below x h in ((waiting_known d (omega arith), omega (arith, known.variables, small)), tt)
      expr_well loops d (binary at op left right) h fit =
          two_well loops d at op left right (depth_some ss scope right h.1.1) (expr_well loops d left h.1.0 (omega arith)) (expr_well loops (d + 1) right h.1.1 (omega arith)) fit
      expr_well loops d (call at f arguments) h fit =
          let many : count arguments ≤ depth_of_all arguments = few arguments in
          join_well names loops (exprs_code o d arguments) _ (exprs_well loops d arguments h.1 (omega arith))
          ((waiting_known d (omega arith), (known.called f _ h.0 ∙ ap Some (sym (waiting_count d (count arguments))), waiting_well d (count arguments) (omega arith))), tt)
      expr_well loops d (builtin at which arguments) h fit = absurd h

      exprs_well : (loops d : ℕ) (es : Exprs) → AreInts ss scope es → d + depth_of_all es ≤ o.waiting → AreStmts names loops (exprs_code o d es)
      exprs_well loops d none h fit = tt
      exprs_well loops d (more e es) h fit = join_well names loops (expr_code o d e) (exprs_code o (d + 1) es) (expr_well loops d e h.0 (omega arith)) (exprs_well loops (d + 1) es h.1 (omega arith))

    condition_well : (loops : ℕ) (e : Expr) → IsCondition ss scope e → depth_of e ≤ o.waiting → AreStmts names loops (expr_code o 0 e) × (0 < o.waiting)
    condition_well loops (binary at op left right) h fit =
        let a : 1 ≤ depth_of left = depth_some ss scope left h.1.0 in
        (two_well loops 0 at op left right (depth_some ss scope right h.1.1) (expr_well loops 0 left h.1.0 (omega arith)) (expr_well loops 1 right h.1.1 (omega arith)) (omega arith), omega arith)
    condition_well loops (const at (Int z)) h fit = absurd h
    condition_well loops (const at (Truth b)) h fit = (((waiting_known 0 (omega arith), flag_small b), tt), omega arith)
      where
        flag_small : (b : Bool) → flag b < 2 ^ 64
        flag_small true = lit< tt
        flag_small false = lit< tt
    condition_well loops (local at x) h fit = absurd h
    condition_well loops (call at f arguments) h fit = absurd h
    condition_well loops (builtin at which arguments) h fit = absurd h

    call_well : (loops : ℕ) (e : Expr) → IsCall ss scope e → depth_of e ≤ o.waiting → AreStmts names loops (expr_code o 0 e)
    call_well loops (builtin at Println arguments) h fit =
        let many : count arguments ≤ depth_of_all arguments = few arguments in
        join_well names loops (exprs_code o 0 arguments) (line_code o 0 (count arguments)) (exprs_well loops 0 arguments h (omega arith)) (line_well loops 0 (count arguments) (omega arith))
    call_well loops (const at value) h fit = absurd h
    call_well loops (local at x) h fit = absurd h
    call_well loops (binary at op left right) h fit = absurd h
    call_well loops (call at f arguments) h fit = absurd h

    place_well : (loops : ℕ) (e : Expr) → IsPlace scope e → 0 < o.waiting → AreStmts names loops (place_code o e)
    place_well loops (local at x) h some = let small : x < o.first = below x h in ((omega (arith, known.variables, small), waiting_known 0 some), tt)
    place_well loops (const at value) h some = absurd h
    place_well loops (binary at op left right) h some = absurd h
    place_well loops (call at f arguments) h some = absurd h
    place_well loops (builtin at which arguments) h some = absurd h

  -- ---- statements

  module _ (a : Around) (signed : a.signatures ≡ ss) (many : a.variables ≡ o.first) (answers : 0 < a.results → o.result < o.first) where
    declared_below : (scope : Scope) → AllBelow scope o.first → (s : Stmt) → IsWellStmt a scope s → AllBelow (scope_after scope s) o.first
    declared_below scope below (declare at y value) h x (inl e) = omega (arith, e, h.0.1, many)
    declared_below scope below (declare at y value) h x (inr k) = below x k
    declared_below scope below (eval at value) h x k = below x k
    declared_below scope below (assign at target value) h x k = below x k
    declared_below scope below (choose at condition body) h x k = below x k
    declared_below scope below (repeat at condition body) h x k = below x k
    declared_below scope below (answer at value) h x k = below x k

    mutual
      stmt_well : (loops : ℕ) (scope : Scope) → AllBelow scope o.first → (s : Stmt) → IsWellStmt a scope s → stmt_depth s ≤ o.waiting → AreStmts names loops (stmt_code o s)
      stmt_well loops scope below (eval at value) h fit = call_well scope below loops value (subst (λ (x : List Signature). IsCall x scope value) signed h) fit
      stmt_well loops scope below (declare at x value) h fit =
          let int : IsInt ss scope value = subst (λ (y : List Signature). IsInt y scope value) signed h.1 in
          let some : 1 ≤ depth_of value = depth_some ss scope value int in
          let small : x < o.first = omega (arith, h.0.1, many) in
          join_well names loops (expr_code o 0 value) _ (expr_well scope below loops 0 value int (omega arith)) ((omega (arith, known.variables, small), waiting_known 0 (omega arith)), tt)
      stmt_well loops scope below (assign at target value) h fit =
          let int : IsInt ss scope value = subst (λ (y : List Signature). IsInt y scope value) signed h.1 in
          let some : 1 ≤ depth_of value = depth_some ss scope value int in
          join_well names loops (expr_code o 0 value) (place_code o target) (expr_well scope below loops 0 value int (omega arith)) (place_well scope below loops target h.0 (omega arith))
      stmt_well loops scope below (choose at condition body) h fit =
          let first = condition_well scope below loops condition (subst (λ (y : List Signature). IsCondition y scope condition) signed h.0) (omega arith) in
          join_well names loops (expr_code o 0 condition) _ first.0 ((waiting_known 0 first.1, (stmts_well loops scope below body h.1 (omega arith), tt)), tt)
      stmt_well loops scope below (repeat at condition body) h fit =
          let first = condition_well scope below (suc loops) condition (subst (λ (y : List Signature). IsCondition y scope condition) signed h.0) (omega arith) in
          (join_well names (suc loops) (expr_code o 0 condition) _ first.0 ((waiting_known 0 first.1, (tt, (omega arith, tt))), (lit< tt, stmts_well (suc loops) scope below body h.1 (omega arith))), tt)
      stmt_well loops scope below (answer at value) h fit =
          let int : IsInt ss scope value = subst (λ (y : List Signature). IsInt y scope value) signed h.1 in
          let some : 1 ≤ depth_of value = depth_some ss scope value int in
          let small : o.result < o.first = answers h.0 in
          let place : o.result < names.variables = omega (arith, known.variables, small) in
          join_well names loops (expr_code o 0 value) _ (expr_well scope below loops 0 value int (omega arith)) ((place, waiting_known 0 (omega arith)), (place, tt))

      stmts_well : (loops : ℕ) (scope : Scope) → AllBelow scope o.first → (body : Stmts) → AreWell a scope body → stmts_depth body ≤ o.waiting → AreStmts names loops (stmts_code o body)
      stmts_well loops scope below finish h fit = tt
      stmts_well loops scope below (follow s body) h fit =
          join_well names loops (stmt_code o s) (stmts_code o body) (stmt_well loops scope below s h.0 (omega arith))
          (stmts_well loops (scope_after scope s) (declared_below scope below s h.0) body h.1 (omega arith))

-- ---- procedures and programs

first_below : (n : ℕ) (x : ℕ) → InScope (first_scope n) x → x < n
first_below zero x h = absurd h
first_below (suc n) x (inl e) = omega arith
first_below (suc n) x (inr h) = omega (arith, first_below n x h)

parameters_get : (ps : List Proc) (f : ℕ) (s : Signature) → slice_get (signatures ps) f ≡ Some s → slice_get (parameters_of (map crossed ps)) f ≡ Some s.parameters
parameters_get [] f s e = cc
parameters_get (p ∷ ps) zero s e = ap (λ (o : Option Signature). by o) e
  where
    by : Option Signature → Option ℕ
    by (Some x) = Some x.parameters
    by None = None
parameters_get (p ∷ ps) (suc f) s e = parameters_get ps f s e

module _ (w : Whole) where
  abbrev names : Proc → Names
  names p = names_in (crossed_program w) (crossed p)

  names_known : (p : Proc) → Known (names p) (own_of p) (signatures w.procedures)
  names_known p = record { variables = words_length 0 ((own_of p).first + (own_of p).waiting); called = parameters_get w.procedures }

  -- a result begins and is answered
  begin_well : (p : Proc) (results : List Local) → (0 < length results → (own_of p).result < (own_of p).first) → AreStmts (names p) 0 (begin_code (own_of p) results)
  begin_well p [] h = tt
  begin_well p (r ∷ rs) h = let inside : (own_of p).result < (own_of p).first = h (omega arith) in ((omega (arith, (names_known p).variables, inside), lit< tt), tt)

  end_well : (p : Proc) (results : List Local) → (0 < length results → (own_of p).result < (own_of p).first) → AreStmts (names p) 0 (end_code (own_of p) results)
  end_well p [] h = tt
  end_well p (r ∷ rs) h = let inside : (own_of p).result < (own_of p).first = h (omega arith) in (omega (arith, (names_known p).variables, inside), tt)

  proc_well : (p : Proc) → IsWellSourceProc (signatures w.procedures) p → frame p ≤ 2 ^ 24 → IsWellProc (crossed_program w) (crossed p)
  proc_well p h fits =
      let o : Own = own_of p in
      let answers : 0 < length p.results → o.result < o.first = λ k. omega arith in
      record {
        laid = words_laid (frame p) 0 (o.first + o.waiting) (omega (arith, frame_room p));
        parameters = words_parameters (length p.parameters) 0 (o.first + o.waiting) (omega arith);
        even = rounded_even _;
        fits = fits;
        body = join_well (names p) 0 (begin_code o p.results) _ (begin_well p p.results answers)
            (join_well (names p) 0 (stmts_code o p.body) (end_code o p.results)
            (stmts_well (names p) o (signatures w.procedures) (names_known p) (around (signatures w.procedures) p) refl refl answers
            0 (first_scope (length p.parameters)) (λ x k. omega (arith, first_below (length p.parameters) x k)) p.body h.body (omega arith))
            (end_well p p.results answers));
      }

  procs_well : (ps : List Proc) → AllWellSource (signatures w.procedures) ps → FramesFit ps → AllWell (crossed_program w) (map crossed ps)
  procs_well [] h fits = tt
  procs_well (p ∷ ps) h fits = (proc_well p h.0 fits.0, procs_well ps h.1 fits.1)

main_well : (ps : List Proc) (f : ℕ) (o : Option Proc) → slice_get ps f ≡ o → IsMainSource o → IsMain (slice_get (map crossed ps) f)
main_well ps f None e h = absurd h
main_well ps f (Some p) e h = subst (λ (x : Option CoreProc). IsMain x) (sym (mapped_get ps f p e)) h.0

pub crossed_well : (w : Whole) → IsWellSource w → FramesFit w.procedures → IsWell (crossed_program w)
crossed_well w well fits = record {
  procedures = procs_well w w.procedures well.procedures fits;
  main = main_well w.procedures w.main (slice_get w.procedures w.main) refl well.main;
  store = lit≤ tt;
  bytes = tt;
  low = lit≤ tt;
  addresses = tt;
}
