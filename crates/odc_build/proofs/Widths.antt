-- No call of a source program's code hands over more arguments than a procedure has parameters.
use Rattle.std.proofs.Common.{◌≡◌, ℕ, zero, suc, ◌+◌, ◌≤◌, List, [], ◌∷◌, ◌++◌, length, map, refl, arith, ap}
use Rattle.std.specs.Prelude.{Option, Some, None, slice_get}
use Rattle.std.proofs.lemmas.Option.{slice_get_past}
use Rattle.odc_text.specs.declared.place.Place.{Place}
use Rattle.odc_typed.specs.declared.tree.BinaryOp.{BinaryOp as Operation}
use Rattle.odc_typed.specs.declared.tree.BinaryOp.TheVariants.{Add, Subtract, Multiply, Divide, Remainder, Less, Equal}
use Rattle.odc_typed.specs.declared.tree.Builtin.TheVariants.{Println}
use Rattle.odc_typed.specs.declared.tree.Local.{Local}
use Rattle.odc_typed.specs.Tree.{Expr as Source, const as number, local, binary as operation, call as calling, builtin, Exprs as Sources, none as no_source, more as more_sources}
use Rattle.odc_typed.specs.Tree.{Stmt as SourceStmt, eval as evaluate, declare, assign, choose as choosing, repeat as repeating, answer as answering, Stmts as SourceStmts, finish as ended, follow as before, Proc}
use Rattle.odc_typed.specs.Well.{count as counted}
use Rattle.odc_typed.specs.Well.{Signature, Scope, IsInt, AreInts, IsCondition, IsCall, IsPlace, Around, IsWellStmt, AreWell, IsWellProc, around, first_scope, scope_after}
use Rattle.odc_core.specs.Well.{count}
use Rattle.odc_core.specs.Tree.{Expr, const, slot, address, procedure, load, unary, binary, compare, call, call_value, Exprs, none, more, Stmt, eval, store, copy, zero_bytes, choose, repeat, leave, answer, check, read, write, exit, Stmts, finish, follow}
use Rattle.odc_mid.specs.declared.tree.MidStep.{MidStep}
use Rattle.odc_mid.specs.declared.tree.MidStep.TheVariants.{Const, Address, Move, Unary, Binary, Compare, Load, Store, Jump, Branch, Call, CallValue, Return, Check, System}
use Rattle.odc_lower.specs.Plain.{Step, plain, const_step, unary_step, binary_step, compare_step, load_step, store_step, jump_step, branch_step, call_step, call_value_step, return_step, check_step}
use Rattle.odc_lower.specs.Size.{expr_nodes, stmt_size, stmts_size}
use Rattle.odc_lower.specs.Code.{temps_from, copy_code, zero_code}
use Rattle.odc_lower.specs.Code.{expr_code as expr_steps, exprs_code as exprs_steps, stmt_code as stmt_steps, stmts_code as stmts_steps, parameters_code}
use Rattle.odc_context.specs.Code.{Own, join, one, put, waits, wait, held, all_waiting, place_code, turn_code, print_code, values_code, line_code, newline_code, operation_code, begin_code, end_code, body_code, own_of, expr_code, exprs_code, stmt_code, stmts_code}
use Rattle.odc_context.specs.Code.{count as arguments_of}
use Rattle.rv_emit.specs.Layout.{step_width, steps_width}

-- ---- steps

abbrev pub plain_width : Step → ℕ
plain_width (call_step to f arguments) = length arguments
plain_width (call_value_step to target arguments marked) = length arguments
plain_width _ = 0

abbrev pub AreNarrow : ℕ → List Step → Type 0
AreNarrow n [] = Unit {0}
AreNarrow n (s ∷ ss) = (plain_width s ≤ n) × AreNarrow n ss

same_width : (s : MidStep) → step_width s ≡ plain_width (plain s)
same_width (Const to word) = refl
same_width (Address to of) = refl
same_width (Move to from) = refl
same_width (Unary to op operand) = refl
same_width (Binary to op left right) = refl
same_width (Compare to op left right) = refl
same_width (Load to width a) = refl
same_width (Store width a value) = refl
same_width (Jump label) = refl
same_width (Branch condition label) = refl
same_width (Call to f arguments) = refl
same_width (CallValue to target arguments marked) = refl
same_width (Return value) = refl
same_width (Check condition which at) = refl
same_width (System asked) = refl

pub narrow_steps : (n : ℕ) (ss : List MidStep) → AreNarrow n (map plain ss) → steps_width ss ≤ n
narrow_steps n [] h = omega arith
narrow_steps n (s ∷ ss) h = omega (arith, same_width s, h.0, narrow_steps n ss h.1)

narrow_join : (n : ℕ) (a b : List Step) → AreNarrow n a → AreNarrow n b → AreNarrow n (a ++ b)
narrow_join n [] b p q = q
narrow_join n (s ∷ a) b p q = (p.0, narrow_join n a b p.1 q)

-- ---- core code whose calls are narrow

abbrev mutual
  pub IsNarrow : ℕ → Expr → Type 0
  IsNarrow n (const word) = Unit {0}
  IsNarrow n (slot x) = Unit {0}
  IsNarrow n (address a) = Unit {0}
  IsNarrow n (procedure f) = Unit {0}
  IsNarrow n (load width at) = IsNarrow n at
  IsNarrow n (unary op operand) = IsNarrow n operand
  IsNarrow n (binary op left right) = IsNarrow n left × IsNarrow n right
  IsNarrow n (compare op left right) = IsNarrow n left × IsNarrow n right
  IsNarrow n (call f arguments) = (count arguments ≤ n) × AllNarrow n arguments
  IsNarrow n (call_value target arguments marked) = (count arguments ≤ n) × (IsNarrow n target × AllNarrow n arguments)

  pub AllNarrow : ℕ → Exprs → Type 0
  AllNarrow n none = Unit {0}
  AllNarrow n (more e es) = IsNarrow n e × AllNarrow n es

abbrev mutual
  pub NarrowStmt : ℕ → Stmt → Type 0
  NarrowStmt n (eval value) = IsNarrow n value
  NarrowStmt n (store width to value) = IsNarrow n to × IsNarrow n value
  NarrowStmt n (copy to from size) = IsNarrow n to × (IsNarrow n from × IsNarrow n size)
  NarrowStmt n (zero_bytes to size) = IsNarrow n to × IsNarrow n size
  NarrowStmt n (choose condition first second) = IsNarrow n condition × (NarrowStmts n first × NarrowStmts n second)
  NarrowStmt n (repeat body) = NarrowStmts n body
  NarrowStmt n (leave depth) = Unit {0}
  NarrowStmt n (answer value) = IsNarrow n value
  NarrowStmt n (check condition which place) = IsNarrow n condition
  NarrowStmt n (read to size taken) = IsNarrow n to × (IsNarrow n size × IsNarrow n taken)
  NarrowStmt n (write descriptor from size) = IsNarrow n from × IsNarrow n size
  NarrowStmt n (exit code) = IsNarrow n code

  pub NarrowStmts : ℕ → Stmts → Type 0
  NarrowStmts n finish = Unit {0}
  NarrowStmts n (follow s ss) = NarrowStmt n s × NarrowStmts n ss

temps_length : (d n : ℕ) → length (temps_from d n) ≡ n
temps_length d zero = refl
temps_length d (suc n) = ap suc (temps_length (d + 1) n)

-- a step that is no call
pub quiet : (n : ℕ) → 0 ≤ n
quiet n = omega arith

mutual
  expr_narrow : (n : ℕ) (e : Expr) (d : ℕ) → IsNarrow n e → AreNarrow n (expr_steps d e)
  expr_narrow n (const word) d h = (quiet n, tt)
  expr_narrow n (slot x) d h = (quiet n, tt)
  expr_narrow n (address a) d h = (quiet n, tt)
  expr_narrow n (procedure f) d h = (quiet n, tt)
  expr_narrow n (load width e) d h = narrow_join n (expr_steps d e) (load_step d width d ∷ []) (expr_narrow n e d h) (quiet n, tt)
  expr_narrow n (unary op e) d h = narrow_join n (expr_steps d e) (unary_step d op d ∷ []) (expr_narrow n e d h) (quiet n, tt)
  expr_narrow n (binary op a b) d h =
      narrow_join n (expr_steps d a) (expr_steps (d + 1) b ++ (binary_step d op d (d + 1) ∷ [])) (expr_narrow n a d h.0)
      (narrow_join n (expr_steps (d + 1) b) (binary_step d op d (d + 1) ∷ []) (expr_narrow n b (d + 1) h.1) (quiet n, tt))
  expr_narrow n (compare op a b) d h =
      narrow_join n (expr_steps d a) (expr_steps (d + 1) b ++ (compare_step d op d (d + 1) ∷ [])) (expr_narrow n a d h.0)
      (narrow_join n (expr_steps (d + 1) b) (compare_step d op d (d + 1) ∷ []) (expr_narrow n b (d + 1) h.1) (quiet n, tt))
  expr_narrow n (call f es) d h =
      narrow_join n (exprs_steps d es) (call_step d f (temps_from d (count es)) ∷ []) (exprs_narrow n es d h.1) (omega (arith, temps_length d (count es), h.0), tt)
  expr_narrow n (call_value e es marked) d h =
      narrow_join n (expr_steps d e) (exprs_steps (d + 1) es ++ (call_value_step d d (temps_from (d + 1) (count es)) marked ∷ [])) (expr_narrow n e d h.1.0)
      (narrow_join n (exprs_steps (d + 1) es) (call_value_step d d (temps_from (d + 1) (count es)) marked ∷ []) (exprs_narrow n es (d + 1) h.1.1)
      (omega (arith, temps_length (d + 1) (count es), h.0), tt))

  exprs_narrow : (n : ℕ) (es : Exprs) (d : ℕ) → AllNarrow n es → AreNarrow n (exprs_steps d es)
  exprs_narrow n none d h = tt
  exprs_narrow n (more e es) d h = narrow_join n (expr_steps d e) (exprs_steps (d + 1) es) (expr_narrow n e d h.0) (exprs_narrow n es (d + 1) h.1)

-- steps without calls
abbrev widths : List Step → ℕ
widths [] = 0
widths (s ∷ ss) = plain_width s + widths ss

quiet_narrow : (n : ℕ) (ss : List Step) → widths ss ≡ 0 → AreNarrow n ss
quiet_narrow n [] h = tt
quiet_narrow n (s ∷ ss) h = (omega (arith, h), quiet_narrow n ss (omega (arith, h)))

copy_narrow : (n d p : ℕ) → AreNarrow n (copy_code d p)
copy_narrow n d p = quiet_narrow n (copy_code d p) refl

zero_narrow : (n d p : ℕ) → AreNarrow n (zero_code d p)
zero_narrow n d p = quiet_narrow n (zero_code d p) refl

mutual
  stmt_narrow : (n : ℕ) (s : Stmt) (d : ℕ) (exits : List ℕ) (p : ℕ) → NarrowStmt n s → AreNarrow n (stmt_steps d exits p s)
  stmt_narrow n (eval value) d exits p h = expr_narrow n value d h
  stmt_narrow n (store width to value) d exits p h =
      narrow_join n (expr_steps d to) (expr_steps (d + 1) value ++ (store_step width d (d + 1) ∷ [])) (expr_narrow n to d h.0)
      (narrow_join n (expr_steps (d + 1) value) (store_step width d (d + 1) ∷ []) (expr_narrow n value (d + 1) h.1) (quiet n, tt))
  stmt_narrow n (copy to from size) d exits p h =
      let q : ℕ = p + expr_nodes to + expr_nodes from + expr_nodes size in
      narrow_join n (expr_steps d to) (expr_steps (d + 1) from ++ (expr_steps (d + 2) size ++ copy_code d q)) (expr_narrow n to d h.0)
      (narrow_join n (expr_steps (d + 1) from) (expr_steps (d + 2) size ++ copy_code d q) (expr_narrow n from (d + 1) h.1.0)
      (narrow_join n (expr_steps (d + 2) size) (copy_code d q) (expr_narrow n size (d + 2) h.1.1) (copy_narrow n d q)))
  stmt_narrow n (zero_bytes to size) d exits p h =
      let q : ℕ = p + expr_nodes to + expr_nodes size in
      narrow_join n (expr_steps d to) (expr_steps (d + 1) size ++ zero_code d q) (expr_narrow n to d h.0)
      (narrow_join n (expr_steps (d + 1) size) (zero_code d q) (expr_narrow n size (d + 1) h.1) (zero_narrow n d q))
  stmt_narrow n (choose condition first second) d exits p h =
      let other : ℕ = p + expr_nodes condition + 1 in
      let begin : ℕ = other + stmts_size second + 1 in
      narrow_join n (expr_steps d condition) (branch_step d begin ∷ (stmts_steps d exits other second ++ (jump_step (begin + stmts_size first) ∷ stmts_steps d exits begin first)))
      (expr_narrow n condition d h.0) (
        quiet n,
        narrow_join n (stmts_steps d exits other second) (jump_step (begin + stmts_size first) ∷ stmts_steps d exits begin first) (stmts_narrow n second d exits other h.1.1)
            (quiet n, stmts_narrow n first d exits begin h.1.0),
      )
  stmt_narrow n (repeat body) d exits p h =
      let inner : List ℕ = (p + 1 + stmts_size body + 1) ∷ exits in
      (quiet n, narrow_join n (stmts_steps d inner (p + 1) body) (jump_step (p + 1) ∷ []) (stmts_narrow n body d inner (p + 1) h) (quiet n, tt))
  stmt_narrow n (leave depth) d exits p h = (quiet n, tt)
  stmt_narrow n (answer value) d exits p h = narrow_join n (expr_steps d value) (return_step d ∷ []) (expr_narrow n value d h) (quiet n, tt)
  stmt_narrow n (check condition which place) d exits p h = narrow_join n (expr_steps d condition) (check_step d which place ∷ []) (expr_narrow n condition d h) (quiet n, tt)
  stmt_narrow n (read to size taken) d exits p h =
      narrow_join n (expr_steps d to) _ (expr_narrow n to d h.0)
      (narrow_join n (expr_steps (d + 1) size) _ (expr_narrow n size (d + 1) h.1.0)
      (narrow_join n (expr_steps (d + 2) taken) _ (expr_narrow n taken (d + 2) h.1.1) (quiet n, (quiet n, tt))))
  stmt_narrow n (write descriptor from size) d exits p h =
      narrow_join n (expr_steps d from) _ (expr_narrow n from d h.0)
      (narrow_join n (expr_steps (d + 1) size) _ (expr_narrow n size (d + 1) h.1) (quiet n, tt))
  stmt_narrow n (exit code) d exits p h = narrow_join n (expr_steps d code) _ (expr_narrow n code d h) (quiet n, tt)

  pub stmts_narrow : (n : ℕ) (ss : Stmts) (d : ℕ) (exits : List ℕ) (p : ℕ) → NarrowStmts n ss → AreNarrow n (stmts_steps d exits p ss)
  stmts_narrow n finish d exits p h = tt
  stmts_narrow n (follow s ss) d exits p h =
      narrow_join n (stmt_steps d exits p s) (stmts_steps d exits (p + stmt_size s) ss) (stmt_narrow n s d exits p h.0) (stmts_narrow n ss d exits (p + stmt_size s) h.1)

pub parameters_narrow : (n d i k : ℕ) → AreNarrow n (parameters_code d i k)
parameters_narrow n d i zero = tt
parameters_narrow n d i (suc k) = (quiet n, (quiet n, parameters_narrow n d (i + 1) k))

-- the steps of a procedure
pub proc_narrow : (n : ℕ) (ss : Stmts) (k d : ℕ) (exits : List ℕ) (p : ℕ) → NarrowStmts n ss →
    AreNarrow n (parameters_code k 0 k ++ (stmts_steps d exits p ss ++ (const_step d 0 ∷ return_step d ∷ [])))
proc_narrow n ss k d exits p h =
    narrow_join n (parameters_code k 0 k) (stmts_steps d exits p ss ++ (const_step d 0 ∷ return_step d ∷ [])) (parameters_narrow n k 0 k)
    (narrow_join n (stmts_steps d exits p ss) (const_step d 0 ∷ return_step d ∷ []) (stmts_narrow n ss d exits p h) (quiet n, (quiet n, tt)))

-- ---- the core code of a source program

join_narrow : (n : ℕ) (a b : Stmts) → NarrowStmts n a → NarrowStmts n b → NarrowStmts n (join a b)
join_narrow n finish b p q = q
join_narrow n (follow s a) b p q = (p.0, join_narrow n a b p.1 q)

-- no procedure has more parameters
abbrev pub AtMost : ℕ → List Signature → Type 0
AtMost n [] = Unit {0}
AtMost n (s ∷ ss) = (s.parameters ≤ n) × AtMost n ss

-- how many parameters a procedure that is there has
abbrev parameters_in : Option Signature → ℕ
parameters_in None = 0
parameters_in (Some s) = s.parameters

at_most : (n : ℕ) (ss : List Signature) (f : ℕ) → AtMost n ss → parameters_in (slice_get ss f) ≤ n
at_most n [] f all =
    let empty : List Signature = [] in
    let none : parameters_in (slice_get empty f) ≡ 0 = ap parameters_in (slice_get_past empty f (omega arith)) in
    omega (arith, none)
at_most n (s ∷ ss) zero all = all.0
at_most n (s ∷ ss) (suc f) all = at_most n ss f all.1

callee_narrow : (n : ℕ) (ss : List Signature) (f k : ℕ) → AtMost n ss → slice_get ss f ≡ Some (record { parameters = k; results = 1 }) → k ≤ n
callee_narrow n ss f k all e = omega (arith, at_most n ss f all, ap parameters_in e)

waiting_count : (o : Own) (d n : ℕ) → count (all_waiting o d n) ≡ n
waiting_count o d zero = refl
waiting_count o d (suc n) = ap suc (waiting_count o (d + 1) n)

waiting_narrow : (m : ℕ) (o : Own) (d n : ℕ) → AllNarrow m (all_waiting o d n)
waiting_narrow m o d zero = tt
waiting_narrow m o d (suc n) = (tt, waiting_narrow m o (d + 1) n)

print_narrow : (n : ℕ) (o : Own) (d b : ℕ) → NarrowStmts n (print_code o d b)
print_narrow n o d b = search

values_narrow : (n : ℕ) (o : Own) (d k : ℕ) → NarrowStmts n (values_code o d k)
values_narrow n o d zero = tt
values_narrow n o d (suc zero) = print_narrow n o d 10
values_narrow n o d (suc (suc k)) = join_narrow n (print_code o d 32) (values_code o (d + 1) (suc k)) (print_narrow n o d 32) (values_narrow n o (d + 1) (suc k))

newline_narrow : (n : ℕ) (o : Own) → NarrowStmts n (newline_code o)
newline_narrow n o = search

line_narrow : (n : ℕ) (o : Own) (d k : ℕ) → NarrowStmts n (line_code o d k)
line_narrow n o d zero = newline_narrow n o
line_narrow n o d (suc k) = values_narrow n o d (suc k)

operation_narrow : (n : ℕ) (o : Own) (d : ℕ) (at : Place) (op : Operation) → NarrowStmts n (operation_code o d at op)
operation_narrow n o d at Add = search
operation_narrow n o d at Subtract = search
operation_narrow n o d at Multiply = search
operation_narrow n o d at Divide = search
operation_narrow n o d at Remainder = search
operation_narrow n o d at Less = search
operation_narrow n o d at Equal = search

-- the two ways of counting arguments
same_count : (es : Sources) → arguments_of es ≡ counted es
same_count no_source = refl
same_count (more_sources e es) = ap suc (same_count es)

module _ (n : ℕ) (ss : List Signature) (most : AtMost n ss) (o : Own) where
  mutual
    int_narrow : (scope : Scope) (e : Source) (d : ℕ) → IsInt ss scope e → NarrowStmts n (expr_code o d e)
    int_narrow scope (number at value) d h = search
    int_narrow scope (local at x) d h = search
    int_narrow scope (operation at op left right) d h =
        join_narrow n (expr_code o d left) (join (expr_code o (d + 1) right) (operation_code o d at op)) (int_narrow scope left d h.1.0)
        (join_narrow n (expr_code o (d + 1) right) (operation_code o d at op) (int_narrow scope right (d + 1) h.1.1) (operation_narrow n o d at op))
    int_narrow scope (calling at f arguments) d h =
        let k : ℕ = arguments_of arguments in
        join_narrow n (exprs_code o d arguments) (one (wait o d (call f (all_waiting o d k)))) (ints_narrow scope arguments d h.1)
        ((tt, (omega (arith, waiting_count o d k, same_count arguments, callee_narrow n ss f (counted arguments) most h.0), waiting_narrow n o d k)), tt)
    int_narrow scope (builtin at which arguments) d h = absurd h

    ints_narrow : (scope : Scope) (es : Sources) (d : ℕ) → AreInts ss scope es → NarrowStmts n (exprs_code o d es)
    ints_narrow scope no_source d h = tt
    ints_narrow scope (more_sources e es) d h = join_narrow n (expr_code o d e) (exprs_code o (d + 1) es) (int_narrow scope e d h.0) (ints_narrow scope es (d + 1) h.1)

  condition_narrow : (scope : Scope) (e : Source) → IsCondition ss scope e → NarrowStmts n (expr_code o 0 e)
  condition_narrow scope (number at value) h = search
  condition_narrow scope (local at x) h = absurd h
  condition_narrow scope (operation at op left right) h =
      join_narrow n (expr_code o 0 left) (join (expr_code o 1 right) (operation_code o 0 at op)) (int_narrow scope left 0 h.1.0)
      (join_narrow n (expr_code o 1 right) (operation_code o 0 at op) (int_narrow scope right 1 h.1.1) (operation_narrow n o 0 at op))
  condition_narrow scope (calling at f arguments) h = absurd h
  condition_narrow scope (builtin at which arguments) h = absurd h

  call_narrow : (scope : Scope) (e : Source) → IsCall ss scope e → NarrowStmts n (expr_code o 0 e)
  call_narrow scope (number at value) h = absurd h
  call_narrow scope (local at x) h = absurd h
  call_narrow scope (operation at op left right) h = absurd h
  call_narrow scope (calling at f arguments) h = absurd h
  call_narrow scope (builtin at Println arguments) h =
      join_narrow n (exprs_code o 0 arguments) (line_code o 0 (arguments_of arguments)) (ints_narrow scope arguments 0 h) (line_narrow n o 0 (arguments_of arguments))

  place_narrow : (scope : Scope) (e : Source) → IsPlace scope e → NarrowStmts n (place_code o e)
  place_narrow scope (number at value) h = absurd h
  place_narrow scope (local at x) h = search
  place_narrow scope (operation at op left right) h = absurd h
  place_narrow scope (calling at f arguments) h = absurd h
  place_narrow scope (builtin at which arguments) h = absurd h

module _ (n : ℕ) (a : Around) (most : AtMost n a.signatures) (o : Own) where
  mutual
    line_of_narrow : (scope : Scope) (s : SourceStmt) → IsWellStmt a scope s → NarrowStmts n (stmt_code o s)
    line_of_narrow scope (evaluate at value) h = call_narrow n a.signatures most o scope value h
    line_of_narrow scope (declare at x value) h =
        join_narrow n (expr_code o 0 value) (one (put x (waits o 0))) (int_narrow n a.signatures most o scope value 0 h.1) search
    line_of_narrow scope (assign at target value) h =
        join_narrow n (expr_code o 0 value) (place_code o target) (int_narrow n a.signatures most o scope value 0 h.1) (place_narrow n a.signatures most o scope target h.0)
    line_of_narrow scope (choosing at condition body) h =
        join_narrow n (expr_code o 0 condition) (one (choose (waits o 0) (stmts_code o body) finish)) (condition_narrow n a.signatures most o scope condition h.0)
        ((tt, (lines_of_narrow scope body h.1, tt)), tt)
    line_of_narrow scope (repeating at condition body) h = (
      join_narrow n (expr_code o 0 condition) (follow (choose (waits o 0) finish (one (leave 0))) (follow turn_code (stmts_code o body))) (condition_narrow n a.signatures most o scope condition h.0)
          ((tt, (tt, (tt, tt))), (tt, lines_of_narrow scope body h.1)),
      tt,
    )
    line_of_narrow scope (answering at value) h =
        join_narrow n (expr_code o 0 value) (follow (put o.result (waits o 0)) (one (answer (held o.result)))) (int_narrow n a.signatures most o scope value 0 h.1) search

    lines_of_narrow : (scope : Scope) (ss : SourceStmts) → AreWell a scope ss → NarrowStmts n (stmts_code o ss)
    lines_of_narrow scope ended h = tt
    lines_of_narrow scope (before s ss) h = join_narrow n (stmt_code o s) (stmts_code o ss) (line_of_narrow scope s h.0) (lines_of_narrow (scope_after scope s) ss h.1)

begin_narrow : (n : ℕ) (o : Own) (rs : List Local) → NarrowStmts n (begin_code o rs)
begin_narrow n o [] = tt
begin_narrow n o (r ∷ rs) = search

end_narrow : (n : ℕ) (o : Own) (rs : List Local) → NarrowStmts n (end_code o rs)
end_narrow n o [] = tt
end_narrow n o (r ∷ rs) = search

pub body_narrow : (n : ℕ) (ss : List Signature) (p : Proc) → AtMost n ss → IsWellProc ss p → NarrowStmts n (body_code p)
body_narrow n ss p most h =
    let o : Own = own_of p in
    join_narrow n (begin_code o p.results) (join (stmts_code o p.body) (end_code o p.results)) (begin_narrow n o p.results)
    (join_narrow n (stmts_code o p.body) (end_code o p.results) (lines_of_narrow n (around ss p) most o (first_scope (length p.parameters)) p.body h.body) (end_narrow n o p.results))
