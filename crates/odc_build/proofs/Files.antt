-- Each site of a program lies in one of the files in which its nodes lie.
use Rattle.std.proofs.Common.{◌≡◌, ℕ, zero, suc, ◌+◌, ◌*◌, ◌<◌, ◌≤◌, List, [], ◌∷◌, ◌++◌, length, map, refl, arith, ap, sym, subst}
use Rattle.odc_text.specs.declared.place.Place.{Place}
use Rattle.odc_typed.specs.declared.tree.BinaryOp.{BinaryOp as Operation}
use Rattle.odc_typed.specs.declared.tree.BinaryOp.TheVariants.{Add, Subtract, Multiply, Divide, Remainder, Less, Equal}
use Rattle.odc_typed.specs.declared.tree.Builtin.TheVariants.{Println}
use Rattle.odc_typed.specs.declared.tree.Local.{Local}
use Rattle.odc_typed.specs.Tree.{Expr as Source, const as number, local, binary as operation, call as calling, builtin, Exprs as Sources, none as no_source, more as more_sources}
use Rattle.odc_typed.specs.Tree.{Stmt as SourceStmt, eval as evaluate, declare, assign, choose as choosing, repeat as repeating, answer as answering, Stmts as SourceStmts, finish as ended, follow as before, Proc}
use Rattle.odc_core.specs.Tree.{Expr, const, slot, address, procedure, load, unary, binary, compare, call, call_value, Exprs, none, more, Stmt, eval, store, copy, zero_bytes, choose, repeat, leave, answer, check, read, write, exit, Stmts, finish, follow}
use Rattle.odc_core.specs.Well.{count}
use Rattle.odc_mid.specs.declared.tree.MidStep.{MidStep}
use Rattle.odc_mid.specs.declared.tree.MidStep.TheVariants.{Const, Address, Move, Unary, Binary, Compare, Load, Store, Jump, Branch, Call, CallValue, Return, Check, System}
use Rattle.odc_mid.specs.Tree.{Proc as MidProc}
use Rattle.odc_lower.specs.Plain.{Step, PlainProc, plain, plain_proc, const_step, address_step, move_step, unary_step, binary_step, compare_step, load_step, store_step, jump_step, branch_step, call_step, call_value_step, return_step, check_step, system_step}
use Rattle.odc_lower.specs.Size.{expr_nodes, stmt_size, stmts_size}
use Rattle.odc_lower.specs.Code.{temps_from, copy_code, zero_code, parameters_code, procedure_code}
use Rattle.odc_lower.specs.Code.{expr_code as expr_steps, exprs_code as exprs_steps, stmt_code as stmt_steps, stmts_code as stmts_steps}
use Rattle.odc_lower.specs.Lowered.{lowered}
use Rattle.odc_context.specs.Code.{Own, join, one, put, waits, wait, held, all_waiting, place_code, turn_code, test_code, answer_code, print_code, values_code, line_code, newline_code, operation_code, begin_code, end_code, body_code, own_of, expr_code, exprs_code, stmt_code, stmts_code, crossed}
use Rattle.odc_context.specs.Code.{count as arguments_of}
use Rattle.rv_table.specs.Run.{Site}
use Rattle.rv_emit.specs.Code.{step_sites, steps_sites, proc_sites, procs_sites}
use Rattle.rv_link.specs.Linked.{IsInFiles as IsSiteIn}
use Rattle.odc_build.specs.Files.{IsInFiles, ExprIn, ExprsIn, StmtIn, StmtsIn, ProcIn, AllIn}
use Rattle.odc_build.proofs.Limits.{AllBecome}

-- ---- steps

-- the checks among them stand in these files
abbrev StepIn : ℕ → Step → Type 0
StepIn n (check_step condition which at) = IsInFiles n at
StepIn n (const_step to word) = Unit {0}
StepIn n (address_step to of) = Unit {0}
StepIn n (move_step to from) = Unit {0}
StepIn n (unary_step to op operand) = Unit {0}
StepIn n (binary_step to op left right) = Unit {0}
StepIn n (compare_step to op left right) = Unit {0}
StepIn n (load_step to width a) = Unit {0}
StepIn n (store_step width a value) = Unit {0}
StepIn n (jump_step label) = Unit {0}
StepIn n (branch_step condition label) = Unit {0}
StepIn n (call_step to f arguments) = Unit {0}
StepIn n (call_value_step to target arguments marked) = Unit {0}
StepIn n (return_step value) = Unit {0}
StepIn n (system_step asked) = Unit {0}

abbrev StepsIn : ℕ → List Step → Type 0
StepsIn n [] = Unit {0}
StepsIn n (s ∷ ss) = StepIn n s × StepsIn n ss

join_steps : (n : ℕ) (a b : List Step) → StepsIn n a → StepsIn n b → StepsIn n (a ++ b)
join_steps n [] b p q = q
join_steps n (s ∷ a) b p q = (p.0, join_steps n a b p.1 q)

mutual
  expr_in : (n : ℕ) (e : Expr) (d : ℕ) → StepsIn n (expr_steps d e)
  expr_in n (const word) d = (tt, tt)
  expr_in n (slot x) d = (tt, tt)
  expr_in n (address a) d = (tt, tt)
  expr_in n (procedure f) d = (tt, tt)
  expr_in n (load width e) d = join_steps n (expr_steps d e) (load_step d width d ∷ []) (expr_in n e d) (tt, tt)
  expr_in n (unary op e) d = join_steps n (expr_steps d e) (unary_step d op d ∷ []) (expr_in n e d) (tt, tt)
  expr_in n (binary op a b) d =
      join_steps n (expr_steps d a) (expr_steps (d + 1) b ++ (binary_step d op d (d + 1) ∷ [])) (expr_in n a d)
      (join_steps n (expr_steps (d + 1) b) (binary_step d op d (d + 1) ∷ []) (expr_in n b (d + 1)) (tt, tt))
  expr_in n (compare op a b) d =
      join_steps n (expr_steps d a) (expr_steps (d + 1) b ++ (compare_step d op d (d + 1) ∷ [])) (expr_in n a d)
      (join_steps n (expr_steps (d + 1) b) (compare_step d op d (d + 1) ∷ []) (expr_in n b (d + 1)) (tt, tt))
  expr_in n (call f es) d = join_steps n (exprs_steps d es) (call_step d f (temps_from d (count es)) ∷ []) (exprs_in n es d) (tt, tt)
  expr_in n (call_value e es marked) d =
      join_steps n (expr_steps d e) (exprs_steps (d + 1) es ++ (call_value_step d d (temps_from (d + 1) (count es)) marked ∷ [])) (expr_in n e d)
      (join_steps n (exprs_steps (d + 1) es) (call_value_step d d (temps_from (d + 1) (count es)) marked ∷ []) (exprs_in n es (d + 1)) (tt, tt))

  exprs_in : (n : ℕ) (es : Exprs) (d : ℕ) → StepsIn n (exprs_steps d es)
  exprs_in n none d = tt
  exprs_in n (more e es) d = join_steps n (expr_steps d e) (exprs_steps (d + 1) es) (expr_in n e d) (exprs_in n es (d + 1))

-- steps without checks
copy_in : (n d p : ℕ) → StepsIn n (copy_code d p)
copy_in n d p = search

zero_in : (n d p : ℕ) → StepsIn n (zero_code d p)
zero_in n d p = search

-- ---- core code whose checks stand in these files

abbrev mutual
  CoreIn : ℕ → Stmt → Type 0
  CoreIn n (eval value) = Unit {0}
  CoreIn n (store width to value) = Unit {0}
  CoreIn n (copy to from size) = Unit {0}
  CoreIn n (zero_bytes to size) = Unit {0}
  CoreIn n (choose condition first second) = CoresIn n first × CoresIn n second
  CoreIn n (repeat body) = CoresIn n body
  CoreIn n (leave depth) = Unit {0}
  CoreIn n (answer value) = Unit {0}
  CoreIn n (check condition which place) = IsInFiles n place
  CoreIn n (read to size taken) = Unit {0}
  CoreIn n (write descriptor from size) = Unit {0}
  CoreIn n (exit code) = Unit {0}

  CoresIn : ℕ → Stmts → Type 0
  CoresIn n finish = Unit {0}
  CoresIn n (follow s ss) = CoreIn n s × CoresIn n ss

mutual
  stmt_in : (n : ℕ) (s : Stmt) (d : ℕ) (exits : List ℕ) (p : ℕ) → CoreIn n s → StepsIn n (stmt_steps d exits p s)
  stmt_in n (eval value) d exits p h = expr_in n value d
  stmt_in n (store width to value) d exits p h =
      join_steps n (expr_steps d to) (expr_steps (d + 1) value ++ (store_step width d (d + 1) ∷ [])) (expr_in n to d)
      (join_steps n (expr_steps (d + 1) value) (store_step width d (d + 1) ∷ []) (expr_in n value (d + 1)) (tt, tt))
  stmt_in n (copy to from size) d exits p h =
      let q : ℕ = p + expr_nodes to + expr_nodes from + expr_nodes size in
      join_steps n (expr_steps d to) (expr_steps (d + 1) from ++ (expr_steps (d + 2) size ++ copy_code d q)) (expr_in n to d)
      (join_steps n (expr_steps (d + 1) from) (expr_steps (d + 2) size ++ copy_code d q) (expr_in n from (d + 1))
      (join_steps n (expr_steps (d + 2) size) (copy_code d q) (expr_in n size (d + 2)) (copy_in n d q)))
  stmt_in n (zero_bytes to size) d exits p h =
      let q : ℕ = p + expr_nodes to + expr_nodes size in
      join_steps n (expr_steps d to) (expr_steps (d + 1) size ++ zero_code d q) (expr_in n to d)
      (join_steps n (expr_steps (d + 1) size) (zero_code d q) (expr_in n size (d + 1)) (zero_in n d q))
  stmt_in n (choose condition first second) d exits p h =
      let other : ℕ = p + expr_nodes condition + 1 in
      let begin : ℕ = other + stmts_size second + 1 in
      join_steps n (expr_steps d condition) (branch_step d begin ∷ (stmts_steps d exits other second ++ (jump_step (begin + stmts_size first) ∷ stmts_steps d exits begin first)))
      (expr_in n condition d) (
        tt,
        join_steps n (stmts_steps d exits other second) (jump_step (begin + stmts_size first) ∷ stmts_steps d exits begin first) (stmts_in n second d exits other h.1)
            (tt, stmts_in n first d exits begin h.0),
      )
  stmt_in n (repeat body) d exits p h =
      let inner : List ℕ = (p + 1 + stmts_size body + 1) ∷ exits in
      (tt, join_steps n (stmts_steps d inner (p + 1) body) (jump_step (p + 1) ∷ []) (stmts_in n body d inner (p + 1) h) (tt, tt))
  stmt_in n (leave depth) d exits p h = (tt, tt)
  stmt_in n (answer value) d exits p h = join_steps n (expr_steps d value) (return_step d ∷ []) (expr_in n value d) (tt, tt)
  stmt_in n (check condition which place) d exits p h = join_steps n (expr_steps d condition) (check_step d which place ∷ []) (expr_in n condition d) (h, tt)
  stmt_in n (read to size taken) d exits p h =
      join_steps n (expr_steps d to) _ (expr_in n to d)
      (join_steps n (expr_steps (d + 1) size) _ (expr_in n size (d + 1)) (join_steps n (expr_steps (d + 2) taken) _ (expr_in n taken (d + 2)) (tt, (tt, tt))))
  stmt_in n (write descriptor from size) d exits p h =
      join_steps n (expr_steps d from) _ (expr_in n from d) (join_steps n (expr_steps (d + 1) size) _ (expr_in n size (d + 1)) (tt, tt))
  stmt_in n (exit code) d exits p h = join_steps n (expr_steps d code) _ (expr_in n code d) (tt, tt)

  stmts_in : (n : ℕ) (ss : Stmts) (d : ℕ) (exits : List ℕ) (p : ℕ) → CoresIn n ss → StepsIn n (stmts_steps d exits p ss)
  stmts_in n finish d exits p h = tt
  stmts_in n (follow s ss) d exits p h =
      join_steps n (stmt_steps d exits p s) (stmts_steps d exits (p + stmt_size s) ss) (stmt_in n s d exits p h.0) (stmts_in n ss d exits (p + stmt_size s) h.1)

parameters_in : (n d i k : ℕ) → StepsIn n (parameters_code d i k)
parameters_in n d i zero = tt
parameters_in n d i (suc k) = (tt, (tt, parameters_in n d (i + 1) k))

-- ---- the core code of a source program

join_in : (n : ℕ) (a b : Stmts) → CoresIn n a → CoresIn n b → CoresIn n (join a b)
join_in n finish b p q = q
join_in n (follow s a) b p q = (p.0, join_in n a b p.1 q)

print_in : (n : ℕ) (o : Own) (d b : ℕ) → CoresIn n (print_code o d b)
print_in n o d b = search

values_in : (n : ℕ) (o : Own) (d k : ℕ) → CoresIn n (values_code o d k)
values_in n o d zero = tt
values_in n o d (suc zero) = print_in n o d 10
values_in n o d (suc (suc k)) = join_in n (print_code o d 32) (values_code o (d + 1) (suc k)) (print_in n o d 32) (values_in n o (d + 1) (suc k))

line_in : (n : ℕ) (o : Own) (d k : ℕ) → CoresIn n (line_code o d k)
line_in n o d zero = search
line_in n o d (suc k) = values_in n o d (suc k)

operation_in : (n : ℕ) (o : Own) (d : ℕ) (at : Place) (op : Operation) → IsInFiles n at → CoresIn n (operation_code o d at op)
operation_in n o d at Add h = (tt, tt)
operation_in n o d at Subtract h = (tt, tt)
operation_in n o d at Multiply h = (tt, tt)
operation_in n o d at Divide h = (h, (tt, tt))
operation_in n o d at Remainder h = (h, (tt, tt))
operation_in n o d at Less h = (tt, tt)
operation_in n o d at Equal h = (tt, tt)

mutual
  source_in : (n : ℕ) (o : Own) (e : Source) (d : ℕ) → ExprIn n e → CoresIn n (expr_code o d e)
  source_in n o (number at value) d h = (tt, tt)
  source_in n o (local at x) d h = (tt, tt)
  source_in n o (operation at op left right) d h =
      join_in n (expr_code o d left) (join (expr_code o (d + 1) right) (operation_code o d at op)) (source_in n o left d h.1.0)
      (join_in n (expr_code o (d + 1) right) (operation_code o d at op) (source_in n o right (d + 1) h.1.1) (operation_in n o d at op h.0))
  source_in n o (calling at f arguments) d h =
      join_in n (exprs_code o d arguments) (one (wait o d (call f (all_waiting o d (arguments_of arguments))))) (sources_in n o arguments d h.1) (tt, tt)
  source_in n o (builtin at Println arguments) d h =
      join_in n (exprs_code o d arguments) (line_code o d (arguments_of arguments)) (sources_in n o arguments d h.1) (line_in n o d (arguments_of arguments))

  sources_in : (n : ℕ) (o : Own) (es : Sources) (d : ℕ) → ExprsIn n es → CoresIn n (exprs_code o d es)
  sources_in n o no_source d h = tt
  sources_in n o (more_sources e es) d h = join_in n (expr_code o d e) (exprs_code o (d + 1) es) (source_in n o e d h.0) (sources_in n o es (d + 1) h.1)

place_in : (n : ℕ) (o : Own) (e : Source) → CoresIn n (place_code o e)
place_in n o (number at value) = tt
place_in n o (local at x) = (tt, tt)
place_in n o (operation at op left right) = tt
place_in n o (calling at f arguments) = tt
place_in n o (builtin at which arguments) = tt

mutual
  line_of_in : (n : ℕ) (o : Own) (s : SourceStmt) → StmtIn n s → CoresIn n (stmt_code o s)
  line_of_in n o (evaluate at value) h = source_in n o value 0 h.1
  line_of_in n o (declare at x value) h = join_in n (expr_code o 0 value) (one (put x (waits o 0))) (source_in n o value 0 h.1) (tt, tt)
  line_of_in n o (assign at target value) h = join_in n (expr_code o 0 value) (place_code o target) (source_in n o value 0 h.1.1) (place_in n o target)
  line_of_in n o (choosing at condition body) h =
      join_in n (expr_code o 0 condition) (one (choose (waits o 0) (stmts_code o body) finish)) (source_in n o condition 0 h.1.0) ((lines_of_in n o body h.1.1, tt), tt)
  line_of_in n o (repeating at condition body) h = (
    join_in n (expr_code o 0 condition) (follow (choose (waits o 0) finish (one (leave 0))) (follow turn_code (stmts_code o body))) (source_in n o condition 0 h.1.0)
        ((tt, (tt, tt)), (tt, lines_of_in n o body h.1.1)),
    tt,
  )
  line_of_in n o (answering at value) h =
      join_in n (expr_code o 0 value) (follow (put o.result (waits o 0)) (one (answer (held o.result)))) (source_in n o value 0 h.1) (tt, (tt, tt))

  lines_of_in : (n : ℕ) (o : Own) (ss : SourceStmts) → StmtsIn n ss → CoresIn n (stmts_code o ss)
  lines_of_in n o ended h = tt
  lines_of_in n o (before s ss) h = join_in n (stmt_code o s) (stmts_code o ss) (line_of_in n o s h.0) (lines_of_in n o ss h.1)

begin_in : (n : ℕ) (o : Own) (rs : List Local) → CoresIn n (begin_code o rs)
begin_in n o [] = tt
begin_in n o (r ∷ rs) = (tt, tt)

end_in : (n : ℕ) (o : Own) (rs : List Local) → CoresIn n (end_code o rs)
end_in n o [] = tt
end_in n o (r ∷ rs) = (tt, tt)

body_in : (n : ℕ) (p : Proc) → StmtsIn n p.body → CoresIn n (body_code p)
body_in n p h =
    let o : Own = own_of p in
    join_in n (begin_code o p.results) (join (stmts_code o p.body) (end_code o p.results)) (begin_in n o p.results)
    (join_in n (stmts_code o p.body) (end_code o p.results) (lines_of_in n o p.body h) (end_in n o p.results))

-- ---- sites

abbrev pub SitesIn : ℕ → List Site → Type 0
SitesIn n [] = Unit {0}
SitesIn n (s ∷ ss) = IsSiteIn n s × SitesIn n ss

join_sites : (n : ℕ) (a b : List Site) → SitesIn n a → SitesIn n b → SitesIn n (a ++ b)
join_sites n [] b p q = q
join_sites n (s ∷ a) b p q = (p.0, join_sites n a b p.1 q)

step_in : (n : ℕ) (s : MidStep) → StepIn n (plain s) → SitesIn n (step_sites s)
step_in n (Const to word) h = tt
step_in n (Address to of) h = tt
step_in n (Move to from) h = tt
step_in n (Unary to op operand) h = tt
step_in n (Binary to op left right) h = tt
step_in n (Compare to op left right) h = tt
step_in n (Load to width a) h = tt
step_in n (Store width a value) h = tt
step_in n (Jump label) h = tt
step_in n (Branch condition label) h = tt
step_in n (Call to f arguments) h = tt
step_in n (CallValue to target arguments marked) h = tt
step_in n (Return value) h = tt
step_in n (Check condition which at) h = (h, tt)
step_in n (System asked) h = tt

steps_in : (n : ℕ) (ss : List MidStep) → StepsIn n (map plain ss) → SitesIn n (steps_sites ss)
steps_in n [] h = tt
steps_in n (s ∷ ss) h = join_sites n (step_sites s) (steps_sites ss) (step_in n s h.0) (steps_in n ss h.1)

proc_in : (n : ℕ) (p : Proc) (q : MidProc) → ProcIn n p → plain_proc q ≡ lowered (crossed p) → SitesIn n (proc_sites q)
proc_in n p q h e =
    let k : ℕ = length p.parameters in
    let body : List Step = stmts_steps k [] (2 * k) (body_code p) in
    let last : List Step = const_step k 0 ∷ return_step k ∷ [] in
    let steps : map plain q.steps ≡ procedure_code (crossed p) = ap (λ (x : PlainProc). x.steps) e in
    let at : q.at ≡ p.at = ap (λ (x : PlainProc). x.at) e in
    let all : StepsIn n (procedure_code (crossed p)) =
    join_steps n (parameters_code k 0 k) (body ++ last) (parameters_in n k 0 k) (join_steps n body last (stmts_in n (body_code p) k [] (2 * k) (body_in n p h.1)) (tt, (tt, tt))) in
    (subst (IsInFiles n) (sym at) h.0, steps_in n q.steps (subst (StepsIn n) (sym steps) all))

pub all_in : (n : ℕ) (qs : List MidProc) (ps : List Proc) → AllIn n ps → AllBecome qs ps → SitesIn n (procs_sites qs)
all_in n [] [] places h = tt
all_in n [] (p ∷ ps) places h = absurd h
all_in n (q ∷ qs) [] places h = absurd h
all_in n (q ∷ qs) (p ∷ ps) places h = join_sites n (proc_sites q) (procs_sites qs) (proc_in n p q places.0 h.0) (all_in n qs ps places.1 h.1)
