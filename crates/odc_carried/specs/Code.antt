-- The core code of a carried program. A variable of a procedure lies where the program says. Behind the last one lie the
-- variables of the compiler's own: a buffer of printed bytes, the place of its first byte in use, the number that is
-- printed, and the values that wait.
use Rattle.std.specs.Prelude.{ℕ, zero, suc, ◌+◌, ◌*◌, ◌/◌, ◌^◌, max, Bool, true, false, List, [], ◌∷◌, ◌++◌, map, get_or, length, Option, Some}
use Rattle.odc_text.specs.declared.place.Place.{Place}
use Rattle.odc_text.specs.declared.check.Check.TheVariants.{Division}
use Rattle.odc_program.specs.declared.ops.Constant.{Constant}
use Rattle.odc_program.specs.declared.ops.Constant.TheVariants as con
use Rattle.odc_program.specs.declared.ops.UnaryOp.{UnaryOp}
use Rattle.odc_program.specs.declared.ops.UnaryOp.TheVariants as un
use Rattle.odc_program.specs.declared.ops.BinaryOp.{BinaryOp}
use Rattle.odc_program.specs.declared.ops.BinaryOp.TheVariants as op
use Rattle.odc_program.specs.States.Bytes.{residue}
use Rattle.odc_program.specs.Trees.Tree.{Expr, expr, Kind, const, local, call, builtin, unary, binary, Exprs, none, more, Maybe, absent, present, Lefts, no_lefts, left_, Rights, nothing, each, Stmt, stmt, Form, declare, assign, eval, block, if_, loop, return, MaybeStmt, no_stmt, some_stmt, Stmts, finish, follow}
use Rattle.odc_program.specs.Trees.Program.{Local, Head, Tables, Body, Program}
use Rattle.odc_core.specs.declared.tree.Width.TheVariants.{Byte, Double}
use Rattle.odc_core.specs.declared.tree.BinaryOp.TheVariants.{Add, Subtract, Multiply, Divide, Remainder, DivideUnsigned, RemainderUnsigned}
use Rattle.odc_core.specs.declared.tree.Comparison.TheVariants.{Equal, Different, Less}
use Rattle.odc_core.specs.declared.tree.Descriptor.TheVariants.{Out}
use Rattle.odc_core.specs.declared.tree.Variable.{Variable}
use Rattle.odc_core.specs.Tree.{Expr as CoreExpr, const as word, slot, load, binary as operated, compare, call as called, Exprs as CoreExprs, none as no_more, more as another}
use Rattle.odc_core.specs.Tree.{Stmt as CoreStmt, store, choose as branch, repeat as turns, leave, answer as answered, check, write, Stmts as CoreStmts, finish as done, follow as then, Proc as CoreProc, Whole as CoreWhole}
use Rattle.odc_carried.specs.Carried.{type_in, checks, is_loud, is_any_loud, count}

-- ---- lists of statements
abbrev pub join : CoreStmts → CoreStmts → CoreStmts
join done b = b
join (then s a) b = then s (join a b)

abbrev pub one : CoreStmt → CoreStmts
one s = then s done

-- ---- the frame
abbrev pub rounded : ℕ → ℕ
rounded n = (n + 7) / 8 * 8

abbrev pub variable_of : Tables → Local → Variable
variable_of tables l = record { offset = l.place; size = (type_in tables l.ty).size }

-- eight bytes behind the last variable, and not in the first 128 bytes
abbrev pub highest : List Variable → ℕ
highest [] = 128
highest (v ∷ vs) = max (v.offset + v.size + 8) (highest vs)

abbrev pub own_low : List Variable → ℕ
own_low vs = rounded (highest vs)

-- what surrounds the code of a procedure: its variables, where those of the compiler's own begin, how many values wait
-- at once, the position of its first result and the number of its results, and its needs
pub record Around : Type 0 where
  pub first : List Variable
  pub low : ℕ
  pub waiting : ℕ
  pub result : ℕ
  pub results : ℕ
  pub needs : List ℕ

abbrev pub buffer : ℕ → Variable
buffer low = record { offset = low; size = 32 }

abbrev pub pointer : ℕ → Variable
pointer low = record { offset = low + 48; size = 8 }

abbrev pub number : ℕ → Variable
number low = record { offset = low + 64; size = 8 }

abbrev pub wait_offset : ℕ → ℕ → ℕ
wait_offset low d = low + (80 + 16 * d)

abbrev pub wait_variable : ℕ → ℕ → Variable
wait_variable low d = record { offset = wait_offset low d; size = 8 }

-- n of them from one on
abbrev pub waits_from : ℕ → ℕ → ℕ → List Variable
waits_from low d zero = []
waits_from low d (suc n) = wait_variable low d ∷ waits_from low (d + 1) n

abbrev pub own_variables : ℕ → ℕ → List Variable
own_variables low waiting = buffer low ∷ pointer low ∷ number low ∷ waits_from low 0 waiting

abbrev pub variables_of : Around → List Variable
variables_of o = o.first ++ own_variables o.low o.waiting

abbrev pub buffer_at : Around → ℕ
buffer_at o = length o.first + 0

abbrev pub pointer_at : Around → ℕ
pointer_at o = length o.first + 1

abbrev pub number_at : Around → ℕ
number_at o = length o.first + 2

abbrev pub wait_at : Around → ℕ → ℕ
wait_at o d = length o.first + (3 + d)

-- ---- words in variables
abbrev pub held : ℕ → CoreExpr
held x = load Double (slot x)

abbrev pub put : ℕ → CoreExpr → CoreStmt
put x e = store Double (slot x) e

-- the value that waits at a depth
abbrev pub waits : Around → ℕ → CoreExpr
waits o d = held (wait_at o d)

abbrev pub wait : Around → ℕ → CoreExpr → CoreStmt
wait o d e = put (wait_at o d) e

-- ---- printing
-- one more byte in front of those in the buffer
abbrev pub front : Around → CoreExpr → CoreStmts
front o byte = then (put (pointer_at o) (operated Subtract (held (pointer_at o)) (word 1))) (one (store Byte (held (pointer_at o)) byte))

-- a digit, and on while something is left
abbrev pub digit_code : Around → CoreStmts
digit_code o =
    join (front o (operated Add (operated RemainderUnsigned (held (number_at o)) (word 10)) (word 48)))
    (then (put (number_at o) (operated DivideUnsigned (held (number_at o)) (word 10)))
    (one (branch (held (number_at o)) done (one (leave 0)))))

-- the buffer's bytes in use are written
abbrev pub write_code : Around → CoreStmt
write_code o = write Out (held (pointer_at o)) (operated Subtract (operated Add (slot (buffer_at o)) (word 32)) (held (pointer_at o)))

-- the digits and the sign of the value that waits at a depth
abbrev pub text_code : Around → ℕ → CoreStmts
text_code o d =
    then (put (number_at o) (waits o d))
    (then (branch (compare Less (waits o d) (word 0)) (one (put (number_at o) (operated Subtract (word 0) (waits o d)))) done)
    (then (turns (digit_code o))
    (one (branch (compare Less (waits o d) (word 0)) (front o (word 45)) done))))

-- that value, and a byte behind it
abbrev pub print_code : Around → ℕ → ℕ → CoreStmts
print_code o d behind =
    then (put (pointer_at o) (operated Add (slot (buffer_at o)) (word 32)))
    (join (front o (word behind)) (join (text_code o d) (one (write_code o))))

-- n values, each with what follows it
abbrev pub values_code : Around → ℕ → ℕ → CoreStmts
values_code o d zero = done
values_code o d (suc zero) = print_code o d 10
values_code o d (suc (suc n)) = join (print_code o d 32) (values_code o (d + 1) (suc n))

abbrev pub newline_code : Around → CoreStmts
newline_code o =
    then (put (pointer_at o) (operated Add (slot (buffer_at o)) (word 32)))
    (join (front o (word 10)) (one (write_code o)))

abbrev pub line_code : Around → ℕ → ℕ → CoreStmts
line_code o d zero = newline_code o
line_code o d (suc n) = values_code o d (suc n)

-- ---- expressions: what runs first, and what then gives the value

-- How the operands come together: both in one expression; the left one waits; both wait, for a check; or the right one
-- is evaluated only where the left one leaves it open.
pub data Way : Type 0 where
  nested : Way
  waiting : Way
  checking : Way
  both : Way
  either : Way

abbrev pub way_by : (loud check : Bool) → Way
way_by l true = checking
way_by true false = waiting
way_by false false = nested

abbrev pub way_of : BinaryOp → (loud check : Bool) → Way
way_of op.AndAlso l c = both
way_of op.OrElse l c = either
way_of o l c = way_by l c

abbrev pub way : BinaryOp → Expr → Way
way o f = way_of o (is_loud f) (checks o f)

abbrev pub constant_word : Constant → ℕ
constant_word (con.Int z) = residue (2 ^ 64) z
constant_word (con.Bool true) = 1
constant_word _ = 0

abbrev pub negated : CoreExpr → CoreExpr
negated e = compare Equal e (word 0)

abbrev pub unary_code : UnaryOp → CoreExpr → CoreExpr
unary_code un.Negate e = operated Subtract (word 0) e
unary_code un.Not e = negated e
unary_code _ e = e

abbrev pub binary_code : BinaryOp → CoreExpr → CoreExpr → CoreExpr
binary_code op.Add v w = operated Add v w
binary_code op.Subtract v w = operated Subtract v w
binary_code op.Multiply v w = operated Multiply v w
binary_code op.Divide v w = operated Divide v w
binary_code op.Remainder v w = operated Remainder v w
binary_code op.Equal v w = compare Equal v w
binary_code op.Unequal v w = compare Different v w
binary_code op.Less v w = compare Less v w
binary_code op.Greater v w = compare Less w v
binary_code op.AtMost v w = negated (compare Less w v)
binary_code op.AtLeast v w = negated (compare Less v w)
binary_code _ v w = v

-- what runs before: a and v are the left operand's, b and w the right one's
abbrev pub before_by : Around → ℕ → Place → Way → (a : CoreStmts) (v : CoreExpr) (b : CoreStmts) (w : CoreExpr) → CoreStmts
before_by o d at nested a v b w = a
before_by o d at waiting a v b w = join a (then (wait o d v) b)
before_by o d at checking a v b w = join a (then (wait o d v) (join b (then (wait o (d + 1) w) (one (check (waits o (d + 1)) Division at)))))
before_by o d at both a v b w = join a (one (branch v (join b (one (wait o d w))) (one (wait o d (word 0)))))
before_by o d at either a v b w = join a (one (branch v (one (wait o d (word 1))) (join b (one (wait o d w)))))

abbrev pub value_by : Around → ℕ → BinaryOp → Way → (v w : CoreExpr) → CoreExpr
value_by o d k nested v w = binary_code k v w
value_by o d k waiting v w = binary_code k (waits o d) w
value_by o d k checking v w = binary_code k (waits o d) (waits o (d + 1))
value_by o d k both v w = waits o d
value_by o d k either v w = waits o d

-- an argument waits where one behind it is loud
abbrev pub argument_before : Around → ℕ → Bool → (a : CoreStmts) (v : CoreExpr) (rest : CoreStmts) → CoreStmts
argument_before o d true a v rest = join a (then (wait o d v) rest)
argument_before o d false a v rest = a

abbrev pub argument_values : Around → ℕ → Bool → (v : CoreExpr) (behind beside : CoreExprs) → CoreExprs
argument_values o d true v behind beside = another (waits o d) behind
argument_values o d false v behind beside = another v beside

abbrev pub needed_by : Around → ℕ → ℕ
needed_by o need = get_or o.needs need 0

abbrev mutual
  -- gives the value, once what runs before has run
  pub value : Around → ℕ → Expr → CoreExpr
  value o d (expr t at k) = value_kind o d k

  pub value_kind : Around → ℕ → Kind → CoreExpr
  value_kind o d (const c) = word (constant_word c)
  value_kind o d (local x) = held x
  value_kind o d (unary u e) = unary_code u (value o d e)
  value_kind o d (binary k e f) = value_by o d k (way k f) (value o d e) (value o (d + 1) f)
  value_kind o d _ = waits o d

abbrev pub values : Around → ℕ → Exprs → CoreExprs
values o d none = no_more
values o d (more e es) = argument_values o d (is_any_loud es) (value o d e) (values o (d + 1) es) (values o d es)

abbrev mutual
  -- runs before
  pub before : Around → ℕ → Expr → CoreStmts
  before o d (expr t at k) = before_kind o d at k

  pub before_kind : Around → ℕ → Place → Kind → CoreStmts
  before_kind o d at (unary u e) = before o d e
  before_kind o d at (binary k e f) = before_by o d at (way k f) (before o d e) (value o d e) (before o (d + 1) f) (value o (d + 1) f)
  before_kind o d at (call need order es) = join (befores o d es) (one (wait o d (called (needed_by o need) (values o d es))))
  before_kind o d at _ = done

  pub befores : Around → ℕ → Exprs → CoreStmts
  befores o d none = done
  befores o d (more e es) = argument_before o d (is_any_loud es) (before o d e) (value o d e) (befores o (d + 1) es)

-- all values wait
abbrev pub waits_all : Around → ℕ → Exprs → CoreStmts
waits_all o d none = done
waits_all o d (more e es) = join (before o d e) (then (wait o d (value o d e)) (waits_all o (d + 1) es))

-- how many values wait at once
abbrev pub depth_by : Way → ℕ → ℕ → ℕ
depth_by nested a b = a
depth_by _ a b = max a (max 2 (b + 1))

abbrev mutual
  pub depth : Expr → ℕ
  depth (expr t at k) = depth_kind k

  pub depth_kind : Kind → ℕ
  depth_kind (unary u e) = depth e
  depth_kind (binary k e f) = depth_by (way k f) (depth e) (depth f)
  depth_kind (call need order es) = max 1 (depths es)
  depth_kind _ = 0

  pub depths : Exprs → ℕ
  depths none = 0
  depths (more e es) = max (depth e) (depths es + 1)

-- ---- statements
abbrev pub eval_code : Around → Expr → CoreStmts
eval_code o (expr t at (builtin which order es)) = join (waits_all o 0 es) (line_code o 0 (count es))
eval_code o e = before o 0 e

abbrev pub eval_depth : Expr → ℕ
eval_depth (expr t at (builtin which order es)) = depths es
eval_depth e = depth e

abbrev pub put_code : Around → ℕ → Expr → CoreStmts
put_code o x e = join (before o 0 e) (one (put x (value o 0 e)))

abbrev pub declare_code : Around → List (Option ℕ) → Rights → CoreStmts
declare_code o (Some x ∷ []) nothing = one (put x (word 0))
declare_code o (Some x ∷ []) (each (more e none)) = put_code o x e
declare_code o xs vs = done

abbrev pub assign_code : Around → Lefts → Rights → CoreStmts
assign_code o (left_ (expr t at (local x)) no_lefts) (each (more e none)) = put_code o x e
assign_code o lefts vs = done

-- the result as it stands
abbrev pub result_code : Around → ℕ → CoreExpr
result_code o zero = word 0
result_code o (suc n) = held o.result

abbrev pub return_code : Around → Rights → CoreStmts
return_code o (each (more e none)) = join (before o 0 e) (then (put o.result (value o 0 e)) (one (answered (result_code o o.results))))
return_code o vs = one (answered (result_code o o.results))

abbrev pub condition_before : Around → Maybe → CoreStmts
condition_before o absent = done
condition_before o (present e) = before o 0 e

abbrev pub condition_value : Around → Maybe → CoreExpr
condition_value o absent = word 1
condition_value o (present e) = value o 0 e

-- a loop is left where its condition is false
abbrev pub turn_code : Around → Maybe → (body : CoreStmts) → CoreStmts
turn_code o e body = join (condition_before o e) (then (branch (condition_value o e) done (one (leave 0))) body)

abbrev mutual
  pub stmt_code : Around → Stmt → CoreStmts
  stmt_code o (stmt at k) = form_code o k

  pub form_code : Around → Form → CoreStmts
  form_code o (declare xs vs) = declare_code o xs vs
  form_code o (assign lefts vs) = assign_code o lefts vs
  form_code o (eval e) = eval_code o e
  form_code o (block l body) = stmts_code o body
  form_code o (if_ init e body other) = join (maybe_code o init) (join (before o 0 e) (one (branch (value o 0 e) (stmts_code o body) (stmts_code o other))))
  form_code o (loop l init e post body) = join (maybe_code o init) (one (turns (turn_code o e (join (stmts_code o body) (maybe_code o post)))))
  form_code o (return vs) = return_code o vs
  form_code o _ = done

  pub maybe_code : Around → MaybeStmt → CoreStmts
  maybe_code o no_stmt = done
  maybe_code o (some_stmt s) = stmt_code o s

  pub stmts_code : Around → Stmts → CoreStmts
  stmts_code o finish = done
  stmts_code o (follow s ss) = join (stmt_code o s) (stmts_code o ss)

abbrev pub rights_depth : Rights → ℕ
rights_depth (each (more e none)) = depth e
rights_depth vs = 0

abbrev pub condition_depth : Maybe → ℕ
condition_depth absent = 0
condition_depth (present e) = depth e

abbrev mutual
  pub stmt_depth : Stmt → ℕ
  stmt_depth (stmt at k) = form_depth k

  pub form_depth : Form → ℕ
  form_depth (declare xs vs) = rights_depth vs
  form_depth (assign lefts vs) = rights_depth vs
  form_depth (eval e) = eval_depth e
  form_depth (block l body) = stmts_depth body
  form_depth (if_ init e body other) = max (maybe_depth init) (max (depth e) (max (stmts_depth body) (stmts_depth other)))
  form_depth (loop l init e post body) = max (maybe_depth init) (max (condition_depth e) (max (stmts_depth body) (maybe_depth post)))
  form_depth (return vs) = rights_depth vs
  form_depth _ = 0

  pub maybe_depth : MaybeStmt → ℕ
  maybe_depth no_stmt = 0
  maybe_depth (some_stmt s) = stmt_depth s

  pub stmts_depth : Stmts → ℕ
  stmts_depth finish = 0
  stmts_depth (follow s ss) = max (stmt_depth s) (stmts_depth ss)

-- ---- procedures and programs
abbrev pub locals_of : Tables → Head → List Variable
locals_of tables p = map (variable_of tables) p.locals

abbrev pub around : Tables → Head → Body → Around
around tables p q = record {
  first = locals_of tables p;
  low = own_low (locals_of tables p);
  waiting = stmts_depth q.stmts;
  result = p.parameters;
  results = p.results;
  needs = p.needs;
}

-- a result begins with zero, and is answered as it stands
abbrev pub begin_code : Around → ℕ → CoreStmts
begin_code o zero = done
begin_code o (suc n) = one (put o.result (word 0))

abbrev pub body_code : Around → Body → CoreStmts
body_code o q = join (begin_code o o.results) (join (stmts_code o q.stmts) (one (answered (result_code o o.results))))

abbrev pub crossed : Tables → Head → Body → CoreProc
crossed tables p q = record {
  name = p.name;
  at = p.at;
  parameters = p.parameters;
  variables = variables_of (around tables p q);
  frame = p.frame;
  body = body_code (around tables p q) q;
}

abbrev pub crossed_all : Tables → List Head → List Body → List CoreProc
crossed_all tables (p ∷ ps) (q ∷ qs) = crossed tables p q ∷ crossed_all tables ps qs
crossed_all tables _ _ = []

abbrev pub crossed_program : Program → CoreWhole
crossed_program p = record { procedures = crossed_all p.tables p.tables.procedures p.bodies; addresses = []; store = []; store_size = 0; main = p.main }
