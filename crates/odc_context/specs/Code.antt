-- The core code of a program. Behind a procedure's variables lie own variables, eight bytes each, in
-- which values wait; below them, in the lowest bytes of the frame, lie the buffer of printed bytes, the
-- place of its first byte, and the number that is printed.
use Rattle.std.specs.Prelude.{ℕ, zero, suc, ◌+◌, ◌*◌, max, List, [], ◌∷◌, ◌++◌, map, length}
use Rattle.std.specs.Int.{w64, cast_unsigned}
use Rattle.rv_table.specs.Words.{flag}
use Rattle.odc_text.specs.declared.place.Place.{Place}
use Rattle.odc_text.specs.declared.check.Check.TheVariants.{Division}
use Rattle.odc_typed.specs.declared.tree.Constant.{Constant}
use Rattle.odc_typed.specs.declared.tree.Constant.TheVariants.{Int, Bool as Truth}
use Rattle.odc_typed.specs.declared.tree.BinaryOp.{BinaryOp as Operation}
use Rattle.odc_typed.specs.declared.tree.BinaryOp.TheVariants.{Add as Plus, Subtract as Minus, Multiply as Times, Divide as Over, Remainder as Rest, Less as Under, Equal as Same}
use Rattle.odc_typed.specs.declared.tree.Builtin.{Builtin}
use Rattle.odc_typed.specs.declared.tree.Builtin.TheVariants.{Println}
use Rattle.odc_typed.specs.declared.tree.Local.{Local}
use Rattle.odc_typed.specs.Frame.{variables, frame}
use Rattle.odc_typed.specs.Tree.{Expr, const, local, binary, call, builtin, Exprs, none, more, Stmt, eval, declare, assign, choose, repeat, answer, Stmts, finish, follow, Proc, Whole}
use Rattle.odc_core.specs.declared.tree.Width.TheVariants.{Byte, Double}
use Rattle.odc_core.specs.declared.tree.BinaryOp.TheVariants.{Add, Subtract, Multiply, Divide, Remainder, DivideUnsigned, RemainderUnsigned}
use Rattle.odc_core.specs.declared.tree.Comparison.TheVariants.{Equal, Less}
use Rattle.odc_core.specs.declared.tree.Descriptor.TheVariants.{Out}
use Rattle.odc_core.specs.declared.tree.Variable.{Variable}
use Rattle.odc_core.specs.Tree.{Expr as CoreExpr, const as word, slot, load, binary as operated, compare, call as called, Exprs as CoreExprs, none as nothing, more as another}
use Rattle.odc_core.specs.Tree.{Stmt as CoreStmt, eval as skip, store, choose as branch, repeat as loop, leave, answer as answered, check, write, Stmts as CoreStmts, finish as done, follow as then, Proc as CoreProc, Whole as CoreWhole}

-- ---- lists of statements

abbrev pub join : CoreStmts → CoreStmts → CoreStmts
join done b = b
join (then s a) b = then s (join a b)

abbrev pub one : CoreStmt → CoreStmts
one s = then s done

-- ---- the frame: three own variables first in its bytes, but last in the list

-- where the variable lies from the frame's low end on
abbrev pub offset_of : ℕ → ℕ
offset_of x = 128 + 16 * x

abbrev pub word_at : ℕ → Variable
word_at x = record { offset = offset_of x; size = 8 }

-- the first n from a position on
abbrev pub words_from : ℕ → ℕ → List Variable
words_from x zero = []
words_from x (suc n) = word_at x ∷ words_from (x + 1) n

-- the buffer, the place of its first byte in use, and the number
abbrev pub buffer : Variable
buffer = record { offset = 16; size = 32 }

abbrev pub pointer : Variable
pointer = record { offset = 64; size = 8 }

abbrev pub number : Variable
number = record { offset = 80; size = 8 }

abbrev pub printing : List Variable
printing = buffer ∷ pointer ∷ number ∷ []

-- a procedure's variables: how many it declares, the position of its result, and how many values wait
-- at once
pub record Own : Type 0 where
  pub first : ℕ
  pub result : ℕ
  pub waiting : ℕ

-- the positions of the three
abbrev pub buffer_at : Own → ℕ
buffer_at o = o.first + o.waiting

abbrev pub pointer_at : Own → ℕ
pointer_at o = o.first + o.waiting + 1

abbrev pub number_at : Own → ℕ
number_at o = o.first + o.waiting + 2

-- ---- words in variables

abbrev pub held : ℕ → CoreExpr
held x = load Double (slot x)

abbrev pub put : ℕ → CoreExpr → CoreStmt
put x e = store Double (slot x) e

-- the value that waits at a depth
abbrev pub waits : Own → ℕ → CoreExpr
waits o d = held (o.first + d)

abbrev pub wait : Own → ℕ → CoreExpr → CoreStmt
wait o d e = put (o.first + d) e

-- n values from a depth on
abbrev pub all_waiting : Own → ℕ → ℕ → CoreExprs
all_waiting o d zero = nothing
all_waiting o d (suc n) = another (waits o d) (all_waiting o (d + 1) n)

-- ---- printing

-- one more byte in front of those in the buffer
abbrev pub before : Own → CoreExpr → CoreStmts
before o byte = then (put (pointer_at o) (operated Subtract (held (pointer_at o)) (word 1))) (one (store Byte (held (pointer_at o)) byte))

-- a digit, and on while something is left
abbrev pub digit_code : Own → CoreStmts
digit_code o =
    join (before o (operated Add (operated RemainderUnsigned (held (number_at o)) (word 10)) (word 48)))
    (then (put (number_at o) (operated DivideUnsigned (held (number_at o)) (word 10)))
    (one (branch (held (number_at o)) done (one (leave 0)))))

-- the buffer's bytes in use are written
abbrev pub write_code : Own → CoreStmt
write_code o = write Out (held (pointer_at o)) (operated Subtract (operated Add (slot (buffer_at o)) (word 32)) (held (pointer_at o)))

-- the digits and the sign of the value that waits at a depth
abbrev pub text_code : Own → ℕ → CoreStmts
text_code o d =
    then (put (number_at o) (waits o d))
    (then (branch (compare Less (waits o d) (word 0)) (one (put (number_at o) (operated Subtract (word 0) (waits o d)))) done)
    (then (loop (digit_code o))
    (one (branch (compare Less (waits o d) (word 0)) (before o (word 45)) done))))

-- that value, and a byte behind it
abbrev pub print_code : Own → ℕ → ℕ → CoreStmts
print_code o d behind =
    then (put (pointer_at o) (operated Add (slot (buffer_at o)) (word 32)))
    (join (before o (word behind)) (join (text_code o d) (one (write_code o))))

-- n values, each with what follows it
abbrev pub values_code : Own → ℕ → ℕ → CoreStmts
values_code o d zero = done
values_code o d (suc zero) = print_code o d 10
values_code o d (suc (suc n)) = join (print_code o d 32) (values_code o (d + 1) (suc n))

abbrev pub newline_code : Own → CoreStmts
newline_code o =
    then (put (pointer_at o) (operated Add (slot (buffer_at o)) (word 32)))
    (join (before o (word 10)) (one (write_code o)))

abbrev pub line_code : Own → ℕ → ℕ → CoreStmts
line_code o d zero = newline_code o
line_code o d (suc n) = values_code o d (suc n)

-- ---- expressions: the value comes to wait at a depth; what waits below stays

abbrev pub constant_word : Constant → ℕ
constant_word (Int value) = cast_unsigned w64 value
constant_word (Truth value) = flag value

-- both operands wait
abbrev pub operation_code : Own → ℕ → Place → Operation → CoreStmts
operation_code o d at Plus = one (wait o d (operated Add (waits o d) (waits o (d + 1))))
operation_code o d at Minus = one (wait o d (operated Subtract (waits o d) (waits o (d + 1))))
operation_code o d at Times = one (wait o d (operated Multiply (waits o d) (waits o (d + 1))))
operation_code o d at Over = then (check (waits o (d + 1)) Division at) (one (wait o d (operated Divide (waits o d) (waits o (d + 1)))))
operation_code o d at Rest = then (check (waits o (d + 1)) Division at) (one (wait o d (operated Remainder (waits o d) (waits o (d + 1)))))
operation_code o d at Under = one (wait o d (compare Less (waits o d) (waits o (d + 1))))
operation_code o d at Same = one (wait o d (compare Equal (waits o d) (waits o (d + 1))))

-- the arguments wait
abbrev pub builtin_code : Own → ℕ → Builtin → ℕ → CoreStmts
builtin_code o d Println n = line_code o d n

abbrev pub count : Exprs → ℕ
count none = 0
count (more e es) = suc (count es)

abbrev mutual
  pub expr_code : Own → ℕ → Expr → CoreStmts
  expr_code o d (const at value) = one (wait o d (word (constant_word value)))
  expr_code o d (local at x) = one (wait o d (held x))
  expr_code o d (binary at op left right) = join (expr_code o d left) (join (expr_code o (d + 1) right) (operation_code o d at op))
  expr_code o d (call at f arguments) = join (exprs_code o d arguments) (one (wait o d (called f (all_waiting o d (count arguments)))))
  expr_code o d (builtin at which arguments) = join (exprs_code o d arguments) (builtin_code o d which (count arguments))

  pub exprs_code : Own → ℕ → Exprs → CoreStmts
  exprs_code o d none = done
  exprs_code o d (more e es) = join (expr_code o d e) (exprs_code o (d + 1) es)

-- how many values wait at once
abbrev mutual
  pub depth_of : Expr → ℕ
  depth_of (const at value) = 1
  depth_of (local at x) = 1
  depth_of (binary at op left right) = max (depth_of left) (1 + depth_of right)
  depth_of (call at f arguments) = max 1 (depth_of_all arguments)
  depth_of (builtin at which arguments) = depth_of_all arguments

  pub depth_of_all : Exprs → ℕ
  depth_of_all none = 0
  depth_of_all (more e es) = max (depth_of e) (1 + depth_of_all es)

-- ---- statements

-- A turn of a loop begins here, behind its condition: a node that does nothing, so that where the bound
-- ends with it, nothing of the turn has been done.
abbrev pub turn_code : CoreStmt
turn_code = skip (word 0)

-- a loop is left where its condition, which waits first, is false, and else a turn begins
abbrev pub test_code : Own → CoreStmts
test_code o = then (branch (waits o 0) done (one (leave 0))) (one turn_code)

-- the answer waits first
abbrev pub answer_code : Own → CoreStmts
answer_code o = then (put o.result (waits o 0)) (one (answered (held o.result)))

-- what a place gets waits first
abbrev pub place_code : Own → Expr → CoreStmts
place_code o (local at x) = one (put x (waits o 0))
place_code o _ = done

abbrev mutual
  pub stmt_code : Own → Stmt → CoreStmts
  stmt_code o (eval at value) = expr_code o 0 value
  stmt_code o (declare at x value) = join (expr_code o 0 value) (one (put x (waits o 0)))
  stmt_code o (assign at target value) = join (expr_code o 0 value) (place_code o target)
  stmt_code o (choose at condition body) = join (expr_code o 0 condition) (one (branch (waits o 0) (stmts_code o body) done))
  stmt_code o (repeat at condition body) =
      one (loop (join (expr_code o 0 condition) (join (test_code o) (stmts_code o body))))
  stmt_code o (answer at value) = join (expr_code o 0 value) (answer_code o)

  pub stmts_code : Own → Stmts → CoreStmts
  stmts_code o finish = done
  stmts_code o (follow s ss) = join (stmt_code o s) (stmts_code o ss)

abbrev mutual
  pub stmt_depth : Stmt → ℕ
  stmt_depth (eval at value) = depth_of value
  stmt_depth (declare at x value) = depth_of value
  stmt_depth (assign at target value) = depth_of value
  stmt_depth (choose at condition body) = max (depth_of condition) (stmts_depth body)
  stmt_depth (repeat at condition body) = max (depth_of condition) (stmts_depth body)
  stmt_depth (answer at value) = depth_of value

  pub stmts_depth : Stmts → ℕ
  stmts_depth finish = 0
  stmts_depth (follow s ss) = max (stmt_depth s) (stmts_depth ss)

-- ---- procedures and programs

abbrev pub own_of : Proc → Own
own_of p = record { first = variables p; result = length p.parameters; waiting = stmts_depth p.body }

-- a result begins with zero, and is answered as it stands
abbrev pub begin_code : Own → List Local → CoreStmts
begin_code o [] = done
begin_code o (r ∷ rs) = one (put o.result (word 0))

abbrev pub end_code : Own → List Local → CoreStmts
end_code o [] = done
end_code o (r ∷ rs) = one (answered (held o.result))

abbrev pub body_code : Proc → CoreStmts
body_code p = join (begin_code (own_of p) p.results) (join (stmts_code (own_of p) p.body) (end_code (own_of p) p.results))

-- the own variables behind those of the program, and the three of printing
abbrev pub variables_of : Own → List Variable
variables_of o = words_from 0 (o.first + o.waiting) ++ printing

abbrev pub crossed : Proc → CoreProc
crossed p = record {
  name = p.name;
  at = p.at;
  parameters = length p.parameters;
  variables = variables_of (own_of p);
  frame = frame p;
  body = body_code p;
}

abbrev pub crossed_program : Whole → CoreWhole
crossed_program w = record { procedures = map crossed w.procedures; addresses = []; store = []; store_size = 0; main = w.main }
