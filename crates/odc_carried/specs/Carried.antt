-- Which programs the road to core code carries, by form, and the first node that it doesn't carry. The order is that of
-- the program: procedure after procedure, statement after statement, each before its parts.
use Rattle.std.specs.Prelude.{ℕ, ◌+◌, ◌^◌, ◌==◌, ◌&&◌, ◌||◌, not, Bool, true, false, nat_le, List, [], ◌∷◌, take, length, get_or, Option, Some, None, slice_get}
use Rattle.odc_text.specs.declared.place.Place.{Place}
use Rattle.odc_types.specs.Widths.{is_signed}
use Rattle.odc_program.specs.declared.ops.Constant.{Constant}
use Rattle.odc_program.specs.declared.ops.Constant.TheVariants as con
use Rattle.odc_program.specs.declared.ops.UnaryOp.{UnaryOp}
use Rattle.odc_program.specs.declared.ops.UnaryOp.TheVariants as un
use Rattle.odc_program.specs.declared.ops.BinaryOp.{BinaryOp}
use Rattle.odc_program.specs.declared.ops.BinaryOp.TheVariants as op
use Rattle.odc_program.specs.declared.ops.Builtin.TheVariants as b
use Rattle.odc_program.specs.States.Bytes.{residue}
use Rattle.odc_program.specs.Trees.Tree.{Expr, expr, Kind, const, local, call, builtin, unary, binary, Exprs, none, more, Maybe, absent, present, Lefts, no_lefts, left_, Rights, nothing, each, Stmt, stmt, Form, declare, assign, eval, block, if_, loop, return, MaybeStmt, no_stmt, some_stmt, Stmts, finish, follow}
use Rattle.odc_program.specs.Trees.Program.{Shape, truth, whole, fields, several, Ty, Local, Head, Tables, Helper, Body, Program}

-- ---- types: eight bytes with a sign, and truth values in conditions
abbrev pub type_in : Tables → ℕ → Ty
type_in tables t = get_or tables.types t (record { size = 0; align = 1; base = t; name = None; shape = fields [] })

abbrev pub is_signed_shape : Shape → Bool
is_signed_shape (whole width) = is_signed width
is_signed_shape _ = false

abbrev pub is_truth_shape : Shape → Bool
is_truth_shape truth = true
is_truth_shape _ = false

abbrev pub is_empty_shape : Shape → Bool
is_empty_shape (several []) = true
is_empty_shape _ = false

abbrev pub is_int : Tables → ℕ → Bool
is_int tables t = ((type_in tables t).size == 8) && is_signed_shape (type_in tables t).shape

abbrev pub is_bool : Tables → ℕ → Bool
is_bool tables t = ((type_in tables t).size == 1) && is_truth_shape (type_in tables t).shape

-- of an expression without values
abbrev pub is_nothing : Tables → ℕ → Bool
is_nothing tables t = is_empty_shape (type_in tables t).shape

abbrev pub are_ints : Tables → List Local → Bool
are_ints tables [] = true
are_ints tables (l ∷ ls) = is_int tables l.ty && are_ints tables ls

abbrev pub is_int_local : Tables → Option Local → Bool
is_int_local tables (Some l) = is_int tables l.ty
is_int_local tables None = false

abbrev pub names_int : Tables → Head → ℕ → Bool
names_int tables p x = is_int_local tables (slice_get p.locals x)

-- ---- the first of two refusals, and a test before one
abbrev pub and_then : Option Place → Option Place → Option Place
and_then (Some at) rest = Some at
and_then None rest = rest

abbrev pub unless : Bool → Place → Option Place → Option Place
unless true at rest = rest
unless false at rest = Some at

-- ---- operators
-- on integers: those that a core operation computes, and those that check their divisor
abbrev pub is_plain : BinaryOp → Bool
is_plain op.Add = true
is_plain op.Subtract = true
is_plain op.Multiply = true
is_plain _ = false

abbrev pub is_quotient : BinaryOp → Bool
is_quotient op.Divide = true
is_quotient op.Remainder = true
is_quotient _ = false

abbrev pub is_comparison : BinaryOp → Bool
is_comparison op.Equal = true
is_comparison op.Unequal = true
is_comparison op.Less = true
is_comparison op.Greater = true
is_comparison op.AtMost = true
is_comparison op.AtLeast = true
is_comparison _ = false

abbrev pub is_connective : BinaryOp → Bool
is_connective op.AndAlso = true
is_connective op.OrElse = true
is_connective _ = false

abbrev pub is_sign : UnaryOp → Bool
is_sign un.Plus = true
is_sign un.Negate = true
is_sign _ = false

abbrev pub is_not : UnaryOp → Bool
is_not un.Not = true
is_not _ = false

-- ---- calls: arguments in the order of the parameters
abbrev pub in_place : List ℕ → Bool
in_place [] = true
in_place _ = false

abbrev pub count : Exprs → ℕ
count none = 0
count (more e es) = count es + 1

abbrev pub takes : ℕ → ℕ → Option Head → Bool
takes parameters results (Some q) = (q.parameters == parameters) && (q.results == results)
takes parameters results None = false

-- the procedure that a need names
abbrev pub needed : Head → ℕ → ℕ
needed p need = get_or p.needs need 0

abbrev pub can_call : Tables → Head → ℕ → ℕ → ℕ → Bool
can_call tables p need parameters results = takes parameters results (slice_get tables.procedures (needed p need))

-- ---- integers
abbrev pub int_constant : Place → Constant → Option Place
int_constant at (con.Int z) = None
int_constant at _ = Some at

abbrev mutual
  pub refused_int : Tables → Head → Expr → Option Place
  refused_int tables p (expr t at k) = unless (is_int tables t) at (refused_kind tables p at k)

  pub refused_kind : Tables → Head → Place → Kind → Option Place
  refused_kind tables p at (const c) = int_constant at c
  refused_kind tables p at (local x) = unless (names_int tables p x) at None
  refused_kind tables p at (unary o e) = unless (is_sign o) at (refused_int tables p e)
  refused_kind tables p at (binary o e f) = unless (is_plain o || is_quotient o) at (and_then (refused_int tables p e) (refused_int tables p f))
  refused_kind tables p at (call need order es) = unless (in_place order && can_call tables p need (count es) 1) at (refused_ints tables p es)
  refused_kind tables p at _ = Some at

  pub refused_ints : Tables → Head → Exprs → Option Place
  refused_ints tables p none = None
  refused_ints tables p (more e es) = and_then (refused_int tables p e) (refused_ints tables p es)

-- ---- conditions
abbrev pub truth_constant : Place → Constant → Option Place
truth_constant at (con.Bool v) = None
truth_constant at _ = Some at

abbrev pub truth_binary : Bool → Bool → Place → (compared connected : Option Place) → Option Place
truth_binary true q at compared connected = compared
truth_binary false true at compared connected = connected
truth_binary false false at compared connected = Some at

abbrev mutual
  pub refused_truth : Tables → Head → Expr → Option Place
  refused_truth tables p (expr t at k) = unless (is_bool tables t) at (refused_test tables p at k)

  pub refused_test : Tables → Head → Place → Kind → Option Place
  refused_test tables p at (const c) = truth_constant at c
  refused_test tables p at (unary o e) = unless (is_not o) at (refused_truth tables p e)
  refused_test tables p at (binary o e f) =
      truth_binary (is_comparison o) (is_connective o) at (and_then (refused_int tables p e) (refused_int tables p f)) (and_then (refused_truth tables p e) (refused_truth tables p f))
  refused_test tables p at _ = Some at

-- ---- statements
-- what stands as a statement: a call, or printed integers
abbrev pub refused_alone : Tables → Head → Place → ℕ → Kind → Option Place
refused_alone tables p at t (call need order es) =
    unless (in_place order && ((is_nothing tables t && can_call tables p need (count es) 0) || (is_int tables t && can_call tables p need (count es) 1))) at (refused_ints tables p es)
refused_alone tables p at t (builtin b.Println order es) = unless (in_place order && is_nothing tables t) at (refused_ints tables p es)
refused_alone tables p at t _ = Some at

abbrev pub refused_eval : Tables → Head → Expr → Option Place
refused_eval tables p (expr t at k) = refused_alone tables p at t k

-- one value for one variable
abbrev pub refused_declared : Tables → Head → Place → List (Option ℕ) → Rights → Option Place
refused_declared tables p at (Some x ∷ []) nothing = unless (names_int tables p x) at None
refused_declared tables p at (Some x ∷ []) (each (more e none)) = unless (names_int tables p x) at (refused_int tables p e)
refused_declared tables p at xs values = Some at

abbrev pub refused_assigned : Tables → Head → Place → Lefts → Rights → Option Place
refused_assigned tables p at (left_ (expr t at' (local x)) no_lefts) (each (more e none)) = unless (is_int tables t && names_int tables p x) at (refused_int tables p e)
refused_assigned tables p at lefts values = Some at

-- a value for the result, or the result as it stands
abbrev pub refused_return : Tables → Head → Place → Rights → Option Place
refused_return tables p at nothing = None
refused_return tables p at (each (more e none)) = unless (p.results == 1) at (refused_int tables p e)
refused_return tables p at values = Some at

abbrev pub refused_condition : Tables → Head → Maybe → Option Place
refused_condition tables p absent = None
refused_condition tables p (present e) = refused_truth tables p e

abbrev mutual
  pub refused_stmt : Tables → Head → Stmt → Option Place
  refused_stmt tables p (stmt at k) = refused_form tables p at k

  pub refused_form : Tables → Head → Place → Form → Option Place
  refused_form tables p at (declare xs values) = refused_declared tables p at xs values
  refused_form tables p at (assign lefts values) = refused_assigned tables p at lefts values
  refused_form tables p at (eval e) = refused_eval tables p e
  refused_form tables p at (block l body) = refused_stmts tables p body
  refused_form tables p at (if_ init e body other) = and_then (refused_maybe tables p init) (and_then (refused_truth tables p e) (and_then (refused_stmts tables p body) (refused_stmts tables p other)))
  refused_form tables p at (loop l init e post body) = and_then (refused_maybe tables p init) (and_then (refused_condition tables p e) (and_then (refused_maybe tables p post) (refused_stmts tables p body)))
  refused_form tables p at (return values) = refused_return tables p at values
  refused_form tables p at _ = Some at

  pub refused_maybe : Tables → Head → MaybeStmt → Option Place
  refused_maybe tables p no_stmt = None
  refused_maybe tables p (some_stmt s) = refused_stmt tables p s

  pub refused_stmts : Tables → Head → Stmts → Option Place
  refused_stmts tables p finish = None
  refused_stmts tables p (follow s ss) = and_then (refused_stmt tables p s) (refused_stmts tables p ss)

-- ---- procedures: integers as parameters, at most one result, an integer, and no helpers
abbrev pub no_helpers : List Helper → Bool
no_helpers [] = true
no_helpers _ = false

abbrev pub is_head : Tables → Head → Bool
is_head tables p = nat_le p.results 1 && (nat_le (p.parameters + p.results) (length p.locals) && are_ints tables (take (p.parameters + p.results) p.locals))

abbrev pub refused_procedure : Tables → Head → Body → Option Place
refused_procedure tables p q = unless (is_head tables p && no_helpers q.helpers) p.at (refused_stmts tables p q.stmts)

abbrev pub refused_procedures : Tables → List Head → List Body → Option Place
refused_procedures tables (p ∷ ps) (q ∷ qs) = and_then (refused_procedure tables p q) (refused_procedures tables ps qs)
refused_procedures tables _ _ = None

-- the first node that isn't carried
abbrev pub refused : Program → Option Place
refused p = refused_procedures p.tables p.tables.procedures p.bodies

abbrev pub is_none : Option Place → Bool
is_none None = true
is_none (Some at) = false

abbrev pub carried : Program → Bool
carried p = is_none (refused p)

-- ---- what holds a call, a check, or a part that isn't always evaluated
abbrev pub is_divisor : Expr → Bool
is_divisor (expr t at (const (con.Int z))) = not (residue (2 ^ 64) z == 0)
is_divisor e = false

abbrev pub checks : BinaryOp → Expr → Bool
checks o f = is_quotient o && not (is_divisor f)

abbrev mutual
  pub is_loud : Expr → Bool
  is_loud (expr t at k) = is_loud_kind k

  pub is_loud_kind : Kind → Bool
  is_loud_kind (const c) = false
  is_loud_kind (local x) = false
  is_loud_kind (unary o e) = is_loud e
  is_loud_kind (binary o e f) = (is_connective o || checks o f) || (is_loud e || is_loud f)
  is_loud_kind _ = true

abbrev pub is_any_loud : Exprs → Bool
is_any_loud none = false
is_any_loud (more e es) = is_loud e || is_any_loud es
