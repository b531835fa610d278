-- The size of a procedure's frame and the places of its variables, as its tree gives them. The checker writes them into the
-- head of each procedure; passes that change a body leave them there.
use Rattle.std.specs.Prelude.{ℕ, ◌+◌, ◌*◌, ◌==◌, ◌&&◌, Bool, true, false, List, [], ◌∷◌, length, None}
use Rattle.odc_program.specs.declared.ops.Builtin.{Builtin}
use Rattle.odc_program.specs.declared.ops.Builtin.TheVariants as b
use Rattle.odc_program.specs.Trees.Tree
use Rattle.odc_program.specs.Trees.Tree.{Expr, expr, Kind, Exprs, none, more, Maybe, absent, present, Parts, no_parts, part, Lefts, no_lefts, left_, dropped, Rights, nothing, each, parted, Items, no_items, item, span, Over, from_to, through, Stmt, stmt, Form, MaybeStmt, no_stmt, some_stmt, Stmts, finish, follow, Cases, no_cases, one_case, default_case, TypeCases, no_types, type_case, default_type}
use Rattle.odc_program.specs.Trees.Program.{Local, Head, Tables, Helper, Body, Program}
use Rattle.odc_program.specs.States.State.{Env, size_of}
use Rattle.odc_program.specs.Kinds.Layouts.{round_up}
use Rattle.odc_program.specs.Typing.WellTypes.{values_in}
use Rattle.odc_program.specs.Runs.Source.{env_of}

-- ---- sizes in whole words; of several values, one after another
abbrev pub rounded : ℕ → ℕ
rounded n = round_up n 8

abbrev pub rounded_sum : Env → List ℕ → ℕ
rounded_sum env [] = 0
rounded_sum env (t ∷ ts) = rounded (size_of env t) + rounded_sum env ts

abbrev pub value_bytes : Env → ℕ → ℕ
value_bytes env t = rounded_sum env (values_in env t)

-- ---- which expressions are places, where their parent takes them as one
abbrev mutual
  pub is_place : Expr → Bool
  is_place (expr t at k) = is_place_kind k

  pub is_place_kind : Kind → Bool
  is_place_kind (Tree.local x) = true
  is_place_kind (Tree.global_ g) = true
  is_place_kind (Tree.deref e) = true
  is_place_kind (Tree.field e n) = is_place e
  is_place_kind (Tree.index e i) = is_place e
  is_place_kind (Tree.column e n) = is_place e
  is_place_kind _ = false

-- A weight of a tree: `w` weighs an expression, by whether it stands as a place and by its type, and `s` each statement.
module _ (w : Bool → ℕ → ℕ) (s : ℕ) where
  -- whether the parent takes the expression as a place: the left side of an assignment, the operand of an address, and the
  -- base of a field, an index, a slice, a column or `len`
  abbrev mutual
    pub expr_weight : Bool → Expr → ℕ
    expr_weight taken (expr t at k) = w (taken && is_place_kind k) t + kind_weight k

    pub kind_weight : Kind → ℕ
    kind_weight (Tree.field e n) = expr_weight true e
    kind_weight (Tree.deref e) = expr_weight false e
    kind_weight (Tree.index e i) = expr_weight true e + expr_weight false i
    kind_weight (Tree.cut e low high) = expr_weight true e + (maybe_weight low + maybe_weight high)
    kind_weight (Tree.column e n) = expr_weight true e
    kind_weight (Tree.call n order es) = exprs_weight es
    kind_weight (Tree.call_value marked e es) = expr_weight false e + exprs_weight es
    kind_weight (Tree.builtin which order es) = arguments_weight which es
    kind_weight (Tree.or_return e variant) = expr_weight false e
    kind_weight (Tree.build home ps) = parts_weight ps
    kind_weight (Tree.unary o e) = expr_weight false e
    kind_weight (Tree.binary o e f) = expr_weight false e + expr_weight false f
    kind_weight (Tree.convert e) = expr_weight false e
    kind_weight (Tree.inject n e) = expr_weight false e
    kind_weight (Tree.assert_ n e) = expr_weight false e
    kind_weight (Tree.test_ n e) = expr_weight false e
    kind_weight (Tree.address_ e) = expr_weight true e
    kind_weight (Tree.help h es) = exprs_weight es
    kind_weight _ = 0

    pub exprs_weight : Exprs → ℕ
    exprs_weight none = 0
    exprs_weight (more e es) = expr_weight false e + exprs_weight es

    pub arguments_weight : Builtin → Exprs → ℕ
    arguments_weight b.Len (more e es) = expr_weight true e + exprs_weight es
    arguments_weight which none = 0
    arguments_weight which (more e es) = expr_weight false e + exprs_weight es

    pub maybe_weight : Maybe → ℕ
    maybe_weight absent = 0
    maybe_weight (present e) = expr_weight false e

    pub parts_weight : Parts → ℕ
    parts_weight no_parts = 0
    parts_weight (part d e ps) = expr_weight false e + parts_weight ps

  abbrev pub lefts_weight : Lefts → ℕ
  lefts_weight no_lefts = 0
  lefts_weight (left_ e es) = expr_weight true e + lefts_weight es
  lefts_weight (dropped es) = lefts_weight es

  abbrev pub rights_weight : Rights → ℕ
  rights_weight nothing = 0
  rights_weight (each es) = exprs_weight es
  rights_weight (parted ts e) = expr_weight false e

  abbrev pub items_weight : Items → ℕ
  items_weight no_items = 0
  items_weight (item e is) = expr_weight false e + items_weight is
  items_weight (span e f closed is) = expr_weight false e + (expr_weight false f + items_weight is)

  abbrev pub over_weight : Over → ℕ
  over_weight (from_to e f closed) = expr_weight false e + expr_weight false f
  over_weight (through e by_place) = expr_weight false e

  abbrev mutual
    pub stmt_weight : Stmt → ℕ
    stmt_weight (stmt at k) = s + form_weight k

    pub form_weight : Form → ℕ
    form_weight (Tree.declare xs values) = rights_weight values
    form_weight (Tree.assign lefts values) = lefts_weight lefts + rights_weight values
    form_weight (Tree.change o e f) = expr_weight true e + expr_weight false f
    form_weight (Tree.eval e) = expr_weight false e
    form_weight (Tree.block l body) = stmts_weight body
    form_weight (Tree.if_ init e body other) = maybe_stmt_weight init + (expr_weight false e + (stmts_weight body + stmts_weight other))
    form_weight (Tree.loop l init e post body) = maybe_stmt_weight init + (maybe_weight e + (maybe_stmt_weight post + stmts_weight body))
    form_weight (Tree.range l over x k body) = over_weight over + stmts_weight body
    form_weight (Tree.switch l init e cs) = maybe_stmt_weight init + (maybe_weight e + cases_weight cs)
    form_weight (Tree.type_switch l e cs) = expr_weight false e + types_weight cs
    form_weight (Tree.defer i) = stmt_weight i
    form_weight (Tree.return values) = rights_weight values
    form_weight (Tree.counted n l e body) = expr_weight false e + stmts_weight body
    form_weight _ = 0

    pub maybe_stmt_weight : MaybeStmt → ℕ
    maybe_stmt_weight no_stmt = 0
    maybe_stmt_weight (some_stmt i) = stmt_weight i

    pub stmts_weight : Stmts → ℕ
    stmts_weight finish = 0
    stmts_weight (follow i is) = stmt_weight i + stmts_weight is

    pub cases_weight : Cases → ℕ
    cases_weight no_cases = 0
    cases_weight (one_case is body rest) = items_weight is + (stmts_weight body + cases_weight rest)
    cases_weight (default_case body rest) = stmts_weight body + cases_weight rest

    pub types_weight : TypeCases → ℕ
    types_weight no_types = 0
    types_weight (type_case vs x body rest) = stmts_weight body + types_weight rest
    types_weight (default_type x body rest) = stmts_weight body + types_weight rest

-- ---- nodes: expressions, statements, and parameters, results and locals
abbrev pub nodes_of : Head → Stmts → ℕ
nodes_of p body = length p.locals + stmts_weight (λ place t. 1) 1 body

-- ---- frames: 256 bytes, the variables, 128 bytes a node, and twice the value of each expression that isn't a place
abbrev pub node_bytes : Env → Bool → ℕ → ℕ
node_bytes env true t = 128
node_bytes env false t = 128 + 2 * value_bytes env t

abbrev pub variable_bytes : Env → List Local → ℕ
variable_bytes env [] = 0
variable_bytes env (l ∷ ls) = 128 + (rounded (size_of env l.ty) + variable_bytes env ls)

abbrev pub frame_of : Env → Head → Stmts → ℕ
frame_of env p body = round_up (256 + (variable_bytes env p.locals + stmts_weight (node_bytes env) 128 body)) 16

-- parameters, results and locals lie one behind another, eight bytes apart, 128 bytes from the low end
abbrev pub placed : Env → ℕ → List Local → Bool
placed env at [] = true
placed env at (l ∷ ls) = (l.place == at) && placed env (at + rounded (size_of env l.ty) + 8) ls

abbrev pub framed_procedure : Env → Head → Stmts → Bool
framed_procedure env p body = (p.frame == frame_of env p body) && placed env 128 p.locals

-- a checked program has no helpers
abbrev pub has_none : List Helper → Bool
has_none [] = true
has_none (h ∷ hs) = false

abbrev pub framed_from : Tables → List Head → List Body → Bool
framed_from tables [] [] = true
framed_from tables (p ∷ ps) (q ∷ qs) = (framed_procedure (env_of tables p 0 0 0 None) p q.stmts && has_none q.helpers) && framed_from tables ps qs
framed_from tables _ _ = false

-- each frame has the size, and each variable the place, that its procedure's tree gives
abbrev pub framed : Program → Bool
framed p = framed_from p.tables p.tables.procedures p.bodies
