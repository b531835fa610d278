-- A program whose nodes are rewritten by a rule, from the leaves up, and what a rule must keep. An expression keeps its type
-- and its place, and a statement its place.
use Rattle.std.specs.Prelude.{◌≡◌, ℕ, List, [], ◌∷◌, Option, Some, None}
use Rattle.odc_text.specs.declared.place.Place.{Place}
use Rattle.odc_program.specs.Trees.Tree
use Rattle.odc_program.specs.Trees.Tree.{Expr, expr, Kind, Exprs, none, more, Maybe, absent, present, Parts, no_parts, part, Lefts, no_lefts, left_, dropped, Rights, nothing, each, parted, Items, no_items, item, span, Over, from_to, through, Stmt, stmt, Form, MaybeStmt, no_stmt, some_stmt, Stmts, finish, follow, Cases, no_cases, one_case, default_case, TypeCases, no_types, type_case, default_type}
use Rattle.odc_program.specs.Trees.Program.{Helper, Body, Program}
use Rattle.odc_program.specs.States.Run.{Res, ok, stop}
use Rattle.odc_program.specs.States.Bytes.{Value}
use Rattle.odc_program.specs.States.State.{State, Leave, Do, Context, Env, Calls}
use Rattle.odc_program.specs.Kinds.Expressions.{base_of}
use Rattle.odc_program.specs.Runs.Statements.{Part}
use Rattle.odc_program.specs.Runs.Source.{exec, later_form}

-- what kind a node becomes whose parts are rewritten already, by its type and place
pub record Rule : Type 0 where
  pub kind : ℕ → Place → Kind → Kind
  pub form : Place → Form → Form

module _ (r : Rule) where
  abbrev mutual
    pub expr_by : Expr → Expr
    expr_by (expr t at k) = expr t at (r.kind t at (kind_by k))

    pub kind_by : Kind → Kind
    kind_by (Tree.const c) = Tree.const c
    kind_by (Tree.local x) = Tree.local x
    kind_by (Tree.global_ g) = Tree.global_ g
    kind_by (Tree.proc_value n) = Tree.proc_value n
    kind_by Tree.context = Tree.context
    kind_by (Tree.field e n) = Tree.field (expr_by e) n
    kind_by (Tree.deref e) = Tree.deref (expr_by e)
    kind_by (Tree.index e i) = Tree.index (expr_by e) (expr_by i)
    kind_by (Tree.cut e low high) = Tree.cut (expr_by e) (maybe_by low) (maybe_by high)
    kind_by (Tree.column e n) = Tree.column (expr_by e) n
    kind_by (Tree.call n order es) = Tree.call n order (exprs_by es)
    kind_by (Tree.call_value marked e es) = Tree.call_value marked (expr_by e) (exprs_by es)
    kind_by (Tree.builtin which order es) = Tree.builtin which order (exprs_by es)
    kind_by (Tree.or_return e variant) = Tree.or_return (expr_by e) variant
    kind_by (Tree.build home ps) = Tree.build home (parts_by ps)
    kind_by (Tree.unary o e) = Tree.unary o (expr_by e)
    kind_by (Tree.binary o e f) = Tree.binary o (expr_by e) (expr_by f)
    kind_by (Tree.convert e) = Tree.convert (expr_by e)
    kind_by (Tree.inject n e) = Tree.inject n (expr_by e)
    kind_by (Tree.assert_ n e) = Tree.assert_ n (expr_by e)
    kind_by (Tree.test_ n e) = Tree.test_ n (expr_by e)
    kind_by (Tree.address_ e) = Tree.address_ (expr_by e)
    kind_by Tree.location = Tree.location
    kind_by (Tree.help h es) = Tree.help h (exprs_by es)

    pub exprs_by : Exprs → Exprs
    exprs_by none = none
    exprs_by (more e es) = more (expr_by e) (exprs_by es)

    pub maybe_by : Maybe → Maybe
    maybe_by absent = absent
    maybe_by (present e) = present (expr_by e)

    pub parts_by : Parts → Parts
    parts_by no_parts = no_parts
    parts_by (part d e ps) = part d (expr_by e) (parts_by ps)

  abbrev pub lefts_by : Lefts → Lefts
  lefts_by no_lefts = no_lefts
  lefts_by (left_ e es) = left_ (expr_by e) (lefts_by es)
  lefts_by (dropped es) = dropped (lefts_by es)

  abbrev pub rights_by : Rights → Rights
  rights_by nothing = nothing
  rights_by (each es) = each (exprs_by es)
  rights_by (parted ts e) = parted ts (expr_by e)

  abbrev pub items_by : Items → Items
  items_by no_items = no_items
  items_by (item e is) = item (expr_by e) (items_by is)
  items_by (span e f closed is) = span (expr_by e) (expr_by f) closed (items_by is)

  abbrev pub over_by : Over → Over
  over_by (from_to e f closed) = from_to (expr_by e) (expr_by f) closed
  over_by (through e by_place) = through (expr_by e) by_place

  abbrev mutual
    pub stmt_by : Stmt → Stmt
    stmt_by (stmt at k) = stmt at (r.form at (form_by k))

    pub form_by : Form → Form
    form_by (Tree.declare xs values) = Tree.declare xs (rights_by values)
    form_by (Tree.assign lefts values) = Tree.assign (lefts_by lefts) (rights_by values)
    form_by (Tree.change o e f) = Tree.change o (expr_by e) (expr_by f)
    form_by (Tree.eval e) = Tree.eval (expr_by e)
    form_by (Tree.block l body) = Tree.block l (stmts_by body)
    form_by (Tree.if_ init e body other) = Tree.if_ (maybe_stmt_by init) (expr_by e) (stmts_by body) (stmts_by other)
    form_by (Tree.loop l init e post body) = Tree.loop l (maybe_stmt_by init) (maybe_by e) (maybe_stmt_by post) (stmts_by body)
    form_by (Tree.range l over x k body) = Tree.range l (over_by over) x k (stmts_by body)
    form_by (Tree.switch l init e cs) = Tree.switch l (maybe_stmt_by init) (maybe_by e) (cases_by cs)
    form_by (Tree.type_switch l e cs) = Tree.type_switch l (expr_by e) (types_by cs)
    form_by (Tree.defer s) = Tree.defer (stmt_by s)
    form_by (Tree.return values) = Tree.return (rights_by values)
    form_by (Tree.break_ l) = Tree.break_ l
    form_by (Tree.continue_ l) = Tree.continue_ l
    form_by Tree.fallthrough = Tree.fallthrough
    form_by (Tree.counted n l e body) = Tree.counted n l (expr_by e) (stmts_by body)

    pub maybe_stmt_by : MaybeStmt → MaybeStmt
    maybe_stmt_by no_stmt = no_stmt
    maybe_stmt_by (some_stmt s) = some_stmt (stmt_by s)

    pub stmts_by : Stmts → Stmts
    stmts_by finish = finish
    stmts_by (follow s ss) = follow (stmt_by s) (stmts_by ss)

    pub cases_by : Cases → Cases
    cases_by no_cases = no_cases
    cases_by (one_case is body rest) = one_case (items_by is) (stmts_by body) (cases_by rest)
    cases_by (default_case body rest) = default_case (stmts_by body) (cases_by rest)

    pub types_by : TypeCases → TypeCases
    types_by no_types = no_types
    types_by (type_case vs x body rest) = type_case vs x (stmts_by body) (types_by rest)
    types_by (default_type x body rest) = default_type x (stmts_by body) (types_by rest)

  abbrev pub helpers_by : List Helper → List Helper
  helpers_by [] = []
  helpers_by (h ∷ hs) = record { head = h.head; body = stmts_by h.body } ∷ helpers_by hs

  abbrev pub body_by : Body → Body
  body_by b = record { stmts = stmts_by b.stmts; helpers = helpers_by b.helpers }

  abbrev pub bodies_by : List Body → List Body
  bodies_by [] = []
  bodies_by (b ∷ bs) = body_by b ∷ bodies_by bs

  -- the tables stay
  abbrev pub program_by : Program → Program
  program_by p = record { tables = p.tables; bodies = bodies_by p.bodies; main = p.main }

-- ---- what a rule must keep: everything but the cost
pub record ButCost (u v : State) : Type 0 where
  pub memory : u.memory ≡ v.memory
  pub log : u.log ≡ v.log
  pub input : u.input ≡ v.input
  pub taken : u.taken ≡ v.taken
  pub left : u.left ≡ v.left
  pub serial : u.serial ≡ v.serial

abbrev pub Agree : {A : Type 0} → Res Leave State A → Res Leave State A → Type 0
Agree (ok a u) (ok b v) = (a ≡ b) × ButCost u v
Agree (stop w u) (stop x v) = (w ≡ x) × ButCost u v
Agree _ _ = ⊥

-- two actions that do the same from states that differ in cost alone
pub record Alike {A : Type 0} (m n : Do A) : Type 0 where
  pub by : (u v : State) → ButCost u v → Agree (m u) (n v)

pub record AlikeParts (m n : Part) : Type 0 where
  pub by : (c : Context) → Alike (m c) (n c)

abbrev pub AlikeLater : Option Part → Option Part → Type 0
AlikeLater None None = Unit {0}
AlikeLater (Some m) (Some n) = AlikeParts m n
AlikeLater _ _ = ⊥

-- calls that don't look at the cost
pub record BlindCalls (c : Calls) : Type 0 where
  pub call : (f : ℕ) (m n : Do (Unit {0})) (vs : List Value) (x : Context) (low : ℕ) → Alike m n → Alike (c.call f m vs x low) (c.call f n vs x low)
  pub help : (h : ℕ) (vs : List Value) (env : Env) → Alike (c.help h vs env) (c.help h vs env)

-- A rule keeps what a node does, and which statements are deferred.
pub record Keeps (r : Rule) : Type 0 where
  pub kinds : (calls : Calls) → BlindCalls calls → (env : Env) (t : ℕ) (at : Place) (k : Kind) → Alike (base_of calls env (expr t at k)) (base_of calls env (expr t at (r.kind t at k)))
  pub forms : (n : ℕ) (calls : Calls) → BlindCalls calls → (env : Env) (at : Place) (k : Form) → AlikeParts (exec n calls env (stmt at k)) (exec n calls env (stmt at (r.form at k)))
  pub later : (n : ℕ) (calls : Calls) → BlindCalls calls → (env : Env) (at : Place) (k : Form) → AlikeLater (later_form n calls env k) (later_form n calls env (r.form at k))
