-- The places of a program's nodes: its expressions and statements, and the `proc` words of its procedures, where their
-- results are read.
use Rattle.std.specs.Prelude.{◌≡◌, ◌⊎◌, List, [], ◌∷◌}
use Rattle.odc_text.specs.declared.place.Place.{Place}
use Rattle.odc_program.specs.Trees.Tree
use Rattle.odc_program.specs.Trees.Tree.{Expr, expr, Kind, Exprs, none, more, Maybe, absent, present, Parts, no_parts, part, Lefts, no_lefts, left_, dropped, Rights, nothing, each, parted, Items, no_items, item, span, Over, from_to, through, Stmt, stmt, Form, MaybeStmt, no_stmt, some_stmt, Stmts, finish, follow, Cases, no_cases, one_case, default_case, TypeCases, no_types, type_case, default_type}
use Rattle.odc_program.specs.Trees.Program.{Head, Helper, Body, Program}

abbrev mutual
  pub InExpr : Place → Expr → Type 0
  InExpr p (expr t at k) = (at ≡ p) ⊎ InKind p k

  pub InKind : Place → Kind → Type 0
  InKind p (Tree.const c) = ⊥
  InKind p (Tree.local x) = ⊥
  InKind p (Tree.global_ g) = ⊥
  InKind p (Tree.proc_value n) = ⊥
  InKind p Tree.context = ⊥
  InKind p (Tree.field e n) = InExpr p e
  InKind p (Tree.deref e) = InExpr p e
  InKind p (Tree.index e i) = InExpr p e ⊎ InExpr p i
  InKind p (Tree.cut e low high) = InExpr p e ⊎ (InMaybe p low ⊎ InMaybe p high)
  InKind p (Tree.column e n) = InExpr p e
  InKind p (Tree.call n order es) = InExprs p es
  InKind p (Tree.call_value marked e es) = InExpr p e ⊎ InExprs p es
  InKind p (Tree.builtin which order es) = InExprs p es
  InKind p (Tree.or_return e variant) = InExpr p e
  InKind p (Tree.build home ps) = InParts p ps
  InKind p (Tree.unary o e) = InExpr p e
  InKind p (Tree.binary o e f) = InExpr p e ⊎ InExpr p f
  InKind p (Tree.convert e) = InExpr p e
  InKind p (Tree.inject n e) = InExpr p e
  InKind p (Tree.assert_ n e) = InExpr p e
  InKind p (Tree.test_ n e) = InExpr p e
  InKind p (Tree.address_ e) = InExpr p e
  InKind p Tree.location = ⊥
  InKind p (Tree.help h es) = InExprs p es

  pub InExprs : Place → Exprs → Type 0
  InExprs p none = ⊥
  InExprs p (more e es) = InExpr p e ⊎ InExprs p es

  pub InMaybe : Place → Maybe → Type 0
  InMaybe p absent = ⊥
  InMaybe p (present e) = InExpr p e

  pub InParts : Place → Parts → Type 0
  InParts p no_parts = ⊥
  InParts p (part d e ps) = InExpr p e ⊎ InParts p ps

abbrev pub InLefts : Place → Lefts → Type 0
InLefts p no_lefts = ⊥
InLefts p (left_ e es) = InExpr p e ⊎ InLefts p es
InLefts p (dropped es) = InLefts p es

abbrev pub InRights : Place → Rights → Type 0
InRights p nothing = ⊥
InRights p (each es) = InExprs p es
InRights p (parted ts e) = InExpr p e

abbrev pub InItems : Place → Items → Type 0
InItems p no_items = ⊥
InItems p (item e is) = InExpr p e ⊎ InItems p is
InItems p (span e f closed is) = InExpr p e ⊎ (InExpr p f ⊎ InItems p is)

abbrev pub InOver : Place → Over → Type 0
InOver p (from_to e f closed) = InExpr p e ⊎ InExpr p f
InOver p (through e by_place) = InExpr p e

abbrev mutual
  pub InStmt : Place → Stmt → Type 0
  InStmt p (stmt at k) = (at ≡ p) ⊎ InForm p k

  pub InForm : Place → Form → Type 0
  InForm p (Tree.declare xs values) = InRights p values
  InForm p (Tree.assign lefts values) = InLefts p lefts ⊎ InRights p values
  InForm p (Tree.change o e f) = InExpr p e ⊎ InExpr p f
  InForm p (Tree.eval e) = InExpr p e
  InForm p (Tree.block l body) = InStmts p body
  InForm p (Tree.if_ init e body other) = (InMaybeStmt p init ⊎ InExpr p e) ⊎ (InStmts p body ⊎ InStmts p other)
  InForm p (Tree.loop l init e post body) = (InMaybeStmt p init ⊎ InMaybe p e) ⊎ (InMaybeStmt p post ⊎ InStmts p body)
  InForm p (Tree.range l over x k body) = InOver p over ⊎ InStmts p body
  InForm p (Tree.switch l init e cs) = (InMaybeStmt p init ⊎ InMaybe p e) ⊎ InCases p cs
  InForm p (Tree.type_switch l e cs) = InExpr p e ⊎ InTypes p cs
  InForm p (Tree.defer s) = InStmt p s
  InForm p (Tree.return values) = InRights p values
  InForm p (Tree.break_ l) = ⊥
  InForm p (Tree.continue_ l) = ⊥
  InForm p Tree.fallthrough = ⊥
  InForm p (Tree.counted n l e body) = InExpr p e ⊎ InStmts p body

  pub InMaybeStmt : Place → MaybeStmt → Type 0
  InMaybeStmt p no_stmt = ⊥
  InMaybeStmt p (some_stmt s) = InStmt p s

  pub InStmts : Place → Stmts → Type 0
  InStmts p finish = ⊥
  InStmts p (follow s ss) = InStmt p s ⊎ InStmts p ss

  pub InCases : Place → Cases → Type 0
  InCases p no_cases = ⊥
  InCases p (one_case is body rest) = InItems p is ⊎ (InStmts p body ⊎ InCases p rest)
  InCases p (default_case body rest) = InStmts p body ⊎ InCases p rest

  pub InTypes : Place → TypeCases → Type 0
  InTypes p no_types = ⊥
  InTypes p (type_case vs x body rest) = InStmts p body ⊎ InTypes p rest
  InTypes p (default_type x body rest) = InStmts p body ⊎ InTypes p rest

abbrev pub InHelpers : Place → List Helper → Type 0
InHelpers p [] = ⊥
InHelpers p (h ∷ hs) = (h.head.at ≡ p) ⊎ (InStmts p h.body ⊎ InHelpers p hs)

abbrev pub InBody : Place → Body → Type 0
InBody p b = InStmts p b.stmts ⊎ InHelpers p b.helpers

abbrev pub InBodies : Place → List Body → Type 0
InBodies p [] = ⊥
InBodies p (b ∷ bs) = InBody p b ⊎ InBodies p bs

abbrev pub InHeads : Place → List Head → Type 0
InHeads p [] = ⊥
InHeads p (h ∷ hs) = (h.at ≡ p) ⊎ InHeads p hs

-- whether a place is one of a program
abbrev pub InProgram : Place → Program → Type 0
InProgram p z = InHeads p z.tables.procedures ⊎ InBodies p z.bodies
