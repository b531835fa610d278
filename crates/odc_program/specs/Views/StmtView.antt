-- What a statement shows.
use Rattle.std.specs.Prelude.{ℕ, List, [], ◌∷◌, Option, Some, None, Vec}
use Rattle.std.specs.declared.alloc.Global.{Global}
use Rattle.odc_program.specs.declared.tree.Rights.{Rights}
use Rattle.odc_program.specs.declared.tree.Rights.TheVariants as r
use Rattle.odc_program.specs.declared.tree.CaseItem.{CaseItem}
use Rattle.odc_program.specs.declared.tree.CaseItem.TheVariants as i
use Rattle.odc_program.specs.declared.tree.Over.{Over}
use Rattle.odc_program.specs.declared.tree.Over.TheVariants as o
use Rattle.odc_program.specs.declared.tree.Case.{Case}
use Rattle.odc_program.specs.declared.tree.TypeCase.{TypeCase}
use Rattle.odc_program.specs.declared.tree.TStmtKind.{TStmtKind}
use Rattle.odc_program.specs.declared.tree.TStmtKind.TheVariants as k
use Rattle.odc_program.specs.Trees.Tree as tree
use Rattle.odc_program.specs.Views.View.{maybe, exprs}

abbrev pub lefts : List (Option tree.Expr) → tree.Lefts
lefts [] = tree.no_lefts
lefts (Some e ∷ es) = tree.left_ e (lefts es)
lefts (None ∷ es) = tree.dropped (lefts es)

abbrev pub rights : Rights → tree.Rights
rights r.None = tree.nothing
rights (r.Each es) = tree.each (exprs es.items)
rights (r.Parted ps e) = tree.parted ps.items e

abbrev pub items : List CaseItem → tree.Items
items [] = tree.no_items
items (i.One e ∷ is) = tree.item e (items is)
items (i.Span e f closed ∷ is) = tree.span e f closed (items is)

abbrev pub over : Over → tree.Over
over (o.Range e f closed) = tree.from_to e f closed
over (o.Container e by_place) = tree.through e by_place

abbrev pub maybe_stmt : Option tree.Stmt → tree.MaybeStmt
maybe_stmt None = tree.no_stmt
maybe_stmt (Some s) = tree.some_stmt s

abbrev pub stmts : List tree.Stmt → tree.Stmts
stmts [] = tree.finish
stmts (s ∷ ss) = tree.follow s (stmts ss)

abbrev pub with_case : Option (Vec CaseItem Global) → tree.Stmts → tree.Cases → tree.Cases
with_case None body rest = tree.default_case body rest
with_case (Some is) body rest = tree.one_case (items is.items) body rest

abbrev pub cases : List Case → tree.Cases
cases [] = tree.no_cases
cases (c ∷ cs) = with_case c.items (stmts c.body.items) (cases cs)

abbrev pub with_type : Option (Vec ℕ Global) → Option ℕ → tree.Stmts → tree.TypeCases → tree.TypeCases
with_type None x body rest = tree.default_type x body rest
with_type (Some vs) x body rest = tree.type_case vs.items x body rest

abbrev pub type_cases : List TypeCase → tree.TypeCases
type_cases [] = tree.no_types
type_cases (c ∷ cs) = with_type c.variants c.local (stmts c.body.items) (type_cases cs)

abbrev pub stmt_kind : TStmtKind → tree.Form
stmt_kind (k.Declare xs v) = tree.declare xs.items (rights v)
stmt_kind (k.Assign ls v) = tree.assign (lefts ls.items) (rights v)
stmt_kind (k.Change op e f) = tree.change op e f
stmt_kind (k.Eval e) = tree.eval e
stmt_kind (k.Block l body) = tree.block l (stmts body.items)
stmt_kind (k.If init e body other) = tree.if_ (maybe_stmt init) e (stmts body.items) (stmts other.items)
stmt_kind (k.Loop l init e post body) = tree.loop l (maybe_stmt init) (maybe e) (maybe_stmt post) (stmts body.items)
stmt_kind (k.Range l x a b body) = tree.range l (over x) a b (stmts body.items)
stmt_kind (k.Switch l init e cs) = tree.switch l (maybe_stmt init) (maybe e) (cases cs.items)
stmt_kind (k.TypeSwitch l e cs) = tree.type_switch l e (type_cases cs.items)
stmt_kind (k.Defer s) = tree.defer s
stmt_kind (k.Return v) = tree.return (rights v)
stmt_kind (k.Break l) = tree.break_ l
stmt_kind (k.Continue l) = tree.continue_ l
stmt_kind k.Fallthrough = tree.fallthrough
stmt_kind (k.Counted n l e body) = tree.counted n l e (stmts body.items)
