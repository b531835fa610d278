-- What an expression shows.
use Rattle.std.specs.Prelude.{List, [], ◌∷◌, Option, Some, None}
use Rattle.odc_program.specs.declared.tree.BuildPart.{BuildPart}
use Rattle.odc_program.specs.declared.tree.TExprKind.{TExprKind}
use Rattle.odc_program.specs.declared.tree.TExprKind.TheVariants as k
use Rattle.odc_program.specs.Trees.Tree as tree

abbrev pub maybe : Option tree.Expr → tree.Maybe
maybe None = tree.absent
maybe (Some e) = tree.present e

abbrev pub exprs : List tree.Expr → tree.Exprs
exprs [] = tree.none
exprs (e ∷ es) = tree.more e (exprs es)

abbrev pub parts : List BuildPart → tree.Parts
parts [] = tree.no_parts
parts (p ∷ ps) = tree.part p.offset p.value (parts ps)

abbrev pub expr_kind : TExprKind → tree.Kind
expr_kind (k.Const c) = tree.const c
expr_kind (k.Local x) = tree.local x
expr_kind (k.Global g) = tree.global_ g
expr_kind (k.ProcValue n) = tree.proc_value n
expr_kind k.Context = tree.context
expr_kind (k.Field e n) = tree.field e n
expr_kind (k.Deref e) = tree.deref e
expr_kind (k.Index e i) = tree.index e i
expr_kind (k.Cut e low high) = tree.cut e (maybe low) (maybe high)
expr_kind (k.Column e n) = tree.column e n
expr_kind (k.Call n order es) = tree.call n order.items (exprs es.items)
expr_kind (k.CallValue marked e es) = tree.call_value marked e (exprs es.items)
expr_kind (k.Builtin which order es) = tree.builtin which order.items (exprs es.items)
expr_kind (k.OrReturn e variant) = tree.or_return e variant
expr_kind (k.Build home ps) = tree.build home (parts ps.items)
expr_kind (k.Unary op e) = tree.unary op e
expr_kind (k.Binary op e f) = tree.binary op e f
expr_kind (k.Convert e) = tree.convert e
expr_kind (k.Inject variant e) = tree.inject variant e
expr_kind (k.Assert variant e) = tree.assert_ variant e
expr_kind (k.Test variant e) = tree.test_ variant e
expr_kind (k.Address e) = tree.address_ e
expr_kind k.Location = tree.location
expr_kind (k.Help h es) = tree.help h (exprs es.items)
