use Rattle.std.proofs.Common.{ap}
use Rattle.odc_typed.specs.declared.tree.Builtin.TheVariants.{Println}
use Rattle.odc_typed.specs.Tree.{eval}
use Rattle.odc_typed.proofs.Views.{expr_kind-Builtin}
use Rattle.odc_small.proofs.lines.printed.Goals as goal

pub returns : goal.returns
returns c = ap (eval c.args.place) (expr_kind-Builtin Println c.args.values c.args.place)
