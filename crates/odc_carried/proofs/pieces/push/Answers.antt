use Rattle.std.proofs.Common.{[], ◌∷◌, ap, ◌∙◌}
use Rattle.odc_core.specs.View.{stmts}
use Rattle.odc_carried.proofs.emitting.Joins.{stmts_append}
use Rattle.odc_carried.proofs.pieces.push.Goals as goal

pub returns : goal.returns
returns c = ap stmts c.in_ok-push.ensures.items ∙ stmts_append c.args.code.now.items (c.args.statement ∷ [])
