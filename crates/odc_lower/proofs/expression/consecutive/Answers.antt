use Rattle.std.proofs.Common.{◌∙◌, ◌+◌, ◌++◌, ◌∷◌, [], ap, sym}
use Rattle.odc_lower.proofs.Emitted.{temps_more}
use Rattle.odc_lower.proofs.expression.consecutive.Goals as goal

pub loop-i-preserved : goal.loop-i-preserved
loop-i-preserved c = c.in_ok-push.ensures.items ∙ ap (λ xs. xs ++ ((c.args.first + c.loop-i.i) ∷ [])) c.loop-i.invariant ∙ sym (temps_more c.args.first c.loop-i.i)
