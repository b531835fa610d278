use Rattle.std.proofs.Common.{◌∙◌}
use Rattle.odc_lookahead.proofs.switches.SwitchAnswers.{head_simple}
use Rattle.odc_parse_expr.proofs.switches.goes_on_head.Goals as goal

pub returns-in_default : goal.returns-in_default
returns-in_default c = c.goes_on_simple.ensures ∙ head_simple c.args.kind c.in_default.not-Semicolon c.in_default.not-Colon
