use Rattle.std.proofs.Common.{ap}
use Rattle.odc_parse_expr.specs.LoopForms.{refers}
use Rattle.odc_parse_expr.proofs.LoopFronts.{address_front, other_front}
use Rattle.odc_parse_expr.proofs.loops.unnamed.Goals as goal

pub returns-in-Reference : goal.returns-in-Reference
returns-in-Reference c = λ ts rest z f. address_front (refers c.args.sign) ts rest (ap refers c.in-Reference.is) z f

pub returns-in-Plain : goal.returns-in-Plain
returns-in-Plain c = λ ts rest z f. other_front (refers c.args.sign) ts rest (ap refers c.in-Plain.is) z f
