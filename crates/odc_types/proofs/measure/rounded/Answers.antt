use Rattle.odc_types.proofs.MeasureLemmas.{rounded_to}
use Rattle.odc_types.proofs.measure.rounded.Goals as goal

pub returns-else-rest-eq0 : goal.returns-else-rest-eq0
returns-else-rest-eq0 c = rounded_to _ c.in-Some.size c.args.align _ c.in-Some.is c.requires c.if-rest-eq0.false c.checked_add.ensures
