use Rattle.odc_parse.specs.Read.{there, missing}
use Rattle.odc_parse.proofs.import.optional_name.Goals as goal

pub returns-in-Some-clause-read : goal.returns-in-Some-clause-read
returns-in-Some-clause-read c = there c.in-Some.name c.in-Some.ensures.is c.in-Some.ensures.kind

pub returns-in-None-clause-read : goal.returns-in-None-clause-read
returns-in-None-clause-read c = missing c.in-None.ensures.none
