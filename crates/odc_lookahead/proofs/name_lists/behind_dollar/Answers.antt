use Rattle.odc_lookahead.specs.ParamForms.{plain}
use Rattle.odc_lookahead.proofs.params.ParamFronts.{front_dollar}
use Rattle.odc_lookahead.proofs.name_lists.behind_dollar.Goals as goal

pub returns-in-Some : goal.returns-in-Some
returns-in-Some c = record { front = front_dollar c.args.used c.in-Some._dollar c.args.tokens.now c.in-Some.behind.now c.in-Some.ensures.is c.in-Some.ensures.used c.in-Some.ensures.kind }

pub returns-in-None : goal.returns-in-None
returns-in-None c = record { front = plain c.in-None.ensures.none }
