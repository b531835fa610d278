-- What the definitions see of the pass's own types.
use Rattle.odc_context.specs.declared.own.OwnVariables.{OwnVariables}
use Rattle.odc_context.specs.Code.{Own}

abbrev pub own : OwnVariables → Own
own o = record { first = o.first; result = o.result; waiting = o.waiting }
