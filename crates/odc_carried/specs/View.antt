-- What the definitions see of the step's own types.
use Rattle.odc_carried.specs.declared.around.Around.{Around as RustAround}
use Rattle.odc_carried.specs.Code.{Around}

abbrev pub shown : RustAround → Around
shown o = record { first = o.first.items; low = o.low; waiting = o.waiting; result = o.result; results = o.results; needs = o.needs.items }
