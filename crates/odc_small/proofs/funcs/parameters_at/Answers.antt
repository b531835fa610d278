use Rattle.odc_small.proofs.ParameterLemmas.{parameters_read, parameters_none_first, parameters_none_close}
use Rattle.odc_small.proofs.funcs.parameters_at.Goals as goal

pub returns-in_default-parameter_at : goal.returns-in_default-parameter_at
returns-in_default-parameter_at c = parameters_none_first c.args.bytes.now c.in_default.ensures c.in_default-parameter_at.ensures

pub returns-in-Some-strip : goal.returns-in-Some-strip
returns-in-Some-strip c =
    parameters_read c.args.bytes.now c.in-Some-parameter_at.after.now c.in_ok-names.rest.now c.in-Some-strip.rest.now c.in_ok-names.names.items c.in-Some-parameter_at.first
    c.in-Some-parameter_at.ensures c.in_ok-names.ensures c.in-Some-strip.ensures

pub returns-in-None : goal.returns-in-None
returns-in-None c =
    parameters_none_close c.args.bytes.now c.in-Some-parameter_at.after.now c.in_ok-names.rest.now c.in_ok-names.names.items c.in-Some-parameter_at.first
    c.in_default.ensures c.in-Some-parameter_at.ensures c.in_ok-names.ensures c.in-None.ensures
