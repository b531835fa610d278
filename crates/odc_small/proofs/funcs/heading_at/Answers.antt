use Rattle.odc_small.specs.Forms.{NoneAt, FoundAt}
use Rattle.odc_small.specs.Reading.{closed_by}
use Rattle.odc_small.specs.Text.{parameters, parameters_close}
use Rattle.odc_small.proofs.FuncLemmas.{heading_none_name, heading_none_mark, heading_none_close, heading_found}
use Rattle.odc_small.proofs.funcs.heading_at.Goals as goal

pub returns-in_default : goal.returns-in_default
returns-in_default c = heading_none_name c.args.bytes.now c.in_default.ensures

pub returns-in_default-strip : goal.returns-in_default-strip
returns-in_default-strip c = heading_none_mark c.args.bytes.now c.in-Some.rest.now c.in-Some.name c.in-Some.ensures c.in_default-strip.ensures

pub returns-in-Some-2 : goal.returns-in-Some-2
returns-in-Some-2 c =
    let list : FoundAt (closed_by parameters_close parameters) c.in-Some-strip.rest.now c.in-Some-2.parameters.items c.in-Some-2.rest.now = rw c.in-Some-2.is at c.in_ok-parameters.ensures in
    heading_found c.args.bytes.now c.in-Some.rest.now c.in-Some-strip.rest.now c.in-Some-2.rest.now c.in-Some.name c.in-Some-2.parameters.items c.in-Some.ensures c.in-Some-strip.ensures list

pub returns-in-None : goal.returns-in-None
returns-in-None c =
    let none : NoneAt (closed_by parameters_close parameters) c.in-Some-strip.rest.now = rw c.in-None.is at c.in_ok-parameters.ensures in
    heading_none_close c.args.bytes.now c.in-Some.rest.now c.in-Some-strip.rest.now c.in-Some.name c.in-Some.ensures c.in-Some-strip.ensures none
