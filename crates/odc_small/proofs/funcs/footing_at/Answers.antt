use Rattle.odc_typed.specs.View.{expr}
use Rattle.odc_small.specs.Forms.{NoneAt}
use Rattle.odc_small.specs.Progress.{known_values}
use Rattle.odc_small.specs.Reading.{ReadsAt}
use Rattle.odc_small.specs.Typing.{value_at}
use Rattle.odc_small.specs.View.{callable as callable_tree}
use Rattle.odc_small.proofs.ParameterLemmas.{footing_none_mark, footing_none_value, footing_none_end, footing_read}
use Rattle.odc_small.proofs.funcs.footing_at.Goals as goal

pub returns-in_default : goal.returns-in_default
returns-in_default c = footing_none_mark (callable_tree c.args.callable.now) c.args.names.now c.args.bytes.now c.in_default.ensures

pub returns-in_default-2 : goal.returns-in_default-2
returns-in_default-2 c =
    let none : NoneAt (known_values (callable_tree c.args.callable.now) c.args.names.now) c.in-Some.rest.now = rw c.in_default-2.is at c.in_ok-answer.ensures in
    footing_none_value (callable_tree c.args.callable.now) c.args.names.now c.args.bytes.now c.in-Some.rest.now c.in-Some.ensures none

pub returns-in-Some-strip : goal.returns-in-Some-strip
returns-in-Some-strip c =
    let value : ReadsAt (known_values (callable_tree c.args.callable.now) c.args.names.now) (value_at (callable_tree c.args.callable.now) c.args.names.now c.args.line) c.args.origin c.in-Some.rest.now c.in-Some-2.rest.now (expr c.in-Some-2.answer) = rw c.in-Some-2.is at c.in_ok-answer.ensures in
    footing_read (callable_tree c.args.callable.now) c.args.names.now c.args.line c.args.origin c.args.bytes.now c.in-Some.rest.now c.in-Some-2.rest.now c.in-Some-strip.rest.now (expr c.in-Some-2.answer) c.in-Some.ensures value c.in-Some-strip.ensures c.requires.within

pub returns-in-None : goal.returns-in-None
returns-in-None c =
    let value : ReadsAt (known_values (callable_tree c.args.callable.now) c.args.names.now) (value_at (callable_tree c.args.callable.now) c.args.names.now c.args.line) c.args.origin c.in-Some.rest.now c.in-Some-2.rest.now (expr c.in-Some-2.answer) = rw c.in-Some-2.is at c.in_ok-answer.ensures in
    footing_none_end (callable_tree c.args.callable.now) c.args.names.now c.args.line c.args.origin c.args.bytes.now c.in-Some.rest.now c.in-Some-2.rest.now (expr c.in-Some-2.answer) c.in-Some.ensures value c.in-None.ensures
