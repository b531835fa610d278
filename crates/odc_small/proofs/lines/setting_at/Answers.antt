use Rattle.odc_typed.specs.View.{expr}
use Rattle.odc_small.specs.Forms.{NoneAt}
use Rattle.odc_small.specs.Progress.{known_values}
use Rattle.odc_small.specs.Reading.{ReadsAt}
use Rattle.odc_small.specs.Typing.{value_at}
use Rattle.odc_small.specs.View.{callable as callable_tree}
use Rattle.odc_small.proofs.LineLemmas.{setting_none_value, setting_none_end, setting_read}
use Rattle.odc_small.proofs.lines.setting_at.Goals as goal

pub returns-in_default-2 : goal.returns-in_default-2
returns-in_default-2 c =
    let none : NoneAt (known_values (callable_tree c.args.callable.now) c.args.names.now) c.in-Some-strip.rest.now = rw c.in_default-2.is at c.in_ok-value.ensures in
    setting_none_value (callable_tree c.args.callable.now) c.args.names.now c.args.sign.now c.args.bytes.now c.in-Some.rest.now c.in-Some-strip.rest.now c.in-Some.name c.in-Some.ensures c.in-Some-strip.ensures none

pub returns-in-Some-strip-2 : goal.returns-in-Some-strip-2
returns-in-Some-strip-2 c =
    let value : ReadsAt (known_values (callable_tree c.args.callable.now) c.args.names.now) (value_at (callable_tree c.args.callable.now) c.args.names.now c.args.line) c.args.origin c.in-Some-strip.rest.now c.in-Some-2.rest.now (expr c.in-Some-2.value) = rw c.in-Some-2.is at c.in_ok-value.ensures in
    setting_read (callable_tree c.args.callable.now) c.args.names.now c.args.sign.now c.args.line c.args.origin c.args.bytes.now c.in-Some.rest.now c.in-Some-strip.rest.now c.in-Some-2.rest.now c.in-Some-strip-2.rest.now c.in-Some.name (expr c.in-Some-2.value)
    c.in-Some.ensures c.in-Some-strip.ensures value c.in-Some-strip-2.ensures c.requires.within

pub returns-in-None : goal.returns-in-None
returns-in-None c =
    let value : ReadsAt (known_values (callable_tree c.args.callable.now) c.args.names.now) (value_at (callable_tree c.args.callable.now) c.args.names.now c.args.line) c.args.origin c.in-Some-strip.rest.now c.in-Some-2.rest.now (expr c.in-Some-2.value) = rw c.in-Some-2.is at c.in_ok-value.ensures in
    setting_none_end (callable_tree c.args.callable.now) c.args.names.now c.args.sign.now c.args.line c.args.origin c.args.bytes.now c.in-Some.rest.now c.in-Some-strip.rest.now c.in-Some-2.rest.now c.in-Some.name (expr c.in-Some-2.value)
    c.in-Some.ensures c.in-Some-strip.ensures value c.in-None.ensures
