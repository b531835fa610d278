use Rattle.odc_typed.specs.View.{exprs}
use Rattle.odc_small.specs.Forms.{NoneAt}
use Rattle.odc_small.specs.Reading.{ReadsAt, known_arguments, lists_of, list_told}
use Rattle.odc_small.specs.View.{callable as callable_tree}
use Rattle.odc_small.proofs.LineLemmas.{print_none_open, print_none_list, print_none_shut, print_read}
use Rattle.odc_small.proofs.lines.print_at.Goals as goal

pub returns-in_default : goal.returns-in_default
returns-in_default c = print_none_open (callable_tree c.args.callable.now) c.args.names.now c.args.bytes.now c.in_default.ensures

pub returns-in_default-2 : goal.returns-in_default-2
returns-in_default-2 c =
    let none : NoneAt (lists_of (known_arguments (callable_tree c.args.callable.now) c.args.names.now 5)) c.in-Some.rest.now = rw c.in_default-2.is at c.in_ok-values.ensures in
    print_none_list (callable_tree c.args.callable.now) c.args.names.now c.args.bytes.now c.in-Some.rest.now c.in-Some.ensures none

pub returns-in-Some-strip : goal.returns-in-Some-strip
returns-in-Some-strip c =
    let items : ReadsAt (lists_of (known_arguments (callable_tree c.args.callable.now) c.args.names.now 5)) (list_told (callable_tree c.args.callable.now) c.args.names.now c.args.line 5) c.args.origin c.in-Some.rest.now c.in-Some-2.rest.now (exprs c.in-Some-2.values.items)
    = rw c.in-Some-2.is at c.in_ok-values.ensures in
    print_read (callable_tree c.args.callable.now) c.args.names.now c.args.line c.args.origin c.args.bytes.now c.in-Some.rest.now c.in-Some-2.rest.now c.in-Some-strip.rest.now (exprs c.in-Some-2.values.items) c.in-Some.ensures items c.in-Some-strip.ensures c.requires.within

pub returns-in-None : goal.returns-in-None
returns-in-None c =
    let items : ReadsAt (lists_of (known_arguments (callable_tree c.args.callable.now) c.args.names.now 5)) (list_told (callable_tree c.args.callable.now) c.args.names.now c.args.line 5) c.args.origin c.in-Some.rest.now c.in-Some-2.rest.now (exprs c.in-Some-2.values.items)
    = rw c.in-Some-2.is at c.in_ok-values.ensures in
    print_none_shut (callable_tree c.args.callable.now) c.args.names.now c.args.line c.args.origin c.args.bytes.now c.in-Some.rest.now c.in-Some-2.rest.now (exprs c.in-Some-2.values.items) c.in-Some.ensures items c.in-None.ensures
