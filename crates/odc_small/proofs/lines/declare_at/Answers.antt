use Rattle.std.proofs.Common.{◌∙◌, sym, codes}
use Rattle.odc_typed.specs.View.{expr}
use Rattle.odc_small.specs.Progress.{settings, setting_told}
use Rattle.odc_small.specs.Reading.{ReadsAt}
use Rattle.odc_small.specs.View.{callable as callable_tree}
use Rattle.odc_small.proofs.BlockLemmas.{free_read, free_none, taken_none}
use Rattle.odc_small.proofs.lines.declare_at.Goals as goal

pub returns-in_default : goal.returns-in_default
returns-in_default c = free_none (callable_tree c.args.callable.now) c.args.names.now c.args.bytes.now (rw c.in_default.is at c.in_ok-name.ensures)

pub returns-in-Some-variable_at : goal.returns-in-Some-variable_at
returns-in-Some-variable_at c =
    let setting : ReadsAt (settings (callable_tree c.args.callable.now) c.args.names.now (codes " := ")) (setting_told (callable_tree c.args.callable.now) c.args.names.now c.args.line 4) c.args.origin c.args.bytes.now c.in-Some.rest.now (c.in-Some.name, expr c.in-Some.value)
    = rw c.in-Some.is at c.in_ok-name.ensures in
    taken_none (callable_tree c.args.callable.now) c.args.names.now c.args.line c.args.origin c.args.bytes.now c.in-Some.rest.now c.in-Some.name (expr c.in-Some.value) setting
    (λ e. let f = c.variable_at.ensures in let g = c.in-Some-variable_at.is in cc)

pub returns-in-None : goal.returns-in-None
returns-in-None c =
    let setting : ReadsAt (settings (callable_tree c.args.callable.now) c.args.names.now (codes " := ")) (setting_told (callable_tree c.args.callable.now) c.args.names.now c.args.line 4) c.args.origin c.args.bytes.now c.in-Some.rest.now (c.in-Some.name, expr c.in-Some.value)
    = rw c.in-Some.is at c.in_ok-name.ensures in
    free_read (callable_tree c.args.callable.now) c.args.names.now c.args.line c.args.origin c.args.bytes.now c.in-Some.rest.now c.in-Some.name (expr c.in-Some.value) setting
    (sym c.variable_at.ensures ∙ c.in-None.is)
