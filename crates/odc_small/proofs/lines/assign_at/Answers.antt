use Rattle.std.proofs.Common.{◌≡◌, ◌∙◌, None, sym, subst, arith, codes}
use Rattle.odc_typed.specs.View.{expr}
use Rattle.odc_small.specs.Names.{variable_of, MayAssign}
use Rattle.odc_small.specs.Progress.{settings, setting_told}
use Rattle.odc_small.specs.Reading.{ReadsAt}
use Rattle.odc_small.specs.View.{callable as callable_tree}
use Rattle.odc_small.proofs.BlockLemmas.{assigned_read, assigned_none, barred_none}
use Rattle.odc_small.proofs.lines.assign_at.Goals as goal

pub returns-in_default : goal.returns-in_default
returns-in_default c = assigned_none (callable_tree c.args.callable.now) c.args.parameters c.args.names.now c.args.bytes.now (rw c.in_default.is at c.in_ok-name.ensures)

pub returns-in_default-variable_at : goal.returns-in_default-variable_at
returns-in_default-variable_at c =
    let setting : ReadsAt (settings (callable_tree c.args.callable.now) c.args.names.now (codes " = ")) (setting_told (callable_tree c.args.callable.now) c.args.names.now c.args.line 3) c.args.origin c.args.bytes.now c.in-Some.rest.now (c.in-Some.name, expr c.in-Some.value)
    = rw c.in-Some.is at c.in_ok-name.ensures in
    let none : variable_of c.in-Some.name c.args.names.now ≡ None = sym c.variable_at.ensures ∙ c.in_default-variable_at.is in
    barred_none (callable_tree c.args.callable.now) c.args.parameters c.args.names.now c.args.line c.args.origin c.args.bytes.now c.in-Some.rest.now c.in-Some.name (expr c.in-Some.value) setting
    (λ may. subst (MayAssign c.args.parameters) none may)

pub returns-then-parameters-variable : goal.returns-then-parameters-variable
returns-then-parameters-variable c =
    let setting : ReadsAt (settings (callable_tree c.args.callable.now) c.args.names.now (codes " = ")) (setting_told (callable_tree c.args.callable.now) c.args.names.now c.args.line 3) c.args.origin c.args.bytes.now c.in-Some.rest.now (c.in-Some.name, expr c.in-Some.value)
    = rw c.in-Some.is at c.in_ok-name.ensures in
    assigned_read (callable_tree c.args.callable.now) c.args.parameters c.args.names.now c.args.line c.args.origin c.in-Some-variable_at.variable c.args.bytes.now c.in-Some.rest.now c.in-Some.name (expr c.in-Some.value) setting
    (sym c.variable_at.ensures ∙ c.in-Some-variable_at.is) c.if-parameters-variable.true

pub returns-else-parameters-variable : goal.returns-else-parameters-variable
returns-else-parameters-variable c =
    let setting : ReadsAt (settings (callable_tree c.args.callable.now) c.args.names.now (codes " = ")) (setting_told (callable_tree c.args.callable.now) c.args.names.now c.args.line 3) c.args.origin c.args.bytes.now c.in-Some.rest.now (c.in-Some.name, expr c.in-Some.value)
    = rw c.in-Some.is at c.in_ok-name.ensures in
    barred_none (callable_tree c.args.callable.now) c.args.parameters c.args.names.now c.args.line c.args.origin c.args.bytes.now c.in-Some.rest.now c.in-Some.name (expr c.in-Some.value) setting
    (λ may. let m = subst (MayAssign c.args.parameters) (sym c.variable_at.ensures ∙ c.in-Some-variable_at.is) may in omega (arith, m, c.if-parameters-variable.false))
