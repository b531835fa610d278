use Rattle.std.proofs.Common.{◌+◌, ◌++◌, ◌∙◌, ap, length, arith}
use Rattle.std.proofs.lemmas.Result.{on_ok_weaker}
use Rattle.odc_mid.specs.declared.tree.MidStep.{MidStep}
use Rattle.odc_core.specs.View.{expr}
use Rattle.odc_lower.specs.Size.{expr_nodes}
use Rattle.odc_lower.specs.Code.{expr_code}
use Rattle.odc_lower.proofs.Emitted.{grown, zero_emitted}
use Rattle.odc_lower.proofs.Lengths.{join_two, expr_length}
use Rattle.odc_lower.proofs.statement.emit_zero.Goals as goal

pub position-p-requires : goal.position-p-requires
position-p-requires c =
    let d = c.args.d in
    let a = expr c.args.to.now in
    let b = expr c.args.size.now in
    let l = grown c.args.steps.now.items c.emit_two.new.steps.items (expr_code d a ++ expr_code (d + 1) b) (expr_nodes a + expr_nodes b) c.in_ok-emit_two.ensures
    (join_two (expr_code d a) (expr_code (d + 1) b) (expr_nodes a) (expr_nodes b) (expr_length a d) (expr_length b (d + 1))) in
    let same = ap (λ (xs : _). length {A = MidStep} xs) c.deref.ensures.value in
    omega (arith, l, same, c.requires.place)

pub push_zero-requires-clause-place : goal.push_zero-requires-clause-place
push_zero-requires-clause-place c =
    let d = c.args.d in
    let a = expr c.args.to.now in
    let b = expr c.args.size.now in
    let l = grown c.args.steps.now.items c.emit_two.new.steps.items (expr_code d a ++ expr_code (d + 1) b) (expr_nodes a + expr_nodes b) c.in_ok-emit_two.ensures
    (join_two (expr_code d a) (expr_code (d + 1) b) (expr_nodes a) (expr_nodes b) (expr_length a d) (expr_length b (d + 1))) in
    let same = ap (λ (xs : _). length {A = MidStep} xs) c.deref.ensures.value in
    omega (arith, l, same, c.position-p.ensures, c.requires.place)

pub returns : goal.returns
returns c =
    let place = c.position-p.ensures ∙ ap (λ (xs : _). length {A = MidStep} xs) c.deref.ensures.value in
    on_ok_weaker c.push_zero.result
    (λ h. zero_emitted c.args.steps.now.items c.emit_two.new.steps.items c.push_zero.new.steps.items c.args.d (expr c.args.to.now) (expr c.args.size.now) c.position-p.result c.in_ok-emit_two.ensures place h)
    c.push_zero.ensures
