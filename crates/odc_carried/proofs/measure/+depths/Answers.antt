use Rattle.std.proofs.Common.{◌≡◌, ℕ, ◌-◌, drop, ap, ◌∙◌, arith}
use Rattle.odc_program.specs.Views.View.{exprs}
use Rattle.odc_carried.specs.Code.{depths}
use Rattle.odc_carried.proofs.emitting.Sources.{expr_falls}
use Rattle.odc_carried.proofs.measure.+depths.Goals as goal

pub depth_of_each-depth-requires : goal.depth_of_each-depth-requires
depth_of_each-depth-requires t c = (omega (arith, expr_falls c.args.es.now (c.loop-i.i - 1) c.index-es-i.result (omega (arith, c.loop-i-test.true, c.loop-i.invariant.inside)) c.index-es-i.is), tt)

pub depth_of_each-returns : goal.depth_of_each-returns
depth_of_each-returns t c =
    let none : c.loop-i.i ≡ 0 = omega (arith, c.loop-i-test.false) in
    c.loop-i.invariant.most ∙ ap (λ (n : ℕ). depths (exprs (drop n c.args.es.now))) none
