use Rattle.std.proofs.Common.{◌≡◌, ℕ, ◌-◌, drop, ap, ◌∙◌, arith}
use Rattle.odc_program.specs.Views.StmtView.{stmts}
use Rattle.odc_carried.specs.Code.{stmts_depth}
use Rattle.odc_carried.proofs.emitting.Sources.{stmt_falls}
use Rattle.odc_carried.proofs.measure.+stmt_depths.Goals as goal

pub depth_in_all-depth_in-requires : goal.depth_in_all-depth_in-requires
depth_in_all-depth_in-requires t c = (omega (arith, stmt_falls c.args.ss.now (c.loop-i.i - 1) c.index-ss-i.result (omega (arith, c.loop-i-test.true, c.loop-i.invariant.inside)) c.index-ss-i.is), tt)

pub depth_in_all-returns : goal.depth_in_all-returns
depth_in_all-returns t c =
    let none : c.loop-i.i ≡ 0 = omega (arith, c.loop-i-test.false) in
    c.loop-i.invariant.most ∙ ap (λ (n : ℕ). stmts_depth (stmts (drop n c.args.ss.now))) none
