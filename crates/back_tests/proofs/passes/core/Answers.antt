use Rattle.std.proofs.Common.{sym, subst}
use Rattle.odc_core.specs.Tree.{Whole as CoreWhole}
use Rattle.odc_typed.specs.View.{program}
use Rattle.odc_typed.specs.Well.{signatures}
use Rattle.odc_lower.specs.Size.{AreCountable}
use Rattle.odc_build.proofs.Limits.{countable}
use Rattle.back_tests.proofs.passes.core.Goals as goal

pub returns-clause-countable : goal.returns-clause-countable
returns-clause-countable c =
    let w = program c.in_ok-p.p in
    subst (λ (x : CoreWhole). AreCountable x.procedures) (sym c.in_ok-pass_context.ensures.crossed) (countable (signatures w.procedures) w.procedures c.in_ok-p.ensures.well.procedures c.in_ok-p.ensures.nodes)
