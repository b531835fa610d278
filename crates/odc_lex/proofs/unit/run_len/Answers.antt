use Rattle.std.proofs.Common.{arith}
use Rattle.odc_lex.proofs.UnitLemmas.{run_step}
use Rattle.odc_lex.proofs.unit.run_len.Goals as goal

pub loop-len-smaller : goal.loop-len-smaller
loop-len-smaller c = let step = run_step _ _ _ _ c.loop-len.invariant.within c.loop-len.invariant.run c.in-Some.ensures in omega (arith, step.0, step.1)

pub loop-len-preserved : goal.loop-len-preserved
loop-len-preserved c = let step = run_step _ _ _ _ c.loop-len.invariant.within c.loop-len.invariant.run c.in-Some.ensures in record { within = step.1; run = step.2 }
