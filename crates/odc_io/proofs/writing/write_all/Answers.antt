use Rattle.std.proofs.Common.{arith}
use Rattle.odc_io.proofs.GrownLemmas.{grown_more}
use Rattle.odc_io.proofs.writing.write_all.Goals as goal

pub loop-at-preserved : goal.loop-at-preserved
loop-at-preserved g c = record {
  within = omega (arith, c.in_ok-count.ensures.within);
  told = grown_more _ _ _ c.args.bytes.now c.loop-at.at c.in_ok-count.count c.loop-at.invariant.told c.in_ok-count.ensures.ok;
  later = omega (arith, c.loop-at.invariant.later, c.write.ensures.counted);
}
