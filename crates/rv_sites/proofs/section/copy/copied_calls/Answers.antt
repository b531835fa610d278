use Rattle.std.proofs.Common.{arith, drop, length-drop}
use Rattle.rv_sites.specs.Numbers.{number64}
use Rattle.rv_sites.proofs.Counted.{entry_next}
use Rattle.rv_sites.proofs.section.copy.copied_calls.Goals as goal

pub loop-left-preserved : goal.loop-left-preserved
loop-left-preserved c = record {
  all = entry_next number64 (drop 8) c.loop-left.left c.loop-left.rest.now c.behind-rest.result.now c.loop-left.calls.items _ _ c.u64_of.result c.loop-left-test.true c.loop-left.invariant.all c.u64_of.ensures c.behind-rest.ensures c.in_ok-push.ensures.items;
  room = rw (c.behind-rest.ensures, length-drop) (omega (arith, c.loop-left.invariant.room));
}
