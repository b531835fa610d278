use Rattle.std.proofs.Common.{arith}
use Rattle.odc_carried.proofs.emitting.Sources.{expr_falls}
use Rattle.odc_carried.proofs.refused.+integers.Goals as goal

pub refused_ints-refused_int-first-requires : goal.refused_ints-refused_int-first-requires
refused_ints-refused_int-first-requires t c = (omega (arith, expr_falls c.args.es.now c.loop-e.e-index c.e-item.result c.loop-e-test.true c.e-item.is), tt)
