use Rattle.std.proofs.Common.{arith}
use Rattle.odc_carried.proofs.emitting.Sources.{stmt_falls}
use Rattle.odc_carried.proofs.refused.+refused_statements.Goals as goal

pub refused_stmts-refused_stmt-first-requires : goal.refused_stmts-refused_stmt-first-requires
refused_stmts-refused_stmt-first-requires t c = (omega (arith, stmt_falls c.args.ss.now c.loop-s.s-index c.s-item.result c.loop-s-test.true c.s-item.is), tt)
