use Rattle.std.proofs.Common.{arith}
use Rattle.odc_lookahead.proofs.faults.BlameLemmas.{stopped_syntax, stopped_deep}
use Rattle.odc_lookahead.proofs.blame.stopped.Goals as goal

pub returns-in-Syntax : goal.returns-in-Syntax
returns-in-Syntax c =
    stopped_syntax c.args.t.now.list.items c.args.t.now.end c.args.from c.in-Syntax.left c.saturating_sub-at.result c.args.stop c.blame.result c.in-Syntax.is (omega arith) c.blame.ensures

pub returns-in-Deep : goal.returns-in-Deep
returns-in-Deep c =
    stopped_deep c.args.t.now.list.items c.args.t.now.end c.args.from c.in-Deep.left c.saturating_sub-at-in-Deep.result c.args.stop c.blame-in-Deep.result c.in-Deep.is (omega arith) c.blame-in-Deep.ensures
