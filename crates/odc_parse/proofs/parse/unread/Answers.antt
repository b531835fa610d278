use Rattle.std.proofs.Common.{arith}
use Rattle.odc_parse.proofs.FileLemmas.{unread_syntax, unread_deep}
use Rattle.odc_parse.proofs.parse.unread.Goals as goal

pub returns-in-Syntax : goal.returns-in-Syntax
returns-in-Syntax c =
    unread_syntax c.args.t.now.list.items c.args.t.now.end c.in-Syntax.left c.saturating_sub.result c.place_of.result c.args.stop c.in-Syntax.is (omega arith) c.place_of.ensures

pub returns-in-Deep : goal.returns-in-Deep
returns-in-Deep c =
    unread_deep c.args.t.now.list.items c.args.t.now.end c.in-Deep.left c.saturating_sub-in-Deep-2.result c.place_of-in-Deep.result c.args.stop c.in-Deep.is (omega arith) c.place_of-in-Deep.ensures
