use Rattle.std.proofs.Common.{◌-◌, length, arith}
use Rattle.odc_lookahead.proofs.faults.BlameLemmas.{deep_cut, inside_cut, first_in}
use Rattle.odc_lookahead.proofs.blame.end_of.Goals as goal

pub returns-then-depth-gt200-clause-cut : goal.returns-then-depth-gt200-clause-cut
returns-then-depth-gt200-clause-cut c =
    deep_cut c.args.t.now.list.items c.args.t.now.end c.args.from c.args.depth (length c.args.t.now.list.items - c.args.left) _ _ (omega arith) (omega arith) c.blame.ensures

pub returns-in-Some-clause-cut : goal.returns-in-Some-clause-cut
returns-in-Some-clause-cut c =
    inside_cut c.args.t.now.list.items c.args.t.now.end c.args.from c.args.depth (length c.args.t.now.list.items - c.args.left) _ c.in-Some.at c.in-Some.code _ (omega arith) (omega arith) (first_in _ c.args.t.now.list.items c.args.from _ c.in-Some.at c.in-Some.code c.as_slice.ensures.value c.in-Some.ensures.some) (cc)
