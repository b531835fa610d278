use Rattle.odc_lookahead.specs.Blame.{first}
use Rattle.odc_lookahead.proofs.faults.BlameLemmas.{first_in}
use Rattle.odc_lookahead.proofs.blame.blame.Goals as goal

pub returns-in-Some : goal.returns-in-Some
returns-in-Some c =
    first c.in-Some.first c.in-Some.refused (first_in _ c.args.t.now.list.items c.args.from c.args.upto c.in-Some.first c.in-Some.refused c.as_slice.ensures.value c.in-Some.ensures.some) (cc)
