use Rattle.std.proofs.Common.{◌≡◌, true, ◌∙◌, arith, drop, length-drop}
use Rattle.rv_sites.specs.Sections.{has_site}
use Rattle.rv_sites.proofs.Counted.{have_next}
use Rattle.rv_sites.proofs.section.check.have_sites.Goals as goal

pub loop-left-preserved : goal.loop-left-preserved
loop-left-preserved c =
    let here : has_site c.args.paths c.loop-left.rest.now ≡ true = c.in-Some.ensures.0 in
    let there = c.behind-rest.ensures in
    let one = have_next (has_site c.args.paths) (drop 16) c.loop-left.left c.loop-left.rest.now c.loop-left-test.true in (
      c.loop-left.invariant.0 ∙ rw (here, ← there) at one,
      rw (there, length-drop) (omega arith),
    )
