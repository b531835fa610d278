use Rattle.std.proofs.Common.{◌≡◌, true, ◌∙◌}
use Rattle.rv_sites.specs.Sections.{has_text, past_text}
use Rattle.rv_sites.proofs.Counted.{have_next, beyond_next}
use Rattle.rv_sites.proofs.section.check.past_texts.Goals as goal

pub loop-left-preserved : goal.loop-left-preserved
loop-left-preserved c =
    let left = c.loop-left.left in
    let rest = c.loop-left.rest.now in
    let here : has_text rest ≡ true = c.in_ok-rest.ensures.0 in
    let there = c.in_ok-rest.ensures.1 in
    let one = have_next has_text past_text left rest c.loop-left-test.true in
    let two = beyond_next past_text left rest c.loop-left-test.true in (
      c.loop-left.invariant.0 ∙ rw (here, ← there) at one,
      c.loop-left.invariant.1 ∙ rw (← there) at two,
    )
