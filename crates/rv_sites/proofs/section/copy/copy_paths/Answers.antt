use Rattle.std.proofs.Common.{refl, ◌∙◌}
use Rattle.rv_sites.specs.Sections.{has_text, text_at, past_text}
use Rattle.rv_sites.proofs.Counted.{have_rest, beyond_rest, entry_next}
use Rattle.rv_sites.proofs.section.copy.copy_paths.Goals as goal

pub split_text-requires : goal.split_text-requires
split_text-requires c = (have_rest has_text past_text c.loop-left.left c.loop-left.rest.now _ c.loop-left-test.true c.loop-left.invariant.stand refl).0

pub loop-left-preserved : goal.loop-left-preserved
loop-left-preserved c = record {
  all = entry_next text_at past_text c.loop-left.left c.loop-left.rest.now c.split_text.result.1.now c.loop-left.paths.items _ _ c.in_ok-copied.field-0 c.loop-left-test.true c.loop-left.invariant.all (c.in_ok-copied.ensures ∙ c.split_text.ensures.text) c.split_text.ensures.rest c.in_ok-push.ensures.items;
  behind = beyond_rest past_text c.loop-left.left c.loop-left.rest.now c.split_text.result.1.now _ c.loop-left-test.true c.loop-left.invariant.behind c.split_text.ensures.rest;
  stand = (have_rest has_text past_text c.loop-left.left c.loop-left.rest.now c.split_text.result.1.now c.loop-left-test.true c.loop-left.invariant.stand c.split_text.ensures.rest).1;
}
