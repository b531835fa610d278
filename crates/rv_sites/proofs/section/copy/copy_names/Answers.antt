use Rattle.std.proofs.Common.{◌≡◌, ◌∙◌, ap, refl, true, length, drop}
use Rattle.std.specs.Prelude.{nat_le}
use Rattle.rv_sites.specs.Sections.{has_text, text_at, has_name, name_at, past_text, past_name}
use Rattle.rv_sites.proofs.Counted.{both_true, have_rest, beyond_rest, entry_next}
use Rattle.rv_sites.proofs.section.copy.copy_names.Goals as goal

pub split_text-requires : goal.split_text-requires
split_text-requires c =
    let here : has_name c.loop-left.rest.now ≡ true = (have_rest has_name past_name c.loop-left.left c.loop-left.rest.now _ c.loop-left-test.true c.loop-left.invariant.stand refl).0 in
    rw c.behind.ensures (both_true (nat_le 8 (length c.loop-left.rest.now)) (has_text (drop 8 c.loop-left.rest.now)) here).1

pub loop-left-preserved : goal.loop-left-preserved
loop-left-preserved c =
    let behind : c.split_text.result.1.now ≡ past_name c.loop-left.rest.now = c.split_text.ensures.rest ∙ ap past_text c.behind.ensures in
    let text : c.in_ok-name.name ≡ text_at (drop 8 c.loop-left.rest.now) = c.in_ok-name.ensures ∙ c.split_text.ensures.text ∙ ap text_at c.behind.ensures in
    record {
      all = entry_next name_at past_name c.loop-left.left c.loop-left.rest.now c.split_text.result.1.now c.loop-left.names.items _ _ (record { entry = c.u64_of-entry.result; name = c.in_ok-name.name }) c.loop-left-test.true c.loop-left.invariant.all (rw (c.u64_of-entry.ensures, text)) behind c.in_ok-push.ensures.items;
      behind = beyond_rest past_name c.loop-left.left c.loop-left.rest.now c.split_text.result.1.now _ c.loop-left-test.true c.loop-left.invariant.behind behind;
      stand = (have_rest has_name past_name c.loop-left.left c.loop-left.rest.now c.split_text.result.1.now c.loop-left-test.true c.loop-left.invariant.stand behind).1;
    }
