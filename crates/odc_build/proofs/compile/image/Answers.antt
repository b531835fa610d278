use Rattle.std.proofs.Common.{List, ℕ, ◌∙◌, ap, refl, sym, subst}
use Rattle.odc_typed.specs.View.{program}
use Rattle.odc_core.specs.Tree.{Whole as CoreWhole}
use Rattle.odc_mid.specs.View.{program as mid_program}
use Rattle.odc_mid.specs.Tree.{Whole as MidWhole}
use Rattle.odc_context.specs.Code.{crossed_program}
use Rattle.odc_lower.specs.Size.{AreCountable}
use Rattle.odc_lower.specs.Lowered.{IsLowered, IsKept}
use Rattle.rv_emit.specs.Code.{sites_of, calls_of}
use Rattle.rv_emit.specs.Encoded.{IsEncoded}
use Rattle.rv_emit.specs.Layout.{IsShort}
use Rattle.rv_emit.specs.Blocks.{Unlinked, blocks_of, linked_code, all_sites, all_calls, CanLink}
use Rattle.rv_emit.proofs.Linkable.{can_link}
use Rattle.rv_emit.proofs.Together.{image_keeps}
use Rattle.rv_link.specs.Linked.{names_from, first_block, CanList}
use Rattle.odc_build.proofs.Whole.{all_countable, have_slots, is_short}
use Rattle.odc_build.proofs.Filed.{can_list, can_write, text_means}
use Rattle.odc_build.proofs.compile.image.Goals as goal

pub lower-requires-clause-countable : goal.lower-requires-clause-countable
lower-requires-clause-countable c =
    subst (λ (x : CoreWhole). AreCountable x.procedures) (sym c.in_ok-core.ensures.crossed) (all_countable (program c.args.p.now) c.requires.well c.requires.within)

pub emit-requires-clause-slots : goal.emit-requires-clause-slots
emit-requires-clause-slots c =
    let w = program c.args.p.now in
    let q : MidWhole = mid_program c.in_ok-mid.mid in
    let lowered : IsLowered (crossed_program w) q = subst (λ (x : CoreWhole). IsLowered x q) c.in_ok-core.ensures.crossed c.in_ok-mid.ensures.carried in
    have_slots w q lowered

pub emit-requires-clause-short : goal.emit-requires-clause-short
emit-requires-clause-short c =
    let w = program c.args.p.now in
    let q : MidWhole = mid_program c.in_ok-mid.mid in
    let lowered : IsLowered (crossed_program w) q = subst (λ (x : CoreWhole). IsLowered x q) c.in_ok-core.ensures.crossed c.in_ok-mid.ensures.carried in
    is_short w q lowered c.requires.well c.requires.within

pub link-requires-clause-can : goal.link-requires-clause-can
link-requires-clause-can c =
    let w = program c.args.p.now in
    let q : MidWhole = mid_program c.in_ok-mid.mid in
    let lowered : IsLowered (crossed_program w) q = subst (λ (x : CoreWhole). IsLowered x q) c.in_ok-core.ensures.crossed c.in_ok-mid.ensures.carried in
    let short : IsShort q = is_short w q lowered c.requires.well c.requires.within in
    subst (λ (u : Unlinked). CanLink u) (sym c.in_ok-blocks.ensures) (can_link q c.in_ok-mid.ensures.well (have_slots w q lowered) short)

pub link-requires-clause-lists : goal.link-requires-clause-lists
link-requires-clause-lists c =
    let w = program c.args.p.now in
    let q : MidWhole = mid_program c.in_ok-mid.mid in
    let lowered : IsLowered (crossed_program w) q = subst (λ (x : CoreWhole). IsLowered x q) c.in_ok-core.ensures.crossed c.in_ok-mid.ensures.carried in
    let short : IsShort q = is_short w q lowered c.requires.well c.requires.within in
    let files : List (List ℕ) = c.args.p.now.paths.items in
    subst (λ (u : Unlinked). CanList u c.in_ok-paths.paths.items) (sym c.in_ok-blocks.ensures)
    (subst (λ (f : List (List ℕ)). CanList (blocks_of q) f) (sym (c.in_ok-paths.ensures ∙ c.deref.ensures.value)) (can_list w q files lowered c.requires.lists short))

pub returns : goal.returns
returns c =
    let w = program c.args.p.now in
    let q : MidWhole = mid_program c.in_ok-mid.mid in
    let lowered : IsLowered (crossed_program w) q = subst (λ (x : CoreWhole). IsLowered x q) c.in_ok-core.ensures.crossed c.in_ok-mid.ensures.carried in
    let short : IsShort q = is_short w q lowered c.requires.well c.requires.within in
    let files : List (List ℕ) = c.args.p.now.paths.items in
    let i = c.in_ok-link.field-0 in
    let l = c.in_ok-link.ensures in
    let kept : IsKept (crossed_program w) q = subst (λ (x : CoreWhole). IsKept x q) c.in_ok-core.ensures.crossed c.in_ok-mid.ensures.kept in
    let code : IsEncoded i.text.items (linked_code (blocks_of q)) = subst (λ (u : Unlinked). IsEncoded i.text.items (linked_code u)) c.in_ok-blocks.ensures l.text in
    record {
      mid = q;
      pieces = lowered;
      kept = kept;
      machine = image_keeps q c.in_ok-mid.ensures.well (have_slots w q lowered) short i.text.items (sites_of q) (calls_of q) (text_means w q i short code) refl refl;
      code = code;
      entry = l.entry;
      store = l.store;
      store_size = l.store_size;
      paths = l.paths ∙ c.in_ok-paths.ensures ∙ c.deref.ensures.value;
      checks = l.checks ∙ ap (λ (u : Unlinked). all_sites u.list) c.in_ok-blocks.ensures;
      names = l.names ∙ ap (λ (u : Unlinked). names_from first_block u.list) c.in_ok-blocks.ensures;
      calls = l.calls ∙ ap (λ (u : Unlinked). all_calls first_block u.list) c.in_ok-blocks.ensures;
      can_write = can_write w q i short code lowered l.entry l.store l.store_size l.listing;
    }
