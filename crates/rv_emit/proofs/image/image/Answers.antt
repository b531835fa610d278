use Rattle.std.proofs.Common.{List, ◌+◌, ◌*◌, ◌∙◌, ap, sym, subst, ℕ}
use Rattle.std.proofs.lemmas.Result.{IfOk-weaker}
use Rattle.odc_mid.specs.View.{program}
use Rattle.rv_table.specs.declared.inst.Inst.{Inst}
use Rattle.rv_emit.specs.Code.{text_start, start_size, entry_of, code_of, sites_of, calls_of}
use Rattle.rv_emit.specs.Blocks.{Unlinked, all_sites, all_calls, linked_code, CanLink}
use Rattle.rv_emit.specs.Encoded.{IsEncoded}
use Rattle.rv_emit.proofs.Together.{if_ok_three, image_keeps}
use Rattle.rv_emit.proofs.Blocks.{emitted}
use Rattle.rv_emit.proofs.Linkable.{can_link}
use Rattle.rv_emit.proofs.Linking.{linked_is, told_is, called_is}
use Rattle.rv_emit.proofs.image.image.Goals as goal

pub link-requires : goal.link-requires
link-requires c =
    let P : Unlinked → Type 0 = λ u. CanLink u in
    record { can = subst P (sym c.in_ok-b.ensures) (can_link (program c.args.p.now) c.requires.well c.requires.slots c.requires.short) }

pub returns-clause-text : goal.returns-clause-text
returns-clause-text c =
    IfOk-weaker c.link.result _ _
    (λ i e.
    let P : List Inst → Type 0 = λ code. IsEncoded i.text.items code in
    subst P (ap linked_code c.in_ok-b.ensures ∙ linked_is (program c.args.p.now)) e) c.link.ensures.text

pub returns-clause-sites : goal.returns-clause-sites
returns-clause-sites c =
    IfOk-weaker c.link.result _ _ (λ i e. e ∙ ap (λ (u : Unlinked). all_sites u.list) c.in_ok-b.ensures ∙ told_is (program c.args.p.now)) c.link.ensures.sites

pub returns-clause-calls : goal.returns-clause-calls
returns-clause-calls c =
    IfOk-weaker c.link.result _ _ (λ i e. e ∙ ap (λ (u : Unlinked). all_calls (text_start + 4 * start_size) u.list) c.in_ok-b.ensures ∙ called_is (program c.args.p.now)) c.link.ensures.calls

pub returns-clause-blocks : goal.returns-clause-blocks
returns-clause-blocks c =
    if_ok_three c.link.result _ _ _ _ (λ i text sites calls. emitted (program c.args.p.now) c.requires.short i.text.items i.sites.items i.calls.items text sites calls) (returns-clause-text c) (returns-clause-sites c)
    (returns-clause-calls c)

pub returns-clause-kept : goal.returns-clause-kept
returns-clause-kept c =
    if_ok_three c.link.result _ _ _ _
    (λ i text sites calls. image_keeps (program c.args.p.now) c.requires.well c.requires.slots c.requires.short i.text.items i.sites.items i.calls.items text sites calls) (returns-clause-text c) (returns-clause-sites c)
    (returns-clause-calls c)
