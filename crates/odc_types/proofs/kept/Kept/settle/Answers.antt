use Rattle.std.proofs.Common.{◌≡◌, ◌∙◌, sym, ap, subst, List, [], length, OnOk}
use Rattle.odc_types.specs.Nodes.{nodes}
use Rattle.odc_types.specs.Measured.{AreTold, IsSpreading, waiters_at}
use Rattle.odc_types.proofs.SpreadLaws.{none_told, on_ok}
use Rattle.odc_types.proofs.kept.Kept.settle.Goals as goal

pub returns-clause-told : goal.returns-clause-told
returns-clause-told c =
    let begun = c.args.self.now.extents.items in
    c.spread.ensures.told begun (c.wake_others.ensures.told begun (c.wake.ensures.told begun (subst (λ ts. AreTold begun begun ts) (sym c.clear.ensures.items) (none_told begun))))

pub returns-clause-ok : goal.returns-clause-ok
returns-clause-ok c =
    let types = nodes c.args.types.now in
    let begun = c.args.self.now.extents.items in
    let waiters = c.args.self.now.waiters.items in
    let t = c.args.t.index in
    let last : c.count-last.result ≡ length (waiters_at waiters t) = c.count-last.ensures ∙ ap (λ ws. length (waiters_at ws t)) c.as_slice.ensures.value in
    on_ok c.spread.result _ _
    (λ goes s.
    let first = subst (λ ts. IsSpreading types begun begun waiters ts 0 t 0 c.count-last.result) (sym c.clear.ensures.items) (subst (λ n. IsSpreading types begun begun waiters [] 0 t 0 n) (sym last) s) in
    goes begun (c.in_ok-wake_others.ensures.ok begun c.requires.none (c.in_ok-wake.ensures.ok begun 0 c.count-last.result first)))
    c.spread.ensures.ok
