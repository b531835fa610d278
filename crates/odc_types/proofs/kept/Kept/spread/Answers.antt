use Rattle.std.proofs.Common.{rules, ◌≡◌, ◌<◌, ◌+◌, ◌∙◌, refl, sym, ap, arith, subst, Some, length, slice_get}
use Rattle.std.proofs.lemmas.Option.{slice_get-get_or}
use Rattle.odc_types.specs.Nodes.{nodes}
use Rattle.odc_types.specs.Measured.{waiters_at}
use Rattle.odc_types.proofs.SpreadLaws.{passing_begins, passing_on}
use Rattle.odc_types.proofs.kept.Kept.spread.Goals as goal

pub loop-done-init : goal.loop-done-init
loop-done-init c = (refl, passing_begins (nodes c.args.types.now) c.args.self.now.extents.items c.args.self.now.waiters.items c.args.self.now.fresh.items c.requires.sound)

pub loop-done-preserved : goal.loop-done-preserved
loop-done-preserved c =
    let types = nodes c.args.types.now in
    let old = c.args.self.now in
    let mid = c.loop-done.self in
    let new = c.wake.new.self in
    let part = c.index-part.result.now in
    let at = c.loop-done.done in
    let count : c.len.result ≡ length mid.fresh.items = search rules in
    let less = c.loop-done-test.true in
    let inside : at < length mid.fresh.items = omega arith in
    let there : slice_get mid.fresh.items at ≡ Some part = slice_get-get_or mid.fresh.items at part inside ∙ ap (λ x. Some x) (sym c.index-part.ensures) in
    let last : c.count-last.result ≡ length (waiters_at mid.waiters.items part.index) = c.count-last.ensures ∙ ap (λ ws. length (waiters_at ws part.index)) c.as_slice.ensures.value in
    let on = passing_on types old.extents.items mid.extents.items new.extents.items old.waiters.items mid.waiters.items new.waiters.items old.fresh.items mid.fresh.items new.fresh.items at part c.count-last.result c.loop-done.invariant.1 there last
    c.wake.ensures.same c.wake.ensures.told c.wake.ensures.sound c.wake.ensures.len c.wake.ensures.longer c.in_ok-wake.ensures.ok in
    (c.wake.ensures.heights ∙ c.loop-done.invariant.0, on)
