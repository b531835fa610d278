use Rattle.std.proofs.Common.{rules, ◌≡◌, ◌<◌, ◌≤◌, ◌∙◌, sym, ap, arith, subst, Some, length, slice_get, get_or, refl}
use Rattle.std.proofs.lemmas.Option.{slice_get-get_or}
use Rattle.odc_types.proofs.SpreadLaws.{IsForgetting, forgetting_begins, forgetting_on, forgetting_ends}
use Rattle.odc_types.proofs.kept.Kept.forget.Goals as goal

pub loop-at-init : goal.loop-at-init
loop-at-init c = (refl, refl, refl, refl, λ begun a. forgetting_begins begun c.args.self.now.extents.items c.args.self.now.fresh.items a)

pub loop-at-preserved : goal.loop-at-preserved
loop-at-preserved c =
    let i = c.loop-at.invariant in
    let fresh = c.args.self.now.fresh.items in
    let same : c.loop-at.self.fresh.items ≡ fresh = ap (λ v. v.items) i.2 in
    let count : c.len-at-end.result ≡ length fresh = search rules in
    let less = c.loop-at-test.true in
    let inside : c.loop-at.at < length fresh = omega arith in
    let id = c.index-t.result.now in
    let there : slice_get fresh c.loop-at.at ≡ Some id = slice_get-get_or fresh c.loop-at.at id inside ∙ ap (λ x. Some x) (ap (λ xs. get_or xs c.loop-at.at id) (sym same) ∙ sym c.index-t.ensures) in (
      i.0,
      i.1,
      i.2,
      c.drop_extent.ensures.same ∙ i.3,
      λ begun a. forgetting_on begun c.loop-at.self.extents.items c.drop_extent.new.extents.items fresh c.loop-at.at id a.had_none (i.4 begun a) there c.drop_extent.ensures.others c.drop_extent.ensures.gone,
    )

pub returns-clause-kept : goal.returns-clause-kept
returns-clause-kept c = λ begun a.
    let fresh = c.args.self.now.fresh.items in
    let count : c.len-at-end.result ≡ length fresh = search rules in
    let past = c.loop-at-test.false in
    forgetting_ends begun c.loop-at.self.extents.items fresh c.loop-at.at (c.loop-at.invariant.4 begun a) (omega arith)
