use Rattle.std.proofs.Common.{◌≡◌, ◌++◌, ◌∷◌, [], Some, false, slice_set, sym, ap, ◌∙◌, subst, true}
use Rattle.std.proofs.lemmas.Option.{slice_get-get_or}
use Rattle.odc_types.specs.Holds.{HasMarked}
use Rattle.odc_types.proofs.HoldsLaws.{marked_now}
use Rattle.odc_types.proofs.holds.mark.Goals as goal

pub returns : goal.returns
returns c =
    subst (λ todo. HasMarked (c.args.t ∷ []) c.args.marks.now.items (slice_set c.args.marks.now.items c.args.t.index true) c.args.todo.now.items todo) (sym c.in_ok-push.ensures.items)
    (marked_now c.args.marks.now.items c.args.todo.now.items c.args.t (slice_get-get_or c.args.marks.now.items c.args.t.index c.index.result.now c.requires ∙ ap Some (sym c.index.ensures ∙ c.if-index.false)))
