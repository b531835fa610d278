use Rattle.std.proofs.Common.{◌≡◌, ◌++◌, ◌∷◌, [], ◌+◌, ◌∙◌, suc, take, sym, ap, arith, subst, get_or}
use Rattle.std.proofs.Math.Seq.{take-suc}
use Rattle.odc_types.specs.Holds.{HasMarked}
use Rattle.odc_types.proofs.HoldsLaws.{marks_go}
use Rattle.odc_types.proofs.holds.mark_all.Goals as goal

pub loop-t-preserved : goal.loop-t-preserved
loop-t-preserved c =
    let next : c.loop-t.t-index + 1 ≡ suc c.loop-t.t-index = omega arith in
    subst (λ ts. HasMarked ts c.args.marks.now.items c.mark.new.marks.items c.args.todo.now.items c.mark.new.todo.items) (sym (ap (λ n. take n c.args.types.now) next ∙ take-suc c.args.types.now c.loop-t.t-index _ c.loop-t-test.true))
    (marks_go _ _ _ _ _ _ _ _ c.loop-t.invariant c.in_ok-mark.ensures)
