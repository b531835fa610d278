use Rattle.std.proofs.Common.{◌+◌, ◌++◌, [], ◌∷◌, List, map}
use Rattle.std.proofs.lemmas.Result.{on_ok_weaker}
use Rattle.odc_core.specs.declared.tree.Width.TheVariants.{Byte, Double}
use Rattle.odc_mid.specs.declared.tree.MidStep.{MidStep}
use Rattle.odc_lower.specs.Plain.{Step, plain, const_step}
use Rattle.odc_lower.specs.Code.{clear_code}
use Rattle.odc_lower.proofs.Emitted.{two_parts}
use Rattle.odc_lower.proofs.bytes.push_zero.Goals as goal

pub returns : goal.returns
returns c =
    let d = c.args.d in
    let p = c.args.p in
    let plains : List MidStep → List Step = map plain in
    let head : List Step = const_step (d + 2) 0 ∷ [] in
    on_ok_weaker c.push_clear-2.result
    (λ h.
    two_parts (plains c.args.steps.now.items) (plains c.push.new.steps.items) (plains c.push_clear-2.new.steps.items) head (clear_code d (p + 1) Double 8 ++ clear_code d (p + 9) Byte 1) c.in_ok-push.ensures
    (two_parts (plains c.push.new.steps.items) (plains c.push_clear.new.steps.items) (plains c.push_clear-2.new.steps.items) (clear_code d (p + 1) Double 8) (clear_code d (p + 9) Byte 1) c.in_ok-push_clear.ensures h))
    c.push_clear-2.ensures
