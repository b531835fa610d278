use Rattle.std.proofs.Common.{◌≡◌, ◌+◌, ◌++◌, [], ◌∷◌, List, map, ap, ◌∙◌}
use Rattle.std.proofs.lemmas.Result.{on_ok_weaker}
use Rattle.odc_core.specs.declared.tree.Width.TheVariants.{Byte, Double}
use Rattle.odc_core.specs.declared.tree.BinaryOp.TheVariants.{Add}
use Rattle.odc_core.specs.declared.tree.Comparison.TheVariants.{Below}
use Rattle.odc_mid.specs.declared.tree.MidStep.{MidStep}
use Rattle.odc_lower.specs.Plain.{Step, plain, binary_step, compare_step, jump_step, branch_step}
use Rattle.odc_lower.specs.Code.{up_code, down_code}
use Rattle.odc_lower.proofs.Emitted.{six_parts}
use Rattle.odc_lower.proofs.bytes.push_copy.Goals as goal

pub returns : goal.returns
returns c =
    let d = c.args.d in
    let p = c.args.p in
    let plains : List MidStep → List Step = map plain in
    let head : List Step = compare_step (d + 3) Below (d + 1) d ∷ branch_step (d + 3) (p + 23) ∷ [] in
    let turn : List Step = jump_step (p + 45) ∷ binary_step d Add d (d + 2) ∷ binary_step (d + 1) Add (d + 1) (d + 2) ∷ [] in
    let first : plains c.append.new.steps.items ≡ plains c.args.steps.now.items ++ head =
    c.in_ok-append.ensures ∙ ap (λ (xs : List MidStep). plains c.args.steps.now.items ++ plains xs) c.in_ok-head.ensures.items in
    let fourth : plains c.append-2.new.steps.items ≡ plains c.push_up-2.new.steps.items ++ turn =
    c.in_ok-append-2.ensures ∙ ap (λ (xs : List MidStep). plains c.push_up-2.new.steps.items ++ plains xs) c.in_ok-turn.ensures.items in
    on_ok_weaker c.push_down-2.result
    (λ h.
    six_parts (plains c.args.steps.now.items) (plains c.append.new.steps.items) (plains c.push_up.new.steps.items) (plains c.push_up-2.new.steps.items) (plains c.append-2.new.steps.items)
    (plains c.push_down.new.steps.items) (plains c.push_down-2.new.steps.items)
    head (up_code d (p + 2) Double 8) (up_code d (p + 12) Byte 1) turn (down_code d (p + 25) Double 8) (down_code d (p + 35) Byte 1)
    first c.in_ok-push_up.ensures c.in_ok-push_up-2.ensures fourth c.in_ok-push_down.ensures h)
    c.push_down-2.ensures
