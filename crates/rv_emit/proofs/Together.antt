-- What an image keeps, from its text, its sites and its calls together.
use Rattle.std.proofs.Common.{◌≡◌, ℕ, List, ap, ◌∙◌, sym, subst, refl}
use Rattle.std.specs.Prelude.{Result, Ok, Err, IfOk}
use Rattle.rv_table.specs.Run.{Site, Image}
use Rattle.odc_mid.specs.Tree.{Whole}
use Rattle.odc_mid.specs.Well.{IsWell}
use Rattle.rv_emit.specs.Code.{entry_of, code_of, sites_of, calls_of}
use Rattle.rv_emit.specs.Encoded.{IsEncoded}
use Rattle.rv_emit.specs.Layout.{AllHaveSlots, IsShort, image_with, image_of}
use Rattle.rv_emit.specs.Emitted.{IsEmitted, IsKept}
use Rattle.rv_emit.proofs.simulation.Begin.{keeps}
use Rattle.rv_emit.proofs.Blocks.{emitted}

-- three facts of a result together
pub if_ok_three : {X Y : Type 0} (r : Result X Y) (P Q R S : X → Type 0) → ((x : X) → P x → Q x → R x → S x) → IfOk r P → IfOk r Q → IfOk r R → IfOk r S
if_ok_three (Ok x) P Q R S f p q s = f x p q s
if_ok_three (Err y) P Q R S f p q s = tt

pub image_keeps : (w : Whole) → IsWell w → AllHaveSlots w.procedures → IsShort w → (text : List ℕ) (sites : List Site) (calls : List ℕ) → IsEncoded text (code_of w) → sites ≡ sites_of w → calls ≡ calls_of w →
    IsKept (entry_of w) w (image_of w text)
image_keeps w well slots short text sites calls means told called =
    let P : Image → Type 0 = λ i. IsKept (entry_of w) w i in
    let same : image_with w text sites calls ≡ image_of w text = ap (λ (s : List Site). image_with w text s calls) told ∙ ap (image_with w text (sites_of w)) called in
    subst P same (keeps w well slots (entry_of w) text sites calls (emitted w short text sites calls means told called))
