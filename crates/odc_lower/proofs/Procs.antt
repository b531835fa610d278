-- The procedures of both programs, found by position and by word.
use Rattle.std.proofs.Common.{◌≡◌, ℕ, zero, suc, List, [], ◌∷◌, map, ap, ◌∙◌, refl}
use Rattle.std.specs.Prelude.{Option, Some, slice_get, ◌==◌, if◌then◌else◌}
use Rattle.odc_core.specs.Tree.{Proc}
use Rattle.odc_core.specs.Program.{called_by}
use Rattle.odc_mid.specs.Tree.{Proc as MidProc}
use Rattle.odc_lower.specs.Plain.{plain_proc}
use Rattle.odc_lower.specs.Lowered.{lowered}

-- the lists of procedures correspond
pub record AreAlike (ps : List Proc) (qs : List MidProc) : Type 0 where
  pub is : map plain_proc qs ≡ map lowered ps

pub first_of_two : {A : Type 0} (x y : A) (xs ys : List A) → x ∷ xs ≡ y ∷ ys → x ≡ y
first_of_two x y xs ys h = cc

pub rest_of_two : {A : Type 0} (x y : A) (xs ys : List A) → x ∷ xs ≡ y ∷ ys → xs ≡ ys
rest_of_two x y xs ys h = cc

pub found_at : (ps : List Proc) (qs : List MidProc) (f : ℕ) (p : Proc) → AreAlike ps qs → slice_get ps f ≡ Some p →
    (q : MidProc) × (slice_get qs f ≡ Some q) × (plain_proc q ≡ lowered p)
found_at [] qs f p a h = absurd (cc)
found_at (p' ∷ ps) [] f p a h = absurd (let e = a.is in cc)
found_at (p' ∷ ps) (q ∷ qs) zero p a h =
    let same : p' ≡ p = cc in
    (q, refl, first_of_two (plain_proc q) (lowered p') (map plain_proc qs) (map lowered ps) a.is ∙ ap lowered same)
found_at (p' ∷ ps) (q ∷ qs) (suc f) p a h = found_at ps qs f p (record { is = rest_of_two (plain_proc q) (lowered p') (map plain_proc qs) (map lowered ps) a.is }) h

pub called_alike : (entries : ℕ → ℕ) (f : ℕ) (ps : List Proc) (qs : List MidProc) (word : ℕ) → AreAlike ps qs → called_by entries f qs word ≡ called_by entries f ps word
called_alike entries f [] [] word a = refl
called_alike entries f [] (q ∷ qs) word a = absurd (let e = a.is in cc)
called_alike entries f (p ∷ ps) [] word a = absurd (let e = a.is in cc)
called_alike entries f (p ∷ ps) (q ∷ qs) word a =
    ap (λ (o : Option ℕ). if entries f == word then Some f else o)
    (called_alike entries (suc f) ps qs word (record { is = rest_of_two (plain_proc q) (lowered p) (map plain_proc qs) (map lowered ps) a.is }))
