use Rattle.std.proofs.Common.{◌≡◌, ℕ, zero, suc, ◌<◌, ◌⊎◌, inl, inr, true, false, List, [], ◌∷◌, Vec, Global, sym, subst, refl, lit<, lit≤}
use Rattle.std.specs.Prelude.{Some}
use Rattle.odc_text.specs.declared.place.Place.{Place}
use Rattle.odc_core.specs.declared.tree.Variable.{Variable}
use Rattle.odc_mid.specs.declared.tree.MidStep.{MidStep}
use Rattle.odc_mid.specs.declared.tree.MidStep.TheVariants.{CallValue, Return}
use Rattle.odc_mid.specs.Tree.{Proc, Whole}
use Rattle.odc_mid.specs.Well.{IsWellProc, Known, AllBelow, AreKnown, IsSet, IsStepAt, names_in}
use Rattle.back_tests.proofs.emit.asking.Goals as goal

-- the parameter all along, and the answer behind the call
abbrev known : Known
known i zero = true
known zero (suc t) = false
known (suc i) (suc zero) = true
known (suc i) (suc (suc t)) = false

not_known : false ≡ true → ⊥
not_known h = cc

handed : (t : ℕ) → known 0 t ≡ true → t < 1
handed zero h = lit< tt
handed (suc t) h = absurd (not_known h)

leads : (t : ℕ) → known 1 t ≡ true → (known 0 t ≡ true) ⊎ IsSet (Some 1) t
leads zero h = inl refl
leads (suc zero) h = inr refl
leads (suc (suc t)) h = absurd (not_known h)

abbrev asked : List ℕ → List Variable → List MidStep → Place → Proc
asked name vs steps at = record { name = name; at = at; parameters = 1; variables = vs; frame = 32; temporaries = 2; steps = steps }

sane : (w : Whole) (name : List ℕ) (at : Place) (vs : List Variable) (steps : List MidStep) (arguments : Vec ℕ Global) → vs ≡ [] → steps ≡ CallValue 1 0 arguments true ∷ Return 1 ∷ [] →
    arguments.items ≡ 0 ∷ 0 ∷ 0 ∷ 0 ∷ 0 ∷ 0 ∷ [] → IsWellProc w (asked name vs steps at)
sane w name at vs steps arguments none are six =
    let ss : List MidStep = CallValue 1 0 arguments true ∷ Return 1 ∷ [] in
    let V : List Variable → Type 0 = λ xs. IsWellProc w (asked name xs steps at) in
    let S : List MidStep → Type 0 = λ xs. IsWellProc w (asked name [] xs at) in
    let B : List ℕ → Type 0 = λ xs. AllBelow 2 xs in
    let K : List ℕ → Type 0 = λ xs. AreKnown known 0 xs in
    let first : IsStepAt (names_in w (asked name [] ss at)) known 0 (CallValue 1 0 arguments true) = record {
      named = tt;
      reads = (lit< tt, subst B (sym six) (lit< tt, (lit< tt, (lit< tt, (lit< tt, (lit< tt, (lit< tt, tt)))))));
      sets = lit< tt;
      ready = (refl, subst K (sym six) (refl, (refl, (refl, (refl, (refl, (refl, tt)))))));
      ways = (lit< tt, tt);
      leads = (record { by = leads }, tt);
    } in
    let second : IsStepAt (names_in w (asked name [] ss at)) known 1 (Return 1) = record { named = tt; reads = (lit< tt, tt); sets = tt; ready = (refl, tt); ways = tt; leads = tt } in
    subst V (sym none) (subst S (sym are) (record {
      laid = tt;
      even = refl;
      fits = lit≤ tt;
      parameters = lit≤ tt;
      some = lit< tt;
      known = known;
      handed = handed;
      steps = (first, (second, tt));
    }))

pub returns-clause-well : goal.returns-clause-well
returns-clause-well c = λ w parameters. sane w _ c.place.result c.new.result.items c.in_ok-steps.steps.items c.in_ok-arguments.arguments c.new.ensures.items c.in_ok-steps.ensures.items c.in_ok-arguments.ensures.items
