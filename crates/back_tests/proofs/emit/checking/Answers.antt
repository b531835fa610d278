use Rattle.std.proofs.Common.{◌≡◌, ℕ, zero, suc, ◌<◌, ◌⊎◌, inl, inr, true, false, List, [], ◌∷◌, Vec, Global, length, ap, ◌∙◌, sym, subst, refl, lit<, lit≤}
use Rattle.std.specs.Prelude.{Some, slice_get}
use Rattle.odc_text.specs.declared.check.Check.TheVariants.{Index}
use Rattle.odc_text.specs.declared.place.Place.{Place}
use Rattle.odc_core.specs.declared.tree.Variable.{Variable}
use Rattle.odc_mid.specs.declared.tree.MidStep.{MidStep}
use Rattle.odc_mid.specs.declared.tree.MidStep.TheVariants.{Const, Check, Call, Branch, Return}
use Rattle.odc_mid.specs.Tree.{Proc, Whole}
use Rattle.odc_mid.specs.Well.{IsWellProc, Known, AllBelow, AreKnown, IsSet, IsStepAt, Leads, names_in, parameters_of}
use Rattle.back_tests.proofs.emit.checking.Goals as goal

-- the word behind the first step, and the answer behind the call
abbrev known : Known
known zero t = false
known (suc i) zero = true
known (suc zero) (suc t) = false
known (suc (suc zero)) (suc t) = false
known (suc (suc (suc i))) (suc zero) = true
known (suc (suc (suc i))) (suc (suc t)) = false

not_known : false ≡ true → ⊥
not_known h = cc

handed : (t : ℕ) → known 0 t ≡ true → t < 0
handed t h = absurd (not_known h)

first_leads : (t : ℕ) → known 1 t ≡ true → (known 0 t ≡ true) ⊎ IsSet (Some 0) t
first_leads zero h = inr refl
first_leads (suc t) h = absurd (not_known h)

call_leads : (t : ℕ) → known 3 t ≡ true → (known 2 t ≡ true) ⊎ IsSet (Some 1) t
call_leads zero h = inl refl
call_leads (suc zero) h = inr refl
call_leads (suc (suc t)) h = absurd (not_known h)

-- where the same is known behind a step
same_leads : (step : MidStep) (i j : ℕ) → ((t : ℕ) → known j t ≡ known i t) → Leads known i step j
same_leads step i j h = record { by = λ t k. inl (sym (h t) ∙ k) }

same_two : (t : ℕ) → known 2 t ≡ known 1 t
same_two zero = refl
same_two (suc t) = refl

same_late : (i j : ℕ) (t : ℕ) → known (suc (suc (suc j))) t ≡ known (suc (suc (suc i))) t
same_late i j zero = refl
same_late i j (suc zero) = refl
same_late i j (suc (suc t)) = refl

abbrev checked : List ℕ → Place → List Variable → List MidStep → Proc
checked name at vs steps = record { name = name; at = at; parameters = 0; variables = vs; frame = 32; temporaries = 2; steps = steps }

sane : (w : Whole) (name : List ℕ) (at source : Place) (vs : List Variable) (steps : List MidStep) (arguments : Vec ℕ Global) → parameters_of w.procedures ≡ 1 ∷ 0 ∷ [] → vs ≡ [] →
    steps ≡ Const 0 42 ∷ Check 0 Index source ∷ Call 1 0 arguments ∷ Branch 1 5 ∷ Const 1 7 ∷ Return 1 ∷ [] → arguments.items ≡ 0 ∷ [] → IsWellProc w (checked name at vs steps)
sane w name at source vs steps arguments takes none are one =
    let ss : List MidStep = Const 0 42 ∷ Check 0 Index source ∷ Call 1 0 arguments ∷ Branch 1 5 ∷ Const 1 7 ∷ Return 1 ∷ [] in
    let p : Proc = checked name at [] ss in
    let V : List Variable → Type 0 = λ xs. IsWellProc w (checked name at xs steps) in
    let S : List MidStep → Type 0 = λ xs. IsWellProc w (checked name at [] xs) in
    let B : List ℕ → Type 0 = λ xs. AllBelow 2 xs in
    let K : List ℕ → Type 0 = λ xs. AreKnown known 2 xs in
    let taken : slice_get (parameters_of w.procedures) 0 ≡ Some (length arguments.items) =
    ap (λ (xs : List ℕ). slice_get xs 0) takes ∙ ap (λ (xs : List ℕ). Some (length xs)) (sym one) in
    let s0 : IsStepAt (names_in w p) known 0 (Const 0 42) = record { named = lit< tt; reads = tt; sets = lit< tt; ready = tt; ways = (lit< tt, tt); leads = (record { by = first_leads }, tt) } in
    let s1 : IsStepAt (names_in w p) known 1 (Check 0 Index source) = record {
      named = tt;
      reads = (lit< tt, tt);
      sets = tt;
      ready = (refl, tt);
      ways = (lit< tt, tt);
      leads = (same_leads (Check 0 Index source) 1 2 same_two, tt);
    } in
    let s2 : IsStepAt (names_in w p) known 2 (Call 1 0 arguments) = record {
      named = taken;
      reads = subst B (sym one) (lit< tt, tt);
      sets = lit< tt;
      ready = subst K (sym one) (refl, tt);
      ways = (lit< tt, tt);
      leads = (record { by = call_leads }, tt);
    } in
    let s3 : IsStepAt (names_in w p) known 3 (Branch 1 5) = record {
      named = tt;
      reads = (lit< tt, tt);
      sets = tt;
      ready = (refl, tt);
      ways = (lit< tt, (lit< tt, tt));
      leads = (same_leads (Branch 1 5) 3 4 (same_late 0 1), (same_leads (Branch 1 5) 3 5 (same_late 0 2), tt));
    } in
    let s4 : IsStepAt (names_in w p) known 4 (Const 1 7) = record {
      named = lit< tt;
      reads = tt;
      sets = lit< tt;
      ready = tt;
      ways = (lit< tt, tt);
      leads = (same_leads (Const 1 7) 4 5 (same_late 1 2), tt);
    } in
    let s5 : IsStepAt (names_in w p) known 5 (Return 1) = record { named = tt; reads = (lit< tt, tt); sets = tt; ready = (refl, tt); ways = tt; leads = tt } in
    subst V (sym none) (subst S (sym are) (record {
      laid = tt;
      even = refl;
      fits = lit≤ tt;
      parameters = lit≤ tt;
      some = lit< tt;
      known = known;
      handed = handed;
      steps = (s0, (s1, (s2, (s3, (s4, (s5, tt))))));
    }))

pub returns-clause-well : goal.returns-clause-well
returns-clause-well c =
    λ w takes. sane w _ c.place-2.result c.place.result c.new.result.items c.in_ok-steps.steps.items c.in_ok-arguments.arguments takes c.new.ensures.items c.in_ok-steps.ensures.items c.in_ok-arguments.ensures.items
