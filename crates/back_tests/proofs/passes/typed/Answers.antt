use Rattle.std.proofs.Common.{ℕ, ◌≤◌, ◌≡◌, List, Option, Some, length, sym, subst}
use Rattle.std.specs.Prelude.{MatchOption}
use Rattle.odc_typed.specs.Tree.{Whole}
use Rattle.odc_typed.specs.Frame.{FramesFit}
use Rattle.odc_typed.specs.Nodes.{NodesFit}
use Rattle.odc_typed.specs.Well.{IsWell}
use Rattle.odc_small.specs.Text.{within}
use Rattle.odc_small.proofs.WellLemmas.{typed_well}
use Rattle.odc_small.proofs.SizeLemmas.{typed_nodes, typed_frames}
use Rattle.back_tests.proofs.passes.typed.Goals as goal

-- what is said of an option that is some
found : {A : Type 0} (N : Type 0) (S : A → Type 0) (o : Option A) (a : A) → o ≡ Some a → MatchOption o N S → S a
found {A} N S o a e h = subst (λ (x : Option A). MatchOption x N S) e h

pub returns-in-Some-clause-well : goal.returns-in-Some-clause-well
returns-in-Some-clause-well c = let z = found _ _ _ _ c.in-Some.is c.in_ok-read.ensures.exact in subst IsWell (sym z.2) (typed_well z.0 z.1.is)

pub returns-in-Some-clause-frames : goal.returns-in-Some-clause-frames
returns-in-Some-clause-frames c =
    let z = found _ _ _ _ c.in-Some.is c.in_ok-read.ensures.exact in
    subst (λ (w : Whole). FramesFit w.procedures) (sym z.2) (typed_frames z.0 z.1.is (subst (λ (l : List ℕ). length l ≤ within) z.1.whole z.1.short))

pub returns-in-Some-clause-nodes : goal.returns-in-Some-clause-nodes
returns-in-Some-clause-nodes c =
    let z = found _ _ _ _ c.in-Some.is c.in_ok-read.ensures.exact in
    subst (λ (w : Whole). NodesFit w.procedures) (sym z.2) (typed_nodes z.0 z.1.is (subst (λ (l : List ℕ). length l ≤ within) z.1.whole z.1.short))
