-- How a statement's steps are left.
use Rattle.std.proofs.Common.{◌≡◌, ℕ, ◌<◌, List, length}
use Rattle.std.specs.Prelude.{get_or}
use Rattle.odc_core.specs.Run.{Flow, falls, leaves, answers}
use Rattle.odc_lower.specs.Plain.{return_step}
use Rattle.odc_lower.proofs.Plains.{Has}
use Rattle.odc_lower.proofs.simulation.Sims.{Frame}

-- behind the loop that is left
pub record IsOutside (exits : List ℕ) (depth place : ℕ) : Type 0 where
  pub inside : depth < length exits
  pub at : place ≡ get_or exits depth 0

-- at the step that answers
pub record Answers (f : Frame) (word place : ℕ) (temps : ℕ → ℕ) : Type 0 where
  pub value : ℕ
  pub has : Has f.steps place (return_step value)
  pub word_is : temps value ≡ word

abbrev pub IsLeft : Frame → List ℕ → ℕ → Flow → ℕ → (ℕ → ℕ) → Type 0
IsLeft f exits end falls place temps = place ≡ end
IsLeft f exits end (leaves depth) place temps = IsOutside exits depth place
IsLeft f exits end (answers word) place temps = Answers f word place temps
