-- How the lexer reads comments that may hold others.
use Rattle.std.specs.Prelude.{◌≡◌, ℕ, ◌<◌, ◌≤◌, ◌+◌, List, ◌++◌, length, take, drop}
use Rattle.odc_syntax.specs.lexical.Comments.{Closes}
use Rattle.odc_lex.specs.declared.comment.Step.{Step}

-- the text begins with what closes so many comments
abbrev pub CanClose : ℕ → List ℕ → Type 0
CanClose n text = (v : List ℕ) × (s : List ℕ) × Closes n v × (v ++ s ≡ text)

-- the step is the only one by which the open comments can come to an end
pub record IsStep (depth : ℕ) (text : List ℕ) (step : Step) : Type 0 where
  pub within : step.len ≤ length text
  pub moves : 0 < step.len
  pub few : step.depth ≤ depth + step.len
  pub forth : (w s : List ℕ) → Closes step.depth w → w ++ s ≡ drop step.len text → Closes depth (take step.len text ++ w)
  pub back : (v s : List ℕ) → Closes depth v → v ++ s ≡ text → (w : List ℕ) × Closes step.depth w × (v ≡ take step.len text ++ w)
