-- A run by steps: a configuration, what one step makes of it, and how it stands after so many.
use Rattle.std.specs.Prelude.{ℕ, zero, suc, ◌+◌}
use Rattle.odc_text.specs.Run.{End, going}

-- what one step makes of a configuration: the next one, or an end with the last one
pub data After (C : Type 0) : Type 0 where
  on : (next : C) → After C
  over : (end : End) (last : C) → After C

-- how it stands after at most so many steps; the step that ends counts
pub record Stand (C : Type 0) : Type 0 where
  pub end : End
  pub last : C
  pub steps : ℕ

abbrev pub one_more : {C : Type 0} → Stand C → Stand C
one_more s = record { end = s.end; last = s.last; steps = s.steps + 1 }

abbrev pub stood_after : {C : Type 0} → (C → Stand C) → After C → Stand C
stood_after rest (on next) = one_more (rest next)
stood_after rest (over end last) = record { end = end; last = last; steps = 1 }

abbrev pub stood : {C : Type 0} → (C → After C) → ℕ → C → Stand C
stood step zero c = record { end = going; last = c; steps = 0 }
stood step (suc n) c = stood_after (stood step n) (step c)

-- the end isn't `going`
abbrev pub IsOver : End → Type 0
IsOver going = ⊥
IsOver _ = Unit {0}
