-- The mid programs that a pass gives: what they name is there, their frames have room, no way of jumps
-- runs past the last step, and each temporary is handed in or set before it is read.
use Rattle.std.specs.Prelude.{◌≡◌, ◌⊎◌, ℕ, suc, ◌^◌, ◌%◌, ◌<◌, ◌≤◌, Bool, true, List, [], ◌∷◌, length, Option, Some, None, slice_get}
use Rattle.odc_core.specs.Well.{AreLaid, AreInStore, AreBytes}
use Rattle.odc_mid.specs.declared.tree.Named.{Named}
use Rattle.odc_mid.specs.declared.tree.Named.TheVariants.{Variable as OfVariable, Stored, Procedure}
use Rattle.odc_mid.specs.declared.tree.SystemCall.TheVariants.{Read, Write, Exit}
use Rattle.odc_mid.specs.declared.tree.MidStep.{MidStep}
use Rattle.odc_mid.specs.declared.tree.MidStep.TheVariants.{Const, Address, Move, Unary, Binary, Compare, Load, Store, Jump, Branch, Call, CallValue, Return, Check, System}
use Rattle.odc_mid.specs.Tree.{Proc, Whole}

-- how many parameters each procedure has; how many addresses, variables, temporaries and steps there are
pub record Names : Type 0 where
  pub parameters : List ℕ
  pub addresses : ℕ
  pub variables : ℕ
  pub temporaries : ℕ
  pub steps : ℕ

-- ---- what a step reads, sets and names

abbrev pub read_by : MidStep → List ℕ
read_by (Const to word) = []
read_by (Address to of) = []
read_by (Move to from) = from ∷ []
read_by (Unary to op operand) = operand ∷ []
read_by (Binary to op left right) = left ∷ right ∷ []
read_by (Compare to op left right) = left ∷ right ∷ []
read_by (Load to width a) = a ∷ []
read_by (Store width a value) = a ∷ value ∷ []
read_by (Jump label) = []
read_by (Branch condition label) = condition ∷ []
read_by (Call to f arguments) = arguments.items
read_by (CallValue to target arguments marked) = target ∷ arguments.items
read_by (Return value) = value ∷ []
read_by (Check condition which place) = condition ∷ []
read_by (System (Read to a n)) = a ∷ n ∷ []
read_by (System (Write d a n)) = a ∷ n ∷ []
read_by (System (Exit code)) = code ∷ []

abbrev pub set_by : MidStep → Option ℕ
set_by (Const to word) = Some to
set_by (Address to of) = Some to
set_by (Move to from) = Some to
set_by (Unary to op operand) = Some to
set_by (Binary to op left right) = Some to
set_by (Compare to op left right) = Some to
set_by (Load to width a) = Some to
set_by (Call to f arguments) = Some to
set_by (CallValue to target arguments marked) = Some to
set_by (System (Read to a n)) = Some to
set_by _ = None

-- the positions to which a step at a position may go
abbrev pub ways_of : ℕ → MidStep → List ℕ
ways_of i (Jump label) = label ∷ []
ways_of i (Branch condition label) = suc i ∷ label ∷ []
ways_of i (Return value) = []
ways_of i (System (Exit code)) = []
ways_of i _ = suc i ∷ []

abbrev pub IsNamed : Names → Named → Type 0
IsNamed names (OfVariable x) = x < names.variables
IsNamed names (Stored n) = n < names.addresses
IsNamed names (Procedure f) = f < length names.parameters

-- words fit, and what is named is there
abbrev pub IsStep : Names → MidStep → Type 0
IsStep names (Const to word) = word < 2 ^ 64
IsStep names (Address to of) = IsNamed names of
IsStep names (Call to f arguments) = slice_get names.parameters f ≡ Some (length arguments.items)
IsStep names _ = Unit {0}

-- ---- all ways

abbrev pub AllBelow : ℕ → List ℕ → Type 0
AllBelow n [] = Unit {0}
AllBelow n (t ∷ ts) = (t < n) × AllBelow n ts

abbrev pub SetBelow : ℕ → Option ℕ → Type 0
SetBelow n None = Unit {0}
SetBelow n (Some t) = t < n

abbrev pub IsSet : Option ℕ → ℕ → Type 0
IsSet None t = ⊥
IsSet (Some u) t = u ≡ t

-- `known i t` says that the temporary t holds a word on every way to position i
abbrev pub Known : Type 0
Known = ℕ → ℕ → Bool

abbrev pub AreKnown : Known → ℕ → List ℕ → Type 0
AreKnown known i [] = Unit {0}
AreKnown known i (t ∷ ts) = (known i t ≡ true) × AreKnown known i ts

-- what is known behind a step was known before it, or the step sets it
pub record Leads (known : Known) (i : ℕ) (step : MidStep) (j : ℕ) : Type 0 where
  pub by : (t : ℕ) → known j t ≡ true → (known i t ≡ true) ⊎ IsSet (set_by step) t

abbrev pub AllLead : Known → ℕ → MidStep → List ℕ → Type 0
AllLead known i step [] = Unit {0}
AllLead known i step (j ∷ js) = Leads known i step j × AllLead known i step js

pub record IsStepAt (names : Names) (known : Known) (i : ℕ) (step : MidStep) : Type 0 where
  pub named : IsStep names step
  pub reads : AllBelow names.temporaries (read_by step)
  pub sets : SetBelow names.temporaries (set_by step)
  pub ready : AreKnown known i (read_by step)
  pub ways : AllBelow names.steps (ways_of i step)
  pub leads : AllLead known i step (ways_of i step)

abbrev pub AreSteps : Names → Known → ℕ → List MidStep → Type 0
AreSteps names known i [] = Unit {0}
AreSteps names known i (s ∷ ss) = IsStepAt names known i s × AreSteps names known (suc i) ss

-- ---- procedures and programs

abbrev pub parameters_of : List Proc → List ℕ
parameters_of [] = []
parameters_of (p ∷ ps) = p.parameters ∷ parameters_of ps

abbrev pub names_in : Whole → Proc → Names
names_in w p = record {
  parameters = parameters_of w.procedures;
  addresses = length w.addresses;
  variables = length p.variables;
  temporaries = p.temporaries;
  steps = length p.steps;
}

pub record IsWellProc (w : Whole) (p : Proc) : Type 0 where
  pub laid : AreLaid p.frame p.variables
  pub even : p.frame % 16 ≡ 0
  pub fits : p.frame ≤ 2 ^ 24
  pub parameters : p.parameters ≤ p.temporaries
  pub some : 0 < length p.steps
  pub known : Known
  pub handed : (t : ℕ) → known 0 t ≡ true → t < p.parameters
  pub steps : AreSteps (names_in w p) known 0 p.steps

abbrev pub AllWell : Whole → List Proc → Type 0
AllWell w [] = Unit {0}
AllWell w (p ∷ ps) = IsWellProc w p × AllWell w ps

abbrev pub IsMain : Option Proc → Type 0
IsMain None = ⊥
IsMain (Some p) = p.parameters ≡ 0

pub record IsWell (w : Whole) : Type 0 where
  pub procedures : AllWell w w.procedures
  pub main : IsMain (slice_get w.procedures w.main)
  pub store : length w.store ≤ w.store_size
  pub bytes : AreBytes w.store
  pub low : w.store_size ≤ 0x0fff_0000
  pub addresses : AreInStore w.store_size w.addresses
