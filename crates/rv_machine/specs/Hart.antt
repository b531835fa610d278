-- What is known of an effect before it is applied, and what comes of instructions.
use Rattle.std.specs.Prelude.{◌≡◌, ℕ, zero, suc, ◌<◌, Bool, true, false, List}
use Rattle.rv_table.specs.State.{State, stepped}
use Rattle.rv_table.specs.declared.effect.Effect.{Effect}
use Rattle.rv_table.specs.declared.effect.Effect.TheVariants.{Put, Load, Link}
use Rattle.rv_table.specs.declared.effect.Event.{Event}
use Rattle.rv_table.specs.declared.effect.Event.TheVariants.{Next, System, Break, AllocCall, Trap}

-- the register that it writes, if any, is one of the 32
abbrev pub WritesRegister : Effect → Type 0
WritesRegister (Put rd value) = rd < 32
WritesRegister (Load rd address kind) = rd < 32
WritesRegister (Link rd target) = rd < 32
WritesRegister _ = Unit {0}

-- what the event of one instruction says of the state after it: it differs only where the
-- instruction was carried out, and whether that was a listed call isn't asked
abbrev pub StaysUnlessNext : Event → State → State → Type 0
StaysUnlessNext Next old new = Unit {0}
StaysUnlessNext AllocCall old new = ⊥
StaysUnlessNext System old new = new ≡ old
StaysUnlessNext Break old new = new ≡ old
StaysUnlessNext Trap old new = new ≡ old

-- an instruction was carried out and is no event, whatever calls are listed; or nothing was done
abbrev pub GoesOn : Bool → State → State → Type 0
GoesOn true old new = (calls : List ℕ) → stepped calls old ≡ (Next, new)
GoesOn false old new = new ≡ old

-- the last of some instructions, before which the state has the property
pub record After (Before : State → Type 0) (new : State) : Type 0 where
  pub mid : State
  pub before : Before mid
  pub goes : GoesOn true mid new

-- so many instructions were carried out one after another, and none is an event
abbrev pub Advances : ℕ → State → State → Type 0
Advances zero old new = new ≡ old
Advances (suc n) old new = After (λ mid. Advances n old mid) new
