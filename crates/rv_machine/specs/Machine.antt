-- A machine as its callers see it.
use Rattle.std.specs.Prelude.{◌≡◌, ℕ, List}
use Rattle.rv_table.specs.State.{State}
use Rattle.rv_table.specs.Run.{Site, Image, first_state}
use Rattle.rv_table.specs.declared.effect.Event.{Event}
use Rattle.rv_table.specs.declared.effect.Event.TheVariants.{Next, System, Break, AllocCall, Trap}

-- the state, the sites of checks, and the addresses of the instructions that call an allocator
pub record Loaded : Type 0 where
  pub state : State
  pub sites : List Site
  pub calls : List ℕ

-- a machine on which an image is loaded
abbrev pub loaded_from : Image → Loaded
loaded_from image = record { state = first_state image; sites = image.sites; calls = image.calls }

-- what an event says of the state after it: it may differ only where an instruction was carried out
abbrev pub Stays : Event → State → State → Type 0
Stays Next old new = Unit {0}
Stays AllocCall old new = Unit {0}
Stays System old new = new ≡ old
Stays Break old new = new ≡ old
Stays Trap old new = new ≡ old

-- the second is the event of a listed call that came to the first
abbrev pub CallOf : Event → Event → Type 0
CallOf Next after = after ≡ AllocCall
CallOf AllocCall after = after ≡ AllocCall
CallOf System after = after ≡ System
CallOf Break after = after ≡ Break
CallOf Trap after = after ≡ Trap
