-- What a run of the machine comes to: the definition's run on some input, which is the source's where
-- that is told.
use Rattle.std.specs.Prelude.{◌≡◌, ℕ, ◌≤◌, List, [], IfSome}
use Rattle.odc_io.specs.Streams.{grown, shrunk, GrewByFront}
use Rattle.odc_text.specs.Run.{End, exited, checked, trapped, going, Log}
use Rattle.odc_text.specs.Steps.{Stand}
use Rattle.rv_table.specs.State.{State}
use Rattle.rv_table.specs.Run.{Config, ran}
use Rattle.rv_machine.specs.Machine.{Loaded}
use Rattle.rv_machine.specs.Outside.{Told, out_bytes, err_bytes}
use Rattle.rv_machine.specs.declared.stop.Stop.{Stop}
use Rattle.rv_machine.specs.declared.stop.Stop.TheVariants.{Exited, Checked, Trapped, StepsOut, ReadFault, WriteFault}

-- a state in the middle of a run
abbrev pub at : State → Log ℕ ℕ → List ℕ → ℕ → Config
at state log input taken = record { state = state; log = log; input = input; taken = taken }

-- a state at the beginning of a run
abbrev pub begun : State → List ℕ → Config
begun state input = at state [] input 0

-- the run was carried out as far as it stands: the input that it took, the bytes that it gave, and the state
pub record Whole (s : Stand Config) (old new : Told) (after : State) : Type 0 where
  pub input : new.input ≡ shrunk old.input s.last.taken
  pub out : new.out ≡ grown old.out (out_bytes s.last.log)
  pub err : new.err ≡ grown old.err (err_bytes s.last.log)
  pub state : after ≡ s.last.state

-- the run was broken off: no more was taken than the run takes, and a front of what it gives was given
pub record Part (s : Stand Config) (old new : Told) : Type 0 where
  pub taken : ℕ
  pub at_most : taken ≤ s.last.taken
  pub input : new.input ≡ shrunk old.input taken
  pub out : GrewByFront old.out new.out (out_bytes s.last.log)
  pub err : GrewByFront old.err new.err (err_bytes s.last.log)

-- the run stands at this end
pub record Ends (is : End) (s : Stand Config) (old new : Told) (after : State) : Type 0 where
  pub end : s.end ≡ is
  pub whole : Whole s old new after

-- as the answer says, the run stands after n instructions at most
abbrev pub Comes : Stop → ℕ → Stand Config → Told → Told → State → Type 0
Comes (Exited code) n s old new after = Ends (exited code) s old new after
Comes (Checked check place) n s old new after = Ends (checked check place) s old new after
Comes (Trapped pc) n s old new after = Ends (trapped pc) s old new after
Comes StepsOut n s old new after = Ends going s old new after × (s.steps ≡ n)
Comes ReadFault n s old new after = Part s old new
Comes WriteFault n s old new after = Part s old new

-- A run of at most n instructions, with what the outside told before and after it.
pub record RunsAs (m : Loaded) (n : ℕ) (old new : Told) (after : State) (stop : Stop) : Type 0 where
  -- the input
  pub input : List ℕ
  pub told : IfSome old.input (λ rest. rest ≡ input)
  pub comes : Comes stop n (ran m.sites m.calls n (begun m.state input)) old new after
