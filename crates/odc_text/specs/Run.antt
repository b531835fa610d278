-- What a run is, for every language between the source and the machine: from the bytes of the
-- input and a bound to an ending. And when two endings agree.
use Rattle.std.specs.Prelude.{◌≡◌, ℕ, ℤ, List, map}
use Rattle.odc_text.specs.declared.check.Check.{Check}
use Rattle.odc_text.specs.declared.place.Place.{Place}

-- how a run stands at a bound
pub data End : Type 0 where
  -- it has ended with this exit code
  exited : (code : ℕ) → End
  -- it has stopped at a check
  checked : (check : Check) (at : Place) → End
  -- it did something of which nothing is promised
  strayed : (at : Place) → End
  -- the machine can't carry out the instruction there
  trapped : (pc : ℕ) → End
  -- the bound was reached first
  going : End

-- A call of an allocator. `A` is how an address is written, `P` how a procedure is.
pub record Call (A P : Type 0) : Type 0 where
  pub procedure : P
  pub given : A
  pub mode : ℤ
  pub size : ℤ
  pub align : ℤ
  pub old : A
  pub old_size : ℤ

-- what a run leaves behind, in order: bytes to the two descriptors, and allocator calls
pub data Entry (A P : Type 0) : Type 0 where
  out : (byte : ℕ) → Entry A P
  err : (byte : ℕ) → Entry A P
  call : (made : Call A P) → Entry A P

abbrev pub Log : Type 0 → Type 0 → Type 0
Log A P = List (Entry A P)

-- how a run stands, what it left behind, how many bytes of the input it took, and what it cost
pub record Ending (A P : Type 0) : Type 0 where
  pub end : End
  pub log : Log A P
  pub taken : ℕ
  pub cost : ℕ

-- from the input and a bound
abbrev pub Run : Type 0 → Type 0 → Type 0
Run A P = List ℕ → ℕ → Ending A P

-- A log with its addresses and procedures written otherwise.
abbrev pub call_by : {A P B Q : Type 0} → (A → B) → (P → Q) → Call A P → Call B Q
call_by place entry c = record {
  procedure = entry c.procedure;
  given = place c.given;
  mode = c.mode;
  size = c.size;
  align = c.align;
  old = place c.old;
  old_size = c.old_size;
}

abbrev pub entry_by : {A P B Q : Type 0} → (A → B) → (P → Q) → Entry A P → Entry B Q
entry_by place entry (out byte) = out byte
entry_by place entry (err byte) = err byte
entry_by place entry (call made) = call (call_by place entry made)

-- Equal ends. Where the first strays or is going, the second may be going; a second that strays
-- too is one more answer to a first that strays.
abbrev pub EndsAgree : End → End → Type 0
EndsAgree (exited a) (exited b) = a ≡ b
EndsAgree (checked a p) (checked b q) = (a ≡ b) × (p ≡ q)
EndsAgree (strayed p) (strayed q) = Unit {0}
EndsAgree (strayed p) going = Unit {0}
EndsAgree going going = Unit {0}
EndsAgree _ _ = ⊥

-- the run has ended by itself, as the definition of its language says
abbrev pub HasEnded : End → Type 0
HasEnded (exited code) = Unit {0}
HasEnded (checked check at) = Unit {0}
HasEnded _ = ⊥

-- the run has strayed
abbrev pub HasStrayed : End → Type 0
HasStrayed (strayed at) = Unit {0}
HasStrayed _ = ⊥

-- Two endings agree where `read` writes the first one's log as the second's.
pub record Agree {A P B Q : Type 0} (read : Entry A P → Entry B Q) (s : Ending A P) (t : Ending B Q) : Type 0 where
  pub ends : EndsAgree s.end t.end
  pub logs : map read s.log ≡ t.log
  pub taken : s.taken ≡ t.taken
