-- What one instruction of a run comes to, whatever the log so far and whatever input follows. A source
-- that came to its end is not read again: `ended` says so.
use Rattle.std.specs.Prelude.{◌≡◌, ℕ, ◌+◌, ◌<◌, ◌≤◌, Bool, true, false, List, [], ◌++◌, length, Option, Some, None, Result, Ok, Err, IfOk}
use Rattle.odc_io.specs.Streams.{grown, GrewByFront, AtEnd}
use Rattle.odc_io.specs.declared.traits.Failed.{Failed}
use Rattle.odc_text.specs.Run.{End, exited, checked, trapped, Log}
use Rattle.odc_text.specs.Steps.{After, on, over}
use Rattle.rv_table.specs.State.{Area, State, overwritten, filled}
use Rattle.rv_table.specs.Run.{Config, answer, written_bytes}
use Rattle.rv_machine.specs.Outside.{Told, Took, out_bytes, err_bytes}
use Rattle.rv_machine.specs.Runs.{at}
use Rattle.rv_machine.specs.declared.stop.Stop.{Stop}
use Rattle.rv_machine.specs.declared.stop.Stop.TheVariants.{Exited, Checked, Trapped, StepsOut, ReadFault, WriteFault}

-- nothing follows once the source came to its end
abbrev pub Allows : Bool → List ℕ → Type 0
Allows ended rest = ended ≡ true → rest ≡ []

-- a source that came to its end gives nothing and stays there
abbrev pub StaysEnded : Bool → Bool → List ℕ → Type 0
StaysEnded ended ended' got = ended ≡ true → (got ≡ []) × (ended' ≡ true)

-- a source that is not read again is at its end
abbrev pub IsEnded : Bool → Option (List ℕ) → Type 0
IsEnded ended source = ended ≡ true → AtEnd source

-- ---- reading into a buffer

-- what was read into a range
pub record Received (address size : ℕ) (old new : Area) (source source' : Option (List ℕ)) (ended ended' : Bool) (result : Result ℕ Failed) : Type 0 where
  pub got : List ℕ
  pub fits : length got ≤ size
  pub took : Took source source' got
  pub stays : StaysEnded ended ended' got
  pub whole : IfOk result (λ n. (n ≡ length got) × (new ≡ overwritten old address got) × (length got < size → ended' ≡ true))

-- the bytes of a read into memory: as many as the buffer has, or all up to the end of the source
pub record FetchedAll (address size : ℕ) (old new : List Area) (source source' : Option (List ℕ)) (ended ended' : Bool) (n : ℕ) : Type 0 where
  pub got : List ℕ
  pub fits : length got ≤ size
  pub took : Took source source' got
  pub stays : StaysEnded ended ended' got
  pub count : n ≡ length got
  pub memory : filled old address size got ≡ Some new
  pub all : length got < size → ended' ≡ true

-- the bytes of a read that failed; the buffer may be written
pub record FetchedPart (address size : ℕ) (old : List Area) (source source' : Option (List ℕ)) (ended ended' : Bool) : Type 0 where
  pub got : List ℕ
  pub fits : length got ≤ size
  pub took : Took source source' got
  pub stays : StaysEnded ended ended' got
  pub memory : (bytes : List ℕ) → (after : List Area) × (filled old address size bytes ≡ Some after)

pub record NotFetched (address size : ℕ) (old new : List Area) (source source' : Option (List ℕ)) (ended ended' : Bool) : Type 0 where
  pub memory : (bytes : List ℕ) → filled old address size bytes ≡ None
  pub same : new ≡ old
  pub unread : source' ≡ source
  pub as_before : ended' ≡ ended

-- what was read into memory; none where there is no such buffer
abbrev pub Fetched : (address size : ℕ) → (old new : List Area) → (source source' : Option (List ℕ)) → (ended ended' : Bool) → Result (Option ℕ) Failed → Type 0
Fetched address size old new source source' ended ended' (Ok None) = NotFetched address size old new source source' ended ended'
Fetched address size old new source source' ended ended' (Ok (Some n)) = FetchedAll address size old new source source' ended ended' n
Fetched address size old new source source' ended ended' (Err e) = FetchedPart address size old source source' ended ended'

-- ---- writing a buffer

pub record WroteAll (old new : State) (o o' : Option (List ℕ)) : Type 0 where
  pub bytes : List ℕ
  pub are : written_bytes old ≡ Some bytes
  pub state : new ≡ answer old (length bytes)
  pub grew : o' ≡ grown o bytes

pub record WrotePart (old : State) (o o' : Option (List ℕ)) : Type 0 where
  pub bytes : List ℕ
  pub are : written_bytes old ≡ Some bytes
  pub grew : GrewByFront o o' bytes

pub record NotWritten (old new : State) (o o' : Option (List ℕ)) : Type 0 where
  pub are : written_bytes old ≡ None
  pub state : new ≡ old
  pub same : o' ≡ o

-- what was written of the buffer that the registers name; false where there is no such buffer
abbrev pub Wrote : State → State → Option (List ℕ) → Option (List ℕ) → Result Bool Failed → Type 0
Wrote old new o o' (Ok true) = WroteAll old new o o'
Wrote old new o o' (Ok false) = NotWritten old new o o'
Wrote old new o o' (Err e) = WrotePart old o o'

-- how the run goes on after it
abbrev pub after_write : ℕ → Result Bool Failed → Option Stop
after_write pc (Ok true) = None
after_write pc (Ok false) = Some (Trapped pc)
after_write pc (Err e) = Some WriteFault

-- ---- one instruction

-- The run goes on: `f` is what the definition says of the instruction.
pub record Went (f : Config → After Config) (old new : State) (ended ended' : Bool) (t t' : Told) : Type 0 where
  pub got : List ℕ
  pub gave : Log ℕ ℕ
  pub is : (log : Log ℕ ℕ) (rest : List ℕ) (taken : ℕ) → Allows ended' rest → f (at old log (got ++ rest) taken) ≡ on (at new (log ++ gave) rest (taken + length got))
  pub took : Took t.input t'.input got
  pub stays : StaysEnded ended ended' got
  pub out : t'.out ≡ grown t.out (out_bytes gave)
  pub err : t'.err ≡ grown t.err (err_bytes gave)

-- The run is over, and nothing was changed.
pub record Finished (f : Config → After Config) (end : End) (old new : State) (t t' : Told) : Type 0 where
  pub is : (log : Log ℕ ℕ) (rest : List ℕ) (taken : ℕ) → f (at old log rest taken) ≡ over end (at old log rest taken)
  pub state : new ≡ old
  pub told : t' ≡ t

-- the definition's run goes on with this log, and takes at least so many bytes
pub record Goes (a : After Config) (log : Log ℕ ℕ) (taken : ℕ) : Type 0 where
  pub next : Config
  pub is : a ≡ on next
  pub left : next.log ≡ log
  pub took : taken ≤ next.taken

-- The outside failed.
pub record Broke (f : Config → After Config) (old : State) (ended ended' : Bool) (t t' : Told) : Type 0 where
  pub got : List ℕ
  pub gave : Log ℕ ℕ
  pub is : (log : Log ℕ ℕ) (rest : List ℕ) (taken : ℕ) → Goes (f (at old log (got ++ rest) taken)) (log ++ gave) (taken + length got)
  pub took : Took t.input t'.input got
  pub stays : StaysEnded ended ended' got
  pub out : GrewByFront t.out t'.out (out_bytes gave)
  pub err : GrewByFront t.err t'.err (err_bytes gave)

abbrev pub Turned : (Config → After Config) → Option Stop → State → State → Bool → Bool → Told → Told → Type 0
Turned f None old new ended ended' t t' = Went f old new ended ended' t t'
Turned f (Some (Exited code)) old new ended ended' t t' = Finished f (exited code) old new t t'
Turned f (Some (Checked check place)) old new ended ended' t t' = Finished f (checked check place) old new t t'
Turned f (Some (Trapped pc)) old new ended ended' t t' = Finished f (trapped pc) old new t t'
Turned f (Some StepsOut) old new ended ended' t t' = ⊥
Turned f (Some ReadFault) old new ended ended' t t' = Broke f old ended ended' t t'
Turned f (Some WriteFault) old new ended ended' t t' = Broke f old ended ended' t t'
