-- The run of an image on the machine: services of the system, checks, calls of allocators, and how
-- it stands after so many instructions.
use Rattle.std.specs.Prelude.{ℕ, ◌+◌, ◌-◌, ◌%◌, ◌^◌, ◌==◌, Bool, List, [], ◌∷◌, ◌++◌, length, take, drop, replicate, map, Option, Some, None, slice_get, if◌then◌else◌}
use Rattle.std.specs.Int.{w64, cast_signed}
use Rattle.odc_text.specs.declared.check.Check.{Check}
use Rattle.odc_text.specs.declared.place.Place.{Place}
use Rattle.odc_text.specs.Check.{number_of}
use Rattle.odc_text.specs.Run.{exited, checked, trapped, Call, Entry, out, err, call, Log, Ending, Run}
use Rattle.odc_text.specs.Steps.{After, on, over, Stand, stood}
use Rattle.rv_table.specs.State.{Area, State, Step, register, with_register, next_pc, loaded, filled, stepped}
use Rattle.rv_table.specs.declared.effect.Access.TheVariants.{Read}
use Rattle.rv_table.specs.declared.effect.Event.TheVariants.{Next, System, Break, AllocCall, Trap}

-- ---- an image

-- a range of memory: its first bytes are given, the rest up to its size is 0
pub record Range : Type 0 where
  pub start : ℕ
  pub size : ℕ
  pub readable : Bool
  pub writable : Bool
  pub executable : Bool
  pub bytes : List ℕ

-- where a check stands in the source
abbrev pub Site : Type 0
Site = Check × Place

-- the ranges, the address of the first instruction, the sites by their numbers, and the addresses
-- of the instructions that call an allocator
pub record Image : Type 0 where
  pub ranges : List Range
  pub entry : ℕ
  pub sites : List Site
  pub calls : List ℕ

abbrev pub area_of : Range → Area
area_of r = record { start = r.start; readable = r.readable; writable = r.writable; executable = r.executable; bytes = r.bytes ++ replicate (r.size - length r.bytes) 0 }

-- all registers are 0, and the first instruction is the entry
abbrev pub first_state : Image → State
first_state image = record { registers = replicate 32 0; pc = image.entry; areas = map area_of image.ranges }

-- ---- a configuration

-- the state, what the run left behind so far (the oldest first), the input that is left, and the
-- number of bytes that were taken of it
pub record Config : Type 0 where
  pub state : State
  pub log : Log ℕ ℕ
  pub input : List ℕ
  pub taken : ℕ

abbrev pub trap : Config → After Config
trap c = over (trapped c.state.pc) c

-- ---- the services of the system: the number is in x17, the arguments in x10 to x12

abbrev pub answer : State → ℕ → State
answer s value = record s { registers = with_register s.registers 10 value; pc = next_pc s }

-- -9, where there is no such descriptor
abbrev pub no_descriptor : ℕ
no_descriptor = 2 ^ 64 - 9

-- memory after a read: a buffer without bytes may lie anywhere
abbrev pub read_areas : State → List ℕ → Option (List Area)
read_areas s bytes = if register s 12 == 0 then Some s.areas else filled s.areas (register s 11) (register s 12) bytes

abbrev pub took : Config → ℕ → Option (List Area) → After Config
took c count None = trap c
took c count (Some areas) = on (record c { state = answer (record c.state { areas = areas }) count; input = drop count c.input; taken = c.taken + count })

-- Reads the next bytes of the input, as many as the buffer has or all that is left.
abbrev pub reading : Config → After Config
reading c = let bytes = take (register c.state 12) c.input in took c (length bytes) (read_areas c.state bytes)

-- the bytes that are written
abbrev pub written_bytes : State → Option (List ℕ)
written_bytes s = if register s 12 == 0 then Some [] else loaded s.areas Read (register s 11) (register s 12)

abbrev pub wrote : Config → (ℕ → Entry ℕ ℕ) → Option (List ℕ) → After Config
wrote c entry None = trap c
wrote c entry (Some bytes) = on (record c { state = answer c.state (length bytes); log = c.log ++ map entry bytes })

abbrev pub refused : Config → After Config
refused c = on (record c { state = answer c.state no_descriptor })

-- descriptor 0 is the input
abbrev pub read_called : Config → After Config
read_called c = if register c.state 10 == 0 then reading c else refused c

-- descriptors 1 and 2 are the output and the errors
abbrev pub write_called : Config → After Config
write_called c =
    if register c.state 10 == 1 then wrote c out (written_bytes c.state)
    else (if register c.state 10 == 2 then wrote c err (written_bytes c.state) else refused c)

abbrev pub system_called : Config → After Config
system_called c =
    if register c.state 17 == 63 then read_called c
    else (if register c.state 17 == 64 then write_called c
    else (if register c.state 17 == 93 then over (exited (register c.state 10 % 2 ^ 8)) c else trap c))

-- ---- checks: the check's number is in x10, the site's in x11

abbrev pub stopped_at : Config → Option Site → After Config
stopped_at c None = trap c
stopped_at c (Some site) = if number_of site.0 == register c.state 10 then over (checked site.0 site.1) c else trap c

-- ---- calls of allocators: the procedure is in x5, the arguments in x10 to x15

abbrev pub call_made : State → Call ℕ ℕ
call_made s = record {
  procedure = register s 5;
  given = register s 10;
  mode = cast_signed w64 (register s 11);
  size = cast_signed w64 (register s 12);
  align = cast_signed w64 (register s 13);
  old = register s 14;
  old_size = cast_signed w64 (register s 15);
}

-- ---- one instruction of the run

abbrev pub acted : List Site → Config → Step → After Config
acted sites c (Next, s) = on (record c { state = s })
acted sites c (AllocCall, s) = on (record c { state = s; log = c.log ++ call (call_made c.state) ∷ [] })
acted sites c (System, s) = system_called c
acted sites c (Break, s) = stopped_at c (slice_get sites (register c.state 11))
acted sites c (Trap, s) = trap c

unfoldable pub act : List Site → List ℕ → Config → After Config
act sites calls c = acted sites c (stepped calls c.state)

-- ---- the run

-- how a configuration stands after at most n instructions; the one that exits, breaks or traps counts
abbrev pub ran : List Site → List ℕ → ℕ → Config → Stand Config
ran sites calls n c = stood (act sites calls) n c

abbrev pub started : Image → List ℕ → Config
started image input = record { state = first_state image; log = []; input = input; taken = 0 }

abbrev pub ending : Stand Config → Ending ℕ ℕ
ending s = record { end = s.end; log = s.last.log; taken = s.last.taken; cost = s.steps }

-- at most n instructions of an image on this input
abbrev pub machine : Image → Run ℕ ℕ
machine image input n = ending (ran image.sites image.calls n (started image input))
