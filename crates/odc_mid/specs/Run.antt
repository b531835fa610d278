-- The mid run: what a program does on an input in so many steps. Beside the input it is given the word
-- of each procedure.
use Rattle.std.specs.Prelude.{ℕ, ◌+◌, ◌-◌, ◌%◌, ◌^◌, ◌==◌, Bool, false, List, [], ◌∷◌, ◌++◌, length, map, take, drop, get_or, Option, Some, None, option_map, slice_get, if◌then◌else◌}
use Rattle.odc_text.specs.declared.check.Check.TheVariants.{Stack}
use Rattle.odc_text.specs.declared.place.Place.{Place}
use Rattle.odc_text.specs.Run.{exited, checked, strayed, going, Entry, Log, Ending, Run}
use Rattle.odc_text.specs.Steps.{After, on, over, Stand, stood}
use Rattle.odc_core.specs.declared.tree.Variable.{Variable}
use Rattle.odc_core.specs.Words.{width_size, unary_word, binary_word, compare_words, number_of, bytes_of}
use Rattle.odc_core.specs.Memory.{Memory, all_in, loaded, put, stored, forgotten}
use Rattle.odc_core.specs.Frames.{stack_end, touched_always, touched_in, variable_address, has_room}
use Rattle.odc_core.specs.Program.{first_memory, called_by}
use Rattle.odc_core.specs.Run.{event_of, entry_to}
use Rattle.odc_mid.specs.declared.tree.Named.{Named}
use Rattle.odc_mid.specs.declared.tree.Named.TheVariants.{Variable as OfVariable, Stored, Procedure}
use Rattle.odc_mid.specs.declared.tree.SystemCall.{SystemCall}
use Rattle.odc_mid.specs.declared.tree.SystemCall.TheVariants.{Read, Write, Exit}
use Rattle.odc_mid.specs.declared.tree.MidStep.{MidStep}
use Rattle.odc_mid.specs.declared.tree.MidStep.TheVariants.{Const, Address, Move, Unary, Binary, Compare, Load, Store, Jump, Branch, Call, CallValue, Return, Check, System}
use Rattle.odc_mid.specs.Tree.{Proc, Whole}

-- ---- configurations

pub record World : Type 0 where
  pub entries : ℕ → ℕ
  pub procedures : List Proc
  pub addresses : List ℕ

-- a procedure that is carried out: its steps and the position of the next one, its temporaries, its
-- frame, and what it may touch
pub record Activation : Type 0 where
  pub steps : List MidStep
  pub next : ℕ
  pub temps : ℕ → ℕ
  -- the place of the procedure, at which it strays
  pub at : Place
  pub low : ℕ
  pub variables : List Variable
  pub touched : ℕ → Bool

-- a caller, and the temporary into which the answer goes
pub record Caller : Type 0 where
  pub to : ℕ
  pub activation : Activation

pub record Config : Type 0 where
  pub here : Activation
  -- the innermost first
  pub callers : List Caller
  pub memory : Memory
  pub log : Log ℕ ℕ
  -- the input that is left, and the number of bytes that were taken of it
  pub input : List ℕ
  pub taken : ℕ

-- ---- what a step makes of a configuration

abbrev pub set : ℕ → ℕ → (ℕ → ℕ) → ℕ → ℕ
set to word temps t = if t == to then word else temps t

abbrev pub temp : Config → ℕ → ℕ
temp c t = c.here.temps t

-- on to the next step, or to a label
abbrev pub go_on : Config → After Config
go_on c = on (record c { here = record c.here { next = c.here.next + 1 } })

abbrev pub go_to : ℕ → Config → After Config
go_to label c = on (record c { here = record c.here { next = label } })

-- a word into a temporary
abbrev pub gives : ℕ → ℕ → Config → After Config
gives to word c = on (record c { here = record c.here { next = c.here.next + 1; temps = set to word c.here.temps } })

abbrev pub strays : Config → After Config
strays c = over (strayed c.here.at) c

abbrev pub gives_found : ℕ → Option ℕ → Config → After Config
gives_found to (Some word) c = gives to word c
gives_found to None c = strays c

abbrev pub with_memory : Option Memory → Config → After Config
with_memory (Some m) c = go_on (record c { memory = m })
with_memory None c = strays c

abbrev pub named : World → Activation → Named → Option ℕ
named world a (OfVariable x) = variable_address a.low a.variables x
named world a (Stored n) = slice_get world.addresses n
named world a (Procedure f) = Some (world.entries f)

-- ---- calls

abbrev pub activation_of : Proc → List ℕ → (ℕ → Bool) → ℕ → Activation
activation_of p words touched base = record {
  steps = p.steps;
  next = 0;
  temps = λ t. get_or words t 0;
  at = p.at;
  low = base - p.frame;
  variables = p.variables;
  touched = touched_in touched (base - p.frame) p.variables;
}

-- the caller waits behind its call; nothing is in the new frame
abbrev pub entered : Proc → ℕ → List ℕ → Config → Config
entered p to words c = record c {
  here = activation_of p words c.here.touched c.here.low;
  callers = record { to = to; activation = record c.here { next = c.here.next + 1 } } ∷ c.callers;
  memory = forgotten c.memory (c.here.low - p.frame) p.frame;
}

-- the stack check comes first; a procedure that isn't there, which no well program names, strays
abbrev pub calls : ℕ → Option Proc → List ℕ → Config → After Config
calls to None words c = strays c
calls to (Some p) words c = if has_room c.here.low p.frame then on (entered p to words c) else over (checked Stack p.at) c

abbrev pub takes : ℕ → Option Proc → Bool
takes n (Some p) = p.parameters == n
takes n None = false

abbrev pub calls_told : ℕ → Option Proc → List ℕ → Option (Entry ℕ ℕ) → Config → After Config
calls_told to p words (Some e) c = calls to p words (record c { log = c.log ++ (e ∷ []) })
calls_told to p words None c = strays c

abbrev pub calls_found : World → ℕ → ℕ → List ℕ → Bool → Option ℕ → Config → After Config
calls_found world to word words marked None c = strays c
calls_found world to word words marked (Some f) c =
    if takes (length words) (slice_get world.procedures f)
    then (if marked then calls_told to (slice_get world.procedures f) words (event_of word words) c else calls to (slice_get world.procedures f) words c)
    else strays c

-- the answer goes to the caller; where there is none, the program has ended
abbrev pub returns : ℕ → List Caller → Config → After Config
returns word [] c = over (exited 0) c
returns word (caller ∷ callers) c =
    on (record c { here = record caller.activation { temps = set caller.to word caller.activation.temps }; callers = callers })

-- ---- the outside

abbrev pub reads : ℕ → ℕ → ℕ → Config → After Config
reads to a n c =
    if all_in c.here.touched a n
    then gives to (length (take n c.input)) (record c {
      memory = put c.memory a (take n c.input);
      input = drop n c.input;
      taken = c.taken + length (take n c.input);
    })
    else strays c

abbrev pub writes : (ℕ → Entry ℕ ℕ) → Option (List ℕ) → Config → After Config
writes entry (Some bytes) c = go_on (record c { log = c.log ++ map entry bytes })
writes entry None c = strays c

abbrev pub asks : SystemCall → Config → After Config
asks (Read to a n) c = reads to (temp c a) (temp c n) c
asks (Write d a n) c = writes (entry_to d) (loaded c.here.touched c.memory (temp c a) (temp c n)) c
asks (Exit code) c = over (exited (temp c code % 2 ^ 8)) c

-- ---- steps

abbrev pub carried : World → MidStep → Config → After Config
carried world (Const to word) c = gives to word c
carried world (Address to of) c = gives_found to (named world c.here of) c
carried world (Move to from) c = gives to (temp c from) c
carried world (Unary to op operand) c = gives to (unary_word op (temp c operand)) c
carried world (Binary to op left right) c = gives to (binary_word op (temp c left) (temp c right)) c
carried world (Compare to op left right) c = gives to (compare_words op (temp c left) (temp c right)) c
carried world (Load to width a) c = gives_found to (option_map number_of (loaded c.here.touched c.memory (temp c a) (width_size width))) c
carried world (Store width a value) c = with_memory (stored c.here.touched c.memory (temp c a) (bytes_of (width_size width) (temp c value))) c
carried world (Jump label) c = go_to label c
carried world (Branch condition label) c = if temp c condition == 0 then go_on c else go_to label c
carried world (Call to f arguments) c = calls to (slice_get world.procedures f) (map (temp c) arguments.items) c
carried world (CallValue to target arguments marked) c =
    calls_found world to (temp c target) (map (temp c) arguments.items) marked (called_by world.entries 0 world.procedures (temp c target)) c
carried world (Return value) c = returns (temp c value) c.callers c
carried world (Check condition which place) c = if temp c condition == 0 then over (checked which place) c else go_on c
carried world (System call) c = asks call c

-- a position without a step, which no way of a well procedure reaches, strays
abbrev pub carried_at : World → Option MidStep → Config → After Config
carried_at world (Some step) c = carried world step c
carried_at world None c = strays c

abbrev pub act : World → Config → After Config
act world c = carried_at world (slice_get c.here.steps c.here.next) c

-- ---- a whole run

abbrev pub world_of : (ℕ → ℕ) → Whole → World
world_of entries p = record { entries = entries; procedures = p.procedures; addresses = p.addresses }

abbrev pub first_config : Whole → Proc → List ℕ → Config
first_config w p input = record {
  here = activation_of p [] (touched_always w.store_size) stack_end;
  callers = [];
  memory = forgotten (first_memory w.store w.store_size) (stack_end - p.frame) p.frame;
  log = [];
  input = input;
  taken = 0;
}

abbrev pub ending : Stand Config → Ending ℕ ℕ
ending s = record { end = s.end; log = s.last.log; taken = s.last.taken; cost = s.steps }

-- a program without the procedure that it names as `main`, which is not well, goes on
abbrev pub run_main : World → Whole → Option Proc → Run ℕ ℕ
run_main world w (Some p) input n = ending (stood (act world) n (first_config w p input))
run_main world w None input n = record { end = going; log = []; taken = 0; cost = 0 }

abbrev pub mid : (ℕ → ℕ) → Whole → Run ℕ ℕ
mid entries w = run_main (world_of entries w) w (slice_get w.procedures w.main)
