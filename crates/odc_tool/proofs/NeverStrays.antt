-- The machine never strays: its runs end with an exit, a check or a trap.
use Rattle.std.proofs.Common.{ℕ, zero, suc, Bool, true, false, cond, List}
use Rattle.std.specs.Prelude.{Option, Some, None, ◌==◌, slice_get}
use Rattle.odc_text.specs.Check.{number_of}
use Rattle.odc_text.specs.Run.{End, checked, strayed, Entry, out, err}
use Rattle.odc_text.specs.Steps.{After, on, over, Stand, stood_after}
use Rattle.rv_table.specs.State.{Area, State, stepped, register}
use Rattle.rv_table.specs.Run.{Site, Config, act, acted, ran, took, reading, wrote, refused, read_called, write_called, system_called, stopped_at, written_bytes}
use Rattle.rv_table.specs.declared.effect.Event.{Event}
use Rattle.rv_table.specs.declared.effect.Event.TheVariants.{Next, System, Break, AllocCall, Trap}

-- no stray
abbrev pub IsSound : End → Type 0
IsSound (strayed at) = ⊥
IsSound _ = Unit {0}

abbrev GoesSound : After Config → Type 0
GoesSound (on c) = Unit {0}
GoesSound (over e c) = IsSound e

either : (b : Bool) (x y : After Config) → GoesSound x → GoesSound y → GoesSound (cond b x y)
either true x y p q = p
either false x y p q = q

took_sound : (c : Config) (n : ℕ) (o : Option (List Area)) → GoesSound (took c n o)
took_sound c n None = tt
took_sound c n (Some areas) = tt

wrote_sound : (c : Config) (entry : ℕ → Entry ℕ ℕ) (o : Option (List ℕ)) → GoesSound (wrote c entry o)
wrote_sound c entry None = tt
wrote_sound c entry (Some bytes) = tt

system_sound : (c : Config) → GoesSound (system_called c)
system_sound c =
    either (register c.state 17 == 63) (read_called c) _
    (either (register c.state 10 == 0) (reading c) (refused c) (took_sound c _ _) tt)
    (either (register c.state 17 == 64) (write_called c) _
    (either (register c.state 10 == 1) (wrote c out (written_bytes c.state)) _ (wrote_sound c out (written_bytes c.state))
    (either (register c.state 10 == 2) (wrote c err (written_bytes c.state)) (refused c) (wrote_sound c err (written_bytes c.state)) tt))
    (either (register c.state 17 == 93) _ _ tt tt))

stop_sound : (c : Config) (o : Option Site) → GoesSound (stopped_at c o)
stop_sound c None = tt
stop_sound c (Some site) = either (number_of site.0 == register c.state 10) (over (checked site.0 site.1) c) _ tt tt

acted_sound : (sites : List Site) (c : Config) (e : Event) (s : State) → GoesSound (acted sites c (e, s))
acted_sound sites c Next s = tt
acted_sound sites c AllocCall s = tt
acted_sound sites c System s = system_sound c
acted_sound sites c Break s = stop_sound c (slice_get sites (register c.state 11))
acted_sound sites c Trap s = tt

act_sound : (sites : List Site) (calls : List ℕ) (c : Config) → GoesSound (act sites calls c)
unfolding act
act_sound sites calls c = acted_sound sites c (stepped calls c.state).0 (stepped calls c.state).1

after_sound : (f : Config → Stand Config) (a : After Config) → GoesSound a → ((c : Config) → IsSound (f c).end) → IsSound (stood_after f a).end
after_sound f (on c) p q = q c
after_sound f (over e c) p q = p

pub ran_sound : (sites : List Site) (calls : List ℕ) (n : ℕ) (c : Config) → IsSound (ran sites calls n c).end
ran_sound sites calls zero c = tt
ran_sound sites calls (suc n) c = after_sound (ran sites calls n) (act sites calls c) (act_sound sites calls c) (λ d. ran_sound sites calls n d)
