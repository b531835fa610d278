-- An ended run stays as it is at every greater bound.
use Rattle.std.proofs.Common.{◌≡◌, ℕ, zero, suc, Bool, true, false, List, ◌++◌, ap, sym, ◌∙◌, refl, subst, arith}
use Rattle.std.specs.Prelude.{Option, Some, None, ◌+◌, ◌≤◌, take, drop, min, length, if◌then◌else◌, nat_le}
use Rattle.odc_text.specs.declared.place.Place.{Place}
use Rattle.odc_text.specs.Run.{End, exited, checked, strayed, trapped, going}
use Rattle.odc_program.specs.States.Run.{Res, ok, stop, pure, then_by}
use Rattle.odc_program.specs.States.Bytes.{Block, to, Value}
use Rattle.odc_program.specs.States.Memory.{Memory, load, store, fits, writable, open_block, close, close_from}
use Rattle.odc_program.specs.Trees.Program as t
use Rattle.odc_program.specs.States.State as p
use Rattle.odc_program.specs.Runs.Source as s
use Rattle.odc_program_laws.proofs.Alike as a
use Rattle.odc_program_laws.proofs.StatementsAlike as b
use Rattle.odc_program_laws.proofs.Whole as w
use Rattle.odc_program_laws.specs.Laws.{HasStopped}

-- no place is asked for
abbrev Anywhere : Place → Type 0
Anywhere at = Unit {0}

-- the same but for the turns that are left, of which the second has no fewer
pub record Less (u v : p.State) : Type 0 where
  pub memory : u.memory ≡ v.memory
  pub log : u.log ≡ v.log
  pub input : u.input ≡ v.input
  pub taken : u.taken ≡ v.taken
  pub cost : u.cost ≡ v.cost
  pub serial : u.serial ≡ v.serial
  pub left : u.left ≤ v.left

-- a run that goes on past its bound is tied to all
abbrev pub Stops : p.Leave → p.State → a.Tail → Type 0
Stops (p.ends going) u q = Unit {0}
Stops x u (a.went v) = ⊥
Stops x u (a.halts_at y v) = (x ≡ y) × Less u v

stays_so : {A B : Type 0} (x : p.Leave) (u : p.State) (y : Res p.Leave p.State A) (f : A → p.Do B) → Stops x u (a.tail y) → Stops x u (a.tail (then_by y f))
stays_so (p.ends going) u y f h = tt
stays_so (p.ends (exited n)) u (ok z v) f h = absurd h
stays_so (p.ends (exited n)) u (stop z v) f h = h
stays_so (p.ends (checked c at)) u (ok z v) f h = absurd h
stays_so (p.ends (checked c at)) u (stop z v) f h = h
stays_so (p.ends (strayed at)) u (ok z v) f h = absurd h
stays_so (p.ends (trapped pc)) u (ok z v) f h = absurd h
stays_so (p.ends (strayed at)) u (stop z v) f h = h
stays_so (p.ends (trapped pc)) u (stop z v) f h = h
stays_so p.back u (ok z v) f h = absurd h
stays_so p.back u (stop z v) f h = h

halts_so : (x : p.Leave) (u v : p.State) → Less u v → Stops x u (a.halts_at x v)
halts_so (p.ends going) u v h = tt
halts_so (p.ends (exited n)) u v h = (refl, h)
halts_so (p.ends (checked c at)) u v h = (refl, h)
halts_so (p.ends (strayed at)) u v h = (refl, h)
halts_so (p.ends (trapped pc)) u v h = (refl, h)
halts_so p.back u v h = (refl, h)

wakes_so : (e : End) (u v : p.State) → Stops (p.ends e) u (a.halts_at p.back v) → Stops (p.ends e) u (a.went v)
wakes_so going u v h = tt
wakes_so (exited n) u v h = cc
wakes_so (checked c at) u v h = cc
wakes_so (strayed at) u v h = cc
wakes_so (trapped pc) u v h = cc

backs_so : (u : p.State) (q : a.Tail) → Stops p.back u q → a.IsBack Less u q
backs_so u (a.went v) h = h
backs_so u (a.halts_at p.back v) h = h.1
backs_so u (a.halts_at (p.ends e) v) h = cc

known_so : {A : Type 0} (at : Place) (x : Option A) (u v : p.State) → Less u v → a.Ends Less Stops (p.known at x u) (p.known at x v)
known_so at (Some x) u v h = (refl, h)
known_so at None u v h = (refl, h)

load_so : (at : Place) (b : Block) (n k : ℕ) (u v : p.State) → Less u v → a.Ends Less Stops (p.load_at at b n k u) (p.load_at at b n k v)
load_so at b n k u v h = subst (λ (m : Memory). a.Ends Less Stops (p.load_at at b n k u) (p.known at (load m b n k) v)) h.memory (known_so at (load u.memory b n k) u v h)

keep_so : (at : Place) (x : Option Memory) (u v : p.State) → Less u v → a.Ends Less Stops (p.keep at x u) (p.keep at x v)
keep_so at (Some m) u v h = (refl, record { memory = refl; log = h.log; input = h.input; taken = h.taken; cost = h.cost; serial = h.serial; left = h.left })
keep_so at None u v h = (refl, h)

live_so : (at : Place) (x : Option ℕ) (u v : p.State) → Less u v → a.Ends Less Stops (p.live_by at x u) (p.live_by at x v)
live_so at (Some m) u v h = (refl, h)
live_so at None u v h = (refl, h)

inside_so : (at : Place) (b : Block) (n : ℕ) (x : Bool) (u v : p.State) → Less u v → a.Ends Less Stops ((if x then pure (to b n) else p.stray at) u) ((if x then pure (to b n) else p.stray at) v)
inside_so at b n true u v h = (refl, h)
inside_so at b n false u v h = (refl, h)

room_so : (at : Place) (x : Bool) (u v : p.State) → Less u v → a.Ends Less Stops (p.fitting at x u) (p.fitting at x v)
room_so at true u v h = (refl, h)
room_so at false u v h = (refl, h)

input_so : (n : ℕ) (u v : p.State) → Less u v → a.Ends Less Stops (p.take_input n u) (p.take_input n v)
input_so n u v h = (
  ap (λ x. take n x) h.input,
  record {
    memory = h.memory;
    log = h.log;
    input = ap (λ x. drop n x) h.input;
    taken = ap (λ x. u.taken + min n (length x)) h.input ∙ ap (λ x. x + min n (length v.input)) h.taken;
    cost = h.cost;
    serial = h.serial;
    left = h.left;
  },
)

turn_so : (l k : ℕ) (u v : p.State) → Less u v → l ≤ k → a.Ends Less Stops (p.turn_from l u) (p.turn_from k v)
turn_so zero k u v h e = tt
turn_so (suc l) zero u v h e = absurd (omega (arith, e))
turn_so (suc l) (suc k) u v h e = (refl, record { memory = h.memory; log = h.log; input = h.input; taken = h.taken; cost = ap (λ x. x + 1) h.cost; serial = h.serial; left = omega (arith, e) })

pub staying : a.Alike Anywhere Less Stops
staying = record {
  stays = λ x u y f h. stays_so x u y f h;
  halts = λ x u v i h. halts_so x u v h;
  wakes = λ e u v h. wakes_so e u v h;
  backs = λ u q h. backs_so u q h;
  spends = λ n. record { by = λ u v h. (refl, record { memory = h.memory; log = h.log; input = h.input; taken = h.taken; cost = ap (λ x. x + n) h.cost; serial = h.serial; left = h.left }) };
  tells = λ es. record { by = λ u v h. (refl, record { memory = h.memory; log = ap (λ x. x ++ es) h.log; input = h.input; taken = h.taken; cost = h.cost; serial = h.serial; left = h.left }) };
  loads = λ at b n k. record { by = λ u v h. load_so at.place b n k u v h };
  stores = λ at b n x. record { by = λ u v h. subst (λ (m : Memory). a.Ends Less Stops (p.store_at at.place b n x u) (p.keep at.place (store m b n x) v)) h.memory (keep_so at.place (store u.memory b n x) u v h) };
  opens = λ b x. record { by = λ u v h. (refl, record { memory = ap (λ m. open_block m b x) h.memory; log = h.log; input = h.input; taken = h.taken; cost = h.cost; serial = h.serial; left = h.left }) };
  closes = λ n. record { by = λ u v h. (refl, record { memory = ap (λ m. close m n) h.memory; log = h.log; input = h.input; taken = h.taken; cost = h.cost; serial = h.serial; left = h.left }) };
  closes_from = λ n l. record { by = λ u v h. (refl, record { memory = ap (λ m. close_from m n l) h.memory; log = h.log; input = h.input; taken = h.taken; cost = h.cost; serial = h.serial; left = h.left }) };
  inside = λ at b n. record { by = λ u v h. subst (λ (m : Memory). a.Ends Less Stops (p.in_block at.place b n u) ((if nat_le n (m.long b) then pure (to b n) else p.stray at.place) v)) h.memory (inside_so at.place b n (nat_le n (u.memory.long b)) u v h) };
  lives = λ at b. record { by = λ u v h. subst (λ (m : Memory). a.Ends Less Stops (p.live_at at.place b u) (p.live_by at.place (m.size b) v)) h.memory (live_so at.place (u.memory.size b) u v h) };
  rooms = λ at b n k. record { by = λ u v h. subst (λ (m : Memory). a.Ends Less Stops (p.room_at at.place b n k u) (p.fitting at.place (fits (writable b (m.size b)) n k) v)) h.memory (room_so at.place (fits (writable b (u.memory.size b)) n k) u v h) };
  inputs = λ n. record { by = λ u v h. input_so n u v h };
  turns = record { by = λ u v h. turn_so u.left v.left u v h h.left };
  serials = record { by = λ u v h. (h.serial, record { memory = h.memory; log = h.log; input = h.input; taken = h.taken; cost = h.cost; serial = ap (λ x. x + 1) h.serial; left = h.left }) };
}

fuels : (n m : ℕ) → n ≤ m → b.Fuels Stops n m
fuels zero zero e = tt
fuels zero (suc m) e = λ u q. tt
fuels (suc n) zero e = absurd (omega (arith, e))
fuels (suc n) (suc m) e = fuels n m (omega (arith, e))

same_at : (e : End) (u v : p.State) → Less u v → s.ending_at e v ≡ s.ending_at e u
same_at e u v h = λ i. record { end = e; log = sym h.log i; taken = sym h.taken i; cost = sym h.cost i }

same_ending : (x y : Res p.Leave p.State Value) → a.Ends Less Stops x y → HasStopped (s.ending x).end → s.ending y ≡ s.ending x
same_ending (ok x u) (ok y v) h e = same_at (exited 0) u v h.1
same_ending (ok x u) (stop y v) h e = absurd h
same_ending (stop (p.ends going) u) y h e = absurd e
same_ending (stop p.back u) y h e = absurd e
same_ending (stop (p.ends (exited n)) u) (ok y v) h e = absurd h
same_ending (stop (p.ends (checked c at)) u) (ok y v) h e = absurd h
same_ending (stop (p.ends (strayed at)) u) (ok y v) h e = absurd h
same_ending (stop (p.ends (trapped pc)) u) (ok y v) h e = absurd h
same_ending (stop (p.ends (exited n)) u) (stop y v) h e = subst (λ z. s.ending (stop z v) ≡ s.ending_at (exited n) u) h.0 (same_at (exited n) u v h.1)
same_ending (stop (p.ends (checked c at)) u) (stop y v) h e = subst (λ z. s.ending (stop z v) ≡ s.ending_at (checked c at) u) h.0 (same_at (checked c at) u v h.1)
same_ending (stop (p.ends (strayed at)) u) (stop y v) h e = subst (λ z. s.ending (stop z v) ≡ s.ending_at (strayed at) u) h.0 (same_at (strayed at) u v h.1)
same_ending (stop (p.ends (trapped pc)) u) (stop y v) h e = subst (λ z. s.ending (stop z v) ≡ s.ending_at (trapped pc) u) h.0 (same_at (trapped pc) u v h.1)

pub stopped_stays : (z : t.Program) (input : List ℕ) (n m : ℕ) → n ≤ m → HasStopped (s.source z input n).end → s.source z input m ≡ s.source z input n
stopped_stays z input n m e h = same_ending _ _ ((w.runs Anywhere Less Stops staying z (λ x m. tt) n m (fuels n m e)).by (s.first_state z input n) (s.first_state z input m)
    (record { memory = refl; log = refl; input = refl; taken = refl; cost = refl; serial = refl; left = e })) h
