-- A run that strays does so at a place of its program.
use Rattle.std.proofs.Common.{◌≡◌, ℕ, zero, suc, Bool, true, false, List, refl, subst}
use Rattle.std.specs.Prelude.{Option, Some, None, if◌then◌else◌, nat_le}
use Rattle.odc_text.specs.declared.place.Place.{Place}
use Rattle.odc_text.specs.Run.{End, exited, checked, strayed, trapped, going}
use Rattle.odc_program.specs.States.Run.{Res, ok, stop, then_by}
use Rattle.odc_program.specs.States.Bytes.{Block, to, Value}
use Rattle.odc_program.specs.States.Memory.{Memory, load, store, fits, writable}
use Rattle.odc_program.specs.Trees.Program as t
use Rattle.odc_program.specs.States.State as p
use Rattle.odc_program.specs.Runs.Source as s
use Rattle.odc_program_laws.specs.Nodes.{InProgram}
use Rattle.odc_program_laws.proofs.Alike as a
use Rattle.odc_program_laws.proofs.StatementsAlike as b
use Rattle.odc_program_laws.proofs.Whole as w

module _ (In : Place → Type 0) where
  -- one run beside itself, which leaves so only where it may
  abbrev S : p.State → p.State → Type 0
  S u v = u ≡ v

  abbrev Stops : p.Leave → p.State → a.Tail → Type 0
  Stops x u (a.went v) = ⊥
  Stops x u (a.halts_at y v) = (x ≡ y) × (u ≡ v) × a.MayLeave In x

  -- what a run gives: a state, or a leave that it may take
  abbrev Fine : {A : Type 0} → Res p.Leave p.State A → Type 0
  Fine (ok x u) = Unit {0}
  Fine (stop x u) = a.MayLeave In x

  ends_of : {A : Type 0} (x : Res p.Leave p.State A) → Fine x → a.Ends S Stops x x
  ends_of (ok x u) h = (refl, refl)
  ends_of (stop x u) h = (refl, refl, h)

  itself : {A : Type 0} (m : p.Do A) → ((u : p.State) → Fine (m u)) → a.Like S Stops m m
  itself m k = record { by = λ u v h. subst (λ x. a.Ends S Stops (m u) (m x)) h (ends_of (m u) (k u)) }

  known_fine : {A : Type 0} (at : a.Within In) (x : Option A) (u : p.State) → Fine (p.known at.place x u)
  known_fine at (Some x) u = tt
  known_fine at None u = at.inside

  kept_fine : (at : a.Within In) (x : Option Memory) (u : p.State) → Fine (p.keep at.place x u)
  kept_fine at (Some m) u = tt
  kept_fine at None u = at.inside

  live_fine : (at : a.Within In) (x : Option ℕ) (u : p.State) → Fine (p.live_by at.place x u)
  live_fine at (Some n) u = tt
  live_fine at None u = at.inside

  inside_fine : (at : a.Within In) (b : Block) (n : ℕ) (x : Bool) (u : p.State) → Fine ((if x then Rattle.odc_program.specs.States.Run.pure (to b n) else p.stray at.place) u)
  inside_fine at b n true u = tt
  inside_fine at b n false u = at.inside

  room_fine : (at : a.Within In) (x : Bool) (u : p.State) → Fine (p.fitting at.place x u)
  room_fine at true u = tt
  room_fine at false u = at.inside

  turn_fine : (left : ℕ) (u : p.State) → Fine (p.turn_from left u)
  turn_fine zero u = tt
  turn_fine (suc left) u = tt

  stays_so : {A B : Type 0} (x : p.Leave) (u : p.State) (y : Res p.Leave p.State A) (f : A → p.Do B) → Stops x u (a.tail y) → Stops x u (a.tail (then_by y f))
  stays_so x u (ok z v) f h = absurd h
  stays_so x u (stop z v) f h = h

  backs_so : (u : p.State) (q : a.Tail) → Stops p.back u q → a.IsBack S u q
  backs_so u (a.went v) h = h
  backs_so u (a.halts_at p.back v) h = h.1
  backs_so u (a.halts_at (p.ends e) v) h = let different : p.back ≡ p.ends e = h.0 in cc

  wakes_so : (e : End) (u v : p.State) → Stops (p.ends e) u (a.halts_at p.back v) → Stops (p.ends e) u (a.went v)
  wakes_so e u v h = let different : p.ends e ≡ p.back = h.0 in cc

  pub staying : a.Alike In S Stops
  staying = record {
    stays = λ x u y f h. stays_so x u y f h;
    halts = λ x u v i h. (refl, h, i);
    wakes = λ e u v h. wakes_so e u v h;
    backs = λ u q h. backs_so u q h;
    spends = λ n. itself (p.spend n) (λ u. tt);
    tells = λ es. itself (p.leave_behind es) (λ u. tt);
    loads = λ at b n k. itself (p.load_at at.place b n k) (λ u. known_fine at (load u.memory b n k) u);
    stores = λ at b n v. itself (p.store_at at.place b n v) (λ u. kept_fine at (store u.memory b n v) u);
    opens = λ b v. itself (p.open_at b v) (λ u. tt);
    closes = λ n. itself (p.close_all n) (λ u. tt);
    closes_from = λ n l. itself (p.close_behind n l) (λ u. tt);
    inside = λ at b n. itself (p.in_block at.place b n) (λ u. inside_fine at b n (nat_le n (u.memory.long b)) u);
    lives = λ at b. itself (p.live_at at.place b) (λ u. live_fine at (u.memory.size b) u);
    rooms = λ at b n k. itself (p.room_at at.place b n k) (λ u. room_fine at (fits (writable b (u.memory.size b)) n k) u);
    inputs = λ n. itself (p.take_input n) (λ u. tt);
    turns = itself p.take_turn (λ u. turn_fine u.left u);
    serials = itself p.next_serial (λ u. tt);
  }

  leaves : {A : Type 0} (x : Res p.Leave p.State A) → a.Ends S Stops x x → Fine x
  leaves (ok x u) h = tt
  leaves (stop x u) h = h.2

-- how it ends, where it has strayed
abbrev StrayedIn : (Place → Type 0) → End → Type 0
StrayedIn In (strayed at) = In at
StrayedIn In _ = Unit {0}

end_of : (In : Place → Type 0) (x : Res p.Leave p.State Value) → Fine In x → StrayedIn In (s.ending x).end
end_of In (ok v u) h = tt
end_of In (stop (p.ends (exited n)) u) h = tt
end_of In (stop (p.ends (checked c at)) u) h = tt
end_of In (stop (p.ends (strayed at)) u) h = h
end_of In (stop (p.ends (trapped pc)) u) h = tt
end_of In (stop (p.ends going) u) h = tt
end_of In (stop p.back u) h = tt

same_fuel : (T : p.Leave → p.State → a.Tail → Type 0) (n : ℕ) → b.Fuels T n n
same_fuel T zero = tt
same_fuel T (suc n) = same_fuel T n

pub strays_within : (z : t.Program) (input : List ℕ) (n : ℕ) (at : Place) → (s.source z input n).end ≡ strayed at → InProgram at z
strays_within z input n at e =
    subst (StrayedIn (λ x. InProgram x z)) e (end_of (λ x. InProgram x z) (s.ran z input n)
    (leaves (λ x. InProgram x z) (s.ran z input n) ((w.runs (λ x. InProgram x z) (S (λ x. InProgram x z)) (Stops (λ x. InProgram x z)) (staying (λ x. InProgram x z)) z (λ x m. m) n n (same_fuel (Stops (λ x. InProgram x z)) n)).by (s.first_state z input n) (s.first_state z input n) refl)))
