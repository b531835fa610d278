-- The log and the cost only grow.
use Rattle.std.proofs.Common.{◌≡◌, ℕ, zero, suc, Bool, true, false, [], ◌++◌, ap, sym, ◌∙◌, refl, subst, arith}
use Rattle.std.specs.Prelude.{Option, Some, None, if◌then◌else◌, nat_le}
use Rattle.std.proofs.lemmas.List.{append_assoc, append-nil}
use Rattle.odc_text.specs.declared.place.Place.{Place}
use Rattle.odc_program.specs.States.Run.{Res, ok, stop, pure, then_by}
use Rattle.odc_program.specs.States.Bytes.{Block, to}
use Rattle.odc_program.specs.States.Memory.{Memory, load, store, fits, writable}
use Rattle.odc_program.specs.Trees.Program as t
use Rattle.odc_program.specs.States.State as p
use Rattle.odc_program.specs.Runs.Source as s
use Rattle.odc_program_laws.specs.Laws.{Grown, GrownTo}
use Rattle.odc_program_laws.proofs.Alike as a
use Rattle.odc_program_laws.proofs.StatementsAlike as b
use Rattle.odc_program_laws.proofs.Whole as w

-- no place is asked for
abbrev Anywhere : Place → Type 0
Anywhere at = Unit {0}

module _ (o : p.State) where
  abbrev S : p.State → p.State → Type 0
  S u v = (u ≡ v) × Grown o u

  abbrev Stops : p.Leave → p.State → a.Tail → Type 0
  Stops x u (a.went v) = ⊥
  Stops x u (a.halts_at y v) = (x ≡ y) × S u v

  ends_of : {A : Type 0} (x : Res p.Leave p.State A) → GrownTo o x → a.Ends S Stops x x
  ends_of (ok x u) h = (refl, (refl, h))
  ends_of (stop x u) h = (refl, (refl, h))

  itself : {A : Type 0} (m : p.Do A) → ((u : p.State) → Grown o u → GrownTo o (m u)) → a.Like S Stops m m
  itself m k = record { by = λ u v h. subst (λ x. a.Ends S Stops (m u) (m x)) h.0 (ends_of (m u) (k u h.1)) }

  known_after : {A : Type 0} (at : Place) (x : Option A) (u : p.State) → Grown o u → GrownTo o (p.known at x u)
  known_after at (Some x) u h = h
  known_after at None u h = h

  kept_after : (at : Place) (x : Option Memory) (u : p.State) → Grown o u → GrownTo o (p.keep at x u)
  kept_after at (Some m) u h = record { more = h.more; log = h.log; cost = h.cost }
  kept_after at None u h = h

  live_after : (at : Place) (x : Option ℕ) (u : p.State) → Grown o u → GrownTo o (p.live_by at x u)
  live_after at (Some n) u h = h
  live_after at None u h = h

  inside_after : (at : Place) (b : Block) (n : ℕ) (x : Bool) (u : p.State) → Grown o u → GrownTo o ((if x then pure (to b n) else p.stray at) u)
  inside_after at b n true u h = h
  inside_after at b n false u h = h

  room_after : (at : Place) (x : Bool) (u : p.State) → Grown o u → GrownTo o (p.fitting at x u)
  room_after at true u h = h
  room_after at false u h = h

  turn_after : (left : ℕ) (u : p.State) → Grown o u → GrownTo o (p.turn_from left u)
  turn_after zero u h = h
  turn_after (suc left) u h = record { more = h.more; log = h.log; cost = omega (arith, h.cost) }

  stays_so : {A B : Type 0} (x : p.Leave) (u : p.State) (y : Res p.Leave p.State A) (f : A → p.Do B) → Stops x u (a.tail y) → Stops x u (a.tail (then_by y f))
  stays_so x u (ok z v) f h = absurd h
  stays_so x u (stop z v) f h = h

  backs_so : (u : p.State) (q : a.Tail) → Stops p.back u q → a.IsBack S u q
  backs_so u (a.went v) h = h
  backs_so u (a.halts_at p.back v) h = h.1
  backs_so u (a.halts_at (p.ends e) v) h = cc

  pub growing : a.Alike Anywhere S Stops
  growing = record {
    stays = λ x u y f h. stays_so x u y f h;
    halts = λ x u v i h. (refl, h);
    wakes = λ e u v h. cc;
    backs = λ u q h. backs_so u q h;
    spends = λ n. itself (p.spend n) (λ u h. record { more = h.more; log = h.log; cost = omega (arith, h.cost) });
    tells = λ es. itself (p.leave_behind es) (λ u h. record { more = h.more ++ es; log = ap (λ x. x ++ es) h.log ∙ append_assoc o.log h.more es; cost = h.cost });
    loads = λ at b n k. itself (p.load_at at.place b n k) (λ u h. known_after at.place (load u.memory b n k) u h);
    stores = λ at b n v. itself (p.store_at at.place b n v) (λ u h. kept_after at.place (store u.memory b n v) u h);
    opens = λ b v. itself (p.open_at b v) (λ u h. record { more = h.more; log = h.log; cost = h.cost });
    closes = λ n. itself (p.close_all n) (λ u h. record { more = h.more; log = h.log; cost = h.cost });
    closes_from = λ n l. itself (p.close_behind n l) (λ u h. record { more = h.more; log = h.log; cost = h.cost });
    inside = λ at b n. itself (p.in_block at.place b n) (λ u h. inside_after at.place b n (nat_le n (u.memory.long b)) u h);
    lives = λ at b. itself (p.live_at at.place b) (λ u h. live_after at.place (u.memory.size b) u h);
    rooms = λ at b n k. itself (p.room_at at.place b n k) (λ u h. room_after at.place (fits (writable b (u.memory.size b)) n k) u h);
    inputs = λ n. itself (p.take_input n) (λ u h. record { more = h.more; log = h.log; cost = h.cost });
    turns = itself p.take_turn (λ u h. turn_after u.left u h);
    serials = itself p.next_serial (λ u h. record { more = h.more; log = h.log; cost = h.cost });
  }

  pub grown_after : {A : Type 0} (x : Res p.Leave p.State A) → a.Ends S Stops x x → GrownTo o x
  grown_after (ok x u) h = h.1.1
  grown_after (stop x u) h = h.1.1

same_fuel : (T : p.Leave → p.State → a.Tail → Type 0) (n : ℕ) → b.Fuels T n n
same_fuel T zero = tt
same_fuel T (suc n) = same_fuel T n

pub only_grows : (z : t.Program) (n : ℕ) (o : p.State) → GrownTo o (s.main_run z n o)
only_grows z n o = grown_after o _ ((w.runs Anywhere (S o) (Stops o) (growing o) z (λ x m. tt) n n (same_fuel (Stops o) n)).by o o (refl, record { more = []; log = sym (append-nil o.log); cost = omega arith }))
