-- A rule that keeps everything but the cost of each node keeps everything but the cost of the whole run.
use Rattle.std.proofs.Common.{◌≡◌, ℕ, zero, suc, Bool, true, false, List, ◌++◌, ap, sym, ◌∙◌, refl, subst}
use Rattle.std.specs.Prelude.{Option, Some, None, ◌+◌, take, drop, min, length, if◌then◌else◌, nat_le}
use Rattle.odc_text.specs.declared.place.Place.{Place}
use Rattle.odc_text.specs.Run.{End, exited, going}
use Rattle.odc_program.specs.States.Run.{Res, ok, stop, pure, then_by}
use Rattle.odc_program.specs.States.Bytes.{Block, to, Value}
use Rattle.odc_program.specs.States.Memory.{Memory, load, store, fits, writable, open_block, close, close_from}
use Rattle.odc_program.specs.Trees.Program as t
use Rattle.odc_program.specs.States.State as p
use Rattle.odc_program.specs.Runs.Statements as f
use Rattle.odc_program.specs.Runs.Source as s
use Rattle.odc_program_laws.specs.Rewriting as d
use Rattle.odc_program_laws.specs.Rewriting.{ButCost}
use Rattle.odc_program_laws.specs.Laws.{SameButCost}
use Rattle.odc_program_laws.proofs.Alike as a
use Rattle.odc_program_laws.proofs.StatementsAlike as b
use Rattle.odc_program_laws.proofs.Rewritten as w

abbrev pub Stops : p.Leave → p.State → a.Tail → Type 0
Stops x u (a.went v) = ⊥
Stops x u (a.halts_at y v) = (x ≡ y) × ButCost u v

abbrev pub Same : {A : Type 0} → p.Do A → p.Do A → Type 0
Same m n = a.Like ButCost Stops m n

-- ---- the primitives
known_so : {A : Type 0} (at : Place) (x : Option A) (u v : p.State) → ButCost u v → a.Ends ButCost Stops (p.known at x u) (p.known at x v)
known_so at (Some x) u v h = (refl, h)
known_so at None u v h = (refl, h)

load_so : (at : Place) (c : Block) (o n : ℕ) (u v : p.State) → ButCost u v → a.Ends ButCost Stops (p.load_at at c o n u) (p.load_at at c o n v)
load_so at c o n u v h = subst (λ (m : Memory). a.Ends ButCost Stops (p.load_at at c o n u) (p.known at (load m c o n) v)) h.memory (known_so at (load u.memory c o n) u v h)

keep_so : (at : Place) (x : Option Memory) (u v : p.State) → ButCost u v → a.Ends ButCost Stops (p.keep at x u) (p.keep at x v)
keep_so at (Some m) u v h = (refl, record { memory = refl; log = h.log; input = h.input; taken = h.taken; left = h.left; serial = h.serial })
keep_so at None u v h = (refl, h)

store_so : (at : Place) (c : Block) (o : ℕ) (y : Value) (u v : p.State) → ButCost u v → a.Ends ButCost Stops (p.store_at at c o y u) (p.store_at at c o y v)
store_so at c o y u v h = subst (λ (m : Memory). a.Ends ButCost Stops (p.store_at at c o y u) (p.keep at (store m c o y) v)) h.memory (keep_so at (store u.memory c o y) u v h)

live_so : (at : Place) (x : Option ℕ) (u v : p.State) → ButCost u v → a.Ends ButCost Stops (p.live_by at x u) (p.live_by at x v)
live_so at (Some n) u v h = (refl, h)
live_so at None u v h = (refl, h)

inside_so : (at : Place) (c : Block) (o : ℕ) (x : Bool) (u v : p.State) → ButCost u v → a.Ends ButCost Stops ((if x then pure (to c o) else p.stray at) u) ((if x then pure (to c o) else p.stray at) v)
inside_so at c o true u v h = (refl, h)
inside_so at c o false u v h = (refl, h)

room_so : (at : Place) (x : Bool) (u v : p.State) → ButCost u v → a.Ends ButCost Stops (p.fitting at x u) (p.fitting at x v)
room_so at true u v h = (refl, h)
room_so at false u v h = (refl, h)

turn_so : (n : ℕ) (u v : p.State) → ButCost u v → a.Ends ButCost Stops (p.turn_from n u) (p.turn_from n v)
turn_so zero u v h = (refl, h)
turn_so (suc n) u v h = (refl, record { memory = h.memory; log = h.log; input = h.input; taken = h.taken; left = refl; serial = h.serial })

stays_so : {A B : Type 0} (x : p.Leave) (u : p.State) (y : Res p.Leave p.State A) (f : A → p.Do B) → Stops x u (a.tail y) → Stops x u (a.tail (then_by y f))
stays_so x u (ok z v) f h = absurd h
stays_so x u (stop z v) f h = h

wakes_so : (e : End) (u v : p.State) → Stops (p.ends e) u (a.halts_at p.back v) → Stops (p.ends e) u (a.went v)
wakes_so e u v h = let different : p.ends e ≡ p.back = h.0 in cc

backs_so : (u : p.State) (q : a.Tail) → Stops p.back u q → a.IsBack ButCost u q
backs_so u (a.went v) h = h
backs_so u (a.halts_at p.back v) h = h.1
backs_so u (a.halts_at (p.ends e) v) h = let different : p.back ≡ p.ends e = h.0 in cc

pub blind : a.Alike w.Anywhere ButCost Stops
blind = record {
  stays = λ x u y f h. stays_so x u y f h;
  halts = λ x u v i h. (refl, h);
  wakes = λ e u v h. wakes_so e u v h;
  backs = λ u q h. backs_so u q h;
  spends = λ n. record { by = λ u v h. (refl, record { memory = h.memory; log = h.log; input = h.input; taken = h.taken; left = h.left; serial = h.serial }) };
  tells = λ es. record { by = λ u v h. (refl, record { memory = h.memory; log = ap (λ x. x ++ es) h.log; input = h.input; taken = h.taken; left = h.left; serial = h.serial }) };
  loads = λ at c o n. record { by = λ u v h. load_so at.place c o n u v h };
  stores = λ at c o y. record { by = λ u v h. store_so at.place c o y u v h };
  opens = λ c y. record { by = λ u v h. (refl, record { memory = ap (λ (m : Memory). open_block m c y) h.memory; log = h.log; input = h.input; taken = h.taken; left = h.left; serial = h.serial }) };
  closes = λ n. record { by = λ u v h. (refl, record { memory = ap (λ (m : Memory). close m n) h.memory; log = h.log; input = h.input; taken = h.taken; left = h.left; serial = h.serial }) };
  closes_from = λ n l. record { by = λ u v h. (refl, record { memory = ap (λ (m : Memory). close_from m n l) h.memory; log = h.log; input = h.input; taken = h.taken; left = h.left; serial = h.serial }) };
  inside = λ at c o. record { by = λ u v h. subst (λ (m : Memory). a.Ends ButCost Stops (p.in_block at.place c o u) ((if nat_le o (m.long c) then pure (to c o) else p.stray at.place) v)) h.memory (inside_so at.place c o (nat_le o (u.memory.long c)) u v h) };
  lives = λ at c. record { by = λ u v h. subst (λ (m : Memory). a.Ends ButCost Stops (p.live_at at.place c u) (p.live_by at.place (m.size c) v)) h.memory (live_so at.place (u.memory.size c) u v h) };
  rooms = λ at c n k. record { by = λ u v h. subst (λ (m : Memory). a.Ends ButCost Stops (p.room_at at.place c n k u) (p.fitting at.place (fits (writable c (m.size c)) n k) v)) h.memory (room_so at.place (fits (writable c (u.memory.size c)) n k) u v h) };
  inputs = λ n. record { by = λ u v h. (ap (λ (x : List ℕ). take n x) h.input, record { memory = h.memory; log = h.log; input = ap (λ (x : List ℕ). drop n x) h.input; taken = ap (λ (x : ℕ). x + min n (length u.input)) h.taken ∙ ap (λ (x : List ℕ). v.taken + min n (length x)) h.input; left = h.left; serial = h.serial }) };
  turns = record { by = λ u v h. subst (λ (n : ℕ). a.Ends ButCost Stops (p.take_turn u) (p.turn_from n v)) h.left (turn_so u.left u v h) };
  serials = record { by = λ u v h. (h.serial, record { memory = h.memory; log = h.log; input = h.input; taken = h.taken; left = h.left; serial = ap (λ (n : ℕ). n + 1) h.serial }) };
}

-- ---- both ways, and one after another
flipped : (u v : p.State) → ButCost u v → ButCost v u
flipped u v h = record { memory = sym h.memory; log = sym h.log; input = sym h.input; taken = sym h.taken; left = sym h.left; serial = sym h.serial }

chained : (u v x : p.State) → ButCost u v → ButCost v x → ButCost u x
chained u v x h k = record { memory = h.memory ∙ k.memory; log = h.log ∙ k.log; input = h.input ∙ k.input; taken = h.taken ∙ k.taken; left = h.left ∙ k.left; serial = h.serial ∙ k.serial }

ends_flipped : {A : Type 0} (x y : Res p.Leave p.State A) → a.Ends ButCost Stops x y → a.Ends ButCost Stops y x
ends_flipped (ok x u) (ok y v) h = (sym h.0, flipped u v h.1)
ends_flipped (ok x u) (stop y v) h = absurd h
ends_flipped (stop x u) (ok y v) h = absurd h
ends_flipped (stop x u) (stop y v) h = (sym h.0, flipped u v h.1)

ends_chained : {A : Type 0} (x y z : Res p.Leave p.State A) → a.Ends ButCost Stops x y → a.Ends ButCost Stops y z → a.Ends ButCost Stops x z
ends_chained (ok x u) (ok y v) (ok z i) h k = (h.0 ∙ k.0, chained u v i h.1 k.1)
ends_chained (ok x u) (ok y v) (stop z i) h k = absurd k
ends_chained (ok x u) (stop y v) z h k = absurd h
ends_chained (stop x u) (ok y v) z h k = absurd h
ends_chained (stop x u) (stop y v) (ok z i) h k = absurd k
ends_chained (stop x u) (stop y v) (stop z i) h k = (h.0 ∙ k.0, chained u v i h.1 k.1)

self : (u : p.State) → ButCost u u
self u = record { memory = refl; log = refl; input = refl; taken = refl; left = refl; serial = refl }

pub flips : {A : Type 0} {m n : p.Do A} → Same m n → Same n m
flips {m = m} {n = n} h = record { by = λ u v k. ends_flipped (m v) (n u) (h.by v u (flipped u v k)) }

pub chains : {A : Type 0} {m n i : p.Do A} → Same m n → Same n i → Same m i
chains {m = m} {n = n} {i = i} h k = record { by = λ u v j. ends_chained (m u) (n u) (i v) (h.by u u (self u)) (k.by u v j) }

-- ---- what a rule is asked, and what the theorem takes
agrees : {A : Type 0} (x y : Res p.Leave p.State A) → d.Agree x y → a.Ends ButCost Stops x y
agrees (ok x u) (ok y v) h = h
agrees (ok x u) (stop y v) h = absurd h
agrees (stop x u) (ok y v) h = absurd h
agrees (stop x u) (stop y v) h = h

agreed : {A : Type 0} (x y : Res p.Leave p.State A) → a.Ends ButCost Stops x y → d.Agree x y
agreed (ok x u) (ok y v) h = h
agreed (ok x u) (stop y v) h = absurd h
agreed (stop x u) (ok y v) h = absurd h
agreed (stop x u) (stop y v) h = h

pub likes : {A : Type 0} {m n : p.Do A} → d.Alike m n → Same m n
likes {m = m} {n = n} h = record { by = λ u v k. agrees (m u) (n v) (h.by u v k) }

pub liked : {A : Type 0} {m n : p.Do A} → Same m n → d.Alike m n
liked {m = m} {n = n} h = record { by = λ u v k. agreed (m u) (n v) (h.by u v k) }

pub calls_alike : (y : p.Calls) → d.BlindCalls y → a.SameCalls ButCost Stops y y
calls_alike y g = record { by = λ f m n vs x low h. likes (g.call f m n vs x low (liked h)); helps = λ h vs env. likes (g.help h vs env) }

calls_blind : (y z : p.Calls) → a.SameCalls ButCost Stops y z → d.BlindCalls z
calls_blind y z h = record {
  call = λ f m n vs x low k. liked (chains (flips (h.by f m m vs x low (chains (likes k) (flips (likes k))))) (h.by f m n vs x low (likes k)));
  help = λ i vs env. liked (chains (flips (h.helps i vs env)) (h.helps i vs env));
}

late_after : (x y z : Option f.Part) → b.SameLate w.Anywhere ButCost Stops blind x y → d.AlikeLater y z → b.SameLate w.Anywhere ButCost Stops blind x z
late_after None None None h k = h
late_after None None (Some z) h k = absurd k
late_after None (Some y) z h k = elim h [ ]
late_after (Some x) None z h k = elim h [ ]
late_after (Some x) (Some y) None h k = absurd k
late_after (Some x) (Some y) (Some z) (b.are_late h) k = b.are_late (record { by = λ c. chains (h.by c) (likes (k.by c)) })

pub takes : (rule : d.Rule) → d.Keeps rule → w.Takes ButCost Stops blind rule
takes rule keeps = record {
  Good = d.BlindCalls;
  good = λ y z h. calls_blind y z h;
  kinds = λ z g env ty at k h. chains h (likes (keeps.kinds z g env ty at k));
  forms = λ n z g env at k h. record { by = λ c. chains (h.by c) (likes ((keeps.forms n z g env at k).by c)) };
  laters = λ n z g env at k o h. late_after o (s.later_form n z env k) (s.later_form n z env (rule.form at k)) h (keeps.later n z g env at k);
}

-- ---- whole programs
at_end : (e : End) (u v : p.State) → ButCost u v → SameButCost (s.ending_at e u) (s.ending_at e v)
at_end e u v h = record { end = refl; log = h.log; taken = h.taken }

stopped_end : (x : p.Leave) (u v : p.State) → ButCost u v → SameButCost (s.ending (stop x u)) (s.ending (stop x v))
stopped_end (p.ends e) u v h = at_end e u v h
stopped_end p.back u v h = at_end going u v h

end_of : (x y : Res p.Leave p.State Value) → a.Ends ButCost Stops x y → SameButCost (s.ending x) (s.ending y)
end_of (ok x u) (ok y v) h = at_end (exited 0) u v h.1
end_of (ok x u) (stop y v) h = absurd h
end_of (stop x u) (ok y v) h = absurd h
end_of (stop x u) (stop y v) h = subst (λ z. SameButCost (s.ending (stop x u)) (s.ending (stop z v))) h.0 (stopped_end x u v h.1)

pub same_fuel : (T : p.Leave → p.State → a.Tail → Type 0) (n : ℕ) → b.Fuels T n n
same_fuel T zero = tt
same_fuel T (suc n) = same_fuel T n

pub rewriting_keeps : (rule : d.Rule) → d.Keeps rule → (z : t.Program) (input : List ℕ) (n : ℕ) → SameButCost (s.source z input n) (s.source (d.program_by rule z) input n)
rewriting_keeps rule keeps z input n = end_of _ _ ((w.runs ButCost Stops blind rule (takes rule keeps) z n n (same_fuel Stops n)).by (s.first_state z input n) (s.first_state (d.program_by rule z) input n) (self (s.first_state z input n)))
