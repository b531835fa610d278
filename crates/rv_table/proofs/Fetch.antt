-- Fetching: where instructions stand in a range that may be executed, a step is that instruction.
use Rattle.std.proofs.Common.{◌≡◌, ℕ, zero, suc, ◌+◌, ◌*◌, ◌≤◌, Bool, true, false, ◌⊎◌, inl, inr, List, [], ◌∷◌, ◌++◌, length, map, arith, ap, ◌∙◌, subst, refl}
use Rattle.std.specs.Prelude.{Option, Some, option_and_then, slice_get, nat_le, ◌&&◌}
use Rattle.std.specs.Int.{w32, from_le_bytes}
use Rattle.std.proofs.lemmas.Nat.{from_le_bytes-to_le_bytes_4}
use Rattle.odc_text.specs.Run.{call}
use Rattle.odc_text.specs.Steps.{on}
use Rattle.rv_table.specs.Bytes.{written}
use Rattle.rv_table.specs.Table.{decoded}
use Rattle.rv_table.specs.State.{Area, State, Step, executed, marked, jumps_by_x5, listed, fetched, stepped, stepped_by, covers}
use Rattle.rv_table.specs.Run.{Site, Config, act, acted, call_made, system_called, stopped_at}
use Rattle.rv_table.specs.State.{register}
use Rattle.rv_table.specs.Areas.{Shows, Shape, shape, has, IsApartFrom, AreApart}
use Rattle.rv_table.specs.Standing.{StandsAt, StandFrom}
use Rattle.rv_table.specs.declared.inst.Inst.{Inst}
use Rattle.rv_table.specs.declared.inst.Inst.TheVariants.{Ecall, Ebreak}
use Rattle.rv_table.specs.declared.effect.Access.TheVariants.{Write, Execute}
use Rattle.rv_table.specs.declared.effect.Event.TheVariants.{Next}
use Rattle.rv_table.proofs.Bytes.{run_apart}
use Rattle.rv_table.proofs.Areas.{loaded_shown, Inside, inside, or_parts, apart_from_holder}

-- the instruction that stands at the program counter is fetched
pub fetched_shown : (s : State) (f : ℕ → ℕ) (inst : Inst) → Shows s.areas f → has Execute s.pc 4 (map shape s.areas) ≡ true → StandsAt f s.pc inst → fetched s ≡ Some inst
fetched_shown s f inst shows h at =
    ap (option_and_then (λ (bytes : List ℕ). decoded (from_le_bytes w32 bytes))) (loaded_shown s.areas f Execute s.pc 4 shows h)
    ∙ ap (λ (bytes : List ℕ). decoded (from_le_bytes w32 bytes)) at.bytes
    ∙ ap decoded (from_le_bytes-to_le_bytes_4 at.word at.fits)
    ∙ at.means

-- and carried out
pub stepped_shown : (calls : List ℕ) (s : State) (inst : Inst) → fetched s ≡ Some inst → stepped calls s ≡ marked (jumps_by_x5 inst && listed calls s.pc) (executed inst s)
unfolding stepped
stepped_shown calls s inst h = ap (λ (o : Option Inst). stepped_by calls o s) h

marked_false : (step : Step) → marked false step ≡ step
marked_false step = refl

module _ (sites : List Site) (calls : List ℕ) (c : Config) (inst : Inst) (h : fetched c.state ≡ Some inst) where
  -- any instruction but a listed call
  pub act_plain : jumps_by_x5 inst && listed calls c.state.pc ≡ false → act sites calls c ≡ acted sites c (executed inst c.state)
  unfolding act
  act_plain plain =
      ap (acted sites c) (stepped_shown calls c.state inst h ∙ ap (λ (b : Bool). marked b (executed inst c.state)) plain)

  pub act_next : (s : State) → jumps_by_x5 inst && listed calls c.state.pc ≡ false → executed inst c.state ≡ (Next, s) → act sites calls c ≡ on (record c { state = s })
  act_next s plain e = act_plain plain ∙ ap (acted sites c) e

  -- a listed call of an allocator
  pub act_call : (s : State) → jumps_by_x5 inst && listed calls c.state.pc ≡ true → executed inst c.state ≡ (Next, s) →
      act sites calls c ≡ on (record c { state = s; log = c.log ++ call (call_made c.state) ∷ [] })
  unfolding act
  act_call s is e =
      ap (acted sites c) (stepped_shown calls c.state inst h ∙ ap (λ (b : Bool). marked b (executed inst c.state)) is ∙ ap (marked true) e)

pub act_system : (sites : List Site) (calls : List ℕ) (c : Config) → fetched c.state ≡ Some Ecall → act sites calls c ≡ system_called c
unfolding executed
act_system sites calls c h = act_plain sites calls c Ecall h refl

pub act_break : (sites : List Site) (calls : List ℕ) (c : Config) → fetched c.state ≡ Some Ebreak → act sites calls c ≡ stopped_at c (slice_get sites (register c.state 11))
unfolding executed
act_break sites calls c h = act_plain sites calls c Ebreak h refl

-- ---- instructions stay where nothing may be written

-- the bytes from start to end aren't touched
abbrev pub IsAway : (address size start end : ℕ) → Type 0
IsAway address size start end = (address + size ≤ start) ⊎ (end ≤ address)

apart_at : (r q : Shape) (rs : List Shape) (k : ℕ) → IsApartFrom r rs → slice_get rs k ≡ Some q → (r.start + r.size ≤ q.start) ⊎ (q.start + q.size ≤ r.start)
apart_at r q [] k apart e = cc
apart_at r q (p ∷ rs) zero apart e =
    let same : p ≡ q = cc in
    let Q : Shape → Type 0 = λ x. (r.start + r.size ≤ x.start) ⊎ (x.start + x.size ≤ r.start) in
    subst Q same apart.0
apart_at r q (p ∷ rs) (suc k) apart e = apart_at r q rs k apart.1 e

-- a write lies away from each range that may not be written
pub write_away : (rs : List Area) (r : Shape) (k address size : ℕ) → AreApart (map shape rs) → slice_get (map shape rs) k ≡ Some r → r.writable ≡ false →
    has Write address size (map shape rs) ≡ true → IsAway address size r.start (r.start + r.size)
write_away [] r k address size apart at closed h = cc
write_away (q ∷ rs) r zero address size apart at closed h =
    let same : shape q ≡ r = cc in
    let Q : Shape → Type 0 = λ x. x.writable ≡ false → IsAway address size x.start (x.start + x.size) in
    subst Q same (λ w. elim (or_parts (covers Write address size q) (has Write address size (map shape rs)) h) [
      | inl here ↦ (let no : covers Write address size q ≡ false = ap (λ (b : Bool). b && (nat_le q.start address) && (nat_le (address + size) (q.start + length q.bytes))) w in cc)
      | inr p ↦ apart_from_holder (shape q) rs address size apart.0 p.1
    ]) closed
write_away (q ∷ rs) r (suc k) address size apart at closed h =
    elim (or_parts (covers Write address size q) (has Write address size (map shape rs)) h) [
      | inl here ↦ (let i : Inside q address size = inside q Write address size here in
          let low : q.start ≤ address = i.low in
          let high : address + size ≤ q.start + length q.bytes = i.high in
          elim (apart_at (shape q) r (map shape rs) k apart.0 at) [ inl l ↦ inl (omega arith) | inr l ↦ inr (omega arith) ])
      | inr p ↦ write_away rs r k address size apart.1 at closed p.1
    ]

pub stands_kept : (f : ℕ → ℕ) (at : ℕ) (inst : Inst) (address : ℕ) (bytes : List ℕ) → IsAway address (length bytes) at (at + 4) → StandsAt f at inst → StandsAt (written f address bytes) at inst
stands_kept f at inst address bytes away h = record {
  word = h.word;
  fits = h.fits;
  means = h.means;
  bytes = run_apart f address bytes at 4 (elim away [ inl l ↦ inr l | inr l ↦ inl l ]) ∙ h.bytes;
}

pub stand_kept : (f : ℕ → ℕ) (at : ℕ) (code : List Inst) (address : ℕ) (bytes : List ℕ) → IsAway address (length bytes) at (at + 4 * length code) → StandFrom f at code → StandFrom (written f address bytes) at code
stand_kept f at [] address bytes away h = tt
stand_kept f at (inst ∷ code) address bytes away h =
    let here : IsAway address (length bytes) at (at + 4) = elim away [ inl l ↦ inl l | inr l ↦ inr (omega arith) ] in
    let rest : IsAway address (length bytes) (at + 4) (at + 4 + 4 * length code) = elim away [ inl l ↦ inl (omega arith) | inr l ↦ inr (omega arith) ] in
    (stands_kept f at inst address bytes here h.0, stand_kept f (at + 4) code address bytes rest h.1)

-- the instruction at a position of code that stands
pub stands_at : (f : ℕ → ℕ) (at : ℕ) (code : List Inst) (k : ℕ) (inst : Inst) → StandFrom f at code → slice_get code k ≡ Some inst → StandsAt f (at + 4 * k) inst
stands_at f at [] k inst h e = cc
stands_at f at (i ∷ code) zero inst h e =
    let same : i ≡ inst = cc in
    let place : at ≡ at + 4 * 0 = omega arith in
    let Q : Inst → Type 0 = λ x. StandsAt f (at + 4 * 0) x in
    let P : ℕ → Type 0 = λ a. StandsAt f a i in
    subst Q same (subst P place h.0)
stands_at f at (i ∷ code) (suc k) inst h e =
    let place : at + 4 + 4 * k ≡ at + 4 * suc k = omega arith in
    let P : ℕ → Type 0 = λ a. StandsAt f a inst in
    subst P place (stands_at f (at + 4) code k inst h.1 e)
