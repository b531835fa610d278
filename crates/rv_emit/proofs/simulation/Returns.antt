-- Returns, and a step of mid code whichever it is.
use Rattle.std.proofs.Common.{◌≡◌, ℕ, ◌+◌, ◌*◌, ◌^◌, ◌<◌, ◌≤◌, Bool, true, false, ◌⊎◌, inl, inr, List, [], ◌∷◌, ◌++◌, length, arith, ap, ◌∙◌, sym, subst, refl, lit<, lit≤}
use Rattle.std.specs.Prelude.{pos, ◌==◌, nat_lt, Some, slice_get}
use Rattle.std.specs.Int.{w64, to_le_bytes, from_le_bytes}
use Rattle.std.proofs.Math.Nat.{mod-eq_of_lt}
use Rattle.std.proofs.lemmas.Nat.{from_le_bytes-to_le_bytes_8}
use Rattle.std.proofs.lemmas.Bool.Decides.{nat_tests}
use Rattle.rv_table.specs.Bytes.{run, written}
use Rattle.rv_table.specs.Words.{plus}
use Rattle.rv_table.specs.declared.inst.Inst.{Inst}
use Rattle.rv_table.specs.declared.inst.Inst.TheVariants.{Jalr, Addi, Add as Sum, Ecall}
use Rattle.odc_mid.specs.declared.tree.MidStep.{MidStep}
use Rattle.odc_mid.specs.declared.tree.MidStep.TheVariants.{Const, Address, Move, Unary, Binary, Compare, Load, Store, Jump, Branch, Call, CallValue, Return, Check as CheckStep, System}
use Rattle.odc_mid.specs.Tree.{Proc, Whole}
use Rattle.odc_mid.specs.Run.{Activation, Caller, Config, set as set_temp}
use Rattle.rv_emit.specs.Code.{slot, load_slot, number_code}
use Rattle.rv_emit.proofs.Flat.{Setting, Flat, reg, set, Stands, stands_parts, Reaches}
use Rattle.rv_emit.proofs.Steps.{putting, storing_word, adds, jumps}
use Rattle.rv_emit.proofs.Numbers.{number_sim, store_slot_sim}
use Rattle.rv_emit.proofs.simulation.Ties.{Built, outer_of, base_of, place_of, frame_facts, frame_small, Tied}
use Rattle.rv_emit.proofs.simulation.Sims.{stands_long, Sim, joined, Here, here_step, temp_sim, temp_small}
use Rattle.odc_mid.specs.Run.{world_of}
use Rattle.rv_emit.specs.Code.{text_start}
use Rattle.rv_table.specs.declared.inst.Inst.TheVariants.{Ld}
use Rattle.rv_table.proofs.Bytes.{run_apart, written_out}
use Rattle.odc_core.specs.Frames.{in_variables}
use Rattle.rv_emit.proofs.Steps.{loads_word, sums}
use Rattle.rv_emit.proofs.Flat.{has_stack_read}
use Rattle.rv_emit.proofs.Words.{word_bytes}
use Rattle.rv_emit.proofs.simulation.Ties.{Waits, Waiting, waiting_kept, written_bytes, slots_quiet}
use Rattle.rv_emit.proofs.simulation.Jumps.{jump_target}
use Rattle.odc_mid.specs.Run.{returns}
use Rattle.rv_emit.specs.Code.{text_start}
use Rattle.rv_emit.specs.Layout.{HasSlots}
use Rattle.rv_emit.proofs.Flat.{exits}
use Rattle.rv_emit.proofs.simulation.Ties.{held_set}
use Rattle.odc_mid.specs.Run.{world_of}
use Rattle.std.specs.Prelude.{◌||◌}
use Rattle.odc_mid.specs.Run.{carried}
use Rattle.rv_emit.proofs.simulation.Sims.{const_sim, move_sim, unary_sim, binary_sim, compare_sim, load_sim, store_sim}
use Rattle.rv_emit.proofs.simulation.Jumps.{goto_sim, branch_sim, check_sim, address_sim}
use Rattle.rv_emit.proofs.simulation.Services.{system_sim}
use Rattle.rv_emit.proofs.simulation.Enters.{call_sim}
use Rattle.rv_emit.proofs.simulation.Values.{value_sim}

no_truth : true ≡ false → ⊥
no_truth q = cc

module _ (m : Setting) (w : Whole) (b : Built m w) where
  -- ---- returns

  pub record Returned (place : ℕ) (a : Flat) (v base back : ℕ) : Type 0 where
    pub regs : ℕ → ℕ
    pub reaches : Reaches m place a 13 back (record a { regs = regs })
    pub answer : regs 10 ≡ v
    pub sp : regs 2 ≡ base

  -- to the return address, with the word in register 10
  return_way : (c : Config) (place : ℕ) (a : Flat) (t : Tied m w b c place a) (u : ℕ) → slice_get c.here.steps c.here.next ≡ Some (Return u) → Returned place a (c.here.temps u) (base_of c.callers) t.back
  return_way c place a t u e =
      let s : MidStep = Return u in
      let x : Here m w b c place a t s = here_step m w b c place a t s e in
      let F : ℕ = t.p.frame in
      let low : ℕ = c.here.low in
      let end : ℕ = place_of m w b t.f t.p (c.here.next + 1) in
      let tail : List Inst = Sum 2 2 6 ∷ Jalr 0 1 (pos 0) ∷ [] in
      let q = stands_parts m.code place (load_slot F 10 u) (Ld 1 2 (pos 0) ∷ (number_code 6 F ++ tail)) end x.has.code in
      let r = stands_parts m.code (q.0 + 4) (number_code 6 F) tail end q.2.1 in
      let k : ℕ = r.0 in
      let slots : HasSlots t.p = (b.procs t.f t.p t.act.found).slots in
      let fits : F ≤ 2 ^ 24 = frame_small m w b t.f t.p t.act.found in
      let b0 : Flat = putting a 10 (c.here.temps u) in
      let b1 : Flat = putting b0 1 t.back in
      let b2 : Flat = putting b1 6 F in
      let b3 : Flat = putting b2 2 (low + F) in
      let b4 : Flat = putting b3 0 (k + 4 + 4) in
      let one : Reaches m place a 6 q.0 b0 = temp_sim m w b c place a t place q.0 a.regs 10 u q.1 refl (lit< tt) (lit< tt) refl x.well.ready.0 in
      let word_is : from_le_bytes w64 (run a.mem low 8) ≡ t.back = ap (from_le_bytes w64) t.saved ∙ from_le_bytes-to_le_bytes_8 t.back (omega (arith, t.return.small)) in
      let two : Reaches m q.0 b0 1 (q.0 + 4) b1 =
      loads_word m q.0 b0 1 2 low t.back q.2.0 (lit< tt) (lit< tt) t.sp word_is (omega (arith, t.act.high, t.act.top))
      (has_stack_read (4 * length m.code) m.store_size low 8 t.act.bottom (omega (arith, t.act.high, t.act.top, slots))) in
      let three : Reaches m (q.0 + 4) b1 4 k b2 = number_sim m (q.0 + 4) k b1 6 F r.1 (lit< tt) (lit< tt) (omega (arith, fits)) in
      let sum : plus (reg b2.regs 2) (reg b2.regs 6) ≡ low + F = ap (λ (y : ℕ). plus y F) t.sp ∙ mod-eq_of_lt (omega (arith, t.act.high, t.act.top)) in
      let four : Reaches m k b2 1 (k + 4) b3 = sums m k b2 2 2 6 (low + F) r.2.0 (lit< tt) (lit< tt) (lit< tt) sum in
      let five : Reaches m (k + 4) b3 1 t.back b4 = jumps m (k + 4) b3 0 1 (pos 0) t.back r.2.1.0 refl (lit< tt) (lit< tt) (jump_target t.back t.return.small t.return.even) t.return.even in
      let s2 : Reaches m place a 7 (q.0 + 4) b1 = joined m w b one two in
      let s3 : Reaches m place a 11 k b2 = joined m w b s2 three in
      let s4 : Reaches m place a 12 (k + 4) b3 = joined m w b s3 four in
      record { regs = b4.regs; reaches = joined m w b s4 five; answer = refl; sp = t.act.high }

  -- the tie of a caller that has its answer
  answered : (c : Config) (place : ℕ) (a : Flat) (t : Tied m w b c place a) (caller : Caller) (cs : List Caller) (v : ℕ) (f : ℕ) (p : Proc) (back : ℕ) → Waits m w b a.mem caller cs f p t.back back →
      Waiting m w b a.mem cs back → ((x : ℕ) → caller.activation.touched x ≡ true → c.here.touched x ≡ true) → v < 2 ^ 64 → (h : ℕ → ℕ) → h 2 ≡ caller.activation.low →
      Tied m w b (record c { here = record caller.activation { temps = set_temp caller.to v caller.activation.temps }; callers = cs }) (place_of m w b f p caller.activation.next)
      (record a { regs = h; mem = written a.mem (caller.activation.low + slot p.frame caller.to) (to_le_bytes w64 v) })
  answered c place a t caller cs v f p back x rest more fits h sp =
      let act : Activation = caller.activation in
      let to : ℕ = caller.to in
      let g : ℕ → ℕ = a.mem in
      let outer : ℕ → Bool = outer_of w.store_size cs in
      let base : ℕ = base_of cs in
      let facts = frame_facts m w b f p x.act.found to x.to in
      let at : ℕ = act.low + slot p.frame to in
      let k : ℕ → ℕ = written g at (to_le_bytes w64 v) in
      let off : (y : ℕ) → (y < at) ⊎ (at + 8 ≤ y) → k y ≡ g y = λ y o. written_out g at (to_le_bytes w64 v) y o in
      let quiet : (y : ℕ) → at ≤ y → y < at + 8 → act.touched y ≡ false =
      λ y l u. slots_quiet m w b act outer base f p x.act y (omega (arith, facts.0)) (omega (arith, facts.1.0, x.act.high)) in
      record {
        f = f;
        p = p;
        back = back;
        act = record {
          found = x.act.found;
          steps = x.act.steps;
          variables = x.act.variables;
          high = x.act.high;
          bottom = x.act.bottom;
          top = x.act.top;
          touched = x.act.touched;
          above = x.act.above;
          region = x.act.region;
        };
        at = refl;
        sp = sp;
        held = λ u kn. held_set m w b g act.low f p x.act.found to v act.temps x.to fits u (λ other.
            elim (x.held u kn) [
              | inl same ↦ (let self : (u == to) ≡ true = grind (arith, nat_tests, same) in absurd (no_truth (sym self ∙ other)))
              | inr old ↦ old
            ]);
        saved = run_apart g at (to_le_bytes w64 v) act.low 8 (inl (omega (arith, facts.1.1))) ∙ x.saved;
        return = x.return;
        waiting = waiting_kept m w b g k cs back (λ y l o. off y (inr (omega (arith, l, facts.1.0, x.act.high)))) rest;
        shows = λ y u may told. by_place y u may told (nat_lt y at) (nat_lt y (at + 8)) refl refl off quiet;
        bytes = λ y. written_bytes m w b g at (to_le_bytes w64 v) y (word_bytes v) t.bytes;
        log = t.log;
        input = t.input;
        taken = t.taken;
        given = t.given;
      }
    where
      by_place : (y u : ℕ) → caller.activation.touched y ≡ true → c.memory y ≡ Some u → (i j : Bool) → nat_lt y (caller.activation.low + slot p.frame caller.to) ≡ i →
          nat_lt y (caller.activation.low + slot p.frame caller.to + 8) ≡ j →
          ((y : ℕ) → (y < caller.activation.low + slot p.frame caller.to) ⊎ (caller.activation.low + slot p.frame caller.to + 8 ≤ y) →
          written a.mem (caller.activation.low + slot p.frame caller.to) (to_le_bytes w64 v) y ≡ a.mem y) →
          ((y : ℕ) → caller.activation.low + slot p.frame caller.to ≤ y → y < caller.activation.low + slot p.frame caller.to + 8 → caller.activation.touched y ≡ false) →
          written a.mem (caller.activation.low + slot p.frame caller.to) (to_le_bytes w64 v) y ≡ u
      by_place y u may told true j d q off quiet =
          let l : y < caller.activation.low + slot p.frame caller.to = grind (arith, nat_tests) in off y (inl l) ∙ t.shows y u (more y may) told
      by_place y u may told false false d q off quiet =
          let l : caller.activation.low + slot p.frame caller.to + 8 ≤ y = grind (arith, nat_tests) in off y (inr l) ∙ t.shows y u (more y may) told
      by_place y u may told false true d q off quiet =
          let l : caller.activation.low + slot p.frame caller.to ≤ y = grind (arith, nat_tests) in
          let r : y < caller.activation.low + slot p.frame caller.to + 8 = grind (arith, nat_tests) in
          absurd (no_truth (sym may ∙ quiet y l r))

  return_to : (c : Config) (place : ℕ) (a : Flat) (t : Tied m w b c place a) (v : ℕ) → v < 2 ^ 64 → (cs : List Caller) → c.callers ≡ cs → Waiting m w b a.mem cs t.back →
      ((x : ℕ) → outer_of w.store_size cs x ≡ true → c.here.touched x ≡ true) → Returned place a v (base_of cs) t.back → Sim m w b 32 place a (returns v cs c)
  return_to c place a t v fits [] is wait more way =
      let tail : List Inst = Addi 10 0 (pos 0) ∷ Addi 17 0 (pos 93) ∷ Ecall ∷ [] in
      let q = stands_parts m.code (text_start + 4 + 4) (number_code 6 (m.entries w.main)) (Jalr 1 6 (pos 0) ∷ tail) (text_start + 40) b.start.1.1 in
      let far : q.0 ≡ text_start + 4 + 4 + 4 * 4 = stands_long m.code (text_start + 4 + 4) (number_code 6 (m.entries w.main)) q.0 q.1 in
      let there : q.0 + 4 ≡ t.back = omega (arith, far, wait) in
      let C : ℕ → Type 0 = λ k. Stands m.code k tail (text_start + 40) in
      let code : Stands m.code t.back tail (text_start + 40) = subst C there q.2.1 in
      let b0 : Flat = record a { regs = way.regs } in
      let b1 : Flat = putting b0 10 0 in
      let b2 : Flat = putting b1 17 93 in
      let one : Reaches m t.back b0 1 (t.back + 4) b1 = adds m t.back b0 10 0 (pos 0) 0 code.0 (lit< tt) (lit< tt) refl in
      let two : Reaches m (t.back + 4) b1 1 (t.back + 4 + 4) b2 = adds m (t.back + 4) b1 17 0 (pos 93) 93 code.1.0 (lit< tt) (lit< tt) refl in
      let s1 : Reaches m place a 14 (t.back + 4) b1 = joined m w b way.reaches one in
      record {
        by = record {
          to = t.back + 4 + 4;
          flat = b2;
          steps = 15;
          few = lit≤ tt;
          reaches = joined m w b s1 two;
          ends = exits m (t.back + 4 + 4) b2 code.1.1.0 refl;
          log = t.log;
          taken = t.taken;
        };
      }
  return_to c place a t v fits (caller ∷ cs) is wait more way =
      let f : ℕ = wait.0 in
      let p : Proc = wait.1.0 in
      let back : ℕ = wait.1.1.0 in
      let x : Waits m w b a.mem caller cs f p t.back back = wait.1.1.1.0 in
      let at : ℕ = caller.activation.low + slot p.frame caller.to in
      let facts = frame_facts m w b f p x.act.found caller.to x.to in
      let fits_frame : p.frame ≤ 2 ^ 24 = frame_small m w b f p x.act.found in
      let b0 : Flat = record a { regs = way.regs } in
      let one : Reaches m t.back b0 6 (place_of m w b f p caller.activation.next) (storing_word (putting b0 7 at) at v) =
      store_slot_sim m t.back (place_of m w b f p caller.activation.next) b0 p.frame 10 caller.to caller.activation.low v x.code refl (lit< tt) way.sp (omega (arith, fits_frame)) x.act.bottom
      (omega (arith, facts.1.0, x.act.high, x.act.top)) way.answer in
      record {
        by = record {
          to = place_of m w b f p caller.activation.next;
          flat = record a { regs = set way.regs 7 at; mem = written a.mem at (to_le_bytes w64 v) };
          steps = 19;
          some = lit< tt;
          few = lit≤ tt;
          reaches = joined m w b way.reaches one;
          tied = answered c place a t caller cs v f p back x wait.1.1.1.1 more fits (set way.regs 7 at) way.sp;
        };
      }

  return_sim : (c : Config) (place : ℕ) (a : Flat) (t : Tied m w b c place a) (u : ℕ) → slice_get c.here.steps c.here.next ≡ Some (Return u) → Sim m w b 32 place a (returns (c.here.temps u) c.callers c)
  return_sim c place a t u e =
      let x : Here m w b c place a t (Return u) = here_step m w b c place a t (Return u) e in
      return_to c place a t (c.here.temps u) (temp_small m w b c place a t u x.well.ready.0) c.callers refl t.waiting
      (λ y may. t.act.touched y ∙ or_true (in_variables c.here.low t.p.variables y) (outer_of w.store_size c.callers y) may) (return_way c place a t u e)
    where
      or_true : (i j : Bool) → j ≡ true → (i || j) ≡ true
      or_true true j h = refl
      or_true false j h = h

  -- ---- any step

  -- the bound of a step
  abbrev pub bound_of : MidStep → ℕ
  bound_of (Call to f arguments) = 32 + 14 * length arguments.items
  bound_of (CallValue to target arguments marked) = 32 + 14 * length arguments.items
  bound_of _ = 32

  pub carried_sim : (c : Config) (place : ℕ) (a : Flat) (t : Tied m w b c place a) (s : MidStep) → slice_get c.here.steps c.here.next ≡ Some s → Sim m w b (bound_of s) place a (carried (world_of m.entries w) s c)
  carried_sim c place a t (Const to v) e = const_sim m w b c place a t to v e
  carried_sim c place a t (Address to of) e = address_sim m w b c place a t to of e
  carried_sim c place a t (Move to u) e = move_sim m w b c place a t to u e
  carried_sim c place a t (Unary to op u) e = unary_sim m w b c place a t to op u e
  carried_sim c place a t (Binary to op u v) e = binary_sim m w b c place a t to op u v e
  carried_sim c place a t (Compare to op u v) e = compare_sim m w b c place a t to op u v e
  carried_sim c place a t (Load to width u) e = load_sim m w b c place a t to width u e
  carried_sim c place a t (Store width u v) e = store_sim m w b c place a t width u v e
  carried_sim c place a t (Jump label) e = goto_sim m w b c place a t label e
  carried_sim c place a t (Branch u label) e = branch_sim m w b c place a t u label e
  carried_sim c place a t (Call to f arguments) e = call_sim m w b c place a t to f arguments e
  carried_sim c place a t (CallValue to target arguments marked) e = value_sim m w b c place a t to target arguments marked e
  carried_sim c place a t (Return u) e = return_sim c place a t u e
  carried_sim c place a t (CheckStep u which source) e = check_sim m w b c place a t u which source e
  carried_sim c place a t (System asked) e = system_sim m w b c place a t asked e
