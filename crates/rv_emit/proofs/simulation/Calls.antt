-- Calls: the arguments go below the frame, and the callee takes its frame and keeps the return address.
use Rattle.std.proofs.Common.{◌≡◌, ℕ, zero, suc, ◌+◌, ◌-◌, ◌*◌, ◌%◌, ◌^◌, ◌<◌, ◌≤◌, Bool, true, false, ◌⊎◌, inl, inr, List, [], ◌∷◌, ◌++◌, length, map, arith, ap, ◌∙◌, sym, subst, refl, lit<, lit≤}
use Rattle.std.specs.Prelude.{pos, negsuc, not, nat_lt, Some, slice_get, slice_index, if◌then◌else◌}
use Rattle.std.specs.Int.{w64, to_le_bytes, from_le_bytes}
use Rattle.std.proofs.Math.Nat.{add-zero}
use Rattle.std.proofs.lemmas.Nat.{from_le_bytes-to_le_bytes_8}
use Rattle.std.proofs.lemmas.Bool.Decides.{nat_tests}
use Rattle.odc_text.specs.Run.{checked}
use Rattle.odc_text.specs.declared.place.Place.{Place}
use Rattle.rv_table.specs.Bytes.{run, written}
use Rattle.rv_table.specs.State.{address_from}
use Rattle.rv_table.specs.Words.{minus}
use Rattle.rv_table.specs.declared.inst.Inst.{Inst}
use Rattle.rv_table.specs.declared.inst.Inst.TheVariants.{Addi, Sub, Slli}
use Rattle.rv_table.specs.declared.effect.Effect.TheVariants.{Put}
use Rattle.odc_mid.specs.Tree.{Whole}
use Rattle.odc_mid.specs.Run.{Config}
use Rattle.rv_emit.specs.Code.{slot, load_slot, number_code, break_code}
use Rattle.rv_emit.proofs.Flat.{Setting, Flat, reg, Stands, stands_parts, Reaches, stays, Ends, puts}
use Rattle.rv_emit.proofs.Steps.{putting, storing_word, plus_small, adds, shifts}
use Rattle.rv_emit.proofs.Numbers.{number_sim, load_slot_sim}
use Rattle.rv_emit.proofs.simulation.Ties.{Built, frame_facts, frame_small, known_in, Tied}
use Rattle.rv_emit.proofs.simulation.Sims.{stands_long, joined}
use Rattle.odc_text.specs.declared.check.Check.TheVariants.{Stack as StackCheck}
use Rattle.std.proofs.Math.Nat.{le_refl}
use Rattle.rv_table.specs.declared.inst.Inst.TheVariants.{Bgeu, Sd}
use Rattle.rv_table.proofs.Bytes.{run_same, run_written, written_out}
use Rattle.odc_core.specs.Frames.{stack_low, has_room}
use Rattle.odc_mid.specs.Well.{AreKnown}
use Rattle.rv_emit.specs.Code.{guard_code, arguments_code, pass_code, enter_code}
use Rattle.rv_emit.proofs.Steps.{branches_geu, stores_word}
use Rattle.rv_emit.proofs.Flat.{has_stack_write}
use Rattle.rv_emit.proofs.Words.{word_bytes}
use Rattle.rv_emit.proofs.simulation.Ties.{written_bytes}
use Rattle.rv_emit.proofs.simulation.Jumps.{in_text, InText, Broken, break_sim}

-- eight less
eight_less : (t : ℕ) → 8 ≤ t → t < 2 ^ 63 → address_from t (negsuc 7) ≡ t - 8
eight_less t low high =
    let whole : t + (2 ^ 64 - 8) ≡ t - 8 + 2 ^ 64 = omega arith in
    ap (λ (n : ℕ). n % 2 ^ 64) whole ∙ omega arith

-- the registers that the code between a step's loads and its jump leaves alone
pub record Kept (g h : ℕ → ℕ) : Type 0 where
  pub two : h 2 ≡ g 2
  pub five : h 5 ≡ g 5
  pub nine : h 9 ≡ g 9
  pub ten : h 10 ≡ g 10
  pub eleven : h 11 ≡ g 11
  pub twelve : h 12 ≡ g 12
  pub thirteen : h 13 ≡ g 13
  pub fourteen : h 14 ≡ g 14
  pub fifteen : h 15 ≡ g 15

pub kept_on : (f g h : ℕ → ℕ) → Kept f g → Kept g h → Kept f h
kept_on f g h p q = record {
  two = q.two ∙ p.two;
  five = q.five ∙ p.five;
  nine = q.nine ∙ p.nine;
  ten = q.ten ∙ p.ten;
  eleven = q.eleven ∙ p.eleven;
  twelve = q.twelve ∙ p.twelve;
  thirteen = q.thirteen ∙ p.thirteen;
  fourteen = q.fourteen ∙ p.fourteen;
  fifteen = q.fifteen ∙ p.fifteen;
}

module _ (m : Setting) (w : Whole) (b : Built m w) where
  -- ---- where the arguments go

  pub record Guarded (q end : ℕ) (a : Flat) (n low : ℕ) : Type 0 where
    pub steps : ℕ
    pub few : steps ≤ 13
    pub base : ℕ
    pub regs : ℕ → ℕ
    pub reaches : Reaches m q a steps end (record a { regs = regs })
    pub kept : Kept a.regs regs
    pub is : regs 8 ≡ base
    pub top : base ≤ 2 ^ 31
    pub bottom : 0x7800_0000 + 8 * n ≤ base
    pub room : 0x7800_0000 + 8 * n ≤ low → base ≡ low

  guard_sim : (q end : ℕ) (a : Flat) (n low : ℕ) → Stands m.code q (guard_code n) end → a.regs 2 ≡ low → 0x7800_0000 ≤ low → low ≤ 2 ^ 31 → 8 * n ≤ 2 ^ 24 → Guarded q end a n low
  guard_sim q end a n low stands sp bottom top few =
      let tail : List Inst = Addi 8 2 (pos 0) ∷ Bgeu 6 7 (pos 12) ∷ Addi 8 0 (pos 1) ∷ Slli 8 8 31 ∷ [] in
      let r = stands_parts m.code q (number_code 6 (8 * n)) (Sub 6 2 6 ∷ (number_code 7 stack_low ++ tail)) end stands in
      let r' = stands_parts m.code (r.0 + 4) (number_code 7 stack_low) tail end r.2.1 in
      let p : ℕ = r'.0 in
      let b0 : Flat = putting a 6 (8 * n) in
      let b1 : Flat = putting b0 6 (low - 8 * n) in
      let b2 : Flat = putting b1 7 stack_low in
      let b3 : Flat = putting b2 8 low in
      let one : Reaches m q a 4 r.0 b0 = number_sim m q r.0 a 6 (8 * n) r.1 (lit< tt) (lit< tt) (omega arith) in
      let less : minus low (8 * n) ≡ low - 8 * n = (let whole : low + (2 ^ 64 - 8 * n) ≡ low - 8 * n + 2 ^ 64 = omega arith in ap (λ (k : ℕ). k % 2 ^ 64) whole ∙ omega arith) in
      let two : Reaches m r.0 b0 1 (r.0 + 4) b1 =
      puts m r.0 b0 (Sub 6 2 6) 6 (low - 8 * n) r.2.0 refl (lit< tt) (λ s g.
      ap (λ (x : ℕ). Put 6 (minus x (slice_index s.registers 6))) (g.each 2 (lit< tt) ∙ sp) ∙ ap (λ (y : ℕ). Put 6 (minus low y)) (g.each 6 (lit< tt)) ∙ ap (Put 6) less) in
      let three : Reaches m (r.0 + 4) b1 4 p b2 = number_sim m (r.0 + 4) p b1 7 stack_low r'.1 (lit< tt) (lit< tt) (lit< tt) in
      let four : Reaches m p b2 1 (p + 4) b3 =
      adds m p b2 8 2 (pos 0) low r'.2.0 (lit< tt) (lit< tt) (ap (λ (x : ℕ). address_from x (pos 0)) sp ∙ plus_small low 0 (omega arith) ∙ add-zero low) in
      let front : Reaches m q a 10 (p + 4) b3 = joined m w b (joined m w b (joined m w b one two) three) four in
      let text : InText m w b (p + 4) = in_text m w b (p + 4) (Bgeu 6 7 (pos 12)) r'.2.1.0 in
      let end_is : end ≡ p + 4 + 4 + 4 + 4 = sym r'.2.1.1.1.1 in
      let target : address_from (p + 4) (pos 12) ≡ end = plus_small (p + 4) 12 (omega (arith, text.small)) ∙ omega (arith, end_is) in
      let branch : Reaches m (p + 4) b3 1 (if not (nat_lt (low - 8 * n) stack_low) then end else p + 4 + 4) b3 =
      branches_geu m (p + 4) b3 6 7 (pos 12) end (not (nat_lt (low - 8 * n) stack_low)) r'.2.1.0 (lit< tt) (lit< tt) target (omega (arith, end_is, text.even)) refl in
      let b4 : Flat = putting b3 8 1 in
      let b5 : Flat = putting b4 8 (2 ^ 31) in
      let last : Reaches m (p + 4 + 4) b3 2 (p + 4 + 4 + 4 + 4) b5 =
      joined m w b (adds m (p + 4 + 4) b3 8 0 (pos 1) 1 r'.2.1.1.0 (lit< tt) (lit< tt) refl) (shifts m (p + 4 + 4 + 4) b4 8 8 31 (2 ^ 31) r'.2.1.1.1.0 (lit< tt) (lit< tt) refl) in
      let E : ℕ → Type 0 = λ k. Reaches m (p + 4 + 4) b3 2 k b5 in
      by (p + 4) b3.regs b5.regs (nat_lt (low - 8 * n) stack_low) refl branch front (subst E r'.2.1.1.1.1 last) refl refl
      (record { two = refl; five = refl; nine = refl; ten = refl; eleven = refl; twelve = refl; thirteen = refl; fourteen = refl; fifteen = refl })
      (record { two = refl; five = refl; nine = refl; ten = refl; eleven = refl; twelve = refl; thirteen = refl; fourteen = refl; fifteen = refl })
    where
      by : (k : ℕ) (g3 g5 : ℕ → ℕ) (z : Bool) → nat_lt (low - 8 * n) stack_low ≡ z → Reaches m k (record a { regs = g3 }) 1 (if not z then end else k + 4) (record a { regs = g3 }) →
          Reaches m q a 10 k (record a { regs = g3 }) → Reaches m (k + 4) (record a { regs = g3 }) 2 end (record a { regs = g5 }) → g3 8 ≡ low → g5 8 ≡ 2 ^ 31 → Kept a.regs g3 → Kept a.regs g5 → Guarded q end a n low
      by k g3 g5 true e branch front last is is' kept kept' =
          let none : low < 0x7800_0000 + 8 * n = (let l : low - 8 * n < 0x7800_0000 = grind (arith, nat_tests) in omega arith) in
          record {
            steps = 13;
            few = lit≤ tt;
            base = 2 ^ 31;
            regs = g5;
            reaches = joined m w b (joined m w b front branch) last;
            kept = kept';
            is = is';
            top = omega arith;
            bottom = omega arith;
            room = λ l. absurd (omega (arith, none, l));
          }
      by k g3 g5 false e branch front last is is' kept kept' =
          let some : 0x7800_0000 + 8 * n ≤ low = (let l : 0x7800_0000 ≤ low - 8 * n = grind (arith, nat_tests) in omega arith) in
          record {
            steps = 11;
            few = lit≤ tt;
            base = low;
            regs = g3;
            reaches = joined m w b front branch;
            kept = kept;
            is = is;
            top = top;
            bottom = some;
            room = λ l. refl;
          }

  -- ---- the arguments

  -- flat memory g with the words of these temporaries downwards from a place
  pub record Passed (q end : ℕ) (c : Config) (a : Flat) (h g : ℕ → ℕ) (base at : ℕ) (ts : List ℕ) : Type 0 where
    pub regs : ℕ → ℕ
    pub mem : ℕ → ℕ
    pub reaches : Reaches m q (record a { regs = h; mem = g }) (8 * length ts) end (record a { regs = regs; mem = mem })
    pub kept : Kept h regs
    pub bytes : (x : ℕ) → mem x < 256
    pub outside : (x : ℕ) → at ≤ x → mem x ≡ g x
    pub below : (x : ℕ) → x < at - 8 * length ts → mem x ≡ g x
    pub held : base ≤ c.here.low → (k v : ℕ) → slice_get (map c.here.temps ts) k ≡ Some v → run mem (at - 8 * (k + 1)) 8 ≡ to_le_bytes w64 v

  slot_known : (c : Config) (place : ℕ) (a : Flat) (t : Tied m w b c place a) (u : ℕ) → known_in m w b t.f t.p t.act.found c.here.next u ≡ true → c.here.low + slot t.p.frame u + 8 ≤ 2 ^ 31
  slot_known c place a t u known =
      let facts = frame_facts m w b t.f t.p t.act.found u (t.held u known).below in
      omega (arith, facts.1.0, t.act.high, t.act.top)

  arguments_sim : (c : Config) (place : ℕ) (a : Flat) (t : Tied m w b c place a) (ts : List ℕ) (q end : ℕ) (h g : ℕ → ℕ) (base at : ℕ) → at ≤ base → Stands m.code q (arguments_code t.p.frame ts) end →
      AreKnown (known_in m w b t.f t.p t.act.found) c.here.next ts → h 2 ≡ c.here.low → h 8 ≡ at → 0x7800_0000 + 8 * length ts ≤ at → at ≤ 2 ^ 31 → ((x : ℕ) → g x < 256) →
      (base ≤ c.here.low → (x : ℕ) → c.here.low ≤ x → g x ≡ a.mem x) → Passed q end c a h g base at ts
  arguments_sim c place a t [] q end h g base at within stands known sp is bottom top bytes same = record {
    regs = h;
    mem = g;
    reaches = (let P : ℕ → Type 0 = λ e. Reaches m q (record a { regs = h; mem = g }) 0 e (record a { regs = h; mem = g }) in subst P stands (stays m q (record a { regs = h; mem = g })));
    kept = record { two = refl; five = refl; nine = refl; ten = refl; eleven = refl; twelve = refl; thirteen = refl; fourteen = refl; fifteen = refl };
    bytes = bytes;
    outside = λ x o. refl;
    below = λ x o. refl;
    held = λ l k v e. cc;
  }
  arguments_sim c place a t (u ∷ ts) q end h g base at within stands known sp is bottom top bytes same =
      let frame : ℕ = t.p.frame in
      let low : ℕ = c.here.low in
      let rest_code : List Inst = arguments_code frame ts in
      let r = stands_parts m.code q (load_slot frame 6 u) (Addi 8 8 (negsuc 7) ∷ Sd 8 6 (pos 0) ∷ rest_code) end stands in
      let slot_at : ℕ = low + slot frame u in
      let v : ℕ = from_le_bytes w64 (run g slot_at 8) in
      let b0 : Flat = record a { regs = h; mem = g } in
      let b1 : Flat = putting b0 6 v in
      let b2 : Flat = putting b1 8 (at - 8) in
      let next : ℕ → ℕ = written g (at - 8) (to_le_bytes w64 v) in
      let fits : frame < 2 ^ 31 = (let small : frame ≤ 2 ^ 24 = frame_small m w b t.f t.p t.act.found in omega (arith, small)) in
      let one : Reaches m q b0 6 r.0 b1 = load_slot_sim m q r.0 b0 frame 6 u low v r.1 refl (lit< tt) (lit< tt) sp fits t.act.bottom (slot_known c place a t u known.0) refl in
      let two : Reaches m r.0 b1 1 (r.0 + 4) b2 =
      adds m r.0 b1 8 8 (negsuc 7) (at - 8) r.2.0 (lit< tt) (lit< tt) (ap (λ (x : ℕ). address_from x (negsuc 7)) is ∙ eight_less at (omega (arith, bottom)) (omega (arith, top))) in
      let three : Reaches m (r.0 + 4) b2 1 (r.0 + 4 + 4) (record b2 { mem = next }) =
      stores_word m (r.0 + 4) b2 8 6 (at - 8) v r.2.1.0 (lit< tt) (lit< tt) refl refl (omega (arith, top)) (has_stack_write (4 * length m.code) m.store_size (at - 8) 8 (omega (arith, bottom)) (omega (arith, top, bottom))) in
      let off : (x : ℕ) → (x < at - 8) ⊎ (at ≤ x) → next x ≡ g x =
      λ x o. written_out g (at - 8) (to_le_bytes w64 v) x (elim o [ inl l ↦ inl l | inr l ↦ inr (omega (arith, bottom)) ]) in
      let rest : Passed (r.0 + 4 + 4) end c a b2.regs next base (at - 8) ts =
      arguments_sim c place a t ts (r.0 + 4 + 4) end b2.regs next base (at - 8) (omega (arith, within)) r.2.1.1 known.1 sp refl (omega (arith, bottom)) (omega (arith, top))
      (λ x. written_bytes m w b g (at - 8) (to_le_bytes w64 v) x (word_bytes v) bytes) (λ l x k. off x (inr (omega (arith, l, k, within))) ∙ same l x k) in
      let total : 8 + 8 * length ts ≡ 8 * suc (length ts) = omega arith in
      let S : ℕ → Type 0 = λ n. Reaches m q b0 n end (record a { regs = rest.regs; mem = rest.mem }) in
      record {
        regs = rest.regs;
        mem = rest.mem;
        reaches = subst S total (joined m w b (joined m w b (joined m w b one two) three) rest.reaches);
        kept = kept_on h b2.regs rest.regs (record { two = refl; five = refl; nine = refl; ten = refl; eleven = refl; twelve = refl; thirteen = refl; fourteen = refl; fifteen = refl }) rest.kept;
        bytes = rest.bytes;
        outside = λ x l. rest.outside x (omega (arith, l)) ∙ off x (inr l);
        below = λ x l. rest.below x (omega (arith, l)) ∙ off x (inl (omega (arith, l, bottom)));
        held = λ l k y e.
            let here : run g slot_at 8 ≡ to_le_bytes w64 (c.here.temps u) =
            run_same g a.mem slot_at 8 (λ i o n. same l i (omega (arith, o))) ∙ (t.held u known.0).is in
            let value : v ≡ c.here.temps u = ap (from_le_bytes w64) here ∙ from_le_bytes-to_le_bytes_8 (c.here.temps u) (t.held u known.0).small in
            let first : run rest.mem (at - 8) 8 ≡ to_le_bytes w64 (c.here.temps u) =
            run_same rest.mem next (at - 8) 8 (λ i o n. rest.outside i o) ∙ run_written g (at - 8) (to_le_bytes w64 v) ∙ ap (to_le_bytes w64) value in
            by rest.mem k y e first (λ j z f. rest.held l j z f);
      }
    where
      by : (mem : ℕ → ℕ) (k y : ℕ) → slice_get (c.here.temps u ∷ map c.here.temps ts) k ≡ Some y → run mem (at - 8) 8 ≡ to_le_bytes w64 (c.here.temps u) →
          ((j z : ℕ) → slice_get (map c.here.temps ts) j ≡ Some z → run mem (at - 8 - 8 * (j + 1)) 8 ≡ to_le_bytes w64 z) → run mem (at - 8 * (k + 1)) 8 ≡ to_le_bytes w64 y
      by mem zero y e first later =
          let same_word : c.here.temps u ≡ y = cc in
          let place_is : at - 8 * (0 + 1) ≡ at - 8 = omega arith in
          ap (λ (x : ℕ). run mem x 8) place_is ∙ first ∙ ap (to_le_bytes w64) same_word
      by mem (suc k) y e first later =
          let place_is : at - 8 * (suc k + 1) ≡ at - 8 - 8 * (k + 1) = omega arith in
          ap (λ (x : ℕ). run mem x 8) place_is ∙ later k y e

  -- both: from the flat configuration behind a step's loads, whose memory is the tied one's
  pub record Sent (q end : ℕ) (c : Config) (a : Flat) (h : ℕ → ℕ) (ts : List ℕ) : Type 0 where
    pub steps : ℕ
    pub few : steps ≤ 13 + 8 * length ts
    pub regs : ℕ → ℕ
    pub mem : ℕ → ℕ
    pub reaches : Reaches m q (record a { regs = h }) steps end (record a { regs = regs; mem = mem })
    pub kept : Kept h regs
    pub bytes : (x : ℕ) → mem x < 256
    pub above : 0x7800_0000 + 8 * length ts ≤ c.here.low → (x : ℕ) → c.here.low ≤ x → mem x ≡ a.mem x
    pub below : 0x7800_0000 + 8 * length ts ≤ c.here.low → (x : ℕ) → x < c.here.low - 8 * length ts → mem x ≡ a.mem x
    pub held : 0x7800_0000 + 8 * length ts ≤ c.here.low → (k v : ℕ) → slice_get (map c.here.temps ts) k ≡ Some v → run mem (c.here.low - 8 * (k + 1)) 8 ≡ to_le_bytes w64 v

  pub pass_sim : (c : Config) (place : ℕ) (a : Flat) (t : Tied m w b c place a) (ts : List ℕ) (q end : ℕ) (h : ℕ → ℕ) → Stands m.code q (pass_code t.p.frame ts) end →
      AreKnown (known_in m w b t.f t.p t.act.found) c.here.next ts → h 2 ≡ a.regs 2 → 8 * length ts ≤ 2 ^ 24 → Sent q end c a h ts
  pass_sim c place a t ts q end h stands known sp few =
      let r = stands_parts m.code q (guard_code (length ts)) (arguments_code t.p.frame ts) end stands in
      let low : c.here.low ≤ 2 ^ 31 = omega (arith, t.act.high, t.act.top) in
      let x : Guarded q r.0 (record a { regs = h }) (length ts) c.here.low = guard_sim q r.0 (record a { regs = h }) (length ts) c.here.low r.1 (sp ∙ t.sp) t.act.bottom low few in
      let y : Passed r.0 end c a x.regs a.mem x.base x.base ts =
      arguments_sim c place a t ts r.0 end x.regs a.mem x.base x.base (le_refl x.base) r.2 known (x.kept.two ∙ sp ∙ t.sp) x.is x.bottom x.top t.bytes (λ l z k. refl) in
      record {
        steps = x.steps + 8 * length ts;
        few = omega (arith, x.few);
        regs = y.regs;
        mem = y.mem;
        reaches = joined m w b x.reaches y.reaches;
        kept = kept_on h x.regs y.regs x.kept y.kept;
        bytes = y.bytes;
        above = λ room z l. y.outside z (omega (arith, x.room room, l));
        below = λ room z l. y.below z (omega (arith, x.room room, l));
        held = λ room k v e. ap (λ (n : ℕ). run y.mem (n - 8 * (k + 1)) 8) (sym (x.room room)) ∙ y.held (omega (arith, x.room room)) k v e;
      }

  -- ---- entering

  pub record Entered (at end : ℕ) (a : Flat) (low frame ret : ℕ) : Type 0 where
    pub regs : ℕ → ℕ
    pub reaches : Reaches m at a 11 end (record a { regs = regs; mem = written a.mem (low - frame) (to_le_bytes w64 ret) })
    pub sp : regs 2 ≡ low - frame

  pub enter_sim : (at end : ℕ) (a : Flat) (low frame ret site : ℕ) → Stands m.code at (enter_code frame site) end → a.regs 2 ≡ low → a.regs 1 ≡ ret → low ≤ 2 ^ 31 → frame ≤ 2 ^ 24 → 8 ≤ frame → has_room low frame ≡ true →
      Entered at end a low frame ret
  enter_sim at end a low frame ret site stands sp ra top small some room =
      let tail : List Inst = number_code 6 frame ++ (Sub 2 2 6 ∷ Sd 2 1 (pos 0) ∷ []) in
      let r = stands_parts m.code at (number_code 6 (stack_low + frame)) (Bgeu 2 6 (pos 28) ∷ (break_code StackCheck site ++ tail)) end stands in
      let p : ℕ = r.0 in
      let r' = stands_parts m.code (p + 4) (break_code StackCheck site) tail end r.2.1 in
      let r'' = stands_parts m.code r'.0 (number_code 6 frame) (Sub 2 2 6 ∷ Sd 2 1 (pos 0) ∷ []) end r'.2 in
      let k : ℕ = r''.0 in
      let roomy : 0x7800_0000 + frame ≤ low = grind (arith, nat_tests) in
      let b0 : Flat = putting a 6 (stack_low + frame) in
      let b1 : Flat = putting b0 6 frame in
      let b2 : Flat = putting b1 2 (low - frame) in
      let text : InText m w b p = in_text m w b p (Bgeu 2 6 (pos 28)) r.2.0 in
      let length_is : r'.0 ≡ p + 4 + 4 * length (break_code StackCheck site) = stands_long m.code (p + 4) (break_code StackCheck site) r'.0 r'.1 in
      let target : address_from p (pos 28) ≡ r'.0 = plus_small p 28 (omega (arith, text.small)) ∙ omega (arith, length_is) in
      let test : not (nat_lt (reg b0.regs 2) (stack_low + frame)) ≡ true = ap (λ (x : ℕ). not (nat_lt x (stack_low + frame))) sp ∙ grind (arith, nat_tests, roomy) in
      let one : Reaches m at a 4 p b0 = number_sim m at p a 6 (stack_low + frame) r.1 (lit< tt) (lit< tt) (omega arith) in
      let two : Reaches m p b0 1 r'.0 b0 = branches_geu m p b0 2 6 (pos 28) r'.0 true r.2.0 (lit< tt) (lit< tt) target (omega (arith, length_is, text.even)) test in
      let three : Reaches m r'.0 b0 4 k b1 = number_sim m r'.0 k b0 6 frame r''.1 (lit< tt) (lit< tt) (omega arith) in
      let less : minus low frame ≡ low - frame = (let whole : low + (2 ^ 64 - frame) ≡ low - frame + 2 ^ 64 = omega arith in ap (λ (x : ℕ). x % 2 ^ 64) whole ∙ omega arith) in
      let four : Reaches m k b1 1 (k + 4) b2 =
      puts m k b1 (Sub 2 2 6) 2 (low - frame) r''.2.0 refl (lit< tt) (λ s g.
      ap (λ (x : ℕ). Put 2 (minus x (slice_index s.registers 6))) (g.each 2 (lit< tt) ∙ sp) ∙ ap (λ (y : ℕ). Put 2 (minus low y)) (g.each 6 (lit< tt)) ∙ ap (Put 2) less) in
      let five : Reaches m (k + 4) b2 1 (k + 4 + 4) (storing_word b2 (low - frame) ret) =
      stores_word m (k + 4) b2 2 1 (low - frame) ret r''.2.1.0 (lit< tt) (lit< tt) refl ra (omega arith) (has_stack_write (4 * length m.code) m.store_size (low - frame) 8 (omega arith) (omega arith)) in
      let E : ℕ → Type 0 = λ e. Reaches m at a 11 e (storing_word b2 (low - frame) ret) in
      record {
        regs = b2.regs;
        reaches = subst E r''.2.1.1 (joined m w b (joined m w b (joined m w b (joined m w b one two) three) four) five);
        sp = refl;
      }

  pub record Refused (at : ℕ) (a : Flat) (source : Place) : Type 0 where
    pub to : ℕ
    pub regs : ℕ → ℕ
    pub reaches : Reaches m at a 10 to (record a { regs = regs })
    pub ends : Ends m to (record a { regs = regs }) (checked StackCheck source)

  pub refuse_sim : (at end : ℕ) (a : Flat) (low frame site : ℕ) (source : Place) → Stands m.code at (enter_code frame site) end → a.regs 2 ≡ low → frame ≤ 2 ^ 24 → site < 2 ^ 31 →
      slice_get m.sites site ≡ Some (StackCheck, source) → has_room low frame ≡ false → Refused at a source
  refuse_sim at end a low frame site source stands sp small few told room =
      let tail : List Inst = number_code 6 frame ++ (Sub 2 2 6 ∷ Sd 2 1 (pos 0) ∷ []) in
      let r = stands_parts m.code at (number_code 6 (stack_low + frame)) (Bgeu 2 6 (pos 28) ∷ (break_code StackCheck site ++ tail)) end stands in
      let p : ℕ = r.0 in
      let r' = stands_parts m.code (p + 4) (break_code StackCheck site) tail end r.2.1 in
      let scarce : low < 0x7800_0000 + frame = grind (arith, nat_tests) in
      let b0 : Flat = putting a 6 (stack_low + frame) in
      let text : InText m w b p = in_text m w b p (Bgeu 2 6 (pos 28)) r.2.0 in
      let length_is : r'.0 ≡ p + 4 + 4 * length (break_code StackCheck site) = stands_long m.code (p + 4) (break_code StackCheck site) r'.0 r'.1 in
      let target : address_from p (pos 28) ≡ r'.0 = plus_small p 28 (omega (arith, text.small)) ∙ omega (arith, length_is) in
      let test : not (nat_lt (reg b0.regs 2) (stack_low + frame)) ≡ false = ap (λ (x : ℕ). not (nat_lt x (stack_low + frame))) sp ∙ grind (arith, nat_tests, scarce) in
      let one : Reaches m at a 4 p b0 = number_sim m at p a 6 (stack_low + frame) r.1 (lit< tt) (lit< tt) (omega arith) in
      let two : Reaches m p b0 1 (p + 4) b0 = branches_geu m p b0 2 6 (pos 28) r'.0 false r.2.0 (lit< tt) (lit< tt) target (omega (arith, length_is, text.even)) test in
      let three : Broken m w b (p + 4) b0 StackCheck source = break_sim m w b (p + 4) r'.0 b0 StackCheck source site r'.1 few told in
      record { to = three.to; regs = three.regs; reaches = joined m w b (joined m w b one two) three.reaches; ends = three.ends }
