-- Each step of mid code but calls: its instructions do what it does.
use Rattle.std.proofs.Common.{◌≡◌, ℕ, suc, ◌+◌, ◌-◌, ◌*◌, ◌^◌, ◌<◌, ◌≤◌, Bool, true, false, List, [], ◌∷◌, ◌++◌, length, arith, ap, ◌∙◌, sym, subst, refl, lit<, lit≤}
use Rattle.std.specs.Prelude.{pos, negsuc, ◌==◌, nat_lt, Option, Some, None, option_map, slice_get, slice_index, if◌then◌else◌}
use Rattle.std.specs.Int.{w64, to_le_bytes, from_le_bytes}
use Rattle.std.proofs.Math.Nat.{add-zero}
use Rattle.std.proofs.lemmas.Nat.{from_le_bytes-to_le_bytes_8}
use Rattle.odc_text.specs.Run.{End, exited, checked, strayed, trapped, going}
use Rattle.odc_text.specs.Steps.{After, on, over}
use Rattle.rv_table.specs.Bytes.{run, written}
use Rattle.rv_table.specs.Areas.{has}
use Rattle.rv_table.specs.State.{State, address_from, effect_of, jumps_by_x5, load_size, store_bytes}
use Rattle.rv_table.specs.Words.{plus, minus, flag, shifted_left, shifted_signed}
use Rattle.rv_table.specs.declared.inst.Inst.{Inst}
use Rattle.rv_table.specs.declared.inst.Inst.TheVariants.{Sub, Slli, Srai, Slt, Sltu, Sltiu}
use Rattle.rv_table.specs.declared.effect.Effect.{Effect}
use Rattle.rv_table.specs.declared.effect.Effect.TheVariants.{Put, Load as Loading, Store as Storing}
use Rattle.rv_table.specs.declared.effect.Access.TheVariants.{Read as Reading, Write as Writing}
use Rattle.odc_core.specs.declared.tree.Width.{Width}
use Rattle.odc_core.specs.declared.tree.Width.TheVariants.{Byte, Half, Word, Double}
use Rattle.odc_core.specs.declared.tree.UnaryOp.{UnaryOp}
use Rattle.odc_core.specs.declared.tree.UnaryOp.TheVariants.{Complement, SignByte, SignHalf, SignWord}
use Rattle.odc_core.specs.declared.tree.BinaryOp.{BinaryOp}
use Rattle.odc_core.specs.declared.tree.BinaryOp.TheVariants.{Add, Subtract, Multiply, Divide, DivideUnsigned, Remainder, RemainderUnsigned, And, Or, Xor, ShiftLeft, ShiftRight, ShiftRightSigned}
use Rattle.odc_core.specs.declared.tree.Comparison.{Comparison}
use Rattle.odc_core.specs.declared.tree.Comparison.TheVariants.{Equal, Different, Less, Below}
use Rattle.odc_core.specs.Words.{width_size, unary_word, binary_word, compare_words, number_of, bytes_of}
use Rattle.odc_core.specs.Memory.{all_in, loaded, stored, put}
use Rattle.odc_mid.specs.declared.tree.MidStep.{MidStep}
use Rattle.odc_mid.specs.declared.tree.MidStep.TheVariants.{Const, Move, Unary, Binary, Compare, Load, Store}
use Rattle.odc_mid.specs.Tree.{Whole}
use Rattle.odc_mid.specs.Run.{Config, gives, gives_found, go_on, strays, with_memory}
use Rattle.odc_mid.specs.Well.{Known, set_by, ways_of, IsStepAt, Leads, SetBelow, names_in}
use Rattle.rv_emit.specs.Code.{around_of, slot, load_slot, store_slot, word_code, unary_code, binary_code, compare_code, load_code, store_code}
use Rattle.rv_emit.proofs.Flat.{Setting, layout, Flat, Regs, reg, set, At, Stands, stands_parts, Reaches, reaches_on, Ends, puts, loads, stores}
use Rattle.rv_emit.proofs.Steps.{putting, plus_small, adds, shifts}
use Rattle.rv_emit.proofs.Numbers.{word_sim, load_slot_sim, store_slot_sim}
use Rattle.rv_emit.proofs.Ranges.{Row, row_of, row_has_read, row_has_write, Loaded, loaded_parts, bytes_run}
use Rattle.rv_emit.proofs.Words.{unary_done, unary_is, unary_fits, binary_fits, compare_done, compare_is, compare_fits, load_kind, store_kind, load_size_is, store_is, load_is, number_fits, bytes_of_bytes}
use Rattle.rv_emit.proofs.simulation.Ties.{HasStep, Built, Held, place_of, frame_facts, frame_small, known_in, Tied, tied_put, tied_gives, tied_goes, well_step}

-- how far a stretch of code goes
pub stands_long : (code : List Inst) (p : ℕ) (is : List Inst) (end : ℕ) → Stands code p is end → end ≡ p + 4 * length is
stands_long code p [] end h = omega (arith, h)
stands_long code p (i ∷ is) end h = let rest : end ≡ p + 4 + 4 * length is = stands_long code (p + 4) is end h.1 in omega (arith, rest)

module _ (m : Setting) (w : Whole) (b : Built m w) where
  -- ---- what comes of a step

  pub record Moved (bound place : ℕ) (a : Flat) (c : Config) : Type 0 where
    pub to : ℕ
    pub flat : Flat
    pub steps : ℕ
    pub some : 0 < steps
    pub few : steps ≤ bound
    pub reaches : Reaches m place a steps to flat
    pub tied : Tied m w b c to flat

  pub record Ended (bound place : ℕ) (a : Flat) (end : End) (last : Config) : Type 0 where
    pub to : ℕ
    pub flat : Flat
    pub steps : ℕ
    pub few : steps + 1 ≤ bound
    pub reaches : Reaches m place a steps to flat
    pub ends : Ends m to flat end
    pub log : last.log ≡ flat.log
    pub taken : last.taken ≡ flat.taken

  pub record Left (a : Flat) (last : Config) : Type 0 where
    pub log : last.log ≡ a.log
    pub taken : last.taken ≡ a.taken

  abbrev pub Simulated : ℕ → ℕ → Flat → After Config → Type 0
  Simulated bound place a (on c) = Moved bound place a c
  Simulated bound place a (over (exited code) last) = Ended bound place a (exited code) last
  Simulated bound place a (over (checked which at) last) = Ended bound place a (checked which at) last
  Simulated bound place a (over (strayed at) last) = Left a last
  Simulated bound place a (over (trapped pc) last) = ⊥
  Simulated bound place a (over going last) = ⊥

  pub record Sim (bound place : ℕ) (a : Flat) (after : After Config) : Type 0 where
    pub by : Simulated bound place a after

  pub joined : {p : ℕ} {a : Flat} {d p' : ℕ} {a' : Flat} {k p'' : ℕ} {a'' : Flat} → Reaches m p a d p' a' → Reaches m p' a' k p'' a'' → Reaches m p a (d + k) p'' a''
  joined {p} {a} {d} {p'} {a'} {k} {p''} {a''} f g = reaches_on m p a d p' a' k p'' a'' f g

  pub strays_sim : (bound : ℕ) (c : Config) (place : ℕ) (a : Flat) → Tied m w b c place a → Sim bound place a (strays c)
  strays_sim bound c place a t = record { by = record { log = t.log; taken = t.taken } }

  -- ---- the step at hand

  pub record Here (c : Config) (place : ℕ) (a : Flat) (t : Tied m w b c place a) (s : MidStep) : Type 0 where
    pub well : IsStepAt (names_in w t.p) (known_in m w b t.f t.p t.act.found) c.here.next s
    pub has : HasStep m (around_of m.entries w.addresses (m.entries t.f) t.p) s place (place_of m w b t.f t.p (c.here.next + 1))

  pub here_step : (c : Config) (place : ℕ) (a : Flat) (t : Tied m w b c place a) (s : MidStep) → slice_get c.here.steps c.here.next ≡ Some s → Here c place a t s
  here_step c place a t s e =
      let at_step : slice_get t.p.steps c.here.next ≡ Some s = ap (λ (ss : List MidStep). slice_get ss c.here.next) (sym t.act.steps) ∙ e in
      let P : ℕ → Type 0 = λ q. HasStep m (around_of m.entries w.addresses (m.entries t.f) t.p) s q (place_of m w b t.f t.p (c.here.next + 1)) in
      record {
        well = well_step m w b t.f t.p t.act.found c.here.next s at_step;
        has = subst P (sym t.at) ((b.procs t.f t.p t.act.found).has.steps c.here.next s at_step);
      }

  -- the slot of a temporary lies in the stack
  slot_top : (c : Config) (place : ℕ) (a : Flat) (t : Tied m w b c place a) (u : ℕ) → u < t.p.temporaries → c.here.low + slot t.p.frame u + 8 ≤ 2 ^ 31
  slot_top c place a t u h = let facts = frame_facts m w b t.f t.p t.act.found u h in omega (arith, facts.1.0, t.act.high, t.act.top)

  frame_below : (c : Config) (place : ℕ) (a : Flat) (t : Tied m w b c place a) → t.p.frame < 2 ^ 31
  frame_below c place a t = let small : t.p.frame ≤ 2 ^ 24 = frame_small m w b t.f t.p t.act.found in omega (arith, small)

  -- a temporary into a register
  pub temp_sim : (c : Config) (place : ℕ) (a : Flat) (t : Tied m w b c place a) (q end : ℕ) (h : ℕ → ℕ) (rd u : ℕ) → Stands m.code q (load_slot t.p.frame rd u) end →
      (2 == rd) ≡ false → 0 < rd → rd < 32 → h 2 ≡ a.regs 2 → known_in m w b t.f t.p t.act.found c.here.next u ≡ true →
      Reaches m q (record a { regs = h }) 6 end (record a { regs = set h rd (c.here.temps u) })
  temp_sim c place a t q end h rd u stands other some small sp known =
      let x : Held a.mem c.here.low t.p.frame t.p.temporaries u (c.here.temps u) = t.held u known in
      load_slot_sim m q end (record a { regs = h }) t.p.frame rd u c.here.low (c.here.temps u) stands other some small (sp ∙ t.sp) (frame_below c place a t) t.act.bottom (slot_top c place a t u x.below)
      (ap (from_le_bytes w64) x.is ∙ from_le_bytes-to_le_bytes_8 (c.here.temps u) x.small)

  pub temp_small : (c : Config) (place : ℕ) (a : Flat) (t : Tied m w b c place a) (u : ℕ) → known_in m w b t.f t.p t.act.found c.here.next u ≡ true → c.here.temps u < 2 ^ 64
  temp_small c place a t u known = (t.held u known).small

  -- the end of a step that sets a temporary
  pub give : (bound from : ℕ) (a0 : Flat) (c : Config) (place : ℕ) (a : Flat) (t : Tied m w b c place a) (s : MidStep) (to v rs : ℕ) → slice_get c.here.steps c.here.next ≡ Some s → set_by s ≡ Some to →
      ways_of c.here.next s ≡ suc c.here.next ∷ [] → v < 2 ^ 64 → (q d : ℕ) (h : ℕ → ℕ) → Reaches m from a0 d q (record a { regs = h }) → h 2 ≡ a.regs 2 → reg h rs ≡ v → (rs == 7) ≡ false → rs < 32 →
      Stands m.code q (store_slot t.p.frame rs to) (place_of m w b t.f t.p (c.here.next + 1)) → d + 6 ≤ bound → Sim bound from a0 (gives to v c)
  give bound from a0 c place a t s to v rs e sets way fits q d h reaches sp is other low stands few =
      let x : Here c place a t s = here_step c place a t s e in
      let B : Option ℕ → Type 0 = λ o. SetBelow t.p.temporaries o in
      let small : to < t.p.temporaries = subst B sets x.well.sets in
      let at : ℕ = c.here.low + slot t.p.frame to in
      let last : Reaches m q (record a { regs = h }) 6 (place_of m w b t.f t.p (c.here.next + 1)) (record a { regs = set h 7 at; mem = written a.mem at (to_le_bytes w64 v) }) =
      store_slot_sim m q (place_of m w b t.f t.p (c.here.next + 1)) (record a { regs = h }) t.p.frame rs to c.here.low v stands other low (sp ∙ t.sp) (frame_below c place a t) t.act.bottom (slot_top c place a t to small) is in
      record {
        by = record {
          to = place_of m w b t.f t.p (c.here.next + 1);
          flat = record a { regs = set h 7 at; mem = written a.mem at (to_le_bytes w64 v) };
          steps = d + 6;
          some = omega arith;
          few = few;
          reaches = joined reaches last;
          tied = tied_gives m w b c place a t s to v e sets way fits (set h 7 at) sp;
        };
      }

  -- the end of a step that sets none
  pub pass : (bound from : ℕ) (a0 : Flat) (c : Config) (place : ℕ) (a : Flat) (t : Tied m w b c place a) (s : MidStep) (j : ℕ) → slice_get c.here.steps c.here.next ≡ Some s → set_by s ≡ None →
      Leads (known_in m w b t.f t.p t.act.found) c.here.next s j → (d : ℕ) (h : ℕ → ℕ) → Reaches m from a0 d (place_of m w b t.f t.p j) (record a { regs = h }) → h 2 ≡ a.regs 2 → 0 < d → d ≤ bound →
      Sim bound from a0 (on (record c { here = record c.here { next = j } }))
  pass bound from a0 c place a t s j e sets leads d h reaches sp some few = record {
    by = record {
      to = place_of m w b t.f t.p j;
      flat = record a { regs = h };
      steps = d;
      some = some;
      few = few;
      reaches = reaches;
      tied = tied_goes m w b c place a t s j e sets leads h sp;
    };
  }

  pub next_leads : (known : Known) (i : ℕ) (s : MidStep) → Leads known i s (suc i) → Leads known i s (i + 1)
  next_leads known i s l = let N : ℕ → Type 0 = λ j. Leads known i s j in let one : suc i ≡ i + 1 = omega arith in subst N one l

  -- ---- constants and moves

  pub const_sim : (c : Config) (place : ℕ) (a : Flat) (t : Tied m w b c place a) (to v : ℕ) → slice_get c.here.steps c.here.next ≡ Some (Const to v) → Sim 32 place a (gives to v c)
  const_sim c place a t to v e =
      let x : Here c place a t (Const to v) = here_step c place a t (Const to v) e in
      let q = stands_parts m.code place (word_code 6 v) (store_slot t.p.frame 6 to) (place_of m w b t.f t.p (c.here.next + 1)) x.has.code in
      give 32 place a c place a t (Const to v) to v 6 e refl refl x.well.named q.0 10 (set a.regs 6 v) (word_sim m place q.0 a 6 v q.1 (lit< tt) (lit< tt) x.well.named) refl refl refl (lit< tt) q.2 (lit≤ tt)

  pub move_sim : (c : Config) (place : ℕ) (a : Flat) (t : Tied m w b c place a) (to u : ℕ) → slice_get c.here.steps c.here.next ≡ Some (Move to u) → Sim 32 place a (gives to (c.here.temps u) c)
  move_sim c place a t to u e =
      let x : Here c place a t (Move to u) = here_step c place a t (Move to u) e in
      let q = stands_parts m.code place (load_slot t.p.frame 6 u) (store_slot t.p.frame 6 to) (place_of m w b t.f t.p (c.here.next + 1)) x.has.code in
      give 32 place a c place a t (Move to u) to (c.here.temps u) 6 e refl refl (temp_small c place a t u x.well.ready.0) q.0 6 (set a.regs 6 (c.here.temps u))
      (temp_sim c place a t place q.0 a.regs 6 u q.1 refl (lit< tt) (lit< tt) refl x.well.ready.0) refl refl refl (lit< tt) q.2 (lit≤ tt)

  -- ---- operations

  one_put : (q : ℕ) (a : Flat) (inst : Inst) (v : ℕ) → At m.code q inst → jumps_by_x5 inst ≡ false → ((s : State) → Regs s a.regs → effect_of inst s ≡ Put 6 v) → Reaches m q a 1 (q + 4) (putting a 6 v)
  one_put q a inst v at plain effect = puts m q a inst 6 v at plain (lit< tt) effect

  by_two : (s : State) (a : Flat) (f : ℕ → ℕ → ℕ) → Regs s a.regs → ◌≡◌ {A = Effect} (Put 6 (f (slice_index s.registers 6) (slice_index s.registers 7))) (Put 6 (f (reg a.regs 6) (reg a.regs 7)))
  by_two s a f r =
      ap (λ (x : ℕ). Put 6 (f x (slice_index s.registers 7))) (r.each 6 (lit< tt)) ∙ ap (λ (y : ℕ). Put 6 (f (reg a.regs 6) y)) (r.each 7 (lit< tt))

  binary_step : (q : ℕ) (a : Flat) (op : BinaryOp) → At m.code q (binary_code op) → Reaches m q a 1 (q + 4) (putting a 6 (binary_word op (reg a.regs 6) (reg a.regs 7)))
  binary_step q a Add at = one_put q a (binary_code Add) (binary_word Add (reg a.regs 6) (reg a.regs 7)) at refl (λ s r. by_two s a plus r)
  binary_step q a Subtract at = one_put q a (binary_code Subtract) (binary_word Subtract (reg a.regs 6) (reg a.regs 7)) at refl (λ s r. by_two s a minus r)
  binary_step q a Multiply at = one_put q a (binary_code Multiply) (binary_word Multiply (reg a.regs 6) (reg a.regs 7)) at refl (λ s r. by_two s a (binary_word Multiply) r)
  binary_step q a Divide at = one_put q a (binary_code Divide) (binary_word Divide (reg a.regs 6) (reg a.regs 7)) at refl (λ s r. by_two s a (binary_word Divide) r)
  binary_step q a DivideUnsigned at = one_put q a (binary_code DivideUnsigned) (binary_word DivideUnsigned (reg a.regs 6) (reg a.regs 7)) at refl (λ s r. by_two s a (binary_word DivideUnsigned) r)
  binary_step q a Remainder at = one_put q a (binary_code Remainder) (binary_word Remainder (reg a.regs 6) (reg a.regs 7)) at refl (λ s r. by_two s a (binary_word Remainder) r)
  binary_step q a RemainderUnsigned at = one_put q a (binary_code RemainderUnsigned) (binary_word RemainderUnsigned (reg a.regs 6) (reg a.regs 7)) at refl (λ s r. by_two s a (binary_word RemainderUnsigned) r)
  binary_step q a And at = one_put q a (binary_code And) (binary_word And (reg a.regs 6) (reg a.regs 7)) at refl (λ s r. by_two s a (binary_word And) r)
  binary_step q a Or at = one_put q a (binary_code Or) (binary_word Or (reg a.regs 6) (reg a.regs 7)) at refl (λ s r. by_two s a (binary_word Or) r)
  binary_step q a Xor at = one_put q a (binary_code Xor) (binary_word Xor (reg a.regs 6) (reg a.regs 7)) at refl (λ s r. by_two s a (binary_word Xor) r)
  binary_step q a ShiftLeft at = one_put q a (binary_code ShiftLeft) (binary_word ShiftLeft (reg a.regs 6) (reg a.regs 7)) at refl (λ s r. by_two s a (binary_word ShiftLeft) r)
  binary_step q a ShiftRight at = one_put q a (binary_code ShiftRight) (binary_word ShiftRight (reg a.regs 6) (reg a.regs 7)) at refl (λ s r. by_two s a (binary_word ShiftRight) r)
  binary_step q a ShiftRightSigned at = one_put q a (binary_code ShiftRightSigned) (binary_word ShiftRightSigned (reg a.regs 6) (reg a.regs 7)) at refl (λ s r. by_two s a (binary_word ShiftRightSigned) r)

  -- two temporaries into registers 6 and 7
  pub two_sim : (c : Config) (place : ℕ) (a : Flat) (t : Tied m w b c place a) (q end : ℕ) (u v : ℕ) → Stands m.code place (load_slot t.p.frame 6 u) q → Stands m.code q (load_slot t.p.frame 7 v) end →
      known_in m w b t.f t.p t.act.found c.here.next u ≡ true → known_in m w b t.f t.p t.act.found c.here.next v ≡ true →
      Reaches m place a 12 end (record a { regs = set (set a.regs 6 (c.here.temps u)) 7 (c.here.temps v) })
  two_sim c place a t q end u v first second known known' =
      joined (temp_sim c place a t place q a.regs 6 u first refl (lit< tt) (lit< tt) refl known)
      (temp_sim c place a t q end (set a.regs 6 (c.here.temps u)) 7 v second refl (lit< tt) (lit< tt) refl known')

  pub binary_sim : (c : Config) (place : ℕ) (a : Flat) (t : Tied m w b c place a) (to : ℕ) (op : BinaryOp) (u v : ℕ) → slice_get c.here.steps c.here.next ≡ Some (Binary to op u v) →
      Sim 32 place a (gives to (binary_word op (c.here.temps u) (c.here.temps v)) c)
  binary_sim c place a t to op u v e =
      let s : MidStep = Binary to op u v in
      let x : Here c place a t s = here_step c place a t s e in
      let end : ℕ = place_of m w b t.f t.p (c.here.next + 1) in
      let q = stands_parts m.code place (load_slot t.p.frame 6 u) (load_slot t.p.frame 7 v ++ (binary_code op ∷ store_slot t.p.frame 6 to)) end x.has.code in
      let q' = stands_parts m.code q.0 (load_slot t.p.frame 7 v) (binary_code op ∷ store_slot t.p.frame 6 to) end q.2 in
      let y : ℕ = c.here.temps u in
      let z : ℕ = c.here.temps v in
      let g : ℕ → ℕ = set (set a.regs 6 y) 7 z in
      give 32 place a c place a t s to (binary_word op y z) 6 e refl refl (binary_fits op y z (temp_small c place a t u x.well.ready.0) (temp_small c place a t v x.well.ready.1.0)) (q'.0 + 4) 13 (set g 6 (binary_word op y z))
      (joined (two_sim c place a t q.0 q'.0 u v q.1 q'.1 x.well.ready.0 x.well.ready.1.0) (binary_step q'.0 (record a { regs = g }) op q'.2.0)) refl refl refl (lit< tt) q'.2.1 (lit≤ tt)

  -- the registers behind the instructions of an operation on one word
  abbrev unary_regs : UnaryOp → (ℕ → ℕ) → ℕ → ℕ → ℕ
  unary_regs Complement h v = set (set (set h 6 v) 7 (2 ^ 64 - 1)) 6 (unary_done Complement v)
  unary_regs SignByte h v = set (set (set h 6 v) 6 (shifted_left 64 v 56)) 6 (unary_done SignByte v)
  unary_regs SignHalf h v = set (set (set h 6 v) 6 (shifted_left 64 v 48)) 6 (unary_done SignHalf v)
  unary_regs SignWord h v = set (set (set h 6 v) 6 (shifted_left 64 v 32)) 6 (unary_done SignWord v)

  unary_sp : (op : UnaryOp) (h : ℕ → ℕ) (v : ℕ) → unary_regs op h v 2 ≡ h 2
  unary_sp Complement h v = refl
  unary_sp SignByte h v = refl
  unary_sp SignHalf h v = refl
  unary_sp SignWord h v = refl

  unary_reg : (op : UnaryOp) (h : ℕ → ℕ) (v : ℕ) → reg (unary_regs op h v) 6 ≡ unary_done op v
  unary_reg Complement h v = refl
  unary_reg SignByte h v = refl
  unary_reg SignHalf h v = refl
  unary_reg SignWord h v = refl

  sign_step : (q end : ℕ) (a : Flat) (n : ℕ) (h : ℕ → ℕ) (v : ℕ) → Stands m.code q (Slli 6 6 n ∷ Srai 6 6 n ∷ []) end → n < 64 →
      Reaches m q (record a { regs = set h 6 v }) 2 end (record a { regs = set (set (set h 6 v) 6 (shifted_left 64 v n)) 6 (shifted_signed 64 (shifted_left 64 v n) n) })
  sign_step q end a n h v at small =
      let b0 : Flat = record a { regs = set h 6 v } in
      let b1 : Flat = putting b0 6 (shifted_left 64 v n) in
      let P : ℕ → Type 0 = λ e. Reaches m q b0 2 e (putting b1 6 (shifted_signed 64 (shifted_left 64 v n) n)) in
      subst P at.1.1 (joined (shifts m q b0 6 6 n (shifted_left 64 v n) at.0 (lit< tt) (lit< tt) refl)
      (one_put (q + 4) b1 (Srai 6 6 n) (shifted_signed 64 (shifted_left 64 v n) n) at.1.0 refl (λ s r. ap (λ (x : ℕ). Put 6 (shifted_signed 64 x n)) (r.each 6 (lit< tt)))))

  unary_step : (q end : ℕ) (a : Flat) (op : UnaryOp) (h : ℕ → ℕ) (v : ℕ) → Stands m.code q (unary_code op) end → v < 2 ^ 64 → Reaches m q (record a { regs = set h 6 v }) 2 end (record a { regs = unary_regs op h v })
  unary_step q end a Complement h v at fits =
      let b0 : Flat = record a { regs = set h 6 v } in
      let b1 : Flat = putting b0 7 (2 ^ 64 - 1) in
      let P : ℕ → Type 0 = λ e. Reaches m q b0 2 e (putting b1 6 (minus (2 ^ 64 - 1) v)) in
      subst P at.1.1 (joined (adds m q b0 7 0 (negsuc 0) (2 ^ 64 - 1) at.0 (lit< tt) (lit< tt) refl)
      (one_put (q + 4) b1 (Sub 6 7 6) (minus (2 ^ 64 - 1) v) at.1.0 refl (λ s r.
      ap (λ (x : ℕ). Put 6 (minus x (slice_index s.registers 6))) (r.each 7 (lit< tt)) ∙ ap (λ (y : ℕ). Put 6 (minus (2 ^ 64 - 1) y)) (r.each 6 (lit< tt)))))
  unary_step q end a SignByte h v at fits = sign_step q end a 56 h v at (lit< tt)
  unary_step q end a SignHalf h v at fits = sign_step q end a 48 h v at (lit< tt)
  unary_step q end a SignWord h v at fits = sign_step q end a 32 h v at (lit< tt)

  pub unary_sim : (c : Config) (place : ℕ) (a : Flat) (t : Tied m w b c place a) (to : ℕ) (op : UnaryOp) (u : ℕ) → slice_get c.here.steps c.here.next ≡ Some (Unary to op u) →
      Sim 32 place a (gives to (unary_word op (c.here.temps u)) c)
  unary_sim c place a t to op u e =
      let s : MidStep = Unary to op u in
      let x : Here c place a t s = here_step c place a t s e in
      let end : ℕ = place_of m w b t.f t.p (c.here.next + 1) in
      let q = stands_parts m.code place (load_slot t.p.frame 6 u) (unary_code op ++ store_slot t.p.frame 6 to) end x.has.code in
      let q' = stands_parts m.code q.0 (unary_code op) (store_slot t.p.frame 6 to) end q.2 in
      let v : ℕ = c.here.temps u in
      let small : v < 2 ^ 64 = temp_small c place a t u x.well.ready.0 in
      give 32 place a c place a t s to (unary_word op v) 6 e refl refl (unary_fits op v small) q'.0 8 (unary_regs op a.regs v)
      (joined (temp_sim c place a t place q.0 a.regs 6 u q.1 refl (lit< tt) (lit< tt) refl x.well.ready.0) (unary_step q.0 q'.0 a op a.regs v q'.1 small))
      (unary_sp op a.regs v) (unary_reg op a.regs v ∙ unary_is op v small) refl (lit< tt) q'.2 (lit≤ tt)

  -- ---- comparisons

  abbrev compare_regs : Comparison → (ℕ → ℕ) → ℕ → ℕ → ℕ → ℕ
  compare_regs Equal g y z = set (set g 6 (minus y z)) 6 (compare_done Equal y z)
  compare_regs Different g y z = set (set g 6 (minus y z)) 6 (compare_done Different y z)
  compare_regs Less g y z = set g 6 (compare_done Less y z)
  compare_regs Below g y z = set g 6 (compare_done Below y z)

  compare_sp : (op : Comparison) (g : ℕ → ℕ) (y z : ℕ) → compare_regs op g y z 2 ≡ g 2
  compare_sp Equal g y z = refl
  compare_sp Different g y z = refl
  compare_sp Less g y z = refl
  compare_sp Below g y z = refl

  compare_reg : (op : Comparison) (g : ℕ → ℕ) (y z : ℕ) → reg (compare_regs op g y z) 6 ≡ compare_done op y z
  compare_reg Equal g y z = refl
  compare_reg Different g y z = refl
  compare_reg Less g y z = refl
  compare_reg Below g y z = refl

  differs : (q : ℕ) (a : Flat) → At m.code q (Sub 6 6 7) → Reaches m q a 1 (q + 4) (putting a 6 (minus (reg a.regs 6) (reg a.regs 7)))
  differs q a at = one_put q a (Sub 6 6 7) (minus (reg a.regs 6) (reg a.regs 7)) at refl (λ s r. by_two s a minus r)

  compare_step : (q end : ℕ) (a : Flat) (op : Comparison) (h : ℕ → ℕ) (y z : ℕ) → Stands m.code q (compare_code op) end →
      Reaches m q (record a { regs = set (set h 6 y) 7 z }) (length (compare_code op)) end (record a { regs = compare_regs op (set (set h 6 y) 7 z) y z })
  compare_step q end a Equal h y z at =
      let b0 : Flat = record a { regs = set (set h 6 y) 7 z } in
      let b1 : Flat = putting b0 6 (minus y z) in
      let P : ℕ → Type 0 = λ e. Reaches m q b0 2 e (putting b1 6 (compare_done Equal y z)) in
      subst P at.1.1 (joined (differs q b0 at.0) (one_put (q + 4) b1 (Sltiu 6 6 (pos 1)) (compare_done Equal y z) at.1.0 refl (λ s r. ap (λ (x : ℕ). Put 6 (flag (nat_lt x 1))) (r.each 6 (lit< tt)))))
  compare_step q end a Different h y z at =
      let b0 : Flat = record a { regs = set (set h 6 y) 7 z } in
      let b1 : Flat = putting b0 6 (minus y z) in
      let P : ℕ → Type 0 = λ e. Reaches m q b0 2 e (putting b1 6 (compare_done Different y z)) in
      subst P at.1.1 (joined (differs q b0 at.0)
      (one_put (q + 4) b1 (Sltu 6 0 6) (compare_done Different y z) at.1.0 refl (λ s r.
      ap (λ (x : ℕ). Put 6 (flag (nat_lt x (slice_index s.registers 6)))) (r.each 0 (lit< tt)) ∙ ap (λ (x : ℕ). Put 6 (flag (nat_lt 0 x))) (r.each 6 (lit< tt)))))
  compare_step q end a Less h y z at =
      let b0 : Flat = record a { regs = set (set h 6 y) 7 z } in
      let P : ℕ → Type 0 = λ e. Reaches m q b0 1 e (putting b0 6 (compare_done Less y z)) in
      subst P at.1 (one_put q b0 (Slt 6 6 7) (compare_done Less y z) at.0 refl (λ s r. by_two s b0 (compare_done Less) r))
  compare_step q end a Below h y z at =
      let b0 : Flat = record a { regs = set (set h 6 y) 7 z } in
      let P : ℕ → Type 0 = λ e. Reaches m q b0 1 e (putting b0 6 (compare_done Below y z)) in
      subst P at.1 (one_put q b0 (Sltu 6 6 7) (compare_done Below y z) at.0 refl (λ s r. by_two s b0 (compare_done Below) r))

  compare_short : (op : Comparison) → 12 + length (compare_code op) + 6 ≤ 32
  compare_short Equal = lit≤ tt
  compare_short Different = lit≤ tt
  compare_short Less = lit≤ tt
  compare_short Below = lit≤ tt

  pub compare_sim : (c : Config) (place : ℕ) (a : Flat) (t : Tied m w b c place a) (to : ℕ) (op : Comparison) (u v : ℕ) → slice_get c.here.steps c.here.next ≡ Some (Compare to op u v) →
      Sim 32 place a (gives to (compare_words op (c.here.temps u) (c.here.temps v)) c)
  compare_sim c place a t to op u v e =
      let s : MidStep = Compare to op u v in
      let x : Here c place a t s = here_step c place a t s e in
      let end : ℕ = place_of m w b t.f t.p (c.here.next + 1) in
      let q = stands_parts m.code place (load_slot t.p.frame 6 u) (load_slot t.p.frame 7 v ++ (compare_code op ++ store_slot t.p.frame 6 to)) end x.has.code in
      let q' = stands_parts m.code q.0 (load_slot t.p.frame 7 v) (compare_code op ++ store_slot t.p.frame 6 to) end q.2 in
      let r = stands_parts m.code q'.0 (compare_code op) (store_slot t.p.frame 6 to) end q'.2 in
      let y : ℕ = c.here.temps u in
      let z : ℕ = c.here.temps v in
      let g : ℕ → ℕ = set (set a.regs 6 y) 7 z in
      give 32 place a c place a t s to (compare_words op y z) 6 e refl refl (compare_fits op y z) r.0 (12 + length (compare_code op)) (compare_regs op g y z)
      (joined (two_sim c place a t q.0 q'.0 u v q.1 q'.1 x.well.ready.0 x.well.ready.1.0) (compare_step q'.0 r.0 a op a.regs y z r.1))
      (compare_sp op g y z) (compare_reg op g y z ∙ compare_is op y z (temp_small c place a t u x.well.ready.0) (temp_small c place a t v x.well.ready.1.0)) refl (lit< tt) r.2 (compare_short op)

  -- ---- loads and stores

  row_at : (c : Config) (place : ℕ) (a : Flat) (t : Tied m w b c place a) (address n : ℕ) → all_in c.here.touched address n ≡ true → 0 < n → Row m.store_size address n
  row_at c place a t address n all some = row_of m.store_size c.here.touched address n m.low t.act.region all some

  width_some : (width : Width) → 0 < width_size width
  width_some Byte = lit< tt
  width_some Half = lit< tt
  width_some Word = lit< tt
  width_some Double = lit< tt

  load_effect : (width : Width) (s : State) (a : Flat) (address : ℕ) → Regs s a.regs → reg a.regs 6 ≡ address → address < 2 ^ 64 → effect_of (load_code width) s ≡ Loading 6 address (load_kind width)
  load_effect width s a address r is small =
      by width ∙ ap (λ (x : ℕ). Loading 6 (address_from x (pos 0)) (load_kind width)) (r.each 6 (lit< tt) ∙ is)
      ∙ ap (λ (x : ℕ). Loading 6 x (load_kind width)) (plus_small address 0 (omega arith) ∙ add-zero address)
    where
      by : (width : Width) → effect_of (load_code width) s ≡ Loading 6 (address_from (slice_index s.registers 6) (pos 0)) (load_kind width)
      by Byte = refl
      by Half = refl
      by Word = refl
      by Double = refl

  load_plain : (width : Width) → jumps_by_x5 (load_code width) ≡ false
  load_plain Byte = refl
  load_plain Half = refl
  load_plain Word = refl
  load_plain Double = refl

  load_found : (c : Config) (place : ℕ) (a : Flat) (t : Tied m w b c place a) (to : ℕ) (width : Width) (u : ℕ) (bytes : List ℕ) → slice_get c.here.steps c.here.next ≡ Some (Load to width u) →
      Loaded c.here.touched c.memory (c.here.temps u) (width_size width) bytes → Sim 32 place a (gives to (number_of bytes) c)
  load_found c place a t to width u bytes e l =
      let s : MidStep = Load to width u in
      let x : Here c place a t s = here_step c place a t s e in
      let end : ℕ = place_of m w b t.f t.p (c.here.next + 1) in
      let q = stands_parts m.code place (load_slot t.p.frame 6 u) (load_code width ∷ store_slot t.p.frame 6 to) end x.has.code in
      let address : ℕ = c.here.temps u in
      let row : Row m.store_size address (width_size width) = row_at c place a t address (width_size width) l.all (width_some width) in
      let small : address < 2 ^ 64 = temp_small c place a t u x.well.ready.0 in
      let shown : run a.mem address (width_size width) ≡ bytes = bytes_run c.here.touched c.memory a.mem address (width_size width) bytes t.shows l in
      let v : ℕ = number_of (run a.mem address (width_size width)) in
      let b0 : Flat = putting a 6 address in
      let held : has Reading address (load_size (load_kind width)) (layout (4 * length m.code) m.store_size) ≡ true =
      ap (λ (n : ℕ). has Reading address n (layout (4 * length m.code) m.store_size)) (load_size_is width) ∙ row_has_read (4 * length m.code) m.store_size address (width_size width) row in
      let one : Reaches m q.0 b0 1 (q.0 + 4) (putting b0 6 v) =
      loads m q.0 b0 (load_code width) 6 address v (load_kind width) q.2.0 (load_plain width) (lit< tt) (λ s r. load_effect width s b0 address r refl small) (load_is width a.mem address) held in
      let P : ℕ → Type 0 = λ n. Sim 32 place a (gives to n c) in
      subst P (ap number_of shown)
      (give 32 place a c place a t s to v 6 e refl refl (number_fits width a.mem address t.bytes) (q.0 + 4) 7 (set (set a.regs 6 address) 6 v)
      (joined (temp_sim c place a t place q.0 a.regs 6 u q.1 refl (lit< tt) (lit< tt) refl x.well.ready.0) one) refl refl refl (lit< tt) q.2.1 (lit≤ tt))

  pub load_sim : (c : Config) (place : ℕ) (a : Flat) (t : Tied m w b c place a) (to : ℕ) (width : Width) (u : ℕ) → slice_get c.here.steps c.here.next ≡ Some (Load to width u) →
      Sim 32 place a (gives_found to (option_map number_of (loaded c.here.touched c.memory (c.here.temps u) (width_size width))) c)
  load_sim c place a t to width u e = by (loaded c.here.touched c.memory (c.here.temps u) (width_size width)) refl
    where
      by : (o : Option (List ℕ)) → loaded c.here.touched c.memory (c.here.temps u) (width_size width) ≡ o → Sim 32 place a (gives_found to (option_map number_of o) c)
      by None q = strays_sim 32 c place a t
      by (Some bytes) q = load_found c place a t to width u bytes e (loaded_parts c.here.touched c.memory (c.here.temps u) (width_size width) bytes q)

  store_effect : (width : Width) (s : State) (a : Flat) (address v : ℕ) → Regs s a.regs → reg a.regs 6 ≡ address → reg a.regs 7 ≡ v → address < 2 ^ 64 →
      effect_of (store_code width) s ≡ Storing address (store_kind width) v
  store_effect width s a address v r is what small =
      by width ∙ ap (λ (x : ℕ). Storing (address_from x (pos 0)) (store_kind width) (slice_index s.registers 7)) (r.each 6 (lit< tt) ∙ is)
      ∙ ap (λ (x : ℕ). Storing x (store_kind width) (slice_index s.registers 7)) (plus_small address 0 (omega arith) ∙ add-zero address)
      ∙ ap (Storing address (store_kind width)) (r.each 7 (lit< tt) ∙ what)
    where
      by : (width : Width) → effect_of (store_code width) s ≡ Storing (address_from (slice_index s.registers 6) (pos 0)) (store_kind width) (slice_index s.registers 7)
      by Byte = refl
      by Half = refl
      by Word = refl
      by Double = refl

  store_plain : (width : Width) → jumps_by_x5 (store_code width) ≡ false
  store_plain Byte = refl
  store_plain Half = refl
  store_plain Word = refl
  store_plain Double = refl

  width_bytes : (width : Width) (v : ℕ) → length (bytes_of (width_size width) v) ≡ width_size width
  width_bytes Byte v = refl
  width_bytes Half v = refl
  width_bytes Word v = refl
  width_bytes Double v = refl

  store_found : (c : Config) (place : ℕ) (a : Flat) (t : Tied m w b c place a) (width : Width) (u v : ℕ) → slice_get c.here.steps c.here.next ≡ Some (Store width u v) →
      all_in c.here.touched (c.here.temps u) (length (bytes_of (width_size width) (c.here.temps v))) ≡ true →
      Sim 32 place a (go_on (record c { memory = put c.memory (c.here.temps u) (bytes_of (width_size width) (c.here.temps v)) }))
  store_found c place a t width u v e all =
      let s : MidStep = Store width u v in
      let x : Here c place a t s = here_step c place a t s e in
      let end : ℕ = place_of m w b t.f t.p (c.here.next + 1) in
      let q = stands_parts m.code place (load_slot t.p.frame 6 u) (load_slot t.p.frame 7 v ++ (store_code width ∷ [])) end x.has.code in
      let q' = stands_parts m.code q.0 (load_slot t.p.frame 7 v) (store_code width ∷ []) end q.2 in
      let address : ℕ = c.here.temps u in
      let y : ℕ = c.here.temps v in
      let bytes : List ℕ = bytes_of (width_size width) y in
      let count : length bytes ≡ width_size width = width_bytes width y in
      let row : Row m.store_size address (length bytes) = row_at c place a t address (length bytes) all (omega (arith, count, width_some width)) in
      let small : address < 2 ^ 64 = temp_small c place a t u x.well.ready.0 in
      let g : ℕ → ℕ = set (set a.regs 6 address) 7 y in
      let b0 : Flat = record a { regs = g } in
      let same : store_bytes (store_kind width) y ≡ bytes = store_is width y (temp_small c place a t v x.well.ready.1.0) in
      let held : has Writing address (length (store_bytes (store_kind width) y)) (layout (4 * length m.code) m.store_size) ≡ true =
      ap (λ (bs : List ℕ). has Writing address (length bs) (layout (4 * length m.code) m.store_size)) same ∙ row_has_write (4 * length m.code) m.store_size address (length bytes) row in
      let one : Reaches m q'.0 b0 1 (q'.0 + 4) (record b0 { mem = written a.mem address (store_bytes (store_kind width) y) }) =
      stores m q'.0 b0 (store_code width) address y (store_kind width) q'.2.0 (store_plain width) (λ s r. store_effect width s b0 address y r refl refl small) held in
      let R : List ℕ → Type 0 = λ bs. Reaches m q'.0 b0 1 (q'.0 + 4) (record b0 { mem = written a.mem address bs }) in
      let E : ℕ → Type 0 = λ p. Reaches m q'.0 b0 1 p (record b0 { mem = written a.mem address bytes }) in
      let c' : Config = record c { memory = put c.memory address bytes } in
      let a' : Flat = record a { mem = written a.mem address bytes } in
      let t' : Tied m w b c' place a' = tied_put m w b c place a address bytes t all (bytes_of_bytes (width_size width) y) in
      pass 32 place a c' place a' t' s (c.here.next + 1) e refl (next_leads (known_in m w b t.f t.p t.act.found) c.here.next s x.well.leads.0) 13 g
      (joined (two_sim c place a t q.0 q'.0 u v q.1 q'.1 x.well.ready.0 x.well.ready.1.0) (subst E q'.2.1 (subst R same one))) refl (lit< tt) (lit≤ tt)

  pub store_sim : (c : Config) (place : ℕ) (a : Flat) (t : Tied m w b c place a) (width : Width) (u v : ℕ) → slice_get c.here.steps c.here.next ≡ Some (Store width u v) →
      Sim 32 place a (with_memory (stored c.here.touched c.memory (c.here.temps u) (bytes_of (width_size width) (c.here.temps v))) c)
  store_sim c place a t width u v e = by (all_in c.here.touched (c.here.temps u) (length (bytes_of (width_size width) (c.here.temps v)))) refl
    where
      by : (z : Bool) → all_in c.here.touched (c.here.temps u) (length (bytes_of (width_size width) (c.here.temps v))) ≡ z →
          Sim 32 place a (with_memory (if z then Some (put c.memory (c.here.temps u) (bytes_of (width_size width) (c.here.temps v))) else None) c)
      by true q = store_found c place a t width u v e q
      by false q = strays_sim 32 c place a t
