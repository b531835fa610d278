-- A call and a return: the tie behind them.
use Rattle.std.proofs.Common.{◌≡◌, ℕ, zero, suc, ◌+◌, ◌-◌, ◌*◌, ◌/◌, ◌^◌, ◌<◌, ◌≤◌, Bool, true, false, ◌⊎◌, inl, inr, List, [], ◌∷◌, ◌++◌, length, map, arith, ap, ◌∙◌, sym, subst, refl, lit<}
use Rattle.std.specs.Prelude.{pos, ◌==◌, Option, Some, None, slice_get, get_or, if◌then◌else◌}
use Rattle.std.specs.Int.{w64, to_le_bytes}
use Rattle.std.proofs.lemmas.Bool.Decides.{nat_tests}
use Rattle.odc_text.specs.Run.{checked}
use Rattle.odc_text.specs.Steps.{on, over}
use Rattle.rv_table.specs.Bytes.{run, written}
use Rattle.rv_table.proofs.Areas.{or_parts}
use Rattle.rv_table.specs.State.{address_from}
use Rattle.rv_table.specs.Words.{word}
use Rattle.rv_table.specs.declared.inst.Inst.{Inst}
use Rattle.rv_table.specs.declared.inst.Inst.TheVariants.{Jalr}
use Rattle.odc_core.specs.declared.tree.Variable.{Variable}
use Rattle.odc_core.specs.Well.{AreLaid}
use Rattle.odc_mid.specs.declared.tree.MidStep.{MidStep}
use Rattle.odc_mid.specs.declared.tree.MidStep.TheVariants.{Call, CallValue}
use Rattle.odc_mid.specs.Tree.{Proc, Whole}
use Rattle.odc_mid.specs.Run.{Config}
use Rattle.odc_mid.specs.Well.{Known, set_by, ways_of, AllLead, Leads, SetBelow}
use Rattle.rv_emit.specs.Code.{slot, load_slot, store_slot, number_code}
use Rattle.rv_emit.proofs.Flat.{Setting, Flat, reg, set, At, Stands, stands_parts, Reaches}
use Rattle.rv_emit.proofs.Steps.{putting, jumps}
use Rattle.rv_emit.proofs.Numbers.{number_sim}
use Rattle.rv_emit.proofs.simulation.Ties.{IsBuilt, Built, Held, outer_of, base_of, place_of, IsActivation, known_in, Tied}
use Rattle.rv_emit.proofs.simulation.Sims.{Sim, joined, Here, here_step, temp_sim, temp_small, next_leads}
use Rattle.odc_text.specs.declared.check.Check.TheVariants.{Stack as StackCheck}
use Rattle.odc_mid.specs.Well.{parameters_of}
use Rattle.rv_table.proofs.Bytes.{run_apart, run_written, written_out}
use Rattle.odc_core.specs.Frames.{has_room, in_variables, touched_in}
use Rattle.odc_core.specs.Memory.{lies}
use Rattle.odc_mid.specs.Run.{activation_of, entered, calls}
use Rattle.odc_mid.specs.Well.{AreKnown, IsSet}
use Rattle.rv_emit.specs.Code.{pass_code}
use Rattle.rv_emit.proofs.Ranges.{stack, lies_between}
use Rattle.rv_emit.proofs.Words.{word_bytes}
use Rattle.rv_emit.proofs.simulation.Ties.{IsReturn, Waits, waiting_kept, held_kept, saved_kept, written_bytes, variables_below, or_false}
use Rattle.rv_emit.proofs.simulation.Jumps.{in_text, InText, jump_target}
use Rattle.odc_core.specs.Program.{called_by}
use Rattle.rv_emit.specs.Layout.{HasSlots}
use Rattle.rv_emit.proofs.simulation.Calls.{Sent, pass_sim, Entered, enter_sim, Refused, refuse_sim}

true_not_false : true ≡ false → ⊥
true_not_false e = cc

found_word : (xs : List ℕ) (t v : ℕ) → slice_get xs t ≡ Some v → get_or xs t 0 ≡ v
found_word [] t v e = cc
found_word (x ∷ xs) zero v e = cc
found_word (x ∷ xs) (suc t) v e = found_word xs t v e

pub record Argument (temps : ℕ → ℕ) (ts : List ℕ) (k : ℕ) : Type 0 where
  pub is : slice_get (map temps ts) k ≡ Some (get_or (map temps ts) k 0)
  pub index : ℕ
  pub among : slice_get ts k ≡ Some index
  pub value : get_or (map temps ts) k 0 ≡ temps index

-- the argument at a position
word_at : (temps : ℕ → ℕ) (ts : List ℕ) (k : ℕ) → k < length ts → Argument temps ts k
word_at temps [] k h = absurd (omega arith)
word_at temps (t ∷ ts) zero h = record { is = refl; index = t; among = refl; value = refl }
word_at temps (t ∷ ts) (suc k) h = let r : Argument temps ts k = word_at temps ts k (omega arith) in record { is = r.is; index = r.index; among = r.among; value = r.value }

known_at : (known : Known) (i : ℕ) (ts : List ℕ) (k t : ℕ) → AreKnown known i ts → slice_get ts k ≡ Some t → known i t ≡ true
known_at known i [] k t h e = cc
known_at known i (u ∷ ts) zero t h e = let same : u ≡ t = cc in let P : ℕ → Type 0 = λ x. known i x ≡ true in subst P same h.0
known_at known i (u ∷ ts) (suc k) t h e = known_at known i ts k t h.1 e

-- a variable lies in its frame
pub variables_inside : (low frame x : ℕ) (vs : List Variable) → AreLaid frame vs → in_variables low vs x ≡ true → (low ≤ x) × (x < low + frame)
variables_inside low frame x [] h k = absurd (true_not_false (sym k))
variables_inside low frame x (v ∷ vs) h k = elim (or_parts (lies (low + v.offset) v.size x) (in_variables low vs x) k) [
  | inl l ↦ (let p = lies_between (low + v.offset) v.size x l in (omega (arith, p.0), omega (arith, p.1, h.0.1)))
  | inr l ↦ variables_inside low frame x vs h.1.1 l.1
]

apart_of : (a n x : ℕ) → lies a n x ≡ false → (x < a) ⊎ (a + n ≤ x)
apart_of a n x h = grind (arith, nat_tests)

module _ (m : Setting) (w : Whole) (b : Built m w) where
  -- behind the entry of a procedure
  module _ (c : Config) (place : ℕ) (a : Flat) (t : Tied m w b c place a) (s : MidStep) (to : ℕ) (ts : List ℕ) (f : ℕ) (p : Proc) (found : slice_get w.procedures f ≡ Some p)
      (e : slice_get c.here.steps c.here.next ≡ Some s) (sets : set_by s ≡ Some to) (way : ways_of c.here.next s ≡ suc c.here.next ∷ []) (count : p.parameters ≡ length ts)
      (known : AreKnown (known_in m w b t.f t.p t.act.found) c.here.next ts) (room : 0x7800_0000 + p.frame ≤ c.here.low) where
    few : 8 * length ts ≤ p.frame
    few = let slots : HasSlots p = (b.procs f p found).slots in let more : p.parameters ≤ p.temporaries = (b.procs f p found).well.parameters in omega (arith, slots, more, count)

    entered_act : IsActivation m w b (activation_of p (map c.here.temps ts) c.here.touched c.here.low) c.here.touched c.here.low f p
    entered_act = record {
      found = found;
      steps = refl;
      variables = refl;
      high = omega (arith, room);
      bottom = omega (arith, room);
      top = omega (arith, t.act.high, t.act.top);
      touched = λ x. refl;
      above = λ x l u.
          t.act.touched x
          ∙ or_false (in_variables c.here.low t.p.variables x) (outer_of w.store_size c.callers x)
          (variables_below c.here.low t.p.frame x t.p.variables (b.procs t.f t.p t.act.found).well.laid (omega (arith, u))) (t.act.above x l (omega (arith, u, t.act.high)));
      region = λ x may. elim (or_parts (in_variables (c.here.low - p.frame) p.variables x) (c.here.touched x) may) [
        | inl l ↦ (let i = variables_inside (c.here.low - p.frame) p.frame x p.variables (b.procs f p found).well.laid l in
            record { region = stack; is = record { low = omega (arith, i.0, room); high = omega (arith, i.1, room, t.act.high, t.act.top) } })
        | inr l ↦ t.act.region x l.1
      ];
    }

    -- the memory behind the entry, from that with the arguments
    module _ (g : ℕ → ℕ) (ret : ℕ) (bytes : (x : ℕ) → g x < 256) (above : (x : ℕ) → c.here.low ≤ x → g x ≡ a.mem x) (below : (x : ℕ) → x < c.here.low - 8 * length ts → g x ≡ a.mem x)
        (sent : (k v : ℕ) → slice_get (map c.here.temps ts) k ≡ Some v → run g (c.here.low - 8 * (k + 1)) 8 ≡ to_le_bytes w64 v)
        (back : IsReturn m w b ret) (code : Stands m.code ret (store_slot t.p.frame 10 to) (place_of m w b t.f t.p (c.here.next + 1))) where
      abbrev after : ℕ → ℕ
      after = written g (c.here.low - p.frame) (to_le_bytes w64 ret)

      outside : (x : ℕ) → (x < c.here.low - p.frame) ⊎ (c.here.low ≤ x) → after x ≡ a.mem x
      outside x (inl l) = written_out g (c.here.low - p.frame) (to_le_bytes w64 ret) x (inl l) ∙ below x (omega (arith, few, l))
      outside x (inr l) =
          let slots : HasSlots p = (b.procs f p found).slots in
          written_out g (c.here.low - p.frame) (to_le_bytes w64 ret) x (inr (omega (arith, l, room, slots))) ∙ above x l

      waits : Waits m w b after (record { to = to; activation = record c.here { next = c.here.next + 1 } }) c.callers t.f t.p ret t.back
      waits =
          let known0 : Known = known_in m w b t.f t.p t.act.found in
          let i : ℕ = c.here.next in
          let x : Here m w b c place a t s = here_step m w b c place a t s e in
          let L : List ℕ → Type 0 = λ js. AllLead known0 i s js in
          let leads : Leads known0 i s (i + 1) = next_leads m w b known0 i s (subst L way x.well.leads).0 in
          let B : Option ℕ → Type 0 = λ o. SetBelow t.p.temporaries o in
          record {
            act = record {
              found = t.act.found;
              steps = t.act.steps;
              variables = t.act.variables;
              high = t.act.high;
              bottom = t.act.bottom;
              top = t.act.top;
              touched = t.act.touched;
              above = t.act.above;
              region = t.act.region;
            };
            code = code;
            to = subst B sets x.well.sets;
            held = λ u kn. elim (leads.by u kn) [
              | inl old ↦ inr (held_kept m w b a.mem after c.here (outer_of w.store_size c.callers) (base_of c.callers) t.f t.p t.act (λ y l o. outside y (inr l)) u (c.here.temps u) (t.held u old))
              | inr new ↦ (let S : Option ℕ → Type 0 = λ o. IsSet o u in inl (subst S sets new))
            ];
            saved = saved_kept m w b a.mem after c.here (outer_of w.store_size c.callers) (base_of c.callers) t.f t.p t.act (λ y l o. outside y (inr l)) t.back t.saved;
            return = t.return;
          }

      held_there : (u : ℕ) → (b.procs f p found).well.known 0 u ≡ true → Held after (c.here.low - p.frame) p.frame p.temporaries u (get_or (map c.here.temps ts) u 0)
      held_there u kn =
          let slots : HasSlots p = (b.procs f p found).slots in
          let below' : u < p.parameters = (b.procs f p found).well.handed u kn in
          let more : p.parameters ≤ p.temporaries = (b.procs f p found).well.parameters in
          let inside : u < length ts = omega (arith, count, below') in
          let r : Argument c.here.temps ts u = word_at c.here.temps ts u inside in
          let at : c.here.low - p.frame + slot p.frame u ≡ c.here.low - 8 * (u + 1) = omega (arith, room, slots, below', more) in
          let small : c.here.temps r.index < 2 ^ 64 = temp_small m w b c place a t r.index (known_at (known_in m w b t.f t.p t.act.found) c.here.next ts u r.index known r.among) in
          record {
            below = omega (arith, below', more);
            small = subst (λ (v : ℕ). v < 2 ^ 64) (sym r.value) small;
            is =
                ap (λ (y : ℕ). run after y 8) at
                ∙ run_apart g (c.here.low - p.frame) (to_le_bytes w64 ret) (c.here.low - 8 * (u + 1)) 8 (inr (omega (arith, room, slots, below', more)))
                ∙ sent u (get_or (map c.here.temps ts) u 0) r.is;
          }

      pub entered_tied : (h : ℕ → ℕ) → h 2 ≡ c.here.low - p.frame → Tied m w b (entered p to (map c.here.temps ts) c) (place_of m w b f p 0) (record a { regs = h; mem = after })
      unfolding entered_act
      entered_tied h sp = record {
        f = f;
        p = p;
        back = ret;
        act = entered_act;
        at = refl;
        sp = sp;
        held = held_there;
        saved = run_written g (c.here.low - p.frame) (to_le_bytes w64 ret);
        return = back;
        waiting = (t.f, (t.p, (t.back, (waits, waiting_kept m w b a.mem after c.callers t.back (λ x l o. outside x (inr (omega (arith, l, t.act.high)))) t.waiting))));
        shows = λ x v may is. by x v (lies (c.here.low - p.frame) p.frame x) refl may is;
        bytes = λ x. written_bytes m w b g (c.here.low - p.frame) (to_le_bytes w64 ret) x (word_bytes ret) bytes;
        log = t.log;
        input = t.input;
        taken = t.taken;
        given = t.given;
      }
        where
          by : (x v : ℕ) (z : Bool) → lies (c.here.low - p.frame) p.frame x ≡ z → touched_in c.here.touched (c.here.low - p.frame) p.variables x ≡ true → (if z then None else c.memory x) ≡ Some v → after x ≡ v
          by x v true q may is = cc
          by x v false q may is =
              let away : (x < c.here.low - p.frame) ⊎ (c.here.low ≤ x) = elim (apart_of (c.here.low - p.frame) p.frame x q) [ inl l ↦ inl l | inr l ↦ inr (omega (arith, l, room)) ] in
              outside x away ∙ t.shows x v (elim (or_parts (in_variables (c.here.low - p.frame) p.variables x) (c.here.touched x) may) [
                | inl l ↦ (let i = variables_inside (c.here.low - p.frame) p.frame x p.variables (b.procs f p found).well.laid l in
                    absurd (elim away [ inl k ↦ omega (arith, k, i.0) | inr k ↦ omega (arith, k, i.1, room) ]))
                | inr l ↦ l.1
              ]) is

  -- ---- from the jump to a procedure on

  pub call_to : (bound from : ℕ) (a0 : Flat) (c : Config) (place : ℕ) (a : Flat) (t : Tied m w b c place a) (s : MidStep) (to : ℕ) (ts : List ℕ) (f : ℕ) (p : Proc) (found : slice_get w.procedures f ≡ Some p) →
      slice_get c.here.steps c.here.next ≡ Some s → set_by s ≡ Some to → ways_of c.here.next s ≡ suc c.here.next ∷ [] → p.parameters ≡ length ts →
      AreKnown (known_in m w b t.f t.p t.act.found) c.here.next ts → (d : ℕ) (h g : ℕ → ℕ) (ret : ℕ) → Reaches m from a0 d (m.entries f) (record a { regs = h; mem = g }) → h 2 ≡ c.here.low → h 1 ≡ ret →
      ((x : ℕ) → g x < 256) → (0x7800_0000 + 8 * length ts ≤ c.here.low → (x : ℕ) → c.here.low ≤ x → g x ≡ a.mem x) →
      (0x7800_0000 + 8 * length ts ≤ c.here.low → (x : ℕ) → x < c.here.low - 8 * length ts → g x ≡ a.mem x) →
      (0x7800_0000 + 8 * length ts ≤ c.here.low → (k v : ℕ) → slice_get (map c.here.temps ts) k ≡ Some v → run g (c.here.low - 8 * (k + 1)) 8 ≡ to_le_bytes w64 v) →
      IsReturn m w b ret → Stands m.code ret (store_slot t.p.frame 10 to) (place_of m w b t.f t.p (c.here.next + 1)) → d + 11 ≤ bound → Sim m w b bound from a0 (calls to (Some p) (map c.here.temps ts) c)
  call_to bound from a0 c place a t s to ts f p found e sets way count known d h g ret reaches sp ra bytes above below sent back code short = by (has_room c.here.low p.frame) refl
    where
      facts : (8 * length ts ≤ p.frame) × ((8 ≤ p.frame) × (p.frame ≤ 2 ^ 24))
      facts =
          let slots : HasSlots p = (b.procs f p found).slots in
          let more : p.parameters ≤ p.temporaries = (b.procs f p found).well.parameters in
          (omega (arith, slots, more, count), (omega (arith, slots), (b.procs f p found).well.fits))

      by : (z : Bool) → has_room c.here.low p.frame ≡ z → Sim m w b bound from a0 (if z then on (entered p to (map c.here.temps ts) c) else over (checked StackCheck p.at) c)
      by true q =
          let room : 0x7800_0000 + p.frame ≤ c.here.low = grind (arith, nat_tests) in
          let less : 0x7800_0000 + 8 * length ts ≤ c.here.low = omega (arith, room, facts.0) in
          let x : Entered m w b (m.entries f) (place_of m w b f p 0) (record a { regs = h; mem = g }) c.here.low p.frame ret =
          enter_sim m w b (m.entries f) (place_of m w b f p 0) (record a { regs = h; mem = g }) c.here.low p.frame ret (b.procs f p found).has.site (b.procs f p found).has.enter sp ra
          (omega (arith, t.act.high, t.act.top)) facts.1.1 facts.1.0 q in
          record {
            by = record {
              to = place_of m w b f p 0;
              flat = record a { regs = x.regs; mem = written g (c.here.low - p.frame) (to_le_bytes w64 ret) };
              steps = d + 11;
              some = omega arith;
              few = short;
              reaches = joined m w b reaches x.reaches;
              tied = entered_tied c place a t s to ts f p found e sets way count known room g ret bytes (above less) (below less) (sent less) back code x.regs x.sp;
            };
          }
      by false q =
          let x : Refused m w b (m.entries f) (record a { regs = h; mem = g }) p.at =
          refuse_sim m w b (m.entries f) (place_of m w b f p 0) (record a { regs = h; mem = g }) c.here.low p.frame (b.procs f p found).has.site p.at (b.procs f p found).has.enter sp facts.1.1
          (b.procs f p found).has.small (b.procs f p found).has.told q in
          record {
            by = record {
              to = x.to;
              flat = record a { regs = x.regs; mem = g };
              steps = d + 10;
              few = omega (arith, short);
              reaches = joined m w b reaches x.reaches;
              ends = x.ends;
              log = t.log;
              taken = t.taken;
            };
          }

  -- a place behind a jump, where the answer is stored
  pub return_place : (p : ℕ) (inst : Inst) → At m.code p inst → IsReturn m w b (p + 4)
  return_place p inst at = let text : InText m w b p = in_text m w b p inst at in record { small = omega (arith, text.small); even = omega (arith, text.even) }

  record Takes (ps : List Proc) (f n : ℕ) : Type 0 where
    proc : Proc
    found : slice_get ps f ≡ Some proc
    count : proc.parameters ≡ n

  takes_proc : (ps : List Proc) (f n : ℕ) → slice_get (parameters_of ps) f ≡ Some n → Takes ps f n
  takes_proc [] f n e = cc
  takes_proc (p ∷ ps) zero n e = record { proc = p; found = refl; count = cc }
  takes_proc (p ∷ ps) (suc f) n e = let r : Takes ps f n = takes_proc ps f n e in record { proc = r.proc; found = r.found; count = r.count }

  pub few_arguments : (f : ℕ) (p : Proc) → slice_get w.procedures f ≡ Some p → (n : ℕ) → p.parameters ≡ n → 8 * n ≤ 2 ^ 24
  few_arguments f p found n count =
      let slots : HasSlots p = (b.procs f p found).slots in
      let more : p.parameters ≤ p.temporaries = (b.procs f p found).well.parameters in
      let fits : p.frame ≤ 2 ^ 24 = (b.procs f p found).well.fits in
      omega (arith, slots, more, count, fits)

  pub call_sim : (c : Config) (place : ℕ) (a : Flat) (t : Tied m w b c place a) (to f : ℕ) (arguments : _) → slice_get c.here.steps c.here.next ≡ Some (Call to f arguments) →
      Sim m w b (32 + 14 * length arguments.items) place a (calls to (slice_get w.procedures f) (map c.here.temps arguments.items) c)
  call_sim c place a t to f arguments e =
      let s : MidStep = Call to f arguments in
      let ts : List ℕ = arguments.items in
      let x : Here m w b c place a t s = here_step m w b c place a t s e in
      let k : Takes w.procedures f (length ts) = takes_proc w.procedures f (length ts) x.well.named in
      let end : ℕ = place_of m w b t.f t.p (c.here.next + 1) in
      let last : List Inst = Jalr 1 6 (pos 0) ∷ store_slot t.p.frame 10 to in
      let q = stands_parts m.code place (pass_code t.p.frame ts) (number_code 6 (m.entries f) ++ last) end x.has.code in
      let r = stands_parts m.code q.0 (number_code 6 (m.entries f)) last end q.2 in
      let y : Sent m w b place q.0 c a a.regs ts = pass_sim m w b c place a t ts place q.0 a.regs q.1 x.well.ready refl (few_arguments f k.proc k.found (length ts) k.count) in
      let b0 : Flat = record a { regs = y.regs; mem = y.mem } in
      let b1 : Flat = putting b0 6 (m.entries f) in
      let built : IsBuilt m w f k.proc = b.procs f k.proc k.found in
      let one : Reaches m q.0 b0 4 r.0 b1 = number_sim m q.0 r.0 b0 6 (m.entries f) r.1 (lit< tt) (lit< tt) built.entry in
      let two : Reaches m r.0 b1 1 (m.entries f) (putting b1 1 (r.0 + 4)) =
      jumps m r.0 b1 1 6 (pos 0) (m.entries f) r.2.0 refl (lit< tt) (lit< tt) (jump_target (m.entries f) (omega (arith, built.entry)) built.even) built.even in
      let O : Option Proc → Type 0 = λ o. Sim m w b (32 + 14 * length ts) place a (calls to o (map c.here.temps ts) c) in
      subst O (sym k.found)
      (call_to (32 + 14 * length ts) place a c place a t s to ts f k.proc k.found e refl refl k.count x.well.ready (y.steps + 4 + 1) (putting b1 1 (r.0 + 4)).regs y.mem (r.0 + 4)
      (joined m w b (joined m w b y.reaches one) two) (y.kept.two ∙ t.sp) refl y.bytes y.above y.below y.held (return_place r.0 (Jalr 1 6 (pos 0)) r.2.0) r.2.1 (omega (arith, y.few)))

  -- ---- calls by a procedure's word

  pub length_map : (f : ℕ → ℕ) (xs : List ℕ) → length (map f xs) ≡ length xs
  length_map f [] = refl
  length_map f (x ∷ xs) = ap suc (length_map f xs)

  pub called_word : (entries : ℕ → ℕ) (k : ℕ) (ps : List Proc) (word f : ℕ) → called_by entries k ps word ≡ Some f → entries f ≡ word
  called_word entries k [] word f e = cc
  called_word entries k (p ∷ ps) word f e = by (entries k == word) refl e (λ h. called_word entries (suc k) ps word f h)
    where
      by : (z : Bool) → (entries k == word) ≡ z → (if z then Some k else called_by entries (suc k) ps word) ≡ Some f → (called_by entries (suc k) ps word ≡ Some f → entries f ≡ word) → entries f ≡ word
      by true q h rest =
          let same : k ≡ f = cc in
          let P : ℕ → Type 0 = λ i. entries i ≡ word in
          let here : entries k ≡ word = grind (arith, nat_tests) in
          subst P same here
      by false q h rest = rest h

  pub plain_sim : (c : Config) (place : ℕ) (a : Flat) (t : Tied m w b c place a) (to target : ℕ) (arguments : _) (f : ℕ) (p : Proc) → slice_get c.here.steps c.here.next ≡ Some (CallValue to target arguments false) →
      slice_get w.procedures f ≡ Some p → p.parameters ≡ length arguments.items → m.entries f ≡ c.here.temps target →
      Sim m w b (32 + 14 * length arguments.items) place a (calls to (Some p) (map c.here.temps arguments.items) c)
  plain_sim c place a t to target arguments f p e found count word_is =
      let s : MidStep = CallValue to target arguments false in
      let ts : List ℕ = arguments.items in
      let x : Here m w b c place a t s = here_step m w b c place a t s e in
      let end : ℕ = place_of m w b t.f t.p (c.here.next + 1) in
      let last : List Inst = Jalr 1 9 (pos 0) ∷ store_slot t.p.frame 10 to in
      let q = stands_parts m.code place (load_slot t.p.frame 9 target) (pass_code t.p.frame ts ++ last) end x.has.code in
      let r = stands_parts m.code q.0 (pass_code t.p.frame ts) last end q.2 in
      let h : ℕ → ℕ = set a.regs 9 (c.here.temps target) in
      let front : Reaches m place a 6 q.0 (record a { regs = h }) = temp_sim m w b c place a t place q.0 a.regs 9 target q.1 refl (lit< tt) (lit< tt) refl x.well.ready.0 in
      let y : Sent m w b q.0 r.0 c a h ts = pass_sim m w b c place a t ts q.0 r.0 h r.1 x.well.ready.1 refl (few_arguments f p found (length ts) count) in
      let b0 : Flat = record a { regs = y.regs; mem = y.mem } in
      let built : IsBuilt m w f p = b.procs f p found in
      let target_is : address_from (reg b0.regs 9) (pos 0) / 2 * 2 ≡ m.entries f =
      ap (λ (z : ℕ). address_from z (pos 0) / 2 * 2) (y.kept.nine ∙ sym word_is) ∙ jump_target (m.entries f) (omega (arith, built.entry)) built.even in
      let two : Reaches m r.0 b0 1 (m.entries f) (putting b0 1 (r.0 + 4)) = jumps m r.0 b0 1 9 (pos 0) (m.entries f) r.2.0 refl (lit< tt) (lit< tt) target_is built.even in
      call_to (32 + 14 * length ts) place a c place a t s to ts f p found e refl refl count x.well.ready.1 (6 + y.steps + 1) (putting b0 1 (r.0 + 4)).regs y.mem (r.0 + 4)
      (joined m w b (joined m w b front y.reaches) two) (y.kept.two ∙ t.sp) refl y.bytes y.above y.below y.held (return_place r.0 (Jalr 1 9 (pos 0)) r.2.0) r.2.1 (omega (arith, y.few))
