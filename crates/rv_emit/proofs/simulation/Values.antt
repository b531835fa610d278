-- Calls of allocators, and calls by a word.
use Rattle.std.proofs.Common.{◌≡◌, ℕ, suc, ◌+◌, ◌*◌, ◌/◌, Bool, true, false, List, [], ◌∷◌, ◌++◌, length, map, arith, ap, ◌∙◌, sym, subst, refl, lit<}
use Rattle.std.specs.Prelude.{pos, Option, Some, None, slice_get, if◌then◌else◌}
use Rattle.std.specs.Int.{w64}
use Rattle.std.proofs.lemmas.Bool.Decides.{nat_tests}
use Rattle.rv_table.specs.State.{address_from}
use Rattle.rv_table.specs.declared.inst.Inst.{Inst}
use Rattle.rv_table.specs.declared.inst.Inst.TheVariants.{Jalr}
use Rattle.odc_mid.specs.declared.tree.MidStep.{MidStep}
use Rattle.odc_mid.specs.declared.tree.MidStep.TheVariants.{CallValue}
use Rattle.odc_mid.specs.Tree.{Proc, Whole}
use Rattle.odc_mid.specs.Run.{Config, strays}
use Rattle.odc_mid.specs.Well.{set_by, ways_of}
use Rattle.rv_emit.specs.Code.{load_slot, store_slot}
use Rattle.rv_emit.proofs.Flat.{Setting, Flat, reg, set, Stands, stands_parts, Reaches}
use Rattle.rv_emit.proofs.simulation.Ties.{IsBuilt, Built, place_of, known_in, Tied}
use Rattle.rv_emit.proofs.simulation.Sims.{stands_long, Sim, joined, strays_sim, Here, here_step, temp_sim}
use Rattle.odc_mid.specs.Run.{world_of}
use Rattle.odc_mid.specs.Run.{calls}
use Rattle.odc_mid.specs.Well.{AreKnown}
use Rattle.rv_emit.specs.Code.{pass_code}
use Rattle.rv_emit.proofs.simulation.Jumps.{jump_target}
use Rattle.odc_text.specs.Run.{call}
use Rattle.odc_core.specs.Run.{event_of}
use Rattle.odc_core.specs.Program.{called_by}
use Rattle.odc_mid.specs.Run.{takes, calls_told, calls_found}
use Rattle.rv_emit.specs.Code.{value_code, registers_code, registers_size}
use Rattle.rv_emit.proofs.Flat.{calls_allocator, flat_call}
use Rattle.rv_emit.proofs.simulation.Ties.{tied_log}
use Rattle.rv_emit.proofs.simulation.Calls.{Sent, pass_sim}
use Rattle.odc_text.specs.Run.{Call as Made}
use Rattle.std.specs.Int.{cast_signed}
use Rattle.rv_table.specs.State.{listed}
use Rattle.odc_mid.specs.Run.{world_of}
use Rattle.rv_emit.proofs.simulation.Enters.{call_to, return_place, few_arguments, length_map, called_word, plain_sim}

module _ (m : Setting) (w : Whole) (b : Built m w) where
  abbrev six_regs : (ℕ → ℕ) → (u v x y z o : ℕ) → ℕ → ℕ
  six_regs h u v x y z o = set (set (set (set (set (set h 10 u) 11 v) 12 x) 13 y) 14 z) 15 o

  registers_sim : (c : Config) (place : ℕ) (a : Flat) (t : Tied m w b c place a) (u v x y z o q end : ℕ) (h : ℕ → ℕ) → Stands m.code q (registers_code t.p.frame (u ∷ v ∷ x ∷ y ∷ z ∷ o ∷ [])) end → h 2 ≡ a.regs 2 →
      AreKnown (known_in m w b t.f t.p t.act.found) c.here.next (u ∷ v ∷ x ∷ y ∷ z ∷ o ∷ []) →
      Reaches m q (record a { regs = h }) 36 end (record a { regs = six_regs h (c.here.temps u) (c.here.temps v) (c.here.temps x) (c.here.temps y) (c.here.temps z) (c.here.temps o) })
  registers_sim c place a t u v x y z o q end h stands sp known =
      let F : ℕ = t.p.frame in
      let g : ℕ → ℕ = c.here.temps in
      let l1 : List Inst = load_slot F 15 o in
      let l2 : List Inst = load_slot F 14 z ++ l1 in
      let l3 : List Inst = load_slot F 13 y ++ l2 in
      let l4 : List Inst = load_slot F 12 x ++ l3 in
      let l5 : List Inst = load_slot F 11 v ++ l4 in
      let q1 = stands_parts m.code q (load_slot F 10 u) l5 end stands in
      let q2 = stands_parts m.code q1.0 (load_slot F 11 v) l4 end q1.2 in
      let q3 = stands_parts m.code q2.0 (load_slot F 12 x) l3 end q2.2 in
      let q4 = stands_parts m.code q3.0 (load_slot F 13 y) l2 end q3.2 in
      let q5 = stands_parts m.code q4.0 (load_slot F 14 z) l1 end q4.2 in
      let h1 : ℕ → ℕ = set h 10 (g u) in
      let h2 : ℕ → ℕ = set h1 11 (g v) in
      let h3 : ℕ → ℕ = set h2 12 (g x) in
      let h4 : ℕ → ℕ = set h3 13 (g y) in
      let h5 : ℕ → ℕ = set h4 14 (g z) in
      let r1 : Reaches m q (record a { regs = h }) 6 q1.0 (record a { regs = h1 }) = temp_sim m w b c place a t q q1.0 h 10 u q1.1 refl (lit< tt) (lit< tt) sp known.0 in
      let r2 : Reaches m q1.0 (record a { regs = h1 }) 6 q2.0 (record a { regs = h2 }) = temp_sim m w b c place a t q1.0 q2.0 h1 11 v q2.1 refl (lit< tt) (lit< tt) sp known.1.0 in
      let r3 : Reaches m q2.0 (record a { regs = h2 }) 6 q3.0 (record a { regs = h3 }) = temp_sim m w b c place a t q2.0 q3.0 h2 12 x q3.1 refl (lit< tt) (lit< tt) sp known.1.1.0 in
      let r4 : Reaches m q3.0 (record a { regs = h3 }) 6 q4.0 (record a { regs = h4 }) = temp_sim m w b c place a t q3.0 q4.0 h3 13 y q4.1 refl (lit< tt) (lit< tt) sp known.1.1.1.0 in
      let r5 : Reaches m q4.0 (record a { regs = h4 }) 6 q5.0 (record a { regs = h5 }) = temp_sim m w b c place a t q4.0 q5.0 h4 14 z q5.1 refl (lit< tt) (lit< tt) sp known.1.1.1.1.0 in
      let r6 : Reaches m q5.0 (record a { regs = h5 }) 6 end (record a { regs = set h5 15 (g o) }) = temp_sim m w b c place a t q5.0 end h5 15 o q5.2 refl (lit< tt) (lit< tt) sp known.1.1.1.1.1.0 in
      let s2 : Reaches m q (record a { regs = h }) 12 q2.0 (record a { regs = h2 }) = joined m w b r1 r2 in
      let s3 : Reaches m q (record a { regs = h }) 18 q3.0 (record a { regs = h3 }) = joined m w b s2 r3 in
      let s4 : Reaches m q (record a { regs = h }) 24 q4.0 (record a { regs = h4 }) = joined m w b s3 r4 in
      let s5 : Reaches m q (record a { regs = h }) 30 q5.0 (record a { regs = h5 }) = joined m w b s4 r5 in
      joined m w b s5 r6

  call_is : (g : ℕ → ℕ) (p q r t u v x : ℕ) → g 5 ≡ p → g 10 ≡ q → g 11 ≡ r → g 12 ≡ t → g 13 ≡ u → g 14 ≡ v → g 15 ≡ x →
      flat_call g ≡ record { procedure = p; given = q; mode = cast_signed w64 r; size = cast_signed w64 t; align = cast_signed w64 u; old = v; old_size = cast_signed w64 x }
  call_is g p q r t u v x e1 e2 e3 e4 e5 e6 e7 =
      let make : ℕ → ℕ → ℕ → ℕ → ℕ → ℕ → ℕ → Made ℕ ℕ =
      λ p q r t u v w. record { procedure = p; given = q; mode = cast_signed w64 r; size = cast_signed w64 t; align = cast_signed w64 u; old = v; old_size = cast_signed w64 w } in
      ap (λ (y : ℕ). make y (g 10) (g 11) (g 12) (g 13) (g 14) (g 15)) e1
      ∙ ap (λ (y : ℕ). make p y (g 11) (g 12) (g 13) (g 14) (g 15)) e2
      ∙ ap (λ (y : ℕ). make p q y (g 12) (g 13) (g 14) (g 15)) e3
      ∙ ap (λ (y : ℕ). make p q r y (g 13) (g 14) (g 15)) e4
      ∙ ap (λ (y : ℕ). make p q r t y (g 14) (g 15)) e5
      ∙ ap (λ (y : ℕ). make p q r t u y (g 15)) e6
      ∙ ap (λ (y : ℕ). make p q r t u v y) e7

  -- a call of an allocator whose six arguments are these
  allocator_sim : (c : Config) (place : ℕ) (a : Flat) (t : Tied m w b c place a) (s : MidStep) (to target u v x y z o : ℕ) (f : ℕ) (p : Proc) → slice_get c.here.steps c.here.next ≡ Some s → set_by s ≡ Some to →
      ways_of c.here.next s ≡ suc c.here.next ∷ [] → slice_get w.procedures f ≡ Some p → p.parameters ≡ 6 → m.entries f ≡ c.here.temps target →
      Stands m.code place (value_code t.p.frame to target (u ∷ v ∷ x ∷ y ∷ z ∷ o ∷ []) true) (place_of m w b t.f t.p (c.here.next + 1)) → listed m.calls (place + 4 * (6 + (36 + (13 + 8 * 6)))) ≡ true →
      AreKnown (known_in m w b t.f t.p t.act.found) c.here.next (target ∷ u ∷ v ∷ x ∷ y ∷ z ∷ o ∷ []) →
      Sim m w b 116 place a (calls_told to (slice_get w.procedures f) (map c.here.temps (u ∷ v ∷ x ∷ y ∷ z ∷ o ∷ [])) (event_of (c.here.temps target) (map c.here.temps (u ∷ v ∷ x ∷ y ∷ z ∷ o ∷ []))) c)
  allocator_sim c place a t s to target u v x y z o f p e sets way found count word_is stands told known =
      let F : ℕ = t.p.frame in
      let temps : ℕ → ℕ = c.here.temps in
      let ts : List ℕ = u ∷ v ∷ x ∷ y ∷ z ∷ o ∷ [] in
      let end : ℕ = place_of m w b t.f t.p (c.here.next + 1) in
      let last : List Inst = Jalr 1 5 (pos 0) ∷ store_slot F 10 to in
      let q1 = stands_parts m.code place (load_slot F 5 target) (registers_code F ts ++ (pass_code F ts ++ last)) end stands in
      let q2 = stands_parts m.code q1.0 (registers_code F ts) (pass_code F ts ++ last) end q1.2 in
      let q3 = stands_parts m.code q2.0 (pass_code F ts) last end q2.2 in
      let h1 : ℕ → ℕ = set a.regs 5 (temps target) in
      let h2 : ℕ → ℕ = six_regs h1 (temps u) (temps v) (temps x) (temps y) (temps z) (temps o) in
      let r1 : Reaches m place a 6 q1.0 (record a { regs = h1 }) = temp_sim m w b c place a t place q1.0 a.regs 5 target q1.1 refl (lit< tt) (lit< tt) refl known.0 in
      let r2 : Reaches m q1.0 (record a { regs = h1 }) 36 q2.0 (record a { regs = h2 }) = registers_sim c place a t u v x y z o q1.0 q2.0 h1 q2.1 refl known.1 in
      let sent : Sent m w b q2.0 q3.0 c a h2 ts = pass_sim m w b c place a t ts q2.0 q3.0 h2 q3.1 known.1 refl (few_arguments m w b f p found 6 count) in
      let b0 : Flat = record a { regs = sent.regs; mem = sent.mem } in
      let built : IsBuilt m w f p = b.procs f p found in
      let l1 : q1.0 ≡ place + 4 * 6 = stands_long m.code place (load_slot F 5 target) q1.0 q1.1 in
      let l2 : q2.0 ≡ q1.0 + 4 * 36 = stands_long m.code q1.0 (registers_code F ts) q2.0 q2.1 in
      let l3 : q3.0 ≡ q2.0 + 4 * 61 = stands_long m.code q2.0 (pass_code F ts) q3.0 q3.1 in
      let place_is : place + 4 * (6 + (36 + (13 + 8 * 6))) ≡ q3.0 = omega (arith, l1, l2, l3) in
      let told_there : listed m.calls q3.0 ≡ true = ap (listed m.calls) (sym place_is) ∙ told in
      let target_is : address_from (reg b0.regs 5) (pos 0) / 2 * 2 ≡ m.entries f =
      ap (λ (n : ℕ). address_from n (pos 0) / 2 * 2) (sent.kept.five ∙ sym word_is) ∙ jump_target (m.entries f) (omega (arith, built.entry)) built.even in
      let made : Made ℕ ℕ =
      record { procedure = temps target; given = temps u; mode = cast_signed w64 (temps v); size = cast_signed w64 (temps x); align = cast_signed w64 (temps y); old = temps z; old_size = cast_signed w64 (temps o) } in
      let is : flat_call b0.regs ≡ made =
      call_is b0.regs (temps target) (temps u) (temps v) (temps x) (temps y) (temps z) (temps o) sent.kept.five sent.kept.ten sent.kept.eleven sent.kept.twelve sent.kept.thirteen sent.kept.fourteen sent.kept.fifteen in
      let one : Reaches m q3.0 b0 1 (m.entries f) (record b0 { regs = set b0.regs 1 (q3.0 + 4); log = a.log ++ call (flat_call b0.regs) ∷ [] }) =
      calls_allocator m q3.0 b0 (m.entries f) q3.2.0 told_there target_is built.even in
      let R : Made ℕ ℕ → Type 0 = λ d. Reaches m q3.0 b0 1 (m.entries f) (record b0 { regs = set b0.regs 1 (q3.0 + 4); log = a.log ++ call d ∷ [] }) in
      let c' : Config = record c { log = c.log ++ call made ∷ [] } in
      let a' : Flat = record a { log = a.log ++ call made ∷ [] } in
      let t' : Tied m w b c' place a' = tied_log m w b c place a (call made ∷ []) t in
      let O : Option Proc → Type 0 = λ k. Sim m w b 116 place a (calls to k (map temps ts) c') in
      let s1 : Reaches m place a 42 q2.0 (record a { regs = h2 }) = joined m w b r1 r2 in
      let s2 : Reaches m place a (42 + sent.steps) q3.0 b0 = joined m w b s1 sent.reaches in
      let s3 : Reaches m place a (42 + sent.steps + 1) (m.entries f) (record b0 { regs = set b0.regs 1 (q3.0 + 4); log = a.log ++ call made ∷ [] }) = joined m w b s2 (subst R is one) in
      subst O (sym found)
      (call_to m w b 116 place a c' place a' t' s to ts f p found e sets way count known.1 (42 + sent.steps + 1) (set b0.regs 1 (q3.0 + 4)) sent.mem (q3.0 + 4) s3 (sent.kept.two ∙ t.sp) refl
      sent.bytes sent.above sent.below sent.held (return_place m w b q3.0 (Jalr 1 5 (pos 0)) q3.2.0) q3.2.1 (omega (arith, sent.few)))

  -- with any other number of arguments the run strays
  marked_sim : (c : Config) (place : ℕ) (a : Flat) (t : Tied m w b c place a) (s : MidStep) (to target : ℕ) (ts : List ℕ) (f : ℕ) (p : Proc) → slice_get c.here.steps c.here.next ≡ Some s → set_by s ≡ Some to →
      ways_of c.here.next s ≡ suc c.here.next ∷ [] → slice_get w.procedures f ≡ Some p → p.parameters ≡ length ts → m.entries f ≡ c.here.temps target →
      Stands m.code place (value_code t.p.frame to target ts true) (place_of m w b t.f t.p (c.here.next + 1)) → listed m.calls (place + 4 * (6 + (registers_size ts + (13 + 8 * length ts)))) ≡ true →
      AreKnown (known_in m w b t.f t.p t.act.found) c.here.next (target ∷ ts) →
      Sim m w b (32 + 14 * length ts) place a (calls_told to (slice_get w.procedures f) (map c.here.temps ts) (event_of (c.here.temps target) (map c.here.temps ts)) c)
  marked_sim c place a t s to target [] f p e sets way found count word_is stands told known = strays_sim m w b 32 c place a t
  marked_sim c place a t s to target (u ∷ []) f p e sets way found count word_is stands told known = strays_sim m w b (32 + 14 * 1) c place a t
  marked_sim c place a t s to target (u ∷ v ∷ []) f p e sets way found count word_is stands told known = strays_sim m w b (32 + 14 * 2) c place a t
  marked_sim c place a t s to target (u ∷ v ∷ x ∷ []) f p e sets way found count word_is stands told known = strays_sim m w b (32 + 14 * 3) c place a t
  marked_sim c place a t s to target (u ∷ v ∷ x ∷ y ∷ []) f p e sets way found count word_is stands told known = strays_sim m w b (32 + 14 * 4) c place a t
  marked_sim c place a t s to target (u ∷ v ∷ x ∷ y ∷ z ∷ []) f p e sets way found count word_is stands told known = strays_sim m w b (32 + 14 * 5) c place a t
  marked_sim c place a t s to target (u ∷ v ∷ x ∷ y ∷ z ∷ o ∷ []) f p e sets way found count word_is stands told known =
      allocator_sim c place a t s to target u v x y z o f p e sets way found count word_is stands told known
  marked_sim c place a t s to target (u ∷ v ∷ x ∷ y ∷ z ∷ o ∷ n ∷ ts) f p e sets way found count word_is stands told known = strays_sim m w b (32 + 14 * length (u ∷ v ∷ x ∷ y ∷ z ∷ o ∷ n ∷ ts)) c place a t

  -- ---- a call by a word

  record Fits (o : Option Proc) (n : ℕ) : Type 0 where
    proc : Proc
    is : o ≡ Some proc
    count : proc.parameters ≡ n

  takes_fits : (o : Option Proc) (n : ℕ) → takes n o ≡ true → Fits o n
  takes_fits None n h = absurd (true_not (sym h))
    where
      true_not : true ≡ false → ⊥
      true_not q = cc
  takes_fits (Some p) n h = record { proc = p; is = refl; count = grind (arith, nat_tests) }

  pub value_sim : (c : Config) (place : ℕ) (a : Flat) (t : Tied m w b c place a) (to target : ℕ) (arguments : _) (marked : Bool) → slice_get c.here.steps c.here.next ≡ Some (CallValue to target arguments marked) →
      Sim m w b (32 + 14 * length arguments.items) place a
      (calls_found (world_of m.entries w) to (c.here.temps target) (map c.here.temps arguments.items) marked (called_by m.entries 0 w.procedures (c.here.temps target)) c)
  value_sim c place a t to target arguments marked e = by_found (called_by m.entries 0 w.procedures (c.here.temps target)) refl
    where
      n : ℕ
      n = 32 + 14 * length arguments.items

      words : List ℕ
      words = map c.here.temps arguments.items

      carried : (marked : Bool) (f : ℕ) (p : Proc) → slice_get c.here.steps c.here.next ≡ Some (CallValue to target arguments marked) → slice_get w.procedures f ≡ Some p → p.parameters ≡ length arguments.items →
          m.entries f ≡ c.here.temps target →
          Sim m w b (32 + 14 * length arguments.items) place a
          (if marked then calls_told to (slice_get w.procedures f) (map c.here.temps arguments.items) (event_of (c.here.temps target) (map c.here.temps arguments.items)) c
          else calls to (slice_get w.procedures f) (map c.here.temps arguments.items) c)
      carried true f p e found count word_is =
          let s : MidStep = CallValue to target arguments true in
          let x : Here m w b c place a t s = here_step m w b c place a t s e in
          marked_sim c place a t s to target arguments.items f p e refl refl found count word_is x.has.code x.has.calls.0 x.well.ready
      carried false f p e found count word_is =
          let O : Option Proc → Type 0 = λ o. Sim m w b (32 + 14 * length arguments.items) place a (calls to o (map c.here.temps arguments.items) c) in
          subst O (sym found) (plain_sim m w b c place a t to target arguments f p e found count word_is)

      by_takes : (f : ℕ) (z : Bool) → called_by m.entries 0 w.procedures (c.here.temps target) ≡ Some f → takes (length (map c.here.temps arguments.items)) (slice_get w.procedures f) ≡ z →
          Sim m w b (32 + 14 * length arguments.items) place a
          (if z
          then (if marked then calls_told to (slice_get w.procedures f) (map c.here.temps arguments.items) (event_of (c.here.temps target) (map c.here.temps arguments.items)) c
          else calls to (slice_get w.procedures f) (map c.here.temps arguments.items) c)
          else strays c)
      by_takes f true q h =
          let k : Fits (slice_get w.procedures f) (length (map c.here.temps arguments.items)) = takes_fits (slice_get w.procedures f) (length (map c.here.temps arguments.items)) h in
          carried marked f k.proc e k.is (k.count ∙ length_map m w b c.here.temps arguments.items) (called_word m w b m.entries 0 w.procedures (c.here.temps target) f q)
      by_takes f false q h = strays_sim m w b (32 + 14 * length arguments.items) c place a t

      by_found : (o : Option ℕ) → called_by m.entries 0 w.procedures (c.here.temps target) ≡ o →
          Sim m w b (32 + 14 * length arguments.items) place a (calls_found (world_of m.entries w) to (c.here.temps target) (map c.here.temps arguments.items) marked o c)
      by_found None q = strays_sim m w b (32 + 14 * length arguments.items) c place a t
      by_found (Some f) q = by_takes f (takes (length (map c.here.temps arguments.items)) (slice_get w.procedures f)) q refl
