-- The configuration in which a run begins, and the theorem: the image of a program keeps its runs.
use Rattle.std.proofs.Common.{◌≡◌, ℕ, zero, suc, ◌+◌, ◌-◌, ◌*◌, ◌^◌, ◌<◌, ◌≤◌, Bool, true, false, cond, ◌⊎◌, inl, inr, List, [], ◌∷◌, ◌++◌, length, map, take, drop, arith, ap, ◌∙◌, sym, subst, refl, lit<, lit≤}
use Rattle.std.specs.Prelude.{pos, ◌==◌, nat_lt, Option, Some, None, slice_get, get_or, if◌then◌else◌}
use Rattle.std.specs.Int.{w64, to_le_bytes}
use Rattle.std.proofs.lemmas.Bool.Decides.{nat_tests}
use Rattle.rv_table.specs.Bytes.{run, written}
use Rattle.rv_table.proofs.Areas.{or_parts}
use Rattle.rv_table.specs.declared.inst.Inst.{Inst}
use Rattle.rv_table.specs.declared.inst.Inst.TheVariants.{Jalr, Addi, Ecall}
use Rattle.odc_core.specs.Well.{AreBytes}
use Rattle.odc_mid.specs.Tree.{Proc, Whole}
use Rattle.rv_emit.specs.Code.{number_code}
use Rattle.rv_emit.proofs.Flat.{Setting, layout, Flat, Regs, stands_parts, Reaches}
use Rattle.rv_emit.proofs.Steps.{putting, adds, shifts, jumps}
use Rattle.rv_emit.proofs.Numbers.{number_sim}
use Rattle.rv_emit.proofs.Ranges.{InRegion}
use Rattle.rv_emit.proofs.simulation.Ties.{IsBuilt, Built, place_of, IsActivation, known_in, Tied}
use Rattle.rv_emit.proofs.simulation.Sims.{stands_long, joined}
use Rattle.std.proofs.Math.Nat.{le_refl}
use Rattle.odc_mid.specs.Run.{world_of}
use Rattle.rv_emit.specs.Code.{text_start}
use Rattle.rv_table.proofs.Bytes.{run_apart, run_written, written_out}
use Rattle.odc_core.specs.Frames.{stack_low, has_room, in_variables, touched_in}
use Rattle.odc_core.specs.Memory.{lies}
use Rattle.odc_mid.specs.Run.{activation_of}
use Rattle.rv_emit.proofs.Ranges.{stack}
use Rattle.rv_emit.proofs.Words.{word_bytes}
use Rattle.rv_emit.proofs.simulation.Ties.{written_bytes, or_false, lies_above}
use Rattle.rv_emit.proofs.simulation.Jumps.{jump_target}
use Rattle.odc_text.specs.Run.{Entry}
use Rattle.rv_emit.specs.Code.{text_start}
use Rattle.rv_emit.specs.Layout.{HasSlots}
use Rattle.rv_emit.proofs.simulation.Calls.{Entered, enter_sim}
use Rattle.odc_mid.specs.Run.{world_of}
use Rattle.std.specs.Prelude.{◌||◌}
use Rattle.std.specs.Prelude.{replicate}
use Rattle.std.specs.List.{flat_map}
use Rattle.std.specs.Int.{w32}
use Rattle.std.proofs.Common.{length-append}
use Rattle.std.proofs.lemmas.List.{length-replicate, get_or-replicate}
use Rattle.rv_table.specs.Run.{Range, Site, area_of, started, machine}
use Rattle.rv_table.specs.Areas.{Shape, shape}
use Rattle.rv_table.specs.Standing.{StandFrom}
use Rattle.rv_table.proofs.Bytes.{run_join}
use Rattle.odc_text.specs.Follow.{KeepsOn}
use Rattle.odc_core.specs.Frames.{touched_always, stack_end, store_low, heap_low, heap_size, temp_low, temp_size}
use Rattle.odc_core.specs.Program.{first_memory, first_byte}
use Rattle.odc_mid.specs.Run.{first_config, run_main, mid}
use Rattle.odc_mid.specs.Well.{IsWell, IsMain}
use Rattle.rv_emit.specs.Layout.{text_range, memory_at, memory_ranges, image_with, AllHaveSlots, factor}
use Rattle.rv_emit.specs.Emitted.{IsEmitted, IsKept}
use Rattle.rv_emit.specs.Encoded.{Mean, IsEncoded}
use Rattle.rv_emit.proofs.Flat.{Is, There, layout}
use Rattle.rv_emit.proofs.Ranges.{always_in, low_of, Region, store, heap, temp}
use Rattle.rv_table.proofs.Areas.{or_parts}
use Rattle.rv_emit.proofs.simulation.Enters.{variables_inside}
use Rattle.odc_mid.specs.Run.{activation_of}
use Rattle.rv_emit.proofs.Placed.{setting, built}
use Rattle.rv_emit.proofs.simulation.Runs.{keeps_from, mid_from, runs_from}

-- the bytes of the text and of the store, and zeros around them
abbrev pub first_bytes : List ℕ → List ℕ → ℕ → ℕ
first_bytes text bytes = written (written (λ _. 0) text_start text) store_low bytes

abbrev pub first_flat : List ℕ → List ℕ → List ℕ → Flat
first_flat text bytes input = record { regs = λ r. 0; mem = first_bytes text bytes; log = []; input = input; taken = 0 }

length_words : (words : List ℕ) → length (flat_map (to_le_bytes w32) words) ≡ 4 * length words
length_words [] = refl
length_words (w ∷ ws) = let rest : length (flat_map (to_le_bytes w32) ws) ≡ 4 * length ws = length_words ws in omega arith

length_mean : (words : List ℕ) (code : List Inst) → Mean words code → length words ≡ length code
length_mean [] [] h = refl
length_mean (w ∷ ws) (i ∷ is) h = ap suc (length_mean ws is h.1)
length_mean [] (i ∷ is) h = absurd h
length_mean (w ∷ ws) [] h = absurd h

pub length_encoded : (text : List ℕ) (code : List Inst) → IsEncoded text code → length text ≡ 4 * length code
length_encoded text code e = ap length e.bytes ∙ length_words e.words ∙ ap (λ (n : ℕ). 4 * n) (length_mean e.words code e.mean)

stand_mean : (words : List ℕ) (code : List Inst) (f : ℕ → ℕ) (at : ℕ) → Mean words code → run f at (4 * length words) ≡ flat_map (to_le_bytes w32) words → StandFrom f at code
stand_mean [] [] f at h e = tt
stand_mean (w ∷ ws) (i ∷ is) f at h e =
    let more : 4 * suc (length ws) ≡ 4 + 4 * length ws = omega arith in
    let parts : run f at 4 ++ run f (at + 4) (4 * length ws) ≡ to_le_bytes w32 w ++ flat_map (to_le_bytes w32) ws =
    sym (run_join f at 4 (4 * length ws)) ∙ ap (run f at) (sym more) ∙ e in (
      record { word = w; fits = h.0.0; means = h.0.1; bytes = ap (take 4) parts },
      stand_mean ws is f (at + 4) h.1 (ap (drop 4) parts),
    )
stand_mean [] (i ∷ is) f at h e = absurd h
stand_mean (w ∷ ws) [] f at h e = absurd h

run_zeros : (f : ℕ → ℕ) (a n : ℕ) → ((x : ℕ) → a ≤ x → f x ≡ 0) → run f a n ≡ replicate n 0
run_zeros f a zero h = refl
run_zeros f a (suc n) h =
    let first : f a ≡ 0 = h a (omega arith) in
    let rest : run f (a + 1) n ≡ replicate n 0 = run_zeros f (a + 1) n (λ x l. h x (omega arith)) in
    ap (λ (x : ℕ). x ∷ run f (a + 1) n) first ∙ ap (λ (xs : List ℕ). 0 ∷ xs) rest

-- a range holds its first bytes and zeros behind them
range_shown : (f : ℕ → ℕ) (r : Range) → run f r.start (length r.bytes) ≡ r.bytes → ((x : ℕ) → r.start + length r.bytes ≤ x → f x ≡ 0) ⊎ (r.size ≤ length r.bytes) →
    run f r.start (length (area_of r).bytes) ≡ (area_of r).bytes
range_shown f r front back =
    let n : ℕ = r.size - length r.bytes in
    let count : length (r.bytes ++ replicate n 0) ≡ length r.bytes + n = length-append r.bytes (replicate n 0) ∙ ap (λ (k : ℕ). length r.bytes + k) (length-replicate n 0) in
    ap (run f r.start) count ∙ run_join f r.start (length r.bytes) n ∙ ap (λ (xs : List ℕ). xs ++ run f (r.start + length r.bytes) n) front ∙ ap (λ (xs : List ℕ). r.bytes ++ xs) behind
  where
    behind : run f (r.start + length r.bytes) (r.size - length r.bytes) ≡ replicate (r.size - length r.bytes) 0
    behind = elim back [
      | inl zeros ↦ run_zeros f (r.start + length r.bytes) (r.size - length r.bytes) zeros
      | inr none ↦ (let same : r.size - length r.bytes ≡ 0 = omega (arith, none) in ap (run f (r.start + length r.bytes)) same ∙ ap (λ (k : ℕ). replicate k 0) (sym same))
    ]

abbrev range_shape : Range → Shape
range_shape r = record { start = r.start; size = r.size; readable = r.readable; writable = r.writable; executable = r.executable }

shape_is : (r : Range) → length r.bytes ≤ r.size → shape (area_of r) ≡ range_shape r
shape_is r h =
    let n : ℕ = r.size - length r.bytes in
    let count : length (r.bytes ++ replicate n 0) ≡ r.size = length-append r.bytes (replicate n 0) ∙ ap (λ (k : ℕ). length r.bytes + k) (length-replicate n 0) ∙ omega arith in
    ap (λ (k : ℕ). let s : Shape = record { start = r.start; size = k; readable = r.readable; writable = r.writable; executable = r.executable } in s) count

abbrev AreRoomy : List Range → Type 0
AreRoomy [] = Unit {0}
AreRoomy (r ∷ rs) = (length r.bytes ≤ r.size) × AreRoomy rs

shapes_are : (rs : List Range) → AreRoomy rs → map shape (map area_of rs) ≡ map range_shape rs
shapes_are [] h = refl
shapes_are (r ∷ rs) h = ap (λ (s : Shape). s ∷ map shape (map area_of rs)) (shape_is r h.0) ∙ ap (λ (ss : List Shape). range_shape r ∷ ss) (shapes_are rs h.1)

no_registers : Regs (record { registers = replicate 32 0; pc = 0; areas = [] }) (λ r. 0)
no_registers = record {
  count = refl;
  each = λ r small. get_or-replicate 32 r 0 0 small ∙ by (r == 0);
}
  where
    by : (t : Bool) → ◌≡◌ {A = ℕ} 0 (if t then 0 else 0)
    by true = refl
    by false = refl

bytes_of_text : (words : List ℕ) → AreBytes (flat_map (to_le_bytes w32) words)
bytes_of_text [] = tt
bytes_of_text (v ∷ words) = (omega arith, (omega arith, (omega arith, (omega arith, bytes_of_text words))))

module _ (w : Whole) (well : IsWell w) (slots : AllHaveSlots w.procedures) (entries : ℕ → ℕ) (text : List ℕ) (sites : List Site) (calls : List ℕ) (e : IsEmitted w entries text sites calls) (input : List ℕ) (given : AreBytes input) where
  abbrev m : Setting
  m = setting w entries text sites calls e well

  abbrev b : Built m w
  b = built w entries text sites calls e well slots

  encoded : IsEncoded text e.code
  encoded = e.encoded

  abbrev f0 : ℕ → ℕ
  f0 = first_bytes text w.store

  count : length text ≡ 4 * length e.code
  count = length_encoded text e.code encoded

  low_text : length text ≤ 0x4fff_0000
  low_text = omega (arith, count, m.short)

  in_front : (x : ℕ) → x < store_low → f0 x ≡ written (λ _. 0) text_start text x
  in_front x h = written_out (written (λ _. 0) text_start text) store_low w.store x (inl h)

  beyond : (x : ℕ) → store_low + length w.store ≤ x → f0 x ≡ 0
  beyond x h = written_out (written (λ _. 0) text_start text) store_low w.store x (inr h) ∙ written_out (λ _. 0) text_start text x (inr (omega (arith, low_text)))

  text_there : run f0 text_start (length text) ≡ text
  text_there = run_apart (written (λ _. 0) text_start text) store_low w.store text_start (length text) (inl (omega (arith, low_text))) ∙ run_written (λ _. 0) text_start text

  stands_there : StandFrom f0 text_start e.code
  stands_there =
      let long : 4 * length encoded.words ≡ length text = sym (length_words encoded.words) ∙ ap length (sym encoded.bytes) in
      stand_mean encoded.words e.code f0 text_start encoded.mean (ap (run f0 text_start) long ∙ text_there ∙ encoded.bytes)

  begins : Is m (started (image_with w text sites calls) input) text_start (first_flat text w.store input)
  begins = record {
    pc = refl;
    regs = record { count = no_registers.count; each = no_registers.each };
    shows = (
      range_shown f0 (text_range text) text_there (inr (le_refl (length text))),
      (
        range_shown f0 (memory_at store_low w.store_size w.store) (run_written (written (λ _. 0) text_start text) store_low w.store) (inl (λ x l. beyond x l)),
        (
          range_shown f0 (memory_at heap_low heap_size []) refl (inl (λ x l. beyond x (omega (arith, l, well.store, well.low)))),
          (
            range_shown f0 (memory_at temp_low temp_size []) refl (inl (λ x l. beyond x (omega (arith, l, well.store, well.low)))),
            (range_shown f0 (memory_at stack_low (2 ^ 27) []) refl (inl (λ x l. beyond x (omega (arith, l, well.store, well.low)))), tt),
          ),
        ),
      ),
    );
    shapes =
        shapes_are (text_range text ∷ memory_ranges w.store w.store_size) (le_refl (length text), (well.store, (lit≤ tt, (lit≤ tt, (lit≤ tt, tt))))) ∙ ap (λ (n : ℕ). layout n w.store_size) count;
    text = stands_there;
    log = refl;
    input = refl;
    taken = refl;
  }

  bytes_there : (x : ℕ) → f0 x < 256
  bytes_there x =
      let T : List ℕ → Type 0 = λ bs. AreBytes bs in
      written_bytes m w b (written (λ _. 0) text_start text) store_low w.store x well.bytes
      (λ y. written_bytes m w b (λ _. 0) text_start text y (subst T (sym encoded.bytes) (bytes_of_text encoded.words)) (λ z. omega arith))

  -- what the store holds at first
  store_byte : (xs : List ℕ) (a x : ℕ) (f : ℕ → ℕ) → a ≤ x → ((y : ℕ) → a ≤ y → f y ≡ 0) → written f a xs x ≡ get_or xs (x - a) 0
  store_byte [] a x f h zeros = zeros x h
  store_byte (v ∷ xs) a x f h zeros = by (x == a) refl (λ l. store_byte xs (a + 1) x f l (λ y k. zeros y (omega (arith, k))))
    where
      by : (z : Bool) → (x == a) ≡ z → (a + 1 ≤ x → written f (a + 1) xs x ≡ get_or xs (x - (a + 1)) 0) → cond z v (written f (a + 1) xs x) ≡ get_or (v ∷ xs) (x - a) 0
      by true e rest =
          let same : x - a ≡ 0 = (let q : x ≡ a = grind (arith, nat_tests) in omega arith) in
          sym (ap (λ (k : ℕ). get_or (v ∷ xs) k 0) same)
      by false e rest =
          let more : a + 1 ≤ x = (let q : (x < a) ⊎ (a < x) = grind (arith, nat_tests) in elim q [ inl l ↦ absurd (omega (arith, l, h)) | inr l ↦ omega (arith, l) ]) in
          let next : x - a ≡ suc (x - (a + 1)) = omega (arith, more) in
          rest more ∙ sym (ap (λ (k : ℕ). get_or (v ∷ xs) k 0) next)

  first_shown : (x v : ℕ) → touched_always w.store_size x ≡ true → first_memory w.store w.store_size x ≡ Some v → f0 x ≡ v
  first_shown x v may is = by (touched_always w.store_size x) may is
    where
      low_region : (r : Region) → low_of r ≤ x → store_low ≤ x
      low_region store h = omega (arith, h)
      low_region heap h = omega (arith, h)
      low_region temp h = omega (arith, h)
      low_region stack h = omega (arith, h)

      above : store_low ≤ x
      above = let r : InRegion w.store_size x = always_in w.store_size x may in low_region r.region r.is.low

      no_truth : true ≡ false → ⊥
      no_truth r = cc

      by : (z : Bool) → z ≡ true → (if z then Some (first_byte w.store x) else None) ≡ Some v → f0 x ≡ v
      by false q e = absurd (no_truth (sym q))
      by true q e =
          let value : first_byte w.store x ≡ v = cc in
          let test : nat_lt x store_low ≡ false = grind (arith, nat_tests, above) in
          let byte_is : first_byte w.store x ≡ get_or w.store (x - store_low) 0 = ap (λ (k : Bool). if k then 0 else get_or w.store (x - store_low) 0) test in
          store_byte w.store store_low x (written (λ _. 0) text_start text) above (λ y l. written_out (λ _. 0) text_start text y (inr (omega (arith, low_text, l)))) ∙ sym byte_is ∙ value

  always_low : (x : ℕ) → stack_low ≤ x → touched_always w.store_size x ≡ false
  always_low x h =
      or_false (lies store_low w.store_size x) (lies heap_low heap_size x || lies temp_low temp_size x) (lies_above store_low w.store_size x (omega (arith, h, well.low)))
      (or_false (lies heap_low heap_size x) (lies temp_low temp_size x) (lies_above heap_low heap_size x (omega (arith, h))) (lies_above temp_low temp_size x (omega (arith, h))))

  -- ---- the first step of the program

  module _ (p : Proc) (found : slice_get w.procedures w.main ≡ Some p) where
    abbrev base : ℕ
    base = 2 ^ 31

    abbrev f1 : ℕ → ℕ
    f1 = written f0 (base - p.frame) (to_le_bytes w64 (text_start + 28))

    first_frame : (8 ≤ p.frame) × (p.frame ≤ 2 ^ 24)
    first_frame = let slots : HasSlots p = (b.procs w.main p found).slots in (omega (arith, slots), (b.procs w.main p found).well.fits)

    first_act : IsActivation m w b (activation_of p [] (touched_always w.store_size) stack_end) (touched_always w.store_size) stack_end w.main p
    first_act = record {
      found = found;
      steps = refl;
      variables = refl;
      high = omega (arith, first_frame.1);
      bottom = omega (arith, first_frame.1);
      top = omega arith;
      touched = λ x. refl;
      above = λ x l u. always_low x l;
      region = λ x may. elim (or_parts (in_variables (stack_end - p.frame) p.variables x) (touched_always w.store_size x) may) [
        | inl l ↦ (let i = variables_inside (stack_end - p.frame) p.frame x p.variables (b.procs w.main p found).well.laid l in
            record { region = stack; is = record { low = omega (arith, i.0, first_frame.1); high = omega (arith, i.1, first_frame.1) } })
        | inr l ↦ always_in w.store_size x l.1
      ];
    }

    no_word : (t : ℕ) → known_in m w b w.main p found 0 t ≡ true → p.parameters ≡ 0 → ⊥
    no_word t k none = let h : t < p.parameters = (b.procs w.main p found).well.handed t k in omega (arith, h, none)

    first_tied : p.parameters ≡ 0 → (h : ℕ → ℕ) → h 2 ≡ base - p.frame → Tied m w b (first_config w p input) (place_of m w b w.main p 0) (record { regs = h; mem = f1; log = []; input = input; taken = 0 })
    unfolding first_act
    first_tied none h sp = record {
      f = w.main;
      p = p;
      back = text_start + 28;
      act = first_act;
      at = refl;
      sp = sp;
      held = λ t k. absurd (no_word t k none);
      saved = run_written f0 (base - p.frame) (to_le_bytes w64 (text_start + 28));
      return = record { small = lit< tt; even = refl };
      waiting = refl;
      shows = λ x v may is. by x v (lies (stack_end - p.frame) p.frame x) refl may is;
      bytes = λ x. written_bytes m w b f0 (base - p.frame) (to_le_bytes w64 (text_start + 28)) x (word_bytes (text_start + 28)) bytes_there;
      log = refl;
      input = refl;
      taken = refl;
      given = given;
    }
      where
        by : (x v : ℕ) (z : Bool) → lies (stack_end - p.frame) p.frame x ≡ z → touched_in (touched_always w.store_size) (stack_end - p.frame) p.variables x ≡ true →
            (if z then None else first_memory w.store w.store_size x) ≡ Some v → f1 x ≡ v
        by x v true q may is = cc
        by x v false q may is =
            let away : (x < stack_end - p.frame) ⊎ (stack_end - p.frame + p.frame ≤ x) = grind (arith, nat_tests) in
            let always : touched_always w.store_size x ≡ true = elim (or_parts (in_variables (stack_end - p.frame) p.variables x) (touched_always w.store_size x) may) [
              | inl l ↦ (let i = variables_inside (stack_end - p.frame) p.frame x p.variables (b.procs w.main p found).well.laid l in
                  absurd (elim away [ inl k ↦ omega (arith, k, i.0) | inr k ↦ omega (arith, k, i.1) ]))
              | inr l ↦ l.1
            ] in
            let out' : (x < base - p.frame) ⊎ (base - p.frame + 8 ≤ x) = elim away [ inl k ↦ inl k | inr k ↦ inr (omega (arith, k, first_frame.0, first_frame.1)) ] in
            written_out f0 (base - p.frame) (to_le_bytes w64 (text_start + 28)) x out' ∙ first_shown x v always is

    record Begun : Type 0 where
      regs : ℕ → ℕ
      sp : regs 2 ≡ base - p.frame
      reaches : Reaches m text_start (first_flat text w.store input) 18 (place_of m w b w.main p 0) (record { regs = regs; mem = f1; log = []; input = input; taken = 0 })

    begun : Begun
    begun =
        let a0 : Flat = first_flat text w.store input in
        let entry : ℕ = entries w.main in
        let built_main : IsBuilt m w w.main p = b.procs w.main p found in
        let code = b.start in
        let tail : List Inst = Jalr 1 6 (pos 0) ∷ Addi 10 0 (pos 0) ∷ Addi 17 0 (pos 93) ∷ Ecall ∷ [] in
        let q = stands_parts m.code (text_start + 4 + 4) (number_code 6 entry) tail (text_start + 40) code.1.1 in
        let far : q.0 ≡ text_start + 4 + 4 + 4 * 4 = stands_long m.code (text_start + 4 + 4) (number_code 6 entry) q.0 q.1 in
        let a1 : Flat = putting a0 2 1 in
        let a2 : Flat = putting a1 2 (2 ^ 31) in
        let a3 : Flat = putting a2 6 entry in
        let a4 : Flat = putting a3 1 (q.0 + 4) in
        let one : Reaches m text_start a0 1 (text_start + 4) a1 = adds m text_start a0 2 0 (pos 1) 1 code.0 (lit< tt) (lit< tt) refl in
        let two : Reaches m (text_start + 4) a1 1 (text_start + 4 + 4) a2 = shifts m (text_start + 4) a1 2 2 31 (2 ^ 31) code.1.0 (lit< tt) (lit< tt) refl in
        let three : Reaches m (text_start + 4 + 4) a2 4 q.0 a3 = number_sim m (text_start + 4 + 4) q.0 a2 6 entry q.1 (lit< tt) (lit< tt) built_main.entry in
        let four : Reaches m q.0 a3 1 entry a4 =
        jumps m q.0 a3 1 6 (pos 0) entry q.2.0 refl (lit< tt) (lit< tt) (jump_target entry (omega (arith, built_main.entry)) built_main.even) built_main.even in
        let room : has_room (2 ^ 31) p.frame ≡ true = grind (arith, nat_tests, first_frame.1) in
        let five : Entered m w b entry (place_of m w b w.main p 0) a4 (2 ^ 31) p.frame (text_start + 28) =
        enter_sim m w b entry (place_of m w b w.main p 0) a4 (2 ^ 31) p.frame (text_start + 28) built_main.has.site built_main.has.enter refl (omega (arith, far)) (le_refl (2 ^ 31)) first_frame.1 first_frame.0 room in
        let s1 : Reaches m text_start a0 2 (text_start + 4 + 4) a2 = joined m w b one two in
        let s2 : Reaches m text_start a0 6 q.0 a3 = joined m w b s1 three in
        let s3 : Reaches m text_start a0 7 entry a4 = joined m w b s2 four in
        record { regs = five.regs; sp = five.sp; reaches = joined m w b s3 five.reaches }

    pub keeps_main : p.parameters ≡ 0 → KeepsOn (factor w) 18 (λ (x : Entry ℕ ℕ). x) (mid_from m w b (first_config w p)) (runs_from m w b (started (image_with w text sites calls))) input
    keeps_main none =
        let x : Begun = begun in
        let there : There m (started (image_with w text sites calls) input) 18 (place_of m w b w.main p 0) (record { regs = x.regs; mem = f1; log = []; input = input; taken = 0 }) = x.reaches.by (started (image_with w text sites calls) input) begins in
        keeps_from m w b (first_config w p) (started (image_with w text sites calls)) input there.last 18 there.leads
        (record {
          place = place_of m w b w.main p 0;
          flat = record { regs = x.regs; mem = f1; log = []; input = input; taken = 0 };
          is = there.is;
          tied = first_tied none x.regs x.sp;
        })

-- an image in which each procedure is emitted keeps the runs of the program, on each input of bytes
pub keeps : (w : Whole) → IsWell w → AllHaveSlots w.procedures → (entries : ℕ → ℕ) (text : List ℕ) (sites : List Site) (calls : List ℕ) → IsEmitted w entries text sites calls →
    IsKept entries w (image_with w text sites calls)
keeps w well slots entries text sites calls e input given = by (slice_get w.procedures w.main) refl well.main
  where
    by : (o : Option Proc) → slice_get w.procedures w.main ≡ o → IsMain o → KeepsOn (factor w) 18 (λ (x : Entry ℕ ℕ). x) (mid entries w) (machine (image_with w text sites calls)) input
    by None q none = absurd none
    by (Some p) q none =
        let P : Option Proc → Type 0 = λ o. KeepsOn (factor w) 18 (λ (x : Entry ℕ ℕ). x) (run_main (world_of entries w) w o) (machine (image_with w text sites calls)) input in
        let r = keeps_main w well slots entries text sites calls e input given p q none in
        subst P (sym q) (record { goes = r.goes; far = r.far; sound = r.sound; cheap = r.cheap })
