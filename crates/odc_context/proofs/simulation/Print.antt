-- A value and the byte behind it are printed, and a newline alone.
use Rattle.std.proofs.Common.{◌≡◌, ℕ, ◌+◌, ◌-◌, ◌*◌, ◌^◌, ◌<◌, ◌≤◌, ◌⊎◌, inl, inr, Bool, true, false, List, [], ◌∷◌, ◌++◌, length, map, arith, ap, ◌∙◌, sym, subst, refl, lit<, lit≤, length-append}
use Rattle.std.specs.Prelude.{ℤ, decimal, nat_lt, not}
use Rattle.std.specs.Int.{w64, cast_signed}
use Rattle.std.proofs.lemmas.Bool.Decides.{nat_tests}
use Rattle.std.proofs.lemmas.Fmt.{length-decimal-le}
use Rattle.odc_text.specs.declared.place.Place.{Place}
use Rattle.odc_text.specs.Run.{out, Log}
use Rattle.rv_table.specs.Words.{minus, flag, signed_below}
use Rattle.rv_table.proofs.Bytes.{run_same}
use Rattle.odc_typed.specs.Source.{int_text}
use Rattle.odc_core.specs.declared.tree.BinaryOp.TheVariants.{Add, Subtract}
use Rattle.odc_core.specs.declared.tree.Comparison.TheVariants.{Less}
use Rattle.odc_core.specs.Tree.{Stmt, const, slot, binary, compare, choose, repeat, Stmts, finish, follow}
use Rattle.odc_core.specs.Words.{bytes_of}
use Rattle.odc_core.specs.Memory.{Memory, put}
use Rattle.odc_core.specs.Run.{World, falls, moved, turns}
use Rattle.odc_context.specs.Code.{Own, offset_of, word_at, number, pointer_at, number_at, buffer_at, join, one, held, before, digit_code, write_code, print_code, newline_code}
use Rattle.odc_context.specs.Code.{put as set}
use Rattle.odc_context.proofs.Runs.{Runs, runs_node}
use Rattle.odc_context.proofs.Turns.{all_turns}
use Rattle.odc_context.proofs.Touched.{WordAt, word_apart, put_word, put_away, word_variable, number_variable}
use Rattle.odc_context.proofs.simulation.Signs.{signed_low, signed_high, below_low, below_high, negated}
use Rattle.odc_context.proofs.Frame.{ev, ex, ex1, r_const, r_held, r_binary, r_compare, r_set, r_follow, r_none, r_one, r_join, r_choose}
use Rattle.odc_context.proofs.simulation.Printing.{Hand, IsLow, Begun, before_runs, Looped, loop, start, started, finish_runs, fewer_word}

-- only the number's bytes changed
hand_number : (low : ℕ) (m0 m m' : Memory) (text : List ℕ) → ((x : ℕ) → (x < low + 80) ⊎ (low + 88 ≤ x) → m' x ≡ m x) → Hand low m0 m text → Hand low m0 m' text
hand_number low m0 m m' text same h = record {
  first = h.first;
  pointer = word_apart m m' (low + 64) h.first (λ x from to. same x (inl (omega arith))) h.pointer;
  place = h.place;
  bytes = run_same m' m h.first (length text) (λ x from to. same x (inl (omega (arith, h.place)))) ∙ h.bytes;
  others = λ x away. same x (elim away [ inl a ↦ inl (omega arith) | inr a ↦ inr a ]) ∙ h.others x away;
}

is_false : (b : Bool) → not b ≡ true → b ≡ false
is_false true e = cc
is_false false e = refl

is_true : (b : Bool) → not b ≡ false → b ≡ true
is_true true e = refl
is_true false e = cc

module _ (j : ℕ) (world : World) (at : Place) (low : ℕ) (o : Own) (outer : ℕ → Bool) (is : IsLow low) where
  -- a text is printed; only the lowest bytes of the frame change
  pub record Printed (ss : Stmts) (m : Memory) (l : Log ℕ ℕ) (text : List ℕ) : Type 0 where
    pub memory : Memory
    pub budget : ℕ
    pub cost : ℕ
    pub runs : Runs j (ex j world at low o outer ss) m l budget cost falls memory (l ++ map out text)
    pub cheap : cost ≤ 100 * length text
    pub others : (x : ℕ) → (x < low + 16) ⊎ (low + 88 ≤ x) → memory x ≡ m x

  -- the number's bytes hold a word, and nothing else changed
  record Signed (s : Stmt) (m : Memory) (l : Log ℕ ℕ) (u : ℕ) : Type 0 where
    pub memory : Memory
    pub budget : ℕ
    pub cost : ℕ
    pub runs : Runs j (ex1 j world at low o outer s) m l budget cost falls memory l
    pub cheap : cost ≤ 14
    pub number : WordAt memory (low + 80) u
    pub others : (x : ℕ) → (x < low + 80) ⊎ (low + 88 ≤ x) → memory x ≡ m x

  -- the sign comes in front of what is in hand
  record Fronted (s : Stmt) (m0 m : Memory) (l : Log ℕ ℕ) (text : List ℕ) : Type 0 where
    pub memory : Memory
    pub budget : ℕ
    pub cost : ℕ
    pub runs : Runs j (ex1 j world at low o outer s) m l budget cost falls memory l
    pub cheap : cost ≤ 20
    pub hand : Hand low m0 memory text

  module _ (m : Memory) (l : Log ℕ ℕ) (x v behind : ℕ) (inside : x < o.first + o.waiting) (small : v < 2 ^ 64) (word : WordAt m (low + offset_of x) v) (byte : behind < 256) where
    -- the value still waits
    still : (m' : Memory) → ((y : ℕ) → (y < low + 16) ⊎ (low + 88 ≤ y) → m' y ≡ m y) → WordAt m' (low + offset_of x) v
    still m' same = word_apart m m' (low + offset_of x) v (λ y from to. same y (inr (omega arith))) word

    r_value : (m' : Memory) → WordAt m' (low + offset_of x) v → Runs j (ev j world at low o outer (held x)) m' l 2 3 v m' l
    r_value m' w = r_held j world at low o outer x (word_at x) v m' l (word_variable o x inside) (lit≤ tt) small w

    r_sign : (m' : Memory) (t : Bool) → signed_below v 0 ≡ t → WordAt m' (low + offset_of x) v → Runs j (ev j world at low o outer (compare Less (held x) (const 0))) m' l 4 5 (flag t) m' l
    r_sign m' t e w =
        let P : Bool → Type 0 = λ b. Runs j (ev j world at low o outer (compare Less (held x) (const 0))) m' l 4 5 (flag b) m' l in
        subst P e (r_compare j world at low o outer Less (held x) (const 0) m' l 2 3 1 1 v 0 (r_value m' w) (r_const j world at low o outer 0 m' l))

    print_by : (u : ℕ) (sign : List ℕ) → u < 2 ^ 64 → length sign ≤ 1 →
        ((m' : Memory) → WordAt m' (low + offset_of x) v → WordAt m' (low + 80) v →
        Signed (choose (compare Less (held x) (const 0)) (one (set (number_at o) (binary Subtract (const 0) (held x)))) finish) m' l u) →
        ((m' : Memory) (text : List ℕ) → Hand low m m' text → length text < 32 → WordAt m' (low + offset_of x) v →
        Fronted (choose (compare Less (held x) (const 0)) (before o (const 45)) finish) m m' l (sign ++ text)) →
        Printed (follow (set (pointer_at o) (binary Add (slot (buffer_at o)) (const 32)))
        (join (before o (const behind))
        (follow (set (number_at o) (held x))
        (follow (choose (compare Less (held x) (const 0)) (one (set (number_at o) (binary Subtract (const 0) (held x)))) finish)
        (follow (repeat (digit_code o))
        (follow (choose (compare Less (held x) (const 0)) (before o (const 45)) finish)
        (one (write_code o)))))))) m l (sign ++ (decimal u ++ (behind ∷ [])))
    print_by u sign u_small short signed fronted =
        let S1 = set (pointer_at o) (binary Add (slot (buffer_at o)) (const 32)) in
        let S3 = set (number_at o) (held x) in
        let S4 = choose (compare Less (held x) (const 0)) (one (set (number_at o) (binary Subtract (const 0) (held x)))) finish in
        let S5 = repeat (digit_code o) in
        let S6 = choose (compare Less (held x) (const 0)) (before o (const 45)) finish in
        let S7 = write_code o in
        let digits_fit : length (decimal u) ≤ 20 = length-decimal-le 20 u (lit< tt) (omega arith) u_small in
        let m1 : Memory = put m (low + 64) (bytes_of 8 (low + 48)) in
        let b : Begun j world at low o outer is m m1 l (const behind) behind [] (9 + 1) (13 + 1) =
        before_runs j world at low o outer is m m1 l (const behind) behind [] 1 1 (started world at low o outer is j m) (lit< tt) byte (λ m' same. r_const j world at low o outer behind m' l) in
        let m2 : Memory = b.memory in
        let m3 : Memory = put m2 (low + 80) (bytes_of 8 v) in
        let h3 : Hand low m m3 (behind ∷ []) = hand_number low m m2 m3 (behind ∷ []) (λ y away. put_away m2 (low + 80) v y (elim away [ inl a ↦ inl a | inr a ↦ inr (omega arith) ])) b.hand in
        let r3 : Runs j (ex1 j world at low o outer S3) m2 l 4 6 falls m3 l =
        r_set j world at low o outer (number_at o) number (held x) m2 m2 l l 2 3 v (number_variable o) (lit≤ tt) (r_value m2 (still m2 b.hand.others)) in
        let s : Signed S4 m3 l u = signed m3 (still m3 h3.others) (put_word m2 (low + 80) v) in
        let m4 : Memory = s.memory in
        let h4 : Hand low m m4 (behind ∷ []) = hand_number low m m3 m4 (behind ∷ []) s.others h3 in
        let p : Looped world at low o outer is 0 j m m4 l u (behind ∷ []) = loop world at low o outer is 19 0 j m m4 l u (behind ∷ []) (fewer_word u u_small) (omega arith) u_small h4 (omega arith) s.number in
        let m5 : Memory = p.memory in
        let r5 : Runs j (ex1 j world at low o outer S5) m4 l (p.budget + 1) (p.cost + 1) falls m5 l =
        runs_node j (λ n. turns n (ex j world at low o outer (digit_code o) n)) m4 l p.budget p.cost falls m5 l
        (all_turns j (ex j world at low o outer (digit_code o)) m4 m5 l l p.budget p.cost falls p.runs) in
        let digits : List ℕ = decimal u ++ (behind ∷ []) in
        let count : length digits ≡ length (decimal u) + 1 = length-append (decimal u) (behind ∷ []) in
        let f : Fronted S6 m m5 l (sign ++ digits) = fronted m5 digits p.hand (omega (arith, count)) (still m5 p.hand.others) in
        let m6 : Memory = f.memory in
        let text : List ℕ = sign ++ digits in
        let counted : length text ≡ length sign + (length (decimal u) + 1) = length-append sign digits ∙ ap (λ (n : ℕ). length sign + n) count in
        let r7 : Runs j (ex1 j world at low o outer S7) m6 l 9 (11 + (moved (length text) + length text)) falls m6 (l ++ map out text) =
        finish_runs world at low o outer is j m m6 l text f.hand (omega (arith, counted)) in
        let c7 : ℕ = 11 + (moved (length text) + length text) in
        let l' : Log ℕ ℕ = l ++ map out text in
        let e7 = r_one j world at low o outer S7 m6 m6 l l' 9 c7 falls r7 in
        let e6 = r_follow j world at low o outer S6 (one S7) m5 m6 m6 l l l' f.budget f.cost 9 c7 falls f.runs e7 in
        let e5 = r_follow j world at low o outer S5 (follow S6 (one S7)) m4 m5 m6 l l l' (p.budget + 1) (p.cost + 1) (f.budget + 9) (f.cost + c7) falls r5 e6 in
        let b5 : ℕ = (p.budget + 1) + (f.budget + 9) in
        let c5 : ℕ = (p.cost + 1) + (f.cost + c7) in
        let e4 = r_follow j world at low o outer S4 (follow S5 (follow S6 (one S7))) m3 m4 m6 l l l' s.budget s.cost b5 c5 falls s.runs e5 in
        let e3 = r_follow j world at low o outer S3 (follow S4 (follow S5 (follow S6 (one S7)))) m2 m3 m6 l l l' 4 6 (s.budget + b5) (s.cost + c5) falls r3 e4 in
        let e2 = r_join j world at low o outer (before o (const behind)) (follow S3 (follow S4 (follow S5 (follow S6 (one S7))))) m1 m2 m6 l l l' (9 + 1) (13 + 1) (4 + (s.budget + b5)) (6 + (s.cost + c5)) falls b.runs e3 in
        let e1 = r_follow j world at low o outer S1 (join (before o (const behind)) (follow S3 (follow S4 (follow S5 (follow S6 (one S7)))))) m m1 m6 l l l' 5 6 ((9 + 1) + (4 + (s.budget + b5))) ((13 + 1) + (6 + (s.cost + c5))) falls
        (start world at low o outer is j m l) e2 in
        record {
          memory = m6;
          budget = 5 + ((9 + 1) + (4 + (s.budget + b5)));
          cost = 6 + ((13 + 1) + (6 + (s.cost + c5)));
          runs = e1;
          cheap = omega (arith, s.cheap, p.cheap, f.cheap, counted);
          others = f.hand.others;
        }

    print_low : v < 2 ^ 63 → Printed (follow (set (pointer_at o) (binary Add (slot (buffer_at o)) (const 32)))
        (join (before o (const behind))
        (follow (set (number_at o) (held x))
        (follow (choose (compare Less (held x) (const 0)) (one (set (number_at o) (binary Subtract (const 0) (held x)))) finish)
        (follow (repeat (digit_code o))
        (follow (choose (compare Less (held x) (const 0)) (before o (const 45)) finish)
        (one (write_code o)))))))) m l (decimal v ++ (behind ∷ []))
    print_low below =
        let no_sign : signed_below v 0 ≡ false = is_false (signed_below v 0) (below_low v below) in
        print_by v [] small (lit≤ tt)
        (λ m' w num. record {
          memory = m';
          budget = 4 + 0 + 1;
          cost = 5 + 0 + 1;
          runs = r_choose j world at low o outer (compare Less (held x) (const 0)) (one (set (number_at o) (binary Subtract (const 0) (held x)))) finish m' m' l l 4 5 0 0 (flag false) falls (r_sign m' false no_sign w) (r_none j world at low o outer m' l);
          cheap = lit≤ tt;
          number = num;
          others = λ y away. refl;
        })
        (λ m' text hand room w. record {
          memory = m';
          budget = 4 + 0 + 1;
          cost = 5 + 0 + 1;
          runs = r_choose j world at low o outer (compare Less (held x) (const 0)) (before o (const 45)) finish m' m' l l 4 5 0 0 (flag false) falls (r_sign m' false no_sign w) (r_none j world at low o outer m' l);
          cheap = lit≤ tt;
          hand = hand;
        })

    print_high : 2 ^ 63 ≤ v → Printed (follow (set (pointer_at o) (binary Add (slot (buffer_at o)) (const 32)))
        (join (before o (const behind))
        (follow (set (number_at o) (held x))
        (follow (choose (compare Less (held x) (const 0)) (one (set (number_at o) (binary Subtract (const 0) (held x)))) finish)
        (follow (repeat (digit_code o))
        (follow (choose (compare Less (held x) (const 0)) (before o (const 45)) finish)
        (one (write_code o)))))))) m l (45 ∷ (decimal (2 ^ 64 - 1 - v + 1) ++ (behind ∷ [])))
    print_high big =
        let u : ℕ = 2 ^ 64 - 1 - v + 1 in
        let has_sign : signed_below v 0 ≡ true = is_true (signed_below v 0) (below_high v big small) in
        let away : minus 0 v ≡ u = negated v big small in
        print_by u (45 ∷ []) (omega arith) (lit≤ tt)
        (λ m' w num.
        let P : ℕ → Type 0 = λ y. Runs j (ev j world at low o outer (binary Subtract (const 0) (held x))) m' l 4 5 y m' l in
        let turned : Runs j (ev j world at low o outer (binary Subtract (const 0) (held x))) m' l 4 5 u m' l =
        subst P away (r_binary j world at low o outer Subtract (const 0) (held x) m' l 1 1 2 3 0 v (r_const j world at low o outer 0 m' l) (r_value m' w)) in
        record {
          memory = put m' (low + 80) (bytes_of 8 u);
          budget = 4 + 6 + 1;
          cost = 5 + 8 + 1;
          runs = r_choose j world at low o outer (compare Less (held x) (const 0)) (one (set (number_at o) (binary Subtract (const 0) (held x)))) finish m' (put m' (low + 80) (bytes_of 8 u)) l l 4 5 6 8 (flag true) falls (r_sign m' true has_sign w)
              (r_one j world at low o outer (set (number_at o) (binary Subtract (const 0) (held x))) m' (put m' (low + 80) (bytes_of 8 u)) l l 6 8 falls
              (r_set j world at low o outer (number_at o) number (binary Subtract (const 0) (held x)) m' m' l l 4 5 u (number_variable o) (lit≤ tt) turned));
          cheap = lit≤ tt;
          number = put_word m' (low + 80) u;
          others = λ y far. put_away m' (low + 80) u y (elim far [ inl a ↦ inl a | inr a ↦ inr (omega arith) ]);
        })
        (λ m' text hand room w.
        let b : Begun j world at low o outer is m m' l (const 45) 45 text (9 + 1) (13 + 1) =
        before_runs j world at low o outer is m m' l (const 45) 45 text 1 1 hand room (lit< tt) (λ m'' same. r_const j world at low o outer 45 m'' l) in
        record {
          memory = b.memory;
          budget = 4 + (9 + 1) + 1;
          cost = 5 + (13 + 1) + 1;
          runs = r_choose j world at low o outer (compare Less (held x) (const 0)) (before o (const 45)) finish m' b.memory l l 4 5 (9 + 1) (13 + 1) (flag true) falls (r_sign m' true has_sign w) b.runs;
          cheap = lit≤ tt;
          hand = b.hand;
        })

  -- the value that waits at a depth, and what follows it
  pub print_runs : (m : Memory) (l : Log ℕ ℕ) (d v behind : ℕ) → o.first + d < o.first + o.waiting → v < 2 ^ 64 → WordAt m (low + offset_of (o.first + d)) v → behind < 256 →
      Printed (print_code o d behind) m l (int_text (cast_signed w64 v) ++ (behind ∷ []))
  print_runs m l d v behind inside small word byte = by (nat_lt v (2 ^ 63)) refl
    where
      by : (t : Bool) → nat_lt v (2 ^ 63) ≡ t → Printed (print_code o d behind) m l (int_text (cast_signed w64 v) ++ (behind ∷ []))
      by true e =
          let below : v < 2 ^ 63 = grind (arith, nat_tests) in
          let P : ℤ → Type 0 = λ z. Printed (print_code o d behind) m l (int_text z ++ (behind ∷ [])) in
          subst P (sym (signed_low v below)) (print_low m l (o.first + d) v behind inside small word byte below)
      by false e =
          let big : 2 ^ 63 ≤ v = grind (arith, nat_tests) in
          let P : ℤ → Type 0 = λ z. Printed (print_code o d behind) m l (int_text z ++ (behind ∷ [])) in
          subst P (sym (signed_high v big small)) (print_high m l (o.first + d) v behind inside small word byte big)

  -- a newline alone
  pub newline_runs : (m : Memory) (l : Log ℕ ℕ) → Printed (newline_code o) m l (10 ∷ [])
  newline_runs m l =
      let S1 = set (pointer_at o) (binary Add (slot (buffer_at o)) (const 32)) in
      let S7 = write_code o in
      let m1 : Memory = put m (low + 64) (bytes_of 8 (low + 48)) in
      let b : Begun j world at low o outer is m m1 l (const 10) 10 [] (9 + 1) (13 + 1) =
      before_runs j world at low o outer is m m1 l (const 10) 10 [] 1 1 (started world at low o outer is j m) (lit< tt) (lit< tt) (λ m' same. r_const j world at low o outer 10 m' l) in
      let m2 : Memory = b.memory in
      let l' : Log ℕ ℕ = l ++ map out (10 ∷ []) in
      let r7 : Runs j (ex1 j world at low o outer S7) m2 l 9 (11 + (moved 1 + 1)) falls m2 l' = finish_runs world at low o outer is j m m2 l (10 ∷ []) b.hand (lit≤ tt) in
      let e7 = r_one j world at low o outer S7 m2 m2 l l' 9 (11 + (moved 1 + 1)) falls r7 in
      let e2 = r_join j world at low o outer (before o (const 10)) (one S7) m1 m2 m2 l l l' (9 + 1) (13 + 1) 9 (11 + (moved 1 + 1)) falls b.runs e7 in
      record {
        memory = m2;
        budget = 5 + ((9 + 1) + 9);
        cost = 6 + ((13 + 1) + (11 + (moved 1 + 1)));
        runs = r_follow j world at low o outer S1 (join (before o (const 10)) (one S7)) m m1 m2 l l l' 5 6 ((9 + 1) + 9) ((13 + 1) + (11 + (moved 1 + 1))) falls (start world at low o outer is j m l) e2;
        cheap = lit≤ tt;
        others = b.hand.others;
      }
