-- A value and the byte behind it are printed, and a newline alone.
use Rattle.std.proofs.Common.{◌≡◌, ℕ, zero, suc, ◌+◌, ◌-◌, ◌*◌, ◌/◌, ◌%◌, ◌^◌, ◌<◌, ◌≤◌, ◌⊎◌, inl, inr, Bool, true, false, List, [], ◌∷◌, ◌++◌, length, map, arith, ap, ◌∙◌, sym, subst, refl, lit<, lit≤, length-append}
use Rattle.std.specs.Prelude.{ℤ, decimal, nat_lt, not}
use Rattle.std.specs.Int.{w64, cast_signed}
use Rattle.std.proofs.lemmas.Bool.Decides.{nat_tests}
use Rattle.std.proofs.lemmas.Fmt.{length-decimal-le}
use Rattle.odc_text.specs.Run.{out, Log}
use Rattle.rv_table.specs.Words.{minus, flag, signed_below}
use Rattle.rv_table.proofs.Bytes.{run_same}
use Rattle.std.proofs.lemmas.Fmt.{decimal_digit, decimal_step}
use Rattle.odc_program.specs.Kinds.Printing.{digits, digits_by, int_text}
use Rattle.odc_core.specs.declared.tree.BinaryOp.TheVariants.{Add, Subtract}
use Rattle.odc_core.specs.declared.tree.Comparison.TheVariants.{Less}
use Rattle.odc_core.specs.Tree.{Stmt, const, slot, binary, compare, choose, repeat, Stmts, finish, follow}
use Rattle.odc_core.specs.Words.{bytes_of}
use Rattle.odc_core.specs.Memory.{Memory, put}
use Rattle.odc_core.specs.Run.{falls, moved, turns}
use Rattle.odc_carried.specs.Code.{number, pointer_at, number_at, buffer_at, wait_at, wait_variable, wait_offset, waits, join, one, front, digit_code, write_code, print_code, newline_code}
use Rattle.odc_carried.specs.Code.{put as set}
use Rattle.odc_carried.specs.Tied.{Site, o}
use Rattle.odc_carried.proofs.Values.{signed_low, signed_high, below_low, below_high, negated}
use Rattle.odc_carried.proofs.Frame.{WordAt, word_apart, put_word, put_away, wait_found, number_found}
use Rattle.odc_carried.proofs.Halts.{Halts, halts_one, halts_follow, halts_join}
use Rattle.odc_carried.proofs.Shim.{Runs, runs_node, all_turns, ev, ex, ex1, r_const, r_held, r_binary, r_compare, r_set, r_follow, r_none, r_one, r_join, r_choose}
use Rattle.odc_carried.proofs.Printing.{ba, pa, na, Hand, IsLow, Begun, before_runs, Looped, loop, start, started, finish_runs, finish_halts, Fewer, fewer_word}

-- the digits of a number, as the source writes them
digits_decimal : (k n : ℕ) → Fewer k n → n < 2 ^ 64 → digits (suc k) n ≡ decimal n
digits_decimal zero n few small_enough = (let less : nat_lt n 10 ≡ true = grind (arith, nat_tests) in ap (λ (b : Bool). digits_by b n []) less) ∙ sym (decimal_digit n few)
digits_decimal (suc k) n few small_enough = by (nat_lt n 10) refl (digits_decimal k (n / 10) few (omega arith))
  where
    by : (b : Bool) → nat_lt n 10 ≡ b → digits (suc k) (n / 10) ≡ decimal (n / 10) → digits (suc (suc k)) n ≡ decimal n
    by true e rest = let less : n < 10 = grind (arith, nat_tests) in ap (λ (b : Bool). digits_by b n (digits (suc k) (n / 10))) e ∙ sym (decimal_digit n less)
    by false e rest =
        let big : 10 ≤ n = grind (arith, nat_tests) in
        ap (λ (b : Bool). digits_by b n (digits (suc k) (n / 10))) e ∙ ap (λ (ds : List ℕ). ds ++ ((48 + n % 10) ∷ [])) rest ∙ sym (decimal_step n big small_enough)

some_digits : (u : ℕ) → u < 2 ^ 64 → 1 ≤ length (decimal u)
some_digits u small = by (nat_lt u 10) refl
  where
    by : (b : Bool) → nat_lt u 10 ≡ b → 1 ≤ length (decimal u)
    by true e = let less : u < 10 = grind (arith, nat_tests) in omega (arith, ap length (decimal_digit u less))
    by false e = let big : 10 ≤ u = grind (arith, nat_tests) in omega (arith, ap length (decimal_step u big small), length-append (decimal (u / 10)) ((48 + u % 10) ∷ []))

-- only the number's bytes changed
hand_number : (S : Site) (m0 m m' : Memory) (text : List ℕ) → ((x : ℕ) → (x < (na S)) ⊎ ((na S) + 8 ≤ x) → m' x ≡ m x) → Hand S m0 m text → Hand S m0 m' text
hand_number S m0 m m' text same h = record {
  first = h.first;
  pointer = word_apart m m' ((pa S)) h.first (λ x from to. same x (inl (omega arith))) h.pointer;
  place = h.place;
  bytes = run_same m' m h.first (length text) (λ x from to. same x (inl (omega (arith, h.place)))) ∙ h.bytes;
  others = λ x away. same x (elim away [ inl a ↦ inl (omega arith) | inr a ↦ inr a ]) ∙ h.others x away;
}

is_false : (b : Bool) → not b ≡ true → b ≡ false
is_false true e = cc
is_false false e = refl

is_true : (b : Bool) → not b ≡ false → b ≡ true
is_true true e = refl
is_true false e = cc

module _ (j : ℕ) (S : Site) (I : List ℕ) (K : ℕ) (is : IsLow S) where
  -- a text is printed; only the lowest bytes of the frame change
  pub record Printed (ss : Stmts) (m : Memory) (l : Log ℕ ℕ) (text : List ℕ) : Type 0 where
    pub memory : Memory
    pub budget : ℕ
    pub cost : ℕ
    pub runs : Runs I K j (ex j S I K ss) m l budget cost falls memory (l ++ map out text)
    pub cheap : cost ≤ 64 * length text
    pub halts : Halts I K j (ex j S I K ss) m l memory (l ++ map out text)
    pub others : (x : ℕ) → (x < (ba S)) ⊎ ((na S) + 8 ≤ x) → memory x ≡ m x

  -- the number's bytes hold a word, and nothing else changed
  record Signed (s : Stmt) (m : Memory) (l : Log ℕ ℕ) (u : ℕ) : Type 0 where
    pub memory : Memory
    pub budget : ℕ
    pub cost : ℕ
    pub runs : Runs I K j (ex1 j S I K s) m l budget cost falls memory l
    pub cheap : cost ≤ 14
    pub number : WordAt memory ((na S)) u
    pub others : (x : ℕ) → (x < (na S)) ⊎ ((na S) + 8 ≤ x) → memory x ≡ m x

  -- the sign comes in front of what is in hand
  record Fronted (s : Stmt) (m0 m : Memory) (l : Log ℕ ℕ) (text : List ℕ) : Type 0 where
    pub memory : Memory
    pub budget : ℕ
    pub cost : ℕ
    pub runs : Runs I K j (ex1 j S I K s) m l budget cost falls memory l
    pub cheap : cost ≤ 20
    pub hand : Hand S m0 memory text

  module _ (m : Memory) (l : Log ℕ ℕ) (x v behind : ℕ) (inside : x < (o S).waiting) (small : v < 2 ^ 64) (word : WordAt m (S.low + wait_offset (o S).low x) v) (byte : behind < 256) where
    -- the value still waits
    still : (m' : Memory) → ((y : ℕ) → (y < (ba S)) ⊎ ((na S) + 8 ≤ y) → m' y ≡ m y) → WordAt m' (S.low + wait_offset (o S).low x) v
    still m' same = word_apart m m' (S.low + wait_offset (o S).low x) v (λ y from to. same y (inr (omega arith))) word

    r_value : (m' : Memory) → WordAt m' (S.low + wait_offset (o S).low x) v → Runs I K j (ev j S I K (waits (o S) x)) m' l 2 3 v m' l
    r_value m' w = r_held j S I K (wait_at (o S) x) (wait_variable (o S).low x) v m' l (wait_found S x inside) (lit≤ tt) small w

    r_sign : (m' : Memory) (t : Bool) → signed_below v 0 ≡ t → WordAt m' (S.low + wait_offset (o S).low x) v → Runs I K j (ev j S I K (compare Less (waits (o S) x) (const 0))) m' l 4 5 (flag t) m' l
    r_sign m' t e w =
        let P : Bool → Type 0 = λ b. Runs I K j (ev j S I K (compare Less (waits (o S) x) (const 0))) m' l 4 5 (flag b) m' l in
        subst P e (r_compare j S I K Less (waits (o S) x) (const 0) m' l 2 3 1 1 v 0 (r_value m' w) (r_const j S I K 0 m' l))

    print_by : (u : ℕ) (sign : List ℕ) → u < 2 ^ 64 → length sign ≤ 1 →
        ((m' : Memory) → WordAt m' (S.low + wait_offset (o S).low x) v → WordAt m' ((na S)) v →
        Signed (choose (compare Less (waits (o S) x) (const 0)) (one (set (number_at (o S)) (binary Subtract (const 0) (waits (o S) x)))) finish) m' l u) →
        ((m' : Memory) (text : List ℕ) → Hand S m m' text → length text < 32 → WordAt m' (S.low + wait_offset (o S).low x) v →
        Fronted (choose (compare Less (waits (o S) x) (const 0)) (front (o S) (const 45)) finish) m m' l (sign ++ text)) →
        Printed (follow (set (pointer_at (o S)) (binary Add (slot (buffer_at (o S))) (const 32)))
        (join (front (o S) (const behind))
        (follow (set (number_at (o S)) (waits (o S) x))
        (follow (choose (compare Less (waits (o S) x) (const 0)) (one (set (number_at (o S)) (binary Subtract (const 0) (waits (o S) x)))) finish)
        (follow (repeat (digit_code (o S)))
        (follow (choose (compare Less (waits (o S) x) (const 0)) (front (o S) (const 45)) finish)
        (one (write_code (o S))))))))) m l (sign ++ (decimal u ++ (behind ∷ [])))
    print_by u sign u_small short signed fronted =
        let S1 = set (pointer_at (o S)) (binary Add (slot (buffer_at (o S))) (const 32)) in
        let S3 = set (number_at (o S)) (waits (o S) x) in
        let S4 = choose (compare Less (waits (o S) x) (const 0)) (one (set (number_at (o S)) (binary Subtract (const 0) (waits (o S) x)))) finish in
        let S5 = repeat (digit_code (o S)) in
        let S6 = choose (compare Less (waits (o S) x) (const 0)) (front (o S) (const 45)) finish in
        let S7 = write_code (o S) in
        let digits_fit : length (decimal u) ≤ 20 = length-decimal-le 20 u (lit< tt) (omega arith) u_small in
        let m1 : Memory = put m ((pa S)) (bytes_of 8 ((ba S) + 32)) in
        let b : Begun j S I K is m m1 l (const behind) behind [] (9 + 1) (13 + 1) =
        before_runs j S I K is m m1 l (const behind) behind [] 1 1 (started S I K is j m) (lit< tt) byte (λ m' same. r_const j S I K behind m' l) in
        let m2 : Memory = b.memory in
        let m3 : Memory = put m2 ((na S)) (bytes_of 8 v) in
        let h3 : Hand S m m3 (behind ∷ []) = hand_number S m m2 m3 (behind ∷ []) (λ y away. put_away m2 ((na S)) v y (elim away [ inl a ↦ inl a | inr a ↦ inr (omega arith) ])) b.hand in
        let r3 : Runs I K j (ex1 j S I K S3) m2 l 4 6 falls m3 l =
        r_set j S I K (number_at (o S)) (number (o S).low) (waits (o S) x) m2 m2 l l 2 3 v (number_found S) (lit≤ tt) (r_value m2 (still m2 b.hand.others)) in
        let s : Signed S4 m3 l u = signed m3 (still m3 h3.others) (put_word m2 ((na S)) v) in
        let m4 : Memory = s.memory in
        let h4 : Hand S m m4 (behind ∷ []) = hand_number S m m3 m4 (behind ∷ []) s.others h3 in
        let p : Looped S I K is 0 j m m4 l u (behind ∷ []) = loop S I K is 19 0 j m m4 l u (behind ∷ []) (fewer_word u u_small) (omega arith) u_small h4 (omega arith) s.number in
        let m5 : Memory = p.memory in
        let r5 : Runs I K j (ex1 j S I K S5) m4 l (p.budget + 1) (p.cost + 1) falls m5 l =
        runs_node I K j (λ n. turns n (ex j S I K (digit_code (o S)) n)) m4 l p.budget p.cost falls m5 l
        (all_turns I K j (ex j S I K (digit_code (o S))) m4 m5 l l p.budget p.cost falls p.runs) in
        let digits : List ℕ = decimal u ++ (behind ∷ []) in
        let count : length digits ≡ length (decimal u) + 1 = length-append (decimal u) (behind ∷ []) in
        let f : Fronted S6 m m5 l (sign ++ digits) = fronted m5 digits p.hand (omega (arith, count)) (still m5 p.hand.others) in
        let m6 : Memory = f.memory in
        let text : List ℕ = sign ++ digits in
        let counted : length text ≡ length sign + (length (decimal u) + 1) = length-append sign digits ∙ ap (λ (n : ℕ). length sign + n) count in
        let r7 : Runs I K j (ex1 j S I K S7) m6 l 9 (11 + (moved (length text) + length text)) falls m6 (l ++ map out text) =
        finish_runs S I K is j m m6 l text f.hand (omega (arith, counted)) in
        let c7 : ℕ = 11 + (moved (length text) + length text) in
        let l' : Log ℕ ℕ = l ++ map out text in
        let e7 = r_one j S I K S7 m6 m6 l l' 9 c7 falls r7 in
        let e6 = r_follow j S I K S6 (one S7) m5 m6 m6 l l l' f.budget f.cost 9 c7 falls f.runs e7 in
        let e5 = r_follow j S I K S5 (follow S6 (one S7)) m4 m5 m6 l l l' (p.budget + 1) (p.cost + 1) (f.budget + 9) (f.cost + c7) falls r5 e6 in
        let b5 : ℕ = (p.budget + 1) + (f.budget + 9) in
        let c5 : ℕ = (p.cost + 1) + (f.cost + c7) in
        let e4 = r_follow j S I K S4 (follow S5 (follow S6 (one S7))) m3 m4 m6 l l l' s.budget s.cost b5 c5 falls s.runs e5 in
        let e3 = r_follow j S I K S3 (follow S4 (follow S5 (follow S6 (one S7)))) m2 m3 m6 l l l' 4 6 (s.budget + b5) (s.cost + c5) falls r3 e4 in
        let e2 = r_join j S I K (front (o S) (const behind)) (follow S3 (follow S4 (follow S5 (follow S6 (one S7))))) m1 m2 m6 l l l' (9 + 1) (13 + 1) (4 + (s.budget + b5)) (6 + (s.cost + c5)) falls b.runs e3 in
        let e1 = r_follow j S I K S1 (join (front (o S) (const behind)) (follow S3 (follow S4 (follow S5 (follow S6 (one S7)))))) m m1 m6 l l l' 5 6 ((9 + 1) + (4 + (s.budget + b5))) ((13 + 1) + (6 + (s.cost + c5))) falls
        (start S I K is j m l) e2 in
        let rest7 = one S7 in
        let g7 = halts_one I K j S S7 m6 l m6 l' (finish_halts S I K is j m m6 l text f.hand (omega (arith, counted))) in
        let g6 = halts_follow I K j S S6 rest7 m5 m6 m6 l l l' f.budget f.cost f.runs g7 in
        let g5 = halts_follow I K j S S5 (follow S6 rest7) m4 m5 m6 l l l' (p.budget + 1) (p.cost + 1) r5 g6 in
        let g4 = halts_follow I K j S S4 (follow S5 (follow S6 rest7)) m3 m4 m6 l l l' s.budget s.cost s.runs g5 in
        let g3 = halts_follow I K j S S3 (follow S4 (follow S5 (follow S6 rest7))) m2 m3 m6 l l l' 4 6 r3 g4 in
        let g2 = halts_join I K j S (front (o S) (const behind)) (follow S3 (follow S4 (follow S5 (follow S6 rest7)))) m1 m2 m6 l l l' (9 + 1) (13 + 1) b.runs g3 in
        let g1 = halts_follow I K j S S1 (join (front (o S) (const behind)) (follow S3 (follow S4 (follow S5 (follow S6 rest7))))) m m1 m6 l l l' 5 6 (start S I K is j m l) g2 in
        record {
          memory = m6;
          halts = g1;
          budget = 5 + ((9 + 1) + (4 + (s.budget + b5)));
          cost = 6 + ((13 + 1) + (6 + (s.cost + c5)));
          runs = e1;
          cheap = omega (arith, s.cheap, p.cheap, f.cheap, counted, some_digits u u_small);
          others = f.hand.others;
        }

    print_low : v < 2 ^ 63 → Printed (follow (set (pointer_at (o S)) (binary Add (slot (buffer_at (o S))) (const 32)))
        (join (front (o S) (const behind))
        (follow (set (number_at (o S)) (waits (o S) x))
        (follow (choose (compare Less (waits (o S) x) (const 0)) (one (set (number_at (o S)) (binary Subtract (const 0) (waits (o S) x)))) finish)
        (follow (repeat (digit_code (o S)))
        (follow (choose (compare Less (waits (o S) x) (const 0)) (front (o S) (const 45)) finish)
        (one (write_code (o S))))))))) m l (decimal v ++ (behind ∷ []))
    print_low below =
        let no_sign : signed_below v 0 ≡ false = is_false (signed_below v 0) (below_low v below) in
        print_by v [] small (lit≤ tt)
        (λ m' w num. record {
          memory = m';
          budget = 4 + 0 + 1;
          cost = 5 + 0 + 1;
          runs = r_choose j S I K (compare Less (waits (o S) x) (const 0)) (one (set (number_at (o S)) (binary Subtract (const 0) (waits (o S) x)))) finish m' m' l l 4 5 0 0 (flag false) falls (r_sign m' false no_sign w) (r_none j S I K m' l);
          cheap = lit≤ tt;
          number = num;
          others = λ y away. refl;
        })
        (λ m' text hand room w. record {
          memory = m';
          budget = 4 + 0 + 1;
          cost = 5 + 0 + 1;
          runs = r_choose j S I K (compare Less (waits (o S) x) (const 0)) (front (o S) (const 45)) finish m' m' l l 4 5 0 0 (flag false) falls (r_sign m' false no_sign w) (r_none j S I K m' l);
          cheap = lit≤ tt;
          hand = hand;
        })

    print_high : 2 ^ 63 ≤ v → Printed (follow (set (pointer_at (o S)) (binary Add (slot (buffer_at (o S))) (const 32)))
        (join (front (o S) (const behind))
        (follow (set (number_at (o S)) (waits (o S) x))
        (follow (choose (compare Less (waits (o S) x) (const 0)) (one (set (number_at (o S)) (binary Subtract (const 0) (waits (o S) x)))) finish)
        (follow (repeat (digit_code (o S)))
        (follow (choose (compare Less (waits (o S) x) (const 0)) (front (o S) (const 45)) finish)
        (one (write_code (o S))))))))) m l (45 ∷ (decimal (2 ^ 64 - 1 - v + 1) ++ (behind ∷ [])))
    print_high big =
        let u : ℕ = 2 ^ 64 - 1 - v + 1 in
        let has_sign : signed_below v 0 ≡ true = is_true (signed_below v 0) (below_high v big small) in
        let away : minus 0 v ≡ u = negated v big small in
        print_by u (45 ∷ []) (omega arith) (lit≤ tt)
        (λ m' w num.
        let P : ℕ → Type 0 = λ y. Runs I K j (ev j S I K (binary Subtract (const 0) (waits (o S) x))) m' l 4 5 y m' l in
        let turned : Runs I K j (ev j S I K (binary Subtract (const 0) (waits (o S) x))) m' l 4 5 u m' l =
        subst P away (r_binary j S I K Subtract (const 0) (waits (o S) x) m' l 1 1 2 3 0 v (r_const j S I K 0 m' l) (r_value m' w)) in
        record {
          memory = put m' ((na S)) (bytes_of 8 u);
          budget = 4 + 6 + 1;
          cost = 5 + 8 + 1;
          runs = r_choose j S I K (compare Less (waits (o S) x) (const 0)) (one (set (number_at (o S)) (binary Subtract (const 0) (waits (o S) x)))) finish m' (put m' ((na S)) (bytes_of 8 u)) l l 4 5 6 8 (flag true) falls (r_sign m' true has_sign w)
              (r_one j S I K (set (number_at (o S)) (binary Subtract (const 0) (waits (o S) x))) m' (put m' ((na S)) (bytes_of 8 u)) l l 6 8 falls
              (r_set j S I K (number_at (o S)) (number (o S).low) (binary Subtract (const 0) (waits (o S) x)) m' m' l l 4 5 u (number_found S) (lit≤ tt) turned));
          cheap = lit≤ tt;
          number = put_word m' ((na S)) u;
          others = λ y far. put_away m' ((na S)) u y (elim far [ inl a ↦ inl a | inr a ↦ inr (omega arith) ]);
        })
        (λ m' text hand room w.
        let b : Begun j S I K is m m' l (const 45) 45 text (9 + 1) (13 + 1) =
        before_runs j S I K is m m' l (const 45) 45 text 1 1 hand room (lit< tt) (λ m'' same. r_const j S I K 45 m'' l) in
        record {
          memory = b.memory;
          budget = 4 + (9 + 1) + 1;
          cost = 5 + (13 + 1) + 1;
          runs = r_choose j S I K (compare Less (waits (o S) x) (const 0)) (front (o S) (const 45)) finish m' b.memory l l 4 5 (9 + 1) (13 + 1) (flag true) falls (r_sign m' true has_sign w) b.runs;
          cheap = lit≤ tt;
          hand = b.hand;
        })

  -- the value that waits at a depth, and what follows it
  pub print_runs : (m : Memory) (l : Log ℕ ℕ) (d v behind : ℕ) → d < (o S).waiting → v < 2 ^ 64 → WordAt m (S.low + wait_offset (o S).low d) v → behind < 256 →
      Printed (print_code (o S) d behind) m l (int_text (cast_signed w64 v) ++ (behind ∷ []))
  print_runs m l d v behind inside small word byte = by (nat_lt v (2 ^ 63)) refl
    where
      by : (t : Bool) → nat_lt v (2 ^ 63) ≡ t → Printed (print_code (o S) d behind) m l (int_text (cast_signed w64 v) ++ (behind ∷ []))
      by true e =
          let below : v < 2 ^ 63 = grind (arith, nat_tests) in
          let P : ℤ → Type 0 = λ z. Printed (print_code (o S) d behind) m l (int_text z ++ (behind ∷ [])) in
          let Q : List ℕ → Type 0 = λ ds. Printed (print_code (o S) d behind) m l (ds ++ (behind ∷ [])) in
          subst P (sym (signed_low v below)) (subst Q (sym (digits_decimal 19 v (fewer_word v small) small)) (print_low m l d v behind inside small word byte below))
      by false e =
          let big : 2 ^ 63 ≤ v = grind (arith, nat_tests) in
          let P : ℤ → Type 0 = λ z. Printed (print_code (o S) d behind) m l (int_text z ++ (behind ∷ [])) in
          let Q : List ℕ → Type 0 = λ ds. Printed (print_code (o S) d behind) m l ((45 ∷ ds) ++ (behind ∷ [])) in
          subst P (sym (signed_high v big small)) (subst Q (sym (digits_decimal 19 (2 ^ 64 - 1 - v + 1) (fewer_word (2 ^ 64 - 1 - v + 1) (omega arith)) (omega arith))) (print_high m l d v behind inside small word byte big))

  -- a newline alone
  pub newline_runs : (m : Memory) (l : Log ℕ ℕ) → Printed (newline_code (o S)) m l (10 ∷ [])
  newline_runs m l =
      let S1 = set (pointer_at (o S)) (binary Add (slot (buffer_at (o S))) (const 32)) in
      let S7 = write_code (o S) in
      let m1 : Memory = put m ((pa S)) (bytes_of 8 ((ba S) + 32)) in
      let b : Begun j S I K is m m1 l (const 10) 10 [] (9 + 1) (13 + 1) =
      before_runs j S I K is m m1 l (const 10) 10 [] 1 1 (started S I K is j m) (lit< tt) (lit< tt) (λ m' same. r_const j S I K 10 m' l) in
      let m2 : Memory = b.memory in
      let l' : Log ℕ ℕ = l ++ map out (10 ∷ []) in
      let r7 : Runs I K j (ex1 j S I K S7) m2 l 9 (11 + (moved 1 + 1)) falls m2 l' = finish_runs S I K is j m m2 l (10 ∷ []) b.hand (lit≤ tt) in
      let e7 = r_one j S I K S7 m2 m2 l l' 9 (11 + (moved 1 + 1)) falls r7 in
      let e2 = r_join j S I K (front (o S) (const 10)) (one S7) m1 m2 m2 l l l' (9 + 1) (13 + 1) 9 (11 + (moved 1 + 1)) falls b.runs e7 in
      let g7 = halts_one I K j S S7 m2 l m2 l' (finish_halts S I K is j m m2 l (10 ∷ []) b.hand (lit≤ tt)) in
      let g2 = halts_join I K j S (front (o S) (const 10)) (one S7) m1 m2 m2 l l l' (9 + 1) (13 + 1) b.runs g7 in
      record {
        memory = m2;
        halts = halts_follow I K j S S1 (join (front (o S) (const 10)) (one S7)) m m1 m2 l l l' 5 6 (start S I K is j m l) g2;
        budget = 5 + ((9 + 1) + 9);
        cost = 6 + ((13 + 1) + (11 + (moved 1 + 1)));
        runs = r_follow j S I K S1 (join (front (o S) (const 10)) (one S7)) m m1 m2 l l l' 5 6 ((9 + 1) + 9) ((13 + 1) + (11 + (moved 1 + 1))) falls (start S I K is j m l) e2;
        cheap = lit≤ tt;
        others = b.hand.others;
      }
