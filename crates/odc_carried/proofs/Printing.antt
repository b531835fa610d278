-- The code that prints a value does so.
use Rattle.std.proofs.Common.{◌≡◌, ℕ, zero, suc, ◌+◌, ◌-◌, ◌*◌, ◌/◌, ◌%◌, ◌^◌, ◌<◌, ◌≤◌, ◌⊎◌, inl, inr, Bool, true, false, List, [], ◌∷◌, ◌++◌, length, map, arith, ap, ◌∙◌, sym, subst, refl, lit<, lit≤, append_assoc, length-append}
use Rattle.std.specs.Prelude.{Option, Some, None, decimal, nat_lt, ◌==◌, if◌then◌else◌}
use Rattle.std.proofs.Math.Nat.{mod-eq_of_lt, add-mod_right}
use Rattle.std.proofs.lemmas.Bool.Decides.{nat_tests}
use Rattle.std.proofs.lemmas.Fmt.{decimal_digit, decimal_step}
use Rattle.odc_text.specs.Run.{out, Log}
use Rattle.rv_table.specs.Bytes.{run}
use Rattle.rv_table.specs.Words.{plus, minus}
use Rattle.rv_table.proofs.Bytes.{run_same, written_out}
use Rattle.odc_core.specs.declared.tree.Width.TheVariants.{Byte}
use Rattle.odc_core.specs.declared.tree.BinaryOp.TheVariants.{Add, Subtract, DivideUnsigned, RemainderUnsigned}
use Rattle.odc_core.specs.declared.tree.Descriptor.TheVariants.{Out}
use Rattle.odc_core.specs.Tree.{Expr, const, slot, binary, store, choose, leave, finish, follow}
use Rattle.odc_core.specs.Words.{bytes_of}
use Rattle.odc_core.specs.Memory.{Memory, all_in, bytes_at, loaded, put}
use Rattle.odc_core.specs.Frames.{touched_in}
use Rattle.odc_core.specs.Run.{◌>>=◌, pure, moved, load_bytes, write_bytes, Flow, falls, leaves}
use Rattle.odc_carried.specs.Code.{variables_of, buffer, pointer, number, buffer_at, pointer_at, number_at, one, held, front, digit_code, write_code}
use Rattle.odc_carried.specs.Code.{put as set}
use Rattle.odc_carried.specs.Tied.{Site, o, cenv}
use Rattle.odc_carried.proofs.Turns.{rest_of}
use Rattle.odc_carried.proofs.Frame.{WordAt, word_apart, put_word, put_away, part_touched, buffer_found, pointer_found, number_found, bytes_run}
use Rattle.odc_carried.proofs.Runs.{Fueled}
use Rattle.odc_carried.proofs.Halts.{Halts, halts_node}
use Rattle.odc_carried.proofs.Shim.{Runs, runs_pure, runs_as, runs_then, runs_node, runs_load, runs_write, runs_again, runs_out, ev, ex, ex1, r_const, r_slot, r_held, r_binary, r_set, r_byte, r_follow, r_none, r_one, r_join, r_choose, r_leave}

-- ---- addresses: of the buffer, of the place of its first byte in use, and of the number
abbrev pub ba : Site → ℕ
ba S = S.low + (o S).low

abbrev pub pa : Site → ℕ
pa S = S.low + ((o S).low + 48)

abbrev pub na : Site → ℕ
na S = S.low + ((o S).low + 64)

-- ---- words

one_less : (x : ℕ) → 0 < x → x < 2 ^ 64 → minus x 1 ≡ x - 1
one_less x some small =
    let whole : x + (2 ^ 64 - 1) ≡ x - 1 + 2 ^ 64 = omega arith in
    let below : x - 1 < 2 ^ 64 = omega arith in
    ap (λ (n : ℕ). n % 2 ^ 64) whole ∙ add-mod_right (x - 1) (2 ^ 64) ∙ mod-eq_of_lt below

taken_away : (x p n : ℕ) → p + n ≡ x → x < 2 ^ 64 → minus x p ≡ n
taken_away x p n e small =
    let whole : x + (2 ^ 64 - p) ≡ n + 2 ^ 64 = omega arith in
    let below : n < 2 ^ 64 = omega arith in
    ap (λ (k : ℕ). k % 2 ^ 64) whole ∙ add-mod_right n (2 ^ 64) ∙ mod-eq_of_lt below

-- the number has at most k + 1 decimal digits
abbrev pub Fewer : ℕ → ℕ → Type 0
Fewer zero m = m < 10
Fewer (suc k) m = Fewer k (m / 10)

fewer_below : (k m b : ℕ) → m ≤ b → Fewer k b → Fewer k m
fewer_below zero m b h f = omega arith
fewer_below (suc k) m b h f = fewer_below k (m / 10) (b / 10) (omega arith) f

pub fewer_word : (m : ℕ) → m < 2 ^ 64 → Fewer 19 m
fewer_word m h = fewer_below 19 m (2 ^ 64 - 1) (omega arith) (lit< tt)

-- the bytes in hand end where the buffer does; the rest of memory is as at the beginning
pub record Hand (S : Site) (m0 m : Memory) (text : List ℕ) : Type 0 where
  pub first : ℕ
  pub pointer : WordAt m ((pa S)) first
  pub place : first + length text ≡ (ba S) + 32
  pub bytes : run m first (length text) ≡ map Some text
  pub others : (x : ℕ) → (x < (ba S)) ⊎ ((na S) + 8 ≤ x) → m x ≡ m0 x

pub record IsLow (S : Site) : Type 0 where
  pub some : 0 < ba S
  pub small : (ba S) + 1000 < 2 ^ 64

module _ (j : ℕ) (S : Site) (I : List ℕ) (K : ℕ) (is : IsLow S) where
  -- ---- one more byte

  pub record Begun (m0 m : Memory) (l : Log ℕ ℕ) (e : Expr) (v : ℕ) (text : List ℕ) (budget cost : ℕ) : Type 0 where
    pub memory : Memory
    pub runs : Runs I K j (ex j S I K (front (o S) e)) m l budget cost falls memory l
    pub hand : Hand S m0 memory (v ∷ text)
    pub number : (w : ℕ) → WordAt m ((na S)) w → WordAt memory ((na S)) w

  -- where the byte is told by an expression that doesn't ask the pointer
  pub before_runs : (m0 m : Memory) (l : Log ℕ ℕ) (e : Expr) (v : ℕ) (text : List ℕ) (b c : ℕ) → Hand S m0 m text → length text < 32 → v < 256 →
      ((m' : Memory) → ((x : ℕ) → (x < (pa S)) ⊎ ((pa S) + 8 ≤ x) → m' x ≡ m x) → Runs I K j (ev j S I K e) m' l b c v m' l) →
      Begun m0 m l e v text (9 + b) (13 + c)
  before_runs m0 m l e v text b c h room byte told =
      let p : ℕ = h.first in
      let q : ℕ = p - 1 in
      let next : q + 1 ≡ p = omega (arith, h.place) in
      let m1 : Memory = put m ((pa S)) (bytes_of 8 q) in
      let m2 : Memory = put m1 q (v % 256 ∷ []) in
      let same : v % 256 ≡ v = mod-eq_of_lt byte in
      let down : Runs I K j (ev j S I K (binary Subtract (held (pointer_at (o S))) (const 1))) m l 4 5 q m l =
      (let P : ℕ → Type 0 = λ x. Runs I K j (ev j S I K (binary Subtract (held (pointer_at (o S))) (const 1))) m l 4 5 x m l in
      subst P (one_less p (omega (arith, h.place, is.some)) (omega (arith, h.place, is.small)))
      (r_binary j S I K Subtract (held (pointer_at (o S))) (const 1) m l 2 3 1 1 p 1
      (r_held j S I K (pointer_at (o S)) (pointer (o S).low) p m l (pointer_found S) (lit≤ tt) (omega (arith, h.place, is.small)) h.pointer)
      (r_const j S I K 1 m l))) in
      let first : Runs I K j (ex1 j S I K (set (pointer_at (o S)) (binary Subtract (held (pointer_at (o S))) (const 1)))) m l 6 8 falls m1 l =
      r_set j S I K (pointer_at (o S)) (pointer (o S).low) (binary Subtract (held (pointer_at (o S))) (const 1)) m m l l 4 5 q (pointer_found S) (lit≤ tt) down in
      let touched : all_in (touched_in S.outer S.low (variables_of (o S))) q 1 ≡ true =
      part_touched S.outer S.low (variables_of (o S)) (buffer_at (o S)) (buffer (o S).low) q 1 (buffer_found S) (omega (arith, h.place)) (omega (arith, h.place)) in
      let second : Runs I K j (ex1 j S I K (store Byte (held (pointer_at (o S))) e)) m1 l (2 + b + 1) (3 + c + 2) falls m2 l =
      r_byte j S I K (held (pointer_at (o S))) e m1 l 2 3 b c q v
      (r_held j S I K (pointer_at (o S)) (pointer (o S).low) q m1 l (pointer_found S) (lit≤ tt) (omega (arith, h.place, is.small)) (put_word m ((pa S)) q))
      (told m1 (λ x away. put_away m ((pa S)) q x (elim away [ inl a ↦ inl a | inr a ↦ inr (omega arith) ]))) touched in
      let apart : (x : ℕ) → (x < q) ⊎ (q + 1 ≤ x) → m2 x ≡ m1 x = λ x away. written_out m1 q (Some (v % 256) ∷ []) x away in
      let here : m2 q ≡ Some v = ap (λ (t : Bool). if t then Some (v % 256) else m1 q) (let self : (q == q) ≡ true = grind (arith, nat_tests) in self) ∙ ap (λ (x : ℕ). Some x) same in
      record {
        memory = m2;
        runs = runs_as I K j (ex j S I K (front (o S) e)) m l (6 + (2 + b + 1)) (9 + b) (8 + (3 + c + 2)) (13 + c) falls m2 l (omega arith) (omega arith)
            (r_follow j S I K (set (pointer_at (o S)) (binary Subtract (held (pointer_at (o S))) (const 1))) (one (store Byte (held (pointer_at (o S))) e)) m m1 m2 l l l 6 8 (2 + b + 1) (3 + c + 2) falls first
            (r_one j S I K (store Byte (held (pointer_at (o S))) e) m1 m2 l l (2 + b + 1) (3 + c + 2) falls second));
        hand = record {
          first = q;
          pointer = word_apart m1 m2 ((pa S)) q (λ x from to. apart x (inr (omega (arith, h.place)))) (put_word m ((pa S)) q);
          place = omega (arith, h.place);
          bytes = (
              let rest : run m2 (q + 1) (length text) ≡ map Some text =
              ap (λ (x : ℕ). run m2 x (length text)) next
              ∙ run_same m2 m p (length text) (λ i from to. apart i (inr (omega arith)) ∙ put_away m ((pa S)) q i (inl (omega (arith, h.place))))
              ∙ h.bytes in
              ap (λ (y : Option ℕ). y ∷ run m2 (q + 1) (length text)) here ∙ ap (λ (ys : List (Option ℕ)). Some v ∷ ys) rest);
          others = λ x away.
              apart x (elim away [ inl a ↦ inl (omega (arith, h.place)) | inr a ↦ inr (omega (arith, h.place)) ])
              ∙ put_away m ((pa S)) q x (elim away [ inl a ↦ inl (omega arith) | inr a ↦ inr (omega arith) ])
              ∙ h.others x away;
        };
        number = λ w at_number.
            word_apart m m2 ((na S)) w (λ x from to. apart x (inr (omega (arith, h.place))) ∙ put_away m ((pa S)) q x (inr (omega arith))) at_number;
      }

  -- ---- digits

  abbrev digit_byte : Expr
  digit_byte = binary Add (binary RemainderUnsigned (held (number_at (o S))) (const 10)) (const 48)

  digit_value : (m : Memory) (l : Log ℕ ℕ) (v : ℕ) → v < 2 ^ 64 → WordAt m ((na S)) v → Runs I K j (ev j S I K (binary Add (binary RemainderUnsigned (held (number_at (o S))) (const 10)) (const 48))) m l 6 7 (48 + v % 10) m l
  digit_value m l v small is_number =
      let sum : plus (v % 10) 48 ≡ 48 + v % 10 = mod-eq_of_lt (omega arith) ∙ omega arith in
      let P : ℕ → Type 0 = λ x. Runs I K j (ev j S I K (binary Add (binary RemainderUnsigned (held (number_at (o S))) (const 10)) (const 48))) m l 6 7 x m l in
      subst P sum
      (r_binary j S I K Add (binary RemainderUnsigned (held (number_at (o S))) (const 10)) (const 48) m l 4 5 1 1 (v % 10) 48
      (r_binary j S I K RemainderUnsigned (held (number_at (o S))) (const 10) m l 2 3 1 1 v 10
      (r_held j S I K (number_at (o S)) (number (o S).low) v m l (number_found S) (lit≤ tt) small is_number)
      (r_const j S I K 10 m l))
      (r_const j S I K 48 m l))

  -- a turn: the last digit goes in front, and the number loses it
  pub record Turned (m0 m : Memory) (l : Log ℕ ℕ) (v : ℕ) (text : List ℕ) (flow : Flow) (budget cost : ℕ) : Type 0 where
    pub memory : Memory
    pub runs : Runs I K j (ex j S I K (digit_code (o S))) m l budget cost flow memory l
    pub hand : Hand S m0 memory ((48 + v % 10) ∷ text)
    pub number : WordAt memory ((na S)) (v / 10)

  turn_runs : (m0 m : Memory) (l : Log ℕ ℕ) (v : ℕ) (text : List ℕ) (flow : Flow) (b c : ℕ) → Hand S m0 m text → length text < 32 → v < 2 ^ 64 → WordAt m ((na S)) v →
      ((m' : Memory) → Runs I K j (λ n. if (v / 10) == 0 then ex j S I K (one (leave 0)) n else ex j S I K finish n) m' l b c flow m' l) →
      Turned m0 m l v text flow (24 + b) (32 + c)
  turn_runs m0 m l v text flow b c h room small is_number last =
      let x : Begun m0 m l digit_byte (48 + v % 10) text (9 + 6) (13 + 7) =
      before_runs m0 m l digit_byte (48 + v % 10) text 6 7 h room (omega arith)
      (λ m' same. digit_value m' l v small (word_apart m m' ((na S)) v (λ y from to. same y (inr (omega arith))) is_number)) in
      let m1 : Memory = x.memory in
      let m2 : Memory = put m1 ((na S)) (bytes_of 8 (v / 10)) in
      let less : Runs I K j (ev j S I K (binary DivideUnsigned (held (number_at (o S))) (const 10))) m1 l 4 5 (v / 10) m1 l =
      r_binary j S I K DivideUnsigned (held (number_at (o S))) (const 10) m1 l 2 3 1 1 v 10
      (r_held j S I K (number_at (o S)) (number (o S).low) v m1 l (number_found S) (lit≤ tt) small (x.number v is_number))
      (r_const j S I K 10 m1 l) in
      let second : Runs I K j (ex1 j S I K (set (number_at (o S)) (binary DivideUnsigned (held (number_at (o S))) (const 10)))) m1 l 6 8 falls m2 l =
      r_set j S I K (number_at (o S)) (number (o S).low) (binary DivideUnsigned (held (number_at (o S))) (const 10)) m1 m1 l l 4 5 (v / 10) (number_found S) (lit≤ tt) less in
      let third : Runs I K j (ex1 j S I K (choose (held (number_at (o S))) finish (one (leave 0)))) m2 l (2 + b + 1) (3 + c + 1) flow m2 l =
      r_choose j S I K (held (number_at (o S))) finish (one (leave 0)) m2 m2 l l 2 3 b c (v / 10) flow
      (r_held j S I K (number_at (o S)) (number (o S).low) (v / 10) m2 l (number_found S) (lit≤ tt) (omega arith) (put_word m1 ((na S)) (v / 10))) (last m2) in
      record {
        memory = m2;
        runs = runs_as I K j (ex j S I K (digit_code (o S))) m l (15 + (6 + (2 + b + 1))) (24 + b) (20 + (8 + (3 + c + 1))) (32 + c) flow m2 l (omega arith) (omega arith)
            (r_join j S I K (front (o S) digit_byte) (follow (set (number_at (o S)) (binary DivideUnsigned (held (number_at (o S))) (const 10))) (one (choose (held (number_at (o S))) finish (one (leave 0))))) m m1 m2 l l l 15 20 (6 + (2 + b + 1)) (8 + (3 + c + 1)) flow
            x.runs
            (r_follow j S I K (set (number_at (o S)) (binary DivideUnsigned (held (number_at (o S))) (const 10))) (one (choose (held (number_at (o S))) finish (one (leave 0)))) m1 m2 m2 l l l 6 8 (2 + b + 1) (3 + c + 1) flow second
            (r_one j S I K (choose (held (number_at (o S))) finish (one (leave 0))) m2 m2 l l (2 + b + 1) (3 + c + 1) flow third)));
        hand = record {
          first = x.hand.first;
          pointer = word_apart m1 m2 ((pa S)) x.hand.first (λ y from to. put_away m1 ((na S)) (v / 10) y (inl (omega arith))) x.hand.pointer;
          place = x.hand.place;
          bytes = run_same m2 m1 x.hand.first (length ((48 + v % 10) ∷ text)) (λ y from to. put_away m1 ((na S)) (v / 10) y (inl (omega (arith, x.hand.place)))) ∙ x.hand.bytes;
          others = λ y away. put_away m1 ((na S)) (v / 10) y (elim away [ inl a ↦ inl (omega arith) | inr a ↦ inr (omega arith) ]) ∙ x.hand.others y away;
        };
        number = put_word m1 ((na S)) (v / 10);
      }

module _ (S : Site) (I : List ℕ) (K : ℕ) (is : IsLow S) where
  -- the turns that are left, behind i of them
  pub record Looped (i j : ℕ) (m0 m : Memory) (l : Log ℕ ℕ) (v : ℕ) (text : List ℕ) : Type 0 where
    pub memory : Memory
    pub budget : ℕ
    pub cost : ℕ
    pub runs : Runs I K j (rest_of i (ex j S I K (digit_code (o S)))) m l budget cost falls memory l
    pub cheap : cost ≤ 40 * length (decimal v)
    pub hand : Hand S m0 memory (decimal v ++ text)

  last_turn : (i j : ℕ) (m0 m : Memory) (l : Log ℕ ℕ) (v : ℕ) (text : List ℕ) → i ≤ j → v < 10 → Hand S m0 m text → length text < 32 → WordAt m ((na S)) v → Looped i j m0 m l v text
  last_turn i j m0 m l v text le small h room is_number =
      let nothing_left : ((v / 10) == 0) ≡ true = (let gone : v / 10 ≡ 0 = omega arith in grind (arith, nat_tests)) in
      let P : (m' : Memory) → Bool → Type 0 = λ m' t. Runs I K j (λ n. if t then ex j S I K (one (leave 0)) n else ex j S I K finish n) m' l 1 1 (leaves 0) m' l in
      let t : Turned j S I K is m0 m l v text (leaves 0) (24 + 1) (32 + 1) =
      turn_runs j S I K is m0 m l v text (leaves 0) 1 1 h room (omega arith) is_number
      (λ m'. subst (P m') (sym nothing_left) (r_one j S I K (leave 0) m' m' l l 1 1 (leaves 0) (r_leave j S I K 0 m' l))) in
      let digits : decimal v ≡ (48 + v % 10) ∷ [] = decimal_digit v small ∙ (let same : 48 + v ≡ 48 + v % 10 = omega arith in ap (λ (x : ℕ). x ∷ []) same) in
      let H : List ℕ → Type 0 = λ ds. Hand S m0 t.memory (ds ++ text) in
      record {
        memory = t.memory;
        budget = 25 + 1;
        cost = 33 + 1;
        runs = runs_out I K i j (ex j S I K (digit_code (o S))) m t.memory l l 25 33 le t.runs;
        cheap = (let count : length (decimal v) ≡ 1 = ap length digits in omega (arith, count));
        hand = subst H (sym digits) t.hand;
      }

  next_turn : (i j : ℕ) (m0 m : Memory) (l : Log ℕ ℕ) (v : ℕ) (text : List ℕ) → i ≤ j → 10 ≤ v → v < 2 ^ 64 → Hand S m0 m text → length (decimal v) + length text ≤ 32 → WordAt m ((na S)) v →
      ((m' : Memory) (ds : List ℕ) → Hand S m0 m' ds → length (decimal (v / 10)) + length ds ≤ 32 → WordAt m' ((na S)) (v / 10) → Looped (suc i) (suc j) m0 m' l (v / 10) ds) → Looped i j m0 m l v text
  next_turn i j m0 m l v text le big small h room is_number more =
      let front : decimal v ≡ decimal (v / 10) ++ ((48 + v % 10) ∷ []) = decimal_step v big small in
      let count : length (decimal v) ≡ length (decimal (v / 10)) + 1 = ap length front ∙ length-append (decimal (v / 10)) ((48 + v % 10) ∷ []) in
      let some_left : ((v / 10) == 0) ≡ false = (let some : 0 < v / 10 = omega arith in grind (arith, nat_tests)) in
      let P : (m' : Memory) → Bool → Type 0 = λ m' t. Runs I K j (λ n. if t then ex j S I K (one (leave 0)) n else ex j S I K finish n) m' l 0 0 falls m' l in
      let t : Turned j S I K is m0 m l v text falls (24 + 0) (32 + 0) =
      turn_runs j S I K is m0 m l v text falls 0 0 h (omega (arith, count)) small is_number (λ m'. subst (P m') (sym some_left) (r_none j S I K m' l)) in
      let r : Looped (suc i) (suc j) m0 t.memory l (v / 10) ((48 + v % 10) ∷ text) = more t.memory ((48 + v % 10) ∷ text) t.hand (omega (arith, count)) t.number in
      let spelled : decimal (v / 10) ++ ((48 + v % 10) ∷ text) ≡ decimal v ++ text =
      sym (append_assoc (decimal (v / 10)) ((48 + v % 10) ∷ []) text) ∙ ap (λ (ds : List ℕ). ds ++ text) (sym front) in
      let H : List ℕ → Type 0 = λ ds. Hand S m0 r.memory ds in
      record {
        memory = r.memory;
        budget = 24 + 0 + r.budget + 1;
        cost = 32 + 0 + r.cost + 1;
        runs = runs_again I K i j (ex j S I K (digit_code (o S))) m t.memory r.memory l l l (24 + 0) (32 + 0) r.budget r.cost falls le t.runs r.runs;
        cheap = omega (arith, r.cheap, count);
        hand = subst H spelled r.hand;
      }

  pub loop : (k i j : ℕ) (m0 m : Memory) (l : Log ℕ ℕ) (v : ℕ) (text : List ℕ) → Fewer k v → i ≤ j → v < 2 ^ 64 → Hand S m0 m text → length (decimal v) + length text ≤ 32 → WordAt m ((na S)) v → Looped i j m0 m l v text
  loop zero i j m0 m l v text few le small h room is_number =
      (let digits : decimal v ≡ (48 + v) ∷ [] = decimal_digit v few in let count : length (decimal v) ≡ 1 = ap length digits in last_turn i j m0 m l v text le few h (omega (arith, count)) is_number)
  loop (suc k) i j m0 m l v text few le small h room is_number =
      by (nat_lt v 10) refl (λ m' ds hand space num. loop k (suc i) (suc j) m0 m' l (v / 10) ds few (omega arith) (omega arith) hand space num)
    where
      by : (t : Bool) → nat_lt v 10 ≡ t →
          ((m' : Memory) (ds : List ℕ) → Hand S m0 m' ds → length (decimal (v / 10)) + length ds ≤ 32 → WordAt m' ((na S)) (v / 10) → Looped (suc i) (suc j) m0 m' l (v / 10) ds) → Looped i j m0 m l v text
      by true e more =
          let less : v < 10 = grind (arith, nat_tests) in
          let digits : decimal v ≡ (48 + v) ∷ [] = decimal_digit v less in
          let count : length (decimal v) ≡ 1 = ap length digits in
          last_turn i j m0 m l v text le less h (omega (arith, count)) is_number
      by false e more = let big : 10 ≤ v = grind (arith, nat_tests) in next_turn i j m0 m l v text le big small h room is_number more

  -- ---- the beginning and the end

  module _ (j : ℕ) where
    -- the pointer behind the buffer
    pub start : (m : Memory) (l : Log ℕ ℕ) → Runs I K j (ex1 j S I K (set (pointer_at (o S)) (binary Add (slot (buffer_at (o S))) (const 32)))) m l 5 6 falls (put m ((pa S)) (bytes_of 8 ((ba S) + 32))) l
    start m l =
        let sum : plus ((ba S)) 32 ≡ (ba S) + 32 = mod-eq_of_lt (omega (arith, is.small)) ∙ omega arith in
        let P : ℕ → Type 0 = λ x. Runs I K j (ev j S I K (binary Add (slot (buffer_at (o S))) (const 32))) m l 3 3 x m l in
        r_set j S I K (pointer_at (o S)) (pointer (o S).low) (binary Add (slot (buffer_at (o S))) (const 32)) m m l l 3 3 ((ba S) + 32) (pointer_found S) (lit≤ tt)
        (subst P sum (r_binary j S I K Add (slot (buffer_at (o S))) (const 32) m l 1 1 1 1 ((ba S)) 32
        (r_slot j S I K (buffer_at (o S)) (buffer (o S).low) m l (buffer_found S)) (r_const j S I K 32 m l)))

    pub started : (m : Memory) → Hand S m (put m ((pa S)) (bytes_of 8 ((ba S) + 32))) []
    started m = record {
      first = (ba S) + 32;
      pointer = put_word m ((pa S)) ((ba S) + 32);
      place = omega arith;
      bytes = refl;
      others = λ x away. put_away m ((pa S)) ((ba S) + 32) x (elim away [ inl a ↦ inl (omega arith) | inr a ↦ inr (omega arith) ]);
    }

    -- the bytes in hand are written
    abbrev writing : Fueled Flow
    writing = λ k. ev j S I K (held (pointer_at (o S))) k >>= (λ x. ev j S I K (binary Subtract (binary Add (slot (buffer_at (o S))) (const 32)) (held (pointer_at (o S)))) k >>= (λ y. load_bytes (cenv S) x y >>= (λ bs. write_bytes Out bs >>= (λ _. pure falls))))

    finish_inner : (m0 m : Memory) (l : Log ℕ ℕ) (text : List ℕ) → Hand S m0 m text → length text ≤ 32 →
        Runs I K j (writing) m l (2 + (6 + (0 + (0 + 0)))) (3 + (7 + (moved (length text) + (length text + 0)))) falls m (l ++ map out text)
    finish_inner m0 m l text h room =
        let p : ℕ = h.first in
        let n : ℕ = length text in
        let sum : plus ((ba S)) 32 ≡ (ba S) + 32 = mod-eq_of_lt (omega (arith, is.small)) ∙ omega arith in
        let away : minus (plus ((ba S)) 32) p ≡ n = ap (λ (x : ℕ). minus x p) sum ∙ taken_away ((ba S) + 32) p n h.place (omega (arith, is.small)) in
        let where_from : Runs I K j (ev j S I K (held (pointer_at (o S)))) m l 2 3 p m l =
        r_held j S I K (pointer_at (o S)) (pointer (o S).low) p m l (pointer_found S) (lit≤ tt) (omega (arith, h.place, is.small)) h.pointer in
        let size : Expr = binary Subtract (binary Add (slot (buffer_at (o S))) (const 32)) (held (pointer_at (o S))) in
        let P : ℕ → Type 0 = λ x. Runs I K j (ev j S I K (binary Subtract (binary Add (slot (buffer_at (o S))) (const 32)) (held (pointer_at (o S))))) m l 6 7 x m l in
        let how_many : Runs I K j (ev j S I K (binary Subtract (binary Add (slot (buffer_at (o S))) (const 32)) (held (pointer_at (o S))))) m l 6 7 n m l =
        subst P away (r_binary j S I K Subtract (binary Add (slot (buffer_at (o S))) (const 32)) (held (pointer_at (o S))) m l 3 3 2 3 (plus ((ba S)) 32) p
        (r_binary j S I K Add (slot (buffer_at (o S))) (const 32) m l 1 1 1 1 ((ba S)) 32
        (r_slot j S I K (buffer_at (o S)) (buffer (o S).low) m l (buffer_found S)) (r_const j S I K 32 m l)) where_from) in
        let touched : all_in (touched_in S.outer S.low (variables_of (o S))) p n ≡ true =
        part_touched S.outer S.low (variables_of (o S)) (buffer_at (o S)) (buffer (o S).low) p n (buffer_found S) (omega (arith, h.place)) (omega (arith, h.place)) in
        let read : loaded (touched_in S.outer S.low (variables_of (o S))) m p n ≡ Some text =
        ap (λ (b : Bool). if b then bytes_at m p n else None) touched ∙ bytes_run m p text h.bytes in
        (runs_then I K j (ev j S I K (held (pointer_at (o S)))) (λ x k. ev j S I K size k >>= (λ y. load_bytes (cenv S) x y >>= (λ bs. write_bytes Out bs >>= (λ _. pure falls))))
        m l 2 3 p m l (6 + (0 + (0 + 0))) (7 + (moved n + (n + 0))) falls m (l ++ map out text) where_from
        (runs_then I K j (ev j S I K size) (λ y k. load_bytes (cenv S) p y >>= (λ bs. write_bytes Out bs >>= (λ _. pure falls)))
        m l 6 7 n m l (0 + (0 + 0)) (moved n + (n + 0)) falls m (l ++ map out text) how_many
        (runs_then I K j (λ k. load_bytes (cenv S) p n) (λ bs k. write_bytes Out bs >>= (λ _. pure falls))
        m l 0 (moved n) text m l (0 + 0) (n + 0) falls m (l ++ map out text) (runs_load I K j (cenv S) p n text m l read)
        (runs_then I K j (λ k. write_bytes Out text) (λ _ k. pure falls) m l 0 n tt m (l ++ map out text) 0 0 falls m (l ++ map out text)
        (runs_write I K j Out text m l) (runs_pure I K j falls m (l ++ map out text))))))

    pub finish_runs : (m0 m : Memory) (l : Log ℕ ℕ) (text : List ℕ) → Hand S m0 m text → length text ≤ 32 →
        Runs I K j (ex1 j S I K (write_code (o S))) m l 9 (11 + (moved (length text) + length text)) falls m (l ++ map out text)
    finish_runs m0 m l text h room =
        runs_as I K j (ex1 j S I K (write_code (o S))) m l (2 + (6 + (0 + (0 + 0))) + 1) 9 (3 + (7 + (moved (length text) + (length text + 0))) + 1) (11 + (moved (length text) + length text)) falls m (l ++ map out text) refl (omega arith)
        (runs_node I K j writing m l (2 + (6 + (0 + (0 + 0)))) (3 + (7 + (moved (length text) + (length text + 0)))) falls m (l ++ map out text) (finish_inner m0 m l text h room))

    pub finish_halts : (m0 m : Memory) (l : Log ℕ ℕ) (text : List ℕ) → Hand S m0 m text → length text ≤ 32 → Halts I K j (ex1 j S I K (write_code (o S))) m l m (l ++ map out text)
    finish_halts m0 m l text h room = halts_node I K j writing m l (2 + (6 + (0 + (0 + 0)))) (3 + (7 + (moved (length text) + (length text + 0)))) falls m (l ++ map out text) (finish_inner m0 m l text h room)
