-- The steps that move and zero bytes.
use Rattle.std.proofs.Common.{◌≡◌, ℕ, zero, suc, ◌+◌, ◌-◌, ◌*◌, ◌/◌, ◌%◌, ◌^◌, ◌<◌, ◌≤◌, inl, inr, Bool, true, false, List, [], ◌∷◌, ◌++◌, length, ap, ◌∙◌, sym, subst, refl, arith, length-append, append_assoc}
use Rattle.std.specs.Prelude.{Some, None, slice_get, replicate, nat_lt, if◌then◌else◌}
use Rattle.std.proofs.lemmas.Bool.Decides.{nat_tests}
use Rattle.std.proofs.lemmas.List.{length-replicate, replicate-append-replicate, append-nil}
use Rattle.rv_table.specs.Words.{flag, plus}
use Rattle.odc_core.specs.declared.tree.Width.{Width}
use Rattle.odc_core.specs.declared.tree.Width.TheVariants.{Byte, Half, Word, Double}
use Rattle.odc_core.specs.declared.tree.BinaryOp.TheVariants.{Add, Subtract}
use Rattle.odc_core.specs.declared.tree.Comparison.TheVariants.{Below}
use Rattle.odc_core.specs.Words.{width_size, binary_word, number_of, bytes_of}
use Rattle.odc_core.specs.Memory.{Memory, all_in, bytes_at, loaded, put}
use Rattle.odc_core.specs.Well.{AreBytes}
use Rattle.odc_core.specs.Tree.{Proc}
use Rattle.odc_core.specs.Run.{State, moved}
use Rattle.odc_mid.specs.declared.tree.MidStep.{MidStep}
use Rattle.odc_mid.specs.Tree.{Proc as MidProc}
use Rattle.odc_mid.specs.Run.{World as MidWorld, act, set}
use Rattle.odc_lower.specs.Plain.{Step, const_step, binary_step, compare_step, load_step, store_step, jump_step, branch_step}
use Rattle.odc_lower.specs.Code.{up_code, down_code, copy_code, clear_code, zero_code}
use Rattle.odc_lower.proofs.simulation.Runs.{Leads}
use Rattle.odc_lower.proofs.Plains.{Has, Stands, parts, stands_length}
use Rattle.odc_lower.proofs.simulation.Sims.{Frame, stand, IsSane}
use Rattle.odc_lower.proofs.simulation.Worlds.{IsFrame, mid_world}
use Rattle.odc_lower.proofs.simulation.Touching.{each_touched, part_touched}
use Rattle.odc_lower.proofs.simulation.Pieces.{plus_small, minus_small, bytes_of_number, bytes_of_zero, TwoParts, in_two, reads_length, reads_apart, put_upward, put_downward, bytes_first, bytes_second, bytes_of_memory}
use Rattle.odc_lower.proofs.simulation.Loops.{has_at, Holds, sets_0, sets_1, sets_2, sets_3, sets_4, sets_5, consts, jumps, binaries, compares, branches, passes, loads, stores, Way, arrived, way_on, way_then, way_as}

-- what is held while pieces of so many bytes are moved; the fourth temporary is free
pub record Held (d : ℕ) (temps : ℕ → ℕ) (v0 v1 v2 v4 v5 : ℕ) : Type 0 where
  pub free : ℕ
  pub holds : Holds d temps v0 v1 v2 free v4 v5

enough : (k n : ℕ) → 0 < k → k ≤ n → flag (nat_lt (k - 1) n) ≡ 1
enough k n some h = let t : nat_lt (k - 1) n ≡ true = grind (arith, nat_tests) in ap flag t

too_few : (k n : ℕ) → n < k → flag (nat_lt (k - 1) n) ≡ 0
too_few k n h = let t : nat_lt (k - 1) n ≡ false = grind (arith, nat_tests) in ap flag t

width_some : (w : Width) → 0 < width_size w
width_some Byte = omega arith
width_some Half = omega arith
width_some Word = omega arith
width_some Double = omega arith

module _ (world : MidWorld) (f : Frame) (is_frame : IsFrame f) (d : ℕ) where
  -- what may be touched lies low
  low_end : (a n : ℕ) → all_in f.touched a n ≡ true → 0 < n → a + n ≤ 2 ^ 31
  low_end a n h some =
      let last : a + (n - 1) < 2 ^ 31 = is_frame.touched (a + (n - 1)) (each_touched f.touched a n h (a + (n - 1)) (omega arith) (omega arith)) in
      omega arith

  -- ---- zeros

  -- what is held while pieces of so many bytes are zeroed; the last temporary is free
  pub record HeldZero (temps : ℕ → ℕ) (v0 v1 v3 v4 : ℕ) : Type 0 where
    pub free : ℕ
    pub holds : Holds d temps v0 v1 0 v3 v4 free

  module _ (w : Width) (p end : ℕ) (at : Stands f.steps p (clear_code d p w (width_size w)) end) where
    has : (i q : ℕ) (x : Step) → slice_get (clear_code d p w (width_size w)) i ≡ Some x → p + i ≡ q → Has f.steps q x
    has i q x h e = has_at f.steps p (clear_code d p w (width_size w)) end i q x at h e

    clear_turns : (j m r a n : ℕ) (free : ℕ) (temps : ℕ → ℕ) (s : State) → m ≡ width_size w * j → n ≡ m + r → r < width_size w → Holds d temps a n 0 (width_size w - 1) (width_size w) free →
        all_in f.touched a n ≡ true →
        Way world f (p + 6) temps s (5 * j + 2) (p + 8) (record s { memory = put s.memory a (replicate m 0) }) (λ t. HeldZero t (a + m) r (width_size w - 1) (width_size w))
    clear_turns zero m r a n free temps s is sum few h touched =
        let none : 0 ≡ m = omega arith in
        let same : n ≡ r = omega arith in
        let place : a ≡ a + 0 = omega arith in
        let temps1 = set (d + 5) 0 temps in
        let P : ℕ → Type 0 = λ x. Way world f (p + 6) temps s 2 (p + 8) (record s { memory = put s.memory a (replicate x 0) }) (λ t. HeldZero t (a + x) r (width_size w - 1) (width_size w)) in
        let R : ℕ → Type 0 = λ x. Holds d temps1 x r 0 (width_size w - 1) (width_size w) 0 in
        let S : ℕ → Type 0 = λ x. Holds d temps1 a x 0 (width_size w - 1) (width_size w) 0 in
        let h1 : Holds d temps1 a n 0 (width_size w - 1) (width_size w) 0 = sets_5 d temps a n 0 (width_size w - 1) (width_size w) free 0 h in
        let wanted : (ℕ → ℕ) → Type 0 = λ t. HeldZero t (a + 0) r (width_size w - 1) (width_size w) in
        subst P none
        (way_on world f (p + 6) temps s (p + 7) temps1 s 1 (p + 8) s wanted
        (compares world f (p + 6) (p + 7) (d + 5) (d + 3) (d + 1) (width_size w - 1) n 0 temps s (has 6 (p + 6) (compare_step (d + 5) Below (d + 3) (d + 1)) refl refl) (omega arith) h.t3 h.t1
        (too_few (width_size w) n (omega arith)))
        (way_on world f (p + 7) temps1 s (p + 8) temps1 s 0 (p + 8) s wanted
        (passes world f (p + 7) (p + 8) (p + 3) (d + 5) temps1 s (has 7 (p + 7) (branch_step (d + 5) (p + 3)) refl refl) h1.t5 (omega arith))
        (arrived world f (p + 8) temps1 s wanted (record { free = 0; holds = subst R place (subst S same h1) }))))
    clear_turns (suc j) m r a n free temps s is sum few h touched =
        let c : ℕ = width_size w in
        let some : 0 < c = width_some w in
        let m' : ℕ = c * j in
        let split : m ≡ c + m' = is ∙ (let e : c * suc j ≡ c + c * j = omega arith in e) in
        let high : a + n ≤ 2 ^ 31 = low_end a n touched (omega arith) in
        let zeros : List ℕ = replicate c 0 in
        let many : length zeros ≡ c = length-replicate c 0 in
        let fits : c ≤ n = omega arith in
        let n' : ℕ = n - c in
        let s1 : State = record s { memory = put s.memory a zeros } in
        let temps1 = set (d + 5) 1 temps in
        let temps2 = set d (a + c) temps1 in
        let temps3 = set (d + 1) n' temps2 in
        let h1 : Holds d temps1 a n 0 (c - 1) c 1 = sets_5 d temps a n 0 (c - 1) c free 1 h in
        let h2 : Holds d temps2 (a + c) n 0 (c - 1) c 1 = sets_0 d temps1 a n 0 (c - 1) c 1 (a + c) h1 in
        let h3 : Holds d temps3 (a + c) n' 0 (c - 1) c 1 = sets_1 d temps2 (a + c) n 0 (c - 1) c 1 n' h2 in
        let here : all_in f.touched a (length zeros) ≡ true = part_touched f.touched a n a (length zeros) touched (omega arith) (omega (arith, many)) in
        let behind : all_in f.touched (a + c) n' ≡ true = part_touched f.touched a n (a + c) n' touched (omega arith) (omega arith) in
        let end_state : State = record s1 { memory = put s1.memory (a + c) (replicate m' 0) } in
        let wanted : (ℕ → ℕ) → Type 0 = λ t. HeldZero t (a + c + m') r (c - 1) c in
        let rest : Way world f (p + 6) temps3 s1 (5 * j + 2) (p + 8) end_state wanted = clear_turns j m' r (a + c) n' 1 temps3 s1 refl (omega arith) few h3 behind in
        let turn : Way world f (p + 6) temps s (1 + (1 + (1 + (1 + (1 + (5 * j + 2)))))) (p + 8) end_state wanted =
        way_on world f (p + 6) temps s (p + 7) temps1 s (1 + (1 + (1 + (1 + (5 * j + 2))))) (p + 8) end_state wanted
        (compares world f (p + 6) (p + 7) (d + 5) (d + 3) (d + 1) (c - 1) n 1 temps s (has 6 (p + 6) (compare_step (d + 5) Below (d + 3) (d + 1)) refl refl) (omega arith) h.t3 h.t1 (enough c n some fits))
        (way_on world f (p + 7) temps1 s (p + 3) temps1 s (1 + (1 + (1 + (5 * j + 2)))) (p + 8) end_state wanted
        (branches world f (p + 7) (p + 3) (d + 5) temps1 s (has 7 (p + 7) (branch_step (d + 5) (p + 3)) refl refl) h1.t5)
        (way_on world f (p + 3) temps1 s (p + 4) temps1 s1 (1 + (1 + (5 * j + 2))) (p + 8) end_state wanted
        (stores world f (p + 3) (p + 4) d (d + 2) a 0 w zeros temps1 s (has 3 (p + 3) (store_step w d (d + 2)) refl refl) (omega arith) h1.t0 h1.t2 (bytes_of_zero c) here)
        (way_on world f (p + 4) temps1 s1 (p + 5) temps2 s1 (1 + (5 * j + 2)) (p + 8) end_state wanted
        (binaries world f (p + 4) (p + 5) d d (d + 4) a c (a + c) Add temps1 s1 (has 4 (p + 4) (binary_step d Add d (d + 4)) refl refl) (omega arith) h1.t0 h1.t4 (plus_small a c (omega arith)))
        (way_on world f (p + 5) temps2 s1 (p + 6) temps3 s1 (5 * j + 2) (p + 8) end_state wanted
        (binaries world f (p + 5) (p + 6) (d + 1) (d + 1) (d + 4) n c n' Subtract temps2 s1 (has 5 (p + 5) (binary_step (d + 1) Subtract (d + 1) (d + 4)) refl refl) (omega arith) h2.t1 h2.t4
        (minus_small n c fits (omega arith)))
        rest)))) in
        let together : put s.memory a (replicate m 0) ≡ put (put s.memory a zeros) (a + c) (replicate m' 0) =
        ap (λ (x : ℕ). put s.memory a (replicate x 0)) split
        ∙ ap (put s.memory a) (sym (replicate-append-replicate c m' 0))
        ∙ put_upward s.memory a zeros (replicate m' 0)
        ∙ ap (λ (x : ℕ). put (put s.memory a zeros) (a + x) (replicate m' 0)) many in
        let place : a + c + m' ≡ a + m = omega arith in
        let P : Memory → Type 0 = λ x. Way world f (p + 6) temps s (5 * suc j + 2) (p + 8) (record s { memory = x }) (λ t. HeldZero t (a + m) r (c - 1) c) in
        let Q : ℕ → Type 0 = λ x. Way world f (p + 6) temps s (5 * suc j + 2) (p + 8) end_state (λ t. HeldZero t x r (c - 1) c) in
        subst P (sym together) (subst Q place (way_as world f (p + 6) temps s (1 + (1 + (1 + (1 + (1 + (5 * j + 2)))))) (5 * suc j + 2) (p + 8) end_state wanted (omega arith) turn))

    -- the whole of the loop
    clears : (j r a n v3 v4 v5 : ℕ) (temps : ℕ → ℕ) (s : State) → n ≡ width_size w * j + r → r < width_size w → Holds d temps a n 0 v3 v4 v5 → all_in f.touched a n ≡ true →
        Way world f p temps s (5 * j + 5) (p + 8) (record s { memory = put s.memory a (replicate (width_size w * j) 0) }) (λ t. HeldZero t (a + width_size w * j) r (width_size w - 1) (width_size w))
    clears j r a n v3 v4 v5 temps s sum few h touched =
        let c : ℕ = width_size w in
        let temps1 = set (d + 3) (c - 1) temps in
        let temps2 = set (d + 4) c temps1 in
        let h1 : Holds d temps1 a n 0 (c - 1) v4 v5 = sets_3 d temps a n 0 v3 v4 v5 (c - 1) h in
        let h2 : Holds d temps2 a n 0 (c - 1) c v5 = sets_4 d temps1 a n 0 (c - 1) v4 v5 c h1 in
        let end_state : State = record s { memory = put s.memory a (replicate (c * j) 0) } in
        let wanted : (ℕ → ℕ) → Type 0 = λ t. HeldZero t (a + c * j) r (c - 1) c in
        way_as world f p temps s (1 + (1 + (1 + (5 * j + 2)))) (5 * j + 5) (p + 8) end_state wanted (omega arith)
        (way_on world f p temps s (p + 1) temps1 s (1 + (1 + (5 * j + 2))) (p + 8) end_state wanted
        (consts world f p (p + 1) (d + 3) (c - 1) temps s (has 0 p (const_step (d + 3) (c - 1)) refl (omega arith)) refl)
        (way_on world f (p + 1) temps1 s (p + 2) temps2 s (1 + (5 * j + 2)) (p + 8) end_state wanted
        (consts world f (p + 1) (p + 2) (d + 4) c temps1 s (has 1 (p + 1) (const_step (d + 4) c) refl refl) (omega arith))
        (way_on world f (p + 2) temps2 s (p + 6) temps2 s (5 * j + 2) (p + 8) end_state wanted
        (jumps world f (p + 2) (p + 6) temps2 s (has 2 (p + 2) (jump_step (p + 6)) refl refl))
        (clear_turns j (c * j) r a n v5 temps2 s refl sum few h2 touched))))

  -- ---- moves

  -- what is left of a list of bytes that is moved from its front
  pub record MovedFront (p p' a b m r steps : ℕ) (bytes : List ℕ) (temps : ℕ → ℕ) (s : State) (v4 v5 : ℕ) : Type 0 where
    pub moved : List ℕ
    pub left : List ℕ
    pub whole : bytes ≡ moved ++ left
    pub many : length moved ≡ m
    pub rest : bytes_at (put s.memory a moved) (b + m) r ≡ Some left
    pub way : Way world f p temps s steps p' (record s { memory = put s.memory a moved }) (λ t. Held d t (a + m) (b + m) r v4 v5)

  -- the bytes are not read where they have been put
  module _ (w : Width) (p end : ℕ) (at : Stands f.steps p (up_code d p w (width_size w)) end) where
    has_up : (i q : ℕ) (x : Step) → slice_get (up_code d p w (width_size w)) i ≡ Some x → p + i ≡ q → Has f.steps q x
    has_up i q x h e = has_at f.steps p (up_code d p w (width_size w)) end i q x at h e

    up_turns : (j m r a b n free : ℕ) (bytes : List ℕ) (temps : ℕ → ℕ) (s : State) → m ≡ width_size w * j → n ≡ m + r → r < width_size w → Holds d temps a b n free (width_size w - 1) (width_size w) →
        a ≤ b → all_in f.touched a n ≡ true → all_in f.touched b n ≡ true → bytes_at s.memory b n ≡ Some bytes → AreBytes bytes →
        MovedFront (p + 8) (p + 10) a b m r (7 * j + 2) bytes temps s (width_size w - 1) (width_size w)
    up_turns zero m r a b n free bytes temps s is sum few h order writable readable there are =
        let none : 0 ≡ m = omega arith in
        let same : n ≡ r = omega arith in
        let temps1 = set (d + 3) 0 temps in
        let h1 : Holds d temps1 a b n 0 (width_size w - 1) (width_size w) = sets_3 d temps a b n free (width_size w - 1) (width_size w) 0 h in
        let place_a : a ≡ a + 0 = omega arith in
        let place_b : b ≡ b + 0 = omega arith in
        let A : ℕ → Type 0 = λ x. Holds d temps1 x b r 0 (width_size w - 1) (width_size w) in
        let B : ℕ → Type 0 = λ x. Holds d temps1 (a + 0) x r 0 (width_size w - 1) (width_size w) in
        let N : ℕ → Type 0 = λ x. Holds d temps1 a b x 0 (width_size w - 1) (width_size w) in
        let wanted : (ℕ → ℕ) → Type 0 = λ t. Held d t (a + 0) (b + 0) r (width_size w - 1) (width_size w) in
        let P : ℕ → Type 0 = λ x. MovedFront (p + 8) (p + 10) a b x r 2 bytes temps s (width_size w - 1) (width_size w) in
        subst P none (record {
          moved = [];
          left = bytes;
          whole = refl;
          many = refl;
          rest = subst (λ (x : ℕ). bytes_at s.memory x r ≡ Some bytes) place_b (subst (λ (x : ℕ). bytes_at s.memory b x ≡ Some bytes) same there);
          way = way_on world f (p + 8) temps s (p + 9) temps1 s 1 (p + 10) s wanted
              (compares world f (p + 8) (p + 9) (d + 3) (d + 4) (d + 2) (width_size w - 1) n 0 temps s (has_up 8 (p + 8) (compare_step (d + 3) Below (d + 4) (d + 2)) refl refl) (omega arith) h.t4 h.t2
              (too_few (width_size w) n (omega arith)))
              (way_on world f (p + 9) temps1 s (p + 10) temps1 s 0 (p + 10) s wanted
              (passes world f (p + 9) (p + 10) (p + 3) (d + 3) temps1 s (has_up 9 (p + 9) (branch_step (d + 3) (p + 3)) refl refl) h1.t3 (omega arith))
              (arrived world f (p + 10) temps1 s wanted (record { free = 0; holds = subst B place_b (subst A place_a (subst N same h1)) })));
        })
    up_turns (suc j) m r a b n free bytes temps s is sum few h order writable readable there are =
        let c : ℕ = width_size w in
        let some : 0 < c = width_some w in
        let m' : ℕ = c * j in
        let split : m ≡ c + m' = is ∙ (let e : c * suc j ≡ c + c * j = omega arith in e) in
        let high_a : a + n ≤ 2 ^ 31 = low_end a n writable (omega arith) in
        let high_b : b + n ≤ 2 ^ 31 = low_end b n readable (omega arith) in
        let fits : c ≤ n = omega arith in
        let n' : ℕ = n - c in
        let cut : n ≡ c + n' = omega arith in
        let two : TwoParts s.memory b c n' bytes = in_two s.memory b c n' bytes (ap (bytes_at s.memory b) (sym cut) ∙ there) in
        let x : List ℕ = two.first in
        let many : length x ≡ c = reads_length s.memory b c x two.reads_first in
        let are_all : AreBytes (x ++ two.second) = subst AreBytes two.whole are in
        let s1 : State = record s { memory = put s.memory a x } in
        let temps1 = set (d + 3) 1 temps in
        let temps2 = set (d + 3) (number_of x) temps1 in
        let temps3 = set d (a + c) temps2 in
        let temps4 = set (d + 1) (b + c) temps3 in
        let temps5 = set (d + 2) n' temps4 in
        let h1 : Holds d temps1 a b n 1 (c - 1) c = sets_3 d temps a b n free (c - 1) c 1 h in
        let h2 : Holds d temps2 a b n (number_of x) (c - 1) c = sets_3 d temps1 a b n 1 (c - 1) c (number_of x) h1 in
        let h3 : Holds d temps3 (a + c) b n (number_of x) (c - 1) c = sets_0 d temps2 a b n (number_of x) (c - 1) c (a + c) h2 in
        let h4 : Holds d temps4 (a + c) (b + c) n (number_of x) (c - 1) c = sets_1 d temps3 (a + c) b n (number_of x) (c - 1) c (b + c) h3 in
        let h5 : Holds d temps5 (a + c) (b + c) n' (number_of x) (c - 1) c = sets_2 d temps4 (a + c) (b + c) n (number_of x) (c - 1) c n' h4 in
        let got : loaded f.touched s.memory b c ≡ Some x =
        ap (λ (t : Bool). if t then bytes_at s.memory b c else None) (part_touched f.touched b n b c readable (omega arith) (omega arith)) ∙ two.reads_first in
        let back : bytes_of c (number_of x) ≡ x = ap (λ (y : ℕ). bytes_of y (number_of x)) (sym many) ∙ bytes_of_number x (bytes_first x two.second are_all) in
        let here : all_in f.touched a (length x) ≡ true = part_touched f.touched a n a (length x) writable (omega arith) (omega (arith, many)) in
        let there1 : bytes_at s1.memory (b + c) n' ≡ Some two.second = reads_apart s.memory a x (b + c) n' (inr (omega (arith, many))) ∙ two.reads_second in
        let rest : MovedFront (p + 8) (p + 10) (a + c) (b + c) m' r (7 * j + 2) two.second temps5 s1 (c - 1) c =
        up_turns j m' r (a + c) (b + c) n' (number_of x) two.second temps5 s1 refl (omega arith) few h5 (omega arith)
        (part_touched f.touched a n (a + c) n' writable (omega arith) (omega arith)) (part_touched f.touched b n (b + c) n' readable (omega arith) (omega arith)) there1 (bytes_second x two.second are_all) in
        let end_state : State = record s1 { memory = put s1.memory (a + c) rest.moved } in
        let wanted : (ℕ → ℕ) → Type 0 = λ t. Held d t (a + c + m') (b + c + m') r (c - 1) c in
        let turn : Way world f (p + 8) temps s (1 + (1 + (1 + (1 + (1 + (1 + (1 + (7 * j + 2)))))))) (p + 10) end_state wanted =
        way_on world f (p + 8) temps s (p + 9) temps1 s (1 + (1 + (1 + (1 + (1 + (1 + (7 * j + 2))))))) (p + 10) end_state wanted
        (compares world f (p + 8) (p + 9) (d + 3) (d + 4) (d + 2) (c - 1) n 1 temps s (has_up 8 (p + 8) (compare_step (d + 3) Below (d + 4) (d + 2)) refl refl) (omega arith) h.t4 h.t2 (enough c n some fits))
        (way_on world f (p + 9) temps1 s (p + 3) temps1 s (1 + (1 + (1 + (1 + (1 + (7 * j + 2)))))) (p + 10) end_state wanted
        (branches world f (p + 9) (p + 3) (d + 3) temps1 s (has_up 9 (p + 9) (branch_step (d + 3) (p + 3)) refl refl) h1.t3)
        (way_on world f (p + 3) temps1 s (p + 4) temps2 s (1 + (1 + (1 + (1 + (7 * j + 2))))) (p + 10) end_state wanted
        (loads world f (p + 3) (p + 4) (d + 3) (d + 1) b w x temps1 s (has_up 3 (p + 3) (load_step (d + 3) w (d + 1)) refl refl) (omega arith) h1.t1 got)
        (way_on world f (p + 4) temps2 s (p + 5) temps2 s1 (1 + (1 + (1 + (7 * j + 2)))) (p + 10) end_state wanted
        (stores world f (p + 4) (p + 5) d (d + 3) a (number_of x) w x temps2 s (has_up 4 (p + 4) (store_step w d (d + 3)) refl refl) (omega arith) h2.t0 h2.t3 back here)
        (way_on world f (p + 5) temps2 s1 (p + 6) temps3 s1 (1 + (1 + (7 * j + 2))) (p + 10) end_state wanted
        (binaries world f (p + 5) (p + 6) d d (d + 5) a c (a + c) Add temps2 s1 (has_up 5 (p + 5) (binary_step d Add d (d + 5)) refl refl) (omega arith) h2.t0 h2.t5 (plus_small a c (omega arith)))
        (way_on world f (p + 6) temps3 s1 (p + 7) temps4 s1 (1 + (7 * j + 2)) (p + 10) end_state wanted
        (binaries world f (p + 6) (p + 7) (d + 1) (d + 1) (d + 5) b c (b + c) Add temps3 s1 (has_up 6 (p + 6) (binary_step (d + 1) Add (d + 1) (d + 5)) refl refl) (omega arith) h3.t1 h3.t5
        (plus_small b c (omega arith)))
        (way_on world f (p + 7) temps4 s1 (p + 8) temps5 s1 (7 * j + 2) (p + 10) end_state wanted
        (binaries world f (p + 7) (p + 8) (d + 2) (d + 2) (d + 5) n c n' Subtract temps4 s1 (has_up 7 (p + 7) (binary_step (d + 2) Subtract (d + 2) (d + 5)) refl refl) (omega arith) h4.t2 h4.t5
        (minus_small n c fits (omega arith)))
        rest.way)))))) in
        let together : put s.memory a (x ++ rest.moved) ≡ put (put s.memory a x) (a + c) rest.moved =
        put_upward s.memory a x rest.moved ∙ ap (λ (y : ℕ). put (put s.memory a x) (a + y) rest.moved) many in
        let place_a : a + c + m' ≡ a + m = omega arith in
        let place_b : b + c + m' ≡ b + m = omega arith in
        let M : Memory → Type 0 = λ y. Way world f (p + 8) temps s (7 * suc j + 2) (p + 10) (record s { memory = y }) (λ t. Held d t (a + m) (b + m) r (c - 1) c) in
        let A : ℕ → Type 0 = λ y. Way world f (p + 8) temps s (7 * suc j + 2) (p + 10) end_state (λ t. Held d t y (b + m) r (c - 1) c) in
        let B : ℕ → Type 0 = λ y. Way world f (p + 8) temps s (7 * suc j + 2) (p + 10) end_state (λ t. Held d t (a + c + m') y r (c - 1) c) in
        let R : Memory → Type 0 = λ y. bytes_at y (b + m) r ≡ Some rest.left in
        record {
          moved = x ++ rest.moved;
          left = rest.left;
          whole = two.whole ∙ ap (λ (ys : List ℕ). x ++ ys) rest.whole ∙ sym (append_assoc x rest.moved rest.left);
          many = omega (arith, length-append x rest.moved, many, rest.many, split);
          rest = subst R (sym together) (ap (λ (y : ℕ). bytes_at (put s1.memory (a + c) rest.moved) y r) (sym place_b) ∙ rest.rest);
          way = subst M (sym together) (subst A place_a (subst B place_b
              (way_as world f (p + 8) temps s (1 + (1 + (1 + (1 + (1 + (1 + (1 + (7 * j + 2)))))))) (7 * suc j + 2) (p + 10) end_state wanted (omega arith) turn)));
        }

    moves_up : (j r a b n v3 v4 v5 : ℕ) (bytes : List ℕ) (temps : ℕ → ℕ) (s : State) → n ≡ width_size w * j + r → r < width_size w → Holds d temps a b n v3 v4 v5 →
        a ≤ b → all_in f.touched a n ≡ true → all_in f.touched b n ≡ true → bytes_at s.memory b n ≡ Some bytes → AreBytes bytes →
        MovedFront p (p + 10) a b (width_size w * j) r (7 * j + 5) bytes temps s (width_size w - 1) (width_size w)
    moves_up j r a b n v3 v4 v5 bytes temps s sum few h order writable readable there are =
        let c : ℕ = width_size w in
        let temps1 = set (d + 4) (c - 1) temps in
        let temps2 = set (d + 5) c temps1 in
        let h1 : Holds d temps1 a b n v3 (c - 1) v5 = sets_4 d temps a b n v3 v4 v5 (c - 1) h in
        let h2 : Holds d temps2 a b n v3 (c - 1) c = sets_5 d temps1 a b n v3 (c - 1) v5 c h1 in
        let x = up_turns j (c * j) r a b n v3 bytes temps2 s refl sum few h2 order writable readable there are in
        let end_state : State = record s { memory = put s.memory a x.moved } in
        let wanted : (ℕ → ℕ) → Type 0 = λ t. Held d t (a + c * j) (b + c * j) r (c - 1) c in
        record {
          moved = x.moved;
          left = x.left;
          whole = x.whole;
          many = x.many;
          rest = x.rest;
          way = way_as world f p temps s (1 + (1 + (1 + (7 * j + 2)))) (7 * j + 5) (p + 10) end_state wanted (omega arith)
              (way_on world f p temps s (p + 1) temps1 s (1 + (1 + (7 * j + 2))) (p + 10) end_state wanted
              (consts world f p (p + 1) (d + 4) (c - 1) temps s (has_up 0 p (const_step (d + 4) (c - 1)) refl (omega arith)) refl)
              (way_on world f (p + 1) temps1 s (p + 2) temps2 s (1 + (7 * j + 2)) (p + 10) end_state wanted
              (consts world f (p + 1) (p + 2) (d + 5) c temps1 s (has_up 1 (p + 1) (const_step (d + 5) c) refl refl) (omega arith))
              (way_on world f (p + 2) temps2 s (p + 8) temps2 s (7 * j + 2) (p + 10) end_state wanted
              (jumps world f (p + 2) (p + 8) temps2 s (has_up 2 (p + 2) (jump_step (p + 8)) refl refl))
              x.way)));
        }

    moves_up_to : (q j r a b n v3 v4 v5 : ℕ) (bytes : List ℕ) (temps : ℕ → ℕ) (s : State) → p + 10 ≡ q → n ≡ width_size w * j + r → r < width_size w → Holds d temps a b n v3 v4 v5 →
        a ≤ b → all_in f.touched a n ≡ true → all_in f.touched b n ≡ true → bytes_at s.memory b n ≡ Some bytes → AreBytes bytes →
        MovedFront p q a b (width_size w * j) r (7 * j + 5) bytes temps s (width_size w - 1) (width_size w)
    moves_up_to q j r a b n v3 v4 v5 bytes temps s to sum few h order writable readable there are =
        let P : ℕ → Type 0 = λ z. MovedFront p z a b (width_size w * j) r (7 * j + 5) bytes temps s (width_size w - 1) (width_size w) in
        subst P to (moves_up j r a b n v3 v4 v5 bytes temps s sum few h order writable readable there are)

  -- what is left of a list of bytes that is moved from its end; the addresses are those behind what is left
  pub record MovedBack (p p' a b m r steps : ℕ) (bytes : List ℕ) (temps : ℕ → ℕ) (s : State) (v4 v5 : ℕ) : Type 0 where
    pub left : List ℕ
    pub moved : List ℕ
    pub whole : bytes ≡ left ++ moved
    pub many : length left ≡ r
    pub rest : bytes_at (put s.memory (a + r) moved) b r ≡ Some left
    pub to : ℕ
    pub from : ℕ
    pub to_is : 0 < r → to ≡ a + r
    pub from_is : 0 < r → from ≡ b + r
    pub way : Way world f p temps s steps p' (record s { memory = put s.memory (a + r) moved }) (λ t. Held d t to from r v4 v5)

  module _ (w : Width) (p end : ℕ) (at : Stands f.steps p (down_code d p w (width_size w)) end) where
    has_down : (i q : ℕ) (x : Step) → slice_get (down_code d p w (width_size w)) i ≡ Some x → p + i ≡ q → Has f.steps q x
    has_down i q x h e = has_at f.steps p (down_code d p w (width_size w)) end i q x at h e

    down_turns : (j m r a b to from n free : ℕ) (bytes : List ℕ) (temps : ℕ → ℕ) (s : State) → m ≡ width_size w * j → n ≡ m + r → r < width_size w → Holds d temps to from n free (width_size w - 1) (width_size w) →
        (0 < n → to ≡ a + n) → (0 < n → from ≡ b + n) →
        b ≤ a → all_in f.touched a n ≡ true → all_in f.touched b n ≡ true → bytes_at s.memory b n ≡ Some bytes → AreBytes bytes →
        MovedBack (p + 8) (p + 10) a b m r (7 * j + 2) bytes temps s (width_size w - 1) (width_size w)
    down_turns zero m r a b to from n free bytes temps s is sum few h to_is from_is order writable readable there are =
        let same : n ≡ r = omega arith in
        let temps1 = set (d + 3) 0 temps in
        let h1 : Holds d temps1 to from n 0 (width_size w - 1) (width_size w) = sets_3 d temps to from n free (width_size w - 1) (width_size w) 0 h in
        let N : ℕ → Type 0 = λ x. Holds d temps1 to from x 0 (width_size w - 1) (width_size w) in
        let wanted : (ℕ → ℕ) → Type 0 = λ t. Held d t to from r (width_size w - 1) (width_size w) in
        record {
          left = bytes;
          moved = [];
          whole = sym (append-nil bytes);
          many = reads_length s.memory b n bytes there ∙ same;
          rest = subst (λ (x : ℕ). bytes_at s.memory b x ≡ Some bytes) same there;
          to = to;
          from = from;
          to_is = λ some. to_is (omega arith) ∙ ap (λ (x : ℕ). a + x) same;
          from_is = λ some. from_is (omega arith) ∙ ap (λ (x : ℕ). b + x) same;
          way = way_on world f (p + 8) temps s (p + 9) temps1 s 1 (p + 10) s wanted
              (compares world f (p + 8) (p + 9) (d + 3) (d + 4) (d + 2) (width_size w - 1) n 0 temps s (has_down 8 (p + 8) (compare_step (d + 3) Below (d + 4) (d + 2)) refl refl) (omega arith) h.t4 h.t2
              (too_few (width_size w) n (omega arith)))
              (way_on world f (p + 9) temps1 s (p + 10) temps1 s 0 (p + 10) s wanted
              (passes world f (p + 9) (p + 10) (p + 3) (d + 3) temps1 s (has_down 9 (p + 9) (branch_step (d + 3) (p + 3)) refl refl) h1.t3 (omega arith))
              (arrived world f (p + 10) temps1 s wanted (record { free = 0; holds = subst N same h1 })));
        }
    down_turns (suc j) m r a b to from n free bytes temps s is sum few h to_is from_is order writable readable there are =
        let c : ℕ = width_size w in
        let some : 0 < c = width_some w in
        let m' : ℕ = c * j in
        let split : m ≡ c + m' = is ∙ (let e : c * suc j ≡ c + c * j = omega arith in e) in
        let high_a : a + n ≤ 2 ^ 31 = low_end a n writable (omega arith) in
        let high_b : b + n ≤ 2 ^ 31 = low_end b n readable (omega arith) in
        let fits : c ≤ n = omega arith in
        let n' : ℕ = n - c in
        let cut : n ≡ n' + c = omega arith in
        let top_a : to ≡ a + n = to_is (omega arith) in
        let top_b : from ≡ b + n = from_is (omega arith) in
        let two : TwoParts s.memory b n' c bytes = in_two s.memory b n' c bytes (ap (bytes_at s.memory b) (sym cut) ∙ there) in
        let x : List ℕ = two.second in
        let many : length x ≡ c = reads_length s.memory (b + n') c x two.reads_second in
        let before : length two.first ≡ n' = reads_length s.memory b n' two.first two.reads_first in
        let are_all : AreBytes (two.first ++ x) = subst AreBytes two.whole are in
        let s1 : State = record s { memory = put s.memory (a + n') x } in
        let temps1 = set (d + 3) 1 temps in
        let temps2 = set d (a + n') temps1 in
        let temps3 = set (d + 1) (b + n') temps2 in
        let temps4 = set (d + 3) (number_of x) temps3 in
        let temps5 = set (d + 2) n' temps4 in
        let h1 : Holds d temps1 to from n 1 (c - 1) c = sets_3 d temps to from n free (c - 1) c 1 h in
        let h2 : Holds d temps2 (a + n') from n 1 (c - 1) c = sets_0 d temps1 to from n 1 (c - 1) c (a + n') h1 in
        let h3 : Holds d temps3 (a + n') (b + n') n 1 (c - 1) c = sets_1 d temps2 (a + n') from n 1 (c - 1) c (b + n') h2 in
        let h4 : Holds d temps4 (a + n') (b + n') n (number_of x) (c - 1) c = sets_3 d temps3 (a + n') (b + n') n 1 (c - 1) c (number_of x) h3 in
        let h5 : Holds d temps5 (a + n') (b + n') n' (number_of x) (c - 1) c = sets_2 d temps4 (a + n') (b + n') n (number_of x) (c - 1) c n' h4 in
        let got : loaded f.touched s.memory (b + n') c ≡ Some x =
        ap (λ (t : Bool). if t then bytes_at s.memory (b + n') c else None) (part_touched f.touched b n (b + n') c readable (omega arith) (omega arith)) ∙ two.reads_second in
        let back : bytes_of c (number_of x) ≡ x = ap (λ (y : ℕ). bytes_of y (number_of x)) (sym many) ∙ bytes_of_number x (bytes_second two.first x are_all) in
        let here : all_in f.touched (a + n') (length x) ≡ true = part_touched f.touched a n (a + n') (length x) writable (omega arith) (omega (arith, many)) in
        let there1 : bytes_at s1.memory b n' ≡ Some two.first = reads_apart s.memory (a + n') x b n' (inl (omega arith)) ∙ two.reads_first in
        let rest : MovedBack (p + 8) (p + 10) a b m' r (7 * j + 2) two.first temps5 s1 (c - 1) c =
        down_turns j m' r a b (a + n') (b + n') n' (number_of x) two.first temps5 s1 refl (omega arith) few h5 (λ y. refl) (λ y. refl) order
        (part_touched f.touched a n a n' writable (omega arith) (omega arith)) (part_touched f.touched b n b n' readable (omega arith) (omega arith)) there1 (bytes_first two.first x are_all) in
        let end_state : State = record s1 { memory = put s1.memory (a + r) rest.moved } in
        let wanted : (ℕ → ℕ) → Type 0 = λ t. Held d t rest.to rest.from r (c - 1) c in
        let to_goes : binary_word Subtract to c ≡ a + n' = minus_small to c (omega arith) (omega arith) ∙ (let e : to - c ≡ a + n' = omega arith in e) in
        let from_goes : binary_word Subtract from c ≡ b + n' = minus_small from c (omega arith) (omega arith) ∙ (let e : from - c ≡ b + n' = omega arith in e) in
        let turn : Way world f (p + 8) temps s (1 + (1 + (1 + (1 + (1 + (1 + (1 + (7 * j + 2)))))))) (p + 10) end_state wanted =
        way_on world f (p + 8) temps s (p + 9) temps1 s (1 + (1 + (1 + (1 + (1 + (1 + (7 * j + 2))))))) (p + 10) end_state wanted
        (compares world f (p + 8) (p + 9) (d + 3) (d + 4) (d + 2) (c - 1) n 1 temps s (has_down 8 (p + 8) (compare_step (d + 3) Below (d + 4) (d + 2)) refl refl) (omega arith) h.t4 h.t2 (enough c n some fits))
        (way_on world f (p + 9) temps1 s (p + 3) temps1 s (1 + (1 + (1 + (1 + (1 + (7 * j + 2)))))) (p + 10) end_state wanted
        (branches world f (p + 9) (p + 3) (d + 3) temps1 s (has_down 9 (p + 9) (branch_step (d + 3) (p + 3)) refl refl) h1.t3)
        (way_on world f (p + 3) temps1 s (p + 4) temps2 s (1 + (1 + (1 + (1 + (7 * j + 2))))) (p + 10) end_state wanted
        (binaries world f (p + 3) (p + 4) d d (d + 5) to c (a + n') Subtract temps1 s (has_down 3 (p + 3) (binary_step d Subtract d (d + 5)) refl refl) (omega arith) h1.t0 h1.t5 to_goes)
        (way_on world f (p + 4) temps2 s (p + 5) temps3 s (1 + (1 + (1 + (7 * j + 2)))) (p + 10) end_state wanted
        (binaries world f (p + 4) (p + 5) (d + 1) (d + 1) (d + 5) from c (b + n') Subtract temps2 s (has_down 4 (p + 4) (binary_step (d + 1) Subtract (d + 1) (d + 5)) refl refl) (omega arith) h2.t1 h2.t5 from_goes)
        (way_on world f (p + 5) temps3 s (p + 6) temps4 s (1 + (1 + (7 * j + 2))) (p + 10) end_state wanted
        (loads world f (p + 5) (p + 6) (d + 3) (d + 1) (b + n') w x temps3 s (has_down 5 (p + 5) (load_step (d + 3) w (d + 1)) refl refl) (omega arith) h3.t1 got)
        (way_on world f (p + 6) temps4 s (p + 7) temps4 s1 (1 + (7 * j + 2)) (p + 10) end_state wanted
        (stores world f (p + 6) (p + 7) d (d + 3) (a + n') (number_of x) w x temps4 s (has_down 6 (p + 6) (store_step w d (d + 3)) refl refl) (omega arith) h4.t0 h4.t3 back here)
        (way_on world f (p + 7) temps4 s1 (p + 8) temps5 s1 (7 * j + 2) (p + 10) end_state wanted
        (binaries world f (p + 7) (p + 8) (d + 2) (d + 2) (d + 5) n c n' Subtract temps4 s1 (has_down 7 (p + 7) (binary_step (d + 2) Subtract (d + 2) (d + 5)) refl refl) (omega arith) h4.t2 h4.t5
        (minus_small n c fits (omega arith)))
        rest.way)))))) in
        let parts_length : length two.first ≡ length rest.left + length rest.moved = ap length rest.whole ∙ length-append rest.left rest.moved in
        let place : a + r + length rest.moved ≡ a + n' = omega (arith, parts_length, before, rest.many) in
        let together : put s.memory (a + r) (rest.moved ++ x) ≡ put (put s.memory (a + n') x) (a + r) rest.moved =
        put_downward s.memory (a + r) rest.moved x ∙ ap (λ (y : ℕ). put (put s.memory y x) (a + r) rest.moved) place in
        let M : Memory → Type 0 = λ y. Way world f (p + 8) temps s (7 * suc j + 2) (p + 10) (record s { memory = y }) wanted in
        let R : Memory → Type 0 = λ y. bytes_at y b r ≡ Some rest.left in
        record {
          left = rest.left;
          moved = rest.moved ++ x;
          whole = two.whole ∙ ap (λ (ys : List ℕ). ys ++ x) rest.whole ∙ append_assoc rest.left rest.moved x;
          many = rest.many;
          rest = subst R (sym together) rest.rest;
          to = rest.to;
          from = rest.from;
          to_is = rest.to_is;
          from_is = rest.from_is;
          way = subst M (sym together)
              (way_as world f (p + 8) temps s (1 + (1 + (1 + (1 + (1 + (1 + (1 + (7 * j + 2)))))))) (7 * suc j + 2) (p + 10) end_state wanted (omega arith) turn);
        }

    moves_down : (j r a b to from n v3 v4 v5 : ℕ) (bytes : List ℕ) (temps : ℕ → ℕ) (s : State) → n ≡ width_size w * j + r → r < width_size w → Holds d temps to from n v3 v4 v5 →
        (0 < n → to ≡ a + n) → (0 < n → from ≡ b + n) →
        b ≤ a → all_in f.touched a n ≡ true → all_in f.touched b n ≡ true → bytes_at s.memory b n ≡ Some bytes → AreBytes bytes →
        MovedBack p (p + 10) a b (width_size w * j) r (7 * j + 5) bytes temps s (width_size w - 1) (width_size w)
    moves_down j r a b to from n v3 v4 v5 bytes temps s sum few h to_is from_is order writable readable there are =
        let c : ℕ = width_size w in
        let temps1 = set (d + 4) (c - 1) temps in
        let temps2 = set (d + 5) c temps1 in
        let h1 : Holds d temps1 to from n v3 (c - 1) v5 = sets_4 d temps to from n v3 v4 v5 (c - 1) h in
        let h2 : Holds d temps2 to from n v3 (c - 1) c = sets_5 d temps1 to from n v3 (c - 1) v5 c h1 in
        let x = down_turns j (c * j) r a b to from n v3 bytes temps2 s refl sum few h2 to_is from_is order writable readable there are in
        let end_state : State = record s { memory = put s.memory (a + r) x.moved } in
        let wanted : (ℕ → ℕ) → Type 0 = λ t. Held d t x.to x.from r (c - 1) c in
        record {
          left = x.left;
          moved = x.moved;
          whole = x.whole;
          many = x.many;
          rest = x.rest;
          to = x.to;
          from = x.from;
          to_is = x.to_is;
          from_is = x.from_is;
          way = way_as world f p temps s (1 + (1 + (1 + (7 * j + 2)))) (7 * j + 5) (p + 10) end_state wanted (omega arith)
              (way_on world f p temps s (p + 1) temps1 s (1 + (1 + (7 * j + 2))) (p + 10) end_state wanted
              (consts world f p (p + 1) (d + 4) (c - 1) temps s (has_down 0 p (const_step (d + 4) (c - 1)) refl (omega arith)) refl)
              (way_on world f (p + 1) temps1 s (p + 2) temps2 s (1 + (7 * j + 2)) (p + 10) end_state wanted
              (consts world f (p + 1) (p + 2) (d + 5) c temps1 s (has_down 1 (p + 1) (const_step (d + 5) c) refl refl) (omega arith))
              (way_on world f (p + 2) temps2 s (p + 8) temps2 s (7 * j + 2) (p + 10) end_state wanted
              (jumps world f (p + 2) (p + 8) temps2 s (has_down 2 (p + 2) (jump_step (p + 8)) refl refl))
              x.way)));
        }

    moves_down_to : (q j r a b to from n v3 v4 v5 : ℕ) (bytes : List ℕ) (temps : ℕ → ℕ) (s : State) → p + 10 ≡ q → n ≡ width_size w * j + r → r < width_size w → Holds d temps to from n v3 v4 v5 →
        (0 < n → to ≡ a + n) → (0 < n → from ≡ b + n) →
        b ≤ a → all_in f.touched a n ≡ true → all_in f.touched b n ≡ true → bytes_at s.memory b n ≡ Some bytes → AreBytes bytes →
        MovedBack p q a b (width_size w * j) r (7 * j + 5) bytes temps s (width_size w - 1) (width_size w)
    moves_down_to q j r a b to from n v3 v4 v5 bytes temps s last sum few h to_is from_is order writable readable there are =
        let P : ℕ → Type 0 = λ z. MovedBack p z a b (width_size w * j) r (7 * j + 5) bytes temps s (width_size w - 1) (width_size w) in
        subst P last (moves_down j r a b to from n v3 v4 v5 bytes temps s sum few h to_is from_is order writable readable there are)

at_place : (steps : List MidStep) (p q : ℕ) (xs : List Step) (end e : ℕ) → p ≡ q → end ≡ e → Stands steps p xs end → Stands steps q xs e
at_place steps p q xs end e from to h = subst (λ (y : ℕ). Stands steps y xs e) from (subst (λ (y : ℕ). Stands steps p xs y) to h)

-- the parts of the steps that move bytes
record CopyParts (steps : List MidStep) (d p end : ℕ) : Type 0 where
  pub compares : Has steps p (compare_step (d + 3) Below (d + 1) d)
  pub branches : Has steps (p + 1) (branch_step (d + 3) (p + 23))
  pub up_words : Stands steps (p + 2) (up_code d (p + 2) Double 8) (p + 12)
  pub up_bytes : Stands steps (p + 12) (up_code d (p + 12) Byte 1) (p + 22)
  pub jumps : Has steps (p + 22) (jump_step (p + 45))
  pub adds_to : Has steps (p + 23) (binary_step d Add d (d + 2))
  pub adds_from : Has steps (p + 24) (binary_step (d + 1) Add (d + 1) (d + 2))
  pub down_words : Stands steps (p + 25) (down_code d (p + 25) Double 8) (p + 35)
  pub down_bytes : Stands steps (p + 35) (down_code d (p + 35) Byte 1) (p + 45)
  pub ends : end ≡ p + 45

copy_parts : (steps : List MidStep) (d p end : ℕ) → Stands steps p (copy_code d p) end → CopyParts steps d p end
copy_parts steps d p end at =
    let back : List Step = down_code d (p + 25) Double 8 ++ down_code d (p + 35) Byte 1 in
    let turn : List Step = jump_step (p + 45) ∷ binary_step d Add d (d + 2) ∷ binary_step (d + 1) Add (d + 1) (d + 2) ∷ back in
    let x = parts steps (p + 1 + 1) (up_code d (p + 2) Double 8) (up_code d (p + 12) Byte 1 ++ turn) end at.1.1 in
    let x_end : x.middle ≡ p + 12 = omega (arith, stands_length steps (p + 1 + 1) (up_code d (p + 2) Double 8) x.middle x.front) in
    let y = parts steps x.middle (up_code d (p + 12) Byte 1) turn end x.back in
    let y_end : y.middle ≡ p + 22 = omega (arith, x_end, stands_length steps x.middle (up_code d (p + 12) Byte 1) y.middle y.front) in
    let z = parts steps (y.middle + 1 + 1 + 1) (down_code d (p + 25) Double 8) (down_code d (p + 35) Byte 1) end y.back.1.1.1 in
    let z_end : z.middle ≡ p + 35 = omega (arith, y_end, stands_length steps (y.middle + 1 + 1 + 1) (down_code d (p + 25) Double 8) z.middle z.front) in
    let last : end ≡ p + 45 = omega (arith, z_end, stands_length steps z.middle (down_code d (p + 35) Byte 1) end z.back) in
    record {
      compares = at.0;
      branches = at.1.0;
      up_words = at_place steps (p + 1 + 1) (p + 2) (up_code d (p + 2) Double 8) x.middle (p + 12) (omega arith) x_end x.front;
      up_bytes = at_place steps x.middle (p + 12) (up_code d (p + 12) Byte 1) y.middle (p + 22) x_end y_end y.front;
      jumps = subst (λ (q : ℕ). Has steps q (jump_step (p + 45))) y_end y.back.0;
      adds_to = (let e : y.middle + 1 ≡ p + 23 = omega (arith, y_end) in subst (λ (q : ℕ). Has steps q (binary_step d Add d (d + 2))) e y.back.1.0);
      adds_from = (let e : y.middle + 1 + 1 ≡ p + 24 = omega (arith, y_end) in subst (λ (q : ℕ). Has steps q (binary_step (d + 1) Add (d + 1) (d + 2))) e y.back.1.1.0);
      down_words = at_place steps (y.middle + 1 + 1 + 1) (p + 25) (down_code d (p + 25) Double 8) z.middle (p + 35) (omega (arith, y_end)) z_end z.front;
      down_bytes = at_place steps z.middle (p + 35) (down_code d (p + 35) Byte 1) end (p + 45) z_end last z.back;
      ends = last;
    }

-- nothing is left of no bytes
none_left : (m : Memory) (a : ℕ) (left : List ℕ) → bytes_at m a 0 ≡ Some left → left ≡ []
none_left m a left h = cc

no_length : (xs : List ℕ) → length xs ≡ 0 → xs ≡ []
no_length [] h = refl
no_length (x ∷ xs) h = absurd (omega arith)

module _ (world : MidWorld) (f : Frame) (is_frame : IsFrame f) (d p end a b k : ℕ) (bytes : List ℕ) (temps : ℕ → ℕ) (s : State) (c : CopyParts f.steps d p end)
    (h : Holds d temps a b k (temps (d + 3)) (temps (d + 4)) (temps (d + 5)))
    (writable : all_in f.touched a k ≡ true) (readable : all_in f.touched b k ≡ true) (there : bytes_at s.memory b k ≡ Some bytes) (are : AreBytes bytes) where
  abbrev any : (ℕ → ℕ) → Type 0
  any t = Unit {0}

  abbrev done : State
  done = record s { memory = put s.memory a bytes }

  up_second : (q r : ℕ) (x : MovedFront world f is_frame d (p + 2) (p + 12) a b (8 * q) r (7 * q + 5) bytes (set (d + 3) 0 temps) s 7 8) → k ≡ 8 * q + r → a ≤ b →
      (temps1 : ℕ → ℕ) → Held d temps1 (a + 8 * q) (b + 8 * q) r 7 8 →
      Way world f (p + 12) temps1 (record s { memory = put s.memory a x.moved }) (7 * r + 5 + 1) (p + 45) done any
  up_second q r x sum order temps1 held =
      let s1 : State = record s { memory = put s.memory a x.moved } in
      let a1 : ℕ = a + 8 * q in
      let b1 : ℕ = b + 8 * q in
      let y = moves_up_to world f is_frame d Byte (p + 12) (p + 22) c.up_bytes (p + 22) r 0 a1 b1 r held.free 7 8 x.left temps1 s1 (omega arith) (omega arith) (omega arith) held.holds (omega arith)
      (part_touched f.touched a k a1 r writable (omega arith) (omega arith)) (part_touched f.touched b k b1 r readable (omega arith) (omega arith)) x.rest
      (bytes_second x.moved x.left (subst AreBytes x.whole are)) in
      let nothing : y.left ≡ [] = none_left (put s1.memory a1 y.moved) (b1 + 1 * r) y.left y.rest in
      let left_is : x.left ≡ y.moved = y.whole ∙ ap (λ (ys : List ℕ). y.moved ++ ys) nothing ∙ append-nil y.moved in
      let all : bytes ≡ x.moved ++ y.moved = x.whole ∙ ap (λ (ys : List ℕ). x.moved ++ ys) left_is in
      let together : put s.memory a bytes ≡ put (put s.memory a x.moved) a1 y.moved =
      ap (put s.memory a) all ∙ put_upward s.memory a x.moved y.moved ∙ ap (λ (n : ℕ). put (put s.memory a x.moved) (a + n) y.moved) x.many in
      let s2 : State = record s1 { memory = put s1.memory a1 y.moved } in
      let M : Memory → Type 0 = λ m. Way world f (p + 12) temps1 s1 (7 * r + 5 + 1) (p + 45) (record s { memory = m }) any in
      subst M (sym together)
      (way_then world f (p + 12) temps1 s1 (7 * r + 5) (p + 22) s2 (λ t. Held d t (a1 + 1 * r) (b1 + 1 * r) 0 0 1) 1 (p + 45) s2 any y.way
      (λ temps2 held2. way_on world f (p + 22) temps2 s2 (p + 45) temps2 s2 0 (p + 45) s2 any (jumps world f (p + 22) (p + 45) temps2 s2 c.jumps) (arrived world f (p + 45) temps2 s2 any tt)))

  goes_up : (q r : ℕ) → k ≡ 8 * q + r → r < 8 → a ≤ b → Way world f p temps s (1 + (1 + ((7 * q + 5) + (7 * r + 5 + 1)))) (p + 45) done any
  goes_up q r sum few order =
      let temps1 = set (d + 3) 0 temps in
      let no : flag (nat_lt b a) ≡ 0 = (let t : nat_lt b a ≡ false = grind (arith, nat_tests) in ap flag t) in
      let h1 : Holds d temps1 a b k 0 (temps (d + 4)) (temps (d + 5)) = sets_3 d temps a b k (temps (d + 3)) (temps (d + 4)) (temps (d + 5)) 0 h in
      let x = moves_up_to world f is_frame d Double (p + 2) (p + 12) c.up_words (p + 12) q r a b k 0 (temps (d + 4)) (temps (d + 5)) bytes temps1 s (omega arith) sum few h1 order writable readable there are in
      let s1 : State = record s { memory = put s.memory a x.moved } in
      way_on world f p temps s (p + 1) temps1 s (1 + ((7 * q + 5) + (7 * r + 5 + 1))) (p + 45) done any
      (compares world f p (p + 1) (d + 3) (d + 1) d b a 0 temps s c.compares refl h.t1 h.t0 no)
      (way_on world f (p + 1) temps1 s (p + 2) temps1 s ((7 * q + 5) + (7 * r + 5 + 1)) (p + 45) done any
      (passes world f (p + 1) (p + 2) (p + 23) (d + 3) temps1 s c.branches h1.t3 (omega arith))
      (way_then world f (p + 2) temps1 s (7 * q + 5) (p + 12) s1 (λ t. Held d t (a + 8 * q) (b + 8 * q) r 7 8) (7 * r + 5 + 1) (p + 45) done any x.way
      (λ temps2 held. up_second q r x sum order temps2 held)))

  down_second : (q r : ℕ) (temps0 : ℕ → ℕ) (x : MovedBack world f is_frame d (p + 25) (p + 35) a b (8 * q) r (7 * q + 5) bytes temps0 s 7 8) → k ≡ 8 * q + r → b ≤ a →
      (temps1 : ℕ → ℕ) → Held d temps1 x.to x.from r 7 8 →
      Way world f (p + 35) temps1 (record s { memory = put s.memory (a + r) x.moved }) (7 * r + 5) (p + 45) done any
  down_second q r temps0 x sum order temps1 held =
      let s1 : State = record s { memory = put s.memory (a + r) x.moved } in
      let y = moves_down_to world f is_frame d Byte (p + 35) (p + 45) c.down_bytes (p + 45) r 0 a b x.to x.from r held.free 7 8 x.left temps1 s1 (omega arith) (omega arith) (omega arith) held.holds x.to_is x.from_is order
      (part_touched f.touched a k a r writable (omega arith) (omega arith)) (part_touched f.touched b k b r readable (omega arith) (omega arith)) x.rest
      (bytes_first x.left x.moved (subst AreBytes x.whole are)) in
      let nothing : y.left ≡ [] = no_length y.left y.many in
      let left_is : x.left ≡ y.moved = y.whole ∙ ap (λ (ys : List ℕ). ys ++ y.moved) nothing in
      let many : length y.moved ≡ r = ap length (sym left_is) ∙ x.many in
      let all : bytes ≡ y.moved ++ x.moved = x.whole ∙ ap (λ (ys : List ℕ). ys ++ x.moved) left_is in
      let low : a ≡ a + 0 = omega arith in
      let together : put s.memory a bytes ≡ put (put s.memory (a + r) x.moved) (a + 0) y.moved =
      ap (put s.memory a) all ∙ put_downward s.memory a y.moved x.moved ∙ ap (λ (n : ℕ). put (put s.memory (a + n) x.moved) a y.moved) many
      ∙ ap (λ (n : ℕ). put (put s.memory (a + r) x.moved) n y.moved) low in
      let s2 : State = record s1 { memory = put s1.memory (a + 0) y.moved } in
      let M : Memory → Type 0 = λ m. Way world f (p + 35) temps1 s1 (7 * r + 5) (p + 45) (record s { memory = m }) any in
      subst M (sym together) (record { temps_after = y.way.temps_after; leads = y.way.leads; holds = tt })

  goes_down : (q r : ℕ) → k ≡ 8 * q + r → r < 8 → b < a → Way world f p temps s (1 + (1 + (1 + (1 + ((7 * q + 5) + (7 * r + 5)))))) (p + 45) done any
  goes_down q r sum few order =
      let temps1 = set (d + 3) 1 temps in
      let yes : flag (nat_lt b a) ≡ 1 = (let t : nat_lt b a ≡ true = grind (arith, nat_tests) in ap flag t) in
      let to : ℕ = plus a k in
      let from : ℕ = plus b k in
      let temps2 = set d to temps1 in
      let temps3 = set (d + 1) from temps2 in
      let h1 : Holds d temps1 a b k 1 (temps (d + 4)) (temps (d + 5)) = sets_3 d temps a b k (temps (d + 3)) (temps (d + 4)) (temps (d + 5)) 1 h in
      let h2 : Holds d temps2 to b k 1 (temps (d + 4)) (temps (d + 5)) = sets_0 d temps1 a b k 1 (temps (d + 4)) (temps (d + 5)) to h1 in
      let h3 : Holds d temps3 to from k 1 (temps (d + 4)) (temps (d + 5)) = sets_1 d temps2 to b k 1 (temps (d + 4)) (temps (d + 5)) from h2 in
      let x = moves_down_to world f is_frame d Double (p + 25) (p + 35) c.down_words (p + 35) q r a b to from k 1 (temps (d + 4)) (temps (d + 5)) bytes temps3 s (omega arith) sum few h3
      (λ some. let e : a + k ≤ 2 ^ 31 = low_end world f is_frame d a k writable some in plus_small a k (omega arith))
      (λ some. let e : b + k ≤ 2 ^ 31 = low_end world f is_frame d b k readable some in plus_small b k (omega arith))
      (omega arith) writable readable there are in
      let s1 : State = record s { memory = put s.memory (a + r) x.moved } in
      way_on world f p temps s (p + 1) temps1 s (1 + (1 + (1 + ((7 * q + 5) + (7 * r + 5))))) (p + 45) done any
      (compares world f p (p + 1) (d + 3) (d + 1) d b a 1 temps s c.compares refl h.t1 h.t0 yes)
      (way_on world f (p + 1) temps1 s (p + 23) temps1 s (1 + (1 + ((7 * q + 5) + (7 * r + 5)))) (p + 45) done any
      (branches world f (p + 1) (p + 23) (d + 3) temps1 s c.branches h1.t3)
      (way_on world f (p + 23) temps1 s (p + 24) temps2 s (1 + ((7 * q + 5) + (7 * r + 5))) (p + 45) done any
      (binaries world f (p + 23) (p + 24) d d (d + 2) a k to Add temps1 s c.adds_to (omega arith) h1.t0 h1.t2 refl)
      (way_on world f (p + 24) temps2 s (p + 25) temps3 s ((7 * q + 5) + (7 * r + 5)) (p + 45) done any
      (binaries world f (p + 24) (p + 25) (d + 1) (d + 1) (d + 2) b k from Add temps2 s c.adds_from (omega arith) h2.t1 h2.t2 refl)
      (way_then world f (p + 25) temps3 s (7 * q + 5) (p + 35) s1 (λ t. Held d t x.to x.from r 7 8) (7 * r + 5) (p + 45) done any x.way
      (λ temps4 held. down_second q r temps3 x sum (omega arith) temps4 held)))))

module _ (entries : ℕ → ℕ) (ps : List Proc) (qs : List MidProc) (addresses : List ℕ) (f : Frame) where
  -- so many steps leave these bytes there
  pub record Puts (bound pc end a : ℕ) (bytes : List ℕ) (temps : ℕ → ℕ) (s : State) : Type 0 where
    pub steps : ℕ
    pub temps_after : ℕ → ℕ
    pub some : 1 ≤ steps
    pub small : steps ≤ bound
    pub leads : Leads (act (mid_world entries ps qs addresses)) (stand f pc temps s) steps (stand f end temps_after (record s { memory = put s.memory a bytes }))

  put_by : (bound pc end last a n : ℕ) (bytes : List ℕ) (temps : ℕ → ℕ) (s : State) → 1 ≤ n → n ≤ bound → end ≡ last →
      Way (mid_world entries ps qs addresses) f pc temps s n last (record s { memory = put s.memory a bytes }) (λ t. Unit {0}) → Puts bound pc end a bytes temps s
  put_by bound pc end last a n bytes temps s some small ends way =
      let P : ℕ → Type 0 = λ y. Puts bound pc y a bytes temps s in
      subst P (sym ends) (record { steps = n; temps_after = way.temps_after; some = some; small = small; leads = way.leads })

  pub copy_puts : (pc end d a b k : ℕ) (bytes : List ℕ) (temps : ℕ → ℕ) (s : State) → IsFrame f → IsSane s → Stands f.steps pc (copy_code d pc) end →
      temps d ≡ a → temps (d + 1) ≡ b → temps (d + 2) ≡ k → all_in f.touched b k ≡ true → bytes_at s.memory b k ≡ Some bytes → all_in f.touched a (length bytes) ≡ true →
      Puts (45 + 24 * moved k) pc end a bytes temps s
  copy_puts pc end d a b k bytes temps s is_frame sane at e1 e2 e3 readable there writable = by_order (nat_lt b a) refl
    where
      by_order : (t : Bool) → nat_lt b a ≡ t → Puts (45 + 24 * moved k) pc end a bytes temps s
      by_order true e =
          let world = mid_world entries ps qs addresses in
          let c = copy_parts f.steps d pc end at in
          let h : Holds d temps a b k (temps (d + 3)) (temps (d + 4)) (temps (d + 5)) = record { t0 = e1; t1 = e2; t2 = e3; t3 = refl; t4 = refl; t5 = refl } in
          let target : all_in f.touched a k ≡ true = ap (all_in f.touched a) (sym (reads_length s.memory b k bytes there)) ∙ writable in
          let above : b < a = grind (arith, nat_tests) in
          let q : ℕ = k / 8 in
          let r : ℕ = k % 8 in
          put_by (45 + 24 * moved k) pc end (pc + 45) a (1 + (1 + (1 + (1 + ((7 * q + 5) + (7 * r + 5)))))) bytes temps s (omega arith) (omega arith) c.ends
          (goes_down world f is_frame d pc end a b k bytes temps s c h target readable there (bytes_of_memory s.memory b k bytes sane.memory there) q r (omega arith) (omega arith) above)
      by_order false e =
          let world = mid_world entries ps qs addresses in
          let c = copy_parts f.steps d pc end at in
          let h : Holds d temps a b k (temps (d + 3)) (temps (d + 4)) (temps (d + 5)) = record { t0 = e1; t1 = e2; t2 = e3; t3 = refl; t4 = refl; t5 = refl } in
          let target : all_in f.touched a k ≡ true = ap (all_in f.touched a) (sym (reads_length s.memory b k bytes there)) ∙ writable in
          let order : a ≤ b = grind (arith, nat_tests) in
          let q : ℕ = k / 8 in
          let r : ℕ = k % 8 in
          put_by (45 + 24 * moved k) pc end (pc + 45) a (1 + (1 + ((7 * q + 5) + (7 * r + 5 + 1)))) bytes temps s (omega arith) (omega arith) c.ends
          (goes_up world f is_frame d pc end a b k bytes temps s c h target readable there (bytes_of_memory s.memory b k bytes sane.memory there) q r (omega arith) (omega arith) order)

  pub zero_puts : (pc end d a k : ℕ) (temps : ℕ → ℕ) (s : State) → IsFrame f → Stands f.steps pc (zero_code d pc) end →
      temps d ≡ a → temps (d + 1) ≡ k → all_in f.touched a k ≡ true →
      Puts (34 + 12 * moved k) pc end a (replicate k 0) temps s
  zero_puts pc end d a k temps s is_frame at e1 e2 writable =
      let world = mid_world entries ps qs addresses in
      let x = parts f.steps (pc + 1) (clear_code d (pc + 1) Double 8) (clear_code d (pc + 9) Byte 1) end at.1 in
      let x_end : x.middle ≡ pc + 1 + 8 = omega (arith, stands_length f.steps (pc + 1) (clear_code d (pc + 1) Double 8) x.middle x.front) in
      let last : end ≡ pc + 9 + 8 = omega (arith, x_end, stands_length f.steps x.middle (clear_code d (pc + 9) Byte 1) end x.back) in
      let first_at : Stands f.steps (pc + 1) (clear_code d (pc + 1) Double 8) (pc + 1 + 8) = at_place f.steps (pc + 1) (pc + 1) (clear_code d (pc + 1) Double 8) x.middle (pc + 1 + 8) refl x_end x.front in
      let second_at : Stands f.steps (pc + 9) (clear_code d (pc + 9) Byte 1) (pc + 9 + 8) =
      at_place f.steps x.middle (pc + 9) (clear_code d (pc + 9) Byte 1) end (pc + 9 + 8) (omega (arith, x_end)) last x.back in
      let q : ℕ = k / 8 in
      let r : ℕ = k % 8 in
      let sum : k ≡ 8 * q + r = omega arith in
      let temps1 = set (d + 2) 0 temps in
      let h : Holds d temps a k (temps (d + 2)) (temps (d + 3)) (temps (d + 4)) (temps (d + 5)) = record { t0 = e1; t1 = e2; t2 = refl; t3 = refl; t4 = refl; t5 = refl } in
      let h1 : Holds d temps1 a k 0 (temps (d + 3)) (temps (d + 4)) (temps (d + 5)) = sets_2 d temps a k (temps (d + 2)) (temps (d + 3)) (temps (d + 4)) (temps (d + 5)) 0 h in
      let words : List ℕ = replicate (8 * q) 0 in
      let bytes : List ℕ = replicate (1 * r) 0 in
      let a1 : ℕ = a + 8 * q in
      let s1 : State = record s { memory = put s.memory a words } in
      let s2 : State = record s1 { memory = put s1.memory a1 bytes } in
      let many : length words ≡ 8 * q = length-replicate (8 * q) 0 in
      let count : 8 * q + 1 * r ≡ k = omega (arith, sum) in
      let together : put s.memory a (replicate k 0) ≡ put (put s.memory a words) a1 bytes =
      ap (λ (n : ℕ). put s.memory a (replicate n 0)) (sym count) ∙ ap (put s.memory a) (sym (replicate-append-replicate (8 * q) (1 * r) 0)) ∙ put_upward s.memory a words bytes
      ∙ ap (λ (n : ℕ). put (put s.memory a words) (a + n) bytes) many in
      let any : (ℕ → ℕ) → Type 0 = λ t. Unit {0} in
      let way : Way world f pc temps s (1 + ((5 * q + 5) + (5 * r + 5))) (pc + 9 + 8) s2 any =
      way_on world f pc temps s (pc + 1) temps1 s ((5 * q + 5) + (5 * r + 5)) (pc + 9 + 8) s2 any (consts world f pc (pc + 1) (d + 2) 0 temps s at.0 refl)
      (way_then world f (pc + 1) temps1 s (5 * q + 5) (pc + 1 + 8) s1 (λ t. HeldZero world f is_frame d t a1 r 7 8) (5 * r + 5) (pc + 9 + 8) s2 any
      (clears world f is_frame d Double (pc + 1) (pc + 1 + 8) first_at q r a k (temps (d + 3)) (temps (d + 4)) (temps (d + 5)) temps1 s sum (omega arith) h1 writable)
      (λ temps2 held.
      let y = clears world f is_frame d Byte (pc + 9) (pc + 9 + 8) second_at r 0 a1 r 7 8 held.free temps2 s1 (omega arith) (omega arith) held.holds (part_touched f.touched a k a1 r writable (omega arith) (omega (arith, sum))) in
      let there : pc + 9 ≡ pc + 1 + 8 = omega arith in
      let P : ℕ → Type 0 = λ z. Way world f z temps2 s1 (5 * r + 5) (pc + 9 + 8) s2 any in
      subst P there (record { temps_after = y.temps_after; leads = y.leads; holds = tt }))) in
      let M : Memory → Type 0 = λ m. Way world f pc temps s (1 + ((5 * q + 5) + (5 * r + 5))) (pc + 9 + 8) (record s { memory = m }) any in
      put_by (34 + 12 * moved k) pc end (pc + 9 + 8) a (1 + ((5 * q + 5) + (5 * r + 5))) (replicate k 0) temps s (omega arith) (omega arith) last (subst M (sym together) way)
