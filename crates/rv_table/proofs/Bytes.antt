-- Laws of reading and writing lists behind an index.
use Rattle.std.proofs.Common.{◌≡◌, ℕ, zero, suc, ◌+◌, ◌-◌, ◌<◌, ◌≤◌, Bool, true, false, cond, ◌⊎◌, inl, inr, List, [], ◌∷◌, ◌++◌, length, take, drop, eqb, arith, ap, ◌∙◌, sym, refl, append_assoc}
use Rattle.std.proofs.lemmas.Bool.Decides.{nat_tests}
use Rattle.std.proofs.Math.Nat.{zero-add, add-zero}
use Rattle.std.proofs.Math.Seq.{take-append_seam, drop-append_seam}
use Rattle.rv_table.specs.Bytes.{run, written}

pub length_run : {A : Type 0} (f : ℕ → A) (a n : ℕ) → length (run f a n) ≡ n
length_run f a zero = refl
length_run f a (suc n) = ap suc (length_run f (a + 1) n)

pub run_join : {A : Type 0} (f : ℕ → A) (a m n : ℕ) → run f a (m + n) ≡ run f a m ++ run f (a + m) n
run_join f a zero n = rw (zero-add, add-zero)
run_join f a (suc m) n =
    let more : suc m + n ≡ suc (m + n) = omega arith in
    let next : a + 1 + m ≡ a + suc m = omega arith in
    ap (run f a) more ∙ ap (λ (xs : List _). f a ∷ xs) (run_join f (a + 1) m n ∙ ap (λ (b : ℕ). run f (a + 1) m ++ run f b n) next)

pub take_run : {A : Type 0} (f : ℕ → A) (a m n : ℕ) → take m (run f a (m + n)) ≡ run f a m
take_run f a m n =
    ap (take m) (run_join f a m n) ∙ ap (λ (k : ℕ). take k (run f a m ++ run f (a + m) n)) (sym (length_run f a m)) ∙ take-append_seam (run f a m) (run f (a + m) n)

pub drop_run : {A : Type 0} (f : ℕ → A) (a m n : ℕ) → drop m (run f a (m + n)) ≡ run f (a + m) n
drop_run f a m n =
    ap (drop m) (run_join f a m n) ∙ ap (λ (k : ℕ). drop k (run f a m ++ run f (a + m) n)) (sym (length_run f a m)) ∙ drop-append_seam (run f a m) (run f (a + m) n)

-- the values of a part
pub part_run : {A : Type 0} (f : ℕ → A) (a at size n : ℕ) → at + size ≤ n → take size (drop at (run f a n)) ≡ run f (a + at) size
part_run f a at size n h =
    let whole : n ≡ at + (size + (n - at - size)) = omega arith in
    ap (λ (k : ℕ). take size (drop at (run f a k))) whole
    ∙ ap (take size) (drop_run f a at (size + (n - at - size)))
    ∙ take_run f (a + at) size (n - at - size)

-- ---- writes

pub written_out : {A : Type 0} (f : ℕ → A) (a : ℕ) (vs : List A) (x : ℕ) → (x < a) ⊎ (a + length vs ≤ x) → written f a vs x ≡ f x
written_out f a [] x h = refl
written_out f a (v ∷ vs) x h =
    let next : (x < a + 1) ⊎ (a + 1 + length vs ≤ x) = elim h [ inl l ↦ inl (omega arith) | inr r ↦ inr (omega arith) ] in
    let other : eqb x a ≡ false = elim h [ inl l ↦ grind (arith, nat_tests) | inr r ↦ grind (arith, nat_tests) ] in
    ap (λ (b : Bool). cond b v (written f (a + 1) vs x)) other ∙ written_out f (a + 1) vs x next

pub run_same : {A : Type 0} (f g : ℕ → A) (a n : ℕ) → ((i : ℕ) → a ≤ i → i < a + n → f i ≡ g i) → run f a n ≡ run g a n
run_same f g a zero h = refl
run_same f g a (suc n) h =
    let here : f a ≡ g a = h a (omega arith) (omega arith) in
    let rest : run f (a + 1) n ≡ run g (a + 1) n = run_same f g (a + 1) n (λ i l u. h i (omega arith) (omega arith)) in
    cc

-- a range apart from the write is as it was
pub run_apart : {A : Type 0} (f : ℕ → A) (a : ℕ) (vs : List A) (b n : ℕ) → (b + n ≤ a) ⊎ (a + length vs ≤ b) → run (written f a vs) b n ≡ run f b n
run_apart f a vs b n h = run_same (written f a vs) f b n (λ i l u. written_out f a vs i (elim h [ inl p ↦ inl (omega arith) | inr p ↦ inr (omega arith) ]))

pub run_written : {A : Type 0} (f : ℕ → A) (a : ℕ) (vs : List A) → run (written f a vs) a (length vs) ≡ vs
run_written f a [] = refl
run_written f a (v ∷ vs) =
    let here : eqb a a ≡ true = grind (arith, nat_tests) in
    let first : cond (eqb a a) v (written f (a + 1) vs a) ≡ v = ap (λ (b : Bool). cond b v (written f (a + 1) vs a)) here in
    let rest : run (written f a (v ∷ vs)) (a + 1) (length vs) ≡ run (written f (a + 1) vs) (a + 1) (length vs) =
    run_same (written f a (v ∷ vs)) (written f (a + 1) vs) (a + 1) (length vs)
    (λ i l u. let other : eqb i a ≡ false = grind (arith, nat_tests) in ap (λ (b : Bool). cond b v (written f (a + 1) vs i)) other) in
    let tail : run (written f (a + 1) vs) (a + 1) (length vs) ≡ vs = run_written f (a + 1) vs in
    cc

-- a list with a part replaced is what the function with that part shows
pub overwritten_run : {A : Type 0} (f : ℕ → A) (a at n : ℕ) (vs : List A) → at + length vs ≤ n →
    run (written f (a + at) vs) a n ≡ take at (run f a n) ++ vs ++ drop (at + length vs) (run f a n)
overwritten_run {A} f a at n vs h =
    let rest = n - at - length vs in
    let g = written f (a + at) vs in
    let whole : n ≡ at + (length vs + rest) = omega arith in
    let joined : run g a n ≡ run g a at ++ (run g (a + at) (length vs) ++ run g (a + at + length vs) rest) =
    ap (run g a) whole ∙ run_join g a at (length vs + rest) ∙ ap (λ (xs : List A). run g a at ++ xs) (run_join g (a + at) (length vs) rest) in
    let below : run g a at ≡ run f a at = run_apart f (a + at) vs a at (inl (omega arith)) in
    let middle : run g (a + at) (length vs) ≡ vs = run_written f (a + at) vs in
    let above : run g (a + at + length vs) rest ≡ run f (a + at + length vs) rest = run_apart f (a + at) vs (a + at + length vs) rest (inr (omega arith)) in
    let front : take at (run f a n) ≡ run f a at = ap (λ (k : ℕ). take at (run f a k)) whole ∙ take_run f a at (length vs + rest) in
    let place : a + (at + length vs) ≡ a + at + length vs = omega arith in
    let sum : n ≡ at + length vs + rest = omega arith in
    let back : drop (at + length vs) (run f a n) ≡ run f (a + at + length vs) rest =
    ap (λ (k : ℕ). drop (at + length vs) (run f a k)) sum ∙ drop_run f a (at + length vs) rest ∙ ap (λ (b : ℕ). run f b rest) place in
    joined ∙ ap (λ (xs : List A). xs ++ (run g (a + at) (length vs) ++ run g (a + at + length vs) rest)) below
    ∙ ap (λ (xs : List A). run f a at ++ (xs ++ run g (a + at + length vs) rest)) middle
    ∙ ap (λ (xs : List A). run f a at ++ (vs ++ xs)) above
    ∙ sym (append_assoc (run f a at) vs (run f (a + at + length vs) rest))
    ∙ ap (λ (xs : List A). xs ++ vs ++ run f (a + at + length vs) rest) (sym front)
    ∙ ap (λ (xs : List A). take at (run f a n) ++ vs ++ xs) (sym back)
