-- Bytes in pieces: reading and putting a list of them in two parts.
use Rattle.std.proofs.Common.{◌≡◌, ℕ, zero, suc, ◌+◌, ◌-◌, ◌*◌, ◌/◌, ◌%◌, ◌^◌, ◌<◌, ◌≤◌, ◌⊎◌, inl, inr, Bool, true, false, List, [], ◌∷◌, ◌++◌, length, map, ap, ◌∙◌, sym, subst, refl, arith}
use Rattle.std.specs.Prelude.{Option, Some, None, replicate, ◌==◌, if◌then◌else◌}
use Rattle.std.proofs.lemmas.Bool.Decides.{nat_tests}
use Rattle.std.proofs.lemmas.List.{length-map}
use Rattle.std.proofs.Math.Path.{fun_ext}
use Rattle.rv_table.specs.Words.{plus, minus}
use Rattle.rv_table.proofs.Bytes.{written_out}
use Rattle.odc_core.specs.Words.{number_of, bytes_of}
use Rattle.odc_core.specs.Memory.{Memory, before, bytes_at, put}
use Rattle.odc_core.specs.Well.{AreBytes}

-- ---- words

pub plus_small : (a b : ℕ) → a + b < 2 ^ 64 → plus a b ≡ a + b
plus_small a b h = omega arith

pub minus_small : (a b : ℕ) → b ≤ a → a < 2 ^ 64 → minus a b ≡ a - b
minus_small a b h l = omega arith

pub bytes_of_number : (x : List ℕ) → AreBytes x → bytes_of (length x) (number_of x) ≡ x
bytes_of_number [] h = refl
bytes_of_number (b ∷ x) h =
    let first : (b + 256 * number_of x) % 256 ≡ b = omega (arith, h.0) in
    let rest : (b + 256 * number_of x) / 256 ≡ number_of x = omega (arith, h.0) in
    ap (λ (y : ℕ). y ∷ bytes_of (length x) ((b + 256 * number_of x) / 256)) first ∙ ap (λ (y : ℕ). b ∷ bytes_of (length x) y) rest ∙ ap (λ (ys : List ℕ). b ∷ ys) (bytes_of_number x h.1)

pub bytes_of_zero : (n : ℕ) → bytes_of n 0 ≡ replicate n 0
bytes_of_zero zero = refl
bytes_of_zero (suc n) = ap (λ (ys : List ℕ). 0 ∷ ys) (bytes_of_zero n)

-- ---- reading

pub record TwoParts (m : Memory) (a i j : ℕ) (bytes : List ℕ) : Type 0 where
  pub first : List ℕ
  pub second : List ℕ
  pub whole : bytes ≡ first ++ second
  pub reads_first : bytes_at m a i ≡ Some first
  pub reads_second : bytes_at m (a + i) j ≡ Some second

pub in_two : (m : Memory) (a i j : ℕ) (bytes : List ℕ) → bytes_at m a (i + j) ≡ Some bytes → TwoParts m a i j bytes
in_two m a zero j bytes h =
    let none : zero + j ≡ j = omega arith in
    let place : a ≡ a + 0 = omega arith in
    let h1 : bytes_at m a j ≡ Some bytes = ap (bytes_at m a) (sym none) ∙ h in
    record { first = []; second = bytes; whole = refl; reads_first = refl; reads_second = subst (λ (y : ℕ). bytes_at m y j ≡ Some bytes) place h1 }
in_two m a (suc i) j bytes h =
    let more : suc (i + j) ≡ suc i + j = omega arith in
    by_first (m a) refl (bytes_at m (a + 1) (i + j)) refl (ap (bytes_at m a) more ∙ h) (in_two m (a + 1) i j)
  where
    by_first : (o : Option ℕ) → m a ≡ o → (r : Option (List ℕ)) → bytes_at m (a + 1) (i + j) ≡ r → before o r ≡ Some bytes →
        ((rest : List ℕ) → bytes_at m (a + 1) (i + j) ≡ Some rest → TwoParts m (a + 1) i j rest) → TwoParts m a (suc i) j bytes
    by_first None e r g k again = absurd (cc)
    by_first (Some b) e None g k again = absurd (cc)
    by_first (Some b) e (Some rest) g k again =
        let t = again rest g in
        let same : b ∷ rest ≡ bytes = cc in
        let place : a + 1 + i ≡ a + suc i = omega arith in
        record {
          first = b ∷ t.first;
          second = t.second;
          whole = sym same ∙ ap (λ (ys : List ℕ). b ∷ ys) t.whole;
          reads_first = ap (λ (o : Option ℕ). before o (bytes_at m (a + 1) i)) e ∙ ap (before (Some b)) t.reads_first;
          reads_second = subst (λ (y : ℕ). bytes_at m y j ≡ Some t.second) place t.reads_second;
        }

pub reads_length : (m : Memory) (a n : ℕ) (bytes : List ℕ) → bytes_at m a n ≡ Some bytes → length bytes ≡ n
reads_length m a zero bytes h = let same : [] ≡ bytes = cc in ap length (sym same)
reads_length m a (suc n) bytes h = first (m a) (bytes_at m (a + 1) n) refl h (reads_length m (a + 1) n)
  where
    first : (o : Option ℕ) (r : Option (List ℕ)) → bytes_at m (a + 1) n ≡ r → before o r ≡ Some bytes →
        ((rest : List ℕ) → bytes_at m (a + 1) n ≡ Some rest → length rest ≡ n) → length bytes ≡ suc n
    first None r g h again = absurd (cc)
    first (Some b) None g h again = absurd (cc)
    first (Some b) (Some bs) g h again = let same : b ∷ bs ≡ bytes = cc in ap length (sym same) ∙ ap suc (again bs g)

-- bytes are read from a memory of bytes
pub bytes_of_memory : (m : Memory) (a n : ℕ) (bytes : List ℕ) → ((x b : ℕ) → m x ≡ Some b → b < 256) → bytes_at m a n ≡ Some bytes → AreBytes bytes
bytes_of_memory m a zero bytes sane h = let same : [] ≡ bytes = cc in subst AreBytes same tt
bytes_of_memory m a (suc n) bytes sane h = first (m a) refl (bytes_at m (a + 1) n) refl h (bytes_of_memory m (a + 1) n)
  where
    first : (o : Option ℕ) → m a ≡ o → (r : Option (List ℕ)) → bytes_at m (a + 1) n ≡ r → before o r ≡ Some bytes →
        ((rest : List ℕ) → ((x b : ℕ) → m x ≡ Some b → b < 256) → bytes_at m (a + 1) n ≡ Some rest → AreBytes rest) → AreBytes bytes
    first None e r g h again = absurd (cc)
    first (Some b) e None g h again = absurd (cc)
    first (Some b) e (Some bs) g h again = let same : b ∷ bs ≡ bytes = cc in subst AreBytes same (sane a b e, again bs sane g)

-- memories that are alike in a range read alike there
pub reads_alike : (m m' : Memory) (a n : ℕ) → ((x : ℕ) → a ≤ x → x < a + n → m' x ≡ m x) → bytes_at m' a n ≡ bytes_at m a n
reads_alike m m' a zero same = refl
reads_alike m m' a (suc n) same =
    ap (λ (o : Option ℕ). before o (bytes_at m' (a + 1) n)) (same a (omega arith) (omega arith))
    ∙ ap (before (m a)) (reads_alike m m' (a + 1) n (λ x low high. same x (omega arith) (omega arith)))

-- what is read apart from what has been put
pub reads_apart : (m : Memory) (a : ℕ) (bytes : List ℕ) (b n : ℕ) → (b + n ≤ a) ⊎ (a + length bytes ≤ b) → bytes_at (put m a bytes) b n ≡ bytes_at m b n
reads_apart m a bytes b n apart =
    let many : length (map Some bytes) ≡ length bytes = length-map bytes Some in
    reads_alike m (put m a bytes) b n (λ x low high. written_out m a (map Some bytes) x (elim apart [ inl below ↦ inl (omega arith) | inr above ↦ inr (omega arith) ]))

-- ---- putting

-- the second part first
pub put_downward : (m : Memory) (a : ℕ) (xs ys : List ℕ) → put m a (xs ++ ys) ≡ put (put m (a + length xs) ys) a xs
put_downward m a xs ys = fun_ext (λ x. each m a xs ys x)
  where
    each : (m : Memory) (a : ℕ) (xs ys : List ℕ) (x : ℕ) → put m a (xs ++ ys) x ≡ put (put m (a + length xs) ys) a xs x
    each m a [] ys x = let place : a ≡ a + 0 = omega arith in ap (λ (y : ℕ). put m y ys x) place
    each m a (v ∷ xs) ys x =
        let place : a + 1 + length xs ≡ a + suc (length xs) = omega arith in
        ap (λ (o : Option ℕ). if x == a then Some v else o) (each m (a + 1) xs ys x ∙ ap (λ (y : ℕ). put (put m y ys) (a + 1) xs x) place)

-- two puts apart from each other
put_swapped : (m : Memory) (a : ℕ) (xs : List ℕ) (b : ℕ) (ys : List ℕ) → a + length xs ≤ b → put (put m b ys) a xs ≡ put (put m a xs) b ys
put_swapped m a xs b ys apart = fun_ext (λ x. each m a xs b ys x apart)
  where
    based : (f g : Memory) (b : ℕ) (ys : List ℕ) (x : ℕ) → f x ≡ g x → put f b ys x ≡ put g b ys x
    based f g b [] x h = h
    based f g b (v ∷ ys) x h = ap (λ (o : Option ℕ). if x == b then Some v else o) (based f g (b + 1) ys x h)

    each : (m : Memory) (a : ℕ) (xs : List ℕ) (b : ℕ) (ys : List ℕ) (x : ℕ) → a + length xs ≤ b → put (put m b ys) a xs x ≡ put (put m a xs) b ys x
    each m a [] b ys x apart = refl
    each m a (v ∷ xs) b ys x apart = by_place (x == a) refl (each m (a + 1) xs b ys x (omega arith))
      where
        by_place : (t : Bool) → (x == a) ≡ t → put (put m b ys) (a + 1) xs x ≡ put (put m (a + 1) xs) b ys x →
            (if x == a then Some v else put (put m b ys) (a + 1) xs x) ≡ put (put m a (v ∷ xs)) b ys x
        by_place true e rest =
            let same : x ≡ a = grind (arith, nat_tests) in
            let out : put (put m a (v ∷ xs)) b ys x ≡ put m a (v ∷ xs) x = written_out (put m a (v ∷ xs)) b (map Some ys) x (inl (omega arith)) in
            ap (λ (t : Bool). if t then Some v else put (put m b ys) (a + 1) xs x) e ∙ sym (out ∙ ap (λ (t : Bool). if t then Some v else put m (a + 1) xs x) e)
        by_place false e rest =
            let here : put m a (v ∷ xs) x ≡ put m (a + 1) xs x = ap (λ (t : Bool). if t then Some v else put m (a + 1) xs x) e in
            ap (λ (t : Bool). if t then Some v else put (put m b ys) (a + 1) xs x) e ∙ rest ∙ sym (based (put m a (v ∷ xs)) (put m (a + 1) xs) b ys x here)

-- the first part first
pub put_upward : (m : Memory) (a : ℕ) (xs ys : List ℕ) → put m a (xs ++ ys) ≡ put (put m a xs) (a + length xs) ys
put_upward m a xs ys = put_downward m a xs ys ∙ put_swapped m a xs (a + length xs) ys (omega arith)

-- ---- lists of bytes in parts

pub bytes_first : (xs ys : List ℕ) → AreBytes (xs ++ ys) → AreBytes xs
bytes_first [] ys h = tt
bytes_first (x ∷ xs) ys h = (h.0, bytes_first xs ys h.1)

pub bytes_second : (xs ys : List ℕ) → AreBytes (xs ++ ys) → AreBytes ys
bytes_second [] ys h = h
bytes_second (x ∷ xs) ys h = bytes_second xs ys h.1
