-- Entries one behind the other: the first, and what is left.
use Rattle.std.proofs.Common.{◌≡◌, ℕ, zero, suc, ◌+◌, ◌-◌, ◌<◌, Bool, true, false, ◌&&◌, List, [], ◌∷◌, ◌++◌, length, drop, get_or, arith, refl, ap, ◌∙◌, sym, append_assoc, drop-cons, add-one}
use Rattle.std.specs.List.{flat_map}
use Rattle.rv_sites.specs.Sections.{have, entries, beyond}

pub both_true : (a b : Bool) → (a && b) ≡ true → (a ≡ true) × (b ≡ true)
both_true true b e = (refl, e)
both_true false b e = cc

pub have_next : (test : List ℕ → Bool) (past : List ℕ → List ℕ) (n : ℕ) (bytes : List ℕ) → 0 < n →
    have test past n bytes ≡ (test bytes && have test past (n - 1) (past bytes))
have_next test past zero bytes h = absurd (omega arith)
have_next test past (suc n) bytes h =
    let e : suc n - 1 ≡ n = omega arith in
    ap (λ (k : ℕ). test bytes && have test past k (past bytes)) (sym e)

pub entries_next : {A : Type 0} (entry : List ℕ → A) (past : List ℕ → List ℕ) (n : ℕ) (bytes : List ℕ) → 0 < n →
    entries entry past n bytes ≡ entry bytes ∷ entries entry past (n - 1) (past bytes)
entries_next entry past zero bytes h = absurd (omega arith)
entries_next entry past (suc n) bytes h =
    let e : suc n - 1 ≡ n = omega arith in
    ap (λ (k : ℕ). entry bytes ∷ entries entry past k (past bytes)) (sym e)

pub beyond_next : (past : List ℕ → List ℕ) (n : ℕ) (bytes : List ℕ) → 0 < n →
    beyond past n bytes ≡ beyond past (n - 1) (past bytes)
beyond_next past zero bytes h = absurd (omega arith)
beyond_next past (suc n) bytes h =
    let e : suc n - 1 ≡ n = omega arith in
    ap (λ (k : ℕ). beyond past k (past bytes)) (sym e)

-- one more piece is written, and one less is left
pub piece_next : {A : Type 0} (f : A → List ℕ) (out after total : List ℕ) (xs : List A) (i : ℕ) (x : A) → i < length xs →
    x ≡ get_or xs i x → out ++ flat_map f (drop i xs) ≡ total → after ≡ out ++ f x → after ++ flat_map f (drop (i + 1) xs) ≡ total
piece_next {A} f out after total xs i x h is e p =
    let one : drop i xs ≡ x ∷ drop (suc i) xs = drop-cons xs i x h ∙ ap (λ (y : A). y ∷ drop (suc i) xs) (sym is) in
    let back : out ++ (f x ++ flat_map f (drop (suc i) xs)) ≡ total = ap (λ (l : List A). out ++ flat_map f l) (sym one) ∙ e in
    rw (p, add-one, append_assoc) back

pub piece_at : {A : Type 0} (f : A → List ℕ) (out after total : List ℕ) (xs : List A) (i : ℕ) (d : A) → i < length xs →
    out ++ flat_map f (drop i xs) ≡ total → after ≡ out ++ f (get_or xs i d) → after ++ flat_map f (drop (i + 1) xs) ≡ total
piece_at {A} f out after total xs i d h e p =
    let one : drop i xs ≡ get_or xs i d ∷ drop (suc i) xs = drop-cons xs i d h in
    let back : out ++ (f (get_or xs i d) ++ flat_map f (drop (suc i) xs)) ≡ total = ap (λ (l : List A). out ++ flat_map f l) (sym one) ∙ e in
    rw (p, add-one, append_assoc) back

-- one more entry is read, and one less is left
pub entry_next : {A : Type 0} (entry : List ℕ → A) (past : List ℕ → List ℕ) (left : ℕ) (bytes rest : List ℕ) (done after total : List A) (x : A) →
    0 < left → done ++ entries entry past left bytes ≡ total → x ≡ entry bytes → rest ≡ past bytes → after ≡ done ++ x ∷ [] →
    after ++ entries entry past (left - 1) rest ≡ total
entry_next {A} entry past left bytes rest done after total x h e is r p =
    let one = entries_next entry past left bytes h in
    let back : done ++ (entry bytes ∷ entries entry past (left - 1) (past bytes)) ≡ total = ap (λ (l : List A). done ++ l) (sym one) ∙ e in
    rw (p, append_assoc, is, r) back

-- one less stands behind the first
pub have_rest : (test : List ℕ → Bool) (past : List ℕ → List ℕ) (left : ℕ) (bytes rest : List ℕ) → 0 < left → have test past left bytes ≡ true → rest ≡ past bytes →
    (test bytes ≡ true) × (have test past (left - 1) rest ≡ true)
have_rest test past left bytes rest h e r =
    let one : (test bytes && have test past (left - 1) (past bytes)) ≡ true = sym (have_next test past left bytes h) ∙ e in
    let parts = both_true (test bytes) (have test past (left - 1) (past bytes)) one in
    (parts.0, rw r parts.1)

pub beyond_rest : (past : List ℕ → List ℕ) (left : ℕ) (bytes rest after : List ℕ) → 0 < left → beyond past left bytes ≡ after → rest ≡ past bytes → beyond past (left - 1) rest ≡ after
beyond_rest past left bytes rest after h e r = rw r (sym (beyond_next past left bytes h) ∙ e)
