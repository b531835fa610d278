-- Signs: the first row of the table that begins a text is the longest.
use Rattle.std.proofs.Common.{◌≡◌, ℕ, ◌<◌, ◌≤◌, Bool, true, false, not, ◌&&◌, List, [], ◌∷◌, ◌++◌, length, refl, sym, ◌∙◌, ap, ⊎_elim, arith}
use Rattle.std.proofs.lemmas.Bool.{false≢true, and_parts, and_from, not-true, eq-eqb, cases_lt}
use Rattle.odc_syntax.specs.declared.token.TokenKind.{TokenKind}
use Rattle.odc_syntax.specs.lexical.Names.{Row}
use Rattle.odc_syntax.specs.lexical.Signs.{signs, IsAmong, IsSign}
use Rattle.std.specs.Prelude.{nat_eq}

-- p begins w
abbrev pub begins : List ℕ → List ℕ → Bool
begins [] w = true
begins (b ∷ p) [] = false
begins (b ∷ p) (c ∷ w) = nat_eq b c && begins p w

-- no row begins a later one
abbrev pub none_begins : Row → List Row → Bool
none_begins r [] = true
none_begins r (s ∷ rs) = not (begins r.text s.text) && none_begins r rs

abbrev pub is_parted : List Row → Bool
is_parted [] = true
is_parted (r ∷ rs) = none_begins r rs && is_parted rs

pub signs_are_parted : is_parted signs ≡ true
unfolding signs
signs_are_parted = refl

pub begins_front : (p w s : List ℕ) → length p ≤ length w → (v : List ℕ) → p ++ v ≡ w ++ s → begins p w ≡ true
begins_front [] w s l v e = refl
begins_front (b ∷ p) [] s l v e = absurd (omega arith)
begins_front (b ∷ p) (c ∷ w) s l v e =
    let heads : b ≡ c = cc in
    let tails : p ++ v ≡ w ++ s = cc in
    and_from (nat_eq b c) (begins p w) (eq-eqb b c heads) (begins_front p w s (omega arith) v tails)

-- a later row that begins the text is no longer than one that begins it
pub later : (r : Row) (rs : List Row) (k : TokenKind) (v s x : List ℕ) → none_begins r rs ≡ true → IsAmong rs k v → v ++ s ≡ r.text ++ x → length v < length r.text
later r [] k v s x parted is e = absurd is
later r (t ∷ rs) k v s x parted is e =
    let parts = and_parts (not (begins r.text t.text)) (none_begins r rs) parted in
    ⊎_elim
    (λ here.
    ⊎_elim
    (λ less. less)
    (λ more.
    let begun : begins r.text v ≡ true = begins_front r.text v s more x (sym e) in
    absurd (false≢true (sym (not-true (begins r.text t.text) parts.0) ∙ ap (begins r.text) (sym here.0) ∙ begun)))
    (cases_lt (length v) (length r.text)))
    (λ there. later r rs k v s x parts.1 there e)
    is

-- a text is one sign at most
pub among_is_one : (rs : List Row) (k l : TokenKind) (v : List ℕ) → is_parted rs ≡ true → IsAmong rs k v → IsAmong rs l v → k ≡ l
among_is_one [] k l v parted is other = absurd is
among_is_one (r ∷ rs) k l v parted is other =
    let parts = and_parts (none_begins r rs) (is_parted rs) parted in
    ⊎_elim
    (λ here.
    ⊎_elim
    (λ too. here.1 ∙ sym too.1)
    (λ there. absurd (omega (arith, ap length here.0, later r rs l v [] [] parts.0 there (ap (λ x. x ++ []) here.0))))
    other)
    (λ there.
    ⊎_elim
    (λ too. absurd (omega (arith, ap length too.0, later r rs k v [] [] parts.0 there (ap (λ x. x ++ []) too.0))))
    (λ too. among_is_one rs k l v parts.1 there too)
    other)
    is

pub sign_is_one : (k l : TokenKind) (v : List ℕ) → IsSign k v → IsSign l v → k ≡ l
sign_is_one k l v is other = among_is_one signs k l v signs_are_parted is other
