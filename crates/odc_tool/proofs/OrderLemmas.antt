-- Names in byte order, and the first of them.
use Rattle.std.proofs.Common.{◌≡◌, ◌⊎◌, inl, inr, ℕ, Bool, true, false, List, [], ◌∷◌, ◌++◌, Some, None, Option, refl, sym, ◌∙◌, ap, subst, if◌then◌else◌}
use Rattle.std.specs.Cmp.{IsTotalOrder}
use Rattle.std.specs.Cmp.Lexicographic.{slice_cmp}
use Rattle.std.specs.Ordering.{nat_cmp, is_lt, is_eq, ordering_reverse}
use Rattle.std.specs.declared.cmp.Ordering.{Ordering}
use Rattle.std.specs.declared.cmp.Ordering.TheVariants.{Less, Equal, Greater}
use Rattle.std.proofs.lemmas.Cmp.{nat_list_cmp_total}
use Rattle.std.proofs.lemmas.Slice.Eq.{bytes_eq-Decides}
use Rattle.std.proofs.lemmas.Map.Text.{is_eq-slice_cmp}
use Rattle.std.proofs.lemmas.List.Elements.{Contains-append_left, Contains-push, Contains-push_cases}
use Rattle.odc_tool.specs.Verdict.{NotAfter}
use Rattle.odc_tool.specs.Gather.{IsOther, IsLeast, lesser}

compared : List ℕ → List ℕ → Ordering
compared = slice_cmp nat_cmp

order : IsTotalOrder (slice_cmp nat_cmp)
order = nat_list_cmp_total

greater_less : (a b : List ℕ) → slice_cmp nat_cmp a b ≡ Greater → slice_cmp nat_cmp b a ≡ Less
greater_less a b g = order.antisymm b a ∙ ap ordering_reverse g

less_greater : (a b : List ℕ) → slice_cmp nat_cmp a b ≡ Less → slice_cmp nat_cmp b a ≡ Greater
less_greater a b g = order.antisymm b a ∙ ap ordering_reverse g

pub not_after_self : (a : List ℕ) → NotAfter a a
not_after_self a g = let e : Greater ≡ Less = sym g ∙ greater_less a a g in cc

pub not_after_through : (a b c : List ℕ) → slice_cmp nat_cmp a b ≡ Less → NotAfter b c → NotAfter a c
not_after_through a b c less later g = later (less_greater c b (order.trans c a b (greater_less a c g) less))

is_less : (o : Ordering) → is_lt o ≡ true → o ≡ Less
is_less Less h = refl
is_less Equal h = cc
is_less Greater h = cc

lesser_by : (a b : List ℕ) (t : Bool) → is_lt (slice_cmp nat_cmp b a) ≡ t
    → (((if t then b else a) ≡ b) × (slice_cmp nat_cmp b a ≡ Less)) ⊎ (((if t then b else a) ≡ a) × NotAfter a b)
lesser_by a b true e = inl (refl, is_less (slice_cmp nat_cmp b a) e)
lesser_by a b false e = inr (refl, λ g. let f : is_lt (slice_cmp nat_cmp b a) ≡ true = ap is_lt (greater_less a b g) in cc)

pub lesser_cases : (a b : List ℕ) → ((lesser a b ≡ b) × (slice_cmp nat_cmp b a ≡ Less)) ⊎ ((lesser a b ≡ a) × NotAfter a b)
lesser_cases a b = lesser_by a b (is_lt (slice_cmp nat_cmp b a)) refl

-- one name more
pub least_skip : (names : List (List ℕ)) (n : List ℕ) (best : Option (List ℕ)) → ¬ IsOther n → IsLeast names best → IsLeast (names ++ n ∷ []) best
least_skip names n None off least = λ m h o. elim (Contains-push_cases names n m h) [ inl x ↦ least m x o | inr e ↦ off (subst IsOther (sym e) o) ]
least_skip names n (Some best) off least = (
  Contains-append_left names (n ∷ []) best least.0,
  least.1,
  λ m h o. elim (Contains-push_cases names n m h) [ inl x ↦ least.2 m x o | inr e ↦ absurd (off (subst IsOther (sym e) o)) ],
)

pub least_first : (names : List (List ℕ)) (n : List ℕ) → IsOther n → IsLeast names None → IsLeast (names ++ n ∷ []) (Some n)
least_first names n is least = (
  Contains-push names n,
  is,
  λ m h o. elim (Contains-push_cases names n m h) [ inl x ↦ absurd (least m x o) | inr e ↦ subst (NotAfter n) e (not_after_self n) ],
)

pub least_next : (names : List (List ℕ)) (n best : List ℕ) → IsOther n → IsLeast names (Some best) → IsLeast (names ++ n ∷ []) (Some (lesser best n))
least_next names n best is least =
    elim (lesser_cases best n) [
      | inl (e, less) ↦ subst (λ z. IsLeast (names ++ n ∷ []) (Some z)) (sym e) (
        Contains-push names n,
        is,
        λ m h o. elim (Contains-push_cases names n m h) [
          | inl x ↦ not_after_through n best m less (least.2 m x o)
          | inr same ↦ subst (NotAfter n) same (not_after_self n)
        ],
      )
      | inr (e, later) ↦ subst (λ z. IsLeast (names ++ n ∷ []) (Some z)) (sym e) (
        Contains-append_left names (n ∷ []) best least.0,
        least.1,
        λ m h o. elim (Contains-push_cases names n m h) [ inl x ↦ least.2 m x o | inr same ↦ subst (NotAfter best) same later ],
      )
    ]

-- the same, written otherwise
pub least_as : (names more : List (List ℕ)) (best new : Option (List ℕ)) → more ≡ names → new ≡ best → IsLeast names best → IsLeast more new
least_as names more best new e f least = subst (λ z. IsLeast z new) (sym e) (subst (IsLeast names) (sym f) least)

equal_by : (a b : List ℕ) (o : Ordering) → slice_cmp nat_cmp a b ≡ o → NotAfter a b → NotAfter b a → a ≡ b
equal_by a b Less e f g = absurd (g (less_greater a b e))
equal_by a b Equal e f g = (bytes_eq-Decides a b).0 (sym (is_eq-slice_cmp a b) ∙ ap is_eq e)
equal_by a b Greater e f g = absurd (f e)

-- two texts of which neither comes after the other are one
pub neither_after : (a b : List ℕ) → NotAfter a b → NotAfter b a → a ≡ b
neither_after a b = equal_by a b (slice_cmp nat_cmp a b) refl
