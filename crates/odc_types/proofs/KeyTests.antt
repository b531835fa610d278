-- What `==` on keys says, and what it says of a list that a key is or isn't in it.
use Rattle.std.proofs.Common.{rules, ◌≡◌, ℕ, suc, Bool, true, false, ◌&&◌, ◌||◌, List, [], ◌∷◌, Some, refl, sym, ◌∙◌, ap, slice_get, Decides, true≢false, get_or}
use Rattle.std.specs.List.{list_any, position}
use Rattle.std.proofs.lemmas.List.Quantifiers.{position-Some}
use Rattle.std.proofs.lemmas.List.Folds.{list_any_at}
use Rattle.std.proofs.lemmas.Option.{slice_get-get_or, slice_get_within, get_or_from_slice_get}
use Rattle.std.proofs.lemmas.Slice.Eq.{slice_eq-Decides}
use Rattle.std.proofs.lemmas.Bool.Decides.{Decides-int_eq, Decides-eqb}
use denote.Enum.Bare.{same_true, true_same}
use Rattle.odc_types.specs.declared.ty.TyId.{TyId}
use Rattle.odc_types.specs.declared.key.Key.{Key}
use Rattle.odc_types.specs.Keys.{IsSameKey}

-- the test that `==` on keys is
abbrev pub equals : Key → Key → Bool
equals = (Rattle.odc_types.specs.contracts.key.KeyPartialEq.TheImpl.eq-value).it

id_decides : (a b : TyId) → Decides ((Rattle.odc_types.specs.contracts.ty.TyIdPartialEq.TheImpl.eq-value).it a b) (a ≡ b)
id_decides a b = (λ e. ap (λ n. let t : TyId = record { index = n } in t) ((Decides-eqb a.index b.index).0 e), λ e. (Decides-eqb a.index b.index).1 (ap (λ (t : TyId). t.index) e))

both_of : (x y : Bool) → (x && y) ≡ true → (x ≡ true) × (y ≡ true)
both_of true y e = (refl, e)
both_of false y e = absurd (true≢false (sym e))

of_both : (x y : Bool) → x ≡ true → y ≡ true → (x && y) ≡ true
of_both x y e f = ap (λ z. z && y) e ∙ f

pub equal_says : (a b : Key) → equals a b ≡ true → IsSameKey a b
equal_says a b e =
    let all = both_of _ _ e in
    let lists = both_of _ _ all.1 in
    record {
      kind = same_true Rattle.odc_types.specs.contracts.key.Kind.the_type (search rules) a.kind b.kind all.0;
      numbers = (slice_eq-Decides Decides-int_eq a.numbers.items b.numbers.items _ refl).0 lists.0;
      parts = (slice_eq-Decides id_decides a.parts.items b.parts.items _ refl).0 lists.1;
    }

pub says_equal : (a b : Key) → IsSameKey a b → equals a b ≡ true
says_equal a b same =
    of_both _ _ (true_same Rattle.odc_types.specs.contracts.key.Kind.the_type a.kind b.kind same.kind)
    (of_both _ _ ((slice_eq-Decides Decides-int_eq a.numbers.items b.numbers.items _ refl).1 same.numbers) ((slice_eq-Decides id_decides a.parts.items b.parts.items _ refl).1 same.parts))

turned : (a b : Key) → IsSameKey a b → IsSameKey b a
turned a b s = record { kind = sym s.kind; numbers = sym s.numbers; parts = sym s.parts }

-- at a position stands a key that is the same; where no key passes the test, none stands anywhere
pub position_says : (k : Key) (ks : List Key) (i : ℕ) → position (equals k) ks ≡ Some i → (x : Key) × (slice_get ks i ≡ Some x) × IsSameKey x k
position_says k ks i e =
    let found = position-Some (equals k) ks i k e in
    (get_or ks i k, slice_get-get_or ks i k found.0, turned k (get_or ks i k) (equal_says k (get_or ks i k) found.1))

pub none_says : (k : Key) (ks : List Key) → list_any (equals k) ks ≡ false → (i : ℕ) (x : Key) → slice_get ks i ≡ Some x → IsSameKey x k → ⊥
none_says k ks e i x at s =
    let here : equals k (get_or ks i k) ≡ true = ap (λ y. equals k y) (get_or_from_slice_get ks i x k at) ∙ says_equal k x (turned x k s) in
    true≢false (sym (list_any_at (equals k) ks i k (slice_get_within ks i x at) here) ∙ e)

pub not_any : (k : Key) (ks : List Key) → ((i : ℕ) (x : Key) → slice_get ks i ≡ Some x → IsSameKey x k → ⊥) → list_any (equals k) ks ≡ false
not_any k [] h = refl
not_any k (y ∷ ks) h = by (equals k y) refl (not_any k ks (λ i x at s. h (suc i) x at s))
  where
    by : (b : Bool) → equals k y ≡ b → list_any (equals k) ks ≡ false → list_any (equals k) (y ∷ ks) ≡ false
    by true e none = absurd (h 0 y refl (turned k y (equal_says k y e)))
    by false e none = ap (λ b. b || list_any (equals k) ks) e ∙ none
