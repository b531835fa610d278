-- How high types are over the heights of their parts.
use Rattle.std.proofs.Common.{◌≡◌, ℕ, zero, suc, ◌+◌, ◌<◌, ◌≤◌, max, min, List, [], ◌∷◌, ◌++◌, length, drop, get_or, refl, sym, ◌∙◌, ap, subst, arith, slice_get, Some, slice_set, inl, inr, ◌⊎◌}
use Rattle.std.proofs.Math.Numerals.{add-one}
use Rattle.std.proofs.Math.Seq.{drop-cons}
use Rattle.std.proofs.lemmas.Bool.{cases_lt}
use Rattle.std.proofs.lemmas.List.{length-append, length-set}
use Rattle.std.proofs.lemmas.Option.{slice_get_within}
use Rattle.odc_types.specs.declared.ty.TyId.{TyId}
use Rattle.odc_types.specs.declared.key.Key.{Key}
use Rattle.odc_types.specs.declared.key.Kind.TheVariants as kind
use Rattle.odc_types.specs.declared.ty.SoaForm.TheVariants.{Fixed, Slice, Dyn}
use Rattle.odc_types.specs.declared.ty.Convention.TheVariants.{Odin, Contextless}
use Rattle.odc_types.specs.Nodes.{Node}
use Rattle.odc_types.specs.Identity as identity
use Rattle.odc_types.specs.Identity.{Root, Identity, tree, root_of, all_of, counted, identity_of, identity_of_node}
use Rattle.odc_types.specs.Keys.{IsKeyOf, kind_of}
use Rattle.odc_types.specs.Parts.{HasPartsBelow, IsUndefined}
use Rattle.odc_types.specs.Below.{AreBelow}
use Rattle.odc_types.specs.Interned.{IsInterned}
use Rattle.odc_types.specs.Heights.{beneath, height, highest, height_of_node, clipped, AreHeights}
use Rattle.odc_types.specs.Measured.{IsFounded}
use Rattle.odc_types.proofs.IdentityLaws.{identity_added, identity_defined}
use Rattle.odc_types.proofs.InternedLaws.{unfolds, counted_below, some_type, added_identity}
use Rattle.odc_types.proofs.MeasureLemmas.{clipped_max, max_thrice}

abbrev pub highest_of : List Node → List TyId → ℕ
highest_of table ts = highest (all_of (identity_of table) ts)

-- so far along the types
pub record IsRising (table : List Node) (types : List TyId) (index most : ℕ) : Type 0 where
  pub high : ℕ
  pub counts : most ≡ clipped high
  pub along : highest_of table types ≡ max high (highest_of table (drop index types))

pub rising_begins : (table : List Node) (types : List TyId) → IsRising table types 0 0
rising_begins table types = record { high = 0; counts = omega arith; along = omega arith }

below_at : (n : ℕ) (ts : List TyId) (i : ℕ) (d : TyId) → i < length ts → AreBelow n ts → (get_or ts i d).index < n
below_at n [] i d h b = absurd (omega arith)
below_at n (t ∷ ts) zero d h b = b.0
below_at n (t ∷ ts) (suc i) d h b = below_at n ts i d (omega arith) b.1

pub rising_on : (table : List Node) (heights : List ℕ) (types : List TyId) (index most after : ℕ) (d : TyId) → AreHeights table heights → AreBelow (length table) types → IsRising table types index most → index < length types →
    after ≡ max most (get_or heights (get_or types index d).index 0) → IsRising table types (index + 1) after
rising_on table heights types index most after d hs below r h e =
    let t = get_or types index d in
    let of_part : get_or heights t.index 0 ≡ clipped (height (identity_of table t.index)) = hs.each t.index (below_at (length table) types index d h below) in
    record {
      high = max r.high (height (identity_of table t.index));
      counts = e ∙ clipped_max most (get_or heights t.index 0) r.high (height (identity_of table t.index)) r.counts of_part;
      along = r.along ∙ ap (λ ts. max r.high (highest_of table ts)) (drop-cons types index d h ∙ ap (λ i. t ∷ drop i types) (sym (add-one index))) ∙ sym (max_thrice r.high (height (identity_of table t.index)) (highest_of table (drop (index + 1) types)));
    }

drop_past : {A : Type 0} (xs : List A) (i : ℕ) → length xs ≤ i → drop i xs ≡ []
drop_past [] zero h = refl
drop_past [] (suc i) h = refl
drop_past (x ∷ xs) zero h = absurd (omega arith)
drop_past (x ∷ xs) (suc i) h = drop_past xs i (omega arith)

pub rising_ends : (table : List Node) (types : List TyId) (index most : ℕ) → IsRising table types index most → length types ≤ index → most ≡ clipped (highest_of table types)
rising_ends table types index most r past =
    let all : highest_of table types ≡ max r.high 0 = r.along ∙ ap (λ ts. max r.high (highest_of table ts)) (drop_past types index past) in
    let is : r.high ≡ highest_of table types = omega arith in
    r.counts ∙ ap clipped is

is_named : (r : Root) → kind_of r ≡ kind.Named → (n : ℕ) → beneath r n ≡ 0
is_named identity.truth e n = cc
is_named (identity.integer w) e n = cc
is_named identity.rune e n = cc
is_named identity.text e n = cc
is_named identity.rawptr e n = cc
is_named identity.pointer e n = cc
is_named (identity.array k) e n = cc
is_named identity.slice e n = cc
is_named identity.dynamic e n = cc
is_named (identity.soa (Fixed k)) e n = cc
is_named (identity.soa Slice) e n = cc
is_named (identity.soa Dyn) e n = cc
is_named (identity.named at ns) e n = refl
is_named (identity.procedure Odin k) e n = cc
is_named (identity.procedure Contextless k) e n = cc

is_other : (r : Root) → (kind_of r ≡ kind.Named → ⊥) → (n : ℕ) → beneath r n ≡ n
is_other (identity.named at ns) e n = absurd (e refl)
is_other r e n = refl

-- a named type counts one
pub named_height : (table : List Node) (n : Node) (key : Key) → IsKeyOf key n → key.kind ≡ kind.Named → 1 ≡ clipped (height_of_node table n)
unfolding height_of_node
named_height table n key is e =
    let none = is_named (root_of n) (sym is.kind ∙ e) (highest_of table (counted n)) in
    ap (λ k. clipped (suc k)) (sym none)

-- any other type one more than its highest part
pub other_height : (table : List Node) (n : Node) (key : Key) (most above : ℕ) → IsKeyOf key n → (key.kind ≡ kind.Named → ⊥) → most ≡ clipped (highest_of table key.parts.items) → ((k : ℕ) → most ≡ clipped k → above ≡ clipped (k + 1)) → above ≡ clipped (height_of_node table n)
unfolding height_of_node
other_height table n key most above is e m up =
    let all = is_other (root_of n) (λ h. e (is.kind ∙ h)) (highest_of table (counted n)) in
    up (highest_of table key.parts.items) m ∙ ap clipped (add-one (highest_of table key.parts.items) ∙ ap (λ ts. suc (highest_of table ts)) is.parts ∙ ap (λ k. suc k) (sym all))

pub key_below : (table : List Node) (n : Node) (key : Key) → IsKeyOf key n → HasPartsBelow (length table) n → AreBelow (length table) key.parts.items
key_below table n key is below = subst (AreBelow (length table)) (sym is.parts) (counted_below (length table) n below)

-- what measuring rests on
pub founded : (keys : List Key) (types : List Node) (heights : List ℕ) → IsInterned keys types → AreHeights types heights → IsFounded types heights
unfolding height_of_node
founded keys types heights table hs = record {
  same = hs.same;
  high = λ t n at. hs.each t (slice_get_within types t n at) ∙ ap (λ i. clipped (height i)) (unfolds types table.whole t n at);
  parts = table.parts;
}

get_front_or : (xs ys : List ℕ) (i : ℕ) → i < length xs → get_or (xs ++ ys) i 0 ≡ get_or xs i 0
get_front_or [] ys i h = absurd (omega arith)
get_front_or (x ∷ xs) ys zero h = refl
get_front_or (x ∷ xs) ys (suc i) h = get_front_or xs ys i (omega arith)

get_end_or : (xs : List ℕ) (x : ℕ) → get_or (xs ++ (x ∷ [])) (length xs) 0 ≡ x
get_end_or [] x = refl
get_end_or (y ∷ xs) x = get_end_or xs x

-- one more type
pub heights_added : (keys : List Key) (types : List Node) (heights : List ℕ) (n : Node) (x : ℕ) → IsInterned keys types → AreHeights types heights → x ≡ clipped (height_of_node types n) → identity_of (types ++ (n ∷ [])) (length types) ≡ identity_of_node (identity_of types) n → AreHeights (types ++ (n ∷ [])) (heights ++ (x ∷ []))
unfolding height_of_node
heights_added keys types heights n x table hs e new = record {
  same = length-append heights (x ∷ []) ∙ ap (λ k. k + 1) hs.same ∙ sym (length-append types (n ∷ []));
  each = λ t inside. elim (cases_lt t (length types)) [
    | inl before ↦ (let same = hs.same in get_front_or heights (x ∷ []) t (omega arith) ∙ hs.each t before ∙ ap (λ i. clipped (height i)) (sym (identity_added types n table.whole t before)))
    | inr after ↦ (
        let count = length-append types (n ∷ []) in
        let last : t ≡ length types = omega arith in
        let same = hs.same in
        ap (λ i. get_or (heights ++ (x ∷ [])) i 0) (last ∙ sym same) ∙ get_end_or heights x ∙ e ∙ ap (λ i. clipped (height i)) (sym new) ∙ ap (λ i. clipped (height (identity_of (types ++ (n ∷ [])) i))) (sym last))
  ];
}

-- a type that gets its parts is as high as before
pub heights_defined : (types : List Node) (heights : List ℕ) (i : ℕ) (again : Node) → IsUndefined types (slice_get types i) again → AreHeights types heights → AreHeights (slice_set types i again) heights
heights_defined types heights i again u hs = record {
  same = hs.same ∙ sym (length-set types i again);
  each = λ t inside. (let count = length-set types i again in hs.each t (omega arith) ∙ ap (λ j. clipped (height j)) (sym (identity_defined types i again u t)));
}
