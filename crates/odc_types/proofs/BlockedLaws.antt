-- What a type without a size is blocked by: it has no layout so long, and is blocked by the same as the table grows.
use Rattle.std.proofs.Common.{◌≡◌, ◌≢◌, ℕ, zero, suc, ◌+◌, ◌<◌, ◌≤◌, List, [], ◌∷◌, ◌++◌, Option, Some, None, length, slice_get, slice_set, unwrap_or, refl, sym, ◌∙◌, ap, subst, arith, map, inl, inr, ◌⊎◌, All, Contains}
use Rattle.std.proofs.lemmas.Bool.{cases_eq}
use Rattle.std.proofs.lemmas.Option.{slice_get_within}
use Rattle.std.proofs.lemmas.List.Elements.{All-contains, All-map}
use Rattle.std.specs.Option.{option_map, option_and_then}
use Rattle.odc_types.specs.declared.ty.TyId.{TyId}
use Rattle.odc_types.specs.declared.ty.Field.{Field}
use Rattle.odc_types.specs.declared.ty.SoaForm.{SoaForm}
use Rattle.odc_types.specs.declared.ty.SoaForm.TheVariants.{Fixed, Slice, Dyn}
use Rattle.odc_types.specs.declared.extent.Extent.{Extent}
use Rattle.odc_types.specs.Nodes as nodes
use Rattle.odc_types.specs.Nodes.{Node}
use Rattle.odc_types.specs.Parts.{HasPartsBelow, IsUndefined}
use Rattle.odc_types.specs.Layout as layouts
use Rattle.odc_types.specs.Heights.{height_of_node}
use Rattle.odc_types.specs.Layout.{Layout, words, array, struct, union, distinct, column, columns, all_of, struct_fields, under_at, under, under_of, fields_of, layout_of_node}
use Rattle.odc_types.specs.Clipped.{IsMeasured, kept_at, AreKept}
use Rattle.odc_types.specs.Measured.{is_undefined, types_of, values, IsBlocked, IsFieldless, lacks, part, record_of, endless}
use Rattle.odc_types.proofs.Lists.{get_front, get_elsewhere}
use Rattle.odc_types.proofs.LayoutLaws.{Grows, under_enough, under_unfolds, fields_under, fields_from, no_fields, fields_keep, undefined_is, under_there}
use Rattle.odc_types.proofs.MeasuredLaws.{none_is, undefined_none}
use Rattle.odc_types.proofs.MeasureLemmas.{column_missing}
use Rattle.odc_types.proofs.InternedLaws.{some_type}
use Rattle.odc_types.proofs.HoldsLaws.{one_of, none_of}

none_kept : (extents : List (Option Extent)) (f : ℕ → Option Layout) → AreKept extents f → (p : ℕ) → kept_at extents p ≡ None → f p ≡ None
none_kept extents f k p none = none_is (f p) (subst (λ e. IsMeasured e (f p)) none (k.each p))

missing_first : (o : Option Layout) (ps : List (Option Layout)) → o ≡ None → all_of (o ∷ ps) ≡ None
missing_first None ps e = refl
missing_first (Some l) ps e = cc

missing_later : (o : Option Layout) (ps : List (Option Layout)) → all_of ps ≡ None → all_of (o ∷ ps) ≡ None
missing_later None ps e = refl
missing_later (Some l) ps e = ap (λ m. option_map (λ ls. layouts.more l ls) m) e

-- one of the parts has no layout
all_missing : {A : Type 0} (f : A → Option Layout) (g : A → TyId) (xs : List A) (id : TyId) → Contains (map g xs) id → ((x : A) → g x ≡ id → f x ≡ None) → all_of (map f xs) ≡ None
all_missing f g [] id c none = absurd (none_of id c)
all_missing f g (x ∷ xs) id (zero, h, e) none = missing_first (f x) (map f xs) (none x e)
all_missing f g (x ∷ xs) id (suc k, h, e) none = missing_later (f x) (map f xs) (all_missing f g xs id (k, omega arith, e) none)

columns_missing : (f : ℕ → Option Layout) (count : Option ℕ) (fs : List Field) (id : TyId) → Contains (types_of fs) id → f id.index ≡ None → columns f count fs ≡ None
columns_missing f count fs id c none =
    ap (λ o. option_map struct o) (all_missing (λ (x : Field). column f count x.ty.index) (λ (x : Field). x.ty) fs id c (λ x e. column_missing count f x.ty.index (ap (λ (y : TyId). f y.index) e ∙ none)))

ids_missing : (f : ℕ → Option Layout) (vs : List TyId) (id : TyId) → Contains vs id → f id.index ≡ None → all_of (map (λ (v : TyId). f v.index) vs) ≡ None
ids_missing f [] id c none = absurd (none_of id c)
ids_missing f (v ∷ vs) id (zero, h, e) none = missing_first (f v.index) (map (λ (v : TyId). f v.index) vs) (ap (λ (y : TyId). f y.index) e ∙ none)
ids_missing f (v ∷ vs) id (suc k, h, e) none = missing_later (f v.index) (map (λ (v : TyId). f v.index) vs) (ids_missing f vs id (k, omega arith, e) none)

-- a part by value has no layout
value_missing : (types : List Node) (f : ℕ → Option Layout) (n : Node) (id : TyId) → Contains (values types n) id → f id.index ≡ None → layout_of_node types f n ≡ None
value_missing types f (nodes.array count of) id c none = ap (λ o. option_map (array count) o) (ap (λ (y : TyId). f y.index) (one_of of id c) ∙ none)
value_missing types f (nodes.soa (Fixed count) of) id c none = by (fields_of types of.index) c
  where
    by : (o : Option (List Field)) → Contains (types_of (unwrap_or o [])) id → option_and_then (columns f (Some count)) o ≡ None
    by None c = refl
    by (Some fs) c = columns_missing f (Some count) fs id c none
value_missing types f (nodes.soa Slice of) id c none = absurd (none_of id c)
value_missing types f (nodes.soa Dyn of) id c none = absurd (none_of id c)
value_missing types f (nodes.struct name (Some fs)) id c none = columns_missing f None fs id c none
value_missing types f (nodes.union name (Some vs)) id c none = ap (λ o. option_map union o) (ids_missing f vs id c none)
value_missing types f (nodes.distinct name (Some b)) id c none = ap (λ o. option_map distinct o) (ap (λ (y : TyId). f y.index) (one_of b id c) ∙ none)
value_missing types f (nodes.struct name None) id c none = refl
value_missing types f (nodes.union name None) id c none = refl
value_missing types f (nodes.distinct name None) id c none = refl
value_missing types f (nodes.enum name base es) id c none = absurd (none_of id c)
value_missing types f n id c none = absurd (none_of id c)

pub fieldless : (types : List Node) (f : ℕ → Option Layout) (form : SoaForm) (of : TyId) → fields_of types of.index ≡ None → layout_of_node types f (nodes.soa form of) ≡ None
fieldless types f (Fixed count) of e = ap (λ o. option_and_then (columns f (Some count)) o) e
fieldless types f Slice of e = ap (λ o. option_map (λ fs. words (length fs + 1) (height_of_node types (nodes.soa Slice of))) o) e
fieldless types f Dyn of e = ap (λ o. option_map (λ fs. words (length fs + 4) (height_of_node types (nodes.soa Dyn of))) o) e

-- a blocked type has no layout
pub blocked_none : (types : List Node) (extents : List (Option Extent)) (f : ℕ → Option Layout) (t p : ℕ) (n : Node) → AreKept extents f → IsBlocked types extents t n p → layout_of_node types f n ≡ None
blocked_none types extents f t p n k (lacks u e) = undefined_none types f n u
blocked_none types extents f t p n k (part id c e none) = value_missing types f n id c (none_kept extents f k id.index (ap (λ x. kept_at extents x) e ∙ none))
blocked_none types extents f t p n k (record_of form of e u none) = ap (λ m. layout_of_node types f m) e ∙ fieldless types f form of (fields_from types of.index p u ∙ none)
blocked_none types extents f t p n k (endless form of e u same) = ap (λ m. layout_of_node types f m) e ∙ fieldless types f form of (no_fields types of.index u)

fields_inside : (n : ℕ) (o : Option Node) (fs : List Field) → ((m : Node) → o ≡ Some m → HasPartsBelow n m) → struct_fields o ≡ Some fs → All (λ (x : Field). x.ty.index < n) fs
fields_inside n (Some (nodes.struct name (Some gs))) fs h e = let same : gs ≡ fs = cc in subst (All (λ (x : Field). x.ty.index < n)) same (h (nodes.struct name (Some gs)) refl).1
fields_inside n o fs h e = cc

value_inside : (types : List Node) → ((t : ℕ) (n : Node) → slice_get types t ≡ Some n → HasPartsBelow (length types) n) → (n : Node) → HasPartsBelow (length types) n → (id : TyId) → Contains (values types n) id → id.index < length types
value_inside types all (nodes.array count of) below id c = subst (λ (y : TyId). y.index < length types) (one_of of id c) below
value_inside types all (nodes.soa (Fixed count) of) below id c = by (fields_of types of.index) refl c
  where
    by : (o : Option (List Field)) → fields_of types of.index ≡ o → Contains (types_of (unwrap_or o [])) id → id.index < length types
    by None e c = absurd (none_of id c)
    by (Some fs) e c =
        let u = fields_under types of.index fs e in
        All-contains (λ (y : TyId). y.index < length types) (types_of fs) id (All-map (λ (y : TyId). y.index < length types) (λ (x : Field). x.ty) fs (fields_inside (length types) (slice_get types u.0) fs (λ m at. all u.0 m at) u.2)) c
value_inside types all (nodes.soa Slice of) below id c = absurd (none_of id c)
value_inside types all (nodes.soa Dyn of) below id c = absurd (none_of id c)
value_inside types all (nodes.struct name (Some fs)) below id c = All-contains (λ (y : TyId). y.index < length types) (types_of fs) id (All-map (λ (y : TyId). y.index < length types) (λ (x : Field). x.ty) fs below.1) c
value_inside types all (nodes.union name (Some vs)) below id c = All-contains (λ (y : TyId). y.index < length types) vs id below.1 c
value_inside types all (nodes.distinct name (Some b)) below id c = subst (λ (y : TyId). y.index < length types) (one_of b id c) below.1
value_inside types all (nodes.struct name None) below id c = absurd (none_of id c)
value_inside types all (nodes.union name None) below id c = absurd (none_of id c)
value_inside types all (nodes.distinct name None) below id c = absurd (none_of id c)
value_inside types all n below id c = absurd (none_of id c)

soa_inside : (k : ℕ) (n : Node) (form : SoaForm) (of : TyId) → n ≡ nodes.soa form of → HasPartsBelow k n → of.index < k
soa_inside k n form of e below = subst (HasPartsBelow k) e below

-- what a type is blocked by is in the table, or the type itself
pub blocked_inside : (types : List Node) (extents : List (Option Extent)) (t p : ℕ) (n : Node) → ((t : ℕ) (n : Node) → slice_get types t ≡ Some n → HasPartsBelow (length types) n) → HasPartsBelow (length types) n → IsBlocked types extents t n p → (p < length types) ⊎ (p ≡ t)
blocked_inside types extents t p n all below (lacks u e) = inr e
blocked_inside types extents t p n all below (part id c e none) = inl (subst (λ x. x < length types) e (value_inside types all n below id c))
blocked_inside types extents t p n all below (record_of form of e u none) = let m = under_there types (length types) of.index p u in inl (slice_get_within types p m.0 m.1)
blocked_inside types extents t p n all below (endless form of e u same) = inl (subst (λ x. x < length types) (sym same) (soa_inside (length types) n form of e below))

-- each type of the first is in the second, but for q, which may have had no parts
pub record IsSteady (types types' : List Node) (q : ℕ) : Type 0 where
  pub keeps : (u : ℕ) (m : Node) → slice_get types u ≡ Some m → (slice_get types' u ≡ Some m) ⊎ (is_undefined m × (u ≡ q))

undefined_end : (types : List Node) (k t p : ℕ) (m : Node) → is_undefined m → under_at (under types k) t (Some m) ≡ Some p → t ≡ p
undefined_end types k t p (nodes.struct name None) u e = cc
undefined_end types k t p (nodes.union name None) u e = cc
undefined_end types k t p (nodes.enum name base None) u e = cc
undefined_end types k t p (nodes.distinct name None) u e = cc
undefined_end types k t p (nodes.struct name (Some gs)) u e = absurd u
undefined_end types k t p (nodes.union name (Some vs)) u e = absurd u
undefined_end types k t p (nodes.enum name base (Some es)) u e = absurd u
undefined_end types k t p (nodes.distinct name (Some b)) u e = absurd u
undefined_end types k t p m u e = absurd u

-- the type under a type stays, unless it gets its parts
under_stays : (types types' : List Node) (q : ℕ) → IsSteady types types' q → (k t p : ℕ) → p ≢ q → under types k t ≡ Some p → under types' k t ≡ Some p
under_stays types types' q steady zero t p other e = cc
under_stays types types' q steady (suc k) t p other e = by (slice_get types t) refl e (λ b u. under_stays types types' q steady k b p other u)
  where
    step : (n : Node) → ((b : ℕ) → under types k b ≡ Some p → under types' k b ≡ Some p) → under_at (under types k) t (Some n) ≡ Some p → under_at (under types' k) t (Some n) ≡ Some p
    step (nodes.distinct name (Some b)) down e = down b.index e
    step (nodes.distinct name None) down e = e
    step n down e = e

    by : (o : Option Node) → slice_get types t ≡ o → under_at (under types k) t (slice_get types t) ≡ Some p → ((b : ℕ) → under types k b ≡ Some p → under types' k b ≡ Some p) → under_at (under types' k) t (slice_get types' t) ≡ Some p
    by None at e down = let none : None ≡ Some p = sym (ap (λ o. under_at (under types k) t o) at) ∙ e in cc
    by (Some n) at e down =
        let here : under_at (under types k) t (Some n) ≡ Some p = sym (ap (λ o. under_at (under types k) t o) at) ∙ e in
        elim (steady.keeps t n at) [
          | inl same ↦ ap (λ o. under_at (under types' k) t o) same ∙ step n down here
          | inr u ↦ absurd (other (sym (undefined_end types k t p n u.0 here) ∙ u.1))
        ]

-- no end of distinct types at any level
never : (types : List Node) (t : ℕ) → under_of types t ≡ None → (k : ℕ) → under types k t ≡ None
never types t e k = by (under types k t) refl
  where
    by : (o : Option ℕ) → under types k t ≡ o → under types k t ≡ None
    by None h = h
    by (Some p) h = let both : None ≡ Some p = sym e ∙ under_enough types k t p h in cc

endless_stays : (types types' : List Node) (q : ℕ) → IsSteady types types' q → ((t : ℕ) (n : Node) → slice_get types t ≡ Some n → HasPartsBelow (length types) n) → (k t : ℕ) → t < length types → ((j : ℕ) → under types j t ≡ None) → under types' k t ≡ None
endless_stays types types' q steady all zero t inside none = refl
endless_stays types types' q steady all (suc k) t inside none = by (some_type types t inside) (λ b below never. endless_stays types types' q steady all k b below never)
  where
    at_one : (m : Node) → slice_get types t ≡ Some m → under_at (under types 0) t (Some m) ≡ None
    at_one m at = ap (λ o. under_at (under types 0) t o) (sym at) ∙ none 1

    step : (m : Node) → slice_get types t ≡ Some m → under_at (under types 0) t (Some m) ≡ None → ((b : ℕ) → b < length types → ((j : ℕ) → under types j b ≡ None) → under types' k b ≡ None) → under_at (under types' k) t (slice_get types' t) ≡ None
    step (nodes.distinct name (Some b)) at one down =
        elim (steady.keeps t (nodes.distinct name (Some b)) at) [
          | inl same ↦ ap (λ o. under_at (under types' k) t o) same ∙ down b.index (all t (nodes.distinct name (Some b)) at).1 (λ j. ap (λ o. under_at (under types j) t o) (sym at) ∙ none (suc j))
          | inr u ↦ absurd u.0
        ]
    step (nodes.distinct name None) at one down = cc
    step m at one down = cc

    by : (m : Node) × (slice_get types t ≡ Some m) → ((b : ℕ) → b < length types → ((j : ℕ) → under types j b ≡ None) → under types' k b ≡ None) → under_at (under types' k) t (slice_get types' t) ≡ None
    by m down = step m.0 m.1 (at_one m.0 m.1) down

value_keeps : (types types' : List Node) → Grows types types' → (n : Node) (id : TyId) → Contains (values types n) id → Contains (values types' n) id
value_keeps types types' grows (nodes.soa (Fixed count) of) id c = by (fields_of types of.index) refl c
  where
    by : (o : Option (List Field)) → fields_of types of.index ≡ o → Contains (types_of (unwrap_or o [])) id → Contains (types_of (unwrap_or (fields_of types' of.index) [])) id
    by None e c = absurd (none_of id c)
    by (Some fs) e c = subst (λ o. Contains (types_of (unwrap_or o [])) id) (sym (fields_keep types types' grows of.index fs e)) c
value_keeps types types' grows (nodes.soa Slice of) id c = c
value_keeps types types' grows (nodes.soa Dyn of) id c = c
value_keeps types types' grows (nodes.struct name None) id c = c
value_keeps types types' grows (nodes.struct name (Some fs)) id c = c
value_keeps types types' grows (nodes.union name None) id c = c
value_keeps types types' grows (nodes.union name (Some vs)) id c = c
value_keeps types types' grows (nodes.distinct name None) id c = c
value_keeps types types' grows (nodes.distinct name (Some b)) id c = c
value_keeps types types' grows (nodes.array count of) id c = c
value_keeps types types' grows n id c = c

fields_stay : (types types' : List Node) (q p : ℕ) → IsSteady types types' q → p ≢ q → (m : Node) → slice_get types p ≡ Some m → struct_fields (slice_get types p) ≡ None → struct_fields (slice_get types' p) ≡ None
fields_stay types types' q p steady other m at none = elim (steady.keeps p m at) [
  | inl same ↦ ap struct_fields (same ∙ sym at) ∙ none
  | inr u ↦ absurd (other u.1)
]

-- a type is blocked by the same in a table that has grown, unless what it is blocked by got its parts or an extent
pub blocked_stays : (types types' : List Node) (extents extents' : List (Option Extent)) (q t p : ℕ) (n : Node) → IsSteady types types' q → Grows types types' → ((t : ℕ) (n : Node) → slice_get types t ≡ Some n → HasPartsBelow (length types) n) →
    HasPartsBelow (length types) n → p ≢ q → (kept_at extents p ≡ None → kept_at extents' p ≡ None) → IsBlocked types extents t n p → IsBlocked types' extents' t n p
blocked_stays types types' extents extents' q t p n steady grows all below other still (lacks u e) = lacks u e
blocked_stays types types' extents extents' q t p n steady grows all below other still (part id c e none) = part id (value_keeps types types' grows n id c) e (still none)
blocked_stays types types' extents extents' q t p n steady grows all below other still (record_of form of e u none) =
    let m = under_there types (length types) of.index p u in
    record_of form of e (under_enough types' (length types) of.index p (under_stays types types' q steady (length types) of.index p other u)) (fields_stay types types' q p steady other m.0 m.1 none)
blocked_stays types types' extents extents' q t p n steady grows all below other still (endless form of e u same) =
    endless form of e (endless_stays types types' q steady all (length types') of.index (soa_inside (length types) n form of e below) (never types of.index u)) same

-- the same in the same table, where fewer extents are missing
pub blocked_on : (types : List Node) (extents extents' : List (Option Extent)) (t p : ℕ) (n : Node) → (kept_at extents p ≡ None → kept_at extents' p ≡ None) → IsBlocked types extents t n p → IsBlocked types extents' t n p
blocked_on types extents extents' t p n still (lacks u e) = lacks u e
blocked_on types extents extents' t p n still (part id c e none) = part id c e (still none)
blocked_on types extents extents' t p n still (record_of form of e u none) = record_of form of e u none
blocked_on types extents extents' t p n still (endless form of e u same) = endless form of e u same

-- a type without its parts is blocked by itself
pub undefined_blocked : (types : List Node) (extents : List (Option Extent)) (t p : ℕ) (n : Node) → is_undefined n → IsBlocked types extents t n p → p ≡ t
undefined_blocked types extents t p n u (lacks _ e) = e
undefined_blocked types extents t p n u (part id c e none) = absurd (none_of id (subst (λ ids. Contains ids id) (no_values n u) c))
  where
    no_values : (n : Node) → is_undefined n → values types n ≡ []
    no_values (nodes.struct name None) u = refl
    no_values (nodes.union name None) u = refl
    no_values (nodes.enum name base None) u = refl
    no_values (nodes.distinct name None) u = refl
    no_values (nodes.struct name (Some fs)) u = absurd u
    no_values (nodes.union name (Some vs)) u = absurd u
    no_values (nodes.enum name base (Some es)) u = absurd u
    no_values (nodes.distinct name (Some b)) u = absurd u
    no_values m u = absurd u
undefined_blocked types extents t p n u (record_of form of e _ none) = absurd (subst is_undefined e u)
undefined_blocked types extents t p n u (endless form of e _ same) = absurd (subst is_undefined e u)

-- a table with one more type is steady, and so is one in which a type got its parts
pub steady_at_end : (types : List Node) (n : Node) (q : ℕ) → IsSteady types (types ++ (n ∷ [])) q
steady_at_end types n q = record { keeps = λ u m at. inl (get_front types (n ∷ []) u m at) }

pub steady_by_parts : (types : List Node) (i : ℕ) (again : Node) → IsUndefined types (slice_get types i) again → IsSteady types (slice_set types i again) i
steady_by_parts types i again un = record {
  keeps = λ u m at. elim (cases_eq u i) [
    | inl same ↦ inr (undefined_is types m again (subst (λ o. IsUndefined types o again) (ap (λ x. slice_get types x) (sym same) ∙ at) un), same)
    | inr other ↦ inl (get_elsewhere types i u again other ∙ at)
  ];
}

pub fieldless_none : (types : List Node) (t p : ℕ) → IsFieldless types t p → fields_of types t ≡ None
fieldless_none types t p (inl h) = fields_from types t p h.0 ∙ h.1
fieldless_none types t p (inr h) = no_fields types t h.0

pub blocked_fieldless : (types : List Node) (extents : List (Option Extent)) (t p : ℕ) (form : SoaForm) (of : TyId) → IsFieldless types of.index p → IsBlocked types extents t (nodes.soa form of) p
blocked_fieldless types extents t p form of (inl h) = record_of form of refl h.0 h.1
blocked_fieldless types extents t p form of (inr h) = endless form of refl h.0 h.1

pub blocked_by : (types : List Node) (extents : List (Option Extent)) (t : ℕ) (n : Node) (id of : TyId) → Contains (values types n) of → id ≡ of → kept_at extents of.index ≡ None → IsBlocked types extents t n id.index
blocked_by types extents t n id of c e none = part of c (ap (λ (x : TyId). x.index) (sym e)) (ap (λ (x : TyId). kept_at extents x.index) e ∙ none)

pub column_blocked : (types : List Node) (extents : List (Option Extent)) (t count : ℕ) (of id : TyId) (fs : List Field) → fields_of types of.index ≡ Some fs → Contains (types_of fs) id → kept_at extents id.index ≡ None → IsBlocked types extents t (nodes.soa (Fixed count) of) id.index
column_blocked types extents t count of id fs e c none = part id (subst (λ o. Contains (types_of (unwrap_or o [])) id) (sym e) c) refl none
