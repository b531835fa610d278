-- A layout that a type unfolds to stays: with more levels, with more types in the table, and once an undefined type gets its
-- parts. So does the type under distinct ones.
use Rattle.std.proofs.Common.{◌≡◌, ◌≢◌, ℕ, zero, suc, ◌+◌, ◌-◌, ◌<◌, ◌≤◌, List, [], ◌∷◌, ◌++◌, Option, Some, None, length, slice_get, slice_set, refl, sym, ◌∙◌, ap, subst, arith, map, ◌^◌, unwrap_or, IfNone, ◌⊎◌, inl, inr, IsSome}
use Rattle.std.proofs.lemmas.Bool.{cases_lt, cases_eq}
use Rattle.std.proofs.lemmas.Option.{slice_get_past}
use Rattle.std.specs.Option.{option_map, option_and_then}
use Rattle.odc_types.specs.declared.ty.TyId.{TyId}
use Rattle.odc_types.specs.declared.ty.Field.{Field}
use Rattle.odc_types.specs.declared.ty.SoaForm.TheVariants.{Fixed, Slice, Dyn}
use Rattle.odc_types.specs.Nodes as nodes
use Rattle.odc_types.specs.Nodes.{Node, Name}
use Rattle.odc_types.specs.Identity as identities
use Rattle.odc_types.specs.Identity.{Identity, tree, root_of, all_of as identities_of, counted, identity_of, IsWholeTable}
use Rattle.odc_types.specs.Heights.{height, height_of_node}
use Rattle.odc_types.specs.Layout.{Layout, Layouts, more, scalar, array, struct, union, distinct, words, column, columns, all_of, struct_fields, under_at, under, under_of, fields_of, layout_of_node, layout, layout_of, fields_in, HasSize, size, size_of}
use Rattle.odc_types.specs.Parts.{IsUndefined, HasPartsBelow}
use Rattle.odc_types.specs.Interned.{IsInterned}
use Rattle.odc_types.specs.Measured.{is_undefined}
use Rattle.odc_types.specs.declared.key.Key.{Key}
use Rattle.odc_types.specs.declared.extent.Extent.{Extent}
use Rattle.odc_types.specs.Clipped.{IsHeld, IsMeasured}
use Rattle.odc_types.proofs.Unfolding.{Extends, IsUnfolding, enough_levels, last_level}
use Rattle.odc_types.proofs.Lists.{get_front, get_elsewhere}
use Rattle.odc_types.proofs.IdentityLaws.{identity_added, identity_defined}
use Rattle.odc_types.specs.Below.{AreBelow}
use Rattle.odc_types.proofs.InternedLaws.{counted_below}

-- each type of the first is in the second under its number, but for types without their parts; and it is as high
pub record Grows (types types' : List Node) : Type 0 where
  pub keeps : (t : ℕ) (n : Node) → slice_get types t ≡ Some n → (slice_get types' t ≡ Some n) ⊎ is_undefined n
  pub heights : (t : ℕ) (n : Node) → slice_get types t ≡ Some n → height_of_node types' n ≡ height_of_node types n

map_keeps : {A B : Type 0} (h : A → B) (o o' : Option A) → ((a : A) → o ≡ Some a → o' ≡ Some a) → (b : B) → option_map h o ≡ Some b → option_map h o' ≡ Some b
map_keeps h None o' k b e = cc
map_keeps h (Some a) o' k b e = ap (λ o. option_map h o) (k a refl) ∙ e

both_keep : (o o' : Option Layout) (ps ps' : List (Option Layout)) → ((l : Layout) → o ≡ Some l → o' ≡ Some l) → ((ls : Layouts) → all_of ps ≡ Some ls → all_of ps' ≡ Some ls) → (ls : Layouts) → all_of (o ∷ ps) ≡ Some ls → all_of (o' ∷ ps') ≡ Some ls
both_keep None o' ps ps' k ks ls e = cc
both_keep (Some l) o' ps ps' k ks ls e = ap (λ o. all_of (o ∷ ps')) (k l refl) ∙ map_keeps (more l) (all_of ps) (all_of ps') ks ls e

all_keep : {A : Type 0} (f g : A → Option Layout) → Extends f g → (xs : List A) (ls : Layouts) → all_of (map f xs) ≡ Some ls → all_of (map g xs) ≡ Some ls
all_keep f g k [] ls e = e
all_keep f g k (x ∷ xs) ls e = both_keep (f x) (g x) (map f xs) (map g xs) (k.keeps x) (all_keep f g k xs) ls e

column_keeps : (f g : ℕ → Option Layout) → Extends f g → (count : Option ℕ) → Extends (column f count) (column g count)
column_keeps f g k None = k
column_keeps f g k (Some n) = record { keeps = λ t l e. map_keeps (array n) (f t) (g t) (k.keeps t) l e }

pub columns_keep : (f g : ℕ → Option Layout) → Extends f g → (count : Option ℕ) (fs : List Field) (l : Layout) → columns f count fs ≡ Some l → columns g count fs ≡ Some l
columns_keep f g k count fs l e =
    map_keeps struct _ _ (all_keep (λ (x : Field). column f count x.ty.index) (λ (x : Field). column g count x.ty.index) (record { keeps = λ x. (column_keeps f g k count).keeps x.ty.index }) fs) l e

then_keeps : {A B : Type 0} (h h' : A → Option B) (o o' : Option A) → ((a : A) → o ≡ Some a → o' ≡ Some a) → ((a : A) (b : B) → h a ≡ Some b → h' a ≡ Some b) → (b : B) → option_and_then h o ≡ Some b → option_and_then h' o' ≡ Some b
then_keeps h h' None o' k ks b e = cc
then_keeps h h' (Some a) o' k ks b e = ap (λ o. option_and_then h' o) (k a refl) ∙ ks a b e

-- one more type taken off
under_step : (f g : ℕ → Option ℕ) → Extends f g → (t : ℕ) (o : Option Node) (p : ℕ) → under_at f t o ≡ Some p → under_at g t o ≡ Some p
under_step f g k t None p e = cc
under_step f g k t (Some (nodes.distinct name (Some b))) p e = k.keeps b.index p e
under_step f g k t (Some (nodes.distinct name None)) p e = e
under_step f g k t (Some n) p e = e

under_deeper : (types : List Node) (k : ℕ) → Extends (under types k) (under types (suc k))
under_deeper types zero = record { keeps = λ t p e. cc }
under_deeper types (suc k) = record { keeps = λ t p e. under_step (under types k) (under types (suc k)) (under_deeper types k) t (slice_get types t) p e }

under_outside : (types : List Node) (k t : ℕ) → length types ≤ t → under types k t ≡ None
under_outside types zero t past = refl
under_outside types (suc k) t past = ap (λ o. under_at (under types k) t o) (slice_get_past types t past)

under_unfolding : (types : List Node) → IsUnfolding (length types) (under types)
under_unfolding types = record {
  deeper = under_deeper types;
  outside = under_outside types;
  next = λ k e. (let step : (ℕ → Option ℕ) → ℕ → Option ℕ = λ f t. under_at f t (slice_get types t) in ap step e);
}

-- as many levels as there are types are enough
pub under_enough : (types : List Node) (k t p : ℕ) → under types k t ≡ Some p → under_of types t ≡ Some p
under_enough types k t p e = enough_levels (length types) (under types) (under_unfolding types) k t p e

pub under_unfolds : (types : List Node) (t : ℕ) → under_of types t ≡ under_at (under_of types) t (slice_get types t)
under_unfolds types t = ap (λ (f : ℕ → Option ℕ). f t) (last_level (length types) (under types) (under_unfolding types))

-- the fields of a type, once known, stay known
fields_step : (types types' : List Node) → Grows types types' → (fs : List Field) (k : ℕ) (t p : ℕ) → under types k t ≡ Some p → struct_fields (slice_get types p) ≡ Some fs → under types' k t ≡ Some p
fields_step types types' grows fs zero t p e has = cc
fields_step types types' grows fs (suc k) t p e has = by (slice_get types t) refl e (λ b u. fields_step types types' grows fs k b p u has)
  where
    undefined_end : (n : Node) → is_undefined n → slice_get types t ≡ Some n → under_at (under types k) t (Some n) ≡ Some p → ⊥
    undefined_end (nodes.struct name None) u at e = let same : t ≡ p = cc in let none : None ≡ Some fs = sym (ap struct_fields (ap (λ x. slice_get types x) (sym same) ∙ at)) ∙ has in cc
    undefined_end (nodes.union name None) u at e = let same : t ≡ p = cc in let none : None ≡ Some fs = sym (ap struct_fields (ap (λ x. slice_get types x) (sym same) ∙ at)) ∙ has in cc
    undefined_end (nodes.enum name base None) u at e = let same : t ≡ p = cc in let none : None ≡ Some fs = sym (ap struct_fields (ap (λ x. slice_get types x) (sym same) ∙ at)) ∙ has in cc
    undefined_end (nodes.distinct name None) u at e = let same : t ≡ p = cc in let none : None ≡ Some fs = sym (ap struct_fields (ap (λ x. slice_get types x) (sym same) ∙ at)) ∙ has in cc
    undefined_end (nodes.struct name (Some gs)) u at e = u
    undefined_end (nodes.union name (Some vs)) u at e = u
    undefined_end (nodes.enum name base (Some es)) u at e = u
    undefined_end (nodes.distinct name (Some b)) u at e = u
    undefined_end n u at e = u

    step : (n : Node) → ((b : ℕ) → under types k b ≡ Some p → under types' k b ≡ Some p) → under_at (under types k) t (Some n) ≡ Some p → under_at (under types' k) t (Some n) ≡ Some p
    step (nodes.distinct name (Some b)) down e = down b.index e
    step (nodes.distinct name None) down e = e
    step n down e = e

    by : (o : Option Node) → slice_get types t ≡ o → under_at (under types k) t (slice_get types t) ≡ Some p → ((b : ℕ) → under types k b ≡ Some p → under types' k b ≡ Some p) → under_at (under types' k) t (slice_get types' t) ≡ Some p
    by None at e down = let none : None ≡ Some p = sym (ap (λ o. under_at (under types k) t o) at) ∙ e in cc
    by (Some n) at e down =
        let here : under_at (under types k) t (Some n) ≡ Some p = sym (ap (λ o. under_at (under types k) t o) at) ∙ e in
        elim (grows.keeps t n at) [
          | inl same ↦ ap (λ o. under_at (under types' k) t o) same ∙ step n down here
          | inr u ↦ absurd (undefined_end n u at here)
        ]

fields_at_keep : (types types' : List Node) → Grows types types' → (p : ℕ) (fs : List Field) → struct_fields (slice_get types p) ≡ Some fs → struct_fields (slice_get types' p) ≡ Some fs
fields_at_keep types types' grows p fs e = by (slice_get types p) refl e
  where
    not_undefined : (n : Node) → is_undefined n → struct_fields (Some n) ≡ Some fs → ⊥
    not_undefined (nodes.struct name (Some gs)) u e = u
    not_undefined n u e = cc

    by : (o : Option Node) → slice_get types p ≡ o → struct_fields (slice_get types p) ≡ Some fs → struct_fields (slice_get types' p) ≡ Some fs
    by None at e = let none : None ≡ Some fs = sym (ap struct_fields at) ∙ e in cc
    by (Some n) at e = elim (grows.keeps p n at) [
      | inl same ↦ ap struct_fields (same ∙ sym at) ∙ e
      | inr u ↦ absurd (not_undefined n u (sym (ap struct_fields at) ∙ e))
    ]

-- the type under and its fields, where a type has fields
pub fields_under : (types : List Node) (t : ℕ) (fs : List Field) → fields_of types t ≡ Some fs → (p : ℕ) × (under_of types t ≡ Some p) × (struct_fields (slice_get types p) ≡ Some fs)
unfolding fields_of
fields_under types t fs e = by (under_of types t) refl e
  where
    by : (o : Option ℕ) → under_of types t ≡ o → option_and_then (λ p. struct_fields (slice_get types p)) o ≡ Some fs → (p : ℕ) × (under_of types t ≡ Some p) × (struct_fields (slice_get types p) ≡ Some fs)
    by None u e = cc
    by (Some p) u e = (p, u, e)

pub fields_from : (types : List Node) (t p : ℕ) → under_of types t ≡ Some p → fields_of types t ≡ struct_fields (slice_get types p)
unfolding fields_of
fields_from types t p e = ap (λ o. option_and_then (λ p. struct_fields (slice_get types p)) o) e

pub no_fields : (types : List Node) (t : ℕ) → under_of types t ≡ None → fields_of types t ≡ None
unfolding fields_of
no_fields types t e = ap (λ o. option_and_then (λ p. struct_fields (slice_get types p)) o) e

pub fields_keep : (types types' : List Node) → Grows types types' → (t : ℕ) (fs : List Field) → fields_of types t ≡ Some fs → fields_of types' t ≡ Some fs
fields_keep types types' grows t fs e =
    let u = fields_under types t fs e in
    fields_from types' t u.0 (under_enough types' (length types) t u.0 (fields_step types types' grows fs (length types) t u.0 u.1 u.2)) ∙ fields_at_keep types types' grows u.0 fs u.2

-- a node tells a layout that it told before
pub node_keeps : (types types' : List Node) (f g : ℕ → Option Layout) → Grows types types' → Extends f g → (n : Node) → height_of_node types' n ≡ height_of_node types n → (l : Layout) → layout_of_node types f n ≡ Some l → layout_of_node types' g n ≡ Some l
node_keeps types types' f g grows k (nodes.pointer to) h l e = ap (λ x. Some (scalar 8 x)) h ∙ e
node_keeps types types' f g grows k (nodes.slice of) h l e = ap (λ x. Some (words 2 x)) h ∙ e
node_keeps types types' f g grows k (nodes.dynamic of) h l e = ap (λ x. Some (words 5 x)) h ∙ e
node_keeps types types' f g grows k (nodes.procedure convention ps rs) h l e = ap (λ x. Some (scalar 8 x)) h ∙ e
node_keeps types types' f g grows k (nodes.array n of) h l e = map_keeps (array n) (f of.index) (g of.index) (k.keeps of.index) l e
node_keeps types types' f g grows k (nodes.soa (Fixed n) of) h l e =
    then_keeps (columns f (Some n)) (columns g (Some n)) (fields_of types of.index) (fields_of types' of.index) (fields_keep types types' grows of.index) (columns_keep f g k (Some n)) l e
node_keeps types types' f g grows k (nodes.soa Slice of) h l e =
    map_keeps (λ fs. words (length fs + 1) (height_of_node types' (nodes.soa Slice of))) _ _ (fields_keep types types' grows of.index) l (ap (λ x. option_map (λ fs. words (length fs + 1) x) (fields_of types of.index)) h ∙ e)
node_keeps types types' f g grows k (nodes.soa Dyn of) h l e =
    map_keeps (λ fs. words (length fs + 4) (height_of_node types' (nodes.soa Dyn of))) _ _ (fields_keep types types' grows of.index) l (ap (λ x. option_map (λ fs. words (length fs + 4) x) (fields_of types of.index)) h ∙ e)
node_keeps types types' f g grows k (nodes.struct name (Some fs)) h l e = columns_keep f g k None fs l e
node_keeps types types' f g grows k (nodes.union name (Some vs)) h l e =
    map_keeps union _ _ (all_keep (λ (x : TyId). f x.index) (λ (x : TyId). g x.index) (record { keeps = λ x. k.keeps x.index }) vs) l e
node_keeps types types' f g grows k (nodes.distinct name (Some b)) h l e = map_keeps distinct (f b.index) (g b.index) (k.keeps b.index) l e
node_keeps types types' f g grows k (nodes.struct name None) h l e = e
node_keeps types types' f g grows k (nodes.union name None) h l e = e
node_keeps types types' f g grows k (nodes.enum name base None) h l e = e
node_keeps types types' f g grows k (nodes.enum name base (Some es)) h l e = e
node_keeps types types' f g grows k (nodes.distinct name None) h l e = e
node_keeps types types' f g grows k nodes.truth h l e = e
node_keeps types types' f g grows k (nodes.integer w) h l e = e
node_keeps types types' f g grows k nodes.rune h l e = e
node_keeps types types' f g grows k nodes.text h l e = e
node_keeps types types' f g grows k nodes.rawptr h l e = e

undefined_has_none : (types : List Node) (f : ℕ → Option Layout) (n : Node) (l : Layout) → is_undefined n → layout_of_node types f n ≡ Some l → ⊥
undefined_has_none types f (nodes.struct name None) l u e = cc
undefined_has_none types f (nodes.union name None) l u e = cc
undefined_has_none types f (nodes.enum name base None) l u e = cc
undefined_has_none types f (nodes.distinct name None) l u e = cc
undefined_has_none types f (nodes.struct name (Some fs)) l u e = u
undefined_has_none types f (nodes.union name (Some vs)) l u e = u
undefined_has_none types f (nodes.enum name base (Some es)) l u e = u
undefined_has_none types f (nodes.distinct name (Some b)) l u e = u
undefined_has_none types f n l u e = u

at_keeps : (types types' : List Node) (f g : ℕ → Option Layout) → Grows types types' → Extends f g → (o o' : Option Node) → ((n : Node) → o ≡ Some n → (o' ≡ Some n) ⊎ is_undefined n) → ((n : Node) → o ≡ Some n → height_of_node types' n ≡ height_of_node types n) →
    (l : Layout) → option_and_then (layout_of_node types f) o ≡ Some l → option_and_then (layout_of_node types' g) o' ≡ Some l
at_keeps types types' f g grows k None o' ks hs l e = cc
at_keeps types types' f g grows k (Some n) o' ks hs l e =
    elim (ks n refl) [
      | inl same ↦ ap (λ o. option_and_then (layout_of_node types' g) o) same ∙ node_keeps types types' f g grows k n (hs n refl) l e
      | inr u ↦ absurd (undefined_has_none types f n l u e)
    ]

-- in a table that has grown, each layout is as it was
pub layout_grows : (types types' : List Node) → Grows types types' → (k : ℕ) → Extends (layout types k) (layout types' k)
layout_grows types types' grows zero = record { keeps = λ t l e. cc }
layout_grows types types' grows (suc k) = record { keeps = λ t l e. at_keeps types types' (layout types k) (layout types' k) grows (layout_grows types types' grows k) (slice_get types t) (slice_get types' t) (grows.keeps t) (grows.heights t) l e }

pub same_table : (types : List Node) → Grows types types
same_table types = record { keeps = λ t n e. inl e; heights = λ t n e. refl }

-- one more level changes no layout
pub deeper : (types : List Node) (k : ℕ) → Extends (layout types k) (layout types (suc k))
deeper types zero = record { keeps = λ t l e. cc }
deeper types (suc k) = record { keeps = λ t l e. at_keeps types types (layout types k) (layout types (suc k)) (same_table types) (deeper types k) (slice_get types t) (slice_get types t) ((same_table types).keeps t) ((same_table types).heights t) l e }

outside : (types : List Node) (k t : ℕ) → length types ≤ t → layout types k t ≡ None
outside types zero t past = refl
outside types (suc k) t past = ap (λ o. option_and_then (layout_of_node types (layout types k)) o) (slice_get_past types t past)

unfolding_of : (types : List Node) → IsUnfolding (length types) (layout types)
unfolding_of types = record {
  deeper = deeper types;
  outside = outside types;
  next = λ k e. (let unfolded : (ℕ → Option Layout) → ℕ → Option Layout = λ f t. option_and_then (layout_of_node types f) (slice_get types t) in ap unfolded e);
}

-- as many levels as there are types are enough
pub enough : (types : List Node) (k t : ℕ) (l : Layout) → layout types k t ≡ Some l → layout_of types t ≡ Some l
enough types k t l e = enough_levels (length types) (layout types) (unfolding_of types) k t l e

-- the layout of a type is that of its node over the layouts of its parts
pub layout_unfolds : (types : List Node) (t : ℕ) (n : Node) → slice_get types t ≡ Some n → layout_of types t ≡ layout_of_node types (layout_of types) n
layout_unfolds types t n e = ap (λ (f : ℕ → Option Layout). f t) (last_level (length types) (layout types) (unfolding_of types)) ∙ ap (λ o. option_and_then (layout_of_node types (layout_of types)) o) e

-- the type under a type is in the table
pub under_there : (types : List Node) (k t p : ℕ) → under types k t ≡ Some p → (n : Node) × (slice_get types p ≡ Some n)
under_there types zero t p e = cc
under_there types (suc k) t p e = by (slice_get types t) refl e (λ b u. under_there types k b p u)
  where
    here : (n : Node) → slice_get types t ≡ Some n → Some t ≡ Some p → (n : Node) × (slice_get types p ≡ Some n)
    here n at e = let same : t ≡ p = cc in (n, ap (λ x. slice_get types x) (sym same) ∙ at)

    step : (n : Node) → slice_get types t ≡ Some n → under_at (under types k) t (Some n) ≡ Some p → ((b : ℕ) → under types k b ≡ Some p → (n : Node) × (slice_get types p ≡ Some n)) → (n : Node) × (slice_get types p ≡ Some n)
    step (nodes.distinct name (Some b)) at e down = down b.index e
    step (nodes.distinct name None) at e down = here (nodes.distinct name None) at e
    step n at e down = here n at e

    by : (o : Option Node) → slice_get types t ≡ o → under_at (under types k) t (slice_get types t) ≡ Some p → ((b : ℕ) → under types k b ≡ Some p → (n : Node) × (slice_get types p ≡ Some n)) → (n : Node) × (slice_get types p ≡ Some n)
    by None at e down = let none : None ≡ Some p = sym (ap (λ o. under_at (under types k) t o) at) ∙ e in cc
    by (Some n) at e down = step n at (sym (ap (λ o. under_at (under types k) t o) at) ∙ e) down

pub under_found : (types : List Node) (t p : ℕ) → under_of types t ≡ Some p → (n : Node) × (slice_get types p ≡ Some n)
under_found types t p e = under_there types (length types) t p e

-- a type and the type under it have the same fields
pub under_layout : (types : List Node) (k t p : ℕ) (l : Layout) → under types k t ≡ Some p → layout_of types t ≡ Some l → (m : Layout) × (layout_of types p ≡ Some m) × (fields_in l ≡ fields_in m)
under_layout types zero t p l e h = cc
under_layout types (suc k) t p l e h = by (slice_get types t) refl e (λ b base u at. under_layout types k b p base u at)
  where
    here : Some t ≡ Some p → (m : Layout) × (layout_of types p ≡ Some m) × (fields_in l ≡ fields_in m)
    here e = let same : t ≡ p = cc in (l, ap (λ x. layout_of types x) (sym same) ∙ h, refl)

    down : (b : TyId) (o : Option Layout) → layout_of types b.index ≡ o → under types k b.index ≡ Some p → option_map distinct o ≡ Some l → ((b : ℕ) (base : Layout) → under types k b ≡ Some p → layout_of types b ≡ Some base → (m : Layout) × (layout_of types p ≡ Some m) × (fields_in base ≡ fields_in m)) → (m : Layout) × (layout_of types p ≡ Some m) × (fields_in l ≡ fields_in m)
    down b None at u e rest = cc
    down b (Some base) at u e rest =
        let is : distinct base ≡ l = cc in
        let found = rest b.index base u at in
        (found.0, found.1, ap fields_in (sym is) ∙ found.2)

    step : (n : Node) → slice_get types t ≡ Some n → under_at (under types k) t (Some n) ≡ Some p → ((b : ℕ) (base : Layout) → under types k b ≡ Some p → layout_of types b ≡ Some base → (m : Layout) × (layout_of types p ≡ Some m) × (fields_in base ≡ fields_in m)) → (m : Layout) × (layout_of types p ≡ Some m) × (fields_in l ≡ fields_in m)
    step (nodes.distinct name (Some b)) at e rest = down b (layout_of types b.index) refl e (sym (layout_unfolds types t (nodes.distinct name (Some b)) at) ∙ h) rest
    step (nodes.distinct name None) at e rest = here e
    step n at e rest = here e

    by : (o : Option Node) → slice_get types t ≡ o → under_at (under types k) t (slice_get types t) ≡ Some p → ((b : ℕ) (base : Layout) → under types k b ≡ Some p → layout_of types b ≡ Some base → (m : Layout) × (layout_of types p ≡ Some m) × (fields_in base ≡ fields_in m)) → (m : Layout) × (layout_of types p ≡ Some m) × (fields_in l ≡ fields_in m)
    by None at e rest = let none : None ≡ Some p = sym (ap (λ o. under_at (under types k) t o) at) ∙ e in cc
    by (Some n) at e rest = step n at (sym (ap (λ o. under_at (under types k) t o) at) ∙ e) rest

sized_under : (types : List Node) (k t : ℕ) (l : Layout) → layout types k t ≡ Some l → (p : ℕ) × (under types k t ≡ Some p)
sized_under types zero t l e = cc
sized_under types (suc k) t l e = by (slice_get types t) refl e (λ b base at. sized_under types k b base at)
  where
    down : (b : TyId) (o : Option Layout) → layout types k b.index ≡ o → option_map distinct o ≡ Some l → ((b : ℕ) (base : Layout) → layout types k b ≡ Some base → (p : ℕ) × (under types k b ≡ Some p)) → (p : ℕ) × (under types k b.index ≡ Some p)
    down b None at e rest = cc
    down b (Some base) at e rest = rest b.index base at

    step : (n : Node) → layout_of_node types (layout types k) n ≡ Some l → ((b : ℕ) (base : Layout) → layout types k b ≡ Some base → (p : ℕ) × (under types k b ≡ Some p)) → (p : ℕ) × (under_at (under types k) t (Some n) ≡ Some p)
    step (nodes.distinct name (Some b)) e rest = down b (layout types k b.index) refl e rest
    step (nodes.distinct name None) e rest = (t, refl)
    step n e rest = (t, refl)

    by : (o : Option Node) → slice_get types t ≡ o → option_and_then (layout_of_node types (layout types k)) (slice_get types t) ≡ Some l → ((b : ℕ) (base : Layout) → layout types k b ≡ Some base → (p : ℕ) × (under types k b ≡ Some p)) → (p : ℕ) × (under_at (under types k) t (slice_get types t) ≡ Some p)
    by None at e rest = let none : None ≡ Some l = sym (ap (λ o. option_and_then (layout_of_node types (layout types k)) o) at) ∙ e in cc
    by (Some n) at e rest =
        let found = step n (sym (ap (λ o. option_and_then (layout_of_node types (layout types k)) o) at) ∙ e) rest in
        (found.0, ap (λ o. under_at (under types k) t o) at ∙ found.1)

-- a type with no type under it has no layout
pub under_nothing : (types : List Node) (t : ℕ) → under_of types t ≡ None → layout_of types t ≡ None
under_nothing types t e = by (layout_of types t) refl
  where
    by : (o : Option Layout) → layout_of types t ≡ o → layout_of types t ≡ None
    by None h = h
    by (Some l) h = let u = sized_under types (length types) t l h in let both : None ≡ Some u.0 = sym e ∙ u.1 in cc

-- as many equal identities
parts_added : (types : List Node) (n : Node) → IsWholeTable types → (ts : List TyId) → AreBelow (length types) ts → identities_of (identity_of (types ++ (n ∷ []))) ts ≡ identities_of (identity_of types) ts
parts_added types n whole [] below = refl
parts_added types n whole (t ∷ ts) below =
    ap (λ i. identities.more i (identities_of (identity_of (types ++ (n ∷ []))) ts)) (identity_added types n whole t.index below.0) ∙ ap (λ is. identities.more (identity_of types t.index) is) (parts_added types n whole ts below.1)

pub height_added : (keys : List Key) (types : List Node) (n : Node) → IsInterned keys types → (m : Node) → HasPartsBelow (length types) m → height_of_node (types ++ (n ∷ [])) m ≡ height_of_node types m
unfolding height_of_node
height_added keys types n table m below = ap (λ is. height (tree (root_of m) is)) (parts_added types n table.whole (counted m) (counted_below (length types) m below))

parts_defined : (types : List Node) (i : ℕ) (again : Node) → IsUndefined types (slice_get types i) again → (ts : List TyId) → identities_of (identity_of (slice_set types i again)) ts ≡ identities_of (identity_of types) ts
parts_defined types i again u [] = refl
parts_defined types i again u (t ∷ ts) =
    ap (λ j. identities.more j (identities_of (identity_of (slice_set types i again)) ts)) (identity_defined types i again u t.index) ∙ ap (λ is. identities.more (identity_of types t.index) is) (parts_defined types i again u ts)

pub height_defined : (types : List Node) (i : ℕ) (again : Node) → IsUndefined types (slice_get types i) again → (m : Node) → height_of_node (slice_set types i again) m ≡ height_of_node types m
unfolding height_of_node
height_defined types i again u m = ap (λ is. height (tree (root_of m) is)) (parts_defined types i again u (counted m))

-- a table with one more type has grown
pub grows_at_end : (keys : List Key) (types : List Node) (n : Node) → IsInterned keys types → Grows types (types ++ (n ∷ []))
grows_at_end keys types n table = record {
  keeps = λ t m e. inl (get_front types (n ∷ []) t m e);
  heights = λ t m e. height_added keys types n table m (table.parts t m e);
}

pub undefined_is : (types : List Node) (n again : Node) → IsUndefined types (Some n) again → is_undefined n
undefined_is types (nodes.struct name None) again u = tt
undefined_is types (nodes.union name None) again u = tt
undefined_is types (nodes.enum name base None) again u = tt
undefined_is types (nodes.distinct name None) again u = tt
undefined_is types (nodes.struct name (Some fs)) again u = u
undefined_is types (nodes.union name (Some vs)) again u = u
undefined_is types (nodes.enum name base (Some es)) again u = u
undefined_is types (nodes.distinct name (Some b)) again u = u
undefined_is types n again u = u

-- a table in which a type got its parts has grown
pub grows_by_parts : (types : List Node) (i : ℕ) (again : Node) → IsUndefined types (slice_get types i) again → Grows types (slice_set types i again)
grows_by_parts types i again u = record {
  keeps = λ t n e. elim (cases_eq t i) [
    | inl same ↦ inr (undefined_is types n again (subst (λ o. IsUndefined types o again) (ap (λ x. slice_get types x) (sym same) ∙ e) u))
    | inr other ↦ inl (get_elsewhere types i t again other ∙ e)
  ];
  heights = λ t n e. height_defined types i again u n;
}

-- what has a size keeps its layout as the table grows
pub keeps_layout : (types types' : List Node) → Grows types types' → (t : ℕ) → HasSize types t → layout_of types' t ≡ layout_of types t
keeps_layout types types' grows t sized = kept_by (layout_of types t) refl sized
  where
    kept_by : (o : Option Layout) → layout_of types t ≡ o → IsSome o → layout_of types' t ≡ o
    kept_by None e s = absurd (none_is_some s)
      where
        none_is_some : IsSome {T = Layout} None → ⊥
        none_is_some s = cc
    kept_by (Some l) e s = enough types' (length types) t l ((layout_grows types types' grows (length types)).keeps t l e)

-- where no level tells a size below 2 to 64
pub no_level : (types : List Node) (t : ℕ) → (HasSize types t → 2 ^ 64 ≤ size_of types t) → (k : ℕ) (l : Layout) → layout types k t ≡ Some l → 2 ^ 64 ≤ size l
no_level types t big k l e = big_by (layout_of types t) (enough types k t l e) big
  where
    big_by : (o : Option Layout) → o ≡ Some l → (IsSome o → 2 ^ 64 ≤ unwrap_or (option_map size o) 0) → 2 ^ 64 ≤ size l
    big_by None e big = cc
    big_by (Some m) e big = let same : m ≡ l = cc in subst (λ x. 2 ^ 64 ≤ size x) same (big refl)

-- nothing was measured: no level tells a size
pub none_measured : (types : List Node) (t : ℕ) → IsMeasured None (layout_of types t) → (k : ℕ) (l : Layout) → layout types k t ≡ Some l → 2 ^ 64 ≤ size l
none_measured types t m k l e = none_by (layout_of types t) (enough types k t l e) m
  where
    none_by : (o : Option Layout) → o ≡ Some l → IsMeasured None o → 2 ^ 64 ≤ size l
    none_by None e m = cc
    none_by (Some x) e m = absurd m

-- a size that isn't held: no level tells one below 2 to 64
pub unheld : (types : List Node) (t : ℕ) (e : Extent) → IsMeasured (Some e) (layout_of types t) → IfNone e.size ((k : ℕ) (l : Layout) → layout types k t ≡ Some l → 2 ^ 64 ≤ size l)
unheld types t e m = unheld_by e.size (layout_of types t) refl m refl
  where
    unheld_by : (s : Option ℕ) (o : Option Layout) → e.size ≡ s → IsMeasured (Some e) o → layout_of types t ≡ o → IfNone s ((k : ℕ) (l : Layout) → layout types k t ≡ Some l → 2 ^ 64 ≤ size l)
    unheld_by (Some n) o q m w = tt
    unheld_by None None q m w = absurd m
    unheld_by None (Some x) q m w = λ k l e'.
        let same : x ≡ l = some_same x l (sym w ∙ enough types k t l e') in
        subst (λ y. 2 ^ 64 ≤ size y) same (subst (λ s. IsHeld s (size x)) q m.size_held)
      where
        some_same : (x l : Layout) → Some x ≡ Some l → x ≡ l
        some_same x l e = cc
