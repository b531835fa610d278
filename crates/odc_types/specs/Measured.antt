-- A table that keeps the extents of its types, and of each type without one the type that it waits for.
use Rattle.std.specs.Prelude.{Result, Ok, Err, get_or, ◌≡◌, ◌≤◌, ◌<◌, ℕ, ◌⊎◌, ◌+◌, List, [], ◌∷◌, ◌++◌, Option, Some, None, Contains, length, map, slice_get, slice_set, sum_by, unwrap_or}
use Rattle.odc_types.specs.declared.ty.TyId.{TyId}
use Rattle.odc_types.specs.declared.ty.Field.{Field}
use Rattle.odc_types.specs.declared.ty.SoaForm.{SoaForm}
use Rattle.odc_types.specs.declared.ty.SoaForm.TheVariants.{Fixed}
use Rattle.odc_types.specs.declared.extent.Extent.{Extent}
use Rattle.odc_types.specs.declared.measure.Missing.{Missing}
use Rattle.odc_types.specs.declared.waiter.Waiter.{Waiter}
use Rattle.odc_types.specs.declared.waiter.Waiters.{Waiters}
use Rattle.odc_types.specs.Nodes as nodes
use Rattle.odc_types.specs.Nodes.{Node}
use Rattle.odc_types.specs.Parts.{HasPartsBelow}
use Rattle.odc_types.specs.declared.key.Key.{Key}
use Rattle.odc_types.specs.Interned.{IsInterned}
use Rattle.odc_types.specs.Heights.{clipped, height_of_node, AreHeights}
use Rattle.odc_types.specs.Layout.{Layout, layout_of, fields_of, struct_fields, under_of}
use Rattle.odc_types.specs.Clipped.{IsMeasured, kept_at, AreKept}

-- a type without its parts
abbrev pub is_undefined : Node → Type 0
is_undefined (nodes.struct name None) = Unit {0}
is_undefined (nodes.union name None) = Unit {0}
is_undefined (nodes.enum name base None) = Unit {0}
is_undefined (nodes.distinct name None) = Unit {0}
is_undefined _ = ⊥

abbrev pub types_of : List Field → List TyId
types_of fs = map (λ f. f.ty) fs

-- the parts by value
abbrev pub values : List Node → Node → List TyId
values types (nodes.array count of) = of ∷ []
values types (nodes.soa (Fixed count) of) = types_of (unwrap_or (fields_of types of.index) [])
values types (nodes.struct name (Some fs)) = types_of fs
values types (nodes.union name (Some vs)) = vs
values types (nodes.distinct name (Some b)) = b ∷ []
values types _ = []

-- the type p, one without a size or without parts, is why a type has no size yet
pub data IsBlocked (types : List Node) (extents : List (Option Extent)) (t : ℕ) (n : Node) (p : ℕ) : Type 0 where
  lacks : is_undefined n → p ≡ t → IsBlocked types extents t n p
  part : (id : TyId) → Contains (values types n) id → id.index ≡ p → kept_at extents p ≡ None → IsBlocked types extents t n p
  record_of : (form : SoaForm) (of : TyId) → n ≡ nodes.soa form of → under_of types of.index ≡ Some p → struct_fields (slice_get types p) ≡ None → IsBlocked types extents t n p
  endless : (form : SoaForm) (of : TyId) → n ≡ nodes.soa form of → under_of types of.index ≡ None → p ≡ of.index → IsBlocked types extents t n p

-- the fields of a type aren't known, since those of p aren't, or there is no end of distinct types
abbrev pub IsFieldless : List Node → ℕ → ℕ → Type 0
IsFieldless types t p = ((under_of types t ≡ Some p) × (struct_fields (slice_get types p) ≡ None)) ⊎ ((under_of types t ≡ None) × (p ≡ t))

-- a distinct type has this base
abbrev pub IsBase : Node → TyId → Type 0
IsBase (nodes.distinct name (Some b)) base = b ≡ base
IsBase _ base = ⊥

-- the types that wait for one
abbrev pub list_of : Option Waiters → List Waiter
list_of None = []
list_of (Some w) = w.list.items

abbrev pub waiters_at : List Waiters → ℕ → List Waiter
waiters_at waiters p = list_of (slice_get waiters p)

-- a type is on the list of those that wait for p
pub record Waits (waiters : List Waiters) (p t : ℕ) : Type 0 where
  pub at : ℕ
  pub waiter : Waiter
  pub there : slice_get (waiters_at waiters p) at ≡ Some waiter
  pub is : waiter.ty.index ≡ t

-- lists that only got longer
pub record AreLonger (old new : List Waiters) : Type 0 where
  pub keeps : (p at : ℕ) (w : Waiter) → slice_get (waiters_at old p) at ≡ Some w → slice_get (waiters_at new p) at ≡ Some w

-- a type waits for what it is blocked by
pub record IsWaiting (types : List Node) (extents : List (Option Extent)) (waiters : List Waiters) (t : ℕ) (n : Node) : Type 0 where
  pub part : ℕ
  pub blocked : IsBlocked types extents t n part
  pub waits : Waits waiters part t

pub record IsMeasuredTable (types : List Node) (extents : List (Option Extent)) (waiters : List Waiters) : Type 0 where
  pub same : length extents ≡ length types
  pub lists : length waiters ≡ length types
  pub kept : AreKept extents (layout_of types)
  pub waits : (t : ℕ) (n : Node) → slice_get types t ≡ Some n → kept_at extents t ≡ None → IsWaiting types extents waiters t n

-- each extent that is kept is that of its type's layout
pub record IsSound (types : List Node) (extents : List (Option Extent)) : Type 0 where
  pub sound : (t : ℕ) (e : Extent) → kept_at extents t ≡ Some e → IsMeasured (Some e) (layout_of types t)

abbrev pub only : Option Extent → Option Layout → Option Layout
only None l = None
only (Some e) l = l

-- the layouts of the types whose extents are kept
abbrev pub seen : List Node → List (Option Extent) → ℕ → Option Layout
seen types extents t = only (kept_at extents t) (layout_of types t)

abbrev pub gap : Option Extent → ℕ
gap None = 1
gap (Some e) = 0

-- how many extents aren't kept
abbrev pub gaps : List (Option Extent) → ℕ
gaps extents = sum_by gap extents

-- one more extent may be kept, and then its type is the last of the list
pub data IsTold (old new : List (Option Extent)) (before after : List TyId) (t : TyId) : Type 0 where
  nothing : new ≡ old → after ≡ before → IsTold old new before after t
  told : (e : Extent) → t.index < length old → kept_at old t.index ≡ None → new ≡ slice_set old t.index (Some e) → after ≡ before ++ (t ∷ []) → IsTold old new before after t

-- a type is in a list from an index on
pub record IsListed (fresh : List TyId) (from : ℕ) (u : ℕ) : Type 0 where
  pub at : ℕ
  pub id : TyId
  pub there : slice_get fresh at ≡ Some id
  pub past : from ≤ at
  pub is : id.index ≡ u

-- extents were kept of the listed types alone, which had none
pub record AreTold (old new : List (Option Extent)) (fresh : List TyId) : Type 0 where
  pub same : length new ≡ length old
  pub count : gaps new + length fresh ≡ gaps old
  pub had_none : (u : ℕ) → IsListed fresh 0 u → kept_at old u ≡ None
  pub each : (u : ℕ) → (kept_at new u ≡ kept_at old u) ⊎ ((kept_at old u ≡ None) × IsListed fresh 0 u)

-- what is still to be looked at: all that waits for a type of the list from an index on, and for the type k from the at-th to the last
pub data IsPending (fresh : List TyId) (done k at last p x : ℕ) : Type 0 where
  listed : IsListed fresh done p → IsPending fresh done k at last p x
  here : p ≡ k → at ≤ x → x < last → IsPending fresh done k at last p x

-- a type waits for what it is blocked by, or will be looked at
pub record IsStanding (types : List Node) (extents : List (Option Extent)) (waiters : List Waiters) (fresh : List TyId) (done k at last : ℕ) (t : ℕ) (n : Node) : Type 0 where
  pub part : ℕ
  pub waits : Waits waiters part t
  pub stands : IsBlocked types extents t n part ⊎ IsPending fresh done k at last part waits.at

-- what a type waits for that was looked at for an event at the type `event`
pub record IsAnswered (types : List Node) (extents : List (Option Extent)) (waiters : List Waiters) (event t : ℕ) (n : Node) : Type 0 where
  pub part : ℕ
  pub blocked : IsBlocked types extents t n part
  pub waits : (part ≡ event) ⊎ Waits waiters part t

-- what measuring rests on: how high types are, and that their parts are in the table
pub record IsFounded (types : List Node) (heights : List ℕ) : Type 0 where
  pub same : length heights ≡ length types
  pub high : (t : ℕ) (n : Node) → slice_get types t ≡ Some n → get_or heights t 0 ≡ clipped (height_of_node types n)
  pub parts : (t : ℕ) (n : Node) → slice_get types t ≡ Some n → HasPartsBelow (length types) n

-- a new type is on the list of p, which is another's or the new type's own
pub data IsEntered (waiters : List Waiters) (list : List Waiter) (p t : ℕ) : Type 0 where
  in_other : Waits waiters p t → IsEntered waiters list p t
  in_own : (w : Waiter) → p ≡ t → list ≡ w ∷ [] → w.ty.index ≡ t → IsEntered waiters list p t

-- what was found of a type
abbrev pub extent_in : Result Extent Missing → Option Extent
extent_in (Ok e) = Some e
extent_in (Err m) = None

-- so far in telling what is known to those that wait for it
pub record IsSpreading (types : List Node) (begun extents : List (Option Extent)) (waiters : List Waiters) (fresh : List TyId) (done k at last : ℕ) : Type 0 where
  pub told : AreTold begun extents fresh
  pub sound : IsSound types extents
  pub within : done ≤ length fresh
  pub stands : (t : ℕ) (n : Node) → slice_get types t ≡ Some n → kept_at extents t ≡ None → IsStanding types extents waiters fresh done k at last t n

-- a table, and what it keeps beside its types
pub record IsTable (keys : List Key) (types : List Node) (heights : List ℕ) (extents : List (Option Extent)) (waiters : List Waiters) : Type 0 where
  pub interned : IsInterned keys types
  pub high : AreHeights types heights
  pub measured : IsMeasuredTable types extents waiters
