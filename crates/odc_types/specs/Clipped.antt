-- How the code holds what it measures.
use Rattle.std.specs.Prelude.{◌≡◌, ℕ, List, slice_get, unwrap_or, ◌^◌, ◌<◌, ◌≤◌, Option, Some, None}
use Rattle.odc_types.specs.declared.extent.Extent.{Extent}
use Rattle.odc_types.specs.Layout.{Layout, size, align, depth}
use Rattle.odc_types.specs.Heights.{clipped}

-- a size is held where it is below 2 to 64
abbrev pub IsHeld : Option ℕ → ℕ → Type 0
IsHeld None n = 2 ^ 64 ≤ n
IsHeld (Some m) n = (m ≡ n) × (n < 2 ^ 64)

-- an extent is that of a layout
pub record IsExtent (e : Extent) (l : Layout) : Type 0 where
  pub size_held : IsHeld e.size (size l)
  pub aligned : e.align ≡ align l
  pub positive : 0 < e.align
  pub deep : e.depth ≡ clipped (depth l)

-- there is an extent where there is a layout, and it is that of the layout
abbrev pub IsMeasured : Option Extent → Option Layout → Type 0
IsMeasured None None = Unit {0}
IsMeasured None (Some l) = ⊥
IsMeasured (Some e) None = ⊥
IsMeasured (Some e) (Some l) = IsExtent e l

-- what is kept of a type
abbrev pub kept_at : List (Option Extent) → ℕ → Option Extent
kept_at extents t = unwrap_or (slice_get extents t) None

-- the extents that are kept are those of these layouts
pub record AreKept (extents : List (Option Extent)) (part : ℕ → Option Layout) : Type 0 where
  pub each : (t : ℕ) → IsMeasured (kept_at extents t) (part t)
