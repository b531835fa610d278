-- Size and alignment of a type, where it has a size and is within the limits.
use Rattle.std.specs.Prelude.{ℕ, ◌^◌, nat_lt, nat_le, if◌then◌else◌, Option, Some, None, Result, Ok, Err}
use Rattle.odc_types.specs.declared.limits.SizeAlign.{SizeAlign}
use Rattle.odc_types.specs.declared.limits.LayoutError.{LayoutError}
use Rattle.odc_types.specs.declared.limits.LayoutError.TheVariants.{NoSize, TooDeep, TooLarge, Overflow}
use Rattle.odc_types.specs.Layout.{Layout, size, align, depth}

abbrev pub answer_by : Layout → Result SizeAlign LayoutError
answer_by l =
    if nat_lt 200 (depth l) then Err TooDeep
    else if nat_le (2 ^ 64) (size l) then Err Overflow
    else if nat_lt (2 ^ 20) (size l) then Err (TooLarge (size l))
    else Ok (record { size = size l; align = align l })

-- at most 200 levels, and at most 1 MiB; what is too deep is that, however large
abbrev pub within_limits : Option Layout → Result SizeAlign LayoutError
within_limits None = Err NoSize
within_limits (Some l) = answer_by l
