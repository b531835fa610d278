use Rattle.std.proofs.Common.{◌≡◌, ◌+◌, ◌^◌, ◌<◌, map, drop}
use Rattle.odc_limits.specs.Sized.{capped, table}
use Rattle.odc_program.specs.Typing.Frames.{rounded_sum}
use Rattle.odc_limits.proofs.sizes.rounded_sizes.Given as goal

abbrev pub invariant-loop-ty : goal.invariant-loop-ty
invariant-loop-ty l = (l.total < 2 ^ 64) × (capped (l.total + rounded_sum (table l.rows) (map (λ t. t.index) (drop l.ty-index l.list))) ≡ capped (rounded_sum (table l.rows) (map (λ t. t.index) l.list)))
