use Rattle.std.proofs.Common.{List, map, refl}
use Rattle.odc_types.specs.declared.ty.TyId.{TyId}
use Rattle.odc_program.specs.Typing.Frames.{rounded_sum}
use Rattle.odc_limits.specs.Sized.{table}
use Rattle.odc_limits.proofs.Rest.{walked}
use Rattle.odc_limits.proofs.sizes.rounded_sizes.Goals as goal

pub returns : goal.returns
returns c = walked (λ (ts : List TyId). rounded_sum (table c.args.rows.now) (map (λ t. t.index) ts)) c.args.list.now c.loop-ty.ty-index c.loop-ty.total refl c.loop-ty-test.false c.loop-ty.invariant.0 c.loop-ty.invariant.1
