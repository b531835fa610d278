use Rattle.std.proofs.Common.{List, map, refl}
use Rattle.odc_program.specs.declared.program.Local.{Local}
use Rattle.odc_program.specs.Typing.Frames.{variable_bytes}
use Rattle.odc_program.specs.Views.Instances.{local}
use Rattle.odc_limits.specs.Sized.{table}
use Rattle.odc_limits.proofs.Rest.{walked}
use Rattle.odc_limits.proofs.frame.variables_size.Goals as goal

pub returns : goal.returns
returns c = walked (λ (xs : List Local). variable_bytes (table c.args.rows.now) (map local xs)) c.args.list.now c.loop-l.l-index c.loop-l.total refl c.loop-l-test.false c.loop-l.invariant.0 c.loop-l.invariant.1
