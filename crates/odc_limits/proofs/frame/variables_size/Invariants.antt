use Rattle.std.proofs.Common.{◌≡◌, ◌+◌, ◌^◌, ◌<◌, map, drop}
use Rattle.odc_program.specs.Typing.Frames.{variable_bytes}
use Rattle.odc_program.specs.Views.Instances.{local}
use Rattle.odc_limits.specs.Sized.{capped, table}
use Rattle.odc_limits.proofs.frame.variables_size.Given as goal

abbrev pub invariant-loop-l : goal.invariant-loop-l
invariant-loop-l l = (l.total < 2 ^ 64) × (capped (l.total + variable_bytes (table l.rows) (map local (drop l.l-index l.list))) ≡ capped (variable_bytes (table l.rows) (map local l.list)))
