use Rattle.std.proofs.Common.{map, take}
use Rattle.rv_table.specs.Areas.{shape, IsApartFrom}
use Rattle.rv_machine.proofs.memory.is_apart_from.Given as goal

abbrev pub invariant-loop-other : goal.invariant-loop-other
invariant-loop-other l = IsApartFrom (shape l.region) (map shape (take l.other-index l.others))
