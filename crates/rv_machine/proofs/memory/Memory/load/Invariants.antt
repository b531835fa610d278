use Rattle.std.proofs.Common.{◌≡◌, map, take}
use Rattle.rv_table.specs.Run.{area_of}
use Rattle.rv_machine.specs.Image.{range_of}
use Rattle.rv_machine.proofs.memory.Memory.load.Given as goal

abbrev pub invariant-loop-range : goal.invariant-loop-range
invariant-loop-range l = l.regions.items ≡ map area_of (map range_of (take l.range-index l.ranges.items))
