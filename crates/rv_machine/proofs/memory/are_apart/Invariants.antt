use Rattle.std.proofs.Common.{◌≤◌, length, map, drop}
use Rattle.rv_table.specs.Areas.{shape, AreApart}
use Rattle.rv_machine.proofs.memory.are_apart.Given as goal

abbrev pub invariant-loop-at : goal.invariant-loop-at
invariant-loop-at l = record {
  within : l.at ≤ length l.regions;
  apart : AreApart (map shape (drop l.at l.regions));
}

abbrev pub decreases-loop-at : goal.decreases-loop-at
decreases-loop-at l = l.at
