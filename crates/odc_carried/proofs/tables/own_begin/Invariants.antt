use Rattle.std.proofs.Common.{◌≡◌, ◌≤◌, drop, length}
use Rattle.odc_carried.specs.Code.{highest}
use Rattle.odc_carried.proofs.tables.own_begin.Given as goal

-- the highest of those from here on
abbrev pub invariant-loop-i : goal.invariant-loop-i
invariant-loop-i l = record { inside : l.i ≤ length l.variables; most : l.most ≡ highest (drop l.i l.variables) }

abbrev pub decreases-loop-i : goal.decreases-loop-i
decreases-loop-i l = l.i
