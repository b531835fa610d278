use Rattle.std.proofs.Common.{◌+◌, length}
use Rattle.odc_types.specs.Nodes.{nodes}
use Rattle.odc_types.specs.Holds.{unmarked}
use Rattle.odc_types.proofs.HoldsLaws.{IsMarking}
use Rattle.odc_types.proofs.holds.held.Given as goal

abbrev pub invariant-loop-t : goal.invariant-loop-t
invariant-loop-t l = IsMarking (nodes l.types) l.roots l.marks.items l.todo.items

abbrev pub decreases-loop-t : goal.decreases-loop-t
decreases-loop-t l = unmarked l.marks.items + length l.todo.items
