use Rattle.std.proofs.Common.{take, length, All, ◌<◌, ◌≡◌}
use Rattle.odc_types.specs.Holds.{HasMarked}
use Rattle.odc_types.proofs.holds.mark_all.Given as goal

abbrev pub invariant-loop-t : goal.invariant-loop-t
invariant-loop-t l = HasMarked (take l.t-index l.types) l.fn.marks.items l.marks.items l.fn.todo.items l.todo.items
