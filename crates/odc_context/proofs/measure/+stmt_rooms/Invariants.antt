use Rattle.std.proofs.Common.{◌≡◌, ◌+◌, drop}
use Rattle.odc_typed.specs.Frame.{stmts_room}
use Rattle.odc_typed.specs.View.{stmts}
use Rattle.odc_context.proofs.measure.+stmt_rooms.Given as goal

-- what is counted, and what the rest adds, is the whole
abbrev pub invariant-room_in_all-loop-s : goal.invariant-room_in_all-loop-s
invariant-room_in_all-loop-s l = l.total + stmts_room (stmts (drop l.s-index l.ss)) ≡ stmts_room (stmts l.ss)
