use Rattle.std.proofs.Common.{◌≡◌, ◌+◌, drop}
use Rattle.odc_typed.specs.Frame.{exprs_room}
use Rattle.odc_typed.specs.View.{exprs}
use Rattle.odc_context.proofs.measure.+rooms.Given as goal

-- what is counted, and what the rest adds, is the whole
abbrev pub invariant-room_of_each-loop-e : goal.invariant-room_of_each-loop-e
invariant-room_of_each-loop-e l = l.total + exprs_room (exprs (drop l.e-index l.es)) ≡ exprs_room (exprs l.es)
