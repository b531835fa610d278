use Rattle.std.proofs.Common.{◌≡◌, ◌+◌, ◌≤◌, drop}
use Rattle.std.specs.Prelude.{max}
use Rattle.odc_core.specs.View.{exprs}
use Rattle.odc_lower.specs.Size.{exprs_nodes, exprs_room}
use Rattle.odc_lower.proofs.size.+rooms.Given as goal

-- the most so far, and what the rest needs above those that stay, is what all need
abbrev pub invariant-room_of_all-loop-i : goal.invariant-room_of_all-loop-i
invariant-room_of_all-loop-i l = record {
  most : max l.most (exprs_room (exprs (drop l.i l.es)) + l.i) ≡ exprs_room (exprs l.es);
  nodes : l.i + exprs_nodes (exprs (drop l.i l.es)) ≤ exprs_nodes (exprs l.es);
  stay : l.i ≤ l.most;
}
