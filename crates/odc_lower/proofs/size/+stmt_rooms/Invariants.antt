use Rattle.std.proofs.Common.{◌≡◌, drop}
use Rattle.std.specs.Prelude.{max}
use Rattle.odc_core.specs.View.{stmts}
use Rattle.odc_lower.specs.Size.{stmts_room}
use Rattle.odc_lower.proofs.size.+stmt_rooms.Given as goal

-- the most so far and what the rest needs is what all need
abbrev pub invariant-needs_of_all-loop-s : goal.invariant-needs_of_all-loop-s
invariant-needs_of_all-loop-s l = max l.most (stmts_room (stmts (drop l.s-index l.ss))) ≡ stmts_room (stmts l.ss)
