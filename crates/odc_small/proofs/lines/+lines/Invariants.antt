use Rattle.std.proofs.Common.{◌+◌, ◌-◌, ◌*◌, length}
use Rattle.odc_typed.specs.View.{stmts}
use Rattle.odc_small.specs.Progress.{reached, around_by}
use Rattle.odc_small.specs.View.{callable}
use Rattle.odc_small.proofs.BlockLemmas.{LinesSoFar}
use Rattle.odc_small.proofs.lines.+lines.Given as goal

abbrev pub decreases-block_at : goal.decreases-block_at
decreases-block_at l = 4 * l.room

abbrev pub decreases-nest_at : goal.decreases-nest_at
decreases-nest_at l = 4 * l.room + 1

abbrev pub decreases-line_at : goal.decreases-line_at
decreases-line_at l = 4 * l.room + 2

abbrev pub invariant-block_at-lines : goal.invariant-block_at-lines
invariant-block_at-lines l =
    LinesSoFar (around_by (callable l.callable) l.parameters) (l.room - 1) (reached l.initial.state) (reached l.state) l.bytes l.rest (stmts l.body.items)

abbrev pub decreases-block_at-lines : goal.decreases-block_at-lines
decreases-block_at-lines l = length l.rest
