use Rattle.std.proofs.Common.{◌≡◌, ◌≤◌, false, drop, length}
use Rattle.odc_program.specs.Views.View.{exprs}
use Rattle.odc_carried.specs.Carried.{is_any_loud}
use Rattle.odc_carried.proofs.operands.loud_until.Given as goal

abbrev pub invariant-loop-until : goal.invariant-loop-until
invariant-loop-until l = record { inside : l.until ≤ length l.es; quiet : is_any_loud (exprs (drop l.until l.es)) ≡ false }

abbrev pub decreases-loop-until : goal.decreases-loop-until
decreases-loop-until l = l.until
