use Rattle.std.proofs.Common.{◌≡◌, take, map}
use Rattle.odc_program.specs.Views.Instances.{need, procedure}
use Rattle.odc_program.specs.Views.ProgramView.{positions}
use Rattle.odc_carried.proofs.tables.needed.Given as goal

abbrev pub invariant-loop-need : goal.invariant-loop-need
invariant-loop-need l = l.all.items ≡ positions (map procedure l.procedures) (map need (take l.need-index l.needs))
