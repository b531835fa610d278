use Rattle.std.proofs.Common.{sym}
use Rattle.odc_program.specs.Views.ProgramView.{program}
use Rattle.odc_carried.specs.TableView.{head_in}
use Rattle.odc_carried.proofs.emitting.Refusals.{target_not}
use Rattle.odc_carried.proofs.refused.is_target.Goals as goal

pub returns-in-len2-up : goal.returns-in-len2-up
returns-in-len2-up c = sym (target_not (program c.args.w.now).tables (head_in c.args.w.now.procedures.items c.args.p.now) c.args.targets.now c.in-len2-up.len_at_least)
