use Rattle.std.proofs.Common.{map, ◌∙◌}
use Rattle.odc_program.specs.Views.Instances.{procedure}
use Rattle.odc_carried.proofs.emitting.Lists.{positions_more}
use Rattle.odc_carried.proofs.tables.needed.Goals as goal

pub loop-need-preserved : goal.loop-need-preserved
loop-need-preserved c =
    positions_more (map procedure c.args.procedures.now) c.args.needs.now c.loop-need.need-index c.need-item.result c.loop-need.all.items c.push.new.self.items c.in_ok-counted.field-0 c.loop-need-test.true c.need-item.is
    c.loop-need.invariant c.in_ok-push.ensures.items (c.in_ok-counted.ensures ∙ c.position.ensures)
