use Rattle.std.proofs.Common.{rules}
use Rattle.odc_store.proofs.Slots.{free_at}
use Rattle.odc_store.proofs.store.Store.take_free.Goals as goal

pub returns-else-slot-clause-ended : goal.returns-else-slot-clause-ended
returns-else-slot-clause-ended c = free_at c.self.inside.slots.items c.args.self.now c.in_ok-at.at c.index-slot.result.now c.self.view_is (search rules) c.index-slot.ensures (search rules) (search rules)
