use Rattle.std.proofs.Common.{refl}
use Rattle.odc_store.proofs.Slots.{opened_there}
use Rattle.odc_store.proofs.store.Store.open_at.Goals as goal

pub returns : goal.returns
returns c = opened_there c.self.inside.slots.items c.args.self.now c.args.at c.index.result.now _ c.args.bytes _ c.self.view_is c.requires c.index.ensures refl refl refl
