use Rattle.std.proofs.Common.{refl, None}
use Rattle.odc_store.proofs.Slots.{set_open}
use Rattle.odc_store.proofs.store.Store.end.Goals as goal

pub returns : goal.returns
returns c = set_open c.self.inside.slots.items c.args.self.now c.args.b c.index_mut.result.now _ None c.self.view_is c.requires c.index_mut.ensures.value refl
