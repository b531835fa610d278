use Rattle.std.proofs.Common.{refl, Some, ◌∙◌, ap}
use Rattle.odc_store.specs.Blocks.{content, bytes_of}
use Rattle.odc_store.proofs.Slots.{on_ok_patch, set_open, open_bytes, some_by}
use Rattle.odc_store.proofs.store.Store.patch.Goals as goal

pub returns-clause-ok : goal.returns-clause-ok
returns-clause-ok c =
    let stands = some_by (content c.args.self.now c.args.a.block) _ c.requires in
    let bytes = open_bytes c.self.inside.slots.items c.args.self.now c.args.a.block c.index_mut.result.now c.self.view_is stands c.index_mut.ensures.value in
    on_ok_patch c.patch.result _ c.in-Open.there c.patch.new.self c.args.bytes.now c.args.a.offset _ c.args.self.now c.args.a.block.slot c.args.a.block.generation (bytes ∙ ap bytes_of c.in-Open.is) (set_open c.self.inside.slots.items c.args.self.now c.args.a.block c.index_mut.result.now _ (Some c.patch.new.self) c.self.view_is stands c.index_mut.ensures.value refl) c.patch.ensures.ok
