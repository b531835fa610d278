use Rattle.std.proofs.Common.{length, refl}
use Rattle.rv_emit.specs.Blocks.{blocks}
use Rattle.rv_emit.proofs.Linkable.{entry_fits, address_fits}
use Rattle.rv_emit.proofs.link.fill_hole.Goals as goal

pub emit_number-requires : goal.emit_number-requires
emit_number-requires c =
    entry_fits (blocks c.args.b.now) c.requires.can (length c.args.b.now.list.items) (length c.args.b.now.addresses.items) c.args.entries.now c.requires.entries c.args.hole.own c.args.hole.kind c.in-Procedure.is c.requires.named

pub emit_number-requires-in-Address : goal.emit_number-requires-in-Address
emit_number-requires-in-Address c =
    address_fits (blocks c.args.b.now) c.requires.can (length c.args.b.now.list.items) c.args.hole.own c.args.hole.kind c.in-Address.is c.requires.named c.index.result.now c.index.ensures
