use Rattle.std.proofs.Common.{◌++◌, arith, ap, refl, map, length, ℕ}
use Rattle.rv_emit.specs.Blocks.{block, blocks, all_code, entry_in}
use Rattle.rv_emit.proofs.Linkable.{blocks_counted, few_all_sites}
use Rattle.rv_emit.proofs.link.fill_blocks.Goals as goal

pub loop-block-init : goal.loop-block-init
loop-block-init c =
    let u = blocks c.args.b.now in (
      ap (λ (n : ℕ). c.args.code.now.items ++ all_code (entry_in u.list) u.addresses n u.list) c.requires.none,
      (refl, (omega (arith, c.requires.none, c.requires.can.short, few_all_sites (length u.list) (length u.addresses) u.list c.requires.can.blocks), blocks_counted c.args.b.now.list.items (length u.addresses) c.requires.can.blocks)),
    )
