use Rattle.std.proofs.Common.{◌+◌, ◌*◌, arith, map}
use Rattle.rv_emit.specs.Blocks.{block, entry_in}
use Rattle.rv_emit.proofs.Tables.{table_more, blocks_next, blocks_fit}
use Rattle.rv_emit.proofs.sizes.entries_of.Goals as goal

pub overflow_mul-next : goal.overflow_mul-next
overflow_mul-next c = omega (arith, blocks_fit c.args.list.now c.loop-b.b-index c.b-item.result c.loop-b-test.true c.b-item.is, c.requires)

pub overflow_add-next : goal.overflow_add-next
overflow_add-next c = omega (arith, c.loop-b.invariant.1, blocks_fit c.args.list.now c.loop-b.b-index c.b-item.result c.loop-b-test.true c.b-item.is, c.requires)

pub loop-b-preserved : goal.loop-b-preserved
loop-b-preserved c =
    let bs = c.args.list.now in (
      table_more _ _ c.loop-b.b-index c.loop-b.next (entry_in (map block bs)) c.loop-b.invariant.0 c.loop-b.invariant.1 c.in_ok-push.ensures.items,
      omega (arith, c.loop-b.invariant.1, blocks_next bs c.loop-b.b-index c.b-item.result c.loop-b-test.true c.b-item.is),
    )
