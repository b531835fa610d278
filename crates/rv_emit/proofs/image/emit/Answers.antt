use Rattle.rv_emit.proofs.Items.{found_of, item_can, item_frame, item_low, block_more}
use Rattle.rv_emit.proofs.image.emit.Goals as goal

pub emit_block-requires-clause-can : goal.emit_block-requires-clause-can
emit_block-requires-clause-can c =
    item_can c.args.p.now c.requires.well c.requires.slots c.requires.short c.loop-q.q-index c.q-item.result
    (found_of c.args.p.now c.deref-q-items.result.now c.deref-q-items.ensures.value c.loop-q.q-index c.q-item.result c.loop-q-test.true c.q-item.is)

pub emit_block-requires-clause-frame : goal.emit_block-requires-clause-frame
emit_block-requires-clause-frame c =
    item_frame c.args.p.now c.requires.well c.requires.slots c.requires.short c.loop-q.q-index c.q-item.result
    (found_of c.args.p.now c.deref-q-items.result.now c.deref-q-items.ensures.value c.loop-q.q-index c.q-item.result c.loop-q-test.true c.q-item.is)

pub emit_block-requires-clause-low : goal.emit_block-requires-clause-low
emit_block-requires-clause-low c =
    item_low c.args.p.now c.requires.well c.requires.slots c.requires.short c.loop-q.q-index c.q-item.result
    (found_of c.args.p.now c.deref-q-items.result.now c.deref-q-items.ensures.value c.loop-q.q-index c.q-item.result c.loop-q-test.true c.q-item.is)

pub loop-q-preserved : goal.loop-q-preserved
loop-q-preserved c =
    block_more c.loop-q.list.items _ c.in_ok-emit_block.field-0 c.args.p.now.procedures.items c.deref-q-items.result.now c.loop-q.q-index c.q-item.result c.deref-q-items.ensures.value c.loop-q-test.true c.q-item.is
    c.in_ok-push.ensures.items c.in_ok-emit_block.ensures c.loop-q.invariant
