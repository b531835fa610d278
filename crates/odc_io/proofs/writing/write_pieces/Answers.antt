use Rattle.std.proofs.Common.{arith}
use Rattle.std.proofs.lemmas.Result.{err_from_is_err_and}
use Rattle.odc_io.proofs.GrownLemmas.{grown_piece, grown_front}
use Rattle.odc_io.proofs.writing.write_pieces.Goals as goal

pub loop-piece-preserved : goal.loop-piece-preserved
loop-piece-preserved g c = record {
  told = grown_piece _ _ _ c.args.pieces.now c.loop-piece.piece-index c.piece-item.result c.deref.result.now c.loop-piece-test.true c.piece-item.is c.deref.ensures.value c.loop-piece.invariant.told c.in_ok-write_all.ensures.ok;
  later = omega (arith, c.loop-piece.invariant.later, c.write_all.ensures.counted);
}

pub returns-in_err-write_all-clause-err : goal.returns-in_err-write_all-clause-err
returns-in_err-write_all-clause-err g c =
    let p = err_from_is_err_and c.from_residual.result c.from_residual.ensures.1 in
    rw p.1 (grown_front _ _ _ c.args.pieces.now c.loop-piece.piece-index c.piece-item.result c.deref.result.now c.loop-piece-test.true c.piece-item.is c.deref.ensures.value c.loop-piece.invariant.told c.in_err-write_all.ensures.err)
