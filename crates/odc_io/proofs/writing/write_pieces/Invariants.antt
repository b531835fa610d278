use Rattle.std.proofs.Common.{take, ◌≡◌, ◌≤◌}
use Rattle.odc_io.specs.Streams.{grown, concatenated}
use Rattle.odc_io.proofs.writing.write_pieces.Given as goal

abbrev pub invariant-loop-piece : goal.invariant-loop-piece
invariant-loop-piece g l = record {
  told : g.K.Sink.written l.sink ≡ grown (g.K.Sink.written l.initial.sink) (concatenated (take l.piece-index l.pieces));
  later : g.K.Sink.faults l.initial.sink ≤ g.K.Sink.faults l.sink;
}
