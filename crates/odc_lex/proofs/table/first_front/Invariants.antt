use Rattle.std.proofs.Common.{◌≡◌, drop}
use Rattle.odc_lex.specs.Table.{rows_of, first_front}
use Rattle.odc_lex.proofs.table.first_front.Given as goal

abbrev pub invariant-loop-spelling : goal.invariant-loop-spelling
invariant-loop-spelling l = first_front (rows_of (drop l.spelling-index l.rows)) l.text ≡ first_front (rows_of l.rows) l.text
