use Rattle.std.proofs.Common.{◌≡◌, drop}
use Rattle.odc_syntax.specs.lexical.Names.{kind_among}
use Rattle.odc_lex.specs.Table.{rows_of}
use Rattle.odc_lex.proofs.table.kind_among.Given as goal

abbrev pub invariant-loop-spelling : goal.invariant-loop-spelling
invariant-loop-spelling l = kind_among (rows_of (drop l.spelling-index l.rows)) l.word ≡ kind_among (rows_of l.rows) l.word
