-- The look-up finds an instruction exactly where some row matches.
use Rattle.rv_table.proofs.Table.{decoded_some}
use Rattle.std.proofs.Common.{◌∙◌}
use Rattle.rv_table.proofs.Apart.{decoded_row}
use Rattle.rv_table.proofs.code.decode.Goals as goal

pub returns-clause-some : goal.returns-clause-some
returns-clause-some c = rw c.decode_opcode.ensures.row (decoded_some c.args.word)

pub returns-clause-each_row : goal.returns-clause-each_row
returns-clause-each_row c = λ r is m. c.decode_opcode.ensures.row ∙ decoded_row r c.args.word is m
