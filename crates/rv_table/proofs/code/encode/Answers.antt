-- A word that decodes to the instruction is the one that was made.
use Rattle.rv_table.specs.Table.{decoded}
use Rattle.rv_table.proofs.Table.{one_word}
use Rattle.rv_table.proofs.code.encode.Goals as goal

pub returns-clause-only : goal.returns-clause-only
unfolding decoded
returns-clause-only c = λ word h e. one_word word c.coded.result c.args.inst h c.coded.type_inv e c.coded.ensures
