-- A shift and a mask read the field.
use Rattle.rv_table.proofs.Fields.{read}
use Rattle.rv_table.proofs.bits.Bits.read.Goals as goal

pub returns : goal.returns
returns g c = read g.row.HI g.row.LO c.args.word c.requires.ordered c.requires.inside
