-- The value fits its field.
use Rattle.rv_table.proofs.Fields.{placed}
use Rattle.rv_table.proofs.bits.Bits.place.Goals as goal

pub returns : goal.returns
returns g c = placed g.row.HI g.row.LO c.args.value c.requires.ordered c.requires.inside c.requires.fits
