use Rattle.odc_lex.proofs.StretchLemmas.{no_raw_begins}
use Rattle.odc_lex.proofs.stretch.raw_len.Goals as goal

pub between_len-requires : goal.between_len-requires
between_len-requires c = no_raw_begins
