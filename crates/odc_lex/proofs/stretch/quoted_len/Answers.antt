use Rattle.odc_lex.proofs.StretchLemmas.{no_item_begins}
use Rattle.odc_lex.proofs.stretch.quoted_len.Goals as goal

pub between_len-requires : goal.between_len-requires
between_len-requires c = no_item_begins
