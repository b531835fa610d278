use Rattle.odc_lex.proofs.UnitLemmas.{item_found, escape_found}
use Rattle.odc_lex.proofs.unit.item_len.Goals as goal

pub returns-in-Some : goal.returns-in-Some
returns-in-Some c = escape_found _ _ _ c.in-Some.ensures

pub returns-in-None : goal.returns-in-None
returns-in-None c = item_found _ _ _ c.in-None.ensures c.plain_len.ensures
