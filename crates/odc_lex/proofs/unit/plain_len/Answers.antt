use Rattle.std.proofs.Common.{sym, ◌∙◌}
use Rattle.odc_lex.proofs.CharacterLemmas.{character_absent}
use Rattle.odc_lex.proofs.unit.plain_len.Goals as goal

pub returns-else-is_item_of : goal.returns-else-is_item_of
returns-else-is_item_of c = character_absent _ _ _ c.in_ok-first.ensures.some (sym c.is_item_of.ensures ∙ c.if-is_item_of.false)
