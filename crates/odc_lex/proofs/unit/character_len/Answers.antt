use Rattle.std.proofs.Common.{sym, ◌∙◌}
use Rattle.odc_lex.proofs.CharacterLemmas.{character_absent}
use Rattle.odc_lex.proofs.unit.character_len.Goals as goal

pub returns-else-is_character_of : goal.returns-else-is_character_of
returns-else-is_character_of c = character_absent _ _ _ c.in_ok-first.ensures.some (sym c.is_character_of.ensures ∙ c.if-is_character_of.false)
