use Rattle.std.proofs.Common.{sym, ◌∙◌}
use Rattle.odc_lex.proofs.CharacterLemmas.{first_found, first_absent}
use Rattle.odc_lex.proofs.character.first_character.Goals as goal

pub returns-in-Some-default-clause-some : goal.returns-in-Some-default-clause-some
returns-in-Some-default-clause-some c = first_found _ _ _ (sym c.in-Some-default.is-0 ∙ c.decode.ensures.char) c.decode.ensures.size

pub returns-in-None-default-clause-none : goal.returns-in-None-default-clause-none
returns-in-None-default-clause-none c = first_absent _ (sym c.in-None-default.is-0 ∙ c.decode.ensures.char)
