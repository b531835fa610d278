use Rattle.std.proofs.Common.{refl}
use Rattle.odc_syntax.specs.lexical.Texts.{is_plain_rune}
use Rattle.odc_lex.proofs.StretchLemmas.{one_found, one_lost, one_absent}
use Rattle.odc_lex.proofs.stretch.rune_len.Goals as goal

pub returns-then-begins_with : goal.returns-then-begins_with
returns-then-begins_with c = one_found is_plain_rune refl _ _ c.if-not-begins_with.ensures.yes _ c.in-Some.ensures c.if-begins_with.ensures.yes

pub returns-else-begins_with : goal.returns-else-begins_with
returns-else-begins_with c = one_lost is_plain_rune refl _ _ c.if-not-begins_with.ensures.yes _ c.in-Some.ensures c.if-begins_with.ensures.no

pub returns-in-None : goal.returns-in-None
returns-in-None c = one_absent is_plain_rune refl _ _ c.if-not-begins_with.ensures.yes c.in-None.ensures
