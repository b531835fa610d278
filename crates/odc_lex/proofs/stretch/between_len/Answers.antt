use Rattle.odc_lex.proofs.StretchLemmas.{between_found, between_lost}
use Rattle.odc_lex.proofs.stretch.between_len.Goals as goal

pub returns-then-begins_with : goal.returns-then-begins_with
returns-then-begins_with c = between_found _ _ c.requires _ c.if-not-begins_with.ensures.yes _ c.run_len-len.ensures c.if-begins_with.ensures.yes

pub returns-else-begins_with : goal.returns-else-begins_with
returns-else-begins_with c = between_lost _ _ c.requires _ c.if-not-begins_with.ensures.yes _ c.run_len-len.ensures c.if-begins_with.ensures.no
