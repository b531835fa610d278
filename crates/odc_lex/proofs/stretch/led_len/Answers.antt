use Rattle.odc_lex.proofs.StretchLemmas.{led_found}
use Rattle.odc_lex.proofs.stretch.led_len.Goals as goal

pub returns-in-Some : goal.returns-in-Some
returns-in-Some c = led_found _ _ _ _ _ c.in-Some.ensures c.run_len.ensures
