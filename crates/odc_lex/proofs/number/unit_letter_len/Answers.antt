use Rattle.odc_lex.specs.Number.{AfterTail}
use Rattle.odc_lex.proofs.NumberFronts.{byte_front, front_weaken}
use Rattle.odc_lex.proofs.number.unit_letter_len.Goals as goal

pub returns : goal.returns
returns c = front_weaken AfterTail _ _ (λ s first. tt) (byte_front _ _ _ _ c.byte_len.ensures c.unwrap_or.ensures)
