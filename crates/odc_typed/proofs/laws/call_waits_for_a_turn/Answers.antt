use Rattle.odc_typed.proofs.Turns.{call_waits}
use Rattle.odc_typed.proofs.laws.call_waits_for_a_turn.Goals as goal

pub returns : goal.returns
returns c = λ ps n f vs base s e. call_waits ps n f vs base s e
