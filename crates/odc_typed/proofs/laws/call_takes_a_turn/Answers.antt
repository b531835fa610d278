use Rattle.odc_typed.proofs.Turns.{call_takes}
use Rattle.odc_typed.proofs.laws.call_takes_a_turn.Goals as goal

pub returns : goal.returns
returns c = λ ps n f left vs base s e. call_takes ps n f left vs base s e
