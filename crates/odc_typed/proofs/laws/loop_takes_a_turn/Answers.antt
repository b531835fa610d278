use Rattle.odc_typed.proofs.Turns.{loop_takes}
use Rattle.odc_typed.proofs.laws.loop_takes_a_turn.Goals as goal

pub returns : goal.returns
returns c = λ n left test body s t found e. loop_takes n left test body s t found e
