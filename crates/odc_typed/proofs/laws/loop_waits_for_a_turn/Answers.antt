use Rattle.odc_typed.proofs.Turns.{loop_waits}
use Rattle.odc_typed.proofs.laws.loop_waits_for_a_turn.Goals as goal

pub returns : goal.returns
returns c = λ n test body s t found e. loop_waits n test body s t found e
