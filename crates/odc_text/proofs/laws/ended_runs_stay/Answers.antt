use Rattle.odc_text.proofs.StepLemmas.{stood_stays}
use Rattle.odc_text.proofs.laws.ended_runs_stay.Goals as goal

pub returns : goal.returns
returns c = λ step n m start le o. stood_stays step n m start le o
