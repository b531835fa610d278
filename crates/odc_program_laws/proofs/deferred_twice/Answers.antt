use Rattle.odc_program_laws.proofs.DeferredTwice as l
use Rattle.odc_program_laws.proofs.deferred_twice.Goals as goal

pub returns : goal.returns
returns c = l.kept
