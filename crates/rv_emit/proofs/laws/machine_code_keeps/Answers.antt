use Rattle.rv_emit.proofs.simulation.Begin.{keeps}
use Rattle.rv_emit.proofs.laws.machine_code_keeps.Goals as goal

pub returns : goal.returns
returns c = λ p entries text sites calls well slots emitted input bytes. keeps p well slots entries text sites calls emitted input bytes
