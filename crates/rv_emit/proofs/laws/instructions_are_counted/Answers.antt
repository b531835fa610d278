use Rattle.std.proofs.Common.{[]}
use Rattle.rv_emit.proofs.Placed.{block_long}
use Rattle.rv_emit.proofs.laws.instructions_are_counted.Goals as goal

pub returns : goal.returns
returns c = λ p. block_long (λ _. 0) [] 0 0 p
