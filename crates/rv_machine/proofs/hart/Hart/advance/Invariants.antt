use Rattle.rv_machine.specs.Hart.{Advances}
use Rattle.rv_machine.proofs.hart.Hart.advance.Given as goal

abbrev pub invariant-loop-done : goal.invariant-loop-done
invariant-loop-done l = Advances l.done l.initial.self l.self
