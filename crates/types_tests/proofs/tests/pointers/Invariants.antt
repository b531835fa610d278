use Rattle.std.proofs.Common.{◌<◌, length}
use Rattle.types_tests.proofs.tests.pointers.Given as goal

abbrev pub invariant-loop : goal.invariant-loop
invariant-loop l = l.to.index < length l.table
