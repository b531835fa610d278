use Rattle.std.proofs.Common.{◌<◌, length}
use Rattle.types_tests.proofs.tests.pointed.Given as goal

abbrev pub invariant-loop-level : goal.invariant-loop-level
invariant-loop-level l = l.ty.index < length l.table
