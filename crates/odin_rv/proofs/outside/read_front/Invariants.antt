use Rattle.std.proofs.Common.{◌≡◌, ◌≤◌, IfOk, IfSome, vec_len, ℕ, ◌+◌, ◌-◌, ◌*◌, ◌<◌, length}
use Rattle.odc_io.specs.Counts.{next_count, Rose}
use Rattle.odc_io.specs.declared.traits.FolderError.{FolderError as Fault}
use Rattle.odin_rv.proofs.outside.read_front.Given as goal

abbrev pub invariant-loop : goal.invariant-loop
invariant-loop l = vec_len l.front ≤ l.initial.limit
