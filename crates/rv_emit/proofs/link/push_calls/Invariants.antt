use Rattle.std.proofs.Common.{◌≡◌, ◌++◌, drop}
use Rattle.rv_emit.specs.Blocks.{addresses_of}
use Rattle.rv_emit.proofs.link.push_calls.Given as goal

-- the addresses so far, and those of the positions that are left, are those of all
abbrev pub invariant-loop-mark : goal.invariant-loop-mark
invariant-loop-mark l = l.calls.items ++ addresses_of l.at (drop l.mark-index l.marks) ≡ l.initial.calls.items ++ addresses_of l.at l.marks
