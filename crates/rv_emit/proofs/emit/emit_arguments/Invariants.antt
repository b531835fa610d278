use Rattle.std.proofs.Common.{◌≡◌, ◌++◌, drop}
use Rattle.rv_emit.specs.Code.{arguments_code}
use Rattle.rv_emit.specs.Layout.{AreSlots}
use Rattle.rv_emit.proofs.emit.emit_arguments.Given as goal

-- what is emitted, and the code of the arguments that are left, are the code of all
abbrev pub invariant-loop-t : goal.invariant-loop-t
invariant-loop-t l =
    (l.code.items ++ arguments_code l.frame (drop l.t-index l.arguments) ≡ l.initial.code.items ++ arguments_code l.frame l.initial.arguments) × AreSlots l.frame (drop l.t-index l.arguments)
