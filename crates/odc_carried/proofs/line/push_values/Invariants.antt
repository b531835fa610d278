use Rattle.std.proofs.Common.{◌≡◌, ◌+◌, ◌-◌}
use Rattle.odc_core.specs.View.{stmts}
use Rattle.odc_carried.specs.Code.{join, values_code}
use Rattle.odc_carried.specs.View.{shown}
use Rattle.odc_carried.proofs.line.push_values.Given as goal

-- what is emitted, and the code of the values that are left, is the code of all
abbrev pub invariant-loop-i : goal.invariant-loop-i
invariant-loop-i l = join (stmts l.code.items) (values_code (shown l.o) (l.d + l.i) (l.count - l.i)) ≡ join (stmts l.initial.code.items) (values_code (shown l.o) l.d l.count)
