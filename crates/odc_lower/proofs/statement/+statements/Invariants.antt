use Rattle.std.proofs.Common.{◌≡◌, ◌+◌, ◌*◌, ◌≤◌, ◌++◌, drop, length, map}
use Rattle.odc_core.specs.View.{stmts}
use Rattle.odc_lower.specs.Plain.{plain}
use Rattle.odc_lower.specs.Size.{stmts_nodes}
use Rattle.odc_lower.specs.Code.{stmts_code}
use Rattle.odc_lower.proofs.statement.+statements.Given as goal

-- what is emitted, and the steps of the statements that are left, are the steps of all
abbrev pub invariant-emit_stmts-loop-s : goal.invariant-emit_stmts-loop-s
invariant-emit_stmts-loop-s l = record {
  code : map plain l.steps.items ++ stmts_code l.d l.exits (length l.steps.items) (stmts (drop l.s-index l.ss))
      ≡ map plain l.initial.steps.items ++ stmts_code l.d l.exits (length l.initial.steps.items) (stmts l.ss);
  place : length l.steps.items + 45 * stmts_nodes (stmts (drop l.s-index l.ss)) ≤ length l.initial.steps.items + 45 * stmts_nodes (stmts l.ss);
}
