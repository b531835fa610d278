use Rattle.std.proofs.Common.{◌≡◌, ◌+◌, ◌*◌}
use Rattle.std.specs.Prelude.{take}
use Rattle.odc_program.specs.Trees.Tree as tree
use Rattle.odc_program.specs.Views.StmtView.{maybe_stmt, stmts, cases, type_cases}
use Rattle.odc_program.specs.Views.Sizes.{stmt_size, maybe_stmt_size, stmts_size, cases_size, type_cases_size}
use Rattle.odc_typed_tree.specs.Joined.{with_cases, with_type_cases}
use Rattle.odc_typed_tree.proofs.copy_stmt.+copies_of_stmts.Given as goal

abbrev pub decreases-copy_stmt : goal.decreases-copy_stmt
decreases-copy_stmt l = 2 * stmt_size l.s.now

abbrev pub decreases-copy_optional_stmt : goal.decreases-copy_optional_stmt
decreases-copy_optional_stmt l = 2 * maybe_stmt_size (maybe_stmt l.s.now) + 1

abbrev pub decreases-copy_stmts : goal.decreases-copy_stmts
decreases-copy_stmts l = 2 * stmts_size (stmts l.list.now)

abbrev pub decreases-copy_case : goal.decreases-copy_case
decreases-copy_case l = 2 * stmts_size (stmts l.case.now.body.items) + 1

abbrev pub decreases-copy_cases : goal.decreases-copy_cases
decreases-copy_cases l = 2 * cases_size (cases l.list.now)

abbrev pub decreases-copy_type_case : goal.decreases-copy_type_case
decreases-copy_type_case l = 2 * stmts_size (stmts l.case.now.body.items) + 1

abbrev pub decreases-copy_type_cases : goal.decreases-copy_type_cases
decreases-copy_type_cases l = 2 * type_cases_size (type_cases l.list.now)

abbrev pub invariant-copy_stmts-loop-s : goal.invariant-copy_stmts-loop-s
invariant-copy_stmts-loop-s l = l.copies.items ≡ take l.s-index l.list

abbrev pub invariant-copy_cases-loop-case : goal.invariant-copy_cases-loop-case
invariant-copy_cases-loop-case l = (rest : tree.Cases) → with_cases l.copies.items rest ≡ with_cases (take l.case-index l.list) rest

abbrev pub invariant-copy_type_cases-loop-case : goal.invariant-copy_type_cases-loop-case
invariant-copy_type_cases-loop-case l = (rest : tree.TypeCases) → with_type_cases l.copies.items rest ≡ with_type_cases (take l.case-index l.list) rest
