use Rattle.std.proofs.Common.{List, arith, rules, ap, sym, ◌∙◌}
use Rattle.odc_program.specs.declared.tree.Case.{Case}
use Rattle.odc_program.specs.declared.tree.TypeCase.{TypeCase}
use Rattle.odc_program.specs.Trees.Tree as tree
use Rattle.odc_typed_tree.specs.Joined.{with_cases, with_type_cases}
use Rattle.odc_typed_tree.proofs.Elements.{stmt_falls, case_falls, type_case_falls}
use Rattle.odc_typed_tree.proofs.Cases.{cases_joined, case_copied, all_taken, types_joined, type_copied, all_types_taken}
use Rattle.odc_typed_tree.proofs.copy_stmt.+copies_of_stmts.Goals as goal

-- src/copy_stmt.rt
pub copy_stmts-copy_stmt-requires : goal.copy_stmts-copy_stmt-requires
copy_stmts-copy_stmt-requires t c = (omega (arith, stmt_falls c.args.list.now c.loop-s.s-index c.s-item.result (search rules) c.s-item.is), tt)

pub copy_cases-copy_case-requires : goal.copy_cases-copy_case-requires
copy_cases-copy_case-requires t c = (omega (arith, case_falls c.args.list.now c.loop-case.case-index c.case-item.result (search rules) c.case-item.is), tt)

pub copy_cases-loop-case-preserved : goal.copy_cases-loop-case-preserved
copy_cases-loop-case-preserved t c = λ rest. ap (λ (xs : List Case). with_cases xs rest) c.in_ok-push.ensures.items ∙
    case_copied c.args.list.now c.loop-case.copies.items c.loop-case.case-index c.case-item.result c.in_ok-copy.copy (search rules) c.case-item.is c.loop-case.invariant c.in_ok-copy.ensures rest

pub copy_cases-returns : goal.copy_cases-returns
copy_cases-returns t c = cases_joined c.loop-case.copies.items ∙ c.loop-case.invariant tree.no_cases ∙ all_taken c.args.list.now c.loop-case.case-index (search rules) tree.no_cases ∙ sym (cases_joined c.args.list.now)

pub copy_type_cases-copy_type_case-requires : goal.copy_type_cases-copy_type_case-requires
copy_type_cases-copy_type_case-requires t c = (omega (arith, type_case_falls c.args.list.now c.loop-case.case-index c.case-item.result (search rules) c.case-item.is), tt)

pub copy_type_cases-loop-case-preserved : goal.copy_type_cases-loop-case-preserved
copy_type_cases-loop-case-preserved t c = λ rest. ap (λ (xs : List TypeCase). with_type_cases xs rest) c.in_ok-push.ensures.items ∙
    type_copied c.args.list.now c.loop-case.copies.items c.loop-case.case-index c.case-item.result c.in_ok-copy.copy (search rules) c.case-item.is c.loop-case.invariant c.in_ok-copy.ensures rest

pub copy_type_cases-returns : goal.copy_type_cases-returns
copy_type_cases-returns t c = types_joined c.loop-case.copies.items ∙ c.loop-case.invariant tree.no_types ∙ all_types_taken c.args.list.now c.loop-case.case-index (search rules) tree.no_types ∙ sym (types_joined c.args.list.now)
