use Rattle.std.proofs.Common.{arith, rules, List, ap, refl}
use Rattle.odc_program.specs.declared.tree.Case.{Case}
use Rattle.odc_program.specs.declared.tree.TypeCase.{TypeCase}
use Rattle.odc_program.specs.Trees.Tree as tree
use Rattle.odc_program.specs.Typing.Frames.{stmts_weight, cases_weight, types_weight}
use Rattle.odc_program.specs.Views.StmtView.{stmts, cases, type_cases}
use Rattle.odc_program.specs.Views.Sizes.{stmts_size}
use Rattle.odc_typed_tree.proofs.Elements.{stmt_falls, case_falls, type_case_falls}
use Rattle.odc_limits.specs.Weighed.{weight}
use Rattle.odc_limits.proofs.Cases.{next_type}
use Rattle.odc_limits.proofs.Rest.{walked}
use Rattle.odc_limits.proofs.weigh_stmt.+weights_of_stmts.Goals as goal

pub weigh_stmts-weigh_stmt-requires : goal.weigh_stmts-weigh_stmt-requires
weigh_stmts-weigh_stmt-requires t c = (omega (arith, stmt_falls c.args.list.now c.loop-s.s-index c.s-item.result (search rules) c.s-item.is), tt)

pub weigh_cases-weigh_stmts-body-requires : goal.weigh_cases-weigh_stmts-body-requires
weigh_cases-weigh_stmts-body-requires t c = (omega (arith, ap (λ (xs : List tree.Stmt). stmts_size (stmts xs)) c.as_slice.ensures.value, case_falls c.args.list.now c.loop-case.case-index c.case-item.result (search rules) c.case-item.is), tt)

pub weigh_type_cases-weigh_stmts-requires : goal.weigh_type_cases-weigh_stmts-requires
weigh_type_cases-weigh_stmts-requires t c = (omega (arith, ap (λ (xs : List tree.Stmt). stmts_size (stmts xs)) c.as_slice.ensures.value, type_case_falls c.args.list.now c.loop-case.case-index c.case-item.result (search rules) c.case-item.is), tt)

pub weigh_stmts-returns : goal.weigh_stmts-returns
weigh_stmts-returns t c = walked (λ (xs : List tree.Stmt). stmts_weight (weight c.args.scale.now.unit c.args.scale.now.rows.now) c.args.scale.now.unit (stmts xs)) c.args.list.now c.loop-s.s-index c.loop-s.total refl c.loop-s-test.false c.loop-s.invariant.0
    c.loop-s.invariant.1

pub weigh_cases-returns : goal.weigh_cases-returns
weigh_cases-returns t c = walked (λ (xs : List Case). cases_weight (weight c.args.scale.now.unit c.args.scale.now.rows.now) c.args.scale.now.unit (cases xs)) c.args.list.now c.loop-case.case-index c.loop-case.total refl c.loop-case-test.false c.loop-case.invariant.0
    c.loop-case.invariant.1

pub weigh_type_cases-returns : goal.weigh_type_cases-returns
weigh_type_cases-returns t c = walked (λ (xs : List TypeCase). types_weight (weight c.args.scale.now.unit c.args.scale.now.rows.now) c.args.scale.now.unit (type_cases xs)) c.args.list.now c.loop-case.case-index c.loop-case.total refl c.loop-case-test.false c.loop-case.invariant.0
    c.loop-case.invariant.1

pub weigh_type_cases-loop-case-preserved : goal.weigh_type_cases-loop-case-preserved
weigh_type_cases-loop-case-preserved t c = (
  search rules,
  omega (
    arith,
    c.saturating_add-total.ensures,
    c.weigh_stmts.ensures,
    c.loop-case.invariant.1,
    ap (λ (xs : List tree.Stmt). stmts_weight (weight c.args.scale.now.unit c.args.scale.now.rows.now) c.args.scale.now.unit (stmts xs)) c.as_slice.ensures.value,
    next_type (weight c.args.scale.now.unit c.args.scale.now.rows.now) c.args.scale.now.unit c.args.list.now c.loop-case.case-index c.case-item.result (search rules) c.case-item.is,
  ),
)
