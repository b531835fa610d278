use Rattle.std.proofs.Common.{◌≡◌, suc, ◌+◌, ◌-◌, ◌∙◌, ◌∷◌, refl, sym, ap, length, arith, true, false, inl, inr, max, Some, ◌++◌, [], subst, List, IfOk, IfErr}
use Rattle.odc_syntax.specs.declared.grammar.Level.TheVariants.{Or, And, Comparison, Sum}
use Rattle.odc_syntax.specs.declared.token.TokenKind.TheVariants as kind
use Rattle.odc_syntax.specs.Grammar as g
use Rattle.odc_syntax.specs.Grammar.{chains, inside}
use Rattle.odc_syntax.specs.View.{expr, type, expr_kind as kind_of, fields, types, result_kind, decl, exprs, stmt, stmts, maybe_expr, maybe_type, enumerators, params, signature, header_of, spans, cases, span_of}
use Rattle.odc_syntax.specs.declared.grammar.Use.TheVariants.{Operand}
use Rattle.odc_lookahead.specs.declared.stop.Stop.TheVariants as stop
use Rattle.odc_lookahead.specs.declared.operand.OperandForm.TheVariants as form
use Rattle.odc_lookahead.specs.Exact.{one, Exact, Yes}
use Rattle.odc_lookahead.specs.Forms.{leaf_view}
use Rattle.odc_lookahead.specs.Parts.{arguments, arg_item, high_line}
use Rattle.odc_lookahead.specs.Sets.{continues, starts_suffix, nothing_continues, continues_argument}
use Rattle.odc_parse_expr.specs.Suffixes.{high_of, argument, argument_list}
use Rattle.odc_lookahead.proofs.reading.Samples as sample
use Rattle.odc_lookahead.proofs.reading.Answering.{empty_broken, answer_is, bound_is}
use Rattle.odc_lookahead.proofs.reading.Carrying.{because, because_to, from_token, to_token, to_token_to, at_front, at_front_to, at_zero, found_at, found_from, over_by}
use Rattle.odc_lookahead.proofs.reading.Nesting.{Never, once_chained}
use Rattle.odc_lookahead.proofs.expr.BinaryLemmas.{many_clear, never_clear}
use Rattle.odc_lookahead.proofs.expr.ChainLemmas.{Operators, Comparisons, operators_first, operators_refused, operators_chained, operator_more, operator_refused, operator_deep, operator_none, comparison_first, comparison_refused, comparison_done, chain_at, product_item, tighter_item, no_tighter}
use Rattle.odc_lookahead.proofs.expr.UnaryLemmas.{sign_deep, sign_found, sign_refused, operand_same}
use Rattle.odc_lookahead.proofs.types.CastLemmas.{cast_deep, cast_kind, cast_unopened, cast_type_refused, cast_unclosed, cast_refused, cast_answer}
use Rattle.odc_lookahead.proofs.expr.PostfixEnds.{suffixes_first_to, suffix_over, suffix_more_to, suffix_refused_to, suffix_none_to}
use Rattle.odc_lookahead.proofs.reading.EndLemmas.{found_to, refused_to, to_refused, as_refused, to_found}
use Rattle.odc_lookahead.proofs.expr.FormLemmas.{no_suffix}
use Rattle.odc_lookahead.proofs.expr.SuffixLemmas.{dot_broken}
use Rattle.odc_lookahead.proofs.expr.SuffixAnswers.{select_answer, assert_refused, assert_unclosed, assert_answer, operand_refused, deref_answer, or_return_answer, member_kind, bracket_kind, no_form, call_answer, call_refused, literal_answer, literal_refused, open_cut_answer, open_cut_refused, index_refused, index_answer, index_deep, colon_refused, cut_answer, cut_refused, high_none_answer, high_refused, high_unclosed, high_answer}
use Rattle.odc_lookahead.proofs.expr.ArgLemmas.{signed_argument, signed_refused, plain_argument, plain_refused, named_argument, named_refused}
use Rattle.odc_lookahead.proofs.expr.ArgumentAnswers.{arguments_none, arguments_start, argument_refused, item_read, ended_of, again_of, arguments_answer, arguments_again, arguments_refused}
use Rattle.odc_lookahead.proofs.types.OperandAnswers.{leaf_answer, nothing_broken, operand_deep, dot_answer, dot_refused, group_refused, group_unclosed, group_answer, brace_answer, brace_refused, constructed_found, constructed_refused, type_answer, type_refused, proc_first, no_other}
use Rattle.odc_syntax.specs.Tree as tree
use Rattle.odc_syntax.specs.View as view
use Rattle.odc_lookahead.specs.TypeParts.{length_line, fields_line, types_line, enumerators_line, base_line, params_line, named_line, bare_line, typed_line}
use Rattle.odc_lookahead.proofs.types.ProcPlaces.{proc_place}
use Rattle.odc_lookahead.proofs.types.TypeExits.{ended_by, again_by, because_as, front_as, inside_found, inside_refused, built_same}
use Rattle.odc_lookahead.proofs.expr.TypeStarts.{own_deep, own_kind, built_deep, built_kind, none_built}
use Rattle.odc_lookahead.proofs.types.TypeAnswers.{pointer_answer, pointer_refused, distinct_answer, distinct_refused, proc_answer, proc_refused, word_answer, word_refused, word_missing, group_type_refused, group_type_unclosed, group_type_answer, struct_unopened, struct_refused, struct_answer, union_unopened, union_refused, union_answer}
use Rattle.odc_lookahead.proofs.types.ArrayAnswers.{soa_unopened, bracketed_is, length_refused, element_refused, bracket_answer, counted_unclosed, counted_refused, counted_broken, counted_answer, slice_answer, dynamic_answer, dynamic_refused, fixed_refused, fixed_unclosed, fixed_answer}
use Rattle.odc_lookahead.proofs.types.EnumAnswers.{base_none, base_refused, base_unopened, base_answer, enum_base_refused, enum_refused, enum_answer}
use Rattle.odc_lookahead.proofs.types.FieldAnswers.{field_unnamed, field_refused, field_answer, not_given, given_refused, given_answer, enumerator_unnamed, enumerator_refused, enumerator_answer}
use Rattle.odc_lookahead.proofs.separated.ListAnswers.{item_refused, item_as, list_answer, list_goes_on, list_stuck}
use Rattle.odc_lookahead.proofs.types.TypeLists.{field_list, type_list, enumerator_list, named_list, bare_list, fields_begin, fields_empty, types_begin, types_empty, enumerators_begin, enumerators_empty, named_begin, bare_begin, bare_empty}
use Rattle.odc_lookahead.proofs.types.SignatureAnswers.{no_results, results_empty, results_refused, results_answer, result_refused, result_answer, signature_unopened, signature_refused, signature_results_refused, signature_answer}
use Rattle.odc_lookahead.proofs.params.ParamAnswers as of_params
use Rattle.odc_lookahead.proofs.params.DollarAnswers.{dollar_unnamed, dollar_typeid_answer, dollar_typeid_refused, dollar_int_deep, dollar_int_answer, dollar_int_refused, dollar_untyped}
use Rattle.odc_lookahead.proofs.params.ParamsChoice.{blocked_short}
use Rattle.odc_lookahead.proofs.params.ParamsAnswers.{front_short, params_named, params_bare, params_unnamed, takes_dot, not_empty}
use Rattle.odc_lookahead.proofs.params.ParamsCrossed.{crossed_found}
use Rattle.odc_lookahead.proofs.params.ParamsEnds.{found_near}
use Rattle.odc_lookahead.proofs.params.ParamsExits.{front_at, dollar_named, at_none, crossed_refused, stands, stands_at, brace_no_dot, bodied, body_stopped}
use Rattle.odc_lookahead.proofs.types.ProcedureAnswers as of_procedures
use Rattle.odc_syntax.specs.declared.grammar.Mode.TheVariants as mode
use Rattle.odc_lookahead.specs.declared.statement_form.StatementForm.TheVariants as statement_form
use Rattle.odc_lookahead.proofs.stmts.BlockLemmas.{alone_answer, alone_refused, block_answer, block_refused, body_answer, body_refused, do_answer, do_refused, no_body}
use Rattle.odc_lookahead.proofs.reading.Deciding.{lower_found}
use Rattle.odc_lookahead.proofs.stmts.DeclarationAnswers.{headed_at, typed_behind}
use Rattle.odc_lookahead.proofs.stmts.DeclarationLemmas.{constant_answer, constant_refused, declaration_deep, declaration_names_refused, declaration_no_colon, inferred_answer, inferred_refused, no_declaration}
use Rattle.odc_lookahead.proofs.stmts.DeclarationLemmas as declaring
use Rattle.odc_lookahead.proofs.reading.Depths.{at_depth, at_tokens, found_depth, found_front, refused_depth}
use Rattle.odc_lookahead.proofs.expr.ExprsLemmas.{exprs_answer, exprs_deep, exprs_first, exprs_more_read, exprs_more_refused, exprs_refused}
use Rattle.odc_lookahead.proofs.headers.HeadAnswers.{closed_at, condition_at, condition_is, condition_within, goes_behind}
use Rattle.odc_lookahead.proofs.headers.HeadExpressions.{head_alone, head_clause_refused, head_over, head_single_refused, head_zero}
use Rattle.odc_lookahead.proofs.headers.HeadLemmas.{condition_answer, condition_refused, head_declaration_refused, head_listed_refused, head_unclosed}
use Rattle.odc_lookahead.proofs.headers.HeaderFacts.{expression_at, listed_at, single_at}
use Rattle.odc_lookahead.proofs.headers.IfLemmas.{elif_answer, elif_refused, else_answer, else_over, else_refused, if_alone, if_body_refused, if_deep, if_head_read, if_head_refused, no_if}
use Rattle.odc_lookahead.proofs.stmts.InitialLemmas.{begun_answer, begun_deep, begun_refused, dashes_answer, valued_answer, valued_deep, valued_refused, zeros_answer}
use Rattle.odc_lookahead.proofs.stmts.LeavingLemmas.{return_alone, return_answer, return_refused}
use Rattle.odc_lookahead.proofs.stmts.NamedLemmas.{declare_answer, declare_refused, label_answer, label_refused, named_form}
use Rattle.odc_lookahead.proofs.headers.RunBounds.{head_run_over}
use Rattle.odc_lookahead.proofs.stmts.SimpleAnswers.{assign_answer, assign_over, begins_alone, begins_more, eval_answer, values_refused}
use Rattle.odc_lookahead.proofs.stmts.SimpleLemmas.{simple_refused, simple_zero}
use Rattle.odc_lookahead.proofs.stmts.StatementBounds.{named_over, statement_zero}
use Rattle.odc_lookahead.proofs.stmts.StatementColons.{colon_over, colon_type_refused, named_alone}
use Rattle.odc_parse_expr.proofs.StatementExits.{if_over, if_read, no_block, placed_so, shorter_by, undeclared_exact}
use Rattle.odc_lookahead.proofs.stmts.StatementForms.{named_kind}
use Rattle.odc_lookahead.proofs.stmts.StatementLemmas.{bare_answer, bare_refused, defer_answer, defer_refused, if_same, simple_same, some_stmt}
use Rattle.odc_lookahead.proofs.stmts.StmtsLemmas.{braces_answer, braces_refused, braces_unclosed, skips_end, stmt_read, stmt_refused, stmts_again, stmts_behind, stmts_deep, stmts_end_answer, stmts_last_answer, stmts_start}
use Rattle.odc_lookahead.specs.stmts.BodyParts.{braces_line, head_line}
use Rattle.odc_parse_expr.specs.Conditionals.{head_of}
use Rattle.odc_lookahead.specs.stmts.Headers.{ClosedFrom, begun, closed, declared, evaluated, listed}
use Rattle.odc_lookahead.specs.Read.{refused, seen}
use Rattle.odc_lookahead.specs.stmts.Runs.{NotLabelled}
use Rattle.odc_lookahead.specs.stmts.StatementSets.{continues_declaration, continues_exprs, continues_head, continues_simple, continues_statement, continues_statements}
use Rattle.odc_lookahead.specs.stmts.Statements.{LabelledRead, labelled_part}
use Rattle.odc_syntax.specs.declared.grammar.Mode.TheVariants.{Free, Header}
use Rattle.odc_syntax.specs.declared.token.Token.{Token}
use Rattle.odc_syntax.specs.Tree.{Expr, Stmt}
use Rattle.odc_lookahead.specs.stmts.Headers as header
use Rattle.odc_parse_expr.specs.SwitchForms as switch_forms
use Rattle.odc_lookahead.specs.stmts.SwitchParts.{switch_head, by_value, switched}
use Rattle.odc_lookahead.specs.stmts.SwitchSets.{continues_span, begins_items, continues_cases, before_cases}
use Rattle.odc_lookahead.proofs.loops.SpanLemmas.{span_refused, from_read, span_alone_answer, through_refused, through_answer, through_deep, below_refused, below_answer, below_deep}
use Rattle.odc_lookahead.proofs.switches.ItemLemmas.{items_refused, items_first, items_none_answer, items_more_refused, items_more_read, items_deep, items_answer}
use Rattle.odc_lookahead.proofs.switches.CasesLemmas.{cases_start, case_at, case_deep, case_items_refused, case_items, case_no_colon, case_colon, case_body_refused, case_answer, cases_answer}
use Rattle.odc_lookahead.proofs.switches.SwitchLemmas.{switch_head_refused}
use Rattle.odc_lookahead.proofs.switches.SwitchHeads.{typed_refused, typed_answer, head_none, single_none, single_refused, unnamed_refused}
use Rattle.odc_lookahead.proofs.switches.SwitchValues.{value_alone, value_over, assigned_refused, declared_refused, listed_refused, value_refused, value_answer, value_none, zero_over, zero_alone}
use Rattle.odc_lookahead.proofs.switches.SwitchValues as switch_values
use Rattle.odc_lookahead.proofs.switches.SwitchRuns.{listed_over}
use Rattle.odc_lookahead.proofs.switches.SwitchAnswers.{switch_unopened, switch_cases_refused, switch_unclosed, switch_answer, goes_on_clause, condition_as}
use Rattle.odc_parse_expr.specs.LoopForms as loop_form
use Rattle.odc_lookahead.specs.stmts.Loops.{steps_line, after_line}
use Rattle.odc_lookahead.specs.stmts.RunBounds as run_bound
use Rattle.odc_lookahead.proofs.separated.LastItems as last_items
use Rattle.odc_lookahead.proofs.headers.ListBounds.{run_length}
use Rattle.odc_parse_expr.proofs.LoopExits as loop_exit
use Rattle.odc_parse_expr.proofs.LoopFronts as loop_front
use Rattle.odc_parse_expr.proofs.LoopHeads as loop_head
use Rattle.odc_parse_expr.proofs.+parser.Goals as goal

pub binary::chained-returns-in-Err-clause-exact : goal.binary::chained-returns-in-Err-clause-exact
binary::chained-returns-in-Err-clause-exact t c = λ e. operators_refused c.args.of c.args.mode e c.args.depth c.args.tokens.now c.in-Err.error c.in-Err.ensures.exact

pub binary::chained-loop-op-init : goal.binary::chained-loop-op-init
binary::chained-loop-op-init t c = record {
  led = λ e. operators_first c.args.of c.args.mode e c.args.depth c.args.tokens.now (expr c.in-Ok.read.tree) c.in-Ok.read.height c.in-Ok.read.rest.now c.in-Ok.ensures.exact;
  short = c.in-Ok.ensures.shorter;
  low = c.in-Ok.ensures.low;
}

pub binary::chained-returns-then-height-from-clause-exact : goal.binary::chained-returns-then-height-from-clause-exact
binary::chained-returns-then-height-from-clause-exact t c = λ e.
    because (one (g.chain c.args.of c.args.mode)) (continues c.args.of c.args.mode) c.args.depth c.args.tokens.now (stop.Deep (length c.in-Some.behind.now)) c.discard_expr.result c.discard_expr.ensures
    (operator_deep c.args.of c.args.mode (Operators c.args.of c.args.mode) (Operators c.args.of c.args.mode) (operators_chained c.args.of c.args.mode e) (many_clear c.args.of c.args.mode e)
    c.args.depth c.args.tokens.now (expr c.loop-op.e) c.loop-op.height c.loop-op.rest.now c.in-Some.op c.in-Some.token c.in-Some.behind.now (c.loop-op.invariant.led e) (omega arith)
    (record { is = c.in-Some.ensures.is; op_is = c.in-Some.ensures.op; level_is = c.in-Some.ensures.level }))

pub binary::chained-returns-in-Err-item-clause-exact : goal.binary::chained-returns-in-Err-item-clause-exact
binary::chained-returns-in-Err-item-clause-exact t c = λ e.
    because (one (g.chain c.args.of c.args.mode)) (continues c.args.of c.args.mode) c.args.depth c.args.tokens.now c.in-Err-item.error c.discard_expr-in-Err-item.result c.discard_expr-in-Err-item.ensures
    (operator_refused c.args.of c.args.mode (Operators c.args.of c.args.mode) (Operators c.args.of c.args.mode) (operators_chained c.args.of c.args.mode e) (many_clear c.args.of c.args.mode e)
    c.later.result c.args.depth (c.args.depth - 1) c.args.tokens.now (expr c.loop-op.e) c.loop-op.height c.loop-op.rest.now c.in-Some.op c.in-Some.token c.in-Some.behind.now c.in-Err-item.error
    c.later.ensures (omega arith) (c.loop-op.invariant.led e) (omega arith)
    (record { is = c.in-Some.ensures.is; op_is = c.in-Some.ensures.op; level_is = c.in-Some.ensures.level }) c.in-Err-item.ensures.exact)

pub binary::chained-loop-op-preserved : goal.binary::chained-loop-op-preserved
binary::chained-loop-op-preserved t c = record {
  led = λ e.
      operator_more c.args.of c.args.mode (Operators c.args.of c.args.mode) (Operators c.args.of c.args.mode) (operators_chained c.args.of c.args.mode e) (many_clear c.args.of c.args.mode e)
      c.later.result c.args.depth (c.args.depth - 1) c.args.tokens.now (expr c.loop-op.e) c.loop-op.height c.loop-op.rest.now c.in-Some.op c.in-Some.token c.in-Some.behind.now
      _ c.in-Ok-item.read.height c.in-Ok-item.read.rest.now _ _ c.later.ensures (omega arith) (c.loop-op.invariant.led e) (omega arith)
      (record { is = c.in-Some.ensures.is; op_is = c.in-Some.ensures.op; level_is = c.in-Some.ensures.level }) c.in-Ok-item.ensures.exact c.in-Ok-item.ensures.shorter c.in_ok-e.ensures (omega (arith, c.max-height.ensures));
  short = let longer = ap length c.in-Some.ensures.is in let read = c.in-Ok-item.ensures.shorter in let before = c.loop-op.invariant.short in omega (arith, longer, read, before);
  low = let read = c.in-Ok-item.ensures.low in omega (arith, c.max-height.ensures, read);
}

pub binary::chained-returns-clause-exact : goal.binary::chained-returns-clause-exact
binary::chained-returns-clause-exact t c = λ e.
    operator_none c.args.of c.args.mode (Operators c.args.of c.args.mode) (Operators c.args.of c.args.mode) (operators_chained c.args.of c.args.mode e) (many_clear c.args.of c.args.mode e)
    c.args.depth c.args.tokens.now (expr c.loop-op.e) c.loop-op.height c.loop-op.rest.now (c.loop-op.invariant.led e) c.in_default.ensures.none

pub binary::comparison-returns-in-Err-clause-exact : goal.binary::comparison-returns-in-Err-clause-exact
binary::comparison-returns-in-Err-clause-exact t c = comparison_refused c.args.mode c.args.depth c.args.tokens.now c.in-Err.error c.in-Err.ensures.exact

pub binary::comparison-returns-in-None-clause-exact : goal.binary::comparison-returns-in-None-clause-exact
binary::comparison-returns-in-None-clause-exact t c =
    operator_none Comparison c.args.mode (Comparisons c.args.mode) Never (once_chained c.args.mode) (never_clear c.args.mode) c.args.depth c.args.tokens.now (expr c.in-Ok.read.tree) c.in-Ok.read.height c.in-Ok.read.rest.now
    (comparison_first c.args.mode c.args.depth c.args.tokens.now (expr c.in-Ok.read.tree) c.in-Ok.read.height c.in-Ok.read.rest.now c.in-Ok.ensures.exact) c.in-None.ensures.none

pub binary::comparison-returns-then-height-from-clause-exact : goal.binary::comparison-returns-then-height-from-clause-exact
binary::comparison-returns-then-height-from-clause-exact t c =
    because (one (g.chain Comparison c.args.mode)) (continues Comparison c.args.mode) c.args.depth c.args.tokens.now (stop.Deep (length c.in-Some.found.2.now)) c.discard_expr.result c.discard_expr.ensures
    (operator_deep Comparison c.args.mode (Comparisons c.args.mode) Never (once_chained c.args.mode) (never_clear c.args.mode) c.args.depth c.args.tokens.now (expr c.in-Ok.read.tree) c.in-Ok.read.height c.in-Ok.read.rest.now
    c.in-Some.found.0 c.in-Some.found.1 c.in-Some.found.2.now
    (comparison_first c.args.mode c.args.depth c.args.tokens.now (expr c.in-Ok.read.tree) c.in-Ok.read.height c.in-Ok.read.rest.now c.in-Ok.ensures.exact) (omega arith)
    (record { is = c.in-Some.ensures.is; op_is = c.in-Some.ensures.op; level_is = c.in-Some.ensures.level }))

pub binary::comparison-returns-in_ok-whole-in-Ok-item-clause-exact : goal.binary::comparison-returns-in_ok-whole-in-Ok-item-clause-exact
binary::comparison-returns-in_ok-whole-in-Ok-item-clause-exact t c =
    comparison_done c.args.mode c.args.depth c.args.tokens.now _ _ c.in-Ok-item.field-0.rest.now
    (operator_more Comparison c.args.mode (Comparisons c.args.mode) Never (once_chained c.args.mode) (never_clear c.args.mode)
    c.later.result c.args.depth (c.args.depth - 1) c.args.tokens.now (expr c.in-Ok.read.tree) c.in-Ok.read.height c.in-Ok.read.rest.now
    c.in-Some.found.0 c.in-Some.found.1 c.in-Some.found.2.now (expr c.in-Ok-item.field-0.tree) c.in-Ok-item.field-0.height c.in-Ok-item.field-0.rest.now _ _ c.later.ensures (omega arith)
    (comparison_first c.args.mode c.args.depth c.args.tokens.now (expr c.in-Ok.read.tree) c.in-Ok.read.height c.in-Ok.read.rest.now c.in-Ok.ensures.exact) (omega arith)
    (record { is = c.in-Some.ensures.is; op_is = c.in-Some.ensures.op; level_is = c.in-Some.ensures.level }) c.in-Ok-item.ensures.exact c.in-Ok-item.ensures.shorter
    c.in_ok-whole-in-Ok-item.ensures (omega (arith, c.max.ensures)))

pub binary::comparison-returns-in-Err-item-clause-exact : goal.binary::comparison-returns-in-Err-item-clause-exact
binary::comparison-returns-in-Err-item-clause-exact t c =
    because (one (g.chain Comparison c.args.mode)) (continues Comparison c.args.mode) c.args.depth c.args.tokens.now c.in-Err-item.error c.discard_expr-in-Err-item.result c.discard_expr-in-Err-item.ensures
    (operator_refused Comparison c.args.mode (Comparisons c.args.mode) Never (once_chained c.args.mode) (never_clear c.args.mode)
    c.later.result c.args.depth (c.args.depth - 1) c.args.tokens.now (expr c.in-Ok.read.tree) c.in-Ok.read.height c.in-Ok.read.rest.now
    c.in-Some.found.0 c.in-Some.found.1 c.in-Some.found.2.now c.in-Err-item.error c.later.ensures (omega arith)
    (comparison_first c.args.mode c.args.depth c.args.tokens.now (expr c.in-Ok.read.tree) c.in-Ok.read.height c.in-Ok.read.rest.now c.in-Ok.ensures.exact) (omega arith)
    (record { is = c.in-Some.ensures.is; op_is = c.in-Some.ensures.op; level_is = c.in-Some.ensures.level }) c.in-Err-item.ensures.exact)

pub binary::item-returns-in-Some-clause-exact : goal.binary::item-returns-in-Some-clause-exact
binary::item-returns-in-Some-clause-exact t c = tighter_item c.args.of c.in-Some.next c.args.mode c.args.depth c.args.tokens.now _ (sym c.tighter.ensures.is ∙ c.in-Some.is) c.level.ensures.exact

pub binary::item-returns-in-None-clause-exact : goal.binary::item-returns-in-None-clause-exact
binary::item-returns-in-None-clause-exact t c = product_item c.args.of c.args.mode c.args.depth c.args.tokens.now _ (no_tighter c.args.of (sym c.tighter.ensures.is ∙ c.in-None.is)) c.unary.ensures.exact

pub binary::level-returns-in-Comparison-clause-exact : goal.binary::level-returns-in-Comparison-clause-exact
binary::level-returns-in-Comparison-clause-exact t c = chain_at c.args.level Comparison c.args.mode c.args.depth c.args.tokens.now _ c.in-Comparison.is c.comparison.ensures.exact

-- `unary`, with `cast`
pub unary::unary-returns-in-None-clause-exact : goal.unary::unary-returns-in-None-clause-exact
unary::unary-returns-in-None-clause-exact t c = empty_broken (g.unary c.args.mode) c.in-None.ensures.none sample.expr (λ d v h. h)

pub unary::unary-returns-then-depth-eq0-clause-exact : goal.unary::unary-returns-then-depth-eq0-clause-exact
unary::unary-returns-then-depth-eq0-clause-exact t c = sign_deep c.args.mode c.args.depth c.args.tokens.now c.in-Some.found.0 c.in-Some.found.1.now c.in-Sign.op c.if-depth-eq0.true c.in-Some.ensures.some (sym c.in-Sign.ensures)

pub unary::unary-returns-then-depth-eq0-2-clause-exact : goal.unary::unary-returns-then-depth-eq0-2-clause-exact
unary::unary-returns-then-depth-eq0-2-clause-exact t c = cast_deep c.args.mode c.args.depth c.in-Some.found.0 c.args.tokens.now c.in-Some.found.1.now c.if-depth-eq0-2.true c.in-Some.ensures.some (sym c.in-Cast.ensures)

pub unary::unary-returns-else-depth-eq0-2-clause-exact : goal.unary::unary-returns-else-depth-eq0-2-clause-exact
unary::unary-returns-else-depth-eq0-2-clause-exact t c =
    at_front (one (g.unary c.args.mode)) (starts_suffix c.args.mode) c.args.depth (c.args.depth - 1) c.args.tokens.now c.in-Some.found.0 c.in-Some.found.1.now _ (omega arith) c.in-Some.ensures.some
    (c.cast.ensures.exact (cast_kind c.in-Some.found.0.kind (sym c.in-Cast.ensures)))

pub unary::unary-returns-in-Operand-clause-exact : goal.unary::unary-returns-in-Operand-clause-exact
unary::unary-returns-in-Operand-clause-exact t c = operand_same c.args.mode c.args.depth c.args.tokens.now c.in-Some.found.0 c.in-Some.found.1.now _ c.in-Some.ensures.some (sym c.in-Operand.ensures) c.postfix.ensures.exact

pub unary::unary-returns-in_ok-unary-in-Ok-clause-exact : goal.unary::unary-returns-in_ok-unary-in-Ok-clause-exact
unary::unary-returns-in_ok-unary-in-Ok-clause-exact t c =
    sign_found c.args.mode c.later.result c.args.depth (c.args.depth - 1) c.args.tokens.now c.in-Some.found.0 c.in-Some.found.1.now c.in-Sign.op _ _ c.in-Ok.field-0.height _
    c.later.ensures (omega arith) c.in-Some.ensures.some (sym c.in-Sign.ensures) c.in-Ok.ensures.exact c.in_ok-unary-in-Ok.ensures

pub unary::unary-returns-in-Err-clause-exact : goal.unary::unary-returns-in-Err-clause-exact
unary::unary-returns-in-Err-clause-exact t c =
    sign_refused c.args.mode c.later.result c.args.depth (c.args.depth - 1) c.args.tokens.now c.in-Some.found.0 c.in-Some.found.1.now c.in-Sign.op c.in-Err.error
    c.later.ensures (omega arith) c.in-Some.ensures.some (sym c.in-Sign.ensures) c.in-Err.ensures.exact

pub unary::cast-returns-in-Err-clause-exact : goal.unary::cast-returns-in-Err-clause-exact
unary::cast-returns-in-Err-clause-exact t c = λ e. cast_unopened c.args.mode c.args.depth c.args.token c.args.behind.now c.in-Err.error e c.in-Err.ensures.refused

pub unary::cast-returns-in-Err-ty-clause-exact : goal.unary::cast-returns-in-Err-ty-clause-exact
unary::cast-returns-in-Err-ty-clause-exact t c = λ e.
    cast_type_refused c.args.mode c.args.depth c.args.token c.in-Ok.found.0 c.args.behind.now c.in-Ok.found.1.now c.in-Err-ty.error e c.in-Ok.ensures.is c.in-Ok.ensures.kind c.in-Err-ty.ensures.exact

pub unary::cast-returns-in-Err-expect-clause-exact : goal.unary::cast-returns-in-Err-expect-clause-exact
unary::cast-returns-in-Err-expect-clause-exact t c = λ e.
    because (one (g.unary c.args.mode)) (starts_suffix c.args.mode) (suc c.args.depth) (c.args.token ∷ c.args.behind.now) c.in-Err-expect.error c.discard_type.result c.discard_type.ensures
    (cast_unclosed c.args.mode c.args.depth c.args.token c.args.behind.now (type c.in-Ok-ty.read.tree) c.in-Ok-ty.read.height c.in-Ok-ty.read.rest.now c.in-Err-expect.error _ e
    (record { open_ = c.in-Ok.found.0; inner = c.in-Ok.found.1.now; is = c.in-Ok.ensures.is; kind = c.in-Ok.ensures.kind; found = c.in-Ok-ty.ensures.exact })
    (λ over. over_by _ _ _ c.within.ensures.1 over) c.in-Err-expect.ensures.refused)

pub unary::cast-returns-in_ok-cast-in-Ok-unary-clause-exact : goal.unary::cast-returns-in_ok-cast-in-Ok-unary-clause-exact
unary::cast-returns-in_ok-cast-in-Ok-unary-clause-exact t c = λ e.
    cast_answer c.args.mode c.later.result c.args.depth c.args.token c.args.behind.now (type c.in-Ok-ty.read.tree) c.in-Ok-ty.read.height c.in-Ok-ty.read.rest.now c.in-Ok-expect.found.1.now
    (expr c.in-Ok-unary.field-0.tree) _ c.in-Ok-unary.field-0.height _ c.in-Ok-unary.field-0.rest.now c.later.ensures e
    (record { open_ = c.in-Ok.found.0; inner = c.in-Ok.found.1.now; is = c.in-Ok.ensures.is; kind = c.in-Ok.ensures.kind; found = c.in-Ok-ty.ensures.exact })
    (record { within = c.within.ensures.0 c.in-Ok-expect.ensures.within; close = c.in-Ok-expect.found.0; is = c.in-Ok-expect.ensures.is; kind = c.in-Ok-expect.ensures.kind })
    c.in-Ok-unary.ensures.exact c.in_ok-cast-in-Ok-unary.ensures (omega (arith, c.max.ensures))

pub unary::cast-returns-in-Err-unary-clause-exact : goal.unary::cast-returns-in-Err-unary-clause-exact
unary::cast-returns-in-Err-unary-clause-exact t c = λ e.
    because (one (g.unary c.args.mode)) (starts_suffix c.args.mode) (suc c.args.depth) (c.args.token ∷ c.args.behind.now) c.in-Err-unary.error c.discard_type-in-Err-unary.result c.discard_type-in-Err-unary.ensures
    (cast_refused c.args.mode c.later.result c.args.depth c.args.token c.args.behind.now (type c.in-Ok-ty.read.tree) c.in-Ok-ty.read.height c.in-Ok-ty.read.rest.now c.in-Ok-expect.found.1.now c.in-Err-unary.error c.later.ensures e
    (record { open_ = c.in-Ok.found.0; inner = c.in-Ok.found.1.now; is = c.in-Ok.ensures.is; kind = c.in-Ok.ensures.kind; found = c.in-Ok-ty.ensures.exact })
    (record { within = c.within.ensures.0 c.in-Ok-expect.ensures.within; close = c.in-Ok-expect.found.0; is = c.in-Ok-expect.ensures.is; kind = c.in-Ok-expect.ensures.kind })
    c.in-Err-unary.ensures.exact)

-- what stands behind an operand
pub postfix::postfix-returns-in-Err-clause-exact : goal.postfix::postfix-returns-in-Err-clause-exact
postfix::postfix-returns-in-Err-clause-exact t c = operand_refused c.args.mode c.args.depth c.args.tokens.now c.in-Err.error (to_refused (one (g.operand c.args.mode)) nothing_continues c.args.depth c.args.tokens.now c.in-Err.error c.in-Err.ensures.exact)

pub postfix::postfix-loop-form-init : goal.postfix::postfix-loop-form-init
postfix::postfix-loop-form-init t c = record {
  led = suffixes_first_to c.args.mode c.args.depth c.args.tokens.now (expr c.in-Ok.read.tree) c.in-Ok.read.height c.in-Ok.read.rest.now c.in-Ok.read.end c.in-Ok.ensures.exact;
  short = c.in-Ok.ensures.shorter;
  low = c.in-Ok.ensures.low;
}

pub postfix::postfix-returns-then-height-from-clause-exact : goal.postfix::postfix-returns-then-height-from-clause-exact
postfix::postfix-returns-then-height-from-clause-exact t c =
    because (one (g.postfix c.args.mode)) (starts_suffix c.args.mode) c.args.depth c.args.tokens.now c.over.result c.discard_expr.result c.discard_expr.ensures
    (suffix_over c.args.mode c.args.depth c.args.tokens.now (expr c.loop-form.e) c.loop-form.height c.loop-form.rest.now c.loop-form.end c.in-Some.token c.in-Some.behind.now c.over.result
    c.loop-form.invariant.led (omega arith) c.in-Some.ensures.is c.in-Some.ensures.starts c.over.ensures)

pub postfix::postfix-returns-in-Err-read_suffix-clause-exact : goal.postfix::postfix-returns-in-Err-read_suffix-clause-exact
postfix::postfix-returns-in-Err-read_suffix-clause-exact t c =
    because (one (g.postfix c.args.mode)) (starts_suffix c.args.mode) c.args.depth c.args.tokens.now c.in-Err-read_suffix.error c.discard_expr-in-Err-read_suffix.result c.discard_expr-in-Err-read_suffix.ensures
    (suffix_refused_to c.args.mode c.args.depth (c.args.depth - 1) c.args.tokens.now (expr c.loop-form.e) c.loop-form.height c.loop-form.rest.now c.loop-form.end c.in-Some.token c.in-Some.behind.now c.in-Err-read_suffix.error
    (omega arith) c.loop-form.invariant.led (omega arith) c.in-Some.ensures.is c.in-Some.ensures.starts
    (from_token (one (g.suffix c.args.mode)) (c.args.depth - 1) c.loop-form.rest.now c.in-Some.token c.in-Some.behind.now _ c.in-Some.ensures.is (c.in-Err-read_suffix.ensures.exact c.in-Some.ensures.form c.in-Some.ensures.starts)))

pub postfix::postfix-loop-form-preserved : goal.postfix::postfix-loop-form-preserved
postfix::postfix-loop-form-preserved t c = record {
  led =
      suffix_more_to c.args.mode c.args.depth (c.args.depth - 1) c.args.tokens.now (expr c.loop-form.e) c.loop-form.height c.loop-form.rest.now c.loop-form.end c.in-Some.token c.in-Some.behind.now _ c.in-Ok-read_suffix.read.height c.in-Ok-read_suffix.read.rest.now _ _
      (omega arith) c.loop-form.invariant.led (omega arith) c.in-Some.ensures.is c.in-Some.ensures.starts
      (found_from c.in-Some.token c.in-Some.behind.now c.in-Some.ensures.is (c.in-Ok-read_suffix.ensures.exact c.in-Some.ensures.form c.in-Some.ensures.starts))
      (let longer = ap length c.in-Some.ensures.is in let read = c.in-Ok-read_suffix.ensures.shorter in omega (arith, longer, read)) c.in_ok-e.ensures (omega (arith, c.max-height.ensures));
  short = let longer = ap length c.in-Some.ensures.is in let read = c.in-Ok-read_suffix.ensures.shorter in let before = c.loop-form.invariant.short in omega (arith, longer, read, before);
  low = let read = c.in-Ok-read_suffix.ensures.low in omega (arith, c.max-height.ensures, read);
}

pub postfix::postfix-returns-clause-exact : goal.postfix::postfix-returns-clause-exact
postfix::postfix-returns-clause-exact t c = suffix_none_to c.args.mode c.args.depth c.args.tokens.now (expr c.loop-form.e) c.loop-form.height c.loop-form.rest.now c.loop-form.end c.loop-form.invariant.led (no_suffix c.args.mode c.loop-form.rest.now c.in_default.ensures.none)

pub postfix::read_suffix-returns-in-Deref-clause-exact : goal.postfix::read_suffix-returns-in-Deref-clause-exact
postfix::read_suffix-returns-in-Deref-clause-exact t c = λ k on. deref_answer c.args.mode c.args.depth c.args.token c.args.behind.now c.args.form c.in-Deref.is k

pub postfix::read_suffix-returns-in-OrReturn-clause-exact : goal.postfix::read_suffix-returns-in-OrReturn-clause-exact
postfix::read_suffix-returns-in-OrReturn-clause-exact t c = λ k on. or_return_answer c.args.mode c.args.depth c.args.token c.args.behind.now c.args.form c.in-OrReturn.is k

pub postfix::read_suffix-returns-in-Member-clause-exact : goal.postfix::read_suffix-returns-in-Member-clause-exact
postfix::read_suffix-returns-in-Member-clause-exact t c = λ k on. c.member.ensures.exact (member_kind c.args.mode c.args.token.kind c.args.form c.in-Member.is k)

pub postfix::read_suffix-returns-in-Bracket-clause-exact : goal.postfix::read_suffix-returns-in-Bracket-clause-exact
postfix::read_suffix-returns-in-Bracket-clause-exact t c = λ k on. c.bracket.ensures.exact (bracket_kind c.args.mode c.args.token.kind c.args.form c.in-Bracket.is k)

pub postfix::read_suffix-returns-in-Ok-clause-exact : goal.postfix::read_suffix-returns-in-Ok-clause-exact
postfix::read_suffix-returns-in-Ok-clause-exact t c = λ k on.
    call_answer c.args.mode c.args.depth c.args.token c.args.behind.now c.args.form (argument_list c.in-Ok.field-0.tree) c.in-Ok.field-0.height c.in-Ok.field-0.rest.now c.in-Call.is k (c.in-Ok.ensures.exact (inl refl))

pub postfix::read_suffix-returns-in-Err-clause-exact : goal.postfix::read_suffix-returns-in-Err-clause-exact
postfix::read_suffix-returns-in-Err-clause-exact t c = λ k on. call_refused c.args.mode c.args.depth c.args.token c.args.behind.now c.args.form c.in-Err.error c.in-Call.is k (c.in-Err.ensures.exact (inl refl))

pub postfix::read_suffix-returns-in-Ok-arguments-clause-exact : goal.postfix::read_suffix-returns-in-Ok-arguments-clause-exact
postfix::read_suffix-returns-in-Ok-arguments-clause-exact t c = λ k on.
    literal_answer c.args.mode c.args.depth c.args.token c.args.behind.now c.args.form (argument_list c.in-Ok-arguments.field-0.tree) c.in-Ok-arguments.field-0.height c.in-Ok-arguments.field-0.rest.now c.in-Literal.is k (c.in-Ok-arguments.ensures.exact (inr refl))

pub postfix::read_suffix-returns-in-Err-arguments-clause-exact : goal.postfix::read_suffix-returns-in-Err-arguments-clause-exact
postfix::read_suffix-returns-in-Err-arguments-clause-exact t c = λ k on.
    literal_refused c.args.mode c.args.depth c.args.token c.args.behind.now c.args.form c.in-Err-arguments.error c.in-Literal.is k (c.in-Err-arguments.ensures.exact (inr refl))

pub postfix::read_suffix-returns-in-Nothing-clause-exact : goal.postfix::read_suffix-returns-in-Nothing-clause-exact
postfix::read_suffix-returns-in-Nothing-clause-exact t c = λ k on. absurd (no_form c.args.mode c.args.token.kind c.args.form c.in-Nothing.is k on)

-- an index or a cut
pub postfix::bracket-returns-in-Ok-clause-exact : goal.postfix::bracket-returns-in-Ok-clause-exact
postfix::bracket-returns-in-Ok-clause-exact t c = λ e.
    open_cut_answer c.args.mode c.args.depth c.args.bracket c.in-Some._colon c.args.behind.now c.in-Some.rest.now (high_of c.in-Ok.field-0.tree) c.in-Ok.field-0.height c.in-Ok.field-0.rest.now e c.in-Some.ensures.is c.in-Some.ensures.kind c.in-Ok.ensures.exact

pub postfix::bracket-returns-in-Err-clause-exact : goal.postfix::bracket-returns-in-Err-clause-exact
postfix::bracket-returns-in-Err-clause-exact t c = λ e.
    open_cut_refused c.args.mode c.args.depth c.args.bracket c.in-Some._colon c.args.behind.now c.in-Some.rest.now c.in-Err.error e c.in-Some.ensures.is c.in-Some.ensures.kind c.in-Err.ensures.exact

pub postfix::bracket-returns-in-Err-level-clause-exact : goal.postfix::bracket-returns-in-Err-level-clause-exact
postfix::bracket-returns-in-Err-level-clause-exact t c = λ e. index_refused c.args.mode c.args.depth c.args.bracket c.args.behind.now c.in-Err-level.error e c.in_default.ensures.none c.in-Err-level.ensures.exact

-- the high end of a cut
pub postfix::high-returns-in-Some-clause-exact : goal.postfix::high-returns-in-Some-clause-exact
postfix::high-returns-in-Some-clause-exact t c = high_none_answer c.args.depth c.in-Some.close c.args.tokens.now c.in-Some.rest.now c.in-Some.ensures.is c.in-Some.ensures.kind

pub postfix::high-returns-in-Err-clause-exact : goal.postfix::high-returns-in-Err-clause-exact
postfix::high-returns-in-Err-clause-exact t c = high_refused c.args.depth c.args.tokens.now c.in-Err.error c.in_default.ensures.none c.in-Err.ensures.exact

pub postfix::high-returns-in-Ok-expect-clause-exact : goal.postfix::high-returns-in-Ok-expect-clause-exact
postfix::high-returns-in-Ok-expect-clause-exact t c =
    high_answer c.args.depth c.in-Ok-expect.close c.args.tokens.now (expr c.in-Ok.read.tree) c.in-Ok.read.height c.in-Ok.read.rest.now c.in-Ok-expect.rest.now c.in_default.ensures.none c.in-Ok.ensures.exact (c.within.ensures.0 c.in-Ok-expect.ensures.within)
    c.in-Ok-expect.ensures.is c.in-Ok-expect.ensures.kind

pub postfix::high-returns-in-Err-expect-clause-exact : goal.postfix::high-returns-in-Err-expect-clause-exact
postfix::high-returns-in-Err-expect-clause-exact t c =
    because high_line nothing_continues c.args.depth c.args.tokens.now c.in-Err-expect.error c.discard_expr.result c.discard_expr.ensures
    (high_unclosed c.args.depth c.args.tokens.now (expr c.in-Ok.read.tree) c.in-Ok.read.height c.in-Ok.read.rest.now c.in-Err-expect.error _ c.in_default.ensures.none c.in-Ok.ensures.exact (λ over. over_by _ _ _ c.within.ensures.1 over) c.in-Err-expect.ensures.refused)

pub postfix::bracket-returns-then-n-from-clause-exact : goal.postfix::bracket-returns-then-n-from-clause-exact
postfix::bracket-returns-then-n-from-clause-exact t c = λ e.
    index_answer c.args.mode c.args.depth c.args.bracket c.in-Some-strip._close c.args.behind.now (expr c.in-Ok-level.read.tree) c.in-Ok-level.read.height c.in-Ok-level.read.rest.now c.in-Some-strip.rest.now e c.in_default.ensures.none
    c.in-Ok-level.ensures.exact (omega arith) c.in-Some-strip.ensures.is c.in-Some-strip.ensures.kind

pub postfix::bracket-returns-in-Some-strip-clause-exact : goal.postfix::bracket-returns-in-Some-strip-clause-exact
postfix::bracket-returns-in-Some-strip-clause-exact t c = λ e.
    because (one (g.suffix c.args.mode)) nothing_continues c.args.depth _ _ c.discard_expr.result c.discard_expr.ensures
    (index_deep c.args.mode c.args.depth c.args.bracket c.in-Some-strip._close c.args.behind.now (expr c.in-Ok-level.read.tree) c.in-Ok-level.read.height c.in-Ok-level.read.rest.now c.in-Some-strip.rest.now e c.in_default.ensures.none
    c.in-Ok-level.ensures.exact (omega arith) c.in-Some-strip.ensures.is c.in-Some-strip.ensures.kind)

pub postfix::bracket-returns-in-Err-expect-clause-exact : goal.postfix::bracket-returns-in-Err-expect-clause-exact
postfix::bracket-returns-in-Err-expect-clause-exact t c = λ e.
    because (one (g.suffix c.args.mode)) nothing_continues c.args.depth _ c.in-Err-expect.error c.discard_expr-in-Err-expect.result c.discard_expr-in-Err-expect.ensures
    (colon_refused c.args.mode c.args.depth c.args.bracket c.args.behind.now (expr c.in-Ok-level.read.tree) c.in-Ok-level.read.height c.in-Ok-level.read.rest.now c.in-Err-expect.error _ e c.in_default.ensures.none c.in-Ok-level.ensures.exact
    c.in_default-strip.ensures.none (λ over. over_by _ _ _ c.within.ensures.1 over) c.in-Err-expect.ensures.refused)

pub postfix::bracket-returns-in-Ok-high-clause-exact : goal.postfix::bracket-returns-in-Ok-high-clause-exact
postfix::bracket-returns-in-Ok-high-clause-exact t c = λ e.
    cut_answer c.args.mode c.args.depth c.args.bracket c.in-Ok-expect.found.0 c.args.behind.now (expr c.in-Ok-level.read.tree) c.in-Ok-level.read.height c.in-Ok-level.read.rest.now c.in-Ok-expect.found.1.now (high_of c.in-Ok-high.field-0.tree) c.in-Ok-high.field-0.height c.in-Ok-high.field-0.rest.now
    e c.in_default.ensures.none c.in-Ok-level.ensures.exact (c.within.ensures.0 c.in-Ok-expect.ensures.within) c.in-Ok-expect.ensures.is c.in-Ok-expect.ensures.kind c.in-Ok-high.ensures.exact _ c.max.ensures

pub postfix::bracket-returns-in-Err-high-clause-exact : goal.postfix::bracket-returns-in-Err-high-clause-exact
postfix::bracket-returns-in-Err-high-clause-exact t c = λ e.
    because (one (g.suffix c.args.mode)) nothing_continues c.args.depth _ c.in-Err-high.error c.discard_expr-in-Err-high.result c.discard_expr-in-Err-high.ensures
    (cut_refused c.args.mode c.args.depth c.args.bracket c.in-Ok-expect.found.0 c.args.behind.now (expr c.in-Ok-level.read.tree) c.in-Ok-level.read.height c.in-Ok-level.read.rest.now c.in-Ok-expect.found.1.now c.in-Err-high.error
    e c.in_default.ensures.none c.in-Ok-level.ensures.exact (c.within.ensures.0 c.in-Ok-expect.ensures.within) c.in-Ok-expect.ensures.is c.in-Ok-expect.ensures.kind c.in-Err-high.ensures.exact)

-- arguments
pub arguments::arguments-returns-in-Some-clause-exact : goal.arguments::arguments-returns-in-Some-clause-exact
arguments::arguments-returns-in-Some-clause-exact t c = λ k.
    arguments_none c.args.close k c.args.depth c.in-Some.token c.args.tokens.now c.in-Some.rest.now c.new-args.result.items c.new-args.ensures.items c.in-Some.ensures.is c.in-Some.ensures.kind

pub arguments::arguments-items-init : goal.arguments::arguments-items-init
arguments::arguments-items-init t c = record {
  led = λ k. arguments_start c.args.close k c.args.depth c.args.tokens.now c.new-args.result.items c.new-args.ensures.items c.in_default.ensures.none;
  short = omega arith;
  low = omega arith;
}

pub arguments::arguments-returns-in-Err-clause-exact : goal.arguments::arguments-returns-in-Err-clause-exact
arguments::arguments-returns-in-Err-clause-exact t c = λ k.
    because (arguments c.args.close) nothing_continues c.args.depth c.args.tokens.now c.in-Err.error c.discard_args.result c.discard_args.ensures
    (argument_refused c.args.close k c.args.depth c.args.tokens.now c.items.args.items c.items.height c.items.rest.now c.in-Err.error (c.items.invariant.led k) c.items.invariant.low c.in-Err.ensures.exact)

pub arguments::arguments-returns-in-Some-end-clause-exact : goal.arguments::arguments-returns-in-Some-end-clause-exact
arguments::arguments-returns-in-Some-end-clause-exact t c = λ k.
    arguments_answer c.args.close k c.args.depth c.args.tokens.now c.items.args.items _ c.in-Ok.read.tree _ c.in-Ok.read.rest.now c.in-Some-end.close c.in-Ok-after_item.found.1.now
    (item_read c.args.close k c.args.depth c.args.tokens.now c.items.args.items c.items.height c.items.rest.now (argument c.in-Ok.read.tree) c.in-Ok.read.height _ c.in-Ok.read.rest.now
    (c.items.invariant.led k) c.items.invariant.low c.in-Ok.ensures.exact (omega (arith, c.max-height.ensures)))
    c.in_ok-args.ensures (c.within.ensures.0 c.in-Ok-after_item.ensures.within)
    (ended_of c.args.close c.in-Ok.read.rest.now c.in-Ok-after_item.found.0 c.in-Some-end.close c.in-Ok-after_item.found.1.now c.in-Some-end.is c.in-Ok-after_item.ensures.ended)

pub arguments::arguments-items-preserved : goal.arguments::arguments-items-preserved
arguments::arguments-items-preserved t c = record {
  led = λ k.
      arguments_again c.args.close k c.args.depth c.args.tokens.now c.items.args.items _ c.in-Ok.read.tree _ c.in-Ok.read.rest.now c.in-Ok-after_item.found.1.now
      (item_read c.args.close k c.args.depth c.args.tokens.now c.items.args.items c.items.height c.items.rest.now (argument c.in-Ok.read.tree) c.in-Ok.read.height _ c.in-Ok.read.rest.now
      (c.items.invariant.led k) c.items.invariant.low c.in-Ok.ensures.exact (omega (arith, c.max-height.ensures)))
      c.in_ok-args.ensures (c.within.ensures.0 c.in-Ok-after_item.ensures.within)
      (again_of c.args.close c.in-Ok.read.rest.now c.in-Ok-after_item.found.0 c.in-Ok-after_item.found.1.now c.in-None.is c.in-Ok-after_item.ensures.again);
  short = let read = c.in-Ok.ensures.shorter in let more = c.in-Ok-after_item.ensures.shorter in let before = c.items.invariant.short in omega (arith, read, more, before);
  low = c.within.ensures.0 c.in-Ok-after_item.ensures.within;
}

pub arguments::arguments-returns-in-Err-after_item-clause-exact : goal.arguments::arguments-returns-in-Err-after_item-clause-exact
arguments::arguments-returns-in-Err-after_item-clause-exact t c = λ k.
    because (arguments c.args.close) nothing_continues c.args.depth c.args.tokens.now c.in-Err-after_item.error c.discard_args-in-Err-after_item.result c.discard_args-in-Err-after_item.ensures
    (arguments_refused c.args.close k c.args.depth c.args.tokens.now c.items.args.items (argument c.in-Ok.read.tree) c.max-height.result c.in-Ok.read.rest.now c.in-Err-after_item.error _
    (item_read c.args.close k c.args.depth c.args.tokens.now c.items.args.items c.items.height c.items.rest.now (argument c.in-Ok.read.tree) c.in-Ok.read.height _ c.in-Ok.read.rest.now
    (c.items.invariant.led k) c.items.invariant.low c.in-Ok.ensures.exact (omega (arith, c.max-height.ensures)))
    c.in-Err-after_item.ensures.refused (λ over. over_by _ _ _ c.within.ensures.1 over))

-- one argument
pub arguments::argument-returns-in-Ok-clause-exact : goal.arguments::argument-returns-in-Ok-clause-exact
arguments::argument-returns-in-Ok-clause-exact t c = plain_argument c.args.depth c.args.tokens.now (expr c.in-Ok.field-0.tree) c.in-Ok.field-0.height c.in-Ok.field-0.rest.now c.in-None.ensures.none c.in-Ok.ensures.exact

pub arguments::argument-returns-in-Err-clause-exact : goal.arguments::argument-returns-in-Err-clause-exact
arguments::argument-returns-in-Err-clause-exact t c = plain_refused c.args.depth c.args.tokens.now c.in-Err.error c.in-None.ensures.none c.in-Err.ensures.exact

pub arguments::argument-returns-in-Ok-level-clause-exact : goal.arguments::argument-returns-in-Ok-level-clause-exact
arguments::argument-returns-in-Ok-level-clause-exact t c =
    signed_argument c.args.depth c.in-Some.found.0 c.in-Some-strip._assign c.args.tokens.now c.in-Some.found.1.now c.in-Some-strip.rest.now (expr c.in-Ok-level.field-0.tree) c.in-Ok-level.field-0.height c.in-Ok-level.field-0.rest.now
    c.in-Some.ensures.is c.in-Some-strip.ensures.is c.in-Some.ensures.kind c.in-Some-strip.ensures.kind c.in-Ok-level.ensures.exact

pub arguments::argument-returns-in-Err-level-clause-exact : goal.arguments::argument-returns-in-Err-level-clause-exact
arguments::argument-returns-in-Err-level-clause-exact t c =
    signed_refused c.args.depth c.in-Some.found.0 c.in-Some-strip._assign c.args.tokens.now c.in-Some.found.1.now c.in-Some-strip.rest.now c.in-Err-level.error
    c.in-Some.ensures.is c.in-Some-strip.ensures.is c.in-Some.ensures.kind c.in-Some-strip.ensures.kind c.in-Err-level.ensures.exact

pub arguments::argument-returns-then-depth-eq0-clause-exact : goal.arguments::argument-returns-then-depth-eq0-clause-exact
arguments::argument-returns-then-depth-eq0-clause-exact t c =
    at_zero arg_item continues_argument c.args.depth c.args.tokens.now c.in-Some.found.0 c.in-Some.found.1.now _ c.if-depth-eq0.true c.in-Some.ensures.is
    (c.name_alone.ensures.exact c.in-Some.ensures.kind c.in_default.ensures.none)

pub arguments::argument-returns-in-Ok-level-2-clause-exact : goal.arguments::argument-returns-in-Ok-level-2-clause-exact
arguments::argument-returns-in-Ok-level-2-clause-exact t c =
    named_argument c.args.depth c.in-Some.found.0 c.args.tokens.now c.in-Some.found.1.now (expr c.in-Ok-level-2.field-0.tree) c.in-Ok-level-2.field-0.height c.in-Ok-level-2.field-0.rest.now
    c.in-Some.ensures.is c.in_default.ensures.none c.in-Ok-level-2.ensures.shorter c.in-Ok-level-2.ensures.exact

pub arguments::argument-returns-in-Err-level-2-clause-exact : goal.arguments::argument-returns-in-Err-level-2-clause-exact
arguments::argument-returns-in-Err-level-2-clause-exact t c =
    named_refused c.args.depth c.in-Some.found.0 c.args.tokens.now c.in-Some.found.1.now c.in-Err-level-2.error (omega arith)
    c.in-Some.ensures.is c.in-Some.ensures.kind c.in_default.ensures.none c.in-Err-level-2.ensures.exact

-- operands
pub operand::operand-returns-in-None-clause-exact : goal.operand::operand-returns-in-None-clause-exact
operand::operand-returns-in-None-clause-exact t c = empty_broken (g.operand c.args.mode) c.in-None.ensures.none sample.expr (λ d v h. h)

pub operand::operand-returns-then-is_nothing-clause-exact : goal.operand::operand-returns-then-is_nothing-clause-exact
operand::operand-returns-then-is_nothing-clause-exact t c =
    nothing_broken c.args.mode c.args.depth c.in-Some.found.0 c.args.tokens.now c.in-Some.found.1.now c.operand_form-form.result c.in-Some.ensures.some (sym c.operand_form-form.ensures) (c.is_nothing.ensures.0 c.if-is_nothing.true)

pub operand::operand-returns-then-depth-eq0-clause-exact : goal.operand::operand-returns-then-depth-eq0-clause-exact
operand::operand-returns-then-depth-eq0-clause-exact t c =
    operand_deep c.args.mode c.args.depth c.in-Some.found.0 c.args.tokens.now c.in-Some.found.1.now c.operand_form-form.result c.if-depth-eq0.true c.in-Some.ensures.some (sym c.operand_form-form.ensures)
    (λ e. let bad : true ≡ false = sym (c.is_nothing.ensures.1 e) ∙ c.if-is_nothing.false in cc)

pub operand::operand-returns-in_ok-leaf-in-Some-leaf_kind-clause-exact : goal.operand::operand-returns-in_ok-leaf-in-Some-leaf_kind-clause-exact
operand::operand-returns-in_ok-leaf-in-Some-leaf_kind-clause-exact t c =
    found_to (answer_is (sym c.in_ok-leaf-in-Some-leaf_kind.ensures) refl
    (leaf_answer c.args.mode c.args.depth (c.args.depth - 1) c.in-Some.found.0 c.args.tokens.now c.in-Some.found.1.now c.operand_form-form.result (kind_of c.in-Some-leaf_kind.kind) (omega arith) c.in-Some.ensures.some
    (sym c.operand_form-form.ensures) (sym c.leaf_kind.ensures ∙ ap leaf_view c.in-Some-leaf_kind.is)))

pub operand::operand-returns-in-None-leaf_kind-clause-exact : goal.operand::operand-returns-in-None-leaf_kind-clause-exact
operand::operand-returns-in-None-leaf_kind-clause-exact t c =
    at_front_to (one (g.operand c.args.mode)) nothing_continues c.args.depth (c.args.depth - 1) c.args.tokens.now c.in-Some.found.0 c.in-Some.found.1.now _ (omega arith) c.in-Some.ensures.some
    (c.compound.ensures.exact c.in-Some.ensures.some (sym c.operand_form-form.ensures) (sym c.leaf_kind.ensures ∙ ap leaf_view c.in-None-leaf_kind.is) (λ e. let bad : true ≡ false = sym (c.is_nothing.ensures.1 e) ∙ c.if-is_nothing.false in cc))

pub operand::compound-returns-in_ok-leaf-in-Ok-clause-exact : goal.operand::compound-returns-in_ok-leaf-in-Ok-clause-exact
operand::compound-returns-in_ok-leaf-in-Ok-clause-exact t c = λ is k leaf some.
    found_to (answer_is (sym c.in_ok-leaf-in-Ok.ensures) refl (dot_answer c.args.mode c.args.depth c.args.token c.in-Ok.name c.args.behind.now c.in-Ok.rest.now c.args.form c.in-Dot.is k c.in-Ok.ensures.is c.in-Ok.ensures.kind))

pub operand::compound-returns-in-Err-clause-exact : goal.operand::compound-returns-in-Err-clause-exact
operand::compound-returns-in-Err-clause-exact t c = λ is k leaf some.
    refused_to (one (g.operand c.args.mode)) nothing_continues (suc c.args.depth) (c.args.token ∷ c.args.behind.now) c.in-Err.error
    (dot_refused c.args.mode c.args.depth c.args.token c.args.behind.now c.args.form c.in-Err.error c.in-Dot.is k c.in-Err.ensures.refused)

pub operand::compound-returns-in-Group-clause-exact : goal.operand::compound-returns-in-Group-clause-exact
operand::compound-returns-in-Group-clause-exact t c = λ is k leaf some. c.group.ensures.exact (k ∙ c.in-Group.is)

pub operand::compound-returns-in_ok-literal-in-Ok-arguments-clause-exact : goal.operand::compound-returns-in_ok-literal-in-Ok-arguments-clause-exact
operand::compound-returns-in_ok-literal-in-Ok-arguments-clause-exact t c = λ is k leaf some.
    found_to (brace_answer c.args.mode c.args.depth c.args.token c.args.behind.now c.args.form (argument_list c.in-Ok-arguments.field-0.tree) _ c.in-Ok-arguments.field-0.height _ c.in-Ok-arguments.field-0.rest.now c.in-Literal.is k
    (c.in-Ok-arguments.ensures.exact (inr refl)) c.in_ok-literal-in-Ok-arguments.ensures (omega arith))

pub operand::compound-returns-in-Err-arguments-clause-exact : goal.operand::compound-returns-in-Err-arguments-clause-exact
operand::compound-returns-in-Err-arguments-clause-exact t c = λ is k leaf some.
    refused_to (one (g.operand c.args.mode)) nothing_continues (suc c.args.depth) (c.args.token ∷ c.args.behind.now) c.in-Err-arguments.error
    (brace_refused c.args.mode c.args.depth c.args.token c.args.behind.now c.args.form c.in-Err-arguments.error c.in-Literal.is k (c.in-Err-arguments.ensures.exact (inr refl)))

pub operand::compound-returns-in_ok-type_tree-in-Ok-constructed-clause-exact : goal.operand::compound-returns-in_ok-type_tree-in-Ok-constructed-clause-exact
operand::compound-returns-in_ok-type_tree-in-Ok-constructed-clause-exact t c = λ is k leaf some.
    type_answer c.args.mode c.args.depth c.args.token c.args.behind.now c.args.form (type c.in-Ok-constructed.field-0.tree) _ c.in-Ok-constructed.field-0.height _ c.in-Ok-constructed.field-0.rest.now c.in-Ok-constructed.field-0.end c.in-Type.is k
    (found_at c.args.token c.args.behind.now is
    (constructed_found c.args.mode c.operand_use.result c.args.depth c.args.tokens.now (type c.in-Ok-constructed.field-0.tree) c.in-Ok-constructed.field-0.height c.in-Ok-constructed.field-0.rest.now c.in-Ok-constructed.field-0.end c.operand_use.ensures c.in-Ok-constructed.ensures.exact))
    c.in_ok-type_tree-in-Ok-constructed.ensures (omega arith)

pub operand::compound-returns-in-Err-constructed-clause-exact : goal.operand::compound-returns-in-Err-constructed-clause-exact
operand::compound-returns-in-Err-constructed-clause-exact t c = λ is k leaf some.
    refused_to (one (g.operand c.args.mode)) nothing_continues (suc c.args.depth) (c.args.token ∷ c.args.behind.now) c.in-Err-constructed.error
    (type_refused c.args.mode c.args.depth c.args.token c.args.behind.now c.args.form c.in-Err-constructed.error c.in-Type.is k
    (to_token (one (g.constructed (g.operand_use c.args.mode))) nothing_continues c.args.depth c.args.tokens.now c.args.token c.args.behind.now _ is
    (constructed_refused c.args.mode c.operand_use.result c.args.depth c.args.tokens.now c.in-Err-constructed.error c.operand_use.ensures c.in-Err-constructed.ensures.exact)))

pub operand::compound-returns-in-Proc-clause-exact : goal.operand::compound-returns-in-Proc-clause-exact
operand::compound-returns-in-Proc-clause-exact t c = λ is k leaf some.
    to_token_to (one (g.operand c.args.mode)) nothing_continues (suc c.args.depth) c.args.tokens.now c.args.token c.args.behind.now _ is
    (c.procedure.ensures.exact (proc_first c.args.mode c.args.token c.args.tokens.now c.args.behind.now c.args.form is c.in-Proc.is k))

pub operand::compound-returns-in_default-clause-exact : goal.operand::compound-returns-in_default-clause-exact
operand::compound-returns-in_default-clause-exact t c = λ is k leaf some.
    absurd (no_other c.args.form c.args.token leaf some c.in_default.not-Dot c.in_default.not-Group c.in_default.not-Literal c.in_default.not-Type c.in_default.not-Proc)

pub operand::group-returns-in-Ok-expect-clause-exact : goal.operand::group-returns-in-Ok-expect-clause-exact
operand::group-returns-in-Ok-expect-clause-exact t c = λ k.
    found_to (group_answer c.args.mode c.args.depth c.args.paren c.in-Ok-expect._close c.args.behind.now form.Group (expr c.in-Ok.read.tree) _ c.in-Ok.read.height _ c.in-Ok.read.rest.now c.in-Ok-expect.rest.now refl k
    c.in-Ok.ensures.exact (c.within.ensures.0 c.in-Ok-expect.ensures.within) c.in-Ok-expect.ensures.is c.in-Ok-expect.ensures.kind c.open.ensures (omega arith))

pub operand::group-returns-in-Err-expect-clause-exact : goal.operand::group-returns-in-Err-expect-clause-exact
operand::group-returns-in-Err-expect-clause-exact t c = λ k.
    because_to (one (g.operand c.args.mode)) nothing_continues (suc c.args.depth) (c.args.paren ∷ c.args.behind.now) c.in-Err-expect.error c.discard_expr.result c.discard_expr.ensures
    (refused_to (one (g.operand c.args.mode)) nothing_continues (suc c.args.depth) (c.args.paren ∷ c.args.behind.now) c.in-Err-expect.error
    (group_unclosed c.args.mode c.args.depth c.args.paren c.args.behind.now form.Group (expr c.in-Ok.read.tree) c.in-Ok.read.height c.in-Ok.read.rest.now c.in-Err-expect.error _ refl k
    c.in-Ok.ensures.exact (λ over. over_by _ _ _ c.within.ensures.1 over) c.in-Err-expect.ensures.refused))

pub operand::group-returns-in-Err-clause-exact : goal.operand::group-returns-in-Err-clause-exact
operand::group-returns-in-Err-clause-exact t c = λ k.
    refused_to (one (g.operand c.args.mode)) nothing_continues (suc c.args.depth) (c.args.paren ∷ c.args.behind.now) c.in-Err.error
    (group_refused c.args.mode c.args.depth c.args.paren c.args.behind.now form.Group c.in-Err.error refl k c.in-Err.ensures.exact)

pub postfix::member-returns-in-Some-clause-exact : goal.postfix::member-returns-in-Some-clause-exact
postfix::member-returns-in-Some-clause-exact t c = λ e. select_answer c.args.mode c.args.depth c.args.dot c.in-Some.name c.args.behind.now c.in-Some.rest.now e c.in-Some.ensures.is c.in-Some.ensures.kind

pub postfix::member-returns-in-None-clause-exact : goal.postfix::member-returns-in-None-clause-exact
postfix::member-returns-in-None-clause-exact t c = λ e. dot_broken c.args.mode c.args.depth c.args.dot c.args.behind.now e c.in_default.ensures.none c.in-None.ensures.none

pub postfix::member-returns-in-Err-clause-exact : goal.postfix::member-returns-in-Err-clause-exact
postfix::member-returns-in-Err-clause-exact t c = λ e.
    assert_refused c.args.mode c.args.depth c.args.dot c.in-Some-strip.found.0 c.args.behind.now c.in-Some-strip.found.1.now c.in-Err.error e c.in-Some-strip.ensures.is c.in-Some-strip.ensures.kind c.in-Err.ensures.exact

pub postfix::member-returns-in-Ok-expect-clause-exact : goal.postfix::member-returns-in-Ok-expect-clause-exact
postfix::member-returns-in-Ok-expect-clause-exact t c = λ e.
    assert_answer c.args.mode c.args.depth c.args.dot c.in-Some-strip.found.0 c.in-Ok-expect._close c.args.behind.now c.in-Some-strip.found.1.now (type c.in-Ok.read.tree) c.in-Ok.read.height c.in-Ok.read.rest.now c.in-Ok-expect.rest.now
    e c.in-Some-strip.ensures.is c.in-Some-strip.ensures.kind c.in-Ok.ensures.exact (c.within.ensures.0 c.in-Ok-expect.ensures.within) c.in-Ok-expect.ensures.is c.in-Ok-expect.ensures.kind

pub postfix::member-returns-in-Err-expect-clause-exact : goal.postfix::member-returns-in-Err-expect-clause-exact
postfix::member-returns-in-Err-expect-clause-exact t c = λ e.
    because (one (g.suffix c.args.mode)) nothing_continues c.args.depth (c.args.dot ∷ c.args.behind.now) c.in-Err-expect.error c.discard_type.result c.discard_type.ensures
    (assert_unclosed c.args.mode c.args.depth c.args.dot c.in-Some-strip.found.0 c.args.behind.now c.in-Some-strip.found.1.now (type c.in-Ok.read.tree) c.in-Ok.read.height c.in-Ok.read.rest.now c.in-Err-expect.error _
    e c.in-Some-strip.ensures.is c.in-Some-strip.ensures.kind c.in-Ok.ensures.exact (λ over. over_by _ _ _ c.within.ensures.1 over) c.in-Err-expect.ensures.refused)

pub types::ty-returns-in-Ok-clause-exact : goal.types::ty-returns-in-Ok-clause-exact
types::ty-returns-in-Ok-clause-exact t c = inside_found c.args.used c.inside.result c.args.depth c.args.tokens.now (type c.in-Ok.field-0.tree) c.in-Ok.field-0.height c.in-Ok.field-0.rest.now c.in-Ok.field-0.end c.inside.ensures c.in-Ok.ensures.exact

pub types::ty-returns-in-Err-clause-exact : goal.types::ty-returns-in-Err-clause-exact
types::ty-returns-in-Err-clause-exact t c = inside_refused c.args.used c.inside.result c.args.depth c.args.tokens.now c.in-Err.error c.inside.ensures c.in-Err.ensures.exact

pub types::type_to-returns-in-None-clause-exact : goal.types::type_to-returns-in-None-clause-exact
types::type_to-returns-in-None-clause-exact t c = empty_broken (g.type_ c.args.used) c.in-None.ensures.none sample.type (λ d v h. h)

pub types::type_to-returns-then-depth-eq0-clause-exact : goal.types::type_to-returns-then-depth-eq0-clause-exact
types::type_to-returns-then-depth-eq0-clause-exact t c =
    own_deep c.args.used c.args.depth c.in-Some.found.0 c.args.tokens.now c.in-Some.found.1.now c.in-Some-own_form.form c.if-depth-eq0.true c.in-Some.ensures.some (sym c.own_form.ensures ∙ c.in-Some-own_form.is)

pub types::type_to-returns-else-depth-eq0-clause-exact : goal.types::type_to-returns-else-depth-eq0-clause-exact
types::type_to-returns-else-depth-eq0-clause-exact t c =
    front_as c.args.used (one (g.type_ c.args.used)) c.args.depth (c.args.depth - 1) c.args.tokens.now c.in-Some.found.0 c.in-Some.found.1.now _ (omega arith) c.in-Some.ensures.some (c.own.ensures.exact (sym c.own_form.ensures ∙ c.in-Some-own_form.is))

pub types::type_to-returns-in-None-own_form-clause-exact : goal.types::type_to-returns-in-None-own_form-clause-exact
types::type_to-returns-in-None-own_form-clause-exact t c =
    built_same c.args.used c.args.depth c.in-Some.found.0 c.args.tokens.now c.in-Some.found.1.now _ c.in-Some.ensures.some (sym c.own_form.ensures ∙ c.in-None-own_form.is) c.constructed.ensures.exact

pub types::own-returns-in-Name-clause-exact : goal.types::own-returns-in-Name-clause-exact
types::own-returns-in-Name-clause-exact t c = λ e. c.name.ensures.exact (own_kind c.args.token.kind _ (e ∙ ap Some c.in-Name.is)) c.args.depth

pub types::own-returns-in-Group-clause-exact : goal.types::own-returns-in-Group-clause-exact
types::own-returns-in-Group-clause-exact t c = λ e. c.group.ensures.exact (own_kind c.args.token.kind _ (e ∙ ap Some c.in-Group.is))

pub types::own-returns-in-Err-clause-exact : goal.types::own-returns-in-Err-clause-exact
types::own-returns-in-Err-clause-exact t c = λ e.
    let k = own_kind c.args.token.kind _ (e ∙ ap Some c.in-Proc.is) in
    proc_refused c.args.used c.args.depth c.args.token c.args.behind.now c.in-Err.error k (c.in-Err.ensures.exact k)

pub types::group-returns-in-Err-clause-exact : goal.types::group-returns-in-Err-clause-exact
types::group-returns-in-Err-clause-exact t c = λ e. group_type_refused c.args.used c.args.depth c.args.paren c.args.behind.now c.in-Err.error e c.in-Err.ensures.exact

pub types::constructed-returns-in-None-clause-exact : goal.types::constructed-returns-in-None-clause-exact
types::constructed-returns-in-None-clause-exact t c = empty_broken (g.constructed c.args.used) c.in-None.ensures.none sample.type (λ d v h. h)

pub types::constructed-returns-in-None-built_form-clause-exact : goal.types::constructed-returns-in-None-built_form-clause-exact
types::constructed-returns-in-None-built_form-clause-exact t c = none_built c.args.used c.args.depth c.in-Some.found.0 c.args.tokens.now c.in-Some.found.1.now c.in-Some.ensures.some (sym c.built_form.ensures ∙ c.in-None-built_form.is)

pub types::constructed-returns-then-depth-eq0-clause-exact : goal.types::constructed-returns-then-depth-eq0-clause-exact
types::constructed-returns-then-depth-eq0-clause-exact t c =
    built_deep c.args.used c.args.depth c.in-Some.found.0 c.args.tokens.now c.in-Some.found.1.now c.in-Some-built_form.form c.if-depth-eq0.true c.in-Some.ensures.some (sym c.built_form.ensures ∙ c.in-Some-built_form.is)

pub types::constructed-returns-clause-exact : goal.types::constructed-returns-clause-exact
types::constructed-returns-clause-exact t c =
    front_as c.args.used (one (g.constructed c.args.used)) c.args.depth (c.args.depth - 1) c.args.tokens.now c.in-Some.found.0 c.in-Some.found.1.now _ (omega arith) c.in-Some.ensures.some (c.build.ensures.exact (sym c.built_form.ensures ∙ c.in-Some-built_form.is))

pub types::build-returns-in-Pointer-clause-exact : goal.types::build-returns-in-Pointer-clause-exact
types::build-returns-in-Pointer-clause-exact t c = λ e. c.pointer.ensures.exact (built_kind c.args.used c.args.token _ (e ∙ ap Some c.in-Pointer.is))

pub types::build-returns-in-Distinct-clause-exact : goal.types::build-returns-in-Distinct-clause-exact
types::build-returns-in-Distinct-clause-exact t c = λ e. c.distinct.ensures.exact (built_kind c.args.used c.args.token _ (e ∙ ap Some c.in-Distinct.is))

pub types::build-returns-in-Dollar-clause-exact : goal.types::build-returns-in-Dollar-clause-exact
types::build-returns-in-Dollar-clause-exact t c = λ e. c.dollar.ensures.exact (e ∙ ap Some c.in-Dollar.is) c.args.depth

pub types::build-returns-in-WordProc-clause-exact : goal.types::build-returns-in-WordProc-clause-exact
types::build-returns-in-WordProc-clause-exact t c = λ e. c.word_proc.ensures.exact (e ∙ ap Some c.in-WordProc.is)

pub types::build-returns-in-Array-clause-exact : goal.types::build-returns-in-Array-clause-exact
types::build-returns-in-Array-clause-exact t c = λ e.
    c.array.ensures.exact _ (record { bracket = c.args.token; is = refl; kind = built_kind c.args.used c.args.token _ (e ∙ ap Some c.in-Array.is); place = refl })

pub types::build-returns-in-Soa-clause-exact : goal.types::build-returns-in-Soa-clause-exact
types::build-returns-in-Soa-clause-exact t c = λ e. c.soa.ensures.exact (e ∙ ap Some c.in-Soa.is)

pub types::build-returns-in-Struct-clause-exact : goal.types::build-returns-in-Struct-clause-exact
types::build-returns-in-Struct-clause-exact t c = λ e. c.struct_type.ensures.exact (built_kind c.args.used c.args.token _ (e ∙ ap Some c.in-Struct.is))

pub types::build-returns-in-Union-clause-exact : goal.types::build-returns-in-Union-clause-exact
types::build-returns-in-Union-clause-exact t c = λ e. c.union_type.ensures.exact (built_kind c.args.used c.args.token _ (e ∙ ap Some c.in-Union.is))

pub types::build-returns-in-Enum-clause-exact : goal.types::build-returns-in-Enum-clause-exact
types::build-returns-in-Enum-clause-exact t c = λ e. c.enum_type.ensures.exact (built_kind c.args.used c.args.token _ (e ∙ ap Some c.in-Enum.is))

pub types::own-returns-in_ok-procedure-in-Ok-clause-exact : goal.types::own-returns-in_ok-procedure-in-Ok-clause-exact
types::own-returns-in_ok-procedure-in-Ok-clause-exact t c = λ e.
    let k = own_kind c.args.token.kind _ (e ∙ ap Some c.in-Proc.is) in
    proc_answer c.args.used c.args.depth c.args.token c.args.behind.now (signature c.in-Ok.field-0.tree) c.in-Ok.field-0.height c.in-Ok.field-0.rest.now c.in-Ok.field-0.end _ _ k (c.in-Ok.ensures.exact k)
    (c.in_ok-procedure-in-Ok.ensures ∙ proc_place c.args.used c.args.depth c.args.token c.args.behind.now (signature c.in-Ok.field-0.tree) c.in-Ok.field-0.height c.in-Ok.field-0.rest.now c.in-Ok.field-0.end (c.in-Ok.ensures.exact k) c.in-Ok.ensures.shorter) (omega arith)

pub types::pointer-returns-in_ok-pointer-in-Ok-clause-exact : goal.types::pointer-returns-in_ok-pointer-in-Ok-clause-exact
types::pointer-returns-in_ok-pointer-in-Ok-clause-exact t c = λ e.
    pointer_answer c.args.used c.at_end.result c.args.depth c.args.token c.args.behind.now (type c.in-Ok.field-0.tree) c.in-Ok.field-0.height c.in-Ok.field-0.rest.now c.in-Ok.field-0.end _ _ c.at_end.ensures e c.in-Ok.ensures.exact c.in_ok-pointer-in-Ok.ensures (omega arith)

pub types::pointer-returns-in-Err-clause-exact : goal.types::pointer-returns-in-Err-clause-exact
types::pointer-returns-in-Err-clause-exact t c = λ e. pointer_refused c.args.used c.at_end.result c.args.depth c.args.token c.args.behind.now c.in-Err.error c.at_end.ensures e c.in-Err.ensures.exact

pub types::distinct-returns-in_ok-distinct-in-Ok-clause-exact : goal.types::distinct-returns-in_ok-distinct-in-Ok-clause-exact
types::distinct-returns-in_ok-distinct-in-Ok-clause-exact t c = λ e.
    distinct_answer c.args.used c.at_end.result c.args.depth c.args.token c.args.behind.now (type c.in-Ok.field-0.tree) c.in-Ok.field-0.height c.in-Ok.field-0.rest.now c.in-Ok.field-0.end _ _ c.at_end.ensures e c.in-Ok.ensures.exact c.in_ok-distinct-in-Ok.ensures (omega arith)

pub types::distinct-returns-in-Err-clause-exact : goal.types::distinct-returns-in-Err-clause-exact
types::distinct-returns-in-Err-clause-exact t c = λ e. distinct_refused c.args.used c.at_end.result c.args.depth c.args.token c.args.behind.now c.in-Err.error c.at_end.ensures e c.in-Err.ensures.exact

pub types::word_proc-returns-in-Err-clause-exact : goal.types::word_proc-returns-in-Err-clause-exact
types::word_proc-returns-in-Err-clause-exact t c = λ e. word_missing c.args.used c.args.depth c.args.token c.args.behind.now c.in-Err.error (built_kind c.args.used c.args.token _ e) c.in-Err.ensures.refused

pub types::word_proc-returns-in-Err-signature-clause-exact : goal.types::word_proc-returns-in-Err-signature-clause-exact
types::word_proc-returns-in-Err-signature-clause-exact t c = λ e.
    word_refused c.args.used c.args.depth c.args.token c.in-Ok.found.0 c.args.behind.now c.in-Ok.found.1.now c.in-Err-signature.error (built_kind c.args.used c.args.token _ e) c.in-Ok.ensures.is (c.in-Err-signature.ensures.exact c.in-Ok.ensures.kind)

pub types::word_proc-returns-in_ok-procedure-in-Ok-signature-clause-exact : goal.types::word_proc-returns-in_ok-procedure-in-Ok-signature-clause-exact
types::word_proc-returns-in_ok-procedure-in-Ok-signature-clause-exact t c = λ e.
    word_answer c.args.used c.args.depth c.args.token c.in-Ok.found.0 c.args.behind.now c.in-Ok.found.1.now (signature c.in-Ok-signature.field-0.tree) c.in-Ok-signature.field-0.height c.in-Ok-signature.field-0.rest.now c.in-Ok-signature.field-0.end _ _
    (built_kind c.args.used c.args.token _ e) c.in-Ok.ensures.is (c.in-Ok-signature.ensures.exact c.in-Ok.ensures.kind) c.in_ok-procedure-in-Ok-signature.ensures (omega arith)

pub types::soa-returns-in-Ok-clause-exact : goal.types::soa-returns-in-Ok-clause-exact
types::soa-returns-in-Ok-clause-exact t c = λ e.
    let k = built_kind c.args.used c.args.token _ e in
    c.array.ensures.exact _ (record { directive = c.args.token; bracket = c.in-Ok._open; is = ap (λ l. c.args.token ∷ l) c.in-Ok.ensures.is; directive_kind = k.0; says = k.1; bracket_kind = c.in-Ok.ensures.kind; place = refl })

pub types::soa-returns-in-Err-clause-exact : goal.types::soa-returns-in-Err-clause-exact
types::soa-returns-in-Err-clause-exact t c = λ e. soa_unopened c.args.used c.args.depth c.args.token c.args.behind.now c.in-Err.error (built_kind c.args.used c.args.token _ e) c.in-Err.ensures.refused

pub arrays::array-returns-in-Some-clause-exact : goal.arrays::array-returns-in-Some-clause-exact
arrays::array-returns-in-Some-clause-exact t c = λ ts z. c.counted.ensures.exact ts (record { question = c.in-Some._question; kind = c.in-Some.ensures.kind; bracketed = bracketed_is c.args.shape c.args.at ts c.args.tokens.now _ c.in-Some.ensures.is z })

pub arrays::array-returns-in-None-clause-exact : goal.arrays::array-returns-in-None-clause-exact
arrays::array-returns-in-None-clause-exact t c = λ ts z. c.sized.ensures.exact ts z c.in-None.ensures.none

pub arrays::sized-returns-in-Err-clause-exact : goal.arrays::sized-returns-in-Err-clause-exact
arrays::sized-returns-in-Err-clause-exact t c = λ ts z open'. length_refused c.args.used c.args.shape c.args.at c.args.depth ts c.args.tokens.now c.in-Err.error z open' c.in-Err.ensures.exact

pub arrays::sized-returns-in_ok-bracketed-in-Ok-type_to-clause-exact : goal.arrays::sized-returns-in_ok-bracketed-in-Ok-type_to-clause-exact
arrays::sized-returns-in_ok-bracketed-in-Ok-type_to-clause-exact t c = λ ts z open'.
    bracket_answer c.args.used c.at_end.result c.args.shape c.args.at c.args.depth ts c.args.tokens.now (view.length c.in-Ok.read.tree.part, (c.in-Ok.read.tree.close, tt)) c.in-Ok.read.height c.in-Ok.read.rest.now (type c.in-Ok-type_to.field-0.tree) c.in-Ok-type_to.field-0.height c.in-Ok-type_to.field-0.rest.now c.in-Ok-type_to.field-0.end _ _
    c.at_end.ensures z open' c.in-Ok.ensures.exact c.in-Ok.ensures.low c.in-Ok-type_to.ensures.exact c.in_ok-bracketed-in-Ok-type_to.ensures (omega (arith, c.max.ensures))

pub arrays::sized-returns-in-Err-type_to-clause-exact : goal.arrays::sized-returns-in-Err-type_to-clause-exact
arrays::sized-returns-in-Err-type_to-clause-exact t c = λ ts z open'.
    because_as c.args.used (one (g.constructed c.args.used)) (suc c.args.depth) ts c.in-Err-type_to.error c.discard_length.result c.discard_length.ensures
    (element_refused c.args.used c.at_end.result c.args.shape c.args.at c.args.depth ts c.args.tokens.now (view.length c.in-Ok.read.tree.part, (c.in-Ok.read.tree.close, tt)) c.in-Ok.read.height c.in-Ok.read.rest.now c.in-Err-type_to.error c.at_end.ensures z open' c.in-Ok.ensures.exact c.in-Ok.ensures.low c.in-Err-type_to.ensures.exact)

pub arrays::counted-returns-in-Err-clause-exact : goal.arrays::counted-returns-in-Err-clause-exact
arrays::counted-returns-in-Err-clause-exact t c = λ ts z. counted_unclosed c.args.used c.args.shape c.args.at c.args.depth ts c.args.tokens.now c.in-Err.error z c.in-Err.ensures.refused

pub arrays::counted-returns-in-Err-ty-clause-exact : goal.arrays::counted-returns-in-Err-ty-clause-exact
arrays::counted-returns-in-Err-ty-clause-exact t c = λ ts z. counted_refused c.args.used c.args.shape c.args.at c.args.depth ts c.args.tokens.now c.in-Ok.found.0 c.in-Ok.found.1.now c.in-Err-ty.error z c.in-Ok.ensures.is c.in-Ok.ensures.kind c.in-Err-ty.ensures.exact

pub arrays::length-returns-in-Some-clause-exact : goal.arrays::length-returns-in-Some-clause-exact
arrays::length-returns-in-Some-clause-exact t c = slice_answer c.args.used c.args.depth c.in-Some.close c.args.tokens.now c.in-Some.rest.now c.in-Some.ensures.is c.in-Some.ensures.kind

pub arrays::length-returns-in-Ok-clause-exact : goal.arrays::length-returns-in-Ok-clause-exact
arrays::length-returns-in-Ok-clause-exact t c =
    dynamic_answer c.args.used c.args.depth c.in-Some-strip._dynamic c.in-Ok.close c.args.tokens.now c.in-Some-strip.behind.now c.in-Ok.rest.now c.in-Some-strip.ensures.is c.in-Some-strip.ensures.kind c.in-Ok.ensures.is c.in-Ok.ensures.kind

pub arrays::length-returns-in-Err-clause-exact : goal.arrays::length-returns-in-Err-clause-exact
arrays::length-returns-in-Err-clause-exact t c = dynamic_refused c.args.used c.args.depth c.in-Some-strip._dynamic c.args.tokens.now c.in-Some-strip.behind.now c.in-Err.error c.in-Some-strip.ensures.is c.in-Some-strip.ensures.kind c.in-Err.ensures.refused

pub arrays::length-returns-in-Some-strip_dollar-clause-exact : goal.arrays::length-returns-in-Some-strip_dollar-clause-exact
arrays::length-returns-in-Some-strip_dollar-clause-exact t c = c.parametric.ensures.exact c.in-Some-strip_dollar.ensures.used c.in-Some-strip_dollar.ensures.is c.in-Some-strip_dollar.ensures.kind c.args.depth

pub arrays::length-returns-in-None-strip_dollar-clause-exact : goal.arrays::length-returns-in-None-strip_dollar-clause-exact
arrays::length-returns-in-None-strip_dollar-clause-exact t c = c.fixed.ensures.exact c.in-None.ensures.none c.in-None-strip.ensures.none c.in-None-strip_dollar.ensures.none

pub arrays::fixed-returns-in-Err-clause-exact : goal.arrays::fixed-returns-in-Err-clause-exact
arrays::fixed-returns-in-Err-clause-exact t c = λ f d o. fixed_refused c.args.used c.args.depth c.args.tokens.now c.in-Err.error f d o c.in-Err.ensures.exact

pub fields::struct_type-returns-in-Err-clause-exact : goal.fields::struct_type-returns-in-Err-clause-exact
fields::struct_type-returns-in-Err-clause-exact t c = λ e. struct_unopened c.args.used c.args.depth c.args.token c.args.behind.now c.in-Err.error e c.in-Err.ensures.refused

pub fields::struct_type-returns-in-Err-field_list-clause-exact : goal.fields::struct_type-returns-in-Err-field_list-clause-exact
fields::struct_type-returns-in-Err-field_list-clause-exact t c = λ e. struct_refused c.args.used c.args.depth c.args.token c.in-Ok.found.0 c.args.behind.now c.in-Ok.found.1.now c.in-Err-field_list.error e c.in-Ok.ensures.is c.in-Ok.ensures.kind c.in-Err-field_list.ensures.exact

pub fields::struct_type-returns-in_ok-structure-in-Ok-field_list-clause-exact : goal.fields::struct_type-returns-in_ok-structure-in-Ok-field_list-clause-exact
fields::struct_type-returns-in_ok-structure-in-Ok-field_list-clause-exact t c = λ e.
    struct_answer c.args.used c.args.depth c.args.token c.in-Ok.found.0 c.args.behind.now c.in-Ok.found.1.now (fields c.in-Ok-field_list.read.tree.part.items, (c.in-Ok-field_list.read.tree.close, tt)) c.in-Ok-field_list.read.height c.in-Ok-field_list.read.rest.now _ _ e c.in-Ok.ensures.is c.in-Ok.ensures.kind
    c.in-Ok-field_list.ensures.exact c.in_ok-structure-in-Ok-field_list.ensures (omega arith)

pub fields::union_type-returns-in-Err-clause-exact : goal.fields::union_type-returns-in-Err-clause-exact
fields::union_type-returns-in-Err-clause-exact t c = λ e. union_unopened c.args.used c.args.depth c.args.token c.args.behind.now c.in-Err.error e c.in-Err.ensures.refused

pub fields::union_type-returns-in-Err-type_list-clause-exact : goal.fields::union_type-returns-in-Err-type_list-clause-exact
fields::union_type-returns-in-Err-type_list-clause-exact t c = λ e. union_refused c.args.used c.args.depth c.args.token c.in-Ok.found.0 c.args.behind.now c.in-Ok.found.1.now c.in-Err-type_list.error e c.in-Ok.ensures.is c.in-Ok.ensures.kind c.in-Err-type_list.ensures.exact

pub fields::union_type-returns-in_ok-union_of-in-Ok-type_list-clause-exact : goal.fields::union_type-returns-in_ok-union_of-in-Ok-type_list-clause-exact
fields::union_type-returns-in_ok-union_of-in-Ok-type_list-clause-exact t c = λ e.
    union_answer c.args.used c.args.depth c.args.token c.in-Ok.found.0 c.args.behind.now c.in-Ok.found.1.now (types c.in-Ok-type_list.read.tree.part.items, (c.in-Ok-type_list.read.tree.close, tt)) c.in-Ok-type_list.read.height c.in-Ok-type_list.read.rest.now _ _ e c.in-Ok.ensures.is c.in-Ok.ensures.kind
    c.in-Ok-type_list.ensures.exact c.in_ok-union_of-in-Ok-type_list.ensures (omega arith)

pub fields::field_list-returns-in-Some-clause-exact : goal.fields::field_list-returns-in-Some-clause-exact
fields::field_list-returns-in-Some-clause-exact t c = fields_empty (inside c.args.used) c.args.depth c.in-Some.close c.args.tokens.now c.in-Some.rest.now c.new-list.result.items c.new-list.ensures.items c.in-Some.ensures.is c.in-Some.ensures.kind

pub fields::field_list-items-init : goal.fields::field_list-items-init
fields::field_list-items-init t c = record {
  led = fields_begin (inside c.args.used) c.args.depth c.args.tokens.now c.new-list.result.items c.new-list.ensures.items c.in_default.ensures.none;
  short = omega arith;
  low = omega arith;
}

pub fields::field_list-returns-in-Err-clause-exact : goal.fields::field_list-returns-in-Err-clause-exact
fields::field_list-returns-in-Err-clause-exact t c =
    because (fields_line (inside c.args.used)) nothing_continues c.args.depth c.args.tokens.now c.in-Err.error c.discard_fields.result c.discard_fields.ensures
    (item_refused (field_list (inside c.args.used)) (fields_line (inside c.args.used)) c.args.depth c.args.tokens.now c.items.list.items c.items.height c.items.rest.now c.in-Err.error c.items.invariant.led c.items.invariant.low c.in-Err.ensures.exact)

pub fields::field_list-returns-in-Some-end-clause-exact : goal.fields::field_list-returns-in-Some-end-clause-exact
fields::field_list-returns-in-Some-end-clause-exact t c =
    list_answer (field_list (inside c.args.used)) (fields_line (inside c.args.used)) c.args.depth c.args.tokens.now c.items.list.items _ c.in-Ok.read.tree.field _ c.in-Ok.read.rest.now c.in-Some-end.close c.in-Ok-after_item.found.1.now
    (item_as (field_list (inside c.args.used)) (fields_line (inside c.args.used)) c.args.depth c.args.tokens.now c.items.list.items c.items.height c.items.rest.now _ c.in-Ok.read.height _ c.in-Ok.read.rest.now c.items.invariant.led c.items.invariant.low c.in-Ok.ensures.exact (omega (arith, c.max-height.ensures)))
    c.in_ok-list.ensures (c.within.ensures.0 c.in-Ok-after_item.ensures.within)
    (ended_by kind.CloseBrace c.in-Ok.read.rest.now c.in-Ok-after_item.found.0 c.in-Some-end.close c.in-Ok-after_item.found.1.now c.in-Some-end.is c.in-Ok-after_item.ensures.ended)

pub fields::field_list-items-preserved : goal.fields::field_list-items-preserved
fields::field_list-items-preserved t c = record {
  led =
      list_goes_on (field_list (inside c.args.used)) (fields_line (inside c.args.used)) c.args.depth c.args.tokens.now c.items.list.items _ c.in-Ok.read.tree.field _ c.in-Ok.read.rest.now c.in-Ok-after_item.found.1.now
      (item_as (field_list (inside c.args.used)) (fields_line (inside c.args.used)) c.args.depth c.args.tokens.now c.items.list.items c.items.height c.items.rest.now _ c.in-Ok.read.height _ c.in-Ok.read.rest.now c.items.invariant.led c.items.invariant.low c.in-Ok.ensures.exact (omega (arith, c.max-height.ensures)))
      c.in_ok-list.ensures (c.within.ensures.0 c.in-Ok-after_item.ensures.within)
      (again_by kind.CloseBrace c.in-Ok.read.rest.now c.in-Ok-after_item.found.0 c.in-Ok-after_item.found.1.now c.in-None.is c.in-Ok-after_item.ensures.again);
  short = let read = c.in-Ok.ensures.shorter in let more = c.in-Ok-after_item.ensures.shorter in let before = c.items.invariant.short in omega (arith, read, more, before);
  low = c.within.ensures.0 c.in-Ok-after_item.ensures.within;
}

pub fields::field_list-returns-in-Err-after_item-clause-exact : goal.fields::field_list-returns-in-Err-after_item-clause-exact
fields::field_list-returns-in-Err-after_item-clause-exact t c =
    because (fields_line (inside c.args.used)) nothing_continues c.args.depth c.args.tokens.now c.in-Err-after_item.error c.discard_fields-in-Err-after_item.result c.discard_fields-in-Err-after_item.ensures
    (list_stuck (field_list (inside c.args.used)) (fields_line (inside c.args.used)) c.args.depth c.args.tokens.now c.items.list.items (c.in-Ok.read.tree.field.names.items, (c.in-Ok.read.tree.colon, type c.in-Ok.read.tree.field.ty)) c.max-height.result c.in-Ok.read.rest.now c.in-Err-after_item.error _
    (item_as (field_list (inside c.args.used)) (fields_line (inside c.args.used)) c.args.depth c.args.tokens.now c.items.list.items c.items.height c.items.rest.now _ c.in-Ok.read.height _ c.in-Ok.read.rest.now c.items.invariant.led c.items.invariant.low c.in-Ok.ensures.exact (omega (arith, c.max-height.ensures)))
    c.in-Err-after_item.ensures.refused (λ over. over_by _ _ _ c.within.ensures.1 over))

pub fields::field-returns-in-Err-clause-exact : goal.fields::field-returns-in-Err-clause-exact
fields::field-returns-in-Err-clause-exact t c = field_unnamed (inside c.args.used) c.args.depth c.args.tokens.now c.in-Err.error (c.in-Err.ensures.exact c.args.depth)

pub fields::field-returns-in-Ok-ty-clause-exact : goal.fields::field-returns-in-Ok-ty-clause-exact
fields::field-returns-in-Ok-ty-clause-exact t c =
    field_answer (inside c.args.used) c.args.depth c.args.tokens.now c.in-Ok.read.0.items c.in-Ok.read.1 c.in-Ok.read.2.now (type c.in-Ok-ty.field-0.tree) c.in-Ok-ty.field-0.height c.in-Ok-ty.field-0.rest.now (c.in-Ok.ensures.exact c.args.depth) c.in-Ok-ty.ensures.exact

pub fields::field-returns-in-Err-ty-clause-exact : goal.fields::field-returns-in-Err-ty-clause-exact
fields::field-returns-in-Err-ty-clause-exact t c =
    field_refused (inside c.args.used) c.args.depth c.args.tokens.now c.in-Ok.read.0.items c.in-Ok.read.1 c.in-Ok.read.2.now c.in-Err-ty.error (c.in-Ok.ensures.exact c.args.depth) c.in-Err-ty.ensures.exact

pub fields::type_list-returns-in-Some-clause-exact : goal.fields::type_list-returns-in-Some-clause-exact
fields::type_list-returns-in-Some-clause-exact t c = types_empty (inside c.args.used) c.args.depth c.in-Some.close c.args.tokens.now c.in-Some.rest.now c.new-list.result.items c.new-list.ensures.items c.in-Some.ensures.is c.in-Some.ensures.kind

pub fields::type_list-items-init : goal.fields::type_list-items-init
fields::type_list-items-init t c = record {
  led = types_begin (inside c.args.used) c.args.depth c.args.tokens.now c.new-list.result.items c.new-list.ensures.items c.in_default.ensures.none;
  short = omega arith;
  low = omega arith;
}

pub fields::type_list-returns-in-Err-clause-exact : goal.fields::type_list-returns-in-Err-clause-exact
fields::type_list-returns-in-Err-clause-exact t c =
    because (types_line (inside c.args.used)) nothing_continues c.args.depth c.args.tokens.now c.in-Err.error c.discard_types.result c.discard_types.ensures
    (item_refused (type_list (inside c.args.used)) (types_line (inside c.args.used)) c.args.depth c.args.tokens.now c.items.list.items c.items.height c.items.rest.now c.in-Err.error c.items.invariant.led c.items.invariant.low c.in-Err.ensures.exact)

pub fields::type_list-returns-in-Some-end-clause-exact : goal.fields::type_list-returns-in-Some-end-clause-exact
fields::type_list-returns-in-Some-end-clause-exact t c =
    list_answer (type_list (inside c.args.used)) (types_line (inside c.args.used)) c.args.depth c.args.tokens.now c.items.list.items _ c.in-Ok.read.tree _ c.in-Ok.read.rest.now c.in-Some-end.close c.in-Ok-after_item.found.1.now
    (item_as (type_list (inside c.args.used)) (types_line (inside c.args.used)) c.args.depth c.args.tokens.now c.items.list.items c.items.height c.items.rest.now _ c.in-Ok.read.height _ c.in-Ok.read.rest.now c.items.invariant.led c.items.invariant.low c.in-Ok.ensures.exact (omega (arith, c.max-height.ensures)))
    c.in_ok-list.ensures (c.within.ensures.0 c.in-Ok-after_item.ensures.within)
    (ended_by kind.CloseBrace c.in-Ok.read.rest.now c.in-Ok-after_item.found.0 c.in-Some-end.close c.in-Ok-after_item.found.1.now c.in-Some-end.is c.in-Ok-after_item.ensures.ended)

pub fields::type_list-items-preserved : goal.fields::type_list-items-preserved
fields::type_list-items-preserved t c = record {
  led =
      list_goes_on (type_list (inside c.args.used)) (types_line (inside c.args.used)) c.args.depth c.args.tokens.now c.items.list.items _ c.in-Ok.read.tree _ c.in-Ok.read.rest.now c.in-Ok-after_item.found.1.now
      (item_as (type_list (inside c.args.used)) (types_line (inside c.args.used)) c.args.depth c.args.tokens.now c.items.list.items c.items.height c.items.rest.now _ c.in-Ok.read.height _ c.in-Ok.read.rest.now c.items.invariant.led c.items.invariant.low c.in-Ok.ensures.exact (omega (arith, c.max-height.ensures)))
      c.in_ok-list.ensures (c.within.ensures.0 c.in-Ok-after_item.ensures.within)
      (again_by kind.CloseBrace c.in-Ok.read.rest.now c.in-Ok-after_item.found.0 c.in-Ok-after_item.found.1.now c.in-None.is c.in-Ok-after_item.ensures.again);
  short = let read = c.in-Ok.ensures.shorter in let more = c.in-Ok-after_item.ensures.shorter in let before = c.items.invariant.short in omega (arith, read, more, before);
  low = c.within.ensures.0 c.in-Ok-after_item.ensures.within;
}

pub fields::type_list-returns-in-Err-after_item-clause-exact : goal.fields::type_list-returns-in-Err-after_item-clause-exact
fields::type_list-returns-in-Err-after_item-clause-exact t c =
    because (types_line (inside c.args.used)) nothing_continues c.args.depth c.args.tokens.now c.in-Err-after_item.error c.discard_types-in-Err-after_item.result c.discard_types-in-Err-after_item.ensures
    (list_stuck (type_list (inside c.args.used)) (types_line (inside c.args.used)) c.args.depth c.args.tokens.now c.items.list.items _ c.max-height.result c.in-Ok.read.rest.now c.in-Err-after_item.error _
    (item_as (type_list (inside c.args.used)) (types_line (inside c.args.used)) c.args.depth c.args.tokens.now c.items.list.items c.items.height c.items.rest.now _ c.in-Ok.read.height _ c.in-Ok.read.rest.now c.items.invariant.led c.items.invariant.low c.in-Ok.ensures.exact (omega (arith, c.max-height.ensures)))
    c.in-Err-after_item.ensures.refused (λ over. over_by _ _ _ c.within.ensures.1 over))

pub fields::enumerator_list-returns-in-Some-clause-exact : goal.fields::enumerator_list-returns-in-Some-clause-exact
fields::enumerator_list-returns-in-Some-clause-exact t c = enumerators_empty c.args.depth c.in-Some.close c.args.tokens.now c.in-Some.rest.now c.new-list.result.items c.new-list.ensures.items c.in-Some.ensures.is c.in-Some.ensures.kind

pub fields::enumerator_list-items-init : goal.fields::enumerator_list-items-init
fields::enumerator_list-items-init t c = record {
  led = enumerators_begin c.args.depth c.args.tokens.now c.new-list.result.items c.new-list.ensures.items c.in_default.ensures.none;
  short = omega arith;
  low = omega arith;
}

pub fields::enumerator_list-returns-in-Err-clause-exact : goal.fields::enumerator_list-returns-in-Err-clause-exact
fields::enumerator_list-returns-in-Err-clause-exact t c =
    because enumerators_line nothing_continues c.args.depth c.args.tokens.now c.in-Err.error c.discard_enumerators.result c.discard_enumerators.ensures
    (item_refused enumerator_list enumerators_line c.args.depth c.args.tokens.now c.items.list.items c.items.height c.items.rest.now c.in-Err.error c.items.invariant.led c.items.invariant.low c.in-Err.ensures.exact)

pub fields::enumerator_list-returns-in-Some-end-clause-exact : goal.fields::enumerator_list-returns-in-Some-end-clause-exact
fields::enumerator_list-returns-in-Some-end-clause-exact t c =
    list_answer enumerator_list enumerators_line c.args.depth c.args.tokens.now c.items.list.items _ c.in-Ok.read.tree _ c.in-Ok.read.rest.now c.in-Some-end.close c.in-Ok-after_item.found.1.now
    (item_as enumerator_list enumerators_line c.args.depth c.args.tokens.now c.items.list.items c.items.height c.items.rest.now _ c.in-Ok.read.height _ c.in-Ok.read.rest.now c.items.invariant.led c.items.invariant.low c.in-Ok.ensures.exact (omega (arith, c.max-height.ensures)))
    c.in_ok-list.ensures (c.within.ensures.0 c.in-Ok-after_item.ensures.within)
    (ended_by kind.CloseBrace c.in-Ok.read.rest.now c.in-Ok-after_item.found.0 c.in-Some-end.close c.in-Ok-after_item.found.1.now c.in-Some-end.is c.in-Ok-after_item.ensures.ended)

pub fields::enumerator_list-items-preserved : goal.fields::enumerator_list-items-preserved
fields::enumerator_list-items-preserved t c = record {
  led =
      list_goes_on enumerator_list enumerators_line c.args.depth c.args.tokens.now c.items.list.items _ c.in-Ok.read.tree _ c.in-Ok.read.rest.now c.in-Ok-after_item.found.1.now
      (item_as enumerator_list enumerators_line c.args.depth c.args.tokens.now c.items.list.items c.items.height c.items.rest.now _ c.in-Ok.read.height _ c.in-Ok.read.rest.now c.items.invariant.led c.items.invariant.low c.in-Ok.ensures.exact (omega (arith, c.max-height.ensures)))
      c.in_ok-list.ensures (c.within.ensures.0 c.in-Ok-after_item.ensures.within)
      (again_by kind.CloseBrace c.in-Ok.read.rest.now c.in-Ok-after_item.found.0 c.in-Ok-after_item.found.1.now c.in-None.is c.in-Ok-after_item.ensures.again);
  short = let read = c.in-Ok.ensures.shorter in let more = c.in-Ok-after_item.ensures.shorter in let before = c.items.invariant.short in omega (arith, read, more, before);
  low = c.within.ensures.0 c.in-Ok-after_item.ensures.within;
}

pub fields::enumerator_list-returns-in-Err-after_item-clause-exact : goal.fields::enumerator_list-returns-in-Err-after_item-clause-exact
fields::enumerator_list-returns-in-Err-after_item-clause-exact t c =
    because enumerators_line nothing_continues c.args.depth c.args.tokens.now c.in-Err-after_item.error c.discard_enumerators-in-Err-after_item.result c.discard_enumerators-in-Err-after_item.ensures
    (list_stuck enumerator_list enumerators_line c.args.depth c.args.tokens.now c.items.list.items _ c.max-height.result c.in-Ok.read.rest.now c.in-Err-after_item.error _
    (item_as enumerator_list enumerators_line c.args.depth c.args.tokens.now c.items.list.items c.items.height c.items.rest.now _ c.in-Ok.read.height _ c.in-Ok.read.rest.now c.items.invariant.led c.items.invariant.low c.in-Ok.ensures.exact (omega (arith, c.max-height.ensures)))
    c.in-Err-after_item.ensures.refused (λ over. over_by _ _ _ c.within.ensures.1 over))

pub fields::enum_type-returns-in-Err-clause-exact : goal.fields::enum_type-returns-in-Err-clause-exact
fields::enum_type-returns-in-Err-clause-exact t c = λ e. enum_base_refused c.args.used c.args.depth c.args.token c.args.behind.now c.in-Err.error e c.in-Err.ensures.exact

pub fields::enum_type-returns-in_ok-enumeration-in-Ok-enumerator_list-clause-exact : goal.fields::enum_type-returns-in_ok-enumeration-in-Ok-enumerator_list-clause-exact
fields::enum_type-returns-in_ok-enumeration-in-Ok-enumerator_list-clause-exact t c = λ e.
    enum_answer c.args.used c.args.depth c.args.token c.args.behind.now (maybe_type c.in-Ok.read.tree.part, (c.in-Ok.read.tree.close, tt)) c.in-Ok.read.height c.in-Ok.read.rest.now (enumerators c.in-Ok-enumerator_list.read.tree.part.items, (c.in-Ok-enumerator_list.read.tree.close, tt)) c.in-Ok-enumerator_list.read.height c.in-Ok-enumerator_list.read.rest.now _ _
    e c.in-Ok.ensures.exact c.in-Ok.ensures.low c.in-Ok-enumerator_list.ensures.exact c.in_ok-enumeration-in-Ok-enumerator_list.ensures (omega (arith, c.max.ensures))

pub fields::enum_type-returns-in-Err-enumerator_list-clause-exact : goal.fields::enum_type-returns-in-Err-enumerator_list-clause-exact
fields::enum_type-returns-in-Err-enumerator_list-clause-exact t c = λ e.
    because_as c.args.used (one (g.constructed c.args.used)) (suc c.args.depth) _ c.in-Err-enumerator_list.error c.discard_optional_type.result c.discard_optional_type.ensures
    (enum_refused c.args.used c.args.depth c.args.token c.args.behind.now (maybe_type c.in-Ok.read.tree.part, (c.in-Ok.read.tree.close, tt)) c.in-Ok.read.height c.in-Ok.read.rest.now c.in-Err-enumerator_list.error e c.in-Ok.ensures.exact c.in-Ok.ensures.low c.in-Err-enumerator_list.ensures.exact)

pub fields::base_type-returns-in-Some-clause-exact : goal.fields::base_type-returns-in-Some-clause-exact
fields::base_type-returns-in-Some-clause-exact t c = base_none (inside c.args.used) c.args.depth c.in-Some.open c.args.tokens.now c.in-Some.inner.now c.in-Some.ensures.is c.in-Some.ensures.kind

pub fields::base_type-returns-in-None-clause-exact : goal.fields::base_type-returns-in-None-clause-exact
fields::base_type-returns-in-None-clause-exact t c = c.base.ensures.exact c.in-None.ensures.none

pub fields::base-returns-in-Err-clause-exact : goal.fields::base-returns-in-Err-clause-exact
fields::base-returns-in-Err-clause-exact t c = λ none. base_refused (inside c.args.used) c.args.depth c.args.tokens.now c.in-Err.error none c.in-Err.ensures.exact

pub fields::base-returns-in-Err-expect-clause-exact : goal.fields::base-returns-in-Err-expect-clause-exact
fields::base-returns-in-Err-expect-clause-exact t c = λ none.
    because (base_line (inside c.args.used)) nothing_continues c.args.depth c.args.tokens.now c.in-Err-expect.error c.discard_type.result c.discard_type.ensures
    (base_unopened (inside c.args.used) c.args.depth c.args.tokens.now (type c.in-Ok.read.tree) c.in-Ok.read.height c.in-Ok.read.rest.now c.in-Err-expect.error _ none c.in-Ok.ensures.exact (λ over. over_by _ _ _ c.within.ensures.1 over) c.in-Err-expect.ensures.refused)

pub fields::base-returns-in-Ok-expect-clause-exact : goal.fields::base-returns-in-Ok-expect-clause-exact
fields::base-returns-in-Ok-expect-clause-exact t c = λ none.
    base_answer (inside c.args.used) c.args.depth c.args.tokens.now (type c.in-Ok.read.tree) c.in-Ok.read.height c.in-Ok.read.rest.now c.in-Ok-expect.open c.in-Ok-expect.inner.now _ none c.in-Ok.ensures.exact (c.within.ensures.0 c.in-Ok-expect.ensures.within) c.in-Ok-expect.ensures.is c.in-Ok-expect.ensures.kind refl

pub fields::enumerator-returns-in-Err-clause-exact : goal.fields::enumerator-returns-in-Err-clause-exact
fields::enumerator-returns-in-Err-clause-exact t c = enumerator_unnamed c.args.depth c.args.tokens.now c.in-Err.error c.in-Err.ensures.refused

pub fields::enumerator-returns-in-Err-given-clause-exact : goal.fields::enumerator-returns-in-Err-given-clause-exact
fields::enumerator-returns-in-Err-given-clause-exact t c = enumerator_refused c.args.depth c.in-Ok.found.0 c.args.tokens.now c.in-Ok.found.1.now c.in-Err-given.error c.in-Ok.ensures.is c.in-Ok.ensures.kind c.in-Err-given.ensures.exact

pub fields::given-returns-in-Ok-clause-exact : goal.fields::given-returns-in-Ok-clause-exact
fields::given-returns-in-Ok-clause-exact t c =
    given_answer c.args.depth c.in-Some._assign c.args.tokens.now c.in-Some.behind.now (expr c.in-Ok.field-0.tree) c.in-Ok.field-0.height c.in-Ok.field-0.rest.now _ c.in-Some.ensures.is c.in-Some.ensures.kind c.in-Ok.ensures.exact refl

pub fields::given-returns-in-Err-clause-exact : goal.fields::given-returns-in-Err-clause-exact
fields::given-returns-in-Err-clause-exact t c = given_refused c.args.depth c.in-Some._assign c.args.tokens.now c.in-Some.behind.now c.in-Err.error c.in-Some.ensures.is c.in-Some.ensures.kind c.in-Err.ensures.exact

pub fields::given-returns-in-None-clause-exact : goal.fields::given-returns-in-None-clause-exact
fields::given-returns-in-None-clause-exact t c = not_given c.args.depth c.args.tokens.now c.in-None.ensures.none

pub signatures::results-returns-in-None-clause-exact : goal.signatures::results-returns-in-None-clause-exact
signatures::results-returns-in-None-clause-exact t c = no_results c.args.used c.args.depth c.args.tokens.now c.in-None.ensures.none

pub signatures::results-returns-in-Some-strip-2-clause-exact : goal.signatures::results-returns-in-Some-strip-2-clause-exact
signatures::results-returns-in-Some-strip-2-clause-exact t c =
    results_empty c.args.used c.args.depth c.in-Some.found.0 c.in-Some-strip._open c.in-Some-strip-2._close c.args.tokens.now c.in-Some.found.1.now c.in-Some-strip.inner.now c.in-Some-strip-2._last.now
    c.in-Some.ensures.is c.in-Some.ensures.kind c.in-Some-strip.ensures.is c.in-Some-strip.ensures.kind c.in-Some-strip-2.ensures.is c.in-Some-strip-2.ensures.kind

pub signatures::results-returns-in-Ok-clause-exact : goal.signatures::results-returns-in-Ok-clause-exact
signatures::results-returns-in-Ok-clause-exact t c =
    results_answer c.args.used c.args.depth c.in-Some.found.0 c.in-Some-strip._open c.args.tokens.now c.in-Some.found.1.now c.in-Some-strip.inner.now (params c.in-Ok.read.tree.part.items, (c.in-Ok.read.tree.close, tt)) c.in-Ok.read.height c.in-Ok.read.rest.now _
    c.in-Some.ensures.is c.in-Some.ensures.kind c.in-Some-strip.ensures.is c.in-Some-strip.ensures.kind c.in-None-strip-2.ensures.none c.in-Ok.ensures.exact refl

pub signatures::results-returns-in-Err-clause-exact : goal.signatures::results-returns-in-Err-clause-exact
signatures::results-returns-in-Err-clause-exact t c =
    results_refused c.args.used c.args.depth c.in-Some.found.0 c.in-Some-strip._open c.args.tokens.now c.in-Some.found.1.now c.in-Some-strip.inner.now c.in-Err.error c.in-Some.ensures.is c.in-Some.ensures.kind c.in-Some-strip.ensures.is c.in-Some-strip.ensures.kind c.in-None-strip-2.ensures.none c.in-Err.ensures.exact

pub signatures::results-returns-in-Ok-type_to-clause-exact : goal.signatures::results-returns-in-Ok-type_to-clause-exact
signatures::results-returns-in-Ok-type_to-clause-exact t c =
    result_answer c.args.used c.at_end.result c.args.depth c.in-Some.found.0 c.args.tokens.now c.in-Some.found.1.now (type c.in-Ok-type_to.field-0.tree) c.in-Ok-type_to.field-0.height c.in-Ok-type_to.field-0.rest.now c.in-Ok-type_to.field-0.end _
    c.at_end.ensures c.in-Some.ensures.is c.in-Some.ensures.kind c.in-None-strip.ensures.none c.in-Ok-type_to.ensures.exact refl

pub signatures::results-returns-in-Err-type_to-clause-exact : goal.signatures::results-returns-in-Err-type_to-clause-exact
signatures::results-returns-in-Err-type_to-clause-exact t c =
    result_refused c.args.used c.at_end.result c.args.depth c.in-Some.found.0 c.args.tokens.now c.in-Some.found.1.now c.in-Err-type_to.error c.at_end.ensures c.in-Some.ensures.is c.in-Some.ensures.kind c.in-None-strip.ensures.none c.in-Err-type_to.ensures.exact

pub signatures::signature-returns-in-Err-clause-exact : goal.signatures::signature-returns-in-Err-clause-exact
signatures::signature-returns-in-Err-clause-exact t c = λ e. signature_unopened c.args.used c.args.depth c.args.proc c.args.behind.now c.convention-convention.result.0 c.convention-convention.result.1.now c.in-Err.error e c.convention-convention.ensures.is c.in-Err.ensures.refused

pub signatures::signature-returns-in-Err-params-clause-exact : goal.signatures::signature-returns-in-Err-params-clause-exact
signatures::signature-returns-in-Err-params-clause-exact t c = λ e.
    signature_refused c.args.used c.args.depth c.args.proc c.args.behind.now c.convention-convention.result.0 c.in-Ok.found.1.now c.in-Err-params.error
    (record { proc = e; open_ = c.in-Ok.found.0; after = c.convention-convention.result.1.now; convention = c.convention-convention.ensures.is; is = c.in-Ok.ensures.is; paren = c.in-Ok.ensures.kind }) c.in-Err-params.ensures.exact

pub signatures::signature-returns-in-Err-results-clause-exact : goal.signatures::signature-returns-in-Err-results-clause-exact
signatures::signature-returns-in-Err-results-clause-exact t c = λ e.
    because_as c.args.used (one (g.sig c.args.used)) c.args.depth _ c.in-Err-results.error c.discard_params.result c.discard_params.ensures
    (signature_results_refused c.args.used c.args.depth c.args.proc c.args.behind.now c.convention-convention.result.0 c.in-Ok.found.1.now (params c.in-Ok-params.read.tree.part.items, (c.in-Ok-params.read.tree.close, tt)) c.in-Ok-params.read.height c.in-Ok-params.read.rest.now c.in-Err-results.error
    (record { proc = e; open_ = c.in-Ok.found.0; after = c.convention-convention.result.1.now; convention = c.convention-convention.ensures.is; is = c.in-Ok.ensures.is; paren = c.in-Ok.ensures.kind }) c.in-Ok-params.ensures.exact c.in-Ok-params.ensures.low c.in-Err-results.ensures.exact)

pub signatures::signature-returns-in-Ok-results-clause-exact : goal.signatures::signature-returns-in-Ok-results-clause-exact
signatures::signature-returns-in-Ok-results-clause-exact t c = λ e.
    signature_answer c.args.used c.args.depth c.args.proc c.args.behind.now c.convention-convention.result.0 c.in-Ok.found.1.now (params c.in-Ok-params.read.tree.part.items, (c.in-Ok-params.read.tree.close, tt)) c.in-Ok-params.read.height c.in-Ok-params.read.rest.now
    (result_kind c.in-Ok-results.field-0.tree) c.in-Ok-results.field-0.height c.in-Ok-results.field-0.rest.now c.in-Ok-results.field-0.end _ _
    (record { proc = e; open_ = c.in-Ok.found.0; after = c.convention-convention.result.1.now; convention = c.convention-convention.ensures.is; is = c.in-Ok.ensures.is; paren = c.in-Ok.ensures.kind }) c.in-Ok-params.ensures.exact c.in-Ok-params.ensures.low c.in-Ok-results.ensures.exact
    c.signature.ensures (omega (arith, c.max.ensures))

pub types::group-returns-in-Ok-expect-clause-exact : goal.types::group-returns-in-Ok-expect-clause-exact
types::group-returns-in-Ok-expect-clause-exact t c = λ e.
    group_type_answer c.args.used c.args.depth c.args.paren c.in-Ok-expect._close c.args.behind.now (type c.in-Ok.read.tree) c.in-Ok.read.height _ c.in-Ok.read.rest.now c.in-Ok-expect.rest.now e c.in-Ok.ensures.exact (c.within.ensures.0 c.in-Ok-expect.ensures.within) c.in-Ok-expect.ensures.is c.in-Ok-expect.ensures.kind (omega arith)

pub types::group-returns-in-Err-expect-clause-exact : goal.types::group-returns-in-Err-expect-clause-exact
types::group-returns-in-Err-expect-clause-exact t c = λ e.
    because_as c.args.used (one (g.type_ c.args.used)) (suc c.args.depth) _ c.in-Err-expect.error c.discard_type.result c.discard_type.ensures
    (group_type_unclosed c.args.used c.args.depth c.args.paren c.args.behind.now (type c.in-Ok.read.tree) c.in-Ok.read.height c.in-Ok.read.rest.now c.in-Err-expect.error _ e c.in-Ok.ensures.exact (λ over. over_by _ _ _ c.within.ensures.1 over) c.in-Err-expect.ensures.refused)

pub arrays::counted-returns-else-counts-clause-exact : goal.arrays::counted-returns-else-counts-clause-exact
arrays::counted-returns-else-counts-clause-exact t c = λ ts z.
    because_as c.args.used (one (g.constructed c.args.used)) (suc c.args.depth) ts (stop.Syntax (length c.in-Ok-ty.read.rest.now)) c.discard_type.result c.discard_type.ensures
    (counted_broken c.args.used c.args.shape c.args.at c.args.depth ts c.args.tokens.now c.in-Ok.found.0 c.in-Ok.found.1.now (type c.in-Ok-ty.read.tree) c.in-Ok-ty.read.height c.in-Ok-ty.read.rest.now z c.in-Ok.ensures.is c.in-Ok.ensures.kind c.in-Ok-ty.ensures.exact (sym c.counts.ensures ∙ c.if-counts.false))

pub arrays::counted-returns-in_ok-bracketed-clause-exact : goal.arrays::counted-returns-in_ok-bracketed-clause-exact
arrays::counted-returns-in_ok-bracketed-clause-exact t c = λ ts z.
    counted_answer c.args.used c.args.shape c.args.at c.args.depth ts c.args.tokens.now c.in-Ok.found.0 c.in-Ok.found.1.now (type c.in-Ok-ty.read.tree) c.in-Ok-ty.read.height c.in-Ok-ty.read.rest.now _ _ z c.in-Ok.ensures.is c.in-Ok.ensures.kind c.in-Ok-ty.ensures.exact c.in-Ok-ty.ensures.low
    (sym c.counts.ensures ∙ c.if-counts.true) c.in_ok-bracketed.ensures (omega arith)

pub arrays::fixed-returns-in-Ok-expect-clause-exact : goal.arrays::fixed-returns-in-Ok-expect-clause-exact
arrays::fixed-returns-in-Ok-expect-clause-exact t c = λ f d o.
    fixed_answer c.args.used c.args.depth c.in-Ok-expect.close c.args.tokens.now (expr c.in-Ok.read.tree) c.in-Ok.read.height c.in-Ok.read.rest.now c.in-Ok-expect.rest.now f d o c.in-Ok.ensures.exact (c.within.ensures.0 c.in-Ok-expect.ensures.within) c.in-Ok-expect.ensures.is c.in-Ok-expect.ensures.kind

pub arrays::fixed-returns-in-Err-expect-clause-exact : goal.arrays::fixed-returns-in-Err-expect-clause-exact
arrays::fixed-returns-in-Err-expect-clause-exact t c = λ f d o.
    because (length_line c.args.used) nothing_continues c.args.depth c.args.tokens.now c.in-Err-expect.error c.discard_expr.result c.discard_expr.ensures
    (fixed_unclosed c.args.used c.args.depth c.args.tokens.now (expr c.in-Ok.read.tree) c.in-Ok.read.height c.in-Ok.read.rest.now c.in-Err-expect.error _ f d o c.in-Ok.ensures.exact (λ over. over_by _ _ _ c.within.ensures.1 over) c.in-Err-expect.ensures.refused)

pub fields::enumerator-returns-in-Ok-given-clause-exact : goal.fields::enumerator-returns-in-Ok-given-clause-exact
fields::enumerator-returns-in-Ok-given-clause-exact t c =
    enumerator_answer c.args.depth c.in-Ok.found.0 c.args.tokens.now c.in-Ok.found.1.now (maybe_expr c.in-Ok-given.field-0.tree) c.in-Ok-given.field-0.height c.in-Ok-given.field-0.rest.now c.in-Ok.ensures.is c.in-Ok.ensures.kind c.in-Ok-given.ensures.exact

-- parameters
pub params::params-returns-in-Ok-clause-exact : goal.params::params-returns-in-Ok-clause-exact
params::params-returns-in-Ok-clause-exact t c =
    let n = c.in-Ok.ensures.declares in
    let f = front_at c.args.used c.inside.result c.args.tokens.now c.behind_dollar.result.now c.inside.ensures c.behind_dollar.ensures.front in
    params_named (inside c.args.used) (takes_dot c.args.used) c.args.depth f n _ (c.named_list.ensures.exact (not_empty f n))

pub params::params-returns-then-at-tokens-clause-exact : goal.params::params-returns-then-at-tokens-clause-exact
params::params-returns-then-at-tokens-clause-exact t c =
    let f = front_at c.args.used c.inside.result c.args.tokens.now c.behind_dollar.result.now c.inside.ensures c.behind_dollar.ensures.front in
    params_unnamed (inside c.args.used) c.args.depth f c.in-Err.ensures.undeclared (omega arith) _ c.bare_list.ensures.exact

pub params::params-returns-then-depth-eq0-clause-exact : goal.params::params-returns-then-depth-eq0-clause-exact
params::params-returns-then-depth-eq0-clause-exact t c =
    let f = front_at c.args.used c.inside.result c.args.tokens.now c.behind_dollar.result.now c.inside.ensures c.behind_dollar.ensures.front in
    at_none (params_line (inside c.args.used)) nothing_continues c.args.depth c.args.tokens.now _ c.if-depth-eq0.true
    (c.crossed.ensures.exact c.behind_dollar.result.now f c.in-Err.ensures.undeclared (let a = blocked_short c.in-Err.ensures.undeclared in let s = front_short f in omega (arith, a, s)))

pub params::params-returns-else-depth-eq0-clause-exact : goal.params::params-returns-else-depth-eq0-clause-exact
params::params-returns-else-depth-eq0-clause-exact t c =
    let f = front_at c.args.used c.inside.result c.args.tokens.now c.behind_dollar.result.now c.inside.ensures c.behind_dollar.ensures.front in
    params_bare (inside c.args.used) (takes_dot c.args.used) c.args.depth (omega arith) f c.in-Err.ensures.undeclared _ c.bare_list-in-Err.ensures.exact

pub params::crossed-returns-in-Ok-clause-exact : goal.params::crossed-returns-in-Ok-clause-exact
params::crossed-returns-in-Ok-clause-exact t c = λ us f b less.
    because (params_line (inside c.args.used)) nothing_continues 0 c.args.tokens.now (stop.Deep (length c.args.at.now - 1)) c.discard_params.result (c.discard_params.ensures ∙ ap stop.Deep (omega (arith, c.saturating_sub.ensures)))
    (crossed_found (inside c.args.used) (params c.in-Ok.field-0.tree.part.items, (c.in-Ok.field-0.tree.close, tt)) c.in-Ok.field-0.height c.in-Ok.field-0.rest.now f b less c.in-Ok.ensures.exact
    (found_near (inside c.args.used) (takes_dot c.args.used) (params c.in-Ok.field-0.tree.part.items, (c.in-Ok.field-0.tree.close, tt)) c.in-Ok.field-0.height c.in-Ok.field-0.rest.now f b c.in-Ok.ensures.exact))

pub params::crossed-returns-in-Err-clause-exact : goal.params::crossed-returns-in-Err-clause-exact
params::crossed-returns-in-Err-clause-exact t c = λ us f b less.
    crossed_refused (inside c.args.used) (takes_dot c.args.used) f b less c.in-Err.error c.crossed_by.result c.crossed_by.ensures c.in-Err.ensures.exact

pub params::named_list-items-init : goal.params::named_list-items-init
params::named_list-items-init t c = record {
  led = λ some. named_begin (inside c.args.used) c.args.depth c.args.tokens.now c.new-list.result.items c.new-list.ensures.items some;
  short = omega arith;
  low = omega arith;
}

pub params::named_list-returns-in-Err-clause-exact : goal.params::named_list-returns-in-Err-clause-exact
params::named_list-returns-in-Err-clause-exact t c = λ some.
    because (named_line (inside c.args.used)) nothing_continues c.args.depth c.args.tokens.now c.in-Err.error c.discard_params.result c.discard_params.ensures
    (item_refused (named_list (inside c.args.used)) (named_line (inside c.args.used)) c.args.depth c.args.tokens.now c.items.list.items c.items.height c.items.rest.now c.in-Err.error (c.items.invariant.led some) c.items.invariant.low c.in-Err.ensures.exact)

pub params::named_list-returns-in-Some-clause-exact : goal.params::named_list-returns-in-Some-clause-exact
params::named_list-returns-in-Some-clause-exact t c = λ some.
    list_answer (named_list (inside c.args.used)) (named_line (inside c.args.used)) c.args.depth c.args.tokens.now c.items.list.items _ c.in-Ok.read.tree _ c.in-Ok.read.rest.now c.in-Some.close c.in-Ok-after_item.found.1.now
    (item_as (named_list (inside c.args.used)) (named_line (inside c.args.used)) c.args.depth c.args.tokens.now c.items.list.items c.items.height c.items.rest.now _ c.in-Ok.read.height _ c.in-Ok.read.rest.now (c.items.invariant.led some) c.items.invariant.low c.in-Ok.ensures.exact (omega (arith, c.max-height.ensures)))
    c.in_ok-list.ensures (c.within.ensures.0 c.in-Ok-after_item.ensures.within)
    (ended_by kind.CloseParen c.in-Ok.read.rest.now c.in-Ok-after_item.found.0 c.in-Some.close c.in-Ok-after_item.found.1.now c.in-Some.is c.in-Ok-after_item.ensures.ended)

pub params::named_list-items-preserved : goal.params::named_list-items-preserved
params::named_list-items-preserved t c = record {
  led = λ some.
      list_goes_on (named_list (inside c.args.used)) (named_line (inside c.args.used)) c.args.depth c.args.tokens.now c.items.list.items _ c.in-Ok.read.tree _ c.in-Ok.read.rest.now c.in-Ok-after_item.found.1.now
      (item_as (named_list (inside c.args.used)) (named_line (inside c.args.used)) c.args.depth c.args.tokens.now c.items.list.items c.items.height c.items.rest.now _ c.in-Ok.read.height _ c.in-Ok.read.rest.now (c.items.invariant.led some) c.items.invariant.low c.in-Ok.ensures.exact (omega (arith, c.max-height.ensures)))
      c.in_ok-list.ensures (c.within.ensures.0 c.in-Ok-after_item.ensures.within)
      (again_by kind.CloseParen c.in-Ok.read.rest.now c.in-Ok-after_item.found.0 c.in-Ok-after_item.found.1.now c.in-None.is c.in-Ok-after_item.ensures.again);
  short = let read = c.in-Ok.ensures.shorter in let more = c.in-Ok-after_item.ensures.shorter in let before = c.items.invariant.short in omega (arith, read, more, before);
  low = c.within.ensures.0 c.in-Ok-after_item.ensures.within;
}

pub params::named_list-returns-in-Err-after_item-clause-exact : goal.params::named_list-returns-in-Err-after_item-clause-exact
params::named_list-returns-in-Err-after_item-clause-exact t c = λ some.
    because (named_line (inside c.args.used)) nothing_continues c.args.depth c.args.tokens.now c.in-Err-after_item.error c.discard_params-in-Err-after_item.result c.discard_params-in-Err-after_item.ensures
    (list_stuck (named_list (inside c.args.used)) (named_line (inside c.args.used)) c.args.depth c.args.tokens.now c.items.list.items _ c.max-height.result c.in-Ok.read.rest.now c.in-Err-after_item.error _
    (item_as (named_list (inside c.args.used)) (named_line (inside c.args.used)) c.args.depth c.args.tokens.now c.items.list.items c.items.height c.items.rest.now _ c.in-Ok.read.height _ c.in-Ok.read.rest.now (c.items.invariant.led some) c.items.invariant.low c.in-Ok.ensures.exact (omega (arith, c.max-height.ensures)))
    c.in-Err-after_item.ensures.refused (λ over. over_by _ _ _ c.within.ensures.1 over))

pub params::bare_list-returns-in-Some-clause-exact : goal.params::bare_list-returns-in-Some-clause-exact
params::bare_list-returns-in-Some-clause-exact t c = bare_empty (inside c.args.used) c.args.depth c.in-Some.close c.args.tokens.now c.in-Some.rest.now c.new-list.result.items c.new-list.ensures.items c.in-Some.ensures.is c.in-Some.ensures.kind

pub params::bare_list-items-init : goal.params::bare_list-items-init
params::bare_list-items-init t c = record {
  led = bare_begin (inside c.args.used) c.args.depth c.args.tokens.now c.new-list.result.items c.new-list.ensures.items c.in_default.ensures.none;
  short = omega arith;
  low = omega arith;
}

pub params::bare_list-returns-in-Err-clause-exact : goal.params::bare_list-returns-in-Err-clause-exact
params::bare_list-returns-in-Err-clause-exact t c =
    because (bare_line (inside c.args.used)) nothing_continues c.args.depth c.args.tokens.now c.in-Err.error c.discard_params.result c.discard_params.ensures
    (item_refused (bare_list (inside c.args.used)) (bare_line (inside c.args.used)) c.args.depth c.args.tokens.now c.items.list.items c.items.height c.items.rest.now c.in-Err.error c.items.invariant.led c.items.invariant.low c.in-Err.ensures.exact)

pub params::bare_list-returns-in-Some-end-clause-exact : goal.params::bare_list-returns-in-Some-end-clause-exact
params::bare_list-returns-in-Some-end-clause-exact t c =
    list_answer (bare_list (inside c.args.used)) (bare_line (inside c.args.used)) c.args.depth c.args.tokens.now c.items.list.items _ c.in-Ok.read.tree _ c.in-Ok.read.rest.now c.in-Some-end.close c.in-Ok-after_item.found.1.now
    (item_as (bare_list (inside c.args.used)) (bare_line (inside c.args.used)) c.args.depth c.args.tokens.now c.items.list.items c.items.height c.items.rest.now _ c.in-Ok.read.height _ c.in-Ok.read.rest.now c.items.invariant.led c.items.invariant.low c.in-Ok.ensures.exact (omega (arith, c.max-height.ensures)))
    c.in_ok-list.ensures (c.within.ensures.0 c.in-Ok-after_item.ensures.within)
    (ended_by kind.CloseParen c.in-Ok.read.rest.now c.in-Ok-after_item.found.0 c.in-Some-end.close c.in-Ok-after_item.found.1.now c.in-Some-end.is c.in-Ok-after_item.ensures.ended)

pub params::bare_list-items-preserved : goal.params::bare_list-items-preserved
params::bare_list-items-preserved t c = record {
  led =
      list_goes_on (bare_list (inside c.args.used)) (bare_line (inside c.args.used)) c.args.depth c.args.tokens.now c.items.list.items _ c.in-Ok.read.tree _ c.in-Ok.read.rest.now c.in-Ok-after_item.found.1.now
      (item_as (bare_list (inside c.args.used)) (bare_line (inside c.args.used)) c.args.depth c.args.tokens.now c.items.list.items c.items.height c.items.rest.now _ c.in-Ok.read.height _ c.in-Ok.read.rest.now c.items.invariant.led c.items.invariant.low c.in-Ok.ensures.exact (omega (arith, c.max-height.ensures)))
      c.in_ok-list.ensures (c.within.ensures.0 c.in-Ok-after_item.ensures.within)
      (again_by kind.CloseParen c.in-Ok.read.rest.now c.in-Ok-after_item.found.0 c.in-Ok-after_item.found.1.now c.in-None.is c.in-Ok-after_item.ensures.again);
  short = let read = c.in-Ok.ensures.shorter in let more = c.in-Ok-after_item.ensures.shorter in let before = c.items.invariant.short in omega (arith, read, more, before);
  low = c.within.ensures.0 c.in-Ok-after_item.ensures.within;
}

pub params::bare_list-returns-in-Err-after_item-clause-exact : goal.params::bare_list-returns-in-Err-after_item-clause-exact
params::bare_list-returns-in-Err-after_item-clause-exact t c =
    because (bare_line (inside c.args.used)) nothing_continues c.args.depth c.args.tokens.now c.in-Err-after_item.error c.discard_params-in-Err-after_item.result c.discard_params-in-Err-after_item.ensures
    (list_stuck (bare_list (inside c.args.used)) (bare_line (inside c.args.used)) c.args.depth c.args.tokens.now c.items.list.items _ c.max-height.result c.in-Ok.read.rest.now c.in-Err-after_item.error _
    (item_as (bare_list (inside c.args.used)) (bare_line (inside c.args.used)) c.args.depth c.args.tokens.now c.items.list.items c.items.height c.items.rest.now _ c.in-Ok.read.height _ c.in-Ok.read.rest.now c.items.invariant.led c.items.invariant.low c.in-Ok.ensures.exact (omega (arith, c.max-height.ensures)))
    c.in-Err-after_item.ensures.refused (λ over. over_by _ _ _ c.within.ensures.1 over))

pub params::bare-returns-in-Ok-clause-exact : goal.params::bare-returns-in-Ok-clause-exact
params::bare-returns-in-Ok-clause-exact t c =
    of_params.bare_answer (inside c.args.used) c.args.depth c.args.tokens.now (type c.in-Ok.field-0.tree) c.in-Ok.field-0.height c.in-Ok.field-0.rest.now _ c.in-Ok.ensures.exact c.bare_param.ensures

pub params::bare-returns-in-Err-clause-exact : goal.params::bare-returns-in-Err-clause-exact
params::bare-returns-in-Err-clause-exact t c = of_params.bare_refused (inside c.args.used) c.args.depth c.args.tokens.now c.in-Err.error c.in-Err.ensures.exact

pub params::named-returns-in-Some-clause-exact : goal.params::named-returns-in-Some-clause-exact
params::named-returns-in-Some-clause-exact t c =
    dollar_named c.args.used c.inside.result c.args.depth c.args.tokens.now c.in-Some.dollar c.in-Some.behind.now _ c.inside.ensures c.in-Some.ensures.used c.in-Some.ensures.is (c.parametric.ensures.exact c.in-Some.ensures.kind)

pub params::named-returns-in-None-clause-exact : goal.params::named-returns-in-None-clause-exact
params::named-returns-in-None-clause-exact t c = c.plain.ensures.exact (λ i. c.in-None.ensures.none (c.inside.ensures ∙ i))

pub params::plain-returns-in-Err-clause-exact : goal.params::plain-returns-in-Err-clause-exact
params::plain-returns-in-Err-clause-exact t c = λ none. of_params.param_unnamed (inside c.args.used) c.args.depth c.args.tokens.now c.in-Err.error none (c.in-Err.ensures.exact c.args.depth)

pub params::plain-returns-in-Ok-given-clause-exact : goal.params::plain-returns-in-Ok-given-clause-exact
params::plain-returns-in-Ok-given-clause-exact t c = λ none.
    of_params.typeid_answer (inside c.args.used) c.args.depth c.args.tokens.now c.in-Ok.read.0.items c.in-Ok.read.2.now c.in-Some._typeid c.in-Some.behind.now (maybe_expr c.in-Ok-given.field-0.tree) c.in-Ok-given.field-0.height c.in-Ok-given.field-0.rest.now _
    (of_params.param_named (inside c.args.used) c.args.depth c.args.tokens.now c.in-Ok.read.0.items c.in-Ok.read.1 c.in-Ok.read.2.now none (c.in-Ok.ensures.exact c.args.depth)) c.in-Some.ensures.is c.in-Some.ensures.kind c.in-Ok-given.ensures.exact c.typeid_param.ensures

pub params::plain-returns-in-Err-given-clause-exact : goal.params::plain-returns-in-Err-given-clause-exact
params::plain-returns-in-Err-given-clause-exact t c = λ none.
    of_params.typeid_refused (inside c.args.used) c.args.depth c.args.tokens.now c.in-Ok.read.0.items c.in-Ok.read.2.now c.in-Some._typeid c.in-Some.behind.now c.in-Err-given.error
    (of_params.param_named (inside c.args.used) c.args.depth c.args.tokens.now c.in-Ok.read.0.items c.in-Ok.read.1 c.in-Ok.read.2.now none (c.in-Ok.ensures.exact c.args.depth)) c.in-Some.ensures.is c.in-Some.ensures.kind c.in-Err-given.ensures.exact

pub params::plain-returns-in-Ok-level-clause-exact : goal.params::plain-returns-in-Ok-level-clause-exact
params::plain-returns-in-Ok-level-clause-exact t c = λ none.
    of_params.inferred_answer (inside c.args.used) c.args.depth c.args.tokens.now c.in-Ok.read.0.items c.in-Ok.read.2.now c.in-Some-strip._assign c.in-Some-strip.behind.now (expr c.in-Ok-level.field-0.tree) c.in-Ok-level.field-0.height c.in-Ok-level.field-0.rest.now _
    (of_params.param_named (inside c.args.used) c.args.depth c.args.tokens.now c.in-Ok.read.0.items c.in-Ok.read.1 c.in-Ok.read.2.now none (c.in-Ok.ensures.exact c.args.depth)) c.in-Some-strip.ensures.is c.in-Some-strip.ensures.kind c.in-Ok-level.ensures.exact c.inferred_param.ensures

pub params::plain-returns-in-Err-level-clause-exact : goal.params::plain-returns-in-Err-level-clause-exact
params::plain-returns-in-Err-level-clause-exact t c = λ none.
    of_params.inferred_refused (inside c.args.used) c.args.depth c.args.tokens.now c.in-Ok.read.0.items c.in-Ok.read.2.now c.in-Some-strip._assign c.in-Some-strip.behind.now c.in-Err-level.error
    (of_params.param_named (inside c.args.used) c.args.depth c.args.tokens.now c.in-Ok.read.0.items c.in-Ok.read.1 c.in-Ok.read.2.now none (c.in-Ok.ensures.exact c.args.depth)) c.in-Some-strip.ensures.is c.in-Some-strip.ensures.kind c.in-Err-level.ensures.exact

pub params::plain-returns-in-Ok-typed-clause-exact : goal.params::plain-returns-in-Ok-typed-clause-exact
params::plain-returns-in-Ok-typed-clause-exact t c = λ none.
    of_params.typed_answer (inside c.args.used) c.args.depth c.args.tokens.now c.in-Ok.read.0.items c.in-Ok.read.2.now (type c.in-Ok-typed.read.tree.ty, maybe_expr c.in-Ok-typed.read.tree.default) c.in-Ok-typed.read.height c.in-Ok-typed.read.rest.now _
    (of_params.param_named (inside c.args.used) c.args.depth c.args.tokens.now c.in-Ok.read.0.items c.in-Ok.read.1 c.in-Ok.read.2.now none (c.in-Ok.ensures.exact c.args.depth)) c.in-None.ensures.none c.in-None-strip.ensures.none c.in-Ok-typed.ensures.exact c.typed_param.ensures

pub params::plain-returns-in-Err-typed-clause-exact : goal.params::plain-returns-in-Err-typed-clause-exact
params::plain-returns-in-Err-typed-clause-exact t c = λ none.
    of_params.typed_refused (inside c.args.used) c.args.depth c.args.tokens.now c.in-Ok.read.0.items c.in-Ok.read.2.now c.in-Err-typed.error
    (of_params.param_named (inside c.args.used) c.args.depth c.args.tokens.now c.in-Ok.read.0.items c.in-Ok.read.1 c.in-Ok.read.2.now none (c.in-Ok.ensures.exact c.args.depth)) c.in-None.ensures.none c.in-None-strip.ensures.none c.in-Err-typed.ensures.exact

pub params::typed-returns-in-Err-clause-exact : goal.params::typed-returns-in-Err-clause-exact
params::typed-returns-in-Err-clause-exact t c = of_params.type_refused (inside c.args.used) c.args.depth c.args.tokens.now c.in-Err.error c.in-Err.ensures.exact

pub params::typed-returns-in-Ok-given-clause-exact : goal.params::typed-returns-in-Ok-given-clause-exact
params::typed-returns-in-Ok-given-clause-exact t c =
    of_params.default_answer (inside c.args.used) c.args.depth c.args.tokens.now (type c.in-Ok.read.tree) c.in-Ok.read.height c.in-Ok.read.rest.now (maybe_expr c.in-Ok-given.field-0.tree) c.in-Ok-given.field-0.height c.in-Ok-given.field-0.rest.now _ c.in-Ok.ensures.exact c.in-Ok.ensures.low c.in-Ok-given.ensures.exact c.max.ensures

pub params::typed-returns-in-Err-given-clause-exact : goal.params::typed-returns-in-Err-given-clause-exact
params::typed-returns-in-Err-given-clause-exact t c =
    because (typed_line (inside c.args.used)) continues_argument c.args.depth c.args.tokens.now c.in-Err-given.error c.discard_type.result c.discard_type.ensures
    (of_params.default_refused (inside c.args.used) c.args.depth c.args.tokens.now (type c.in-Ok.read.tree) c.in-Ok.read.height c.in-Ok.read.rest.now c.in-Err-given.error c.in-Ok.ensures.exact c.in-Ok.ensures.low c.in-Err-given.ensures.exact)

pub params::parametric-returns-in-Err-clause-exact : goal.params::parametric-returns-in-Err-clause-exact
params::parametric-returns-in-Err-clause-exact t c = λ e. dollar_unnamed c.args.depth c.args.dollar c.args.behind.now c.in-Err.error e (c.in-Err.ensures.exact c.args.depth)

pub params::parametric-returns-in-Ok-given-clause-exact : goal.params::parametric-returns-in-Ok-given-clause-exact
params::parametric-returns-in-Ok-given-clause-exact t c = λ e.
    dollar_typeid_answer c.args.depth c.args.dollar c.in-Some._typeid c.args.behind.now c.in-Ok.read.0.items c.in-Ok.read.1 c.in-Ok.read.2.now c.in-Some.rest.now (maybe_expr c.in-Ok-given.field-0.tree) c.in-Ok-given.field-0.height c.in-Ok-given.field-0.rest.now _
    e c.in-Ok.ensures.exact c.in-Some.ensures.is c.in-Some.ensures.kind c.in-Ok-given.ensures.exact c.typeid_param.ensures

pub params::parametric-returns-in-Err-given-clause-exact : goal.params::parametric-returns-in-Err-given-clause-exact
params::parametric-returns-in-Err-given-clause-exact t c = λ e.
    dollar_typeid_refused c.args.depth c.args.dollar c.in-Some._typeid c.args.behind.now c.in-Ok.read.0.items c.in-Ok.read.1 c.in-Ok.read.2.now c.in-Some.rest.now c.in-Err-given.error
    e c.in-Ok.ensures.exact c.in-Some.ensures.is c.in-Some.ensures.kind c.in-Err-given.ensures.exact

pub params::parametric-returns-then-depth-eq0-clause-exact : goal.params::parametric-returns-then-depth-eq0-clause-exact
params::parametric-returns-then-depth-eq0-clause-exact t c = λ e.
    dollar_int_deep c.args.depth c.args.dollar c.in-Some-strip_int.int c.args.behind.now c.in-Ok.read.0.items c.in-Ok.read.1 c.in-Ok.read.2.now c.in-Some-strip_int.rest.now c.if-depth-eq0.true
    e c.in-Ok.ensures.exact c.in-Some-strip_int.ensures.is c.in-Some-strip_int.ensures.kind c.in-Some-strip_int.ensures.word

pub params::parametric-returns-in_ok-int_param-in-Ok-given-2-clause-exact : goal.params::parametric-returns-in_ok-int_param-in-Ok-given-2-clause-exact
params::parametric-returns-in_ok-int_param-in-Ok-given-2-clause-exact t c = λ e.
    dollar_int_answer c.args.depth c.args.dollar c.in-Some-strip_int.int c.args.behind.now c.in-Ok.read.0.items c.in-Ok.read.1 c.in-Ok.read.2.now c.in-Some-strip_int.rest.now (maybe_expr c.in-Ok-given-2.field-0.tree) c.in-Ok-given-2.field-0.height c.in-Ok-given-2.field-0.rest.now _ _
    e c.in-Ok.ensures.exact c.in-Some-strip_int.ensures.is c.in-Some-strip_int.ensures.kind c.in-Some-strip_int.ensures.word (omega arith) c.in-Ok-given-2.ensures.exact c.in_ok-int_param-in-Ok-given-2.ensures (omega (arith, c.max.ensures))

pub params::parametric-returns-in-Err-given-2-clause-exact : goal.params::parametric-returns-in-Err-given-2-clause-exact
params::parametric-returns-in-Err-given-2-clause-exact t c = λ e.
    dollar_int_refused c.args.depth c.args.dollar c.in-Some-strip_int.int c.args.behind.now c.in-Ok.read.0.items c.in-Ok.read.1 c.in-Ok.read.2.now c.in-Some-strip_int.rest.now c.in-Err-given-2.error
    e c.in-Ok.ensures.exact c.in-Some-strip_int.ensures.is c.in-Some-strip_int.ensures.kind c.in-Some-strip_int.ensures.word (omega arith) c.in-Err-given-2.ensures.exact

pub params::parametric-returns-in-None-strip_int-clause-exact : goal.params::parametric-returns-in-None-strip_int-clause-exact
params::parametric-returns-in-None-strip_int-clause-exact t c = λ e.
    dollar_untyped c.args.depth c.args.dollar c.args.behind.now c.in-Ok.read.0.items c.in-Ok.read.1 c.in-Ok.read.2.now e c.in-Ok.ensures.exact c.in-None.ensures.none c.in-None-strip_int.ensures.none

-- procedures
pub procedure::procedure-returns-in-Some-clause-exact : goal.procedure::procedure-returns-in-Some-clause-exact
procedure::procedure-returns-in-Some-clause-exact t c = λ z. of_procedures.procedure_at c.args.mode (suc c.args.depth) c.args.tokens.now c.in-Some.proc c.in-Some.behind.now _ c.in-Some.ensures.is (c.lambda.ensures.exact c.in-Some.ensures.kind)

pub procedure::procedure-returns-in-None-clause-exact : goal.procedure::procedure-returns-in-None-clause-exact
procedure::procedure-returns-in-None-clause-exact t c = λ z. absurd (stands kind.Proc c.args.tokens.now z c.in-None.ensures.none)

pub procedure::lambda-returns-in-Err-clause-exact : goal.procedure::lambda-returns-in-Err-clause-exact
procedure::lambda-returns-in-Err-clause-exact t c = λ e.
    refused_to (one (g.operand c.args.mode)) nothing_continues (suc c.args.depth) (c.args.proc ∷ c.args.behind.now) c.in-Err.error
    (of_procedures.signature_refused c.args.mode c.args.depth c.args.proc c.args.behind.now c.in-Err.error e
    (as_refused (one (g.sig Operand)) nothing_continues c.args.depth (c.args.proc ∷ c.args.behind.now) Operand c.in-Err.error (c.in-Err.ensures.exact e)))

pub procedure::lambda-returns-then-takes_braces-clause-exact : goal.procedure::lambda-returns-then-takes_braces-clause-exact
procedure::lambda-returns-then-takes_braces-clause-exact t c = λ e.
    c.with_body.ensures.exact c.in-Ok.ensures.low c.args.mode (c.args.proc ∷ c.args.behind.now) (of_procedures.takes_body c.args.mode (sym c.takes_braces.ensures ∙ c.if-takes_braces.true)) e
    (to_found c.in-Ok.read.end (c.in-Ok.ensures.exact e) (brace_no_dot c.in-Some._open c.in-Ok.read.rest.now c.in-Some._inner.now c.in-Some.ensures.is c.in-Some.ensures.kind))
    (stands_at kind.OpenBrace c.in-Some._open c.in-Ok.read.rest.now c.in-Some._inner.now c.in-Some.ensures.is c.in-Some.ensures.kind)

pub procedure::lambda-returns-else-takes_braces-clause-exact : goal.procedure::lambda-returns-else-takes_braces-clause-exact
procedure::lambda-returns-else-takes_braces-clause-exact t c = λ e.
    because_to (one (g.operand c.args.mode)) nothing_continues (suc c.args.depth) (c.args.proc ∷ c.args.behind.now) (stop.Syntax (length c.in-Ok.read.rest.now)) c.discard_signature.result c.discard_signature.ensures
    (of_procedures.body_nowhere c.args.mode (of_procedures.takes_none c.args.mode (sym c.takes_braces.ensures ∙ c.if-takes_braces.false)) c.args.depth c.args.proc c.args.behind.now (signature c.in-Ok.read.tree) c.in-Ok.read.height c.in-Some._open c.in-Some._inner.now c.in-Ok.read.rest.now e
    (to_found c.in-Ok.read.end (c.in-Ok.ensures.exact e) (brace_no_dot c.in-Some._open c.in-Ok.read.rest.now c.in-Some._inner.now c.in-Some.ensures.is c.in-Some.ensures.kind)) c.in-Some.ensures.is c.in-Some.ensures.kind)

pub procedure::lambda-returns-in_ok-proc_type-in-None-clause-exact : goal.procedure::lambda-returns-in_ok-proc_type-in-None-clause-exact
procedure::lambda-returns-in_ok-proc_type-in-None-clause-exact t c = λ e.
    of_procedures.type_answer c.args.mode c.args.depth c.args.proc c.args.behind.now (signature c.in-Ok.read.tree) c.in-Ok.read.height c.in-Ok.read.rest.now c.in-Ok.read.end _ _ e (c.in-Ok.ensures.exact e) c.in-None.ensures.none c.in_ok-proc_type-in-None.ensures (omega arith)

pub procedure::with_body-returns-in_ok-proc_literal-in-Ok-clause-exact : goal.procedure::with_body-returns-in_ok-proc_literal-in-Ok-clause-exact
procedure::with_body-returns-in_ok-proc_literal-in-Ok-clause-exact t c = λ low mode ts free proc found brace.
    found_to (bodied mode free c.args.depth ts (signature c.args.s) c.args.height c.args.tokens.now (view.stmts c.in-Ok.field-0.tree.items) c.in-Ok.field-0.height c.in-Ok.field-0.rest.now _ _ proc found low brace c.in-Ok.ensures.exact c.in_ok-proc_literal-in-Ok.ensures
    (let n = c.in-Ok.ensures.low in omega (arith, c.max.ensures, c.saturating_add.ensures, low, n)))

pub procedure::with_body-returns-in-Err-clause-exact : goal.procedure::with_body-returns-in-Err-clause-exact
procedure::with_body-returns-in-Err-clause-exact t c = λ low mode ts free proc found brace.
    because_to (one (g.operand mode)) nothing_continues (suc c.args.depth) ts c.in-Err.error c.discard_signature.result c.discard_signature.ensures
    (refused_to (one (g.operand mode)) nothing_continues (suc c.args.depth) ts c.in-Err.error
    (body_stopped mode free c.args.depth ts (signature c.args.s) c.args.height c.args.tokens.now c.in-Err.error proc found low brace c.in-Err.ensures.exact))

pub exprs::exprs-returns-in-Ok-clause-exact : goal.exprs::exprs-returns-in-Ok-clause-exact
exprs::exprs-returns-in-Ok-clause-exact t c = c.exprs_from.ensures.exact c.args.tokens.now c.in-Ok.ensures.exact

pub exprs::exprs-returns-in-Err-clause-exact : goal.exprs::exprs-returns-in-Err-clause-exact
exprs::exprs-returns-in-Err-clause-exact t c = exprs_refused c.args.mode c.args.depth c.args.tokens.now c.in-Err.error c.in-Err.ensures.exact

pub exprs::exprs_from-items-init : goal.exprs::exprs_from-items-init
exprs::exprs_from-items-init t c = record {
  led = λ ts found. exprs_first c.args.mode c.args.depth ts c.in_ok-start.start.items c.args.first c.args.height c.args.tokens.now c.in_ok-start.ensures found;
  begins = begins_alone c.args.first _ c.in_ok-start.ensures;
  short = omega arith;
  low = λ h. h;
}

pub exprs::exprs_from-returns-then-top-from-clause-exact : goal.exprs::exprs_from-returns-then-top-from-clause-exact
exprs::exprs_from-returns-then-top-from-clause-exact t c = λ ts found.
    because (one (g.exprs c.args.mode)) (continues_exprs c.args.mode) c.args.depth ts _ c.discard_exprs.result c.discard_exprs.ensures
    (exprs_deep c.args.mode c.args.depth ts c.items.list.items c.items.top c.items.rest.now c.in-Some._comma c.in-Some.behind.now (c.items.invariant.led ts found) (omega arith) c.in-Some.ensures.is c.in-Some.ensures.kind)

pub exprs::exprs_from-returns-in-Err-clause-exact : goal.exprs::exprs_from-returns-in-Err-clause-exact
exprs::exprs_from-returns-in-Err-clause-exact t c = λ ts found.
    because (one (g.exprs c.args.mode)) (continues_exprs c.args.mode) c.args.depth ts c.in-Err.error c.discard_exprs-in-Err.result c.discard_exprs-in-Err.ensures
    (exprs_more_refused c.args.mode c.later.result c.args.depth ts c.items.list.items c.items.top c.items.rest.now c.in-Some._comma c.in-Some.behind.now c.in-Err.error c.later.ensures (c.items.invariant.led ts found) (omega arith) c.in-Some.ensures.is
    c.in-Some.ensures.kind c.in-Err.ensures.exact)

pub exprs::exprs_from-items-preserved : goal.exprs::exprs_from-items-preserved
exprs::exprs_from-items-preserved t c = record {
  led = λ ts found.
      exprs_more_read c.args.mode c.later.result c.args.depth ts c.items.list.items _ c.items.top c.items.rest.now c.in-Some._comma c.in-Some.behind.now _ c.in-Ok.read.height _ c.in-Ok.read.rest.now c.later.ensures (c.items.invariant.led ts found) (omega arith)
      c.in-Some.ensures.is c.in-Some.ensures.kind c.in-Ok.ensures.exact c.in_ok-list.ensures c.max-top.ensures;
  begins = begins_more (expr c.args.first) c.items.list.items _ _ c.items.invariant.begins c.in_ok-list.ensures;
  short = let longer = ap length c.in-Some.ensures.is in let read = c.in-Ok.ensures.shorter in let before = c.items.invariant.short in omega (arith, longer, read, before);
  low = λ h. let read = c.in-Ok.ensures.low in let before = c.items.invariant.low h in omega (arith, c.max-top.ensures, read, before);
}

pub exprs::exprs_from-returns-clause-exact : goal.exprs::exprs_from-returns-clause-exact
exprs::exprs_from-returns-clause-exact t c = λ ts found. exprs_answer c.args.mode c.args.depth ts c.items.list.items c.items.top c.items.rest.now (c.items.invariant.led ts found) c.in_default.ensures.none

pub simple::simple-returns-then-depth-eq0-clause-exact : goal.simple::simple-returns-then-depth-eq0-clause-exact
simple::simple-returns-then-depth-eq0-clause-exact t c = simple_zero c.args.mode c.args.depth c.args.tokens.now c.nothing_fits.result c.if-depth-eq0.true c.nothing_fits.ensures.exact

pub simple::simple-returns-in-Ok-clause-exact : goal.simple::simple-returns-in-Ok-clause-exact
simple::simple-returns-in-Ok-clause-exact t c =
    at_depth (one (g.simple c.args.mode)) (continues_simple c.args.mode) c.args.depth (c.args.depth - 1) c.args.tokens.now (seen stmt c.simple_from.result) (omega arith) (c.simple_from.ensures.exact c.args.tokens.now c.in-Ok.ensures.exact)

pub simple::simple-returns-in-Err-clause-exact : goal.simple::simple-returns-in-Err-clause-exact
simple::simple-returns-in-Err-clause-exact t c =
    refused_depth (one (g.simple c.args.mode)) (continues_simple c.args.mode) c.args.depth (c.args.depth - 1) c.args.tokens.now c.in-Err.error (omega arith)
    (simple_refused c.args.mode (c.args.depth - 1) c.args.tokens.now c.in-Err.error (exprs_refused c.args.mode (c.args.depth - 1) c.args.tokens.now c.in-Err.error c.in-Err.ensures.exact))

pub declaration::declaration-returns-in-None-clause-exact : goal.declaration::declaration-returns-in-None-clause-exact
declaration::declaration-returns-in-None-clause-exact t c = no_declaration c.args.mode c.args.depth c.args.tokens.now c.in-None.ensures.none

pub declaration::declaration-returns-then-depth-eq0-clause-exact : goal.declaration::declaration-returns-then-depth-eq0-clause-exact
declaration::declaration-returns-then-depth-eq0-clause-exact t c = declaration_deep c.args.mode c.args.depth c.args.tokens.now c.in-Some.found.0 c.in-Some.found.1.now c.if-depth-eq0.true c.in-Some.ensures.is c.in-Some.ensures.kind

pub simple::simple_from-returns-in-Err-clause-exact : goal.simple::simple_from-returns-in-Err-clause-exact
simple::simple_from-returns-in-Err-clause-exact t c = λ ts found. simple_refused c.args.mode c.args.depth ts c.in-Err.error (c.in-Err.ensures.exact ts found)

pub simple::simple_from-returns-in-None-clause-exact : goal.simple::simple_from-returns-in-None-clause-exact
simple::simple_from-returns-in-None-clause-exact t c = λ ts found.
    eval_answer c.args.mode c.args.depth ts c.args.first c.in-Ok.read.tree.items c.in-Ok.read.height c.in-Ok.read.rest.now _ _ c.in-Ok.ensures.first (c.in-Ok.ensures.exact ts found) c.in-None.ensures.none
    (c.in_ok-eval-in-None.ensures ∙ ap (λ (e : tree.Expr). tree.stmt (tree.first_of e) (tree.eval (exprs c.in-Ok.read.tree.items))) c.first.view_is) refl

pub simple::simple_from-returns-then-n-from-clause-exact : goal.simple::simple_from-returns-then-n-from-clause-exact
simple::simple_from-returns-then-n-from-clause-exact t c = λ ts found.
    because (one (g.simple c.args.mode)) (continues_simple c.args.mode) (suc c.args.depth) ts _ c.discard_exprs.result c.discard_exprs.ensures
    (assign_over c.args.mode c.args.depth ts c.args.first c.in-Ok.read.tree.items c.in-Ok.read.height c.in-Ok.read.rest.now c.in-Some.found.1 c.in-Some.found.0 c.in-Some.found.2.now c.in-Ok.ensures.first (c.in-Ok.ensures.exact ts found)
    (record { is = c.in-Some.ensures.is; op_is = c.in-Some.ensures.op }) (omega arith))

pub simple::simple_from-returns-in_ok-assign-in-Ok-exprs-clause-exact : goal.simple::simple_from-returns-in_ok-assign-in-Ok-exprs-clause-exact
simple::simple_from-returns-in_ok-assign-in-Ok-exprs-clause-exact t c = λ ts found.
    assign_answer c.args.mode c.later.result c.args.depth ts c.args.first c.in-Ok.read.tree.items c.in-Ok.read.height c.in-Ok.read.rest.now c.in-Some.found.1 c.in-Some.found.0 c.in-Some.found.2.now c.in-Ok-exprs.field-0.tree.items c.in-Ok-exprs.field-0.height c.in-Ok-exprs.field-0.rest.now _ _
    c.later.ensures c.in-Ok.ensures.first (c.in-Ok.ensures.exact ts found) (record { is = c.in-Some.ensures.is; op_is = c.in-Some.ensures.op }) (omega arith) c.in-Ok-exprs.ensures.exact c.in_ok-assign-in-Ok-exprs.ensures (omega (arith, c.max.ensures))

pub simple::simple_from-returns-in-Err-exprs-clause-exact : goal.simple::simple_from-returns-in-Err-exprs-clause-exact
simple::simple_from-returns-in-Err-exprs-clause-exact t c = λ ts found.
    because (one (g.simple c.args.mode)) (continues_simple c.args.mode) (suc c.args.depth) ts c.in-Err-exprs.error c.discard_exprs-in-Err-exprs.result c.discard_exprs-in-Err-exprs.ensures
    (values_refused c.args.mode c.later.result c.args.depth ts c.args.first c.in-Ok.read.tree.items c.in-Ok.read.height c.in-Ok.read.rest.now c.in-Some.found.1 c.in-Some.found.0 c.in-Some.found.2.now c.in-Err-exprs.error
    c.later.ensures c.in-Ok.ensures.first (c.in-Ok.ensures.exact ts found) (record { is = c.in-Some.ensures.is; op_is = c.in-Some.ensures.op }) (omega arith) c.in-Err-exprs.ensures.exact)

pub declaration::declaration-returns-in-Err-clause-exact : goal.declaration::declaration-returns-in-Err-clause-exact
declaration::declaration-returns-in-Err-clause-exact t c =
    refused_depth (one (g.declaration c.args.mode)) (continues_declaration c.args.mode) c.args.depth (c.args.depth - 1) c.args.tokens.now c.in-Err.error (omega arith)
    (declaration_names_refused c.args.mode (c.args.depth - 1) c.args.tokens.now c.in-Err.error (c.in-Err.ensures.refused (c.args.depth - 1)))

pub declaration::declaration-returns-in-Ok-expect-clause-exact : goal.declaration::declaration-returns-in-Ok-expect-clause-exact
declaration::declaration-returns-in-Ok-expect-clause-exact t c =
    at_depth (one (g.declaration c.args.mode)) (continues_declaration c.args.mode) c.args.depth (c.args.depth - 1) c.args.tokens.now (seen decl c.behind_colon.result) (omega arith)
    (c.behind_colon.ensures.exact c.args.tokens.now (record {
      first = c.in-Some.found.0;
      behind = c.in-Some.found.1.now;
      is = c.in-Some.ensures.is;
      place = refl;
      rest = c.in-Ok.read.1.now;
      found = c.in-Ok.ensures.found (c.args.depth - 1);
      colon = c.in-Ok-expect._colon;
      rest_is = c.in-Ok-expect.ensures.is;
      kind = c.in-Ok-expect.ensures.kind;
    }))

pub declaration::declaration-returns-in-Err-expect-clause-exact : goal.declaration::declaration-returns-in-Err-expect-clause-exact
declaration::declaration-returns-in-Err-expect-clause-exact t c =
    refused_depth (one (g.declaration c.args.mode)) (continues_declaration c.args.mode) c.args.depth (c.args.depth - 1) c.args.tokens.now c.in-Err-expect.error (omega arith)
    (declaration_no_colon c.args.mode (c.args.depth - 1) c.args.tokens.now c.in-Some.found.1.now c.in-Ok.read.0.items c.in-Ok.read.1.now c.in-Some.found.0 c.in-Err-expect.error c.in-Some.ensures.is (c.in-Ok.ensures.found (c.args.depth - 1)) c.in-Err-expect.ensures.refused)

pub declaration::behind_colon-returns-in_ok-inferred-in-Ok-clause-exact : goal.declaration::behind_colon-returns-in_ok-inferred-in-Ok-clause-exact
declaration::behind_colon-returns-in_ok-inferred-in-Ok-clause-exact t c = λ ts read.
    answer_is (sym c.in_ok-inferred-in-Ok.ensures) refl
    (inferred_answer c.args.mode c.args.depth ts c.args.at c.args.names.items c.args.tokens.now c.in-Some._assign c.in-Some.rest.now (exprs c.in-Ok.field-0.tree.items) c.in-Ok.field-0.height _ c.in-Ok.field-0.rest.now (headed_at c.args.mode c.args.depth ts c.args.at c.args.names.items c.args.tokens.now read)
    c.in-Some.ensures.is c.in-Some.ensures.kind c.in-Ok.ensures.exact (omega arith))

pub declaration::behind_colon-returns-in-Err-clause-exact : goal.declaration::behind_colon-returns-in-Err-clause-exact
declaration::behind_colon-returns-in-Err-clause-exact t c = λ ts read.
    inferred_refused c.args.mode c.args.depth ts c.args.at c.args.names.items c.args.tokens.now c.in-Some._assign c.in-Some.rest.now c.in-Err.error (headed_at c.args.mode c.args.depth ts c.args.at c.args.names.items c.args.tokens.now read)
    c.in-Some.ensures.is c.in-Some.ensures.kind c.in-Err.ensures.exact

pub declaration::behind_colon-returns-in_ok-constant-in-Ok-exprs-clause-exact : goal.declaration::behind_colon-returns-in_ok-constant-in-Ok-exprs-clause-exact
declaration::behind_colon-returns-in_ok-constant-in-Ok-exprs-clause-exact t c = λ ts read.
    answer_is (sym c.in_ok-constant-in-Ok-exprs.ensures) refl
    (constant_answer c.args.mode c.args.depth ts c.args.at c.args.names.items c.args.tokens.now c.in-Some-strip._colon c.in-Some-strip.rest.now (exprs c.in-Ok-exprs.field-0.tree.items) c.in-Ok-exprs.field-0.height _ c.in-Ok-exprs.field-0.rest.now
    (headed_at c.args.mode c.args.depth ts c.args.at c.args.names.items c.args.tokens.now read) c.in-Some-strip.ensures.is c.in-Some-strip.ensures.kind c.in-Ok-exprs.ensures.exact (omega arith))

pub declaration::behind_colon-returns-in-Err-exprs-clause-exact : goal.declaration::behind_colon-returns-in-Err-exprs-clause-exact
declaration::behind_colon-returns-in-Err-exprs-clause-exact t c = λ ts read.
    constant_refused c.args.mode c.args.depth ts c.args.at c.args.names.items c.args.tokens.now c.in-Some-strip._colon c.in-Some-strip.rest.now c.in-Err-exprs.error (headed_at c.args.mode c.args.depth ts c.args.at c.args.names.items c.args.tokens.now read)
    c.in-Some-strip.ensures.is c.in-Some-strip.ensures.kind c.in-Err-exprs.ensures.exact

pub declaration::behind_colon-returns-in-Ok-ty-clause-exact : goal.declaration::behind_colon-returns-in-Ok-ty-clause-exact
declaration::behind_colon-returns-in-Ok-ty-clause-exact t c = λ ts read.
    c.behind_type.ensures.exact ts (record { start = c.args.tokens.now; headed = read; no_assign = c.in_default.ensures.none; no_colon = c.in_default-strip.ensures.none; found = c.in-Ok-ty.ensures.exact })

pub declaration::behind_colon-returns-in-Err-ty-clause-exact : goal.declaration::behind_colon-returns-in-Err-ty-clause-exact
declaration::behind_colon-returns-in-Err-ty-clause-exact t c = λ ts read.
    declaring.type_refused c.args.mode c.args.depth ts c.args.at c.args.names.items c.args.tokens.now c.in-Err-ty.error (headed_at c.args.mode c.args.depth ts c.args.at c.args.names.items c.args.tokens.now read) c.in_default.ensures.none c.in_default-strip.ensures.none c.in-Err-ty.ensures.exact

pub declaration::behind_type-returns-then-height-from-clause-exact : goal.declaration::behind_type-returns-then-height-from-clause-exact
declaration::behind_type-returns-then-height-from-clause-exact t c = λ ts read.
    because (one (g.declaration c.args.mode)) (continues_declaration c.args.mode) (suc c.args.depth) ts _ _ c.discard_type.ensures
    (valued_deep c.args.mode c.args.depth ts c.args.at c.args.names.items (type c.args.t) c.args.height c.args.tokens.now c.in-Some._colon c.in-Some.rest.now (typed_behind c.args.mode c.args.depth ts c.args.at c.args.names.items (type c.args.t) c.args.height c.args.tokens.now read) (omega arith) c.in-Some.ensures.is c.in-Some.ensures.kind)

pub declaration::behind_type-returns-in_ok-typed_constant-in-Ok-clause-exact : goal.declaration::behind_type-returns-in_ok-typed_constant-in-Ok-clause-exact
declaration::behind_type-returns-in_ok-typed_constant-in-Ok-clause-exact t c = λ ts read.
    answer_is (sym c.in_ok-typed_constant-in-Ok.ensures) refl
    (valued_answer c.args.mode c.args.depth ts c.args.at c.args.names.items (type c.args.t) c.args.height c.args.tokens.now c.in-Some._colon c.in-Some.rest.now (exprs c.in-Ok.field-0.tree.items) c.in-Ok.field-0.height _ c.in-Ok.field-0.rest.now (typed_behind c.args.mode c.args.depth ts c.args.at c.args.names.items (type c.args.t) c.args.height c.args.tokens.now read) (omega arith) c.in-Some.ensures.is c.in-Some.ensures.kind c.in-Ok.ensures.exact (omega (arith, c.max.ensures)))

pub declaration::behind_type-returns-in-Err-clause-exact : goal.declaration::behind_type-returns-in-Err-clause-exact
declaration::behind_type-returns-in-Err-clause-exact t c = λ ts read.
    because (one (g.declaration c.args.mode)) (continues_declaration c.args.mode) (suc c.args.depth) ts c.in-Err.error _ c.discard_type-in-Err.ensures
    (valued_refused c.args.mode c.args.depth ts c.args.at c.args.names.items (type c.args.t) c.args.height c.args.tokens.now c.in-Some._colon c.in-Some.rest.now c.in-Err.error (typed_behind c.args.mode c.args.depth ts c.args.at c.args.names.items (type c.args.t) c.args.height c.args.tokens.now read) (omega arith) c.in-Some.ensures.is c.in-Some.ensures.kind c.in-Err.ensures.exact)

pub declaration::behind_type-returns-in-None-clause-exact : goal.declaration::behind_type-returns-in-None-clause-exact
declaration::behind_type-returns-in-None-clause-exact t c = λ ts read.
    answer_is (sym c.in_ok-zeros-in-None.ensures) (omega arith) (zeros_answer c.args.mode c.args.depth ts c.args.at c.args.names.items (type c.args.t) c.args.height c.args.tokens.now (typed_behind c.args.mode c.args.depth ts c.args.at c.args.names.items (type c.args.t) c.args.height c.args.tokens.now read) c.in_default.ensures.none c.in-None.ensures.none)

pub declaration::behind_type-returns-then-height-from-2-clause-exact : goal.declaration::behind_type-returns-then-height-from-2-clause-exact
declaration::behind_type-returns-then-height-from-2-clause-exact t c = λ ts read.
    because (one (g.declaration c.args.mode)) (continues_declaration c.args.mode) (suc c.args.depth) ts _ _ c.discard_type-then-height-from-2.ensures
    (begun_deep c.args.mode c.args.depth ts c.args.at c.args.names.items (type c.args.t) c.args.height c.args.tokens.now c.in-Some-strip._assign c.in-Some-strip.rest.now (typed_behind c.args.mode c.args.depth ts c.args.at c.args.names.items (type c.args.t) c.args.height c.args.tokens.now read) (omega arith) c.in-Some-strip.ensures.is c.in-Some-strip.ensures.kind)

pub declaration::behind_type-returns-in-Some-strip-2-clause-exact : goal.declaration::behind_type-returns-in-Some-strip-2-clause-exact
declaration::behind_type-returns-in-Some-strip-2-clause-exact t c = λ ts read.
    answer_is (sym c.in_ok-dashes.ensures) (omega arith)
    (dashes_answer c.args.mode c.args.depth ts c.args.at c.args.names.items (type c.args.t) c.args.height c.args.tokens.now c.in-Some-strip._assign c.in-Some-strip-2._dashes c.in-Some-strip.rest.now c.in-Some-strip-2.after.now (typed_behind c.args.mode c.args.depth ts c.args.at c.args.names.items (type c.args.t) c.args.height c.args.tokens.now read) (omega arith) c.in-Some-strip.ensures.is c.in-Some-strip.ensures.kind c.in-Some-strip-2.ensures.is c.in-Some-strip-2.ensures.kind)

pub declaration::behind_type-returns-in_ok-typed-in-Ok-exprs-clause-exact : goal.declaration::behind_type-returns-in_ok-typed-in-Ok-exprs-clause-exact
declaration::behind_type-returns-in_ok-typed-in-Ok-exprs-clause-exact t c = λ ts read.
    answer_is (sym c.in_ok-typed-in-Ok-exprs.ensures) refl
    (begun_answer c.args.mode c.args.depth ts c.args.at c.args.names.items (type c.args.t) c.args.height c.args.tokens.now c.in-Some-strip._assign c.in-Some-strip.rest.now (exprs c.in-Ok-exprs.field-0.tree.items) c.in-Ok-exprs.field-0.height _ c.in-Ok-exprs.field-0.rest.now (typed_behind c.args.mode c.args.depth ts c.args.at c.args.names.items (type c.args.t) c.args.height c.args.tokens.now read) (omega arith) c.in-Some-strip.ensures.is c.in-Some-strip.ensures.kind c.in_default-strip.ensures.none
    c.in-Ok-exprs.ensures.exact (omega (arith, c.max-in-Ok-exprs.ensures)))

pub declaration::behind_type-returns-in-Err-exprs-clause-exact : goal.declaration::behind_type-returns-in-Err-exprs-clause-exact
declaration::behind_type-returns-in-Err-exprs-clause-exact t c = λ ts read.
    because (one (g.declaration c.args.mode)) (continues_declaration c.args.mode) (suc c.args.depth) ts c.in-Err-exprs.error _ c.discard_type-in-Err-exprs.ensures
    (begun_refused c.args.mode c.args.depth ts c.args.at c.args.names.items (type c.args.t) c.args.height c.args.tokens.now c.in-Some-strip._assign c.in-Some-strip.rest.now c.in-Err-exprs.error (typed_behind c.args.mode c.args.depth ts c.args.at c.args.names.items (type c.args.t) c.args.height c.args.tokens.now read) (omega arith) c.in-Some-strip.ensures.is c.in-Some-strip.ensures.kind c.in_default-strip.ensures.none c.in-Err-exprs.ensures.exact)

-- statements
pub statement::statement-returns-in-None-clause-exact : goal.statement::statement-returns-in-None-clause-exact
statement::statement-returns-in-None-clause-exact t c = empty_broken g.statement c.in-None.ensures.none some_stmt (λ d v h. h)

pub statement::statement-returns-in-Simple-clause-exact : goal.statement::statement-returns-in-Simple-clause-exact
statement::statement-returns-in-Simple-clause-exact t c = simple_same c.args.depth c.args.tokens.now c.in-Some.found.0 c.in-Some.found.1.now (seen stmt c.simple.result) c.in-Some.ensures.some (sym c.in-Simple.ensures) c.simple.ensures.exact

pub statement::statement-returns-in-If-clause-exact : goal.statement::statement-returns-in-If-clause-exact
statement::statement-returns-in-If-clause-exact t c = if_same c.args.depth c.args.tokens.now c.in-Some.found.0 c.in-Some.found.1.now (seen stmt c.if_statement.result) c.in-Some.ensures.some (sym c.in-If.ensures) c.if_statement.ensures.exact

pub statement::statement-returns-in-Named-clause-exact : goal.statement::statement-returns-in-Named-clause-exact
statement::statement-returns-in-Named-clause-exact t c = c.named.ensures.exact c.in-Some.ensures.some (named_kind c.in-Some.found.0.kind c.in-Some.found.0.word (sym c.in-Named.ensures))

pub statement::statement-returns-in-Named-clause-shorter : goal.statement::statement-returns-in-Named-clause-shorter
statement::statement-returns-in-Named-clause-shorter t c = c.named.ensures.shorter c.in-Some.ensures.some

pub statement::statement-returns-in-Labelled-clause-exact : goal.statement::statement-returns-in-Labelled-clause-exact
statement::statement-returns-in-Labelled-clause-exact t c = c.bare.ensures.exact c.in-Some.ensures.some (sym c.in-Labelled.ensures)

pub statement::statement-returns-in-Defer-clause-exact : goal.statement::statement-returns-in-Defer-clause-exact
statement::statement-returns-in-Defer-clause-exact t c =
    at_tokens (one g.statement) continues_statement c.args.depth c.args.tokens.now c.in-Some.found.0 c.in-Some.found.1.now (seen stmt c.defer.result) c.in-Some.ensures.some (c.defer.ensures.exact (sym c.in-Defer.ensures))

pub statement::statement-returns-in-Return-clause-exact : goal.statement::statement-returns-in-Return-clause-exact
statement::statement-returns-in-Return-clause-exact t c =
    at_tokens (one g.statement) continues_statement c.args.depth c.args.tokens.now c.in-Some.found.0 c.in-Some.found.1.now (seen stmt c.returns.result) c.in-Some.ensures.some (c.returns.ensures.exact (sym c.in-Return.ensures))

pub statement::statement-returns-in-Break-clause-exact : goal.statement::statement-returns-in-Break-clause-exact
statement::statement-returns-in-Break-clause-exact t c =
    at_tokens (one g.statement) continues_statement c.args.depth c.args.tokens.now c.in-Some.found.0 c.in-Some.found.1.now (seen stmt c.breaks.result) c.in-Some.ensures.some (c.breaks.ensures.exact (sym c.in-Break.ensures))

pub statement::statement-returns-in-Continue-clause-exact : goal.statement::statement-returns-in-Continue-clause-exact
statement::statement-returns-in-Continue-clause-exact t c =
    at_tokens (one g.statement) continues_statement c.args.depth c.args.tokens.now c.in-Some.found.0 c.in-Some.found.1.now (seen stmt c.continues.result) c.in-Some.ensures.some (c.continues.ensures.exact (sym c.in-Continue.ensures))

pub statement::statement-returns-in-Fallthrough-clause-exact : goal.statement::statement-returns-in-Fallthrough-clause-exact
statement::statement-returns-in-Fallthrough-clause-exact t c =
    at_tokens (one g.statement) continues_statement c.args.depth c.args.tokens.now c.in-Some.found.0 c.in-Some.found.1.now (seen stmt c.fallthrough.result) c.in-Some.ensures.some (c.fallthrough.ensures.exact (sym c.in-Fallthrough.ensures))

-- what begins with a name
pub statement::named-returns-then-depth-eq0-clause-exact : goal.statement::named-returns-then-depth-eq0-clause-exact
statement::named-returns-then-depth-eq0-clause-exact t c = λ is k. statement_zero c.args.depth statement_form.Named c.args.tokens.now c.args.name c.args.behind.now c.if-depth-eq0.true is (named_form c.args.name k) (λ e. cc)

pub statement::named-returns-in-Ok-clause-exact : goal.statement::named-returns-in-Ok-clause-exact
statement::named-returns-in-Ok-clause-exact t c = λ is k.
    found_depth (c.args.depth - 1) (omega arith)
    (answer_is (sym c.in-Ok.ensures.read.is) refl
    (label_answer (c.args.depth - 1) c.args.tokens.now c.in-Some.mark c.in-Some.rest.now c.in-Ok.ensures.read.value c.in-Ok.field-0.height _ c.in-Ok.field-0.rest.now c.in-Some.ensures.labels c.in-Ok.ensures.read.found (omega arith)))

pub statement::named-returns-in-Err-clause-exact : goal.statement::named-returns-in-Err-clause-exact
statement::named-returns-in-Err-clause-exact t c = λ is k.
    refused_depth (one g.statement) continues_statement c.args.depth (c.args.depth - 1) c.args.tokens.now c.in-Err.error (omega arith)
    (label_refused (c.args.depth - 1) c.args.tokens.now c.in-Some.mark c.in-Some.rest.now c.in-Err.error c.in-Some.ensures.labels c.in-Err.ensures.refused)

pub statement::named-returns-then-depth-eq1-clause-exact : goal.statement::named-returns-then-depth-eq1-clause-exact
statement::named-returns-then-depth-eq1-clause-exact t c = λ is k.
    at_front (one g.statement) continues_statement c.args.depth 0 c.args.tokens.now c.args.name c.args.behind.now (seen stmt c.last_level.result) c.if-depth-eq1.true is (c.last_level.ensures.exact k (subst (λ (l : List Token). NotLabelled l) is c.in_default.ensures.none))

pub statement::named-returns-then-depth-eq1-clause-shorter : goal.statement::named-returns-then-depth-eq1-clause-shorter
statement::named-returns-then-depth-eq1-clause-shorter t c = λ is. let longer = ap length is in shorter_by c.last_level.result c.args.behind.now c.args.tokens.now (omega (arith, longer)) c.last_level.ensures.shorter

pub statement::named-returns-in_ok-declare-in-Ok-declaration-clause-exact : goal.statement::named-returns-in_ok-declare-in-Ok-declaration-clause-exact
statement::named-returns-in_ok-declare-in-Ok-declaration-clause-exact t c = λ is k.
    found_depth (c.args.depth - 1) (omega arith)
    (answer_is (sym c.in_ok-declare-in-Ok-declaration.ensures) refl
    (declare_answer (c.args.depth - 1) c.args.tokens.now c.in-Ok-names_end._rest.now c.args.name c.args.behind.now (decl c.in-Ok-declaration.field-0.tree) c.in-Ok-declaration.field-0.height _ c.in-Ok-declaration.field-0.rest.now (omega arith)
    c.in-Ok-names_end.ensures.declares c.in_default.ensures.none is k c.in-Ok-declaration.ensures.exact (omega arith)))

pub statement::named-returns-in-Err-declaration-clause-exact : goal.statement::named-returns-in-Err-declaration-clause-exact
statement::named-returns-in-Err-declaration-clause-exact t c = λ is k.
    refused_depth (one g.statement) continues_statement c.args.depth (c.args.depth - 1) c.args.tokens.now c.in-Err-declaration.error (omega arith)
    (declare_refused (c.args.depth - 1) c.args.tokens.now c.in-Ok-names_end._rest.now c.args.name c.args.behind.now c.in-Err-declaration.error (omega arith) c.in-Ok-names_end.ensures.declares c.in_default.ensures.none is k c.in-Err-declaration.ensures.exact)

pub statement::named-returns-in-Err-names_end-clause-exact : goal.statement::named-returns-in-Err-names_end-clause-exact
statement::named-returns-in-Err-names_end-clause-exact t c = λ is k.
    undeclared_exact c.args.depth c.args.tokens.now c.in-Err-names_end._rest.now c.args.name c.args.behind.now (seen stmt c.simple.result) (omega arith) c.in-Err-names_end.ensures.undeclared is k c.simple.ensures.exact

-- where one level is left
pub statement::last_level-returns-in-Some-clause-exact : goal.statement::last_level-returns-in-Some-clause-exact
statement::last_level-returns-in-Some-clause-exact t c = λ k none.
    at_tokens (one g.statement) continues_statement 1 (c.args.name ∷ c.args.behind.now) c.args.name (c.in-Some.colon ∷ c.in-Some.rest.now) (refused c.declared_too_deep.result) (ap (λ (l : List Token). c.args.name ∷ l) c.in-Some.ensures.is)
    (c.declared_too_deep.ensures.exact k c.in-Some.ensures.kind (subst (λ (l : List Token). NotLabelled (c.args.name ∷ l)) c.in-Some.ensures.is none))

pub statement::last_level-returns-in-Some-clause_on-clause-exact : goal.statement::last_level-returns-in-Some-clause_on-clause-exact
statement::last_level-returns-in-Some-clause_on-clause-exact t c = λ k none.
    named_over c.args.name c.in-Some-clause_on._token (c.args.name ∷ c.args.behind.now) c.args.behind.now c.in-Some-clause_on.rest.now refl k c.in-Some-clause_on.ensures.is c.in-Some-clause_on.ensures.on

pub statement::last_level-returns-in_ok-eval-in-None-clause-exact : goal.statement::last_level-returns-in_ok-eval-in-None-clause-exact
statement::last_level-returns-in_ok-eval-in-None-clause-exact t c = λ k none.
    answer_is (sym c.in_ok-eval-in-None.ensures) refl
    (named_alone c.args.name (c.args.name ∷ c.args.behind.now) c.args.behind.now c.in_ok-list-in-None.list.items c.in_ok-e-in-None.e refl k c.in_ok-list-in-None.ensures c.in_ok-e-in-None.ensures c.in_default.ensures.none c.in-None.ensures.none)

pub statement::declared_too_deep-returns-in-Some : goal.statement::declared_too_deep-returns-in-Some
statement::declared_too_deep-returns-in-Some t c = record {
  exact = λ k f none.
      colon_over c.args.name c.args.colon c.in-Some._assign (c.args.name ∷ c.args.colon ∷ c.args.tokens.now) (c.args.colon ∷ c.args.tokens.now) c.args.tokens.now c.in-Some.rest.now refl k refl f c.in-Some.ensures.is (inl c.in-Some.ensures.kind);
}

pub statement::declared_too_deep-returns-in-Some-strip : goal.statement::declared_too_deep-returns-in-Some-strip
statement::declared_too_deep-returns-in-Some-strip t c = record {
  exact = λ k f none.
      colon_over c.args.name c.args.colon c.in-Some-strip._colon (c.args.name ∷ c.args.colon ∷ c.args.tokens.now) (c.args.colon ∷ c.args.tokens.now) c.args.tokens.now c.in-Some-strip.rest.now refl k refl f c.in-Some-strip.ensures.is (inr c.in-Some-strip.ensures.kind);
}

pub statement::declared_too_deep-returns : goal.statement::declared_too_deep-returns
statement::declared_too_deep-returns t c = record {
  exact = λ k f none.
      colon_type_refused c.args.name c.args.colon (c.args.name ∷ c.args.colon ∷ c.args.tokens.now) (c.args.colon ∷ c.args.tokens.now) c.args.tokens.now c.in-Err.error refl k refl f none c.in_default.ensures.none c.in_default-strip.ensures.none c.in-Err.ensures.exact;
}

-- without a label
pub statement::bare-returns-then-depth-eq0-clause-exact : goal.statement::bare-returns-then-depth-eq0-clause-exact
statement::bare-returns-then-depth-eq0-clause-exact t c = λ is f. statement_zero c.args.depth statement_form.Labelled c.args.tokens.now c.args.token c.args.behind.now c.if-depth-eq0.true is f (λ e. cc)

pub statement::bare-returns-in-Ok-clause-exact : goal.statement::bare-returns-in-Ok-clause-exact
statement::bare-returns-in-Ok-clause-exact t c = λ is f.
    found_front (c.args.depth - 1) (omega arith) is
    (answer_is (sym c.in-Ok.ensures.read.is) refl
    (bare_answer (c.args.depth - 1) c.args.token c.args.behind.now c.in-Ok.ensures.read.value c.in-Ok.field-0.height _ c.in-Ok.field-0.rest.now f
    (to_token (one labelled_part) continues_statement (c.args.depth - 1) c.args.tokens.now c.args.token c.args.behind.now (Yes c.in-Ok.ensures.read.value c.in-Ok.field-0.height c.in-Ok.field-0.rest.now) is c.in-Ok.ensures.read.found) (omega arith)))

pub statement::bare-returns-in-Err-clause-exact : goal.statement::bare-returns-in-Err-clause-exact
statement::bare-returns-in-Err-clause-exact t c = λ is f.
    at_front (one g.statement) continues_statement c.args.depth (c.args.depth - 1) c.args.tokens.now c.args.token c.args.behind.now (refused c.in-Err.error) (omega arith) is
    (bare_refused (c.args.depth - 1) c.args.token c.args.behind.now c.in-Err.error f (to_token (one labelled_part) continues_statement (c.args.depth - 1) c.args.tokens.now c.args.token c.args.behind.now (refused c.in-Err.error) is c.in-Err.ensures.refused))

-- `defer` and `return`
pub statement::defer-returns-then-depth-eq0-clause-exact : goal.statement::defer-returns-then-depth-eq0-clause-exact
statement::defer-returns-then-depth-eq0-clause-exact t c = λ f. statement_zero c.args.depth statement_form.Defer (c.args.token ∷ c.args.behind.now) c.args.token c.args.behind.now c.if-depth-eq0.true refl f (λ e. cc)

pub statement::defer-returns-in_ok-defer-in-Ok-clause-exact : goal.statement::defer-returns-in_ok-defer-in-Ok-clause-exact
statement::defer-returns-in_ok-defer-in-Ok-clause-exact t c = λ f.
    found_depth (c.args.depth - 1) (omega arith)
    (answer_is (sym c.in_ok-defer-in-Ok.ensures) refl (defer_answer (c.args.depth - 1) c.args.token c.args.behind.now (stmt c.in-Ok.field-0.tree) c.in-Ok.field-0.height _ c.in-Ok.field-0.rest.now f c.in-Ok.ensures.exact (omega arith)))

pub statement::defer-returns-in-Err-clause-exact : goal.statement::defer-returns-in-Err-clause-exact
statement::defer-returns-in-Err-clause-exact t c = λ f.
    refused_depth (one g.statement) continues_statement c.args.depth (c.args.depth - 1) (c.args.token ∷ c.args.behind.now) c.in-Err.error (omega arith) (defer_refused (c.args.depth - 1) c.args.token c.args.behind.now c.in-Err.error f c.in-Err.ensures.exact)

pub statement::returns-returns-then-depth-eq0-clause-exact : goal.statement::returns-returns-then-depth-eq0-clause-exact
statement::returns-returns-then-depth-eq0-clause-exact t c = λ f. statement_zero c.args.depth statement_form.Return (c.args.token ∷ c.args.behind.now) c.args.token c.args.behind.now c.if-depth-eq0.true refl f (λ e. cc)

pub statement::returns-returns-in_ok-returns-in-Ok-clause-exact : goal.statement::returns-returns-in_ok-returns-in-Ok-clause-exact
statement::returns-returns-in_ok-returns-in-Ok-clause-exact t c = λ f.
    found_depth (c.args.depth - 1) (omega arith)
    (answer_is (sym c.in_ok-returns-in-Ok.ensures) refl (return_answer (c.args.depth - 1) c.args.token c.args.behind.now (exprs c.in-Ok.field-0.tree.items) c.in-Ok.field-0.height _ c.in-Ok.field-0.rest.now f c.in-Ok.ensures.exact c.in-Ok.ensures.shorter (omega arith)))

pub statement::returns-returns-in_ok-returns-in-Err-clause-exact : goal.statement::returns-returns-in_ok-returns-in-Err-clause-exact
statement::returns-returns-in_ok-returns-in-Err-clause-exact t c = λ f.
    found_depth (c.args.depth - 1) (omega arith)
    (answer_is (sym (c.in_ok-returns-in-Err.ensures ∙ ap (λ (l : List Expr). tree.stmt c.args.token.at (tree.return (exprs l))) c.new-nothing.ensures.items)) refl
    (return_alone (c.args.depth - 1) c.args.token c.args.behind.now f
    (because (one (g.exprs Free)) (continues_exprs Free) (c.args.depth - 1) c.args.behind.now c.in-Err.error (stop.Syntax (length c.args.behind.now)) (sym (c.stands_at.ensures.0 c.if-stands_at.true)) c.in-Err.ensures.exact)))

pub statement::returns-returns-else-stands_at-clause-exact : goal.statement::returns-returns-else-stands_at-clause-exact
statement::returns-returns-else-stands_at-clause-exact t c = λ f.
    refused_depth (one g.statement) continues_statement c.args.depth (c.args.depth - 1) (c.args.token ∷ c.args.behind.now) c.in-Err.error (omega arith)
    (return_refused (c.args.depth - 1) c.args.token c.args.behind.now c.in-Err.error f c.in-Err.ensures.exact (λ e. let bad : true ≡ false = sym (c.stands_at.ensures.1 e) ∙ c.if-stands_at.false in cc))

-- a block, a loop or a switch
pub statement::labelled-returns-in_ok-block-in-Ok-clause-read : goal.statement::labelled-returns-in_ok-block-in-Ok-clause-read
statement::labelled-returns-in_ok-block-in-Ok-clause-read t c = record {
  value = (c.in-Some.open.at, g.block (stmts c.in-Ok.field-0.tree.part.items));
  is = c.in_ok-block-in-Ok.ensures;
  found = at_tokens (one labelled_part) continues_statement c.args.depth c.args.tokens.now c.in-Some.open c.in-Some.inner.now (Yes (c.in-Some.open.at, g.block (stmts c.in-Ok.field-0.tree.part.items)) c.in-Ok.field-0.height c.in-Ok.field-0.rest.now) c.in-Some.ensures.is
      (alone_answer c.args.depth c.in-Some.open c.in-Some.inner.now (stmts c.in-Ok.field-0.tree.part.items) _ c.in-Ok.field-0.height c.in-Ok.field-0.rest.now c.in-Some.ensures.kind c.in-Ok.ensures.exact);
}

pub statement::labelled-returns-in-Err-clause-refused : goal.statement::labelled-returns-in-Err-clause-refused
statement::labelled-returns-in-Err-clause-refused t c =
    at_tokens (one labelled_part) continues_statement c.args.depth c.args.tokens.now c.in-Some.open c.in-Some.inner.now (refused c.in-Err.error) c.in-Some.ensures.is
    (alone_refused c.args.depth c.in-Some.open c.in-Some.inner.now c.in-Err.error c.in-Some.ensures.kind c.in-Err.ensures.exact)

pub statement::labelled-returns-in-Some-strip-clause-read : goal.statement::labelled-returns-in-Some-strip-clause-read
statement::labelled-returns-in-Some-strip-clause-read t c =
    subst (λ (l : List Token). IfOk c.loop_statement.result (λ r. LabelledRead c.args.label c.args.depth l (stmt r.tree) r.height r.rest.now)) (sym c.in-Some-strip.ensures.is) (c.loop_statement.ensures.read c.in-Some-strip.ensures.kind)

pub statement::labelled-returns-in-Some-strip-clause-refused : goal.statement::labelled-returns-in-Some-strip-clause-refused
statement::labelled-returns-in-Some-strip-clause-refused t c =
    subst (λ (l : List Token). IfErr c.loop_statement.result (λ e. Exact (one labelled_part) continues_statement c.args.depth l (refused e))) (sym c.in-Some-strip.ensures.is) (c.loop_statement.ensures.refused c.in-Some-strip.ensures.kind)

pub statement::labelled-returns-in-None-clause-read : goal.statement::labelled-returns-in-None-clause-read
statement::labelled-returns-in-None-clause-read t c = c.switch_statement.ensures.read c.in_default.ensures.none c.in-None.ensures.none

pub statement::labelled-returns-in-None-clause-refused : goal.statement::labelled-returns-in-None-clause-refused
statement::labelled-returns-in-None-clause-refused t c = c.switch_statement.ensures.refused c.in_default.ensures.none c.in-None.ensures.none

-- statements with semicolons between them
pub block::stmts-statements-init : goal.block::stmts-statements-init
block::stmts-statements-init t c = record { led = stmts_start c.args.depth c.args.tokens.now _ c.new-list.ensures.items; short = omega arith; low = omega arith }

pub block::stmts-returns-then-stands_at-clause-exact : goal.block::stmts-returns-then-stands_at-clause-exact
block::stmts-returns-then-stands_at-clause-exact t c =
    stmts_end_answer c.args.depth c.args.tokens.now c.statements.list.items c.statements.height c.behind_semicolons-start.result.now
    (stmts_behind c.args.depth c.args.tokens.now c.statements.list.items c.statements.height c.behind_semicolons-start.ensures.skips c.statements.invariant.led c.statements.invariant.low) (skips_end c.behind_semicolons-start.ensures.skips)
    (because (one g.statement) continues_statement c.args.depth c.behind_semicolons-start.result.now c.in-Err.error (stop.Syntax (length c.behind_semicolons-start.result.now)) (sym (c.stands_at.ensures.0 c.if-stands_at.true)) c.in-Err.ensures.exact)

pub block::stmts-returns-in-Err-clause-exact : goal.block::stmts-returns-in-Err-clause-exact
block::stmts-returns-in-Err-clause-exact t c =
    because (one g.stmts) continues_statements c.args.depth c.args.tokens.now c.in-Err.error _ c.discard_stmts.ensures
    (stmt_refused c.args.depth c.args.tokens.now c.statements.list.items c.statements.height c.behind_semicolons-start.result.now c.in-Err.error
    (stmts_behind c.args.depth c.args.tokens.now c.statements.list.items c.statements.height c.behind_semicolons-start.ensures.skips c.statements.invariant.led c.statements.invariant.low) c.statements.invariant.low c.in-Err.ensures.exact
    (λ e. let bad : true ≡ false = sym (c.stands_at.ensures.1 e) ∙ c.if-stands_at.false in cc))

pub block::stmts-returns-then-height-from-clause-exact : goal.block::stmts-returns-then-height-from-clause-exact
block::stmts-returns-then-height-from-clause-exact t c =
    because (one g.stmts) continues_statements c.args.depth c.args.tokens.now (stop.Deep (length c.in-Some.behind.now)) _ c.discard_stmts-then-height-from.ensures
    (stmts_deep c.args.depth c.args.tokens.now c.statements.list.items (stmt c.in-Ok.read.tree) c.max-height.result c.in-Ok.read.rest.now c.in-Some._semicolon c.in-Some.behind.now
    (stmt_read c.args.depth c.args.tokens.now c.statements.list.items c.statements.height c.behind_semicolons-start.result.now (stmt c.in-Ok.read.tree) c.in-Ok.read.height c.max-height.result c.in-Ok.read.rest.now
    (stmts_behind c.args.depth c.args.tokens.now c.statements.list.items c.statements.height c.behind_semicolons-start.ensures.skips c.statements.invariant.led c.statements.invariant.low) c.statements.invariant.low c.in-Ok.ensures.exact c.in-Ok.ensures.shorter c.max-height.ensures)
    (omega arith) c.in-Some.ensures.is c.in-Some.ensures.kind)

pub block::stmts-statements-preserved : goal.block::stmts-statements-preserved
block::stmts-statements-preserved t c = record {
  led = stmts_again c.args.depth c.args.tokens.now c.statements.list.items _ c.in-Ok.read.tree c.max-height.result c.in-Ok.read.rest.now c.in-Some._semicolon c.in-Some.behind.now
      (stmt_read c.args.depth c.args.tokens.now c.statements.list.items c.statements.height c.behind_semicolons-start.result.now (stmt c.in-Ok.read.tree) c.in-Ok.read.height c.max-height.result c.in-Ok.read.rest.now
      (stmts_behind c.args.depth c.args.tokens.now c.statements.list.items c.statements.height c.behind_semicolons-start.ensures.skips c.statements.invariant.led c.statements.invariant.low) c.statements.invariant.low c.in-Ok.ensures.exact c.in-Ok.ensures.shorter c.max-height.ensures)
      c.in_ok-list.ensures (omega arith) c.in-Some.ensures.is c.in-Some.ensures.kind;
  short = let longer = ap length c.in-Some.ensures.is in let read = c.in-Ok.ensures.shorter in let skipped = c.behind_semicolons-start.ensures.shorter in let before = c.statements.invariant.short in omega (arith, longer, read, skipped, before);
  low = omega arith;
}

pub block::stmts-returns-in-None-clause-exact : goal.block::stmts-returns-in-None-clause-exact
block::stmts-returns-in-None-clause-exact t c =
    stmts_last_answer c.args.depth c.args.tokens.now c.statements.list.items _ c.in-Ok.read.tree c.max-height.result c.in-Ok.read.rest.now
    (stmt_read c.args.depth c.args.tokens.now c.statements.list.items c.statements.height c.behind_semicolons-start.result.now (stmt c.in-Ok.read.tree) c.in-Ok.read.height c.max-height.result c.in-Ok.read.rest.now
    (stmts_behind c.args.depth c.args.tokens.now c.statements.list.items c.statements.height c.behind_semicolons-start.ensures.skips c.statements.invariant.led c.statements.invariant.low) c.statements.invariant.low c.in-Ok.ensures.exact c.in-Ok.ensures.shorter c.max-height.ensures)
    c.in_ok-list.ensures c.in-None.ensures.none

-- statements in braces, and bodies
pub block::braces-returns-in-Err-clause-exact : goal.block::braces-returns-in-Err-clause-exact
block::braces-returns-in-Err-clause-exact t c = braces_refused c.args.depth c.args.tokens.now c.in-Err.error c.in-Err.ensures.exact

pub block::braces-returns-in-Ok-expect-clause-exact : goal.block::braces-returns-in-Ok-expect-clause-exact
block::braces-returns-in-Ok-expect-clause-exact t c =
    braces_answer c.args.depth c.args.tokens.now (stmts c.in-Ok.read.tree.items) c.in-Ok.read.height c.in-Ok.read.rest.now c.in-Ok-expect.close c.in-Ok-expect.after.now c.in-Ok.ensures.exact (c.within.ensures.0 c.in-Ok-expect.ensures.within) c.in-Ok-expect.ensures.is c.in-Ok-expect.ensures.kind

pub block::braces-returns-in-Ok-expect-clause-low : goal.block::braces-returns-in-Ok-expect-clause-low
block::braces-returns-in-Ok-expect-clause-low t c = c.within.ensures.0 c.in-Ok-expect.ensures.within

pub block::braces-returns-in-Err-expect-clause-exact : goal.block::braces-returns-in-Err-expect-clause-exact
block::braces-returns-in-Err-expect-clause-exact t c =
    because braces_line nothing_continues c.args.depth c.args.tokens.now c.in-Err-expect.error _ c.discard_stmts.ensures
    (braces_unclosed c.args.depth c.args.tokens.now (stmts c.in-Ok.read.tree.items) c.in-Ok.read.height c.in-Ok.read.rest.now c.in-Err-expect.error _ c.in-Ok.ensures.exact (λ over. over_by _ _ _ c.within.ensures.1 over) c.in-Err-expect.ensures.refused)

pub block::body-returns-in-Ok-clause-exact : goal.block::body-returns-in-Ok-clause-exact
block::body-returns-in-Ok-clause-exact t c = body_answer c.args.depth c.args.tokens.now c.in-Some._open c.in-Some.inner.now (stmts c.in-Ok.field-0.tree.part.items) _ c.in-Ok.field-0.height c.in-Ok.field-0.rest.now c.in-Some.ensures.is c.in-Some.ensures.kind c.in-Ok.ensures.exact

pub block::body-returns-in-Err-clause-exact : goal.block::body-returns-in-Err-clause-exact
block::body-returns-in-Err-clause-exact t c = body_refused c.args.depth c.args.tokens.now c.in-Some._open c.in-Some.inner.now c.in-Err.error c.in-Some.ensures.is c.in-Some.ensures.kind c.in-Err.ensures.exact

pub block::body-returns-in-None-clause-exact : goal.block::body-returns-in-None-clause-exact
block::body-returns-in-None-clause-exact t c = no_body c.args.depth c.args.tokens.now c.in_default.ensures.none c.in-None.ensures.none

pub block::body-returns-in_ok-list-in-Ok-statement-clause-exact : goal.block::body-returns-in_ok-list-in-Ok-statement-clause-exact
block::body-returns-in_ok-list-in-Ok-statement-clause-exact t c =
    answer_is (sym (ap stmts (c.in_ok-list-in-Ok-statement.ensures ∙ ap (λ (l : List Stmt). l ++ c.in-Ok-statement.field-0.tree ∷ []) c.new-none.ensures.items))) refl
    (do_answer c.args.depth c.args.tokens.now c.in-Some-strip._do c.in-Some-strip.behind.now (stmt c.in-Ok-statement.field-0.tree) c.in-Ok-statement.field-0.height c.in-Ok-statement.field-0.rest.now c.in-Some-strip.ensures.is c.in-Some-strip.ensures.kind c.in-Ok-statement.ensures.exact)

pub block::body-returns-in-Err-statement-clause-exact : goal.block::body-returns-in-Err-statement-clause-exact
block::body-returns-in-Err-statement-clause-exact t c = do_refused c.args.depth c.args.tokens.now c.in-Some-strip._do c.in-Some-strip.behind.now c.in-Err-statement.error c.in-Some-strip.ensures.is c.in-Some-strip.ensures.kind c.in-Err-statement.ensures.exact

pub block::block-returns-in-None-clause-exact : goal.block::block-returns-in-None-clause-exact
block::block-returns-in-None-clause-exact t c = no_block c.args.depth c.args.tokens.now c.in-None.ensures.none

pub block::block-returns-in-Ok-clause-exact : goal.block::block-returns-in-Ok-clause-exact
block::block-returns-in-Ok-clause-exact t c =
    from_token (one (g.block_ Free)) c.args.depth c.args.tokens.now c.in-Some._open c.in-Some.inner.now (Yes (stmts c.in-Ok.field-0.tree.part.items) c.in-Ok.field-0.height c.in-Ok.field-0.rest.now) c.in-Some.ensures.is
    (block_answer c.args.depth c.in-Some._open c.in-Some.inner.now (stmts c.in-Ok.field-0.tree.part.items) _ c.in-Ok.field-0.height c.in-Ok.field-0.rest.now c.in-Some.ensures.kind c.in-Ok.ensures.exact)

pub block::block-returns-in-Err-clause-exact : goal.block::block-returns-in-Err-clause-exact
block::block-returns-in-Err-clause-exact t c =
    from_token (one (g.block_ Free)) c.args.depth c.args.tokens.now c.in-Some._open c.in-Some.inner.now (refused c.in-Err.error) c.in-Some.ensures.is
    (block_refused c.args.depth c.in-Some._open c.in-Some.inner.now c.in-Err.error c.in-Some.ensures.kind c.in-Err.ensures.exact)

-- `if`
pub conditional::if_statement-returns-in-None-clause-exact : goal.conditional::if_statement-returns-in-None-clause-exact
conditional::if_statement-returns-in-None-clause-exact t c = no_if c.args.depth c.args.tokens.now c.in-None.ensures.none

pub conditional::if_statement-returns-then-depth-eq0-clause-exact : goal.conditional::if_statement-returns-then-depth-eq0-clause-exact
conditional::if_statement-returns-then-depth-eq0-clause-exact t c = if_deep c.args.depth c.args.tokens.now c.in-Some.found.0 c.in-Some.found.1.now c.if-depth-eq0.true c.in-Some.ensures.is c.in-Some.ensures.kind

pub conditional::if_statement-returns-in-Err-clause-exact : goal.conditional::if_statement-returns-in-Err-clause-exact
conditional::if_statement-returns-in-Err-clause-exact t c =
    refused_depth (one g.if_statement) continues_statement c.args.depth (c.args.depth - 1) c.args.tokens.now c.in-Err.error (omega arith)
    (if_head_refused (c.args.depth - 1) c.args.tokens.now c.in-Some.found.0 c.in-Some.found.1.now c.in-Err.error c.in-Some.ensures.is c.in-Some.ensures.kind c.in-Err.ensures.exact)

pub conditional::if_statement-returns-then-n-from-clause-exact : goal.conditional::if_statement-returns-then-n-from-clause-exact
conditional::if_statement-returns-then-n-from-clause-exact t c =
    refused_depth (one g.if_statement) continues_statement c.args.depth (c.args.depth - 1) c.args.tokens.now c.discard_head.result (omega arith)
    (because (one g.if_statement) continues_statement (suc (c.args.depth - 1)) c.args.tokens.now c.body_over.result _ c.discard_head.ensures
    (if_over (c.args.depth - 1) c.args.tokens.now c.in-Some.found.0 (head_of c.in-Ok.read.tree).0 (head_of c.in-Ok.read.tree).1.0 c.in-Ok.read.height c.in-Ok.read.rest.now c.body_over.result
    (if_head_read (c.args.depth - 1) c.args.tokens.now c.in-Some.found.0 c.in-Some.found.1.now (head_of c.in-Ok.read.tree).0 (head_of c.in-Ok.read.tree).1.0 c.in-Ok.read.height c.in-Ok.read.rest.now c.in-Some.ensures.is c.in-Some.ensures.kind c.in-Ok.ensures.exact)
    (omega arith) c.body_over.ensures))

pub conditional::if_statement-returns-in-Ok-body-clause-exact : goal.conditional::if_statement-returns-in-Ok-body-clause-exact
conditional::if_statement-returns-in-Ok-body-clause-exact t c =
    at_depth (one g.if_statement) continues_statement c.args.depth (c.args.depth - 1) c.args.tokens.now (seen stmt c.otherwise.result) (omega arith)
    (c.otherwise.ensures.exact c.args.tokens.now (record {
      first = c.in-Some.found.0;
      behind = c.in-Some.found.1.now;
      is = c.in-Some.ensures.is;
      kind = c.in-Some.ensures.kind;
      place = refl;
      n = c.in-Ok.read.height;
      m = c.in-Ok-body.field-0.height;
      body = c.in-Ok.read.rest.now;
      head_found = c.in-Ok.ensures.exact;
      within = omega arith;
      body_found = c.in-Ok-body.ensures.exact;
      height_is = c.max.ensures;
    }))

pub conditional::if_statement-returns-in-Err-body-clause-exact : goal.conditional::if_statement-returns-in-Err-body-clause-exact
conditional::if_statement-returns-in-Err-body-clause-exact t c =
    refused_depth (one g.if_statement) continues_statement c.args.depth (c.args.depth - 1) c.args.tokens.now c.discard_head-in-Err-body.result (omega arith)
    (because (one g.if_statement) continues_statement (suc (c.args.depth - 1)) c.args.tokens.now c.in-Err-body.error _ c.discard_head-in-Err-body.ensures
    (if_body_refused (c.args.depth - 1) c.args.tokens.now c.in-Some.found.0 (head_of c.in-Ok.read.tree).0 (head_of c.in-Ok.read.tree).1.0 c.in-Ok.read.height c.in-Ok.read.rest.now c.in-Err-body.error
    (if_head_read (c.args.depth - 1) c.args.tokens.now c.in-Some.found.0 c.in-Some.found.1.now (head_of c.in-Ok.read.tree).0 (head_of c.in-Ok.read.tree).1.0 c.in-Ok.read.height c.in-Ok.read.rest.now c.in-Some.ensures.is c.in-Some.ensures.kind c.in-Ok.ensures.exact)
    (omega arith) c.in-Err-body.ensures.exact))

-- what stands behind the body
pub conditional::otherwise-returns-in-None-clause-exact : goal.conditional::otherwise-returns-in-None-clause-exact
conditional::otherwise-returns-in-None-clause-exact t c = λ ts z.
    answer_is (placed_so c.args.at z.first.at _ _ z.place c.in_ok-s-in-None.ensures) (omega arith)
    (if_alone c.args.depth ts z.first (head_of c.args.head).0 (head_of c.args.head).1.0 (stmts c.args.block.items) c.args.height c.args.tokens.now (if_read c.args.depth ts c.args.at (head_of c.args.head) (stmts c.args.block.items) c.args.height c.args.tokens.now z) c.in-None.ensures.none)

pub conditional::otherwise-returns-then-height-from-clause-exact : goal.conditional::otherwise-returns-then-height-from-clause-exact
conditional::otherwise-returns-then-height-from-clause-exact t c = λ ts z.
    because (one g.if_statement) continues_statement (suc c.args.depth) ts (stop.Deep (length c.in-Some.found.1.now)) _ c.discard_if.ensures
    (else_over c.args.depth ts z.first (head_of c.args.head).0 (head_of c.args.head).1.0 (stmts c.args.block.items) c.args.height c.args.tokens.now c.in-Some.found.0 c.in-Some.found.1.now
    (if_read c.args.depth ts c.args.at (head_of c.args.head) (stmts c.args.block.items) c.args.height c.args.tokens.now z) (omega arith) c.in-Some.ensures.is c.in-Some.ensures.kind)

pub conditional::otherwise-returns-in_ok-conditional-in-Ok-clause-exact : goal.conditional::otherwise-returns-in_ok-conditional-in-Ok-clause-exact
conditional::otherwise-returns-in_ok-conditional-in-Ok-clause-exact t c = λ ts z.
    answer_is (placed_so c.args.at z.first.at _ _ z.place c.in_ok-conditional-in-Ok.ensures) refl
    (elif_answer c.args.depth ts z.first (head_of c.args.head).0 (head_of c.args.head).1.0 (stmts c.args.block.items) c.args.height c.args.tokens.now c.in-Some.found.0 c.in-Some.found.1.now c.in-Some-strip._if c.in-Some-strip._after.now (stmt c.in-Ok.field-0.tree) c.in-Ok.field-0.height _ c.in-Ok.field-0.rest.now
    (if_read c.args.depth ts c.args.at (head_of c.args.head) (stmts c.args.block.items) c.args.height c.args.tokens.now z) (omega arith) c.in-Some.ensures.is c.in-Some.ensures.kind c.in-Some-strip.ensures.is c.in-Some-strip.ensures.kind c.in-Ok.ensures.exact (omega (arith, c.max.ensures)))

pub conditional::otherwise-returns-in-Err-clause-exact : goal.conditional::otherwise-returns-in-Err-clause-exact
conditional::otherwise-returns-in-Err-clause-exact t c = λ ts z.
    because (one g.if_statement) continues_statement (suc c.args.depth) ts c.in-Err.error _ c.discard_if-in-Err.ensures
    (elif_refused c.args.depth ts z.first (head_of c.args.head).0 (head_of c.args.head).1.0 (stmts c.args.block.items) c.args.height c.args.tokens.now c.in-Some.found.0 c.in-Some.found.1.now c.in-Some-strip._if c.in-Some-strip._after.now c.in-Err.error
    (if_read c.args.depth ts c.args.at (head_of c.args.head) (stmts c.args.block.items) c.args.height c.args.tokens.now z) (omega arith) c.in-Some.ensures.is c.in-Some.ensures.kind c.in-Some-strip.ensures.is c.in-Some-strip.ensures.kind c.in-Err.ensures.exact)

pub conditional::otherwise-returns-in_ok-conditional-in-Ok-body-clause-exact : goal.conditional::otherwise-returns-in_ok-conditional-in-Ok-body-clause-exact
conditional::otherwise-returns-in_ok-conditional-in-Ok-body-clause-exact t c = λ ts z.
    answer_is (placed_so c.args.at z.first.at _ _ z.place c.in_ok-conditional-in-Ok-body.ensures) refl
    (else_answer c.args.depth ts z.first (head_of c.args.head).0 (head_of c.args.head).1.0 (stmts c.args.block.items) c.args.height c.args.tokens.now c.in-Some.found.0 c.in-Some.found.1.now (stmts c.in-Ok-body.field-0.tree.items) c.in-Ok-body.field-0.height _ c.in-Ok-body.field-0.rest.now
    (if_read c.args.depth ts c.args.at (head_of c.args.head) (stmts c.args.block.items) c.args.height c.args.tokens.now z) (omega arith) c.in-Some.ensures.is c.in-Some.ensures.kind c.in_default.ensures.none c.in-Ok-body.ensures.exact (omega (arith, c.max-in-Ok-body.ensures)))

pub conditional::otherwise-returns-in-Err-body-clause-exact : goal.conditional::otherwise-returns-in-Err-body-clause-exact
conditional::otherwise-returns-in-Err-body-clause-exact t c = λ ts z.
    because (one g.if_statement) continues_statement (suc c.args.depth) ts c.in-Err-body.error _ c.discard_if-in-Err-body.ensures
    (else_refused c.args.depth ts z.first (head_of c.args.head).0 (head_of c.args.head).1.0 (stmts c.args.block.items) c.args.height c.args.tokens.now c.in-Some.found.0 c.in-Some.found.1.now c.in-Err-body.error
    (if_read c.args.depth ts c.args.at (head_of c.args.head) (stmts c.args.block.items) c.args.height c.args.tokens.now z) (omega arith) c.in-Some.ensures.is c.in-Some.ensures.kind c.in_default.ensures.none c.in-Err-body.ensures.exact)

-- what stands before it
pub conditional::before_body-returns-then-depth-eq0-clause-exact : goal.conditional::before_body-returns-then-depth-eq0-clause-exact
conditional::before_body-returns-then-depth-eq0-clause-exact t c = head_zero c.args.depth c.args.tokens.now c.nothing_fits.result c.if-depth-eq0.true c.nothing_fits.ensures.exact

pub conditional::before_body-returns-in-Ok-clause-exact : goal.conditional::before_body-returns-in-Ok-clause-exact
conditional::before_body-returns-in-Ok-clause-exact t c =
    c.closed.ensures.exact c.args.tokens.now
    (declared c.in-Declared.ensures.0 (decl c.in-Ok.field-0.tree) c.in-Ok.field-0.height c.in-Ok.field-0.rest.now (omega arith) c.in-Declared.ensures.1 c.in-Ok.ensures.exact)

pub conditional::before_body-returns-in-Err-clause-exact : goal.conditional::before_body-returns-in-Err-clause-exact
conditional::before_body-returns-in-Err-clause-exact t c = head_declaration_refused c.args.depth c.args.tokens.now c.in-Declared.ensures.0 c.in-Err.error (omega arith) c.in-Declared.ensures.1 c.in-Err.ensures.exact

pub conditional::before_body-returns-then-depth-eq1-clause-exact : goal.conditional::before_body-returns-then-depth-eq1-clause-exact
conditional::before_body-returns-then-depth-eq1-clause-exact t c = head_run_over c.args.depth c.args.tokens.now c.in-Listed.ensures.0 c.run_over.result c.if-depth-eq1.true (listed_at c.args.tokens.now c.in-Listed.ensures.0 c.in-Listed.ensures.1) c.run_over.ensures

pub conditional::before_body-returns-in-Ok-simple-clause-exact : goal.conditional::before_body-returns-in-Ok-simple-clause-exact
conditional::before_body-returns-in-Ok-simple-clause-exact t c =
    c.closed-in-Ok-simple.ensures.exact c.args.tokens.now
    (listed c.in-Listed.ensures.0 (stmt c.in-Ok-simple.field-0.tree) c.in-Ok-simple.field-0.height c.in-Ok-simple.field-0.rest.now (omega arith) c.in-Listed.ensures.1 c.in-Ok-simple.ensures.exact)

pub conditional::before_body-returns-in-Err-simple-clause-exact : goal.conditional::before_body-returns-in-Err-simple-clause-exact
conditional::before_body-returns-in-Err-simple-clause-exact t c =
    head_listed_refused c.args.depth c.args.tokens.now c.in-Listed.ensures.0 c.in-Err-simple.error (omega arith) (listed_at c.args.tokens.now c.in-Listed.ensures.0 c.in-Listed.ensures.1) c.in-Err-simple.ensures.exact

pub conditional::before_body-returns-in-Ok-level-clause-exact : goal.conditional::before_body-returns-in-Ok-level-clause-exact
conditional::before_body-returns-in-Ok-level-clause-exact t c =
    c.behind_expression.ensures.exact c.args.tokens.now c.in-Single.ensures.0 (record { some = omega arith; single = c.in-Single.ensures.1; found = c.in-Ok-level.ensures.exact })

pub conditional::before_body-returns-in-Err-level-clause-exact : goal.conditional::before_body-returns-in-Err-level-clause-exact
conditional::before_body-returns-in-Err-level-clause-exact t c =
    head_single_refused c.args.depth c.args.tokens.now c.in-Single.ensures.0 c.in-Err-level.error (omega arith) (single_at c.args.tokens.now c.in-Single.ensures.0 c.in-Single.ensures.1) c.in-Err-level.ensures.exact

pub conditional::behind_expression-returns-in-None-clause-exact : goal.conditional::behind_expression-returns-in-None-clause-exact
conditional::behind_expression-returns-in-None-clause-exact t c = λ ts place z.
    answer_is (sym c.bare.ensures) refl (head_alone c.args.depth ts place (expr c.args.e) c.args.height c.args.tokens.now (expression_at c.args.depth ts place (expr c.args.e) c.args.height c.args.tokens.now z) c.in-None.ensures.none)

pub conditional::behind_expression-returns-then-height-from-clause-exact : goal.conditional::behind_expression-returns-then-height-from-clause-exact
conditional::behind_expression-returns-then-height-from-clause-exact t c = λ ts place z.
    because head_line continues_head c.args.depth ts (stop.Deep (length c.in-Some.found.1.now)) _ c.discard_expr.ensures
    (head_over c.args.depth ts place (expr c.args.e) c.args.height c.args.tokens.now c.in-Some.found.0 c.in-Some.found.1.now (expression_at c.args.depth ts place (expr c.args.e) c.args.height c.args.tokens.now z) c.in-Some.ensures.is c.in-Some.ensures.on (omega arith))

pub conditional::behind_expression-returns-then-same_kind-clause-exact : goal.conditional::behind_expression-returns-then-same_kind-clause-exact
conditional::behind_expression-returns-then-same_kind-clause-exact t c = λ ts place z.
    c.condition.ensures.exact ts
    (condition_is (sym c.in_ok-header.ensures) (omega arith)
    (evaluated (c.args.depth - 1) place (expr c.args.e) c.args.height c.args.tokens.now c.in-Some.found.0 c.in-Some.found.1.now (omega arith) z (omega arith) c.in-Some.ensures.is (c.same_kind.ensures.0 c.if-same_kind.true)))

pub conditional::behind_expression-returns-in-Ok-clause-exact : goal.conditional::behind_expression-returns-in-Ok-clause-exact
conditional::behind_expression-returns-in-Ok-clause-exact t c = λ ts place z.
    c.closed.ensures.exact ts
    (begun (c.args.depth - 1) place (expr c.args.e) c.args.height c.args.tokens.now c.in-Some.found.0 c.in-Some.found.1.now (stmt c.in-Ok.field-0.tree) c.in-Ok.field-0.height c.in-Ok.field-0.rest.now (omega arith) z (omega arith) c.in-Some.ensures.is
    (goes_behind c.in-Some.found.0.kind c.in-Some.ensures.on (λ e. let bad : true ≡ false = sym (c.same_kind.ensures.1 e) ∙ c.if-same_kind.false in cc))
    (at_depth (one (g.simple mode.Header)) (continues_simple mode.Header) c.args.depth (c.args.depth - 1) ts (Yes (stmt c.in-Ok.field-0.tree) c.in-Ok.field-0.height c.in-Ok.field-0.rest.now) (omega arith) (c.in-Ok.ensures.exact ts (lower_found (omega arith) z.found))))

pub conditional::behind_expression-returns-in-Err-clause-exact : goal.conditional::behind_expression-returns-in-Err-clause-exact
conditional::behind_expression-returns-in-Err-clause-exact t c = λ ts place z.
    head_clause_refused c.args.depth (c.args.depth - 1) ts place (expr c.args.e) c.args.height c.args.tokens.now c.in-Some.found.0 c.in-Some.found.1.now c.in-Err.error (omega arith) (expression_at c.args.depth ts place (expr c.args.e) c.args.height c.args.tokens.now z) (omega arith)
    c.in-Some.ensures.is (goes_behind c.in-Some.found.0.kind c.in-Some.ensures.on (λ e. let bad : true ≡ false = sym (c.same_kind.ensures.1 e) ∙ c.if-same_kind.false in cc))
    (at_depth (one (g.simple mode.Header)) (continues_simple mode.Header) c.args.depth (c.args.depth - 1) ts (refused c.in-Err.error) (omega arith) (c.in-Err.ensures.exact ts (lower_found (omega arith) z.found)))

pub conditional::closed-returns-in-Ok-clause-exact : goal.conditional::closed-returns-in-Ok-clause-exact
conditional::closed-returns-in-Ok-clause-exact t c = λ ts z.
    c.condition.ensures.exact ts (closed (header_of c.args.header) c.args.height c.args.tokens.now c.in-Ok._semicolon c.in-Ok.rest.now z (c.within.ensures.0 c.in-Ok.ensures.within) c.in-Ok.ensures.is c.in-Ok.ensures.kind)

pub conditional::closed-returns-in-Ok-clause-low : goal.conditional::closed-returns-in-Ok-clause-low
conditional::closed-returns-in-Ok-clause-low t c = c.condition.ensures.low (c.within.ensures.0 c.in-Ok.ensures.within)

pub conditional::closed-returns-in-Err-clause-exact : goal.conditional::closed-returns-in-Err-clause-exact
conditional::closed-returns-in-Err-clause-exact t c = λ ts z.
    because head_line continues_head c.args.depth ts c.in-Err.error _ c.discard_header.ensures
    (head_unclosed c.args.depth ts (header_of c.args.header) c.args.height c.args.tokens.now c.in-Err.error _ (closed_at c.args.depth ts (header_of c.args.header) c.args.height c.args.tokens.now z) (λ over. over_by _ _ _ c.within.ensures.1 over) c.in-Err.ensures.refused)

pub conditional::condition-returns-in-Ok-clause-exact : goal.conditional::condition-returns-in-Ok-clause-exact
conditional::condition-returns-in-Ok-clause-exact t c = λ ts z.
    condition_answer c.args.depth ts (header_of c.args.header) c.args.height c.args.tokens.now (expr c.in-Ok.field-0.tree) c.in-Ok.field-0.height _ c.in-Ok.field-0.rest.now (condition_at c.args.depth ts (header_of c.args.header) c.args.height c.args.tokens.now z)
    (condition_within c.args.depth ts (header_of c.args.header) c.args.height c.args.tokens.now z) c.in-Ok.ensures.exact c.max.ensures

pub conditional::condition-returns-in-Err-clause-exact : goal.conditional::condition-returns-in-Err-clause-exact
conditional::condition-returns-in-Err-clause-exact t c = λ ts z.
    because head_line continues_head c.args.depth ts c.in-Err.error _ c.discard_header.ensures
    (condition_refused c.args.depth ts (header_of c.args.header) c.args.height c.args.tokens.now c.in-Err.error (condition_at c.args.depth ts (header_of c.args.header) c.args.height c.args.tokens.now z)
    (condition_within c.args.depth ts (header_of c.args.header) c.args.height c.args.tokens.now z) c.in-Err.ensures.exact)

-- values
pub spans::span-returns-in-Ok-clause-exact : goal.spans::span-returns-in-Ok-clause-exact
spans::span-returns-in-Ok-clause-exact t c = c.span_from.ensures.exact c.args.tokens.now c.in-Ok.ensures.exact

pub spans::span-returns-in-Err-clause-exact : goal.spans::span-returns-in-Err-clause-exact
spans::span-returns-in-Err-clause-exact t c = span_refused c.args.mode c.args.depth c.args.tokens.now c.in-Err.error c.in-Err.ensures.exact

pub spans::span_from-returns-then-height-from-clause-exact : goal.spans::span_from-returns-then-height-from-clause-exact
spans::span_from-returns-then-height-from-clause-exact t c = λ ts found.
    because (one (g.span_ c.args.mode)) (continues_span c.args.mode) c.args.depth ts (stop.Deep (length c.in-Some.behind.now)) c.discard_expr.result c.discard_expr.ensures
    (through_deep c.args.mode c.args.depth ts (expr c.args.from) c.args.height c.args.tokens.now c.in-Some._through c.in-Some.behind.now (from_read c.args.mode c.args.depth ts (expr c.args.from) c.args.height c.args.tokens.now found) (omega arith) c.in-Some.ensures.is c.in-Some.ensures.kind)

pub spans::span_from-returns-in-Ok-clause-exact : goal.spans::span_from-returns-in-Ok-clause-exact
spans::span_from-returns-in-Ok-clause-exact t c = λ ts found.
    answer_is (sym c.through.ensures) refl
    (through_answer c.args.mode c.args.depth ts (expr c.args.from) c.args.height c.args.tokens.now c.in-Some._through c.in-Some.behind.now (expr c.in-Ok.field-0.tree) c.in-Ok.field-0.height c.max.result c.in-Ok.field-0.rest.now
    (from_read c.args.mode c.args.depth ts (expr c.args.from) c.args.height c.args.tokens.now found) (omega arith) c.in-Some.ensures.is c.in-Some.ensures.kind c.in-Ok.ensures.exact (omega (arith, c.max.ensures)))

pub spans::span_from-returns-in-Err-clause-exact : goal.spans::span_from-returns-in-Err-clause-exact
spans::span_from-returns-in-Err-clause-exact t c = λ ts found.
    because (one (g.span_ c.args.mode)) (continues_span c.args.mode) c.args.depth ts c.in-Err.error c.discard_expr-in-Err.result c.discard_expr-in-Err.ensures
    (through_refused c.args.mode c.args.depth ts (expr c.args.from) c.args.height c.args.tokens.now c.in-Some._through c.in-Some.behind.now c.in-Err.error (from_read c.args.mode c.args.depth ts (expr c.args.from) c.args.height c.args.tokens.now found) (omega arith)
    c.in-Some.ensures.is c.in-Some.ensures.kind c.in-Err.ensures.exact)

pub spans::span_from-returns-then-height-from-2-clause-exact : goal.spans::span_from-returns-then-height-from-2-clause-exact
spans::span_from-returns-then-height-from-2-clause-exact t c = λ ts found.
    because (one (g.span_ c.args.mode)) (continues_span c.args.mode) c.args.depth ts (stop.Deep (length c.in-Some-strip.behind.now)) c.discard_expr-then-height-from-2.result c.discard_expr-then-height-from-2.ensures
    (below_deep c.args.mode c.args.depth ts (expr c.args.from) c.args.height c.args.tokens.now c.in-Some-strip._below c.in-Some-strip.behind.now (from_read c.args.mode c.args.depth ts (expr c.args.from) c.args.height c.args.tokens.now found) (omega arith) c.in-Some-strip.ensures.is c.in-Some-strip.ensures.kind)

pub spans::span_from-returns-in-Ok-level-clause-exact : goal.spans::span_from-returns-in-Ok-level-clause-exact
spans::span_from-returns-in-Ok-level-clause-exact t c = λ ts found.
    answer_is (sym c.below.ensures) refl
    (below_answer c.args.mode c.args.depth ts (expr c.args.from) c.args.height c.args.tokens.now c.in-Some-strip._below c.in-Some-strip.behind.now (expr c.in-Ok-level.field-0.tree) c.in-Ok-level.field-0.height c.max-in-Ok-level.result c.in-Ok-level.field-0.rest.now
    (from_read c.args.mode c.args.depth ts (expr c.args.from) c.args.height c.args.tokens.now found) (omega arith) c.in-Some-strip.ensures.is c.in-Some-strip.ensures.kind c.in-Ok-level.ensures.exact (omega (arith, c.max-in-Ok-level.ensures)))

pub spans::span_from-returns-in-Err-level-clause-exact : goal.spans::span_from-returns-in-Err-level-clause-exact
spans::span_from-returns-in-Err-level-clause-exact t c = λ ts found.
    because (one (g.span_ c.args.mode)) (continues_span c.args.mode) c.args.depth ts c.in-Err-level.error c.discard_expr-in-Err-level.result c.discard_expr-in-Err-level.ensures
    (below_refused c.args.mode c.args.depth ts (expr c.args.from) c.args.height c.args.tokens.now c.in-Some-strip._below c.in-Some-strip.behind.now c.in-Err-level.error (from_read c.args.mode c.args.depth ts (expr c.args.from) c.args.height c.args.tokens.now found) (omega arith)
    c.in-Some-strip.ensures.is c.in-Some-strip.ensures.kind c.in-Err-level.ensures.exact)

pub spans::span_from-returns-clause-exact : goal.spans::span_from-returns-clause-exact
spans::span_from-returns-clause-exact t c = λ ts found.
    answer_is (sym c.alone.ensures) refl
    (span_alone_answer c.args.mode c.args.depth ts (expr c.args.from) c.args.height c.args.tokens.now (from_read c.args.mode c.args.depth ts (expr c.args.from) c.args.height c.args.tokens.now found) c.in_default.ensures.none c.in_default-strip.ensures.none)

-- the values of a case
pub spans::items-returns-in-Ok-clause-exact : goal.spans::items-returns-in-Ok-clause-exact
spans::items-returns-in-Ok-clause-exact t c = c.items_from.ensures.exact c.args.tokens.now c.in-Ok.ensures.shorter c.in-Ok.ensures.exact

pub spans::items-returns-then-stands_at-clause-exact : goal.spans::items-returns-then-stands_at-clause-exact
spans::items-returns-then-stands_at-clause-exact t c =
    answer_is (ap spans (sym c.new.ensures.items)) refl
    (items_none_answer c.args.depth c.args.tokens.now
    (because (one (g.span_ Free)) (continues_span Free) c.args.depth c.args.tokens.now c.in-Err.error (stop.Syntax (length c.args.tokens.now)) (sym (c.stands_at.ensures.0 c.if-stands_at.true)) c.in-Err.ensures.exact))

pub spans::items-returns-else-stands_at-clause-exact : goal.spans::items-returns-else-stands_at-clause-exact
spans::items-returns-else-stands_at-clause-exact t c =
    items_refused c.args.depth c.args.tokens.now c.in-Err.error c.in-Err.ensures.exact (λ e. let bad : true ≡ false = sym (c.stands_at.ensures.1 e) ∙ c.if-stands_at.false in cc)

pub spans::items_from-items-init : goal.spans::items_from-items-init
spans::items_from-items-init t c = record {
  led = λ ts shorter found. items_first c.args.depth ts c.in_ok-list.list.items c.args.first c.args.height c.args.tokens.now c.in_ok-list.ensures found shorter;
  short = omega arith;
  low = λ h. h;
}

pub spans::items_from-returns-then-top-from-clause-exact : goal.spans::items_from-returns-then-top-from-clause-exact
spans::items_from-returns-then-top-from-clause-exact t c = λ ts shorter found.
    because (one g.items) begins_items c.args.depth ts (stop.Deep (length c.in-Some.behind.now)) c.discard_spans.result c.discard_spans.ensures
    (items_deep c.args.depth ts c.items.list.items c.items.top c.items.rest.now c.in-Some._comma c.in-Some.behind.now (c.items.invariant.led ts shorter found) (omega arith) c.in-Some.ensures.is c.in-Some.ensures.kind)

pub spans::items_from-returns-in-Err-clause-exact : goal.spans::items_from-returns-in-Err-clause-exact
spans::items_from-returns-in-Err-clause-exact t c = λ ts shorter found.
    because (one g.items) begins_items c.args.depth ts c.in-Err.error c.discard_spans-in-Err.result c.discard_spans-in-Err.ensures
    (items_more_refused c.args.depth ts c.items.list.items c.items.top c.items.rest.now c.in-Some._comma c.in-Some.behind.now c.in-Err.error (c.items.invariant.led ts shorter found) (omega arith) c.in-Some.ensures.is c.in-Some.ensures.kind c.in-Err.ensures.exact)

pub spans::items_from-items-preserved : goal.spans::items_from-items-preserved
spans::items_from-items-preserved t c = record {
  led = λ ts shorter found.
      items_more_read c.args.depth ts c.items.list.items c.in_ok-list-2.list.items c.items.top c.items.rest.now c.in-Some._comma c.in-Some.behind.now c.in-Ok.read.tree c.in-Ok.read.height c.max-top.result c.in-Ok.read.rest.now (c.items.invariant.led ts shorter found) (omega arith)
      c.in-Some.ensures.is c.in-Some.ensures.kind c.in-Ok.ensures.exact c.in_ok-list-2.ensures (omega (arith, c.max-top.ensures));
  short = let longer = ap length c.in-Some.ensures.is in let read = c.in-Ok.ensures.shorter in let before = c.items.invariant.short in omega (arith, longer, read, before);
  low = λ h. let read = c.in-Ok.ensures.low in let before = c.items.invariant.low h in omega (arith, c.max-top.ensures, read, before);
}

pub spans::items_from-returns-clause-exact : goal.spans::items_from-returns-clause-exact
spans::items_from-returns-clause-exact t c = λ ts shorter found. items_answer c.args.depth ts c.items.list.items c.items.top c.items.rest.now (c.items.invariant.led ts shorter found) c.in_default.ensures.none

-- cases
pub cases::cases-cases-init : goal.cases::cases-cases-init
cases::cases-cases-init t c = record { led = cases_start c.args.depth c.args.tokens.now c.new-list.result.items c.new-list.ensures.items; short = omega arith; low = omega arith }

pub cases::cases-returns-then-height-from-clause-exact : goal.cases::cases-returns-then-height-from-clause-exact
cases::cases-returns-then-height-from-clause-exact t c =
    because (one g.cases) continues_cases c.args.depth c.args.tokens.now (stop.Deep (length c.in-Some.behind.now)) c.discard_cases.result c.discard_cases.ensures
    (case_deep c.args.depth c.args.tokens.now c.cases.list.items c.cases.height c.cases.rest.now c.in-Some.word c.in-Some.behind.now c.cases.invariant.led (omega arith) c.in-Some.ensures.is c.in-Some.ensures.kind)

pub cases::cases-returns-in-Err-clause-exact : goal.cases::cases-returns-in-Err-clause-exact
cases::cases-returns-in-Err-clause-exact t c =
    because (one g.cases) continues_cases c.args.depth c.args.tokens.now c.in-Err.error c.discard_cases-in-Err.result c.discard_cases-in-Err.ensures
    (case_items_refused c.args.depth c.args.tokens.now c.cases.list.items c.in-Some.word.at c.cases.height c.in-Some.behind.now c.in-Err.error
    (case_at c.args.depth c.args.tokens.now c.cases.list.items c.cases.height c.cases.rest.now c.in-Some.word c.in-Some.behind.now c.cases.invariant.led (omega arith) c.in-Some.ensures.is c.in-Some.ensures.kind) (omega arith) c.in-Err.ensures.exact)

pub cases::cases-returns-in-Err-expect-clause-exact : goal.cases::cases-returns-in-Err-expect-clause-exact
cases::cases-returns-in-Err-expect-clause-exact t c =
    because (one g.cases) continues_cases c.args.depth c.args.tokens.now c.in-Err-expect.error c.discard_values.result c.discard_values.ensures
    (case_no_colon c.args.depth c.args.tokens.now c.cases.list.items c.in-Some.word.at (spans c.in-Ok.read.tree.items) (max c.cases.height c.in-Ok.read.height) c.in-Ok.read.rest.now c.in-Err-expect.error _
    (case_items c.args.depth c.args.tokens.now c.cases.list.items c.in-Some.word.at c.cases.height c.in-Some.behind.now (spans c.in-Ok.read.tree.items) c.in-Ok.read.height c.in-Ok.read.rest.now
    (case_at c.args.depth c.args.tokens.now c.cases.list.items c.cases.height c.cases.rest.now c.in-Some.word c.in-Some.behind.now c.cases.invariant.led (omega arith) c.in-Some.ensures.is c.in-Some.ensures.kind) (omega arith) c.in-Ok.ensures.exact)
    (λ over. let deep = over_by _ c.max-top.result c.args.depth c.within.ensures.1 over in omega (arith, c.max-top.ensures, deep)) c.in-Err-expect.ensures.refused)

pub cases::cases-returns-in-Err-stmts-clause-exact : goal.cases::cases-returns-in-Err-stmts-clause-exact
cases::cases-returns-in-Err-stmts-clause-exact t c =
    because (one g.cases) continues_cases c.args.depth c.args.tokens.now c.in-Err-stmts.error c.discard_values-in-Err-stmts.result c.discard_values-in-Err-stmts.ensures
    (let low = c.within.ensures.0 c.in-Ok-expect.ensures.within in
    case_body_refused c.args.depth c.args.tokens.now c.cases.list.items c.in-Some.word.at (spans c.in-Ok.read.tree.items) (max c.cases.height c.in-Ok.read.height) c.in-Ok-expect.inner.now c.in-Err-stmts.error
    (case_colon c.args.depth c.args.tokens.now c.cases.list.items c.in-Some.word.at (spans c.in-Ok.read.tree.items) (max c.cases.height c.in-Ok.read.height) c.in-Ok.read.rest.now c.in-Ok-expect._colon c.in-Ok-expect.inner.now
    (case_items c.args.depth c.args.tokens.now c.cases.list.items c.in-Some.word.at c.cases.height c.in-Some.behind.now (spans c.in-Ok.read.tree.items) c.in-Ok.read.height c.in-Ok.read.rest.now
    (case_at c.args.depth c.args.tokens.now c.cases.list.items c.cases.height c.cases.rest.now c.in-Some.word c.in-Some.behind.now c.cases.invariant.led (omega arith) c.in-Some.ensures.is c.in-Some.ensures.kind) (omega arith) c.in-Ok.ensures.exact)
    (omega (arith, low, c.max-top.ensures)) c.in-Ok-expect.ensures.is c.in-Ok-expect.ensures.kind)
    (omega (arith, low, c.max-top.ensures)) c.in-Err-stmts.ensures.exact)

pub cases::cases-cases-preserved : goal.cases::cases-cases-preserved
cases::cases-cases-preserved t c =
    let low = c.within.ensures.0 c.in-Ok-expect.ensures.within in
    record {
      led =
          case_answer c.args.depth c.args.tokens.now c.cases.list.items c.in_ok-list.list.items (record { at = c.in-Some.word.at; items = c.in-Ok.read.tree; body = c.in-Ok-stmts.read.tree }) c.in-Some.word.at (spans c.in-Ok.read.tree.items) (stmts c.in-Ok-stmts.read.tree.items) (max c.cases.height c.in-Ok.read.height) c.in-Ok-expect.inner.now c.in-Ok-stmts.read.height c.max-height.result c.in-Ok-stmts.read.rest.now
          (λ l. refl)
          (case_colon c.args.depth c.args.tokens.now c.cases.list.items c.in-Some.word.at (spans c.in-Ok.read.tree.items) (max c.cases.height c.in-Ok.read.height) c.in-Ok.read.rest.now c.in-Ok-expect._colon c.in-Ok-expect.inner.now
          (case_items c.args.depth c.args.tokens.now c.cases.list.items c.in-Some.word.at c.cases.height c.in-Some.behind.now (spans c.in-Ok.read.tree.items) c.in-Ok.read.height c.in-Ok.read.rest.now
          (case_at c.args.depth c.args.tokens.now c.cases.list.items c.cases.height c.cases.rest.now c.in-Some.word c.in-Some.behind.now c.cases.invariant.led (omega arith) c.in-Some.ensures.is c.in-Some.ensures.kind) (omega arith) c.in-Ok.ensures.exact)
          (omega (arith, low, c.max-top.ensures)) c.in-Ok-expect.ensures.is c.in-Ok-expect.ensures.kind)
          (omega (arith, low, c.max-top.ensures)) c.in-Ok-stmts.ensures.exact c.in_ok-list.ensures (omega (arith, c.max-top.ensures, c.max-height.ensures));
      short =
          let longer = ap length c.in-Some.ensures.is in
          let again = ap length c.in-Ok-expect.ensures.is in
          let values = c.in-Ok.ensures.shorter in
          let body = c.in-Ok-stmts.ensures.shorter in
          let before = c.cases.invariant.short in
          omega (arith, longer, again, values, body, before);
      low = let body = c.in-Ok-stmts.ensures.low in omega (arith, low, c.max-height.ensures, body);
    }

pub cases::cases-returns-clause-exact : goal.cases::cases-returns-clause-exact
cases::cases-returns-clause-exact t c = cases_answer c.args.depth c.args.tokens.now c.cases.list.items c.cases.height c.cases.rest.now c.cases.invariant.led c.in_default.ensures.none

-- what stands before the cases
pub switches::before_cases-returns-in-Ok-clause-exact : goal.switches::before_cases-returns-in-Ok-clause-exact
switches::before_cases-returns-in-Ok-clause-exact t c =
    typed_answer c.args.depth c.args.tokens.now c.in-Some.name c.in-Some.mark c.in-Some.rest.now (expr c.in-Ok.field-0.tree) c.in-Ok.field-0.height c.in-Ok.field-0.rest.now c.in-Some.ensures.is c.in-Some.ensures.name c.in-Some.ensures.mark c.in-Ok.ensures.exact

pub switches::before_cases-returns-in-Err-clause-exact : goal.switches::before_cases-returns-in-Err-clause-exact
switches::before_cases-returns-in-Err-clause-exact t c =
    typed_refused c.args.depth c.args.tokens.now c.in-Some.name c.in-Some.mark c.in-Some.rest.now c.in-Err.error c.in-Some.ensures.is c.in-Some.ensures.name c.in-Some.ensures.mark c.in-Err.ensures.exact

pub switches::before_cases-returns-then-depth-eq0-clause-exact : goal.switches::before_cases-returns-then-depth-eq0-clause-exact
switches::before_cases-returns-then-depth-eq0-clause-exact t c = bound_is switch_head before_cases c.args.tokens.now _ c.if-depth-eq0.true (c.no_level.ensures.exact c.in_default.ensures.none)

pub switches::before_cases-returns-in-Ok-declaration-clause-exact : goal.switches::before_cases-returns-in-Ok-declaration-clause-exact
switches::before_cases-returns-in-Ok-declaration-clause-exact t c =
    c.closed.ensures.exact c.args.tokens.now c.in_default.ensures.none
    (header.declared c.in-Declared.ensures.0 (decl c.in-Ok-declaration.field-0.tree) c.in-Ok-declaration.field-0.height c.in-Ok-declaration.field-0.rest.now (omega arith) c.in-Declared.ensures.1 c.in-Ok-declaration.ensures.exact)

pub switches::before_cases-returns-in-Err-declaration-clause-exact : goal.switches::before_cases-returns-in-Err-declaration-clause-exact
switches::before_cases-returns-in-Err-declaration-clause-exact t c =
    declared_refused c.args.depth c.args.tokens.now c.in-Declared.ensures.0 c.in-Err-declaration.error c.in_default.ensures.none (omega arith) c.in-Declared.ensures.1 c.in-Err-declaration.ensures.exact

pub switches::before_cases-returns-in-Listed-clause-exact : goal.switches::before_cases-returns-in-Listed-clause-exact
switches::before_cases-returns-in-Listed-clause-exact t c = c.listed.ensures.exact c.in-Listed.ensures.0 (omega arith) c.in_default.ensures.none c.in-Listed.ensures.1

pub switches::before_cases-returns-in-Ok-level-clause-exact : goal.switches::before_cases-returns-in-Ok-level-clause-exact
switches::before_cases-returns-in-Ok-level-clause-exact t c =
    c.behind_value.ensures.exact c.args.tokens.now c.in-Single.ensures.0 c.in_default.ensures.none c.in-Ok-level.ensures.shorter (record { some = omega arith; single = c.in-Single.ensures.1; found = c.in-Ok-level.ensures.exact })

pub switches::before_cases-returns-then-stands_at-clause-exact : goal.switches::before_cases-returns-then-stands_at-clause-exact
switches::before_cases-returns-then-stands_at-clause-exact t c =
    answer_is (sym c.nothing.ensures) refl
    (single_none c.args.depth c.args.tokens.now c.in-Single.ensures.0 (omega arith) c.in-Single.ensures.1
    (because (one (g.expression Header)) (continues Or Header) c.args.depth c.args.tokens.now c.in-Err-level.error (stop.Syntax (length c.args.tokens.now)) (sym (c.stands_at.ensures.0 c.if-stands_at.true)) c.in-Err-level.ensures.exact))

pub switches::before_cases-returns-else-stands_at-clause-exact : goal.switches::before_cases-returns-else-stands_at-clause-exact
switches::before_cases-returns-else-stands_at-clause-exact t c =
    single_refused c.args.depth c.args.tokens.now c.in-Single.ensures.0 c.in-Err-level.error (omega arith) c.in_default.ensures.none c.in-Single.ensures.1 c.in-Err-level.ensures.exact (λ e. let bad : true ≡ false = sym (c.stands_at.ensures.1 e) ∙ c.if-stands_at.false in cc)

-- where no level is left
pub switches::no_level-returns-then-stands_at-clause-exact : goal.switches::no_level-returns-then-stands_at-clause-exact
switches::no_level-returns-then-stands_at-clause-exact t c = λ untyped.
    answer_is (sym c.nothing.ensures) refl
    (head_none 0 c.args.tokens.now c.in-None.ensures.none
    (because (one (g.expression Header)) (continues Or Header) 0 c.args.tokens.now c.nothing_fits-stop.result (stop.Syntax (length c.args.tokens.now)) (sym (c.stands_at.ensures.0 c.if-stands_at.true)) c.nothing_fits-stop.ensures.exact))

pub switches::no_level-returns-in-None-clause-exact : goal.switches::no_level-returns-in-None-clause-exact
switches::no_level-returns-in-None-clause-exact t c = λ untyped.
    unnamed_refused 0 c.args.tokens.now c.nothing_fits-stop.result c.in-None.ensures.none c.nothing_fits-stop.ensures.exact (λ e. let bad : true ≡ false = sym (c.stands_at.ensures.1 e) ∙ c.if-stands_at.false in cc)

pub switches::no_level-returns-in-Some-head_on-clause-exact : goal.switches::no_level-returns-in-Some-head_on-clause-exact
switches::no_level-returns-in-Some-head_on-clause-exact t c = λ untyped.
    zero_over 0 c.args.tokens.now c.in-Some.found.0 c.in-Some.found.1.now c.in-Some-head_on._token c.in-Some-head_on.rest.now refl c.in-Some.ensures.is c.in-Some.ensures.kind c.in-Some-head_on.ensures.is untyped c.in-Some-head_on.ensures.on

pub switches::no_level-returns-in_ok-e-in-None-head_on-clause-exact : goal.switches::no_level-returns-in_ok-e-in-None-head_on-clause-exact
switches::no_level-returns-in_ok-e-in-None-head_on-clause-exact t c = λ untyped.
    answer_is (sym (c.value_alone.ensures ∙ ap (λ e. by_value tree.no_header (tree.some_expr (expr e))) c.in_ok-e-in-None-head_on.ensures)) refl
    (zero_alone 0 c.args.tokens.now c.in-Some.found.0 c.in-Some.found.1.now refl c.in-Some.ensures.is c.in-Some.ensures.kind untyped c.in-None-head_on.ensures.none)

-- several names
pub switches::listed-returns-then-depth-le1-clause-exact : goal.switches::listed-returns-then-depth-le1-clause-exact
switches::listed-returns-then-depth-le1-clause-exact t c = λ place some untyped z. listed_over c.args.depth c.args.tokens.now place c.run_over.result untyped (omega (arith, some)) z c.run_over.ensures

pub switches::listed-returns-in-Ok-clause-exact : goal.switches::listed-returns-in-Ok-clause-exact
switches::listed-returns-in-Ok-clause-exact t c = λ place some untyped z.
    c.closed.ensures.exact c.args.tokens.now untyped
    (header.listed place (stmt c.in-Ok.field-0.tree) c.in-Ok.field-0.height c.in-Ok.field-0.rest.now (omega arith) z c.in-Ok.ensures.exact)

pub switches::listed-returns-in-Err-clause-exact : goal.switches::listed-returns-in-Err-clause-exact
switches::listed-returns-in-Err-clause-exact t c = λ place some untyped z. listed_refused c.args.depth c.args.tokens.now place c.in-Err.error untyped (omega arith) z c.in-Err.ensures.exact

-- behind the first expression
pub switches::behind_value-returns-in-None-clause-exact : goal.switches::behind_value-returns-in-None-clause-exact
switches::behind_value-returns-in-None-clause-exact t c = λ ts place untyped shorter z.
    answer_is (sym c.value_alone.ensures) refl (value_alone c.args.depth ts place (expr c.args.e) c.args.height c.args.tokens.now untyped shorter z c.in-None.ensures.none)

pub switches::behind_value-returns-then-height-from-clause-exact : goal.switches::behind_value-returns-then-height-from-clause-exact
switches::behind_value-returns-then-height-from-clause-exact t c = λ ts place untyped shorter z.
    because switch_head before_cases c.args.depth ts (stop.Deep (length c.in-Some.found.1.now)) c.discard_expr.result c.discard_expr.ensures
    (value_over c.args.depth ts place (expr c.args.e) c.args.height c.args.tokens.now c.in-Some.found.0 c.in-Some.found.1.now untyped z c.in-Some.ensures.is c.in-Some.ensures.on (omega arith))

pub switches::behind_value-returns-then-same_kind-clause-exact : goal.switches::behind_value-returns-then-same_kind-clause-exact
switches::behind_value-returns-then-same_kind-clause-exact t c = λ ts place untyped shorter z.
    c.value.ensures.exact ts untyped
    (condition_as c.args.depth ts (header_of c.in_ok-header.header) (tree.simple_header (tree.stmt (tree.first_of c.args.e) (tree.eval (tree.more_exprs (expr c.args.e) tree.no_exprs)))) (c.args.height + 1) (suc c.args.height) c.in-Some.found.1.now c.in_ok-header.ensures (omega arith)
    (header.evaluated (c.args.depth - 1) place (expr c.args.e) c.args.height c.args.tokens.now c.in-Some.found.0 c.in-Some.found.1.now (omega arith) z (omega arith) c.in-Some.ensures.is (c.same_kind.ensures.0 c.if-same_kind.true)))

pub switches::behind_value-returns-in-Ok-clause-exact : goal.switches::behind_value-returns-in-Ok-clause-exact
switches::behind_value-returns-in-Ok-clause-exact t c = λ ts place untyped shorter z.
    c.closed.ensures.exact ts untyped
    (header.begun (c.args.depth - 1) place (expr c.args.e) c.args.height c.args.tokens.now c.in-Some.found.0 c.in-Some.found.1.now (stmt c.in-Ok.field-0.tree) c.in-Ok.field-0.height c.in-Ok.field-0.rest.now (omega arith) z (omega arith) c.in-Some.ensures.is
    (goes_on_clause c.in-Some.found.0.kind c.in-Some.ensures.on (λ e. let bad : true ≡ false = sym (c.same_kind.ensures.1 e) ∙ c.if-same_kind.false in cc))
    (bound_is (one (g.simple Header)) (continues_simple Header) ts (Yes (stmt c.in-Ok.field-0.tree) c.in-Ok.field-0.height c.in-Ok.field-0.rest.now) (omega arith) (c.in-Ok.ensures.exact ts (lower_found (omega arith) z.found))))

pub switches::behind_value-returns-in-Err-clause-exact : goal.switches::behind_value-returns-in-Err-clause-exact
switches::behind_value-returns-in-Err-clause-exact t c = λ ts place untyped shorter z.
    assigned_refused c.args.depth (c.args.depth - 1) ts place (expr c.args.e) c.args.height c.args.tokens.now c.in-Some.found.0 c.in-Some.found.1.now c.in-Err.error untyped (omega arith) z (omega arith) c.in-Some.ensures.is
    (goes_on_clause c.in-Some.found.0.kind c.in-Some.ensures.on (λ e. let bad : true ≡ false = sym (c.same_kind.ensures.1 e) ∙ c.if-same_kind.false in cc))
    (bound_is (one (g.simple Header)) (continues_simple Header) ts (refused c.in-Err.error) (omega arith) (c.in-Err.ensures.exact ts (lower_found (omega arith) z.found)))

-- its `;`, and the value behind it
pub switches::closed-returns-in-Ok-clause-exact : goal.switches::closed-returns-in-Ok-clause-exact
switches::closed-returns-in-Ok-clause-exact t c = λ ts untyped z.
    c.value.ensures.exact ts untyped (header.closed (header_of c.args.header) c.args.height c.args.tokens.now c.in-Ok._semicolon c.in-Ok.rest.now z (c.within.ensures.0 c.in-Ok.ensures.within) c.in-Ok.ensures.is c.in-Ok.ensures.kind)

pub switches::closed-returns-in-Err-clause-exact : goal.switches::closed-returns-in-Err-clause-exact
switches::closed-returns-in-Err-clause-exact t c = λ ts untyped z.
    because switch_head before_cases c.args.depth ts c.in-Err.error c.discard_header.result c.discard_header.ensures
    (switch_values.head_unclosed c.args.depth ts (header_of c.args.header) c.args.height c.args.tokens.now c.in-Err.error _ untyped z (λ over. over_by _ _ _ c.within.ensures.1 over) c.in-Err.ensures.refused)

pub switches::value-returns-in-Ok-clause-exact : goal.switches::value-returns-in-Ok-clause-exact
switches::value-returns-in-Ok-clause-exact t c = λ ts untyped z.
    value_answer c.args.depth ts (header_of c.args.header) c.args.height c.args.tokens.now (expr c.in-Ok.field-0.tree) c.in-Ok.field-0.height c.max.result c.in-Ok.field-0.rest.now untyped z c.in-Ok.ensures.exact c.in-Ok.ensures.shorter (omega (arith, c.max.ensures))

pub switches::value-returns-then-stands_at-clause-exact : goal.switches::value-returns-then-stands_at-clause-exact
switches::value-returns-then-stands_at-clause-exact t c = λ ts untyped z.
    value_none c.args.depth ts (header_of c.args.header) c.args.height c.args.tokens.now untyped z
    (because (one (g.expression Header)) (continues Or Header) c.args.depth c.args.tokens.now c.in-Err.error (stop.Syntax (length c.args.tokens.now)) (sym (c.stands_at.ensures.0 c.if-stands_at.true)) c.in-Err.ensures.exact)

pub switches::value-returns-else-stands_at-clause-exact : goal.switches::value-returns-else-stands_at-clause-exact
switches::value-returns-else-stands_at-clause-exact t c = λ ts untyped z.
    because switch_head before_cases c.args.depth ts c.in-Err.error c.discard_header.result c.discard_header.ensures
    (value_refused c.args.depth ts (header_of c.args.header) c.args.height c.args.tokens.now c.in-Err.error untyped z c.in-Err.ensures.exact (λ e. let bad : true ≡ false = sym (c.stands_at.ensures.1 e) ∙ c.if-stands_at.false in cc))

-- a switch
pub switches::switch_statement-returns-in-Err-clause-refused : goal.switches::switch_statement-returns-in-Err-clause-refused
switches::switch_statement-returns-in-Err-clause-refused t c = λ brace loop. c.in-Err.ensures.refused c.args.depth brace loop

pub switches::switch_statement-returns-in-Err-before_cases-clause-refused : goal.switches::switch_statement-returns-in-Err-before_cases-clause-refused
switches::switch_statement-returns-in-Err-before_cases-clause-refused t c = λ brace loop.
    switch_head_refused c.args.depth c.args.tokens.now c.in-Ok.found.0 c.in-Ok.found.1 c.in-Ok.found.2.now c.in-Err-before_cases.error c.in-Ok.ensures.word c.in-Err-before_cases.ensures.exact

pub switches::switch_statement-returns-in-Err-expect-clause-refused : goal.switches::switch_statement-returns-in-Err-expect-clause-refused
switches::switch_statement-returns-in-Err-expect-clause-refused t c = λ brace loop.
    because (one labelled_part) continues_statement c.args.depth c.args.tokens.now c.in-Err-expect.error c.discard_head.result c.discard_head.ensures
    (switch_unopened c.args.depth c.args.tokens.now c.in-Ok.found.0 c.in-Ok.found.1 c.in-Ok.found.2.now (switch_forms.head_of c.in-Ok-before_cases.read.tree) c.in-Ok-before_cases.read.height c.in-Ok-before_cases.read.rest.now c.in-Ok.ensures.word c.in-Ok-before_cases.ensures.exact
    c.in-Err-expect.error _ c.within.ensures.1 c.in-Err-expect.ensures.refused)

pub switches::switch_statement-returns-in-Err-cases-clause-refused : goal.switches::switch_statement-returns-in-Err-cases-clause-refused
switches::switch_statement-returns-in-Err-cases-clause-refused t c = λ brace loop.
    because (one labelled_part) continues_statement c.args.depth c.args.tokens.now c.in-Err-cases.error c.discard_head-in-Err-cases.result c.discard_head-in-Err-cases.ensures
    (switch_cases_refused c.args.depth c.args.tokens.now c.in-Ok.found.0 c.in-Ok.found.1 c.in-Ok.found.2.now (switch_forms.head_of c.in-Ok-before_cases.read.tree) c.in-Ok-before_cases.read.height c.in-Ok-before_cases.read.rest.now c.in-Ok.ensures.word c.in-Ok-before_cases.ensures.exact
    c.in-Ok-expect._open c.in-Ok-expect.inner.now c.in-Err-cases.error (c.within.ensures.0 c.in-Ok-expect.ensures.within) c.in-Ok-expect.ensures.is c.in-Ok-expect.ensures.kind c.in-Err-cases.ensures.exact)

pub switches::switch_statement-returns-in_ok-switched-in-Ok-expect-2-clause-read : goal.switches::switch_statement-returns-in_ok-switched-in-Ok-expect-2-clause-read
switches::switch_statement-returns-in_ok-switched-in-Ok-expect-2-clause-read t c = λ brace loop. record {
  value = (c.in-Ok.found.0, switched c.in-Ok.found.1 (switch_forms.head_of c.in-Ok-before_cases.read.tree) (cases c.in-Ok-cases.read.tree.items));
  is = c.in_ok-switched-in-Ok-expect-2.ensures;
  found =
      switch_answer c.args.depth c.args.tokens.now c.in-Ok.found.0 c.in-Ok.found.1 c.in-Ok.found.2.now (switch_forms.head_of c.in-Ok-before_cases.read.tree) c.in-Ok-before_cases.read.height c.in-Ok-before_cases.read.rest.now c.in-Ok.ensures.word c.in-Ok-before_cases.ensures.exact
      c.in-Ok-expect._open c.in-Ok-expect.inner.now (cases c.in-Ok-cases.read.tree.items) c.in-Ok-cases.read.height c.max-height.result c.in-Ok-cases.read.rest.now c.in-Ok-expect-2._close c.in-Ok-expect-2.end.now (c.within.ensures.0 c.in-Ok-expect.ensures.within) c.in-Ok-expect.ensures.is c.in-Ok-expect.ensures.kind
      c.in-Ok-cases.ensures.exact (omega (arith, c.max-height.ensures)) (c.within-2.ensures.0 c.in-Ok-expect-2.ensures.within) c.in-Ok-expect-2.ensures.is c.in-Ok-expect-2.ensures.kind;
}

pub switches::switch_statement-returns-in-Err-expect-2-clause-refused : goal.switches::switch_statement-returns-in-Err-expect-2-clause-refused
switches::switch_statement-returns-in-Err-expect-2-clause-refused t c = λ brace loop.
    because (one labelled_part) continues_statement c.args.depth c.args.tokens.now c.in-Err-expect-2.error c.discard_head-in-Err-expect-2.result (c.discard_head-in-Err-expect-2.ensures ∙ c.discard_cases.ensures)
    (switch_unclosed c.args.depth c.args.tokens.now c.in-Ok.found.0 c.in-Ok.found.1 c.in-Ok.found.2.now (switch_forms.head_of c.in-Ok-before_cases.read.tree) c.in-Ok-before_cases.read.height c.in-Ok-before_cases.read.rest.now c.in-Ok.ensures.word c.in-Ok-before_cases.ensures.exact
    c.in-Ok-expect._open c.in-Ok-expect.inner.now (cases c.in-Ok-cases.read.tree.items) c.in-Ok-cases.read.height c.max-height.result c.in-Ok-cases.read.rest.now c.in-Err-expect-2.error _ (c.within.ensures.0 c.in-Ok-expect.ensures.within) c.in-Ok-expect.ensures.is c.in-Ok-expect.ensures.kind
    c.in-Ok-cases.ensures.exact (omega (arith, c.max-height.ensures)) c.within-2.ensures.1 c.in-Err-expect-2.ensures.refused)

pub run_bounds::run_over-returns : goal.run_bounds::run_over-returns
run_bounds::run_over-returns t c = record { last = c.last_item-last.result.now; run = c.last_item-last.ensures.run; alone = c.last_item-last.ensures.alone; over = c.last_over.ensures }

pub run_bounds::run_over-last_over-requires : goal.run_bounds::run_over-last_over-requires
run_bounds::run_over-last_over-requires t c = let h = run_length c.last_item-last.ensures.run in omega (arith, h)

pub run_bounds::last_over-returns-in-None : goal.run_bounds::last_over-returns-in-None
run_bounds::last_over-returns-in-None t c = run_bound.unread c.nothing_fits.result c.in-None.ensures.none c.nothing_fits.ensures.exact

pub run_bounds::last_over-returns-in-Some-closed_on : goal.run_bounds::last_over-returns-in-Some-closed_on
run_bounds::last_over-returns-in-Some-closed_on t c = last_items.over_at c.args.tokens.now c.in-Some.behind.now c.in-Some-closed_on.rest.now c.in-Some._name c.in-Some-closed_on._token c.in-Some.ensures.is c.in-Some.ensures.kind c.in-Some-closed_on.ensures.is c.in-Some-closed_on.ensures.on

pub run_bounds::last_over-returns-in-None-closed_on : goal.run_bounds::last_over-returns-in-None-closed_on
run_bounds::last_over-returns-in-None-closed_on t c = run_bound.ended c.in-Some._name c.in-Some.behind.now c.in-Some.ensures.is c.in-Some.ensures.kind c.in-None-closed_on.ensures.none

pub loops::loop_statement-returns-in_ok-built-in-Ok-clause-read : goal.loops::loop_statement-returns-in_ok-built-in-Ok-clause-read
loops::loop_statement-returns-in_ok-built-in-Ok-clause-read t c = λ k. record { value = loop_form.loop_of c.args.token.at c.in-Ok.field-0.tree; is = c.in_ok-built-in-Ok.ensures; found = c.in-Ok.ensures.exact k }

pub loops::loop_statement-returns-in-Err-clause-refused : goal.loops::loop_statement-returns-in-Err-clause-refused
loops::loop_statement-returns-in-Err-clause-refused t c = λ k. c.in-Err.ensures.exact k

pub loops::looped-returns-in-Ok-clause-exact : goal.loops::looped-returns-in-Ok-clause-exact
loops::looped-returns-in-Ok-clause-exact t c = λ k. loop_exit.ever_answer c.args.depth c.args.token c.args.tokens.now c.begins_body.result (stmts c.in-Ok.field-0.tree.items) c.in-Ok.field-0.height c.in-Ok.field-0.rest.now k c.begins_body.ensures c.if-begins_body.true c.in-Ok.ensures.exact

pub loops::looped-returns-in-Err-clause-exact : goal.loops::looped-returns-in-Err-clause-exact
loops::looped-returns-in-Err-clause-exact t c = λ k. loop_exit.ever_refused c.args.depth c.args.token c.args.tokens.now c.begins_body.result c.in-Err.error k c.begins_body.ensures c.if-begins_body.true c.in-Err.ensures.exact

pub loops::looped-returns-in-Ok-steps-clause-exact : goal.loops::looped-returns-in-Ok-steps-clause-exact
loops::looped-returns-in-Ok-steps-clause-exact t c = λ k.
    loop_exit.first_steps c.args.depth c.args.token c.args.tokens.now c.in-Some._semicolon c.in-Some.behind.now (loop_form.steps_of c.in-Ok-steps.field-0.tree) c.in-Ok-steps.field-0.height c.in-Ok-steps.field-0.rest.now k c.in-Some.ensures.is c.in-Some.ensures.kind c.in-Ok-steps.ensures.exact

pub loops::looped-returns-in-Err-steps-clause-exact : goal.loops::looped-returns-in-Err-steps-clause-exact
loops::looped-returns-in-Err-steps-clause-exact t c = λ k.
    loop_exit.first_steps_refused c.args.depth c.args.token c.args.tokens.now c.in-Some._semicolon c.in-Some.behind.now c.in-Err-steps.error k c.in-Some.ensures.is c.in-Some.ensures.kind c.in-Err-steps.ensures.exact

pub loops::looped-returns-in-None-clause-exact : goal.loops::looped-returns-in-None-clause-exact
loops::looped-returns-in-None-clause-exact t c = λ k.
    let z = loop_exit.begins_not c.args.tokens.now c.begins_body.result c.begins_body.ensures c.if-begins_body.false in
    c.clauses.ensures.exact k z.0 z.1 c.in-None.ensures.none

pub loops::clauses-returns-in-Range-clause-exact : goal.loops::clauses-returns-in-Range-clause-exact
loops::clauses-returns-in-Range-clause-exact t c = λ k f d s. c.over.ensures.exact c.args.tokens.now k (loop_front.front_range c.args.tokens.now c.front_of-found.result.1.now c.front_of-found.result.0 c.in-Range.names c.in-Range.is c.front_of-found.ensures)

pub loops::clauses-returns-then-depth-cost-clause-exact : goal.loops::clauses-returns-then-depth-cost-clause-exact
loops::clauses-returns-then-depth-cost-clause-exact t c = λ k f d s. loop_front.one_low c.args.depth c.args.token c.args.tokens.now c.front_of-found.result.1.now c.front_of-found.result.0 c.in-One.sign c.one_over.result (record { is_for = k; no_brace = f; no_do = d; no_semicolon = s }) c.in-One.is c.front_of-found.ensures (omega (arith, c.cost.ensures)) c.one_over.ensures

pub loops::clauses-returns-else-depth-cost-clause-exact : goal.loops::clauses-returns-else-depth-cost-clause-exact
loops::clauses-returns-else-depth-cost-clause-exact t c = λ k f d s. loop_front.one_reads c.args.depth c.args.token c.args.tokens.now c.front_of-found.result.1.now c.front_of-found.result.0 c.in-One.sign (record { is_for = k; no_brace = f; no_do = d; no_semicolon = s }) c.in-One.is c.front_of-found.ensures (omega (arith, c.cost.ensures)) c.clause.ensures.exact

pub loops::clauses-returns-then-depth-list_cost-clause-exact : goal.loops::clauses-returns-then-depth-list_cost-clause-exact
loops::clauses-returns-then-depth-list_cost-clause-exact t c = λ k f d s. loop_front.more_low c.args.depth c.args.token c.args.tokens.now c.front_of-found.result.1.now c.front_of-found.result.0 c.in-More.sign c.more_over.result (record { is_for = k; no_brace = f; no_do = d; no_semicolon = s }) c.in-More.is c.front_of-found.ensures (omega (arith, c.list_cost.ensures)) c.more_over.ensures

pub loops::clauses-returns-in-Reference-clause-exact : goal.loops::clauses-returns-in-Reference-clause-exact
loops::clauses-returns-in-Reference-clause-exact t c = λ k f d s. loop_front.list_reads c.args.depth c.args.token c.args.tokens.now c.front_of-found.result.1.now c.front_of-found.result.0 c.in-More.sign (record { is_for = k; no_brace = f; no_do = d; no_semicolon = s }) c.in-More.is c.front_of-found.ensures (ap loop_form.refers c.in-Reference.is) (omega (arith, c.list_cost.ensures)) c.list.ensures.exact

pub loops::clauses-returns-in-Plain-clause-exact : goal.loops::clauses-returns-in-Plain-clause-exact
loops::clauses-returns-in-Plain-clause-exact t c = λ k f d s. loop_front.more_reads c.args.depth c.args.token c.args.tokens.now c.front_of-found.result.1.now c.front_of-found.result.0 c.in-More.sign (record { is_for = k; no_brace = f; no_do = d; no_semicolon = s }) c.in-More.is c.front_of-found.ensures (ap loop_form.refers c.in-Plain.is) (omega (arith, c.list_cost.ensures)) c.clause-in-Plain.ensures.exact

pub loops::clauses-returns-then-depth-eq0-clause-exact : goal.loops::clauses-returns-then-depth-eq0-clause-exact
loops::clauses-returns-then-depth-eq0-clause-exact t c = λ k f d s. loop_front.address_low c.args.depth c.args.token c.args.tokens.now c.front_of-found.result.1.now c.front_of-found.result.0 c.no_operand.result c.if-depth-eq0.true (record { is_for = k; no_brace = f; no_do = d; no_semicolon = s }) c.in-Address.is c.front_of-found.ensures c.no_operand.ensures

pub loops::clauses-returns-else-depth-eq0-clause-exact : goal.loops::clauses-returns-else-depth-eq0-clause-exact
loops::clauses-returns-else-depth-eq0-clause-exact t c = λ k f d s. loop_front.address_reads c.args.depth c.args.token c.args.tokens.now c.front_of-found.result.1.now c.front_of-found.result.0 (record { is_for = k; no_brace = f; no_do = d; no_semicolon = s }) c.in-Address.is c.front_of-found.ensures (omega arith) c.clause-else-depth-eq0.ensures.exact

pub loops::clauses-returns-then-depth-eq0-2-clause-exact : goal.loops::clauses-returns-then-depth-eq0-2-clause-exact
loops::clauses-returns-then-depth-eq0-2-clause-exact t c = λ k f d s. loop_front.other_low c.args.depth c.args.token c.args.tokens.now c.front_of-found.result.1.now c.front_of-found.result.0 c.nothing_fits.result c.if-depth-eq0-2.true (record { is_for = k; no_brace = f; no_do = d; no_semicolon = s }) c.in-Other.is c.front_of-found.ensures c.nothing_fits.ensures.exact

pub loops::clauses-returns-else-depth-eq0-2-clause-exact : goal.loops::clauses-returns-else-depth-eq0-2-clause-exact
loops::clauses-returns-else-depth-eq0-2-clause-exact t c = λ k f d s. loop_front.other_reads c.args.depth c.args.token c.args.tokens.now c.front_of-found.result.1.now c.front_of-found.result.0 (record { is_for = k; no_brace = f; no_do = d; no_semicolon = s }) c.in-Other.is c.front_of-found.ensures (omega arith) c.clause-else-depth-eq0-2.ensures.exact

pub loops::more_over-returns-in-Reference : goal.loops::more_over-returns-in-Reference
loops::more_over-returns-in-Reference t c = loop_front.more_last (loop_form.refers c.args.sign) c.args.tokens.now c.last_over.result (λ e. let bad : true ≡ false = sym (ap loop_form.refers c.in-Reference.is) ∙ e in cc) c.last_over.ensures

pub loops::more_over-returns-in-Some : goal.loops::more_over-returns-in-Some
loops::more_over-returns-in-Some t c = loop_front.more_colon (loop_form.refers c.args.sign) c.args.tokens.now c.in-Some.rest.now c.in-Some._name (ap loop_form.refers c.in-Plain.is) c.in-Some.ensures.is

pub loops::more_over-returns-in-None : goal.loops::more_over-returns-in-None
loops::more_over-returns-in-None t c = loop_front.more_last (loop_form.refers c.args.sign) c.args.tokens.now c.last_over-in-None.result (λ e. c.in-None.ensures.none) c.last_over-in-None.ensures

pub loops::over-returns-in-Err-clause-exact : goal.loops::over-returns-in-Err-clause-exact
loops::over-returns-in-Err-clause-exact t c = λ ts k z. loop_exit.over_refused c.args.depth c.args.token ts c.args.names c.args.tokens.now c.in-Err.error k z c.in-Err.ensures.exact

pub loops::over-returns-then-n-from-clause-exact : goal.loops::over-returns-then-n-from-clause-exact
loops::over-returns-then-n-from-clause-exact t c = λ ts k z.
    because (one labelled_part) continues_statement c.args.depth (c.args.token ∷ ts) c.body_over.result _ c.discard_span.ensures
    (loop_exit.over_deep c.args.depth c.args.token ts c.args.names c.args.tokens.now (span_of c.in-Ok.read.tree) c.in-Ok.read.height c.in-Ok.read.rest.now c.body_over.result k z c.in-Ok.ensures.exact (omega arith) c.body_over.ensures)

pub loops::over-returns-in-Ok-body-clause-exact : goal.loops::over-returns-in-Ok-body-clause-exact
loops::over-returns-in-Ok-body-clause-exact t c = λ ts k z.
    loop_exit.over_body c.args.depth c.args.token ts c.args.names c.args.tokens.now (span_of c.in-Ok.read.tree) c.in-Ok.read.height c.in-Ok.read.rest.now (stmts c.in-Ok-body.field-0.tree.items) c.in-Ok-body.field-0.height _ c.in-Ok-body.field-0.rest.now k z c.in-Ok.ensures.exact (omega arith) c.in-Ok-body.ensures.exact (omega (arith, c.max.ensures))

pub loops::over-returns-in-Err-body-clause-exact : goal.loops::over-returns-in-Err-body-clause-exact
loops::over-returns-in-Err-body-clause-exact t c = λ ts k z.
    because (one labelled_part) continues_statement c.args.depth (c.args.token ∷ ts) c.in-Err-body.error _ c.discard_span-in-Err-body.ensures
    (loop_exit.over_body_refused c.args.depth c.args.token ts c.args.names c.args.tokens.now (span_of c.in-Ok.read.tree) c.in-Ok.read.height c.in-Ok.read.rest.now c.in-Err-body.error k z c.in-Ok.ensures.exact (omega arith) c.in-Err-body.ensures.exact)

pub loops::clause-returns-in-Ok-clause-exact : goal.loops::clause-returns-in-Ok-clause-exact
loops::clause-returns-in-Ok-clause-exact t c = λ place s many few.
    c.closed.ensures.exact c.args.tokens.now place s
    (loop_form.from _ c.in-Ok.field-0.height c.in-Ok.field-0.rest.now many few (header.declared c.in-Declared.ensures.0 (decl c.in-Ok.field-0.tree) c.in-Ok.field-0.height c.in-Ok.field-0.rest.now (loop_head.some_left c.args.depth s.unranged many) c.in-Declared.ensures.1 c.in-Ok.ensures.exact))

pub loops::clause-returns-in-Err-clause-exact : goal.loops::clause-returns-in-Err-clause-exact
loops::clause-returns-in-Err-clause-exact t c = λ place s many few. loop_head.declared_refused c.args.depth c.args.token c.args.tokens.now place c.in-Declared.ensures.0 c.in-Err.error s many c.in-Declared.ensures.1 c.in-Err.ensures.exact

pub loops::clause-returns-then-depth-eq1-clause-exact : goal.loops::clause-returns-then-depth-eq1-clause-exact
loops::clause-returns-then-depth-eq1-clause-exact t c = λ place s many few. loop_head.listed_over c.args.depth c.args.token c.args.tokens.now place c.in-Listed.ensures.0 c.run_over.result s c.if-depth-eq1.true c.in-Listed.ensures.1 c.run_over.ensures

pub loops::clause-returns-in-Ok-simple-clause-exact : goal.loops::clause-returns-in-Ok-simple-clause-exact
loops::clause-returns-in-Ok-simple-clause-exact t c = λ place s many few.
    let k = loop_head.some_left c.args.depth s.unranged many in
    c.closed-in-Ok-simple.ensures.exact c.args.tokens.now place s
    (loop_form.from _ c.in-Ok-simple.field-0.height c.in-Ok-simple.field-0.rest.now many few (header.listed c.in-Listed.ensures.0 (stmt c.in-Ok-simple.field-0.tree) c.in-Ok-simple.field-0.height c.in-Ok-simple.field-0.rest.now (omega (arith, k)) c.in-Listed.ensures.1 c.in-Ok-simple.ensures.exact))

pub loops::clause-returns-in-Err-simple-clause-exact : goal.loops::clause-returns-in-Err-simple-clause-exact
loops::clause-returns-in-Err-simple-clause-exact t c = λ place s many few.
    let k = loop_head.some_left c.args.depth s.unranged many in
    loop_head.listed_refused c.args.depth c.args.token c.args.tokens.now place c.in-Listed.ensures.0 c.in-Err-simple.error s (omega (arith, k)) c.in-Listed.ensures.1 c.in-Err-simple.ensures.exact

pub loops::clause-returns-in-Ok-level-clause-exact : goal.loops::clause-returns-in-Ok-level-clause-exact
loops::clause-returns-in-Ok-level-clause-exact t c = λ place s many few.
    c.behind_expression.ensures.exact c.args.tokens.now place c.in-Single.ensures.0 s many few (record { some = loop_head.some_left c.args.depth s.unranged many; single = c.in-Single.ensures.1; found = c.in-Ok-level.ensures.exact })

pub loops::clause-returns-in-Err-level-clause-exact : goal.loops::clause-returns-in-Err-level-clause-exact
loops::clause-returns-in-Err-level-clause-exact t c = λ place s many few. loop_head.single_refused c.args.depth c.args.token c.args.tokens.now place c.in-Single.ensures.0 c.in-Err-level.error s many few c.in-Single.ensures.1 c.in-Err-level.ensures.exact

pub loops::list-returns-in-Ok-clause-exact : goal.loops::list-returns-in-Ok-clause-exact
loops::list-returns-in-Ok-clause-exact t c = λ place last s names enough.
    c.closed.ensures.exact c.args.tokens.now place s
    (loop_form.signs last (stmt c.in-Ok.field-0.tree) c.in-Ok.field-0.height c.in-Ok.field-0.rest.now enough names c.in-Ok.ensures.exact)

pub loops::list-returns-in-Err-clause-exact : goal.loops::list-returns-in-Err-clause-exact
loops::list-returns-in-Err-clause-exact t c = λ place last s names enough. loop_head.signs_refused c.args.depth c.args.token c.args.tokens.now place last c.in-Err.error s names enough c.in-Err.ensures.exact

pub loops::behind_expression-returns-in-None-clause-exact : goal.loops::behind_expression-returns-in-None-clause-exact
loops::behind_expression-returns-in-None-clause-exact t c = λ ts place p s many few z. c.with_condition.ensures.exact ts place p s many few z c.in-None.ensures.none

pub loops::behind_expression-returns-then-height-from-clause-exact : goal.loops::behind_expression-returns-then-height-from-clause-exact
loops::behind_expression-returns-then-height-from-clause-exact t c = λ ts place p s many few z.
    because (one labelled_part) continues_statement c.args.depth (c.args.token ∷ ts) (stop.Deep (length c.in-Some.found.1.now)) _ c.discard_expr.ensures
    (loop_head.expression_over c.args.depth c.args.token ts place p s (expr c.args.e) c.args.height c.args.tokens.now c.in-Some.found.0 c.in-Some.found.1.now many few z c.in-Some.ensures.is c.in-Some.ensures.on (omega arith))

pub loops::behind_expression-returns-then-same_kind-clause-exact : goal.loops::behind_expression-returns-then-same_kind-clause-exact
loops::behind_expression-returns-then-same_kind-clause-exact t c = λ ts place p s many few z.
    c.stepped.ensures.exact ts place s
    (loop_head.evaluated_is c.args.depth ts place s.unranged _ _ c.args.height _ c.in-Some.found.1.now (sym c.in_ok-header.ensures) (omega arith)
    (loop_form.evaluated (c.args.depth - 1) p (expr c.args.e) c.args.height c.args.tokens.now c.in-Some.found.0 c.in-Some.found.1.now many few (omega arith) z (omega arith) c.in-Some.ensures.is (c.same_kind.ensures.0 c.if-same_kind.true)))

pub loops::behind_expression-returns-in-Ok-clause-exact : goal.loops::behind_expression-returns-in-Ok-clause-exact
loops::behind_expression-returns-in-Ok-clause-exact t c = λ ts place p s many few z.
    c.closed.ensures.exact ts place s
    (loop_form.from _ c.in-Ok.field-0.height c.in-Ok.field-0.rest.now many few
    (header.begun (c.args.depth - 1) p (expr c.args.e) c.args.height c.args.tokens.now c.in-Some.found.0 c.in-Some.found.1.now (stmt c.in-Ok.field-0.tree) c.in-Ok.field-0.height c.in-Ok.field-0.rest.now (omega arith) z (omega arith) c.in-Some.ensures.is
    (goes_behind c.in-Some.found.0.kind c.in-Some.ensures.on (λ e. let bad : true ≡ false = sym (c.same_kind.ensures.1 e) ∙ c.if-same_kind.false in cc))
    (loop_head.simple_deeper c.args.depth (c.args.depth - 1) ts (Yes (stmt c.in-Ok.field-0.tree) c.in-Ok.field-0.height c.in-Ok.field-0.rest.now) (omega arith) (c.in-Ok.ensures.exact ts (lower_found (omega arith) z.found)))))

pub loops::behind_expression-returns-in-Err-clause-exact : goal.loops::behind_expression-returns-in-Err-clause-exact
loops::behind_expression-returns-in-Err-clause-exact t c = λ ts place p s many few z.
    loop_head.assigned_refused c.args.depth (c.args.depth - 1) c.args.token ts place p s (expr c.args.e) c.args.height c.args.tokens.now c.in-Some.found.0 c.in-Some.found.1.now c.in-Err.error many few (omega arith) z (omega arith) c.in-Some.ensures.is
    (goes_behind c.in-Some.found.0.kind c.in-Some.ensures.on (λ e. let bad : true ≡ false = sym (c.same_kind.ensures.1 e) ∙ c.if-same_kind.false in cc))
    (loop_head.simple_deeper c.args.depth (c.args.depth - 1) ts (refused c.in-Err.error) (omega arith) (c.in-Err.ensures.exact ts (lower_found (omega arith) z.found)))

pub loops::with_condition-returns-then-height-from-clause-exact : goal.loops::with_condition-returns-then-height-from-clause-exact
loops::with_condition-returns-then-height-from-clause-exact t c = λ ts place p s many few z ends.
    because (one labelled_part) continues_statement c.args.depth (c.args.token ∷ ts) c.body_over.result _ c.discard_expr.ensures
    (loop_head.while_over c.args.depth c.args.token ts place p s (expr c.args.e) c.args.height c.args.tokens.now c.body_over.result many few z ends (omega arith) c.body_over.ensures)

pub loops::with_condition-returns-in-Ok-clause-exact : goal.loops::with_condition-returns-in-Ok-clause-exact
loops::with_condition-returns-in-Ok-clause-exact t c = λ ts place p s many few z ends.
    loop_head.while_answer c.args.depth c.args.token ts place p s (expr c.args.e) c.args.height c.args.tokens.now (stmts c.in-Ok.field-0.tree.items) c.in-Ok.field-0.height _ c.in-Ok.field-0.rest.now many few z ends (omega arith) c.in-Ok.ensures.exact (omega (arith, c.max.ensures))

pub loops::with_condition-returns-in-Err-clause-exact : goal.loops::with_condition-returns-in-Err-clause-exact
loops::with_condition-returns-in-Err-clause-exact t c = λ ts place p s many few z ends.
    because (one labelled_part) continues_statement c.args.depth (c.args.token ∷ ts) c.in-Err.error _ c.discard_expr-in-Err.ensures
    (loop_head.while_refused c.args.depth c.args.token ts place p s (expr c.args.e) c.args.height c.args.tokens.now c.in-Err.error many few z ends (omega arith) c.in-Err.ensures.exact)

pub loops::closed-returns-in-Ok-clause-exact : goal.loops::closed-returns-in-Ok-clause-exact
loops::closed-returns-in-Ok-clause-exact t c = λ ts place s z.
    c.stepped.ensures.exact ts place s (loop_form.closed (header_of c.args.header) c.args.height c.args.tokens.now c.in-Ok._semicolon c.in-Ok.rest.now z (c.within.ensures.0 c.in-Ok.ensures.within) c.in-Ok.ensures.is c.in-Ok.ensures.kind)

pub loops::closed-returns-in-Err-clause-exact : goal.loops::closed-returns-in-Err-clause-exact
loops::closed-returns-in-Err-clause-exact t c = λ ts place s z.
    because (one labelled_part) continues_statement c.args.depth (c.args.token ∷ ts) c.in-Err.error _ c.discard_header.ensures
    (loop_head.loop_unclosed c.args.depth c.args.token ts place s (header_of c.args.header) c.args.height c.args.tokens.now c.in-Err.error c.within.result z (loop_head.not_within c.args.height c.args.depth c.within.result c.within.ensures.1) c.in-Err.ensures.refused)

pub loops::stepped-returns-in-Ok-clause-exact : goal.loops::stepped-returns-in-Ok-clause-exact
loops::stepped-returns-in-Ok-clause-exact t c = λ ts place s z.
    loop_head.stepped_answer c.args.depth c.args.token ts place s (header_of c.args.header) c.args.height c.args.tokens.now (loop_form.steps_of c.in-Ok.field-0.tree) c.in-Ok.field-0.height _ c.in-Ok.field-0.rest.now z c.in-Ok.ensures.exact (omega (arith, c.max.ensures))

pub loops::stepped-returns-in-Err-clause-exact : goal.loops::stepped-returns-in-Err-clause-exact
loops::stepped-returns-in-Err-clause-exact t c = λ ts place s z.
    because (one labelled_part) continues_statement c.args.depth (c.args.token ∷ ts) c.in-Err.error _ c.discard_header.ensures
    (loop_head.stepped_refused c.args.depth c.args.token ts place s (header_of c.args.header) c.args.height c.args.tokens.now c.in-Err.error z c.in-Err.ensures.exact)

pub loops::steps-returns-in-Ok-clause-exact : goal.loops::steps-returns-in-Ok-clause-exact
loops::steps-returns-in-Ok-clause-exact t c = c.behind_condition.ensures.exact c.args.tokens.now (loop_form.some (expr c.in-Ok.field-0.tree) c.in-Ok.field-0.height c.in-Ok.field-0.rest.now c.in-Ok.ensures.exact c.in-Ok.ensures.shorter)

pub loops::steps-returns-then-stands_at-clause-exact : goal.loops::steps-returns-then-stands_at-clause-exact
loops::steps-returns-then-stands_at-clause-exact t c =
    c.behind_condition-then-stands_at.ensures.exact c.args.tokens.now
    (loop_form.none (because (one (g.expression mode.Header)) (continues Or mode.Header) c.args.depth c.args.tokens.now c.in-Err.error (stop.Syntax (length c.args.tokens.now)) (sym (c.stands_at.ensures.0 c.if-stands_at.true)) c.in-Err.ensures.exact))

pub loops::steps-returns-else-stands_at-clause-exact : goal.loops::steps-returns-else-stands_at-clause-exact
loops::steps-returns-else-stands_at-clause-exact t c = loop_exit.condition_refused c.args.depth c.args.tokens.now c.in-Err.error c.in-Err.ensures.exact (λ e. let bad : true ≡ false = sym (c.stands_at.ensures.1 e) ∙ c.if-stands_at.false in cc)

pub loops::behind_condition-returns-in-Ok-ending-clause-exact : goal.loops::behind_condition-returns-in-Ok-ending-clause-exact
loops::behind_condition-returns-in-Ok-ending-clause-exact t c = λ ts z.
    loop_exit.condition_end c.args.depth ts (maybe_expr c.args.condition) c.args.height c.args.tokens.now c.in-Ok.semicolon c.in-Ok.behind.now (loop_form.end_of c.in-Ok-ending.field-0.tree) c.in-Ok-ending.field-0.height _ c.in-Ok-ending.field-0.rest.now z (c.within.ensures.0 c.in-Ok.ensures.within) c.in-Ok.ensures.is c.in-Ok.ensures.kind c.in-Ok-ending.ensures.exact
    (omega (arith, c.max.ensures))

pub loops::behind_condition-returns-in-Err-ending-clause-exact : goal.loops::behind_condition-returns-in-Err-ending-clause-exact
loops::behind_condition-returns-in-Err-ending-clause-exact t c = λ ts z.
    because steps_line continues_statement c.args.depth ts c.in-Err-ending.error _ c.discard_optional_expr.ensures
    (loop_exit.condition_end_refused c.args.depth ts (maybe_expr c.args.condition) c.args.height c.args.tokens.now c.in-Ok.semicolon c.in-Ok.behind.now c.in-Err-ending.error z (c.within.ensures.0 c.in-Ok.ensures.within) c.in-Ok.ensures.is c.in-Ok.ensures.kind c.in-Err-ending.ensures.exact)

pub loops::behind_condition-returns-in-Err-clause-exact : goal.loops::behind_condition-returns-in-Err-clause-exact
loops::behind_condition-returns-in-Err-clause-exact t c = λ ts z.
    because steps_line continues_statement c.args.depth ts c.in-Err.error _ c.discard_optional_expr-in-Err.ensures
    (loop_exit.condition_unclosed c.args.depth ts (maybe_expr c.args.condition) c.args.height c.args.tokens.now c.in-Err.error c.within.result z (loop_head.not_within c.args.height c.args.depth c.within.result c.within.ensures.1) c.in-Err.ensures.refused)

pub loops::ending-returns-in-Ok-clause-exact : goal.loops::ending-returns-in-Ok-clause-exact
loops::ending-returns-in-Ok-clause-exact t c = c.behind_step.ensures.exact c.args.tokens.now c.in-Ok.ensures.exact c.in-Ok.ensures.shorter

pub loops::ending-returns-in-Ok-body-clause-exact : goal.loops::ending-returns-in-Ok-body-clause-exact
loops::ending-returns-in-Ok-body-clause-exact t c = loop_exit.end_alone c.args.depth c.args.tokens.now c.in-Err.error (stmts c.in-Ok-body.field-0.tree.items) c.in-Ok-body.field-0.height c.in-Ok-body.field-0.rest.now c.in-Err.ensures.exact (c.stands_at.ensures.0 c.if-stands_at.true) c.in-Ok-body.ensures.exact

pub loops::ending-returns-in-Err-body-clause-exact : goal.loops::ending-returns-in-Err-body-clause-exact
loops::ending-returns-in-Err-body-clause-exact t c = loop_exit.end_alone_refused c.args.depth c.args.tokens.now c.in-Err.error c.in-Err-body.stop c.in-Err.ensures.exact (c.stands_at.ensures.0 c.if-stands_at.true) c.in-Err-body.ensures.exact

pub loops::ending-returns-else-stands_at-clause-exact : goal.loops::ending-returns-else-stands_at-clause-exact
loops::ending-returns-else-stands_at-clause-exact t c = loop_exit.end_refused c.args.depth c.args.tokens.now c.in-Err.error c.in-Err.ensures.exact (λ e. let bad : true ≡ false = sym (c.stands_at.ensures.1 e) ∙ c.if-stands_at.false in cc)

pub loops::behind_step-returns-then-height-from-clause-exact : goal.loops::behind_step-returns-then-height-from-clause-exact
loops::behind_step-returns-then-height-from-clause-exact t c = λ ts found shorter.
    because after_line continues_statement c.args.depth ts c.body_over.result _ c.discard_stmt.ensures
    (loop_exit.step_over c.args.depth ts (stmt c.args.s) c.args.height c.args.tokens.now c.body_over.result found shorter (omega arith) c.body_over.ensures)

pub loops::behind_step-returns-in-Ok-clause-exact : goal.loops::behind_step-returns-in-Ok-clause-exact
loops::behind_step-returns-in-Ok-clause-exact t c = λ ts found shorter.
    loop_exit.step_body c.args.depth ts (stmt c.args.s) c.args.height c.args.tokens.now (stmts c.in-Ok.field-0.tree.items) c.in-Ok.field-0.height _ c.in-Ok.field-0.rest.now found shorter (omega arith) c.in-Ok.ensures.exact (omega (arith, c.max.ensures))

pub loops::behind_step-returns-in-Err-clause-exact : goal.loops::behind_step-returns-in-Err-clause-exact
loops::behind_step-returns-in-Err-clause-exact t c = λ ts found shorter.
    because after_line continues_statement c.args.depth ts c.in-Err.error _ c.discard_stmt-in-Err.ensures
    (loop_exit.step_body_refused c.args.depth ts (stmt c.args.s) c.args.height c.args.tokens.now c.in-Err.error found shorter (omega arith) c.in-Err.ensures.exact)
