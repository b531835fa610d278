use Rattle.std.proofs.Common.{◌≡◌, ◌+◌, ◌∷◌, ◌∙◌, ℕ, refl, ap, sym, length, arith, rules}
use Rattle.std.proofs.lemmas.Result.{on_ok_weaker}
use Rattle.odc_core.specs.declared.tree.CoreStmt.{the_lemmas}
use Rattle.odc_core.specs.View.{expr, stmt, stmts}
use Rattle.odc_mid.specs.declared.tree.MidStep.{MidStep}
use Rattle.odc_lower.specs.Size.{expr_nodes, stmt_nodes, stmts_nodes, stmt_size, stmts_size}
use Rattle.odc_lower.specs.Code.{expr_code, stmt_code, stmts_code}
use Rattle.odc_lower.proofs.Emitted.{grown, pushed, choice_emitted, loop_emitted, stmts_more}
use Rattle.odc_lower.proofs.Lengths.{expr_length, stmt_length, stmts_length}
use Rattle.odc_lower.proofs.Lists.{stmts_nodes_here, stmts_nodes_left}
use Rattle.odc_lower.proofs.Sizes.{stmt_size_small, stmts_size_small}
use Rattle.odc_core.proofs.Views.{choice_is, loop_is}
use Rattle.odc_lower.proofs.statement.+statements.Goals as goal

pub emit_stmt-position-requires : goal.emit_stmt-position-requires
emit_stmt-position-requires t c =
    let nodes : stmt_nodes (stmt c.args.s.now) ≡ expr_nodes (expr c.in-If.condition) + stmts_nodes (stmts c.in-If.first.items) + stmts_nodes (stmts c.in-If.second.items) + 1 = ap stmt_nodes (choice_is c.args.s.now c.in-If.condition c.in-If.first c.in-If.second c.in-If.first.items c.in-If.second.items c.in-If.is refl refl) in
    let one = grown c.args.steps.now.items c.emit_expr-in-If.new.steps.items (expr_code c.args.d (expr c.in-If.condition)) (expr_nodes (expr c.in-If.condition)) c.in_ok-emit_expr-in-If.ensures (expr_length (expr c.in-If.condition) c.args.d) in
    let same = ap (λ (xs : _). length {A = MidStep} xs) c.deref.ensures.value in
    omega (arith, nodes, one, same, c.requires.place)

pub emit_stmt-overflow_add-begin : goal.emit_stmt-overflow_add-begin
emit_stmt-overflow_add-begin t c =
    let nodes : stmt_nodes (stmt c.args.s.now) ≡ expr_nodes (expr c.in-If.condition) + stmts_nodes (stmts c.in-If.first.items) + stmts_nodes (stmts c.in-If.second.items) + 1 = ap stmt_nodes (choice_is c.args.s.now c.in-If.condition c.in-If.first c.in-If.second c.in-If.first.items c.in-If.second.items c.in-If.is refl refl) in
    let one = grown c.args.steps.now.items c.emit_expr-in-If.new.steps.items (expr_code c.args.d (expr c.in-If.condition)) (expr_nodes (expr c.in-If.condition)) c.in_ok-emit_expr-in-If.ensures (expr_length (expr c.in-If.condition) c.args.d) in
    let same = ap (λ (xs : _). length {A = MidStep} xs) c.deref.ensures.value in
    omega (arith, nodes, one, same, c.position.ensures, c.requires.place)

pub emit_stmt-size_of_all-requires : goal.emit_stmt-size_of_all-requires
emit_stmt-size_of_all-requires t c =
    let nodes : stmt_nodes (stmt c.args.s.now) ≡ expr_nodes (expr c.in-If.condition) + stmts_nodes (stmts c.in-If.first.items) + stmts_nodes (stmts c.deref-in-If.result.now) + 1 = ap stmt_nodes (choice_is c.args.s.now c.in-If.condition c.in-If.first c.in-If.second c.in-If.first.items c.deref-in-If.result.now c.in-If.is refl c.deref-in-If.ensures.value) in
    omega (arith, nodes, c.requires.nodes)

pub emit_stmt-overflow_add-begin-in-If : goal.emit_stmt-overflow_add-begin-in-If
emit_stmt-overflow_add-begin-in-If t c =
    let nodes : stmt_nodes (stmt c.args.s.now) ≡ expr_nodes (expr c.in-If.condition) + stmts_nodes (stmts c.in-If.first.items) + stmts_nodes (stmts c.deref-in-If.result.now) + 1 = ap stmt_nodes (choice_is c.args.s.now c.in-If.condition c.in-If.first c.in-If.second c.in-If.first.items c.deref-in-If.result.now c.in-If.is refl c.deref-in-If.ensures.value) in
    let one = grown c.args.steps.now.items c.emit_expr-in-If.new.steps.items (expr_code c.args.d (expr c.in-If.condition)) (expr_nodes (expr c.in-If.condition)) c.in_ok-emit_expr-in-If.ensures (expr_length (expr c.in-If.condition) c.args.d) in
    let same = ap (λ (xs : _). length {A = MidStep} xs) c.deref.ensures.value in
    let small = stmts_size_small (stmts c.deref-in-If.result.now) in
    omega (arith, nodes, one, same, small, c.position.ensures, c.size_of_all.ensures, c.requires.place)

pub emit_stmt-overflow_add-begin-in-If-2 : goal.emit_stmt-overflow_add-begin-in-If-2
emit_stmt-overflow_add-begin-in-If-2 t c =
    let nodes : stmt_nodes (stmt c.args.s.now) ≡ expr_nodes (expr c.in-If.condition) + stmts_nodes (stmts c.in-If.first.items) + stmts_nodes (stmts c.deref-in-If.result.now) + 1 = ap stmt_nodes (choice_is c.args.s.now c.in-If.condition c.in-If.first c.in-If.second c.in-If.first.items c.deref-in-If.result.now c.in-If.is refl c.deref-in-If.ensures.value) in
    let one = grown c.args.steps.now.items c.emit_expr-in-If.new.steps.items (expr_code c.args.d (expr c.in-If.condition)) (expr_nodes (expr c.in-If.condition)) c.in_ok-emit_expr-in-If.ensures (expr_length (expr c.in-If.condition) c.args.d) in
    let same = ap (λ (xs : _). length {A = MidStep} xs) c.deref.ensures.value in
    let small = stmts_size_small (stmts c.deref-in-If.result.now) in
    omega (arith, nodes, one, same, small, c.position.ensures, c.size_of_all.ensures, c.requires.place)

pub emit_stmt-emit_stmts-requires : goal.emit_stmt-emit_stmts-requires
emit_stmt-emit_stmts-requires t c =
    let nodes : stmt_nodes (stmt c.args.s.now) ≡ expr_nodes (expr c.in-If.condition) + stmts_nodes (stmts c.in-If.first.items) + stmts_nodes (stmts c.deref-in-If-2.result.now) + 1 = ap stmt_nodes (choice_is c.args.s.now c.in-If.condition c.in-If.first c.in-If.second c.in-If.first.items c.deref-in-If-2.result.now c.in-If.is refl c.deref-in-If-2.ensures.value) in
    let one = grown c.args.steps.now.items c.emit_expr-in-If.new.steps.items (expr_code c.args.d (expr c.in-If.condition)) (expr_nodes (expr c.in-If.condition)) c.in_ok-emit_expr-in-If.ensures (expr_length (expr c.in-If.condition) c.args.d) in
    let same = ap (λ (xs : _). length {A = MidStep} xs) c.deref.ensures.value in
    let two = pushed c.emit_expr-in-If.new.steps.items c.push.new.steps.items _ c.in_ok-push-in-If.ensures in
    (first_of (search (rules, the_lemmas), grind (arith, the_lemmas)), (omega (arith, nodes, c.requires.nodes), (omega (arith, nodes, c.requires.temps), (omega (arith, nodes, one, two, c.requires.place)))))

pub emit_stmt-size_of_all-requires-in-If : goal.emit_stmt-size_of_all-requires-in-If
emit_stmt-size_of_all-requires-in-If t c =
    let nodes : stmt_nodes (stmt c.args.s.now) ≡ expr_nodes (expr c.in-If.condition) + stmts_nodes (stmts c.deref-in-If-3.result.now) + stmts_nodes (stmts c.in-If.second.items) + 1 = ap stmt_nodes (choice_is c.args.s.now c.in-If.condition c.in-If.first c.in-If.second c.deref-in-If-3.result.now c.in-If.second.items c.in-If.is c.deref-in-If-3.ensures.value refl) in
    omega (arith, nodes, c.requires.nodes)

pub emit_stmt-overflow_add-end : goal.emit_stmt-overflow_add-end
emit_stmt-overflow_add-end t c =
    let nodes : stmt_nodes (stmt c.args.s.now) ≡ expr_nodes (expr c.in-If.condition) + stmts_nodes (stmts c.deref-in-If-3.result.now) + stmts_nodes (stmts c.deref-in-If.result.now) + 1 = ap stmt_nodes (choice_is c.args.s.now c.in-If.condition c.in-If.first c.in-If.second c.deref-in-If-3.result.now c.deref-in-If.result.now c.in-If.is c.deref-in-If-3.ensures.value c.deref-in-If.ensures.value) in
    let one = grown c.args.steps.now.items c.emit_expr-in-If.new.steps.items (expr_code c.args.d (expr c.in-If.condition)) (expr_nodes (expr c.in-If.condition)) c.in_ok-emit_expr-in-If.ensures (expr_length (expr c.in-If.condition) c.args.d) in
    let same = ap (λ (xs : _). length {A = MidStep} xs) c.deref.ensures.value in
    let small = stmts_size_small (stmts c.deref-in-If.result.now) in
    let small2 = stmts_size_small (stmts c.deref-in-If-3.result.now) in
    omega (arith, nodes, one, same, small, small2, c.position.ensures, c.size_of_all.ensures, c.size_of_all-in-If.ensures, c.requires.place)

pub emit_stmt-emit_stmts-requires-in-If : goal.emit_stmt-emit_stmts-requires-in-If
emit_stmt-emit_stmts-requires-in-If t c =
    let nodes : stmt_nodes (stmt c.args.s.now) ≡ expr_nodes (expr c.in-If.condition) + stmts_nodes (stmts c.deref-in-If-4.result.now) + stmts_nodes (stmts c.deref-in-If-2.result.now) + 1 = ap stmt_nodes (choice_is c.args.s.now c.in-If.condition c.in-If.first c.in-If.second c.deref-in-If-4.result.now c.deref-in-If-2.result.now c.in-If.is c.deref-in-If-4.ensures.value c.deref-in-If-2.ensures.value) in
    let one = grown c.args.steps.now.items c.emit_expr-in-If.new.steps.items (expr_code c.args.d (expr c.in-If.condition)) (expr_nodes (expr c.in-If.condition)) c.in_ok-emit_expr-in-If.ensures (expr_length (expr c.in-If.condition) c.args.d) in
    let same = ap (λ (xs : _). length {A = MidStep} xs) c.deref.ensures.value in
    let two = pushed c.emit_expr-in-If.new.steps.items c.push.new.steps.items _ c.in_ok-push-in-If.ensures in
    let three = grown c.push.new.steps.items c.emit_stmts.new.steps.items (stmts_code c.args.d c.args.exits.now (length c.push.new.steps.items) (stmts c.deref-in-If-2.result.now)) (stmts_size (stmts c.deref-in-If-2.result.now)) c.in_ok-emit_stmts-in-If.ensures (stmts_length (stmts c.deref-in-If-2.result.now) c.args.d c.args.exits.now (length c.push.new.steps.items)) in
    let small = stmts_size_small (stmts c.deref-in-If-2.result.now) in
    let four = pushed c.emit_stmts.new.steps.items c.push-in-If.new.steps.items _ c.in_ok-push-in-If-2.ensures in
    (first_of (search (rules, the_lemmas), grind (arith, the_lemmas)), (omega (arith, nodes, c.requires.nodes), (omega (arith, nodes, c.requires.temps), (omega (arith, nodes, one, two, three, small, four, c.requires.place)))))

pub emit_stmt-returns-in_ok-push-in-If-2 : goal.emit_stmt-returns-in_ok-push-in-If-2
emit_stmt-returns-in_ok-push-in-If-2 t c =
    let is = choice_is c.args.s.now c.in-If.condition c.in-If.first c.in-If.second c.deref-in-If-4.result.now c.deref-in-If-2.result.now c.in-If.is c.deref-in-If-4.ensures.value c.deref-in-If-2.ensures.value in
    let begin = ap (λ (x : ℕ). x + 1 + c.size_of_all.result + 1) (c.position.ensures ∙ ap (λ (xs : _). length {A = MidStep} xs) c.deref.ensures.value)
    ∙ ap (λ (x : ℕ). length c.emit_expr-in-If.new.steps.items + 1 + x + 1) (c.size_of_all.ensures ∙ ap (λ (xs : _). stmts_size (stmts xs)) (c.deref-in-If.ensures.value ∙ sym c.deref-in-If-2.ensures.value)) in
    let last = ap (λ (x : ℕ). c.position.result + 1 + c.size_of_all.result + 1 + x) (c.size_of_all-in-If.ensures ∙ ap (λ (xs : _). stmts_size (stmts xs)) (c.deref-in-If-3.ensures.value ∙ sym c.deref-in-If-4.ensures.value)) in
    on_ok_weaker c.emit_stmts-in-If.result (λ h. choice_emitted c.args.steps.now.items c.emit_expr-in-If.new.steps.items c.push.new.steps.items c.emit_stmts.new.steps.items c.push-in-If.new.steps.items c.emit_stmts-in-If.new.steps.items
    c.args.d (c.position.result + 1 + c.size_of_all.result + 1) (c.position.result + 1 + c.size_of_all.result + 1 + c.size_of_all-in-If.result) c.args.exits.now (stmt c.args.s.now) (expr c.in-If.condition) (stmts c.deref-in-If-4.result.now) (stmts c.deref-in-If-2.result.now)
    is c.in_ok-emit_expr-in-If.ensures begin c.in_ok-push-in-If.ensures c.in_ok-emit_stmts-in-If.ensures last c.in_ok-push-in-If-2.ensures h) c.emit_stmts-in-If.ensures

pub emit_stmt-size_of_all-requires-in-Loop : goal.emit_stmt-size_of_all-requires-in-Loop
emit_stmt-size_of_all-requires-in-Loop t c =
    let nodes : stmt_nodes (stmt c.args.s.now) ≡ stmts_nodes (stmts c.deref-in-Loop-2.result.now) + 1 = ap stmt_nodes (loop_is c.args.s.now c.in-Loop.body c.deref-in-Loop-2.result.now c.in-Loop.is c.deref-in-Loop-2.ensures.value) in
    omega (arith, nodes, c.requires.nodes)

pub emit_stmt-overflow_add-begin-in-Loop-2 : goal.emit_stmt-overflow_add-begin-in-Loop-2
emit_stmt-overflow_add-begin-in-Loop-2 t c =
    let nodes : stmt_nodes (stmt c.args.s.now) ≡ stmts_nodes (stmts c.deref-in-Loop-2.result.now) + 1 = ap stmt_nodes (loop_is c.args.s.now c.in-Loop.body c.deref-in-Loop-2.result.now c.in-Loop.is c.deref-in-Loop-2.ensures.value) in
    let same = ap (λ (xs : _). length {A = MidStep} xs) c.deref-in-Loop.ensures.value in
    let small = stmts_size_small (stmts c.deref-in-Loop-2.result.now) in
    omega (arith, nodes, same, small, c.position-begin.ensures, c.size_of_all-in-Loop.ensures, c.requires.place)

pub emit_stmt-overflow_add-begin-in-Loop-3 : goal.emit_stmt-overflow_add-begin-in-Loop-3
emit_stmt-overflow_add-begin-in-Loop-3 t c =
    let nodes : stmt_nodes (stmt c.args.s.now) ≡ stmts_nodes (stmts c.deref-in-Loop-2.result.now) + 1 = ap stmt_nodes (loop_is c.args.s.now c.in-Loop.body c.deref-in-Loop-2.result.now c.in-Loop.is c.deref-in-Loop-2.ensures.value) in
    let same = ap (λ (xs : _). length {A = MidStep} xs) c.deref-in-Loop.ensures.value in
    let small = stmts_size_small (stmts c.deref-in-Loop-2.result.now) in
    omega (arith, nodes, same, small, c.position-begin.ensures, c.size_of_all-in-Loop.ensures, c.requires.place)

pub emit_stmt-emit_stmts-requires-in-Loop : goal.emit_stmt-emit_stmts-requires-in-Loop
emit_stmt-emit_stmts-requires-in-Loop t c =
    let nodes : stmt_nodes (stmt c.args.s.now) ≡ stmts_nodes (stmts c.deref-in-Loop-4.result.now) + 1 = ap stmt_nodes (loop_is c.args.s.now c.in-Loop.body c.deref-in-Loop-4.result.now c.in-Loop.is c.deref-in-Loop-4.ensures.value) in
    let one = pushed c.args.steps.now.items c.push-in-Loop.new.steps.items _ c.in_ok-push-in-Loop.ensures in
    (first_of (search (rules, the_lemmas), grind (arith, the_lemmas)), (omega (arith, nodes, c.requires.nodes), (omega (arith, nodes, c.requires.temps), (omega (arith, nodes, one, c.requires.place)))))

pub emit_stmt-returns-in_ok-emit_stmts-in-Loop : goal.emit_stmt-returns-in_ok-emit_stmts-in-Loop
emit_stmt-returns-in_ok-emit_stmts-in-Loop t c =
    let begin = c.position-begin.result + 1 in
    let is = loop_is c.args.s.now c.in-Loop.body c.deref-in-Loop-4.result.now c.in-Loop.is c.deref-in-Loop-4.ensures.value in
    let place = ap (λ (x : ℕ). x + 1) (c.position-begin.ensures ∙ ap (λ (xs : _). length {A = MidStep} xs) c.deref-in-Loop.ensures.value) in
    let size = c.size_of_all-in-Loop.ensures ∙ ap (λ (xs : _). stmts_size (stmts xs)) (c.deref-in-Loop-2.ensures.value ∙ sym c.deref-in-Loop-4.ensures.value) in
    let inner = c.deref-in-Loop-3.ensures.value ∙ c.in_ok-within-in-Loop.ensures ∙ ap (λ (x : ℕ). (begin + x + 1) ∷ c.args.exits.now) size in
    on_ok_weaker c.push-in-Loop-2.result
    (λ h.
    loop_emitted c.args.steps.now.items c.push-in-Loop.new.steps.items c.emit_stmts-in-Loop.new.steps.items c.push-in-Loop-2.new.steps.items c.args.d begin c.args.exits.now c.deref-in-Loop-3.result.now
    (stmt c.args.s.now) (stmts c.deref-in-Loop-4.result.now) is place inner c.in_ok-push-in-Loop.ensures c.in_ok-emit_stmts-in-Loop.ensures h)
    c.push-in-Loop-2.ensures

pub emit_stmts-emit_stmt-requires : goal.emit_stmts-emit_stmt-requires
emit_stmts-emit_stmt-requires t c =
    let nodes = stmts_nodes_here c.args.ss.now c.loop-s.s-index c.s-item.result c.loop-s-test.true c.s-item.is in
    let left = stmts_nodes_left c.args.ss.now c.loop-s.s-index in
    (first_of (search (rules, the_lemmas), grind (arith, the_lemmas)), (omega (arith, nodes, left, c.requires.nodes), (omega (arith, nodes, left, c.requires.temps), (omega (arith, nodes, c.loop-s.invariant.place, c.requires.place)))))

pub emit_stmts-loop-s-preserved : goal.emit_stmts-loop-s-preserved
emit_stmts-loop-s-preserved t c =
    let nodes = stmts_nodes_here c.args.ss.now c.loop-s.s-index c.s-item.result c.loop-s-test.true c.s-item.is in
    let left = stmts_nodes_left c.args.ss.now c.loop-s.s-index in
    let l = grown c.loop-s.steps.items c.emit_stmt.new.steps.items (stmt_code c.args.d c.args.exits.now (length c.loop-s.steps.items) (stmt c.s-item.result)) (stmt_size (stmt c.s-item.result)) c.in_ok-emit_stmt.ensures (stmt_length (stmt c.s-item.result) c.args.d c.args.exits.now (length c.loop-s.steps.items)) in
    let small = stmt_size_small (stmt c.s-item.result) in
    record {
      code = stmts_more c.args.ss.now c.loop-s.s-index c.args.d c.args.exits.now c.s-item.result _ c.loop-s.steps.items c.emit_stmt.new.steps.items c.loop-s-test.true c.s-item.is c.loop-s.invariant.code c.in_ok-emit_stmt.ensures;
      place = omega (arith, nodes, l, small, c.loop-s.invariant.place);
    }
