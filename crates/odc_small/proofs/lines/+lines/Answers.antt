use Rattle.std.proofs.Common.{◌≡◌, ◌+◌, ◌-◌, ◌∙◌, ℕ, List, take, length, refl, ap, sym, subst, arith}
use Rattle.odc_text.specs.declared.place.Place.{Place}
use Rattle.odc_typed.specs.declared.tree.Local.{Local}
use Rattle.odc_typed.specs.Tree.{Stmts}
use Rattle.odc_typed.specs.View.{expr, stmt, stmts}
use Rattle.odc_small.specs.Forms.{NoneAt}
use Rattle.odc_small.specs.Names.{Names}
use Rattle.odc_small.specs.Progress.{conditions, condition_told, Reached, reached, around_by, NoSimple, NoBlock, NoLine, ReadsInner, ReadsOuter, ReadsBody}
use Rattle.odc_small.specs.Reading.{ReadsAt}
use Rattle.odc_small.specs.Typing.{at, nested}
use Rattle.odc_small.specs.View.{callable as callable_tree}
use Rattle.odc_small.proofs.BlockLemmas.{lower, LinesSoFar, lines_next, lines_all, body_of, stmts_push, names_stay, locals_stay, nest_none_head, nest_none_end, nest_read, outer_read, outer_none, no_inner}
use Rattle.odc_small.proofs.lines.+lines.Goals as goal

pub block_at-lines-preserved : goal.block_at-lines-preserved
block_at-lines-preserved t c =
    let r : ReadsOuter (around_by (callable_tree c.args.callable.now) c.args.parameters) (c.args.room - 1) (reached c.lines.state) (reached c.line_at.new.state) c.lines.rest.now c.in-Some.after.now (stmt c.in-Some.statement) = rw c.in-Some.is at c.in_ok-statement.ensures in
    let P : Stmts → Type 0 = λ ss. LinesSoFar (around_by (callable_tree c.args.callable.now) c.args.parameters) (c.args.room - 1) (reached c.args.state.now) (reached c.line_at.new.state) c.args.bytes.now c.in-Some.after.now ss in
    subst P (sym (ap stmts c.in_ok-push.ensures.items ∙ stmts_push c.lines.body.items c.in-Some.statement))
    (lines_next (around_by (callable_tree c.args.callable.now) c.args.parameters) (c.args.room - 1) (reached c.args.state.now) (reached c.lines.state) (reached c.line_at.new.state) c.args.bytes.now c.lines.rest.now c.in-Some.after.now (stmts c.lines.body.items) (stmt c.in-Some.statement)
    c.lines.invariant r)

pub block_at-returns : goal.block_at-returns
block_at-returns t c =
    let none : NoLine (around_by (callable_tree c.args.callable.now) c.args.parameters) (c.args.room - 1) (reached c.lines.state) (reached c.line_at.new.state) c.lines.rest.now = rw c.in_default.is at c.in_ok-statement.ensures in
    let P : Reached → Type 0 = λ z. ReadsBody (around_by (callable_tree c.args.callable.now) c.args.parameters) c.args.room (reached c.args.state.now) z c.args.bytes.now c.lines.rest.now (stmts c.lines.body.items) in
    subst P (sym none.same)
    (body_of (around_by (callable_tree c.args.callable.now) c.args.parameters) c.args.room (reached c.args.state.now) (reached c.lines.state) c.args.bytes.now c.lines.rest.now (stmts c.lines.body.items) (omega (arith, c.if-room-eq0.false))
    (lines_all (around_by (callable_tree c.args.callable.now) c.args.parameters) (c.args.room - 1) (reached c.args.state.now) (reached c.lines.state) c.args.bytes.now c.lines.rest.now (stmts c.lines.body.items) c.lines.invariant none.none))

pub line_at-returns-in-Some-3 : goal.line_at-returns-in-Some-3
line_at-returns-in-Some-3 t c =
    let before : NoSimple (around_by (callable_tree c.args.callable.now) c.args.parameters) (reached c.args.state.now) (reached c.simple_at.new.state) c.in-Some.inner.now = rw c.in_default-2.is at c.in_ok-statement.ensures in
    let P : Reached → Type 0 = λ z. ReadsInner (around_by (callable_tree c.args.callable.now) c.args.parameters) c.args.room z (reached c.nest_at.new.state) c.in-Some.inner.now c.in-Some-3.rest.now (stmt c.in-Some-3.statement) in
    let r : P (reached c.simple_at.new.state) = rw c.in-Some-3.is at c.in_ok-statement-2.ensures in
    outer_read (around_by (callable_tree c.args.callable.now) c.args.parameters) c.args.room (reached c.args.state.now) c.args.bytes.now c.in-Some.inner.now c.in-Some-3.rest.now (reached c.nest_at.new.state) (stmt c.in-Some-3.statement) c.in-Some.ensures (subst P before.same r)

pub line_at-returns-in-None : goal.line_at-returns-in-None
line_at-returns-in-None t c =
    let before : NoSimple (around_by (callable_tree c.args.callable.now) c.args.parameters) (reached c.args.state.now) (reached c.simple_at.new.state) c.in-Some.inner.now = rw c.in_default-2.is at c.in_ok-statement.ensures in
    let P : Reached → Type 0 = λ z. NoBlock (around_by (callable_tree c.args.callable.now) c.args.parameters) c.args.room z (reached c.nest_at.new.state) c.in-Some.inner.now in
    let r : P (reached c.simple_at.new.state) = rw c.in-None.is at c.in_ok-statement-2.ensures in
    let none = subst P before.same r in
    record {
      none = outer_none (around_by (callable_tree c.args.callable.now) c.args.parameters) c.args.room (reached c.args.state.now) c.args.bytes.now c.in-Some.inner.now c.in-Some.ensures
          (no_inner (around_by (callable_tree c.args.callable.now) c.args.parameters) c.args.room (reached c.args.state.now) c.in-Some.inner.now before.declares before.assigns before.prints_none none.none);
      same = none.same;
    }

pub nest_at-returns-in_default-2 : goal.nest_at-returns-in_default-2
nest_at-returns-in_default-2 t c =
    let P : Names → Type 0 = λ ns. NoneAt (conditions (callable_tree c.args.callable.now) ns) c.in-Some.rest.now in
    let none : P c.deref.result.now = rw c.in_default-2.is at c.in_ok-condition.ensures in
    record {
      none = nest_none_head (around_by (callable_tree c.args.callable.now) c.args.parameters) c.args.room (reached c.args.state.now) c.args.bytes.now c.in-Some.rest.now c.in-Some.keyword c.in-Some.ensures (subst P c.deref.ensures.value none);
      same = refl;
    }

pub nest_at-returns-in_default-end_at : goal.nest_at-returns-in_default-end_at
nest_at-returns-in_default-end_at t c =
    let cond : ReadsAt (conditions (callable_tree c.args.callable.now) c.deref.result.now) (condition_told (callable_tree c.args.callable.now) c.deref.result.now c.args.state.now.line) c.args.origin c.in-Some.rest.now c.in-Some-2.rest.now (expr c.in-Some-2.condition)
    = rw c.in-Some-2.is at c.in_ok-condition.ensures in
    let P : Names → Type 0 = λ ns. ReadsAt (conditions (callable_tree c.args.callable.now) ns) (condition_told (callable_tree c.args.callable.now) ns c.args.state.now.line) c.args.origin c.in-Some.rest.now c.in-Some-2.rest.now (expr c.in-Some-2.condition) in
    let head = subst P c.deref.ensures.value cond in
    let body : ReadsBody (around_by (callable_tree c.args.callable.now) c.args.parameters) c.args.room (lower (around_by (callable_tree c.args.callable.now) c.args.parameters) c.args.room (reached c.args.state.now)) (reached c.block_at.new.state) c.in-Some-2.rest.now c.in_ok-body.rest.now (stmts c.in_ok-body.body.items) = c.in_ok-body.ensures in
    let few : c.len-names.result ≡ length c.args.state.now.names.items = omega (arith, c.len-names.ensures, c.args.state.now.names.ok.0) in
    let names : c.truncate.new.self.items ≡ c.args.state.now.names.items =
    c.truncate.ensures.items ∙ ap (λ (n : ℕ). take n c.block_at.new.state.names.items) few
    ∙ ap (λ (z : Reached). take (length c.args.state.now.names.items) z.names) body.after ∙ names_stay c.args.room (lower (around_by (callable_tree c.args.callable.now) c.args.parameters) c.args.room (reached c.args.state.now)) body.trees in
    let fewer : c.len-locals.result ≡ length c.args.state.now.locals.items = omega (arith, c.len-locals.ensures, c.args.state.now.locals.ok.0) in
    let locals : c.truncate-in_default-end_at.new.self.items ≡ c.args.state.now.locals.items =
    c.truncate-in_default-end_at.ensures.items ∙ ap (λ (n : ℕ). take n c.block_at.new.state.locals.items) fewer
    ∙ ap (λ (z : Reached). take (length c.args.state.now.locals.items) z.locals) body.after ∙ locals_stay c.args.room (lower (around_by (callable_tree c.args.callable.now) c.args.parameters) c.args.room (reached c.args.state.now)) body.trees in
    record {
      none = nest_none_end (around_by (callable_tree c.args.callable.now) c.args.parameters) c.args.room (reached c.args.state.now) c.args.origin c.args.bytes.now c.in-Some.rest.now c.in-Some-2.rest.now c.in_ok-body.rest.now c.in-Some.keyword (expr c.in-Some-2.condition)
          (stmts c.in_ok-body.body.items) (reached c.block_at.new.state) (omega (arith, c.requires.shallow)) c.in-Some.ensures head body c.in_default-end_at.ensures;
      same = ap (λ (ns : Names). let z : Reached = record { names = ns; locals = c.truncate-in_default-end_at.new.self.items; next = c.args.state.now.next; line = c.args.state.now.line } in z) names
          ∙ ap (λ (vs : List Local). let z : Reached = record { names = c.args.state.now.names.items; locals = vs; next = c.args.state.now.next; line = c.args.state.now.line } in z) locals;
    }

pub nest_at-returns : goal.nest_at-returns
nest_at-returns t c =
    let cond : ReadsAt (conditions (callable_tree c.args.callable.now) c.deref.result.now) (condition_told (callable_tree c.args.callable.now) c.deref.result.now c.args.state.now.line) c.args.origin c.in-Some.rest.now c.in-Some-2.rest.now (expr c.in-Some-2.condition)
    = rw c.in-Some-2.is at c.in_ok-condition.ensures in
    let P : Names → Type 0 = λ ns. ReadsAt (conditions (callable_tree c.args.callable.now) ns) (condition_told (callable_tree c.args.callable.now) ns c.args.state.now.line) c.args.origin c.in-Some.rest.now c.in-Some-2.rest.now (expr c.in-Some-2.condition) in
    let head = subst P c.deref.ensures.value cond in
    let body : ReadsBody (around_by (callable_tree c.args.callable.now) c.args.parameters) c.args.room (lower (around_by (callable_tree c.args.callable.now) c.args.parameters) c.args.room (reached c.args.state.now)) (reached c.block_at.new.state) c.in-Some-2.rest.now c.in_ok-body.rest.now (stmts c.in_ok-body.body.items) = c.in_ok-body.ensures in
    let few : c.len-names.result ≡ length c.args.state.now.names.items = omega (arith, c.len-names.ensures, c.args.state.now.names.ok.0) in
    let names : c.truncate.new.self.items ≡ c.args.state.now.names.items =
    c.truncate.ensures.items ∙ ap (λ (n : ℕ). take n c.block_at.new.state.names.items) few
    ∙ ap (λ (z : Reached). take (length c.args.state.now.names.items) z.names) body.after ∙ names_stay c.args.room (lower (around_by (callable_tree c.args.callable.now) c.args.parameters) c.args.room (reached c.args.state.now)) body.trees in
    let nine : 9 - c.args.room ≡ 8 - c.args.room + 1 = omega (arith, c.requires.shallow) in
    nest_read (around_by (callable_tree c.args.callable.now) c.args.parameters) c.args.room (reached c.args.state.now) c.args.origin c.args.bytes.now c.in-Some.rest.now c.in-Some-2.rest.now c.in_ok-body.rest.now c.in-Some-end_at.rest.now c.in-Some.keyword (expr c.in-Some-2.condition)
    (stmts c.in_ok-body.body.items) (reached c.block_at.new.state) _ _ c.in-Some.ensures head body c.in-Some-end_at.ensures c.requires.begins c.requires.within
    (c.nested.ensures ∙ ap (λ (q : Place). nested c.in-Some.keyword q (expr c.in-Some-2.condition) (stmts c.in_ok-body.body.items)) (c.at.ensures ∙ ap (λ (k : ℕ). at c.args.state.now.line k) nine))
    (ap (λ (ns : Names). let z : Reached = record { names = ns; locals = c.block_at.new.state.locals.items; next = c.block_at.new.state.next; line = c.block_at.new.state.line + 1 } in z) names)
