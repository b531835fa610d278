use Rattle.std.proofs.Common.{◌≡◌, ◌+◌, ◌-◌, ◌∷◌, [], ◌∙◌, ℕ, List, ap, sym, subst, refl, arith, length, true}
use Rattle.odc_text.specs.declared.place.Place.{Place}
use Rattle.odc_typed.specs.declared.tree.Local.{Local}
use Rattle.odc_typed.specs.Tree.{answer}
use Rattle.odc_typed.specs.View.{expr, stmts}
use Rattle.odc_small.specs.declared.scope.Signature.{Signature}
use Rattle.odc_small.specs.Forms.{NoneAt, FoundAt}
use Rattle.odc_small.specs.Grammar.{list_spelling, parameter_spelling}
use Rattle.odc_small.specs.Names.{Names, AreDifferent}
use Rattle.odc_small.specs.Progress.{Reached, reached, ReadsBody, around_by}
use Rattle.odc_small.specs.Reading.{ReadsAt, column_at}
use Rattle.odc_small.specs.Text.{headings, footings, footing_told, started}
use Rattle.odc_small.specs.Typing.{at, parameters_at, ending_with}
use Rattle.odc_small.specs.View.{callable as callable_tree}
use Rattle.odc_small.proofs.BlockLemmas.{stmts_push}
use Rattle.odc_small.proofs.FuncLemmas.{func_none_heading, func_none_different, func_none_footing, func_read, proc_same}
use Rattle.odc_small.proofs.ParameterLemmas.{heading_length, few_parameters}
use Rattle.odc_small.proofs.funcs.func_at.Goals as goal

pub returns-in_default : goal.returns-in_default
returns-in_default c =
    let none : NoneAt headings c.args.bytes.now = rw c.in_default.is at c.in_ok-name.ensures in
    func_none_heading (callable_tree c.args.callable.now) c.args.bytes.now none

pub returns-then-not-are_different : goal.returns-then-not-are_different
returns-then-not-are_different c =
    let h : FoundAt headings c.args.bytes.now (c.in-Some.name, (tt, c.in-Some.parameters.items)) c.in-Some.inner.now = rw c.in-Some.is at c.in_ok-name.ensures in
    func_none_different (callable_tree c.args.callable.now) c.args.bytes.now c.in-Some.inner.now c.in-Some.name c.in-Some.parameters.items h
    (λ different. let e : c.are_different.result ≡ true = c.are_different.ensures.1 (subst AreDifferent (sym c.deref.ensures.value) different) in let f = c.if-not-are_different.true in cc)

pub overflow_cast-count : goal.overflow_cast-count
overflow_cast-count c =
    let h : FoundAt headings c.args.bytes.now (c.in-Some.name, (tt, c.in-Some.parameters.items)) c.in-Some.inner.now = rw c.in-Some.is at c.in_ok-name.ensures in
    let few = few_parameters c.args.bytes.now c.in-Some.inner.now c.in-Some.name c.in-Some.parameters.items h in
    omega (arith, few, c.requires.fits, c.len-count.ensures, c.in-Some.parameters.ok.0)

pub started_at-requires-clause-names : goal.started_at-requires-clause-names
started_at-requires-clause-names c =
    let h : FoundAt headings c.args.bytes.now (c.in-Some.name, (tt, c.in-Some.parameters.items)) c.in-Some.inner.now = rw c.in-Some.is at c.in_ok-name.ensures in
    let few = few_parameters c.args.bytes.now c.in-Some.inner.now c.in-Some.name c.in-Some.parameters.items h in
    omega (arith, few, c.requires.fits, ap (λ (ns : List ℕ). length ns) c.deref-2.ensures.value)

pub block_at-requires-clause-next : goal.block_at-requires-clause-next
block_at-requires-clause-next c =
    let h : FoundAt headings c.args.bytes.now (c.in-Some.name, (tt, c.in-Some.parameters.items)) c.in-Some.inner.now = rw c.in-Some.is at c.in_ok-name.ensures in
    let few = few_parameters c.args.bytes.now c.in-Some.inner.now c.in-Some.name c.in-Some.parameters.items h in
    omega (arith, few, c.requires.fits, ap (λ (z : Reached). z.next) c.in_ok-state.ensures, ap (λ (ns : List ℕ). length ns) c.deref-2.ensures.value)

pub returns-in_default-2 : goal.returns-in_default-2
returns-in_default-2 c =
    let h : FoundAt headings c.args.bytes.now (c.in-Some.name, (tt, c.in-Some.parameters.items)) c.in-Some.inner.now = rw c.in-Some.is at c.in_ok-name.ensures in
    let count : c.len-count.result ≡ length c.in-Some.parameters.items = omega (arith, c.len-count.ensures, c.in-Some.parameters.ok.0) in
    let start : reached c.in_ok-state.state ≡ started c.in-Some.parameters.items c.args.line = c.in_ok-state.ensures ∙ ap (λ (ns : List ℕ). started ns c.args.line) c.deref-2.ensures.value in
    let P : ℕ → Reached → Type 0 = λ n z. ReadsBody (around_by (callable_tree c.args.callable.now) n) 8 z (reached c.block_at.new.state) c.in-Some.inner.now c.in_ok-body.last.now (stmts c.in_ok-body.body.items) in
    let body : P (length c.in-Some.parameters.items) (started c.in-Some.parameters.items c.args.line) = subst (P (length c.in-Some.parameters.items)) start (subst (λ (n : ℕ). P n (reached c.in_ok-state.state)) count c.in_ok-body.ensures) in
    let Q : Names → Type 0 = λ ns. NoneAt (footings (callable_tree c.args.callable.now) ns) c.in_ok-body.last.now in
    let none : Q c.deref-3.result.now = rw c.in_default-2.is at c.in_ok-answer.ensures in
    func_none_footing (callable_tree c.args.callable.now) c.args.bytes.now c.in-Some.inner.now c.in_ok-body.last.now c.in-Some.name c.args.line c.in-Some.parameters.items (reached c.block_at.new.state) (stmts c.in_ok-body.body.items) h body
    (subst Q c.deref-3.ensures.value none)

pub locals_of-requires : goal.locals_of-requires
locals_of-requires c =
    let h : FoundAt headings c.args.bytes.now (c.in-Some.name, (tt, c.in-Some.parameters.items)) c.in-Some.inner.now = rw c.in-Some.is at c.in_ok-name.ensures in
    let few = few_parameters c.args.bytes.now c.in-Some.inner.now c.in-Some.name c.in-Some.parameters.items h in
    omega (arith, few, c.requires.fits, ap (λ (ns : List ℕ). length ns) c.deref-4.ensures.value)

pub returns : goal.returns
returns c =
    let h : FoundAt headings c.args.bytes.now (c.in-Some.name, (tt, c.in-Some.parameters.items)) c.in-Some.inner.now = rw c.in-Some.is at c.in_ok-name.ensures in
    let count : c.len-count.result ≡ length c.in-Some.parameters.items = omega (arith, c.len-count.ensures, c.in-Some.parameters.ok.0) in
    let start : reached c.in_ok-state.state ≡ started c.in-Some.parameters.items c.args.line = c.in_ok-state.ensures ∙ ap (λ (ns : List ℕ). started ns c.args.line) c.deref-2.ensures.value in
    let P : ℕ → Reached → Type 0 = λ n z. ReadsBody (around_by (callable_tree c.args.callable.now) n) 8 z (reached c.block_at.new.state) c.in-Some.inner.now c.in_ok-body.last.now (stmts c.in_ok-body.body.items) in
    let body : P (length c.in-Some.parameters.items) (started c.in-Some.parameters.items c.args.line) = subst (P (length c.in-Some.parameters.items)) start (subst (λ (n : ℕ). P n (reached c.in_ok-state.state)) count c.in_ok-body.ensures) in
    let mid = reached c.block_at.new.state in
    let ss = stmts c.in_ok-body.body.items in
    let e = expr c.in-Some-2.answer in
    let origin = length c.in_ok-body.last.now + 1 in
    let Q : Names → Type 0 = λ ns. ReadsAt (footings (callable_tree c.args.callable.now) ns) (footing_told (callable_tree c.args.callable.now) ns c.block_at.new.state.line) origin c.in_ok-body.last.now c.in-Some-2.rest.now e in
    let foot : Q c.deref-3.result.now = rw c.in-Some-2.is at c.in_ok-answer.ensures in
    let one : column_at origin c.in_ok-body.last.now ≡ 1 = omega arith in
    let width = heading_length c.args.bytes.now c.in-Some.inner.now c.in-Some.name c.in-Some.parameters.items h in
    let column : length c.args.bytes.now - length c.in-Some.inner.now - 5 ≡ 16 + length (list_spelling parameter_spelling c.in-Some.parameters.items) = omega (arith, width) in
    let spelled = c.in_ok-full_name.ensures in
    let place = c.at-2.ensures in
    let vars = c.in_ok-locals_of.ensures ∙ ap (λ (ns : List ℕ). parameters_at c.args.line 11 ns) c.deref-4.ensures.value in
    let results = c.in_ok-vec.ensures.items ∙ ap (λ (q : Place). let l : Local = record { at = q } in l ∷ []) (c.at-3.ensures ∙ ap (λ (k : ℕ). at c.args.line k) column) in
    let last = ap stmts c.in_ok-push.ensures.items ∙ stmts_push c.in_ok-body.body.items _ ∙ ap (λ (q : Place). ending_with ss (answer q e)) c.at.ensures in
    func_read (callable_tree c.args.callable.now) c.args.bytes.now c.in-Some.inner.now c.in_ok-body.last.now c.in-Some-2.rest.now c.in-Some.name c.args.line origin (c.block_at.new.state.line + 2) c.in-Some.parameters.items mid ss e _ _ h
    (subst AreDifferent c.deref.ensures.value (c.are_different.ensures.0 c.if-not-are_different.false)) body (subst Q c.deref-3.ensures.value foot) one
    (proc_same _ _ _ _ _ _ _ _ mid.locals _ _ spelled place vars results last)
    (ap (λ (n : ℕ). let s : Signature = record { name = c.in-Some.name; parameters = n } in s) count) refl
