use Rattle.std.proofs.Common.{◌≡◌, ◌≢◌, ◌+◌, ◌∙◌, [], ℕ, List, Bool, true, false, sym, subst, refl, ap}
use Rattle.std.proofs.lemmas.Slice.Eq.{slice_eq-Decides}
use Rattle.std.proofs.lemmas.Bool.{false≢true}
use Rattle.std.proofs.lemmas.Bool.Decides.{Decides-eqb}
use mathlib.Core.Bool.{not}
use Rattle.odc_typed.specs.declared.tree.Local.{Local}
use Rattle.odc_typed.specs.View.{stmts}
use Rattle.odc_small.specs.Grammar.{foot}
use Rattle.odc_small.specs.Names.{Names, around_main}
use Rattle.odc_small.specs.Progress.{Reached, reached, ReadsBody}
use Rattle.odc_small.specs.View.{callable as callable_tree}
use Rattle.odc_small.proofs.FuncLemmas.{proc_same}
use Rattle.odc_small.proofs.TextLemmas.{main_none_head, main_none_foot, main_read}
use Rattle.odc_small.proofs.text.main_at.Goals as goal

pub returns-in_default : goal.returns-in_default
returns-in_default c = main_none_head (callable_tree c.args.callable.now) c.args.bytes.now c.in_default.ensures

pub returns-then-ne : goal.returns-then-ne
returns-then-ne c =
    let C = callable_tree c.args.callable.now in
    let new = reached c.block_at.new.state in
    let P : Names → List Local → Type 0 = λ ns vs. ReadsBody (around_main C) 8 (record { names = ns; locals = vs; next = 0; line = c.args.line + 1 }) new c.in-Some.inner.now c.in_ok-body.rest.now (stmts c.in_ok-body.body.items) in
    let here : P c.new.result.items c.new-2.result.items = c.in_ok-body.ensures in
    let body : P [] [] = subst (λ (vs : List Local). P [] vs) c.new-2.ensures.items (subst (λ (ns : Names). P ns c.new-2.result.items) c.new.ensures.items here) in
    main_none_foot C c.args.bytes.now c.in-Some.inner.now c.in_ok-body.rest.now (c.args.line + 1) new (stmts c.in_ok-body.body.items) c.in-Some.ensures body
    (λ h. let t = (slice_eq-Decides Decides-eqb c.in_ok-body.rest.now c.as_slice.result.now _ refl).1 (h ∙ sym c.as_slice.ensures) in
    false≢true (sym (c.ne.ensures ∙ ap (λ (b : Bool). not b) t) ∙ c.if-ne.true))

pub returns : goal.returns
returns c =
    let C = callable_tree c.args.callable.now in
    let new = reached c.block_at.new.state in
    let P : Names → List Local → Type 0 = λ ns vs. ReadsBody (around_main C) 8 (record { names = ns; locals = vs; next = 0; line = c.args.line + 1 }) new c.in-Some.inner.now c.in_ok-body.rest.now (stmts c.in_ok-body.body.items) in
    let here : P c.new.result.items c.new-2.result.items = c.in_ok-body.ensures in
    let body : P [] [] = subst (λ (vs : List Local). P [] vs) c.new-2.ensures.items (subst (λ (ns : Names). P ns c.new-2.result.items) c.new.ensures.items here) in
    let last : c.in_ok-body.rest.now ≡ foot = (slice_eq-Decides Decides-eqb c.in_ok-body.rest.now c.as_slice.result.now _ refl).0 (by_not _ (sym c.ne.ensures ∙ c.if-ne.false)) ∙ c.as_slice.ensures in
    main_read C c.args.bytes.now c.in-Some.inner.now c.in_ok-body.rest.now c.args.line new (stmts c.in_ok-body.body.items) _ c.in-Some.ensures body last
    (proc_same _ _ _ _ _ _ _ _ c.block_at.new.state.locals.items _ _ c.in_ok-from_str.ensures.ok c.at.ensures c.new-3.ensures.items c.new-4.ensures.items refl)
  where
    by_not : (b : Bool) → not b ≡ false → b ≡ true
    by_not true h = refl
    by_not false h = cc
