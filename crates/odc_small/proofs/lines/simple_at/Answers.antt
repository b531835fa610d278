use Rattle.std.proofs.Common.{◌≡◌, ◌+◌, ◌-◌, ◌∙◌, ℕ, refl, ap, subst, arith}
use Rattle.odc_text.specs.declared.place.Place.{Place}
use Rattle.odc_typed.specs.declared.tree.Builtin.TheVariants.{Println}
use Rattle.odc_typed.specs.Tree.{declare, assign, local, eval, builtin}
use Rattle.odc_typed.specs.View.{expr, exprs}
use Rattle.odc_small.specs.Forms.{NoneAt}
use Rattle.odc_small.specs.Names.{Names}
use Rattle.odc_small.specs.Progress.{declarations, assignments, assigned_told, setting_told, prints, printing_told, begun, reached, around_by}
use Rattle.odc_small.specs.Reading.{ReadsAt}
use Rattle.odc_small.specs.Typing.{at}
use Rattle.odc_small.specs.View.{callable as callable_tree}
use Rattle.odc_small.proofs.BlockLemmas.{declare_read, assign_read, print_line_read}
use Rattle.odc_small.proofs.lines.simple_at.Goals as goal

pub returns-in-Some : goal.returns-in-Some
returns-in-Some c =
    let nine : 9 - c.args.room ≡ 8 - c.args.room + 1 = omega (arith, c.requires.shallow) in
    let p : c.at-place.result ≡ at c.args.state.now.line (8 - c.args.room + 1) = c.at-place.ensures ∙ ap (λ (k : ℕ). at c.args.state.now.line k) nine in
    let e = expr c.in-Some.value in
    let r : ReadsAt (declarations (callable_tree c.args.callable.now) c.deref.result.now) (setting_told (callable_tree c.args.callable.now) c.deref.result.now c.args.state.now.line 4) c.args.origin c.args.bytes.now c.in-Some.rest.now (c.in-Some.name, e)
    = rw c.in-Some.is at c.in_ok-name.ensures in
    let P : Names → Type 0 = λ ns. ReadsAt (declarations (callable_tree c.args.callable.now) ns) (setting_told (callable_tree c.args.callable.now) ns c.args.state.now.line 4) c.args.origin c.args.bytes.now c.in-Some.rest.now (c.in-Some.name, e) in
    declare_read (around_by (callable_tree c.args.callable.now) c.args.parameters) c.args.room (reached c.args.state.now) c.args.origin c.args.bytes.now c.in-Some.rest.now c.in-Some.name e (reached c.begin.new.state) _ (subst P c.deref.ensures.value r) c.requires.begins
    (ap (λ (q : Place). declare q c.in_ok-variable.variable e) p ∙ ap (λ (x : ℕ). declare (at c.args.state.now.line (8 - c.args.room + 1)) x e) c.in_ok-variable.ensures.number)
    (c.in_ok-variable.ensures.state ∙ ap (λ (q : Place). begun (reached c.args.state.now) c.in-Some.name q) p)

pub returns-in-Some-2 : goal.returns-in-Some-2
returns-in-Some-2 c =
    let nine : 9 - c.args.room ≡ 8 - c.args.room + 1 = omega (arith, c.requires.shallow) in
    let p : c.at-place.result ≡ at c.args.state.now.line (8 - c.args.room + 1) = c.at-place.ensures ∙ ap (λ (k : ℕ). at c.args.state.now.line k) nine in
    let eleven : 11 - c.args.room ≡ 8 - c.args.room + 3 = omega (arith, c.requires.shallow) in
    let sign : c.at-sign.result ≡ at c.args.state.now.line (8 - c.args.room + 3) = c.at-sign.ensures ∙ ap (λ (k : ℕ). at c.args.state.now.line k) eleven in
    let e = expr c.in-Some-2.value in
    let x = c.in-Some-2.variable in
    let r : ReadsAt (assignments (callable_tree c.args.callable.now) c.args.parameters c.deref-2.result.now) (assigned_told (callable_tree c.args.callable.now) c.deref-2.result.now c.args.state.now.line) c.args.origin c.args.bytes.now c.in-Some-2.rest.now (x, e)
    = rw c.in-Some-2.is at c.in_ok-variable-2.ensures in
    let P : Names → Type 0 = λ ns. ReadsAt (assignments (callable_tree c.args.callable.now) c.args.parameters ns) (assigned_told (callable_tree c.args.callable.now) ns c.args.state.now.line) c.args.origin c.args.bytes.now c.in-Some-2.rest.now (x, e) in
    assign_read (around_by (callable_tree c.args.callable.now) c.args.parameters) c.args.room (reached c.args.state.now) c.args.origin x c.args.bytes.now c.in-Some-2.rest.now e _ _ (subst P c.deref-2.ensures.value r) c.requires.begins
    (ap (λ (q : Place). assign q (local c.at-place.result x) e) sign ∙ ap (λ (q : Place). assign (at c.args.state.now.line (8 - c.args.room + 3)) (local q x) e) p) refl

pub returns-in-Some-3 : goal.returns-in-Some-3
returns-in-Some-3 c =
    let nine : 9 - c.args.room ≡ 8 - c.args.room + 1 = omega (arith, c.requires.shallow) in
    let p : c.at-place.result ≡ at c.args.state.now.line (8 - c.args.room + 1) = c.at-place.ensures ∙ ap (λ (k : ℕ). at c.args.state.now.line k) nine in
    let es = exprs c.in-Some-3.values.items in
    let r : ReadsAt (prints (callable_tree c.args.callable.now) c.deref-3.result.now) (printing_told (callable_tree c.args.callable.now) c.deref-3.result.now c.args.state.now.line) c.args.origin c.args.bytes.now c.in-Some-3.rest.now es
    = rw c.in-Some-3.is at c.in_ok-values.ensures in
    let P : Names → Type 0 = λ ns. ReadsAt (prints (callable_tree c.args.callable.now) ns) (printing_told (callable_tree c.args.callable.now) ns c.args.state.now.line) c.args.origin c.args.bytes.now c.in-Some-3.rest.now es in
    print_line_read (around_by (callable_tree c.args.callable.now) c.args.parameters) c.args.room (reached c.args.state.now) c.args.origin c.args.bytes.now c.in-Some-3.rest.now es _ _ (subst P c.deref-3.ensures.value r) c.requires.begins
    (c.printed.ensures ∙ ap (λ (q : Place). eval q (builtin q Println es)) p) refl

pub returns-in-None : goal.returns-in-None
returns-in-None c =
    let P : Names → Type 0 = λ ns. NoneAt (declarations (callable_tree c.args.callable.now) ns) c.args.bytes.now in
    let Q : Names → Type 0 = λ ns. NoneAt (assignments (callable_tree c.args.callable.now) c.args.parameters ns) c.args.bytes.now in
    let R : Names → Type 0 = λ ns. NoneAt (prints (callable_tree c.args.callable.now) ns) c.args.bytes.now in
    let p : P c.deref.result.now = rw c.in_default.is at c.in_ok-name.ensures in
    let q : Q c.deref-2.result.now = rw c.in_default-2.is at c.in_ok-variable-2.ensures in
    let r : R c.deref-3.result.now = rw c.in-None.is at c.in_ok-values.ensures in
    record { declares = subst P c.deref.ensures.value p; assigns = subst Q c.deref-2.ensures.value q; prints_none = subst R c.deref-3.ensures.value r; same = refl }
