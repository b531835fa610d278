use Rattle.std.proofs.Common.{◌≡◌, Some, ap, sym, ◌∙◌, reverse, get_or, arith}
use Rattle.std.proofs.lemmas.List.{reverse-reverse, length-reverse}
use Rattle.odc_scope.specs.Scopes.{innermost_item}
use Rattle.odc_scope.specs.Stack.{newest}
use Rattle.odc_scope.proofs.StackLemmas.{found, missing, newest_within}
use Rattle.odc_scope.proofs.Scopes.find.Goals as goal

-- src/lib.rt:127:32
pub index-requires : goal.index-requires
index-requires g c =
    let at : newest c.args.name (reverse c.self.inside.entries.items) ≡ Some c.in-Some.at.now = sym (c.self.invariant.tracked c.args.name) ∙ sym c.in-Some.ensures.value in
    let within = newest_within c.args.name (reverse c.self.inside.entries.items) c.in-Some.at.now at in
    omega (arith, length-reverse c.self.inside.entries.items)

-- src/lib.rt:129:42
pub unreachable-requires : goal.unreachable-requires
unreachable-requires g c =
    let at : newest c.args.name (reverse c.self.inside.entries.items) ≡ Some c.in-Some.at.now = sym (c.self.invariant.tracked c.args.name) ∙ sym c.in-Some.ensures.value in
    let f = found c.args.name (reverse c.self.inside.entries.items) c.self.invariant.linked c.in-Some.at.now at in
    let same = reverse-reverse c.self.inside.entries.items in
    let stands = sym c.in-Opening.is ∙ c.index.ensures ∙ ap (λ l. get_or l c.in-Some.at.now c.index.result.now) (sym same) ∙ f.stands c.index.result.now in
    cc

-- src/lib.rt:123:5
pub returns-in-Binding : goal.returns-in-Binding
returns-in-Binding g c =
    let at : newest c.args.name (reverse c.self.inside.entries.items) ≡ Some c.in-Some.at.now = sym (c.self.invariant.tracked c.args.name) ∙ sym c.in-Some.ensures.value in
    let f = found c.args.name (reverse c.self.inside.entries.items) c.self.invariant.linked c.in-Some.at.now at in
    let same = reverse-reverse c.self.inside.entries.items in
    let stands = sym c.in-Binding.is ∙ c.index.ensures ∙ ap (λ l. get_or l c.in-Some.at.now c.index.result.now) (sym same) ∙ f.stands c.index.result.now in
    let item : c.in-Binding.item ≡ f.item = cc in
    ap Some item ∙ sym f.seen ∙ ap (λ s. innermost_item c.args.name s) c.self.view_is

-- src/lib.rt:123:5
pub returns-in-None : goal.returns-in-None
returns-in-None g c =
    sym (missing c.args.name (reverse c.self.inside.entries.items) (sym (c.self.invariant.tracked c.args.name) ∙ sym c.in-None.ensures.value))
    ∙ ap (λ s. innermost_item c.args.name s) c.self.view_is
