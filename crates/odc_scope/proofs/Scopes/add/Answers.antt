use Rattle.std.proofs.Common.{true, false, ap, sym, ◌∙◌, reverse, nat_eq, is_some}
use Rattle.std.specs.HashMap.{get}
use Rattle.odc_scope.specs.Scopes.{item_in, first_scope}
use Rattle.odc_scope.proofs.StackLemmas.{taken_is, some_is, none_is}
use Rattle.odc_scope.proofs.Scopes.add.Goals as goal

pub returns-then-is_within-clause-taken : goal.returns-then-is_within-clause-taken
returns-then-is_within-clause-taken g c =
    let is = taken_is c.args.name (reverse c.self.inside.entries.items) (λ n. get nat_eq c.self.inside.latest n) c.self.inside.innermost c.self.invariant c.copied-hidden.result true (c.copied-hidden.ensures ∙ c.get.ensures.value) c.if-is_within.ensures in
    some_is _ (ap (λ s. is_some (item_in c.args.name (first_scope s))) (sym c.self.view_is) ∙ is)

pub returns-then-is_err-clause-taken : goal.returns-then-is_err-clause-taken
returns-then-is_err-clause-taken g c =
    let is = taken_is c.args.name (reverse c.self.inside.entries.items) (λ n. get nat_eq c.self.inside.latest n) c.self.inside.innermost c.self.invariant c.copied-hidden.result false (c.copied-hidden.ensures ∙ c.get.ensures.value) c.if-is_within.ensures in
    none_is _ (ap (λ s. is_some (item_in c.args.name (first_scope s))) (sym c.self.view_is) ∙ is)

pub returns-then-is_err-2-clause-taken : goal.returns-then-is_err-2-clause-taken
returns-then-is_err-2-clause-taken g c =
    let is = taken_is c.args.name (reverse c.self.inside.entries.items) (λ n. get nat_eq c.self.inside.latest n) c.self.inside.innermost c.self.invariant c.copied-hidden.result false (c.copied-hidden.ensures ∙ c.get.ensures.value) c.if-is_within.ensures in
    none_is _ (ap (λ s. is_some (item_in c.args.name (first_scope s))) (sym c.self.view_is) ∙ is)

pub returns-clause-taken : goal.returns-clause-taken
returns-clause-taken g c =
    let is = taken_is c.args.name (reverse c.self.inside.entries.items) (λ n. get nat_eq c.self.inside.latest n) c.self.inside.innermost c.self.invariant c.copied-hidden.result false (c.copied-hidden.ensures ∙ c.get.ensures.value) c.if-is_within.ensures in
    none_is _ (ap (λ s. is_some (item_in c.args.name (first_scope s))) (sym c.self.view_is) ∙ is)
