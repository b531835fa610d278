use Rattle.std.proofs.Common.{◌≡◌, ℕ, Option, Some, None, IfSome, IfNone, slice_get, subst}
use Rattle.odc_types.specs.declared.key.Key.{Key}
use Rattle.odc_types.specs.Nodes.{Node}
use Rattle.odc_types.specs.Keys.{IsKeyOf, IsSameKey}
use Rattle.odc_types.specs.Interned.{IsInterned, IsFresh, IsAt}
use Rattle.odc_types.proofs.InternedLaws.{some_key, no_key}
use Rattle.odc_types.proofs.table.TypeTable.find.Goals as goal

pub returns-clause-some : goal.returns-clause-some
returns-clause-some c =
    let keys = c.self.inside.keys.keys in
    let table : IsInterned keys c.args.self.now = subst (IsInterned keys) c.self.view_is c.self.invariant.interned in
    by c.found.result c.found.ensures.some table
  where
    by : (r : Option ℕ) → IfSome r (λ i. (k : Key) × (slice_get c.self.inside.keys.keys i ≡ Some k) × IsSameKey k c.args.key.now) → IsInterned c.self.inside.keys.keys c.args.self.now → IfSome r (λ i. (n : Node) → IsKeyOf c.args.key.now n → IsAt c.args.self.now i n)
    by None h table = tt
    by (Some i) h table = λ n is. some_key c.self.inside.keys.keys c.args.self.now c.args.key.now i h.0 table h.1 h.2 n is

pub returns-clause-none : goal.returns-clause-none
returns-clause-none c =
    let keys = c.self.inside.keys.keys in
    let table : IsInterned keys c.args.self.now = subst (IsInterned keys) c.self.view_is c.self.invariant.interned in
    by c.found.result c.found.ensures.none table
  where
    by : (r : Option ℕ) → IfNone r ((i : ℕ) (k : Key) → slice_get c.self.inside.keys.keys i ≡ Some k → IsSameKey k c.args.key.now → ⊥) → IsInterned c.self.inside.keys.keys c.args.self.now → IfNone r ((n : Node) → IsKeyOf c.args.key.now n → IsFresh c.args.self.now n)
    by None h table = λ n is. no_key c.self.inside.keys.keys c.args.self.now c.args.key.now table h n is
    by (Some i) h table = tt
