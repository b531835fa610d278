use Rattle.std.proofs.Common.{sym, ◌≡◌, Some, None, Option, ℕ, IfSome, IfNone, slice_get, is_some}
use Rattle.odc_types.specs.Keys.{IsSameKey}
use Rattle.odc_types.specs.declared.key.Key.{Key}
use Rattle.odc_types.proofs.KeyTests.{position_says, none_says, equals}
use Rattle.odc_types.proofs.index.found.Goals as goal
use Rattle.std.specs.List.{position, list_any}

pub returns-clause-some : goal.returns-clause-some
returns-clause-some c = by c.get_index_of.result c.get_index_of.ensures.index
  where
    by : (r : Option ℕ) → r ≡ position (equals c.args.key.now) c.args.keys.now.keys → IfSome r (λ i. (x : Key) × (slice_get c.args.keys.now.keys i ≡ Some x) × IsSameKey x c.args.key.now)
    by None e = tt
    by (Some i) e = position_says c.args.key.now c.args.keys.now.keys i (sym e)

pub returns-clause-none : goal.returns-clause-none
returns-clause-none c = by c.get_index_of.result c.get_index_of.ensures.found
  where
    by : (r : Option ℕ) → is_some r ≡ list_any (equals c.args.key.now) c.args.keys.now.keys → IfNone r ((i : ℕ) (k : Key) → slice_get c.args.keys.now.keys i ≡ Some k → IsSameKey k c.args.key.now → ⊥)
    by None e = none_says c.args.key.now c.args.keys.now.keys (sym e)
    by (Some i) e = tt
