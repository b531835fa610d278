use Rattle.std.proofs.Common.{◌≡◌, ◌≤◌, ◌∙◌, sym, ap, arith, List, Option, Some, None, Result, Ok, Err, OnOk, true, is_some}
use Rattle.odc_types.specs.declared.extent.Extent.{Extent}
use Rattle.odc_types.specs.Nodes.{nodes}
use Rattle.odc_types.specs.Clipped.{kept_at}
use Rattle.odc_types.proofs.SpreadLaws.{spread_left, spread_found, on_ok}
use Rattle.odc_types.proofs.kept.Kept.wake_others.Goals as goal

has_one : (o : Option Extent) → true ≡ is_some o → o ≡ None → ⊥
has_one None e n = cc
has_one (Some x) e n = cc

pub returns-then-is_some-clause-ok : goal.returns-then-is_some-clause-ok
returns-then-is_some-clause-ok c = λ begun had s.
    spread_found (nodes c.args.types.now) begun c.args.self.now.extents.items c.args.self.now.waiters.items c.args.self.now.fresh.items c.args.part.index c.args.from c.args.to had
    (λ none. has_one c.kept.result c.if-is_some.ensures (c.kept.ensures ∙ ap (λ es. kept_at es c.args.part.index) c.as_slice.ensures.value ∙ none)) s

pub returns-clause-ok : goal.returns-clause-ok
returns-clause-ok c =
    on_ok c.wake.result _ _
    (λ woken begun had s. spread_left (nodes c.args.types.now) begun c.wake.new.self.extents.items c.wake.new.self.waiters.items c.wake.new.self.fresh.items 0 c.args.part.index c.args.to c.args.to (omega arith) (woken begun 0 c.args.to s))
    c.wake.ensures.ok
