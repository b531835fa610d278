use Rattle.std.proofs.Common.{◌≡◌, ◌≤◌, ◌+◌, ◌∙◌, refl, sym, ap, arith, subst, Some, None, slice_get}
use Rattle.odc_types.specs.Nodes.{nodes}
use Rattle.odc_types.specs.Measured.{waiters_at, IsSpreading}
use Rattle.odc_types.proofs.SpreadLaws.{IsWaking, waking_begins, waking_on, waking_past, told_count, told_on}
use Rattle.odc_types.proofs.kept.Kept.wake.Goals as goal
use Rattle.odc_types.proofs.kept.Kept.wake.Goals.{in-Some+in_ok-attempt, in_default}

pub returns-in_err-attempt-clause-count : goal.returns-in_err-attempt-clause-count
returns-in_err-attempt-clause-count c = told_count c.loop-at.self.extents.items c.attempt.new.self.extents.items c.loop-at.self.fresh.items c.attempt.new.self.fresh.items c.in-Some.waiter.ty c.attempt.ensures.told ∙ c.loop-at.invariant.1.count

pub returns-in_err-attempt-clause-told : goal.returns-in_err-attempt-clause-told
returns-in_err-attempt-clause-told c = λ begun a.
    told_on begun c.loop-at.self.extents.items c.attempt.new.self.extents.items c.loop-at.self.fresh.items c.attempt.new.self.fresh.items c.in-Some.waiter.ty c.attempt.ensures.told (c.loop-at.invariant.1.told begun a)

pub loop-at-init : goal.loop-at-init
loop-at-init c = (refl, waking_begins (nodes c.args.types.now) c.args.self.now.extents.items c.args.self.now.waiters.items c.args.self.now.fresh.items c.args.part.index c.args.from c.requires.sound)

pub loop-at-preserved : goal.loop-at-preserved
loop-at-preserved c =
    let types = nodes c.args.types.now in
    let old = c.args.self.now in
    let mid = c.loop-at.self in
    let k = c.args.part.index in
    let seen = c.waiter_at.ensures ∙ ap (λ ws. slice_get (waiters_at ws k) c.loop-at.at) c.as_slice.ensures.value in
    elim c.match-waiter_at.branch [
      | in-Some+in_ok-attempt w ↦ (
          let new = w.attempt.new.self in
          let on = waking_on types old.extents.items mid.extents.items new.extents.items old.waiters.items mid.waiters.items new.waiters.items old.fresh.items mid.fresh.items new.fresh.items k c.args.from c.loop-at.at w.in-Some.waiter c.loop-at.invariant.1
          (sym seen ∙ w.in-Some.is) w.attempt.ensures.told w.attempt.ensures.sound w.attempt.ensures.len w.attempt.ensures.longer w.in_ok-attempt.ensures.ok in
          subst (λ s. (s.heights ≡ old.heights) × IsWaking types old.extents.items s.extents.items old.waiters.items s.waiters.items old.fresh.items s.fresh.items k c.args.from (c.loop-at.at + 1)) (sym w.self-is)
          (w.attempt.ensures.heights ∙ c.loop-at.invariant.0, on))
      | in_default w ↦ (
          let on = waking_past types old.extents.items mid.extents.items old.waiters.items mid.waiters.items old.fresh.items mid.fresh.items k c.args.from c.loop-at.at c.loop-at.invariant.1 (sym seen ∙ w.in_default.is) in
          subst (λ s. (s.heights ≡ old.heights) × IsWaking types old.extents.items s.extents.items old.waiters.items s.waiters.items old.fresh.items s.fresh.items k c.args.from (c.loop-at.at + 1)) (sym w.self-is)
          (c.loop-at.invariant.0, on))
    ]

pub returns-clause-ok : goal.returns-clause-ok
returns-clause-ok c = λ begun done last s.
    let past = c.loop-at-test.false in
    let most : c.loop-at.at ≤ c.args.to = c.loop-at.auto.at-end c.requires.order in
    let same : c.loop-at.at ≡ c.args.to = omega arith in
    subst (λ at. IsSpreading (nodes c.args.types.now) begun c.loop-at.self.extents.items c.loop-at.self.waiters.items c.loop-at.self.fresh.items done c.args.part.index at last) same (c.loop-at.invariant.1.spreads begun done last s)
