use Rattle.std.proofs.Common.{◌≡◌, ℕ, sym, ap, ◌∙◌, subst, IfErr, List}
use Rattle.odc_types.specs.declared.measure.Missing.{Missing}
use Rattle.odc_types.specs.declared.waiter.Waiters.{Waiters}
use Rattle.odc_types.specs.Measured.{IsEntered, Waits, AreLonger}
use Rattle.odc_types.proofs.MeasureLemmas.{err_as}
use Rattle.odc_types.proofs.SpreadLaws.{entered, longer_on, longer_end}
use Rattle.odc_types.proofs.kept.Kept.push.Goals as goal

pub returns-clause-waits : goal.returns-clause-waits
returns-clause-waits c =
    let ws = c.list.new.self.waiters.items in
    err_as c.args.found (λ (m : Missing). IsEntered ws c.in_ok-list.list.items m.part.index c.args.t.index) _
    (λ m h. subst (λ l. Waits l m.part.index c.args.t.index) (sym c.in_default-push.ensures.items) (entered ws (record { list = c.in_ok-list.list }) m.part.index c.args.t.index h (c.requires.number ∙ sym c.list.ensures.len)))
    c.in_ok-list.ensures.ok

pub returns-clause-longer : goal.returns-clause-longer
returns-clause-longer c =
    subst (λ l. AreLonger c.args.self.now.waiters.items l) (sym c.in_default-push.ensures.items)
    (longer_on c.args.self.now.waiters.items c.list.new.self.waiters.items _ c.list.ensures.longer (longer_end c.list.new.self.waiters.items (record { list = c.in_ok-list.list })))
