use Rattle.std.proofs.Common.{◌≡◌, ℕ, refl, sym, ap, ◌∙◌, subst, Result, Err, IfErr, List, Vec, Global}
use Rattle.std.proofs.lemmas.Bool.Decides.{Decides-eqb}
use Rattle.odc_types.specs.declared.extent.Extent.{Extent}
use Rattle.odc_types.specs.declared.measure.Missing.{Missing}
use Rattle.odc_types.specs.declared.waiter.Waiter.{Waiter}
use Rattle.odc_types.specs.declared.waiter.Waiters.{Waiters}
use Rattle.odc_types.specs.Measured.{IsEntered, in_own}
use Rattle.odc_types.proofs.kept.Kept.list.Goals as goal

pub returns-then-eq-clause-ok : goal.returns-then-eq-clause-ok
returns-then-eq-clause-ok c =
    let same : c.in-Err.missing.part.index ≡ c.args.t.index = (Decides-eqb c.in-Err.missing.part.index c.args.t.index).0 (sym c.eq.ensures ∙ c.if-eq.true) in
    subst (λ r. IfErr r (λ (m : Missing). IsEntered c.args.self.now.waiters.items c.in_ok-vec.field-0.items m.part.index c.args.t.index)) (sym c.in-Err.is)
    (in_own _ same c.in_ok-vec.ensures.items refl)
