use Rattle.std.proofs.Common.{◌≡◌, ℕ, None, Contains, IfErr, sym, subst}
use Rattle.odc_types.specs.declared.measure.Missing.{Missing}
use Rattle.odc_types.specs.Nodes.{nodes, soa}
use Rattle.odc_types.specs.Clipped.{kept_at}
use Rattle.odc_types.specs.Measured.{IsBlocked, types_of}
use Rattle.odc_types.proofs.MeasureLemmas.{err_as}
use Rattle.odc_types.proofs.BlockedLaws.{blocked_fieldless, column_blocked}
use Rattle.odc_types.proofs.measure.container_extent.Goals as goal

pub returns-in-Fixed-clause-err : goal.returns-in-Fixed-clause-err
returns-in-Fixed-clause-err c =
    let types = nodes c.args.types.now in
    let extents = c.args.extents.now in
    subst (λ form. IfErr c.columns.result (λ m. (t : ℕ) → IsBlocked types extents t (soa form c.args.of) m.part.index)) (sym c.in-Fixed.is)
    (err_as c.columns.result (λ (m : Missing). Contains (types_of c.in-Ok.fields.now) m.part × (kept_at extents m.part.index ≡ None)) _
    (λ m h t. column_blocked types extents t c.in-Fixed.count c.args.of m.part c.in-Ok.fields.now c.in-Ok.ensures.ok h.0 h.1) c.columns.ensures.err)

pub returns-in-Err-clause-err : goal.returns-in-Err-clause-err
returns-in-Err-clause-err c = λ t. blocked_fieldless (nodes c.args.types.now) c.args.extents.now t c.in-Err.missing.part.index c.args.form c.args.of c.in-Err.ensures.err
