use Rattle.std.proofs.Common.{sym, ap, ◌∙◌, max}
use Rattle.odc_types.proofs.MeasureLemmas.{ord_max_is}
use Rattle.odc_types.proofs.HeightLaws.{rising_begins, rising_on, rising_ends}
use Rattle.odc_types.proofs.kept.highest.Goals as goal

pub loop-t-init : goal.loop-t-init
loop-t-init c = λ table hs below. rising_begins table c.args.types.now

pub loop-t-preserved : goal.loop-t-preserved
loop-t-preserved c = λ table hs below.
    rising_on table c.args.heights.now c.args.types.now c.loop-t.t-index c.loop-t.most c.max-most.result _ hs below (c.loop-t.invariant table hs below) c.loop-t-test.true
    (c.max-most.ensures ∙ ord_max_is c.loop-t.most c.height_at.result ∙ ap (λ h. max c.loop-t.most h) c.height_at.ensures)

pub returns : goal.returns
returns c = λ table hs below. rising_ends table c.args.types.now c.loop-t.t-index c.loop-t.most (c.loop-t.invariant table hs below) c.loop-t-test.false
