use Rattle.std.proofs.Common.{refl, inl, inr}
use Rattle.odc_tool.specs.declared.status.Status.TheVariants.{BadImage}
use Rattle.odc_tool.specs.Loading.{bytes_causes}
use Rattle.odc_tool.proofs.Answering.{told_cause, nothing}
use Rattle.odc_tool.proofs.Asking.{bytes_refused, bytes_run, bytes_cause}
use Rattle.odc_tool.proofs.run.run_bytes.Goals as goal

pub returns-in-Err-clause-run : goal.returns-in-Err-clause-run
returns-in-Err-clause-run g c = bytes_refused c.args.bytes.now c.args.steps c.in-Err.broken c.tell_broken.result _ _ c.in-Err.ensures.exact c.tell_broken.ensures.line refl refl

pub returns-in-Err-clause-cause : goal.returns-in-Err-clause-cause
returns-in-Err-clause-cause g c =
    told_cause (bytes_causes c.args.bytes.now _ _) c.args.steps _ (BadImage c.in-Err.broken.rule c.in-Err.broken.offset) c.tell_broken.result c.in-Err.ensures.exact c.tell_broken.ensures.cause (λ rose. inr rose)
