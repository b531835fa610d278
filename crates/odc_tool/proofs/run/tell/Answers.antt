use Rattle.std.proofs.Common.{◌∙◌, inl, inr, subst}
use Rattle.odc_io.specs.Streams.{GrewByFront}
use Rattle.odc_tool.specs.declared.run.Failure.TheVariants.{Write, NoMemory}
use Rattle.odc_tool.specs.Status.{line_of}
use Rattle.odc_tool.proofs.TellingLemmas.{tells_front, no_front, rose_on}
use Rattle.odc_tool.proofs.run.tell.Goals as goal

pub returns-in_default-clause-line : goal.returns-in_default-clause-line
returns-in_default-clause-line g c =
    let text = line_of c.args.status c.args.path.now c.args.word.now in
    inr (tells_front text NoMemory c.fail.result _ _ _ c.fail.ensures.status (no_front _ text) c.fail.ensures.line)

pub returns-clause-line : goal.returns-clause-line
returns-clause-line g c =
    let text = line_of c.args.status c.args.path.now c.args.word.now in
    let spelled = c.deref.ensures.value ∙ c.in-Ok.ensures in
    let front = subst (λ bytes. GrewByFront (g.E.Sink.written c.args.err.now) (g.E.Sink.written c.write_all.new.sink) bytes) spelled c.in-Err.ensures.err in
    inr (tells_front text Write c.fail-in-Err.result _ _ _ c.fail-in-Err.ensures.status front c.fail-in-Err.ensures.line)

pub returns-in_default-clause-cause : goal.returns-in_default-clause-cause
returns-in_default-clause-cause g c = inr (inr c.fail.ensures.status)

pub returns-clause-cause : goal.returns-clause-cause
returns-clause-cause g c = inr (inl (c.fail-in-Err.ensures.status, rose_on _ _ _ c.in-Err.ensures.cause c.fail-in-Err.ensures.counted))
