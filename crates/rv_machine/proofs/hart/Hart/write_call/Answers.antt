-- Descriptors 1 and 2 are the outputs, another is refused.
use Rattle.std.proofs.Common.{◌≡◌, Option, false, eqb, ◌∙◌, sym, subst, arith}
use Rattle.std.proofs.lemmas.Bool.Decides.{nat_tests}
use Rattle.rv_table.specs.State.{register}
use Rattle.rv_table.specs.Run.{write_called}
use Rattle.rv_machine.specs.Outside.{told}
use Rattle.rv_machine.specs.Turns.{Turned}
use Rattle.rv_machine.specs.declared.stop.Stop.{Stop}
use Rattle.rv_machine.proofs.Services.{wrote_out, wrote_err, writes_1, writes_2, writes_other, refused_went}
use Rattle.rv_machine.proofs.hart.Hart.write_call.Goals as goal

pub returns-in-1-clause-is : goal.returns-in-1-clause-is
returns-in-1-clause-is g c = λ s ended.
    let t = told s (g.O.Sink.written c.args.out.now) (g.E.Sink.written c.args.err.now) in
    let t' = told s (g.O.Sink.written c.write_output-done.new.sink) (g.E.Sink.written c.args.err.now) in
    let P : Option Stop → Type 0 = λ r. Turned write_called r c.args.self.now c.write_output-done.new.self ended ended t t' in
    subst P (sym c.after_write.ensures) (wrote_out write_called c.args.self.now c.write_output-done.new.self ended s (g.O.Sink.written c.args.out.now) (g.O.Sink.written c.write_output-done.new.sink) (g.E.Sink.written c.args.err.now)
    c.write_output-done.result (writes_1 c.args.self.now (sym c.read.ensures ∙ c.in-1.is)) c.write_output-done.ensures.is)

pub returns-in-2-clause-is : goal.returns-in-2-clause-is
returns-in-2-clause-is g c = λ s ended.
    let t = told s (g.O.Sink.written c.args.out.now) (g.E.Sink.written c.args.err.now) in
    let t' = told s (g.O.Sink.written c.args.out.now) (g.E.Sink.written c.write_output-done-in-2.new.sink) in
    let P : Option Stop → Type 0 = λ r. Turned write_called r c.args.self.now c.write_output-done-in-2.new.self ended ended t t' in
    subst P (sym c.after_write-in-2.ensures) (wrote_err write_called c.args.self.now c.write_output-done-in-2.new.self ended s (g.O.Sink.written c.args.out.now) (g.E.Sink.written c.args.err.now) (g.E.Sink.written c.write_output-done-in-2.new.sink)
    c.write_output-done-in-2.result (writes_2 c.args.self.now (sym c.read.ensures ∙ c.in-2.is)) c.write_output-done-in-2.ensures.is)

pub returns-in_default-clause-is : goal.returns-in_default-clause-is
returns-in_default-clause-is g c = λ s ended.
    let is : c.read.result ≡ register c.args.self.now 10 = c.read.ensures in
    let not_1 : eqb (register c.args.self.now 10) 1 ≡ false = grind (arith, nat_tests) in
    let not_2 : eqb (register c.args.self.now 10) 2 ≡ false = grind (arith, nat_tests) in
    refused_went write_called c.args.self.now c.refuse.new.self ended (told s (g.O.Sink.written c.args.out.now) (g.E.Sink.written c.args.err.now)) (writes_other c.args.self.now not_1 not_2) c.refuse.ensures
