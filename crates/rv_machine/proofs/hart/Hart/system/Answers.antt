-- The number of the service is in register 17.
use Rattle.std.proofs.Common.{◌∙◌, sym}
use Rattle.rv_table.specs.Run.{read_called, write_called, system_called}
use Rattle.rv_machine.specs.Outside.{told}
use Rattle.rv_machine.proofs.Services.{turned_as, calls_read, calls_write}
use Rattle.rv_machine.proofs.hart.Hart.system.Goals as goal

pub returns-in-63-clause-is : goal.returns-in-63-clause-is
returns-in-63-clause-is g c =
    turned_as read_called system_called c.read_call.result c.args.self.now c.read_call.new.self c.args.ended.now c.read_call.new.ended
    (told (g.S.Source.rest c.args.input.now) (g.O.Sink.written c.args.out.now) (g.E.Sink.written c.args.err.now)) (told (g.S.Source.rest c.read_call.new.input) (g.O.Sink.written c.args.out.now) (g.E.Sink.written c.args.err.now))
    (calls_read c.args.self.now (sym c.read.ensures ∙ c.in-63.is)) (c.read_call.ensures.is (g.O.Sink.written c.args.out.now) (g.E.Sink.written c.args.err.now))

pub returns-in-64-clause-is : goal.returns-in-64-clause-is
returns-in-64-clause-is g c =
    turned_as write_called system_called c.write_call.result c.args.self.now c.write_call.new.self c.args.ended.now c.args.ended.now
    (told (g.S.Source.rest c.args.input.now) (g.O.Sink.written c.args.out.now) (g.E.Sink.written c.args.err.now)) (told (g.S.Source.rest c.args.input.now) (g.O.Sink.written c.write_call.new.out) (g.E.Sink.written c.write_call.new.err))
    (calls_write c.args.self.now (sym c.read.ensures ∙ c.in-64.is)) (c.write_call.ensures.is (g.S.Source.rest c.args.input.now) c.args.ended.now)
