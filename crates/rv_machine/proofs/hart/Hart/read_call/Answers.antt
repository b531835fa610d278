-- Descriptor 0 is the input, another is refused.
use Rattle.std.proofs.Common.{◌≡◌, ◌∙◌, sym, false, eqb, arith}
use Rattle.std.proofs.lemmas.Bool.Decides.{nat_tests}
use Rattle.rv_table.specs.State.{register}
use Rattle.rv_table.specs.Run.{reading, read_called}
use Rattle.rv_machine.specs.Outside.{told}
use Rattle.rv_machine.proofs.Services.{turned_as, reads_0, reads_other, refused_went}
use Rattle.rv_machine.proofs.hart.Hart.read_call.Goals as goal

pub returns-then-read-eq0-clause-is : goal.returns-then-read-eq0-clause-is
returns-then-read-eq0-clause-is g c = λ o e.
    turned_as reading read_called c.read_input.result c.args.self.now c.read_input.new.self c.args.ended.now c.read_input.new.ended
    (told (g.S.Source.rest c.args.input.now) o e) (told (g.S.Source.rest c.read_input.new.input) o e) (reads_0 c.args.self.now (sym c.read.ensures ∙ c.if-read-eq0.true)) (c.read_input.ensures.is o e)

pub returns-clause-is : goal.returns-clause-is
returns-clause-is g c = λ o e.
    let is : c.read.result ≡ register c.args.self.now 10 = c.read.ensures in
    let other : eqb (register c.args.self.now 10) 0 ≡ false = grind (arith, nat_tests) in
    refused_went read_called c.args.self.now c.refuse.new.self c.args.ended.now (told (g.S.Source.rest c.args.input.now) o e) (reads_other c.args.self.now other) c.refuse.ensures
