-- The bytes of the buffer that the registers name.
use Rattle.std.proofs.Common.{◌≡◌, false, eqb, arith}
use Rattle.std.proofs.lemmas.Bool.Decides.{nat_tests}
use Rattle.rv_table.specs.State.{State}
use Rattle.rv_machine.proofs.Services.{bytes_at}
use Rattle.rv_machine.proofs.hart.Hart.write_output.Goals as goal

pub returns-in-Ok-clause-is : goal.returns-in-Ok-clause-is
returns-in-Ok-clause-is g c =
    let inner : State = record { registers = c.self.inside.registers; pc = c.self.inside.pc; areas = c.self.inside.memory } in
    let some : eqb c.read-size.result 0 ≡ false = grind (arith, nat_tests) in
    record {
      bytes = c.in-Some.bytes.now;
      are = bytes_at c.args.self.now inner c.self.view_is c.read-address.result c.read-size.result c.in-Some.bytes.now c.read-address.ensures c.read-size.ensures some c.in-Some.ensures;
      state = c.answer-in-Ok.ensures;
      grew = c.in-Ok.ensures.ok;
    }
