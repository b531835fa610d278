-- The definition's read, on the memory that the hart holds.
use Rattle.std.proofs.Common.{◌≡◌, ℕ, Option, Ok, false, eqb, subst, arith}
use Rattle.std.proofs.lemmas.Bool.Decides.{nat_tests}
use Rattle.rv_table.specs.State.{State}
use Rattle.rv_machine.specs.Outside.{told}
use Rattle.rv_machine.specs.Turns.{Fetched}
use Rattle.rv_machine.proofs.Services.{read_nothing, all_fetched, part_fetched}
use Rattle.rv_machine.proofs.hart.Hart.read_input.Goals as goal

pub returns-then-size-eq0-clause-is : goal.returns-then-size-eq0-clause-is
returns-then-size-eq0-clause-is g c = λ o e.
    read_nothing c.args.self.now c.answer.new.self c.read-size.result c.args.ended.now (told (g.S.Source.rest c.args.input.now) o e) c.read-size.ensures c.if-size-eq0.true c.answer.ensures

pub returns-in-Ok-Some-clause-is : goal.returns-in-Ok-Some-clause-is
returns-in-Ok-Some-clause-is g c = λ o e.
    let inner : State = record { registers = c.self.inside.registers; pc = c.self.inside.pc; areas = c.self.inside.memory } in
    let some : eqb c.read-size.result 0 ≡ false = grind (arith, nat_tests) in
    let F : Option ℕ → Type 0 = λ n. Fetched c.read-address.result c.read-size.result c.self.inside.memory c.read_from.new.self (g.S.Source.rest c.args.input.now) (g.S.Source.rest c.read_from.new.input) c.args.ended.now c.read_from.new.ended (Ok n) in
    all_fetched c.args.self.now inner c.answer-in-Ok-Some.new.self c.self.view_is c.read-address.result c.read-size.result c.read-address.ensures c.read-size.ensures some
    c.read_from.new.self (g.S.Source.rest c.args.input.now) (g.S.Source.rest c.read_from.new.input) c.args.ended.now c.read_from.new.ended c.in-Ok-Some.count (subst F c.in-Ok-Some.field-0-is c.in-Ok-Some.ensures.is) c.answer-in-Ok-Some.ensures o e

pub returns-in-Err-clause-is : goal.returns-in-Err-clause-is
returns-in-Err-clause-is g c = λ o e.
    let inner : State = record { registers = c.self.inside.registers; pc = c.self.inside.pc; areas = c.self.inside.memory } in
    let some : eqb c.read-size.result 0 ≡ false = grind (arith, nat_tests) in
    part_fetched c.args.self.now inner c.self.view_is c.read-address.result c.read-size.result c.read-address.ensures c.read-size.ensures some
    (g.S.Source.rest c.args.input.now) (g.S.Source.rest c.read_from.new.input) c.args.ended.now c.read_from.new.ended c.in-Err.ensures.is o e
