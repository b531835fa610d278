-- The instruction is the one that is fetched.
use Rattle.std.proofs.Common.{subst}
use Rattle.rv_table.specs.State.{State}
use Rattle.rv_machine.specs.Text.{IsFixedAt}
use Rattle.rv_machine.proofs.Fixed.{fixed_steps}
use Rattle.rv_machine.proofs.hart.Hart.go_on.Goals as goal

pub returns-in-Next : goal.returns-in-Next
returns-in-Next c = λ calls.
    let P : State → Type 0 = λ s. IsFixedAt s.areas s.pc c.in-Some.inst in
    fixed_steps c.args.self.now c.execute.new.self c.in-Some.inst c.execute.result (subst P c.self.view_is c.in-Some.ensures) c.execute.ensures.is c.in-Next.is calls
