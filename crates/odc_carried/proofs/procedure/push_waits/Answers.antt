use Rattle.std.proofs.Common.{◌≡◌, ℕ, ◌+◌, ◌*◌, ap, arith}
use Rattle.odc_core.specs.declared.tree.Variable.{Variable}
use Rattle.odc_carried.proofs.emitting.Lists.{wait_behind}
use Rattle.odc_carried.proofs.procedure.push_waits.Goals as goal

pub loop-d-preserved : goal.loop-d-preserved
loop-d-preserved c =
    let place : c.in_ok-offset.offset ≡ c.args.low + (80 + 16 * c.loop-d.d) = omega (arith, c.in_ok-offset.ensures, c.from.ensures, c.from-in-loop-d.ensures) in
    let v : Variable = record { offset = c.in_ok-offset.offset; size = 8 } in
    wait_behind c.args.all.now.items c.loop-d.all.items c.push.new.self.items c.args.low c.loop-d.d v c.loop-d.invariant c.in_ok-push.ensures.items (ap (λ (n : ℕ). let w : Variable = record { offset = n; size = 8 } in w) place)
