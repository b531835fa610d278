use Rattle.std.proofs.Common.{ap, arith}
use Rattle.odc_core.specs.View.{stmts}
use Rattle.odc_lower.specs.Size.{stmts_nodes}
use Rattle.odc_lower.proofs.Sizes.{stmts_room_small}
use Rattle.odc_lower.proofs.procedure.lower_procedure.Goals as goal

pub overflow_add-temporaries : goal.overflow_add-temporaries
overflow_add-temporaries c =
    let small = stmts_room_small (stmts c.deref-2.result.now) in
    let same = ap (λ (xs : _). stmts_nodes (stmts xs)) c.deref-2.ensures.value in
    omega (arith, small, same, c.needs_of_all.ensures, c.max.ensures, c.requires.0, c.requires.1)
