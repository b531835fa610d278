use Rattle.std.proofs.Common.{ℕ, ap, ◌∙◌, sym}
use Rattle.odc_core.specs.View.{stmts}
use Rattle.odc_carried.specs.Code.{join, begin_code}
use Rattle.odc_carried.specs.View.{shown}
use Rattle.odc_carried.proofs.emitting.Joins.{join_done}
use Rattle.odc_carried.proofs.procedure.push_begin.Goals as goal

pub returns-then-o-eq0 : goal.returns-then-o-eq0
returns-then-o-eq0 c =
    let old = stmts c.args.code.now.items in
    sym (ap (λ (n : ℕ). join old (begin_code (shown c.args.o.now) n)) c.if-o-eq0.true ∙ join_done old)
