use Rattle.std.proofs.Common.{ap, ◌∙◌, arith}
use Rattle.odc_program.specs.declared.tree.Rights.{Rights}
use Rattle.odc_program.specs.Views.StmtView.{rights}
use Rattle.odc_carried.specs.Single.{only}
use Rattle.odc_carried.proofs.emitting.Forms.{only_none}
use Rattle.odc_carried.proofs.single.only.Goals as goal

pub returns-in-len2-up-clause-none : goal.returns-in-len2-up-clause-none
returns-in-len2-up-clause-none c =
    ap (λ (vs : Rights). only (rights vs)) c.in-Each.is ∙ only_none c.in-Each.es.items (λ e. omega (arith, c.in-len2-up.len_at_least, c.as_slice.ensures.len, e))
