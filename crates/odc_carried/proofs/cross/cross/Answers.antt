use Rattle.std.proofs.Common.{◌≡◌, map, sym, subst}
use Rattle.odc_program.specs.Views.ProgramView.{program}
use Rattle.odc_core.specs.declared.tree.CoreProgram.{CoreProgram}
use Rattle.odc_core.specs.Tree.{Whole}
use Rattle.odc_core.specs.View.{proc as core_proc, program as core_program}
use Rattle.odc_core.specs.Well.{IsWell}
use Rattle.odc_carried.specs.Code.{crossed_program}
use Rattle.odc_carried.specs.Promised.{IsKept}
use Rattle.odc_carried.proofs.ProcWells.{are_well, are_kept}
use Rattle.odc_carried.proofs.emitting.Lists.{whole_is}
use Rattle.odc_carried.proofs.cross.cross.Goals as goal

pub returns-clause-exact : goal.returns-clause-exact
returns-clause-exact c =
    whole_is c.args.p.now c.deref.result.now c.deref-2.result.now (map core_proc c.in_ok-procedures.procedures.items) c.new.result.items c.new-2.result.items c.deref.ensures.value c.deref-2.ensures.value c.in_ok-procedures.ensures c.new.ensures.items c.new-2.ensures.items

pub returns-clause-well : goal.returns-clause-well
returns-clause-well c = λ can.
    let p = c.args.p.now in
    let q : CoreProgram = record { procedures = c.in_ok-procedures.procedures; addresses = c.new.result; store = c.new-2.result; store_size = 0; main = p.main; paths = c.in_ok-paths.paths } in
    let is : core_program q ≡ crossed_program (program p) =
    whole_is p c.deref.result.now c.deref-2.result.now (map core_proc c.in_ok-procedures.procedures.items) c.new.result.items c.new-2.result.items c.deref.ensures.value c.deref-2.ensures.value c.in_ok-procedures.ensures c.new.ensures.items c.new-2.ensures.items in
    subst (λ (w : Whole). IsWell w) (sym is) (are_well (program p) can)

pub returns-clause-kept : goal.returns-clause-kept
returns-clause-kept c = λ can.
    let p = c.args.p.now in
    let q : CoreProgram = record { procedures = c.in_ok-procedures.procedures; addresses = c.new.result; store = c.new-2.result; store_size = 0; main = p.main; paths = c.in_ok-paths.paths } in
    let is : core_program q ≡ crossed_program (program p) =
    whole_is p c.deref.result.now c.deref-2.result.now (map core_proc c.in_ok-procedures.procedures.items) c.new.result.items c.new-2.result.items c.deref.ensures.value c.deref-2.ensures.value c.in_ok-procedures.ensures c.new.ensures.items c.new-2.ensures.items in
    subst (λ (w : Whole). IsKept (program p) w) (sym is) (are_kept (program p) can)
