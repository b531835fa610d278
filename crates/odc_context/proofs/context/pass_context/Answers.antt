use Rattle.std.proofs.Common.{refl}
use Rattle.odc_core.specs.declared.tree.CoreProgram.{CoreProgram}
use Rattle.odc_core.specs.View.{program as core_program}
use Rattle.odc_context.proofs.Programs.{crossed_view, well_is, kept_is}
use Rattle.odc_context.proofs.context.pass_context.Goals as goal

pub returns-clause-well : goal.returns-clause-well
returns-clause-well c =
    let p = c.args.p.now in
    let q : CoreProgram = record {
      procedures = c.in_ok-procedures.procedures;
      addresses = c.new.result;
      store = c.new-2.result;
      store_size = 0;
      main = p.main;
      paths = c.in_ok-paths.paths;
    } in
    let is = crossed_view p q c.deref.result.now c.deref.ensures.value c.in_ok-procedures.ensures c.new.ensures.items c.new-2.ensures.items refl refl in
    well_is p (core_program q) is c.requires.well c.requires.frames

pub returns-clause-kept : goal.returns-clause-kept
returns-clause-kept c =
    let p = c.args.p.now in
    let q : CoreProgram = record {
      procedures = c.in_ok-procedures.procedures;
      addresses = c.new.result;
      store = c.new-2.result;
      store_size = 0;
      main = p.main;
      paths = c.in_ok-paths.paths;
    } in
    let is = crossed_view p q c.deref.result.now c.deref.ensures.value c.in_ok-procedures.ensures c.new.ensures.items c.new-2.ensures.items refl refl in
    kept_is p (core_program q) is c.requires.well
