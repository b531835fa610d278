use Rattle.std.proofs.Common.{refl}
use Rattle.odc_core.specs.View.{program}
use Rattle.odc_mid.specs.declared.tree.MidProgram.{MidProgram}
use Rattle.odc_mid.specs.View.{program as mid_program}
use Rattle.odc_lower.proofs.Programs.{lowered_program}
use Rattle.odc_lower.proofs.Wells.{lowered_well}
use Rattle.odc_lower.proofs.Whole.{keeps_on}
use Rattle.odc_lower.proofs.lower.lower.Goals as goal

pub returns-clause-well : goal.returns-clause-well
returns-clause-well c =
    let p = c.args.p.now in
    let q : MidProgram = record {
      procedures = c.in_ok-procedures.procedures;
      addresses = c.in_ok-addresses.addresses;
      store = c.in_ok-store.store;
      store_size = p.store_size;
      main = p.main;
      paths = c.in_ok-paths.paths;
    } in
    lowered_well (program p) (mid_program q) c.requires.well
    (lowered_program p q c.deref.result.now c.deref-2.result.now c.deref-3.result.now c.deref.ensures.value c.in_ok-procedures.ensures c.in_ok-addresses.ensures.items c.deref-2.ensures.value
    c.in_ok-store.ensures.items c.deref-3.ensures.value refl refl)

pub returns-clause-kept : goal.returns-clause-kept
returns-clause-kept c =
    let p = c.args.p.now in
    let q : MidProgram = record {
      procedures = c.in_ok-procedures.procedures;
      addresses = c.in_ok-addresses.addresses;
      store = c.in_ok-store.store;
      store_size = p.store_size;
      main = p.main;
      paths = c.in_ok-paths.paths;
    } in
    let is = lowered_program p q c.deref.result.now c.deref-2.result.now c.deref-3.result.now c.deref.ensures.value c.in_ok-procedures.ensures c.in_ok-addresses.ensures.items c.deref-2.ensures.value
    c.in_ok-store.ensures.items c.deref-3.ensures.value refl refl in
    λ entries input bytes. keeps_on entries (program p) (mid_program q) input c.requires.well is bytes
