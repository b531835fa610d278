-- Programs as they stand in Rust.
use Rattle.std.proofs.Common.{◌≡◌, ℕ, List, map, ap, ◌∙◌}
use Rattle.odc_core.specs.declared.tree.CoreProcedure.{CoreProcedure}
use Rattle.odc_core.specs.declared.tree.CoreProgram.{CoreProgram}
use Rattle.odc_core.specs.View.{proc, program}
use Rattle.odc_mid.specs.declared.tree.MidProgram.{MidProgram}
use Rattle.odc_mid.specs.View.{proc as mid_proc, program as mid_program}
use Rattle.odc_lower.specs.Plain.{plain_proc}
use Rattle.odc_lower.specs.Lowered.{lowered, IsLowered}

pub lowered_program : (p : CoreProgram) (q : MidProgram) (ps : List CoreProcedure) (addresses store : List ℕ) → ps ≡ p.procedures.items →
    map plain_proc (map mid_proc q.procedures.items) ≡ map lowered (map proc ps) → q.addresses.items ≡ addresses → addresses ≡ p.addresses.items → q.store.items ≡ store → store ≡ p.store.items →
    q.store_size ≡ p.store_size → q.main ≡ p.main → IsLowered (program p) (mid_program q)
lowered_program p q ps addresses store same procedures a1 a2 s1 s2 size main = record {
  procedures = procedures ∙ ap (λ (xs : List CoreProcedure). map lowered (map proc xs)) same;
  addresses = a1 ∙ a2;
  store = s1 ∙ s2;
  store_size = size;
  main = main;
}
