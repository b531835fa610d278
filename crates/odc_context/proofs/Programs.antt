-- Programs as they stand in Rust.
use Rattle.std.proofs.Common.{◌≡◌, ℕ, zero, suc, ◌^◌, ◌<◌, ◌≤◌, List, [], ◌∷◌, map, length, get_or, ap, ◌∙◌, sym, subst, arith}
use Rattle.odc_typed.specs.declared.tree.Procedure.{Procedure}
use Rattle.odc_typed.specs.declared.tree.Program.{Program}
use Rattle.odc_typed.specs.Frame.{frame, FramesFit}
use Rattle.odc_typed.specs.View.{proc, program}
use Rattle.odc_typed.specs.Well.{IsWell}
use Rattle.odc_core.specs.declared.tree.CoreProgram.{CoreProgram}
use Rattle.odc_core.specs.View.{proc as core_proc, program as core_program}
use Rattle.odc_core.specs.Tree.{Proc as CoreProc, Whole as CoreWhole}
use Rattle.odc_core.specs.Well.{IsWell as IsWellCore}
use Rattle.odc_context.specs.Code.{crossed, crossed_program}
use Rattle.odc_context.specs.Kept.{IsKept}
use Rattle.odc_context.proofs.Wells.{crossed_well}
use Rattle.odc_context.proofs.Whole.{keeps}

pub frame_at : (ps : List Procedure) (i : ℕ) (p : Procedure) → FramesFit (map proc ps) → i < length ps → p ≡ get_or ps i p → frame (proc p) ≤ 2 ^ 24
frame_at [] i p h inside e = absurd (omega arith)
frame_at (q ∷ ps) zero p h inside e = subst (λ (x : Procedure). frame (proc x) ≤ 2 ^ 24) (sym e) h.0
frame_at (q ∷ ps) (suc i) p h inside e = frame_at ps i p h.1 (omega arith) e

-- a program with these procedures and such a store
abbrev with_procedures : List CoreProc → ℕ → List ℕ → List ℕ → ℕ → CoreWhole
with_procedures ps main addresses store size = record { procedures = ps; addresses = addresses; store = store; store_size = size; main = main }

pub crossed_view : (p : Program) (q : CoreProgram) (ps : List Procedure) → ps ≡ p.procedures.items → map core_proc q.procedures.items ≡ map crossed (map proc ps) → q.addresses.items ≡ [] → q.store.items ≡ [] →
    q.store_size ≡ 0 → q.main ≡ p.main → core_program q ≡ crossed_program (program p)
crossed_view p q ps same become none empty small main =
    ap (λ (xs : List CoreProc). with_procedures xs q.main q.addresses.items q.store.items q.store_size) (become ∙ ap (λ (xs : List Procedure). map crossed (map proc xs)) same)
    ∙ ap (λ (m : ℕ). with_procedures (map crossed (map proc p.procedures.items)) m q.addresses.items q.store.items q.store_size) main
    ∙ ap (λ (xs : List ℕ). with_procedures (map crossed (map proc p.procedures.items)) p.main xs q.store.items q.store_size) none
    ∙ ap (λ (xs : List ℕ). with_procedures (map crossed (map proc p.procedures.items)) p.main [] xs q.store_size) empty
    ∙ ap (λ (n : ℕ). with_procedures (map crossed (map proc p.procedures.items)) p.main [] [] n) small

pub well_is : (p : Program) (q : CoreWhole) → q ≡ crossed_program (program p) → IsWell (program p) → FramesFit (program p).procedures → IsWellCore q
well_is p q e well fits = subst (λ (x : CoreWhole). IsWellCore x) (sym e) (crossed_well (program p) well fits)

pub kept_is : (p : Program) (q : CoreWhole) → q ≡ crossed_program (program p) → IsWell (program p) → IsKept (program p) q
kept_is p q e well = subst (λ (x : CoreWhole). IsKept (program p) x) (sym e) (λ entries input. keeps entries (program p) well input)
