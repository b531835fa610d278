-- Each step of a sane program can be emitted.
use Rattle.std.proofs.Common.{◌≡◌, ℕ, zero, suc, ◌+◌, ◌*◌, ◌^◌, ◌<◌, ◌≤◌, true, false, List, [], ◌∷◌, length, arith, ap, sym, refl, lit<}
use Rattle.std.specs.Prelude.{Some, slice_get}
use Rattle.odc_core.specs.declared.tree.Variable.{Variable}
use Rattle.odc_core.specs.Well.{AreLaid}
use Rattle.odc_mid.specs.declared.tree.Named.TheVariants.{Variable as OfVariable, Stored, Procedure}
use Rattle.odc_mid.specs.declared.tree.SystemCall.TheVariants.{Read, Write, Exit}
use Rattle.odc_mid.specs.declared.tree.MidStep.{MidStep}
use Rattle.odc_mid.specs.declared.tree.MidStep.TheVariants.{Const, Address, Move, Unary, Binary, Compare, Load, Store, Jump, Branch, Call, CallValue, Return, Check as CheckStep, System}
use Rattle.odc_mid.specs.Tree.{Proc, Whole}
use Rattle.odc_mid.specs.Well.{IsWell, IsWellProc, IsStepAt, AreSteps, AllBelow, Known, names_in}
use Rattle.rv_emit.specs.Code.{entry_of, offset_of, step_size, steps_size, proc_size, procs_size, procs_before}
use Rattle.rv_emit.specs.Blocks.{bare}
use Rattle.rv_emit.specs.Layout.{HasSlots, AllHaveSlots, IsShort, AreSlots, CanEmit, AllCanEmit}
use Rattle.rv_emit.proofs.Placed.{before_small, before_all, well_proc, slots_proc}

-- ---- what is named lies below 2^31

offset_low : (frame : ℕ) (vs : List Variable) (x : ℕ) → AreLaid frame vs → offset_of (slice_get vs x) ≤ frame
offset_low frame [] x h = omega arith
offset_low frame (v ∷ vs) zero h = omega (arith, h.0.1)
offset_low frame (v ∷ vs) (suc x) h = offset_low frame vs x h.1.1

pub entry_low : (w : Whole) → IsShort w → (f : ℕ) → entry_of w f < 2 ^ 31
entry_low w short f = omega (arith, short, before_all w.procedures f)

-- a procedure lies in front of those behind it
pub block_inside : (ps : List Proc) (f : ℕ) (p : Proc) → slice_get ps f ≡ Some p → procs_before ps f + proc_size p ≤ procs_size ps
block_inside [] f p e = cc
block_inside (x ∷ ps) zero p e = let same : x ≡ p = cc in let size : proc_size p ≡ proc_size x = ap proc_size (sym same) in omega (arith, size)
block_inside (x ∷ ps) (suc f) p e = let rest : procs_before ps f + proc_size p ≤ procs_size ps = block_inside ps f p e in omega (arith, rest)

module _ (w : Whole) (p : Proc) (sane : IsWellProc w p) (slots : HasSlots p) (low : 4 * proc_size p < 2 ^ 31) where
  slot_there : (t : ℕ) → t < p.temporaries → 8 * (t + 1) ≤ p.frame
  slot_there t h = omega (arith, h, slots)

  slots_there : (ts : List ℕ) → AllBelow p.temporaries ts → AreSlots p.frame ts
  slots_there [] h = tt
  slots_there (t ∷ ts) h = (slot_there t h.0, slots_there ts h.1)

  place_low : (label : ℕ) → (bare p).place label < 2 ^ 31
  place_low label = omega (arith, low, before_small p.steps label)

  can : (known : Known) (i : ℕ) (s : MidStep) → IsStepAt (names_in w p) known i s → step_size s < 2 ^ 30 → CanEmit (bare p) (length p.steps) s
  can known i (Const to v) h few = slot_there to h.sets
  can known i (Address to (OfVariable x)) h few = (slot_there to h.sets, (h.named, omega (arith, offset_low p.frame p.variables x sane.laid, sane.fits)))
  can known i (Address to (Stored n)) h few = (slot_there to h.sets, tt)
  can known i (Address to (Procedure f)) h few = (slot_there to h.sets, tt)
  can known i (Move to u) h few = (slot_there to h.sets, slot_there u h.reads.0)
  can known i (Unary to op u) h few = (slot_there to h.sets, slot_there u h.reads.0)
  can known i (Binary to op u v) h few = (slot_there to h.sets, (slot_there u h.reads.0, slot_there v h.reads.1.0))
  can known i (Compare to op u v) h few = (slot_there to h.sets, (slot_there u h.reads.0, slot_there v h.reads.1.0))
  can known i (Load to width u) h few = (slot_there to h.sets, slot_there u h.reads.0)
  can known i (Store width u v) h few = (slot_there u h.reads.0, slot_there v h.reads.1.0)
  can known i (Jump label) h few = (h.ways.0, place_low label)
  can known i (Branch u label) h few = (slot_there u h.reads.0, (h.ways.1.0, place_low label))
  can known i (Call to f arguments) h few = (
    (slot_there to h.sets, slots_there arguments.items h.reads),
    omega (arith, few),
  )
  can known i (CallValue to target arguments true) h few = ((slot_there to h.sets, (slot_there target h.reads.0, slots_there arguments.items h.reads.1)), omega (arith, few))
  can known i (CallValue to target arguments false) h few = ((slot_there to h.sets, (slot_there target h.reads.0, slots_there arguments.items h.reads.1)), omega (arith, few))
  can known i (Return u) h few = slot_there u h.reads.0
  can known i (CheckStep u which source) h few = slot_there u h.reads.0
  can known i (System (Read to u v)) h few = (slot_there to h.sets, (slot_there u h.reads.0, slot_there v h.reads.1.0))
  can known i (System (Write d u v)) h few = (slot_there u h.reads.0, slot_there v h.reads.1.0)
  can known i (System (Exit u)) h few = slot_there u h.reads.0

  all_can : (known : Known) (i : ℕ) (ss : List MidStep) → AreSteps (names_in w p) known i ss → steps_size ss < 2 ^ 30 → AllCanEmit (bare p) (length p.steps) ss
  all_can known i [] h few = tt
  all_can known i (s ∷ ss) h few = (can known i s h.0 (omega (arith, few)), all_can known (suc i) ss h.1 (omega (arith, few)))

  pub steps_can : AllCanEmit (bare p) (length p.steps) p.steps
  steps_can = all_can sane.known 0 p.steps sane.steps (omega (arith, low))

-- the steps of the procedure at a position
pub proc_can : (w : Whole) → IsWell w → AllHaveSlots w.procedures → IsShort w → (f : ℕ) (p : Proc) → slice_get w.procedures f ≡ Some p → AllCanEmit (bare p) (length p.steps) p.steps
proc_can w well slots short f p found =
    steps_can w p (well_proc w w.procedures f p well.procedures found) (slots_proc w.procedures f p slots found) (omega (arith, short, block_inside w.procedures f p found))
