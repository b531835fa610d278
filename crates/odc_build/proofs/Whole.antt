-- The passes one after the other: what each asks for holds, and their theorems compose.
use Rattle.std.proofs.Common.{◌≡◌, ℕ, ◌+◌, ◌*◌, ◌≤◌, List, sym, arith, ap, ◌∙◌, subst}
use Rattle.std.proofs.Math.Nat.{le_refl}
use Rattle.odc_text.specs.Run.{Run, Entry}
use Rattle.odc_text.specs.Follow.{KeepsOn}
use Rattle.odc_text.proofs.Keep.{keeps_on_composes, keeps_follows_on}
use Rattle.rv_table.specs.Run.{Image, machine}
use Rattle.odc_typed.specs.Tree.{Whole}
use Rattle.odc_typed.specs.Source.{source}
use Rattle.odc_typed.specs.Well.{IsWell, signatures}
use Rattle.odc_core.specs.Run.{core}
use Rattle.odc_context.specs.Code.{crossed_program}
use Rattle.odc_context.proofs.Whole.{keeps}
use Rattle.odc_mid.specs.Run.{mid}
use Rattle.odc_mid.specs.Tree.{Whole as MidWhole}
use Rattle.odc_lower.specs.Size.{AreCountable}
use Rattle.odc_lower.specs.Lowered.{IsLowered}
use Rattle.odc_lower.specs.Lowered.{IsKept as LowerKeeps}
use Rattle.rv_emit.specs.Code.{entry_of}
use Rattle.rv_emit.specs.Layout.{AllHaveSlots, IsShort, factor, image_of}
use Rattle.rv_emit.specs.Emitted.{IsKept as EmitKeeps}
use Rattle.odc_build.specs.Kept.{IsWithin, placed, widest, step_cost, KeepsAll, FollowsAll}
use Rattle.odc_build.proofs.Limits.{all_become, all_slots, countable, all_small, all_narrow, widest_at_most}

-- what `lower` asks for
pub all_countable : (w : Whole) → IsWell w → IsWithin w → AreCountable (crossed_program w).procedures
all_countable w well within = countable (signatures w.procedures) w.procedures well.procedures within.nodes

module _ (w : Whole) (q : MidWhole) (lowered : IsLowered (crossed_program w) q) where
  -- what the image asks for
  pub have_slots : AllHaveSlots q.procedures
  have_slots = all_slots q.procedures w.procedures (all_become q.procedures w.procedures lowered.procedures)

  pub is_short : IsWell w → IsWithin w → IsShort q
  is_short well within =
      omega (arith, all_small (signatures w.procedures) q.procedures w.procedures well.procedures (all_become q.procedures w.procedures lowered.procedures), within.all)

  pub cheaper : IsWell w → factor q ≤ step_cost w
  cheaper well =
      omega (arith, all_narrow (widest w.procedures) (signatures w.procedures) q.procedures w.procedures (widest_at_most (widest w.procedures) w.procedures (le_refl (widest w.procedures))) well.procedures (all_become q.procedures w.procedures lowered.procedures))

-- a smaller factor will do for a larger one
more_costs : (a b x c d y : ℕ) → a ≤ b → c ≤ d → y ≤ a * x + c → y ≤ b * x + d
more_costs a b x c d y p r h = grind (arith, p, r, h)

weaker : {A P B Q : Type 0} (a b c d : ℕ) (f : Entry A P → Entry B Q) (p : Run A P) (q : Run B Q) (input : List ℕ) → a ≤ b → c ≤ d → KeepsOn a c f p q input → KeepsOn b d f p q input
weaker a b c d f p q input le more k = record {
  goes = k.goes;
  far = k.far;
  sound = k.sound;
  cheap = λ n ended.
      let x = k.cheap n ended in
      (x.0, x.1, more_costs a b (p input n).cost c d (q input x.0).cost le more x.2);
}

module _ (w : Whole) (q : MidWhole) (lowered : IsLowered (crossed_program w) q) (well : IsWell w) (text : List ℕ) (kept : LowerKeeps (crossed_program w) q) (emitted : EmitKeeps (entry_of q) q (image_of q text)) where
  -- the source run, core code, mid code, the machine
  pub all_kept : KeepsAll (entry_of q) w (image_of q text)
  all_kept input bytes =
      let same : Entry ℕ ℕ → Entry ℕ ℕ = λ e. e in
      let to_core : KeepsOn 100 0 (placed (entry_of q)) (source w) (core (entry_of q) (crossed_program w)) input = keeps (entry_of q) w well input in
      let to_mid : KeepsOn 12 2 same (core (entry_of q) (crossed_program w)) (mid (entry_of q) q) input = kept (entry_of q) input bytes in
      let to_machine : KeepsOn (factor q) 18 same (mid (entry_of q) q) (machine (image_of q text)) input = emitted input bytes in
      let first : KeepsOn 1200 2 (placed (entry_of q)) (source w) (mid (entry_of q) q) input =
      keeps_on_composes 100 0 12 2 (placed (entry_of q)) same (source w) (core (entry_of q) (crossed_program w)) (mid (entry_of q) q) input to_core to_mid in
      let all : KeepsOn (factor q * 1200) (factor q * 2 + 18) (placed (entry_of q)) (source w) (machine (image_of q text)) input =
      keeps_on_composes 1200 2 (factor q) 18 (placed (entry_of q)) same (source w) (mid (entry_of q) q) (machine (image_of q text)) input first to_machine in
      let le : factor q ≤ step_cost w = cheaper w q lowered well in
      weaker (factor q * 1200) (step_cost w * 1200) (factor q * 2 + 18) (step_cost w * 2 + 18) (placed (entry_of q)) (source w) (machine (image_of q text)) input (omega (arith, le)) (omega (arith, le)) all

-- a run that is kept is followed
pub all_followed : (entries : ℕ → ℕ) (w : Whole) (image : Image) → KeepsAll entries w image → FollowsAll entries w image
all_followed entries w image k input bytes =
    keeps_follows_on (step_cost w * 1200) (step_cost w * 2 + 18) (placed entries) (source w) (machine image) input (k input bytes)
