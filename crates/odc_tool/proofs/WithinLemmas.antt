-- The program of a text is one that can be compiled.
use Rattle.std.proofs.Common.{◌≡◌, ℕ, ◌+◌, ◌≤◌, length, arith, sym, subst}
use Rattle.odc_typed.specs.Tree.{Whole}
use Rattle.odc_typed.specs.Well.{IsWell}
use Rattle.odc_small.specs.Grammar.{Tree}
use Rattle.odc_small.specs.Typing.{typed}
use Rattle.odc_small.proofs.WellLemmas.{typed_well}
use Rattle.odc_small.proofs.SizeLemmas.{typed_few, typed_nodes, typed_frames}
use Rattle.odc_build.specs.Kept.{IsWithin as IsWithinLimits}
use Rattle.odc_tool.specs.Gather.{IsWithin, IsTypedOf}

pub gathered_well : (Holds : Tree → Type 0) (p : Whole) → IsTypedOf Holds p → IsWell p
gathered_well Holds p t = subst IsWell (sym t.same) (typed_well t.tree t.within.is)

typed_within : (tree : Tree) → IsWithin tree → IsWithinLimits (typed tree)
typed_within tree w = record { frames = typed_frames tree w.is w.short; nodes = typed_nodes tree w.is w.short; all = omega (arith, typed_few tree w.is, w.short) }

pub gathered_within : (Holds : Tree → Type 0) (p : Whole) → IsTypedOf Holds p → IsWithinLimits p
gathered_within Holds p t = subst IsWithinLimits (sym t.same) (typed_within t.tree t.within)
