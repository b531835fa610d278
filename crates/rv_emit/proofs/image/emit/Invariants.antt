use Rattle.std.proofs.Common.{◌≡◌, ◌++◌, drop, map}
use Rattle.odc_mid.specs.View.{proc}
use Rattle.rv_emit.specs.Blocks.{block, block_of}
use Rattle.rv_emit.proofs.image.emit.Given as goal

-- the blocks so far, and those of the procedures that are left, are those of all
abbrev pub invariant-loop-q : goal.invariant-loop-q
invariant-loop-q l = map block l.list.items ++ map block_of (map proc (drop l.q-index l.p.procedures.items)) ≡ map block_of (map proc l.p.procedures.items)
