use Rattle.std.proofs.Common.{◌≡◌, map}
use Rattle.rv_emit.specs.Blocks.{block, entry_in}
use Rattle.rv_emit.specs.Tables.{IsTable}
use Rattle.rv_emit.proofs.sizes.entries_of.Given as goal

-- the blocks so far have their entries, and the next one has the next address
abbrev pub invariant-loop-b : goal.invariant-loop-b
invariant-loop-b l = IsTable l.entries.items l.b-index (entry_in (map block l.list)) × (l.next ≡ entry_in (map block l.list) l.b-index)
