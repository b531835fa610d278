use Rattle.std.proofs.Common.{◌≡◌, ◌+◌, ◌++◌, ◌<◌, ◌^◌, drop, length, map}
use Rattle.rv_emit.specs.Blocks.{block, blocks, all_code, all_sites, entry_in, AreBlocks}
use Rattle.rv_emit.proofs.link.fill_blocks.Given as goal

-- what is filled so far, and the blocks that are left, are all blocks; so it is with their sites
abbrev pub invariant-loop-block : goal.invariant-loop-block
invariant-loop-block l =
    (l.code.items ++ all_code (entry_in (blocks l.b).list) l.b.addresses.items (length l.sites.items) (map block (drop l.block-index l.b.list.items))
    ≡ l.initial.code.items ++ all_code (entry_in (blocks l.b).list) l.b.addresses.items 0 (blocks l.b).list)
    × ((l.sites.items ++ all_sites (map block (drop l.block-index l.b.list.items)) ≡ l.initial.sites.items ++ all_sites (blocks l.b).list)
    × ((length l.sites.items + length (all_sites (map block (drop l.block-index l.b.list.items))) < 2 ^ 31)
    × AreBlocks (length l.b.list.items) (length l.b.addresses.items) (map block (drop l.block-index l.b.list.items))))
