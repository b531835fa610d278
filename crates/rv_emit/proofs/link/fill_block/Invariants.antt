use Rattle.std.proofs.Common.{◌≡◌, ◌+◌, ◌++◌, ◌<◌, ◌^◌, drop, length}
use Rattle.rv_emit.specs.Blocks.{blocks, filled, entry_in, holes_sites, AreHoles, AllNamedIn}
use Rattle.rv_emit.proofs.link.fill_block.Given as goal

-- what is filled so far, and the rest of the block with the holes that are left, are the whole; so it is
-- with the sites
abbrev pub invariant-loop-hole : goal.invariant-loop-hole
invariant-loop-hole l =
    (l.code.items ++ filled (entry_in (blocks l.b).list) l.b.addresses.items l.next (length l.sites.items) (drop l.hole-index l.block.holes.items) (drop l.next l.block.code.items)
    ≡ l.initial.code.items ++ filled (entry_in (blocks l.b).list) l.b.addresses.items 0 (length l.initial.sites.items) l.block.holes.items l.block.code.items)
    × ((l.sites.items ++ holes_sites (drop l.hole-index l.block.holes.items) ≡ l.initial.sites.items ++ holes_sites l.block.holes.items)
    × ((length l.sites.items + length (holes_sites (drop l.hole-index l.block.holes.items)) < 2 ^ 31)
    × (AreHoles l.next (length l.block.code.items) (drop l.hole-index l.block.holes.items)
    × AllNamedIn (length l.b.list.items) (length l.b.addresses.items) (drop l.hole-index l.block.holes.items))))
