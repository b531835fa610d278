use Rattle.std.proofs.Common.{◌≡◌, ◌+◌, ◌*◌, ◌≤◌, ◌++◌, drop, map}
use Rattle.std.specs.Prelude.{All}
use Rattle.rv_sites.specs.Sections.{IsShortName}
use Rattle.rv_emit.specs.Blocks.{block, size_of_all}
use Rattle.rv_link.specs.Linked.{names_from, first_block}
use Rattle.rv_link.proofs.link.names_of.Given as goal

-- the procedures so far, and those that are left, are all
abbrev pub invariant-loop-block : goal.invariant-loop-block
invariant-loop-block l = record {
  listed : l.names.items ++ names_from l.next (map block (drop l.block-index l.list)) ≡ names_from first_block (map block l.list);
  below : l.next + 4 * size_of_all (map block (drop l.block-index l.list)) ≤ 0x5000_0000;
  short : All IsShortName l.names.items;
}
