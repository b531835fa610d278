use Rattle.std.proofs.Common.{◌≡◌, map, take}
use Rattle.std.specs.Prelude.{All}
use Rattle.rv_sites.specs.Seen.{range_seen}
use Rattle.rv_machine.specs.Image.{range_of, BytesFit}
use Rattle.odc_tool.proofs.run.owned_ranges.Given as goal

abbrev pub invariant-loop-range : goal.invariant-loop-range
invariant-loop-range l = record {
  copied : map range_of l.list.items ≡ map range_seen (take l.range-index l.ranges);
  fit : All BytesFit l.list.items;
}
