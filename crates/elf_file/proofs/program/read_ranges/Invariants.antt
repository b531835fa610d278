use Rattle.std.proofs.Common.{◌≡◌, ◌≤◌, map, length, None}
use Rattle.std.specs.Prelude.{All}
use Rattle.elf_file.specs.Rules.{first_below, broken_range, ranges_below}
use Rattle.rv_sites.specs.Seen.{range_seen, BytesFit}
use Rattle.elf_file.proofs.program.read_ranges.Given as goal

-- the headers so far fit, and their ranges are listed
abbrev pub invariant-loop-k : goal.invariant-loop-k
invariant-loop-k l = record {
  fit : first_below (broken_range l.bytes) l.k ≡ None;
  listed : map range_seen l.list.items ≡ ranges_below l.bytes l.k;
  few : length l.list.items ≤ l.k;
  short : All BytesFit l.list.items;
}
