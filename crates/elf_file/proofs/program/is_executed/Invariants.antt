use Rattle.std.proofs.Common.{◌≡◌, map, drop}
use Rattle.std.specs.List.{list_any}
use Rattle.elf_file.specs.Rules.{is_executed}
use Rattle.rv_sites.specs.Seen.{range_seen}
use Rattle.elf_file.proofs.program.is_executed.Given as goal

-- the address is in none of the ranges so far
abbrev pub invariant-loop-range : goal.invariant-loop-range
invariant-loop-range l = list_any (is_executed l.address) (map range_seen (drop l.range-index l.list)) ≡ list_any (is_executed l.address) (map range_seen l.list)
