use Rattle.std.proofs.Common.{◌≡◌, map, drop}
use Rattle.std.specs.List.{list_all}
use Rattle.elf_file.specs.Rules.{is_apart}
use Rattle.rv_sites.specs.Seen.{range_seen}
use Rattle.elf_file.proofs.program.is_apart_from.Given as goal

-- none of the ranges so far shares a byte
abbrev pub invariant-loop-other : goal.invariant-loop-other
invariant-loop-other l = list_all (is_apart l.start l.size) (map range_seen (drop l.other-index l.others)) ≡ list_all (is_apart l.start l.size) (map range_seen l.others)
