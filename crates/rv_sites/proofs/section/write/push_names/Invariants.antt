use Rattle.std.proofs.Common.{◌≡◌, ◌++◌, drop}
use Rattle.std.specs.List.{flat_map}
use Rattle.rv_sites.specs.Sections.{name_bytes}
use Rattle.rv_sites.proofs.section.write.push_names.Given as goal

-- what is written so far, and what is left, are the whole list
abbrev pub invariant-loop-name : goal.invariant-loop-name
invariant-loop-name l = l.out.items ++ flat_map name_bytes (drop l.name-index l.names) ≡ l.initial.out.items ++ flat_map name_bytes l.names
