use Rattle.std.proofs.Common.{◌≡◌, ◌++◌, drop, All}
use Rattle.std.specs.List.{flat_map}
use Rattle.rv_sites.specs.Sections.{text_bytes}
use Rattle.rv_sites.specs.Sections.{IsShortText}
use Rattle.rv_sites.proofs.section.write.push_paths.Given as goal

-- what is written so far, and what is left, are the whole list
abbrev pub invariant-loop-path : goal.invariant-loop-path
invariant-loop-path l = (l.out.items ++ flat_map text_bytes (drop l.path-index l.paths) ≡ l.initial.out.items ++ flat_map text_bytes l.paths) × All IsShortText (drop l.path-index l.paths)
