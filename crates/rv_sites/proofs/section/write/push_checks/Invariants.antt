use Rattle.std.proofs.Common.{◌≡◌, ◌++◌, drop}
use Rattle.std.specs.List.{flat_map}
use Rattle.rv_sites.specs.Sections.{check_bytes}
use Rattle.rv_sites.proofs.section.write.push_checks.Given as goal

-- what is written so far, and what is left, are the whole list
abbrev pub invariant-loop-site : goal.invariant-loop-site
invariant-loop-site l = (l.out.items ++ flat_map check_bytes (drop l.site-index l.checks) ≡ l.initial.out.items ++ flat_map check_bytes l.checks)
