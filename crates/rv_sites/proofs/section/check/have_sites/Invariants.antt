use Rattle.std.proofs.Common.{◌≡◌, ◌*◌, ◌≤◌, length, drop}
use Rattle.rv_sites.specs.Sections.{have, has_site}
use Rattle.rv_sites.proofs.section.check.have_sites.Given as goal

-- what stands from here on is what stood at the beginning
abbrev pub invariant-loop-left : goal.invariant-loop-left
invariant-loop-left l = (have (has_site l.paths) (drop 16) l.count l.bytes ≡ have (has_site l.paths) (drop 16) l.left l.rest) × (16 * l.left ≤ length l.rest)

abbrev pub decreases-loop-left : goal.decreases-loop-left
decreases-loop-left l = l.left
