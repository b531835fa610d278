use Rattle.std.proofs.Common.{◌≡◌}
use Rattle.rv_sites.specs.Sections.{have, beyond, has_name, past_name}
use Rattle.rv_sites.proofs.section.check.past_names.Given as goal

-- what stands from here on is what stood at the beginning
abbrev pub invariant-loop-left : goal.invariant-loop-left
invariant-loop-left l = (have has_name past_name l.count l.bytes ≡ have has_name past_name l.left l.rest) × (beyond past_name l.count l.bytes ≡ beyond past_name l.left l.rest)

abbrev pub decreases-loop-left : goal.decreases-loop-left
decreases-loop-left l = l.left
