use Rattle.std.proofs.Common.{◌≡◌, ◌++◌, ◌*◌, ◌≤◌, length, drop}
use Rattle.rv_sites.specs.Numbers.{number64}
use Rattle.rv_sites.specs.Sections.{entries}
use Rattle.rv_sites.proofs.section.copy.copied_calls.Given as goal

-- what is copied so far, and what stands from here on, are all of them
abbrev pub invariant-loop-left : goal.invariant-loop-left
invariant-loop-left l = record {
  all : l.calls.items ++ entries number64 (drop 8) l.left l.rest ≡ entries number64 (drop 8) l.count l.bytes;
  room : 8 * l.left ≤ length l.rest;
}

abbrev pub decreases-loop-left : goal.decreases-loop-left
decreases-loop-left l = l.left
