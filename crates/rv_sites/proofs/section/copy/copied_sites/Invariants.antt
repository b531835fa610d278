use Rattle.std.proofs.Common.{◌≡◌, ◌++◌, ◌*◌, ◌≤◌, true, length, drop}
use Rattle.rv_sites.specs.Sections.{have, entries, has_site, site_at}
use Rattle.rv_sites.proofs.section.copy.copied_sites.Given as goal

-- what is copied so far, and what stands from here on, are all of them
abbrev pub invariant-loop-left : goal.invariant-loop-left
invariant-loop-left l = record {
  all : l.sites.items ++ entries site_at (drop 16) l.left l.rest ≡ entries site_at (drop 16) l.count l.bytes;
  room : 16 * l.left ≤ length l.rest;
  stand : have (has_site l.paths) (drop 16) l.left l.rest ≡ true;
}

abbrev pub decreases-loop-left : goal.decreases-loop-left
decreases-loop-left l = l.left
