use Rattle.std.proofs.Common.{◌≡◌, ◌++◌, true}
use Rattle.rv_sites.specs.Sections.{have, entries, beyond, has_name, name_at, past_name}
use Rattle.rv_sites.proofs.section.copy.copy_names.Given as goal

-- what is copied so far, and what stands from here on, are all of them
abbrev pub invariant-loop-left : goal.invariant-loop-left
invariant-loop-left l = record {
  all : l.names.items ++ entries name_at past_name l.left l.rest ≡ l.initial.names.items ++ entries name_at past_name l.count l.bytes;
  behind : beyond past_name l.left l.rest ≡ beyond past_name l.count l.bytes;
  stand : have has_name past_name l.left l.rest ≡ true;
}

abbrev pub decreases-loop-left : goal.decreases-loop-left
decreases-loop-left l = l.left
