use Rattle.std.proofs.Common.{◌≡◌, ◌++◌, true}
use Rattle.rv_sites.specs.Sections.{have, entries, beyond, has_text, text_at, past_text}
use Rattle.rv_sites.proofs.section.copy.copy_paths.Given as goal

-- what is copied so far, and what stands from here on, are all of them
abbrev pub invariant-loop-left : goal.invariant-loop-left
invariant-loop-left l = record {
  all : l.paths.items ++ entries text_at past_text l.left l.rest ≡ l.initial.paths.items ++ entries text_at past_text l.count l.bytes;
  behind : beyond past_text l.left l.rest ≡ beyond past_text l.count l.bytes;
  stand : have has_text past_text l.left l.rest ≡ true;
}

abbrev pub decreases-loop-left : goal.decreases-loop-left
decreases-loop-left l = l.left
