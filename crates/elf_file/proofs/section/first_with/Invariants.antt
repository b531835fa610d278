use Rattle.std.proofs.Common.{◌≡◌, None}
use Rattle.elf_file.specs.Rules.{first_below, named}
use Rattle.elf_file.proofs.section.first_with.Given as goal

-- none of the sections so far has the name
abbrev pub invariant-loop-k : goal.invariant-loop-k
invariant-loop-k l = first_below (named l.bytes l.name) l.k ≡ None
