use Rattle.std.proofs.Common.{◌≡◌, ◌++◌, drop}
use Rattle.std.specs.List.{flat_map}
use Rattle.rv_sites.specs.Numbers.{le32}
use Rattle.elf_file.proofs.write.push_words.Given as goal

-- what is appended so far, and what is left, are all numbers
abbrev pub invariant-loop-number : goal.invariant-loop-number
invariant-loop-number l = l.out.items ++ flat_map le32 (drop l.number-index l.numbers) ≡ l.initial.out.items ++ flat_map le32 l.numbers
