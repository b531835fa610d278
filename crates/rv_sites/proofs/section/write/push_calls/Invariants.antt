use Rattle.std.proofs.Common.{◌≡◌, ◌++◌, drop}
use Rattle.std.specs.List.{flat_map}
use Rattle.rv_sites.specs.Numbers.{le64}
use Rattle.rv_sites.proofs.section.write.push_calls.Given as goal

-- what is written so far, and what is left, are the whole list
abbrev pub invariant-loop-call : goal.invariant-loop-call
invariant-loop-call l = (l.out.items ++ flat_map le64 (drop l.call-index l.calls) ≡ l.initial.out.items ++ flat_map le64 l.calls)
