use Rattle.std.proofs.Common.{◌≡◌, ◌+◌, drop}
use Rattle.odc_core.specs.View.{stmts}
use Rattle.odc_lower.specs.Size.{stmts_size}
use Rattle.odc_lower.proofs.size.+sizes.Given as goal

-- what is counted, and what the rest has, is the whole
abbrev pub invariant-size_of_all-loop-s : goal.invariant-size_of_all-loop-s
invariant-size_of_all-loop-s l = l.total + stmts_size (stmts (drop l.s-index l.ss)) ≡ stmts_size (stmts l.ss)
