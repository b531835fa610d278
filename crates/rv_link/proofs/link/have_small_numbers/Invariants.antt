use Rattle.std.proofs.Common.{take}
use Rattle.std.specs.Prelude.{All}
use Rattle.rv_link.specs.Linked.{HasSmallNumbers}
use Rattle.rv_link.proofs.link.have_small_numbers.Given as goal

abbrev pub invariant-loop-site : goal.invariant-loop-site
invariant-loop-site l = All HasSmallNumbers (take l.site-index l.sites)
