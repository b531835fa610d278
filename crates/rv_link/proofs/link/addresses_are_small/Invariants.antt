use Rattle.std.proofs.Common.{take}
use Rattle.std.specs.Prelude.{All}
use Rattle.rv_sites.specs.Sections.{IsAddress}
use Rattle.rv_link.proofs.link.addresses_are_small.Given as goal

abbrev pub invariant-loop-call : goal.invariant-loop-call
invariant-loop-call l = All IsAddress (take l.call-index l.calls)
