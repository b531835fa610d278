use Rattle.std.proofs.Common.{◌≡◌, drop}
use Rattle.rv_sites.specs.Trace.{procedure_text}
use Rattle.rv_sites.proofs.trace.push_procedure.Given as goal

-- the line is as it was, and none of the names so far is that of the address
abbrev pub invariant-loop-name : goal.invariant-loop-name
invariant-loop-name l = (l.line.items ≡ l.initial.line.items) × (procedure_text l.names l.address ≡ procedure_text (drop l.name-index l.names) l.address)
