use Rattle.std.proofs.Common.{length, ◌-◌}
use Rattle.odc_lex.proofs.LexLemmas.{StandsAt}
use Rattle.odc_lex.proofs.lexer.lex.Given as goal

abbrev pub invariant-loop-state : goal.invariant-loop-state
invariant-loop-state l = StandsAt l.fn.file l.text l.state

abbrev pub decreases-loop-state : goal.decreases-loop-state
decreases-loop-state l = length l.text - l.state.from
