use Rattle.std.proofs.Common.{rules}
use Rattle.odc_lex.proofs.PieceLemmas.{newline_at, newline_not}
use Rattle.odc_lex.proofs.piece.newline.Goals as goal

pub returns-then-text-eq10 : goal.returns-then-text-eq10
returns-then-text-eq10 c a = newline_at a _ c.requires.some c.requires.class (search rules)

pub returns-else-text-eq10 : goal.returns-else-text-eq10
returns-else-text-eq10 c a = newline_not a _ c.requires.some c.requires.class (λ e. absurd (search (rules, e)))
