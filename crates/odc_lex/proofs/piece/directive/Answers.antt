use Rattle.odc_lex.proofs.PieceLemmas.{directive_found, directive_none}
use Rattle.odc_lex.proofs.piece.directive.Goals as goal

pub returns-in-Some : goal.returns-in-Some
returns-in-Some c a = directive_found a _ _ c.requires c.in-Some.ensures

pub returns-in-None : goal.returns-in-None
returns-in-None c a = directive_none a _ c.requires c.in-None.ensures
