use Rattle.std.proofs.Common.{refl}
use Rattle.std.specs.Prelude.{Option, Some, None, IfSome, IfNone, List, ℕ}
use Rattle.odc_syntax.specs.lexical.Signs.{signs}
use Rattle.odc_lex.specs.declared.number.Lexeme.{Lexeme}
use Rattle.odc_lex.specs.Table.{first_front, FindsRow, SignFront, NoSign}
use Rattle.odc_lex.proofs.TableLemmas.{sign_found, sign_missing}
use Rattle.odc_lex.proofs.table.sign.Goals as goal

found : (text : List ℕ) (result : Option Lexeme) → FindsRow (first_front signs text) result → IfSome result (SignFront text)
found text None finds = tt
found text (Some lexeme) finds = sign_found text (first_front signs text) lexeme refl finds

missing : (text : List ℕ) (result : Option Lexeme) → FindsRow (first_front signs text) result → IfNone result (NoSign text)
missing text None finds = sign_missing text (first_front signs text) refl finds
missing text (Some lexeme) finds = tt

pub returns-clause-some : goal.returns-clause-some
returns-clause-some c = found _ _ c.first_sign.ensures

pub returns-clause-none : goal.returns-clause-none
returns-clause-none c = missing _ _ c.first_sign.ensures
