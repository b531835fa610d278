-- What a statement is, by its first token.
use Rattle.odc_syntax.specs.declared.token.Token.{Token}
use Rattle.odc_syntax.specs.declared.token.TokenKind.{TokenKind}
use Rattle.odc_syntax.specs.declared.token.TokenKind.TheVariants as kind
use Rattle.odc_syntax.specs.declared.token.Word.{Word}
use Rattle.odc_syntax.specs.declared.token.Word.TheVariants as word
use Rattle.odc_lookahead.specs.declared.statement_form.StatementForm.{StatementForm}
use Rattle.odc_lookahead.specs.declared.statement_form.StatementForm.TheVariants as form

abbrev pub directive_statement : Word → StatementForm
directive_statement word.Partial = form.Labelled
directive_statement _ = form.Simple

abbrev pub statement_by : TokenKind → Word → StatementForm
statement_by kind.Name w = form.Named
statement_by kind.If w = form.If
statement_by kind.Defer w = form.Defer
statement_by kind.Return w = form.Return
statement_by kind.Break w = form.Break
statement_by kind.Continue w = form.Continue
statement_by kind.Fallthrough w = form.Fallthrough
statement_by kind.OpenBrace w = form.Labelled
statement_by kind.For w = form.Labelled
statement_by kind.Switch w = form.Labelled
statement_by kind.Directive w = directive_statement w
statement_by _ w = form.Simple

abbrev pub statement_form : Token → StatementForm
statement_form t = statement_by t.kind t.word
