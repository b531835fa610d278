-- What a type is, by its first token.
use Rattle.std.specs.Prelude.{Option, Some, None}
use Rattle.odc_syntax.specs.declared.token.Token.{Token}
use Rattle.odc_syntax.specs.declared.token.TokenKind.{TokenKind}
use Rattle.odc_syntax.specs.declared.token.TokenKind.TheVariants as kind
use Rattle.odc_syntax.specs.declared.token.Word.{Word}
use Rattle.odc_syntax.specs.declared.token.Word.TheVariants as word
use Rattle.odc_syntax.specs.declared.grammar.Use.{Use}
use Rattle.odc_syntax.specs.declared.grammar.Use.TheVariants.{Plain, Parameter, Operand, OperandEnd}
use Rattle.odc_lookahead.specs.declared.type_form.OwnForm.{OwnForm}
use Rattle.odc_lookahead.specs.declared.type_form.OwnForm.TheVariants as own
use Rattle.odc_lookahead.specs.declared.type_form.BuiltForm.{BuiltForm}
use Rattle.odc_lookahead.specs.declared.type_form.BuiltForm.TheVariants as built

abbrev pub own_form : TokenKind → Option OwnForm
own_form kind.Name = Some own.Name
own_form kind.OpenParen = Some own.Group
own_form kind.Proc = Some own.Proc
own_form _ = None

abbrev pub word_form : Word → Option BuiltForm
word_form word.Soa = Some built.Soa
word_form word.Type = Some built.WordProc
word_form _ = None

abbrev pub dollar_form : Use → Option BuiltForm
dollar_form Parameter = Some built.Dollar
dollar_form Plain = None
dollar_form Operand = None
dollar_form OperandEnd = None

abbrev pub built_by : Use → TokenKind → Word → Option BuiltForm
built_by u kind.Caret w = Some built.Pointer
built_by u kind.Distinct w = Some built.Distinct
built_by u kind.OpenBracket w = Some built.Array
built_by u kind.Struct w = Some built.Struct
built_by u kind.Union w = Some built.Union
built_by u kind.Enum w = Some built.Enum
built_by u kind.Directive w = word_form w
built_by u kind.Dollar w = dollar_form u
built_by u _ w = None

abbrev pub built_form : Use → Token → Option BuiltForm
built_form u t = built_by u t.kind t.word
