-- What an operand is, and what stands behind it, by the first token.
use Rattle.std.specs.Prelude.{Bool, true, false, Option, Some, None}
use Rattle.odc_syntax.specs.declared.token.Token.{Token}
use Rattle.odc_syntax.specs.declared.token.TokenKind.{TokenKind}
use Rattle.odc_syntax.specs.declared.token.TokenKind.TheVariants as kind
use Rattle.odc_syntax.specs.declared.token.Word.{Word}
use Rattle.odc_syntax.specs.declared.token.Word.TheVariants as word
use Rattle.odc_syntax.specs.declared.grammar.Mode.{Mode}
use Rattle.odc_syntax.specs.declared.grammar.Mode.TheVariants.{Free, Header, Start}
use Rattle.odc_lookahead.specs.declared.operand.OperandForm.{OperandForm}
use Rattle.odc_lookahead.specs.declared.operand.OperandForm.TheVariants as form
use Rattle.odc_lookahead.specs.declared.suffix.SuffixForm.{SuffixForm}
use Rattle.odc_lookahead.specs.declared.suffix.SuffixForm.TheVariants as suffix
use Rattle.odc_syntax.specs.Tree as tree
use Rattle.odc_syntax.specs.View.{expr_kind as kind_of}
use Rattle.odc_syntax.specs.declared.tree.ExprKind.{ExprKind}
use Rattle.odc_lookahead.specs.Sets.{takes_braces}

abbrev pub directive_form : Word → OperandForm
directive_form word.CallerLocation = form.Location
directive_form word.Soa = form.Type
directive_form word.Type = form.Type
directive_form _ = form.Nothing

abbrev pub brace_form : Mode → OperandForm
brace_form Free = form.Literal
brace_form Header = form.Nothing
brace_form Start = form.Nothing

abbrev pub form_by : Mode → TokenKind → Word → OperandForm
form_by m kind.Name w = form.Name
form_by m kind.Int w = form.Int
form_by m kind.Rune w = form.Rune
form_by m kind.Text w = form.Text
form_by m kind.Context w = form.Context
form_by m kind.Dot w = form.Dot
form_by m kind.OpenParen w = form.Group
form_by m kind.Proc w = form.Proc
form_by m kind.Caret w = form.Type
form_by m kind.Distinct w = form.Type
form_by m kind.OpenBracket w = form.Type
form_by m kind.Struct w = form.Type
form_by m kind.Union w = form.Type
form_by m kind.Enum w = form.Type
form_by m kind.Directive w = directive_form w
form_by m kind.OpenBrace w = brace_form m
form_by m _ w = form.Nothing

abbrev pub operand_form : Mode → Token → OperandForm
operand_form m t = form_by m t.kind t.word

abbrev pub literal_form : Bool → SuffixForm
literal_form true = suffix.Literal
literal_form false = suffix.Nothing

abbrev pub suffix_form : Mode → TokenKind → SuffixForm
suffix_form m kind.Dot = suffix.Member
suffix_form m kind.Caret = suffix.Deref
suffix_form m kind.OpenBracket = suffix.Bracket
suffix_form m kind.OpenParen = suffix.Call
suffix_form m kind.OrReturn = suffix.OrReturn
suffix_form m kind.OpenBrace = literal_form (takes_braces m)
suffix_form m _ = suffix.Nothing

-- an operand of one token
abbrev pub leaf_of : OperandForm → Token → Option tree.ExprKind
leaf_of form.Name t = Some (tree.name t)
leaf_of form.Int t = Some (tree.int t)
leaf_of form.Rune t = Some (tree.rune t)
leaf_of form.Text t = Some (tree.text t)
leaf_of form.Context t = Some tree.context
leaf_of form.Location t = Some tree.location
leaf_of _ t = None

abbrev pub leaf_view : Option ExprKind → Option tree.ExprKind
leaf_view None = None
leaf_view (Some k) = Some (kind_of k)
