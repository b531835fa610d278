-- The kinds of tokens that the forms of suffixes and operands begin with.
use Rattle.std.proofs.Common.{◌≡◌, Bool, true, false, List, [], ◌∷◌, refl, sym, ◌∙◌, subst}
use Rattle.odc_syntax.specs.declared.token.Token.{Token}
use Rattle.odc_syntax.specs.declared.token.TokenKind.{TokenKind}
use Rattle.odc_syntax.specs.declared.token.TokenKind.TheVariants as kind
use Rattle.odc_syntax.specs.declared.token.Word.{Word}
use Rattle.odc_syntax.specs.declared.token.Word.TheVariants as word
use Rattle.odc_syntax.specs.declared.grammar.Mode.{Mode}
use Rattle.odc_syntax.specs.declared.grammar.Mode.TheVariants.{Free, Header, Start}
use Rattle.odc_lookahead.specs.declared.operand.OperandForm.{OperandForm}
use Rattle.odc_lookahead.specs.declared.operand.OperandForm.TheVariants as form
use Rattle.odc_lookahead.specs.declared.suffix.SuffixForm.{SuffixForm}
use Rattle.odc_lookahead.specs.declared.suffix.SuffixForm.TheVariants as suffix
use Rattle.odc_lookahead.specs.Forms.{literal_form, suffix_form, directive_form, brace_form, form_by}
use Rattle.odc_lookahead.specs.Sets.{takes_braces, starts_suffix}
use Rattle.odc_lookahead.specs.Read.{NoSuffix}
use Rattle.odc_lookahead.proofs.reading.Opening.{First}

abbrev pub SuffixKind : Mode → TokenKind → SuffixForm → Type 0
SuffixKind m k suffix.Member = k ≡ kind.Dot
SuffixKind m k suffix.Deref = k ≡ kind.Caret
SuffixKind m k suffix.Bracket = k ≡ kind.OpenBracket
SuffixKind m k suffix.Call = k ≡ kind.OpenParen
SuffixKind m k suffix.OrReturn = k ≡ kind.OrReturn
SuffixKind m k suffix.Literal = (k ≡ kind.OpenBrace) × (takes_braces m ≡ true)
SuffixKind m k suffix.Nothing = starts_suffix m k ≡ false

brace_kind : (m : Mode) (b : Bool) → takes_braces m ≡ b → SuffixKind m kind.OpenBrace (literal_form b)
brace_kind m true e = (refl, e)
brace_kind m false e = e

own_kind : (m : Mode) (k : TokenKind) → SuffixKind m k (suffix_form m k)
own_kind m kind.Dot = refl
own_kind m kind.Caret = refl
own_kind m kind.OpenBracket = refl
own_kind m kind.OpenParen = refl
own_kind m kind.OrReturn = refl
own_kind m kind.OpenBrace = brace_kind m (takes_braces m) refl
own_kind m _ = refl

pub suffix_kind_is : (m : Mode) (k : TokenKind) (f : SuffixForm) → suffix_form m k ≡ f → SuffixKind m k f
suffix_kind_is m k f e = subst (λ (f : SuffixForm). SuffixKind m k f) e (own_kind m k)

pub no_suffix : (m : Mode) (ts : List Token) → NoSuffix m ts → First (starts_suffix m) ts → ⊥
no_suffix m [] n f = f
no_suffix m (t ∷ ts) n f = let bad : true ≡ false = sym f ∙ n in cc

abbrev pub OperandKind : Mode → TokenKind → Word → OperandForm → Type 0
OperandKind m k w form.Name = k ≡ kind.Name
OperandKind m k w form.Int = k ≡ kind.Int
OperandKind m k w form.Rune = k ≡ kind.Rune
OperandKind m k w form.Text = k ≡ kind.Text
OperandKind m k w form.Context = k ≡ kind.Context
OperandKind m k w form.Location = (k ≡ kind.Directive) × (w ≡ word.CallerLocation)
OperandKind m k w form.Dot = k ≡ kind.Dot
OperandKind m k w form.Literal = (k ≡ kind.OpenBrace) × (m ≡ Free)
OperandKind m k w form.Group = k ≡ kind.OpenParen
OperandKind m k w form.Type = Unit {0}
OperandKind m k w form.Proc = k ≡ kind.Proc
OperandKind m k w form.Nothing = Unit {0}

directive_kind : (m : Mode) (w : Word) → OperandKind m kind.Directive w (directive_form w)
directive_kind m word.CallerLocation = (refl, refl)
directive_kind m word.Soa = tt
directive_kind m word.Type = tt
directive_kind m _ = tt

literal_kind : (m : Mode) (w : Word) → OperandKind m kind.OpenBrace w (brace_form m)
literal_kind Free w = (refl, refl)
literal_kind Header w = tt
literal_kind Start w = tt

own_operand : (m : Mode) (k : TokenKind) (w : Word) → OperandKind m k w (form_by m k w)
own_operand m kind.Name w = refl
own_operand m kind.Int w = refl
own_operand m kind.Rune w = refl
own_operand m kind.Text w = refl
own_operand m kind.Context w = refl
own_operand m kind.Dot w = refl
own_operand m kind.OpenParen w = refl
own_operand m kind.Proc w = refl
own_operand m kind.Directive w = directive_kind m w
own_operand m kind.OpenBrace w = literal_kind m w
own_operand m _ w = tt

pub operand_kind_is : (m : Mode) (k : TokenKind) (w : Word) (f : OperandForm) → form_by m k w ≡ f → OperandKind m k w f
operand_kind_is m k w f e = subst (λ (f : OperandForm). OperandKind m k w f) e (own_operand m k w)
