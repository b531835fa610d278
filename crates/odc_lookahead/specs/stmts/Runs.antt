-- Names at the start of a statement: whether a `:` follows them.
use Rattle.std.specs.Prelude.{◌≡◌, List, ◌∷◌}
use Rattle.odc_syntax.specs.declared.token.Token.{Token}
use Rattle.odc_syntax.specs.declared.token.TokenKind.{TokenKind}
use Rattle.odc_syntax.specs.declared.token.TokenKind.TheVariants as kind
use Rattle.odc_syntax.specs.declared.token.Word.{Word}
use Rattle.odc_syntax.specs.declared.token.Word.TheVariants as word
use Rattle.odc_syntax.specs.Derives.{StartsWithout}
use Rattle.std.specs.Prelude.{Bool, true, false}

-- names between commas and a `:` stand before the rest
pub data Declares : List Token → List Token → Type 0 where
  named : (t k : Token) (us : List Token) → t.kind ≡ kind.Name → k.kind ≡ kind.Colon → Declares (t ∷ k ∷ us) us
  listed : (t c : Token) (us rest : List Token) → t.kind ≡ kind.Name → c.kind ≡ kind.Comma → Declares us rest → Declares (t ∷ c ∷ us) rest

-- they do not: at the rest, no name stands where one must, or neither a comma nor a `:` behind a name
pub data Undeclared : List Token → List Token → Type 0 where
  unnamed : (ts : List Token) → StartsWithout kind.Name ts → Undeclared ts ts
  ended : (t : Token) (us : List Token) → t.kind ≡ kind.Name → StartsWithout kind.Comma us → StartsWithout kind.Colon us → Undeclared (t ∷ us) us
  again : (t c : Token) (us rest : List Token) → t.kind ≡ kind.Name → c.kind ≡ kind.Comma → Undeclared us rest → Undeclared (t ∷ c ∷ us) rest

-- what a label may stand before
abbrev pub labelled_by : TokenKind → Word → Bool
labelled_by kind.OpenBrace w = true
labelled_by kind.For w = true
labelled_by kind.Switch w = true
labelled_by kind.Directive word.Partial = true
labelled_by kind.Directive _ = false
labelled_by _ w = false

abbrev pub is_labelled : Token → Bool
is_labelled t = labelled_by t.kind t.word

-- a label stands before the rest
pub record Labels (ts : List Token) (t : Token) (rest : List Token) : Type 0 where
  pub colon : Token
  pub first : Token
  pub behind : List Token
  pub is : ts ≡ t ∷ colon ∷ rest
  pub name : t.kind ≡ kind.Name
  pub kind : colon.kind ≡ kind.Colon
  pub rest_is : rest ≡ first ∷ behind
  pub labelled : is_labelled first ≡ true

-- none does
abbrev pub NotLabelled : List Token → Type 0
NotLabelled ts = (t k f : Token) (us : List Token) → ts ≡ t ∷ k ∷ f ∷ us → t.kind ≡ kind.Name → k.kind ≡ kind.Colon → is_labelled f ≡ true → ⊥

-- semicolons stand before the rest
pub data Skips : List Token → List Token → Type 0 where
  none : (ts : List Token) → StartsWithout kind.Semicolon ts → Skips ts ts
  one : (t : Token) (us rest : List Token) → t.kind ≡ kind.Semicolon → Skips us rest → Skips (t ∷ us) rest
