-- Signs: the texts that are a token of their own.
use Rattle.std.specs.Prelude.{◌≡◌, ℕ, ◌⊎◌, List, [], ◌∷◌}
use Rattle.odc_syntax.specs.declared.token.TokenKind.{TokenKind}
use Rattle.odc_syntax.specs.declared.token.TokenKind.TheVariants.{OpenParen, CloseParen, OpenBracket, CloseBracket, OpenBrace, CloseBrace, Comma, Semicolon, Colon, Dot, Caret, Question, Dollar, At, Bang, Tilde, Ampersand, Bar, Plus, Minus, Star, Slash, Percent, PercentPercent, AndNot, ShiftLeft, ShiftRight, AndAnd, OrOr, EqualEqual, NotEqual, Less, Greater, LessEqual, GreaterEqual, Assign, PlusAssign, MinusAssign, StarAssign, SlashAssign, PercentAssign, PercentPercentAssign, AndAssign, OrAssign, XorAssign, AndNotAssign, ShiftLeftAssign, ShiftRightAssign, Arrow, Dashes, DotDot, DotDotEqual, DotDotLess, HashPlus}
use Rattle.odc_syntax.specs.lexical.Names.{Row, row}

-- `#+` is a directive, and the others are operators and marks
unfoldable pub signs : List Row
signs =
    row "..=" DotDotEqual
    ∷ row "..<" DotDotLess
    ∷ row ".." DotDot
    ∷ row "." Dot
    ∷ row "(" OpenParen
    ∷ row ")" CloseParen
    ∷ row "," Comma
    ∷ row ":" Colon
    ∷ row "==" EqualEqual
    ∷ row "=" Assign
    ∷ row "{" OpenBrace
    ∷ row "}" CloseBrace
    ∷ row "[" OpenBracket
    ∷ row "]" CloseBracket
    ∷ row ";" Semicolon
    ∷ row "^" Caret
    ∷ row "?" Question
    ∷ row "$" Dollar
    ∷ row "@" At
    ∷ row "!=" NotEqual
    ∷ row "!" Bang
    ∷ row "~=" XorAssign
    ∷ row "~" Tilde
    ∷ row "&~=" AndNotAssign
    ∷ row "&~" AndNot
    ∷ row "&&" AndAnd
    ∷ row "&=" AndAssign
    ∷ row "&" Ampersand
    ∷ row "||" OrOr
    ∷ row "|=" OrAssign
    ∷ row "|" Bar
    ∷ row "+=" PlusAssign
    ∷ row "+" Plus
    ∷ row "---" Dashes
    ∷ row "->" Arrow
    ∷ row "-=" MinusAssign
    ∷ row "-" Minus
    ∷ row "*=" StarAssign
    ∷ row "*" Star
    ∷ row "/=" SlashAssign
    ∷ row "/" Slash
    ∷ row "%%=" PercentPercentAssign
    ∷ row "%%" PercentPercent
    ∷ row "%=" PercentAssign
    ∷ row "%" Percent
    ∷ row "<<=" ShiftLeftAssign
    ∷ row "<<" ShiftLeft
    ∷ row "<=" LessEqual
    ∷ row "<" Less
    ∷ row ">>=" ShiftRightAssign
    ∷ row ">>" ShiftRight
    ∷ row ">=" GreaterEqual
    ∷ row ">" Greater
    ∷ row "#+" HashPlus
    ∷ []

-- w is the text of a row with this kind
abbrev pub IsAmong : List Row → TokenKind → List ℕ → Type 0
IsAmong [] k w = ⊥
IsAmong (r ∷ rs) k w = ((w ≡ r.text) × (k ≡ r.kind)) ⊎ IsAmong rs k w

abbrev pub IsSign : TokenKind → List ℕ → Type 0
IsSign k w = IsAmong signs k w
