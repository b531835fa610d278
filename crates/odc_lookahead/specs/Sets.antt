-- Which kinds of tokens the parts of the grammar begin with, and which go on with a part.
use Rattle.std.specs.Prelude.{ℕ, suc, ◌==◌, Bool, true, false, ◌||◌, Option, Some, None, nat_le}
use Rattle.odc_syntax.specs.declared.token.TokenKind.{TokenKind}
use Rattle.odc_syntax.specs.declared.token.TokenKind.TheVariants.{Name, Int, Rune, Text, Directive, Proc, Struct, Union, Enum, Distinct, Context, Cast, OrReturn, OpenParen, OpenBracket, OpenBrace, Dot, Caret, Dollar, If, For, Switch, Defer, Return, Break, Continue, Fallthrough, Ampersand, Assign}
use Rattle.odc_syntax.specs.declared.tree.BinaryOp.{BinaryOp}
use Rattle.odc_syntax.specs.declared.tree.UnaryOp.{UnaryOp}
use Rattle.odc_syntax.specs.declared.grammar.Mode.{Mode}
use Rattle.odc_syntax.specs.declared.grammar.Mode.TheVariants.{Free, Header, Start}
use Rattle.odc_syntax.specs.declared.grammar.Use.{Use}
use Rattle.odc_syntax.specs.declared.grammar.Use.TheVariants.{Plain, Parameter, Operand, OperandEnd}
use Rattle.odc_syntax.specs.declared.grammar.Level.{Level}
use Rattle.odc_syntax.specs.declared.grammar.Level.TheVariants as level
use Rattle.odc_syntax.specs.Operators.{prefix_of, operator_of, level_of}

-- how tight a level binds
abbrev pub rank : Level → ℕ
rank level.Or = 0
rank level.And = 1
rank level.Comparison = 2
rank level.Sum = 3
rank level.Product = 4

-- no literal stands at the start of what stands so
abbrev pub is_free : Mode → Bool
is_free Free = true
is_free Header = false
is_free Start = false

-- braces may stand behind an operand
abbrev pub takes_braces : Mode → Bool
takes_braces Free = true
takes_braces Header = false
takes_braces Start = true

abbrev pub is_parameter : Use → Bool
is_parameter Parameter = true
is_parameter Plain = false
is_parameter Operand = false
is_parameter OperandEnd = false

abbrev pub is_prefix : Option UnaryOp → Bool
is_prefix (Some op) = true
is_prefix None = false

-- the operator has exactly this level; it has this level or a tighter one
abbrev pub has_rank : ℕ → Option BinaryOp → Bool
has_rank r (Some op) = rank (level_of op) == r
has_rank r None = false

abbrev pub has_rank_from : ℕ → Option BinaryOp → Bool
has_rank_from r (Some op) = nat_le r (rank (level_of op))
has_rank_from r None = false

abbrev pub starts_constructed : Use → TokenKind → Bool
starts_constructed u Caret = true
starts_constructed u Distinct = true
starts_constructed u OpenBracket = true
starts_constructed u Directive = true
starts_constructed u Struct = true
starts_constructed u Union = true
starts_constructed u Enum = true
starts_constructed u Dollar = is_parameter u
starts_constructed u _ = false

abbrev pub starts_other_type : TokenKind → Bool
starts_other_type Name = true
starts_other_type OpenParen = true
starts_other_type Proc = true
starts_other_type _ = false

abbrev pub starts_type : Use → TokenKind → Bool
starts_type u k = starts_constructed u k || starts_other_type k

abbrev pub starts_own : Mode → TokenKind → Bool
starts_own m Name = true
starts_own m Int = true
starts_own m Rune = true
starts_own m Text = true
starts_own m Context = true
starts_own m Directive = true
starts_own m Dot = true
starts_own m OpenParen = true
starts_own m Proc = true
starts_own m OpenBrace = is_free m
starts_own m _ = false

abbrev pub starts_operand : Mode → TokenKind → Bool
starts_operand m k = starts_own m k || starts_constructed Operand k

abbrev pub is_cast : TokenKind → Bool
is_cast Cast = true
is_cast _ = false

abbrev pub starts_expression : Mode → TokenKind → Bool
starts_expression m k = starts_operand m k || (is_cast k || is_prefix (prefix_of k))

abbrev pub starts_suffix : Mode → TokenKind → Bool
starts_suffix m Dot = true
starts_suffix m Caret = true
starts_suffix m OpenBracket = true
starts_suffix m OpenParen = true
starts_suffix m OrReturn = true
starts_suffix m OpenBrace = takes_braces m
starts_suffix m _ = false

-- what may go on with a chain of operators of this level: a suffix, or an operator of this level or a
-- tighter one
abbrev pub continues : Level → Mode → TokenKind → Bool
continues l m k = starts_suffix m k || has_rank_from (rank l) (operator_of k)

abbrev pub starts_labelled : TokenKind → Bool
starts_labelled OpenBrace = true
starts_labelled For = true
starts_labelled Switch = true
starts_labelled Directive = true
starts_labelled _ = false

abbrev pub starts_word : TokenKind → Bool
starts_word Name = true
starts_word If = true
starts_word Defer = true
starts_word Return = true
starts_word Break = true
starts_word Continue = true
starts_word Fallthrough = true
starts_word _ = false

abbrev pub starts_statement : TokenKind → Bool
starts_statement k = starts_expression Start k || (starts_labelled k || starts_word k)

abbrev pub starts_variables : TokenKind → Bool
starts_variables Name = true
starts_variables Ampersand = true
starts_variables _ = false

abbrev pub starts_named : Use → TokenKind → Bool
starts_named u Name = true
starts_named u Dollar = is_parameter u
starts_named u _ = false

abbrev pub nothing_continues : TokenKind → Bool
nothing_continues k = false

-- the same of what the operators of a level stand between
abbrev pub continues_item : Level → Mode → TokenKind → Bool
continues_item l m k = starts_suffix m k || has_rank_from (suc (rank l)) (operator_of k)

-- the level of what stands between the operators of a level, unless that is one operand
abbrev pub tighter : Level → Option Level
tighter level.Or = Some level.And
tighter level.And = Some level.Comparison
tighter level.Comparison = Some level.Sum
tighter level.Sum = Some level.Product
tighter level.Product = None

-- how much the functions that read a level may still call before they read a token
abbrev pub weight : Level → ℕ
weight level.Or = 15
weight level.And = 12
weight level.Comparison = 9
weight level.Sum = 6
weight level.Product = 3

-- what may go on with an argument: what goes on with an expression, and `=` behind a name
abbrev pub continues_argument : TokenKind → Bool
continues_argument Assign = true
continues_argument k = continues level.Or Free k
