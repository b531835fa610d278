-- The operators that the kinds of tokens stand for.
use Rattle.std.specs.Prelude.{Option, Some, None}
use Rattle.odc_syntax.specs.declared.token.TokenKind.{TokenKind}
use Rattle.odc_syntax.specs.declared.token.TokenKind.TheVariants.{AndAnd, OrOr, EqualEqual, NotEqual, Less, Greater, LessEqual, GreaterEqual, Plus, Minus, Bar, Tilde, Star, Slash, Percent, PercentPercent, Ampersand, AndNot, ShiftLeft, ShiftRight, Bang, Assign, PlusAssign, MinusAssign, StarAssign, SlashAssign, PercentAssign, PercentPercentAssign, AndAssign, OrAssign, XorAssign, AndNotAssign, ShiftLeftAssign, ShiftRightAssign}
use Rattle.odc_syntax.specs.declared.grammar.Level.{Level}
use Rattle.odc_syntax.specs.declared.grammar.Level.TheVariants as level
use Rattle.odc_syntax.specs.declared.tree.UnaryOp.{UnaryOp}
use Rattle.odc_syntax.specs.declared.tree.UnaryOp.TheVariants as prefix
use Rattle.odc_syntax.specs.declared.tree.BinaryOp.{BinaryOp}
use Rattle.odc_syntax.specs.declared.tree.BinaryOp.TheVariants as binary
use Rattle.odc_syntax.specs.declared.tree.AssignOp.{AssignOp}
use Rattle.odc_syntax.specs.declared.tree.AssignOp.TheVariants.{Set, By}

-- the operator before an operand
abbrev pub prefix_of : TokenKind → Option UnaryOp
prefix_of Plus = Some prefix.Plus
prefix_of Minus = Some prefix.Minus
prefix_of Bang = Some prefix.Not
prefix_of Tilde = Some prefix.Complement
prefix_of Ampersand = Some prefix.Address
prefix_of _ = None

-- the operator between two operands
abbrev pub operator_of : TokenKind → Option BinaryOp
operator_of OrOr = Some binary.Or
operator_of AndAnd = Some binary.And
operator_of EqualEqual = Some binary.Equal
operator_of NotEqual = Some binary.NotEqual
operator_of Less = Some binary.Less
operator_of Greater = Some binary.Greater
operator_of LessEqual = Some binary.LessEqual
operator_of GreaterEqual = Some binary.GreaterEqual
operator_of Plus = Some binary.Add
operator_of Minus = Some binary.Subtract
operator_of Bar = Some binary.BitOr
operator_of Tilde = Some binary.BitXor
operator_of Star = Some binary.Multiply
operator_of Slash = Some binary.Divide
operator_of Percent = Some binary.Remainder
operator_of PercentPercent = Some binary.Modulo
operator_of Ampersand = Some binary.BitAnd
operator_of AndNot = Some binary.AndNot
operator_of ShiftLeft = Some binary.ShiftLeft
operator_of ShiftRight = Some binary.ShiftRight
operator_of _ = None

-- how tight it binds
abbrev pub level_of : BinaryOp → Level
level_of binary.Or = level.Or
level_of binary.And = level.And
level_of binary.Equal = level.Comparison
level_of binary.NotEqual = level.Comparison
level_of binary.Less = level.Comparison
level_of binary.Greater = level.Comparison
level_of binary.LessEqual = level.Comparison
level_of binary.GreaterEqual = level.Comparison
level_of binary.Add = level.Sum
level_of binary.Subtract = level.Sum
level_of binary.BitOr = level.Sum
level_of binary.BitXor = level.Sum
level_of binary.Multiply = level.Product
level_of binary.Divide = level.Product
level_of binary.Remainder = level.Product
level_of binary.Modulo = level.Product
level_of binary.BitAnd = level.Product
level_of binary.AndNot = level.Product
level_of binary.ShiftLeft = level.Product
level_of binary.ShiftRight = level.Product

-- the operator of an assignment
abbrev pub assignment_of : TokenKind → Option AssignOp
assignment_of Assign = Some Set
assignment_of PlusAssign = Some (By binary.Add)
assignment_of MinusAssign = Some (By binary.Subtract)
assignment_of StarAssign = Some (By binary.Multiply)
assignment_of SlashAssign = Some (By binary.Divide)
assignment_of PercentAssign = Some (By binary.Remainder)
assignment_of PercentPercentAssign = Some (By binary.Modulo)
assignment_of AndAssign = Some (By binary.BitAnd)
assignment_of OrAssign = Some (By binary.BitOr)
assignment_of XorAssign = Some (By binary.BitXor)
assignment_of AndNotAssign = Some (By binary.AndNot)
assignment_of ShiftLeftAssign = Some (By binary.ShiftLeft)
assignment_of ShiftRightAssign = Some (By binary.ShiftRight)
assignment_of _ = None
