-- Some value of each kind, for what is still pending where a part is cut off.
use Rattle.odc_text.specs.declared.place.Place.{Place}
use Rattle.odc_syntax.specs.declared.token.Token.{Token}
use Rattle.odc_syntax.specs.declared.token.TokenKind.TheVariants.{Semicolon}
use Rattle.odc_syntax.specs.declared.token.Word.TheVariants.{Plain}
use Rattle.odc_syntax.specs.Tree as tree

pub place : Place
place = record { file = record { number = 0 }; line = 0; column = 0 }

pub token : Token
token = record { kind = Semicolon; word = Plain; at = place; from = 0; to = 0 }

pub expr : tree.Expr
expr = tree.expr place place tree.context

pub type : tree.Type_
type = tree.type place (tree.named token)
