-- The clean forms of a field, and of what stands behind the names of parameters.
use Rattle.std.specs.Prelude.{List}
use Rattle.odc_syntax.specs.declared.token.Token.{Token}
use Rattle.odc_syntax.specs.Tree.{Type_}
use Rattle.odc_syntax.specs.Tree as tree
use Rattle.odc_syntax.specs.View.{type, maybe_expr}
use Rattle.odc_parse_expr.specs.declared.fields.FieldRead.{FieldRead}
use Rattle.odc_parse_expr.specs.declared.params.TypeAndDefault.{TypeAndDefault}

-- names, their colon, and their type
abbrev pub field_read : FieldRead → List Token × (Token × Type_)
field_read f = (f.field.names.items, (f.colon, type f.field.ty))

-- a type, and what the names before it are given by default
abbrev pub typed_read : TypeAndDefault → Type_ × tree.MaybeExpr
typed_read t = (type t.ty, maybe_expr t.default)
