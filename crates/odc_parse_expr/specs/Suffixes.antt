-- The clean forms of what stands behind an operand, and of arguments.
use Rattle.std.specs.Prelude.{Option, Vec}
use Rattle.std.specs.declared.alloc.Global.{Global}
use Rattle.odc_syntax.specs.declared.token.Token.{Token}
use Rattle.odc_syntax.specs.declared.tree.Arg.{Arg}
use Rattle.odc_syntax.specs.Tree as tree
use Rattle.odc_syntax.specs.Grammar as g
use Rattle.odc_syntax.specs.View.{expr, type, args, maybe_expr}
use Rattle.odc_parse_expr.specs.declared.postfix.Suffix.{Suffix}
use Rattle.odc_parse_expr.specs.declared.postfix.Suffix.TheVariants as s
use Rattle.odc_lookahead.specs.declared.read.Closed.{Closed}

abbrev pub suffix : Suffix → g.Suffix
suffix (s.Select at t) = g.select at t
suffix (s.Assert at t) = g.assert at (type t)
suffix (s.Deref at) = g.deref at
suffix (s.Index at i) = g.index at (expr i)
suffix (s.Cut at low high) = g.cut at (maybe_expr low) (maybe_expr high)
suffix (s.Call xs) = g.call (args xs.items)
suffix s.OrReturn = g.or_return
suffix (s.Literal xs) = g.literal (args xs.items)

-- the end of a cut, and its bracket
abbrev pub high_of : Closed (Option tree.Expr) → tree.MaybeExpr × (Token × Unit {0})
high_of h = (maybe_expr h.part, (h.close, tt))

abbrev pub argument : Arg → Option Token × tree.Expr
argument x = (x.name, expr x.value)

-- arguments, and their closing token
abbrev pub argument_list : Closed (Vec Arg Global) → tree.Args × (Token × Unit {0})
argument_list l = (args l.part.items, (l.close, tt))
