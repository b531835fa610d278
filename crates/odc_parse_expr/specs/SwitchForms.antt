-- The clean forms of what the functions on switches give.
use Rattle.std.specs.Prelude.{Vec}
use Rattle.std.specs.declared.alloc.Global.{Global}
use Rattle.odc_syntax.specs.declared.tree.Span.{Span}
use Rattle.odc_syntax.specs.declared.tree.Case.{Case}
use Rattle.odc_syntax.specs.Tree as tree
use Rattle.odc_syntax.specs.View.{expr, maybe_expr, header_of, spans, cases}
use Rattle.odc_parse_expr.specs.declared.switches.SwitchHead.{SwitchHead}
use Rattle.odc_parse_expr.specs.declared.switches.SwitchHead.TheVariants as head
use Rattle.odc_lookahead.specs.stmts.SwitchParts as part
use Rattle.odc_lookahead.specs.stmts.SwitchParts.{by_value, by_type}

abbrev pub span_list : Vec Span Global → tree.Spans
span_list xs = spans xs.items

abbrev pub case_list : Vec Case Global → tree.Cases
case_list xs = cases xs.items

abbrev pub head_of : SwitchHead → part.SwitchHead
head_of (head.Value h e) = by_value (header_of h) (maybe_expr e)
head_of (head.Type n i e) = by_type n i (expr e)
