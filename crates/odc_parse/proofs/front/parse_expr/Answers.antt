use Rattle.odc_syntax.specs.declared.grammar.Mode.TheVariants.{Free}
use Rattle.odc_syntax.specs.declared.grammar.Level.TheVariants.{Or}
use Rattle.odc_syntax.specs.Grammar as g
use Rattle.odc_syntax.specs.View.{expr}
use Rattle.odc_lookahead.specs.Sets.{continues}
use Rattle.odc_lookahead.proofs.faults.BlameLemmas.{read_from, cut_from, stopped_from}
use Rattle.odc_parse.proofs.front.parse_expr.Goals as goal

pub returns-in-Ok-end_of-clause-read : goal.returns-in-Ok-end_of-clause-read
returns-in-Ok-end_of-clause-read c =
    read_from (g.expression Free) (continues Or Free) c.args.t.now.list.items c.tokens_from.result.now c.args.from c.in-Ok-end_of.next c.in-Ok.field-0.height (expr c.in-Ok.field-0.tree) c.in-Ok.field-0.rest.now c.requires c.tokens_from.ensures
    c.in-Ok.ensures.exact c.in-Ok-end_of.ensures.next c.in-Ok-end_of.ensures.low c.in-Ok-end_of.ensures.clean

pub returns-in-Err-end_of-clause-not_read : goal.returns-in-Err-end_of-clause-not_read
returns-in-Err-end_of-clause-not_read c =
    cut_from (g.expression Free) (continues Or Free) c.args.t.now.list.items c.tokens_from.result.now c.args.t.now.end c.args.from c.in-Ok.field-0.height (expr c.in-Ok.field-0.tree) c.in-Ok.field-0.rest.now c.in-Err-end_of.fault c.discard_expr.result
    c.requires c.tokens_from.ensures c.discard_expr.ensures c.in-Ok.ensures.exact c.in-Err-end_of.ensures.cut

pub returns-in-Err-clause-not_read : goal.returns-in-Err-clause-not_read
returns-in-Err-clause-not_read c =
    stopped_from (g.expression Free) (continues Or Free) c.args.t.now.list.items c.tokens_from.result.now c.args.t.now.end c.args.from c.in-Err.stop c.stopped.result c.requires c.tokens_from.ensures c.in-Err.ensures.exact c.stopped.ensures
