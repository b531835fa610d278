use Rattle.std.proofs.Common.{◌≡◌, ◌∙◌, sym, true, false, arith}
use Rattle.odc_syntax.specs.Grammar as g
use Rattle.odc_syntax.specs.View.{decl}
use Rattle.odc_lookahead.specs.Exact.{one}
use Rattle.odc_lookahead.proofs.reading.Carrying.{over_by}
use Rattle.odc_parse.specs.Read.{starts_item}
use Rattle.odc_parse.proofs.FileLemmas.{because, items_start, items_refused, items_next, items_unclosed, items_end}
use Rattle.odc_parse.proofs.items.items.Goals as goal

pub list-init : goal.list-init
list-init c = record { led = items_start c.args.tokens.now c.new-list.result.items c.new-list.ensures.items; low = omega arith }

pub list-preserved : goal.list-preserved
list-preserved c = record {
  led =
      items_next c.args.tokens.now c.list.list.items c.in_ok-list.list.items c.in-Ok.read.tree c.list.height c.in-Ok.read.height c.max-height.result c.list.rest.now c.in-Ok.read.rest.now c.in-Ok-expect.after.now c.in-Ok-expect._semicolon
      c.list.invariant.led c.list.invariant.low c.in-Ok.ensures.shorter (c.in-Ok.ensures.exact (c.begins_item.ensures.0 c.list-test.true)) c.in_ok-list.ensures c.in-Ok-expect.ensures.is c.in-Ok-expect.ensures.kind
      (c.within.ensures.0 c.in-Ok-expect.ensures.within) c.max-height.ensures;
  low = let read = c.within.ensures.0 c.in-Ok-expect.ensures.within in let before = c.list.invariant.low in omega (arith, c.max-height.ensures, read, before);
}

pub returns-in-Err-clause-exact : goal.returns-in-Err-clause-exact
returns-in-Err-clause-exact c =
    because (one g.decls) starts_item c.args.tokens.now c.in-Err.stop c.discard_decls.result c.discard_decls.ensures
    (items_refused c.args.tokens.now c.list.list.items c.list.height c.list.rest.now c.in-Err.stop c.list.invariant.led c.list.invariant.low (c.in-Err.ensures.exact (c.begins_item.ensures.0 c.list-test.true)))

pub returns-in-Err-expect-clause-exact : goal.returns-in-Err-expect-clause-exact
returns-in-Err-expect-clause-exact c =
    items_unclosed c.args.tokens.now c.list.list.items (decl c.in-Ok.read.tree) c.list.height c.in-Ok.read.height c.list.rest.now c.in-Ok.read.rest.now c.in-Err-expect.stop c.discard_decls-in-Err-expect.result _
    c.list.invariant.led c.list.invariant.low c.in-Ok.ensures.shorter (c.in-Ok.ensures.exact (c.begins_item.ensures.0 c.list-test.true)) (λ over. over_by _ _ _ c.within.ensures.1 over) c.in-Err-expect.ensures.refused
    (c.discard_decls-in-Err-expect.ensures ∙ c.discard_decl.ensures)

pub returns-clause-exact : goal.returns-clause-exact
returns-clause-exact c =
    items_end c.args.tokens.now c.list.list.items c.list.height c.list.rest.now c.list.invariant.led c.list.invariant.low
    (λ b. let bad : true ≡ false = sym (c.begins_item.ensures.1 b) ∙ c.list-test.false in cc)

pub returns-clause-low : goal.returns-clause-low
returns-clause-low c = c.list.invariant.low
