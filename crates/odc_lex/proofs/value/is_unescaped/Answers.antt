use Rattle.std.proofs.Common.{◌≡◌, ◌∙◌, sym, ap, false, drop, bytes_eq, arith}
use Rattle.std.proofs.lemmas.List.{drop_all}
use Rattle.odc_syntax.specs.lexical.Value.{unescaped}
use Rattle.odc_lex.specs.Value.{reading_of}
use Rattle.odc_lex.proofs.ValueLemmas.{other, past}
use Rattle.odc_lex.proofs.value.is_unescaped.Goals as goal
use Rattle.odc_lex.proofs.value.is_unescaped.Goals.{then-at-value-via-then-at-value, then-at-value-via-else-at-value+then-coded-value}

pub returns-then-at-value : goal.returns-then-at-value
returns-then-at-value c =
    let inside = c.args.inside.now in
    let v = c.args.value.now in
    let at = c.loop-b.at in
    let text = unescaped (reading_of c.loop-b.reading) (drop c.loop-b.b-index inside) in
    let stops : bytes_eq text (drop at v) ≡ false =
    elim c.then-at-value.branch [
      | then-at-value-via-then-at-value w ↦ ap (bytes_eq text) (drop_all at v (omega (arith, w.if-at-value.true)))
          ∙ past c.loop-b.reading c.read_byte-step.result inside c.loop-b.b-index c.loop-b-test.true c.read_byte-step.ensures.reads c.in-Some.coded c.in-Some.is
      | then-at-value-via-else-at-value+then-coded-value w ↦ other c.loop-b.reading c.read_byte-step.result inside c.loop-b.b-index c.loop-b-test.true c.read_byte-step.ensures.reads c.in-Some.coded c.in-Some.is
          v at c.requires (omega (arith, w.if-at-value.false)) w.if-coded-value.true
    ] in
    sym stops ∙ c.loop-b.invariant.same
