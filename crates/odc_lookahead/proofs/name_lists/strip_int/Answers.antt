use Rattle.std.proofs.Common.{◌≡◌, ◌∙◌, sym, ap, true, false}
use Rattle.odc_syntax.specs.declared.token.Token.{Token}
use Rattle.odc_syntax.specs.declared.token.TokenKind.TheVariants.{Name}
use Rattle.odc_lookahead.proofs.reading.Leading.{without, first_is}
use Rattle.odc_lookahead.proofs.name_lists.strip_int.Goals as goal

pub returns-then-is_int-clause-word : goal.returns-then-is_int-clause-word
returns-then-is_int-clause-word c = c.is_int.ensures.0 c.if-is_int.true

pub returns-else-is_int-clause-none : goal.returns-else-is_int-clause-none
returns-else-is_int-clause-none c = λ t us is k w.
    let same = first_is (sym c.in-Some.ensures.is ∙ is) in
    let bad : true ≡ false = sym (c.is_int.ensures.1 (sym (ap (λ (t : Token). t.word) same) ∙ w)) ∙ c.if-is_int.false in
    cc

pub returns-in-None-clause-none : goal.returns-in-None-clause-none
returns-in-None-clause-none c = λ t us is k w. without Name t us c.args.tokens.now is k c.in-None.ensures.none
