use Rattle.std.proofs.Common.{List, sym, subst}
use Rattle.odc_syntax.specs.declared.token.Token.{Token}
use Rattle.odc_lookahead.specs.stmts.SwitchParts.{WordRead, plain, plain_word}
use Rattle.odc_lookahead.proofs.switches.SwitchLemmas.{partial_refused, no_switch, partial_read}
use Rattle.odc_parse_expr.proofs.switches.switch_word.Goals as goal

pub returns-in-Some-clause-word : goal.returns-in-Some-clause-word
returns-in-Some-clause-word c = subst (λ (l : List Token). WordRead l c.in-Some.token.at (plain_word c.in-Some.token) c.in-Some.rest.now) (sym c.in-Some.ensures.is) (plain c.in-Some.token c.in-Some.rest.now c.in-Some.ensures.kind)

pub returns-in-None-clause-refused : goal.returns-in-None-clause-refused
returns-in-None-clause-refused c = λ b brace loop. no_switch b c.args.tokens.now brace loop c.in_default.ensures.none c.in-None.ensures.none

pub returns-in-Ok-clause-word : goal.returns-in-Ok-clause-word
returns-in-Ok-clause-word c =
    partial_read c.args.tokens.now c.in-Some-partial.found.0 c.in-Some-partial.found.1.now c.in-Ok.token c.in-Ok.rest.now c.in-Some-partial.ensures.is c.in-Some-partial.ensures.kind c.in-Some-partial.ensures.word c.in-Ok.ensures.is c.in-Ok.ensures.kind

pub returns-in-Err-clause-refused : goal.returns-in-Err-clause-refused
returns-in-Err-clause-refused c = λ b brace loop.
    partial_refused b c.args.tokens.now c.in-Some-partial.found.0 c.in-Some-partial.found.1.now c.in-Err.error c.in-Some-partial.ensures.is c.in-Some-partial.ensures.kind c.in-Some-partial.ensures.word c.in-Err.ensures.refused
