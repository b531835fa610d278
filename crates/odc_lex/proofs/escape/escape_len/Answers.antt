use Rattle.std.proofs.Common.{sym, ◌∙◌, subst, arith, rules}
use Rattle.std.proofs.lemmas.List.{take_rest}
use Rattle.odc_lex.proofs.EscapeLemmas.{short_found, coded_found}
use Rattle.odc_lex.specs.Escape.{WritesHex}
use Rattle.odc_lex.proofs.escape.escape_len.Goals as goal

pub returns-then-is_short_escape : goal.returns-then-is_short_escape
returns-then-is_short_escape c = short_found _ (omega arith) (search rules) (sym c.is_short_escape.ensures ∙ c.if-is_short_escape.true)

pub returns-in-Some : goal.returns-in-Some
returns-in-Some c =
    coded_found _ _ _ (omega arith) (search rules) c.hex_digits-digits.ensures (omega arith)
    (subst (λ t. WritesHex t c.hex_digits-digits.result c.in_ok-code.code) (take_rest c.args.text.now 2) c.in_ok-code.ensures.some)
    c.in-Some.ensures.value.0
