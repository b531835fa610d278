use Rattle.std.proofs.Common.{List, Option, Some, None, IfSome, IfNone, sym, subst}
use Rattle.odc_syntax.specs.Derives.{StartsWithout}
use Rattle.odc_syntax.specs.declared.token.Token.{Token}
use Rattle.odc_syntax.specs.declared.token.TokenKind.{TokenKind}
use Rattle.odc_lookahead.specs.Lists.{Closed, Open, Parted, Ended, trailing, Again}
use Rattle.odc_lookahead.proofs.lists.after_item.Goals as goal

behind_ended : (close : TokenKind) (ts us : List Token) (o : Option Token) (rest : List Token) → Parted ts us → IfSome o (λ t. Closed close us t rest) → IfSome o (λ t. Ended close ts t rest)
behind_ended close ts us (Some t) rest p c = trailing us p c
behind_ended close ts us None rest p c = c

behind_again : (close : TokenKind) (ts us : List Token) (o : Option Token) (rest : List Token) → Parted ts us → IfNone o (Open close us rest) → IfNone o (Again close ts rest)
behind_again close ts us (Some t) rest p c = c
behind_again close ts us None rest p c =
    record { parted = subst (λ (l : List Token). Parted ts l) (sym c.is) p; open_ = subst (λ (l : List Token). StartsWithout close l) (sym c.is) c.open_ }

pub returns-in-Within-fit-clause-ended : goal.returns-in-Within-fit-clause-ended
returns-in-Within-fit-clause-ended c =
    behind_ended c.args.close c.args.tokens.now c.in-Some-strip.rest.now c.behind_comma.result.0 c.behind_comma.result.1.now
    (record { comma = c.in-Some-strip._comma; is = c.in-Some-strip.ensures.is; kind = c.in-Some-strip.ensures.kind }) c.behind_comma.ensures.ended

pub returns-in-Within-fit-clause-again : goal.returns-in-Within-fit-clause-again
returns-in-Within-fit-clause-again c =
    behind_again c.args.close c.args.tokens.now c.in-Some-strip.rest.now c.behind_comma.result.0 c.behind_comma.result.1.now
    (record { comma = c.in-Some-strip._comma; is = c.in-Some-strip.ensures.is; kind = c.in-Some-strip.ensures.kind }) c.behind_comma.ensures.again
