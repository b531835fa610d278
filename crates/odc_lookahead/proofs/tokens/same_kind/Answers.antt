use denote.Enum.Bare.{same_true, true_same}
use Rattle.odc_syntax.specs.contracts.token.TokenKind.{the_type}
use Rattle.odc_lookahead.proofs.tokens.same_kind.Goals as goal

pub returns : goal.returns
returns c = (λ h. same_true the_type tt _ _ h, λ e. true_same the_type _ _ e)
