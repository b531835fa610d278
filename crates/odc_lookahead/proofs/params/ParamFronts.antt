-- What stands in front of a list of parameters.
use Rattle.std.proofs.Common.{◌≡◌, List, ◌∷◌, sym, subst}
use Rattle.odc_syntax.specs.declared.token.Token.{Token}
use Rattle.odc_syntax.specs.declared.token.TokenKind.TheVariants as kind
use Rattle.odc_syntax.specs.declared.grammar.Use.{Use}
use Rattle.odc_syntax.specs.declared.grammar.Use.TheVariants.{Parameter}
use Rattle.odc_lookahead.specs.ParamForms.{Front, dollar}

pub front_dollar : (u : Use) (t : Token) (ts us : List Token) → ts ≡ t ∷ us → u ≡ Parameter → t.kind ≡ kind.Dollar → Front u ts us
front_dollar u t ts us is i e = subst (λ (l : List Token). Front u l us) (sym is) (dollar i e)
