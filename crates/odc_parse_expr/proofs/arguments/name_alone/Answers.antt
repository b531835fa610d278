use Rattle.std.proofs.Common.{List, [], ◌∷◌, None, refl, sym, ap}
use Rattle.odc_syntax.specs.Tree as tree
use Rattle.odc_syntax.specs.declared.token.Token.{Token}
use Rattle.odc_syntax.specs.declared.grammar.Mode.{Mode}
use Rattle.odc_lookahead.specs.Read.{NothingGoesOn}
use Rattle.odc_syntax.specs.declared.grammar.Mode.TheVariants.{Free}
use Rattle.odc_lookahead.proofs.reading.Answering.{answer_is}
use Rattle.odc_lookahead.proofs.expr.WholeLemmas.{Ends}
use Rattle.odc_lookahead.proofs.expr.ArgLemmas.{alone_found, alone_deep}
use Rattle.odc_parse_expr.proofs.arguments.name_alone.Goals as goal

ends : (m : Mode) (ts : List Token) → NothingGoesOn m ts → Ends m ts
ends m [] h = h
ends m (t ∷ ts) h = h

pub returns-in-Some-clause-exact : goal.returns-in-Some-clause-exact
returns-in-Some-clause-exact c = λ e open'. alone_deep c.args.name c.in-Some._token c.args.behind.now c.in-Some.rest.now e c.in-Some.ensures.is open' c.in-Some.ensures.on

pub returns-in_ok-value-in-None-clause-exact : goal.returns-in_ok-value-in-None-clause-exact
returns-in_ok-value-in-None-clause-exact c = λ e open'.
    answer_is (ap (λ (v : tree.Expr). (None, v)) (sym c.in_ok-value-in-None.ensures)) refl (alone_found c.args.name c.args.behind.now e open' (ends Free c.args.behind.now c.in-None.ensures.none))
