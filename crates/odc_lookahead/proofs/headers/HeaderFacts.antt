-- What the records of headers say, in the words of their lemmas.
use Rattle.std.proofs.Common.{ℕ, List, ◌∷◌, refl}
use Rattle.odc_syntax.specs.declared.token.Token.{Token}
use Rattle.odc_syntax.specs.Tree.{Expr}
use Rattle.odc_lookahead.specs.stmts.Headers as header
use Rattle.odc_lookahead.proofs.headers.HeadExpressions.{Single, single_none, single_name, HeadExpression}
use Rattle.odc_lookahead.proofs.headers.HeadLemmas.{Listed}

pub single_at : (ts place : List Token) → header.Single ts place → Single ts place
single_at ts place (header.unnamed _ f) = single_none ts f
single_at ts place (header.named t us e f k) = single_name (t ∷ us) t us refl e f k

pub listed_at : (ts place : List Token) → header.Listed ts place → Listed ts place
listed_at ts place z = record { first = z.first; comma = z.comma; others = z.others; is = z.is; name = z.name; kind = z.kind; run = z.run }

pub expression_at : (b : ℕ) (ts place : List Token) (v : Expr) (n : ℕ) (rest : List Token) → header.HeadExpression b ts place v n rest → HeadExpression b ts place v n rest
expression_at b ts place v n rest z = record { some = z.some; single = single_at ts place z.single; found = z.found }
