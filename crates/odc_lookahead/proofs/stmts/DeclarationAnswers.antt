-- Declarations: what has been read, from the answers of the parts.
use Rattle.std.proofs.Common.{ℕ, List, sym, subst}
use Rattle.odc_text.specs.declared.place.Place.{Place}
use Rattle.odc_syntax.specs.declared.token.Token.{Token}
use Rattle.odc_syntax.specs.declared.grammar.Mode.{Mode}
use Rattle.odc_syntax.specs.Tree.{Type_}
use Rattle.odc_lookahead.specs.stmts.DeclarationParts.{Headed, Typed}
use Rattle.odc_lookahead.proofs.stmts.DeclarationLemmas.{DeclaredAt, declared_at, TypedAt, typed_at}

pub headed_at : (m : Mode) (b : ℕ) (ts : List Token) (at : Place) (ns us : List Token) → Headed b ts at ns us → DeclaredAt m b ts at ns us
headed_at m b ts at ns us z = subst (λ (p : Place). DeclaredAt m b ts p ns us) (sym z.place) (declared_at m b ts z.behind ns z.rest z.first z.colon us z.is z.found z.rest_is z.kind)

pub typed_behind : (m : Mode) (b : ℕ) (ts : List Token) (at : Place) (ns : List Token) (ty : Type_) (n : ℕ) (us : List Token) → Typed b ts at ns ty n us → TypedAt m b ts at ns ty n us
typed_behind m b ts at ns ty n us z = typed_at m b ts at ns z.start ty n us (headed_at m b ts at ns z.start z.headed) z.no_assign z.no_colon z.found
