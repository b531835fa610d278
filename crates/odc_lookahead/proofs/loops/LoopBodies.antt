-- What stands behind the start of a loop's header.
use Rattle.std.proofs.Common.{◌≡◌, ℕ, true, false, List, ◌∷◌, refl, sym, ◌∙◌, arith}
use Rattle.odc_syntax.specs.declared.token.TokenKind.{TokenKind}
use Rattle.odc_syntax.specs.declared.token.TokenKind.TheVariants as kind
use Rattle.odc_syntax.specs.Tree.{Stmts}
use Rattle.odc_syntax.specs.Grammar.{Sym}
use Rattle.odc_syntax.specs.Grammar as g
use Rattle.odc_lookahead.specs.Exact.{Clear}
use Rattle.odc_lookahead.specs.stmts.StatementSets.{continues_head}
use Rattle.odc_lookahead.proofs.reading.Opening.{reach_opens, is_body}

body_stops : (k : TokenKind) → is_body k ≡ true → continues_head k ≡ false
body_stops kind.OpenBrace e = refl
body_stops kind.Do e = refl
body_stops _ e = cc

-- a body does not go on with what stands before it
pub body_heads : (c : ℕ) (ss : Stmts) (s : List Sym) → Clear continues_head (g.body c ss ∷ s)
body_heads c ss s = record {
  stops = λ t us s' ts' on r h.
      let opens : is_body t.kind ≡ true = reach_opens r (omega (arith, h)) in
      let bad : true ≡ false = sym on ∙ body_stops t.kind opens in
      cc;
}
