-- An answer at a bound that leaves a node, and of tokens of which the first is known.
use Rattle.std.proofs.Common.{◌≡◌, ℕ, suc, Bool, List, ◌∷◌, sym, subst}
use Rattle.odc_syntax.specs.declared.token.Token.{Token}
use Rattle.odc_syntax.specs.declared.token.TokenKind.{TokenKind}
use Rattle.odc_lookahead.specs.declared.stop.Stop.{Stop}
use Rattle.odc_lookahead.specs.Exact.{Part, Exact, Answer, Found}
use Rattle.odc_lookahead.specs.Read.{refused}

pub at_depth : {V : Type 0} (p : Part V) (cont : TokenKind → Bool) (d b : ℕ) (ts : List Token) (r : Answer V) → d ≡ suc b → Exact p cont (suc b) ts r → Exact p cont d ts r
at_depth p cont d b ts r deeper h = subst (λ (n : ℕ). Exact p cont n ts r) (sym deeper) h

pub at_tokens : {V : Type 0} (p : Part V) (cont : TokenKind → Bool) (b : ℕ) (ts : List Token) (t : Token) (us : List Token) (r : Answer V) → ts ≡ t ∷ us → Exact p cont b (t ∷ us) r → Exact p cont b ts r
at_tokens p cont b ts t us r is h = subst (λ (l : List Token). Exact p cont b l r) (sym is) h

-- the same of what is read, and of what is refused
pub found_depth : {V : Type 0} {p : Part V} {cont : TokenKind → Bool} {d : ℕ} (b : ℕ) {ts : List Token} {v : V} {n : ℕ} {rest : List Token} → d ≡ suc b → Found p cont (suc b) ts v n rest → Found p cont d ts v n rest
found_depth {V} {p} {cont} {d} b {ts} {v} {n} {rest} deeper h = subst (λ (k : ℕ). Found p cont k ts v n rest) (sym deeper) h

pub found_front : {V : Type 0} {p : Part V} {cont : TokenKind → Bool} {d : ℕ} (b : ℕ) {ts : List Token} {t : Token} {us : List Token} {v : V} {n : ℕ} {rest : List Token} → d ≡ suc b → ts ≡ t ∷ us → Found p cont (suc b) (t ∷ us) v n rest → Found p cont d ts v n rest
found_front {V} {p} {cont} {d} b {ts} {t} {us} {v} {n} {rest} deeper is h = found_depth b deeper (subst (λ (l : List Token). Found p cont (suc b) l v n rest) (sym is) h)

pub refused_depth : {V : Type 0} (p : Part V) (cont : TokenKind → Bool) (d b : ℕ) (ts : List Token) (e : Stop) → d ≡ suc b → Exact p cont (suc b) ts (refused e) → Exact p cont d ts (refused e)
refused_depth p cont d b ts e deeper h = at_depth p cont d b ts (refused e) deeper h
