-- Why what stands at the start of a header is not read, where a reading that is not asked of the clauses
-- comes to that place.
use Rattle.std.proofs.Common.{ℕ, suc, ◌*◌, ◌<◌, ◌≤◌, Bool, List, ◌++◌, length, sym, subst, arith}
use Rattle.odc_syntax.specs.declared.token.Token.{Token}
use Rattle.odc_syntax.specs.declared.token.TokenKind.{TokenKind}
use Rattle.odc_syntax.specs.Grammar.{Sym}
use Rattle.odc_syntax.specs.Derives.{Reach}
use Rattle.odc_lookahead.specs.declared.stop.Stop.{Stop}
use Rattle.odc_lookahead.specs.declared.stop.Stop.TheVariants as stop
use Rattle.odc_lookahead.specs.Exact.{size, Clear, Part, ComesAt, Comes, Exact}
use Rattle.odc_lookahead.specs.Read.{refused}
use Rattle.odc_lookahead.specs.stmts.Clauses.{Clause, clause_then}
use Rattle.odc_lookahead.proofs.reading.Reaching.{along}
use Rattle.odc_lookahead.proofs.reading.Leading.{Rises}
use Rattle.odc_lookahead.proofs.reading.Deciding.{stop_limit, Leads}
use Rattle.odc_lookahead.proofs.headers.ListBounds.{Goes}

-- to where an answer that refuses says that one comes
abbrev pub stop_place : Stop → ℕ
stop_place (stop.Syntax left) = left
stop_place (stop.Deep left) = suc left
stop_place stop.Memory = 0

-- a clause that comes to where so many tokens are left
pub record ClauseGoes {U : Type 0} (bare closed : Part U) (c : ℕ) (ts : List Token) (left : ℕ) : Type 0 where
  pub clause : Clause
  pub after : U
  pub goes : (s : List Sym) → Goes left (clause_then bare closed c (clause, after) ++ s) ts

-- what is known of the clauses
abbrev pub ClausesOver : {U : Type 0} → (TokenKind → Bool) → Part U → Part U → ℕ → List Token → Stop → Type 0
ClausesOver {U} cont bare closed b ts (stop.Syntax left) = (c : ℕ) (k : Clause) (u : U) (s s' : List Sym) (ts' : List Token) → Clear cont s → Reach s' ts' (clause_then bare closed c (k, u) ++ s) ts → size s' ts' ≤ 2 * left → ⊥
ClausesOver {U} cont bare closed b ts (stop.Deep left) = ((c : ℕ) (k : Clause) (u : U) (s s' : List Sym) (ts' : List Token) → Clear cont s → Reach s' ts' (clause_then bare closed c (k, u) ++ s) ts → size s' ts' ≤ suc (2 * left) → b < c) × ((d : ℕ) × ((c : ℕ) → d ≤ c → ClauseGoes bare closed c ts left))
ClausesOver {U} cont bare closed b ts stop.Memory = Unit {0}

comes_up : {V : Type 0} {p : Part V} {up : ℕ → ℕ} {ts : List Token} {left d : ℕ} → Rises up → ((c : ℕ) → d ≤ c → ComesAt p (up c) ts left) → Comes p (up d) ts left
comes_up {V} {p} {up} {ts} {left} {d} rises f = record {
  at = λ c h. let q = rises.pred d c h in subst (λ (m : ℕ). ComesAt p m ts left) (sym q.1.0) (f q.0 q.1.1);
}

module _ {V U : Type 0} {p : Part V} {cont : TokenKind → Bool} {up : ℕ → ℕ} {b : ℕ} {ts ws : List Token} (bare closed : Part U) {f : Clause × U → V} (rises : Rises up) {far : ℕ} (led : Leads p cont up b ws (clause_then bare closed) f 0 ts far) where
  -- a clause comes there, so the whole does
  pub clause_comes : (d left : ℕ) → ((c : ℕ) → d ≤ c → ClauseGoes bare closed c ts left) → Comes p (up d) ws left
  clause_comes d left goes =
      comes_up rises (λ c h.
      let a = goes c h in
      record {
        value = f (a.clause, a.after);
        before = λ s. let z = a.goes s in record { pending = z.pending; rest = z.rest; rest_is = z.rest_is; reach = along (led.reads c (a.clause, a.after) (omega arith) s) z.reach };
      })

  pub clauses_over : (e : Stop) → stop_limit e ≤ far → stop_place e ≤ length ts → Comes p (up b) ws (stop_place e) → ClausesOver cont bare closed b ts e → Exact p cont (up b) ws (refused e)
  clauses_over (stop.Syntax left) within short comes none = record {
    short = let h = led.short in omega (arith, h, short);
    comes = comes;
    none = λ c w s s' ts' clear r h.
        let q = led.only c w s s' ts' clear r (omega (arith, h, within)) in
        none q.at q.value.0 q.value.1 s s' ts' clear q.reach h;
  }
  clauses_over (stop.Deep left) within short comes over = record {
    short = let h = led.short in omega (arith, h, short);
    comes = comes;
    deep = λ c w s s' ts' clear r h.
        let q = led.only c w s s' ts' clear r (omega (arith, h, within)) in
        let d = rises.lt b q.at (over.0 q.at q.value.0 q.value.1 s s' ts' clear q.reach h) in
        let e = q.bound in
        omega (arith, d, e);
    depth = up over.1.0;
    deeper = clause_comes over.1.0 left over.1.1;
  }
  clauses_over stop.Memory within short comes h = tt
