-- What is known as far as a place, of pending symbols that are written otherwise.
use Rattle.std.proofs.Common.{ℕ, ◌≤◌, Bool, List, ◌++◌, ◌∙◌, ap, arith}
use Rattle.odc_syntax.specs.declared.token.Token.{Token}
use Rattle.odc_syntax.specs.declared.token.TokenKind.{TokenKind}
use Rattle.odc_syntax.specs.Grammar.{Sym}
use Rattle.odc_syntax.specs.Derives.{Reach}
use Rattle.odc_lookahead.specs.Exact.{size, Clear, Part}
use Rattle.odc_lookahead.proofs.reading.Reaching.{along}
use Rattle.odc_lookahead.proofs.reading.Answering.{Stepped}
use Rattle.odc_lookahead.proofs.reading.Deciding.{Leads}

pub leads_within : {V U W : Type 0} {p : Part V} {cont : TokenKind → Bool} {up : ℕ → ℕ} {b : ℕ} {ts : List Token} {g : Part U} {f : U → V} {n : ℕ} {rest : List Token} {far : ℕ} (most : ℕ) (h : Part W) (i : W → U) → W → most ≤ far →
    ((c : ℕ) (w : W) (s : List Sym) → Reach (h c w ++ s) rest (g c (i w) ++ s) rest) →
    ((c : ℕ) (u : U) (s s' : List Sym) (ts' : List Token) → Clear cont s → Reach s' ts' (g c u ++ s) rest → size s' ts' ≤ most → Stepped h i c u s s' ts' rest) →
    Leads p cont up b ts g f n rest far → Leads p cont up b ts h (λ w. f (i w)) n rest most
leads_within {V} {U} {W} {p} {cont} {up} {b} {ts} {g} {f} {n} {rest} {far} most h i sample within into only l = record {
  short = l.short;
  sample = sample;
  comes = l.comes;
  reads = λ c w k s. along (l.reads c (i w) k s) (into c w s);
  only = λ c w s s' ts' clear r k.
      let q = l.only c w s s' ts' clear r (omega (arith, k, within)) in
      let z = only q.at q.value s s' ts' clear q.reach k in
      record { at = q.at; value = z.by; bound = q.bound; whole = q.whole ∙ ap f z.is; deep = q.deep; reach = z.reach };
}
