-- Parts that end before a `.` that may still be read with them: how they make the end of a production, and
-- what they are where no `.` follows.
use Rattle.std.proofs.Common.{ℕ, suc, ◌≤◌, max, Bool, List, ◌++◌, length, sym, ◌∙◌, ap, subst, arith}
use Rattle.odc_syntax.specs.declared.token.Token.{Token}
use Rattle.odc_syntax.specs.declared.token.TokenKind.{TokenKind}
use Rattle.odc_syntax.specs.declared.token.TokenKind.TheVariants as kind
use Rattle.odc_syntax.specs.declared.grammar.Use.{Use}
use Rattle.odc_syntax.specs.declared.grammar.Use.TheVariants.{Plain, Parameter, Operand, OperandEnd}
use Rattle.odc_syntax.specs.Grammar.{Sym, at_end}
use Rattle.odc_syntax.specs.Derives.{Reach, StartsWithout}
use Rattle.odc_lookahead.specs.declared.end.End.{End}
use Rattle.odc_lookahead.specs.declared.end.End.TheVariants.{Sure, BeforeDot}
use Rattle.odc_lookahead.specs.declared.stop.Stop.{Stop}
use Rattle.odc_lookahead.specs.declared.stop.Stop.TheVariants as stop
use Rattle.odc_lookahead.specs.Exact.{Part, one, ComesAt, Found, then_, done, Exact}
use Rattle.odc_lookahead.specs.Ends.{sure, FoundTo, ExactTo, FoundAs, ExactAs}
use Rattle.odc_lookahead.specs.Read.{refused}
use Rattle.odc_lookahead.proofs.reading.Reaching.{along}
use Rattle.odc_lookahead.proofs.reading.Leading.{Rises, Led, without}
use Rattle.odc_lookahead.proofs.reading.Answering.{led_rest}

-- at most one token more is read
pub sure_most : (end : End) (rest : List Token) → sure end rest ≤ length rest
sure_most Sure rest = omega arith
sure_most BeforeDot rest = omega arith

pub sure_least : (end : End) (rest : List Token) → length rest ≤ suc (sure end rest)
sure_least Sure rest = omega arith
sure_least BeforeDot rest = omega arith

-- what ends for sure
pub found_to : {V : Type 0} {p : Part V} {cont : TokenKind → Bool} {b : ℕ} {ts : List Token} {v : V} {n : ℕ} {rest : List Token} → Found p cont b ts v n rest → FoundTo p cont b ts v n rest Sure
found_to f = record { short = f.short; follows = tt; comes = f.comes; reads = f.reads; only = f.only }

pub sure_found : {V : Type 0} {p : Part V} {cont : TokenKind → Bool} {b : ℕ} {ts : List Token} {v : V} {n : ℕ} {rest : List Token} → FoundTo p cont b ts v n rest Sure → Found p cont b ts v n rest
sure_found f = record { short = f.short; comes = f.comes; reads = f.reads; only = f.only }

-- where no `.` follows, the part ends for sure
pub to_found : {V : Type 0} {p : Part V} {cont : TokenKind → Bool} {b : ℕ} {ts : List Token} {v : V} {n : ℕ} {rest : List Token} (end : End) → FoundTo p cont b ts v n rest end → StartsWithout kind.Dot rest → Found p cont b ts v n rest
to_found Sure f open' = sure_found f
to_found {rest = rest} BeforeDot f open' = let z = f.follows in absurd (without kind.Dot z.dot z.behind rest z.is z.kind open')

-- what is left of a production is read as a whole, up to such an end
pub led_rest_to : {V U : Type 0} {p : Part V} {cont : TokenKind → Bool} {up : ℕ → ℕ} {b : ℕ} {ts : List Token} {g : Part U} {f : U → V} {n m : ℕ} {u : U} {rest rest' : List Token} {end : End} →
    Rises up → Led p cont up b ts g f n rest → n ≤ b → FoundTo g cont b rest u m rest' end → FoundTo p cont (up b) ts (f u) (up (max n m)) rest' end
led_rest_to {V} {U} {p} {cont} {up} {b} {ts} {g} {f} {n} {m} {u} {rest} {rest'} {end} rises l within found = record {
  short = let h = l.short in let k = found.short in omega (arith, h, k);
  follows = found.follows;
  comes = record {
    at = λ c h.
        let q = rises.pred b c h in
        let a = found.comes.at q.0 q.1.1 in
        subst (λ (m : ℕ). ComesAt p m ts (sure end rest')) (sym q.1.0) (record {
          value = f a.value;
          before = λ s.
              let z = a.before s in
              let k = q.1.1 in
              record { pending = z.pending; rest = z.rest; rest_is = z.rest_is; reach = along (l.reads q.0 a.value (omega (arith, within, k)) s) z.reach };
        });
  };
  reads = λ c h s.
      let q = rises.pred (max n m) c h in
      let k = q.1.1 in
      subst (λ (j : ℕ). Reach s rest' (p j (f u) ++ s) ts) (sym q.1.0) (along (l.reads q.0 u (omega (arith, k)) s) (found.reads q.0 (omega (arith, k)) s));
  only = λ c w s s' ts' clear r h.
      let k = found.short in
      let i = sure_most end rest' in
      let q = l.only c w s s' ts' clear r (omega (arith, h, k, i)) in
      let z = found.only q.at q.value s s' ts' clear q.reach h in
      record {
        value = q.whole ∙ ap f z.value;
        bound =
            let d = q.deep in
            let e = z.bound in
            let k = rises.le (max n m) q.at (omega (arith, d, e)) in
            let j = q.bound in
            omega (arith, k, j);
        reach = z.reach;
      };
}

-- a production ends with its last part
pub last_alone : {V W : Type 0} {p : Part V} {cont : TokenKind → Bool} {up : ℕ → ℕ} {b : ℕ} {ts : List Token} {y : ℕ → W → Sym} {f : W × Unit {0} → V} {n : ℕ} {rest : List Token} →
    Led p cont up b ts (then_ y done) f n rest → Led p cont up b ts (one y) (λ w. f (w, tt)) n rest
unfolding then_ done
last_alone {V} {W} {p} {cont} {up} {b} {ts} {y} {f} {n} {rest} l = record {
  short = l.short;
  sample = l.sample.0;
  comes = l.comes;
  reads = λ c u h s. l.reads c (u, tt) h s;
  only = λ c w s s' ts' clear r h.
      let q = l.only c w s s' ts' clear r h in
      record { at = q.at; value = q.value.0; bound = q.bound; whole = q.whole; deep = q.deep; reach = q.reach };
}

-- by where a type stands
pub found_as : {V : Type 0} {p : Part V} {cont : TokenKind → Bool} {b : ℕ} {ts : List Token} {v : V} {n : ℕ} {rest : List Token} (u : Use) → Found p cont b ts v n rest → FoundAs u p cont b ts v n rest Sure
found_as Plain f = f
found_as Parameter f = f
found_as Operand f = found_to f
found_as OperandEnd f = found_to f

pub as_found : {V : Type 0} {p : Part V} {cont : TokenKind → Bool} {b : ℕ} {ts : List Token} {v : V} {n : ℕ} {rest : List Token} (u : Use) → FoundAs u p cont b ts v n rest Sure → Found p cont b ts v n rest
as_found Plain f = f
as_found Parameter f = f
as_found Operand f = sure_found f
as_found OperandEnd f = sure_found f

pub last_as : {V U : Type 0} {p : Part V} {cont : TokenKind → Bool} {up : ℕ → ℕ} {b : ℕ} {ts : List Token} {g : Part U} {f : U → V} {n : ℕ} {rest : List Token} (u : Use) (v : U) (m : ℕ) (rest' : List Token) (end : End) →
    Rises up → Led p cont up b ts g f n rest → n ≤ b → FoundAs (at_end u) g cont b rest v m rest' end → FoundAs u p cont (up b) ts (f v) (up (max n m)) rest' end
last_as Plain v m rest' end rises l within found = led_rest rises l within found
last_as Parameter v m rest' end rises l within found = led_rest rises l within found
last_as Operand v m rest' end rises l within found = led_rest_to rises l within found
last_as OperandEnd v m rest' end rises l within found = led_rest_to rises l within found

pub same_as : {V U : Type 0} {p : Part V} {cont : TokenKind → Bool} {up : ℕ → ℕ} {b : ℕ} {ts : List Token} {g : Part U} {f : U → V} {n : ℕ} {rest : List Token} (u : Use) (v : U) (m : ℕ) (rest' : List Token) (end : End) →
    Rises up → Led p cont up b ts g f n rest → n ≤ b → FoundAs u g cont b rest v m rest' end → FoundAs u p cont (up b) ts (f v) (up (max n m)) rest' end
same_as Plain v m rest' end rises l within found = led_rest rises l within found
same_as Parameter v m rest' end rises l within found = led_rest rises l within found
same_as Operand v m rest' end rises l within found = led_rest_to rises l within found
same_as OperandEnd v m rest' end rises l within found = led_rest_to rises l within found

-- what is not read is the same, wherever it stands
pub refused_as : {V : Type 0} (p : Part V) (cont : TokenKind → Bool) (b : ℕ) (ts : List Token) (u : Use) (e : Stop) → Exact p cont b ts (refused e) → ExactAs u p cont b ts (refused e)
refused_as p cont b ts u (stop.Syntax left) h = h
refused_as p cont b ts u (stop.Deep left) h = h
refused_as p cont b ts u stop.Memory h = tt

pub as_refused : {V : Type 0} (p : Part V) (cont : TokenKind → Bool) (b : ℕ) (ts : List Token) (u : Use) (e : Stop) → ExactAs u p cont b ts (refused e) → Exact p cont b ts (refused e)
as_refused p cont b ts u (stop.Syntax left) h = h
as_refused p cont b ts u (stop.Deep left) h = h
as_refused p cont b ts u stop.Memory h = tt

pub refused_to : {V : Type 0} (p : Part V) (cont : TokenKind → Bool) (b : ℕ) (ts : List Token) (e : Stop) → Exact p cont b ts (refused e) → ExactTo p cont b ts (refused e)
refused_to p cont b ts (stop.Syntax left) h = h
refused_to p cont b ts (stop.Deep left) h = h
refused_to p cont b ts stop.Memory h = tt

pub to_refused : {V : Type 0} (p : Part V) (cont : TokenKind → Bool) (b : ℕ) (ts : List Token) (e : Stop) → ExactTo p cont b ts (refused e) → Exact p cont b ts (refused e)
to_refused p cont b ts (stop.Syntax left) h = h
to_refused p cont b ts (stop.Deep left) h = h
to_refused p cont b ts stop.Memory h = tt
