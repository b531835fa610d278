-- An answer in the words of a function's result.
use Rattle.std.proofs.Common.{◌≡◌, ◌<◌, ◌≤◌, ◌∙◌, ℕ, suc, Bool, true, false, List, ◌∷◌, sym, subst}
use Rattle.std.proofs.Math.Nat.{lt_of_not-le}
use Rattle.odc_syntax.specs.declared.token.Token.{Token}
use Rattle.odc_syntax.specs.declared.token.TokenKind.{TokenKind}
use Rattle.odc_lookahead.specs.declared.stop.Stop.{Stop}
use Rattle.odc_lookahead.specs.declared.end.End.{End}
use Rattle.odc_lookahead.specs.Exact.{Part, Exact, Found, Answer}
use Rattle.odc_lookahead.specs.Ends.{FoundTo, ExactTo}
use Rattle.odc_lookahead.specs.Read.{refused}
use Rattle.odc_lookahead.specs.Sets.{nothing_continues}
use Rattle.odc_lookahead.specs.declared.tokens.Fit.{Fit}
use Rattle.odc_lookahead.specs.declared.tokens.Fit.TheVariants as fit

-- the reason that is given is the one that was found
pub because : {V : Type 0} (p : Part V) (cont : TokenKind → Bool) (b : ℕ) (ts : List Token) (e f : Stop) → f ≡ e → Exact p cont b ts (refused e) → Exact p cont b ts (refused f)
because p cont b ts e f same h = subst (λ (x : Stop). Exact p cont b ts (refused x)) (sym same) h

-- the tokens are a first one and those behind it
pub from_token : {V : Type 0} (p : Part V) (b : ℕ) (ts : List Token) (t : Token) (us : List Token) (r : Answer V) → ts ≡ t ∷ us → Exact p nothing_continues b (t ∷ us) r → Exact p nothing_continues b ts r
from_token p b ts t us r is h = subst (λ (l : List Token). Exact p nothing_continues b l r) (sym is) h

-- the same at a bound that leaves a node
pub at_front : {V : Type 0} (p : Part V) (cont : TokenKind → Bool) (d b : ℕ) (ts : List Token) (t : Token) (us : List Token) (r : Answer V) → d ≡ suc b → ts ≡ t ∷ us → Exact p cont (suc b) (t ∷ us) r → Exact p cont d ts r
at_front p cont d b ts t us r deeper is h =
    subst (λ (n : ℕ). Exact p cont n ts r) (sym deeper) (subst (λ (l : List Token). Exact p cont (suc b) l r) (sym is) h)

-- the same, from the tokens to the first one and those behind it
pub to_token : {V : Type 0} (p : Part V) (cont : TokenKind → Bool) (b : ℕ) (ts : List Token) (t : Token) (us : List Token) (r : Answer V) → ts ≡ t ∷ us → Exact p cont b ts r → Exact p cont b (t ∷ us) r
to_token p cont b ts t us r is h = subst (λ (l : List Token). Exact p cont b l r) is h

-- the same at a bound that leaves no node
pub at_zero : {V : Type 0} (p : Part V) (cont : TokenKind → Bool) (d : ℕ) (ts : List Token) (t : Token) (us : List Token) (r : Answer V) → d ≡ 0 → ts ≡ t ∷ us → Exact p cont 0 (t ∷ us) r → Exact p cont d ts r
at_zero p cont d ts t us r zero' is h =
    subst (λ (n : ℕ). Exact p cont n ts r) (sym zero') (subst (λ (l : List Token). Exact p cont 0 l r) (sym is) h)

-- the same of what may end before a `.`
pub because_to : {V : Type 0} (p : Part V) (cont : TokenKind → Bool) (b : ℕ) (ts : List Token) (e f : Stop) → f ≡ e → ExactTo p cont b ts (refused e) → ExactTo p cont b ts (refused f)
because_to p cont b ts e f same h = subst (λ (x : Stop). ExactTo p cont b ts (refused x)) (sym same) h

pub at_front_to : {V : Type 0} (p : Part V) (cont : TokenKind → Bool) (d b : ℕ) (ts : List Token) (t : Token) (us : List Token) (r : Answer (V × End)) → d ≡ suc b → ts ≡ t ∷ us → ExactTo p cont (suc b) (t ∷ us) r → ExactTo p cont d ts r
at_front_to p cont d b ts t us r deeper is h =
    subst (λ (n : ℕ). ExactTo p cont n ts r) (sym deeper) (subst (λ (l : List Token). ExactTo p cont (suc b) l r) (sym is) h)

pub to_token_to : {V : Type 0} (p : Part V) (cont : TokenKind → Bool) (b : ℕ) (ts : List Token) (t : Token) (us : List Token) (r : Answer (V × End)) → ts ≡ t ∷ us → ExactTo p cont b ts r → ExactTo p cont b (t ∷ us) r
to_token_to p cont b ts t us r is h = subst (λ (l : List Token). ExactTo p cont b l r) is h

pub found_at : {V : Type 0} {p : Part V} {cont : TokenKind → Bool} {b : ℕ} {ts : List Token} {v : V} {n : ℕ} {rest : List Token} {end : End} (t : Token) (us : List Token) → ts ≡ t ∷ us →
    FoundTo p cont b ts v n rest end → FoundTo p cont b (t ∷ us) v n rest end
found_at {V} {p} {cont} {b} {ts} {v} {n} {rest} {end} t us is h = subst (λ (l : List Token). FoundTo p cont b l v n rest end) is h

-- what a function answers, in the words of its result
pub answer_to : {V : Type 0} {p : Part V} {cont : TokenKind → Bool} {b : ℕ} {ts : List Token} {v w : V} {n m : ℕ} {rest : List Token} {end : End} → v ≡ w → n ≡ m →
    FoundTo p cont b ts v n rest end → FoundTo p cont b ts w m rest end
answer_to {V} {p} {cont} {b} {ts} {v} {w} {n} {m} {rest} {end} e f h =
    subst (λ (x : V). FoundTo p cont b ts x m rest end) e (subst (λ (k : ℕ). FoundTo p cont b ts v k rest end) f h)

pub found_from : {V : Type 0} {p : Part V} {cont : TokenKind → Bool} {b : ℕ} {ts : List Token} {v : V} {n : ℕ} {rest : List Token} (t : Token) (us : List Token) → ts ≡ t ∷ us →
    Found p cont b (t ∷ us) v n rest → Found p cont b ts v n rest
found_from {V} {p} {cont} {b} {ts} {v} {n} {rest} t us is h = subst (λ (l : List Token). Found p cont b l v n rest) (sym is) h

-- what a test says that was made before
pub over_by : (w : Fit) (n d : ℕ) → (n ≤ d → w ≡ fit.Within) → w ≡ fit.Over → d < n
over_by w n d k over = lt_of_not-le (λ h. let bad : fit.Within ≡ fit.Over = sym (k h) ∙ over in cc)
