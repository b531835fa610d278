-- The exits of the functions on loops: bodies, variables, what stands behind the first `;`.
use Rattle.std.proofs.Common.{◌≡◌, ℕ, ◌<◌, ◌≤◌, max, Bool, true, false, List, ◌∷◌, ◌++◌, length, refl, sym, ap, subst, arith, ◌⊎◌, inl, inr}
use Rattle.odc_syntax.specs.declared.token.Token.{Token}
use Rattle.odc_syntax.specs.declared.token.TokenKind.{TokenKind}
use Rattle.odc_syntax.specs.declared.token.TokenKind.TheVariants as kind
use Rattle.odc_syntax.specs.declared.grammar.Mode.TheVariants.{Header}
use Rattle.odc_syntax.specs.declared.grammar.Level.TheVariants.{Or}
use Rattle.odc_syntax.specs.declared.tree.RangeNames.{RangeNames}
use Rattle.odc_syntax.specs.Tree.{Expr, MaybeExpr, Stmt, MaybeStmt, Stmts, Span}
use Rattle.odc_syntax.specs.Tree as tree
use Rattle.odc_syntax.specs.Grammar.{Sym, Labelled}
use Rattle.odc_syntax.specs.Grammar as g
use Rattle.odc_syntax.specs.Derives.{here, StartsWithout}
use Rattle.odc_lookahead.specs.declared.stop.Stop.{Stop}
use Rattle.odc_lookahead.specs.declared.stop.Stop.TheVariants as stop
use Rattle.odc_parse_expr.specs.Blocks.{BodyOver}
use Rattle.odc_lookahead.specs.Exact.{Part, one, Exact, Found, Broken, TooDeep}
use Rattle.odc_parse_expr.specs.LoopForms.{BodyFirst, BeginsBody, ConditionRead, none, some}
use Rattle.odc_lookahead.specs.stmts.LoopStarts.{Ranged}
use Rattle.odc_lookahead.specs.stmts.Loops.{Steps, steps_line, after_line}
use Rattle.odc_lookahead.specs.Read.{refused, NotExpected}
use Rattle.odc_lookahead.specs.Sets.{continues}
use Rattle.odc_lookahead.specs.stmts.Statements.{labelled_part}
use Rattle.odc_lookahead.specs.stmts.StatementSets.{continues_simple, continues_statement}
use Rattle.odc_lookahead.specs.stmts.SwitchSets.{continues_span}
use Rattle.odc_lookahead.proofs.reading.Opening.{reach_opens, is_body}
use Rattle.odc_lookahead.proofs.reading.Leading.{same_depth, Led}
use Rattle.odc_lookahead.proofs.reading.Answering.{led_rest, led_rest_refused, led_stuck, answer_is}
use Rattle.odc_lookahead.proofs.loops.LoopLemmas.{for_at, for_ever_answer, for_ever_refused, for_stepped}
use Rattle.odc_lookahead.proofs.loops.StepLemmas.{semicolon_line, steps_condition_refused, steps_condition, steps_no_condition, steps_unclosed, steps_closed}
use Rattle.odc_lookahead.proofs.loops.AfterLemmas.{body_over, after_refused, after_read, after_none}
use Rattle.odc_lookahead.proofs.loops.LoopClauses.{no_body}
use Rattle.odc_lookahead.proofs.loops.RangeLemmas.{OverAt, over_at, over_span_refused, OverRead, over_read}
use Rattle.odc_lookahead.proofs.reading.Samples as sample
use Rattle.odc_lookahead.specs.declared.tokens.Fit.{Fit}
use Rattle.odc_lookahead.specs.declared.tokens.Fit.TheVariants as fit

-- a body stands first
body_kind : (k : TokenKind) → (k ≡ kind.OpenBrace) ⊎ (k ≡ kind.Do) → is_body k ≡ true
body_kind k (inl e) = ap is_body e
body_kind k (inr e) = ap is_body e

pub begins_yes : (ts : List Token) (f : Bool) → BeginsBody ts f → f ≡ true → BodyFirst ts
begins_yes ts f z e = subst (λ (x : Bool). BeginsBody ts x) e z

pub begins_not : (ts : List Token) (f : Bool) → BeginsBody ts f → f ≡ false → StartsWithout kind.OpenBrace ts × StartsWithout kind.Do ts
begins_not ts f z e = subst (λ (x : Bool). BeginsBody ts x) e z

pub ever_answer : (b : ℕ) (t : Token) (ts : List Token) (f : Bool) (ss : Stmts) (n : ℕ) (rest : List Token) → t.kind ≡ kind.For → BeginsBody ts f → f ≡ true → Found (one g.body) continues_statement b ts ss n rest → Found (one labelled_part) continues_statement b (t ∷ ts) (t.at, g.loop tree.no_header tree.no_expr tree.no_stmt ss) n rest
ever_answer b t ts f ss n rest k z e found = let y = begins_yes ts f z e in for_ever_answer b (t ∷ ts) t.at ts y.first y.rest ss n rest (for_at b (t ∷ ts) t ts refl k) y.is (body_kind y.first.kind y.kind) found

pub ever_refused : (b : ℕ) (t : Token) (ts : List Token) (f : Bool) (e : Stop) → t.kind ≡ kind.For → BeginsBody ts f → f ≡ true → Exact (one g.body) continues_statement b ts (refused e) → Exact (one labelled_part) continues_statement b (t ∷ ts) (refused e)
ever_refused b t ts f e k z i h = let y = begins_yes ts f z i in for_ever_refused b (t ∷ ts) t.at ts y.first y.rest e (for_at b (t ∷ ts) t ts refl k) y.is (body_kind y.first.kind y.kind) h

-- a `;` stands first
pub first_steps : (b : ℕ) (t : Token) (ts : List Token) (x : Token) (vs : List Token) (u : Steps) (n : ℕ) (rest : List Token) → t.kind ≡ kind.For → ts ≡ x ∷ vs → x.kind ≡ kind.Semicolon → Found steps_line continues_statement b vs u n rest →
    Found (one labelled_part) continues_statement b (t ∷ ts) (t.at, g.loop tree.no_header u.0 u.1.1.0 u.1.1.1) n rest
first_steps b t ts x vs u n rest k is e found = answer_is refl (omega arith) (led_rest same_depth (for_stepped b (t ∷ ts) t.at ts x vs (for_at b (t ∷ ts) t ts refl k) is e) (omega arith) found)

pub first_steps_refused : (b : ℕ) (t : Token) (ts : List Token) (x : Token) (vs : List Token) (e : Stop) → t.kind ≡ kind.For → ts ≡ x ∷ vs → x.kind ≡ kind.Semicolon → Exact steps_line continues_statement b vs (refused e) → Exact (one labelled_part) continues_statement b (t ∷ ts) (refused e)
first_steps_refused b t ts x vs e k is i h = led_rest_refused e same_depth (for_stepped b (t ∷ ts) t.at ts x vs (for_at b (t ∷ ts) t ts refl k) is i) (omega arith) h

-- a body behind what is already too deep
pub body_is_over : {V : Type 0} {p : Part V} {cont : TokenKind → Bool} {b : ℕ} {ts : List Token} (f : Stmts → V) (n : ℕ) (rest : List Token) (e : Stop) → Led p cont (λ n. n) b ts (one g.body) f n rest → b < n → BodyOver rest e → Exact p cont b ts (refused e)
body_is_over {p = p} {cont = cont} {b = b} {ts = ts} f n rest (stop.Syntax left) led over z =
    subst (λ (k : ℕ). Broken p cont b ts k) (sym z.0) (led_stuck (λ c u s s' ts' clear r h. no_body rest z.1.0 z.1.1 (reach_opens r h)) led)
body_is_over {p = p} {cont = cont} {b = b} {ts = ts} f n rest (stop.Deep left) led over z =
    subst (λ (k : ℕ). TooDeep p cont b ts k) (sym z.left_is) (body_over f n rest z.first z.rest same_depth led over z.is (body_kind z.first.kind z.kind))
body_is_over f n rest stop.Memory led over z = absurd z

-- variables and `in`
over_led : (b : ℕ) (t : Token) (ts : List Token) (names : RangeNames) (us : List Token) → t.kind ≡ kind.For → Ranged ts names us → OverAt b (t ∷ ts) t.at names us
over_led b t ts names us k z = over_at b (t ∷ ts) t.at ts names us (for_at b (t ∷ ts) t ts refl k) z

pub over_refused : (b : ℕ) (t : Token) (ts : List Token) (names : RangeNames) (us : List Token) (e : Stop) → t.kind ≡ kind.For → Ranged ts names us → Exact (one (g.span_ Header)) (continues_span Header) b us (refused e) → Exact (one labelled_part) continues_statement b (t ∷ ts) (refused e)
over_refused b t ts names us e k z h = over_span_refused b (t ∷ ts) t.at names us e (over_led b t ts names us k z) h

over_value : (b : ℕ) (t : Token) (ts : List Token) (names : RangeNames) (us : List Token) (x : Span) (n : ℕ) (rest : List Token) → t.kind ≡ kind.For → Ranged ts names us → Found (one (g.span_ Header)) (continues_span Header) b us x n rest → OverRead b (t ∷ ts) t.at names x n rest
over_value b t ts names us x n rest k z found = over_read b (t ∷ ts) t.at names us x n rest (over_led b t ts names us k z) found

pub over_deep : (b : ℕ) (t : Token) (ts : List Token) (names : RangeNames) (us : List Token) (x : Span) (n : ℕ) (rest : List Token) (e : Stop) → t.kind ≡ kind.For → Ranged ts names us → Found (one (g.span_ Header)) (continues_span Header) b us x n rest → b < n → BodyOver rest e →
    Exact (one labelled_part) continues_statement b (t ∷ ts) (refused e)
over_deep b t ts names us x n rest e k z found over o = body_is_over (λ ss. (t.at, g.range names x ss)) n rest e (over_value b t ts names us x n rest k z found) over o

pub over_body : (b : ℕ) (t : Token) (ts : List Token) (names : RangeNames) (us : List Token) (x : Span) (n : ℕ) (rest : List Token) (ss : Stmts) (m top : ℕ) (after : List Token) → t.kind ≡ kind.For → Ranged ts names us → Found (one (g.span_ Header)) (continues_span Header) b us x n rest → n ≤ b →
    Found (one g.body) continues_statement b rest ss m after → top ≡ max n m → Found (one labelled_part) continues_statement b (t ∷ ts) (t.at, g.range names x ss) top after
over_body b t ts names us x n rest ss m top after k z found within body high = answer_is refl (sym high) (led_rest same_depth (over_value b t ts names us x n rest k z found) within body)

pub over_body_refused : (b : ℕ) (t : Token) (ts : List Token) (names : RangeNames) (us : List Token) (x : Span) (n : ℕ) (rest : List Token) (e : Stop) → t.kind ≡ kind.For → Ranged ts names us → Found (one (g.span_ Header)) (continues_span Header) b us x n rest → n ≤ b →
    Exact (one g.body) continues_statement b rest (refused e) → Exact (one labelled_part) continues_statement b (t ∷ ts) (refused e)
over_body_refused b t ts names us x n rest e k z found within h = led_rest_refused e same_depth (over_value b t ts names us x n rest k z found) within h

-- a part as a whole
line_led : {V : Type 0} (p : Part V) (cont : TokenKind → Bool) (b : ℕ) (ts : List Token) → V → Led p cont (λ n. n) b ts p (λ u. u) 0 ts
line_led p cont b ts v = record {
  short = omega arith;
  sample = v;
  comes = record { at = λ c h. record { value = v; before = λ s. record { pending = p c v ++ s; rest = ts; rest_is = refl; reach = here } } };
  reads = λ c u h s. here;
  only = λ c w s s' ts' clear r h. record { at = c; value = w; bound = refl; whole = refl; deep = omega arith; reach = r };
}

-- the condition
abbrev StepsLed : ℕ → List Token → Type 0
StepsLed b ts = Led steps_line continues_statement (λ n. n) b ts steps_line (λ u. u) 0 ts

steps_led : (b : ℕ) (ts : List Token) → StepsLed b ts
steps_led b ts = line_led steps_line continues_statement b ts (tree.no_expr, (sample.token, (tree.no_stmt, tree.no_stmts)))

pub condition_refused : (b : ℕ) (ts : List Token) (e : Stop) → Exact (one (g.expression Header)) (continues Or Header) b ts (refused e) → (e ≡ stop.Syntax (length ts) → ⊥) → Exact steps_line continues_statement b ts (refused e)
condition_refused b ts e h elsewhere = steps_condition_refused (λ u. u) 0 ts e (steps_led b ts) (omega arith) h elsewhere

abbrev pub ConditionLed : ℕ → List Token → MaybeExpr → ℕ → List Token → Type 0
ConditionLed b ts e n rest = Led steps_line continues_statement (λ n. n) b ts semicolon_line (λ u. (e, u)) n rest

condition_led : (b : ℕ) (ts : List Token) (e : MaybeExpr) (n : ℕ) (rest : List Token) → ConditionRead b ts e n rest → ConditionLed b ts e n rest
condition_led b ts e n rest (none broken) = steps_no_condition (λ u. u) 0 ts (steps_led b ts) broken
condition_led b ts e n rest (some v m after found shorter) = subst (λ (k : ℕ). ConditionLed b ts (tree.some_expr v) k after) zero_max (steps_condition (λ u. u) 0 ts v m after (steps_led b ts) (omega arith) found shorter)
  where
    zero_max : max 0 m ≡ m
    zero_max = omega arith

pub condition_unclosed : (b : ℕ) (ts : List Token) (e : MaybeExpr) (n : ℕ) (rest : List Token) (s : Stop) (within : Fit) → ConditionRead b ts e n rest → (within ≡ fit.Over → b < n) → NotExpected kind.Semicolon within rest s → Exact steps_line continues_statement b ts (refused s)
condition_unclosed b ts e n rest s within z over h = steps_unclosed (λ u. (e, u)) n rest s within (condition_led b ts e n rest z) over h

pub condition_end : (b : ℕ) (ts : List Token) (e : MaybeExpr) (n : ℕ) (rest : List Token) (t : Token) (us : List Token) (u : MaybeStmt × Stmts) (m top : ℕ) (after : List Token) → ConditionRead b ts e n rest → n ≤ b → rest ≡ t ∷ us → t.kind ≡ kind.Semicolon → Found after_line continues_statement b us u m after → top ≡ max n m →
    Found steps_line continues_statement b ts (e, (t, u)) top after
condition_end b ts e n rest t us u m top after z within is k found high = answer_is refl (sym high) (led_rest same_depth (steps_closed (λ u. (e, u)) n rest t us (condition_led b ts e n rest z) within is k) within found)

pub condition_end_refused : (b : ℕ) (ts : List Token) (e : MaybeExpr) (n : ℕ) (rest : List Token) (t : Token) (us : List Token) (s : Stop) → ConditionRead b ts e n rest → n ≤ b → rest ≡ t ∷ us → t.kind ≡ kind.Semicolon → Exact after_line continues_statement b us (refused s) → Exact steps_line continues_statement b ts (refused s)
condition_end_refused b ts e n rest t us s z within is k h = led_rest_refused s same_depth (steps_closed (λ u. (e, u)) n rest t us (condition_led b ts e n rest z) within is k) within h

-- what is done behind the body
abbrev EndLed : ℕ → List Token → Type 0
EndLed b ts = Led after_line continues_statement (λ n. n) b ts after_line (λ u. u) 0 ts

end_led : (b : ℕ) (ts : List Token) → EndLed b ts
end_led b ts = line_led after_line continues_statement b ts (tree.no_stmt, tree.no_stmts)

pub end_refused : (b : ℕ) (ts : List Token) (e : Stop) → Exact (one (g.simple Header)) (continues_simple Header) b ts (refused e) → (e ≡ stop.Syntax (length ts) → ⊥) → Exact after_line continues_statement b ts (refused e)
end_refused b ts e h elsewhere = after_refused (λ u. u) 0 ts e (end_led b ts) (omega arith) h elsewhere

-- nothing is
end_none : (b : ℕ) (ts : List Token) (e : Stop) → Exact (one (g.simple Header)) (continues_simple Header) b ts (refused e) → e ≡ stop.Syntax (length ts) → Led after_line continues_statement (λ n. n) b ts (one g.body) (λ ss. (tree.no_stmt, ss)) 0 ts
end_none b ts e h is = after_none (λ u. u) 0 ts (end_led b ts) (subst (λ (x : Stop). Exact (one (g.simple Header)) (continues_simple Header) b ts (refused x)) is h)

pub end_alone : (b : ℕ) (ts : List Token) (e : Stop) (ss : Stmts) (n : ℕ) (rest : List Token) → Exact (one (g.simple Header)) (continues_simple Header) b ts (refused e) → e ≡ stop.Syntax (length ts) → Found (one g.body) continues_statement b ts ss n rest → Found after_line continues_statement b ts (tree.no_stmt, ss) n rest
end_alone b ts e ss n rest h is found = answer_is refl (omega arith) (led_rest same_depth (end_none b ts e h is) (omega arith) found)

pub end_alone_refused : (b : ℕ) (ts : List Token) (e s : Stop) → Exact (one (g.simple Header)) (continues_simple Header) b ts (refused e) → e ≡ stop.Syntax (length ts) → Exact (one g.body) continues_statement b ts (refused s) → Exact after_line continues_statement b ts (refused s)
end_alone_refused b ts e s h is k = led_rest_refused s same_depth (end_none b ts e h is) (omega arith) k

-- something is
abbrev StepRead : ℕ → List Token → Stmt → ℕ → List Token → Type 0
StepRead b ts v n rest = Led after_line continues_statement (λ n. n) b ts (one g.body) (λ ss. (tree.some_stmt v, ss)) n rest

step_read : (b : ℕ) (ts : List Token) (v : Stmt) (n : ℕ) (rest : List Token) → Found (one (g.simple Header)) (continues_simple Header) b ts v n rest → length rest < length ts → StepRead b ts v n rest
step_read b ts v n rest found shorter = subst (λ (k : ℕ). StepRead b ts v k rest) zero_max (after_read (λ u. u) 0 ts v n rest (end_led b ts) (omega arith) found shorter)
  where
    zero_max : max 0 n ≡ n
    zero_max = omega arith

pub step_over : (b : ℕ) (ts : List Token) (v : Stmt) (n : ℕ) (rest : List Token) (e : Stop) → Found (one (g.simple Header)) (continues_simple Header) b ts v n rest → length rest < length ts → b < n → BodyOver rest e → Exact after_line continues_statement b ts (refused e)
step_over b ts v n rest e found shorter over o = body_is_over (λ ss. (tree.some_stmt v, ss)) n rest e (step_read b ts v n rest found shorter) over o

pub step_body : (b : ℕ) (ts : List Token) (v : Stmt) (n : ℕ) (rest : List Token) (ss : Stmts) (m top : ℕ) (after : List Token) → Found (one (g.simple Header)) (continues_simple Header) b ts v n rest → length rest < length ts → n ≤ b → Found (one g.body) continues_statement b rest ss m after → top ≡ max n m →
    Found after_line continues_statement b ts (tree.some_stmt v, ss) top after
step_body b ts v n rest ss m top after found shorter within body high = answer_is refl (sym high) (led_rest same_depth (step_read b ts v n rest found shorter) within body)

pub step_body_refused : (b : ℕ) (ts : List Token) (v : Stmt) (n : ℕ) (rest : List Token) (e : Stop) → Found (one (g.simple Header)) (continues_simple Header) b ts v n rest → length rest < length ts → n ≤ b → Exact (one g.body) continues_statement b rest (refused e) → Exact after_line continues_statement b ts (refused e)
step_body_refused b ts v n rest e found shorter within h = led_rest_refused e same_depth (step_read b ts v n rest found shorter) within h
