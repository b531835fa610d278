-- Fields of structs, types of unions, enumerators, and what a name is given.
use Rattle.std.proofs.Common.{◌≡◌, ℕ, ◌*◌, ◌≤◌, true, List, [], ◌∷◌, ◌++◌, length, refl, sym, ap, subst, arith}
use Rattle.odc_syntax.specs.declared.token.Token.{Token}
use Rattle.odc_syntax.specs.declared.token.TokenKind.{TokenKind}
use Rattle.odc_syntax.specs.declared.token.TokenKind.TheVariants as kind
use Rattle.odc_syntax.specs.declared.grammar.Mode.TheVariants.{Free}
use Rattle.odc_syntax.specs.declared.grammar.Level.TheVariants.{Or}
use Rattle.odc_syntax.specs.declared.grammar.Use.{Use}
use Rattle.odc_syntax.specs.Tree.{Type_, Fields, Types, Enumerators, Expr, MaybeExpr}
use Rattle.odc_syntax.specs.Tree as tree
use Rattle.odc_syntax.specs.Grammar.{Sym, tok, Rule, type_}
use Rattle.odc_syntax.specs.Grammar as g
use Rattle.odc_syntax.specs.Derives.{Reach, here, read, write, StartsWithout}
use Rattle.odc_lookahead.specs.declared.stop.Stop.{Stop}
use Rattle.odc_lookahead.specs.Exact.{size, Clear, Part, one, then_, done, token, behind, Exact, Yes, Found}
use Rattle.odc_lookahead.specs.Read.{refused, NotExpected}
use Rattle.odc_lookahead.specs.Sets.{continues, continues_argument, nothing_continues}
use Rattle.odc_lookahead.specs.TypeParts.{names_line, field_item, enumerator_item}
use Rattle.odc_lookahead.proofs.reading.Reaching.{behind_token}
use Rattle.odc_lookahead.proofs.reading.Leading.{same_depth, Pending, Led, led_done, without, at_rest}
use Rattle.odc_lookahead.proofs.reading.Answering.{led_at, led_rest, led_rest_refused, token_read, token_refused, answer_is, wider_exact}
use Rattle.odc_lookahead.proofs.expr.BinaryLemmas.{clear_narrow}
use Rattle.odc_lookahead.proofs.expr.SuffixAnswers.{nothing_clear}
use Rattle.odc_lookahead.proofs.reading.LineLemmas.{led_whole, led_behind, behind_refused}
use Rattle.odc_lookahead.proofs.reading.EndLemmas.{last_alone}
use Rattle.odc_lookahead.proofs.reading.Samples as sample
use Rattle.odc_lookahead.specs.declared.tokens.Fit.TheVariants as fit

-- a field
abbrev type_line : Use → Part (Type_ × Unit {0})
type_line u = then_ (type_ u) done

field_led : (u : Use) (b : ℕ) (ts : List Token) → Led (field_item u) nothing_continues (λ n. n) b ts (behind names_line (type_line u)) (λ v. (v.0.0, (v.0.1.0, v.1.0))) 0 ts
unfolding behind then_ done
field_led u b ts = record {
  short = omega arith;
  sample = ((sample.token ∷ [], (sample.token, tt)), (sample.type, tt));
  comes = record { at = λ c h. record { value = (sample.token ∷ [], (sample.token, sample.type)); before = λ s. record { pending = _; rest = ts; rest_is = refl; reach = here } } };
  reads = λ c v h s. here;
  only = λ c w s s' ts' clear r h. record { at = c; value = ((w.0, (w.1.0, tt)), (w.1.1, tt)); bound = refl; whole = refl; deep = omega arith; reach = r };
}

field_clear : (u : Use) (c : ℕ) (v : Type_ × Unit {0}) (s : List Sym) → Clear nothing_continues (type_line u c v ++ s)
field_clear u c v s = nothing_clear (type_line u c v ++ s)

pub field_unnamed : (u : Use) (b : ℕ) (ts : List Token) (stop : Stop) → Exact names_line nothing_continues b ts (refused stop) → Exact (field_item u) nothing_continues b ts (refused stop)
field_unnamed u b ts stop h = behind_refused nothing_continues names_line (type_line u) stop same_depth (field_led u b ts) (omega arith) h (field_clear u)

field_named : (u : Use) (b : ℕ) (ts ns : List Token) (c : Token) (after : List Token) → Found names_line nothing_continues b ts (ns, (c, tt)) 0 after → Led (field_item u) nothing_continues (λ n. n) b ts (one (type_ u)) (λ ty. (ns, (c, ty))) 0 after
field_named u b ts ns c after found = last_alone (led_behind same_depth (field_led u b ts) (omega arith) found (field_clear u))

pub field_refused : (u : Use) (b : ℕ) (ts ns : List Token) (c : Token) (after : List Token) (stop : Stop) → Found names_line nothing_continues b ts (ns, (c, tt)) 0 after → Exact (one (type_ u)) nothing_continues b after (refused stop) →
    Exact (field_item u) nothing_continues b ts (refused stop)
field_refused u b ts ns c after stop found h = led_rest_refused stop same_depth (field_named u b ts ns c after found) (omega arith) h

pub field_answer : (u : Use) (b : ℕ) (ts ns : List Token) (c : Token) (after : List Token) (ty : Type_) (n : ℕ) (rest : List Token) → Found names_line nothing_continues b ts (ns, (c, tt)) 0 after → Found (one (type_ u)) nothing_continues b after ty n rest →
    Found (field_item u) nothing_continues b ts (ns, (c, ty)) n rest
field_answer u b ts ns c after ty n rest found inner = answer_is refl (omega arith) (led_rest same_depth (field_named u b ts ns c after found) (omega arith) inner)

-- what a name is given
pub goes_on_argument : (k : TokenKind) → continues Or Free k ≡ true → continues_argument k ≡ true
goes_on_argument kind.Assign e = refl
goes_on_argument _ e = e

pub narrow : {s : List Sym} → Clear continues_argument s → Clear (continues Or Free) s
narrow clear = clear_narrow goes_on_argument clear

not_given_by : {c : ℕ} {w : MaybeExpr} {p : List Sym} (rule : Rule (g.given c w) p) (ts : List Token) → StartsWithout kind.Assign ts → (s s' : List Sym) (ts' : List Token) → Reach s' ts' (p ++ s) ts → size s' ts' ≤ 2 * length ts →
    Pending (λ n. n) done (λ u. tree.no_expr) 0 ts c w s s' ts'
unfolding done
not_given_by (g.not_given {b = b}) ts none s s' ts' r h = record { at = b; value = tt; bound = refl; whole = refl; deep = omega arith; reach = r }
not_given_by g.is_given ts none s s' ts' r h = let z = behind_token r h in absurd (without kind.Assign _ _ ts z.is z.kind none)

pub not_given : (b : ℕ) (ts : List Token) → StartsWithout kind.Assign ts → Found (one g.given) continues_argument b ts tree.no_expr 0 ts
unfolding done
not_given b ts none =
    led_done same_depth (led_at b ts done (λ u. tree.no_expr) tt (omega arith) same_depth (λ c v. tt) (λ c u s. write [] g.not_given here)
    (λ c w p rule s s' ts' r h clear. not_given_by rule ts none s s' ts' r h))

is_given_by : {c : ℕ} {w : MaybeExpr} {p : List Sym} (rule : Rule (g.given c w) p) (a : Token) (us : List Token) → a.kind ≡ kind.Assign → (s s' : List Sym) (ts' : List Token) → Clear continues_argument s → Reach s' ts' (p ++ s) (a ∷ us) → size s' ts' ≤ 2 * length us →
    Pending (λ n. n) (one (g.expression Free)) tree.some_expr 0 us c w s s' ts'
is_given_by g.not_given a us e s s' ts' clear r h = absurd (clear.stops a us s' ts' (ap continues_argument e) r (omega (arith, h)))
is_given_by (g.is_given {b = b} {e = x}) a us e s s' ts' clear r h = let z = behind_token r (omega (arith, h)) in record { at = b; value = x; bound = refl; whole = refl; deep = omega arith; reach = at_rest z }

given_led : (b : ℕ) (a : Token) (us : List Token) → a.kind ≡ kind.Assign → Led (one g.given) continues_argument (λ n. n) b (a ∷ us) (one (g.expression Free)) tree.some_expr 0 us
given_led b a us e =
    led_at b us (one (g.expression Free)) tree.some_expr sample.expr (omega arith) same_depth (λ c v. tt) (λ c u s. write _ (g.is_given {t = a}) (read e here))
    (λ c w p rule s s' ts' r h clear. is_given_by rule a us e s s' ts' clear r h)

given_at : (b : ℕ) (a : Token) (ts us : List Token) → ts ≡ a ∷ us → a.kind ≡ kind.Assign → Led (one g.given) continues_argument (λ n. n) b ts (one (g.expression Free)) tree.some_expr 0 us
given_at b a ts us is e = subst (λ (l : List Token). Led (one g.given) continues_argument (λ n. n) b l (one (g.expression Free)) tree.some_expr 0 us) (sym is) (given_led b a us e)

pub given_refused : (b : ℕ) (a : Token) (ts us : List Token) (stop : Stop) → ts ≡ a ∷ us → a.kind ≡ kind.Assign → Exact (one (g.expression Free)) (continues Or Free) b us (refused stop) → Exact (one g.given) continues_argument b ts (refused stop)
given_refused b a ts us stop is e h =
    led_rest_refused stop same_depth (given_at b a ts us is e) (omega arith) (wider_exact (one (g.expression Free)) b us (refused stop) (λ s clear. narrow clear) h)

pub given_answer : (b : ℕ) (a : Token) (ts us : List Token) (x : Expr) (n : ℕ) (rest : List Token) (w : MaybeExpr) → ts ≡ a ∷ us → a.kind ≡ kind.Assign → Found (one (g.expression Free)) (continues Or Free) b us x n rest → w ≡ tree.some_expr x →
    Found (one g.given) continues_argument b ts w n rest
given_answer b a ts us x n rest w is e found made =
    let wide = wider_exact (one (g.expression Free)) b us (Yes x n rest) (λ s clear. narrow clear) found in
    answer_is (sym made) (omega arith) (led_rest same_depth (given_at b a ts us is e) (omega arith) wide)

-- an enumerator
enumerator_led : (b : ℕ) (ts : List Token) → Led enumerator_item continues_argument (λ n. n) b ts (then_ (token kind.Name) (one g.given)) (λ v. v) 0 ts
unfolding then_ token
enumerator_led b ts = led_whole enumerator_item continues_argument b ts (sample.token, tree.no_expr)

pub enumerator_unnamed : (b : ℕ) (ts : List Token) (stop : Stop) → NotExpected kind.Name fit.Within ts stop → Exact enumerator_item continues_argument b ts (refused stop)
enumerator_unnamed b ts stop h = token_refused kind.Name (one g.given) stop fit.Within same_depth (enumerator_led b ts) (λ bad. cc) h

enumerator_named : (b : ℕ) (n : Token) (ts us : List Token) → ts ≡ n ∷ us → n.kind ≡ kind.Name → Led enumerator_item continues_argument (λ n. n) b ts (one g.given) (λ v. (n, v)) 0 us
enumerator_named b n ts us is e = token_read same_depth (enumerator_led b ts) (omega arith) is e

pub enumerator_refused : (b : ℕ) (n : Token) (ts us : List Token) (stop : Stop) → ts ≡ n ∷ us → n.kind ≡ kind.Name → Exact (one g.given) continues_argument b us (refused stop) → Exact enumerator_item continues_argument b ts (refused stop)
enumerator_refused b n ts us stop is e h = led_rest_refused stop same_depth (enumerator_named b n ts us is e) (omega arith) h

pub enumerator_answer : (b : ℕ) (n : Token) (ts us : List Token) (v : MaybeExpr) (k : ℕ) (rest : List Token) → ts ≡ n ∷ us → n.kind ≡ kind.Name → Found (one g.given) continues_argument b us v k rest → Found enumerator_item continues_argument b ts (n, v) k rest
enumerator_answer b n ts us v k rest is e found = answer_is refl (omega arith) (led_rest same_depth (enumerator_named b n ts us is e) (omega arith) found)
