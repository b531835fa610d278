-- Signatures and results: an answer for each way that the reading of one may end.
use Rattle.std.proofs.Common.{◌≡◌, ℕ, ◌*◌, ◌≤◌, max, true, List, [], ◌∷◌, ◌++◌, length, refl, sym, ◌∙◌, ap, subst, arith, Option, Some, None}
use Rattle.odc_syntax.specs.declared.token.Token.{Token}
use Rattle.odc_syntax.specs.declared.token.TokenKind.TheVariants as kind
use Rattle.odc_syntax.specs.declared.grammar.Use.{Use}
use Rattle.odc_syntax.specs.declared.grammar.Use.TheVariants.{Parameter}
use Rattle.odc_syntax.specs.Tree.{Type_, Signature, signature, Params, Results}
use Rattle.odc_syntax.specs.Tree as tree
use Rattle.odc_syntax.specs.Grammar.{Sym, tok, Rule, type_, at_end, inside}
use Rattle.odc_syntax.specs.Grammar as g
use Rattle.odc_syntax.specs.Derives.{Reach, here, read, see_not, write, StartsWithout}
use Rattle.odc_lookahead.specs.declared.end.End.{End}
use Rattle.odc_lookahead.specs.declared.end.End.TheVariants.{Sure}
use Rattle.odc_lookahead.specs.declared.stop.Stop.{Stop}
use Rattle.odc_lookahead.specs.declared.stop.Stop.TheVariants as stop
use Rattle.odc_lookahead.specs.Exact.{size, Clear, Part, one, then_, done, token, behind, Exact, Found}
use Rattle.odc_lookahead.specs.Ends.{FoundAs, ExactAs}
use Rattle.odc_lookahead.specs.Read.{refused, NotExpected}
use Rattle.odc_lookahead.specs.Sets.{nothing_continues}
use Rattle.odc_lookahead.specs.TypeParts.{params_line, Convention}
use Rattle.odc_lookahead.proofs.reading.Opening.{reach_opens}
use Rattle.odc_lookahead.proofs.reading.Reaching.{behind_token, behind_part, behind_not_next}
use Rattle.odc_lookahead.proofs.reading.Leading.{same_depth, Pending, Led, led_done, first_is, without, at_rest}
use Rattle.odc_lookahead.proofs.reading.Answering.{Stepped, led_at, led_step, led_stuck, led_rest, led_rest_refused, token_read, token_refused, answer_is}
use Rattle.odc_lookahead.proofs.expr.SuffixAnswers.{nothing_clear}
use Rattle.odc_lookahead.proofs.reading.LineLemmas.{led_behind, behind_refused}
use Rattle.odc_lookahead.proofs.reading.EndLemmas.{found_as, last_alone, last_as, same_as, refused_as, as_refused}
use Rattle.odc_lookahead.proofs.types.TypeAnswers.{as_answer}
use Rattle.odc_lookahead.proofs.reading.Samples as sample
use Rattle.odc_lookahead.specs.declared.tokens.Fit.TheVariants as fit

-- no results
none_by : {u : Use} {c : ℕ} {w : Results} {p : List Sym} (rule : Rule (g.results u c w) p) (ts : List Token) → StartsWithout kind.Arrow ts → (s s' : List Sym) (ts' : List Token) → Reach s' ts' (p ++ s) ts → size s' ts' ≤ 2 * length ts →
    Pending (λ n. n) done (λ v. tree.no_results) 0 ts c w s s' ts'
unfolding done
none_by (g.results_none {b = b}) ts none s s' ts' r h = record { at = b; value = tt; bound = refl; whole = refl; deep = omega arith; reach = (behind_not_next r h).1 }
none_by g.results_one ts none s s' ts' r h = let z = behind_token r h in absurd (without kind.Arrow _ _ ts z.is z.kind none)
none_by g.results_list ts none s s' ts' r h = let z = behind_token r h in absurd (without kind.Arrow _ _ ts z.is z.kind none)

pub no_results : (u : Use) (b : ℕ) (ts : List Token) → StartsWithout kind.Arrow ts → FoundAs u (one (g.results u)) nothing_continues b ts tree.no_results 0 ts Sure
unfolding done
no_results u b ts none =
    found_as u (led_done same_depth (led_at b ts done (λ v. tree.no_results) tt (omega arith) same_depth (λ c v. tt) (λ c v s. write _ g.results_none (see_not none here))
    (λ c w p rule s s' ts' r h clear. none_by rule ts none s s' ts' r h)))

-- a list of results
abbrev list_line : Use → Part (Params × (Token × Unit {0}))
list_line u c v = g.not_next kind.CloseParen ∷ params_line (inside u) c v

list_by : {u : Use} {c : ℕ} {w : Results} {p : List Sym} (rule : Rule (g.results u c w) p) (a o : Token) (us : List Token) → a.kind ≡ kind.Arrow → o.kind ≡ kind.OpenParen → (s s' : List Sym) (ts' : List Token) → Reach s' ts' (p ++ s) (a ∷ o ∷ us) →
    size s' ts' ≤ 2 * length us → Pending (λ n. n) (list_line u) (λ v. tree.list_results v.0) 0 us c w s s' ts'
unfolding then_ token done
list_by g.results_none a o us e k s s' ts' r h = absurd ((behind_not_next r (omega (arith, h))).0 e)
list_by g.results_one a o us e k s s' ts' r h =
    let z = behind_token r (omega (arith, h)) in
    absurd ((behind_not_next (at_rest z) (omega (arith, h))).0 k)
list_by (g.results_list {b = b} {c = l} {ps = ps}) a o us e k s s' ts' r h =
    let z = behind_token r (omega (arith, h)) in
    let y = behind_token (at_rest z) (omega (arith, h)) in
    record { at = b; value = (ps, (l, tt)); bound = refl; whole = refl; deep = omega arith; reach = at_rest y }

list_led : (u : Use) (b : ℕ) (a o : Token) (us : List Token) → a.kind ≡ kind.Arrow → o.kind ≡ kind.OpenParen → Led (one (g.results u)) nothing_continues (λ n. n) b (a ∷ o ∷ us) (list_line u) (λ v. tree.list_results v.0) 0 us
unfolding then_ token done
list_led u b a o us e k =
    led_at b us (list_line u) (λ v. tree.list_results v.0) (tree.no_params, (sample.token, tt)) (omega arith) same_depth (λ c v. tt)
    (λ c v s. write _ (g.results_list {t = a} {o = o} {c = v.1.0}) (read e (read k here)))
    (λ c w p rule s s' ts' r h clear. list_by rule a o us e k s s' ts' r h)

listed : (u : Use) (b : ℕ) (a o : Token) (ts us vs : List Token) → ts ≡ a ∷ us → a.kind ≡ kind.Arrow → us ≡ o ∷ vs → o.kind ≡ kind.OpenParen → Led (one (g.results u)) nothing_continues (λ n. n) b ts (list_line u) (λ v. tree.list_results v.0) 0 vs
listed u b a o ts us vs is e second k =
    subst (λ (l : List Token). Led (one (g.results u)) nothing_continues (λ n. n) b l (list_line u) (λ v. tree.list_results v.0) 0 vs) (sym (is ∙ ap (λ (l : List Token). a ∷ l) second)) (list_led u b a o vs e k)

-- the list is not empty
filled_by : (u : Use) (vs : List Token) (c : ℕ) (v : Params × (Token × Unit {0})) (s s' : List Sym) (ts' : List Token) → Reach s' ts' (list_line u c v ++ s) vs → size s' ts' ≤ 2 * length vs →
    Stepped {U = Params × (Token × Unit {0})} (params_line (inside u)) (λ v. v) c v s s' ts' vs
filled_by u vs c v s s' ts' r h = record { by = v; is = refl; reach = (behind_not_next r h).1 }

filled : (u : Use) (b : ℕ) (a o : Token) (ts us vs : List Token) → ts ≡ a ∷ us → a.kind ≡ kind.Arrow → us ≡ o ∷ vs → o.kind ≡ kind.OpenParen → StartsWithout kind.CloseParen vs →
    Led (one (g.results u)) nothing_continues (λ n. n) b ts (params_line (inside u)) (λ v. tree.list_results v.0) 0 vs
filled u b a o ts us vs is e second k some =
    led_step vs (params_line (inside u)) (λ v. v) (tree.no_params, (sample.token, tt)) same_depth (omega arith) (omega arith) (λ c v s. see_not some here)
    (λ c v s s' ts' clear r h. filled_by u vs c v s s' ts' r h) (listed u b a o ts us vs is e second k)

empty_stuck : (u : Use) (l : Token) (vs ws : List Token) → vs ≡ l ∷ ws → l.kind ≡ kind.CloseParen → (c : ℕ) (v : Params × (Token × Unit {0})) (s s' : List Sym) (ts' : List Token) → Reach s' ts' (list_line u c v ++ s) vs → size s' ts' ≤ 2 * length vs → ⊥
empty_stuck u l vs ws third closed c v s s' ts' r h = without kind.CloseParen l ws vs third closed (behind_not_next r h).0

pub results_empty : (u : Use) (b : ℕ) (a o l : Token) (ts us vs ws : List Token) → ts ≡ a ∷ us → a.kind ≡ kind.Arrow → us ≡ o ∷ vs → o.kind ≡ kind.OpenParen → vs ≡ l ∷ ws → l.kind ≡ kind.CloseParen →
    ExactAs u (one (g.results u)) nothing_continues b ts (refused (stop.Syntax (length vs)))
results_empty u b a o l ts us vs ws is e second k third closed =
    refused_as (one (g.results u)) nothing_continues b ts u (stop.Syntax (length vs))
    (led_stuck (λ c v s s' ts' clear r h. empty_stuck u l vs ws third closed c v s s' ts' r h) (listed u b a o ts us vs is e second k))

pub results_refused : (u : Use) (b : ℕ) (a o : Token) (ts us vs : List Token) (stop : Stop) → ts ≡ a ∷ us → a.kind ≡ kind.Arrow → us ≡ o ∷ vs → o.kind ≡ kind.OpenParen → StartsWithout kind.CloseParen vs →
    Exact (params_line (inside u)) nothing_continues b vs (refused stop) → ExactAs u (one (g.results u)) nothing_continues b ts (refused stop)
results_refused u b a o ts us vs stop is e second k some h =
    refused_as (one (g.results u)) nothing_continues b ts u stop (led_rest_refused stop same_depth (filled u b a o ts us vs is e second k some) (omega arith) h)

pub results_answer : (u : Use) (b : ℕ) (a o : Token) (ts us vs : List Token) (v : Params × (Token × Unit {0})) (n : ℕ) (rest : List Token) (w : Results) → ts ≡ a ∷ us → a.kind ≡ kind.Arrow → us ≡ o ∷ vs → o.kind ≡ kind.OpenParen → StartsWithout kind.CloseParen vs →
    Found (params_line (inside u)) nothing_continues b vs v n rest → w ≡ tree.list_results v.0 → FoundAs u (one (g.results u)) nothing_continues b ts w n rest Sure
results_answer u b a o ts us vs v n rest w is e second k some found made =
    found_as u (answer_is (sym made) (omega arith) (led_rest same_depth (filled u b a o ts us vs is e second k some) (omega arith) found))

-- one result
one_by : {u : Use} {c : ℕ} {w : Results} {p : List Sym} (rule : Rule (g.results u c w) p) (a : Token) (us : List Token) → a.kind ≡ kind.Arrow → StartsWithout kind.OpenParen us → (s s' : List Sym) (ts' : List Token) → Reach s' ts' (p ++ s) (a ∷ us) →
    size s' ts' ≤ 2 * length us → Pending (λ n. n) (one (type_ (at_end u))) tree.one_result 0 us c w s s' ts'
one_by g.results_none a us e none s s' ts' r h = absurd ((behind_not_next r (omega (arith, h))).0 e)
one_by (g.results_one {b = b} {ty = ty}) a us e none s s' ts' r h =
    let z = behind_token r (omega (arith, h)) in
    record { at = b; value = ty; bound = refl; whole = refl; deep = omega arith; reach = (behind_not_next (at_rest z) h).1 }
one_by g.results_list a us e none s s' ts' r h =
    let z = behind_token r (omega (arith, h)) in
    let y = behind_token (at_rest z) h in
    absurd (without kind.OpenParen _ _ us y.is y.kind none)

one_led : (u : Use) (b : ℕ) (a : Token) (us : List Token) → a.kind ≡ kind.Arrow → StartsWithout kind.OpenParen us → Led (one (g.results u)) nothing_continues (λ n. n) b (a ∷ us) (one (type_ (at_end u))) tree.one_result 0 us
one_led u b a us e none =
    led_at b us (one (type_ (at_end u))) tree.one_result sample.type (omega arith) same_depth (λ c v. tt) (λ c v s. write _ (g.results_one {t = a}) (read e (see_not none here)))
    (λ c w p rule s s' ts' r h clear. one_by rule a us e none s s' ts' r h)

alone : (u : Use) (b : ℕ) (a : Token) (ts us : List Token) → ts ≡ a ∷ us → a.kind ≡ kind.Arrow → StartsWithout kind.OpenParen us → Led (one (g.results u)) nothing_continues (λ n. n) b ts (one (type_ (at_end u))) tree.one_result 0 us
alone u b a ts us is e none = subst (λ (l : List Token). Led (one (g.results u)) nothing_continues (λ n. n) b l (one (type_ (at_end u))) tree.one_result 0 us) (sym is) (one_led u b a us e none)

pub result_refused : (u u' : Use) (b : ℕ) (a : Token) (ts us : List Token) (stop : Stop) → u' ≡ at_end u → ts ≡ a ∷ us → a.kind ≡ kind.Arrow → StartsWithout kind.OpenParen us → ExactAs u' (one (type_ u')) nothing_continues b us (refused stop) →
    ExactAs u (one (g.results u)) nothing_continues b ts (refused stop)
result_refused u u' b a ts us stop same is e none h =
    let at_last : ExactAs (at_end u) (one (type_ (at_end u))) nothing_continues b us (refused stop) = subst (λ (x : Use). ExactAs x (one (type_ x)) nothing_continues b us (refused stop)) same h in
    refused_as (one (g.results u)) nothing_continues b ts u stop
    (led_rest_refused stop same_depth (alone u b a ts us is e none) (omega arith) (as_refused (one (type_ (at_end u))) nothing_continues b us (at_end u) stop at_last))

pub result_answer : (u u' : Use) (b : ℕ) (a : Token) (ts us : List Token) (v : Type_) (n : ℕ) (rest : List Token) (end : End) (w : Results) → u' ≡ at_end u → ts ≡ a ∷ us → a.kind ≡ kind.Arrow → StartsWithout kind.OpenParen us →
    FoundAs u' (one (type_ u')) nothing_continues b us v n rest end → w ≡ tree.one_result v → FoundAs u (one (g.results u)) nothing_continues b ts w n rest end
result_answer u u' b a ts us v n rest end w same is e none found made =
    let at_last : FoundAs (at_end u) (one (type_ (at_end u))) nothing_continues b us v n rest end = subst (λ (x : Use). FoundAs x (one (type_ x)) nothing_continues b us v n rest end) same found in
    as_answer u (one (g.results u)) nothing_continues b ts (tree.one_result v) w (max 0 n) n rest end (sym made) (omega arith) (last_as u v n rest end same_depth (alone u b a ts us is e none) (omega arith) at_last)

-- a signature
unfoldable convention : ℕ → Option Token → Sym
convention c n = g.maybe_token kind.Text n

abbrev last_results : Use → Part (Results × Unit {0})
last_results u = then_ (g.results u) done

abbrev opened_line : Use → Part ((Params × (Token × Unit {0})) × (Results × Unit {0}))
opened_line u = behind (params_line Parameter) (last_results u)

abbrev unopened_line : Use → Part (Token × ((Params × (Token × Unit {0})) × (Results × Unit {0})))
unopened_line u = then_ (token kind.OpenParen) (opened_line u)

abbrev sig_line : Use → Part (Option Token × (Token × ((Params × (Token × Unit {0})) × (Results × Unit {0}))))
sig_line u = then_ convention (unopened_line u)

abbrev sig_node : Token → Option Token × (Token × ((Params × (Token × Unit {0})) × (Results × Unit {0}))) → Signature
sig_node t v = signature t.at v.0 v.1.1.0.0 v.1.1.1.0

sig_by : {u : Use} {c : ℕ} {w : Signature} {p : List Sym} (rule : Rule (g.sig u c w) p) (t : Token) (us : List Token) → t.kind ≡ kind.Proc → (s s' : List Sym) (ts' : List Token) → Reach s' ts' (p ++ s) (t ∷ us) → size s' ts' ≤ 2 * length us →
    Pending (λ n. n) (sig_line u) (sig_node t) 0 us c w s s' ts'
unfolding then_ token done behind convention
sig_by (g.sig_ {b = b} {o = o} {c = k} {n = n} {ps = ps} {r = q}) t us e s s' ts' r h =
    let z = behind_token r (omega (arith, h)) in
    record { at = b; value = (n, (o, ((ps, (k, tt)), (q, tt)))); bound = refl; whole = ap (λ (t : Token). signature t.at n ps q) (first_is z.is); deep = omega arith; reach = at_rest z }

sig_led : (u : Use) (b : ℕ) (t : Token) (us : List Token) → t.kind ≡ kind.Proc → Led (one (g.sig u)) nothing_continues (λ n. n) b (t ∷ us) (sig_line u) (sig_node t) 0 us
unfolding then_ token done behind convention
sig_led u b t us e =
    led_at b us (sig_line u) (sig_node t) (None, (sample.token, ((tree.no_params, (sample.token, tt)), (tree.no_results, tt)))) (omega arith) same_depth (λ c v. tt)
    (λ c v s. write _ (g.sig_ {o = v.1.0} {c = v.1.1.0.1.0}) (read e here))
    (λ c w p rule s s' ts' r h clear. sig_by rule t us e s s' ts' r h)

called_by : {c : ℕ} {w : Option Token} {p : List Sym} (rule : Rule (g.maybe_token kind.Text w) p) (t : Token) (us : List Token) → t.kind ≡ kind.Text → (u : Use) (v : Token × ((Params × (Token × Unit {0})) × (Results × Unit {0}))) (s s' : List Sym) (ts' : List Token) →
    Reach s' ts' (p ++ (unopened_line u c v ++ s)) (t ∷ us) → size s' ts' ≤ 2 * length us → Stepped {U = Option Token × (Token × ((Params × (Token × Unit {0})) × (Results × Unit {0})))} (unopened_line u) (λ v. (Some t, v)) c (w, v) s s' ts' us
unfolding then_ token behind
called_by g.no_token t us e u v s s' ts' r h = let bad : t.kind ≡ kind.OpenParen = reach_opens r (omega (arith, h)) in cc
called_by g.a_token t us e u v s s' ts' r h = let z = behind_token r (omega (arith, h)) in record { by = v; is = ap (λ (t : Token). (Some t, v)) (first_is z.is); reach = at_rest z }

called_led : (u : Use) (b : ℕ) (t n : Token) (vs : List Token) → t.kind ≡ kind.Proc → n.kind ≡ kind.Text → Led (one (g.sig u)) nothing_continues (λ n. n) b (t ∷ n ∷ vs) (unopened_line u) (λ v. sig_node t (Some n, v)) 0 vs
unfolding then_ token behind convention
called_led u b t n vs e k =
    led_step vs (unopened_line u) (λ v. (Some n, v)) (sample.token, ((tree.no_params, (sample.token, tt)), (tree.no_results, tt))) same_depth (omega arith) (omega arith) (λ c v s. write _ g.a_token (read k here))
    (λ c v s s' ts' clear r h. let z = behind_part tt r (omega (arith, h)) in called_by z.rule n vs k u v.1 s s' ts' z.reach h) (sig_led u b t (n ∷ vs) e)

uncalled_by : {c : ℕ} {w : Option Token} {p : List Sym} (rule : Rule (g.maybe_token kind.Text w) p) (us : List Token) → StartsWithout kind.Text us → (u : Use) (v : Token × ((Params × (Token × Unit {0})) × (Results × Unit {0}))) (s s' : List Sym) (ts' : List Token) →
    Reach s' ts' (p ++ (unopened_line u c v ++ s)) us → size s' ts' ≤ 2 * length us → Stepped {U = Option Token × (Token × ((Params × (Token × Unit {0})) × (Results × Unit {0})))} (unopened_line u) (λ v. (None, v)) c (w, v) s s' ts' us
unfolding then_ token behind
uncalled_by g.no_token us none u v s s' ts' r h = record { by = v; is = refl; reach = r }
uncalled_by g.a_token us none u v s s' ts' r h = let z = behind_token r h in absurd (without kind.Text _ _ us z.is z.kind none)

uncalled_led : (u : Use) (b : ℕ) (t : Token) (us : List Token) → t.kind ≡ kind.Proc → StartsWithout kind.Text us → Led (one (g.sig u)) nothing_continues (λ n. n) b (t ∷ us) (unopened_line u) (λ v. sig_node t (None, v)) 0 us
unfolding then_ token behind convention
uncalled_led u b t us e none =
    led_step us (unopened_line u) (λ v. (None, v)) (sample.token, ((tree.no_params, (sample.token, tt)), (tree.no_results, tt))) same_depth (omega arith) (omega arith) (λ c v s. write [] g.no_token here)
    (λ c v s s' ts' clear r h. let z = behind_part tt r h in uncalled_by z.rule us none u v.1 s s' ts' z.reach h) (sig_led u b t us e)

convention_led : (u : Use) (b : ℕ) (t : Token) (us : List Token) (n : Option Token) (vs : List Token) → t.kind ≡ kind.Proc → Convention us n vs → Led (one (g.sig u)) nothing_continues (λ n. n) b (t ∷ us) (unopened_line u) (λ v. sig_node t (n, v)) 0 vs
convention_led u b t us (Some n) vs e z =
    subst (λ (l : List Token). Led (one (g.sig u)) nothing_continues (λ n. n) b (t ∷ l) (unopened_line u) (λ v. sig_node t (Some n, v)) 0 vs) (sym z.is) (called_led u b t n vs e z.kind)
convention_led u b t us None vs e z =
    subst (λ (l : List Token). Led (one (g.sig u)) nothing_continues (λ n. n) b (t ∷ us) (unopened_line u) (λ v. sig_node t (None, v)) 0 l) (sym z.is) (uncalled_led u b t us e z.none)

pub signature_unopened : (u : Use) (b : ℕ) (t : Token) (us : List Token) (n : Option Token) (vs : List Token) (stop : Stop) → t.kind ≡ kind.Proc → Convention us n vs → NotExpected kind.OpenParen fit.Within vs stop →
    ExactAs u (one (g.sig u)) nothing_continues b (t ∷ us) (refused stop)
signature_unopened u b t us n vs stop e z h =
    refused_as (one (g.sig u)) nothing_continues b (t ∷ us) u stop (token_refused kind.OpenParen (opened_line u) stop fit.Within same_depth (convention_led u b t us n vs e z) (λ bad. cc) h)

-- `proc (` is read
pub record Begun (t : Token) (us : List Token) (n : Option Token) (inner : List Token) : Type 0 where
  pub proc : t.kind ≡ kind.Proc
  pub open_ : Token
  pub after : List Token
  pub convention : Convention us n after
  pub is : after ≡ open_ ∷ inner
  pub paren : open_.kind ≡ kind.OpenParen

opened_led : (u : Use) (b : ℕ) (t : Token) (us : List Token) (n : Option Token) (inner : List Token) → (z : Begun t us n inner) → Led (one (g.sig u)) nothing_continues (λ n. n) b (t ∷ us) (opened_line u) (λ v. sig_node t (n, (z.open_, v))) 0 inner
opened_led u b t us n inner z = token_read same_depth (convention_led u b t us n z.after z.proc z.convention) (omega arith) z.is z.paren

results_clear : (u : Use) (c : ℕ) (v : Results × Unit {0}) (s : List Sym) → Clear nothing_continues (last_results u c v ++ s)
results_clear u c v s = nothing_clear (last_results u c v ++ s)

pub signature_refused : (u : Use) (b : ℕ) (t : Token) (us : List Token) (n : Option Token) (inner : List Token) (stop : Stop) → Begun t us n inner → Exact (params_line Parameter) nothing_continues b inner (refused stop) →
    ExactAs u (one (g.sig u)) nothing_continues b (t ∷ us) (refused stop)
signature_refused u b t us n inner stop z h =
    refused_as (one (g.sig u)) nothing_continues b (t ∷ us) u stop (behind_refused nothing_continues (params_line Parameter) (last_results u) stop same_depth (opened_led u b t us n inner z) (omega arith) h (results_clear u))

closed_led : (u : Use) (b : ℕ) (t : Token) (us : List Token) (n : Option Token) (inner : List Token) (v : Params × (Token × Unit {0})) (k : ℕ) (rest : List Token) → Begun t us n inner → Found (params_line Parameter) nothing_continues b inner v k rest →
    Led (one (g.sig u)) nothing_continues (λ n. n) b (t ∷ us) (one (g.results u)) (λ r. signature t.at n v.0 r) (max 0 k) rest
closed_led u b t us n inner v k rest z found = last_alone (led_behind same_depth (opened_led u b t us n inner z) (omega arith) found (results_clear u))

pub signature_results_refused : (u : Use) (b : ℕ) (t : Token) (us : List Token) (n : Option Token) (inner : List Token) (v : Params × (Token × Unit {0})) (k : ℕ) (rest : List Token) (stop : Stop) → Begun t us n inner →
    Found (params_line Parameter) nothing_continues b inner v k rest → k ≤ b → ExactAs u (one (g.results u)) nothing_continues b rest (refused stop) → ExactAs u (one (g.sig u)) nothing_continues b (t ∷ us) (refused stop)
signature_results_refused u b t us n inner v k rest stop z found within h =
    refused_as (one (g.sig u)) nothing_continues b (t ∷ us) u stop
    (led_rest_refused stop same_depth (closed_led u b t us n inner v k rest z found) (omega (arith, within)) (as_refused (one (g.results u)) nothing_continues b rest u stop h))

pub signature_answer : (u : Use) (b : ℕ) (t : Token) (us : List Token) (n : Option Token) (inner : List Token) (v : Params × (Token × Unit {0})) (k : ℕ) (rest : List Token) (r : Results) (m : ℕ) (last : List Token) (end : End) (w : Signature) (top : ℕ) → Begun t us n inner →
    Found (params_line Parameter) nothing_continues b inner v k rest → k ≤ b → FoundAs u (one (g.results u)) nothing_continues b rest r m last end → w ≡ signature t.at n v.0 r → top ≡ max k m →
    FoundAs u (one (g.sig u)) nothing_continues b (t ∷ us) w top last end
signature_answer u b t us n inner v k rest r m last end w top z found within results made high =
    as_answer u (one (g.sig u)) nothing_continues b (t ∷ us) (signature t.at n v.0 r) w (max (max 0 k) m) top last end (sym made) (omega (arith, high))
    (same_as u r m last end same_depth (closed_led u b t us n inner v k rest z found) (omega (arith, within)) results)
