-- `for` without `in`: the clauses that are left, as far as the place where variables no longer can stand.
use Rattle.std.proofs.Common.{◌≡◌, ℕ, ◌*◌, ◌<◌, ◌≤◌, Bool, true, false, List, [], ◌∷◌, ◌++◌, length, refl, arith, ◌⊎◌, inl, inr}
use Rattle.odc_text.specs.declared.place.Place.{Place}
use Rattle.odc_syntax.specs.declared.token.Token.{Token}
use Rattle.odc_syntax.specs.declared.token.TokenKind.{TokenKind}
use Rattle.odc_syntax.specs.declared.token.TokenKind.TheVariants as kind
use Rattle.odc_syntax.specs.declared.grammar.Mode.TheVariants.{Header}
use Rattle.odc_syntax.specs.declared.grammar.Level.TheVariants.{Or}
use Rattle.odc_syntax.specs.declared.tree.RangeNames.{RangeNames}
use Rattle.odc_syntax.specs.declared.tree.UnaryOp.TheVariants.{Address}
use Rattle.odc_syntax.specs.Tree.{Expr, expr}
use Rattle.odc_syntax.specs.Tree as tree
use Rattle.odc_syntax.specs.Grammar.{Sym, tok, Rule, variables_one, variables_two, references_one, references_two}
use Rattle.odc_syntax.specs.Grammar as g
use Rattle.odc_syntax.specs.Derives.{Reach, here, read, write, StartsWithout}
use Rattle.odc_lookahead.specs.stmts.Clauses.{Clause, alone, clause_then}
use Rattle.odc_lookahead.specs.Exact.{size, one, Exact, Answer}
use Rattle.odc_lookahead.specs.stmts.Headers as header
use Rattle.odc_lookahead.specs.stmts.Loops.{Steps, body_alone, steps_line, Looped, ever, clause, stepped, ranged, looped_line, looped}
use Rattle.odc_lookahead.specs.stmts.LoopStarts as start
use Rattle.odc_lookahead.specs.stmts.LoopStarts.{Signed, plain, signed, OneName, MoreNames, Unranged, asks}
use Rattle.odc_lookahead.specs.stmts.Runs.{Declares, Undeclared}
use Rattle.odc_lookahead.specs.stmts.Runs as runs
use Rattle.odc_lookahead.specs.Sets.{continues}
use Rattle.odc_lookahead.specs.stmts.Statements.{labelled_part}
use Rattle.odc_lookahead.specs.stmts.StatementSets.{continues_statement}
use Rattle.odc_lookahead.proofs.reading.Leading.{at_rest}
use Rattle.odc_lookahead.proofs.reading.Opening.{reach_opens, First, StartsWith, is_body}
use Rattle.odc_lookahead.proofs.reading.Reaching.{behind_part, behind_token}
use Rattle.odc_lookahead.proofs.reading.Answering.{Stepped}
use Rattle.odc_lookahead.proofs.loops.LoopLemmas.{ForAt}
use Rattle.odc_lookahead.proofs.stmts.RunLemmas.{run_short, declares_short, reads_name}
use Rattle.odc_lookahead.proofs.reading.Deciding.{limit, beyond, Leads, leads_here}
use Rattle.odc_lookahead.proofs.headers.FrontLemmas.{reads_address}
use Rattle.odc_lookahead.proofs.reading.Samples as sample

pub start_not : (k : TokenKind) (ts : List Token) → StartsWith k ts → StartsWithout k ts → ⊥
start_not k [] h f = h
start_not k (t ∷ ts) h f = f h

no_sign : (t : Token) → t.kind ≡ kind.Ampersand → t.kind ≡ kind.Name → ⊥
no_sign t e f = cc

-- variables behind the sign
record OneLeft (s' : List Sym) (ts' : List Token) (i : Token) (s : List Sym) (us : List Token) : Type 0 where
  name : Token
  reach : Reach s' ts' (tok kind.Name name ∷ tok kind.In i ∷ s) us

record TwoLeft (s' : List Sym) (ts' : List Token) (i : Token) (s : List Sym) (us : List Token) : Type 0 where
  name : Token
  comma : Token
  other : Token
  reach : Reach s' ts' (tok kind.Name name ∷ tok kind.Comma comma ∷ tok kind.Name other ∷ tok kind.In i ∷ s) us

left_by : {s' : List Sym} {ts' : List Token} {r : Bool} {ts us : List Token} → Signed r ts us → (vs : RangeNames) (p : List Sym) → Rule (g.variables vs) p → (i : Token) (s : List Sym) → Reach s' ts' (p ++ (tok kind.In i ∷ s)) ts → size s' ts' ≤ 2 * length us → OneLeft s' ts' i s us ⊎ TwoLeft s' ts' i s us
left_by (plain _ n) vs p (variables_one {v = v}) i s q h = inl (record { name = v; reach = q })
left_by (plain _ n) vs p (variables_two {v = v} {c = c} {w = w}) i s q h = inr (record { name = v; comma = c; other = w; reach = q })
left_by (plain ts n) vs p references_one i s q h = absurd (start_not kind.Ampersand ts (reach_opens q h) n)
left_by (plain ts n) vs p references_two i s q h = absurd (start_not kind.Ampersand ts (reach_opens q h) n)
left_by (signed t _ k) vs p variables_one i s q h = absurd (no_sign t k (reach_opens q (omega (arith, h))))
left_by (signed t _ k) vs p variables_two i s q h = absurd (no_sign t k (reach_opens q (omega (arith, h))))
left_by (signed t _ k) vs p (references_one {v = v}) i s q h = let x = behind_token q (omega (arith, h)) in inl (record { name = v; reach = at_rest x })
left_by (signed t _ k) vs p (references_two {v = v} {c = c} {w = w}) i s q h = let x = behind_token q (omega (arith, h)) in inr (record { name = v; comma = c; other = w; reach = at_rest x })

signed_short : {r : Bool} {ts us : List Token} → Signed r ts us → length us ≤ length ts
signed_short (plain _ n) = omega arith
signed_short (signed t _ k) = omega arith

variables_left : {s' : List Sym} {ts' : List Token} {r : Bool} {ts us : List Token} → Signed r ts us → (vs : RangeNames) (i : Token) (s : List Sym) → Reach s' ts' (g.variables vs ∷ tok kind.In i ∷ s) ts → size s' ts' ≤ 2 * length us → OneLeft s' ts' i s us ⊎ TwoLeft s' ts' i s us
variables_left z vs i s q h = let short = signed_short z in let y = behind_part tt q (omega (arith, h, short)) in left_by z vs y.as_symbols y.rule i s y.reach h

-- no variables with `in`
other_by : {s' : List Sym} {ts' : List Token} (ts : List Token) → StartsWithout kind.Name ts → StartsWithout kind.Ampersand ts → (vs : RangeNames) (p : List Sym) → Rule (g.variables vs) p → (s : List Sym) → Reach s' ts' (p ++ s) ts → size s' ts' ≤ 2 * length ts → ⊥
other_by ts f k vs p variables_one s q h = start_not kind.Name ts (reach_opens q h) f
other_by ts f k vs p variables_two s q h = start_not kind.Name ts (reach_opens q h) f
other_by ts f k vs p references_one s q h = start_not kind.Ampersand ts (reach_opens q h) k
other_by ts f k vs p references_two s q h = start_not kind.Ampersand ts (reach_opens q h) k

unnamed_dead : {s' : List Sym} {ts' : List Token} (i : Token) (s : List Sym) (us : List Token) → StartsWithout kind.Name us → OneLeft s' ts' i s us ⊎ TwoLeft s' ts' i s us → size s' ts' ≤ 2 * length us → ⊥
unnamed_dead i s us f (inl z) h = start_not kind.Name us (reach_opens z.reach h) f
unnamed_dead i s us f (inr z) h = start_not kind.Name us (reach_opens z.reach h) f

one_dead : {s' : List Sym} {ts' : List Token} (i : Token) (s : List Sym) (t : Token) (us : List Token) → StartsWithout kind.Comma us → StartsWithout kind.In us → OneLeft s' ts' i s (t ∷ us) ⊎ TwoLeft s' ts' i s (t ∷ us) → size s' ts' ≤ 2 * length us → ⊥
one_dead i s t us f k (inl z) h = let a = behind_token z.reach (omega (arith, h)) in start_not kind.In us (reach_opens (at_rest a) h) k
one_dead i s t us f k (inr z) h = let a = behind_token z.reach (omega (arith, h)) in start_not kind.Comma us (reach_opens (at_rest a) h) f

comma_no_in : (c : Token) → c.kind ≡ kind.Comma → c.kind ≡ kind.In → ⊥
comma_no_in c e f = cc

more_dead : {s' : List Sym} {ts' : List Token} (i : Token) (s : List Sym) (t c : Token) (us : List Token) → c.kind ≡ kind.Comma → StartsWithout kind.Name us → OneLeft s' ts' i s (t ∷ c ∷ us) ⊎ TwoLeft s' ts' i s (t ∷ c ∷ us) → size s' ts' ≤ 2 * length us → ⊥
more_dead i s t c us e f (inl z) h = let a = behind_token z.reach (omega (arith, h)) in comma_no_in c e (reach_opens (at_rest a) (omega (arith, h)))
more_dead i s t c us e f (inr z) h =
    let a = behind_token z.reach (omega (arith, h)) in
    let b = behind_token (at_rest a) (omega (arith, h)) in
    start_not kind.Name us (reach_opens (at_rest b) h) f

pair_dead : {s' : List Sym} {ts' : List Token} (i : Token) (s : List Sym) (t c u : Token) (us : List Token) → c.kind ≡ kind.Comma → StartsWithout kind.In us → OneLeft s' ts' i s (t ∷ c ∷ u ∷ us) ⊎ TwoLeft s' ts' i s (t ∷ c ∷ u ∷ us) → size s' ts' ≤ 2 * length us → ⊥
pair_dead i s t c u us e f (inl z) h = let a = behind_token z.reach (omega (arith, h)) in comma_no_in c e (reach_opens (at_rest a) (omega (arith, h)))
pair_dead i s t c u us e f (inr z) h =
    let a = behind_token z.reach (omega (arith, h)) in
    let b = behind_token (at_rest a) (omega (arith, h)) in
    let d = behind_token (at_rest b) (omega (arith, h)) in
    start_not kind.In us (reach_opens (at_rest d) h) f

pub unranged_dead : {s' : List Sym} {ts' ts place : List Token} → Unranged ts place → (vs : RangeNames) (i : Token) (s : List Sym) → Reach s' ts' (g.variables vs ∷ tok kind.In i ∷ s) ts → size s' ts' ≤ 2 * length place → ⊥
unranged_dead {ts = ts} (start.other f k) vs i s q h = let y = behind_part tt q h in other_by ts f k vs y.as_symbols y.rule (tok kind.In i ∷ s) y.reach h
unranged_dead (start.address rest z f) vs i s q h = unnamed_dead i s rest f (variables_left z vs i s q h) h
unranged_dead (start.one_name r rest z) vs i s q h = one_dead i s z.name rest z.no_comma z.no_in (variables_left z.signed vs i s q (omega (arith, h))) h
unranged_dead (start.more r last z f) vs i s q h = more_dead i s z.name z.comma last z.is_comma f (variables_left z.signed vs i s q (omega (arith, h))) h
unranged_dead (start.pair r t rest z e f) vs i s q h = pair_dead i s z.name z.comma t rest z.is_comma f (variables_left z.signed vs i s q (omega (arith, h))) h

pub unranged_short : {ts place : List Token} → Unranged ts place → length place ≤ length ts
unranged_short (start.other f k) = omega arith
unranged_short (start.address rest z f) = signed_short z
unranged_short (start.one_name r rest z) = let h = signed_short z.signed in omega (arith, h)
unranged_short (start.more r last z f) = let h = signed_short z.signed in omega (arith, h)
unranged_short (start.pair r t rest z e f) = let h = signed_short z.signed in omega (arith, h)

-- only clauses are left
pub no_body : (ts : List Token) → StartsWithout kind.OpenBrace ts → StartsWithout kind.Do ts → First is_body ts → ⊥
no_body [] f k h = h
no_body (t ∷ ts) f k h = by_kind t.kind h f k
  where
    by_kind : (a : TokenKind) → is_body a ≡ true → (a ≡ kind.OpenBrace → ⊥) → (a ≡ kind.Do → ⊥) → ⊥
    by_kind kind.OpenBrace h f k = f refl
    by_kind kind.Do h f k = k refl
    by_kind _ h f k = cc

abbrev pub clause_node : Place → Clause × Steps → Place × g.Labelled
clause_node at w = (at, looped (clause w.0 w.1))

abbrev pub ClausesLed : ℕ → List Token → Place → List Token → List Token → Type 0
ClausesLed b ws at ts place = Leads (one labelled_part) continues_statement (λ n. n) b ws (clause_then body_alone steps_line) (clause_node at) 0 ts (2 * length place)

clauses_by : {s' : List Sym} {ts' ts place : List Token} → (First is_body ts → ⊥) → StartsWithout kind.Semicolon ts → Unranged ts place → (c : ℕ) (w : Looped) (s : List Sym) → Reach s' ts' (looped_line c w ++ s) ts → size s' ts' ≤ 2 * length place →
    Stepped {U = Looped} (clause_then body_alone steps_line) (λ w. clause w.0 w.1) c w s s' ts' ts
clauses_by bodiless k z c (ever ss) s r h = let short = unranged_short z in absurd (bodiless (reach_opens r (omega (arith, h, short))))
clauses_by bodiless k z c (clause d u) s r h = record { by = (d, u); is = refl; reach = r }
clauses_by {ts = ts} bodiless k z c (stepped t u) s r h = let short = unranged_short z in absurd (start_not kind.Semicolon ts (reach_opens r (omega (arith, h, short))) k)
clauses_by {ts = ts} bodiless k z c (ranged vs i x ss) s r h = absurd (unranged_dead z vs i (g.span_ Header c x ∷ g.body c ss ∷ s) r h)

pub clauses_led : (b : ℕ) (ws : List Token) (at : Place) (ts place : List Token) → ForAt b ws at ts → StartsWithout kind.OpenBrace ts → StartsWithout kind.Do ts → StartsWithout kind.Semicolon ts → Unranged ts place → ClausesLed b ws at ts place
clauses_led b ws at ts place led f d k z =
    let short = unranged_short z in
    leads_here (2 * length place) (clause_then body_alone steps_line) (λ w. clause w.0 w.1) (alone sample.expr, (tree.no_expr, (sample.token, (tree.no_stmt, tree.no_stmts)))) (omega (arith, short)) (λ c w s. here)
    (λ c u s s' ts' clear r h. clauses_by (no_body ts f d) k z c u s r h) led

-- where names end, no `in` can stand any more
named_run : (t : Token) (us rest : List Token) → t.kind ≡ kind.Name → Undeclared (t ∷ us) rest → length rest ≤ length us
named_run t us rest e (runs.unnamed _ f) = absurd (f e)
named_run t us rest e (runs.ended _ _ f k l) = omega arith
named_run t us rest e (runs.again _ c vs _ f k u) = let h = run_short u in omega (arith, h)

run_one : {r : Bool} {ts us rest : List Token} (t : Token) → Signed r ts (t ∷ us) → t.kind ≡ kind.Name → StartsWith kind.Name ts → Undeclared ts rest → length rest ≤ length us
run_one {us = us} {rest = rest} t (plain _ n) e h u = named_run t us rest e u
run_one t (signed v _ k) e h u = absurd (no_sign v k h)

run_more_by : (t c : Token) (us rest : List Token) → t.kind ≡ kind.Name → c.kind ≡ kind.Comma → Undeclared (t ∷ c ∷ us) rest → Undeclared us rest
run_more_by t c us rest e k (runs.unnamed _ f) = absurd (f e)
run_more_by t c us rest e k (runs.ended _ _ f l o) = absurd (l k)
run_more_by t c us rest e k (runs.again _ _ _ _ f l u) = u

run_more : {r : Bool} {ts us rest : List Token} (t c : Token) → Signed r ts (t ∷ c ∷ us) → t.kind ≡ kind.Name → c.kind ≡ kind.Comma → StartsWith kind.Name ts → Undeclared ts rest → Undeclared us rest
run_more {us = us} {rest = rest} t c (plain _ n) e k h u = run_more_by t c us rest e k u
run_more t c (signed v _ i) e k h u = absurd (no_sign v i h)

pub run_far : {ts place rest : List Token} → Unranged ts place → StartsWith kind.Name ts → Undeclared ts rest → length rest ≤ length place
run_far {ts = ts} (start.other f k) h u = absurd (start_not kind.Name ts h f)
run_far (start.address rest (signed t _ k) f) h u = absurd (no_sign t k h)
run_far (start.one_name r rest z) h u = run_one z.name z.signed z.is_name h u
run_far (start.more r last z f) h u = run_short (run_more z.name z.comma z.signed z.is_name z.is_comma h u)
run_far (start.pair r t rest z e f) h u = named_run t rest _ e (run_more z.name z.comma z.signed z.is_name z.is_comma h u)

-- the same where a `:` follows
declares_name : {ts rest : List Token} → Declares ts rest → StartsWith kind.Name ts
declares_name (runs.named t k us e f) = e
declares_name (runs.listed t c us rest e f d) = e

named_declares : (t : Token) (us rest : List Token) → Declares (t ∷ us) rest → length rest ≤ length us
named_declares t us rest (runs.named _ k vs e f) = omega arith
named_declares t us rest (runs.listed _ c vs _ e f d) = let h = declares_short d in omega (arith, h)

declares_more_by : (t c : Token) (us rest : List Token) → c.kind ≡ kind.Comma → Declares (t ∷ c ∷ us) rest → Declares us rest
declares_more_by t c us rest k (runs.named _ _ _ e f) = cc
declares_more_by t c us rest k (runs.listed _ _ _ _ e f d) = d

declares_one : {r : Bool} {ts us rest : List Token} (t : Token) → Signed r ts (t ∷ us) → StartsWith kind.Name ts → Declares ts rest → length rest ≤ length us
declares_one {us = us} {rest = rest} t (plain _ n) h u = named_declares t us rest u
declares_one t (signed v _ k) h u = absurd (no_sign v k h)

declares_more : {r : Bool} {ts us rest : List Token} (t c : Token) → Signed r ts (t ∷ c ∷ us) → c.kind ≡ kind.Comma → StartsWith kind.Name ts → Declares ts rest → Declares us rest
declares_more {us = us} {rest = rest} t c (plain _ n) k h u = declares_more_by t c us rest k u
declares_more t c (signed v _ i) k h u = absurd (no_sign v i h)

pub declares_far : {ts place rest : List Token} → Unranged ts place → Declares ts rest → length rest ≤ length place
declares_far {ts = ts} (start.other f k) u = absurd (start_not kind.Name ts (declares_name u) f)
declares_far (start.address rest (signed t _ k) f) u = absurd (no_sign t k (declares_name u))
declares_far (start.one_name r rest z) u = declares_one z.name z.signed (declares_name u) u
declares_far (start.more r last z f) u = let h = declares_short (declares_more z.name z.comma z.signed z.is_comma (declares_name u) u) in omega (arith, h)
declares_far (start.pair r t rest z e f) u = named_declares t rest _ (declares_more z.name z.comma z.signed z.is_comma (declares_name u) u)

-- what is answered of an expression lies there or behind it
reads_sign : (t : Token) (us : List Token) → t.kind ≡ kind.Ampersand → (s : List Sym) → Reach (g.unary Header 0 sample.expr ∷ s) us (g.expression Header 1 (expr t.at t.at (tree.unary Address sample.expr)) ∷ s) (t ∷ us)
reads_sign t us e s =
    write _ g.chain_one (write _ g.chain_one (write _ g.chain_one (write _ g.chain_one (write _ g.chain_one (write _ (g.unary_sign {k = kind.Ampersand} {t = t} {op = Address} refl) (read e here))))))

one_limit : (b : ℕ) (r : Bool) (ts rest : List Token) (t : Token) (a : Answer Expr) → Signed r ts (t ∷ rest) → t.kind ≡ kind.Name → (r ≡ true → 1 < b) → 0 < b → Exact (one (g.expression Header)) (continues Or Header) b ts a → limit a ≤ 2 * length rest
one_limit b r ts rest t a (plain _ n) e two some h = beyond (one (g.expression Header)) (continues Or Header) b ts a 1 _ [] rest (omega (arith, some)) (reads_name Header t rest e 0 []) h
one_limit b r ts rest t a (signed v _ k) e two some h = let more = two refl in beyond (one (g.expression Header)) (continues Or Header) b ts a 2 _ [] rest (omega (arith, more)) (reads_address v t rest k e 0 []) h

pub single_no_comma : {r : Bool} {ts us p : List Token} (t c : Token) → r ≡ false → Signed r ts (t ∷ c ∷ us) → t.kind ≡ kind.Name → c.kind ≡ kind.Comma → header.Single ts p → ⊥
single_no_comma t c false' (plain _ n) e k (header.unnamed _ f) = f e
single_no_comma t c false' (plain _ n) e k (header.named _ _ f l o) = l k
single_no_comma t c false' (signed v _ i) e k z = cc

pub single_limit : (b : ℕ) (ts place p : List Token) (a : Answer Expr) → (z : Unranged ts place) → asks z ≤ b → asks z ≤ 2 → header.Single ts p → Exact (one (g.expression Header)) (continues Or Header) b ts a → limit a ≤ 2 * length place
single_limit b ts place p a (start.other f k) some few single h = beyond (one (g.expression Header)) (continues Or Header) b ts a 1 sample.expr (g.expression Header 1 sample.expr ∷ []) ts some here h
single_limit b ts place p a (start.address rest (signed t _ k) f) some few single h = beyond (one (g.expression Header)) (continues Or Header) b ts a 1 _ _ rest some (reads_sign t rest k []) h
single_limit b ts place p a (start.one_name false rest z) some few single h = one_limit b false ts rest z.name a z.signed z.is_name (λ e. cc) some h
single_limit b ts place p a (start.one_name true rest z) some few single h = one_limit b true ts rest z.name a z.signed z.is_name (λ e. some) (omega (arith, some)) h
single_limit b ts place p a (start.more false last z f) some few single h = absurd (single_no_comma z.name z.comma refl z.signed z.is_name z.is_comma single)
single_limit b ts place p a (start.more true last z f) some few single h = absurd (omega (arith, few))
single_limit b ts place p a (start.pair false t rest z e f) some few single h = absurd (single_no_comma z.name z.comma refl z.signed z.is_name z.is_comma single)
single_limit b ts place p a (start.pair true t rest z e f) some few single h = absurd (omega (arith, few))
