-- `if`, and `else` to the nearest.
use Rattle.std.proofs.Common.{◌≡◌, ℕ, suc, ◌*◌, ◌<◌, ◌≤◌, max, true, false, List, [], ◌∷◌, ◌++◌, length, refl, sym, ◌∙◌, ap, subst, arith}
use Rattle.odc_syntax.specs.declared.token.Token.{Token}
use Rattle.odc_syntax.specs.declared.token.TokenKind.{TokenKind}
use Rattle.odc_syntax.specs.declared.token.TokenKind.TheVariants as kind
use Rattle.odc_syntax.specs.Tree.{Expr, Header, Else, Stmt, stmt, Stmts}
use Rattle.odc_syntax.specs.Tree as tree
use Rattle.odc_syntax.specs.Grammar.{Sym, tok, not_next, Rule, if_, else_none, else_if, else_body}
use Rattle.odc_syntax.specs.Grammar as g
use Rattle.odc_syntax.specs.Derives.{Reach, here, read, see_not, write, StartsWithout}
use Rattle.odc_lookahead.specs.declared.stop.Stop.{Stop}
use Rattle.odc_lookahead.specs.Exact.{size, Clear, Part, one, then_, done, behind, Exact, Found, Broken, TooDeep}
use Rattle.odc_lookahead.specs.Read.{refused}
use Rattle.odc_lookahead.specs.stmts.BodyParts.{head_line}
use Rattle.odc_lookahead.specs.stmts.StatementSets.{continues_statement, continues_head}
use Rattle.odc_lookahead.proofs.reading.Opening.{reach_opens, StartsWith, is_body}
use Rattle.odc_lookahead.proofs.reading.Reaching.{behind_part, behind_token, behind_not_next}
use Rattle.odc_lookahead.proofs.reading.Leading.{one_deeper, Pending, Led, led_part, led_done, first_is, without, at_rest}
use Rattle.odc_lookahead.proofs.reading.Answering.{led_at, led_rest, led_rest_refused, led_step, led_over, part_refused, answer_is, at_start, stuck_broken, Stepped}
use Rattle.odc_lookahead.proofs.stmts.StatementLemmas.{some_stmt, costs_if}
use Rattle.odc_lookahead.proofs.reading.Behind.{led_behind, behind_refused}
use Rattle.odc_lookahead.proofs.reading.Deciding.{led_here}
use Rattle.odc_lookahead.proofs.reading.Samples as sample

abbrev other_line : Part (Else × Unit {0})
other_line = then_ g.else_ done

abbrev rest_line : Part (Stmts × (Else × Unit {0}))
rest_line = then_ g.body other_line

abbrev whole_line : Part ((Header × (Expr × Unit {0})) × (Stmts × (Else × Unit {0})))
whole_line = behind head_line rest_line

abbrev if_node : Token → (Header × (Expr × Unit {0})) × (Stmts × (Else × Unit {0})) → Stmt
if_node t u = stmt t.at (tree.if_ u.0.0 u.0.1.0 u.1.0 u.1.1.0)

abbrev WholeIf : {U : Type 0} → ℕ → List Token → Part U → (U → Stmt) → ℕ → List Token → Type 0
WholeIf b ts line f n rest = Led (one g.if_statement) continues_statement (λ n. suc n) b ts line f n rest

if_by : {s' : List Sym} {ts' : List Token} (t : Token) (us : List Token) (c : ℕ) (w : Stmt) (p : List Sym) → Rule (g.if_statement c w) p → (s : List Sym) → Reach s' ts' (p ++ s) (t ∷ us) → size s' ts' ≤ 2 * length us → Pending (λ n. suc n) whole_line (if_node t) 0 us c w s s' ts'
unfolding then_ done behind
if_by t us c w p (if_ {b = b} {h = h} {e = e} {ss = ss} {other = o}) s r k =
    let z = behind_token r (omega (arith, k)) in
    record { at = b; value = ((h, (e, tt)), (ss, (o, tt))); bound = refl; whole = ap (λ (t : Token). stmt t.at (tree.if_ h e ss o)) (first_is z.is); deep = omega arith; reach = at_rest z }

if_led : (b : ℕ) (t : Token) (us : List Token) → t.kind ≡ kind.If → WholeIf b (t ∷ us) whole_line (if_node t) 0 us
unfolding then_ done behind
if_led b t us e =
    led_at b us whole_line (if_node t) ((tree.no_header, (sample.expr, tt)), (tree.no_stmts, (tree.no_else, tt))) (omega arith) one_deeper (λ c v. tt) (λ c u s. write _ if_ (read e here))
    (λ c w p rule s s' ts' r h clear. if_by t us c w p rule s r h)

if_at : (b : ℕ) (ts : List Token) (t : Token) (us : List Token) → ts ≡ t ∷ us → t.kind ≡ kind.If → WholeIf b ts whole_line (if_node t) 0 us
if_at b ts t us is e = subst (λ (l : List Token). WholeIf b l whole_line (if_node t) 0 us) (sym is) (if_led b t us e)

no_if_first : (ts : List Token) → StartsWithout kind.If ts → StartsWith kind.If ts → ⊥
no_if_first [] f h = h
no_if_first (t ∷ ts) f h = f h

pub no_if : (b : ℕ) (ts : List Token) → StartsWithout kind.If ts → Broken (one g.if_statement) continues_statement b ts (length ts)
no_if b ts f = stuck_broken g.if_statement some_stmt (λ c v h. no_if_first ts f h)

pub if_deep : (d : ℕ) (ts : List Token) (t : Token) (us : List Token) → d ≡ 0 → ts ≡ t ∷ us → t.kind ≡ kind.If → TooDeep (one g.if_statement) continues_statement d ts (length us)
if_deep d ts t us zero' is e =
    subst (λ (k : ℕ). TooDeep (one g.if_statement) continues_statement k ts (length us)) (sym zero') (subst (λ (l : List Token). TooDeep (one g.if_statement) continues_statement 0 l (length us)) (sym is) (record {
      short = omega arith;
      comes = at_start g.if_statement 0 (t ∷ us) some_stmt;
      deep = λ c w s s' ts' clear r h. costs_if c w s s' (t ∷ us) ts' r (omega (arith, h));
      depth = 1;
      deeper = (if_led 0 t us e).comes;
    }))

-- a body does not go on with what stands before it
body_stops : (k : TokenKind) → is_body k ≡ true → continues_head k ≡ false
body_stops kind.OpenBrace e = refl
body_stops kind.Do e = refl
body_stops _ e = cc

rest_clear : (c : ℕ) (u : Stmts × (Else × Unit {0})) (s : List Sym) → Clear continues_head (rest_line c u ++ s)
unfolding then_ done
rest_clear c u s = record {
  stops = λ t us s' ts' on r h.
      let opens : is_body t.kind ≡ true = reach_opens r (omega (arith, h)) in
      let bad : true ≡ false = sym on ∙ body_stops t.kind opens in
      cc;
}

pub if_head_refused : (b : ℕ) (ts : List Token) (t : Token) (us : List Token) (e : Stop) → ts ≡ t ∷ us → t.kind ≡ kind.If → Exact head_line continues_head b us (refused e) → Exact (one g.if_statement) continues_statement (suc b) ts (refused e)
if_head_refused b ts t us e is k h = behind_refused continues_head head_line rest_line e one_deeper (if_at b ts t us is k) (omega arith) h (λ c u s clear. rest_clear c u s)

-- what stands before the body is read
abbrev pub HeadRead : ℕ → List Token → Token → Header → Expr → ℕ → List Token → Type 0
HeadRead b ts t h e n rest = WholeIf b ts rest_line (λ u. if_node t ((h, (e, tt)), u)) n rest

pub if_head_read : (b : ℕ) (ts : List Token) (t : Token) (us : List Token) (h : Header) (e : Expr) (n : ℕ) (rest : List Token) → ts ≡ t ∷ us → t.kind ≡ kind.If → Found head_line continues_head b us (h, (e, tt)) n rest → HeadRead b ts t h e n rest
if_head_read b ts t us h e n rest is k found =
    subst (λ (m : ℕ). HeadRead b ts t h e m rest) zero_max (led_behind one_deeper (if_at b ts t us is k) (omega arith) found (λ c u s clear. rest_clear c u s))
  where
    zero_max : max 0 n ≡ n
    zero_max = omega arith

-- it is as deep as it may be
pub if_body_over : (b : ℕ) (ts : List Token) (t : Token) (h : Header) (e : Expr) (n : ℕ) (rest : List Token) (k : Token) (us : List Token) → HeadRead b ts t h e n rest → b < n → rest ≡ k ∷ us → is_body k.kind ≡ true → TooDeep (one g.if_statement) continues_statement (suc b) ts (length us)
unfolding then_ done
if_body_over b ts t h e n rest k us led over is f =
    led_over one_deeper is over
    (λ c. ((body_of k.kind f, (tree.no_else, tt)), λ s. (body_left c k.kind f s, subst (λ (l : List Token). Reach (body_left c k.kind f s) us (g.body c (body_of k.kind f) ∷ g.else_ c tree.no_else ∷ s) l) (sym is) (body_begins c k us (k.kind) refl f s)))) led
  where
    body_of : (k : TokenKind) → is_body k ≡ true → Stmts
    body_of kind.OpenBrace f = tree.no_stmts
    body_of _ f = tree.more_stmts some_stmt tree.no_stmts

    body_left : (c : ℕ) (k : TokenKind) → is_body k ≡ true → List Sym → List Sym
    body_left c kind.OpenBrace f s = g.stmts c tree.no_stmts ∷ tok kind.CloseBrace sample.token ∷ g.else_ c tree.no_else ∷ s
    body_left c _ f s = g.statement c some_stmt ∷ g.else_ c tree.no_else ∷ s

    body_begins : (c : ℕ) (t : Token) (us : List Token) (k : TokenKind) → t.kind ≡ k → (f : is_body k ≡ true) → (s : List Sym) → Reach (body_left c k f s) us (g.body c (body_of k f) ∷ g.else_ c tree.no_else ∷ s) (t ∷ us)
    body_begins c t us kind.OpenBrace e f s = write _ (g.body_braces {o = t}) (read e here)
    body_begins c t us kind.Do e f s = write _ (g.body_do {t = t}) (read e here)
    body_begins c t us _ e f s = cc

-- the body
other_clear : (c : ℕ) (u : Else × Unit {0}) (s : List Sym) → Clear continues_statement s → Clear continues_statement (other_line c u ++ s)
unfolding then_ done
other_clear c u s clear = record { stops = λ t us s' ts' on r h. let z = behind_part tt r (omega (arith, h)) in by_rule c u.0 t us s' ts' z.as_symbols z.rule on z.reach h }
  where
    by_rule : (c : ℕ) (o : Else) (t : Token) (us : List Token) (s' : List Sym) (ts' : List Token) (p : List Sym) → Rule (g.else_ c o) p → continues_statement t.kind ≡ true → Reach s' ts' (p ++ s) (t ∷ us) → size s' ts' ≤ suc (2 * length us) → ⊥
    by_rule c o t us s' ts' p else_none on r h = clear.stops t us s' ts' on (behind_not_next r (omega (arith, h))).1 h
    by_rule c o t us s' ts' p else_if on r h = let is : t.kind ≡ kind.Else = reach_opens r (omega (arith, h)) in let bad : true ≡ false = sym on ∙ ap continues_statement is in cc
    by_rule c o t us s' ts' p else_body on r h = let is : t.kind ≡ kind.Else = reach_opens r (omega (arith, h)) in let bad : true ≡ false = sym on ∙ ap continues_statement is in cc

pub if_body_refused : (b : ℕ) (ts : List Token) (t : Token) (h : Header) (e : Expr) (n : ℕ) (rest : List Token) (stop : Stop) → HeadRead b ts t h e n rest → n ≤ b → Exact (one g.body) continues_statement b rest (refused stop) →
    Exact (one g.if_statement) continues_statement (suc b) ts (refused stop)
if_body_refused b ts t h e n rest stop led within k = part_refused g.body continues_statement other_line stop one_deeper led within k other_clear

abbrev pub BodyRead : ℕ → List Token → Token → Header → Expr → Stmts → ℕ → List Token → Type 0
BodyRead b ts t h e ss n rest = WholeIf b ts other_line (λ u. if_node t ((h, (e, tt)), (ss, u))) n rest

pub if_body_read : (b : ℕ) (ts : List Token) (t : Token) (h : Header) (e : Expr) (n : ℕ) (rest : List Token) (ss : Stmts) (m top : ℕ) (after : List Token) → HeadRead b ts t h e n rest → n ≤ b → Found (one g.body) continues_statement b rest ss m after → top ≡ max n m →
    BodyRead b ts t h e ss top after
if_body_read b ts t h e n rest ss m top after led within found high = subst (λ (k : ℕ). BodyRead b ts t h e ss k after) (sym high) (led_part one_deeper led within found other_clear)

-- no `else`
none_by : {s' : List Sym} {ts' : List Token} (ts : List Token) → StartsWithout kind.Else ts → (c : ℕ) (o : Else) (p : List Sym) → Rule (g.else_ c o) p → (s : List Sym) → Reach s' ts' (p ++ s) ts → size s' ts' ≤ 2 * length ts → Stepped {U = Else × Unit {0}} done (λ u. (tree.no_else, tt)) c (o, tt) s s' ts' ts
unfolding done
none_by ts f c o p else_none s r h = record { by = tt; is = refl; reach = (behind_not_next r h).1 }
none_by ts f c o p else_if s r h = let z = behind_token r h in absurd (without kind.Else _ _ ts z.is z.kind f)
none_by ts f c o p else_body s r h = let z = behind_token r h in absurd (without kind.Else _ _ ts z.is z.kind f)

pub if_alone : (b : ℕ) (ts : List Token) (t : Token) (h : Header) (e : Expr) (ss : Stmts) (n : ℕ) (rest : List Token) → BodyRead b ts t h e ss n rest → StartsWithout kind.Else rest →
    Found (one g.if_statement) continues_statement (suc b) ts (stmt t.at (tree.if_ h e ss tree.no_else)) (suc n) rest
unfolding then_ done
if_alone b ts t h e ss n rest led f =
    led_done one_deeper (led_here done (λ u. (tree.no_else, tt)) tt (λ c w s. write _ else_none (see_not f here)) (λ c u s s' ts' clear r k. let z = behind_part tt r k in none_by rest f c u.0 z.as_symbols z.rule s z.reach k) led)

-- `else`
pub else_over : (b : ℕ) (ts : List Token) (t : Token) (h : Header) (e : Expr) (ss : Stmts) (n : ℕ) (rest : List Token) (k : Token) (us : List Token) → BodyRead b ts t h e ss n rest → b < n → rest ≡ k ∷ us → k.kind ≡ kind.Else → TooDeep (one g.if_statement) continues_statement (suc b) ts (length us)
unfolding then_ done
else_over b ts t h e ss n rest k us led over is f =
    led_over one_deeper is over
    (λ c. ((tree.else_body tree.no_stmts, tt), λ s. (g.body c tree.no_stmts ∷ s, subst (λ (l : List Token). Reach (g.body c tree.no_stmts ∷ s) us (g.else_ c (tree.else_body tree.no_stmts) ∷ s) l) (sym is) (write _ (else_body {t = k}) (read f here))))) led

-- `else if`
elif_by : {s' : List Sym} {ts' : List Token} (k i : Token) (us : List Token) → k.kind ≡ kind.Else → i.kind ≡ kind.If → (c : ℕ) (o : Else) (p : List Sym) → Rule (g.else_ c o) p → (s : List Sym) → Reach s' ts' (p ++ s) (k ∷ i ∷ us) → size s' ts' ≤ 2 * length (i ∷ us) →
    Stepped {U = Else × Unit {0}} (one g.if_statement) (λ x. (tree.else_if x, tt)) c (o, tt) s s' ts' (i ∷ us)
elif_by k i us e f c o p else_none s r h = let z = behind_not_next r (omega (arith, h)) in absurd (z.0 e)
elif_by k i us e f c o p (else_if {s = x}) s r h = let z = behind_token r (omega (arith, h)) in record { by = x; is = refl; reach = at_rest z }
elif_by k i us e f c o p else_body s r h =
    let z = behind_token r (omega (arith, h)) in
    let opens : is_body i.kind ≡ true = reach_opens (at_rest z) h in
    let bad : false ≡ true = sym (ap is_body f) ∙ opens in
    cc

elif_led : (b : ℕ) (ts : List Token) (t : Token) (h : Header) (e : Expr) (ss : Stmts) (n : ℕ) (rest : List Token) (k : Token) (us : List Token) (i : Token) (vs : List Token) → BodyRead b ts t h e ss n rest → n ≤ b → rest ≡ k ∷ us → k.kind ≡ kind.Else → us ≡ i ∷ vs → i.kind ≡ kind.If →
    WholeIf b ts (one g.if_statement) (λ x. if_node t ((h, (e, tt)), (ss, (tree.else_if x, tt)))) n us
unfolding then_ done
elif_led b ts t h e ss n rest k us i vs led within is f then' j =
    subst (λ (l : List Token). WholeIf b ts (one g.if_statement) (λ x. if_node t ((h, (e, tt)), (ss, (tree.else_if x, tt)))) n l) (sym then')
    (led_step (i ∷ vs) (one g.if_statement) (λ x. (tree.else_if x, tt)) some_stmt one_deeper within (omega arith) (λ c w s. write _ (else_if {t = k}) (read f here))
    (λ c u s s' ts' clear r q. let z = behind_part tt r (omega (arith, q)) in elif_by k i vs f j c u.0 z.as_symbols z.rule s z.reach q)
    (subst (λ (l : List Token). BodyRead b ts t h e ss n l) (is ∙ ap (λ (l : List Token). k ∷ l) then') led))

pub elif_answer : (b : ℕ) (ts : List Token) (t : Token) (h : Header) (e : Expr) (ss : Stmts) (n : ℕ) (rest : List Token) (k : Token) (us : List Token) (i : Token) (vs : List Token) (x : Stmt) (m top : ℕ) (after : List Token) → BodyRead b ts t h e ss n rest → n ≤ b → rest ≡ k ∷ us →
    k.kind ≡ kind.Else → us ≡ i ∷ vs → i.kind ≡ kind.If → Found (one g.if_statement) continues_statement b us x m after → top ≡ suc (max n m) → Found (one g.if_statement) continues_statement (suc b) ts (stmt t.at (tree.if_ h e ss (tree.else_if x))) top after
elif_answer b ts t h e ss n rest k us i vs x m top after led within is f then' j found high = answer_is refl (sym high) (led_rest one_deeper (elif_led b ts t h e ss n rest k us i vs led within is f then' j) within found)

pub elif_refused : (b : ℕ) (ts : List Token) (t : Token) (h : Header) (e : Expr) (ss : Stmts) (n : ℕ) (rest : List Token) (k : Token) (us : List Token) (i : Token) (vs : List Token) (stop : Stop) → BodyRead b ts t h e ss n rest → n ≤ b → rest ≡ k ∷ us → k.kind ≡ kind.Else → us ≡ i ∷ vs →
    i.kind ≡ kind.If → Exact (one g.if_statement) continues_statement b us (refused stop) → Exact (one g.if_statement) continues_statement (suc b) ts (refused stop)
elif_refused b ts t h e ss n rest k us i vs stop led within is f then' j q = led_rest_refused stop one_deeper (elif_led b ts t h e ss n rest k us i vs led within is f then' j) within q

-- `else` and a body
else_by : {s' : List Sym} {ts' : List Token} (k : Token) (us : List Token) → k.kind ≡ kind.Else → StartsWithout kind.If us → (c : ℕ) (o : Else) (p : List Sym) → Rule (g.else_ c o) p → (s : List Sym) → Reach s' ts' (p ++ s) (k ∷ us) → size s' ts' ≤ 2 * length us →
    Stepped {U = Else × Unit {0}} (one g.body) (λ x. (tree.else_body x, tt)) c (o, tt) s s' ts' us
else_by k us e f c o p else_none s r h = let z = behind_not_next r (omega (arith, h)) in absurd (z.0 e)
else_by k us e f c o p else_if s r h = let z = behind_token r (omega (arith, h)) in absurd (no_if_first us f (reach_opens (at_rest z) h))
else_by k us e f c o p (else_body {ss = x}) s r h = let z = behind_token r (omega (arith, h)) in record { by = x; is = refl; reach = at_rest z }

else_led : (b : ℕ) (ts : List Token) (t : Token) (h : Header) (e : Expr) (ss : Stmts) (n : ℕ) (rest : List Token) (k : Token) (us : List Token) → BodyRead b ts t h e ss n rest → n ≤ b → rest ≡ k ∷ us → k.kind ≡ kind.Else → StartsWithout kind.If us →
    WholeIf b ts (one g.body) (λ x. if_node t ((h, (e, tt)), (ss, (tree.else_body x, tt)))) n us
unfolding then_ done
else_led b ts t h e ss n rest k us led within is f i =
    led_step us (one g.body) (λ x. (tree.else_body x, tt)) tree.no_stmts one_deeper within (omega arith) (λ c w s. write _ (else_body {t = k}) (read f here))
    (λ c u s s' ts' clear r q. let z = behind_part tt r (omega (arith, q)) in else_by k us f i c u.0 z.as_symbols z.rule s z.reach q)
    (subst (λ (l : List Token). BodyRead b ts t h e ss n l) is led)

pub else_answer : (b : ℕ) (ts : List Token) (t : Token) (h : Header) (e : Expr) (ss : Stmts) (n : ℕ) (rest : List Token) (k : Token) (us : List Token) (x : Stmts) (m top : ℕ) (after : List Token) → BodyRead b ts t h e ss n rest → n ≤ b → rest ≡ k ∷ us → k.kind ≡ kind.Else →
    StartsWithout kind.If us → Found (one g.body) continues_statement b us x m after → top ≡ suc (max n m) → Found (one g.if_statement) continues_statement (suc b) ts (stmt t.at (tree.if_ h e ss (tree.else_body x))) top after
else_answer b ts t h e ss n rest k us x m top after led within is f i found high = answer_is refl (sym high) (led_rest one_deeper (else_led b ts t h e ss n rest k us led within is f i) within found)

pub else_refused : (b : ℕ) (ts : List Token) (t : Token) (h : Header) (e : Expr) (ss : Stmts) (n : ℕ) (rest : List Token) (k : Token) (us : List Token) (stop : Stop) → BodyRead b ts t h e ss n rest → n ≤ b → rest ≡ k ∷ us → k.kind ≡ kind.Else → StartsWithout kind.If us →
    Exact (one g.body) continues_statement b us (refused stop) → Exact (one g.if_statement) continues_statement (suc b) ts (refused stop)
else_refused b ts t h e ss n rest k us stop led within is f i q = led_rest_refused stop one_deeper (else_led b ts t h e ss n rest k us led within is f i) within q
