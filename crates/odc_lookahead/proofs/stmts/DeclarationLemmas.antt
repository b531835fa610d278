-- Declarations.
use Rattle.std.proofs.Common.{◌≡◌, ℕ, suc, ◌-◌, ◌*◌, ◌<◌, ◌≤◌, max, true, false, List, [], ◌∷◌, ◌++◌, length, refl, sym, ◌∙◌, ap, subst, arith, None}
use Rattle.odc_text.specs.declared.place.Place.{Place}
use Rattle.odc_syntax.specs.declared.token.Token.{Token}
use Rattle.odc_syntax.specs.declared.token.TokenKind.{TokenKind}
use Rattle.odc_syntax.specs.declared.token.TokenKind.TheVariants as kind
use Rattle.odc_syntax.specs.declared.grammar.Mode.{Mode}
use Rattle.odc_syntax.specs.declared.grammar.Use.TheVariants.{Plain}
use Rattle.odc_syntax.specs.Tree.{Type_, MaybeType, Exprs, Initial, Decl, decl}
use Rattle.odc_syntax.specs.Tree as tree
use Rattle.odc_syntax.specs.Grammar.{Sym, tok, Rule, declare_constant, declare_inferred, declare_typed, names_one, no_type, a_type, initial_zeros, initial_dashes, initial_values}
use Rattle.odc_syntax.specs.Grammar as g
use Rattle.odc_syntax.specs.Derives.{Reach, here, read, write, StartsWithout}
use Rattle.odc_lookahead.specs.declared.stop.Stop.{Stop}
use Rattle.odc_lookahead.specs.Exact.{size, Clear, Part, one, ComesAt, then_, done, token, Exact, Found, Broken, TooDeep}
use Rattle.odc_lookahead.specs.Read.{refused, NotExpected}
use Rattle.odc_lookahead.specs.Sets.{starts_type, nothing_continues}
use Rattle.odc_lookahead.specs.stmts.StatementSets.{continues_exprs, continues_declaration}
use Rattle.odc_lookahead.specs.stmts.DeclarationParts.{name_list, continues_names, Declared, constant, inferred, typed, declared_line, declared_node, BehindType, valued, begun, behind_type_line, with_type}
use Rattle.odc_lookahead.proofs.reading.Opening.{reach_opens, StartsWith}
use Rattle.odc_lookahead.proofs.reading.Reaching.{behind_part, behind_token}
use Rattle.odc_lookahead.proofs.reading.Leading.{one_deeper, Pending, Led, led_part, led_done, first_is, without, at_rest}
use Rattle.odc_lookahead.proofs.reading.Answering.{led_start, led_step, part_refused, token_refused, token_read, Stepped, answer_is, at_start, stuck_broken}
use Rattle.odc_lookahead.proofs.expr.BinaryLemmas.{clear_narrow}
use Rattle.odc_lookahead.proofs.expr.SuffixAnswers.{nothing_clear}
use Rattle.odc_lookahead.proofs.separated.NameLemmas.{some_names, NameHead, name_head, some_names_found, some_names_refused}
use Rattle.odc_lookahead.proofs.reading.Deciding.{led_here}
use Rattle.odc_lookahead.proofs.reading.Samples as sample
use Rattle.odc_lookahead.specs.declared.tokens.Fit.TheVariants as fit

pub goes_on_declaration : (m : Mode) (k : TokenKind) → continues_exprs m k ≡ true → continues_declaration m k ≡ true
goes_on_declaration m kind.Colon e = refl
goes_on_declaration m kind.Assign e = refl
goes_on_declaration m _ e = e

abbrev pub WholeDeclaration : {U : Type 0} → Mode → ℕ → List Token → Part U → (U → Decl) → ℕ → List Token → Type 0
WholeDeclaration m b ts line f n rest = Led (one (g.declaration m)) (continues_declaration m) (λ n. suc n) b ts line f n rest

-- names, `:`, and what follows
abbrev names_line : Mode → Part ((Token × List Token) × (Token × Declared))
names_line m = then_ some_names (then_ (token kind.Colon) (declared_line m))

abbrev pub names_node : (Token × List Token) × (Token × Declared) → Decl
names_node u = declared_node u.0.0.at (u.0.0 ∷ u.0.1) u.1.1

pub into_by : (m : Mode) (c : ℕ) (n k : Token) (ns : List Token) (d : Declared) → Rule (g.declaration m (suc c) (declared_node n.at (n ∷ ns) d)) (g.names (n ∷ ns) ∷ tok kind.Colon k ∷ declared_line m c d)
into_by m c n k ns (constant ty d es) = declare_constant
into_by m c n k ns (inferred a es) = declare_inferred
into_by m c n k ns (typed ty i) = declare_typed

names_by : {s' : List Sym} {ts' : List Token} (m : Mode) (ts : List Token) (c : ℕ) (w : Decl) (p : List Sym) → Rule (g.declaration m c w) p → (s : List Sym) → Reach s' ts' (p ++ s) ts → Pending (λ n. suc n) (names_line m) names_node 0 ts c w s s' ts'
unfolding then_ token
names_by m ts c w p (declare_constant {b = b} {n = n} {c = k} {d = d} {ns = ns} {ty = ty} {es = es}) s r = record { at = b; value = ((n, ns), (k, constant ty d es)); bound = refl; whole = refl; deep = omega arith; reach = r }
names_by m ts c w p (declare_inferred {b = b} {n = n} {c = k} {a = a} {ns = ns} {es = es}) s r = record { at = b; value = ((n, ns), (k, inferred a es)); bound = refl; whole = refl; deep = omega arith; reach = r }
names_by m ts c w p (declare_typed {b = b} {n = n} {c = k} {ns = ns} {ty = ty} {i = i}) s r = record { at = b; value = ((n, ns), (k, typed ty i)); bound = refl; whole = refl; deep = omega arith; reach = r }

names_led : (m : Mode) (b : ℕ) (ts : List Token) → WholeDeclaration m b ts (names_line m) names_node 0 ts
unfolding then_ token
names_led m b ts =
    led_start b (names_line m) names_node ((sample.token, []), (sample.token, inferred sample.token tree.no_exprs)) (λ c v. tt) (λ c u. into_by m c u.0.0 u.1.0 u.0.1 u.1.1)
    (λ c w p rule s s' ts' r h clear. names_by m ts c w p rule s r)

colon_clear : (m : Mode) (c : ℕ) (u : Token × Declared) (s : List Sym) → Clear continues_names (then_ (token kind.Colon) (declared_line m) c u ++ s)
unfolding then_ token
colon_clear m c u s = record {
  stops = λ t us s' ts' on r h.
      let is : t.kind ≡ kind.Colon = reach_opens r (omega (arith, h)) in
      let bad : true ≡ false = sym on ∙ ap continues_names is in
      cc;
}

-- no name stands first
unnamed : (m : Mode) (c : ℕ) (v : Decl) (ts : List Token) → StartsWithout kind.Name ts → StartsWith kind.Name ts → ⊥
unnamed m c v [] open' h = h
unnamed m c v (t ∷ ts) open' h = open' h

pub no_declaration : (m : Mode) (b : ℕ) (ts : List Token) → StartsWithout kind.Name ts → Broken (one (g.declaration m)) (continues_declaration m) b ts (length ts)
no_declaration m b ts open' = stuck_broken (g.declaration m) (decl sample.place (tree.import None sample.token)) (λ c v h. unnamed m c v ts open' h)

-- no bound allows it
pub costs_declaration : (m : Mode) (c : ℕ) (w : Decl) (s s' : List Sym) (ts ts' : List Token) → Reach s' ts' (g.declaration m c w ∷ s) ts → size s' ts' ≤ 2 * length ts → 0 < c
costs_declaration m c w s s' ts ts' r h = let z = behind_part tt r h in cost m c w z.as_symbols z.rule
  where
    cost : (m : Mode) (c : ℕ) (w : Decl) (p : List Sym) → Rule (g.declaration m c w) p → 0 < c
    cost m c w p declare_constant = omega arith
    cost m c w p declare_inferred = omega arith
    cost m c w p declare_typed = omega arith

pub declaration_deep : (m : Mode) (d : ℕ) (ts : List Token) (t : Token) (us : List Token) → d ≡ 0 → ts ≡ t ∷ us → t.kind ≡ kind.Name → TooDeep (one (g.declaration m)) (continues_declaration m) d ts (length us)
declaration_deep m d ts t us zero' is e =
    subst (λ (k : ℕ). TooDeep (one (g.declaration m)) (continues_declaration m) k ts (length us)) (sym zero') (subst (λ (l : List Token). TooDeep (one (g.declaration m)) (continues_declaration m) 0 l (length us)) (sym is) (record {
      short = omega arith;
      comes = at_start (g.declaration m) 0 (t ∷ us) (decl sample.place (tree.import None sample.token));
      deep = λ c w s s' ts' clear r h. costs_declaration m c w s s' (t ∷ us) ts' r (omega (arith, h));
      depth = 1;
      deeper = record {
        at = λ c h.
            let e' : suc (c - 1) ≡ c = omega (arith, h) in
            subst (λ (d : ℕ). ComesAt (one (g.declaration m)) d (t ∷ us) (length us)) e' (record {
              value = names_node ((t, []), (sample.token, inferred sample.token tree.no_exprs));
              before = λ s. record { pending = _; rest = us; rest_is = refl; reach = write _ (into_by m (c - 1) t sample.token [] (inferred sample.token tree.no_exprs)) (write _ names_one (read e here)) };
            });
      };
    }))

-- the names aren't read
pub declaration_names_refused : (m : Mode) (b : ℕ) (ts : List Token) (e : Stop) → Exact (one name_list) continues_names b ts (refused e) → Exact (one (g.declaration m)) (continues_declaration m) (suc b) ts (refused e)
declaration_names_refused m b ts e h =
    part_refused some_names continues_names (then_ (token kind.Colon) (declared_line m)) e one_deeper (names_led m b ts) (omega arith) (some_names_refused b ts e h) (λ c u s clear. colon_clear m c u s)

names_read : (m : Mode) (b : ℕ) (ts ns rest : List Token) (t : Token) (z : NameHead ns t) → Found (one name_list) continues_names b ts ns 0 rest →
    WholeDeclaration m b ts (then_ (token kind.Colon) (declared_line m)) (λ u. names_node ((t, z.others), u)) 0 rest
names_read m b ts ns rest t z found =
    subst (λ (k : ℕ). WholeDeclaration m b ts (then_ (token kind.Colon) (declared_line m)) (λ u. names_node ((t, z.others), u)) k rest) (both_zero)
    (led_part one_deeper (names_led m b ts) (omega arith) (some_names_found b ts ns 0 rest t z found) (λ c u s clear. colon_clear m c u s))
  where
    both_zero : max 0 0 ≡ 0
    both_zero = omega arith

-- no `:` follows
pub declaration_no_colon : (m : Mode) (b : ℕ) (ts us ns rest : List Token) (t : Token) (e : Stop) → ts ≡ t ∷ us → Found (one name_list) continues_names b ts ns 0 rest → NotExpected kind.Colon fit.Within rest e →
    Exact (one (g.declaration m)) (continues_declaration m) (suc b) ts (refused e)
declaration_no_colon m b ts us ns rest t e is found h =
    token_refused kind.Colon (declared_line m) e fit.Within one_deeper (names_read m b ts ns rest t (name_head b ts ns 0 rest t us is found) found) (λ bad. cc) h

-- names and `:` are read
abbrev pub DeclaredAt : Mode → ℕ → List Token → Place → List Token → List Token → Type 0
DeclaredAt m b ts at ns rest = WholeDeclaration m b ts (declared_line m) (declared_node at ns) 0 rest

pub declared_at : (m : Mode) (b : ℕ) (ts us ns rest : List Token) (t k : Token) (after : List Token) → ts ≡ t ∷ us → Found (one name_list) continues_names b ts ns 0 rest → rest ≡ k ∷ after → k.kind ≡ kind.Colon → DeclaredAt m b ts t.at ns after
declared_at m b ts us ns rest t k after is found then' e =
    let z = name_head b ts ns 0 rest t us is found in
    subst (λ (l : List Token). WholeDeclaration m b ts (declared_line m) (declared_node t.at l) 0 after) (sym z.is)
    (token_read one_deeper (names_read m b ts ns rest t z found) (omega arith) then' e)

-- values end the declaration
abbrev pub last_exprs : Mode → Part (Exprs × Unit {0})
last_exprs m = then_ (g.exprs m) done

exprs_clear : (m : Mode) (c : ℕ) (u : Unit {0}) (s : List Sym) → Clear (continues_declaration m) s → Clear (continues_exprs m) (done c u ++ s)
unfolding done
exprs_clear m c u s clear = clear_narrow (goes_on_declaration m) clear

pub last_refused : (m : Mode) (b : ℕ) (ts : List Token) (f : Exprs × Unit {0} → Decl) (n : ℕ) (us : List Token) (e : Stop) → WholeDeclaration m b ts (last_exprs m) f n us → n ≤ b → Exact (one (g.exprs m)) (continues_exprs m) b us (refused e) →
    Exact (one (g.declaration m)) (continues_declaration m) (suc b) ts (refused e)
last_refused m b ts f n us e led within h = part_refused (g.exprs m) (continues_exprs m) done e one_deeper led within h (exprs_clear m)

pub last_answer : (m : Mode) (b : ℕ) (ts : List Token) (f : Exprs × Unit {0} → Decl) (n : ℕ) (us : List Token) (es : Exprs) (k top : ℕ) (after : List Token) → WholeDeclaration m b ts (last_exprs m) f n us → n ≤ b →
    Found (one (g.exprs m)) (continues_exprs m) b us es k after → top ≡ suc (max n k) → Found (one (g.declaration m)) (continues_declaration m) (suc b) ts (f (es, tt)) top after
last_answer m b ts f n us es k top after led within found high = answer_is refl (sym high) (led_done one_deeper (led_part one_deeper led within found (exprs_clear m)))

-- `=` behind the names
inferred_by : {s' : List Sym} {ts' : List Token} (m : Mode) (t : Token) (us : List Token) → t.kind ≡ kind.Assign → (c : ℕ) (d : Declared) (s : List Sym) → Reach s' ts' (declared_line m c d ++ s) (t ∷ us) → size s' ts' ≤ 2 * length us →
    Stepped (last_exprs m) (λ u. inferred t u.0) c d s s' ts' us
unfolding then_ done
inferred_by {s'} {ts'} m t us e c (constant ty d es) s r h = let z = behind_part tt r (omega (arith, h)) in absurd (no_type_first ty z.as_symbols z.rule z.reach)
  where
    no_type_first : (ty : MaybeType) (p : List Sym) → Rule (g.maybe_type Plain c ty) p → Reach s' ts' (p ++ (tok kind.Colon d ∷ g.exprs m c es ∷ s)) (t ∷ us) → ⊥
    no_type_first ty p no_type r = let bad : t.kind ≡ kind.Colon = reach_opens r (omega (arith, h)) in cc
    no_type_first ty p a_type r = let opens : starts_type Plain t.kind ≡ true = reach_opens r (omega (arith, h)) in let bad : false ≡ true = sym (ap (starts_type Plain) e) ∙ opens in cc
inferred_by m t us e c (inferred a es) s r h = let z = behind_token r (omega (arith, h)) in record { by = (es, tt); is = ap (λ (a : Token). inferred a es) (first_is z.is); reach = at_rest z }
inferred_by m t us e c (typed ty i) s r h =
    let opens : starts_type Plain t.kind ≡ true = reach_opens r (omega (arith, h)) in
    let bad : false ≡ true = sym (ap (starts_type Plain) e) ∙ opens in
    cc

inferred_led : (m : Mode) (b : ℕ) (ts : List Token) (at : Place) (ns rest : List Token) (t : Token) (us : List Token) → DeclaredAt m b ts at ns rest → rest ≡ t ∷ us → t.kind ≡ kind.Assign →
    WholeDeclaration m b ts (last_exprs m) (λ u. declared_node at ns (inferred t u.0)) 0 us
unfolding then_ done
inferred_led m b ts at ns rest t us led is e =
    led_step us (last_exprs m) (λ u. inferred t u.0) (tree.no_exprs, tt) one_deeper (omega arith) (omega arith) (λ c w s. read e here) (λ c u s s' ts' clear r h. inferred_by m t us e c u s r h)
    (subst (λ (l : List Token). DeclaredAt m b ts at ns l) is led)

pub inferred_refused : (m : Mode) (b : ℕ) (ts : List Token) (at : Place) (ns rest : List Token) (t : Token) (us : List Token) (e : Stop) → DeclaredAt m b ts at ns rest → rest ≡ t ∷ us → t.kind ≡ kind.Assign →
    Exact (one (g.exprs m)) (continues_exprs m) b us (refused e) → Exact (one (g.declaration m)) (continues_declaration m) (suc b) ts (refused e)
inferred_refused m b ts at ns rest t us e led is k h = last_refused m b ts (λ u. declared_node at ns (inferred t u.0)) 0 us e (inferred_led m b ts at ns rest t us led is k) (omega arith) h

pub inferred_answer : (m : Mode) (b : ℕ) (ts : List Token) (at : Place) (ns rest : List Token) (t : Token) (us : List Token) (es : Exprs) (k top : ℕ) (after : List Token) → DeclaredAt m b ts at ns rest → rest ≡ t ∷ us → t.kind ≡ kind.Assign →
    Found (one (g.exprs m)) (continues_exprs m) b us es k after → top ≡ suc k → Found (one (g.declaration m)) (continues_declaration m) (suc b) ts (decl at (tree.variable ns tree.no_type (tree.values es))) top after
inferred_answer m b ts at ns rest t us es k top after led is e found high =
    last_answer m b ts (λ u. declared_node at ns (inferred t u.0)) 0 us es k top after (inferred_led m b ts at ns rest t us led is e) (omega arith) found (omega (arith, high))

-- `:` behind the names' `:`
colon_by : {s' : List Sym} {ts' : List Token} (m : Mode) (t : Token) (us : List Token) → t.kind ≡ kind.Colon → (c : ℕ) (d : Declared) (s : List Sym) → Reach s' ts' (declared_line m c d ++ s) (t ∷ us) → size s' ts' ≤ 2 * length us →
    Stepped (last_exprs m) (λ u. constant tree.no_type t u.0) c d s s' ts' us
unfolding then_ done
colon_by {s'} {ts'} m t us e c (constant ty d es) s r h = let z = behind_part tt r (omega (arith, h)) in by_type ty z.as_symbols z.rule z.reach
  where
    by_type : (ty : MaybeType) (p : List Sym) → Rule (g.maybe_type Plain c ty) p → Reach s' ts' (p ++ (tok kind.Colon d ∷ g.exprs m c es ∷ s)) (t ∷ us) → Stepped (last_exprs m) (λ u. constant tree.no_type t u.0) c (constant ty d es) s s' ts' us
    by_type ty p no_type r = let z = behind_token r (omega (arith, h)) in record { by = (es, tt); is = ap (λ (d : Token). constant tree.no_type d es) (first_is z.is); reach = at_rest z }
    by_type ty p a_type r = let opens : starts_type Plain t.kind ≡ true = reach_opens r (omega (arith, h)) in let bad : false ≡ true = sym (ap (starts_type Plain) e) ∙ opens in cc
colon_by m t us e c (inferred a es) s r h = let bad : t.kind ≡ kind.Assign = reach_opens r (omega (arith, h)) in cc
colon_by m t us e c (typed ty i) s r h =
    let opens : starts_type Plain t.kind ≡ true = reach_opens r (omega (arith, h)) in
    let bad : false ≡ true = sym (ap (starts_type Plain) e) ∙ opens in
    cc

constant_led : (m : Mode) (b : ℕ) (ts : List Token) (at : Place) (ns rest : List Token) (t : Token) (us : List Token) → DeclaredAt m b ts at ns rest → rest ≡ t ∷ us → t.kind ≡ kind.Colon →
    WholeDeclaration m b ts (last_exprs m) (λ u. declared_node at ns (constant tree.no_type t u.0)) 0 us
unfolding then_ done
constant_led m b ts at ns rest t us led is e =
    led_step us (last_exprs m) (λ u. constant tree.no_type t u.0) (tree.no_exprs, tt) one_deeper (omega arith) (omega arith) (λ c w s. write _ no_type (read e here)) (λ c u s s' ts' clear r h. colon_by m t us e c u s r h)
    (subst (λ (l : List Token). DeclaredAt m b ts at ns l) is led)

pub constant_refused : (m : Mode) (b : ℕ) (ts : List Token) (at : Place) (ns rest : List Token) (t : Token) (us : List Token) (e : Stop) → DeclaredAt m b ts at ns rest → rest ≡ t ∷ us → t.kind ≡ kind.Colon →
    Exact (one (g.exprs m)) (continues_exprs m) b us (refused e) → Exact (one (g.declaration m)) (continues_declaration m) (suc b) ts (refused e)
constant_refused m b ts at ns rest t us e led is k h = last_refused m b ts (λ u. declared_node at ns (constant tree.no_type t u.0)) 0 us e (constant_led m b ts at ns rest t us led is k) (omega arith) h

pub constant_answer : (m : Mode) (b : ℕ) (ts : List Token) (at : Place) (ns rest : List Token) (t : Token) (us : List Token) (es : Exprs) (k top : ℕ) (after : List Token) → DeclaredAt m b ts at ns rest → rest ≡ t ∷ us → t.kind ≡ kind.Colon →
    Found (one (g.exprs m)) (continues_exprs m) b us es k after → top ≡ suc k → Found (one (g.declaration m)) (continues_declaration m) (suc b) ts (decl at (tree.constant ns tree.no_type es)) top after
constant_answer m b ts at ns rest t us es k top after led is e found high =
    last_answer m b ts (λ u. declared_node at ns (constant tree.no_type t u.0)) 0 us es k top after (constant_led m b ts at ns rest t us led is e) (omega arith) found (omega (arith, high))

-- a type behind the names
abbrev typed_line : Mode → Part (Type_ × BehindType)
typed_line m = then_ (g.type_ Plain) (behind_type_line m)

type_here : (m : Mode) (c : ℕ) (ty : Type_) (u : BehindType) (s : List Sym) (rest : List Token) → Reach (g.type_ Plain c ty ∷ (behind_type_line m c u ++ s)) rest (declared_line m c (with_type ty u) ++ s) rest
type_here m c ty (valued d es) s rest = write _ a_type here
type_here m c ty (begun i) s rest = here

type_by : {s' : List Sym} {ts' : List Token} (m : Mode) (ts : List Token) → StartsWithout kind.Assign ts → StartsWithout kind.Colon ts → (c : ℕ) (d : Declared) (s : List Sym) → Reach s' ts' (declared_line m c d ++ s) ts → size s' ts' ≤ 2 * length ts →
    Stepped (typed_line m) (λ u. with_type u.0 u.1) c d s s' ts' ts
unfolding then_
type_by {s'} {ts'} m ts f k c (constant ty d es) s r h = let z = behind_part tt r h in by_type ty z.as_symbols z.rule z.reach
  where
    by_type : (ty : MaybeType) (p : List Sym) → Rule (g.maybe_type Plain c ty) p → Reach s' ts' (p ++ (tok kind.Colon d ∷ g.exprs m c es ∷ s)) ts → Stepped (typed_line m) (λ u. with_type u.0 u.1) c (constant ty d es) s s' ts' ts
    by_type ty p no_type r = let z = behind_token r h in absurd (without kind.Colon _ _ ts z.is z.kind k)
    by_type ty p (a_type {ty = x}) r = record { by = (x, valued d es); is = refl; reach = r }
type_by m ts f k c (inferred a es) s r h = let z = behind_token r h in absurd (without kind.Assign _ _ ts z.is z.kind f)
type_by m ts f k c (typed ty i) s r h = record { by = (ty, begun i); is = refl; reach = r }

type_led : (m : Mode) (b : ℕ) (ts : List Token) (at : Place) (ns rest : List Token) → DeclaredAt m b ts at ns rest → StartsWithout kind.Assign rest → StartsWithout kind.Colon rest →
    WholeDeclaration m b ts (typed_line m) (λ u. declared_node at ns (with_type u.0 u.1)) 0 rest
unfolding then_
type_led m b ts at ns rest led f k =
    led_here (typed_line m) (λ u. with_type u.0 u.1) (sample.type, begun tree.zeros) (λ c w s. type_here m c w.0 w.1 s rest) (λ c u s s' ts' clear r h. type_by m rest f k c u s r h) led

pub type_refused : (m : Mode) (b : ℕ) (ts : List Token) (at : Place) (ns rest : List Token) (e : Stop) → DeclaredAt m b ts at ns rest → StartsWithout kind.Assign rest → StartsWithout kind.Colon rest →
    Exact (one (g.type_ Plain)) nothing_continues b rest (refused e) → Exact (one (g.declaration m)) (continues_declaration m) (suc b) ts (refused e)
type_refused m b ts at ns rest e led f k h =
    part_refused (g.type_ Plain) nothing_continues (behind_type_line m) e one_deeper (type_led m b ts at ns rest led f k) (omega arith) h (λ c u s clear. nothing_clear (behind_type_line m c u ++ s))

-- the type is read
abbrev pub TypedAt : Mode → ℕ → List Token → Place → List Token → Type_ → ℕ → List Token → Type 0
TypedAt m b ts at ns ty n rest = WholeDeclaration m b ts (behind_type_line m) (λ u. declared_node at ns (with_type ty u)) n rest

pub typed_at : (m : Mode) (b : ℕ) (ts : List Token) (at : Place) (ns rest : List Token) (ty : Type_) (n : ℕ) (after : List Token) → DeclaredAt m b ts at ns rest → StartsWithout kind.Assign rest → StartsWithout kind.Colon rest →
    Found (one (g.type_ Plain)) nothing_continues b rest ty n after → TypedAt m b ts at ns ty n after
typed_at m b ts at ns rest ty n after led f k found =
    subst (λ (h : ℕ). TypedAt m b ts at ns ty h after) zero_max
    (led_part one_deeper (type_led m b ts at ns rest led f k) (omega arith) found (λ c u s clear. nothing_clear (behind_type_line m c u ++ s)))
  where
    zero_max : max 0 n ≡ n
    zero_max = omega arith
