-- What stands behind the type of a declaration.
use Rattle.std.proofs.Common.{◌≡◌, ℕ, suc, ◌*◌, ◌<◌, ◌≤◌, max, true, false, List, ◌∷◌, ◌++◌, length, refl, sym, ◌∙◌, ap, subst, arith}
use Rattle.odc_text.specs.declared.place.Place.{Place}
use Rattle.odc_syntax.specs.declared.token.Token.{Token}
use Rattle.odc_syntax.specs.declared.token.TokenKind.TheVariants as kind
use Rattle.odc_syntax.specs.declared.grammar.Mode.{Mode}
use Rattle.odc_syntax.specs.Tree.{Type_, Exprs, Initial, Decl, decl}
use Rattle.odc_syntax.specs.Tree as tree
use Rattle.odc_syntax.specs.Grammar.{Sym, tok, Rule, initial_zeros, initial_dashes, initial_values}
use Rattle.odc_syntax.specs.Grammar as g
use Rattle.odc_syntax.specs.Derives.{Reach, here, read, write, StartsWithout}
use Rattle.odc_lookahead.specs.declared.stop.Stop.{Stop}
use Rattle.odc_lookahead.specs.Exact.{size, Clear, one, then_, done, Exact, Found, TooDeep}
use Rattle.odc_lookahead.specs.Read.{refused}
use Rattle.odc_lookahead.specs.Sets.{starts_expression}
use Rattle.odc_lookahead.specs.stmts.StatementSets.{continues_exprs, continues_declaration}
use Rattle.odc_lookahead.specs.stmts.DeclarationParts.{declared_node, BehindType, valued, begun, behind_type_line, with_type}
use Rattle.odc_lookahead.proofs.reading.Opening.{reach_opens}
use Rattle.odc_lookahead.proofs.reading.Reaching.{behind_part, behind_token}
use Rattle.odc_lookahead.proofs.reading.Leading.{one_deeper, led_done, first_is, without, at_rest}
use Rattle.odc_lookahead.proofs.reading.Answering.{led_step, led_over, Stepped}
use Rattle.odc_lookahead.proofs.stmts.DeclarationLemmas.{WholeDeclaration, last_exprs, last_refused, last_answer, TypedAt}
use Rattle.odc_lookahead.proofs.reading.Deciding.{led_here}

-- `:` and values of a constant
valued_by : {s' : List Sym} {ts' : List Token} (m : Mode) (t : Token) (us : List Token) → t.kind ≡ kind.Colon → (c : ℕ) (u : BehindType) (s : List Sym) → Clear (continues_declaration m) s → Reach s' ts' (behind_type_line m c u ++ s) (t ∷ us) →
    size s' ts' ≤ 2 * length us → Stepped (last_exprs m) (λ u. valued t u.0) c u s s' ts' us
unfolding then_ done
valued_by m t us e c (valued d es) s clear r h = let z = behind_token r (omega (arith, h)) in record { by = (es, tt); is = ap (λ (d : Token). valued d es) (first_is z.is); reach = at_rest z }
valued_by {s'} {ts'} m t us e c (begun i) s clear r h = let z = behind_part tt r (omega (arith, h)) in absurd (nothing_begun i z.as_symbols z.rule z.reach)
  where
    nothing_begun : (i : Initial) (p : List Sym) → Rule (g.initial m c i) p → Reach s' ts' (p ++ s) (t ∷ us) → ⊥
    nothing_begun i p initial_zeros r = clear.stops t us s' ts' (ap (continues_declaration m) e) r (omega (arith, h))
    nothing_begun i p initial_dashes r = let bad : t.kind ≡ kind.Assign = reach_opens r (omega (arith, h)) in cc
    nothing_begun i p initial_values r = let bad : t.kind ≡ kind.Assign = reach_opens r (omega (arith, h)) in cc

valued_led : (m : Mode) (b : ℕ) (ts : List Token) (at : Place) (ns : List Token) (ty : Type_) (n : ℕ) (rest : List Token) (t : Token) (us : List Token) → TypedAt m b ts at ns ty n rest → n ≤ b → rest ≡ t ∷ us → t.kind ≡ kind.Colon →
    WholeDeclaration m b ts (last_exprs m) (λ u. declared_node at ns (with_type ty (valued t u.0))) n us
unfolding then_ done
valued_led m b ts at ns ty n rest t us led within is e =
    led_step us (last_exprs m) (λ u. valued t u.0) (tree.no_exprs, tt) one_deeper within (omega arith) (λ c w s. read e here) (λ c u s s' ts' clear r h. valued_by m t us e c u s clear r h)
    (subst (λ (l : List Token). TypedAt m b ts at ns ty n l) is led)

pub valued_refused : (m : Mode) (b : ℕ) (ts : List Token) (at : Place) (ns : List Token) (ty : Type_) (n : ℕ) (rest : List Token) (t : Token) (us : List Token) (e : Stop) → TypedAt m b ts at ns ty n rest → n ≤ b → rest ≡ t ∷ us → t.kind ≡ kind.Colon →
    Exact (one (g.exprs m)) (continues_exprs m) b us (refused e) → Exact (one (g.declaration m)) (continues_declaration m) (suc b) ts (refused e)
valued_refused m b ts at ns ty n rest t us e led within is k h = last_refused m b ts (λ u. declared_node at ns (with_type ty (valued t u.0))) n us e (valued_led m b ts at ns ty n rest t us led within is k) within h

pub valued_answer : (m : Mode) (b : ℕ) (ts : List Token) (at : Place) (ns : List Token) (ty : Type_) (n : ℕ) (rest : List Token) (t : Token) (us : List Token) (es : Exprs) (k top : ℕ) (after : List Token) → TypedAt m b ts at ns ty n rest → n ≤ b → rest ≡ t ∷ us →
    t.kind ≡ kind.Colon → Found (one (g.exprs m)) (continues_exprs m) b us es k after → top ≡ suc (max n k) → Found (one (g.declaration m)) (continues_declaration m) (suc b) ts (decl at (tree.constant ns (tree.some_type ty) es)) top after
valued_answer m b ts at ns ty n rest t us es k top after led within is e found high =
    last_answer m b ts (λ u. declared_node at ns (with_type ty (valued t u.0))) n us es k top after (valued_led m b ts at ns ty n rest t us led within is e) within found high

pub valued_deep : (m : Mode) (b : ℕ) (ts : List Token) (at : Place) (ns : List Token) (ty : Type_) (n : ℕ) (rest : List Token) (t : Token) (us : List Token) → TypedAt m b ts at ns ty n rest → b < n → rest ≡ t ∷ us → t.kind ≡ kind.Colon →
    TooDeep (one (g.declaration m)) (continues_declaration m) (suc b) ts (length us)
valued_deep m b ts at ns ty n rest t us led over is e =
    led_over one_deeper is over
    (λ c. (valued t tree.no_exprs, λ s. (g.exprs m c tree.no_exprs ∷ s, subst (λ (l : List Token). Reach (g.exprs m c tree.no_exprs ∷ s) us (tok kind.Colon t ∷ g.exprs m c tree.no_exprs ∷ s) l) (sym is) (read e here)))) led

-- `=` and values
begun_by : {s' : List Sym} {ts' : List Token} (m : Mode) (t : Token) (us : List Token) → t.kind ≡ kind.Assign → StartsWithout kind.Dashes us → (c : ℕ) (u : BehindType) (s : List Sym) → Clear (continues_declaration m) s →
    Reach s' ts' (behind_type_line m c u ++ s) (t ∷ us) → size s' ts' ≤ 2 * length us → Stepped (last_exprs m) (λ u. begun (tree.values u.0)) c u s s' ts' us
unfolding then_ done
begun_by m t us e f c (valued d es) s clear r h = let bad : t.kind ≡ kind.Colon = reach_opens r (omega (arith, h)) in cc
begun_by {s'} {ts'} m t us e f c (begun i) s clear r h = let z = behind_part tt r (omega (arith, h)) in by_initial i z.as_symbols z.rule z.reach
  where
    by_initial : (i : Initial) (p : List Sym) → Rule (g.initial m c i) p → Reach s' ts' (p ++ s) (t ∷ us) → Stepped (last_exprs m) (λ u. begun (tree.values u.0)) c (begun i) s s' ts' us
    by_initial i p initial_zeros r = absurd (clear.stops t us s' ts' (ap (continues_declaration m) e) r (omega (arith, h)))
    by_initial i p initial_dashes r = let z = behind_token r (omega (arith, h)) in let y = behind_token (at_rest z) h in absurd (without kind.Dashes _ _ us y.is y.kind f)
    by_initial i p (initial_values {es = es}) r = let z = behind_token r (omega (arith, h)) in record { by = (es, tt); is = refl; reach = at_rest z }

begun_led : (m : Mode) (b : ℕ) (ts : List Token) (at : Place) (ns : List Token) (ty : Type_) (n : ℕ) (rest : List Token) (t : Token) (us : List Token) → TypedAt m b ts at ns ty n rest → n ≤ b → rest ≡ t ∷ us → t.kind ≡ kind.Assign → StartsWithout kind.Dashes us →
    WholeDeclaration m b ts (last_exprs m) (λ u. declared_node at ns (with_type ty (begun (tree.values u.0)))) n us
unfolding then_ done
begun_led m b ts at ns ty n rest t us led within is e f =
    led_step us (last_exprs m) (λ u. begun (tree.values u.0)) (tree.no_exprs, tt) one_deeper within (omega arith) (λ c w s. write _ (initial_values {a = t}) (read e here)) (λ c u s s' ts' clear r h. begun_by m t us e f c u s clear r h)
    (subst (λ (l : List Token). TypedAt m b ts at ns ty n l) is led)

pub begun_refused : (m : Mode) (b : ℕ) (ts : List Token) (at : Place) (ns : List Token) (ty : Type_) (n : ℕ) (rest : List Token) (t : Token) (us : List Token) (e : Stop) → TypedAt m b ts at ns ty n rest → n ≤ b → rest ≡ t ∷ us → t.kind ≡ kind.Assign →
    StartsWithout kind.Dashes us → Exact (one (g.exprs m)) (continues_exprs m) b us (refused e) → Exact (one (g.declaration m)) (continues_declaration m) (suc b) ts (refused e)
begun_refused m b ts at ns ty n rest t us e led within is k f h = last_refused m b ts (λ u. declared_node at ns (with_type ty (begun (tree.values u.0)))) n us e (begun_led m b ts at ns ty n rest t us led within is k f) within h

pub begun_answer : (m : Mode) (b : ℕ) (ts : List Token) (at : Place) (ns : List Token) (ty : Type_) (n : ℕ) (rest : List Token) (t : Token) (us : List Token) (es : Exprs) (k top : ℕ) (after : List Token) → TypedAt m b ts at ns ty n rest → n ≤ b → rest ≡ t ∷ us →
    t.kind ≡ kind.Assign → StartsWithout kind.Dashes us → Found (one (g.exprs m)) (continues_exprs m) b us es k after → top ≡ suc (max n k) → Found (one (g.declaration m)) (continues_declaration m) (suc b) ts (decl at (tree.variable ns (tree.some_type ty) (tree.values es))) top after
begun_answer m b ts at ns ty n rest t us es k top after led within is e f found high =
    last_answer m b ts (λ u. declared_node at ns (with_type ty (begun (tree.values u.0)))) n us es k top after (begun_led m b ts at ns ty n rest t us led within is e f) within found high

pub begun_deep : (m : Mode) (b : ℕ) (ts : List Token) (at : Place) (ns : List Token) (ty : Type_) (n : ℕ) (rest : List Token) (t : Token) (us : List Token) → TypedAt m b ts at ns ty n rest → b < n → rest ≡ t ∷ us → t.kind ≡ kind.Assign →
    TooDeep (one (g.declaration m)) (continues_declaration m) (suc b) ts (length us)
begun_deep m b ts at ns ty n rest t us led over is e =
    led_over one_deeper is over
    (λ c. (
      begun (tree.values tree.no_exprs),
      λ s. (
        g.exprs m c tree.no_exprs ∷ s,
        subst (λ (l : List Token). Reach (g.exprs m c tree.no_exprs ∷ s) us (g.initial m c (tree.values tree.no_exprs) ∷ s) l) (sym is) (write _ (initial_values {a = t}) (read e here)),
      ),
    )) led

-- `=` and `---`
dashes_by : {s' : List Sym} {ts' : List Token} (m : Mode) (t d : Token) (us : List Token) → t.kind ≡ kind.Assign → d.kind ≡ kind.Dashes → (c : ℕ) (u : BehindType) (s : List Sym) → Clear (continues_declaration m) s →
    Reach s' ts' (behind_type_line m c u ++ s) (t ∷ d ∷ us) → size s' ts' ≤ 2 * length us → Stepped done (λ x. begun tree.dashes) c u s s' ts' us
unfolding done
dashes_by m t d us e f c (valued x es) s clear r h = let bad : t.kind ≡ kind.Colon = reach_opens r (omega (arith, h)) in cc
dashes_by {s'} {ts'} m t d us e f c (begun i) s clear r h = let z = behind_part tt r (omega (arith, h)) in by_initial i z.as_symbols z.rule z.reach
  where
    no_values : (es : Exprs) → Reach s' ts' (g.exprs m c es ∷ s) (d ∷ us) → ⊥
    no_values es r = let opens : starts_expression m d.kind ≡ true = reach_opens r (omega (arith, h)) in let bad : false ≡ true = sym (ap (starts_expression m) f) ∙ opens in cc

    by_initial : (i : Initial) (p : List Sym) → Rule (g.initial m c i) p → Reach s' ts' (p ++ s) (t ∷ d ∷ us) → Stepped done (λ x. begun tree.dashes) c (begun i) s s' ts' us
    by_initial i p initial_zeros r = absurd (clear.stops t (d ∷ us) s' ts' (ap (continues_declaration m) e) r (omega (arith, h)))
    by_initial i p initial_dashes r = let z = behind_token r (omega (arith, h)) in let y = behind_token (at_rest z) (omega (arith, h)) in record { by = tt; is = refl; reach = at_rest y }
    by_initial i p (initial_values {es = es}) r = let z = behind_token r (omega (arith, h)) in absurd (no_values es (at_rest z))

pub dashes_answer : (m : Mode) (b : ℕ) (ts : List Token) (at : Place) (ns : List Token) (ty : Type_) (n : ℕ) (rest : List Token) (t d : Token) (us vs : List Token) → TypedAt m b ts at ns ty n rest → n ≤ b → rest ≡ t ∷ us → t.kind ≡ kind.Assign →
    us ≡ d ∷ vs → d.kind ≡ kind.Dashes → Found (one (g.declaration m)) (continues_declaration m) (suc b) ts (decl at (tree.variable ns (tree.some_type ty) tree.dashes)) (suc n) vs
unfolding done
dashes_answer m b ts at ns ty n rest t d us vs led within is e then' f =
    led_done one_deeper
    (led_step vs done (λ x. begun tree.dashes) tt one_deeper within (omega arith) (λ c w s. write _ (initial_dashes {a = t} {t = d}) (read e (read f here))) (λ c u s s' ts' clear r h. dashes_by m t d vs e f c u s clear r h)
    (subst (λ (l : List Token). TypedAt m b ts at ns ty n l) (is ∙ ap (λ (l : List Token). t ∷ l) then') led))

-- nothing
zeros_by : {s' : List Sym} {ts' : List Token} (m : Mode) (ts : List Token) → StartsWithout kind.Colon ts → StartsWithout kind.Assign ts → (c : ℕ) (u : BehindType) (s : List Sym) → Reach s' ts' (behind_type_line m c u ++ s) ts →
    size s' ts' ≤ 2 * length ts → Stepped done (λ x. begun tree.zeros) c u s s' ts' ts
unfolding done
zeros_by m ts k f c (valued d es) s r h = let z = behind_token r h in absurd (without kind.Colon _ _ ts z.is z.kind k)
zeros_by {s'} {ts'} m ts k f c (begun i) s r h = let z = behind_part tt r h in by_initial i z.as_symbols z.rule z.reach
  where
    by_initial : (i : Initial) (p : List Sym) → Rule (g.initial m c i) p → Reach s' ts' (p ++ s) ts → Stepped done (λ x. begun tree.zeros) c (begun i) s s' ts' ts
    by_initial i p initial_zeros r = record { by = tt; is = refl; reach = r }
    by_initial i p initial_dashes r = let z = behind_token r h in absurd (without kind.Assign _ _ ts z.is z.kind f)
    by_initial i p initial_values r = let z = behind_token r h in absurd (without kind.Assign _ _ ts z.is z.kind f)

pub zeros_answer : (m : Mode) (b : ℕ) (ts : List Token) (at : Place) (ns : List Token) (ty : Type_) (n : ℕ) (rest : List Token) → TypedAt m b ts at ns ty n rest → StartsWithout kind.Colon rest → StartsWithout kind.Assign rest →
    Found (one (g.declaration m)) (continues_declaration m) (suc b) ts (decl at (tree.variable ns (tree.some_type ty) tree.zeros)) (suc n) rest
unfolding done
zeros_answer m b ts at ns ty n rest led k f =
    led_done one_deeper (led_here done (λ x. begun tree.zeros) tt (λ c w s. write _ initial_zeros here) (λ c u s s' ts' clear r h. zeros_by m rest k f c u s r h) led)
