-- What stands before a body: a declaration or an assignment with its `;`, and the condition.
use Rattle.std.proofs.Common.{◌≡◌, ℕ, ◌*◌, ◌<◌, ◌≤◌, max, Bool, true, false, List, ◌∷◌, ◌++◌, length, refl, sym, ◌∙◌, ap, subst, arith, None, ◌⊎◌, inl, inr}
use Rattle.odc_syntax.specs.declared.token.Token.{Token}
use Rattle.odc_syntax.specs.declared.token.TokenKind.{TokenKind}
use Rattle.odc_syntax.specs.declared.token.TokenKind.TheVariants as kind
use Rattle.odc_syntax.specs.declared.grammar.Mode.{Mode}
use Rattle.odc_syntax.specs.declared.grammar.Mode.TheVariants as mode
use Rattle.odc_syntax.specs.declared.grammar.Level.TheVariants.{Or}
use Rattle.odc_syntax.specs.Tree.{Expr, expr, Exprs, Header, Stmt, stmt, Decl, decl, first_of}
use Rattle.odc_syntax.specs.Tree as tree
use Rattle.odc_syntax.specs.Grammar.{Sym, tok, Rule, later, header_none, header_decl, header_simple, exprs_, exprs_end, exprs_more, simple_eval, simple_assign}
use Rattle.odc_syntax.specs.Grammar as g
use Rattle.odc_syntax.specs.Derives.{Reach, here, write}
use Rattle.odc_lookahead.specs.declared.stop.Stop.{Stop}
use Rattle.odc_lookahead.specs.declared.stop.Stop.TheVariants as stop
use Rattle.odc_lookahead.specs.Exact.{size, Clear, Part, one, then_, done, token, Exact, Yes, Found}
use Rattle.odc_lookahead.specs.Read.{refused, NotExpected}
use Rattle.odc_lookahead.specs.stmts.BodyParts.{head_line}
use Rattle.odc_lookahead.specs.stmts.Runs.{Declares, named, listed, Undeclared, again}
use Rattle.odc_lookahead.specs.Sets.{continues}
use Rattle.odc_lookahead.specs.stmts.StatementSets.{continues_simple, continues_declaration, continues_head}
use Rattle.odc_lookahead.proofs.reading.Opening.{reach_opens}
use Rattle.odc_lookahead.proofs.reading.Reaching.{behind_part}
use Rattle.odc_lookahead.proofs.reading.Leading.{same_depth, Pending, Led, led_part, led_done}
use Rattle.odc_lookahead.proofs.reading.Answering.{part_refused, token_refused, token_read, answer_is}
use Rattle.odc_lookahead.proofs.expr.BinaryLemmas.{clear_narrow}
use Rattle.odc_lookahead.proofs.expr.SuffixAnswers.{token_clear}
use Rattle.odc_lookahead.proofs.expr.WholeLemmas.{name_whole}
use Rattle.odc_lookahead.proofs.expr.ExprsLemmas.{goes_on_exprs}
use Rattle.odc_lookahead.proofs.stmts.SimpleLemmas.{goes_on_simple}
use Rattle.odc_lookahead.proofs.stmts.RunLemmas.{run_short, declares_short, not_declared, not_simple, simple_beyond, declaration_beyond}
use Rattle.odc_lookahead.proofs.reading.Deciding.{stop_limit, Leads, leads_start, leads_less, leads_part, leads_part_refused, leads_led}
use Rattle.odc_lookahead.proofs.reading.Samples as sample
use Rattle.odc_lookahead.specs.declared.tokens.Fit.{Fit}
use Rattle.odc_lookahead.specs.declared.tokens.Fit.TheVariants as fit

pub head_goes : (k : TokenKind) → continues_simple mode.Header k ≡ true → continues_head k ≡ true
head_goes kind.Semicolon e = refl
head_goes kind.Colon e = refl
head_goes _ e = e

pub head_simple_clear : {s : List Sym} → Clear continues_head s → Clear (continues_simple mode.Header) s
head_simple_clear clear = clear_narrow head_goes clear

pub head_clear : {s : List Sym} → Clear continues_head s → Clear (continues Or mode.Header) s
head_clear clear = clear_narrow (λ k e. head_goes k (goes_on_simple mode.Header k (goes_on_exprs mode.Header k e))) clear

pub last_clear : (c : ℕ) (u : Unit {0}) (s : List Sym) → Clear continues_head s → Clear (continues Or mode.Header) (done c u ++ s)
unfolding done
last_clear c u s clear = head_clear clear

-- how what stands before a body may be read
unfoldable pub HeadReads : (s' : List Sym) (ts' : List Token) (c : ℕ) (h : Header) (s : List Sym) (ts : List Token) → Type 0
HeadReads s' ts' c h s ts = ((h ≡ tree.no_header) × Reach s' ts' s ts) ⊎ (
    ((d : Decl) × ((t : Token) × ((h ≡ tree.decl_header d) × Reach s' ts' (g.declaration mode.Header c d ∷ tok kind.Semicolon t ∷ s) ts))) ⊎
    ((x : Stmt) × ((t : Token) × ((h ≡ tree.simple_header x) × Reach s' ts' (g.simple mode.Header c x ∷ tok kind.Semicolon t ∷ s) ts))))

pub by_header : {s' : List Sym} {ts' : List Token} (c : ℕ) (h : Header) (p : List Sym) → Rule (g.header c h) p → (s : List Sym) (ts : List Token) → Reach s' ts' (p ++ s) ts → HeadReads s' ts' c h s ts
unfolding HeadReads
by_header c h p header_none s ts r = inl (refl, r)
by_header c h p (header_decl {t = t} {d = d}) s ts r = inr (inl (d, (t, (refl, r))))
by_header c h p (header_simple {t = t} {s = x}) s ts r = inr (inr (x, (t, (refl, r))))

-- names and a `:` are no condition
pub not_expression : {s' : List Sym} {ts' ts rest : List Token} → Declares ts rest → (m : Mode) (c : ℕ) (e : Expr) (s : List Sym) → Clear continues_head s → ((k : TokenKind) → continues Or m k ≡ true → continues_head k ≡ true) → Reach s' ts' (g.expression m c e ∷ s) ts →
    size s' ts' ≤ 2 * length rest → ⊥
not_expression {s'} {ts'} (named t k us e f) m c x s clear goes r h =
    let z = (name_whole m t (k ∷ us) e (ap (continues Or m) f)).only c x s s' ts' (clear_narrow goes clear) r (omega (arith, h)) in
    clear.stops k us s' ts' (ap continues_head f) z.reach (omega (arith, h))
not_expression {s'} {ts'} (listed t k us rest e f d) m c x s clear goes r h =
    let short = declares_short d in
    let z = (name_whole m t (k ∷ us) e (ap (continues Or m) f)).only c x s s' ts' (clear_narrow goes clear) r (omega (arith, h, short)) in
    clear.stops k us s' ts' (ap continues_head f) z.reach (omega (arith, h, short))

pub header_goes : (k : TokenKind) → continues Or mode.Header k ≡ true → continues_head k ≡ true
header_goes k e = head_goes k (goes_on_simple mode.Header k (goes_on_exprs mode.Header k e))

pub semicolon_clear : (cont : TokenKind → Bool) → cont kind.Semicolon ≡ false → (t : Token) (s : List Sym) → Clear cont (tok kind.Semicolon t ∷ s)
semicolon_clear cont e t s = record {
  stops = λ u us s' ts' on r h.
      let is : u.kind ≡ kind.Semicolon = reach_opens r (omega (arith, h)) in
      let bad : true ≡ false = sym on ∙ ap cont is ∙ e in
      cc;
}

pub no_colon_semicolon : {s' : List Sym} {ts' : List Token} (t : Token) (s : List Sym) (rest : List Token) → size s' ts' ≤ 2 * length rest → (k : Token) → k.kind ≡ kind.Colon → Reach s' ts' (tok kind.Semicolon t ∷ s) (k ∷ rest) → ⊥
no_colon_semicolon t s rest h k e r = let is : k.kind ≡ kind.Semicolon = reach_opens r (omega (arith, h)) in cc

-- a declaration
abbrev pub condition_line : Part (Expr × Unit {0})
condition_line = then_ (g.expression mode.Header) done

abbrev pub closed_line : Part (Token × (Expr × Unit {0}))
closed_line = then_ (token kind.Semicolon) condition_line

abbrev declared_line : Part (Decl × (Token × (Expr × Unit {0})))
declared_line = then_ (g.declaration mode.Header) closed_line

abbrev with_declared : Decl × (Token × (Expr × Unit {0})) → Header × (Expr × Unit {0})
with_declared u = (tree.decl_header u.0, u.1.1)

declared_by : {s' : List Sym} {ts' ts rest : List Token} → Declares ts rest → (c : ℕ) (h : Header) (e : Expr) (s : List Sym) → Clear continues_head s → HeadReads s' ts' c h (g.expression mode.Header c e ∷ s) ts → size s' ts' ≤ 2 * length rest →
    Pending (λ n. n) declared_line with_declared 0 ts c (h, (e, tt)) s s' ts'
unfolding HeadReads then_ token done
declared_by d c h e s clear (inl z) k = absurd (not_expression d mode.Header c e s clear header_goes z.1 k)
declared_by d c h e s clear (inr (inl (x, (t, z)))) k = record { at = c; value = (x, (t, (e, tt))); bound = refl; whole = ap (λ (h : Header). (h, (e, tt))) z.0; deep = omega arith; reach = z.1 }
declared_by {rest = rest} d c h e s clear (inr (inr (x, (t, z)))) k =
    absurd (not_simple mode.Header d c x (tok kind.Semicolon t ∷ g.expression mode.Header c e ∷ s) (semicolon_clear (continues_simple mode.Header) refl t (g.expression mode.Header c e ∷ s)) (no_colon_semicolon t (g.expression mode.Header c e ∷ s) rest k) z.1 k)

declared_leads : (b : ℕ) (ts rest : List Token) → Declares ts rest → Leads head_line continues_head (λ n. n) b ts declared_line with_declared 0 ts (2 * length rest)
unfolding HeadReads then_ token done
declared_leads b ts rest d =
    let short = declares_short d in
    leads_start b ts declared_line with_declared (2 * length rest) (decl sample.place (tree.import None sample.token), (sample.token, (sample.expr, tt))) same_depth (omega arith) (λ c u s. write _ header_decl here)
    (λ c w s s' ts' clear r h. let z = behind_part tt r (omega (arith, h, short)) in declared_by d c w.0 w.1.0 s clear (by_header c w.0 z.as_symbols z.rule (g.expression mode.Header c w.1.0 ∷ s) ts z.reach) h)

pub closed_clear : (cont : TokenKind → Bool) → cont kind.Semicolon ≡ false → (c : ℕ) (u : Token × (Expr × Unit {0})) (s : List Sym) → Clear continues_head s → Clear cont (closed_line c u ++ s)
closed_clear cont e c u s clear = token_clear cont kind.Semicolon e condition_line c u s

pub declaration_limit : (b : ℕ) (ts rest : List Token) (e : Stop) → 0 < b → Declares ts rest → Exact (one (g.declaration mode.Header)) (continues_declaration mode.Header) b ts (refused e) → stop_limit e ≤ 2 * length rest
declaration_limit b ts rest (stop.Syntax left) some d h = declaration_beyond mode.Header b (refused (stop.Syntax left)) d some h
declaration_limit b ts rest (stop.Deep left) some d h = declaration_beyond mode.Header b (refused (stop.Deep left)) d some h
declaration_limit b ts rest stop.Memory some d h = omega arith

pub head_declaration_refused : (b : ℕ) (ts rest : List Token) (e : Stop) → 0 < b → Declares ts rest → Exact (one (g.declaration mode.Header)) (continues_declaration mode.Header) b ts (refused e) → Exact head_line continues_head b ts (refused e)
head_declaration_refused b ts rest e some d h =
    leads_part_refused (g.declaration mode.Header) (continues_declaration mode.Header) closed_line e same_depth (omega arith) (declaration_limit b ts rest e some d h) (declared_leads b ts rest d) h (closed_clear (continues_declaration mode.Header) refl)

-- a declaration or an assignment is read, and `;` must follow
abbrev pub ClosedAt : ℕ → List Token → Header → ℕ → List Token → Type 0
ClosedAt b ts h n rest = Led head_line continues_head (λ n. n) b ts closed_line (λ u. (h, u.1)) n rest

pub head_declared : (b : ℕ) (ts rest : List Token) (v : Decl) (n : ℕ) (after : List Token) → 0 < b → Declares ts rest → Found (one (g.declaration mode.Header)) (continues_declaration mode.Header) b ts v n after → ClosedAt b ts (tree.decl_header v) n after
head_declared b ts rest v n after some d found =
    let far = declaration_beyond mode.Header b (Yes v n after) d some found in
    subst (λ (k : ℕ). ClosedAt b ts (tree.decl_header v) k after) zero_max
    (leads_led (omega arith) (leads_part same_depth (omega arith) (omega arith) (leads_less {less = 2 * length after} far (declared_leads b ts rest d)) found (closed_clear (continues_declaration mode.Header) refl)))
  where
    zero_max : max 0 n ≡ n
    zero_max = omega arith

pub head_unclosed : (b : ℕ) (ts : List Token) (h : Header) (n : ℕ) (rest : List Token) (e : Stop) (within : Fit) → ClosedAt b ts h n rest → (within ≡ fit.Over → b < n) → NotExpected kind.Semicolon within rest e → Exact head_line continues_head b ts (refused e)
head_unclosed b ts h n rest e within led over k = token_refused kind.Semicolon condition_line e within same_depth led over k

-- the `;` is read, and the condition must follow
abbrev pub ConditionAt : ℕ → List Token → Header → ℕ → List Token → Type 0
ConditionAt b ts h n us = Led head_line continues_head (λ n. n) b ts condition_line (λ u. (h, u)) n us

pub head_closed : (b : ℕ) (ts : List Token) (h : Header) (n : ℕ) (rest : List Token) (t : Token) (us : List Token) → ClosedAt b ts h n rest → n ≤ b → rest ≡ t ∷ us → t.kind ≡ kind.Semicolon → ConditionAt b ts h n us
head_closed b ts h n rest t us led within is e = token_read same_depth led within is e

pub condition_refused : (b : ℕ) (ts : List Token) (h : Header) (n : ℕ) (us : List Token) (e : Stop) → ConditionAt b ts h n us → n ≤ b → Exact (one (g.expression mode.Header)) (continues Or mode.Header) b us (refused e) → Exact head_line continues_head b ts (refused e)
condition_refused b ts h n us e led within q = part_refused (g.expression mode.Header) (continues Or mode.Header) done e same_depth led within q last_clear

pub condition_answer : (b : ℕ) (ts : List Token) (h : Header) (n : ℕ) (us : List Token) (v : Expr) (m top : ℕ) (after : List Token) → ConditionAt b ts h n us → n ≤ b → Found (one (g.expression mode.Header)) (continues Or mode.Header) b us v m after → top ≡ max n m →
    Found head_line continues_head b ts (h, (v, tt)) top after
condition_answer b ts h n us v m top after led within found high = answer_is refl (sym high) (led_done same_depth (led_part same_depth led within found last_clear))

-- several names that are not declared: an assignment or expressions, with `;`
abbrev pub simple_line : Part (Stmt × (Token × (Expr × Unit {0})))
simple_line = then_ (g.simple mode.Header) closed_line

abbrev pub with_simple : Stmt × (Token × (Expr × Unit {0})) → Header × (Expr × Unit {0})
with_simple u = (tree.simple_header u.0, u.1.1)

-- names before a comma, which begin no declaration
pub record Listed (ts rest : List Token) : Type 0 where
  pub first : Token
  pub comma : Token
  pub others : List Token
  pub is : ts ≡ first ∷ comma ∷ others
  pub name : first.kind ≡ kind.Name
  pub kind : comma.kind ≡ kind.Comma
  pub run : Undeclared others rest

pub listed_run : (ts rest : List Token) → Listed ts rest → Undeclared ts rest
listed_run ts rest z = subst (λ (l : List Token). Undeclared l rest) (sym z.is) (again z.first z.comma z.others rest z.name z.kind z.run)

listed_by : {s' : List Sym} {ts' ts rest : List Token} → Listed ts rest → (c : ℕ) (h : Header) (e : Expr) (s : List Sym) → Clear continues_head s → HeadReads s' ts' c h (g.expression mode.Header c e ∷ s) ts → size s' ts' ≤ 2 * length rest →
    Pending (λ n. n) simple_line with_simple 0 ts c (h, (e, tt)) s s' ts'
unfolding HeadReads then_ token done
listed_by {s'} {ts'} {ts} {rest} d c h e s clear (inl z) k =
    let short = run_short d.run in
    let r = subst (λ (l : List Token). Reach s' ts' (g.expression mode.Header c e ∷ s) l) d.is z.1 in
    let y = (name_whole mode.Header d.first (d.comma ∷ d.others) d.name (ap (continues Or mode.Header) d.kind)).only c e s s' ts' (head_clear clear) r (omega (arith, k, short)) in
    absurd (clear.stops d.comma d.others s' ts' (ap continues_head d.kind) y.reach (omega (arith, k, short)))
listed_by {ts = ts} {rest = rest} d c h e s clear (inr (inl (x, (t, z)))) k = absurd (not_declared mode.Header (listed_run ts rest d) c x (tok kind.Semicolon t ∷ g.expression mode.Header c e ∷ s) z.1 k)
listed_by d c h e s clear (inr (inr (x, (t, z)))) k = record { at = c; value = (x, (t, (e, tt))); bound = refl; whole = ap (λ (h : Header). (h, (e, tt))) z.0; deep = omega arith; reach = z.1 }

listed_leads : (b : ℕ) (ts rest : List Token) → Listed ts rest → Leads head_line continues_head (λ n. n) b ts simple_line with_simple 0 ts (2 * length rest)
unfolding HeadReads then_ token done
listed_leads b ts rest d =
    let short = run_short (listed_run ts rest d) in
    leads_start b ts simple_line with_simple (2 * length rest) (stmt sample.place tree.fallthrough, (sample.token, (sample.expr, tt))) same_depth (omega arith) (λ c u s. write _ header_simple here)
    (λ c w s s' ts' clear r h. let z = behind_part tt r (omega (arith, h, short)) in listed_by d c w.0 w.1.0 s clear (by_header c w.0 z.as_symbols z.rule (g.expression mode.Header c w.1.0 ∷ s) ts z.reach) h)

pub simple_limit : (b : ℕ) (ts rest : List Token) (e : Stop) → 1 < b → Undeclared ts rest → Exact (one (g.simple mode.Header)) (continues_simple mode.Header) b ts (refused e) → stop_limit e ≤ 2 * length rest
simple_limit b ts rest (stop.Syntax left) some d h = simple_beyond mode.Header b (refused (stop.Syntax left)) d some h
simple_limit b ts rest (stop.Deep left) some d h = simple_beyond mode.Header b (refused (stop.Deep left)) d some h
simple_limit b ts rest stop.Memory some d h = omega arith

pub head_listed_refused : (b : ℕ) (ts rest : List Token) (e : Stop) → 1 < b → Listed ts rest → Exact (one (g.simple mode.Header)) (continues_simple mode.Header) b ts (refused e) → Exact head_line continues_head b ts (refused e)
head_listed_refused b ts rest e some d h =
    leads_part_refused (g.simple mode.Header) (continues_simple mode.Header) closed_line e same_depth (omega arith) (simple_limit b ts rest e some (listed_run ts rest d) h) (listed_leads b ts rest d) h (closed_clear (continues_simple mode.Header) refl)

pub head_listed : (b : ℕ) (ts rest : List Token) (v : Stmt) (n : ℕ) (after : List Token) → 1 < b → Listed ts rest → Found (one (g.simple mode.Header)) (continues_simple mode.Header) b ts v n after → ClosedAt b ts (tree.simple_header v) n after
head_listed b ts rest v n after some d found =
    let far = simple_beyond mode.Header b (Yes v n after) (listed_run ts rest d) some found in
    subst (λ (k : ℕ). ClosedAt b ts (tree.simple_header v) k after) zero_max
    (leads_led (omega arith) (leads_part same_depth (omega arith) (omega arith) (leads_less {less = 2 * length after} far (listed_leads b ts rest d)) found (closed_clear (continues_simple mode.Header) refl)))
  where
    zero_max : max 0 n ≡ n
    zero_max = omega arith
