-- Expressions with commas at the start of a header where too few levels are left: what reads past the last
-- item.
use Rattle.std.proofs.Common.{◌≡◌, ℕ, suc, ◌*◌, ◌≤◌, Bool, true, false, ◌||◌, List, [], ◌∷◌, ◌++◌, length, refl, sym, ◌∙◌, ap, subst, arith, Option, Some, None, ◌⊎◌, inl, inr}
use Rattle.odc_syntax.specs.declared.token.Token.{Token}
use Rattle.odc_syntax.specs.declared.token.TokenKind.{TokenKind}
use Rattle.odc_syntax.specs.declared.token.TokenKind.TheVariants as kind
use Rattle.odc_syntax.specs.declared.grammar.Mode.TheVariants.{Header}
use Rattle.odc_syntax.specs.declared.grammar.Level.TheVariants.{Or}
use Rattle.odc_syntax.specs.declared.tree.AssignOp.{AssignOp}
use Rattle.odc_syntax.specs.Operators.{assignment_of}
use Rattle.odc_syntax.specs.Tree.{Expr, expr, Exprs, Stmt, stmt, first_of}
use Rattle.odc_syntax.specs.Tree as tree
use Rattle.odc_syntax.specs.Grammar.{Sym, tok, Rule, exprs_, exprs_end, exprs_more, simple_eval, simple_assign}
use Rattle.odc_syntax.specs.Grammar as g
use Rattle.odc_syntax.specs.Derives.{Reach, here, read, write}
use Rattle.odc_lookahead.specs.declared.stop.Stop.TheVariants as stop
use Rattle.odc_lookahead.specs.Exact.{size, Clear, one, Found}
use Rattle.odc_lookahead.specs.stmts.RunBounds.{Run, item, again, continues_closed, EndsClosed, LastOver, unread, ended, over}
use Rattle.odc_lookahead.specs.Sets.{continues}
use Rattle.odc_lookahead.specs.stmts.StatementSets.{is_assignment, continues_exprs}
use Rattle.odc_lookahead.proofs.reading.Leading.{at_rest}
use Rattle.odc_lookahead.proofs.reading.Opening.{reach_opens, First, StartsWith}
use Rattle.odc_lookahead.proofs.reading.Reaching.{along, behind_part, behind_token}
use Rattle.odc_lookahead.proofs.expr.WholeLemmas.{Ends, name_whole, name_deep}
use Rattle.odc_lookahead.proofs.expr.ExprsLemmas.{goes_on_exprs, first_clear}
use Rattle.odc_lookahead.proofs.stmts.SimpleLemmas.{or_right, goes_on_simple, assignment_clear}
use Rattle.odc_lookahead.proofs.stmts.RunLemmas.{reads_name}
use Rattle.odc_lookahead.proofs.headers.HeadLemmas.{semicolon_clear}
use Rattle.odc_lookahead.proofs.reading.Samples as sample

-- what goes on with a simple statement and its `;`
pub expression_closed : (k : TokenKind) → continues Or Header k ≡ true → continues_closed k ≡ true
expression_closed kind.Semicolon e = refl
expression_closed k e = goes_on_simple Header k (goes_on_exprs Header k e)

pub assignment_closed : (k : TokenKind) (op : AssignOp) → assignment_of k ≡ Some op → continues_closed k ≡ true
assignment_closed kind.Semicolon op e = refl
assignment_closed k op e = or_right (continues_exprs Header k) _ (ap is_assignment e)

pub not_both : (a : Bool) → a ≡ true → a ≡ false → ⊥
not_both true e f = cc
not_both false e f = cc

pub is_false : (a : Bool) → (a ≡ true → ⊥) → a ≡ false
is_false true f = absurd (f refl)
is_false false f = refl

pub ends_expression : (us : List Token) → EndsClosed us → Ends Header us
ends_expression [] e = tt
ends_expression (t ∷ us) e = is_false (continues Or Header t.kind) (λ on. not_both (continues_closed t.kind) (expression_closed t.kind on) e)

pub closed_ends : (us : List Token) → EndsClosed us → First continues_closed us → ⊥
closed_ends [] e f = f
closed_ends (t ∷ us) e f = not_both (continues_closed t.kind) f e

pub kind_closed : (k : TokenKind) (us : List Token) → continues_closed k ≡ true → StartsWith k us → First continues_closed us
kind_closed k [] e f = f
kind_closed k (t ∷ us) e f = ap continues_closed f ∙ e

-- what follows reads first what goes on with a simple statement or closes it
abbrev pub Closes : List Sym → List Token → List Sym → Type 0
Closes s' ts' s = (us : List Token) → Reach s' ts' s us → size s' ts' ≤ 2 * length us → First continues_closed us

pub token_closes : (s' : List Sym) (ts' : List Token) (k : TokenKind) → continues_closed k ≡ true → (t : Token) (s : List Sym) → Closes s' ts' (tok k t ∷ s)
token_closes s' ts' k e t s us r h = kind_closed k us e (reach_opens r h)

-- lengths
pub run_length : {us last : List Token} → Run us last → length last ≤ length us
run_length (item ts) = omega arith
run_length (again t c us last e f run) = let h = run_length run in omega (arith, h)

pub syntax_short : {last : List Token} {left : ℕ} → LastOver last (stop.Syntax left) → left ≤ length last
syntax_short (unread _ f broken) = broken.short
syntax_short (ended t us is e ends) = let longer = ap length is in omega (arith, longer)

pub deep_short : {last : List Token} {left : ℕ} → LastOver last (stop.Deep left) → suc left ≤ length last
deep_short (unread _ f deep) = deep.short
deep_short (over t x us is e on) = let longer = ap length is in omega (arith, longer)

-- a comma, and a further expression
pub comma_on : {s' : List Sym} {ts' : List Token} (k : Token) (us : List Token) → k.kind ≡ kind.Comma → (c : ℕ) (es : Exprs) (p : List Sym) → Rule (g.more_exprs Header c es) p → (s : List Sym) → Clear (continues_exprs Header) s → Reach s' ts' (p ++ s) (k ∷ us) → size s' ts' ≤ 2 * length us →
    (e : Expr) × ((l : Exprs) × Reach s' ts' (g.expression Header c e ∷ g.more_exprs Header c l ∷ s) us)
comma_on {s'} {ts'} k us f c es p exprs_end s clear r h = absurd (clear.stops k us s' ts' (ap (continues_exprs Header) f) r (omega (arith, h)))
comma_on k us f c es p (exprs_more {e = y} {es = l}) s clear r h = let z = behind_token r (omega (arith, h)) in (y, (l, at_rest z))

-- nothing reads past the last item
last_by : {s' : List Sym} {ts' : List Token} (us : List Token) → EndsClosed us → (c : ℕ) (es : Exprs) (p : List Sym) → Rule (g.more_exprs Header c es) p → (s : List Sym) → Closes s' ts' s → Reach s' ts' (p ++ s) us → size s' ts' ≤ 2 * length us → ⊥
last_by us ends c es p exprs_end s closes r h = closed_ends us ends (closes us r h)
last_by us ends c es p exprs_more s closes r h = closed_ends us ends (kind_closed kind.Comma us refl (reach_opens r h))

last_none : {s' : List Sym} {ts' last : List Token} {left : ℕ} → LastOver last (stop.Syntax left) → (c : ℕ) (e : Expr) (es : Exprs) (s : List Sym) → Clear (continues_exprs Header) s → Closes s' ts' s → Reach s' ts' (g.expression Header c e ∷ g.more_exprs Header c es ∷ s) last →
    size s' ts' ≤ 2 * left → ⊥
last_none {s'} {ts'} (unread _ f broken) c e es s clear closes r h = broken.none c e (g.more_exprs Header c es ∷ s) s' ts' (first_clear Header c es s clear) r h
last_none {s'} {ts'} (ended t us is f ends) c e es s clear closes r h =
    let q = subst (λ (l : List Token). Reach s' ts' (g.expression Header c e ∷ g.more_exprs Header c es ∷ s) l) is r in
    let z = (name_whole Header t us f (ends_expression us ends)).only c e (g.more_exprs Header c es ∷ s) s' ts' (first_clear Header c es s clear) q h in
    let y = behind_part tt z.reach h in
    last_by us ends c es y.as_symbols y.rule s closes y.reach h

pub run_none : {s' : List Sym} {ts' us last : List Token} {left : ℕ} → Run us last → LastOver last (stop.Syntax left) → (c : ℕ) (e : Expr) (es : Exprs) (s : List Sym) → Clear (continues_exprs Header) s → Closes s' ts' s →
    Reach s' ts' (g.expression Header c e ∷ g.more_exprs Header c es ∷ s) us → size s' ts' ≤ 2 * left → ⊥
run_none (item ts) o c e es s clear closes r h = last_none o c e es s clear closes r h
run_none {s'} {ts'} (again t k us last f i run) o c e es s clear closes r h =
    let short = run_length run in
    let far = syntax_short o in
    let z = (name_whole Header t (k ∷ us) f (ap (continues Or Header) i)).only c e (g.more_exprs Header c es ∷ s) s' ts' (first_clear Header c es s clear) r (omega (arith, h, short, far)) in
    let y = behind_part tt z.reach (omega (arith, h, short, far)) in
    let w = comma_on k us i c es y.as_symbols y.rule s clear y.reach (omega (arith, h, short, far)) in
    run_none run o c w.0 w.1.0 s clear closes w.1.1 h

-- an expression and a comma before a run
pub record Fronted (n : ℕ) (ts us : List Token) : Type 0 where
  pub value : Expr
  pub comma : Token
  pub kind : comma.kind ≡ kind.Comma
  pub found : Found (one (g.expression Header)) (continues Or Header) n ts value n (comma ∷ us)

pub exprs_none : {s' : List Sym} {ts' ts us last : List Token} {n left : ℕ} → Fronted n ts us → Run us last → LastOver last (stop.Syntax left) → (c : ℕ) (es : Exprs) (p : List Sym) → Rule (g.exprs Header c es) p → (s : List Sym) → Clear (continues_exprs Header) s → Closes s' ts' s →
    Reach s' ts' (p ++ s) ts → size s' ts' ≤ 2 * left → ⊥
exprs_none {s'} {ts'} {us = us} front run o c es p (exprs_ {e = e} {es = l}) s clear closes r h =
    let short = run_length run in
    let far = syntax_short o in
    let z = front.found.only c e (g.more_exprs Header c l ∷ s) s' ts' (first_clear Header c l s clear) r (omega (arith, h, short, far)) in
    let y = behind_part tt z.reach (omega (arith, h, short, far)) in
    let w = comma_on front.comma us front.kind c l y.as_symbols y.rule s clear y.reach (omega (arith, h, short, far)) in
    run_none run o c w.0 w.1.0 s clear closes w.1.1 h

simple_by : {s' : List Sym} {ts' ts us last : List Token} {n left : ℕ} → Fronted n ts us → Run us last → LastOver last (stop.Syntax left) → left ≤ length ts → (c : ℕ) (x : Stmt) (p : List Sym) → Rule (g.simple Header c x) p → (t : Token) (s : List Sym) →
    Reach s' ts' (p ++ (tok kind.Semicolon t ∷ s)) ts → size s' ts' ≤ 2 * left → ⊥
simple_by {s'} {ts'} front run o within c x p (simple_eval {b = d} {e = e} {es = es}) t s r h =
    let z = behind_part tt r (omega (arith, h, within)) in
    exprs_none front run o d (tree.more_exprs e es) z.as_symbols z.rule (tok kind.Semicolon t ∷ s) (semicolon_clear (continues_exprs Header) refl t s) (token_closes s' ts' kind.Semicolon refl t s) z.reach h
simple_by {s'} {ts'} front run o within c x p (simple_assign {b = d} {places = places} {values = values} {k = k} {t = u} {op = op} f) t s r h =
    let z = behind_part tt r (omega (arith, h, within)) in
    let after = g.exprs Header d values ∷ tok kind.Semicolon t ∷ s in
    exprs_none front run o d places z.as_symbols z.rule (tok k u ∷ after) (assignment_clear Header k op f u after) (token_closes s' ts' k (assignment_closed k op f) u after) z.reach h

pub simple_none : {s' : List Sym} {ts' ts us last : List Token} {n left : ℕ} → Fronted n ts us → Run us last → LastOver last (stop.Syntax left) → (c : ℕ) (x : Stmt) (t : Token) (s : List Sym) → Reach s' ts' (g.simple Header c x ∷ tok kind.Semicolon t ∷ s) ts → size s' ts' ≤ 2 * left → ⊥
simple_none front run o c x t s r h =
    let short = run_length run in
    let far = syntax_short o in
    let before = front.found.short in
    let z = behind_part tt r (omega (arith, h, short, far, before)) in
    simple_by front run o (omega (arith, short, far, before)) c x z.as_symbols z.rule t s z.reach h

-- something comes to where so many tokens are left
pub record Goes (left : ℕ) (p : List Sym) (us : List Token) : Type 0 where
  pub pending : List Sym
  pub rest : List Token
  pub rest_is : length rest ≡ left
  pub reach : Reach pending rest p us

pub before : {left : ℕ} {p q : List Sym} {ts us : List Token} → Reach q us p ts → Goes left q us → Goes left p ts
before r z = record { pending = z.pending; rest = z.rest; rest_is = z.rest_is; reach = along r z.reach }

-- expressions that stand alone before `;` or are assigned come there
pub data Onward (c : ℕ) (us : List Token) (left : ℕ) : Type 0 where
  evals : (t : Token) (e : Expr) (es : Exprs) → ((s : List Sym) → Goes left (g.expression Header c e ∷ g.more_exprs Header c es ∷ tok kind.Semicolon t ∷ s) us) → Onward c us left
  assigns : (k : TokenKind) (op : AssignOp) (t : Token) (e : Expr) (es : Exprs) → assignment_of k ≡ Some op → ((s : List Sym) → Goes left (g.expression Header c e ∷ g.more_exprs Header c es ∷ tok k t ∷ s) us) → Onward c us left

-- an expression and a comma stand before them
pub onward_behind : {c : ℕ} {ts us : List Token} {left : ℕ} (v : Expr) (k : Token) → k.kind ≡ kind.Comma → ((s : List Sym) → Reach s (k ∷ us) (g.expression Header c v ∷ s) ts) → Onward c us left → Onward c ts left
onward_behind {c} v k f reads (evals t e es goes) =
    evals t v (tree.more_exprs e es) (λ s. before (along (reads (g.more_exprs Header c (tree.more_exprs e es) ∷ tok kind.Semicolon t ∷ s)) (write _ (exprs_more {t = k}) (read f here))) (goes s))
onward_behind {c} v k f reads (assigns a op t e es i goes) =
    assigns a op t v (tree.more_exprs e es) i (λ s. before (along (reads (g.more_exprs Header c (tree.more_exprs e es) ∷ tok a t ∷ s)) (write _ (exprs_more {t = k}) (read f here))) (goes s))

-- the ways to go on behind a name
closed_by : (k : TokenKind) (a : Bool) (o : Option AssignOp) → continues Or Header k ≡ a → assignment_of k ≡ o → (a || is_assignment o) ≡ true → (continues Or Header k ≡ true) ⊎ ((op : AssignOp) × (assignment_of k ≡ Some op))
closed_by k true o e f h = inl e
closed_by k false (Some op) e f h = inr (op, f)
closed_by k false None e f h = cc

pub closed_cases : (k : TokenKind) → continues_closed k ≡ true → (k ≡ kind.Semicolon) ⊎ ((k ≡ kind.Comma) ⊎ ((continues Or Header k ≡ true) ⊎ ((op : AssignOp) × (assignment_of k ≡ Some op))))
closed_cases kind.Semicolon h = inl refl
closed_cases kind.Comma h = inr (inl refl)
closed_cases k h = inr (inr (closed_by k (continues Or Header k) (assignment_of k) refl refl h))

-- what goes on behind an expression
pub onward_at : {c : ℕ} {ts : List Token} (v : Expr) (x : Token) (us : List Token) → ((s : List Sym) → Reach s (x ∷ us) (g.expression Header c v ∷ s) ts) → (x.kind ≡ kind.Semicolon) ⊎ ((x.kind ≡ kind.Comma) ⊎ ((op : AssignOp) × (assignment_of x.kind ≡ Some op))) → Onward c ts (length us)
onward_at {c} v x us reads (inl e) = evals x v tree.no_exprs (λ s. record { pending = s; rest = us; rest_is = refl; reach = along (reads (g.more_exprs Header c tree.no_exprs ∷ tok kind.Semicolon x ∷ s)) (write _ exprs_end (read e here)) })
onward_at {c} v x us reads (inr (inl e)) = evals sample.token v (tree.more_exprs sample.expr tree.no_exprs) (λ s. record {
  pending = g.expression Header c sample.expr ∷ g.more_exprs Header c tree.no_exprs ∷ tok kind.Semicolon sample.token ∷ s;
  rest = us;
  rest_is = refl;
  reach = along (reads (g.more_exprs Header c (tree.more_exprs sample.expr tree.no_exprs) ∷ tok kind.Semicolon sample.token ∷ s)) (write _ (exprs_more {t = x}) (read e here));
})
onward_at {c} v x us reads (inr (inr (op, e))) = assigns x.kind op x v tree.no_exprs e (λ s. record { pending = s; rest = us; rest_is = refl; reach = along (reads (g.more_exprs Header c tree.no_exprs ∷ tok x.kind x ∷ s)) (write _ exprs_end (read refl here)) })

over_by : (t x : Token) (us : List Token) → t.kind ≡ kind.Name → (x.kind ≡ kind.Semicolon) ⊎ ((x.kind ≡ kind.Comma) ⊎ ((continues Or Header x.kind ≡ true) ⊎ ((op : AssignOp) × (assignment_of x.kind ≡ Some op)))) → (d : ℕ) × ((c : ℕ) → d ≤ suc c → Onward (suc c) (t ∷ x ∷ us) (length us))
over_by t x us f (inl e) = (0, λ c h. onward_at (expr t.at t.at (tree.name t)) x us (λ s. reads_name Header t (x ∷ us) f c s) (inl e))
over_by t x us f (inr (inl e)) = (0, λ c h. onward_at (expr t.at t.at (tree.name t)) x us (λ s. reads_name Header t (x ∷ us) f c s) (inr (inl e)))
over_by t x us f (inr (inr (inr e))) = (0, λ c h. onward_at (expr t.at t.at (tree.name t)) x us (λ s. reads_name Header t (x ∷ us) f c s) (inr (inr e)))
over_by t x us f (inr (inr (inl on))) =
    let deep = name_deep Header t x us f on in (
      deep.depth,
      λ c h.
          let a = deep.deeper.at (suc c) h in
          evals sample.token a.value tree.no_exprs (λ s. let z = a.before (g.more_exprs Header (suc c) tree.no_exprs ∷ tok kind.Semicolon sample.token ∷ s) in record { pending = z.pending; rest = z.rest; rest_is = z.rest_is; reach = z.reach }),
    )

last_onward : {last : List Token} {left : ℕ} → LastOver last (stop.Deep left) → (d : ℕ) × ((c : ℕ) → d ≤ suc c → Onward (suc c) last left)
last_onward (unread _ f deep) = (
  deep.depth,
  λ c h.
      let a = deep.deeper.at (suc c) h in
      evals sample.token a.value tree.no_exprs (λ s. let z = a.before (g.more_exprs Header (suc c) tree.no_exprs ∷ tok kind.Semicolon sample.token ∷ s) in record { pending = z.pending; rest = z.rest; rest_is = z.rest_is; reach = z.reach }),
)
last_onward (over t x us is f on) =
    let z = over_by t x us f (closed_cases x.kind on) in
    (z.0, λ c h. subst (λ (l : List Token). Onward (suc c) l (length us)) (sym is) (z.1 c h))

pub run_onward : {us last : List Token} {left : ℕ} → Run us last → LastOver last (stop.Deep left) → (d : ℕ) × ((c : ℕ) → d ≤ suc c → Onward (suc c) us left)
run_onward (item ts) o = last_onward o
run_onward (again t k us last f i run) o = let z = run_onward run o in (z.0, λ c h. onward_behind (expr t.at t.at (tree.name t)) k i (λ s. reads_name Header t (k ∷ us) f c s) (z.1 c h))

-- as a simple statement with its `;`
pub record Statement (c : ℕ) (ts : List Token) (left : ℕ) : Type 0 where
  pub value : Stmt
  pub close : Token
  pub goes : (s : List Sym) → Goes left (g.simple Header c value ∷ tok kind.Semicolon close ∷ s) ts

pub onward_simple : {c : ℕ} {ts : List Token} {left : ℕ} → Onward c ts left → Statement (suc c) ts left
onward_simple (evals t e es goes) = record { value = stmt (first_of e) (tree.eval (tree.more_exprs e es)); close = t; goes = λ s. before (write _ simple_eval (write _ exprs_ here)) (goes s) }
onward_simple {c} (assigns k op t e es i goes) = record {
  value = stmt t.at (tree.assign (tree.more_exprs e es) op tree.no_exprs);
  close = sample.token;
  goes = λ s. before (write _ (simple_assign i) (write _ exprs_ here)) (goes (g.exprs Header c tree.no_exprs ∷ tok kind.Semicolon sample.token ∷ s));
}
