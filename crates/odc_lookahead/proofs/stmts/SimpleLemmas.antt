-- Assignments, and expressions that stand alone.
use Rattle.std.proofs.Common.{◌≡◌, ℕ, suc, ◌-◌, ◌*◌, ◌<◌, ◌≤◌, max, Bool, true, false, ◌||◌, List, [], ◌∷◌, ◌++◌, length, refl, sym, ◌∙◌, ap, subst, arith, Some, None}
use Rattle.std.proofs.Math.Nat.{lt_of_not-le}
use Rattle.odc_syntax.specs.declared.token.Token.{Token}
use Rattle.odc_syntax.specs.declared.token.TokenKind.{TokenKind}
use Rattle.odc_syntax.specs.declared.token.TokenKind.TheVariants as kind
use Rattle.odc_syntax.specs.declared.grammar.Mode.{Mode}
use Rattle.odc_syntax.specs.declared.grammar.Level.TheVariants.{Or}
use Rattle.odc_syntax.specs.declared.tree.AssignOp.{AssignOp}
use Rattle.odc_syntax.specs.Operators.{assignment_of}
use Rattle.odc_syntax.specs.Tree.{Expr, Exprs, Stmt, stmt, first_of}
use Rattle.odc_syntax.specs.Tree as tree
use Rattle.odc_syntax.specs.Grammar.{Sym, tok, Rule, later, exprs_, simple_eval, simple_assign}
use Rattle.odc_syntax.specs.Grammar as g
use Rattle.odc_syntax.specs.Derives.{Reach, here, read, write}
use Rattle.odc_lookahead.specs.declared.stop.Stop.{Stop}
use Rattle.odc_lookahead.specs.declared.stop.Stop.TheVariants as stop
use Rattle.odc_lookahead.specs.Exact.{size, Clear, Part, one, ComesWith, ComesAt, Comes, then_, done, token, Exact, Found, Broken, TooDeep}
use Rattle.odc_lookahead.specs.Read.{refused}
use Rattle.odc_lookahead.specs.Sets.{continues}
use Rattle.odc_lookahead.specs.stmts.StatementSets.{is_assignment, continues_exprs, continues_simple, NoAssignment}
use Rattle.odc_lookahead.proofs.reading.Opening.{reach_opens}
use Rattle.odc_lookahead.proofs.reading.Reaching.{behind_part, behind_token}
use Rattle.odc_lookahead.proofs.reading.Leading.{one_deeper, Pending, Led, led_part, led_done}
use Rattle.odc_lookahead.proofs.reading.Answering.{part_refused, answer_is, at_start}
use Rattle.odc_lookahead.proofs.expr.BinaryLemmas.{clear_narrow}
use Rattle.odc_lookahead.proofs.expr.WholeLemmas.{costs_expression}
use Rattle.odc_lookahead.proofs.expr.ExprsLemmas.{later_goes_on, first_clear}
use Rattle.odc_lookahead.proofs.reading.Deciding.{Leads, leads_start, leads_found, leads_token, leads_over, leads_led}
use Rattle.odc_lookahead.proofs.reading.Samples as sample

pub or_left : (a b : Bool) → a ≡ true → (a || b) ≡ true
or_left true b e = refl
or_left false b e = cc

pub or_right : (a b : Bool) → b ≡ true → (a || b) ≡ true
or_right true b e = refl
or_right false b e = e

pub goes_on_simple : (m : Mode) (k : TokenKind) → continues_exprs m k ≡ true → continues_simple m k ≡ true
goes_on_simple m k e = or_left (continues_exprs m k) _ e

pub later_goes_on_exprs : (m : Mode) (k : TokenKind) → continues_exprs (later m) k ≡ true → continues_exprs m k ≡ true
later_goes_on_exprs m kind.Comma e = refl
later_goes_on_exprs m kind.OpenBrace e = later_goes_on m kind.OpenBrace e
later_goes_on_exprs m _ e = e

-- an assignment's operator goes on with no expressions
pub assignment_ends : (m : Mode) (k : TokenKind) (op : AssignOp) → assignment_of k ≡ Some op → continues_exprs m k ≡ false
assignment_ends m kind.Assign op e = refl
assignment_ends m kind.PlusAssign op e = refl
assignment_ends m kind.MinusAssign op e = refl
assignment_ends m kind.StarAssign op e = refl
assignment_ends m kind.SlashAssign op e = refl
assignment_ends m kind.PercentAssign op e = refl
assignment_ends m kind.PercentPercentAssign op e = refl
assignment_ends m kind.AndAssign op e = refl
assignment_ends m kind.OrAssign op e = refl
assignment_ends m kind.XorAssign op e = refl
assignment_ends m kind.AndNotAssign op e = refl
assignment_ends m kind.ShiftLeftAssign op e = refl
assignment_ends m kind.ShiftRightAssign op e = refl
assignment_ends m _ op e = cc

pub assignment_clear : (m : Mode) (k : TokenKind) (op : AssignOp) → assignment_of k ≡ Some op → (t : Token) (s : List Sym) → Clear (continues_exprs m) (tok k t ∷ s)
assignment_clear m k op e t s = record {
  stops = λ u us s' ts' on r h.
      let is : u.kind ≡ k = reach_opens r (omega (arith, h)) in
      let bad : true ≡ false = sym on ∙ ap (continues_exprs m) is ∙ assignment_ends m k op e in
      cc;
}

-- expressions of which there is a first
abbrev pub some : Mode → ℕ → Expr × Exprs → Sym
some m c u = g.exprs m c (tree.more_exprs u.0 u.1)

no_exprs_here : {m : Mode} {c : ℕ} {s s' : List Sym} {ts ts' : List Token} → Reach s' ts' (g.exprs m c tree.no_exprs ∷ s) ts → length ts ≡ length ts'
no_exprs_here here = refl
no_exprs_here (write p w r) = elim w [ ]

some_at : (m : Mode) (c : ℕ) (ts : List Token) (left : ℕ) (v : Exprs) → ((s : List Sym) → ComesWith (one (g.exprs m)) c ts left v s) → ComesAt (one (some m)) c ts left
some_at m c ts left (tree.more_exprs e es) before = record { value = (e, es); before = λ s. let z = before s in record { pending = z.pending; rest = z.rest; rest_is = z.rest_is; reach = z.reach } }
some_at m c ts left tree.no_exprs before = record {
  value = (sample.expr, tree.no_exprs);
  before = λ s. let z = before s in record { pending = some m c (sample.expr, tree.no_exprs) ∷ s; rest = ts; rest_is = no_exprs_here z.reach ∙ z.rest_is; reach = here };
}

some_comes : (m : Mode) (b : ℕ) (ts : List Token) (left : ℕ) → Comes (one (g.exprs m)) b ts left → Comes (one (some m)) b ts left
some_comes m b ts left comes = record { at = λ c h. let a = comes.at c h in some_at m c ts left a.value a.before }

pub some_found : (m : Mode) (b : ℕ) (ts : List Token) (e : Expr) (es : Exprs) (n : ℕ) (rest : List Token) → Found (one (g.exprs m)) (continues_exprs m) b ts (tree.more_exprs e es) n rest → Found (one (some m)) (continues_exprs m) b ts (e, es) n rest
some_found m b ts e es n rest found = record {
  short = found.short;
  comes = some_comes m b ts (length rest) found.comes;
  reads = λ c h s. found.reads c h s;
  only = λ c w s s' ts' clear r h.
      let z = found.only c (tree.more_exprs w.0 w.1) s s' ts' clear r h in
      let same : tree.more_exprs w.0 w.1 ≡ tree.more_exprs e es = z.value in
      let first : w.0 ≡ e = cc in
      let others : w.1 ≡ es = cc in
      record { value = λ i. (first i, others i); bound = z.bound; reach = z.reach };
}

pub some_refused : (m : Mode) (b : ℕ) (ts : List Token) (e : Stop) → Exact (one (g.exprs m)) (continues_exprs m) b ts (refused e) → Exact (one (some m)) (continues_exprs m) b ts (refused e)
some_refused m b ts (stop.Syntax left) h = record { short = h.short; comes = some_comes m b ts left h.comes; none = λ c w s s' ts' clear r k. h.none c (tree.more_exprs w.0 w.1) s s' ts' clear r k }
some_refused m b ts (stop.Deep left) h = record {
  short = h.short;
  comes = some_comes m b ts (suc left) h.comes;
  deep = λ c w s s' ts' clear r k. h.deep c (tree.more_exprs w.0 w.1) s s' ts' clear r k;
  depth = h.depth;
  deeper = some_comes m h.depth ts left h.deeper;
}
some_refused m b ts stop.Memory h = tt

-- expressions that are read
pub record ExprsRead (m : Mode) (b : ℕ) (ts : List Token) (e : Expr) (es : Exprs) (n : ℕ) (rest : List Token) : Type 0 where
  pub found : Found (one (g.exprs m)) (continues_exprs m) b ts (tree.more_exprs e es) n rest

abbrev eval_node : Expr × Exprs → Stmt
eval_node u = stmt (first_of u.0) (tree.eval (tree.more_exprs u.0 u.1))

no_operator : (t : Token) (us ts : List Token) (k : TokenKind) (op : AssignOp) → ts ≡ t ∷ us → t.kind ≡ k → assignment_of k ≡ Some op → NoAssignment ts → ⊥
no_operator t us ts k op is e f none =
    let at : NoAssignment (t ∷ us) = subst (λ (l : List Token). NoAssignment l) is none in
    let bad : None ≡ Some op = sym at ∙ ap assignment_of e ∙ f in
    cc

-- they stand alone
eval_by : {s' : List Sym} {ts' : List Token} (m : Mode) (b : ℕ) (ts : List Token) (e : Expr) (es : Exprs) (n : ℕ) (rest : List Token) → ExprsRead m b ts e es n rest → NoAssignment rest → (c : ℕ) (w : Stmt) (p : List Sym) → Rule (g.simple m c w) p →
    (s : List Sym) → Reach s' ts' (p ++ s) ts → size s' ts' ≤ 2 * length rest → Pending (λ n. suc n) (one (some m)) eval_node 0 ts c w s s' ts'
eval_by m b ts e es n rest z none c w p (simple_eval {b = d} {e = x} {es = xs}) s r h = record { at = d; value = (x, xs); bound = refl; whole = refl; deep = omega arith; reach = r }
eval_by {s'} {ts'} m b ts e es n rest z none c w p (simple_assign {b = d} {places = places} {values = values} {k = k} {t = t} {op = op} f) s r h =
    let y = z.found.only d places (tok k t ∷ g.exprs (later m) d values ∷ s) s' ts' (assignment_clear m k op f t (g.exprs (later m) d values ∷ s)) r h in
    let x = behind_token y.reach h in
    absurd (no_operator t x.us rest k op x.is x.kind f none)

pub eval_found : (m : Mode) (b : ℕ) (ts : List Token) (e : Expr) (es : Exprs) (n : ℕ) (rest : List Token) → ExprsRead m b ts e es n rest → NoAssignment rest →
    Found (one (g.simple m)) (continues_simple m) (suc b) ts (stmt (first_of e) (tree.eval (tree.more_exprs e es))) (suc n) rest
eval_found m b ts e es n rest z none =
    let found = some_found m b ts e es n rest z.found in
    let k = found.short in
    answer_is refl (omega arith)
    (leads_found one_deeper (omega arith) (omega arith)
    (leads_start {p = one (g.simple m)} {cont = continues_simple m} b ts (one (some m)) eval_node (2 * length rest) (sample.expr, tree.no_exprs) one_deeper (omega arith) (λ c u s. write _ simple_eval here)
    (λ c w s s' ts' clear r h. let y = behind_part tt r (omega (arith, h, k)) in eval_by m b ts e es n rest z none c w y.as_symbols y.rule s y.reach h))
    (wider found))
  where
    wider : Found (one (some m)) (continues_exprs m) b ts (e, es) n rest → Found (one (some m)) (continues_simple m) b ts (e, es) n rest
    wider found = record { short = found.short; comes = found.comes; reads = found.reads; only = λ c w s s' ts' clear r k. found.only c w s s' ts' (clear_narrow (goes_on_simple m) clear) r k }

-- an operator of an assignment follows
pub record Assigns (ts : List Token) (t : Token) (op : AssignOp) (us : List Token) : Type 0 where
  pub is : ts ≡ t ∷ us
  pub op_is : assignment_of t.kind ≡ Some op

abbrev values_line : Mode → Part (Exprs × Unit {0})
values_line m = then_ (g.exprs (later m)) done

abbrev sign_line : Mode → TokenKind → Part (Token × (Exprs × Unit {0}))
sign_line m k = then_ (token k) (values_line m)

abbrev assign_node : AssignOp → Expr → Exprs → Token × (Exprs × Unit {0}) → Stmt
assign_node op e es u = stmt u.0.at (tree.assign (tree.more_exprs e es) op u.1.0)

assign_by : {s' : List Sym} {ts' : List Token} (m : Mode) (b : ℕ) (ts : List Token) (e : Expr) (es : Exprs) (n : ℕ) (rest : List Token) (t : Token) (op : AssignOp) (us : List Token) → ExprsRead m b ts e es n rest → Assigns rest t op us →
    (c : ℕ) (w : Stmt) (p : List Sym) → Rule (g.simple m c w) p → (s : List Sym) → Clear (continues_simple m) s → Reach s' ts' (p ++ s) ts → size s' ts' ≤ suc (2 * length us) → Pending (λ n. suc n) (sign_line m t.kind) (assign_node op e es) n rest c w s s' ts'
unfolding then_ token done
assign_by {s'} {ts'} m b ts e es n rest t op us z a c w p (simple_eval {b = d} {e = x} {es = xs}) s clear r h =
    let longer : length rest ≡ suc (length us) = ap length a.is in
    let y = z.found.only d (tree.more_exprs x xs) s s' ts' (clear_narrow (goes_on_simple m) clear) r (omega (arith, h, longer)) in
    absurd (clear.stops t us s' ts' (or_right (continues_exprs m t.kind) _ (ap is_assignment a.op_is)) (subst (λ (l : List Token). Reach s' ts' s l) a.is y.reach) h)
assign_by {s'} {ts'} m b ts e es n rest t op us z a c w p (simple_assign {b = d} {places = places} {values = values} {k = k} {t = u} {op = o} f) s clear r h =
    let longer : length rest ≡ suc (length us) = ap length a.is in
    let y = z.found.only d places (tok k u ∷ g.exprs (later m) d values ∷ s) s' ts' (assignment_clear m k o f u (g.exprs (later m) d values ∷ s)) r (omega (arith, h, longer)) in
    let first : Reach s' ts' (tok k u ∷ g.exprs (later m) d values ∷ s) (t ∷ us) = subst (λ (l : List Token). Reach s' ts' (tok k u ∷ g.exprs (later m) d values ∷ s) l) a.is y.reach in
    let kind : t.kind ≡ k = reach_opens first (omega (arith, h)) in
    let on : assignment_of t.kind ≡ Some o = ap assignment_of kind ∙ f in
    let same : o ≡ op = let both : Some o ≡ Some op = sym on ∙ a.op_is in cc in
    record {
      at = d;
      value = (u, (values, tt));
      bound = refl;
      whole = λ i. stmt u.at (tree.assign (y.value i) (same i) values);
      deep = y.bound;
      reach = subst (λ (k : TokenKind). Reach s' ts' (tok k u ∷ g.exprs (later m) d values ∷ s) rest) (sym kind) y.reach;
    }

assign_leads : (m : Mode) (b : ℕ) (ts : List Token) (e : Expr) (es : Exprs) (n : ℕ) (rest : List Token) (t : Token) (op : AssignOp) (us : List Token) → ExprsRead m b ts e es n rest → Assigns rest t op us →
    Leads (one (g.simple m)) (continues_simple m) (λ n. suc n) b ts (sign_line m t.kind) (assign_node op e es) n rest (suc (2 * length us))
unfolding then_ token done
assign_leads m b ts e es n rest t op us z a =
    let longer : length rest ≡ suc (length us) = ap length a.is in
    let found = z.found in
    let k = found.short in
    record {
      short = found.short;
      sample = (t, (tree.no_exprs, tt));
      comes = record {
        at = λ c h.
            let x = found.comes.at (c - 1) (omega (arith, h)) in
            let e : suc (c - 1) ≡ c = omega (arith, h) in
            subst (λ (d : ℕ). ComesAt (one (g.simple m)) d ts (length rest)) e (record {
              value = stmt t.at (tree.assign x.value op tree.no_exprs);
              before = λ s.
                  let y = x.before (tok t.kind t ∷ g.exprs (later m) (c - 1) tree.no_exprs ∷ s) in
                  record { pending = y.pending; rest = y.rest; rest_is = y.rest_is; reach = write _ (simple_assign a.op_is) y.reach };
            });
      };
      reads = λ c u h s. write _ (simple_assign a.op_is) (found.reads c h (tok t.kind u.0 ∷ g.exprs (later m) c u.1.0 ∷ s));
      only = λ c w s s' ts' clear r h. let y = behind_part tt r (omega (arith, h, k, longer)) in assign_by m b ts e es n rest t op us z a c w y.as_symbols y.rule s clear y.reach h;
    }

pub assign_deep : (m : Mode) (b : ℕ) (ts : List Token) (e : Expr) (es : Exprs) (n : ℕ) (rest : List Token) (t : Token) (op : AssignOp) (us : List Token) → ExprsRead m b ts e es n rest → Assigns rest t op us → b < n →
    TooDeep (one (g.simple m)) (continues_simple m) (suc b) ts (length us)
unfolding then_ token done
assign_deep m b ts e es n rest t op us z a over =
    leads_over one_deeper a.is over (omega arith)
    (λ c. (
      (t, (tree.no_exprs, tt)),
      λ s. (
        g.exprs (later m) c tree.no_exprs ∷ s,
        subst (λ (l : List Token). Reach (g.exprs (later m) c tree.no_exprs ∷ s) us (tok t.kind t ∷ g.exprs (later m) c tree.no_exprs ∷ s) l) (sym a.is) (read refl here),
      ),
    ))
    (assign_leads m b ts e es n rest t op us z a)

assign_read : (m : Mode) (b : ℕ) (ts : List Token) (e : Expr) (es : Exprs) (n : ℕ) (rest : List Token) (t : Token) (op : AssignOp) (us : List Token) → ExprsRead m b ts e es n rest → Assigns rest t op us → n ≤ b →
    Led (one (g.simple m)) (continues_simple m) (λ n. suc n) b ts (values_line m) (λ u. assign_node op e es (t, u)) n us
assign_read m b ts e es n rest t op us z a within =
    let longer : length rest ≡ suc (length us) = ap length a.is in
    leads_led (omega arith) (leads_token one_deeper within (omega (arith, longer)) (assign_leads m b ts e es n rest t op us z a) a.is refl)

values_clear : (m : Mode) (c : ℕ) (u : Unit {0}) (s : List Sym) → Clear (continues_simple m) s → Clear (continues_exprs (later m)) (done c u ++ s)
unfolding done
values_clear m c u s clear = clear_narrow (λ k e. goes_on_simple m k (later_goes_on_exprs m k e)) clear

pub assign_refused : (m i : Mode) (b : ℕ) (ts : List Token) (e : Expr) (es : Exprs) (n : ℕ) (rest : List Token) (t : Token) (op : AssignOp) (us : List Token) (stop : Stop) → i ≡ later m → ExprsRead m b ts e es n rest → Assigns rest t op us → n ≤ b →
    Exact (one (g.exprs i)) (continues_exprs i) b us (refused stop) → Exact (one (g.simple m)) (continues_simple m) (suc b) ts (refused stop)
assign_refused m i b ts e es n rest t op us stop f z a within h =
    part_refused (g.exprs (later m)) (continues_exprs (later m)) done stop one_deeper (assign_read m b ts e es n rest t op us z a within) within
    (subst (λ (j : Mode). Exact (one (g.exprs j)) (continues_exprs j) b us (refused stop)) f h) (values_clear m)

pub assign_found : (m i : Mode) (b : ℕ) (ts : List Token) (e : Expr) (es : Exprs) (n : ℕ) (rest : List Token) (t : Token) (op : AssignOp) (us : List Token) (vs : Exprs) (k top : ℕ) (after : List Token) → i ≡ later m → ExprsRead m b ts e es n rest →
    Assigns rest t op us → n ≤ b → Found (one (g.exprs i)) (continues_exprs i) b us vs k after → top ≡ suc (max n k) → Found (one (g.simple m)) (continues_simple m) (suc b) ts (stmt t.at (tree.assign (tree.more_exprs e es) op vs)) top after
assign_found m i b ts e es n rest t op us vs k top after f z a within found high =
    answer_is refl (sym high)
    (led_done one_deeper (led_part one_deeper (assign_read m b ts e es n rest t op us z a within) within (subst (λ (j : Mode). Found (one (g.exprs j)) (continues_exprs j) b us vs k after) f found) (values_clear m)))

-- the first expressions aren't read
exprs_by : {s' : List Sym} {ts' : List Token} (m : Mode) (ts : List Token) (c : ℕ) (w : Stmt) (p : List Sym) → Rule (g.simple m c w) p → (s : List Sym) → Reach s' ts' (p ++ s) ts → size s' ts' ≤ 2 * length ts → Clear (continues_simple m) s →
    (d : ℕ) × ((v : Exprs) × ((q : List Sym) × ((suc d ≡ c) × (Clear (continues_exprs m) q × Reach s' ts' (g.exprs m d v ∷ q) ts))))
exprs_by m ts c w p (simple_eval {b = d} {e = x} {es = xs}) s r h clear = (d, (tree.more_exprs x xs, (s, (refl, (clear_narrow (goes_on_simple m) clear, r)))))
exprs_by m ts c w p (simple_assign {b = d} {places = places} {values = values} {k = k} {t = t} {op = op} f) s r h clear =
    (d, (places, (tok k t ∷ g.exprs (later m) d values ∷ s, (refl, (assignment_clear m k op f t (g.exprs (later m) d values ∷ s), r)))))

simple_comes : (m : Mode) (b : ℕ) (ts : List Token) (left : ℕ) → Comes (one (g.exprs m)) b ts left → Comes (one (g.simple m)) (suc b) ts left
simple_comes m b ts left comes = record {
  at = λ c h.
      let a = (some_comes m b ts left comes).at (c - 1) (omega (arith, h)) in
      let e : suc (c - 1) ≡ c = omega (arith, h) in
      subst (λ (d : ℕ). ComesAt (one (g.simple m)) d ts left) e (record {
        value = eval_node a.value;
        before = λ s. let z = a.before s in record { pending = z.pending; rest = z.rest; rest_is = z.rest_is; reach = write _ simple_eval z.reach };
      });
}

pub simple_refused : (m : Mode) (b : ℕ) (ts : List Token) (e : Stop) → Exact (one (g.exprs m)) (continues_exprs m) b ts (refused e) → Exact (one (g.simple m)) (continues_simple m) (suc b) ts (refused e)
simple_refused m b ts (stop.Syntax left) broken = record {
  short = broken.short;
  comes = simple_comes m b ts left broken.comes;
  none = λ c w s s' ts' clear r h.
      let k = broken.short in
      let y = behind_part tt r (omega (arith, h, k)) in
      let z = exprs_by m ts c w y.as_symbols y.rule s y.reach (omega (arith, h, k)) clear in
      broken.none z.0 z.1.0 z.1.1.0 s' ts' z.1.1.1.1.0 z.1.1.1.1.1 h;
}
simple_refused m b ts (stop.Deep left) deep = record {
  short = deep.short;
  comes = simple_comes m b ts (suc left) deep.comes;
  deep = λ c w s s' ts' clear r h.
      let k = deep.short in
      let y = behind_part tt r (omega (arith, h, k)) in
      let z = exprs_by m ts c w y.as_symbols y.rule s y.reach (omega (arith, h, k)) clear in
      let d = deep.deep z.0 z.1.0 z.1.1.0 s' ts' z.1.1.1.1.0 z.1.1.1.1.1 h in
      let e = z.1.1.1.0 in
      omega (arith, d, e);
  depth = suc deep.depth;
  deeper = simple_comes m deep.depth ts left deep.deeper;
}
simple_refused m b ts stop.Memory h = tt

-- no bound allows them
exprs_cost : (m : Mode) (c : ℕ) (v : Exprs) (p : List Sym) → Rule (g.exprs m c v) p → (s s' : List Sym) (ts ts' : List Token) → Reach s' ts' (p ++ s) ts → size s' ts' ≤ 2 * length ts → 0 < c
exprs_cost m c v p (exprs_ {e = e} {es = es}) s s' ts ts' r h = costs_expression m c e (g.more_exprs (later m) c es ∷ s) s' ts ts' r h

pub costs_exprs : (m : Mode) (c : ℕ) (v : Exprs) (s s' : List Sym) (ts ts' : List Token) → Reach s' ts' (g.exprs m c v ∷ s) ts → size s' ts' ≤ 2 * length ts → 0 < c
costs_exprs m c v s s' ts ts' r h = let z = behind_part tt r h in exprs_cost m c v z.as_symbols z.rule s s' ts ts' z.reach h

simple_cost : (m : Mode) (c : ℕ) (v : Stmt) (p : List Sym) → Rule (g.simple m c v) p → (s s' : List Sym) (ts ts' : List Token) → Reach s' ts' (p ++ s) ts → size s' ts' ≤ 2 * length ts → 1 < c
simple_cost m c v p (simple_eval {b = d} {e = e} {es = es}) s s' ts ts' r h = let k = costs_exprs m d (tree.more_exprs e es) s s' ts ts' r h in omega (arith, k)
simple_cost m c v p (simple_assign {b = d} {places = places} f) s s' ts ts' r h = let k = costs_exprs m d places _ s' ts ts' r h in omega (arith, k)

-- an assignment costs two levels
pub costs_simple : (m : Mode) (c : ℕ) (v : Stmt) (s s' : List Sym) (ts ts' : List Token) → Reach s' ts' (g.simple m c v ∷ s) ts → size s' ts' ≤ 2 * length ts → 1 < c
costs_simple m c v s s' ts ts' r h = let z = behind_part tt r h in simple_cost m c v z.as_symbols z.rule s s' ts ts' z.reach h

-- what costs more than its bound comes no further than its start
pub record Costly {V : Type 0} (p : Part V) (b : ℕ) (ts : List Token) : Type 0 where
  pub costs : (c : ℕ) (w : V) (s s' : List Sym) (ts' : List Token) → Reach s' ts' (p c w ++ s) ts → size s' ts' ≤ 2 * length ts → b < c

pub comes_nowhere : {V : Type 0} (p : Part V) (b : ℕ) (ts : List Token) (left : ℕ) → Costly p b ts → left ≤ length ts → Comes p b ts left → left ≡ length ts
comes_nowhere p b ts left costly short comes =
    let a = comes.at b (omega arith) in
    let z = a.before [] in
    let r = z.rest_is in
    let far = lt_of_not-le (λ (k : suc left ≤ length ts). let bad = costly.costs b a.value [] z.pending z.rest z.reach (let most = at_most z.pending z.rest in omega (arith, k, r, most)) in absurd (omega (arith, bad))) in
    omega (arith, short, far)
  where
    at_most : (s : List Sym) (ts : List Token) → size s ts ≤ suc (2 * length ts)
    at_most [] ts = omega arith
    at_most (x ∷ s) ts = omega arith

-- a simple statement where no bound allows an expression
pub simple_zero : (m : Mode) (d : ℕ) (ts : List Token) (e : Stop) → d ≡ 0 → Exact (one (g.expression m)) (continues Or m) 0 ts (refused e) → Exact (one (g.simple m)) (continues_simple m) d ts (refused e)
simple_zero m d ts e zero' h = subst (λ (k : ℕ). Exact (one (g.simple m)) (continues_simple m) k ts (refused e)) (sym zero') (at_zero e h)
  where
    costly : Costly (one (g.expression m)) 0 ts
    costly = record { costs = λ c w s s' ts' r k. costs_expression m c w s s' ts ts' r k }

    broken_by : {left : ℕ} → Broken (one (g.expression m)) (continues Or m) 0 ts left → (c : ℕ) (v : Exprs) (p : List Sym) → Rule (g.exprs m c v) p → (s s' : List Sym) (ts' : List Token) → Clear (continues_exprs m) s → Reach s' ts' (p ++ s) ts → size s' ts' ≤ 2 * left → ⊥
    broken_by broken c v p (exprs_ {e = x} {es = xs}) s s' ts' clear r k = broken.none c x (g.more_exprs (later m) c xs ∷ s) s' ts' (first_clear m c xs s clear) r k

    at_zero : (e : Stop) → Exact (one (g.expression m)) (continues Or m) 0 ts (refused e) → Exact (one (g.simple m)) (continues_simple m) 0 ts (refused e)
    at_zero (stop.Syntax left) broken =
        let far = comes_nowhere (one (g.expression m)) 0 ts left costly broken.short broken.comes in
        let k = broken.short in
        record {
          short = broken.short;
          comes = subst (λ (n : ℕ). Comes (one (g.simple m)) 0 ts n) (sym far) (at_start (g.simple m) 0 ts (eval_node (sample.expr, tree.no_exprs)));
          none = λ c w s s' ts' clear r h.
              let y = behind_part tt r (omega (arith, h, k)) in
              let z = exprs_by m ts c w y.as_symbols y.rule s y.reach (omega (arith, h, k)) clear in
              let x = behind_part tt z.1.1.1.1.1 (omega (arith, h, k)) in
              broken_by broken z.0 z.1.0 x.as_symbols x.rule z.1.1.0 s' ts' z.1.1.1.1.0 x.reach h;
        }
    at_zero (stop.Deep left) deep =
        let far = comes_nowhere (one (g.expression m)) 0 ts (suc left) costly deep.short deep.comes in
        let k = deep.short in
        record {
          short = deep.short;
          comes = subst (λ (n : ℕ). Comes (one (g.simple m)) 0 ts n) (sym far) (at_start (g.simple m) 0 ts (eval_node (sample.expr, tree.no_exprs)));
          deep = λ c w s s' ts' clear r h. let bad = costs_simple m c w s s' ts ts' r (omega (arith, h, k)) in omega (arith, bad);
          depth = suc deep.depth;
          deeper = record {
            at = λ c h.
                let a = deep.deeper.at (c - 1) (omega (arith, h)) in
                let e : suc (c - 1) ≡ c = omega (arith, h) in
                subst (λ (d : ℕ). ComesAt (one (g.simple m)) d ts left) e (record {
                  value = eval_node (a.value, tree.no_exprs);
                  before = λ s.
                      let z = a.before (g.more_exprs (later m) (c - 1) tree.no_exprs ∷ s) in
                      record { pending = z.pending; rest = z.rest; rest_is = z.rest_is; reach = write _ simple_eval (write _ exprs_ z.reach) };
                });
          };
        }
    at_zero stop.Memory h = tt
