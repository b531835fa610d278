-- One parameter whose names stand behind `$`.
use Rattle.std.proofs.Common.{◌≡◌, ℕ, suc, ◌-◌, ◌*◌, ◌<◌, ◌≤◌, max, true, List, ◌∷◌, ◌++◌, length, refl, sym, ◌∙◌, ap, subst, arith}
use Rattle.odc_syntax.specs.declared.token.Token.{Token}
use Rattle.odc_syntax.specs.declared.token.TokenKind.TheVariants as kind
use Rattle.odc_syntax.specs.declared.token.Word.TheVariants as word
use Rattle.odc_syntax.specs.declared.grammar.Use.TheVariants.{Parameter}
use Rattle.odc_syntax.specs.Tree.{type, Param, MaybeExpr}
use Rattle.odc_syntax.specs.Tree as tree
use Rattle.odc_syntax.specs.Grammar.{Sym, tok, said, Rule}
use Rattle.odc_syntax.specs.Grammar as g
use Rattle.odc_syntax.specs.Derives.{Reach, here, read, read_said, write, StartsWithout}
use Rattle.odc_lookahead.specs.declared.stop.Stop.{Stop}
use Rattle.odc_lookahead.specs.declared.stop.Stop.TheVariants as stop
use Rattle.odc_lookahead.specs.Exact.{size, one, Comes, Exact, Found, Broken, TooDeep}
use Rattle.odc_lookahead.specs.Read.{refused}
use Rattle.odc_lookahead.specs.Sets.{continues_argument, nothing_continues}
use Rattle.odc_lookahead.specs.TypeParts.{names_line}
use Rattle.odc_lookahead.proofs.reading.Opening.{reach_opens}
use Rattle.odc_lookahead.proofs.reading.Reaching.{along, behind_token, behind_said, behind_part}
use Rattle.odc_lookahead.proofs.reading.Leading.{same_depth, Pending, Led, first_is, without, at_rest}
use Rattle.odc_lookahead.proofs.reading.Answering.{led_rest, led_rest_refused, answer_is}
use Rattle.odc_lookahead.proofs.expr.SuffixAnswers.{nothing_clear}
use Rattle.odc_lookahead.proofs.reading.Samples as sample

abbrev pub Names : List Token → List Token → Token → List Token → Type 0
Names us ns k after = (b : ℕ) → Found names_line nothing_continues b us (ns, (k, tt)) 0 after

-- `typeid`
typeid_by : {c : ℕ} {w : Param} {p : List Sym} (rule : Rule (g.named_param Parameter c w) p) (o t : Token) (us ns : List Token) (k : Token) (vs : List Token) → o.kind ≡ kind.Dollar → Names us ns k (t ∷ vs) → t.kind ≡ kind.Typeid → (s s' : List Sym) (ts' : List Token) →
    Reach s' ts' (p ++ s) (o ∷ us) → size s' ts' ≤ 2 * length vs → Pending (λ n. n) (one g.given) (λ d. tree.param true ns tree.typeid d) 0 vs c w s s' ts'
typeid_by (g.dollar_typeid {b = b} {ns = ms} {c = l} {t = x} {d = d}) o t us ns k vs e names f s s' ts' r h =
    let short = (names b).short in
    let z = behind_token r (omega (arith, h, short)) in
    let y = (names b).only b (ms, (l, tt)) (tok kind.Typeid x ∷ g.given b d ∷ s) s' ts' (nothing_clear _) (at_rest z) (omega (arith, h)) in
    let q = behind_token y.reach (omega (arith, h)) in
    record { at = b; value = d; bound = refl; whole = ap (λ (v : List Token × (Token × Unit {0})). tree.param true v.0 tree.typeid d) y.value; deep = omega arith; reach = at_rest q }
typeid_by (g.dollar_int {b = b} {ns = ms} {c = l} {t = x} {d = d}) o t us ns k vs e names f s s' ts' r h =
    let short = (names b).short in
    let z = behind_token r (omega (arith, h, short)) in
    let y = (names (suc b)).only (suc b) (ms, (l, tt)) (said kind.Name word.Int x ∷ g.given (suc b) d ∷ s) s' ts' (nothing_clear _) (at_rest z) (omega (arith, h)) in
    let bad : t.kind ≡ kind.Name = reach_opens y.reach (omega (arith, h)) in
    cc
typeid_by g.named_typed o t us ns k vs e names f s s' ts' r h = let short = (names 0).short in let bad : o.kind ≡ kind.Name = reach_opens r (omega (arith, h, short)) in cc
typeid_by g.named_typeid o t us ns k vs e names f s s' ts' r h = let short = (names 0).short in let bad : o.kind ≡ kind.Name = reach_opens r (omega (arith, h, short)) in cc
typeid_by g.named_inferred o t us ns k vs e names f s s' ts' r h = let short = (names 0).short in let bad : o.kind ≡ kind.Name = reach_opens r (omega (arith, h, short)) in cc

typeid_reads : (o t : Token) (us ns : List Token) (k : Token) (vs : List Token) → o.kind ≡ kind.Dollar → Names us ns k (t ∷ vs) → t.kind ≡ kind.Typeid → (c : ℕ) (d : MaybeExpr) (s : List Sym) →
    Reach (g.given c d ∷ s) vs (g.named_param Parameter c (tree.param true ns tree.typeid d) ∷ s) (o ∷ us)
typeid_reads o t us ns k vs e names f c d s = write _ (g.dollar_typeid {o = o} {c = k} {t = t}) (read e (along ((names c).reads c (omega arith) (tok kind.Typeid t ∷ g.given c d ∷ s)) (read f here)))

typeid_led : (b : ℕ) (o t : Token) (us ns : List Token) (k : Token) (vs : List Token) → o.kind ≡ kind.Dollar → Names us ns k (t ∷ vs) → t.kind ≡ kind.Typeid →
    Led (one (g.named_param Parameter)) continues_argument (λ n. n) b (o ∷ us) (one g.given) (λ d. tree.param true ns tree.typeid d) 0 vs
typeid_led b o t us ns k vs e names f = record {
  short = let h = (names b).short in omega (arith, h);
  sample = tree.no_expr;
  comes = record {
    at = λ c h. record {
      value = tree.param true ns tree.typeid tree.no_expr;
      before = λ s. record { pending = g.given c tree.no_expr ∷ s; rest = vs; rest_is = refl; reach = typeid_reads o t us ns k vs e names f c tree.no_expr s };
    };
  };
  reads = λ c d h s. typeid_reads o t us ns k vs e names f c d s;
  only = λ c w s s' ts' clear r h.
      let short = (names b).short in
      let z = behind_part tt r (omega (arith, h, short)) in
      typeid_by z.rule o t us ns k vs e names f s s' ts' z.reach h;
}

typeid_at : (b : ℕ) (o t : Token) (us ns : List Token) (k : Token) (after vs : List Token) → o.kind ≡ kind.Dollar → Names us ns k after → after ≡ t ∷ vs → t.kind ≡ kind.Typeid →
    Led (one (g.named_param Parameter)) continues_argument (λ n. n) b (o ∷ us) (one g.given) (λ d. tree.param true ns tree.typeid d) 0 vs
typeid_at b o t us ns k after vs e names is f = typeid_led b o t us ns k vs e (subst (λ (l : List Token). Names us ns k l) is names) f

pub dollar_typeid_refused : (b : ℕ) (o t : Token) (us ns : List Token) (k : Token) (after vs : List Token) (stop : Stop) → o.kind ≡ kind.Dollar → Names us ns k after → after ≡ t ∷ vs → t.kind ≡ kind.Typeid → Exact (one g.given) continues_argument b vs (refused stop) →
    Exact (one (g.named_param Parameter)) continues_argument b (o ∷ us) (refused stop)
dollar_typeid_refused b o t us ns k after vs stop e names is f h = led_rest_refused stop same_depth (typeid_at b o t us ns k after vs e names is f) (omega arith) h

pub dollar_typeid_answer : (b : ℕ) (o t : Token) (us ns : List Token) (k : Token) (after vs : List Token) (d : MaybeExpr) (n : ℕ) (rest : List Token) (w : Param) → o.kind ≡ kind.Dollar → Names us ns k after → after ≡ t ∷ vs → t.kind ≡ kind.Typeid →
    Found (one g.given) continues_argument b vs d n rest → w ≡ tree.param true ns tree.typeid d → Found (one (g.named_param Parameter)) continues_argument b (o ∷ us) w n rest
dollar_typeid_answer b o t us ns k after vs d n rest w e names is f found made = answer_is (sym made) (omega arith) (led_rest same_depth (typeid_at b o t us ns k after vs e names is f) (omega arith) found)

-- `int`
abbrev pub int_param : List Token → Token → MaybeExpr → Param
int_param ns t d = tree.param true ns (tree.of_type (type t.at (tree.named t))) d

int_by : {c : ℕ} {w : Param} {p : List Sym} (rule : Rule (g.named_param Parameter c w) p) (o t : Token) (us ns : List Token) (k : Token) (vs : List Token) → o.kind ≡ kind.Dollar → Names us ns k (t ∷ vs) → t.kind ≡ kind.Name → (s s' : List Sym) (ts' : List Token) →
    Reach s' ts' (p ++ s) (o ∷ us) → size s' ts' ≤ 2 * length vs → Pending (λ n. n) (one g.given) (int_param ns t) 1 vs c w s s' ts'
int_by (g.dollar_int {b = b} {ns = ms} {c = l} {t = x} {d = d}) o t us ns k vs e names f s s' ts' r h =
    let short = (names b).short in
    let z = behind_token r (omega (arith, h, short)) in
    let y = (names (suc b)).only (suc b) (ms, (l, tt)) (said kind.Name word.Int x ∷ g.given (suc b) d ∷ s) s' ts' (nothing_clear _) (at_rest z) (omega (arith, h)) in
    let q = (behind_said y.reach (omega (arith, h))).1 in
    record {
      at = suc b;
      value = d;
      bound = refl;
      whole = ap (λ (v : List Token × (Token × Unit {0})). int_param v.0 x d) y.value ∙ ap (λ (x : Token). int_param ns x d) (first_is q.is);
      deep = omega arith;
      reach = at_rest q;
    }
int_by (g.dollar_typeid {b = b} {ns = ms} {c = l} {t = x} {d = d}) o t us ns k vs e names f s s' ts' r h =
    let short = (names b).short in
    let z = behind_token r (omega (arith, h, short)) in
    let y = (names b).only b (ms, (l, tt)) (tok kind.Typeid x ∷ g.given b d ∷ s) s' ts' (nothing_clear _) (at_rest z) (omega (arith, h)) in
    let bad : t.kind ≡ kind.Typeid = reach_opens y.reach (omega (arith, h)) in
    cc
int_by g.named_typed o t us ns k vs e names f s s' ts' r h = let short = (names 0).short in let bad : o.kind ≡ kind.Name = reach_opens r (omega (arith, h, short)) in cc
int_by g.named_typeid o t us ns k vs e names f s s' ts' r h = let short = (names 0).short in let bad : o.kind ≡ kind.Name = reach_opens r (omega (arith, h, short)) in cc
int_by g.named_inferred o t us ns k vs e names f s s' ts' r h = let short = (names 0).short in let bad : o.kind ≡ kind.Name = reach_opens r (omega (arith, h, short)) in cc

int_reads : (o t : Token) (us ns : List Token) (k : Token) (vs : List Token) → o.kind ≡ kind.Dollar → Names us ns k (t ∷ vs) → t.kind ≡ kind.Name → t.word ≡ word.Int → (c : ℕ) (d : MaybeExpr) (s : List Sym) → 1 ≤ c →
    Reach (g.given c d ∷ s) vs (g.named_param Parameter c (int_param ns t d) ∷ s) (o ∷ us)
int_reads o t us ns k vs e names f x c d s some =
    let deeper : suc (c - 1) ≡ c = omega (arith, some) in
    subst (λ (n : ℕ). Reach (g.given n d ∷ s) vs (g.named_param Parameter n (int_param ns t d) ∷ s) (o ∷ us)) deeper
    (write _ (g.dollar_int {o = o} {c = k} {t = t}) (read e (along ((names 0).reads (suc (c - 1)) (omega arith) (said kind.Name word.Int t ∷ g.given (suc (c - 1)) d ∷ s)) (read_said f x here))))

int_comes : (b : ℕ) (o t : Token) (us ns : List Token) (k : Token) (vs : List Token) → o.kind ≡ kind.Dollar → Names us ns k (t ∷ vs) → t.kind ≡ kind.Name → t.word ≡ word.Int → 1 ≤ b → Comes (one (g.named_param Parameter)) b (o ∷ us) (length vs)
int_comes b o t us ns k vs e names f x some = record {
  at = λ c h. record {
    value = int_param ns t tree.no_expr;
    before = λ s. record { pending = g.given c tree.no_expr ∷ s; rest = vs; rest_is = refl; reach = int_reads o t us ns k vs e names f x c tree.no_expr s (omega (arith, h, some)) };
  };
}

int_led : (b : ℕ) (o t : Token) (us ns : List Token) (k : Token) (vs : List Token) → o.kind ≡ kind.Dollar → Names us ns k (t ∷ vs) → t.kind ≡ kind.Name → t.word ≡ word.Int → 1 ≤ b →
    Led (one (g.named_param Parameter)) continues_argument (λ n. n) b (o ∷ us) (one g.given) (int_param ns t) 1 vs
int_led b o t us ns k vs e names f x some = record {
  short = let h = (names b).short in omega (arith, h);
  sample = tree.no_expr;
  comes = int_comes b o t us ns k vs e names f x some;
  reads = λ c d h s. int_reads o t us ns k vs e names f x c d s h;
  only = λ c w s s' ts' clear r h.
      let short = (names b).short in
      let z = behind_part tt r (omega (arith, h, short)) in
      int_by z.rule o t us ns k vs e names f s s' ts' z.reach h;
}

int_at : (b : ℕ) (o t : Token) (us ns : List Token) (k : Token) (after vs : List Token) → o.kind ≡ kind.Dollar → Names us ns k after → after ≡ t ∷ vs → t.kind ≡ kind.Name → t.word ≡ word.Int → 1 ≤ b →
    Led (one (g.named_param Parameter)) continues_argument (λ n. n) b (o ∷ us) (one g.given) (int_param ns t) 1 vs
int_at b o t us ns k after vs e names is f x some = int_led b o t us ns k vs e (subst (λ (l : List Token). Names us ns k l) is names) f x some

pub dollar_int_refused : (b : ℕ) (o t : Token) (us ns : List Token) (k : Token) (after vs : List Token) (stop : Stop) → o.kind ≡ kind.Dollar → Names us ns k after → after ≡ t ∷ vs → t.kind ≡ kind.Name → t.word ≡ word.Int → 1 ≤ b →
    Exact (one g.given) continues_argument b vs (refused stop) → Exact (one (g.named_param Parameter)) continues_argument b (o ∷ us) (refused stop)
dollar_int_refused b o t us ns k after vs stop e names is f x some h = led_rest_refused stop same_depth (int_at b o t us ns k after vs e names is f x some) some h

pub dollar_int_answer : (b : ℕ) (o t : Token) (us ns : List Token) (k : Token) (after vs : List Token) (d : MaybeExpr) (n : ℕ) (rest : List Token) (w : Param) (top : ℕ) → o.kind ≡ kind.Dollar → Names us ns k after → after ≡ t ∷ vs → t.kind ≡ kind.Name → t.word ≡ word.Int → 1 ≤ b →
    Found (one g.given) continues_argument b vs d n rest → w ≡ tree.param true ns (tree.of_type (type t.at (tree.named t))) d → top ≡ max 1 n → Found (one (g.named_param Parameter)) continues_argument b (o ∷ us) w top rest
dollar_int_answer b o t us ns k after vs d n rest w top e names is f x some found made high = answer_is (sym made) (sym high) (led_rest same_depth (int_at b o t us ns k after vs e names is f x some) some found)

-- the names and the colon behind `$` come, whatever follows
dollar_comes : (b : ℕ) (o : Token) (us ns : List Token) (k : Token) (after : List Token) → o.kind ≡ kind.Dollar → Names us ns k after → Comes (one (g.named_param Parameter)) b (o ∷ us) (length after)
dollar_comes b o us ns k after e names = record {
  at = λ c h. record {
    value = tree.param true ns tree.typeid tree.no_expr;
    before = λ s. record {
      pending = tok kind.Typeid sample.token ∷ g.given c tree.no_expr ∷ s;
      rest = after;
      rest_is = refl;
      reach = write _ (g.dollar_typeid {o = o} {c = k} {t = sample.token}) (read e ((names c).reads c (omega arith) (tok kind.Typeid sample.token ∷ g.given c tree.no_expr ∷ s)));
    };
  };
}

-- neither follows
neither_by : {c : ℕ} {w : Param} {p : List Sym} (rule : Rule (g.named_param Parameter c w) p) (o : Token) (us ns : List Token) (k : Token) (after : List Token) → o.kind ≡ kind.Dollar → Names us ns k after → StartsWithout kind.Typeid after →
    ((t : Token) (vs : List Token) → after ≡ t ∷ vs → t.kind ≡ kind.Name → t.word ≡ word.Int → ⊥) → (s s' : List Sym) (ts' : List Token) → Reach s' ts' (p ++ s) (o ∷ us) → size s' ts' ≤ 2 * length after → ⊥
neither_by (g.dollar_typeid {b = b} {ns = ms} {c = l} {t = x} {d = d}) o us ns k after e names none no_int s s' ts' r h =
    let short = (names b).short in
    let z = behind_token r (omega (arith, h, short)) in
    let y = (names b).only b (ms, (l, tt)) (tok kind.Typeid x ∷ g.given b d ∷ s) s' ts' (nothing_clear _) (at_rest z) h in
    let q = behind_token y.reach h in
    without kind.Typeid _ _ after q.is q.kind none
neither_by (g.dollar_int {b = b} {ns = ms} {c = l} {t = x} {d = d}) o us ns k after e names none no_int s s' ts' r h =
    let short = (names b).short in
    let z = behind_token r (omega (arith, h, short)) in
    let y = (names (suc b)).only (suc b) (ms, (l, tt)) (said kind.Name word.Int x ∷ g.given (suc b) d ∷ s) s' ts' (nothing_clear _) (at_rest z) h in
    let q = behind_said y.reach h in
    no_int _ _ q.1.is q.1.kind q.0
neither_by g.named_typed o us ns k after e names none no_int s s' ts' r h = let short = (names 0).short in let bad : o.kind ≡ kind.Name = reach_opens r (omega (arith, h, short)) in cc
neither_by g.named_typeid o us ns k after e names none no_int s s' ts' r h = let short = (names 0).short in let bad : o.kind ≡ kind.Name = reach_opens r (omega (arith, h, short)) in cc
neither_by g.named_inferred o us ns k after e names none no_int s s' ts' r h = let short = (names 0).short in let bad : o.kind ≡ kind.Name = reach_opens r (omega (arith, h, short)) in cc

pub dollar_untyped : (b : ℕ) (o : Token) (us ns : List Token) (k : Token) (after : List Token) → o.kind ≡ kind.Dollar → Names us ns k after → StartsWithout kind.Typeid after → ((t : Token) (vs : List Token) → after ≡ t ∷ vs → t.kind ≡ kind.Name → t.word ≡ word.Int → ⊥) →
    Broken (one (g.named_param Parameter)) continues_argument b (o ∷ us) (length after)
dollar_untyped b o us ns k after e names none no_int = record {
  short = let h = (names b).short in omega (arith, h);
  comes = dollar_comes b o us ns k after e names;
  none = λ c w s s' ts' clear r h.
      let short = (names b).short in
      let z = behind_part tt r (omega (arith, h, short)) in
      neither_by z.rule o us ns k after e names none no_int s s' ts' z.reach h;
}

int_deep : {c : ℕ} {w : Param} {p : List Sym} (rule : Rule (g.named_param Parameter c w) p) (o t : Token) (us ns : List Token) (k : Token) (vs : List Token) → o.kind ≡ kind.Dollar → Names us ns k (t ∷ vs) → t.kind ≡ kind.Name → (s s' : List Sym) (ts' : List Token) →
    Reach s' ts' (p ++ s) (o ∷ us) → size s' ts' ≤ 2 * length (t ∷ vs) → 0 < c
int_deep g.dollar_int o t us ns k vs e names f s s' ts' r h = omega arith
int_deep (g.dollar_typeid {b = b} {ns = ms} {c = l} {t = x} {d = d}) o t us ns k vs e names f s s' ts' r h =
    let short = (names b).short in
    let z = behind_token r (omega (arith, h, short)) in
    let y = (names b).only b (ms, (l, tt)) (tok kind.Typeid x ∷ g.given b d ∷ s) s' ts' (nothing_clear _) (at_rest z) h in
    let bad : t.kind ≡ kind.Typeid = reach_opens y.reach h in
    cc
int_deep g.named_typed o t us ns k vs e names f s s' ts' r h = let short = (names 0).short in let bad : o.kind ≡ kind.Name = reach_opens r (omega (arith, h, short)) in cc
int_deep g.named_typeid o t us ns k vs e names f s s' ts' r h = let short = (names 0).short in let bad : o.kind ≡ kind.Name = reach_opens r (omega (arith, h, short)) in cc
int_deep g.named_inferred o t us ns k vs e names f s s' ts' r h = let short = (names 0).short in let bad : o.kind ≡ kind.Name = reach_opens r (omega (arith, h, short)) in cc

-- `int`, where no type may stand any more
pub dollar_int_deep : (b : ℕ) (o t : Token) (us ns : List Token) (k : Token) (after vs : List Token) → b ≡ 0 → o.kind ≡ kind.Dollar → Names us ns k after → after ≡ t ∷ vs → t.kind ≡ kind.Name → t.word ≡ word.Int →
    TooDeep (one (g.named_param Parameter)) continues_argument b (o ∷ us) (length vs)
dollar_int_deep b o t us ns k after vs zero' e names is f x =
    let longer : length after ≡ suc (length vs) = ap length is in
    let behind = subst (λ (l : List Token). Names us ns k l) is names in
    record {
      short = let h = (names b).short in omega (arith, h, longer);
      comes = subst (λ (n : ℕ). Comes (one (g.named_param Parameter)) b (o ∷ us) n) longer (dollar_comes b o us ns k after e names);
      deep = λ c w s s' ts' clear r h.
          let short = (names b).short in
          let z = behind_part tt r (omega (arith, h, short, longer)) in
          let y = int_deep z.rule o t us ns k vs e behind f s s' ts' z.reach (omega (arith, h)) in
          omega (arith, y, zero');
      depth = 1;
      deeper = int_comes 1 o t us ns k vs e behind f x (omega arith);
    }

carried : (d left : ℕ) (o : Token) (us : List Token) → o.kind ≡ kind.Dollar → Comes names_line d us left → Comes (one (g.named_param Parameter)) d (o ∷ us) left
carried d left o us e comes = record {
  at = λ c h.
      let a = comes.at c h in
      record {
        value = tree.param true a.value.0 tree.typeid tree.no_expr;
        before = λ s.
            let z = a.before (tok kind.Typeid sample.token ∷ g.given c tree.no_expr ∷ s) in
            record { pending = z.pending; rest = z.rest; rest_is = z.rest_is; reach = write _ (g.dollar_typeid {o = o} {c = a.value.1.0} {t = sample.token}) (read e z.reach) };
      };
}

abbrev Line : Type 0
Line = List Token × (Token × Unit {0})

unnamed_by : {c : ℕ} {w : Param} {p : List Sym} (rule : Rule (g.named_param Parameter c w) p) (o : Token) (us : List Token) (left : ℕ) → o.kind ≡ kind.Dollar → left ≤ length us →
    ((c : ℕ) (v : Line) (s s' : List Sym) (ts' : List Token) → Reach s' ts' (names_line c v ++ s) us → size s' ts' ≤ 2 * left → ⊥) → (s s' : List Sym) (ts' : List Token) → Reach s' ts' (p ++ s) (o ∷ us) → size s' ts' ≤ 2 * left → ⊥
unnamed_by (g.dollar_typeid {b = b} {ns = ms} {c = l}) o us left e short dead s s' ts' r h = let z = behind_token r (omega (arith, h, short)) in dead b (ms, (l, tt)) _ s' ts' (at_rest z) h
unnamed_by (g.dollar_int {b = b} {ns = ms} {c = l}) o us left e short dead s s' ts' r h = let z = behind_token r (omega (arith, h, short)) in dead b (ms, (l, tt)) _ s' ts' (at_rest z) h
unnamed_by g.named_typed o us left e short dead s s' ts' r h = let bad : o.kind ≡ kind.Name = reach_opens r (omega (arith, h, short)) in cc
unnamed_by g.named_typeid o us left e short dead s s' ts' r h = let bad : o.kind ≡ kind.Name = reach_opens r (omega (arith, h, short)) in cc
unnamed_by g.named_inferred o us left e short dead s s' ts' r h = let bad : o.kind ≡ kind.Name = reach_opens r (omega (arith, h, short)) in cc

deep_by : {c : ℕ} {w : Param} {p : List Sym} (rule : Rule (g.named_param Parameter c w) p) (o : Token) (us : List Token) (left d : ℕ) → o.kind ≡ kind.Dollar → suc left ≤ length us →
    ((c : ℕ) (v : Line) (s s' : List Sym) (ts' : List Token) → Reach s' ts' (names_line c v ++ s) us → size s' ts' ≤ suc (2 * left) → d < c) → (s s' : List Sym) (ts' : List Token) → Reach s' ts' (p ++ s) (o ∷ us) → size s' ts' ≤ suc (2 * left) → d < c
deep_by (g.dollar_typeid {b = b} {ns = ms} {c = l}) o us left d e short dead s s' ts' r h = let z = behind_token r (omega (arith, h, short)) in dead b (ms, (l, tt)) _ s' ts' (at_rest z) h
deep_by (g.dollar_int {b = b} {ns = ms} {c = l}) o us left d e short dead s s' ts' r h = let z = behind_token r (omega (arith, h, short)) in dead (suc b) (ms, (l, tt)) _ s' ts' (at_rest z) h
deep_by g.named_typed o us left d e short dead s s' ts' r h = let bad : o.kind ≡ kind.Name = reach_opens r (omega (arith, h, short)) in cc
deep_by g.named_typeid o us left d e short dead s s' ts' r h = let bad : o.kind ≡ kind.Name = reach_opens r (omega (arith, h, short)) in cc
deep_by g.named_inferred o us left d e short dead s s' ts' r h = let bad : o.kind ≡ kind.Name = reach_opens r (omega (arith, h, short)) in cc

-- the names behind `$` are refused
pub dollar_unnamed : (b : ℕ) (o : Token) (us : List Token) (stop : Stop) → o.kind ≡ kind.Dollar → Exact names_line nothing_continues b us (refused stop) → Exact (one (g.named_param Parameter)) continues_argument b (o ∷ us) (refused stop)
dollar_unnamed b o us (stop.Syntax left) e h = record {
  short = let k = h.short in omega (arith, k);
  comes = carried b left o us e h.comes;
  none = λ c w s s' ts' clear r n.
      let k = h.short in
      let z = behind_part tt r (omega (arith, n, k)) in
      unnamed_by z.rule o us left e h.short (λ c v s s' ts' r n. h.none c v s s' ts' (nothing_clear s) r n) s s' ts' z.reach n;
}
dollar_unnamed b o us (stop.Deep left) e h = record {
  short = let k = h.short in omega (arith, k);
  comes = carried b (suc left) o us e h.comes;
  deep = λ c w s s' ts' clear r n.
      let k = h.short in
      let z = behind_part tt r (omega (arith, n, k)) in
      deep_by z.rule o us left b e h.short (λ c v s s' ts' r n. h.deep c v s s' ts' (nothing_clear s) r n) s s' ts' z.reach n;
  depth = h.depth;
  deeper = carried h.depth left o us e h.deeper;
}
dollar_unnamed b o us stop.Memory e h = tt
