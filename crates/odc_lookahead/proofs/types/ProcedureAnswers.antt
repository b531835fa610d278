-- Procedures: a signature with a body behind it, or a procedure's type that stands where an expression may.
use Rattle.std.proofs.Common.{◌≡◌, ℕ, suc, ◌-◌, ◌*◌, ◌<◌, ◌≤◌, max, Bool, true, false, List, [], ◌∷◌, ◌++◌, length, refl, sym, ◌∙◌, ap, subst, arith}
use Rattle.odc_syntax.specs.declared.token.Token.{Token}
use Rattle.odc_syntax.specs.declared.token.TokenKind.{TokenKind}
use Rattle.odc_syntax.specs.declared.token.TokenKind.TheVariants as kind
use Rattle.odc_syntax.specs.declared.grammar.Mode.{Mode}
use Rattle.odc_syntax.specs.declared.grammar.Mode.TheVariants.{Free, Header, Start}
use Rattle.odc_syntax.specs.declared.grammar.Use.TheVariants.{Operand}
use Rattle.odc_syntax.specs.Tree.{Expr, expr, Signature, signature, Stmts}
use Rattle.odc_syntax.specs.Tree as tree
use Rattle.odc_syntax.specs.Grammar.{Sym, Rule, operand, later, proc_type, proc_literal}
use Rattle.odc_syntax.specs.Grammar as g
use Rattle.odc_syntax.specs.Derives.{Reach, here, read, see_not, write, StartsWithout}
use Rattle.odc_lookahead.specs.declared.end.End.{End}
use Rattle.odc_lookahead.specs.declared.stop.Stop.{Stop}
use Rattle.odc_lookahead.specs.declared.stop.Stop.TheVariants as stop
use Rattle.odc_lookahead.specs.Exact.{size, one, Comes, ComesAt, Exact, Answer, Found, Broken, TooDeep, Remains}
use Rattle.odc_lookahead.specs.Ends.{FoundTo, ExactTo, sure}
use Rattle.odc_lookahead.specs.Read.{refused}
use Rattle.odc_lookahead.specs.Sets.{nothing_continues, is_free, takes_braces, starts_constructed}
use Rattle.odc_lookahead.proofs.reading.Opening.{reach_opens, is_brace, First}
use Rattle.odc_lookahead.proofs.reading.Reaching.{along, behind_token, behind_part, behind_not_next}
use Rattle.odc_lookahead.proofs.reading.Leading.{one_deeper, Pending, Led, without, first_is}
use Rattle.odc_lookahead.proofs.reading.Answering.{led_rest, led_rest_refused, led_over, answer_is}
use Rattle.odc_lookahead.proofs.expr.SuffixAnswers.{nothing_clear}
use Rattle.odc_lookahead.proofs.reading.EndLemmas.{sure_most}
use Rattle.odc_lookahead.proofs.reading.Samples as sample

type_write : (m : Mode) (c : ℕ) (v : Signature) → Rule (operand m (suc (suc c)) (proc_type v)) (g.sig Operand c v ∷ g.not_next kind.OpenBrace ∷ [])
type_write m c (signature at n ps r) = g.operand_proc_type

literal_write : (m : Mode) (c : ℕ) (v : Signature) (ss : Stmts) → Rule (operand m (suc c) (proc_literal v ss)) (g.sig Operand c v ∷ g.block_ (later m) c ss ∷ [])
literal_write m c (signature at n ps r) ss = g.operand_proc

-- an operand that begins with `proc` is one of the two
data ByProc (m : Mode) (c : ℕ) (w : Expr) : List Sym → Type 0 where
  as_type : (b : ℕ) (v : Signature) → c ≡ suc (suc b) → w ≡ proc_type v → ByProc m c w (g.sig Operand b v ∷ g.not_next kind.OpenBrace ∷ [])
  with_body : (b : ℕ) (v : Signature) (ss : Stmts) → c ≡ suc b → w ≡ proc_literal v ss → ByProc m c w (g.sig Operand b v ∷ g.block_ (later m) b ss ∷ [])

by_proc : {m : Mode} {c : ℕ} {w : Expr} {p : List Sym} → Rule (operand m c w) p → (t : Token) (us : List Token) → t.kind ≡ kind.Proc → (s s' : List Sym) (ts' : List Token) → Reach s' ts' (p ++ s) (t ∷ us) → size s' ts' ≤ 2 * length (t ∷ us) → ByProc m c w p
by_proc (g.operand_proc_type {b = b} {at = at} {n = n} {ps = ps} {r = q}) t us e s s' ts' r h = as_type b (signature at n ps q) refl refl
by_proc (g.operand_proc {b = b} {at = at} {n = n} {ps = ps} {r = q} {ss = ss}) t us e s s' ts' r h = with_body b (signature at n ps q) ss refl refl
by_proc g.operand_name t us e s s' ts' r h = let bad : t.kind ≡ kind.Name = reach_opens r h in cc
by_proc g.operand_int t us e s s' ts' r h = let bad : t.kind ≡ kind.Int = reach_opens r h in cc
by_proc g.operand_rune t us e s s' ts' r h = let bad : t.kind ≡ kind.Rune = reach_opens r h in cc
by_proc g.operand_text t us e s s' ts' r h = let bad : t.kind ≡ kind.Text = reach_opens r h in cc
by_proc g.operand_context t us e s s' ts' r h = let bad : t.kind ≡ kind.Context = reach_opens r h in cc
by_proc g.operand_location t us e s s' ts' r h = let bad : t.kind ≡ kind.Directive = reach_opens r h in cc
by_proc g.operand_dot t us e s s' ts' r h = let bad : t.kind ≡ kind.Dot = reach_opens r h in cc
by_proc g.operand_literal t us e s s' ts' r h = let bad : t.kind ≡ kind.OpenBrace = reach_opens r h in cc
by_proc g.operand_group t us e s s' ts' r h = let bad : t.kind ≡ kind.OpenParen = reach_opens r h in cc
by_proc (g.operand_type {m = m}) t us e s s' ts' r h = let opens = reach_opens r h in let bad : false ≡ true = ap (starts_constructed (g.operand_use m)) (sym e) ∙ opens in cc

sig_comes : (m : Mode) (b : ℕ) (t : Token) (us : List Token) (left : ℕ) → Comes (one (g.sig Operand)) b (t ∷ us) left → Comes (one (operand m)) (suc b) (t ∷ us) left
sig_comes m b t us left comes = record {
  at = λ c h.
      let k : suc (c - 1) ≡ c = omega (arith, h) in
      let a = comes.at (c - 1) (omega (arith, h)) in
      subst (λ (j : ℕ). ComesAt (one (operand m)) j (t ∷ us) left) k (record {
        value = proc_literal a.value tree.no_stmts;
        before = λ s.
            let z = a.before (g.block_ (later m) (c - 1) tree.no_stmts ∷ s) in
            record { pending = z.pending; rest = z.rest; rest_is = z.rest_is; reach = write _ (literal_write m (c - 1) a.value tree.no_stmts) z.reach };
      });
}

none_by : {m : Mode} {c : ℕ} {w : Expr} {p : List Sym} → ByProc m c w p → (t : Token) (us : List Token) (left : ℕ) → ((c : ℕ) (v : Signature) (s s' : List Sym) (ts' : List Token) → Reach s' ts' (g.sig Operand c v ∷ s) (t ∷ us) → size s' ts' ≤ 2 * left → ⊥) →
    (s s' : List Sym) (ts' : List Token) → Reach s' ts' (p ++ s) (t ∷ us) → size s' ts' ≤ 2 * left → ⊥
none_by (as_type b v e f) t us left dead s s' ts' r h = dead b v _ s' ts' r h
none_by (with_body b v ss e f) t us left dead s s' ts' r h = dead b v _ s' ts' r h

deep_by : {m : Mode} {c : ℕ} {w : Expr} {p : List Sym} → ByProc m c w p → (t : Token) (us : List Token) (left b : ℕ) → ((c : ℕ) (v : Signature) (s s' : List Sym) (ts' : List Token) → Reach s' ts' (g.sig Operand c v ∷ s) (t ∷ us) → size s' ts' ≤ suc (2 * left) → b < c) →
    (s s' : List Sym) (ts' : List Token) → Reach s' ts' (p ++ s) (t ∷ us) → size s' ts' ≤ suc (2 * left) → suc b < c
deep_by (as_type d v e f) t us left b dead s s' ts' r h = let k = dead d v _ s' ts' r h in omega (arith, k, e)
deep_by (with_body d v ss e f) t us left b dead s s' ts' r h = let k = dead d v _ s' ts' r h in omega (arith, k, e)

abbrev Only : Token → List Token → Signature → ℕ → List Token → ℕ → Type 0
Only t us v n rest left = (c : ℕ) (w : Signature) (s s' : List Sym) (ts' : List Token) → Reach s' ts' (g.sig Operand c w ∷ s) (t ∷ us) → size s' ts' ≤ 2 * left → Remains v n rest c w s s' ts'

brace_is : (b : Bool) (k : TokenKind) → is_brace b k ≡ true → k ≡ kind.OpenBrace
brace_is b kind.OpenBrace e = refl
brace_is b _ e = cc

no_block : (b : Bool) (ts : List Token) → StartsWithout kind.OpenBrace ts → First (is_brace b) ts → ⊥
no_block b [] none on = on
no_block b (t ∷ ts) none on = none (brace_is b t.kind on)

type_by : {m : Mode} {c : ℕ} {w : Expr} {p : List Sym} → ByProc m c w p → (t : Token) (us : List Token) (v : Signature) (n : ℕ) (rest : List Token) (left : ℕ) → left ≤ length rest → StartsWithout kind.OpenBrace rest → Only t us v n rest left →
    (s s' : List Sym) (ts' : List Token) → Reach s' ts' (p ++ s) (t ∷ us) → size s' ts' ≤ 2 * left → Remains (proc_type v) (suc (suc n)) rest c w s s' ts'
type_by (as_type b x e f) t us v n rest left short none only s s' ts' r h =
    let z = only b x (g.not_next kind.OpenBrace ∷ s) s' ts' r h in
    let k = z.bound in
    record { value = f ∙ ap proc_type z.value; bound = omega (arith, k, e); reach = (behind_not_next z.reach (omega (arith, h, short))).1 }
type_by {m = m} (with_body b x ss e f) t us v n rest left short none only s s' ts' r h =
    let z = only b x _ s' ts' r h in
    absurd (no_block (is_free (later m)) rest none (reach_opens z.reach (omega (arith, h, short))))

body_by : {m : Mode} {c : ℕ} {w : Expr} {p : List Sym} → ByProc m c w p → later m ≡ Free → (t : Token) (us : List Token) (v : Signature) (n : ℕ) (o : Token) (inner rest : List Token) → rest ≡ o ∷ inner → o.kind ≡ kind.OpenBrace → Only t us v n rest (length rest) →
    (s s' : List Sym) (ts' : List Token) → Reach s' ts' (p ++ s) (t ∷ us) → size s' ts' ≤ 2 * length rest → Pending (λ n. suc n) (one (g.block_ Free)) (proc_literal v) n rest c w s s' ts'
body_by (as_type b x e f) free t us v n o inner rest is brace only s s' ts' r h =
    let z = only b x (g.not_next kind.OpenBrace ∷ s) s' ts' r h in
    absurd (without kind.OpenBrace o inner rest is brace (behind_not_next z.reach h).0)
body_by (with_body b x ss e f) free t us v n o inner rest is brace only s s' ts' r h =
    let z = only b x _ s' ts' r h in
    record {
      at = b;
      value = ss;
      bound = e;
      whole = f ∙ ap (λ (x : Signature). proc_literal x ss) z.value;
      deep = z.bound;
      reach = subst (λ (y : Mode). Reach s' ts' (g.block_ y b ss ∷ s) rest) free z.reach;
    }

header_brace : (k : TokenKind) → is_brace false k ≡ true → ⊥
header_brace kind.OpenBrace e = cc
header_brace _ e = cc

no_brace : (m : Mode) → m ≡ Header → (ts : List Token) → First (is_brace (is_free m)) ts → ⊥
no_brace m e [] on = on
no_brace m e (t ∷ ts) on = header_brace t.kind (ap (λ (m : Mode). is_brace (is_free m) t.kind) (sym e) ∙ on)

nowhere_by : {m : Mode} {c : ℕ} {w : Expr} {p : List Sym} → ByProc m c w p → later m ≡ Header → (t : Token) (us : List Token) (v : Signature) (n : ℕ) (o : Token) (inner rest : List Token) → rest ≡ o ∷ inner → o.kind ≡ kind.OpenBrace → Only t us v n rest (length rest) →
    (s s' : List Sym) (ts' : List Token) → Reach s' ts' (p ++ s) (t ∷ us) → size s' ts' ≤ 2 * length rest → ⊥
nowhere_by (as_type b x e f) header t us v n o inner rest is brace only s s' ts' r h =
    let z = only b x (g.not_next kind.OpenBrace ∷ s) s' ts' r h in
    without kind.OpenBrace o inner rest is brace (behind_not_next z.reach h).0
nowhere_by {m = m} (with_body b x ss e f) header t us v n o inner rest is brace only s s' ts' r h =
    let z = only b x _ s' ts' r h in
    no_brace (later m) header rest (reach_opens z.reach h)

-- the signature is refused
pub signature_refused : (m : Mode) (b : ℕ) (t : Token) (us : List Token) (e : Stop) → t.kind ≡ kind.Proc → Exact (one (g.sig Operand)) nothing_continues b (t ∷ us) (refused e) → Exact (one (operand m)) nothing_continues (suc b) (t ∷ us) (refused e)
signature_refused m b t us (stop.Syntax left) e h = record {
  short = h.short;
  comes = sig_comes m b t us left h.comes;
  none = λ c w s s' ts' clear r n.
      let k = h.short in
      let z = behind_part tt r (omega (arith, n, k)) in
      none_by (by_proc z.rule t us e s s' ts' z.reach (omega (arith, n, k))) t us left (λ c v s s' ts' r n. h.none c v s s' ts' (nothing_clear s) r n) s s' ts' z.reach n;
}
signature_refused m b t us (stop.Deep left) e h = record {
  short = h.short;
  comes = sig_comes m b t us (suc left) h.comes;
  deep = λ c w s s' ts' clear r n.
      let k = h.short in
      let z = behind_part tt r (omega (arith, n, k)) in
      deep_by (by_proc z.rule t us e s s' ts' z.reach (omega (arith, n, k))) t us left b (λ c v s s' ts' r n. h.deep c v s s' ts' (nothing_clear s) r n) s s' ts' z.reach n;
  depth = suc h.depth;
  deeper = sig_comes m h.depth t us left h.deeper;
}
signature_refused m b t us stop.Memory e h = tt

-- no `{` follows: it is a type
pub type_answer : (m : Mode) (b : ℕ) (t : Token) (us : List Token) (v : Signature) (n : ℕ) (rest : List Token) (end : End) (w : Expr) (top : ℕ) → t.kind ≡ kind.Proc → FoundTo (one (g.sig Operand)) nothing_continues b (t ∷ us) v n rest end →
    StartsWithout kind.OpenBrace rest → w ≡ proc_type v → top ≡ suc (suc n) → FoundTo (one (operand m)) nothing_continues (suc b) (t ∷ us) w top rest end
type_answer m b t us v n rest end w top e found none made high =
    subst (λ (x : Expr). FoundTo (one (operand m)) nothing_continues (suc b) (t ∷ us) x top rest end) (sym made)
    (subst (λ (k : ℕ). FoundTo (one (operand m)) nothing_continues (suc b) (t ∷ us) (proc_type v) k rest end) (sym high) (record {
      short = found.short;
      follows = found.follows;
      comes = sig_comes m b t us (sure end rest) found.comes;
      reads = λ c h s.
          let k : suc (suc (c - 2)) ≡ c = omega (arith, h) in
          subst (λ (j : ℕ). Reach s rest (operand m j (proc_type v) ∷ s) (t ∷ us)) k
          (write _ (type_write m (c - 2) v) (along (found.reads (c - 2) (omega (arith, h)) (g.not_next kind.OpenBrace ∷ s)) (see_not none here)));
      only = λ c w s s' ts' clear r h.
          let k = found.short in
          let i = sure_most end rest in
          let z = behind_part tt r (omega (arith, h, k, i)) in
          type_by (by_proc z.rule t us e s s' ts' z.reach (omega (arith, h, k, i))) t us v n rest (sure end rest) i none (λ c w s s' ts' r n. found.only c w s s' ts' (nothing_clear s) r n) s s' ts' z.reach h;
    }))

-- `{` follows, and a body may stand here
pub body_led : (m : Mode) → later m ≡ Free → (b : ℕ) (t : Token) (us : List Token) (v : Signature) (n : ℕ) (o : Token) (inner rest : List Token) → t.kind ≡ kind.Proc → Found (one (g.sig Operand)) nothing_continues b (t ∷ us) v n rest → rest ≡ o ∷ inner → o.kind ≡ kind.OpenBrace →
    Led (one (operand m)) nothing_continues (λ n. suc n) b (t ∷ us) (one (g.block_ Free)) (proc_literal v) n rest
body_led m free b t us v n o inner rest e found is brace = record {
  short = found.short;
  sample = tree.no_stmts;
  comes = sig_comes m b t us (length rest) found.comes;
  reads = λ c ss h s.
      write _ (literal_write m c v ss)
      (subst (λ (x : Mode). Reach (g.block_ Free c ss ∷ s) rest (g.sig Operand c v ∷ g.block_ x c ss ∷ s) (t ∷ us)) (sym free) (found.reads c h (g.block_ Free c ss ∷ s)));
  only = λ c w s s' ts' clear r h.
      let k = found.short in
      let z = behind_part tt r (omega (arith, h, k)) in
      body_by (by_proc z.rule t us e s s' ts' z.reach (omega (arith, h, k))) free t us v n o inner rest is brace (λ c w s s' ts' r n. found.only c w s s' ts' (nothing_clear s) r n) s s' ts' z.reach h;
}

pub body_refused : (m : Mode) → later m ≡ Free → (b : ℕ) (t : Token) (us : List Token) (v : Signature) (n : ℕ) (o : Token) (inner rest : List Token) (stop : Stop) → t.kind ≡ kind.Proc → Found (one (g.sig Operand)) nothing_continues b (t ∷ us) v n rest → n ≤ b →
    rest ≡ o ∷ inner → o.kind ≡ kind.OpenBrace → Exact (one (g.block_ Free)) nothing_continues b rest (refused stop) → Exact (one (operand m)) nothing_continues (suc b) (t ∷ us) (refused stop)
body_refused m free b t us v n o inner rest stop e found within is brace h = led_rest_refused stop one_deeper (body_led m free b t us v n o inner rest e found is brace) within h

pub body_answer : (m : Mode) → later m ≡ Free → (b : ℕ) (t : Token) (us : List Token) (v : Signature) (n : ℕ) (o : Token) (inner rest : List Token) (ss : Stmts) (k : ℕ) (last : List Token) (w : Expr) (top : ℕ) → t.kind ≡ kind.Proc →
    Found (one (g.sig Operand)) nothing_continues b (t ∷ us) v n rest → n ≤ b → rest ≡ o ∷ inner → o.kind ≡ kind.OpenBrace → Found (one (g.block_ Free)) nothing_continues b rest ss k last → w ≡ proc_literal v ss → top ≡ suc (max n k) →
    Found (one (operand m)) nothing_continues (suc b) (t ∷ us) w top last
body_answer m free b t us v n o inner rest ss k last w top e found within is brace h made high = answer_is (sym made) (sym high) (led_rest one_deeper (body_led m free b t us v n o inner rest e found is brace) within h)

pub body_deep : (m : Mode) → later m ≡ Free → (b : ℕ) (t : Token) (us : List Token) (v : Signature) (n : ℕ) (o : Token) (inner rest : List Token) → t.kind ≡ kind.Proc → Found (one (g.sig Operand)) nothing_continues b (t ∷ us) v n rest → b < n →
    rest ≡ o ∷ inner → o.kind ≡ kind.OpenBrace → TooDeep (one (operand m)) nothing_continues (suc b) (t ∷ us) (length inner)
body_deep m free b t us v n o inner rest e found over is brace =
    led_over one_deeper is over
    (λ c. (tree.no_stmts, λ s. (g.stmts c tree.no_stmts ∷ g.tok kind.CloseBrace sample.token ∷ s, subst (λ (l : List Token). Reach (g.stmts c tree.no_stmts ∷ g.tok kind.CloseBrace sample.token ∷ s) inner (g.block_ Free c tree.no_stmts ∷ s) l) (sym is) (write _ (g.block_braces {c = sample.token}) (read brace here)))))
    (body_led m free b t us v n o inner rest e found is brace)

-- `{` follows, and no body may stand here
pub body_nowhere : (m : Mode) → later m ≡ Header → (b : ℕ) (t : Token) (us : List Token) (v : Signature) (n : ℕ) (o : Token) (inner rest : List Token) → t.kind ≡ kind.Proc → Found (one (g.sig Operand)) nothing_continues b (t ∷ us) v n rest →
    rest ≡ o ∷ inner → o.kind ≡ kind.OpenBrace → Broken (one (operand m)) nothing_continues (suc b) (t ∷ us) (length rest)
body_nowhere m header b t us v n o inner rest e found is brace = record {
  short = found.short;
  comes = sig_comes m b t us (length rest) found.comes;
  none = λ c w s s' ts' clear r h.
      let k = found.short in
      let z = behind_part tt r (omega (arith, h, k)) in
      nowhere_by (by_proc z.rule t us e s s' ts' z.reach (omega (arith, h, k))) header t us v n o inner rest is brace (λ c w s s' ts' r n. found.only c w s s' ts' (nothing_clear s) r n) s s' ts' z.reach h;
}

-- a signature has the place of its first token
place_by : {c : ℕ} {v : Signature} {p : List Sym} → Rule (g.sig Operand c v) p → (t : Token) (us : List Token) (s s' : List Sym) (ts' : List Token) → Reach s' ts' (p ++ s) (t ∷ us) → size s' ts' ≤ 2 * length us → expr t.at t.at (tree.type_tree (tree.type t.at (tree.proc v))) ≡ proc_type v
place_by (g.sig_ {t = x} {n = n} {ps = ps} {r = q}) t us s s' ts' r h =
    let z = behind_token r (omega (arith, h)) in
    ap (λ (y : Token). expr y.at y.at (tree.type_tree (tree.type y.at (tree.proc (signature x.at n ps q))))) (sym (first_is z.is))

-- at a list of tokens that begins with `proc`
pub procedure_at : (m : Mode) (d : ℕ) (ts : List Token) (t : Token) (us : List Token) (r : Answer (Expr × End)) → ts ≡ t ∷ us → ExactTo (one (operand m)) nothing_continues d (t ∷ us) r → ExactTo (one (operand m)) nothing_continues d ts r
procedure_at m d ts t us r is h = subst (λ (l : List Token). ExactTo (one (operand m)) nothing_continues d l r) (sym is) h

-- where braces may stand
pub takes_body : (m : Mode) → takes_braces m ≡ true → later m ≡ Free
takes_body Free e = refl
takes_body Header e = cc
takes_body Start e = refl

pub takes_none : (m : Mode) → takes_braces m ≡ false → later m ≡ Header
takes_none Free e = cc
takes_none Header e = refl
takes_none Start e = cc
