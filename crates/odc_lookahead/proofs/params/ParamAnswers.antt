-- One parameter: with its names, its type and its default, or a type alone.
use Rattle.std.proofs.Common.{◌≡◌, ℕ, ◌*◌, ◌≤◌, max, true, false, List, [], ◌∷◌, ◌++◌, length, refl, sym, ◌∙◌, ap, subst, arith}
use Rattle.odc_syntax.specs.declared.token.Token.{Token}
use Rattle.odc_syntax.specs.declared.token.TokenKind.{TokenKind}
use Rattle.odc_syntax.specs.declared.token.TokenKind.TheVariants as kind
use Rattle.odc_syntax.specs.declared.grammar.Mode.TheVariants.{Free}
use Rattle.odc_syntax.specs.declared.grammar.Level.TheVariants.{Or}
use Rattle.odc_syntax.specs.declared.grammar.Use.{Use}
use Rattle.odc_syntax.specs.declared.grammar.Use.TheVariants.{Parameter}
use Rattle.odc_syntax.specs.Tree.{Type_, type, Param, MaybeExpr, Expr}
use Rattle.odc_syntax.specs.Tree as tree
use Rattle.odc_syntax.specs.Grammar.{Sym, tok, Rule, type_}
use Rattle.odc_syntax.specs.Grammar as g
use Rattle.odc_syntax.specs.Derives.{Reach, here, read, write, StartsWithout}
use Rattle.odc_lookahead.specs.declared.stop.Stop.{Stop}
use Rattle.odc_lookahead.specs.Exact.{size, Clear, Part, one, then_, behind, Exact, Yes, Found}
use Rattle.odc_lookahead.specs.Read.{refused}
use Rattle.odc_lookahead.specs.Sets.{starts_type, continues, continues_argument, nothing_continues}
use Rattle.odc_lookahead.specs.TypeParts.{names_line, typed_line}
use Rattle.odc_lookahead.proofs.reading.Opening.{reach_opens}
use Rattle.odc_lookahead.proofs.reading.Reaching.{behind_token, behind_part}
use Rattle.odc_lookahead.proofs.reading.Leading.{same_depth, Pending, Led, led_part, first_is, without, at_rest}
use Rattle.odc_lookahead.proofs.reading.Answering.{Stepped, led_start, led_step, led_rest, led_rest_refused, part_refused, answer_is, wider_exact}
use Rattle.odc_lookahead.proofs.expr.SuffixAnswers.{nothing_clear}
use Rattle.odc_lookahead.proofs.reading.LineLemmas.{led_whole, led_behind, behind_refused}
use Rattle.odc_lookahead.proofs.types.FieldAnswers.{narrow}
use Rattle.odc_lookahead.proofs.reading.Samples as sample

-- a type alone
abbrev pub bare : Type_ → Param
bare ty = tree.param false [] (tree.of_type ty) tree.no_expr

bare_by : {u : Use} {c : ℕ} {w : Param} {p : List Sym} (rule : Rule (g.bare_param u c w) p) (ts : List Token) (s s' : List Sym) (ts' : List Token) → Reach s' ts' (p ++ s) ts → Pending (λ n. n) (one (type_ u)) bare 0 ts c w s s' ts'
bare_by (g.bare_type {b = b} {ty = ty}) ts s s' ts' r = record { at = b; value = ty; bound = refl; whole = refl; deep = omega arith; reach = r }

bare_led : (u : Use) (b : ℕ) (ts : List Token) → Led (one (g.bare_param u)) nothing_continues (λ n. n) b ts (one (type_ u)) bare 0 ts
bare_led u b ts = led_start b (one (type_ u)) bare sample.type (λ c v. tt) (λ c v. g.bare_type) (λ c w p rule s s' ts' r h clear. bare_by rule ts s s' ts' r)

pub bare_refused : (u : Use) (b : ℕ) (ts : List Token) (stop : Stop) → Exact (one (type_ u)) nothing_continues b ts (refused stop) → Exact (one (g.bare_param u)) nothing_continues b ts (refused stop)
bare_refused u b ts stop h = led_rest_refused stop same_depth (bare_led u b ts) (omega arith) h

pub bare_answer : (u : Use) (b : ℕ) (ts : List Token) (ty : Type_) (n : ℕ) (rest : List Token) (w : Param) → Found (one (type_ u)) nothing_continues b ts ty n rest → w ≡ bare ty → Found (one (g.bare_param u)) nothing_continues b ts w n rest
bare_answer u b ts ty n rest w found made = answer_is (sym made) (omega arith) (led_rest same_depth (bare_led u b ts) (omega arith) found)

-- what stands behind the names and their colon
pub data Given : Type 0 where
  typed : (ty : Type_) (d : MaybeExpr) → Given
  as_typeid : (t : Token) (d : MaybeExpr) → Given
  inferred : (t : Token) (e : Expr) → Given

unfoldable pub given_line : Use → Part Given
given_line u c (typed ty d) = type_ u c ty ∷ g.given c d ∷ []
given_line u c (as_typeid t d) = tok kind.Typeid t ∷ g.given c d ∷ []
given_line u c (inferred t e) = tok kind.Assign t ∷ g.expression Free c e ∷ []

abbrev pub plain_param : List Token → Given → Param
plain_param ns (typed ty d) = tree.param false ns (tree.of_type ty) d
plain_param ns (as_typeid t d) = tree.param false ns tree.typeid d
plain_param ns (inferred t e) = tree.param false ns tree.inferred (tree.some_expr e)

abbrev Line : Type 0
Line = (List Token × (Token × Unit {0})) × Given

plain_by : {u : Use} {c : ℕ} {w : Param} {p : List Sym} (rule : Rule (g.named_param u c w) p) (ts : List Token) → (u ≡ Parameter → StartsWithout kind.Dollar ts) → (s s' : List Sym) (ts' : List Token) → Reach s' ts' (p ++ s) ts → size s' ts' ≤ 2 * length ts →
    Pending {U = Line} (λ n. n) (behind names_line (given_line u)) (λ v. plain_param v.0.0 v.1) 0 ts c w s s' ts'
unfolding behind given_line
plain_by (g.named_typed {b = b} {ns = ns} {c = k} {ty = ty} {d = d}) ts none s s' ts' r h = record { at = b; value = ((ns, (k, tt)), typed ty d); bound = refl; whole = refl; deep = omega arith; reach = r }
plain_by (g.named_typeid {b = b} {ns = ns} {c = k} {t = t} {d = d}) ts none s s' ts' r h = record { at = b; value = ((ns, (k, tt)), as_typeid t d); bound = refl; whole = refl; deep = omega arith; reach = r }
plain_by (g.named_inferred {b = b} {ns = ns} {c = k} {t = t} {e = e}) ts none s s' ts' r h = record { at = b; value = ((ns, (k, tt)), inferred t e); bound = refl; whole = refl; deep = omega arith; reach = r }
plain_by g.dollar_typeid ts none s s' ts' r h = let z = behind_token r h in absurd (without kind.Dollar _ _ ts z.is z.kind (none refl))
plain_by g.dollar_int ts none s s' ts' r h = let z = behind_token r h in absurd (without kind.Dollar _ _ ts z.is z.kind (none refl))

plain_write : (u : Use) (c : ℕ) (ns : List Token) (k : Token) (v : Given) (ts : List Token) (s : List Sym) → Reach ((behind names_line (given_line u)) c ((ns, (k, tt)), v) ++ s) ts (g.named_param u c (plain_param ns v) ∷ s) ts
unfolding behind given_line
plain_write u c ns k (typed ty d) ts s = write _ (g.named_typed {c = k}) here
plain_write u c ns k (as_typeid t d) ts s = write _ (g.named_typeid {c = k} {t = t}) here
plain_write u c ns k (inferred t e) ts s = write _ (g.named_inferred {c = k} {t = t}) here

plain_led : (u : Use) (b : ℕ) (ts : List Token) → (u ≡ Parameter → StartsWithout kind.Dollar ts) → Led (one (g.named_param u)) continues_argument (λ n. n) b ts (behind names_line (given_line u)) (λ v. plain_param v.0.0 v.1) 0 ts
plain_led u b ts none = record {
  short = omega arith;
  sample = ((sample.token ∷ [], (sample.token, tt)), typed sample.type tree.no_expr);
  comes = record { at = λ c h. record { value = tree.param false [] tree.typeid tree.no_expr; before = λ s. record { pending = _; rest = ts; rest_is = refl; reach = here } } };
  reads = λ c v h s. plain_write u c v.0.0 v.0.1.0 v.1 ts s;
  only = λ c w s s' ts' clear r h. let z = behind_part tt r h in plain_by z.rule ts none s s' ts' z.reach h;
}

given_clear : (u : Use) (c : ℕ) (v : Given) (s : List Sym) → Clear nothing_continues (given_line u c v ++ s)
given_clear u c v s = nothing_clear (given_line u c v ++ s)

pub param_unnamed : (u : Use) (b : ℕ) (ts : List Token) (stop : Stop) → (u ≡ Parameter → StartsWithout kind.Dollar ts) → Exact names_line nothing_continues b ts (refused stop) → Exact (one (g.named_param u)) continues_argument b ts (refused stop)
param_unnamed u b ts stop none h = behind_refused nothing_continues names_line (given_line u) stop same_depth (plain_led u b ts none) (omega arith) h (given_clear u)

-- the names and the colon are read
abbrev pub PlainAt : Use → ℕ → List Token → List Token → List Token → Type 0
PlainAt u b ts ns after = Led (one (g.named_param u)) continues_argument (λ n. n) b ts (given_line u) (plain_param ns) 0 after

pub param_named : (u : Use) (b : ℕ) (ts ns : List Token) (k : Token) (after : List Token) → (u ≡ Parameter → StartsWithout kind.Dollar ts) → Found names_line nothing_continues b ts (ns, (k, tt)) 0 after → PlainAt u b ts ns after
param_named u b ts ns k after none found = led_behind same_depth (plain_led u b ts none) (omega arith) found (given_clear u)

not_type : (u : Use) (k m : TokenKind) → k ≡ m → starts_type u m ≡ false → starts_type u k ≡ true → ⊥
not_type u k m e none on = let bad : false ≡ true = sym none ∙ sym (ap (starts_type u) e) ∙ on in cc

-- `typeid`
typeid_by : (u : Use) (t : Token) (us : List Token) → t.kind ≡ kind.Typeid → (c : ℕ) (v : Given) (s s' : List Sym) (ts' : List Token) → Reach s' ts' (given_line u c v ++ s) (t ∷ us) → size s' ts' ≤ 2 * length us → Stepped (one g.given) (as_typeid t) c v s s' ts' us
unfolding given_line
typeid_by u t us e c (as_typeid k d) s s' ts' r h = let z = behind_token r (omega (arith, h)) in record { by = d; is = ap (λ (t : Token). as_typeid t d) (first_is z.is); reach = at_rest z }
typeid_by u t us e c (typed ty d) s s' ts' r h = absurd (not_type u t.kind kind.Typeid e refl (reach_opens r (omega (arith, h))))
typeid_by u t us e c (inferred k x) s s' ts' r h = let bad : t.kind ≡ kind.Assign = reach_opens r (omega (arith, h)) in cc

typeid_led : (u : Use) (b : ℕ) (ts ns : List Token) (t : Token) (us : List Token) → PlainAt u b ts ns (t ∷ us) → t.kind ≡ kind.Typeid → Led (one (g.named_param u)) continues_argument (λ n. n) b ts (one g.given) (λ d. tree.param false ns tree.typeid d) 0 us
unfolding given_line
typeid_led u b ts ns t us led e =
    led_step us (one g.given) (as_typeid t) tree.no_expr same_depth (omega arith) (omega arith) (λ c v s. read e here) (λ c v s s' ts' clear r h. typeid_by u t us e c v s s' ts' r h) led

typeid_at : (u : Use) (b : ℕ) (ts ns after : List Token) (t : Token) (us : List Token) → PlainAt u b ts ns after → after ≡ t ∷ us → t.kind ≡ kind.Typeid → Led (one (g.named_param u)) continues_argument (λ n. n) b ts (one g.given) (λ d. tree.param false ns tree.typeid d) 0 us
typeid_at u b ts ns after t us led is e = typeid_led u b ts ns t us (subst (λ (l : List Token). PlainAt u b ts ns l) is led) e

pub typeid_refused : (u : Use) (b : ℕ) (ts ns after : List Token) (t : Token) (us : List Token) (stop : Stop) → PlainAt u b ts ns after → after ≡ t ∷ us → t.kind ≡ kind.Typeid → Exact (one g.given) continues_argument b us (refused stop) →
    Exact (one (g.named_param u)) continues_argument b ts (refused stop)
typeid_refused u b ts ns after t us stop led is e h = led_rest_refused stop same_depth (typeid_at u b ts ns after t us led is e) (omega arith) h

pub typeid_answer : (u : Use) (b : ℕ) (ts ns after : List Token) (t : Token) (us : List Token) (d : MaybeExpr) (n : ℕ) (rest : List Token) (w : Param) → PlainAt u b ts ns after → after ≡ t ∷ us → t.kind ≡ kind.Typeid →
    Found (one g.given) continues_argument b us d n rest → w ≡ tree.param false ns tree.typeid d → Found (one (g.named_param u)) continues_argument b ts w n rest
typeid_answer u b ts ns after t us d n rest w led is e found made = answer_is (sym made) (omega arith) (led_rest same_depth (typeid_at u b ts ns after t us led is e) (omega arith) found)

-- `=`, and the type is that of the default
inferred_by : (u : Use) (t : Token) (us : List Token) → t.kind ≡ kind.Assign → (c : ℕ) (v : Given) (s s' : List Sym) (ts' : List Token) → Reach s' ts' (given_line u c v ++ s) (t ∷ us) → size s' ts' ≤ 2 * length us →
    Stepped (one (g.expression Free)) (inferred t) c v s s' ts' us
unfolding given_line
inferred_by u t us e c (inferred k x) s s' ts' r h = let z = behind_token r (omega (arith, h)) in record { by = x; is = ap (λ (t : Token). inferred t x) (first_is z.is); reach = at_rest z }
inferred_by u t us e c (typed ty d) s s' ts' r h = absurd (not_type u t.kind kind.Assign e refl (reach_opens r (omega (arith, h))))
inferred_by u t us e c (as_typeid k d) s s' ts' r h = let bad : t.kind ≡ kind.Typeid = reach_opens r (omega (arith, h)) in cc

inferred_led : (u : Use) (b : ℕ) (ts ns : List Token) (t : Token) (us : List Token) → PlainAt u b ts ns (t ∷ us) → t.kind ≡ kind.Assign →
    Led (one (g.named_param u)) continues_argument (λ n. n) b ts (one (g.expression Free)) (λ e. tree.param false ns tree.inferred (tree.some_expr e)) 0 us
unfolding given_line
inferred_led u b ts ns t us led e =
    led_step us (one (g.expression Free)) (inferred t) sample.expr same_depth (omega arith) (omega arith) (λ c v s. read e here) (λ c v s s' ts' clear r h. inferred_by u t us e c v s s' ts' r h) led

inferred_at : (u : Use) (b : ℕ) (ts ns after : List Token) (t : Token) (us : List Token) → PlainAt u b ts ns after → after ≡ t ∷ us → t.kind ≡ kind.Assign →
    Led (one (g.named_param u)) continues_argument (λ n. n) b ts (one (g.expression Free)) (λ e. tree.param false ns tree.inferred (tree.some_expr e)) 0 us
inferred_at u b ts ns after t us led is e = inferred_led u b ts ns t us (subst (λ (l : List Token). PlainAt u b ts ns l) is led) e

pub inferred_refused : (u : Use) (b : ℕ) (ts ns after : List Token) (t : Token) (us : List Token) (stop : Stop) → PlainAt u b ts ns after → after ≡ t ∷ us → t.kind ≡ kind.Assign → Exact (one (g.expression Free)) (continues Or Free) b us (refused stop) →
    Exact (one (g.named_param u)) continues_argument b ts (refused stop)
inferred_refused u b ts ns after t us stop led is e h =
    led_rest_refused stop same_depth (inferred_at u b ts ns after t us led is e) (omega arith) (wider_exact (one (g.expression Free)) b us (refused stop) (λ s clear. narrow clear) h)

pub inferred_answer : (u : Use) (b : ℕ) (ts ns after : List Token) (t : Token) (us : List Token) (x : Expr) (n : ℕ) (rest : List Token) (w : Param) → PlainAt u b ts ns after → after ≡ t ∷ us → t.kind ≡ kind.Assign →
    Found (one (g.expression Free)) (continues Or Free) b us x n rest → w ≡ tree.param false ns tree.inferred (tree.some_expr x) → Found (one (g.named_param u)) continues_argument b ts w n rest
inferred_answer u b ts ns after t us x n rest w led is e found made =
    let wide = wider_exact (one (g.expression Free)) b us (Yes x n rest) (λ s clear. narrow clear) found in
    answer_is (sym made) (omega arith) (led_rest same_depth (inferred_at u b ts ns after t us led is e) (omega arith) wide)

-- a type, and what the names are given by default
typed_whole : (u : Use) (b : ℕ) (ts : List Token) → Led (typed_line u) continues_argument (λ n. n) b ts (then_ (type_ u) (one g.given)) (λ v. v) 0 ts
unfolding then_
typed_whole u b ts = led_whole (typed_line u) continues_argument b ts (sample.type, tree.no_expr)

pub type_refused : (u : Use) (b : ℕ) (ts : List Token) (stop : Stop) → Exact (one (type_ u)) nothing_continues b ts (refused stop) → Exact (typed_line u) continues_argument b ts (refused stop)
type_refused u b ts stop h = part_refused (type_ u) nothing_continues (one g.given) stop same_depth (typed_whole u b ts) (omega arith) h (λ c v s clear. nothing_clear (one g.given c v ++ s))

type_read : (u : Use) (b : ℕ) (ts : List Token) (ty : Type_) (n : ℕ) (rest : List Token) → Found (one (type_ u)) nothing_continues b ts ty n rest → Led (typed_line u) continues_argument (λ n. n) b ts (one g.given) (λ d. (ty, d)) (max 0 n) rest
type_read u b ts ty n rest found = led_part same_depth (typed_whole u b ts) (omega arith) found (λ c v s clear. nothing_clear (one g.given c v ++ s))

pub default_refused : (u : Use) (b : ℕ) (ts : List Token) (ty : Type_) (n : ℕ) (rest : List Token) (stop : Stop) → Found (one (type_ u)) nothing_continues b ts ty n rest → n ≤ b → Exact (one g.given) continues_argument b rest (refused stop) →
    Exact (typed_line u) continues_argument b ts (refused stop)
default_refused u b ts ty n rest stop found within h = led_rest_refused stop same_depth (type_read u b ts ty n rest found) (omega (arith, within)) h

pub default_answer : (u : Use) (b : ℕ) (ts : List Token) (ty : Type_) (n : ℕ) (rest : List Token) (d : MaybeExpr) (m : ℕ) (last : List Token) (top : ℕ) → Found (one (type_ u)) nothing_continues b ts ty n rest → n ≤ b → Found (one g.given) continues_argument b rest d m last →
    top ≡ max n m → Found (typed_line u) continues_argument b ts (ty, d) top last
default_answer u b ts ty n rest d m last top found within default high = answer_is refl (omega (arith, high)) (led_rest same_depth (type_read u b ts ty n rest found) (omega (arith, within)) default)

typed_by : (u : Use) (ts : List Token) → StartsWithout kind.Typeid ts → StartsWithout kind.Assign ts → (c : ℕ) (v : Given) (s s' : List Sym) (ts' : List Token) → Reach s' ts' (given_line u c v ++ s) ts → size s' ts' ≤ 2 * length ts →
    Stepped (typed_line u) (λ v. typed v.0 v.1) c v s s' ts' ts
unfolding given_line then_
typed_by u ts f o c (typed ty d) s s' ts' r h = record { by = (ty, d); is = refl; reach = r }
typed_by u ts f o c (as_typeid k d) s s' ts' r h = let z = behind_token r h in absurd (without kind.Typeid _ _ ts z.is z.kind f)
typed_by u ts f o c (inferred k x) s s' ts' r h = let z = behind_token r h in absurd (without kind.Assign _ _ ts z.is z.kind o)

typed_led : (u : Use) (b : ℕ) (ts ns after : List Token) → PlainAt u b ts ns after → StartsWithout kind.Typeid after → StartsWithout kind.Assign after →
    Led (one (g.named_param u)) continues_argument (λ n. n) b ts (typed_line u) (λ v. tree.param false ns (tree.of_type v.0) v.1) 0 after
unfolding given_line then_
typed_led u b ts ns after led f o =
    led_step after (typed_line u) (λ v. typed v.0 v.1) (sample.type, tree.no_expr) same_depth (omega arith) (omega arith) (λ c v s. here) (λ c v s s' ts' clear r h. typed_by u after f o c v s s' ts' r h) led

pub typed_refused : (u : Use) (b : ℕ) (ts ns after : List Token) (stop : Stop) → PlainAt u b ts ns after → StartsWithout kind.Typeid after → StartsWithout kind.Assign after → Exact (typed_line u) continues_argument b after (refused stop) →
    Exact (one (g.named_param u)) continues_argument b ts (refused stop)
typed_refused u b ts ns after stop led f o h = led_rest_refused stop same_depth (typed_led u b ts ns after led f o) (omega arith) h

pub typed_answer : (u : Use) (b : ℕ) (ts ns after : List Token) (v : Type_ × MaybeExpr) (n : ℕ) (rest : List Token) (w : Param) → PlainAt u b ts ns after → StartsWithout kind.Typeid after → StartsWithout kind.Assign after →
    Found (typed_line u) continues_argument b after v n rest → w ≡ tree.param false ns (tree.of_type v.0) v.1 → Found (one (g.named_param u)) continues_argument b ts w n rest
typed_answer u b ts ns after v n rest w led f o found made = answer_is (sym made) (omega arith) (led_rest same_depth (typed_led u b ts ns after led f o) (omega arith) found)
