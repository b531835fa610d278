-- Types: an answer for each way that the reading of one may end.
use Rattle.std.proofs.Common.{◌≡◌, ℕ, suc, ◌<◌, ◌≤◌, max, Bool, true, false, List, [], ◌∷◌, ◌++◌, refl, sym, subst, arith, None}
use Rattle.odc_syntax.specs.declared.token.Token.{Token}
use Rattle.odc_syntax.specs.declared.token.TokenKind.{TokenKind}
use Rattle.odc_syntax.specs.declared.token.TokenKind.TheVariants as kind
use Rattle.odc_syntax.specs.declared.token.Word.TheVariants as word
use Rattle.odc_syntax.specs.declared.grammar.Use.{Use}
use Rattle.odc_syntax.specs.declared.grammar.Use.TheVariants.{Parameter}
use Rattle.odc_syntax.specs.Tree.{Type_, type, Fields, Types, Signature, Enumerators, MaybeType}
use Rattle.odc_syntax.specs.Tree as tree
use Rattle.odc_syntax.specs.Grammar.{Sym, Rule, type_, constructed, at_end, inside}
use Rattle.odc_syntax.specs.Grammar as g
use Rattle.odc_syntax.specs.Derives.{StartsWithout}
use Rattle.odc_lookahead.specs.declared.end.End.{End}
use Rattle.odc_lookahead.specs.declared.end.End.TheVariants.{Sure}
use Rattle.odc_lookahead.specs.declared.stop.Stop.{Stop}
use Rattle.odc_lookahead.specs.declared.stop.Stop.TheVariants as stop
use Rattle.odc_lookahead.specs.Exact.{Part, one, then_, done, token, Found, Broken, Exact}
use Rattle.odc_lookahead.specs.Ends.{FoundAs, ExactAs}
use Rattle.odc_lookahead.specs.Read.{refused, NotExpected}
use Rattle.odc_lookahead.specs.Sets.{nothing_continues}
use Rattle.odc_lookahead.specs.TypeParts.{fields_line, types_line}
use Rattle.odc_lookahead.proofs.reading.Opening.{StartsWith}
use Rattle.odc_lookahead.proofs.reading.Leading.{one_deeper, Led, led_part, led_done}
use Rattle.odc_lookahead.proofs.reading.Answering.{led_rest, led_rest_refused, part_refused, token_refused, token_read, answer_is, stuck_broken}
use Rattle.odc_lookahead.proofs.expr.SuffixAnswers.{nothing_clear}
use Rattle.odc_lookahead.proofs.types.TypeLemmas.{pointer_led, distinct_led, dollar_line, dollar_led, word_proc_led, type_group_led, proc_type, proc_type_led, struct_led, union_led}
use Rattle.odc_lookahead.proofs.reading.EndLemmas.{found_as, last_as, same_as, refused_as, as_refused}
use Rattle.odc_lookahead.proofs.reading.Samples as sample
use Rattle.odc_lookahead.specs.declared.tokens.Fit.{Fit}
use Rattle.odc_lookahead.specs.declared.tokens.Fit.TheVariants as fit

-- what a function answers, in the words of its result
pub as_answer : {V : Type 0} (u : Use) (p : Part V) (cont : TokenKind → Bool) (b : ℕ) (ts : List Token) (v w : V) (n m : ℕ) (rest : List Token) (end : End) → v ≡ w → n ≡ m → FoundAs u p cont b ts v n rest end → FoundAs u p cont b ts w m rest end
as_answer {V} u p cont b ts v w n m rest end e f h = subst (λ (x : V). FoundAs u p cont b ts x m rest end) e (subst (λ (k : ℕ). FoundAs u p cont b ts v k rest end) f h)

-- the last part of a production
last_answer : {V U : Type 0} {p : Part V} {b : ℕ} {ts : List Token} {f : U → V} {rest : List Token} (u u' : Use) (g : Use → Part U) (v : U) (n : ℕ) (rest' : List Token) (end : End) (w : V) (top : ℕ) → u' ≡ at_end u →
    Led p nothing_continues (λ n. suc n) b ts (g (at_end u)) f 0 rest → FoundAs u' (g u') nothing_continues b rest v n rest' end → w ≡ f v → top ≡ suc n → FoundAs u p nothing_continues (suc b) ts w top rest' end
last_answer {p = p} {b = b} {ts = ts} {f = f} {rest = rest} u u' g v n rest' end w top same led found made high =
    let at_last : FoundAs (at_end u) (g (at_end u)) nothing_continues b rest v n rest' end = subst (λ (x : Use). FoundAs x (g x) nothing_continues b rest v n rest' end) same found in
    as_answer u p nothing_continues (suc b) ts (f v) w (suc (max 0 n)) top rest' end (sym made) (omega (arith, high)) (last_as u v n rest' end one_deeper led (omega arith) at_last)

last_refused : {V U : Type 0} {p : Part V} {b : ℕ} {ts : List Token} {f : U → V} {rest : List Token} (u u' : Use) (g : Use → Part U) (e : Stop) → u' ≡ at_end u →
    Led p nothing_continues (λ n. suc n) b ts (g (at_end u)) f 0 rest → ExactAs u' (g u') nothing_continues b rest (refused e) → ExactAs u p nothing_continues (suc b) ts (refused e)
last_refused {p = p} {b = b} {ts = ts} {rest = rest} u u' g e same led h =
    let at_last : ExactAs (at_end u) (g (at_end u)) nothing_continues b rest (refused e) = subst (λ (x : Use). ExactAs x (g x) nothing_continues b rest (refused e)) same h in
    refused_as p nothing_continues (suc b) ts u e (led_rest_refused e one_deeper led (omega arith) (as_refused (g (at_end u)) nothing_continues b rest (at_end u) e at_last))

-- what is read in a type is read to its end
inner_answer : {V U : Type 0} {p : Part V} {b : ℕ} {ts : List Token} {g : Part U} {f : U → V} {rest : List Token} (u : Use) (v : U) (n : ℕ) (rest' : List Token) (w : V) (top : ℕ) →
    Led p nothing_continues (λ n. suc n) b ts g f 0 rest → Found g nothing_continues b rest v n rest' → w ≡ f v → top ≡ suc n → FoundAs u p nothing_continues (suc b) ts w top rest' Sure
inner_answer u v n rest' w top led found made high = found_as u (answer_is (sym made) (omega (arith, high)) (led_rest one_deeper led (omega arith) found))

inner_refused : {V U : Type 0} {p : Part V} {b : ℕ} {ts : List Token} {g : Part U} {f : U → V} {rest : List Token} (u : Use) (e : Stop) →
    Led p nothing_continues (λ n. suc n) b ts g f 0 rest → Exact g nothing_continues b rest (refused e) → ExactAs u p nothing_continues (suc b) ts (refused e)
inner_refused {p = p} {b = b} {ts = ts} u e led h = refused_as p nothing_continues (suc b) ts u e (led_rest_refused e one_deeper led (omega arith) h)

abbrev type_at : Use → Part Type_
type_at u = one (type_ u)

abbrev sig_at : Use → Part Signature
sig_at u = one (g.sig u)

-- `^T`
pub pointer_answer : (u u' : Use) (b : ℕ) (t : Token) (us : List Token) (v : Type_) (n : ℕ) (rest : List Token) (end : End) (w : Type_) (top : ℕ) → u' ≡ at_end u → t.kind ≡ kind.Caret →
    FoundAs u' (one (type_ u')) nothing_continues b us v n rest end → w ≡ type t.at (tree.pointer v) → top ≡ suc n → FoundAs u (one (constructed u)) nothing_continues (suc b) (t ∷ us) w top rest end
pointer_answer u u' b t us v n rest end w top same e found made high = last_answer u u' type_at v n rest end w top same (pointer_led u b t us e) found made high

pub pointer_refused : (u u' : Use) (b : ℕ) (t : Token) (us : List Token) (stop : Stop) → u' ≡ at_end u → t.kind ≡ kind.Caret → ExactAs u' (one (type_ u')) nothing_continues b us (refused stop) →
    ExactAs u (one (constructed u)) nothing_continues (suc b) (t ∷ us) (refused stop)
pointer_refused u u' b t us stop same e h = last_refused u u' type_at stop same (pointer_led u b t us e) h

-- `distinct T`
pub distinct_answer : (u u' : Use) (b : ℕ) (t : Token) (us : List Token) (v : Type_) (n : ℕ) (rest : List Token) (end : End) (w : Type_) (top : ℕ) → u' ≡ at_end u → t.kind ≡ kind.Distinct →
    FoundAs u' (one (type_ u')) nothing_continues b us v n rest end → w ≡ type t.at (tree.distinct v) → top ≡ suc n → FoundAs u (one (constructed u)) nothing_continues (suc b) (t ∷ us) w top rest end
distinct_answer u u' b t us v n rest end w top same e found made high = last_answer u u' type_at v n rest end w top same (distinct_led u b t us e) found made high

pub distinct_refused : (u u' : Use) (b : ℕ) (t : Token) (us : List Token) (stop : Stop) → u' ≡ at_end u → t.kind ≡ kind.Distinct → ExactAs u' (one (type_ u')) nothing_continues b us (refused stop) →
    ExactAs u (one (constructed u)) nothing_continues (suc b) (t ∷ us) (refused stop)
distinct_refused u u' b t us stop same e h = last_refused u u' type_at stop same (distinct_led u b t us e) h

-- `$T`
dollar_at : (u : Use) → u ≡ Parameter → (b : ℕ) (t : Token) (us : List Token) → t.kind ≡ kind.Dollar → Led (one (constructed u)) nothing_continues (λ n. suc n) b (t ∷ us) dollar_line (λ v. type t.at (tree.dollar v.0)) 0 us
dollar_at u i b t us e = subst (λ (u : Use). Led (one (constructed u)) nothing_continues (λ n. suc n) b (t ∷ us) dollar_line (λ v. type t.at (tree.dollar v.0)) 0 us) (sym i) (dollar_led b t us e)

pub dollar_answer : (u : Use) (b : ℕ) (t n : Token) (us rest : List Token) (w : Type_) → u ≡ Parameter → t.kind ≡ kind.Dollar → us ≡ n ∷ rest → n.kind ≡ kind.Name → w ≡ type t.at (tree.dollar n) →
    FoundAs u (one (constructed u)) nothing_continues (suc b) (t ∷ us) w 1 rest Sure
dollar_answer u b t n us rest w i e is k made = found_as u (answer_is (sym made) refl (led_done one_deeper (token_read one_deeper (dollar_at u i b t us e) (omega arith) is k)))

pub dollar_refused : (u : Use) (b : ℕ) (t : Token) (us : List Token) (stop : Stop) → u ≡ Parameter → t.kind ≡ kind.Dollar → NotExpected kind.Name fit.Within us stop → ExactAs u (one (constructed u)) nothing_continues (suc b) (t ∷ us) (refused stop)
dollar_refused u b t us stop i e h = refused_as (one (constructed u)) nothing_continues (suc b) (t ∷ us) u stop (token_refused kind.Name done stop fit.Within one_deeper (dollar_at u i b t us e) (λ bad. cc) h)

-- a procedure's type
same_answer : {V U : Type 0} {p : Part V} {q : Part U} {b : ℕ} {ts : List Token} {f : U → V} {rest : List Token} (u : Use) (v : U) (n : ℕ) (rest' : List Token) (end : End) (w : V) (top : ℕ) →
    Led p nothing_continues (λ n. suc n) b ts q f 0 rest → FoundAs u q nothing_continues b rest v n rest' end → w ≡ f v → top ≡ suc n → FoundAs u p nothing_continues (suc b) ts w top rest' end
same_answer {p = p} {b = b} {ts = ts} {f = f} u v n rest' end w top led found made high =
    as_answer u p nothing_continues (suc b) ts (f v) w (suc (max 0 n)) top rest' end (sym made) (omega (arith, high)) (same_as u v n rest' end one_deeper led (omega arith) found)

same_refused : {V U : Type 0} {p : Part V} {q : Part U} {b : ℕ} {ts : List Token} {f : U → V} {rest : List Token} (u : Use) (e : Stop) →
    Led p nothing_continues (λ n. suc n) b ts q f 0 rest → ExactAs u q nothing_continues b rest (refused e) → ExactAs u p nothing_continues (suc b) ts (refused e)
same_refused {p = p} {q = q} {b = b} {ts = ts} {rest = rest} u e led h =
    refused_as p nothing_continues (suc b) ts u e (led_rest_refused e one_deeper led (omega arith) (as_refused q nothing_continues b rest u e h))

pub proc_answer : (u : Use) (b : ℕ) (t : Token) (us : List Token) (v : Signature) (n : ℕ) (rest : List Token) (end : End) (w : Type_) (top : ℕ) → t.kind ≡ kind.Proc →
    FoundAs u (one (g.sig u)) nothing_continues b (t ∷ us) v n rest end → w ≡ proc_type v → top ≡ suc n → FoundAs u (one (type_ u)) nothing_continues (suc b) (t ∷ us) w top rest end
proc_answer u b t us v n rest end w top e found made high = same_answer u v n rest end w top (proc_type_led u b t us e) found made high

pub proc_refused : (u : Use) (b : ℕ) (t : Token) (us : List Token) (stop : Stop) → t.kind ≡ kind.Proc → ExactAs u (one (g.sig u)) nothing_continues b (t ∷ us) (refused stop) →
    ExactAs u (one (type_ u)) nothing_continues (suc b) (t ∷ us) (refused stop)
proc_refused u b t us stop e h = same_refused u stop (proc_type_led u b t us e) h

-- `#type` before one
pub word_answer : (u : Use) (b : ℕ) (t k : Token) (us vs : List Token) (v : Signature) (n : ℕ) (rest : List Token) (end : End) (w : Type_) (top : ℕ) → (t.kind ≡ kind.Directive) × (t.word ≡ word.Type) → us ≡ k ∷ vs →
    FoundAs u (one (g.sig u)) nothing_continues b (k ∷ vs) v n rest end → w ≡ type t.at (tree.proc v) → top ≡ suc n → FoundAs u (one (constructed u)) nothing_continues (suc b) (t ∷ us) w top rest end
word_answer u b t k us vs v n rest end w top e is found made high =
    let at_rest : FoundAs u (one (g.sig u)) nothing_continues b us v n rest end = subst (λ (l : List Token). FoundAs u (one (g.sig u)) nothing_continues b l v n rest end) (sym is) found in
    same_answer u v n rest end w top (word_proc_led u b t us e.0 e.1) at_rest made high

pub word_refused : (u : Use) (b : ℕ) (t k : Token) (us vs : List Token) (stop : Stop) → (t.kind ≡ kind.Directive) × (t.word ≡ word.Type) → us ≡ k ∷ vs → ExactAs u (one (g.sig u)) nothing_continues b (k ∷ vs) (refused stop) →
    ExactAs u (one (constructed u)) nothing_continues (suc b) (t ∷ us) (refused stop)
word_refused u b t k us vs stop e is h =
    let at_rest : ExactAs u (one (g.sig u)) nothing_continues b us (refused stop) = subst (λ (l : List Token). ExactAs u (one (g.sig u)) nothing_continues b l (refused stop)) (sym is) h in
    same_refused u stop (word_proc_led u b t us e.0 e.1) at_rest

no_proc : (ts : List Token) → StartsWithout kind.Proc ts → StartsWith kind.Proc ts → ⊥
no_proc [] none on = on
no_proc (t ∷ ts) none on = none on

proc_missing : (u : Use) (b : ℕ) (us : List Token) (stop : Stop) → NotExpected kind.Proc fit.Within us stop → Exact (one (g.sig u)) nothing_continues b us (refused stop)
proc_missing u b us (stop.Syntax left) h =
    subst (λ (k : ℕ). Broken (one (g.sig u)) nothing_continues b us k) (sym h.0)
    (stuck_broken (g.sig u) (tree.signature sample.place None tree.no_params tree.no_results) (λ c v opens. no_proc us h.1 opens))
proc_missing u b us (stop.Deep left) h = let bad : fit.Within ≡ fit.Over = h.over in cc
proc_missing u b us stop.Memory h = elim h [ ]

pub word_missing : (u : Use) (b : ℕ) (t : Token) (us : List Token) (stop : Stop) → (t.kind ≡ kind.Directive) × (t.word ≡ word.Type) → NotExpected kind.Proc fit.Within us stop → ExactAs u (one (constructed u)) nothing_continues (suc b) (t ∷ us) (refused stop)
word_missing u b t us stop e h = inner_refused u stop (word_proc_led u b t us e.0 e.1) (proc_missing u b us stop h)

-- a type in parentheses
pub group_type_refused : (u : Use) (b : ℕ) (t : Token) (us : List Token) (stop : Stop) → t.kind ≡ kind.OpenParen → Exact (one (type_ (inside u))) nothing_continues b us (refused stop) → ExactAs u (one (type_ u)) nothing_continues (suc b) (t ∷ us) (refused stop)
group_type_refused u b t us stop e h =
    refused_as (one (type_ u)) nothing_continues (suc b) (t ∷ us) u stop
    (part_refused (type_ (inside u)) nothing_continues (then_ (token kind.CloseParen) done) stop one_deeper (type_group_led u b t us e) (omega arith) h (λ c v s clear. nothing_clear (then_ (token kind.CloseParen) done c v ++ s)))

group_type_read : (u : Use) (b : ℕ) (t : Token) (us : List Token) (v : Type_) (n : ℕ) (after : List Token) → t.kind ≡ kind.OpenParen → Found (one (type_ (inside u))) nothing_continues b us v n after →
    Led (one (type_ u)) nothing_continues (λ n. suc n) b (t ∷ us) (then_ (token kind.CloseParen) done) (λ x. v) (max 0 n) after
group_type_read u b t us v n after e found = led_part one_deeper (type_group_led u b t us e) (omega arith) found (λ c v s clear. nothing_clear (then_ (token kind.CloseParen) done c v ++ s))

pub group_type_unclosed : (u : Use) (b : ℕ) (t : Token) (us : List Token) (v : Type_) (n : ℕ) (after : List Token) (stop : Stop) (within : Fit) → t.kind ≡ kind.OpenParen → Found (one (type_ (inside u))) nothing_continues b us v n after →
    (within ≡ fit.Over → b < n) → NotExpected kind.CloseParen within after stop → ExactAs u (one (type_ u)) nothing_continues (suc b) (t ∷ us) (refused stop)
group_type_unclosed u b t us v n after stop within e found over h =
    refused_as (one (type_ u)) nothing_continues (suc b) (t ∷ us) u stop (token_refused kind.CloseParen done stop within one_deeper (group_type_read u b t us v n after e found) (λ a. let k = over a in omega (arith, k)) h)

pub group_type_answer : (u : Use) (b : ℕ) (t c : Token) (us : List Token) (v : Type_) (n top : ℕ) (after rest : List Token) → t.kind ≡ kind.OpenParen → Found (one (type_ (inside u))) nothing_continues b us v n after → n ≤ b →
    after ≡ c ∷ rest → c.kind ≡ kind.CloseParen → top ≡ suc n → FoundAs u (one (type_ u)) nothing_continues (suc b) (t ∷ us) v top rest Sure
group_type_answer u b t c us v n top after rest e found within is closes high =
    found_as u (answer_is refl (omega (arith, high)) (led_done one_deeper (token_read one_deeper (group_type_read u b t us v n after e found) (omega (arith, within)) is closes)))

-- `struct {..}`
pub struct_unopened : (u : Use) (b : ℕ) (t : Token) (us : List Token) (stop : Stop) → t.kind ≡ kind.Struct → NotExpected kind.OpenBrace fit.Within us stop → ExactAs u (one (constructed u)) nothing_continues (suc b) (t ∷ us) (refused stop)
struct_unopened u b t us stop e h =
    refused_as (one (constructed u)) nothing_continues (suc b) (t ∷ us) u stop (token_refused kind.OpenBrace (fields_line (inside u)) stop fit.Within one_deeper (struct_led u b t us e) (λ bad. cc) h)

struct_opened : (u : Use) (b : ℕ) (t o : Token) (us vs : List Token) → t.kind ≡ kind.Struct → us ≡ o ∷ vs → o.kind ≡ kind.OpenBrace →
    Led (one (constructed u)) nothing_continues (λ n. suc n) b (t ∷ us) (fields_line (inside u)) (λ v. type t.at (tree.struct v.0)) 0 vs
struct_opened u b t o us vs e is k = token_read one_deeper (struct_led u b t us e) (omega arith) is k

pub struct_refused : (u : Use) (b : ℕ) (t o : Token) (us vs : List Token) (stop : Stop) → t.kind ≡ kind.Struct → us ≡ o ∷ vs → o.kind ≡ kind.OpenBrace → Exact (fields_line (inside u)) nothing_continues b vs (refused stop) →
    ExactAs u (one (constructed u)) nothing_continues (suc b) (t ∷ us) (refused stop)
struct_refused u b t o us vs stop e is k h = inner_refused u stop (struct_opened u b t o us vs e is k) h

pub struct_answer : (u : Use) (b : ℕ) (t o : Token) (us vs : List Token) (v : Fields × (Token × Unit {0})) (n : ℕ) (rest : List Token) (w : Type_) (top : ℕ) → t.kind ≡ kind.Struct → us ≡ o ∷ vs → o.kind ≡ kind.OpenBrace →
    Found (fields_line (inside u)) nothing_continues b vs v n rest → w ≡ type t.at (tree.struct v.0) → top ≡ suc n → FoundAs u (one (constructed u)) nothing_continues (suc b) (t ∷ us) w top rest Sure
struct_answer u b t o us vs v n rest w top e is k found made high = inner_answer u v n rest w top (struct_opened u b t o us vs e is k) found made high

-- `union {..}`
pub union_unopened : (u : Use) (b : ℕ) (t : Token) (us : List Token) (stop : Stop) → t.kind ≡ kind.Union → NotExpected kind.OpenBrace fit.Within us stop → ExactAs u (one (constructed u)) nothing_continues (suc b) (t ∷ us) (refused stop)
union_unopened u b t us stop e h =
    refused_as (one (constructed u)) nothing_continues (suc b) (t ∷ us) u stop (token_refused kind.OpenBrace (types_line (inside u)) stop fit.Within one_deeper (union_led u b t us e) (λ bad. cc) h)

union_opened : (u : Use) (b : ℕ) (t o : Token) (us vs : List Token) → t.kind ≡ kind.Union → us ≡ o ∷ vs → o.kind ≡ kind.OpenBrace →
    Led (one (constructed u)) nothing_continues (λ n. suc n) b (t ∷ us) (types_line (inside u)) (λ v. type t.at (tree.union v.0)) 0 vs
union_opened u b t o us vs e is k = token_read one_deeper (union_led u b t us e) (omega arith) is k

pub union_refused : (u : Use) (b : ℕ) (t o : Token) (us vs : List Token) (stop : Stop) → t.kind ≡ kind.Union → us ≡ o ∷ vs → o.kind ≡ kind.OpenBrace → Exact (types_line (inside u)) nothing_continues b vs (refused stop) →
    ExactAs u (one (constructed u)) nothing_continues (suc b) (t ∷ us) (refused stop)
union_refused u b t o us vs stop e is k h = inner_refused u stop (union_opened u b t o us vs e is k) h

pub union_answer : (u : Use) (b : ℕ) (t o : Token) (us vs : List Token) (v : Types × (Token × Unit {0})) (n : ℕ) (rest : List Token) (w : Type_) (top : ℕ) → t.kind ≡ kind.Union → us ≡ o ∷ vs → o.kind ≡ kind.OpenBrace →
    Found (types_line (inside u)) nothing_continues b vs v n rest → w ≡ type t.at (tree.union v.0) → top ≡ suc n → FoundAs u (one (constructed u)) nothing_continues (suc b) (t ∷ us) w top rest Sure
union_answer u b t o us vs v n rest w top e is k found made high = inner_answer u v n rest w top (union_opened u b t o us vs e is k) found made high
