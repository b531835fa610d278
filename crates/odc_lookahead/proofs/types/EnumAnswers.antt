-- Enums: the type that may stand before the brace, and an answer for each way that the reading may end.
use Rattle.std.proofs.Common.{◌≡◌, ℕ, suc, ◌*◌, ◌<◌, ◌≤◌, max, Bool, true, false, List, [], ◌∷◌, ◌++◌, length, refl, sym, ◌∙◌, ap, subst, arith}
use Rattle.odc_syntax.specs.declared.token.Token.{Token}
use Rattle.odc_syntax.specs.declared.token.TokenKind.{TokenKind}
use Rattle.odc_syntax.specs.declared.token.TokenKind.TheVariants as kind
use Rattle.odc_syntax.specs.declared.grammar.Use.{Use}
use Rattle.odc_syntax.specs.Tree.{Type_, type, MaybeType, Enumerators}
use Rattle.odc_syntax.specs.Tree as tree
use Rattle.odc_syntax.specs.Grammar.{Sym, tok, Rule, type_, constructed, inside}
use Rattle.odc_syntax.specs.Grammar as g
use Rattle.odc_syntax.specs.Derives.{Reach, here, read, write, StartsWithout}
use Rattle.odc_lookahead.specs.declared.end.End.TheVariants.{Sure}
use Rattle.odc_lookahead.specs.declared.stop.Stop.{Stop}
use Rattle.odc_lookahead.specs.Exact.{size, Clear, Part, one, then_, done, token, behind, Exact, Found}
use Rattle.odc_lookahead.specs.Ends.{FoundAs, ExactAs}
use Rattle.odc_lookahead.specs.Read.{refused, NotExpected}
use Rattle.odc_lookahead.specs.Sets.{starts_type, nothing_continues}
use Rattle.odc_lookahead.specs.TypeParts.{base_line, enumerators_line}
use Rattle.odc_lookahead.proofs.reading.Opening.{reach_opens}
use Rattle.odc_lookahead.proofs.reading.Reaching.{behind_token, behind_part}
use Rattle.odc_lookahead.proofs.reading.Leading.{one_deeper, same_depth, Led, led_part, led_done, first_is, without, at_rest}
use Rattle.odc_lookahead.proofs.reading.Answering.{Stepped, led_step, led_rest, led_rest_refused, part_refused, token_refused, token_read, answer_is}
use Rattle.odc_lookahead.proofs.expr.SuffixAnswers.{nothing_clear}
use Rattle.odc_lookahead.proofs.reading.LineLemmas.{led_whole, led_behind, behind_refused}
use Rattle.odc_lookahead.proofs.reading.EndLemmas.{found_as, refused_as}
use Rattle.odc_lookahead.proofs.types.TypeLemmas.{enum_led}
use Rattle.odc_lookahead.proofs.reading.Samples as sample
use Rattle.odc_lookahead.specs.declared.tokens.Fit.{Fit}
use Rattle.odc_lookahead.specs.declared.tokens.Fit.TheVariants as fit

abbrev Base : Type 0
Base = MaybeType × (Token × Unit {0})

abbrev opening : Part (Token × Unit {0})
opening = then_ (token kind.OpenBrace) done

base_start : (u : Use) (b : ℕ) (ts : List Token) → Led (base_line u) nothing_continues (λ n. n) b ts (base_line u) (λ v. v) 0 ts
base_start u b ts = led_whole (base_line u) nothing_continues b ts (tree.no_type, (sample.token, tt))

not_type : (u : Use) (k m : TokenKind) → k ≡ m → starts_type u m ≡ false → starts_type u k ≡ true → ⊥
not_type u k m e none on = let bad : false ≡ true = sym none ∙ sym (ap (starts_type u) e) ∙ on in cc

-- none
none_by : {u : Use} {c : ℕ} {n : MaybeType} {p : List Sym} (rule : Rule (g.maybe_type u c n) p) (t k : Token) (us : List Token) → t.kind ≡ kind.OpenBrace → (s s' : List Sym) (ts' : List Token) → Reach s' ts' (p ++ (tok kind.OpenBrace k ∷ s)) (t ∷ us) →
    size s' ts' ≤ 2 * length us → Stepped {U = Base} done (λ v. (tree.no_type, (t, tt))) c (n, (k, tt)) s s' ts' us
unfolding done
none_by g.no_type t k us e s s' ts' r h = let z = behind_token r (omega (arith, h)) in record { by = tt; is = ap (λ (k : Token). (tree.no_type, (k, tt))) (first_is z.is); reach = at_rest z }
none_by (g.a_type {u = u}) t k us e s s' ts' r h = absurd (not_type u t.kind kind.OpenBrace e refl (reach_opens r (omega (arith, h))))

none_led : (u : Use) (b : ℕ) (t : Token) (us : List Token) → t.kind ≡ kind.OpenBrace → Led (base_line u) nothing_continues (λ n. n) b (t ∷ us) done (λ v. (tree.no_type, (t, tt))) 0 us
unfolding then_ token done
none_led u b t us e =
    led_step us done (λ v. (tree.no_type, (t, tt))) tt same_depth (omega arith) (omega arith) (λ c v s. write [] g.no_type (read e here))
    (λ c v s s' ts' clear r h. let z = behind_part tt r (omega (arith, h)) in none_by z.rule t v.1.0 us e s s' ts' z.reach h) (base_start u b (t ∷ us))

pub base_none : (u : Use) (b : ℕ) (t : Token) (ts us : List Token) → ts ≡ t ∷ us → t.kind ≡ kind.OpenBrace → Found (base_line u) nothing_continues b ts (tree.no_type, (t, tt)) 0 us
base_none u b t ts us is e = subst (λ (l : List Token). Found (base_line u) nothing_continues b l (tree.no_type, (t, tt)) 0 us) (sym is) (led_done same_depth (none_led u b t us e))

-- a type
abbrev typed_line : Use → Part (Type_ × (Token × Unit {0}))
typed_line u = then_ (type_ u) opening

some_by : {u : Use} {c : ℕ} {n : MaybeType} {p : List Sym} (rule : Rule (g.maybe_type u c n) p) (k : Token) (ts : List Token) → StartsWithout kind.OpenBrace ts → (s s' : List Sym) (ts' : List Token) → Reach s' ts' (p ++ (tok kind.OpenBrace k ∷ s)) ts →
    size s' ts' ≤ 2 * length ts → Stepped {U = Base} (typed_line u) (λ v. (tree.some_type v.0, v.1)) c (n, (k, tt)) s s' ts' ts
unfolding then_ token done
some_by g.no_type k ts none s s' ts' r h = let z = behind_token r h in absurd (without kind.OpenBrace _ _ ts z.is z.kind none)
some_by (g.a_type {ty = ty}) k ts none s s' ts' r h = record { by = (ty, (k, tt)); is = refl; reach = r }

some_led : (u : Use) (b : ℕ) (ts : List Token) → StartsWithout kind.OpenBrace ts → Led (base_line u) nothing_continues (λ n. n) b ts (typed_line u) (λ v. (tree.some_type v.0, v.1)) 0 ts
unfolding then_ token done
some_led u b ts none =
    led_step ts (typed_line u) (λ v. (tree.some_type v.0, v.1)) (sample.type, (sample.token, tt)) same_depth (omega arith) (omega arith) (λ c v s. write _ g.a_type here)
    (λ c v s s' ts' clear r h. let z = behind_part tt r h in some_by z.rule v.1.0 ts none s s' ts' z.reach h) (base_start u b ts)

pub base_refused : (u : Use) (b : ℕ) (ts : List Token) (stop : Stop) → StartsWithout kind.OpenBrace ts → Exact (one (type_ u)) nothing_continues b ts (refused stop) → Exact (base_line u) nothing_continues b ts (refused stop)
base_refused u b ts stop none h = part_refused (type_ u) nothing_continues opening stop same_depth (some_led u b ts none) (omega arith) h (λ c v s clear. nothing_clear (opening c v ++ s))

base_read : (u : Use) (b : ℕ) (ts : List Token) (ty : Type_) (n : ℕ) (after : List Token) → StartsWithout kind.OpenBrace ts → Found (one (type_ u)) nothing_continues b ts ty n after →
    Led (base_line u) nothing_continues (λ n. n) b ts opening (λ v. (tree.some_type ty, v)) (max 0 n) after
base_read u b ts ty n after none found = led_part same_depth (some_led u b ts none) (omega arith) found (λ c v s clear. nothing_clear (opening c v ++ s))

pub base_unopened : (u : Use) (b : ℕ) (ts : List Token) (ty : Type_) (n : ℕ) (after : List Token) (stop : Stop) (within : Fit) → StartsWithout kind.OpenBrace ts → Found (one (type_ u)) nothing_continues b ts ty n after → (within ≡ fit.Over → b < n) →
    NotExpected kind.OpenBrace within after stop → Exact (base_line u) nothing_continues b ts (refused stop)
base_unopened u b ts ty n after stop within none found over h = token_refused kind.OpenBrace done stop within same_depth (base_read u b ts ty n after none found) (λ a. let k = over a in omega (arith, k)) h

pub base_answer : (u : Use) (b : ℕ) (ts : List Token) (ty : Type_) (n : ℕ) (after : List Token) (o : Token) (inner : List Token) (w : MaybeType) → StartsWithout kind.OpenBrace ts → Found (one (type_ u)) nothing_continues b ts ty n after → n ≤ b →
    after ≡ o ∷ inner → o.kind ≡ kind.OpenBrace → w ≡ tree.some_type ty → Found (base_line u) nothing_continues b ts (w, (o, tt)) n inner
base_answer u b ts ty n after o inner w none found within is k made =
    answer_is (ap (λ (m : MaybeType). (m, (o, tt))) (sym made)) (omega arith) (led_done same_depth (token_read same_depth (base_read u b ts ty n after none found) (omega (arith, within)) is k))

-- the enum
abbrev Whole : Type 0
Whole = Base × (Enumerators × (Token × Unit {0}))

enum_at : (u : Use) (b : ℕ) (t : Token) (us : List Token) → t.kind ≡ kind.Enum →
    Led (one (constructed u)) nothing_continues (λ n. suc n) b (t ∷ us) (behind (base_line (inside u)) enumerators_line) (λ v. type t.at (tree.enum v.0.0 v.1.0)) 0 us
unfolding behind then_ token done
enum_at u b t us e =
    let l = enum_led u b t us e in
    record {
      short = l.short;
      sample = ((l.sample.0, (l.sample.1.0, tt)), l.sample.1.1);
      comes = l.comes;
      reads = λ c v h s. l.reads c (v.0.0, (v.0.1.0, v.1)) h s;
      only = λ c w s s' ts' clear r h.
          let q = l.only c w s s' ts' clear r h in
          record { at = q.at; value = ((q.value.0, (q.value.1.0, tt)), q.value.1.1); bound = q.bound; whole = q.whole; deep = q.deep; reach = q.reach };
    }

list_clear : (c : ℕ) (v : Enumerators × (Token × Unit {0})) (s : List Sym) → Clear nothing_continues (enumerators_line c v ++ s)
list_clear c v s = nothing_clear (enumerators_line c v ++ s)

pub enum_base_refused : (u : Use) (b : ℕ) (t : Token) (us : List Token) (stop : Stop) → t.kind ≡ kind.Enum → Exact (base_line (inside u)) nothing_continues b us (refused stop) → ExactAs u (one (constructed u)) nothing_continues (suc b) (t ∷ us) (refused stop)
enum_base_refused u b t us stop e h =
    refused_as (one (constructed u)) nothing_continues (suc b) (t ∷ us) u stop (behind_refused nothing_continues (base_line (inside u)) enumerators_line stop one_deeper (enum_at u b t us e) (omega arith) h list_clear)

enum_opened : (u : Use) (b : ℕ) (t : Token) (us : List Token) (v : MaybeType × (Token × Unit {0})) (n : ℕ) (inner : List Token) → t.kind ≡ kind.Enum → Found (base_line (inside u)) nothing_continues b us v n inner →
    Led (one (constructed u)) nothing_continues (λ n. suc n) b (t ∷ us) enumerators_line (λ x. type t.at (tree.enum v.0 x.0)) (max 0 n) inner
enum_opened u b t us v n inner e found = led_behind one_deeper (enum_at u b t us e) (omega arith) found list_clear

pub enum_refused : (u : Use) (b : ℕ) (t : Token) (us : List Token) (v : MaybeType × (Token × Unit {0})) (n : ℕ) (inner : List Token) (stop : Stop) → t.kind ≡ kind.Enum → Found (base_line (inside u)) nothing_continues b us v n inner → n ≤ b →
    Exact enumerators_line nothing_continues b inner (refused stop) → ExactAs u (one (constructed u)) nothing_continues (suc b) (t ∷ us) (refused stop)
enum_refused u b t us v n inner stop e found within h =
    refused_as (one (constructed u)) nothing_continues (suc b) (t ∷ us) u stop (led_rest_refused stop one_deeper (enum_opened u b t us v n inner e found) (omega (arith, within)) h)

pub enum_answer : (u : Use) (b : ℕ) (t : Token) (us : List Token) (v : MaybeType × (Token × Unit {0})) (n : ℕ) (inner : List Token) (x : Enumerators × (Token × Unit {0})) (m : ℕ) (rest : List Token) (w : Type_) (top : ℕ) → t.kind ≡ kind.Enum →
    Found (base_line (inside u)) nothing_continues b us v n inner → n ≤ b → Found enumerators_line nothing_continues b inner x m rest → w ≡ type t.at (tree.enum v.0 x.0) → top ≡ suc (max n m) →
    FoundAs u (one (constructed u)) nothing_continues (suc b) (t ∷ us) w top rest Sure
enum_answer u b t us v n inner x m rest w top e found within list made high =
    found_as u (answer_is (sym made) (omega (arith, high)) (led_rest one_deeper (enum_opened u b t us v n inner e found) (omega (arith, within)) list))
