-- Types with square brackets: an answer for each way that the reading of one, and of its length, may end.
use Rattle.std.proofs.Common.{◌≡◌, ℕ, suc, ◌-◌, ◌*◌, ◌<◌, ◌≤◌, max, Bool, true, false, List, [], ◌∷◌, ◌++◌, length, refl, sym, ◌∙◌, ap, subst, arith, Some}
use Rattle.odc_text.specs.declared.place.Place.{Place}
use Rattle.odc_syntax.specs.declared.token.Token.{Token}
use Rattle.odc_syntax.specs.declared.token.TokenKind.{TokenKind}
use Rattle.odc_syntax.specs.declared.token.TokenKind.TheVariants as kind
use Rattle.odc_syntax.specs.declared.token.Word.TheVariants as word
use Rattle.odc_syntax.specs.declared.grammar.Mode.TheVariants.{Free}
use Rattle.odc_syntax.specs.declared.grammar.Level.TheVariants.{Or}
use Rattle.odc_syntax.specs.declared.grammar.Use.{Use}
use Rattle.odc_syntax.specs.declared.grammar.Use.TheVariants.{Plain, Parameter, Operand, OperandEnd}
use Rattle.odc_syntax.specs.Tree.{Type_, type, Length, Expr}
use Rattle.odc_syntax.specs.Tree as tree
use Rattle.odc_syntax.specs.Grammar.{Sym, tok, Rule, type_, constructed, at_end, inside}
use Rattle.odc_syntax.specs.Grammar as g
use Rattle.odc_syntax.specs.Derives.{Reach, here, read, read_said, see, write, StartsWithout}
use Rattle.odc_lookahead.specs.declared.end.End.{End}
use Rattle.odc_lookahead.specs.declared.end.End.TheVariants.{Sure}
use Rattle.odc_lookahead.specs.declared.shape.Shape.{Shape}
use Rattle.odc_lookahead.specs.declared.shape.Shape.TheVariants.{Array, Soa}
use Rattle.odc_lookahead.specs.declared.stop.Stop.{Stop}
use Rattle.odc_lookahead.specs.declared.stop.Stop.TheVariants as stop
use Rattle.odc_lookahead.specs.declared.type_form.BuiltForm.TheVariants as built
use Rattle.odc_lookahead.specs.Exact.{size, Clear, Part, one, ComesAt, then_, done, token, behind, Found, Broken, Exact}
use Rattle.odc_lookahead.specs.Ends.{FoundAs, ExactAs}
use Rattle.odc_lookahead.specs.Read.{refused, NotExpected}
use Rattle.odc_lookahead.specs.Sets.{starts_expression, continues, nothing_continues}
use Rattle.odc_lookahead.specs.TypeForms.{built_by, built_form}
use Rattle.odc_lookahead.specs.TypeParts.{length_line, Bracketed, Questioned, shaped, counts, starts_brace, opens_brace}
use Rattle.odc_lookahead.proofs.reading.Opening.{reach_opens}
use Rattle.odc_lookahead.proofs.reading.Reaching.{behind_token, behind_said, behind_part, behind_next}
use Rattle.odc_lookahead.proofs.reading.Leading.{one_deeper, same_depth, Pending, Led, led_part, led_done, first_is, without, at_rest}
use Rattle.odc_lookahead.proofs.reading.Answering.{Stepped, led_at, led_step, led_stuck, part_refused, led_rest_refused, token_refused, token_read, answer_is}
use Rattle.odc_lookahead.proofs.expr.SuffixAnswers.{nothing_clear, token_clear}
use Rattle.odc_lookahead.proofs.types.TypeLemmas.{array_line, array_led}
use Rattle.odc_lookahead.proofs.expr.TypeStarts.{rule_built, built_first}
use Rattle.odc_lookahead.proofs.reading.LineLemmas.{led_whole, led_behind, behind_refused}
use Rattle.odc_lookahead.proofs.reading.EndLemmas.{found_as, refused_as, as_refused, last_alone, last_as}
use Rattle.odc_lookahead.proofs.types.TypeAnswers.{as_answer}
use Rattle.odc_lookahead.proofs.reading.Samples as sample
use Rattle.odc_lookahead.specs.declared.tokens.Fit.{Fit}
use Rattle.odc_lookahead.specs.declared.tokens.Fit.TheVariants as fit

-- `#soa[..]T`, where no `?` stands in the brackets
soa_split : (u : Use) (t o : Token) (us : List Token) → built_form u t ≡ Some built.Soa → StartsWithout kind.Question us → (c : ℕ) (w : Type_) (p : List Sym) (rule : Rule (constructed u c w) p) → built_form u t ≡ Some (rule_built rule) →
    (s s' : List Sym) (ts' : List Token) → Reach s' ts' (p ++ s) (t ∷ o ∷ us) → size s' ts' ≤ 2 * length us → Pending (λ n. suc n) (array_line u) (λ v. type t.at (tree.soa v.0 v.1.1.0)) 0 us c w s s' ts'
unfolding then_ token done
soa_split u t o us e open' c w p (g.type_soa {b = b} {c = k} {n = n} {ty = ty}) f s s' ts' r h =
    let z = (behind_said r (omega (arith, h))).1 in
    let y = behind_token (at_rest z) (omega (arith, h)) in
    record { at = b; value = (n, (k, (ty, tt))); bound = refl; whole = ap (λ (t : Token). type t.at (tree.soa n ty)) (first_is z.is); deep = omega arith; reach = at_rest y }
soa_split u t o us e open' c w p g.type_soa_counted f s s' ts' r h =
    let z = (behind_said r (omega (arith, h))).1 in
    let y = behind_token (at_rest z) (omega (arith, h)) in
    let x = behind_token (at_rest y) h in
    absurd (without kind.Question _ _ us x.is x.kind open')
soa_split u t o us e open' c w p _ f s s' ts' r h = cc

soa_form : (u : Use) (t : Token) → t.kind ≡ kind.Directive → t.word ≡ word.Soa → built_form u t ≡ Some built.Soa
soa_form u t k w = λ i. built_by u (k i) (w i)

soa_led : (u : Use) (b : ℕ) (t o : Token) (us : List Token) → t.kind ≡ kind.Directive → t.word ≡ word.Soa → o.kind ≡ kind.OpenBracket → StartsWithout kind.Question us →
    Led (one (constructed u)) nothing_continues (λ n. suc n) b (t ∷ o ∷ us) (array_line u) (λ v. type t.at (tree.soa v.0 v.1.1.0)) 0 us
unfolding then_ token done
soa_led u b t o us k x e open' =
    led_at b us (array_line u) (λ v. type t.at (tree.soa v.0 v.1.1.0)) (tree.slice, (sample.token, (sample.type, tt))) (omega arith) one_deeper (λ c v. tt)
    (λ c v s. write _ (g.type_soa {o = o} {c = v.1.0}) (read_said k x (read e here)))
    (λ c w p rule s s' ts' r h clear. soa_split u t o us (soa_form u t k x) open' c w p rule (built_first rule s s' ts' t (o ∷ us) r (omega (arith, h))) s s' ts' r h)

-- what may follow `?`
unfoldable pub counted_end : Use → Part (Unit {0})
counted_end u c v = g.behind_counted u ∷ []

abbrev pub counted_line : Use → Part (Token × (Type_ × Unit {0}))
counted_line u = then_ (token kind.CloseBracket) (then_ (type_ (inside u)) (counted_end u))

-- no other length begins with `?`
no_other : {u : Use} {b : ℕ} {n : Length} {p : List Sym} (rule : Rule (g.length u b n) p) (s s' : List Sym) (ts' : List Token) (k q : Token) (us : List Token) → q.kind ≡ kind.Question →
    Reach s' ts' (p ++ (tok kind.CloseBracket k ∷ s)) (q ∷ us) → size s' ts' ≤ 2 * length (q ∷ us) → ⊥
no_other g.length_slice s s' ts' k q us e r h = let bad : q.kind ≡ kind.CloseBracket = reach_opens r h in cc
no_other g.length_dynamic s s' ts' k q us e r h = let bad : q.kind ≡ kind.Dynamic = reach_opens r h in cc
no_other g.length_dollar s s' ts' k q us e r h = let bad : q.kind ≡ kind.Dollar = reach_opens r h in cc
no_other g.length_fixed s s' ts' k q us e r h = let opens = reach_opens r h in let bad : false ≡ true = sym (ap (starts_expression Free) e) ∙ opens in cc

counted_split : (u : Use) (t q : Token) (us : List Token) → built_form u t ≡ Some built.Array → q.kind ≡ kind.Question → (c : ℕ) (w : Type_) (p : List Sym) (rule : Rule (constructed u c w) p) → built_form u t ≡ Some (rule_built rule) →
    (s s' : List Sym) (ts' : List Token) → Reach s' ts' (p ++ s) (t ∷ q ∷ us) → size s' ts' ≤ 2 * length us → Pending (λ n. suc n) (counted_line u) (λ v. type t.at (tree.array tree.counted v.1.0)) 0 us c w s s' ts'
unfolding then_ token counted_end
counted_split u t q us e k c w p (g.type_counted {b = b} {c = l} {ty = ty}) f s s' ts' r h =
    let z = behind_token r (omega (arith, h)) in
    let y = behind_token (at_rest z) (omega (arith, h)) in
    record { at = b; value = (l, (ty, tt)); bound = refl; whole = ap (λ (t : Token). type t.at (tree.array tree.counted ty)) (first_is z.is); deep = omega arith; reach = at_rest y }
counted_split u t q us e k c w p g.type_array f s s' ts' r h =
    let z = behind_token r (omega (arith, h)) in
    let y = behind_part tt (at_rest z) (omega (arith, h)) in
    absurd (no_other y.rule _ s' ts' _ q us k y.reach (omega (arith, h)))
counted_split u t q us e k c w p _ f s s' ts' r h = cc

counted_led : (u : Use) (b : ℕ) (t q : Token) (us : List Token) → t.kind ≡ kind.OpenBracket → q.kind ≡ kind.Question →
    Led (one (constructed u)) nothing_continues (λ n. suc n) b (t ∷ q ∷ us) (counted_line u) (λ v. type t.at (tree.array tree.counted v.1.0)) 0 us
unfolding then_ token counted_end
counted_led u b t q us e k =
    led_at b us (counted_line u) (λ v. type t.at (tree.array tree.counted v.1.0)) (sample.token, (sample.type, tt)) (omega arith) one_deeper (λ c v. tt)
    (λ c v s. write _ (g.type_counted {q = q} {c = v.0}) (read e (read k here)))
    (λ c w p rule s s' ts' r h clear. counted_split u t q us (ap (λ (k : TokenKind). built_by u k t.word) e) k c w p rule (built_first rule s s' ts' t (q ∷ us) r (omega (arith, h))) s s' ts' r h)

soa_counted_split : (u : Use) (t o q : Token) (us : List Token) → built_form u t ≡ Some built.Soa → q.kind ≡ kind.Question → (c : ℕ) (w : Type_) (p : List Sym) (rule : Rule (constructed u c w) p) → built_form u t ≡ Some (rule_built rule) →
    (s s' : List Sym) (ts' : List Token) → Reach s' ts' (p ++ s) (t ∷ o ∷ q ∷ us) → size s' ts' ≤ 2 * length us → Pending (λ n. suc n) (counted_line u) (λ v. type t.at (tree.soa tree.counted v.1.0)) 0 us c w s s' ts'
unfolding then_ token counted_end
soa_counted_split u t o q us e k c w p (g.type_soa_counted {b = b} {c = l} {ty = ty}) f s s' ts' r h =
    let z = (behind_said r (omega (arith, h))).1 in
    let y = behind_token (at_rest z) (omega (arith, h)) in
    let x = behind_token (at_rest y) (omega (arith, h)) in
    record { at = b; value = (l, (ty, tt)); bound = refl; whole = ap (λ (t : Token). type t.at (tree.soa tree.counted ty)) (first_is z.is); deep = omega arith; reach = at_rest x }
soa_counted_split u t o q us e k c w p g.type_soa f s s' ts' r h =
    let z = (behind_said r (omega (arith, h))).1 in
    let y = behind_token (at_rest z) (omega (arith, h)) in
    let x = behind_part tt (at_rest y) (omega (arith, h)) in
    absurd (no_other x.rule _ s' ts' _ q us k x.reach (omega (arith, h)))
soa_counted_split u t o q us e k c w p _ f s s' ts' r h = cc

soa_counted_led : (u : Use) (b : ℕ) (t o q : Token) (us : List Token) → t.kind ≡ kind.Directive → t.word ≡ word.Soa → o.kind ≡ kind.OpenBracket → q.kind ≡ kind.Question →
    Led (one (constructed u)) nothing_continues (λ n. suc n) b (t ∷ o ∷ q ∷ us) (counted_line u) (λ v. type t.at (tree.soa tree.counted v.1.0)) 0 us
unfolding then_ token counted_end
soa_counted_led u b t o q us e x k l =
    led_at b us (counted_line u) (λ v. type t.at (tree.soa tree.counted v.1.0)) (sample.token, (sample.type, tt)) (omega arith) one_deeper (λ c v. tt)
    (λ c v s. write _ (g.type_soa_counted {o = o} {q = q} {c = v.0}) (read_said e x (read k (read l here))))
    (λ c w p rule s s' ts' r h clear. soa_counted_split u t o q us (soa_form u t e x) l c w p rule (built_first rule s s' ts' t (o ∷ q ∷ us) r (omega (arith, h))) s s' ts' r h)

-- of either shape
abbrev bracket_node : Shape → Place → Length × (Token × (Type_ × Unit {0})) → Type_
bracket_node shape at v = type at (shaped shape v.0 v.1.1.0)

abbrev counted_node : Shape → Place → Token × (Type_ × Unit {0}) → Type_
counted_node shape at v = type at (shaped shape tree.counted v.1.0)

bracketed_led : (u : Use) (shape : Shape) (at : Place) (b : ℕ) (ts us : List Token) → Bracketed shape at ts us → StartsWithout kind.Question us →
    Led (one (constructed u)) nothing_continues (λ n. suc n) b ts (array_line u) (bracket_node shape at) 0 us
bracketed_led u Array at b ts us z open' =
    subst (λ (l : List Token). Led (one (constructed u)) nothing_continues (λ n. suc n) b l (array_line u) (bracket_node Array at) 0 us) (sym z.is)
    (subst (λ (x : Place). Led (one (constructed u)) nothing_continues (λ n. suc n) b (z.bracket ∷ us) (array_line u) (bracket_node Array x) 0 us) z.place (array_led u b z.bracket us z.kind open'))
bracketed_led u Soa at b ts us z open' =
    subst (λ (l : List Token). Led (one (constructed u)) nothing_continues (λ n. suc n) b l (array_line u) (bracket_node Soa at) 0 us) (sym z.is)
    (subst (λ (x : Place). Led (one (constructed u)) nothing_continues (λ n. suc n) b (z.directive ∷ z.bracket ∷ us) (array_line u) (bracket_node Soa x) 0 us) z.place (soa_led u b z.directive z.bracket us z.directive_kind z.says z.bracket_kind open'))

questioned_led : (u : Use) (shape : Shape) (at : Place) (b : ℕ) (ts us : List Token) (q : Token) → q.kind ≡ kind.Question → Bracketed shape at ts (q ∷ us) →
    Led (one (constructed u)) nothing_continues (λ n. suc n) b ts (counted_line u) (counted_node shape at) 0 us
questioned_led u Array at b ts us q k z =
    subst (λ (l : List Token). Led (one (constructed u)) nothing_continues (λ n. suc n) b l (counted_line u) (counted_node Array at) 0 us) (sym z.is)
    (subst (λ (x : Place). Led (one (constructed u)) nothing_continues (λ n. suc n) b (z.bracket ∷ q ∷ us) (counted_line u) (counted_node Array x) 0 us) z.place (counted_led u b z.bracket q us z.kind k))
questioned_led u Soa at b ts us q k z =
    subst (λ (l : List Token). Led (one (constructed u)) nothing_continues (λ n. suc n) b l (counted_line u) (counted_node Soa at) 0 us) (sym z.is)
    (subst (λ (x : Place). Led (one (constructed u)) nothing_continues (λ n. suc n) b (z.directive ∷ z.bracket ∷ q ∷ us) (counted_line u) (counted_node Soa x) 0 us) z.place (soa_counted_led u b z.directive z.bracket q us z.directive_kind z.says z.bracket_kind k))

-- `[..]T`: its length, and its type
abbrev last_type : Use → Part (Type_ × Unit {0})
last_type u = then_ (type_ (at_end u)) done

regrouped : {V : Type 0} {p : Part V} {up : ℕ → ℕ} {b n : ℕ} {ts rest : List Token} (u : Use) (f : Length × (Token × (Type_ × Unit {0})) → V) → Led p nothing_continues up b ts (array_line u) f n rest →
    Led p nothing_continues up b ts (behind (length_line u) (last_type u)) (λ v. f (v.0.0, (v.0.1.0, v.1))) n rest
unfolding behind then_ token done
regrouped {V} {p} {up} {b} {n} {ts} {rest} u f l = record {
  short = l.short;
  sample = ((l.sample.0, (l.sample.1.0, tt)), l.sample.1.1);
  comes = l.comes;
  reads = λ c v h s. l.reads c (v.0.0, (v.0.1.0, v.1)) h s;
  only = λ c w s s' ts' clear r h.
      let q = l.only c w s s' ts' clear r h in
      record { at = q.at; value = ((q.value.0, (q.value.1.0, tt)), q.value.1.1); bound = q.bound; whole = q.whole; deep = q.deep; reach = q.reach };
}

type_clear : (u : Use) (c : ℕ) (v : Type_ × Unit {0}) (s : List Sym) → Clear nothing_continues (last_type u c v ++ s)
type_clear u c v s = nothing_clear (last_type u c v ++ s)

pub length_refused : (u : Use) (shape : Shape) (at : Place) (b : ℕ) (ts us : List Token) (stop : Stop) → Bracketed shape at ts us → StartsWithout kind.Question us → Exact (length_line u) nothing_continues b us (refused stop) →
    ExactAs u (one (constructed u)) nothing_continues (suc b) ts (refused stop)
length_refused u shape at b ts us stop z open' h =
    refused_as (one (constructed u)) nothing_continues (suc b) ts u stop
    (behind_refused nothing_continues (length_line u) (last_type u) stop one_deeper (regrouped u (bracket_node shape at) (bracketed_led u shape at b ts us z open')) (omega arith) h (type_clear u))

length_read : (u : Use) (shape : Shape) (at : Place) (b : ℕ) (ts us : List Token) (v : Length × (Token × Unit {0})) (n : ℕ) (after : List Token) → Bracketed shape at ts us → StartsWithout kind.Question us → Found (length_line u) nothing_continues b us v n after →
    Led (one (constructed u)) nothing_continues (λ n. suc n) b ts (one (type_ (at_end u))) (λ ty. type at (shaped shape v.0 ty)) (max 0 n) after
length_read u shape at b ts us v n after z open' found =
    last_alone (led_behind one_deeper (regrouped u (bracket_node shape at) (bracketed_led u shape at b ts us z open')) (omega arith) found (type_clear u))

pub element_refused : (u u' : Use) (shape : Shape) (at : Place) (b : ℕ) (ts us : List Token) (v : Length × (Token × Unit {0})) (n : ℕ) (after : List Token) (stop : Stop) → u' ≡ at_end u → Bracketed shape at ts us → StartsWithout kind.Question us →
    Found (length_line u) nothing_continues b us v n after → n ≤ b → ExactAs u' (one (type_ u')) nothing_continues b after (refused stop) → ExactAs u (one (constructed u)) nothing_continues (suc b) ts (refused stop)
element_refused u u' shape at b ts us v n after stop same z open' found within h =
    let at_last : ExactAs (at_end u) (one (type_ (at_end u))) nothing_continues b after (refused stop) = subst (λ (x : Use). ExactAs x (one (type_ x)) nothing_continues b after (refused stop)) same h in
    refused_as (one (constructed u)) nothing_continues (suc b) ts u stop
    (led_rest_refused stop one_deeper (length_read u shape at b ts us v n after z open' found) (omega (arith, within)) (as_refused (one (type_ (at_end u))) nothing_continues b after (at_end u) stop at_last))

pub bracket_answer : (u u' : Use) (shape : Shape) (at : Place) (b : ℕ) (ts us : List Token) (v : Length × (Token × Unit {0})) (n : ℕ) (after : List Token) (x : Type_) (m : ℕ) (rest : List Token) (end : End) (w : Type_) (top : ℕ) →
    u' ≡ at_end u → Bracketed shape at ts us → StartsWithout kind.Question us → Found (length_line u) nothing_continues b us v n after → n ≤ b → FoundAs u' (one (type_ u')) nothing_continues b after x m rest end →
    w ≡ type at (shaped shape v.0 x) → top ≡ suc (max n m) → FoundAs u (one (constructed u)) nothing_continues (suc b) ts w top rest end
bracket_answer u u' shape at b ts us v n after x m rest end w top same z open' found within inner made high =
    let at_last : FoundAs (at_end u) (one (type_ (at_end u))) nothing_continues b after x m rest end = subst (λ (y : Use). FoundAs y (one (type_ y)) nothing_continues b after x m rest end) same inner in
    as_answer u (one (constructed u)) nothing_continues (suc b) ts (type at (shaped shape v.0 x)) w (suc (max (max 0 n) m)) top rest end (sym made) (omega (arith, high))
    (last_as u x m rest end one_deeper (length_read u shape at b ts us v n after z open' found) (omega (arith, within)) at_last)

-- `[?]T`
pub counted_unclosed : (u : Use) (shape : Shape) (at : Place) (b : ℕ) (ts us : List Token) (stop : Stop) → Questioned shape at ts us → NotExpected kind.CloseBracket fit.Within us stop → ExactAs u (one (constructed u)) nothing_continues (suc b) ts (refused stop)
counted_unclosed u shape at b ts us stop z h =
    refused_as (one (constructed u)) nothing_continues (suc b) ts u stop
    (token_refused kind.CloseBracket (then_ (type_ (inside u)) (counted_end u)) stop fit.Within one_deeper (questioned_led u shape at b ts us z.question z.kind z.bracketed) (λ bad. cc) h)

counted_closed : (u : Use) (shape : Shape) (at : Place) (b : ℕ) (ts us : List Token) (k : Token) (vs : List Token) → Questioned shape at ts us → us ≡ k ∷ vs → k.kind ≡ kind.CloseBracket →
    Led (one (constructed u)) nothing_continues (λ n. suc n) b ts (then_ (type_ (inside u)) (counted_end u)) (λ v. type at (shaped shape tree.counted v.0)) 0 vs
counted_closed u shape at b ts us k vs z is e = token_read one_deeper (questioned_led u shape at b ts us z.question z.kind z.bracketed) (omega arith) is e

pub counted_refused : (u : Use) (shape : Shape) (at : Place) (b : ℕ) (ts us : List Token) (k : Token) (vs : List Token) (stop : Stop) → Questioned shape at ts us → us ≡ k ∷ vs → k.kind ≡ kind.CloseBracket →
    Exact (one (type_ (inside u))) nothing_continues b vs (refused stop) → ExactAs u (one (constructed u)) nothing_continues (suc b) ts (refused stop)
counted_refused u shape at b ts us k vs stop z is e h =
    refused_as (one (constructed u)) nothing_continues (suc b) ts u stop
    (part_refused (type_ (inside u)) nothing_continues (counted_end u) stop one_deeper (counted_closed u shape at b ts us k vs z is e) (omega arith) h (λ c v s clear. nothing_clear (counted_end u c v ++ s)))

counted_read : (u : Use) (shape : Shape) (at : Place) (b : ℕ) (ts us : List Token) (k : Token) (vs : List Token) (x : Type_) (n : ℕ) (rest : List Token) → Questioned shape at ts us → us ≡ k ∷ vs → k.kind ≡ kind.CloseBracket →
    Found (one (type_ (inside u))) nothing_continues b vs x n rest → Led (one (constructed u)) nothing_continues (λ n. suc n) b ts (counted_end u) (λ v. type at (shaped shape tree.counted x)) (max 0 n) rest
counted_read u shape at b ts us k vs x n rest z is e found =
    led_part one_deeper (counted_closed u shape at b ts us k vs z is e) (omega arith) found (λ c v s clear. nothing_clear (counted_end u c v ++ s))

not_counted : (u : Use) (rest : List Token) → counts u rest ≡ false → {s s' : List Sym} {ts' : List Token} → Reach s' ts' (g.behind_counted u ∷ s) rest → size s' ts' ≤ 2 * length rest → ⊥
not_counted Plain rest e r h = reach_opens r h
not_counted Parameter rest e r h = reach_opens r h
not_counted OperandEnd rest e r h = reach_opens r h
not_counted Operand rest e r h =
    let z = behind_next r h in
    let bad : true ≡ false = sym (ap starts_brace z.is ∙ ap opens_brace z.kind) ∙ e in
    cc

pub counted_broken : (u : Use) (shape : Shape) (at : Place) (b : ℕ) (ts us : List Token) (k : Token) (vs : List Token) (x : Type_) (n : ℕ) (rest : List Token) → Questioned shape at ts us → us ≡ k ∷ vs → k.kind ≡ kind.CloseBracket →
    Found (one (type_ (inside u))) nothing_continues b vs x n rest → counts u rest ≡ false → Broken (one (constructed u)) nothing_continues (suc b) ts (length rest)
unfolding counted_end
counted_broken u shape at b ts us k vs x n rest z is e found none =
    led_stuck (λ c v s s' ts' clear r h. not_counted u rest none r h) (counted_read u shape at b ts us k vs x n rest z is e found)

brace_is : (k : TokenKind) → opens_brace k ≡ true → k ≡ kind.OpenBrace
brace_is kind.OpenBrace e = refl
brace_is _ e = cc

brace_seen : (rest : List Token) → starts_brace rest ≡ true → (s : List Sym) → Reach s rest (g.next kind.OpenBrace ∷ s) rest
brace_seen [] e s = cc
brace_seen (t ∷ ts) e s = see (brace_is t.kind e) here

counted_seen : (u : Use) (rest : List Token) → counts u rest ≡ true → (s : List Sym) → Reach s rest (g.behind_counted u ∷ s) rest
counted_seen Plain rest e s = cc
counted_seen Parameter rest e s = cc
counted_seen Operand rest e s = brace_seen rest e s
counted_seen OperandEnd rest e s = cc

counted_past : (u : Use) (rest : List Token) → counts u rest ≡ true → {s s' : List Sym} {ts' : List Token} → Reach s' ts' (g.behind_counted u ∷ s) rest → size s' ts' ≤ 2 * length rest → Reach s' ts' s rest
counted_past Plain rest e r h = cc
counted_past Parameter rest e r h = cc
counted_past OperandEnd rest e r h = cc
counted_past Operand rest e r h = (behind_next r h).reach

pub counted_answer : (u : Use) (shape : Shape) (at : Place) (b : ℕ) (ts us : List Token) (k : Token) (vs : List Token) (x : Type_) (n : ℕ) (rest : List Token) (w : Type_) (top : ℕ) → Questioned shape at ts us → us ≡ k ∷ vs → k.kind ≡ kind.CloseBracket →
    Found (one (type_ (inside u))) nothing_continues b vs x n rest → n ≤ b → counts u rest ≡ true → w ≡ type at (shaped shape tree.counted x) → top ≡ suc n → FoundAs u (one (constructed u)) nothing_continues (suc b) ts w top rest Sure
unfolding counted_end done
counted_answer u shape at b ts us k vs x n rest w top z is e found within some made high =
    found_as u (answer_is (sym made) (omega (arith, high)) (led_done one_deeper
    (led_step rest done (λ v. v) tt one_deeper (omega (arith, within)) (omega arith) (λ c v s. counted_seen u rest some s)
    (λ c v s s' ts' clear r h. record { by = tt; is = refl; reach = counted_past u rest some r h }) (counted_read u shape at b ts us k vs x n rest z is e found))))

-- lengths
abbrev closing : Part (Token × Unit {0})
closing = then_ (token kind.CloseBracket) done

length_start : (u : Use) (b : ℕ) (ts : List Token) → Led (length_line u) nothing_continues (λ n. n) b ts (length_line u) (λ v. v) 0 ts
length_start u b ts = led_whole (length_line u) nothing_continues b ts (tree.slice, (sample.token, tt))

no_expression : (k m : TokenKind) → k ≡ m → starts_expression Free m ≡ false → starts_expression Free k ≡ true → ⊥
no_expression k m e none on = let bad : false ≡ true = sym none ∙ sym (ap (starts_expression Free) e) ∙ on in cc

-- none
slice_by : {u : Use} {c : ℕ} {n : Length} {p : List Sym} (rule : Rule (g.length u c n) p) (t k : Token) (us : List Token) → t.kind ≡ kind.CloseBracket → (s s' : List Sym) (ts' : List Token) → Reach s' ts' (p ++ (tok kind.CloseBracket k ∷ s)) (t ∷ us) →
    size s' ts' ≤ 2 * length us → Stepped {U = Length × (Token × Unit {0})} done (λ v. (tree.slice, (t, tt))) c (n, (k, tt)) s s' ts' us
unfolding done
slice_by g.length_slice t k us e s s' ts' r h = let z = behind_token r (omega (arith, h)) in record { by = tt; is = ap (λ (k : Token). (tree.slice, (k, tt))) (first_is z.is); reach = at_rest z }
slice_by g.length_dynamic t k us e s s' ts' r h = let bad : t.kind ≡ kind.Dynamic = reach_opens r (omega (arith, h)) in cc
slice_by g.length_dollar t k us e s s' ts' r h = let bad : t.kind ≡ kind.Dollar = reach_opens r (omega (arith, h)) in cc
slice_by g.length_fixed t k us e s s' ts' r h = absurd (no_expression t.kind kind.CloseBracket e refl (reach_opens r (omega (arith, h))))

slice_led : (u : Use) (b : ℕ) (t : Token) (us : List Token) → t.kind ≡ kind.CloseBracket → Led (length_line u) nothing_continues (λ n. n) b (t ∷ us) done (λ v. (tree.slice, (t, tt))) 0 us
unfolding then_ token done
slice_led u b t us e =
    led_step us done (λ v. (tree.slice, (t, tt))) tt same_depth (omega arith) (omega arith) (λ c v s. write [] g.length_slice (read e here))
    (λ c v s s' ts' clear r h. let z = behind_part tt r (omega (arith, h)) in slice_by z.rule t v.1.0 us e s s' ts' z.reach h) (length_start u b (t ∷ us))

pub slice_answer : (u : Use) (b : ℕ) (t : Token) (ts us : List Token) → ts ≡ t ∷ us → t.kind ≡ kind.CloseBracket → Found (length_line u) nothing_continues b ts (tree.slice, (t, tt)) 0 us
slice_answer u b t ts us is e = subst (λ (l : List Token). Found (length_line u) nothing_continues b l (tree.slice, (t, tt)) 0 us) (sym is) (led_done same_depth (slice_led u b t us e))

-- `dynamic`
dynamic_by : {u : Use} {c : ℕ} {n : Length} {p : List Sym} (rule : Rule (g.length u c n) p) (t k : Token) (us : List Token) → t.kind ≡ kind.Dynamic → (s s' : List Sym) (ts' : List Token) → Reach s' ts' (p ++ (tok kind.CloseBracket k ∷ s)) (t ∷ us) →
    size s' ts' ≤ 2 * length us → Stepped {U = Length × (Token × Unit {0})} closing (λ v. (tree.dynamic, v)) c (n, (k, tt)) s s' ts' us
unfolding then_ token done
dynamic_by g.length_dynamic t k us e s s' ts' r h = let z = behind_token r (omega (arith, h)) in record { by = (k, tt); is = refl; reach = at_rest z }
dynamic_by g.length_slice t k us e s s' ts' r h = let bad : t.kind ≡ kind.CloseBracket = reach_opens r (omega (arith, h)) in cc
dynamic_by g.length_dollar t k us e s s' ts' r h = let bad : t.kind ≡ kind.Dollar = reach_opens r (omega (arith, h)) in cc
dynamic_by g.length_fixed t k us e s s' ts' r h = absurd (no_expression t.kind kind.Dynamic e refl (reach_opens r (omega (arith, h))))

dynamic_led : (u : Use) (b : ℕ) (t : Token) (us : List Token) → t.kind ≡ kind.Dynamic → Led (length_line u) nothing_continues (λ n. n) b (t ∷ us) closing (λ v. (tree.dynamic, v)) 0 us
unfolding then_ token done
dynamic_led u b t us e =
    led_step us closing (λ v. (tree.dynamic, v)) (sample.token, tt) same_depth (omega arith) (omega arith) (λ c v s. write _ (g.length_dynamic {t = t}) (read e here))
    (λ c v s s' ts' clear r h. let z = behind_part tt r (omega (arith, h)) in dynamic_by z.rule t v.1.0 us e s s' ts' z.reach h) (length_start u b (t ∷ us))

dynamic_at : (u : Use) (b : ℕ) (t : Token) (ts us : List Token) → ts ≡ t ∷ us → t.kind ≡ kind.Dynamic → Led (length_line u) nothing_continues (λ n. n) b ts closing (λ v. (tree.dynamic, v)) 0 us
dynamic_at u b t ts us is e = subst (λ (l : List Token). Led (length_line u) nothing_continues (λ n. n) b l closing (λ v. (tree.dynamic, v)) 0 us) (sym is) (dynamic_led u b t us e)

pub dynamic_answer : (u : Use) (b : ℕ) (t c : Token) (ts us rest : List Token) → ts ≡ t ∷ us → t.kind ≡ kind.Dynamic → us ≡ c ∷ rest → c.kind ≡ kind.CloseBracket → Found (length_line u) nothing_continues b ts (tree.dynamic, (c, tt)) 0 rest
dynamic_answer u b t c ts us rest is e closes k = led_done same_depth (token_read same_depth (dynamic_at u b t ts us is e) (omega arith) closes k)

pub dynamic_refused : (u : Use) (b : ℕ) (t : Token) (ts us : List Token) (stop : Stop) → ts ≡ t ∷ us → t.kind ≡ kind.Dynamic → NotExpected kind.CloseBracket fit.Within us stop → Exact (length_line u) nothing_continues b ts (refused stop)
dynamic_refused u b t ts us stop is e h = token_refused kind.CloseBracket done stop fit.Within same_depth (dynamic_at u b t ts us is e) (λ bad. cc) h

-- `$N`, in the type of a parameter
abbrev named_closing : Part (Token × (Token × Unit {0}))
named_closing = then_ (token kind.Name) closing

dollar_by : {c : ℕ} {n : Length} {p : List Sym} (rule : Rule (g.length Parameter c n) p) (t k : Token) (us : List Token) → t.kind ≡ kind.Dollar → (s s' : List Sym) (ts' : List Token) → Reach s' ts' (p ++ (tok kind.CloseBracket k ∷ s)) (t ∷ us) →
    size s' ts' ≤ 2 * length us → Stepped {U = Length × (Token × Unit {0})} named_closing (λ v. (tree.parametric v.0, v.1)) c (n, (k, tt)) s s' ts' us
unfolding then_ token done
dollar_by (g.length_dollar {n = n}) t k us e s s' ts' r h = let z = behind_token r (omega (arith, h)) in record { by = (n, (k, tt)); is = refl; reach = at_rest z }
dollar_by g.length_slice t k us e s s' ts' r h = let bad : t.kind ≡ kind.CloseBracket = reach_opens r (omega (arith, h)) in cc
dollar_by g.length_dynamic t k us e s s' ts' r h = let bad : t.kind ≡ kind.Dynamic = reach_opens r (omega (arith, h)) in cc
dollar_by g.length_fixed t k us e s s' ts' r h = absurd (no_expression t.kind kind.Dollar e refl (reach_opens r (omega (arith, h))))

dollar_led : (b : ℕ) (t : Token) (us : List Token) → t.kind ≡ kind.Dollar → Led (length_line Parameter) nothing_continues (λ n. n) b (t ∷ us) named_closing (λ v. (tree.parametric v.0, v.1)) 0 us
unfolding then_ token done
dollar_led b t us e =
    led_step us named_closing (λ v. (tree.parametric v.0, v.1)) (sample.token, (sample.token, tt)) same_depth (omega arith) (omega arith) (λ c v s. write _ (g.length_dollar {t = t}) (read e here))
    (λ c v s s' ts' clear r h. let z = behind_part tt r (omega (arith, h)) in dollar_by z.rule t v.1.0 us e s s' ts' z.reach h) (length_start Parameter b (t ∷ us))

dollar_at : (u : Use) (b : ℕ) (t : Token) (ts us : List Token) → u ≡ Parameter → ts ≡ t ∷ us → t.kind ≡ kind.Dollar → Led (length_line u) nothing_continues (λ n. n) b ts named_closing (λ v. (tree.parametric v.0, v.1)) 0 us
dollar_at u b t ts us i is e =
    subst (λ (l : List Token). Led (length_line u) nothing_continues (λ n. n) b l named_closing (λ v. (tree.parametric v.0, v.1)) 0 us) (sym is)
    (subst (λ (u : Use). Led (length_line u) nothing_continues (λ n. n) b (t ∷ us) named_closing (λ v. (tree.parametric v.0, v.1)) 0 us) (sym i) (dollar_led b t us e))

pub parametric_unnamed : (u : Use) (b : ℕ) (t : Token) (ts us : List Token) (stop : Stop) → u ≡ Parameter → ts ≡ t ∷ us → t.kind ≡ kind.Dollar → NotExpected kind.Name fit.Within us stop → Exact (length_line u) nothing_continues b ts (refused stop)
parametric_unnamed u b t ts us stop i is e h = token_refused kind.Name closing stop fit.Within same_depth (dollar_at u b t ts us i is e) (λ bad. cc) h

parametric_named : (u : Use) (b : ℕ) (t n : Token) (ts us vs : List Token) → u ≡ Parameter → ts ≡ t ∷ us → t.kind ≡ kind.Dollar → us ≡ n ∷ vs → n.kind ≡ kind.Name →
    Led (length_line u) nothing_continues (λ n. n) b ts closing (λ v. (tree.parametric n, v)) 0 vs
parametric_named u b t n ts us vs i is e second k = token_read same_depth (dollar_at u b t ts us i is e) (omega arith) second k

pub parametric_refused : (u : Use) (b : ℕ) (t n : Token) (ts us vs : List Token) (stop : Stop) → u ≡ Parameter → ts ≡ t ∷ us → t.kind ≡ kind.Dollar → us ≡ n ∷ vs → n.kind ≡ kind.Name → NotExpected kind.CloseBracket fit.Within vs stop →
    Exact (length_line u) nothing_continues b ts (refused stop)
parametric_refused u b t n ts us vs stop i is e second k h = token_refused kind.CloseBracket done stop fit.Within same_depth (parametric_named u b t n ts us vs i is e second k) (λ bad. cc) h

pub parametric_answer : (u : Use) (b : ℕ) (t n c : Token) (ts us vs rest : List Token) → u ≡ Parameter → ts ≡ t ∷ us → t.kind ≡ kind.Dollar → us ≡ n ∷ vs → n.kind ≡ kind.Name → vs ≡ c ∷ rest → c.kind ≡ kind.CloseBracket →
    Found (length_line u) nothing_continues b ts (tree.parametric n, (c, tt)) 0 rest
parametric_answer u b t n c ts us vs rest i is e second k closes l = led_done same_depth (token_read same_depth (parametric_named u b t n ts us vs i is e second k) (omega arith) closes l)

-- an expression
abbrev fixed_line : Part (Expr × (Token × Unit {0}))
fixed_line = then_ (g.expression Free) closing

fixed_by : {u : Use} {c : ℕ} {n : Length} {p : List Sym} (rule : Rule (g.length u c n) p) (k : Token) (ts : List Token) → StartsWithout kind.CloseBracket ts → StartsWithout kind.Dynamic ts → (u ≡ Parameter → StartsWithout kind.Dollar ts) → (s s' : List Sym) (ts' : List Token) →
    Reach s' ts' (p ++ (tok kind.CloseBracket k ∷ s)) ts → size s' ts' ≤ 2 * length ts → Stepped {U = Length × (Token × Unit {0})} fixed_line (λ v. (tree.fixed v.0, v.1)) c (n, (k, tt)) s s' ts' ts
unfolding then_ token done
fixed_by (g.length_fixed {e = x}) k ts f d o s s' ts' r h = record { by = (x, (k, tt)); is = refl; reach = r }
fixed_by g.length_slice k ts f d o s s' ts' r h = let z = behind_token r h in absurd (without kind.CloseBracket _ _ ts z.is z.kind f)
fixed_by g.length_dynamic k ts f d o s s' ts' r h = let z = behind_token r h in absurd (without kind.Dynamic _ _ ts z.is z.kind d)
fixed_by g.length_dollar k ts f d o s s' ts' r h = let z = behind_token r h in absurd (without kind.Dollar _ _ ts z.is z.kind (o refl))

fixed_led : (u : Use) (b : ℕ) (ts : List Token) → StartsWithout kind.CloseBracket ts → StartsWithout kind.Dynamic ts → (u ≡ Parameter → StartsWithout kind.Dollar ts) → Led (length_line u) nothing_continues (λ n. n) b ts fixed_line (λ v. (tree.fixed v.0, v.1)) 0 ts
unfolding then_ token done
fixed_led u b ts f d o =
    led_step ts fixed_line (λ v. (tree.fixed v.0, v.1)) (sample.expr, (sample.token, tt)) same_depth (omega arith) (omega arith) (λ c v s. write _ g.length_fixed here)
    (λ c v s s' ts' clear r h. let z = behind_part tt r h in fixed_by z.rule v.1.0 ts f d o s s' ts' z.reach h) (length_start u b ts)

bracket_clear : (c : ℕ) (v : Token × Unit {0}) (s : List Sym) → Clear (continues Or Free) (closing c v ++ s)
bracket_clear c v s = token_clear (continues Or Free) kind.CloseBracket refl done c v s

pub fixed_refused : (u : Use) (b : ℕ) (ts : List Token) (stop : Stop) → StartsWithout kind.CloseBracket ts → StartsWithout kind.Dynamic ts → (u ≡ Parameter → StartsWithout kind.Dollar ts) →
    Exact (one (g.expression Free)) (continues Or Free) b ts (refused stop) → Exact (length_line u) nothing_continues b ts (refused stop)
fixed_refused u b ts stop f d o h = part_refused (g.expression Free) (continues Or Free) closing stop same_depth (fixed_led u b ts f d o) (omega arith) h (λ c v s clear. bracket_clear c v s)

fixed_read : (u : Use) (b : ℕ) (ts : List Token) (x : Expr) (n : ℕ) (after : List Token) → StartsWithout kind.CloseBracket ts → StartsWithout kind.Dynamic ts → (u ≡ Parameter → StartsWithout kind.Dollar ts) →
    Found (one (g.expression Free)) (continues Or Free) b ts x n after → Led (length_line u) nothing_continues (λ n. n) b ts closing (λ v. (tree.fixed x, v)) (max 0 n) after
fixed_read u b ts x n after f d o found = led_part same_depth (fixed_led u b ts f d o) (omega arith) found (λ c v s clear. bracket_clear c v s)

pub fixed_unclosed : (u : Use) (b : ℕ) (ts : List Token) (x : Expr) (n : ℕ) (after : List Token) (stop : Stop) (within : Fit) → StartsWithout kind.CloseBracket ts → StartsWithout kind.Dynamic ts → (u ≡ Parameter → StartsWithout kind.Dollar ts) →
    Found (one (g.expression Free)) (continues Or Free) b ts x n after → (within ≡ fit.Over → b < n) → NotExpected kind.CloseBracket within after stop → Exact (length_line u) nothing_continues b ts (refused stop)
fixed_unclosed u b ts x n after stop within f d o found over h = token_refused kind.CloseBracket done stop within same_depth (fixed_read u b ts x n after f d o found) (λ a. let k = over a in omega (arith, k)) h

pub fixed_answer : (u : Use) (b : ℕ) (c : Token) (ts : List Token) (x : Expr) (n : ℕ) (after rest : List Token) → StartsWithout kind.CloseBracket ts → StartsWithout kind.Dynamic ts → (u ≡ Parameter → StartsWithout kind.Dollar ts) →
    Found (one (g.expression Free)) (continues Or Free) b ts x n after → n ≤ b → after ≡ c ∷ rest → c.kind ≡ kind.CloseBracket → Found (length_line u) nothing_continues b ts (tree.fixed x, (c, tt)) n rest
fixed_answer u b c ts x n after rest f d o found within is k = answer_is refl (omega arith) (led_done same_depth (token_read same_depth (fixed_read u b ts x n after f d o found) (omega (arith, within)) is k))

-- the tokens in the brackets are these
pub bracketed_is : (shape : Shape) (at : Place) (ts us vs : List Token) → us ≡ vs → Bracketed shape at ts us → Bracketed shape at ts vs
bracketed_is shape at ts us vs is z = subst (λ (l : List Token). Bracketed shape at ts l) is z

soa_dead : {u : Use} {c : ℕ} {w : Type_} {p : List Sym} (rule : Rule (constructed u c w) p) (t : Token) (us : List Token) → built_form u t ≡ Some built.Soa → StartsWithout kind.OpenBracket us → built_form u t ≡ Some (rule_built rule) → (s s' : List Sym) (ts' : List Token) → Reach s' ts' (p ++ s) (t ∷ us) →
    size s' ts' ≤ 2 * length us → ⊥
soa_dead g.type_soa t us e none f s s' ts' r h =
    let z = (behind_said r (omega (arith, h))).1 in
    let y = behind_token (at_rest z) h in
    without kind.OpenBracket _ _ us y.is y.kind none
soa_dead g.type_soa_counted t us e none f s s' ts' r h =
    let z = (behind_said r (omega (arith, h))).1 in
    let y = behind_token (at_rest z) h in
    without kind.OpenBracket _ _ us y.is y.kind none
soa_dead _ t us e none f s s' ts' r h = cc

soa_broken : (u : Use) (b : ℕ) (t : Token) (us : List Token) → t.kind ≡ kind.Directive → t.word ≡ word.Soa → StartsWithout kind.OpenBracket us → Broken (one (constructed u)) nothing_continues (suc b) (t ∷ us) (length us)
soa_broken u b t us k x none = record {
  short = omega arith;
  comes = record {
    at = λ c h.
        let deeper : suc (c - 1) ≡ c = omega (arith, h) in
        subst (λ (n : ℕ). ComesAt (one (constructed u)) n (t ∷ us) (length us)) deeper (record {
          value = type t.at (tree.soa tree.slice sample.type);
          before = λ s. record { pending = _; rest = us; rest_is = refl; reach = write _ (g.type_soa {o = sample.token} {c = sample.token}) (read_said k x here) };
        });
  };
  none = λ c w s s' ts' clear r h.
      let z = behind_part tt r (omega (arith, h)) in
      soa_dead z.rule t us (soa_form u t k x) none (built_first z.rule s s' ts' t us z.reach (omega (arith, h))) s s' ts' z.reach h;
}

-- no `[` stands behind `#soa`
pub soa_unopened : (u : Use) (b : ℕ) (t : Token) (us : List Token) (stop : Stop) → (t.kind ≡ kind.Directive) × (t.word ≡ word.Soa) → NotExpected kind.OpenBracket fit.Within us stop → ExactAs u (one (constructed u)) nothing_continues (suc b) (t ∷ us) (refused stop)
soa_unopened u b t us (stop.Syntax left) e h =
    subst (λ (k : ℕ). Broken (one (constructed u)) nothing_continues (suc b) (t ∷ us) k) (sym h.0) (soa_broken u b t us e.0 e.1 h.1)
soa_unopened u b t us (stop.Deep left) e h = let bad : fit.Within ≡ fit.Over = h.over in cc
soa_unopened u b t us stop.Memory e h = elim h [ ]
