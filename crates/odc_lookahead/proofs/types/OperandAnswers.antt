-- Operands: their answers by form.
use Rattle.std.proofs.Common.{◌≡◌, ℕ, suc, ◌-◌, ◌*◌, ◌<◌, ◌≤◌, max, Bool, true, false, List, [], ◌∷◌, ◌++◌, length, refl, sym, ◌∙◌, ap, subst, arith, Some, None}
use Rattle.odc_syntax.specs.declared.token.Token.{Token}
use Rattle.odc_syntax.specs.declared.token.TokenKind.{TokenKind}
use Rattle.odc_syntax.specs.declared.token.TokenKind.TheVariants as kind
use Rattle.odc_syntax.specs.declared.token.Word.{Word}
use Rattle.odc_syntax.specs.declared.token.Word.TheVariants as word
use Rattle.odc_syntax.specs.declared.grammar.Mode.{Mode}
use Rattle.odc_syntax.specs.declared.grammar.Mode.TheVariants.{Free, Header, Start}
use Rattle.odc_syntax.specs.declared.grammar.Use.{Use}
use Rattle.odc_syntax.specs.declared.grammar.Use.TheVariants.{Operand, Parameter}
use Rattle.odc_syntax.specs.declared.grammar.Level.TheVariants.{Or}
use Rattle.odc_syntax.specs.Tree.{Expr, expr, Args, Type_}
use Rattle.odc_syntax.specs.Tree as tree
use Rattle.odc_syntax.specs.Grammar.{Sym, Rule, operand}
use Rattle.odc_syntax.specs.Grammar as g
use Rattle.odc_syntax.specs.Derives.{Reach, here, read, read_said, write}
use Rattle.odc_lookahead.specs.declared.stop.Stop.{Stop}
use Rattle.odc_lookahead.specs.declared.end.End.{End}
use Rattle.odc_lookahead.specs.Ends.{FoundTo, FoundAs, ExactAs}
use Rattle.odc_lookahead.specs.declared.operand.OperandForm.{OperandForm}
use Rattle.odc_lookahead.specs.declared.operand.OperandForm.TheVariants as form
use Rattle.odc_lookahead.specs.Exact.{size, Part, one, then_, done, token, Exact, ComesAt, Found, Broken, TooDeep}
use Rattle.odc_lookahead.specs.Forms.{form_by, operand_form, leaf_of}
use Rattle.odc_lookahead.specs.Parts.{arguments}
use Rattle.odc_lookahead.specs.Read.{refused, NotExpected, StartsWith}
use Rattle.odc_lookahead.specs.Sets.{continues, nothing_continues}
use Rattle.odc_lookahead.proofs.reading.Reaching.{behind_token, behind_part}
use Rattle.odc_lookahead.proofs.reading.Leading.{one_deeper, Pending, Led, led_part, led_done, first_is, at_rest}
use Rattle.odc_lookahead.proofs.reading.Answering.{led_at, led_rest, led_rest_refused, part_refused, token_refused, token_read, answer_is}
use Rattle.odc_lookahead.proofs.expr.FormLemmas.{operand_kind_is}
use Rattle.odc_lookahead.proofs.expr.OperandLemmas.{rule_form, operand_first, name_found, int_found, rune_found, text_found, context_found, location_found, group_line, group_led, literal_led, type_led, type_operand}
use Rattle.odc_lookahead.proofs.expr.SuffixAnswers.{token_clear}
use Rattle.odc_lookahead.proofs.expr.WholeLemmas.{costs_operand}
use Rattle.odc_lookahead.proofs.reading.Carrying.{answer_to}
use Rattle.odc_lookahead.proofs.reading.EndLemmas.{led_rest_to, as_refused}
use Rattle.odc_lookahead.proofs.reading.Samples as sample
use Rattle.odc_lookahead.specs.declared.tokens.Fit.{Fit}
use Rattle.odc_lookahead.specs.declared.tokens.Fit.TheVariants as fit

inside : {a b : tree.ExprKind} → Some a ≡ Some b → a ≡ b
inside e = cc

leaf_is : {m : Mode} {b : ℕ} {t : Token} {us : List Token} (a k : tree.ExprKind) → Some a ≡ Some k → Found (one (operand m)) nothing_continues (suc b) (t ∷ us) (expr t.at t.at a) 1 us → Found (one (operand m)) nothing_continues (suc b) (t ∷ us) (expr t.at t.at k) 1 us
leaf_is {t = t} a k e found = answer_is (ap (λ (k : tree.ExprKind). expr t.at t.at k) (inside e)) refl found

-- an operand of one token
leaf_by : (m : Mode) (b : ℕ) (t : Token) (us : List Token) (f : OperandForm) (k : tree.ExprKind) → operand_form m t ≡ f → leaf_of f t ≡ Some k → Found (one (operand m)) nothing_continues (suc b) (t ∷ us) (expr t.at t.at k) 1 us
leaf_by m b t us form.Name k e l = leaf_is _ k l (name_found m b t us (operand_kind_is m t.kind t.word form.Name e))
leaf_by m b t us form.Int k e l = leaf_is _ k l (int_found m b t us (operand_kind_is m t.kind t.word form.Int e))
leaf_by m b t us form.Rune k e l = leaf_is _ k l (rune_found m b t us (operand_kind_is m t.kind t.word form.Rune e))
leaf_by m b t us form.Text k e l = leaf_is _ k l (text_found m b t us (operand_kind_is m t.kind t.word form.Text e))
leaf_by m b t us form.Context k e l = leaf_is _ k l (context_found m b t us (operand_kind_is m t.kind t.word form.Context e))
leaf_by m b t us form.Location k e l = let i = operand_kind_is m t.kind t.word form.Location e in leaf_is _ k l (location_found m b t us i.0 i.1)
leaf_by m b t us _ k e l = cc

-- at a bound that leaves a node
deeper_bound : {m : Mode} {ts : List Token} {v : Expr} {n : ℕ} {rest : List Token} (d b : ℕ) → d ≡ suc b → Found (one (operand m)) nothing_continues (suc b) ts v n rest → Found (one (operand m)) nothing_continues d ts v n rest
deeper_bound {m} {ts} {v} {n} {rest} d b e h = subst (λ (k : ℕ). Found (one (operand m)) nothing_continues k ts v n rest) (sym e) h

pub leaf_answer : (m : Mode) (d b : ℕ) (t : Token) (ts us : List Token) (f : OperandForm) (k : tree.ExprKind) → d ≡ suc b → ts ≡ t ∷ us → operand_form m t ≡ f → leaf_of f t ≡ Some k → Found (one (operand m)) nothing_continues d ts (expr t.at t.at k) 1 us
leaf_answer m d b t ts us f k at is e l =
    deeper_bound d b at (subst (λ (l : List Token). Found (one (operand m)) nothing_continues (suc b) l (expr t.at t.at k) 1 us) (sym is) (leaf_by m b t us f k e l))

-- no operand begins here
nothing_by : {m : Mode} {c : ℕ} {w : Expr} {p : List Sym} (rule : Rule (operand m c w) p) → form.Nothing ≡ rule_form rule → ⊥
nothing_by g.operand_name e = cc
nothing_by g.operand_int e = cc
nothing_by g.operand_rune e = cc
nothing_by g.operand_text e = cc
nothing_by g.operand_context e = cc
nothing_by g.operand_location e = cc
nothing_by g.operand_dot e = cc
nothing_by g.operand_literal e = cc
nothing_by g.operand_group e = cc
nothing_by g.operand_type e = cc
nothing_by g.operand_proc_type e = cc
nothing_by g.operand_proc e = cc

pub nothing_broken : (m : Mode) (b : ℕ) (t : Token) (ts us : List Token) (f : OperandForm) → ts ≡ t ∷ us → operand_form m t ≡ f → f ≡ form.Nothing → Broken (one (operand m)) nothing_continues b ts (length ts)
nothing_broken m b t ts us f is e i =
    subst (λ (l : List Token). Broken (one (operand m)) nothing_continues b l (length l)) (sym is) (record {
      short = omega arith;
      comes = record { at = λ c h. record { value = sample.expr; before = λ s. record { pending = operand m c sample.expr ∷ s; rest = t ∷ us; rest_is = refl; reach = here } } };
      none = λ c w s s' ts' clear r h.
          let z = behind_part tt r h in
          nothing_by z.rule (sym (e ∙ i) ∙ operand_first z.rule s s' ts' t us z.reach h);
    })

-- every operand costs a level
begun : {m : Mode} {c : ℕ} {ts : List Token} {left : ℕ} (v : Expr) → ((s : List Sym) → (p : List Sym) × ((us : List Token) × ((length us ≡ left) × Reach (p ++ s) us (operand m c v ∷ s) ts))) → ComesAt (one (operand m)) c ts left
begun v f = record { value = v; before = λ s. let z = f s in record { pending = z.0 ++ s; rest = z.1.0; rest_is = z.1.1.0; reach = z.1.1.1 } }

no_signature : tree.Signature
no_signature = tree.signature sample.place None tree.no_params tree.no_results

type_begins : (m : Mode) (k : TokenKind) (w : Word) (c : ℕ) (t : Token) (us : List Token) → t.kind ≡ k → t.word ≡ w → form_by m k w ≡ form.Type → ComesAt (one (operand m)) (suc (suc c)) (t ∷ us) (length us)
type_begins m kind.Caret w c t us e f i = begun (type_operand (tree.type t.at (tree.pointer sample.type))) (λ s. (g.type_ (g.at_end (g.operand_use m)) c sample.type ∷ [], (us, (refl, write _ g.operand_type (write _ g.type_pointer (read e here))))))
type_begins m kind.Distinct w c t us e f i = begun (type_operand (tree.type t.at (tree.distinct sample.type))) (λ s. (g.type_ (g.at_end (g.operand_use m)) c sample.type ∷ [], (us, (refl, write _ g.operand_type (write _ g.type_distinct (read e here))))))
type_begins m kind.OpenBracket w c t us e f i =
    begun (type_operand (tree.type t.at (tree.array tree.slice sample.type)))
    (λ s. (g.length (g.operand_use m) c tree.slice ∷ g.tok kind.CloseBracket sample.token ∷ g.type_ (g.at_end (g.operand_use m)) c sample.type ∷ [], (us, (refl, write _ g.operand_type (write _ (g.type_array {c = sample.token}) (read e here))))))
type_begins m kind.Struct w c t us e f i =
    begun (type_operand (tree.type t.at (tree.struct tree.no_fields)))
    (λ s. (g.tok kind.OpenBrace sample.token ∷ g.fields (g.inside (g.operand_use m)) c tree.no_fields ∷ g.tok kind.CloseBrace sample.token ∷ [], (us, (refl, write _ g.operand_type (write _ (g.type_struct {o = sample.token} {c = sample.token}) (read e here))))))
type_begins m kind.Union w c t us e f i =
    begun (type_operand (tree.type t.at (tree.union tree.no_types)))
    (λ s. (g.tok kind.OpenBrace sample.token ∷ g.types (g.inside (g.operand_use m)) c tree.no_types ∷ g.tok kind.CloseBrace sample.token ∷ [], (us, (refl, write _ g.operand_type (write _ (g.type_union {o = sample.token} {c = sample.token}) (read e here))))))
type_begins m kind.Enum w c t us e f i =
    begun (type_operand (tree.type t.at (tree.enum tree.no_type tree.no_enumerators)))
    (λ s. (
      g.maybe_type (g.inside (g.operand_use m)) c tree.no_type ∷ g.tok kind.OpenBrace sample.token ∷ g.enumerators c tree.no_enumerators ∷ g.tok kind.CloseBrace sample.token ∷ [],
      (us, (refl, write _ g.operand_type (write _ (g.type_enum {o = sample.token} {c = sample.token}) (read e here)))),
    ))
type_begins m kind.Directive word.Soa c t us e f i =
    begun (type_operand (tree.type t.at (tree.soa tree.slice sample.type)))
    (λ s. (
      g.tok kind.OpenBracket sample.token ∷ g.length (g.operand_use m) c tree.slice ∷ g.tok kind.CloseBracket sample.token ∷ g.type_ (g.at_end (g.operand_use m)) c sample.type ∷ [],
      (us, (refl, write _ g.operand_type (write _ (g.type_soa {o = sample.token} {c = sample.token}) (read_said e f here)))),
    ))
type_begins m kind.Directive word.Type c t us e f i =
    begun (type_operand (tree.type t.at (tree.proc no_signature))) (λ s. (g.sig (g.operand_use m) c no_signature ∷ [], (us, (refl, write _ g.operand_type (write _ g.type_word_proc (read_said e f here))))))
type_begins m kind.Directive _ c t us e f i = cc
type_begins Free kind.OpenBrace w c t us e f i = cc
type_begins Header kind.OpenBrace w c t us e f i = cc
type_begins Start kind.OpenBrace w c t us e f i = cc
type_begins m _ w c t us e f i = cc

brace_begins : (m : Mode) → m ≡ Free → (c : ℕ) (t : Token) (us : List Token) → t.kind ≡ kind.OpenBrace → ComesAt (one (operand m)) (suc c) (t ∷ us) (length us)
brace_begins m e c t us k =
    subst (λ (m : Mode). ComesAt (one (operand m)) (suc c) (t ∷ us) (length us)) (sym e)
    (begun (expr t.at t.at (tree.literal tree.no_expr tree.no_args)) (λ s. (g.args c tree.no_args ∷ g.tok kind.CloseBrace sample.token ∷ [], (us, (refl, write _ (g.operand_literal {c = sample.token}) (read k here))))))

begins_by : (m : Mode) (f : OperandForm) (c : ℕ) (t : Token) (us : List Token) → operand_form m t ≡ f → (f ≡ form.Nothing → ⊥) → ComesAt (one (operand m)) (suc (suc c)) (t ∷ us) (length us)
begins_by m form.Name c t us e some = begun (expr t.at t.at (tree.name t)) (λ s. ([], (us, (refl, write _ g.operand_name (read (operand_kind_is m t.kind t.word form.Name e) here)))))
begins_by m form.Int c t us e some = begun (expr t.at t.at (tree.int t)) (λ s. ([], (us, (refl, write _ g.operand_int (read (operand_kind_is m t.kind t.word form.Int e) here)))))
begins_by m form.Rune c t us e some = begun (expr t.at t.at (tree.rune t)) (λ s. ([], (us, (refl, write _ g.operand_rune (read (operand_kind_is m t.kind t.word form.Rune e) here)))))
begins_by m form.Text c t us e some = begun (expr t.at t.at (tree.text t)) (λ s. ([], (us, (refl, write _ g.operand_text (read (operand_kind_is m t.kind t.word form.Text e) here)))))
begins_by m form.Context c t us e some = begun (expr t.at t.at tree.context) (λ s. ([], (us, (refl, write _ g.operand_context (read (operand_kind_is m t.kind t.word form.Context e) here)))))
begins_by m form.Location c t us e some = let i = operand_kind_is m t.kind t.word form.Location e in begun (expr t.at t.at tree.location) (λ s. ([], (us, (refl, write _ g.operand_location (read_said i.0 i.1 here)))))
begins_by m form.Dot c t us e some =
    begun (expr t.at t.at (tree.dot sample.token)) (λ s. (g.tok kind.Name sample.token ∷ [], (us, (refl, write _ g.operand_dot (read (operand_kind_is m t.kind t.word form.Dot e) here)))))
begins_by m form.Literal c t us e some = let i = operand_kind_is m t.kind t.word form.Literal e in brace_begins m i.1 (suc c) t us i.0
begins_by m form.Group c t us e some =
    begun (g.opened t.at sample.expr)
    (λ s. (g.expression Free (suc c) sample.expr ∷ g.tok kind.CloseParen sample.token ∷ [], (us, (refl, write _ (g.operand_group {c = sample.token}) (read (operand_kind_is m t.kind t.word form.Group e) here)))))
begins_by m form.Type c t us e some = type_begins m t.kind t.word c t us refl refl e
begins_by m form.Proc c t us e some =
    begun (expr t.at t.at (tree.proc_lit (tree.signature t.at None tree.no_params tree.no_results) tree.no_stmts))
    (λ s. (
      g.maybe_token kind.Text None ∷ g.tok kind.OpenParen sample.token ∷ g.params Parameter (suc c) tree.no_params ∷ g.tok kind.CloseParen sample.token ∷ g.results Operand (suc c) tree.no_results ∷ g.block_ (g.later m) (suc c) tree.no_stmts ∷ [],
      (us, (refl, write _ g.operand_proc (write _ (g.sig_ {o = sample.token} {c = sample.token}) (read (operand_kind_is m t.kind t.word form.Proc e) here)))),
    ))
begins_by m form.Nothing c t us e some = absurd (some refl)

-- an operand begins, and no bound allows it
pub operand_deep : (m : Mode) (d : ℕ) (t : Token) (ts us : List Token) (f : OperandForm) → d ≡ 0 → ts ≡ t ∷ us → operand_form m t ≡ f → (f ≡ form.Nothing → ⊥) → TooDeep (one (operand m)) nothing_continues d ts (length us)
operand_deep m d t ts us f zero' is e some =
    subst (λ (k : ℕ). TooDeep (one (operand m)) nothing_continues k ts (length us)) (sym zero') (subst (λ (l : List Token). TooDeep (one (operand m)) nothing_continues 0 l (length us)) (sym is) (record {
      short = omega arith;
      comes = record { at = λ c h. record { value = sample.expr; before = λ s. record { pending = operand m c sample.expr ∷ s; rest = t ∷ us; rest_is = refl; reach = here } } };
      deep = λ c w s s' ts' clear r h. costs_operand r (omega (arith, h));
      depth = 2;
      deeper = record {
        at = λ c h.
            let k : suc (suc (c - 2)) ≡ c = omega (arith, h) in
            subst (λ (n : ℕ). ComesAt (one (operand m)) n (t ∷ us) (length us)) k (begins_by m f (c - 2) t us e some);
      };
    }))

-- `.A`
abbrev dot_line : Part (Token × Unit {0})
dot_line = then_ (token kind.Name) done

dot_split : (m : Mode) (t : Token) (us : List Token) → operand_form m t ≡ form.Dot → (c : ℕ) (w : Expr) (p : List Sym) (rule : Rule (operand m c w) p) → operand_form m t ≡ rule_form rule →
    (s s' : List Sym) (ts' : List Token) → Reach s' ts' (p ++ s) (t ∷ us) → size s' ts' ≤ 2 * length us → Pending (λ n. suc n) dot_line (λ u. expr t.at t.at (tree.dot u.0)) 0 us c w s s' ts'
unfolding then_ token done
dot_split m t us e c w p (g.operand_dot {b = b} {n = n}) f s s' ts' r h =
    let z = behind_token r (omega (arith, h)) in
    record { at = b; value = (n, tt); bound = refl; whole = ap (λ (t : Token). expr t.at t.at (tree.dot n)) (first_is z.is); deep = omega arith; reach = at_rest z }
dot_split m t us e c w p _ f s s' ts' r h = cc

dot_led : (m : Mode) (b : ℕ) (t : Token) (us : List Token) → operand_form m t ≡ form.Dot → Led (one (operand m)) nothing_continues (λ n. suc n) b (t ∷ us) dot_line (λ u. expr t.at t.at (tree.dot u.0)) 0 us
unfolding then_ token done
dot_led m b t us e =
    led_at b us dot_line (λ u. expr t.at t.at (tree.dot u.0)) (sample.token, tt) (omega arith) one_deeper (λ c v. tt) (λ c u s. write _ g.operand_dot (read (operand_kind_is m t.kind t.word form.Dot e) here))
    (λ c w p rule s s' ts' r h clear. dot_split m t us e c w p rule (operand_first rule s s' ts' t us r (omega (arith, h))) s s' ts' r h)

pub dot_answer : (m : Mode) (b : ℕ) (t n : Token) (us rest : List Token) (f : OperandForm) → f ≡ form.Dot → operand_form m t ≡ f → us ≡ n ∷ rest → n.kind ≡ kind.Name → Found (one (operand m)) nothing_continues (suc b) (t ∷ us) (expr t.at t.at (tree.dot n)) 1 rest
dot_answer m b t n us rest f i e is k = led_done one_deeper (token_read one_deeper (dot_led m b t us (e ∙ i)) (omega arith) is k)

pub dot_refused : (m : Mode) (b : ℕ) (t : Token) (us : List Token) (f : OperandForm) (stop : Stop) → f ≡ form.Dot → operand_form m t ≡ f → NotExpected kind.Name fit.Within us stop → Exact (one (operand m)) nothing_continues (suc b) (t ∷ us) (refused stop)
dot_refused m b t us f stop i e h = token_refused kind.Name done stop fit.Within one_deeper (dot_led m b t us (e ∙ i)) (λ bad. cc) h

-- an expression in parentheses
group_at : (m : Mode) (b : ℕ) (t : Token) (us : List Token) (f : OperandForm) → f ≡ form.Group → operand_form m t ≡ f → Led (one (operand m)) nothing_continues (λ n. suc n) b (t ∷ us) group_line (λ u. g.opened t.at u.0) 0 us
group_at m b t us f i e = group_led m b t us (operand_kind_is m t.kind t.word form.Group (e ∙ i))

group_read : (m : Mode) (b : ℕ) (t : Token) (us : List Token) (f : OperandForm) (x : Expr) (n : ℕ) (after : List Token) → f ≡ form.Group → operand_form m t ≡ f → Found (one (g.expression Free)) (continues Or Free) b us x n after →
    Led (one (operand m)) nothing_continues (λ n. suc n) b (t ∷ us) (then_ (token kind.CloseParen) done) (λ u. g.opened t.at x) (max 0 n) after
group_read m b t us f x n after i e found = led_part one_deeper (group_at m b t us f i e) (omega arith) found (λ c u s clear. token_clear (continues Or Free) kind.CloseParen refl done c u s)

pub group_refused : (m : Mode) (b : ℕ) (t : Token) (us : List Token) (f : OperandForm) (stop : Stop) → f ≡ form.Group → operand_form m t ≡ f → Exact (one (g.expression Free)) (continues Or Free) b us (refused stop) →
    Exact (one (operand m)) nothing_continues (suc b) (t ∷ us) (refused stop)
group_refused m b t us f stop i e h =
    part_refused (g.expression Free) (continues Or Free) (then_ (token kind.CloseParen) done) stop one_deeper (group_at m b t us f i e) (omega arith) h (λ c u s clear. token_clear (continues Or Free) kind.CloseParen refl done c u s)

pub group_unclosed : (m : Mode) (b : ℕ) (t : Token) (us : List Token) (f : OperandForm) (x : Expr) (n : ℕ) (after : List Token) (stop : Stop) (within : Fit) → f ≡ form.Group → operand_form m t ≡ f →
    Found (one (g.expression Free)) (continues Or Free) b us x n after → (within ≡ fit.Over → b < n) → NotExpected kind.CloseParen within after stop → Exact (one (operand m)) nothing_continues (suc b) (t ∷ us) (refused stop)
group_unclosed m b t us f x n after stop within i e found over h =
    token_refused kind.CloseParen done stop within one_deeper (group_read m b t us f x n after i e found) (λ a. let k = over a in omega (arith, k)) h

pub group_answer : (m : Mode) (b : ℕ) (t c : Token) (us : List Token) (f : OperandForm) (x w : Expr) (n k : ℕ) (after rest : List Token) → f ≡ form.Group → operand_form m t ≡ f →
    Found (one (g.expression Free)) (continues Or Free) b us x n after → n ≤ b → after ≡ c ∷ rest → c.kind ≡ kind.CloseParen → w ≡ g.opened t.at x → k ≡ suc n → Found (one (operand m)) nothing_continues (suc b) (t ∷ us) w k rest
group_answer m b t c us f x w n k after rest i e found within is closes made high =
    answer_is (sym made) (omega (arith, high)) (led_done one_deeper (token_read one_deeper (group_read m b t us f x n after i e found) (omega (arith, within)) is closes))

-- `{..}`
brace_led : (m : Mode) → m ≡ Free → (b : ℕ) (t : Token) (us : List Token) → t.kind ≡ kind.OpenBrace → Led (one (operand m)) nothing_continues (λ n. suc n) b (t ∷ us) (arguments kind.CloseBrace) (λ u. expr t.at t.at (tree.literal tree.no_expr u.0)) 0 us
brace_led m e b t us k =
    subst (λ (m : Mode). Led (one (operand m)) nothing_continues (λ n. suc n) b (t ∷ us) (arguments kind.CloseBrace) (λ u. expr t.at t.at (tree.literal tree.no_expr u.0)) 0 us) (sym e) (literal_led b t us k)

pub brace_answer : (m : Mode) (b : ℕ) (t : Token) (us : List Token) (f : OperandForm) (v : Args × (Token × Unit {0})) (w : Expr) (n k : ℕ) (rest : List Token) → f ≡ form.Literal → operand_form m t ≡ f →
    Found (arguments kind.CloseBrace) nothing_continues b us v n rest → w ≡ expr t.at t.at (tree.literal tree.no_expr v.0) → k ≡ suc n → Found (one (operand m)) nothing_continues (suc b) (t ∷ us) w k rest
brace_answer m b t us f v w n k rest i e found made high =
    let z = operand_kind_is m t.kind t.word form.Literal (e ∙ i) in
    answer_is (sym made) (omega (arith, high)) (led_rest one_deeper (brace_led m z.1 b t us z.0) (omega arith) found)

pub brace_refused : (m : Mode) (b : ℕ) (t : Token) (us : List Token) (f : OperandForm) (stop : Stop) → f ≡ form.Literal → operand_form m t ≡ f →
    Exact (arguments kind.CloseBrace) nothing_continues b us (refused stop) → Exact (one (operand m)) nothing_continues (suc b) (t ∷ us) (refused stop)
brace_refused m b t us f stop i e h = let z = operand_kind_is m t.kind t.word form.Literal (e ∙ i) in led_rest_refused stop one_deeper (brace_led m z.1 b t us z.0) (omega arith) h

-- a type that is an operand may end before a `.`, whether a literal may follow it or not
ends_before : {V : Type 0} (m : Mode) (p : Part V) (cont : TokenKind → Bool) (b : ℕ) (ts : List Token) (v : V) (n : ℕ) (rest : List Token) (end : End) →
    FoundAs (g.operand_use m) p cont b ts v n rest end → FoundTo p cont b ts v n rest end
ends_before Free p cont b ts v n rest end f = f
ends_before Header p cont b ts v n rest end f = f
ends_before Start p cont b ts v n rest end f = f

pub constructed_found : (m : Mode) (u : Use) (b : ℕ) (ts : List Token) (ty : Type_) (n : ℕ) (rest : List Token) (end : End) → u ≡ g.operand_use m →
    FoundAs u (one (g.constructed u)) nothing_continues b ts ty n rest end → FoundTo (one (g.constructed (g.operand_use m))) nothing_continues b ts ty n rest end
constructed_found m u b ts ty n rest end e found =
    ends_before m (one (g.constructed (g.operand_use m))) nothing_continues b ts ty n rest end (subst (λ (u : Use). FoundAs u (one (g.constructed u)) nothing_continues b ts ty n rest end) e found)

pub constructed_refused : (m : Mode) (u : Use) (b : ℕ) (ts : List Token) (stop : Stop) → u ≡ g.operand_use m →
    ExactAs u (one (g.constructed u)) nothing_continues b ts (refused stop) → Exact (one (g.constructed (g.operand_use m))) nothing_continues b ts (refused stop)
constructed_refused m u b ts stop e h =
    subst (λ (u : Use). Exact (one (g.constructed u)) nothing_continues b ts (refused stop)) e (as_refused (one (g.constructed u)) nothing_continues b ts u stop h)

-- a type
pub type_answer : (m : Mode) (b : ℕ) (t : Token) (us : List Token) (f : OperandForm) (ty : Type_) (w : Expr) (n k : ℕ) (rest : List Token) (end : End) → f ≡ form.Type → operand_form m t ≡ f →
    FoundTo (one (g.constructed (g.operand_use m))) nothing_continues b (t ∷ us) ty n rest end → w ≡ type_operand ty → k ≡ suc n → FoundTo (one (operand m)) nothing_continues (suc b) (t ∷ us) w k rest end
type_answer m b t us f ty w n k rest end i e found made high = answer_to (sym made) (omega (arith, high)) (led_rest_to one_deeper (type_led m b t us (e ∙ i)) (omega arith) found)

pub type_refused : (m : Mode) (b : ℕ) (t : Token) (us : List Token) (f : OperandForm) (stop : Stop) → f ≡ form.Type → operand_form m t ≡ f →
    Exact (one (g.constructed (g.operand_use m))) nothing_continues b (t ∷ us) (refused stop) → Exact (one (operand m)) nothing_continues (suc b) (t ∷ us) (refused stop)
type_refused m b t us f stop i e h = led_rest_refused stop one_deeper (type_led m b t us (e ∙ i)) (omega arith) h

-- a procedure stands first
pub proc_first : (m : Mode) (t : Token) (ts us : List Token) (f : OperandForm) → ts ≡ t ∷ us → f ≡ form.Proc → operand_form m t ≡ f → StartsWith kind.Proc ts
proc_first m t ts us f is i e = subst (λ (l : List Token). StartsWith kind.Proc l) (sym is) (operand_kind_is m t.kind t.word form.Proc (e ∙ i))

-- what is neither one token nor none has one of these forms
pub no_other : (f : OperandForm) (t : Token) → leaf_of f t ≡ None → (f ≡ form.Nothing → ⊥) → (f ≡ form.Dot → ⊥) → (f ≡ form.Group → ⊥) → (f ≡ form.Literal → ⊥) → (f ≡ form.Type → ⊥) → (f ≡ form.Proc → ⊥) → ⊥
no_other form.Dot t leaf some dot group literal type' proc = dot refl
no_other form.Group t leaf some dot group literal type' proc = group refl
no_other form.Literal t leaf some dot group literal type' proc = literal refl
no_other form.Type t leaf some dot group literal type' proc = type' refl
no_other form.Proc t leaf some dot group literal type' proc = proc refl
no_other form.Nothing t leaf some dot group literal type' proc = some refl
no_other form.Name t leaf some dot group literal type' proc = cc
no_other form.Int t leaf some dot group literal type' proc = cc
no_other form.Rune t leaf some dot group literal type' proc = cc
no_other form.Text t leaf some dot group literal type' proc = cc
no_other form.Context t leaf some dot group literal type' proc = cc
no_other form.Location t leaf some dot group literal type' proc = cc
