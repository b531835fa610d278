-- How types begin: their form by the first token, what no type begins with, and that a type costs a level.
use Rattle.std.proofs.Common.{◌≡◌, ℕ, suc, ◌-◌, ◌*◌, ◌<◌, ◌≤◌, List, [], ◌∷◌, ◌++◌, length, refl, sym, ◌∙◌, ap, subst, arith, Option, Some, None}
use Rattle.odc_syntax.specs.declared.token.Token.{Token}
use Rattle.odc_syntax.specs.declared.token.TokenKind.{TokenKind}
use Rattle.odc_syntax.specs.declared.token.TokenKind.TheVariants as kind
use Rattle.odc_syntax.specs.declared.token.Word.{Word}
use Rattle.odc_syntax.specs.declared.token.Word.TheVariants as word
use Rattle.odc_syntax.specs.declared.grammar.Use.{Use}
use Rattle.odc_syntax.specs.declared.grammar.Use.TheVariants.{Plain, Parameter, Operand, OperandEnd}
use Rattle.odc_syntax.specs.Tree.{Type_, type}
use Rattle.odc_syntax.specs.Tree as tree
use Rattle.odc_syntax.specs.Grammar.{Sym, tok, Rule, type_, constructed, at_end, inside}
use Rattle.odc_syntax.specs.Grammar as g
use Rattle.odc_syntax.specs.Derives.{Reach, here, read, read_said, write}
use Rattle.odc_lookahead.specs.declared.type_form.OwnForm.{OwnForm}
use Rattle.odc_lookahead.specs.declared.type_form.OwnForm.TheVariants as own
use Rattle.odc_lookahead.specs.declared.type_form.BuiltForm.{BuiltForm}
use Rattle.odc_lookahead.specs.declared.type_form.BuiltForm.TheVariants as built
use Rattle.odc_lookahead.specs.Exact.{size, one, ComesAt, Broken, TooDeep}
use Rattle.odc_lookahead.specs.Sets.{nothing_continues}
use Rattle.odc_lookahead.specs.TypeForms.{own_form, word_form, built_by, built_form}
use Rattle.odc_lookahead.proofs.reading.Opening.{reach_opens}
use Rattle.odc_lookahead.proofs.reading.Reaching.{behind_said, behind_part}
use Rattle.odc_lookahead.proofs.reading.Leading.{Pending, Led, first_is}
use Rattle.odc_lookahead.proofs.reading.Answering.{led_start, at_start}
use Rattle.odc_lookahead.proofs.reading.Samples as sample

-- the form of each production
abbrev pub rule_built : {u : Use} {c : ℕ} {w : Type_} {p : List Sym} → Rule (constructed u c w) p → BuiltForm
rule_built g.type_pointer = built.Pointer
rule_built g.type_distinct = built.Distinct
rule_built g.type_dollar = built.Dollar
rule_built g.type_word_proc = built.WordProc
rule_built g.type_array = built.Array
rule_built g.type_counted = built.Array
rule_built g.type_soa = built.Soa
rule_built g.type_soa_counted = built.Soa
rule_built g.type_struct = built.Struct
rule_built g.type_union = built.Union
rule_built g.type_enum = built.Enum

says : {s' : List Sym} {ts' : List Token} {k : TokenKind} {x : Word} {u t : Token} {s : List Sym} {us : List Token} → Reach s' ts' (g.said k x u ∷ s) (t ∷ us) → size s' ts' ≤ 2 * length (t ∷ us) → t.word ≡ x
says r h = let z = behind_said r h in ap (λ (t : Token). t.word) (sym (first_is z.1.is)) ∙ z.0

-- the first token tells the production's form
pub built_first : {u : Use} {c : ℕ} {w : Type_} {p : List Sym} (rule : Rule (constructed u c w) p) (s s' : List Sym) (ts' : List Token) (t : Token) (us : List Token) → Reach s' ts' (p ++ s) (t ∷ us) →
    size s' ts' ≤ 2 * length (t ∷ us) → built_form u t ≡ Some (rule_built rule)
built_first (g.type_pointer {u = u}) s s' ts' t us r h = ap (λ (k : TokenKind). built_by u k t.word) (reach_opens r h)
built_first (g.type_distinct {u = u}) s s' ts' t us r h = ap (λ (k : TokenKind). built_by u k t.word) (reach_opens r h)
built_first g.type_dollar s s' ts' t us r h = ap (λ (k : TokenKind). built_by Parameter k t.word) (reach_opens r h)
built_first (g.type_word_proc {u = u}) s s' ts' t us r h = let k : t.kind ≡ kind.Directive = reach_opens r h in let w = says r h in λ i. built_by u (k i) (w i)
built_first (g.type_array {u = u}) s s' ts' t us r h = ap (λ (k : TokenKind). built_by u k t.word) (reach_opens r h)
built_first (g.type_counted {u = u}) s s' ts' t us r h = ap (λ (k : TokenKind). built_by u k t.word) (reach_opens r h)
built_first (g.type_soa {u = u}) s s' ts' t us r h = let k : t.kind ≡ kind.Directive = reach_opens r h in let w = says r h in λ i. built_by u (k i) (w i)
built_first (g.type_soa_counted {u = u}) s s' ts' t us r h = let k : t.kind ≡ kind.Directive = reach_opens r h in let w = says r h in λ i. built_by u (k i) (w i)
built_first (g.type_struct {u = u}) s s' ts' t us r h = ap (λ (k : TokenKind). built_by u k t.word) (reach_opens r h)
built_first (g.type_union {u = u}) s s' ts' t us r h = ap (λ (k : TokenKind). built_by u k t.word) (reach_opens r h)
built_first (g.type_enum {u = u}) s s' ts' t us r h = ap (λ (k : TokenKind). built_by u k t.word) (reach_opens r h)

-- the first token from the form
abbrev pub BuiltKind : Use → TokenKind → Word → Option BuiltForm → Type 0
BuiltKind u k w (Some built.Pointer) = k ≡ kind.Caret
BuiltKind u k w (Some built.Distinct) = k ≡ kind.Distinct
BuiltKind u k w (Some built.Dollar) = (k ≡ kind.Dollar) × (u ≡ Parameter)
BuiltKind u k w (Some built.WordProc) = (k ≡ kind.Directive) × (w ≡ word.Type)
BuiltKind u k w (Some built.Array) = k ≡ kind.OpenBracket
BuiltKind u k w (Some built.Soa) = (k ≡ kind.Directive) × (w ≡ word.Soa)
BuiltKind u k w (Some built.Struct) = k ≡ kind.Struct
BuiltKind u k w (Some built.Union) = k ≡ kind.Union
BuiltKind u k w (Some built.Enum) = k ≡ kind.Enum
BuiltKind u k w None = Unit {0}

word_kind : (u : Use) (w : Word) → BuiltKind u kind.Directive w (word_form w)
word_kind u word.Soa = (refl, refl)
word_kind u word.Type = (refl, refl)
word_kind u _ = tt

dollar_kind : (u : Use) (w : Word) → BuiltKind u kind.Dollar w (built_by u kind.Dollar w)
dollar_kind Parameter w = (refl, refl)
dollar_kind Plain w = tt
dollar_kind Operand w = tt
dollar_kind OperandEnd w = tt

own_built : (u : Use) (k : TokenKind) (w : Word) → BuiltKind u k w (built_by u k w)
own_built u kind.Caret w = refl
own_built u kind.Distinct w = refl
own_built u kind.OpenBracket w = refl
own_built u kind.Struct w = refl
own_built u kind.Union w = refl
own_built u kind.Enum w = refl
own_built u kind.Directive w = word_kind u w
own_built u kind.Dollar w = dollar_kind u w
own_built u _ w = tt

pub built_kind : (u : Use) (t : Token) (f : BuiltForm) → built_form u t ≡ Some f → BuiltKind u t.kind t.word (Some f)
built_kind u t f e = subst (λ (f : Option BuiltForm). BuiltKind u t.kind t.word f) e (own_built u t.kind t.word)

abbrev pub OwnKind : TokenKind → Option OwnForm → Type 0
OwnKind k (Some own.Name) = k ≡ kind.Name
OwnKind k (Some own.Group) = k ≡ kind.OpenParen
OwnKind k (Some own.Proc) = k ≡ kind.Proc
OwnKind k None = Unit {0}

own_own : (k : TokenKind) → OwnKind k (own_form k)
own_own kind.Name = refl
own_own kind.OpenParen = refl
own_own kind.Proc = refl
own_own _ = tt

pub own_kind : (k : TokenKind) (f : OwnForm) → own_form k ≡ Some f → OwnKind k (Some f)
own_kind k f e = subst (λ (f : Option OwnForm). OwnKind k f) e (own_own k)

-- no production has the form of none
no_form : (o : Option BuiltForm) (f : BuiltForm) → o ≡ None → o ≡ Some f → ⊥
no_form o f e h = let bad : None ≡ Some f = sym e ∙ h in cc

pub none_built : (u : Use) (b : ℕ) (t : Token) (ts us : List Token) → ts ≡ t ∷ us → built_form u t ≡ None → Broken (one (constructed u)) nothing_continues b ts (length ts)
none_built u b t ts us is e =
    subst (λ (l : List Token). Broken (one (constructed u)) nothing_continues b l (length l)) (sym is) (record {
      short = omega arith;
      comes = at_start (constructed u) b (t ∷ us) sample.type;
      none = λ c w s s' ts' clear r h.
          let z = behind_part tt r h in
          no_form (built_form u t) (rule_built z.rule) e (built_first z.rule s s' ts' t us z.reach h);
    })

-- a type that begins with none of these kinds is one that is built
not_own : (k m : TokenKind) (f : OwnForm) → own_form m ≡ Some f → own_form k ≡ None → k ≡ m → ⊥
not_own k m f e none is = let bad : None ≡ Some f = sym none ∙ ap own_form is ∙ e in cc

built_split : (u : Use) (t : Token) (us : List Token) → own_form t.kind ≡ None → (c : ℕ) (w : Type_) (p : List Sym) → Rule (type_ u c w) p → (s s' : List Sym) (ts' : List Token) → Reach s' ts' (p ++ s) (t ∷ us) → size s' ts' ≤ 2 * length (t ∷ us) →
    Pending (λ n. n) (one (constructed u)) (λ ty. ty) 0 (t ∷ us) c w s s' ts'
built_split u t us none c w p g.type_constructed s s' ts' r h = record { at = c; value = w; bound = refl; whole = refl; deep = omega arith; reach = r }
built_split u t us none c w p g.type_named s s' ts' r h = absurd (not_own t.kind kind.Name own.Name refl none (reach_opens r h))
built_split u t us none c w p g.type_member s s' ts' r h = absurd (not_own t.kind kind.Name own.Name refl none (reach_opens r h))
built_split u t us none c w p g.type_group s s' ts' r h = absurd (not_own t.kind kind.OpenParen own.Group refl none (reach_opens r h))
built_split u t us none c w p g.type_proc s s' ts' r h = absurd (not_own t.kind kind.Proc own.Proc refl none (reach_opens r h))

pub built_led : (u : Use) (b : ℕ) (t : Token) (ts us : List Token) → ts ≡ t ∷ us → own_form t.kind ≡ None → Led (one (type_ u)) nothing_continues (λ n. n) b ts (one (constructed u)) (λ ty. ty) 0 ts
built_led u b t ts us is none =
    subst (λ (l : List Token). Led (one (type_ u)) nothing_continues (λ n. n) b l (one (constructed u)) (λ ty. ty) 0 l) (sym is)
    (led_start b (one (constructed u)) (λ ty. ty) sample.type (λ c v. tt) (λ c v. g.type_constructed)
    (λ c w p rule s s' ts' r h clear. built_split u t us none c w p rule s s' ts' r h))

-- a type costs a level
constructed_costs : {u : Use} {c : ℕ} {w : Type_} {p : List Sym} → Rule (constructed u c w) p → 0 < c
constructed_costs g.type_pointer = omega arith
constructed_costs g.type_distinct = omega arith
constructed_costs g.type_dollar = omega arith
constructed_costs g.type_word_proc = omega arith
constructed_costs g.type_array = omega arith
constructed_costs g.type_counted = omega arith
constructed_costs g.type_soa = omega arith
constructed_costs g.type_soa_counted = omega arith
constructed_costs g.type_struct = omega arith
constructed_costs g.type_union = omega arith
constructed_costs g.type_enum = omega arith

pub costs_constructed : (u : Use) (c : ℕ) (w : Type_) (s s' : List Sym) (ts ts' : List Token) → Reach s' ts' (constructed u c w ∷ s) ts → size s' ts' ≤ 2 * length ts → 0 < c
costs_constructed u c w s s' ts ts' r h = let z = behind_part tt r h in constructed_costs z.rule

type_costs : {u : Use} {c : ℕ} {w : Type_} {p : List Sym} (s s' : List Sym) (ts ts' : List Token) → Rule (type_ u c w) p → Reach s' ts' (p ++ s) ts → size s' ts' ≤ 2 * length ts → 0 < c
type_costs s s' ts ts' g.type_named r h = omega arith
type_costs s s' ts ts' g.type_member r h = omega arith
type_costs s s' ts ts' g.type_group r h = omega arith
type_costs s s' ts ts' g.type_proc r h = omega arith
type_costs s s' ts ts' (g.type_constructed {u = u} {b = c} {ty = w}) r h = costs_constructed u c w s s' ts ts' r h

pub costs_type : (u : Use) (c : ℕ) (w : Type_) (s s' : List Sym) (ts ts' : List Token) → Reach s' ts' (type_ u c w ∷ s) ts → size s' ts' ≤ 2 * length ts → 0 < c
costs_type u c w s s' ts ts' r h = let z = behind_part tt r h in type_costs s s' ts ts' z.rule z.reach h

-- the first token of a type can be read
begun : {u : Use} {c : ℕ} {ts : List Token} {left : ℕ} (v : Type_) → ((s : List Sym) → (p : List Sym) × ((us : List Token) × ((length us ≡ left) × Reach (p ++ s) us (constructed u c v ∷ s) ts))) → ComesAt (one (constructed u)) c ts left
begun v f = record { value = v; before = λ s. let z = f s in record { pending = z.0 ++ s; rest = z.1.0; rest_is = z.1.1.0; reach = z.1.1.1 } }

no_signature : tree.Signature
no_signature = tree.signature sample.place None tree.no_params tree.no_results

dollar_begins : (u : Use) → u ≡ Parameter → (c : ℕ) (t : Token) (us : List Token) → t.kind ≡ kind.Dollar → ComesAt (one (constructed u)) (suc c) (t ∷ us) (length us)
dollar_begins u e c t us k =
    subst (λ (u : Use). ComesAt (one (constructed u)) (suc c) (t ∷ us) (length us)) (sym e)
    (begun (type t.at (tree.dollar sample.token)) (λ s. (tok kind.Name sample.token ∷ [], (us, (refl, write _ g.type_dollar (read k here))))))

begins_by : (u : Use) (f : BuiltForm) (c : ℕ) (t : Token) (us : List Token) → BuiltKind u t.kind t.word (Some f) → ComesAt (one (constructed u)) (suc c) (t ∷ us) (length us)
begins_by u built.Pointer c t us e = begun (type t.at (tree.pointer sample.type)) (λ s. (type_ (at_end u) c sample.type ∷ [], (us, (refl, write _ g.type_pointer (read e here)))))
begins_by u built.Distinct c t us e = begun (type t.at (tree.distinct sample.type)) (λ s. (type_ (at_end u) c sample.type ∷ [], (us, (refl, write _ g.type_distinct (read e here)))))
begins_by u built.Dollar c t us e = dollar_begins u e.1 c t us e.0
begins_by u built.WordProc c t us e = begun (type t.at (tree.proc no_signature)) (λ s. (g.sig u c no_signature ∷ [], (us, (refl, write _ g.type_word_proc (read_said e.0 e.1 here)))))
begins_by u built.Array c t us e =
    begun (type t.at (tree.array tree.slice sample.type))
    (λ s. (g.length u c tree.slice ∷ tok kind.CloseBracket sample.token ∷ type_ (at_end u) c sample.type ∷ [], (us, (refl, write _ (g.type_array {c = sample.token}) (read e here)))))
begins_by u built.Soa c t us e =
    begun (type t.at (tree.soa tree.slice sample.type))
    (λ s. (
      tok kind.OpenBracket sample.token ∷ g.length u c tree.slice ∷ tok kind.CloseBracket sample.token ∷ type_ (at_end u) c sample.type ∷ [],
      (us, (refl, write _ (g.type_soa {o = sample.token} {c = sample.token}) (read_said e.0 e.1 here))),
    ))
begins_by u built.Struct c t us e =
    begun (type t.at (tree.struct tree.no_fields))
    (λ s. (tok kind.OpenBrace sample.token ∷ g.fields (inside u) c tree.no_fields ∷ tok kind.CloseBrace sample.token ∷ [], (us, (refl, write _ (g.type_struct {o = sample.token} {c = sample.token}) (read e here)))))
begins_by u built.Union c t us e =
    begun (type t.at (tree.union tree.no_types))
    (λ s. (tok kind.OpenBrace sample.token ∷ g.types (inside u) c tree.no_types ∷ tok kind.CloseBrace sample.token ∷ [], (us, (refl, write _ (g.type_union {o = sample.token} {c = sample.token}) (read e here)))))
begins_by u built.Enum c t us e =
    begun (type t.at (tree.enum tree.no_type tree.no_enumerators))
    (λ s. (
      g.maybe_type (inside u) c tree.no_type ∷ tok kind.OpenBrace sample.token ∷ g.enumerators c tree.no_enumerators ∷ tok kind.CloseBrace sample.token ∷ [],
      (us, (refl, write _ (g.type_enum {o = sample.token} {c = sample.token}) (read e here))),
    ))

pub built_begins : (u : Use) (f : BuiltForm) (c : ℕ) (t : Token) (us : List Token) → built_form u t ≡ Some f → ComesAt (one (constructed u)) (suc c) (t ∷ us) (length us)
built_begins u f c t us e = begins_by u f c t us (built_kind u t f e)

own_begun : {u : Use} {c : ℕ} {ts : List Token} {left : ℕ} (v : Type_) → ((s : List Sym) → (p : List Sym) × ((us : List Token) × ((length us ≡ left) × Reach (p ++ s) us (type_ u c v ∷ s) ts))) → ComesAt (one (type_ u)) c ts left
own_begun v f = record { value = v; before = λ s. let z = f s in record { pending = z.0 ++ s; rest = z.1.0; rest_is = z.1.1.0; reach = z.1.1.1 } }

pub own_begins : (u : Use) (f : OwnForm) (c : ℕ) (t : Token) (us : List Token) → OwnKind t.kind (Some f) → ComesAt (one (type_ u)) (suc c) (t ∷ us) (length us)
own_begins u own.Name c t us e = own_begun (type t.at (tree.named t)) (λ s. (g.behind_name u ∷ [], (us, (refl, write _ g.type_named (read e here)))))
own_begins u own.Group c t us e =
    own_begun sample.type (λ s. (type_ (inside u) c sample.type ∷ tok kind.CloseParen sample.token ∷ [], (us, (refl, write _ (g.type_group {o = t} {c = sample.token}) (read e here)))))
own_begins u own.Proc c t us e =
    own_begun (type t.at (tree.proc (tree.signature t.at None tree.no_params tree.no_results)))
    (λ s. (
      g.maybe_token kind.Text None ∷ tok kind.OpenParen sample.token ∷ g.params Parameter c tree.no_params ∷ tok kind.CloseParen sample.token ∷ g.results u c tree.no_results ∷ [],
      (us, (refl, write _ g.type_proc (write _ (g.sig_ {o = sample.token} {c = sample.token}) (read e here)))),
    ))

-- a type begins, and no bound allows it
at_bound : {u : Use} {ts : List Token} {left : ℕ} (c : ℕ) → 1 ≤ c → ((c : ℕ) → ComesAt (one (constructed u)) (suc c) ts left) → ComesAt (one (constructed u)) c ts left
at_bound {u} {ts} {left} c h f = let e : suc (c - 1) ≡ c = omega (arith, h) in subst (λ (n : ℕ). ComesAt (one (constructed u)) n ts left) e (f (c - 1))

pub built_deep : (u : Use) (d : ℕ) (t : Token) (ts us : List Token) (f : BuiltForm) → d ≡ 0 → ts ≡ t ∷ us → built_form u t ≡ Some f → TooDeep (one (constructed u)) nothing_continues d ts (length us)
built_deep u d t ts us f zero' is e =
    subst (λ (k : ℕ). TooDeep (one (constructed u)) nothing_continues k ts (length us)) (sym zero') (subst (λ (l : List Token). TooDeep (one (constructed u)) nothing_continues 0 l (length us)) (sym is) (record {
      short = omega arith;
      comes = at_start (constructed u) 0 (t ∷ us) sample.type;
      deep = λ c w s s' ts' clear r h. costs_constructed u c w s s' (t ∷ us) ts' r (omega (arith, h));
      depth = 1;
      deeper = record { at = λ c h. at_bound c h (λ c. built_begins u f c t us e) };
    }))

own_at_bound : {u : Use} {ts : List Token} {left : ℕ} (c : ℕ) → 1 ≤ c → ((c : ℕ) → ComesAt (one (type_ u)) (suc c) ts left) → ComesAt (one (type_ u)) c ts left
own_at_bound {u} {ts} {left} c h f = let e : suc (c - 1) ≡ c = omega (arith, h) in subst (λ (n : ℕ). ComesAt (one (type_ u)) n ts left) e (f (c - 1))

pub own_deep : (u : Use) (d : ℕ) (t : Token) (ts us : List Token) (f : OwnForm) → d ≡ 0 → ts ≡ t ∷ us → own_form t.kind ≡ Some f → TooDeep (one (type_ u)) nothing_continues d ts (length us)
own_deep u d t ts us f zero' is e =
    subst (λ (k : ℕ). TooDeep (one (type_ u)) nothing_continues k ts (length us)) (sym zero') (subst (λ (l : List Token). TooDeep (one (type_ u)) nothing_continues 0 l (length us)) (sym is) (record {
      short = omega arith;
      comes = at_start (type_ u) 0 (t ∷ us) sample.type;
      deep = λ c w s s' ts' clear r h. costs_type u c w s s' (t ∷ us) ts' r (omega (arith, h));
      depth = 1;
      deeper = record { at = λ c h. own_at_bound c h (λ c. own_begins u f c t us (own_kind t.kind f e)) };
    }))
