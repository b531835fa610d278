-- Types, production by production.
use Rattle.std.proofs.Common.{◌≡◌, ℕ, suc, ◌*◌, ◌≤◌, true, false, List, [], ◌∷◌, ◌++◌, length, refl, sym, ◌∙◌, ap, subst, arith, None}
use Rattle.odc_syntax.specs.declared.token.Token.{Token}
use Rattle.odc_syntax.specs.declared.token.TokenKind.{TokenKind}
use Rattle.odc_syntax.specs.declared.token.TokenKind.TheVariants as kind
use Rattle.odc_syntax.specs.declared.token.Word.{Word}
use Rattle.odc_syntax.specs.declared.token.Word.TheVariants as word
use Rattle.odc_syntax.specs.declared.grammar.Use.{Use}
use Rattle.odc_syntax.specs.declared.grammar.Use.TheVariants.{Parameter}
use Rattle.odc_syntax.specs.Tree.{Type_, type, Fields, Types, Signature, signature, Params, Results}
use Rattle.odc_syntax.specs.Tree as tree
use Rattle.odc_syntax.specs.Grammar.{Sym, Rule, type_, constructed, at_end, inside}
use Rattle.odc_syntax.specs.Grammar as g
use Rattle.odc_syntax.specs.Derives.{Reach, here, read, read_said, see_not, write, StartsWithout}
use Rattle.odc_lookahead.specs.Exact.{size, Part, one, then_, done, token, Found}
use Rattle.odc_lookahead.specs.Sets.{starts_constructed, nothing_continues}
use Rattle.odc_lookahead.proofs.reading.Opening.{reach_opens}
use Rattle.odc_lookahead.proofs.reading.Reaching.{behind_token, behind_said, behind_not_next}
use Rattle.odc_lookahead.proofs.reading.Leading.{one_deeper, Pending, Led, led_done, first_is, without, at_rest}
use Rattle.odc_lookahead.proofs.reading.Answering.{led_at, led_start}
use Rattle.odc_lookahead.proofs.reading.Samples as sample

-- the kind of the token that each production begins with
abbrev pub constructed_kind : {u : Use} {c : ℕ} {w : Type_} {p : List Sym} → Rule (constructed u c w) p → TokenKind
constructed_kind g.type_pointer = kind.Caret
constructed_kind g.type_distinct = kind.Distinct
constructed_kind g.type_dollar = kind.Dollar
constructed_kind g.type_word_proc = kind.Directive
constructed_kind g.type_array = kind.OpenBracket
constructed_kind g.type_counted = kind.OpenBracket
constructed_kind g.type_soa = kind.Directive
constructed_kind g.type_soa_counted = kind.Directive
constructed_kind g.type_struct = kind.Struct
constructed_kind g.type_union = kind.Union
constructed_kind g.type_enum = kind.Enum

pub constructed_first : {u : Use} {c : ℕ} {w : Type_} {p : List Sym} (rule : Rule (constructed u c w) p) (s s' : List Sym) (ts' : List Token) (t : Token) (us : List Token) → Reach s' ts' (p ++ s) (t ∷ us) →
    size s' ts' ≤ 2 * length (t ∷ us) → t.kind ≡ constructed_kind rule
constructed_first g.type_pointer s s' ts' t us r h = reach_opens r h
constructed_first g.type_distinct s s' ts' t us r h = reach_opens r h
constructed_first g.type_dollar s s' ts' t us r h = reach_opens r h
constructed_first g.type_word_proc s s' ts' t us r h = reach_opens r h
constructed_first g.type_array s s' ts' t us r h = reach_opens r h
constructed_first g.type_counted s s' ts' t us r h = reach_opens r h
constructed_first g.type_soa s s' ts' t us r h = reach_opens r h
constructed_first g.type_soa_counted s s' ts' t us r h = reach_opens r h
constructed_first g.type_struct s s' ts' t us r h = reach_opens r h
constructed_first g.type_union s s' ts' t us r h = reach_opens r h
constructed_first g.type_enum s s' ts' t us r h = reach_opens r h

-- how a production goes on behind its first token
abbrev Splits : {U : Type 0} → Use → Token → List Token → Part U → (U → Type_) → Type 0
Splits u t us line node =
    (c : ℕ) (w : Type_) (p : List Sym) (rule : Rule (constructed u c w) p) → t.kind ≡ constructed_kind rule → (s s' : List Sym) (ts' : List Token) → Reach s' ts' (p ++ s) (t ∷ us) → size s' ts' ≤ 2 * length us →
    Pending (λ n. suc n) line node 0 us c w s s' ts'

begun : {U : Type 0} (u : Use) (b : ℕ) (t : Token) (us : List Token) (line : Part U) (node : U → Type_) → U → ((c : ℕ) (v : U) (s : List Sym) → Reach (line c v ++ s) us (constructed u (suc c) (node v) ∷ s) (t ∷ us)) → Splits u t us line node →
    Led (one (constructed u)) nothing_continues (λ n. suc n) b (t ∷ us) line node 0 us
begun u b t us line node v into split =
    led_at b us line node v (omega arith) one_deeper (λ c v. tt) into
    (λ c w p rule s s' ts' r h clear. split c w p rule (constructed_first rule s s' ts' t us r (omega (arith, h))) s s' ts' r h)

-- `^T`
pointer_split : (u : Use) (t : Token) (us : List Token) → t.kind ≡ kind.Caret → Splits u t us (one (type_ (at_end u))) (λ ty. type t.at (tree.pointer ty))
pointer_split u t us e c w p (g.type_pointer {b = b} {ty = ty}) f s s' ts' r h =
    let z = behind_token r (omega (arith, h)) in
    record { at = b; value = ty; bound = refl; whole = ap (λ (t : Token). type t.at (tree.pointer ty)) (first_is z.is); deep = omega arith; reach = at_rest z }
pointer_split u t us e c w p _ f s s' ts' r h = cc

pub pointer_led : (u : Use) (b : ℕ) (t : Token) (us : List Token) → t.kind ≡ kind.Caret → Led (one (constructed u)) nothing_continues (λ n. suc n) b (t ∷ us) (one (type_ (at_end u))) (λ ty. type t.at (tree.pointer ty)) 0 us
pointer_led u b t us e = begun u b t us (one (type_ (at_end u))) (λ ty. type t.at (tree.pointer ty)) sample.type (λ c v s. write _ g.type_pointer (read e here)) (pointer_split u t us e)

-- `distinct T`
distinct_split : (u : Use) (t : Token) (us : List Token) → t.kind ≡ kind.Distinct → Splits u t us (one (type_ (at_end u))) (λ ty. type t.at (tree.distinct ty))
distinct_split u t us e c w p (g.type_distinct {b = b} {ty = ty}) f s s' ts' r h =
    let z = behind_token r (omega (arith, h)) in
    record { at = b; value = ty; bound = refl; whole = ap (λ (t : Token). type t.at (tree.distinct ty)) (first_is z.is); deep = omega arith; reach = at_rest z }
distinct_split u t us e c w p _ f s s' ts' r h = cc

pub distinct_led : (u : Use) (b : ℕ) (t : Token) (us : List Token) → t.kind ≡ kind.Distinct → Led (one (constructed u)) nothing_continues (λ n. suc n) b (t ∷ us) (one (type_ (at_end u))) (λ ty. type t.at (tree.distinct ty)) 0 us
distinct_led u b t us e = begun u b t us (one (type_ (at_end u))) (λ ty. type t.at (tree.distinct ty)) sample.type (λ c v s. write _ g.type_distinct (read e here)) (distinct_split u t us e)

-- `$T`, in the type of a parameter
abbrev pub dollar_line : Part (Token × Unit {0})
dollar_line = then_ (token kind.Name) done

dollar_split : (t : Token) (us : List Token) → t.kind ≡ kind.Dollar → Splits Parameter t us dollar_line (λ v. type t.at (tree.dollar v.0))
unfolding then_ token done
dollar_split t us e c w p (g.type_dollar {b = b} {n = n}) f s s' ts' r h =
    let z = behind_token r (omega (arith, h)) in
    record { at = b; value = (n, tt); bound = refl; whole = ap (λ (t : Token). type t.at (tree.dollar n)) (first_is z.is); deep = omega arith; reach = at_rest z }
dollar_split t us e c w p _ f s s' ts' r h = cc

pub dollar_led : (b : ℕ) (t : Token) (us : List Token) → t.kind ≡ kind.Dollar → Led (one (constructed Parameter)) nothing_continues (λ n. suc n) b (t ∷ us) dollar_line (λ v. type t.at (tree.dollar v.0)) 0 us
unfolding then_ token done
dollar_led b t us e = begun Parameter b t us dollar_line (λ v. type t.at (tree.dollar v.0)) (sample.token, tt) (λ c v s. write _ g.type_dollar (read e here)) (dollar_split t us e)

-- `struct {..}`
abbrev pub struct_line : Use → Part (Token × (Fields × (Token × Unit {0})))
struct_line u = then_ (token kind.OpenBrace) (then_ (g.fields (inside u)) (then_ (token kind.CloseBrace) done))

struct_split : (u : Use) (t : Token) (us : List Token) → t.kind ≡ kind.Struct → Splits u t us (struct_line u) (λ v. type t.at (tree.struct v.1.0))
unfolding then_ token done
struct_split u t us e c w p (g.type_struct {b = b} {o = o} {c = k} {fs = fs}) f s s' ts' r h =
    let z = behind_token r (omega (arith, h)) in
    record { at = b; value = (o, (fs, (k, tt))); bound = refl; whole = ap (λ (t : Token). type t.at (tree.struct fs)) (first_is z.is); deep = omega arith; reach = at_rest z }
struct_split u t us e c w p _ f s s' ts' r h = cc

pub struct_led : (u : Use) (b : ℕ) (t : Token) (us : List Token) → t.kind ≡ kind.Struct → Led (one (constructed u)) nothing_continues (λ n. suc n) b (t ∷ us) (struct_line u) (λ v. type t.at (tree.struct v.1.0)) 0 us
unfolding then_ token done
struct_led u b t us e =
    begun u b t us (struct_line u) (λ v. type t.at (tree.struct v.1.0)) (sample.token, (tree.no_fields, (sample.token, tt))) (λ c v s. write _ (g.type_struct {o = v.0} {c = v.1.1.0}) (read e here)) (struct_split u t us e)

-- `union {..}`
abbrev pub union_line : Use → Part (Token × (Types × (Token × Unit {0})))
union_line u = then_ (token kind.OpenBrace) (then_ (g.types (inside u)) (then_ (token kind.CloseBrace) done))

union_split : (u : Use) (t : Token) (us : List Token) → t.kind ≡ kind.Union → Splits u t us (union_line u) (λ v. type t.at (tree.union v.1.0))
unfolding then_ token done
union_split u t us e c w p (g.type_union {b = b} {o = o} {c = k} {ts = ts}) f s s' ts' r h =
    let z = behind_token r (omega (arith, h)) in
    record { at = b; value = (o, (ts, (k, tt))); bound = refl; whole = ap (λ (t : Token). type t.at (tree.union ts)) (first_is z.is); deep = omega arith; reach = at_rest z }
union_split u t us e c w p _ f s s' ts' r h = cc

pub union_led : (u : Use) (b : ℕ) (t : Token) (us : List Token) → t.kind ≡ kind.Union → Led (one (constructed u)) nothing_continues (λ n. suc n) b (t ∷ us) (union_line u) (λ v. type t.at (tree.union v.1.0)) 0 us
unfolding then_ token done
union_led u b t us e =
    begun u b t us (union_line u) (λ v. type t.at (tree.union v.1.0)) (sample.token, (tree.no_types, (sample.token, tt))) (λ c v s. write _ (g.type_union {o = v.0} {c = v.1.1.0}) (read e here)) (union_split u t us e)

-- `enum T {..}`
abbrev pub enum_line : Use → Part (tree.MaybeType × (Token × (tree.Enumerators × (Token × Unit {0}))))
enum_line u = then_ (g.maybe_type (inside u)) (then_ (token kind.OpenBrace) (then_ g.enumerators (then_ (token kind.CloseBrace) done)))

enum_split : (u : Use) (t : Token) (us : List Token) → t.kind ≡ kind.Enum → Splits u t us (enum_line u) (λ v. type t.at (tree.enum v.0 v.1.1.0))
unfolding then_ token done
enum_split u t us e c w p (g.type_enum {b = b} {o = o} {c = k} {ty = ty} {es = es}) f s s' ts' r h =
    let z = behind_token r (omega (arith, h)) in
    record { at = b; value = (ty, (o, (es, (k, tt)))); bound = refl; whole = ap (λ (t : Token). type t.at (tree.enum ty es)) (first_is z.is); deep = omega arith; reach = at_rest z }
enum_split u t us e c w p _ f s s' ts' r h = cc

pub enum_led : (u : Use) (b : ℕ) (t : Token) (us : List Token) → t.kind ≡ kind.Enum → Led (one (constructed u)) nothing_continues (λ n. suc n) b (t ∷ us) (enum_line u) (λ v. type t.at (tree.enum v.0 v.1.1.0)) 0 us
unfolding then_ token done
enum_led u b t us e =
    begun u b t us (enum_line u) (λ v. type t.at (tree.enum v.0 v.1.1.0)) (tree.no_type, (sample.token, (tree.no_enumerators, (sample.token, tt)))) (λ c v s. write _ (g.type_enum {o = v.1.0} {c = v.1.1.1.0}) (read e here)) (enum_split u t us e)

-- what a directive says
says : {s' : List Sym} {ts' : List Token} {k : TokenKind} {x : Word} {u t : Token} {s : List Sym} {us : List Token} → Reach s' ts' (g.said k x u ∷ s) (t ∷ us) → size s' ts' ≤ 2 * length (t ∷ us) → t.word ≡ x
says r h = let z = behind_said r h in ap (λ (t : Token). t.word) (sym (first_is z.1.is)) ∙ z.0

-- `#type proc ..`
word_split : (u : Use) (t : Token) (us : List Token) → t.kind ≡ kind.Directive → t.word ≡ word.Type → Splits u t us (one (g.sig u)) (λ v. type t.at (tree.proc v))
word_split u t us e x c w p (g.type_word_proc {b = b} {s = v}) f s s' ts' r h =
    let z = (behind_said r (omega (arith, h))).1 in
    record { at = b; value = v; bound = refl; whole = ap (λ (t : Token). type t.at (tree.proc v)) (first_is z.is); deep = omega arith; reach = at_rest z }
word_split u t us e x c w p g.type_soa f s s' ts' r h = let y = says r (omega (arith, h)) in let bad : word.Type ≡ word.Soa = sym x ∙ y in cc
word_split u t us e x c w p g.type_soa_counted f s s' ts' r h = let y = says r (omega (arith, h)) in let bad : word.Type ≡ word.Soa = sym x ∙ y in cc
word_split u t us e x c w p _ f s s' ts' r h = cc

pub word_proc_led : (u : Use) (b : ℕ) (t : Token) (us : List Token) → t.kind ≡ kind.Directive → t.word ≡ word.Type → Led (one (constructed u)) nothing_continues (λ n. suc n) b (t ∷ us) (one (g.sig u)) (λ v. type t.at (tree.proc v)) 0 us
word_proc_led u b t us e x =
    begun u b t us (one (g.sig u)) (λ v. type t.at (tree.proc v)) (signature sample.place None tree.no_params tree.no_results) (λ c v s. write _ g.type_word_proc (read_said e x here)) (word_split u t us e x)

-- `[..]T`, where no `?` stands in the brackets
abbrev pub array_line : Use → Part (tree.Length × (Token × (Type_ × Unit {0})))
array_line u = then_ (g.length u) (then_ (token kind.CloseBracket) (then_ (type_ (at_end u)) done))

array_split : (u : Use) (t : Token) (us : List Token) → t.kind ≡ kind.OpenBracket → StartsWithout kind.Question us → Splits u t us (array_line u) (λ v. type t.at (tree.array v.0 v.1.1.0))
unfolding then_ token done
array_split u t us e open' c w p (g.type_array {b = b} {c = k} {n = n} {ty = ty}) f s s' ts' r h =
    let z = behind_token r (omega (arith, h)) in
    record { at = b; value = (n, (k, (ty, tt))); bound = refl; whole = ap (λ (t : Token). type t.at (tree.array n ty)) (first_is z.is); deep = omega arith; reach = at_rest z }
array_split u t us e open' c w p g.type_counted f s s' ts' r h =
    let z = behind_token r (omega (arith, h)) in
    let y = behind_token (at_rest z) h in
    absurd (without kind.Question _ _ us y.is y.kind open')
array_split u t us e open' c w p _ f s s' ts' r h = cc

pub array_led : (u : Use) (b : ℕ) (t : Token) (us : List Token) → t.kind ≡ kind.OpenBracket → StartsWithout kind.Question us →
    Led (one (constructed u)) nothing_continues (λ n. suc n) b (t ∷ us) (array_line u) (λ v. type t.at (tree.array v.0 v.1.1.0)) 0 us
unfolding then_ token done
array_led u b t us e open' =
    begun u b t us (array_line u) (λ v. type t.at (tree.array v.0 v.1.1.0)) (tree.slice, (sample.token, (sample.type, tt))) (λ c v s. write _ (g.type_array {c = v.1.0}) (read e here)) (array_split u t us e open')

-- the kind of the token that each production of a type begins with
abbrev pub TypeBegins : {u : Use} {c : ℕ} {w : Type_} {p : List Sym} → Rule (type_ u c w) p → TokenKind → Type 0
TypeBegins g.type_named k = k ≡ kind.Name
TypeBegins g.type_member k = k ≡ kind.Name
TypeBegins g.type_group k = k ≡ kind.OpenParen
TypeBegins g.type_proc k = k ≡ kind.Proc
TypeBegins (g.type_constructed {u = u}) k = starts_constructed u k ≡ true

pub type_first : {u : Use} {c : ℕ} {w : Type_} {p : List Sym} (rule : Rule (type_ u c w) p) (s s' : List Sym) (ts' : List Token) (t : Token) (us : List Token) → Reach s' ts' (p ++ s) (t ∷ us) →
    size s' ts' ≤ 2 * length (t ∷ us) → TypeBegins rule t.kind
type_first g.type_named s s' ts' t us r h = reach_opens r h
type_first g.type_member s s' ts' t us r h = reach_opens r h
type_first g.type_group s s' ts' t us r h = reach_opens r h
type_first g.type_proc s s' ts' t us r h = reach_opens r h
type_first g.type_constructed s s' ts' t us r h = reach_opens r h

not_constructed : (u : Use) (k m : TokenKind) → k ≡ m → starts_constructed u m ≡ false → starts_constructed u k ≡ true → ⊥
not_constructed u k m e none on = let bad : false ≡ true = sym none ∙ sym (ap (starts_constructed u) e) ∙ on in cc

-- a type that begins neither with a name, nor with a parenthesis, nor with `proc`
constructed_split : (u : Use) (t : Token) (us : List Token) → starts_constructed u t.kind ≡ true → (c : ℕ) (w : Type_) (p : List Sym) (rule : Rule (type_ u c w) p) → TypeBegins rule t.kind → (s s' : List Sym) (ts' : List Token) → Reach s' ts' (p ++ s) (t ∷ us) →
    Pending (λ n. n) (one (constructed u)) (λ ty. ty) 0 (t ∷ us) c w s s' ts'
constructed_split u t us on c w p g.type_constructed f s s' ts' r = record { at = c; value = w; bound = refl; whole = refl; deep = omega arith; reach = r }
constructed_split u t us on c w p g.type_named f s s' ts' r = absurd (not_constructed u t.kind kind.Name f refl on)
constructed_split u t us on c w p g.type_member f s s' ts' r = absurd (not_constructed u t.kind kind.Name f refl on)
constructed_split u t us on c w p g.type_group f s s' ts' r = absurd (not_constructed u t.kind kind.OpenParen f refl on)
constructed_split u t us on c w p g.type_proc f s s' ts' r = absurd (not_constructed u t.kind kind.Proc f refl on)

pub constructed_led : (u : Use) (b : ℕ) (t : Token) (us : List Token) → starts_constructed u t.kind ≡ true → Led (one (type_ u)) nothing_continues (λ n. n) b (t ∷ us) (one (constructed u)) (λ ty. ty) 0 (t ∷ us)
constructed_led u b t us on =
    led_start b (one (constructed u)) (λ ty. ty) sample.type (λ c v. tt) (λ c v. g.type_constructed)
    (λ c w p rule s s' ts' r h clear. constructed_split u t us on c w p rule (type_first rule s s' ts' t us r h) s s' ts' r)

-- a type in parentheses
abbrev pub type_group_line : Use → Part (Type_ × (Token × Unit {0}))
type_group_line u = then_ (type_ (inside u)) (then_ (token kind.CloseParen) done)

group_split : (u : Use) (t : Token) (us : List Token) → t.kind ≡ kind.OpenParen → (c : ℕ) (w : Type_) (p : List Sym) (rule : Rule (type_ u c w) p) → TypeBegins rule t.kind → (s s' : List Sym) (ts' : List Token) → Reach s' ts' (p ++ s) (t ∷ us) →
    size s' ts' ≤ 2 * length us → Pending (λ n. suc n) (type_group_line u) (λ v. v.0) 0 us c w s s' ts'
unfolding then_ token done
group_split u t us e c w p (g.type_group {b = b} {c = k} {ty = ty}) f s s' ts' r h =
    let z = behind_token r (omega (arith, h)) in
    record { at = b; value = (ty, (k, tt)); bound = refl; whole = refl; deep = omega arith; reach = at_rest z }
group_split u t us e c w p g.type_named f s s' ts' r h = let bad : kind.OpenParen ≡ kind.Name = sym e ∙ f in cc
group_split u t us e c w p g.type_member f s s' ts' r h = let bad : kind.OpenParen ≡ kind.Name = sym e ∙ f in cc
group_split u t us e c w p g.type_proc f s s' ts' r h = let bad : kind.OpenParen ≡ kind.Proc = sym e ∙ f in cc
group_split u t us e c w p g.type_constructed f s s' ts' r h = absurd (not_constructed u t.kind kind.OpenParen e refl f)

pub type_group_led : (u : Use) (b : ℕ) (t : Token) (us : List Token) → t.kind ≡ kind.OpenParen → Led (one (type_ u)) nothing_continues (λ n. suc n) b (t ∷ us) (type_group_line u) (λ v. v.0) 0 us
unfolding then_ token done
type_group_led u b t us e =
    led_at b us (type_group_line u) (λ v. v.0) (sample.type, (sample.token, tt)) (omega arith) one_deeper (λ c v. tt) (λ c v s. write _ (g.type_group {o = t} {c = v.1.0}) (read e here))
    (λ c w p rule s s' ts' r h clear. group_split u t us e c w p rule (type_first rule s s' ts' t us r (omega (arith, h))) s s' ts' r h)

-- a procedure's type
abbrev pub proc_type : Signature → Type_
proc_type (signature at n ps r) = type at (tree.proc (signature at n ps r))

proc_write : (u : Use) (c : ℕ) (v : Signature) → Rule (type_ u (suc c) (proc_type v)) (g.sig u c v ∷ [])
proc_write u c (signature at n ps r) = g.type_proc

proc_split : (u : Use) (t : Token) (us : List Token) → t.kind ≡ kind.Proc → (c : ℕ) (w : Type_) (p : List Sym) (rule : Rule (type_ u c w) p) → TypeBegins rule t.kind → (s s' : List Sym) (ts' : List Token) → Reach s' ts' (p ++ s) (t ∷ us) →
    Pending (λ n. suc n) (one (g.sig u)) proc_type 0 (t ∷ us) c w s s' ts'
proc_split u t us e c w p (g.type_proc {b = b} {at = at} {n = n} {ps = ps} {r = q}) f s s' ts' r = record { at = b; value = signature at n ps q; bound = refl; whole = refl; deep = omega arith; reach = r }
proc_split u t us e c w p g.type_named f s s' ts' r = let bad : kind.Proc ≡ kind.Name = sym e ∙ f in cc
proc_split u t us e c w p g.type_member f s s' ts' r = let bad : kind.Proc ≡ kind.Name = sym e ∙ f in cc
proc_split u t us e c w p g.type_group f s s' ts' r = let bad : kind.Proc ≡ kind.OpenParen = sym e ∙ f in cc
proc_split u t us e c w p g.type_constructed f s s' ts' r = absurd (not_constructed u t.kind kind.Proc e refl f)

pub proc_type_led : (u : Use) (b : ℕ) (t : Token) (us : List Token) → t.kind ≡ kind.Proc → Led (one (type_ u)) nothing_continues (λ n. suc n) b (t ∷ us) (one (g.sig u)) proc_type 0 (t ∷ us)
proc_type_led u b t us e =
    led_start b (one (g.sig u)) proc_type (signature sample.place None tree.no_params tree.no_results) (λ c v. tt) (λ c v. proc_write u c v)
    (λ c w p rule s s' ts' r h clear. proc_split u t us e c w p rule (type_first rule s s' ts' t us r h) s s' ts' r)

-- a name that no `.` follows, where a further name would be taken with it
named_split : (u : Use) (t : Token) (us : List Token) → t.kind ≡ kind.Name → StartsWithout kind.Dot us → g.behind_name u ≡ g.not_next kind.Dot → (c : ℕ) (w : Type_) (p : List Sym) (rule : Rule (type_ u c w) p) → TypeBegins rule t.kind →
    (s s' : List Sym) (ts' : List Token) → Reach s' ts' (p ++ s) (t ∷ us) → size s' ts' ≤ 2 * length us → Pending (λ n. suc n) done (λ v. type t.at (tree.named t)) 0 us c w s s' ts'
unfolding done
named_split u t us e open' look c w p (g.type_named {b = b}) f s s' ts' r h =
    let z = behind_token r (omega (arith, h)) in
    let y = behind_not_next (subst (λ (x : Sym). Reach s' ts' (x ∷ s) us) look (at_rest z)) h in
    record { at = b; value = tt; bound = refl; whole = ap (λ (t : Token). type t.at (tree.named t)) (first_is z.is); deep = omega arith; reach = y.1 }
named_split u t us e open' look c w p g.type_member f s s' ts' r h =
    let z = behind_token r (omega (arith, h)) in
    let y = behind_token (at_rest z) h in
    absurd (without kind.Dot _ _ us y.is y.kind open')
named_split u t us e open' look c w p g.type_group f s s' ts' r h = let bad : kind.Name ≡ kind.OpenParen = sym e ∙ f in cc
named_split u t us e open' look c w p g.type_proc f s s' ts' r h = let bad : kind.Name ≡ kind.Proc = sym e ∙ f in cc
named_split u t us e open' look c w p g.type_constructed f s s' ts' r h = absurd (not_constructed u t.kind kind.Name e refl f)

pub named_type_found : (u : Use) (b : ℕ) (t : Token) (us : List Token) → t.kind ≡ kind.Name → StartsWithout kind.Dot us → g.behind_name u ≡ g.not_next kind.Dot → Found (one (type_ u)) nothing_continues (suc b) (t ∷ us) (type t.at (tree.named t)) 1 us
unfolding done
named_type_found u b t us e open' look =
    led_done one_deeper (led_at b us done (λ v. type t.at (tree.named t)) tt (omega arith) one_deeper (λ c v. tt)
    (λ c v s. write _ g.type_named (read e (subst (λ (x : Sym). Reach s us (x ∷ s) us) (sym look) (see_not open' here))))
    (λ c w p rule s s' ts' r h clear. named_split u t us e open' look c w p rule (type_first rule s s' ts' t us r (omega (arith, h))) s s' ts' r h))

-- a name, `.` and a further name
abbrev pub member_line : Part (Token × Unit {0})
member_line = then_ (token kind.Name) done

member_split : (u : Use) (t d : Token) (us : List Token) → t.kind ≡ kind.Name → d.kind ≡ kind.Dot → g.behind_name u ≡ g.not_next kind.Dot → (c : ℕ) (w : Type_) (p : List Sym) (rule : Rule (type_ u c w) p) → TypeBegins rule t.kind →
    (s s' : List Sym) (ts' : List Token) → Reach s' ts' (p ++ s) (t ∷ d ∷ us) → size s' ts' ≤ 2 * length us → Pending (λ n. suc n) member_line (λ v. type t.at (tree.member t v.0)) 0 us c w s s' ts'
unfolding then_ token done
member_split u t d us e k look c w p g.type_named f s s' ts' r h =
    let z = behind_token r (omega (arith, h)) in
    let y = behind_not_next (subst (λ (x : Sym). Reach s' ts' (x ∷ s) (d ∷ us)) look (at_rest z)) (omega (arith, h)) in
    absurd (y.0 k)
member_split u t d us e k look c w p (g.type_member {b = b} {n = n}) f s s' ts' r h =
    let z = behind_token r (omega (arith, h)) in
    let y = behind_token (at_rest z) (omega (arith, h)) in
    record { at = b; value = (n, tt); bound = refl; whole = ap (λ (t : Token). type t.at (tree.member t n)) (first_is z.is); deep = omega arith; reach = at_rest y }
member_split u t d us e k look c w p g.type_group f s s' ts' r h = let bad : kind.Name ≡ kind.OpenParen = sym e ∙ f in cc
member_split u t d us e k look c w p g.type_proc f s s' ts' r h = let bad : kind.Name ≡ kind.Proc = sym e ∙ f in cc
member_split u t d us e k look c w p g.type_constructed f s s' ts' r h = absurd (not_constructed u t.kind kind.Name e refl f)

pub member_type_led : (u : Use) (b : ℕ) (t d : Token) (us : List Token) → t.kind ≡ kind.Name → d.kind ≡ kind.Dot → g.behind_name u ≡ g.not_next kind.Dot →
    Led (one (type_ u)) nothing_continues (λ n. suc n) b (t ∷ d ∷ us) member_line (λ v. type t.at (tree.member t v.0)) 0 us
unfolding then_ token done
member_type_led u b t d us e k look =
    led_at b us member_line (λ v. type t.at (tree.member t v.0)) (sample.token, tt) (omega arith) one_deeper (λ c v. tt) (λ c v s. write _ g.type_member (read e (read k here)))
    (λ c w p rule s s' ts' r h clear. member_split u t d us e k look c w p rule (type_first rule s s' ts' t (d ∷ us) r (omega (arith, h))) s s' ts' r h)
