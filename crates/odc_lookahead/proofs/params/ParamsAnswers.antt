-- A list of parameters: its answer is that of the parameters with names, or of those without.
use Rattle.std.proofs.Common.{◌≡◌, ℕ, suc, ◌-◌, ◌*◌, ◌≤◌, true, false, List, [], ◌∷◌, ◌++◌, length, refl, sym, ◌∙◌, subst, arith}
use Rattle.odc_syntax.specs.declared.token.Token.{Token}
use Rattle.odc_syntax.specs.declared.token.TokenKind.TheVariants as kind
use Rattle.odc_syntax.specs.declared.grammar.Use.{Use}
use Rattle.odc_syntax.specs.declared.grammar.Use.TheVariants.{Plain, Parameter, Operand, OperandEnd}
use Rattle.odc_syntax.specs.Tree.{Type_, type, Param, Params}
use Rattle.odc_syntax.specs.Tree as tree
use Rattle.odc_syntax.specs.Grammar.{Sym, tok, Rule, type_, constructed, inside}
use Rattle.odc_syntax.specs.Grammar as g
use Rattle.odc_syntax.specs.Derives.{Reach, here, read, see_not, write, StartsWithout}
use Rattle.odc_lookahead.specs.Exact.{size, ComesAt, Comes, Exact, Answer}
use Rattle.odc_lookahead.specs.ParamForms.{Front, plain, dollar}
use Rattle.odc_lookahead.specs.stmts.Runs.{Declares, named, listed, Undeclared, unnamed, ended, again}
use Rattle.odc_lookahead.specs.Sets.{nothing_continues}
use Rattle.odc_lookahead.specs.TypeParts.{params_line, named_params, bare_params, named_line, bare_line}
use Rattle.odc_lookahead.specs.Exact.{then_, done, token}
use Rattle.odc_lookahead.proofs.reading.Leading.{at_rest}
use Rattle.odc_lookahead.proofs.reading.Reaching.{behind_token, behind_part}
use Rattle.odc_lookahead.proofs.params.ParamAnswers.{bare}
use Rattle.odc_lookahead.proofs.types.TypeLemmas.{TypeBegins, type_first, constructed_kind, constructed_first}
use Rattle.odc_lookahead.proofs.types.TypeLists.{no_param}
use Rattle.odc_lookahead.proofs.params.ParamsChoice.{chosen, leads_short, blocked_short, named_dead, bare_dead, colon_by, comma_by}
use Rattle.odc_lookahead.proofs.reading.Samples as sample

-- a `$` and a name, where a type stands
dollar_built : {u : Use} {c : ℕ} {w : Type_} {p : List Sym} (rule : Rule (constructed u c w) p) (t n : Token) (us : List Token) (l : ℕ) → t.kind ≡ kind.Dollar → t.kind ≡ constructed_kind rule → (s s' : List Sym) (ts' : List Token) → Reach s' ts' (p ++ s) (t ∷ n ∷ us) →
    size s' ts' ≤ 2 * l → l ≤ length us → Reach s' ts' s us
dollar_built g.type_dollar t n us l e f s s' ts' r h short =
    let z = behind_token r (omega (arith, h, short)) in
    let y = behind_token (at_rest z) (omega (arith, h, short)) in
    at_rest y
dollar_built g.type_pointer t n us l e f s s' ts' r h short = let bad : kind.Dollar ≡ kind.Caret = sym e ∙ f in cc
dollar_built g.type_distinct t n us l e f s s' ts' r h short = let bad : kind.Dollar ≡ kind.Distinct = sym e ∙ f in cc
dollar_built g.type_word_proc t n us l e f s s' ts' r h short = let bad : kind.Dollar ≡ kind.Directive = sym e ∙ f in cc
dollar_built g.type_array t n us l e f s s' ts' r h short = let bad : kind.Dollar ≡ kind.OpenBracket = sym e ∙ f in cc
dollar_built g.type_counted t n us l e f s s' ts' r h short = let bad : kind.Dollar ≡ kind.OpenBracket = sym e ∙ f in cc
dollar_built g.type_soa t n us l e f s s' ts' r h short = let bad : kind.Dollar ≡ kind.Directive = sym e ∙ f in cc
dollar_built g.type_soa_counted t n us l e f s s' ts' r h short = let bad : kind.Dollar ≡ kind.Directive = sym e ∙ f in cc
dollar_built g.type_struct t n us l e f s s' ts' r h short = let bad : kind.Dollar ≡ kind.Struct = sym e ∙ f in cc
dollar_built g.type_union t n us l e f s s' ts' r h short = let bad : kind.Dollar ≡ kind.Union = sym e ∙ f in cc
dollar_built g.type_enum t n us l e f s s' ts' r h short = let bad : kind.Dollar ≡ kind.Enum = sym e ∙ f in cc

dollar_type : {u : Use} {c : ℕ} {w : Type_} {p : List Sym} (rule : Rule (type_ u c w) p) (t n : Token) (us : List Token) (l : ℕ) → t.kind ≡ kind.Dollar → TypeBegins rule t.kind → (s s' : List Sym) (ts' : List Token) → Reach s' ts' (p ++ s) (t ∷ n ∷ us) →
    size s' ts' ≤ 2 * l → l ≤ length us → Reach s' ts' s us
dollar_type g.type_constructed t n us l e f s s' ts' r h short =
    let z = behind_part tt r (omega (arith, h, short)) in
    dollar_built z.rule t n us l e (constructed_first z.rule s s' ts' t (n ∷ us) z.reach (omega (arith, h, short))) s s' ts' z.reach h short
dollar_type g.type_named t n us l e f s s' ts' r h short = let bad : kind.Dollar ≡ kind.Name = sym e ∙ f in cc
dollar_type g.type_member t n us l e f s s' ts' r h short = let bad : kind.Dollar ≡ kind.Name = sym e ∙ f in cc
dollar_type g.type_group t n us l e f s s' ts' r h short = let bad : kind.Dollar ≡ kind.OpenParen = sym e ∙ f in cc
dollar_type g.type_proc t n us l e f s s' ts' r h short = let bad : kind.Dollar ≡ kind.Proc = sym e ∙ f in cc

dollar_bare : {u : Use} {c : ℕ} {w : Param} {p : List Sym} (rule : Rule (g.bare_param u c w) p) (t n : Token) (us : List Token) (l : ℕ) → t.kind ≡ kind.Dollar → (s s' : List Sym) (ts' : List Token) → Reach s' ts' (p ++ s) (t ∷ n ∷ us) → size s' ts' ≤ 2 * l → l ≤ length us → Reach s' ts' s us
dollar_bare g.bare_type t n us l e s s' ts' r h short =
    let z = behind_part tt r (omega (arith, h, short)) in
    dollar_type z.rule t n us l e (type_first z.rule s s' ts' t (n ∷ us) z.reach (omega (arith, h, short))) s s' ts' z.reach h short

-- a list without names does not get past the colon behind names
dollar_dead : {us after : List Token} (u : Use) → g.behind_name u ≡ g.not_next kind.Dot → Declares us after → (t : Token) → t.kind ≡ kind.Dollar → (c : ℕ) (p : Param) (ps : Params) (x : Token) (s s' : List Sym) (ts' : List Token) →
    Reach s' ts' (g.bare_param u c p ∷ g.more_bare u c ps ∷ tok kind.CloseParen x ∷ s) (t ∷ us) → size s' ts' ≤ 2 * length after → ⊥
dollar_dead u look (named n k after e f) t d c p ps x s s' ts' r h =
    let z = behind_part tt r (omega (arith, h)) in
    let y = dollar_bare z.rule t n (k ∷ after) (length after) d (g.more_bare u c ps ∷ tok kind.CloseParen x ∷ s) s' ts' z.reach h (omega arith) in
    let w = behind_part tt y (omega (arith, h)) in
    colon_by w.rule k after f x s s' ts' w.reach h
dollar_dead u look (listed n k us after e f l) t d c p ps x s s' ts' r h =
    let short = leads_short l in
    let z = behind_part tt r (omega (arith, h, short)) in
    let y = dollar_bare z.rule t n (k ∷ us) (length after) d (g.more_bare u c ps ∷ tok kind.CloseParen x ∷ s) s' ts' z.reach h (omega (arith, short)) in
    let w = behind_part tt y (omega (arith, h, short)) in
    comma_by w.rule k us after f l (bare_dead u look l) x s s' ts' w.reach h

front_dead : {u : Use} {ts us after : List Token} → g.behind_name u ≡ g.not_next kind.Dot → Front u ts us → Declares us after → (c : ℕ) (p : Param) (ps : Params) (x : Token) (s s' : List Sym) (ts' : List Token) →
    Reach s' ts' (g.bare_param u c p ∷ g.more_bare u c ps ∷ tok kind.CloseParen x ∷ s) ts → size s' ts' ≤ 2 * length after → ⊥
front_dead {u} look (plain none) l c p ps x s s' ts' r h = bare_dead u look l c p ps x s s' ts' r h
front_dead {u} look (dollar {t = t} i e) l c p ps x s s' ts' r h = dollar_dead u look l t e c p ps x s s' ts' r h

-- with names
named_into : (u : Use) (ts : List Token) (c : ℕ) (ps : Params) (z : Token × Unit {0}) (s : List Sym) → Reach (named_params u c ps z.0 ++ s) ts (g.params u c ps ∷ tok kind.CloseParen z.0 ∷ s) ts
named_into u ts c tree.no_params z s = write [] g.params_none here
named_into u ts c (tree.more_params p ps) z s = write _ g.params_named here

named_split : {u : Use} {c : ℕ} {w : Params} {p : List Sym} (rule : Rule (g.params u c w) p) {ts us after : List Token} → g.behind_name u ≡ g.not_next kind.Dot → Front u ts us → Declares us after → (x : Token) (s s' : List Sym) (ts' : List Token) →
    Reach s' ts' (p ++ (tok kind.CloseParen x ∷ s)) ts → size s' ts' ≤ 2 * length after → Reach s' ts' (named_params u c w x ++ s) ts
named_split g.params_none look f l x s s' ts' r h = r
named_split g.params_named look f l x s s' ts' r h = r
named_split (g.params_bare {b = b} {p = p} {ps = ps}) look f l x s s' ts' r h = absurd (front_dead look f l b p ps x s s' ts' r h)

record NamesGo (us after : List Token) : Type 0 where
  pub first : Token
  pub others : List Token
  pub colon : Token
  pub reach : (s : List Sym) → Reach s after (g.names (first ∷ others) ∷ tok kind.Colon colon ∷ s) us

names_go : {us after : List Token} → Declares us after → NamesGo us after
names_go (named t c _ e f) = record { first = t; others = []; colon = c; reach = λ s. write _ g.names_one (read e (read f here)) }
names_go (listed t c _ _ e f l) =
    let z = names_go l in
    record { first = t; others = z.first ∷ z.others; colon = z.colon; reach = λ s. write _ g.names_more (read e (read f (z.reach s))) }

pub front_short : {u : Use} {ts us : List Token} → Front u ts us → length us ≤ length ts
front_short (plain none) = omega arith
front_short (dollar i e) = omega arith

dollar_comes : (b : ℕ) (t : Token) (us after : List Token) → t.kind ≡ kind.Dollar → Declares us after → Comes (named_line Parameter) b (t ∷ us) (length after)
dollar_comes b t us after e l =
    let z = names_go l in
    record {
      at = λ c h. record {
        value = (tree.more_params (tree.param true (z.first ∷ z.others) tree.typeid tree.no_expr) tree.no_params, (sample.token, tt));
        before = λ s. record {
          pending = tok kind.Typeid sample.token ∷ g.given c tree.no_expr ∷ g.more_named Parameter c tree.no_params ∷ tok kind.CloseParen sample.token ∷ s;
          rest = after;
          rest_is = refl;
          reach = write _ (g.dollar_typeid {c = z.colon} {t = sample.token}) (read e (z.reach _));
        };
      };
    }

named_comes : {u : Use} {ts us after : List Token} (b : ℕ) → Front u ts us → Declares us after → Comes (named_line u) b ts (length after)
named_comes {u} {ts} {us} {after} b (plain none) l =
    let z = names_go l in
    record {
      at = λ c h. record {
        value = (tree.more_params (tree.param false (z.first ∷ z.others) tree.typeid tree.no_expr) tree.no_params, (sample.token, tt));
        before = λ s. record {
          pending = tok kind.Typeid sample.token ∷ g.given c tree.no_expr ∷ g.more_named u c tree.no_params ∷ tok kind.CloseParen sample.token ∷ s;
          rest = after;
          rest_is = refl;
          reach = write _ (g.named_typeid {c = z.colon} {t = sample.token}) (z.reach _);
        };
      };
    }
named_comes {u} {ts} {us} {after} b (dollar {t = t} i e) l = subst (λ (v : Use). Comes (named_line v) b (t ∷ us) (length after)) (sym i) (dollar_comes b t us after e l)

pub params_named : {ts us after : List Token} (u : Use) → g.behind_name u ≡ g.not_next kind.Dot → (b : ℕ) → Front u ts us → Declares us after → (r : Answer (Params × (Token × Unit {0}))) → Exact (named_line u) nothing_continues b ts r → Exact (params_line u) nothing_continues b ts r
unfolding then_ token done
params_named {ts} {us} {after} u look b f l r h =
    chosen (params_line u) (named_line u) b (length after) ts (λ c v s. named_into u ts c v.0 v.1 s)
    (λ c w s s' ts' r h.
    let short = leads_short l in
    let front = front_short f in
    let z = behind_part tt r (omega (arith, h, short, front)) in
    named_split z.rule look f l w.1.0 s s' ts' z.reach h)
    (named_comes b f l) r h

-- without names
pub bare_into : (u : Use) (ts : List Token) (c : ℕ) (ps : Params) (z : Token × Unit {0}) (s : List Sym) → Reach (bare_params u c ps z.0 ++ s) ts (g.params u c ps ∷ tok kind.CloseParen z.0 ∷ s) ts
bare_into u ts c tree.no_params z s = write [] g.params_none here
bare_into u ts c (tree.more_params p ps) z s = write _ g.params_bare here

pub bare_split : {u : Use} {c : ℕ} {w : Params} {p : List Sym} (rule : Rule (g.params u c w) p) {ts us at : List Token} → Front u ts us → Undeclared us at → (x : Token) (s s' : List Sym) (ts' : List Token) → Reach s' ts' (p ++ (tok kind.CloseParen x ∷ s)) ts → size s' ts' ≤ 2 * length at →
    Reach s' ts' (bare_params u c w x ++ s) ts
bare_split g.params_none f b x s s' ts' r h = r
bare_split g.params_bare f b x s s' ts' r h = r
bare_split (g.params_named {b = c} {p = p} {ps = ps}) f b x s s' ts' r h = absurd (named_dead f b c p _ s' ts' r h)

-- the names in front may be types
pub record BareGoes (u : Use) (c : ℕ) (ts at : List Token) : Type 0 where
  pub first : Param
  pub others : Params
  pub reach : (x : Token) (s : List Sym) → (a : Sym) × ((q : List Sym) × Reach (a ∷ q) at (g.bare_param u c first ∷ g.more_bare u c others ∷ tok kind.CloseParen x ∷ s) ts)

comma_dot : (c : Token) → c.kind ≡ kind.Comma → c.kind ≡ kind.Dot → ⊥
comma_dot c e f = let bad : kind.Comma ≡ kind.Dot = sym e ∙ f in cc

bare_goes : {us at : List Token} (u : Use) → g.behind_name u ≡ g.not_next kind.Dot → Undeclared us at → (c : ℕ) → BareGoes u (suc c) us at
bare_goes u look (unnamed _ none) c = record { first = no_param; others = tree.no_params; reach = λ x s. (_, (_, here)) }
bare_goes u look (ended t _ e f o) c =
    record { first = bare (type t.at (tree.named t)); others = tree.no_params; reach = λ x s. (_, (_, write _ g.bare_type (write _ g.type_named (read e here)))) }
bare_goes u look (again t k us at e f b) c =
    let z = bare_goes u look b c in
    record {
      first = bare (type t.at (tree.named t));
      others = tree.more_params z.first z.others;
      reach = λ x s.
          let y = z.reach x s in
          let s1 = g.more_bare u (suc c) (tree.more_params z.first z.others) ∷ tok kind.CloseParen x ∷ s in (
            y.0,
            (
              y.1.0,
              write _ g.bare_type (write _ g.type_named (read e (subst (λ (l : Sym). Reach (y.0 ∷ y.1.0) at (l ∷ s1) (k ∷ us)) (sym look) (see_not (comma_dot k f) (write _ (g.bare_more {t = k}) (read f y.1.1)))))),
            ),
          );
    }

dollar_goes : {us at : List Token} (t : Token) → t.kind ≡ kind.Dollar → Undeclared us at → (c : ℕ) → BareGoes Parameter (suc c) (t ∷ us) at
dollar_goes t d (unnamed _ none) c =
    record { first = bare (type t.at (tree.dollar sample.token)); others = tree.no_params; reach = λ x s. (_, (_, write _ g.bare_type (write _ g.type_constructed (write _ g.type_dollar (read d here))))) }
dollar_goes t d (ended n _ e f o) c =
    record { first = bare (type t.at (tree.dollar n)); others = tree.no_params; reach = λ x s. (_, (_, write _ g.bare_type (write _ g.type_constructed (write _ g.type_dollar (read d (read e here)))))) }
dollar_goes t d (again n k us _ e f b) c =
    let z = bare_goes Parameter refl b c in
    record {
      first = bare (type t.at (tree.dollar n));
      others = tree.more_params z.first z.others;
      reach = λ x s.
          let y = z.reach x s in
          (y.0, (y.1.0, write _ g.bare_type (write _ g.type_constructed (write _ g.type_dollar (read d (read e (write _ (g.bare_more {t = k}) (read f y.1.1))))))));
    }

pub front_goes : {u : Use} {ts us at : List Token} → g.behind_name u ≡ g.not_next kind.Dot → Front u ts us → Undeclared us at → (c : ℕ) → BareGoes u (suc c) ts at
front_goes {u} look (plain none) b c = bare_goes u look b c
front_goes {u} {us = us} {at = at} look (dollar {t = t} i e) b c = subst (λ (v : Use). BareGoes v (suc c) (t ∷ us) at) (sym i) (dollar_goes t e b c)

pub bare_comes : {u : Use} {ts us at : List Token} → g.behind_name u ≡ g.not_next kind.Dot → (b : ℕ) → 1 ≤ b → Front u ts us → Undeclared us at → Comes (bare_line u) b ts (length at)
bare_comes {u} {ts} {us} {at} look b some f l = record {
  at = λ c h.
      let deeper : suc (c - 1) ≡ c = omega (arith, h, some) in
      let z = front_goes look f l (c - 1) in
      subst (λ (n : ℕ). ComesAt (bare_line u) n ts (length at)) deeper (record {
        value = (tree.more_params z.first z.others, (sample.token, tt));
        before = λ s. let y = z.reach sample.token s in record { pending = y.0 ∷ y.1.0; rest = at; rest_is = refl; reach = y.1.1 };
      });
}

pub params_bare : {ts us at : List Token} (u : Use) → g.behind_name u ≡ g.not_next kind.Dot → (b : ℕ) → 1 ≤ b → Front u ts us → Undeclared us at → (r : Answer (Params × (Token × Unit {0}))) → Exact (bare_line u) nothing_continues b ts r → Exact (params_line u) nothing_continues b ts r
unfolding then_ token done
params_bare {ts} {us} {at} u look b some f l r h =
    chosen (params_line u) (bare_line u) b (length at) ts (λ c v s. bare_into u ts c v.0 v.1 s)
    (λ c w s s' ts' r h.
    let short = blocked_short l in
    let front = front_short f in
    let z = behind_part tt r (omega (arith, h, short, front)) in
    bare_split z.rule f l w.1.0 s s' ts' z.reach h)
    (bare_comes look b some f l) r h

-- with no name in front, at any bound
at_once : {u : Use} {ts us at : List Token} (b : ℕ) → Front u ts us → Undeclared us at → length at ≡ length ts → Comes (bare_line u) b ts (length at)
at_once {u} {ts} b f l same = record { at = λ c h. record { value = (tree.no_params, (sample.token, tt)); before = λ s. record { pending = _; rest = ts; rest_is = sym same; reach = here } } }

pub params_unnamed : {ts us at : List Token} (u : Use) (b : ℕ) → Front u ts us → Undeclared us at → length at ≡ length ts → (r : Answer (Params × (Token × Unit {0}))) → Exact (bare_line u) nothing_continues b ts r → Exact (params_line u) nothing_continues b ts r
unfolding then_ token done
params_unnamed {ts} {us} {at} u b f l same r h =
    chosen (params_line u) (bare_line u) b (length at) ts (λ c v s. bare_into u ts c v.0 v.1 s)
    (λ c w s s' ts' r h.
    let z = behind_part tt r (omega (arith, h, same)) in
    bare_split z.rule f l w.1.0 s s' ts' z.reach h)
    (at_once b f l same) r h

-- inside brackets a further `.` is taken
pub takes_dot : (u : Use) → g.behind_name (inside u) ≡ g.not_next kind.Dot
takes_dot Plain = refl
takes_dot Parameter = refl
takes_dot Operand = refl
takes_dot OperandEnd = refl

-- a list whose front has names is not empty
leads_open : {us after : List Token} → Declares us after → StartsWithout kind.CloseParen us
leads_open (named _ _ _ e f) = λ k. let bad : kind.Name ≡ kind.CloseParen = sym e ∙ k in cc
leads_open (listed _ _ _ _ e f l) = λ k. let bad : kind.Name ≡ kind.CloseParen = sym e ∙ k in cc

pub not_empty : {u : Use} {ts us after : List Token} → Front u ts us → Declares us after → StartsWithout kind.CloseParen ts
not_empty (plain none) l = leads_open l
not_empty (dollar i e) l = λ k. let bad : kind.Dollar ≡ kind.CloseParen = sym e ∙ k in cc

-- names that a loop has passed
pub passed : {t c : Token} {us at : List Token} → t.kind ≡ kind.Name → c.kind ≡ kind.Comma → Undeclared us at → Undeclared (t ∷ c ∷ us) at
passed e f b = again _ _ _ _ e f b
