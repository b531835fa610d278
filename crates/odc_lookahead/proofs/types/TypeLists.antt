-- The lists of types, each with its items: fields, types, enumerators and parameters.
use Rattle.std.proofs.Common.{◌≡◌, ℕ, ◌*◌, ◌≤◌, true, false, List, [], ◌∷◌, ◌++◌, length, refl, sym, ◌∙◌, ap, subst, arith, ◌⊎◌, inl, inr}
use Rattle.odc_syntax.specs.declared.token.Token.{Token}
use Rattle.odc_syntax.specs.declared.token.TokenKind.{TokenKind}
use Rattle.odc_syntax.specs.declared.token.TokenKind.TheVariants as kind
use Rattle.odc_syntax.specs.declared.grammar.Use.{Use}
use Rattle.odc_syntax.specs.declared.tree.Field.{Field}
use Rattle.odc_syntax.specs.Tree.{Type_, Fields, Types, Enumerators, Params, MaybeExpr}
use Rattle.odc_syntax.specs.declared.tree.Enumerator.{Enumerator}
use Rattle.odc_syntax.specs.declared.tree.Param.{Param}
use Rattle.odc_syntax.specs.Tree as tree
use Rattle.odc_syntax.specs.View.{type, types, fields, enumerators, param, params}
use Rattle.odc_syntax.specs.Grammar.{Sym, tok, Rule, inside}
use Rattle.odc_syntax.specs.Grammar as g
use Rattle.odc_syntax.specs.Derives.{Reach, here, read, StartsWithout}
use Rattle.odc_lookahead.specs.Exact.{size, Part, one, then_, done, token, behind, Found}
use Rattle.odc_lookahead.specs.Sets.{starts_type, starts_named, continues_argument, nothing_continues}
use Rattle.odc_lookahead.specs.TypeParts.{field_item, enumerator_item, fields_line, types_line, enumerators_line, named_params, bare_params, named_line, bare_line, enumerator}
use Rattle.odc_lookahead.proofs.reading.Opening.{OpensAll, reach_opens}
use Rattle.odc_lookahead.proofs.reading.Reaching.{behind_token}
use Rattle.odc_lookahead.proofs.reading.Leading.{same_depth, Pending, Led, led_done, first_is, without, at_rest}
use Rattle.odc_lookahead.proofs.reading.Answering.{answer_is}
use Rattle.odc_lookahead.proofs.separated.MoreLemmas.{Item, More}
use Rattle.odc_lookahead.proofs.separated.ListLemmas.{Listed, list_open, list_empty}
use Rattle.odc_lookahead.proofs.separated.ListRules.{type_item, types_listed, field_cons, fields_listed, enumerator_cons, enumerators_listed}
use Rattle.odc_lookahead.proofs.separated.ListAnswers.{ListOf, ListAt, list_start, next_of, with_item}
use Rattle.odc_lookahead.proofs.reading.Samples as sample

-- how the lists go on, from all their rules
pub further : {V L : Type 0} (item : Part V) (list more : ℕ → L → Sym) (nil : L) (cons : V → L → L) → Listed item list more nil cons → More item more nil cons
further item list more nil cons rules = record { part = rules.more_part; ended = rules.ended; comma = rules.comma; again = rules.again; cases = rules.more_cases }

-- a list up to its closing token, from where it begins
module _ {X V L : Type 0} (r : ListOf X V L) (list : ℕ → L → Sym) (rules : Listed r.item list r.more r.nil r.cons) where
  abbrev whole : Part (L × (Token × Unit {0}))
  whole = then_ list (then_ (token r.close) done)

  pub begins : (b : ℕ) (ts : List Token) (xs : List X) → xs ≡ [] → StartsWithout r.close ts → ListAt r whole b ts xs 0 ts
  begins b ts xs e open' = list_start r whole b ts xs e (list_open r.item list r.more r.nil r.cons rules r.any r.close r.not_comma r.closes nothing_continues b ts r.nil open')

  pub empty : (b : ℕ) (t : Token) (ts us : List Token) (xs : List X) → xs ≡ [] → ts ≡ t ∷ us → t.kind ≡ r.close → Found whole nothing_continues b ts (r.seen xs, (t, tt)) 0 us
  empty b t ts us xs none is e =
      answer_is (ap (λ (l : L). (l, (t, tt))) (sym (ap r.seen none ∙ r.seen_none))) refl
      (subst (λ (l : List Token). Found whole nothing_continues b l (r.nil, (t, tt)) 0 us) (sym is) (led_done same_depth (list_empty r.item list r.more r.nil r.cons rules r.any r.close r.not_comma r.closes nothing_continues b t us e)))

-- no type begins with a brace or a parenthesis that closes
no_type : (u : Use) (k m : TokenKind) → k ≡ m → starts_type u m ≡ false → starts_type u k ≡ true → ⊥
no_type u k m e none on = let bad : false ≡ true = sym none ∙ sym (ap (starts_type u) e) ∙ on in cc

-- fields
pub field_closes : (u : Use) (c : ℕ) (v : List Token × (Token × Type_)) (s : List Sym) (t : Token) (us : List Token) → t.kind ≡ kind.CloseBrace → OpensAll (field_item u c v ++ s) (t ∷ us) → ⊥
field_closes u c v s t us e o = let bad : kind.CloseBrace ≡ kind.Name = sym e ∙ o in cc

-- The colon is no part of a field: any stands for it.
abbrev pub field : Field → List Token × (Token × Type_)
field f = (f.names.items, (sample.token, type f.ty))

abbrev pub field_list : Use → ListOf Field (List Token × (Token × Type_)) Fields
field_list u = record {
  item = field_item u;
  more = g.more_fields u;
  nil = tree.no_fields;
  cons = field_cons;
  rules = further (field_item u) (g.fields u) (g.more_fields u) tree.no_fields field_cons (fields_listed u);
  any = (sample.token ∷ [], (sample.token, sample.type));
  close = kind.CloseBrace;
  not_comma = λ e. cc;
  closes = field_closes u;
  cont = nothing_continues;
  comma_stops = refl;
  close_stops = refl;
  view = field;
  seen = fields;
  seen_none = refl;
  seen_more = λ x xs. refl;
}

pub fields_begin : (u : Use) (b : ℕ) (ts : List Token) (xs : List Field) → xs ≡ [] → StartsWithout kind.CloseBrace ts → ListAt (field_list u) (fields_line u) b ts xs 0 ts
fields_begin u = begins (field_list u) (g.fields u) (fields_listed u)

pub fields_empty : (u : Use) (b : ℕ) (t : Token) (ts us : List Token) (xs : List Field) → xs ≡ [] → ts ≡ t ∷ us → t.kind ≡ kind.CloseBrace → Found (fields_line u) nothing_continues b ts (fields xs, (t, tt)) 0 us
fields_empty u = empty (field_list u) (g.fields u) (fields_listed u)

-- types
pub type_closes : (u : Use) (c : ℕ) (v : Type_) (s : List Sym) (t : Token) (us : List Token) → t.kind ≡ kind.CloseBrace → OpensAll (type_item u c v ++ s) (t ∷ us) → ⊥
type_closes u c v s t us e o = no_type u t.kind kind.CloseBrace e refl o

abbrev pub type_list : Use → ListOf Type_ Type_ Types
type_list u = record {
  item = type_item u;
  more = g.more_types u;
  nil = tree.no_types;
  cons = tree.more_types;
  rules = further (type_item u) (g.types u) (g.more_types u) tree.no_types tree.more_types (types_listed u);
  any = sample.type;
  close = kind.CloseBrace;
  not_comma = λ e. cc;
  closes = type_closes u;
  cont = nothing_continues;
  comma_stops = refl;
  close_stops = refl;
  view = type;
  seen = types;
  seen_none = refl;
  seen_more = λ x xs. refl;
}

pub types_begin : (u : Use) (b : ℕ) (ts : List Token) (xs : List Type_) → xs ≡ [] → StartsWithout kind.CloseBrace ts → ListAt (type_list u) (types_line u) b ts xs 0 ts
types_begin u = begins (type_list u) (g.types u) (types_listed u)

pub types_empty : (u : Use) (b : ℕ) (t : Token) (ts us : List Token) (xs : List Type_) → xs ≡ [] → ts ≡ t ∷ us → t.kind ≡ kind.CloseBrace → Found (types_line u) nothing_continues b ts (types xs, (t, tt)) 0 us
types_empty u = empty (type_list u) (g.types u) (types_listed u)

-- enumerators
pub enumerator_closes : (c : ℕ) (v : Token × MaybeExpr) (s : List Sym) (t : Token) (us : List Token) → t.kind ≡ kind.CloseBrace → OpensAll (enumerator_item c v ++ s) (t ∷ us) → ⊥
enumerator_closes c v s t us e o = let bad : kind.CloseBrace ≡ kind.Name = sym e ∙ o in cc

abbrev pub enumerator_list : ListOf Enumerator (Token × MaybeExpr) Enumerators
enumerator_list = record {
  item = enumerator_item;
  more = g.more_enumerators;
  nil = tree.no_enumerators;
  cons = enumerator_cons;
  rules = further enumerator_item g.enumerators g.more_enumerators tree.no_enumerators enumerator_cons enumerators_listed;
  any = (sample.token, tree.no_expr);
  close = kind.CloseBrace;
  not_comma = λ e. cc;
  closes = enumerator_closes;
  cont = continues_argument;
  comma_stops = refl;
  close_stops = refl;
  view = enumerator;
  seen = enumerators;
  seen_none = refl;
  seen_more = λ x xs. refl;
}

pub enumerators_begin : (b : ℕ) (ts : List Token) (xs : List Enumerator) → xs ≡ [] → StartsWithout kind.CloseBrace ts → ListAt enumerator_list enumerators_line b ts xs 0 ts
enumerators_begin = begins enumerator_list g.enumerators enumerators_listed

pub enumerators_empty : (b : ℕ) (t : Token) (ts us : List Token) (xs : List Enumerator) → xs ≡ [] → ts ≡ t ∷ us → t.kind ≡ kind.CloseBrace → Found enumerators_line nothing_continues b ts (enumerators xs, (t, tt)) 0 us
enumerators_empty = empty enumerator_list g.enumerators enumerators_listed

-- parameters with names
more_named_cases : (u : Use) (c : ℕ) (w : Params) (p : List Sym) → Rule (g.more_named u c w) p →
    ((p ≡ []) × (w ≡ tree.no_params)) ⊎ ((t : Token) × (((p ≡ tok kind.Comma t ∷ []) × (w ≡ tree.no_params)) ⊎ Item (one (g.named_param u)) (g.more_named u) tree.more_params c w (tok kind.Comma t ∷ []) p))
more_named_cases u c w p g.named_end = inl (refl, refl)
more_named_cases u c w p (g.named_comma {t = t}) = inr (t, inl (refl, refl))
more_named_cases u c w p (g.named_more {t = t} {p = q} {ps = ps}) = inr (t, inr (record { first = q; rest = ps; value = refl; is = refl }))

pub named_more : (u : Use) → More (one (g.named_param u)) (g.more_named u) tree.no_params tree.more_params
named_more u = record { part = λ c l. tt; ended = λ c. g.named_end; comma = λ c t. g.named_comma; again = λ c t v l. g.named_more; cases = more_named_cases u }

no_named : (u : Use) (k m : TokenKind) → k ≡ m → starts_named u m ≡ false → starts_named u k ≡ true → ⊥
no_named u k m e none on = let bad : false ≡ true = sym none ∙ sym (ap (starts_named u) e) ∙ on in cc

pub named_closes : (u : Use) (c : ℕ) (v : tree.Param) (s : List Sym) (t : Token) (us : List Token) → t.kind ≡ kind.CloseParen → OpensAll (one (g.named_param u) c v ++ s) (t ∷ us) → ⊥
named_closes u c v s t us e o = no_named u t.kind kind.CloseParen e refl o

pub no_param : tree.Param
no_param = tree.param false [] tree.typeid tree.no_expr

abbrev pub named_list : Use → ListOf Param tree.Param Params
named_list u = record {
  item = one (g.named_param u);
  more = g.more_named u;
  nil = tree.no_params;
  cons = tree.more_params;
  rules = named_more u;
  any = no_param;
  close = kind.CloseParen;
  not_comma = λ e. cc;
  closes = named_closes u;
  cont = continues_argument;
  comma_stops = refl;
  close_stops = refl;
  view = param;
  seen = params;
  seen_none = refl;
  seen_more = λ x xs. refl;
}

-- parameters without
more_bare_cases : (u : Use) (c : ℕ) (w : Params) (p : List Sym) → Rule (g.more_bare u c w) p →
    ((p ≡ []) × (w ≡ tree.no_params)) ⊎ ((t : Token) × (((p ≡ tok kind.Comma t ∷ []) × (w ≡ tree.no_params)) ⊎ Item (one (g.bare_param u)) (g.more_bare u) tree.more_params c w (tok kind.Comma t ∷ []) p))
more_bare_cases u c w p g.bare_end = inl (refl, refl)
more_bare_cases u c w p (g.bare_comma {t = t}) = inr (t, inl (refl, refl))
more_bare_cases u c w p (g.bare_more {t = t} {p = q} {ps = ps}) = inr (t, inr (record { first = q; rest = ps; value = refl; is = refl }))

pub bare_more : (u : Use) → More (one (g.bare_param u)) (g.more_bare u) tree.no_params tree.more_params
bare_more u = record { part = λ c l. tt; ended = λ c. g.bare_end; comma = λ c t. g.bare_comma; again = λ c t v l. g.bare_more; cases = more_bare_cases u }

pub bare_closes : (u : Use) (c : ℕ) (v : tree.Param) (s : List Sym) (t : Token) (us : List Token) → t.kind ≡ kind.CloseParen → OpensAll (one (g.bare_param u) c v ++ s) (t ∷ us) → ⊥
bare_closes u c v s t us e o = no_type u t.kind kind.CloseParen e refl o

abbrev pub bare_list : Use → ListOf Param tree.Param Params
bare_list u = record {
  item = one (g.bare_param u);
  more = g.more_bare u;
  nil = tree.no_params;
  cons = tree.more_params;
  rules = bare_more u;
  any = no_param;
  close = kind.CloseParen;
  not_comma = λ e. cc;
  closes = bare_closes u;
  cont = nothing_continues;
  comma_stops = refl;
  close_stops = refl;
  view = param;
  seen = params;
  seen_none = refl;
  seen_more = λ x xs. refl;
}

-- a list of either kind, from where it begins
named_only : (u : Use) (ts : List Token) → StartsWithout kind.CloseParen ts → (c : ℕ) (ps : Params) (z : Token × Unit {0}) (s s' : List Sym) (ts' : List Token) → Reach s' ts' (named_params u c ps z.0 ++ s) ts → size s' ts' ≤ 2 * length ts →
    Pending {V = Params × (Token × Unit {0})} (λ n. n) (next_of (named_list u)) (with_item (named_list u)) 0 ts c (ps, z) s s' ts'
unfolding behind then_ token done
named_only u ts open' c tree.no_params z s s' ts' r h = let y = behind_token r h in absurd (without kind.CloseParen _ _ ts y.is y.kind open')
named_only u ts open' c (tree.more_params p ps) z s s' ts' r h = record { at = c; value = (p, (ps, z)); bound = refl; whole = refl; deep = omega arith; reach = r }

named_open : (u : Use) (b : ℕ) (ts : List Token) → StartsWithout kind.CloseParen ts → Led (named_line u) nothing_continues (λ n. n) b ts (next_of (named_list u)) (with_item (named_list u)) 0 ts
unfolding behind then_ token done
named_open u b ts open' = record {
  short = omega arith;
  sample = (no_param, (tree.no_params, (sample.token, tt)));
  comes = record { at = λ c h. record { value = (tree.no_params, (sample.token, tt)); before = λ s. record { pending = _; rest = ts; rest_is = refl; reach = here } } };
  reads = λ c v h s. here;
  only = λ c w s s' ts' clear r h. named_only u ts open' c w.0 w.1 s s' ts' r h;
}

pub named_begin : (u : Use) (b : ℕ) (ts : List Token) (xs : List Param) → xs ≡ [] → StartsWithout kind.CloseParen ts → ListAt (named_list u) (named_line u) b ts xs 0 ts
named_begin u b ts xs e open' = list_start (named_list u) (named_line u) b ts xs e (named_open u b ts open')

bare_only : (u : Use) (ts : List Token) → StartsWithout kind.CloseParen ts → (c : ℕ) (ps : Params) (z : Token × Unit {0}) (s s' : List Sym) (ts' : List Token) → Reach s' ts' (bare_params u c ps z.0 ++ s) ts → size s' ts' ≤ 2 * length ts →
    Pending {V = Params × (Token × Unit {0})} (λ n. n) (next_of (bare_list u)) (with_item (bare_list u)) 0 ts c (ps, z) s s' ts'
unfolding behind then_ token done
bare_only u ts open' c tree.no_params z s s' ts' r h = let y = behind_token r h in absurd (without kind.CloseParen _ _ ts y.is y.kind open')
bare_only u ts open' c (tree.more_params p ps) z s s' ts' r h = record { at = c; value = (p, (ps, z)); bound = refl; whole = refl; deep = omega arith; reach = r }

bare_open : (u : Use) (b : ℕ) (ts : List Token) → StartsWithout kind.CloseParen ts → Led (bare_line u) nothing_continues (λ n. n) b ts (next_of (bare_list u)) (with_item (bare_list u)) 0 ts
unfolding behind then_ token done
bare_open u b ts open' = record {
  short = omega arith;
  sample = (no_param, (tree.no_params, (sample.token, tt)));
  comes = record { at = λ c h. record { value = (tree.no_params, (sample.token, tt)); before = λ s. record { pending = _; rest = ts; rest_is = refl; reach = here } } };
  reads = λ c v h s. here;
  only = λ c w s s' ts' clear r h. bare_only u ts open' c w.0 w.1 s s' ts' r h;
}

pub bare_begin : (u : Use) (b : ℕ) (ts : List Token) (xs : List Param) → xs ≡ [] → StartsWithout kind.CloseParen ts → ListAt (bare_list u) (bare_line u) b ts xs 0 ts
bare_begin u b ts xs e open' = list_start (bare_list u) (bare_line u) b ts xs e (bare_open u b ts open')

-- none is given
bare_end_by : (u : Use) (t : Token) (us : List Token) → t.kind ≡ kind.CloseParen → (c : ℕ) (ps : Params) (z : Token × Unit {0}) (s s' : List Sym) (ts' : List Token) → Reach s' ts' (bare_params u c ps z.0 ++ s) (t ∷ us) → size s' ts' ≤ 2 * length us →
    Pending {V = Params × (Token × Unit {0})} (λ n. n) done (λ v. (tree.no_params, (t, tt))) 0 us c (ps, z) s s' ts'
unfolding done
bare_end_by u t us e c tree.no_params z s s' ts' r h =
    let y = behind_token r (omega (arith, h)) in
    record { at = c; value = tt; bound = refl; whole = ap (λ (t : Token). (tree.no_params, (t, tt))) (first_is y.is); deep = omega arith; reach = at_rest y }
bare_end_by u t us e c (tree.more_params p ps) z s s' ts' r h = absurd (no_type u t.kind kind.CloseParen e refl (reach_opens r (omega (arith, h))))

bare_end : (u : Use) (b : ℕ) (t : Token) (us : List Token) → t.kind ≡ kind.CloseParen → Led (bare_line u) nothing_continues (λ n. n) b (t ∷ us) done (λ v. (tree.no_params, (t, tt))) 0 us
unfolding done
bare_end u b t us e = record {
  short = omega arith;
  sample = tt;
  comes = record { at = λ c h. record { value = (tree.no_params, (t, tt)); before = λ s. record { pending = s; rest = us; rest_is = refl; reach = read e here } } };
  reads = λ c v h s. read e here;
  only = λ c w s s' ts' clear r h. bare_end_by u t us e c w.0 w.1 s s' ts' r h;
}

pub bare_empty : (u : Use) (b : ℕ) (t : Token) (ts us : List Token) (xs : List Param) → xs ≡ [] → ts ≡ t ∷ us → t.kind ≡ kind.CloseParen → Found (bare_line u) nothing_continues b ts (params xs, (t, tt)) 0 us
bare_empty u b t ts us xs none is e =
    answer_is (ap (λ (l : List Param). (params l, (t, tt))) (sym none)) refl
    (subst (λ (l : List Token). Found (bare_line u) nothing_continues b l (tree.no_params, (t, tt)) 0 us) (sym is) (led_done same_depth (bare_end u b t us e)))
