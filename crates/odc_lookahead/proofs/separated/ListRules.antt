-- The rules of each list between commas.
use Rattle.std.proofs.Common.{◌≡◌, ℕ, List, [], ◌∷◌, refl, ◌⊎◌, inl, inr, Option}
use Rattle.odc_syntax.specs.declared.token.Token.{Token}
use Rattle.odc_syntax.specs.declared.token.TokenKind.TheVariants as kind
use Rattle.odc_syntax.specs.declared.grammar.Use.{Use}
use Rattle.odc_syntax.specs.Tree.{Expr, MaybeExpr, Args, Type_, Types, Fields, Enumerators, Param, Params}
use Rattle.odc_syntax.specs.Tree as tree
use Rattle.odc_syntax.specs.Grammar.{Sym, tok, Rule}
use Rattle.odc_syntax.specs.Grammar as g
use Rattle.odc_lookahead.specs.Exact.{Part}
use Rattle.odc_lookahead.specs.Parts.{arg_item}
use Rattle.odc_lookahead.proofs.separated.ListLemmas.{Item, Listed}

-- arguments
abbrev pub arg_cons : Option Token × Expr → Args → Args
arg_cons v l = tree.more_args v.0 v.1 l

args_cases : (c : ℕ) (w : Args) (p : List Sym) → Rule (g.args c w) p → ((p ≡ []) × (w ≡ tree.no_args)) ⊎ Item arg_item g.more_args arg_cons c w [] p
args_cases c w p g.args_none = inl (refl, refl)
args_cases c w p (g.args_some {n = n} {e = e} {xs = xs}) = inr (record { first = (n, e); rest = xs; value = refl; is = refl })

more_args_cases : (c : ℕ) (w : Args) (p : List Sym) → Rule (g.more_args c w) p →
    ((p ≡ []) × (w ≡ tree.no_args)) ⊎ ((t : Token) × (((p ≡ tok kind.Comma t ∷ []) × (w ≡ tree.no_args)) ⊎ Item arg_item g.more_args arg_cons c w (tok kind.Comma t ∷ []) p))
more_args_cases c w p g.args_end = inl (refl, refl)
more_args_cases c w p (g.args_comma {t = t}) = inr (t, inl (refl, refl))
more_args_cases c w p (g.args_more {t = t} {n = n} {e = e} {xs = xs}) = inr (t, inr (record { first = (n, e); rest = xs; value = refl; is = refl }))

pub args_listed : Listed arg_item g.args g.more_args tree.no_args arg_cons
args_listed = record {
  list_part = λ c l. tt;
  more_part = λ c l. tt;
  none = λ c. g.args_none;
  some = λ c v l. g.args_some;
  ended = λ c. g.args_end;
  comma = λ c t. g.args_comma;
  again = λ c t v l. g.args_more;
  list_cases = args_cases;
  more_cases = more_args_cases;
}

-- the types of a union
abbrev pub type_item : Use → Part Type_
type_item u c v = g.type_ u c v ∷ []

types_cases : (u : Use) (c : ℕ) (w : Types) (p : List Sym) → Rule (g.types u c w) p → ((p ≡ []) × (w ≡ tree.no_types)) ⊎ Item (type_item u) (g.more_types u) tree.more_types c w [] p
types_cases u c w p g.types_none = inl (refl, refl)
types_cases u c w p (g.types_some {ty = ty} {ts = ts}) = inr (record { first = ty; rest = ts; value = refl; is = refl })

more_types_cases : (u : Use) (c : ℕ) (w : Types) (p : List Sym) → Rule (g.more_types u c w) p →
    ((p ≡ []) × (w ≡ tree.no_types)) ⊎ ((t : Token) × (((p ≡ tok kind.Comma t ∷ []) × (w ≡ tree.no_types)) ⊎ Item (type_item u) (g.more_types u) tree.more_types c w (tok kind.Comma t ∷ []) p))
more_types_cases u c w p g.types_end = inl (refl, refl)
more_types_cases u c w p (g.types_comma {t = t}) = inr (t, inl (refl, refl))
more_types_cases u c w p (g.types_more {t = t} {ty = ty} {ts = ts}) = inr (t, inr (record { first = ty; rest = ts; value = refl; is = refl }))

pub types_listed : (u : Use) → Listed (type_item u) (g.types u) (g.more_types u) tree.no_types tree.more_types
types_listed u = record {
  list_part = λ c l. tt;
  more_part = λ c l. tt;
  none = λ c. g.types_none;
  some = λ c v l. g.types_some;
  ended = λ c. g.types_end;
  comma = λ c t. g.types_comma;
  again = λ c t v l. g.types_more;
  list_cases = types_cases u;
  more_cases = more_types_cases u;
}

-- fields
abbrev pub field_item : Use → Part (List Token × (Token × Type_))
field_item u c v = g.names v.0 ∷ tok kind.Colon v.1.0 ∷ g.type_ u c v.1.1 ∷ []

abbrev pub field_cons : List Token × (Token × Type_) → Fields → Fields
field_cons v l = tree.more_fields v.0 v.1.1 l

fields_cases : (u : Use) (c : ℕ) (w : Fields) (p : List Sym) → Rule (g.fields u c w) p → ((p ≡ []) × (w ≡ tree.no_fields)) ⊎ Item (field_item u) (g.more_fields u) field_cons c w [] p
fields_cases u c w p g.fields_none = inl (refl, refl)
fields_cases u c w p (g.fields_some {ns = ns} {c = k} {ty = ty} {fs = fs}) = inr (record { first = (ns, (k, ty)); rest = fs; value = refl; is = refl })

more_fields_cases : (u : Use) (c : ℕ) (w : Fields) (p : List Sym) → Rule (g.more_fields u c w) p →
    ((p ≡ []) × (w ≡ tree.no_fields)) ⊎ ((t : Token) × (((p ≡ tok kind.Comma t ∷ []) × (w ≡ tree.no_fields)) ⊎ Item (field_item u) (g.more_fields u) field_cons c w (tok kind.Comma t ∷ []) p))
more_fields_cases u c w p g.fields_end = inl (refl, refl)
more_fields_cases u c w p (g.fields_comma {t = t}) = inr (t, inl (refl, refl))
more_fields_cases u c w p (g.fields_more {t = t} {ns = ns} {c = k} {ty = ty} {fs = fs}) = inr (t, inr (record { first = (ns, (k, ty)); rest = fs; value = refl; is = refl }))

pub fields_listed : (u : Use) → Listed (field_item u) (g.fields u) (g.more_fields u) tree.no_fields field_cons
fields_listed u = record {
  list_part = λ c l. tt;
  more_part = λ c l. tt;
  none = λ c. g.fields_none;
  some = λ c v l. g.fields_some;
  ended = λ c. g.fields_end;
  comma = λ c t. g.fields_comma;
  again = λ c t v l. g.fields_more;
  list_cases = fields_cases u;
  more_cases = more_fields_cases u;
}

-- enumerators
abbrev pub enumerator_item : Part (Token × MaybeExpr)
enumerator_item c v = tok kind.Name v.0 ∷ g.given c v.1 ∷ []

abbrev pub enumerator_cons : Token × MaybeExpr → Enumerators → Enumerators
enumerator_cons v l = tree.more_enumerators v.0 v.1 l

enumerators_cases : (c : ℕ) (w : Enumerators) (p : List Sym) → Rule (g.enumerators c w) p → ((p ≡ []) × (w ≡ tree.no_enumerators)) ⊎ Item enumerator_item g.more_enumerators enumerator_cons c w [] p
enumerators_cases c w p g.enumerators_none = inl (refl, refl)
enumerators_cases c w p (g.enumerators_some {n = n} {v = v} {es = es}) = inr (record { first = (n, v); rest = es; value = refl; is = refl })

more_enumerators_cases : (c : ℕ) (w : Enumerators) (p : List Sym) → Rule (g.more_enumerators c w) p →
    ((p ≡ []) × (w ≡ tree.no_enumerators)) ⊎ ((t : Token) × (((p ≡ tok kind.Comma t ∷ []) × (w ≡ tree.no_enumerators)) ⊎ Item enumerator_item g.more_enumerators enumerator_cons c w (tok kind.Comma t ∷ []) p))
more_enumerators_cases c w p g.enumerators_end = inl (refl, refl)
more_enumerators_cases c w p (g.enumerators_comma {t = t}) = inr (t, inl (refl, refl))
more_enumerators_cases c w p (g.enumerators_more {t = t} {n = n} {v = v} {es = es}) = inr (t, inr (record { first = (n, v); rest = es; value = refl; is = refl }))

pub enumerators_listed : Listed enumerator_item g.enumerators g.more_enumerators tree.no_enumerators enumerator_cons
enumerators_listed = record {
  list_part = λ c l. tt;
  more_part = λ c l. tt;
  none = λ c. g.enumerators_none;
  some = λ c v l. g.enumerators_some;
  ended = λ c. g.enumerators_end;
  comma = λ c t. g.enumerators_comma;
  again = λ c t v l. g.enumerators_more;
  list_cases = enumerators_cases;
  more_cases = more_enumerators_cases;
}
