-- Parameters where no type may stand any more: names in front may still be names of parameters, and as types
-- they are too deep. The answer comes from that of a list without names at a bound of one more.
use Rattle.std.proofs.Common.{◌≡◌, ℕ, suc, ◌-◌, ◌*◌, ◌<◌, ◌≤◌, true, false, List, [], ◌∷◌, ◌++◌, length, refl, sym, ◌∙◌, subst, arith, ◌⊎◌, inl, inr}
use Rattle.std.proofs.Math.Nat.{lt_of_not-le, eq-or-lt_of_le}
use Rattle.odc_syntax.specs.declared.token.Token.{Token}
use Rattle.odc_syntax.specs.declared.token.TokenKind.TheVariants as kind
use Rattle.odc_syntax.specs.declared.grammar.Use.{Use}
use Rattle.odc_syntax.specs.declared.grammar.Use.TheVariants.{Parameter}
use Rattle.odc_syntax.specs.Tree.{Type_, Param, Params}
use Rattle.odc_syntax.specs.Tree as tree
use Rattle.odc_syntax.specs.Grammar.{Sym, tok, Rule, type_}
use Rattle.odc_syntax.specs.Grammar as g
use Rattle.odc_syntax.specs.Derives.{Reach, here, read, read_said, see, see_not, see_no_member, write}
use Rattle.odc_lookahead.specs.Exact.{size, Part, Comes, Found, Broken, TooDeep, then_, done, token}
use Rattle.odc_lookahead.specs.ParamForms.{Front, plain, dollar}
use Rattle.odc_lookahead.specs.stmts.Runs.{Undeclared, unnamed, ended, again}
use Rattle.odc_lookahead.specs.Sets.{nothing_continues}
use Rattle.odc_lookahead.specs.TypeParts.{params_line, bare_line}
use Rattle.odc_lookahead.proofs.reading.Opening.{reach_opens, StartsWith}
use Rattle.odc_lookahead.proofs.reading.Reaching.{along, behind_part}
use Rattle.odc_lookahead.proofs.expr.SuffixAnswers.{nothing_clear}
use Rattle.odc_lookahead.proofs.expr.TypeStarts.{costs_type}
use Rattle.odc_lookahead.proofs.params.ParamsChoice.{named_dead}
use Rattle.odc_lookahead.proofs.params.ParamsAnswers.{bare_into, bare_split, bare_comes}
use Rattle.odc_lookahead.proofs.reading.Samples as sample

-- What goes past a place comes to it.
pub record Past (m : ℕ) (s : List Sym) (ts : List Token) : Type 0 where
  pub pending : List Sym
  pub rest : List Token
  pub rest_is : length rest ≡ m
  pub reach : Reach pending rest s ts

past_or : {s : List Sym} {t : Token} {ts : List Token} (m : ℕ) → (m ≡ suc (length ts)) ⊎ (m < suc (length ts)) → (m ≤ length ts → Past m s (t ∷ ts)) → Past m s (t ∷ ts)
past_or {s} {t} {ts} m (inl e) f = record { pending = s; rest = t ∷ ts; rest_is = sym e; reach = here }
past_or m (inr h) f = f (omega (arith, h))

pub cut : {s' : List Sym} {ts' : List Token} {s : List Sym} {ts : List Token} → Reach s' ts' s ts → (m : ℕ) → length ts' ≤ m → m ≤ length ts → Past m s ts
cut {s'} {ts'} here m h k = record { pending = s'; rest = ts'; rest_is = omega (arith, h, k); reach = here }
cut (read e r) m h k = past_or m (eq-or-lt_of_le k) (λ n. let z = cut r m h n in record { pending = z.pending; rest = z.rest; rest_is = z.rest_is; reach = read e z.reach })
cut (read_said e f r) m h k = past_or m (eq-or-lt_of_le k) (λ n. let z = cut r m h n in record { pending = z.pending; rest = z.rest; rest_is = z.rest_is; reach = read_said e f z.reach })
cut (see e r) m h k = let z = cut r m h k in record { pending = z.pending; rest = z.rest; rest_is = z.rest_is; reach = see e z.reach }
cut (see_not e r) m h k = let z = cut r m h k in record { pending = z.pending; rest = z.rest; rest_is = z.rest_is; reach = see_not e z.reach }
cut (see_no_member e r) m h k = let z = cut r m h k in record { pending = z.pending; rest = z.rest; rest_is = z.rest_is; reach = see_no_member e z.reach }
cut (write p w r) m h k = let z = cut r m h k in record { pending = z.pending; rest = z.rest; rest_is = z.rest_is; reach = write p w z.reach }

pub comes_before : {V : Type 0} {p : Part V} {b left : ℕ} {ts : List Token} (m : ℕ) → left ≤ m → m ≤ length ts → Comes p b ts left → Comes p b ts m
comes_before m h k comes = record {
  at = λ c i.
      let a = comes.at c i in
      record {
        value = a.value;
        before = λ s.
            let z = a.before s in
            let e = z.rest_is in
            let y = cut z.reach m (omega (arith, e, h)) k in
            record { pending = y.pending; rest = y.rest; rest_is = y.rest_is; reach = y.reach };
      };
}

-- names in front, as names of parameters
record NamesGo (us at : List Token) : Type 0 where
  pub first : Token
  pub others : List Token
  pub reach : (k : Token) (s : List Sym) → (q : List Sym) × Reach q at (g.names (first ∷ others) ∷ tok kind.Colon k ∷ s) us

names_go : {us at : List Token} → Undeclared us at → NamesGo us at
names_go (unnamed _ none) = record { first = sample.token; others = []; reach = λ k s. (_, here) }
names_go (ended t _ e f o) = record { first = t; others = []; reach = λ k s. (_, write _ g.names_one (read e here)) }
names_go (again t c _ _ e f b) =
    let z = names_go b in
    record { first = t; others = z.first ∷ z.others; reach = λ k s. let y = z.reach k s in (y.0, write _ (g.names_more {c = c}) (read e (read f y.1))) }

dollar_comes : (b : ℕ) (t : Token) (us at : List Token) → t.kind ≡ kind.Dollar → Undeclared us at → Comes (params_line Parameter) b (t ∷ us) (length at)
unfolding then_ token done
dollar_comes b t us at e l =
    let z = names_go l in
    record {
      at = λ c h. record {
        value = (tree.more_params (tree.param true (z.first ∷ z.others) tree.typeid tree.no_expr) tree.no_params, (sample.token, tt));
        before = λ s.
            let y = z.reach sample.token (tok kind.Typeid sample.token ∷ g.given c tree.no_expr ∷ g.more_named Parameter c tree.no_params ∷ tok kind.CloseParen sample.token ∷ s) in
            record { pending = y.0; rest = at; rest_is = refl; reach = write _ g.params_named (write _ (g.dollar_typeid {c = sample.token} {t = sample.token}) (read e y.1)) };
      };
    }

names_come : {u : Use} {ts us at : List Token} (b : ℕ) → Front u ts us → Undeclared us at → Comes (params_line u) b ts (length at)
unfolding then_ token done
names_come {u} {ts} {us} {at} b (plain none) l =
    let z = names_go l in
    record {
      at = λ c h. record {
        value = (tree.more_params (tree.param false (z.first ∷ z.others) tree.typeid tree.no_expr) tree.no_params, (sample.token, tt));
        before = λ s.
            let y = z.reach sample.token (tok kind.Typeid sample.token ∷ g.given c tree.no_expr ∷ g.more_named u c tree.no_params ∷ tok kind.CloseParen sample.token ∷ s) in
            record { pending = y.0; rest = at; rest_is = refl; reach = write _ g.params_named (write _ (g.named_typeid {c = sample.token} {t = sample.token}) y.1) };
      };
    }
names_come {u} {ts} {us} {at} b (dollar {t = t} i e) l = subst (λ (v : Use). Comes (params_line v) b (t ∷ us) (length at)) (sym i) (dollar_comes b t us at e l)

-- no list ends here
begins_name : {us at : List Token} → Undeclared us at → length at < length us → StartsWith kind.CloseParen us → ⊥
begins_name (unnamed _ none) h o = omega (arith, h)
begins_name (ended _ _ e f k) h o = let bad : kind.Name ≡ kind.CloseParen = sym e ∙ o in cc
begins_name (again _ _ _ _ e f b) h o = let bad : kind.Name ≡ kind.CloseParen = sym e ∙ o in cc

not_closed : {u : Use} {ts us at : List Token} → Front u ts us → Undeclared us at → length at < length ts → StartsWith kind.CloseParen ts → ⊥
not_closed (plain none) b h o = begins_name b h o
not_closed (dollar i e) b h o = let bad : kind.Dollar ≡ kind.CloseParen = sym e ∙ o in cc

-- a list without names costs a level
bare_costs : {u : Use} {c : ℕ} {w : Param} {p : List Sym} → Rule (g.bare_param u c w) p → (s s' : List Sym) (ts ts' : List Token) → Reach s' ts' (p ++ s) ts → size s' ts' ≤ 2 * length ts → 0 < c
bare_costs (g.bare_type {u = u} {b = b} {ty = ty}) s s' ts ts' r h = costs_type u b ty s s' ts ts' r h

cost_by : {u : Use} {c : ℕ} {w : Params} {p : List Sym} (rule : Rule (g.params u c w) p) {ts us at : List Token} → Front u ts us → Undeclared us at → length at < length ts → (x : Token) (s s' : List Sym) (ts' : List Token) → Reach s' ts' (p ++ (tok kind.CloseParen x ∷ s)) ts →
    size s' ts' ≤ 2 * length at → 0 < c
cost_by g.params_none {ts = ts} f b less x s s' ts' r h = absurd (not_closed f b less (reach_opens r (omega (arith, h, less))))
cost_by (g.params_named {b = c} {p = p}) f b less x s s' ts' r h = absurd (named_dead f b c p _ s' ts' r h)
cost_by g.params_bare {ts = ts} f b less x s s' ts' r h = let z = behind_part tt r (omega (arith, h, less)) in bare_costs z.rule _ s' ts ts' z.reach (omega (arith, h, less))

-- something deeper goes on
pub crossed : {ts us at : List Token} (u : Use) (d : ℕ) → Front u ts us → Undeclared us at → length at < length ts → 1 ≤ length at → Comes (bare_line u) d ts (length at - 1) → TooDeep (params_line u) nothing_continues 0 ts (length at - 1)
unfolding then_ token done
crossed {ts} {us} {at} u d f b less some comes =
    let near : length at ≡ suc (length at - 1) = omega (arith, some) in
    record {
      short = omega (arith, less, some);
      comes = subst (λ (k : ℕ). Comes (params_line u) 0 ts k) near (names_come 0 f b);
      deep = λ c w s s' ts' clear r h.
          let z = behind_part tt r (omega (arith, h, less, some)) in
          cost_by z.rule f b less w.1.0 s s' ts' z.reach (omega (arith, h, some));
      depth = d;
      deeper = record {
        at = λ c h.
            let a = comes.at c h in
            record { value = a.value; before = λ s. let z = a.before s in record { pending = z.pending; rest = z.rest; rest_is = z.rest_is; reach = along (bare_into u ts c a.value.0 a.value.1 s) z.reach } };
      };
    }

-- nothing does
pub crossed_broken : {ts us at : List Token} (u : Use) (left : ℕ) → Front u ts us → Undeclared us at → length at < length ts → Broken (bare_line u) nothing_continues 1 ts left → left ≡ length at → Broken (params_line u) nothing_continues 0 ts left
unfolding then_ token done
crossed_broken {ts} {us} {at} u left f b less broken same =
    record {
      short = broken.short;
      comes = subst (λ (k : ℕ). Comes (params_line u) 0 ts k) (sym same) (names_come 0 f b);
      none = λ c w s s' ts' clear r h.
          let z = behind_part tt r (omega (arith, h, less, same)) in
          broken.none c w s s' ts' clear (bare_split z.rule f b w.1.0 s s' ts' z.reach (omega (arith, h, same))) h;
    }

-- the answers of a list without names at a bound of one
pub crossed_past : {ts us at : List Token} (u : Use) (left : ℕ) → Front u ts us → Undeclared us at → length at < length ts → Broken (bare_line u) nothing_continues 1 ts left → left < length at → TooDeep (params_line u) nothing_continues 0 ts (length at - 1)
crossed_past u left f b less broken past = crossed u 1 f b less (omega (arith, past)) (comes_before _ (omega (arith, past)) (omega (arith, less)) broken.comes)

pub crossed_found : {ts us at : List Token} (u : Use) (v : Params × (Token × Unit {0})) (n : ℕ) (rest : List Token) → Front u ts us → Undeclared us at → length at < length ts → Found (bare_line u) nothing_continues 1 ts v n rest → length rest < length at →
    TooDeep (params_line u) nothing_continues 0 ts (length at - 1)
crossed_found u v n rest f b less found past = crossed u 1 f b less (omega (arith, past)) (comes_before _ (omega (arith, past)) (omega (arith, less)) found.comes)

pub crossed_deep : {ts us at : List Token} (u : Use) (left : ℕ) → Front u ts us → Undeclared us at → length at < length ts → TooDeep (bare_line u) nothing_continues 1 ts left → left < length at → TooDeep (params_line u) nothing_continues 0 ts (length at - 1)
crossed_deep u left f b less deep past = crossed u deep.depth f b less (omega (arith, past)) (comes_before _ (omega (arith, past)) (omega (arith, less)) deep.deeper)

-- no list without names is refused before the names in front
at_most : (s : List Sym) (ts : List Token) → size s ts ≤ suc (2 * length ts)
at_most [] ts = omega arith
at_most (x ∷ s) ts = omega arith

pub broken_near : {ts us at : List Token} (u : Use) → g.behind_name u ≡ g.not_next kind.Dot → (left : ℕ) → Front u ts us → Undeclared us at → Broken (bare_line u) nothing_continues 1 ts left → left < suc (length at)
broken_near u look left f b broken =
    let a = (bare_comes look 1 (omega arith) f b).at 1 (omega arith) in
    let z = a.before [] in
    let e = z.rest_is in
    lt_of_not-le (λ h. broken.none 1 a.value [] z.pending z.rest (nothing_clear []) z.reach (let n = at_most z.pending z.rest in omega (arith, n, e, h)))

pub deep_near : {ts us at : List Token} (u : Use) → g.behind_name u ≡ g.not_next kind.Dot → (left : ℕ) → Front u ts us → Undeclared us at → TooDeep (bare_line u) nothing_continues 1 ts left → left < length at
deep_near u look left f b deep =
    let a = (bare_comes look 1 (omega arith) f b).at 1 (omega arith) in
    let z = a.before [] in
    let e = z.rest_is in
    lt_of_not-le (λ h.
    let bad : 1 < 1 = deep.deep 1 a.value [] z.pending z.rest (nothing_clear []) z.reach (let n = at_most z.pending z.rest in omega (arith, n, e, h)) in
    omega (arith, bad))
