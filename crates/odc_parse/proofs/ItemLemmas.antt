-- Imports, and the list of what stands in a file.
use Rattle.std.proofs.Common.{◌≡◌, ℕ, suc, ◌+◌, ◌*◌, ◌<◌, ◌≤◌, nat_lt, max, Bool, true, false, List, [], ◌∷◌, ◌++◌, length, refl, sym, ◌∙◌, ap, subst, arith, Option, Some, None}
use Rattle.std.proofs.lemmas.Bool.Decides.{nat_tests}
use Rattle.odc_syntax.specs.declared.token.Token.{Token}
use Rattle.odc_syntax.specs.declared.token.TokenKind.{TokenKind}
use Rattle.odc_syntax.specs.declared.token.TokenKind.TheVariants as kind
use Rattle.odc_syntax.specs.declared.grammar.Mode.TheVariants.{Free}
use Rattle.odc_syntax.specs.Tree.{Decl, Decls}
use Rattle.odc_syntax.specs.Tree as tree
use Rattle.odc_syntax.specs.declared.grammar.Use.TheVariants.{Plain}
use Rattle.odc_syntax.specs.Grammar.{Sym, Rule, tok, maybe_token}
use Rattle.odc_syntax.specs.Grammar as g
use Rattle.odc_syntax.specs.Derives.{Reach, here, read, write, StartsWithout}
use Rattle.odc_lookahead.specs.declared.stop.Stop.{Stop}
use Rattle.odc_lookahead.specs.declared.stop.Stop.TheVariants as stop
use Rattle.odc_lookahead.specs.Exact.{size, Clear, Part, one, ComesAt, Remains, then_, done, token, Exact, Found, Broken, TooDeep}
use Rattle.odc_lookahead.specs.Read.{refused, NotExpected}
use Rattle.odc_lookahead.specs.stmts.StatementSets.{continues_declaration}
use Rattle.odc_lookahead.proofs.reading.Opening.{reach_opens}
use Rattle.odc_lookahead.proofs.reading.Reaching.{along, behind_part, behind_token}
use Rattle.odc_lookahead.proofs.reading.Leading.{one_deeper, same_depth, Pending, Led, led_part, led_done, first_is, without, at_rest}
use Rattle.odc_lookahead.proofs.reading.Answering.{led_start, token_read, token_refused}
use Rattle.odc_lookahead.proofs.expr.SuffixAnswers.{token_clear}
use Rattle.odc_lookahead.proofs.faults.LawLemmas.{end_clear, at_most}
use Rattle.odc_lookahead.proofs.reading.Samples as sample
use Rattle.odc_parse.specs.Read.{starts_item, BeginsItem, nothing_follows, NameRead, there, missing}
use Rattle.odc_lookahead.specs.declared.tokens.Fit.TheVariants as fit

-- imports

abbrev pub path_line : Part (Token × Unit {0})
path_line = then_ (token kind.Text) done

abbrev pub maybe_name : ℕ → Option Token → Sym
maybe_name c n = maybe_token kind.Name n

abbrev pub name_line : Part (Option Token × (Token × Unit {0}))
name_line = then_ maybe_name path_line

abbrev pub import_line : Part (Token × (Option Token × (Token × Unit {0})))
import_line = then_ (token kind.Import) name_line

abbrev pub import_node : Token × (Option Token × (Token × Unit {0})) → Decl
import_node u = tree.decl u.0.at (tree.import u.1.0 u.1.1.0)

abbrev pub ImportAt : List Token → List Token → Type 0
ImportAt ts rest = Led (one g.import_) nothing_follows (λ n. suc n) 199 ts import_line import_node 0 rest

import_split : (ts : List Token) (c : ℕ) (w : Decl) (p : List Sym) → Rule (g.import_ c w) p → (s s' : List Sym) (ts' : List Token) → Reach s' ts' (p ++ s) ts → size s' ts' ≤ 2 * length ts →
    Clear nothing_follows s → Pending (λ n. suc n) import_line import_node 0 ts c w s s' ts'
unfolding then_ token done
import_split ts c w p (g.import_path {b = b} {t = t} {p = q} {n = n}) s s' ts' r h clear =
    record { at = b; value = (t, (n, (q, tt))); bound = refl; whole = refl; deep = omega arith; reach = r }

pub import_start : (ts : List Token) → ImportAt ts ts
unfolding then_ token done
import_start ts =
    led_start 199 import_line import_node (sample.token, (None, (sample.token, tt))) (λ c v. tt) (λ c u. g.import_path {t = u.0} {p = u.1.1.0} {n = u.1.0})
    (λ c w p rule s s' ts' r h clear. import_split ts c w p rule s s' ts' r h clear)

pub import_word_refused : (ts : List Token) (e : Stop) → NotExpected kind.Import fit.Within ts e → Exact (one g.import_) nothing_follows 200 ts (refused e)
import_word_refused ts e h = token_refused kind.Import name_line e fit.Within one_deeper (import_start ts) (λ i. cc) h

abbrev is_name : TokenKind → Bool
is_name kind.Name = true
is_name _ = false

-- a name that may be left out
name_only : (t : Token) (us : List Token) → t.kind ≡ kind.Name → (c : ℕ) (w : Option Token) (p s s' : List Sym) (ts' : List Token) → Clear is_name s → Rule (maybe_token kind.Name w) p → Reach s' ts' (p ++ s) (t ∷ us) →
    size s' ts' ≤ 2 * length us → Remains (Some t) 0 us c w s s' ts'
name_only t us e c w p s s' ts' clear g.no_token r h = absurd (clear.stops t us s' ts' (ap is_name e) r (omega (arith, h)))
name_only t us e c w p s s' ts' clear (g.a_token {t = u}) r h =
    let z = behind_token r (omega (arith, h)) in
    record { value = ap Some (first_is z.is); bound = omega arith; reach = at_rest z }

name_is_there : (b : ℕ) (t : Token) (us : List Token) → t.kind ≡ kind.Name → Found (one maybe_name) is_name b (t ∷ us) (Some t) 0 us
name_is_there b t us e = record {
  short = omega arith;
  comes = record { at = λ c h. record { value = Some t; before = λ s. record { pending = s; rest = us; rest_is = refl; reach = write _ g.a_token (read e here) } } };
  reads = λ c h s. write _ g.a_token (read e here);
  only = λ c w s s' ts' clear r h.
      let z = behind_part tt r (omega (arith, h)) in
      name_only t us e c w z.as_symbols s s' ts' clear z.rule z.reach h;
}

none_only : (ts : List Token) → StartsWithout kind.Name ts → (c : ℕ) (w : Option Token) (p s s' : List Sym) (ts' : List Token) → Rule (maybe_token kind.Name w) p → Reach s' ts' (p ++ s) ts →
    size s' ts' ≤ 2 * length ts → Remains None 0 ts c w s s' ts'
none_only ts absent c w p s s' ts' g.no_token r h = record { value = refl; bound = omega arith; reach = r }
none_only ts absent c w p s s' ts' (g.a_token {t = u}) r h =
    let z = behind_token r h in
    absurd (without kind.Name _ _ _ z.is z.kind absent)

name_is_missing : (b : ℕ) (ts : List Token) → StartsWithout kind.Name ts → Found (one maybe_name) is_name b ts None 0 ts
name_is_missing b ts absent = record {
  short = omega arith;
  comes = record { at = λ c h. record { value = None; before = λ s. record { pending = s; rest = ts; rest_is = refl; reach = write _ g.no_token here } } };
  reads = λ c h s. write _ g.no_token here;
  only = λ c w s s' ts' clear r h.
      let z = behind_part tt r h in
      none_only ts absent c w z.as_symbols s s' ts' z.rule z.reach h;
}

name_found : (b : ℕ) (ts : List Token) (n : Option Token) (rest : List Token) → NameRead ts n rest → Found (one maybe_name) is_name b ts n 0 rest
name_found b _ _ rest (there t is e) = subst (λ (l : List Token). Found (one maybe_name) is_name b l (Some t) 0 rest) (sym is) (name_is_there b t rest e)
name_found b ts _ _ (missing none) = name_is_missing b ts none

-- the name is read
abbrev pub NamedAt : List Token → Token → Option Token → List Token → Type 0
NamedAt ts t n rest = Led (one g.import_) nothing_follows (λ n. suc n) 199 ts path_line (λ u. import_node (t, (n, u))) 0 rest

pub import_named : (ts us rest : List Token) (t : Token) (n : Option Token) → ts ≡ t ∷ us → t.kind ≡ kind.Import → NameRead us n rest → NamedAt ts t n rest
import_named ts us rest t n is e name =
    led_part one_deeper (token_read one_deeper (import_start ts) (omega arith) is e) (omega arith) (name_found 199 us n rest name) (λ c u s clear. token_clear is_name kind.Text refl done c u s)

pub import_path_refused : (ts rest : List Token) (t : Token) (n : Option Token) (e : Stop) → NamedAt ts t n rest → NotExpected kind.Text fit.Within rest e → Exact (one g.import_) nothing_follows 200 ts (refused e)
import_path_refused ts rest t n e led h = token_refused kind.Text done e fit.Within one_deeper led (λ i. cc) h

pub import_answer : (ts us rest : List Token) (t p : Token) (n : Option Token) → NamedAt ts t n us → us ≡ p ∷ rest → p.kind ≡ kind.Text → Found (one g.import_) nothing_follows 200 ts (tree.decl t.at (tree.import n p)) 1 rest
import_answer ts us rest t p n led is e = led_done one_deeper (token_read one_deeper led (omega arith) is e)

-- what stands in a file

less_than_all : (left n : ℕ) → left ≤ suc n → (suc n ≤ left → ⊥) → left ≤ n
less_than_all left n h over = elim (nat_lt n left) as (λ b. nat_lt n left ≡ b → left ≤ n) [ true ↦ λ e. absurd (over (grind (arith, nat_tests))) | false ↦ λ e. grind (arith, nat_tests) ] refl

pub record ItemFirst (item : ℕ → Decl → Sym) (c : ℕ) (w : Decls) (s s' : List Sym) (ts' ts : List Token) : Type 0 where
  pub first : Decl
  pub semicolon : Token
  pub rest : Decls
  pub is : w ≡ tree.more_decls first rest
  pub reach : Reach s' ts' (item c first ∷ tok kind.Semicolon semicolon ∷ g.decls c rest ∷ s) ts

-- imports and declarations, each by the kind of its first token
pub record Item (item : ℕ → Decl → Sym) (k : TokenKind) : Type 0 where
  pub rule : (c : ℕ) (t : Token) (d : Decl) (ds : Decls) → Rule (g.decls c (tree.more_decls d ds)) (item c d ∷ tok kind.Semicolon t ∷ g.decls c ds ∷ [])
  pub begins : (t : Token) (us : List Token) → t.kind ≡ k → ComesAt (one item) 200 (t ∷ us) (length us)
  pub starts : starts_item k ≡ true
  pub split : (c : ℕ) (w : Decls) (p s s' : List Sym) (ts' : List Token) (t : Token) (us : List Token) → Rule (g.decls c w) p → t.kind ≡ k → Reach s' ts' (p ++ s) (t ∷ us) → size s' ts' ≤ suc (2 * length us) →
      Clear starts_item s → ItemFirst item c w s s' ts' (t ∷ us)

import_splits : (c : ℕ) (w : Decls) (p s s' : List Sym) (ts' : List Token) (t : Token) (us : List Token) → Rule (g.decls c w) p → t.kind ≡ kind.Import → Reach s' ts' (p ++ s) (t ∷ us) → size s' ts' ≤ suc (2 * length us) →
    Clear starts_item s → ItemFirst g.import_ c w s s' ts' (t ∷ us)
import_splits c w p s s' ts' t us g.decls_none e r h clear = absurd (clear.stops t us s' ts' (ap starts_item e) r h)
import_splits c w p s s' ts' t us (g.decls_import {t = x} {d = d} {ds = ds}) e r h clear = record { first = d; semicolon = x; rest = ds; is = refl; reach = r }
import_splits c w p s s' ts' t us (g.decls_more {t = x} {d = d} {ds = ds}) e r h clear =
    let opens : t.kind ≡ kind.Name = reach_opens r (omega (arith, h)) in
    absurd (cc)

declare_splits : (c : ℕ) (w : Decls) (p s s' : List Sym) (ts' : List Token) (t : Token) (us : List Token) → Rule (g.decls c w) p → t.kind ≡ kind.Name → Reach s' ts' (p ++ s) (t ∷ us) → size s' ts' ≤ suc (2 * length us) →
    Clear starts_item s → ItemFirst (g.declaration Free) c w s s' ts' (t ∷ us)
declare_splits c w p s s' ts' t us g.decls_none e r h clear = absurd (clear.stops t us s' ts' (ap starts_item e) r h)
declare_splits c w p s s' ts' t us (g.decls_import {t = x} {d = d} {ds = ds}) e r h clear =
    let opens : t.kind ≡ kind.Import = reach_opens r (omega (arith, h)) in
    absurd (cc)
declare_splits c w p s s' ts' t us (g.decls_more {t = x} {d = d} {ds = ds}) e r h clear = record { first = d; semicolon = x; rest = ds; is = refl; reach = r }

pub an_import : Item g.import_ kind.Import
an_import = record {
  rule = λ c t d ds. g.decls_import;
  begins = λ t us e. record {
    value = tree.decl t.at (tree.import None sample.token);
    before = λ s. record { pending = maybe_token kind.Name None ∷ tok kind.Text sample.token ∷ s; rest = us; rest_is = refl; reach = write _ g.import_path (read e here) };
  };
  starts = refl;
  split = import_splits;
}

pub a_declaration : Item (g.declaration Free) kind.Name
a_declaration = record {
  rule = λ c t d ds. g.decls_more;
  begins = λ t us e. record {
    value = tree.decl t.at (tree.variable (t ∷ []) (tree.some_type sample.type) tree.zeros);
    before = λ s. record {
      pending = tok kind.Colon sample.token ∷ g.type_ Plain 199 sample.type ∷ g.initial Free 199 tree.zeros ∷ s;
      rest = us;
      rest_is = refl;
      reach = write _ g.declare_typed (write _ g.names_one (read e here));
    };
  };
  starts = refl;
  split = declare_splits;
}

-- a file's declarations, up to where they are read
abbrev pub more_line : Part (Token × Decls)
more_line = then_ (token kind.Semicolon) (one g.decls)

module _ (item : ℕ → Decl → Sym) (k : TokenKind) (of : Item item k) (cont : TokenKind → Bool) (t : Token) (us : List Token) (e : t.kind ≡ k) where
  -- the first is read
  pub first_led : (v : Decl) (m : ℕ) (after : List Token) → cont kind.Semicolon ≡ false → length after ≤ length us → Found (one item) cont 200 (t ∷ us) v m after →
      Led (one g.decls) starts_item (λ n. n) 200 (t ∷ us) more_line (λ u. tree.more_decls v u.1) m after
  unfolding then_ token
  first_led v m after ends short found = record {
    short = omega (arith, short);
    sample = (sample.token, tree.no_decls);
    comes = record {
      at = λ c h.
          let a = found.comes.at c h in
          record {
            value = tree.more_decls a.value tree.no_decls;
            before = λ s.
                let z = a.before (tok kind.Semicolon sample.token ∷ g.decls c tree.no_decls ∷ s) in
                record { pending = z.pending; rest = z.rest; rest_is = z.rest_is; reach = write _ (of.rule c sample.token a.value tree.no_decls) z.reach };
          };
    };
    reads = λ c u h s. write _ (of.rule c u.0 v u.1) (found.reads c h (tok kind.Semicolon u.0 ∷ g.decls c u.1 ∷ s));
    only = λ c w s s' ts' clear r h.
        let z = behind_part tt r (omega (arith, h, short)) in
        let q = of.split c w z.as_symbols s s' ts' t us z.rule e z.reach (omega (arith, h, short)) clear in
        let f = found.only c q.first (tok kind.Semicolon q.semicolon ∷ g.decls c q.rest ∷ s) s' ts' (token_clear cont kind.Semicolon ends (one g.decls) c (q.semicolon, q.rest) s) q.reach h in
        record {
          at = c;
          value = (q.semicolon, q.rest);
          bound = refl;
          whole = q.is ∙ ap (λ (d : Decl). tree.more_decls d q.rest) f.value;
          deep = f.bound;
          reach = f.reach;
        };
  }

  -- it isn't
  first_left : (left : ℕ) → Broken (one item) cont 200 (t ∷ us) left → left ≤ length us
  first_left left broken =
      let a = of.begins t us e in
      let z = a.before [] in
      let i = z.rest_is in
      let n = at_most z.pending z.rest in
      let s = broken.short in
      less_than_all left (length us) s (λ over. broken.none 200 a.value [] z.pending z.rest (end_clear cont) z.reach (omega (arith, i, n, over)))

  pub first_is_refused : (x : Stop) → cont kind.Semicolon ≡ false → Exact (one item) cont 200 (t ∷ us) (refused x) → Exact (one g.decls) starts_item 200 (t ∷ us) (refused x)
  unfolding then_ token
  first_is_refused (stop.Syntax left) ends broken =
      let low = first_left left broken in
      record {
        short = broken.short;
        comes = record {
          at = λ c h.
              let a = broken.comes.at c h in
              record {
                value = tree.more_decls a.value tree.no_decls;
                before = λ s.
                    let z = a.before (tok kind.Semicolon sample.token ∷ g.decls c tree.no_decls ∷ s) in
                    record { pending = z.pending; rest = z.rest; rest_is = z.rest_is; reach = write _ (of.rule c sample.token a.value tree.no_decls) z.reach };
              };
        };
        none = λ c w s s' ts' clear r h.
            let z = behind_part tt r (omega (arith, h, low)) in
            let q = of.split c w z.as_symbols s s' ts' t us z.rule e z.reach (omega (arith, h, low)) clear in
            broken.none c q.first (tok kind.Semicolon q.semicolon ∷ g.decls c q.rest ∷ s) s' ts' (token_clear cont kind.Semicolon ends (one g.decls) c (q.semicolon, q.rest) s) q.reach h;
      }
  first_is_refused (stop.Deep left) ends deep =
      let low = deep.short in
      record {
        short = low;
        comes = record {
          at = λ c h.
              let a = deep.comes.at c h in
              record {
                value = tree.more_decls a.value tree.no_decls;
                before = λ s.
                    let z = a.before (tok kind.Semicolon sample.token ∷ g.decls c tree.no_decls ∷ s) in
                    record { pending = z.pending; rest = z.rest; rest_is = z.rest_is; reach = write _ (of.rule c sample.token a.value tree.no_decls) z.reach };
              };
        };
        deep = λ c w s s' ts' clear r h.
            let z = behind_part tt r (omega (arith, h, low)) in
            let q = of.split c w z.as_symbols s s' ts' t us z.rule e z.reach (omega (arith, h, low)) clear in
            deep.deep c q.first (tok kind.Semicolon q.semicolon ∷ g.decls c q.rest ∷ s) s' ts' (token_clear cont kind.Semicolon ends (one g.decls) c (q.semicolon, q.rest) s) q.reach h;
        depth = deep.depth;
        deeper = record {
          at = λ c h.
              let a = deep.deeper.at c h in
              record {
                value = tree.more_decls a.value tree.no_decls;
                before = λ s.
                    let z = a.before (tok kind.Semicolon sample.token ∷ g.decls c tree.no_decls ∷ s) in
                    record { pending = z.pending; rest = z.rest; rest_is = z.rest_is; reach = write _ (of.rule c sample.token a.value tree.no_decls) z.reach };
              };
        };
      }
  first_is_refused stop.Memory ends h = tt
