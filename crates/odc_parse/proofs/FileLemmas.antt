-- The list of what stands in a file, and the file.
use Rattle.std.proofs.Common.{◌≡◌, ℕ, suc, ◌+◌, ◌-◌, ◌*◌, ◌<◌, ◌≤◌, max, Bool, true, false, List, [], ◌∷◌, ◌++◌, length, ◌==◌, refl, sym, ◌∙◌, ap, subst, arith}
use Rattle.std.proofs.lemmas.Bool.Decides.{nat_tests}
use Rattle.odc_text.specs.declared.place.Place.{Place}
use Rattle.odc_text.specs.declared.code.Code.{Code}
use Rattle.odc_text.specs.declared.code.Code.TheVariants.{G01, L05}
use Rattle.odc_text.specs.declared.code.Fault as faults
use Rattle.odc_syntax.specs.declared.token.Token.{Token}
use Rattle.odc_syntax.specs.declared.token.TokenKind.{TokenKind}
use Rattle.odc_syntax.specs.declared.token.TokenKind.TheVariants as kind
use Rattle.odc_syntax.specs.declared.grammar.Mode.TheVariants.{Free}
use Rattle.odc_syntax.specs.Tree.{Decl, Decls}
use Rattle.odc_syntax.specs.Tree as tree
use Rattle.odc_syntax.specs.View.{decl, decls}
use Rattle.odc_syntax.specs.Grammar.{Sym, Rule}
use Rattle.odc_syntax.specs.Grammar as g
use Rattle.odc_syntax.specs.Derives.{Reach, here, write, StartsWithout}
use Rattle.odc_lookahead.specs.Refused.{NoneRefused}
use Rattle.odc_lookahead.specs.declared.stop.Stop.{Stop}
use Rattle.odc_lookahead.specs.declared.stop.Stop.TheVariants as stop
use Rattle.odc_lookahead.specs.declared.error.ParseError.{ParseError}
use Rattle.odc_lookahead.specs.declared.error.ParseError.TheVariants.{Fault, Memory}
use Rattle.odc_lookahead.specs.Exact.{size, Clear, Part, one, Remains, then_, token, Exact, Answer, Found, Yes}
use Rattle.odc_lookahead.specs.Read.{refused, NotExpected}
use Rattle.odc_lookahead.specs.stmts.StatementSets.{continues_declaration}
use Rattle.odc_lookahead.proofs.reading.Opening.{StartsWith, reach_opens}
use Rattle.odc_lookahead.proofs.reading.Reaching.{along, behind_part}
use Rattle.odc_lookahead.proofs.reading.Leading.{same_depth, Pending, Led}
use Rattle.odc_lookahead.proofs.reading.Answering.{led_start, led_rest, led_rest_refused, token_read, token_refused, answer_is}
use Rattle.odc_lookahead.proofs.reading.Samples as sample
use Rattle.odc_lookahead.specs.Law.{place_of}
use Rattle.odc_parse.specs.File.{file_of, IsFile, NoFile}
use Rattle.odc_parse.specs.Read.{starts_item, BeginsItem, nothing_follows, ItemRead, imported, declared, Unread, HeadRead}
use Rattle.odc_parse.proofs.ItemLemmas.{an_import, a_declaration, more_line, first_led, first_is_refused}
use Rattle.odc_parse.proofs.PlaceLemmas.{broken_fault, deep_fault, whole_file, left_over_fault}
use Rattle.odc_lookahead.specs.declared.tokens.Fit.{Fit}
use Rattle.odc_lookahead.specs.declared.tokens.Fit.TheVariants as fit

-- one production's rest is another's whole
led_led : {V W : Type 0} {p q : Part V} {cont : TokenKind → Bool} {b : ℕ} {ts rest after : List Token} {f : V → V} {h : Part W} {i : W → V} {n m : ℕ} →
    Led p cont (λ n. n) b ts q f n rest → n ≤ b → Led q cont (λ n. n) b rest h i m after → Led p cont (λ n. n) b ts h (λ w. f (i w)) (max n m) after
led_led {V} {W} {p} {q} {cont} {b} {ts} {rest} {after} {f} {h} {i} {n} {m} l within k = record {
  short = let a = l.short in let d = k.short in omega (arith, a, d);
  sample = k.sample;
  comes = record {
    at = λ c low.
        let a = k.comes.at c low in
        record {
          value = f a.value;
          before = λ s.
              let z = a.before s in
              record { pending = z.pending; rest = z.rest; rest_is = z.rest_is; reach = along (l.reads c a.value (omega (arith, within, low)) s) z.reach };
        };
  };
  reads = λ c w low s. along (l.reads c (i w) (omega (arith, low)) s) (k.reads c w (omega (arith, low)) s);
  only = λ c w s s' ts' clear r low.
      let d = k.short in
      let x = l.only c w s s' ts' clear r (omega (arith, low, d)) in
      let y = k.only x.at x.value s s' ts' clear x.reach low in
      record {
        at = y.at;
        value = y.value;
        bound = x.bound ∙ y.bound;
        whole = x.whole ∙ ap f y.whole;
        deep = let e = x.deep in let o = y.deep in let j = y.bound in omega (arith, e, o, j);
        reach = y.reach;
      };
}

-- declarations that were read, in front of others
abbrev pub onto : List Decl → Decls → Decls
onto [] l = l
onto (d ∷ ds) l = tree.more_decls (decl d) (onto ds l)

onto_last : (ds : List Decl) (d : Decl) (l : Decls) → onto (ds ++ d ∷ []) l ≡ onto ds (tree.more_decls (decl d) l)
onto_last [] d l = refl
onto_last (e ∷ ds) d l = ap (tree.more_decls (decl e)) (onto_last ds d l)

onto_none : (ds : List Decl) → onto ds tree.no_decls ≡ decls ds
onto_none [] = refl
onto_none (d ∷ ds) = ap (tree.more_decls (decl d)) (onto_none ds)

-- what has been read of the list
abbrev pub ItemsAt : List Token → List Decl → ℕ → List Token → Type 0
ItemsAt ts ds n rest = Led (one g.decls) starts_item (λ n. n) 200 ts (one g.decls) (onto ds) n rest

from_start : (ts : List Token) → ItemsAt ts [] 0 ts
from_start ts = record {
  short = omega arith;
  sample = tree.no_decls;
  comes = record { at = λ c h. record { value = tree.no_decls; before = λ s. record { pending = g.decls c tree.no_decls ∷ s; rest = ts; rest_is = refl; reach = here } } };
  reads = λ c u h s. here;
  only = λ c w s s' ts' clear r h. record { at = c; value = w; bound = refl; whole = refl; deep = omega arith; reach = r };
}

pub items_start : (ts : List Token) (ds : List Decl) → ds ≡ [] → ItemsAt ts ds 0 ts
items_start ts ds none = subst (λ (l : List Decl). ItemsAt ts l 0 ts) (sym none) (from_start ts)

-- an item isn't read
pub items_refused : (ts : List Token) (ds : List Decl) (n : ℕ) (rest : List Token) (e : Stop) → ItemsAt ts ds n rest → n ≤ 200 → ItemRead rest (refused e) → Exact (one g.decls) starts_item 200 ts (refused e)
items_refused ts ds n rest e led within (imported t us is k h) =
    led_rest_refused e same_depth led within
    (subst (λ (l : List Token). Exact (one g.decls) starts_item 200 l (refused e)) (sym is)
    (first_is_refused g.import_ kind.Import an_import nothing_follows t us k e refl (subst (λ (l : List Token). Exact (one g.import_) nothing_follows 200 l (refused e)) is h)))
items_refused ts ds n rest e led within (declared t us is k h) =
    led_rest_refused e same_depth led within
    (subst (λ (l : List Token). Exact (one g.decls) starts_item 200 l (refused e)) (sym is)
    (first_is_refused (g.declaration Free) kind.Name a_declaration (continues_declaration Free) t us k e refl (subst (λ (l : List Token). Exact (one (g.declaration Free)) (continues_declaration Free) 200 l (refused e)) is h)))

-- it is
abbrev pub ItemAt : List Token → List Decl → tree.Decl → ℕ → List Token → Type 0
ItemAt ts ds v n after = Led (one g.decls) starts_item (λ n. n) 200 ts more_line (λ u. onto ds (tree.more_decls v u.1)) n after

shorter_than : (rest us after : List Token) (t : Token) → rest ≡ t ∷ us → length after < length rest → length after ≤ length us
shorter_than rest us after t is h = let e : length rest ≡ suc (length us) = ap length is in omega (arith, e, h)

pub item_read : (ts : List Token) (ds : List Decl) (n : ℕ) (rest : List Token) (v : tree.Decl) (m : ℕ) (after : List Token) → ItemsAt ts ds n rest → n ≤ 200 → length after < length rest → ItemRead rest (Yes v m after) → ItemAt ts ds v (max n m) after
item_read ts ds n rest v m after led within short (imported t us is k h) =
    led_led led within
    (subst (λ (l : List Token). Led (one g.decls) starts_item (λ n. n) 200 l more_line (λ u. tree.more_decls v u.1) m after) (sym is)
    (first_led g.import_ kind.Import an_import nothing_follows t us k v m after refl (shorter_than rest us after t is short) (subst (λ (l : List Token). Found (one g.import_) nothing_follows 200 l v m after) is h)))
item_read ts ds n rest v m after led within short (declared t us is k h) =
    led_led led within
    (subst (λ (l : List Token). Led (one g.decls) starts_item (λ n. n) 200 l more_line (λ u. tree.more_decls v u.1) m after) (sym is)
    (first_led (g.declaration Free) kind.Name a_declaration (continues_declaration Free) t us k v m after refl (shorter_than rest us after t is short) (subst (λ (l : List Token). Found (one (g.declaration Free)) (continues_declaration Free) 200 l v m after) is h)))

-- the semicolon behind it
pub semicolon_refused : (ts : List Token) (ds : List Decl) (v : tree.Decl) (n : ℕ) (after : List Token) (e : Stop) (within : Fit) → ItemAt ts ds v n after → (within ≡ fit.Over → 200 < n) → NotExpected kind.Semicolon within after e →
    Exact (one g.decls) starts_item 200 ts (refused e)
semicolon_refused ts ds v n after e within led over h = token_refused kind.Semicolon (one g.decls) e within same_depth led over h

pub items_again : (ts : List Token) (ds es : List Decl) (d : Decl) (n : ℕ) (after us : List Token) (t : Token) → ItemAt ts ds (decl d) n after → n ≤ 200 → es ≡ ds ++ d ∷ [] → after ≡ t ∷ us → t.kind ≡ kind.Semicolon → ItemsAt ts es n us
items_again ts ds es d n after us t led within more is e =
    subst (λ (l : List Decl). ItemsAt ts l n us) (sym more)
    (subst (λ (f : Decls → Decls). Led (one g.decls) starts_item (λ n. n) 200 ts (one g.decls) f n us) (λ i. λ l. (sym (onto_last ds d l)) i)
    (token_read same_depth led within is e))

-- nothing further stands there
begins_by : (k : TokenKind) (ts : List Token) → starts_item k ≡ true → StartsWith k ts → BeginsItem ts
begins_by k [] e h = h
begins_by k (t ∷ ts) e h = ap starts_item h ∙ e

none_only : (ts : List Token) → (BeginsItem ts → ⊥) → (c : ℕ) (w : Decls) (p s s' : List Sym) (ts' : List Token) → Rule (g.decls c w) p → Reach s' ts' (p ++ s) ts → size s' ts' ≤ 2 * length ts → Remains tree.no_decls 0 ts c w s s' ts'
none_only ts ends c w p s s' ts' g.decls_none r h = record { value = refl; bound = omega arith; reach = r }
none_only ts ends c w p s s' ts' g.decls_import r h = absurd (ends (begins_by kind.Import ts refl (reach_opens r h)))
none_only ts ends c w p s s' ts' g.decls_more r h = absurd (ends (begins_by kind.Name ts refl (reach_opens r h)))

none_found : (ts : List Token) → (BeginsItem ts → ⊥) → Found (one g.decls) starts_item 200 ts tree.no_decls 0 ts
none_found ts ends = record {
  short = omega arith;
  comes = record { at = λ c h. record { value = tree.no_decls; before = λ s. record { pending = s; rest = ts; rest_is = refl; reach = write [] g.decls_none here } } };
  reads = λ c h s. write [] g.decls_none here;
  only = λ c w s s' ts' clear r h.
      let z = behind_part tt r h in
      none_only ts ends c w z.as_symbols s s' ts' z.rule z.reach h;
}

pub items_end : (ts : List Token) (ds : List Decl) (n : ℕ) (rest : List Token) → ItemsAt ts ds n rest → n ≤ 200 → (BeginsItem rest → ⊥) → Found (one g.decls) starts_item 200 ts (decls ds) n rest
items_end ts ds n rest led within ends = answer_is (onto_none ds) (omega arith) (led_rest same_depth led within (none_found rest ends))

-- the file
abbrev pub list_line : Part (Token × Decls)
list_line = then_ (token kind.Semicolon) (one g.decls)

abbrev pub named_line : Part (Token × (Token × Decls))
named_line = then_ (token kind.Name) list_line

abbrev pub file_line : Part (Token × (Token × (Token × Decls)))
file_line = then_ (token kind.Package) named_line

abbrev pub file_node : Token × (Token × (Token × Decls)) → Token × Decls
file_node u = (u.1.0, u.1.1.1)

file_split : (ts : List Token) (c : ℕ) (n : Token) (ds : Decls) (p : List Sym) → Rule (g.file c n ds) p → (s s' : List Sym) (ts' : List Token) → Reach s' ts' (p ++ s) ts → Pending (λ n. n) file_line file_node 0 ts c (n, ds) s s' ts'
unfolding then_ token
file_split ts c n ds p (g.file_ {p = q} {s = x}) s s' ts' r = record { at = c; value = (q, (n, (x, ds))); bound = refl; whole = refl; deep = omega arith; reach = r }

file_start : (ts : List Token) → Led (one file_of) starts_item (λ n. n) 200 ts file_line file_node 0 ts
unfolding then_ token
file_start ts =
    led_start 200 file_line file_node (sample.token, (sample.token, (sample.token, tree.no_decls))) (λ c v. tt) (λ c u. g.file_ {p = u.0} {n = u.1.0} {s = u.1.1.0})
    (λ c w p rule s s' ts' r h clear. file_split ts c w.0 w.1 p rule s s' ts' r)

pub package_refused : (ts : List Token) (e : Stop) → NotExpected kind.Package fit.Within ts e → Exact (one file_of) starts_item 200 ts (refused e)
package_refused ts e h = token_refused kind.Package named_line e fit.Within same_depth (file_start ts) (λ i. cc) h

package_led : (ts us : List Token) (p : Token) → ts ≡ p ∷ us → p.kind ≡ kind.Package → Led (one file_of) starts_item (λ n. n) 200 ts named_line (λ u. file_node (p, u)) 0 us
package_led ts us p is e = token_read same_depth (file_start ts) (omega arith) is e

pub package_name_refused : (ts us : List Token) (p : Token) (e : Stop) → ts ≡ p ∷ us → p.kind ≡ kind.Package → NotExpected kind.Name fit.Within us e → Exact (one file_of) starts_item 200 ts (refused e)
package_name_refused ts us p e is k h = token_refused kind.Name list_line e fit.Within same_depth (package_led ts us p is k) (λ i. cc) h

-- `package` and its name
pub record Headed (ts : List Token) (p n : Token) (rest : List Token) : Type 0 where
  pub behind : List Token
  pub package_is : ts ≡ p ∷ behind
  pub package_kind : p.kind ≡ kind.Package
  pub name_is : behind ≡ n ∷ rest
  pub name_kind : n.kind ≡ kind.Name

named_led : (ts us : List Token) (p n : Token) → Headed ts p n us → Led (one file_of) starts_item (λ n. n) 200 ts list_line (λ u. file_node (p, (n, u))) 0 us
named_led ts us p n h = token_read same_depth (package_led ts h.behind p h.package_is h.package_kind) (omega arith) h.name_is h.name_kind

pub package_end_refused : (ts us : List Token) (p n : Token) (e : Stop) → Headed ts p n us → NotExpected kind.Semicolon fit.Within us e → Exact (one file_of) starts_item 200 ts (refused e)
package_end_refused ts us p n e headed h = token_refused kind.Semicolon (one g.decls) e fit.Within same_depth (named_led ts us p n headed) (λ i. cc) h

list_led : (ts us rest : List Token) (p n x : Token) → Headed ts p n us → us ≡ x ∷ rest → x.kind ≡ kind.Semicolon → Led (one file_of) starts_item (λ n. n) 200 ts (one g.decls) (λ u. file_node (p, (n, (x, u)))) 0 rest
list_led ts us rest p n x headed is e = token_read same_depth (named_led ts us p n headed) (omega arith) is e

pub list_refused : (ts us rest : List Token) (p n x : Token) (e : Stop) → Headed ts p n us → us ≡ x ∷ rest → x.kind ≡ kind.Semicolon → Exact (one g.decls) starts_item 200 rest (refused e) → Exact (one file_of) starts_item 200 ts (refused e)
list_refused ts us rest p n x e headed is k h = led_rest_refused e same_depth (list_led ts us rest p n x headed is k) (omega arith) h

pub file_answer : (ts us rest after : List Token) (p n x : Token) (ds : Decls) (m : ℕ) → Headed ts p n us → us ≡ x ∷ rest → x.kind ≡ kind.Semicolon → Found (one g.decls) starts_item 200 rest ds m after → Found (one file_of) starts_item 200 ts (n, ds) m after
file_answer ts us rest after p n x ds m headed is k h = answer_is refl (omega arith) (led_rest same_depth (list_led ts us rest p n x headed is k) (omega arith) h)

-- the fault of a file that isn't read
pub unread_fault : (ts : List Token) (end : Place) (e : Stop) (r : ParseError) → Exact (one file_of) starts_item 200 ts (refused e) → NoneRefused ts 0 (length ts) → Unread ts end e r → NoFile ts end r
unread_fault ts end (stop.Syntax left) (Fault f) broken clean is = let k = broken.short in broken_fault starts_item ts (length ts - left) left end f (omega (arith, k)) broken clean is
unread_fault ts end (stop.Deep left) (Fault f) deep clean is = let k = deep.short in deep_fault starts_item ts ((length ts - left) - 1) left end f (omega (arith, k)) deep clean is
unread_fault ts end stop.Memory (Fault f) h clean is = elim is [ ]
unread_fault ts end (stop.Syntax left) Memory h clean is = elim is [ ]
unread_fault ts end (stop.Deep left) Memory h clean is = elim is [ ]
unread_fault ts end stop.Memory Memory h clean is = tt

-- by what stands first
begins_import : (ts : List Token) (a : Answer tree.Decl) → StartsWith kind.Import ts → Exact (one g.import_) nothing_follows 200 ts a → ItemRead ts a
begins_import [] a b h = elim b [ ]
begins_import (t ∷ us) a b h = imported t us refl b h

pub import_read : (ts : List Token) (a : Answer tree.Decl) → StartsWith kind.Import ts → Exact (one g.import_) nothing_follows 200 ts a → ItemRead ts a
import_read ts a b h = begins_import ts a b h

a_name : (k : TokenKind) → starts_item k ≡ true → (k ≡ kind.Import → ⊥) → k ≡ kind.Name
a_name kind.Name e n = refl
a_name kind.Import e n = absurd (n refl)
a_name _ e n = cc

pub declaration_read : (ts : List Token) (a : Answer tree.Decl) → BeginsItem ts → StartsWithout kind.Import ts → Exact (one (g.declaration Free)) (continues_declaration Free) 200 ts a → ItemRead ts a
declaration_read [] a b n h = elim b [ ]
declaration_read (t ∷ us) a b n h = declared t us refl (a_name t.kind b n) h

pub headed : (ts : List Token) (n : Token) (rest : List Token) → (h : HeadRead ts n rest) → Headed ts h.word n h.after
headed ts n rest h = record { behind = h.behind; package_is = h.word_is; package_kind = h.word_kind; name_is = h.name_is; name_kind = h.name_kind }

pub head_refused : (ts rest : List Token) (n : Token) (e : Stop) → HeadRead ts n rest → Exact (one g.decls) starts_item 200 rest (refused e) → Exact (one file_of) starts_item 200 ts (refused e)
head_refused ts rest n e h k = list_refused ts h.after rest h.word n h.end e (headed ts n rest h) h.end_is h.end_kind k

pub head_answer : (ts rest after : List Token) (n : Token) (ds : Decls) (m : ℕ) → HeadRead ts n rest → Found (one g.decls) starts_item 200 rest ds m after → Found (one file_of) starts_item 200 ts (n, ds) m after
head_answer ts rest after n ds m h k = file_answer ts h.after rest after h.word n h.end ds m (headed ts n rest h) h.end_is h.end_kind k

-- the reason that is given is the one that was found
pub because : {V : Type 0} (p : Part V) (cont : TokenKind → Bool) (ts : List Token) (e f : Stop) → f ≡ e → Exact p cont 200 ts (refused e) → Exact p cont 200 ts (refused f)
because p cont ts e f same h = subst (λ (x : Stop). Exact p cont 200 ts (refused x)) (sym same) h

-- all is read
pub file_is : (ts rest : List Token) (n : Token) (ds : Decls) (m : ℕ) → Found (one file_of) starts_item 200 ts (n, ds) m rest → rest ≡ [] → m ≤ 200 → NoneRefused ts 0 (length ts) → IsFile ts n ds
file_is ts rest n ds m found none low clean = whole_file starts_item ts (n, ds) m (subst (λ (l : List Token). Found (one file_of) starts_item 200 ts (n, ds) m l) none found) low clean

-- something is left
left_fault : (ts rest : List Token) (v : Token × Decls) (m : ℕ) (end : Place) (r : ParseError) → Found (one file_of) starts_item 200 ts v m rest → (rest ≡ [] → ⊥) → NoneRefused ts 0 (length ts) → Unread ts end (stop.Syntax (length rest)) r → NoFile ts end r
left_fault ts [] v m end r found some clean is = absurd (some refl)
left_fault ts (t ∷ us) v m end (Fault f) found some clean is =
    let k = found.short in
    left_over_fault starts_item ts (length ts - suc (length us)) v m t us end f (omega (arith, k)) found clean is
left_fault ts (t ∷ us) v m end Memory found some clean is = tt

pub rest_fault : (ts rest : List Token) (v : Token × Decls) (m : ℕ) (end : Place) (p r : ParseError) → Found (one file_of) starts_item 200 ts v m rest → (rest ≡ [] → ⊥) → NoneRefused ts 0 (length ts) → r ≡ p → Unread ts end (stop.Syntax (length rest)) p → NoFile ts end r
rest_fault ts rest v m end p r found some clean same is = subst (λ (q : ParseError). NoFile ts end q) (sym same) (left_fault ts rest v m end p found some clean is)

-- one more is read, with its semicolon
pub items_next : (ts : List Token) (ds es : List Decl) (d : Decl) (n m k : ℕ) (rest after us : List Token) (t : Token) → ItemsAt ts ds n rest → n ≤ 200 → length after < length rest → ItemRead rest (Yes (decl d) m after) →
    es ≡ ds ++ d ∷ [] → after ≡ t ∷ us → t.kind ≡ kind.Semicolon → m ≤ 200 → k ≡ max n m → ItemsAt ts es k us
items_next ts ds es d n m k rest after us t led within short read more is e low same =
    subst (λ (j : ℕ). ItemsAt ts es j us) (sym same) (items_again ts ds es d (max n m) after us t (item_read ts ds n rest (decl d) m after led within short read) (omega (arith, within, low)) more is e)

-- its semicolon isn't
pub items_unclosed : (ts : List Token) (ds : List Decl) (v : tree.Decl) (n m : ℕ) (rest after : List Token) (e f : Stop) (within : Fit) → ItemsAt ts ds n rest → n ≤ 200 → length after < length rest → ItemRead rest (Yes v m after) →
    (within ≡ fit.Over → 200 < m) → NotExpected kind.Semicolon within after e → f ≡ e → Exact (one g.decls) starts_item 200 ts (refused f)
items_unclosed ts ds v n m rest after e f within led low short read over h same =
    because (one g.decls) starts_item ts e f same (semicolon_refused ts ds v (max n m) after e within (item_read ts ds n rest v m after led low short read) (λ i. let k = over i in omega (arith, k)) h)

-- the fault at a place
abbrev pub fault_at : Code → Place → faults.Fault
fault_at code at = record { code = code; at = at }

pub unread_syntax : (ts : List Token) (end : Place) (left at : ℕ) (place : Place) (e : Stop) → e ≡ stop.Syntax left → at ≡ length ts - left → place ≡ place_of ts end at → Unread ts end e (Fault (fault_at G01 place))
unread_syntax ts end left at place e is place_at place_is =
    subst (λ (x : Stop). Unread ts end x (Fault (fault_at G01 place))) (sym is) (ap (fault_at G01) (place_is ∙ ap (place_of ts end) place_at))

pub unread_deep : (ts : List Token) (end : Place) (left at : ℕ) (place : Place) (e : Stop) → e ≡ stop.Deep left → at ≡ (length ts - left) - 1 → place ≡ place_of ts end at → Unread ts end e (Fault (fault_at L05 place))
unread_deep ts end left at place e is place_at place_is =
    subst (λ (x : Stop). Unread ts end x (Fault (fault_at L05 place))) (sym is) (ap (fault_at L05) (place_is ∙ ap (place_of ts end) place_at))

-- whether tokens are left
pub none_left : (rest : List Token) (b : Bool) → b ≡ (length rest == 0) → b ≡ true → rest ≡ []
none_left [] b is e = refl
none_left (t ∷ us) b is e = let same : (length (t ∷ us) == 0) ≡ true = sym is ∙ e in absurd (grind (arith, nat_tests, same))

pub some_left : (rest : List Token) (b : Bool) → b ≡ (length rest == 0) → b ≡ false → rest ≡ [] → ⊥
some_left [] b is e none = let bad : false ≡ true = sym e ∙ is in cc
some_left (t ∷ us) b is e none = let bad : length (t ∷ us) ≡ 0 = ap length none in omega (arith, bad)
