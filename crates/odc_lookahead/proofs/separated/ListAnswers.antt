-- Lists between commas that a loop reads: the answers of the list, by those of its items.
use Rattle.std.proofs.Common.{◌≡◌, ℕ, ◌<◌, ◌≤◌, max, Bool, false, List, [], ◌∷◌, ◌++◌, refl, sym, ◌∙◌, ap, subst}
use Rattle.odc_syntax.specs.declared.token.Token.{Token}
use Rattle.odc_syntax.specs.declared.token.TokenKind.{TokenKind}
use Rattle.odc_syntax.specs.declared.token.TokenKind.TheVariants as kind
use Rattle.odc_syntax.specs.Grammar.{Sym}
use Rattle.odc_lookahead.specs.declared.stop.Stop.{Stop}
use Rattle.odc_lookahead.specs.Exact.{Clear, Part, then_, done, token, behind, Exact, Found}
use Rattle.odc_lookahead.specs.Lists.{Ended, Again, NotGoing}
use Rattle.odc_lookahead.specs.Read.{refused}
use Rattle.odc_lookahead.specs.Sets.{nothing_continues}
use Rattle.odc_lookahead.proofs.reading.Opening.{OpensAll}
use Rattle.odc_lookahead.proofs.reading.Leading.{same_depth, Led, led_done}
use Rattle.odc_lookahead.proofs.reading.Answering.{answer_is}
use Rattle.odc_lookahead.proofs.separated.ListLemmas.{led_parts, parts_refused}
use Rattle.odc_lookahead.proofs.separated.MoreLemmas.{More, left_clear, list_ended, list_again, list_refused}
use Rattle.odc_lookahead.specs.declared.tokens.Fit.{Fit}
use Rattle.odc_lookahead.specs.declared.tokens.Fit.TheVariants as fit

-- A kind of list: its items and how they follow each other, its closing token, what may go on with an
-- item, and what its items and the list of them are in the code.
pub record ListOf (X V L : Type 0) : Type 0 where
  pub item : Part V
  pub more : ℕ → L → Sym
  pub nil : L
  pub cons : V → L → L
  pub rules : More item more nil cons
  pub any : V
  pub close : TokenKind
  pub not_comma : kind.Comma ≡ close → ⊥
  pub closes : (c : ℕ) (v : V) (s : List Sym) (t : Token) (us : List Token) → t.kind ≡ close → OpensAll (item c v ++ s) (t ∷ us) → ⊥
  pub cont : TokenKind → Bool
  pub comma_stops : cont kind.Comma ≡ false
  pub close_stops : cont close ≡ false
  pub view : X → V
  pub seen : List X → L
  pub seen_none : seen [] ≡ nil
  pub seen_more : (x : X) (xs : List X) → seen (x ∷ xs) ≡ cons (view x) (seen xs)

-- items that were read, in front of others
abbrev pub onto : {X V L : Type 0} → ListOf X V L → List X → L → L
onto r [] l = l
onto r (x ∷ xs) l = r.cons (r.view x) (onto r xs l)

onto_last : {X V L : Type 0} (r : ListOf X V L) (xs : List X) (x : X) (l : L) → onto r (xs ++ x ∷ []) l ≡ onto r xs (r.cons (r.view x) l)
onto_last r [] x l = refl
onto_last r (y ∷ xs) x l = ap (r.cons (r.view y)) (onto_last r xs x l)

onto_none : {X V L : Type 0} (r : ListOf X V L) (xs : List X) → onto r xs r.nil ≡ r.seen xs
onto_none r [] = sym r.seen_none
onto_none r (x ∷ xs) = ap (r.cons (r.view x)) (onto_none r xs) ∙ sym (r.seen_more x xs)

-- what is left behind an item, and an item with it
abbrev pub left_of : {X V L : Type 0} → ListOf X V L → Part (L × (Token × Unit {0}))
left_of r = then_ r.more (then_ (token r.close) done)

abbrev pub next_of : {X V L : Type 0} → ListOf X V L → Part (V × (L × (Token × Unit {0})))
next_of r = behind r.item (left_of r)

abbrev pub with_item : {X V L : Type 0} → ListOf X V L → V × (L × (Token × Unit {0})) → L × (Token × Unit {0})
with_item r u = (r.cons u.0 u.1.0, u.1.1)

abbrev pub with_read : {X V L : Type 0} → ListOf X V L → List X → V × (L × (Token × Unit {0})) → L × (Token × Unit {0})
with_read r xs u = (onto r xs (r.cons u.0 u.1.0), u.1.1)

-- what has been read of a list
abbrev pub ListAt : {X V L : Type 0} → ListOf X V L → Part (L × (Token × Unit {0})) → ℕ → List Token → List X → ℕ → List Token → Type 0
ListAt r p b ts xs n rest = Led p nothing_continues (λ n. n) b ts (next_of r) (with_read r xs) n rest

pub list_start : {X V L : Type 0} (r : ListOf X V L) (p : Part (L × (Token × Unit {0}))) (b : ℕ) (ts : List Token) (xs : List X) → xs ≡ [] → Led p nothing_continues (λ n. n) b ts (next_of r) (with_item r) 0 ts → ListAt r p b ts xs 0 ts
list_start {X} r p b ts xs e led = subst (λ (l : List X). ListAt r p b ts l 0 ts) (sym e) led

left_stops : {X V L : Type 0} (r : ListOf X V L) (c : ℕ) (u : L × (Token × Unit {0})) (s : List Sym) → Clear r.cont (left_of r c u ++ s)
left_stops r c u s = left_clear r.item r.more r.nil r.cons r.rules r.any r.close r.not_comma r.closes r.cont r.comma_stops r.close_stops c u s

pub item_refused : {X V L : Type 0} (r : ListOf X V L) (p : Part (L × (Token × Unit {0}))) (b : ℕ) (ts : List Token) (xs : List X) (n : ℕ) (rest : List Token) (stop : Stop) → ListAt r p b ts xs n rest → n ≤ b →
    Exact r.item r.cont b rest (refused stop) → Exact p nothing_continues b ts (refused stop)
item_refused r p b ts xs n rest stop led within h = parts_refused r.cont r.item (left_of r) stop led within h (left_stops r)

-- with one more item
abbrev pub ItemAt : {X V L : Type 0} → ListOf X V L → Part (L × (Token × Unit {0})) → ℕ → List Token → List X → V → ℕ → List Token → Type 0
ItemAt r p b ts xs v n rest = Led p nothing_continues (λ n. n) b ts (left_of r) (λ u. with_read r xs (v, u)) n rest

pub item_read : {X V L : Type 0} (r : ListOf X V L) (p : Part (L × (Token × Unit {0}))) (b : ℕ) (ts : List Token) (xs : List X) (n : ℕ) (rest : List Token) (v : V) (m : ℕ) (after : List Token) → ListAt r p b ts xs n rest → n ≤ b →
    Found r.item r.cont b rest v m after → ItemAt r p b ts xs v (max n m) after
item_read r p b ts xs n rest v m after led within found = led_parts led within found (left_stops r)

pub list_answer : {X V L : Type 0} (r : ListOf X V L) (p : Part (L × (Token × Unit {0}))) (b : ℕ) (ts : List Token) (xs ys : List X) (x : X) (n : ℕ) (after : List Token) (t : Token) (us : List Token) →
    ItemAt r p b ts xs (r.view x) n after → ys ≡ xs ++ x ∷ [] → n ≤ b → Ended r.close after t us → Found p nothing_continues b ts (r.seen ys, (t, tt)) n us
list_answer {X} {V} {L} r p b ts xs ys x n after t us led more within ended =
    answer_is
    (ap (λ (l : L). (l, (t, tt))) (sym (onto_last r xs x r.nil) ∙ onto_none r (xs ++ x ∷ []) ∙ ap r.seen (sym more)))
    refl
    (led_done same_depth (list_ended r.item r.more r.nil r.cons r.rules r.any r.close r.not_comma r.closes t us ended within led))

pub list_goes_on : {X V L : Type 0} (r : ListOf X V L) (p : Part (L × (Token × Unit {0}))) (b : ℕ) (ts : List Token) (xs ys : List X) (x : X) (n : ℕ) (after us : List Token) →
    ItemAt r p b ts xs (r.view x) n after → ys ≡ xs ++ x ∷ [] → n ≤ b → Again r.close after us → ListAt r p b ts ys n us
list_goes_on {X} {V} {L} r p b ts xs ys x n after us led more within again =
    subst (λ (l : List X). ListAt r p b ts l n us) (sym more)
    (subst (λ (f : V × (L × (Token × Unit {0})) → L × (Token × Unit {0})). Led p nothing_continues (λ n. n) b ts (next_of r) f n us)
    (λ i. λ u. ((sym (onto_last r xs x (r.cons u.0 u.1.0))) i, u.1.1))
    (list_again r.item r.more r.nil r.cons r.rules r.any r.close r.not_comma r.closes us again within led))

pub list_stuck : {X V L : Type 0} (r : ListOf X V L) (p : Part (L × (Token × Unit {0}))) (b : ℕ) (ts : List Token) (xs : List X) (v : V) (n : ℕ) (after : List Token) (stop : Stop) (within : Fit) →
    ItemAt r p b ts xs v n after → NotGoing r.close within after stop → (within ≡ fit.Over → b < n) → Exact p nothing_continues b ts (refused stop)
list_stuck r p b ts xs v n after stop within led h over = list_refused r.item r.more r.nil r.cons r.rules r.any r.close r.not_comma r.closes stop within h over led

-- the same at the depth that a function keeps
pub item_as : {X V L : Type 0} (r : ListOf X V L) (p : Part (L × (Token × Unit {0}))) (b : ℕ) (ts : List Token) (xs : List X) (n : ℕ) (rest : List Token) (v : V) (m top : ℕ) (after : List Token) → ListAt r p b ts xs n rest → n ≤ b →
    Found r.item r.cont b rest v m after → top ≡ max n m → ItemAt r p b ts xs v top after
item_as r p b ts xs n rest v m top after led within found high = subst (λ (k : ℕ). ItemAt r p b ts xs v k after) (sym high) (item_read r p b ts xs n rest v m after led within found)
