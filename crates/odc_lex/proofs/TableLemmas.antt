-- The tables of keywords and signs.
use Rattle.std.proofs.Common.{◌≡◌, ℕ, ◌≤◌, Bool, true, false, List, [], ◌∷◌, ◌++◌, length, get_or, take, drop, Option, Some, None, refl, sym, ◌∙◌, ap, subst, inl, inr, ⊎_elim, arith, length-take, take-append-drop}
use Rattle.std.specs.Prelude.{nat_eq, if◌then◌else◌, ◌==◌}
use Rattle.std.specs.List.{starts_with}
use Rattle.std.proofs.lemmas.List.{take_at}
use Rattle.std.proofs.lemmas.Bool.{false≢true, and_parts, ne_eqb}
use Rattle.std.proofs.lemmas.Slice.Eq.{bytes_eq-Decides}
use Rattle.odc_syntax.specs.declared.token.TokenKind.{TokenKind}
use Rattle.odc_syntax.specs.lexical.Names.{Row, keywords, kind_among, word_kind}
use Rattle.odc_syntax.specs.lexical.Signs.{signs, IsAmong, IsSign}
use Rattle.odc_syntax.proofs.SignLemmas.{none_begins, is_parted, signs_are_parted, later}
use Rattle.odc_lex.specs.declared.number.Lexeme.{Lexeme}
use Rattle.odc_lex.specs.Table.{first_front, FindsRow, SignFront, NoSign}

starts_front : (p text s : List ℕ) → p ++ s ≡ text → starts_with nat_eq text p ≡ true
starts_front p text s e = (bytes_eq-Decides p (take (length p) text)).1 (sym (ap (take (length p)) (sym e) ∙ take_at p s (length p) refl))

front_of : (p text : List ℕ) → starts_with nat_eq text p ≡ true → p ≡ take (length p) text
front_of p text e = (bytes_eq-Decides p (take (length p) text)).0 e

-- the first row that begins the text is the longest
pub record Hit (rows : List Row) (text : List ℕ) (r : Row) : Type 0 where
  pub among : IsAmong rows r.kind r.text
  pub front : r.text ≡ take (length r.text) text
  pub longest : (l : TokenKind) (v s : List ℕ) → IsAmong rows l v → v ++ s ≡ text → length v ≤ length r.text

hit_here : (r : Row) (rows : List Row) (text : List ℕ) → none_begins r rows ≡ true → starts_with nat_eq text r.text ≡ true → Hit (r ∷ rows) text r
hit_here r rows text parted e =
    let front = front_of r.text text e in record {
      among = inl (refl, refl);
      front = front;
      longest = λ l v s is f.
          ⊎_elim
          (λ here. omega (arith, ap length here.0))
          (λ there. omega (arith, later r rows l v s (drop (length r.text) text) parted there (f ∙ sym (take-append-drop (length r.text) text) ∙ ap (λ x. x ++ drop (length r.text) text) (sym front))))
          is;
    }

hit_there : (q r : Row) (rows : List Row) (text : List ℕ) → starts_with nat_eq text q.text ≡ false → Hit rows text r → Hit (q ∷ rows) text r
hit_there q r rows text e hit = record {
  among = inr hit.among;
  front = hit.front;
  longest = λ l v s is f.
      ⊎_elim
      (λ here. absurd (false≢true (sym e ∙ starts_front q.text text s (ap (λ x. x ++ s) (sym here.0) ∙ f))))
      (λ there. hit.longest l v s there f)
      is;
}

hit_by : (q : Row) (rows : List Row) (text : List ℕ) (r : Row) (t : Bool) → starts_with nat_eq text q.text ≡ t → is_parted (q ∷ rows) ≡ true → (is_parted rows ≡ true → first_front rows text ≡ Some r → Hit rows text r) → (if t then Some q else first_front rows text) ≡ Some r → Hit (q ∷ rows) text r
hit_by q rows text r true e parted rest f = let same : q ≡ r = cc in subst (Hit (q ∷ rows) text) same (hit_here q rows text (and_parts (none_begins q rows) (is_parted rows) parted).0 e)
hit_by q rows text r false e parted rest f = hit_there q r rows text e (rest (and_parts (none_begins q rows) (is_parted rows) parted).1 f)

pub hit_of : (rows : List Row) (text : List ℕ) (r : Row) → is_parted rows ≡ true → first_front rows text ≡ Some r → Hit rows text r
hit_of [] text r parted f = cc
hit_of (q ∷ rows) text r parted f = hit_by q rows text r (starts_with nat_eq text q.text) refl parted (λ p g. hit_of rows text r p g) f

miss_by : (q : Row) (rows : List Row) (text : List ℕ) (t : Bool) → starts_with nat_eq text q.text ≡ t → (first_front rows text ≡ None → (l : TokenKind) (v s : List ℕ) → IsAmong rows l v → v ++ s ≡ text → ⊥) → (if t then Some q else first_front rows text) ≡ None → (l : TokenKind) (v s : List ℕ) → IsAmong (q ∷ rows) l v → v ++ s ≡ text → ⊥
miss_by q rows text true e rest f l v s is g = cc
miss_by q rows text false e rest f l v s is g =
    ⊎_elim
    (λ here. false≢true (sym e ∙ starts_front q.text text s (ap (λ x. x ++ s) (sym here.0) ∙ g)))
    (λ there. rest f l v s there g)
    is

pub miss_of : (rows : List Row) (text : List ℕ) → first_front rows text ≡ None → (l : TokenKind) (v s : List ℕ) → IsAmong rows l v → v ++ s ≡ text → ⊥
miss_of [] text f l v s is g = absurd is
miss_of (q ∷ rows) text f l v s is g = miss_by q rows text (starts_with nat_eq text q.text) refl (λ h. miss_of rows text h) f l v s is g

pub sign_found : (text : List ℕ) (row : Option Row) (found : Lexeme) → first_front signs text ≡ row → FindsRow row (Some found) → SignFront text found
sign_found text None found e finds = absurd finds
sign_found text (Some r) found e finds =
    let hit = hit_of signs text r signs_are_parted e in
    let front : r.text ≡ take found.len text = hit.front ∙ ap (λ n. take n text) (sym finds.1) in record {
      within = omega (arith, finds.1, ap length front, length-take found.len text);
      is = subst (λ k. IsSign k (take found.len text)) (sym finds.0) (subst (IsSign r.kind) front hit.among);
      longest = λ l v s is f. omega (arith, hit.longest l v s is f, finds.1);
    }

pub sign_missing : (text : List ℕ) (row : Option Row) → first_front signs text ≡ row → FindsRow row None → NoSign text
sign_missing text (Some r) e finds l v s is f = absurd finds
sign_missing text None e finds l v s is f = miss_of signs text e l v s is f

-- ---- signs that their first byte tells

head_and_rest : (text : List ℕ) → (length text == 0) ≡ false → text ≡ get_or text 0 0 ∷ drop 1 text
head_and_rest [] l = absurd (false≢true (sym l))
head_and_rest (b ∷ t) l = refl

pub single_at : (text : List ℕ) (b : ℕ) (k : TokenKind) (result : Option Lexeme) {empty : Bool} → empty ≡ false → empty ≡ (length text == 0) → get_or text 0 0 ≡ b →
    FindsRow (first_front signs (b ∷ drop 1 text)) (Some (record { kind = k; len = 1 })) → result ≡ Some (record { kind = k; len = 1 }) → FindsRow (first_front signs text) result
single_at text b k result some test head finds e =
    subst (FindsRow (first_front signs text)) (sym e)
    (subst (λ t. FindsRow (first_front signs t) (Some (record { kind = k; len = 1 }))) (sym (head_and_rest text (sym test ∙ some) ∙ ap (λ x. x ∷ drop 1 text) head)) finds)

pub nothing_at : (text : List ℕ) {empty : Bool} → empty ≡ true → empty ≡ (length text == 0) → first_front signs [] ≡ None → FindsRow (first_front signs text) None
nothing_at [] none test e = subst (λ r. FindsRow r None) (sym e) tt
nothing_at (b ∷ t) none test e = absurd (false≢true (sym (ne_eqb (length (b ∷ t)) 0 (λ f. omega (arith, f))) ∙ sym test ∙ none))

pub no_word : (word : List ℕ) {empty : Bool} → empty ≡ true → empty ≡ (length word == 0) → word ≡ []
no_word [] none test = refl
no_word (b ∷ t) none test = absurd (false≢true (sym (ne_eqb (length (b ∷ t)) 0 (λ f. omega (arith, f))) ∙ sym test ∙ none))

pub word_told : (word : List ℕ) (rows : List Row) (k : TokenKind) {empty : Bool} → empty ≡ false → empty ≡ (length word == 0) →
    ((w : List ℕ) → kind_among rows (get_or word 0 0 ∷ w) ≡ kind_among keywords (get_or word 0 0 ∷ w)) → k ≡ kind_among rows word → k ≡ word_kind word
word_told word rows k some test same e =
    let whole = head_and_rest word (sym test ∙ some) in
    e ∙ ap (kind_among rows) whole ∙ same (drop 1 word) ∙ ap (kind_among keywords) (sym whole)
