-- Forms that stand at the front of a text in one way at most.
use Rattle.std.proofs.Common.{◌≡◌, ◌≢◌, ◌<◌, ℕ, List, [], ◌∷◌, ◌++◌, length, refl, sym, ◌∙◌, ap, subst, append_assoc, arith, length-append}
use Rattle.std.specs.List.{AllByRecursion}
use Rattle.std.proofs.lemmas.List.{append-nil, append_cancel_left}
use Rattle.odc_small.specs.Forms.{Form, FoundAt, NoneAt, spellings, many, mark, both}

-- a text begins with one tree of the form at most
abbrev pub Unique : {T : Type 0} → Form T → Type 0
Unique {T} form = (bytes : List ℕ) (t u : T) (r s : List ℕ) → FoundAt form bytes t r → FoundAt form bytes u s → (t ≡ u) × (r ≡ s)

-- the form may stand after one of itself
abbrev pub Follows : {T : Type 0} → Form T → Type 0
Follows {T} form = (t : T) (r : List ℕ) → form.Is t → form.Ends (form.spelling t ++ r)

module _ {T : Type 0} (form : Form T) where
  -- what a loop has found so far
  pub record SoFar (bytes : List ℕ) (ts : List T) (rest : List ℕ) : Type 0 where
    pub is : AllByRecursion form.Is ts
    pub ends : form.Ends rest
    pub whole : bytes ≡ spellings form.spelling ts ++ rest

  pub none_yet : (bytes : List ℕ) → form.Ends bytes → SoFar bytes [] bytes
  none_yet bytes ends = record { is = tt; ends = ends; whole = refl }

  pub spellings_push : (ts : List T) (t : T) → spellings form.spelling (ts ++ t ∷ []) ≡ spellings form.spelling ts ++ form.spelling t
  spellings_push [] t = append-nil (form.spelling t)
  spellings_push (u ∷ ts) t =
      ap (λ z. form.spelling u ++ z) (spellings_push ts t) ∙ sym (append_assoc (form.spelling u) (spellings form.spelling ts) (form.spelling t))

  all_push : (ts : List T) (t : T) → AllByRecursion form.Is ts → form.Is t → AllByRecursion form.Is (ts ++ t ∷ [])
  all_push [] t all is = (is, tt)
  all_push (u ∷ ts) t all is = (all.0, all_push ts t all.1 is)

  pub one_more : (bytes : List ℕ) (ts : List T) (rest : List ℕ) (t : T) (after : List ℕ)
      → SoFar bytes ts rest → FoundAt form rest t after → SoFar bytes (ts ++ t ∷ []) after
  one_more bytes ts rest t after f g = record {
    is = all_push ts t f.is g.is;
    ends = g.ends;
    whole = f.whole ∙ ap (λ z. spellings form.spelling ts ++ z) g.whole
        ∙ sym (append_assoc (spellings form.spelling ts) (form.spelling t) after)
        ∙ ap (λ z. z ++ after) (sym (spellings_push ts t));
  }

  pub all_found : (bytes : List ℕ) (ts : List T) (rest : List ℕ) → SoFar bytes ts rest → NoneAt form rest → FoundAt (many form) bytes ts rest
  all_found bytes ts rest f off = record { is = f.is; ends = (f.ends, off); whole = f.whole }

  pub shorter : (rest : List ℕ) (t : T) (after : List ℕ) → FoundAt form rest t after → 0 < length (form.spelling t) → length after < length rest
  shorter rest t after f h = omega (arith, ap length f.whole, length-append (form.spelling t) after, h)

  module _ (one : Unique form) (follows : Follows form) where
    pub ends_after : (ts : List T) (r : List ℕ) → AllByRecursion form.Is ts → form.Ends r → form.Ends (spellings form.spelling ts ++ r)
    ends_after [] r all ends = ends
    ends_after (t ∷ ts) r all ends =
        subst form.Ends (sym (append_assoc (form.spelling t) (spellings form.spelling ts) r)) (follows t (spellings form.spelling ts ++ r) all.0)

    first_found : (bytes : List ℕ) (t : T) (ts : List T) (r : List ℕ) → FoundAt (many form) bytes (t ∷ ts) r → FoundAt form bytes t (spellings form.spelling ts ++ r)
    first_found bytes t ts r f = record {
      is = f.is.0;
      ends = ends_after ts r f.is.1 f.ends.0;
      whole = f.whole ∙ append_assoc (form.spelling t) (spellings form.spelling ts) r;
    }

    pub many_unique : (bytes : List ℕ) (ts us : List T) (r s : List ℕ) → FoundAt (many form) bytes ts r → FoundAt (many form) bytes us s → (ts ≡ us) × (r ≡ s)
    many_unique bytes [] [] r s f g = (refl, sym f.whole ∙ g.whole)
    many_unique bytes [] (u ∷ us) r s f g =
        absurd (f.ends.1 u (spellings form.spelling us ++ s) (subst (λ z. FoundAt form z u (spellings form.spelling us ++ s)) f.whole (first_found bytes u us s g)))
    many_unique bytes (t ∷ ts) [] r s f g =
        absurd (g.ends.1 t (spellings form.spelling ts ++ r) (subst (λ z. FoundAt form z t (spellings form.spelling ts ++ r)) g.whole (first_found bytes t ts r f)))
    many_unique bytes (t ∷ ts) (u ∷ us) r s f g =
        let heads = one bytes t u (spellings form.spelling ts ++ r) (spellings form.spelling us ++ s) (first_found bytes t ts r f) (first_found bytes u us s g) in
        let tails = many_unique (spellings form.spelling ts ++ r) ts us r s
        (record { is = f.is.1; ends = f.ends; whole = refl }) (record { is = g.is.1; ends = g.ends; whole = heads.1 }) in
        (rw heads.0 (ap (λ z. u ∷ z) tails.0), tails.1)

-- ---- fixed texts

pub mark_found : (text bytes rest : List ℕ) → bytes ≡ text ++ rest → FoundAt (mark text) bytes tt rest
mark_found text bytes rest e = record { is = tt; ends = tt; whole = e }

pub mark_none : (text bytes : List ℕ) → ((rest : List ℕ) → bytes ≢ text ++ rest) → NoneAt (mark text) bytes
mark_none text bytes off t rest f = off rest f.whole

pub mark_unique : (text : List ℕ) → Unique (mark text)
mark_unique text bytes t u r s f g = (refl, append_cancel_left text r s (sym f.whole ∙ g.whole))

-- ---- one form, and then another

-- the second form may stand behind the first
abbrev pub Meets : {A B : Type 0} → Form A → Form B → Type 0
Meets {A} {B} first second = (b : B) (rest : List ℕ) → second.Is b → second.Ends rest → first.Ends (second.spelling b ++ rest)

abbrev pair : {A B : Type 0} → A → B → A × B
pair a b = (a, b)

module _ {A B : Type 0} (first : Form A) (second : Form B) where
  pub both_found : (bytes mid rest : List ℕ) (a : A) (b : B) → FoundAt first bytes a mid → FoundAt second mid b rest
      → FoundAt (both first second) bytes (a, b) rest
  both_found bytes mid rest a b f g = record {
    is = (f.is, g.is);
    ends = g.ends;
    whole = f.whole ∙ ap (λ z. first.spelling a ++ z) g.whole ∙ sym (append_assoc (first.spelling a) (second.spelling b) rest);
  }

  second_of : (bytes rest : List ℕ) (p : A × B) → FoundAt (both first second) bytes p rest → FoundAt second (second.spelling p.1 ++ rest) p.1 rest
  second_of bytes rest p f = record { is = f.is.1; ends = f.ends; whole = refl }

  module _ (meets : Meets first second) where
    first_of_both : (bytes rest : List ℕ) (p : A × B) → FoundAt (both first second) bytes p rest → FoundAt first bytes p.0 (second.spelling p.1 ++ rest)
    first_of_both bytes rest p f = record {
      is = f.is.0;
      ends = meets p.1 rest f.is.1 f.ends;
      whole = f.whole ∙ append_assoc (first.spelling p.0) (second.spelling p.1) rest;
    }

    pub none_first : (bytes : List ℕ) → NoneAt first bytes → NoneAt (both first second) bytes
    none_first bytes off p rest f = off p.0 (second.spelling p.1 ++ rest) (first_of_both bytes rest p f)

    module _ (one : Unique first) where
      pub none_second : (bytes mid : List ℕ) (a : A) → FoundAt first bytes a mid → NoneAt second mid → NoneAt (both first second) bytes
      none_second bytes mid a f off p rest g =
          let same = one bytes a p.0 mid (second.spelling p.1 ++ rest) f (first_of_both bytes rest p g) in
          off p.1 rest (subst (λ z. FoundAt second z p.1 rest) (sym same.1) (second_of bytes rest p g))

      pub both_unique : Unique second → Unique (both first second)
      both_unique also bytes p q r s f g =
          let heads = one bytes p.0 q.0 (second.spelling p.1 ++ r) (second.spelling q.1 ++ s) (first_of_both bytes r p f) (first_of_both bytes s q g) in
          let tails = also (second.spelling p.1 ++ r) p.1 q.1 r s (second_of bytes r p f)
          (subst (λ z. FoundAt second z q.1 s) (sym heads.1) (second_of bytes s q g)) in
          (ap (λ (a : A). pair a p.1) heads.0 ∙ ap (λ (b : B). pair q.0 b) tails.0, tails.1)
