-- Lists and atoms at the front of a text: each text begins with one at most.
use Rattle.std.proofs.Common.{◌≡◌, ◌≢◌, ◌<◌, ℕ, zero, suc, List, [], ◌∷◌, ◌++◌, length, refl, sym, ◌∙◌, ap, subst, arith, codes}
use Rattle.std.specs.Char.{IsAsciiDigit}
use Rattle.std.specs.Fmt.{decimal}
use Rattle.std.proofs.lemmas.Str.Parse.{tells_digits}
use Rattle.std.proofs.lemmas.List.{append_cancel_left}
use Rattle.odc_small.specs.Forms.{Form, FoundAt, NoneAt, many, both, mark}
use Rattle.odc_small.specs.Grammar.{Atom, name, number, call, AtomAt, next_spelling, atoms_over, atoms}
use Rattle.odc_small.specs.Names.{Callable, Names}
use Rattle.odc_small.specs.Reading.{ints, uppers, names, nexts_of, lists_of, closed_by, KnownEnds, known_arguments, known_atoms, known_sums}
use Rattle.odc_small.proofs.FormLemmas.{Unique, Follows, Meets, many_unique, ends_after, mark_found, mark_none, mark_unique, both_found, both_unique, none_first, none_second}
use Rattle.odc_small.proofs.DigitLemmas.{ints_unique, digits_unique, digits_of_int, plain_decimal}
use Rattle.odc_small.proofs.PieceLemmas.{heads, names_unique, uppers_unique}
use Rattle.odc_small.proofs.SumLemmas.{sums_unique, ends_sum, mul_none_first, sum_none_first}

abbrev pair : {A B : Type 0} → A → B → A × B
pair a b = (a, b)

abbrev pub all_of : {T : Type 0} → T × List T → List T
all_of p = p.0 ∷ p.1

-- ---- lists of items that a comma and a mark end

module _ {T : Type 0} (items : Form T) where
  abbrev nexts : Form T
  nexts = nexts_of items

  as_next : (bytes rest : List ℕ) (t : T) → FoundAt nexts bytes t rest → FoundAt (both (mark (codes ", ")) items) bytes (tt, t) rest
  as_next bytes rest t f = record { is = (tt, f.is); ends = f.ends; whole = f.whole }

  pub next_found : (bytes mid rest : List ℕ) (t : T) → bytes ≡ codes ", " ++ mid → FoundAt items mid t rest → FoundAt nexts bytes t rest
  next_found bytes mid rest t e f =
      let parts = both_found (mark (codes ", ")) items bytes mid rest tt t (mark_found (codes ", ") bytes mid e) f in
      record { is = f.is; ends = f.ends; whole = parts.whole }

  pub next_none_mark : (bytes : List ℕ) → ((rest : List ℕ) → bytes ≢ codes ", " ++ rest) → NoneAt nexts bytes
  next_none_mark bytes off t rest f =
      none_first (mark (codes ", ")) items (λ _ _ _ _. tt) bytes (mark_none (codes ", ") bytes off) (tt, t) rest (as_next bytes rest t f)

  pub next_none_item : (bytes mid : List ℕ) → bytes ≡ codes ", " ++ mid → NoneAt items mid → NoneAt nexts bytes
  next_none_item bytes mid e off t rest f =
      none_second (mark (codes ", ")) items (λ _ _ _ _. tt) (mark_unique (codes ", ")) bytes mid tt (mark_found (codes ", ") bytes mid e) off (tt, t) rest (as_next bytes rest t f)

  pub next_longer : (t : T) → 0 < length (next_spelling items.spelling t)
  next_longer t = omega arith

  module _ (one : Unique items) (comma : (r : List ℕ) → items.Ends (44 ∷ r)) where
    pub nexts_unique : Unique nexts
    nexts_unique bytes t u r s f g =
        let same = both_unique (mark (codes ", ")) items (λ _ _ _ _. tt) (mark_unique (codes ", ")) one bytes (tt, t) (tt, u) r s (as_next bytes r t f) (as_next bytes s u g) in
        (ap (λ (p : Unit {0} × T). p.1) same.0, same.1)

    pub nexts_follow : Follows nexts
    nexts_follow t r is = comma (32 ∷ (items.spelling t ++ r))

    pub list_meets : Meets items (many nexts)
    list_meets more rest all ends = ends_after nexts nexts_unique nexts_follow more rest all ends.0

    pub lists_unique : Unique (lists_of items)
    lists_unique = both_unique items (many nexts) list_meets one (many_unique nexts nexts_unique nexts_follow)

    pub list_none : (bytes : List ℕ) → NoneAt items bytes → NoneAt (lists_of items) bytes
    list_none bytes off = none_first items (many nexts) list_meets bytes off

    module _ (more : List ℕ) (shut : (r : List ℕ) → items.Ends (41 ∷ r)) where
      abbrev close : List ℕ
      close = 41 ∷ more

      no_next : (rest : List ℕ) → NoneAt nexts (close ++ rest)
      no_next rest t r f = omega (arith, heads 41 44 _ _ f.whole)

      pub close_meets : Meets (lists_of items) (mark close)
      close_meets t rest is ends = (shut (more ++ rest), no_next rest)

      abbrev pub closed_lists : Form ((T × List T) × Unit {0})
      closed_lists = both (lists_of items) (mark close)

      pub closed_lists_unique : Unique closed_lists
      closed_lists_unique = both_unique (lists_of items) (mark close) close_meets lists_unique (mark_unique close)

      as_closed : (bytes rest : List ℕ) (t : T) (ts : List T) → FoundAt (closed_by close items) bytes (t ∷ ts) rest → FoundAt closed_lists bytes ((t, ts), tt) rest
      as_closed bytes rest t ts f = record { is = (f.is, tt); ends = tt; whole = f.whole }

      pub closed_found : (bytes mid rest : List ℕ) (t : T) (ts : List T) → FoundAt (lists_of items) bytes (t, ts) mid → mid ≡ close ++ rest
          → FoundAt (closed_by close items) bytes (t ∷ ts) rest
      closed_found bytes mid rest t ts f e =
          let parts = both_found (lists_of items) (mark close) bytes mid rest (t, ts) tt f (mark_found close mid rest e) in
          record { is = f.is; ends = tt; whole = parts.whole }

      pub closed_empty : (bytes rest : List ℕ) → bytes ≡ close ++ rest → FoundAt (closed_by close items) bytes [] rest
      closed_empty bytes rest e = record { is = tt; ends = tt; whole = e }

      pub closed_none_list : (bytes : List ℕ) → ((rest : List ℕ) → bytes ≢ close ++ rest) → NoneAt (lists_of items) bytes → NoneAt (closed_by close items) bytes
      closed_none_list bytes off none [] rest f = off rest f.whole
      closed_none_list bytes off none (t ∷ ts) rest f =
          none_first (lists_of items) (mark close) close_meets bytes none ((t, ts), tt) rest (as_closed bytes rest t ts f)

      pub closed_none_mark : (bytes mid : List ℕ) (t : T) (ts : List T) → ((rest : List ℕ) → bytes ≢ close ++ rest) → FoundAt (lists_of items) bytes (t, ts) mid
          → ((rest : List ℕ) → mid ≢ close ++ rest) → NoneAt (closed_by close items) bytes
      closed_none_mark bytes mid t ts off f none [] rest g = off rest g.whole
      closed_none_mark bytes mid t ts off f none (u ∷ us) rest g =
          none_second (lists_of items) (mark close) close_meets lists_unique bytes mid (t, ts) f (mark_none close mid none) ((u, us), tt) rest (as_closed bytes rest u us g)

      module _ (none : (r : List ℕ) → NoneAt items (41 ∷ r)) where
        not_both : (bytes r s : List ℕ) (u : T) (us : List T) → FoundAt (closed_by close items) bytes [] r → FoundAt (closed_by close items) bytes (u ∷ us) s → ⊥
        not_both bytes r s u us f g =
            let off : NoneAt items bytes = subst (NoneAt items) (sym f.whole) (none (more ++ r)) in
            none_first (lists_of items) (mark close) close_meets bytes (list_none bytes off) ((u, us), tt) s (as_closed bytes s u us g)

        pub closed_unique : Unique (closed_by close items)
        closed_unique bytes [] [] r s f g = (refl, append_cancel_left close r s (sym f.whole ∙ g.whole))
        closed_unique bytes [] (u ∷ us) r s f g = absurd (not_both bytes r s u us f g)
        closed_unique bytes (t ∷ ts) [] r s f g = absurd (not_both bytes s r t ts g f)
        closed_unique bytes (t ∷ ts) (u ∷ us) r s f g =
            let same = closed_lists_unique bytes ((t, ts), tt) ((u, us), tt) r s (as_closed bytes r t ts f) (as_closed bytes s u us g) in
            (ap (λ (p : (T × List T) × Unit {0}). all_of p.0) same.0, same.1)

-- ---- atoms

no_digit : (c : ℕ) → 57 < c → ¬ IsAsciiDigit c
no_digit c h digit = omega (arith, digit.1)

-- a byte that is no digit begins no integer
pub byte_or_int : (bytes r s : List ℕ) (c n : ℕ) → ¬ IsAsciiDigit c → bytes ≡ c ∷ r → FoundAt ints bytes n s → ⊥
byte_or_int bytes r s c n off e g =
    let cut = digits_unique [] (decimal n) (c ∷ r) s tells_digits.empty (digits_of_int n g.is) off g.ends (sym e ∙ g.whole) in
    let some : 0 < length (decimal n) = (plain_decimal n g.is).some in
    omega (arith, ap length cut.0)

module _ {S : Type 0} (calls : Type 0) (items : Form S) where
  abbrev those : Form (Atom S)
  those = atoms_over calls items

  as_name : (bytes rest : List ℕ) (c : ℕ) → FoundAt those bytes (name c) rest → FoundAt names bytes c rest
  as_name bytes rest c f = record { is = f.is; ends = tt; whole = f.whole }

  as_int : (bytes rest : List ℕ) (n : ℕ) → FoundAt those bytes (number n) rest → FoundAt ints bytes n rest
  as_int bytes rest n f = record { is = f.is; ends = f.ends; whole = f.whole }

  abbrev pub called : Form (ℕ × (Unit {0} × List S))
  called = both uppers (both (mark (codes "(")) (closed_by (codes ")") items))

  as_call : (bytes rest : List ℕ) (f : ℕ) (ts : List S) → FoundAt those bytes (call f ts) rest → FoundAt called bytes (f, (tt, ts)) rest
  as_call bytes rest f ts found = record { is = (found.is.1.0, (tt, found.is.1.1)); ends = tt; whole = found.whole }

  no_atom_shut : (r : List ℕ) → NoneAt those (41 ∷ r)
  no_atom_shut r (name c) rest f = omega (arith, heads 41 c _ _ f.whole, f.is.0)
  no_atom_shut r (number n) rest f = byte_or_int (41 ∷ r) r rest 41 n (λ digit. omega (arith, digit.0)) refl (as_int (41 ∷ r) rest n f)
  no_atom_shut r (call g ts) rest f = omega (arith, heads 41 g _ _ f.whole, f.is.1.0.0)

  name_call : (bytes r s : List ℕ) (c f : ℕ) (ts : List S) → FoundAt those bytes (name c) r → FoundAt those bytes (call f ts) s → ⊥
  name_call bytes r s c f ts p q = omega (arith, heads c f _ _ (sym p.whole ∙ q.whole), p.is.0, q.is.1.0.1)

  module _ (one : Unique items) (comma : (r : List ℕ) → items.Ends (44 ∷ r)) (shut : (r : List ℕ) → items.Ends (41 ∷ r)) (none : (r : List ℕ) → NoneAt items (41 ∷ r)) where
    pub called_unique : Unique called
    called_unique =
        both_unique uppers (both (mark (codes "(")) (closed_by (codes ")") items)) (λ _ _ _ _. tt) uppers_unique
        (both_unique (mark (codes "(")) (closed_by (codes ")") items) (λ _ _ _ _. tt) (mark_unique (codes "(")) (closed_unique items one comma [] shut none))

    pub atoms_unique : Unique those
    atoms_unique bytes (name c) (name d) r s f g =
        let same = names_unique bytes c d r s (as_name bytes r c f) (as_name bytes s d g) in
        (ap (λ (z : ℕ). name z) same.0, same.1)
    atoms_unique bytes (name c) (number n) r s f g = absurd (byte_or_int bytes r s c n (no_digit c (omega (arith, f.is.0))) f.whole (as_int bytes s n g))
    atoms_unique bytes (name c) (call h ts) r s f g = absurd (name_call bytes r s c h ts f g)
    atoms_unique bytes (number n) (name c) r s f g = absurd (byte_or_int bytes s r c n (no_digit c (omega (arith, g.is.0))) g.whole (as_int bytes r n f))
    atoms_unique bytes (number n) (number m) r s f g =
        let same = ints_unique bytes n m r s (as_int bytes r n f) (as_int bytes s m g) in
        (ap (λ (z : ℕ). number z) same.0, same.1)
    atoms_unique bytes (number n) (call h ts) r s f g = absurd (byte_or_int bytes _ r h n (no_digit h (omega (arith, g.is.1.0.0))) g.whole (as_int bytes r n f))
    atoms_unique bytes (call h ts) (name c) r s f g = absurd (name_call bytes s r c h ts g f)
    atoms_unique bytes (call h ts) (number n) r s f g = absurd (byte_or_int bytes _ s h n (no_digit h (omega (arith, f.is.1.0.0))) f.whole (as_int bytes s n g))
    atoms_unique bytes (call h ts) (call k us) r s f g =
        let same = called_unique bytes (h, (tt, ts)) (k, (tt, us)) r s (as_call bytes r h ts f) (as_call bytes s k us g) in
        (ap (λ (p : ℕ × (Unit {0} × List S)). call p.0 p.1.1) same.0, same.1)

-- ---- atoms and sums whose names may stand

module _ (callable : Callable) (bindings : Names) where
  pub known_comma : (n : ℕ) (r : List ℕ) → KnownEnds callable bindings n (44 ∷ r)
  known_comma zero r = tt
  known_comma (suc n) r = ends_sum (atoms n).spelling (known_atoms callable bindings n).Is 44 r (λ e. omega (arith, e)) (λ digit. omega (arith, digit.0))

  pub known_shut : (n : ℕ) (r : List ℕ) → KnownEnds callable bindings n (41 ∷ r)
  known_shut zero r = tt
  known_shut (suc n) r = ends_sum (atoms n).spelling (known_atoms callable bindings n).Is 41 r (λ e. omega (arith, e)) (λ digit. omega (arith, digit.0))

  as_plain : (n : ℕ) (bytes rest : List ℕ) (a : AtomAt n) → FoundAt (known_atoms callable bindings n) bytes a rest
      → FoundAt (atoms_over (0 < n) (known_arguments callable bindings n)) bytes a rest
  as_plain n bytes rest a f = record { is = f.is.0; ends = f.ends; whole = f.whole }

  no_known_atom_shut : (n : ℕ) (r : List ℕ) → NoneAt (known_atoms callable bindings n) (41 ∷ r)
  no_known_atom_shut n r a rest f = no_atom_shut (0 < n) (known_arguments callable bindings n) r a rest (as_plain n (41 ∷ r) rest a f)

  known_atoms_by : (n : ℕ) → Unique (known_arguments callable bindings n) → ((r : List ℕ) → NoneAt (known_arguments callable bindings n) (41 ∷ r)) → Unique (known_atoms callable bindings n)
  known_atoms_by n one none bytes a b r s f g =
      atoms_unique (0 < n) (known_arguments callable bindings n) one (known_comma n) (known_shut n) none bytes a b r s (as_plain n bytes r a f) (as_plain n bytes s b g)

  pub known_none_shut : (n : ℕ) → Unique (known_atoms callable bindings n) → (r : List ℕ) → NoneAt (known_sums callable bindings n) (41 ∷ r)
  known_none_shut n one r =
      sum_none_first (atoms n).spelling (known_atoms callable bindings n).Is one (41 ∷ r)
      (mul_none_first (atoms n).spelling (known_atoms callable bindings n).Is one (41 ∷ r) (no_known_atom_shut n r))

  pub known_both : (n : ℕ) → Unique (known_arguments callable bindings n) × ((r : List ℕ) → NoneAt (known_arguments callable bindings n) (41 ∷ r))
  known_both zero = ((λ bytes t u r s f g. absurd t), (λ r t rest f. absurd t))
  known_both (suc n) =
      let below = known_both n in
      let one = known_atoms_by n below.0 below.1 in
      (sums_unique (atoms n).spelling (known_atoms callable bindings n).Is one, known_none_shut n one)

  pub known_arguments_unique : (n : ℕ) → Unique (known_arguments callable bindings n)
  known_arguments_unique n = (known_both n).0

  pub known_atoms_unique : (n : ℕ) → Unique (known_atoms callable bindings n)
  known_atoms_unique n = known_atoms_by n (known_both n).0 (known_both n).1

  pub known_sums_unique : (n : ℕ) → Unique (known_sums callable bindings n)
  known_sums_unique n = (known_both (suc n)).0
