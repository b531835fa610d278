-- What is written is read back.
use Rattle.std.proofs.Common.{◌≡◌, ℕ, ◌*◌, ◌^◌, ◌<◌, Bool, true, ◌&&◌, List, [], ◌∷◌, ◌++◌, length, take, drop, All, arith, refl, ap, ◌∙◌, sym, append_assoc, append-nil, length-append, eq-eqb}
use Rattle.std.specs.Prelude.{nat_le, nat_lt}
use Rattle.std.specs.List.{flat_map}
use Rattle.std.proofs.lemmas.Bool.{le-leb, lt-ltb}
use Rattle.std.proofs.lemmas.List.{take_at, drop_at}
use Rattle.std.proofs.lemmas.List.Elements.{All-head, All-tail}
use Rattle.std.proofs.lemmas.Nat.{from_le_bytes-to_le_bytes_4, from_le_bytes-to_le_bytes_8}
use Rattle.odc_text.specs.declared.check.Check.{Check}
use Rattle.odc_text.specs.declared.check.Check.TheVariants.{Index, Slice, Division, Assertion, Nil, Stack, Assert, Panic, Length}
use Rattle.odc_text.specs.Check.{number_of}
use Rattle.rv_table.specs.Run.{Site}
use Rattle.rv_sites.specs.Numbers.{le32, le64, number32, number64}
use Rattle.rv_sites.specs.Sections.{Listing, IsListing, IsShortText, IsShortName, IsSiteOf, IsAddress, text_bytes, name_bytes, check_bytes, sites_bytes, calls_bytes, have, entries, beyond, has_text, text_at, past_text, has_name, name_at, past_name, is_check, check_numbered, has_site, site_at, is_filled, have_counted, counted, beyond_counted, are_sites, is_sites_section, is_calls_section, listing}
use Rattle.rv_sites.specs.declared.sites.ProcedureName.{ProcedureName}

pub number32_le : (n : ℕ) (r : List ℕ) → n < 2 ^ 32 → number32 (le32 n ++ r) ≡ n
number32_le n r h = from_le_bytes-to_le_bytes_4 n h

pub number64_le : (n : ℕ) (r : List ℕ) → n < 2 ^ 64 → number64 (le64 n ++ r) ≡ n
number64_le n r h = from_le_bytes-to_le_bytes_8 n h

pub drop32_le : (n : ℕ) (r : List ℕ) → drop 4 (le32 n ++ r) ≡ r
drop32_le n r = refl

pub drop64_le : (n : ℕ) (r : List ℕ) → drop 8 (le64 n ++ r) ≡ r
drop64_le n r = refl

pub both : (a b : Bool) → a ≡ true → b ≡ true → (a && b) ≡ true
both a b p q = rw (p, q)

-- ---- how entries of a kind are written, tested, read and passed

pub record IsSpelled {A : Type 0} (P : A → Type 0) (spell : A → List ℕ) (test : List ℕ → Bool) (entry : List ℕ → A) (past : List ℕ → List ℕ) : Type 0 where
  pub tests : (x : A) (r : List ℕ) → P x → test (spell x ++ r) ≡ true
  pub reads : (x : A) (r : List ℕ) → P x → entry (spell x ++ r) ≡ x
  pub pasts : (x : A) (r : List ℕ) → P x → past (spell x ++ r) ≡ r

pub have_spelled : {A : Type 0} (P : A → Type 0) (spell : A → List ℕ) (test : List ℕ → Bool) (entry : List ℕ → A) (past : List ℕ → List ℕ) →
    IsSpelled P spell test entry past → (xs : List A) (r : List ℕ) → All P xs → have test past (length xs) (flat_map spell xs ++ r) ≡ true
have_spelled P spell test entry past s [] r h = refl
have_spelled P spell test entry past s (x ∷ xs) r h =
    let now = All-head P x xs h in
    let later = have_spelled P spell test entry past s xs r (All-tail P x xs h) in
    rw (append_assoc, s.tests x (flat_map spell xs ++ r) now, s.pasts x (flat_map spell xs ++ r) now) later

pub entries_spelled : {A : Type 0} (P : A → Type 0) (spell : A → List ℕ) (test : List ℕ → Bool) (entry : List ℕ → A) (past : List ℕ → List ℕ) →
    IsSpelled P spell test entry past → (xs : List A) (r : List ℕ) → All P xs → entries entry past (length xs) (flat_map spell xs ++ r) ≡ xs
entries_spelled P spell test entry past s [] r h = refl
entries_spelled P spell test entry past s (x ∷ xs) r h =
    let now = All-head P x xs h in
    let later = entries_spelled P spell test entry past s xs r (All-tail P x xs h) in
    rw (append_assoc, s.reads x (flat_map spell xs ++ r) now, s.pasts x (flat_map spell xs ++ r) now, later)

pub beyond_spelled : {A : Type 0} (P : A → Type 0) (spell : A → List ℕ) (test : List ℕ → Bool) (entry : List ℕ → A) (past : List ℕ → List ℕ) →
    IsSpelled P spell test entry past → (xs : List A) (r : List ℕ) → All P xs → beyond past (length xs) (flat_map spell xs ++ r) ≡ r
beyond_spelled P spell test entry past s [] r h = refl
beyond_spelled P spell test entry past s (x ∷ xs) r h =
    let now = All-head P x xs h in
    let later = beyond_spelled P spell test entry past s xs r (All-tail P x xs h) in
    ap (beyond past (length xs)) (ap past (append_assoc (spell x) (flat_map spell xs) r) ∙ s.pasts x (flat_map spell xs ++ r) now) ∙ later

-- ---- the four kinds

pub text_test : (x r : List ℕ) → length x < 2 ^ 32 → has_text (text_bytes x ++ r) ≡ true
text_test x r h =
    let first : nat_le 4 (length (text_bytes x ++ r)) ≡ true = le-leb 4 (length (text_bytes x ++ r)) (omega arith) in
    let size : number32 (text_bytes x ++ r) ≡ length x = number32_le (length x) (x ++ r) h in
    let second : nat_le (length x) (length (x ++ r)) ≡ true = le-leb (length x) (length (x ++ r)) (omega (arith, length-append x r)) in
    both _ _ first (ap (λ (n : ℕ). nat_le n (length (x ++ r))) size ∙ second)

pub text_read : (x r : List ℕ) → length x < 2 ^ 32 → text_at (text_bytes x ++ r) ≡ x
text_read x r h = ap (λ (n : ℕ). take n (x ++ r)) (number32_le (length x) (x ++ r) h) ∙ take_at x r (length x) refl

pub text_past : (x r : List ℕ) → length x < 2 ^ 32 → past_text (text_bytes x ++ r) ≡ r
text_past x r h = ap (λ (n : ℕ). drop n (x ++ r)) (number32_le (length x) (x ++ r) h) ∙ drop_at x r (length x) refl

pub texts : IsSpelled IsShortText text_bytes has_text text_at past_text
texts = record { tests = text_test; reads = text_read; pasts = text_past }

pub names : IsSpelled IsShortName name_bytes has_name name_at past_name
names = record {
  tests = λ n r h.
      let first : nat_le 8 (length (name_bytes n ++ r)) ≡ true = le-leb 8 (length (name_bytes n ++ r)) (omega arith) in
      both _ _ first (text_test n.name r h.1);
  reads = λ n r h.
      let entry : number64 (name_bytes n ++ r) ≡ n.entry = number64_le n.entry (text_bytes n.name ++ r) h.0 in
      let text : text_at (text_bytes n.name ++ r) ≡ n.name = text_read n.name r h.1 in
      ap (λ (e : ℕ). let x : ProcedureName = record { entry = e; name = text_at (text_bytes n.name ++ r) } in x) entry
      ∙ ap (λ (t : List ℕ). let x : ProcedureName = record { entry = n.entry; name = t } in x) text;
  pasts = λ n r h. text_past n.name r h.1;
}

pub check_is : (c : Check) → is_check (number_of c) ≡ true
check_is Index = refl
check_is Slice = refl
check_is Division = refl
check_is Assertion = refl
check_is Nil = refl
check_is Stack = refl
check_is Assert = refl
check_is Panic = refl
check_is Length = refl

pub check_back : (c : Check) → check_numbered (number_of c) ≡ c
check_back Index = refl
check_back Slice = refl
check_back Division = refl
check_back Assertion = refl
check_back Nil = refl
check_back Stack = refl
check_back Assert = refl
check_back Panic = refl
check_back Length = refl

pub check_small : (c : Check) → number_of c < 2 ^ 32
check_small Index = omega arith
check_small Slice = omega arith
check_small Division = omega arith
check_small Assertion = omega arith
check_small Nil = omega arith
check_small Stack = omega arith
check_small Assert = omega arith
check_small Panic = omega arith
check_small Length = omega arith

pub sites : (paths : ℕ) → paths < 2 ^ 32 → IsSpelled (IsSiteOf paths) check_bytes (has_site paths) site_at (drop 16)
sites paths few = record {
  tests = λ s r h.
      let file : number32 (check_bytes s ++ r) ≡ s.1.file.number = from_le_bytes-to_le_bytes_4 s.1.file.number (omega (arith, h.0.0)) in
      let check : number32 (drop 12 (check_bytes s ++ r)) ≡ number_of s.0 = from_le_bytes-to_le_bytes_4 (number_of s.0) (check_small s.0) in
      both _ _ (ap (λ (n : ℕ). nat_lt n paths) file ∙ lt-ltb s.1.file.number paths h.0.0) (ap is_check check ∙ check_is s.0);
  reads = λ s r h.
      let file : number32 (check_bytes s ++ r) ≡ s.1.file.number = from_le_bytes-to_le_bytes_4 s.1.file.number (omega (arith, h.0.0)) in
      let line : number32 (drop 4 (check_bytes s ++ r)) ≡ s.1.line = from_le_bytes-to_le_bytes_4 s.1.line h.0.1 in
      let column : number32 (drop 8 (check_bytes s ++ r)) ≡ s.1.column = from_le_bytes-to_le_bytes_4 s.1.column h.1 in
      let check : check_numbered (number32 (drop 12 (check_bytes s ++ r))) ≡ s.0 = ap check_numbered (from_le_bytes-to_le_bytes_4 (number_of s.0) (check_small s.0)) ∙ check_back s.0 in
      let one = ap (λ (c : Check). let x : Site = (c, record { file = record { number = number32 (check_bytes s ++ r) }; line = number32 (drop 4 (check_bytes s ++ r)); column = number32 (drop 8 (check_bytes s ++ r)) }) in x) check in
      let two = ap (λ (n : ℕ). let x : Site = (s.0, record { file = record { number = n }; line = number32 (drop 4 (check_bytes s ++ r)); column = number32 (drop 8 (check_bytes s ++ r)) }) in x) file in
      let three = ap (λ (n : ℕ). let x : Site = (s.0, record { file = s.1.file; line = n; column = number32 (drop 8 (check_bytes s ++ r)) }) in x) line in
      one ∙ two ∙ three ∙ ap (λ (n : ℕ). let x : Site = (s.0, record { file = s.1.file; line = s.1.line; column = n }) in x) column;
  pasts = λ s r h. refl;
}

abbrev pub yes : List ℕ → Bool
yes bytes = true

pub addresses : IsSpelled IsAddress le64 yes number64 (drop 8)
addresses = record { tests = λ x r h. refl; reads = λ x r h. number64_le x r h; pasts = λ x r h. refl }

-- ---- entries of one size

pub length_entries : {A : Type 0} (spell : A → List ℕ) (size : ℕ) → ((x : A) → length (spell x) ≡ size) → (xs : List A) → length (flat_map spell xs) ≡ size * length xs
length_entries spell size each [] = omega arith
length_entries spell size each (x ∷ xs) = length-append (spell x) (flat_map spell xs) ∙ omega (arith, each x, length_entries spell size each xs)

-- ---- the sections

pub filled_spelled : {A : Type 0} (spell : A → List ℕ) (size : ℕ) (xs : List A) → ((x : A) → length (spell x) ≡ size) → length xs < 2 ^ 32 →
    is_filled size (le32 (length xs) ++ flat_map spell xs) ≡ true
filled_spelled {A} spell size xs each few =
    let bytes : List ℕ = le32 (length xs) ++ flat_map spell xs in
    let first : nat_le 4 (length bytes) ≡ true = le-leb 4 (length bytes) (omega arith) in
    let number : number32 bytes ≡ length xs = number32_le (length xs) (flat_map spell xs) few in
    let fills : length (flat_map spell xs) ≡ size * number32 bytes = length_entries spell size each xs ∙ ap (λ (n : ℕ). size * n) (sym number) in
    both _ _ first (eq-eqb (length (flat_map spell xs)) (size * number32 bytes) fills)

pub counted_have : {A : Type 0} (P : A → Type 0) (spell : A → List ℕ) (test : List ℕ → Bool) (entry : List ℕ → A) (past : List ℕ → List ℕ) →
    IsSpelled P spell test entry past → (xs : List A) (r : List ℕ) → All P xs → length xs < 2 ^ 32 → have_counted test past ((le32 (length xs) ++ flat_map spell xs) ++ r) ≡ true
counted_have P spell test entry past s xs r h few =
    let bytes : List ℕ = (le32 (length xs) ++ flat_map spell xs) ++ r in
    let first : nat_le 4 (length bytes) ≡ true = le-leb 4 (length bytes) (omega arith) in
    let number : number32 bytes ≡ length xs = number32_le (length xs) (flat_map spell xs ++ r) few in
    both _ _ first (ap (λ (n : ℕ). have test past n (flat_map spell xs ++ r)) number ∙ have_spelled P spell test entry past s xs r h)

pub counted_read : {A : Type 0} (P : A → Type 0) (spell : A → List ℕ) (test : List ℕ → Bool) (entry : List ℕ → A) (past : List ℕ → List ℕ) →
    IsSpelled P spell test entry past → (xs : List A) (r : List ℕ) → All P xs → length xs < 2 ^ 32 → counted entry past ((le32 (length xs) ++ flat_map spell xs) ++ r) ≡ xs
counted_read {A} P spell test entry past s xs r h few =
    let number : number32 ((le32 (length xs) ++ flat_map spell xs) ++ r) ≡ length xs = number32_le (length xs) (flat_map spell xs ++ r) few in
    ap (λ (n : ℕ). entries entry past n (flat_map spell xs ++ r)) number ∙ entries_spelled P spell test entry past s xs r h

pub counted_past : {A : Type 0} (P : A → Type 0) (spell : A → List ℕ) (test : List ℕ → Bool) (entry : List ℕ → A) (past : List ℕ → List ℕ) →
    IsSpelled P spell test entry past → (xs : List A) (r : List ℕ) → All P xs → length xs < 2 ^ 32 → beyond_counted past ((le32 (length xs) ++ flat_map spell xs) ++ r) ≡ r
counted_past P spell test entry past s xs r h few =
    let number : number32 ((le32 (length xs) ++ flat_map spell xs) ++ r) ≡ length xs = number32_le (length xs) (flat_map spell xs ++ r) few in
    ap (λ (n : ℕ). beyond past n (flat_map spell xs ++ r)) number ∙ beyond_spelled P spell test entry past s xs r h

pub sites_section : (t : Listing) → IsListing t → is_sites_section (sites_bytes t) ≡ true
sites_section t w =
    let rest : List ℕ = le32 (length t.checks) ++ flat_map check_bytes t.checks in
    let behind : beyond_counted past_text (sites_bytes t) ≡ rest = counted_past IsShortText text_bytes has_text text_at past_text texts t.paths rest w.texts w.paths in
    let paths : number32 (sites_bytes t) ≡ length t.paths = number32_le (length t.paths) (flat_map text_bytes t.paths ++ rest) w.paths in
    let stand : have (has_site (length t.paths)) (drop 16) (length t.checks) (flat_map check_bytes t.checks ++ []) ≡ true = have_spelled (IsSiteOf (length t.paths)) check_bytes (has_site (length t.paths)) site_at (drop 16) (sites (length t.paths) w.paths) t.checks [] w.sites in
    let count : number32 rest ≡ length t.checks = number32_le (length t.checks) (flat_map check_bytes t.checks) w.checks in
    let here : are_sites (length t.paths) rest ≡ true =
    both _ _ (filled_spelled check_bytes 16 t.checks (λ _. refl) w.checks)
    (ap (λ (n : ℕ). have (has_site (length t.paths)) (drop 16) n (flat_map check_bytes t.checks)) count
    ∙ ap (λ (l : List ℕ). have (has_site (length t.paths)) (drop 16) (length t.checks) l) (sym (append-nil (flat_map check_bytes t.checks))) ∙ stand) in
    both _ _ (counted_have IsShortText text_bytes has_text text_at past_text texts t.paths rest w.texts w.paths)
    (ap (λ (n : ℕ). are_sites n (beyond_counted past_text (sites_bytes t))) paths ∙ ap (are_sites (length t.paths)) behind ∙ here)

pub calls_section : (t : Listing) → IsListing t → is_calls_section (calls_bytes t) ≡ true
calls_section t w =
    let rest : List ℕ = le32 (length t.calls) ++ flat_map le64 t.calls in
    let behind : beyond_counted past_name (calls_bytes t) ≡ rest = counted_past IsShortName name_bytes has_name name_at past_name names t.names rest w.entries w.names in
    both _ _ (counted_have IsShortName name_bytes has_name name_at past_name names t.names rest w.entries w.names)
    (ap (is_filled 8) behind ∙ filled_spelled le64 8 t.calls (λ _. refl) w.calls)

pub listing_back : (t : Listing) → IsListing t → listing (sites_bytes t) (calls_bytes t) ≡ t
unfolding listing
listing_back t w =
    let sites_rest : List ℕ = le32 (length t.checks) ++ flat_map check_bytes t.checks in
    let calls_rest : List ℕ = le32 (length t.calls) ++ flat_map le64 t.calls in
    let paths = counted_read IsShortText text_bytes has_text text_at past_text texts t.paths sites_rest w.texts w.paths in
    let behind_paths : beyond_counted past_text (sites_bytes t) ≡ sites_rest = counted_past IsShortText text_bytes has_text text_at past_text texts t.paths sites_rest w.texts w.paths in
    let checks_in : counted site_at (drop 16) sites_rest ≡ t.checks =
    ap (counted site_at (drop 16)) (sym (append-nil sites_rest))
    ∙ counted_read (IsSiteOf (length t.paths)) check_bytes (has_site (length t.paths)) site_at (drop 16) (sites (length t.paths) w.paths) t.checks [] w.sites w.checks in
    let checks = ap (counted site_at (drop 16)) behind_paths ∙ checks_in in
    let names_in = counted_read IsShortName name_bytes has_name name_at past_name names t.names calls_rest w.entries w.names in
    let behind_names : beyond_counted past_name (calls_bytes t) ≡ calls_rest = counted_past IsShortName name_bytes has_name name_at past_name names t.names calls_rest w.entries w.names in
    let calls_in : counted number64 (drop 8) calls_rest ≡ t.calls =
    ap (counted number64 (drop 8)) (sym (append-nil calls_rest))
    ∙ counted_read IsAddress le64 yes number64 (drop 8) addresses t.calls [] w.addresses w.calls in
    let calls = ap (counted number64 (drop 8)) behind_names ∙ calls_in in
    rw (paths, checks, names_in, calls)
