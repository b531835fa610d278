-- From the answer for a file as a part of the grammar to the place of its fault.
use Rattle.std.proofs.Common.{◌≡◌, ℕ, suc, ◌+◌, ◌-◌, ◌*◌, ◌<◌, ◌≤◌, nat_lt, Bool, true, false, List, [], ◌∷◌, length, refl, sym, ap, subst, arith, ◌⊎◌, inl, inr}
use Rattle.std.proofs.lemmas.Bool.Decides.{nat_tests}
use Rattle.odc_text.specs.declared.place.Place.{Place}
use Rattle.odc_text.specs.declared.code.Code.TheVariants.{G01, L05}
use Rattle.odc_text.specs.declared.code.Fault as faults
use Rattle.odc_syntax.specs.declared.token.Token.{Token}
use Rattle.odc_syntax.specs.declared.token.TokenKind.{TokenKind}
use Rattle.odc_syntax.specs.Tree.{Decls}
use Rattle.odc_syntax.specs.Grammar.{Sym, tok, said, next, not_next, not_member}
use Rattle.odc_syntax.specs.Derives.{Reach, here, read, read_said, see, see_not, see_no_member, write, Derives}
use Rattle.odc_lookahead.specs.Refused.{NoneRefused}
use Rattle.odc_lookahead.specs.Exact.{size, one, ComesAt, Found, Broken, TooDeep}
use Rattle.odc_lookahead.specs.Law.{BeginsWith, place_of}
use Rattle.odc_lookahead.proofs.faults.LawLemmas.{end_clear, from_end, at_most}
use Rattle.odc_parse.specs.File.{file_of, Begun, front, whole, IsFirstBad, IsFile, IsNoFile}
use Rattle.odc_parse.specs.File as file

-- on the way one comes through each place
pub record Through (s : List Sym) (ts : List Token) (k : ℕ) : Type 0 where
  pub pending : List Sym
  pub rest : List Token
  pub rest_is : length rest ≡ k
  pub reach : Reach pending rest s ts

less_or_same : (k n : ℕ) → k ≤ suc n → (k ≤ n) ⊎ (k ≡ suc n)
less_or_same k n h = elim (nat_lt k (suc n)) as (λ b. nat_lt k (suc n) ≡ b → (k ≤ n) ⊎ (k ≡ suc n)) [ true ↦ λ e. inl (grind (arith, nat_tests)) | false ↦ λ e. inr (grind (arith, nat_tests)) ] refl

stays : (s : List Sym) (ts : List Token) (k : ℕ) → k ≡ length ts → Through s ts k
stays s ts k e = record { pending = s; rest = ts; rest_is = sym e; reach = here }

goes_on : {s s' : List Sym} {ts : List Token} {t : Token} (k : ℕ) → ((q : List Sym) (r : List Token) → Reach q r s ts → Reach q r s' (t ∷ ts)) → (k ≤ length ts → Through s ts k) → (k ≤ length ts) ⊎ (k ≡ suc (length ts)) → Through s' (t ∷ ts) k
goes_on {s} {s'} {ts} {t} k f g (inl h) = let z = g h in record { pending = z.pending; rest = z.rest; rest_is = z.rest_is; reach = f z.pending z.rest z.reach }
goes_on {s} {s'} {ts} {t} k f g (inr e) = stays s' (t ∷ ts) k e

same_place : {s s' : List Sym} {ts : List Token} (k : ℕ) → ((q : List Sym) (r : List Token) → Reach q r s ts → Reach q r s' ts) → Through s ts k → Through s' ts k
same_place k f z = record { pending = z.pending; rest = z.rest; rest_is = z.rest_is; reach = f z.pending z.rest z.reach }

pub through : {s' : List Sym} {ts' : List Token} {s : List Sym} {ts : List Token} → Reach s' ts' s ts → (k : ℕ) → length ts' ≤ k → k ≤ length ts → Through s ts k
through {s'} {ts'} here k low high = stays s' ts' k (omega (arith, low, high))
through (read {ts = ts} e r) k low high = goes_on k (λ q l z. read e z) (λ h. through r k low h) (less_or_same k (length ts) high)
through (read_said {ts = ts} e f r) k low high = goes_on k (λ q l z. read_said e f z) (λ h. through r k low h) (less_or_same k (length ts) high)
through (see e r) k low high = same_place k (λ q l z. see e z) (through r k low high)
through (see_not e r) k low high = same_place k (λ q l z. see_not e z) (through r k low high)
through (see_no_member e r) k low high = same_place k (λ q l z. see_no_member e z) (through r k low high)
through (write p w r) k low high = same_place k (λ q l z. write p w z) (through r k low high)

-- what begins so long begins shorter, too
pub shorter_begun : (b : ℕ) (ts : List Token) (n m : ℕ) → m ≤ n → BeginsWith file_of b ts n → BeginsWith file_of b ts m
shorter_begun b ts n m le q =
    let all = q.all in
    let is = q.begins.rest_is in
    let z = through q.begins.reach (length ts - m) (omega (arith, all, is, le)) (omega arith) in
    record { left = length ts - m; all = omega (arith, all, le); begins = record { value = q.begins.value; pending = z.pending; rest = z.rest; rest_is = z.rest_is; reach = z.reach } }

-- it begins so within a bound where it comes to the place
module _ (cont : TokenKind → Bool) (ts : List Token) where
  begun_up_to : (at left : ℕ) → length ts ≡ at + left → ComesAt (one file_of) 200 ts left → (n : ℕ) → n ≤ at → Begun 200 ts n
  begun_up_to at left all a n le =
      let z = a.before [] in
      front (shorter_begun 200 ts at n le (record { left = left; all = all; begins = record { value = a.value; pending = z.pending; rest = z.rest; rest_is = z.rest_is; reach = z.reach } }))

  size_near : (b at left : ℕ) → length ts ≡ at + left → (q : BeginsWith file_of b ts (at + 1)) → size q.begins.pending q.begins.rest ≤ 2 * left
  size_near b at left all q =
      let e = q.all in
      let f = q.begins.rest_is in
      let k = at_most q.begins.pending q.begins.rest in
      omega (arith, all, e, f, k)

  -- the file is broken off
  broken_none : (at left b : ℕ) → length ts ≡ at + left → Broken (one file_of) cont 200 ts left → Begun b ts (at + 1) → ⊥
  broken_none at left b all broken (front q) = broken.none b q.begins.value [] q.begins.pending q.begins.rest (end_clear cont) q.begins.reach (size_near b at left all q)
  broken_none at left b all broken (whole v d e) = broken.none b v [] [] [] (end_clear cont) d (omega (arith, all, e))

  pub broken_place : (at left : ℕ) → length ts ≡ at + left → Broken (one file_of) cont 200 ts left → IsFirstBad ts at
  broken_place at left all broken = record {
    within = omega (arith, all);
    before = begun_up_to at left all (broken.comes.at 200 (omega arith));
    bad = broken_none at left 200 all broken;
  }

  pub broken_fault : (at left : ℕ) (end : Place) (fault : faults.Fault) → length ts ≡ at + left → Broken (one file_of) cont 200 ts left → NoneRefused ts 0 (length ts) →
      fault ≡ record { code = G01; at = place_of ts end at } → IsNoFile ts end fault
  broken_fault at left end fault all broken clean is = file.syntax at clean (broken_place at left all broken) (λ b. broken_none at left b all broken) is

  -- it is too deep
  deep_none : (at left : ℕ) → length ts ≡ at + suc left → TooDeep (one file_of) cont 200 ts left → Begun 200 ts (at + 1) → ⊥
  deep_none at left all deep (front q) =
      let e = q.all in
      let f = q.begins.rest_is in
      let k = at_most q.begins.pending q.begins.rest in
      let d = deep.deep 200 q.begins.value [] q.begins.pending q.begins.rest (end_clear cont) q.begins.reach (omega (arith, all, e, f, k)) in
      omega (arith, d)
  deep_none at left all deep (whole v d e) = omega (arith, all, e)

  pub deep_fault : (at left : ℕ) (end : Place) (fault : faults.Fault) → length ts ≡ at + suc left → TooDeep (one file_of) cont 200 ts left → NoneRefused ts 0 (length ts) →
      fault ≡ record { code = L05; at = place_of ts end at } → IsNoFile ts end fault
  deep_fault at left end fault all deep clean is =
      let a = deep.deeper.at deep.depth (omega arith) in
      let z = a.before [] in
      file.deep at clean (record {
        within = omega (arith, all);
        before = begun_up_to at (suc left) all (deep.comes.at 200 (omega arith));
        bad = deep_none at left all deep;
      }) deep.depth
      (front (record { left = left; all = omega (arith, all); begins = record { value = a.value; pending = z.pending; rest = z.rest; rest_is = z.rest_is; reach = z.reach } }))
      is

  -- it ends before the tokens do
  found_none : (at : ℕ) (v : Token × Decls) (d : ℕ) (t : Token) (us : List Token) (b : ℕ) → length ts ≡ at + suc (length us) → Found (one file_of) cont 200 ts v d (t ∷ us) → Begun b ts (at + 1) → ⊥
  found_none at v d t us b all found (front q) =
      let z = found.only b q.begins.value [] q.begins.pending q.begins.rest (end_clear cont) q.begins.reach (size_near b at (suc (length us)) all q) in
      let e : length q.begins.rest ≡ suc (length us) = ap length (from_end z.reach) in
      let f = q.begins.rest_is in
      let k = q.all in
      omega (arith, e, f, k, all)
  found_none at v d t us b all found (whole w q e) = omega (arith, all, e)

  pub left_over_fault : (at : ℕ) (v : Token × Decls) (d : ℕ) (t : Token) (us : List Token) (end : Place) (fault : faults.Fault) → length ts ≡ at + suc (length us) → Found (one file_of) cont 200 ts v d (t ∷ us) → NoneRefused ts 0 (length ts) →
      fault ≡ record { code = G01; at = place_of ts end at } → IsNoFile ts end fault
  left_over_fault at v d t us end fault all found clean is =
      file.syntax at clean (record {
        within = omega (arith, all);
        before = begun_up_to at (suc (length us)) all (found.comes.at 200 (omega arith));
        bad = found_none at v d t us 200 all found;
      }) (λ b. found_none at v d t us b all found) is

  -- it is all
  pub whole_file : (v : Token × Decls) (d : ℕ) → Found (one file_of) cont 200 ts v d [] → d ≤ 200 → NoneRefused ts 0 (length ts) → IsFile ts v.0 v.1
  whole_file v d found low clean = record {
    clean = clean;
    tree = found.reads 200 low [];
    only = λ b w q. (found.only b w [] [] [] (end_clear cont) q (omega arith)).value;
  }
