-- What may be touched lies in one of four ranges, which don't touch each other; so bytes in a row that
-- may all be touched lie in one.
use Rattle.std.proofs.Common.{◌≡◌, ℕ, zero, suc, ◌+◌, ◌^◌, ◌<◌, ◌≤◌, Bool, true, false, inl, inr, List, [], ◌∷◌, arith, ap, ◌∙◌, refl}
use Rattle.std.specs.Prelude.{◌&&◌, ◌||◌, Option, Some, None, if◌then◌else◌}
use Rattle.std.proofs.lemmas.Bool.Decides.{nat_tests}
use Rattle.rv_table.specs.Areas.{has}
use Rattle.rv_table.specs.Bytes.{run}
use Rattle.rv_table.specs.declared.effect.Access.TheVariants.{Read, Write}
use Rattle.rv_table.proofs.Areas.{or_parts}
use Rattle.odc_core.specs.Memory.{Memory, lies, all_in, bytes_at, before, loaded}
use Rattle.odc_core.specs.Frames.{store_low, heap_low, heap_size, temp_low, temp_size, touched_always}
use Rattle.rv_emit.proofs.Flat.{layout}

pub data Region : Type 0 where
  store : Region
  heap : Region
  temp : Region
  stack : Region

abbrev pub low_of : Region → ℕ
low_of store = 0x5000_0000
low_of heap = 0x6000_0000
low_of temp = 0x6800_0000
low_of stack = 0x7800_0000

abbrev pub high_of : ℕ → Region → ℕ
high_of size store = 0x5000_0000 + size
high_of size heap = 0x6100_0000
high_of size temp = 0x6810_0000
high_of size stack = 2 ^ 31

pub record IsIn (size : ℕ) (r : Region) (x : ℕ) : Type 0 where
  pub low : low_of r ≤ x
  pub high : x < high_of size r

pub record InRegion (size x : ℕ) : Type 0 where
  pub region : Region
  pub is : IsIn size region x

pub lies_between : (a n x : ℕ) → lies a n x ≡ true → (a ≤ x) × (x < a + n)
lies_between a n x h = (grind (arith, nat_tests), grind (arith, nat_tests))

pub always_in : (size x : ℕ) → touched_always size x ≡ true → InRegion size x
always_in size x h = elim (or_parts (lies store_low size x) (lies heap_low heap_size x || lies temp_low temp_size x) h) [
  | inl l ↦ (let p = lies_between store_low size x l in record { region = store; is = record { low = p.0; high = p.1 } })
  | inr l ↦ rest l.1
]
  where
    rest : (lies heap_low heap_size x || lies temp_low temp_size x) ≡ true → InRegion size x
    rest k = elim (or_parts (lies heap_low heap_size x) (lies temp_low temp_size x) k) [
      | inl l ↦ (let p = lies_between heap_low heap_size x l in record { region = heap; is = record { low = p.0; high = omega (arith, p.1) } })
      | inr l ↦ (let p = lies_between temp_low temp_size x l.1 in record { region = temp; is = record { low = p.0; high = omega (arith, p.1) } })
    ]

-- the next address is in the same range
next_in : (size : ℕ) (r q : Region) (x : ℕ) → size ≤ 0x0fff_0000 → IsIn size r x → IsIn size q (x + 1) → IsIn size r (x + 1)
next_in size r q x small h k = let p = by r q h.low h.high k.low k.high in record { low = p.0; high = p.1 }
  where
    by : (r q : Region) → low_of r ≤ x → x < high_of size r → low_of q ≤ x + 1 → x + 1 < high_of size q → (low_of r ≤ x + 1) × (x + 1 < high_of size r)
    by store store low high low' high' = (omega (arith, small), omega (arith, small))
    by store heap low high low' high' = absurd (omega (arith, small))
    by store temp low high low' high' = absurd (omega (arith, small))
    by store stack low high low' high' = absurd (omega (arith, small))
    by heap store low high low' high' = absurd (omega (arith, small))
    by heap heap low high low' high' = (omega (arith, small), omega (arith, small))
    by heap temp low high low' high' = absurd (omega (arith, small))
    by heap stack low high low' high' = absurd (omega (arith, small))
    by temp store low high low' high' = absurd (omega (arith, small))
    by temp heap low high low' high' = absurd (omega (arith, small))
    by temp temp low high low' high' = (omega (arith, small), omega (arith, small))
    by temp stack low high low' high' = absurd (omega (arith, small))
    by stack store low high low' high' = absurd (omega (arith, small))
    by stack heap low high low' high' = absurd (omega (arith, small))
    by stack temp low high low' high' = absurd (omega (arith, small))
    by stack stack low high low' high' = (omega (arith, small), omega (arith, small))

and_first : (a b : Bool) → a && b ≡ true → a ≡ true
and_first true b h = refl
and_first false b h = cc

and_second : (a b : Bool) → a && b ≡ true → b ≡ true
and_second true b h = h
and_second false b h = cc

row_in : (size : ℕ) (touched : ℕ → Bool) (r : Region) (a n : ℕ) → size ≤ 0x0fff_0000 → ((x : ℕ) → touched x ≡ true → InRegion size x) → IsIn size r a → all_in touched (a + 1) n ≡ true →
    a + suc n ≤ high_of size r
row_in size touched r a zero small inside h all = omega (arith, h.high)
row_in size touched r a (suc n) small inside h all =
    let there : InRegion size (a + 1) = inside (a + 1) (and_first (touched (a + 1)) (all_in touched (a + 1 + 1) n) all) in
    let rest : a + 1 + suc n ≤ high_of size r =
    row_in size touched r (a + 1) n small inside (next_in size r there.region a small h there.is) (and_second (touched (a + 1)) (all_in touched (a + 1 + 1) n) all) in
    omega (arith, rest)

pub record Row (size a n : ℕ) : Type 0 where
  pub region : Region
  pub low : low_of region ≤ a
  pub high : a + n ≤ high_of size region

pub row_of : (size : ℕ) (touched : ℕ → Bool) (a n : ℕ) → size ≤ 0x0fff_0000 → ((x : ℕ) → touched x ≡ true → InRegion size x) → all_in touched a n ≡ true → 0 < n → Row size a n
row_of size touched a zero small inside all some = absurd (omega arith)
row_of size touched a (suc n) small inside all some =
    let there : InRegion size a = inside a (and_first (touched a) (all_in touched (a + 1) n) all) in
    record { region = there.region; low = there.is.low; high = row_in size touched there.region a n small inside there.is (and_second (touched a) (all_in touched (a + 1) n) all) }

has_row : (text size a n : ℕ) (r : Region) → low_of r ≤ a → a + n ≤ high_of size r → (has Read a n (layout text size) ≡ true) × (has Write a n (layout text size) ≡ true)
has_row text size a n store low high = (grind (arith, nat_tests), grind (arith, nat_tests))
has_row text size a n heap low high = (grind (arith, nat_tests), grind (arith, nat_tests))
has_row text size a n temp low high = (grind (arith, nat_tests), grind (arith, nat_tests))
has_row text size a n stack low high = (grind (arith, nat_tests), grind (arith, nat_tests))

pub row_has_read : (text size a n : ℕ) → Row size a n → has Read a n (layout text size) ≡ true
row_has_read text size a n r = (has_row text size a n r.region r.low r.high).0

pub row_has_write : (text size a n : ℕ) → Row size a n → has Write a n (layout text size) ≡ true
row_has_write text size a n r = (has_row text size a n r.region r.low r.high).1

high_small : (size : ℕ) (r : Region) → size ≤ 0x0fff_0000 → high_of size r ≤ 2 ^ 31
high_small size store h = omega arith
high_small size heap h = omega arith
high_small size temp h = omega arith
high_small size stack h = omega arith

pub row_small : (size a n : ℕ) → size ≤ 0x0fff_0000 → Row size a n → a + n ≤ 2 ^ 31
row_small size a n h r = let top : high_of size r.region ≤ 2 ^ 31 = high_small size r.region h in omega (arith, r.high)

-- ---- the bytes that are read

pub record Loaded (touched : ℕ → Bool) (memory : Memory) (a n : ℕ) (bytes : List ℕ) : Type 0 where
  pub all : all_in touched a n ≡ true
  pub are : bytes_at memory a n ≡ Some bytes

pub loaded_parts : (touched : ℕ → Bool) (memory : Memory) (a n : ℕ) (bytes : List ℕ) → loaded touched memory a n ≡ Some bytes → Loaded touched memory a n bytes
loaded_parts touched memory a n bytes h = by (all_in touched a n) refl h
  where
    by : (t : Bool) → all_in touched a n ≡ t → (if t then bytes_at memory a n else None) ≡ Some bytes → Loaded touched memory a n bytes
    by true e k = record { all = e; are = k }
    by false e k = cc

before_parts : (o : Option ℕ) (p : Option (List ℕ)) (bytes : List ℕ) → before o p ≡ Some bytes → (b : ℕ) × ((bs : List ℕ) × ((o ≡ Some b) × ((p ≡ Some bs) × (b ∷ bs ≡ bytes))))
before_parts (Some b) (Some bs) bytes h = (b, (bs, (refl, (refl, cc))))
before_parts (Some b) None bytes h = cc
before_parts None p bytes h = cc

-- where memory shows flat memory, the bytes are those of flat memory
pub bytes_run : (touched : ℕ → Bool) (memory : Memory) (f : ℕ → ℕ) (a n : ℕ) (bytes : List ℕ) → ((x v : ℕ) → touched x ≡ true → memory x ≡ Some v → f x ≡ v) → Loaded touched memory a n bytes →
    run f a n ≡ bytes
bytes_run touched memory f a zero bytes shows l = let h : ◌≡◌ {A = Option (List ℕ)} (Some []) (Some bytes) = l.are in cc
bytes_run touched memory f a (suc n) bytes shows l =
    let p = before_parts (memory a) (bytes_at memory (a + 1) n) bytes l.are in
    let here : f a ≡ p.0 = shows a p.0 (and_first (touched a) (all_in touched (a + 1) n) l.all) p.1.1.0 in
    let rest : run f (a + 1) n ≡ p.1.0 = bytes_run touched memory f (a + 1) n p.1.0 shows (record { all = and_second (touched a) (all_in touched (a + 1) n) l.all; are = p.1.1.1.0 }) in
    ap (λ (x : ℕ). x ∷ run f (a + 1) n) here ∙ ap (λ (xs : List ℕ). p.0 ∷ xs) rest ∙ p.1.1.1.1
