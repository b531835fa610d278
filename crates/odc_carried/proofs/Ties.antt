-- Memory in an activation, on both sides.
use Rattle.std.proofs.Common.{◌≡◌, ℕ, zero, suc, ◌+◌, ◌^◌, ◌<◌, ◌≤◌, ◌⊎◌, inl, inr, Bool, true, false, List, [], ◌∷◌, length, map, arith, ap, ◌∙◌, sym, subst, refl, get_or}
use Rattle.std.specs.Prelude.{◌==◌, ◌&&◌, Option, Some, None, nat_le, nat_lt, slice_get, if◌then◌else◌}
use Rattle.std.proofs.lemmas.Bool.Decides.{nat_tests}
use Rattle.rv_table.specs.Bytes.{run, written as written_at}
use Rattle.odc_program.specs.States.Bytes.{Block, global, literal, region, variable, Byte, Value, same}
use Rattle.odc_program.specs.States.Memory.{Memory, stretch, written, at_block, fits, load}
use Rattle.odc_program.specs.States.State.{local_in}
use Rattle.odc_program.specs.Trees.Program.{Local, Tables}
use Rattle.odc_core.specs.declared.tree.Variable.{Variable}
use Rattle.odc_core.specs.Memory.{Memory as Flat}
use Rattle.odc_carried.specs.Code.{highest, locals_of, variable_of}
use Rattle.odc_carried.specs.Places.{place_of, byte_at, bytes_at}
use Rattle.odc_carried.specs.Tied.{IsTied, Tied, size_of, IsLaid, HasRoom, Site, o}

abbrev pub serial_of : Block → ℕ
serial_of (variable f serial at x) = serial
serial_of _ = 0

-- The memory at a call: its blocks lie above the called frame and are older than the activation.
pub record Floor (low size serial : ℕ) (m : Memory) : Type 0 where
  pub above : (b : Block) (s : ℕ) → IsTied b → m.size b ≡ Some s → low + size ≤ place_of b
  pub older : (b : Block) (s : ℕ) → IsTied b → m.size b ≡ Some s → serial_of b < serial

-- what is known of an activation
pub record Facts (S : Site) : Type 0 where
  pub laid : IsLaid S.tables S.proc
  pub room : HasRoom S.tables S.proc S.body
  pub floor : Floor S.low S.proc.frame S.serial S.start
  pub bottom : 0x7800_0000 ≤ S.low
  pub top : S.low + S.proc.frame ≤ 2 ^ 31

abbrev pub block : Site → ℕ → Block
block S x = variable S.number S.serial (S.low + (local_in S.proc x).place) (0 + x)

-- one of the activation's variables
pub record Own (S : Site) (b : Block) (s : ℕ) : Type 0 where
  pub x : ℕ
  pub l : Local
  pub found : slice_get S.proc.locals x ≡ Some l
  pub is : b ≡ variable S.number S.serial (S.low + l.place) (0 + x)
  pub size : s ≡ size_of S.tables l

-- Blocks are those at the call and the activation's own, those at the call are there still, and none is as new as the
-- next activation.
pub record Now (S : Site) (src : Memory) (next : ℕ) (m : Flat) : Type 0 where
  pub tied : Tied S.entries src m
  pub since : (b : Block) (s : ℕ) → IsTied b → src.size b ≡ Some s → (S.start.size b ≡ Some s) ⊎ Own S b s
  pub kept : (b : Block) (s : ℕ) → IsTied b → S.start.size b ≡ Some s → src.size b ≡ Some s
  pub fresh : (b : Block) (s : ℕ) → IsTied b → src.size b ≡ Some s → serial_of b < next

-- ---- the variables of a frame
pub local_found : (ls : List Local) (x : ℕ) (l d : Local) → slice_get ls x ≡ Some l → get_or ls x d ≡ l
local_found [] x l d e = cc
local_found (k ∷ ls) zero l d e = cc
local_found (k ∷ ls) (suc x) l d e = local_found ls x l d e

pub block_found : (S : Site) (x : ℕ) (l : Local) → slice_get S.proc.locals x ≡ Some l → block S x ≡ variable S.number S.serial (S.low + l.place) (0 + x)
block_found S x l e = ap (λ (k : Local). variable S.number S.serial (S.low + k.place) (0 + x)) (local_found S.proc.locals x l (record { ty = 0; place = 0 }) e)

pub mapped_found : (tables : Tables) (ls : List Local) (x : ℕ) (l : Local) → slice_get ls x ≡ Some l → slice_get (map (variable_of tables) ls) x ≡ Some (variable_of tables l)
mapped_found tables [] x l e = cc
mapped_found tables (k ∷ ls) zero l e = let is : k ≡ l = cc in ap (λ (k : Local). Some (variable_of tables k)) is
mapped_found tables (k ∷ ls) (suc x) l e = mapped_found tables ls x l e

below_highest : (vs : List Variable) (x : ℕ) (v : Variable) → slice_get vs x ≡ Some v → v.offset + v.size + 8 ≤ highest vs
below_highest [] x v e = cc
below_highest (u ∷ vs) zero v e = let is : u ≡ v = cc in let P : Variable → Type 0 = λ k. k.offset + k.size + 8 ≤ highest (u ∷ vs) in subst P is (omega arith)
below_highest (u ∷ vs) (suc x) v e = let rest : v.offset + v.size + 8 ≤ highest vs = below_highest vs x v e in omega arith

pub below_own : (S : Site) (x : ℕ) (l : Local) → slice_get S.proc.locals x ≡ Some l → l.place + size_of S.tables l + 8 ≤ (o S).low
below_own S x l e =
    let first : l.place + size_of S.tables l + 8 ≤ highest (locals_of S.tables S.proc) = below_highest (locals_of S.tables S.proc) x (variable_of S.tables l) (mapped_found S.tables S.proc.locals x l e) in
    omega (arith, first)

-- ---- core memory that is the same where blocks lie
pub now_alike : (S : Site) (F : Facts S) (src : Memory) (next : ℕ) (m m' : Flat) → ((i : ℕ) → ((S.low ≤ i) × (i < S.low + (o S).low)) ⊎ (S.low + S.proc.frame ≤ i) → m' i ≡ m i) → Now S src next m → Now S src next m'
now_alike S F src next m m' alike t = record {
  tied = record { byte = λ b s h e i small. alike (place_of b + i) (zone b s h e i small) ∙ t.tied.byte b s h e i small; sane = t.tied.sane };
  since = t.since;
  kept = t.kept;
  fresh = t.fresh;
}
  where
    zone : (b : Block) (s : ℕ) → IsTied b → src.size b ≡ Some s → (i : ℕ) → i < s → ((S.low ≤ place_of b + i) × (place_of b + i < S.low + (o S).low)) ⊎ (S.low + S.proc.frame ≤ place_of b + i)
    zone b s h e i small = elim (t.since b s h e) [
      | inl old ↦ (let far : S.low + S.proc.frame ≤ place_of b = F.floor.above b s h old in inr (omega arith))
      | inr own ↦ (let place : place_of b ≡ S.low + own.l.place = ap place_of own.is in
          let end : own.l.place + size_of S.tables own.l + 8 ≤ (o S).low = below_own S own.x own.l own.found in
          inl (omega (arith, place), omega (arith, place, end, own.size)))
    ]

-- ---- what is read
-- bytes that are bytes on the machine
abbrev pub AreSane : (ℕ → ℕ) → Value → Type 0
AreSane entries [] = Unit {0}
AreSane entries (x ∷ v) = (byte_at entries x < 256) × AreSane entries v

stretch_sane : (entries : ℕ → ℕ) (g : ℕ → Byte) (x n : ℕ) → ((i : ℕ) → x ≤ i → i < x + n → byte_at entries (g i) < 256) → AreSane entries (stretch g x n)
stretch_sane entries g x zero h = tt
stretch_sane entries g x (suc n) h = (h x (omega arith) (omega arith), stretch_sane entries g (x + 1) n (λ i f t. h i (omega arith) (omega arith)))

stretch_tied : (entries : ℕ → ℕ) (g : ℕ → Byte) (m : Flat) (a x n : ℕ) → ((i : ℕ) → x ≤ i → i < x + n → m (a + i) ≡ Some (byte_at entries (g i))) → run m (a + x) n ≡ map (λ (k : ℕ). Some k) (bytes_at entries (stretch g x n))
stretch_tied entries g m a x zero h = refl
stretch_tied entries g m a x (suc n) h =
    let next : a + x + 1 ≡ a + (x + 1) = omega arith in
    let rest : run m (a + (x + 1)) n ≡ map (λ (k : ℕ). Some k) (bytes_at entries (stretch g (x + 1) n)) = stretch_tied entries g m a (x + 1) n (λ i f t. h i (omega arith) (omega arith)) in
    ap (λ (v : Option ℕ). v ∷ run m (a + x + 1) n) (h x (omega arith) (omega arith))
    ∙ ap (λ (k : ℕ). Some (byte_at entries (g x)) ∷ run m k n) next
    ∙ ap (λ (vs : List (Option ℕ)). Some (byte_at entries (g x)) ∷ vs) rest

-- what a load of a live block tells
pub record Loaded (entries : ℕ → ℕ) (m : Flat) (b : Block) (size : Option ℕ) (n : ℕ) (v : Value) : Type 0 where
  pub s : ℕ
  pub live : size ≡ Some s
  pub inside : n ≤ s
  pub long : length v ≡ n
  pub there : run m (place_of b) n ≡ map (λ (k : ℕ). Some k) (bytes_at entries v)
  pub sane : AreSane entries v

length_stretch : (g : ℕ → Byte) (x n : ℕ) → length (stretch g x n) ≡ n
length_stretch g x zero = refl
length_stretch g x (suc n) = ap suc (length_stretch g (x + 1) n)

pub loaded_from : (entries : ℕ → ℕ) (src : Memory) (m : Flat) (b : Block) (n : ℕ) (v : Value) → IsTied b → Tied entries src m → load src b 0 (suc n) ≡ Some v → Loaded entries m b (src.size b) (suc n) v
loaded_from entries src m b n v h t e = by (src.size b) refl e
  where
    by : (size : Option ℕ) → src.size b ≡ size → (if fits size 0 (suc n) then Some (stretch (src.byte b) 0 (suc n)) else None) ≡ Some v → Loaded entries m b size (suc n) v
    by None f g = cc
    by (Some s) f g = inside (nat_le (0 + suc n) s) refl g
      where
        inside : (q : Bool) → nat_le (0 + suc n) s ≡ q → (if q then Some (stretch (src.byte b) 0 (suc n)) else None) ≡ Some v → Loaded entries m b (Some s) (suc n) v
        inside false p q = cc
        inside true p q =
            let small : suc n ≤ s = grind (arith, nat_tests) in
            let is : stretch (src.byte b) 0 (suc n) ≡ v = cc in
            let start : place_of b ≡ place_of b + 0 = omega arith in
            record {
              s = s;
              live = refl;
              inside = small;
              long = ap length (sym is) ∙ length_stretch (src.byte b) 0 (suc n);
              sane = subst (AreSane entries) is (stretch_sane entries (src.byte b) 0 (suc n) (λ i from to. t.sane b s h f i (omega arith)));
              there = ap (λ (k : ℕ). run m k (suc n)) start ∙ stretch_tied entries (src.byte b) m (place_of b) 0 (suc n) (λ i from to. t.byte b s h f i (omega arith)) ∙ ap (λ (w : Value). map (λ (k : ℕ). Some k) (bytes_at entries w)) is;
            }

-- ---- what is written
pub same_self : (b : Block) → same b b ≡ true
same_self (global at n) = grind (arith, nat_tests)
same_self (literal at n) = grind (arith, nat_tests)
same_self (region at n) = grind (arith, nat_tests)
same_self (variable f serial at x) = grind (arith, nat_tests)

-- a test for a variable decides
pub same_tells : (f serial at x : ℕ) (a : Block) → ((same a (variable f serial at x) ≡ true) × (a ≡ variable f serial at x)) ⊎ (same a (variable f serial at x) ≡ false)
same_tells f serial at x (global at' n) = inr refl
same_tells f serial at x (literal at' n) = inr refl
same_tells f serial at x (region at' n) = inr refl
same_tells f serial at x (variable f' serial' at' x') = by (f' == f) (serial' == serial) (at' == at) (x' == x) refl refl refl refl
  where
    by : (p q r t : Bool) → (f' == f) ≡ p → (serial' == serial) ≡ q → (at' == at) ≡ r → (x' == x) ≡ t →
        (((p && q && r && t) ≡ true) × (variable f' serial' at' x' ≡ variable f serial at x)) ⊎ ((p && q && r && t) ≡ false)
    by true true true true e g h k =
        let zeroth : f' ≡ f = grind (arith, nat_tests) in
        let one : serial' ≡ serial = grind (arith, nat_tests) in
        let two : at' ≡ at = grind (arith, nat_tests) in
        let three : x' ≡ x = grind (arith, nat_tests) in
        inl (refl, cc)
    by true true true false e g h k = inr refl
    by true true false t e g h k = inr refl
    by true false r t e g h k = inr refl
    by false q r t e g h k = inr refl

pub at_self : {A : Type 0} (b : Block) (v : A) (f : Block → A) → at_block b v f b ≡ v
at_self b v f = ap (λ (t : Bool). if t then v else f b) (same_self b)

pub at_other : {A : Type 0} (b c : Block) (v : A) (f : Block → A) → same c b ≡ false → at_block b v f c ≡ f c
at_other b c v f e = ap (λ (t : Bool). if t then v else f c) e

-- a byte of what was written, on both sides
pub written_tied : (entries : ℕ → ℕ) (g : ℕ → Byte) (m : Flat) (a from : ℕ) (v : Value) (i : ℕ) → ((from + length v ≤ i) ⊎ (i < from) → m (a + i) ≡ Some (byte_at entries (g i))) →
    written_at m (a + from) (map (λ (k : ℕ). Some k) (bytes_at entries v)) (a + i) ≡ Some (byte_at entries (written g from v i))
written_tied entries g m a from [] i h = h (elim (nat_lt i from) as (λ t. nat_lt i from ≡ t → (from + 0 ≤ i) ⊎ (i < from)) [ true ↦ (λ e. inr (grind (arith, nat_tests))) | false ↦ (λ e. inl (grind (arith, nat_tests))) ] refl)
written_tied entries g m a from (x ∷ v) i h = by (i == from) refl (λ f. written_tied entries g m a (from + 1) v i (λ k. h (elim k [ inl p ↦ inl (omega arith) | inr p ↦ inr (omega (arith, less p f)) ])))
  where
    less : i < from + 1 → (i == from) ≡ false → i < from
    less p f = grind (arith, nat_tests)

    by : (t : Bool) → (i == from) ≡ t → ((i == from) ≡ false → written_at m (a + (from + 1)) (map (λ (k : ℕ). Some k) (bytes_at entries v)) (a + i) ≡ Some (byte_at entries (written g (from + 1) v i))) →
        written_at m (a + from) (map (λ (k : ℕ). Some k) (bytes_at entries (x ∷ v))) (a + i) ≡ Some (byte_at entries (if t then x else written g (from + 1) v i))
    by true e rest = let here : ((a + i) == (a + from)) ≡ true = grind (arith, nat_tests) in ap (λ (t : Bool). if t then Some (byte_at entries x) else written_at m (a + from + 1) (map (λ (k : ℕ). Some k) (bytes_at entries v)) (a + i)) here
    by false e rest =
        let away : ((a + i) == (a + from)) ≡ false = grind (arith, nat_tests) in
        let next : a + from + 1 ≡ a + (from + 1) = omega arith in
        ap (λ (t : Bool). if t then Some (byte_at entries x) else written_at m (a + from + 1) (map (λ (k : ℕ). Some k) (bytes_at entries v)) (a + i)) away
        ∙ ap (λ (k : ℕ). written_at m k (map (λ (k : ℕ). Some k) (bytes_at entries v)) (a + i)) next ∙ rest e

-- what was written is sane
pub written_sane : (entries : ℕ → ℕ) (g : ℕ → Byte) (from : ℕ) (v : Value) (i : ℕ) → AreSane entries v → ((from + length v ≤ i) ⊎ (i < from) → byte_at entries (g i) < 256) → byte_at entries (written g from v i) < 256
written_sane entries g from [] i sane h = h (elim (nat_lt i from) as (λ t. nat_lt i from ≡ t → (from + 0 ≤ i) ⊎ (i < from)) [ true ↦ (λ e. inr (grind (arith, nat_tests))) | false ↦ (λ e. inl (grind (arith, nat_tests))) ] refl)
written_sane entries g from (x ∷ v) i sane h = by (i == from) refl (λ f. written_sane entries g (from + 1) v i sane.1 (λ k. h (elim k [ inl p ↦ inl (omega arith) | inr p ↦ inr (omega (arith, less p f)) ])))
  where
    less : i < from + 1 → (i == from) ≡ false → i < from
    less p f = grind (arith, nat_tests)

    by : (t : Bool) → (i == from) ≡ t → ((i == from) ≡ false → byte_at entries (written g (from + 1) v i) < 256) → byte_at entries (if t then x else written g (from + 1) v i) < 256
    by true e rest = sane.0
    by false e rest = rest e
