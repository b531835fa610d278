-- Variables that begin or get another value, and activations that begin and end.
use Rattle.std.proofs.Common.{◌≡◌, ℕ, ◌+◌, ◌<◌, ◌≤◌, ◌⊎◌, inl, inr, Bool, true, false, length, map, arith, ap, ◌∙◌, sym, subst, refl}
use Rattle.std.specs.Prelude.{Option, Some, None, nat_lt, slice_get, if◌then◌else◌}
use Rattle.std.proofs.lemmas.Bool.Decides.{nat_tests}
use Rattle.std.proofs.lemmas.List.{length-map}
use Rattle.rv_table.specs.Bytes.{written as written_at}
use Rattle.rv_table.proofs.Bytes.{written_out}
use Rattle.odc_program.specs.States.Bytes.{Block, global, literal, region, variable, Byte, Value, same}
use Rattle.odc_program.specs.States.Memory.{Memory, written, at_block, put, open_block, is_of, close}
use Rattle.odc_program.specs.Trees.Program.{Local}
use Rattle.odc_core.specs.Memory.{Memory as Flat}
use Rattle.odc_core.specs.Memory.{put as flat_put}
use Rattle.odc_carried.specs.Places.{place_of, byte_at, bytes_at}
use Rattle.odc_carried.specs.Tied.{IsTied, Tied, size_of, Site}
use Rattle.odc_carried.proofs.Ties.{serial_of, Floor, Facts, Own, Now, same_self, same_tells, at_self, at_other, written_tied, AreSane, written_sane}

-- a variable as a block
abbrev pub name : Site → ℕ → Local → Block
name S x l = variable S.number S.serial (S.low + l.place) (0 + x)

some_same : (a b : ℕ) → (let o : Option ℕ = Some a in o) ≡ Some b → a ≡ b
some_same a b e = cc

local_same : (l k : Local) → (let o : Option Local = Some l in o) ≡ Some k → l ≡ k
local_same l k e = cc

-- another block lies apart from a variable
apart_from : (S : Site) (F : Facts S) (src : Memory) (next : ℕ) (m : Flat) (x : ℕ) (l : Local) → slice_get S.proc.locals x ≡ Some l → Now S src next m →
    (c : Block) (s : ℕ) → IsTied c → src.size c ≡ Some s → same c (name S x l) ≡ false → (place_of c + s + 8 ≤ S.low + l.place) ⊎ (S.low + l.place + size_of S.tables l + 8 ≤ place_of c)
apart_from S F src next m x l found t c s h e other = elim (t.since c s h e) [
  | inl old ↦ (let far : S.low + S.proc.frame ≤ place_of c = F.floor.above c s h old in let end : l.place + size_of S.tables l + 8 ≤ S.proc.frame = F.laid.high x l found in inr (omega arith))
  | inr own ↦ by own (nat_lt own.x x) (nat_lt x own.x) refl refl
]
  where
    by : (own : Own S c s) → (p q : Bool) → nat_lt own.x x ≡ p → nat_lt x own.x ≡ q → (place_of c + s + 8 ≤ S.low + l.place) ⊎ (S.low + l.place + size_of S.tables l + 8 ≤ place_of c)
    by own true q f g =
        let less : own.x < x = grind (arith, nat_tests) in
        let place : place_of c ≡ S.low + own.l.place = ap place_of own.is in
        elim (F.laid.apart own.x x own.l l less own.found found) [ inl a ↦ inl (omega (arith, a, place, own.size)) | inr a ↦ inr (omega (arith, a, place)) ]
    by own false true f g =
        let less : x < own.x = grind (arith, nat_tests) in
        let place : place_of c ≡ S.low + own.l.place = ap place_of own.is in
        elim (F.laid.apart x own.x l own.l less found own.found) [ inl a ↦ inr (omega (arith, a, place)) | inr a ↦ inl (omega (arith, a, place, own.size)) ]
    by own false false f g =
        let equal : own.x ≡ x = grind (arith, nat_tests) in
        let found' : slice_get S.proc.locals x ≡ Some own.l = ap (slice_get S.proc.locals) (sym equal) ∙ own.found in
        let is_l : own.l ≡ l = local_same own.l l (sym found' ∙ found) in
        let is : c ≡ name S x l = own.is ∙ ap (λ (k : Local). variable S.number S.serial (S.low + k.place) (0 + own.x)) is_l ∙ ap (λ (k : ℕ). variable S.number S.serial (S.low + l.place) (0 + k)) equal in
        let twice : same c (name S x l) ≡ true = ap (λ (b : Block). same b (name S x l)) is ∙ same_self (name S x l) in
        let wrong : true ≡ false = sym twice ∙ other in
        cc

module _ (S : Site) (F : Facts S) (src : Memory) (next : ℕ) (m : Flat) (x : ℕ) (l : Local) (found : slice_get S.proc.locals x ≡ Some l) (v : Value) (proper : AreSane S.entries v) (t : Now S src next m) where
  abbrev b : Block
  b = name S x l

  abbrev laid : Flat
  laid = flat_put m (S.low + l.place) (bytes_at S.entries v)

  long : length (map (λ (k : ℕ). Some k) (bytes_at S.entries v)) ≡ length v
  long = simp length-map

  -- the bytes of the variable itself
  own_bytes : (i : ℕ) → ((0 + length v ≤ i) ⊎ (i < 0) → m (place_of b + i) ≡ Some (byte_at S.entries (src.byte b i))) →
      laid (place_of b + i) ≡ Some (byte_at S.entries (at_block b (written (src.byte b) 0 v) src.byte b i))
  own_bytes i h =
      let start : S.low + l.place ≡ S.low + l.place + 0 = omega arith in
      ap (λ (a : ℕ). written_at m a (map (λ (k : ℕ). Some k) (bytes_at S.entries v)) (S.low + l.place + i)) start
      ∙ written_tied S.entries (src.byte b) m (S.low + l.place) 0 v i h
      ∙ ap (λ (f : ℕ → Byte). Some (byte_at S.entries (f i))) (sym (at_self b (written (src.byte b) 0 v) src.byte))

  own_sane : (i : ℕ) → ((0 + length v ≤ i) ⊎ (i < 0) → byte_at S.entries (src.byte b i) < 256) → byte_at S.entries (at_block b (written (src.byte b) 0 v) src.byte b i) < 256
  own_sane i h =
      let P : (ℕ → Byte) → Type 0 = λ f. byte_at S.entries (f i) < 256 in
      subst P (sym (at_self b (written (src.byte b) 0 v) src.byte)) (written_sane S.entries (src.byte b) 0 v i proper h)

  other_sane : (c : Block) (s : ℕ) → IsTied c → src.size c ≡ Some s → same c b ≡ false → (i : ℕ) → i < s → byte_at S.entries (at_block b (written (src.byte b) 0 v) src.byte c i) < 256
  other_sane c s h e other i small =
      let P : (ℕ → Byte) → Type 0 = λ f. byte_at S.entries (f i) < 256 in
      subst P (sym (at_other b c (written (src.byte b) 0 v) src.byte other)) (t.tied.sane c s h e i small)

  -- those of another block
  other_bytes : length v ≤ size_of S.tables l → (c : Block) (s : ℕ) → IsTied c → src.size c ≡ Some s → same c b ≡ false → (i : ℕ) → i < s → laid (place_of c + i) ≡ Some (byte_at S.entries (at_block b (written (src.byte b) 0 v) src.byte c i))
  other_bytes few c s h e other i small =
      let away : (place_of c + i < S.low + l.place) ⊎ (S.low + l.place + length (map (λ (k : ℕ). Some k) (bytes_at S.entries v)) ≤ place_of c + i) =
      elim (apart_from S F src next m x l found t c s h e other) [ inl a ↦ inl (omega (arith, a)) | inr a ↦ inr (omega (arith, a, long)) ] in
      written_out m (S.low + l.place) (map (λ (k : ℕ). Some k) (bytes_at S.entries v)) (place_of c + i) away
      ∙ t.tied.byte c s h e i small
      ∙ ap (λ (f : ℕ → Byte). Some (byte_at S.entries (f i))) (sym (at_other b c (written (src.byte b) 0 v) src.byte other))

  -- a live variable gets a value
  pub now_put : (s : ℕ) → src.size (name S x l) ≡ Some s → length v ≤ s → s ≤ size_of S.tables l → Now S (put src (name S x l) 0 v) next (flat_put m (S.low + l.place) (bytes_at S.entries v))
  now_put s live few fit = record {
    tied = record {
      byte = λ c q h e i small. elim (same_tells S.number S.serial (S.low + l.place) (0 + x) c) [
        | inl is ↦ (let P : Block → Type 0 = λ y. (q' : ℕ) → src.size y ≡ Some q' → i < q' → laid (place_of y + i) ≡ Some (byte_at S.entries (at_block b (written (src.byte b) 0 v) src.byte y i)) in
            subst P (sym is.1) (λ q' e' small'. own_bytes i (λ k. t.tied.byte b q' tt e' i small')) q e small)
        | inr other ↦ other_bytes (omega arith) c q h e other i small
      ];
      sane = λ c q h e i small. elim (same_tells S.number S.serial (S.low + l.place) (0 + x) c) [
        | inl is ↦ (let P : Block → Type 0 = λ y. (q' : ℕ) → src.size y ≡ Some q' → i < q' → byte_at S.entries (at_block b (written (src.byte b) 0 v) src.byte y i) < 256 in
            subst P (sym is.1) (λ q' e' small'. own_sane i (λ k. t.tied.sane b q' tt e' i small')) q e small)
        | inr other ↦ other_sane c q h e other i small
      ];
    };
    since = t.since;
    kept = t.kept;
    fresh = t.fresh;
  }

  -- a variable begins with a value
  pub now_open : length v ≡ size_of S.tables l → S.serial < next → Now S (open_block src (name S x l) v) next (flat_put m (S.low + l.place) (bytes_at S.entries v))
  now_open fit newer = record {
    tied = record {
      byte = λ c q h e i small. elim (same_tells S.number S.serial (S.low + l.place) (0 + x) c) [
        | inl is ↦ (let P : Block → Type 0 = λ y. (open_block src b v).size y ≡ Some q → laid (place_of y + i) ≡ Some (byte_at S.entries (at_block b (written (src.byte b) 0 v) src.byte y i)) in
            subst P (sym is.1) (λ e'. let all : length v ≡ q = some_same (length v) q (sym (at_self b (Some (length v)) src.size) ∙ e') in
            own_bytes i (λ k. absurd (elim k [ inl p ↦ omega arith | inr p ↦ omega arith ]))) e)
        | inr other ↦ other_bytes (omega arith) c q h (sym (at_other b c (Some (length v)) src.size other) ∙ e) other i small
      ];
      sane = λ c q h e i small. elim (same_tells S.number S.serial (S.low + l.place) (0 + x) c) [
        | inl is ↦ (let P : Block → Type 0 = λ y. (open_block src b v).size y ≡ Some q → byte_at S.entries (at_block b (written (src.byte b) 0 v) src.byte y i) < 256 in
            subst P (sym is.1) (λ e'. let all : length v ≡ q = some_same (length v) q (sym (at_self b (Some (length v)) src.size) ∙ e') in
            own_sane i (λ k. absurd (elim k [ inl p ↦ omega arith | inr p ↦ omega arith ]))) e)
        | inr other ↦ other_sane c q h (sym (at_other b c (Some (length v)) src.size other) ∙ e) other i small
      ];
    };
    since = λ c q h e. elim (same_tells S.number S.serial (S.low + l.place) (0 + x) c) [
      | inl is ↦ (let live : (open_block src b v).size b ≡ Some q = ap (open_block src b v).size (sym is.1) ∙ e in
          let all : length v ≡ q = some_same (length v) q (sym (at_self b (Some (length v)) src.size) ∙ live) in
          inr (record { x = x; l = l; found = found; is = is.1; size = sym all ∙ fit }))
      | inr other ↦ t.since c q h (sym (at_other b c (Some (length v)) src.size other) ∙ e)
    ];
    kept = λ c q h e. elim (same_tells S.number S.serial (S.low + l.place) (0 + x) c) [
      | inl is ↦ (let older : serial_of c < S.serial = F.floor.older c q h e in let same_serial : serial_of c ≡ S.serial = ap serial_of is.1 in absurd (omega arith))
      | inr other ↦ at_other b c (Some (length v)) src.size other ∙ t.kept c q h e
    ];
    fresh = λ c q h e. elim (same_tells S.number S.serial (S.low + l.place) (0 + x) c) [
      | inl is ↦ (let same_serial : serial_of c ≡ S.serial = ap serial_of is.1 in omega arith)
      | inr other ↦ t.fresh c q h (sym (at_other b c (Some (length v)) src.size other) ∙ e)
    ];
  }

-- ---- calls
is_of_self : (serial : ℕ) (b : Block) → IsTied b → serial_of b ≡ serial → is_of serial b ≡ true
is_of_self serial (variable f serial' at x) h e = grind (arith, nat_tests)
is_of_self serial (global at n) h e = absurd h
is_of_self serial (literal at n) h e = absurd h
is_of_self serial (region at n) h e = absurd h

is_of_other : (serial : ℕ) (b : Block) → serial_of b < serial → is_of serial b ≡ false
is_of_other serial (variable f serial' at x) e = grind (arith, nat_tests)
is_of_other serial (global at n) e = refl
is_of_other serial (literal at n) e = refl
is_of_other serial (region at n) e = refl

-- what is live once the blocks of an activation have ended
closed_live : (src : Memory) (serial : ℕ) (b : Block) (s : ℕ) → (close src serial).size b ≡ Some s → (src.size b ≡ Some s) × (is_of serial b ≡ false)
closed_live src serial b s e = by (is_of serial b) refl e
  where
    by : (t : Bool) → is_of serial b ≡ t → (if t then None else src.size b) ≡ Some s → (src.size b ≡ Some s) × (is_of serial b ≡ false)
    by true f g = cc
    by false f g = (g, f)

closed_still : (src : Memory) (serial : ℕ) (b : Block) (s : ℕ) → src.size b ≡ Some s → is_of serial b ≡ false → (close src serial).size b ≡ Some s
closed_still src serial b s e f = ap (λ (t : Bool). if t then None else src.size b) f ∙ e

-- the memory at a call lies above the called frame
pub floor_below : (S : Site) (F : Facts S) (low size serial : ℕ) (src : Memory) (m : Flat) → low + size ≡ S.low → Now S src serial m → Floor low size serial src
floor_below S F low size serial src m next t = record {
  above = λ b s h e. elim (t.since b s h e) [
    | inl old ↦ (let far : S.low + S.proc.frame ≤ place_of b = F.floor.above b s h old in omega arith)
    | inr own ↦ (let place : place_of b ≡ S.low + own.l.place = ap place_of own.is in omega arith)
  ];
  older = t.fresh;
}

-- nothing of the activation has begun
pub now_start : (S S' : Site) (src : Memory) (m : Flat) → S'.start ≡ src → S'.entries ≡ S.entries → Now S src S'.serial m → Now S' src (S'.serial + 1) m
now_start S S' src m is same_entries t = record {
  tied = let P : (ℕ → ℕ) → Type 0 = λ f. Tied f src m in subst P (sym same_entries) t.tied;
  since = λ b s h e. inl (ap (λ (q : Memory). q.size b) is ∙ e);
  kept = λ b s h e. ap (λ (q : Memory). q.size b) (sym is) ∙ e;
  fresh = λ b s h e. let old : serial_of b < S'.serial = t.fresh b s h e in omega arith;
}

-- the called activation has ended
pub now_back : (S S' : Site) (F' : Facts S') (src src' : Memory) (next : ℕ) (m m' : Flat) → S'.start ≡ src → S'.entries ≡ S.entries → S'.serial < next → Now S src S'.serial m → Now S' src' next m' → Now S (close src' S'.serial) next m'
now_back S S' F' src src' next m m' is same_entries newer t t' = record {
  tied = record { byte = λ b s h e i small. let P : (ℕ → ℕ) → Type 0 = λ f. m' (place_of b + i) ≡ Some (byte_at f (src'.byte b i)) in subst P same_entries (t'.tied.byte b s h (closed_live src' S'.serial b s e).0 i small); sane = λ b s h e i small. let P : (ℕ → ℕ) → Type 0 = λ f. byte_at f (src'.byte b i) < 256 in subst P same_entries (t'.tied.sane b s h (closed_live src' S'.serial b s e).0 i small) };
  since = λ b s h e.
      let live = closed_live src' S'.serial b s e in
      elim (t'.since b s h live.0) [
        | inl old ↦ t.since b s h (ap (λ (q : Memory). q.size b) (sym is) ∙ old)
        | inr own ↦ (let twice : is_of S'.serial b ≡ true = is_of_self S'.serial b h (ap serial_of own.is) in let wrong : true ≡ false = sym twice ∙ live.1 in absurd (cc))
      ];
  kept = λ b s h e.
      let there : src.size b ≡ Some s = t.kept b s h e in
      let first : S'.start.size b ≡ Some s = ap (λ (q : Memory). q.size b) is ∙ there in
      closed_still src' S'.serial b s (t'.kept b s h first) (is_of_other S'.serial b (F'.floor.older b s h first));
  fresh = λ b s h e. t'.fresh b s h (closed_live src' S'.serial b s e).0;
}

-- a block of the caller is live still
pub still_live : (S S' : Site) (F' : Facts S') (src src' : Memory) (next : ℕ) (m' : Flat) (b : Block) (s : ℕ) → S'.start ≡ src → IsTied b → src.size b ≡ Some s → Now S' src' next m' → (close src' S'.serial).size b ≡ Some s
still_live S S' F' src src' next m' b s is h there t' =
    let first : S'.start.size b ≡ Some s = ap (λ (q : Memory). q.size b) is ∙ there in
    closed_still src' S'.serial b s (t'.kept b s h first) (is_of_other S'.serial b (F'.floor.older b s h first))
