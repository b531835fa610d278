-- What the source's memory and core memory share: each live block holds a word, and core memory holds
-- the same word at the block's place. And what is known of the blocks of an activation.
use Rattle.std.proofs.Common.{◌≡◌, ℕ, ◌+◌, ◌^◌, ◌<◌, ◌≤◌, ◌⊎◌, inl, inr, Bool, true, false, arith, ap, ◌∙◌, sym, subst, refl}
use Rattle.std.specs.Prelude.{◌==◌, ◌&&◌, Option, Some, None, nat_lt, if◌then◌else◌}
use Rattle.std.proofs.lemmas.Bool.Decides.{nat_tests}
use Rattle.odc_typed.specs.Bytes.{Block, variable, Byte, Value, bytes_of}
use Rattle.odc_typed.specs.Memory.{Memory, stretch, written, same, at_block, fits, load, store, put, open_block, is_of, close}
use Rattle.odc_typed.specs.Place.{place_of}
use Rattle.odc_typed.specs.Frame.{variable_place}
use Rattle.odc_typed.specs.Source.{Env, block_of}
use Rattle.odc_core.specs.Words.{bytes_of as numbers_of}
use Rattle.odc_core.specs.Memory.{Memory as Flat}
use Rattle.odc_core.specs.Memory.{put as flat_put}
use Rattle.odc_context.proofs.Touched.{WordAt, word_apart, put_word, put_away}

abbrev pub serial_of : Block → ℕ
serial_of (variable serial at x) = serial

-- a live block of eight bytes holds this word, on both sides
pub record Holds (src : Memory) (m : Flat) (b : Block) (w : ℕ) : Type 0 where
  pub small : w < 2 ^ 64
  pub live : src.size b ≡ Some 8
  pub source : stretch (src.byte b) 0 8 ≡ bytes_of 8 w
  pub core : WordAt m (place_of b) w

-- the block is one of the activation's variables
pub record Own (env : Env) (first : ℕ) (b : Block) : Type 0 where
  pub x : ℕ
  pub below : x < first
  pub is : b ≡ block_of env x

-- The memory at a call: its blocks lie above the called frame and are older than the activation.
pub record Floor (env : Env) (size : ℕ) (src0 : Memory) : Type 0 where
  pub above : (b : Block) (s : ℕ) → src0.size b ≡ Some s → env.low + size ≤ place_of b
  pub older : (b : Block) (s : ℕ) → src0.size b ≡ Some s → serial_of b < env.serial

-- Memory in an activation: blocks hold words, they are those at the call and the activation's own,
-- those at the call are there still, and none is as new as the next activation.
pub record Tied (env : Env) (first : ℕ) (src0 src : Memory) (serial : ℕ) (m : Flat) : Type 0 where
  pub words : (b : Block) (s : ℕ) → src.size b ≡ Some s → (w : ℕ) × Holds src m b w
  pub since : (b : Block) (s : ℕ) → src.size b ≡ Some s → (src0.size b ≡ Some s) ⊎ Own env first b
  pub kept : (b : Block) (s : ℕ) → src0.size b ≡ Some s → src.size b ≡ Some s
  pub fresh : (b : Block) (s : ℕ) → src.size b ≡ Some s → serial_of b < serial

-- what was live is
pub record Stays (src src' : Memory) : Type 0 where
  pub by : (b : Block) (s : ℕ) → src.size b ≡ Some s → src'.size b ≡ Some s

pub stays_on : (a b c : Memory) → Stays a b → Stays b c → Stays a c
stays_on a b c p q = record { by = λ x s e. q.by x s (p.by x s e) }

pub stays_same : (a : Memory) → Stays a a
stays_same a = record { by = λ x s e. e }

-- ---- core memory that is the same where blocks lie

pub tied_alike : (env : Env) (first size : ℕ) (src0 src : Memory) (serial : ℕ) (m m' : Flat) → Floor env size src0 →
    ((i : ℕ) → ((env.low + 128 ≤ i) × (i < variable_place env.low first)) ⊎ (env.low + size ≤ i) → m' i ≡ m i) → Tied env first src0 src serial m → Tied env first src0 src serial m'
tied_alike env first size src0 src serial m m' floor alike t = record {
  words = λ b s e.
      let old = t.words b s e in
      (old.0, record { small = old.1.small; live = old.1.live; source = old.1.source; core = word_apart m m' (place_of b) old.0 (λ i from to. alike i (zone b s e i from to)) old.1.core });
  since = t.since;
  kept = t.kept;
  fresh = t.fresh;
}
  where
    zone : (b : Block) (s : ℕ) → src.size b ≡ Some s → (i : ℕ) → place_of b ≤ i → i < place_of b + 8 → ((env.low + 128 ≤ i) × (i < variable_place env.low first)) ⊎ (env.low + size ≤ i)
    zone b s e i from to = elim (t.since b s e) [
      | inl old ↦ (let far : env.low + size ≤ place_of b = floor.above b s old in inr (omega arith))
      | inr own ↦ (let place : place_of b ≡ variable_place env.low own.x = ap place_of own.is in inl (omega (arith, own.below), omega (arith, own.below)))
    ]

-- ---- what is read

pub loaded_word : (src : Memory) (m : Flat) (b : Block) (w : ℕ) → Holds src m b w → load src b 0 8 ≡ Some (bytes_of 8 w)
loaded_word src m b w h =
    ap (λ (o : Option ℕ). if fits o 0 8 then Some (stretch (src.byte b) 0 8) else None) h.live ∙ ap (λ (v : Value). Some v) h.source

pub stored_word : (src : Memory) (b : Block) (w : ℕ) → src.size b ≡ Some 8 → store src b 0 (bytes_of 8 w) ≡ Some (put src b 0 (bytes_of 8 w))
stored_word src b w live = ap (λ (o : Option ℕ). if fits o 0 8 then Some (put src b 0 (bytes_of 8 w)) else None) live

-- ---- what is written

self_true : (n : ℕ) → (n == n) ≡ true
self_true n = grind (arith, nat_tests)

pub same_self : (b : Block) → same b b ≡ true
same_self (variable serial at x) = grind (arith, nat_tests)

-- a test for a block decides
pub same_tells : (a b : Block) → ((same a b ≡ true) × (a ≡ b)) ⊎ (same a b ≡ false)
same_tells (variable serial at x) (variable serial' at' x') = by (serial == serial') (at == at') (x == x') refl refl refl
  where
    by : (p q r : Bool) → (serial == serial') ≡ p → (at == at') ≡ q → (x == x') ≡ r →
        (((p && q && r) ≡ true) × (variable serial at x ≡ variable serial' at' x')) ⊎ ((p && q && r) ≡ false)
    by true true true e f g =
        let one : serial ≡ serial' = grind (arith, nat_tests) in
        let two : at ≡ at' = grind (arith, nat_tests) in
        let three : x ≡ x' = grind (arith, nat_tests) in
        inl (refl, ap (λ (k : ℕ). variable k at x) one ∙ ap (λ (k : ℕ). variable serial' k x) two ∙ ap (λ (k : ℕ). variable serial' at' k) three)
    by true true false e f g = inr refl
    by true false r e f g = inr refl
    by false q r e f g = inr refl

at_self : {A : Type 0} (b : Block) (v : A) (f : Block → A) → at_block b v f b ≡ v
at_self b v f = ap (λ (t : Bool). if t then v else f b) (same_self b)

at_other : {A : Type 0} (b c : Block) (v : A) (f : Block → A) → same c b ≡ false → at_block b v f c ≡ f c
at_other b c v f e = ap (λ (t : Bool). if t then v else f c) e

-- two different variables of a frame lie apart, and so does what lies above it
apart_from : (env : Env) (first size : ℕ) (src0 src : Memory) (serial : ℕ) (m : Flat) (x : ℕ) → Floor env size src0 → variable_place env.low first ≤ env.low + size → x < first → Tied env first src0 src serial m →
    (c : Block) (s : ℕ) → src.size c ≡ Some s → same c (block_of env x) ≡ false → (place_of c + 8 ≤ variable_place env.low x) ⊎ (variable_place env.low x + 8 ≤ place_of c)
apart_from env first size src0 src serial m x floor room below t c s e other = elim (t.since c s e) [
  | inl old ↦ (let far : env.low + size ≤ place_of c = floor.above c s old in inr (omega arith))
  | inr own ↦ own_apart own.x own.below own.is (nat_lt own.x x) (nat_lt x own.x) refl refl
]
  where
    own_apart : (y : ℕ) → y < first → c ≡ block_of env y → (p q : Bool) → nat_lt y x ≡ p → nat_lt x y ≡ q → (place_of c + 8 ≤ variable_place env.low x) ⊎ (variable_place env.low x + 8 ≤ place_of c)
    own_apart y h is true q f g =
        let less : y < x = grind (arith, nat_tests) in
        let place : place_of c ≡ variable_place env.low y = ap place_of is in
        inl (omega arith)
    own_apart y h is false true f g =
        let less : x < y = grind (arith, nat_tests) in
        let place : place_of c ≡ variable_place env.low y = ap place_of is in
        inr (omega arith)
    own_apart y h is false false f g =
        let equal : y ≡ x = grind (arith, nat_tests) in
        let twice : same c (block_of env x) ≡ true = ap (λ (b : Block). same b (block_of env x)) (is ∙ ap (block_of env) equal) ∙ same_self (block_of env x) in
        let wrong : true ≡ false = sym twice ∙ other in
        cc

module _ (env : Env) (first size : ℕ) (src0 src : Memory) (serial : ℕ) (m : Flat) (x w : ℕ) (floor : Floor env size src0) (room : variable_place env.low first ≤ env.low + size) (below : x < first) (small : w < 2 ^ 64)
    (t : Tied env first src0 src serial m) where
  abbrev b : Block
  b = block_of env x

  abbrev laid : Flat
  laid = flat_put m (variable_place env.low x) (numbers_of 8 w)

  new_bytes : stretch (at_block b (written (src.byte b) 0 (bytes_of 8 w)) src.byte b) 0 8 ≡ bytes_of 8 w
  new_bytes = ap (λ (f : ℕ → Byte). stretch f 0 8) (at_self b (written (src.byte b) 0 (bytes_of 8 w)) src.byte)

  -- a block that keeps its word
  other_word : (src' : Memory) (c : Block) (s : ℕ) → src.size c ≡ Some s → src'.size c ≡ src.size c → src'.byte c ≡ src.byte c → same c b ≡ false → (v : ℕ) × Holds src' laid c v
  other_word src' c s e sizes bytes other =
      let old = t.words c s e in (
        old.0,
        record {
          small = old.1.small;
          live = sizes ∙ old.1.live;
          source = ap (λ (f : ℕ → Byte). stretch f 0 8) bytes ∙ old.1.source;
          core = word_apart m laid (place_of c) old.0 (λ i from to. put_away m (variable_place env.low x) w i
              (elim (apart_from env first size src0 src serial m x floor room below t c s e other) [ inl a ↦ inl (omega arith) | inr a ↦ inr (omega arith) ])) old.1.core;
        },
      )

  -- a live variable gets a word
  pub tied_put : src.size (block_of env x) ≡ Some 8 → Tied env first src0 (put src (block_of env x) 0 (bytes_of 8 w)) serial (flat_put m (variable_place env.low x) (numbers_of 8 w))
  tied_put live = record {
    words = λ c s e. elim (same_tells c b) [
      | inl is ↦ (let P : Block → Type 0 = λ y. (v : ℕ) × Holds (put src b 0 (bytes_of 8 w)) laid y v in
          subst P (sym is.1) (w, record { small = small; live = live; source = new_bytes; core = put_word m (variable_place env.low x) w }))
      | inr other ↦ other_word (put src b 0 (bytes_of 8 w)) c s e refl (at_other b c (written (src.byte b) 0 (bytes_of 8 w)) src.byte other) other
    ];
    since = t.since;
    kept = t.kept;
    fresh = t.fresh;
  }

  -- and that word is there
  pub put_holds : src.size (block_of env x) ≡ Some 8 → Holds (put src (block_of env x) 0 (bytes_of 8 w)) (flat_put m (variable_place env.low x) (numbers_of 8 w)) (block_of env x) w
  put_holds live = record { small = small; live = live; source = new_bytes; core = put_word m (variable_place env.low x) w }

  -- a variable begins with a word
  pub tied_open : env.serial < serial → Tied env first src0 (open_block src (block_of env x) (bytes_of 8 w)) serial (flat_put m (variable_place env.low x) (numbers_of 8 w))
  tied_open newer = record {
    words = λ c s e. elim (same_tells c b) [
      | inl is ↦ (let P : Block → Type 0 = λ y. (v : ℕ) × Holds (open_block src b (bytes_of 8 w)) laid y v in
          subst P (sym is.1) (w, record { small = small; live = at_self b (Some 8) src.size; source = new_bytes; core = put_word m (variable_place env.low x) w }))
      | inr other ↦ (let size_of : (open_block src b (bytes_of 8 w)).size c ≡ src.size c = at_other b c (Some 8) src.size other in
          other_word (open_block src b (bytes_of 8 w)) c s (sym size_of ∙ e) size_of (at_other b c (written (src.byte b) 0 (bytes_of 8 w)) src.byte other) other)
    ];
    since = λ c s e. elim (same_tells c b) [
      | inl is ↦ inr (record { x = x; below = below; is = is.1 })
      | inr other ↦ t.since c s (sym (at_other b c (Some 8) src.size other) ∙ e)
    ];
    kept = λ c s e. elim (same_tells c b) [
      | inl is ↦ (let older : serial_of c < env.serial = floor.older c s e in let same_serial : serial_of c ≡ env.serial = ap serial_of is.1 in absurd (omega arith))
      | inr other ↦ at_other b c (Some 8) src.size other ∙ t.kept c s e
    ];
    fresh = λ c s e. elim (same_tells c b) [
      | inl is ↦ (let same_serial : serial_of c ≡ env.serial = ap serial_of is.1 in omega arith)
      | inr other ↦ t.fresh c s (sym (at_other b c (Some 8) src.size other) ∙ e)
    ];
  }

  pub opened : (open_block src (block_of env x) (bytes_of 8 w)).size (block_of env x) ≡ Some 8
  opened = at_self b (Some 8) src.size

  pub open_stays : (c : Block) → src.size c ≡ Some 8 → (open_block src (block_of env x) (bytes_of 8 w)).size c ≡ Some 8
  open_stays c e = elim (same_tells c b) [
    | inl is ↦ (let P : Block → Type 0 = λ y. (open_block src b (bytes_of 8 w)).size y ≡ Some 8 in subst P (sym is.1) (at_self b (Some 8) src.size))
    | inr other ↦ at_other b c (Some 8) src.size other ∙ e
  ]

-- ---- calls

is_of_self : (serial : ℕ) (b : Block) → serial_of b ≡ serial → is_of serial b ≡ true
is_of_self serial (variable serial' at x) e = grind (arith, nat_tests)

is_of_other : (serial : ℕ) (b : Block) → serial_of b < serial → is_of serial b ≡ false
is_of_other serial (variable serial' at x) e = grind (arith, nat_tests)

-- what is live once the blocks of an activation have ended
closed_live : (src : Memory) (serial : ℕ) (b : Block) (s : ℕ) → (close src serial).size b ≡ Some s → (src.size b ≡ Some s) × (is_of serial b ≡ false)
closed_live src serial b s e = by (is_of serial b) refl e
  where
    by : (t : Bool) → is_of serial b ≡ t → (if t then None else src.size b) ≡ Some s → (src.size b ≡ Some s) × (is_of serial b ≡ false)
    by true f g = cc
    by false f g = (g, f)

closed_still : (src : Memory) (serial : ℕ) (b : Block) (s : ℕ) → src.size b ≡ Some s → is_of serial b ≡ false → (close src serial).size b ≡ Some s
closed_still src serial b s e f = ap (λ (t : Bool). if t then None else src.size b) f ∙ e

-- the memory at a call lies above the called frame
pub floor_below : (env env' : Env) (first size size' : ℕ) (src0 src : Memory) (m : Flat) → Floor env size src0 → env'.low + size' ≡ env.low → Tied env first src0 src env'.serial m → Floor env' size' src
floor_below env env' first size size' src0 src m floor next t = record {
  above = λ b s e. elim (t.since b s e) [
    | inl old ↦ (let far : env.low + size ≤ place_of b = floor.above b s old in omega arith)
    | inr own ↦ (let place : place_of b ≡ variable_place env.low own.x = ap place_of own.is in omega arith)
  ];
  older = t.fresh;
}

-- nothing of the activation has begun
pub tied_start : (env env' : Env) (first first' : ℕ) (src0 src : Memory) (m : Flat) → env.serial < env'.serial → Tied env first src0 src env'.serial m → Tied env' first' src src (env'.serial + 1) m
tied_start env env' first first' src0 src m newer t = record {
  words = t.words;
  since = λ b s e. inl e;
  kept = λ b s e. e;
  fresh = λ b s e. let old : serial_of b < env'.serial = t.fresh b s e in omega arith;
}

-- the called activation has ended
pub tied_back : (env env' : Env) (first first' size' : ℕ) (src0 src src' : Memory) (serial' : ℕ) (m m' : Flat) → Floor env' size' src → env'.serial < serial' → Tied env first src0 src env'.serial m →
    Tied env' first' src src' serial' m' → Tied env first src0 (close src' env'.serial) serial' m'
tied_back env env' first first' size' src0 src src' serial' m m' floor newer t t' = record {
  words = λ b s e.
      let live = closed_live src' env'.serial b s e in
      let old = t'.words b s live.0 in
      (old.0, record { small = old.1.small; live = closed_still src' env'.serial b 8 old.1.live live.1; source = old.1.source; core = old.1.core });
  since = λ b s e.
      let live = closed_live src' env'.serial b s e in
      elim (t'.since b s live.0) [
        | inl old ↦ t.since b s old
        | inr own ↦ (let is : is_of env'.serial b ≡ true = is_of_self env'.serial b (ap serial_of own.is) in let wrong : true ≡ false = sym is ∙ live.1 in cc)
      ];
  kept = λ b s e.
      let before : src.size b ≡ Some s = t.kept b s e in
      closed_still src' env'.serial b s (t'.kept b s before) (is_of_other env'.serial b (floor.older b s before));
  fresh = λ b s e. t'.fresh b s (closed_live src' env'.serial b s e).0;
}

-- and what was live at the call is
pub stays_back : (env' : Env) (first' size' : ℕ) (src src' : Memory) (serial' : ℕ) (m' : Flat) → Floor env' size' src → Tied env' first' src src' serial' m' → Stays src (close src' env'.serial)
stays_back env' first' size' src src' serial' m' floor t' = record {
  by = λ b s e. closed_still src' env'.serial b s (t'.kept b s e) (is_of_other env'.serial b (floor.older b s e));
}
