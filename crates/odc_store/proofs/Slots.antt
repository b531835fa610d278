-- What becomes of the blocks where a slot changes.
use Rattle.std.proofs.Common.{◌≡◌, ℕ, zero, suc, ◌+◌, ◌<◌, ◌^◌, ◌==◌, List, [], ◌∷◌, Option, Some, None, Bool, true, false, length, map, refl, sym, ◌∙◌, ap, subst, arith, get_or, slice_get, slice_set, if◌then◌else◌, IsSome, Result, Ok, Err, OnOk}
use Rattle.std.proofs.lemmas.Bool.Decides.{nat_tests}
use Rattle.odc_store.specs.declared.bytes.BlockId.{BlockId}
use Rattle.odc_store.specs.declared.bytes.SourceByte.{SourceByte}
use Rattle.odc_store.specs.declared.store.Slot.{Slot}
use Rattle.odc_store.specs.Bytes.{patched}
use Rattle.odc_store.specs.Blocks.{Blocks, content, content_at, slot_of, bytes_of, IsFree, IsOpenedAt, IfContent}

set_view : (slots : List Slot) (i : ℕ) (s : Slot) → map slot_of (slice_set slots i s) ≡ slice_set (map slot_of slots) i (slot_of s)
set_view [] i s = refl
set_view (t ∷ slots) zero s = refl
set_view (t ∷ slots) (suc i) s = ap (λ rest. slot_of t ∷ rest) (set_view slots i s)

read_view : (slots : List Slot) (i : ℕ) (s : Slot) → i < length slots → s ≡ get_or slots i s → slice_get (map slot_of slots) i ≡ Some (slot_of s)
read_view [] i s l e = absurd (omega arith)
read_view (t ∷ slots) zero s l e = ap (λ x. Some (slot_of x)) (sym e)
read_view (t ∷ slots) (suc i) s l e = read_view slots i s (omega arith) e

-- a block that is open stands in its slot
within_by : (slots : List Slot) (i g : ℕ) → IsSome (content_at g (slice_get (map slot_of slots) i)) → i < length slots
within_by [] i g h = cc
within_by (t ∷ slots) zero g h = omega arith
within_by (t ∷ slots) (suc i) g h = let l = within_by slots i g h in omega arith

newest_by : (b : Bool) (g newest : ℕ) (bytes : Option (List SourceByte)) → (g == newest) ≡ b → IsSome (if b then bytes else None) → g ≡ newest
newest_by true g newest bytes e h = grind (arith, nat_tests)
newest_by false g newest bytes e h = cc

newest_is : (g : ℕ) (slot : Option (ℕ × Option (List SourceByte))) (newest : ℕ) (bytes : Option (List SourceByte)) → slot ≡ Some (newest, bytes) → IsSome (content_at g slot) → g ≡ newest
newest_is g slot newest bytes e h = newest_by (g == newest) g newest bytes refl (subst (λ x. IsSome (content_at g x)) e h)

pub set_open : (slots : List Slot) (self : Blocks) (b : BlockId) (s t : Slot) (bytes : Option (List SourceByte)) → map slot_of slots ≡ self → IsSome (content self b) → s ≡ get_or slots b.slot s →
    slot_of t ≡ (s.generation, bytes) → map slot_of (slice_set slots b.slot t) ≡ slice_set self b.slot (b.generation, bytes)
set_open slots self b s t bytes e h g w =
    let stands : IsSome (content (map slot_of slots) b) = rw e h in
    let l = within_by slots b.slot b.generation stands in
    let there = read_view slots b.slot s l g in
    let newest = newest_is b.generation (slice_get (map slot_of slots) b.slot) s.generation (bytes_of s.content) there stands in
    set_view slots b.slot t ∙ ap (slice_set (map slot_of slots) b.slot) w ∙ ap (λ n. slice_set (map slot_of slots) b.slot (n, bytes)) (sym newest) ∙ ap (λ x. slice_set x b.slot (b.generation, bytes)) e

same_by : (g newest : ℕ) (bytes : Option (List SourceByte)) → g ≡ newest → content_at g (Some (newest, bytes)) ≡ bytes
same_by g newest bytes e = grind (arith, nat_tests)

abbrev bytes_in : Option (ℕ × Option (List SourceByte)) → Option (List SourceByte)
bytes_in None = None
bytes_in (Some (g, c)) = c

ended_is : (g h : ℕ) (c : Option (List SourceByte)) → ◌≡◌ {A = Option (ℕ × Option (List SourceByte))} (Some (g, c)) (Some (h, None)) → c ≡ None
ended_is g h c e = ap bytes_in e

-- the bytes of a block that is open, by its slot
pub open_bytes : (slots : List Slot) (self : Blocks) (b : BlockId) (s : Slot) → map slot_of slots ≡ self → IsSome (content self b) → s ≡ get_or slots b.slot s → content self b ≡ bytes_of s.content
open_bytes slots self b s e h g =
    let stands : IsSome (content (map slot_of slots) b) = rw e h in
    let l = within_by slots b.slot b.generation stands in
    let there = read_view slots b.slot s l g in
    let newest = newest_is b.generation (slice_get (map slot_of slots) b.slot) s.generation (bytes_of s.content) there stands in
    ap (λ x. content x b) (sym e) ∙ ap (content_at b.generation) there ∙ same_by b.generation s.generation (bytes_of s.content) newest

-- and where a block may stand next
pub free_at : (slots : List Slot) (self : Blocks) (at : ℕ) (s : Slot) → map slot_of slots ≡ self → at < length slots → s ≡ get_or slots at s → bytes_of s.content ≡ None → s.generation + 1 < 2 ^ 32 → IsFree self at
free_at slots self at s e l g w h = record {
  generation = s.generation;
  ended = ap (λ x. slice_get x at) (sym e) ∙ read_view slots at s l g ∙ ap (λ bytes. Some (s.generation, bytes)) w;
  below = h;
}

below_by : (slots : List Slot) (i : ℕ) (x : ℕ × Option (List SourceByte)) → slice_get (map slot_of slots) i ≡ Some x → i < length slots
below_by [] i x e = cc
below_by (t ∷ slots) zero x e = omega arith
below_by (t ∷ slots) (suc i) x e = let l = below_by slots i x e in omega arith

pub opened_there : (slots : List Slot) (self : Blocks) (at : ℕ) (s t : Slot) (bytes : List SourceByte) (b : BlockId) → map slot_of slots ≡ self → IsFree self at → s ≡ get_or slots at s →
    slot_of t ≡ (s.generation + 1, Some bytes) → b.slot ≡ at → b.generation ≡ s.generation + 1 → IsOpenedAt self (map slot_of (slice_set slots at t)) at bytes b
opened_there slots self at s t bytes b e f g w p q =
    let l = below_by slots at (f.generation, None) (ap (λ x. slice_get x at) e ∙ f.ended) in
    let there : slice_get self at ≡ Some (s.generation, bytes_of s.content) = ap (λ x. slice_get x at) (sym e) ∙ read_view slots at s l g in
    record {
      generation = s.generation;
      ended = there ∙ ap (λ c. Some (s.generation, c)) (ended_is s.generation f.generation (bytes_of s.content) (sym there ∙ f.ended));
      set = set_view slots at t ∙ ap (slice_set (map slot_of slots) at) w ∙ ap (λ x. slice_set x at (s.generation + 1, Some bytes)) e;
      slot = p;
      told = q;
    }

pub some_by : (c : Option (List SourceByte)) (P : List SourceByte → Type 0) → IfContent c P → IsSome c
some_by None P h = absurd h
some_by (Some bytes) P h = refl

pub on_ok_patch : {E : Type 0} (result : Result (Unit {0}) E) (c : Option (List SourceByte)) (there new vs : List SourceByte) (o : ℕ) (view self : Blocks) (i g : ℕ) → c ≡ Some there →
    view ≡ slice_set self i (g, Some new) → OnOk result (new ≡ patched o vs there) → OnOk result (IfContent c (λ t. view ≡ slice_set self i (g, Some (patched o vs t))))
on_ok_patch (Ok x) c there new vs o view self i g e w h = rw (e, w, h) refl
on_ok_patch (Err x) c there new vs o view self i g e w h = tt
