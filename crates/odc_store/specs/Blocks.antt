-- The blocks of a store: which were opened, and the bytes of those that are open. A block is told by its position and its
-- generation: when it has ended, a new one may stand at its position.
use Rattle.std.specs.Prelude.{◌≡◌, ◌<◌, ◌^◌, slice_set, ℕ, zero, suc, ◌+◌, ◌==◌, ◌&&◌, Bool, false, List, [], ◌∷◌, take, drop, length, Option, Some, None, nat_le, slice_get, if◌then◌else◌, Result, Err}
use Rattle.odc_store.specs.declared.bytes.BlockId.{BlockId}
use Rattle.odc_store.specs.declared.bytes.Address.{Address}
use Rattle.odc_store.specs.declared.bytes.SourceByte.{SourceByte}
use Rattle.odc_store.specs.declared.store.StoreError.{StoreError}
use Rattle.odc_store.specs.declared.store.StoreError.TheVariants.{Stray}
use Rattle.odc_store.specs.declared.store.Slot.{Slot}
use Rattle.odc_store.specs.declared.store.Content.{Content}
use Rattle.odc_store.specs.declared.store.Content.TheVariants.{Open, Ended}
use Rattle.odc_store.specs.Bytes.{patched}

-- at each position, the generation of the newest block that stood there, and its bytes where it is open
abbrev pub Blocks : Type 0
Blocks = List (ℕ × Option (List SourceByte))

abbrev pub content_at : ℕ → Option (ℕ × Option (List SourceByte)) → Option (List SourceByte)
content_at generation None = None
content_at generation (Some (newest, bytes)) = if generation == newest then bytes else None

-- the bytes of a block; none where it isn't open
abbrev pub content : Blocks → BlockId → Option (List SourceByte)
content blocks b = content_at b.generation (slice_get blocks b.slot)

abbrev pub opened_at : ℕ → Option (ℕ × Option (List SourceByte)) → Bool
opened_at generation None = false
opened_at generation (Some (newest, bytes)) = nat_le generation newest

-- whether the block was opened; it may have ended
abbrev pub opened : Blocks → BlockId → Bool
opened blocks b = opened_at b.generation (slice_get blocks b.slot)

abbrev pub same : BlockId → BlockId → Bool
same a b = (a.slot == b.slot) && (a.generation == b.generation)

-- ---- loading and keeping

abbrev pub loaded_in : Option (List SourceByte) → ℕ → ℕ → Option (List SourceByte)
loaded_in bytes offset zero = Some []
loaded_in None offset (suc n) = None
loaded_in (Some bytes) offset (suc n) = if nat_le (offset + suc n) (length bytes) then Some (take (suc n) (drop offset bytes)) else None

-- so many bytes at an address; none where this strays
abbrev pub loaded : Blocks → Address → ℕ → Option (List SourceByte)
loaded blocks a n = loaded_in (content blocks a.block) a.offset n

abbrev pub kept_in : Option (List SourceByte) → ℕ → List SourceByte → Option (Option (List SourceByte))
kept_in bytes offset [] = Some bytes
kept_in None offset (v ∷ vs) = None
kept_in (Some bytes) offset (v ∷ vs) = if nat_le (offset + length (v ∷ vs)) (length bytes) then Some (Some (patched offset (v ∷ vs) bytes)) else None

-- what the block of an address holds when these bytes are kept there; none where this strays
abbrev pub kept : Blocks → Address → List SourceByte → Option (Option (List SourceByte))
kept blocks a vs = kept_in (content blocks a.block) a.offset vs

abbrev pub IsStray : {A : Type 0} → Result A StoreError → Type 0
IsStray (Err Stray) = Unit {0}
IsStray _ = ⊥

-- ---- how a store keeps them

abbrev pub bytes_of : Content → Option (List SourceByte)
bytes_of (Open bytes) = Some bytes
bytes_of (Ended next) = None

abbrev pub slot_of : Slot → ℕ × Option (List SourceByte)
slot_of slot = (slot.generation, bytes_of slot.content)

-- a block has ended there, and a newer one may stand there
pub record IsFree (blocks : Blocks) (at : ℕ) : Type 0 where
  pub generation : ℕ
  pub ended : slice_get blocks at ≡ Some (generation, None)
  pub below : generation + 1 < 2 ^ 32

-- the next block stands there
pub record IsOpenedAt (old new : Blocks) (at : ℕ) (bytes : List SourceByte) (b : BlockId) : Type 0 where
  pub generation : ℕ
  pub ended : slice_get old at ≡ Some (generation, None)
  pub set : new ≡ slice_set old at (generation + 1, Some bytes)
  pub slot : b.slot ≡ at
  pub told : b.generation ≡ generation + 1

abbrev pub IfContent : Option (List SourceByte) → (List SourceByte → Type 0) → Type 0
IfContent None P = ⊥
IfContent (Some bytes) P = P bytes
