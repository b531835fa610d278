-- Memory: blocks that are live or have ended, and their bytes.
use Rattle.std.specs.Prelude.{ℕ, zero, suc, ◌+◌, ◌==◌, ◌&&◌, Bool, true, false, [], ◌∷◌, length, Option, Some, None, nat_le, if◌then◌else◌}
use Rattle.odc_program.specs.States.Bytes.{Block, literal, variable, Byte, number, Value, same}

abbrev pub stretch : (ℕ → Byte) → ℕ → ℕ → Value
stretch f a zero = []
stretch f a (suc n) = f a ∷ stretch f (a + 1) n

abbrev pub written : (ℕ → Byte) → ℕ → Value → ℕ → Byte
written f a [] x = f x
written f a (v ∷ vs) x = if x == a then v else written f (a + 1) vs x

pub record Memory : Type 0 where
  -- None: not live
  pub size : Block → Option ℕ
  -- also after its end
  pub long : Block → ℕ
  pub byte : Block → ℕ → Byte

abbrev pub at_block : {A : Type 0} → Block → A → (Block → A) → Block → A
at_block b v f x = if same x b then v else f x

abbrev pub empty : Memory
empty = record { size = λ b. None; long = λ b. 0; byte = λ b x. number 0 }

abbrev pub fits : Option ℕ → ℕ → ℕ → Bool
fits size offset zero = true
fits None offset (suc n) = false
fits (Some size) offset (suc n) = nat_le (offset + suc n) size

abbrev pub load : Memory → Block → ℕ → ℕ → Option Value
load m b offset n = if fits (m.size b) offset n then Some (stretch (m.byte b) offset n) else None

abbrev pub put : Memory → Block → ℕ → Value → Memory
put m b offset vs = record { size = m.size; long = m.long; byte = at_block b (written (m.byte b) offset vs) m.byte }

abbrev pub is_literal : Block → Bool
is_literal (literal at n) = true
is_literal _ = false

abbrev pub writable : Block → Option ℕ → Option ℕ
writable b size = if is_literal b then None else size

abbrev pub store : Memory → Block → ℕ → Value → Option Memory
store m b offset vs = if fits (writable b (m.size b)) offset (length vs) then Some (put m b offset vs) else None

abbrev pub open_block : Memory → Block → Value → Memory
open_block m b vs = record {
  size = at_block b (Some (length vs)) m.size;
  long = at_block b (length vs) m.long;
  byte = at_block b (written (m.byte b) 0 vs) m.byte;
}

-- a block of so many zeros
abbrev pub open_zeros : Memory → Block → ℕ → Memory
open_zeros m b n = record {
  size = at_block b (Some n) m.size;
  long = at_block b n m.long;
  byte = at_block b (λ x. number 0) m.byte;
}

abbrev pub is_of : ℕ → Block → Bool
is_of serial (variable f serial' at x) = serial == serial'
is_of serial _ = false

abbrev pub close : Memory → ℕ → Memory
close m serial = record { size = (λ b. if is_of serial b then None else m.size b); long = m.long; byte = m.byte }

-- the blocks of a helper end with it: those of the activation from an address on
abbrev pub lies_behind : ℕ → ℕ → Block → Bool
lies_behind serial low (variable f serial' at x) = (serial == serial') && nat_le low at
lies_behind serial low _ = false

abbrev pub close_from : Memory → ℕ → ℕ → Memory
close_from m serial low = record { size = (λ b. if lies_behind serial low b then None else m.size b); long = m.long; byte = m.byte }
