-- Shifts and masks as quotients, remainders and products.
use Rattle.std.proofs.Common.{◌≡◌, ℕ, ◌+◌, ◌-◌, ◌*◌, ◌/◌, ◌%◌, ◌^◌, ◌<◌, ◌≤◌, arith, ap, ◌∙◌}
use Rattle.std.specs.Prelude.{bit_and}
use Rattle.std.proofs.lemmas.Nat.{shl_whole, and_mask}
use Rattle.std.proofs.lemmas.Nat.Bits.{ones_shr}
use Rattle.rv_table.specs.Fields.{bits}

-- a value that fits its field stays whole when it is shifted there
pub placed : (hi lo value : ℕ) → lo ≤ hi → hi < 32 → value < 2 ^ (hi - lo + 1) → value * 2 ^ lo % 2 ^ 32 ≡ value * 2 ^ lo
placed hi lo value ordered inside fits = shl_whole value (hi - lo + 1) lo 32 fits (omega arith)

-- a shift and a mask of ones read a field
pub read : (hi lo word : ℕ) → lo ≤ hi → hi < 32 → bit_and (word / 2 ^ lo) ((2 ^ 32 - 1) / 2 ^ (31 - (hi - lo))) ≡ bits hi lo word
read hi lo word ordered inside =
    let width : 32 - (31 - (hi - lo)) ≡ hi - lo + 1 = omega arith in
    let mask : (2 ^ 32 - 1) / 2 ^ (31 - (hi - lo)) ≡ 2 ^ (32 - (31 - (hi - lo))) - 1 = ones_shr 32 (31 - (hi - lo)) (omega arith) in
    ap (λ (m : ℕ). bit_and (word / 2 ^ lo) m) (mask ∙ ap (λ (k : ℕ). 2 ^ k - 1) width) ∙ and_mask (word / 2 ^ lo) (hi - lo + 1)
