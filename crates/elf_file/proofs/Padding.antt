-- Zeros behind bytes, up to a multiple of a number.
use Rattle.std.proofs.Common.{◌≡◌, ℕ, ◌-◌, ◌≤◌, List, length, replicate, arith, ◌∙◌, length-append}
use Rattle.std.proofs.lemmas.List.{length-replicate}
use Rattle.elf_file.specs.Written.{up_to, padded}
use Rattle.elf_file.proofs.Standing.{StandsAt, first_stands}

pub up_to_8 : (n : ℕ) → n ≤ up_to 8 n
up_to_8 n = omega arith

pub up_to_page : (n : ℕ) → n ≤ up_to 4096 n
up_to_page n = omega arith

pub length-padded : (unit : ℕ) (bytes : List ℕ) → length bytes ≤ up_to unit (length bytes) → length (padded unit bytes) ≡ up_to unit (length bytes)
unfolding padded
length-padded unit bytes h =
    let more : ℕ = up_to unit (length bytes) - length bytes in
    let zeros : List ℕ = replicate more 0 in
    let size : length zeros ≡ more = length-replicate more 0 in
    length-append bytes zeros ∙ omega (arith, size, h)

pub padded_grows : (unit : ℕ) (bytes : List ℕ) → length bytes ≤ length (padded unit bytes)
unfolding padded
padded_grows unit bytes =
    let zeros : List ℕ = replicate (up_to unit (length bytes) - length bytes) 0 in
    omega (arith, length-append bytes zeros)

pub padded_stands : (b : List ℕ) (at unit : ℕ) (bytes : List ℕ) → StandsAt b at (padded unit bytes) → StandsAt b at bytes
unfolding padded
padded_stands b at unit bytes s =
    let zeros : List ℕ = replicate (up_to unit (length bytes) - length bytes) 0 in
    first_stands b at bytes zeros s
