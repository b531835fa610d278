-- The sections that section headers give, and their names.
use Rattle.std.proofs.Common.{◌≡◌, ℕ, ◌+◌, ◌*◌, ◌^◌, ◌<◌, Bool, true, List, [], length, drop, Option, Some, None, arith, refl, ap, ◌∙◌}
use Rattle.std.specs.Prelude.{nat_eq, if◌then◌else◌}
use Rattle.std.specs.List.{starts_with}
use Rattle.std.proofs.lemmas.Bool.{le-leb}
use Rattle.std.proofs.lemmas.Nat.{from_le_bytes-to_le_bytes_4, from_le_bytes-to_le_bytes_8}
use Rattle.elf_file.specs.Fields as field
use Rattle.elf_file.specs.Rules.{section_stands, section_bytes, have_names, is_named, named, first_named, first_below, content, content_at, sites_name, calls_name}
use Rattle.elf_file.specs.Written.{section_header, names}
use Rattle.elf_file.proofs.Standing.{StandsAt, word_there, long_inside, slice_stands, ends_inside}

-- a section of a name, with its bytes
pub record IsSection (b : List ℕ) (k at : ℕ) (part : List ℕ) : Type 0 where
  pub name : field.section_name b k ≡ at
  pub stands : section_stands b k ≡ true
  pub bytes : section_bytes b k ≡ part

pub section : (b : List ℕ) (k at name kind offset unit : ℕ) (bytes : List ℕ) → field.section_headers b + 64 * k ≡ at → StandsAt b at (section_header name kind offset (length bytes) unit) →
    StandsAt b offset bytes → name < 2 ^ 32 → length b < 2 ^ 64 → IsSection b k name bytes
section b k at name kind offset unit bytes e s there few small =
    let part : List ℕ = section_header name kind offset (length bytes) unit in
    let ends = ends_inside b offset bytes there in
    let begins : field.section_offset b k ≡ offset = ap (λ (n : ℕ). field.long b (n + 24)) e ∙ long_inside b at 24 part s ∙ from_le_bytes-to_le_bytes_8 offset (omega (arith, ends, small)) in
    let size : field.section_size b k ≡ length bytes = ap (λ (n : ℕ). field.long b (n + 32)) e ∙ long_inside b at 32 part s ∙ from_le_bytes-to_le_bytes_8 (length bytes) (omega (arith, ends, small)) in
    record {
      name = ap (λ (n : ℕ). field.word b n) e ∙ word_there b at part s ∙ from_le_bytes-to_le_bytes_4 name few;
      stands = rw (begins, size) (le-leb (offset + length bytes) (length b) ends);
      bytes = rw (begins, size) (slice_stands b offset bytes there);
    }

-- the four sections of a file: an empty one, those of sites and calls, and the one of the names
pub record HasSections (b first second : List ℕ) : Type 0 where
  pub count : field.section_header_count b ≡ 4
  pub index : field.names_index b ≡ 3
  pub none : IsSection b 0 0 []
  pub sites : IsSection b 1 1 first
  pub calls : IsSection b 2 13 second
  pub names : IsSection b 3 25 names

pub are_named : (b sites calls : List ℕ) → HasSections b sites calls → have_names b ≡ true
are_named b sites calls h =
    let stands : section_stands b (field.names_index b) ≡ true = rw h.index h.names.stands in
    rw (stands, h.index, h.count) refl

name_is : (b sites calls : List ℕ) → HasSections b sites calls → (name : List ℕ) (k at : ℕ) (bytes : List ℕ) → IsSection b k at bytes → is_named b name k ≡ starts_with nat_eq (drop at names) name
name_is b sites calls h name k at bytes s =
    let all : section_bytes b (field.names_index b) ≡ names = ap (section_bytes b) h.index ∙ h.names.bytes in
    ap (λ (n : ℕ). starts_with nat_eq (drop n (section_bytes b (field.names_index b))) name) s.name ∙ ap (λ (l : List ℕ). starts_with nat_eq (drop at l) name) all

abbrev named_if : ℕ → Bool → Option ℕ
named_if k is = if is then Some k else None

pub finds_sites : (b sites calls : List ℕ) → HasSections b sites calls → first_named b sites_name ≡ Some 1
finds_sites b sites calls h =
    let n0 : named b sites_name 0 ≡ None = ap (named_if 0) (name_is b sites calls h sites_name 0 0 [] h.none) in
    let n1 : named b sites_name 1 ≡ Some 1 = ap (named_if 1) (name_is b sites calls h sites_name 1 1 sites h.sites) in
    let first : first_below (named b sites_name) 4 ≡ Some 1 = rw (n0, n1) refl in
    rw (are_named b sites calls h, h.count) first

pub finds_calls : (b sites calls : List ℕ) → HasSections b sites calls → first_named b calls_name ≡ Some 2
finds_calls b sites calls h =
    let n0 : named b calls_name 0 ≡ None = ap (named_if 0) (name_is b sites calls h calls_name 0 0 [] h.none) in
    let n1 : named b calls_name 1 ≡ None = ap (named_if 1) (name_is b sites calls h calls_name 1 1 sites h.sites) in
    let n2 : named b calls_name 2 ≡ Some 2 = ap (named_if 2) (name_is b sites calls h calls_name 2 13 calls h.calls) in
    let first : first_below (named b calls_name) 4 ≡ Some 2 = rw (n0, n1, n2) refl in
    rw (are_named b sites calls h, h.count) first

content_there : (b : List ℕ) (k at : ℕ) (bytes : List ℕ) → IsSection b k at bytes → content_at b (Some k) ≡ Some bytes
content_there b k at bytes s = rw (s.stands, s.bytes) refl

pub sites_content : (b sites calls : List ℕ) → HasSections b sites calls → content b sites_name ≡ Some sites
sites_content b sites calls h = ap (content_at b) (finds_sites b sites calls h) ∙ content_there b 1 1 sites h.sites

pub calls_content : (b sites calls : List ℕ) → HasSections b sites calls → content b calls_name ≡ Some calls
calls_content b sites calls h = ap (content_at b) (finds_calls b sites calls h) ∙ content_there b 2 13 calls h.calls
