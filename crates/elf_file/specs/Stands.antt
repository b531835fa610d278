-- That headers lie inside a file.
use Rattle.std.specs.Prelude.{ℕ, ◌+◌, ◌*◌, ◌≤◌, List, length}
use Rattle.elf_file.specs.Fields as field

pub record HasProgramHeader (bytes : List ℕ) (k : ℕ) : Type 0 where
  pub header : 64 ≤ length bytes
  pub inside : field.program_headers bytes + 56 * k + 56 ≤ length bytes

pub record HaveProgramHeaders (bytes : List ℕ) : Type 0 where
  pub header : 64 ≤ length bytes
  pub few : field.program_header_count bytes ≤ 16
  pub inside : field.program_headers bytes + 56 * field.program_header_count bytes ≤ length bytes

pub record HasSectionHeader (bytes : List ℕ) (k : ℕ) : Type 0 where
  pub header : 64 ≤ length bytes
  pub inside : field.section_headers bytes + 64 * k + 64 ≤ length bytes

pub record HaveSectionHeaders (bytes : List ℕ) : Type 0 where
  pub header : 64 ≤ length bytes
  pub inside : field.section_headers bytes + 64 * field.section_header_count bytes ≤ length bytes
