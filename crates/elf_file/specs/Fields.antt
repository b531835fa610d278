-- The fields of an ELF-64 file, by their offsets. Numbers have the lowest byte first.
use Rattle.std.specs.Prelude.{ℕ, ◌+◌, ◌*◌, List, drop}
use Rattle.rv_sites.specs.Numbers.{number16, number32, number64}

unfoldable pub half : List ℕ → ℕ → ℕ
half bytes at = number16 (drop at bytes)

unfoldable pub word : List ℕ → ℕ → ℕ
word bytes at = number32 (drop at bytes)

unfoldable pub long : List ℕ → ℕ → ℕ
long bytes at = number64 (drop at bytes)

-- ---- the header

-- 2 for an executable
abbrev pub file_type : List ℕ → ℕ
file_type bytes = half bytes 16

-- 243 for RISC-V
abbrev pub machine : List ℕ → ℕ
machine bytes = half bytes 18

abbrev pub entry : List ℕ → ℕ
entry bytes = long bytes 24

-- where the program headers begin, and where the section headers
abbrev pub program_headers : List ℕ → ℕ
program_headers bytes = long bytes 32

abbrev pub section_headers : List ℕ → ℕ
section_headers bytes = long bytes 40

abbrev pub header_size : List ℕ → ℕ
header_size bytes = half bytes 52

abbrev pub program_header_size : List ℕ → ℕ
program_header_size bytes = half bytes 54

abbrev pub program_header_count : List ℕ → ℕ
program_header_count bytes = half bytes 56

abbrev pub section_header_count : List ℕ → ℕ
section_header_count bytes = half bytes 60

-- the section with the names of sections
abbrev pub names_index : List ℕ → ℕ
names_index bytes = half bytes 62

-- ---- a program header, by its number

abbrev pub program_header : List ℕ → ℕ → ℕ
program_header bytes k = program_headers bytes + 56 * k

abbrev pub program_type : List ℕ → ℕ → ℕ
program_type bytes k = word bytes (program_header bytes k)

abbrev pub program_flags : List ℕ → ℕ → ℕ
program_flags bytes k = word bytes (program_header bytes k + 4)

abbrev pub program_offset : List ℕ → ℕ → ℕ
program_offset bytes k = long bytes (program_header bytes k + 8)

abbrev pub program_address : List ℕ → ℕ → ℕ
program_address bytes k = long bytes (program_header bytes k + 16)

-- the bytes in the file, and the bytes in memory
abbrev pub file_size : List ℕ → ℕ → ℕ
file_size bytes k = long bytes (program_header bytes k + 32)

abbrev pub memory_size : List ℕ → ℕ → ℕ
memory_size bytes k = long bytes (program_header bytes k + 40)

-- ---- a section header, by its number

abbrev pub section_header : List ℕ → ℕ → ℕ
section_header bytes k = section_headers bytes + 64 * k

-- where the name begins among the names
abbrev pub section_name : List ℕ → ℕ → ℕ
section_name bytes k = word bytes (section_header bytes k)

abbrev pub section_offset : List ℕ → ℕ → ℕ
section_offset bytes k = long bytes (section_header bytes k + 24)

abbrev pub section_size : List ℕ → ℕ → ℕ
section_size bytes k = long bytes (section_header bytes k + 32)
