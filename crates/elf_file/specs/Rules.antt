-- The nine rules of a file, each with the offset of what breaks it, and the image that a file denotes.
use Rattle.std.specs.Prelude.{◌≡◌, ℕ, zero, suc, ◌+◌, ◌*◌, ◌%◌, ◌==◌, nat_le, nat_lt, nat_eq, bit_and, Bool, true, false, not, ◌&&◌, ◌||◌, List, [], ◌∷◌, ◌++◌, length, drop, slice_index, slice_range, Option, Some, None, codes, if◌then◌else◌}
use Rattle.std.specs.List.{list_all, list_any, starts_with}
use Rattle.rv_table.specs.Run.{Range}
use Rattle.rv_sites.specs.Sections.{Listing, listing, is_sites_section, is_calls_section, empty_section}
use Rattle.elf_file.specs.declared.read.BadImage.{BadImage}
use Rattle.elf_file.specs.Fields as field

-- ---- the first that is broken

-- nothing where the test is met, and what is broken where it isn't
abbrev pub unless : Bool → ℕ → ℕ → Option BadImage
unless true rule offset = None
unless false rule offset = Some (record { rule = rule; offset = offset })

abbrev pub or_else : {A : Type 0} → Option A → Option A → Option A
or_else None next = next
or_else (Some first) next = Some first

-- the first answer among those for the numbers below n
abbrev pub first_below : {A : Type 0} → (ℕ → Option A) → ℕ → Option A
first_below answer zero = None
first_below answer (suc k) = or_else (first_below answer k) (answer k)

-- ---- 1 the file has a header, and begins with the magic bytes

abbrev pub rule_1 : List ℕ → Option BadImage
rule_1 bytes =
    or_else (unless (nat_le 64 (length bytes)) 1 (length bytes))
    (or_else (unless (slice_index bytes 0 == 0x7f) 1 0)
    (or_else (unless (slice_index bytes 1 == 0x45) 1 1)
    (or_else (unless (slice_index bytes 2 == 0x4c) 1 2) (unless (slice_index bytes 3 == 0x46) 1 3))))

-- ---- 2 class, order of bytes, version

abbrev pub rule_2 : List ℕ → Option BadImage
rule_2 bytes =
    or_else (unless (slice_index bytes 4 == 2) 2 4)
    (or_else (unless (slice_index bytes 5 == 1) 2 5) (unless (slice_index bytes 6 == 1) 2 6))

-- ---- 3 type, 4 machine

abbrev pub rule_3 : List ℕ → Option BadImage
rule_3 bytes = unless (field.file_type bytes == 2) 3 16

abbrev pub rule_4 : List ℕ → Option BadImage
rule_4 bytes = unless (field.machine bytes == 243) 4 18

-- ---- 5 sizes of the headers, and how many there are

abbrev pub is_count : ℕ → Bool
is_count n = nat_le 1 n && nat_le n 16

abbrev pub rule_5 : List ℕ → Option BadImage
rule_5 bytes =
    or_else (unless (field.header_size bytes == 64) 5 52)
    (or_else (unless (field.program_header_size bytes == 56) 5 54) (unless (is_count (field.program_header_count bytes)) 5 56))

-- ---- 6 the program headers lie inside the file

abbrev pub rule_6 : List ℕ → Option BadImage
rule_6 bytes = unless (nat_le (field.program_headers bytes + 56 * field.program_header_count bytes) (length bytes)) 6 32

-- ---- 7 the ranges

abbrev pub is_load : List ℕ → ℕ → Bool
is_load bytes k = field.program_type bytes k == 1

-- the flags are 4 for reading, 2 for writing, 1 for executing
abbrev pub has_flag : ℕ → ℕ → Bool
has_flag flag flags = not (bit_and flags flag == 0)

abbrev pub range_at : List ℕ → ℕ → Range
range_at bytes k = record {
  start = field.program_address bytes k;
  size = field.memory_size bytes k;
  readable = has_flag 4 (field.program_flags bytes k);
  writable = has_flag 2 (field.program_flags bytes k);
  executable = has_flag 1 (field.program_flags bytes k);
  bytes = slice_range bytes (field.program_offset bytes k) (field.program_offset bytes k + field.file_size bytes k);
}

-- the ranges of the program headers below a number; headers of other types are skipped
abbrev pub ranges_below : List ℕ → ℕ → List Range
ranges_below bytes zero = []
ranges_below bytes (suc k) = if is_load bytes k then ranges_below bytes k ++ range_at bytes k ∷ [] else ranges_below bytes k

-- these addresses and the range have no byte in common
abbrev pub is_apart : ℕ → ℕ → Range → Bool
is_apart start size r = size == 0 || r.size == 0 || nat_le (start + size) r.start || nat_le (r.start + r.size) start

-- the bytes lie inside the file, and the addresses between the limits and apart from those of earlier ranges
abbrev pub fits : List ℕ → ℕ → Bool
fits bytes k =
    nat_le (field.file_size bytes k) (field.memory_size bytes k)
    && nat_le (field.program_offset bytes k + field.file_size bytes k) (length bytes)
    && nat_le 0x1000 (field.program_address bytes k)
    && nat_le (field.program_address bytes k + field.memory_size bytes k) 0x8000_0000
    && list_all (is_apart (field.program_address bytes k) (field.memory_size bytes k)) (ranges_below bytes k)

abbrev pub broken_range : List ℕ → ℕ → Option BadImage
broken_range bytes k = unless (not (is_load bytes k) || fits bytes k) 7 (field.program_header bytes k)

abbrev pub rule_7 : List ℕ → Option BadImage
rule_7 bytes = first_below (broken_range bytes) (field.program_header_count bytes)

abbrev pub ranges : List ℕ → List Range
ranges bytes = ranges_below bytes (field.program_header_count bytes)

-- ---- 8 the entry

abbrev pub is_executed : ℕ → Range → Bool
is_executed address r = r.executable && nat_le r.start address && nat_lt address (r.start + r.size)

abbrev pub rule_8 : List ℕ → Option BadImage
rule_8 bytes = unless (field.entry bytes % 4 == 0 && list_any (is_executed (field.entry bytes)) (ranges bytes)) 8 24

-- ---- 9 the sections

abbrev pub section_stands : List ℕ → ℕ → Bool
section_stands bytes k = nat_le (field.section_offset bytes k + field.section_size bytes k) (length bytes)

abbrev pub section_bytes : List ℕ → ℕ → List ℕ
section_bytes bytes k = slice_range bytes (field.section_offset bytes k) (field.section_offset bytes k + field.section_size bytes k)

-- sections have names where the section of the names is there
abbrev pub have_names : List ℕ → Bool
have_names bytes = nat_lt (field.names_index bytes) (field.section_header_count bytes) && section_stands bytes (field.names_index bytes)

-- the section has the name, which is given with its ending zero
abbrev pub is_named : List ℕ → List ℕ → ℕ → Bool
is_named bytes name k = starts_with nat_eq (drop (field.section_name bytes k) (section_bytes bytes (field.names_index bytes))) name

abbrev pub named : List ℕ → List ℕ → ℕ → Option ℕ
named bytes name k = if is_named bytes name k then Some k else None

-- the first section of a name
abbrev pub first_named : List ℕ → List ℕ → Option ℕ
first_named bytes name = if have_names bytes then first_below (named bytes name) (field.section_header_count bytes) else None

-- the bytes of a section that may be missing; nothing where they don't lie inside the file
abbrev pub content_at : List ℕ → Option ℕ → Option (List ℕ)
content_at bytes None = Some empty_section
content_at bytes (Some k) = if section_stands bytes k then Some (section_bytes bytes k) else None

abbrev pub content : List ℕ → List ℕ → Option (List ℕ)
content bytes name = content_at bytes (first_named bytes name)

abbrev pub sites_name : List ℕ
sites_name = codes ".odin.sites" ++ 0 ∷ []

abbrev pub calls_name : List ℕ
calls_name = codes ".odin.calls" ++ 0 ∷ []

abbrev pub holds : (List ℕ → Bool) → Option (List ℕ) → Bool
holds test None = false
holds test (Some bytes) = test bytes

abbrev pub headers_stand : List ℕ → Bool
headers_stand bytes = nat_le (field.section_headers bytes + 64 * field.section_header_count bytes) (length bytes)

abbrev pub rule_9 : List ℕ → Option BadImage
rule_9 bytes = unless (headers_stand bytes && holds is_sites_section (content bytes sites_name) && holds is_calls_section (content bytes calls_name)) 9 40

-- ---- all of them

-- the first rule that isn't met
abbrev pub refused : List ℕ → Option BadImage
refused bytes =
    or_else (rule_1 bytes) (or_else (rule_2 bytes) (or_else (rule_3 bytes) (or_else (rule_4 bytes) (or_else (rule_5 bytes)
    (or_else (rule_6 bytes) (or_else (rule_7 bytes) (or_else (rule_8 bytes) (rule_9 bytes))))))))

-- an image: its ranges, the address of its first instruction, and its lists
pub record Image : Type 0 where
  pub ranges : List Range
  pub entry : ℕ
  pub lists : Listing

abbrev pub content_of : Option (List ℕ) → List ℕ
content_of None = []
content_of (Some bytes) = bytes

-- the image that the bytes denote
pub record Denotes (bytes : List ℕ) (image : Image) : Type 0 where
  pub all_ranges : image.ranges ≡ ranges bytes
  pub first : image.entry ≡ field.entry bytes
  pub all_lists : image.lists ≡ listing (content_of (content bytes sites_name)) (content_of (content bytes calls_name))
