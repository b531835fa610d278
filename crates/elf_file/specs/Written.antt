-- The file of an image: the header, five program headers, the text and the store, three sections, and their
-- headers.
use Rattle.std.specs.Prelude.{ℕ, ◌+◌, ◌-◌, ◌*◌, ◌/◌, ◌%◌, ◌≡◌, ◌<◌, ◌≤◌, true, false, List, [], ◌∷◌, ◌++◌, length, replicate, codes}
use Rattle.std.specs.List.{flat_map}
use Rattle.rv_table.specs.Run.{Range}
use Rattle.rv_sites.specs.Numbers.{le16, le32, le64}
use Rattle.rv_sites.specs.Sections.{IsListing, sites_bytes, calls_bytes}
use Rattle.rv_sites.specs.Listed.{listed}
use Rattle.rv_sites.specs.declared.image.Image.{Image as ToWrite}
use Rattle.elf_file.specs.Rules.{Image, sites_name, calls_name}
use Rattle.rv_sites.specs.Layout as layout

-- ---- the images that are written

-- the entry is a multiple of 4 inside the text, the text ends at or below the store, the store has no more
-- bytes than its size, which is at most 256 MiB, and each list and text has a length of 32 bits
pub record CanWrite (i : ToWrite) : Type 0 where
  pub aligned : i.entry % 4 ≡ 0
  pub behind : layout.text_start ≤ i.entry
  pub inside : i.entry < layout.text_start + length i.text.items
  pub text : layout.text_start + length i.text.items ≤ layout.store_start
  pub given : length i.store.items ≤ i.store_size
  pub store : i.store_size ≤ layout.store_most
  pub lists : IsListing (listed i.sites)

-- ---- the image that a file is to denote: the text, the store, and the memory of a run

abbrev pub text_range : List ℕ → Range
text_range text = record { start = layout.text_start; size = length text; readable = true; writable = false; executable = true; bytes = text }

abbrev pub memory : ℕ → ℕ → List ℕ → Range
memory start size bytes = record { start = start; size = size; readable = true; writable = true; executable = false; bytes = bytes }

abbrev pub ranges_of : ToWrite → List Range
ranges_of i =
    text_range i.text.items ∷
    memory layout.store_start i.store_size i.store.items ∷
    memory layout.heap_start layout.heap_size [] ∷
    memory layout.temp_start layout.temp_size [] ∷
    memory layout.stack_start layout.stack_size [] ∷
    []

abbrev pub image_of : ToWrite → Image
image_of i = record { ranges = ranges_of i; entry = i.entry; lists = listed i.sites }

-- ---- bytes up to a multiple of a number

-- the first multiple from a number on
abbrev pub up_to : ℕ → ℕ → ℕ
up_to unit n = (n + (unit - 1)) / unit * unit

-- zeros behind the bytes
unfoldable pub padded : ℕ → List ℕ → List ℕ
padded unit bytes = bytes ++ replicate (up_to unit (length bytes) - length bytes) 0

-- ---- where parts begin in the file

abbrev pub text_offset : ℕ
text_offset = 4096

abbrev pub store_offset : ToWrite → ℕ
store_offset i = up_to 4096 (text_offset + length i.text.items)

abbrev pub sites_offset : ToWrite → ℕ
sites_offset i = up_to 8 (store_offset i + length i.store.items)

-- ---- the headers

abbrev pub halves : List ℕ → List ℕ
halves numbers = flat_map le16 numbers

abbrev pub words : List ℕ → List ℕ
words numbers = flat_map le32 numbers

abbrev pub longs : List ℕ → List ℕ
longs numbers = flat_map le64 numbers

-- the magic bytes, class, order of bytes and version
abbrev pub identity : List ℕ
identity = 0x7f ∷ 0x45 ∷ 0x4c ∷ 0x46 ∷ 2 ∷ 1 ∷ 1 ∷ 0 ∷ 0 ∷ 0 ∷ 0 ∷ 0 ∷ 0 ∷ 0 ∷ 0 ∷ 0 ∷ []

-- The type and the machine, the version; the entry, where the program headers and the section headers begin; no
-- flags; the size of this header, size and number of program headers, size and number of section headers, and the
-- section of the names.
abbrev pub header : ℕ → ℕ → List ℕ
header entry sections =
    identity ++ (halves (2 ∷ 243 ∷ []) ++ (words (1 ∷ []) ++ (longs (entry ∷ 64 ∷ sections ∷ [])
    ++ (words (0 ∷ []) ++ halves (64 ∷ 56 ∷ 5 ∷ 64 ∷ 4 ∷ 3 ∷ [])))))

-- Type 1 and the flags; where the bytes stand, the address twice, the sizes in the file and in memory, and what
-- offset and address are multiples of.
abbrev pub program_header : ℕ → ℕ → ℕ → ℕ → ℕ → List ℕ
program_header flags offset address given size =
    words (1 ∷ flags ∷ []) ++ longs (offset ∷ address ∷ address ∷ given ∷ size ∷ 4096 ∷ [])

-- flags 5 to read and execute, 6 to read and write
abbrev pub program_headers : ToWrite → List ℕ
program_headers i =
    program_header 5 text_offset layout.text_start (length i.text.items) (length i.text.items)
    ++ (program_header 6 (store_offset i) layout.store_start (length i.store.items) i.store_size
    ++ (program_header 6 (store_offset i) layout.heap_start 0 layout.heap_size
    ++ (program_header 6 (store_offset i) layout.temp_start 0 layout.temp_size
    ++ program_header 6 (store_offset i) layout.stack_start 0 layout.stack_size)))

-- Where the name begins, and the type; no flags, no address, where the bytes stand, and how many; no link and no
-- more; what addresses are multiples of, and no entries of one size.
abbrev pub section_header : ℕ → ℕ → ℕ → ℕ → ℕ → List ℕ
section_header name kind offset size unit =
    words (name ∷ kind ∷ []) ++ (longs (0 ∷ 0 ∷ offset ∷ size ∷ []) ++ (words (0 ∷ 0 ∷ []) ++ longs (unit ∷ 0 ∷ [])))

-- the names of sections, each with its ending zero: the empty one, and three more
abbrev pub names : List ℕ
names = 0 ∷ [] ++ (sites_name ++ (calls_name ++ (codes ".shstrtab" ++ 0 ∷ [])))

-- ---- the sections, and where they begin, counted from the first of them

abbrev pub sites_front : ToWrite → List ℕ
sites_front i = padded 8 (sites_bytes (listed i.sites))

abbrev pub calls_front : ToWrite → List ℕ
calls_front i = padded 8 (sites_front i ++ calls_bytes (listed i.sites))

abbrev pub sections : ToWrite → List ℕ
sections i = padded 8 (calls_front i ++ names)

abbrev pub section_headers : ToWrite → List ℕ
section_headers i =
    section_header 0 0 0 0 0
    ++ (section_header 1 1 (sites_offset i) (length (sites_bytes (listed i.sites))) 1
    ++ (section_header 13 1 (sites_offset i + length (sites_front i)) (length (calls_bytes (listed i.sites))) 1
    ++ section_header 25 3 (sites_offset i + length (calls_front i)) 35 1))

-- ---- the file

abbrev pub front : ToWrite → List ℕ
front i = header i.entry (sites_offset i + length (sections i)) ++ program_headers i

-- the text and the store behind what stands in front
abbrev pub parts_behind : List ℕ → List ℕ → List ℕ → List ℕ
parts_behind before text store = padded 8 (padded 4096 (padded 4096 before ++ text) ++ store)

abbrev pub file : ToWrite → List ℕ
file i = (parts_behind (front i) i.text.items i.store.items ++ sections i) ++ section_headers i
