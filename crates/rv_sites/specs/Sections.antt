-- The bytes of the two sections `.odin.sites` and `.odin.calls`, and what is read of them.
--
-- `.odin.sites` has the number of paths, the paths, the number of sites, and the sites; `.odin.calls` has the
-- number of procedures, their entries and names, the number of calls, and their addresses.
use Rattle.std.specs.Prelude.{ℕ, zero, suc, ◌*◌, ◌^◌, ◌<◌, ◌==◌, nat_le, nat_lt, Bool, true, ◌&&◌, List, [], ◌∷◌, ◌++◌, length, take, drop, All, if◌then◌else◌}
use Rattle.std.specs.List.{flat_map}
use Rattle.odc_text.specs.Check.{number_of}
use Rattle.odc_text.specs.declared.check.Check.{Check}
use Rattle.odc_text.specs.declared.check.Check.TheVariants.{Index, Slice, Division, Assertion, Nil, Stack, Assert, Panic, Length}
use Rattle.rv_table.specs.Run.{Site}
use Rattle.rv_sites.specs.Numbers.{le32, le64, number32, number64}
use Rattle.rv_sites.specs.declared.sites.ProcedureName.{ProcedureName}

-- the lists of an executable
pub record Listing : Type 0 where
  -- the paths of files, by their numbers
  pub paths : List (List ℕ)
  -- the sites of checks, by their numbers
  pub checks : List Site
  -- procedures with their names
  pub names : List ProcedureName
  -- the addresses of the instructions that call an allocator
  pub calls : List ℕ

-- ---- the bytes

-- the length of a text, and the text
abbrev pub text_bytes : List ℕ → List ℕ
text_bytes text = le32 (length text) ++ text

-- the number of the file, line, column, and the number of the check
abbrev pub check_bytes : Site → List ℕ
check_bytes s = le32 s.1.file.number ++ (le32 s.1.line ++ (le32 s.1.column ++ le32 (number_of s.0)))

abbrev pub name_bytes : ProcedureName → List ℕ
name_bytes n = le64 n.entry ++ text_bytes n.name

abbrev pub sites_bytes : Listing → List ℕ
sites_bytes t = (le32 (length t.paths) ++ flat_map text_bytes t.paths) ++ (le32 (length t.checks) ++ flat_map check_bytes t.checks)

abbrev pub calls_bytes : Listing → List ℕ
calls_bytes t = (le32 (length t.names) ++ flat_map name_bytes t.names) ++ (le32 (length t.calls) ++ flat_map le64 t.calls)

-- ---- lists that have bytes: each length is a number of 32 bits, and each file is one of the paths

abbrev pub IsShortText : List ℕ → Type 0
IsShortText text = length text < 2 ^ 32

abbrev pub IsShortName : ProcedureName → Type 0
IsShortName n = (n.entry < 2 ^ 64) × (length n.name < 2 ^ 32)

abbrev pub IsSiteOf : ℕ → Site → Type 0
IsSiteOf paths s = ((s.1.file.number < paths) × (s.1.line < 2 ^ 32)) × (s.1.column < 2 ^ 32)

abbrev pub IsAddress : ℕ → Type 0
IsAddress address = address < 2 ^ 64

pub record IsListing (t : Listing) : Type 0 where
  pub paths : length t.paths < 2 ^ 32
  pub texts : All IsShortText t.paths
  pub checks : length t.checks < 2 ^ 32
  pub sites : All (IsSiteOf (length t.paths)) t.checks
  pub names : length t.names < 2 ^ 32
  pub entries : All IsShortName t.names
  pub calls : length t.calls < 2 ^ 32
  pub addresses : All IsAddress t.calls

-- ---- what is read: entries one behind the other, each with a test that it stands at the beginning, what it
-- is, and what stands behind it

-- so many entries stand at the beginning
abbrev pub have : (List ℕ → Bool) → (List ℕ → List ℕ) → ℕ → List ℕ → Bool
have test past zero bytes = true
have test past (suc n) bytes = test bytes && have test past n (past bytes)

-- what they are
abbrev pub entries : {A : Type 0} → (List ℕ → A) → (List ℕ → List ℕ) → ℕ → List ℕ → List A
entries entry past zero bytes = []
entries entry past (suc n) bytes = entry bytes ∷ entries entry past n (past bytes)

-- what stands behind them
abbrev pub beyond : (List ℕ → List ℕ) → ℕ → List ℕ → List ℕ
beyond past zero bytes = bytes
beyond past (suc n) bytes = beyond past n (past bytes)

-- a text
abbrev pub has_text : List ℕ → Bool
has_text bytes = nat_le 4 (length bytes) && nat_le (number32 bytes) (length (drop 4 bytes))

abbrev pub text_at : List ℕ → List ℕ
text_at bytes = take (number32 bytes) (drop 4 bytes)

abbrev pub past_text : List ℕ → List ℕ
past_text bytes = drop (number32 bytes) (drop 4 bytes)

-- an entry address and a name
abbrev pub has_name : List ℕ → Bool
has_name bytes = nat_le 8 (length bytes) && has_text (drop 8 bytes)

abbrev pub name_at : List ℕ → ProcedureName
name_at bytes = record { entry = number64 bytes; name = text_at (drop 8 bytes) }

abbrev pub past_name : List ℕ → List ℕ
past_name bytes = past_text (drop 8 bytes)

-- a check has a number from 1 to 9
abbrev pub is_check : ℕ → Bool
is_check n = nat_le 1 n && nat_le n 9

abbrev pub check_numbered : ℕ → Check
check_numbered n =
    if n == 1 then Index else (if n == 2 then Slice else (if n == 3 then Division else (if n == 4 then Assertion
    else (if n == 5 then Nil else (if n == 6 then Stack else (if n == 7 then Assert else (if n == 8 then Panic else Length)))))))

-- a site in one of so many files
abbrev pub has_site : ℕ → List ℕ → Bool
has_site paths bytes = nat_lt (number32 bytes) paths && is_check (number32 (drop 12 bytes))

abbrev pub site_at : List ℕ → Site
site_at bytes = (check_numbered (number32 (drop 12 bytes)), record { file = record { number = number32 bytes }; line = number32 (drop 4 bytes); column = number32 (drop 8 bytes) })

-- a number, and so many entries of this size, fill the bytes
abbrev pub is_filled : ℕ → List ℕ → Bool
is_filled size bytes = nat_le 4 (length bytes) && (length (drop 4 bytes) == size * number32 bytes)

-- a number, and so many entries
abbrev pub have_counted : (List ℕ → Bool) → (List ℕ → List ℕ) → List ℕ → Bool
have_counted test past bytes = nat_le 4 (length bytes) && have test past (number32 bytes) (drop 4 bytes)

abbrev pub counted : {A : Type 0} → (List ℕ → A) → (List ℕ → List ℕ) → List ℕ → List A
counted entry past bytes = entries entry past (number32 bytes) (drop 4 bytes)

abbrev pub beyond_counted : (List ℕ → List ℕ) → List ℕ → List ℕ
beyond_counted past bytes = beyond past (number32 bytes) (drop 4 bytes)

-- the bytes are those of a list of sites, and nothing more
abbrev pub are_sites : ℕ → List ℕ → Bool
are_sites paths bytes = is_filled 16 bytes && have (has_site paths) (drop 16) (number32 bytes) (drop 4 bytes)

-- the bytes are those of a section: its lists fill it, its files are among its paths, its checks are checks
abbrev pub is_sites_section : List ℕ → Bool
is_sites_section bytes = have_counted has_text past_text bytes && are_sites (number32 bytes) (beyond_counted past_text bytes)

abbrev pub is_calls_section : List ℕ → Bool
is_calls_section bytes = have_counted has_name past_name bytes && is_filled 8 (beyond_counted past_name bytes)

-- the lists of two sections
abbrev pub paths_of : List ℕ → List (List ℕ)
paths_of sites = counted text_at past_text sites

abbrev pub sites_of : List ℕ → List Site
sites_of sites = counted site_at (drop 16) (beyond_counted past_text sites)

abbrev pub names_of : List ℕ → List ProcedureName
names_of calls = counted name_at past_name calls

abbrev pub calls_of : List ℕ → List ℕ
calls_of calls = counted number64 (drop 8) (beyond_counted past_name calls)

unfoldable pub listing : List ℕ → List ℕ → Listing
listing sites calls = record { paths = paths_of sites; checks = sites_of sites; names = names_of calls; calls = calls_of calls }

-- a section that isn't there has empty lists
abbrev pub empty_section : List ℕ
empty_section = 0 ∷ 0 ∷ 0 ∷ 0 ∷ 0 ∷ 0 ∷ 0 ∷ 0 ∷ []
