-- A file of an image meets all nine rules, and denotes that image.
use Rattle.std.proofs.Common.{◌≡◌, ℕ, ◌+◌, ◌*◌, ◌^◌, ◌<◌, ◌≤◌, true, List, [], ◌∷◌, ◌++◌, length, Option, Some, None, arith, refl, ap, ◌∙◌, sym}
use Rattle.std.specs.Prelude.{nat_le, slice_index}
use Rattle.std.specs.List.{list_any}
use Rattle.std.proofs.lemmas.Bool.{le-leb, lt-ltb}
use Rattle.std.proofs.lemmas.Nat.{from_le_bytes-to_le_bytes_8}
use Rattle.rv_table.specs.Run.{Range}
use Rattle.rv_sites.specs.Sections.{sites_bytes, calls_bytes, is_sites_section, is_calls_section, listing}
use Rattle.rv_sites.specs.Listed.{listed}
use Rattle.rv_sites.specs.declared.image.Image.{Image as ToWrite}
use Rattle.rv_sites.specs.Layout as layout
use Rattle.rv_sites.proofs.Spelled.{sites_section, calls_section, listing_back}
use Rattle.elf_file.specs.Fields as field
use Rattle.elf_file.specs.Rules.{Denotes, refused, rule_1, rule_2, rule_3, rule_4, rule_5, rule_6, rule_7, rule_8, rule_9, first_below, broken_range, ranges, ranges_below, is_executed, headers_stand, holds, content, content_of, sites_name, calls_name}
use Rattle.elf_file.specs.Written.{CanWrite, image_of, ranges_of, text_range, memory, file, front, header, program_headers, program_header, section_headers, section_header, sections, sites_front, calls_front, names, store_offset, sites_offset}
use Rattle.elf_file.proofs.Standing.{StandsAt, first_stands, next_stands, ends_inside, from_there, half_inside, long_inside}
use Rattle.elf_file.proofs.Laid.{IsLaid, laid}
use Rattle.elf_file.proofs.Segments.{IsSegment, segment, loads, range_is, next_range, fits_there, AllEnd}
use Rattle.elf_file.proofs.Named.{section, HasSections, sites_content, calls_content}

-- ---- the header

pub record HasHeader (b : List ℕ) (start headers : ℕ) : Type 0 where
  pub one : rule_1 b ≡ None
  pub two : rule_2 b ≡ None
  pub three : rule_3 b ≡ None
  pub four : rule_4 b ≡ None
  pub five : rule_5 b ≡ None
  pub entry : field.entry b ≡ start
  pub programs : field.program_headers b ≡ 64
  pub sections : field.section_headers b ≡ headers
  pub program_count : field.program_header_count b ≡ 5
  pub section_count : field.section_header_count b ≡ 4
  pub index : field.names_index b ≡ 3

long_enough : (b : List ℕ) (entry sections : ℕ) → StandsAt b 0 (header entry sections) → nat_le 64 (length b) ≡ true
long_enough b entry sections s = le-leb 64 (length b) (omega (arith, ends_inside b 0 (header entry sections) s))

pub header_there : (b : List ℕ) (entry sections : ℕ) → StandsAt b 0 (header entry sections) → entry < 2 ^ 64 → sections < 2 ^ 64 → HasHeader b entry sections
header_there b entry sections s small few =
    let part : List ℕ = header entry sections in
    let bytes : b ≡ part ++ s.behind = from_there b 0 part s in
    let long : nat_le 64 (length b) ≡ true = long_enough b entry sections s in
    let byte : (k : ℕ) → slice_index b k ≡ slice_index (part ++ s.behind) k = λ k. ap (λ (l : List ℕ). slice_index l k) bytes in
    record {
      one = rw (long, byte 0, byte 1, byte 2, byte 3) refl;
      two = rw (byte 4, byte 5, byte 6) refl;
      three = rw (half_inside b 0 16 part s) refl;
      four = rw (half_inside b 0 18 part s) refl;
      five = rw (half_inside b 0 52 part s, half_inside b 0 54 part s, half_inside b 0 56 part s) refl;
      entry = long_inside b 0 24 part s ∙ from_le_bytes-to_le_bytes_8 entry small;
      programs = long_inside b 0 32 part s;
      sections = long_inside b 0 40 part s ∙ from_le_bytes-to_le_bytes_8 sections few;
      program_count = half_inside b 0 56 part s;
      section_count = half_inside b 0 60 part s;
      index = half_inside b 0 62 part s;
    }

-- ---- the numbers of a file that is small

pub record AreSmall (b : List ℕ) (i : ToWrite) : Type 0 where
  pub size : length b < 2 ^ 64
  pub entry : i.entry < 2 ^ 64
  pub text : length i.text.items < 2 ^ 64
  pub store : store_offset i < 2 ^ 64
  pub given : length i.store.items < 2 ^ 64

are_small : (b : List ℕ) (i : ToWrite) → IsLaid b i → CanWrite i → length b < 2 ^ 64 → AreSmall b i
are_small b i h w small =
    let store = ends_inside b (store_offset i) i.store.items h.store in
    record {
      size = small;
      entry = omega (arith, w.inside, w.text);
      text = omega (arith, w.text);
      store = omega (arith, store, small);
      given = omega (arith, w.given, w.store);
    }

-- ---- the header of a file

header_of : (b : List ℕ) (i : ToWrite) → IsLaid b i → CanWrite i → length b < 2 ^ 64 → HasHeader b i.entry (sites_offset i + length (sections i))
header_of b i h w small =
    let ends = ends_inside b (sites_offset i + length (sections i)) (section_headers i) h.headers in
    header_there b i.entry (sites_offset i + length (sections i))
    (first_stands b 0 (header i.entry (sites_offset i + length (sections i))) (program_headers i) h.front) (omega (arith, w.inside, w.text)) (omega (arith, ends, small))

-- ---- the ranges of a file

pub record HasSegments (b : List ℕ) (i : ToWrite) : Type 0 where
  pub text : IsSegment b 0 5 4096 layout.text_start (length i.text.items) (length i.text.items)
  pub store : IsSegment b 1 6 (store_offset i) layout.store_start (length i.store.items) i.store_size
  pub heap : IsSegment b 2 6 (store_offset i) layout.heap_start 0 layout.heap_size
  pub temp : IsSegment b 3 6 (store_offset i) layout.temp_start 0 layout.temp_size
  pub stack : IsSegment b 4 6 (store_offset i) layout.stack_start 0 layout.stack_size

segments_of : (b : List ℕ) (i : ToWrite) → IsLaid b i → CanWrite i → AreSmall b i → field.program_headers b ≡ 64 → HasSegments b i
segments_of b i h w small e =
    let size : ℕ = length i.text.items in
    let given : ℕ = length i.store.items in
    let at : ℕ = store_offset i in
    let h0 : List ℕ = program_header 5 4096 layout.text_start size size in
    let h1 : List ℕ = program_header 6 at layout.store_start given i.store_size in
    let h2 : List ℕ = program_header 6 at layout.heap_start 0 layout.heap_size in
    let h3 : List ℕ = program_header 6 at layout.temp_start 0 layout.temp_size in
    let h4 : List ℕ = program_header 6 at layout.stack_start 0 layout.stack_size in
    let s0 : StandsAt b 64 (h0 ++ (h1 ++ (h2 ++ (h3 ++ h4)))) = next_stands b 0 64 (header i.entry (sites_offset i + length (sections i))) (program_headers i) h.front refl in
    let s1 : StandsAt b 120 (h1 ++ (h2 ++ (h3 ++ h4))) = next_stands b 64 120 h0 (h1 ++ (h2 ++ (h3 ++ h4))) s0 refl in
    let s2 : StandsAt b 176 (h2 ++ (h3 ++ h4)) = next_stands b 120 176 h1 (h2 ++ (h3 ++ h4)) s1 refl in
    let s3 : StandsAt b 232 (h3 ++ h4) = next_stands b 176 232 h2 (h3 ++ h4) s2 refl in
    let s4 : StandsAt b 288 h4 = next_stands b 232 288 h3 h4 s3 refl in
    record {
      text = segment b 0 5 4096 layout.text_start size size e (first_stands b 64 h0 (h1 ++ (h2 ++ (h3 ++ h4))) s0) (omega arith) (omega arith) (omega arith) small.text small.text;
      store = segment b 1 6 at layout.store_start given i.store_size e (first_stands b 120 h1 (h2 ++ (h3 ++ h4)) s1) (omega arith) small.store (omega arith) small.given (omega (arith, w.store));
      heap = segment b 2 6 at layout.heap_start 0 layout.heap_size e (first_stands b 176 h2 (h3 ++ h4) s2) (omega arith) small.store (omega arith) (omega arith) (omega arith);
      temp = segment b 3 6 at layout.temp_start 0 layout.temp_size e (first_stands b 232 h3 h4 s3) (omega arith) small.store (omega arith) (omega arith) (omega arith);
      stack = segment b 4 6 at layout.stack_start 0 layout.stack_size e s4 (omega arith) small.store (omega arith) (omega arith) (omega arith);
    }

pub record HasRanges (b : List ℕ) (i : ToWrite) : Type 0 where
  pub fit : first_below (broken_range b) 5 ≡ None
  pub listed : ranges_below b 5 ≡ ranges_of i

-- nothing stands at the place of a part that is there
none_stands : (b : List ℕ) (at : ℕ) (part : List ℕ) → StandsAt b at part → StandsAt b at []
none_stands b at part s = first_stands b at [] part s

ranges_there : (b : List ℕ) (i : ToWrite) → IsLaid b i → CanWrite i → HasSegments b i → HasRanges b i
ranges_there b i h w s =
    let r0 : Range = text_range i.text.items in
    let r1 : Range = memory layout.store_start i.store_size i.store.items in
    let r2 : Range = memory layout.heap_start layout.heap_size [] in
    let r3 : Range = memory layout.temp_start layout.temp_size [] in
    let r4 : Range = memory layout.stack_start layout.stack_size [] in
    let at : ℕ = store_offset i in
    let none : StandsAt b at [] = none_stands b at i.store.items h.store in
    let e0 : ranges_below b 0 ≡ [] = refl in
    let e1 : ranges_below b 1 ≡ r0 ∷ [] = next_range b 0 [] r0 (loads b 0 5 4096 layout.text_start (length i.text.items) (length i.text.items) s.text) (range_is b 0 5 4096 layout.text_start (length i.text.items) i.text.items s.text h.text) e0 in
    let e2 : ranges_below b 2 ≡ r0 ∷ r1 ∷ [] = next_range b 1 (r0 ∷ []) r1 (loads b 1 6 at layout.store_start (length i.store.items) i.store_size s.store) (range_is b 1 6 at layout.store_start i.store_size i.store.items s.store h.store) e1 in
    let e3 : ranges_below b 3 ≡ r0 ∷ r1 ∷ r2 ∷ [] = next_range b 2 (r0 ∷ r1 ∷ []) r2 (loads b 2 6 at layout.heap_start 0 layout.heap_size s.heap) (range_is b 2 6 at layout.heap_start layout.heap_size [] s.heap none) e2 in
    let e4 : ranges_below b 4 ≡ r0 ∷ r1 ∷ r2 ∷ r3 ∷ [] = next_range b 3 (r0 ∷ r1 ∷ r2 ∷ []) r3 (loads b 3 6 at layout.temp_start 0 layout.temp_size s.temp) (range_is b 3 6 at layout.temp_start layout.temp_size [] s.temp none) e3 in
    let e5 : ranges_below b 5 ≡ r0 ∷ r1 ∷ r2 ∷ r3 ∷ r4 ∷ [] = next_range b 4 (r0 ∷ r1 ∷ r2 ∷ r3 ∷ []) r4 (loads b 4 6 at layout.stack_start 0 layout.stack_size s.stack) (range_is b 4 6 at layout.stack_start layout.stack_size [] s.stack none) e4 in
    let a1 : AllEnd layout.store_start (r0 ∷ []) = (w.text, tt) in
    let a2 : AllEnd layout.heap_start (r0 ∷ r1 ∷ []) = (omega (arith, w.text), (omega (arith, w.store), tt)) in
    let a3 : AllEnd layout.temp_start (r0 ∷ r1 ∷ r2 ∷ []) = (omega (arith, w.text), (omega (arith, w.store), (omega arith, tt))) in
    let a4 : AllEnd layout.stack_start (r0 ∷ r1 ∷ r2 ∷ r3 ∷ []) = (omega (arith, w.text), (omega (arith, w.store), (omega arith, (omega arith, tt)))) in
    let f0 : broken_range b 0 ≡ None = fits_there b 0 5 4096 layout.text_start (length i.text.items) i.text.items [] s.text h.text e0 (omega arith) (omega arith) (omega (arith, w.text)) (tt) in
    let f1 : broken_range b 1 ≡ None = fits_there b 1 6 at layout.store_start i.store_size i.store.items (r0 ∷ []) s.store h.store e1 w.given (omega arith) (omega (arith, w.store)) a1 in
    let f2 : broken_range b 2 ≡ None = fits_there b 2 6 at layout.heap_start layout.heap_size [] (r0 ∷ r1 ∷ []) s.heap none e2 (omega arith) (omega arith) (omega arith) a2 in
    let f3 : broken_range b 3 ≡ None = fits_there b 3 6 at layout.temp_start layout.temp_size [] (r0 ∷ r1 ∷ r2 ∷ []) s.temp none e3 (omega arith) (omega arith) (omega arith) a3 in
    let f4 : broken_range b 4 ≡ None = fits_there b 4 6 at layout.stack_start layout.stack_size [] (r0 ∷ r1 ∷ r2 ∷ r3 ∷ []) s.stack none e4 (omega arith) (omega arith) (omega arith) a4 in
    record { fit = rw (f0, f1, f2, f3, f4) refl; listed = e5 }

-- ---- the sections of a file

sections_of : (b : List ℕ) (i : ToWrite) → IsLaid b i → length b < 2 ^ 64 → HasHeader b i.entry (sites_offset i + length (sections i)) → HasSections b (sites_bytes (listed i.sites)) (calls_bytes (listed i.sites))
sections_of b i h small head =
    let sites : List ℕ = sites_bytes (listed i.sites) in
    let calls : List ℕ = calls_bytes (listed i.sites) in
    let at : ℕ = sites_offset i + length (sections i) in
    let first : ℕ = sites_offset i in
    let second : ℕ = sites_offset i + length (sites_front i) in
    let third : ℕ = sites_offset i + length (calls_front i) in
    let h0 : List ℕ = section_header 0 0 0 0 0 in
    let h1 : List ℕ = section_header 1 1 first (length sites) 1 in
    let h2 : List ℕ = section_header 13 1 second (length calls) 1 in
    let h3 : List ℕ = section_header 25 3 third 35 1 in
    let s0 : StandsAt b at (h0 ++ (h1 ++ (h2 ++ h3))) = h.headers in
    let s1 : StandsAt b (at + 64) (h1 ++ (h2 ++ h3)) = next_stands b at (at + 64) h0 (h1 ++ (h2 ++ h3)) s0 refl in
    let s2 : StandsAt b (at + 128) (h2 ++ h3) = next_stands b (at + 64) (at + 128) h1 (h2 ++ h3) s1 (omega arith) in
    let s3 : StandsAt b (at + 192) h3 = next_stands b (at + 128) (at + 192) h2 h3 s2 (omega arith) in
    let begin : field.section_headers b ≡ at = head.sections in
    record {
      count = head.section_count;
      index = head.index;
      none = section b 0 at 0 0 0 0 [] (omega (arith, begin)) (first_stands b at h0 (h1 ++ (h2 ++ h3)) s0) (none_stands b 0 (front i) h.front) (omega arith) small;
      sites = section b 1 (at + 64) 1 1 first 1 sites (omega (arith, begin)) (first_stands b (at + 64) h1 (h2 ++ h3) s1) h.sites (omega arith) small;
      calls = section b 2 (at + 128) 13 1 second 1 calls (omega (arith, begin)) (first_stands b (at + 128) h2 h3 s2) h.calls (omega arith) small;
      names = section b 3 (at + 192) 25 3 third 1 names (omega (arith, begin)) s3 h.names (omega arith) small;
    }

-- ---- all of it

is_executed_there : (entry size : ℕ) (text : List ℕ) → layout.text_start ≤ entry → entry < layout.text_start + length text → is_executed entry (text_range text) ≡ true
is_executed_there entry size text low high = rw (le-leb layout.text_start entry low, lt-ltb entry (layout.text_start + length text) high) refl

pub record IsWritten (b : List ℕ) (i : ToWrite) : Type 0 where
  pub accepted : refused b ≡ None
  pub denotes : Denotes b (image_of i)

pub written : (b : List ℕ) (i : ToWrite) → b ≡ file i → CanWrite i → length b < 2 ^ 64 → IsWritten b i
written b i is w small =
    let h : IsLaid b i = rw is (laid i) in
    let head = header_of b i h w small in
    let s : HasSegments b i = segments_of b i h w (are_small b i h w small) head.programs in
    let r : HasRanges b i = ranges_there b i h w s in
    let t : HasSections b (sites_bytes (listed i.sites)) (calls_bytes (listed i.sites)) = sections_of b i h small head in
    let all : ranges b ≡ ranges_of i = ap (ranges_below b) head.program_count ∙ r.listed in
    let inside : nat_le (field.program_headers b + 56 * field.program_header_count b) (length b) ≡ true =
    rw (head.programs, head.program_count) (le-leb 344 (length b) (omega (arith, ends_inside b 0 (front i) h.front))) in
    let seven : rule_7 b ≡ None = ap (first_below (broken_range b)) head.program_count ∙ r.fit in
    let executed : is_executed i.entry (text_range i.text.items) ≡ true = is_executed_there i.entry 0 i.text.items w.behind w.inside in
    let any : list_any (is_executed i.entry) (ranges_of i) ≡ true = rw executed refl in
    let eight : rule_8 b ≡ None = rw (head.entry, w.aligned, all, any) refl in
    let ends = ends_inside b (sites_offset i + length (sections i)) (section_headers i) h.headers in
    let stand : headers_stand b ≡ true = rw (head.sections, head.section_count) (le-leb (sites_offset i + length (sections i) + 256) (length b) (omega (arith, ends))) in
    let sites : content b sites_name ≡ Some (sites_bytes (listed i.sites)) = sites_content b (sites_bytes (listed i.sites)) (calls_bytes (listed i.sites)) t in
    let calls : content b calls_name ≡ Some (calls_bytes (listed i.sites)) = calls_content b (sites_bytes (listed i.sites)) (calls_bytes (listed i.sites)) t in
    let sites_hold : holds is_sites_section (content b sites_name) ≡ true = ap (holds is_sites_section) sites ∙ sites_section (listed i.sites) w.lists in
    let calls_hold : holds is_calls_section (content b calls_name) ≡ true = ap (holds is_calls_section) calls ∙ calls_section (listed i.sites) w.lists in
    let nine : rule_9 b ≡ None = rw (stand, sites_hold, calls_hold) refl in
    let six : rule_6 b ≡ None = rw inside refl in
    let lists : listing (content_of (content b sites_name)) (content_of (content b calls_name)) ≡ listed i.sites =
    ap (λ (o : Option (List ℕ)). listing (content_of o) (content_of (content b calls_name))) sites
    ∙ ap (λ (o : Option (List ℕ)). listing (sites_bytes (listed i.sites)) (content_of o)) calls ∙ listing_back (listed i.sites) w.lists in
    record {
      accepted = rw (head.one, head.two, head.three, head.four, head.five, six, seven, eight, nine) refl;
      denotes = record { all_ranges = sym all; first = sym head.entry; all_lists = sym lists };
    }
