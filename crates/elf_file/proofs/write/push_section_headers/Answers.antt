use Rattle.std.proofs.Common.{◌≡◌, ℕ, ◌+◌, List, ◌++◌, length, arith, ap, ◌∙◌, length-append}
use Rattle.std.proofs.lemmas.Result.{on_ok_weaker}
use Rattle.rv_sites.specs.Sections.{sites_bytes, calls_bytes}
use Rattle.rv_sites.specs.Listed.{listed}
use Rattle.elf_file.specs.Written.{sites_front, calls_front, names, section_header, section_headers, sites_offset}
use Rattle.elf_file.proofs.Appending.{append_more}
use Rattle.elf_file.proofs.Padding.{padded_grows}
use Rattle.elf_file.proofs.write.push_section_headers.Goals as goal

pub overflow_add-calls : goal.overflow_add-calls
overflow_add-calls c =
    let i = c.args.i.now in
    let first = padded_grows 8 (sites_front i ++ calls_bytes (listed i.sites)) in
    let second = padded_grows 8 (calls_front i ++ names) in
    omega (arith, first, second, length-append (sites_front i) (calls_bytes (listed i.sites)), length-append (calls_front i) names, ap length c.requires.bytes, c.requires.calls, c.requires.fits)

pub overflow_add-names : goal.overflow_add-names
overflow_add-names c =
    let i = c.args.i.now in
    let second = padded_grows 8 (calls_front i ++ names) in
    omega (arith, second, length-append (calls_front i) names, ap length c.requires.bytes, c.requires.names, c.requires.fits)

-- the four headers, one behind the other
all_headers : (old h1 h2 h3 h4 a b c d : List ℕ) → a ≡ old ++ h1 → b ≡ a ++ h2 → c ≡ b ++ h3 → d ≡ c ++ h4 → d ≡ old ++ (h1 ++ (h2 ++ (h3 ++ h4)))
all_headers old h1 h2 h3 h4 a b c d p q r s =
    let second : d ≡ b ++ (h3 ++ h4) = append_more b h3 h4 c d r s in
    let first : d ≡ a ++ (h2 ++ (h3 ++ h4)) = append_more a h2 (h3 ++ h4) b d q second in
    append_more old h1 (h2 ++ (h3 ++ h4)) a d p first

-- the headers of these offsets and sizes
abbrev headers : ℕ → ℕ → ℕ → ℕ → ℕ → List ℕ
headers first size calls calls_size names = section_header 0 0 0 0 0 ++ (section_header 1 1 first size 1 ++ (section_header 13 1 (first + calls) calls_size 1 ++ section_header 25 3 (first + names) 35 1))

pub returns : goal.returns
returns c =
    let i = c.args.i.now in
    let s = c.args.s.now in
    let old : List ℕ = c.args.out.now.items in
    let first : ℕ = c.args.first in
    let made = all_headers old (section_header 0 0 0 0 0) (section_header 1 1 first s.sites_size 1) (section_header 13 1 (first + s.calls) s.calls_size 1) (section_header 25 3 (first + s.names) 35 1)
    c.push_section_header.new.out.items c.push_section_header-2.new.out.items c.push_section_header-3.new.out.items c.push_section_header-4.new.out.items
    c.in_ok-push_section_header.ensures c.in_ok-push_section_header-2.ensures c.in_ok-push_section_header-3.ensures in
    let same : headers first s.sites_size s.calls s.calls_size s.names ≡ section_headers i =
    ap (λ (n : ℕ). headers n s.sites_size s.calls s.calls_size s.names) c.requires.first
    ∙ ap (λ (n : ℕ). headers (sites_offset i) n s.calls s.calls_size s.names) c.requires.sites
    ∙ ap (λ (n : ℕ). headers (sites_offset i) (length (sites_bytes (listed i.sites))) n s.calls_size s.names) c.requires.calls
    ∙ ap (λ (n : ℕ). headers (sites_offset i) (length (sites_bytes (listed i.sites))) (length (sites_front i)) n s.names) c.requires.calls_size
    ∙ ap (λ (n : ℕ). headers (sites_offset i) (length (sites_bytes (listed i.sites))) (length (sites_front i)) (length (calls_bytes (listed i.sites))) n) c.requires.names in
    on_ok_weaker c.push_section_header-4.result (λ e. made e ∙ ap (λ (l : List ℕ). old ++ l) same) c.push_section_header-4.ensures
