use Rattle.std.proofs.Common.{◌≡◌, ℕ, ◌+◌, ◌^◌, ◌<◌, List, ◌++◌, length, arith, rules, ap, ◌∙◌}
use Rattle.elf_file.specs.Written.{up_to, header, program_headers, parts_behind, sections, section_headers, file, store_offset, sites_offset}
use Rattle.elf_file.proofs.Denoting.{IsWritten, written}
use Rattle.elf_file.proofs.write.write_elf.Goals as goal

-- the parts of a file, one behind the other
whole : (h p s t a b c d e text store : List ℕ) → a ≡ h → b ≡ a ++ p → c ≡ parts_behind b text store → d ≡ c ++ s → e ≡ d ++ t → e ≡ (parts_behind (h ++ p) text store ++ s) ++ t
whole h p s t a b c d e text store q r u v w =
    w ∙ ap (λ (l : List ℕ). l ++ t) (v ∙ ap (λ (l : List ℕ). l ++ s) (u ∙ ap (λ (l : List ℕ). parts_behind l text store) (r ∙ ap (λ (l : List ℕ). l ++ p) q)))

pub returns : goal.returns
returns c =
    let i = c.args.i.now in
    let out : List ℕ = c.push_section_headers.new.out.items in
    let text : c.len.result ≡ length i.text.items = search rules in
    let given : c.len-2.result ≡ length i.store.items = search rules in
    let size : c.len-3.result ≡ length c.in_ok-sections.sections.bytes.items = search rules in
    let sized : c.len-3.result ≡ length (sections i) = size ∙ ap length c.in_ok-sections.ensures.bytes in
    let store : c.up_to-store.result ≡ store_offset i = c.up_to-store.ensures ∙ ap (λ (n : ℕ). up_to 4096 (4096 + n)) text in
    let first : c.up_to-first.result ≡ sites_offset i =
    c.up_to-first.ensures ∙ ap (λ (n : ℕ). up_to 8 (n + c.len-2.result)) store ∙ ap (λ (n : ℕ). up_to 8 (store_offset i + n)) given in
    let head : c.push_header.new.out.items ≡ header i.entry (sites_offset i + length (sections i)) =
    c.in_ok-push_header.ensures ∙ ap (λ (l : List ℕ). l ++ header i.entry (c.up_to-first.result + c.len-3.result)) c.new-out.ensures.items
    ∙ ap (λ (n : ℕ). header i.entry (n + c.len-3.result)) first ∙ ap (λ (n : ℕ). header i.entry (sites_offset i + n)) sized in
    let more : c.extend_from_slice.new.self.items ≡ c.push_parts.new.out.items ++ sections i =
    c.in_ok-extend_from_slice.ensures.items ∙ ap (λ (l : List ℕ). c.push_parts.new.out.items ++ l) (c.deref.ensures.value ∙ c.in_ok-sections.ensures.bytes) in
    let bytes : out ≡ file i =
    whole (header i.entry (sites_offset i + length (sections i))) (program_headers i) (sections i) (section_headers i)
    c.push_header.new.out.items c.push_program_headers.new.out.items c.push_parts.new.out.items c.extend_from_slice.new.self.items out i.text.items i.store.items
    head c.in_ok-push_program_headers.ensures c.in_ok-push_parts.ensures more c.in_ok-push_section_headers.ensures in
    let small : length out < 2 ^ 64 = omega (arith, c.push_section_headers.new.out.ok, c.push_section_headers.new.out.small) in
    let w : IsWritten out i = written out i bytes c.requires small in
    record { bytes = bytes; accepted = w.accepted; denotes = w.denotes }
