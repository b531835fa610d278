-- Where each part of a file stands.
use Rattle.std.proofs.Common.{◌≡◌, ℕ, ◌+◌, List, ◌++◌, length, refl, ap, ◌∙◌, length-append}
use Rattle.rv_sites.specs.Sections.{sites_bytes, calls_bytes}
use Rattle.rv_sites.specs.Listed.{listed}
use Rattle.rv_sites.specs.declared.image.Image.{Image as ToWrite}
use Rattle.elf_file.specs.Written.{up_to, padded, front, parts_behind, sections, section_headers, sites_front, calls_front, names, file, store_offset, sites_offset}
use Rattle.elf_file.proofs.Standing.{StandsAt, all_stands, first_stands, next_stands, second_stands}
use Rattle.elf_file.proofs.Padding.{up_to_8, up_to_page, length-padded, padded_stands}

pub record IsLaid (b : List ℕ) (i : ToWrite) : Type 0 where
  pub front : StandsAt b 0 (front i)
  pub text : StandsAt b 4096 i.text.items
  pub store : StandsAt b (store_offset i) i.store.items
  pub sites : StandsAt b (sites_offset i) (sites_bytes (listed i.sites))
  pub calls : StandsAt b (sites_offset i + length (sites_front i)) (calls_bytes (listed i.sites))
  pub names : StandsAt b (sites_offset i + length (calls_front i)) names
  pub headers : StandsAt b (sites_offset i + length (sections i)) (section_headers i)

pub front_length : (i : ToWrite) → length (front i) ≡ 344
front_length i = refl

first_page : (i : ToWrite) → length (padded 4096 (front i)) ≡ 4096
first_page i = length-padded 4096 (front i) (up_to_page (length (front i))) ∙ ap (up_to 4096) (front_length i)

-- the store begins where the text and the zeros behind it end
store_begins : (i : ToWrite) → length (padded 4096 (padded 4096 (front i) ++ i.text.items)) ≡ store_offset i
store_begins i =
    let before : List ℕ = padded 4096 (front i) ++ i.text.items in
    let size : length before ≡ 4096 + length i.text.items = length-append (padded 4096 (front i)) i.text.items ∙ ap (λ (n : ℕ). n + length i.text.items) (first_page i) in
    length-padded 4096 before (up_to_page (length before)) ∙ ap (up_to 4096) size

pub sections_begin : (i : ToWrite) → length (parts_behind (front i) i.text.items i.store.items) ≡ sites_offset i
sections_begin i =
    let before : List ℕ = padded 4096 (padded 4096 (front i) ++ i.text.items) in
    let size : length (before ++ i.store.items) ≡ store_offset i + length i.store.items = length-append before i.store.items ∙ ap (λ (n : ℕ). n + length i.store.items) (store_begins i) in
    length-padded 8 (before ++ i.store.items) (up_to_8 (length (before ++ i.store.items))) ∙ ap (up_to 8) size

pub laid : (i : ToWrite) → IsLaid (file i) i
laid i =
    let b : List ℕ = file i in
    let page : List ℕ = padded 4096 (front i) in
    let store_front : List ℕ = padded 4096 (page ++ i.text.items) in
    let parts : List ℕ = parts_behind (front i) i.text.items i.store.items in
    let sites : List ℕ = sites_bytes (listed i.sites) in
    let calls : List ℕ = calls_bytes (listed i.sites) in
    let whole : StandsAt b 0 ((parts ++ sections i) ++ section_headers i) = all_stands b in
    let both : StandsAt b 0 (parts ++ sections i) = first_stands b 0 (parts ++ sections i) (section_headers i) whole in
    let in_parts : StandsAt b 0 (store_front ++ i.store.items) = padded_stands b 0 8 (store_front ++ i.store.items) (first_stands b 0 parts (sections i) both) in
    let in_data : StandsAt b 0 (page ++ i.text.items) = padded_stands b 0 4096 (page ++ i.text.items) (first_stands b 0 store_front i.store.items in_parts) in
    let all : StandsAt b (sites_offset i) (calls_front i ++ names) = padded_stands b (sites_offset i) 8 (calls_front i ++ names) (second_stands b (sites_offset i) parts (sections i) both (sections_begin i)) in
    let two : StandsAt b (sites_offset i) (sites_front i ++ calls) = padded_stands b (sites_offset i) 8 (sites_front i ++ calls) (first_stands b (sites_offset i) (calls_front i) names all) in
    let ends : length (parts ++ sections i) ≡ sites_offset i + length (sections i) = length-append parts (sections i) ∙ ap (λ (n : ℕ). n + length (sections i)) (sections_begin i) in
    record {
      front = padded_stands b 0 4096 (front i) (first_stands b 0 page i.text.items in_data);
      text = second_stands b 4096 page i.text.items in_data (first_page i);
      store = second_stands b (store_offset i) store_front i.store.items in_parts (store_begins i);
      sites = padded_stands b (sites_offset i) 8 sites (first_stands b (sites_offset i) (sites_front i) calls two);
      calls = next_stands b (sites_offset i) (sites_offset i + length (sites_front i)) (sites_front i) calls two refl;
      names = next_stands b (sites_offset i) (sites_offset i + length (calls_front i)) (calls_front i) names all refl;
      headers = second_stands b (sites_offset i + length (sections i)) (parts ++ sections i) (section_headers i) whole ends;
    }
