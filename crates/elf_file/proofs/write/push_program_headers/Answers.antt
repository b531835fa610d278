use Rattle.std.proofs.Common.{◌≡◌, ℕ, List, ◌++◌, length, ap, ◌∙◌, rules}
use Rattle.std.proofs.lemmas.Result.{on_ok_weaker}
use Rattle.rv_sites.specs.Layout as layout
use Rattle.elf_file.specs.Written.{program_header, program_headers, text_offset}
use Rattle.elf_file.proofs.Appending.{append_more}
use Rattle.elf_file.proofs.write.push_program_headers.Goals as goal

abbrev text_header : ℕ → List ℕ
text_header size = program_header 5 text_offset layout.text_start size size

abbrev store_header : ℕ → ℕ → ℕ → List ℕ
store_header store given size = program_header 6 store layout.store_start given size

abbrev empty : ℕ → ℕ → ℕ → List ℕ
empty store start size = program_header 6 store start 0 size

abbrev headers : ℕ → ℕ → ℕ → ℕ → List ℕ
headers text given size store =
    text_header text ++ (store_header store given size ++ (empty store layout.heap_start layout.heap_size
    ++ (empty store layout.temp_start layout.temp_size ++ empty store layout.stack_start layout.stack_size)))

-- the five headers, one behind the other
all_headers : (old h1 h2 h3 h4 h5 a b c d e : List ℕ) → a ≡ old ++ h1 → b ≡ a ++ h2 → c ≡ b ++ h3 → d ≡ c ++ h4 → e ≡ d ++ h5 → e ≡ old ++ (h1 ++ (h2 ++ (h3 ++ (h4 ++ h5))))
all_headers old h1 h2 h3 h4 h5 a b c d e p q r s t =
    let last : e ≡ c ++ (h4 ++ h5) = append_more c h4 h5 d e s t in
    let third : e ≡ b ++ (h3 ++ (h4 ++ h5)) = append_more b h3 (h4 ++ h5) c e r last in
    let second : e ≡ a ++ (h2 ++ (h3 ++ (h4 ++ h5))) = append_more a h2 (h3 ++ (h4 ++ h5)) b e q third in
    append_more old h1 (h2 ++ (h3 ++ (h4 ++ h5))) a e p second

pub returns : goal.returns
returns c =
    let i = c.args.i.now in
    let old : List ℕ = c.args.out.now.items in
    let store : ℕ = c.args.store in
    let text : ℕ = c.len-size.result in
    let given : ℕ = c.len.result in
    let made = all_headers old (text_header text) (store_header store given i.store_size) (empty store layout.heap_start layout.heap_size) (empty store layout.temp_start layout.temp_size) (empty store layout.stack_start layout.stack_size)
    c.push_program_header.new.out.items c.push_program_header-2.new.out.items c.push_empty.new.out.items c.push_empty-2.new.out.items c.push_empty-3.new.out.items
    c.in_ok-push_program_header.ensures c.in_ok-push_program_header-2.ensures c.in_ok-push_empty.ensures c.in_ok-push_empty-2.ensures in
    let text_is : text ≡ length i.text.items = search rules in
    let given_is : given ≡ length i.store.items = search rules in
    let same : headers text given i.store_size store ≡ program_headers i =
    ap (λ (n : ℕ). headers n given i.store_size store) text_is
    ∙ ap (λ (n : ℕ). headers (length i.text.items) n i.store_size store) given_is
    ∙ ap (λ (n : ℕ). headers (length i.text.items) (length i.store.items) i.store_size n) c.requires.store in
    on_ok_weaker c.push_empty-3.result (λ e. made e ∙ ap (λ (l : List ℕ). old ++ l) same) c.push_empty-3.ensures
