use Rattle.std.proofs.Common.{◌≡◌, ℕ, List, ap, ◌∙◌, sym}
use Rattle.rv_table.specs.Run.{Range}
use Rattle.rv_sites.specs.Sections.{Listing}
use Rattle.elf_file.specs.Rules.{Image, Denotes}
use Rattle.elf_file.proofs.laws.a_file_denotes_one_image.Goals as goal

abbrev seen : List Range → ℕ → Listing → Image
seen ranges entry lists = record { ranges = ranges; entry = entry; lists = lists }

one : (bytes : List ℕ) (a b : Image) → Denotes bytes a → Denotes bytes b → a ≡ b
one bytes a b p q =
    ap (λ (r : List Range). seen r a.entry a.lists) (p.all_ranges ∙ sym q.all_ranges)
    ∙ ap (λ (n : ℕ). seen b.ranges n a.lists) (p.first ∙ sym q.first)
    ∙ ap (λ (l : Listing). seen b.ranges b.entry l) (p.all_lists ∙ sym q.all_lists)

pub returns : goal.returns
returns c = one
