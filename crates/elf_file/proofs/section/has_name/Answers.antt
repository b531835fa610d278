use Rattle.std.proofs.Common.{◌≡◌, ℕ, ◌<◌, ◌≤◌, List, [], ◌∷◌, false, length, drop, arith, refl, ap, ◌∙◌, sym}
use Rattle.std.specs.Prelude.{nat_eq}
use Rattle.std.specs.List.{starts_with}
use Rattle.std.proofs.Math.ListN.{drop_of_length-le}
use Rattle.elf_file.specs.Fields as field
use Rattle.elf_file.proofs.section.has_name.Goals as goal

none_starts : (name : List ℕ) → 0 < length name → starts_with nat_eq [] name ≡ false
none_starts [] h = absurd (omega arith)
none_starts (x ∷ xs) h = refl

pub returns-then-at-names : goal.returns-then-at-names
returns-then-at-names c =
    let bytes = c.args.bytes.now in
    let at = field.section_name bytes c.args.k in
    let place : c.word-at.result ≡ at = c.word-at.ensures ∙ ap (field.word bytes) c.section_header.ensures in
    let past : length c.args.names.now ≤ at = omega (arith, place) in
    let empty : drop at c.args.names.now ≡ [] = drop_of_length-le c.args.names.now past in
    sym (ap (λ (l : List ℕ). starts_with nat_eq (drop at l) c.args.name.now) (sym c.requires.names)
    ∙ ap (λ (l : List ℕ). starts_with nat_eq l c.args.name.now) empty
    ∙ none_starts c.args.name.now c.requires.name)
