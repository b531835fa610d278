use Rattle.std.proofs.Common.{◌≡◌, ℕ, List, ◌++◌, ap, ◌∙◌}
use Rattle.rv_sites.specs.Sections.{calls_bytes}
use Rattle.rv_sites.specs.Listed.{listed}
use Rattle.elf_file.specs.Written.{padded, sites_front, calls_front, names}
use Rattle.elf_file.proofs.write.sections_of.Goals as goal

pub returns-clause-bytes : goal.returns-clause-bytes
returns-clause-bytes c =
    let i = c.args.i.now in
    let first : c.pad.new.out.items ≡ sites_front i = c.in_ok-pad.ensures ∙ ap (padded 8) c.in_ok-bytes.ensures in
    let list : c.deref.result.now ≡ calls_bytes (listed i.sites) = c.deref.ensures.value ∙ c.in_ok-list.ensures in
    let two : c.extend_from_slice.new.self.items ≡ sites_front i ++ calls_bytes (listed i.sites) =
    c.in_ok-extend_from_slice.ensures.items ∙ ap (λ (l : List ℕ). l ++ c.deref.result.now) first ∙ ap (λ (l : List ℕ). sites_front i ++ l) list in
    let second : c.pad-2.new.out.items ≡ calls_front i = c.in_ok-pad-2.ensures ∙ ap (padded 8) two in
    let three : c.extend_from_slice-2.new.self.items ≡ calls_front i ++ names = c.in_ok-extend_from_slice-2.ensures.items ∙ ap (λ (l : List ℕ). l ++ names) second in
    c.in_ok-pad-3.ensures ∙ ap (padded 8) three
