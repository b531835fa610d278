use Rattle.std.proofs.Common.{◌≡◌, ◌<◌, Bool, Option, Some, None, ℕ, arith, ap, ◌∙◌, sym}
use Rattle.std.specs.Prelude.{if◌then◌else◌}
use Rattle.elf_file.specs.Fields as field
use Rattle.elf_file.specs.Rules.{named}
use Rattle.elf_file.proofs.First.{first_is}
use Rattle.elf_file.proofs.section.first_with.Goals as goal

pub returns-then-has_name : goal.returns-then-has_name
returns-then-has_name c =
    let k = c.loop-k.k in
    let below : k < field.section_header_count c.args.bytes.now = omega (arith, c.half-k-end.ensures) in
    let here : named c.args.bytes.now c.args.name.now k ≡ Some k = ap (λ (b : Bool). let o : Option ℕ = if b then Some k else None in o) (sym c.has_name.ensures ∙ c.if-has_name.true) in
    (first_is (named c.args.bytes.now c.args.name.now) k (field.section_header_count c.args.bytes.now) k below c.loop-k.invariant here, below)
