use Rattle.std.proofs.Common.{◌≡◌, ◌<◌, Bool, true, false, ℕ, arith, ap, ◌∙◌, sym}
use Rattle.std.specs.Prelude.{not, ◌||◌}
use Rattle.elf_file.specs.Fields as field
use Rattle.elf_file.specs.Rules.{unless, is_load, fits, broken_range}
use Rattle.elf_file.proofs.First.{first_is}
use Rattle.elf_file.proofs.program.read_ranges.Goals as goal

pub returns-then-not-fits-clause-exact : goal.returns-then-not-fits-clause-exact
returns-then-not-fits-clause-exact c =
    let bytes = c.args.bytes.now in
    let k = c.loop-k.k in
    let header : ℕ = field.program_header bytes k in
    let below : k < field.program_header_count bytes = omega (arith, c.half-k-end.ensures) in
    let load : is_load bytes k ≡ true = sym c.loads.ensures ∙ c.if-loads.true in
    let none : fits bytes k ≡ false = sym c.fits.ensures ∙ c.if-not-fits.true in
    let here : broken_range bytes k ≡ unless false 7 header =
    ap (λ (b : Bool). unless (not b || fits bytes k) 7 header) load ∙ ap (λ (b : Bool). unless b 7 header) none in
    let told : unless false 7 header ≡ unless false 7 c.program_header-offset.result = ap (unless false 7) (sym c.program_header-offset.ensures) in
    first_is (broken_range bytes) k (field.program_header_count bytes) _ below c.loop-k.invariant.fit (here ∙ told)
