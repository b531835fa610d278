use Rattle.std.proofs.Common.{◌≡◌, ◌+◌, ◌-◌, ◌≤◌, ◌∙◌, ℕ, List, length, map, true, ap, sym, subst, arith}
use Rattle.std.proofs.lemmas.List.{length-map}
use Rattle.odc_typed.specs.View.{proc}
use Rattle.odc_small.specs.Grammar.{Tree}
use Rattle.odc_small.specs.Names.{any, listed, AreDifferent, names_of}
use Rattle.odc_small.specs.Text.{IsKnownText, ReadsText, within}
use Rattle.odc_small.proofs.TextLemmas.{none_any, none_different, none_listed, program_read}
use Rattle.odc_small.proofs.text.read_program.Goals as goal

pub returns-in_default-clause-exact : goal.returns-in_default-clause-exact
returns-in_default-clause-exact c =
    let none : (tree : Tree) → IsKnownText any c.args.text.now tree → ⊥ = rw c.in_default.is at c.in_ok-signatures.ensures in
    none_any c.args.text.now none

pub returns-then-not-are_different-clause-exact : goal.returns-then-not-are_different-clause-exact
returns-then-not-are_different-clause-exact c =
    let first : ReadsText any c.args.text.now (map proc c.in-Some.field-0-0.items) c.in-Some.signatures.items = rw c.in-Some.is at c.in_ok-signatures.ensures in
    let same : c.deref-2.result.now ≡ names_of c.in-Some.signatures.items = c.deref-2.ensures.value ∙ c.in_ok-names.ensures ∙ ap names_of c.deref.ensures.value in
    none_different c.args.text.now (map proc c.in-Some.field-0-0.items) c.in-Some.signatures.items first
    (λ different. let e : c.are_different.result ≡ true = c.are_different.ensures.1 (subst AreDifferent (sym same) different) in let f = c.if-not-are_different.true in cc)

pub text_at-requires-2-clause-few : goal.text_at-requires-2-clause-few
text_at-requires-2-clause-few c =
    let first : ReadsText any c.args.text.now (map proc c.in-Some.field-0-0.items) c.in-Some.signatures.items = rw c.in-Some.is at c.in_ok-signatures.ensures in
    let short : length c.args.text.now ≤ within = omega arith in
    omega (arith, first.fewer, short)

pub returns-in_default-2-clause-exact : goal.returns-in_default-2-clause-exact
returns-in_default-2-clause-exact c =
    let first : ReadsText any c.args.text.now (map proc c.in-Some.field-0-0.items) c.in-Some.signatures.items = rw c.in-Some.is at c.in_ok-signatures.ensures in
    let none : (tree : Tree) → IsKnownText (listed c.in-Some.signatures.items) c.args.text.now tree → ⊥ = rw c.in_default-2.is at c.in_ok-procedures.ensures in
    none_listed c.args.text.now (map proc c.in-Some.field-0-0.items) c.in-Some.signatures.items first none

pub overflow_cast-main : goal.overflow_cast-main
overflow_cast-main c =
    let second : ReadsText (listed c.in-Some.signatures.items) c.args.text.now (map proc c.in-Some-2.procedures.items) c.in-Some-2.field-0-1.items = rw c.in-Some-2.is at c.in_ok-procedures.ensures in
    let short : length c.args.text.now ≤ within = omega arith in
    let many : length (map proc c.in-Some-2.procedures.items) ≡ length c.in-Some-2.procedures.items = length-map c.in-Some-2.procedures.items proc in
    omega (arith, second.few, short, many, c.len.ensures, c.in-Some-2.procedures.ok.0)

pub overflow_sub-main : goal.overflow_sub-main
overflow_sub-main c =
    let second : ReadsText (listed c.in-Some.signatures.items) c.args.text.now (map proc c.in-Some-2.procedures.items) c.in-Some-2.field-0-1.items = rw c.in-Some-2.is at c.in_ok-procedures.ensures in
    let many : length (map proc c.in-Some-2.procedures.items) ≡ length c.in-Some-2.procedures.items = length-map c.in-Some-2.procedures.items proc in
    omega (arith, second.some, many, c.len.ensures, c.in-Some-2.procedures.ok.0)

pub returns-clause-exact : goal.returns-clause-exact
returns-clause-exact c =
    let first : ReadsText any c.args.text.now (map proc c.in-Some.field-0-0.items) c.in-Some.signatures.items = rw c.in-Some.is at c.in_ok-signatures.ensures in
    let second : ReadsText (listed c.in-Some.signatures.items) c.args.text.now (map proc c.in-Some-2.procedures.items) c.in-Some-2.field-0-1.items = rw c.in-Some-2.is at c.in_ok-procedures.ensures in
    let same : c.deref-2.result.now ≡ names_of c.in-Some.signatures.items = c.deref-2.ensures.value ∙ c.in_ok-names.ensures ∙ ap names_of c.deref.ensures.value in
    let different : AreDifferent (names_of c.in-Some.signatures.items) = subst AreDifferent same (c.are_different.ensures.0 c.if-not-are_different.false) in
    let short : length c.args.text.now ≤ within = omega arith in
    let many : length (map proc c.in-Some-2.procedures.items) ≡ length c.in-Some-2.procedures.items = length-map c.in-Some-2.procedures.items proc in
    let last : c.len.result - 1 + 1 ≡ length (map proc c.in-Some-2.procedures.items) = omega (arith, second.some, many, c.len.ensures, c.in-Some-2.procedures.ok.0) in
    program_read c.args.text.now (map proc c.in-Some.field-0-0.items) (map proc c.in-Some-2.procedures.items) c.in-Some.signatures.items c.in-Some-2.field-0-1.items (c.len.result - 1) short first different second last
