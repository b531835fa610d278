use Rattle.std.proofs.Common.{◌≡◌, pos, ◌+ℤ◌, ◌*ℤ◌, ◌^◌, ap, sym, ◌∙◌}
use Rattle.std.proofs.lemmas.Int.{to_z-of_z}
use Rattle.std.specs.Int.{w128}
use Rattle.odc_types.specs.Widths.{bits_of, wrapped}
use Rattle.odc_types.proofs.WidthLemmas.{wrapped_congruent}
use Rattle.odc_types.proofs.width.wrap.Goals as goal

pub returns-clause-congruent : goal.returns-clause-congruent
returns-clause-congruent c =
    let p = wrapped_congruent c.args.w c.args.v in
    let is : c.residue.result ≡ wrapped c.args.w c.args.v =
    c.residue.ensures.value ∙ ap (λ x. wrapped c.args.w x) (to_z-of_z w128 c.args.v c.ranges.v) in
    let back = to_z-of_z w128 c.residue.result (record { sfits = c.residue.type_inv }) in
    (p.0, p.1 ∙ ap (λ z. z +ℤ (p.0 *ℤ pos (2 ^ bits_of c.args.w))) (sym (back ∙ is)))
