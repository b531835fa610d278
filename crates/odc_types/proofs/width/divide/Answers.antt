use Rattle.std.proofs.Common.{◌≡◌, ap, ◌∙◌, Some, int_div, to_z, of_z}
use Rattle.std.proofs.lemmas.Int.{to_z-of_z}
use Rattle.std.specs.Int.{w128}
use Rattle.odc_types.specs.Widths.{wrapped, least}
use Rattle.odc_types.proofs.WidthLemmas.{quotient_fits, least_wraps}
use Rattle.odc_types.proofs.width.divide.Goals as goal

pub returns-else-b-eq0-clause-some : goal.returns-else-b-eq0-clause-some
returns-else-b-eq0-clause-some c =
    let back = to_z-of_z w128 c.wrap.result (record { sfits = c.wrap.type_inv }) in
    let a = to_z-of_z w128 c.args.a c.ranges.a in
    let b = to_z-of_z w128 c.args.b c.ranges.b in
    let fits = quotient_fits c.args.w c.args.a c.args.b c.requires.dividend in
    let quotient = to_z-of_z w128 (int_div c.args.a c.args.b) fits in
    let is : c.wrap.result ≡ wrapped c.args.w (int_div c.args.a c.args.b) =
    c.wrap.ensures.value ∙ ap (λ x. wrapped c.args.w (to_z w128 (of_z w128 (int_div x (to_z w128 (of_z w128 c.args.b)))))) a
    ∙ ap (λ y. wrapped c.args.w (to_z w128 (of_z w128 (int_div c.args.a y)))) b ∙ ap (λ q. wrapped c.args.w q) quotient in
    back ∙ is

pub returns-else-b-eq0-clause-least_by_minus_one : goal.returns-else-b-eq0-clause-least_by_minus_one
returns-else-b-eq0-clause-least_by_minus_one c a b s =
    let wraps = least_wraps c.args.w s in
    let at = ap (λ x. wrapped c.args.w (int_div x c.args.b)) a ∙ ap (λ y. wrapped c.args.w (int_div (least c.args.w) y)) b in
    ap Some (returns-else-b-eq0-clause-some c ∙ at ∙ wraps)
