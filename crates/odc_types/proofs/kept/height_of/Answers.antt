use Rattle.std.proofs.Common.{◌≡◌, sym, ap, ◌∙◌, length, subst}
use Rattle.odc_types.specs.Below.{AreBelow}
use Rattle.odc_types.specs.Heights.{clipped}
use Rattle.odc_types.proofs.HeightLaws.{highest_of, named_height, other_height, key_below}
use Rattle.odc_types.proofs.kept.height_of.Goals as goal

pub returns-in-Named : goal.returns-in-Named
returns-in-Named c = λ table n hs below is. named_height table n c.args.key.now is c.in-Named.is

pub returns-in_default : goal.returns-in_default
returns-in_default c = λ table n hs below is.
    let parts = c.as_slice.ensures.value in
    let most = c.highest.ensures table hs (subst (λ ts. AreBelow (length table) ts) (sym parts) (key_below table n c.args.key.now is below)) in
    other_height table n c.args.key.now c.highest.result c.deeper.result is c.in_default.not-Named (subst (λ ts. c.highest.result ≡ clipped (highest_of table ts)) parts most) c.deeper.ensures
