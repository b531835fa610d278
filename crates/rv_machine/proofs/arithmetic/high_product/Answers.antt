-- The product of the signed values is exact.
use Rattle.std.proofs.Common.{◌≡◌, ℕ, ◌/◌, ◌^◌, ap, ◌*ℤ◌, to_z, of_z}
use Rattle.std.specs.Int.{w64, w128}
use Rattle.rv_machine.proofs.Products.{product_is}
use Rattle.rv_machine.proofs.arithmetic.high_product.Goals as goal

pub returns : goal.returns
returns c =
    let x = c.cast_signed.result in
    let y = c.cast_signed-2.result in
    let exact : of_z w128 (to_z w128 (of_z w128 (to_z w128 (of_z w128 (to_z w64 (of_z w64 x))) *ℤ to_z w128 (of_z w128 (to_z w64 (of_z w64 y)))))) ≡ of_z w128 (x *ℤ y) =
    product_is x y c.cast_signed.type_inv c.cast_signed-2.type_inv in
    let joined : c.cast_unsigned.result ≡ of_z w128 (to_z w64 c.args.a *ℤ to_z w64 c.args.b) = cc in
    ap (λ (n : ℕ). n / 2 ^ 64) joined
