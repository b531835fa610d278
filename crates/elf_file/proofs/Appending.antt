-- Bytes appended in several steps.
use Rattle.std.proofs.Common.{◌≡◌, List, ◌++◌, ap, ◌∙◌, append_assoc}

-- `x` is appended to `old`, and then `y`
pub append_more : {A : Type 0} (old x y a b : List A) → a ≡ old ++ x → b ≡ a ++ y → b ≡ old ++ (x ++ y)
append_more old x y a b p q = q ∙ ap (λ (l : List _). l ++ y) p ∙ append_assoc old x y
