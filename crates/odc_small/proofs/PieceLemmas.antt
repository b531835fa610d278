-- Names and signs at the front of a text: each text begins with one at most.
use Rattle.std.proofs.Common.{◌≡◌, ℕ, List, ◌∷◌, refl, sym, ◌∙◌, arith}
use Rattle.odc_small.specs.Reading.{names, uppers, scales, signs, relations}
use Rattle.odc_small.specs.declared.grammar.Sign.TheVariants.{Plus, Minus}
use Rattle.odc_small.specs.declared.grammar.Scale.TheVariants.{Times, Over, Rest}
use Rattle.odc_small.specs.declared.grammar.Relation.TheVariants.{Less, Same}
use Rattle.odc_small.proofs.FormLemmas.{Unique}

pub heads : (a b : ℕ) (x y : List ℕ) → a ∷ x ≡ b ∷ y → a ≡ b
heads a b x y e = cc

pub tails : (a b : ℕ) (x y : List ℕ) → a ∷ x ≡ b ∷ y → x ≡ y
tails a b x y e = cc

-- the second bytes
pub seconds : (a b c d : ℕ) (x y : List ℕ) → a ∷ c ∷ x ≡ b ∷ d ∷ y → c ≡ d
seconds a b c d x y e = heads c d x y (tails a b (c ∷ x) (d ∷ y) e)

-- what is behind three bytes
pub thirds : (a b c d e f : ℕ) (x y : List ℕ) → a ∷ c ∷ e ∷ x ≡ b ∷ d ∷ f ∷ y → x ≡ y
thirds a b c d e f x y h = tails e f x y (tails c d (e ∷ x) (f ∷ y) (tails a b (c ∷ e ∷ x) (d ∷ f ∷ y) h))

pub names_unique : Unique names
names_unique bytes c d r s f g =
    let e : c ∷ r ≡ d ∷ s = sym f.whole ∙ g.whole in
    (heads c d r s e, tails c d r s e)

pub uppers_unique : Unique uppers
uppers_unique bytes c d r s f g =
    let e : c ∷ r ≡ d ∷ s = sym f.whole ∙ g.whole in
    (heads c d r s e, tails c d r s e)

pub scales_unique : Unique scales
scales_unique bytes Times Times r s f g = (refl, thirds 32 32 42 42 32 32 r s (sym f.whole ∙ g.whole))
scales_unique bytes Over Over r s f g = (refl, thirds 32 32 47 47 32 32 r s (sym f.whole ∙ g.whole))
scales_unique bytes Rest Rest r s f g = (refl, thirds 32 32 37 37 32 32 r s (sym f.whole ∙ g.whole))
scales_unique bytes Times Over r s f g = absurd (omega (arith, seconds 32 32 42 47 (32 ∷ r) (32 ∷ s) (sym f.whole ∙ g.whole)))
scales_unique bytes Times Rest r s f g = absurd (omega (arith, seconds 32 32 42 37 (32 ∷ r) (32 ∷ s) (sym f.whole ∙ g.whole)))
scales_unique bytes Over Times r s f g = absurd (omega (arith, seconds 32 32 47 42 (32 ∷ r) (32 ∷ s) (sym f.whole ∙ g.whole)))
scales_unique bytes Over Rest r s f g = absurd (omega (arith, seconds 32 32 47 37 (32 ∷ r) (32 ∷ s) (sym f.whole ∙ g.whole)))
scales_unique bytes Rest Times r s f g = absurd (omega (arith, seconds 32 32 37 42 (32 ∷ r) (32 ∷ s) (sym f.whole ∙ g.whole)))
scales_unique bytes Rest Over r s f g = absurd (omega (arith, seconds 32 32 37 47 (32 ∷ r) (32 ∷ s) (sym f.whole ∙ g.whole)))

pub signs_unique : Unique signs
signs_unique bytes Plus Plus r s f g = (refl, thirds 32 32 43 43 32 32 r s (sym f.whole ∙ g.whole))
signs_unique bytes Minus Minus r s f g = (refl, thirds 32 32 45 45 32 32 r s (sym f.whole ∙ g.whole))
signs_unique bytes Plus Minus r s f g = absurd (omega (arith, seconds 32 32 43 45 (32 ∷ r) (32 ∷ s) (sym f.whole ∙ g.whole)))
signs_unique bytes Minus Plus r s f g = absurd (omega (arith, seconds 32 32 45 43 (32 ∷ r) (32 ∷ s) (sym f.whole ∙ g.whole)))

pub relations_unique : Unique relations
relations_unique bytes Less Less r s f g = (refl, thirds 32 32 60 60 32 32 r s (sym f.whole ∙ g.whole))
relations_unique bytes Same Same r s f g = (refl, tails 32 32 r s (thirds 32 32 61 61 61 61 (32 ∷ r) (32 ∷ s) (sym f.whole ∙ g.whole)))
relations_unique bytes Less Same r s f g = absurd (omega (arith, seconds 32 32 60 61 (32 ∷ r) (61 ∷ 32 ∷ s) (sym f.whole ∙ g.whole)))
relations_unique bytes Same Less r s f g = absurd (omega (arith, seconds 32 32 61 60 (61 ∷ 32 ∷ r) (32 ∷ s) (sym f.whole ∙ g.whole)))
