-- Appending one list after the other.
use Rattle.std.proofs.Common.{◌≡◌, ℕ, ◌<◌, ◌≤◌, List, [], ◌∷◌, ◌++◌, length, get_or, arith, ap, ◌∙◌, refl, append_assoc}
use Rattle.rv_emit.specs.Code.{load_slot, registers_code}

pub two_appended : {A : Type 0} (old x y a b : List A) → a ≡ old ++ x → b ≡ a ++ y → b ≡ old ++ (x ++ y)
two_appended {A} old x y a b p q = q ∙ ap (λ (l : List A). l ++ y) p ∙ append_assoc old x y

pub three_appended : {A : Type 0} (old x y z a b c : List A) → a ≡ old ++ x → b ≡ a ++ y → c ≡ b ++ z → c ≡ old ++ (x ++ (y ++ z))
three_appended {A} old x y z a b c p q r = two_appended old x (y ++ z) a c p (two_appended a y z b c q r)

pub four_appended : {A : Type 0} (old x y z w a b c d : List A) → a ≡ old ++ x → b ≡ a ++ y → c ≡ b ++ z → d ≡ c ++ w → d ≡ old ++ (x ++ (y ++ (z ++ w)))
four_appended {A} old x y z w a b c d p q r s = two_appended old x (y ++ (z ++ w)) a d p (three_appended a y z w b c d q r s)

pub six_appended : {A : Type 0} (old x y z u v w a b c d e f : List A) → a ≡ old ++ x → b ≡ a ++ y → c ≡ b ++ z → d ≡ c ++ u → e ≡ d ++ v → f ≡ e ++ w → f ≡ old ++ (x ++ (y ++ (z ++ (u ++ (v ++ w)))))
six_appended {A} old x y z u v w a b c d e f p q r s t o = three_appended old x y (z ++ (u ++ (v ++ w))) a b f p q (four_appended b z u v w c d e f r s t o)

-- the registers of an allocator call, where there are six arguments
pub registers_six : (frame : ℕ) (xs : List ℕ) → 6 ≤ length xs → length xs < 7 →
    load_slot frame 10 (get_or xs 0 0) ++ (load_slot frame 11 (get_or xs 1 0) ++ (load_slot frame 12 (get_or xs 2 0) ++ (load_slot frame 13 (get_or xs 3 0) ++ (load_slot frame 14 (get_or xs 4 0) ++ load_slot frame 15 (get_or xs 5 0)))))
    ≡ registers_code frame xs
registers_six frame [] h k = absurd (omega arith)
registers_six frame (a ∷ []) h k = absurd (omega arith)
registers_six frame (a ∷ b ∷ []) h k = absurd (omega arith)
registers_six frame (a ∷ b ∷ c ∷ []) h k = absurd (omega arith)
registers_six frame (a ∷ b ∷ c ∷ d ∷ []) h k = absurd (omega arith)
registers_six frame (a ∷ b ∷ c ∷ d ∷ e ∷ []) h k = absurd (omega arith)
registers_six frame (a ∷ b ∷ c ∷ d ∷ e ∷ f ∷ []) h k = refl
registers_six frame (a ∷ b ∷ c ∷ d ∷ e ∷ f ∷ g ∷ xs) h k = absurd (omega arith)
