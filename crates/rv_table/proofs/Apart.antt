-- No word matches two rows: each two rows of the table differ in a field that both fix.
use Rattle.std.proofs.Common.{◌≡◌, ℕ, Bool, true, false, cond, ◌⊎◌, inl, inr, List, [], ◌∷◌, arith, ap, ◌∙◌, sym, refl}
use Rattle.std.specs.Prelude.{Some, ◌==◌, ◌&&◌, ◌||◌, not}
use Rattle.std.proofs.lemmas.Bool.Decides.{nat_tests}
use Rattle.rv_table.specs.Fields.{bits}
use Rattle.rv_table.specs.Table.{Row, Upper, Jump, Immediate, Branch, Store, Shift, ShiftWord, Register, Fixed, matches, read, lookup, rows, decoded, IsAmong, IsRow}
use Rattle.rv_table.proofs.Table.{two_parts, three_parts, same}

-- a field of fixed bits
record Fix : Type 0 where
  hi : ℕ
  lo : ℕ
  value : ℕ

abbrev fix : ℕ → ℕ → ℕ → Fix
fix hi lo value = record { hi = hi; lo = lo; value = value }

abbrev fixes : Row → List Fix
fixes (Upper opcode make) = fix 6 0 opcode ∷ []
fixes (Jump opcode make) = fix 6 0 opcode ∷ []
fixes (Immediate opcode funct3 make) = fix 6 0 opcode ∷ fix 14 12 funct3 ∷ []
fixes (Branch opcode funct3 make) = fix 6 0 opcode ∷ fix 14 12 funct3 ∷ []
fixes (Store opcode funct3 make) = fix 6 0 opcode ∷ fix 14 12 funct3 ∷ []
fixes (Shift opcode funct3 upper_six make) = fix 6 0 opcode ∷ fix 14 12 funct3 ∷ fix 31 26 upper_six ∷ []
fixes (ShiftWord opcode funct3 funct7 make) = fix 6 0 opcode ∷ fix 14 12 funct3 ∷ fix 31 25 funct7 ∷ []
fixes (Register opcode funct3 funct7 make) = fix 6 0 opcode ∷ fix 14 12 funct3 ∷ fix 31 25 funct7 ∷ []
fixes (Fixed whole inst) = fix 6 0 (bits 6 0 whole) ∷ fix 31 20 (bits 31 20 whole) ∷ []

abbrev clashes : Fix → Fix → Bool
clashes a b = (a.hi == b.hi) && (a.lo == b.lo) && not (a.value == b.value)

abbrev clash_with : Fix → List Fix → Bool
clash_with a [] = false
clash_with a (b ∷ bs) = clashes a b || clash_with a bs

abbrev clash : List Fix → List Fix → Bool
clash [] bs = false
clash (a ∷ xs) bs = clash_with a bs || clash xs bs

abbrev clear_of : Row → List Row → Bool
clear_of row [] = true
clear_of row (other ∷ rest) = clash (fixes row) (fixes other) && clear_of row rest

abbrev are_apart : List Row → Bool
are_apart [] = true
are_apart (row ∷ rest) = clear_of row rest && are_apart rest

rows_apart : are_apart rows ≡ true
rows_apart = refl

-- ---- what the test says

abbrev Held : ℕ → List Fix → Type 0
Held w [] = Unit {0}
Held w (a ∷ xs) = (bits a.hi a.lo w ≡ a.value) × Held w xs

held : (row : Row) (w : ℕ) → matches row w ≡ true → Held w (fixes row)
held (Upper opcode make) w m = (same (bits 6 0 w) opcode m, tt)
held (Jump opcode make) w m = (same (bits 6 0 w) opcode m, tt)
held (Immediate opcode funct3 make) w m = let p = two_parts (bits 6 0 w == opcode) (bits 14 12 w == funct3) m in (same (bits 6 0 w) opcode p.0, (same (bits 14 12 w) funct3 p.1, tt))
held (Branch opcode funct3 make) w m = let p = two_parts (bits 6 0 w == opcode) (bits 14 12 w == funct3) m in (same (bits 6 0 w) opcode p.0, (same (bits 14 12 w) funct3 p.1, tt))
held (Store opcode funct3 make) w m = let p = two_parts (bits 6 0 w == opcode) (bits 14 12 w == funct3) m in (same (bits 6 0 w) opcode p.0, (same (bits 14 12 w) funct3 p.1, tt))
held (Shift opcode funct3 top make) w m =
    let p = three_parts (bits 6 0 w == opcode) (bits 14 12 w == funct3) (bits 31 26 w == top) m in (same (bits 6 0 w) opcode p.0, (same (bits 14 12 w) funct3 p.1, (same (bits 31 26 w) top p.2, tt)))
held (ShiftWord opcode funct3 top make) w m =
    let p = three_parts (bits 6 0 w == opcode) (bits 14 12 w == funct3) (bits 31 25 w == top) m in (same (bits 6 0 w) opcode p.0, (same (bits 14 12 w) funct3 p.1, (same (bits 31 25 w) top p.2, tt)))
held (Register opcode funct3 top make) w m =
    let p = three_parts (bits 6 0 w == opcode) (bits 14 12 w == funct3) (bits 31 25 w == top) m in (same (bits 6 0 w) opcode p.0, (same (bits 14 12 w) funct3 p.1, (same (bits 31 25 w) top p.2, tt)))
held (Fixed whole inst) w m = let e : w ≡ whole = same w whole m in (ap (bits 6 0) e, (ap (bits 31 20) e, tt))

not_both : (b : Bool) → not b ≡ true → b ≡ true → ⊥
not_both true h e = cc
not_both false h e = cc

or_split : (b c : Bool) → (b || c) ≡ true → (b ≡ true) ⊎ (c ≡ true)
or_split true c h = inl refl
or_split false c h = inr h

no_clash : (a b : Fix) (w : ℕ) → bits a.hi a.lo w ≡ a.value → bits b.hi b.lo w ≡ b.value → clashes a b ≡ true → ⊥
no_clash a b w ha hb c =
    let p = three_parts (a.hi == b.hi) (a.lo == b.lo) (not (a.value == b.value)) c in
    let hi : a.hi ≡ b.hi = same a.hi b.hi p.0 in
    let lo : a.lo ≡ b.lo = same a.lo b.lo p.1 in
    let values : a.value ≡ b.value = sym ha ∙ ap (λ (h : ℕ). bits h a.lo w) hi ∙ ap (λ (l : ℕ). bits b.hi l w) lo ∙ hb in
    let equal : (a.value == b.value) ≡ true = grind (arith, nat_tests) in
    not_both (a.value == b.value) p.2 equal

no_clash_with : (a : Fix) (bs : List Fix) (w : ℕ) → bits a.hi a.lo w ≡ a.value → Held w bs → clash_with a bs ≡ true → ⊥
no_clash_with a [] w ha hb c = cc
no_clash_with a (b ∷ bs) w ha hb c = elim (or_split (clashes a b) (clash_with a bs) c) [ inl x ↦ no_clash a b w ha hb.0 x | inr x ↦ no_clash_with a bs w ha hb.1 x ]

no_clashes : (xs bs : List Fix) (w : ℕ) → Held w xs → Held w bs → clash xs bs ≡ true → ⊥
no_clashes [] bs w hx hb c = cc
no_clashes (a ∷ xs) bs w hx hb c = elim (or_split (clash_with a bs) (clash xs bs) c) [ inl x ↦ no_clash_with a bs w hx.0 hb x | inr x ↦ no_clashes xs bs w hx.1 hb x ]

not_clear : (first row : Row) (rest : List Row) (w : ℕ) → clear_of first rest ≡ true → IsAmong row rest → matches first w ≡ true → matches row w ≡ true → ⊥
not_clear first row [] w c among mf mr = among
not_clear first row (other ∷ rest) w c among mf mr =
    let p = two_parts (clash (fixes first) (fixes other)) (clear_of first rest) c in
    elim among [
      | inl e ↦ no_clashes (fixes first) (fixes other) w (held first w mf) (held other w (ap (λ (r : Row). matches r w) e ∙ mr)) p.0
      | inr among' ↦ not_clear first row rest w p.1 among' mf mr
    ]

found_row : (all : List Row) (row : Row) (w : ℕ) → are_apart all ≡ true → IsAmong row all → matches row w ≡ true → lookup all w ≡ Some (read row w)
found_row [] row w a among m = absurd among
found_row (first ∷ rest) row w a among m =
    let p = two_parts (clear_of first rest) (are_apart rest) a in
    elim among [
      | inl e ↦ (let here : matches first w ≡ true = ap (λ (r : Row). matches r w) e ∙ m in
          ap (λ (b : Bool). cond b (Some (read first w)) (lookup rest w)) here ∙ ap (λ (r : Row). Some (read r w)) e)
      | inr among' ↦ by_first (matches first w) refl p.0 among' (found_row rest row w p.1 among' m)
    ]
  where
    by_first : (b : Bool) → matches first w ≡ b → clear_of first rest ≡ true → IsAmong row rest → lookup rest w ≡ Some (read row w) → cond b (Some (read first w)) (lookup rest w) ≡ Some (read row w)
    by_first false e c among' r = r
    by_first true e c among' r = absurd (not_clear first row rest w c among' e m)

-- a word of any row is decoded by that row
pub decoded_row : (row : Row) (w : ℕ) → IsRow row → matches row w ≡ true → decoded w ≡ Some (read row w)
unfolding decoded IsRow
decoded_row row w is m = found_row rows row w rows_apart is m
