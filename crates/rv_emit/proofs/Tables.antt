-- Tables that are made entry by entry, and the sizes that they add up.
use Rattle.std.proofs.Common.{◌≡◌, ℕ, zero, suc, ◌+◌, ◌<◌, ◌≤◌, ◌⊎◌, inl, inr, List, [], ◌∷◌, ◌++◌, length, map, get_or, arith, ap, ◌∙◌, sym, subst, refl, length-append}
use Rattle.std.specs.Prelude.{slice_index}
use Rattle.odc_mid.specs.declared.tree.MidStep.{MidStep}
use Rattle.rv_emit.specs.Code.{step_size, steps_size, size_before}
use Rattle.rv_emit.specs.Blocks.{block, size_in_front, size_of_all}
use Rattle.rv_emit.specs.declared.unlinked.Block.{Block as BlockType}
use Rattle.rv_emit.specs.Tables.{IsTable}

index_front : (xs : List ℕ) (v k : ℕ) → k < length xs → slice_index (xs ++ v ∷ []) k ≡ slice_index xs k
index_front [] v k h = absurd (omega arith)
index_front (x ∷ xs) v zero h = refl
index_front (x ∷ xs) v (suc k) h = index_front xs v k (omega arith)

index_last : (xs : List ℕ) (v : ℕ) → slice_index (xs ++ v ∷ []) (length xs) ≡ v
index_last [] v = refl
index_last (x ∷ xs) v = index_last xs v

-- one more entry
pub table_more : (xs ys : List ℕ) (n v : ℕ) (number : ℕ → ℕ) → IsTable xs n number → v ≡ number n → ys ≡ xs ++ v ∷ [] → IsTable ys (n + 1) number
table_more xs ys n v number t is e =
    let P : List ℕ → Type 0 = λ zs. IsTable zs (n + 1) number in
    subst P (sym e) (record {
      count = length-append xs (v ∷ []) ∙ ap (λ (k : ℕ). k + 1) t.count;
      each = λ k h. by k (grind arith);
    })
  where
    by : (k : ℕ) → (k < n) ⊎ (k ≡ n) → slice_index (xs ++ v ∷ []) k ≡ number k
    by k (inl h) = index_front xs v k (omega (arith, h, t.count)) ∙ t.each k h
    by k (inr h) = let same : k ≡ length xs = h ∙ sym t.count in ap (slice_index (xs ++ v ∷ [])) same ∙ index_last xs v ∙ is ∙ ap number (sym h)

-- ---- one more step

pub size_next : (xs : List MidStep) (i : ℕ) (x : MidStep) → i < length xs → x ≡ get_or xs i x → size_before xs (i + 1) ≡ size_before xs i + step_size x
size_next [] i x h e = absurd (omega arith)
size_next (s ∷ ss) zero x h e = ap (λ y. step_size y + 0) (sym e) ∙ omega arith
size_next (s ∷ ss) (suc i) x h e =
    let next : suc i + 1 ≡ suc (i + 1) = omega arith in
    ap (size_before (s ∷ ss)) next ∙ ap (λ (n : ℕ). step_size s + n) (size_next ss i x (omega arith) e) ∙ omega arith

pub size_fits : (xs : List MidStep) (i : ℕ) (x : MidStep) → i < length xs → x ≡ get_or xs i x → size_before xs i + step_size x ≤ steps_size xs
size_fits [] i x h e = absurd (omega arith)
size_fits (s ∷ ss) zero x h e = let same : step_size x ≡ step_size s = ap step_size e in omega (arith, same)
size_fits (s ∷ ss) (suc i) x h e = let rest : size_before ss i + step_size x ≤ steps_size ss = size_fits ss i x (omega arith) e in omega (arith, rest)

-- the same where the steps are known by another name
pub size_next_of : (xs ys : List MidStep) → ys ≡ xs → (i : ℕ) (x : MidStep) → i < length ys → x ≡ get_or ys i x → size_before xs (i + 1) ≡ size_before xs i + step_size x
size_next_of xs ys same i x h e = let P : List MidStep → Type 0 = λ zs. size_before zs (i + 1) ≡ size_before zs i + step_size x in subst P same (size_next ys i x h e)

pub size_fits_of : (xs ys : List MidStep) → ys ≡ xs → (i : ℕ) (x : MidStep) → i < length ys → x ≡ get_or ys i x → size_before xs i + step_size x ≤ steps_size xs
size_fits_of xs ys same i x h e = let P : List MidStep → Type 0 = λ zs. size_before zs i + step_size x ≤ steps_size zs in subst P same (size_fits ys i x h e)

-- ---- one more block

pub blocks_next : (bs : List BlockType) (f : ℕ) (b : BlockType) → f < length bs → b ≡ get_or bs f b → size_in_front (map block bs) (f + 1) ≡ size_in_front (map block bs) f + length b.code.items
blocks_next [] f b h e = absurd (omega arith)
blocks_next (x ∷ bs) zero b h e = ap (λ (y : BlockType). length y.code.items + 0) (sym e) ∙ omega arith
blocks_next (x ∷ bs) (suc f) b h e =
    let next : suc f + 1 ≡ suc (f + 1) = omega arith in
    ap (size_in_front (map block (x ∷ bs))) next ∙ ap (λ (n : ℕ). length x.code.items + n) (blocks_next bs f b (omega arith) e) ∙ omega arith

pub blocks_fit : (bs : List BlockType) (f : ℕ) (b : BlockType) → f < length bs → b ≡ get_or bs f b → size_in_front (map block bs) f + length b.code.items ≤ size_of_all (map block bs)
blocks_fit [] f b h e = absurd (omega arith)
blocks_fit (x ∷ bs) zero b h e = let same : length b.code.items ≡ length x.code.items = ap (λ (y : BlockType). length y.code.items) e in omega (arith, same)
blocks_fit (x ∷ bs) (suc f) b h e =
    let rest : size_in_front (map block bs) f + length b.code.items ≤ size_of_all (map block bs) = blocks_fit bs f b (omega arith) e in
    omega (arith, rest)
