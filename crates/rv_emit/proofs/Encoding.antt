-- The bytes of instructions, one more at a time.
use Rattle.std.proofs.Common.{◌≡◌, ℕ, zero, suc, ◌+◌, ◌^◌, ◌<◌, List, [], ◌∷◌, ◌++◌, arith, ap, ◌∙◌, sym, subst, length, get_or, take}
use Rattle.std.specs.Prelude.{Some}
use Rattle.std.specs.Int.{w32, to_le_bytes}
use Rattle.rv_table.specs.declared.inst.Inst.{Inst}
use Rattle.rv_table.specs.Table.{decoded, Fits}
use Rattle.rv_emit.specs.Encoded.{Mean, IsEncoded, AllFit}
use Rattle.std.proofs.lemmas.List.{take_more}
use Rattle.std.proofs.lemmas.Grind.{flat_map-append}

mean_push : (words : List ℕ) (code : List Inst) (w : ℕ) (x : Inst) → Mean words code → w < 2 ^ 32 → decoded w ≡ Some x → Mean (words ++ w ∷ []) (code ++ x ∷ [])
mean_push [] [] w x h small e = ((small, e), tt)
mean_push (v ∷ vs) (i ∷ is) w x h small e = (h.0, mean_push vs is w x h.1 small e)
mean_push [] (i ∷ is) w x h small e = absurd h
mean_push (v ∷ vs) [] w x h small e = absurd h

-- one more instruction
pub encoded_more : (text text' : List ℕ) (code : List Inst) (i w : ℕ) (d : Inst) → i < length code → IsEncoded text (take i code) → w < 2 ^ 32 → decoded w ≡ Some (get_or code i d) →
    text' ≡ text ++ to_le_bytes w32 w → IsEncoded text' (take (i + 1) code)
encoded_more text text' code i w d h e small means is =
    let P : List Inst → Type 0 = λ c. IsEncoded text' c in
    subst P (sym (take_more code i d h)) (record {
      words = e.words ++ w ∷ [];
      mean = mean_push e.words (take i code) w (get_or code i d) e.mean small means;
      bytes = is ∙ ap (λ (b : List ℕ). b ++ to_le_bytes w32 w) e.bytes ∙ sym (flat_map-append (to_le_bytes w32) e.words (w ∷ []));
    })

-- the fields of the instruction at a position have their widths
pub fit_at : (code : List Inst) (k : ℕ) (d : Inst) → AllFit code → k < length code → Fits (get_or code k d)
fit_at [] k d f h = absurd (omega arith)
fit_at (i ∷ code) zero d f h = f.0
fit_at (i ∷ code) (suc k) d f h = fit_at code k d f.1 (omega arith)
