-- Reading into a range piece by piece.
use Rattle.std.proofs.Common.{◌≡◌, ℕ, ◌+◌, ◌-◌, ◌≤◌, Bool, true, false, List, [], ◌++◌, length, take, drop, Some, None, Option, eqb, arith, ap, ◌∙◌, sym, subst, refl, append_assoc}
use Rattle.std.proofs.lemmas.Bool.Decides.{nat_tests}
use Rattle.std.proofs.lemmas.List.{length-append, length-take-le, take-append-drop, take-append-le, append-nil, drop-drop}
use Rattle.std.proofs.Math.Seq.{take-append_seam, drop-append-add}
use Rattle.odc_io.specs.Streams.{shrunk, ReadsNext, AtEnd}
use Rattle.rv_table.specs.State.{Area, overwritten}
use Rattle.rv_machine.specs.Outside.{Took, Front}
use Rattle.rv_machine.specs.Turns.{StaysEnded, IsEnded}

-- what is known in the middle of a read
pub record Reading (address size : ℕ) (old now : Area) (source source' : Option (List ℕ)) (ended ended' : Bool) (count : ℕ) : Type 0 where
  pub got : List ℕ
  pub fits : length got ≤ size
  pub counts : count ≡ length got
  pub area : now ≡ overwritten old address got
  pub took : Took source source' got
  pub stays : StaysEnded ended ended' got
  pub over : IsEnded ended' source'

-- ---- taking from a source

pub took_none : (source : Option (List ℕ)) → Took source source []
took_none None = refl
took_none (Some rest) = record { left = rest; parts = refl; now = refl }

pub took_more : (a b c : Option (List ℕ)) (xs ys : List ℕ) → Took a b xs → Took b c ys → Took a c (xs ++ ys)
took_more None b c xs ys h k = let P : Option (List ℕ) → Type 0 = λ o. Took o c ys in let k' : Took None c ys = subst P h k in k'
took_more (Some rest) b c xs ys h k =
    let P : Option (List ℕ) → Type 0 = λ o. Took o c ys in
    let k' : Front h.left c ys = subst P h.now k in
    record {
      left = k'.left;
      parts = h.parts ∙ ap (λ (zs : List ℕ). xs ++ zs) k'.parts ∙ sym (append_assoc xs ys k'.left);
      now = k'.now;
    }

-- what one read takes
pub took_piece : (a b : Option (List ℕ)) (piece : List ℕ) (n : ℕ) → ReadsNext a piece n → b ≡ shrunk a n → Took a b (take n piece)
took_piece None b piece n reads left = left
took_piece (Some rest) b piece n reads left = record {
  left = drop n rest;
  parts = sym (take-append-drop n rest) ∙ ap (λ (zs : List ℕ). zs ++ drop n rest) (sym reads.1);
  now = left;
}

-- ---- a range that is overwritten in parts

pub overwritten_none : (r : Area) (address : ℕ) → overwritten r address [] ≡ r
overwritten_none r address =
    let at = address - r.start in
    let zero : at + length {A = ℕ} [] ≡ at = omega arith in
    let same : take at r.bytes ++ [] ++ drop (at + length {A = ℕ} []) r.bytes ≡ r.bytes =
    ap (λ (xs : List ℕ). xs ++ drop (at + length {A = ℕ} []) r.bytes) (append-nil (take at r.bytes)) ∙ ap (λ (k : ℕ). take at r.bytes ++ drop k r.bytes) zero ∙ take-append-drop at r.bytes in
    ap (λ (bs : List ℕ). record r { bytes = bs }) same

parts : (bs xs ys : List ℕ) (at : ℕ) → at + length xs + length ys ≤ length bs →
    take (at + length xs) (take at bs ++ xs ++ drop (at + length xs) bs) ++ ys ++ drop (at + length xs + length ys) (take at bs ++ xs ++ drop (at + length xs) bs)
    ≡ take at bs ++ (xs ++ ys) ++ drop (at + length (xs ++ ys)) bs
parts bs xs ys at h =
    let front = take at bs ++ xs in
    let back = drop (at + length xs) bs in
    let size : length front ≡ at + length xs = length-append (take at bs) xs ∙ ap (λ (k : ℕ). k + length xs) (length-take-le at bs (omega arith)) in
    let first : take (at + length xs) (front ++ back) ≡ front = ap (λ (k : ℕ). take k (front ++ back)) (sym size) ∙ take-append_seam front back in
    let later : drop (at + length xs + length ys) (front ++ back) ≡ drop (length ys) back =
    ap (λ (k : ℕ). drop (k + length ys) (front ++ back)) (sym size) ∙ drop-append-add front back (length ys) in
    let whole : at + length xs + length ys ≡ at + length (xs ++ ys) = omega (arith, length-append xs ys) in
    let rest : drop (length ys) back ≡ drop (at + length (xs ++ ys)) bs = drop-drop (length ys) (at + length xs) bs ∙ ap (λ (k : ℕ). drop k bs) whole in
    ap (λ (zs : List ℕ). zs ++ ys ++ drop (at + length xs + length ys) (front ++ back)) first
    ∙ ap (λ (zs : List ℕ). front ++ ys ++ zs) (later ∙ rest)
    ∙ ap (λ (zs : List ℕ). zs ++ drop (at + length (xs ++ ys)) bs) (append_assoc (take at bs) xs ys)

pub overwritten_more : (r : Area) (address : ℕ) (xs ys : List ℕ) → r.start ≤ address → address + length xs + length ys ≤ r.start + length r.bytes →
    overwritten (overwritten r address xs) (address + length xs) ys ≡ overwritten r address (xs ++ ys)
overwritten_more r address xs ys low high =
    let place : address + length xs - r.start ≡ address - r.start + length xs = omega arith in
    let once = take (address - r.start) r.bytes ++ xs ++ drop (address - r.start + length xs) r.bytes in
    ap (λ (k : ℕ). record r { bytes = take k once ++ ys ++ drop (k + length ys) once }) place
    ∙ ap (λ (bs : List ℕ). record r { bytes = bs }) (parts r.bytes xs ys (address - r.start) (omega arith))

-- ---- one more piece

end_stays : (a b : Option (List ℕ)) (n : ℕ) → AtEnd a → b ≡ shrunk a n → AtEnd b
end_stays None b n over e = let P : Option (List ℕ) → Type 0 = λ o. AtEnd o in subst P (sym e) tt
end_stays (Some rest) b n over e =
    let P : Option (List ℕ) → Type 0 = λ o. AtEnd o in
    let none : drop n rest ≡ [] = ap (drop n) over ∙ drop_nil n in
    subst P (sym e) none
  where
    drop_nil : (k : ℕ) → drop {A = ℕ} k [] ≡ []
    drop_nil k = grind arith

module _ (address size : ℕ) (old now : Area) (source s1 s2 : Option (List ℕ)) (ended0 : Bool) (count : ℕ) (r : Reading address size old now source s1 ended0 false count) where
  pub reading_more : (into : List ℕ) (n at : ℕ) (after : Area) → n ≤ length into → count + n ≤ size → ReadsNext s1 into n → s2 ≡ shrunk s1 n → (n ≡ 0 → AtEnd s1) →
      old.start ≤ address → address + size ≤ old.start + length old.bytes → old.start + at ≡ address →
      after ≡ overwritten now (now.start + (at + count)) (take n into) →
      Reading address size old after source s2 ended0 (eqb n 0) (count + n)
  reading_more into n at after within room reads left ends low high place new =
      let xs = r.got in
      let ys = take n into in
      let long : length ys ≡ n = length-take-le n into within in
      let joined : length (xs ++ ys) ≡ count + n = omega (arith, length-append xs ys, long, r.counts) in
      let counts : count ≡ length xs = r.counts in
      let there : old.start + (at + count) ≡ address + length xs = omega arith in
      record {
        got = xs ++ ys;
        fits = omega arith;
        counts = sym joined;
        area = new
            ∙ ap (λ (w : Area). overwritten w (w.start + (at + count)) ys) r.area
            ∙ ap (λ (a : ℕ). overwritten (overwritten old address xs) a ys) there
            ∙ overwritten_more old address xs ys low (omega arith);
        took = took_more source s1 s2 xs ys r.took (took_piece s1 s2 into n reads left);
        stays = λ h. absurd (let no : false ≡ true = (r.stays h).1 in cc);
        over = λ h. (let zero : n ≡ 0 = grind (arith, nat_tests) in end_stays s1 s2 n (ends zero) left);
      }

-- the first bytes of a piece are those of its front
pub reads_longer : (rest : Option (List ℕ)) (into tail : List ℕ) (n : ℕ) → n ≤ length into → ReadsNext rest into n → ReadsNext rest (into ++ tail) n
reads_longer None into tail n within h = tt
reads_longer (Some rest) into tail n within h = (h.0, take-append-le n into tail within ∙ h.1)
