-- What is written in several steps.
use Rattle.std.proofs.Common.{◌≡◌, ℕ, ◌+◌, ◌-◌, ◌<◌, ◌≤◌, List, [], ◌∷◌, ◌++◌, length, take, drop, get_or, Some, None, refl, sym, ◌∙◌, ap, append_assoc, Option, arith, length-append}
use Rattle.std.specs.declared.vec.Vec.{Vec}
use Rattle.std.specs.declared.alloc.Global.{Global}
use Rattle.std.proofs.lemmas.List.{take_rest, take_more, take-append-drop, take-append-le, append-nil}
use Rattle.std.proofs.Math.Seq.{take-add, take-append-add}
use Rattle.odc_io.specs.Streams.{grown, GrewByFront, concatenated}

-- two writes are one write of both texts
pub grown_twice : (o : Option (List ℕ)) (a b : List ℕ) → grown (grown o a) b ≡ grown o (a ++ b)
grown_twice None a b = refl
grown_twice (Some w) a b = ap (λ z. Some z) (append_assoc w a b)

-- n more bytes of a text of which the first ones were written
pub grown_more : (first now new : Option (List ℕ)) (xs : List ℕ) (at n : ℕ)
    → now ≡ grown first (take at xs) → new ≡ grown now (take n (take (length xs - at) (drop at xs)))
    → new ≡ grown first (take (at + n) xs)
grown_more first now new xs at n told step =
    step ∙ ap (λ w. grown w (take n (take (length xs - at) (drop at xs)))) told ∙ rw (take_rest xs at, grown_twice first (take at xs) (take n (drop at xs)), take-add at n xs) refl

pub concatenated-append : (ps qs : List (Vec ℕ Global)) → concatenated (ps ++ qs) ≡ concatenated ps ++ concatenated qs
concatenated-append [] qs = refl
concatenated-append (p ∷ ps) qs = ap (λ z. p.items ++ z) (concatenated-append ps qs) ∙ sym (append_assoc p.items (concatenated ps) (concatenated qs))

-- one piece more
concatenated_more : (ps : List (Vec ℕ Global)) (i : ℕ) (p : Vec ℕ Global) → i < length ps → p ≡ get_or ps i p
    → concatenated (take (i + 1) ps) ≡ concatenated (take i ps) ++ p.items
concatenated_more ps i p h e =
    ap concatenated (take_more ps i p h) ∙ concatenated-append (take i ps) (get_or ps i p ∷ [])
    ∙ ap (λ (q : Vec ℕ Global). concatenated (take i ps) ++ (q.items ++ [])) (sym e) ∙ ap (λ z. concatenated (take i ps) ++ z) (append-nil p.items)

-- what is written, a piece, and the rest
concatenated_split : (ps : List (Vec ℕ Global)) (i : ℕ) (p : Vec ℕ Global) → i < length ps → p ≡ get_or ps i p
    → concatenated ps ≡ concatenated (take i ps) ++ (p.items ++ concatenated (drop (i + 1) ps))
concatenated_split ps i p h e =
    ap concatenated (sym (take-append-drop (i + 1) ps)) ∙ concatenated-append (take (i + 1) ps) (drop (i + 1) ps)
    ∙ ap (λ z. z ++ concatenated (drop (i + 1) ps)) (concatenated_more ps i p h e)
    ∙ append_assoc (concatenated (take i ps)) p.items (concatenated (drop (i + 1) ps))

-- a piece was written after those before it
pub grown_piece : (first now new : Option (List ℕ)) (ps : List (Vec ℕ Global)) (i : ℕ) (p : Vec ℕ Global) (bytes : List ℕ)
    → i < length ps → p ≡ get_or ps i p → bytes ≡ p.items
    → now ≡ grown first (concatenated (take i ps)) → new ≡ grown now bytes
    → new ≡ grown first (concatenated (take (i + 1) ps))
grown_piece first now new ps i p bytes h e b told step =
    step ∙ ap (λ w. grown w bytes) told ∙ grown_twice first (concatenated (take i ps)) bytes
    ∙ ap (λ z. grown first (concatenated (take i ps) ++ z)) b ∙ ap (grown first) (sym (concatenated_more ps i p h e))

front_of_all : (a b c : List ℕ) (n : ℕ) → n ≤ length b → take (length a + n) (a ++ (b ++ c)) ≡ a ++ take n b
front_of_all a b c n h = take-append-add a (b ++ c) n ∙ ap (λ z. a ++ z) (take-append-le n b c h)

-- a front of a piece was written after those before it
pub grown_front : (first now new : Option (List ℕ)) (ps : List (Vec ℕ Global)) (i : ℕ) (p : Vec ℕ Global) (bytes : List ℕ)
    → i < length ps → p ≡ get_or ps i p → bytes ≡ p.items
    → now ≡ grown first (concatenated (take i ps)) → GrewByFront now new bytes
    → GrewByFront first new (concatenated ps)
grown_front first now new ps i p bytes h e b told (n, within, step) =
    let before = concatenated (take i ps) in
    let after = concatenated (drop (i + 1) ps) in
    let split : concatenated ps ≡ before ++ (p.items ++ after) = concatenated_split ps i p h e in
    let fits : n ≤ length p.items = omega (arith, within, ap length b) in (
      length before + n,
      omega (arith, fits, ap length split, length-append before (p.items ++ after), length-append p.items after),
      step ∙ ap (λ w. grown w (take n bytes)) told ∙ grown_twice first before (take n bytes)
          ∙ ap (λ z. grown first (before ++ take n z)) b
          ∙ ap (grown first) (sym (front_of_all before p.items after n fits)) ∙ ap (λ z. grown first (take (length before + n) z)) (sym split),
    )
