-- Bytes in the place of others, and what becomes of the marks beside them.
use Rattle.std.proofs.Common.{◌≡◌, ℕ, zero, suc, ◌+◌, ◌-◌, ◌<◌, ◌≤◌, List, [], ◌∷◌, ◌++◌, Option, None, Bool, true, false, length, take, drop, replicate, refl, sym, ◌∙◌, ap, subst, arith, get_or, if◌then◌else◌, nat_lt, ◌⊎◌, inl, inr}
use Rattle.std.proofs.lemmas.Bool.Decides.{nat_tests}
use Rattle.std.proofs.lemmas.Bool.{cases_lt}
use Rattle.std.proofs.lemmas.List.{length-append, length-replicate, length-take-le, length-take, length-drop, get_or-take, get_or-drop, get_or_append_left, get_or-append_right, get_or-replicate, get_or_past, same_lists, take_all}
use Rattle.std.proofs.Math.ListN.{drop_of_length-le}
use Rattle.std.proofs.Math.Nat.{min-le_left}
use Rattle.odc_store.specs.declared.bytes.Origin.{Origin}
use Rattle.odc_store.specs.declared.bytes.SourceByte.{SourceByte}
use Rattle.odc_store.specs.Bytes.{byte, joined, patched, marked, cleared, cleared_to, lesser, overwritten, between}
use Rattle.odc_store.proofs.Joining.{length_joined, take_joined, drop_joined, take_none}

either : {A B C : Type 0} → A ⊎ B → (A → C) → (B → C) → C
either (inl a) f g = f a
either (inr b) f g = g b

by_order : {C : Type 0} (m n : ℕ) → (m < n → C) → (n ≤ m → C) → C
by_order m n f g = either (cases_lt m n) f g

-- ---- a part in the place of as many elements

front_length : {A : Type 0} (f : ℕ) (part xs : List A) → f + length part ≤ length xs → length (take f xs ++ part) ≡ f + length part
front_length f part xs h =
    let taken = length-take-le f xs (omega arith) in
    let joint = length-append (take f xs) part in
    omega arith

pub length_overwritten : {A : Type 0} (f : ℕ) (part xs : List A) → f + length part ≤ length xs → length (overwritten f part xs) ≡ length xs
length_overwritten f part xs h =
    let front = front_length f part xs h in
    let dropped = length-drop (f + length part) xs in
    length-append (take f xs ++ part) (drop (f + length part) xs) ∙ omega arith

pub over_before : {A : Type 0} (f : ℕ) (part xs : List A) (i : ℕ) (d : A) → f + length part ≤ length xs → i < f → get_or (overwritten f part xs) i d ≡ get_or xs i d
over_before f part xs i d h l =
    let front = front_length f part xs h in
    let taken = length-take-le f xs (omega arith) in
    get_or_append_left (take f xs ++ part) (drop (f + length part) xs) d i (omega arith)
    ∙ get_or_append_left (take f xs) part d i (omega arith)
    ∙ get_or-take f xs i d l

pub over_in : {A : Type 0} (f : ℕ) (part xs : List A) (i : ℕ) (d : A) → f + length part ≤ length xs → f ≤ i → i < f + length part → get_or (overwritten f part xs) i d ≡ get_or part (i - f) d
over_in f part xs i d h l m =
    let front = front_length f part xs h in
    get_or_append_left (take f xs ++ part) (drop (f + length part) xs) d i (omega arith)
    ∙ get_or-append_right (take f xs) part f i d (length-take-le f xs (omega arith)) l

pub over_behind : {A : Type 0} (f : ℕ) (part xs : List A) (i : ℕ) (d : A) → f + length part ≤ length xs → f + length part ≤ i → get_or (overwritten f part xs) i d ≡ get_or xs i d
over_behind f part xs i d h l =
    let same : f + length part + (i - (f + length part)) ≡ i = omega arith in
    get_or-append_right (take f xs ++ part) (drop (f + length part) xs) (f + length part) i d (front_length f part xs h) l
    ∙ get_or-drop (f + length part) xs (i - (f + length part)) d
    ∙ ap (λ k. get_or xs k d) same

-- ---- marks

abbrev unmarked_byte : Option Origin
unmarked_byte = None

-- numbers that are added have no marks
padded : (ms : List (Option Origin)) (k i : ℕ) → get_or (ms ++ replicate k None) i None ≡ get_or ms i None
padded [] zero i = refl
padded [] (suc k) zero = refl
padded [] (suc k) (suc i) = padded [] k i
padded (m ∷ ms) k zero = refl
padded (m ∷ ms) k (suc i) = padded ms k i

enough : (f p n : ℕ) → f + p ≤ n + (f + p - n)
enough f p n = omega arith

room : (f : ℕ) (part ms : List (Option Origin)) → f + length part ≤ length (ms ++ replicate (f + length part - length ms) None)
room f part ms =
    let a = length-append ms (replicate (f + length part - length ms) None) in
    let b = length-replicate (f + length part - length ms) unmarked_byte in
    omega arith

pub marked_before : (f : ℕ) (part ms : List (Option Origin)) (i : ℕ) → i < f → get_or (marked f part ms) i None ≡ get_or ms i None
marked_before f [] ms i l = refl
marked_before f (m ∷ part) ms i l = over_before f (m ∷ part) _ i None (room f (m ∷ part) ms) l ∙ padded ms _ i

pub marked_in : (f : ℕ) (part ms : List (Option Origin)) (i : ℕ) → f ≤ i → i < f + length part → get_or (marked f part ms) i None ≡ get_or part (i - f) None
marked_in f [] ms i l m = absurd (omega arith)
marked_in f (k ∷ part) ms i l m = over_in f (k ∷ part) _ i None (room f (k ∷ part) ms) l m

pub marked_behind : (f : ℕ) (part ms : List (Option Origin)) (i : ℕ) → f + length part ≤ i → get_or (marked f part ms) i None ≡ get_or ms i None
marked_behind f [] ms i l = refl
marked_behind f (m ∷ part) ms i l = over_behind f (m ∷ part) _ i None (room f (m ∷ part) ms) l ∙ padded ms _ i

cleared_by : (b : Bool) (from end : ℕ) (ms : List (Option Origin)) → nat_lt from end ≡ b → end ≤ length ms → (i : ℕ) →
    ((i < from → get_or (if b then take from ms ++ replicate (end - from) None ++ drop end ms else ms) i None ≡ get_or ms i None)
    × ((from ≤ i → i < end → get_or (if b then take from ms ++ replicate (end - from) None ++ drop end ms else ms) i None ≡ None)
    × (end ≤ i → get_or (if b then take from ms ++ replicate (end - from) None ++ drop end ms else ms) i None ≡ get_or ms i None)))
cleared_by true from end ms e h i =
    let below : from < end = grind (arith, nat_tests) in
    let long : length (replicate (end - from) unmarked_byte) ≡ end - from = length-replicate (end - from) None in
    let same : from + length (replicate (end - from) unmarked_byte) ≡ end = omega arith in
    let written : take from ms ++ replicate (end - from) None ++ drop end ms ≡ overwritten from (replicate (end - from) None) ms = ap (λ k. take from ms ++ replicate (end - from) None ++ drop k ms) (sym same) in (
      (λ l. ap (λ xs. get_or xs i None) written ∙ over_before from (replicate (end - from) None) ms i None (omega arith) l),
      (
        (λ l m. ap (λ xs. get_or xs i None) written ∙ over_in from (replicate (end - from) None) ms i None (omega arith) l (omega arith) ∙ get_or-replicate (end - from) (i - from) None None (omega arith)),
        (λ l. ap (λ xs. get_or xs i None) written ∙ over_behind from (replicate (end - from) None) ms i None (omega arith) (omega arith)),
      ),
    )
cleared_by false from end ms e h i =
    let above : end ≤ from = grind (arith, nat_tests) in
    ((λ l. refl), ((λ l m. absurd (omega arith)), (λ l. refl)))

cleared_least : (b : Bool) (from until : ℕ) (ms : List (Option Origin)) (i : ℕ) → nat_lt (length ms) until ≡ b →
    ((i < from → get_or (cleared_to from (if b then length ms else until) ms) i None ≡ get_or ms i None)
    × ((from ≤ i → i < until → get_or (cleared_to from (if b then length ms else until) ms) i None ≡ None)
    × (until ≤ i → get_or (cleared_to from (if b then length ms else until) ms) i None ≡ get_or ms i None)))
cleared_least true from until ms i e =
    let below : length ms < until = grind (arith, nat_tests) in
    let by = cleared_by (nat_lt from (length ms)) from (length ms) ms refl (omega arith) i in
    (by.0, ((λ l m. by_order i (length ms) (λ k. by.1.0 l k) (λ k. by.1.1 k ∙ get_or_past ms i None k)), (λ l. by.1.1 (omega arith))))
cleared_least false from until ms i e =
    let above : until ≤ length ms = grind (arith, nat_tests) in
    cleared_by (nat_lt from until) from until ms refl above i

-- the mark at a position, behind a list that is marked and cleared
cleared_marks : (from until : ℕ) (ms : List (Option Origin)) (i : ℕ) →
    ((i < from → get_or (cleared from until ms) i None ≡ get_or ms i None)
    × ((from ≤ i → i < until → get_or (cleared from until ms) i None ≡ None)
    × (until ≤ i → get_or (cleared from until ms) i None ≡ get_or ms i None)))
cleared_marks from until ms i = cleared_least (nat_lt (length ms) until) from until ms i refl

joined_at : (ns : List ℕ) (ms : List (Option Origin)) (i : ℕ) (d : SourceByte) → i < length ns → get_or (joined ns ms) i d ≡ byte (get_or ns i 0) (get_or ms i None)
joined_at [] ms i d l = absurd (omega arith)
joined_at (n ∷ ns) [] zero d l = refl
joined_at (n ∷ ns) [] (suc i) d l = joined_at ns [] i d (omega arith)
joined_at (n ∷ ns) (m ∷ ms) zero d l = refl
joined_at (n ∷ ns) (m ∷ ms) (suc i) d l = joined_at ns ms i d (omega arith)

byte_same : (n k : ℕ) (a b : Option Origin) → n ≡ k → a ≡ b → byte n a ≡ byte k b
byte_same n k a b e g = subst (λ x. byte n a ≡ byte x b) e (ap (byte n) g)

patched_at : (f : ℕ) (ns vs : List ℕ) (ms part : List (Option Origin)) → f + length vs ≤ length ns → length part ≤ length vs → (i : ℕ) (d : SourceByte) → i < length ns →
    get_or (joined (overwritten f vs ns) (cleared (f + length part) (f + length vs) (marked f part ms))) i d ≡ get_or (patched f (joined vs part) (joined ns ms)) i d
patched_at f ns vs ms part h l i d m =
    let marks = cleared (f + length part) (f + length vs) (marked f part ms) in
    let size = length_joined ns ms in
    let put = length_joined vs part in
    let fits : f + length (joined vs part) ≤ length (joined ns ms) = omega arith in
    let same = length_overwritten f vs ns h in
    let by = cleared_marks (f + length part) (f + length vs) (marked f part ms) i in
    joined_at (overwritten f vs ns) marks i d (omega arith)
    ∙ by_order i f
    (λ before. byte_same _ _ _ _ (over_before f vs ns i 0 h before) (by.0 (omega arith) ∙ marked_before f part ms i before)
    ∙ sym (joined_at ns ms i d m) ∙ sym (over_before f (joined vs part) (joined ns ms) i d fits before))
    (λ from. by_order i (f + length vs)
    (λ inside. byte_same _ _ _ _ (over_in f vs ns i 0 h from inside)
    (by_order i (f + length part)
    (λ k. by.0 k ∙ marked_in f part ms i from k)
    (λ k. by.1.0 k inside ∙ sym (get_or_past part (i - f) None (omega arith))))
    ∙ sym (joined_at vs part (i - f) d (omega arith)) ∙ sym (over_in f (joined vs part) (joined ns ms) i d fits from (omega arith)))
    (λ behind. byte_same _ _ _ _ (over_behind f vs ns i 0 h behind) (by.1.1 behind ∙ marked_behind f part ms i (omega arith))
    ∙ sym (joined_at ns ms i d m) ∙ sym (over_behind f (joined vs part) (joined ns ms) i d fits (omega arith))))

pub patched_joined : (f : ℕ) (ns vs : List ℕ) (ms part : List (Option Origin)) → f + length vs ≤ length ns → length part ≤ length vs →
    joined (overwritten f vs ns) (cleared (f + length part) (f + length vs) (marked f part ms)) ≡ patched f (joined vs part) (joined ns ms)
patched_joined f ns vs ms part h l =
    let marks = cleared (f + length part) (f + length vs) (marked f part ms) in
    let size = length_joined ns ms in
    let put = length_joined vs part in
    let fits : f + length (joined vs part) ≤ length (joined ns ms) = omega arith in
    let left = length_joined (overwritten f vs ns) marks in
    let same = length_overwritten f vs ns h in
    let right = length_overwritten f (joined vs part) (joined ns ms) fits in
    same_lists (joined (overwritten f vs ns) marks) (patched f (joined vs part) (joined ns ms)) (omega arith)
    (λ i d m. patched_at f ns vs ms part h l i d (omega arith))

-- ---- in the words of the functions

room_by : (f : ℕ) (ns vs : List ℕ) (ms part : List (Option Origin)) (self put : List SourceByte) → self ≡ joined ns ms → put ≡ joined vs part → f + length put ≤ length self → f + length vs ≤ length ns
room_by f ns vs ms part self put s p h =
    let size : length self ≡ length ns = ap length s ∙ length_joined ns ms in
    let more : length put ≡ length vs = ap length p ∙ length_joined vs part in
    omega arith

pub patched_view : (f : ℕ) (ns vs ns' : List ℕ) (ms part ms' : List (Option Origin)) (self put : List SourceByte) →
    ns' ≡ overwritten f vs ns → ms' ≡ cleared (f + length part) (f + length vs) (marked f part ms) → self ≡ joined ns ms → put ≡ joined vs part →
    f + length put ≤ length self → length part ≤ length vs → joined ns' ms' ≡ patched f put self
patched_view f ns vs ns' ms part ms' self put e g s p h l =
    let fits = room_by f ns vs ms part self put s p h in
    rw (e, g, s, p) (patched_joined f ns vs ms part fits l)

length_cleared_to : (b : Bool) (from end : ℕ) (ms : List (Option Origin)) → nat_lt from end ≡ b → end ≤ length ms →
    length (if b then take from ms ++ replicate (end - from) None ++ drop end ms else ms) ≡ length ms
length_cleared_to true from end ms e h =
    let below : from < end = grind (arith, nat_tests) in
    let long : length (replicate (end - from) unmarked_byte) ≡ end - from = length-replicate (end - from) unmarked_byte in
    let same : from + length (replicate (end - from) unmarked_byte) ≡ end = omega arith in
    ap (λ k. length (take from ms ++ replicate (end - from) None ++ drop k ms)) (sym same) ∙ length_overwritten from (replicate (end - from) None) ms (omega arith)
length_cleared_to false from end ms e h = refl

length_cleared_by : (b : Bool) (from until : ℕ) (ms : List (Option Origin)) → nat_lt (length ms) until ≡ b → length (cleared_to from (if b then length ms else until) ms) ≡ length ms
length_cleared_by true from until ms e = length_cleared_to (nat_lt from (length ms)) from (length ms) ms refl (omega arith)
length_cleared_by false from until ms e = let above : until ≤ length ms = grind (arith, nat_tests) in length_cleared_to (nat_lt from until) from until ms refl above

pub length_cleared : (from until : ℕ) (ms : List (Option Origin)) → length (cleared from until ms) ≡ length ms
length_cleared from until ms = length_cleared_by (nat_lt (length ms) until) from until ms refl

pub length_marked : (f n : ℕ) (part ms : List (Option Origin)) → f + length part ≤ n → length ms ≤ n → length (marked f part ms) ≤ n
length_marked f n [] ms h l = l
length_marked f n (m ∷ part) ms h l =
    let a = length-append ms (replicate (f + length (m ∷ part) - length ms) unmarked_byte) in
    let b = length-replicate (f + length (m ∷ part) - length ms) unmarked_byte in
    let c = length_overwritten f (m ∷ part) (ms ++ replicate (f + length (m ∷ part) - length ms) None) (room f (m ∷ part) ms) in
    omega arith

pub marks_fit : (f : ℕ) (ns vs ns' : List ℕ) (ms part ms' : List (Option Origin)) (self put : List SourceByte) → ns' ≡ overwritten f vs ns →
    ms' ≡ cleared (f + length part) (f + length vs) (marked f part ms) → self ≡ joined ns ms → put ≡ joined vs part →
    f + length put ≤ length self → length part ≤ length vs → length ms ≤ length ns → length ms' ≤ length ns'
marks_fit f ns vs ns' ms part ms' self put e g s p h l m =
    let fits = room_by f ns vs ms part self put s p h in
    let same = length_overwritten f vs ns fits in
    let kept = length_cleared (f + length part) (f + length vs) (marked f part ms) in
    let most = length_marked f (length ns) part ms (omega arith) m in
    rw (e, g) (omega arith)

-- a part of the bytes, with the marks that lie in it
part_marks : (b : Bool) (from size : ℕ) (ms : List (Option Origin)) → nat_lt (length ms) (from + size) ≡ b → from < length ms →
    take ((if b then length ms else from + size) - from) (drop from ms) ≡ take size (drop from ms)
part_marks true from size ms e l =
    let below : length ms < from + size = grind (arith, nat_tests) in
    let d = length-drop from ms in
    take_all (length ms - from) (drop from ms) (omega arith) ∙ sym (take_all size (drop from ms) (omega arith))
part_marks false from size ms e l = ap (λ k. take k (drop from ms)) (omega arith)

both : {ns ks : List ℕ} {ms ls : List (Option Origin)} → ns ≡ ks → ms ≡ ls → joined ns ms ≡ joined ks ls
both e g = rw (e, g) refl

part_by : (b : Bool) (from size : ℕ) (ns : List ℕ) (ms : List (Option Origin)) → nat_lt from (length ms) ≡ b →
    joined (take (from + size - from) (drop from ns)) (if b then take (lesser (length ms) (from + size) - from) (drop from ms) else []) ≡ take size (drop from (joined ns ms))
part_by true from size ns ms e =
    let below : from < length ms = grind (arith, nat_tests) in
    both (ap (λ k. take k (drop from ns)) (omega arith)) (part_marks (nat_lt (length ms) (from + size)) from size ms refl below)
    ∙ take_joined size (drop from ns) (drop from ms) ∙ ap (take size) (drop_joined from ns ms)
part_by false from size ns ms e =
    let above : length ms ≤ from = grind (arith, nat_tests) in
    both (ap (λ k. take k (drop from ns)) (omega arith)) (sym (take_none size) ∙ ap (take size) (sym (drop_of_length-le ms above)))
    ∙ take_joined size (drop from ns) (drop from ms) ∙ ap (take size) (drop_joined from ns ms)

pub part_view : (from size : ℕ) (ns ns' : List ℕ) (ms ms' : List (Option Origin)) (self : List SourceByte) → self ≡ joined ns ms →
    ns' ≡ take (from + size - from) (drop from ns) → ms' ≡ between from (from + size) ms → joined ns' ms' ≡ take size (drop from self)
part_view from size ns ns' ms ms' self e g h = rw (e, g, h) (part_by (nat_lt from (length ms)) from size ns ms refl)

least_marks : (b : Bool) (from until : ℕ) (ms : List (Option Origin)) → nat_lt (length ms) until ≡ b → length (take ((if b then length ms else until) - from) (drop from ms)) ≤ until - from
least_marks true from until ms e =
    let below : length ms < until = grind (arith, nat_tests) in
    let most = length-take (length ms - from) (drop from ms) in
    let least = min-le_left (length ms - from) (length (drop from ms)) in
    omega arith
least_marks false from until ms e =
    let most = length-take (until - from) (drop from ms) in
    let least = min-le_left (until - from) (length (drop from ms)) in
    omega arith

dropped_marks : (b : Bool) (from until : ℕ) (ms : List (Option Origin)) → length (if b then take (lesser (length ms) until - from) (drop from ms) else []) ≤ until - from
dropped_marks true from until ms = least_marks (nat_lt (length ms) until) from until ms refl
dropped_marks false from until ms = omega arith

pub between_fits : (from until : ℕ) (ns ns' : List ℕ) (ms ms' : List (Option Origin)) (self : List SourceByte) → self ≡ joined ns ms → ns' ≡ take (until - from) (drop from ns) →
    ms' ≡ between from until ms → until ≤ length self → length ms' ≤ length ns'
between_fits from until ns ns' ms ms' self e g h l =
    let same : length self ≡ length ns = ap length e ∙ length_joined ns ms in
    let size = length-drop from ns in
    let taken = length-take-le (until - from) (drop from ns) (omega arith) in
    let marks = dropped_marks (nat_lt from (length ms)) from until ms in
    rw (g, h) (omega arith)
