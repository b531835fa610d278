-- What a walk along the parts of a type holds at each of them.
use Rattle.std.proofs.Common.{◌≡◌, ℕ, suc, ◌+◌, ◌-◌, ◌*◌, ◌%◌, ◌^◌, ◌<◌, ◌≤◌, max, min, List, [], ◌∷◌, Option, Some, None, length, drop, get_or, refl, sym, ◌∙◌, ap, subst, arith, map, zero}
use Rattle.std.specs.Ordering.{ord_max, nat_cmp}
use Rattle.std.proofs.lemmas.Bool.Decides.{nat_tests}
use Rattle.std.proofs.Math.Numerals.{add-one}
use Rattle.std.proofs.lemmas.List.{get_or-map, length-map}
use Rattle.std.specs.Option.{option_map, SomeIff}
use Rattle.std.specs.Prelude.{◌≢◌, IsSome, unwrap_or, Result, Ok, Err, IfErr}
use Rattle.std.proofs.Math.Nat.{mod-eq_of_lt}
use Rattle.std.proofs.Math.Seq.{drop-cons}
use Rattle.odc_types.specs.declared.extent.Extent.{Extent}
use Rattle.odc_types.specs.Heights.{clipped}
use Rattle.odc_types.specs.Layout.{Layout, Layouts, none, more, scalar, words, array, struct, union, distinct, size, align, depth, deepest, end_of, greatest, widest, wide, column, all_of, round_up, begin_of, count_of, fields_in}
use Rattle.odc_types.specs.Clipped.{IsHeld, IsExtent, IsMeasured, kept_at, AreKept}

-- what is missing to a multiple, where something is
pub missing_part : (n a : ℕ) → 0 < a → 0 < n % a → (a - n % a) % a ≡ a - n % a
missing_part n a positive rest = let less : a - n % a < a = omega arith in mod-eq_of_lt less

pub clipped_max : (a b m n : ℕ) → a ≡ clipped m → b ≡ clipped n → max a b ≡ clipped (max m n)
clipped_max a b m n e h = omega arith

pub max_thrice : (a b c : ℕ) → max (max a b) c ≡ max a (max b c)
max_thrice a b c = omega arith

-- where parts end that follow one another, their greatest alignment, and their greatest depth
pub record Walk : Type 0 where
  pub end : ℕ
  pub widest : ℕ
  pub deep : ℕ

abbrev pub walk : ℕ → ℕ → ℕ → Walk
walk end al deep = record { end = end; widest = al; deep = deep }

abbrev pub walked : ℕ → ℕ → ℕ → List (Option Layout) → Option Walk
walked end al deep [] = Some (walk end al deep)
walked end al deep (None ∷ ps) = None
walked end al deep (Some l ∷ ps) = walked (round_up end (align l) + size l) (max al (align l)) (max deep (depth l)) ps

abbrev pub walked_to : ℕ → ℕ → ℕ → Layouts → Walk
walked_to end al deep ls = walk (end_of end ls) (max al (greatest ls)) (max deep (deepest ls))

walk_same : (end a b m n : ℕ) → a ≡ b → m ≡ n → walk end a m ≡ walk end b n
walk_same end a b m n e h = ap (λ x. walk end x m) e ∙ ap (λ x. walk end b x) h

walked_first : (end al deep : ℕ) (l : Layout) (o : Option Layouts) →
    option_map (walked_to (round_up end (align l) + size l) (max al (align l)) (max deep (depth l))) o ≡ option_map (walked_to end al deep) (option_map (more l) o)
walked_first end al deep l None = refl
walked_first end al deep l (Some ls) = ap Some (walk_same _ _ _ _ _ (max_thrice al (align l) (greatest ls)) (max_thrice deep (depth l) (deepest ls)))

walked_is : (end al deep : ℕ) (ps : List (Option Layout)) → 0 < al → walked end al deep ps ≡ option_map (walked_to end al deep) (all_of ps)
walked_is end al deep [] h = ap Some (walk_same end al (max al 1) deep (max deep 0) (omega arith) (omega arith))
walked_is end al deep (None ∷ ps) h = refl
walked_is end al deep (Some l ∷ ps) h =
    walked_is (round_up end (align l) + size l) (max al (align l)) (max deep (depth l)) ps (omega arith) ∙ walked_first end al deep l (all_of ps)

-- so far along the parts
pub record IsWalking (parts : List (Option Layout)) (index : ℕ) (end : Option ℕ) (al : ℕ) (levels : ℕ) : Type 0 where
  pub at : ℕ
  pub deep : ℕ
  pub held : IsHeld end at
  pub positive : 0 < al
  pub counted : levels ≡ clipped deep
  pub along : walked 0 1 0 parts ≡ walked at al deep (drop index parts)

pub walk_begins : (parts : List (Option Layout)) → IsWalking parts 0 (Some 0) 1 0
walk_begins parts = record {
  at = 0;
  deep = 0;
  held = (refl, omega arith);
  positive = omega arith;
  counted = omega arith;
  along = refl;
}

walk_by : (parts : List (Option Layout)) (index : ℕ) (end : Option ℕ) (al levels : ℕ) (w : IsWalking parts index end al levels) (part : Extent) (l : Option Layout) (rest : List (Option Layout)) → drop index parts ≡ l ∷ rest → rest ≡ drop (index + 1) parts →
    IsMeasured (Some part) l → (after : Option ℕ) → ((s : ℕ) → IsHeld part.size s → IsHeld after (round_up w.at part.align + s)) →
    IsWalking parts (index + 1) after (max al part.align) (max levels part.depth)
walk_by parts index end al levels w part None rest e r m after held = absurd m
walk_by parts index end al levels w part (Some l) rest e r m after held = record {
  at = round_up w.at (align l) + size l;
  deep = max w.deep (depth l);
  held = subst (λ a. IsHeld after (round_up w.at a + size l)) m.aligned (held (size l) m.size_held);
  positive = let p = w.positive in omega arith;
  counted = clipped_max levels part.depth w.deep (depth l) w.counted m.deep;
  along = w.along ∙ ap (λ ps. walked w.at al w.deep ps) e ∙ ap (λ ps. walked (round_up w.at (align l) + size l) (max al (align l)) (max w.deep (depth l)) ps) r ∙ ap (λ a. walked (round_up w.at (align l) + size l) (max al a) (max w.deep (depth l)) (drop (index + 1) parts)) (sym m.aligned);
}

pub walk_on : (parts : List (Option Layout)) (index : ℕ) (end : Option ℕ) (al levels : ℕ) (w : IsWalking parts index end al levels) (part : Extent) → index < length parts →
    IsMeasured (Some part) (get_or parts index None) → (after : Option ℕ) → ((s : ℕ) → IsHeld part.size s → IsHeld after (round_up w.at part.align + s)) →
    IsWalking parts (index + 1) after (max al part.align) (max levels part.depth)
walk_on parts index end al levels w part h m after held =
    walk_by parts index end al levels w part (get_or parts index None) (drop (suc index) parts) (drop-cons parts index None h) (ap (λ i. drop i parts) (sym (add-one index))) m after held

greatest_positive : (ls : Layouts) → 0 < greatest ls
greatest_positive none = omega arith
greatest_positive (more l ls) = let h = greatest_positive ls in omega arith

ends_by : (at al deep : ℕ) (o : Option Layouts) (whole : Extent) → option_map (walked_to 0 1 0) o ≡ Some (walk at al deep) → IsHeld whole.size (round_up at al) → whole.align ≡ al → whole.depth ≡ clipped (deep + 1) → 0 < al →
    IsMeasured (Some whole) (option_map struct o)
ends_by at al deep None whole e held same levels positive = cc
ends_by at al deep (Some ls) whole e held same levels positive =
    let pair : walked_to 0 1 0 ls ≡ walk at al deep = cc in
    let ends : end_of 0 ls ≡ at = ap (λ (p : Walk). p.end) pair in
    let both : max 1 (greatest ls) ≡ al = ap (λ (p : Walk). p.widest) pair in
    let down : max 0 (deepest ls) ≡ deep = ap (λ (p : Walk). p.deep) pair in
    let least = greatest_positive ls in
    let greatest_is : greatest ls ≡ al = omega arith in
    record {
      size_held = subst (λ n. IsHeld whole.size (round_up n (greatest ls))) (sym ends) (subst (λ a. IsHeld whole.size (round_up at a)) (sym greatest_is) held);
      aligned = same ∙ sym greatest_is;
      positive = omega arith;
      deep = levels ∙ ap clipped (let is : deep ≡ deepest ls = omega arith in omega arith);
    }

drop_past : {A : Type 0} (xs : List A) (i : ℕ) → length xs ≤ i → drop i xs ≡ []
drop_past [] zero h = refl
drop_past [] (suc i) h = refl
drop_past (x ∷ xs) zero h = absurd (omega arith)
drop_past (x ∷ xs) (suc i) h = drop_past xs i (omega arith)

-- the walk's end
pub walk_ends : (parts : List (Option Layout)) (index : ℕ) (end : Option ℕ) (al levels : ℕ) (w : IsWalking parts index end al levels) (whole : Extent) → length parts ≤ index →
    IsHeld whole.size (round_up w.at al) → whole.align ≡ al → whole.depth ≡ clipped (w.deep + 1) → IsMeasured (Some whole) (option_map struct (all_of parts))
walk_ends parts index end al levels w whole h held same deep =
    ends_by w.at al w.deep (all_of parts) whole (sym (walked_is 0 1 0 parts (omega arith)) ∙ w.along ∙ ap (λ ps. walked w.at al w.deep ps) (drop_past parts index h)) held same deep w.positive

-- the greatest size of the parts, and their greatest depth
pub record Overlay : Type 0 where
  pub widest : ℕ
  pub deep : ℕ

abbrev pub overlay : ℕ → ℕ → Overlay
overlay most deep = record { widest = most; deep = deep }

abbrev pub overlaid : ℕ → ℕ → List (Option Layout) → Option Overlay
overlaid most deep [] = Some (overlay most deep)
overlaid most deep (None ∷ ps) = None
overlaid most deep (Some l ∷ ps) = overlaid (max most (size l)) (max deep (depth l)) ps

abbrev pub overlaid_to : ℕ → ℕ → Layouts → Overlay
overlaid_to most deep ls = overlay (max most (widest ls)) (max deep (deepest ls))

overlay_same : (a b m n : ℕ) → a ≡ b → m ≡ n → overlay a m ≡ overlay b n
overlay_same a b m n e h = ap (λ x. overlay x m) e ∙ ap (λ x. overlay b x) h

overlaid_first : (most deep : ℕ) (l : Layout) (o : Option Layouts) → option_map (overlaid_to (max most (size l)) (max deep (depth l))) o ≡ option_map (overlaid_to most deep) (option_map (more l) o)
overlaid_first most deep l None = refl
overlaid_first most deep l (Some ls) = ap Some (overlay_same _ _ _ _ (max_thrice most (size l) (widest ls)) (max_thrice deep (depth l) (deepest ls)))

overlaid_is : (most deep : ℕ) (ps : List (Option Layout)) → overlaid most deep ps ≡ option_map (overlaid_to most deep) (all_of ps)
overlaid_is most deep [] = ap Some (overlay_same most (max most 0) deep (max deep 0) (omega arith) (omega arith))
overlaid_is most deep (None ∷ ps) = refl
overlaid_is most deep (Some l ∷ ps) = overlaid_is (max most (size l)) (max deep (depth l)) ps ∙ overlaid_first most deep l (all_of ps)

pub record IsOverlaying (parts : List (Option Layout)) (index : ℕ) (widest : Option ℕ) (levels : ℕ) : Type 0 where
  pub most : ℕ
  pub deep : ℕ
  pub held : IsHeld widest most
  pub counted : levels ≡ clipped deep
  pub along : overlaid 0 0 parts ≡ overlaid most deep (drop index parts)

pub overlay_begins : (parts : List (Option Layout)) → IsOverlaying parts 0 (Some 0) 0
overlay_begins parts = record { most = 0; deep = 0; held = (refl, omega arith); counted = omega arith; along = refl }

overlay_by : (parts : List (Option Layout)) (index : ℕ) (wide : Option ℕ) (levels : ℕ) (w : IsOverlaying parts index wide levels) (part : Extent) (l : Option Layout) (rest : List (Option Layout)) → drop index parts ≡ l ∷ rest → rest ≡ drop (index + 1) parts →
    IsMeasured (Some part) l → (after : Option ℕ) → ((s : ℕ) → IsHeld part.size s → IsHeld after (max w.most s)) → IsOverlaying parts (index + 1) after (max levels part.depth)
overlay_by parts index wide levels w part None rest e r m after held = absurd m
overlay_by parts index wide levels w part (Some l) rest e r m after held = record {
  most = max w.most (size l);
  deep = max w.deep (depth l);
  held = held (size l) m.size_held;
  counted = clipped_max levels part.depth w.deep (depth l) w.counted m.deep;
  along = w.along ∙ ap (λ ps. overlaid w.most w.deep ps) e ∙ ap (λ ps. overlaid (max w.most (size l)) (max w.deep (depth l)) ps) r;
}

pub overlay_on : (parts : List (Option Layout)) (index : ℕ) (wide : Option ℕ) (levels : ℕ) (w : IsOverlaying parts index wide levels) (part : Extent) → index < length parts →
    IsMeasured (Some part) (get_or parts index None) → (after : Option ℕ) → ((s : ℕ) → IsHeld part.size s → IsHeld after (max w.most s)) → IsOverlaying parts (index + 1) after (max levels part.depth)
overlay_on parts index wide levels w part h m after held =
    overlay_by parts index wide levels w part (get_or parts index None) (drop (suc index) parts) (drop-cons parts index None h) (ap (λ i. drop i parts) (sym (add-one index))) m after held

union_ends_by : (most deep : ℕ) (o : Option Layouts) (whole : Extent) → option_map (overlaid_to 0 0) o ≡ Some (overlay most deep) → IsHeld whole.size (round_up most 8 + 8) → whole.align ≡ 8 → whole.depth ≡ clipped (deep + 1) → IsMeasured (Some whole) (option_map union o)
union_ends_by most deep None whole e held same levels = cc
union_ends_by most deep (Some ls) whole e held same levels =
    let pair : overlaid_to 0 0 ls ≡ overlay most deep = cc in
    let is : max 0 (widest ls) ≡ most = ap (λ (p : Overlay). p.widest) pair in
    let down : max 0 (deepest ls) ≡ deep = ap (λ (p : Overlay). p.deep) pair in
    let most_is : most ≡ widest ls = omega arith in
    record {
      size_held = subst (λ n. IsHeld whole.size (round_up n 8 + 8)) most_is held;
      aligned = same;
      positive = omega arith;
      deep = levels ∙ ap clipped (let is : deep ≡ deepest ls = omega arith in omega arith);
    }

pub overlay_ends : (parts : List (Option Layout)) (index : ℕ) (wide : Option ℕ) (levels : ℕ) (w : IsOverlaying parts index wide levels) (whole : Extent) → length parts ≤ index → IsHeld whole.size (round_up w.most 8 + 8) → whole.align ≡ 8 → whole.depth ≡ clipped (w.deep + 1) →
    IsMeasured (Some whole) (option_map union (all_of parts))
overlay_ends parts index wide levels w whole h held same deep =
    union_ends_by w.most w.deep (all_of parts) whole (sym (overlaid_is 0 0 parts) ∙ w.along ∙ ap (λ ps. overlaid w.most w.deep ps) (drop_past parts index h)) held same deep

rounded_by : (s a : ℕ) (result : Option ℕ) → 0 < a → s % a ≢ 0 → SomeIff result (s + (a - s % a) < 2 ^ 64) (s + (a - s % a)) → IsHeld result (round_up s a)
rounded_by s a None positive rest h = let up = missing_part s a positive (omega arith) in by_contradiction_le (s + (a - s % a) % a) (λ (less : s + (a - s % a) % a < 2 ^ 64). h (omega arith))
  where
    by_contradiction_le : (m : ℕ) → (m < 2 ^ 64 → ⊥) → 2 ^ 64 ≤ m
    by_contradiction_le m h = grind arith
rounded_by s a (Some r) positive rest h = let up = missing_part s a positive (omega arith) in (omega arith, omega arith)

pub rounded_to : (size : Option ℕ) (s a : ℕ) (result : Option ℕ) → size ≡ Some s → 0 < a → s % a ≢ 0 → SomeIff result (s + (a - s % a) < 2 ^ 64) (s + (a - s % a)) →
    (n : ℕ) → IsHeld size n → IsHeld result (round_up n a)
rounded_to None s a result e positive rest h n held = cc
rounded_to (Some t) s a result e positive rest h n held =
    let same : t ≡ s = cc in
    subst (λ m. IsHeld result (round_up m a)) (sym same ∙ held.0) (rounded_by s a result positive rest h)

-- the part at an index
pub part_at : {A : Type 0} (f : A → Option Layout) (xs : List A) (i : ℕ) (d : A) → i < length xs → (e : Option Extent) → IsMeasured e (f (get_or xs i d)) → IsMeasured e (get_or (map f xs) i None)
part_at f xs i d h e m = subst (λ o. IsMeasured e o) (sym (get_or-map f xs i d None h)) m

pub mapped_below : {A : Type 0} (f : A → Option Layout) (xs : List A) (i : ℕ) → i < length xs → i < length (map f xs)
mapped_below f xs i h = omega (arith, length-map xs f)

pub mapped_past : {A : Type 0} (f : A → Option Layout) (xs : List A) (i : ℕ) → length xs ≤ i → length (map f xs) ≤ i
mapped_past f xs i h = omega (arith, length-map xs f)

pub ord_max_is : (a b : ℕ) → ord_max nat_cmp a b ≡ max a b
ord_max_is a b = grind (arith, nat_tests)

-- where a column begins, if the parts before it have layouts
abbrev pub sought : ℕ → List (Option Layout) → ℕ → Option ℕ
sought at [] i = None
sought at (None ∷ ps) i = None
sought at (Some l ∷ ps) zero = Some (round_up at (align l))
sought at (Some l ∷ ps) (suc i) = sought (round_up at (align l) + size l) ps i

seeks_first : (l : Layout) (ps : List (Option Layout)) (o : Option Layouts) → ((at i : ℕ) (ls : Layouts) → o ≡ Some ls → i < count_of ls → sought at ps i ≡ Some (begin_of at ls i)) →
    (at i : ℕ) (ls : Layouts) → option_map (more l) o ≡ Some ls → i < count_of ls → sought at (Some l ∷ ps) i ≡ Some (begin_of at ls i)
seeks_first l ps None rest at i ls e h = cc
seeks_first l ps (Some os) rest at i none e h = absurd (omega arith)
seeks_first l ps (Some os) rest at zero (more l2 ls) e h = let same : l ≡ l2 = cc in ap (λ x. Some (round_up at (align x))) same
seeks_first l ps (Some os) rest at (suc i) (more l2 ls) e h =
    let same : l ≡ l2 = cc in
    let others : os ≡ ls = cc in
    rest (round_up at (align l) + size l) i ls (ap Some others) (omega arith) ∙ ap (λ x. Some (begin_of (round_up at (align x) + size x) ls i)) same

sought_is : (ps : List (Option Layout)) (at i : ℕ) (ls : Layouts) → all_of ps ≡ Some ls → i < count_of ls → sought at ps i ≡ Some (begin_of at ls i)
sought_is [] at i none e h = absurd (omega arith)
sought_is [] at i (more l ls) e h = cc
sought_is (None ∷ ps) at i ls e h = cc
sought_is (Some l ∷ ps) at i ls e h = seeks_first l ps (all_of ps) (λ at i ls. sought_is ps at i ls) at i ls e h

-- so far in the search for a column
pub record IsSeeking (parts : List (Option Layout)) (index : ℕ) (end : Option ℕ) (goal : ℕ) : Type 0 where
  pub at : ℕ
  pub held : IsHeld end at
  pub ahead : index ≤ goal
  pub along : sought 0 parts goal ≡ sought at (drop index parts) (goal - index)

pub seek_begins : (parts : List (Option Layout)) (goal : ℕ) → IsSeeking parts 0 (Some 0) goal
seek_begins parts goal = record { at = 0; held = (refl, omega arith); ahead = omega arith; along = ap (λ n. sought 0 parts n) (omega arith) }

found_at : (parts : List (Option Layout)) (index : ℕ) (end : Option ℕ) (goal : ℕ) (s : IsSeeking parts index end goal) (rest : List (Option Layout)) → drop index parts ≡ rest →
    (ls : Layouts) → all_of parts ≡ Some ls → goal < count_of ls → sought s.at rest (goal - index) ≡ Some (begin_of 0 ls goal)
found_at parts index end goal s rest e ls all h =
    ap (λ ps. sought s.at ps (goal - index)) (sym e) ∙ sym s.along ∙ sought_is parts 0 goal ls all h

-- a part without a layout: not all have one
pub seek_stops : (parts : List (Option Layout)) (index : ℕ) (end : Option ℕ) (goal : ℕ) → IsSeeking parts index end goal → index < length parts → get_or parts index None ≡ None →
    (ls : Layouts) → all_of parts ≡ Some ls → goal < count_of ls → ⊥
seek_stops parts index end goal s h m ls all less = stops_by (get_or parts index None) (drop (suc index) parts) m (found_at parts index end goal s _ (drop-cons parts index None h) ls all less)
  where
    stops_by : (l : Option Layout) (rest : List (Option Layout)) → l ≡ None → sought s.at (l ∷ rest) (goal - index) ≡ Some (begin_of 0 ls goal) → ⊥
    stops_by None rest m e = cc
    stops_by (Some l) rest m e = cc

-- no more parts: the column would have been found
pub seek_past : (parts : List (Option Layout)) (index : ℕ) (end : Option ℕ) (goal : ℕ) → IsSeeking parts index end goal → length parts ≤ index →
    (ls : Layouts) → all_of parts ≡ Some ls → goal < count_of ls → ⊥
seek_past parts index end goal s h ls all less = let found : None ≡ Some (begin_of 0 ls goal) = found_at parts index end goal s [] (drop_past parts index h) ls all less in cc

here_by : (part : Extent) (at gap : ℕ) (l : Option Layout) (rest : List (Option Layout)) (begun : Option ℕ) (n : ℕ) → gap ≡ 0 → IsMeasured (Some part) l → IsHeld begun (round_up at part.align) → sought at (l ∷ rest) gap ≡ Some n → IsHeld begun n
here_by part at zero None rest begun n z m held e = absurd m
here_by part at zero (Some l) rest begun n z m held e =
    let same : round_up at (align l) ≡ n = cc in
    subst (λ x. IsHeld begun x) (ap (λ a. round_up at a) m.aligned ∙ same) held
here_by part at (suc gap) l rest begun n z m held e = absurd (omega arith)

-- the column's own part
pub seek_here : (parts : List (Option Layout)) (index : ℕ) (end : Option ℕ) (goal : ℕ) (s : IsSeeking parts index end goal) (part : Extent) → index < length parts → IsMeasured (Some part) (get_or parts index None) → index ≡ goal →
    (begun : Option ℕ) → IsHeld begun (round_up s.at part.align) → (ls : Layouts) → all_of parts ≡ Some ls → goal < count_of ls → IsHeld begun (begin_of 0 ls goal)
seek_here parts index end goal s part h m same begun held ls all less =
    here_by part s.at (goal - index) (get_or parts index None) (drop (suc index) parts) begun _ (omega arith) m held (found_at parts index end goal s _ (drop-cons parts index None h) ls all less)

seek_by : (parts : List (Option Layout)) (index : ℕ) (end : Option ℕ) (goal : ℕ) (s : IsSeeking parts index end goal) (part : Extent) (l : Option Layout) (rest : List (Option Layout)) → drop index parts ≡ l ∷ rest → rest ≡ drop (index + 1) parts →
    IsMeasured (Some part) l → index ≢ goal → (after : Option ℕ) → ((n : ℕ) → IsHeld part.size n → IsHeld after (round_up s.at part.align + n)) → IsSeeking parts (index + 1) after goal
seek_by parts index end goal s part None rest e r m other after held = absurd m
seek_by parts index end goal s part (Some l) rest e r m other after held =
    let ahead = s.ahead in
    let gap : goal - index ≡ suc (goal - (index + 1)) = omega arith in
    record {
      at = round_up s.at (align l) + size l;
      held = subst (λ a. IsHeld after (round_up s.at a + size l)) m.aligned (held (size l) m.size_held);
      ahead = omega arith;
      along = s.along ∙ ap (λ ps. sought s.at ps (goal - index)) e ∙ ap (λ g. sought s.at (Some l ∷ rest) g) gap ∙ ap (λ ps. sought (round_up s.at (align l) + size l) ps (goal - (index + 1))) r;
    }

-- a part before the column's
pub seek_on : (parts : List (Option Layout)) (index : ℕ) (end : Option ℕ) (goal : ℕ) (s : IsSeeking parts index end goal) (part : Extent) → index < length parts → IsMeasured (Some part) (get_or parts index None) → index ≢ goal →
    (after : Option ℕ) → ((n : ℕ) → IsHeld part.size n → IsHeld after (round_up s.at part.align + n)) → IsSeeking parts (index + 1) after goal
seek_on parts index end goal s part h m other after held =
    seek_by parts index end goal s part (get_or parts index None) (drop (suc index) parts) (drop-cons parts index None h) (ap (λ i. drop i parts) (sym (add-one index))) m other after held

-- where a field of a struct begins, once its columns tell it
pub struct_offset : (o : Option Layouts) (result : Option ℕ) (i : ℕ) → ((ls : Layouts) → o ≡ Some ls → i < count_of ls → IsHeld result (begin_of 0 ls i)) →
    (l : Layout) → option_map struct o ≡ Some l → i < count_of (fields_in l) → IsHeld result (begin_of 0 (fields_in l) i)
struct_offset None result i told l e h = cc
struct_offset (Some ls) result i told l e h =
    let is : struct ls ≡ l = cc in
    subst (λ x. IsHeld result (begin_of 0 (fields_in x) i)) is (told ls refl (subst (λ x. i < count_of (fields_in x)) (sym is) h))

-- a part without a layout, at an index
pub part_missing : {A : Type 0} (f : A → Option Layout) (xs : List A) (i : ℕ) (d : A) → i < length xs → f (get_or xs i d) ≡ None → get_or (map f xs) i None ≡ None
part_missing f xs i d h e = get_or-map f xs i d None h ∙ e

-- a type of which nothing is kept has no layout
pub kept_missing : (extents : List (Option Extent)) (part : ℕ → Option Layout) → AreKept extents part → (t : ℕ) → None ≡ kept_at extents t → part t ≡ None
kept_missing extents part k t h = by (part t) (subst (λ o. IsMeasured o (part t)) (sym h) (k.each t))
  where
    by : (o : Option Layout) → IsMeasured None o → o ≡ None
    by None m = refl
    by (Some l) m = absurd m

pub err_as : {A B : Type 0} (r : Result A B) (P Q : B → Type 0) → ((m : B) → P m → Q m) → IfErr r P → IfErr r Q
err_as (Ok x) P Q f h = tt
err_as (Err m) P Q f h = f m h

-- the extent of a column, once its part is kept
pub column_measured : (count : Option ℕ) (part : ℕ → Option Layout) (t : ℕ) (e w : Extent) → IsMeasured (Some e) (part t) → ((l : Layout) → IsExtent e l → IsMeasured (Some w) (wide count l)) → IsMeasured (Some w) (column part count t)
column_measured count part t e w m h = by count (part t) refl m h
  where
    by : (c : Option ℕ) (o : Option Layout) → part t ≡ o → IsMeasured (Some e) o → ((l : Layout) → IsExtent e l → IsMeasured (Some w) (wide c l)) → IsMeasured (Some w) (column part c t)
    by c None p m h = absurd m
    by None (Some l) p m h = subst (λ o. IsMeasured (Some w) o) (sym p) (h l m)
    by (Some n) (Some l) p m h = subst (λ o. IsMeasured (Some w) (option_map (array n) o)) (sym p) (h l m)

-- a column of a type without a layout
pub column_missing : (count : Option ℕ) (part : ℕ → Option Layout) (t : ℕ) → part t ≡ None → column part count t ≡ None
column_missing None part t e = e
column_missing (Some n) part t e = ap (λ o. option_map (array n) o) e

pub end_above : (at : ℕ) (ls : Layouts) → at ≤ end_of at ls
end_above at none = omega arith
end_above at (more l ls) = let h = end_above (round_up at (align l) + size l) ls in omega arith

begin_below : (at i : ℕ) (ls : Layouts) → i < count_of ls → begin_of at ls i ≤ end_of at ls
begin_below at i none h = absurd (omega arith)
begin_below at zero (more l ls) h = let above = end_above (round_up at (align l) + size l) ls in omega arith
begin_below at (suc i) (more l ls) h = begin_below (round_up at (align l) + size l) i ls (omega arith)

-- a field begins within its struct
pub begin_within : (l : Layout) (i : ℕ) → i < count_of (fields_in l) → begin_of 0 (fields_in l) i ≤ size l
begin_within (scalar n d) i h = absurd (omega arith)
begin_within (words n d) i h = absurd (omega arith)
begin_within (array n e) i h = absurd (omega arith)
begin_within (struct fs) i h = let below = begin_below 0 i fs h in omega arith
begin_within (union vs) i h = absurd (omega arith)
begin_within (distinct l) i h = begin_within l i h

-- a field of a type that is smaller than 2 to 64 begins below it
pub no_offset : (o : Option Layout) (i : ℕ) → IsSome o → unwrap_or (option_map size o) 0 < 2 ^ 64 → i < unwrap_or (option_map (λ l. count_of (fields_in l)) o) 0 →
    ((l : Layout) → o ≡ Some l → i < count_of (fields_in l) → 2 ^ 64 ≤ begin_of 0 (fields_in l) i) → ⊥
no_offset None i s below h far = absurd (omega arith)
no_offset (Some l) i s below h far = let within = begin_within l i h in let away = far l refl h in omega arith

-- what is kept of a part is that of its layout
pub kept_part : (extents : List (Option Extent)) (part : ℕ → Option Layout) → AreKept extents part → (t : ℕ) (e : Option Extent) → e ≡ kept_at extents t → IsMeasured e (part t)
kept_part extents part k t e h = subst (λ o. IsMeasured o (part t)) (sym h) (k.each t)
