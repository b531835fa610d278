-- Marks go from types to their parts until the marked types are those that are held.
use Rattle.std.proofs.Common.{◌≡◌, ◌≢◌, ℕ, zero, suc, ◌+◌, ◌<◌, ◌≤◌, Bool, true, false, List, [], ◌∷◌, ◌++◌, Option, Some, None, length, slice_get, slice_set, refl, sym, ◌∙◌, ap, subst, arith, All, inl, inr, ◌⊎◌, map, replicate, get_or, Contains, ◌↔◌}
use Rattle.std.proofs.lemmas.Bool.{cases_eq}
use Rattle.std.proofs.lemmas.List.{length-append, length-set}
use Rattle.std.proofs.lemmas.List.Elements.{All-map, All-append, Contains-append_left, Contains-append_right, Contains-append_cases}
use Rattle.std.proofs.lemmas.List.Sums.{sum_by-set}
use Rattle.std.proofs.lemmas.Option.{slice_get_within, get_or_from_slice_get}
use Rattle.odc_types.specs.declared.ty.TyId.{TyId}
use Rattle.odc_types.specs.declared.ty.Field.{Field}
use Rattle.odc_types.specs.declared.ty.Param.{Param}
use Rattle.odc_types.specs.Nodes as nodes
use Rattle.odc_types.specs.Nodes.{Node}
use Rattle.odc_types.specs.Parts.{HasPartsBelow}
use Rattle.odc_types.specs.Holds.{parts_in, IsOrHolds, itself, part, IsHeldBy, IsMarked, lack, unmarked, HasMarked}
use Rattle.odc_types.proofs.Lists.{get_elsewhere}

pub one_of : (t u : TyId) → Contains (t ∷ []) u → t ≡ u
one_of t u (zero, h, e) = e
one_of t u (suc k, h, e) = absurd (omega arith)

pub none_of : (u : TyId) → Contains [] u → ⊥
none_of u (k, h, e) = absurd (omega arith)

pub the_one : (t : TyId) → Contains (t ∷ []) t
the_one t = (0, omega arith, refl)

some_true : (b : Bool) → Some b ≡ Some true → b ≡ true
some_true b e = cc

set_here : (xs : List Bool) (i : ℕ) (b : Bool) → i < length xs → slice_get (slice_set xs i b) i ≡ Some b
set_here [] i b h = absurd (omega arith)
set_here (x ∷ xs) zero b h = refl
set_here (x ∷ xs) (suc i) b h = set_here xs i b (omega arith)

-- a type that had its mark
pub marked_before : (marks : List Bool) (todo : List TyId) (t : TyId) → IsMarked marks t → HasMarked (t ∷ []) marks marks todo todo
marked_before marks todo t e = record {
  same = refl;
  marked = λ u c. subst (IsMarked marks) (one_of t u c) e;
  kept = λ u m. m;
  known = λ u m. inl m;
  waits = λ u c. c;
  listed = λ u c. inl c;
  fewer = omega arith;
}

numbered : ℕ → TyId
numbered i = record { index = i }

same_id : (t u : TyId) → u.index ≡ t.index → t ≡ u
unfolding numbered
same_id t u e = ap numbered (sym e)

-- a type that gets its mark
pub marked_now : (marks : List Bool) (todo : List TyId) (t : TyId) → slice_get marks t.index ≡ Some false → HasMarked (t ∷ []) marks (slice_set marks t.index true) todo (todo ++ (t ∷ []))
marked_now marks todo t e = record {
  same = length-set marks t.index true;
  marked = λ u c. subst (IsMarked (slice_set marks t.index true)) (one_of t u c) (set_here marks t.index true within);
  kept = λ u m. elim (cases_eq u.index t.index) [
    | inl same ↦ ap (λ i. slice_get (slice_set marks t.index true) i) same ∙ set_here marks t.index true within
    | inr other ↦ get_elsewhere marks t.index u.index true other ∙ m
  ];
  known = λ u m. elim (cases_eq u.index t.index) [
    | inl same ↦ inr (subst (Contains (t ∷ [])) (same_id t u same) (the_one t), Contains-append_right todo (t ∷ []) u (subst (Contains (t ∷ [])) (same_id t u same) (the_one t)))
    | inr other ↦ inl (sym (get_elsewhere marks t.index u.index true other) ∙ m)
  ];
  waits = λ u c. Contains-append_left todo (t ∷ []) u c;
  listed = λ u c. elim (Contains-append_cases todo (t ∷ []) u c) [
    | inl before ↦ inl before
    | inr last ↦ inr (subst (IsMarked (slice_set marks t.index true)) (one_of t u last) (set_here marks t.index true within))
  ];
  fewer =
      let change = sum_by-set lack marks t.index true false within in
      let was : lack (get_or marks t.index false) ≡ 1 = ap lack (get_or_from_slice_get marks t.index false false e) in
      let more = length-append todo (t ∷ []) in
      omega (arith, change, was, more);
}
  where
    within : t.index < length marks
    within = slice_get_within marks t.index false e

-- nothing to mark
pub marks_start : (marks : List Bool) (todo : List TyId) → HasMarked [] marks marks todo todo
marks_start marks todo = record {
  same = refl;
  marked = λ u c. absurd (none_of u c);
  kept = λ u m. m;
  known = λ u m. inl m;
  waits = λ u c. c;
  listed = λ u c. inl c;
  fewer = omega arith;
}

-- marking some and then others
pub marks_go : (ts us : List TyId) (a b c : List Bool) (p q r : List TyId) → HasMarked ts a b p q → HasMarked us b c q r → HasMarked (ts ++ us) a c p r
marks_go ts us a b c p q r first second = record {
  same = second.same ∙ first.same;
  marked = λ u h. elim (Contains-append_cases ts us u h) [ inl x ↦ second.kept u (first.marked u x) | inr y ↦ second.marked u y ];
  kept = λ u m. second.kept u (first.kept u m);
  known = λ u m. elim (second.known u m) [
    | inl before ↦ elim (first.known u before) [
      | inl old ↦ inl old
      | inr x ↦ inr (Contains-append_left ts us u x.0, second.waits u x.1)
    ]
    | inr y ↦ inr (Contains-append_right ts us u y.0, y.1)
  ];
  waits = λ u h. second.waits u (first.waits u h);
  listed = λ u h. elim (second.listed u h) [
    | inl before ↦ elim (first.listed u before) [ inl x ↦ inl x | inr m ↦ inr (second.kept u m) ]
    | inr m ↦ inr m
  ];
  fewer = let x = first.fewer in let y = second.fewer in omega arith;
}

-- one part further
onward : (types : List Node) (t u v : TyId) (n : Node) → IsOrHolds types t u → slice_get types u.index ≡ Some n → Contains (parts_in n) v → IsOrHolds types t v
onward types t u v n (itself _) e c = part t v v n e c (itself v)
onward types t u v n (part _ _ p m at listed rest) e c = part t v p m at listed (onward types p u v n rest e c)

-- each mark is that of a type that is held, and the parts of a marked type are marked, or it waits
pub record IsMarking (types : List Node) (roots : List TyId) (marks : List Bool) (todo : List TyId) : Type 0 where
  pub same : length marks ≡ length types
  pub begun : (t : TyId) → Contains roots t → IsMarked marks t
  pub sound : (t : TyId) → IsMarked marks t → IsHeldBy types roots t
  pub closed : (t : TyId) (n : Node) → IsMarked marks t → slice_get types t.index ≡ Some n → Contains todo t ⊎ ((p : TyId) → Contains (parts_in n) p → IsMarked marks p)
  pub waiting : (t : TyId) → Contains todo t → IsMarked marks t

no_mark : (n : ℕ) (i : ℕ) → slice_get (replicate n false) i ≡ Some true → ⊥
no_mark zero i e = cc
no_mark (suc n) zero e = cc
no_mark (suc n) (suc i) e = no_mark n i e

-- the roots are marked
pub roots_marked : (types : List Node) (roots : List TyId) (n : ℕ) (marks : List Bool) (todo : List TyId) → length (replicate n false) ≡ length types → HasMarked roots (replicate n false) marks [] todo → IsMarking types roots marks todo
roots_marked types roots n marks todo count h = record {
  same = h.same ∙ count;
  begun = h.marked;
  sound = λ t m. elim (h.known t m) [
    | inl old ↦ absurd (no_mark n t.index old)
    | inr x ↦ record { root = t; listed = x.0; holds = itself t }
  ];
  closed = λ t m is e. elim (h.known t is) [
    | inl old ↦ absurd (no_mark n t.index old)
    | inr x ↦ inl x.1
  ];
  waiting = λ t c. elim (h.listed t c) [ inl none ↦ absurd (none_of t none) | inr m ↦ m ];
}

-- the parts of a type that waited are marked
pub parts_marked : (types : List Node) (roots : List TyId) (old new : List Bool) (rest after : List TyId) (t : TyId) (n : Node) → IsMarking types roots old (rest ++ (t ∷ [])) → slice_get types t.index ≡ Some n →
    HasMarked (parts_in n) old new rest after → IsMarking types roots new after
parts_marked types roots old new rest after t n m at h = record {
  same = h.same ∙ m.same;
  begun = λ u c. h.kept u (m.begun u c);
  sound = λ u is. elim (h.known u is) [
    | inl before ↦ m.sound u before
    | inr x ↦ (
        let by = m.sound t (m.waiting t (Contains-append_right rest (t ∷ []) t (the_one t))) in
        record { root = by.root; listed = by.listed; holds = onward types by.root t u n by.holds at x.0 })
  ];
  closed = λ u k is e. elim (h.known u is) [
    | inl before ↦ elim (m.closed u k before e) [
      | inl waits ↦ elim (Contains-append_cases rest (t ∷ []) u waits) [
        | inl still ↦ inl (h.waits u still)
        | inr last ↦ inr (λ p c. h.marked p (subst (λ x. Contains (parts_in x) p) (one_node u k (one_of t u last) e) c))
      ]
      | inr all ↦ inr (λ p c. h.kept p (all p c))
    ]
    | inr x ↦ inl x.1
  ];
  waiting = λ u c. elim (h.listed u c) [
    | inl before ↦ h.kept u (m.waiting u (Contains-append_left rest (t ∷ []) u before))
    | inr is ↦ is
  ];
}
  where
    one_node : (u : TyId) (k : Node) → t ≡ u → slice_get types u.index ≡ Some k → k ≡ n
    one_node u k same e = let is : Some k ≡ Some n = sym e ∙ ap (λ x. slice_get types x.index) (sym same) ∙ at in cc

there : (types : List Node) (i : ℕ) → i < length types → slice_get types i ≡ None → ⊥
there [] i h e = absurd (omega arith)
there (n ∷ ns) zero h e = cc
there (n ∷ ns) (suc i) h e = there ns i (omega arith) e

-- a type that waits is in the table
pub none_missing : (types : List Node) (roots : List TyId) (marks : List Bool) (rest : List TyId) (t : TyId) → IsMarking types roots marks (rest ++ (t ∷ [])) → slice_get types t.index ≡ None → ⊥
none_missing types roots marks rest t m e =
    let is = m.waiting t (Contains-append_right rest (t ∷ []) t (the_one t)) in
    let within = slice_get_within marks t.index true is in
    let same = m.same in
    there types t.index (omega arith) e

reached : (types : List Node) (roots : List TyId) (marks : List Bool) → IsMarking types roots marks [] → (t u : TyId) → IsOrHolds types t u → IsMarked marks t → IsMarked marks u
reached types roots marks m t u (itself _) is = is
reached types roots marks m t u (part _ _ p n at listed rest) is = reached types roots marks m p u rest (elim (m.closed t n is at) [ inl waits ↦ absurd (none_of t waits) | inr all ↦ all p listed ])

-- where none waits, the marks are those of the types that are held
pub all_marked : (types : List Node) (roots : List TyId) (marks : List Bool) → IsMarking types roots marks [] → (u : TyId) → IsMarked marks u ↔ IsHeldBy types roots u
all_marked types roots marks m u = (m.sound u, λ h. reached types roots marks m h.root u h.holds (m.begun h.root h.listed))

none_below : (n : ℕ) → All (λ (t : TyId). t.index < n) []
none_below n k d h = absurd (omega arith)

one_below : (n : ℕ) (t : TyId) → t.index < n → All (λ (u : TyId). u.index < n) (t ∷ [])
one_below n t below zero d h = below
one_below n t below (suc k) d h = absurd (omega arith)

-- the parts of a type of the table are in the table
pub parts_below : (n : ℕ) (node : Node) → HasPartsBelow n node → All (λ (t : TyId). t.index < n) (parts_in node)
parts_below n (nodes.pointer to) h = one_below n to h
parts_below n (nodes.array count of) h = one_below n of h
parts_below n (nodes.slice of) h = one_below n of h
parts_below n (nodes.dynamic of) h = one_below n of h
parts_below n (nodes.soa form of) h = one_below n of h
parts_below n (nodes.struct name None) h = none_below n
parts_below n (nodes.struct name (Some fs)) h = All-map (λ (t : TyId). t.index < n) (λ (f : Field). f.ty) fs h.1
parts_below n (nodes.union name None) h = none_below n
parts_below n (nodes.union name (Some vs)) h = h.1
parts_below n (nodes.enum name base es) h = none_below n
parts_below n (nodes.distinct name None) h = none_below n
parts_below n (nodes.distinct name (Some b)) h = one_below n b h.1
parts_below n (nodes.procedure convention ps rs) h = All-append (λ (t : TyId). t.index < n) (map (λ (p : Param). p.ty) ps) rs (All-map (λ (t : TyId). t.index < n) (λ (p : Param). p.ty) ps h.0) h.1
parts_below n nodes.truth h = none_below n
parts_below n (nodes.integer w) h = none_below n
parts_below n nodes.rune h = none_below n
parts_below n nodes.text h = none_below n
parts_below n nodes.rawptr h = none_below n
