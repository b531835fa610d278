-- What the heads of procedures say, for the first node that isn't carried.
use Rattle.std.proofs.Common.{◌≡◌, ℕ, zero, suc, ◌+◌, ◌-◌, ◌<◌, ◌≤◌, Bool, true, false, List, [], ◌∷◌, ◌++◌, length, map, take, get_or, ap, ◌∙◌, sym, refl, arith}
use Rattle.std.specs.Prelude.{Option, Some, None, ◌==◌, ◌&&◌, nat_le, slice_get}
use Rattle.std.proofs.lemmas.Bool.Decides.{nat_tests}
use Rattle.odc_text.specs.declared.place.Place.{Place}
use Rattle.odc_program.specs.declared.program.Local.{Local as RustLocal}
use Rattle.odc_program.specs.Trees.Tree.{Expr, expr, local as local', none, more, Lefts, no_lefts, left_, Rights, nothing, each}
use Rattle.odc_program.specs.declared.program.Need.{Need as RustNeed}
use Rattle.odc_program.specs.Trees.Program.{Local, Head, Tables}
use Rattle.odc_program.specs.declared.program.Procedure.{Procedure as RustProcedure}
use Rattle.odc_program.specs.Views.Instances.{Procedure, need, instance, procedure, local}
use Rattle.odc_program.specs.Views.StmtView.{lefts}
use Rattle.odc_program.specs.Views.ProgramView.{head, position_from, positions}
use Rattle.odc_carried.specs.Carried.{is_int, are_ints, is_head, names_int, unless, refused_int, refused_declared, refused_assigned, refused_return}
use Rattle.odc_carried.specs.Single.{named, only}
use Rattle.odc_carried.specs.Refusal.{refused_only, is_target}

-- ---- parameters and results
and_and : (a b c : Bool) → (a && (b && c)) ≡ ((a && b) && c)
and_and true b c = refl
and_and false b c = refl

first_ints : (t : Tables) (n : ℕ) (rs ls : List Local) → n ≡ length rs → are_ints t (take n (rs ++ ls)) ≡ are_ints t rs
first_ints t zero [] ls e = refl
first_ints t (suc n) [] ls e = absurd (omega (arith, e))
first_ints t zero (r ∷ rs) ls e = absurd (omega (arith, e))
first_ints t (suc n) (r ∷ rs) ls e = ap (λ (b : Bool). is_int t r.ty && b) (first_ints t n rs ls (omega (arith, e)))

taken_ints : (t : Tables) (n : ℕ) (ps rs ls : List Local) → n ≡ length ps + length rs → are_ints t (take n (ps ++ (rs ++ ls))) ≡ (are_ints t ps && are_ints t rs)
taken_ints t n [] rs ls e = first_ints t n rs ls (omega (arith, e))
taken_ints t zero (p ∷ ps) rs ls e = absurd (omega (arith, e))
taken_ints t (suc n) (p ∷ ps) rs ls e = ap (λ (b : Bool). is_int t p.ty && b) (taken_ints t n ps rs ls (omega (arith, e))) ∙ and_and (is_int t p.ty) (are_ints t ps) (are_ints t rs)

long_enough : (ps rs ls : List Local) → length ps + length rs ≤ length (ps ++ (rs ++ ls))
long_enough [] [] ls = omega arith
long_enough [] (r ∷ rs) ls = let rest : length {A = Local} [] + length rs ≤ length (rs ++ ls) = long_enough [] rs ls in omega (arith, rest)
long_enough (p ∷ ps) rs ls = let rest : length ps + length rs ≤ length (ps ++ (rs ++ ls)) = long_enough ps rs ls in omega (arith, rest)

pub head_is : (t : Tables) (h : Head) (ps rs ls : List Local) → h.locals ≡ ps ++ (rs ++ ls) → h.parameters ≡ length ps → h.results ≡ length rs → is_head t h ≡ (nat_le (length rs) 1 && (are_ints t ps && are_ints t rs))
head_is t h ps rs ls locals parameters results =
    let enough : length ps + length rs ≤ length (ps ++ (rs ++ ls)) = long_enough ps rs ls in
    let sum : h.parameters + h.results ≡ length ps + length rs = omega (arith, parameters, results) in
    let count : length h.locals ≡ length (ps ++ (rs ++ ls)) = ap length locals in
    let room : nat_le (h.parameters + h.results) (length h.locals) ≡ true = grind (arith, nat_tests) in
    ap (λ (n : ℕ). nat_le n 1 && (nat_le (h.parameters + h.results) (length h.locals) && are_ints t (take (h.parameters + h.results) h.locals))) results
    ∙ ap (λ (b : Bool). nat_le (length rs) 1 && (b && are_ints t (take (h.parameters + h.results) h.locals))) room
    ∙ ap (λ (xs : List Local). nat_le (length rs) 1 && are_ints t (take (h.parameters + h.results) xs)) locals
    ∙ ap (λ (b : Bool). nat_le (length rs) 1 && b) (taken_ints t (h.parameters + h.results) ps rs ls sum)

-- ---- look-ups
pub get_behind : {A : Type 0} (xs ys : List A) (i : ℕ) → length xs ≤ i → slice_get (xs ++ ys) i ≡ slice_get ys (i - length xs)
get_behind [] ys i h = let same : i ≡ i - 0 = omega arith in ap (slice_get ys) same
get_behind (x ∷ xs) ys zero h = absurd (omega (arith, h))
get_behind (x ∷ xs) ys (suc i) h =
    let same : i - length xs ≡ suc i - suc (length xs) = omega arith in
    get_behind xs ys i (omega (arith, h)) ∙ ap (slice_get ys) same

pub need_at : (ps : List Procedure) (ns : List RustNeed) (i : ℕ) (n : RustNeed) → i < length ns → n ≡ get_or ns i n → get_or (positions ps (map need ns)) i 0 ≡ position_from 0 ps (instance n.inst)
need_at ps [] i n h e = absurd (omega (arith, h))
need_at ps (m ∷ ns) zero n h e = ap (λ (x : RustNeed). position_from 0 ps (instance x.inst)) (sym e)
need_at ps (m ∷ ns) (suc i) n h e = need_at ps ns i n (omega (arith, h)) e

pub need_past : (ps : List Procedure) (ns : List RustNeed) (i : ℕ) → length ns ≤ i → get_or (positions ps (map need ns)) i 0 ≡ 0
need_past ps [] i h = refl
need_past ps (m ∷ ns) zero h = absurd (omega (arith, h))
need_past ps (m ∷ ns) (suc i) h = need_past ps ns i (omega (arith, h))

pub head_at : (all : List Procedure) (ps : List RustProcedure) (f : ℕ) (q : RustProcedure) → f < length ps → q ≡ get_or ps f q → slice_get (map (head all) (map procedure ps)) f ≡ Some (head all (procedure q))
head_at all [] f q h e = absurd (omega (arith, h))
head_at all (p ∷ ps) zero q h e = ap (λ (x : RustProcedure). Some (head all (procedure x))) (sym e)
head_at all (p ∷ ps) (suc f) q h e = head_at all ps f q (omega (arith, h)) e

pub head_past : (all : List Procedure) (ps : List RustProcedure) (f : ℕ) → length ps ≤ f → slice_get (map (head all) (map procedure ps)) f ≡ None
head_past all [] f h = refl
head_past all (p ∷ ps) zero h = absurd (omega (arith, h))
head_past all (p ∷ ps) (suc f) h = head_past all ps f (omega (arith, h))

-- a variable behind parameters and results
behind_mapped : {A B : Type 0} (f : A → B) (xs : List A) (ys : List B) (i : ℕ) → length xs ≤ i → slice_get (map f xs ++ ys) i ≡ slice_get ys (i - length xs)
behind_mapped f [] ys i h = let same : i ≡ i - 0 = omega arith in ap (slice_get ys) same
behind_mapped f (x ∷ xs) ys zero h = absurd (omega (arith, h))
behind_mapped f (x ∷ xs) ys (suc i) h =
    let same : i - length xs ≡ suc i - suc (length xs) = omega arith in
    behind_mapped f xs ys i (omega (arith, h)) ∙ ap (slice_get ys) same

mapped_at : {A B : Type 0} (f : A → B) (xs : List A) (i : ℕ) (x : A) → i < length xs → x ≡ get_or xs i x → slice_get (map f xs) i ≡ Some (f x)
mapped_at f [] i x h e = absurd (omega (arith, h))
mapped_at f (y ∷ xs) zero x h e = ap (λ z. Some (f z)) (sym e)
mapped_at f (y ∷ xs) (suc i) x h e = mapped_at f xs i x (omega (arith, h)) e

mapped_past : {A B : Type 0} (f : A → B) (xs : List A) (i : ℕ) → length xs ≤ i → slice_get (map f xs) i ≡ None
mapped_past f [] i h = refl
mapped_past f (y ∷ xs) zero h = absurd (omega (arith, h))
mapped_past f (y ∷ xs) (suc i) h = mapped_past f xs i (omega (arith, h))

module _ (ps rs ls : List RustLocal) (x a b : ℕ) (is_a : a ≡ length ps) (is_b : b ≡ length rs) (first : a ≤ x) (second : b ≤ x - a) where
  third : slice_get (map local ps ++ (map local rs ++ map local ls)) x ≡ slice_get (map local ls) (x - a - b)
  third =
      let same : x - length ps - length rs ≡ x - a - b = omega (arith, is_a, is_b) in
      behind_mapped local ps (map local rs ++ map local ls) x (omega (arith, first, is_a)) ∙ behind_mapped local rs (map local ls) (x - length ps) (omega (arith, second, is_a, is_b)) ∙ ap (slice_get (map local ls)) same

  pub third_at : (l : RustLocal) → x - a - b < length ls → l ≡ get_or ls (x - a - b) l → slice_get (map local ps ++ (map local rs ++ map local ls)) x ≡ Some (local l)
  third_at l h e = third ∙ mapped_at local ls (x - a - b) l h e

  pub third_past : length ls ≤ x - a - b → slice_get (map local ps ++ (map local rs ++ map local ls)) x ≡ None
  third_past h = third ∙ mapped_past local ls (x - a - b) h

-- ---- three tests of a head
pub head_fails : (a b c : Bool) → b ≡ false → (a && (b && c)) ≡ false
head_fails true b c e = ap (λ (x : Bool). x && c) e
head_fails false b c e = refl

pub head_holds : (a b c : Bool) → a ≡ true → b ≡ true → (a && (b && c)) ≡ c
head_holds a b c e g = ap (λ (x : Bool). x && (b && c)) e ∙ ap (λ (x : Bool). x && c) g

pub few_results : (rs : List RustLocal) → length rs ≤ 1 → nat_le (length (map local rs)) 1 ≡ true
few_results [] h = refl
few_results (r ∷ []) h = refl
few_results (r ∷ q ∷ rs) h = absurd (omega (arith, h))

-- ---- statements
pub only_is : (t : Tables) (p : Head) (at : Place) (vs : Rights) (e : Expr) → only vs ≡ Some e → refused_only t p at vs ≡ refused_int t p e
only_is t p at (each (more f none)) e g = let same : f ≡ e = cc in ap (refused_int t p) same
only_is t p at vs e g = absurd (cc)

pub only_not : (t : Tables) (p : Head) (at : Place) (vs : Rights) → only vs ≡ None → refused_only t p at vs ≡ Some at
only_not t p at (each (more e none)) g = absurd (cc)
only_not t p at vs g = refl

pub declared_not : (t : Tables) (p : Head) (at : Place) (xs : List (Option ℕ)) (vs : Rights) → named xs ≡ None → refused_declared t p at xs vs ≡ Some at
declared_not t p at (Some x ∷ []) vs g = absurd (cc)
declared_not t p at xs vs g = refl

pub declared_other : (t : Tables) (p : Head) (at : Place) (xs : List (Option ℕ)) (x : ℕ) (vs : Rights) → named xs ≡ Some x → names_int t p x ≡ false → refused_declared t p at xs vs ≡ Some at
declared_other t p at (Some y ∷ []) x nothing g e =
    let same : y ≡ x = cc in ap (λ (z : ℕ). unless (names_int t p z) at None) same ∙ ap (λ (b : Bool). unless b at None) e
declared_other t p at (Some y ∷ []) x (each (more f none)) g e =
    let same : y ≡ x = cc in ap (λ (z : ℕ). unless (names_int t p z) at (refused_int t p f)) same ∙ ap (λ (b : Bool). unless b at (refused_int t p f)) e
declared_other t p at xs x vs g e = refl

pub declared_zero : (t : Tables) (p : Head) (at : Place) (xs : List (Option ℕ)) (x : ℕ) → named xs ≡ Some x → names_int t p x ≡ true → refused_declared t p at xs nothing ≡ None
declared_zero t p at (Some y ∷ []) x g e = let same : y ≡ x = cc in ap (λ (z : ℕ). unless (names_int t p z) at None) same ∙ ap (λ (b : Bool). unless b at None) e
declared_zero t p at xs x g e = absurd (cc)

pub declared_value : (t : Tables) (p : Head) (at : Place) (xs : List (Option ℕ)) (x : ℕ) (vs : Rights) → named xs ≡ Some x → names_int t p x ≡ true → (vs ≡ nothing → ⊥) → refused_declared t p at xs vs ≡ refused_only t p at vs
declared_value t p at (Some y ∷ []) x nothing g e h = absurd (h refl)
declared_value t p at (Some y ∷ []) x (each (more f none)) g e h =
    let same : y ≡ x = cc in ap (λ (z : ℕ). unless (names_int t p z) at (refused_int t p f)) same ∙ ap (λ (b : Bool). unless b at (refused_int t p f)) e
declared_value t p at xs x (each (more f none)) g e h = absurd (cc)
declared_value t p at xs x vs g e h = refl

pub assigned_value : (t : Tables) (p : Head) (at : Place) (ls : Lefts) (vs : Rights) → is_target t p ls ≡ true → refused_assigned t p at ls vs ≡ refused_only t p at vs
assigned_value t p at (left_ (expr u at' (local' x)) no_lefts) (each (more e none)) g = ap (λ (b : Bool). unless b at (refused_int t p e)) g
assigned_value t p at ls (each (more e none)) g = absurd (cc)
assigned_value t p at ls vs g = refl

pub assigned_not : (t : Tables) (p : Head) (at : Place) (ls : Lefts) (vs : Rights) → is_target t p ls ≡ false → refused_assigned t p at ls vs ≡ Some at
assigned_not t p at (left_ (expr u at' (local' x)) no_lefts) (each (more e none)) g = ap (λ (b : Bool). unless b at (refused_int t p e)) g
assigned_not t p at ls vs g = refl

pub returned_value : (t : Tables) (p : Head) (at : Place) (vs : Rights) → (vs ≡ nothing → ⊥) → (p.results == 1) ≡ true → refused_return t p at vs ≡ refused_only t p at vs
returned_value t p at nothing h e = absurd (h refl)
returned_value t p at (each (more f none)) h e = ap (λ (b : Bool). unless b at (refused_int t p f)) e
returned_value t p at vs h e = refl

pub returned_not : (t : Tables) (p : Head) (at : Place) (vs : Rights) → (vs ≡ nothing → ⊥) → (p.results == 1) ≡ false → refused_return t p at vs ≡ Some at
returned_not t p at nothing h e = absurd (h refl)
returned_not t p at (each (more f none)) h e = ap (λ (b : Bool). unless b at (refused_int t p f)) e
returned_not t p at vs h e = refl

pub target_not : (t : Tables) (p : Head) (ls : List (Option Expr)) → 2 ≤ length ls → is_target t p (lefts ls) ≡ false
target_not t p [] h = absurd (omega (arith, h))
target_not t p (l ∷ []) h = absurd (omega (arith, h))
target_not t p (None ∷ l ∷ ls) h = refl
target_not t p (Some (expr u at (local' x)) ∷ None ∷ ls) h = refl
target_not t p (Some (expr u at (local' x)) ∷ Some f ∷ ls) h = refl
target_not t p (Some (expr u at _) ∷ None ∷ ls) h = refl
target_not t p (Some (expr u at _) ∷ Some f ∷ ls) h = refl
