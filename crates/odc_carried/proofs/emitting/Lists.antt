-- Lists that loops over the tables of a program fill.
use Rattle.std.proofs.Common.{◌≡◌, ℕ, zero, suc, ◌+◌, ◌<◌, Bool, true, false, List, [], ◌∷◌, ◌++◌, length, map, take, get_or, ap, ◌∙◌, sym, refl, arith, append_assoc}
use Rattle.std.specs.Prelude.{◌==◌, ◌&&◌, ℤ}
use Rattle.std.specs.Ordering.{int_eq}
use Rattle.odc_types.specs.declared.ty.TyId.{TyId}
use Rattle.odc_program.specs.declared.program.Need.{Need as RustNeed}
use Rattle.odc_program.specs.declared.program.Procedure.{Procedure as RustProcedure}
use Rattle.odc_program.specs.declared.program.Program.{Program as RustProgram}
use Rattle.odc_program.specs.declared.program.TypeRow.{TypeRow}
use Rattle.odc_program.specs.Trees.Program.{Head, Body, Tables}
use Rattle.odc_program.specs.Views.Instances.{Procedure, procedure, need, instance}
use Rattle.odc_program.specs.Views.ProgramView.{head, program, types_alone, same_numbers, same_ints, position_from, positions}
use Rattle.odc_core.specs.declared.tree.Variable.{Variable}
use Rattle.odc_core.specs.Tree.{Proc, Whole}
use Rattle.odc_carried.specs.Code.{wait_variable, waits_from, crossed, crossed_all, crossed_program}
use Rattle.odc_carried.specs.TableView.{typed}

-- ---- lists of other lengths differ
and_false : (a b : Bool) → b ≡ false → (a && b) ≡ false
and_false true b e = e
and_false false b e = refl

pub types_differ : (a b : List TyId) → (length a ≡ length b → ⊥) → same_numbers (map (λ (t : TyId). t.index) a) (map (λ (t : TyId). t.index) b) ≡ false
types_differ [] [] h = absurd (h refl)
types_differ [] (y ∷ b) h = refl
types_differ (x ∷ a) [] h = refl
types_differ (x ∷ a) (y ∷ b) h = and_false (x.index == y.index) (same_numbers (map (λ (t : TyId). t.index) a) (map (λ (t : TyId). t.index) b)) (types_differ a b (λ e. h (ap suc e)))

pub values_differ : (a b : List ℤ) → (length a ≡ length b → ⊥) → same_ints a b ≡ false
values_differ [] [] h = absurd (h refl)
values_differ [] (y ∷ b) h = refl
values_differ (x ∷ a) [] h = refl
values_differ (x ∷ a) (y ∷ b) h = and_false (int_eq x y) (same_ints a b) (values_differ a b (λ e. h (ap suc e)))

-- ---- one more
taken_more : {A : Type 0} (xs : List A) (i : ℕ) (x : A) → i < length xs → x ≡ get_or xs i x → take (i + 1) xs ≡ take i xs ++ x ∷ []
taken_more [] i x h e = absurd (omega (arith, h))
taken_more (y ∷ xs) zero x h e = ap (λ z. z ∷ []) (sym e)
taken_more (y ∷ xs) (suc i) x h e =
    let next : suc i + 1 ≡ suc (i + 1) = omega arith in
    ap (λ (n : ℕ). take n (y ∷ xs)) next ∙ ap (λ zs. y ∷ zs) (taken_more xs i x (omega (arith, h)) e)

pub map_end : {A B : Type 0} (f : A → B) (xs : List A) (x : A) → map f (xs ++ x ∷ []) ≡ map f xs ++ f x ∷ []
map_end f [] x = refl
map_end f (y ∷ xs) x = ap (λ ys. f y ∷ ys) (map_end f xs x)

pub waits_more : (low d n : ℕ) → waits_from low d (n + 1) ≡ waits_from low d n ++ wait_variable low (d + n) ∷ []
waits_more low d zero = let same : d ≡ d + 0 = omega arith in ap (λ (k : ℕ). wait_variable low k ∷ []) same
waits_more low d (suc n) =
    let next : suc n + 1 ≡ suc (n + 1) = omega arith in
    let last : d + 1 + n ≡ d + suc n = omega arith in
    ap (waits_from low d) next ∙ ap (λ (vs : List Variable). wait_variable low d ∷ vs) (waits_more low (d + 1) n ∙ ap (λ (k : ℕ). waits_from low (d + 1) n ++ wait_variable low k ∷ []) last)

pub wait_behind : (before old new : List Variable) (low n : ℕ) (v : Variable) → old ≡ before ++ waits_from low 0 n → new ≡ old ++ v ∷ [] → v ≡ wait_variable low n → new ≡ before ++ waits_from low 0 (n + 1)
wait_behind before old new low n v told grown is =
    let same : n ≡ 0 + n = omega arith in
    grown ∙ ap (λ (vs : List Variable). vs ++ v ∷ []) told ∙ append_assoc before (waits_from low 0 n) (v ∷ [])
    ∙ ap (λ (w : Variable). before ++ (waits_from low 0 n ++ w ∷ [])) (is ∙ ap (wait_variable low) same) ∙ ap (λ (vs : List Variable). before ++ vs) (sym (waits_more low 0 n))

positions_end : (ps : List Procedure) (ns : List RustNeed) (n : RustNeed) → positions ps (map need (ns ++ n ∷ [])) ≡ positions ps (map need ns) ++ position_from 0 ps (instance n.inst) ∷ []
positions_end ps [] n = refl
positions_end ps (m ∷ ns) n = ap (λ (xs : List ℕ). position_from 0 ps (instance m.inst) ∷ xs) (positions_end ps ns n)

pub positions_more : (ps : List Procedure) (ns : List RustNeed) (i : ℕ) (n : RustNeed) (old new : List ℕ) (x : ℕ) → i < length ns → n ≡ get_or ns i n → old ≡ positions ps (map need (take i ns)) → new ≡ old ++ x ∷ [] → x ≡ position_from 0 ps (instance n.inst) → new ≡ positions ps (map need (take (i + 1) ns))
positions_more ps ns i n old new x h e told grown is =
    grown ∙ ap (λ (xs : List ℕ). xs ++ x ∷ []) told ∙ ap (λ (y : ℕ). positions ps (map need (take i ns)) ++ y ∷ []) is
    ∙ sym (positions_end ps (take i ns) n) ∙ ap (λ (xs : List RustNeed). positions ps (map need xs)) (sym (taken_more ns i n h e))

-- ---- procedures of a program
module _ (tables : Tables) (all : List Procedure) where
  abbrev pub become : List RustProcedure → List Proc
  become ps = crossed_all tables (map (head all) (map procedure ps)) (map (λ (q : Procedure). q.body) (map procedure ps))

  become_end : (ps : List RustProcedure) (p : RustProcedure) → become (ps ++ p ∷ []) ≡ become ps ++ crossed tables (head all (procedure p)) (procedure p).body ∷ []
  become_end [] p = refl
  become_end (q ∷ ps) p = ap (λ (xs : List Proc). crossed tables (head all (procedure q)) (procedure q).body ∷ xs) (become_end ps p)

  pub become_more : (ps : List RustProcedure) (i : ℕ) (p : RustProcedure) (old new : List Proc) (x : Proc) → i < length ps → p ≡ get_or ps i p → old ≡ become (take i ps) → new ≡ old ++ x ∷ [] → x ≡ crossed tables (head all (procedure p)) (procedure p).body → new ≡ become (take (i + 1) ps)
  become_more ps i p old new x h e told grown is =
      grown ∙ ap (λ (xs : List Proc). xs ++ x ∷ []) told ∙ ap (λ (y : Proc). become (take i ps) ++ y ∷ []) is
      ∙ sym (become_end (take i ps) p) ∙ ap become (sym (taken_more ps i p h e))

-- the code of a procedure looks at the types alone
typed_same : (tables : Tables) (ps : List Head) (qs : List Body) → crossed_all (types_alone tables.types []) ps qs ≡ crossed_all tables ps qs
typed_same tables [] qs = refl
typed_same tables (p ∷ ps) [] = refl
typed_same tables (p ∷ ps) (q ∷ qs) = ap (λ (xs : List Proc). crossed tables p q ∷ xs) (typed_same tables ps qs)

abbrev with_procedures : List Proc → ℕ → List ℕ → List ℕ → Whole
with_procedures ps main addresses store = record { procedures = ps; addresses = addresses; store = store; store_size = 0; main = main }

pub whole_is : (p : RustProgram) (rows : List TypeRow) (ps : List RustProcedure) (qs : List Proc) (addresses store : List ℕ) → rows ≡ p.types.items → ps ≡ p.procedures.items → qs ≡ become (typed rows) (map procedure ps) ps → addresses ≡ [] → store ≡ [] →
    with_procedures qs p.main addresses store ≡ crossed_program (program p)
whole_is p rows ps qs addresses store types same is none empty =
    let tables : Tables = (program p).tables in
    let found : qs ≡ crossed_all tables tables.procedures (program p).bodies =
    is ∙ ap (λ (x : List TypeRow). become (typed x) (map procedure ps) ps) types ∙ ap (λ (x : List RustProcedure). become (typed p.types.items) (map procedure x) x) same
    ∙ typed_same tables tables.procedures (program p).bodies in
    ap (λ (xs : List Proc). with_procedures xs p.main addresses store) found
    ∙ ap (λ (xs : List ℕ). with_procedures (crossed_all tables tables.procedures (program p).bodies) p.main xs store) none
    ∙ ap (λ (xs : List ℕ). with_procedures (crossed_all tables tables.procedures (program p).bodies) p.main [] xs) empty
