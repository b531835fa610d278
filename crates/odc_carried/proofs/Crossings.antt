-- What is known of the procedures of a program that can cross, and that its core code keeps its run.
use Rattle.std.proofs.Common.{◌≡◌, ℕ, zero, suc, true, List, [], ◌∷◌, arith, subst, refl}
use Rattle.std.specs.Prelude.{Option, Some, None, ◌==◌, ◌&&◌, slice_get}
use Rattle.std.proofs.lemmas.Bool.Decides.{nat_tests}
use Rattle.odc_text.specs.declared.place.Place.{Place}
use Rattle.odc_program.specs.Trees.Program.{Head, Body, Tables, Program}
use Rattle.odc_program.specs.Typing.Frames.{framed_procedure, framed_from, has_none}
use Rattle.odc_program.specs.Typing.Well.{well_procedures, well_tables, outer_head, is_main}
use Rattle.odc_program.specs.Typing.WellTypes.{is_there}
use Rattle.odc_program.specs.Runs.Source.{env_of}
use Rattle.odc_carried.specs.Carried.{refused_procedure, refused_procedures, is_none}
use Rattle.odc_carried.specs.Crossing.{CanCross, AreWell, AreKept}
use Rattle.odc_carried.proofs.Quiet.{and_true}
use Rattle.odc_carried.proofs.Evals.{passed_both}
use Rattle.odc_carried.proofs.Calls.{AllGood}
use Rattle.odc_carried.proofs.Rooms.{is_laid, has_room}
use Rattle.odc_carried.proofs.Whole.{keeps}

-- ---- heads and bodies side by side
pub body_at : (tables : Tables) (ps : List Head) (qs : List Body) → framed_from tables ps qs ≡ true → (f : ℕ) (p : Head) → slice_get ps f ≡ Some p → (q : Body) × (slice_get qs f ≡ Some q)
body_at tables [] qs e f p found = absurd (cc)
body_at tables (x ∷ ps) [] e f p found = absurd (cc)
body_at tables (x ∷ ps) (y ∷ qs) e zero p found = (y, refl)
body_at tables (x ∷ ps) (y ∷ qs) e (suc f) p found =
    body_at tables ps qs (and_true (framed_procedure (env_of tables x 0 0 0 None) x y.stmts && has_none y.helpers) (framed_from tables ps qs) e).1 f p found

pub framed_at : (tables : Tables) (ps : List Head) (qs : List Body) → framed_from tables ps qs ≡ true → (f : ℕ) (p : Head) (q : Body) → slice_get ps f ≡ Some p → slice_get qs f ≡ Some q → (framed_procedure (env_of tables p 0 0 0 None) p q.stmts ≡ true) × (has_none q.helpers ≡ true)
framed_at tables [] qs e f p q found body = absurd (cc)
framed_at tables (x ∷ ps) [] e f p q found body = absurd (cc)
framed_at tables (x ∷ ps) (y ∷ qs) e zero p q found body =
    let both = and_true (framed_procedure (env_of tables x 0 0 0 None) x y.stmts && has_none y.helpers) (framed_from tables ps qs) e in
    let here = and_true (framed_procedure (env_of tables x 0 0 0 None) x y.stmts) (has_none y.helpers) both.0 in
    let one : x ≡ p = cc in
    let two : y ≡ q = cc in
    let P : Head → Body → Type 0 = λ h k. (framed_procedure (env_of tables h 0 0 0 None) h k.stmts ≡ true) × (has_none k.helpers ≡ true) in
    subst (λ (k : Body). P p k) two (subst (λ (h : Head). P h y) one here)
framed_at tables (x ∷ ps) (y ∷ qs) e (suc f) p q found body =
    framed_at tables ps qs (and_true (framed_procedure (env_of tables x 0 0 0 None) x y.stmts && has_none y.helpers) (framed_from tables ps qs) e).1 f p q found body

pub carried_at : (tables : Tables) (ps : List Head) (qs : List Body) → refused_procedures tables ps qs ≡ None → (f : ℕ) (p : Head) (q : Body) → slice_get ps f ≡ Some p → slice_get qs f ≡ Some q → refused_procedure tables p q ≡ None
carried_at tables [] qs e f p q found body = absurd (cc)
carried_at tables (x ∷ ps) [] e f p q found body = absurd (cc)
carried_at tables (x ∷ ps) (y ∷ qs) e zero p q found body =
    let here = (passed_both (refused_procedure tables x y) (refused_procedures tables ps qs) e).0 in
    let one : x ≡ p = cc in
    let two : y ≡ q = cc in
    subst (λ (k : Body). refused_procedure tables p k ≡ None) two (subst (λ (h : Head). refused_procedure tables h y ≡ None) one here)
carried_at tables (x ∷ ps) (y ∷ qs) e (suc f) p q found body = carried_at tables ps qs (passed_both (refused_procedure tables x y) (refused_procedures tables ps qs) e).1 f p q found body

none_refused : (o : Option Place) → is_none o ≡ true → o ≡ None
none_refused None e = refl
none_refused (Some a) e = absurd (cc)

-- ---- of a program that can cross
module _ (P : Program) (can : CanCross P) where
  pub all_good : AllGood P.tables P.tables.procedures P.bodies
  all_good = record {
    body = body_at P.tables P.tables.procedures P.bodies can.framed;
    good = λ f p q found body.
        let framed = (framed_at P.tables P.tables.procedures P.bodies can.framed f p q found body).0 in
        record {
          laid = is_laid P.tables p q framed;
          room = has_room P.tables p q framed;
          carried = carried_at P.tables P.tables.procedures P.bodies (none_refused (refused_procedures P.tables P.tables.procedures P.bodies) can.carried) f p q found body;
        };
  }

  -- the procedure that runs first
  pub record Main : Type 0 where
    pub p : Head
    pub q : Body
    pub found : slice_get P.tables.procedures P.main ≡ Some p
    pub body : slice_get P.bodies P.main ≡ Some q
    pub empty : p.parameters ≡ 0
    pub silent : p.results ≡ 0

  pub main : Main
  main = by (slice_get P.tables.procedures P.main) refl
      (and_true (well_procedures P.tables 0 P.tables.procedures P.bodies) (is_there (slice_get P.tables.procedures P.main) is_main)
      (and_true (well_tables (env_of P.tables outer_head 0 0 0 None)) (well_procedures P.tables 0 P.tables.procedures P.bodies && is_there (slice_get P.tables.procedures P.main) is_main) can.well).1).1
    where
      by : (o : Option Head) → slice_get P.tables.procedures P.main ≡ o → is_there o is_main ≡ true → Main
      by None e w = absurd (cc)
      by (Some p) e w =
          let both = and_true p.has_context ((p.parameters == 0) && (p.results == 0)) w in
          let two = and_true (p.parameters == 0) (p.results == 0) both.1 in
          let one : (p.parameters == 0) ≡ true = two.0 in
          let none : (p.results == 0) ≡ true = two.1 in
          let b = body_at P.tables P.tables.procedures P.bodies can.framed P.main p e in
          record { p = p; q = b.0; found = e; body = b.1; empty = grind (arith, nat_tests); silent = grind (arith, nat_tests) }

-- where the core code of each program is well, it keeps its run
pub kept : AreWell → AreKept
kept well P can entries input =
    let m : Main P can = main P can in
    keeps entries P (all_good P can) (well P can) m.p m.q m.found m.body m.empty input
