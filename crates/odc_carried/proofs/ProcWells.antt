-- The core code of a program that can cross is well, and keeps its run.
use Rattle.std.proofs.Common.{◌≡◌, ℕ, zero, suc, ◌+◌, ◌^◌, ◌≤◌, true, List, [], ◌∷◌, length, take, arith, lit≤, ap, ◌∙◌, sym, subst, refl}
use Rattle.std.specs.Prelude.{Some, None, ◌&&◌, nat_le, slice_get}
use Rattle.std.proofs.lemmas.Bool.Decides.{nat_tests}
use Rattle.odc_program.specs.Trees.Program.{Head, Body, Tables, Program}
use Rattle.odc_core.specs.Tree.{Proc, Whole}
use Rattle.odc_core.specs.Well.{Names, IsWellProc, AllWell, IsMain, IsWell, names_in, parameters_of}
use Rattle.odc_carried.specs.Carried.{takes, is_head, are_ints, no_helpers, refused_stmts}
use Rattle.odc_carried.specs.Code.{around, locals_of, own_low, stmts_depth, crossed, crossed_all, crossed_program}
use Rattle.odc_carried.specs.Crossing.{FramesFit, CanCross, AreWell, AreKept}
use Rattle.odc_carried.proofs.Quiet.{and_true}
use Rattle.odc_carried.proofs.Evals.{passed}
use Rattle.odc_carried.proofs.Calls.{Good, Found, found, crossed_get}
use Rattle.odc_carried.proofs.Laid.{variables_length, locals_length, variables_laid, frame_even, parameters_words}
use Rattle.odc_carried.proofs.Wells.{Around_is}
use Rattle.odc_carried.proofs.StmtWells.{body_are}
use Rattle.odc_carried.proofs.Crossings.{framed_at, body_at, all_good, Main, main, kept}

frame_at : (ps : List Head) (f : ℕ) (p : Head) → FramesFit ps → slice_get ps f ≡ Some p → p.frame ≤ 2 ^ 24
frame_at [] f p h e = absurd (cc)
frame_at (x ∷ ps) zero p h e = let is : x ≡ p = cc in subst (λ (k : Head). k.frame ≤ 2 ^ 24) is h.0
frame_at (x ∷ ps) (suc f) p h e = frame_at ps f p h.1 e

parameters_get : (ps : List Proc) (f : ℕ) (p : Proc) → slice_get ps f ≡ Some p → slice_get (parameters_of ps) f ≡ Some p.parameters
parameters_get [] f p e = absurd (cc)
parameters_get (x ∷ ps) zero p e = let is : x ≡ p = cc in ap (λ (k : Proc). Some k.parameters) is
parameters_get (x ∷ ps) (suc f) p e = parameters_get ps f p e

-- what holds of each pair holds of the list that they become
all_of : (w : Whole) (tables : Tables) (ps : List Head) (qs : List Body) → ((f : ℕ) (p : Head) (q : Body) → slice_get ps f ≡ Some p → slice_get qs f ≡ Some q → IsWellProc w (crossed tables p q)) → AllWell w (crossed_all tables ps qs)
all_of w tables [] qs h = tt
all_of w tables (p ∷ ps) [] h = tt
all_of w tables (p ∷ ps) (q ∷ qs) h = (h 0 p q refl refl, all_of w tables ps qs (λ f x y e g. h (suc f) x y e g))

module _ (P : Program) (can : CanCross P) where
  abbrev w : Whole
  w = crossed_program P

  called : (f n results : ℕ) → takes n results (slice_get P.tables.procedures f) ≡ true → slice_get (parameters_of w.procedures) f ≡ Some n
  called f n results e =
      let it : Found n results (slice_get P.tables.procedures f) = found n results (slice_get P.tables.procedures f) e in
      let b = body_at P.tables P.tables.procedures P.bodies can.framed f it.p it.is in
      parameters_get w.procedures f (crossed P.tables it.p b.0) (crossed_get P.tables P.tables.procedures P.bodies f it.p b.0 it.is b.1) ∙ ap (λ (k : ℕ). Some k) it.parameters'

  abbrev pub Names_of : Head → Body → Names
  Names_of p q = names_in w (crossed P.tables p q)

  -- of each procedure
  pub record Sound (p : Head) (q : Body) : Type 0 where
    pub stmts : refused_stmts P.tables p q.stmts ≡ None
    pub enough : p.parameters + p.results ≤ length p.locals
    pub words : are_ints P.tables (take (p.parameters + p.results) p.locals) ≡ true
    pub around_is : Around_is P.tables p (around P.tables p q) (Names_of p q)

  pub sound : (f : ℕ) (p : Head) (q : Body) → slice_get P.tables.procedures f ≡ Some p → slice_get P.bodies f ≡ Some q → Sound p q
  sound f p q found body =
      let g : Good P.tables p q = (all_good P can).good f p q found body in
      let parts = passed (is_head P.tables p && no_helpers q.helpers) p.at (refused_stmts P.tables p q.stmts) g.carried in
      let head = (and_true (is_head P.tables p) (no_helpers q.helpers) parts.0).0 in
      let k : ℕ = p.parameters + p.results in
      let first = and_true (nat_le p.results 1) (nat_le k (length p.locals) && are_ints P.tables (take k p.locals)) head in
      let second = and_true (nat_le k (length p.locals)) (are_ints P.tables (take k p.locals)) first.1 in
      let some : nat_le k (length p.locals) ≡ true = second.0 in
      let enough : k ≤ length p.locals = grind (arith, nat_tests) in
      record {
        stmts = parts.1;
        enough = enough;
        words = second.1;
        around_is = record {
          variables = variables_length (locals_of P.tables p) (own_low (locals_of P.tables p)) (stmts_depth q.stmts);
          locals = locals_length P.tables p.locals;
          needs = refl;
          called = called;
          result = λ more. omega (arith, more, enough);
          results = refl;
        };
      }

  procedure_well : (f : ℕ) (p : Head) (q : Body) → slice_get P.tables.procedures f ≡ Some p → slice_get P.bodies f ≡ Some q → IsWellProc w (crossed P.tables p q)
  procedure_well f p q found body =
      let s : Sound p q = sound f p q found body in
      let framed = (framed_at P.tables P.tables.procedures P.bodies can.framed f p q found body).0 in
      record {
        laid = variables_laid P.tables p q framed;
        parameters = parameters_words P.tables p.parameters (p.parameters + p.results) p.locals _ (omega arith) s.enough s.words;
        even = frame_even P.tables p q framed;
        fits = frame_at P.tables.procedures f p can.frames found;
        body = body_are P.tables p (around P.tables p q) (Names_of p q) s.around_is q s.stmts (omega arith);
      }

  pub crossed_well : IsWell w
  crossed_well =
      let m : Main P can = main P can in
      record {
        procedures = all_of w P.tables P.tables.procedures P.bodies procedure_well;
        main = subst IsMain (sym (crossed_get P.tables P.tables.procedures P.bodies P.main m.p m.q m.found m.body)) m.empty;
        store = lit≤ tt;
        bytes = tt;
        low = lit≤ tt;
        addresses = tt;
      }

pub are_well : AreWell
are_well P can = crossed_well P can

pub are_kept : AreKept
are_kept = kept are_well
