-- What a well program becomes is well.
use Rattle.std.proofs.Common.{◌≡◌, ℕ, zero, suc, ◌+◌, ◌*◌, ◌^◌, ◌%◌, ◌<◌, ◌≤◌, true, List, [], ◌∷◌, ◌++◌, length, map, ap, ◌∙◌, sym, subst, refl, arith}
use Rattle.std.specs.Prelude.{Option, Some, None, slice_get, nat_lt, max}
use Rattle.std.proofs.lemmas.Bool.Decides.{nat_tests}
use Rattle.std.proofs.lemmas.List.{length-map}
use Rattle.odc_core.specs.declared.tree.Variable.{Variable}
use Rattle.odc_core.specs.Tree.{Proc, Whole}
use Rattle.odc_core.specs.Well.{IsWell, IsWellProc, AllWell, IsMain, AreLaid, AreParameters, AreInStore, AreBytes, Names as CoreNames, names_in, parameters_of}
use Rattle.odc_mid.specs.Tree.{Proc as MidProc, Whole as MidWhole}
use Rattle.odc_mid.specs.Well.{Names, IsWell as IsWellMid, IsWellProc as IsWellMidProc, AllWell as AllWellMid, IsMain as IsMainMid, AreSteps, names_in as mid_names_in, parameters_of as mid_parameters_of}
use Rattle.odc_lower.specs.Plain.{Step, PlainProc, plain, plain_proc, const_step, return_step}
use Rattle.odc_lower.specs.Size.{stmts_size, stmts_room}
use Rattle.odc_lower.specs.Code.{parameters_code, stmts_code, procedure_code}
use Rattle.odc_lower.specs.Lowered.{lowered, IsLowered}
use Rattle.odc_lower.proofs.Lengths.{join_three, stmts_length, parameters_length}
use Rattle.odc_lower.proofs.Procs.{AreAlike, found_at, first_of_two, rest_of_two}
use Rattle.odc_lower.proofs.Depths.{known_by, depth_at, Fits, Along, along_first, along_second, along_whole, fits_join, stmts_depths, stmts_depths_length, parameters_depths, parameters_depths_length, well_steps}
use Rattle.odc_lower.proofs.Forms.{names_by, AreFit, parameters_fits, first_low, end_fits, stmts_fits, stmts_begins}

-- ---- a procedure

abbrev depths_of : Proc → List ℕ
depths_of p = parameters_depths p.parameters p.parameters ++ (stmts_depths p.parameters p.body ++ (p.parameters ∷ (p.parameters + 1) ∷ []))

variables_many : (n : ℕ) (vs : List Variable) → AreParameters n vs → n ≤ length vs
variables_many zero vs h = omega arith
variables_many (suc n) [] h = absurd h
variables_many (suc n) (v ∷ vs) h = omega (arith, variables_many n vs h.1)

pub procedure_length : (p : Proc) → length (procedure_code p) ≡ 2 * p.parameters + stmts_size p.body + 2
procedure_length p =
    let d : ℕ = p.parameters in
    join_three (parameters_code d 0 d) (stmts_code d [] (2 * d) p.body) (const_step d 0 ∷ return_step d ∷ []) (2 * d) (stmts_size p.body) 2 (parameters_length d 0 d) (stmts_length p.body d [] (2 * d)) refl

record Fitting (w : Whole) (p : Proc) : Type 0 where
  pub fits : Fits (names_by (names_in w p) (p.parameters + max 1 (stmts_room p.body)) (length (procedure_code p))) (depths_of p) 0 (procedure_code p)
  pub low : depth_at (depths_of p) 0 ≤ p.parameters

fitting : (w : Whole) (p : Proc) → IsWellProc w p → Fitting w p
fitting w p well =
    let d : ℕ = p.parameters in
    let ds : List ℕ = depths_of p in
    let temporaries : ℕ = d + max 1 (stmts_room p.body) in
    let steps : ℕ = length (procedure_code p) in
    let names : CoreNames = names_in w p in
    let many : steps ≡ 2 * d + stmts_size p.body + 2 = procedure_length p in
    let end : ℕ = 2 * d + stmts_size p.body in
    let last : List ℕ = d ∷ (d + 1) ∷ [] in
    let whole : Along ds 0 ds = along_whole ds in
    let a : Along ds 0 (parameters_depths d d) = along_first ds 0 (parameters_depths d d) (stmts_depths d p.body ++ last) whole in
    let zero_first : 0 + 2 * d ≡ 2 * d = omega arith in
    let back : Along ds (2 * d) (stmts_depths d p.body ++ last) =
    subst (λ (k : ℕ). Along ds k (stmts_depths d p.body ++ last)) zero_first (along_second ds 0 (2 * d) (parameters_depths d d) (stmts_depths d p.body ++ last) (parameters_depths_length d d) whole) in
    let b : Along ds (2 * d) (stmts_depths d p.body) = along_first ds (2 * d) (stmts_depths d p.body) last back in
    let c : Along ds end last = along_second ds (2 * d) (stmts_size p.body) (stmts_depths d p.body) last (stmts_depths_length p.body d) back in
    let end_deep : depth_at ds end ≤ d = omega (arith, c.0) in
    let low : depth_at ds 0 ≤ d = first_low names temporaries steps ds d p.body d a b end_deep in
    let body_deep : depth_at ds (0 + 2 * d) ≤ d = by_body names temporaries steps ds d p b end_deep in
    let variables : d ≤ length p.variables = variables_many d p.variables well.parameters in
    let one : AreFit names temporaries steps ds 0 (parameters_code d 0 d) = parameters_fits names temporaries steps ds d 0 d 0 a body_deep (omega (arith, many)) (omega arith) (omega (arith, variables)) (omega arith) in
    let two : AreFit names temporaries steps ds (2 * d) (stmts_code d [] (2 * d) p.body) = stmts_fits names temporaries steps ds p.body d [] (2 * d) b end_deep (omega (arith, many)) (omega arith) (omega arith) tt well.body in
    let three : AreFit names temporaries steps ds end (const_step d 0 ∷ return_step d ∷ []) = end_fits names temporaries steps ds d end c (omega (arith, many)) (omega arith) in
    let tail : AreFit names temporaries steps ds (2 * d) (stmts_code d [] (2 * d) p.body ++ (const_step d 0 ∷ return_step d ∷ [])) =
    fits_join (names_by names temporaries steps) ds (2 * d) (stmts_size p.body) (stmts_code d [] (2 * d) p.body) (const_step d 0 ∷ return_step d ∷ []) (stmts_length p.body d [] (2 * d)) two three in
    let tail_at : AreFit names temporaries steps ds (0 + 2 * d) (stmts_code d [] (2 * d) p.body ++ (const_step d 0 ∷ return_step d ∷ [])) =
    subst (λ (k : ℕ). AreFit names temporaries steps ds k (stmts_code d [] (2 * d) p.body ++ (const_step d 0 ∷ return_step d ∷ []))) (sym zero_first) tail in
    record {
      fits = fits_join (names_by names temporaries steps) ds 0 (2 * d) (parameters_code d 0 d) (stmts_code d [] (2 * d) p.body ++ (const_step d 0 ∷ return_step d ∷ [])) (parameters_length d 0 d) one tail_at;
      low = low;
    }
  where
    by_body : (names : CoreNames) (temporaries steps : ℕ) (ds : List ℕ) (d : ℕ) (p : Proc) → Along ds (2 * d) (stmts_depths d p.body) → depth_at ds (2 * d + stmts_size p.body) ≤ d → depth_at ds (0 + 2 * d) ≤ d
    by_body names temporaries steps ds d p b deep =
        let e : 2 * d ≡ 0 + 2 * d = omega arith in
        subst (λ (k : ℕ). depth_at ds k ≤ d) e (stmts_begins names temporaries steps ds p.body d (2 * d) b deep)

well_proc : (w : Whole) (v : MidWhole) (p : Proc) (q : MidProc) → plain_proc q ≡ lowered p → mid_parameters_of v.procedures ≡ parameters_of w.procedures → length v.addresses ≡ length w.addresses → IsWellProc w p → IsWellMidProc v q
well_proc w v p q same parameters_same addresses_same well =
    let f : Fitting w p = fitting w p well in
    let parameters : q.parameters ≡ p.parameters = ap (λ (x : PlainProc). x.parameters) same in
    let variables : q.variables ≡ p.variables = ap (λ (x : PlainProc). x.variables) same in
    let frame : q.frame ≡ p.frame = ap (λ (x : PlainProc). x.frame) same in
    let temporaries : q.temporaries ≡ p.parameters + max 1 (stmts_room p.body) = ap (λ (x : PlainProc). x.temporaries) same in
    let code : map plain q.steps ≡ procedure_code p = ap (λ (x : PlainProc). x.steps) same in
    let many : length q.steps ≡ length (procedure_code p) = sym (length-map q.steps plain) ∙ ap length code in
    let size = procedure_length p in
    let make : List ℕ → ℕ → ℕ → ℕ → ℕ → Names = λ a b c t n. record { parameters = a; addresses = b; variables = c; temporaries = t; steps = n } in
    let goal : Names = names_by (names_in w p) (p.parameters + max 1 (stmts_room p.body)) (length (procedure_code p)) in
    let names : goal ≡ mid_names_in v q =
    ap (λ (x : List ℕ). make x (length w.addresses) (length p.variables) (p.parameters + max 1 (stmts_room p.body)) (length (procedure_code p))) (sym parameters_same)
    ∙ ap (λ (x : ℕ). make (mid_parameters_of v.procedures) x (length p.variables) (p.parameters + max 1 (stmts_room p.body)) (length (procedure_code p))) (sym addresses_same)
    ∙ ap (λ (x : List Variable). make (mid_parameters_of v.procedures) (length v.addresses) (length x) (p.parameters + max 1 (stmts_room p.body)) (length (procedure_code p))) (sym variables)
    ∙ ap (λ (x : ℕ). make (mid_parameters_of v.procedures) (length v.addresses) (length q.variables) x (length (procedure_code p))) (sym temporaries)
    ∙ ap (λ (x : ℕ). make (mid_parameters_of v.procedures) (length v.addresses) (length q.variables) q.temporaries x) (sym many) in
    let steps : AreSteps goal (known_by (depths_of p)) 0 q.steps = well_steps goal (depths_of p) 0 q.steps (subst (λ (xs : List Step). Fits goal (depths_of p) 0 xs) (sym code) f.fits) in
    record {
      laid = subst (λ (x : ℕ). AreLaid x q.variables) (sym frame) (subst (λ (x : List Variable). AreLaid p.frame x) (sym variables) well.laid);
      even = subst (λ (x : ℕ). x % 16 ≡ 0) (sym frame) well.even;
      fits = subst (λ (x : ℕ). x ≤ 2 ^ 24) (sym frame) well.fits;
      parameters = omega (arith, parameters, temporaries);
      some = omega (arith, many, size);
      known = known_by (depths_of p);
      handed = λ t known. handed_low (depths_of p) t p.parameters q.parameters known f.low parameters;
      steps = subst (λ (x : Names). AreSteps x (known_by (depths_of p)) 0 q.steps) names steps;
    }
  where
    handed_low : (ds : List ℕ) (t n m : ℕ) → nat_lt t (depth_at ds 0) ≡ true → depth_at ds 0 ≤ n → m ≡ n → t < m
    handed_low ds t n m known low same = grind (arith, nat_tests)

-- ---- a program

parameters_alike : (ps : List Proc) (qs : List MidProc) → AreAlike ps qs → mid_parameters_of qs ≡ parameters_of ps
parameters_alike [] [] a = refl
parameters_alike [] (q ∷ qs) a = absurd (let e = a.is in cc)
parameters_alike (p ∷ ps) [] a = absurd (let e = a.is in cc)
parameters_alike (p ∷ ps) (q ∷ qs) a =
    let here : q.parameters ≡ p.parameters = ap (λ (x : PlainProc). x.parameters) (first_of_two (plain_proc q) (lowered p) (map plain_proc qs) (map lowered ps) a.is) in
    let rest : mid_parameters_of qs ≡ parameters_of ps = parameters_alike ps qs (record { is = rest_of_two (plain_proc q) (lowered p) (map plain_proc qs) (map lowered ps) a.is }) in
    ap (λ (x : ℕ). x ∷ mid_parameters_of qs) here ∙ ap (λ (xs : List ℕ). p.parameters ∷ xs) rest

all_well : (w : Whole) (v : MidWhole) (ps : List Proc) (qs : List MidProc) → AreAlike ps qs → mid_parameters_of v.procedures ≡ parameters_of w.procedures → length v.addresses ≡ length w.addresses → AllWell w ps → AllWellMid v qs
all_well w v [] [] a e1 e2 h = tt
all_well w v [] (q ∷ qs) a e1 e2 h = absurd (let e = a.is in cc)
all_well w v (p ∷ ps) [] a e1 e2 h = tt
all_well w v (p ∷ ps) (q ∷ qs) a e1 e2 h = (
  well_proc w v p q (first_of_two (plain_proc q) (lowered p) (map plain_proc qs) (map lowered ps) a.is) e1 e2 h.0,
  all_well w v ps qs (record { is = rest_of_two (plain_proc q) (lowered p) (map plain_proc qs) (map lowered ps) a.is }) e1 e2 h.1,
)

main_well : (ps : List Proc) (qs : List MidProc) (f : ℕ) (o : Option Proc) → AreAlike ps qs → slice_get ps f ≡ o → IsMain o → IsMainMid (slice_get qs f)
main_well ps qs f None a e h = absurd h
main_well ps qs f (Some p) a e h =
    let q = found_at ps qs f p a e in
    subst IsMainMid (sym q.1) (ap (λ (x : PlainProc). x.parameters) q.2 ∙ h)

pub lowered_well : (w : Whole) (v : MidWhole) → IsWell w → IsLowered w v → IsWellMid v
lowered_well w v well is =
    let alike : AreAlike w.procedures v.procedures = record { is = is.procedures } in
    let parameters = parameters_alike w.procedures v.procedures alike in
    let addresses = ap (λ (xs : List ℕ). length xs) is.addresses in
    let main : IsMainMid (slice_get v.procedures w.main) = main_well w.procedures v.procedures w.main (slice_get w.procedures w.main) alike refl well.main in
    let stored : AreInStore w.store_size v.addresses = subst (λ (xs : List ℕ). AreInStore w.store_size xs) (sym is.addresses) well.addresses in
    record {
      procedures = all_well w v w.procedures v.procedures alike parameters addresses well.procedures;
      main = subst (λ (x : ℕ). IsMainMid (slice_get v.procedures x)) (sym is.main) main;
      store = omega (arith, well.store, ap (λ (xs : List ℕ). length xs) is.store, is.store_size);
      bytes = subst AreBytes (sym is.store) well.bytes;
      low = omega (arith, well.low, is.store_size);
      addresses = subst (λ (x : ℕ). AreInStore x v.addresses) (sym is.store_size) stored;
    }
