-- Lowered code keeps the runs of core code.
use Rattle.std.proofs.Common.{◌≡◌, ℕ, zero, suc, ◌+◌, ◌-◌, ◌*◌, ◌^◌, ◌<◌, ◌≤◌, inl, inr, Bool, true, false, List, [], ◌∷◌, map, ap, ◌∙◌, sym, subst, refl, arith}
use Rattle.std.specs.Prelude.{Option, Some, None, slice_get, get_or, nat_le, nat_lt, ◌||◌, if◌then◌else◌}
use Rattle.std.proofs.lemmas.Bool.Decides.{nat_tests}
use Rattle.odc_text.specs.declared.check.Check.TheVariants.{Stack}
use Rattle.odc_text.specs.declared.place.Place.{Place}
use Rattle.odc_core.specs.declared.tree.Variable.{Variable}
use Rattle.odc_text.specs.Run.{End, exited, checked, strayed, trapped, going, Ending, Agree, EndsAgree, HasEnded, HasStrayed}
use Rattle.odc_text.specs.Steps.{After, over, Stand, stood, stood_after, IsOver}
use Rattle.odc_text.specs.Follow.{KeepsOn}
use Rattle.odc_text.proofs.StepLemmas.{stood_stays}
use Rattle.odc_core.specs.Memory.{lies, forgotten}
use Rattle.odc_core.specs.Frames.{stack_end, store_low, heap_low, heap_size, temp_low, temp_size, touched_always, touched_in, has_room}
use Rattle.odc_core.specs.Program.{first_byte, first_memory}
use Rattle.odc_core.specs.Well.{IsWell, AllWell, IsMain, AreBytes, names_in, parameters_of}
use Rattle.odc_core.specs.Tree.{Proc, Whole}
use Rattle.odc_core.specs.Run.{State, Res, ok, stop, first_state, ending, body_run, enter, calls_of, core}
use Rattle.odc_mid.specs.Tree.{Proc as MidProc, Whole as MidWhole}
use Rattle.odc_mid.specs.Run.{World as MidWorld, Config, act, world_of, first_config, ending as mid_ending, run_main, mid, returns}
use Rattle.odc_lower.specs.Plain.{PlainProc, plain_proc, return_step}
use Rattle.odc_lower.specs.Lowered.{lowered, IsLowered}
use Rattle.odc_lower.proofs.simulation.Runs.{Leads, later}
use Rattle.odc_lower.proofs.Plains.{acts}
use Rattle.odc_lower.proofs.simulation.Sims.{Frame, stand, IsSane, Sim}
use Rattle.odc_lower.proofs.Procs.{AreAlike, found_at}
use Rattle.odc_lower.proofs.simulation.Worlds.{IsFrame, core_world, mid_world}
use Rattle.odc_lower.proofs.simulation.Touching.{or_either, and_second}
use Rattle.odc_lower.proofs.simulation.Flows.{Answers}
use Rattle.odc_lower.proofs.simulation.Calls.{IsReady, frame_in, frame_ready, body_sim, calls_are_followed}

-- ---- the program

ready_at : (w : Whole) (all ps : List Proc) (g : ℕ) (p : Proc) → w.procedures ≡ all → AllWell w ps → slice_get ps g ≡ Some p → IsReady all p
ready_at w all [] g p is wells h = absurd (cc)
ready_at w all (r ∷ ps) zero p is wells h =
    let same : r ≡ p = cc in
    subst (λ (x : Proc). IsReady all x) same
    (record { laid = wells.0.laid; parameters = wells.0.parameters; names = names_in w r; names_are = ap parameters_of is; body = wells.0.body })
ready_at w all (r ∷ ps) (suc g) p is wells h = ready_at w all ps g p is wells.1 h

fits_at : (w : Whole) (ps : List Proc) (g : ℕ) (p : Proc) → AllWell w ps → slice_get ps g ≡ Some p → p.frame ≤ 2 ^ 24
fits_at w [] g p wells h = absurd (cc)
fits_at w (r ∷ ps) zero p wells h = let same : r ≡ p = cc in subst (λ (x : Proc). x.frame ≤ 2 ^ 24) same wells.0.fits
fits_at w (r ∷ ps) (suc g) p wells h = fits_at w ps g p wells.1 h

main_at : (o : Option Proc) → IsMain o → (p : Proc) × (o ≡ Some p) × (p.parameters ≡ 0)
main_at None h = absurd h
main_at (Some p) h = (p, refl, h)

-- ---- where it begins

lies_below : (a n x limit : ℕ) → a + n ≤ limit → lies a n x ≡ true → x < limit
lies_below a n x limit fits h = let high : nat_lt x (a + n) ≡ true = and_second (nat_le a x) (nat_lt x (a + n)) h in grind (arith, nat_tests)

always_below : (size x : ℕ) → size ≤ 0x0fff_0000 → touched_always size x ≡ true → x < 2 ^ 31
always_below size x small h = elim (or_either (lies store_low size x) (lies heap_low heap_size x || lies temp_low temp_size x) h) [
  | inl a ↦ lies_below store_low size x (2 ^ 31) (omega arith) a
  | inr b ↦ elim (or_either (lies heap_low heap_size x) (lies temp_low temp_size x) b) [
    | inl c ↦ lies_below heap_low heap_size x (2 ^ 31) (omega arith) c
    | inr d ↦ lies_below temp_low temp_size x (2 ^ 31) (omega arith) d
  ]
]

byte_at : (bytes : List ℕ) (i : ℕ) → AreBytes bytes → get_or bytes i 0 < 256
byte_at [] i h = omega arith
byte_at (b ∷ bytes) zero h = h.0
byte_at (b ∷ bytes) (suc i) h = byte_at bytes i h.1

first_bytes : (store : List ℕ) (size x b : ℕ) → AreBytes store → first_memory store size x ≡ Some b → b < 256
first_bytes store size x b are h = by_touch (touched_always size x) h
  where
    by_place : (t : Bool) → (if t then 0 else get_or store (x - store_low) 0) < 256
    by_place true = omega arith
    by_place false = byte_at store (x - store_low) are

    by_touch : (t : Bool) → (if t then Some (first_byte store x) else None) ≡ Some b → b < 256
    by_touch true e =
        let same : first_byte store x ≡ b = cc in
        subst (λ (y : ℕ). y < 256) same (by_place (nat_lt x store_low))
    by_touch false e = absurd (cc)

-- ---- the two runs

-- how the mid run stands at a bound, beside the core run's ending at one
pub data Met (core_ending : Ending ℕ ℕ) (bound : ℕ) (run : ℕ → Stand Config) : Type 0 where
  -- both have ended
  over_both : (steps : ℕ) (last : Config) → HasEnded core_ending.end → ((m : ℕ) → steps + 1 ≤ m → run m ≡ record { end = core_ending.end; last = last; steps = steps + 1 }) →
      last.log ≡ core_ending.log → last.taken ≡ core_ending.taken → steps ≤ 1 + 12 * core_ending.cost → Met core_ending bound run
  -- both go on
  go_both : (steps : ℕ) (last : Config) → core_ending.end ≡ going → bound ≤ 2 * steps + 2 → run steps ≡ record { end = going; last = last; steps = steps } →
      last.log ≡ core_ending.log → last.taken ≡ core_ending.taken → Met core_ending bound run
  -- the core run has strayed, and the mid run goes on
  strays_first : (steps : ℕ) (last : Config) → HasStrayed core_ending.end → run steps ≡ record { end = going; last = last; steps = steps } →
      last.log ≡ core_ending.log → last.taken ≡ core_ending.taken → Met core_ending bound run

map_same : {A : Type 0} (xs : List A) → map (λ x. x) xs ≡ xs
map_same [] = refl
map_same (x ∷ xs) = ap (λ ys. x ∷ ys) (map_same xs)

module _ (world : MidWorld) (c0 : Config) where
  abbrev pub run_from : ℕ → Stand Config
  run_from m = stood (act world) m c0

  goes_at : (d : ℕ) (last : Config) → Leads (act world) c0 d last → run_from d ≡ record { end = going; last = last; steps = d }
  goes_at d last leads = leads.by 0 d (omega arith) ∙ ap (λ (n : ℕ). let s : Stand Config = record { end = going; last = last; steps = n } in s) (let e : 0 + d ≡ d = omega arith in e)

  over_at : (d : ℕ) (c last : Config) (e : End) → Leads (act world) c0 d c → act world c ≡ over e last → IsOver e → (m : ℕ) → d + 1 ≤ m → run_from m ≡ record { end = e; last = last; steps = d + 1 }
  over_at d c last e leads is ended m far =
      let there : run_from (d + 1) ≡ record { end = e; last = last; steps = d + 1 } =
      leads.by 1 (d + 1) (omega arith) ∙ ap (λ (a : After Config). later d (stood_after (stood (act world) 0) a)) is
      ∙ ap (λ (n : ℕ). let s : Stand Config = record { end = e; last = last; steps = n } in s) (let f : 1 + d ≡ d + 1 = omega arith in f) in
      stood_stays (act world) (d + 1) m c0 far (subst (λ (s : Stand Config). IsOver s.end) (sym there) ended) ∙ there

  -- a run that is over at one bound is so at a greater one
  strayed_later : (m k : ℕ) → m ≤ k → HasStrayed (run_from m).end → HasStrayed (run_from k).end
  strayed_later m k le h = subst (λ (s : Stand Config). HasStrayed s.end) (sym (stood_stays (act world) m k c0 le (over_strayed (run_from m).end h))) h
    where
      over_strayed : (e : End) → HasStrayed e → IsOver e
      over_strayed (strayed at) h = tt
      over_strayed (exited code) h = tt
      over_strayed (checked which at) h = tt
      over_strayed (trapped pc) h = tt
      over_strayed going h = absurd h

  -- what a followed run of `main` says
  met : (f : Frame) (n : ℕ) (s : State) (r : Res ℕ) → f.callers ≡ [] → s.left ≡ n → s.cost ≡ 0 → IsSane s →
      Sim world f 1 0 0 c0 s r (λ word place temps. Answers f word place temps) → Met (ending r) n run_from
  met f n s (ok word t) alone left cost sane sim =
      let x = sim.by sane in
      let c = stand f x.place x.temps t in
      let ends : act world c ≡ over (exited 0) c =
      acts world c (return_step x.holds.value) x.holds.has
      ∙ ap (λ cs. returns (x.temps x.holds.value) cs c) alone in
      over_both x.steps c tt (over_at x.steps c c (exited 0) x.leads ends tt) refl refl (omega (arith, x.paid.cost))
  met f n s (stop (exited code) t) alone left cost sane sim =
      let x = sim.by sane in
      over_both x.steps x.because.last tt (over_at x.steps x.last x.because.last (exited code) x.leads x.because.over tt) x.because.log x.because.taken (omega (arith, x.paid.cost))
  met f n s (stop (checked which place) t) alone left cost sane sim =
      let x = sim.by sane in
      over_both x.steps x.because.last tt (over_at x.steps x.last x.because.last (checked which place) x.leads x.because.over tt) x.because.log x.because.taken (omega (arith, x.paid.cost))
  met f n s (stop (strayed place) t) alone left cost sane sim =
      let x = sim.by sane in
      strays_first x.steps x.last tt (goes_at x.steps x.last x.leads) x.because.log x.because.taken
  met f n s (stop (trapped pc) t) alone left cost sane sim = absurd (sim.by sane).because
  met f n s (stop going t) alone left cost sane sim =
      let x = sim.by sane in
      go_both x.steps x.last refl (omega (arith, x.paid.turns, x.because.1)) (goes_at x.steps x.last x.leads) x.because.0.log x.because.0.taken

  -- ---- agreement

  agrees : (e : Ending ℕ ℕ) (s : Stand Config) (end : End) (last : Config) (steps : ℕ) → s ≡ record { end = end; last = last; steps = steps } → EndsAgree e.end end → last.log ≡ e.log → last.taken ≡ e.taken →
      Agree (λ x. x) e (mid_ending s)
  agrees e s end last steps is ends log taken =
      let P : Stand Config → Type 0 = λ x. Agree (λ x. x) e (mid_ending x) in
      subst P (sym is) (record { ends = ends; logs = map_same e.log ∙ sym log; taken = sym taken })

  ends_same : (e : End) → HasEnded e → EndsAgree e e
  ends_same (exited code) h = refl
  ends_same (checked which at) h = (refl, refl)
  ends_same (strayed at) h = absurd h
  ends_same (trapped pc) h = absurd h
  ends_same going h = absurd h

  ends_strayed : (e : End) → HasStrayed e → EndsAgree e going
  ends_strayed (strayed at) h = tt
  ends_strayed (exited code) h = absurd h
  ends_strayed (checked which at) h = absurd h
  ends_strayed (trapped pc) h = absurd h
  ends_strayed going h = absurd h

  ends_going : (e : End) → e ≡ going → EndsAgree e going
  ends_going e h = subst (λ (x : End). EndsAgree x going) (sym h) tt

  not_both : (e : End) → HasEnded e → HasStrayed e → ⊥
  not_both (exited code) h g = g
  not_both (checked which at) h g = g
  not_both (strayed at) h g = h
  not_both (trapped pc) h g = g
  not_both going h g = g

  module _ (p : ℕ → Ending ℕ ℕ) (met_at : (n : ℕ) → Met (p n) n run_from) where
    pub goes_on : (n : ℕ) → (m : ℕ) × Agree (λ x. x) (p n) (mid_ending (run_from m))
    goes_on n = by_cases (met_at n)
      where
        by_cases : Met (p n) n run_from → (m : ℕ) × Agree (λ x. x) (p n) (mid_ending (run_from m))
        by_cases (over_both d last ended is log taken cost) = (d + 1, agrees (p n) (run_from (d + 1)) (p n).end last (d + 1) (is (d + 1) (omega arith)) (ends_same (p n).end ended) log taken)
        by_cases (go_both d last end far is log taken) = (d, agrees (p n) (run_from d) going last d is (ends_going (p n).end end) log taken)
        by_cases (strays_first d last end is log taken) = (d, agrees (p n) (run_from d) going last d is (ends_strayed (p n).end end) log taken)

    pub goes_far : ((n : ℕ) → HasStrayed (p n).end → ⊥) → (m n : ℕ) → 2 * m + 2 ≤ n → (m' : ℕ) × (m ≤ m') × Agree (λ x. x) (p n) (mid_ending (run_from m'))
    goes_far never m n from = by_cases (met_at n)
      where
        by_cases : Met (p n) n run_from → (m' : ℕ) × (m ≤ m') × Agree (λ x. x) (p n) (mid_ending (run_from m'))
        by_cases (over_both d last ended is log taken cost) =
            (m + (d + 1), omega arith, agrees (p n) (run_from (m + (d + 1))) (p n).end last (d + 1) (is (m + (d + 1)) (omega arith)) (ends_same (p n).end ended) log taken)
        by_cases (go_both d last end far is log taken) = (d, omega arith, agrees (p n) (run_from d) going last d is (ends_going (p n).end end) log taken)
        by_cases (strays_first d last end is log taken) = absurd (never n end)

    pub is_sound : ((n : ℕ) → HasStrayed (p n).end → ⊥) → (m : ℕ) → HasStrayed (run_from m).end → ⊥
    is_sound never m strays = by_cases (met_at (2 * m + 2))
      where
        by_cases : Met (p (2 * m + 2)) (2 * m + 2) run_from → ⊥
        by_cases (over_both d last ended is log taken cost) =
            not_both (p (2 * m + 2)).end ended
            (subst (λ (s : Stand Config). HasStrayed s.end) (is (m + (d + 1)) (omega arith)) (strayed_later m (m + (d + 1)) (omega arith) strays))
        by_cases (go_both d last end far is log taken) = subst (λ (s : Stand Config). HasStrayed s.end) is (strayed_later m d (omega arith) strays)
        by_cases (strays_first d last end is log taken) = never (2 * m + 2) end

    pub is_cheap : (n : ℕ) → HasEnded (p n).end → (m : ℕ) × Agree (λ x. x) (p n) (mid_ending (run_from m)) × ((mid_ending (run_from m)).cost ≤ 12 * (p n).cost + 2)
    is_cheap n ended = by_cases (met_at n)
      where
        by_cases : Met (p n) n run_from → (m : ℕ) × Agree (λ x. x) (p n) (mid_ending (run_from m)) × ((mid_ending (run_from m)).cost ≤ 12 * (p n).cost + 2)
        by_cases (over_both d last ended is log taken cost) =
            let steps : (run_from (d + 1)).steps ≡ d + 1 = ap (λ (s : Stand Config). s.steps) (is (d + 1) (omega arith)) in
            (d + 1, agrees (p n) (run_from (d + 1)) (p n).end last (d + 1) (is (d + 1) (omega arith)) (ends_same (p n).end ended) log taken, omega arith)
        by_cases (go_both d last end far is log taken) = absurd (subst HasEnded end ended)
        by_cases (strays_first d last end is log taken) = absurd (not_both (p n).end ended end)

-- ---- the theorem

-- how the mid run begins
abbrev begins_by : MidProc → List ℕ → ℕ → List Variable → Place → ℕ → List ℕ → Config
begins_by qm input frame variables at size store = record {
  here = record {
    steps = qm.steps;
    next = 0;
    temps = λ t. get_or [] t 0;
    at = at;
    low = stack_end - frame;
    variables = variables;
    touched = touched_in (touched_always size) (stack_end - frame) variables;
  };
  callers = [];
  memory = forgotten (first_memory store size) (stack_end - frame) frame;
  log = [];
  input = input;
  taken = 0;
}

mid_begins : (entries : ℕ → ℕ) (p : Whole) (q : MidWhole) (pm : Proc) (qm : MidProc) (input : List ℕ) (m : ℕ) → IsLowered p q → slice_get q.procedures p.main ≡ Some qm → plain_proc qm ≡ lowered pm →
    mid entries q input m
    ≡ mid_ending (stood (act (mid_world entries p.procedures q.procedures p.addresses)) m (begins_by qm input pm.frame pm.variables pm.at p.store_size p.store))
mid_begins entries p q pm qm input m is found same =
    let at : qm.at ≡ pm.at = ap (λ (x : PlainProc). x.at) same in
    let frame : qm.frame ≡ pm.frame = ap (λ (x : PlainProc). x.frame) same in
    let variables : qm.variables ≡ pm.variables = ap (λ (x : PlainProc). x.variables) same in
    let world : List ℕ → MidWorld = λ xs. mid_world entries p.procedures q.procedures xs in
    let run : MidWorld → Config → Ending ℕ ℕ = λ w c. mid_ending (stood (act w) m c) in
    ap (λ (x : ℕ). run_main (world_of entries q) q (slice_get q.procedures x) input m) is.main
    ∙ ap (λ (o : Option MidProc). run_main (world_of entries q) q o input m) found
    ∙ ap (λ (xs : List ℕ). run (world xs) (first_config q qm input)) is.addresses
    ∙ ap (λ (y : ℕ). run (world p.addresses) (begins_by qm input y qm.variables qm.at q.store_size q.store)) frame
    ∙ ap (λ (y : List Variable). run (world p.addresses) (begins_by qm input pm.frame y qm.at q.store_size q.store)) variables
    ∙ ap (λ (y : Place). run (world p.addresses) (begins_by qm input pm.frame pm.variables y q.store_size q.store)) at
    ∙ ap (λ (y : ℕ). run (world p.addresses) (begins_by qm input pm.frame pm.variables pm.at y q.store)) is.store_size
    ∙ ap (λ (y : List ℕ). run (world p.addresses) (begins_by qm input pm.frame pm.variables pm.at p.store_size y)) is.store

pub keeps_on : (entries : ℕ → ℕ) (p : Whole) (q : MidWhole) (input : List ℕ) → IsWell p → IsLowered p q → AreBytes input → KeepsOn 12 2 (λ e. e) (core entries p) (mid entries q) input
keeps_on entries p q input well is_lowered bytes =
    let alike : AreAlike p.procedures q.procedures = record { is = is_lowered.procedures } in
    let main = main_at (slice_get p.procedures p.main) well.main in
    let other = found_at p.procedures q.procedures p.main main.0 alike main.1 in
    let pm : Proc = main.0 in
    let qm : MidProc = other.0 in
    let ready : (g : ℕ) (r : Proc) → slice_get p.procedures g ≡ Some r → IsReady p.procedures r = λ g r h. ready_at p p.procedures p.procedures g r refl well.procedures h in
    let small : pm.frame ≤ 2 ^ 24 = fits_at p p.procedures p.main pm well.procedures main.1 in
    let room : has_room stack_end pm.frame ≡ true = grind (arith, nat_tests) in
    let f : Frame = frame_in pm qm (touched_always p.store_size) stack_end [] in
    let is_frame : IsFrame f =
    frame_ready pm qm (touched_always p.store_size) stack_end [] (ready p.main pm main.1).laid (omega arith) (omega arith) (λ x h. always_below p.store_size x well.low h) in
    let world = mid_world entries p.procedures q.procedures p.addresses in
    let w = core_world entries p.procedures q.procedures p.addresses in
    let c0 : Config = begins_by qm input pm.frame pm.variables pm.at p.store_size p.store in
    let result : ℕ → Res ℕ = λ n. body_run w n (calls_of w n) pm [] (touched_always p.store_size) stack_end (first_state p input n) in
    let core_is : (n : ℕ) → core entries p input n ≡ ending (result n) =
    λ n.
    ap (λ (o : Option Proc). ending (enter w n (calls_of w n) o [] (touched_always p.store_size) stack_end (first_state p input n))) main.1
    ∙ ap (λ (b : Bool). ending ((if b then body_run w n (calls_of w n) pm [] (touched_always p.store_size) stack_end else (λ s. stop (checked Stack pm.at) s)) (first_state p input n))) room in
    let sim : (n : ℕ) → Sim world f 1 0 0 c0 (first_state p input n) (result n) (λ word place temps. Answers f word place temps) =
    λ n. body_sim entries p.procedures q.procedures p.addresses n alike (calls_are_followed entries p.procedures q.procedures p.addresses alike ready n) pm qm (touched_always p.store_size) stack_end [] []
    (first_state p input n) other.2 (ready p.main pm main.1) main.2 is_frame (omega arith) in
    let meets : (n : ℕ) → Met (ending (result n)) n (run_from world c0) =
    λ n. met world c0 f n (first_state p input n) (result n) refl refl refl (record { memory = λ x b h. first_bytes p.store p.store_size x b well.bytes h; input = bytes }) (sim n) in
    let P : (ℕ → Ending ℕ ℕ) → Type 0 = λ e. (n : ℕ) → Met (e n) n (run_from world c0) in
    let meets_core : (n : ℕ) → Met (core entries p input n) n (run_from world c0) = λ n. subst (λ (e : Ending ℕ ℕ). Met e n (run_from world c0)) (sym (core_is n)) (meets n) in
    let mid_is : (m : ℕ) → mid entries q input m ≡ mid_ending (run_from world c0 m) = λ m. mid_begins entries p q pm qm input m is_lowered other.1 other.2 in
    let core_run : ℕ → Ending ℕ ℕ = λ n. core entries p input n in
    let A : ℕ → Ending ℕ ℕ → Type 0 = λ n e. Agree (λ x. x) (core entries p input n) e in
    record {
      goes = λ n. let g = goes_on world c0 core_run meets_core n in (g.0, subst (A n) (sym (mid_is g.0)) g.1);
      far = λ never m. (2 * m + 2, λ n reached. let g = goes_far world c0 core_run meets_core never m n reached in (g.0, g.1, subst (A n) (sym (mid_is g.0)) g.2));
      sound = λ never m strays. is_sound world c0 core_run meets_core never m (subst (λ (e : Ending ℕ ℕ). HasStrayed e.end) (mid_is m) strays);
      cheap = λ n ended.
          let g = is_cheap world c0 core_run meets_core n ended in
          (g.0, subst (A n) (sym (mid_is g.0)) g.1, subst (λ (e : Ending ℕ ℕ). e.cost ≤ 12 * (core entries p input n).cost + 2) (sym (mid_is g.0)) g.2);
    }
