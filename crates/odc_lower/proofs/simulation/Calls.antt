-- A call is followed from its step on, up to the step behind it.
use Rattle.std.proofs.Common.{◌≡◌, ℕ, zero, suc, ◌+◌, ◌-◌, ◌*◌, ◌^◌, ◌<◌, ◌≤◌, inl, inr, Bool, true, false, List, [], ◌∷◌, ◌++◌, length, map, ap, ◌∙◌, sym, subst, refl, arith}
use Rattle.std.specs.Prelude.{Option, Some, None, option_map, slice_get, get_or, if◌then◌else◌}
use Rattle.std.proofs.lemmas.Bool.Decides.{nat_tests}
use Rattle.odc_text.specs.declared.check.Check.TheVariants.{Stack}
use Rattle.odc_text.specs.declared.place.Place.{Place}
use Rattle.odc_text.specs.Run.{Entry, checked, going}
use Rattle.odc_text.specs.Steps.{on, over}
use Rattle.odc_core.specs.declared.tree.Variable.{Variable}
use Rattle.odc_core.specs.declared.tree.Width.TheVariants.{Double}
use Rattle.odc_core.specs.Words.{bytes_of}
use Rattle.odc_core.specs.Memory.{all_in, put, stored, forgotten}
use Rattle.odc_core.specs.Frames.{in_variables, touched_in, with_arguments, entered, has_room}
use Rattle.odc_core.specs.Well.{AreLaid, AreParameters, AreStmts, Names, parameters_of}
use Rattle.odc_core.specs.Tree.{Proc}
use Rattle.odc_core.specs.Run.{State, Res, ok, stop, Act, then_by, pure, spend, tell, Flow, falls, leaves, answers, answered, exec_all, body_run, enter, calls_of}
use Rattle.odc_mid.specs.declared.tree.Named.TheVariants.{Variable as OfVariable}
use Rattle.odc_mid.specs.Tree.{Proc as MidProc}
use Rattle.odc_mid.specs.Run.{Config, Caller, act, set, gives_found, with_memory, calls, entered as mid_entered}
use Rattle.odc_lower.specs.Plain.{PlainProc, plain, plain_proc, address_step, store_step, const_step, return_step}
use Rattle.odc_lower.specs.Code.{parameters_code, stmts_code, procedure_code}
use Rattle.odc_lower.specs.Lowered.{lowered}
use Rattle.odc_lower.proofs.Lengths.{parameters_length}
use Rattle.odc_lower.proofs.simulation.Runs.{Leads, none_leads, one_leads, step_on, leads_as}
use Rattle.odc_lower.proofs.Plains.{Has, acts, Stands, parts, stands_length, stands_whole}
use Rattle.odc_lower.proofs.simulation.Sims.{Frame, stand, Sim, here, ends, onward, spent, spent_ends, after}
use Rattle.odc_lower.proofs.simulation.Temps.{set_same, set_below, AreHeld, held_kept, held_first}
use Rattle.odc_lower.proofs.Procs.{AreAlike, found_at}
use Rattle.odc_lower.proofs.simulation.Worlds.{IsFrame, told, IsAnswered, core_world, mid_world, env_of, Follow, CallsFollow}
use Rattle.odc_lower.proofs.simulation.Exprs.{one_step}
use Rattle.odc_lower.proofs.Sanity.{forgotten_bytes, arguments_bytes}
use Rattle.odc_lower.proofs.simulation.Touching.{or_either, variable_touched, variables_below}
use Rattle.odc_lower.proofs.simulation.Flows.{IsLeft, Answers}
use Rattle.odc_lower.proofs.simulation.Bodies.{stmts_sim}

-- what is known of a procedure that may be called
pub record IsReady (ps : List Proc) (p : Proc) : Type 0 where
  pub laid : AreLaid p.frame p.variables
  pub parameters : AreParameters p.parameters p.variables
  pub names : Names
  pub names_are : names.parameters ≡ parameters_of ps
  pub body : AreStmts names 0 p.body

-- the activation of a procedure below a caller's low end
abbrev pub frame_in : Proc → MidProc → (ℕ → Bool) → ℕ → List Caller → Frame
frame_in p q touched base callers = record {
  steps = q.steps;
  at = p.at;
  low = base - p.frame;
  variables = p.variables;
  touched = touched_in touched (base - p.frame) p.variables;
  callers = callers;
}

-- it is in order
pub frame_ready : (p : Proc) (q : MidProc) (touched : ℕ → Bool) (base : ℕ) (callers : List Caller) → AreLaid p.frame p.variables → p.frame ≤ base → base ≤ 2 ^ 31 →
    ((x : ℕ) → touched x ≡ true → x < 2 ^ 31) → IsFrame (frame_in p q touched base callers)
frame_ready p q touched base callers laid room low below = record {
  touched = λ x h. elim (or_either (in_variables (base - p.frame) p.variables x) (touched x) h) [
    | inl mine ↦ (let inside : x < base - p.frame + p.frame = variables_below p.frame (base - p.frame) p.variables x laid mine in omega arith)
    | inr others ↦ below x others
  ];
  low = omega arith;
}

-- the state in which a body begins, and that in which its procedure is entered
abbrev begun : Proc → List ℕ → ℕ → State → State
begun p vs base s = record s { memory = entered (base - p.frame) p.frame p.variables vs s.memory }

abbrev cleared : Proc → ℕ → State → State
cleared p base s = record s { memory = forgotten s.memory (base - p.frame) p.frame }

eight : (v : ℕ) → length (bytes_of 8 v) ≡ 8
eight v = refl

module _ (entries : ℕ → ℕ) (ps : List Proc) (qs : List MidProc) (addresses : List ℕ) where
  -- ---- the parameters go into their variables

  pub record Enters (f : Frame) (pc end n : ℕ) (temps : ℕ → ℕ) (s t : State) : Type 0 where
    pub temps_after : ℕ → ℕ
    pub leads : Leads (act (mid_world entries ps qs addresses)) (stand f pc temps s) n (stand f end temps_after t)

  enters : (f : Frame) (d i : ℕ) (vs : List Variable) (ws : List ℕ) (pc end : ℕ) (temps : ℕ → ℕ) (s : State) → Stands f.steps pc (parameters_code d i (length ws)) end →
      AreHeld temps i ws → i + length ws ≤ d → AreParameters (length ws) vs →
      ((j : ℕ) (v : Variable) → slice_get vs j ≡ Some v → slice_get f.variables (i + j) ≡ Some v) →
      ((j : ℕ) (v : Variable) → slice_get f.variables j ≡ Some v → v.size ≡ 8 → all_in f.touched (f.low + v.offset) 8 ≡ true) →
      Enters f pc end (2 * length ws) temps s (record s { memory = with_arguments f.low vs ws s.memory })
  enters f d i [] [] pc end temps s at held room are names touched =
      let P : ℕ → Type 0 = λ y. Enters f pc y 0 temps s s in
      subst P at (record { temps_after = temps; leads = none_leads (act (mid_world entries ps qs addresses)) (stand f pc temps s) })
  enters f d i (v ∷ vs) [] pc end temps s at held room are names touched =
      let P : ℕ → Type 0 = λ y. Enters f pc y 0 temps s s in
      subst P at (record { temps_after = temps; leads = none_leads (act (mid_world entries ps qs addresses)) (stand f pc temps s) })
  enters f d i [] (w ∷ ws) pc end temps s at held room are names touched = absurd are
  enters f d i (v ∷ vs) (w ∷ ws) pc end temps s at held room are names touched =
      let world = mid_world entries ps qs addresses in
      let a : ℕ = f.low + v.offset in
      let first : i + 0 ≡ i = omega arith in
      let named : slice_get f.variables i ≡ Some v = subst (λ (y : ℕ). slice_get f.variables y ≡ Some v) first (names 0 v refl) in
      let temps1 = set d a temps in
      let c1 = stand f (pc + 1) temps1 s in
      let s2 : State = record s { memory = put s.memory a (bytes_of 8 w) } in
      let c2 = stand f (pc + 1 + 1) temps1 s2 in
      let goes1 : act world (stand f pc temps s) ≡ on c1 =
      acts world (stand f pc temps s) (address_step d (OfVariable i)) at.0
      ∙ ap (λ (o : Option Variable). gives_found d (option_map (λ (u : Variable). f.low + u.offset) o) (stand f pc temps s)) named in
      let place : temps1 d ≡ a = set_same d a temps in
      let word : temps1 i ≡ w = set_below d a temps i (omega arith) ∙ held.0 in
      let goes2 : act world c1 ≡ on c2 =
      acts world c1 (store_step Double d i) at.1.0
      ∙ ap (λ (y : ℕ). with_memory (stored f.touched s.memory y (bytes_of 8 (temps1 i))) c1) place
      ∙ ap (λ (y : ℕ). with_memory (stored f.touched s.memory a (bytes_of 8 y)) c1) word
      ∙ ap (λ (b : Bool). with_memory (if b then Some (put s.memory a (bytes_of 8 w)) else None) c1) (touched i v named are.0) in
      let rest : Enters f (pc + 1 + 1) end (2 * length ws) temps1 s2 (record s2 { memory = with_arguments f.low vs ws s2.memory }) =
      enters f d (i + 1) vs ws (pc + 1 + 1) end temps1 s2 at.1.1
      (held_kept temps temps1 (i + 1) ws (λ t low high. set_below d a temps t (omega arith)) held.1)
      (omega arith) are.1
      (λ j u h. let next : i + suc j ≡ i + 1 + j = omega arith in subst (λ (y : ℕ). slice_get f.variables y ≡ Some u) next (names (suc j) u h))
      touched in
      let t : State = record s2 { memory = with_arguments f.low vs ws s2.memory } in
      record {
        temps_after = rest.temps_after;
        leads = leads_as (act world) (stand f pc temps s) (1 + (1 + 2 * length ws)) (2 * length (w ∷ ws)) (stand f end rest.temps_after t) (omega arith)
            (step_on (act world) (stand f pc temps s) c1 (1 + 2 * length ws) (stand f end rest.temps_after t) goes1
            (step_on (act world) c1 c2 (2 * length ws) (stand f end rest.temps_after t) goes2 rest.leads));
      }

  -- ---- a body, up to the step that answers

  steps_of : (p : Proc) (q : MidProc) → plain_proc q ≡ lowered p → map plain q.steps ≡ procedure_code p
  steps_of p q same = ap (λ (x : PlainProc). x.steps) same

  pub body_sim : (n : ℕ) → AreAlike ps qs → CallsFollow entries ps qs addresses n → (p : Proc) (q : MidProc) (touched : ℕ → Bool) (base : ℕ) (callers : List Caller) (vs : List ℕ) (s : State) →
      plain_proc q ≡ lowered p → IsReady ps p → p.parameters ≡ length vs → IsFrame (frame_in p q touched base callers) → s.left ≤ n →
      Sim (mid_world entries ps qs addresses) (frame_in p q touched base callers) (1 + 2 * length vs) 0 0
      (stand (frame_in p q touched base callers) 0 (λ t. get_or vs t 0) (cleared p base s)) s
      (body_run (core_world entries ps qs addresses) n (calls_of (core_world entries ps qs addresses) n) p vs touched base s)
      (λ word place temps. Answers (frame_in p q touched base callers) word place temps)
  body_sim n alike calls_follow p q touched base callers vs s same ready many is_frame left =
      let world = mid_world entries ps qs addresses in
      let f = frame_in p q touched base callers in
      let d = p.parameters in
      let back = stmts_code d [] (2 * d) p.body ++ (const_step d 0 ∷ return_step d ∷ []) in
      let whole : Stands q.steps 0 (parameters_code d 0 d ++ back) (length q.steps) = stands_whole q.steps (procedure_code p) (steps_of p q same) in
      let x = parts q.steps 0 (parameters_code d 0 d) back (length q.steps) whole in
      let middle : x.middle ≡ 2 * d = omega (arith, stands_length q.steps 0 (parameters_code d 0 d) x.middle x.front, parameters_length d 0 d) in
      let y = parts q.steps x.middle (stmts_code d [] (2 * d) p.body) (const_step d 0 ∷ return_step d ∷ []) (length q.steps) x.back in
      let S : ℕ → Type 0 = λ z. Stands q.steps x.middle (stmts_code d [] z p.body) y.middle in
      let body_at : Stands q.steps x.middle (stmts_code d [] x.middle p.body) y.middle = subst S (sym middle) y.front in
      let N : ℕ → Type 0 = λ z. Stands q.steps 0 (parameters_code d 0 z) x.middle in
      let A : ℕ → Type 0 = λ z. AreParameters z p.variables in
      let temps0 : ℕ → ℕ = λ t. get_or vs t 0 in
      let start : State = cleared p base s in
      let t : State = begun p vs base s in
      let e = enters f d 0 p.variables vs 0 x.middle temps0 start (subst N many x.front)
      (held_first vs temps0 0 (λ j. let zero_first : 0 + j ≡ j = omega arith in ap temps0 zero_first)) (omega arith) (subst A many ready.parameters)
      (λ j v h. let zero_first : j ≡ 0 + j = omega arith in subst (λ (z : ℕ). slice_get p.variables z ≡ Some v) zero_first h)
      (λ j v h size. variable_touched touched (base - p.frame) p.variables j 8 v h size) in
      let r = exec_all n (calls_of (core_world entries ps qs addresses) n) (env_of entries ps qs addresses f) p.body t in
      let goal : ℕ → ℕ → (ℕ → ℕ) → Type 0 = λ word place temps. Answers f word place temps in
      onward world f (1 + 2 * length vs) 0 0 1 0 (stand f 0 temps0 start) (stand f x.middle e.temps_after t) s t (2 * length vs)
      (then_by r (λ flow. pure (answered flow))) goal e.leads refl (omega arith) (omega arith)
      (λ h. record { memory = arguments_bytes (base - p.frame) p.variables vs start.memory (forgotten_bytes s.memory (base - p.frame) p.frame h.memory); input = h.input })
      (after world f f 1 0 0 1 1 0 1 0 0 (stand f x.middle e.temps_after t) t r (λ flow. pure (answered flow)) (IsLeft f [] y.middle) goal
      (omega arith) (omega arith) (omega arith) (omega arith)
      (stmts_sim entries ps qs addresses f alike is_frame n calls_follow ready.names ready.names_are d p.body [] x.middle y.middle e.temps_after t body_at ready.body left)
      (λ flow u place temps less h. finishes f y.middle d y.back.0 y.back.1.0 flow u place temps h))
    where
      finishes : (f : Frame) (end d : ℕ) → Has f.steps end (const_step d 0) → Has f.steps (end + 1) (return_step d) →
          (flow : Flow) (u : State) (place : ℕ) (temps : ℕ → ℕ) → IsLeft f [] end flow place temps →
          Sim (mid_world entries ps qs addresses) f 1 0 0 (stand f place temps u) u (pure (answered flow) u) (λ word place temps. Answers f word place temps)
      finishes f end d has1 has2 falls u place temps h =
          let goal : ℕ → ℕ → (ℕ → ℕ) → Type 0 = λ word place temps. Answers f word place temps in
          let P : ℕ → Type 0 = λ z. Sim (mid_world entries ps qs addresses) f 1 0 0 (stand f z temps u) u (ok 0 u) goal in
          subst P (sym h) (one_step entries ps qs addresses f 1 0 0 0 0 end (end + 1) temps (set d 0 temps) u (const_step d 0) (ok 0 u) goal has1 refl (omega arith) (omega arith)
          (here (mid_world entries ps qs addresses) f 0 0 (end + 1) (set d 0 temps) u 0 goal (record { value = d; has = has2; word_is = set_same d 0 temps }) (omega arith)))
      finishes f end d has1 has2 (leaves depth) u place temps h = absurd (omega (arith, h.inside))
      finishes f end d has1 has2 (answers word) u place temps h =
          here (mid_world entries ps qs addresses) f 1 0 place temps u word (λ word place temps. Answers f word place temps) h (omega arith)

  -- ---- the call

  tell_is : (e : Option (Entry ℕ ℕ)) (s : State) → tell e s ≡ ok tt (told e s)
  tell_is None s = refl
  tell_is (Some e) s = refl

  -- how the mid run stands where a procedure has been entered, by its place, frame and variables
  abbrev entry_of : MidProc → Frame → ℕ → ℕ → (ℕ → ℕ) → State → List ℕ → Place → ℕ → List Variable → Config
  entry_of q f pc to temps s vs at frame variables = record {
    here = record {
      steps = q.steps;
      next = 0;
      temps = λ t. get_or vs t 0;
      at = at;
      low = f.low - frame;
      variables = variables;
      touched = touched_in f.touched (f.low - frame) variables;
    };
    callers = record { to = to; activation = record { steps = f.steps; next = pc + 1; temps = temps; at = f.at; low = f.low; variables = f.variables; touched = f.touched } } ∷ f.callers;
    memory = forgotten s.memory (f.low - frame) frame;
    log = s.log;
    input = s.input;
    taken = s.taken;
  }

  -- the activation that the callee answers to
  abbrev callee : Proc → MidProc → Frame → ℕ → ℕ → (ℕ → ℕ) → Frame
  callee p q f pc to temps =
      frame_in p q f.touched f.low
      (record { to = to; activation = record { steps = f.steps; next = pc + 1; temps = temps; at = f.at; low = f.low; variables = f.variables; touched = f.touched } } ∷ f.callers)

  entry_is : (p : Proc) (q : MidProc) (f : Frame) (pc to : ℕ) (temps : ℕ → ℕ) (s : State) (vs : List ℕ) → plain_proc q ≡ lowered p →
      mid_entered q to vs (stand f pc temps s) ≡ stand (callee p q f pc to temps) 0 (λ t. get_or vs t 0) (cleared p f.low s)
  entry_is p q f pc to temps s vs same =
      let at : q.at ≡ p.at = ap (λ (x : PlainProc). x.at) same in
      let frame : q.frame ≡ p.frame = ap (λ (x : PlainProc). x.frame) same in
      let variables : q.variables ≡ p.variables = ap (λ (x : PlainProc). x.variables) same in
      ap (λ (y : Place). entry_of q f pc to temps s vs y q.frame q.variables) at
      ∙ ap (λ (y : ℕ). entry_of q f pc to temps s vs p.at y q.variables) frame
      ∙ ap (λ (y : List Variable). entry_of q f pc to temps s vs p.at p.frame y) variables

  -- what the call step does
  calls_by : (p : Proc) (q : MidProc) (f : Frame) (pc to g : ℕ) (temps : ℕ → ℕ) (s : State) (vs : List ℕ) (b : Bool) → plain_proc q ≡ lowered p → slice_get qs g ≡ Some q → has_room f.low p.frame ≡ b →
      calls to (slice_get qs g) vs (stand f pc temps s)
      ≡ (if b then on (stand (callee p q f pc to temps) 0 (λ t. get_or vs t 0) (cleared p f.low s)) else over (checked Stack p.at) (stand f pc temps s))
  calls_by p q f pc to g temps s vs b same found room =
      let at : q.at ≡ p.at = ap (λ (x : PlainProc). x.at) same in
      let frame : q.frame ≡ p.frame = ap (λ (x : PlainProc). x.frame) same in
      ap (λ (o : Option MidProc). calls to o vs (stand f pc temps s)) found
      ∙ ap (λ (y : ℕ). if has_room f.low y then on (mid_entered q to vs (stand f pc temps s)) else over (checked Stack q.at) (stand f pc temps s)) frame
      ∙ ap (λ (t : Bool). if t then on (mid_entered q to vs (stand f pc temps s)) else over (checked Stack q.at) (stand f pc temps s)) room
      ∙ ap (λ (y : Place). if b then on (mid_entered q to vs (stand f pc temps s)) else over (checked Stack y) (stand f pc temps s)) at
      ∙ ap (λ (c : Config). if b then on c else over (checked Stack p.at) (stand f pc temps s)) (entry_is p q f pc to temps s vs same)

  -- the same on the other side
  enters_by : (n g : ℕ) (p : Proc) (touched : ℕ → Bool) (base : ℕ) (e : Option (Entry ℕ ℕ)) (s : State) (vs : List ℕ) (b : Bool) → slice_get ps g ≡ Some p → has_room base p.frame ≡ b →
      then_by (tell e s) (λ u. enter (core_world entries ps qs addresses) n (calls_of (core_world entries ps qs addresses) n) (slice_get ps g) vs touched base)
      ≡ (if b then body_run (core_world entries ps qs addresses) n (calls_of (core_world entries ps qs addresses) n) p vs touched base (told e s) else stop (checked Stack p.at) (told e s))
  enters_by n g p touched base e s vs b found room =
      let w = core_world entries ps qs addresses in
      ap (λ (r : Res (Unit {0})). then_by r (λ u. enter w n (calls_of w n) (slice_get ps g) vs touched base)) (tell_is e s)
      ∙ ap (λ (o : Option Proc). enter w n (calls_of w n) o vs touched base (told e s)) found
      ∙ by_room (has_room base p.frame) b room
    where
      by_room : (x y : Bool) → x ≡ y →
          (if x then body_run (core_world entries ps qs addresses) n (calls_of (core_world entries ps qs addresses) n) p vs touched base else (λ t. stop (checked Stack p.at) t)) (told e s)
          ≡ (if y then body_run (core_world entries ps qs addresses) n (calls_of (core_world entries ps qs addresses) n) p vs touched base (told e s) else stop (checked Stack p.at) (told e s))
      by_room true true h = refl
      by_room false false h = refl
      by_room true false h = absurd (cc)
      by_room false true h = absurd (cc)

  -- behind the step that answers
  return_sim : (p : Proc) (q : MidProc) (f : Frame) (pc to : ℕ) (temps : ℕ → ℕ) (word : ℕ) (s : State) (place : ℕ) (temps' : ℕ → ℕ) → Answers (callee p q f pc to temps) word place temps' →
      Sim (mid_world entries ps qs addresses) f 1 0 2 (stand (callee p q f pc to temps) place temps' s) s (ok word s) (IsAnswered pc to temps)
  return_sim p q f pc to temps word s place temps' h =
      let world = mid_world entries ps qs addresses in
      let c = stand (callee p q f pc to temps) place temps' s in
      let c' = stand f (pc + 1) (set to word temps) s in
      let goes : act world c ≡ on c' = acts world c (return_step h.value) h.has ∙ ap (λ (y : ℕ). on (stand f (pc + 1) (set to y temps) s)) h.word_is in
      onward world f 1 0 2 0 0 c c' s s 1 (ok word s) (IsAnswered pc to temps) (one_leads (act world) c c' goes) refl (omega arith) (omega arith) (λ x. x)
      (here world f 0 0 (pc + 1) (set to word temps) s word (IsAnswered pc to temps) (record { at = refl; is = refl }) (omega arith))

  then_itself : {A : Type 0} (r : Res A) → then_by r pure ≡ r
  then_itself (ok v t) = refl
  then_itself (stop e t) = refl

  call_by_room : (n : ℕ) → AreAlike ps qs → CallsFollow entries ps qs addresses n → (f : Frame) → IsFrame f → (pc : ℕ) (temps : ℕ → ℕ) (s : State) (to g : ℕ) (vs : List ℕ) (e : Option (Entry ℕ ℕ))
      (p : Proc) (q : MidProc) (b : Bool) → s.left ≤ suc n →
      IsReady ps p → slice_get ps g ≡ Some p → slice_get qs g ≡ Some q → plain_proc q ≡ lowered p → p.parameters ≡ length vs → has_room f.low p.frame ≡ b →
      act (mid_world entries ps qs addresses) (stand f pc temps s) ≡ calls to (slice_get qs g) vs (stand f pc temps (told e s)) →
      Follow entries ps qs addresses f (1 + 2 * length vs) 1 2 pc temps s
      (spend (λ t. then_by (tell e t) (λ u. enter (core_world entries ps qs addresses) n (calls_of (core_world entries ps qs addresses) n) (slice_get ps g) vs f.touched f.low)) s) (IsAnswered pc to temps)
  call_by_room n alike calls_follow f is_frame pc temps s to g vs e p q false left ready here_p here_q same many room goes =
      let world = mid_world entries ps qs addresses in
      let m : Act ℕ = λ t. then_by (tell e t) (λ u. enter (core_world entries ps qs addresses) n (calls_of (core_world entries ps qs addresses) n) (slice_get ps g) vs f.touched f.low) in
      spent_ends world f (1 + 2 * length vs) 1 2 (stand f pc temps s) s m (IsAnswered pc to temps) (checked Stack p.at) (λ l. told e (record s { left = l; cost = s.cost + 1 }))
      (record { log = refl; taken = refl }) (λ l. enters_by n g p f.touched f.low e (record s { left = l; cost = s.cost + 1 }) vs false here_p room) (λ l. refl) (λ l. omega arith)
      (λ l. record { last = stand f pc temps (told e s); over = goes ∙ calls_by p q f pc to g temps (told e s) vs false same here_q room; log = refl; taken = refl })
  call_by_room n alike calls_follow f is_frame pc temps s to g vs e p q true left ready here_p here_q same many room goes =
      let world = mid_world entries ps qs addresses in
      let w = core_world entries ps qs addresses in
      let f' = callee p q f pc to temps in
      let m : Act ℕ = λ t. then_by (tell e t) (λ u. enter w n (calls_of w n) (slice_get ps g) vs f.touched f.low) in
      let fits : p.frame ≤ f.low = grind (arith, nat_tests) in
      let ready_frame : IsFrame f' =
      frame_ready p q f.touched f.low (record { to = to; activation = record { steps = f.steps; next = pc + 1; temps = temps; at = f.at; low = f.low; variables = f.variables; touched = f.touched } } ∷ f.callers)
      ready.laid fits is_frame.low is_frame.touched in
      let c = stand f pc temps s in
      let c' = stand f' 0 (λ t. get_or vs t 0) (cleared p f.low (told e s)) in
      let moves : act world c ≡ on c' = goes ∙ calls_by p q f pc to g temps (told e s) vs true same here_q room in
      spent world f (1 + 2 * length vs) 1 2 (3 + 2 * length vs) 1 c c' s 1 m (IsAnswered pc to temps) (one_leads (act world) c c' moves) (record { log = refl; taken = refl })
      (omega arith) (omega arith) (omega arith)
      (λ l used.
      let s1 : State = record s { left = l; cost = s.cost + 1 } in
      let t : State = told e s1 in
      let r : Res ℕ = body_run w n (calls_of w n) p vs f.touched f.low t in
      let P : Res ℕ → Type 0 = λ x. Sim world f (3 + 2 * length vs) 1 1 c' s1 x (IsAnswered pc to temps) in
      subst P (sym (enters_by n g p f.touched f.low e s1 vs true here_p room))
      (onward world f (3 + 2 * length vs) 1 1 (3 + 2 * length vs) 1 c' c' s1 t 0 r (IsAnswered pc to temps) (none_leads (act world) c') refl (omega arith) (omega arith)
      (λ h. record { memory = h.memory; input = h.input })
      (let Q : Res ℕ → Type 0 = λ x. Sim world f (3 + 2 * length vs) 1 1 c' t x (IsAnswered pc to temps) in
      subst Q (then_itself r)
      (after world f' f (3 + 2 * length vs) 1 1 (1 + 2 * length vs) 0 0 1 0 2 c' t r pure (λ word place temps'. Answers f' word place temps') (IsAnswered pc to temps)
      (omega arith) (omega arith) (omega arith) (omega arith)
      (body_sim n alike calls_follow p q f.touched f.low
      (record { to = to; activation = record { steps = f.steps; next = pc + 1; temps = temps; at = f.at; low = f.low; variables = f.variables; touched = f.touched } } ∷ f.callers)
      vs t same ready many ready_frame (omega arith))
      (λ word u place temps' less h. return_sim p q f pc to temps word u place temps' h)))))

  pub calls_are_followed : AreAlike ps qs → ((g : ℕ) (p : Proc) → slice_get ps g ≡ Some p → IsReady ps p) → (n : ℕ) → CallsFollow entries ps qs addresses n
  calls_are_followed alike ready zero = record {
    by = λ f is_frame pc temps s to g vs e p left here_p many goes.
        ends (mid_world entries ps qs addresses) f (1 + 2 * length vs) 1 2 (stand f pc temps s) s going (IsAnswered pc to temps) (record { log = refl; taken = refl }, omega arith);
  }
  calls_are_followed alike ready (suc n) = record {
    by = λ f is_frame pc temps s to g vs e p left here_p many goes.
        let other = found_at ps qs g p alike here_p in
        call_by_room n alike (calls_are_followed alike ready n) f is_frame pc temps s to g vs e p other.0 (has_room f.low p.frame) left (ready g p here_p) here_p other.1 other.2 many refl goes;
  }
