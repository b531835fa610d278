-- Whole runs: from tied configurations on, the machine's run keeps the mid run.
use Rattle.std.proofs.Common.{◌≡◌, ℕ, zero, suc, ◌+◌, ◌*◌, ◌%◌, ◌^◌, ◌<◌, ◌≤◌, Bool, true, false, List, [], ◌∷◌, length, map, take, arith, ap, ◌∙◌, sym, subst, refl}
use Rattle.std.specs.Prelude.{◌==◌, Option, Some, None, slice_get, if◌then◌else◌}
use Rattle.odc_text.specs.Run.{End, exited, checked, strayed, trapped, going}
use Rattle.odc_text.specs.Steps.{After, on, over}
use Rattle.odc_text.specs.Check.{number_of as check_number}
use Rattle.rv_table.specs.State.{register}
use Rattle.odc_mid.specs.declared.tree.MidStep.{MidStep}
use Rattle.odc_mid.specs.declared.tree.MidStep.TheVariants.{Const, Address, Move, Unary, Binary, Compare, Load, Store, Jump, Branch, Call, CallValue, Return, Check as CheckStep, System}
use Rattle.odc_mid.specs.Tree.{Proc, Whole}
use Rattle.odc_mid.specs.Run.{Config, strays}
use Rattle.rv_emit.proofs.Flat.{Setting, Flat}
use Rattle.rv_emit.proofs.simulation.Ties.{Built, Tied}
use Rattle.rv_emit.proofs.simulation.Sims.{Moved, Ended, Left, Sim, strays_sim}
use Rattle.odc_mid.specs.Run.{world_of}
use Rattle.odc_text.specs.Run.{Entry, Log}
use Rattle.odc_mid.specs.Run.{world_of}
use Rattle.std.proofs.Math.Nat.{mul-suc}
use Rattle.odc_text.specs.Run.{Run, Agree, EndsAgree, HasEnded, HasStrayed}
use Rattle.odc_text.specs.Follow.{KeepsOn}
use Rattle.odc_text.specs.Steps.{Stand, stood, stood_after, IsOver}
use Rattle.odc_text.proofs.StepLemmas.{stood_stays}
use Rattle.rv_table.specs.Run.{Site, ran, acted, system_called, read_called, write_called, reading, refused, took, wrote, trap, read_areas, stopped_at, written_bytes as written_here}
use Rattle.rv_table.specs.State.{Area, Step, stepped}
use Rattle.rv_table.specs.declared.effect.Event.TheVariants.{Next, System as SystemEvent, Break, AllocCall, Trap}
use Rattle.odc_text.specs.Run.{out, err}
use Rattle.std.proofs.Math.Nat.{mul-one}
use Rattle.rv_table.specs.Run.{Config as Conf, act as act_machine, ending as ending_machine}
use Rattle.odc_mid.specs.Run.{act, carried, carried_at, ending}
use Rattle.rv_emit.specs.Layout.{factor, more_of, step_width, steps_width, procs_width}
use Rattle.rv_emit.proofs.Flat.{Is, There, Leads, later, none_leads, leads_on}
use Rattle.rv_emit.proofs.simulation.Returns.{carried_sim, bound_of}

-- ---- the width of a program bounds that of each step

width_step : (ss : List MidStep) (i : ℕ) (s : MidStep) → slice_get ss i ≡ Some s → step_width s ≤ steps_width ss
width_step [] i s e = cc
width_step (x ∷ ss) zero s e =
    let same : x ≡ s = cc in
    let P : MidStep → Type 0 = λ y. step_width y ≤ more_of (step_width x) (steps_width ss) in
    subst P same (omega arith)
width_step (x ∷ ss) (suc i) s e = let rest : step_width s ≤ steps_width ss = width_step ss i s e in omega (arith, rest)

width_proc : (ps : List Proc) (f : ℕ) (p : Proc) → slice_get ps f ≡ Some p → steps_width p.steps ≤ procs_width ps
width_proc [] f p e = cc
width_proc (x ∷ ps) zero p e =
    let same : x ≡ p = cc in
    let P : Proc → Type 0 = λ y. steps_width y.steps ≤ more_of (steps_width x.steps) (procs_width ps) in
    subst P same (omega arith)
width_proc (x ∷ ps) (suc f) p e = let rest : steps_width p.steps ≤ procs_width ps = width_proc ps f p e in omega (arith, rest)

module _ (m : Setting) (w : Whole) (b : Built m w) where
  bound_is : (s : MidStep) → bound_of m w b s ≡ 32 + 14 * step_width s
  bound_is (Const to v) = refl
  bound_is (Address to of) = refl
  bound_is (Move to u) = refl
  bound_is (Unary to op u) = refl
  bound_is (Binary to op u v) = refl
  bound_is (Compare to op u v) = refl
  bound_is (Load to width u) = refl
  bound_is (Store width u v) = refl
  bound_is (Jump label) = refl
  bound_is (Branch u label) = refl
  bound_is (Call to f arguments) = refl
  bound_is (CallValue to target arguments marked) = refl
  bound_is (Return u) = refl
  bound_is (CheckStep u which source) = refl
  bound_is (System asked) = refl

  sim_more : (x y place : ℕ) (a : Flat) (after : After Config) → x ≤ y → Sim m w b x place a after → Sim m w b y place a after
  sim_more x y place a (on c) h s = let r : Moved m w b x place a c = s.by in record { by = record { to = r.to; flat = r.flat; steps = r.steps; some = r.some; few = omega (arith, h, r.few); reaches = r.reaches; tied = r.tied } }
  sim_more x y place a (over (exited code) last) h s =
      let r : Ended m w b x place a (exited code) last = s.by in
      record { by = record { to = r.to; flat = r.flat; steps = r.steps; few = omega (arith, h, r.few); reaches = r.reaches; ends = r.ends; log = r.log; taken = r.taken } }
  sim_more x y place a (over (checked which at) last) h s =
      let r : Ended m w b x place a (checked which at) last = s.by in
      record { by = record { to = r.to; flat = r.flat; steps = r.steps; few = omega (arith, h, r.few); reaches = r.reaches; ends = r.ends; log = r.log; taken = r.taken } }
  sim_more x y place a (over (strayed at) last) h s = record { by = s.by }
  sim_more x y place a (over (trapped pc) last) h s = record { by = s.by }
  sim_more x y place a (over going last) h s = record { by = s.by }

  act_sim : (c : Config) (place : ℕ) (a : Flat) → Tied m w b c place a → Sim m w b (factor w) place a (act (world_of m.entries w) c)
  act_sim c place a t = by (slice_get c.here.steps c.here.next) refl
    where
      by : (o : Option MidStep) → slice_get c.here.steps c.here.next ≡ o → Sim m w b (factor w) place a (carried_at (world_of m.entries w) o c)
      by None e = strays_sim m w b (factor w) c place a t
      by (Some s) e =
          let at_step : slice_get t.p.steps c.here.next ≡ Some s = ap (λ (ss : List MidStep). slice_get ss c.here.next) (sym t.act.steps) ∙ e in
          let one : step_width s ≤ steps_width t.p.steps = width_step t.p.steps c.here.next s at_step in
          let two : steps_width t.p.steps ≤ procs_width w.procedures = width_proc w.procedures t.f t.p t.act.found in
          sim_more (bound_of m w b s) (factor w) place a (carried (world_of m.entries w) s c) (omega (arith, bound_is s, one, two)) (carried_sim m w b c place a t s e)

  -- ---- a run of so many steps

  pub record Related (c : Config) (conf : Conf) : Type 0 where
    pub place : ℕ
    pub flat : Flat
    pub is : Is m conf place flat
    pub tied : Tied m w b c place flat

  abbrev pub StandsAs : ℕ → ℕ → End → Conf → ℕ → Type 0
  StandsAs n steps (exited code) conf d = (act_machine m.sites m.calls conf ≡ over (exited code) conf) × (d + 1 ≤ factor w * steps)
  StandsAs n steps (checked which at) conf d = (act_machine m.sites m.calls conf ≡ over (checked which at) conf) × (d + 1 ≤ factor w * steps)
  StandsAs n steps (strayed at) conf d = Unit {0}
  StandsAs n steps (trapped pc) conf d = ⊥
  StandsAs n steps going conf d = n ≤ d

  pub record Followed (n : ℕ) (s : Stand Config) (conf : Conf) : Type 0 where
    pub steps : ℕ
    pub last : Conf
    pub leads : Leads m.sites m.calls conf steps last
    pub log : s.last.log ≡ last.log
    pub taken : s.last.taken ≡ last.taken
    pub stands : StandsAs n s.steps s.end last steps

  more_paid : (f k d d' : ℕ) → d' ≤ f → d + 1 ≤ f * k → d' + d + 1 ≤ f * (k + 1)
  more_paid f k d d' few h =
      let one : k + 1 ≡ suc k = omega arith in
      let whole : f * (k + 1) ≡ f * k + f = ap (λ (n : ℕ). f * n) one ∙ mul-suc f k in
      omega (arith, whole, few, h)

  stands_on : (n k : ℕ) (e : End) (conf : Conf) (d d' : ℕ) → d' ≤ factor w → 0 < d' → StandsAs n k e conf d → StandsAs (suc n) (k + 1) e conf (d' + d)
  stands_on n k (exited code) conf d d' few some h = (h.0, more_paid (factor w) k d d' few h.1)
  stands_on n k (checked which at) conf d d' few some h = (h.0, more_paid (factor w) k d d' few h.1)
  stands_on n k (strayed at) conf d d' few some h = tt
  stands_on n k (trapped pc) conf d d' few some h = h
  stands_on n k going conf d d' few some h = omega (arith, h, some)

  abbrev mid_step : Config → After Config
  mid_step c = act (world_of m.entries w) c

  first_paid : (f d : ℕ) → d + 1 ≤ f → d + 1 ≤ f * 1
  first_paid f d h = let one : f * 1 ≡ f = mul-one f in omega (arith, one, h)

  run_sim : (n : ℕ) (c : Config) (conf : Conf) → Related c conf → Followed n (stood mid_step n c) conf
  run_sim zero c conf r = record {
    steps = 0;
    last = conf;
    leads = none_leads m.sites m.calls conf;
    log = r.tied.log ∙ sym r.is.log;
    taken = r.tied.taken ∙ sym r.is.taken;
    stands = omega arith;
  }
  run_sim (suc n) c conf r = by (mid_step c) (act_sim c r.place r.flat r.tied) (λ c' conf' r'. run_sim n c' conf' r')
    where
      by : (after : After Config) → Sim m w b (factor w) r.place r.flat after → ((c' : Config) (conf' : Conf) → Related c' conf' → Followed n (stood mid_step n c') conf') →
          Followed (suc n) (stood_after (stood mid_step n) after) conf
      by (on c') s rest =
          let v : Moved m w b (factor w) r.place r.flat c' = s.by in
          let there : There m conf v.steps v.to v.flat = v.reaches.by conf r.is in
          let f : Followed n (stood mid_step n c') there.last = rest c' there.last (record { place = v.to; flat = v.flat; is = there.is; tied = v.tied }) in
          record {
            steps = v.steps + f.steps;
            last = f.last;
            leads = leads_on m.sites m.calls conf v.steps there.last f.steps f.last there.leads f.leads;
            log = f.log;
            taken = f.taken;
            stands = stands_on n (stood mid_step n c').steps (stood mid_step n c').end f.last f.steps v.steps v.few v.some f.stands;
          }
      by (over (exited code) last) s rest =
          let v : Ended m w b (factor w) r.place r.flat (exited code) last = s.by in
          let there : There m conf v.steps v.to v.flat = v.reaches.by conf r.is in
          record {
            steps = v.steps;
            last = there.last;
            leads = there.leads;
            log = v.log ∙ sym there.is.log;
            taken = v.taken ∙ sym there.is.taken;
            stands = (v.ends.by there.last there.is, first_paid (factor w) v.steps v.few);
          }
      by (over (checked which at) last) s rest =
          let v : Ended m w b (factor w) r.place r.flat (checked which at) last = s.by in
          let there : There m conf v.steps v.to v.flat = v.reaches.by conf r.is in
          record {
            steps = v.steps;
            last = there.last;
            leads = there.leads;
            log = v.log ∙ sym there.is.log;
            taken = v.taken ∙ sym there.is.taken;
            stands = (v.ends.by there.last there.is, first_paid (factor w) v.steps v.few);
          }
      by (over (strayed at) last) s rest =
          let v : Left m w b r.flat last = s.by in
          record {
            steps = 0;
            last = conf;
            leads = none_leads m.sites m.calls conf;
            log = v.log ∙ sym r.is.log;
            taken = v.taken ∙ sym r.is.taken;
            stands = tt;
          }
      by (over (trapped pc) last) s rest = absurd s.by
      by (over going last) s rest = absurd s.by

  -- ---- the machine strays nowhere

  abbrev Honest : After Conf → Type 0
  Honest (on c) = Unit {0}
  Honest (over (strayed at) last) = ⊥
  Honest (over _ last) = Unit {0}

  honest_if : (z : Bool) (x y : After Conf) → Honest x → Honest y → Honest (if z then x else y)
  honest_if true x y h k = h
  honest_if false x y h k = k

  honest_took : (c : Conf) (n : ℕ) (o : Option (List Area)) → Honest (took c n o)
  honest_took c n None = tt
  honest_took c n (Some areas) = tt

  honest_wrote : (c : Conf) (entry : ℕ → Entry ℕ ℕ) (o : Option (List ℕ)) → Honest (wrote c entry o)
  honest_wrote c entry None = tt
  honest_wrote c entry (Some bytes) = tt

  honest_system : (c : Conf) → Honest (system_called c)
  honest_system c =
      honest_if (register c.state 17 == 63) (read_called c) (if register c.state 17 == 64 then write_called c else (if register c.state 17 == 93 then over (exited (register c.state 10 % 2 ^ 8)) c else trap c))
      (honest_if (register c.state 10 == 0) (reading c) (refused c) (honest_took c (length (take (register c.state 12) c.input)) (read_areas c.state (take (register c.state 12) c.input))) tt)
      (honest_if (register c.state 17 == 64) (write_called c) (if register c.state 17 == 93 then over (exited (register c.state 10 % 2 ^ 8)) c else trap c)
      (honest_if (register c.state 10 == 1) (wrote c out (written_here c.state)) (if register c.state 10 == 2 then wrote c err (written_here c.state) else refused c) (honest_wrote c out (written_here c.state))
      (honest_if (register c.state 10 == 2) (wrote c err (written_here c.state)) (refused c) (honest_wrote c err (written_here c.state)) tt))
      (honest_if (register c.state 17 == 93) (over (exited (register c.state 10 % 2 ^ 8)) c) (trap c) tt tt))

  honest_stop : (c : Conf) (o : Option Site) → Honest (stopped_at c o)
  honest_stop c None = tt
  honest_stop c (Some site) = honest_if (check_number site.0 == register c.state 10) (over (checked site.0 site.1) c) (trap c) tt tt

  honest_acted : (c : Conf) (step : Step) → Honest (acted m.sites c step)
  honest_acted c (Next, s) = tt
  honest_acted c (AllocCall, s) = tt
  honest_acted c (SystemEvent, s) = honest_system c
  honest_acted c (Break, s) = honest_stop c (slice_get m.sites (register c.state 11))
  honest_acted c (Trap, s) = tt

  honest_act : (c : Conf) → Honest (act_machine m.sites m.calls c)
  unfolding act_machine
  honest_act c = honest_acted c (stepped m.calls c.state)

  never_strays : (n : ℕ) (c : Conf) → HasStrayed (ran m.sites m.calls n c).end → ⊥
  never_strays zero c h = h
  never_strays (suc n) c h = by (act_machine m.sites m.calls c) (honest_act c) (λ c' h'. never_strays n c' h') h
    where
      by : (after : After Conf) → Honest after → ((c' : Conf) → HasStrayed (ran m.sites m.calls n c').end → ⊥) → HasStrayed (stood_after (λ c'. ran m.sites m.calls n c') after).end → ⊥
      by (on c') honest rest h = rest c' h
      by (over (strayed at) last) honest rest h = honest
      by (over (exited code) last) honest rest h = h
      by (over (checked which at) last) honest rest h = h
      by (over (trapped pc) last) honest rest h = h
      by (over going last) honest rest h = h

  -- ---- the runs of a program

  same_log : (l : Log ℕ ℕ) → map (λ (x : Entry ℕ ℕ). x) l ≡ l
  same_log [] = refl
  same_log (x ∷ l) = ap (λ (k : Log ℕ ℕ). x ∷ k) (same_log l)

  -- the machine from a configuration on
  abbrev pub runs_from : (List ℕ → Conf) → Run ℕ ℕ
  runs_from start input k = ending_machine (ran m.sites m.calls k (start input))

  abbrev pub mid_from : (List ℕ → Config) → Run ℕ ℕ
  mid_from first input n = ending (stood mid_step n (first input))

  module _ (first : List ℕ → Config) (start : List ℕ → Conf) (input : List ℕ) (conf : Conf) (d0 : ℕ) (leads : Leads m.sites m.calls (start input) d0 conf) (related : Related (first input) conf) where
    abbrev whole : (n : ℕ) → Followed n (stood mid_step n (first input)) conf
    whole n = run_sim n (first input) conf related

    -- the run to where the mid run was followed
    way : (n : ℕ) → Leads m.sites m.calls (start input) (d0 + (whole n).steps) (whole n).last
    way n = leads_on m.sites m.calls (start input) d0 conf (whole n).steps (whole n).last leads (whole n).leads

    still : (n : ℕ) → ran m.sites m.calls (d0 + (whole n).steps) (start input) ≡ later (d0 + (whole n).steps) (ran m.sites m.calls 0 (whole n).last)
    still n = (way n).by 0 (d0 + (whole n).steps) (omega arith)

    -- the mid run goes on, or has strayed
    open_agree : (n : ℕ) (e : End) → (stood mid_step n (first input)).end ≡ e → EndsAgree e going → Agree (λ (x : Entry ℕ ℕ). x) (mid_from first input n) (runs_from start input (d0 + (whole n).steps))
    open_agree n e is ends =
        let P : Stand Conf → Type 0 = λ s. Agree (λ (x : Entry ℕ ℕ). x) (mid_from first input n) (ending_machine s) in
        let E : End → Type 0 = λ x. EndsAgree x going in
        subst P (sym (still n)) (record { ends = subst E (sym is) ends; logs = same_log (stood mid_step n (first input)).last.log ∙ (whole n).log; taken = (whole n).taken })

    over_at : (n : ℕ) (e : End) → act_machine m.sites m.calls (whole n).last ≡ over e (whole n).last →
        ran m.sites m.calls (1 + (d0 + (whole n).steps)) (start input) ≡ later (d0 + (whole n).steps) (let r : Stand Conf = record { end = e; last = (whole n).last; steps = 1 } in r)
    over_at n e ends =
        (way n).by 1 (1 + (d0 + (whole n).steps)) refl
        ∙ ap (later (d0 + (whole n).steps)) (ap (λ (x : After Conf). stood_after (stood (act_machine m.sites m.calls) 0) x) ends)

    over_past : (n k : ℕ) (e : End) → act_machine m.sites m.calls (whole n).last ≡ over e (whole n).last → IsOver e → 1 + (d0 + (whole n).steps) ≤ k →
        ran m.sites m.calls k (start input) ≡ later (d0 + (whole n).steps) (let r : Stand Conf = record { end = e; last = (whole n).last; steps = 1 } in r)
    over_past n k e ends ended past =
        let P : End → Type 0 = IsOver in
        stood_stays (act_machine m.sites m.calls) (1 + (d0 + (whole n).steps)) k (start input) past (subst P (sym (ap (λ (s : Stand Conf). s.end) (over_at n e ends))) ended) ∙ over_at n e ends

    -- the mid run has ended
    ended_agree : (n k : ℕ) (e : End) → (stood mid_step n (first input)).end ≡ e → EndsAgree e e → IsOver e → act_machine m.sites m.calls (whole n).last ≡ over e (whole n).last → 1 + (d0 + (whole n).steps) ≤ k →
        Agree (λ (x : Entry ℕ ℕ). x) (mid_from first input n) (runs_from start input k)
    ended_agree n k e is agree ended ends past =
        let P : Stand Conf → Type 0 = λ s. Agree (λ (x : Entry ℕ ℕ). x) (mid_from first input n) (ending_machine s) in
        let E : End → Type 0 = λ x. EndsAgree x e in
        subst P (sym (over_past n k e ends ended past)) (record { ends = subst E (sym is) agree; logs = same_log (stood mid_step n (first input)).last.log ∙ (whole n).log; taken = (whole n).taken })

    record Ready (n lower : ℕ) : Type 0 where
      at : ℕ
      past : lower ≤ at
      agree : Agree (λ (x : Entry ℕ ℕ). x) (mid_from first input n) (runs_from start input at)

    meet : (n lower : ℕ) → lower ≤ n → (HasStrayed (stood mid_step n (first input)).end → lower ≡ 0) → Ready n lower
    meet n lower small strays = by (stood mid_step n (first input)).end refl (whole n).stands
      where
        by : (e : End) → (stood mid_step n (first input)).end ≡ e → StandsAs n (stood mid_step n (first input)).steps e (whole n).last (whole n).steps → Ready n lower
        by (exited code) is h = record { at = lower + (1 + (d0 + (whole n).steps)); past = omega arith; agree = ended_agree n (lower + (1 + (d0 + (whole n).steps))) (exited code) is refl tt h.0 (omega arith) }
        by (checked which at) is h =
            record { at = lower + (1 + (d0 + (whole n).steps)); past = omega arith; agree = ended_agree n (lower + (1 + (d0 + (whole n).steps))) (checked which at) is (refl, refl) tt h.0 (omega arith) }
        by (strayed at) is h =
            let E : End → Type 0 = HasStrayed in
            let none : lower ≡ 0 = strays (subst E (sym is) tt) in
            record { at = d0 + (whole n).steps; past = omega (arith, none); agree = open_agree n (strayed at) is tt }
        by (trapped pc) is h = absurd h
        by going is h = record { at = d0 + (whole n).steps; past = omega (arith, small, h); agree = open_agree n going is tt }

    record Paid (n : ℕ) : Type 0 where
      at : ℕ
      agree : Agree (λ (x : Entry ℕ ℕ). x) (mid_from first input n) (runs_from start input at)
      cheap : (runs_from start input at).cost ≤ factor w * (mid_from first input n).cost + d0

    pay : (n : ℕ) → HasEnded (stood mid_step n (first input)).end → Paid n
    pay n ended = by (stood mid_step n (first input)).end refl (whole n).stands ended
      where
        cost_is : (e : End) → act_machine m.sites m.calls (whole n).last ≡ over e (whole n).last → (runs_from start input (1 + (d0 + (whole n).steps))).cost ≡ 1 + (d0 + (whole n).steps)
        cost_is e ends = ap (λ (s : Stand Conf). s.steps) (over_at n e ends)

        by : (e : End) → (stood mid_step n (first input)).end ≡ e → StandsAs n (stood mid_step n (first input)).steps e (whole n).last (whole n).steps → HasEnded e → Paid n
        by (exited code) is h ended = record {
          at = 1 + (d0 + (whole n).steps);
          agree = ended_agree n (1 + (d0 + (whole n).steps)) (exited code) is refl tt h.0 (omega arith);
          cheap = omega (arith, cost_is (exited code) h.0, h.1);
        }
        by (checked which at) is h ended = record {
          at = 1 + (d0 + (whole n).steps);
          agree = ended_agree n (1 + (d0 + (whole n).steps)) (checked which at) is (refl, refl) tt h.0 (omega arith);
          cheap = omega (arith, cost_is (checked which at) h.0, h.1);
        }
        by (strayed at) is h ended = absurd ended
        by (trapped pc) is h ended = absurd ended
        by going is h ended = absurd ended

    pub keeps_from : KeepsOn (factor w) d0 (λ (x : Entry ℕ ℕ). x) (mid_from first) (runs_from start) input
    keeps_from = record {
      goes = λ n. let r : Ready n 0 = meet n 0 (omega arith) (λ s. refl) in (r.at, r.agree);
      far = λ never k. (k, λ n large. let r : Ready n k = meet n k large (λ s. absurd (never n s)) in (r.at, r.past, r.agree));
      sound = λ never k s. never_strays k (start input) s;
      cheap = λ n ended. let r : Paid n = pay n ended in (r.at, r.agree, r.cheap);
    }
