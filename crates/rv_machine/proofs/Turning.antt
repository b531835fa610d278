-- One instruction of the definition's run, by its event.
use Rattle.std.proofs.Common.{◌≡◌, ℕ, ◌+◌, Bool, true, false, cond, List, [], ◌∷◌, ◌++◌, Option, Some, None, eqb, arith, ap, ◌∙◌, sym, subst, refl}
use Rattle.std.specs.Prelude.{slice_get}
use Rattle.odc_text.specs.Check.{number_of}
use Rattle.odc_text.specs.Run.{checked, trapped, Log, call}
use Rattle.odc_text.specs.Steps.{After, on, over}
use Rattle.rv_table.specs.State.{State, register, stepped}
use Rattle.rv_table.specs.Run.{Site, Config, call_made, system_called, stopped_at, acted, act}
use Rattle.rv_table.specs.declared.effect.Event.TheVariants.{Next, System, Break, AllocCall, Trap}
use Rattle.rv_machine.specs.Outside.{Told}
use Rattle.rv_machine.specs.Checks.{stop_at, check_stop}
use Rattle.rv_machine.specs.Runs.{at}
use Rattle.rv_machine.specs.Turns.{Went, Turned}
use Rattle.rv_machine.specs.declared.stop.Stop.{Stop}
use Rattle.rv_machine.specs.declared.stop.Stop.TheVariants.{Checked, Trapped}
use Rattle.rv_machine.proofs.Pieces.{took_none}
use Rattle.rv_machine.proofs.Services.{went_quietly, grown_none, turned_as}

module _ (sites : List Site) (calls : List ℕ) (old new : State) (ended : Bool) (t : Told) where
  pub next_went : stepped calls old ≡ (Next, new) → Went (act sites calls) old new ended ended t t
  unfolding act
  next_went e = went_quietly (act sites calls) old new ended t (λ log rest taken. ap (acted sites (at old log rest taken)) e)

  pub call_went : stepped calls old ≡ (AllocCall, new) → Went (act sites calls) old new ended ended t t
  unfolding act
  call_went e = record {
    got = [];
    gave = call (call_made old) ∷ [];
    is = λ log rest taken allowed.
        let more : taken ≡ taken + 0 = omega arith in
        ap (acted sites (at old log rest taken)) e ∙ ap (λ (n : ℕ). on (at new (log ++ call (call_made old) ∷ []) rest n)) more;
    took = took_none t.input;
    stays = λ h. (refl, h);
    out = grown_none t.out;
    err = grown_none t.err;
  }

  pub trap_finished : stepped calls old ≡ (Trap, new) → new ≡ old → Turned (act sites calls) (Some (Trapped new.pc)) old new ended ended t t
  unfolding act
  trap_finished e same = record {
    is = λ log rest taken. ap (acted sites (at old log rest taken)) e ∙ ap (λ (s : State). over (trapped s.pc) (at old log rest taken)) (sym same);
    state = same;
    told = refl;
  }

  stop_finished : (f : Config → After Config) (o : Option Site) → new ≡ old → ((log : Log ℕ ℕ) (rest : List ℕ) (taken : ℕ) → f (at old log rest taken) ≡ stopped_at (at old log rest taken) o) → Turned f (Some (stop_at old o)) old new ended ended t t
  stop_finished f None same step = record { is = step; state = same; told = refl }
  stop_finished f (Some site) same step = by_test (eqb (number_of site.0) (register old 10)) step
    where
      by_test : (b : Bool) → ((log : Log ℕ ℕ) (rest : List ℕ) (taken : ℕ) → f (at old log rest taken) ≡ cond b (over (checked site.0 site.1) (at old log rest taken)) (over (trapped old.pc) (at old log rest taken))) →
          Turned f (Some (cond b (Checked site.0 site.1) (Trapped old.pc))) old new ended ended t t
      by_test true h = record { is = h; state = same; told = refl }
      by_test false h = record { is = h; state = same; told = refl }

  pub break_finished : stepped calls old ≡ (Break, new) → new ≡ old → Turned (act sites calls) (Some (check_stop sites new)) old new ended ended t t
  unfolding act
  break_finished e same =
      let P : State → Type 0 = λ s. Turned (act sites calls) (Some (check_stop sites s)) old new ended ended t t in
      subst P (sym same) (stop_finished (act sites calls) (slice_get sites (register old 11)) same (λ log rest taken. ap (acted sites (at old log rest taken)) e))

pub system_turned : (sites : List Site) (calls : List ℕ) (old mid new : State) (r : Option Stop) (ended ended' : Bool) (t t' : Told) → stepped calls old ≡ (System, mid) → mid ≡ old →
    Turned system_called r mid new ended ended' t t' → Turned (act sites calls) r old new ended ended' t t'
unfolding act
system_turned sites calls old mid new r ended ended' t t' e same h =
    let P : State → Type 0 = λ s. Turned system_called r s new ended ended' t t' in
    turned_as system_called (act sites calls) r old new ended ended' t t' (λ log rest taken. ap (acted sites (at old log rest taken)) e) (subst P same h)
