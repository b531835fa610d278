-- The simulation of a part of a core run by mid steps, with an exact number of steps and a credit on
-- both sides: each unit of cost pays for twelve steps, and each step pays for two units of the bound.
use Rattle.std.proofs.Common.{◌≡◌, ℕ, zero, suc, ◌+◌, ◌*◌, ◌<◌, ◌≤◌, List, arith, sym, subst, refl}
use Rattle.std.specs.Prelude.{Bool, Some}
use Rattle.odc_text.specs.declared.place.Place.{Place}
use Rattle.odc_text.specs.Run.{End, exited, checked, strayed, trapped, going}
use Rattle.odc_text.specs.Steps.{over}
use Rattle.odc_core.specs.declared.tree.Variable.{Variable}
use Rattle.odc_core.specs.Well.{AreBytes}
use Rattle.odc_core.specs.Run.{State, Res, ok, stop, Act, pure, then_by, spend_from, spend}
use Rattle.odc_mid.specs.declared.tree.MidStep.{MidStep}
use Rattle.odc_mid.specs.Run.{World, Caller, Config, act}
use Rattle.odc_lower.proofs.simulation.Runs.{Leads, none_leads, leads_on}

-- ---- states

-- an activation that is carried out, and its callers
pub record Frame : Type 0 where
  pub steps : List MidStep
  pub at : Place
  pub low : ℕ
  pub variables : List Variable
  pub touched : ℕ → Bool
  pub callers : List Caller

abbrev pub stand : Frame → ℕ → (ℕ → ℕ) → State → Config
stand f pc temps s = record {
  here = record { steps = f.steps; next = pc; temps = temps; at = f.at; low = f.low; variables = f.variables; touched = f.touched };
  callers = f.callers;
  memory = s.memory;
  log = s.log;
  input = s.input;
  taken = s.taken;
}

-- all that is in memory, and all input, is bytes
pub record IsSane (s : State) : Type 0 where
  pub memory : (x b : ℕ) → s.memory x ≡ Some b → b < 256
  pub input : AreBytes s.input

-- ---- how the mid run stands where a part of the core run has been carried out

-- `before` is paid for before, `behind` is left over, and `gain` of the bound are paid for
pub record Paid (before behind gain steps : ℕ) (s t : State) : Type 0 where
  pub left : t.left ≤ s.left
  pub turns : s.left + gain ≤ t.left + 2 * steps
  pub cost : steps + behind + 12 * s.cost ≤ before + 12 * t.cost

pub record PaidEnd (before steps : ℕ) (s t : State) : Type 0 where
  pub turns : s.left ≤ t.left + 2 * steps + 2
  pub cost : steps + 12 * s.cost ≤ before + 12 * t.cost

module _ (world : World) where
  pub record IsOverWith (c : Config) (e : End) (t : State) : Type 0 where
    pub last : Config
    pub over : act world c ≡ over e last
    pub log : last.log ≡ t.log
    pub taken : last.taken ≡ t.taken

  pub record IsAt (c : Config) (t : State) : Type 0 where
    pub log : c.log ≡ t.log
    pub taken : c.taken ≡ t.taken

  abbrev pub Because : Config → End → State → Type 0
  Because c (exited code) t = IsOverWith c (exited code) t
  Because c (checked which place) t = IsOverWith c (checked which place) t
  Because c (strayed place) t = IsAt c t
  Because c (trapped pc) t = ⊥
  Because c going t = IsAt c t × (t.left ≡ 0)

  pub record Reached (f : Frame) (before behind gain : ℕ) (c : Config) (s t : State) (wanted : ℕ → (ℕ → ℕ) → Type 0) : Type 0 where
    pub place : ℕ
    pub temps : ℕ → ℕ
    pub steps : ℕ
    pub leads : Leads (act world) c steps (stand f place temps t)
    pub paid : Paid before behind gain steps s t
    pub sane : IsSane t
    pub holds : wanted place temps

  pub record Ended (before : ℕ) (c : Config) (s : State) (e : End) (t : State) : Type 0 where
    pub last : Config
    pub steps : ℕ
    pub leads : Leads (act world) c steps last
    pub paid : PaidEnd before steps s t
    pub because : Because last e t

  abbrev pub Follows : {A : Type 0} → Frame → ℕ → ℕ → ℕ → Config → State → Res A → (A → ℕ → (ℕ → ℕ) → Type 0) → Type 0
  Follows f before behind gain c s (ok v t) goal = Reached f before behind gain c s t (goal v)
  Follows f before behind gain c s (stop e t) goal = Ended before c s e t

  -- from `c`, at which the core run is in state `s`, the mid run follows its part with this result
  pub record Sim {A : Type 0} (f : Frame) (before behind gain : ℕ) (c : Config) (s : State) (r : Res A) (goal : A → ℕ → (ℕ → ℕ) → Type 0) : Type 0 where
    pub by : IsSane s → Follows f before behind gain c s r goal

  module _ {A : Type 0} (f : Frame) where
    -- nothing is to be done
    pub here : (before behind : ℕ) (pc : ℕ) (temps : ℕ → ℕ) (s : State) (v : A) (goal : A → ℕ → (ℕ → ℕ) → Type 0) → goal v pc temps → behind ≤ before → Sim f before behind 0 (stand f pc temps s) s (ok v s) goal
    here before behind pc temps s v goal h paid = record {
      by = λ sane. record {
        place = pc;
        temps = temps;
        steps = 0;
        leads = none_leads (act world) (stand f pc temps s);
        paid = record { left = omega arith; turns = omega arith; cost = omega arith };
        sane = sane;
        holds = h;
      };
    }

    -- the core run has ended
    pub ends : (before behind gain : ℕ) (c : Config) (s : State) (e : End) (goal : A → ℕ → (ℕ → ℕ) → Type 0) → Because c e s → Sim f before behind gain c s (stop e s) goal
    ends before behind gain c s e goal h = record {
      by = λ sane. record { last = c; steps = 0; leads = none_leads (act world) c; paid = record { turns = omega arith; cost = omega arith }; because = h };
    }

    -- a stretch of steps, by which the core run's state may have changed
    pub onward : (before behind gain before' gain' : ℕ) (c c' : Config) (s s' : State) (d : ℕ) (r : Res A) (goal : A → ℕ → (ℕ → ℕ) → Type 0) →
        Leads (act world) c d c' → s'.left ≡ s.left → before' + d + 12 * s.cost ≤ before + 12 * s'.cost → gain ≤ gain' + 2 * d → (IsSane s → IsSane s') →
        Sim f before' behind gain' c' s' r goal → Sim f before behind gain c s r goal
    onward before behind gain before' gain' c c' s s' d (ok v t) goal leads left cost turns sane rest = record {
      by = λ is_sane.
          let p = rest.by (sane is_sane) in
          record {
            place = p.place;
            temps = p.temps;
            steps = d + p.steps;
            leads = leads_on (act world) c d c' p.steps (stand f p.place p.temps t) leads p.leads;
            paid = record { left = omega (arith, p.paid.left); turns = omega (arith, p.paid.turns); cost = omega (arith, p.paid.cost) };
            sane = p.sane;
            holds = p.holds;
          };
    }
    onward before behind gain before' gain' c c' s s' d (stop e t) goal leads left cost turns sane rest = record {
      by = λ is_sane.
          let p = rest.by (sane is_sane) in
          record {
            last = p.last;
            steps = d + p.steps;
            leads = leads_on (act world) c d c' p.steps p.last leads p.leads;
            paid = record { turns = omega (arith, p.paid.turns); cost = omega (arith, p.paid.cost) };
            because = p.because;
          };
    }

    -- one of the bound is used, and at least one step made; where none is left, the run goes on
    pub spent : (before behind gain before' gain' : ℕ) (c c' : Config) (s : State) (d : ℕ) (m : Act A) (goal : A → ℕ → (ℕ → ℕ) → Type 0) →
        Leads (act world) c d c' → IsAt c s → 1 ≤ d → before' + d ≤ before + 12 → gain + 1 ≤ gain' + 2 * d →
        ((left : ℕ) → s.left ≡ suc left → Sim f before' behind gain' c' (record s { left = left; cost = s.cost + 1 }) (m (record s { left = left; cost = s.cost + 1 })) goal) →
        Sim f before behind gain c s (spend m s) goal
    spent before behind gain before' gain' c c' s d m goal leads at some cost turns rest = from s.left refl
      where
        next : (left : ℕ) → s.left ≡ suc left → (r : Res A) → Sim f before' behind gain' c' (record s { left = left; cost = s.cost + 1 }) r goal → Sim f before behind gain c s r goal
        next left e (ok v t) p = record {
          by = λ is_sane.
              let q = p.by (record { memory = is_sane.memory; input = is_sane.input }) in
              record {
                place = q.place;
                temps = q.temps;
                steps = d + q.steps;
                leads = leads_on (act world) c d c' q.steps (stand f q.place q.temps t) leads q.leads;
                paid = record { left = omega (arith, q.paid.left); turns = omega (arith, q.paid.turns); cost = omega (arith, q.paid.cost) };
                sane = q.sane;
                holds = q.holds;
              };
        }
        next left e (stop end t) p = record {
          by = λ is_sane.
              let q = p.by (record { memory = is_sane.memory; input = is_sane.input }) in
              record {
                last = q.last;
                steps = d + q.steps;
                leads = leads_on (act world) c d c' q.steps q.last leads q.leads;
                paid = record { turns = omega (arith, q.paid.turns); cost = omega (arith, q.paid.cost) };
                because = q.because;
              };
        }

        from : (left : ℕ) → s.left ≡ left → Sim f before behind gain c s (spend_from left m s) goal
        from zero e = record {
          by = λ is_sane. record { last = c; steps = 0; leads = none_leads (act world) c; paid = record { turns = omega arith; cost = omega arith }; because = (at, e) };
        }
        from (suc left) e = next left e (m (record s { left = left; cost = s.cost + 1 })) (rest left e)

    -- one of the bound is used, and the run ends
    pub spent_ends : (before behind gain : ℕ) (c : Config) (s : State) (m : Act A) (goal : A → ℕ → (ℕ → ℕ) → Type 0) (e : End) (t : ℕ → State) →
        IsAt c s → ((left : ℕ) → m (record s { left = left; cost = s.cost + 1 }) ≡ stop e (t left)) → ((left : ℕ) → (t left).left ≡ left) → ((left : ℕ) → s.cost ≤ (t left).cost) →
        ((left : ℕ) → Because c e (t left)) → Sim f before behind gain c s (spend m s) goal
    spent_ends before behind gain c s m goal e t at is lefts costs why = from s.left refl
      where
        from : (left : ℕ) → s.left ≡ left → Sim f before behind gain c s (spend_from left m s) goal
        from zero none = record {
          by = λ is_sane. record { last = c; steps = 0; leads = none_leads (act world) c; paid = record { turns = omega arith; cost = omega arith }; because = (at, none) };
        }
        from (suc left) some =
            let P : Res A → Type 0 = λ r. Sim f before behind gain c s r goal in
            subst P (sym (is left)) (record {
              by = λ is_sane. record {
                last = c;
                steps = 0;
                leads = none_leads (act world) c;
                paid = record { turns = omega (arith, lefts left); cost = omega (arith, costs left) };
                because = why left;
              };
            })

    -- a weaker goal
    pub implied : (before behind gain : ℕ) (c : Config) (s : State) (r : Res A) (goal goal' : A → ℕ → (ℕ → ℕ) → Type 0) →
        ((v : A) (place : ℕ) (temps : ℕ → ℕ) → goal v place temps → goal' v place temps) → Sim f before behind gain c s r goal → Sim f before behind gain c s r goal'
    implied before behind gain c s (ok v t) goal goal' weaker p = record {
      by = λ is_sane.
          let q = p.by is_sane in
          record { place = q.place; temps = q.temps; steps = q.steps; leads = q.leads; paid = q.paid; sane = q.sane; holds = weaker v q.place q.temps q.holds };
    }
    implied before behind gain c s (stop e t) goal goal' weaker p = record { by = λ is_sane. p.by is_sane }

    -- less is claimed
    pub settled : (before behind gain before' behind' gain' : ℕ) (c : Config) (s : State) (r : Res A) (goal : A → ℕ → (ℕ → ℕ) → Type 0) →
        before' ≤ before → before' + behind ≤ before + behind' → gain ≤ gain' → Sim f before' behind' gain' c s r goal → Sim f before behind gain c s r goal
    settled before behind gain before' behind' gain' c s (ok v t) goal e1 e2 e3 p = record {
      by = λ is_sane.
          let q = p.by is_sane in
          record {
            place = q.place;
            temps = q.temps;
            steps = q.steps;
            leads = q.leads;
            paid = record { left = q.paid.left; turns = omega (arith, q.paid.turns); cost = omega (arith, q.paid.cost) };
            sane = q.sane;
            holds = q.holds;
          };
    }
    settled before behind gain before' behind' gain' c s (stop e t) goal e1 e2 e3 p = record {
      by = λ is_sane.
          let q = p.by is_sane in
          record { last = q.last; steps = q.steps; leads = q.leads; paid = record { turns = q.paid.turns; cost = omega (arith, q.paid.cost) }; because = q.because };
    }

    -- a finished node
    pub noded : (before behind gain before' behind' gain' : ℕ) (c : Config) (s : State) (r : Res A) (goal : A → ℕ → (ℕ → ℕ) → Type 0) →
        before' ≤ before → before' + behind ≤ before + behind' + 12 → gain + 1 ≤ gain' → Sim f before' behind' gain' c s r goal →
        Sim f before behind gain c s (then_by r (λ v. spend (pure v))) goal
    noded before behind gain before' behind' gain' c s (ok v t) goal e1 e2 e3 p = from t.left refl
      where
        from : (left : ℕ) → t.left ≡ left → Sim f before behind gain c s (spend_from left (pure v) t) goal
        from zero e = record {
          by = λ is_sane.
              let q = p.by is_sane in
              record {
                last = stand f q.place q.temps t;
                steps = q.steps;
                leads = q.leads;
                paid = record { turns = omega (arith, q.paid.turns); cost = omega (arith, q.paid.cost) };
                because = (record { log = refl; taken = refl }, e);
              };
        }
        from (suc left) e = record {
          by = λ is_sane.
              let q = p.by is_sane in
              record {
                place = q.place;
                temps = q.temps;
                steps = q.steps;
                leads = q.leads;
                paid = record { left = omega (arith, q.paid.left); turns = omega (arith, q.paid.turns); cost = omega (arith, q.paid.cost) };
                sane = record { memory = q.sane.memory; input = q.sane.input };
                holds = q.holds;
              };
        }
    noded before behind gain before' behind' gain' c s (stop e t) goal e1 e2 e3 p = record {
      by = λ is_sane.
          let q = p.by is_sane in
          record { last = q.last; steps = q.steps; leads = q.leads; paid = record { turns = q.paid.turns; cost = omega (arith, q.paid.cost) }; because = q.because };
    }

  -- one part after the other, perhaps in another activation
  pub after : {A B : Type 0} (f f' : Frame) (before behind gain b1 a1 g1 b2 a2 g2 : ℕ) (c : Config) (s : State) (r : Res A) (m : A → Act B)
      (goal : A → ℕ → (ℕ → ℕ) → Type 0) (goal' : B → ℕ → (ℕ → ℕ) → Type 0) →
      b1 ≤ before → b1 + b2 ≤ before + a1 → b1 + b2 + behind ≤ before + a1 + a2 → gain ≤ g1 + g2 →
      Sim f b1 a1 g1 c s r goal →
      ((v : A) (t : State) (place : ℕ) (temps : ℕ → ℕ) → t.left ≤ s.left → goal v place temps → Sim f' b2 a2 g2 (stand f place temps t) t (m v t) goal') →
      Sim f' before behind gain c s (then_by r m) goal'
  after f f' before behind gain b1 a1 g1 b2 a2 g2 c s (ok v t) m goal goal' e1 e2 e3 e4 p rest = record {
    by = λ is_sane.
        let q = p.by is_sane in
        let joined = joins f f' before behind gain b1 a1 g1 b2 a2 g2 c s t (m v t) (goal v) goal' e1 e2 e3 e4 q in
        joined (rest v t q.place q.temps q.paid.left q.holds);
  }
    where
      joins : {B : Type 0} (f f' : Frame) (before behind gain b1 a1 g1 b2 a2 g2 : ℕ) (c : Config) (s t : State) (r : Res B)
          (holds : ℕ → (ℕ → ℕ) → Type 0) (goal' : B → ℕ → (ℕ → ℕ) → Type 0) →
          b1 ≤ before → b1 + b2 ≤ before + a1 → b1 + b2 + behind ≤ before + a1 + a2 → gain ≤ g1 + g2 → (q : Reached f b1 a1 g1 c s t holds) →
          Sim f' b2 a2 g2 (stand f q.place q.temps t) t r goal' → Follows f' before behind gain c s r goal'
      joins f f' before behind gain b1 a1 g1 b2 a2 g2 c s t (ok w u) holds goal' e1 e2 e3 e4 q p =
          let o = p.by q.sane in
          record {
            place = o.place;
            temps = o.temps;
            steps = q.steps + o.steps;
            leads = leads_on (act world) c q.steps (stand f q.place q.temps t) o.steps (stand f' o.place o.temps u) q.leads o.leads;
            paid = record {
              left = omega (arith, q.paid.left, o.paid.left);
              turns = omega (arith, q.paid.turns, o.paid.turns);
              cost = omega (arith, q.paid.cost, o.paid.cost);
            };
            sane = o.sane;
            holds = o.holds;
          }
      joins f f' before behind gain b1 a1 g1 b2 a2 g2 c s t (stop e u) holds goal' e1 e2 e3 e4 q p =
          let o = p.by q.sane in
          record {
            last = o.last;
            steps = q.steps + o.steps;
            leads = leads_on (act world) c q.steps (stand f q.place q.temps t) o.steps o.last q.leads o.leads;
            paid = record { turns = omega (arith, q.paid.turns, o.paid.turns); cost = omega (arith, q.paid.cost, o.paid.cost) };
            because = o.because;
          }
  after f f' before behind gain b1 a1 g1 b2 a2 g2 c s (stop e t) m goal goal' e1 e2 e3 e4 p rest = record {
    by = λ is_sane.
        let q = p.by is_sane in
        record { last = q.last; steps = q.steps; leads = q.leads; paid = record { turns = q.paid.turns; cost = omega (arith, q.paid.cost) }; because = q.because };
  }
