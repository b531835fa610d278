-- A part of the source run and a part of the core run that does the same: the relation of their results, the world
-- outside, the cost against a credit, and the bound against the turns that were taken.
use Rattle.std.proofs.Common.{◌≡◌, ℕ, zero, suc, ◌+◌, ◌*◌, ◌≤◌, ◌⊎◌, inl, inr, map, arith, ap, ◌∙◌, sym, subst, refl}
use Rattle.std.proofs.Math.Nat.{add-zero}
use Rattle.odc_text.specs.Run.{End, exited, checked, strayed, trapped, going, Entry, entry_by}
use Rattle.odc_program.specs.States.Bytes.{Pointer}
use Rattle.odc_program.specs.States.Run.{Res, ok, stop, then_by}
use Rattle.odc_program.specs.States.State.{State, Leave, ends, back, Do, turn, turn_from}
use Rattle.odc_core.specs.Run.{State as CoreState, Res as CoreRes, ok as fine, stop as halt, Act as CoreAct, then_by as onto, ◌>>=◌}
use Rattle.odc_carried.specs.Places.{address_at}
use Rattle.odc_carried.proofs.Runs.{Face, at, Fueled, as_told, Runs}

-- what a unit of the source's cost pays
abbrev pub rate : ℕ
rate = 64

-- at a greater cost
abbrev pub spent : State → ℕ → State
spent s c = record s { cost = s.cost + c }

module _ (entries : ℕ → ℕ) where
  -- an entry of the source's log as core code's
  abbrev pub read : Entry Pointer ℕ → Entry ℕ ℕ
  read = entry_by address_at entries

  -- the same world outside
  pub record Told (s : State) (h : Face) : Type 0 where
    pub logs : map read s.log ≡ h.log
    pub input : s.input ≡ h.input
    pub taken : s.taken ≡ h.taken

  -- with some bound the core run stands where the same was told
  pub record Pause {B : Type 0} (j : ℕ) (act : Fueled B) (h : Face) (t : State) : Type 0 where
    pub face : Face
    pub budget : ℕ
    pub cost : ℕ
    pub is : (n c : ℕ) → j + budget ≤ n → act n (at h budget c) ≡ halt going (at face 0 (c + cost))
    pub told : Told t face

  -- it stands so in this part, or stood so before it
  abbrev pub Reached : {B : Type 0} → ℕ → Fueled B → Face → State → Type 0
  Reached j act h t = Pause j act h t ⊎ Told t h

  -- both have a value
  pub record Came {A B : Type 0} (R : A → State → B → Face → Type 0) (j credit spare : ℕ) (act : Fueled B) (s : State) (h : Face) (v : A) (t : State) : Type 0 where
    pub word : B
    pub face : Face
    pub budget : ℕ
    pub cost : ℕ
    pub runs : Runs j act h budget cost word face
    pub holds : R v t word face
    pub told : Told t face
    pub cheap : cost + rate * s.cost + spare ≤ credit + rate * t.cost
    pub turns : s.left ≤ t.left + budget
    pub fewer : t.left ≤ s.left
    pub reached : Reached j act h t

  -- both have ended
  pub record Ended {B : Type 0} (j credit : ℕ) (act : Fueled B) (s : State) (h : Face) (e : End) (t : State) : Type 0 where
    pub face : Face
    pub budget : ℕ
    pub cost : ℕ
    pub is : (n k c : ℕ) → j + (k + budget) ≤ n → act n (at h (k + budget) c) ≡ halt e (at face k (c + cost))
    pub told : Told t face
    pub cheap : cost + rate * s.cost ≤ credit + rate * t.cost

  -- no turn is left to the source, and with this bound the core run stands there
  pub record Waits {B : Type 0} (j : ℕ) (act : Fueled B) (s : State) (h : Face) (t : State) : Type 0 where
    pub pause : Pause j act h t
    pub late : s.left ≤ pause.budget

  abbrev pub Stops : {B : Type 0} → ℕ → ℕ → Fueled B → State → Face → Leave → State → Type 0
  Stops j credit act s h (ends (exited code)) t = Ended j credit act s h (exited code) t
  Stops j credit act s h (ends (checked which place)) t = Ended j credit act s h (checked which place) t
  Stops j credit act s h (ends (strayed place)) t = Reached j act h t
  Stops j credit act s h (ends (trapped pc)) t = ⊥
  Stops j credit act s h (ends going) t = Waits j act s h t
  Stops j credit act s h back t = ⊥

  abbrev pub Follows : {A B : Type 0} → (A → State → B → Face → Type 0) → ℕ → ℕ → ℕ → Fueled B → State → Face → Res Leave State A → Type 0
  Follows R j credit spare act s h (ok v t) = Came R j credit spare act s h v t
  Follows R j credit spare act s h (stop why t) = Stops j credit act s h why t

  pub record Sim {A B : Type 0} (R : A → State → B → Face → Type 0) (j credit spare : ℕ) (act : Fueled B) (s : State) (h : Face) (r : Res Leave State A) : Type 0 where
    pub by : Follows R j credit spare act s h r

  -- ---- the core run gets from one part to another

  -- a fuel with which the second part is reached
  pub record Arrives {B : Type 0} (j' : ℕ) (r : CoreRes B) (act' : Fueled B) (h' : Face) (k c : ℕ) : Type 0 where
    pub fuel : ℕ
    pub enough : j' + k ≤ fuel
    pub is : r ≡ act' fuel (at h' k c)

  pub record Leads {B : Type 0} (j j' : ℕ) (act act' : Fueled B) (h h' : Face) (y x : ℕ) : Type 0 where
    pub to : (n k c : ℕ) → j + (k + y) ≤ n → Arrives j' (act n (at h (k + y) c)) act' h' k (c + x)

  halt_as : {B : Type 0} (e : End) (h : Face) (k x x' : ℕ) → x ≡ x' → (let r : CoreRes B = halt e (at h k x) in r) ≡ (let r : CoreRes B = halt e (at h k x') in r)
  halt_as {B} e h k x x' f = ap (λ (y : ℕ). let r : CoreRes B = halt e (at h k y) in r) f

  module _ {A B : Type 0} (R : A → State → B → Face → Type 0) (j j' credit b g y x : ℕ) (act act' : Fueled B) (s s' : State) (h h' : Face) (leads : Leads j j' act act' h h' y x)
      (left : s.left ≤ s'.left + y) (fewer : s'.left ≤ s.left) (costs : x + rate * s.cost + b ≤ credit + rate * s'.cost) (still : (t : State) → Told t h' → Reached j act h t) where
    abbrev led_pause : (t : State) → Pause j' act' h' t → Pause j act h t
    led_pause t z = record {
      face = z.face;
      budget = z.budget + y;
      cost = x + z.cost;
      is = λ n c e.
          let a = leads.to n z.budget c e in
          a.is ∙ z.is a.fuel (c + x) a.enough ∙ halt_as going z.face 0 _ _ (omega arith);
      told = z.told;
    }

    led_reached : (t : State) → Reached j' act' h' t → Reached j act h t
    led_reached t (inl z) = inl (led_pause t z)
    led_reached t (inr z) = still t z

    led_ended : (e : End) (t : State) → Ended j' b act' s' h' e t → Ended j credit act s h e t
    led_ended e t z = record {
      face = z.face;
      budget = z.budget + y;
      cost = x + z.cost;
      is = λ n k c f.
          let all : k + (z.budget + y) ≡ (k + z.budget) + y = omega arith in
          let a = leads.to n (k + z.budget) c (omega arith) in
          ap (λ (q : ℕ). act n (at h q c)) all ∙ a.is ∙ z.is a.fuel k (c + x) a.enough ∙ halt_as e z.face k _ _ (omega arith);
      told = z.told;
      cheap = omega (arith, z.cheap, costs);
    }

    led : (r : Res Leave State A) → Follows R j' b g act' s' h' r → Follows R j credit g act s h r
    led (ok v t) z = record {
      word = z.word;
      face = z.face;
      budget = z.budget + y;
      cost = x + z.cost;
      runs = record {
        is = λ n k c f.
            let all : k + (z.budget + y) ≡ (k + z.budget) + y = omega arith in
            let a = leads.to n (k + z.budget) c (omega arith) in
            ap (λ (q : ℕ). act n (at h q c)) all ∙ a.is ∙ z.runs.is a.fuel k (c + x) a.enough ∙ as_told z.word z.face k k _ _ refl (omega arith);
      };
      holds = z.holds;
      told = z.told;
      cheap = omega (arith, z.cheap, costs);
      turns = omega (arith, z.turns, left);
      fewer = omega (arith, z.fewer, fewer);
      reached = led_reached t z.reached;
    }
    led (stop (ends (exited code)) t) z = led_ended (exited code) t z
    led (stop (ends (checked which place)) t) z = led_ended (checked which place) t z
    led (stop (ends (strayed place)) t) z = led_reached t z
    led (stop (ends (trapped pc)) t) z = z
    led (stop (ends going) t) z = record { pause = led_pause t z.pause; late = omega (arith, z.late, left) }
    led (stop back t) z = z

    pub sim_leads : (r : Res Leave State A) → Sim R j' b g act' s' h' r → Sim R j credit g act s h r
    sim_leads r z = record { by = led r z.by }

  -- ---- one after another
  pub told_as : (t t' : State) (h h' : Face) → Told t h → Told t' h → Told t h' → Told t' h'
  told_as t t' h h' p q r = record {
    logs = q.logs ∙ sym p.logs ∙ r.logs;
    input = q.input ∙ sym p.input ∙ r.input;
    taken = q.taken ∙ sym p.taken ∙ r.taken;
  }

  runs_lead : {B C : Type 0} (j : ℕ) (act : Fueled B) (next : B → Fueled C) (h h' : Face) (b x : ℕ) (w : B) → Runs j act h b x w h' → Leads j j (λ n. act n >>= (λ v. next v n)) (next w) h h' b x
  runs_lead {B} {C} j act next h h' b x w r = record {
    to = λ n k c f. record { fuel = n; enough = omega arith; is = ap (λ (q : CoreRes B). onto q (λ v. next v n)) (r.is n k c f) };
  }

  module _ {A B A' B' : Type 0} (R : A → State → B → Face → Type 0) (Q : A' → State → B' → Face → Type 0) (j b b' h0 g : ℕ) (act : Fueled B) (next : B → Fueled B') (s : State) (h : Face) where
    abbrev whole : Fueled B'
    whole = λ n. act n >>= (λ w. next w n)

    abbrev paused : (t : State) → Pause {B = B} j act h t → Pause {B = B'} j whole h t
    paused t z = record { face = z.face; budget = z.budget; cost = z.cost; is = λ n c e. ap (λ (q : CoreRes B). onto q (λ w. next w n)) (z.is n c e); told = z.told }

    ended : (e : End) (t : State) → Ended {B = B} j b act s h e t → Ended {B = B'} j (b + b') whole s h e t
    ended e t z = record { face = z.face; budget = z.budget; cost = z.cost; is = λ n k c f. ap (λ (q : CoreRes B). onto q (λ w. next w n)) (z.is n k c f); told = z.told; cheap = omega (arith, z.cheap) }

    reach : (t : State) → Reached {B = B} j act h t → Reached {B = B'} j whole h t
    reach t (inl z) = inl (paused t z)
    reach t (inr z) = inr z

    stopped : (why : Leave) (t : State) → Stops {B = B} j b act s h why t → Stops {B = B'} j (b + b') whole s h why t
    stopped (ends (exited code)) t z = ended (exited code) t z
    stopped (ends (checked which place)) t z = ended (checked which place) t z
    stopped (ends (strayed place)) t z = reach t z
    stopped (ends (trapped pc)) t z = z
    stopped (ends going) t z = record { pause = paused t z.pause; late = z.late }
    stopped back t z = z

    onward : (v : A) (t : State) (x : Came R j b h0 act s h v t) (t' : State) → Told t' x.face → Reached {B = B'} j whole h t'
    onward v t x t' z = elim x.reached [
      | inl p ↦ inl (record { face = p.face; budget = p.budget; cost = p.cost; is = (paused t p).is; told = told_as t t' x.face p.face x.told z p.told })
      | inr p ↦ inr (told_as t t' x.face h x.told z p)
    ]

    pub seq : (r : Res Leave State A) (f : A → Do A') → Sim R j b h0 act s h r →
        ((v : A) (t : State) (w : B) (h' : Face) → R v t w h' → Told t h' → t.left ≤ s.left → Sim Q j (b' + h0) g (next w) t h' (f v t)) →
        Sim Q j (b + b') g whole s h (then_by r f)
    seq (ok v t) f x k =
        let z = x.by in
        sim_leads Q j j (b + b') (b' + h0) g z.budget z.cost whole (next z.word) s t h z.face (runs_lead j act next h z.face z.budget z.cost z.word z.runs)
        z.turns z.fewer (omega (arith, z.cheap)) (λ t' q. onward v t z t' q) (f v t) (k v t z.word z.face z.holds z.told z.fewer)
    seq (stop why t) f x k = record { by = stopped why t x.by }

  -- ---- a value on both sides, reached by the core run alone
  pub sim_runs : {A B : Type 0} (R : A → State → B → Face → Type 0) (j credit spare : ℕ) (act : Fueled B) (s : State) (h h' : Face) (v : A) (b x : ℕ) (w : B) →
      Runs j act h b x w h' → Told s h → Told s h' → x + spare ≤ credit → R v s w h' → Sim R j credit spare act s h (ok v s)
  sim_runs R j credit spare act s h h' v b x w r before told paid holds = record {
    by = record { word = w; face = h'; budget = b; cost = x; runs = r; holds = holds; told = told; cheap = omega arith; turns = omega arith; fewer = omega arith; reached = inr before };
  }

  -- ---- what changes the shape only
  stays_told : (h h' : Face) → h'.log ≡ h.log → h'.input ≡ h.input → h'.taken ≡ h.taken → (t : State) → Told t h' → Told t h
  stays_told h h' p q r t z = record { logs = z.logs ∙ p; input = z.input ∙ q; taken = z.taken ∙ r }

  -- the core run alone first, which changes memory only
  module _ {A B C : Type 0} (Q : A → State → C → Face → Type 0) (j credit b g : ℕ) (act : Fueled B) (next : B → Fueled C) (s : State) (h h' : Face) (same_log : h'.log ≡ h.log) (same_input : h'.input ≡ h.input) (same_taken : h'.taken ≡ h.taken) where
    pub sim_first : (r : Res Leave State A) (y x : ℕ) (w : B) → Runs j act h y x w h' → x + b ≤ credit → Sim Q j b g (next w) s h' r → Sim Q j credit g (λ n. act n >>= (λ v. next v n)) s h r
    sim_first r y x w run paid sim =
        sim_leads Q j j credit b g y x (λ n. act n >>= (λ v. next v n)) (next w) s s h h' (runs_lead j act next h h' y x w run) (omega arith) (omega arith) (omega arith)
        (λ t z. inr (stays_told h h' same_log same_input same_taken t z)) r sim

  -- another action that does the same
  pub sim_act : {A B : Type 0} (R : A → State → B → Face → Type 0) (j b g : ℕ) (act act' : Fueled B) → ((n : ℕ) (c : CoreState) → act' n c ≡ act n c) → (s : State) (h : Face) (r : Res Leave State A) → Sim R j b g act s h r → Sim R j b g act' s h r
  sim_act R j b g act act' same s h r z =
      sim_leads R j j b b g 0 0 act' act s s h h (record { to = λ n k c f. record { fuel = n; enough = omega arith; is = same n (at h (k + 0) c) ∙ ap (λ (q : ℕ). act n (at h q c)) (add-zero k) ∙ ap (λ (q : ℕ). act n (at h k q)) (sym (add-zero c)) } })
      (omega arith) (omega arith) (omega arith) (λ t q. inr q) r z

  -- from a state of the source that cost more; its memory and the next serial number may differ
  pub sim_later : {A B : Type 0} (R : A → State → B → Face → Type 0) (j b g k : ℕ) (act : Fueled B) (s u : State) (h : Face) → u.left ≡ s.left → s.cost + k ≤ u.cost → (r : Res Leave State A) → Sim R j (b + rate * k) g act u h r → Sim R j b g act s h r
  sim_later R j b g k act s u h left cost r z =
      sim_leads R j j b (b + rate * k) g 0 0 act act s u h h (record { to = λ n k c f. record { fuel = n; enough = omega arith; is = ap (λ (q : ℕ). act n (at h q c)) (add-zero k) ∙ ap (λ (q : ℕ). act n (at h k q)) (sym (add-zero c)) } })
      (omega (arith, left)) (omega (arith, left)) (omega (arith, cost)) (λ t q. inr q) r z

  pub sim_richer : {A B : Type 0} (R : A → State → B → Face → Type 0) (j b b' g : ℕ) (act : Fueled B) (s : State) (h : Face) (r : Res Leave State A) → b ≤ b' → Sim R j b g act s h r → Sim R j b' g act s h r
  sim_richer R j b b' g act s h r le z =
      sim_leads R j j b' b g 0 0 act act s s h h (record { to = λ n k c f. record { fuel = n; enough = omega arith; is = ap (λ (q : ℕ). act n (at h q c)) (add-zero k) ∙ ap (λ (q : ℕ). act n (at h k q)) (sym (add-zero c)) } })
      (omega arith) (omega arith) (omega arith) (λ t q. inr q) r z

  -- ---- turns: the source takes one where the core run uses one of its bound
  pub sim_turn : {A B : Type 0} (R : A → State → B → Face → Type 0) (j j' b b' g y x : ℕ) (act act' : Fueled B) (s : State) (h : Face) (f : Do A) → Told s h →
      ((n c : ℕ) → j ≤ n → act n (at h 0 c) ≡ halt going (at h 0 c)) → Leads j j' act act' h h y x → 1 ≤ y → x + b' ≤ b + rate →
      ((left : ℕ) → s.left ≡ suc left → (let u : State = record s { left = left; cost = s.cost + 1 } in Sim R j' b' g act' u h (f u))) →
      Sim R j b g act s h (turn f s)
  sim_turn {A} {B} R j j' b b' g y x act act' s h f told stands leads one cheap k = by s.left refl
    where
      by : (left : ℕ) → s.left ≡ left → Sim R j b g act s h (then_by (turn_from left s) (λ _. f))
      by zero e = record {
        by = record {
          pause = record { face = h; budget = 0; cost = 0; is = λ n c le. stands n c (omega arith) ∙ halt_as going h 0 _ _ (sym (add-zero c)); told = told };
          late = omega (arith, e);
        };
      }
      by (suc left) e =
          let u : State = record s { left = left; cost = s.cost + 1 } in
          sim_leads R j j' b b' g y x act act' s u h h leads (omega (arith, e)) (omega (arith, e)) (omega arith) (λ t q. inr q) (f u) (k left e)

  -- no turn is left, and the source knows
  pub sim_out : {A B : Type 0} (R : A → State → B → Face → Type 0) (j b g : ℕ) (act : Fueled B) (s : State) (h : Face) → Told s h → ((n c : ℕ) → j ≤ n → act n (at h 0 c) ≡ halt going (at h 0 c)) → s.left ≤ 0 → Sim R j b g act s h (stop (ends going) s)
  sim_out R j b g act s h told stands none = record {
    by = record {
      pause = record { face = h; budget = 0; cost = 0; is = λ n c le. stands n c (omega arith) ∙ halt_as going h 0 _ _ (sym (add-zero c)); told = told };
      late = none;
    };
  }

  -- ---- a weaker relation, and the core run alone behind
  pub sim_weaker : {A B : Type 0} (R Q : A → State → B → Face → Type 0) (j b g : ℕ) (act : Fueled B) (s : State) (h : Face) (r : Res Leave State A) →
      ((v : A) (t : State) (w : B) (h' : Face) → R v t w h' → Q v t w h') → Sim R j b g act s h r → Sim Q j b g act s h r
  sim_weaker R Q j b g act s h (ok v t) f x = record {
    by = record {
      word = x.by.word;
      face = x.by.face;
      budget = x.by.budget;
      cost = x.by.cost;
      runs = x.by.runs;
      holds = f v t x.by.word x.by.face x.by.holds;
      told = x.by.told;
      cheap = x.by.cheap;
      turns = x.by.turns;
      fewer = x.by.fewer;
      reached = x.by.reached;
    };
  }
  sim_weaker R Q j b g act s h (stop why t) f x = record { by = x.by }

  same_result : {A : Type 0} (r : Res Leave State A) → then_by r (λ v. (λ t. ok v t)) ≡ r
  same_result (ok v t) = refl
  same_result (stop why t) = refl

  -- the core run alone behind, which leaves the world outside as it is
  pub record Behind {A C : Type 0} (Q : A → State → C → Face → Type 0) (j cost : ℕ) (next : Fueled C) (v : A) (t : State) (h : Face) : Type 0 where
    pub word : C
    pub face : Face
    pub budget : ℕ
    pub runs : Runs j next h budget cost word face
    pub told : Told t h → Told t face
    pub holds : Q v t word face

  pub sim_behind : {A B C : Type 0} (R : A → State → B → Face → Type 0) (Q : A → State → C → Face → Type 0) (j b cost g : ℕ) (act : Fueled B) (next : B → Fueled C) (s : State) (h : Face) (r : Res Leave State A) →
      Sim R j b g act s h r → ((v : A) (t : State) (w : B) (h' : Face) → R v t w h' → Behind Q j cost (next w) v t h') → Sim Q j (b + cost) g (λ n. act n >>= (λ v. next v n)) s h r
  sim_behind {A} R Q j b cost g act next s h r sim f =
      let P : Res Leave State A → Type 0 = λ q. Sim Q j (b + cost) g (λ n. act n >>= (λ v. next v n)) s h q in
      subst P (same_result r) (seq R Q j b cost g g act next s h r (λ v. (λ t. ok v t)) sim
      (λ v t w h' holds told fewer.
      let x = f v t w h' holds in
      sim_runs Q j (cost + g) g (next w) t h' x.face v x.budget cost x.word x.runs told (x.told told) (omega arith) x.holds))

  -- a source value made of another
  pub sim_map : {A A' B : Type 0} (R : A → State → B → Face → Type 0) (Q : A' → State → B → Face → Type 0) (j b g : ℕ) (act : Fueled B) (s : State) (h : Face) (r : Res Leave State A) (f : A → A') →
      ((v : A) (t : State) (w : B) (h' : Face) → R v t w h' → Q (f v) t w h') → Sim R j b g act s h r → Sim Q j b g act s h (then_by r (λ v. (λ t. ok (f v) t)))
  sim_map R Q j b g act s h (ok v t) f k x = record {
    by = record {
      word = x.by.word;
      face = x.by.face;
      budget = x.by.budget;
      cost = x.by.cost;
      runs = x.by.runs;
      holds = k v t x.by.word x.by.face x.by.holds;
      told = x.by.told;
      cheap = x.by.cheap;
      turns = x.by.turns;
      fewer = x.by.fewer;
      reached = x.by.reached;
    };
  }
  sim_map R Q j b g act s h (stop why t) f k x = record { by = x.by }

  -- parts in a row, bracketed otherwise
  pub onto_onto : {A B C : Type 0} (r : CoreRes A) (f : A → CoreAct B) (g : B → CoreAct C) → onto (onto r f) g ≡ onto r (λ v t. onto (f v t) g)
  onto_onto (fine v t) f g = refl
  onto_onto (halt e t) f g = refl

  pub then_then : {A B C : Type 0} (r : Res Leave State A) (f : A → Do B) (g : B → Do C) → then_by (then_by r f) g ≡ then_by r (λ v t. then_by (f v t) g)
  then_then (ok v t) f g = refl
  then_then (stop e t) f g = refl

  -- a result written otherwise
  pub sim_result : {A B : Type 0} {R : A → State → B → Face → Type 0} {j b g : ℕ} {act : Fueled B} {s : State} {h : Face} {r r' : Res Leave State A} → r ≡ r' → Sim R j b g act s h r' → Sim R j b g act s h r
  sim_result {A} {B} {R} {j} {b} {g} {act} {s} {h} {r} {r'} e x = let P : Res Leave State A → Type 0 = λ q. Sim R j b g act s h q in subst P (sym e) x
