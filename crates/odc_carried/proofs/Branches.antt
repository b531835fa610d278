-- One operand, and operands that are evaluated only where they are needed.
use Rattle.std.proofs.Common.{◌≡◌, ℕ, ◌+◌, ◌*◌, ◌^◌, ◌<◌, ◌≤◌, ◌⊎◌, inl, inr, Bool, true, false, arith, ap, ◌∙◌, sym, subst, refl, lit≤}
use Rattle.std.specs.Prelude.{◌==◌, if◌then◌else◌}
use Rattle.odc_text.specs.declared.place.Place.{Place}
use Rattle.odc_text.specs.Run.{strayed}
use Rattle.rv_table.specs.Words.{flag}
use Rattle.odc_program.specs.States.Bytes.{Value, truth_bytes}
use Rattle.odc_program.specs.States.Run.{Res, ok, stop, then_by}
use Rattle.odc_program.specs.States.State.{State, Leave, ends, Do, Base}
use Rattle.odc_program.specs.Kinds.Places.{read_truth}
use Rattle.odc_core.specs.Tree.{Expr as CoreExpr, const as word, choose as branch, Stmts, finish, follow}
use Rattle.odc_core.specs.Run.{Flow, falls, after, pure, spend, ◌>>=◌}
use Rattle.odc_carried.specs.Code.{join, one, waits, wait}
use Rattle.odc_carried.specs.Tied.{Site, o}
use Rattle.odc_carried.proofs.Runs.{Face, runs_pure, runs_spend}
use Rattle.odc_carried.proofs.Sims.{rate, Sim, seq, sim_runs, sim_first, sim_behind, sim_later, sim_richer, sim_result, then_then}
use Rattle.odc_carried.proofs.Ties.{Facts}
use Rattle.odc_carried.proofs.Frame.{WordAt, ev, ex1, ex}
use Rattle.odc_carried.proofs.Quiet.{Quiet, quiet_const, quiet_as, flag_small, costing, IsTruth}
use Rattle.odc_carried.proofs.Loud.{assoc4}
use Rattle.odc_carried.proofs.Codes.{join_assoc, Ready, Alike, alike_same, alike_on, ready_cost, waited, slot, waited_ready, waited_alike, waited_there, quiet_waits, step_wait, rejoin, Codes}

-- what an operator makes of one operand
pub record One (S : Site) (Is' : Value → ℕ → Type 0) (code : CoreExpr → CoreExpr) (q : ℕ) (w : ℕ) (u : State) (r : Res Leave State Value) : Type 0 where
  pub res : Value
  pub fw : ℕ
  pub is : r ≡ ok res u
  pub good : Is' res fw
  pub quiet : (x : CoreExpr) (h : Face) (L : ℕ) → Quiet S x h w L → Quiet S (code x) h fw (L + q)

pub record Lost (u : State) (r : Res Leave State Value) : Type 0 where
  pub place : Place
  pub is : r ≡ stop (ends (strayed place)) u

module _ (S : Site) (F : Facts S) where
  pub unary_codes : (Is Is' : Value → ℕ → Type 0) (code : CoreExpr → CoreExpr) (q : ℕ) → q ≤ 4 → (m m1 : Do Value) (K : Value → Do Value) → ((s : State) → m s ≡ then_by (m1 (costing s (s.cost + 1))) K) →
      ((v : Value) (w : ℕ) (u : State) → Is v w → One S Is' code q w u (K v u) ⊎ Lost u (K v u)) → (a : Stmts) (x : CoreExpr) (d : ℕ) → Codes S F Is a x d m1 → Codes S F Is' a (code x) d m
  unary_codes Is Is' code q fits m m1 K is gives a x d inner = record {
    by = λ tail Q j b g s h f ready k.
        let s1 : State = costing s (s.cost + 1) in
        sim_result S.entries (ap (λ (r : Res Leave State Value). then_by r f) (is s) ∙ then_then S.entries (m1 s1) K f)
        (sim_later S.entries Q j b g 1 (ex S (join a tail)) s s1 h refl (omega arith) (then_by (m1 s1) (λ v. (λ t. then_by (K v t) f)))
        (inner.by tail Q j (b + rate * 1) g s1 h (λ v. (λ t. then_by (K v t) f)) (ready_cost S F s h (s.cost + 1) ready)
        (λ v t w L h' holds qx ready' alike fewer.
        elim (gives v w t holds) [
          | inl y ↦ sim_result S.entries (ap (λ (r : Res Leave State Value). then_by r f) y.is)
              (sim_richer S.entries Q j (b + (L + q + 8)) (b + rate * 1 + (L + 8)) g (ex S tail) t h' (f y.res t) (omega arith)
              (k y.res t y.fw (L + q) h' y.good (y.quiet x h' L qx) ready' alike fewer))
          | inr y ↦ sim_result S.entries (ap (λ (r : Res Leave State Value). then_by r f) y.is) (record { by = inr ready'.told })
        ])));
  }

  -- ---- a choice, and the tick of its node
  module _ {A : Type 0} (R : A → State → Flow → Face → Type 0) (j b g : ℕ) (e : CoreExpr) (first second : Stmts) (s : State) (h : Face) (w L : ℕ) (q : Quiet S e h w L) where
    pub branch_sim : (r : Res Leave State A) → Sim S.entries R j b g (λ n. if w == 0 then ex S second n else ex S first n) s h r → Sim S.entries R j (b + L + 1) g (ex1 S (branch e first second)) s h r
    branch_sim r sim =
        sim_behind S.entries R R j (b + L) 1 g (λ n. ev S e n >>= (λ v. if v == 0 then ex S second n else ex S first n)) (λ flow n. spend (pure flow)) s h r
        (sim_first S.entries R j (b + L) b g (ev S e) (λ v n. if v == 0 then ex S second n else ex S first n) s h h refl refl refl r q.budget q.cost w (q.runs j) (omega (arith, q.cheap)) sim)
        (λ v t flow h' holds. record { word = flow; face = h'; budget = 1; runs = runs_spend (λ n. pure flow) (runs_pure j flow h'); told = λ x. x; holds = holds })

    -- which one is taken
    pub branch_true : (r : Res Leave State A) → (w == 0) ≡ false → Sim S.entries R j b g (ex S first) s h r → Sim S.entries R j (b + L + 1) g (ex1 S (branch e first second)) s h r
    branch_true r z sim = let P : Bool → Type 0 = λ t. Sim S.entries R j b g (λ n. if t then ex S second n else ex S first n) s h r in branch_sim r (subst P (sym z) sim)

    pub branch_false : (r : Res Leave State A) → (w == 0) ≡ true → Sim S.entries R j b g (ex S second) s h r → Sim S.entries R j (b + L + 1) g (ex1 S (branch e first second)) s h r
    branch_false r z sim = let P : Bool → Type 0 = λ t. Sim S.entries R j b g (λ n. if t then ex S second n else ex S first n) s h r in branch_sim r (subst P (sym z) sim)

  -- ---- the right operand only where it is needed
  -- a truth value waits
  pub record Held (d : ℕ) (h0 : Face) (v : Value) (t : State) (flow : Flow) (h : Face) : Type 0 where
    pub word : ℕ
    pub truth : IsTruth v word
    pub small : word < 2 ^ 64
    pub falls : flow ≡ falls
    pub there : WordAt h.memory (slot S F d) word
    pub ready : Ready S F t h
    pub alike : Alike S F d h0 h

  read_back : (at : Place) (b : Bool) (t : State) → read_truth at (truth_bytes b) t ≡ ok b t
  read_back at true t = refl
  read_back at false t = refl

  module _ (at : Place) (G : Value → Do Base) (H : Base → Do Value) (read : (b : Bool) (u : State) → then_by (then_by (let r : Res Leave State Value = ok (truth_bytes b) u in r) G) H ≡ ok (truth_bytes b) u)
      (m m1 m2 : Do Value) (a b2 : Stmts) (x y : CoreExpr) (d : ℕ) (inside : d < (o S).waiting) (left : Codes S F IsTruth a x d m1) (right : Codes S F IsTruth b2 y (d + 1) m2) where
    -- the right operand's value comes to wait
    right_block : (j : ℕ) (h0 : Face) (t : State) (h : Face) → Ready S F t h → Alike S F d h0 h → Sim S.entries (Held d h0) j 8 0 (ex S (join b2 (one (wait (o S) d y)))) t h (then_by (then_by (m2 t) G) H)
    right_block j h0 t h ready alike =
        sim_result S.entries (then_then S.entries (m2 t) G H)
        (sim_richer S.entries (Held d h0) j 0 8 0 (ex S (join b2 (one (wait (o S) d y)))) t h (then_by (m2 t) (λ w. (λ t1. then_by (G w t1) H))) (omega arith)
        (right.by (one (wait (o S) d y)) (Held d h0) j 0 0 t h (λ w. (λ t1. then_by (G w t1) H)) ready
        (λ w t' k M h' isw qy ready' alike' fewer'.
        let h1 : Face = waited S F d k h' in
        sim_result S.entries (ap (λ (v : Value). then_by (then_by (let r : Res Leave State Value = ok v t' in r) G) H) isw.value ∙ read isw.b t' ∙ ap (λ (v : Value). let r : Res Leave State Value = ok v t' in r) (sym isw.value))
        (sim_richer S.entries (Held d h0) j (0 + (M + 3)) (0 + (M + 8)) 0 (ex S (one (wait (o S) d y))) t' h' (ok w t') (omega arith)
        (step_wait S F (Held d h0) j 0 0 d k M y finish t' h' (ok w t') inside qy
        (sim_runs S.entries (Held d h0) j 0 0 (ex S finish) t' h1 h1 w 0 0 falls (runs_pure j falls h1) (waited_ready S F d k inside t' h' ready').told (waited_ready S F d k inside t' h' ready').told (lit≤ tt)
        (record {
          word = k;
          truth = isw;
          small = qy.small;
          falls = refl;
          there = waited_there S F d k inside t' h' ready';
          ready = waited_ready S F d k inside t' h' ready';
          alike = alike_on S F d d h0 h h1 (omega arith) alike (alike_on S F d d h h' h1 (omega arith) (alike_on S F d (d + 1) h h h' (omega arith) (alike_same S F d h) alike') (waited_alike S F d k inside t' h' ready'));
        })))))))

    -- a constant comes to wait
    other_block : (c : Bool) (j : ℕ) (h0 : Face) (t : State) (h : Face) → Ready S F t h → Alike S F d h0 h → Sim S.entries (Held d h0) j 8 0 (ex S (one (wait (o S) d (word (flag c))))) t h (then_by (then_by (let r : Res Leave State Value = ok (truth_bytes c) t in r) G) H)
    other_block c j h0 t h ready alike =
        let h1 : Face = waited S F d (flag c) h in
        sim_result S.entries (read c t)
        (sim_richer S.entries (Held d h0) j (0 + (1 + 3)) 8 0 (ex S (one (wait (o S) d (word (flag c))))) t h (ok (truth_bytes c) t) (lit≤ tt)
        (step_wait S F (Held d h0) j 0 0 d (flag c) 1 (word (flag c)) finish t h (ok (truth_bytes c) t) inside (quiet_const S (flag c) h (flag_small c))
        (sim_runs S.entries (Held d h0) j 0 0 (ex S finish) t h1 h1 (truth_bytes c) 0 0 falls (runs_pure j falls h1) (waited_ready S F d (flag c) inside t h ready).told (waited_ready S F d (flag c) inside t h ready).told (lit≤ tt)
        (record {
          word = flag c;
          truth = record { b = c; value = refl; word = refl };
          small = flag_small c;
          falls = refl;
          there = waited_there S F d (flag c) inside t h ready;
          ready = waited_ready S F d (flag c) inside t h ready;
          alike = alike_on S F d d h0 h h1 (omega arith) alike (waited_alike S F d (flag c) inside t h ready);
        }))))

    -- behind the left operand: a choice that leaves a value waiting
    module _ (first second : Stmts) (choice : Bool → Do Value)
        (is : (s : State) → m s ≡ then_by (then_by (then_by (m1 (costing s (s.cost + 1))) (λ v. (λ t. then_by (read_truth at v t) choice))) G) H)
        (on : (j : ℕ) (h0 : Face) (t : State) (h : Face) → Ready S F t h → Alike S F d h0 h → Sim S.entries (Held d h0) j 8 0 (ex S first) t h (then_by (then_by (choice true t) G) H))
        (off : (j : ℕ) (h0 : Face) (t : State) (h : Face) → Ready S F t h → Alike S F d h0 h → Sim S.entries (Held d h0) j 8 0 (ex S second) t h (then_by (then_by (choice false t) G) H)) where
      chosen : (c : Bool) (j : ℕ) (h0 : Face) (t : State) (h : Face) (L : ℕ) → Quiet S x h (flag c) L → Ready S F t h → Alike S F d h0 h → Sim S.entries (Held d h0) j (8 + L + 1) 0 (ex1 S (branch x first second)) t h (then_by (then_by (choice c t) G) H)
      chosen true j h0 t h L q ready alike = branch_true (Held d h0) j 8 0 x first second t h 1 L q (then_by (then_by (choice true t) G) H) refl (on j h0 t h ready alike)
      chosen false j h0 t h L q ready alike = branch_false (Held d h0) j 8 0 x first second t h 0 L q (then_by (then_by (choice false t) G) H) refl (off j h0 t h ready alike)

      pub choice_codes : Codes S F IsTruth (join a (one (branch x first second))) (waits (o S) d) d m
      choice_codes = record {
        by = λ tail Q j b g s h f ready k.
            let s1 : State = costing s (s.cost + 1) in
            let rest : Stmts = follow (branch x first second) tail in
            let body : Value → Do _ = λ v. (λ t. then_by (then_by (then_by (then_by (read_truth at v t) choice) G) H) f) in
            rejoin S F Q j b g (join (join a (one (branch x first second))) tail) (join a rest) s h (then_by (m s) f) (join_assoc a (one (branch x first second)) tail)
            (sim_result S.entries (ap (λ (q : Res Leave State Value). then_by q f) (is s) ∙ assoc4 (m1 s1) (λ v. (λ t. then_by (read_truth at v t) choice)) G H f)
            (sim_later S.entries Q j b g 1 (ex S (join a rest)) s s1 h refl (omega arith) (then_by (m1 s1) body)
            (left.by rest Q j (b + rate * 1) g s1 h body (ready_cost S F s h (s.cost + 1) ready)
            (λ v t w L h' isv qx ready' alike fewer.
            let c : Bool = isv.b in
            sim_result S.entries
            (ap (λ (z : Value). then_by (then_by (then_by (then_by (read_truth at z t) choice) G) H) f) isv.value ∙ ap (λ (r : Res Leave State Bool). then_by (then_by (then_by (then_by r choice) G) H) f) (read_back at c t))
            (sim_richer S.entries Q j (8 + L + 1 + (b + 39)) (b + rate * 1 + (L + 8)) g (ex S rest) t h' (then_by (then_by (then_by (choice c t) G) H) f) (omega arith)
            (seq S.entries (Held d h) Q j (8 + L + 1) (b + 39) 0 g (ex1 S (branch x first second)) (λ flow n. after flow (ex S tail n)) t h' (then_by (then_by (choice c t) G) H) f
            (chosen c j h t h' L (quiet_as S x h' w (flag c) L isv.word qx) ready' alike)
            (λ z t' flow h'' y told fewer'.
            let P : Flow → Type 0 = λ fl. Sim S.entries Q j (b + 39 + 0) g (λ n. after fl (ex S tail n)) t' h'' (f z t') in
            subst P (sym y.falls)
            (sim_richer S.entries Q j (b + (3 + 8)) (b + 39 + 0) g (ex S tail) t' h'' (f z t') (omega arith)
            (k z t' y.word 3 h'' y.truth (quiet_waits S F d y.word h'' inside y.small y.there) y.ready y.alike (omega (arith, fewer, fewer')))))))))));
      }

    pub both_codes : ((s : State) → m s ≡ then_by (then_by (then_by (m1 (costing s (s.cost + 1))) (λ v. (λ t. then_by (read_truth at v t) (λ c. if c then m2 else (λ u. ok (truth_bytes false) u))))) G) H) →
        Codes S F IsTruth (join a (one (branch x (join b2 (one (wait (o S) d y))) (one (wait (o S) d (word 0)))))) (waits (o S) d) d m
    both_codes is = choice_codes (join b2 (one (wait (o S) d y))) (one (wait (o S) d (word 0))) (λ c. if c then m2 else (λ u. ok (truth_bytes false) u)) is right_block (other_block false)

    pub either_codes : ((s : State) → m s ≡ then_by (then_by (then_by (m1 (costing s (s.cost + 1))) (λ v. (λ t. then_by (read_truth at v t) (λ c. if c then (λ u. ok (truth_bytes true) u) else m2)))) G) H) →
        Codes S F IsTruth (join a (one (branch x (one (wait (o S) d (word 1))) (join b2 (one (wait (o S) d y)))))) (waits (o S) d) d m
    either_codes is = choice_codes (one (wait (o S) d (word 1))) (join b2 (one (wait (o S) d y))) (λ c. if c then (λ u. ok (truth_bytes true) u) else m2) is (other_block true) right_block
