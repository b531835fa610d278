-- Parts of code that end with a value: what runs before, and the expression that then gives the value, do what the source
-- does, whatever comes behind.
use Rattle.std.proofs.Common.{◌≡◌, ℕ, ◌+◌, ◌*◌, ◌^◌, ◌<◌, ◌≤◌, ◌⊎◌, inl, inr, arith, ap, ◌∙◌, sym, subst, refl, lit≤}
use Rattle.std.specs.Prelude.{Option, Some, None}
use Rattle.odc_text.specs.declared.place.Place.{Place}
use Rattle.odc_program.specs.States.Bytes.{Value}
use Rattle.odc_program.specs.States.Run.{Res, then_by}
use Rattle.odc_program.specs.States.State.{State, Leave, Do, known}
use Rattle.odc_core.specs.Tree.{Expr as CoreExpr, Stmts, finish, follow}
use Rattle.odc_core.specs.Words.{bytes_of}
use Rattle.odc_core.specs.Memory.{put}
use Rattle.odc_core.specs.Run.{Flow, falls, after}
use Rattle.odc_carried.specs.Code.{join, waits, wait, wait_at, wait_offset, wait_variable}
use Rattle.odc_carried.specs.Tied.{Tied, Site, o}
use Rattle.odc_carried.proofs.Runs.{Face, with_memory, Fueled}
use Rattle.odc_carried.proofs.Sims.{rate, Told, Sim, sim_first, sim_later, sim_richer, sim_result}
use Rattle.odc_carried.proofs.Ties.{Facts, Now, now_alike, block}
use Rattle.odc_carried.proofs.Frame.{WordAt, put_word, put_away, word_apart, wait_found, ex1, ex, r_set}
use Rattle.odc_carried.proofs.Quiet.{Quiet, quiet_held, costing, Evaluated}

-- ---- lists of statements
pub join_assoc : (a b c : Stmts) → join (join a b) c ≡ join a (join b c)
join_assoc finish b c = refl
join_assoc (follow s a) b c = ap (follow s) (join_assoc a b c)

module _ (S : Site) (F : Facts S) where
  -- what holds at every point of a body
  pub record Ready (s : State) (h : Face) : Type 0 where
    pub now : Now S s.memory s.serial h.memory
    pub newer : S.serial < s.serial
    pub few : s.left ≤ S.fuel
    pub told : Told S.entries s h
    -- the result has begun
    pub answer : S.proc.results ≡ 1 → s.memory.size (block S S.proc.parameters) ≡ Some 8

  -- the variables, the values that wait below a depth, and what lies above the frame
  abbrev pub Zone : ℕ → ℕ → Type 0
  Zone d i = ((S.low ≤ i) × (i < S.low + wait_offset (o S).low d)) ⊎ (S.low + S.proc.frame ≤ i)

  pub record Alike (d : ℕ) (h h' : Face) : Type 0 where
    pub by : (i : ℕ) → Zone d i → h'.memory i ≡ h.memory i

  pub alike_same : (d : ℕ) (h : Face) → Alike d h h
  alike_same d h = record { by = λ i z. refl }

  pub alike_on : (d d' : ℕ) (h h' h'' : Face) → d ≤ d' → Alike d h h' → Alike d' h' h'' → Alike d h h''
  alike_on d d' h h' h'' le p q = record { by = λ i z. q.by i (elim z [ inl a ↦ inl (a.0, omega (arith, a.1)) | inr a ↦ inr a ]) ∙ p.by i z }

  -- at a greater cost
  pub ready_cost : (s : State) (h : Face) (k : ℕ) → Ready s h → Ready (costing s k) h
  ready_cost s h k r = record { now = record { tied = record { byte = r.now.tied.byte; sane = r.now.tied.sane }; since = r.now.since; kept = r.now.kept; fresh = r.now.fresh }; newer = r.newer; few = r.few; told = record { logs = r.told.logs; input = r.told.input; taken = r.told.taken }; answer = r.answer }

  -- ---- a value that waits
  abbrev pub slot : ℕ → ℕ
  slot d = S.low + wait_offset (o S).low d

  abbrev pub waited : ℕ → ℕ → Face → Face
  waited d w h = with_memory h (put h.memory (slot d) (bytes_of 8 w))

  module _ (d w : ℕ) (inside : d < (o S).waiting) (s : State) (h : Face) (ready : Ready s h) where
    pub waited_ready : Ready s (waited d w h)
    waited_ready = record {
      now = now_alike S F s.memory s.serial h.memory (put h.memory (slot d) (bytes_of 8 w))
          (λ i zone. put_away h.memory (slot d) w i (elim zone [ inl a ↦ inl (omega (arith, a.1)) | inr a ↦ inr (omega (arith, F.room)) ])) ready.now;
      newer = ready.newer;
      few = ready.few;
      told = record { logs = ready.told.logs; input = ready.told.input; taken = ready.told.taken };
      answer = ready.answer;
    }

    pub waited_alike : Alike d h (waited d w h)
    waited_alike = record { by = λ i zone. put_away h.memory (slot d) w i (elim zone [ inl a ↦ inl (omega (arith, a.1)) | inr a ↦ inr (omega (arith, F.room)) ]) }

    pub waited_there : WordAt (waited d w h).memory (slot d) w
    waited_there = put_word h.memory (slot d) w

  pub quiet_waits : (d w : ℕ) (h : Face) → d < (o S).waiting → w < 2 ^ 64 → WordAt h.memory (slot d) w → Quiet S (waits (o S) d) h w 3
  quiet_waits d w h inside small there = quiet_held S (wait_at (o S) d) (wait_variable (o S).low d) w h (wait_found S d inside) (lit≤ tt) small there

  -- it is there still
  pub still_waits : (d d' w : ℕ) (h h' : Face) → d < d' → Alike d' h h' → WordAt h.memory (slot d) w → WordAt h'.memory (slot d) w
  still_waits d d' w h h' less alike there = word_apart h.memory h'.memory (slot d) w (λ i from to. alike.by i (inl (omega arith, omega arith))) there

  module _ {A : Type 0} (Q : A → State → Flow → Face → Type 0) (j b g : ℕ) where
    pub step_wait : (d w L : ℕ) (e : CoreExpr) (tail : Stmts) (s : State) (h : Face) (r : Res Leave State A) → d < (o S).waiting → Quiet S e h w L →
        Sim S.entries Q j b g (ex S tail) s (waited d w h) r → Sim S.entries Q j (b + (L + 3)) g (ex S (follow (wait (o S) d e) tail)) s h r
    step_wait d w L e tail s h r inside q sim =
        sim_first S.entries Q j (b + (L + 3)) b g (ex1 S (wait (o S) d e)) (λ flow n. after flow (ex S tail n)) s h (waited d w h) refl refl refl r (q.budget + 2) (q.cost + 3) falls
        (r_set S j (wait_at (o S) d) (wait_variable (o S).low d) e (wait_found S d inside) (lit≤ tt) (q.runs j)) (omega (arith, q.cheap)) sim

    -- a list of statements bracketed otherwise
    pub rejoin : (a c : Stmts) (s : State) (h : Face) (r : Res Leave State A) → a ≡ c → Sim S.entries Q j b g (ex S c) s h r → Sim S.entries Q j b g (ex S a) s h r
    rejoin a c s h r e x = let P : Stmts → Type 0 = λ y. Sim S.entries Q j b g (ex S y) s h r in subst P (sym e) x

    -- where the source gives a value and changes nothing
    pub step_eval : {Is : Value → ℕ → Type 0} {code : CoreExpr} (act : Fueled Flow) (s : State) (h : Face) (r : Res Leave State Value) (f : Value → Do A) → Told S.entries s h → Evaluated S Is code s h r →
        ((v : Value) (w cost paid : ℕ) → s.cost + paid ≤ cost → 1 ≤ paid → Is v w → Quiet S code h w (2 * paid) → Sim S.entries Q j (b + rate * paid) g act (costing s cost) h (f v (costing s cost))) →
        Sim S.entries Q j b g act s h (then_by r f)
    step_eval act s h r f told (inl x) k =
        sim_result S.entries (ap (λ (q : Res Leave State Value). then_by q f) x.is)
        (sim_later S.entries Q j b g x.paid act s (costing s x.cost) h refl x.enough (f x.value (costing s x.cost)) (k x.value x.word x.cost x.paid x.enough x.some x.holds x.quiet))
    step_eval act s h r f told (inr x) k = sim_result S.entries (ap (λ (q : Res Leave State Value). then_by q f) x.is) (record { by = inr (record { logs = told.logs; input = told.input; taken = told.taken }) })

    -- where something may be missing
    pub step_known : {X : Type 0} (act : Fueled Flow) (at : Place) (a : Option X) (s : State) (h : Face) (f : X → Do A) → Told S.entries s h → ((x : X) → a ≡ Some x → Sim S.entries Q j b g act s h (f x s)) → Sim S.entries Q j b g act s h (then_by (known at a s) f)
    step_known {X} act at a s h f told k = by a refl
      where
        by : (q : Option X) → a ≡ q → Sim S.entries Q j b g act s h (then_by (known at q s) f)
        by (Some x) e = k x e
        by None e = record { by = inr told }

  -- ---- code that ends with a value
  pub record Codes (Is : Value → ℕ → Type 0) (before : Stmts) (value : CoreExpr) (d : ℕ) (m : Do Value) : Type 1 where
    pub by : {A : Type 0} (tail : Stmts) (Q : A → State → Flow → Face → Type 0) (j b g : ℕ) (s : State) (h : Face) (f : Value → Do A) → Ready s h →
        ((v : Value) (t : State) (w L : ℕ) (h' : Face) → Is v w → Quiet S value h' w L → Ready t h' → Alike d h h' → t.left ≤ s.left → Sim S.entries Q j (b + (L + 8)) g (ex S tail) t h' (f v t)) →
        Sim S.entries Q j b g (ex S (join before tail)) s h (then_by (m s) f)

  pub codes_quiet : (Is : Value → ℕ → Type 0) (value : CoreExpr) (d : ℕ) (m : Do Value) → ((s : State) (h : Face) → Tied S.entries s.memory h.memory → Evaluated S Is value s h (m s)) → Codes Is finish value d m
  codes_quiet Is value d m quiet = record {
    by = λ tail Q j b g s h f ready k.
        step_eval Q j b g (ex S tail) s h (m s) f ready.told (quiet s h ready.now.tied)
        (λ v w cost paid enough some holds q.
        sim_richer S.entries Q j (b + (2 * paid + 8)) (b + rate * paid) g (ex S tail) (costing s cost) h (f v (costing s cost)) (omega arith)
        (k v (costing s cost) w (2 * paid) h holds q (ready_cost s h cost ready) (alike_same d h) (omega arith)));
  }
