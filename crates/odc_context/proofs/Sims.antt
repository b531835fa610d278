-- A part of the source run and a part of the core run that does the same: the relation of their
-- results, the logs, the cost against a credit, and the bound against the turns that were taken.
use Rattle.std.proofs.Common.{◌≡◌, ℕ, zero, suc, ◌+◌, ◌*◌, ◌≤◌, map, arith, ap, ◌∙◌, sym, subst, refl}
use Rattle.std.proofs.Math.Nat.{add-zero}
use Rattle.odc_text.specs.Run.{End, exited, checked, strayed, trapped, going, Entry, entry_by, Log}
use Rattle.odc_typed.specs.Bytes.{Address}
use Rattle.odc_typed.specs.Place.{number_at}
use Rattle.odc_typed.specs.Source.{State, Res, ok, stop, Act, then_by, turn, turn_from}
use Rattle.odc_core.specs.Memory.{Memory}
use Rattle.odc_core.specs.Run.{State as CoreState, Res as CoreRes, ok as fine, stop as halt, Act as CoreAct, then_by as onto, ◌>>=◌}
use Rattle.odc_context.proofs.Runs.{Fueled, from, to, as_told, Runs, runs_then}

module _ (entries : ℕ → ℕ) where
  -- an entry of the source's log as core code's
  abbrev pub read : Entry Address ℕ → Entry ℕ ℕ
  read = entry_by number_at entries

  -- both have a value
  pub record Came {A B : Type 0} (R : A → State → B → Memory → Type 0) (j credit spare : ℕ) (act : Fueled B) (s : State) (m : Memory) (l : Log ℕ ℕ) (v : A) (t : State) : Type 0 where
    pub word : B
    pub memory : Memory
    pub log : Log ℕ ℕ
    pub budget : ℕ
    pub cost : ℕ
    pub runs : Runs j act m l budget cost word memory log
    pub holds : R v t word memory
    pub logs : map read t.log ≡ log
    pub cheap : cost + 100 * s.cost + spare ≤ credit + 100 * t.cost
    pub turns : s.left ≤ t.left + budget
    pub fewer : t.left ≤ s.left
    pub taken : t.taken ≡ s.taken

  -- both have stopped at a check
  pub record Ended {B : Type 0} (j credit : ℕ) (act : Fueled B) (s : State) (m : Memory) (l : Log ℕ ℕ) (e : End) (t : State) : Type 0 where
    pub memory : Memory
    pub log : Log ℕ ℕ
    pub budget : ℕ
    pub cost : ℕ
    pub is : (n k : ℕ) (c : CoreState) → j + (k + budget) ≤ n → act n (from c m l (k + budget)) ≡ halt e (to c memory log k cost)
    pub logs : map read t.log ≡ log
    pub cheap : cost + 100 * s.cost ≤ credit + 100 * t.cost
    pub taken : t.taken ≡ s.taken

  -- no turn is left to the source, and with this bound the core run stands there
  pub record Paused {B : Type 0} (j : ℕ) (act : Fueled B) (s : State) (m : Memory) (l : Log ℕ ℕ) (t : State) : Type 0 where
    pub memory : Memory
    pub log : Log ℕ ℕ
    pub budget : ℕ
    pub cost : ℕ
    pub is : (n : ℕ) (c : CoreState) → j + budget ≤ n → act n (from c m l budget) ≡ halt going (to c memory log 0 cost)
    pub logs : map read t.log ≡ log
    pub late : s.left ≤ budget
    pub taken : t.taken ≡ s.taken

  abbrev pub Stops : {B : Type 0} → ℕ → ℕ → Fueled B → State → Memory → Log ℕ ℕ → End → State → Type 0
  Stops j credit act s m l (checked which at) t = Ended j credit act s m l (checked which at) t
  Stops j credit act s m l going t = Paused j act s m l t
  Stops j credit act s m l (exited code) t = ⊥
  Stops j credit act s m l (strayed at) t = ⊥
  Stops j credit act s m l (trapped pc) t = ⊥

  abbrev pub Follows : {A B : Type 0} → (A → State → B → Memory → Type 0) → ℕ → ℕ → ℕ → Fueled B → State → Memory → Log ℕ ℕ → Res A → Type 0
  Follows R j credit spare act s m l (ok v t) = Came R j credit spare act s m l v t
  Follows R j credit spare act s m l (stop e t) = Stops j credit act s m l e t

  pub record Sim {A B : Type 0} (R : A → State → B → Memory → Type 0) (j credit spare : ℕ) (act : Fueled B) (s : State) (m : Memory) (l : Log ℕ ℕ) (r : Res A) : Type 0 where
    pub by : Follows R j credit spare act s m l r

  -- ---- a value on both sides, reached by the core run alone

  pub sim_runs : {A B : Type 0} (R : A → State → B → Memory → Type 0) (j credit spare : ℕ) (act : Fueled B) (s : State) (m : Memory) (l : Log ℕ ℕ) (v : A) (b x : ℕ) (w : B) (m' : Memory) →
      Runs j act m l b x w m' l → map read s.log ≡ l → x + spare ≤ credit → R v s w m' → Sim R j credit spare act s m l (ok v s)
  sim_runs R j credit spare act s m l v b x w m' r logs paid holds = record {
    by = record { word = w; memory = m'; log = l; budget = b; cost = x; runs = r; holds = holds; logs = logs; cheap = omega arith; turns = omega arith; fewer = omega arith; taken = refl };
  }

  -- ---- one after another

  halt_as : {B : Type 0} (e : End) (c : CoreState) (m : Memory) (l : Log ℕ ℕ) (k x x' : ℕ) → x ≡ x' →
      (let r : CoreRes B = halt e (record c { memory = m; log = l; left = k; cost = x }) in r) ≡ (let r : CoreRes B = halt e (record c { memory = m; log = l; left = k; cost = x' }) in r)
  halt_as {B} e c m l k x x' f = ap (λ (y : ℕ). let r : CoreRes B = halt e (record c { memory = m; log = l; left = k; cost = y }) in r) f

  module _ {A B A' B' : Type 0} (R : A → State → B → Memory → Type 0) (Q : A' → State → B' → Memory → Type 0) (j b b' h g : ℕ) (act : Fueled B) (more : B → Fueled B') (s : State) (m : Memory) (l : Log ℕ ℕ) where
    abbrev whole : Fueled B'
    whole = λ n. act n >>= (λ w. more w n)

    onward : (v : A) (t : State) (x : Came R j b h act s m l v t) (r : Res A') → Follows Q j (b' + h) g (more x.word) t x.memory x.log r → Follows Q j (b + b') g whole s m l r
    onward v t x (ok v' t') y = record {
      word = y.word;
      memory = y.memory;
      log = y.log;
      budget = x.budget + y.budget;
      cost = x.cost + y.cost;
      runs = runs_then j act more m l x.budget x.cost x.word x.memory x.log y.budget y.cost y.word y.memory y.log x.runs y.runs;
      holds = y.holds;
      logs = y.logs;
      cheap = omega (arith, x.cheap, y.cheap);
      turns = omega (arith, x.turns, y.turns);
      fewer = omega (arith, x.fewer, y.fewer);
      taken = y.taken ∙ x.taken;
    }
    onward v t x (stop (checked which at) t') y = record {
      memory = y.memory;
      log = y.log;
      budget = x.budget + y.budget;
      cost = x.cost + y.cost;
      is = λ n k c low.
          let all : k + (x.budget + y.budget) ≡ (k + y.budget) + x.budget = omega arith in
          ap (λ (left : ℕ). onto (act n (from c m l left)) (λ w. more w n)) all
          ∙ ap (λ (r : CoreRes B). onto r (λ w. more w n)) (x.runs.is n (k + y.budget) c (omega arith))
          ∙ y.is n k (record c { cost = c.cost + x.cost }) (omega arith)
          ∙ halt_as (checked which at) c y.memory y.log k _ _ (omega arith);
      logs = y.logs;
      cheap = omega (arith, x.cheap, y.cheap);
      taken = y.taken ∙ x.taken;
    }
    onward v t x (stop going t') y = record {
      memory = y.memory;
      log = y.log;
      budget = y.budget + x.budget;
      cost = x.cost + y.cost;
      is = λ n c low.
          ap (λ (r : CoreRes B). onto r (λ w. more w n)) (x.runs.is n y.budget c (omega arith))
          ∙ y.is n (record c { cost = c.cost + x.cost }) (omega arith)
          ∙ halt_as going c y.memory y.log 0 _ _ (omega arith);
      logs = y.logs;
      late = omega (arith, x.turns, y.late);
      taken = y.taken ∙ x.taken;
    }
    onward v t x (stop (exited code) t') y = y
    onward v t x (stop (strayed at) t') y = y
    onward v t x (stop (trapped pc) t') y = y

    stopped : (e : End) (t : State) → Stops {B = B} j b act s m l e t → Stops j (b + b') whole s m l e t
    stopped (checked which at) t x = record {
      memory = x.memory;
      log = x.log;
      budget = x.budget;
      cost = x.cost;
      is = λ n k c low. ap (λ (r : CoreRes B). onto r (λ w. more w n)) (x.is n k c low);
      logs = x.logs;
      cheap = omega (arith, x.cheap);
      taken = x.taken;
    }
    stopped going t x = record {
      memory = x.memory;
      log = x.log;
      budget = x.budget;
      cost = x.cost;
      is = λ n c low. ap (λ (r : CoreRes B). onto r (λ w. more w n)) (x.is n c low);
      logs = x.logs;
      late = x.late;
      taken = x.taken;
    }
    stopped (exited code) t x = x
    stopped (strayed at) t x = x
    stopped (trapped pc) t x = x

    pub seq : (r : Res A) (f : A → Act A') → Sim R j b h act s m l r →
        ((v : A) (t : State) (w : B) (m' : Memory) (l' : Log ℕ ℕ) → R v t w m' → map read t.log ≡ l' → t.left ≤ s.left → Sim Q j (b' + h) g (more w) t m' l' (f v t)) →
        Sim Q j (b + b') g whole s m l (then_by r f)
    seq (ok v t) f x k = record { by = onward v t x.by (f v t) (k v t x.by.word x.by.memory x.by.log x.by.holds x.by.logs x.by.fewer).by }
    seq (stop e t) f x k = record { by = stopped e t x.by }

  -- ---- what changes the shape only

  module _ {A B : Type 0} (R : A → State → B → Memory → Type 0) (j g : ℕ) (act : Fueled B) (m : Memory) (l : Log ℕ ℕ) where
    -- a node of the source gives credit
    ticked : (b : ℕ) (s : State) (r : Res A) → Follows R j (b + 100) g act (record s { cost = s.cost + 1 }) m l r → Follows R j b g act s m l r
    ticked b s (ok v t) x = record {
      word = x.word;
      memory = x.memory;
      log = x.log;
      budget = x.budget;
      cost = x.cost;
      runs = x.runs;
      holds = x.holds;
      logs = x.logs;
      cheap = omega (arith, x.cheap);
      turns = x.turns;
      fewer = x.fewer;
      taken = x.taken;
    }
    ticked b s (stop (checked which at) t) x = record { memory = x.memory; log = x.log; budget = x.budget; cost = x.cost; is = x.is; logs = x.logs; cheap = omega (arith, x.cheap); taken = x.taken }
    ticked b s (stop going t) x = record { memory = x.memory; log = x.log; budget = x.budget; cost = x.cost; is = x.is; logs = x.logs; late = x.late; taken = x.taken }
    ticked b s (stop (exited code) t) x = x
    ticked b s (stop (strayed at) t) x = x
    ticked b s (stop (trapped pc) t) x = x

    pub sim_tick : (b : ℕ) (s : State) (r : Res A) → Sim R j (b + 100) g act (record s { cost = s.cost + 1 }) m l r → Sim R j b g act s m l r
    sim_tick b s r x = record { by = ticked b s r x.by }

    richer : (b b' : ℕ) (s : State) (r : Res A) → b ≤ b' → Follows R j b g act s m l r → Follows R j b' g act s m l r
    richer b b' s (ok v t) h x = record {
      word = x.word;
      memory = x.memory;
      log = x.log;
      budget = x.budget;
      cost = x.cost;
      runs = x.runs;
      holds = x.holds;
      logs = x.logs;
      cheap = omega (arith, x.cheap);
      turns = x.turns;
      fewer = x.fewer;
      taken = x.taken;
    }
    richer b b' s (stop (checked which at) t) h x = record { memory = x.memory; log = x.log; budget = x.budget; cost = x.cost; is = x.is; logs = x.logs; cheap = omega (arith, x.cheap); taken = x.taken }
    richer b b' s (stop going t) h x = x
    richer b b' s (stop (exited code) t) h x = x
    richer b b' s (stop (strayed at) t) h x = x
    richer b b' s (stop (trapped pc) t) h x = x

    pub sim_richer : (b b' : ℕ) (s : State) (r : Res A) → b ≤ b' → Sim R j b g act s m l r → Sim R j b' g act s m l r
    sim_richer b b' s r h x = record { by = richer b b' s r h x.by }

  -- a weaker relation
  pub sim_weaker : {A B : Type 0} (R Q : A → State → B → Memory → Type 0) (j b g : ℕ) (act : Fueled B) (s : State) (m : Memory) (l : Log ℕ ℕ) (r : Res A) →
      ((v : A) (t : State) (w : B) (m' : Memory) → R v t w m' → Q v t w m') → Sim R j b g act s m l r → Sim Q j b g act s m l r
  sim_weaker R Q j b g act s m l (ok v t) h x = record {
    by = record {
      word = x.by.word;
      memory = x.by.memory;
      log = x.by.log;
      budget = x.by.budget;
      cost = x.by.cost;
      runs = x.by.runs;
      holds = h v t x.by.word x.by.memory x.by.holds;
      logs = x.by.logs;
      cheap = x.by.cheap;
      turns = x.by.turns;
      fewer = x.by.fewer;
      taken = x.by.taken;
    };
  }
  sim_weaker R Q j b g act s m l (stop e t) h x = record { by = x.by }

  -- ---- turns: the source takes one where the core run uses one of its bound

  -- the action spends one and goes on with the inner one
  pub record Begins {B : Type 0} (j : ℕ) (act inner : Fueled B) (m : Memory) (l : Log ℕ ℕ) : Type 0 where
    pub stands : (n : ℕ) (c : CoreState) → j ≤ n → act n (from c m l 0) ≡ halt going (from c m l 0)
    pub steps : (n k budget : ℕ) (c : CoreState) → j + (k + (budget + 1)) ≤ n →
        (n' : ℕ) × (j + (k + budget) ≤ n') × (act n (from c m l (k + (budget + 1))) ≡ inner n' (from (record c { cost = c.cost + 1 }) m l (k + budget)))

  module _ {A B : Type 0} (R : A → State → B → Memory → Type 0) (j b g : ℕ) (act inner : Fueled B) (m : Memory) (l : Log ℕ ℕ) (begins : Begins j act inner m l) where
    turned : (s : State) (left : ℕ) → s.left ≡ suc left → (r : Res A) → Follows R j (b + 99) g inner (record s { left = left; cost = s.cost + 1 }) m l r → Follows R j b g act s m l r
    turned s left e (ok v t) x = record {
      word = x.word;
      memory = x.memory;
      log = x.log;
      budget = x.budget + 1;
      cost = x.cost + 1;
      runs = record {
        is = λ n k c h. let step = begins.steps n k x.budget c h in
            step.2 ∙ x.runs.is step.0 k (record c { cost = c.cost + 1 }) step.1 ∙ as_told x.word c x.memory x.log k k _ _ refl (omega arith);
      };
      holds = x.holds;
      logs = x.logs;
      cheap = omega (arith, x.cheap);
      turns = omega (arith, x.turns, e);
      fewer = omega (arith, x.fewer, e);
      taken = x.taken;
    }
    turned s left e (stop (checked which at) t) x = record {
      memory = x.memory;
      log = x.log;
      budget = x.budget + 1;
      cost = x.cost + 1;
      is = λ n k c h. let step = begins.steps n k x.budget c h in
          step.2 ∙ x.is step.0 k (record c { cost = c.cost + 1 }) step.1 ∙ halt_as (checked which at) c x.memory x.log k _ _ (omega arith);
      logs = x.logs;
      cheap = omega (arith, x.cheap);
      taken = x.taken;
    }
    turned s left e (stop going t) x = record {
      memory = x.memory;
      log = x.log;
      budget = 0 + (x.budget + 1);
      cost = x.cost + 1;
      is = λ n c h.
          let inner_none : 0 + x.budget ≡ x.budget = omega arith in
          let step = begins.steps n 0 x.budget c h in
          step.2
          ∙ ap (λ (y : ℕ). inner step.0 (from (record c { cost = c.cost + 1 }) m l y)) inner_none
          ∙ x.is step.0 (record c { cost = c.cost + 1 }) (omega (arith, step.1))
          ∙ halt_as going c x.memory x.log 0 _ _ (omega arith);
      logs = x.logs;
      late = omega (arith, x.late, e);
      taken = x.taken;
    }
    turned s left e (stop (exited code) t) x = x
    turned s left e (stop (strayed at) t) x = x
    turned s left e (stop (trapped pc) t) x = x

    pub sim_turn : (s : State) (f : Act A) → map read s.log ≡ l →
        ((left : ℕ) → s.left ≡ suc left → Sim R j (b + 99) g inner (record s { left = left; cost = s.cost + 1 }) m l (f (record s { left = left; cost = s.cost + 1 }))) →
        Sim R j b g act s m l (turn f s)
    sim_turn s f logs k = by s.left refl
      where
        by : (left : ℕ) → s.left ≡ left → Sim R j b g act s m l (turn_from left f s)
        by zero e = record {
          by = record {
            memory = m;
            log = l;
            budget = 0;
            cost = 0;
            is = λ n c h. begins.stands n c (omega arith) ∙ halt_as going c m l 0 _ _ (sym (add-zero c.cost));
            logs = logs;
            late = omega (arith, e);
            taken = refl;
          };
        }
        by (suc left) e = record { by = turned s left e (f (record s { left = left; cost = s.cost + 1 })) (k left e).by }

  -- ---- the same action written otherwise

  module _ {A B : Type 0} (R : A → State → B → Memory → Type 0) (j b g : ℕ) (act act' : Fueled B) (same : (n : ℕ) (c : CoreState) → act' n c ≡ act n c) (s : State) (m : Memory) (l : Log ℕ ℕ) where
    as_act : (r : Res A) → Follows R j b g act s m l r → Follows R j b g act' s m l r
    as_act (ok v t) x = record {
      word = x.word;
      memory = x.memory;
      log = x.log;
      budget = x.budget;
      cost = x.cost;
      runs = record { is = λ n k c h. same n (from c m l (k + x.budget)) ∙ x.runs.is n k c h };
      holds = x.holds;
      logs = x.logs;
      cheap = x.cheap;
      turns = x.turns;
      fewer = x.fewer;
      taken = x.taken;
    }
    as_act (stop (checked which at) t) x = record { memory = x.memory; log = x.log; budget = x.budget; cost = x.cost; is = λ n k c h. same n (from c m l (k + x.budget)) ∙ x.is n k c h; logs = x.logs; cheap = x.cheap; taken = x.taken }
    as_act (stop going t) x = record { memory = x.memory; log = x.log; budget = x.budget; cost = x.cost; is = λ n c h. same n (from c m l x.budget) ∙ x.is n c h; logs = x.logs; late = x.late; taken = x.taken }
    as_act (stop (exited code) t) x = x
    as_act (stop (strayed at) t) x = x
    as_act (stop (trapped pc) t) x = x

    pub sim_act : (r : Res A) → Sim R j b g act s m l r → Sim R j b g act' s m l r
    sim_act r x = record { by = as_act r x.by }

  -- ---- the core run alone, before and behind

  -- a part that leaves memory and log as they are
  pub sim_before : {A B C : Type 0} (Q : A → State → C → Memory → Type 0) (j credit b g : ℕ) (act : Fueled B) (more : B → Fueled C) (s : State) (m : Memory) (l : Log ℕ ℕ) (r : Res A) (y x : ℕ) (w : B) →
      Runs j act m l y x w m l → x + b ≤ credit → Sim Q j b g (more w) s m l r → Sim Q j credit g (λ n. act n >>= (λ v. more v n)) s m l r
  sim_before {A} {B} {C} Q j credit b g act more s m l r y x w run paid sim =
      by r sim.by
    where
      by : (r : Res A) → Follows Q j b g (more w) s m l r → Sim Q j credit g (λ n. act n >>= (λ v. more v n)) s m l r
      by (ok v t) z = record {
        by = record {
          word = z.word;
          memory = z.memory;
          log = z.log;
          budget = y + z.budget;
          cost = x + z.cost;
          runs = runs_then j act more m l y x w m l z.budget z.cost z.word z.memory z.log run z.runs;
          holds = z.holds;
          logs = z.logs;
          cheap = omega (arith, z.cheap);
          turns = omega (arith, z.turns);
          fewer = z.fewer;
          taken = z.taken;
        };
      }
      by (stop (checked which at) t) z = record {
        by = record {
          memory = z.memory;
          log = z.log;
          budget = y + z.budget;
          cost = x + z.cost;
          is = λ n k c h.
              let all : k + (y + z.budget) ≡ (k + z.budget) + y = omega arith in
              ap (λ (left : ℕ). onto (act n (from c m l left)) (λ v. more v n)) all
              ∙ ap (λ (q : CoreRes B). onto q (λ v. more v n)) (run.is n (k + z.budget) c (omega arith))
              ∙ z.is n k (record c { cost = c.cost + x }) (omega arith)
              ∙ halt_as (checked which at) c z.memory z.log k _ _ (omega arith);
          logs = z.logs;
          cheap = omega (arith, z.cheap);
          taken = z.taken;
        };
      }
      by (stop going t) z = record {
        by = record {
          memory = z.memory;
          log = z.log;
          budget = z.budget + y;
          cost = x + z.cost;
          is = λ n c h.
              ap (λ (q : CoreRes B). onto q (λ v. more v n)) (run.is n z.budget c (omega arith))
              ∙ z.is n (record c { cost = c.cost + x }) (omega arith)
              ∙ halt_as going c z.memory z.log 0 _ _ (omega arith);
          logs = z.logs;
          late = omega (arith, z.late);
          taken = z.taken;
        };
      }
      by (stop (exited code) t) z = record { by = z }
      by (stop (strayed at) t) z = record { by = z }
      by (stop (trapped pc) t) z = record { by = z }

  -- what the core run does behind a part; the log may not change
  pub record Behind {A C : Type 0} (Q : A → State → C → Memory → Type 0) (j cost : ℕ) (more : Fueled C) (v : A) (t : State) (m : Memory) : Type 0 where
    pub word : C
    pub memory : Memory
    pub budget : ℕ
    pub runs : (l : Log ℕ ℕ) → Runs j more m l budget cost word memory l
    pub holds : Q v t word memory

  same_result : {A : Type 0} (r : Res A) → then_by r (λ v t. ok v t) ≡ r
  same_result (ok v t) = refl
  same_result (stop e t) = refl

  pub sim_behind : {A B C : Type 0} (R : A → State → B → Memory → Type 0) (Q : A → State → C → Memory → Type 0) (j b cost h : ℕ) (act : Fueled B) (more : B → Fueled C) (s : State) (m : Memory) (l : Log ℕ ℕ) (r : Res A) →
      Sim R j b h act s m l r → ((v : A) (t : State) (w : B) (m' : Memory) → R v t w m' → Behind Q j cost (more w) v t m') →
      Sim Q j (b + cost) h (λ n. act n >>= (λ v. more v n)) s m l r
  sim_behind {A} {B} {C} R Q j b cost h act more s m l r sim f =
      let P : Res A → Type 0 = λ q. Sim Q j (b + cost) h (λ n. act n >>= (λ v. more v n)) s m l q in
      subst P (same_result r) (seq R Q j b cost h h act more s m l r (λ v t. ok v t) sim
      (λ v t w m' l' holds logs fewer.
      let x = f v t w m' holds in
      sim_runs Q j (cost + h) h (more w) t m' l' v x.budget cost x.word x.memory (x.runs l') logs (omega arith) x.holds))

  -- a result written otherwise
  pub sim_result : {A B : Type 0} (R : A → State → B → Memory → Type 0) (j b g : ℕ) (act : Fueled B) (s : State) (m : Memory) (l : Log ℕ ℕ) (r r' : Res A) → r ≡ r' → Sim R j b g act s m l r' → Sim R j b g act s m l r
  sim_result {A} R j b g act s m l r r' e x = let P : Res A → Type 0 = λ q. Sim R j b g act s m l q in subst P (sym e) x

  -- a source value made of another, and credit that is kept
  pub sim_map : {A A' B : Type 0} (R : A → State → B → Memory → Type 0) (Q : A' → State → B → Memory → Type 0) (j b g c : ℕ) (act : Fueled B) (s : State) (m : Memory) (l : Log ℕ ℕ) (r : Res A) (f : A → A') →
      Sim R j b g act s m l r → ((v : A) (t : State) (w : B) (m' : Memory) → R v t w m' → Q (f v) t w m') → Sim Q j (b + c) (g + c) act s m l (then_by r (λ v t. ok (f v) t))
  sim_map R Q j b g c act s m l (ok v t) f x h = record {
    by = record {
      word = x.by.word;
      memory = x.by.memory;
      log = x.by.log;
      budget = x.by.budget;
      cost = x.by.cost;
      runs = x.by.runs;
      holds = h v t x.by.word x.by.memory x.by.holds;
      logs = x.by.logs;
      cheap = omega (arith, x.by.cheap);
      turns = x.by.turns;
      fewer = x.by.fewer;
      taken = x.by.taken;
    };
  }
  sim_map R Q j b g c act s m l (stop (checked which at) t) f x h = record {
    by = record {
      memory = x.by.memory;
      log = x.by.log;
      budget = x.by.budget;
      cost = x.by.cost;
      is = x.by.is;
      logs = x.by.logs;
      cheap = omega (arith, x.by.cheap);
      taken = x.by.taken;
    };
  }
  sim_map R Q j b g c act s m l (stop going t) f x h = record { by = x.by }
  sim_map R Q j b g c act s m l (stop (exited code) t) f x h = record { by = x.by }
  sim_map R Q j b g c act s m l (stop (strayed at) t) f x h = record { by = x.by }
  sim_map R Q j b g c act s m l (stop (trapped pc) t) f x h = record { by = x.by }

  -- ---- the core run uses one of its bound by itself

  -- the action spends one and goes on with the inner one, with the same fuel
  pub record Spends {B : Type 0} (j : ℕ) (act inner : Fueled B) (m : Memory) (l : Log ℕ ℕ) : Type 0 where
    pub steps : (n k budget : ℕ) (c : CoreState) → j + (k + (budget + 1)) ≤ n → act n (from c m l (k + (budget + 1))) ≡ inner n (from (record c { cost = c.cost + 1 }) m l (k + budget))

  pub sim_spent : {A B : Type 0} (R : A → State → B → Memory → Type 0) (j b g : ℕ) (act inner : Fueled B) (s : State) (m : Memory) (l : Log ℕ ℕ) (r : Res A) → Spends j act inner m l →
      Sim R (suc j) b g inner s m l r → Sim R j (b + 1) g act s m l r
  sim_spent {A} {B} R j b g act inner s m l (ok v t) spends x = record {
    by = record {
      word = x.by.word;
      memory = x.by.memory;
      log = x.by.log;
      budget = x.by.budget + 1;
      cost = x.by.cost + 1;
      runs = record {
        is = λ n k c h. spends.steps n k x.by.budget c h ∙ x.by.runs.is n k (record c { cost = c.cost + 1 }) (omega arith) ∙ as_told x.by.word c x.by.memory x.by.log k k _ _ refl (omega arith);
      };
      holds = x.by.holds;
      logs = x.by.logs;
      cheap = omega (arith, x.by.cheap);
      turns = omega (arith, x.by.turns);
      fewer = x.by.fewer;
      taken = x.by.taken;
    };
  }
  sim_spent {A} {B} R j b g act inner s m l (stop (checked which at) t) spends x = record {
    by = record {
      memory = x.by.memory;
      log = x.by.log;
      budget = x.by.budget + 1;
      cost = x.by.cost + 1;
      is = λ n k c h. spends.steps n k x.by.budget c h ∙ x.by.is n k (record c { cost = c.cost + 1 }) (omega arith) ∙ halt_as (checked which at) c x.by.memory x.by.log k _ _ (omega arith);
      logs = x.by.logs;
      cheap = omega (arith, x.by.cheap);
      taken = x.by.taken;
    };
  }
  sim_spent {A} {B} R j b g act inner s m l (stop going t) spends x = record {
    by = record {
      memory = x.by.memory;
      log = x.by.log;
      budget = 0 + (x.by.budget + 1);
      cost = x.by.cost + 1;
      is = λ n c h.
          let inner_none : 0 + x.by.budget ≡ x.by.budget = omega arith in
          spends.steps n 0 x.by.budget c h
          ∙ ap (λ (y : ℕ). inner n (from (record c { cost = c.cost + 1 }) m l y)) inner_none
          ∙ x.by.is n (record c { cost = c.cost + 1 }) (omega arith)
          ∙ halt_as going c x.by.memory x.by.log 0 _ _ (omega arith);
      logs = x.by.logs;
      late = omega (arith, x.by.late);
      taken = x.by.taken;
    };
  }
  sim_spent R j b g act inner s m l (stop (exited code) t) spends x = record { by = x.by }
  sim_spent R j b g act inner s m l (stop (strayed at) t) spends x = record { by = x.by }
  sim_spent R j b g act inner s m l (stop (trapped pc) t) spends x = record { by = x.by }

  -- parts in a row
  pub onto_onto : {A B C : Type 0} (r : CoreRes A) (f : A → CoreAct B) (g : B → CoreAct C) → onto (onto r f) g ≡ onto r (λ v t. onto (f v t) g)
  onto_onto (fine v t) f g = refl
  onto_onto (halt e t) f g = refl

  pub then_then : {A B C : Type 0} (r : Res A) (f : A → Act B) (g : B → Act C) → then_by (then_by r f) g ≡ then_by r (λ v t. then_by (f v t) g)
  then_then (ok v t) f g = refl
  then_then (stop e t) f g = refl

  -- from another memory
  module _ {A B : Type 0} (R : A → State → B → Memory → Type 0) (j b g : ℕ) (act act' : Fueled B) (s : State) (m m1 : Memory) (l : Log ℕ ℕ) (same : (n k : ℕ) (c : CoreState) → act' n (from c m l k) ≡ act n (from c m1 l k)) where
    pub sim_from : (r : Res A) → Sim R j b g act s m1 l r → Sim R j b g act' s m l r
    sim_from (ok v t) x = record {
      by = record {
        word = x.by.word;
        memory = x.by.memory;
        log = x.by.log;
        budget = x.by.budget;
        cost = x.by.cost;
        runs = record { is = λ n k c h. same n (k + x.by.budget) c ∙ x.by.runs.is n k c h };
        holds = x.by.holds;
        logs = x.by.logs;
        cheap = x.by.cheap;
        turns = x.by.turns;
        fewer = x.by.fewer;
        taken = x.by.taken;
      };
    }
    sim_from (stop (checked which at) t) x = record { by = record { memory = x.by.memory; log = x.by.log; budget = x.by.budget; cost = x.by.cost; is = λ n k c h. same n (k + x.by.budget) c ∙ x.by.is n k c h; logs = x.by.logs; cheap = x.by.cheap; taken = x.by.taken } }
    sim_from (stop going t) x = record { by = record { memory = x.by.memory; log = x.by.log; budget = x.by.budget; cost = x.by.cost; is = λ n c h. same n x.by.budget c ∙ x.by.is n c h; logs = x.by.logs; late = x.by.late; taken = x.by.taken } }
    sim_from (stop (exited code) t) x = record { by = x.by }
    sim_from (stop (strayed at) t) x = record { by = x.by }
    sim_from (stop (trapped pc) t) x = record { by = x.by }

  -- from an earlier state of the source, which cost less
  module _ {A B : Type 0} (R : A → State → B → Memory → Type 0) (j b g k : ℕ) (act : Fueled B) (s u : State) (m : Memory) (l : Log ℕ ℕ) (left : u.left ≡ s.left) (cost : s.cost + k ≤ u.cost) (taken : u.taken ≡ s.taken) where
    pub sim_later : (r : Res A) → Sim R j (b + 100 * k) g act u m l r → Sim R j b g act s m l r
    sim_later (ok v t) x = record {
      by = record {
        word = x.by.word;
        memory = x.by.memory;
        log = x.by.log;
        budget = x.by.budget;
        cost = x.by.cost;
        runs = x.by.runs;
        holds = x.by.holds;
        logs = x.by.logs;
        cheap = omega (arith, x.by.cheap);
        turns = omega (arith, x.by.turns, left);
        fewer = omega (arith, x.by.fewer, left);
        taken = x.by.taken ∙ taken;
      };
    }
    sim_later (stop (checked which at) t) x = record { by = record { memory = x.by.memory; log = x.by.log; budget = x.by.budget; cost = x.by.cost; is = x.by.is; logs = x.by.logs; cheap = omega (arith, x.by.cheap); taken = x.by.taken ∙ taken } }
    sim_later (stop going t) x = record { by = record { memory = x.by.memory; log = x.by.log; budget = x.by.budget; cost = x.by.cost; is = x.by.is; logs = x.by.logs; late = omega (arith, x.by.late, left); taken = x.by.taken ∙ taken } }
    sim_later (stop (exited code) t) x = record { by = x.by }
    sim_later (stop (strayed at) t) x = record { by = x.by }
    sim_later (stop (trapped pc) t) x = record { by = x.by }

  -- a part that leaves the log as it is
  pub sim_first : {A B C : Type 0} (Q : A → State → C → Memory → Type 0) (j credit b g : ℕ) (act : Fueled B) (more : B → Fueled C) (s : State) (m m1 : Memory) (l : Log ℕ ℕ) (r : Res A) (y x : ℕ) (w : B) →
      Runs j act m l y x w m1 l → x + b ≤ credit → Sim Q j b g (more w) s m1 l r → Sim Q j credit g (λ n. act n >>= (λ v. more v n)) s m l r
  sim_first {A} {B} {C} Q j credit b g act more s m m1 l r y x w run paid sim =
      by r sim.by
    where
      by : (r : Res A) → Follows Q j b g (more w) s m1 l r → Sim Q j credit g (λ n. act n >>= (λ v. more v n)) s m l r
      by (ok v t) z = record {
        by = record {
          word = z.word;
          memory = z.memory;
          log = z.log;
          budget = y + z.budget;
          cost = x + z.cost;
          runs = runs_then j act more m l y x w m1 l z.budget z.cost z.word z.memory z.log run z.runs;
          holds = z.holds;
          logs = z.logs;
          cheap = omega (arith, z.cheap);
          turns = omega (arith, z.turns);
          fewer = z.fewer;
          taken = z.taken;
        };
      }
      by (stop (checked which at) t) z = record {
        by = record {
          memory = z.memory;
          log = z.log;
          budget = y + z.budget;
          cost = x + z.cost;
          is = λ n k c h.
              let all : k + (y + z.budget) ≡ (k + z.budget) + y = omega arith in
              ap (λ (left : ℕ). onto (act n (from c m l left)) (λ v. more v n)) all
              ∙ ap (λ (q : CoreRes B). onto q (λ v. more v n)) (run.is n (k + z.budget) c (omega arith))
              ∙ z.is n k (record c { cost = c.cost + x }) (omega arith)
              ∙ halt_as (checked which at) c z.memory z.log k _ _ (omega arith);
          logs = z.logs;
          cheap = omega (arith, z.cheap);
          taken = z.taken;
        };
      }
      by (stop going t) z = record {
        by = record {
          memory = z.memory;
          log = z.log;
          budget = z.budget + y;
          cost = x + z.cost;
          is = λ n c h.
              ap (λ (q : CoreRes B). onto q (λ v. more v n)) (run.is n z.budget c (omega arith))
              ∙ z.is n (record c { cost = c.cost + x }) (omega arith)
              ∙ halt_as going c z.memory z.log 0 _ _ (omega arith);
          logs = z.logs;
          late = omega (arith, z.late);
          taken = z.taken;
        };
      }
      by (stop (exited code) t) z = record { by = z }
      by (stop (strayed at) t) z = record { by = z }
      by (stop (trapped pc) t) z = record { by = z }
