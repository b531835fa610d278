-- Statements as the run composes them: scopes, conditions and loops stray nowhere, where their parts don't.
use Rattle.std.proofs.Common.{ℕ, zero, suc, Bool, List}
use Rattle.std.specs.Prelude.{Option, Some, None, if◌then◌else◌}
use Rattle.odc_text.specs.Run.{going}
use Rattle.odc_program.specs.States.Run.{Res, ok, stop, halt, ◌>>=◌}
use Rattle.odc_program.specs.States.State.{State, Leave, ends, back, Do, Context}
use Rattle.odc_program.specs.Runs.Statements.{Flow, falls, breaks, continues, passes, returns, Left, Part, left_by, scoped, caught_by, caught, after_falls, stepped, stopped_at, run_block, headed, choose, goes_on, next_turn, run_turn, turns}
use Rattle.odc_carried.proofs.steady.Outcomes.{Steady, steady_then}
use Rattle.odc_carried.proofs.steady.Actions.{Activation, Ready, ready_on, Safe, Any, safe_then, safe_pure, safe_going, safe_if, safe_turn}

module _ (a : Activation) where
  -- from wherever these variables have begun
  abbrev pub Sure : List ℕ → Part → Type 0
  Sure xs m = (c : Context) → Safe a xs (Any a xs) (m c)

  -- and behind it those have begun
  pub record Goes (xs ys : List ℕ) (m : Part) : Type 0 where
    pub by : (c : Context) (s : State) → Ready a xs s → Steady (λ l t. Ready a ys t) s (m c s)

  steady_goes : (xs : List ℕ) (s : State) (r : Res Leave State Left) → Ready a xs s → Steady (λ (l : Left) t. Unit {0}) s r → Steady (λ l t. Ready a xs t) s r
  steady_goes xs s (ok l t) ready h = record { by = (h.by.0, ready_on a xs s t ready h.by.0) }
  steady_goes xs s (stop (ends e) t) ready h = record { by = h.by }
  steady_goes xs s (stop back t) ready h = record { by = h.by }

  pub goes_sure : (xs : List ℕ) (m : Part) → Sure xs m → Goes xs xs m
  goes_sure xs m p = record { by = λ c s r. steady_goes xs s (m c s) r ((p c).by s r) }

  steady_sure : (ys : List ℕ) (s : State) (r : Res Leave State Left) → Steady (λ l t. Ready a ys t) s r → Steady (λ (l : Left) t. Unit {0}) s r
  steady_sure ys s (ok l t) h = record { by = (h.by.0, tt) }
  steady_sure ys s (stop (ends e) t) h = record { by = h.by }
  steady_sure ys s (stop back t) h = record { by = h.by }

  pub sure_goes : (xs ys : List ℕ) (m : Part) → Goes xs ys m → Sure xs m
  sure_goes xs ys m p c = record { by = λ s r. steady_sure ys s (m c s) (p.by c s r) }

  pub sure_left : (xs : List ℕ) (f : Flow) → Sure xs (left_by f)
  sure_left xs f c = safe_pure a xs (Any a xs) (record { flow = f; context = c }) tt

  sure_then : {A : Type 0} {P : A → Type 0} (xs : List ℕ) (m : Do A) (f : A → Do Left) → Safe a xs P m → ((v : A) → P v → Safe a xs (Any a xs) (f v)) → Safe a xs (Any a xs) (m >>= f)
  sure_then {A} {P} xs m f p k = safe_then a xs (Any a xs) f p k

  -- ---- scopes
  pub sure_scoped : (xs : List ℕ) (m : Part) → Sure xs m → Sure xs (scoped m)
  sure_scoped xs m p c = sure_then xs (m c) (λ l. left_by l.flow c) (p c) (λ l _. sure_left xs l.flow c)

  pub sure_block : (xs : List ℕ) (l : ℕ) (m : Part) → Sure xs m → Sure xs (run_block l m)
  sure_block xs l m p c = sure_then xs (scoped m c) (λ r. left_by (stopped_at l r.flow) r.context) (sure_scoped xs m p c) (λ r _. sure_left xs (stopped_at l r.flow) r.context)

  sure_after : (xs : List ℕ) (m : Part) (f : Flow) → Sure xs m → Sure xs (after_falls m f)
  sure_after xs m falls p c = p c
  sure_after xs m (breaks l) p c = sure_left xs (breaks l) c
  sure_after xs m (continues l) p c = sure_left xs (continues l) c
  sure_after xs m passes p c = sure_left xs passes c
  sure_after xs m returns p c = sure_left xs returns c

  -- what follows a part sees what it has begun
  follows_on : (xs ys : List ℕ) (m rest : Part) → Goes xs ys m → Sure ys rest → Sure xs (λ c. m c >>= (λ l. after_falls rest l.flow l.context))
  follows_on xs ys m rest p q c = record { by = λ s r. steady_then (λ l t. Ready a ys t) (λ l t. Unit {0}) s (m c s) (λ l. after_falls rest l.flow l.context) (p.by c s r) (λ l t on now. (sure_after ys rest l.flow q l.context).by t now) }

  steady_caught : (ys : List ℕ) (c : Context) (s : State) (r : Res Leave State Left) → Steady (λ l t. Ready a ys t) s r → Steady (λ l t. Ready a ys t) s (caught_by c r)
  steady_caught ys c s (ok l t) h = h
  steady_caught ys c s (stop (ends e) t) h = h
  steady_caught ys c s (stop back t) h = absurd h.by

  pub sure_stepped : (xs ys : List ℕ) (m rest : Part) → Goes xs ys m → Sure ys rest → Sure xs (stepped None m rest)
  sure_stepped xs ys m rest p q = follows_on xs ys (caught m) rest (record { by = λ c s r. steady_caught ys c s (m c s) (p.by c s r) }) q

  pub sure_headed : (xs ys : List ℕ) (init m : Part) → Goes xs ys init → Sure ys m → Sure xs (headed init m)
  sure_headed xs ys init m p q = sure_scoped xs (λ c. init c >>= (λ l. after_falls m l.flow l.context)) (follows_on xs ys init m p q)

  -- ---- conditions and loops
  pub sure_choose : (xs : List ℕ) (test : Context → Do Bool) (body other : Part) → ((c : Context) → Safe a xs (Any a xs) (test c)) → Sure xs body → Sure xs other → Sure xs (choose test body other)
  sure_choose xs test body other t p q c = sure_then xs (test c) (λ b. if b then body c else other c) (t c) (λ b _. safe_if a xs (Any a xs) (body c) (other c) b (p c) (q c))

  sure_next : (xs : List ℕ) (f : Option Flow) (m : Part) → Sure xs m → Sure xs (next_turn f m)
  sure_next xs None m p c = p c
  sure_next xs (Some f) m p c = sure_left xs f c

  pub sure_turns : (xs : List ℕ) (n l : ℕ) (test : Context → Do Bool) (body post : Part) → ((c : Context) → Safe a xs (Any a xs) (test c)) → Sure xs body → Sure xs post → Sure xs (turns n l test body post)
  sure_turns xs zero l test body post t p q c = sure_then xs (test c) (λ b. if b then halt (ends going) else left_by falls c) (t c) (λ b _. safe_if a xs (Any a xs) (halt (ends going)) (left_by falls c) b (safe_going a xs (Any a xs)) (sure_left xs falls c))
  sure_turns xs (suc n) l test body post t p q c =
      let next : Part = turns n l test body post in
      let behind : Part = λ d. post d >>= (λ q. after_falls next q.flow q.context) in
      let again : Sure xs behind = λ d. sure_then xs (post d) (λ q. after_falls next q.flow q.context) (q d) (λ k _. sure_after xs next k.flow (sure_turns xs n l test body post t p q) k.context) in
      sure_then xs (test c) (λ b. if b then run_turn l body post next c else left_by falls c) (t c)
      (λ b _. safe_if a xs (Any a xs) (run_turn l body post next c) (left_by falls c) b
      (safe_turn a xs (body c >>= (λ r. next_turn (goes_on l r.flow) behind r.context)) (sure_then xs (body c) (λ r. next_turn (goes_on l r.flow) behind r.context) (p c) (λ r _. sure_next xs (goes_on l r.flow) behind again r.context)))
      (sure_left xs falls c))
