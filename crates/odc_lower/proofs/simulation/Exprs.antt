-- The steps of an expression put its value into its temporary.
use Rattle.std.proofs.Common.{◌≡◌, ℕ, suc, ◌+◌, ◌*◌, ◌<◌, ◌≤◌, Bool, true, false, List, [], ◌∷◌, ◌++◌, length, map, ap, ◌∙◌, sym, subst, refl, arith}
use Rattle.std.specs.Prelude.{Option, Some, None, option_map, slice_get, ◌==◌, if◌then◌else◌}
use Rattle.std.proofs.lemmas.Bool.Decides.{nat_tests}
use Rattle.odc_text.specs.Run.{Entry, strayed}
use Rattle.odc_text.specs.Steps.{on}
use Rattle.odc_core.specs.declared.tree.Width.{Width}
use Rattle.odc_core.specs.Tree.{Expr, const, slot, address, procedure, load, unary, binary, compare, call, call_value, Exprs, none, more, Proc}
use Rattle.odc_core.specs.Words.{width_size, unary_word, binary_word, compare_words, number_of}
use Rattle.odc_core.specs.Memory.{loaded}
use Rattle.odc_core.specs.Frames.{variable_address}
use Rattle.odc_core.specs.Program.{called_by}
use Rattle.odc_core.specs.Well.{Names, IsExpr, AreExprs, count, parameters_of}
use Rattle.odc_core.specs.Run.{State, Res, ok, stop, Act, then_by, pure, spend, need, load_bytes, event_of, moved, takes, call_found, value_of, values_of, calls_of}
use Rattle.odc_mid.specs.declared.tree.Named.TheVariants.{Variable, Stored, Procedure}
use Rattle.odc_mid.specs.Tree.{Proc as MidProc}
use Rattle.odc_mid.specs.Run.{World as MidWorld, act, set, gives, gives_found, strays, calls, calls_told, calls_found, takes as mid_takes}
use Rattle.odc_lower.specs.Plain.{Step, const_step, address_step, unary_step, binary_step, compare_step, load_step, call_step, call_value_step}
use Rattle.odc_lower.specs.Plain.{PlainProc, plain_proc}
use Rattle.odc_lower.specs.Lowered.{lowered}
use Rattle.odc_lower.specs.Code.{expr_code, exprs_code, temps_from}
use Rattle.odc_lower.proofs.simulation.Runs.{none_leads, one_leads}
use Rattle.odc_lower.proofs.Plains.{Has, acts, carried_plainly, Stands, parts}
use Rattle.odc_lower.proofs.simulation.Sims.{Frame, stand, Sim, here, ends, onward, implied, settled, noded, after}
use Rattle.odc_lower.proofs.simulation.Temps.{set_same, set_below, AreHeld, held_words}
use Rattle.odc_lower.proofs.Procs.{AreAlike, found_at, called_alike}
use Rattle.odc_lower.proofs.simulation.Worlds.{IsFrame, IsValue, IsAnswered, parameters_at, core_world, mid_world, env_of, Follow, CallsFollow}

-- where the words of a list have been made
pub record AreValues (end d n : ℕ) (temps : ℕ → ℕ) (vs : List ℕ) (place : ℕ) (temps' : ℕ → ℕ) : Type 0 where
  pub at : place ≡ end
  pub held : AreHeld temps' d vs
  pub count : length vs ≡ n
  pub kept : (t : ℕ) → t < d → temps' t ≡ temps t

takes_some : (n : ℕ) (o : Option Proc) → takes n o ≡ true → (p : Proc) × (o ≡ Some p) × (p.parameters ≡ n)
takes_some n None h = absurd (cc)
takes_some n (Some p) h = (p, refl, grind (arith, nat_tests))

takes_too : (n : ℕ) (o : Option MidProc) (p : Proc) (q : MidProc) → o ≡ Some q → plain_proc q ≡ lowered p → p.parameters ≡ n → mid_takes n o ≡ true
takes_too n o p q here same many =
    let parameters : q.parameters ≡ n = ap (λ (x : PlainProc). x.parameters) same ∙ many in
    let test : (q.parameters == n) ≡ true = grind (arith, nat_tests) in
    ap (mid_takes n) here ∙ test

module _ (entries : ℕ → ℕ) (ps : List Proc) (qs : List MidProc) (addresses : List ℕ) (f : Frame) where
  -- ---- stretches

  -- one step that only changes the temporaries or the position
  pub one_step : {A : Type 0} (before behind gain before' gain' pc pc' : ℕ) (temps temps' : ℕ → ℕ) (s : State) (x : Step) (r : Res A) (goal : A → ℕ → (ℕ → ℕ) → Type 0) →
      Has f.steps pc x → carried_plainly (mid_world entries ps qs addresses) x (stand f pc temps s) ≡ on (stand f pc' temps' s) →
      before' + 1 ≤ before → gain ≤ gain' + 2 →
      Follow entries ps qs addresses f before' behind gain' pc' temps' s r goal → Follow entries ps qs addresses f before behind gain pc temps s r goal
  one_step before behind gain before' gain' pc pc' temps temps' s x r goal has goes cost turns rest =
      let w : MidWorld = mid_world entries ps qs addresses in
      onward w f before behind gain before' gain' (stand f pc temps s) (stand f pc' temps' s) s s 1 r goal
      (one_leads (act w) (stand f pc temps s) (stand f pc' temps' s) (acts w (stand f pc temps s) x has ∙ goes)) refl (omega arith) (omega arith) (λ h. h) rest

  -- the cost rises
  pub charged : {A : Type 0} (before behind gain before' pc k : ℕ) (temps : ℕ → ℕ) (s : State) (r : Res A) (goal : A → ℕ → (ℕ → ℕ) → Type 0) →
      before' ≤ before + 12 * k →
      Follow entries ps qs addresses f before' behind gain pc temps (record s { cost = s.cost + k }) r goal → Follow entries ps qs addresses f before behind gain pc temps s r goal
  charged before behind gain before' pc k temps s r goal cost rest =
      let w : MidWorld = mid_world entries ps qs addresses in
      onward w f before behind gain before' gain (stand f pc temps s) (stand f pc temps s) s (record s { cost = s.cost + k }) 0 r goal
      (none_leads (act w) (stand f pc temps s)) refl (omega arith) (omega arith) (λ h. record { memory = h.memory; input = h.input }) rest

  -- the core run strays
  pub strays_here : {A : Type 0} (before behind gain pc : ℕ) (temps : ℕ → ℕ) (s : State) (goal : A → ℕ → (ℕ → ℕ) → Type 0) →
      Follow entries ps qs addresses f before behind gain pc temps s (stop (strayed f.at) s) goal
  strays_here before behind gain pc temps s goal =
      ends (mid_world entries ps qs addresses) f before behind gain (stand f pc temps s) s (strayed f.at) goal (record { log = refl; taken = refl })

  -- a value that is made by its last step
  pub made : (before behind gain pc pc' d v : ℕ) (temps temps' : ℕ → ℕ) (s : State) (x : Step) → Has f.steps pc x → pc + 1 ≡ pc' →
      carried_plainly (mid_world entries ps qs addresses) x (stand f pc temps s) ≡ gives d v (stand f pc temps s) → ((t : ℕ) → t < d → temps t ≡ temps' t) →
      behind + 1 ≤ before → gain ≤ 2 → Follow entries ps qs addresses f before behind gain pc temps s (ok v s) (IsValue pc' d temps')
  made before behind gain pc pc' d v temps temps' s x has end goes kept cost turns =
      one_step before behind gain behind 0 pc (pc + 1) temps (set d v temps) s x (ok v s) (IsValue pc' d temps') has goes cost turns
      (here (mid_world entries ps qs addresses) f behind behind (pc + 1) (set d v temps) s v (IsValue pc' d temps')
      (record { at = end; word = set_same d v temps; kept = λ t low. set_below d v temps t low ∙ kept t low }) (omega arith))

  -- what may be missing
  pub found : (before behind gain pc pc' d : ℕ) (temps temps' : ℕ → ℕ) (s : State) (x : Step) (o : Option ℕ) → Has f.steps pc x → pc + 1 ≡ pc' →
      carried_plainly (mid_world entries ps qs addresses) x (stand f pc temps s) ≡ gives_found d o (stand f pc temps s) → ((t : ℕ) → t < d → temps t ≡ temps' t) →
      behind + 1 ≤ before → gain ≤ 2 → Follow entries ps qs addresses f before behind gain pc temps s (need (env_of entries ps qs addresses f) o s) (IsValue pc' d temps')
  found before behind gain pc pc' d temps temps' s x None has end goes kept cost turns = strays_here before behind gain pc temps s (IsValue pc' d temps')
  found before behind gain pc pc' d temps temps' s x (Some v) has end goes kept cost turns = made before behind gain pc pc' d v temps temps' s x has end goes kept cost turns

  -- a value, and then what is made of it
  pub after_value : {B : Type 0} (f' : Frame) (before behind gain b1 a1 g1 b2 a2 g2 pc pc' d : ℕ) (temps : ℕ → ℕ) (s : State) (r : Res ℕ) (m : ℕ → Act B)
      (goal : B → ℕ → (ℕ → ℕ) → Type 0) →
      b1 ≤ before → b1 + b2 ≤ before + a1 → b1 + b2 + behind ≤ before + a1 + a2 → gain ≤ g1 + g2 →
      Follow entries ps qs addresses f b1 a1 g1 pc temps s r (IsValue pc' d temps) →
      ((t : State) (temps' : ℕ → ℕ) → t.left ≤ s.left → ((x : ℕ) → x < d → temps' x ≡ temps x) →
      Sim (mid_world entries ps qs addresses) f' b2 a2 g2 (stand f pc' temps' t) t (m (temps' d) t) goal) →
      Sim (mid_world entries ps qs addresses) f' before behind gain (stand f pc temps s) s (then_by r m) goal
  after_value f' before behind gain b1 a1 g1 b2 a2 g2 pc pc' d temps s r m goal e1 e2 e3 e4 p rest =
      let w : MidWorld = mid_world entries ps qs addresses in
      after w f f' before behind gain b1 a1 g1 b2 a2 g2 (stand f pc temps s) s r m (IsValue pc' d temps) goal e1 e2 e3 e4 p (λ v t place temps' left is.
      let P : ℕ → Type 0 = λ q. Sim w f' b2 a2 g2 (stand f q temps' t) t (m v t) goal in
      let Q : ℕ → Type 0 = λ u. Sim w f' b2 a2 g2 (stand f pc' temps' t) t (m u t) goal in
      subst P (sym is.at) (subst Q is.word (rest t temps' left is.kept)))

  -- ---- nodes

  leaf : (pc pc' d v : ℕ) (temps : ℕ → ℕ) (s : State) (x : Step) → Has f.steps pc x → pc + 1 ≡ pc' →
      carried_plainly (mid_world entries ps qs addresses) x (stand f pc temps s) ≡ gives d v (stand f pc temps s) →
      Follow entries ps qs addresses f 1 12 1 pc temps s (then_by (ok v s) (λ u. spend (pure u))) (IsValue pc' d temps)
  leaf pc pc' d v temps s x has end goes =
      noded (mid_world entries ps qs addresses) f 1 12 1 1 0 2 (stand f pc temps s) s (ok v s) (IsValue pc' d temps) (omega arith) (omega arith) (omega arith)
      (made 1 0 2 pc pc' d v temps temps s x has end goes (λ t low. refl) (omega arith) (omega arith))

  leaf_found : (pc pc' d : ℕ) (temps : ℕ → ℕ) (s : State) (x : Step) (o : Option ℕ) → Has f.steps pc x → pc + 1 ≡ pc' →
      carried_plainly (mid_world entries ps qs addresses) x (stand f pc temps s) ≡ gives_found d o (stand f pc temps s) →
      Follow entries ps qs addresses f 1 12 1 pc temps s (then_by (need (env_of entries ps qs addresses f) o s) (λ u. spend (pure u))) (IsValue pc' d temps)
  leaf_found pc pc' d temps s x o has end goes =
      noded (mid_world entries ps qs addresses) f 1 12 1 1 0 2 (stand f pc temps s) s (need (env_of entries ps qs addresses f) o s) (IsValue pc' d temps) (omega arith) (omega arith) (omega arith)
      (found 1 0 2 pc pc' d temps temps s x o has end goes (λ t low. refl) (omega arith) (omega arith))

  -- an operand, and a step that makes the value of it
  one_sim : (pc q pc' d : ℕ) (temps : ℕ → ℕ) (s : State) (r : Res ℕ) (x : Step) (g : ℕ → ℕ) → Has f.steps q x → q + 1 ≡ pc' →
      ((t : State) (temps' : ℕ → ℕ) → carried_plainly (mid_world entries ps qs addresses) x (stand f q temps' t) ≡ gives d (g (temps' d)) (stand f q temps' t)) →
      Follow entries ps qs addresses f 1 12 1 pc temps s r (IsValue q d temps) →
      Follow entries ps qs addresses f 1 12 1 pc temps s (then_by (then_by r (λ v. pure (g v))) (λ u. spend (pure u))) (IsValue pc' d temps)
  one_sim pc q pc' d temps s r x g has end goes p =
      noded (mid_world entries ps qs addresses) f 1 12 1 1 11 3 (stand f pc temps s) s (then_by r (λ v. pure (g v))) (IsValue pc' d temps) (omega arith) (omega arith) (omega arith)
      (after_value f 1 11 3 1 12 1 1 0 2 pc q d temps s r (λ v. pure (g v)) (IsValue pc' d temps) (omega arith) (omega arith) (omega arith) (omega arith) p
      (λ t temps' left kept. made 1 0 2 q pc' d (g (temps' d)) temps' temps t x has end (goes t temps') kept (omega arith) (omega arith)))

  -- two operands
  two_sim : (pc q r pc' d : ℕ) (temps : ℕ → ℕ) (s : State) (first : Res ℕ) (second : Act ℕ) (x : Step) (g : ℕ → ℕ → ℕ) → Has f.steps r x → r + 1 ≡ pc' →
      ((t : State) (temps' : ℕ → ℕ) → carried_plainly (mid_world entries ps qs addresses) x (stand f r temps' t) ≡ gives d (g (temps' d) (temps' (d + 1))) (stand f r temps' t)) →
      Follow entries ps qs addresses f 1 12 1 pc temps s first (IsValue q d temps) →
      ((t : State) (temps' : ℕ → ℕ) → t.left ≤ s.left → Follow entries ps qs addresses f 1 12 1 q temps' t (second t) (IsValue r (d + 1) temps')) →
      Follow entries ps qs addresses f 1 12 1 pc temps s
      (then_by (then_by first (λ v t. then_by (second t) (λ u. pure (g v u)))) (λ u. spend (pure u))) (IsValue pc' d temps)
  two_sim pc q r pc' d temps s first second x g has end goes p1 p2 =
      noded (mid_world entries ps qs addresses) f 1 12 1 1 22 4 (stand f pc temps s) s (then_by first (λ v t. then_by (second t) (λ u. pure (g v u)))) (IsValue pc' d temps) (omega arith) (omega arith) (omega arith)
      (after_value f 1 22 4 1 12 1 1 11 3 pc q d temps s first (λ v t. then_by (second t) (λ u. pure (g v u))) (IsValue pc' d temps) (omega arith) (omega arith) (omega arith) (omega arith) p1
      (λ t temps1 left1 kept1.
      after_value f 1 11 3 1 12 1 1 0 2 q r (d + 1) temps1 t (second t) (λ u. pure (g (temps1 d) u)) (IsValue pc' d temps) (omega arith) (omega arith) (omega arith) (omega arith) (p2 t temps1 left1)
      (λ t2 temps2 left2 kept2.
      let same : temps2 d ≡ temps1 d = kept2 d (omega arith) in
      made 1 0 2 r pc' d (g (temps1 d) (temps2 (d + 1))) temps2 temps t2 x has end
      (goes t2 temps2 ∙ ap (λ (y : ℕ). gives d (g y (temps2 (d + 1))) (stand f r temps2 t2)) same)
      (λ y low. kept2 y (omega arith) ∙ kept1 y low) (omega arith) (omega arith))))

  -- a load
  load_found : (pc pc' d : ℕ) (temps temps' : ℕ → ℕ) (s : State) (x : Step) (o : Option (List ℕ)) → Has f.steps pc x → pc + 1 ≡ pc' →
      carried_plainly (mid_world entries ps qs addresses) x (stand f pc temps s) ≡ gives_found d (option_map number_of o) (stand f pc temps s) → ((t : ℕ) → t < d → temps t ≡ temps' t) →
      Follow entries ps qs addresses f 1 0 2 pc temps s (then_by (need (env_of entries ps qs addresses f) o s) (λ bytes. pure (number_of bytes))) (IsValue pc' d temps')
  load_found pc pc' d temps temps' s x None has end goes kept = strays_here 1 0 2 pc temps s (IsValue pc' d temps')
  load_found pc pc' d temps temps' s x (Some bytes) has end goes kept = made 1 0 2 pc pc' d (number_of bytes) temps temps' s x has end goes kept (omega arith) (omega arith)

  load_sim : (pc q pc' d n : ℕ) (width : Width) (temps : ℕ → ℕ) (s : State) (r : Res ℕ) → Has f.steps q (load_step d width d) → q + 1 ≡ pc' →
      Follow entries ps qs addresses f 1 12 1 pc temps s r (IsValue q d temps) →
      Follow entries ps qs addresses f 1 12 1 pc temps s
      (then_by (then_by r (λ a t. then_by (load_bytes (env_of entries ps qs addresses f) a (width_size width) t) (λ bytes. pure (number_of bytes))))
      (λ u. spend (pure u))) (IsValue pc' d temps)
  load_sim pc q pc' d n width temps s r has end p =
      let m : ℕ → Act ℕ = λ a t. then_by (load_bytes (env_of entries ps qs addresses f) a (width_size width) t) (λ bytes. pure (number_of bytes)) in
      noded (mid_world entries ps qs addresses) f 1 12 1 1 11 3 (stand f pc temps s) s (then_by r m) (IsValue pc' d temps) (omega arith) (omega arith) (omega arith)
      (after_value f 1 11 3 1 12 1 1 0 2 pc q d temps s r m (IsValue pc' d temps) (omega arith) (omega arith) (omega arith) (omega arith) p
      (λ t temps' left kept.
      charged 1 0 2 1 q (moved (width_size width)) temps' t (m (temps' d) t) (IsValue pc' d temps) (omega arith)
      (load_found q pc' d temps' temps (record t { cost = t.cost + moved (width_size width) }) (load_step d width d) (loaded f.touched t.memory (temps' d) (width_size width)) has end refl kept)))

module _ (entries : ℕ → ℕ) (ps : List Proc) (qs : List MidProc) (addresses : List ℕ) (f : Frame) (alike : AreAlike ps qs) (is_frame : IsFrame f) (n : ℕ) (calls_follow : CallsFollow entries ps qs addresses n) where
  -- ---- calls

  -- a call that is answered gives its value
  answered_value : (before behind gain pc pc' d : ℕ) (temps temps' : ℕ → ℕ) (s : State) (r : Res ℕ) → pc + 1 ≡ pc' → ((t : ℕ) → t < d → temps t ≡ temps' t) →
      Follow entries ps qs addresses f before behind gain pc temps s r (IsAnswered pc d temps) → Follow entries ps qs addresses f before behind gain pc temps s r (IsValue pc' d temps')
  answered_value before behind gain pc pc' d temps temps' s r end kept p =
      implied (mid_world entries ps qs addresses) f before behind gain (stand f pc temps s) s r (IsAnswered pc d temps) (IsValue pc' d temps')
      (λ v place temps2 h. record {
        at = h.at ∙ end;
        word = ap (λ (g : ℕ → ℕ). g d) h.is ∙ set_same d v temps;
        kept = λ t low. ap (λ (g : ℕ → ℕ). g t) h.is ∙ set_below d v temps t low ∙ kept t low;
      }) p

  -- a procedure by its position
  called_sim : (pc pc' d g k : ℕ) (vs : List ℕ) (temps temps' : ℕ → ℕ) (s : State) (p : Proc) → s.left ≤ n → slice_get ps g ≡ Some p → p.parameters ≡ length vs → length vs ≡ k →
      Has f.steps pc (call_step d g (temps_from d k)) → AreHeld temps d vs → pc + 1 ≡ pc' → ((t : ℕ) → t < d → temps t ≡ temps' t) →
      Follow entries ps qs addresses f (1 + 2 * k) 1 2 pc temps s (calls_of (core_world entries ps qs addresses) n None g vs f.touched f.low s) (IsValue pc' d temps')
  called_sim pc pc' d g k vs temps temps' s p left here many size has held end kept =
      let w : MidWorld = mid_world entries ps qs addresses in
      let goes : act w (stand f pc temps s) ≡ calls d (slice_get qs g) vs (stand f pc temps s) =
      acts w (stand f pc temps s) (call_step d g (temps_from d k)) has
      ∙ ap (λ (j : ℕ). calls d (slice_get qs g) (map temps (temps_from d j)) (stand f pc temps s)) (sym size)
      ∙ ap (λ (xs : List ℕ). calls d (slice_get qs g) xs (stand f pc temps s)) (held_words temps d vs held) in
      let r : Res ℕ = calls_of (core_world entries ps qs addresses) n None g vs f.touched f.low s in
      settled w f (1 + 2 * k) 1 2 (1 + 2 * length vs) 1 2 (stand f pc temps s) s r (IsValue pc' d temps') (omega arith) (omega arith) (omega arith)
      (answered_value (1 + 2 * length vs) 1 2 pc pc' d temps temps' s r end kept (calls_follow.by f is_frame pc temps s d g vs None p left here many goes))

  -- a procedure by its word
  told_sim : (pc pc' d g word : ℕ) (vs : List ℕ) (temps temps' : ℕ → ℕ) (s : State) (p : Proc) (o : Option (Entry ℕ ℕ)) → s.left ≤ n → slice_get ps g ≡ Some p → p.parameters ≡ length vs →
      act (mid_world entries ps qs addresses) (stand f pc temps s) ≡ calls_told d (slice_get qs g) vs o (stand f pc temps s) → pc + 1 ≡ pc' → ((t : ℕ) → t < d → temps t ≡ temps' t) →
      Follow entries ps qs addresses f (1 + 2 * length vs) 1 2 pc temps s
      (then_by (need (env_of entries ps qs addresses f) o s) (λ e. calls_of (core_world entries ps qs addresses) n (Some e) g vs f.touched f.low)) (IsValue pc' d temps')
  told_sim pc pc' d g word vs temps temps' s p None left here many goes end kept =
      strays_here entries ps qs addresses f (1 + 2 * length vs) 1 2 pc temps s (IsValue pc' d temps')
  told_sim pc pc' d g word vs temps temps' s p (Some e) left here many goes end kept =
      answered_value (1 + 2 * length vs) 1 2 pc pc' d temps temps' s (calls_of (core_world entries ps qs addresses) n (Some e) g vs f.touched f.low s) end kept
      (calls_follow.by f is_frame pc temps s d g vs (Some e) p left here many goes)

  marked_sim : (pc pc' d g word : ℕ) (vs : List ℕ) (temps temps' : ℕ → ℕ) (s : State) (p : Proc) (marked : Bool) → s.left ≤ n → slice_get ps g ≡ Some p → p.parameters ≡ length vs →
      act (mid_world entries ps qs addresses) (stand f pc temps s)
      ≡ (if marked then calls_told d (slice_get qs g) vs (event_of word vs) (stand f pc temps s) else calls d (slice_get qs g) vs (stand f pc temps s)) → pc + 1 ≡ pc' → ((t : ℕ) → t < d → temps t ≡ temps' t) →
      Follow entries ps qs addresses f (1 + 2 * length vs) 1 2 pc temps s
      ((if marked then (λ t. then_by (need (env_of entries ps qs addresses f) (event_of word vs) t) (λ e. calls_of (core_world entries ps qs addresses) n (Some e) g vs f.touched f.low))
      else calls_of (core_world entries ps qs addresses) n None g vs f.touched f.low) s) (IsValue pc' d temps')
  marked_sim pc pc' d g word vs temps temps' s p true left here many goes end kept =
      told_sim pc pc' d g word vs temps temps' s p (event_of word vs) left here many goes end kept
  marked_sim pc pc' d g word vs temps temps' s p false left here many goes end kept =
      answered_value (1 + 2 * length vs) 1 2 pc pc' d temps temps' s (calls_of (core_world entries ps qs addresses) n None g vs f.touched f.low s) end kept
      (calls_follow.by f is_frame pc temps s d g vs None p left here many goes)

  chosen_sim : (pc pc' d word : ℕ) (vs : List ℕ) (marked : Bool) (temps temps' : ℕ → ℕ) (s : State) (o : Option ℕ) → s.left ≤ n →
      act (mid_world entries ps qs addresses) (stand f pc temps s) ≡ calls_found (mid_world entries ps qs addresses) d word vs marked o (stand f pc temps s) →
      pc + 1 ≡ pc' → ((t : ℕ) → t < d → temps t ≡ temps' t) →
      Follow entries ps qs addresses f (1 + 2 * length vs) 1 2 pc temps s
      (call_found (calls_of (core_world entries ps qs addresses) n) (env_of entries ps qs addresses f) word vs marked o s) (IsValue pc' d temps')
  chosen_sim pc pc' d word vs marked temps temps' s None left goes end kept = strays_here entries ps qs addresses f (1 + 2 * length vs) 1 2 pc temps s (IsValue pc' d temps')
  chosen_sim pc pc' d word vs marked temps temps' s (Some g) left goes end kept = by_test (takes (length vs) (slice_get ps g)) refl
    where
      by_test : (b : Bool) → takes (length vs) (slice_get ps g) ≡ b →
          Follow entries ps qs addresses f (1 + 2 * length vs) 1 2 pc temps s
          ((if b
          then (if marked then (λ t. then_by (need (env_of entries ps qs addresses f) (event_of word vs) t) (λ e. calls_of (core_world entries ps qs addresses) n (Some e) g vs f.touched f.low))
          else calls_of (core_world entries ps qs addresses) n None g vs f.touched f.low)
          else (λ t. stop (strayed f.at) t)) s) (IsValue pc' d temps')
      by_test false e = strays_here entries ps qs addresses f (1 + 2 * length vs) 1 2 pc temps s (IsValue pc' d temps')
      by_test true e =
          let found = takes_some (length vs) (slice_get ps g) e in
          let other = found_at ps qs g found.0 alike found.1 in
          let taken : mid_takes (length vs) (slice_get qs g) ≡ true = takes_too (length vs) (slice_get qs g) found.0 other.0 other.1 other.2 found.2 in
          marked_sim pc pc' d g word vs temps temps' s found.0 marked left found.1 found.2
          (goes ∙ ap (λ (b : Bool). if b
          then (if marked then calls_told d (slice_get qs g) vs (event_of word vs) (stand f pc temps s) else calls d (slice_get qs g) vs (stand f pc temps s))
          else strays (stand f pc temps s)) taken)
          end kept

  -- the arguments, and then the call
  call_sim : (pc q pc' d g k : ℕ) (temps : ℕ → ℕ) (s : State) (r : Res (List ℕ)) (p : Proc) → s.left ≤ n → slice_get ps g ≡ Some p → p.parameters ≡ k →
      Has f.steps q (call_step d g (temps_from d k)) → q + 1 ≡ pc' →
      Follow entries ps qs addresses f 1 (1 + 11 * k) k pc temps s r (AreValues q d k temps) →
      Follow entries ps qs addresses f 1 12 1 pc temps s
      (then_by (then_by r (λ vs. calls_of (core_world entries ps qs addresses) n None g vs f.touched f.low)) (λ u. spend (pure u))) (IsValue pc' d temps)
  call_sim pc q pc' d g k temps s r p left here many has end arguments =
      let w : MidWorld = mid_world entries ps qs addresses in
      let m : List ℕ → Act ℕ = λ vs. calls_of (core_world entries ps qs addresses) n None g vs f.touched f.low in
      noded w f 1 12 1 1 1 2 (stand f pc temps s) s (then_by r m) (IsValue pc' d temps) (omega arith) (omega arith) (omega arith)
      (after w f f 1 1 2 1 (1 + 11 * k) k (1 + 2 * k) 1 2 (stand f pc temps s) s r m (AreValues q d k temps) (IsValue pc' d temps) (omega arith) (omega arith) (omega arith) (omega arith) arguments
      (λ vs t place temps' less h.
      let P : ℕ → Type 0 = λ x. Sim w f (1 + 2 * k) 1 2 (stand f x temps' t) t (m vs t) (IsValue pc' d temps) in
      subst P (sym h.at) (called_sim q pc' d g k vs temps' temps t p (omega arith) here (many ∙ sym h.count) h.count has h.held end h.kept)))

  call_value_sim : (pc q1 q2 pc' d k : ℕ) (marked : Bool) (temps : ℕ → ℕ) (s : State) (r : Res ℕ) (m : Act (List ℕ)) → s.left ≤ n →
      Has f.steps q2 (call_value_step d d (temps_from (d + 1) k) marked) → q2 + 1 ≡ pc' →
      Follow entries ps qs addresses f 1 12 1 pc temps s r (IsValue q1 d temps) →
      ((t : State) (temps' : ℕ → ℕ) → t.left ≤ s.left → Follow entries ps qs addresses f 1 (1 + 11 * k) k q1 temps' t (m t) (AreValues q2 (d + 1) k temps')) →
      Follow entries ps qs addresses f 1 12 1 pc temps s
      (then_by (then_by r (λ word t. then_by (m t)
      (λ vs. call_found (calls_of (core_world entries ps qs addresses) n) (env_of entries ps qs addresses f) word vs marked (called_by entries 0 ps word)))) (λ u. spend (pure u))) (IsValue pc' d temps)
  call_value_sim pc q1 q2 pc' d k marked temps s r m left has end target arguments =
      let w : MidWorld = mid_world entries ps qs addresses in
      let last : ℕ → List ℕ → Act ℕ = λ word vs. call_found (calls_of (core_world entries ps qs addresses) n) (env_of entries ps qs addresses f) word vs marked (called_by entries 0 ps word) in
      let both : ℕ → Act ℕ = λ word t. then_by (m t) (last word) in
      noded w f 1 12 1 1 1 2 (stand f pc temps s) s (then_by r both) (IsValue pc' d temps) (omega arith) (omega arith) (omega arith)
      (after_value entries ps qs addresses f f 1 1 2 1 12 1 1 1 2 pc q1 d temps s r both (IsValue pc' d temps) (omega arith) (omega arith) (omega arith) (omega arith) target
      (λ t temps1 left1 kept1.
      after w f f 1 1 2 1 (1 + 11 * k) k (1 + 2 * k) 1 2 (stand f q1 temps1 t) t (m t) (last (temps1 d)) (AreValues q2 (d + 1) k temps1) (IsValue pc' d temps) (omega arith) (omega arith) (omega arith) (omega arith)
      (arguments t temps1 left1)
      (λ vs t2 place temps2 left2 h.
      let P : ℕ → Type 0 = λ x. Sim w f (1 + 2 * k) 1 2 (stand f x temps2 t2) t2 (last (temps1 d) vs t2) (IsValue pc' d temps) in
      let word : temps2 d ≡ temps1 d = h.kept d (omega arith) in
      let c = stand f q2 temps2 t2 in
      let args : map temps2 (temps_from (d + 1) k) ≡ vs = ap (λ (j : ℕ). map temps2 (temps_from (d + 1) j)) (sym h.count) ∙ held_words temps2 (d + 1) vs h.held in
      let goes : act w c ≡ calls_found w d (temps1 d) vs marked (called_by entries 0 ps (temps1 d)) c =
      acts w c (call_value_step d d (temps_from (d + 1) k) marked) has
      ∙ ap (λ (x : ℕ). calls_found w d x (map temps2 (temps_from (d + 1) k)) marked (called_by entries 0 qs x) c) word
      ∙ ap (λ (xs : List ℕ). calls_found w d (temps1 d) xs marked (called_by entries 0 qs (temps1 d)) c) args
      ∙ ap (λ (o : Option ℕ). calls_found w d (temps1 d) vs marked o c) (called_alike entries 0 ps qs (temps1 d) alike) in
      subst P (sym h.at)
      (settled w f (1 + 2 * k) 1 2 (1 + 2 * length vs) 1 2 c t2 (last (temps1 d) vs t2) (IsValue pc' d temps) (omega (arith, h.count)) (omega (arith, h.count)) (omega arith)
      (chosen_sim q2 pc' d (temps1 d) vs marked temps2 temps t2 (called_by entries 0 ps (temps1 d)) (omega arith) goes end (λ x low. h.kept x (omega arith) ∙ kept1 x low))))))

  more_sim : (pc q pc' d k : ℕ) (temps : ℕ → ℕ) (s : State) (r : Res ℕ) (m : Act (List ℕ)) →
      Follow entries ps qs addresses f 1 12 1 pc temps s r (IsValue q d temps) →
      ((t : State) (temps' : ℕ → ℕ) → t.left ≤ s.left → Follow entries ps qs addresses f 1 (1 + 11 * k) k q temps' t (m t) (AreValues pc' (d + 1) k temps')) →
      Follow entries ps qs addresses f 1 (1 + 11 * suc k) (suc k) pc temps s (then_by r (λ v t. then_by (m t) (λ vs. pure (v ∷ vs)))) (AreValues pc' d (suc k) temps)
  more_sim pc q pc' d k temps s r m first rest =
      let w : MidWorld = mid_world entries ps qs addresses in
      after_value entries ps qs addresses f f 1 (1 + 11 * suc k) (suc k) 1 12 1 1 (1 + 11 * k) k pc q d temps s r (λ v t. then_by (m t) (λ vs. pure (v ∷ vs))) (AreValues pc' d (suc k) temps)
      (omega arith) (omega arith) (omega arith) (omega arith) first
      (λ t temps1 left1 kept1.
      after w f f 1 (1 + 11 * k) k 1 (1 + 11 * k) k 0 0 0 (stand f q temps1 t) t (m t) (λ vs. pure (temps1 d ∷ vs)) (AreValues pc' (d + 1) k temps1) (AreValues pc' d (suc k) temps)
      (omega arith) (omega arith) (omega arith) (omega arith) (rest t temps1 left1)
      (λ vs t2 place temps2 left2 h.
      here w f 0 0 place temps2 t2 (temps1 d ∷ vs) (AreValues pc' d (suc k) temps)
      (record { at = h.at; held = (h.kept d (omega arith), h.held); count = omega (arith, h.count); kept = λ x low. h.kept x (omega arith) ∙ kept1 x low }) (omega arith)))

  module _ (names : Names) (names_are : names.parameters ≡ parameters_of ps) where
    mutual
      pub expr_sim : (e : Expr) (d pc pc' : ℕ) (temps : ℕ → ℕ) (s : State) → Stands f.steps pc (expr_code d e) pc' → IsExpr names e → s.left ≤ n →
          Follow entries ps qs addresses f 1 12 1 pc temps s (value_of (calls_of (core_world entries ps qs addresses) n) (env_of entries ps qs addresses f) e s) (IsValue pc' d temps)
      expr_sim (const word) d pc pc' temps s at is left = leaf entries ps qs addresses f pc pc' d word temps s (const_step d word) at.0 at.1 refl
      expr_sim (slot x) d pc pc' temps s at is left =
          leaf_found entries ps qs addresses f pc pc' d temps s (address_step d (Variable x)) (variable_address f.low f.variables x) at.0 at.1 refl
      expr_sim (address x) d pc pc' temps s at is left =
          leaf_found entries ps qs addresses f pc pc' d temps s (address_step d (Stored x)) (slice_get addresses x) at.0 at.1 refl
      expr_sim (procedure g) d pc pc' temps s at is left =
          leaf entries ps qs addresses f pc pc' d (entries g) temps s (address_step d (Procedure g)) at.0 at.1 refl
      expr_sim (load width e) d pc pc' temps s at is left =
          let p = parts f.steps pc (expr_code d e) (load_step d width d ∷ []) pc' at in
          load_sim entries ps qs addresses f pc p.middle pc' d n width temps s
          (value_of (calls_of (core_world entries ps qs addresses) n) (env_of entries ps qs addresses f) e s) p.back.0 p.back.1 (expr_sim e d pc p.middle temps s p.front is left)
      expr_sim (unary op e) d pc pc' temps s at is left =
          let p = parts f.steps pc (expr_code d e) (unary_step d op d ∷ []) pc' at in
          one_sim entries ps qs addresses f pc p.middle pc' d temps s
          (value_of (calls_of (core_world entries ps qs addresses) n) (env_of entries ps qs addresses f) e s) (unary_step d op d) (unary_word op) p.back.0 p.back.1 (λ t temps'. refl)
          (expr_sim e d pc p.middle temps s p.front is left)
      expr_sim (binary op a b) d pc pc' temps s at is left =
          let p = parts f.steps pc (expr_code d a) (expr_code (d + 1) b ++ (binary_step d op d (d + 1) ∷ [])) pc' at in
          let q = parts f.steps p.middle (expr_code (d + 1) b) (binary_step d op d (d + 1) ∷ []) pc' p.back in
          two_sim entries ps qs addresses f pc p.middle q.middle pc' d temps s
          (value_of (calls_of (core_world entries ps qs addresses) n) (env_of entries ps qs addresses f) a s)
          (value_of (calls_of (core_world entries ps qs addresses) n) (env_of entries ps qs addresses f) b)
          (binary_step d op d (d + 1)) (binary_word op) q.back.0 q.back.1 (λ t temps'. refl)
          (expr_sim a d pc p.middle temps s p.front is.0 left)
          (λ t temps' less. expr_sim b (d + 1) p.middle q.middle temps' t q.front is.1 (omega arith))
      expr_sim (compare op a b) d pc pc' temps s at is left =
          let p = parts f.steps pc (expr_code d a) (expr_code (d + 1) b ++ (compare_step d op d (d + 1) ∷ [])) pc' at in
          let q = parts f.steps p.middle (expr_code (d + 1) b) (compare_step d op d (d + 1) ∷ []) pc' p.back in
          two_sim entries ps qs addresses f pc p.middle q.middle pc' d temps s
          (value_of (calls_of (core_world entries ps qs addresses) n) (env_of entries ps qs addresses f) a s)
          (value_of (calls_of (core_world entries ps qs addresses) n) (env_of entries ps qs addresses f) b)
          (compare_step d op d (d + 1)) (compare_words op) q.back.0 q.back.1 (λ t temps'. refl)
          (expr_sim a d pc p.middle temps s p.front is.0 left)
          (λ t temps' less. expr_sim b (d + 1) p.middle q.middle temps' t q.front is.1 (omega arith))
      expr_sim (call g es) d pc pc' temps s at is left =
          let p = parts f.steps pc (exprs_code d es) (call_step d g (temps_from d (count es)) ∷ []) pc' at in
          let found = parameters_at ps g (count es) (ap (λ (xs : List ℕ). slice_get xs g) (sym names_are) ∙ is.0) in
          call_sim pc p.middle pc' d g (count es) temps s
          (values_of (calls_of (core_world entries ps qs addresses) n) (env_of entries ps qs addresses f) es s) found.0 left found.1 found.2 p.back.0 p.back.1
          (exprs_sim es d pc p.middle temps s p.front is.1 left)
      expr_sim (call_value e es marked) d pc pc' temps s at is left =
          let p = parts f.steps pc (expr_code d e) (exprs_code (d + 1) es ++ (call_value_step d d (temps_from (d + 1) (count es)) marked ∷ [])) pc' at in
          let q = parts f.steps p.middle (exprs_code (d + 1) es) (call_value_step d d (temps_from (d + 1) (count es)) marked ∷ []) pc' p.back in
          call_value_sim pc p.middle q.middle pc' d (count es) marked temps s
          (value_of (calls_of (core_world entries ps qs addresses) n) (env_of entries ps qs addresses f) e s)
          (values_of (calls_of (core_world entries ps qs addresses) n) (env_of entries ps qs addresses f) es) left q.back.0 q.back.1
          (expr_sim e d pc p.middle temps s p.front is.0 left)
          (λ t temps' less. exprs_sim es (d + 1) p.middle q.middle temps' t q.front is.1 (omega arith))

      pub exprs_sim : (es : Exprs) (d pc pc' : ℕ) (temps : ℕ → ℕ) (s : State) → Stands f.steps pc (exprs_code d es) pc' → AreExprs names es → s.left ≤ n →
          Follow entries ps qs addresses f 1 (1 + 11 * count es) (count es) pc temps s (values_of (calls_of (core_world entries ps qs addresses) n) (env_of entries ps qs addresses f) es s)
          (AreValues pc' d (count es) temps)
      exprs_sim none d pc pc' temps s at is left =
          here (mid_world entries ps qs addresses) f 1 1 pc temps s [] (AreValues pc' d 0 temps) (record { at = at; held = tt; count = refl; kept = λ x low. refl }) (omega arith)
      exprs_sim (more e es) d pc pc' temps s at is left =
          let p = parts f.steps pc (expr_code d e) (exprs_code (d + 1) es) pc' at in
          more_sim pc p.middle pc' d (count es) temps s
          (value_of (calls_of (core_world entries ps qs addresses) n) (env_of entries ps qs addresses f) e s)
          (values_of (calls_of (core_world entries ps qs addresses) n) (env_of entries ps qs addresses f) es)
          (expr_sim e d pc p.middle temps s p.front is.0 left)
          (λ t temps' less. exprs_sim es (d + 1) p.middle pc' temps' t p.back is.1 (omega arith))
