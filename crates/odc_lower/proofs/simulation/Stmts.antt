-- The steps of a statement do what it does, and are left as it is left.
use Rattle.std.proofs.Common.{◌≡◌, ℕ, zero, suc, ◌+◌, ◌<◌, ◌≤◌, Bool, true, false, List, ◌∷◌, ◌++◌, length, map, take, drop, ap, ◌∙◌, sym, subst, refl, arith}
use Rattle.std.specs.Prelude.{Option, Some, None, get_or, ◌==◌, ◌%◌, ◌^◌, if◌then◌else◌}
use Rattle.odc_text.specs.declared.check.Check.{Check}
use Rattle.odc_text.specs.declared.place.Place.{Place}
use Rattle.odc_text.specs.Run.{exited, checked, strayed, going}
use Rattle.odc_text.specs.Steps.{on, over}
use Rattle.odc_core.specs.declared.tree.Descriptor.{Descriptor}
use Rattle.odc_core.specs.declared.tree.Width.{Width}
use Rattle.odc_core.specs.declared.tree.Width.TheVariants.{Double}
use Rattle.odc_core.specs.Words.{width_size, bytes_of}
use Rattle.odc_core.specs.Memory.{all_in, loaded, put, stored}
use Rattle.odc_core.specs.Well.{AreBytes}
use Rattle.odc_core.specs.Tree.{Proc}
use Rattle.odc_core.specs.Run.{State, Res, ok, stop, Act, then_by, pure, spend, need, remember, moved, load_bytes, store_bytes, write_bytes, read_bytes, entry_to, Flow, falls, leaves, answers, after as flow_after, after_turn, turns}
use Rattle.odc_mid.specs.declared.tree.SystemCall.TheVariants.{Read, Write, Exit}
use Rattle.odc_mid.specs.Tree.{Proc as MidProc}
use Rattle.odc_mid.specs.Run.{World as MidWorld, act, set, go_on, go_to, gives, with_memory, writes, reads, strays}
use Rattle.odc_lower.specs.Plain.{Step, store_step, jump_step, branch_step, return_step, check_step, system_step}
use Rattle.odc_lower.proofs.simulation.Runs.{one_leads}
use Rattle.odc_lower.proofs.Plains.{Has, acts, carried_plainly}
use Rattle.odc_lower.proofs.simulation.Sims.{Frame, stand, Sim, here, ends, onward, spent, settled, noded, after}
use Rattle.odc_lower.proofs.simulation.Temps.{set_same, set_below}
use Rattle.odc_lower.proofs.simulation.Worlds.{IsValue, mid_world, env_of, Follow}
use Rattle.odc_lower.proofs.simulation.Exprs.{one_step, charged, strays_here, after_value}
use Rattle.odc_lower.proofs.Sanity.{put_bytes, bytes_are, taken_are, dropped_are}
use Rattle.odc_lower.proofs.simulation.Flows.{IsLeft}

then_pure : {A : Type 0} (r : Res A) → then_by r pure ≡ r
then_pure (ok v t) = refl
then_pure (stop e t) = refl

module _ (entries : ℕ → ℕ) (ps : List Proc) (qs : List MidProc) (addresses : List ℕ) (f : Frame) where
  -- ---- stores

  -- one step that stores bytes
  pub stores : (pc : ℕ) (temps : ℕ → ℕ) (s : State) (a : ℕ) (bytes : List ℕ) (x : Step) (exits : List ℕ) → Has f.steps pc x → AreBytes bytes →
      carried_plainly (mid_world entries ps qs addresses) x (stand f pc temps s) ≡ with_memory (stored f.touched s.memory a bytes) (stand f pc temps s) →
      Follow entries ps qs addresses f 1 0 1 pc temps s (then_by (store_bytes (env_of entries ps qs addresses f) a bytes s) (λ u. pure falls)) (IsLeft f exits (pc + 1))
  stores pc temps s a bytes x exits has are goes =
      charged entries ps qs addresses f 1 0 1 1 pc (moved (length bytes)) temps s (then_by (store_bytes (env_of entries ps qs addresses f) a bytes s) (λ u. pure falls)) (IsLeft f exits (pc + 1)) (omega arith)
      (by_test (all_in f.touched a (length bytes)) refl)
    where
      by_test : (b : Bool) → all_in f.touched a (length bytes) ≡ b →
          Follow entries ps qs addresses f 1 0 1 pc temps (record s { cost = s.cost + moved (length bytes) })
          (then_by (remember (env_of entries ps qs addresses f) (if b then Some (put s.memory a bytes) else None) (record s { cost = s.cost + moved (length bytes) })) (λ u. pure falls)) (IsLeft f exits (pc + 1))
      by_test false e = strays_here entries ps qs addresses f 1 0 1 pc temps (record s { cost = s.cost + moved (length bytes) }) (IsLeft f exits (pc + 1))
      by_test true e =
          let w = mid_world entries ps qs addresses in
          let s1 : State = record s { cost = s.cost + moved (length bytes) } in
          let s2 : State = record s1 { memory = put s.memory a bytes } in
          let moves : act w (stand f pc temps s) ≡ on (stand f (pc + 1) temps s2) =
          acts w (stand f pc temps s) x has ∙ goes ∙ ap (λ (b : Bool). with_memory (if b then Some (put s.memory a bytes) else None) (stand f pc temps s)) e in
          onward w f 1 0 1 0 0 (stand f pc temps s) (stand f (pc + 1) temps s2) s1 s2 1 (ok falls s2) (IsLeft f exits (pc + 1))
          (one_leads (act w) (stand f pc temps s) (stand f (pc + 1) temps s2) moves) refl (omega arith) (omega arith)
          (λ h. record { memory = put_bytes bytes s.memory a h.memory are; input = h.input })
          (here w f 0 0 (pc + 1) temps s2 falls (IsLeft f exits (pc + 1)) refl (omega arith))

  -- ---- statements of one or two operands

  pub eval_sim : (pc pc' d : ℕ) (temps : ℕ → ℕ) (s : State) (exits : List ℕ) (r : Res ℕ) →
      Follow entries ps qs addresses f 1 12 1 pc temps s r (IsValue pc' d temps) →
      Follow entries ps qs addresses f 1 1 0 pc temps s (then_by (then_by r (λ v. pure falls)) (λ u. spend (pure u))) (IsLeft f exits pc')
  eval_sim pc pc' d temps s exits r p =
      let w = mid_world entries ps qs addresses in
      noded w f 1 1 0 1 12 1 (stand f pc temps s) s (then_by r (λ v. pure falls)) (IsLeft f exits pc') (omega arith) (omega arith) (omega arith)
      (after_value entries ps qs addresses f f 1 12 1 1 12 1 0 0 0 pc pc' d temps s r (λ v. pure falls) (IsLeft f exits pc') (omega arith) (omega arith) (omega arith) (omega arith) p
      (λ t temps' less kept. here w f 0 0 pc' temps' t falls (IsLeft f exits pc') refl (omega arith)))

  pub answer_sim : (pc q d : ℕ) (temps : ℕ → ℕ) (s : State) (exits : List ℕ) (end : ℕ) (r : Res ℕ) → Has f.steps q (return_step d) →
      Follow entries ps qs addresses f 1 12 1 pc temps s r (IsValue q d temps) →
      Follow entries ps qs addresses f 1 1 0 pc temps s (then_by (then_by r (λ v. pure (answers v))) (λ u. spend (pure u))) (IsLeft f exits end)
  answer_sim pc q d temps s exits end r has p =
      let w = mid_world entries ps qs addresses in
      noded w f 1 1 0 1 12 1 (stand f pc temps s) s (then_by r (λ v. pure (answers v))) (IsLeft f exits end) (omega arith) (omega arith) (omega arith)
      (after_value entries ps qs addresses f f 1 12 1 1 12 1 0 0 0 pc q d temps s r (λ v. pure (answers v)) (IsLeft f exits end) (omega arith) (omega arith) (omega arith) (omega arith) p
      (λ t temps' less kept. here w f 0 0 q temps' t (answers (temps' d)) (IsLeft f exits end) (record { value = d; has = has; word_is = refl }) (omega arith)))

  pub leave_sim : (pc pc' depth : ℕ) (temps : ℕ → ℕ) (s : State) (exits : List ℕ) → Has f.steps pc (jump_step (get_or exits depth 0)) → depth < length exits →
      Follow entries ps qs addresses f 1 1 0 pc temps s (then_by (pure (leaves depth) s) (λ u. spend (pure u))) (IsLeft f exits pc')
  leave_sim pc pc' depth temps s exits has inside =
      let w = mid_world entries ps qs addresses in
      noded w f 1 1 0 1 0 2 (stand f pc temps s) s (ok (leaves depth) s) (IsLeft f exits pc') (omega arith) (omega arith) (omega arith)
      (one_step entries ps qs addresses f 1 0 2 0 0 pc (get_or exits depth 0) temps temps s (jump_step (get_or exits depth 0)) (ok (leaves depth) s) (IsLeft f exits pc') has refl (omega arith) (omega arith)
      (here w f 0 0 (get_or exits depth 0) temps s (leaves depth) (IsLeft f exits pc') (record { inside = inside; at = refl }) (omega arith)))

  pub check_sim : (pc q d : ℕ) (which : Check) (place : Place) (temps : ℕ → ℕ) (s : State) (exits : List ℕ) (r : Res ℕ) → Has f.steps q (check_step d which place) →
      Follow entries ps qs addresses f 1 12 1 pc temps s r (IsValue q d temps) →
      Follow entries ps qs addresses f 1 1 0 pc temps s
      (then_by (then_by r (λ v. if v == 0 then (λ t. stop (checked which place) t) else pure falls)) (λ u. spend (pure u))) (IsLeft f exits (q + 1))
  check_sim pc q d which place temps s exits r has p =
      let w = mid_world entries ps qs addresses in
      let m : ℕ → Act Flow = λ v. if v == 0 then (λ t. stop (checked which place) t) else pure falls in
      noded w f 1 1 0 1 11 3 (stand f pc temps s) s (then_by r m) (IsLeft f exits (q + 1)) (omega arith) (omega arith) (omega arith)
      (after_value entries ps qs addresses f f 1 11 3 1 12 1 1 0 2 pc q d temps s r m (IsLeft f exits (q + 1)) (omega arith) (omega arith) (omega arith) (omega arith) p
      (λ t temps' less kept. by_test t temps' (temps' d == 0) refl))
    where
      by_test : (t : State) (temps' : ℕ → ℕ) (b : Bool) → (temps' d == 0) ≡ b →
          Follow entries ps qs addresses f 1 0 2 q temps' t ((if b then (λ u. stop (checked which place) u) else pure falls) t) (IsLeft f exits (q + 1))
      by_test t temps' true e =
          let w = mid_world entries ps qs addresses in
          let c = stand f q temps' t in
          ends w f 1 0 2 c t (checked which place) (IsLeft f exits (q + 1))
          (record { last = c; over = acts w c (check_step d which place) has ∙ ap (λ (b : Bool). if b then over (checked which place) c else go_on c) e; log = refl; taken = refl })
      by_test t temps' false e =
          let w = mid_world entries ps qs addresses in
          let c = stand f q temps' t in
          one_step entries ps qs addresses f 1 0 2 0 0 q (q + 1) temps' temps' t (check_step d which place) (ok falls t) (IsLeft f exits (q + 1)) has
          (ap (λ (b : Bool). if b then over (checked which place) c else go_on c) e) (omega arith) (omega arith)
          (here w f 0 0 (q + 1) temps' t falls (IsLeft f exits (q + 1)) refl (omega arith))

  pub exit_sim : (pc q pc' d : ℕ) (temps : ℕ → ℕ) (s : State) (exits : List ℕ) (r : Res ℕ) → Has f.steps q (system_step (Exit d)) →
      Follow entries ps qs addresses f 1 12 1 pc temps s r (IsValue q d temps) →
      Follow entries ps qs addresses f 1 1 0 pc temps s (then_by (then_by r (λ v t. stop (exited (v % 2 ^ 8)) t)) (λ u. spend (pure u))) (IsLeft f exits pc')
  exit_sim pc q pc' d temps s exits r has p =
      let w = mid_world entries ps qs addresses in
      noded w f 1 1 0 1 1 1 (stand f pc temps s) s (then_by r (λ v t. stop (exited (v % 2 ^ 8)) t)) (IsLeft f exits pc') (omega arith) (omega arith) (omega arith)
      (after_value entries ps qs addresses f f 1 1 1 1 12 1 1 0 0 pc q d temps s r (λ v t. stop (exited (v % 2 ^ 8)) t) (IsLeft f exits pc') (omega arith) (omega arith) (omega arith) (omega arith) p
      (λ t temps' less kept.
      let c = stand f q temps' t in
      ends w f 1 0 0 c t (exited (temps' d % 2 ^ 8)) (IsLeft f exits pc') (record { last = c; over = acts w c (system_step (Exit d)) has; log = refl; taken = refl })))

  pub store_sim : (pc q r d : ℕ) (width : Width) (temps : ℕ → ℕ) (s : State) (exits : List ℕ) (first : Res ℕ) (second : Act ℕ) → Has f.steps r (store_step width d (d + 1)) →
      Follow entries ps qs addresses f 1 12 1 pc temps s first (IsValue q d temps) →
      ((t : State) (temps' : ℕ → ℕ) → t.left ≤ s.left → Follow entries ps qs addresses f 1 12 1 q temps' t (second t) (IsValue r (d + 1) temps')) →
      Follow entries ps qs addresses f 1 1 0 pc temps s
      (then_by (then_by first (λ a t. then_by (second t) (λ v u. then_by (store_bytes (env_of entries ps qs addresses f) a (bytes_of (width_size width) v) u) (λ _. pure falls)))) (λ u. spend (pure u)))
      (IsLeft f exits (r + 1))
  store_sim pc q r d width temps s exits first second has p1 p2 =
      let w = mid_world entries ps qs addresses in
      let last : ℕ → ℕ → Act Flow = λ a v u. then_by (store_bytes (env_of entries ps qs addresses f) a (bytes_of (width_size width) v) u) (λ _. pure falls) in
      let m : ℕ → Act Flow = λ a t. then_by (second t) (last a) in
      noded w f 1 1 0 1 1 1 (stand f pc temps s) s (then_by first m) (IsLeft f exits (r + 1)) (omega arith) (omega arith) (omega arith)
      (after_value entries ps qs addresses f f 1 1 1 1 12 1 1 1 1 pc q d temps s first m (IsLeft f exits (r + 1)) (omega arith) (omega arith) (omega arith) (omega arith) p1
      (λ t temps1 left1 kept1.
      after_value entries ps qs addresses f f 1 1 1 1 12 1 1 0 1 q r (d + 1) temps1 t (second t) (last (temps1 d)) (IsLeft f exits (r + 1)) (omega arith) (omega arith) (omega arith) (omega arith) (p2 t temps1 left1)
      (λ t2 temps2 left2 kept2.
      let same : temps2 d ≡ temps1 d = kept2 d (omega arith) in
      stores r temps2 t2 (temps1 d) (bytes_of (width_size width) (temps2 (d + 1))) (store_step width d (d + 1)) exits has (bytes_are (width_size width) (temps2 (d + 1)))
      (ap (λ (a : ℕ). with_memory (stored f.touched t2.memory a (bytes_of (width_size width) (temps2 (d + 1)))) (stand f r temps2 t2)) same))))

  -- ---- the outside

  -- what is loaded is written
  wrote : (pc : ℕ) (descriptor : Descriptor) (temps : ℕ → ℕ) (s : State) (exits : List ℕ) (x : Step) (o : Option (List ℕ)) → Has f.steps pc x →
      carried_plainly (mid_world entries ps qs addresses) x (stand f pc temps s) ≡ writes (entry_to descriptor) o (stand f pc temps s) →
      Follow entries ps qs addresses f 1 0 1 pc temps s
      (then_by (need (env_of entries ps qs addresses f) o s) (λ bytes t. then_by (write_bytes descriptor bytes t) (λ _. pure falls))) (IsLeft f exits (pc + 1))
  wrote pc descriptor temps s exits x None has goes = strays_here entries ps qs addresses f 1 0 1 pc temps s (IsLeft f exits (pc + 1))
  wrote pc descriptor temps s exits x (Some bytes) has goes =
      let w = mid_world entries ps qs addresses in
      let s2 : State = record s { log = s.log ++ map (entry_to descriptor) bytes; cost = s.cost + length bytes } in
      onward w f 1 0 1 0 0 (stand f pc temps s) (stand f (pc + 1) temps s2) s s2 1 (ok falls s2) (IsLeft f exits (pc + 1))
      (one_leads (act w) (stand f pc temps s) (stand f (pc + 1) temps s2) (acts w (stand f pc temps s) x has ∙ goes)) refl (omega arith) (omega arith)
      (λ h. record { memory = h.memory; input = h.input })
      (here w f 0 0 (pc + 1) temps s2 falls (IsLeft f exits (pc + 1)) refl (omega arith))

  pub write_sim : (pc q r d : ℕ) (descriptor : Descriptor) (temps : ℕ → ℕ) (s : State) (exits : List ℕ) (first : Res ℕ) (second : Act ℕ) → Has f.steps r (system_step (Write descriptor d (d + 1))) →
      Follow entries ps qs addresses f 1 12 1 pc temps s first (IsValue q d temps) →
      ((t : State) (temps' : ℕ → ℕ) → t.left ≤ s.left → Follow entries ps qs addresses f 1 12 1 q temps' t (second t) (IsValue r (d + 1) temps')) →
      Follow entries ps qs addresses f 1 1 0 pc temps s
      (then_by (then_by first (λ a t. then_by (second t) (λ k u.
      then_by (load_bytes (env_of entries ps qs addresses f) a k u) (λ bytes v. then_by (write_bytes descriptor bytes v) (λ _. pure falls))))) (λ u. spend (pure u)))
      (IsLeft f exits (r + 1))
  write_sim pc q r d descriptor temps s exits first second has p1 p2 =
      let w = mid_world entries ps qs addresses in
      let last : ℕ → ℕ → Act Flow = λ a k u. then_by (load_bytes (env_of entries ps qs addresses f) a k u) (λ bytes v. then_by (write_bytes descriptor bytes v) (λ _. pure falls)) in
      let m : ℕ → Act Flow = λ a t. then_by (second t) (last a) in
      noded w f 1 1 0 1 1 1 (stand f pc temps s) s (then_by first m) (IsLeft f exits (r + 1)) (omega arith) (omega arith) (omega arith)
      (after_value entries ps qs addresses f f 1 1 1 1 12 1 1 1 1 pc q d temps s first m (IsLeft f exits (r + 1)) (omega arith) (omega arith) (omega arith) (omega arith) p1
      (λ t temps1 left1 kept1.
      after_value entries ps qs addresses f f 1 1 1 1 12 1 1 0 1 q r (d + 1) temps1 t (second t) (last (temps1 d)) (IsLeft f exits (r + 1)) (omega arith) (omega arith) (omega arith) (omega arith) (p2 t temps1 left1)
      (λ t2 temps2 left2 kept2.
      let same : temps2 d ≡ temps1 d = kept2 d (omega arith) in
      let k = temps2 (d + 1) in
      charged entries ps qs addresses f 1 0 1 1 r (moved k) temps2 t2 (last (temps1 d) k t2) (IsLeft f exits (r + 1)) (omega arith)
      (wrote r descriptor temps2 (record t2 { cost = t2.cost + moved k }) exits (system_step (Write descriptor d (d + 1))) (loaded f.touched t2.memory (temps1 d) k) has
      (ap (λ (a : ℕ). writes (entry_to descriptor) (loaded f.touched t2.memory a k) (stand f r temps2 t2)) same)))))

  -- a read, and the number of bytes that came
  read_came : (pc d : ℕ) (temps : ℕ → ℕ) (s : State) (a k at : ℕ) (exits : List ℕ) → temps d ≡ a → temps (d + 1) ≡ k → temps (d + 2) ≡ at →
      Has f.steps pc (system_step (Read (d + 3) d (d + 1))) → Has f.steps (pc + 1) (store_step Double (d + 2) (d + 3)) →
      Follow entries ps qs addresses f 2 0 3 pc temps s
      (then_by (read_bytes (env_of entries ps qs addresses f) a k s) (λ came t. then_by (store_bytes (env_of entries ps qs addresses f) at (bytes_of 8 came) t) (λ _. pure falls)))
      (IsLeft f exits (pc + 1 + 1))
  read_came pc d temps s a k at exits e1 e2 e3 has1 has2 = by_test (all_in f.touched a k) refl
    where
      came : ℕ
      came = length (take k s.input)

      by_test : (b : Bool) → all_in f.touched a k ≡ b →
          Follow entries ps qs addresses f 2 0 3 pc temps s
          (then_by
          (if b
          then ok (length (take k s.input)) (record s { memory = put s.memory a (take k s.input); input = drop k s.input; taken = s.taken + length (take k s.input); cost = s.cost + moved (length (take k s.input)) })
          else stop (strayed f.at) s) (λ came t. then_by (store_bytes (env_of entries ps qs addresses f) at (bytes_of 8 came) t) (λ _. pure falls)))
          (IsLeft f exits (pc + 1 + 1))
      by_test false e = strays_here entries ps qs addresses f 2 0 3 pc temps s (IsLeft f exits (pc + 1 + 1))
      by_test true e =
          let w = mid_world entries ps qs addresses in
          let n : ℕ = length (take k s.input) in
          let s2 : State = record s { memory = put s.memory a (take k s.input); input = drop k s.input; taken = s.taken + n; cost = s.cost + moved n } in
          let c = stand f pc temps s in
          let temps2 = set (d + 3) n temps in
          let moves : act w c ≡ on (stand f (pc + 1) temps2 s2) =
          acts w c (system_step (Read (d + 3) d (d + 1))) has1
          ∙ ap (λ (x : ℕ). reads (d + 3) x (temps (d + 1)) c) e1
          ∙ ap (λ (x : ℕ). reads (d + 3) a x c) e2
          ∙ ap (λ (b : Bool). if b
          then gives (d + 3) n (record c { memory = put s.memory a (take k s.input); input = drop k s.input; taken = s.taken + n })
          else strays c) e in
          let place : temps2 (d + 2) ≡ at = set_below (d + 3) n temps (d + 2) (omega arith) ∙ e3 in
          let word : temps2 (d + 3) ≡ n = set_same (d + 3) n temps in
          onward w f 2 0 3 1 1 c (stand f (pc + 1) temps2 s2) s s2 1
          (then_by (store_bytes (env_of entries ps qs addresses f) at (bytes_of 8 n) s2) (λ _. pure falls)) (IsLeft f exits (pc + 1 + 1))
          (one_leads (act w) c (stand f (pc + 1) temps2 s2) moves) refl (omega arith) (omega arith)
          (λ h. record { memory = put_bytes (take k s.input) s.memory a h.memory (taken_are k s.input h.input); input = dropped_are k s.input h.input })
          (stores (pc + 1) temps2 s2 at (bytes_of 8 n) (store_step Double (d + 2) (d + 3)) exits has2 (bytes_are 8 n)
          (ap (λ (x : ℕ). with_memory (stored f.touched s2.memory x (bytes_of 8 (temps2 (d + 3)))) (stand f (pc + 1) temps2 s2)) place
          ∙ ap (λ (x : ℕ). with_memory (stored f.touched s2.memory at (bytes_of 8 x)) (stand f (pc + 1) temps2 s2)) word))

  pub read_sim : (pc q r z d : ℕ) (temps : ℕ → ℕ) (s : State) (exits : List ℕ) (first : Res ℕ) (second third : Act ℕ) →
      Has f.steps z (system_step (Read (d + 3) d (d + 1))) → Has f.steps (z + 1) (store_step Double (d + 2) (d + 3)) →
      Follow entries ps qs addresses f 1 12 1 pc temps s first (IsValue q d temps) →
      ((t : State) (temps' : ℕ → ℕ) → t.left ≤ s.left → Follow entries ps qs addresses f 1 12 1 q temps' t (second t) (IsValue r (d + 1) temps')) →
      ((t : State) (temps' : ℕ → ℕ) → t.left ≤ s.left → Follow entries ps qs addresses f 1 12 1 r temps' t (third t) (IsValue z (d + 2) temps')) →
      Follow entries ps qs addresses f 1 1 0 pc temps s
      (then_by (then_by first (λ a t. then_by (second t) (λ k u. then_by (third u) (λ at v.
      then_by (read_bytes (env_of entries ps qs addresses f) a k v) (λ came x. then_by (store_bytes (env_of entries ps qs addresses f) at (bytes_of 8 came) x) (λ _. pure falls)))))) (λ u. spend (pure u)))
      (IsLeft f exits (z + 1 + 1))
  read_sim pc q r z d temps s exits first second third has1 has2 p1 p2 p3 =
      let w = mid_world entries ps qs addresses in
      let goal = IsLeft f exits (z + 1 + 1) in
      let last : ℕ → ℕ → ℕ → Act Flow =
      λ a k at v. then_by (read_bytes (env_of entries ps qs addresses f) a k v) (λ came x. then_by (store_bytes (env_of entries ps qs addresses f) at (bytes_of 8 came) x) (λ _. pure falls)) in
      let m2 : ℕ → ℕ → Act Flow = λ a k u. then_by (third u) (last a k) in
      let m1 : ℕ → Act Flow = λ a t. then_by (second t) (m2 a) in
      noded w f 1 1 0 1 1 1 (stand f pc temps s) s (then_by first m1) goal (omega arith) (omega arith) (omega arith)
      (after_value entries ps qs addresses f f 1 1 1 1 12 1 1 1 1 pc q d temps s first m1 goal (omega arith) (omega arith) (omega arith) (omega arith) p1
      (λ t temps1 left1 kept1.
      after_value entries ps qs addresses f f 1 1 1 1 12 1 1 1 1 q r (d + 1) temps1 t (second t) (m2 (temps1 d)) goal (omega arith) (omega arith) (omega arith) (omega arith) (p2 t temps1 left1)
      (λ t2 temps2 left2 kept2.
      after_value entries ps qs addresses f f 1 1 1 1 12 1 2 0 3 r z (d + 2) temps2 t2 (third t2) (last (temps1 d) (temps2 (d + 1))) goal (omega arith) (omega arith) (omega arith) (omega arith) (p3 t2 temps2 (omega arith))
      (λ t3 temps3 left3 kept3.
      read_came z d temps3 t3 (temps1 d) (temps2 (d + 1)) (temps3 (d + 2)) exits (kept3 d (omega arith) ∙ kept2 d (omega arith)) (kept3 (d + 1) (omega arith)) refl has1 has2))))

  -- ---- choices

  pub choose_sim : (pc q end begin d : ℕ) (temps : ℕ → ℕ) (s : State) (exits : List ℕ) (r : Res ℕ) (first second : Act Flow) (jump : ℕ) →
      Has f.steps q (branch_step d begin) → Has f.steps jump (jump_step end) →
      Follow entries ps qs addresses f 1 12 1 pc temps s r (IsValue q d temps) →
      ((t : State) (temps' : ℕ → ℕ) → t.left ≤ s.left → Follow entries ps qs addresses f 1 1 0 begin temps' t (first t) (IsLeft f exits end)) →
      ((t : State) (temps' : ℕ → ℕ) → t.left ≤ s.left → Follow entries ps qs addresses f 1 1 0 (q + 1) temps' t (second t) (IsLeft f exits jump)) →
      Follow entries ps qs addresses f 1 1 0 pc temps s (then_by (then_by r (λ v. if v == 0 then second else first)) (λ u. spend (pure u))) (IsLeft f exits end)
  choose_sim pc q end begin d temps s exits r first second jump has_branch has_jump p on_first on_second =
      let w = mid_world entries ps qs addresses in
      let m : ℕ → Act Flow = λ v. if v == 0 then second else first in
      noded w f 1 1 0 1 1 1 (stand f pc temps s) s (then_by r m) (IsLeft f exits end) (omega arith) (omega arith) (omega arith)
      (after_value entries ps qs addresses f f 1 1 1 1 12 1 3 0 2 pc q d temps s r m (IsLeft f exits end) (omega arith) (omega arith) (omega arith) (omega arith) p
      (λ t temps' less kept. by_test t temps' less (temps' d == 0) refl))
    where
      -- behind the second list
      jumped : (flow : Flow) (t : State) (place : ℕ) (temps' : ℕ → ℕ) → IsLeft f exits jump flow place temps' →
          Sim (mid_world entries ps qs addresses) f 1 0 0 (stand f place temps' t) t (ok flow t) (IsLeft f exits end)
      jumped falls t place temps' h =
          let w = mid_world entries ps qs addresses in
          let P : ℕ → Type 0 = λ x. Sim w f 1 0 0 (stand f x temps' t) t (ok falls t) (IsLeft f exits end) in
          subst P (sym h) (one_step entries ps qs addresses f 1 0 0 0 0 jump end temps' temps' t (jump_step end) (ok falls t) (IsLeft f exits end) has_jump refl (omega arith) (omega arith)
          (here w f 0 0 end temps' t falls (IsLeft f exits end) refl (omega arith)))
      jumped (leaves depth) t place temps' h = here (mid_world entries ps qs addresses) f 1 0 place temps' t (leaves depth) (IsLeft f exits end) h (omega arith)
      jumped (answers word) t place temps' h = here (mid_world entries ps qs addresses) f 1 0 place temps' t (answers word) (IsLeft f exits end) h (omega arith)

      by_test : (t : State) (temps' : ℕ → ℕ) → t.left ≤ s.left → (b : Bool) → (temps' d == 0) ≡ b →
          Follow entries ps qs addresses f 3 0 2 q temps' t ((if b then second else first) t) (IsLeft f exits end)
      by_test t temps' less true e =
          let w = mid_world entries ps qs addresses in
          let c = stand f q temps' t in
          one_step entries ps qs addresses f 3 0 2 2 0 q (q + 1) temps' temps' t (branch_step d begin) (second t) (IsLeft f exits end) has_branch
          (ap (λ (b : Bool). if b then go_on c else go_to begin c) e) (omega arith) (omega arith)
          (settled_second w t temps' (on_second t temps' less))
        where
          settled_second : (w : MidWorld) (t : State) (temps' : ℕ → ℕ) → Sim (mid_world entries ps qs addresses) f 1 1 0 (stand f (q + 1) temps' t) t (second t) (IsLeft f exits jump) →
              Sim (mid_world entries ps qs addresses) f 2 0 0 (stand f (q + 1) temps' t) t (second t) (IsLeft f exits end)
          settled_second w t temps' h =
              let P : Res Flow → Type 0 = λ x. Sim (mid_world entries ps qs addresses) f 2 0 0 (stand f (q + 1) temps' t) t x (IsLeft f exits end) in
              subst P (then_pure (second t))
              (after (mid_world entries ps qs addresses) f f 2 0 0 1 1 0 1 0 0 (stand f (q + 1) temps' t) t (second t) pure (IsLeft f exits jump) (IsLeft f exits end)
              (omega arith) (omega arith) (omega arith) (omega arith) h (λ flow u place temps2 less2 left. jumped flow u place temps2 left))
      by_test t temps' less false e =
          let w = mid_world entries ps qs addresses in
          let c = stand f q temps' t in
          one_step entries ps qs addresses f 3 0 2 2 0 q begin temps' temps' t (branch_step d begin) (first t) (IsLeft f exits end) has_branch
          (ap (λ (b : Bool). if b then go_on c else go_to begin c) e) (omega arith) (omega arith)
          (settled w f 2 0 0 1 1 0 (stand f begin temps' t) t (first t) (IsLeft f exits end) (omega arith) (omega arith) (omega arith) (on_first t temps' less))

  -- ---- sequences

  pub follow_sim : (pc q end : ℕ) (temps : ℕ → ℕ) (s : State) (exits : List ℕ) (r : Res Flow) (rest : Act Flow) →
      Follow entries ps qs addresses f 1 1 0 pc temps s r (IsLeft f exits q) →
      ((t : State) (temps' : ℕ → ℕ) → t.left ≤ s.left → Follow entries ps qs addresses f 1 1 0 q temps' t (rest t) (IsLeft f exits end)) →
      Follow entries ps qs addresses f 1 1 0 pc temps s (then_by r (λ flow. flow_after flow rest)) (IsLeft f exits end)
  follow_sim pc q end temps s exits r rest first others =
      after (mid_world entries ps qs addresses) f f 1 1 0 1 1 0 1 1 0 (stand f pc temps s) s r (λ flow. flow_after flow rest) (IsLeft f exits q) (IsLeft f exits end)
      (omega arith) (omega arith) (omega arith) (omega arith) first goes
    where
      goes : (flow : Flow) (t : State) (place : ℕ) (temps' : ℕ → ℕ) → t.left ≤ s.left → IsLeft f exits q flow place temps' →
          Sim (mid_world entries ps qs addresses) f 1 1 0 (stand f place temps' t) t (flow_after flow rest t) (IsLeft f exits end)
      goes falls t place temps' less h =
          let P : ℕ → Type 0 = λ x. Sim (mid_world entries ps qs addresses) f 1 1 0 (stand f x temps' t) t (rest t) (IsLeft f exits end) in
          subst P (sym h) (others t temps' less)
      goes (leaves depth) t place temps' less h = here (mid_world entries ps qs addresses) f 1 1 place temps' t (leaves depth) (IsLeft f exits end) h (omega arith)
      goes (answers word) t place temps' less h = here (mid_world entries ps qs addresses) f 1 1 place temps' t (answers word) (IsLeft f exits end) h (omega arith)

  -- ---- loops

  -- the turns of a loop that begins at `begin`, from a jump there on
  pub turns_sim : (n bound begin end exit : ℕ) (exits : List ℕ) (body : Act Flow) → Has f.steps end (jump_step begin) →
      ((t : State) (temps' : ℕ → ℕ) → t.left ≤ bound → Follow entries ps qs addresses f 1 1 0 begin temps' t (body t) (IsLeft f (exit ∷ exits) end)) →
      (pc : ℕ) (temps : ℕ → ℕ) (s : State) → s.left ≤ n → s.left ≤ bound → Has f.steps pc (jump_step begin) →
      Follow entries ps qs addresses f 1 1 1 pc temps s (turns n body s) (IsLeft f exits exit)
  turns_sim zero bound begin end exit exits body has_end turn pc temps s left below has =
      ends (mid_world entries ps qs addresses) f 1 1 1 (stand f pc temps s) s going (IsLeft f exits exit) (record { log = refl; taken = refl }, omega arith)
  turns_sim (suc n) bound begin end exit exits body has_end turn pc temps s left below has =
      let w = mid_world entries ps qs addresses in
      let c = stand f pc temps s in
      spent w f 1 1 1 1 0 c (stand f begin temps s) s 1 (λ t. then_by (body t) (λ flow. after_turn flow (turns n body))) (IsLeft f exits exit)
      (one_leads (act w) c (stand f begin temps s) (acts w c (jump_step begin) has)) (record { log = refl; taken = refl }) (omega arith) (omega arith) (omega arith)
      (λ l e.
      let s1 : State = record s { left = l; cost = s.cost + 1 } in
      after w f f 1 1 0 1 1 0 1 1 0 (stand f begin temps s1) s1 (body s1) (λ flow. after_turn flow (turns n body)) (IsLeft f (exit ∷ exits) end) (IsLeft f exits exit)
      (omega arith) (omega arith) (omega arith) (omega arith) (turn s1 temps (omega arith))
      (λ flow t place temps' less h. goes (λ pc' temps2 t2 left2 below2 has2. turns_sim n bound begin end exit exits body has_end turn pc' temps2 t2 left2 below2 has2) flow t place temps' (omega arith) (omega arith) h))
    where
      goes : ((pc' : ℕ) (temps2 : ℕ → ℕ) (t2 : State) → t2.left ≤ n → t2.left ≤ bound → Has f.steps pc' (jump_step begin) → Follow entries ps qs addresses f 1 1 1 pc' temps2 t2 (turns n body t2) (IsLeft f exits exit)) →
          (flow : Flow) (t : State) (place : ℕ) (temps' : ℕ → ℕ) → t.left ≤ n → t.left ≤ bound → IsLeft f (exit ∷ exits) end flow place temps' →
          Sim (mid_world entries ps qs addresses) f 1 1 0 (stand f place temps' t) t (after_turn flow (turns n body) t) (IsLeft f exits exit)
      goes again falls t place temps' less below h =
          let w = mid_world entries ps qs addresses in
          let P : ℕ → Type 0 = λ x. Sim w f 1 1 0 (stand f x temps' t) t (turns n body t) (IsLeft f exits exit) in
          subst P (sym h) (settled w f 1 1 0 1 1 1 (stand f end temps' t) t (turns n body t) (IsLeft f exits exit) (omega arith) (omega arith) (omega arith) (again end temps' t less below has_end))
      goes again (leaves zero) t place temps' less below h = here (mid_world entries ps qs addresses) f 1 1 place temps' t falls (IsLeft f exits exit) h.at (omega arith)
      goes again (leaves (suc depth)) t place temps' less below h =
          here (mid_world entries ps qs addresses) f 1 1 place temps' t (leaves depth) (IsLeft f exits exit) (record { inside = omega (arith, h.inside); at = h.at }) (omega arith)
      goes again (answers word) t place temps' less below h = here (mid_world entries ps qs addresses) f 1 1 place temps' t (answers word) (IsLeft f exits exit) h (omega arith)
