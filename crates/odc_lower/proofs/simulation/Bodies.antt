-- The steps of a body do what it does.
use Rattle.std.proofs.Common.{◌≡◌, ℕ, ◌+◌, ◌*◌, ◌≤◌, Bool, true, false, List, [], ◌∷◌, ◌++◌, length, ap, ◌∙◌, sym, subst, refl, arith}
use Rattle.std.specs.Prelude.{Option, Some, None, replicate, if◌then◌else◌}
use Rattle.std.proofs.lemmas.List.{length-replicate}
use Rattle.odc_text.specs.Run.{strayed}
use Rattle.odc_core.specs.declared.tree.Width.TheVariants.{Double}
use Rattle.odc_core.specs.Memory.{all_in, bytes_at, put}
use Rattle.odc_core.specs.Well.{AreBytes, Names, IsExpr, IsStmt, AreStmts, parameters_of}
use Rattle.odc_core.specs.Tree.{Expr, Stmt, eval, store, copy, zero_bytes, choose, repeat, leave, answer, check, read, write, exit, Stmts, finish, follow, Proc}
use Rattle.odc_core.specs.Run.{State, Res, ok, stop, Act, then_by, pure, spend, need, remember, moved, load_bytes, store_bytes, Calls, calls_of, value_of, exec, exec_all, Flow, falls, turns}
use Rattle.odc_mid.specs.declared.tree.SystemCall.TheVariants.{Read, Write, Exit}
use Rattle.odc_mid.specs.Tree.{Proc as MidProc}
use Rattle.odc_mid.specs.Run.{act}
use Rattle.odc_lower.specs.Plain.{store_step, jump_step, branch_step, return_step, check_step, system_step}
use Rattle.odc_lower.specs.Size.{expr_nodes, stmt_size, stmts_size}
use Rattle.odc_lower.specs.Code.{expr_code, stmt_code, stmts_code, copy_code, zero_code}
use Rattle.odc_lower.proofs.Lengths.{expr_length, stmt_length, stmts_length}
use Rattle.odc_lower.proofs.simulation.Runs.{none_leads}
use Rattle.odc_lower.proofs.Plains.{Has, Stands, parts, stands_length}
use Rattle.odc_lower.proofs.simulation.Sims.{Frame, stand, here, onward, spent, noded}
use Rattle.odc_lower.proofs.Procs.{AreAlike}
use Rattle.odc_lower.proofs.simulation.Worlds.{IsFrame, IsValue, core_world, mid_world, env_of, Follow, CallsFollow}
use Rattle.odc_lower.proofs.simulation.Exprs.{strays_here, charged, after_value, expr_sim}
use Rattle.odc_lower.proofs.Sanity.{put_bytes, zeros_are}
use Rattle.odc_lower.proofs.simulation.Flows.{IsLeft}
use Rattle.odc_lower.proofs.simulation.Stmts.{eval_sim, answer_sim, leave_sim, check_sim, exit_sim, store_sim, write_sim, read_sim, choose_sim, follow_sim, turns_sim}
use Rattle.odc_lower.proofs.simulation.Pieces.{reads_length, bytes_of_memory}
use Rattle.odc_lower.proofs.simulation.Copies.{Puts, copy_puts, zero_puts}

-- a node that ends in what its last operand is followed by
then_twice : {A B C : Type 0} (r : Res A) (m : A → Act B) (k : B → Act C) → then_by r (λ v t. then_by (m v t) k) ≡ then_by (then_by r m) k
then_twice (ok v t) m k = refl
then_twice (stop e t) m k = refl

module _ (entries : ℕ → ℕ) (ps : List Proc) (qs : List MidProc) (addresses : List ℕ) (f : Frame) (is_frame : IsFrame f) where
  -- ---- bytes

  -- what is put there, at a cost that pays for its steps
  put_sim : (budget bound pc end a c : ℕ) (bytes : List ℕ) (temps : ℕ → ℕ) (s : State) (exits : List ℕ) → AreBytes bytes → bound ≤ budget + 11 + 12 * c →
      Puts entries ps qs addresses f bound pc end a bytes temps s →
      Follow entries ps qs addresses f budget 1 0 pc temps s (spend (pure falls) (record s { memory = put s.memory a bytes; cost = s.cost + c })) (IsLeft f exits end)
  put_sim budget bound pc end a c bytes temps s exits are paid p =
      let w = mid_world entries ps qs addresses in
      let t : State = record s { memory = put s.memory a bytes; cost = s.cost + c } in
      let at = stand f pc temps s in
      onward w f budget 1 0 (budget + 12 * c) 0 at at s t 0 (spend (pure falls) t) (IsLeft f exits end) (none_leads (act w) at) refl (omega arith) (omega arith)
      (λ h. record { memory = put_bytes bytes s.memory a h.memory are; input = h.input })
      (spent w f (budget + 12 * c) 1 0 1 0 at (stand f end p.temps_after t) t p.steps (pure falls) (IsLeft f exits end) p.leads (record { log = refl; taken = refl }) p.some
      (omega (arith, p.small)) (omega (arith, p.some))
      (λ left e. here w f 1 1 end p.temps_after (record t { left = left; cost = t.cost + 1 }) falls (IsLeft f exits end) refl (omega arith)))

  zeroes : (pc end d a k : ℕ) (temps : ℕ → ℕ) (s : State) (exits : List ℕ) → Stands f.steps pc (zero_code d pc) end → temps d ≡ a → temps (d + 1) ≡ k →
      Follow entries ps qs addresses f 23 1 0 pc temps s
      (then_by (then_by (store_bytes (env_of entries ps qs addresses f) a (replicate k 0) s) (λ _. pure falls)) (λ u. spend (pure u))) (IsLeft f exits end)
  zeroes pc end d a k temps s exits at e1 e2 = by_test (all_in f.touched a (length (replicate {A = ℕ} k 0))) refl
    where
      by_test : (b : Bool) → all_in f.touched a (length (replicate {A = ℕ} k 0)) ≡ b →
          Follow entries ps qs addresses f 23 1 0 pc temps s
          (then_by (then_by (remember (env_of entries ps qs addresses f) (if b then Some (put s.memory a (replicate k 0)) else None) (record s { cost = s.cost + moved (length (replicate {A = ℕ} k 0)) })) (λ _. pure falls))
          (λ u. spend (pure u))) (IsLeft f exits end)
      by_test false e =
          let s1 : State = record s { cost = s.cost + moved (length (replicate {A = ℕ} k 0)) } in
          charged entries ps qs addresses f 23 1 0 23 pc (moved (length (replicate {A = ℕ} k 0))) temps s (stop (strayed f.at) s1) (IsLeft f exits end) (omega arith)
          (strays_here entries ps qs addresses f 23 1 0 pc temps s1 (IsLeft f exits end))
      by_test true e =
          let many : length (replicate {A = ℕ} k 0) ≡ k = length-replicate k 0 in
          let writable : all_in f.touched a k ≡ true = ap (all_in f.touched a) (sym many) ∙ e in
          let same : moved (length (replicate {A = ℕ} k 0)) ≡ moved k = ap moved many in
          put_sim 23 (34 + 12 * moved k) pc end a (moved (length (replicate {A = ℕ} k 0))) (replicate k 0) temps s exits (zeros_are k) (omega (arith, same))
          (zero_puts entries ps qs addresses f pc end d a k temps s is_frame at e1 e2 writable)

  copies : (pc end d a b k : ℕ) (temps : ℕ → ℕ) (s : State) (exits : List ℕ) → Stands f.steps pc (copy_code d pc) end → temps d ≡ a → temps (d + 1) ≡ b → temps (d + 2) ≡ k →
      Follow entries ps qs addresses f 34 1 0 pc temps s
      (then_by (then_by (load_bytes (env_of entries ps qs addresses f) b k s) (λ bytes t. then_by (store_bytes (env_of entries ps qs addresses f) a bytes t) (λ _. pure falls))) (λ u. spend (pure u)))
      (IsLeft f exits end)
  copies pc end d a b k temps s exits at e1 e2 e3 = by_loaded (all_in f.touched b k) refl (bytes_at s.memory b k) refl
    where
      -- where the target may be touched
      by_test : (bytes : List ℕ) → all_in f.touched b k ≡ true → bytes_at s.memory b k ≡ Some bytes → (t : Bool) → all_in f.touched a (length bytes) ≡ t →
          Follow entries ps qs addresses f 34 1 0 pc temps s
          (then_by (then_by (remember (env_of entries ps qs addresses f) (if t then Some (put s.memory a bytes) else None) (record s { cost = s.cost + moved k + moved (length bytes) })) (λ _. pure falls))
          (λ u. spend (pure u))) (IsLeft f exits end)
      by_test bytes readable there false e =
          let c = moved k + moved (length bytes) in
          let s1 : State = record s { cost = s.cost + moved k + moved (length bytes) } in
          onward (mid_world entries ps qs addresses) f 34 1 0 34 0 (stand f pc temps s) (stand f pc temps s) s s1 0 (stop (strayed f.at) s1) (IsLeft f exits end)
          (none_leads (act (mid_world entries ps qs addresses)) (stand f pc temps s)) refl (omega arith) (omega arith) (λ h. record { memory = h.memory; input = h.input })
          (strays_here entries ps qs addresses f 34 1 0 pc temps s1 (IsLeft f exits end))
      by_test bytes readable there true e = record {
        by = λ sane.
            let many : length bytes ≡ k = reads_length s.memory b k bytes there in
            let same : moved (length bytes) ≡ moved k = ap moved many in
            let c = moved k + moved (length bytes) in
            let sums : s.cost + c ≡ s.cost + moved k + moved (length bytes) = omega arith in
            let P : ℕ → Type 0 = λ y. Follow entries ps qs addresses f 34 1 0 pc temps s (spend (pure falls) (record s { memory = put s.memory a bytes; cost = y })) (IsLeft f exits end) in
            let sim = subst P sums (put_sim 34 (45 + 24 * moved k) pc end a c bytes temps s exits (bytes_of_memory s.memory b k bytes sane.memory there) (omega (arith, same))
            (copy_puts entries ps qs addresses f pc end d a b k bytes temps s is_frame sane at e1 e2 e3 readable there e)) in
            sim.by sane;
      }

      by_loaded : (t : Bool) → all_in f.touched b k ≡ t → (o : Option (List ℕ)) → bytes_at s.memory b k ≡ o →
          Follow entries ps qs addresses f 34 1 0 pc temps s
          (then_by (then_by (need (env_of entries ps qs addresses f) (if t then o else None) (record s { cost = s.cost + moved k })) (λ bytes u. then_by (store_bytes (env_of entries ps qs addresses f) a bytes u) (λ _. pure falls)))
          (λ u. spend (pure u))) (IsLeft f exits end)
      by_loaded false e o there =
          charged entries ps qs addresses f 34 1 0 34 pc (moved k) temps s (stop (strayed f.at) (record s { cost = s.cost + moved k })) (IsLeft f exits end) (omega arith)
          (strays_here entries ps qs addresses f 34 1 0 pc temps (record s { cost = s.cost + moved k }) (IsLeft f exits end))
      by_loaded true e None there =
          charged entries ps qs addresses f 34 1 0 34 pc (moved k) temps s (stop (strayed f.at) (record s { cost = s.cost + moved k })) (IsLeft f exits end) (omega arith)
          (strays_here entries ps qs addresses f 34 1 0 pc temps (record s { cost = s.cost + moved k }) (IsLeft f exits end))
      by_loaded true e (Some bytes) there = by_test bytes e there (all_in f.touched a (length bytes)) refl

  zero_sim : (pc q r end d : ℕ) (temps : ℕ → ℕ) (s : State) (exits : List ℕ) (first : Res ℕ) (second : Act ℕ) → Stands f.steps r (zero_code d r) end →
      Follow entries ps qs addresses f 1 12 1 pc temps s first (IsValue q d temps) →
      ((t : State) (temps' : ℕ → ℕ) → t.left ≤ s.left → Follow entries ps qs addresses f 1 12 1 q temps' t (second t) (IsValue r (d + 1) temps')) →
      Follow entries ps qs addresses f 1 1 0 pc temps s
      (then_by (then_by first (λ a t. then_by (second t) (λ k u. then_by (store_bytes (env_of entries ps qs addresses f) a (replicate k 0) u) (λ _. pure falls)))) (λ u. spend (pure u)))
      (IsLeft f exits end)
  zero_sim pc q r end d temps s exits first second at p1 p2 =
      let w = mid_world entries ps qs addresses in
      let goal = IsLeft f exits end in
      let done : Flow → Act Flow = λ u. spend (pure u) in
      let last : ℕ → ℕ → Act Flow = λ a k u. then_by (store_bytes (env_of entries ps qs addresses f) a (replicate k 0) u) (λ _. pure falls) in
      let m : ℕ → Act Flow = λ a t. then_by (second t) (last a) in
      let P : Res Flow → Type 0 = λ x. Follow entries ps qs addresses f 1 1 0 pc temps s x goal in
      subst P (then_twice first m done)
      (after_value entries ps qs addresses f f 1 1 0 1 12 1 12 1 0 pc q d temps s first (λ a t. then_by (m a t) done) goal (omega arith) (omega arith) (omega arith) (omega arith) p1
      (λ t temps1 left1 kept1.
      let Q : Res Flow → Type 0 = λ x. Follow entries ps qs addresses f 12 1 0 q temps1 t x goal in
      subst Q (then_twice (second t) (last (temps1 d)) done)
      (after_value entries ps qs addresses f f 12 1 0 1 12 1 23 1 0 q r (d + 1) temps1 t (second t) (λ k u. then_by (last (temps1 d) k u) done) goal (omega arith) (omega arith) (omega arith) (omega arith) (p2 t temps1 left1)
      (λ t2 temps2 left2 kept2. zeroes r end d (temps1 d) (temps2 (d + 1)) temps2 t2 exits at (kept2 d (omega arith)) refl))))

  copy_sim : (pc q r z end d : ℕ) (temps : ℕ → ℕ) (s : State) (exits : List ℕ) (first : Res ℕ) (second third : Act ℕ) → Stands f.steps z (copy_code d z) end →
      Follow entries ps qs addresses f 1 12 1 pc temps s first (IsValue q d temps) →
      ((t : State) (temps' : ℕ → ℕ) → t.left ≤ s.left → Follow entries ps qs addresses f 1 12 1 q temps' t (second t) (IsValue r (d + 1) temps')) →
      ((t : State) (temps' : ℕ → ℕ) → t.left ≤ s.left → Follow entries ps qs addresses f 1 12 1 r temps' t (third t) (IsValue z (d + 2) temps')) →
      Follow entries ps qs addresses f 1 1 0 pc temps s
      (then_by (then_by first (λ a t. then_by (second t) (λ b u. then_by (third u) (λ k v.
      then_by (load_bytes (env_of entries ps qs addresses f) b k v) (λ bytes x. then_by (store_bytes (env_of entries ps qs addresses f) a bytes x) (λ _. pure falls)))))) (λ u. spend (pure u)))
      (IsLeft f exits end)
  copy_sim pc q r z end d temps s exits first second third at p1 p2 p3 =
      let w = mid_world entries ps qs addresses in
      let goal = IsLeft f exits end in
      let done : Flow → Act Flow = λ u. spend (pure u) in
      let last : ℕ → ℕ → ℕ → Act Flow =
      λ a b k v. then_by (load_bytes (env_of entries ps qs addresses f) b k v) (λ bytes x. then_by (store_bytes (env_of entries ps qs addresses f) a bytes x) (λ _. pure falls)) in
      let m2 : ℕ → ℕ → Act Flow = λ a b u. then_by (third u) (last a b) in
      let m1 : ℕ → Act Flow = λ a t. then_by (second t) (m2 a) in
      let P : Res Flow → Type 0 = λ x. Follow entries ps qs addresses f 1 1 0 pc temps s x goal in
      subst P (then_twice first m1 done)
      (after_value entries ps qs addresses f f 1 1 0 1 12 1 12 1 0 pc q d temps s first (λ a t. then_by (m1 a t) done) goal (omega arith) (omega arith) (omega arith) (omega arith) p1
      (λ t temps1 left1 kept1.
      let Q : Res Flow → Type 0 = λ x. Follow entries ps qs addresses f 12 1 0 q temps1 t x goal in
      subst Q (then_twice (second t) (m2 (temps1 d)) done)
      (after_value entries ps qs addresses f f 12 1 0 1 12 1 23 1 0 q r (d + 1) temps1 t (second t) (λ b u. then_by (m2 (temps1 d) b u) done) goal (omega arith) (omega arith) (omega arith) (omega arith) (p2 t temps1 left1)
      (λ t2 temps2 left2 kept2.
      let R : Res Flow → Type 0 = λ x. Follow entries ps qs addresses f 23 1 0 r temps2 t2 x goal in
      subst R (then_twice (third t2) (last (temps1 d) (temps2 (d + 1))) done)
      (after_value entries ps qs addresses f f 23 1 0 1 12 1 34 1 0 r z (d + 2) temps2 t2 (third t2) (λ k v. then_by (last (temps1 d) (temps2 (d + 1)) k v) done) goal
      (omega arith) (omega arith) (omega arith) (omega arith) (p3 t2 temps2 (omega arith))
      (λ t3 temps3 left3 kept3.
      copies z end d (temps1 d) (temps2 (d + 1)) (temps3 (d + 2)) temps3 t3 exits at (kept3 d (omega arith) ∙ kept2 d (omega arith)) (kept3 (d + 1) (omega arith)) refl))))))

module _ (entries : ℕ → ℕ) (ps : List Proc) (qs : List MidProc) (addresses : List ℕ) (f : Frame) (alike : AreAlike ps qs) (is_frame : IsFrame f) (n : ℕ) (calls_follow : CallsFollow entries ps qs addresses n)
    (names : Names) (names_are : names.parameters ≡ parameters_of ps) (d : ℕ) where
  abbrev calls : Calls
  calls = calls_of (core_world entries ps qs addresses) n

  value : (e : Expr) (k pc end : ℕ) (temps : ℕ → ℕ) (s : State) → Stands f.steps pc (expr_code k e) end → IsExpr names e → s.left ≤ n →
      Follow entries ps qs addresses f 1 12 1 pc temps s (value_of calls (env_of entries ps qs addresses f) e s) (IsValue end k temps)
  value e k pc end temps s at is left = expr_sim entries ps qs addresses f alike is_frame n calls_follow names names_are e k pc end temps s at is left

  -- where an expression's steps end
  ends_at : (e : Expr) (k pc end : ℕ) → Stands f.steps pc (expr_code k e) end → end ≡ pc + expr_nodes e
  ends_at e k pc end at = omega (arith, stands_length f.steps pc (expr_code k e) end at, expr_length e k)

  mutual
    pub stmt_sim : (x : Stmt) (exits : List ℕ) (pc end : ℕ) (temps : ℕ → ℕ) (s : State) → Stands f.steps pc (stmt_code d exits pc x) end → IsStmt names (length exits) x → s.left ≤ n →
        Follow entries ps qs addresses f 1 1 0 pc temps s (exec n calls (env_of entries ps qs addresses f) x s) (IsLeft f exits end)
    stmt_sim (eval e) exits pc end temps s at is left = eval_sim entries ps qs addresses f pc end d temps s exits (value_of calls (env_of entries ps qs addresses f) e s) (value e d pc end temps s at is left)
    stmt_sim (store width to e) exits pc end temps s at is left =
        let p = parts f.steps pc (expr_code d to) (expr_code (d + 1) e ++ (store_step width d (d + 1) ∷ [])) end at in
        let q = parts f.steps p.middle (expr_code (d + 1) e) (store_step width d (d + 1) ∷ []) end p.back in
        let P : ℕ → Type 0 = λ y. Follow entries ps qs addresses f 1 1 0 pc temps s (exec n calls (env_of entries ps qs addresses f) (store width to e) s) (IsLeft f exits y) in
        subst P q.back.1
        (store_sim entries ps qs addresses f pc p.middle q.middle d width temps s exits
        (value_of calls (env_of entries ps qs addresses f) to s) (value_of calls (env_of entries ps qs addresses f) e) q.back.0
        (value to d pc p.middle temps s p.front is.0 left)
        (λ t temps' less. value e (d + 1) p.middle q.middle temps' t q.front is.1 (omega arith)))
    stmt_sim (copy to from size) exits pc end temps s at is left =
        let code = copy_code d (pc + expr_nodes to + expr_nodes from + expr_nodes size) in
        let p = parts f.steps pc (expr_code d to) (expr_code (d + 1) from ++ (expr_code (d + 2) size ++ code)) end at in
        let q = parts f.steps p.middle (expr_code (d + 1) from) (expr_code (d + 2) size ++ code) end p.back in
        let r = parts f.steps q.middle (expr_code (d + 2) size) code end q.back in
        let place : pc + expr_nodes to + expr_nodes from + expr_nodes size ≡ r.middle =
        omega (arith, ends_at to d pc p.middle p.front, ends_at from (d + 1) p.middle q.middle q.front, ends_at size (d + 2) q.middle r.middle r.front) in
        let P : ℕ → Type 0 = λ y. Stands f.steps r.middle (copy_code d y) end in
        copy_sim entries ps qs addresses f is_frame pc p.middle q.middle r.middle end d temps s exits
        (value_of calls (env_of entries ps qs addresses f) to s) (value_of calls (env_of entries ps qs addresses f) from) (value_of calls (env_of entries ps qs addresses f) size)
        (subst P place r.back)
        (value to d pc p.middle temps s p.front is.0 left)
        (λ t temps' less. value from (d + 1) p.middle q.middle temps' t q.front is.1.0 (omega arith))
        (λ t temps' less. value size (d + 2) q.middle r.middle temps' t r.front is.1.1 (omega arith))
    stmt_sim (zero_bytes to size) exits pc end temps s at is left =
        let code = zero_code d (pc + expr_nodes to + expr_nodes size) in
        let p = parts f.steps pc (expr_code d to) (expr_code (d + 1) size ++ code) end at in
        let q = parts f.steps p.middle (expr_code (d + 1) size) code end p.back in
        let place : pc + expr_nodes to + expr_nodes size ≡ q.middle = omega (arith, ends_at to d pc p.middle p.front, ends_at size (d + 1) p.middle q.middle q.front) in
        let P : ℕ → Type 0 = λ y. Stands f.steps q.middle (zero_code d y) end in
        zero_sim entries ps qs addresses f is_frame pc p.middle q.middle end d temps s exits
        (value_of calls (env_of entries ps qs addresses f) to s) (value_of calls (env_of entries ps qs addresses f) size)
        (subst P place q.back)
        (value to d pc p.middle temps s p.front is.0 left)
        (λ t temps' less. value size (d + 1) p.middle q.middle temps' t q.front is.1 (omega arith))
    stmt_sim (choose condition first second) exits pc end temps s at is left =
        let other = pc + expr_nodes condition + 1 in
        let begin = other + stmts_size second + 1 in
        let last = begin + stmts_size first in
        let tail = jump_step last ∷ stmts_code d exits begin first in
        let p = parts f.steps pc (expr_code d condition) (branch_step d begin ∷ (stmts_code d exits other second ++ tail)) end at in
        let q = parts f.steps (p.middle + 1) (stmts_code d exits other second) tail end p.back.1 in
        let at_other : other ≡ p.middle + 1 = omega (arith, ends_at condition d pc p.middle p.front) in
        let at_begin : begin ≡ q.middle + 1 =
        omega (arith, at_other, stands_length f.steps (p.middle + 1) (stmts_code d exits other second) q.middle q.front, stmts_length second d exits other) in
        let at_last : last ≡ end = omega (arith, at_begin, stands_length f.steps (q.middle + 1) (stmts_code d exits begin first) end q.back.1, stmts_length first d exits begin) in
        let O : ℕ → Type 0 = λ y. Stands f.steps (p.middle + 1) (stmts_code d exits y second) q.middle in
        let B : ℕ → Type 0 = λ y. Stands f.steps y (stmts_code d exits begin first) end in
        let J : ℕ → Type 0 = λ y. Has f.steps q.middle (jump_step y) in
        choose_sim entries ps qs addresses f pc p.middle end begin d temps s exits (value_of calls (env_of entries ps qs addresses f) condition s)
        (exec_all n calls (env_of entries ps qs addresses f) first) (exec_all n calls (env_of entries ps qs addresses f) second) q.middle
        p.back.0 (subst J at_last q.back.0)
        (value condition d pc p.middle temps s p.front is.0 left)
        (λ t temps' less. stmts_sim first exits begin end temps' t (subst B (sym at_begin) q.back.1) is.1.0 (omega arith))
        (λ t temps' less. stmts_sim second exits (p.middle + 1) q.middle temps' t (subst O at_other q.front) is.1.1 (omega arith))
    stmt_sim (repeat body) exits pc end temps s at is left =
        let exit = pc + 1 + stmts_size body + 1 in
        let p = parts f.steps (pc + 1) (stmts_code d (exit ∷ exits) (pc + 1) body) (jump_step (pc + 1) ∷ []) end at.1 in
        let at_exit : exit ≡ end = omega (arith, stands_length f.steps (pc + 1) (stmts_code d (exit ∷ exits) (pc + 1) body) p.middle p.front, stmts_length body d (exit ∷ exits) (pc + 1), p.back.1) in
        let P : ℕ → Type 0 = λ y. Follow entries ps qs addresses f 1 1 0 pc temps s (exec n calls (env_of entries ps qs addresses f) (repeat body) s) (IsLeft f exits y) in
        let loop = exec_all n calls (env_of entries ps qs addresses f) body in
        subst P at_exit
        (noded (mid_world entries ps qs addresses) f 1 1 0 1 1 1 (stand f pc temps s) s (turns n loop s) (IsLeft f exits exit) (omega arith) (omega arith) (omega arith)
        (turns_sim entries ps qs addresses f n n (pc + 1) p.middle exit exits loop p.back.0
        (λ t temps' less. stmts_sim body (exit ∷ exits) (pc + 1) p.middle temps' t p.front is less) pc temps s left left at.0))
    stmt_sim (leave depth) exits pc end temps s at is left = leave_sim entries ps qs addresses f pc end depth temps s exits at.0 is
    stmt_sim (answer e) exits pc end temps s at is left =
        let p = parts f.steps pc (expr_code d e) (return_step d ∷ []) end at in
        answer_sim entries ps qs addresses f pc p.middle d temps s exits end (value_of calls (env_of entries ps qs addresses f) e s) p.back.0 (value e d pc p.middle temps s p.front is left)
    stmt_sim (check condition which place) exits pc end temps s at is left =
        let p = parts f.steps pc (expr_code d condition) (check_step d which place ∷ []) end at in
        let P : ℕ → Type 0 = λ y. Follow entries ps qs addresses f 1 1 0 pc temps s (exec n calls (env_of entries ps qs addresses f) (check condition which place) s) (IsLeft f exits y) in
        subst P p.back.1
        (check_sim entries ps qs addresses f pc p.middle d which place temps s exits (value_of calls (env_of entries ps qs addresses f) condition s) p.back.0
        (value condition d pc p.middle temps s p.front is left))
    stmt_sim (read to size taken) exits pc end temps s at is left =
        let code = system_step (Read (d + 3) d (d + 1)) ∷ store_step Double (d + 2) (d + 3) ∷ [] in
        let p = parts f.steps pc (expr_code d to) (expr_code (d + 1) size ++ (expr_code (d + 2) taken ++ code)) end at in
        let q = parts f.steps p.middle (expr_code (d + 1) size) (expr_code (d + 2) taken ++ code) end p.back in
        let r = parts f.steps q.middle (expr_code (d + 2) taken) code end q.back in
        let P : ℕ → Type 0 = λ y. Follow entries ps qs addresses f 1 1 0 pc temps s (exec n calls (env_of entries ps qs addresses f) (read to size taken) s) (IsLeft f exits y) in
        subst P r.back.1.1
        (read_sim entries ps qs addresses f pc p.middle q.middle r.middle d temps s exits
        (value_of calls (env_of entries ps qs addresses f) to s) (value_of calls (env_of entries ps qs addresses f) size) (value_of calls (env_of entries ps qs addresses f) taken)
        r.back.0 r.back.1.0
        (value to d pc p.middle temps s p.front is.0 left)
        (λ t temps' less. value size (d + 1) p.middle q.middle temps' t q.front is.1.0 (omega arith))
        (λ t temps' less. value taken (d + 2) q.middle r.middle temps' t r.front is.1.1 (omega arith)))
    stmt_sim (write descriptor from size) exits pc end temps s at is left =
        let p = parts f.steps pc (expr_code d from) (expr_code (d + 1) size ++ (system_step (Write descriptor d (d + 1)) ∷ [])) end at in
        let q = parts f.steps p.middle (expr_code (d + 1) size) (system_step (Write descriptor d (d + 1)) ∷ []) end p.back in
        let P : ℕ → Type 0 = λ y. Follow entries ps qs addresses f 1 1 0 pc temps s (exec n calls (env_of entries ps qs addresses f) (write descriptor from size) s) (IsLeft f exits y) in
        subst P q.back.1
        (write_sim entries ps qs addresses f pc p.middle q.middle d descriptor temps s exits
        (value_of calls (env_of entries ps qs addresses f) from s) (value_of calls (env_of entries ps qs addresses f) size) q.back.0
        (value from d pc p.middle temps s p.front is.0 left)
        (λ t temps' less. value size (d + 1) p.middle q.middle temps' t q.front is.1 (omega arith)))
    stmt_sim (exit code) exits pc end temps s at is left =
        let p = parts f.steps pc (expr_code d code) (system_step (Exit d) ∷ []) end at in
        exit_sim entries ps qs addresses f pc p.middle end d temps s exits (value_of calls (env_of entries ps qs addresses f) code s) p.back.0 (value code d pc p.middle temps s p.front is left)

    pub stmts_sim : (xs : Stmts) (exits : List ℕ) (pc end : ℕ) (temps : ℕ → ℕ) (s : State) → Stands f.steps pc (stmts_code d exits pc xs) end → AreStmts names (length exits) xs → s.left ≤ n →
        Follow entries ps qs addresses f 1 1 0 pc temps s (exec_all n calls (env_of entries ps qs addresses f) xs s) (IsLeft f exits end)
    stmts_sim finish exits pc end temps s at is left = here (mid_world entries ps qs addresses) f 1 1 pc temps s falls (IsLeft f exits end) at (omega arith)
    stmts_sim (follow x xs) exits pc end temps s at is left =
        let p = parts f.steps pc (stmt_code d exits pc x) (stmts_code d exits (pc + stmt_size x) xs) end at in
        let next : pc + stmt_size x ≡ p.middle = omega (arith, stands_length f.steps pc (stmt_code d exits pc x) p.middle p.front, stmt_length x d exits pc) in
        let P : ℕ → Type 0 = λ y. Stands f.steps p.middle (stmts_code d exits y xs) end in
        follow_sim entries ps qs addresses f pc p.middle end temps s exits (exec n calls (env_of entries ps qs addresses f) x s) (exec_all n calls (env_of entries ps qs addresses f) xs)
        (stmt_sim x exits pc p.middle temps s p.front is.0 left)
        (λ t temps' less. stmts_sim xs exits p.middle end temps' t (subst P next p.back) is.1 (omega arith))
