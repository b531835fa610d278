-- A part of a core run that has ended stands so with more of the bound and more fuel.
use Rattle.std.proofs.Common.{◌≡◌, ℕ, zero, suc, ◌+◌, ◌-◌, ◌≤◌, Bool, true, false, List, [], ◌∷◌, length, take, drop, arith, ap, sym, subst, refl}
use Rattle.std.specs.Prelude.{Option, Some, None, ◌==◌, ◌%◌, ◌^◌, slice_get, replicate, if◌then◌else◌}
use Rattle.odc_text.specs.declared.check.Check.TheVariants.{Stack}
use Rattle.odc_text.specs.Run.{exited, checked, strayed, trapped, going, Entry}
use Rattle.odc_core.specs.declared.tree.Descriptor.{Descriptor}
use Rattle.odc_core.specs.Words.{width_size, unary_word, binary_word, compare_words, number_of, bytes_of}
use Rattle.odc_core.specs.Memory.{Memory, all_in, loaded, put, stored}
use Rattle.odc_core.specs.Frames.{variable_address, has_room, entered}
use Rattle.odc_core.specs.Program.{called_by}
use Rattle.odc_core.specs.Tree.{Expr, const, slot, address, procedure, load, unary, binary, compare, call, call_value, Exprs, none, more, Stmt, eval, store, copy, zero_bytes, choose, repeat, leave, answer, check, read, write, exit, Stmts, finish, follow, Proc}
use Rattle.odc_core.specs.Run.{State, Res, ok, stop, Act, pure, then_by, ◌>>=◌, spend_from, spend, node, moved, charge, World, Env, stray, need, load_bytes, remember, store_bytes, write_bytes, read_bytes, Calls, event_of, tell, takes, call_found, value_of, values_of, Flow, falls, leaves, answers, after, after_turn, turns, exec, exec_all, answered, env_in, body_run, enter, calls_of}

-- with so much more left of the bound
abbrev pub richer : State → ℕ → State
richer s d = record s { left = s.left + d }

abbrev pub Same : {A : Type 0} → Res A → ℕ → Res A → Type 0
Same (ok v s) d r = r ≡ ok v (richer s d)
Same (stop (exited code) s) d r = r ≡ stop (exited code) (richer s d)
Same (stop (checked which at) s) d r = r ≡ stop (checked which at) (richer s d)
Same (stop (strayed at) s) d r = r ≡ stop (strayed at) (richer s d)
Same (stop (trapped pc) s) d r = r ≡ stop (trapped pc) (richer s d)
Same (stop going s) d r = Unit {0}

pub record Grows {A : Type 0} (act act' : Act A) : Type 0 where
  pub by : (s : State) (d : ℕ) → Same (act s) d (act' (richer s d))

pub grows_pure : {A : Type 0} (v : A) → Grows (pure v) (pure v)
grows_pure v = record { by = λ s d. refl }

pub grows_stray : {A : Type 0} (env : Env) → (let a : Act A = stray env in Grows a a)
grows_stray env = record { by = λ s d. refl }

pub grows_then : {A B : Type 0} (act act' : Act A) (f f' : A → Act B) → Grows act act' → ((v : A) → Grows (f v) (f' v)) → Grows (act >>= f) (act' >>= f')
grows_then {A} {B} act act' f f' g h = record { by = λ s d. on (act s) (act' (richer s d)) d (g.by s d) }
  where
    on : (r q : Res A) (d : ℕ) → Same r d q → Same (then_by r f) d (then_by q f')
    on (ok v s) q d e =
        let there : then_by q f' ≡ f' v (richer s d) = ap (λ (x : Res A). then_by x f') e in
        subst (Same (f v s) d) (sym there) ((h v).by s d)
    on (stop (exited code) s) q d e = ap (λ (x : Res A). then_by x f') e
    on (stop (checked which at) s) q d e = ap (λ (x : Res A). then_by x f') e
    on (stop (strayed at) s) q d e = ap (λ (x : Res A). then_by x f') e
    on (stop (trapped pc) s) q d e = ap (λ (x : Res A). then_by x f') e
    on (stop going s) q d e = tt

pub grows_spend : {A : Type 0} (act act' : Act A) → Grows act act' → Grows (spend act) (spend act')
grows_spend {A} act act' g = record { by = λ s d. on s.left s d }
  where
    on : (left : ℕ) (s : State) (d : ℕ) → Same (spend_from left act s) d (spend_from (left + d) act' (richer s d))
    on zero s d = tt
    on (suc left) s d =
        let next : suc (left + d) ≡ suc left + d = omega arith in
        subst (λ (k : ℕ). Same (act (record s { left = left; cost = s.cost + 1 })) d (spend_from k act' (richer s d))) next (g.by (record s { left = left; cost = s.cost + 1 }) d)

pub grows_node : {A : Type 0} (act act' : Act A) → Grows act act' → Grows (node act) (node act')
grows_node {A} act act' g = grows_then act act' (λ v. spend (pure v)) (λ v. spend (pure v)) g (λ v. grows_spend (pure v) (pure v) (grows_pure v))

pub grows_need : {A : Type 0} (env : Env) (o : Option A) → Grows (need env o) (need env o)
grows_need env None = record { by = λ s d. refl }
grows_need env (Some v) = record { by = λ s d. refl }

grows_choice : {A : Type 0} (b : Bool) (x x' y y' : Act A) → Grows x x' → Grows y y' → Grows (if b then x else y) (if b then x' else y')
grows_choice true x x' y y' g h = g
grows_choice false x x' y y' g h = h

-- ---- memory and the outside

grows_charge : (n : ℕ) → Grows (charge n) (charge n)
grows_charge n = record { by = λ s d. refl }

grows_load : (env : Env) (a n : ℕ) → Grows (load_bytes env a n) (load_bytes env a n)
grows_load env a n = record {
  by = λ s d.
      let f : Unit {0} → Act (List ℕ) = λ u. need env (loaded env.touched s.memory a n) in
      (grows_then (charge (moved n)) (charge (moved n)) f f (grows_charge (moved n)) (λ u. grows_need env (loaded env.touched s.memory a n))).by s d;
}

grows_remember : (env : Env) (o : Option Memory) → Grows (remember env o) (remember env o)
grows_remember env None = record { by = λ s d. refl }
grows_remember env (Some m) = record { by = λ s d. refl }

grows_store : (env : Env) (a : ℕ) (bytes : List ℕ) → Grows (store_bytes env a bytes) (store_bytes env a bytes)
grows_store env a bytes = record {
  by = λ s d.
      let f : Unit {0} → Act (Unit {0}) = λ u. remember env (stored env.touched s.memory a bytes) in
      let n : ℕ = moved (length bytes) in
      (grows_then (charge n) (charge n) f f (grows_charge n) (λ u. grows_remember env (stored env.touched s.memory a bytes))).by s d;
}

grows_write : (w : Descriptor) (bytes : List ℕ) → Grows (write_bytes w bytes) (write_bytes w bytes)
grows_write w bytes = record { by = λ s d. refl }

grows_read : (env : Env) (a n : ℕ) → Grows (read_bytes env a n) (read_bytes env a n)
grows_read env a n = record {
  by = λ s d.
      let came : Act ℕ = λ t. ok (length (take n t.input)) (record t { memory = put t.memory a (take n t.input); input = drop n t.input; taken = t.taken + length (take n t.input); cost = t.cost + moved (length (take n t.input)) }) in
      let reads : Grows came came = record { by = λ t e. refl } in
      let astray : Act ℕ = stray env in
      (by_test (all_in env.touched a n) came astray reads (grows_stray env)).by s d;
}
  where
    by_test : (b : Bool) (x y : Act ℕ) → Grows x x → Grows y y → Grows (λ s. if b then x s else y s) (λ s. if b then x s else y s)
    by_test true x y g h = g
    by_test false x y g h = h

-- ---- calls

abbrev pub CallsGrow : Calls → Calls → Type 0
CallsGrow calls calls' = (e : Option (Entry ℕ ℕ)) (f : ℕ) (vs : List ℕ) (touched : ℕ → Bool) (low : ℕ) → Grows (calls e f vs touched low) (calls' e f vs touched low)

grows_tell : (e : Option (Entry ℕ ℕ)) → Grows (tell e) (tell e)
grows_tell None = record { by = λ s d. refl }
grows_tell (Some e) = record { by = λ s d. refl }

module _ (calls calls' : Calls) (more_calls : CallsGrow calls calls') (env : Env) where
  grows_found : (word : ℕ) (vs : List ℕ) (marked : Bool) (o : Option ℕ) → Grows (call_found calls env word vs marked o) (call_found calls' env word vs marked o)
  grows_found word vs marked None = grows_stray env
  grows_found word vs marked (Some f) =
      let told : Calls → Act ℕ = λ c. need env (event_of word vs) >>= (λ e. c (Some e) f vs env.touched env.low) in
      let quiet : Calls → Act ℕ = λ c. c None f vs env.touched env.low in
      let astray : Act ℕ = stray env in
      grows_choice (takes (length vs) (slice_get env.world.procedures f)) (if marked then told calls else quiet calls) (if marked then told calls' else quiet calls') astray astray
      (grows_choice marked (told calls) (told calls') (quiet calls) (quiet calls')
      (grows_then (need env (event_of word vs)) (need env (event_of word vs)) (λ e. calls (Some e) f vs env.touched env.low) (λ e. calls' (Some e) f vs env.touched env.low) (grows_need env (event_of word vs)) (λ e. more_calls (Some e) f vs env.touched env.low))
      (more_calls None f vs env.touched env.low))
      (grows_stray env)

  mutual
    pub value_grows : (e : Expr) → Grows (value_of calls env e) (value_of calls' env e)
    value_grows (const word) = grows_node (pure word) (pure word) (grows_pure word)
    value_grows (slot x) = grows_node (need env (variable_address env.low env.variables x)) (need env (variable_address env.low env.variables x)) (grows_need env (variable_address env.low env.variables x))
    value_grows (address n) = grows_node (need env (slice_get env.world.addresses n)) (need env (slice_get env.world.addresses n)) (grows_need env (slice_get env.world.addresses n))
    value_grows (procedure f) = grows_node (pure (env.world.entries f)) (pure (env.world.entries f)) (grows_pure (env.world.entries f))
    value_grows (load width at) =
        let bytes : ℕ → Act ℕ = λ a. load_bytes env a (width_size width) >>= (λ bs. pure (number_of bs)) in
        grows_node (value_of calls env at >>= bytes) (value_of calls' env at >>= bytes)
        (grows_then (value_of calls env at) (value_of calls' env at) bytes bytes (value_grows at)
        (λ a. grows_then (load_bytes env a (width_size width)) (load_bytes env a (width_size width)) (λ bs. pure (number_of bs)) (λ bs. pure (number_of bs)) (grows_load env a (width_size width)) (λ bs. grows_pure (number_of bs))))
    value_grows (unary op operand) =
        let f : ℕ → Act ℕ = λ v. pure (unary_word op v) in
        grows_node (value_of calls env operand >>= f) (value_of calls' env operand >>= f)
        (grows_then (value_of calls env operand) (value_of calls' env operand) f f (value_grows operand) (λ v. grows_pure (unary_word op v)))
    value_grows (binary op left right) =
        let f : ℕ → ℕ → Act ℕ = λ v w. pure (binary_word op v w) in
        grows_node (value_of calls env left >>= (λ v. value_of calls env right >>= f v)) (value_of calls' env left >>= (λ v. value_of calls' env right >>= f v))
        (grows_then (value_of calls env left) (value_of calls' env left) (λ v. value_of calls env right >>= f v) (λ v. value_of calls' env right >>= f v) (value_grows left)
        (λ v. grows_then (value_of calls env right) (value_of calls' env right) (f v) (f v) (value_grows right) (λ w. grows_pure (binary_word op v w))))
    value_grows (compare op left right) =
        let f : ℕ → ℕ → Act ℕ = λ v w. pure (compare_words op v w) in
        grows_node (value_of calls env left >>= (λ v. value_of calls env right >>= f v)) (value_of calls' env left >>= (λ v. value_of calls' env right >>= f v))
        (grows_then (value_of calls env left) (value_of calls' env left) (λ v. value_of calls env right >>= f v) (λ v. value_of calls' env right >>= f v) (value_grows left)
        (λ v. grows_then (value_of calls env right) (value_of calls' env right) (f v) (f v) (value_grows right) (λ w. grows_pure (compare_words op v w))))
    value_grows (call f arguments) =
        let g : Calls → List ℕ → Act ℕ = λ c vs. c None f vs env.touched env.low in
        grows_node (values_of calls env arguments >>= g calls) (values_of calls' env arguments >>= g calls')
        (grows_then (values_of calls env arguments) (values_of calls' env arguments) (g calls) (g calls') (values_grow arguments) (λ vs. more_calls None f vs env.touched env.low))
    value_grows (call_value target arguments marked) =
        let found : ℕ → Option ℕ = λ word. called_by env.world.entries 0 env.world.procedures word in
        let g : Calls → ℕ → List ℕ → Act ℕ = λ c word vs. call_found c env word vs marked (found word) in
        grows_node (value_of calls env target >>= (λ word. values_of calls env arguments >>= g calls word)) (value_of calls' env target >>= (λ word. values_of calls' env arguments >>= g calls' word))
        (grows_then (value_of calls env target) (value_of calls' env target) (λ word. values_of calls env arguments >>= g calls word) (λ word. values_of calls' env arguments >>= g calls' word) (value_grows target)
        (λ word. grows_then (values_of calls env arguments) (values_of calls' env arguments) (g calls word) (g calls' word) (values_grow arguments) (λ vs. grows_found word vs marked (found word))))

    pub values_grow : (es : Exprs) → Grows (values_of calls env es) (values_of calls' env es)
    values_grow none = grows_pure []
    values_grow (more e es) =
        let f : ℕ → List ℕ → Act (List ℕ) = λ v vs. pure (v ∷ vs) in
        grows_then (value_of calls env e) (value_of calls' env e) (λ v. values_of calls env es >>= f v) (λ v. values_of calls' env es >>= f v) (value_grows e)
        (λ v. grows_then (values_of calls env es) (values_of calls' env es) (f v) (f v) (values_grow es) (λ vs. grows_pure (v ∷ vs)))

  -- an expression, and then the same on both sides
  with_value : {B : Type 0} (e : Expr) (f : ℕ → Act B) → ((v : ℕ) → Grows (f v) (f v)) → Grows (value_of calls env e >>= f) (value_of calls' env e >>= f)
  with_value e f g = grows_then (value_of calls env e) (value_of calls' env e) f f (value_grows e) g

  module _ (n n' : ℕ) (le : n ≤ n') where
    turns_grow : (k k' : ℕ) → k ≤ k' → (body body' : Act Flow) → Grows body body' → Grows (turns k body) (turns k' body')
    turns_grow zero k' h body body' g = record { by = λ s d. tt }
    turns_grow (suc k) zero h body body' g = absurd (omega (arith, h))
    turns_grow (suc k) (suc k') h body body' g =
        let f : Flow → Act Flow = λ flow. after_turn flow (turns k body) in
        let f' : Flow → Act Flow = λ flow. after_turn flow (turns k' body') in
        grows_spend (body >>= f) (body' >>= f') (grows_then body body' f f' g (λ flow. on flow (turns k body) (turns k' body') (turns_grow k k' (omega (arith, h)) body body' g)))
      where
        on : (flow : Flow) (x x' : Act Flow) → Grows x x' → Grows (after_turn flow x) (after_turn flow x')
        on falls x x' g = g
        on (leaves zero) x x' g = record { by = λ s d. refl }
        on (leaves (suc depth)) x x' g = record { by = λ s d. refl }
        on (answers word) x x' g = record { by = λ s d. refl }

    after_grows : (flow : Flow) (x x' : Act Flow) → Grows x x' → Grows (after flow x) (after flow x')
    after_grows falls x x' g = g
    after_grows (leaves depth) x x' g = record { by = λ s d. refl }
    after_grows (answers word) x x' g = record { by = λ s d. refl }

    stored_then : (a : ℕ) (bytes : List ℕ) → (let x : Act Flow = store_bytes env a bytes >>= (λ u. pure falls) in Grows x x)
    stored_then a bytes = grows_then (store_bytes env a bytes) (store_bytes env a bytes) (λ u. pure falls) (λ u. pure falls) (grows_store env a bytes) (λ u. grows_pure falls)

    mutual
      pub exec_grows : (t : Stmt) → Grows (exec n calls env t) (exec n' calls' env t)
      exec_grows (eval value) =
          let f : ℕ → Act Flow = λ v. pure falls in
          grows_node (value_of calls env value >>= f) (value_of calls' env value >>= f) (with_value value f (λ v. grows_pure falls))
      exec_grows (store width to value) =
          let end : Unit {0} → Act Flow = λ u. pure falls in
          let g : ℕ → ℕ → Act Flow = λ a v. store_bytes env a (bytes_of (width_size width) v) >>= end in
          grows_node (value_of calls env to >>= (λ a. value_of calls env value >>= g a)) (value_of calls' env to >>= (λ a. value_of calls' env value >>= g a))
          (grows_then (value_of calls env to) (value_of calls' env to) (λ a. value_of calls env value >>= g a) (λ a. value_of calls' env value >>= g a) (value_grows to)
          (λ a. with_value value (g a) (λ v. stored_then a (bytes_of (width_size width) v))))
      exec_grows (copy to from size) =
          let end : Unit {0} → Act Flow = λ u. pure falls in
          let g : ℕ → ℕ → ℕ → Act Flow = λ a b k. load_bytes env b k >>= (λ bytes. store_bytes env a bytes >>= end) in
          grows_node (value_of calls env to >>= (λ a. value_of calls env from >>= (λ b. value_of calls env size >>= g a b))) (value_of calls' env to >>= (λ a. value_of calls' env from >>= (λ b. value_of calls' env size >>= g a b)))
          (grows_then (value_of calls env to) (value_of calls' env to) (λ a. value_of calls env from >>= (λ b. value_of calls env size >>= g a b)) (λ a. value_of calls' env from >>= (λ b. value_of calls' env size >>= g a b)) (value_grows to)
          (λ a. grows_then (value_of calls env from) (value_of calls' env from) (λ b. value_of calls env size >>= g a b) (λ b. value_of calls' env size >>= g a b) (value_grows from)
          (λ b. with_value size (g a b)
          (λ k. grows_then (load_bytes env b k) (load_bytes env b k) (λ bytes. store_bytes env a bytes >>= end) (λ bytes. store_bytes env a bytes >>= end) (grows_load env b k) (λ bytes. stored_then a bytes)))))
      exec_grows (zero_bytes to size) =
          let end : Unit {0} → Act Flow = λ u. pure falls in
          let g : ℕ → ℕ → Act Flow = λ a k. store_bytes env a (replicate k 0) >>= end in
          grows_node (value_of calls env to >>= (λ a. value_of calls env size >>= g a)) (value_of calls' env to >>= (λ a. value_of calls' env size >>= g a))
          (grows_then (value_of calls env to) (value_of calls' env to) (λ a. value_of calls env size >>= g a) (λ a. value_of calls' env size >>= g a) (value_grows to)
          (λ a. with_value size (g a) (λ k. stored_then a (replicate k 0))))
      exec_grows (choose condition first second) =
          let f : ℕ → Act Flow = λ v. if v == 0 then exec_all n calls env second else exec_all n calls env first in
          let f' : ℕ → Act Flow = λ v. if v == 0 then exec_all n' calls' env second else exec_all n' calls' env first in
          grows_node (value_of calls env condition >>= f) (value_of calls' env condition >>= f')
          (grows_then (value_of calls env condition) (value_of calls' env condition) f f' (value_grows condition)
          (λ v. grows_choice (v == 0) (exec_all n calls env second) (exec_all n' calls' env second) (exec_all n calls env first) (exec_all n' calls' env first) (all_grow second) (all_grow first)))
      exec_grows (repeat body) =
          grows_node (turns n (exec_all n calls env body)) (turns n' (exec_all n' calls' env body)) (turns_grow n n' le (exec_all n calls env body) (exec_all n' calls' env body) (all_grow body))
      exec_grows (leave depth) = grows_node (pure (leaves depth)) (pure (leaves depth)) (grows_pure (leaves depth))
      exec_grows (answer value) =
          let f : ℕ → Act Flow = λ v. pure (answers v) in
          grows_node (value_of calls env value >>= f) (value_of calls' env value >>= f) (with_value value f (λ v. grows_pure (answers v)))
      exec_grows (check condition which place) =
          let failed : Act Flow = λ s. stop (checked which place) s in
          let fine : Act Flow = pure falls in
          let f : ℕ → Act Flow = λ v. if v == 0 then failed else fine in
          grows_node (value_of calls env condition >>= f) (value_of calls' env condition >>= f)
          (with_value condition f (λ v. grows_choice (v == 0) failed failed fine fine (record { by = λ s d. refl }) (grows_pure falls)))
      exec_grows (read to size count) =
          let g : ℕ → ℕ → ℕ → Act Flow = λ a k c. read_bytes env a k >>= (λ came. store_bytes env c (bytes_of 8 came) >>= (λ _. pure falls)) in
          grows_node (value_of calls env to >>= (λ a. value_of calls env size >>= (λ k. value_of calls env count >>= g a k))) (value_of calls' env to >>= (λ a. value_of calls' env size >>= (λ k. value_of calls' env count >>= g a k)))
          (grows_then (value_of calls env to) (value_of calls' env to) (λ a. value_of calls env size >>= (λ k. value_of calls env count >>= g a k)) (λ a. value_of calls' env size >>= (λ k. value_of calls' env count >>= g a k)) (value_grows to)
          (λ a. grows_then (value_of calls env size) (value_of calls' env size) (λ k. value_of calls env count >>= g a k) (λ k. value_of calls' env count >>= g a k) (value_grows size)
          (λ k. with_value count (g a k)
          (λ c. grows_then (read_bytes env a k) (read_bytes env a k) (λ came. store_bytes env c (bytes_of 8 came) >>= (λ _. pure falls)) (λ came. store_bytes env c (bytes_of 8 came) >>= (λ _. pure falls)) (grows_read env a k) (λ came. stored_then c (bytes_of 8 came))))))
      exec_grows (write descriptor from size) =
          let end : Unit {0} → Act Flow = λ u. pure falls in
          let g : ℕ → ℕ → Act Flow = λ a k. load_bytes env a k >>= (λ bytes. write_bytes descriptor bytes >>= end) in
          grows_node (value_of calls env from >>= (λ a. value_of calls env size >>= g a)) (value_of calls' env from >>= (λ a. value_of calls' env size >>= g a))
          (grows_then (value_of calls env from) (value_of calls' env from) (λ a. value_of calls env size >>= g a) (λ a. value_of calls' env size >>= g a) (value_grows from)
          (λ a. with_value size (g a)
          (λ k. grows_then (load_bytes env a k) (load_bytes env a k) (λ bytes. write_bytes descriptor bytes >>= end) (λ bytes. write_bytes descriptor bytes >>= end) (grows_load env a k)
          (λ bytes. grows_then (write_bytes descriptor bytes) (write_bytes descriptor bytes) end end (grows_write descriptor bytes) (λ u. grows_pure falls)))))
      exec_grows (exit code) =
          let f : ℕ → Act Flow = λ v s. stop (exited (v % 2 ^ 8)) s in
          grows_node (value_of calls env code >>= f) (value_of calls' env code >>= f) (with_value code f (λ v. record { by = λ s d. refl }))

      pub all_grow : (ts : Stmts) → Grows (exec_all n calls env ts) (exec_all n' calls' env ts)
      all_grow finish = grows_pure falls
      all_grow (follow t ts) =
          let f : Flow → Act Flow = λ flow. after flow (exec_all n calls env ts) in
          let f' : Flow → Act Flow = λ flow. after flow (exec_all n' calls' env ts) in
          grows_then (exec n calls env t) (exec n' calls' env t) f f' (exec_grows t) (λ flow. after_grows flow (exec_all n calls env ts) (exec_all n' calls' env ts) (all_grow ts))

-- ---- procedures

pub enter_grows : (world : World) (n n' : ℕ) → n ≤ n' → (calls calls' : Calls) → CallsGrow calls calls' → (o : Option Proc) (vs : List ℕ) (touched : ℕ → Bool) (base : ℕ) →
    Grows (enter world n calls o vs touched base) (enter world n' calls' o vs touched base)
enter_grows world n n' le calls calls' g None vs touched base = record { by = λ s d. tt }
enter_grows world n n' le calls calls' g (Some p) vs touched base =
    let env : Env = env_in world p touched base in
    let word : Flow → Act ℕ = λ flow. pure (answered flow) in
    let full : Act ℕ = λ s. stop (checked Stack p.at) s in
    grows_choice (has_room base p.frame) (body_run world n calls p vs touched base) (body_run world n' calls' p vs touched base) full full
    (record {
      by = λ s d.
          (grows_then (exec_all n calls env p.body) (exec_all n' calls' env p.body) word word (all_grow calls calls' g env n n' le p.body) (λ flow. grows_pure (answered flow))).by
          (record s { memory = entered (base - p.frame) p.frame p.variables vs s.memory }) d;
    })
    (record { by = λ s d. refl })

pub calls_grow : (world : World) (n n' : ℕ) → n ≤ n' → CallsGrow (calls_of world n) (calls_of world n')
calls_grow world zero n' h e f vs touched base = record { by = λ s d. tt }
calls_grow world (suc n) zero h e f vs touched base = absurd (omega (arith, h))
calls_grow world (suc n) (suc n') h e f vs touched base =
    let le : n ≤ n' = omega (arith, h) in
    let x : Act ℕ = enter world n (calls_of world n) (slice_get world.procedures f) vs touched base in
    let x' : Act ℕ = enter world n' (calls_of world n') (slice_get world.procedures f) vs touched base in
    grows_spend (tell e >>= (λ u. x)) (tell e >>= (λ u. x'))
    (grows_then (tell e) (tell e) (λ u. x) (λ u. x') (grows_tell e)
    (λ u. enter_grows world n n' le (calls_of world n) (calls_of world n') (calls_grow world n n' le) (slice_get world.procedures f) vs touched base))
