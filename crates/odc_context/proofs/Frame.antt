-- Core expressions and statements in a procedure's frame, as parts of runs.
use Rattle.std.proofs.Common.{◌≡◌, ℕ, ◌+◌, ◌%◌, ◌^◌, ◌<◌, ◌≤◌, Bool, true, List, [], ◌∷◌, arith, ap, ◌∙◌, sym, subst, refl}
use Rattle.std.specs.Prelude.{Some, slice_get, ◌==◌, if◌then◌else◌}
use Rattle.odc_text.specs.declared.place.Place.{Place}
use Rattle.odc_text.specs.Run.{Log}
use Rattle.odc_core.specs.declared.tree.Width.TheVariants.{Byte}
use Rattle.odc_core.specs.declared.tree.BinaryOp.{BinaryOp}
use Rattle.odc_core.specs.declared.tree.Comparison.{Comparison}
use Rattle.odc_core.specs.declared.tree.Variable.{Variable}
use Rattle.odc_core.specs.Tree.{Expr, const, slot, binary, compare, Stmt, store, choose, leave, Stmts, finish, follow}
use Rattle.odc_core.specs.Words.{binary_word, compare_words, number_of, bytes_of}
use Rattle.odc_core.specs.Memory.{Memory, all_in, put}
use Rattle.odc_core.specs.Frames.{touched_in, variable_address}
use Rattle.odc_core.specs.Run.{State, Res, ok, stop, Act, then_by, ◌>>=◌, pure, World, Env, need, load_bytes, store_bytes, value_of, Flow, falls, leaves, answers, after, exec, exec_all, calls_of}
use Rattle.odc_context.specs.Code.{Own, variables_of, join, held, put as set}
use Rattle.odc_context.proofs.Runs.{Fueled, Runs, runs_pure, runs_as, runs_then, runs_node, runs_need, runs_load, runs_store}
use Rattle.odc_context.proofs.Touched.{WordAt, loaded_word, word_number, part_touched, address_found}

-- what surrounds the nodes of a procedure
abbrev pub env_at : World → Place → ℕ → Own → (ℕ → Bool) → Env
env_at world at low o outer = record { world = world; at = at; low = low; variables = variables_of o; touched = touched_in outer low (variables_of o) }

-- statements in a row, before others
joined : (rest behind : Act Flow) (both : Act Flow) (r : Res Flow) → ((t : State) → both t ≡ then_by (rest t) (λ flow. after flow behind)) →
    then_by r (λ flow. after flow both) ≡ then_by (then_by r (λ flow. after flow rest)) (λ flow. after flow behind)
joined rest behind both (ok falls t) h = h t
joined rest behind both (ok (leaves d) t) h = refl
joined rest behind both (ok (answers w) t) h = refl
joined rest behind both (stop e t) h = refl

pub exec_join : (n : ℕ) (env : Env) (a b : Stmts) (s : State) →
    exec_all n (calls_of env.world n) env (join a b) s ≡ then_by (exec_all n (calls_of env.world n) env a s) (λ flow. after flow (exec_all n (calls_of env.world n) env b))
exec_join n env finish b s = refl
exec_join n env (follow x a) b s =
    joined (exec_all n (calls_of env.world n) env a) (exec_all n (calls_of env.world n) env b) (exec_all n (calls_of env.world n) env (join a b)) (exec n (calls_of env.world n) env x s)
    (λ t. exec_join n env a b t)

module _ (j : ℕ) (world : World) (at : Place) (low : ℕ) (o : Own) (outer : ℕ → Bool) where
  abbrev pub env : Env
  env = env_at world at low o outer

  abbrev pub ev : Expr → Fueled ℕ
  ev e n = value_of (calls_of world n) env e

  abbrev pub ex1 : Stmt → Fueled Flow
  ex1 s n = exec n (calls_of world n) env s

  abbrev pub ex : Stmts → Fueled Flow
  ex ss n = exec_all n (calls_of world n) env ss

  -- ---- expressions

  pub r_const : (w : ℕ) (m : Memory) (l : Log ℕ ℕ) → Runs j (ev (const w)) m l 1 1 w m l
  r_const w m l = runs_node j (λ n. pure w) m l 0 0 w m l (runs_pure j w m l)

  pub r_slot : (i : ℕ) (v : Variable) (m : Memory) (l : Log ℕ ℕ) → slice_get (variables_of o) i ≡ Some v → Runs j (ev (slot i)) m l 1 1 (low + v.offset) m l
  r_slot i v m l e =
      runs_node j (λ n. need env (variable_address low (variables_of o) i)) m l 0 0 (low + v.offset) m l
      (runs_need j env (variable_address low (variables_of o) i) (low + v.offset) m l (address_found low (variables_of o) i v e))

  -- a word in a variable
  pub r_held : (i : ℕ) (v : Variable) (w : ℕ) (m : Memory) (l : Log ℕ ℕ) → slice_get (variables_of o) i ≡ Some v → 8 ≤ v.size → w < 2 ^ 64 → WordAt m (low + v.offset) w →
      Runs j (ev (held i)) m l 2 3 w m l
  r_held i v w m l e big small is =
      let a : ℕ = low + v.offset in
      let touched : all_in (touched_in outer low (variables_of o)) a 8 ≡ true = part_touched outer low (variables_of o) i v a 8 e (omega arith) (omega arith) in
      let bytes : List ℕ = bytes_of 8 w in
      let last : Runs j (λ n. pure (number_of bytes)) m l 0 0 w m l =
      (let P : ℕ → Type 0 = λ x. Runs j (λ n. pure x) m l 0 0 w m l in subst P (sym (word_number w small)) (runs_pure j w m l)) in
      runs_as j (ev (held i)) m l (1 + (0 + 0) + 1) 2 (1 + (1 + 0) + 1) 3 w m l refl refl
      (runs_node j (λ n. ev (slot i) n >>= (λ x. load_bytes env x 8 >>= (λ bs. pure (number_of bs)))) m l (1 + (0 + 0)) (1 + (1 + 0)) w m l
      (runs_then j (ev (slot i)) (λ x n. load_bytes env x 8 >>= (λ bs. pure (number_of bs))) m l 1 1 a m l (0 + 0) (1 + 0) w m l (r_slot i v m l e)
      (runs_then j (λ n. load_bytes env a 8) (λ bs n. pure (number_of bs)) m l 0 1 bytes m l 0 0 w m l
      (runs_load j env a 8 bytes m l (loaded_word (touched_in outer low (variables_of o)) m a w touched is)) last)))

  pub r_binary : (op : BinaryOp) (x y : Expr) (m : Memory) (l : Log ℕ ℕ) (b c b' c' v w : ℕ) → Runs j (ev x) m l b c v m l → Runs j (ev y) m l b' c' w m l →
      Runs j (ev (binary op x y)) m l (b + b' + 1) (c + c' + 1) (binary_word op v w) m l
  r_binary op x y m l b c b' c' v w p q =
      runs_as j (ev (binary op x y)) m l (b + (b' + 0) + 1) (b + b' + 1) (c + (c' + 0) + 1) (c + c' + 1) (binary_word op v w) m l (omega arith) (omega arith)
      (runs_node j (λ n. ev x n >>= (λ s. ev y n >>= (λ t. pure (binary_word op s t)))) m l (b + (b' + 0)) (c + (c' + 0)) (binary_word op v w) m l
      (runs_then j (ev x) (λ s n. ev y n >>= (λ t. pure (binary_word op s t))) m l b c v m l (b' + 0) (c' + 0) (binary_word op v w) m l p
      (runs_then j (ev y) (λ t n. pure (binary_word op v t)) m l b' c' w m l 0 0 (binary_word op v w) m l q (runs_pure j (binary_word op v w) m l))))

  pub r_compare : (op : Comparison) (x y : Expr) (m : Memory) (l : Log ℕ ℕ) (b c b' c' v w : ℕ) → Runs j (ev x) m l b c v m l → Runs j (ev y) m l b' c' w m l →
      Runs j (ev (compare op x y)) m l (b + b' + 1) (c + c' + 1) (compare_words op v w) m l
  r_compare op x y m l b c b' c' v w p q =
      runs_as j (ev (compare op x y)) m l (b + (b' + 0) + 1) (b + b' + 1) (c + (c' + 0) + 1) (c + c' + 1) (compare_words op v w) m l (omega arith) (omega arith)
      (runs_node j (λ n. ev x n >>= (λ s. ev y n >>= (λ t. pure (compare_words op s t)))) m l (b + (b' + 0)) (c + (c' + 0)) (compare_words op v w) m l
      (runs_then j (ev x) (λ s n. ev y n >>= (λ t. pure (compare_words op s t))) m l b c v m l (b' + 0) (c' + 0) (compare_words op v w) m l p
      (runs_then j (ev y) (λ t n. pure (compare_words op v t)) m l b' c' w m l 0 0 (compare_words op v w) m l q (runs_pure j (compare_words op v w) m l))))

  -- ---- statements

  -- a word into a variable
  pub r_set : (i : ℕ) (v : Variable) (e : Expr) (m m' : Memory) (l l' : Log ℕ ℕ) (b c w : ℕ) → slice_get (variables_of o) i ≡ Some v → 8 ≤ v.size → Runs j (ev e) m l b c w m' l' →
      Runs j (ex1 (set i e)) m l (b + 2) (c + 3) falls (put m' (low + v.offset) (bytes_of 8 w)) l'
  r_set i v e m m' l l' b c w is big run =
      let a : ℕ = low + v.offset in
      let after' : Memory = put m' a (bytes_of 8 w) in
      let touched : all_in (touched_in outer low (variables_of o)) a 8 ≡ true = part_touched outer low (variables_of o) i v a 8 is (omega arith) (omega arith) in
      runs_as j (ex1 (set i e)) m l (1 + (b + (0 + 0)) + 1) (b + 2) (1 + (c + (1 + 0)) + 1) (c + 3) falls after' l' (omega arith) (omega arith)
      (runs_node j (λ n. ev (slot i) n >>= (λ x. ev e n >>= (λ y. store_bytes env x (bytes_of 8 y) >>= (λ _. pure falls)))) m l (1 + (b + (0 + 0))) (1 + (c + (1 + 0))) falls after' l'
      (runs_then j (ev (slot i)) (λ x n. ev e n >>= (λ y. store_bytes env x (bytes_of 8 y) >>= (λ _. pure falls))) m l 1 1 a m l (b + (0 + 0)) (c + (1 + 0)) falls after' l' (r_slot i v m l is)
      (runs_then j (ev e) (λ y n. store_bytes env a (bytes_of 8 y) >>= (λ _. pure falls)) m l b c w m' l' (0 + 0) (1 + 0) falls after' l' run
      (runs_then j (λ n. store_bytes env a (bytes_of 8 w)) (λ _ n. pure falls) m' l' 0 1 tt after' l' 0 0 falls after' l'
      (runs_store j env a (bytes_of 8 w) m' l' touched) (runs_pure j falls after' l')))))

  -- a byte to an address
  pub r_byte : (to e : Expr) (m : Memory) (l : Log ℕ ℕ) (b c b' c' a w : ℕ) → Runs j (ev to) m l b c a m l → Runs j (ev e) m l b' c' w m l →
      all_in (touched_in outer low (variables_of o)) a 1 ≡ true →
      Runs j (ex1 (store Byte to e)) m l (b + b' + 1) (c + c' + 2) falls (put m a (w % 256 ∷ [])) l
  r_byte to e m l b c b' c' a w p q touched =
      let after' : Memory = put m a (w % 256 ∷ []) in
      runs_as j (ex1 (store Byte to e)) m l (b + (b' + (0 + 0)) + 1) (b + b' + 1) (c + (c' + (1 + 0)) + 1) (c + c' + 2) falls after' l (omega arith) (omega arith)
      (runs_node j (λ n. ev to n >>= (λ x. ev e n >>= (λ y. store_bytes env x (bytes_of 1 y) >>= (λ _. pure falls)))) m l (b + (b' + (0 + 0))) (c + (c' + (1 + 0))) falls after' l
      (runs_then j (ev to) (λ x n. ev e n >>= (λ y. store_bytes env x (bytes_of 1 y) >>= (λ _. pure falls))) m l b c a m l (b' + (0 + 0)) (c' + (1 + 0)) falls after' l p
      (runs_then j (ev e) (λ y n. store_bytes env a (bytes_of 1 y) >>= (λ _. pure falls)) m l b' c' w m l (0 + 0) (1 + 0) falls after' l q
      (runs_then j (λ n. store_bytes env a (bytes_of 1 w)) (λ _ n. pure falls) m l 0 1 tt after' l 0 0 falls after' l
      (runs_store j env a (bytes_of 1 w) m l touched) (runs_pure j falls after' l)))))

  -- one statement and those behind it
  pub r_follow : (s : Stmt) (ss : Stmts) (m m' m'' : Memory) (l l' l'' : Log ℕ ℕ) (b c b' c' : ℕ) (flow : Flow) → Runs j (ex1 s) m l b c falls m' l' → Runs j (ex ss) m' l' b' c' flow m'' l'' →
      Runs j (ex (follow s ss)) m l (b + b') (c + c') flow m'' l''
  r_follow s ss m m' m'' l l' l'' b c b' c' flow p q =
      runs_then j (ex1 s) (λ f n. after f (ex ss n)) m l b c falls m' l' b' c' flow m'' l'' p q

  pub r_none : (m : Memory) (l : Log ℕ ℕ) → Runs j (ex finish) m l 0 0 falls m l
  r_none m l = runs_pure j falls m l

  -- a single statement
  pub r_one : (s : Stmt) (m m' : Memory) (l l' : Log ℕ ℕ) (b c : ℕ) (flow : Flow) → Runs j (ex1 s) m l b c flow m' l' → Runs j (ex (follow s finish)) m l b c flow m' l'
  r_one s m m' l l' b c flow p = record {
    is = λ n k x h. ap (λ (r : Res Flow). then_by r (λ f. after f (ex finish n))) (p.is n k x h) ∙ alone flow (record x { memory = m'; log = l'; left = k; cost = x.cost + c }) n;
  }
    where
      alone : (f : Flow) (t : State) (n : ℕ) → after f (ex finish n) t ≡ ok f t
      alone falls t n = refl
      alone (leaves d) t n = refl
      alone (answers w) t n = refl

  -- a list and another one behind it
  pub r_join : (a b : Stmts) (m m' m'' : Memory) (l l' l'' : Log ℕ ℕ) (x c x' c' : ℕ) (flow : Flow) → Runs j (ex a) m l x c falls m' l' → Runs j (ex b) m' l' x' c' flow m'' l'' →
      Runs j (ex (join a b)) m l (x + x') (c + c') flow m'' l''
  r_join a b m m' m'' l l' l'' x c x' c' flow p q =
      let r = runs_then j (ex a) (λ f n. after f (ex b n)) m l x c falls m' l' x' c' flow m'' l'' p q in
      record { is = λ n k s h. exec_join n env a b (record s { memory = m; log = l; left = k + (x + x') }) ∙ r.is n k s h }

  -- a choice
  pub r_choose : (e : Expr) (first second : Stmts) (m m' : Memory) (l l' : Log ℕ ℕ) (b c b' c' w : ℕ) (flow : Flow) → Runs j (ev e) m l b c w m l →
      Runs j (λ n. if w == 0 then ex second n else ex first n) m l b' c' flow m' l' → Runs j (ex1 (choose e first second)) m l (b + b' + 1) (c + c' + 1) flow m' l'
  r_choose e first second m m' l l' b c b' c' w flow p q =
      runs_node j (λ n. ev e n >>= (λ v. if v == 0 then ex second n else ex first n)) m l (b + b') (c + c') flow m' l'
      (runs_then j (ev e) (λ v n. if v == 0 then ex second n else ex first n) m l b c w m l b' c' flow m' l' p q)

  pub r_leave : (d : ℕ) (m : Memory) (l : Log ℕ ℕ) → Runs j (ex1 (leave d)) m l 1 1 (leaves d) m l
  r_leave d m l = runs_node j (λ n. pure (leaves d)) m l 0 0 (leaves d) m l (runs_pure j (leaves d) m l)
