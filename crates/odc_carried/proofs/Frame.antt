-- Core expressions and statements in a procedure's frame, as parts of runs.
use Rattle.std.proofs.Common.{◌≡◌, ℕ, zero, suc, ◌+◌, ◌%◌, ◌^◌, ◌<◌, ◌≤◌, ◌⊎◌, Bool, true, false, List, [], ◌∷◌, ◌++◌, length, map, arith, ap, ◌∙◌, sym, subst, refl}
use Rattle.std.specs.Prelude.{Option, Some, None, option_map, slice_get, ◌==◌, ◌&&◌, ◌||◌, if◌then◌else◌}
use Rattle.std.proofs.lemmas.Bool.Decides.{nat_tests}
use Rattle.std.proofs.Math.Nat.{zero-add}
use Rattle.rv_table.specs.Bytes.{run}
use Rattle.rv_table.proofs.Bytes.{run_written, run_same, written_out}
use Rattle.odc_program.specs.Trees.Program.{Local}
use Rattle.odc_core.specs.declared.tree.Width.TheVariants.{Byte}
use Rattle.odc_core.specs.declared.tree.BinaryOp.{BinaryOp}
use Rattle.odc_core.specs.declared.tree.Comparison.{Comparison}
use Rattle.odc_core.specs.declared.tree.Variable.{Variable}
use Rattle.odc_core.specs.Tree.{Expr, const, slot, binary, compare, Stmt, store, choose, leave, Stmts, finish, follow}
use Rattle.odc_core.specs.Words.{binary_word, compare_words, number_of, bytes_of}
use Rattle.odc_core.specs.Memory.{Memory, all_in, bytes_at, before, loaded, put, lies}
use Rattle.odc_core.specs.Frames.{in_variables, touched_in, variable_address}
use Rattle.odc_core.specs.Run.{Res, ok, stop, Act, then_by, ◌>>=◌, pure, Env, need, load_bytes, store_bytes, value_of, Flow, falls, leaves, answers, after, exec, exec_all, calls_of}
use Rattle.odc_core.specs.Run.{State as CoreState}
use Rattle.odc_carried.specs.Code.{variables_of, own_variables, waits_from, wait_variable, wait_at, pointer_at, number_at, buffer_at, buffer, pointer, number, join, held, locals_of, variable_of}
use Rattle.odc_carried.specs.Code.{put as set}
use Rattle.odc_carried.proofs.Runs.{Face, at, with_memory, Fueled, Runs, runs_pure, runs_as, runs_then, runs_node, runs_need, runs_load, runs_store}
use Rattle.odc_carried.proofs.Values.{word_number}
use Rattle.odc_carried.specs.Tied.{Site, o, cenv}
use Rattle.odc_carried.proofs.Ties.{mapped_found}

-- ---- bytes

pub bytes_run : (m : Memory) (a : ℕ) (bs : List ℕ) → run m a (length bs) ≡ map Some bs → bytes_at m a (length bs) ≡ Some bs
bytes_run m a [] e = refl
bytes_run m a (b ∷ bs) e =
    let head : List (Option ℕ) → Option ℕ = λ xs. get_first xs in
    let first : m a ≡ Some b = ap head e in
    let rest : run m (a + 1) (length bs) ≡ map Some bs = ap drop_first e in
    ap (λ (o : Option ℕ). before o (bytes_at m (a + 1) (length bs))) first ∙ ap (before (Some b)) (bytes_run m (a + 1) bs rest)
  where
    get_first : List (Option ℕ) → Option ℕ
    get_first [] = None
    get_first (x ∷ xs) = x

    drop_first : List (Option ℕ) → List (Option ℕ)
    drop_first [] = []
    drop_first (x ∷ xs) = xs

-- the word stands there
abbrev pub WordAt : Memory → ℕ → ℕ → Type 0
WordAt m a w = run m a 8 ≡ map Some (bytes_of 8 w)

pub loaded_word : (touched : ℕ → Bool) (m : Memory) (a w : ℕ) → all_in touched a 8 ≡ true → WordAt m a w → loaded touched m a 8 ≡ Some (bytes_of 8 w)
loaded_word touched m a w t e = ap (λ (b : Bool). if b then bytes_at m a 8 else None) t ∙ bytes_run m a (bytes_of 8 w) e

pub put_word : (m : Memory) (a w : ℕ) → WordAt (put m a (bytes_of 8 w)) a w
put_word m a w = run_written m a (map Some (bytes_of 8 w))

pub put_away : (m : Memory) (a w x : ℕ) → (x < a) ⊎ (a + 8 ≤ x) → put m a (bytes_of 8 w) x ≡ m x
put_away m a w x h = written_out m a (map Some (bytes_of 8 w)) x h

pub word_apart : (m m' : Memory) (a w : ℕ) → ((x : ℕ) → a ≤ x → x < a + 8 → m' x ≡ m x) → WordAt m a w → WordAt m' a w
word_apart m m' a w h e = run_same m' m a 8 h ∙ e

-- ---- variables

slice_front : (vs ws : List Variable) (x : ℕ) (v : Variable) → slice_get vs x ≡ Some v → slice_get (vs ++ ws) x ≡ Some v
slice_front [] ws x v e = cc
slice_front (u ∷ vs) ws zero v e = e
slice_front (u ∷ vs) ws (suc x) v e = slice_front vs ws x v e

slice_behind : (vs ws : List Variable) (x : ℕ) → slice_get (vs ++ ws) (length vs + x) ≡ slice_get ws x
slice_behind [] ws x = ap (slice_get ws) (zero-add x)
slice_behind (u ∷ vs) ws x = let next : suc (length vs) + x ≡ suc (length vs + x) = omega arith in ap (slice_get ((u ∷ vs) ++ ws)) next ∙ slice_behind vs ws x

waits_get : (low y n x : ℕ) → x < n → slice_get (waits_from low y n) x ≡ Some (wait_variable low (y + x))
waits_get low y zero x h = absurd (omega arith)
waits_get low y (suc n) zero h = let same : y ≡ y + 0 = omega arith in ap (λ (k : ℕ). Some (wait_variable low k)) same
waits_get low y (suc n) (suc x) h = let same : y + 1 + x ≡ y + suc x = omega arith in waits_get low (y + 1) n x (omega arith) ∙ ap (λ (k : ℕ). Some (wait_variable low k)) same

pub own_get : (S : Site) (x : ℕ) → slice_get (variables_of (o S)) (length (o S).first + x) ≡ slice_get (own_variables (o S).low (o S).waiting) x
own_get S x = slice_behind (o S).first (own_variables (o S).low (o S).waiting) x

pub wait_found : (S : Site) (d : ℕ) → d < (o S).waiting → slice_get (variables_of (o S)) (wait_at (o S) d) ≡ Some (wait_variable (o S).low d)
wait_found S d h =
    let third : 3 + d ≡ suc (suc (suc d)) = omega arith in
    let none : 0 + d ≡ d = omega arith in
    own_get S (3 + d) ∙ ap (slice_get (own_variables (o S).low (o S).waiting)) third ∙ waits_get (o S).low 0 (o S).waiting d h ∙ ap (λ (k : ℕ). Some (wait_variable (o S).low k)) none

pub buffer_found : (S : Site) → slice_get (variables_of (o S)) (buffer_at (o S)) ≡ Some (buffer (o S).low)
buffer_found S = own_get S 0

pub pointer_found : (S : Site) → slice_get (variables_of (o S)) (pointer_at (o S)) ≡ Some (pointer (o S).low)
pointer_found S = own_get S 1

pub number_found : (S : Site) → slice_get (variables_of (o S)) (number_at (o S)) ≡ Some (number (o S).low)
number_found S = own_get S 2

pub local_variable : (S : Site) (x : ℕ) (l : Local) → slice_get S.proc.locals x ≡ Some l → slice_get (variables_of (o S)) x ≡ Some (variable_of S.tables l)
local_variable S x l e = slice_front (locals_of S.tables S.proc) (own_variables (o S).low (o S).waiting) x (variable_of S.tables l) (mapped_found S.tables S.proc.locals x l e)

-- ---- what may be touched

or_left : (a b : Bool) → a ≡ true → (a || b) ≡ true
or_left a b e = ap (λ (x : Bool). x || b) e

or_right : (a b : Bool) → b ≡ true → (a || b) ≡ true
or_right true b e = refl
or_right false b e = e

lies_in : (a n x : ℕ) → a ≤ x → x < a + n → lies a n x ≡ true
lies_in a n x low high = grind (arith, nat_tests)

in_variable : (low : ℕ) (vs : List Variable) (i : ℕ) (v : Variable) (x : ℕ) → slice_get vs i ≡ Some v → low + v.offset ≤ x → x < low + v.offset + v.size → in_variables low vs x ≡ true
in_variable low [] i v x e from to = cc
in_variable low (u ∷ vs) zero v x e from to =
    let same : u ≡ v = cc in
    let P : Variable → Type 0 = λ y. (lies (low + y.offset) y.size x || in_variables low vs x) ≡ true in
    subst P (sym same) (or_left (lies (low + v.offset) v.size x) (in_variables low vs x) (lies_in (low + v.offset) v.size x from to))
in_variable low (u ∷ vs) (suc i) v x e from to = or_right (lies (low + u.offset) u.size x) (in_variables low vs x) (in_variable low vs i v x e from to)

all_touched : (touched : ℕ → Bool) (a n : ℕ) → ((x : ℕ) → a ≤ x → x < a + n → touched x ≡ true) → all_in touched a n ≡ true
all_touched touched a zero h = refl
all_touched touched a (suc n) h =
    let first : touched a ≡ true = h a (omega arith) (omega arith) in
    let rest : all_in touched (a + 1) n ≡ true = all_touched touched (a + 1) n (λ x l u. h x (omega arith) (omega arith)) in
    ap (λ (b : Bool). b && all_in touched (a + 1) n) first ∙ rest

-- a part of a variable may be touched
pub part_touched : (outer : ℕ → Bool) (low : ℕ) (vs : List Variable) (i : ℕ) (v : Variable) (a n : ℕ) → slice_get vs i ≡ Some v → low + v.offset ≤ a → a + n ≤ low + v.offset + v.size →
    all_in (touched_in outer low vs) a n ≡ true
part_touched outer low vs i v a n e from to =
    all_touched (touched_in outer low vs) a n (λ x l u. or_left (in_variables low vs x) (outer x) (in_variable low vs i v x e (omega arith) (omega arith)))

pub address_found : (low : ℕ) (vs : List Variable) (i : ℕ) (v : Variable) → slice_get vs i ≡ Some v → variable_address low vs i ≡ Some (low + v.offset)
address_found low vs i v e = ap (option_map (λ (u : Variable). low + u.offset)) e

-- ---- statements in a row
-- statements in a row, before others
joined : (rest behind : Act Flow) (both : Act Flow) (r : Res Flow) → ((t : CoreState) → both t ≡ then_by (rest t) (λ flow. after flow behind)) →
    then_by r (λ flow. after flow both) ≡ then_by (then_by r (λ flow. after flow rest)) (λ flow. after flow behind)
joined rest behind both (ok falls t) h = h t
joined rest behind both (ok (leaves d) t) h = refl
joined rest behind both (ok (answers w) t) h = refl
joined rest behind both (stop e t) h = refl

pub exec_join : (n : ℕ) (env : Env) (a b : Stmts) (s : CoreState) →
    exec_all n (calls_of env.world n) env (join a b) s ≡ then_by (exec_all n (calls_of env.world n) env a s) (λ flow. after flow (exec_all n (calls_of env.world n) env b))
exec_join n env finish b s = refl
exec_join n env (follow x a) b s =
    joined (exec_all n (calls_of env.world n) env a) (exec_all n (calls_of env.world n) env b) (exec_all n (calls_of env.world n) env (join a b)) (exec n (calls_of env.world n) env x s)
    (λ t. exec_join n env a b t)

abbrev pub ev : Site → Expr → Fueled ℕ
ev S e n = value_of (calls_of S.world n) (cenv S) e

abbrev pub ex1 : Site → Stmt → Fueled Flow
ex1 S s n = exec n (calls_of S.world n) (cenv S) s

abbrev pub ex : Site → Stmts → Fueled Flow
ex S ss n = exec_all n (calls_of S.world n) (cenv S) ss

module _ (S : Site) (j : ℕ) where
  -- ---- expressions
  pub r_const : (w : ℕ) (h : Face) → Runs j (ev S (const w)) h 1 1 w h
  r_const w h = runs_node (λ n. pure w) (runs_pure j w h)

  pub r_slot : (i : ℕ) (v : Variable) (h : Face) → slice_get (variables_of (o S)) i ≡ Some v → Runs j (ev S (slot i)) h 1 1 (S.low + v.offset) h
  r_slot i v h e =
      runs_node (λ n. need (cenv S) (variable_address S.low (variables_of (o S)) i))
      (runs_need j (cenv S) (variable_address S.low (variables_of (o S)) i) (S.low + v.offset) h (address_found S.low (variables_of (o S)) i v e))

  -- a word in a variable
  pub r_held : (i : ℕ) (v : Variable) (w : ℕ) (h : Face) → slice_get (variables_of (o S)) i ≡ Some v → 8 ≤ v.size → w < 2 ^ 64 → WordAt h.memory (S.low + v.offset) w → Runs j (ev S (held i)) h 2 3 w h
  r_held i v w h e big small is =
      let a : ℕ = S.low + v.offset in
      let touched : all_in (touched_in S.outer S.low (variables_of (o S))) a 8 ≡ true = part_touched S.outer S.low (variables_of (o S)) i v a 8 e (omega arith) (omega arith) in
      let bytes : List ℕ = bytes_of 8 w in
      let last : Runs j (λ n. pure (number_of bytes)) h 0 0 w h =
      (let P : ℕ → Type 0 = λ x. Runs j (λ n. pure x) h 0 0 w h in subst P (sym (word_number w small)) (runs_pure j w h)) in
      runs_as (ev S (held i)) 2 3 refl refl
      (runs_node (λ n. ev S (slot i) n >>= (λ x. load_bytes (cenv S) x 8 >>= (λ bs. pure (number_of bs))))
      (runs_then (ev S (slot i)) (λ x n. load_bytes (cenv S) x 8 >>= (λ bs. pure (number_of bs))) (r_slot i v h e)
      (runs_then (λ n. load_bytes (cenv S) a 8) (λ bs n. pure (number_of bs))
      (runs_load j (cenv S) a 8 bytes h (loaded_word (touched_in S.outer S.low (variables_of (o S))) h.memory a w touched is)) last)))

  pub r_binary : (op : BinaryOp) (x y : Expr) {h : Face} {b c b' c' v w : ℕ} → Runs j (ev S x) h b c v h → Runs j (ev S y) h b' c' w h → Runs j (ev S (binary op x y)) h (b + b' + 1) (c + c' + 1) (binary_word op v w) h
  r_binary op x y {h} {b} {c} {b'} {c'} {v} {w} p q =
      runs_as (ev S (binary op x y)) (b + b' + 1) (c + c' + 1) (omega arith) (omega arith)
      (runs_node (λ n. ev S x n >>= (λ s. ev S y n >>= (λ t. pure (binary_word op s t))))
      (runs_then (ev S x) (λ s n. ev S y n >>= (λ t. pure (binary_word op s t))) p
      (runs_then (ev S y) (λ t n. pure (binary_word op v t)) q (runs_pure j (binary_word op v w) h))))

  pub r_compare : (op : Comparison) (x y : Expr) {h : Face} {b c b' c' v w : ℕ} → Runs j (ev S x) h b c v h → Runs j (ev S y) h b' c' w h → Runs j (ev S (compare op x y)) h (b + b' + 1) (c + c' + 1) (compare_words op v w) h
  r_compare op x y {h} {b} {c} {b'} {c'} {v} {w} p q =
      runs_as (ev S (compare op x y)) (b + b' + 1) (c + c' + 1) (omega arith) (omega arith)
      (runs_node (λ n. ev S x n >>= (λ s. ev S y n >>= (λ t. pure (compare_words op s t))))
      (runs_then (ev S x) (λ s n. ev S y n >>= (λ t. pure (compare_words op s t))) p
      (runs_then (ev S y) (λ t n. pure (compare_words op v t)) q (runs_pure j (compare_words op v w) h))))

  -- ---- statements

  -- a word into a variable
  pub r_set : (i : ℕ) (v : Variable) (e : Expr) {h h' : Face} {b c w : ℕ} → slice_get (variables_of (o S)) i ≡ Some v → 8 ≤ v.size → Runs j (ev S e) h b c w h' →
      Runs j (ex1 S (set i e)) h (b + 2) (c + 3) falls (with_memory h' (put h'.memory (S.low + v.offset) (bytes_of 8 w)))
  r_set i v e {h} {h'} {b} {c} {w} is big run =
      let a : ℕ = S.low + v.offset in
      let touched : all_in (touched_in S.outer S.low (variables_of (o S))) a 8 ≡ true = part_touched S.outer S.low (variables_of (o S)) i v a 8 is (omega arith) (omega arith) in
      runs_as (ex1 S (set i e)) (b + 2) (c + 3) (omega arith) (omega arith)
      (runs_node (λ n. ev S (slot i) n >>= (λ x. ev S e n >>= (λ y. store_bytes (cenv S) x (bytes_of 8 y) >>= (λ _. pure falls))))
      (runs_then (ev S (slot i)) (λ x n. ev S e n >>= (λ y. store_bytes (cenv S) x (bytes_of 8 y) >>= (λ _. pure falls))) (r_slot i v h is)
      (runs_then (ev S e) (λ y n. store_bytes (cenv S) a (bytes_of 8 y) >>= (λ _. pure falls)) run
      (runs_then (λ n. store_bytes (cenv S) a (bytes_of 8 w)) (λ _ n. pure falls)
      (runs_store j (cenv S) a (bytes_of 8 w) h' touched) (runs_pure j falls (with_memory h' (put h'.memory a (bytes_of 8 w))))))))

  -- a byte to an address
  pub r_byte : (to e : Expr) {h : Face} {b c b' c' a w : ℕ} → Runs j (ev S to) h b c a h → Runs j (ev S e) h b' c' w h →
      all_in (touched_in S.outer S.low (variables_of (o S))) a 1 ≡ true →
      Runs j (ex1 S (store Byte to e)) h (b + b' + 1) (c + c' + 2) falls (with_memory h (put h.memory a (w % 256 ∷ [])))
  r_byte to e {h} {b} {c} {b'} {c'} {a} {w} p q touched =
      runs_as (ex1 S (store Byte to e)) (b + b' + 1) (c + c' + 2) (omega arith) (omega arith)
      (runs_node (λ n. ev S to n >>= (λ x. ev S e n >>= (λ y. store_bytes (cenv S) x (bytes_of 1 y) >>= (λ _. pure falls))))
      (runs_then (ev S to) (λ x n. ev S e n >>= (λ y. store_bytes (cenv S) x (bytes_of 1 y) >>= (λ _. pure falls))) p
      (runs_then (ev S e) (λ y n. store_bytes (cenv S) a (bytes_of 1 y) >>= (λ _. pure falls)) q
      (runs_then (λ n. store_bytes (cenv S) a (bytes_of 1 w)) (λ _ n. pure falls)
      (runs_store j (cenv S) a (bytes_of 1 w) h touched) (runs_pure j falls (with_memory h (put h.memory a (w % 256 ∷ []))))))))

  -- one statement and those behind it
  pub r_follow : (s : Stmt) (ss : Stmts) {h h' h'' : Face} {b c b' c' : ℕ} {flow : Flow} → Runs j (ex1 S s) h b c falls h' → Runs j (ex S ss) h' b' c' flow h'' →
      Runs j (ex S (follow s ss)) h (b + b') (c + c') flow h''
  r_follow s ss p q = runs_then (ex1 S s) (λ f n. after f (ex S ss n)) p q

  pub r_none : (h : Face) → Runs j (ex S finish) h 0 0 falls h
  r_none h = runs_pure j falls h

  -- a single statement
  pub r_one : (s : Stmt) {h h' : Face} {b c : ℕ} {flow : Flow} → Runs j (ex1 S s) h b c flow h' → Runs j (ex S (follow s finish)) h b c flow h'
  r_one s {h} {h'} {b} {c} {flow} p = record {
    is = λ n k x g. ap (λ (r : Res Flow). then_by r (λ f. after f (ex S finish n))) (p.is n k x g) ∙ alone flow (at h' k (x + c)) n;
  }
    where
      alone : (f : Flow) (t : CoreState) (n : ℕ) → after f (ex S finish n) t ≡ ok f t
      alone falls t n = refl
      alone (leaves d) t n = refl
      alone (answers w) t n = refl

  -- a list and another one behind it
  pub r_join : (a b : Stmts) {h h' h'' : Face} {x c x' c' : ℕ} {flow : Flow} → Runs j (ex S a) h x c falls h' → Runs j (ex S b) h' x' c' flow h'' →
      Runs j (ex S (join a b)) h (x + x') (c + c') flow h''
  r_join a b {h} {h'} {h''} {x} {c} {x'} {c'} {flow} p q =
      let r = runs_then (ex S a) (λ f n. after f (ex S b n)) p q in
      record { is = λ n k s g. exec_join n (cenv S) a b (at h (k + (x + x')) s) ∙ r.is n k s g }

  -- a choice
  pub r_choose : (e : Expr) (first second : Stmts) {h h' : Face} {b c b' c' w : ℕ} {flow : Flow} → Runs j (ev S e) h b c w h →
      Runs j (λ n. if w == 0 then ex S second n else ex S first n) h b' c' flow h' → Runs j (ex1 S (choose e first second)) h (b + b' + 1) (c + c' + 1) flow h'
  r_choose e first second p q =
      runs_node (λ n. ev S e n >>= (λ v. if v == 0 then ex S second n else ex S first n))
      (runs_then (ev S e) (λ v n. if v == 0 then ex S second n else ex S first n) p q)

  pub r_leave : (d : ℕ) (h : Face) → Runs j (ex1 S (leave d)) h 1 1 (leaves d) h
  r_leave d h = runs_node (λ n. pure (leaves d)) (runs_pure j (leaves d) h)
