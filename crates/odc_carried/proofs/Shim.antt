-- Parts of core runs told by memory and log, where the input stays.
use Rattle.std.proofs.Common.{◌≡◌, ℕ, suc, ◌+◌, ◌%◌, ◌^◌, ◌<◌, ◌≤◌, true, List, [], ◌∷◌, ◌++◌, length, map}
use Rattle.std.specs.Prelude.{Some, slice_get, ◌==◌, if◌then◌else◌}
use Rattle.odc_text.specs.Run.{Log}
use Rattle.odc_core.specs.declared.tree.Descriptor.{Descriptor}
use Rattle.odc_core.specs.declared.tree.BinaryOp.{BinaryOp}
use Rattle.odc_core.specs.declared.tree.Comparison.{Comparison}
use Rattle.odc_core.specs.declared.tree.Variable.{Variable}
use Rattle.odc_core.specs.declared.tree.Width.TheVariants.{Byte}
use Rattle.odc_core.specs.Tree.{Expr, const, slot, binary, compare, Stmt, store, choose, leave, Stmts, finish, follow}
use Rattle.odc_core.specs.Words.{binary_word, compare_words, bytes_of}
use Rattle.odc_core.specs.Memory.{Memory, all_in, loaded, put}
use Rattle.odc_core.specs.Frames.{touched_in}
use Rattle.odc_core.specs.Run.{Env, pure, node, moved, load_bytes, write_bytes, entry_to, ◌>>=◌, Flow, falls, leaves, turns}
use Rattle.odc_carried.specs.Code.{variables_of, join, held}
use Rattle.odc_carried.specs.Code.{put as set}
use Rattle.odc_carried.specs.Tied.{Site, o}
use Rattle.odc_carried.proofs.Runs.{Face, Fueled}
use Rattle.odc_carried.proofs.Runs.{Runs as Whole, runs_pure as w_pure, runs_as as w_as, runs_then as w_then, runs_node as w_node, runs_load as w_load, runs_write as w_write}
use Rattle.odc_carried.proofs.Turns.{rest_of}
use Rattle.odc_carried.proofs.Turns.{runs_again as w_again, runs_out as w_out, all_turns as w_all}
use Rattle.odc_carried.proofs.Frame.{WordAt}
use Rattle.odc_carried.proofs.Frame.{ev as s_ev, ex1 as s_ex1, ex as s_ex, r_const as w_const, r_slot as w_slot, r_held as w_held, r_binary as w_binary, r_compare as w_compare, r_set as w_set, r_byte as w_byte, r_follow as w_follow, r_none as w_none, r_one as w_one, r_join as w_join, r_choose as w_choose, r_leave as w_leave}

abbrev pub face : List ℕ → ℕ → Memory → Log ℕ ℕ → Face
face I K m l = record { memory = m; log = l; input = I; taken = K }

module _ (I : List ℕ) (K : ℕ) where
  abbrev pub Runs : ℕ → {A : Type 0} → Fueled A → Memory → Log ℕ ℕ → ℕ → ℕ → A → Memory → Log ℕ ℕ → Type 0
  Runs j act m l b x v m' l' = Whole j act (face I K m l) b x v (face I K m' l')

  pub runs_pure : {A : Type 0} (j : ℕ) (v : A) (m : Memory) (l : Log ℕ ℕ) → Runs j (λ n. pure v) m l 0 0 v m l
  runs_pure j v m l = w_pure j v (face I K m l)

  pub runs_as : {A : Type 0} (j : ℕ) (act : Fueled A) (m : Memory) (l : Log ℕ ℕ) (b b' x x' : ℕ) (v : A) (m' : Memory) (l' : Log ℕ ℕ) → b ≡ b' → x ≡ x' → Runs j act m l b x v m' l' → Runs j act m l b' x' v m' l'
  runs_as j act m l b b' x x' v m' l' e f r = w_as act b' x' e f r

  pub runs_then : {A B : Type 0} (j : ℕ) (act : Fueled A) (more : A → Fueled B) (m : Memory) (l : Log ℕ ℕ) (b x : ℕ) (v : A) (m' : Memory) (l' : Log ℕ ℕ) (b' x' : ℕ) (w : B) (m'' : Memory) (l'' : Log ℕ ℕ) →
      Runs j act m l b x v m' l' → Runs j (more v) m' l' b' x' w m'' l'' → Runs j (λ n. act n >>= (λ y. more y n)) m l (b + b') (x + x') w m'' l''
  runs_then j act more m l b x v m' l' b' x' w m'' l'' r q = w_then act more r q

  pub runs_node : {A : Type 0} (j : ℕ) (act : Fueled A) (m : Memory) (l : Log ℕ ℕ) (b x : ℕ) (v : A) (m' : Memory) (l' : Log ℕ ℕ) → Runs j act m l b x v m' l' → Runs j (λ n. node (act n)) m l (b + 1) (x + 1) v m' l'
  runs_node j act m l b x v m' l' r = w_node act r

  pub runs_load : (j : ℕ) (env : Env) (a size : ℕ) (bytes : List ℕ) (m : Memory) (l : Log ℕ ℕ) → loaded env.touched m a size ≡ Some bytes → Runs j (λ n. load_bytes env a size) m l 0 (moved size) bytes m l
  runs_load j env a size bytes m l e = w_load j env a size bytes (face I K m l) e

  pub runs_write : (j : ℕ) (d : Descriptor) (bytes : List ℕ) (m : Memory) (l : Log ℕ ℕ) → Runs j (λ n. write_bytes d bytes) m l 0 (length bytes) tt m (l ++ map (entry_to d) bytes)
  runs_write j d bytes m l = w_write j d bytes (face I K m l)

  pub runs_again : (i j : ℕ) (body : Fueled Flow) (m m' m'' : Memory) (l l' l'' : Log ℕ ℕ) (b x b' x' : ℕ) (flow : Flow) → i ≤ j → Runs j body m l b x falls m' l' → Runs (suc j) (rest_of (suc i) body) m' l' b' x' flow m'' l'' → Runs j (rest_of i body) m l (b + b' + 1) (x + x' + 1) flow m'' l''
  runs_again i j body m m' m'' l l' l'' b x b' x' flow h r q = w_again i j body h r q

  pub runs_out : (i j : ℕ) (body : Fueled Flow) (m m' : Memory) (l l' : Log ℕ ℕ) (b x : ℕ) → i ≤ j → Runs j body m l b x (leaves 0) m' l' → Runs j (rest_of i body) m l (b + 1) (x + 1) falls m' l'
  runs_out i j body m m' l l' b x h r = w_out i j body h r

  pub all_turns : (j : ℕ) (body : Fueled Flow) (m m' : Memory) (l l' : Log ℕ ℕ) (b x : ℕ) (flow : Flow) → Runs j (rest_of 0 body) m l b x flow m' l' → Runs j (λ n. turns n (body n)) m l b x flow m' l'
  all_turns j body m m' l l' b x flow r = w_all j body r

module _ (j : ℕ) (S : Site) (I : List ℕ) (K : ℕ) where
  abbrev pub ev : Expr → Fueled ℕ
  ev e n = s_ev S e n

  abbrev pub ex1 : Stmt → Fueled Flow
  ex1 s n = s_ex1 S s n

  abbrev pub ex : Stmts → Fueled Flow
  ex ss n = s_ex S ss n

  pub r_const : (w : ℕ) (m : Memory) (l : Log ℕ ℕ) → Runs I K j (s_ev S (const w)) m l 1 1 w m l
  r_const w m l = w_const S j w (face I K m l)

  pub r_slot : (i : ℕ) (v : Variable) (m : Memory) (l : Log ℕ ℕ) → slice_get (variables_of (o S)) i ≡ Some v → Runs I K j (s_ev S (slot i)) m l 1 1 (S.low + v.offset) m l
  r_slot i v m l e = w_slot S j i v (face I K m l) e

  pub r_held : (i : ℕ) (v : Variable) (w : ℕ) (m : Memory) (l : Log ℕ ℕ) → slice_get (variables_of (o S)) i ≡ Some v → 8 ≤ v.size → w < 2 ^ 64 → WordAt m (S.low + v.offset) w → Runs I K j (s_ev S (held i)) m l 2 3 w m l
  r_held i v w m l e big small there = w_held S j i v w (face I K m l) e big small there

  pub r_binary : (op : BinaryOp) (x y : Expr) (m : Memory) (l : Log ℕ ℕ) (b c b' c' v w : ℕ) → Runs I K j (s_ev S x) m l b c v m l → Runs I K j (s_ev S y) m l b' c' w m l → Runs I K j (s_ev S (binary op x y)) m l (b + b' + 1) (c + c' + 1) (binary_word op v w) m l
  r_binary op x y m l b c b' c' v w p q = w_binary S j op x y p q

  pub r_compare : (op : Comparison) (x y : Expr) (m : Memory) (l : Log ℕ ℕ) (b c b' c' v w : ℕ) → Runs I K j (s_ev S x) m l b c v m l → Runs I K j (s_ev S y) m l b' c' w m l → Runs I K j (s_ev S (compare op x y)) m l (b + b' + 1) (c + c' + 1) (compare_words op v w) m l
  r_compare op x y m l b c b' c' v w p q = w_compare S j op x y p q

  pub r_set : (i : ℕ) (v : Variable) (e : Expr) (m m' : Memory) (l l' : Log ℕ ℕ) (b c w : ℕ) → slice_get (variables_of (o S)) i ≡ Some v → 8 ≤ v.size → Runs I K j (s_ev S e) m l b c w m' l' → Runs I K j (s_ex1 S (set i e)) m l (b + 2) (c + 3) falls (put m' (S.low + v.offset) (bytes_of 8 w)) l'
  r_set i v e m m' l l' b c w f big run = w_set S j i v e f big run

  pub r_byte : (to e : Expr) (m : Memory) (l : Log ℕ ℕ) (b c b' c' a w : ℕ) → Runs I K j (s_ev S to) m l b c a m l → Runs I K j (s_ev S e) m l b' c' w m l → all_in (touched_in S.outer S.low (variables_of (o S))) a 1 ≡ true →
      Runs I K j (s_ex1 S (store Byte to e)) m l (b + b' + 1) (c + c' + 2) falls (put m a (w % 256 ∷ [])) l
  r_byte to e m l b c b' c' a w p q t = w_byte S j to e p q t

  pub r_follow : (s : Stmt) (ss : Stmts) (m m' m'' : Memory) (l l' l'' : Log ℕ ℕ) (b c b' c' : ℕ) (flow : Flow) → Runs I K j (s_ex1 S s) m l b c falls m' l' → Runs I K j (s_ex S ss) m' l' b' c' flow m'' l'' → Runs I K j (s_ex S (follow s ss)) m l (b + b') (c + c') flow m'' l''
  r_follow s ss m m' m'' l l' l'' b c b' c' flow p q = w_follow S j s ss p q

  pub r_none : (m : Memory) (l : Log ℕ ℕ) → Runs I K j (s_ex S finish) m l 0 0 falls m l
  r_none m l = w_none S j (face I K m l)

  pub r_one : (s : Stmt) (m m' : Memory) (l l' : Log ℕ ℕ) (b c : ℕ) (flow : Flow) → Runs I K j (s_ex1 S s) m l b c flow m' l' → Runs I K j (s_ex S (follow s finish)) m l b c flow m' l'
  r_one s m m' l l' b c flow p = w_one S j s p

  pub r_join : (a b : Stmts) (m m' m'' : Memory) (l l' l'' : Log ℕ ℕ) (x c x' c' : ℕ) (flow : Flow) → Runs I K j (s_ex S a) m l x c falls m' l' → Runs I K j (s_ex S b) m' l' x' c' flow m'' l'' → Runs I K j (s_ex S (join a b)) m l (x + x') (c + c') flow m'' l''
  r_join a b m m' m'' l l' l'' x c x' c' flow p q = w_join S j a b p q

  pub r_choose : (e : Expr) (first second : Stmts) (m m' : Memory) (l l' : Log ℕ ℕ) (b c b' c' w : ℕ) (flow : Flow) → Runs I K j (s_ev S e) m l b c w m l → Runs I K j (λ n. if w == 0 then s_ex S second n else s_ex S first n) m l b' c' flow m' l' →
      Runs I K j (s_ex1 S (choose e first second)) m l (b + b' + 1) (c + c' + 1) flow m' l'
  r_choose e first second m m' l l' b c b' c' w flow p q = w_choose S j e first second p q

  pub r_leave : (d : ℕ) (m : Memory) (l : Log ℕ ℕ) → Runs I K j (s_ex1 S (leave d)) m l 1 1 (leaves d) m l
  r_leave d m l = w_leave S j d (face I K m l)
