-- The instructions of lowered code are at most those that its core code weighs.
use Rattle.std.proofs.Common.{◌≡◌, ℕ, zero, suc, ◌+◌, ◌*◌, ◌≤◌, Bool, true, false, List, [], ◌∷◌, ◌++◌, length, map, refl, arith, ap, lit≤}
use Rattle.odc_core.specs.declared.tree.Comparison.{Comparison}
use Rattle.odc_core.specs.declared.tree.Comparison.TheVariants.{Equal, Different, Less, Below}
use Rattle.odc_core.specs.declared.tree.Width.TheVariants.{Double}
use Rattle.odc_core.specs.Well.{count}
use Rattle.odc_core.specs.Tree.{Expr, const, slot, address, procedure, load, unary, binary, compare, call, call_value, Exprs, none, more, Stmt, eval, store, copy, zero_bytes, choose, repeat, leave, answer, check, read, write, exit, Stmts, finish, follow}
use Rattle.odc_mid.specs.declared.tree.MidStep.{MidStep}
use Rattle.odc_mid.specs.declared.tree.MidStep.TheVariants.{Const, Address, Move, Unary, Binary, Compare, Load, Store, Jump, Branch, Call, CallValue, Return, Check, System}
use Rattle.odc_mid.specs.declared.tree.SystemCall.TheVariants.{Read, Write, Exit}
use Rattle.odc_lower.specs.Plain.{Step, plain, unary_step, binary_step, compare_step, load_step, store_step, jump_step, branch_step, call_step, call_value_step, return_step, check_step, system_step}
use Rattle.odc_lower.specs.Size.{expr_nodes, exprs_nodes, stmt_nodes, stmts_nodes, stmt_size, stmts_size}
use Rattle.odc_lower.proofs.Sizes.{expr_some}
use Rattle.odc_lower.specs.Code.{expr_code, exprs_code, stmt_code, stmts_code, copy_code, zero_code, temps_from}
use Rattle.rv_emit.specs.Code.{step_size, steps_size, compare_code, registers_size, value_size}
use Rattle.odc_build.specs.Weight.{plain_size, plain_sizes, expr_weight, exprs_weight, stmt_weight, stmts_weight}

-- ---- plain steps have the instructions of steps

same_size : (s : MidStep) → step_size s ≡ plain_size (plain s)
same_size (Const to word) = refl
same_size (Address to of) = refl
same_size (Move to from) = refl
same_size (Unary to op operand) = refl
same_size (Binary to op left right) = refl
same_size (Compare to op left right) = refl
same_size (Load to width a) = refl
same_size (Store width a value) = refl
same_size (Jump label) = refl
same_size (Branch condition label) = refl
same_size (Call to f arguments) = refl
same_size (CallValue to target arguments marked) = refl
same_size (Return value) = refl
same_size (Check condition which at) = refl
same_size (System asked) = refl

pub same_sizes : (ss : List MidStep) → steps_size ss ≡ plain_sizes (map plain ss)
same_sizes [] = refl
same_sizes (s ∷ ss) = omega (arith, same_size s, same_sizes ss)

pub sizes_join : (a b : List Step) → plain_sizes (a ++ b) ≡ plain_sizes a + plain_sizes b
sizes_join [] b = omega arith
sizes_join (s ∷ a) b = omega (arith, sizes_join a b)

-- ---- parts

two : (a b : List Step) (m n : ℕ) → plain_sizes a ≤ m → plain_sizes b ≤ n → plain_sizes (a ++ b) ≤ m + n
two a b m n p q = omega (arith, sizes_join a b, p, q)

three : (a b c : List Step) (m n k : ℕ) → plain_sizes a ≤ m → plain_sizes b ≤ n → plain_sizes c ≤ k → plain_sizes (a ++ (b ++ c)) ≤ m + n + k
three a b c m n k p q r = omega (arith, sizes_join a (b ++ c), sizes_join b c, p, q, r)

four : (a b c d : List Step) (m n k l : ℕ) → plain_sizes a ≤ m → plain_sizes b ≤ n → plain_sizes c ≤ k → plain_sizes d ≤ l → plain_sizes (a ++ (b ++ (c ++ d))) ≤ m + n + k + l
four a b c d m n k l p q r s = omega (arith, sizes_join a (b ++ (c ++ d)), sizes_join b (c ++ d), sizes_join c d, p, q, r, s)

compare_small : (op : Comparison) → length (compare_code op) ≤ 2
compare_small Equal = lit≤ tt
compare_small Different = lit≤ tt
compare_small Less = lit≤ tt
compare_small Below = lit≤ tt

temps_length : (d n : ℕ) → length (temps_from d n) ≡ n
temps_length d zero = refl
temps_length d (suc n) = ap suc (temps_length (d + 1) n)

registers_small : (ts : List ℕ) → registers_size ts ≤ 36
registers_small [] = lit≤ tt
registers_small (a ∷ []) = lit≤ tt
registers_small (a ∷ b ∷ []) = lit≤ tt
registers_small (a ∷ b ∷ c ∷ []) = lit≤ tt
registers_small (a ∷ b ∷ c ∷ d ∷ []) = lit≤ tt
registers_small (a ∷ b ∷ c ∷ d ∷ e ∷ []) = lit≤ tt
registers_small (a ∷ b ∷ c ∷ d ∷ e ∷ f ∷ []) = lit≤ tt
registers_small (a ∷ b ∷ c ∷ d ∷ e ∷ f ∷ g ∷ ts) = lit≤ tt

value_small : (ts : List ℕ) (marked : Bool) → value_size ts marked ≤ 8 * length ts + 62
value_small ts true = omega (arith, registers_small ts)
value_small ts false = omega arith

-- ---- expressions

mutual
  pub expr_weighs : (e : Expr) (d : ℕ) → plain_sizes (expr_code d e) ≤ expr_weight e
  expr_weighs (const word) d = lit≤ tt
  expr_weighs (slot x) d = lit≤ tt
  expr_weighs (address n) d = lit≤ tt
  expr_weighs (procedure f) d = lit≤ tt
  expr_weighs (load width e) d = two (expr_code d e) (load_step d width d ∷ []) (expr_weight e) 13 (expr_weighs e d) (lit≤ tt)
  expr_weighs (unary op e) d = two (expr_code d e) (unary_step d op d ∷ []) (expr_weight e) 14 (expr_weighs e d) (lit≤ tt)
  expr_weighs (binary op a b) d =
      three (expr_code d a) (expr_code (d + 1) b) (binary_step d op d (d + 1) ∷ []) (expr_weight a) (expr_weight b) 19 (expr_weighs a d) (expr_weighs b (d + 1)) (lit≤ tt)
  expr_weighs (compare op a b) d =
      three (expr_code d a) (expr_code (d + 1) b) (compare_step d op d (d + 1) ∷ []) (expr_weight a) (expr_weight b) 20 (expr_weighs a d) (expr_weighs b (d + 1))
      (omega (arith, compare_small op))
  expr_weighs (call f es) d =
      let n : ℕ = count es in
      let last : plain_sizes (call_step d f (temps_from d n) ∷ []) ≤ 8 * n + 24 = omega (arith, temps_length d n) in
      let all : plain_sizes (exprs_code d es ++ (call_step d f (temps_from d n) ∷ [])) ≤ exprs_weight es + (8 * n + 24) =
      two (exprs_code d es) (call_step d f (temps_from d n) ∷ []) (exprs_weight es) (8 * n + 24) (exprs_weigh es d) last in
      omega (arith, all)
  expr_weighs (call_value e es marked) d =
      let n : ℕ = count es in
      let ts : List ℕ = temps_from (d + 1) n in
      let last : plain_sizes (call_value_step d d ts marked ∷ []) ≤ 8 * n + 62 = omega (arith, temps_length (d + 1) n, value_small ts marked) in
      let all : plain_sizes (expr_code d e ++ (exprs_code (d + 1) es ++ (call_value_step d d ts marked ∷ []))) ≤ expr_weight e + exprs_weight es + (8 * n + 62) =
      three (expr_code d e) (exprs_code (d + 1) es) (call_value_step d d ts marked ∷ []) (expr_weight e) (exprs_weight es) (8 * n + 62) (expr_weighs e d) (exprs_weigh es (d + 1)) last in
      omega (arith, all)

  pub exprs_weigh : (es : Exprs) (d : ℕ) → plain_sizes (exprs_code d es) ≤ exprs_weight es
  exprs_weigh none d = lit≤ tt
  exprs_weigh (more e es) d = two (expr_code d e) (exprs_code (d + 1) es) (expr_weight e) (exprs_weight es) (expr_weighs e d) (exprs_weigh es (d + 1))

-- ---- statements

copy_weighs : (d p : ℕ) → plain_sizes (copy_code d p) ≤ 760
copy_weighs d p = lit≤ tt

zero_weighs : (d p : ℕ) → plain_sizes (zero_code d p) ≤ 300
zero_weighs d p = lit≤ tt

mutual
  pub stmt_weighs : (s : Stmt) (d : ℕ) (exits : List ℕ) (p : ℕ) → plain_sizes (stmt_code d exits p s) ≤ stmt_weight s
  stmt_weighs (eval value) d exits p = expr_weighs value d
  stmt_weighs (store width to value) d exits p =
      three (expr_code d to) (expr_code (d + 1) value) (store_step width d (d + 1) ∷ []) (expr_weight to) (expr_weight value) 13 (expr_weighs to d) (expr_weighs value (d + 1)) (lit≤ tt)
  stmt_weighs (copy to from size) d exits p =
      let q : ℕ = p + expr_nodes to + expr_nodes from + expr_nodes size in
      four (expr_code d to) (expr_code (d + 1) from) (expr_code (d + 2) size) (copy_code d q) (expr_weight to) (expr_weight from) (expr_weight size) 760
      (expr_weighs to d) (expr_weighs from (d + 1)) (expr_weighs size (d + 2)) (copy_weighs d q)
  stmt_weighs (zero_bytes to size) d exits p =
      let q : ℕ = p + expr_nodes to + expr_nodes size in
      three (expr_code d to) (expr_code (d + 1) size) (zero_code d q) (expr_weight to) (expr_weight size) 300 (expr_weighs to d) (expr_weighs size (d + 1)) (zero_weighs d q)
  stmt_weighs (choose condition first second) d exits p =
      let other : ℕ = p + expr_nodes condition + 1 in
      let begin : ℕ = other + stmts_size second + 1 in
      let last : List Step = jump_step (begin + stmts_size first) ∷ stmts_code d exits begin first in
      let b : plain_sizes last ≤ stmts_weight first + 7 = omega (arith, stmts_weigh first d exits begin) in
      let c : plain_sizes (stmts_code d exits other second ++ last) ≤ stmts_weight second + (stmts_weight first + 7) =
      two (stmts_code d exits other second) last (stmts_weight second) (stmts_weight first + 7) (stmts_weigh second d exits other) b in
      let e : plain_sizes (branch_step d begin ∷ (stmts_code d exits other second ++ last)) ≤ 14 + (stmts_weight second + (stmts_weight first + 7)) = omega (arith, c) in
      let all : plain_sizes (expr_code d condition ++ (branch_step d begin ∷ (stmts_code d exits other second ++ last))) ≤ expr_weight condition + (14 + (stmts_weight second + (stmts_weight first + 7))) =
      two (expr_code d condition) (branch_step d begin ∷ (stmts_code d exits other second ++ last)) (expr_weight condition) (14 + (stmts_weight second + (stmts_weight first + 7)))
      (expr_weighs condition d) e in
      omega (arith, all)
  stmt_weighs (repeat body) d exits p =
      let inner : List ℕ = (p + 1 + stmts_size body + 1) ∷ exits in
      let all : plain_sizes (stmts_code d inner (p + 1) body ++ (jump_step (p + 1) ∷ [])) ≤ stmts_weight body + 7 =
      two (stmts_code d inner (p + 1) body) (jump_step (p + 1) ∷ []) (stmts_weight body) 7 (stmts_weigh body d inner (p + 1)) (lit≤ tt) in
      omega (arith, all)
  stmt_weighs (leave depth) d exits p = lit≤ tt
  stmt_weighs (answer value) d exits p = two (expr_code d value) (return_step d ∷ []) (expr_weight value) 13 (expr_weighs value d) (lit≤ tt)
  stmt_weighs (check condition which place) d exits p = two (expr_code d condition) (check_step d which place ∷ []) (expr_weight condition) 13 (expr_weighs condition d) (lit≤ tt)
  stmt_weighs (read to size taken) d exits p =
      four (expr_code d to) (expr_code (d + 1) size) (expr_code (d + 2) taken) (system_step (Read (d + 3) d (d + 1)) ∷ store_step Double (d + 2) (d + 3) ∷ [])
      (expr_weight to) (expr_weight size) (expr_weight taken) 34 (expr_weighs to d) (expr_weighs size (d + 1)) (expr_weighs taken (d + 2)) (lit≤ tt)
  stmt_weighs (write descriptor from size) d exits p =
      three (expr_code d from) (expr_code (d + 1) size) (system_step (Write descriptor d (d + 1)) ∷ []) (expr_weight from) (expr_weight size) 15
      (expr_weighs from d) (expr_weighs size (d + 1)) (lit≤ tt)
  stmt_weighs (exit code) d exits p = two (expr_code d code) (system_step (Exit d) ∷ []) (expr_weight code) 8 (expr_weighs code d) (lit≤ tt)

  pub stmts_weigh : (ss : Stmts) (d : ℕ) (exits : List ℕ) (p : ℕ) → plain_sizes (stmts_code d exits p ss) ≤ stmts_weight ss
  stmts_weigh finish d exits p = lit≤ tt
  stmts_weigh (follow s ss) d exits p =
      two (stmt_code d exits p s) (stmts_code d exits (p + stmt_size s) ss) (stmt_weight s) (stmts_weight ss) (stmt_weighs s d exits p) (stmts_weigh ss d exits (p + stmt_size s))

-- ---- nodes

mutual
  expr_nodes_weigh : (e : Expr) → 10 * expr_nodes e ≤ expr_weight e
  expr_nodes_weigh (const word) = lit≤ tt
  expr_nodes_weigh (slot x) = lit≤ tt
  expr_nodes_weigh (address n) = lit≤ tt
  expr_nodes_weigh (procedure f) = lit≤ tt
  expr_nodes_weigh (load width e) = omega (arith, expr_nodes_weigh e)
  expr_nodes_weigh (unary op e) = omega (arith, expr_nodes_weigh e)
  expr_nodes_weigh (binary op a b) = omega (arith, expr_nodes_weigh a, expr_nodes_weigh b)
  expr_nodes_weigh (compare op a b) = omega (arith, expr_nodes_weigh a, expr_nodes_weigh b)
  expr_nodes_weigh (call f es) = omega (arith, exprs_nodes_weigh es)
  expr_nodes_weigh (call_value e es marked) = omega (arith, expr_nodes_weigh e, exprs_nodes_weigh es)

  exprs_nodes_weigh : (es : Exprs) → 10 * exprs_nodes es ≤ exprs_weight es
  exprs_nodes_weigh none = lit≤ tt
  exprs_nodes_weigh (more e es) = omega (arith, expr_nodes_weigh e, exprs_nodes_weigh es)

mutual
  stmt_nodes_weigh : (s : Stmt) → 5 * stmt_nodes s ≤ stmt_weight s
  stmt_nodes_weigh (eval value) = omega (arith, expr_nodes_weigh value, expr_some value)
  stmt_nodes_weigh (store width to value) = omega (arith, expr_nodes_weigh to, expr_nodes_weigh value)
  stmt_nodes_weigh (copy to from size) = omega (arith, expr_nodes_weigh to, expr_nodes_weigh from, expr_nodes_weigh size)
  stmt_nodes_weigh (zero_bytes to size) = omega (arith, expr_nodes_weigh to, expr_nodes_weigh size)
  stmt_nodes_weigh (choose condition first second) = omega (arith, expr_nodes_weigh condition, stmts_nodes_weigh first, stmts_nodes_weigh second)
  stmt_nodes_weigh (repeat body) = omega (arith, stmts_nodes_weigh body)
  stmt_nodes_weigh (leave depth) = lit≤ tt
  stmt_nodes_weigh (answer value) = omega (arith, expr_nodes_weigh value)
  stmt_nodes_weigh (check condition which place) = omega (arith, expr_nodes_weigh condition)
  stmt_nodes_weigh (read to size taken) = omega (arith, expr_nodes_weigh to, expr_nodes_weigh size, expr_nodes_weigh taken)
  stmt_nodes_weigh (write descriptor from size) = omega (arith, expr_nodes_weigh from, expr_nodes_weigh size)
  stmt_nodes_weigh (exit code) = omega (arith, expr_nodes_weigh code)

  pub stmts_nodes_weigh : (ss : Stmts) → 5 * stmts_nodes ss ≤ stmts_weight ss
  stmts_nodes_weigh finish = lit≤ tt
  stmts_nodes_weigh (follow s ss) = omega (arith, stmt_nodes_weigh s, stmts_nodes_weigh ss)
