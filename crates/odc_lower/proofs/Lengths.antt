-- Each form becomes as many steps as its size says.
use Rattle.std.proofs.Common.{◌≡◌, ℕ, zero, suc, ◌+◌, ◌*◌, List, [], ◌∷◌, ◌++◌, length, refl, arith, length-append}
use Rattle.odc_core.specs.Tree.{Expr, const, slot, address, procedure, load, unary, binary, compare, call, call_value, Exprs, none, more, Stmt, eval, store, copy, zero_bytes, choose, repeat, leave, answer, check, read, write, exit, Stmts, finish, follow}
use Rattle.odc_core.specs.Well.{count}
use Rattle.odc_core.specs.declared.tree.Width.TheVariants.{Double}
use Rattle.odc_mid.specs.declared.tree.SystemCall.TheVariants.{Read, Write, Exit}
use Rattle.odc_lower.specs.Plain.{Step, unary_step, binary_step, compare_step, load_step, store_step, jump_step, branch_step, call_step, call_value_step, return_step, check_step, system_step}
use Rattle.odc_lower.specs.Size.{expr_nodes, exprs_nodes, stmt_size, stmts_size}
use Rattle.odc_lower.specs.Code.{expr_code, exprs_code, stmt_code, stmts_code, parameters_code, copy_code, zero_code, temps_from}

-- a form of two or three parts
pub join_two : (a b : List Step) (m n : ℕ) → length a ≡ m → length b ≡ n → length (a ++ b) ≡ m + n
join_two a b m n p q = omega (arith, length-append a b, p, q)

pub join_three : (a b c : List Step) (m n k : ℕ) → length a ≡ m → length b ≡ n → length c ≡ k → length (a ++ (b ++ c)) ≡ m + n + k
join_three a b c m n k p q r = omega (arith, length-append a (b ++ c), length-append b c, p, q, r)

mutual
  pub expr_length : (e : Expr) (d : ℕ) → length (expr_code d e) ≡ expr_nodes e
  expr_length (const word) d = refl
  expr_length (slot x) d = refl
  expr_length (address n) d = refl
  expr_length (procedure f) d = refl
  expr_length (load width e) d = join_two (expr_code d e) (load_step d width d ∷ []) (expr_nodes e) 1 (expr_length e d) refl
  expr_length (unary op e) d = join_two (expr_code d e) (unary_step d op d ∷ []) (expr_nodes e) 1 (expr_length e d) refl
  expr_length (binary op a b) d =
      join_three (expr_code d a) (expr_code (d + 1) b) (binary_step d op d (d + 1) ∷ []) (expr_nodes a) (expr_nodes b) 1 (expr_length a d) (expr_length b (d + 1)) refl
  expr_length (compare op a b) d =
      join_three (expr_code d a) (expr_code (d + 1) b) (compare_step d op d (d + 1) ∷ []) (expr_nodes a) (expr_nodes b) 1 (expr_length a d) (expr_length b (d + 1)) refl
  expr_length (call f es) d = join_two (exprs_code d es) (call_step d f (temps_from d (count es)) ∷ []) (exprs_nodes es) 1 (exprs_length es d) refl
  expr_length (call_value e es marked) d =
      join_three (expr_code d e) (exprs_code (d + 1) es) (call_value_step d d (temps_from (d + 1) (count es)) marked ∷ []) (expr_nodes e) (exprs_nodes es) 1
      (expr_length e d) (exprs_length es (d + 1)) refl

  pub exprs_length : (es : Exprs) (d : ℕ) → length (exprs_code d es) ≡ exprs_nodes es
  exprs_length none d = refl
  exprs_length (more e es) d = join_two (expr_code d e) (exprs_code (d + 1) es) (expr_nodes e) (exprs_nodes es) (expr_length e d) (exprs_length es (d + 1))

mutual
  pub stmt_length : (s : Stmt) (d : ℕ) (exits : List ℕ) (p : ℕ) → length (stmt_code d exits p s) ≡ stmt_size s
  stmt_length (eval value) d exits p = expr_length value d
  stmt_length (store width to value) d exits p =
      join_three (expr_code d to) (expr_code (d + 1) value) (store_step width d (d + 1) ∷ []) (expr_nodes to) (expr_nodes value) 1 (expr_length to d) (expr_length value (d + 1)) refl
  stmt_length (copy to from size) d exits p =
      let bytes = copy_code d (p + expr_nodes to + expr_nodes from + expr_nodes size) in
      let back = join_three (expr_code (d + 1) from) (expr_code (d + 2) size) bytes (expr_nodes from) (expr_nodes size) 45 (expr_length from (d + 1)) (expr_length size (d + 2)) refl in
      let all = join_two (expr_code d to) (expr_code (d + 1) from ++ (expr_code (d + 2) size ++ bytes)) (expr_nodes to) (expr_nodes from + expr_nodes size + 45) (expr_length to d) back in
      omega (arith, all)
  stmt_length (zero_bytes to size) d exits p =
      join_three (expr_code d to) (expr_code (d + 1) size) (zero_code d (p + expr_nodes to + expr_nodes size)) (expr_nodes to) (expr_nodes size) 17
      (expr_length to d) (expr_length size (d + 1)) refl
  stmt_length (choose condition first second) d exits p =
      let other = p + expr_nodes condition + 1 in
      let begin = other + stmts_size second + 1 in
      let rest = jump_step (begin + stmts_size first) ∷ stmts_code d exits begin first in
      let one = stmts_length first d exits begin in
      let back = join_two (stmts_code d exits other second) rest (stmts_size second) (stmts_size first + 1) (stmts_length second d exits other) (omega (arith, one)) in
      let all = join_two (expr_code d condition) (branch_step d begin ∷ (stmts_code d exits other second ++ rest)) (expr_nodes condition) (stmts_size second + (stmts_size first + 1) + 1)
      (expr_length condition d) (omega (arith, back)) in
      omega (arith, all)
  stmt_length (repeat body) d exits p =
      let inner = (p + 1 + stmts_size body + 1) ∷ exits in
      let all = join_two (stmts_code d inner (p + 1) body) (jump_step (p + 1) ∷ []) (stmts_size body) 1 (stmts_length body d inner (p + 1)) refl in
      omega (arith, all)
  stmt_length (leave depth) d exits p = refl
  stmt_length (answer value) d exits p = join_two (expr_code d value) (return_step d ∷ []) (expr_nodes value) 1 (expr_length value d) refl
  stmt_length (check condition which place) d exits p = join_two (expr_code d condition) (check_step d which place ∷ []) (expr_nodes condition) 1 (expr_length condition d) refl
  stmt_length (read to size taken) d exits p =
      let last = system_step (Read (d + 3) d (d + 1)) ∷ store_step Double (d + 2) (d + 3) ∷ [] in
      let back = join_three (expr_code (d + 1) size) (expr_code (d + 2) taken) last (expr_nodes size) (expr_nodes taken) 2 (expr_length size (d + 1)) (expr_length taken (d + 2)) refl in
      let all = join_two (expr_code d to) (expr_code (d + 1) size ++ (expr_code (d + 2) taken ++ last)) (expr_nodes to) (expr_nodes size + expr_nodes taken + 2) (expr_length to d) back in
      omega (arith, all)
  stmt_length (write descriptor from size) d exits p =
      join_three (expr_code d from) (expr_code (d + 1) size) (system_step (Write descriptor d (d + 1)) ∷ []) (expr_nodes from) (expr_nodes size) 1
      (expr_length from d) (expr_length size (d + 1)) refl
  stmt_length (exit code) d exits p = join_two (expr_code d code) (system_step (Exit d) ∷ []) (expr_nodes code) 1 (expr_length code d) refl

  pub stmts_length : (ss : Stmts) (d : ℕ) (exits : List ℕ) (p : ℕ) → length (stmts_code d exits p ss) ≡ stmts_size ss
  stmts_length finish d exits p = refl
  stmts_length (follow s ss) d exits p =
      join_two (stmt_code d exits p s) (stmts_code d exits (p + stmt_size s) ss) (stmt_size s) (stmts_size ss) (stmt_length s d exits p) (stmts_length ss d exits (p + stmt_size s))

pub parameters_length : (d i n : ℕ) → length (parameters_code d i n) ≡ 2 * n
parameters_length d i zero = refl
parameters_length d i (suc n) = omega (arith, parameters_length d (i + 1) n)
