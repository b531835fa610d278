-- The steps of each form. An expression leaves its word in the temporary `d`, and touches none below
-- it. A statement stands at the position `p`; `exits` are the positions behind the loops around it,
-- the innermost first.
use Rattle.std.specs.Prelude.{ℕ, zero, suc, ◌+◌, ◌-◌, ◌*◌, List, [], ◌∷◌, ◌++◌, get_or}
use Rattle.odc_core.specs.declared.tree.Width.{Width}
use Rattle.odc_core.specs.declared.tree.Width.TheVariants.{Byte, Double}
use Rattle.odc_core.specs.declared.tree.BinaryOp.TheVariants.{Add, Subtract}
use Rattle.odc_core.specs.declared.tree.Comparison.TheVariants.{Below}
use Rattle.odc_core.specs.Tree.{Expr, const, slot, address, procedure, load, unary, binary, compare, call, call_value, Exprs, none, more, Stmt, eval, store, copy, zero_bytes, choose, repeat, leave, answer, check, read, write, exit, Stmts, finish, follow, Proc}
use Rattle.odc_core.specs.Well.{count}
use Rattle.odc_mid.specs.declared.tree.Named.TheVariants.{Variable, Stored, Procedure}
use Rattle.odc_mid.specs.declared.tree.SystemCall.TheVariants.{Read, Write, Exit}
use Rattle.odc_lower.specs.Plain.{Step, const_step, address_step, unary_step, binary_step, compare_step, load_step, store_step, jump_step, branch_step, call_step, call_value_step, return_step, check_step, system_step}
use Rattle.odc_lower.specs.Size.{expr_nodes, stmts_size, stmt_size}

-- ---- expressions

-- so many temporaries from one on
abbrev pub temps_from : ℕ → ℕ → List ℕ
temps_from d zero = []
temps_from d (suc n) = d ∷ temps_from (d + 1) n

abbrev mutual
  pub expr_code : ℕ → Expr → List Step
  expr_code d (const word) = const_step d word ∷ []
  expr_code d (slot x) = address_step d (Variable x) ∷ []
  expr_code d (address n) = address_step d (Stored n) ∷ []
  expr_code d (procedure f) = address_step d (Procedure f) ∷ []
  expr_code d (load width at) = expr_code d at ++ (load_step d width d ∷ [])
  expr_code d (unary op operand) = expr_code d operand ++ (unary_step d op d ∷ [])
  expr_code d (binary op left right) = expr_code d left ++ (expr_code (d + 1) right ++ (binary_step d op d (d + 1) ∷ []))
  expr_code d (compare op left right) = expr_code d left ++ (expr_code (d + 1) right ++ (compare_step d op d (d + 1) ∷ []))
  expr_code d (call f arguments) = exprs_code d arguments ++ (call_step d f (temps_from d (count arguments)) ∷ [])
  expr_code d (call_value target arguments marked) =
      expr_code d target ++ (exprs_code (d + 1) arguments ++ (call_value_step d d (temps_from (d + 1) (count arguments)) marked ∷ []))

  -- the words lie in temporaries from `d` on
  pub exprs_code : ℕ → Exprs → List Step
  exprs_code d none = []
  exprs_code d (more e es) = expr_code d e ++ exprs_code (d + 1) es

-- ---- bytes

-- Pieces of `size` bytes, as long as there are so many: the target's address is in `d`, the source's in
-- `d + 1`, the number of bytes that are left in `d + 2`. The first loop goes up, the second one goes
-- down from the ends.
abbrev pub up_code : ℕ → ℕ → Width → ℕ → List Step
up_code d p width size =
    const_step (d + 4) (size - 1) ∷ const_step (d + 5) size ∷ jump_step (p + 8) ∷
    load_step (d + 3) width (d + 1) ∷ store_step width d (d + 3) ∷
    binary_step d Add d (d + 5) ∷ binary_step (d + 1) Add (d + 1) (d + 5) ∷ binary_step (d + 2) Subtract (d + 2) (d + 5) ∷
    compare_step (d + 3) Below (d + 4) (d + 2) ∷ branch_step (d + 3) (p + 3) ∷ []

abbrev pub down_code : ℕ → ℕ → Width → ℕ → List Step
down_code d p width size =
    const_step (d + 4) (size - 1) ∷ const_step (d + 5) size ∷ jump_step (p + 8) ∷
    binary_step d Subtract d (d + 5) ∷ binary_step (d + 1) Subtract (d + 1) (d + 5) ∷
    load_step (d + 3) width (d + 1) ∷ store_step width d (d + 3) ∷ binary_step (d + 2) Subtract (d + 2) (d + 5) ∷
    compare_step (d + 3) Below (d + 4) (d + 2) ∷ branch_step (d + 3) (p + 3) ∷ []

-- Up where the target doesn't lie above the source, so that no byte is written over before it is read.
abbrev pub copy_code : ℕ → ℕ → List Step
copy_code d p =
    compare_step (d + 3) Below (d + 1) d ∷ branch_step (d + 3) (p + 23) ∷
    (up_code d (p + 2) Double 8 ++ (up_code d (p + 12) Byte 1 ++
    (jump_step (p + 45) ∷ binary_step d Add d (d + 2) ∷ binary_step (d + 1) Add (d + 1) (d + 2) ∷
    (down_code d (p + 25) Double 8 ++ down_code d (p + 35) Byte 1))))

-- Zeros in pieces of `size` bytes: the address is in `d`, the number of bytes that are left in `d + 1`,
-- and a zero in `d + 2`.
abbrev pub clear_code : ℕ → ℕ → Width → ℕ → List Step
clear_code d p width size =
    const_step (d + 3) (size - 1) ∷ const_step (d + 4) size ∷ jump_step (p + 6) ∷
    store_step width d (d + 2) ∷ binary_step d Add d (d + 4) ∷ binary_step (d + 1) Subtract (d + 1) (d + 4) ∷
    compare_step (d + 5) Below (d + 3) (d + 1) ∷ branch_step (d + 5) (p + 3) ∷ []

abbrev pub zero_code : ℕ → ℕ → List Step
zero_code d p = const_step (d + 2) 0 ∷ (clear_code d (p + 1) Double 8 ++ clear_code d (p + 9) Byte 1)

-- ---- statements

abbrev mutual
  pub stmt_code : ℕ → List ℕ → ℕ → Stmt → List Step
  stmt_code d exits p (eval value) = expr_code d value
  stmt_code d exits p (store width to value) = expr_code d to ++ (expr_code (d + 1) value ++ (store_step width d (d + 1) ∷ []))
  stmt_code d exits p (copy to from size) =
      expr_code d to ++ (expr_code (d + 1) from ++ (expr_code (d + 2) size ++ copy_code d (p + expr_nodes to + expr_nodes from + expr_nodes size)))
  stmt_code d exits p (zero_bytes to size) = expr_code d to ++ (expr_code (d + 1) size ++ zero_code d (p + expr_nodes to + expr_nodes size))
  -- the second list stands first
  stmt_code d exits p (choose condition first second) =
      let other = p + expr_nodes condition + 1 in
      let begin = other + stmts_size second + 1 in
      expr_code d condition ++ (branch_step d begin ∷ (stmts_code d exits other second ++ (jump_step (begin + stmts_size first) ∷ stmts_code d exits begin first)))
  -- a loop is entered by a jump, so that each turn has a step of its own
  stmt_code d exits p (repeat body) =
      jump_step (p + 1) ∷ (stmts_code d ((p + 1 + stmts_size body + 1) ∷ exits) (p + 1) body ++ (jump_step (p + 1) ∷ []))
  stmt_code d exits p (leave depth) = jump_step (get_or exits depth 0) ∷ []
  stmt_code d exits p (answer value) = expr_code d value ++ (return_step d ∷ [])
  stmt_code d exits p (check condition which place) = expr_code d condition ++ (check_step d which place ∷ [])
  stmt_code d exits p (read to size taken) =
      expr_code d to ++ (expr_code (d + 1) size ++ (expr_code (d + 2) taken ++
      (system_step (Read (d + 3) d (d + 1)) ∷ store_step Double (d + 2) (d + 3) ∷ [])))
  stmt_code d exits p (write descriptor from size) =
      expr_code d from ++ (expr_code (d + 1) size ++ (system_step (Write descriptor d (d + 1)) ∷ []))
  stmt_code d exits p (exit code) = expr_code d code ++ (system_step (Exit d) ∷ [])

  pub stmts_code : ℕ → List ℕ → ℕ → Stmts → List Step
  stmts_code d exits p finish = []
  stmts_code d exits p (follow s ss) = stmt_code d exits p s ++ stmts_code d exits (p + stmt_size s) ss

-- ---- procedures

-- The parameters from `i` on, which are handed in as temporaries, go into their variables; the
-- temporary `d` holds the address.
abbrev pub parameters_code : ℕ → ℕ → ℕ → List Step
parameters_code d i zero = []
parameters_code d i (suc n) = address_step d (Variable i) ∷ store_step Double d i ∷ parameters_code d (i + 1) n

-- where the end is reached, the answer is 0
abbrev pub procedure_code : Proc → List Step
procedure_code p =
    parameters_code p.parameters 0 p.parameters ++ (stmts_code p.parameters [] (2 * p.parameters) p.body ++ (const_step p.parameters 0 ∷ return_step p.parameters ∷ []))
