-- How many steps and temporaries there are at most for each node.
use Rattle.std.proofs.Common.{◌*◌, ◌≤◌, arith}
use Rattle.odc_core.specs.Tree.{Expr, const, slot, address, procedure, load, unary, binary, compare, call, call_value, Exprs, none, more, Stmt, eval, store, copy, zero_bytes, choose, repeat, leave, answer, check, read, write, exit, Stmts, finish, follow}
use Rattle.odc_lower.specs.Size.{expr_nodes, exprs_nodes, stmt_nodes, stmts_nodes, stmt_size, stmts_size, expr_room, exprs_room, stmt_room, stmts_room}

-- an expression needs a temporary for each node at most
mutual
  pub expr_room_small : (e : Expr) → expr_room e ≤ expr_nodes e
  expr_room_small (const word) = omega arith
  expr_room_small (slot x) = omega arith
  expr_room_small (address n) = omega arith
  expr_room_small (procedure f) = omega arith
  expr_room_small (load width e) = omega (arith, expr_room_small e)
  expr_room_small (unary op e) = omega (arith, expr_room_small e)
  expr_room_small (binary op a b) = omega (arith, expr_room_small a, expr_room_small b)
  expr_room_small (compare op a b) = omega (arith, expr_room_small a, expr_room_small b)
  expr_room_small (call f es) = omega (arith, exprs_room_small es)
  expr_room_small (call_value e es marked) = omega (arith, expr_room_small e, exprs_room_small es)

  pub exprs_room_small : (es : Exprs) → exprs_room es ≤ exprs_nodes es
  exprs_room_small none = omega arith
  exprs_room_small (more e es) = omega (arith, expr_room_small e, exprs_room_small es, expr_some e)

  pub expr_some : (e : Expr) → 1 ≤ expr_nodes e
  expr_some (const word) = omega arith
  expr_some (slot x) = omega arith
  expr_some (address n) = omega arith
  expr_some (procedure f) = omega arith
  expr_some (load width e) = omega arith
  expr_some (unary op e) = omega arith
  expr_some (binary op a b) = omega arith
  expr_some (compare op a b) = omega arith
  expr_some (call f es) = omega arith
  expr_some (call_value e es marked) = omega arith

-- and at least one
pub expr_room_some : (e : Expr) → 1 ≤ expr_room e
expr_room_some (const word) = omega arith
expr_room_some (slot x) = omega arith
expr_room_some (address n) = omega arith
expr_room_some (procedure f) = omega arith
expr_room_some (load width e) = omega (arith, expr_room_some e)
expr_room_some (unary op e) = omega (arith, expr_room_some e)
expr_room_some (binary op a b) = omega (arith, expr_room_some a)
expr_room_some (compare op a b) = omega (arith, expr_room_some a)
expr_room_some (call f es) = omega arith
expr_room_some (call_value e es marked) = omega (arith, expr_room_some e)

-- a statement becomes at most 45 steps for each node, and needs at most six temporaries for each
mutual
  pub stmt_size_small : (s : Stmt) → stmt_size s ≤ 45 * stmt_nodes s
  stmt_size_small (eval value) = omega arith
  stmt_size_small (store width to value) = omega arith
  stmt_size_small (copy to from size) = omega arith
  stmt_size_small (zero_bytes to size) = omega arith
  stmt_size_small (choose condition first second) = omega (arith, stmts_size_small first, stmts_size_small second)
  stmt_size_small (repeat body) = omega (arith, stmts_size_small body)
  stmt_size_small (leave depth) = omega arith
  stmt_size_small (answer value) = omega arith
  stmt_size_small (check condition which place) = omega arith
  stmt_size_small (read to size taken) = omega arith
  stmt_size_small (write descriptor from size) = omega arith
  stmt_size_small (exit code) = omega arith

  pub stmts_size_small : (ss : Stmts) → stmts_size ss ≤ 45 * stmts_nodes ss
  stmts_size_small finish = omega arith
  stmts_size_small (follow s ss) = omega (arith, stmt_size_small s, stmts_size_small ss)

mutual
  pub stmt_room_small : (s : Stmt) → stmt_room s ≤ 6 * stmt_nodes s
  stmt_room_small (eval value) = omega (arith, expr_room_small value)
  stmt_room_small (store width to value) = omega (arith, expr_room_small to, expr_room_small value)
  stmt_room_small (copy to from size) = omega (arith, expr_room_small to, expr_room_small from, expr_room_small size)
  stmt_room_small (zero_bytes to size) = omega (arith, expr_room_small to, expr_room_small size)
  stmt_room_small (choose condition first second) = omega (arith, expr_room_small condition, stmts_room_small first, stmts_room_small second)
  stmt_room_small (repeat body) = omega (arith, stmts_room_small body)
  stmt_room_small (leave depth) = omega arith
  stmt_room_small (answer value) = omega (arith, expr_room_small value)
  stmt_room_small (check condition which place) = omega (arith, expr_room_small condition)
  stmt_room_small (read to size taken) = omega (arith, expr_room_small to, expr_room_small size, expr_room_small taken)
  stmt_room_small (write descriptor from size) = omega (arith, expr_room_small from, expr_room_small size)
  stmt_room_small (exit code) = omega (arith, expr_room_small code)

  pub stmts_room_small : (ss : Stmts) → stmts_room ss ≤ 6 * stmts_nodes ss
  stmts_room_small finish = omega arith
  stmts_room_small (follow s ss) = omega (arith, stmt_room_small s, stmts_room_small ss)
