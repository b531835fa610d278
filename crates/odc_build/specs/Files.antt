-- The files and names of a program, as the lists of an executable take them.
use Rattle.std.specs.Prelude.{ℕ, ◌<◌, ◌^◌, List, [], ◌∷◌, length, All}
use Rattle.odc_text.specs.declared.place.Place.{Place}
use Rattle.odc_typed.specs.Tree.{Expr, const, local, binary, call, builtin, Exprs, none, more, Stmt, eval, declare, assign, choose, repeat, answer, Stmts, finish, follow, Proc, Whole}
use Rattle.rv_sites.specs.Sections.{IsShortText}

-- ---- nodes whose places lie in one of so many files

abbrev pub IsInFiles : ℕ → Place → Type 0
IsInFiles files at = at.file.number < files

abbrev mutual
  pub ExprIn : ℕ → Expr → Type 0
  ExprIn files (const at value) = IsInFiles files at
  ExprIn files (local at x) = IsInFiles files at
  ExprIn files (binary at op left right) = IsInFiles files at × (ExprIn files left × ExprIn files right)
  ExprIn files (call at f arguments) = IsInFiles files at × ExprsIn files arguments
  ExprIn files (builtin at which arguments) = IsInFiles files at × ExprsIn files arguments

  pub ExprsIn : ℕ → Exprs → Type 0
  ExprsIn files none = Unit {0}
  ExprsIn files (more e es) = ExprIn files e × ExprsIn files es

abbrev mutual
  pub StmtIn : ℕ → Stmt → Type 0
  StmtIn files (eval at value) = IsInFiles files at × ExprIn files value
  StmtIn files (declare at x value) = IsInFiles files at × ExprIn files value
  StmtIn files (assign at target value) = IsInFiles files at × (ExprIn files target × ExprIn files value)
  StmtIn files (choose at condition body) = IsInFiles files at × (ExprIn files condition × StmtsIn files body)
  StmtIn files (repeat at condition body) = IsInFiles files at × (ExprIn files condition × StmtsIn files body)
  StmtIn files (answer at value) = IsInFiles files at × ExprIn files value

  pub StmtsIn : ℕ → Stmts → Type 0
  StmtsIn files finish = Unit {0}
  StmtsIn files (follow s ss) = StmtIn files s × StmtsIn files ss

-- a procedure and the nodes of its body
abbrev pub ProcIn : ℕ → Proc → Type 0
ProcIn files p = IsInFiles files p.at × StmtsIn files p.body

abbrev pub AllIn : ℕ → List Proc → Type 0
AllIn files [] = Unit {0}
AllIn files (p ∷ ps) = ProcIn files p × AllIn files ps

-- ---- programs whose names and paths can be listed: each length has 32 bits

abbrev pub AreShortNames : List Proc → Type 0
AreShortNames [] = Unit {0}
AreShortNames (p ∷ ps) = (length p.name < 2 ^ 32) × AreShortNames ps

pub record CanList (p : Whole) (paths : List (List ℕ)) : Type 0 where
  pub few : length paths < 2 ^ 32
  pub texts : All IsShortText paths
  pub places : AllIn (length paths) p.procedures
  pub names : AreShortNames p.procedures
