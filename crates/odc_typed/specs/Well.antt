-- The programs that typing gives: each node has what its form asks for.
use Rattle.std.specs.Prelude.{◌≡◌, ◌⊎◌, ℕ, zero, suc, ◌+◌, ◌<◌, ◌≤◌, List, [], ◌∷◌, length, Option, Some, None, slice_get, FitsSigned}
use Rattle.std.specs.Int.{w64}
use Rattle.odc_typed.specs.declared.tree.Constant.{Constant}
use Rattle.odc_typed.specs.declared.tree.Constant.TheVariants.{Int, Bool as Truth}
use Rattle.odc_typed.specs.declared.tree.BinaryOp.{BinaryOp}
use Rattle.odc_typed.specs.declared.tree.BinaryOp.TheVariants.{Less, Equal}
use Rattle.odc_typed.specs.declared.tree.Builtin.{Builtin}
use Rattle.odc_typed.specs.declared.tree.Builtin.TheVariants.{Println}
use Rattle.odc_typed.specs.Tree.{Expr, const, local, binary, call, builtin, Exprs, none, more, Stmt, eval, declare, assign, choose, repeat, answer, Stmts, finish, follow, Proc, Whole}
use Rattle.odc_typed.specs.Frame.{variables}

-- ---- what surrounds a node

-- how many parameters and results a procedure has
pub record Signature : Type 0 where
  pub parameters : ℕ
  pub results : ℕ

abbrev pub signatures : List Proc → List Signature
signatures [] = []
signatures (p ∷ ps) = record { parameters = length p.parameters; results = length p.results } ∷ signatures ps

-- the variables that have begun in the blocks that are open
abbrev pub Scope : Type 0
Scope = List ℕ

abbrev pub InScope : Scope → ℕ → Type 0
InScope [] x = ⊥
InScope (y ∷ ys) x = (x ≡ y) ⊎ InScope ys x

-- ---- expressions

-- a constant of type `int`, which has 64 bits
abbrev pub IsInRange : Constant → Type 0
IsInRange (Int value) = FitsSigned w64 value
IsInRange (Truth value) = ⊥

-- a constant of type `bool`
abbrev pub IsTruth : Constant → Type 0
IsTruth (Int value) = ⊥
IsTruth (Truth value) = Unit {0}

-- an operation whose result is an `int`
abbrev pub IsArithmetic : BinaryOp → Type 0
IsArithmetic Less = ⊥
IsArithmetic Equal = ⊥
IsArithmetic op = Unit {0}

abbrev pub count : Exprs → ℕ
count none = 0
count (more e es) = suc (count es)

-- an expression of type `int`
abbrev mutual
  pub IsInt : List Signature → Scope → Expr → Type 0
  IsInt ss scope (const at value) = IsInRange value
  IsInt ss scope (local at x) = InScope scope x
  IsInt ss scope (binary at op left right) = IsArithmetic op × (IsInt ss scope left × IsInt ss scope right)
  IsInt ss scope (call at f arguments) = (slice_get ss f ≡ Some (record { parameters = count arguments; results = 1 })) × AreInts ss scope arguments
  IsInt ss scope (builtin at which arguments) = ⊥

  pub AreInts : List Signature → Scope → Exprs → Type 0
  AreInts ss scope none = Unit {0}
  AreInts ss scope (more e es) = IsInt ss scope e × AreInts ss scope es

-- a condition compares two `int`s, or is a constant
abbrev pub IsComparison : BinaryOp → Type 0
IsComparison Less = Unit {0}
IsComparison Equal = Unit {0}
IsComparison op = ⊥

abbrev pub IsCondition : List Signature → Scope → Expr → Type 0
IsCondition ss scope (binary at op left right) = IsComparison op × (IsInt ss scope left × IsInt ss scope right)
IsCondition ss scope (const at value) = IsTruth value
IsCondition ss scope (local at x) = ⊥
IsCondition ss scope (call at f arguments) = ⊥
IsCondition ss scope (builtin at which arguments) = ⊥

-- arguments that the built-in takes
abbrev pub AreTaken : List Signature → Scope → Builtin → Exprs → Type 0
AreTaken ss scope Println arguments = AreInts ss scope arguments

-- a call without results
abbrev pub IsCall : List Signature → Scope → Expr → Type 0
IsCall ss scope (builtin at which arguments) = AreTaken ss scope which arguments
IsCall ss scope _ = ⊥

-- a place that can be assigned to
abbrev pub IsPlace : Scope → Expr → Type 0
IsPlace scope (local at x) = InScope scope x
IsPlace scope _ = ⊥

-- ---- statements

-- the procedure: its signature, and where its locals begin and end
pub record Around : Type 0 where
  pub signatures : List Signature
  pub parameters : ℕ
  pub results : ℕ
  pub variables : ℕ

-- the scope behind a statement
abbrev pub scope_after : Scope → Stmt → Scope
scope_after scope (declare at x value) = x ∷ scope
scope_after scope _ = scope

abbrev mutual
  pub IsWellStmt : Around → Scope → Stmt → Type 0
  IsWellStmt a scope (eval at value) = IsCall a.signatures scope value
  IsWellStmt a scope (declare at x value) = ((a.parameters + a.results ≤ x) × (x < a.variables)) × IsInt a.signatures scope value
  IsWellStmt a scope (assign at target value) = IsPlace scope target × IsInt a.signatures scope value
  IsWellStmt a scope (choose at condition body) = IsCondition a.signatures scope condition × AreWell a scope body
  IsWellStmt a scope (repeat at condition body) = IsCondition a.signatures scope condition × AreWell a scope body
  IsWellStmt a scope (answer at value) = (0 < a.results) × IsInt a.signatures scope value

  pub AreWell : Around → Scope → Stmts → Type 0
  AreWell a scope finish = Unit {0}
  AreWell a scope (follow s ss) = IsWellStmt a scope s × AreWell a (scope_after scope s) ss

-- ---- procedures and programs

-- the parameters are in scope from the beginning
abbrev pub first_scope : ℕ → Scope
first_scope zero = []
first_scope (suc n) = n ∷ first_scope n

abbrev pub around : List Signature → Proc → Around
around ss p = record { signatures = ss; parameters = length p.parameters; results = length p.results; variables = variables p }

pub record IsWellProc (ss : List Signature) (p : Proc) : Type 0 where
  pub body : AreWell (around ss p) (first_scope (length p.parameters)) p.body
  pub results : length p.results ≤ 1

abbrev pub AllWell : List Signature → List Proc → Type 0
AllWell ss [] = Unit {0}
AllWell ss (p ∷ ps) = IsWellProc ss p × AllWell ss ps

-- `main` has neither parameters nor results
abbrev pub IsMain : Option Proc → Type 0
IsMain None = ⊥
IsMain (Some p) = (length p.parameters ≡ 0) × (length p.results ≡ 0)

-- every procedure is well, and `main` is one of them
pub record IsWell (p : Whole) : Type 0 where
  pub procedures : AllWell (signatures p.procedures) p.procedures
  pub main : IsMain (slice_get p.procedures p.main)
