-- The programs that a pass gives: what they name is there, and their frames have room.
use Rattle.std.specs.Prelude.{◌≡◌, ◌⊎◌, ℕ, zero, suc, ◌+◌, ◌^◌, ◌%◌, ◌<◌, ◌≤◌, List, [], ◌∷◌, length, Option, Some, None, slice_get}
use Rattle.odc_core.specs.declared.tree.Variable.{Variable}
use Rattle.odc_core.specs.Tree.{Expr, const, slot, address, procedure, load, unary, binary, compare, call, call_value, Exprs, none, more, Stmt, eval, store, copy, zero_bytes, choose, repeat, leave, answer, check, read, write, exit, Stmts, finish, follow, Proc, Whole}
use Rattle.odc_core.specs.Frames.{store_low}

-- ---- frames

-- eight bytes between two variables
abbrev pub AreApart : Variable → Variable → Type 0
AreApart v w = (v.offset + v.size + 8 ≤ w.offset) ⊎ (w.offset + w.size + 8 ≤ v.offset)

abbrev pub ApartFrom : Variable → List Variable → Type 0
ApartFrom v [] = Unit {0}
ApartFrom v (w ∷ ws) = AreApart v w × ApartFrom v ws

-- the variables lie inside the frame, eight bytes from its ends and from each other
abbrev pub AreLaid : ℕ → List Variable → Type 0
AreLaid frame [] = Unit {0}
AreLaid frame (v ∷ vs) = ((8 ≤ v.offset) × (v.offset + v.size + 8 ≤ frame)) × (ApartFrom v vs × AreLaid frame vs)

-- the first variables are the parameters, of eight bytes each
abbrev pub AreParameters : ℕ → List Variable → Type 0
AreParameters zero vs = Unit {0}
AreParameters (suc n) [] = ⊥
AreParameters (suc n) (v ∷ vs) = (v.size ≡ 8) × AreParameters n vs

-- ---- names

-- how many parameters each procedure has, how many addresses and variables there are
pub record Names : Type 0 where
  pub parameters : List ℕ
  pub addresses : ℕ
  pub variables : ℕ

abbrev pub count : Exprs → ℕ
count none = 0
count (more e es) = suc (count es)

abbrev mutual
  pub IsExpr : Names → Expr → Type 0
  IsExpr names (const word) = word < 2 ^ 64
  IsExpr names (slot x) = x < names.variables
  IsExpr names (address n) = n < names.addresses
  IsExpr names (procedure f) = f < length names.parameters
  IsExpr names (load width at) = IsExpr names at
  IsExpr names (unary op operand) = IsExpr names operand
  IsExpr names (binary op left right) = IsExpr names left × IsExpr names right
  IsExpr names (compare op left right) = IsExpr names left × IsExpr names right
  IsExpr names (call f arguments) = (slice_get names.parameters f ≡ Some (count arguments)) × AreExprs names arguments
  IsExpr names (call_value target arguments marked) = IsExpr names target × AreExprs names arguments

  pub AreExprs : Names → Exprs → Type 0
  AreExprs names none = Unit {0}
  AreExprs names (more e es) = IsExpr names e × AreExprs names es

-- inside so many loops
abbrev mutual
  pub IsStmt : Names → ℕ → Stmt → Type 0
  IsStmt names loops (eval value) = IsExpr names value
  IsStmt names loops (store width to value) = IsExpr names to × IsExpr names value
  IsStmt names loops (copy to from size) = IsExpr names to × (IsExpr names from × IsExpr names size)
  IsStmt names loops (zero_bytes to size) = IsExpr names to × IsExpr names size
  IsStmt names loops (choose condition first second) = IsExpr names condition × (AreStmts names loops first × AreStmts names loops second)
  IsStmt names loops (repeat body) = AreStmts names (suc loops) body
  IsStmt names loops (leave depth) = depth < loops
  IsStmt names loops (answer value) = IsExpr names value
  IsStmt names loops (check condition which place) = IsExpr names condition
  IsStmt names loops (read to size count) = IsExpr names to × (IsExpr names size × IsExpr names count)
  IsStmt names loops (write descriptor from size) = IsExpr names from × IsExpr names size
  IsStmt names loops (exit code) = IsExpr names code

  pub AreStmts : Names → ℕ → Stmts → Type 0
  AreStmts names loops finish = Unit {0}
  AreStmts names loops (follow s ss) = IsStmt names loops s × AreStmts names loops ss

-- ---- procedures and programs

abbrev pub parameters_of : List Proc → List ℕ
parameters_of [] = []
parameters_of (p ∷ ps) = p.parameters ∷ parameters_of ps

abbrev pub names_in : Whole → Proc → Names
names_in w p = record { parameters = parameters_of w.procedures; addresses = length w.addresses; variables = length p.variables }

-- the frame is a multiple of 16 and at most 16 MiB
pub record IsWellProc (w : Whole) (p : Proc) : Type 0 where
  pub laid : AreLaid p.frame p.variables
  pub parameters : AreParameters p.parameters p.variables
  pub even : p.frame % 16 ≡ 0
  pub fits : p.frame ≤ 2 ^ 24
  pub body : AreStmts (names_in w p) 0 p.body

abbrev pub AllWell : Whole → List Proc → Type 0
AllWell w [] = Unit {0}
AllWell w (p ∷ ps) = IsWellProc w p × AllWell w ps

-- `main` takes nothing
abbrev pub IsMain : Option Proc → Type 0
IsMain None = ⊥
IsMain (Some p) = p.parameters ≡ 0

-- an address lies in the store or at its end
abbrev pub AreInStore : ℕ → List ℕ → Type 0
AreInStore size [] = Unit {0}
AreInStore size (a ∷ rest) = ((store_low ≤ a) × (a ≤ store_low + size)) × AreInStore size rest

abbrev pub AreBytes : List ℕ → Type 0
AreBytes [] = Unit {0}
AreBytes (b ∷ bs) = (b < 256) × AreBytes bs

pub record IsWell (w : Whole) : Type 0 where
  pub procedures : AllWell w w.procedures
  pub main : IsMain (slice_get w.procedures w.main)
  pub store : length w.store ≤ w.store_size
  pub bytes : AreBytes w.store
  pub low : w.store_size ≤ 0x0fff_0000
  pub addresses : AreInStore w.store_size w.addresses
