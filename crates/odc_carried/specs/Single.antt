-- What stands alone: one name, one variable as a left side, one value.
use Rattle.std.specs.Prelude.{ℕ, List, [], ◌∷◌, Option, Some, None}
use Rattle.odc_program.specs.Trees.Tree.{Expr, expr, local, none, more, Lefts, no_lefts, left_, Rights, each}

abbrev pub named : List (Option ℕ) → Option ℕ
named (Some x ∷ []) = Some x
named xs = None

abbrev pub target : Lefts → Option ℕ
target (left_ (expr t at (local x)) no_lefts) = Some x
target ls = None

abbrev pub only : Rights → Option Expr
only (each (more e none)) = Some e
only vs = None
