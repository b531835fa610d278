-- Each child of an expression is smaller than its parent.
use Rattle.std.specs.Prelude.{◌≤◌, ◌+◌, List, [], ◌∷◌, Some, None}
use Rattle.std.proofs.Common.{arith}
use denote.Param.Weighed.{most}
use Rattle.odc_program.specs.declared.tree.BuildPart.{BuildPart}
use Rattle.odc_program.specs.declared.tree.TExprKind.{TExprKind}
use Rattle.odc_program.specs.declared.tree.TExprKind.TheVariants as k
use Rattle.odc_program.specs.declared.tree.TExpr.TheDeep.{deep-TExprKind, deep-BuildPart}
use Rattle.odc_program.specs.Trees.Tree as tree
use Rattle.odc_program.specs.Views.Sizes.{expr_size, expr_kind_size, exprs_size, parts_size}
use Rattle.odc_program.specs.Views.View.{exprs, parts, expr_kind}

exprs_fall : (xs : List tree.Expr) → most (λ y. expr_size y + 1) xs ≤ exprs_size (exprs xs) + 1
exprs_fall [] = omega arith
exprs_fall (x ∷ xs) = omega (arith, exprs_fall xs)

parts_fall : (xs : List BuildPart) → most deep-BuildPart xs ≤ parts_size (parts xs) + 1
parts_fall [] = omega arith
parts_fall (x ∷ xs) = omega (arith, parts_fall xs)

pub expr_kind_falls : (k : TExprKind) → deep-TExprKind k ≤ expr_kind_size (expr_kind k) + 1
expr_kind_falls (k.Const c) = omega arith
expr_kind_falls (k.Local x) = omega arith
expr_kind_falls (k.Global g) = omega arith
expr_kind_falls (k.ProcValue n) = omega arith
expr_kind_falls k.Context = omega arith
expr_kind_falls (k.Field e n) = omega arith
expr_kind_falls (k.Deref e) = omega arith
expr_kind_falls (k.Index e i) = omega arith
expr_kind_falls (k.Cut e None None) = omega arith
expr_kind_falls (k.Cut e None (Some h)) = omega arith
expr_kind_falls (k.Cut e (Some l) None) = omega arith
expr_kind_falls (k.Cut e (Some l) (Some h)) = omega arith
expr_kind_falls (k.Column e n) = omega arith
expr_kind_falls (k.Call n order es) = omega (arith, exprs_fall es.items)
expr_kind_falls (k.CallValue marked e es) = omega (arith, exprs_fall es.items)
expr_kind_falls (k.Builtin which order es) = omega (arith, exprs_fall es.items)
expr_kind_falls (k.OrReturn e variant) = omega arith
expr_kind_falls (k.Build home ps) = omega (arith, parts_fall ps.items)
expr_kind_falls (k.Unary op e) = omega arith
expr_kind_falls (k.Binary op e f) = omega arith
expr_kind_falls (k.Convert e) = omega arith
expr_kind_falls (k.Inject variant e) = omega arith
expr_kind_falls (k.Assert variant e) = omega arith
expr_kind_falls (k.Test variant e) = omega arith
expr_kind_falls (k.Address e) = omega arith
expr_kind_falls k.Location = omega arith
expr_kind_falls (k.Help h es) = omega (arith, exprs_fall es.items)
