-- Each child of a statement is smaller than its parent.
use Rattle.std.specs.declared.alloc.Global.{Global}
use Rattle.std.specs.Prelude.{◌≤◌, ◌+◌, ℕ, List, [], ◌∷◌, Option, Some, None, Vec}
use Rattle.std.proofs.Common.{arith}
use denote.Param.Weighed.{most}
use Rattle.odc_program.specs.declared.tree.CaseItem.{CaseItem}
use Rattle.odc_program.specs.declared.tree.Case.{Case}
use Rattle.odc_program.specs.declared.tree.TypeCase.{TypeCase}
use Rattle.odc_program.specs.declared.tree.TStmtKind.{TStmtKind}
use Rattle.odc_program.specs.declared.tree.TStmtKind.TheVariants as k
use Rattle.odc_program.specs.declared.tree.TStmt.TheDeep.{deep-TStmtKind, deep-Case, deep-TypeCase}
use Rattle.odc_program.specs.Trees.Tree as tree
use Rattle.odc_program.specs.Views.Sizes.{stmt_size, stmt_kind_size, stmts_size, cases_size, type_cases_size}
use Rattle.odc_program.specs.Views.StmtView.{stmts, with_case, cases, with_type, type_cases, stmt_kind}

stmts_fall : (xs : List tree.Stmt) → most (λ y. stmt_size y + 1) xs ≤ stmts_size (stmts xs) + 1
stmts_fall [] = omega arith
stmts_fall (x ∷ xs) = omega (arith, stmts_fall xs)

with_case_size : (is : Option (Vec CaseItem Global)) (body : tree.Stmts) (rest : tree.Cases) → stmts_size body + cases_size rest ≤ cases_size (with_case is body rest)
with_case_size None body rest = omega arith
with_case_size (Some is) body rest = omega arith

with_type_size : (vs : Option (Vec ℕ Global)) (x : Option ℕ) (body : tree.Stmts) (rest : tree.TypeCases) → stmts_size body + type_cases_size rest ≤ type_cases_size (with_type vs x body rest)
with_type_size None x body rest = omega arith
with_type_size (Some vs) x body rest = omega arith

cases_fall : (xs : List Case) → most deep-Case xs ≤ cases_size (cases xs) + 1
cases_fall [] = omega arith
cases_fall (x ∷ xs) = omega (arith, stmts_fall x.body.items, with_case_size x.items (stmts x.body.items) (cases xs), cases_fall xs)

type_cases_fall : (xs : List TypeCase) → most deep-TypeCase xs ≤ type_cases_size (type_cases xs) + 1
type_cases_fall [] = omega arith
type_cases_fall (x ∷ xs) = omega (arith, stmts_fall x.body.items, with_type_size x.variants x.local (stmts x.body.items) (type_cases xs), type_cases_fall xs)

pub stmt_kind_falls : (k : TStmtKind) → deep-TStmtKind k ≤ stmt_kind_size (stmt_kind k) + 1
stmt_kind_falls (k.Declare xs v) = omega arith
stmt_kind_falls (k.Assign ls v) = omega arith
stmt_kind_falls (k.Change op e f) = omega arith
stmt_kind_falls (k.Eval e) = omega arith
stmt_kind_falls (k.Block l body) = omega (arith, stmts_fall body.items)
stmt_kind_falls (k.If None e body other) = omega (arith, stmts_fall body.items, stmts_fall other.items)
stmt_kind_falls (k.If (Some s) e body other) = omega (arith, stmts_fall body.items, stmts_fall other.items)
stmt_kind_falls (k.Loop l None e None body) = omega (arith, stmts_fall body.items)
stmt_kind_falls (k.Loop l None e (Some q) body) = omega (arith, stmts_fall body.items)
stmt_kind_falls (k.Loop l (Some s) e None body) = omega (arith, stmts_fall body.items)
stmt_kind_falls (k.Loop l (Some s) e (Some q) body) = omega (arith, stmts_fall body.items)
stmt_kind_falls (k.Range l x a b body) = omega (arith, stmts_fall body.items)
stmt_kind_falls (k.Switch l None e cs) = omega (arith, cases_fall cs.items)
stmt_kind_falls (k.Switch l (Some s) e cs) = omega (arith, cases_fall cs.items)
stmt_kind_falls (k.TypeSwitch l e cs) = omega (arith, type_cases_fall cs.items)
stmt_kind_falls (k.Defer s) = omega arith
stmt_kind_falls (k.Return v) = omega arith
stmt_kind_falls (k.Break l) = omega arith
stmt_kind_falls (k.Continue l) = omega arith
stmt_kind_falls k.Fallthrough = omega arith
stmt_kind_falls (k.Counted n l e body) = omega (arith, stmts_fall body.items)
