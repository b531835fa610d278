-- Cases of a switch, and further ones behind them.
use Rattle.std.specs.Prelude.{List, [], ◌∷◌}
use Rattle.odc_program.specs.declared.tree.Case.{Case}
use Rattle.odc_program.specs.declared.tree.TypeCase.{TypeCase}
use Rattle.odc_program.specs.Trees.Tree as tree
use Rattle.odc_program.specs.Views.StmtView.{stmts, with_case, with_type}

abbrev pub with_cases : List Case → tree.Cases → tree.Cases
with_cases [] rest = rest
with_cases (c ∷ cs) rest = with_case c.items (stmts c.body.items) (with_cases cs rest)

abbrev pub with_type_cases : List TypeCase → tree.TypeCases → tree.TypeCases
with_type_cases [] rest = rest
with_type_cases (c ∷ cs) rest = with_type c.variants c.local (stmts c.body.items) (with_type_cases cs rest)
