-- What the nodes of a tree weigh, and the variables of a procedure.
use Rattle.std.specs.Prelude.{ℕ, ◌+◌, ◌*◌, Bool, true, false, List, ◌++◌, Option, Some, None, Vec, map}
use Rattle.std.specs.declared.alloc.Global.{Global}
use Rattle.odc_program.specs.declared.program.TypeRow.{TypeRow}
use Rattle.odc_program.specs.declared.tree.CaseItem.{CaseItem}
use Rattle.odc_program.specs.Trees.Program.{Local}
use Rattle.odc_program.specs.Trees.Tree.{Items, no_items}
use Rattle.odc_program.specs.Typing.Frames.{value_bytes}
use Rattle.odc_program.specs.Views.StmtView.{items}
use Rattle.odc_program.specs.Views.Instances.{local}
use Rattle.odc_limits.specs.Sized.{table}
use Rattle.odc_limits.specs.declared.frame.Variables.{Variables}

abbrev pub weight : ℕ → List TypeRow → Bool → ℕ → ℕ
weight unit rows true t = unit
weight unit rows false t = unit + 2 * value_bytes (table rows) t

abbrev pub case_items : Option (Vec CaseItem Global) → Items
case_items None = no_items
case_items (Some is) = items is.items

abbrev pub listed : Variables → List Local
listed v = map local v.params.now ++ map local v.results.now ++ map local v.locals.now
