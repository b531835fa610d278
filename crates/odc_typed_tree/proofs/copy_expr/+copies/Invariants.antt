use Rattle.std.proofs.Common.{◌≡◌, ◌+◌, ◌*◌}
use Rattle.std.specs.Prelude.{take}
use Rattle.odc_program.specs.Views.View.{maybe, exprs, parts}
use Rattle.odc_program.specs.Views.Sizes.{expr_size, maybe_size, exprs_size, parts_size}
use Rattle.odc_typed_tree.proofs.copy_expr.+copies.Given as goal

abbrev pub decreases-copy_expr : goal.decreases-copy_expr
decreases-copy_expr l = 2 * expr_size l.e.now

abbrev pub decreases-copy_optional : goal.decreases-copy_optional
decreases-copy_optional l = 2 * maybe_size (maybe l.e.now) + 1

abbrev pub decreases-copy_exprs : goal.decreases-copy_exprs
decreases-copy_exprs l = 2 * exprs_size (exprs l.list.now)

abbrev pub decreases-copy_parts : goal.decreases-copy_parts
decreases-copy_parts l = 2 * parts_size (parts l.list.now)

abbrev pub invariant-copy_exprs-loop-e : goal.invariant-copy_exprs-loop-e
invariant-copy_exprs-loop-e l = l.copies.items ≡ take l.e-index l.list

abbrev pub invariant-copy_parts-loop-part : goal.invariant-copy_parts-loop-part
invariant-copy_parts-loop-part l = l.copies.items ≡ take l.part-index l.list
