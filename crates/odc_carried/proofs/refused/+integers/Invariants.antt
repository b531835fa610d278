use Rattle.std.proofs.Common.{◌≡◌, ◌*◌, drop}
use Rattle.odc_program.specs.Views.ProgramView.{program}
use Rattle.odc_program.specs.Views.Sizes.{expr_size, exprs_size}
use Rattle.odc_program.specs.Views.View.{exprs}
use Rattle.odc_carried.specs.Carried as spec
use Rattle.odc_carried.specs.TableView.{head_in}
use Rattle.odc_carried.proofs.refused.+integers.Given as goal

abbrev pub decreases-refused_int : goal.decreases-refused_int
decreases-refused_int l = 2 * expr_size l.e.now

abbrev pub decreases-refused_ints : goal.decreases-refused_ints
decreases-refused_ints l = 2 * exprs_size (exprs l.es.now)

-- none of those so far
abbrev pub invariant-refused_ints-loop-e : goal.invariant-refused_ints-loop-e
invariant-refused_ints-loop-e l = spec.refused_ints (program l.w).tables (head_in l.w.procedures.items l.p) (exprs (drop l.e-index l.es)) ≡ spec.refused_ints (program l.w).tables (head_in l.w.procedures.items l.p) (exprs l.es)
