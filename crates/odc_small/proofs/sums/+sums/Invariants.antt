use Rattle.std.proofs.Common.{◌+◌, ◌*◌, ◌≤◌, length}
use Rattle.odc_typed.specs.View.{expr, exprs}
use Rattle.odc_small.specs.Reading.{known_arguments, known_factors}
use Rattle.odc_small.specs.Small.{IsSmall}
use Rattle.odc_small.specs.Typing.{argument_expr}
use Rattle.odc_small.specs.View.{callable}
use Rattle.odc_small.proofs.ReadLemmas.{ListSoFar, FoldSoFar}
use Rattle.odc_small.proofs.CallLemmas.{mul_step, sum_step, known_terms}
use Rattle.odc_small.proofs.sums.+sums.Given as goal

abbrev pub decreases-argument_at : goal.decreases-argument_at
decreases-argument_at l = 20 * l.depth

abbrev pub decreases-next_at : goal.decreases-next_at
decreases-next_at l = 20 * l.depth + 1

abbrev pub decreases-items_at : goal.decreases-items_at
decreases-items_at l = 20 * l.depth + 2

abbrev pub decreases-closed_at : goal.decreases-closed_at
decreases-closed_at l = 20 * l.depth + 3

abbrev pub decreases-call_at : goal.decreases-call_at
decreases-call_at l = 20 * l.depth + 4

abbrev pub decreases-atom_at : goal.decreases-atom_at
decreases-atom_at l = 20 * l.depth + 5

abbrev pub decreases-factor_at : goal.decreases-factor_at
decreases-factor_at l = 20 * l.depth + 6

abbrev pub decreases-mul_at : goal.decreases-mul_at
decreases-mul_at l = 20 * l.depth + 7

abbrev pub decreases-term_at : goal.decreases-term_at
decreases-term_at l = 20 * l.depth + 8

abbrev pub decreases-sum_at : goal.decreases-sum_at
decreases-sum_at l = 20 * l.depth + 9

abbrev pub invariant-items_at-items : goal.invariant-items_at-items
invariant-items_at-items l =
    ListSoFar (known_arguments (callable l.callable) l.names l.depth) (argument_expr (callable l.callable) l.names l.line l.depth) l.origin l.bytes l.rest (exprs l.values.items)

abbrev pub decreases-items_at-items : goal.decreases-items_at-items
decreases-items_at-items l = length l.rest

abbrev pub invariant-mul_at-factors : goal.invariant-mul_at-factors
invariant-mul_at-factors l = record {
  fold : FoldSoFar (known_factors (callable l.callable) l.names l.depth) (mul_step (callable l.callable) l.names l.line l.depth l.origin) l.origin l.initial.rest l.rest
      (expr l.initial.left) (expr l.left) l.count;
  inside : length l.initial.rest ≤ l.origin;
}

abbrev pub decreases-mul_at-factors : goal.decreases-mul_at-factors
decreases-mul_at-factors l = length l.rest

abbrev pub invariant-sum_at-terms : goal.invariant-sum_at-terms
invariant-sum_at-terms l = record {
  fold : FoldSoFar (known_terms (callable l.callable) l.names l.line l.depth) (sum_step (callable l.callable) l.names l.line l.depth l.origin) l.origin l.initial.rest l.rest
      (expr l.initial.left) (expr l.left) l.count;
  inside : length l.initial.rest ≤ l.origin;
  small : IsSmall (l.count + 1) (expr l.left);
}

abbrev pub decreases-sum_at-terms : goal.decreases-sum_at-terms
decreases-sum_at-terms l = length l.rest
