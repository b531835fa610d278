use Rattle.std.proofs.Common.{reverse, nat_eq, vec_len}
use Rattle.std.specs.HashMap.{get}
use Rattle.odc_scope.proofs.StackLemmas.{IsClosing}
use Rattle.odc_scope.proofs.Scopes.leave.Given as goal

abbrev pub invariant-loop-entry : goal.invariant-loop-entry
invariant-loop-entry g l = IsClosing (reverse l.self-inside.entries.items) (reverse l.initial.self-inside.entries.items) (λ n. get nat_eq l.self-inside.latest n) l.self-inside.innermost

abbrev pub decreases-loop-entry : goal.decreases-loop-entry
decreases-loop-entry g l = vec_len l.self-inside.entries
