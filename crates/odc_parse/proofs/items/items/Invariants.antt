use Rattle.std.proofs.Common.{◌≤◌, length}
use Rattle.odc_parse.proofs.FileLemmas.{ItemsAt}
use Rattle.odc_parse.proofs.items.items.Given as goal

abbrev pub invariant-list : goal.invariant-list
invariant-list l = record { led : ItemsAt l.tokens l.list.items l.height l.rest; low : l.height ≤ 200 }

abbrev pub decreases-list : goal.decreases-list
decreases-list l = length l.rest
