use Rattle.std.proofs.Common.{◌≡◌, ◌-◌, length}
use Rattle.odc_types.specs.Nodes.{nodes}
use Rattle.odc_types.specs.Layout.{under, under_of}
use Rattle.odc_types.proofs.measure.under.Given as goal

abbrev pub invariant-loop : goal.invariant-loop
invariant-loop l = under (nodes l.types) (length (nodes l.types) - l.counter) l.t.index ≡ under_of (nodes l.types) l.fn.t.index
