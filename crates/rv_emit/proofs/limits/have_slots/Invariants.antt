use Rattle.std.proofs.Common.{drop, map}
use Rattle.odc_mid.specs.View.{proc}
use Rattle.rv_emit.specs.Layout.{AllHaveSlots}
use Rattle.rv_emit.proofs.limits.have_slots.Given as goal

-- all have slots where those do that are left
abbrev pub invariant-loop-q : goal.invariant-loop-q
invariant-loop-q l =
    (AllHaveSlots (map proc (drop l.q-index l.p.procedures.items)) → AllHaveSlots (map proc l.p.procedures.items))
    × (AllHaveSlots (map proc l.p.procedures.items) → AllHaveSlots (map proc (drop l.q-index l.p.procedures.items)))
