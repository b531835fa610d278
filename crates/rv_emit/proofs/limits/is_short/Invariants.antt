use Rattle.std.proofs.Common.{◌≡◌, ◌+◌, ◌^◌, ◌<◌, drop, map}
use Rattle.odc_mid.specs.View.{proc}
use Rattle.rv_emit.specs.Code.{procs_size}
use Rattle.rv_emit.proofs.limits.is_short.Given as goal

-- what is left and the procedures so far are the room behind the start
abbrev pub invariant-loop-q : goal.invariant-loop-q
invariant-loop-q l =
    (l.room + procs_size (map proc l.p.procedures.items) ≡ 0x13ff_bff6 + procs_size (map proc (drop l.q-index l.p.procedures.items))) × (l.room < 2 ^ 31)
