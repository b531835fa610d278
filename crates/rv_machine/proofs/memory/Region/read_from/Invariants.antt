use Rattle.std.proofs.Common.{◌≡◌, ◌+◌, ◌-◌, ◌≤◌, if◌then◌else◌, length}
use Rattle.rv_table.specs.Areas.{shape}
use Rattle.rv_machine.proofs.Pieces.{Reading}
use Rattle.rv_machine.proofs.memory.Region.read_from.Given as goal

abbrev pub invariant-loop-count : goal.invariant-loop-count
invariant-loop-count g l = record {
  reading : Reading l.address l.size l.initial.self l.self (g.S.Source.rest l.initial.input) (g.S.Source.rest l.input) l.initial.ended l.ended l.count;
  place : l.initial.self.start + l.at ≡ l.address;
  room : l.address + l.size ≤ l.initial.self.start + length l.initial.self.bytes;
  shape : shape l.self ≡ shape l.initial.self;
  counted : g.S.Source.faults l.initial.input ≤ g.S.Source.faults l.input;
}

abbrev pub decreases-loop-count : goal.decreases-loop-count
decreases-loop-count g l = (l.size - l.count) + (if l.ended then 0 else 1)
