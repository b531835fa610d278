use Rattle.std.proofs.Common.{◌≡◌, ◌-◌, ◌≤◌}
use Rattle.rv_machine.specs.Outside.{told}
use Rattle.rv_machine.specs.Turns.{IsEnded}
use Rattle.rv_machine.proofs.Running.{Running}
use Rattle.rv_machine.proofs.machine.Machine.run.Given as goal

abbrev pub invariant-loop-left : goal.invariant-loop-left
invariant-loop-left g l = record {
  running : Running l.initial.self l.steps (l.steps - l.left) l.self.state l.ended
      (told (g.S.Source.rest l.initial.input) (g.O.Sink.written l.initial.out) (g.E.Sink.written l.initial.err))
      (told (g.S.Source.rest l.input) (g.O.Sink.written l.out) (g.E.Sink.written l.err));
  within : l.left ≤ l.steps;
  lists : l.self ≡ record l.initial.self { state = l.self.state };
  over : IsEnded l.ended (g.S.Source.rest l.input);
  counted_input : g.S.Source.faults l.initial.input ≤ g.S.Source.faults l.input;
  counted_out : g.O.Sink.faults l.initial.out ≤ g.O.Sink.faults l.out;
  counted_err : g.E.Sink.faults l.initial.err ≤ g.E.Sink.faults l.err;
}

abbrev pub decreases-loop-left : goal.decreases-loop-left
decreases-loop-left g l = l.left
