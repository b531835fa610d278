use Rattle.std.proofs.Common.{◌≡◌, length}
use Rattle.rv_machine.specs.Text.{AreFixed}
use Rattle.rv_machine.proofs.text.Text.decode.Given as goal

abbrev pub invariant-loop-i : goal.invariant-loop-i
invariant-loop-i l = record {
  fixed : AreFixed l.regions l.start l.entries.items;
  counted : length l.entries.items ≡ l.i;
}
