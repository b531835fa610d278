use Rattle.std.proofs.Common.{◌≡◌, ◌≤◌, ◌+◌, drop}
use Rattle.odc_syntax.specs.lexical.Lexes.{behind}
use Rattle.odc_lex.proofs.state.behind.Given as goal

abbrev pub invariant-loop-b : goal.invariant-loop-b
invariant-loop-b l = record {
  line_low : l.line ≤ l.fn.at.line + l.b-index;
  column_low : l.column ≤ l.fn.at.column + l.b-index;
  same : behind (record { file = l.fn.at.file; line = l.line; column = l.column }) (drop l.b-index l.bytes) ≡ behind l.fn.at l.bytes;
}
