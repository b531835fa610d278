use Rattle.std.proofs.Common.{◌≡◌, ◌<◌, ◌^◌, true, take}
use Rattle.std.specs.List.{list_all}
use Rattle.odc_syntax.specs.lexical.Texts.{hex_value, is_hex_digit}
use Rattle.odc_lex.proofs.escape.hex_code.Given as goal

abbrev pub invariant-loop-d : goal.invariant-loop-d
invariant-loop-d l = record {
  small : l.code < 16 ^ l.d-index;
  are_digits : list_all is_hex_digit (take l.d-index l.d-items) ≡ true;
  value : l.code ≡ hex_value (take l.d-index l.d-items);
}
