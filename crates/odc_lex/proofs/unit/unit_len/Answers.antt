use Rattle.std.proofs.Common.{sym, subst}
use Rattle.odc_syntax.specs.lexical.Longest.{FindsUnit}
use Rattle.odc_lex.specs.Unit.{IsUnit}
use Rattle.odc_lex.proofs.unit.unit_len.Goals as goal

pub returns-in-Byte : goal.returns-in-Byte
returns-in-Byte c = subst (λ u. FindsUnit (IsUnit u) c.args.text.now c.byte_len.result) (sym c.in-Byte.is) c.byte_len.ensures

pub returns-in-Character : goal.returns-in-Character
returns-in-Character c = subst (λ u. FindsUnit (IsUnit u) c.args.text.now c.character_len.result) (sym c.in-Character.is) c.character_len.ensures

pub returns-in-Item : goal.returns-in-Item
returns-in-Item c = subst (λ u. FindsUnit (IsUnit u) c.args.text.now c.item_len.result) (sym c.in-Item.is) c.item_len.ensures
