use Rattle.std.proofs.Common.{refl}
use Rattle.odc_syntax.specs.lexical.Signs.{signs}
use Rattle.odc_lex.proofs.TableLemmas.{single_at, nothing_at}
use Rattle.odc_lex.proofs.table.first_sign.Goals as goal

pub returns-then-is_empty : goal.returns-then-is_empty
unfolding signs
returns-then-is_empty c = nothing_at _ c.if-is_empty.true c.is_empty.ensures refl

pub returns-in-40 : goal.returns-in-40
unfolding signs
returns-in-40 c = single_at _ 40 _ _ c.if-is_empty.false c.is_empty.ensures c.in-40.is (refl, refl) c.single.ensures

pub returns-in-41 : goal.returns-in-41
unfolding signs
returns-in-41 c = single_at _ 41 _ _ c.if-is_empty.false c.is_empty.ensures c.in-41.is (refl, refl) c.single-in-41.ensures

pub returns-in-44 : goal.returns-in-44
unfolding signs
returns-in-44 c = single_at _ 44 _ _ c.if-is_empty.false c.is_empty.ensures c.in-44.is (refl, refl) c.single-in-44.ensures

pub returns-in-58 : goal.returns-in-58
unfolding signs
returns-in-58 c = single_at _ 58 _ _ c.if-is_empty.false c.is_empty.ensures c.in-58.is (refl, refl) c.single-in-58.ensures

pub returns-in-123 : goal.returns-in-123
unfolding signs
returns-in-123 c = single_at _ 123 _ _ c.if-is_empty.false c.is_empty.ensures c.in-123.is (refl, refl) c.single-in-123.ensures

pub returns-in-125 : goal.returns-in-125
unfolding signs
returns-in-125 c = single_at _ 125 _ _ c.if-is_empty.false c.is_empty.ensures c.in-125.is (refl, refl) c.single-in-125.ensures

pub returns-in-91 : goal.returns-in-91
unfolding signs
returns-in-91 c = single_at _ 91 _ _ c.if-is_empty.false c.is_empty.ensures c.in-91.is (refl, refl) c.single-in-91.ensures

pub returns-in-93 : goal.returns-in-93
unfolding signs
returns-in-93 c = single_at _ 93 _ _ c.if-is_empty.false c.is_empty.ensures c.in-93.is (refl, refl) c.single-in-93.ensures

pub returns-in-59 : goal.returns-in-59
unfolding signs
returns-in-59 c = single_at _ 59 _ _ c.if-is_empty.false c.is_empty.ensures c.in-59.is (refl, refl) c.single-in-59.ensures

pub returns-in-94 : goal.returns-in-94
unfolding signs
returns-in-94 c = single_at _ 94 _ _ c.if-is_empty.false c.is_empty.ensures c.in-94.is (refl, refl) c.single-in-94.ensures

pub returns-in-63 : goal.returns-in-63
unfolding signs
returns-in-63 c = single_at _ 63 _ _ c.if-is_empty.false c.is_empty.ensures c.in-63.is (refl, refl) c.single-in-63.ensures

pub returns-in-36 : goal.returns-in-36
unfolding signs
returns-in-36 c = single_at _ 36 _ _ c.if-is_empty.false c.is_empty.ensures c.in-36.is (refl, refl) c.single-in-36.ensures

pub returns-in-64 : goal.returns-in-64
unfolding signs
returns-in-64 c = single_at _ 64 _ _ c.if-is_empty.false c.is_empty.ensures c.in-64.is (refl, refl) c.single-in-64.ensures

pub returns-in_default : goal.returns-in_default
unfolding signs
returns-in_default c = c.first_front.ensures
