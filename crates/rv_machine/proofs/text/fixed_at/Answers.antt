-- The range at the index that was found.
use Rattle.std.proofs.Common.{sym, ◌∙◌, ap, refl}
use Rattle.rv_table.specs.Table.{decoded}
use Rattle.rv_table.specs.declared.effect.Access.TheVariants.{Execute}
use Rattle.rv_machine.proofs.Found.{held, found_in}
use Rattle.rv_machine.proofs.text.fixed_at.Goals as goal

pub load_4-requires-clause-start : goal.load_4-requires-clause-start
load_4-requires-clause-start c = (held c.args.regions.now c.args.regions.now refl Execute c.args.address 4 c.in_ok-i.i c.index-regions-i.result c.in_ok-i.ensures c.index-regions-i.is).start

pub load_4-requires-clause-end : goal.load_4-requires-clause-end
load_4-requires-clause-end c = (held c.args.regions.now c.args.regions.now refl Execute c.args.address 4 c.in_ok-i.i c.index-regions-i.result c.in_ok-i.ensures c.index-regions-i.is).end

pub returns-else-jumps_by_x5 : goal.returns-else-jumps_by_x5
returns-else-jumps_by_x5 c = record {
  index = c.in_ok-i.i;
  area = c.index-regions-i.result;
  first = sym c.in_ok-i.ensures;
  at = (found_in c.args.regions.now c.args.regions.now refl Execute c.args.address 4 c.in_ok-i.i c.index-regions-i.result c.in_ok-i.ensures c.index-regions-i.is).at;
  fixed = sym c.allows.ensures ∙ c.if-allows.false;
  means = ap decoded (sym c.load_4.ensures) ∙ sym c.in_ok-inst.ensures.row;
  fits = c.in_ok-inst.ensures.fits;
  plain = sym c.jumps_by_x5.ensures ∙ c.if-jumps_by_x5.false;
}
