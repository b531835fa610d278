-- The range at the index that was found.
use Rattle.std.proofs.Common.{arith, ◌∙◌}
use Rattle.rv_table.specs.declared.effect.Access.TheVariants.{Write}
use Rattle.rv_machine.proofs.Found.{held, found_in, fills}
use Rattle.rv_machine.proofs.Fixed.{keeps_on}
use Rattle.rv_machine.proofs.memory.Memory.fill.Goals as goal

pub overwrite-requires-clause-start : goal.overwrite-requires-clause-start
overwrite-requires-clause-start c = (held c.self.inside.regions.items c.args.self.now (c.self.view_is ∙ c.locate.ensures.same) Write c.args.address c.args.size c.in-Some.i c.index_mut-region.result.now c.in-Some.ensures.is c.index_mut-region.ensures.value).start

pub overwrite-requires-clause-end : goal.overwrite-requires-clause-end
overwrite-requires-clause-end c = let h = (held c.self.inside.regions.items c.args.self.now (c.self.view_is ∙ c.locate.ensures.same) Write c.args.address c.args.size c.in-Some.i c.index_mut-region.result.now c.in-Some.ensures.is c.index_mut-region.ensures.value).end in omega arith

pub returns-clause-is : goal.returns-clause-is
returns-clause-is c = fills c.self.inside.regions.items c.args.self.now (c.self.view_is ∙ c.locate.ensures.same) c.args.address c.args.size c.in-Some.i c.index_mut-region.result.now c.overwrite.new.self c.args.bytes.now c.in-Some.ensures.is c.index_mut-region.ensures.value c.overwrite.ensures.is

pub invariant_of-self : goal.invariant_of-self
invariant_of-self c =
    let p = found_in c.self.inside.regions.items c.args.self.now (c.self.view_is ∙ c.locate.ensures.same) Write c.args.address c.args.size c.in-Some.i c.index_mut-region.result.now c.in-Some.ensures.is c.index_mut-region.ensures.value in
    let h = held c.self.inside.regions.items c.args.self.now (c.self.view_is ∙ c.locate.ensures.same) Write c.args.address c.args.size c.in-Some.i c.index_mut-region.result.now c.in-Some.ensures.is c.index_mut-region.ensures.value in
    keeps_on c.self.inside.regions.items c.in-Some.i c.index_mut-region.result.now c.overwrite.new.self p.at
    c.overwrite.ensures.shape
    c.self.inside.apart c.self.inside.text.start c.self.inside.text.entries.items h.allowed c.self.invariant
