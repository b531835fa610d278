-- The range at the index that was found.
use Rattle.rv_machine.proofs.Found.{held}
use Rattle.rv_machine.proofs.memory.Memory.region.Goals as goal

pub returns : goal.returns
returns c = held c.self.inside.regions.items c.args.self.now c.self.view_is c.args.access c.args.address c.args.size c.args.i c.index.result.now c.requires c.index.ensures
