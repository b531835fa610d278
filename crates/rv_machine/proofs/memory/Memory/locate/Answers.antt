-- Where no two ranges share an address, one that covers the access is the first.
use Rattle.std.proofs.Common.{◌≡◌, List, length, arith, ap, ◌∙◌, sym}
use Rattle.std.specs.Prelude.{Some, position, slice_get}
use Rattle.std.proofs.lemmas.Grind.{common_steps}
use Rattle.std.proofs.lemmas.Option.{slice_get_read}
use Rattle.rv_table.specs.State.{Area, covers}
use Rattle.rv_machine.proofs.Fixed.{sole}
use Rattle.rv_machine.proofs.memory.Memory.locate.Goals as goal

pub returns-then-covers-clause-is : goal.returns-then-covers-clause-is
returns-then-covers-clause-is c =
    let items = c.self.inside.regions.items in
    let size : c.len.result ≡ length items = grind (arith, common_steps) in
    let at : slice_get items c.self.inside.recent ≡ Some c.index.result.now = slice_get_read items c.len.result c.self.inside.recent c.index.result.now size c.if-recent-len.true c.index.ensures in
    sym (sole c.args.access c.args.address c.args.size c.requires items c.self.inside.recent c.index.result.now (c.self.invariant.are_apart c.if-self.true) at (sym c.covers.ensures ∙ c.if-covers.true))
    ∙ ap (λ (rs : List Area). position (covers c.args.access c.args.address c.args.size) rs) c.self.view_is
