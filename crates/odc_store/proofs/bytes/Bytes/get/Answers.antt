use Rattle.std.proofs.Common.{rules}
use Rattle.odc_store.proofs.Joining.{get_view}
use Rattle.odc_store.proofs.bytes.Bytes.get.Goals as goal

pub returns : goal.returns
returns c = get_view c.self.inside.values.items c.self.inside.marks.items c.args.at c.index.result.now c.args.self.now c.byte_of.result (search rules) c.requires (search rules) (search rules)
