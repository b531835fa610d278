use Rattle.std.proofs.Common.{rules}
use Rattle.odc_store.proofs.Patching.{part_view}
use Rattle.odc_store.proofs.bytes.Bytes.part.Goals as goal

pub returns : goal.returns
returns c = part_view c.args.from c.args.size c.self.inside.values.items _ c.self.inside.marks.items _ _ (search rules) (search rules) (search rules)
