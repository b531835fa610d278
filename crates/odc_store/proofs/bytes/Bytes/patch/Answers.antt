use Rattle.std.proofs.Common.{rules}
use Rattle.odc_store.proofs.Patching.{patched_view, marks_fit}
use Rattle.odc_store.proofs.bytes.Bytes.patch.Goals as goal

pub invariant_of-self-2 : goal.invariant_of-self-2
invariant_of-self-2 c = marks_fit c.args.from c.self.inside.values.items c.part.inside.values.items _ c.self.inside.marks.items c.part.inside.marks.items _ c.args.self.now c.args.part.now (search rules) (search rules) (search rules) (search rules) c.requires (search rules) (search rules)

pub returns-clause-ok : goal.returns-clause-ok
returns-clause-ok c = patched_view c.args.from c.self.inside.values.items c.part.inside.values.items _ c.self.inside.marks.items c.part.inside.marks.items _ c.args.self.now c.args.part.now (search rules) (search rules) (search rules) (search rules) c.requires (search rules)
