use Rattle.std.proofs.Common.{refl, subst}
use Rattle.odc_types.specs.Identity.{identity_of}
use Rattle.odc_types.specs.Interned.{IsInterned}
use Rattle.odc_types.proofs.InternedLaws.{one_id}
use Rattle.odc_types.proofs.table.TypeTable.len.Goals as goal

pub returns-clause-once : goal.returns-clause-once
returns-clause-once c = λ a b ha hb e.
    let table : IsInterned c.self.inside.keys.keys c.args.self.now = subst (IsInterned c.self.inside.keys.keys) c.self.view_is c.self.invariant.interned in
    one_id c.self.inside.keys.keys c.args.self.now table (identity_of c.args.self.now b) a b ha hb e refl
