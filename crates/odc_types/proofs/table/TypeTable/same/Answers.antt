use Rattle.std.proofs.Common.{ap}
use Rattle.std.proofs.lemmas.Bool.Decides.{Decides-eqb}
use Rattle.odc_types.specs.Identity.{identity_of}
use Rattle.odc_types.proofs.table.TypeTable.same.Goals as goal

pub returns-clause-identity : goal.returns-clause-identity
returns-clause-identity c =
    let test = Decides-eqb c.args.a.index c.args.b.index in
    (λ e. ap (λ t. identity_of c.args.self.now t) (test.0 e), λ e. test.1 (c.len-each_once.ensures.once c.args.a.index c.args.b.index c.requires.first c.requires.second e))
