use Rattle.std.proofs.Common.{◌∙◌, ap, ◌++◌, ◌∷◌, [], if◌then◌else◌}
use Rattle.odc_types.proofs.KeyTests.{not_any}
use Rattle.odc_types.proofs.index.put.Goals as goal

pub returns-clause-ok : goal.returns-clause-ok
returns-clause-ok c =
    c.in_ok-insert.ensures.keys ∙ ap (λ b. if b then c.args.keys.now.keys else c.args.keys.now.keys ++ (c.args.key ∷ [])) (not_any c.args.key c.args.keys.now.keys c.requires)
