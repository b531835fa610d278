use Rattle.std.proofs.Common.{◌≡◌, ◌++◌, IfOk, string_bytes, codes, subst}
use Rattle.odc_tool.specs.Status.{placed, newline}
use Rattle.odc_tool.proofs.status.stopped_text.Goals as goal

pub returns : goal.returns
returns c =
    subst (λ z. IfOk c.format.result (λ text. string_bytes text ≡ placed c.args.at (codes "stopped: " ++ (z ++ newline))))
    c.name-name.ensures c.format.ensures.ok
