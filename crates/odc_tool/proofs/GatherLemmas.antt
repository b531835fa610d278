-- Errors of gathering, as far as they refuse.
use Rattle.std.proofs.Common.{Option, IfSome}
use Rattle.odc_tool.specs.Verdict.{Outcome, refused}
use Rattle.odc_tool.specs.Gather.{IfRefused}
use Rattle.odc_tool.specs.declared.folder.GatherError.{GatherError}
use Rattle.odc_tool.specs.declared.folder.GatherError.TheVariants.{FolderFault, Refused, Memory}
use Rattle.odc_tool.proofs.NameLemmas.{told_always}

pub refused_told : {T : Type 0} (e : GatherError) (o : Option T) (P : Outcome → Type 0) (Q : T → Outcome → Type 0)
    → ((outcome : Outcome) → P outcome → IfSome o (λ files. Q files outcome)) → IfRefused e P → IfSome o (λ files. IfRefused e (Q files))
refused_told (Refused fault path) o P Q f h = f (refused fault path) h
refused_told FolderFault o P Q f h = told_always o
refused_told Memory o P Q f h = told_always o
