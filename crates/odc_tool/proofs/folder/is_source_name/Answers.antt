use Rattle.std.proofs.Common.{codes}
use Rattle.std.proofs.lemmas.Slice.Eq.{strip_suffix_is}
use Rattle.std.proofs.lemmas.Bool.Decides.{Decides-eqb}
use Rattle.odc_tool.proofs.NameLemmas.{source_by}
use Rattle.odc_tool.proofs.folder.is_source_name.Goals as goal

pub returns : goal.returns
returns c =
    source_by c.args.name.now c.strip_suffix.result c.is_some.result c.is_some.ensures
    (rw c.as_bytes.ensures.value at (strip_suffix_is Decides-eqb c.as_bytes.result.now (codes ".odin") c.strip_suffix.result c.strip_suffix.ensures.cases))
