use Rattle.std.proofs.Common.{take}
use Rattle.odc_io.specs.Trees.{texts}
use Rattle.odc_io.proofs.FileLemmas.{paths}
use Rattle.odc_io.proofs.ListingLemmas.{Listed}
use Rattle.odc_io.proofs.files.list_files.Given as goal

abbrev pub invariant-loop-file : goal.invariant-loop-file
invariant-loop-file l = Listed (paths (take l.file-index l.files.items)) l.folder (texts l.names) l.any
