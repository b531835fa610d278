-- The error of a folder as one of gathering.
use Rattle.odc_io.specs.declared.traits.FolderError.{FolderError}
use Rattle.odc_io.specs.declared.traits.FolderError.TheVariants.{Failed, Memory as OutOfMemory}
use Rattle.odc_tool.specs.declared.folder.GatherError.{GatherError}
use Rattle.odc_tool.specs.declared.folder.GatherError.TheVariants.{FolderFault, Memory}

abbrev pub gather_error : FolderError → GatherError
gather_error Failed = FolderFault
gather_error OutOfMemory = Memory
