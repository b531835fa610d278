use Rattle.std.proofs.Common.{◌≡◌, map, take}
use Rattle.odc_package.specs.Folders.{name_of}
use Rattle.odc_package.proofs.folder.copied_path.Given as goal

abbrev pub invariant-loop-name : goal.invariant-loop-name
invariant-loop-name l = map name_of l.names.items ≡ map name_of (take l.name-index l.path.names.items)
