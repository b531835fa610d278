use Rattle.std.proofs.Common.{◌≡◌, drop}
use Rattle.odc_package.specs.Folders.{names_of, parts, led, resolved}
use Rattle.odc_package.proofs.folder.resolve.Given as goal

abbrev pub invariant-loop-byte : goal.invariant-loop-byte
invariant-loop-byte l = led (names_of l.at) (parts l.part.items (drop l.byte-index l.path)) ≡ resolved (names_of l.folder) l.path
