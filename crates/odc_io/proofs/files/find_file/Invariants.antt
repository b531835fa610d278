use Rattle.std.proofs.Common.{◌≡◌, None, take}
use Rattle.odc_io.specs.Files.{file_at}
use Rattle.odc_io.proofs.files.find_file.Given as goal

abbrev pub invariant-loop-i : goal.invariant-loop-i
invariant-loop-i l = file_at (take l.i l.files.items) l.path ≡ None
