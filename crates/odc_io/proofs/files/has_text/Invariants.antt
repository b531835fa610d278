use Rattle.std.proofs.Common.{◌≡◌, false, take, map, string_bytes}
use Rattle.std.specs.List.{list_any}
use Rattle.std.specs.Str.{bytes_eq}
use Rattle.odc_io.proofs.files.has_text.Given as goal

-- none of those so far
abbrev pub invariant-loop-t : goal.invariant-loop-t
invariant-loop-t l = list_any (bytes_eq l.text) (map string_bytes (take l.t-index l.list.items)) ≡ false
