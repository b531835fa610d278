use Rattle.std.proofs.Common.{◌≡◌, false, take, map, string_bytes}
use Rattle.std.specs.List.{list_any}
use Rattle.std.specs.Str.{bytes_eq}
use Rattle.odc_tool.specs.Verdict.{main_name}
use Rattle.odc_tool.proofs.folder.has_main.Given as goal

-- none of those so far
abbrev pub invariant-loop-name : goal.invariant-loop-name
invariant-loop-name l = list_any (bytes_eq main_name) (map string_bytes (take l.name-index l.names.items)) ≡ false
