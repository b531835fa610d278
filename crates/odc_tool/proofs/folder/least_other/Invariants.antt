use Rattle.std.proofs.Common.{take, map, string_bytes}
use Rattle.std.specs.Option.{option_copied}
use Rattle.odc_tool.specs.Gather.{IsLeast}
use Rattle.odc_tool.proofs.folder.least_other.Given as goal

-- the first of those so far
abbrev pub invariant-loop-name : goal.invariant-loop-name
invariant-loop-name l = IsLeast (map string_bytes (take l.name-index l.names.items)) (option_copied l.least)
