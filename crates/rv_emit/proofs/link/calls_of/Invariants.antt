use Rattle.std.proofs.Common.{◌≡◌, ◌+◌, ◌*◌, ◌++◌, drop, map}
use Rattle.rv_emit.specs.Code.{text_start, start_size}
use Rattle.rv_emit.specs.Blocks.{block, all_calls, size_of_all}
use Rattle.rv_emit.proofs.link.calls_of.Given as goal

-- the calls so far, and those of the blocks that are left, are those of all
abbrev pub invariant-loop-block : goal.invariant-loop-block
invariant-loop-block l =
    (l.calls.items ++ all_calls l.next (map block (drop l.block-index l.list)) ≡ all_calls (text_start + 4 * start_size) (map block l.list))
    × (l.next + 4 * size_of_all (map block (drop l.block-index l.list)) ≡ text_start + 4 * (start_size + size_of_all (map block l.list)))
