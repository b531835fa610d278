-- A range of memory as the machine run takes it.
use Rattle.std.specs.Prelude.{◌≤◌, length}
use Rattle.rv_table.specs.Run as run
use Rattle.rv_sites.specs.declared.image.Range.{Range}

abbrev pub range_seen : Range → run.Range
range_seen r = record { start = r.start; size = r.size; readable = r.readable; writable = r.writable; executable = r.executable; bytes = r.bytes.now }

-- no more bytes are given than the range has
abbrev pub BytesFit : Range → Type 0
BytesFit r = length r.bytes.now ≤ r.size
