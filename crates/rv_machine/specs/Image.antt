-- A view of an image as the definition of the machine run takes it.
use Rattle.std.specs.Prelude.{◌≤◌, map}
use Rattle.std.specs.Vec.{vec_len}
use Rattle.rv_machine.specs.declared.image.Range.{Range}
use Rattle.rv_machine.specs.declared.image.ImageView.{ImageView}
use Rattle.rv_table.specs.Run as run

abbrev pub range_of : Range → run.Range
range_of r = record { start = r.start; size = r.size; readable = r.readable; writable = r.writable; executable = r.executable; bytes = r.bytes.items }

abbrev pub image_of : ImageView → run.Image
image_of v = record { ranges = map range_of v.ranges.items; entry = v.entry; sites = v.sites.items; calls = v.calls.items }

-- no range has more bytes than its size
abbrev pub BytesFit : Range → Type 0
BytesFit r = vec_len r.bytes ≤ r.size
