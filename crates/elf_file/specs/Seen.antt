-- The image that is seen in a file.
use Rattle.std.specs.Prelude.{map}
use Rattle.rv_sites.specs.Sections.{listing}
use Rattle.rv_sites.specs.Seen.{range_seen}
use Rattle.rv_sites.specs.declared.image.ImageView.{ImageView}
use Rattle.elf_file.specs.Rules.{Image}

abbrev pub image_seen : ImageView → Image
image_seen v = record { ranges = map range_seen v.ranges.items; entry = v.entry; lists = listing v.sites.sites.now v.sites.calls.now }
