use Rattle.odc_typed.specs.View.{program}
use Rattle.odc_build.proofs.Filed.{is_built, is_made}
use Rattle.odc_build.proofs.compile.compile.Goals as goal

pub write_elf-requires : goal.write_elf-requires
write_elf-requires c = c.in_ok-image.ensures.can_write

pub returns : goal.returns
returns c =
    let w = program c.args.p.now in
    let files = c.args.p.now.paths.items in
    let m = c.in_ok-image.ensures in
    let out = c.in_ok-write_elf.field-0.items in
    record {
      built = is_built w files c.in_ok-image.image out c.requires.well m c.in_ok-write_elf.ensures.accepted c.in_ok-write_elf.ensures.denotes;
      made = is_made w files c.in_ok-image.image out m c.in_ok-write_elf.ensures.denotes;
    }
