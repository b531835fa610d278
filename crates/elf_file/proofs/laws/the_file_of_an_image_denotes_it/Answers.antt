use Rattle.std.proofs.Common.{refl}
use Rattle.elf_file.specs.Written.{file}
use Rattle.elf_file.proofs.Denoting.{written}
use Rattle.elf_file.proofs.laws.the_file_of_an_image_denotes_it.Goals as goal

pub returns : goal.returns
returns c = record {
  accepted = λ i w small. (written (file i) i refl w small).accepted;
  denotes = λ i w small. (written (file i) i refl w small).denotes;
}
