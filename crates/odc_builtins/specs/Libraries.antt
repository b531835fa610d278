use Rattle.std.specs.Prelude.{ℕ, List, Option, Some, None, codes}
use Rattle.odc_builtins.specs.declared.packages.LibraryPackage.{LibraryPackage}
use Rattle.odc_builtins.specs.declared.packages.LibraryPackage.TheVariants.{Runtime, Mem, Fmt, Os}
use Rattle.odc_builtins.specs.declared.texts.TheConstants.{RUNTIME, MEM}

-- the import path of each package of the library
abbrev pub path_of : LibraryPackage → List ℕ
path_of Runtime = codes "base:runtime"
path_of Mem = codes "core:mem"
path_of Fmt = codes "core:fmt"
path_of Os = codes "core:os"

-- its source text, where it has one
abbrev pub text_of : LibraryPackage → Option (List ℕ)
text_of Runtime = Some RUNTIME.now
text_of Mem = Some MEM.now
text_of Fmt = None
text_of Os = None
