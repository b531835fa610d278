-- The members of the packages of the library whose procedures are the compiler's own.
use Rattle.std.specs.Prelude.{ℕ, List, codes}
use Rattle.odc_builtins.specs.declared.packages.LibraryPackage.{LibraryPackage}
use Rattle.odc_builtins.specs.declared.packages.LibraryPackage.TheVariants.{Fmt, Os}
use Rattle.odc_builtins.specs.declared.members.Member.{Member}
use Rattle.odc_builtins.specs.declared.members.Member.TheVariants.{Print, Println, Read, Write, Exit, Stdin, Stdout, Stderr, Error}
use Rattle.odc_builtins.specs.declared.members.MemberKind.{MemberKind}
use Rattle.odc_builtins.specs.declared.members.MemberKind.TheVariants.{Printing, Transfer, Ending, Descriptor, ErrorType}

abbrev pub member_name : Member → List ℕ
member_name Print = codes "print"
member_name Println = codes "println"
member_name Read = codes "read"
member_name Write = codes "write"
member_name Exit = codes "exit"
member_name Stdin = codes "stdin"
member_name Stdout = codes "stdout"
member_name Stderr = codes "stderr"
member_name Error = codes "Error"

abbrev pub package_of : Member → LibraryPackage
package_of Print = Fmt
package_of Println = Fmt
package_of Read = Os
package_of Write = Os
package_of Exit = Os
package_of Stdin = Os
package_of Stdout = Os
package_of Stderr = Os
package_of Error = Os

abbrev pub kind_of : Member → MemberKind
kind_of Print = Printing
kind_of Println = Printing
kind_of Read = Transfer
kind_of Write = Transfer
kind_of Exit = Ending
kind_of Stdin = Descriptor 0
kind_of Stdout = Descriptor 1
kind_of Stderr = Descriptor 2
kind_of Error = ErrorType
