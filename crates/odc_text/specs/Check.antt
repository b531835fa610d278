-- The named checks: what a stopped program's line calls them, and their numbers in an executable.
use Rattle.std.specs.Prelude.{ℕ, List, codes}
use Rattle.odc_text.specs.declared.check.Check.{Check}
use Rattle.odc_text.specs.declared.check.Check.TheVariants.{Index, Slice, Division, Assertion, Nil, Stack, Assert, Panic, Length}

abbrev pub name_of : Check → List ℕ
name_of Index = codes "index"
name_of Slice = codes "slice"
name_of Division = codes "division"
name_of Assertion = codes "assertion"
name_of Nil = codes "nil"
name_of Stack = codes "stack"
name_of Assert = codes "assert"
name_of Panic = codes "panic"
name_of Length = codes "length"

abbrev pub number_of : Check → ℕ
number_of Index = 1
number_of Slice = 2
number_of Division = 3
number_of Assertion = 4
number_of Nil = 5
number_of Stack = 6
number_of Assert = 7
number_of Panic = 8
number_of Length = 9
