-- What the definitions see of the procedures that may be called.
use Rattle.std.specs.Prelude.{◌^◌, ◌<◌, length}
use Rattle.odc_small.specs.Names.{any, listed}
use Rattle.odc_small.specs.Names.{Callable as CallableTree}
use Rattle.odc_small.specs.declared.scope.Callable.{Callable}
use Rattle.odc_small.specs.declared.scope.Callable.TheVariants.{Any, Listed}

abbrev pub callable : Callable → CallableTree
callable Any = any
callable (Listed signatures) = listed signatures.items

-- so few that a position has 32 bits
abbrev pub AreFew : Callable → Type 0
AreFew Any = Unit {0}
AreFew (Listed signatures) = length signatures.items < 2 ^ 31
