-- What the parts of a statement say, for the first node that isn't carried.
use Rattle.std.specs.Prelude.{Bool, false, ◌&&◌, Option, Some}
use Rattle.odc_text.specs.declared.place.Place.{Place}
use Rattle.odc_program.specs.Trees.Tree.{expr, local, none, more, Lefts, no_lefts, left_, Rights, each}
use Rattle.odc_program.specs.Trees.Program.{Head, Tables}
use Rattle.odc_carried.specs.Carried.{is_int, names_int, refused_int}

-- one value, an integer
abbrev pub refused_only : Tables → Head → Place → Rights → Option Place
refused_only tables p at (each (more e none)) = refused_int tables p e
refused_only tables p at vs = Some at

-- one left side, a variable that is an integer
abbrev pub is_target : Tables → Head → Lefts → Bool
is_target tables p (left_ (expr t at (local x)) no_lefts) = is_int tables t && names_int tables p x
is_target tables p ls = false
