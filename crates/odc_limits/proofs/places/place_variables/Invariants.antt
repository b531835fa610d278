use Rattle.std.proofs.Common.{◌≡◌, map, take}
use Rattle.odc_program.specs.States.State.{Env}
use Rattle.odc_program.specs.Views.Instances.{local}
use Rattle.odc_program.specs.Views.ProgramView.{ty}
use Rattle.odc_limits.proofs.Following.{Lie}
use Rattle.odc_limits.proofs.places.place_variables.Given as goal

abbrev pub invariant-loop-ty : goal.invariant-loop-ty
invariant-loop-ty l = (map (λ x. x.ty) l.locals.items ≡ take l.ty-index l.types) × ((env : Env) → env.tables.types ≡ map ty l.rows → Lie env l.at l.end (map local l.locals.items))
