use Rattle.std.proofs.Common.{◌≡◌, ◌++◌, take, map}
use Rattle.odc_program.specs.Views.Instances.{local}
use Rattle.odc_carried.specs.Code.{variable_of}
use Rattle.odc_carried.specs.TableView.{typed}
use Rattle.odc_carried.proofs.tables.push_variables.Given as goal

abbrev pub invariant-loop-l : goal.invariant-loop-l
invariant-loop-l l = l.all.items ≡ l.initial.all.items ++ map (variable_of (typed l.types)) (map local (take l.l-index l.locals))
