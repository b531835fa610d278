use Rattle.std.specs.Prelude.{Result, Ok, Err}
use Rattle.odc_scope.specs.declared.AddError.{AddError}
use Rattle.odc_scope.specs.declared.AddError.TheVariants.{Taken, Memory}

abbrev pub IsTaken : {T I : Type 0} → Result T (AddError I) → Type 0
IsTaken (Ok x) = ⊥
IsTaken (Err (Taken item)) = Unit {0}
IsTaken (Err (Memory item)) = ⊥

-- the item that comes back
abbrev pub item_of : {I : Type 0} → AddError I → I
item_of (Taken item) = item
item_of (Memory item) = item
