-- Procedures and programs of mid code as the definitions see them.
use Rattle.std.specs.Prelude.{ℕ, List}
use Rattle.odc_text.specs.declared.place.Place.{Place}
use Rattle.odc_core.specs.declared.tree.Variable.{Variable}
use Rattle.odc_mid.specs.declared.tree.MidStep.{MidStep}

pub record Proc : Type 0 where
  pub name : List ℕ
  pub at : Place
  pub parameters : ℕ
  pub variables : List Variable
  pub frame : ℕ
  pub temporaries : ℕ
  pub steps : List MidStep

pub record Whole : Type 0 where
  pub procedures : List Proc
  pub addresses : List ℕ
  pub store : List ℕ
  pub store_size : ℕ
  pub main : ℕ
