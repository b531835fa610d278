-- The steps of mid code as plain data: a list of arguments is its temporaries alone.
use Rattle.std.specs.Prelude.{ℕ, Bool, List, map}
use Rattle.odc_text.specs.declared.check.Check.{Check}
use Rattle.odc_text.specs.declared.place.Place.{Place}
use Rattle.odc_core.specs.declared.tree.Width.{Width}
use Rattle.odc_core.specs.declared.tree.UnaryOp.{UnaryOp}
use Rattle.odc_core.specs.declared.tree.BinaryOp.{BinaryOp}
use Rattle.odc_core.specs.declared.tree.Comparison.{Comparison}
use Rattle.odc_core.specs.declared.tree.Variable.{Variable}
use Rattle.odc_mid.specs.declared.tree.Named.{Named}
use Rattle.odc_mid.specs.declared.tree.SystemCall.{SystemCall}
use Rattle.odc_mid.specs.declared.tree.MidStep.{MidStep}
use Rattle.odc_mid.specs.declared.tree.MidStep.TheVariants.{Const, Address, Move, Unary, Binary, Compare, Load, Store, Jump, Branch, Call, CallValue, Return, Check as Checks, System}
use Rattle.odc_mid.specs.Tree.{Proc}

pub data Step : Type 0 where
  const_step : (to word : ℕ) → Step
  address_step : (to : ℕ) (of : Named) → Step
  move_step : (to from : ℕ) → Step
  unary_step : (to : ℕ) (op : UnaryOp) (operand : ℕ) → Step
  binary_step : (to : ℕ) (op : BinaryOp) (left right : ℕ) → Step
  compare_step : (to : ℕ) (op : Comparison) (left right : ℕ) → Step
  load_step : (to : ℕ) (width : Width) (address : ℕ) → Step
  store_step : (width : Width) (address value : ℕ) → Step
  jump_step : (label : ℕ) → Step
  branch_step : (condition label : ℕ) → Step
  call_step : (to f : ℕ) (arguments : List ℕ) → Step
  call_value_step : (to target : ℕ) (arguments : List ℕ) (marked : Bool) → Step
  return_step : (value : ℕ) → Step
  check_step : (condition : ℕ) (which : Check) (place : Place) → Step
  system_step : (call : SystemCall) → Step

abbrev pub plain : MidStep → Step
plain (Const to word) = const_step to word
plain (Address to of) = address_step to of
plain (Move to from) = move_step to from
plain (Unary to op operand) = unary_step to op operand
plain (Binary to op left right) = binary_step to op left right
plain (Compare to op left right) = compare_step to op left right
plain (Load to width address) = load_step to width address
plain (Store width address value) = store_step width address value
plain (Jump label) = jump_step label
plain (Branch condition label) = branch_step condition label
plain (Call to f arguments) = call_step to f arguments.items
plain (CallValue to target arguments marked) = call_value_step to target arguments.items marked
plain (Return value) = return_step value
plain (Checks condition which place) = check_step condition which place
plain (System call) = system_step call

-- a procedure whose steps are plain
pub record PlainProc : Type 0 where
  pub name : List ℕ
  pub at : Place
  pub parameters : ℕ
  pub variables : List Variable
  pub frame : ℕ
  pub temporaries : ℕ
  pub steps : List Step

abbrev pub plain_proc : Proc → PlainProc
plain_proc p = record {
  name = p.name;
  at = p.at;
  parameters = p.parameters;
  variables = p.variables;
  frame = p.frame;
  temporaries = p.temporaries;
  steps = map plain p.steps;
}
