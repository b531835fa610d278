-- What an instance and its procedure are.
use Rattle.std.specs.Prelude.{ℕ, Bool, true, false, List, [], Result, Ok, Err, map, string_bytes}
use Rattle.odc_text.specs.declared.place.Place.{Place}
use Rattle.odc_text.specs.declared.code.Fault.{Fault}
use Rattle.odc_program.specs.declared.program.Inst.{Inst}
use Rattle.odc_program.specs.declared.program.Need.{Need as RustNeed}
use Rattle.odc_program.specs.declared.program.Local.{Local as RustLocal}
use Rattle.odc_types.specs.declared.ty.Convention.{Convention}
use Rattle.odc_types.specs.declared.ty.Convention.TheVariants.{Odin, Contextless}
use Rattle.odc_program.specs.declared.program.Helper.{Helper as RustHelper}
use Rattle.odc_program.specs.declared.program.Procedure.{Procedure as RustProcedure}
use Rattle.odc_program.specs.declared.program.CheckError.{CheckError}
use Rattle.odc_program.specs.declared.program.CheckError.TheVariants as error
pub use Rattle.odc_program.specs.Trees.Program.{Instance, Local, Helper, Body}
use Rattle.odc_program.specs.Views.StmtView.{stmts}

pub record Need : Type 0 where
  pub instance : Instance
  pub at : Place

pub record Procedure : Type 0 where
  pub instance : Instance
  pub name : List ℕ
  pub literal : ℕ
  pub at : Place
  pub has_context : Bool
  pub ty : ℕ
  pub parameters : List Local
  pub results : List Local
  pub locals : List Local
  pub frame : ℕ
  pub body : Body
  pub needs : List Need

abbrev pub instance : Inst → Instance
instance i = record { proc = i.proc.index; types = map (λ t. t.index) i.types.items; numbers = i.numbers.items }

abbrev pub need : RustNeed → Need
need n = record { instance = instance n.inst; at = n.at }

abbrev pub local : RustLocal → Local
local l = record { ty = l.ty.index; place = l.place }

abbrev pub has_context : Convention → Bool
has_context Odin = true
has_context Contextless = false

-- a helper has no text, so no place, name and needs of its own: it has those of its procedure
abbrev pub helper : RustProcedure → RustHelper → Helper
helper p h = record {
  head = record { instance = instance p.inst; name = string_bytes p.name; at = p.at; literal = p.name_literal; has_context = false; ty = p.ty.index; parameters = h.parameters; results = h.results; locals = map local h.locals.items; frame = h.frame; needs = [] };
  body = stmts h.body.items;
}

abbrev pub procedure : RustProcedure → Procedure
procedure p = record {
  instance = instance p.inst;
  name = string_bytes p.name;
  literal = p.name_literal;
  at = p.at;
  has_context = has_context p.convention;
  ty = p.ty.index;
  parameters = map local p.params.items;
  results = map local p.results.items;
  locals = map local p.locals.items;
  frame = p.frame;
  body = record { stmts = stmts p.body.items; helpers = map (helper p) p.helpers.items };
  needs = map need p.needs.items;
}

-- what a checker answers for an instance
pub data Answer : Type 0 where
  gives : (p : Procedure) → Answer
  refuses : (fault : Fault) → Answer

-- a fault is answered only where it is told
abbrev pub FaultTold : (Answer → Type 0) → Result RustProcedure CheckError → Type 0
FaultTold tells (Ok p) = Unit {0}
FaultTold tells (Err (error.Fault f)) = tells (refuses f)
FaultTold tells (Err error.Memory) = Unit {0}
