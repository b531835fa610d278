-- What core code becomes.
use Rattle.std.specs.Prelude.{◌≡◌, ℕ, ◌+◌, List, map, max}
use Rattle.odc_text.specs.Follow.{KeepsOn}
use Rattle.odc_core.specs.Run.{core}
use Rattle.odc_core.specs.Tree.{Proc, Whole}
use Rattle.odc_core.specs.Well.{AreBytes}
use Rattle.odc_mid.specs.Run.{mid}
use Rattle.odc_mid.specs.Tree.{Proc as MidProc, Whole as MidWhole}
use Rattle.odc_lower.specs.Plain.{PlainProc, plain_proc}
use Rattle.odc_lower.specs.Size.{stmts_room}
use Rattle.odc_lower.specs.Code.{procedure_code}

-- the parameters occupy the first temporaries all along
abbrev pub lowered : Proc → PlainProc
lowered p = record {
  name = p.name;
  at = p.at;
  parameters = p.parameters;
  variables = p.variables;
  frame = p.frame;
  temporaries = p.parameters + max 1 (stmts_room p.body);
  steps = procedure_code p;
}

abbrev pub Becomes : Proc → MidProc → Type 0
Becomes a b = plain_proc b ≡ lowered a

-- one procedure for each, in order, and all else as it was
pub record IsLowered (p : Whole) (q : MidWhole) : Type 0 where
  pub procedures : map plain_proc q.procedures ≡ map lowered p.procedures
  pub addresses : q.addresses ≡ p.addresses
  pub store : q.store ≡ p.store
  pub store_size : q.store_size ≡ p.store_size
  pub main : q.main ≡ p.main

-- on every input of bytes, the mid run keeps the core run, at twelve steps for each unit of cost and two more
abbrev pub IsKept : Whole → MidWhole → Type 0
IsKept p q = (entries : ℕ → ℕ) (input : List ℕ) → AreBytes input → KeepsOn 12 2 (λ e. e) (core entries p) (mid entries q) input
