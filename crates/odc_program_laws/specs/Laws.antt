-- What holds of all runs.
use Rattle.std.specs.Prelude.{◌≡◌, ℕ, ◌≤◌, List, ◌++◌}
use Rattle.odc_text.specs.declared.place.Place.{Place}
use Rattle.odc_text.specs.Run.{End, going, strayed, Entry}
use Rattle.odc_program.specs.States.Run.{Res, ok, stop}
use Rattle.odc_program.specs.States.Bytes.{Pointer}
use Rattle.odc_program.specs.Trees.Program.{Program}
use Rattle.odc_program.specs.States.State.{State, Leave}
use Rattle.odc_program.specs.Runs.Source.{source, main_run}
use Rattle.odc_text.specs.Run.{Ending}
use Rattle.odc_program.specs.Trees.Tree as tree
use Rattle.odc_program_laws.specs.Nodes.{InProgram}
use Rattle.odc_program_laws.specs.Rewriting.{Rule, Keeps, program_by}

-- it has exited, stopped at a check, or strayed
abbrev pub HasStopped : End → Type 0
HasStopped going = ⊥
HasStopped _ = Unit {0}

-- a run that has stopped is the same at every greater bound
abbrev pub StoppedStays : Type 0
StoppedStays = (p : Program) (input : List ℕ) (n m : ℕ) → n ≤ m → HasStopped (source p input n).end → source p input m ≡ source p input n

-- a state with more in the log and a greater cost
pub record Grown (u v : State) : Type 0 where
  pub more : List (Entry Pointer ℕ)
  pub log : v.log ≡ u.log ++ more
  pub cost : u.cost ≤ v.cost

abbrev pub GrownTo : {A : Type 0} → State → Res Leave State A → Type 0
GrownTo u (ok a v) = Grown u v
GrownTo u (stop w v) = Grown u v

-- whatever state a program begins in, it only adds to the log and the cost
abbrev pub OnlyGrows : Type 0
OnlyGrows = (p : Program) (n : ℕ) (u : State) → GrownTo u (main_run p n u)

-- a run that strays does so at the place of a node of the program
abbrev pub StraysAtNodes : Type 0
StraysAtNodes = (p : Program) (input : List ℕ) (n : ℕ) (at : Place) → (source p input n).end ≡ strayed at → InProgram at p

-- ---- rewriting
-- all but the cost
pub record SameButCost (e f : Ending Pointer ℕ) : Type 0 where
  pub end : e.end ≡ f.end
  pub log : e.log ≡ f.log
  pub taken : e.taken ≡ f.taken

-- a rule that keeps what each node does but for the cost, given any calls that don't look at it, keeps what programs do
abbrev pub RewritingKeeps : Type 0
RewritingKeeps = (rule : Rule) → Keeps rule → (p : Program) (input : List ℕ) (n : ℕ) → SameButCost (source p input n) (source (program_by rule p) input n)

-- a deferred statement that is itself a `defer` is that one
abbrev pub once_in : Place → tree.Form → tree.Form
once_in at (tree.defer s) = tree.defer s
once_in at k = tree.defer (tree.stmt at k)

abbrev pub once : tree.Form → tree.Form
once (tree.defer (tree.stmt at k)) = once_in at k
once k = k

abbrev pub deferred_once : Rule
deferred_once = record { kind = λ t at k. k; form = λ at k. once k }
