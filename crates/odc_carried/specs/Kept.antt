-- What the core code of a carried program keeps of its source run.
use Rattle.std.specs.Prelude.{◌≡◌, ◌⊎◌, ℕ, ◌+◌, ◌*◌, ◌≤◌, false, None, length}
use Rattle.odc_text.specs.declared.place.Place.{Place}
use Rattle.odc_text.specs.Run.{strayed}
use Rattle.odc_program.specs.States.Bytes.{Value}
use Rattle.odc_program.specs.States.Run.{Res, ok, stop}
use Rattle.odc_program.specs.States.State.{State, Leave, ends, Calls, Context}
use Rattle.odc_program.specs.Kinds.Expressions.{value_of}
use Rattle.odc_program.specs.Trees.Tree.{Expr}
use Rattle.odc_core.specs.Run.{State as CoreState, ok as fine, calls_of}
use Rattle.odc_core.specs.Run.{value_of as core_value_of}
use Rattle.odc_core.specs.Tree.{Expr as CoreExpr}
use Rattle.odc_core.specs.Words.{bytes_of}
use Rattle.odc_carried.specs.Carried.{refused_int, refused_truth, is_loud}
use Rattle.odc_carried.specs.Code.{value}
use Rattle.odc_carried.specs.Places.{bytes_at}
use Rattle.odc_carried.specs.Tied.{Tied, Site, o, env, cenv}

-- ---- expressions that hold no call and no check

-- The source gives a value and changes nothing but its cost, and the core expression gives the word that this value is
-- on the machine, and changes nothing but cost and bound, at no more than twice the cost.
pub record Same (S : Site) (code : CoreExpr) (s : State) (t : CoreState) (r : Res Leave State Value) : Type 0 where
  pub value : Value
  pub word : ℕ
  pub cost : ℕ
  pub is : r ≡ ok value (record s { cost = cost })
  pub bytes : bytes_at S.entries value ≡ bytes_of (length value) word
  pub budget : ℕ
  pub paid : ℕ
  pub runs : (n left : ℕ) → left + budget ≤ n → core_value_of (calls_of S.world n) (cenv S) code (record t { left = left + budget }) ≡ fine word (record t { left = left; cost = t.cost + paid })
  pub cheap : paid + 2 * s.cost ≤ 2 * cost

-- the source has strayed, and has changed nothing but its cost
pub record Astray (s : State) (r : Res Leave State Value) : Type 0 where
  pub place : Place
  pub cost : ℕ
  pub is : r ≡ stop (ends (strayed place)) (record s { cost = cost })

abbrev pub IsSame : Site → CoreExpr → State → CoreState → Res Leave State Value → Type 0
IsSame S code s t r = Same S code s t r ⊎ Astray s r

-- in whatever activation, with whatever calls
abbrev pub QuietIntegers : Type 0
QuietIntegers =
    (S : Site) (context : Context) (calls : Calls) (e : Expr) (d : ℕ) (s : State) (t : CoreState) → refused_int S.tables S.proc e ≡ None → is_loud e ≡ false → Tied S.entries s.memory t.memory →
    IsSame S (value (o S) d e) s t (value_of calls (env S context) e s)

abbrev pub QuietTruths : Type 0
QuietTruths =
    (S : Site) (context : Context) (calls : Calls) (e : Expr) (d : ℕ) (s : State) (t : CoreState) → refused_truth S.tables S.proc e ≡ None → is_loud e ≡ false → Tied S.entries s.memory t.memory →
    IsSame S (value (o S) d e) s t (value_of calls (env S context) e s)
