-- How the memory of the source run and that of the core run are tied, and what an activation is on both sides.
use Rattle.std.specs.Prelude.{◌≡◌, ◌⊎◌, ℕ, Bool, ◌+◌, ◌*◌, ◌<◌, ◌≤◌, Some, slice_get}
use Rattle.odc_program.specs.States.Bytes.{Block, variable, global, literal, region}
use Rattle.odc_program.specs.States.Memory.{Memory}
use Rattle.odc_program.specs.States.State.{Context}
use Rattle.odc_program.specs.States.State.{Env as SourceEnv}
use Rattle.odc_program.specs.Runs.Source.{env_of}
use Rattle.odc_program.specs.Trees.Program.{Local, Head, Tables, Body}
use Rattle.odc_core.specs.Memory.{Memory as Flat}
use Rattle.odc_core.specs.Frames.{touched_in}
use Rattle.odc_core.specs.Run.{World, Env}
use Rattle.odc_carried.specs.Carried.{type_in}
use Rattle.odc_carried.specs.Code.{Around, around, variables_of, own_low, locals_of, stmts_depth}
use Rattle.odc_carried.specs.Places.{place_of, byte_at}

-- the blocks that core memory holds: no carried form gives an address of another one
abbrev pub IsTied : Block → Type 0
IsTied (variable f serial at x) = Unit {0}
IsTied (global at n) = ⊥
IsTied (literal at n) = ⊥
IsTied (region at n) = ⊥

-- each byte of a live block is at its place
pub record Tied (entries : ℕ → ℕ) (m : Memory) (f : Flat) : Type 0 where
  pub byte : (b : Block) (s : ℕ) → IsTied b → m.size b ≡ Some s → (i : ℕ) → i < s → f (place_of b + i) ≡ Some (byte_at entries (m.byte b i))
  pub sane : (b : Block) (s : ℕ) → IsTied b → m.size b ≡ Some s → (i : ℕ) → i < s → byte_at entries (m.byte b i) < 256

abbrev pub size_of : Tables → Local → ℕ
size_of tables l = (type_in tables l.ty).size

-- the variables lie in the frame, eight bytes from its ends and from each other
pub record IsLaid (tables : Tables) (p : Head) : Type 0 where
  pub low : (x : ℕ) (l : Local) → slice_get p.locals x ≡ Some l → 8 ≤ l.place
  pub high : (x : ℕ) (l : Local) → slice_get p.locals x ≡ Some l → l.place + size_of tables l + 8 ≤ p.frame
  pub apart : (x y : ℕ) (l k : Local) → x < y → slice_get p.locals x ≡ Some l → slice_get p.locals y ≡ Some k → (l.place + size_of tables l + 8 ≤ k.place) ⊎ (k.place + size_of tables k + 8 ≤ l.place)

-- the frame has room for the variables of the compiler's own
abbrev pub HasRoom : Tables → Head → Body → Type 0
HasRoom tables p q = own_low (locals_of tables p) + (80 + 16 * stmts_depth q.stmts) ≤ p.frame

-- ---- an activation of a procedure
pub record Site : Type 0 where
  -- the word of each procedure
  pub entries : ℕ → ℕ
  -- of the source run
  pub fuel : ℕ
  pub world : World
  pub tables : Tables
  pub proc : Head
  pub body : Body
  -- the procedure's number, the activation's serial number, and the low end of its frame
  pub number : ℕ
  pub serial : ℕ
  pub low : ℕ
  -- the source's memory at the call, and what its caller may touch
  pub start : Memory
  pub outer : ℕ → Bool

abbrev pub o : Site → Around
o S = around S.tables S.proc S.body

-- what surrounds its nodes, of the source and of core code
abbrev pub env : Site → Context → SourceEnv
env S c = env_of S.tables S.proc S.number S.serial S.low c

abbrev pub cenv : Site → Env
cenv S = record { world = S.world; at = S.proc.at; low = S.low; variables = variables_of (o S); touched = touched_in S.outer S.low (variables_of (o S)) }
