-- The state of a source run, what surrounds a node, and the primitives: all that touches the state.
use Rattle.std.specs.Prelude.{ℕ, zero, suc, ◌+◌, ◌==◌, Bool, true, false, nat_le, if◌then◌else◌, List, [], ◌∷◌, ◌++◌, length, take, drop, get_or, min, Option, Some, None}
use Rattle.odc_text.specs.declared.place.Place.{Place}
use Rattle.odc_text.specs.declared.check.Check.{Check}
use Rattle.odc_text.specs.Run.{End, checked, strayed, going, Entry}
use Rattle.odc_program.specs.States.Run.{World, ok, stop, Act, pure, halt, ◌>>>◌, charge, tell, moved}
use Rattle.odc_program.specs.States.Bytes.{Block, variable, Pointer, nil, to, Value, zeros, procedure_bytes}
use Rattle.odc_program.specs.States.Memory.{Memory, load, store, fits, writable, open_block, close, close_from}
use Rattle.odc_program.specs.Trees.Program.{Shape, fields, Ty, Local, Head, Tables}

abbrev pub State : Type 0
State = World Memory (Entry Pointer ℕ)

-- Why a part of a run doesn't give its value: the run has ended, or `or_return` leaves the procedure, whose results
-- are stored.
pub data Leave : Type 0 where
  ends : (end : End) → Leave
  back : Leave

abbrev pub Do : Type 0 → Type 0
Do A = Act Leave State A

-- ---- the primitives
abbrev pub spend : ℕ → Do (Unit {0})
spend n s = charge n s

abbrev pub leave_behind : List (Entry Pointer ℕ) → Do (Unit {0})
leave_behind es s = tell es s

abbrev pub turn_from : ℕ → Do (Unit {0})
turn_from zero s = stop (ends going) s
turn_from (suc left) s = ok tt (record s { left = left; cost = s.cost + 1 })

abbrev pub take_turn : Do (Unit {0})
take_turn s = turn_from s.left s

abbrev pub next_serial : Do ℕ
next_serial s = ok s.serial (record s { serial = s.serial + 1 })

abbrev pub stray : {A : Type 0} → Place → Do A
stray at = halt (ends (strayed at))

abbrev pub known : {A : Type 0} → Place → Option A → Do A
known at (Some a) = pure a
known at None = stray at

abbrev pub load_at : Place → Block → ℕ → ℕ → Do Value
load_at at b o n s = known at (load s.memory b o n) s

abbrev pub keep : Place → Option Memory → Do (Unit {0})
keep at (Some m) s = ok tt (record s { memory = m })
keep at None s = stray at s

abbrev pub store_at : Place → Block → ℕ → Value → Do (Unit {0})
store_at at b o v s = keep at (store s.memory b o v) s

abbrev pub open_at : Block → Value → Do (Unit {0})
open_at b v s = ok tt (record s { memory = open_block s.memory b v })

abbrev pub close_all : ℕ → Do (Unit {0})
close_all serial s = ok tt (record s { memory = close s.memory serial })

abbrev pub close_behind : ℕ → ℕ → Do (Unit {0})
close_behind serial low s = ok tt (record s { memory = close_from s.memory serial low })

-- an address in a block, from its begin to its length
abbrev pub in_block : Place → Block → ℕ → Do Pointer
in_block at b o s = (if nat_le o (s.memory.long b) then pure (to b o) else stray at) s

abbrev pub live_by : Place → Option ℕ → Do (Unit {0})
live_by at None = stray at
live_by at (Some n) = pure tt

abbrev pub live_at : Place → Block → Do (Unit {0})
live_at at b s = live_by at (s.memory.size b) s

-- that so many bytes may be written
abbrev pub fitting : Place → Bool → Do (Unit {0})
fitting at true = pure tt
fitting at false = stray at

abbrev pub room_at : Place → Block → ℕ → ℕ → Do (Unit {0})
room_at at b o n s = fitting at (fits (writable b (s.memory.size b)) o n) s

-- up to so many bytes of the input
abbrev pub take_input : ℕ → Do (List ℕ)
take_input n s = ok (take n s.input) (record s { input = drop n s.input; taken = s.taken + min n (length s.input) })

-- ---- all else is made of these
abbrev pub turn : {A : Type 0} → Do A → Do A
turn m = take_turn >>> m

abbrev pub tick : {A : Type 0} → Do A → Do A
tick m = spend 1 >>> m

abbrev pub fail : {A : Type 0} → Check → Place → Do A
fail c at = halt (ends (checked c at))

abbrev pub read_at : Place → Pointer → ℕ → Do Value
read_at at p zero = pure []
read_at at nil (suc n) = stray at
read_at at (to b o) (suc n) = spend (moved (suc n)) >>> load_at at b o (suc n)

abbrev pub write_to : Place → Pointer → Value → Do (Unit {0})
write_to at p [] = pure tt
write_to at nil (v ∷ vs) = stray at
write_to at (to b o) (v ∷ vs) = spend (moved (length (v ∷ vs))) >>> store_at at b o (v ∷ vs)

abbrev pub begin_block : Block → Value → Do (Unit {0})
begin_block b v = spend (moved (length v)) >>> open_at b v

-- an address so far behind another; it strays where that leaves the block
abbrev pub behind : Place → Pointer → ℕ → Do Pointer
behind at nil d = if d == 0 then pure nil else stray at
behind at (to b o) d = in_block at b (o + d)

abbrev pub is_live : Place → Pointer → Do (Unit {0})
is_live at nil = pure tt
is_live at (to b o) = live_at at b

abbrev pub has_room : Place → Pointer → ℕ → Do (Unit {0})
has_room at p zero = pure tt
has_room at nil (suc n) = stray at
has_room at (to b o) (suc n) = room_at at b o (suc n)

-- ---- places and values
-- a field of a record in columns: its offset and size in the record, and where it lies, so far behind an address
pub record Piece : Type 0 where
  pub offset : ℕ
  pub size : ℕ
  pub start : Pointer
  pub move : ℕ

-- a place: an address, a part of the context's value, or the fields of an element that lies in columns
pub data Spot : Type 0 where
  spot : (p : Pointer) → Spot
  in_context : (offset : ℕ) → Spot
  rows : (pieces : List Piece) → Spot

-- What a base gives: a place; a value; or column k of a `#soa` container of this type, whose header isn't read yet.
pub data Base : Type 0 where
  lies : (s : Spot) → Base
  is : (v : Value) → Base
  views : (container : Base) (t k : ℕ) → Base

abbrev pub Context : Type 0
Context = Option Value

-- what surrounds a node
pub record Env : Type 0 where
  pub tables : Tables
  pub proc : Head
  -- the procedure's number, the activation's serial number, and the low end of its frame
  pub number : ℕ
  pub serial : ℕ
  pub low : ℕ
  -- how its locals are counted in the names of blocks: from here on
  pub shift : ℕ
  -- where a name lies
  pub storage : ℕ → Spot
  pub context : Context

abbrev pub in_context_of : Env → Context → Env
in_context_of env c = record env { context = c }

-- What a call does: procedure, what comes between its turn and its stack check, arguments, context, and the low end of
-- the caller's frame. A helper is called by its position, arguments, and the caller's surroundings.
pub record Calls : Type 0 where
  pub call : ℕ → Do (Unit {0}) → List Value → Context → ℕ → Do Value
  pub help : ℕ → List Value → Env → Do Value

-- ---- the first context: the value of `default_context`, made without a call
abbrev pub allocator_value : Option ℕ → Value
allocator_value None = zeros 16
allocator_value (Some f) = procedure_bytes f ++ zeros 8

abbrev pub first_context : Tables → Value
first_context ts = allocator_value ts.heap ++ allocator_value ts.temp ++ zeros 16

-- ---- look-ups
abbrev pub ty_of : Env → ℕ → Ty
ty_of env t = get_or env.tables.types t (record { size = 0; align = 1; base = t; name = None; shape = fields [] })

abbrev pub size_of : Env → ℕ → ℕ
size_of env t = (ty_of env t).size

abbrev pub align_of : Env → ℕ → ℕ
align_of env t = (ty_of env t).align

abbrev pub base_type : Env → ℕ → ℕ
base_type env t = (ty_of env t).base

abbrev pub shape_of : Env → ℕ → Shape
shape_of env t = (ty_of env t).shape

abbrev pub local_in : Head → ℕ → Local
local_in p x = get_or p.locals x (record { ty = 0; place = 0 })

abbrev pub local_of : Env → ℕ → Local
local_of env x = local_in env.proc x

abbrev pub block_of : Env → ℕ → Block
block_of env x = variable env.number env.serial (env.low + (local_of env x).place) (env.shift + x)

abbrev pub own_storage : Head → ℕ → ℕ → ℕ → ℕ → ℕ → Spot
own_storage p number serial low shift x = spot (to (variable number serial (low + (local_in p x).place) (shift + x)) 0)

abbrev pub begin_local : Env → ℕ → Value → Do (Unit {0})
begin_local env x v = begin_block (block_of env x) v

abbrev pub begin_maybe : Env → Option ℕ → Value → Do (Unit {0})
begin_maybe env (Some x) v = begin_local env x v
begin_maybe env None v = pure tt

-- `x` stands for another storage
abbrev pub alias : Env → Option ℕ → Spot → Env
alias env (Some x) s = record env { storage = (λ y. if y == x then s else env.storage y) }
alias env None s = env
