-- The source run: what a program does on an input, for so many turns.
use Rattle.std.specs.Prelude.{ℕ, zero, suc, ◌+◌, ◌-◌, ◌/◌, ◌^◌, ◌==◌, not, Bool, nat_le, int_lt, int_div, int_rem, if◌then◌else◌, ℤ, pos, negsuc, ◌+ℤ◌, ◌-ℤ◌, ◌*ℤ◌, List, [], ◌∷◌, ◌++◌, length, map, Option, Some, None, slice_get, decimal}
use Rattle.std.specs.Int.{w64, int_wrap}
use Rattle.std.specs.Ordering.{int_eq}
use Rattle.odc_text.specs.declared.check.Check.TheVariants.{Division, Stack}
use Rattle.odc_text.specs.declared.place.Place.{Place}
use Rattle.odc_text.specs.Run.{End, exited, checked, strayed, going, out, Log, Ending, Run}
use Rattle.odc_typed.specs.declared.tree.Constant.{Constant}
use Rattle.odc_typed.specs.declared.tree.Constant.TheVariants.{Int, Bool as Truth}
use Rattle.odc_typed.specs.declared.tree.BinaryOp.{BinaryOp}
use Rattle.odc_typed.specs.declared.tree.BinaryOp.TheVariants.{Add, Subtract, Multiply, Divide, Remainder, Less, Equal}
use Rattle.odc_typed.specs.declared.tree.Local.{Local}
use Rattle.odc_typed.specs.declared.tree.Builtin.{Builtin}
use Rattle.odc_typed.specs.declared.tree.Builtin.TheVariants.{Println}
use Rattle.odc_typed.specs.Tree.{Expr, const, local, binary, call, builtin, Exprs, none, more, Stmt, eval, declare, assign, choose, repeat, answer, Stmts, finish, follow, Proc, Whole}
use Rattle.odc_typed.specs.Bytes.{Block, variable, Address, number, Value, number_of, int_bytes, int_of}
use Rattle.odc_typed.specs.Memory.{Memory, empty, load, store, open_block, close}
use Rattle.odc_typed.specs.Frame.{frame, stack_end, variable_place}

-- ---- the state of a run

pub record State : Type 0 where
  pub memory : Memory
  -- what the run left behind so far, the oldest first
  pub log : Log Address ℕ
  -- the input that is left, and the number of bytes that were taken of it
  pub input : List ℕ
  pub taken : ℕ
  -- the turns that are left
  pub left : ℕ
  pub cost : ℕ
  -- the serial number of the next activation
  pub serial : ℕ

-- what a part of a run gives: a value, or the end of the run
pub data Res (A : Type 0) : Type 0 where
  ok : (value : A) (s : State) → Res A
  stop : (end : End) (s : State) → Res A

-- a part of a run
abbrev pub Act : Type 0 → Type 0
Act A = State → Res A

abbrev pub pure : {A : Type 0} → A → Act A
pure a s = ok a s

abbrev pub then_by : {A B : Type 0} → Res A → (A → Act B) → Res B
then_by (ok a s) f = f a s
then_by (stop end s) f = stop end s

abbrev pub ◌>>=◌ : {A B : Type 0} → Act A → (A → Act B) → Act B
◌>>=◌ m f s = then_by (m s) f

infixl 1 ◌>>=◌
-- a turn is taken, at a cost of one; where none is left, the run goes on past its bound
abbrev pub turn_from : {A : Type 0} → ℕ → Act A → Act A
turn_from zero m s = stop going s
turn_from (suc left) m s = m (record s { left = left; cost = s.cost + 1 })

abbrev pub turn : {A : Type 0} → Act A → Act A
turn m s = turn_from s.left m s

-- every evaluated node costs one
abbrev pub tick : {A : Type 0} → Act A → Act A
tick m s = m (record s { cost = s.cost + 1 })

abbrev pub stray : {A : Type 0} → Place → Act A
stray at s = stop (strayed at) s

-- ---- memory: every eight bytes that are moved cost one, and so does a rest of them

abbrev pub moved : ℕ → ℕ
moved n = (n + 7) / 8

abbrev pub charge : ℕ → Act (Unit {0})
charge n s = ok tt (record s { cost = s.cost + n })

-- the value of so many bytes at an address
abbrev pub read_found : Place → ℕ → Option Value → Act Value
read_found at n (Some v) = charge (moved n) >>= (λ _. pure v)
read_found at n None = stray at

abbrev pub read_at : Place → Address → ℕ → Act Value
read_at at a n s = read_found at n (load s.memory a.block a.offset n) s

abbrev pub with_memory : Place → ℕ → Option Memory → Act (Unit {0})
with_memory at n (Some m) s = ok tt (record s { memory = m; cost = s.cost + moved n })
with_memory at n None s = stray at s

abbrev pub write_at : Place → Address → Value → Act (Unit {0})
write_at at a v s = with_memory at (length v) (store s.memory a.block a.offset v) s

-- a variable begins with a value
abbrev pub begin_with : Block → Value → Act (Unit {0})
begin_with b v s = ok tt (record s { memory = open_block s.memory b v; cost = s.cost + moved (length v) })

-- ---- printing: every byte costs one

abbrev pub print : List ℕ → Act (Unit {0})
print bytes s = ok tt (record s { log = s.log ++ map out bytes; cost = s.cost + length bytes })

-- an integer in decimal
abbrev pub int_text : ℤ → List ℕ
int_text (pos n) = decimal n
int_text (negsuc n) = 45 ∷ decimal (n + 1)

abbrev pub print_read : Place → Option ℤ → Act (Unit {0})
print_read at (Some z) = print (int_text z)
print_read at None = stray at

-- a value of type `int`; it strays where the bytes are no number
abbrev pub print_int : Place → Value → Act (Unit {0})
print_int at v = print_read at (int_of v)

-- the rest of a line, each value after a space, and the newline
abbrev pub print_rest : Place → List Value → Act (Unit {0})
print_rest at [] = print (10 ∷ [])
print_rest at (v ∷ vs) = print (32 ∷ []) >>= (λ _. print_int at v >>= (λ _. print_rest at vs))

abbrev pub print_line : Place → List Value → Act (Unit {0})
print_line at [] = print (10 ∷ [])
print_line at (v ∷ vs) = print_int at v >>= (λ _. print_rest at vs)

-- ---- what surrounds a node: the activation's serial number, the low end of its frame, and the
-- position of its first result

pub record Env : Type 0 where
  pub serial : ℕ
  pub low : ℕ
  pub result : ℕ

abbrev pub block_of : Env → ℕ → Block
block_of env x = variable env.serial (variable_place env.low x) x

abbrev pub address_of : Env → ℕ → Address
address_of env x = record { block = block_of env x; offset = 0 }

-- ---- expressions; operands and arguments are evaluated from left to right

-- a truth value is one byte
abbrev pub bool_bytes : Bool → Value
bool_bytes b = number (if b then 1 else 0) ∷ []

abbrev pub constant_value : Constant → Value
constant_value (Int value) = int_bytes value
constant_value (Truth value) = bool_bytes value

-- the exact result; it wraps to the one value of 64 bits that differs by a multiple of 2^64
abbrev pub exact : BinaryOp → ℤ → ℤ → ℤ
exact Add y z = y +ℤ z
exact Subtract y z = y -ℤ z
exact Multiply y z = y *ℤ z
exact Divide y z = int_div y z
exact Remainder y z = int_rem y z
exact Less y z = pos 0
exact Equal y z = pos 0

abbrev pub wrapped : BinaryOp → ℤ → ℤ → Value
wrapped op y z = int_bytes (int_wrap w64 (exact op y z))

-- a zero divisor stops the run
abbrev pub divided : Place → BinaryOp → ℤ → ℤ → Act Value
divided at op y z = if int_eq z (pos 0) then (λ s. stop (checked Division at) s) else pure (wrapped op y z)

-- the eight bytes that are compared cost one
abbrev pub compared : Bool → Act Value
compared b = charge (moved 8) >>= (λ _. pure (bool_bytes b))

abbrev pub result_of : Place → BinaryOp → ℤ → ℤ → Act Value
result_of at Divide y z = divided at Divide y z
result_of at Remainder y z = divided at Remainder y z
result_of at Less y z = compared (int_lt y z)
result_of at Equal y z = compared (int_eq y z)
result_of at op y z = pure (wrapped op y z)

abbrev pub operate_on : Place → BinaryOp → Option ℤ → Option ℤ → Act Value
operate_on at op (Some y) (Some z) = result_of at op y z
operate_on at op _ _ = stray at

-- it strays where the bytes of an operand are no number
abbrev pub operate : Place → BinaryOp → Value → Value → Act Value
operate at op v w = operate_on at op (int_of v) (int_of w)

-- a truth value is read as true where its byte isn't 0
abbrev pub read_bool : Place → Option ℕ → Act Bool
read_bool at (Some n) = pure (not (n == 0))
read_bool at None = stray at

-- what a call does, by procedure, arguments, and the low end of the caller's frame
abbrev pub Calls : Type 0
Calls = ℕ → List Value → ℕ → Act Value

abbrev pub call_builtin : Place → Builtin → List Value → Act Value
call_builtin at Println vs = print_line at vs >>= (λ _. pure [])

abbrev mutual
  pub value_of : Calls → Env → Expr → Act Value
  value_of calls env (const at value) = tick (pure (constant_value value))
  value_of calls env (local at x) = tick (read_at at (address_of env x) 8)
  value_of calls env (binary at op left right) = tick (value_of calls env left >>= (λ v. value_of calls env right >>= (λ w. operate at op v w)))
  value_of calls env (call at f arguments) = tick (values_of calls env arguments >>= (λ vs. calls f vs env.low))
  value_of calls env (builtin at which arguments) = tick (values_of calls env arguments >>= (λ vs. call_builtin at which vs))

  pub values_of : Calls → Env → Exprs → Act (List Value)
  values_of calls env none = pure []
  values_of calls env (more e es) = value_of calls env e >>= (λ v. values_of calls env es >>= (λ vs. pure (v ∷ vs)))

abbrev pub truth_of : Calls → Env → Place → Expr → Act Bool
truth_of calls env at e = value_of calls env e >>= (λ v. read_bool at (number_of v))

-- a place as an address; what isn't one strays
abbrev pub address_at : Env → Expr → Act Address
address_at env (local at x) = tick (pure (address_of env x))
address_at env (const at value) = tick (stray at)
address_at env (binary at op left right) = tick (stray at)
address_at env (call at f arguments) = tick (stray at)
address_at env (builtin at which arguments) = tick (stray at)

-- ---- statements

-- how a statement is left
pub data Flow : Type 0 where
  falls : Flow
  returns : Flow

abbrev pub after : Flow → Act Flow → Act Flow
after falls rest = rest
after returns rest = pure returns

-- turns of a loop: each starts when its condition has been found true; one more than there are left is
-- never begun
abbrev pub turns_while : ℕ → Act Bool → Act Flow → Act Flow
turns_while zero test body = test >>= (λ b. if b then (λ s. stop going s) else pure falls)
turns_while (suc n) test body = test >>= (λ b. if b then turn (body >>= (λ flow. after flow (turns_while n test body))) else pure falls)

-- an assignment evaluates its value, and then finds its place; a value that is answered goes to the result
abbrev mutual
  pub exec : ℕ → Calls → Env → Stmt → Act Flow
  exec n calls env (eval at value) = tick (value_of calls env value >>= (λ _. pure falls))
  exec n calls env (declare at x value) = tick (value_of calls env value >>= (λ v. begin_with (block_of env x) v >>= (λ _. pure falls)))
  exec n calls env (assign at target value) =
      tick (value_of calls env value >>= (λ v. address_at env target >>= (λ a. write_at at a v >>= (λ _. pure falls))))
  exec n calls env (choose at condition body) = tick (truth_of calls env at condition >>= (λ b. if b then exec_all n calls env body else pure falls))
  exec n calls env (repeat at condition body) = tick (turns_while n (truth_of calls env at condition) (exec_all n calls env body))
  exec n calls env (answer at value) =
      tick (value_of calls env value >>= (λ v. write_at at (address_of env env.result) v >>= (λ _. pure returns)))

  pub exec_all : ℕ → Calls → Env → Stmts → Act Flow
  exec_all n calls env finish = pure falls
  exec_all n calls env (follow s ss) = exec n calls env s >>= (λ flow. after flow (exec_all n calls env ss))

-- ---- procedures

-- the parameters begin with the arguments
abbrev pub begin_all : Env → ℕ → List Value → Act (Unit {0})
begin_all env x [] = pure tt
begin_all env x (v ∷ vs) = begin_with (block_of env x) v >>= (λ _. begin_all env (x + 1) vs)

-- and a result with zeros
abbrev pub begin_results : Env → List Local → Act (Unit {0})
begin_results env [] = pure tt
begin_results env (r ∷ rs) = begin_with (block_of env env.result) (int_bytes (pos 0))

-- what a body answers: the result as it stands
abbrev pub answer_of : Env → Place → List Local → Act Value
answer_of env at [] = pure []
answer_of env at (r ∷ rs) = read_at at (address_of env env.result) 8

-- the blocks of an activation end with it
abbrev pub end_of : ℕ → Value → Act Value
end_of serial v s = ok v (record s { memory = close s.memory serial })

abbrev pub env_of : Proc → ℕ → ℕ → Env
env_of p base serial = record { serial = serial; low = base - frame p; result = length p.parameters }

abbrev pub body_run : ℕ → Calls → Proc → List Value → Env → Act Value
body_run n calls p vs env =
    begin_all env 0 vs >>= (λ _. begin_results env p.results >>= (λ _.
    exec_all n calls env p.body >>= (λ _. answer_of env p.at p.results >>= (λ v. end_of env.serial v))))

-- each activation has a serial number of its own
abbrev pub numbered : (ℕ → Act Value) → Act Value
numbered m s = m s.serial (record s { serial = s.serial + 1 })

-- the frames in sum pass the stack, which is checked first; each called frame lies directly below its
-- caller's, so they reach from the end of the stack down to the low end of the last one
abbrev pub stack_size : ℕ
stack_size = 2 ^ 27

abbrev pub has_room : ℕ → ℕ → Bool
has_room base size = nat_le (stack_end - base + size) stack_size

-- a program without a procedure that it names, which is not well, goes on
abbrev pub enter : ℕ → Calls → Option Proc → List Value → ℕ → Act Value
enter n calls None vs base = λ s. stop going s
enter n calls (Some p) vs base =
    if has_room base (frame p) then numbered (λ serial. body_run n calls p vs (env_of p base serial)) else (λ s. stop (checked Stack p.at) s)

-- a call takes a turn; one more than there are left is never begun
abbrev pub calls_of : List Proc → ℕ → Calls
calls_of ps zero f vs base = λ s. stop going s
calls_of ps (suc n) f vs base = turn (enter n (calls_of ps n) (slice_get ps f) vs base)

-- ---- a whole run: `main` is entered without a turn, and where it returns the program exits with 0

abbrev pub first_state : List ℕ → ℕ → State
first_state input turns = record {
  memory = empty;
  log = [];
  input = input;
  taken = 0;
  left = turns;
  cost = 0;
  serial = 0;
}

abbrev pub ending_at : End → State → Ending Address ℕ
ending_at end s = record { end = end; log = s.log; taken = s.taken; cost = s.cost }

abbrev pub ending : Res Value → Ending Address ℕ
ending (ok v s) = ending_at (exited 0) s
ending (stop end s) = ending_at end s

-- at most so many turns of a program on this input
abbrev pub source : Whole → Run Address ℕ
source p input turns = ending (enter turns (calls_of p.procedures turns) (slice_get p.procedures p.main) [] stack_end (first_state input turns))
