-- The core run: what a program does on an input, for a bound that counts finished nodes, begun calls
-- and begun loop turns. Beside the input it is given the word of each procedure.
use Rattle.std.specs.Prelude.{ℕ, zero, suc, ◌+◌, ◌-◌, ◌/◌, ◌%◌, ◌^◌, ◌==◌, Bool, false, List, [], ◌∷◌, ◌++◌, length, map, take, drop, Option, Some, None, slice_get, replicate, if◌then◌else◌}
use Rattle.std.specs.Int.{w64, cast_signed}
use Rattle.odc_text.specs.declared.check.Check.TheVariants.{Stack}
use Rattle.odc_text.specs.declared.place.Place.{Place}
use Rattle.odc_text.specs.Run.{End, exited, checked, strayed, going, out, err, call as called, Entry, Log, Ending, Run}
use Rattle.odc_core.specs.declared.tree.Descriptor.{Descriptor}
use Rattle.odc_core.specs.declared.tree.Descriptor.TheVariants.{Out, Err}
use Rattle.odc_core.specs.declared.tree.Variable.{Variable}
use Rattle.odc_core.specs.Tree.{Expr, const, slot, address, procedure, load, unary, binary, compare, call, call_value, Exprs, none, more, Stmt, eval, store, copy, zero_bytes, choose, repeat, leave, answer, check, read, write, exit, Stmts, finish, follow, Proc, Whole}
use Rattle.odc_core.specs.Words.{width_size, unary_word, binary_word, compare_words, number_of, bytes_of}
use Rattle.odc_core.specs.Memory.{Memory, all_in, loaded, put, stored}
use Rattle.odc_core.specs.Frames.{stack_end, touched_always, touched_in, variable_address, entered, has_room}
use Rattle.odc_core.specs.Program.{first_memory, called_by}

-- ---- the state of a run

pub record State : Type 0 where
  pub memory : Memory
  pub log : Log ℕ ℕ
  -- the input that is left, and the number of bytes that were taken of it
  pub input : List ℕ
  pub taken : ℕ
  -- what is left of the bound
  pub left : ℕ
  pub cost : ℕ

-- what a part of a run gives: a value, or the end of the run
pub data Res (A : Type 0) : Type 0 where
  ok : (value : A) (s : State) → Res A
  stop : (end : End) (s : State) → Res A

abbrev pub Act : Type 0 → Type 0
Act A = State → Res A

abbrev pub pure : {A : Type 0} → A → Act A
pure a s = ok a s

abbrev pub then_by : {A B : Type 0} → Res A → (A → Act B) → Res B
then_by (ok a s) f = f a s
then_by (stop end s) f = stop end s

abbrev pub ◌>>=◌ : {A B : Type 0} → Act A → (A → Act B) → Act B
◌>>=◌ m f s = then_by (m s) f

infixl 1 ◌>>=◌
-- one of the bound is used, at a cost of one; where none is left, the run goes on past it
abbrev pub spend_from : {A : Type 0} → ℕ → Act A → Act A
spend_from zero m s = stop going s
spend_from (suc left) m s = m (record s { left = left; cost = s.cost + 1 })

abbrev pub spend : {A : Type 0} → Act A → Act A
spend m s = spend_from s.left m s

-- a node counts when it has been finished
abbrev pub node : {A : Type 0} → Act A → Act A
node m = m >>= (λ v. spend (pure v))

-- every eight bytes that are moved or zeroed cost one, and so does a rest of them
abbrev pub moved : ℕ → ℕ
moved n = (n + 7) / 8

abbrev pub charge : ℕ → Act (Unit {0})
charge n s = ok tt (record s { cost = s.cost + n })

-- ---- what surrounds a node: the word of each procedure, the program, and the activation

pub record World : Type 0 where
  pub entries : ℕ → ℕ
  pub procedures : List Proc
  pub addresses : List ℕ

pub record Env : Type 0 where
  pub world : World
  -- the place of the procedure, at which it strays
  pub at : Place
  pub low : ℕ
  pub variables : List Variable
  pub touched : ℕ → Bool

abbrev pub stray : {A : Type 0} → Env → Act A
stray env s = stop (strayed env.at) s

-- a value that may be missing; where it is, the run strays
abbrev pub need : {A : Type 0} → Env → Option A → Act A
need env (Some a) = pure a
need env None = stray env

-- ---- memory

abbrev pub load_bytes : Env → ℕ → ℕ → Act (List ℕ)
load_bytes env a n s = (charge (moved n) >>= (λ _. need env (loaded env.touched s.memory a n))) s

abbrev pub remember : Env → Option Memory → Act (Unit {0})
remember env None = stray env
remember env (Some m) = λ s. ok tt (record s { memory = m })

abbrev pub store_bytes : Env → ℕ → List ℕ → Act (Unit {0})
store_bytes env a bytes s = (charge (moved (length bytes)) >>= (λ _. remember env (stored env.touched s.memory a bytes))) s

-- ---- the outside

abbrev pub entry_to : Descriptor → ℕ → Entry ℕ ℕ
entry_to Out b = out b
entry_to Err b = err b

-- every byte that is written costs one
abbrev pub write_bytes : Descriptor → List ℕ → Act (Unit {0})
write_bytes d bytes s = ok tt (record s { log = s.log ++ map (entry_to d) bytes; cost = s.cost + length bytes })

-- a read fills its buffer or takes all that is left; all of the buffer must be one that may be touched
abbrev pub read_bytes : Env → ℕ → ℕ → Act ℕ
read_bytes env a n s =
    if all_in env.touched a n
    then ok (length (take n s.input)) (record s {
      memory = put s.memory a (take n s.input);
      input = drop n s.input;
      taken = s.taken + length (take n s.input);
      cost = s.cost + moved (length (take n s.input));
    })
    else stray env s

-- ---- calls

-- what a call does, by the log entry that it gives, procedure, arguments, what the caller may touch,
-- and the caller's low end
abbrev pub Calls : Type 0
Calls = Option (Entry ℕ ℕ) → ℕ → List ℕ → (ℕ → Bool) → ℕ → Act ℕ

-- the log entry of an allocator call: the procedure's word and the six arguments
abbrev pub event_of : ℕ → List ℕ → Option (Entry ℕ ℕ)
event_of word (given ∷ mode ∷ size ∷ align ∷ old ∷ old_size ∷ []) = Some (called (record {
  procedure = word;
  given = given;
  mode = cast_signed w64 mode;
  size = cast_signed w64 size;
  align = cast_signed w64 align;
  old = old;
  old_size = cast_signed w64 old_size;
}))
event_of word _ = None

abbrev pub tell : Option (Entry ℕ ℕ) → Act (Unit {0})
tell None = pure tt
tell (Some e) = λ s. ok tt (record s { log = s.log ++ (e ∷ []) })

-- the procedure takes so many arguments
abbrev pub takes : ℕ → Option Proc → Bool
takes n (Some p) = p.parameters == n
takes n None = false

-- a call of a procedure that was found by its word
abbrev pub call_found : Calls → Env → ℕ → List ℕ → Bool → Option ℕ → Act ℕ
call_found calls env word vs marked None = stray env
call_found calls env word vs marked (Some f) =
    if takes (length vs) (slice_get env.world.procedures f)
    then (if marked then (need env (event_of word vs) >>= (λ e. calls (Some e) f vs env.touched env.low)) else calls None f vs env.touched env.low)
    else stray env

-- ---- expressions; operands and arguments are evaluated from left to right

abbrev mutual
  pub value_of : Calls → Env → Expr → Act ℕ
  value_of calls env (const word) = node (pure word)
  value_of calls env (slot x) = node (need env (variable_address env.low env.variables x))
  value_of calls env (address n) = node (need env (slice_get env.world.addresses n))
  value_of calls env (procedure f) = node (pure (env.world.entries f))
  value_of calls env (load width at) = node (value_of calls env at >>= (λ a. load_bytes env a (width_size width) >>= (λ bytes. pure (number_of bytes))))
  value_of calls env (unary op operand) = node (value_of calls env operand >>= (λ v. pure (unary_word op v)))
  value_of calls env (binary op left right) = node (value_of calls env left >>= (λ v. value_of calls env right >>= (λ w. pure (binary_word op v w))))
  value_of calls env (compare op left right) = node (value_of calls env left >>= (λ v. value_of calls env right >>= (λ w. pure (compare_words op v w))))
  value_of calls env (call f arguments) = node (values_of calls env arguments >>= (λ vs. calls None f vs env.touched env.low))
  value_of calls env (call_value target arguments marked) =
      node (value_of calls env target >>= (λ word. values_of calls env arguments >>= (λ vs.
      call_found calls env word vs marked (called_by env.world.entries 0 env.world.procedures word))))

  pub values_of : Calls → Env → Exprs → Act (List ℕ)
  values_of calls env none = pure []
  values_of calls env (more e es) = value_of calls env e >>= (λ v. values_of calls env es >>= (λ vs. pure (v ∷ vs)))

-- ---- statements

-- how a statement is left
pub data Flow : Type 0 where
  falls : Flow
  -- a loop is left, the innermost at 0
  leaves : (depth : ℕ) → Flow
  answers : (word : ℕ) → Flow

abbrev pub after : Flow → Act Flow → Act Flow
after falls rest = rest
after flow rest = pure flow

-- behind a turn of a loop
abbrev pub after_turn : Flow → Act Flow → Act Flow
after_turn falls rest = rest
after_turn (leaves zero) rest = pure falls
after_turn (leaves (suc depth)) rest = pure (leaves depth)
after_turn (answers word) rest = pure (answers word)

-- turns of a loop; one more than there are left of the bound is never begun
abbrev pub turns : ℕ → Act Flow → Act Flow
turns zero body = λ s. stop going s
turns (suc n) body = spend (body >>= (λ flow. after_turn flow (turns n body)))

abbrev mutual
  pub exec : ℕ → Calls → Env → Stmt → Act Flow
  exec n calls env (eval value) = node (value_of calls env value >>= (λ _. pure falls))
  exec n calls env (store width to value) =
      node (value_of calls env to >>= (λ a. value_of calls env value >>= (λ v. store_bytes env a (bytes_of (width_size width) v) >>= (λ _. pure falls))))
  exec n calls env (copy to from size) =
      node (value_of calls env to >>= (λ a. value_of calls env from >>= (λ b. value_of calls env size >>= (λ k.
      load_bytes env b k >>= (λ bytes. store_bytes env a bytes >>= (λ _. pure falls))))))
  exec n calls env (zero_bytes to size) =
      node (value_of calls env to >>= (λ a. value_of calls env size >>= (λ k. store_bytes env a (replicate k 0) >>= (λ _. pure falls))))
  exec n calls env (choose condition first second) = node (value_of calls env condition >>= (λ v. if v == 0 then exec_all n calls env second else exec_all n calls env first))
  exec n calls env (repeat body) = node (turns n (exec_all n calls env body))
  exec n calls env (leave depth) = node (pure (leaves depth))
  exec n calls env (answer value) = node (value_of calls env value >>= (λ v. pure (answers v)))
  exec n calls env (check condition which place) =
      node (value_of calls env condition >>= (λ v. if v == 0 then (λ s. stop (checked which place) s) else pure falls))
  exec n calls env (read to size count) =
      node (value_of calls env to >>= (λ a. value_of calls env size >>= (λ k. value_of calls env count >>= (λ c.
      read_bytes env a k >>= (λ came. store_bytes env c (bytes_of 8 came) >>= (λ _. pure falls))))))
  exec n calls env (write descriptor from size) =
      node (value_of calls env from >>= (λ a. value_of calls env size >>= (λ k. load_bytes env a k >>= (λ bytes. write_bytes descriptor bytes >>= (λ _. pure falls)))))
  exec n calls env (exit code) = node (value_of calls env code >>= (λ v s. stop (exited (v % 2 ^ 8)) s))

  pub exec_all : ℕ → Calls → Env → Stmts → Act Flow
  exec_all n calls env finish = pure falls
  exec_all n calls env (follow s ss) = exec n calls env s >>= (λ flow. after flow (exec_all n calls env ss))

-- ---- procedures

-- what a body that was left so answers
abbrev pub answered : Flow → ℕ
answered (answers word) = word
answered _ = 0

abbrev pub env_in : World → Proc → (ℕ → Bool) → ℕ → Env
env_in world p touched base = record {
  world = world;
  at = p.at;
  low = base - p.frame;
  variables = p.variables;
  touched = touched_in touched (base - p.frame) p.variables;
}

-- a body, in the frame below the caller's low end
abbrev pub body_run : World → ℕ → Calls → Proc → List ℕ → (ℕ → Bool) → ℕ → Act ℕ
body_run world n calls p vs touched base s =
    (exec_all n calls (env_in world p touched base) p.body >>= (λ flow. pure (answered flow)))
    (record s { memory = entered (base - p.frame) p.frame p.variables vs s.memory })

-- the stack check comes first; a program that names no procedure there, which is not well, goes on
abbrev pub enter : World → ℕ → Calls → Option Proc → List ℕ → (ℕ → Bool) → ℕ → Act ℕ
enter world n calls None vs touched base = λ s. stop going s
enter world n calls (Some p) vs touched base =
    if has_room base p.frame then body_run world n calls p vs touched base else (λ s. stop (checked Stack p.at) s)

-- a begun call, its log entry, and the procedure
abbrev pub calls_of : World → ℕ → Calls
calls_of world zero e f vs touched base = λ s. stop going s
calls_of world (suc n) e f vs touched base = spend (tell e >>= (λ _. enter world n (calls_of world n) (slice_get world.procedures f) vs touched base))

-- ---- a whole run

abbrev pub world_of : (ℕ → ℕ) → Whole → World
world_of entries p = record { entries = entries; procedures = p.procedures; addresses = p.addresses }

abbrev pub first_state : Whole → List ℕ → ℕ → State
first_state p input bound = record { memory = first_memory p.store p.store_size; log = []; input = input; taken = 0; left = bound; cost = 0 }

abbrev pub ending_at : End → State → Ending ℕ ℕ
ending_at end s = record { end = end; log = s.log; taken = s.taken; cost = s.cost }

abbrev pub ending : Res ℕ → Ending ℕ ℕ
ending (ok word s) = ending_at (exited 0) s
ending (stop end s) = ending_at end s

-- a program on an input, within a bound, where procedures have these words
abbrev pub core : (ℕ → ℕ) → Whole → Run ℕ ℕ
core entries p input bound =
    let world = world_of entries p in
    ending (enter world bound (calls_of world bound) (slice_get p.procedures p.main) [] (touched_always p.store_size) stack_end (first_state p input bound))
