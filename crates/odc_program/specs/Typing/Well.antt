-- The programs that typing gives: each node has the type that its rule gives it, and everything that it names is there.
use Rattle.std.specs.Prelude.{ℕ, zero, suc, ◌+◌, ◌-◌, ◌*◌, ◌==◌, ◌&&◌, ◌||◌, not, Bool, true, false, nat_le, nat_lt, int_le, int_lt, if◌then◌else◌, ℤ, pos, List, [], ◌∷◌, ◌++◌, length, take, drop, max, get_or, Option, Some, None, slice_get, codes}
use Rattle.std.specs.Ordering.{int_eq}
use Rattle.odc_program.specs.declared.ops.Taken.{Taken}
use Rattle.odc_program.specs.declared.ops.UnaryOp.{UnaryOp}
use Rattle.odc_program.specs.declared.ops.UnaryOp.TheVariants as un
use Rattle.odc_program.specs.declared.ops.BinaryOp.{BinaryOp}
use Rattle.odc_program.specs.declared.ops.BinaryOp.TheVariants as op
use Rattle.odc_program.specs.declared.ops.Builtin.{Builtin}
use Rattle.odc_program.specs.declared.ops.Builtin.TheVariants as b
use Rattle.odc_program.specs.declared.ops.Constant.TheVariants as con
use Rattle.odc_text.specs.declared.place.Place.{Place}
use Rattle.odc_program.specs.Trees.Tree
use Rattle.odc_program.specs.Trees.Tree.{Expr, expr, Kind, Exprs, none, more, Maybe, absent, present, Parts, no_parts, part, ty, tys, in_order, Lefts, no_lefts, left_, dropped, Rights, nothing, each, parted, Items, no_items, item, span, Over, from_to, through, Stmt, stmt, Form, MaybeStmt, no_stmt, some_stmt, Stmts, finish, follow, Cases, no_cases, one_case, default_case, TypeCases, no_types, type_case, default_type}
use Rattle.odc_program.specs.Trees.Program.{Part, Shape, truth, text, array, slice, dynamic, soa_array, soa_slice, soa_dynamic, fields, variants, names, procedure, Local, Head, Global, Literal, Tables, Helper, Body, Program}
use Rattle.odc_program.specs.States.State.{Env, size_of, shape_of, base_type, local_of}
use Rattle.odc_program.specs.Kinds.Layouts.{parts_in}
use Rattle.odc_program.specs.Kinds.Places.{home_type}
use Rattle.odc_program.specs.Kinds.Calling.{last_or, before_last}
use Rattle.odc_program.specs.Kinds.Builtins.{target_of}
use Rattle.odc_program.specs.Runs.Source.{env_of, env_in}
use Rattle.odc_program.specs.States.Bytes.{Block, literal, Byte, number, of_address, of_procedure}
use Rattle.odc_program.specs.Typing.WellTypes
use Rattle.odc_program.specs.Typing.Gathered.{begun_in, helped_in}

-- ---- what stands as a place: an address, an element in columns, or a part of the context
pub data Stand : Type 0 where
  nowhere : Stand
  somewhere : Stand
  in_columns : Stand
  of_context : Stand

abbrev pub field_stands : Stand → Stand
field_stands in_columns = somewhere
field_stands s = s

abbrev pub in_fixed : Stand → Stand
in_fixed somewhere = in_columns
in_fixed s = nowhere

abbrev pub element_stands : Shape → Stand → Stand
element_stands (array e n) s = s
element_stands (soa_array e n) s = in_fixed s
element_stands (soa_slice e) s = in_columns
element_stands (soa_dynamic e) s = in_columns
element_stands text s = nowhere
element_stands _ s = somewhere

abbrev pub column_stands : Shape → Stand → Stand
column_stands (soa_array e n) s = s
column_stands _ s = nowhere

abbrev pub built_stands : Shape → Option ℕ → Stand
built_stands (slice e) home = nowhere
built_stands _ None = nowhere
built_stands _ (Some x) = somewhere

abbrev mutual
  pub stands : Env → Expr → Stand
  stands env (expr t at k) = kind_stands env t k

  pub kind_stands : Env → ℕ → Kind → Stand
  kind_stands env t (Tree.local x) = somewhere
  kind_stands env t (Tree.global_ g) = somewhere
  kind_stands env t (Tree.deref e) = somewhere
  kind_stands env t Tree.context = of_context
  kind_stands env t (Tree.field e n) = field_stands (stands env e)
  kind_stands env t (Tree.index e i) = element_stands (shape_of env (ty e)) (stands env e)
  kind_stands env t (Tree.column e n) = column_stands (shape_of env (ty e)) (stands env e)
  kind_stands env t (Tree.build home ps) = built_stands (shape_of env t) home
  kind_stands env t _ = nowhere

abbrev pub is_somewhere : Stand → Bool
is_somewhere somewhere = true
is_somewhere _ = false

abbrev pub can_be_stored : Stand → Bool
can_be_stored nowhere = false
can_be_stored _ = true

-- an array is cut, or run over by place, where it lies
abbrev pub lies_if_fixed : Shape → Stand → Bool
lies_if_fixed (array e n) s = is_somewhere s
lies_if_fixed (soa_array e n) s = is_somewhere s
lies_if_fixed _ s = true

-- ---- the rules of the kinds, given the types of the parts
abbrev pub index_type : Env → Shape → ℕ → Bool
index_type env text t = WellTypes.is_byte env t
index_type env s t = WellTypes.is_there (WellTypes.element_in s) (λ e. e == t)

abbrev pub cut_type : Env → Shape → Shape → Bool
cut_type env text s = WellTypes.is_text s
cut_type env (array e n) s = WellTypes.is_slice_of e s
cut_type env (slice e) s = WellTypes.is_slice_of e s
cut_type env (dynamic e) s = WellTypes.is_slice_of e s
cut_type env (soa_array e n) s = WellTypes.is_columns_of e s
cut_type env (soa_slice e) s = WellTypes.is_columns_of e s
cut_type env (soa_dynamic e) s = WellTypes.is_columns_of e s
cut_type env _ s = false

abbrev pub column_type : Env → Shape → ℕ → Shape → Bool
column_type env (soa_array r n) k s = WellTypes.is_there (slice_get (parts_in (shape_of env r)) k) (λ p. WellTypes.is_array_of p.ty n s)
column_type env (soa_slice r) k s = WellTypes.is_there (slice_get (parts_in (shape_of env r)) k) (λ p. WellTypes.is_slice_of p.ty s)
column_type env (soa_dynamic r) k s = WellTypes.is_there (slice_get (parts_in (shape_of env r)) k) (λ p. WellTypes.is_slice_of p.ty s)
column_type env _ k s = false

abbrev pub call_type : Env → Shape → List ℕ → ℕ → Bool
call_type env (procedure odin ps rs) ts t = WellTypes.same_list ts ps && WellTypes.same_list (WellTypes.values_in env t) rs
call_type env _ ts t = false

abbrev pub need_of : Env → ℕ → (Head → Bool) → Bool
need_of env n f = WellTypes.is_there (slice_get env.proc.needs n) (λ g. WellTypes.is_there (slice_get env.tables.procedures g) f)

-- a value as a type takes it: the same, a pointer as a raw one, or a variant as its union
abbrev pub takes : Env → ℕ → Option ℕ → ℕ → Bool
takes env u None t = (u == t) || (WellTypes.is_pointer (shape_of env u) && WellTypes.is_raw (shape_of env t))
takes env u (Some n) t = WellTypes.is_variant env t n u

abbrev pub last_result_type : Env → ℕ
last_result_type env = (local_of env (env.proc.parameters + env.proc.results - 1)).ty

abbrev pub but_last : List ℕ → List ℕ
but_last [] = []
but_last (t ∷ ts) = before_last t ts

abbrev pub goes_on_by : Shape → Bool
goes_on_by truth = true
goes_on_by (names w es) = true
goes_on_by s = WellTypes.has_nil s

abbrev pub or_return_type : Env → ℕ → Option ℕ → List ℕ → Bool
or_return_type env t variant ts =
    goes_on_by (shape_of env (last_or 0 ts)) && (WellTypes.same_list (WellTypes.values_in env t) (but_last ts) && (nat_lt 0 env.proc.results && takes env (last_or 0 ts) variant (last_result_type env)))

abbrev pub unary_type : Env → UnaryOp → ℕ → ℕ → Bool
unary_type env un.Not u t = (u == t) && WellTypes.is_truth (shape_of env t)
unary_type env _ u t = (u == t) && WellTypes.is_whole (shape_of env t)

-- values of these types can be compared; those of others with a nil can be compared with nil
abbrev pub is_alike : Shape → Bool
is_alike truth = true
is_alike text = true
is_alike (names w es) = true
is_alike (procedure odin ps rs) = true
is_alike s = WellTypes.is_whole s || WellTypes.is_pointer s

abbrev pub is_compared : Shape → Bool
is_compared s = is_alike s || WellTypes.has_nil s

abbrev pub is_ordered : Shape → Bool
is_ordered text = true
is_ordered s = WellTypes.is_number s

-- the operators that may stand before the `=` of an assignment
abbrev pub is_assigning : BinaryOp → Bool
is_assigning op.AndAlso = false
is_assigning op.OrElse = false
is_assigning op.Equal = false
is_assigning op.Unequal = false
is_assigning op.Less = false
is_assigning op.Greater = false
is_assigning op.AtMost = false
is_assigning op.AtLeast = false
is_assigning _ = true

abbrev pub binary_type : Env → BinaryOp → ℕ → ℕ → ℕ → Bool
binary_type env op.AndAlso u v t = (u == v) && ((u == t) && WellTypes.is_truth (shape_of env t))
binary_type env op.OrElse u v t = (u == v) && ((u == t) && WellTypes.is_truth (shape_of env t))
binary_type env op.Equal u v t = (u == v) && (is_compared (shape_of env u) && WellTypes.is_truth (shape_of env t))
binary_type env op.Unequal u v t = (u == v) && (is_compared (shape_of env u) && WellTypes.is_truth (shape_of env t))
binary_type env op.Less u v t = (u == v) && (is_ordered (shape_of env u) && WellTypes.is_truth (shape_of env t))
binary_type env op.Greater u v t = (u == v) && (is_ordered (shape_of env u) && WellTypes.is_truth (shape_of env t))
binary_type env op.AtMost u v t = (u == v) && (is_ordered (shape_of env u) && WellTypes.is_truth (shape_of env t))
binary_type env op.AtLeast u v t = (u == v) && (is_ordered (shape_of env u) && WellTypes.is_truth (shape_of env t))
binary_type env op.ShiftLeft u v t = (u == t) && (WellTypes.is_integer (shape_of env t) && WellTypes.is_integer (shape_of env v))
binary_type env op.ShiftRight u v t = (u == t) && (WellTypes.is_integer (shape_of env t) && WellTypes.is_integer (shape_of env v))
binary_type env _ u v t = (u == v) && ((u == t) && WellTypes.is_whole (shape_of env t))

abbrev pub convert_type : Env → ℕ → ℕ → Bool
convert_type env u t =
    (WellTypes.is_number (shape_of env u) && WellTypes.is_number (shape_of env t)) ||
    ((base_type env u == base_type env t) ||
    ((WellTypes.is_pointer (shape_of env u) && WellTypes.is_pointer (shape_of env t)) || (WellTypes.is_byte_slice env u && WellTypes.is_text (shape_of env t))))

abbrev pub test_type : Env → ℕ → ℕ → List ℕ → Bool
test_type env u n (t ∷ ok ∷ []) = WellTypes.is_variant env u n t && WellTypes.is_truth (shape_of env ok)
test_type env u n _ = false

-- parts of a built value: fields at their offsets, elements at theirs, records at their indices
abbrev pub is_part_of : Env → ℕ → ℕ → List Part → Bool
is_part_of env d t [] = false
is_part_of env d t (p ∷ ps) = ((p.offset == d) && (p.ty == t)) || is_part_of env d t ps

abbrev pub is_element_at : ℕ → ℕ → ℕ → Bool
is_element_at d size zero = false
is_element_at d size (suc n) = (d == n * size) || is_element_at d size n

abbrev pub part_type : Env → Shape → ℕ → ℕ → Bool
part_type env (fields ps) d t = is_part_of env d t ps
part_type env (array e n) d t = (e == t) && is_element_at d (size_of env e) n
part_type env (soa_array r n) d t = (r == t) && nat_lt d n
part_type env _ d t = false

-- no two parts of more than no bytes stand at one place
abbrev pub has_part_at : Env → ℕ → Parts → Bool
has_part_at env d no_parts = false
has_part_at env d (part at e ps) = ((d == at) && nat_lt 0 (size_of env (ty e))) || has_part_at env d ps

abbrev pub parts_apart : Env → Parts → Bool
parts_apart env no_parts = true
parts_apart env (part d e ps) = (not (nat_lt 0 (size_of env (ty e))) || not (has_part_at env d ps)) && parts_apart env ps

-- a value is built in a local of its own type, a slice over a local that is an array of its elements
abbrev pub is_home : Env → Shape → ℕ → ℕ → Bool
is_home env (slice e) t u = is_array_over (shape_of env u)
  where
    is_array_over : Shape → Bool
    is_array_over (array f n) = e == f
    is_array_over s = false
is_home env s t u = t == u

abbrev pub build_type : Env → ℕ → Option ℕ → Bool
build_type env t None = true
build_type env t (Some x) = WellTypes.is_there (slice_get env.proc.locals x) (λ l. is_home env (shape_of env t) t l.ty)

-- ---- built-in procedures
abbrev pub value_first : Env → ℕ → (ℕ → Bool) → List ℕ → Bool
value_first env t f (u ∷ []) = f u
value_first env t f (u ∷ e ∷ []) = f u && WellTypes.is_error env e
value_first env t f _ = false

abbrev pub is_answer : Env → ℕ → List ℕ → Bool
is_answer env t (u ∷ e ∷ []) = WellTypes.is_int env u && WellTypes.is_number (shape_of env e)
is_answer env t _ = false

abbrev pub at_most_allocator : Env → List ℕ → Bool
at_most_allocator env [] = true
at_most_allocator env (u ∷ []) = WellTypes.is_allocator env u
at_most_allocator env _ = false

abbrev pub dynamic_at : Env → ℕ → Bool
dynamic_at env t = WellTypes.points_to (target_of env t) (shape_of env t) && WellTypes.is_dynamic (shape_of env (target_of env t))

abbrev pub make_counts : Env → Bool → List ℕ → Bool
make_counts env true [] = true
make_counts env true (n ∷ []) = WellTypes.is_int env n
make_counts env true (n ∷ c ∷ rest) = WellTypes.is_int env n && (WellTypes.is_int env c && at_most_allocator env rest)
make_counts env false (n ∷ rest) = WellTypes.is_int env n && at_most_allocator env rest
make_counts env false [] = false

abbrev pub make_type : Env → List ℕ → ℕ → Bool
make_type env ts u = (WellTypes.is_dynamic (shape_of env u) || WellTypes.is_slice (shape_of env u)) && make_counts env (WellTypes.is_dynamic (shape_of env u)) ts

abbrev pub delete_type : Env → ℕ → List ℕ → Bool
delete_type env u rest =
    (WellTypes.is_dynamic (shape_of env u) && WellTypes.same_list rest []) ||
    ((WellTypes.is_slice (shape_of env u) || WellTypes.is_text (shape_of env u)) && at_most_allocator env rest)

abbrev pub has_length : Shape → Bool
has_length text = true
has_length s = WellTypes.is_there (WellTypes.element_in s) (λ e. true)

abbrev pub builtin_type : Env → Builtin → List ℕ → ℕ → Bool
builtin_type env b.Print ts t = WellTypes.gives_nothing env t && WellTypes.every (λ u. WellTypes.is_printed (shape_of env u)) ts
builtin_type env b.Println ts t = WellTypes.gives_nothing env t && WellTypes.every (λ u. WellTypes.is_printed (shape_of env u)) ts
builtin_type env b.Read (u ∷ v ∷ []) t = WellTypes.is_int env u && (WellTypes.is_byte_slice env v && is_answer env t (WellTypes.values_in env t))
builtin_type env b.Write (u ∷ v ∷ []) t = WellTypes.is_int env u && (WellTypes.is_byte_slice env v && is_answer env t (WellTypes.values_in env t))
builtin_type env b.Exit (u ∷ []) t = WellTypes.is_int env u && WellTypes.gives_nothing env t
builtin_type env b.Len (u ∷ []) t = has_length (shape_of env u) && WellTypes.is_int env t
builtin_type env b.Cap (u ∷ []) t = WellTypes.is_dynamic (shape_of env u) && WellTypes.is_int env t
builtin_type env b.RawData (u ∷ []) t = (WellTypes.is_dynamic (shape_of env u) || (WellTypes.is_slice (shape_of env u) || WellTypes.is_text (shape_of env u))) && WellTypes.is_raw (shape_of env t)
builtin_type env b.Min (u ∷ v ∷ []) t = (u == v) && ((u == t) && WellTypes.is_integer (shape_of env t))
builtin_type env b.Max (u ∷ v ∷ []) t = (u == v) && ((u == t) && WellTypes.is_integer (shape_of env t))
builtin_type env b.Abs (u ∷ []) t = (u == t) && WellTypes.is_integer (shape_of env t)
builtin_type env b.Copy (u ∷ v ∷ []) t = WellTypes.is_int env t && (WellTypes.is_slice (shape_of env u) && ((u == v) || (WellTypes.is_byte_slice env u && WellTypes.is_text (shape_of env v))))
builtin_type env b.Assert (u ∷ []) t = WellTypes.is_truth (shape_of env u) && WellTypes.gives_nothing env t
builtin_type env b.Panic (u ∷ []) t = WellTypes.is_text (shape_of env u) && WellTypes.gives_nothing env t
builtin_type env b.Clear (u ∷ []) t = dynamic_at env u && WellTypes.gives_nothing env t
builtin_type env b.Pop (u ∷ []) t = dynamic_at env u && WellTypes.is_there (WellTypes.element_in (shape_of env (target_of env u))) (λ e. e == t)
builtin_type env b.OrderedRemove (u ∷ v ∷ []) t = dynamic_at env u && (WellTypes.is_int env v && WellTypes.gives_nothing env t)
builtin_type env b.UnorderedRemove (u ∷ v ∷ []) t = dynamic_at env u && (WellTypes.is_int env v && WellTypes.gives_nothing env t)
builtin_type env b.HeapRegion [] t = WellTypes.is_byte_slice env t
builtin_type env b.TempRegion [] t = WellTypes.is_byte_slice env t
builtin_type env b.ByteSlice (u ∷ v ∷ []) t = WellTypes.is_pointer (shape_of env u) && (WellTypes.is_int env v && WellTypes.is_byte_slice env t)
builtin_type env b.New ts t = at_most_allocator env ts && value_first env t (λ u. WellTypes.points_to (target_of env u) (shape_of env u)) (WellTypes.values_in env t)
builtin_type env b.Make ts t = value_first env t (make_type env ts) (WellTypes.values_in env t)
builtin_type env b.Append (u ∷ v ∷ vs) t =
    dynamic_at env u && (WellTypes.is_there (WellTypes.element_in (shape_of env (target_of env u))) (λ e. WellTypes.every (λ w. w == e) (v ∷ vs)) && value_first env t (WellTypes.is_int env) (WellTypes.values_in env t))
builtin_type env b.Reserve (u ∷ v ∷ []) t = dynamic_at env u && (WellTypes.is_int env v && WellTypes.is_error env t)
builtin_type env b.Resize (u ∷ v ∷ []) t = dynamic_at env u && (WellTypes.is_int env v && WellTypes.is_error env t)
builtin_type env b.Delete (u ∷ rest) t = delete_type env u rest && WellTypes.is_error env t
builtin_type env b.Free (u ∷ rest) t = WellTypes.is_pointer (shape_of env u) && (at_most_allocator env rest && WellTypes.is_error env t)
builtin_type env b.FreeAll ts t = at_most_allocator env ts && WellTypes.is_error env t
builtin_type env _ ts t = false

-- ---- what stands round a node: the helpers that it may call, the variables that have begun, the ways out of its
-- statement, and whether there is a context
pub record Ways : Type 0 where
  pub helpers : List Head
  pub begun : List ℕ
  -- those of them that can't be assigned: parameters, and names of loops and of type switches
  pub fixed : List ℕ
  -- and those that are elements of a container in columns
  pub columns : List ℕ
  -- of all statements around it
  pub labels : List ℕ
  pub breaks : List ℕ
  pub continues : List ℕ
  -- in a case of a switch, before another case
  pub falls : Bool
  -- not in a deferred statement
  pub returns : Bool
  -- in a helper
  pub counts : Bool
  pub context : Bool

abbrev pub breaking : ℕ → Ways → Ways
breaking l w = record w { labels = l ∷ w.labels; breaks = l ∷ w.breaks }

abbrev pub looping : ℕ → Ways → Ways
looping l w = record w { labels = l ∷ w.labels; breaks = l ∷ w.breaks; continues = l ∷ w.continues }

-- a label is none of those around it
abbrev pub is_new : ℕ → Ways → Bool
is_new l w = not (WellTypes.has l w.labels)

-- names that begin with a statement or a case
abbrev pub begins_names : List (Option ℕ) → Ways → Ways
begins_names [] w = w
begins_names (None ∷ xs) w = begins_names xs w
begins_names (Some x ∷ xs) w = begins_names xs (record w { begun = x ∷ w.begun })

-- names that can't be assigned
abbrev pub begins_fixed : Option ℕ → Ways → Ways
begins_fixed None w = w
begins_fixed (Some x) w = record w { begun = x ∷ w.begun; fixed = x ∷ w.fixed }

abbrev pub falling : Bool → Ways → Ways
falling f w = record w { falls = f }

-- a deferred statement leaves nothing that it doesn't begin
abbrev pub deferred : Ways → Ways
deferred w = record w { breaks = []; continues = []; falls = false; returns = false }

abbrev pub begins_context : Lefts → Bool
begins_context no_lefts = false
begins_context (left_ (expr t at Tree.context) es) = true
begins_context (left_ e es) = begins_context es
begins_context (dropped es) = begins_context es

-- a deferred declaration gives its names to the scope around it
abbrev pub names_declared : Stmt → List (Option ℕ)
names_declared (stmt at (Tree.declare xs values)) = xs
names_declared (stmt at (Tree.defer s)) = names_declared s
names_declared s = []

-- what stands behind an assignment to the context, in its scope, has one; what stands behind a declaration sees its names
abbrev pub behind : Stmt → Ways → Ways
behind (stmt at (Tree.assign lefts values)) w = record w { context = w.context || begins_context lefts }
behind (stmt at (Tree.declare xs values)) w = begins_names xs w
behind (stmt at (Tree.defer s)) w = begins_names (names_declared s) w
behind s w = w

abbrev pub behind_maybe : MaybeStmt → Ways → Ways
behind_maybe no_stmt w = w
behind_maybe (some_stmt s) w = behind s w

abbrev pub is_odin : Shape → Bool
is_odin (procedure odin ps rs) = odin
is_odin s = false

abbrev pub names_allocator : Env → List ℕ → Bool
names_allocator env [] = false
names_allocator env (t ∷ ts) = WellTypes.is_allocator env t || names_allocator env ts

-- built-in procedures that hand their place to an allocator
abbrev pub hands_place : Builtin → Bool
hands_place b.New = true
hands_place b.Make = true
hands_place b.Append = true
hands_place b.Reserve = true
hands_place b.Resize = true
hands_place b.Delete = true
hands_place b.Free = true
hands_place b.FreeAll = true
hands_place _ = false

-- built-in procedures that need a context: those that print, and those that ask its allocator
abbrev pub asks_context : Env → Builtin → List ℕ → Bool
asks_context env b.Print ts = true
asks_context env b.Println ts = true
asks_context env b.Append ts = true
asks_context env b.Reserve ts = true
asks_context env b.Resize ts = true
asks_context env b.New ts = not (names_allocator env ts)
asks_context env b.Make ts = not (names_allocator env ts)
asks_context env b.Free ts = not (names_allocator env ts)
asks_context env b.FreeAll ts = not (names_allocator env ts)
asks_context env b.Delete (t ∷ ts) = not (WellTypes.is_dynamic (shape_of env t) || names_allocator env ts)
asks_context env _ ts = false

abbrev pub numbers_below : ℕ → List ℕ
numbers_below zero = []
numbers_below (suc n) = n ∷ numbers_below n

-- a helper prints, and asks no allocator
abbrev pub can_ask : Ways → Env → Builtin → List ℕ → Bool
can_ask w env which ts = if w.counts then not (hands_place which) else ((w.context || not (asks_context env which ts)) && (not (hands_place which) || WellTypes.has_allocators env))

-- ---- operands that one type alone doesn't tell
abbrev pub is_nil : Expr → Bool
is_nil (expr t at (Tree.const con.Nil)) = true
is_nil e = false

abbrev pub is_natural : Expr → Bool
is_natural (expr t at (Tree.const (con.Int (pos n)))) = true
is_natural e = false

-- two values of a type, or one and nil
abbrev pub compares : Env → Expr → Expr → Bool
compares env e f = is_alike (shape_of env (ty e)) || (is_nil e || is_nil f)

-- a count is unsigned, or a constant that isn't negative
abbrev pub counts_bits : Env → Expr → Bool
counts_bits env e = not (WellTypes.is_signed (shape_of env (ty e))) || is_natural e

abbrev pub operands : Env → BinaryOp → Expr → Expr → Bool
operands env op.Equal e f = compares env e f
operands env op.Unequal e f = compares env e f
operands env op.ShiftLeft e f = counts_bits env f
operands env op.ShiftRight e f = counts_bits env f
operands env _ e f = true

-- each argument is taken once
abbrev pub is_order : List ℕ → List ℕ → Bool
is_order [] ts = true
is_order order ts = (length order == length ts) && (WellTypes.every (WellTypes.below (length ts)) order && WellTypes.once order)

-- ---- the path of each node's file is there; where its place is a value, so is the literal of the path
abbrev pub has_path : Env → Place → Bool
has_path env at = nat_lt at.file.number (length env.tables.paths)

abbrev pub has_literal : Env → Place → Bool
has_literal env at =
    WellTypes.is_there (slice_get env.tables.literals (env.tables.files + at.file.number)) (λ l. WellTypes.is_there (slice_get env.tables.paths at.file.number) (λ p. WellTypes.same_list l.bytes p))

abbrev pub is_located : Env → Place → Kind → Bool
is_located env at Tree.location = has_literal env at
is_located env at (Tree.builtin which order es) = has_path env at && (not (hands_place which) || has_literal env at)
is_located env at k = has_path env at

-- ---- what can't be assigned: parts of a parameter, or of a name of a loop or a type switch
abbrev pub lies_in : Shape → Bool → Bool
lies_in (array e n) f = f
lies_in (soa_array e n) f = f
lies_in _ f = false

abbrev mutual
  pub is_part_of_one : Env → List ℕ → Expr → Bool
  is_part_of_one env xs (expr t at k) = kind_is_part_of_one env xs k

  pub kind_is_part_of_one : Env → List ℕ → Kind → Bool
  kind_is_part_of_one env xs (Tree.local x) = WellTypes.has x xs
  kind_is_part_of_one env xs (Tree.field e n) = is_part_of_one env xs e
  kind_is_part_of_one env xs (Tree.index e i) = lies_in (shape_of env (ty e)) (is_part_of_one env xs e)
  kind_is_part_of_one env xs (Tree.column e n) = lies_in (shape_of env (ty e)) (is_part_of_one env xs e)
  kind_is_part_of_one env xs _ = false

abbrev pub can_change : Ways → Env → Expr → Bool
can_change w env e = can_be_stored (stands env e) && not (is_part_of_one env w.fixed e)

-- an array is cut, or run over by place, where it lies, and not in one of these variables
abbrev pub can_be_cut : List ℕ → Env → Expr → Bool
can_be_cut xs env e = lies_if_fixed (shape_of env (ty e)) (stands env e) && not (lies_in (shape_of env (ty e)) (is_part_of_one env xs e))

-- an element of a container in columns has no address
abbrev pub is_one_of : List ℕ → Expr → Bool
is_one_of xs (expr t at (Tree.local x)) = WellTypes.has x xs
is_one_of xs e = false

-- a parameter has no address
abbrev pub parameters_of : Ways → Env → List ℕ
parameters_of w env = if w.counts then [] else numbers_below env.proc.parameters

abbrev pub has_address : Ways → Env → Expr → Bool
has_address w env e = is_somewhere (stands env e) && (not (is_part_of_one env (parameters_of w env) e) && not (is_one_of w.columns e))

-- ---- expressions
abbrev pub local_types : List Local → List ℕ
local_types [] = []
local_types (l ∷ ls) = l.ty ∷ local_types ls

abbrev pub helper_type : Env → List Head → ℕ → List ℕ → ℕ → Bool
helper_type env hs h ts t = WellTypes.is_there (slice_get hs h) (λ q. WellTypes.same_list ts (local_types (take q.parameters q.locals)) && WellTypes.same_list (WellTypes.values_in env t) (local_types (take q.results (drop q.parameters q.locals))))

abbrev mutual
  pub well_expr : Ways → Env → Expr → Bool
  well_expr w env (expr t at k) = nat_lt t (length env.tables.types) && (is_located env at k && well_kind w env t k)

  pub well_kind : Ways → Env → ℕ → Kind → Bool
  well_kind w env t (Tree.const c) = WellTypes.well_constant env t c
  well_kind w env t (Tree.local x) = WellTypes.is_there (slice_get env.proc.locals x) (λ l. l.ty == t) && WellTypes.has x w.begun
  well_kind w env t (Tree.global_ g) = WellTypes.is_there (slice_get env.tables.globals g) (λ x. x.ty == t)
  well_kind w env t (Tree.proc_value n) = need_of env n (λ p. p.ty == t)
  well_kind w env t Tree.context = w.context && WellTypes.is_context env t
  well_kind w env t (Tree.field e n) = WellTypes.is_there (slice_get (parts_in (shape_of env (ty e))) n) (λ p. p.ty == t) && well_expr w env e
  well_kind w env t (Tree.deref e) = WellTypes.points_to t (shape_of env (ty e)) && well_expr w env e
  well_kind w env t (Tree.index e i) = WellTypes.is_whole (shape_of env (ty i)) && (index_type env (shape_of env (ty e)) t && (well_expr w env e && well_expr w env i))
  well_kind w env t (Tree.cut e low high) = cut_type env (shape_of env (ty e)) (shape_of env t) && (can_be_cut (parameters_of w env) env e && (well_expr w env e && (well_bound w env low && well_bound w env high)))
  well_kind w env t (Tree.column e n) = column_type env (shape_of env (ty e)) n (shape_of env t) && well_expr w env e
  well_kind w env t (Tree.call n order es) = need_of env n (λ p. not w.counts && ((w.context || not p.has_context) && call_type env (shape_of env p.ty) (in_order 0 order (tys es)) t)) && (is_order order (tys es) && well_exprs w env es)
  well_kind w env t (Tree.call_value marked e es) = (not w.counts && (if marked then (WellTypes.is_asked env (ty e)) else (w.context || not (is_odin (shape_of env (ty e)))))) && (call_type env (shape_of env (ty e)) (tys es) t && (well_expr w env e && well_exprs w env es))
  well_kind w env t (Tree.builtin which order es) = can_ask w env which (in_order 0 order (tys es)) && (builtin_type env which (in_order 0 order (tys es)) t && (is_order order (tys es) && well_exprs w env es))
  well_kind w env t (Tree.or_return e variant) = w.returns && (or_return_type env t variant (WellTypes.values_in env (ty e)) && well_expr w env e)
  well_kind w env t (Tree.build home ps) = build_type env t home && (parts_apart env ps && well_parts w env (shape_of env (home_type env t home)) ps)
  well_kind w env t (Tree.unary o e) = unary_type env o (ty e) t && well_expr w env e
  well_kind w env t (Tree.binary o e f) = binary_type env o (ty e) (ty f) t && (operands env o e f && (well_expr w env e && well_expr w env f))
  well_kind w env t (Tree.convert e) = convert_type env (ty e) t && well_expr w env e
  well_kind w env t (Tree.inject n e) = WellTypes.is_variant env t n (ty e) && well_expr w env e
  well_kind w env t (Tree.assert_ n e) = WellTypes.is_variant env (ty e) n t && well_expr w env e
  well_kind w env t (Tree.test_ n e) = test_type env (ty e) n (WellTypes.values_in env t) && well_expr w env e
  well_kind w env t (Tree.address_ e) = WellTypes.points_to (ty e) (shape_of env t) && (has_address w env e && well_expr w env e)
  well_kind w env t Tree.location = WellTypes.is_location env t
  well_kind w env t (Tree.help h es) = helper_type env w.helpers h (tys es) t && well_exprs w env es

  pub well_exprs : Ways → Env → Exprs → Bool
  well_exprs w env none = true
  well_exprs w env (more e es) = well_expr w env e && well_exprs w env es

  pub well_bound : Ways → Env → Maybe → Bool
  well_bound w env absent = true
  well_bound w env (present e) = WellTypes.is_whole (shape_of env (ty e)) && well_expr w env e

  pub well_parts : Ways → Env → Shape → Parts → Bool
  well_parts w env s no_parts = true
  well_parts w env s (part d e ps) = part_type env s d (ty e) && (well_expr w env e && well_parts w env s ps)

-- ---- what statements ask of expressions
abbrev pub taken_types : List Taken → List ℕ
taken_types [] = []
taken_types (t ∷ ts) = t.into.index ∷ taken_types ts

abbrev pub given_types : List Taken → List ℕ
given_types [] = []
given_types (t ∷ ts) = t.from.index ∷ given_types ts

abbrev pub rights_types : Rights → List ℕ
rights_types nothing = []
rights_types (each es) = tys es
rights_types (parted ts e) = taken_types ts

abbrev pub well_rights : Ways → Env → Rights → Bool
well_rights w env nothing = true
well_rights w env (each es) = well_exprs w env es
well_rights w env (parted ts e) = WellTypes.same_list (given_types ts) (WellTypes.values_in env (ty e)) && (WellTypes.every (λ t. takes env t.from.index t.variant t.into.index) ts && well_expr w env e)

abbrev pub is_local : Env → ℕ → ℕ → Bool
is_local env x t = WellTypes.is_there (slice_get env.proc.locals x) (λ l. l.ty == t)

abbrev pub begins : Env → List (Option ℕ) → List ℕ → Bool
begins env [] [] = true
begins env (None ∷ xs) (t ∷ ts) = begins env xs ts
begins env (Some x ∷ xs) (t ∷ ts) = is_local env x t && begins env xs ts
begins env _ _ = false

abbrev pub begins_zero : Env → List (Option ℕ) → Bool
begins_zero env [] = true
begins_zero env (None ∷ xs) = begins_zero env xs
begins_zero env (Some x ∷ xs) = nat_lt x (length env.proc.locals) && begins_zero env xs

abbrev pub declares : Env → List (Option ℕ) → Rights → Bool
declares env xs nothing = begins_zero env xs
declares env [] values = true
declares env xs values = begins env xs (rights_types values)

-- a context that is assigned as a whole need not be there before
abbrev pub well_left : Ways → Env → Expr → Bool
well_left w env (expr t at Tree.context) = not w.counts && (has_path env at && (nat_lt t (length env.tables.types) && WellTypes.is_context env t))
well_left w env e = can_change w env e && well_expr w env e

abbrev pub well_lefts : Ways → Env → Lefts → List ℕ → Bool
well_lefts w env no_lefts [] = true
well_lefts w env (left_ e es) (t ∷ ts) = (ty e == t) && (well_left w env e && well_lefts w env es ts)
well_lefts w env (dropped es) (t ∷ ts) = well_lefts w env es ts
well_lefts w env _ _ = false

abbrev pub well_condition : Ways → Env → Maybe → Bool
well_condition w env absent = true
well_condition w env (present e) = WellTypes.is_truth (shape_of env (ty e)) && well_expr w env e

abbrev pub well_subject : Ways → Env → Maybe → Bool
well_subject w env absent = true
well_subject w env (present e) = well_expr w env e

-- the type of a switch's subject; None where it has none
abbrev pub subject_type : Maybe → Option ℕ
subject_type absent = None
subject_type (present e) = Some (ty e)

abbrev pub item_type : Env → Option ℕ → Expr → Bool
item_type env None e = WellTypes.is_truth (shape_of env (ty e))
item_type env (Some u) e = (u == ty e) && (is_alike (shape_of env u) || is_nil e)

abbrev pub span_type : Env → Option ℕ → ℕ → ℕ → Bool
span_type env None t u = false
span_type env (Some v) t u = (v == t) && ((v == u) && WellTypes.is_number (shape_of env v))

abbrev pub well_items : Ways → Env → Option ℕ → Items → Bool
well_items w env u no_items = true
well_items w env u (item e is) = item_type env u e && (well_expr w env e && well_items w env u is)
well_items w env u (span e f closed is) = span_type env u (ty e) (ty f) && (well_expr w env e && (well_expr w env f && well_items w env u is))

abbrev pub names_local : Env → Option ℕ → ℕ → Bool
names_local env None t = true
names_local env (Some x) t = is_local env x t

abbrev pub names_int : Env → Option ℕ → Bool
names_int env None = true
names_int env (Some x) = WellTypes.is_there (slice_get env.proc.locals x) (λ l. WellTypes.is_int env l.ty)

abbrev pub well_over : Ways → Env → Over → Option ℕ → Bool
well_over w env (from_to e f closed) x = (ty e == ty f) && (WellTypes.is_whole (shape_of env (ty e)) && (names_local env x (ty e) && (well_expr w env e && well_expr w env f)))
well_over w env (through e by_place) x =
    WellTypes.is_there (WellTypes.element_in (shape_of env (ty e))) (λ t. names_local env x t) && ((not by_place || can_be_cut w.fixed env e) && well_expr w env e)

-- the name of a case stands for its only variant, else for the union
abbrev pub case_type : Env → ℕ → List ℕ → ℕ → Bool
case_type env u (n ∷ []) t = WellTypes.is_variant env u n t
case_type env u _ t = u == t

abbrev pub names_case : Env → ℕ → List ℕ → Option ℕ → Bool
names_case env u vs None = true
names_case env u vs (Some x) = WellTypes.is_there (slice_get env.proc.locals x) (λ l. case_type env u vs l.ty)

abbrev pub result_types : Env → List ℕ
result_types env = local_types (take env.proc.results (drop env.proc.parameters env.proc.locals))

abbrev pub returns : Env → Rights → Bool
returns env nothing = true
returns env values = WellTypes.same_list (rights_types values) (result_types env)

abbrev pub is_followed : Cases → Bool
is_followed no_cases = false
is_followed cs = true

-- ---- a switch over an enum or a union covers all its values, or has a default case; `#partial` gives an empty one that
-- stands before the others
abbrev pub has_default : Cases → Bool
has_default no_cases = false
has_default (one_case is body rest) = has_default rest
has_default (default_case body rest) = true

abbrev pub constant_in : Expr → Option ℤ
constant_in (expr t at (Tree.const (con.Int z))) = Some z
constant_in e = None

abbrev pub is_between : Bool → ℤ → ℤ → ℤ → Bool
is_between closed low high z = int_le low z && (if closed then int_le z high else int_lt z high)

abbrev pub items_have : ℤ → Items → Bool
items_have z no_items = false
items_have z (item e is) = WellTypes.is_there (constant_in e) (λ y. int_eq y z) || items_have z is
items_have z (span e f closed is) = WellTypes.is_there (constant_in e) (λ low. WellTypes.is_there (constant_in f) (λ high. is_between closed low high z)) || items_have z is

abbrev pub cases_have : ℤ → Cases → Bool
cases_have z no_cases = false
cases_have z (one_case is body rest) = items_have z is || cases_have z rest
cases_have z (default_case body rest) = true

abbrev pub covers_values : Shape → Cases → Bool
covers_values (names w es) cs = has_default cs || WellTypes.every (λ e. cases_have e.value cs) es
covers_values (variants tag ts) cs = has_default cs
covers_values _ cs = true

abbrev pub covers : Env → Option ℕ → Cases → Bool
covers env None cs = true
covers env (Some t) cs = covers_values (shape_of env t) cs

abbrev pub types_have : ℕ → TypeCases → Bool
types_have n no_types = false
types_have n (type_case vs x body rest) = WellTypes.has n vs || types_have n rest
types_have n (default_type x body rest) = true

abbrev pub has_default_type : TypeCases → Bool
has_default_type no_types = false
has_default_type (type_case vs x body rest) = has_default_type rest
has_default_type (default_type x body rest) = true

-- variants count from 1
abbrev pub covers_variants : Shape → TypeCases → Bool
covers_variants (variants tag ts) cs = has_default_type cs || WellTypes.every (λ n. types_have (n + 1) cs) (numbers_below (length ts))
covers_variants _ cs = false

-- the name of a loop by place is the element itself, and can be assigned
abbrev pub begins_element : Bool → Option ℕ → Ways → Ways
begins_element row None w = w
begins_element true (Some x) w = record w { begun = x ∷ w.begun; columns = x ∷ w.columns }
begins_element false (Some x) w = record w { begun = x ∷ w.begun }

abbrev pub has_columns : Shape → Bool
has_columns (soa_array e n) = true
has_columns (soa_slice e) = true
has_columns (soa_dynamic e) = true
has_columns _ = false

abbrev pub begins_turn : Env → Over → Option ℕ → Option ℕ → Ways → Ways
begins_turn env (through e true) x k w = begins_element (has_columns (shape_of env (ty e))) x (begins_fixed k w)
begins_turn env over x k w = begins_fixed x (begins_fixed k w)

-- what may stand in a header
abbrev pub is_simple : Stmt → Bool
is_simple (stmt at (Tree.declare xs values)) = true
is_simple (stmt at (Tree.assign lefts values)) = true
is_simple (stmt at (Tree.change o e f)) = true
is_simple (stmt at (Tree.eval e)) = true
is_simple s = false

-- ---- statements
abbrev mutual
  pub well_stmt : Ways → Env → Stmt → Bool
  well_stmt w env (stmt at k) = has_path env at && well_form w env k

  pub well_form : Ways → Env → Form → Bool
  well_form w env (Tree.declare xs values) = declares env xs values && well_rights w env values
  well_form w env (Tree.assign lefts values) = well_lefts w env lefts (rights_types values) && well_rights w env values
  well_form w env (Tree.change o e f) = (is_assigning o && (binary_type env o (ty e) (ty f) (ty e) && operands env o e f)) && (can_change w env e && (well_expr w env e && well_expr w env f))
  well_form w env (Tree.eval e) = well_expr w env e
  well_form w env (Tree.block l body) = is_new l w && well_stmts (breaking l w) env body
  well_form w env (Tree.if_ init e body other) = well_maybe w env init && (WellTypes.is_truth (shape_of env (ty e)) && (well_expr (behind_maybe init w) env e && (well_stmts (behind_maybe init w) env body && well_stmts (behind_maybe init w) env other)))
  well_form w env (Tree.loop l init e post body) = is_new l w && (well_maybe w env init && (well_condition (behind_maybe init w) env e && (well_maybe (behind_maybe init w) env post && well_stmts (looping l (behind_maybe init w)) env body)))
  well_form w env (Tree.range l over x k body) = is_new l w && (well_over w env over x && (names_int env k && well_stmts (looping l (begins_turn env over x k w)) env body))
  well_form w env (Tree.switch l init e cs) = is_new l w && (well_maybe w env init && (covers env (subject_type e) cs && (well_subject (behind_maybe init w) env e && well_cases (breaking l (behind_maybe init w)) env (subject_type e) cs)))
  well_form w env (Tree.type_switch l e cs) = is_new l w && (covers_variants (shape_of env (ty e)) cs && (well_expr w env e && well_types (falling false (breaking l w)) env (ty e) cs))
  well_form w env (Tree.defer s) = well_stmt (deferred w) env s
  well_form w env (Tree.return values) = w.returns && (returns env values && well_rights w env values)
  well_form w env (Tree.break_ l) = WellTypes.has l w.breaks
  well_form w env (Tree.continue_ l) = WellTypes.has l w.continues
  well_form w env Tree.fallthrough = w.falls
  well_form w env (Tree.counted n l e body) = (w.counts && is_new l w) && (WellTypes.is_truth (shape_of env (ty e)) && (well_expr w env e && well_stmts (looping l w) env body))

  pub well_maybe : Ways → Env → MaybeStmt → Bool
  well_maybe w env no_stmt = true
  well_maybe w env (some_stmt s) = is_simple s && well_stmt w env s

  pub well_stmts : Ways → Env → Stmts → Bool
  well_stmts w env finish = true
  well_stmts w env (follow s ss) = well_stmt w env s && well_stmts (behind s w) env ss

  pub well_cases : Ways → Env → Option ℕ → Cases → Bool
  well_cases w env u no_cases = true
  well_cases w env u (one_case is body rest) = well_items w env u is && (well_stmts (falling (is_followed rest) w) env body && well_cases w env u rest)
  well_cases w env u (default_case body rest) = not (has_default rest) && (well_stmts (falling (is_followed rest) w) env body && well_cases w env u rest)

  pub well_types : Ways → Env → ℕ → TypeCases → Bool
  well_types w env u no_types = true
  well_types w env u (type_case vs x body rest) = names_case env u vs x && (WellTypes.every (λ n. WellTypes.is_there (WellTypes.variant_in (shape_of env u) n) (λ t. true)) vs && (well_stmts (begins_fixed x w) env body && well_types w env u rest))
  well_types w env u (default_type x body rest) = (names_case env u [] x && not (has_default_type rest)) && (well_stmts (begins_fixed x w) env body && well_types w env u rest)

-- ---- procedures: variables lie in the frame, eight bytes from its ends and from each other
abbrev pub apart : Env → Local → Local → Bool
apart env l k = nat_le (l.place + size_of env l.ty + 8) k.place || nat_le (k.place + size_of env k.ty + 8) l.place

abbrev pub all_apart : Env → List Local → Bool
all_apart env [] = true
all_apart env (l ∷ ls) = WellTypes.every (apart env l) ls && all_apart env ls

abbrev pub in_frame : Env → ℕ → Local → Bool
in_frame env frame l = nat_le 8 l.place && nat_le (l.place + size_of env l.ty + 8) frame

abbrev pub types_known : Env → List Local → Bool
types_known env ls = WellTypes.every (λ l. WellTypes.is_value_type env l.ty) ls

abbrev pub signature : Env → Head → Shape → Bool
signature env p (procedure odin ps rs) =
    (if odin then p.has_context else not p.has_context) && ((p.parameters == length ps) && ((p.results == length rs) && WellTypes.same_list (local_types (take (p.parameters + p.results) p.locals)) (ps ++ rs)))
signature env p _ = false

abbrev pub well_head : Env → Head → Bool
well_head env p =
    signature env p (shape_of env p.ty) && (types_known env p.locals && (WellTypes.every (in_frame env p.frame) p.locals && (all_apart env p.locals &&
    (WellTypes.every (WellTypes.below (length env.tables.procedures)) p.needs && (WellTypes.once p.needs && nat_lt p.literal (length env.tables.literals) && (has_path env p.at && WellTypes.known env p.instance.types))))))

abbrev pub heads_of : List Helper → List Head
heads_of [] = []
heads_of (h ∷ hs) = h.head ∷ heads_of hs

-- what a helper needs of the caller's frame, behind its 128 bytes
abbrev pub in_helper : Env → Head → Local → Bool
in_helper env q l = nat_le (l.place + size_of env l.ty + 136) q.frame

-- of each helper, with the greatest of those that it calls, which stand behind it
abbrev pub greatest_of : List ℕ → List ℕ → ℕ
greatest_of rooms [] = 0
greatest_of rooms (h ∷ hs) = max (get_or rooms h 0) (greatest_of rooms hs)

abbrev pub with_room : Helper → List ℕ → List ℕ
with_room h rooms = (h.head.frame - 128 + greatest_of rooms (helped_in h.body)) ∷ rooms

abbrev pub helper_rooms : List Helper → List ℕ
helper_rooms [] = []
helper_rooms (h ∷ hs) = with_room h (helper_rooms hs)

-- parameters and results begin with the call
abbrev pub in_helper_of : List Head → Head → Ways
in_helper_of hs p = record { helpers = hs; begun = numbers_below (p.parameters + p.results); fixed = []; columns = []; labels = []; breaks = []; continues = []; falls = false; returns = true; counts = true; context = false }

abbrev pub in_procedure : List Head → Head → Ways
in_procedure hs p = record { helpers = hs; begun = numbers_below (p.parameters + p.results); fixed = numbers_below p.parameters; columns = []; labels = []; breaks = []; continues = []; falls = false; returns = true; counts = false; context = p.has_context }

-- a procedure with helpers leaves the last 128 bytes of its frame to them
abbrev pub leaves_room : Env → List Helper → Bool
leaves_room env [] = true
leaves_room env (h ∷ hs) = WellTypes.every (λ l. nat_le (l.place + size_of env l.ty + 136) env.proc.frame) env.proc.locals

-- each variable behind the parameters and results begins at one place of the body
abbrev pub begins_once : Head → Stmts → Bool
begins_once p body = WellTypes.once (begun_in body) && WellTypes.every (nat_le (p.parameters + p.results)) (begun_in body)

-- a helper sees those behind it
abbrev pub well_helpers : Env → List Helper → Bool
well_helpers env [] = true
well_helpers env (h ∷ hs) =
    ((has_path env h.head.at && nat_lt h.head.literal (length env.tables.literals)) && (nat_le 128 h.head.frame && (types_known env h.head.locals && (WellTypes.every (in_helper env h.head) h.head.locals && (all_apart env h.head.locals && nat_le (h.head.parameters + h.head.results) (length h.head.locals)))))) &&
    (begins_once h.head h.body && (well_stmts (in_helper_of (heads_of hs) h.head) (env_in env h.head) h.body && well_helpers env hs))

abbrev pub well_body : Env → Body → Bool
well_body env body = begins_once env.proc body.stmts && (well_stmts (in_procedure (heads_of body.helpers) env.proc) env body.stmts && (leaves_room env body.helpers && (well_helpers env body.helpers && WellTypes.every (λ n. nat_le n 128) (helper_rooms body.helpers))))

abbrev pub well_procedures : Tables → ℕ → List Head → List Body → Bool
well_procedures tables f [] [] = true
well_procedures tables f (p ∷ ps) (q ∷ qs) = (well_head (env_of tables p f 0 0 None) p && well_body (env_of tables p f 0 0 None) q) && well_procedures tables (f + 1) ps qs
well_procedures tables f _ _ = false

-- ---- programs
abbrev pub is_main : Head → Bool
is_main p = p.has_context && ((p.parameters == 0) && (p.results == 0))

abbrev pub outer_head : Head
outer_head = record { instance = record { proc = 0; types = []; numbers = [] }; name = []; at = nowhere_at; literal = 0; has_context = false; ty = 0; parameters = 0; results = 0; locals = []; frame = 0; needs = [] }
  where
    nowhere_at : Place
    nowhere_at = record { file = record { number = 0 }; line = 0; column = 0 }

-- ---- what tells procedures, globals, literals and files from each other
abbrev pub apart_from_all : {A : Type 0} → (A → A → Bool) → List A → Bool
apart_from_all same [] = true
apart_from_all same (a ∷ x) = WellTypes.every (λ b. not (same a b)) x && apart_from_all same x

-- two procedures of one text, by its number or its place, and of equal types and numbers
abbrev pub same_procedure : Head → Head → Bool
same_procedure p q =
    ((p.instance.proc == q.instance.proc) || WellTypes.same_place p.at q.at) && (WellTypes.same_list p.instance.types q.instance.types && WellTypes.same_ints p.instance.numbers q.instance.numbers)

abbrev pub same_global : Global → Global → Bool
same_global a b = WellTypes.same_place a.place b.place

-- literals of one place differ in their bytes
abbrev pub same_literal : Literal → Literal → Bool
same_literal a b = WellTypes.same_place a.place b.place && WellTypes.same_list a.bytes b.bytes

abbrev pub all_told : Tables → Bool
all_told ts =
    apart_from_all same_procedure ts.procedures && (apart_from_all same_global ts.globals && (apart_from_all same_literal ts.literals && apart_from_all WellTypes.same_list ts.paths))

-- a global starts with numbers and addresses of literals
abbrev pub is_literal_at : Env → Block → ℕ → Bool
is_literal_at env (literal at n) o = (o == 0) && WellTypes.is_there (slice_get env.tables.literals n) (λ l. l.at == at)
is_literal_at env _ o = false

abbrev pub well_byte : Env → Byte → Bool
well_byte env (number n) = nat_lt n 256
well_byte env (of_address b o k) = is_literal_at env b o
well_byte env (of_procedure p k) = false

abbrev pub well_global : Env → Global → Bool
well_global env g = WellTypes.is_value_type env g.ty && ((length g.first == size_of env g.ty) && (WellTypes.every (well_byte env) g.first && has_path env g.place))

abbrev pub is_allocator_procedure : Env → ℕ → Bool
is_allocator_procedure env f = WellTypes.is_there (slice_get env.tables.procedures f) (λ p. WellTypes.is_asked env p.ty)

-- the first context's allocators, where they are there
abbrev pub may_ask : Env → Option ℕ → Bool
may_ask env None = true
may_ask env (Some f) = is_allocator_procedure env f

abbrev pub well_tables : Env → Bool
well_tables env =
    WellTypes.well_rows env 0 env.tables.types && (WellTypes.each_once env.tables.types && (WellTypes.every (well_global env) env.tables.globals &&
    (WellTypes.every (λ l. has_path env l.place) env.tables.literals && (all_told env.tables && (may_ask env env.tables.heap && may_ask env env.tables.temp)))))

abbrev pub well : Program → Bool
well p =
    well_tables (env_of p.tables outer_head 0 0 0 None) && (well_procedures p.tables 0 p.tables.procedures p.bodies && WellTypes.is_there (slice_get p.tables.procedures p.main) is_main)

-- ---- the allocator procedures of the runtime library are there
abbrev pub is_named : Tables → List ℕ → Option ℕ → Bool
is_named ts name None = false
is_named ts name (Some f) = is_allocator_procedure (env_of ts outer_head 0 0 0 None) f && WellTypes.is_there (slice_get ts.procedures f) (λ p. WellTypes.same_list p.name name)

abbrev pub has_runtime : Program → Bool
has_runtime p =
    is_named p.tables (codes "runtime.heap_allocator_proc") p.tables.heap && is_named p.tables (codes "runtime.temp_allocator_proc") p.tables.temp
