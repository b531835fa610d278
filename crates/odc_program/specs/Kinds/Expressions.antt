-- What an expression does: one equation a kind, each by one combinator over what its parts do.
use Rattle.std.specs.Prelude.{ℕ, Bool, true, false, ℤ, List, [], ◌∷◌, Option, None}
use Rattle.odc_text.specs.declared.place.Place.{Place}
use Rattle.odc_program.specs.declared.ops.Builtin.{Builtin}
use Rattle.odc_program.specs.declared.ops.Builtin.TheVariants as b
use Rattle.odc_program.specs.States.Run.{pure, ◌>>=◌}
use Rattle.odc_program.specs.States.Bytes.{Value}
use Rattle.odc_program.specs.Trees.Tree.{Expr, expr, Kind, const, local, global_, proc_value, context, field, deref, index, cut, column, call, call_value, builtin, or_return, build, unary, binary, convert, inject, assert_, test_, address_, location, help, Exprs, none, more, Maybe, absent, present, Parts, no_parts, part, ty, at_of, tys, in_order}
use Rattle.odc_program.specs.States.State.{Do, tick, stray, Base, Env, Calls}
use Rattle.odc_program.specs.Kinds.Places.{as_value, read_truth, run_local, run_global, run_context, run_proc_value, run_const, run_location, run_field, run_deref, run_index, run_cut, bound, run_column, run_address, home_type, no_parts_of, run_part, run_build, gives}
use Rattle.odc_program.specs.Kinds.Operators.{run_unary, run_binary, run_convert, run_inject, run_assert, run_test}
use Rattle.odc_program.specs.Kinds.Calling.{run_call, run_call_value, run_help, run_or_return}
use Rattle.odc_program.specs.Kinds.Builtins as i
use Rattle.odc_program.specs.Kinds.Allocating as a

-- a built-in, given what its arguments are; `len` takes its argument as it lies
abbrev pub builtin_of : Calls → Env → Place → ℕ → Builtin → List ℕ → List Value → Do Base
builtin_of calls env at t b.Print ts vs = i.run_print env at ts vs
builtin_of calls env at t b.Println ts vs = i.run_println env at ts vs
builtin_of calls env at t b.Read ts vs = i.run_read env at t vs
builtin_of calls env at t b.Write ts vs = i.run_write env at t vs
builtin_of calls env at t b.Exit ts vs = i.run_exit at vs
builtin_of calls env at t b.Len ts vs = stray at
builtin_of calls env at t b.Cap ts vs = i.run_cap env ts vs
builtin_of calls env at t b.RawData ts vs = i.run_raw_data vs
builtin_of calls env at t b.Min ts vs = i.run_lesser env at false t vs
builtin_of calls env at t b.Max ts vs = i.run_lesser env at true t vs
builtin_of calls env at t b.Abs ts vs = i.run_abs env at t vs
builtin_of calls env at t b.Copy ts vs = i.run_copy env at ts vs
builtin_of calls env at t b.Assert ts vs = i.run_assert_true at vs
builtin_of calls env at t b.Panic ts vs = i.run_panic at vs
builtin_of calls env at t b.Clear ts vs = i.run_clear env at ts vs
builtin_of calls env at t b.Pop ts vs = i.run_pop env at ts vs
builtin_of calls env at t b.OrderedRemove ts vs = i.run_remove env at true ts vs
builtin_of calls env at t b.UnorderedRemove ts vs = i.run_remove env at false ts vs
builtin_of calls env at t b.HeapRegion ts vs = i.run_region i.heap_block i.heap_size
builtin_of calls env at t b.TempRegion ts vs = i.run_region i.temp_block i.temp_size
builtin_of calls env at t b.ByteSlice ts vs = i.run_byte_slice at vs
builtin_of calls env at t b.New ts vs = a.run_new calls env at t vs
builtin_of calls env at t b.Make ts vs = a.run_make calls env at t vs
builtin_of calls env at t b.Append ts vs = a.run_append calls env at t ts vs
builtin_of calls env at t b.Reserve ts vs = a.run_reserve calls env at ts vs
builtin_of calls env at t b.Resize ts vs = a.run_resize calls env at ts vs
builtin_of calls env at t b.Delete ts vs = a.run_delete calls env at ts vs
builtin_of calls env at t b.Free ts vs = a.run_free calls env at ts vs
builtin_of calls env at t b.FreeAll ts vs = a.run_free_all calls env at vs

abbrev pub run_builtin : Calls → Env → Place → ℕ → Builtin → List ℕ → List ℕ → Do Base → Do (List Value) → Do Base
run_builtin calls env at t b.Len order ts first arguments = i.run_len env at ts first
run_builtin calls env at t which order ts first arguments = arguments >>= (λ vs. builtin_of calls env at t which ts (in_order [] order vs))

abbrev mutual
  pub base_of : Calls → Env → Expr → Do Base
  base_of calls env (expr t at k) = tick (kind_of calls env t at k)

  pub value_of : Calls → Env → Expr → Do Value
  value_of calls env (expr t at k) = as_value env at t (tick (kind_of calls env t at k))

  pub kind_of : Calls → Env → ℕ → Place → Kind → Do Base
  kind_of calls env t at (const c) = run_const env t c
  kind_of calls env t at (local x) = run_local env x
  kind_of calls env t at (global_ g) = run_global env g
  kind_of calls env t at (proc_value need) = run_proc_value env need
  kind_of calls env t at context = run_context
  kind_of calls env t at (field e n) = run_field env at t (ty e) n (base_of calls env e)
  kind_of calls env t at (deref e) = run_deref env at t (value_of calls env e)
  kind_of calls env t at (index e i) = run_index env at (ty e) (ty i) (base_of calls env e) (value_of calls env i)
  kind_of calls env t at (cut e low high) = run_cut env at (ty e) (base_of calls env e) (bound_of calls env low) (bound_of calls env high)
  kind_of calls env t at (column e n) = run_column env at t (ty e) n (base_of calls env e)
  kind_of calls env t at (call need order es) = run_call calls env need order (values_of calls env es)
  kind_of calls env t at (call_value marked e es) = run_call_value calls env at marked (ty e) (value_of calls env e) (values_of calls env es)
  kind_of calls env t at (builtin which order es) = run_builtin calls env at t which order (in_order 0 order (tys es)) (first_of calls env at es) (values_of calls env es)
  kind_of calls env t at (or_return e variant) = run_or_return env at (ty e) variant (value_of calls env e)
  kind_of calls env t at (build home ps) = run_build env t home (parts_of calls env (home_type env t home) ps)
  kind_of calls env t at (unary o e) = run_unary env at t o (value_of calls env e)
  kind_of calls env t at (binary o e f) = gives (run_binary env at o (ty e) (ty f) (value_of calls env e) (value_of calls env f))
  kind_of calls env t at (convert e) = run_convert env at (ty e) t (value_of calls env e)
  kind_of calls env t at (inject variant e) = run_inject env t variant (value_of calls env e)
  kind_of calls env t at (assert_ variant e) = run_assert env at (ty e) t variant (value_of calls env e)
  kind_of calls env t at (test_ variant e) = run_test env at (ty e) t variant (value_of calls env e)
  kind_of calls env t at (address_ e) = run_address at (base_of calls env e)
  kind_of calls env t at location = run_location env at
  kind_of calls env t at (help h es) = run_help calls env h (values_of calls env es)

  pub values_of : Calls → Env → Exprs → Do (List Value)
  values_of calls env none = pure []
  values_of calls env (more e es) = value_of calls env e >>= (λ v. values_of calls env es >>= (λ vs. pure (v ∷ vs)))

  -- the first argument as it lies
  pub first_of : Calls → Env → Place → Exprs → Do Base
  first_of calls env at none = stray at
  first_of calls env at (more (expr t at' k) es) = tick (kind_of calls env t at' k)

  pub bound_of : Calls → Env → Maybe → Do (Option ℤ)
  bound_of calls env absent = pure None
  bound_of calls env (present (expr t at k)) = bound env at t (as_value env at t (tick (kind_of calls env t at k)))

  -- a built value of a type
  pub parts_of : Calls → Env → ℕ → Parts → Do Value
  parts_of calls env t no_parts = no_parts_of env t
  parts_of calls env t (part d e ps) = run_part env t d (value_of calls env e) (parts_of calls env t ps)

abbrev pub truth_of : Calls → Env → Expr → Do Bool
truth_of calls env e = value_of calls env e >>= read_truth (at_of e)
