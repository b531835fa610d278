-- A whole run keeps what the primitives keep.
use Rattle.std.proofs.Common.{ℕ, zero, suc, Bool, true, false, List, [], ◌∷◌, inl, inr, refl}
use Rattle.std.specs.Prelude.{Option, Some, None, ◌+◌, ◌-◌, if◌then◌else◌, slice_get}
use Rattle.odc_text.specs.declared.place.Place.{Place}
use Rattle.odc_text.specs.declared.check.Check.{Check}
use Rattle.odc_text.specs.declared.check.Check.TheVariants as check
use Rattle.odc_text.specs.Run.{going}
use Rattle.odc_program.specs.declared.ops.Builtin.{Builtin}
use Rattle.odc_program.specs.declared.ops.Builtin.TheVariants as bi
use Rattle.odc_program.specs.States.Run.{pure, ◌>>=◌}
use Rattle.odc_program.specs.States.Bytes.{Value, zeros}
use Rattle.odc_program.specs.Trees.Tree as t
use Rattle.odc_program.specs.Trees.Program as q
use Rattle.odc_program.specs.States.State as s
use Rattle.odc_program.specs.Kinds.Places as p
use Rattle.odc_program.specs.Kinds.Expressions as e
use Rattle.odc_program.specs.Runs.Statements as f
use Rattle.odc_program.specs.Runs.Source as x
use Rattle.odc_program_laws.specs.Nodes as d
use Rattle.odc_program_laws.proofs.Alike as a
use Rattle.odc_program_laws.proofs.PlacesAlike as pl
use Rattle.odc_program_laws.proofs.OperatorsAlike as ol
use Rattle.odc_program_laws.proofs.CallsAlike as cl
use Rattle.odc_program_laws.proofs.BuiltinsAlike as bl
use Rattle.odc_program_laws.proofs.AllocatingAlike as al
use Rattle.odc_program_laws.proofs.StatementsAlike as b

module _ (In : Place → Type 0) (S : s.State → s.State → Type 0) (Stops : s.Leave → s.State → a.Tail → Type 0) (r : a.Alike In S Stops) where
  abbrev pub Same : {A : Type 0} → s.Do A → s.Do A → Type 0
  Same m n = a.Like S Stops m n

  thens : {A B : Type 0} {m n : s.Do A} {f g : A → s.Do B} → Same m n → ((x : A) → Same (f x) (g x)) → Same (m >>= f) (n >>= g)
  thens h k = a.thens In S Stops r h k

  pures : {A : Type 0} (x : A) → Same (pure x) (pure x)
  pures x = a.pures In S Stops r x

  knowns : {A : Type 0} (at : a.Within In) (o : Option A) → Same (s.known at.place o) (s.known at.place o)
  knowns at o = a.knowns In S Stops r at o

  strays : {A : Type 0} (at : a.Within In) → Same {A = A} (s.stray at.place) (s.stray at.place)
  strays at = a.strays In S Stops r at

  fails : {A : Type 0} (c : Check) (at : a.Within In) → Same {A = A} (s.fail c at.place) (s.fail c at.place)
  fails c at = a.fails In S Stops r c at

  ifs : {A : Type 0} (b : Bool) {m n m' n' : s.Do A} → Same m m' → Same n n' → Same (if b then m else n) (if b then m' else n')
  ifs b h k = a.ifs In S Stops r b h k

  pub builtins_of : (y z : s.Calls) → a.SameCalls S Stops y z → (env : s.Env) (at : a.Within In) (ty : ℕ) (which : Builtin) (ts : List ℕ) (vs : List Value) → Same (e.builtin_of y env at.place ty which ts vs) (e.builtin_of z env at.place ty which ts vs)
  builtins_of y z k env at ty bi.Print ts vs = bl.prints_all In S Stops r env at ts vs
  builtins_of y z k env at ty bi.Println ts vs = bl.prints_line In S Stops r env at ts vs
  builtins_of y z k env at ty bi.Read ts vs = bl.files_read In S Stops r env at ty vs
  builtins_of y z k env at ty bi.Write ts vs = bl.files_written In S Stops r env at ty vs
  builtins_of y z k env at ty bi.Exit ts vs = bl.exits In S Stops r at vs
  builtins_of y z k env at ty bi.Len ts vs = strays at
  builtins_of y z k env at ty bi.Cap ts vs = pures _
  builtins_of y z k env at ty bi.RawData ts vs = pures _
  builtins_of y z k env at ty bi.Min ts vs = bl.lessers In S Stops r env at false ty vs
  builtins_of y z k env at ty bi.Max ts vs = bl.lessers In S Stops r env at true ty vs
  builtins_of y z k env at ty bi.Abs ts vs = bl.absolutes In S Stops r env at ty vs
  builtins_of y z k env at ty bi.Copy ts vs = bl.copies In S Stops r env at ts vs
  builtins_of y z k env at ty bi.Assert ts vs = bl.asserts_true In S Stops r at vs
  builtins_of y z k env at ty bi.Panic ts vs = bl.panics In S Stops r at vs
  builtins_of y z k env at ty bi.Clear ts vs = bl.clears In S Stops r env at ts vs
  builtins_of y z k env at ty bi.Pop ts vs = bl.pops In S Stops r env at ts vs
  builtins_of y z k env at ty bi.OrderedRemove ts vs = bl.removes In S Stops r env at true ts vs
  builtins_of y z k env at ty bi.UnorderedRemove ts vs = bl.removes In S Stops r env at false ts vs
  builtins_of y z k env at ty bi.HeapRegion ts vs = pures _
  builtins_of y z k env at ty bi.TempRegion ts vs = pures _
  builtins_of y z k env at ty bi.ByteSlice ts vs = bl.byte_slices In S Stops r at vs
  builtins_of y z k env at ty bi.New ts vs = al.news In S Stops r y z k env at ty vs
  builtins_of y z k env at ty bi.Make ts vs = al.makes In S Stops r y z k env at ty vs
  builtins_of y z k env at ty bi.Append ts vs = al.appends In S Stops r y z k env at ty ts vs
  builtins_of y z k env at ty bi.Reserve ts vs = al.reserves In S Stops r y z k env at ts vs
  builtins_of y z k env at ty bi.Resize ts vs = al.resizes In S Stops r y z k env at ts vs
  builtins_of y z k env at ty bi.Delete ts vs = al.deletes In S Stops r y z k env at ts vs
  builtins_of y z k env at ty bi.Free ts vs = al.frees In S Stops r y z k env at ts vs
  builtins_of y z k env at ty bi.FreeAll ts vs = al.all_freed In S Stops r y z k env at vs

  pub run_builtins : (y z : s.Calls) → a.SameCalls S Stops y z → (env : s.Env) (at : a.Within In) (ty : ℕ) (which : Builtin) (order ts : List ℕ) {m n : s.Do s.Base} {i j : s.Do (List Value)} → Same m n → Same i j →
      Same (e.run_builtin y env at.place ty which order ts m i) (e.run_builtin z env at.place ty which order ts n j)
  run_builtins y z k env at ty bi.Len order ts h g = bl.lens In S Stops r env at ts h
  run_builtins y z k env at ty bi.Print order ts h g = thens g (λ vs. builtins_of y z k env at ty bi.Print ts (t.in_order [] order vs))
  run_builtins y z k env at ty bi.Println order ts h g = thens g (λ vs. builtins_of y z k env at ty bi.Println ts (t.in_order [] order vs))
  run_builtins y z k env at ty bi.Read order ts h g = thens g (λ vs. builtins_of y z k env at ty bi.Read ts (t.in_order [] order vs))
  run_builtins y z k env at ty bi.Write order ts h g = thens g (λ vs. builtins_of y z k env at ty bi.Write ts (t.in_order [] order vs))
  run_builtins y z k env at ty bi.Exit order ts h g = thens g (λ vs. builtins_of y z k env at ty bi.Exit ts (t.in_order [] order vs))
  run_builtins y z k env at ty bi.Cap order ts h g = thens g (λ vs. builtins_of y z k env at ty bi.Cap ts (t.in_order [] order vs))
  run_builtins y z k env at ty bi.RawData order ts h g = thens g (λ vs. builtins_of y z k env at ty bi.RawData ts (t.in_order [] order vs))
  run_builtins y z k env at ty bi.Min order ts h g = thens g (λ vs. builtins_of y z k env at ty bi.Min ts (t.in_order [] order vs))
  run_builtins y z k env at ty bi.Max order ts h g = thens g (λ vs. builtins_of y z k env at ty bi.Max ts (t.in_order [] order vs))
  run_builtins y z k env at ty bi.Abs order ts h g = thens g (λ vs. builtins_of y z k env at ty bi.Abs ts (t.in_order [] order vs))
  run_builtins y z k env at ty bi.Copy order ts h g = thens g (λ vs. builtins_of y z k env at ty bi.Copy ts (t.in_order [] order vs))
  run_builtins y z k env at ty bi.Assert order ts h g = thens g (λ vs. builtins_of y z k env at ty bi.Assert ts (t.in_order [] order vs))
  run_builtins y z k env at ty bi.Panic order ts h g = thens g (λ vs. builtins_of y z k env at ty bi.Panic ts (t.in_order [] order vs))
  run_builtins y z k env at ty bi.Clear order ts h g = thens g (λ vs. builtins_of y z k env at ty bi.Clear ts (t.in_order [] order vs))
  run_builtins y z k env at ty bi.Pop order ts h g = thens g (λ vs. builtins_of y z k env at ty bi.Pop ts (t.in_order [] order vs))
  run_builtins y z k env at ty bi.OrderedRemove order ts h g = thens g (λ vs. builtins_of y z k env at ty bi.OrderedRemove ts (t.in_order [] order vs))
  run_builtins y z k env at ty bi.UnorderedRemove order ts h g = thens g (λ vs. builtins_of y z k env at ty bi.UnorderedRemove ts (t.in_order [] order vs))
  run_builtins y z k env at ty bi.HeapRegion order ts h g = thens g (λ vs. builtins_of y z k env at ty bi.HeapRegion ts (t.in_order [] order vs))
  run_builtins y z k env at ty bi.TempRegion order ts h g = thens g (λ vs. builtins_of y z k env at ty bi.TempRegion ts (t.in_order [] order vs))
  run_builtins y z k env at ty bi.ByteSlice order ts h g = thens g (λ vs. builtins_of y z k env at ty bi.ByteSlice ts (t.in_order [] order vs))
  run_builtins y z k env at ty bi.New order ts h g = thens g (λ vs. builtins_of y z k env at ty bi.New ts (t.in_order [] order vs))
  run_builtins y z k env at ty bi.Make order ts h g = thens g (λ vs. builtins_of y z k env at ty bi.Make ts (t.in_order [] order vs))
  run_builtins y z k env at ty bi.Append order ts h g = thens g (λ vs. builtins_of y z k env at ty bi.Append ts (t.in_order [] order vs))
  run_builtins y z k env at ty bi.Reserve order ts h g = thens g (λ vs. builtins_of y z k env at ty bi.Reserve ts (t.in_order [] order vs))
  run_builtins y z k env at ty bi.Resize order ts h g = thens g (λ vs. builtins_of y z k env at ty bi.Resize ts (t.in_order [] order vs))
  run_builtins y z k env at ty bi.Delete order ts h g = thens g (λ vs. builtins_of y z k env at ty bi.Delete ts (t.in_order [] order vs))
  run_builtins y z k env at ty bi.Free order ts h g = thens g (λ vs. builtins_of y z k env at ty bi.Free ts (t.in_order [] order vs))
  run_builtins y z k env at ty bi.FreeAll order ts h g = thens g (λ vs. builtins_of y z k env at ty bi.FreeAll ts (t.in_order [] order vs))

  -- ---- places: whatever holds of the places of a node holds of those of its parts
  abbrev All : (Place → Type 0) → Type 0
  All At = (x : Place) → At x → In x

  pub at_here : (n : t.Expr) → d.InExpr (t.at_of n) n
  at_here (t.expr ty at k) = inl refl

  abbrev place_of : (n : t.Expr) → All (λ x. d.InExpr x n) → a.Within In
  place_of n ok = record { place = t.at_of n; inside = ok (t.at_of n) (at_here n) }

  module _ (y z : s.Calls) (w : a.SameCalls S Stops y z) where
    mutual
      pub bases : (env : s.Env) (n : t.Expr) → All (λ x. d.InExpr x n) → Same (e.base_of y env n) (e.base_of z env n)
      bases env (t.expr ty at k) ok = a.ticks In S Stops r (kinds env ty (record { place = at; inside = ok at (inl refl) }) k (λ x m. ok x (inr m)))

      pub values : (env : s.Env) (n : t.Expr) → All (λ x. d.InExpr x n) → Same (e.value_of y env n) (e.value_of z env n)
      values env (t.expr ty at k) ok = pl.values In S Stops r env (record { place = at; inside = ok at (inl refl) }) ty (a.ticks In S Stops r (kinds env ty (record { place = at; inside = ok at (inl refl) }) k (λ x m. ok x (inr m))))

      kinds : (env : s.Env) (ty : ℕ) (at : a.Within In) (k : t.Kind) → All (λ x. d.InKind x k) → Same (e.kind_of y env ty at.place k) (e.kind_of z env ty at.place k)
      kinds env ty at (t.const v) ok = pures _
      kinds env ty at (t.local i) ok = pures _
      kinds env ty at (t.global_ g) ok = pures _
      kinds env ty at (t.proc_value need) ok = pures _
      kinds env ty at t.context ok = pures _
      kinds env ty at (t.field n i) ok = pl.fields In S Stops r env at ty (t.ty n) i (bases env n ok)
      kinds env ty at (t.deref n) ok = pl.derefs In S Stops r env at ty (values env n ok)
      kinds env ty at (t.index n i) ok = pl.indices In S Stops r env at (t.ty n) (t.ty i) (bases env n (λ x m. ok x (inl m))) (values env i (λ x m. ok x (inr m)))
      kinds env ty at (t.cut n low high) ok = pl.cuts In S Stops r env at (t.ty n) (bases env n (λ x m. ok x (inl m))) (bounds env low (λ x m. ok x (inr (inl m)))) (bounds env high (λ x m. ok x (inr (inr m))))
      kinds env ty at (t.column n i) ok = pl.columns In S Stops r env at ty (t.ty n) i (bases env n ok)
      kinds env ty at (t.call need order es) ok = cl.calls_by_name In S Stops r y z w env need order (many env es ok)
      kinds env ty at (t.call_value marked n es) ok = cl.calls_by_value In S Stops r y z w env at marked (t.ty n) (values env n (λ x m. ok x (inl m))) (many env es (λ x m. ok x (inr m)))
      kinds env ty at (t.builtin which order es) ok = run_builtins y z w env at ty which order (t.in_order 0 order (t.tys es)) (firsts env at es ok) (many env es ok)
      kinds env ty at (t.or_return n variant) ok = cl.or_returns In S Stops r env at (t.ty n) variant (values env n ok)
      kinds env ty at (t.build home ps) ok = pl.builds In S Stops r env ty home (parts env (p.home_type env ty home) ps ok)
      kinds env ty at (t.unary op n) ok = ol.unaries In S Stops r env at ty op (values env n ok)
      kinds env ty at (t.binary op n m) ok = a.givens In S Stops r (ol.binaries In S Stops r env at op (t.ty n) (t.ty m) (values env n (λ x i. ok x (inl i))) (values env m (λ x i. ok x (inr i))))
      kinds env ty at (t.convert n) ok = ol.converts In S Stops r env at (t.ty n) ty (values env n ok)
      kinds env ty at (t.inject variant n) ok = ol.injects In S Stops r env ty variant (values env n ok)
      kinds env ty at (t.assert_ variant n) ok = ol.asserts In S Stops r env at (t.ty n) ty variant (values env n ok)
      kinds env ty at (t.test_ variant n) ok = ol.tests In S Stops r env at (t.ty n) ty variant (values env n ok)
      kinds env ty at (t.address_ n) ok = pl.addresses In S Stops r at (bases env n ok)
      kinds env ty at t.location ok = pures _
      kinds env ty at (t.help h es) ok = cl.helpers In S Stops r y z w env h (many env es ok)

      many : (env : s.Env) (es : t.Exprs) → All (λ x. d.InExprs x es) → Same (e.values_of y env es) (e.values_of z env es)
      many env t.none ok = pures []
      many env (t.more n es) ok = thens (values env n (λ x m. ok x (inl m))) (λ v. thens (many env es (λ x m. ok x (inr m))) (λ vs. pures (v ∷ vs)))

      firsts : (env : s.Env) (at : a.Within In) (es : t.Exprs) → All (λ x. d.InExprs x es) → Same (e.first_of y env at.place es) (e.first_of z env at.place es)
      firsts env at t.none ok = strays at
      firsts env at (t.more (t.expr ty at' k) es) ok = a.ticks In S Stops r (kinds env ty (record { place = at'; inside = ok at' (inl (inl refl)) }) k (λ x m. ok x (inl (inr m))))

      bounds : (env : s.Env) (m : t.Maybe) → All (λ x. d.InMaybe x m) → Same (e.bound_of y env m) (e.bound_of z env m)
      bounds env t.absent ok = pures None
      bounds env (t.present (t.expr ty at k)) ok = pl.bounds In S Stops r env (record { place = at; inside = ok at (inl refl) }) ty
          (pl.values In S Stops r env (record { place = at; inside = ok at (inl refl) }) ty (a.ticks In S Stops r (kinds env ty (record { place = at; inside = ok at (inl refl) }) k (λ x m. ok x (inr m)))))

      parts : (env : s.Env) (ty : ℕ) (ps : t.Parts) → All (λ x. d.InParts x ps) → Same (e.parts_of y env ty ps) (e.parts_of z env ty ps)
      parts env ty t.no_parts ok = pl.nothing_built In S Stops r env ty
      parts env ty (t.part o n ps) ok = pl.parts In S Stops r env ty o (values env n (λ x m. ok x (inl m))) (parts env ty ps (λ x m. ok x (inr m)))

    truths_of : (env : s.Env) (n : t.Expr) → All (λ x. d.InExpr x n) → Same (e.truth_of y env n) (e.truth_of z env n)
    truths_of env n ok = thens (values env n ok) (λ v. pl.truths In S Stops r (place_of n ok) v)

    rights : (env : s.Env) (v : t.Rights) → All (λ x. d.InRights x v) → Same (x.rights_of y env v) (x.rights_of z env v)
    rights env (t.each es) ok = many env es ok
    rights env (t.parted ts n) ok = thens (values env n ok) (λ v. cl.parts_taken In S Stops r env ts v)
    rights env t.nothing ok = pures []

    places : (env : s.Env) (ls : t.Lefts) → All (λ x. d.InLefts x ls) → Same (x.places_of y env ls) (x.places_of z env ls)
    places env t.no_lefts ok = pures []
    places env (t.left_ n ls) ok = thens (pl.as_lefts In S Stops r (place_of n (λ x m. ok x (inl m))) (bases env n (λ x m. ok x (inl m)))) (λ i. thens (places env ls (λ x m. ok x (inr m))) (λ is. pures (Some i ∷ is)))
    places env (t.dropped ls) ok = thens (places env ls ok) (λ is. pures (None ∷ is))

    conditions : (env : s.Env) (m : t.Maybe) → All (λ x. d.InMaybe x m) → Same (x.condition_of y env m) (x.condition_of z env m)
    conditions env t.absent ok = pures true
    conditions env (t.present n) ok = truths_of env n ok

    subjects : (env : s.Env) (m : t.Maybe) → All (λ x. d.InMaybe x m) → Same (x.subject_of y env m) (x.subject_of z env m)
    subjects env t.absent ok = pures None
    subjects env (t.present n) ok = thens (values env n ok) (λ v. pures (Some v))

    items : (env : s.Env) (is : t.Items) → All (λ x. d.InItems x is) → (v : Option Value) → Same (x.items_test y env is v) (x.items_test z env is v)
    items env t.no_items ok v = pures false
    items env (t.item n is) ok v = b.tried In S Stops r (b.item_tests In S Stops r env (place_of n (λ x m. ok x (inl m))) (t.ty n) (values env n (λ x m. ok x (inl m))) v) (items env is (λ x m. ok x (inr m)) v)
    items env (t.span n m closed is) ok v =
        b.tried In S Stops r (b.span_tests In S Stops r env (place_of n (λ x i. ok x (inl i))) (t.ty n) closed (values env n (λ x i. ok x (inl i))) (values env m (λ x i. ok x (inr (inl i)))) v) (items env is (λ x i. ok x (inr (inr i))) v)

    case_tests : (env : s.Env) (cs : t.Cases) → All (λ x. d.InCases x cs) → b.SameTests In S Stops r (x.tests_of y env cs) (x.tests_of z env cs)
    case_tests env t.no_cases ok = b.no_tests
    case_tests env (t.one_case is body cs) ok = b.a_test (λ v. items env is (λ x m. ok x (inl m)) v) (case_tests env cs (λ x m. ok x (inr (inr m))))
    case_tests env (t.default_case body cs) ok = b.a_default (case_tests env cs (λ x m. ok x (inr m)))

    tag_tests : (env : s.Env) (at : a.Within In) (ty : ℕ) (cs : t.TypeCases) → b.SameTests In S Stops r (x.type_tests env at.place ty cs) (x.type_tests env at.place ty cs)
    tag_tests env at ty t.no_types = b.no_tests
    tag_tests env at ty (t.type_case variants i body cs) = b.a_test (λ v. b.variant_tests In S Stops r env at ty variants v) (tag_tests env at ty cs)
    tag_tests env at ty (t.default_type i body cs) = b.a_default (tag_tests env at ty cs)

    module _ (n m : ℕ) (g : b.Fuels Stops n m) where
      mutual
        pub execs : (env : s.Env) (ss : t.Stmts) → All (λ x. d.InStmts x ss) → b.SamePart In S Stops r (x.execs n y env ss) (x.execs m z env ss)
        execs env t.finish ok = record { by = λ c. (b.lefts In S Stops r f.falls).by c }
        execs env (t.follow i ss) ok = record { by = λ c. (b.steps In S Stops r (x.later n y env i) (x.later m z env i) (later env i (λ x m. ok x (inl m))) (exec env i (λ x m. ok x (inl m))) (execs env ss (λ x m. ok x (inr m)))).by c }

        pub exec : (env : s.Env) (i : t.Stmt) → All (λ x. d.InStmt x i) → b.SamePart In S Stops r (x.exec n y env i) (x.exec m z env i)
        exec env (t.stmt at k) ok = record { by = λ c. a.ticks In S Stops r (form env (record { place = at; inside = ok at (inl refl) }) k (λ x m. ok x (inr m)) c) }

        form : (env : s.Env) (at : a.Within In) (k : t.Form) → All (λ x. d.InForm x k) → (c : s.Context) → Same (x.form_of n y env at.place k c) (x.form_of m z env at.place k c)
        form env at (t.declare xs v) ok c = b.declares In S Stops r env xs (rights (s.in_context_of env c) v ok) c
        form env at (t.assign ls v) ok c = b.assigns In S Stops r at env (rights (s.in_context_of env c) v (λ x m. ok x (inr m))) (places (s.in_context_of env c) ls (λ x m. ok x (inl m))) c
        form env at (t.change op i j) ok c =
            b.changes In S Stops r at (place_of i (λ x m. ok x (inl m))) (s.in_context_of env c) op (t.ty i) (t.ty j) (pl.as_spots In S Stops r (place_of i (λ x m. ok x (inl m))) (bases (s.in_context_of env c) i (λ x m. ok x (inl m)))) (values (s.in_context_of env c) j (λ x m. ok x (inr m))) c
        form env at (t.eval i) ok c = b.evals In S Stops r (values (s.in_context_of env c) i ok) c
        form env at (t.block l body) ok c = (b.blocks In S Stops r l (execs env body ok)).by c
        form env at (t.if_ init i body other) ok c =
            (b.conditionals In S Stops r (maybe env init (λ x m. ok x (inl (inl m)))) (λ d. truths_of (s.in_context_of env d) i (λ x m. ok x (inl (inr m)))) (execs env body (λ x m. ok x (inr (inl m)))) (execs env other (λ x m. ok x (inr (inr m))))).by c
        form env at (t.loop l init i post body) ok c =
            (b.loops In S Stops r n m l g (maybe env init (λ x m. ok x (inl (inl m)))) (λ d. conditions (s.in_context_of env d) i (λ x m. ok x (inl (inr m)))) (maybe env post (λ x m. ok x (inr (inl m)))) (execs env body (λ x m. ok x (inr (inr m))))).by c
        form env at (t.range l (t.from_to i j closed) h k body) ok c =
            b.spans In S Stops r env at (t.ty i) l h k closed (values (s.in_context_of env c) i (λ x m. ok x (inl (inl m)))) (values (s.in_context_of env c) j (λ x m. ok x (inl (inr m)))) (λ env. execs env body (λ x m. ok x (inr m))) c
        form env at (t.range l (t.through i by_place) h k body) ok c =
            b.throughs In S Stops r env at (place_of i (λ x m. ok x (inl m))) (t.ty i) (x.element_type (s.shape_of env (t.ty i))) l h k by_place (bases (s.in_context_of env c) i (λ x m. ok x (inl m))) (λ env. execs env body (λ x m. ok x (inr m))) c
        form env at (t.switch l init i cs) ok c =
            (b.headers In S Stops r (maybe env init (λ x m. ok x (inl (inl m)))) (record { by = λ d. (b.cases In S Stops r l (λ e. subjects (s.in_context_of env e) i (λ x m. ok x (inl (inr m)))) (case_tests (s.in_context_of env d) cs (λ x m. ok x (inr m))) (bodies env cs (λ x m. ok x (inr m)))).by d })).by c
        form env at (t.type_switch l i cs) ok c = (b.type_cases In S Stops r l (λ d. values (s.in_context_of env d) i (λ x m. ok x (inl m))) (tag_tests env at (t.ty i) cs) (type_bodies env at cs (λ x m. ok x (inr m)))).by c
        form env at (t.defer i) ok c = (exec env i ok).by c
        form env at (t.return v) ok c = b.returns In S Stops r at env (rights (s.in_context_of env c) v ok) c
        form env at (t.break_ l) ok c = (b.lefts In S Stops r (f.breaks l)).by c
        form env at (t.continue_ l) ok c = (b.lefts In S Stops r (f.continues l)).by c
        form env at t.fallthrough ok c = (b.lefts In S Stops r f.passes).by c
        form env at (t.counted bound l i body) ok c = (b.counted_loops In S Stops r bound l (λ d. truths_of (s.in_context_of env d) i (λ x m. ok x (inl m))) (b.scopes In S Stops r (execs env body (λ x m. ok x (inr m))))).by c

        maybe : (env : s.Env) (i : t.MaybeStmt) → All (λ x. d.InMaybeStmt x i) → b.SamePart In S Stops r (x.maybe n y env i) (x.maybe m z env i)
        maybe env t.no_stmt ok = b.lefts In S Stops r f.falls
        maybe env (t.some_stmt i) ok = exec env i ok

        later : (env : s.Env) (i : t.Stmt) → All (λ x. d.InStmt x i) → b.SameLate In S Stops r (x.later n y env i) (x.later m z env i)
        later env (t.stmt at k) ok = later_form env k (λ x m. ok x (inr m))

        later_form : (env : s.Env) (k : t.Form) → All (λ x. d.InForm x k) → b.SameLate In S Stops r (x.later_form n y env k) (x.later_form m z env k)
        later_form env (t.defer i) ok = b.are_late (exec env i ok)
        later_form env _ ok = b.not_late

        bodies : (env : s.Env) (cs : t.Cases) → All (λ x. d.InCases x cs) → b.SameParts In S Stops r (x.bodies n y env cs) (x.bodies m z env cs)
        bodies env t.no_cases ok = b.no_parts
        bodies env (t.one_case is body cs) ok = b.and_part (b.scopes In S Stops r (execs env body (λ x m. ok x (inr (inl m))))) (bodies env cs (λ x m. ok x (inr (inr m))))
        bodies env (t.default_case body cs) ok = b.and_part (b.scopes In S Stops r (execs env body (λ x m. ok x (inl m)))) (bodies env cs (λ x m. ok x (inr m)))

        type_bodies : (env : s.Env) (at : a.Within In) (cs : t.TypeCases) → All (λ x. d.InTypes x cs) → b.SameBodies In S Stops r (x.type_bodies n y env at.place cs) (x.type_bodies m z env at.place cs)
        type_bodies env at t.no_types ok = b.no_bodies
        type_bodies env at (t.type_case variants i body cs) ok = b.and_body (λ v. b.named_bodies In S Stops r env at i (execs env body (λ x m. ok x (inl m))) v) (type_bodies env at cs (λ x m. ok x (inr m)))
        type_bodies env at (t.default_type i body cs) ok = b.and_body (λ v. b.named_bodies In S Stops r env at i (execs env body (λ x m. ok x (inl m))) v) (type_bodies env at cs (λ x m. ok x (inr m)))

  -- ---- procedures
  parameters : (env : s.Env) (i : ℕ) (vs : List Value) → Same (x.begin_parameters env i vs) (x.begin_parameters env i vs)
  parameters env i [] = pures {A = Unit {0}} tt
  parameters env i (v ∷ vs) = thens (a.local_begins In S Stops r env i v) (λ _. parameters env (i + 1) vs)

  results : (env : s.Env) (i n : ℕ) → Same (x.begin_results env i n) (x.begin_results env i n)
  results env i zero = pures {A = Unit {0}} tt
  results env i (suc n) = thens (a.local_begins In S Stops r env i (zeros (s.size_of env (s.local_of env i).ty))) (λ _. results env (i + 1) n)

  answers_at : (env : s.Env) → In env.proc.at → (i : ℕ) → Same (x.answer_at env i) (x.answer_at env i)
  answers_at env ok i = thens (pl.read_spots In S Stops r env (record { place = env.proc.at; inside = ok }) (env.storage i) (s.size_of env (s.local_of env i).ty))
      (λ v. pl.as_reads In S Stops r (record { place = env.proc.at; inside = ok }) (s.shape_of env (s.local_of env i).ty) v)

  answers : (env : s.Env) → In env.proc.at → (i n : ℕ) → Same (x.answers env i n) (x.answers env i n)
  answers env ok i zero = pures []
  answers env ok i (suc n) = thens (answers_at env ok i) (λ v. thens (answers env ok (i + 1) n) (λ vs. pures _))

  pub body_runs : {y z : f.Part} → b.SamePart In S Stops r y z → (vs : List Value) (env : s.Env) → In env.proc.at → Same (x.body_run y vs env) (x.body_run z vs env)
  body_runs h vs env ok = thens (thens (thens (parameters env 0 vs) (λ _. results env env.proc.parameters env.proc.results)) (λ _. (b.scopes In S Stops r h).by env.context))
      (λ l. answers env ok env.proc.parameters env.proc.results)

  -- a body that two runs have alike, whatever stands in it: this is where a pass enters
  pub activations : {y z : f.Part} → b.SamePart In S Stops r y z → (vs : List Value) (env : s.Env) → In env.proc.at → Same (x.activation y vs env) (x.activation z vs env)
  activations h vs env ok = thens (body_runs h vs env ok) (λ v. thens (r.closes env.serial) (λ _. pures v))

  pub helper_runs : {y z : f.Part} → b.SamePart In S Stops r y z → (vs : List Value) (env : s.Env) → In env.proc.at → Same (x.helper_run y vs env) (x.helper_run z vs env)
  helper_runs h vs env ok = thens (body_runs h vs env ok) (λ v. thens (r.closes_from env.serial env.low) (λ _. pures v))

  pub helps : (n m : ℕ) → b.Fuels Stops n m → (ys : List q.Helper) → All (λ x. d.InHelpers x ys) → (h : ℕ) (vs : List Value) (env : s.Env) → Same (x.helps n ys h vs env) (x.helps m ys h vs env)
  helps n m g [] ok h vs env = a.halted In S Stops r (s.ends going) tt
  helps n m g (y ∷ ys) ok zero vs env = helper_runs (execs (record { call = x.no_call; help = x.helps n ys }) (record { call = x.no_call; help = x.helps m ys })
      (record { by = λ f i j us d low k. a.halted In S Stops r (s.ends going) tt; helps = λ h us env. helps n m g ys (λ x m. ok x (inr (inr m))) h us env }) n m g (x.env_in env y.head) y.body (λ x m. ok x (inr (inl m)))) vs (x.env_in env y.head) (ok y.head.at (inl refl))
  helps n m g (y ∷ ys) ok (suc h) vs env = helps n m g ys (λ x m. ok x (inr (inr m))) h vs env

  -- a procedure that is there, and its body
  abbrev pub HeadOk : Option q.Head → Type 0
  HeadOk None = Unit {0}
  HeadOk (Some h) = In h.at

  abbrev pub BodyOk : Option q.Body → Type 0
  BodyOk None = Unit {0}
  BodyOk (Some k) = All (λ x. d.InBody x k)

  pub enters : (y z : s.Calls) → a.SameCalls S Stops y z → (n m : ℕ) → b.Fuels Stops n m → (ts : q.Tables) (i : ℕ) (h : Option q.Head) (k : Option q.Body) → HeadOk h → BodyOk k → (vs : List Value) (d : s.Context) (low : ℕ) →
      Same (x.enter n y ts i h k vs d low) (x.enter m z ts i h k vs d low)
  enters y z w n m g ts i (Some h) (Some k) ok oks vs d low = ifs (x.fits_stack low h.frame)
      (thens r.serials (λ j. activations (execs (record { call = y.call; help = x.helps n k.helpers }) (record { call = z.call; help = x.helps m k.helpers })
      (record { by = w.by; helps = helps n m g k.helpers (λ x m. oks x (inr m)) }) n m g (x.env_of ts h i j (low - h.frame) d) k.stmts (λ x m. oks x (inl m))) vs (x.env_of ts h i j (low - h.frame) d) ok))
      (fails check.Stack (record { place = h.at; inside = ok }))
  enters y z w n m g ts i None k ok oks vs d low = a.halted In S Stops r (s.ends going) tt
  enters y z w n m g ts i (Some h) None ok oks vs d low = a.halted In S Stops r (s.ends going) tt

  head_of : (hs : List q.Head) → All (λ x. d.InHeads x hs) → (i : ℕ) → HeadOk (slice_get hs i)
  head_of [] ok i = tt
  head_of (h ∷ hs) ok zero = ok h.at (inl refl)
  head_of (h ∷ hs) ok (suc i) = head_of hs (λ x m. ok x (inr m)) i

  body_of : (bs : List q.Body) → All (λ x. d.InBodies x bs) → (i : ℕ) → BodyOk (slice_get bs i)
  body_of [] ok i = tt
  body_of (k ∷ bs) ok zero = λ x m. ok x (inl m)
  body_of (k ∷ bs) ok (suc i) = body_of bs (λ x m. ok x (inr m)) i

  module _ (p : q.Program) (ok : All (λ x. d.InProgram x p)) where
    heads_ok : (i : ℕ) → HeadOk (slice_get p.tables.procedures i)
    heads_ok i = head_of p.tables.procedures (λ x m. ok x (inl m)) i

    bodies_ok : (i : ℕ) → BodyOk (slice_get p.bodies i)
    bodies_ok i = body_of p.bodies (λ x m. ok x (inr m)) i

    pub calls : (n m : ℕ) → b.Fuels Stops n m → a.SameCalls S Stops (x.calls_of p n) (x.calls_of p m)
    calls zero zero g = record { by = λ f i j vs d low h. a.halted In S Stops r (s.ends going) tt; helps = λ h vs env. a.halted In S Stops r (s.ends going) tt }
    calls zero (suc m) g = record { by = λ f i j vs d low h. record { by = λ u v k. g u (a.tail (x.call_of p (suc m) f j vs d low v)) }; helps = λ h vs env. a.halted In S Stops r (s.ends going) tt }
    calls (suc n) zero g = absurd g
    calls (suc n) (suc m) g = record {
      by = λ f i j vs d low h. thens r.turns (λ _. thens h (λ _.
          enters (x.calls_of p n) (x.calls_of p m) (calls n m g) n m g p.tables f (slice_get p.tables.procedures f) (slice_get p.bodies f) (heads_ok f) (bodies_ok f) vs d low));
      helps = λ h vs env. a.halted In S Stops r (s.ends going) tt;
    }

    pub runs : (n m : ℕ) → b.Fuels Stops n m → Same (x.main_run p n) (x.main_run p m)
    runs n m g = enters (x.calls_of p n) (x.calls_of p m) (calls n m g) n m g p.tables p.main (slice_get p.tables.procedures p.main) (slice_get p.bodies p.main) (heads_ok p.main) (bodies_ok p.main) [] (Some (s.first_context p.tables)) x.stack_end
