-- A program that is rewritten by a rule: where a relation on runs takes what the rule makes of a node in the place of the
-- node, it is kept by the whole run.
use Rattle.std.proofs.Common.{◌≡◌, ℕ, zero, suc, true, false, List, [], ◌∷◌, refl, subst, sym, ap}
use Rattle.std.specs.Prelude.{Option, Some, None, ◌-◌, slice_get}
use Rattle.odc_text.specs.declared.place.Place.{Place}
use Rattle.odc_text.specs.declared.check.Check.TheVariants as check
use Rattle.odc_text.specs.Run.{going}
use Rattle.odc_program.specs.declared.ops.Builtin.{Builtin}
use Rattle.odc_program.specs.States.Run.{pure, ◌>>=◌}
use Rattle.odc_program.specs.States.Bytes.{Value}
use Rattle.odc_program.specs.Trees.Tree as t
use Rattle.odc_program.specs.Trees.Program as q
use Rattle.odc_program.specs.States.State as s
use Rattle.odc_program.specs.Kinds.Places as p
use Rattle.odc_program.specs.Kinds.Expressions as e
use Rattle.odc_program.specs.Runs.Statements as f
use Rattle.odc_program.specs.Runs.Source as x
use Rattle.odc_program_laws.specs.Rewriting as d
use Rattle.odc_program_laws.proofs.Alike as a
use Rattle.odc_program_laws.proofs.PlacesAlike as pl
use Rattle.odc_program_laws.proofs.OperatorsAlike as ol
use Rattle.odc_program_laws.proofs.CallsAlike as cl
use Rattle.odc_program_laws.proofs.StatementsAlike as b
use Rattle.odc_program_laws.proofs.Whole as u

-- no place is asked for
abbrev pub Anywhere : Place → Type 0
Anywhere at = Unit {0}

abbrev here : Place → a.Within Anywhere
here at = record { place = at; inside = tt }

-- what a relation must take from a rule, over calls that are good for it
pub record Takes (S : s.State → s.State → Type 0) (Stops : s.Leave → s.State → a.Tail → Type 0) (r : a.Alike Anywhere S Stops) (rule : d.Rule) : Type 1 where
  pub Good : s.Calls → Type 0
  pub good : (y z : s.Calls) → a.SameCalls S Stops y z → Good z
  pub kinds : (z : s.Calls) → Good z → (env : s.Env) (ty : ℕ) (at : Place) (k : t.Kind) {m : s.Do s.Base} → a.Like S Stops m (e.base_of z env (t.expr ty at k)) → a.Like S Stops m (e.base_of z env (t.expr ty at (rule.kind ty at k)))
  pub forms : (n : ℕ) (z : s.Calls) → Good z → (env : s.Env) (at : Place) (k : t.Form) {f : f.Part} → b.SamePart Anywhere S Stops r f (x.exec n z env (t.stmt at k)) → b.SamePart Anywhere S Stops r f (x.exec n z env (t.stmt at (rule.form at k)))
  pub laters : (n : ℕ) (z : s.Calls) → Good z → (env : s.Env) (at : Place) (k : t.Form) (o : Option f.Part) → b.SameLate Anywhere S Stops r o (x.later_form n z env k) → b.SameLate Anywhere S Stops r o (x.later_form n z env (rule.form at k))

module _ (S : s.State → s.State → Type 0) (Stops : s.Leave → s.State → a.Tail → Type 0) (r : a.Alike Anywhere S Stops) (rule : d.Rule) (takes : Takes S Stops r rule) where
  abbrev pub Same : {A : Type 0} → s.Do A → s.Do A → Type 0
  Same m n = a.Like S Stops m n

  thens : {A B : Type 0} {m n : s.Do A} {f g : A → s.Do B} → Same m n → ((x : A) → Same (f x) (g x)) → Same (m >>= f) (n >>= g)
  thens h k = a.thens Anywhere S Stops r h k

  pures : {A : Type 0} (x : A) → Same (pure x) (pure x)
  pures x = a.pures Anywhere S Stops r x

  tys_by : (es : t.Exprs) → t.tys (d.exprs_by rule es) ≡ t.tys es
  tys_by t.none = refl
  tys_by (t.more (t.expr ty at k) es) = ap (λ ts. ty ∷ ts) (tys_by es)

  module _ (y z : s.Calls) (w : a.SameCalls S Stops y z) where
    built_in : (env : s.Env) (ty : ℕ) (at : Place) (which : Builtin) (order : List ℕ) (es : t.Exprs) → Same (e.first_of y env at es) (e.first_of z env at (d.exprs_by rule es)) → Same (e.values_of y env es) (e.values_of z env (d.exprs_by rule es)) →
        Same (e.kind_of y env ty at (t.builtin which order es)) (e.kind_of z env ty at (t.builtin which order (d.exprs_by rule es)))
    built_in env ty at which order es h k = subst (λ ts. Same (e.kind_of y env ty at (t.builtin which order es)) (e.run_builtin z env at ty which order (t.in_order 0 order ts) (e.first_of z env at (d.exprs_by rule es)) (e.values_of z env (d.exprs_by rule es)))) (sym (tys_by es))
        (u.run_builtins Anywhere S Stops r y z w env (here at) ty which order (t.in_order 0 order (t.tys es)) h k)

    made : (env : s.Env) (ty : ℕ) (at : Place) (k : t.Kind) → Same (e.kind_of y env ty at k) (e.kind_of z env ty at (d.kind_by rule k)) → Same (e.base_of y env (t.expr ty at k)) (e.base_of z env (d.expr_by rule (t.expr ty at k)))
    made env ty at k h = takes.kinds z (takes.good y z w) env ty at (d.kind_by rule k) (a.ticks Anywhere S Stops r h)

    made_value : (env : s.Env) (ty : ℕ) (at : Place) (k : t.Kind) → Same (e.kind_of y env ty at k) (e.kind_of z env ty at (d.kind_by rule k)) → Same (e.value_of y env (t.expr ty at k)) (e.value_of z env (d.expr_by rule (t.expr ty at k)))
    made_value env ty at k h = pl.values Anywhere S Stops r env (here at) ty (made env ty at k h)

    mutual
      pub bases : (env : s.Env) (n : t.Expr) → Same (e.base_of y env n) (e.base_of z env (d.expr_by rule n))
      bases env (t.expr ty at k) = made env ty at k (kinds env ty at k)

      pub values : (env : s.Env) (n : t.Expr) → Same (e.value_of y env n) (e.value_of z env (d.expr_by rule n))
      values env (t.expr ty at k) = made_value env ty at k (kinds env ty at k)

      kinds : (env : s.Env) (ty : ℕ) (at : Place) (k : t.Kind) → Same (e.kind_of y env ty at k) (e.kind_of z env ty at (d.kind_by rule k))
      kinds env ty at (t.const v) = pures _
      kinds env ty at (t.local i) = pures _
      kinds env ty at (t.global_ g) = pures _
      kinds env ty at (t.proc_value need) = pures _
      kinds env ty at t.context = pures _
      kinds env ty at (t.field (t.expr ty' at' k) i) = pl.fields Anywhere S Stops r env (here at) ty ty' i (made env ty' at' k (kinds env ty' at' k))
      kinds env ty at (t.deref n) = pl.derefs Anywhere S Stops r env (here at) ty (values env n)
      kinds env ty at (t.index (t.expr ty' at' k) (t.expr ty'' at'' i)) = pl.indices Anywhere S Stops r env (here at) ty' ty'' (made env ty' at' k (kinds env ty' at' k)) (made_value env ty'' at'' i (kinds env ty'' at'' i))
      kinds env ty at (t.cut (t.expr ty' at' k) low high) = pl.cuts Anywhere S Stops r env (here at) ty' (made env ty' at' k (kinds env ty' at' k)) (bounds env low) (bounds env high)
      kinds env ty at (t.column (t.expr ty' at' k) i) = pl.columns Anywhere S Stops r env (here at) ty ty' i (made env ty' at' k (kinds env ty' at' k))
      kinds env ty at (t.call need order es) = cl.calls_by_name Anywhere S Stops r y z w env need order (many env es)
      kinds env ty at (t.call_value marked (t.expr ty' at' k) es) = cl.calls_by_value Anywhere S Stops r y z w env (here at) marked ty' (made_value env ty' at' k (kinds env ty' at' k)) (many env es)
      kinds env ty at (t.builtin which order es) = built_in env ty at which order es (firsts env at es) (many env es)
      kinds env ty at (t.or_return (t.expr ty' at' k) variant) = cl.or_returns Anywhere S Stops r env (here at) ty' variant (made_value env ty' at' k (kinds env ty' at' k))
      kinds env ty at (t.build home ps) = pl.builds Anywhere S Stops r env ty home (parts env (p.home_type env ty home) ps)
      kinds env ty at (t.unary op n) = ol.unaries Anywhere S Stops r env (here at) ty op (values env n)
      kinds env ty at (t.binary op (t.expr ty' at' k) (t.expr ty'' at'' i)) = a.givens Anywhere S Stops r (ol.binaries Anywhere S Stops r env (here at) op ty' ty'' (made_value env ty' at' k (kinds env ty' at' k)) (made_value env ty'' at'' i (kinds env ty'' at'' i)))
      kinds env ty at (t.convert (t.expr ty' at' k)) = ol.converts Anywhere S Stops r env (here at) ty' ty (made_value env ty' at' k (kinds env ty' at' k))
      kinds env ty at (t.inject variant n) = ol.injects Anywhere S Stops r env ty variant (values env n)
      kinds env ty at (t.assert_ variant (t.expr ty' at' k)) = ol.asserts Anywhere S Stops r env (here at) ty' ty variant (made_value env ty' at' k (kinds env ty' at' k))
      kinds env ty at (t.test_ variant (t.expr ty' at' k)) = ol.tests Anywhere S Stops r env (here at) ty' ty variant (made_value env ty' at' k (kinds env ty' at' k))
      kinds env ty at (t.address_ n) = pl.addresses Anywhere S Stops r (here at) (bases env n)
      kinds env ty at t.location = pures _
      kinds env ty at (t.help h es) = cl.helpers Anywhere S Stops r y z w env h (many env es)

      many : (env : s.Env) (es : t.Exprs) → Same (e.values_of y env es) (e.values_of z env (d.exprs_by rule es))
      many env t.none = pures []
      many env (t.more n es) = thens (values env n) (λ v. thens (many env es) (λ vs. pures (v ∷ vs)))

      firsts : (env : s.Env) (at : Place) (es : t.Exprs) → Same (e.first_of y env at es) (e.first_of z env at (d.exprs_by rule es))
      firsts env at t.none = a.strays Anywhere S Stops r (here at)
      firsts env at (t.more (t.expr ty at' k) es) = made env ty at' k (kinds env ty at' k)

      bounds : (env : s.Env) (m : t.Maybe) → Same (e.bound_of y env m) (e.bound_of z env (d.maybe_by rule m))
      bounds env t.absent = pures None
      bounds env (t.present (t.expr ty at k)) = pl.bounds Anywhere S Stops r env (here at) ty (made_value env ty at k (kinds env ty at k))

      parts : (env : s.Env) (ty : ℕ) (ps : t.Parts) → Same (e.parts_of y env ty ps) (e.parts_of z env ty (d.parts_by rule ps))
      parts env ty t.no_parts = pl.nothing_built Anywhere S Stops r env ty
      parts env ty (t.part o n ps) = pl.parts Anywhere S Stops r env ty o (values env n) (parts env ty ps)

    truths_of : (env : s.Env) (n : t.Expr) → Same (e.truth_of y env n) (e.truth_of z env (d.expr_by rule n))
    truths_of env (t.expr ty at k) = thens (values env (t.expr ty at k)) (λ v. pl.truths Anywhere S Stops r (here at) v)

    rights : (env : s.Env) (v : t.Rights) → Same (x.rights_of y env v) (x.rights_of z env (d.rights_by rule v))
    rights env (t.each es) = many env es
    rights env (t.parted ts n) = thens (values env n) (λ v. cl.parts_taken Anywhere S Stops r env ts v)
    rights env t.nothing = pures []

    places : (env : s.Env) (ls : t.Lefts) → Same (x.places_of y env ls) (x.places_of z env (d.lefts_by rule ls))
    places env t.no_lefts = pures []
    places env (t.left_ (t.expr ty at k) ls) = thens (pl.as_lefts Anywhere S Stops r (here at) (bases env (t.expr ty at k))) (λ i. thens (places env ls) (λ is. pures (Some i ∷ is)))
    places env (t.dropped ls) = thens (places env ls) (λ is. pures (None ∷ is))

    conditions : (env : s.Env) (m : t.Maybe) → Same (x.condition_of y env m) (x.condition_of z env (d.maybe_by rule m))
    conditions env t.absent = pures true
    conditions env (t.present n) = truths_of env n

    subjects : (env : s.Env) (m : t.Maybe) → Same (x.subject_of y env m) (x.subject_of z env (d.maybe_by rule m))
    subjects env t.absent = pures None
    subjects env (t.present n) = thens (values env n) (λ v. pures (Some v))

    items : (env : s.Env) (is : t.Items) (v : Option Value) → Same (x.items_test y env is v) (x.items_test z env (d.items_by rule is) v)
    items env t.no_items v = pures false
    items env (t.item (t.expr ty at k) is) v = b.tried Anywhere S Stops r (b.item_tests Anywhere S Stops r env (here at) ty (values env (t.expr ty at k)) v) (items env is v)
    items env (t.span (t.expr ty at k) m closed is) v = b.tried Anywhere S Stops r (b.span_tests Anywhere S Stops r env (here at) ty closed (values env (t.expr ty at k)) (values env m) v) (items env is v)

    case_tests : (env : s.Env) (cs : t.Cases) → b.SameTests Anywhere S Stops r (x.tests_of y env cs) (x.tests_of z env (d.cases_by rule cs))
    case_tests env t.no_cases = b.no_tests
    case_tests env (t.one_case is body cs) = b.a_test (λ v. items env is v) (case_tests env cs)
    case_tests env (t.default_case body cs) = b.a_default (case_tests env cs)

    tag_tests : (env : s.Env) (at : Place) (ty : ℕ) (cs : t.TypeCases) → b.SameTests Anywhere S Stops r (x.type_tests env at ty cs) (x.type_tests env at ty (d.types_by rule cs))
    tag_tests env at ty t.no_types = b.no_tests
    tag_tests env at ty (t.type_case variants i body cs) = b.a_test (λ v. b.variant_tests Anywhere S Stops r env (here at) ty variants v) (tag_tests env at ty cs)
    tag_tests env at ty (t.default_type i body cs) = b.a_default (tag_tests env at ty cs)

    module _ (n m : ℕ) (g : b.Fuels Stops n m) where
      mutual
        pub execs : (env : s.Env) (ss : t.Stmts) → b.SamePart Anywhere S Stops r (x.execs n y env ss) (x.execs m z env (d.stmts_by rule ss))
        execs env t.finish = record { by = λ c. (b.lefts Anywhere S Stops r f.falls).by c }
        execs env (t.follow i ss) = record { by = λ c. (b.steps Anywhere S Stops r (x.later n y env i) (x.later m z env (d.stmt_by rule i)) (later env i) (exec env i) (execs env ss)).by c }

        exec : (env : s.Env) (i : t.Stmt) → b.SamePart Anywhere S Stops r (x.exec n y env i) (x.exec m z env (d.stmt_by rule i))
        exec env (t.stmt at k) = takes.forms m z (takes.good y z w) env at (d.form_by rule k) (record { by = λ c. a.ticks Anywhere S Stops r (form env at k c) })

        form : (env : s.Env) (at : Place) (k : t.Form) (c : s.Context) → Same (x.form_of n y env at k c) (x.form_of m z env at (d.form_by rule k) c)
        form env at (t.declare xs v) c = b.declares Anywhere S Stops r env xs (rights (s.in_context_of env c) v) c
        form env at (t.assign ls v) c = b.assigns Anywhere S Stops r (here at) env (rights (s.in_context_of env c) v) (places (s.in_context_of env c) ls) c
        form env at (t.change op (t.expr ty at' i) (t.expr ty'' at'' j)) c =
            b.changes Anywhere S Stops r (here at) (here at') (s.in_context_of env c) op ty ty'' (pl.as_spots Anywhere S Stops r (here at') (bases (s.in_context_of env c) (t.expr ty at' i))) (values (s.in_context_of env c) (t.expr ty'' at'' j)) c
        form env at (t.eval i) c = b.evals Anywhere S Stops r (values (s.in_context_of env c) i) c
        form env at (t.block l body) c = (b.blocks Anywhere S Stops r l (execs env body)).by c
        form env at (t.if_ init i body other) c = (b.conditionals Anywhere S Stops r (maybe env init) (λ d. truths_of (s.in_context_of env d) i) (execs env body) (execs env other)).by c
        form env at (t.loop l init i post body) c = (b.loops Anywhere S Stops r n m l g (maybe env init) (λ d. conditions (s.in_context_of env d) i) (maybe env post) (execs env body)).by c
        form env at (t.range l (t.from_to (t.expr ty at' i) j closed) h k body) c =
            b.spans Anywhere S Stops r env (here at) ty l h k closed (values (s.in_context_of env c) (t.expr ty at' i)) (values (s.in_context_of env c) j) (λ env. execs env body) c
        form env at (t.range l (t.through (t.expr ty at' i) by_place) h k body) c =
            b.throughs Anywhere S Stops r env (here at) (here at') ty (x.element_type (s.shape_of env ty)) l h k by_place (bases (s.in_context_of env c) (t.expr ty at' i)) (λ env. execs env body) c
        form env at (t.switch l init i cs) c =
            (b.headers Anywhere S Stops r (maybe env init) (record { by = λ d. (b.cases Anywhere S Stops r l (λ e. subjects (s.in_context_of env e) i) (case_tests (s.in_context_of env d) cs) (bodies env cs)).by d })).by c
        form env at (t.type_switch l (t.expr ty at' i) cs) c = (b.type_cases Anywhere S Stops r l (λ d. values (s.in_context_of env d) (t.expr ty at' i)) (tag_tests env at ty cs) (type_bodies env at cs)).by c
        form env at (t.defer i) c = (exec env i).by c
        form env at (t.return v) c = b.returns Anywhere S Stops r (here at) env (rights (s.in_context_of env c) v) c
        form env at (t.break_ l) c = (b.lefts Anywhere S Stops r (f.breaks l)).by c
        form env at (t.continue_ l) c = (b.lefts Anywhere S Stops r (f.continues l)).by c
        form env at t.fallthrough c = (b.lefts Anywhere S Stops r f.passes).by c
        form env at (t.counted bound l i body) c = (b.counted_loops Anywhere S Stops r bound l (λ d. truths_of (s.in_context_of env d) i) (b.scopes Anywhere S Stops r (execs env body))).by c

        maybe : (env : s.Env) (i : t.MaybeStmt) → b.SamePart Anywhere S Stops r (x.maybe n y env i) (x.maybe m z env (d.maybe_stmt_by rule i))
        maybe env t.no_stmt = b.lefts Anywhere S Stops r f.falls
        maybe env (t.some_stmt i) = exec env i

        later : (env : s.Env) (i : t.Stmt) → b.SameLate Anywhere S Stops r (x.later n y env i) (x.later m z env (d.stmt_by rule i))
        later env (t.stmt at k) = takes.laters m z (takes.good y z w) env at (d.form_by rule k) (x.later_form n y env k) (later_form env k)

        later_form : (env : s.Env) (k : t.Form) → b.SameLate Anywhere S Stops r (x.later_form n y env k) (x.later_form m z env (d.form_by rule k))
        later_form env (t.defer i) = b.are_late (exec env i)
        later_form env _ = b.not_late

        bodies : (env : s.Env) (cs : t.Cases) → b.SameParts Anywhere S Stops r (x.bodies n y env cs) (x.bodies m z env (d.cases_by rule cs))
        bodies env t.no_cases = b.no_parts
        bodies env (t.one_case is body cs) = b.and_part (b.scopes Anywhere S Stops r (execs env body)) (bodies env cs)
        bodies env (t.default_case body cs) = b.and_part (b.scopes Anywhere S Stops r (execs env body)) (bodies env cs)

        type_bodies : (env : s.Env) (at : Place) (cs : t.TypeCases) → b.SameBodies Anywhere S Stops r (x.type_bodies n y env at cs) (x.type_bodies m z env at (d.types_by rule cs))
        type_bodies env at t.no_types = b.no_bodies
        type_bodies env at (t.type_case variants i body cs) = b.and_body (λ v. b.named_bodies Anywhere S Stops r env (here at) i (execs env body) v) (type_bodies env at cs)
        type_bodies env at (t.default_type i body cs) = b.and_body (λ v. b.named_bodies Anywhere S Stops r env (here at) i (execs env body) v) (type_bodies env at cs)

  pub helps : (n m : ℕ) → b.Fuels Stops n m → (ys : List q.Helper) (h : ℕ) (vs : List Value) (env : s.Env) → Same (x.helps n ys h vs env) (x.helps m (d.helpers_by rule ys) h vs env)
  helps n m g [] h vs env = a.halted Anywhere S Stops r (s.ends going) tt
  helps n m g (y ∷ ys) zero vs env = u.helper_runs Anywhere S Stops r (execs (record { call = x.no_call; help = x.helps n ys }) (record { call = x.no_call; help = x.helps m (d.helpers_by rule ys) })
      (record { by = λ f i j us d low k. a.halted Anywhere S Stops r (s.ends going) tt; helps = λ h us env. helps n m g ys h us env }) n m g (x.env_in env y.head) y.body) vs (x.env_in env y.head) tt
  helps n m g (y ∷ ys) (suc h) vs env = helps n m g ys h vs env

  enters : (y z : s.Calls) → a.SameCalls S Stops y z → (n m : ℕ) → b.Fuels Stops n m → (ts : q.Tables) (i : ℕ) (h : Option q.Head) (bs : List q.Body) (j : ℕ) (vs : List Value) (c : s.Context) (low : ℕ) →
      Same (x.enter n y ts i h (slice_get bs j) vs c low) (x.enter m z ts i h (slice_get (d.bodies_by rule bs) j) vs c low)
  enters y z w n m g ts i None bs j vs c low = a.halted Anywhere S Stops r (s.ends going) tt
  enters y z w n m g ts i (Some h) [] j vs c low = a.halted Anywhere S Stops r (s.ends going) tt
  enters y z w n m g ts i (Some h) (k ∷ bs) zero vs c low = a.ifs Anywhere S Stops r (x.fits_stack low h.frame)
      (thens r.serials (λ j. u.activations Anywhere S Stops r (execs (record { call = y.call; help = x.helps n k.helpers }) (record { call = z.call; help = x.helps m (d.helpers_by rule k.helpers) })
      (record { by = w.by; helps = helps n m g k.helpers }) n m g (x.env_of ts h i j (low - h.frame) c) k.stmts) vs (x.env_of ts h i j (low - h.frame) c) tt))
      (a.fails Anywhere S Stops r check.Stack (here h.at))
  enters y z w n m g ts i (Some h) (k ∷ bs) (suc j) vs c low = enters y z w n m g ts i (Some h) bs j vs c low

  pub calls : (p : q.Program) (n m : ℕ) → b.Fuels Stops n m → a.SameCalls S Stops (x.calls_of p n) (x.calls_of (d.program_by rule p) m)
  calls p zero zero g = record { by = λ f i j vs d low h. a.halted Anywhere S Stops r (s.ends going) tt; helps = λ h vs env. a.halted Anywhere S Stops r (s.ends going) tt }
  calls p zero (suc m) g = record { by = λ f i j vs c low h. record { by = λ u v k. g u (a.tail (x.call_of (d.program_by rule p) (suc m) f j vs c low v)) }; helps = λ h vs env. a.halted Anywhere S Stops r (s.ends going) tt }
  calls p (suc n) zero g = absurd g
  calls p (suc n) (suc m) g = record {
    by = λ f i j vs c low h. thens r.turns (λ _. thens h (λ _.
        enters (x.calls_of p n) (x.calls_of (d.program_by rule p) m) (calls p n m g) n m g p.tables f (slice_get p.tables.procedures f) p.bodies f vs c low));
    helps = λ h vs env. a.halted Anywhere S Stops r (s.ends going) tt;
  }

  pub runs : (p : q.Program) (n m : ℕ) → b.Fuels Stops n m → Same (x.main_run p n) (x.main_run (d.program_by rule p) m)
  runs p n m g = enters (x.calls_of p n) (x.calls_of (d.program_by rule p) m) (calls p n m g) n m g p.tables p.main (slice_get p.tables.procedures p.main) p.bodies p.main [] (Some (s.first_context p.tables)) x.stack_end
