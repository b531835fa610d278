-- Lines of integers are printed alike.
use Rattle.std.proofs.Common.{◌≡◌, ℕ, ◌+◌, ◌*◌, ◌≤◌, inr, true, List, [], ◌∷◌, length, arith, ap, subst, refl, lit≤}
use Rattle.std.specs.Prelude.{None}
use Rattle.odc_text.specs.declared.place.Place.{Place}
use Rattle.odc_program.specs.declared.ops.Builtin.TheVariants as b
use Rattle.odc_program.specs.States.Bytes.{Value}
use Rattle.odc_program.specs.States.Run.{Res, ok, then_by, pure}
use Rattle.odc_program.specs.States.State.{State, Leave, Do, Calls, Context, Base, is}
use Rattle.odc_program.specs.Kinds.Places.{value_in, as_read}
use Rattle.odc_program.specs.Kinds.Builtins.{run_println}
use Rattle.odc_program.specs.Kinds.Expressions.{value_of, values_of}
use Rattle.odc_program.specs.Runs.Statements.{Left, left_by, run_eval}
use Rattle.odc_program.specs.Runs.Statements.{falls as left_falls}
use Rattle.odc_program.specs.Trees.Tree.{expr, builtin, Exprs, none, more, ty, tys}
use Rattle.odc_program.specs.Trees.Program.{Shape, several}
use Rattle.odc_core.specs.Tree.{Stmts, finish}
use Rattle.odc_core.specs.Run.{falls}
use Rattle.odc_carried.specs.Carried.{type_in, is_nothing, is_empty_shape, refused_ints, count}
use Rattle.odc_carried.specs.Code.{join, depths, waits_all, newline_code, line_code}
use Rattle.odc_carried.specs.Tied.{Site, o, env}
use Rattle.odc_carried.proofs.Runs.{Face, runs_pure}
use Rattle.odc_carried.proofs.Sims.{rate, Sim, sim_runs, sim_later, sim_richer, sim_result, then_then}
use Rattle.odc_carried.proofs.Ties.{Facts}
use Rattle.odc_carried.proofs.Frame.{ex}
use Rattle.odc_carried.proofs.Quiet.{costing}
use Rattle.odc_carried.proofs.Evals.{assoc3}
use Rattle.odc_carried.proofs.Codes.{Ready, ready_cost}
use Rattle.odc_carried.proofs.Arguments.{AreVals, vals_length, CallsFollow}
use Rattle.odc_carried.proofs.Stmts.{Done}
use Rattle.odc_carried.proofs.Print.{newline_runs}
use Rattle.odc_carried.proofs.Lines.{wait_all_sim, AllWait, AreIntTypes, is_low, print_step, printed, printed_ready, after_text, int_types, values_sim, unjoin, above_on}
use Rattle.odc_carried.proofs.Calls.{PrintsFollow}

tys_count : (es : Exprs) → length (tys es) ≡ count es
tys_count none = refl
tys_count (more e es) = omega (arith, tys_count es)

module _ (S : Site) (F : Facts S) (calls : Calls) (follows : CallsFollow S F (λ f vs c low. calls.call f (pure tt) vs c low)) (c : Context) (t : ℕ) (at : Place) (nothing : is_nothing S.tables t ≡ true) (h0 : Face) (j : ℕ) where
  abbrev H : Base → Do Value
  H b = value_in (env S c) at t b

  abbrev fin : Value → Do Left
  fin v = left_by left_falls c

  abbrev K : Base → Do Left
  K b u = then_by (H b u) fin

  nothing_read : (u : State) → value_in (env S c) at t (is []) u ≡ ok [] u
  nothing_read u = by (type_in S.tables t).shape nothing
    where
      by : (k : Shape) → is_empty_shape k ≡ true → as_read at k [] u ≡ ok [] u
      by (several []) e = refl
      by _ e = absurd (cc)

  end : (u : State) (h : Face) → Ready S F u h → ((i : ℕ) → S.low + S.proc.frame ≤ i → h.memory i ≡ h0.memory i) → Sim S.entries (Done S F h0) j 0 0 (ex S finish) u h (K (is []) u)
  end u h ready above =
      sim_result S.entries (ap (λ (r : Res Leave State Value). then_by r fin) (nothing_read u))
      (sim_runs S.entries (Done S F h0) j 0 0 (ex S finish) u h h (record { flow = left_falls; context = c }) 0 0 falls (runs_pure j falls h) ready.told ready.told (lit≤ tt)
      (record { left = tt; ready = ready; above = above }))

  line : (es : Exprs) → refused_ints S.tables S.proc es ≡ None → depths es ≤ (o S).waiting → (vs : List Value) (ws : List ℕ) (u : State) (h : Face) → AreVals S.entries vs ws → length ws ≡ count es → AllWait S F calls follows c 0 h ws → Ready S F u h → ((i : ℕ) → S.low + S.proc.frame ≤ i → h.memory i ≡ h0.memory i) →
      Sim S.entries (Done S F h0) j 0 0 (ex S (line_code (o S) 0 (count es))) u h (then_by (run_println (env S c) at (tys es) vs u) K)
  line none r fit [] [] u h are counted there ready above =
      let p = newline_runs j S h.input h.taken (is_low S F calls follows c) h.memory h.log in
      unjoin S F calls follows c at h0 j K end (newline_code (o S)) u h (K (is []) (printed u (10 ∷ [])))
      (print_step S F calls follows c (Done S F h0) j 0 (newline_code (o S)) finish u h (10 ∷ []) ready p (K (is []) (printed u (10 ∷ [])))
      (end (printed u (10 ∷ [])) (after_text S F calls follows c h p.memory (10 ∷ [])) (printed_ready S F calls follows c u h p.memory (10 ∷ []) p.others ready) (above_on S F calls follows c at h0 j K end h (after_text S F calls follows c h p.memory (10 ∷ [])) p.others above)))
  line (more e es) r fit (v ∷ vs) (w ∷ ws) u h are counted there ready above =
      let is' : AreIntTypes S F calls follows c (tys (more e es)) = int_types S F calls follows c (more e es) r in
      let P : ℕ → Type 0 = λ n. Sim S.entries (Done S F h0) j 0 0 (ex S (line_code (o S) 0 n)) u h (then_by (run_println (env S c) at (tys (more e es)) (v ∷ vs) u) K) in
      subst P counted
      (values_sim S F calls follows c at h0 j K end (ty e) v w (tys es) vs ws 0 u h (omega (arith, tys_count es, counted, vals_length S.entries vs ws are.1)) (omega (arith, fit, counted, enough (more e es))) is'.0 is'.1 are.0 are.1 there.0 there.1 ready above)
    where
      enough : (es : Exprs) → count es ≤ depths es
      enough none = lit≤ tt
      enough (more e es) = omega (arith, enough es)
  line none r fit [] (w ∷ ws) u h are counted there ready above = absurd are
  line none r fit (v ∷ vs) [] u h are counted there ready above = absurd are
  line none r fit (v ∷ vs) (w ∷ ws) u h are counted there ready above = absurd (omega (arith, counted))
  line (more e es) r fit [] [] u h are counted there ready above = absurd (omega (arith, counted))
  line (more e es) r fit [] (w ∷ ws) u h are counted there ready above = absurd are
  line (more e es) r fit (v ∷ vs) [] u h are counted there ready above = absurd are

line_sim : (S : Site) (F : Facts S) (calls : Calls) (follows : CallsFollow S F (λ f vs c low. calls.call f (pure tt) vs c low)) (c : Context) (t : ℕ) (at : Place) (es : Exprs) → is_nothing S.tables t ≡ true → refused_ints S.tables S.proc es ≡ None → depths es ≤ (o S).waiting → (j : ℕ) (s : State) (h : Face) → Ready S F s h →
    Sim S.entries (Done S F h) j 0 0 (ex S (join (waits_all (o S) 0 es) (line_code (o S) 0 (count es)))) s h (run_eval (value_of calls (env S c) (expr t at (builtin b.Println [] es))) c s)
line_sim S F calls follows c t at es nothing r fit j s h ready =
    let s1 : State = costing s (s.cost + 1) in
    let m2 : Do (List Value) = values_of calls (env S c) es in
    let X : List Value → Do Base = λ vs. run_println (env S c) at (tys es) vs in
    let H1 : Base → Do Value = value_in (env S c) at t in
    let f : Value → Do Left = λ v. left_by left_falls c in
    let K1 : Base → Do Left = λ x. (λ u. then_by (H1 x u) f) in
    let code : Stmts = join (waits_all (o S) 0 es) (line_code (o S) 0 (count es)) in
    let each : List Value → Do Left = λ vs. (λ u. then_by (then_by (X vs u) H1) f) in
    let whole : Res Leave State Left = then_by (m2 s1) each in
    sim_result S.entries (assoc3 (m2 s1) X H1 f)
    (sim_later S.entries (Done S F h) j 0 0 1 (ex S code) s s1 h refl (omega arith) whole
    (sim_richer S.entries (Done S F h) j 0 (0 + rate * 1) 0 (ex S code) s1 h whole (omega arith)
    (wait_all_sim S F calls follows c es 0 r (omega (arith, fit)) (line_code (o S) 0 (count es)) (Done S F h) j 0 0 s1 h each (ready_cost S F s h (s.cost + 1) ready)
    (λ vs u ws h' are counted there ready' alike.
    sim_result S.entries (then_then S.entries (X vs u) H1 f)
    (line S F calls follows c t at nothing h j es r fit vs ws u h' are counted there ready' (λ i far. alike.by i (inr far)))))))

pub prints_follow : PrintsFollow
prints_follow = record { by = λ S F calls follows c t at es a r fit j s h ready. line_sim S F calls follows c t at es a r fit j s h ready }
