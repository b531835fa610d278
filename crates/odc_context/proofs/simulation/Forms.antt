-- Each kind of statement.
use Rattle.std.proofs.Common.{◌≡◌, ℕ, ◌+◌, ◌*◌, ◌<◌, ◌≤◌, inl, inr, Bool, true, false, List, [], ◌∷◌, ◌++◌, length, map, arith, ap, ◌∙◌, sym, subst, refl, lit≤}
use Rattle.std.specs.Prelude.{Option, Some}
use Rattle.odc_text.specs.declared.place.Place.{Place}
use Rattle.odc_text.specs.Run.{out, Log}
use Rattle.odc_typed.specs.declared.tree.Builtin.TheVariants.{Println}
use Rattle.odc_typed.specs.Tree.{Expr, local, builtin, Exprs}
use Rattle.odc_typed.specs.Bytes.{Value, bytes_of}
use Rattle.odc_typed.specs.Memory.{Memory as Blocks}
use Rattle.odc_typed.specs.Frame.{variable_place}
use Rattle.odc_typed.specs.Well.{IsInt, AreInts, Signature, Scope, InScope}
use Rattle.odc_typed.specs.Source.{State, Res, ok, then_by, Calls, Env, block_of, value_of, values_of}
use Rattle.odc_core.specs.Tree.{Stmts}
use Rattle.odc_core.specs.Words.{bytes_of as numbers_of}
use Rattle.odc_core.specs.Memory.{Memory, put}
use Rattle.odc_core.specs.Run.{Flow, falls, World}
use Rattle.odc_context.specs.Code.{Own, join, one, waits, expr_code, exprs_code, count, depth_of, depth_of_all}
use Rattle.odc_context.proofs.Runs.{Fueled}
use Rattle.odc_context.proofs.Sims.{read, Sim, sim_tick, sim_richer, sim_result}
use Rattle.odc_context.proofs.Frame.{ex, r_one}
use Rattle.odc_context.proofs.Ties.{Floor, tied_alike}
use Rattle.odc_context.proofs.simulation.Texts.{values}
use Rattle.odc_context.proofs.simulation.Exprs.{Fits, Ready, Live, live_on, join_sim}
use Rattle.odc_context.specs.Code.{line_code}
use Rattle.odc_context.proofs.simulation.Texts.{line_text, said, printed_line}
use Rattle.odc_typed.specs.Source.{print_line}
use Rattle.odc_context.proofs.simulation.Nodes.{read_out, CallsFollow, Listed}
use Rattle.odc_context.proofs.simulation.Values.{few, depth_some, exprs_sim}
use Rattle.odc_typed.specs.Bytes.{number_of}
use Rattle.odc_typed.specs.Source.{bool_bytes, read_bool, exec, Flow as Left, falls as left_falls}
use Rattle.odc_context.proofs.simulation.Conditions.{line_runs, as_waits}
use Rattle.odc_context.proofs.Sims.{then_then}
use Rattle.odc_context.specs.Code.{stmt_code}
use Rattle.odc_context.specs.Code.{put as set}
use Rattle.odc_context.proofs.Ties.{stored_word}
use Rattle.odc_typed.specs.Tree.{eval, declare, assign}
use Rattle.odc_typed.specs.Memory.{put as block_put}
use Rattle.odc_typed.specs.Source.{begin_with, write_at, with_memory, address_of}
use Rattle.odc_context.proofs.simulation.Stmts.{Done, into_runs, begun, changed, value_then}

-- what is read of a truth value
pub bool_read : (at : Place) (b : Bool) (t : State) → read_bool at (number_of (bool_bytes b)) t ≡ ok b t
bool_read at true t = refl
bool_read at false t = refl

module _ (entries : ℕ → ℕ) (n : ℕ) (world : World) (at : Place) (o : Own) (env : Env) (size : ℕ) (src0 : Blocks) (outer : ℕ → Bool) (fits : Fits env.low size o) (floor : Floor env size src0) where
  abbrev low : ℕ
  low = env.low

  module _ (ss : List Signature) (calls : Calls) (calls_follow : CallsFollow entries n world at o env size src0 outer fits floor ss calls) where
    pub declare_sim : (j : ℕ) (scope : Scope) (at' : Place) (x : ℕ) (value : Expr) (s : State) (m : Memory) (l : Log ℕ ℕ) → x < o.first → IsInt ss scope value → depth_of value ≤ o.waiting → Live entries n world at o env size src0 outer fits floor scope s.memory →
        Ready entries n world at o env size src0 outer fits floor s.memory s.memory s.serial s.left m → map (read entries) s.log ≡ l →
        Sim entries (Done entries n world at o env size src0 outer fits floor (x ∷ scope) s.memory m) j 0 0 (ex j world at low o outer (stmt_code o (declare at' x value))) s m l (exec n calls env (declare at' x value) s)
    declare_sim j scope at' x value s m l below h fit live ready logs =
        let s1 : State = record s { cost = s.cost + 1 } in
        let b = block_of env x in
        let Q : Left → State → Flow → Memory → Type 0 = Done entries n world at o env size src0 outer fits floor (x ∷ scope) s.memory m in
        let tail : Stmts = one (set x (waits o 0)) in
        let f : Value → State → Res Left = λ v. (λ t. then_by (begin_with b v t) (λ _. (λ u. ok left_falls u))) in
        sim_tick entries Q j 0 (ex j world at low o outer (join (expr_code o 0 value) tail)) m l 0 s (then_by (value_of calls env value s1) f)
        (value_then entries n world at o env size src0 outer fits floor ss calls calls_follow j 100 0 scope value tail Q s1 m l f h fit (record { by = live.by }) (record { tied = ready.tied; newer = ready.newer; few = ready.few; stays = ready.stays }) logs
        (λ v t m' l' y logs'.
        let w : ℕ = y.word in
        let P : Value → Type 0 = λ q. Sim entries Q j (100 + 40) 0 (ex j world at low o outer tail) t m' l' (f q t) in
        subst P (sym y.value)
        (record {
          by = record {
            word = falls;
            memory = put m' (variable_place env.low x) (numbers_of 8 w);
            log = l';
            budget = 4;
            cost = 6;
            runs = r_one j world at low o outer (set x (waits o 0)) m' (put m' (variable_place env.low x) (numbers_of 8 w)) l' l' 4 6 falls
                (into_runs entries n world at o env size src0 outer fits floor j x w m' l' below (omega (arith, depth_some ss scope value h)) y.small y.waits);
            holds = begun entries n world at o env size src0 outer fits floor j x w scope s.memory m m' t (t.cost + 1) below y.small y.ready (live_on entries n world at o env size src0 outer fits floor scope s.memory t.memory y.ready.stays live) y.others;
            logs = logs';
            cheap = omega arith;
            turns = omega arith;
            fewer = omega arith;
            taken = refl;
          };
        })))

    pub assign_sim : (j : ℕ) (scope : Scope) (at' at'' : Place) (x : ℕ) (value : Expr) (s : State) (m : Memory) (l : Log ℕ ℕ) → InScope scope x → IsInt ss scope value → depth_of value ≤ o.waiting → Live entries n world at o env size src0 outer fits floor scope s.memory →
        Ready entries n world at o env size src0 outer fits floor s.memory s.memory s.serial s.left m → map (read entries) s.log ≡ l →
        Sim entries (Done entries n world at o env size src0 outer fits floor scope s.memory m) j 0 0 (ex j world at low o outer (stmt_code o (assign at' (local at'' x) value))) s m l (exec n calls env (assign at' (local at'' x) value) s)
    assign_sim j scope at' at'' x value s m l inside h fit live ready logs =
        let s1 : State = record s { cost = s.cost + 1 } in
        let b = block_of env x in
        let Q : Left → State → Flow → Memory → Type 0 = Done entries n world at o env size src0 outer fits floor scope s.memory m in
        let tail : Stmts = one (set x (waits o 0)) in
        let act : Fueled Flow = ex j world at low o outer (join (expr_code o 0 value) tail) in
        let f : Value → State → Res Left = λ v. (λ t. then_by (write_at at' (address_of env x) v (record t { cost = t.cost + 1 })) (λ _. (λ u. ok left_falls u))) in
        let live_x = live.by x inside in
        sim_tick entries Q j 0 act m l 0 s (then_by (value_of calls env value s1) f)
        (value_then entries n world at o env size src0 outer fits floor ss calls calls_follow j (0 + 100) 0 scope value tail Q s1 m l f h fit (record { by = live.by }) (record { tied = ready.tied; newer = ready.newer; few = ready.few; stays = ready.stays }) logs
        (λ v t m' l' y logs'.
        let w : ℕ = y.word in
        let now_live : t.memory.size b ≡ Some 8 = y.ready.stays.by b 8 live_x.1 in
        let after' : State = record t { memory = block_put t.memory b 0 (bytes_of 8 w); cost = t.cost + 1 + 1 } in
        let is : f (bytes_of 8 w) t ≡ ok left_falls after' = ap (λ (q : Option Blocks). then_by {B = Left} (with_memory at' 8 q (record t { cost = t.cost + 1 })) (λ _. (λ u. ok left_falls u))) (stored_word t.memory b w now_live) in
        let P : Value → Type 0 = λ q. Sim entries Q j (0 + 100 + 40) 0 (ex j world at low o outer tail) t m' l' (f q t) in
        subst P (sym y.value)
        (sim_result entries Q j (0 + 100 + 40) 0 (ex j world at low o outer tail) t m' l' (f (bytes_of 8 w) t) (ok left_falls after') is
        (record {
          by = record {
            word = falls;
            memory = put m' (variable_place env.low x) (numbers_of 8 w);
            log = l';
            budget = 4;
            cost = 6;
            runs = r_one j world at low o outer (set x (waits o 0)) m' (put m' (variable_place env.low x) (numbers_of 8 w)) l' l' 4 6 falls
                (into_runs entries n world at o env size src0 outer fits floor j x w m' l' live_x.0 (omega (arith, depth_some ss scope value h)) y.small y.waits);
            holds = changed entries n world at o env size src0 outer fits floor j x w scope s.memory m m' t (t.cost + 1 + 1) live_x.0 y.small now_live y.ready (live_on entries n world at o env size src0 outer fits floor scope s.memory t.memory y.ready.stays live) y.others;
            logs = logs';
            cheap = omega arith;
            turns = omega arith;
            fewer = omega arith;
            taken = refl;
          };
        }))))

    pub print_sim : (j : ℕ) (scope : Scope) (at' at'' : Place) (es : Exprs) (s : State) (m : Memory) (l : Log ℕ ℕ) → AreInts ss scope es → depth_of_all es ≤ o.waiting → Live entries n world at o env size src0 outer fits floor scope s.memory →
        Ready entries n world at o env size src0 outer fits floor s.memory s.memory s.serial s.left m → map (read entries) s.log ≡ l →
        Sim entries (Done entries n world at o env size src0 outer fits floor scope s.memory m) j 0 0 (ex j world at low o outer (stmt_code o (eval at' (builtin at'' Println es)))) s m l (exec n calls env (eval at' (builtin at'' Println es)) s)
    print_sim j scope at' at'' es s m l h fit live ready logs =
        let k : ℕ = count es in
        let s2 : State = record s { cost = s.cost + 1 + 1 } in
        let Q : Left → State → Flow → Memory → Type 0 = Done entries n world at o env size src0 outer fits floor scope s.memory m in
        let L : List Value → State → Flow → Memory → Type 0 = Listed entries n world at o env size src0 outer fits floor s.memory m 0 k in
        let tail : Stmts = line_code o 0 k in
        let act : Fueled Flow = ex j world at low o outer (join (exprs_code o 0 es) tail) in
        let r : Res (List Value) = values_of calls env es s2 in
        let f : List Value → State → Res Value = λ vs. (λ t. then_by (print_line at'' vs t) (λ _. (λ u. ok [] u))) in
        let g : Value → State → Res Left = λ _. (λ u. ok left_falls u) in
        let h' : List Value → State → Res Left = λ vs. (λ t. then_by (f vs t) g) in
        sim_tick entries Q j 0 act m l 0 s (then_by (then_by r f) g)
        (sim_tick entries Q j 0 act m l (0 + 100) (record s { cost = s.cost + 1 }) (then_by (then_by r f) g)
        (sim_result entries Q j (0 + 100 + 100) 0 act s2 m l (then_by (then_by r f) g) (then_by r h') (then_then entries r f g)
        (sim_richer entries Q j 0 act m l (0 + 0) (0 + 100 + 100) s2 (then_by r h') (lit≤ tt)
        (join_sim entries n world at o env size src0 outer fits floor j L Q 0 0 (40 * k) 0 (exprs_code o 0 es) tail s2 m l r h'
        (exprs_sim entries n world at o env size src0 outer fits floor ss calls calls_follow j scope es 0 s2 m l h (omega arith) (record { by = live.by }) (record { tied = ready.tied; newer = ready.newer; few = ready.few; stays = ready.stays }) logs)
        (λ vs t flow m' x. x.falls)
        (λ vs t m' l' x logs'.
        let ws : List ℕ = x.words in
        let text : List ℕ = line_text ws in
        let after' : State = said t text (length text) in
        let is : h' (values ws) t ≡ ok left_falls after' = ap (λ (q : Res (Unit {0})). then_by {B = Left} (then_by {B = Value} q (λ _. (λ u. ok [] u))) g) (printed_line ws at'' t x.small) in
        let P : List Value → Type 0 = λ q. Sim entries Q j (0 + 40 * k) 0 (ex j world at low o outer tail) t m' l' (h' q t) in
        let K : ℕ → Type 0 = λ q. Sim entries Q j (0 + 40 * k) 0 (ex j world at low o outer (line_code o 0 q)) t m' l' (h' (values ws) t) in
        let p = line_runs j world at low o outer fits.is_low ws m' l' (omega (arith, x.counted, few es)) x.small (as_waits entries n world at o env size src0 outer fits floor j m' 0 ws x.waits) in
        subst P (sym x.value) (subst K x.counted
        (sim_result entries Q j (0 + 40 * k) 0 (ex j world at low o outer (line_code o 0 (length ws))) t m' l' (h' (values ws) t) (ok left_falls after') is
        (record {
          by = record {
            word = falls;
            memory = p.memory;
            log = l' ++ map out text;
            budget = p.budget;
            cost = p.cost;
            runs = p.runs;
            holds = record {
              left = record { live = record { by = (live_on entries n world at o env size src0 outer fits floor scope s.memory t.memory x.ready.stays live).by } };
              ready = record {
                tied = tied_alike env o.first size src0 t.memory t.serial m' p.memory floor (λ i zone. p.others i (inr (elim zone [ inl q ↦ omega (arith, q.0) | inr q ↦ omega (arith, fits.room) ]))) x.ready.tied;
                newer = x.ready.newer;
                few = x.ready.few;
                stays = record { by = x.ready.stays.by };
              };
              above = λ i far. p.others i (inr (omega (arith, fits.room))) ∙ x.others i (inr far);
            };
            logs = read_out entries t.log l' text logs';
            cheap = omega (arith, p.cheap);
            turns = omega arith;
            fewer = omega arith;
            taken = refl;
          };
        }))))))))
