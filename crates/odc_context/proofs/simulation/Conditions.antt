-- Printed lines, and conditions.
use Rattle.std.proofs.Common.{◌≡◌, ℕ, suc, ◌+◌, ◌^◌, ◌<◌, ◌≤◌, ◌⊎◌, inl, inr, Bool, true, false, List, [], ◌∷◌, ◌++◌, length, map, arith, ap, ◌∙◌, sym, subst, refl, lit<, lit≤, append_assoc}
use Rattle.std.specs.Ordering.{int_eq}
use Rattle.std.specs.Int.{w64, cast_signed}
use Rattle.std.proofs.lemmas.List.{map-append}
use Rattle.odc_text.specs.declared.place.Place.{Place}
use Rattle.odc_text.specs.Run.{out, Log}
use Rattle.odc_typed.specs.declared.tree.BinaryOp.{BinaryOp}
use Rattle.odc_typed.specs.declared.tree.BinaryOp.TheVariants.{Add, Subtract, Multiply, Divide, Remainder, Less, Equal}
use Rattle.odc_typed.specs.Tree.{Expr, const, local, binary, call, builtin}
use Rattle.odc_typed.specs.Bytes.{Value, bytes_of}
use Rattle.odc_typed.specs.Memory.{Memory as Blocks}
use Rattle.odc_typed.specs.Well.{Signature, Scope}
use Rattle.odc_typed.specs.Source.{State, Res, ok, then_by, Calls, Env, value_of, operate, result_of}
use Rattle.odc_core.specs.Tree.{Stmts}
use Rattle.odc_core.specs.Words.{bytes_of as numbers_of}
use Rattle.odc_core.specs.Memory.{Memory, put}
use Rattle.odc_core.specs.Run.{Flow, falls, World}
use Rattle.odc_context.specs.Code.{Own, offset_of, join, one, waits, wait, expr_code, operation_code, depth_of}
use Rattle.odc_context.proofs.Runs.{Fueled, Runs}
use Rattle.odc_context.proofs.Sims.{read, Sim, sim_runs, sim_tick, sim_richer, sim_result}
use Rattle.odc_context.proofs.Touched.{WordAt, word_apart, put_word}
use Rattle.odc_context.proofs.Frame.{ex}
use Rattle.odc_context.proofs.simulation.Printing.{IsLow}
use Rattle.odc_context.proofs.Ties.{Floor, stays_on, stays_same}
use Rattle.odc_context.proofs.simulation.Texts.{operates, AreSmall}
use Rattle.odc_context.proofs.simulation.Exprs.{Fits, Ready, Zone, Valued, Live, live_on, waited, join_sim, r_waits, r_wait}
use Rattle.odc_context.specs.Code.{line_code, values_code, print_code}
use Rattle.odc_context.proofs.simulation.Print.{Printed, print_runs, newline_runs}
use Rattle.odc_context.proofs.simulation.Texts.{words_text, line_text, word_text}
use Rattle.odc_context.proofs.Frame.{r_join}
use Rattle.odc_context.proofs.simulation.Nodes.{CallsFollow, AllWait, zone_less}
use Rattle.std.proofs.lemmas.List.{append-nil}
use Rattle.std.proofs.Common.{length-append}
use Rattle.odc_context.proofs.simulation.Values.{depth_some, expr_sim}
use Rattle.odc_context.proofs.simulation.Texts.{equal_test}
use Rattle.odc_core.specs.declared.tree.Comparison.{Comparison}
use Rattle.odc_core.specs.declared.tree.Comparison.TheVariants.{Less as Under, Equal as Same}
use Rattle.odc_core.specs.Tree.{compare}
use Rattle.odc_core.specs.Words.{compare_words}
use Rattle.rv_table.specs.Words.{flag}
use Rattle.odc_typed.specs.Source.{bool_bytes}
use Rattle.odc_typed.specs.Well.{IsCondition, IsComparison}
use Rattle.odc_context.proofs.Frame.{r_compare, r_const}
use Rattle.odc_core.specs.Tree.{const as word}
use Rattle.odc_typed.specs.declared.tree.Constant.TheVariants.{Int, Bool as Truth}
use Rattle.std.specs.Prelude.{int_lt}

-- ---- printed lines

module _ (j : ℕ) (world : World) (at : Place) (low : ℕ) (o : Own) (outer : ℕ → Bool) (is : IsLow low) where
  abbrev Waits : Memory → ℕ → List ℕ → Type 0
  Waits m d [] = Unit {0}
  Waits m d (w ∷ ws) = WordAt m (low + offset_of (o.first + d)) w × Waits m (d + 1) ws

  wait_on : (m m' : Memory) (d : ℕ) (ws : List ℕ) → ((x : ℕ) → (x < low + 16) ⊎ (low + 88 ≤ x) → m' x ≡ m x) → Waits m d ws → Waits m' d ws
  wait_on m m' d [] same a = tt
  wait_on m m' d (w ∷ ws) same a = (word_apart m m' (low + offset_of (o.first + d)) w (λ x from to. same x (inr (omega arith))) a.0, wait_on m m' (d + 1) ws same a.1)

  values_runs : (d w : ℕ) (ws : List ℕ) (m : Memory) (l : Log ℕ ℕ) → d + suc (length ws) ≤ o.waiting → AreSmall (w ∷ ws) → Waits m d (w ∷ ws) →
      Printed j world at low o outer is (values_code o d (suc (length ws))) m l (words_text (w ∷ ws))
  values_runs d w [] m l fit small waits' =
      let P : List ℕ → Type 0 = λ t. Printed j world at low o outer is (print_code o d 10) m l t in
      subst P (sym (append-nil (word_text w ++ (10 ∷ [])))) (print_runs j world at low o outer is m l d w 10 (omega arith) small.0 waits'.0 (lit< tt))
  values_runs d w (v ∷ vs) m l fit small waits' =
      let p = print_runs j world at low o outer is m l d w 32 (omega arith) small.0 waits'.0 (lit< tt) in
      let t : List ℕ = word_text w ++ (32 ∷ []) in
      let u : List ℕ = words_text (v ∷ vs) in
      let l1 : Log ℕ ℕ = l ++ map out t in
      let q = values_runs (d + 1) v vs p.memory l1 (omega arith) small.1 (wait_on m p.memory (d + 1) (v ∷ vs) p.others waits'.1) in
      let logs : l1 ++ map out u ≡ l ++ map out (t ++ u) = append_assoc l (map out t) (map out u) ∙ ap (λ (x : Log ℕ ℕ). l ++ x) (sym (map-append out t u)) in
      let R : Log ℕ ℕ → Type 0 = λ x. Runs j (ex j world at low o outer (join (print_code o d 32) (values_code o (d + 1) (suc (length vs))))) m l (p.budget + q.budget) (p.cost + q.cost) falls q.memory x in
      record {
        memory = q.memory;
        budget = p.budget + q.budget;
        cost = p.cost + q.cost;
        runs = subst R logs (r_join j world at low o outer (print_code o d 32) (values_code o (d + 1) (suc (length vs))) m p.memory q.memory l l1 (l1 ++ map out u) p.budget p.cost q.budget q.cost falls p.runs q.runs);
        cheap = omega (arith, p.cheap, q.cheap, length-append t u);
        others = λ x away. q.others x away ∙ p.others x away;
      }

  pub line_runs : (ws : List ℕ) (m : Memory) (l : Log ℕ ℕ) → length ws ≤ o.waiting → AreSmall ws → Waits m 0 ws → Printed j world at low o outer is (line_code o 0 (length ws)) m l (line_text ws)
  line_runs [] m l fit small waits' = newline_runs j world at low o outer is m l
  line_runs (w ∷ ws) m l fit small waits' = values_runs 0 w ws m l (omega arith) small waits'

-- ---- conditions

module _ (entries : ℕ → ℕ) (n : ℕ) (world : World) (at : Place) (o : Own) (env : Env) (size : ℕ) (src0 : Blocks) (outer : ℕ → Bool) (fits : Fits env.low size o) (floor : Floor env size src0) where
  abbrev low : ℕ
  low = env.low

  -- words that wait, as the printing code asks for them
  pub as_waits : (j : ℕ) (m : Memory) (d : ℕ) (ws : List ℕ) → AllWait entries n world at o env size src0 outer fits floor m d ws → Waits j world at env.low o outer fits.is_low m d ws
  as_waits j m d [] a = tt
  as_waits j m d (w ∷ ws) a = (a.0, as_waits j m (d + 1) ws a.1)

  -- a truth value waits at depth 0
  pub record Tested (src : Blocks) (m : Memory) (v : Value) (t : State) (flow : Flow) (m' : Memory) : Type 0 where
    pub test : Bool
    pub value : v ≡ bool_bytes test
    pub falls : flow ≡ falls
    pub waits : WordAt m' (env.low + offset_of (o.first + 0)) (flag test)
    pub ready : Ready entries n world at o env size src0 outer fits floor src t.memory t.serial t.left m'
    pub others : (x : ℕ) → Zone entries n world at o env size src0 outer fits floor 0 x → m' x ≡ m x

  -- the word of a comparison comes to wait
  tested : (src : Blocks) (m m1 : Memory) (b : Bool) (t : State) → 0 < o.waiting → Ready entries n world at o env size src0 outer fits floor src t.memory t.serial t.left m1 → ((x : ℕ) → Zone entries n world at o env size src0 outer fits floor 0 x → m1 x ≡ m x) →
      Tested src m (bool_bytes b) t falls (put m1 (env.low + offset_of (o.first + 0)) (numbers_of 8 (flag b)))
  tested src m m1 b t inside ready others =
      let v = waited entries n world at o env size src0 outer fits floor src t.memory t.serial t.left m m1 0 (flag b) t inside ready others (flag_small b) in
      record { test = b; value = refl; falls = refl; waits = put_word m1 (env.low + offset_of (o.first + 0)) (flag b); ready = v.ready; others = v.others }
    where
      flag_small : (b : Bool) → flag b < 2 ^ 64
      flag_small true = lit< tt
      flag_small false = lit< tt

  module _ (ss : List Signature) (calls : Calls) (calls_follow : CallsFollow entries n world at o env size src0 outer fits floor ss calls) (j : ℕ) (scope : Scope) where
    -- two words that wait are compared
    compare_sim : (cop : Comparison) (u v : ℕ) (b : Bool) (src : Blocks) (m0 m : Memory) (l : Log ℕ ℕ) (t : State) → 1 < o.waiting → u < 2 ^ 64 → v < 2 ^ 64 → compare_words cop u v ≡ flag b →
        WordAt m (env.low + offset_of (o.first + 0)) u → WordAt m (env.low + offset_of (o.first + (0 + 1))) v → Ready entries n world at o env size src0 outer fits floor src t.memory t.serial t.left m → ((x : ℕ) → Zone entries n world at o env size src0 outer fits floor 0 x → m x ≡ m0 x) → map (read entries) t.log ≡ l →
        Sim entries (Tested src m0) j 50 40 (ex j world at low o outer (one (wait o 0 (compare cop (waits o 0) (waits o (0 + 1)))))) t m l (ok (bool_bytes b) (record t { cost = t.cost + 1 }))
    compare_sim cop u v b src m0 m l t inside left_small right_small e left_waits right_waits ready others logs =
        let R : ℕ → Type 0 = λ x. Runs j (ex j world at low o outer (one (wait o 0 (compare cop (waits o 0) (waits o (0 + 1)))))) m l 7 10 falls (put m (env.low + offset_of (o.first + 0)) (numbers_of 8 x)) l in
        record {
          by = record {
            word = falls;
            memory = put m (env.low + offset_of (o.first + 0)) (numbers_of 8 (flag b));
            log = l;
            budget = 7;
            cost = 10;
            runs = subst R e (r_wait entries n world at o env size src0 outer fits floor j 0 (compare cop (waits o 0) (waits o (0 + 1))) m l 5 7 (compare_words cop u v) (omega arith)
                (r_compare j world at low o outer cop (waits o 0) (waits o (0 + 1)) m l 2 3 2 3 u v (r_waits entries n world at o env size src0 outer fits floor j 0 u m l (omega arith) left_small left_waits) (r_waits entries n world at o env size src0 outer fits floor j (0 + 1) v m l (omega arith) right_small right_waits)));
            holds = tested src m0 m b (record t { cost = t.cost + 1 }) (omega arith) (record { tied = ready.tied; newer = ready.newer; few = ready.few; stays = ready.stays }) others;
            logs = logs;
            cheap = omega arith;
            turns = omega arith;
            fewer = omega arith;
            taken = refl;
          };
        }

    comparison_sim : (at' : Place) (op : BinaryOp) (u v : ℕ) (src : Blocks) (m0 m : Memory) (l : Log ℕ ℕ) (t : State) → IsComparison op → 1 < o.waiting → u < 2 ^ 64 → v < 2 ^ 64 →
        WordAt m (env.low + offset_of (o.first + 0)) u → WordAt m (env.low + offset_of (o.first + (0 + 1))) v → Ready entries n world at o env size src0 outer fits floor src t.memory t.serial t.left m → ((x : ℕ) → Zone entries n world at o env size src0 outer fits floor 0 x → m x ≡ m0 x) → map (read entries) t.log ≡ l →
        Sim entries (Tested src m0) j 50 40 (ex j world at low o outer (operation_code o 0 at' op)) t m l (result_of at' op (cast_signed w64 u) (cast_signed w64 v) t)
    comparison_sim at' Less u v src m0 m l t h inside p q a b ready others logs = compare_sim Under u v (int_lt (cast_signed w64 u) (cast_signed w64 v)) src m0 m l t inside p q refl a b ready others logs
    comparison_sim at' Equal u v src m0 m l t h inside p q a b ready others logs =
        compare_sim Same u v (int_eq (cast_signed w64 u) (cast_signed w64 v)) src m0 m l t inside p q (ap flag (sym (equal_test u v p q))) a b ready others logs
    comparison_sim at' Add u v src m0 m l t h inside p q a b ready others logs = absurd h
    comparison_sim at' Subtract u v src m0 m l t h inside p q a b ready others logs = absurd h
    comparison_sim at' Multiply u v src m0 m l t h inside p q a b ready others logs = absurd h
    comparison_sim at' Divide u v src m0 m l t h inside p q a b ready others logs = absurd h
    comparison_sim at' Remainder u v src m0 m l t h inside p q a b ready others logs = absurd h

    pub condition_sim : (e : Expr) (s : State) (m : Memory) (l : Log ℕ ℕ) → IsCondition ss scope e → depth_of e ≤ o.waiting → Live entries n world at o env size src0 outer fits floor scope s.memory → Ready entries n world at o env size src0 outer fits floor s.memory s.memory s.serial s.left m → map (read entries) s.log ≡ l →
        Sim entries (Tested s.memory m) j 0 40 (ex j world at low o outer (expr_code o 0 e)) s m l (value_of calls env e s)
    condition_sim (const at' (Int z)) s m l h fit live ready logs = absurd h
    condition_sim (const at' (Truth b)) s m l h fit live ready logs =
        let w : ℕ = flag b in
        let t : State = record s { cost = s.cost + 1 } in
        let act : Fueled Flow = ex j world at low o outer (expr_code o 0 (const at' (Truth b))) in
        let m' : Memory = put m (env.low + offset_of (o.first + 0)) (numbers_of 8 w) in
        let R : Value → State → Flow → Memory → Type 0 = Tested s.memory m in
        sim_tick entries R j 40 act m l 0 s (ok (bool_bytes b) t)
        (sim_runs entries R j (0 + 100) 40 act t m l (bool_bytes b) (1 + 2) (1 + 3) falls m'
        (r_wait entries n world at o env size src0 outer fits floor j 0 (word w) m l 1 1 w (omega arith) (r_const j world at low o outer w m l)) logs (lit≤ tt)
        (tested s.memory m m b t (omega arith) (record { tied = ready.tied; newer = ready.newer; few = ready.few; stays = ready.stays }) (λ x zone. refl)))
    condition_sim (local at' x) s m l h fit live ready logs = absurd h
    condition_sim (call at' f arguments) s m l h fit live ready logs = absurd h
    condition_sim (builtin at' which arguments) s m l h fit live ready logs = absurd h
    condition_sim (binary at' op left right) s m l h fit live ready logs =
        let s1 : State = record s { cost = s.cost + 1 } in
        let some : 1 ≤ depth_of right = depth_some ss scope right h.1.1 in
        let tail : Stmts = join (expr_code o (0 + 1) right) (operation_code o 0 at' op) in
        let act : Fueled Flow = ex j world at low o outer (join (expr_code o 0 left) tail) in
        let V : Value → State → Flow → Memory → Type 0 = Valued entries n world at o env size src0 outer fits floor s.memory m 0 in
        let R : Value → State → Flow → Memory → Type 0 = Tested s.memory m in
        let f : Value → State → Res Value = λ v. (λ t. then_by (value_of calls env right t) (λ w. operate at' op v w)) in
        sim_tick entries R j 40 act m l 0 s (then_by (value_of calls env left s1) f)
        (join_sim entries n world at o env size src0 outer fits floor j V R 0 100 40 40 (expr_code o 0 left) tail s1 m l (value_of calls env left s1) f
        (expr_sim entries n world at o env size src0 outer fits floor ss calls calls_follow j scope left 0 s1 m l h.1.0 (omega arith) (record { by = live.by }) (record { tied = ready.tied; newer = ready.newer; few = ready.few; stays = ready.stays }) logs)
        (λ v t flow m' holds. holds.falls)
        (λ v t m' l' x logs'.
        let u : ℕ = x.word in
        let M : Value → State → Flow → Memory → Type 0 = Valued entries n world at o env size src0 outer fits floor t.memory m' (0 + 1) in
        let g : Value → State → Res Value = λ w. operate at' op v w in
        join_sim entries n world at o env size src0 outer fits floor j M R 0 (100 + 40) 40 40 (expr_code o (0 + 1) right) (operation_code o 0 at' op) t m' l' (value_of calls env right t) g
        (expr_sim entries n world at o env size src0 outer fits floor ss calls calls_follow j scope right (0 + 1) t m' l' h.1.1 (omega arith) (live_on entries n world at o env size src0 outer fits floor scope s.memory t.memory x.ready.stays live)
        (record { tied = x.ready.tied; newer = x.ready.newer; few = x.ready.few; stays = stays_same t.memory }) logs')
        (λ w t' flow m'' holds. holds.falls)
        (λ w t' m'' l'' y logs''.
        let k : ℕ = y.word in
        let still : WordAt m'' (low + offset_of (o.first + 0)) u = word_apart m' m'' (low + offset_of (o.first + 0)) u (λ q from to. y.others q (inl (omega arith, omega arith))) x.waits in
        let ready' : Ready entries n world at o env size src0 outer fits floor s.memory t'.memory t'.serial t'.left m'' =
        record { tied = y.ready.tied; newer = y.ready.newer; few = y.ready.few; stays = stays_on s.memory t.memory t'.memory x.ready.stays y.ready.stays } in
        let O : Value → Type 0 = λ a. Sim entries R j (100 + 40 + 40) 40 (ex j world at low o outer (operation_code o 0 at' op)) t' m'' l'' (operate at' op a w t') in
        let N : Value → Type 0 = λ a. Sim entries R j (100 + 40 + 40) 40 (ex j world at low o outer (operation_code o 0 at' op)) t' m'' l'' (operate at' op (bytes_of 8 u) a t') in
        subst O (sym x.value) (subst N (sym y.value)
        (sim_richer entries R j 40 (ex j world at low o outer (operation_code o 0 at' op)) m'' l'' 50 (100 + 40 + 40) t' (operate at' op (bytes_of 8 u) (bytes_of 8 k) t') (lit≤ tt)
        (sim_result entries R j 50 40 (ex j world at low o outer (operation_code o 0 at' op)) t' m'' l'' (operate at' op (bytes_of 8 u) (bytes_of 8 k) t') (result_of at' op (cast_signed w64 u) (cast_signed w64 k) t') (operates at' op u k t' x.small y.small)
        (comparison_sim at' op u k s.memory m m'' l'' t' h.0 (omega (arith, some)) x.small y.small still y.waits ready'
        (λ q zone. y.others q (zone_less entries n world at o env size src0 outer fits floor 0 (0 + 1) q (omega arith) zone) ∙ x.others q zone) logs'')))))))
