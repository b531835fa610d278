-- The core code of each kind of expression does what the source run does.
use Rattle.std.proofs.Common.{◌≡◌, ℕ, ◌+◌, ◌^◌, ◌<◌, ◌≤◌, inl, inr, Bool, List, [], ◌∷◌, ◌++◌, length, map, arith, ap, ◌∙◌, sym, subst, refl, lit≤}
use Rattle.std.specs.Prelude.{ℤ, Option, Some, None, slice_get, FitsSigned}
use Rattle.std.specs.Int.{w64, cast_signed, cast_unsigned}
use Rattle.std.proofs.lemmas.List.{map-append}
use Rattle.odc_text.specs.declared.place.Place.{Place}
use Rattle.odc_text.specs.Run.{out, Log}
use Rattle.odc_typed.specs.declared.tree.Constant.TheVariants.{Int}
use Rattle.odc_typed.specs.declared.tree.BinaryOp.{BinaryOp}
use Rattle.odc_typed.specs.Tree.{Expr, const, local, binary}
use Rattle.odc_typed.specs.Bytes.{Address, Value, bytes_of}
use Rattle.odc_typed.specs.Memory.{Memory as Blocks}
use Rattle.odc_typed.specs.Frame.{variable_place}
use Rattle.odc_typed.specs.Well.{Signature, Scope, InScope, IsArithmetic}
use Rattle.odc_typed.specs.Source.{State, Res, ok, then_by, Calls, Env, block_of, value_of, read_found, operate, result_of}
use Rattle.odc_core.specs.Tree.{Stmts}
use Rattle.odc_core.specs.Tree.{const as word}
use Rattle.odc_core.specs.Words.{bytes_of as numbers_of}
use Rattle.odc_core.specs.Memory.{Memory, put}
use Rattle.odc_core.specs.Frames.{touched_in}
use Rattle.odc_core.specs.Run.{Flow, falls, leaves, answers, after, World, calls_of, pure}
use Rattle.odc_core.specs.Run.{Res as CoreRes, ok as fine, stop as halt, then_by as onto}
use Rattle.odc_context.specs.Code.{Own, offset_of, word_at, variables_of, join, held, expr_code, operation_code}
use Rattle.odc_context.proofs.Runs.{Fueled}
use Rattle.odc_context.proofs.Sims.{read, Sim, sim_runs, sim_tick, sim_richer, sim_result}
use Rattle.odc_context.proofs.Touched.{WordAt, word_apart, word_variable}
use Rattle.odc_context.proofs.Frame.{ex, r_const, r_held}
use Rattle.odc_context.proofs.Ties.{Holds, Floor, stays_on, loaded_word}
use Rattle.odc_context.proofs.simulation.Texts.{word_fits, operates, AreSmall, values}
use Rattle.odc_context.proofs.simulation.Exprs.{Fits, Ready, Zone, Valued, Live, waited, join_sim, r_wait, arithmetic_sim}

-- a single statement's run is that of the statement
pub alone : (r : CoreRes Flow) → onto r (λ f. after f (pure falls)) ≡ r
alone (fine falls t) = refl
alone (fine (leaves d) t) = refl
alone (fine (answers w) t) = refl
alone (halt e t) = refl

-- a log of bytes is read as it is
pub read_out : (entries : ℕ → ℕ) (log : Log Address ℕ) (l : Log ℕ ℕ) (bytes : List ℕ) → map (read entries) log ≡ l → map (read entries) (log ++ map out bytes) ≡ l ++ map out bytes
read_out entries log l bytes e = map-append (read entries) log (map out bytes) ∙ ap (λ (x : Log ℕ ℕ). x ++ map (read entries) (map out bytes)) e ∙ ap (λ (x : Log ℕ ℕ). l ++ x) (outs bytes)
  where
    outs : (bs : List ℕ) → map (read entries) (map out bs) ≡ map out bs
    outs [] = refl
    outs (b ∷ bs) = ap (λ (x : Log ℕ ℕ). out b ∷ x) (outs bs)

module _ (entries : ℕ → ℕ) (n : ℕ) (world : World) (at : Place) (o : Own) (env : Env) (size : ℕ) (src0 : Blocks) (outer : ℕ → Bool) (fits : Fits env.low size o) (floor : Floor env size src0) where
  abbrev low : ℕ
  low = env.low

  -- what a call of a procedure with a result leaves: memory from the caller's low end on is as it was
  pub record Called (src : Blocks) (m : Memory) (v : Value) (t : State) (w : ℕ) (m' : Memory) : Type 0 where
    pub small : w < 2 ^ 64
    pub value : v ≡ bytes_of 8 w
    pub ready : Ready entries n world at o env size src0 outer fits floor src t.memory t.serial t.left m'
    pub above : (x : ℕ) → env.low ≤ x → m' x ≡ m x

  pub record CallsFollow (ss : List Signature) (calls : Calls) : Type 0 where
    pub by : (j f k : ℕ) → slice_get ss f ≡ Some (record { parameters = k; results = 1 }) → (ws : List ℕ) → AreSmall ws → length ws ≡ k → (s : State) (m : Memory) (l : Log ℕ ℕ) →
        Ready entries n world at o env size src0 outer fits floor s.memory s.memory s.serial s.left m → map (read entries) s.log ≡ l →
        Sim entries (Called s.memory m) j 0 0 (λ i. calls_of world i None f ws (touched_in outer env.low (variables_of o)) env.low) s m l (calls f (values ws) env.low s)

  -- words that wait from a depth on
  abbrev pub AllWait : Memory → ℕ → List ℕ → Type 0
  AllWait m d [] = Unit {0}
  AllWait m d (w ∷ ws) = WordAt m (env.low + offset_of (o.first + d)) w × AllWait m (d + 1) ws

  pub all_wait_on : (m m' : Memory) (d e : ℕ) (ws : List ℕ) → ((x : ℕ) → Zone entries n world at o env size src0 outer fits floor e x → m' x ≡ m x) → d + length ws ≤ e → AllWait m d ws → AllWait m' d ws
  all_wait_on m m' d e [] same h a = tt
  all_wait_on m m' d e (w ∷ ws) same h a =
      (word_apart m m' (low + offset_of (o.first + d)) w (λ x from to. same x (inl (omega arith, omega arith))) a.0, all_wait_on m m' (d + 1) e ws same (omega arith) a.1)

  -- the values of arguments
  pub record Listed (src : Blocks) (m : Memory) (d k : ℕ) (vs : List Value) (t : State) (flow : Flow) (m' : Memory) : Type 0 where
    pub words : List ℕ
    pub small : AreSmall words
    pub value : vs ≡ values words
    pub counted : length words ≡ k
    pub falls : flow ≡ falls
    pub waits : AllWait m' d words
    pub ready : Ready entries n world at o env size src0 outer fits floor src t.memory t.serial t.left m'
    pub others : (x : ℕ) → Zone entries n world at o env size src0 outer fits floor d x → m' x ≡ m x

  -- a smaller zone
  pub zone_less : (d e x : ℕ) → d ≤ e → Zone entries n world at o env size src0 outer fits floor d x → Zone entries n world at o env size src0 outer fits floor e x
  zone_less d e x h zone = elim zone [ inl a ↦ inl (a.0, omega (arith, a.1)) | inr a ↦ inr a ]

  module _ (j : ℕ) where
    pub const_sim : (at' : Place) (z : ℤ) (d : ℕ) (s : State) (m : Memory) (l : Log ℕ ℕ) → FitsSigned w64 z → d < o.waiting →
        Ready entries n world at o env size src0 outer fits floor s.memory s.memory s.serial s.left m → map (read entries) s.log ≡ l → (calls : Calls) →
        Sim entries (Valued entries n world at o env size src0 outer fits floor s.memory m d) j 0 40 (ex j world at low o outer (expr_code o d (const at' (Int z)))) s m l (value_of calls env (const at' (Int z)) s)
    const_sim at' z d s m l h inside ready logs calls =
        let w : ℕ = cast_unsigned w64 z in
        let t : State = record s { cost = s.cost + 1 } in
        let act : Fueled Flow = ex j world at low o outer (expr_code o d (const at' (Int z))) in
        let m' : Memory = put m (low + offset_of (o.first + d)) (numbers_of 8 w) in
        sim_tick entries (Valued entries n world at o env size src0 outer fits floor s.memory m d) j 40 act m l 0 s (ok (bytes_of 8 w) t)
        (sim_runs entries (Valued entries n world at o env size src0 outer fits floor s.memory m d) j (0 + 100) 40 act t m l (bytes_of 8 w) (1 + 2) (1 + 3) falls m'
        (r_wait entries n world at o env size src0 outer fits floor j d (word w) m l 1 1 w inside (r_const j world at low o outer w m l)) logs (lit≤ tt)
        (waited entries n world at o env size src0 outer fits floor s.memory s.memory s.serial s.left m m d w t inside ready (λ x zone. refl) (word_fits z h)))

    pub local_sim : (at' : Place) (x d : ℕ) (scope : Scope) (s : State) (m : Memory) (l : Log ℕ ℕ) → InScope scope x → d < o.waiting → Live entries n world at o env size src0 outer fits floor scope s.memory →
        Ready entries n world at o env size src0 outer fits floor s.memory s.memory s.serial s.left m → map (read entries) s.log ≡ l → (calls : Calls) →
        Sim entries (Valued entries n world at o env size src0 outer fits floor s.memory m d) j 0 40 (ex j world at low o outer (expr_code o d (local at' x))) s m l (value_of calls env (local at' x) s)
    local_sim at' x d scope s m l h inside live ready logs calls =
        let live_x = live.by x h in
        let b = block_of env x in
        let held_word = ready.tied.words b 8 live_x.1 in
        let w : ℕ = held_word.0 in
        let holds : Holds s.memory m b w = held_word.1 in
        let t : State = record s { cost = s.cost + 1 + 1 } in
        let act : Fueled Flow = ex j world at low o outer (expr_code o d (local at' x)) in
        let m' : Memory = put m (low + offset_of (o.first + d)) (numbers_of 8 w) in
        let is : value_of calls env (local at' x) s ≡ ok (bytes_of 8 w) t = ap (λ (v : Option Value). read_found at' 8 v (record s { cost = s.cost + 1 })) (loaded_word s.memory m b w holds) in
        let variable : slice_get (variables_of o) x ≡ Some (word_at x) = word_variable o x (omega (arith, live_x.0)) in
        let same : variable_place low x ≡ low + offset_of x = omega arith in
        let there : WordAt m (low + offset_of x) w = (let P : ℕ → Type 0 = λ a. WordAt m a w in subst P same holds.core) in
        sim_result entries (Valued entries n world at o env size src0 outer fits floor s.memory m d) j 0 40 act s m l (value_of calls env (local at' x) s) (ok (bytes_of 8 w) t) is
        (record {
          by = record {
            word = falls;
            memory = m';
            log = l;
            budget = 2 + 2;
            cost = 3 + 3;
            runs = r_wait entries n world at o env size src0 outer fits floor j d (held x) m l 2 3 w inside (r_held j world at low o outer x (word_at x) w m l variable (lit≤ tt) holds.small there);
            holds = waited entries n world at o env size src0 outer fits floor s.memory s.memory s.serial s.left m m d w t inside ready (λ y zone. refl) holds.small;
            logs = logs;
            cheap = omega arith;
            turns = omega arith;
            fewer = omega arith;
            taken = refl;
          };
        })

    -- both operands, and the operation
    pub binary_sim : (at' : Place) (op : BinaryOp) (left right : Expr) (d : ℕ) (s : State) (m : Memory) (l : Log ℕ ℕ) (calls : Calls) → IsArithmetic op → d + 1 < o.waiting →
        (map (read entries) s.log ≡ l) →
        ((c : ℕ) → Sim entries (Valued entries n world at o env size src0 outer fits floor s.memory m d) j 0 40 (ex j world at low o outer (expr_code o d left)) (record s { cost = c }) m l (value_of calls env left (record s { cost = c }))) →
        ((t : State) (m' : Memory) (l' : Log ℕ ℕ) → Ready entries n world at o env size src0 outer fits floor s.memory t.memory t.serial t.left m' → map (read entries) t.log ≡ l' →
        Sim entries (Valued entries n world at o env size src0 outer fits floor t.memory m' (d + 1)) j 0 40 (ex j world at low o outer (expr_code o (d + 1) right)) t m' l' (value_of calls env right t)) →
        Sim entries (Valued entries n world at o env size src0 outer fits floor s.memory m d) j 0 40 (ex j world at low o outer (expr_code o d (binary at' op left right))) s m l (value_of calls env (binary at' op left right) s)
    binary_sim at' op left right d s m l calls h inside logs first second =
        let s1 : State = record s { cost = s.cost + 1 } in
        let tail : Stmts = join (expr_code o (d + 1) right) (operation_code o d at' op) in
        let act : Fueled Flow = ex j world at low o outer (join (expr_code o d left) tail) in
        let R : Value → State → Flow → Memory → Type 0 = Valued entries n world at o env size src0 outer fits floor s.memory m d in
        let f : Value → State → Res Value = λ v. (λ t. then_by (value_of calls env right t) (λ w. operate at' op v w)) in
        sim_tick entries R j 40 act m l 0 s (then_by (value_of calls env left s1) f)
        (join_sim entries n world at o env size src0 outer fits floor j R R 0 100 40 40 (expr_code o d left) tail s1 m l (value_of calls env left s1) f (first (s.cost + 1))
        (λ v t flow m' holds. holds.falls)
        (λ v t m' l' x logs'.
        let u : ℕ = x.word in
        let M : Value → State → Flow → Memory → Type 0 = Valued entries n world at o env size src0 outer fits floor t.memory m' (d + 1) in
        let g : Value → State → Res Value = λ w. operate at' op v w in
        join_sim entries n world at o env size src0 outer fits floor j M R 0 (100 + 40) 40 40 (expr_code o (d + 1) right) (operation_code o d at' op) t m' l' (value_of calls env right t) g
        (second t m' l' x.ready logs') (λ w t' flow m'' holds. holds.falls)
        (λ w t' m'' l'' y logs''.
        let k : ℕ = y.word in
        let still : WordAt m'' (low + offset_of (o.first + d)) u = word_apart m' m'' (low + offset_of (o.first + d)) u (λ q from to. y.others q (inl (omega arith, omega arith))) x.waits in
        let ready : Ready entries n world at o env size src0 outer fits floor s.memory t'.memory t'.serial t'.left m'' =
        record { tied = y.ready.tied; newer = y.ready.newer; few = y.ready.few; stays = stays_on s.memory t.memory t'.memory x.ready.stays y.ready.stays } in
        let O : Value → Type 0 = λ a. Sim entries R j (100 + 40 + 40) 40 (ex j world at low o outer (operation_code o d at' op)) t' m'' l'' (operate at' op a w t') in
        let N : Value → Type 0 = λ a. Sim entries R j (100 + 40 + 40) 40 (ex j world at low o outer (operation_code o d at' op)) t' m'' l'' (operate at' op (bytes_of 8 u) a t') in
        subst O (sym x.value) (subst N (sym y.value)
        (sim_richer entries R j 40 (ex j world at low o outer (operation_code o d at' op)) m'' l'' 64 (100 + 40 + 40) t' (operate at' op (bytes_of 8 u) (bytes_of 8 k) t') (lit≤ tt)
        (sim_result entries R j 64 40 (ex j world at low o outer (operation_code o d at' op)) t' m'' l'' (operate at' op (bytes_of 8 u) (bytes_of 8 k) t') (result_of at' op (cast_signed w64 u) (cast_signed w64 k) t') (operates at' op u k t' x.small y.small)
        (arithmetic_sim entries n world at o env size src0 outer fits floor j d u k s.memory m m'' l'' t' inside x.small y.small still y.waits ready
        (λ q zone. y.others q (zone_less d (d + 1) q (omega arith) zone) ∙ x.others q zone) logs'' at' op h)))))))
