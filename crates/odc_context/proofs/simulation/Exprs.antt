-- The core code of an expression does what the source run does with the expression.
use Rattle.std.proofs.Common.{◌≡◌, ℕ, ◌+◌, ◌*◌, ◌%◌, ◌^◌, ◌<◌, ◌≤◌, ◌⊎◌, inl, inr, Bool, true, false, map, arith, ap, ◌∙◌, sym, subst, refl, lit≤}
use Rattle.std.specs.Prelude.{negsuc, int_div, int_rem, Some, ◌==◌, if◌then◌else◌}
use Rattle.std.specs.Int.{w64, cast_signed, cast_unsigned}
use Rattle.odc_text.specs.declared.place.Place.{Place}
use Rattle.odc_text.specs.declared.check.Check.TheVariants.{Division}
use Rattle.odc_text.specs.Run.{checked, Log}
use Rattle.rv_table.specs.Words.{plus, minus, quotient, remainder}
use Rattle.odc_typed.specs.declared.tree.BinaryOp.{BinaryOp}
use Rattle.odc_typed.specs.declared.tree.BinaryOp.TheVariants.{Add, Subtract, Multiply, Divide, Remainder, Less, Equal}
use Rattle.odc_typed.specs.Bytes.{Value, bytes_of}
use Rattle.odc_typed.specs.Memory.{Memory as Blocks}
use Rattle.odc_typed.specs.Well.{Scope, InScope, IsArithmetic}
use Rattle.odc_typed.specs.Source.{State, Res, ok, stop, Act, then_by, Env, block_of, result_of, divided, wrapped}
use Rattle.odc_core.specs.declared.tree.BinaryOp.{BinaryOp as CoreOp}
use Rattle.odc_core.specs.declared.tree.BinaryOp.TheVariants.{Add as Plus, Subtract as Minus, Multiply as Times, Divide as Over, Remainder as Rest}
use Rattle.odc_core.specs.Tree.{check, Stmts, follow}
use Rattle.odc_core.specs.Tree.{Expr as CoreExpr, binary as operated}
use Rattle.odc_core.specs.Words.{binary_word}
use Rattle.odc_core.specs.Words.{bytes_of as numbers_of}
use Rattle.odc_core.specs.Memory.{Memory, put}
use Rattle.odc_core.specs.Run.{Flow, falls, after, World, spend, pure, ◌>>=◌}
use Rattle.odc_core.specs.Run.{State as CoreState, Res as CoreRes, ok as fine, stop as halt, then_by as onto}
use Rattle.odc_context.specs.Code.{Own, offset_of, word_at, join, one, waits, wait, operation_code}
use Rattle.odc_context.proofs.Runs.{Fueled, to, Runs, runs_pure, runs_then, runs_node}
use Rattle.odc_context.proofs.Sims.{read, Sim, sim_runs, seq, sim_act}
use Rattle.odc_context.proofs.Touched.{WordAt, put_word, put_away, word_variable}
use Rattle.odc_context.proofs.Frame.{env_at, ev, ex, ex1, exec_join, r_held, r_binary, r_set, r_follow, r_one}
use Rattle.odc_context.proofs.simulation.Printing.{IsLow}
use Rattle.odc_context.proofs.Ties.{Floor, Tied, Stays, tied_alike}
use Rattle.odc_context.proofs.simulation.Texts.{added, subtracted, multiplied, divided_word, rest_word, quotient_small, remainder_small, zero_test}

-- one of two actions
abbrev chosen : Bool → Act Value → Act Value → Act Value
chosen b f g = if b then f else g

-- the frame has room for the own variables
pub record Fits (low size : ℕ) (o : Own) : Type 0 where
  pub is_low : IsLow low
  pub room : 128 + 16 * (o.first + o.waiting) ≤ size
  pub top : low + size ≤ 2 ^ 31

module _ (entries : ℕ → ℕ) (n : ℕ) (world : World) (at : Place) (o : Own) (env : Env) (size : ℕ) (src0 : Blocks) (outer : ℕ → Bool) (fits : Fits env.low size o) (floor : Floor env size src0) where
  abbrev pub low : ℕ
  low = env.low

  abbrev pub slot_at : ℕ → ℕ
  slot_at d = low + offset_of (o.first + d)

  -- what holds at every point of a body
  pub record Ready (src now : Blocks) (serial left : ℕ) (m : Memory) : Type 0 where
    pub tied : Tied env o.first src0 now serial m
    pub newer : env.serial < serial
    pub few : left ≤ n
    pub stays : Stays src now

  -- the values that wait below a depth, and what lies above the frame
  abbrev pub Zone : ℕ → ℕ → Type 0
  Zone d x = ((low + offset_of o.first ≤ x) × (x < low + offset_of (o.first + d))) ⊎ (low + size ≤ x)

  -- a value of eight bytes waits at a depth
  pub record Valued (src : Blocks) (m : Memory) (d : ℕ) (v : Value) (t : State) (flow : Flow) (m' : Memory) : Type 0 where
    pub word : ℕ
    pub small : word < 2 ^ 64
    pub value : v ≡ bytes_of 8 word
    pub falls : flow ≡ falls
    pub waits : WordAt m' (low + offset_of (o.first + d)) word
    pub ready : Ready src t.memory t.serial t.left m'
    pub others : (x : ℕ) → Zone d x → m' x ≡ m x

  -- the variables in scope are live
  pub record Live (scope : Scope) (now : Blocks) : Type 0 where
    pub by : (x : ℕ) → InScope scope x → (x < o.first) × (now.size (block_of env x) ≡ Some 8)

  pub live_on : (scope : Scope) (a b : Blocks) → Stays a b → Live scope a → Live scope b
  live_on scope a b stays live = record { by = λ x h. let l = live.by x h in (l.0, stays.by (block_of env x) 8 l.1) }

  -- a word that has come to wait
  pub waited : (src now : Blocks) (serial left : ℕ) (m m1 : Memory) (d w : ℕ) (t : State) → d < o.waiting → Ready src t.memory t.serial t.left m1 → ((x : ℕ) → Zone d x → m1 x ≡ m x) → w < 2 ^ 64 →
      Valued src m d (bytes_of 8 w) t falls (put m1 (low + offset_of (o.first + d)) (numbers_of 8 w))
  waited src now serial left m m1 d w t inside ready others small = record {
    word = w;
    small = small;
    value = refl;
    falls = refl;
    waits = put_word m1 (slot_at d) w;
    ready = record {
      tied = tied_alike env o.first size src0 t.memory t.serial m1 (put m1 (slot_at d) (numbers_of 8 w)) floor
          (λ i zone. put_away m1 (slot_at d) w i (elim zone [ inl a ↦ inl (omega (arith, a.1)) | inr a ↦ inr (omega (arith, fits.room)) ])) ready.tied;
      newer = ready.newer;
      few = ready.few;
      stays = ready.stays;
    };
    others = λ x zone. put_away m1 (slot_at d) w x (elim zone [ inl a ↦ inl (omega (arith, a.1)) | inr a ↦ inr (omega (arith, fits.room)) ]) ∙ others x zone;
  }

  module _ (j : ℕ) where
    abbrev run : Stmts → Fueled Flow
    run = ex j world at low o outer

    -- a list of statements behind another one
    pub join_sim : {A A' : Type 0} (R : A → State → Flow → Memory → Type 0) (Q : A' → State → Flow → Memory → Type 0) (b b' h g : ℕ) (a c : Stmts) (s : State) (m : Memory) (l : Log ℕ ℕ) (r : Res A)
        (f : A → (State → Res A')) → Sim entries R j b h (ex j world at low o outer a) s m l r → ((v : A) (t : State) (flow : Flow) (m' : Memory) → R v t flow m' → flow ≡ falls) →
        ((v : A) (t : State) (m' : Memory) (l' : Log ℕ ℕ) → R v t falls m' → map (read entries) t.log ≡ l' → Sim entries Q j (b' + h) g (ex j world at low o outer c) t m' l' (f v t)) →
        Sim entries Q j (b + b') g (ex j world at low o outer (join a c)) s m l (then_by r f)
    join_sim {A} {A'} R Q b b' h g a c s m l r f x is k =
        sim_act entries Q j (b + b') g (λ i. run a i >>= (λ flow. after flow (run c i))) (run (join a c)) (λ i q. exec_join i (env_at world at low o outer) a c q) s m l (then_by r f)
        (seq entries R Q j b b' h g (run a) (λ flow i. after flow (run c i)) s m l r f x
        (λ v t flow m' l' holds logs fewer.
        let e : flow ≡ falls = is v t flow m' holds in
        let P : Flow → Type 0 = λ y. R v t y m' in
        let S : Flow → Type 0 = λ y. Sim entries Q j (b' + h) g (λ i. after y (run c i)) t m' l' (f v t) in
        subst S (sym e) (k v t m' l' (subst P e holds) logs)))

    -- a word that waits
    pub r_waits : (d w : ℕ) (m : Memory) (l : Log ℕ ℕ) → d < o.waiting → w < 2 ^ 64 → WordAt m (low + offset_of (o.first + d)) w → Runs j (ev j world at low o outer (waits o d)) m l 2 3 w m l
    r_waits d w m l inside small is = r_held j world at low o outer (o.first + d) (word_at (o.first + d)) w m l (word_variable o (o.first + d) (omega arith)) (lit≤ tt) small is

    -- a word comes to wait
    pub r_wait : (d : ℕ) (e : CoreExpr) (m : Memory) (l : Log ℕ ℕ) (b c w : ℕ) → d < o.waiting → Runs j (ev j world at low o outer e) m l b c w m l →
        Runs j (ex j world at low o outer (one (wait o d e))) m l (b + 2) (c + 3) falls (put m (low + offset_of (o.first + d)) (numbers_of 8 w)) l
    r_wait d e m l b c w inside r =
        r_one j world at low o outer (wait o d e) m (put m (slot_at d) (numbers_of 8 w)) l l (b + 2) (c + 3) falls
        (r_set j world at low o outer (o.first + d) (word_at (o.first + d)) e m m l l b c w (word_variable o (o.first + d) (omega arith)) (lit≤ tt) r)

    -- ---- operations on two words that wait

    module _ (d u v : ℕ) (src : Blocks) (m0 m : Memory) (l : Log ℕ ℕ) (t : State) (inside : d + 1 < o.waiting) (left_small : u < 2 ^ 64) (right_small : v < 2 ^ 64)
        (left_waits : WordAt m (low + offset_of (o.first + d)) u) (right_waits : WordAt m (low + offset_of (o.first + (d + 1))) v)
        (ready : Ready src t.memory t.serial t.left m) (others : (x : ℕ) → Zone d x → m x ≡ m0 x) (logs : map (read entries) t.log ≡ l) where
      operation_runs : (op : CoreOp) → Runs j (ex j world at low o outer (one (wait o d (operated op (waits o d) (waits o (d + 1)))))) m l 7 10 falls (put m (low + offset_of (o.first + d)) (numbers_of 8 (binary_word op u v))) l
      operation_runs op =
          r_wait d (operated op (waits o d) (waits o (d + 1))) m l 5 7 (binary_word op u v) (omega arith)
          (r_binary j world at low o outer op (waits o d) (waits o (d + 1)) m l 2 3 2 3 u v (r_waits d u m l (omega arith) left_small left_waits) (r_waits (d + 1) v m l inside right_small right_waits))

      operation_sim : (op : CoreOp) (w : ℕ) → w < 2 ^ 64 → binary_word op u v ≡ w →
          Sim entries (Valued src m0 d) j 64 40 (ex j world at low o outer (one (wait o d (operated op (waits o d) (waits o (d + 1)))))) t m l (ok (bytes_of 8 w) t)
      operation_sim op w small e =
          let P : ℕ → Type 0 = λ x. Runs j (ex j world at low o outer (one (wait o d (operated op (waits o d) (waits o (d + 1)))))) m l 7 10 falls (put m (low + offset_of (o.first + d)) (numbers_of 8 x)) l in
          sim_runs entries (Valued src m0 d) j 64 40 (ex j world at low o outer (one (wait o d (operated op (waits o d) (waits o (d + 1)))))) t m l (bytes_of 8 w) 7 10 falls (put m (slot_at d) (numbers_of 8 w))
          (subst P e (operation_runs op)) logs (lit≤ tt) (waited src t.memory t.serial t.left m0 m d w t (omega arith) ready others small)

      -- the check of a divisor
      check_runs : (at' : Place) → (v == 0) ≡ false → Runs j (ex1 j world at low o outer (check (waits o (d + 1)) Division at')) m l 3 4 falls m l
      check_runs at' e =
          let P : Bool → Type 0 = λ b. Runs j (λ i. if b then (λ s. halt (checked Division at') s) else pure falls) m l 0 0 falls m l in
          runs_node j (λ i. ev j world at low o outer (waits o (d + 1)) i >>= (λ x. if x == 0 then (λ s. halt (checked Division at') s) else pure falls)) m l 2 3 falls m l
          (runs_then j (ev j world at low o outer (waits o (d + 1))) (λ x i. if x == 0 then (λ s. halt (checked Division at') s) else pure falls) m l 2 3 v m l 0 0 falls m l
          (r_waits (d + 1) v m l inside right_small right_waits) (subst P (sym e) (runs_pure j falls m l)))

      -- a zero divisor stops both
      check_stops : {A : Type 0} (R : A → State → Flow → Memory → Type 0) (at' : Place) (rest : Stmts) → (v == 0) ≡ true →
          Sim entries R j 64 40 (ex j world at low o outer (follow (check (waits o (d + 1)) Division at') rest)) t m l (stop (checked Division at') t)
      check_stops {A} R at' rest e = record {
        by = record {
          memory = m;
          log = l;
          budget = 2;
          cost = 3;
          is = λ i k c h.
              let act : ℕ → CoreState → CoreRes Flow = λ x. (λ s. onto (onto (if x == 0 then halt (checked Division at') s else fine falls s) (λ f. spend (pure f))) (λ f. after f (run rest i))) in
              ap (λ (r : CoreRes ℕ). onto (onto (onto r (λ x. if x == 0 then (λ s. halt (checked Division at') s) else pure falls)) (λ f. spend (pure f))) (λ f. after f (run rest i)))
              ((r_waits (d + 1) v m l inside right_small right_waits).is i k c h)
              ∙ ap (λ (b : Bool). onto (onto ((if b then (λ s. halt (checked Division at') s) else pure falls) (to c m l k 3)) (λ f. spend (pure f))) (λ f. after f (run rest i))) e;
          logs = logs;
          cheap = omega arith;
          taken = refl;
        };
      }

      divide_sim : (at' : Place) (op : BinaryOp) (core_op : CoreOp) (w : ℕ) → w < 2 ^ 64 → binary_word core_op u v ≡ w → ((v == 0) ≡ false → wrapped op (cast_signed w64 u) (cast_signed w64 v) ≡ bytes_of 8 w) →
          Sim entries (Valued src m0 d) j 64 40 (ex j world at low o outer (follow (check (waits o (d + 1)) Division at') (one (wait o d (operated core_op (waits o d) (waits o (d + 1))))))) t m l
          (divided at' op (cast_signed w64 u) (cast_signed w64 v) t)
      divide_sim at' op core_op w small e is = by (v == 0) refl
        where
          by : (b : Bool) → (v == 0) ≡ b →
              Sim entries (Valued src m0 d) j 64 40 (ex j world at low o outer (follow (check (waits o (d + 1)) Division at') (one (wait o d (operated core_op (waits o d) (waits o (d + 1))))))) t m l
              (divided at' op (cast_signed w64 u) (cast_signed w64 v) t)
          by true f =
              let P : Bool → Type 0 = λ b. Sim entries (Valued src m0 d) j 64 40 (ex j world at low o outer (follow (check (waits o (d + 1)) Division at') (one (wait o d (operated core_op (waits o d) (waits o (d + 1))))))) t m l (chosen b (λ s. stop (checked Division at') s) (λ s. ok (wrapped op (cast_signed w64 u) (cast_signed w64 v)) s) t) in
              subst P (sym (zero_test v right_small ∙ f)) (check_stops (Valued src m0 d) at' (one (wait o d (operated core_op (waits o d) (waits o (d + 1))))) f)
          by false f =
              let P : Bool → Type 0 = λ b. Sim entries (Valued src m0 d) j 64 40 (ex j world at low o outer (follow (check (waits o (d + 1)) Division at') (one (wait o d (operated core_op (waits o d) (waits o (d + 1))))))) t m l (chosen b (λ s. stop (checked Division at') s) (λ s. ok (wrapped op (cast_signed w64 u) (cast_signed w64 v)) s) t) in
              let S : Value → Type 0 = λ x. Sim entries (Valued src m0 d) j 64 40 (ex j world at low o outer (follow (check (waits o (d + 1)) Division at') (one (wait o d (operated core_op (waits o d) (waits o (d + 1))))))) t m l (ok x t) in
              let Q : ℕ → Type 0 = λ x. Runs j (ex j world at low o outer (follow (check (waits o (d + 1)) Division at') (one (wait o d (operated core_op (waits o d) (waits o (d + 1))))))) m l (3 + 7) (4 + 10) falls (put m (low + offset_of (o.first + d)) (numbers_of 8 x)) l in
              subst P (sym (zero_test v right_small ∙ f))
              (subst S (sym (is f))
              (sim_runs entries (Valued src m0 d) j 64 40 (ex j world at low o outer (follow (check (waits o (d + 1)) Division at') (one (wait o d (operated core_op (waits o d) (waits o (d + 1))))))) t m l (bytes_of 8 w) (3 + 7) (4 + 10) falls (put m (slot_at d) (numbers_of 8 w))
              (subst Q e (r_follow j world at low o outer (check (waits o (d + 1)) Division at') (one (wait o d (operated core_op (waits o d) (waits o (d + 1))))) m m (put m (slot_at d) (numbers_of 8 (binary_word core_op u v))) l l l 3 4 7 10 falls (check_runs at' f) (operation_runs core_op)))
              logs (lit≤ tt) (waited src t.memory t.serial t.left m0 m d w t (omega arith) ready others small)))

      pub arithmetic_sim : (at' : Place) (op : BinaryOp) → IsArithmetic op →
          Sim entries (Valued src m0 d) j 64 40 (ex j world at low o outer (operation_code o d at' op)) t m l (result_of at' op (cast_signed w64 u) (cast_signed w64 v) t)
      arithmetic_sim at' Add h =
          let S : Value → Type 0 = λ x. Sim entries (Valued src m0 d) j 64 40 (ex j world at low o outer (operation_code o d at' Add)) t m l (ok x t) in
          subst S (sym (added u v left_small right_small)) (operation_sim Plus (plus u v) (omega arith) refl)
      arithmetic_sim at' Subtract h =
          let S : Value → Type 0 = λ x. Sim entries (Valued src m0 d) j 64 40 (ex j world at low o outer (operation_code o d at' Subtract)) t m l (ok x t) in
          subst S (sym (subtracted u v left_small right_small)) (operation_sim Minus (minus u v) (omega arith) refl)
      arithmetic_sim at' Multiply h =
          let S : Value → Type 0 = λ x. Sim entries (Valued src m0 d) j 64 40 (ex j world at low o outer (operation_code o d at' Multiply)) t m l (ok x t) in
          subst S (sym (multiplied u v left_small right_small)) (operation_sim Times (u * v % 2 ^ 64) (omega arith) refl)
      arithmetic_sim at' Divide h =
          divide_sim at' Divide Over (quotient w64 u v) (quotient_small u v left_small) refl
          (λ f. divided_word u v left_small ∙ ap (bytes_of 8) (sym (ap (λ (b : Bool). if b then cast_unsigned w64 (negsuc 0) else cast_unsigned w64 (int_div (cast_signed w64 u) (cast_signed w64 v))) f)))
      arithmetic_sim at' Remainder h =
          divide_sim at' Remainder Rest (remainder w64 u v) (remainder_small u v left_small) refl
          (λ f. rest_word u v left_small ∙ ap (bytes_of 8) (sym (ap (λ (b : Bool). if b then u else cast_unsigned w64 (int_rem (cast_signed w64 u) (cast_signed w64 v))) f)))
      arithmetic_sim at' Less h = absurd h
      arithmetic_sim at' Equal h = absurd h
