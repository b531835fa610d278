-- The core code of statements does what the source run does with them.
use Rattle.std.proofs.Common.{◌≡◌, ℕ, ◌+◌, ◌^◌, ◌<◌, ◌≤◌, inl, inr, Bool, List, ◌∷◌, map, arith, ◌∙◌, sym, subst, lit≤}
use Rattle.std.specs.Prelude.{Some}
use Rattle.odc_text.specs.declared.place.Place.{Place}
use Rattle.odc_text.specs.Run.{Log}
use Rattle.odc_typed.specs.Tree.{Expr}
use Rattle.odc_typed.specs.Bytes.{Value, bytes_of}
use Rattle.odc_typed.specs.Memory.{Memory as Blocks}
use Rattle.odc_typed.specs.Frame.{variable_place}
use Rattle.odc_typed.specs.Well.{IsInt, Signature, Scope}
use Rattle.odc_typed.specs.Source.{State, Res, then_by, Calls, Env, block_of, value_of}
use Rattle.odc_core.specs.Tree.{Stmts}
use Rattle.odc_core.specs.Words.{bytes_of as numbers_of}
use Rattle.odc_core.specs.Memory.{Memory, put}
use Rattle.odc_core.specs.Run.{Flow, falls, answers, World}
use Rattle.odc_context.specs.Code.{Own, offset_of, word_at, join, waits, expr_code, depth_of}
use Rattle.odc_context.proofs.Runs.{Runs}
use Rattle.odc_context.proofs.Sims.{read, Sim}
use Rattle.odc_context.proofs.Touched.{WordAt, put_away, word_variable}
use Rattle.odc_context.proofs.Frame.{ex, ex1, r_set}
use Rattle.odc_context.proofs.Ties.{Holds, Floor, Tied, Stays, stays_on, stays_same}
use Rattle.odc_context.proofs.simulation.Exprs.{Fits, Ready, Zone, Valued, Live, join_sim, r_waits}
use Rattle.odc_context.proofs.simulation.Nodes.{CallsFollow}
use Rattle.odc_context.proofs.simulation.Values.{expr_sim}
use Rattle.odc_typed.specs.Bytes.{Block}
use Rattle.odc_typed.specs.Source.{Flow as Left, falls as left_falls}
use Rattle.odc_context.specs.Code.{put as set}
use Rattle.odc_context.proofs.Ties.{tied_put, tied_open, opened, open_stays}
use Rattle.odc_typed.specs.Memory.{open_block}
use Rattle.odc_typed.specs.Memory.{put as block_put}
use Rattle.odc_typed.specs.Source.{returns}

module _ (entries : ℕ → ℕ) (n : ℕ) (world : World) (at : Place) (o : Own) (env : Env) (size : ℕ) (src0 : Blocks) (outer : ℕ → Bool) (fits : Fits env.low size o) (floor : Floor env size src0) where
  abbrev low : ℕ
  low = env.low

  -- how a statement is left: on both sides it falls, with its scope live, or it returns, with the result
  pub record Fell (scope : Scope) (now : Blocks) : Type 0 where
    pub live : Live entries n world at o env size src0 outer fits floor scope now

  pub record Gave (w : ℕ) (now : Blocks) (m : Memory) : Type 0 where
    pub holds : Holds now m (block_of env env.result) w

  abbrev pub AreLeft : Scope → Left → Flow → Blocks → Memory → Type 0
  AreLeft scope left_falls falls now m = Fell scope now
  AreLeft scope returns (answers w) now m = Gave w now m
  AreLeft scope _ _ now m = ⊥

  pub record Done (scope : Scope) (src : Blocks) (m : Memory) (v : Left) (t : State) (flow : Flow) (m' : Memory) : Type 0 where
    pub left : AreLeft scope v flow t.memory m'
    pub ready : Ready entries n world at o env size src0 outer fits floor src t.memory t.serial t.left m'
    pub above : (x : ℕ) → env.low + size ≤ x → m' x ≡ m x

  -- the result is live, where there is one
  pub record Result (results : ℕ) (now : Blocks) : Type 0 where
    pub by : 0 < results → now.size (block_of env env.result) ≡ Some 8

  pub result_on : (results : ℕ) (a b : Blocks) → Stays a b → Result results a → Result results b
  result_on results a b stays r = record { by = λ h. stays.by (block_of env env.result) 8 (r.by h) }

  -- the ready state as that of the beginning
  pub ready_now : (src now : Blocks) (serial left : ℕ) (m : Memory) → Ready entries n world at o env size src0 outer fits floor src now serial left m → Ready entries n world at o env size src0 outer fits floor now now serial left m
  ready_now src now serial left m r = record { tied = r.tied; newer = r.newer; few = r.few; stays = stays_same now }

  -- a variable's place, as the code counts it
  pub place_same : (x : ℕ) → variable_place low x ≡ low + offset_of x
  place_same x = omega arith

  size_eight : (now : Blocks) (m : Memory) (serial : ℕ) (c : Block) (s : ℕ) → Tied env o.first src0 now serial m → now.size c ≡ Some s → (s ≡ 8) × (now.size c ≡ Some 8)
  size_eight now m serial c s t e =
      let live : now.size c ≡ Some 8 = (t.words c s e).1.live in
      (some_same (sym e ∙ live), live)
    where
      some_same : Some s ≡ Some 8 → s ≡ 8
      some_same f = cc

  module _ (j : ℕ) where
    -- a word that waits goes into a variable
    pub into_runs : (x w : ℕ) (m : Memory) (l : Log ℕ ℕ) → x < o.first → 0 < o.waiting → w < 2 ^ 64 → WordAt m (env.low + offset_of (o.first + 0)) w →
        Runs j (ex1 j world at low o outer (set x (waits o 0))) m l 4 6 falls (put m (variable_place env.low x) (numbers_of 8 w)) l
    into_runs x w m l below inside small is =
        let P : ℕ → Type 0 = λ a. Runs j (ex1 j world at low o outer (set x (waits o 0))) m l 4 6 falls (put m a (numbers_of 8 w)) l in
        subst P (sym (place_same x))
        (r_set j world at low o outer x (word_at x) (waits o 0) m m l l 2 3 w (word_variable o x (omega arith)) (lit≤ tt) (r_waits entries n world at o env size src0 outer fits floor j 0 w m l inside small is))

    -- a variable's bytes lie below the frame's end
    pub var_below : (x w i : ℕ) (m : Memory) → x < o.first → env.low + size ≤ i → put m (variable_place env.low x) (numbers_of 8 w) i ≡ m i
    var_below x w i m below far = put_away m (variable_place env.low x) w i (inr (omega (arith, fits.room)))

    -- ---- declarations and assignments

    -- a variable that begins
    pub begun : (x w : ℕ) (scope : Scope) (src : Blocks) (m m' : Memory) (t : State) (c : ℕ) → x < o.first → w < 2 ^ 64 → Ready entries n world at o env size src0 outer fits floor src t.memory t.serial t.left m' → Live entries n world at o env size src0 outer fits floor scope t.memory → ((i : ℕ) → Zone entries n world at o env size src0 outer fits floor 0 i → m' i ≡ m i) →
        Done (x ∷ scope) src m left_falls (record t { memory = open_block t.memory (block_of env x) (bytes_of 8 w); cost = c }) falls (put m' (variable_place env.low x) (numbers_of 8 w))
    begun x w scope src m m' t c below small ready live others =
        let room : variable_place env.low o.first ≤ env.low + size = omega (arith, fits.room) in
        let now : Blocks = open_block t.memory (block_of env x) (bytes_of 8 w) in
        let stays : Stays t.memory now = record {
          by = λ b s e.
              let eight = size_eight t.memory m' t.serial b s ready.tied e in
              let P : ℕ → Type 0 = λ k. now.size b ≡ Some k in
              subst P (sym eight.0) (open_stays env o.first size src0 t.memory t.serial m' x w floor room below small ready.tied b eight.1);
        } in
        record {
          left = record {
            live = record {
              by = λ y h. elim h [
                | inl e ↦ (let P : ℕ → Type 0 = λ z. (z < o.first) × (now.size (block_of env z) ≡ Some 8) in
                    subst P (sym e) (below, opened env o.first size src0 t.memory t.serial m' x w floor room below small ready.tied))
                | inr k ↦ (let old = live.by y k in (old.0, stays.by (block_of env y) 8 old.1))
              ];
            };
          };
          ready = record {
            tied = tied_open env o.first size src0 t.memory t.serial m' x w floor room below small ready.tied ready.newer;
            newer = ready.newer;
            few = ready.few;
            stays = stays_on src t.memory now ready.stays stays;
          };
          above = λ i far. var_below x w i m' below far ∙ others i (inr far);
        }

    -- a variable that gets another word
    pub changed : (x w : ℕ) (scope : Scope) (src : Blocks) (m m' : Memory) (t : State) (c : ℕ) → x < o.first → w < 2 ^ 64 → t.memory.size (block_of env x) ≡ Some 8 → Ready entries n world at o env size src0 outer fits floor src t.memory t.serial t.left m' → Live entries n world at o env size src0 outer fits floor scope t.memory →
        ((i : ℕ) → Zone entries n world at o env size src0 outer fits floor 0 i → m' i ≡ m i) →
        Done scope src m left_falls (record t { memory = block_put t.memory (block_of env x) 0 (bytes_of 8 w); cost = c }) falls (put m' (variable_place env.low x) (numbers_of 8 w))
    changed x w scope src m m' t c below small live_x ready live others =
        let room : variable_place env.low o.first ≤ env.low + size = omega (arith, fits.room) in
        record {
          left = record { live = record { by = live.by } };
          ready = record {
            tied = tied_put env o.first size src0 t.memory t.serial m' x w floor room below small ready.tied live_x;
            newer = ready.newer;
            few = ready.few;
            stays = record { by = ready.stays.by };
          };
          above = λ i far. var_below x w i m' below far ∙ others i (inr far);
        }

  module _ (ss : List Signature) (calls : Calls) (calls_follow : CallsFollow entries n world at o env size src0 outer fits floor ss calls) where
    -- an expression's code and what goes on with its word
    pub value_then : (j b g : ℕ) (scope : Scope) (e : Expr) (tail : Stmts) (Q : Left → State → Flow → Memory → Type 0) (s : State) (m : Memory) (l : Log ℕ ℕ) (f : Value → State → Res Left) → IsInt ss scope e → depth_of e ≤ o.waiting →
        Live entries n world at o env size src0 outer fits floor scope s.memory → Ready entries n world at o env size src0 outer fits floor s.memory s.memory s.serial s.left m → map (read entries) s.log ≡ l →
        ((v : Value) (t : State) (m' : Memory) (l' : Log ℕ ℕ) → Valued entries n world at o env size src0 outer fits floor s.memory m 0 v t falls m' → map (read entries) t.log ≡ l' → Sim entries Q j (b + 40) g (ex j world at low o outer tail) t m' l' (f v t)) →
        Sim entries Q j b g (ex j world at low o outer (join (expr_code o 0 e) tail)) s m l (then_by (value_of calls env e s) f)
    value_then j b g scope e tail Q s m l f h fit live ready logs k =
        let V : Value → State → Flow → Memory → Type 0 = Valued entries n world at o env size src0 outer fits floor s.memory m 0 in
        let P : ℕ → Type 0 = λ q. Sim entries Q j q g (ex j world at low o outer (join (expr_code o 0 e) tail)) s m l (then_by (value_of calls env e s) f) in
        let none : 0 + b ≡ b = omega arith in
        subst P none (join_sim entries n world at o env size src0 outer fits floor j V Q 0 b 40 g (expr_code o 0 e) tail s m l (value_of calls env e s) f (expr_sim entries n world at o env size src0 outer fits floor ss calls calls_follow j scope e 0 s m l h (omega arith) live ready logs) (λ v t flow m' x. x.falls) k)
