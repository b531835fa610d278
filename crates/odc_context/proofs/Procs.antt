-- Procedures, and calls.
use Rattle.std.proofs.Common.{◌≡◌, ℕ, zero, suc, ◌+◌, ◌-◌, ◌*◌, ◌^◌, ◌<◌, ◌≤◌, Bool, true, false, List, [], ◌∷◌, ◌++◌, length, arith, ap, ◌∙◌, sym, subst, refl, lit≤}
use Rattle.std.specs.Prelude.{Some, nat_lt}
use Rattle.std.proofs.Math.Nat.{add-zero}
use Rattle.std.proofs.lemmas.Bool.Decides.{nat_tests}
use Rattle.odc_typed.specs.declared.tree.BinaryOp.{BinaryOp}
use Rattle.odc_typed.specs.declared.tree.BinaryOp.TheVariants.{Add, Subtract, Multiply, Divide, Remainder, Less, Equal}
use Rattle.odc_typed.specs.Tree.{Expr, const, local, binary, call, builtin, Exprs, none, more, Proc}
use Rattle.odc_typed.specs.Bytes.{bytes_of}
use Rattle.odc_typed.specs.Memory.{Memory as Blocks}
use Rattle.odc_typed.specs.Frame.{variable_place}
use Rattle.odc_typed.specs.Source.{State, Res, ok, Env, block_of}
use Rattle.odc_core.specs.Words.{bytes_of as numbers_of}
use Rattle.odc_core.specs.Memory.{Memory, put}
use Rattle.odc_context.specs.Code.{Own, offset_of, depth_of, depth_of_all}
use Rattle.odc_context.proofs.Ties.{Floor, Tied}
use Rattle.odc_context.proofs.simulation.Texts.{AreSmall, values}
use Rattle.odc_context.proofs.simulation.Exprs.{Fits}
use Rattle.odc_context.proofs.simulation.Values.{few}
use Rattle.odc_context.specs.Code.{stmt_depth, stmts_depth}
use Rattle.odc_context.proofs.Ties.{tied_open, opened, open_stays}
use Rattle.odc_typed.specs.Tree.{Stmt as Source, eval, declare, assign, choose, repeat, answer, Stmts as Sources, finish as ended, follow as before}
use Rattle.odc_typed.specs.Memory.{open_block}
use Rattle.odc_context.specs.Code.{words_from, printing, own_of}
use Rattle.odc_typed.specs.declared.tree.Constant.TheVariants.{Int, Bool as Truth}
use Rattle.odc_typed.specs.Frame.{frame, expr_room, exprs_room, place_room, stmt_room, stmts_room, operation_size, rounded}
use Rattle.odc_typed.specs.Source.{begin_all}
use Rattle.odc_core.specs.Frames.{with_arguments}
use Rattle.odc_core.specs.declared.tree.Variable.{Variable}

-- ---- the frame has room for the values that wait

mutual
  pub expr_fits : (e : Expr) → 100 * depth_of e ≤ expr_room e
  expr_fits (const at (Int z)) = lit≤ tt
  expr_fits (const at (Truth b)) = lit≤ tt
  expr_fits (local at x) = lit≤ tt
  expr_fits (binary at op left right) = let a : 100 * depth_of left ≤ expr_room left = expr_fits left in let b : 100 * depth_of right ≤ expr_room right = expr_fits right in let c : 8 ≤ rounded (operation_size op) = eight op in omega arith
    where
      eight : (q : BinaryOp) → 8 ≤ rounded (operation_size q)
      eight Add = lit≤ tt
      eight Subtract = lit≤ tt
      eight Multiply = lit≤ tt
      eight Divide = lit≤ tt
      eight Remainder = lit≤ tt
      eight Less = lit≤ tt
      eight Equal = lit≤ tt
  expr_fits (call at f arguments) = let a : 100 * depth_of_all arguments ≤ exprs_room arguments = exprs_fit arguments in omega arith
  expr_fits (builtin at which arguments) = let a : 100 * depth_of_all arguments ≤ exprs_room arguments = exprs_fit arguments in omega arith

  pub exprs_fit : (es : Exprs) → 100 * depth_of_all es ≤ exprs_room es
  exprs_fit none = lit≤ tt
  exprs_fit (more e es) = let a : 100 * depth_of e ≤ expr_room e = expr_fits e in let b : 100 * depth_of_all es ≤ exprs_room es = exprs_fit es in let c : 128 ≤ expr_room e = some_room e in omega arith
    where
      some_room : (q : Expr) → 128 ≤ expr_room q
      some_room (const at value) = omega arith
      some_room (local at x) = lit≤ tt
      some_room (binary at op left right) = omega arith
      some_room (call at f arguments) = omega arith
      some_room (builtin at which arguments) = omega arith

condition_fits : (e : Expr) → 100 * depth_of e ≤ expr_room e
condition_fits e = expr_fits e

place_fits : (e : Expr) → 0 ≤ place_room e
place_fits e = omega arith

mutual
  pub stmt_fits : (s : Source) → 100 * stmt_depth s ≤ stmt_room s
  stmt_fits (eval at value) = let a : 100 * depth_of value ≤ expr_room value = expr_fits value in omega arith
  stmt_fits (declare at x value) = let a : 100 * depth_of value ≤ expr_room value = expr_fits value in omega arith
  stmt_fits (assign at target value) = let a : 100 * depth_of value ≤ expr_room value = expr_fits value in omega arith
  stmt_fits (choose at condition body) = let a : 100 * depth_of condition ≤ expr_room condition = expr_fits condition in let b : 100 * stmts_depth body ≤ stmts_room body = stmts_fit body in omega arith
  stmt_fits (repeat at condition body) = let a : 100 * depth_of condition ≤ expr_room condition = expr_fits condition in let b : 100 * stmts_depth body ≤ stmts_room body = stmts_fit body in omega arith
  stmt_fits (answer at value) = let a : 100 * depth_of value ≤ expr_room value = expr_fits value in omega arith

  pub stmts_fit : (ss : Sources) → 100 * stmts_depth ss ≤ stmts_room ss
  stmts_fit ended = lit≤ tt
  stmts_fit (before s ss) = let a : 100 * stmt_depth s ≤ stmt_room s = stmt_fits s in let b : 100 * stmts_depth ss ≤ stmts_room ss = stmts_fit ss in omega arith

-- a procedure's frame holds its variables and all own ones
pub frame_room : (p : Proc) → 128 + 16 * ((own_of p).first + (own_of p).waiting) ≤ frame p
frame_room p = let a : 100 * stmts_depth p.body ≤ stmts_room p.body = stmts_fit p.body in omega arith

pub frame_fits : (p : Proc) (base : ℕ) → 0x7800_0000 + frame p ≤ base → base ≤ 2 ^ 31 → Fits (base - frame p) (frame p) (own_of p)
frame_fits p base low high = record { is_low = record { some = omega arith; small = omega arith }; room = frame_room p; top = omega arith }

-- ---- the parameters begin with the arguments

module _ (env : Env) (o : Own) (size : ℕ) (src0 : Blocks) (serial : ℕ) (floor : Floor env size src0) (fits : Fits env.low size o) (newer : env.serial < serial) where
  -- so many more have begun, from a position on
  pub record Begun (k : ℕ) (ws : List ℕ) (t : State) (m : Memory) : Type 0 where
    pub after' : Blocks
    pub is : begin_all env k (values ws) t ≡ ok tt (record t { memory = after'; cost = t.cost + length ws })
    pub tied : Tied env o.first src0 after' serial m
    pub live : (x : ℕ) → x < k + length ws → after'.size (block_of env x) ≡ Some 8

  spent_as : (t : State) (b : Blocks) (c d : ℕ) → c ≡ d → (let r : Res (Unit {0}) = ok tt (record t { memory = b; cost = c }) in r) ≡ (let r : Res (Unit {0}) = ok tt (record t { memory = b; cost = d }) in r)
  spent_as t b c d e = ap (λ (x : ℕ). let r : Res (Unit {0}) = ok tt (record t { memory = b; cost = x }) in r) e

  pub begin_arguments : (ws : List ℕ) (k q : ℕ) (t : State) (m : Memory) → length ws ≤ q → k + q ≤ o.first + o.waiting → k + length ws ≤ o.first → AreSmall ws → Tied env o.first src0 t.memory serial m →
      ((x : ℕ) → x < k → t.memory.size (block_of env x) ≡ Some 8) → Begun k ws t (with_arguments env.low (words_from k q ++ printing) ws m)
  begin_arguments [] k q t m few inside below small tied live =
      no_more (words_from k q ++ printing)
    where
      no_more : (vs : List Variable) → Begun k [] t (with_arguments env.low vs [] m)
      no_more [] = record { after' = t.memory; is = spent_as t t.memory t.cost (t.cost + 0) (sym (add-zero t.cost)); tied = tied; live = λ x h. live x (omega arith) }
      no_more (v ∷ vs) = record { after' = t.memory; is = spent_as t t.memory t.cost (t.cost + 0) (sym (add-zero t.cost)); tied = tied; live = λ x h. live x (omega arith) }
  begin_arguments (w ∷ ws) k zero t m few inside below small tied live = absurd (omega arith)
  begin_arguments (w ∷ ws) k (suc q) t m few inside below small tied live =
      let room : variable_place env.low o.first ≤ env.low + size = omega (arith, fits.room) in
      let b = block_of env k in
      let t' : State = record t { memory = open_block t.memory b (bytes_of 8 w); cost = t.cost + 1 } in
      let m' : Memory = put m (env.low + offset_of k) (numbers_of 8 w) in
      let same : variable_place env.low k ≡ env.low + offset_of k = omega arith in
      let tied' : Tied env o.first src0 t'.memory serial m' =
      (let P : ℕ → Type 0 = λ a. Tied env o.first src0 t'.memory serial (put m a (numbers_of 8 w)) in
      subst P same (tied_open env o.first size src0 t.memory serial m k w floor room (omega arith) small.0 tied newer)) in
      let rest : Begun (k + 1) ws t' (with_arguments env.low (words_from (k + 1) q ++ printing) ws m') =
      begin_arguments ws (k + 1) q t' m' (omega arith) (omega arith) (omega arith) small.1 tied' (λ x h. by x h (nat_lt x k) refl) in
      record {
        after' = rest.after';
        is = rest.is ∙ spent_as t rest.after' (t.cost + 1 + length ws) (t.cost + suc (length ws)) (omega arith);
        tied = rest.tied;
        live = λ x h. rest.live x (omega arith);
      }
    where
      by : (x : ℕ) → x < k + 1 → (c : Bool) → nat_lt x k ≡ c → (open_block t.memory (block_of env k) (bytes_of 8 w)).size (block_of env x) ≡ Some 8
      by x h true e =
          let less : x < k = grind (arith, nat_tests) in
          let room : variable_place env.low o.first ≤ env.low + size = omega (arith, fits.room) in
          open_stays env o.first size src0 t.memory serial m k w floor room (omega arith) small.0 tied (block_of env x) (live x less)
      by x h false e =
          let is : x ≡ k = grind (arith, nat_tests) in
          let room : variable_place env.low o.first ≤ env.low + size = omega (arith, fits.room) in
          let P : ℕ → Type 0 = λ y. (open_block t.memory (block_of env k) (bytes_of 8 w)).size (block_of env y) ≡ Some 8 in
          subst P (sym is) (opened env o.first size src0 t.memory serial m k w floor room (omega arith) small.0 tied)
