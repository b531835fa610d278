-- What the frames that trees give have room for: the variables of a procedure, and those of the compiler's own behind them.
use Rattle.std.proofs.Common.{◌≡◌, ℕ, zero, suc, ◌+◌, ◌*◌, ◌<◌, ◌≤◌, inl, Bool, true, false, List, [], ◌∷◌, map, arith, subst, lit≤}
use Rattle.std.specs.Prelude.{Some, None, ◌==◌, ◌&&◌, slice_get}
use Rattle.std.proofs.lemmas.Bool.Decides.{nat_tests}
use Rattle.odc_program.specs.declared.ops.Builtin.{Builtin}
use Rattle.odc_program.specs.declared.ops.Builtin.TheVariants as b
use Rattle.odc_program.specs.Trees.Tree
use Rattle.odc_program.specs.Trees.Tree.{Expr, expr, Kind, Exprs, none, more, Maybe, absent, present, Rights, nothing, each, parted, Stmt, stmt, Form, MaybeStmt, no_stmt, some_stmt, Stmts, finish, follow}
use Rattle.odc_program.specs.Trees.Program.{Local, Head, Tables, Body}
use Rattle.odc_program.specs.States.State.{Env}
use Rattle.odc_program.specs.Typing.Frames.{rounded, node_bytes, is_place_kind, expr_weight, kind_weight, exprs_weight, arguments_weight, maybe_weight, rights_weight, stmt_weight, form_weight, maybe_stmt_weight, stmts_weight, variable_bytes, frame_of, placed, framed_procedure}
use Rattle.odc_program.specs.Runs.Source.{env_of}
use Rattle.odc_carried.specs.Code.{Way, nested, waiting, checking, both, either, highest, locals_of, variable_of, depth_by, way, depth, depth_kind, depths, eval_depth, rights_depth, condition_depth, stmt_depth, form_depth, maybe_depth, stmts_depth}
use Rattle.odc_carried.specs.Tied.{size_of, IsLaid, HasRoom}
use Rattle.odc_carried.proofs.Quiet.{and_true}

-- ---- locals one behind another
module _ (tables : Tables) (p : Head) where
  abbrev pub env : Env
  env = env_of tables p 0 0 0 None

  -- how many bytes locals take, with eight behind each
  abbrev pub taken : List Local → ℕ
  taken [] = 0
  taken (l ∷ ls) = rounded (size_of tables l) + 8 + taken ls

  pub placed_here : (at : ℕ) (l : Local) (ls : List Local) → placed env at (l ∷ ls) ≡ true → (l.place ≡ at) × (placed env (at + rounded (size_of tables l) + 8) ls ≡ true)
  placed_here at l ls e =
      let both = and_true (l.place == at) (placed env (at + rounded (size_of tables l) + 8) ls) e in
      let here : (l.place == at) ≡ true = both.0 in
      (grind (arith, nat_tests), both.1)

  pub record Inside (at bound : ℕ) (l : Local) : Type 0 where
    pub low : at ≤ l.place
    pub high : l.place + size_of tables l + 8 ≤ bound

  pub inside : (at : ℕ) (ls : List Local) → placed env at ls ≡ true → (x : ℕ) (l : Local) → slice_get ls x ≡ Some l → Inside at (at + taken ls) l
  inside at [] e x l found = absurd (cc)
  inside at (k ∷ ls) e zero l found =
      let is : k ≡ l = cc in
      let here = placed_here at k ls e in
      let P : Local → Type 0 = λ y. Inside at (at + taken (k ∷ ls)) y in
      subst P is (record { low = omega (arith, here.0); high = omega (arith, here.0) })
  inside at (k ∷ ls) e (suc x) l found =
      let here = placed_here at k ls e in
      let rest : Inside (at + rounded (size_of tables k) + 8) (at + rounded (size_of tables k) + 8 + taken ls) l = inside (at + rounded (size_of tables k) + 8) ls here.1 x l found in
      record { low = omega (arith, rest.low); high = omega (arith, rest.high) }

  pub behind : (at : ℕ) (ls : List Local) → placed env at ls ≡ true → (x y : ℕ) (l k : Local) → x < y → slice_get ls x ≡ Some l → slice_get ls y ≡ Some k → l.place + size_of tables l + 8 ≤ k.place
  behind at [] e x y l k less found other = absurd (cc)
  behind at (z ∷ ls) e x zero l k less found other = absurd (omega (arith, less))
  behind at (z ∷ ls) e zero (suc y) l k less found other =
      let is : z ≡ l = cc in
      let here = placed_here at z ls e in
      let rest = inside (at + rounded (size_of tables z) + 8) ls here.1 y k other in
      let P : Local → Type 0 = λ w. w.place + size_of tables w + 8 ≤ k.place in
      subst P is (omega (arith, rest.low, here.0))
  behind at (z ∷ ls) e (suc x) (suc y) l k less found other =
      behind (at + rounded (size_of tables z) + 8) ls (placed_here at z ls e).1 x y l k (omega (arith, less)) found other

  pub highest_at : (at : ℕ) (ls : List Local) → 128 ≤ at → placed env at ls ≡ true → highest (map (variable_of tables) ls) ≤ at + taken ls
  highest_at at [] low e = omega (arith, low)
  highest_at at (l ∷ ls) low e =
      let here = placed_here at l ls e in
      let rest : highest (map (variable_of tables) ls) ≤ at + rounded (size_of tables l) + 8 + taken ls = highest_at (at + rounded (size_of tables l) + 8) ls (omega (arith, low)) here.1 in
      omega (arith, here.0, rest)

  pub taken_small : (ls : List Local) → taken ls ≤ variable_bytes env ls
  taken_small [] = lit≤ tt
  taken_small (l ∷ ls) = let rest : taken ls ≤ variable_bytes env ls = taken_small ls in omega (arith, rest)

  -- ---- a node has 128 bytes, and a value that waits needs 16
  abbrev pub w : Bool → ℕ → ℕ
  w = node_bytes env

  pub node_large : (a : Bool) (t : ℕ) → 128 ≤ w a t
  node_large true t = lit≤ tt
  node_large false t = omega arith

  deep_way : (y : Way) (a b x z : ℕ) → 16 * a + 16 ≤ x → 16 * b + 16 ≤ z → 16 * depth_by y a b ≤ 112 + (x + z)
  deep_way nested a b x z f g = omega (arith, f, g)
  deep_way waiting a b x z f g = omega (arith, f, g)
  deep_way checking a b x z f g = omega (arith, f, g)
  deep_way both a b x z f g = omega (arith, f, g)
  deep_way either a b x z f g = omega (arith, f, g)

  mutual
    expr_deep : (a : Bool) (e : Expr) → 16 * depth e + 16 ≤ expr_weight w 128 a e
    expr_deep a (expr t at k) =
        let one : 128 ≤ w (a && is_place_kind k) t = node_large (a && is_place_kind k) t in
        let rest : 16 * depth_kind k ≤ 112 + kind_weight w 128 k = kind_deep k in
        omega (arith, one, rest)

    kind_deep : (k : Kind) → 16 * depth_kind k ≤ 112 + kind_weight w 128 k
    kind_deep (Tree.unary o e) = let r : 16 * depth e + 16 ≤ expr_weight w 128 false e = expr_deep false e in omega (arith, r)
    kind_deep (Tree.binary o e f) =
        let r : 16 * depth e + 16 ≤ expr_weight w 128 false e = expr_deep false e in
        let q : 16 * depth f + 16 ≤ expr_weight w 128 false f = expr_deep false f in
        deep_way (way o f) (depth e) (depth f) (expr_weight w 128 false e) (expr_weight w 128 false f) r q
    kind_deep (Tree.call n order es) = let r : 16 * depths es ≤ exprs_weight w 128 es = exprs_deep es in omega (arith, r)
    kind_deep (Tree.builtin which order es) = omega arith
    kind_deep (Tree.const c) = omega arith
    kind_deep (Tree.local x) = omega arith
    kind_deep (Tree.global_ g) = omega arith
    kind_deep (Tree.proc_value n) = omega arith
    kind_deep Tree.context = omega arith
    kind_deep (Tree.field e n) = omega arith
    kind_deep (Tree.deref e) = omega arith
    kind_deep (Tree.index e i) = omega arith
    kind_deep (Tree.cut e a c) = omega arith
    kind_deep (Tree.column e n) = omega arith
    kind_deep (Tree.call_value m e es) = omega arith
    kind_deep (Tree.or_return e v) = omega arith
    kind_deep (Tree.build h ps) = omega arith
    kind_deep (Tree.convert e) = omega arith
    kind_deep (Tree.inject n e) = omega arith
    kind_deep (Tree.assert_ n e) = omega arith
    kind_deep (Tree.test_ n e) = omega arith
    kind_deep (Tree.address_ e) = omega arith
    kind_deep Tree.location = omega arith
    kind_deep (Tree.help h es) = omega arith

    exprs_deep : (es : Exprs) → 16 * depths es ≤ exprs_weight w 128 es
    exprs_deep none = lit≤ tt
    exprs_deep (more e es) =
        let r : 16 * depth e + 16 ≤ expr_weight w 128 false e = expr_deep false e in
        let q : 16 * depths es ≤ exprs_weight w 128 es = exprs_deep es in
        omega (arith, r, q)

  arguments_deep : (which : Builtin) (es : Exprs) → 16 * depths es ≤ arguments_weight w 128 which es
  arguments_deep which none = omega arith
  arguments_deep b.Len (more e es) =
      let r : 16 * depth e + 16 ≤ expr_weight w 128 true e = expr_deep true e in
      let q : 16 * depths es ≤ exprs_weight w 128 es = exprs_deep es in
      omega (arith, r, q)
  arguments_deep b.Print (more e es) = exprs_deep (more e es)
  arguments_deep b.Println (more e es) = exprs_deep (more e es)
  arguments_deep b.Read (more e es) = exprs_deep (more e es)
  arguments_deep b.Write (more e es) = exprs_deep (more e es)
  arguments_deep b.Exit (more e es) = exprs_deep (more e es)
  arguments_deep b.Cap (more e es) = exprs_deep (more e es)
  arguments_deep b.RawData (more e es) = exprs_deep (more e es)
  arguments_deep b.Min (more e es) = exprs_deep (more e es)
  arguments_deep b.Max (more e es) = exprs_deep (more e es)
  arguments_deep b.Abs (more e es) = exprs_deep (more e es)
  arguments_deep b.Copy (more e es) = exprs_deep (more e es)
  arguments_deep b.Assert (more e es) = exprs_deep (more e es)
  arguments_deep b.Panic (more e es) = exprs_deep (more e es)
  arguments_deep b.Clear (more e es) = exprs_deep (more e es)
  arguments_deep b.Pop (more e es) = exprs_deep (more e es)
  arguments_deep b.OrderedRemove (more e es) = exprs_deep (more e es)
  arguments_deep b.UnorderedRemove (more e es) = exprs_deep (more e es)
  arguments_deep b.HeapRegion (more e es) = exprs_deep (more e es)
  arguments_deep b.TempRegion (more e es) = exprs_deep (more e es)
  arguments_deep b.ByteSlice (more e es) = exprs_deep (more e es)
  arguments_deep b.New (more e es) = exprs_deep (more e es)
  arguments_deep b.Make (more e es) = exprs_deep (more e es)
  arguments_deep b.Append (more e es) = exprs_deep (more e es)
  arguments_deep b.Reserve (more e es) = exprs_deep (more e es)
  arguments_deep b.Resize (more e es) = exprs_deep (more e es)
  arguments_deep b.Delete (more e es) = exprs_deep (more e es)
  arguments_deep b.Free (more e es) = exprs_deep (more e es)
  arguments_deep b.FreeAll (more e es) = exprs_deep (more e es)

  eval_deep : (e : Expr) → 16 * eval_depth e ≤ expr_weight w 128 false e
  eval_deep (expr t at (Tree.builtin which order es)) = let r : 16 * depths es ≤ arguments_weight w 128 which es = arguments_deep which es in omega (arith, r)
  eval_deep (expr t at (Tree.const c)) = let r : 16 * depth (expr t at (Tree.const c)) + 16 ≤ expr_weight w 128 false (expr t at (Tree.const c)) = expr_deep false (expr t at (Tree.const c)) in omega (arith, r)
  eval_deep (expr t at (Tree.local x)) = let r : 16 * depth (expr t at (Tree.local x)) + 16 ≤ expr_weight w 128 false (expr t at (Tree.local x)) = expr_deep false (expr t at (Tree.local x)) in omega (arith, r)
  eval_deep (expr t at (Tree.global_ g)) = let r : 16 * depth (expr t at (Tree.global_ g)) + 16 ≤ expr_weight w 128 false (expr t at (Tree.global_ g)) = expr_deep false (expr t at (Tree.global_ g)) in omega (arith, r)
  eval_deep (expr t at (Tree.proc_value n)) = let r : 16 * depth (expr t at (Tree.proc_value n)) + 16 ≤ expr_weight w 128 false (expr t at (Tree.proc_value n)) = expr_deep false (expr t at (Tree.proc_value n)) in omega (arith, r)
  eval_deep (expr t at Tree.context) = let r : 16 * depth (expr t at Tree.context) + 16 ≤ expr_weight w 128 false (expr t at Tree.context) = expr_deep false (expr t at Tree.context) in omega (arith, r)
  eval_deep (expr t at (Tree.field e n)) = let r : 16 * depth (expr t at (Tree.field e n)) + 16 ≤ expr_weight w 128 false (expr t at (Tree.field e n)) = expr_deep false (expr t at (Tree.field e n)) in omega (arith, r)
  eval_deep (expr t at (Tree.deref e)) = let r : 16 * depth (expr t at (Tree.deref e)) + 16 ≤ expr_weight w 128 false (expr t at (Tree.deref e)) = expr_deep false (expr t at (Tree.deref e)) in omega (arith, r)
  eval_deep (expr t at (Tree.index e i)) = let r : 16 * depth (expr t at (Tree.index e i)) + 16 ≤ expr_weight w 128 false (expr t at (Tree.index e i)) = expr_deep false (expr t at (Tree.index e i)) in omega (arith, r)
  eval_deep (expr t at (Tree.cut e a c)) = let r : 16 * depth (expr t at (Tree.cut e a c)) + 16 ≤ expr_weight w 128 false (expr t at (Tree.cut e a c)) = expr_deep false (expr t at (Tree.cut e a c)) in omega (arith, r)
  eval_deep (expr t at (Tree.column e n)) = let r : 16 * depth (expr t at (Tree.column e n)) + 16 ≤ expr_weight w 128 false (expr t at (Tree.column e n)) = expr_deep false (expr t at (Tree.column e n)) in omega (arith, r)
  eval_deep (expr t at (Tree.call_value m e es)) = let r : 16 * depth (expr t at (Tree.call_value m e es)) + 16 ≤ expr_weight w 128 false (expr t at (Tree.call_value m e es)) = expr_deep false (expr t at (Tree.call_value m e es)) in omega (arith, r)
  eval_deep (expr t at (Tree.or_return e v)) = let r : 16 * depth (expr t at (Tree.or_return e v)) + 16 ≤ expr_weight w 128 false (expr t at (Tree.or_return e v)) = expr_deep false (expr t at (Tree.or_return e v)) in omega (arith, r)
  eval_deep (expr t at (Tree.build h ps)) = let r : 16 * depth (expr t at (Tree.build h ps)) + 16 ≤ expr_weight w 128 false (expr t at (Tree.build h ps)) = expr_deep false (expr t at (Tree.build h ps)) in omega (arith, r)
  eval_deep (expr t at (Tree.convert e)) = let r : 16 * depth (expr t at (Tree.convert e)) + 16 ≤ expr_weight w 128 false (expr t at (Tree.convert e)) = expr_deep false (expr t at (Tree.convert e)) in omega (arith, r)
  eval_deep (expr t at (Tree.inject n e)) = let r : 16 * depth (expr t at (Tree.inject n e)) + 16 ≤ expr_weight w 128 false (expr t at (Tree.inject n e)) = expr_deep false (expr t at (Tree.inject n e)) in omega (arith, r)
  eval_deep (expr t at (Tree.assert_ n e)) = let r : 16 * depth (expr t at (Tree.assert_ n e)) + 16 ≤ expr_weight w 128 false (expr t at (Tree.assert_ n e)) = expr_deep false (expr t at (Tree.assert_ n e)) in omega (arith, r)
  eval_deep (expr t at (Tree.test_ n e)) = let r : 16 * depth (expr t at (Tree.test_ n e)) + 16 ≤ expr_weight w 128 false (expr t at (Tree.test_ n e)) = expr_deep false (expr t at (Tree.test_ n e)) in omega (arith, r)
  eval_deep (expr t at (Tree.address_ e)) = let r : 16 * depth (expr t at (Tree.address_ e)) + 16 ≤ expr_weight w 128 false (expr t at (Tree.address_ e)) = expr_deep false (expr t at (Tree.address_ e)) in omega (arith, r)
  eval_deep (expr t at Tree.location) = let r : 16 * depth (expr t at Tree.location) + 16 ≤ expr_weight w 128 false (expr t at Tree.location) = expr_deep false (expr t at Tree.location) in omega (arith, r)
  eval_deep (expr t at (Tree.help h es)) = let r : 16 * depth (expr t at (Tree.help h es)) + 16 ≤ expr_weight w 128 false (expr t at (Tree.help h es)) = expr_deep false (expr t at (Tree.help h es)) in omega (arith, r)
  eval_deep (expr t at (Tree.unary o e)) = let r : 16 * depth (expr t at (Tree.unary o e)) + 16 ≤ expr_weight w 128 false (expr t at (Tree.unary o e)) = expr_deep false (expr t at (Tree.unary o e)) in omega (arith, r)
  eval_deep (expr t at (Tree.binary o e f)) = let r : 16 * depth (expr t at (Tree.binary o e f)) + 16 ≤ expr_weight w 128 false (expr t at (Tree.binary o e f)) = expr_deep false (expr t at (Tree.binary o e f)) in omega (arith, r)
  eval_deep (expr t at (Tree.call n order es)) = let r : 16 * depth (expr t at (Tree.call n order es)) + 16 ≤ expr_weight w 128 false (expr t at (Tree.call n order es)) = expr_deep false (expr t at (Tree.call n order es)) in omega (arith, r)

  rights_deep : (vs : Rights) → 16 * rights_depth vs ≤ rights_weight w 128 vs
  rights_deep nothing = lit≤ tt
  rights_deep (each none) = lit≤ tt
  rights_deep (each (more e none)) = let r : 16 * depth e + 16 ≤ expr_weight w 128 false e = expr_deep false e in omega (arith, r)
  rights_deep (each (more e (more f es))) = omega arith
  rights_deep (parted ts e) = omega arith

  condition_deep : (e : Maybe) → 16 * condition_depth e ≤ maybe_weight w 128 e
  condition_deep absent = lit≤ tt
  condition_deep (present e) = let r : 16 * depth e + 16 ≤ expr_weight w 128 false e = expr_deep false e in omega (arith, r)

  mutual
    stmt_deep : (s : Stmt) → 16 * stmt_depth s ≤ stmt_weight w 128 s
    stmt_deep (stmt at k) = let r : 16 * form_depth k ≤ form_weight w 128 k = form_deep k in omega (arith, r)

    form_deep : (k : Form) → 16 * form_depth k ≤ form_weight w 128 k
    form_deep (Tree.declare xs vs) = rights_deep vs
    form_deep (Tree.assign lefts vs) = let r : 16 * rights_depth vs ≤ rights_weight w 128 vs = rights_deep vs in omega (arith, r)
    form_deep (Tree.eval e) = eval_deep e
    form_deep (Tree.block l body) = stmts_deep body
    form_deep (Tree.if_ init e body other) =
        let r : 16 * depth e + 16 ≤ expr_weight w 128 false e = expr_deep false e in
        let q : 16 * maybe_depth init ≤ maybe_stmt_weight w 128 init = maybe_deep init in
        let t : 16 * stmts_depth body ≤ stmts_weight w 128 body = stmts_deep body in
        let u : 16 * stmts_depth other ≤ stmts_weight w 128 other = stmts_deep other in
        omega (arith, r, q, t, u)
    form_deep (Tree.loop l init e post body) =
        let r : 16 * condition_depth e ≤ maybe_weight w 128 e = condition_deep e in
        let q : 16 * maybe_depth init ≤ maybe_stmt_weight w 128 init = maybe_deep init in
        let t : 16 * stmts_depth body ≤ stmts_weight w 128 body = stmts_deep body in
        let u : 16 * maybe_depth post ≤ maybe_stmt_weight w 128 post = maybe_deep post in
        omega (arith, r, q, t, u)
    form_deep (Tree.return vs) = rights_deep vs
    form_deep (Tree.change o e f) = omega arith
    form_deep (Tree.range l over x k body) = omega arith
    form_deep (Tree.switch l init e cs) = omega arith
    form_deep (Tree.type_switch l e cs) = omega arith
    form_deep (Tree.defer i) = omega arith
    form_deep (Tree.break_ l) = omega arith
    form_deep (Tree.continue_ l) = omega arith
    form_deep Tree.fallthrough = omega arith
    form_deep (Tree.counted n l e body) = omega arith

    maybe_deep : (s : MaybeStmt) → 16 * maybe_depth s ≤ maybe_stmt_weight w 128 s
    maybe_deep no_stmt = lit≤ tt
    maybe_deep (some_stmt s) = stmt_deep s

    stmts_deep : (ss : Stmts) → 16 * stmts_depth ss ≤ stmts_weight w 128 ss
    stmts_deep finish = lit≤ tt
    stmts_deep (follow s ss) =
        let r : 16 * stmt_depth s ≤ stmt_weight w 128 s = stmt_deep s in
        let q : 16 * stmts_depth ss ≤ stmts_weight w 128 ss = stmts_deep ss in
        omega (arith, r, q)

  -- ---- a procedure whose frame and places are those that its tree gives
  module _ (q : Body) (framed : framed_procedure env p q.stmts ≡ true) where
    pub frame_is : p.frame ≡ frame_of env p q.stmts
    frame_is = let e : (p.frame == frame_of env p q.stmts) ≡ true = (and_true (p.frame == frame_of env p q.stmts) (placed env 128 p.locals) framed).0 in grind (arith, nat_tests)

    pub are_placed : placed env 128 p.locals ≡ true
    are_placed = (and_true (p.frame == frame_of env p q.stmts) (placed env 128 p.locals) framed).1

    pub frame_large : 256 + (variable_bytes env p.locals + stmts_weight w 128 q.stmts) ≤ p.frame
    frame_large = let e : p.frame ≡ frame_of env p q.stmts = frame_is in omega (arith, e)

    pub is_laid : IsLaid tables p
    is_laid = record {
      low = λ x l found. let i = inside 128 p.locals are_placed x l found in omega (arith, i.low);
      high = λ x l found. let i = inside 128 p.locals are_placed x l found in let t : taken p.locals ≤ variable_bytes env p.locals = taken_small p.locals in omega (arith, i.high, t, frame_large);
      apart = λ x y l k less found other. inl (behind 128 p.locals are_placed x y l k less found other);
    }

    pub has_room : HasRoom tables p q
    has_room =
        let h : highest (locals_of tables p) ≤ 128 + taken p.locals = highest_at 128 p.locals (lit≤ tt) are_placed in
        let t : taken p.locals ≤ variable_bytes env p.locals = taken_small p.locals in
        let d : 16 * stmts_depth q.stmts ≤ stmts_weight w 128 q.stmts = stmts_deep q.stmts in
        omega (arith, h, t, d, frame_large)
