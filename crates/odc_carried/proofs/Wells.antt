-- The core code of a carried program names only what is there.
use Rattle.std.proofs.Common.{◌≡◌, ℕ, zero, suc, ◌+◌, ◌^◌, ◌<◌, ◌≤◌, ◌⊎◌, inl, inr, Bool, true, false, List, [], ◌∷◌, length, arith, lit<, ap, ◌∙◌, sym, subst, refl}
use Rattle.std.specs.Prelude.{Option, Some, None, ◌&&◌, ◌||◌, get_or, slice_get}
use Rattle.odc_text.specs.declared.place.Place.{Place}
use Rattle.odc_program.specs.declared.ops.Constant.{Constant}
use Rattle.odc_program.specs.declared.ops.Constant.TheVariants as con
use Rattle.odc_program.specs.declared.ops.UnaryOp.{UnaryOp}
use Rattle.odc_program.specs.declared.ops.UnaryOp.TheVariants as un
use Rattle.odc_program.specs.declared.ops.BinaryOp.{BinaryOp}
use Rattle.odc_program.specs.declared.ops.BinaryOp.TheVariants as op
use Rattle.odc_program.specs.Trees.Tree
use Rattle.odc_program.specs.Trees.Tree.{Expr, expr, Kind, Exprs, none, more, Maybe, absent, present, Lefts, no_lefts, left_, dropped, Rights, nothing, each, parted, Stmt, stmt, Form, MaybeStmt, no_stmt, some_stmt, Stmts, finish, follow}
use Rattle.odc_program.specs.Trees.Program.{Local, Head, Tables}
use Rattle.odc_core.specs.Tree.{Expr as CoreExpr, Stmts as CoreStmts, const as word, finish as done, follow as before_}
use Rattle.odc_core.specs.Well.{Names, IsExpr, AreExprs, IsStmt, AreStmts, count as core_count}
use Rattle.odc_carried.specs.Carried.{is_int, is_bool, names_int, is_int_local, and_then, is_sign, is_not, is_plain, is_quotient, is_comparison, is_connective, truth_binary, in_place, can_call, needed, takes, count, refused_int, refused_kind, refused_ints, refused_truth, refused_test, is_any_loud, is_loud, is_loud_kind, checks}
use Rattle.odc_carried.specs.Code.{Around, Way, nested, waiting, checking, both, either, way, way_by, way_of, join, one, wait, waits, wait_at, buffer_at, pointer_at, number_at, front, digit_code, write_code, text_code, print_code, values_code, line_code, constant_word, unary_code, binary_code, before_by, value_by, argument_before, argument_values, needed_by, value, value_kind, values, before, before_kind, befores, waits_all, depth, depth_kind, depth_by, depths}
use Rattle.odc_carried.proofs.Evals.{passed, passed_both}
use Rattle.odc_carried.proofs.Quiet.{and_true, or_false}
use Rattle.odc_carried.proofs.Values.{residue_small}

constant_small : (c : Constant) → constant_word c < 2 ^ 64
constant_small (con.Int z) = residue_small z
constant_small (con.Bool true) = lit< tt
constant_small (con.Bool false) = lit< tt
constant_small (con.Text n l) = lit< tt
constant_small con.Nil = lit< tt

found_below : {A : Type 0} (xs : List A) (x : ℕ) (v : A) → slice_get xs x ≡ Some v → x < length xs
found_below [] x v e = absurd (cc)
found_below (u ∷ xs) zero v e = omega arith
found_below (u ∷ xs) (suc x) v e = let rest : x < length xs = found_below xs x v e in omega (arith, rest)

names_below : (tables : Tables) (p : Head) (x : ℕ) → names_int tables p x ≡ true → x < length p.locals
names_below tables p x e = by (slice_get p.locals x) refl e
  where
    by : (o : Option Local) → slice_get p.locals x ≡ o → is_int_local tables o ≡ true → x < length p.locals
    by None f g = absurd (cc)
    by (Some l) f g = found_below p.locals x l f

-- ---- what names of a core procedure there are, and of the one that it is made of
pub record Around_is (tables : Tables) (p : Head) (o : Around) (N : Names) : Type 0 where
  pub variables : N.variables ≡ length o.first + (3 + o.waiting)
  pub locals : length o.first ≡ length p.locals
  pub needs : o.needs ≡ p.needs
  pub called : (f n results : ℕ) → takes n results (slice_get tables.procedures f) ≡ true → slice_get N.parameters f ≡ Some n
  pub result : 0 < o.results → o.result < length p.locals
  pub results : o.results ≡ p.results

module _ (tables : Tables) (p : Head) (o : Around) (N : Names) (is : Around_is tables p o N) where
  -- ---- expressions whose names are there
  abbrev mutual
    pub Fine : Expr → Type 0
    Fine (expr t at k) = FineKind k

    pub FineKind : Kind → Type 0
    FineKind (Tree.const c) = Unit {0}
    FineKind (Tree.local x) = x < length o.first
    FineKind (Tree.unary u e) = Fine e
    FineKind (Tree.binary b e f) = Fine e × Fine f
    FineKind (Tree.call need order es) = (slice_get N.parameters (needed_by o need) ≡ Some (count es)) × Fines es
    FineKind _ = ⊥

    pub Fines : Exprs → Type 0
    Fines none = Unit {0}
    Fines (more e es) = Fine e × Fines es

  pub local_fine : (x : ℕ) → names_int tables p x ≡ true → x < length o.first
  local_fine x e = let below = names_below tables p x e in omega (arith, below, is.locals)

  pub call_fine : (need n results : ℕ) → can_call tables p need n results ≡ true → slice_get N.parameters (needed_by o need) ≡ Some n
  call_fine need n results e =
      let P : List ℕ → Type 0 = λ ns. slice_get N.parameters (get_or ns need 0) ≡ Some n in
      subst P (sym is.needs) (is.called (needed p need) n results e)

  mutual
    pub int_fine : (e : Expr) → refused_int tables p e ≡ None → Fine e
    int_fine (expr t at k) r = kind_fine at k (passed (is_int tables t) at (refused_kind tables p at k) r).1

    kind_fine : (at : Place) (k : Kind) → refused_kind tables p at k ≡ None → FineKind k
    kind_fine at (Tree.const c) r = tt
    kind_fine at (Tree.local x) r = local_fine x (passed (names_int tables p x) at None r).0
    kind_fine at (Tree.unary u e) r = int_fine e (passed (is_sign u) at (refused_int tables p e) r).1
    kind_fine at (Tree.binary b e f) r =
        let q = passed_both (refused_int tables p e) (refused_int tables p f) (passed (is_plain b || is_quotient b) at (and_then (refused_int tables p e) (refused_int tables p f)) r).1 in
        (int_fine e q.0, int_fine f q.1)
    kind_fine at (Tree.call need order es) r =
        let q = passed (in_place order && can_call tables p need (count es) 1) at (refused_ints tables p es) r in
        let can = and_true (in_place order) (can_call tables p need (count es) 1) q.0 in
        (call_fine need (count es) 1 can.1, ints_fine es q.1)
    kind_fine at (Tree.global_ g) r = absurd (cc)
    kind_fine at (Tree.proc_value n) r = absurd (cc)
    kind_fine at Tree.context r = absurd (cc)
    kind_fine at (Tree.field e n) r = absurd (cc)
    kind_fine at (Tree.deref e) r = absurd (cc)
    kind_fine at (Tree.index e i) r = absurd (cc)
    kind_fine at (Tree.cut e a c) r = absurd (cc)
    kind_fine at (Tree.column e n) r = absurd (cc)
    kind_fine at (Tree.call_value m e es) r = absurd (cc)
    kind_fine at (Tree.builtin which order es) r = absurd (cc)
    kind_fine at (Tree.or_return e v) r = absurd (cc)
    kind_fine at (Tree.build m ps) r = absurd (cc)
    kind_fine at (Tree.convert e) r = absurd (cc)
    kind_fine at (Tree.inject n e) r = absurd (cc)
    kind_fine at (Tree.assert_ n e) r = absurd (cc)
    kind_fine at (Tree.test_ n e) r = absurd (cc)
    kind_fine at (Tree.address_ e) r = absurd (cc)
    kind_fine at Tree.location r = absurd (cc)
    kind_fine at (Tree.help n es) r = absurd (cc)

    pub ints_fine : (es : Exprs) → refused_ints tables p es ≡ None → Fines es
    ints_fine none r = tt
    ints_fine (more e es) r = let q = passed_both (refused_int tables p e) (refused_ints tables p es) r in (int_fine e q.0, ints_fine es q.1)

  both_by : (a b : Bool) (at : Place) (x y : Option Place) → truth_binary a b at x y ≡ None → (x ≡ None) ⊎ (y ≡ None)
  both_by true b at x y e = inl e
  both_by false true at x y e = inr e
  both_by false false at x y e = absurd (cc)

  mutual
    pub truth_fine : (e : Expr) → refused_truth tables p e ≡ None → Fine e
    truth_fine (expr t at k) r = test_fine at k (passed (is_bool tables t) at (refused_test tables p at k) r).1

    test_fine : (at : Place) (k : Kind) → refused_test tables p at k ≡ None → FineKind k
    test_fine at (Tree.const c) r = tt
    test_fine at (Tree.local x) r = absurd (cc)
    test_fine at (Tree.unary u e) r = truth_fine e (passed (is_not u) at (refused_truth tables p e) r).1
    test_fine at (Tree.binary b e f) r =
        elim (both_by (is_comparison b) (is_connective b) at (and_then (refused_int tables p e) (refused_int tables p f)) (and_then (refused_truth tables p e) (refused_truth tables p f)) r) [
          | inl h ↦ (let q = passed_both (refused_int tables p e) (refused_int tables p f) h in (int_fine e q.0, int_fine f q.1))
          | inr h ↦ (let q = passed_both (refused_truth tables p e) (refused_truth tables p f) h in (truth_fine e q.0, truth_fine f q.1))
        ]
    test_fine at (Tree.call need order es) r = absurd (cc)
    test_fine at (Tree.global_ g) r = absurd (cc)
    test_fine at (Tree.proc_value n) r = absurd (cc)
    test_fine at Tree.context r = absurd (cc)
    test_fine at (Tree.field e n) r = absurd (cc)
    test_fine at (Tree.deref e) r = absurd (cc)
    test_fine at (Tree.index e i) r = absurd (cc)
    test_fine at (Tree.cut e a c) r = absurd (cc)
    test_fine at (Tree.column e n) r = absurd (cc)
    test_fine at (Tree.call_value m e es) r = absurd (cc)
    test_fine at (Tree.builtin which order es) r = absurd (cc)
    test_fine at (Tree.or_return e v) r = absurd (cc)
    test_fine at (Tree.build m ps) r = absurd (cc)
    test_fine at (Tree.convert e) r = absurd (cc)
    test_fine at (Tree.inject n e) r = absurd (cc)
    test_fine at (Tree.assert_ n e) r = absurd (cc)
    test_fine at (Tree.test_ n e) r = absurd (cc)
    test_fine at (Tree.address_ e) r = absurd (cc)
    test_fine at Tree.location r = absurd (cc)
    test_fine at (Tree.help n es) r = absurd (cc)

  -- ---- pieces
  low_there : (k : ℕ) → k < 3 → length o.first + k < N.variables
  low_there k less = omega (arith, less, is.variables)

  wait_there : (d : ℕ) → d < o.waiting → wait_at o d < N.variables
  wait_there d less = omega (arith, less, is.variables)

  pub local_there : (x : ℕ) → x < length o.first → x < N.variables
  local_there x less = omega (arith, less, is.variables)

  pub join_are : (loops : ℕ) (a b : CoreStmts) → AreStmts N loops a → AreStmts N loops b → AreStmts N loops (join a b)
  join_are loops done b h k = k
  join_are loops (before_ s a) b h k = (h.0, join_are loops a b h.1 k)

  unary_is : (u : UnaryOp) (e : CoreExpr) → IsExpr N e → IsExpr N (unary_code u e)
  unary_is un.Plus e h = h
  unary_is un.Negate e h = (lit< tt, h)
  unary_is un.Not e h = (h, lit< tt)
  unary_is un.Complement e h = h

  binary_is : (k : BinaryOp) (v w : CoreExpr) → IsExpr N v → IsExpr N w → IsExpr N (binary_code k v w)
  binary_is op.Add v w h g = (h, g)
  binary_is op.Subtract v w h g = (h, g)
  binary_is op.Multiply v w h g = (h, g)
  binary_is op.Divide v w h g = (h, g)
  binary_is op.Remainder v w h g = (h, g)
  binary_is op.Modulo v w h g = h
  binary_is op.And v w h g = h
  binary_is op.AndNot v w h g = h
  binary_is op.Or v w h g = h
  binary_is op.Xor v w h g = h
  binary_is op.ShiftLeft v w h g = h
  binary_is op.ShiftRight v w h g = h
  binary_is op.AndAlso v w h g = h
  binary_is op.OrElse v w h g = h
  binary_is op.Equal v w h g = (h, g)
  binary_is op.Unequal v w h g = (h, g)
  binary_is op.Less v w h g = (h, g)
  binary_is op.Greater v w h g = (g, h)
  binary_is op.AtMost v w h g = ((g, h), lit< tt)
  binary_is op.AtLeast v w h g = ((h, g), lit< tt)

  front_are : (loops : ℕ) (byte : CoreExpr) → IsExpr N byte → AreStmts N loops (front o byte)
  front_are loops byte h = let at : pointer_at o < N.variables = low_there 1 (lit< tt) in ((at, (at, lit< tt)), ((at, h), tt))

  digit_are : (loops : ℕ) → AreStmts N (suc loops) (digit_code o)
  digit_are loops =
      let at : pointer_at o < N.variables = low_there 1 (lit< tt) in
      let n : number_at o < N.variables = low_there 2 (lit< tt) in
      let small : 0 < suc loops = omega arith in
      ((at, (at, lit< tt)), ((at, ((n, lit< tt), lit< tt)), ((n, (n, lit< tt)), ((n, (tt, (small, tt))), tt))))

  write_is : (loops : ℕ) → IsStmt N loops (write_code o)
  write_is loops =
      let at : pointer_at o < N.variables = low_there 1 (lit< tt) in
      let b : buffer_at o < N.variables = low_there 0 (lit< tt) in
      (at, ((b, lit< tt), at))

  text_are : (loops d : ℕ) → d < o.waiting → AreStmts N loops (text_code o d)
  text_are loops d less =
      let at : pointer_at o < N.variables = low_there 1 (lit< tt) in
      let n : number_at o < N.variables = low_there 2 (lit< tt) in
      let w : wait_at o d < N.variables = wait_there d less in
      ((n, w), (((w, lit< tt), (((n, (lit< tt, w)), tt), tt)), (digit_are loops, (((w, lit< tt), (front_are loops (word 45) (lit< tt), tt)), tt))))

  print_are : (loops d behind : ℕ) → behind < 256 → d < o.waiting → AreStmts N loops (print_code o d behind)
  print_are loops d behind small less =
      let at : pointer_at o < N.variables = low_there 1 (lit< tt) in
      let b : buffer_at o < N.variables = low_there 0 (lit< tt) in (
        (at, (b, lit< tt)),
        join_are loops (front o (word behind)) (join (text_code o d) (one (write_code o))) (front_are loops (word behind) (omega (arith, small)))
            (join_are loops (text_code o d) (one (write_code o)) (text_are loops d less) (write_is loops, tt)),
      )

  values_are : (loops d n : ℕ) → d + n ≤ o.waiting → AreStmts N loops (values_code o d n)
  values_are loops d zero room = tt
  values_are loops d (suc zero) room = print_are loops d 10 (lit< tt) (omega (arith, room))
  values_are loops d (suc (suc n)) room = join_are loops (print_code o d 32) (values_code o (d + 1) (suc n)) (print_are loops d 32 (lit< tt) (omega (arith, room))) (values_are loops (d + 1) (suc n) (omega (arith, room)))

  pub line_are : (loops n : ℕ) → n ≤ o.waiting → AreStmts N loops (line_code o 0 n)
  line_are loops zero room =
      let at : pointer_at o < N.variables = low_there 1 (lit< tt) in
      let b : buffer_at o < N.variables = low_there 0 (lit< tt) in
      ((at, (b, lit< tt)), join_are loops (front o (word 10)) (one (write_code o)) (front_are loops (word 10) (lit< tt)) (write_is loops, tt))
  line_are loops (suc n) room = values_are loops 0 (suc n) (omega (arith, room))

  -- ---- what runs before, and the values
  by_is : (d : ℕ) (k : BinaryOp) (y : Way) (v w : CoreExpr) (a b : ℕ) → d + depth_by y a b ≤ o.waiting → IsExpr N v → IsExpr N w → IsExpr N (value_by o d k y v w)
  by_is d k nested v w a b room h g = binary_is k v w h g
  by_is d k waiting v w a b room h g = binary_is k (waits o d) w (wait_there d (omega (arith, room))) g
  by_is d k checking v w a b room h g = binary_is k (waits o d) (waits o (d + 1)) (wait_there d (omega (arith, room))) (wait_there (d + 1) (omega (arith, room)))
  by_is d k both v w a b room h g = wait_there d (omega (arith, room))
  by_is d k either v w a b room h g = wait_there d (omega (arith, room))

  by_are : (loops d : ℕ) (at : Place) (y : Way) (x : CoreStmts) (v : CoreExpr) (z : CoreStmts) (w : CoreExpr) (a b : ℕ) → d + depth_by y a b ≤ o.waiting → AreStmts N loops x → IsExpr N v → AreStmts N loops z → IsExpr N w → AreStmts N loops (before_by o d at y x v z w)
  by_are loops d at nested x v z w a b room hx hv hz hw = hx
  by_are loops d at waiting x v z w a b room hx hv hz hw = join_are loops x (before_ (wait o d v) z) hx ((wait_there d (omega (arith, room)), hv), hz)
  by_are loops d at checking x v z w a b room hx hv hz hw =
      let one' : wait_at o d < N.variables = wait_there d (omega (arith, room)) in
      let two : wait_at o (d + 1) < N.variables = wait_there (d + 1) (omega (arith, room)) in
      join_are loops x _ hx ((one', hv), join_are loops z _ hz ((two, hw), (two, tt)))
  by_are loops d at both x v z w a b room hx hv hz hw =
      let t : wait_at o d < N.variables = wait_there d (omega (arith, room)) in
      join_are loops x _ hx ((hv, (join_are loops z (one (wait o d w)) hz ((t, hw), tt), ((t, lit< tt), tt))), tt)
  by_are loops d at either x v z w a b room hx hv hz hw =
      let t : wait_at o d < N.variables = wait_there d (omega (arith, room)) in
      join_are loops x _ hx ((hv, (((t, lit< tt), tt), join_are loops z (one (wait o d w)) hz ((t, hw), tt))), tt)

  first_deep : (y : Way) (a b : ℕ) → a ≤ depth_by y a b
  first_deep nested a b = omega arith
  first_deep waiting a b = omega arith
  first_deep checking a b = omega arith
  first_deep both a b = omega arith
  first_deep either a b = omega arith

  -- a right operand that stays in one expression is quiet
  way_quiet : (k : BinaryOp) (l c : Bool) → way_of k l c ≡ nested → l ≡ false
  way_quiet op.Add true true e = absurd (cc)
  way_quiet op.Add true false e = absurd (cc)
  way_quiet op.Add false c e = refl
  way_quiet op.Subtract true true e = absurd (cc)
  way_quiet op.Subtract true false e = absurd (cc)
  way_quiet op.Subtract false c e = refl
  way_quiet op.Multiply true true e = absurd (cc)
  way_quiet op.Multiply true false e = absurd (cc)
  way_quiet op.Multiply false c e = refl
  way_quiet op.Divide true true e = absurd (cc)
  way_quiet op.Divide true false e = absurd (cc)
  way_quiet op.Divide false c e = refl
  way_quiet op.Remainder true true e = absurd (cc)
  way_quiet op.Remainder true false e = absurd (cc)
  way_quiet op.Remainder false c e = refl
  way_quiet op.Modulo true true e = absurd (cc)
  way_quiet op.Modulo true false e = absurd (cc)
  way_quiet op.Modulo false c e = refl
  way_quiet op.And true true e = absurd (cc)
  way_quiet op.And true false e = absurd (cc)
  way_quiet op.And false c e = refl
  way_quiet op.AndNot true true e = absurd (cc)
  way_quiet op.AndNot true false e = absurd (cc)
  way_quiet op.AndNot false c e = refl
  way_quiet op.Or true true e = absurd (cc)
  way_quiet op.Or true false e = absurd (cc)
  way_quiet op.Or false c e = refl
  way_quiet op.Xor true true e = absurd (cc)
  way_quiet op.Xor true false e = absurd (cc)
  way_quiet op.Xor false c e = refl
  way_quiet op.ShiftLeft true true e = absurd (cc)
  way_quiet op.ShiftLeft true false e = absurd (cc)
  way_quiet op.ShiftLeft false c e = refl
  way_quiet op.ShiftRight true true e = absurd (cc)
  way_quiet op.ShiftRight true false e = absurd (cc)
  way_quiet op.ShiftRight false c e = refl
  way_quiet op.AndAlso true true e = absurd (cc)
  way_quiet op.AndAlso true false e = absurd (cc)
  way_quiet op.AndAlso false c e = refl
  way_quiet op.OrElse true true e = absurd (cc)
  way_quiet op.OrElse true false e = absurd (cc)
  way_quiet op.OrElse false c e = refl
  way_quiet op.Equal true true e = absurd (cc)
  way_quiet op.Equal true false e = absurd (cc)
  way_quiet op.Equal false c e = refl
  way_quiet op.Unequal true true e = absurd (cc)
  way_quiet op.Unequal true false e = absurd (cc)
  way_quiet op.Unequal false c e = refl
  way_quiet op.Less true true e = absurd (cc)
  way_quiet op.Less true false e = absurd (cc)
  way_quiet op.Less false c e = refl
  way_quiet op.Greater true true e = absurd (cc)
  way_quiet op.Greater true false e = absurd (cc)
  way_quiet op.Greater false c e = refl
  way_quiet op.AtMost true true e = absurd (cc)
  way_quiet op.AtMost true false e = absurd (cc)
  way_quiet op.AtMost false c e = refl
  way_quiet op.AtLeast true true e = absurd (cc)
  way_quiet op.AtLeast true false e = absurd (cc)
  way_quiet op.AtLeast false c e = refl

  quiet_way : (k : BinaryOp) (l c : Bool) → is_connective k ≡ false → l ≡ false → c ≡ false → way_of k l c ≡ nested
  quiet_way op.Add l c n e f = ap (λ (x : Bool). way_by x c) e ∙ ap (λ (x : Bool). way_by false x) f
  quiet_way op.Subtract l c n e f = ap (λ (x : Bool). way_by x c) e ∙ ap (λ (x : Bool). way_by false x) f
  quiet_way op.Multiply l c n e f = ap (λ (x : Bool). way_by x c) e ∙ ap (λ (x : Bool). way_by false x) f
  quiet_way op.Divide l c n e f = ap (λ (x : Bool). way_by x c) e ∙ ap (λ (x : Bool). way_by false x) f
  quiet_way op.Remainder l c n e f = ap (λ (x : Bool). way_by x c) e ∙ ap (λ (x : Bool). way_by false x) f
  quiet_way op.Modulo l c n e f = ap (λ (x : Bool). way_by x c) e ∙ ap (λ (x : Bool). way_by false x) f
  quiet_way op.And l c n e f = ap (λ (x : Bool). way_by x c) e ∙ ap (λ (x : Bool). way_by false x) f
  quiet_way op.AndNot l c n e f = ap (λ (x : Bool). way_by x c) e ∙ ap (λ (x : Bool). way_by false x) f
  quiet_way op.Or l c n e f = ap (λ (x : Bool). way_by x c) e ∙ ap (λ (x : Bool). way_by false x) f
  quiet_way op.Xor l c n e f = ap (λ (x : Bool). way_by x c) e ∙ ap (λ (x : Bool). way_by false x) f
  quiet_way op.ShiftLeft l c n e f = ap (λ (x : Bool). way_by x c) e ∙ ap (λ (x : Bool). way_by false x) f
  quiet_way op.ShiftRight l c n e f = ap (λ (x : Bool). way_by x c) e ∙ ap (λ (x : Bool). way_by false x) f
  quiet_way op.AndAlso l c n e f = absurd (cc)
  quiet_way op.OrElse l c n e f = absurd (cc)
  quiet_way op.Equal l c n e f = ap (λ (x : Bool). way_by x c) e ∙ ap (λ (x : Bool). way_by false x) f
  quiet_way op.Unequal l c n e f = ap (λ (x : Bool). way_by x c) e ∙ ap (λ (x : Bool). way_by false x) f
  quiet_way op.Less l c n e f = ap (λ (x : Bool). way_by x c) e ∙ ap (λ (x : Bool). way_by false x) f
  quiet_way op.Greater l c n e f = ap (λ (x : Bool). way_by x c) e ∙ ap (λ (x : Bool). way_by false x) f
  quiet_way op.AtMost l c n e f = ap (λ (x : Bool). way_by x c) e ∙ ap (λ (x : Bool). way_by false x) f
  quiet_way op.AtLeast l c n e f = ap (λ (x : Bool). way_by x c) e ∙ ap (λ (x : Bool). way_by false x) f

  mutual
    quiet_is : (d : ℕ) (e : Expr) → is_loud e ≡ false → Fine e → IsExpr N (value o d e)
    quiet_is d (expr t at k) q h = quiet_kind d k q h

    quiet_kind : (d : ℕ) (k : Kind) → is_loud_kind k ≡ false → FineKind k → IsExpr N (value_kind o d k)
    quiet_kind d (Tree.const c) q h = constant_small c
    quiet_kind d (Tree.local x) q h = local_there x h
    quiet_kind d (Tree.unary u e) q h = unary_is u (value o d e) (quiet_is d e q h)
    quiet_kind d (Tree.binary b e f) q h =
        let parts = or_false (is_connective b || checks b f) (is_loud e || is_loud f) q in
        let one' = or_false (is_connective b) (checks b f) parts.0 in
        let two = or_false (is_loud e) (is_loud f) parts.1 in
        let P : Way → Type 0 = λ y. IsExpr N (value_by o d b y (value o d e) (value o (d + 1) f)) in
        subst P (sym (quiet_way b (is_loud f) (checks b f) one'.0 two.1 one'.1)) (binary_is b (value o d e) (value o (d + 1) f) (quiet_is d e two.0 h.0) (quiet_is (d + 1) f two.1 h.1))
    quiet_kind d (Tree.call need order es) q h = absurd (cc)
    quiet_kind d (Tree.global_ g) q h = absurd h
    quiet_kind d (Tree.proc_value n) q h = absurd h
    quiet_kind d Tree.context q h = absurd h
    quiet_kind d (Tree.field e n) q h = absurd h
    quiet_kind d (Tree.deref e) q h = absurd h
    quiet_kind d (Tree.index e i) q h = absurd h
    quiet_kind d (Tree.cut e a c) q h = absurd h
    quiet_kind d (Tree.column e n) q h = absurd h
    quiet_kind d (Tree.call_value m e es) q h = absurd h
    quiet_kind d (Tree.builtin which order es) q h = absurd h
    quiet_kind d (Tree.or_return e v) q h = absurd h
    quiet_kind d (Tree.build m ps) q h = absurd h
    quiet_kind d (Tree.convert e) q h = absurd h
    quiet_kind d (Tree.inject n e) q h = absurd h
    quiet_kind d (Tree.assert_ n e) q h = absurd h
    quiet_kind d (Tree.test_ n e) q h = absurd h
    quiet_kind d (Tree.address_ e) q h = absurd h
    quiet_kind d Tree.location q h = absurd h
    quiet_kind d (Tree.help n es) q h = absurd h

  quiet_all : (d : ℕ) (es : Exprs) → is_any_loud es ≡ false → Fines es → AreExprs N (values o d es)
  quiet_all d none q h = tt
  quiet_all d (more e es) q h =
      let two = or_false (is_loud e) (is_any_loud es) q in
      let P : Bool → Type 0 = λ b. AreExprs N (argument_values o d b (value o d e) (values o (d + 1) es) (values o d es)) in
      subst P (sym two.1) (quiet_is d e two.0 h.0, quiet_all d es two.1 h.1)

  -- a part of two operands, by the way in which they come together
  two_by : (d : ℕ) (k : BinaryOp) (f : Expr) (a b : ℕ) (P : Way → Type 0) → d + depth_by (way k f) a b ≤ o.waiting →
      (way k f ≡ nested → is_loud f ≡ false → P nested) → ((y : Way) → way k f ≡ y → d + 1 + b ≤ o.waiting → d + depth_by y a b ≤ o.waiting → P y) → P (way k f)
  two_by d k f a b P room quiet else_ = by (way k f) refl
    where
      by : (y : Way) → way k f ≡ y → P y
      by nested e = quiet e (way_quiet k (is_loud f) (checks k f) e)
      by waiting e = let r : d + depth_by waiting a b ≤ o.waiting = subst (λ (y : Way). d + depth_by y a b ≤ o.waiting) e room in else_ waiting e (omega (arith, r)) r
      by checking e = let r : d + depth_by checking a b ≤ o.waiting = subst (λ (y : Way). d + depth_by y a b ≤ o.waiting) e room in else_ checking e (omega (arith, r)) r
      by both e = let r : d + depth_by both a b ≤ o.waiting = subst (λ (y : Way). d + depth_by y a b ≤ o.waiting) e room in else_ both e (omega (arith, r)) r
      by either e = let r : d + depth_by either a b ≤ o.waiting = subst (λ (y : Way). d + depth_by y a b ≤ o.waiting) e room in else_ either e (omega (arith, r)) r

  pub counted : (d : ℕ) (es : Exprs) → core_count (values o d es) ≡ count es
  counted d none = refl
  counted d (more e es) = by (is_any_loud es) (counted (d + 1) es) (counted d es)
    where
      by : (b : Bool) → core_count (values o (d + 1) es) ≡ count es → core_count (values o d es) ≡ count es → core_count (argument_values o d b (value o d e) (values o (d + 1) es) (values o d es)) ≡ count es + 1
      by true r q = omega (arith, r)
      by false r q = omega (arith, q)

  mutual
    pub value_is : (d : ℕ) (e : Expr) → d + depth e ≤ o.waiting → Fine e → IsExpr N (value o d e)
    value_is d (expr t at k) room h = kind_is d k room h

    kind_is : (d : ℕ) (k : Kind) → d + depth_kind k ≤ o.waiting → FineKind k → IsExpr N (value_kind o d k)
    kind_is d (Tree.const c) room h = constant_small c
    kind_is d (Tree.local x) room h = local_there x h
    kind_is d (Tree.unary u e) room h = unary_is u (value o d e) (value_is d e room h)
    kind_is d (Tree.binary b e f) room h =
        let first : depth e ≤ depth_by (way b f) (depth e) (depth f) = first_deep (way b f) (depth e) (depth f) in
        let v : IsExpr N (value o d e) = value_is d e (omega (arith, first, room)) h.0 in
        two_by d b f (depth e) (depth f) (λ y. IsExpr N (value_by o d b y (value o d e) (value o (d + 1) f))) room
        (λ e' q. binary_is b (value o d e) (value o (d + 1) f) v (quiet_is (d + 1) f q h.1))
        (λ y e' r s. by_is d b y (value o d e) (value o (d + 1) f) (depth e) (depth f) s v (value_is (d + 1) f r h.1))
    kind_is d (Tree.call need order es) room h = wait_there d (omega (arith, room))
    kind_is d (Tree.global_ g) room h = absurd h
    kind_is d (Tree.proc_value n) room h = absurd h
    kind_is d Tree.context room h = absurd h
    kind_is d (Tree.field e n) room h = absurd h
    kind_is d (Tree.deref e) room h = absurd h
    kind_is d (Tree.index e i) room h = absurd h
    kind_is d (Tree.cut e a c) room h = absurd h
    kind_is d (Tree.column e n) room h = absurd h
    kind_is d (Tree.call_value m e es) room h = absurd h
    kind_is d (Tree.builtin which order es) room h = absurd h
    kind_is d (Tree.or_return e v) room h = absurd h
    kind_is d (Tree.build m ps) room h = absurd h
    kind_is d (Tree.convert e) room h = absurd h
    kind_is d (Tree.inject n e) room h = absurd h
    kind_is d (Tree.assert_ n e) room h = absurd h
    kind_is d (Tree.test_ n e) room h = absurd h
    kind_is d (Tree.address_ e) room h = absurd h
    kind_is d Tree.location room h = absurd h
    kind_is d (Tree.help n es) room h = absurd h

  all_are : (d : ℕ) (es : Exprs) → d + depths es ≤ o.waiting → Fines es → AreExprs N (values o d es)
  all_are d none room h = tt
  all_are d (more e es) room h = by (is_any_loud es) refl (value_is d e (omega (arith, room)) h.0) (all_are (d + 1) es (omega (arith, room)) h.1)
    where
      by : (b : Bool) → is_any_loud es ≡ b → IsExpr N (value o d e) → AreExprs N (values o (d + 1) es) → AreExprs N (argument_values o d b (value o d e) (values o (d + 1) es) (values o d es))
      by true f v vs = (wait_there d (omega (arith, room)), vs)
      by false f v vs = (v, quiet_all d es f h.1)

  argument_are : (loops d : ℕ) (b : Bool) (a : CoreStmts) (v : CoreExpr) (rest : CoreStmts) → d < o.waiting → AreStmts N loops a → IsExpr N v → AreStmts N loops rest → AreStmts N loops (argument_before o d b a v rest)
  argument_are loops d true a v rest less h g k = join_are loops a _ h ((wait_there d less, g), k)
  argument_are loops d false a v rest less h g k = h

  mutual
    pub before_are : (loops d : ℕ) (e : Expr) → d + depth e ≤ o.waiting → Fine e → AreStmts N loops (before o d e)
    before_are loops d (expr t at k) room h = before_kind_are loops d at k room h

    pub before_kind_are : (loops d : ℕ) (at : Place) (k : Kind) → d + depth_kind k ≤ o.waiting → FineKind k → AreStmts N loops (before_kind o d at k)
    before_kind_are loops d at (Tree.const c) room h = tt
    before_kind_are loops d at (Tree.local x) room h = tt
    before_kind_are loops d at (Tree.unary u e) room h = before_are loops d e room h
    before_kind_are loops d at (Tree.binary b e f) room h =
        let first : depth e ≤ depth_by (way b f) (depth e) (depth f) = first_deep (way b f) (depth e) (depth f) in
        let le : d + depth e ≤ o.waiting = omega (arith, first, room) in
        let a : AreStmts N loops (before o d e) = before_are loops d e le h.0 in
        two_by d b f (depth e) (depth f) (λ y. AreStmts N loops (before_by o d at y (before o d e) (value o d e) (before o (d + 1) f) (value o (d + 1) f))) room
        (λ e' q. a)
        (λ y e' r s. by_are loops d at y (before o d e) (value o d e) (before o (d + 1) f) (value o (d + 1) f) (depth e) (depth f) s a (value_is d e le h.0) (before_are loops (d + 1) f r h.1) (value_is (d + 1) f r h.1))
    before_kind_are loops d at (Tree.call need order es) room h =
        let w : wait_at o d < N.variables = wait_there d (omega (arith, room)) in
        let r : d + depths es ≤ o.waiting = omega (arith, room) in
        join_are loops (befores o d es) _ (befores_are loops d es r h.1) ((w, (h.0 ∙ ap (λ (n : ℕ). Some n) (sym (counted d es)), all_are d es r h.1)), tt)
    before_kind_are loops d at (Tree.global_ g) room h = absurd h
    before_kind_are loops d at (Tree.proc_value n) room h = absurd h
    before_kind_are loops d at Tree.context room h = absurd h
    before_kind_are loops d at (Tree.field e n) room h = absurd h
    before_kind_are loops d at (Tree.deref e) room h = absurd h
    before_kind_are loops d at (Tree.index e i) room h = absurd h
    before_kind_are loops d at (Tree.cut e a c) room h = absurd h
    before_kind_are loops d at (Tree.column e n) room h = absurd h
    before_kind_are loops d at (Tree.call_value m e es) room h = absurd h
    before_kind_are loops d at (Tree.builtin which order es) room h = absurd h
    before_kind_are loops d at (Tree.or_return e v) room h = absurd h
    before_kind_are loops d at (Tree.build m ps) room h = absurd h
    before_kind_are loops d at (Tree.convert e) room h = absurd h
    before_kind_are loops d at (Tree.inject n e) room h = absurd h
    before_kind_are loops d at (Tree.assert_ n e) room h = absurd h
    before_kind_are loops d at (Tree.test_ n e) room h = absurd h
    before_kind_are loops d at (Tree.address_ e) room h = absurd h
    before_kind_are loops d at Tree.location room h = absurd h
    before_kind_are loops d at (Tree.help n es) room h = absurd h

    befores_are : (loops d : ℕ) (es : Exprs) → d + depths es ≤ o.waiting → Fines es → AreStmts N loops (befores o d es)
    befores_are loops d none room h = tt
    befores_are loops d (more e es) room h = argument_are loops d (is_any_loud es) (before o d e) (value o d e) (befores o (d + 1) es) (omega (arith, room)) (before_are loops d e (omega (arith, room)) h.0) (value_is d e (omega (arith, room)) h.0) (befores_are loops (d + 1) es (omega (arith, room)) h.1)

  pub waits_are : (loops d : ℕ) (es : Exprs) → d + depths es ≤ o.waiting → Fines es → AreStmts N loops (waits_all o d es)
  waits_are loops d none room h = tt
  waits_are loops d (more e es) room h =
      join_are loops (before o d e) _ (before_are loops d e (omega (arith, room)) h.0) ((wait_there d (omega (arith, room)), value_is d e (omega (arith, room)) h.0), waits_are loops (d + 1) es (omega (arith, room)) h.1)
