-- The steps of each form are well.
use Rattle.std.proofs.Common.{◌≡◌, ℕ, zero, suc, ◌+◌, ◌-◌, ◌*◌, ◌^◌, ◌<◌, ◌≤◌, List, [], ◌∷◌, ◌++◌, length, get_or, ap, ◌∙◌, sym, subst, refl, arith}
use Rattle.std.specs.Prelude.{Some, slice_get, max}
use Rattle.odc_core.specs.declared.tree.Width.{Width}
use Rattle.odc_core.specs.declared.tree.Width.TheVariants.{Byte, Double}
use Rattle.odc_core.specs.declared.tree.BinaryOp.TheVariants.{Add, Subtract}
use Rattle.odc_core.specs.declared.tree.Comparison.TheVariants.{Below}
use Rattle.odc_core.specs.Tree.{Expr, const, slot, address, procedure, load, unary, binary, compare, call, call_value, Exprs, none, more, Stmt, eval, store, copy, zero_bytes, choose, repeat, leave, answer, check, read, write, exit, Stmts, finish, follow}
use Rattle.odc_core.specs.Well.{Names as CoreNames, count, IsExpr, AreExprs, IsStmt, AreStmts}
use Rattle.odc_mid.specs.declared.tree.Named.TheVariants.{Variable, Stored, Procedure}
use Rattle.odc_mid.specs.declared.tree.SystemCall.TheVariants.{Read, Write, Exit}
use Rattle.odc_mid.specs.Well.{Names}
use Rattle.odc_lower.specs.Plain.{Step, const_step, address_step, unary_step, binary_step, compare_step, load_step, store_step, jump_step, branch_step, call_step, call_value_step, return_step, check_step, system_step}
use Rattle.odc_lower.specs.Size.{expr_nodes, exprs_nodes, stmt_size, stmts_size, expr_room, exprs_room, stmt_room, stmts_room}
use Rattle.odc_lower.specs.Code.{temps_from, expr_code, exprs_code, up_code, down_code, copy_code, clear_code, zero_code, stmt_code, stmts_code, parameters_code}
use Rattle.odc_lower.proofs.Lengths.{expr_length, exprs_length, stmt_length, stmts_length}
use Rattle.odc_lower.proofs.Sizes.{expr_room_some}
use Rattle.odc_lower.proofs.Depths.{depth_at, Fit, Fits, Along, along_first, along_second, fits_join, temps_below, temps_length, expr_depths, exprs_depths, depths_length, exprs_depths_length, expr_begins, piece_depths, clear_depths, copy_depths, zero_depths, stmt_depths, stmts_depths, stmt_depths_length, stmts_depths_length, set_fit, wide_fit, flow_fit, pass_fit, jump_fit, branch_fit, along_at, parameters_depths}

abbrev pub names_by : CoreNames → ℕ → ℕ → Names
names_by names temporaries steps = record { parameters = names.parameters; addresses = names.addresses; variables = names.variables; temporaries = temporaries; steps = steps }

module _ (names : CoreNames) (temporaries steps : ℕ) (ds : List ℕ) where
  abbrev pub AreFit : ℕ → List Step → Type 0
  AreFit i xs = Fits (names_by names temporaries steps) ds i xs

  abbrev pub IsFit : ℕ → Step → Type 0
  IsFit i x = Fit (names_by names temporaries steps) ds i x

  -- the last step of a form alone
  alone : (x : Step) (i : ℕ) → IsFit i x → AreFit i (x ∷ [])
  alone x i h = (h, tt)

  two_fit : (xs ys : List Step) (i m : ℕ) → length xs ≡ m → AreFit i xs → AreFit (i + m) ys → AreFit i (xs ++ ys)
  two_fit xs ys i m e f g = fits_join (names_by names temporaries steps) ds i m xs ys e f g

  mutual
    pub expr_fits : (e : Expr) (d i : ℕ) → Along ds i (expr_depths d e) → depth_at ds (i + expr_nodes e) ≤ d + 1 → i + expr_nodes e < steps → d + expr_room e ≤ temporaries → IsExpr names e → AreFit i (expr_code d e)
    expr_fits (const word) d i h deep inside room is =
        alone (const_step d word) i (set_fit (names_by names temporaries steps) ds (const_step d word) i (i + 1) d d h.0 refl inside deep (omega arith) is tt (omega arith) (omega arith) refl refl)
    expr_fits (slot x) d i h deep inside room is =
        alone (address_step d (Variable x)) i (set_fit (names_by names temporaries steps) ds (address_step d (Variable x)) i (i + 1) d d h.0 refl inside deep (omega arith) is tt (omega arith) (omega arith) refl refl)
    expr_fits (address x) d i h deep inside room is =
        alone (address_step d (Stored x)) i (set_fit (names_by names temporaries steps) ds (address_step d (Stored x)) i (i + 1) d d h.0 refl inside deep (omega arith) is tt (omega arith) (omega arith) refl refl)
    expr_fits (procedure f) d i h deep inside room is =
        alone (address_step d (Procedure f)) i (set_fit (names_by names temporaries steps) ds (address_step d (Procedure f)) i (i + 1) d d h.0 refl inside deep (omega arith) is tt (omega arith) (omega arith) refl refl)
    expr_fits (load width e) d i h deep inside room is =
        let x = load_step d width d in
        let some = expr_room_some e in
        let j : ℕ = i + expr_nodes e in
        let last = along_second ds i (expr_nodes e) (expr_depths d e) ((d + 1) ∷ []) (depths_length e d) h in
        let next : depth_at ds (j + 1) ≤ d + 1 = (let e2 : i + (expr_nodes e + 1) ≡ j + 1 = omega arith in subst (λ (k : ℕ). depth_at ds k ≤ d + 1) e2 deep) in
        two_fit (expr_code d e) (x ∷ []) i (expr_nodes e) (expr_length e d)
        (expr_fits e d i (along_first ds i (expr_depths d e) ((d + 1) ∷ []) h) (omega (arith, last.0)) (omega arith) room is)
        (alone x j (set_fit (names_by names temporaries steps) ds x j (j + 1) (d + 1) d last.0 refl (omega arith) next (omega arith) tt (omega arith, tt) (omega arith) (omega arith) refl refl))
    expr_fits (unary op e) d i h deep inside room is =
        let x = unary_step d op d in
        let some = expr_room_some e in
        let j : ℕ = i + expr_nodes e in
        let last = along_second ds i (expr_nodes e) (expr_depths d e) ((d + 1) ∷ []) (depths_length e d) h in
        let next : depth_at ds (j + 1) ≤ d + 1 = (let e2 : i + (expr_nodes e + 1) ≡ j + 1 = omega arith in subst (λ (k : ℕ). depth_at ds k ≤ d + 1) e2 deep) in
        two_fit (expr_code d e) (x ∷ []) i (expr_nodes e) (expr_length e d)
        (expr_fits e d i (along_first ds i (expr_depths d e) ((d + 1) ∷ []) h) (omega (arith, last.0)) (omega arith) room is)
        (alone x j (set_fit (names_by names temporaries steps) ds x j (j + 1) (d + 1) d last.0 refl (omega arith) next (omega arith) tt (omega arith, tt) (omega arith) (omega arith) refl refl))
    expr_fits (binary op a b) d i h deep inside room is =
        let x = binary_step d op d (d + 1) in
        let some_a = expr_room_some a in
        let some_b = expr_room_some b in
        let j : ℕ = i + expr_nodes a in
        let k : ℕ = j + expr_nodes b in
        let back = along_second ds i (expr_nodes a) (expr_depths d a) (expr_depths (d + 1) b ++ ((d + 2) ∷ [])) (depths_length a d) h in
        let back_first = along_first ds j (expr_depths (d + 1) b) ((d + 2) ∷ []) back in
        let begins = expr_begins ds b (d + 1) j back_first in
        let last = along_second ds j (expr_nodes b) (expr_depths (d + 1) b) ((d + 2) ∷ []) (depths_length b (d + 1)) back in
        let next : depth_at ds (k + 1) ≤ d + 1 = (let e2 : i + (expr_nodes a + expr_nodes b + 1) ≡ k + 1 = omega arith in subst (λ (z : ℕ). depth_at ds z ≤ d + 1) e2 deep) in
        two_fit (expr_code d a) (expr_code (d + 1) b ++ (x ∷ [])) i (expr_nodes a) (expr_length a d)
        (expr_fits a d i (along_first ds i (expr_depths d a) (expr_depths (d + 1) b ++ ((d + 2) ∷ [])) h) (omega (arith, begins)) (omega arith) (omega arith) is.0)
        (two_fit (expr_code (d + 1) b) (x ∷ []) j (expr_nodes b) (expr_length b (d + 1))
        (expr_fits b (d + 1) j back_first (omega (arith, last.0)) (omega arith) (omega arith) is.1)
        (alone x k (set_fit (names_by names temporaries steps) ds x k (k + 1) (d + 2) d last.0 refl (omega arith) next (omega arith) tt (omega arith, (omega arith, tt)) (omega arith) (omega arith) refl refl)))
    expr_fits (compare op a b) d i h deep inside room is =
        let x = compare_step d op d (d + 1) in
        let some_a = expr_room_some a in
        let some_b = expr_room_some b in
        let j : ℕ = i + expr_nodes a in
        let k : ℕ = j + expr_nodes b in
        let back = along_second ds i (expr_nodes a) (expr_depths d a) (expr_depths (d + 1) b ++ ((d + 2) ∷ [])) (depths_length a d) h in
        let back_first = along_first ds j (expr_depths (d + 1) b) ((d + 2) ∷ []) back in
        let begins = expr_begins ds b (d + 1) j back_first in
        let last = along_second ds j (expr_nodes b) (expr_depths (d + 1) b) ((d + 2) ∷ []) (depths_length b (d + 1)) back in
        let next : depth_at ds (k + 1) ≤ d + 1 = (let e2 : i + (expr_nodes a + expr_nodes b + 1) ≡ k + 1 = omega arith in subst (λ (z : ℕ). depth_at ds z ≤ d + 1) e2 deep) in
        two_fit (expr_code d a) (expr_code (d + 1) b ++ (x ∷ [])) i (expr_nodes a) (expr_length a d)
        (expr_fits a d i (along_first ds i (expr_depths d a) (expr_depths (d + 1) b ++ ((d + 2) ∷ [])) h) (omega (arith, begins)) (omega arith) (omega arith) is.0)
        (two_fit (expr_code (d + 1) b) (x ∷ []) j (expr_nodes b) (expr_length b (d + 1))
        (expr_fits b (d + 1) j back_first (omega (arith, last.0)) (omega arith) (omega arith) is.1)
        (alone x k (set_fit (names_by names temporaries steps) ds x k (k + 1) (d + 2) d last.0 refl (omega arith) next (omega arith) tt (omega arith, (omega arith, tt)) (omega arith) (omega arith) refl refl)))
    expr_fits (call f es) d i h deep inside room is =
        let n : ℕ = count es in
        let x = call_step d f (temps_from d n) in
        let j : ℕ = i + exprs_nodes es in
        let last = along_second ds i (exprs_nodes es) (exprs_depths d es) ((d + n) ∷ []) (exprs_depths_length es d) h in
        let next : depth_at ds (j + 1) ≤ d + 1 = (let e2 : i + (exprs_nodes es + 1) ≡ j + 1 = omega arith in subst (λ (k : ℕ). depth_at ds k ≤ d + 1) e2 deep) in
        let named : slice_get names.parameters f ≡ Some (length (temps_from d n)) = is.0 ∙ ap (λ (k : ℕ). Some k) (sym (temps_length d n)) in
        let fits = exprs_room_many es in
        two_fit (exprs_code d es) (x ∷ []) i (exprs_nodes es) (exprs_length es d)
        (exprs_fits es d i (along_first ds i (exprs_depths d es) ((d + n) ∷ []) h) (omega (arith, last.0)) (omega arith) (omega arith) is.1)
        (alone x j (set_fit (names_by names temporaries steps) ds x j (j + 1) (d + n) d last.0 refl (omega arith) next (omega arith) named (temps_below d n (d + n) (omega arith)) (omega arith) (omega arith) refl refl))
    expr_fits (call_value e es marked) d i h deep inside room is =
        let n : ℕ = count es in
        let x = call_value_step d d (temps_from (d + 1) n) marked in
        let some = expr_room_some e in
        let fits = exprs_room_many es in
        let j : ℕ = i + expr_nodes e in
        let k : ℕ = j + exprs_nodes es in
        let back = along_second ds i (expr_nodes e) (expr_depths d e) (exprs_depths (d + 1) es ++ ((d + 1 + n) ∷ [])) (depths_length e d) h in
        let begins = exprs_begin es (d + 1) j back in
        let last = along_second ds j (exprs_nodes es) (exprs_depths (d + 1) es) ((d + 1 + n) ∷ []) (exprs_depths_length es (d + 1)) back in
        let next : depth_at ds (k + 1) ≤ d + 1 = (let e2 : i + (expr_nodes e + exprs_nodes es + 1) ≡ k + 1 = omega arith in subst (λ (z : ℕ). depth_at ds z ≤ d + 1) e2 deep) in
        two_fit (expr_code d e) (exprs_code (d + 1) es ++ (x ∷ [])) i (expr_nodes e) (expr_length e d)
        (expr_fits e d i (along_first ds i (expr_depths d e) (exprs_depths (d + 1) es ++ ((d + 1 + n) ∷ [])) h) (omega (arith, begins)) (omega arith) (omega arith) is.0)
        (two_fit (exprs_code (d + 1) es) (x ∷ []) j (exprs_nodes es) (exprs_length es (d + 1))
        (exprs_fits es (d + 1) j (along_first ds j (exprs_depths (d + 1) es) ((d + 1 + n) ∷ []) back) (omega (arith, last.0)) (omega arith) (omega arith) is.1)
        (alone x k (set_fit (names_by names temporaries steps) ds x k (k + 1) (d + 1 + n) d last.0 refl (omega arith) next (omega arith) tt (omega arith, temps_below (d + 1) n (d + 1 + n) (omega arith)) (omega arith) (omega arith) refl refl)))

    -- expressions that leave their words from `d` on
    exprs_fits : (es : Exprs) (d i : ℕ) → Along ds i (exprs_depths d es) → depth_at ds (i + exprs_nodes es) ≤ d + count es → i + exprs_nodes es < steps → d + exprs_room es ≤ temporaries → AreExprs names es → AreFit i (exprs_code d es)
    exprs_fits none d i h deep inside room is = tt
    exprs_fits (more e es) d i h deep inside room is =
        let some = expr_room_some e in
        let j : ℕ = i + expr_nodes e in
        let back = along_second ds i (expr_nodes e) (expr_depths d e) (exprs_depths (d + 1) es) (depths_length e d) h in
        let next : depth_at ds (j + exprs_nodes es) ≤ d + suc (count es) = (let e2 : i + (expr_nodes e + exprs_nodes es) ≡ j + exprs_nodes es = omega arith in subst (λ (z : ℕ). depth_at ds z ≤ d + suc (count es)) e2 deep) in
        let begins = exprs_follow es (d + 1) j back (omega arith) in
        two_fit (expr_code d e) (exprs_code (d + 1) es) i (expr_nodes e) (expr_length e d)
        (expr_fits e d i (along_first ds i (expr_depths d e) (exprs_depths (d + 1) es) h) begins (omega arith) (omega arith) is.0)
        (exprs_fits es (d + 1) j back (omega arith) (omega arith) (omega arith) is.1)

    exprs_room_many : (es : Exprs) → count es ≤ exprs_room es
    exprs_room_many none = omega arith
    exprs_room_many (more e es) = omega (arith, exprs_room_many es)

    -- the first one begins at their depth, or what is behind them does
    exprs_begin : (es : Exprs) (d i : ℕ) → Along ds i (exprs_depths d es ++ ((d + count es) ∷ [])) → depth_at ds i ≡ d
    exprs_begin none d i h = omega (arith, h.0)
    exprs_begin (more e es) d i h =
        expr_begins ds e d i (along_first ds i (expr_depths d e) (exprs_depths (d + 1) es) (along_first ds i (expr_depths d e ++ exprs_depths (d + 1) es) ((d + suc (count es)) ∷ []) h))

    exprs_follow : (es : Exprs) (d i : ℕ) → Along ds i (exprs_depths d es) → depth_at ds (i + exprs_nodes es) ≤ d + count es → depth_at ds i ≤ d
    exprs_follow none d i h deep = let same : i + 0 ≡ i = omega arith in (let k : depth_at ds i ≤ d + 0 = subst (λ (z : ℕ). depth_at ds z ≤ d + 0) same deep in omega arith)
    exprs_follow (more e es) d i h deep = omega (arith, expr_begins ds e d i (along_first ds i (expr_depths d e) (exprs_depths (d + 1) es) h))

  -- ---- bytes

  pub up_fits : (p d c0 c1 k : ℕ) (w : Width) → Along ds p ((c0) ∷ (c1) ∷ (d + 6) ∷ (d + 6) ∷ (d + 6) ∷ (d + 6) ∷ (d + 6) ∷ (d + 6) ∷ (d + 6) ∷ (d + 6) ∷ []) → d + 4 ≤ c0 → c0 ≤ d + 6 → d + 5 ≤ c1 → c1 ≤ d + 6 → c1 ≤ max (d + 5) c0 → k - 1 < 2 ^ 64 → k < 2 ^ 64 → depth_at ds (p + 10) ≤ d + 6 → p + 10 < steps → d + 6 ≤ temporaries → AreFit p (up_code d p w k)
  up_fits p d c0 c1 k w h c0_low c0_high c1_low c1_high c1_c0 small1 small deep inside room =
      let xs : List ℕ = (c0) ∷ (c1) ∷ (d + 6) ∷ (d + 6) ∷ (d + 6) ∷ (d + 6) ∷ (d + 6) ∷ (d + 6) ∷ (d + 6) ∷ (d + 6) ∷ [] in
      let h0 : depth_at ds (p) ≡ c0 = along_at ds p xs 0 (p) (c0) h refl (omega arith) in
      let h1 : depth_at ds (p + 1) ≡ c1 = along_at ds p xs 1 (p + 1) (c1) h refl (omega arith) in
      let h2 : depth_at ds (p + 1 + 1) ≡ d + 6 = along_at ds p xs 2 (p + 1 + 1) (d + 6) h refl (omega arith) in
      let h3 : depth_at ds (p + 1 + 1 + 1) ≡ d + 6 = along_at ds p xs 3 (p + 1 + 1 + 1) (d + 6) h refl (omega arith) in
      let h4 : depth_at ds (p + 1 + 1 + 1 + 1) ≡ d + 6 = along_at ds p xs 4 (p + 1 + 1 + 1 + 1) (d + 6) h refl (omega arith) in
      let h5 : depth_at ds (p + 1 + 1 + 1 + 1 + 1) ≡ d + 6 = along_at ds p xs 5 (p + 1 + 1 + 1 + 1 + 1) (d + 6) h refl (omega arith) in
      let h6 : depth_at ds (p + 1 + 1 + 1 + 1 + 1 + 1) ≡ d + 6 = along_at ds p xs 6 (p + 1 + 1 + 1 + 1 + 1 + 1) (d + 6) h refl (omega arith) in
      let h7 : depth_at ds (p + 1 + 1 + 1 + 1 + 1 + 1 + 1) ≡ d + 6 = along_at ds p xs 7 (p + 1 + 1 + 1 + 1 + 1 + 1 + 1) (d + 6) h refl (omega arith) in
      let h8 : depth_at ds (p + 1 + 1 + 1 + 1 + 1 + 1 + 1 + 1) ≡ d + 6 = along_at ds p xs 8 (p + 1 + 1 + 1 + 1 + 1 + 1 + 1 + 1) (d + 6) h refl (omega arith) in
      let h9 : depth_at ds (p + 1 + 1 + 1 + 1 + 1 + 1 + 1 + 1 + 1) ≡ d + 6 = along_at ds p xs 9 (p + 1 + 1 + 1 + 1 + 1 + 1 + 1 + 1 + 1) (d + 6) h refl (omega arith) in
      let e10 : depth_at ds (p + 1 + 1 + 1 + 1 + 1 + 1 + 1 + 1 + 1 + 1) ≤ d + 6 = (let same : p + 10 ≡ p + 1 + 1 + 1 + 1 + 1 + 1 + 1 + 1 + 1 + 1 = omega arith in subst (λ (z : ℕ). depth_at ds z ≤ d + 6) same deep) in
      let g3 : depth_at ds (p + 3) ≡ d + 6 = along_at ds p xs 3 (p + 3) (d + 6) h refl refl in
      let g8 : depth_at ds (p + 8) ≡ d + 6 = along_at ds p xs 8 (p + 8) (d + 6) h refl refl in (
        wide_fit (names_by names temporaries steps) ds (const_step (d + 4) (k - 1)) (p) (p + 1) (c0) (d + 4) h0 refl (omega arith) (omega (arith, h1)) (omega arith) small1 tt (omega arith) (omega arith) refl refl,
        (
          wide_fit (names_by names temporaries steps) ds (const_step (d + 5) k) (p + 1) (p + 1 + 1) (c1) (d + 5) h1 refl (omega arith) (omega (arith, h2)) (omega arith) small tt (omega arith) (omega arith) refl refl,
          (
            jump_fit (names_by names temporaries steps) ds (p + 1 + 1) (p + 8) (d + 6) h2 (omega arith) (omega (arith, g8)) (omega arith),
            (
              wide_fit (names_by names temporaries steps) ds (load_step (d + 3) w (d + 1)) (p + 1 + 1 + 1) (p + 1 + 1 + 1 + 1) (d + 6) (d + 3) h3 refl (omega arith) (omega (arith, h4)) (omega arith) tt (omega arith, tt) (omega arith) (omega arith) refl refl,
              (
                pass_fit (names_by names temporaries steps) ds (store_step w d (d + 3)) (p + 1 + 1 + 1 + 1) (p + 1 + 1 + 1 + 1 + 1) (d + 6) h4 refl (omega arith) (omega (arith, h5)) tt (omega arith, (omega arith, tt)) (omega arith) refl refl,
                (
                  wide_fit (names_by names temporaries steps) ds (binary_step d Add d (d + 5)) (p + 1 + 1 + 1 + 1 + 1) (p + 1 + 1 + 1 + 1 + 1 + 1) (d + 6) (d) h5 refl (omega arith) (omega (arith, h6)) (omega arith) tt (omega arith, (omega arith, tt)) (omega arith) (omega arith) refl refl,
                  (
                    wide_fit (names_by names temporaries steps) ds (binary_step (d + 1) Add (d + 1) (d + 5)) (p + 1 + 1 + 1 + 1 + 1 + 1) (p + 1 + 1 + 1 + 1 + 1 + 1 + 1) (d + 6) (d + 1) h6 refl (omega arith) (omega (arith, h7)) (omega arith) tt (omega arith, (omega arith, tt)) (omega arith) (omega arith) refl refl,
                    (
                      wide_fit (names_by names temporaries steps) ds (binary_step (d + 2) Subtract (d + 2) (d + 5)) (p + 1 + 1 + 1 + 1 + 1 + 1 + 1) (p + 1 + 1 + 1 + 1 + 1 + 1 + 1 + 1) (d + 6) (d + 2) h7 refl (omega arith) (omega (arith, h8)) (omega arith) tt (omega arith, (omega arith, tt)) (omega arith) (omega arith) refl refl,
                      (
                        wide_fit (names_by names temporaries steps) ds (compare_step (d + 3) Below (d + 4) (d + 2)) (p + 1 + 1 + 1 + 1 + 1 + 1 + 1 + 1) (p + 1 + 1 + 1 + 1 + 1 + 1 + 1 + 1 + 1) (d + 6) (d + 3) h8 refl (omega arith) (omega (arith, h9)) (omega arith) tt (omega arith, (omega arith, tt)) (omega arith) (omega arith) refl refl,
                        (branch_fit (names_by names temporaries steps) ds (p + 1 + 1 + 1 + 1 + 1 + 1 + 1 + 1 + 1) (p + 1 + 1 + 1 + 1 + 1 + 1 + 1 + 1 + 1 + 1) (p + 3) (d + 3) (d + 6) h9 refl (omega arith) (omega (arith, e10)) (omega arith) (omega (arith, g3)) (omega arith) (omega arith), tt),
                      ),
                    ),
                  ),
                ),
              ),
            ),
          ),
        ),
      )

  pub down_fits : (p d c0 c1 k : ℕ) (w : Width) → Along ds p ((c0) ∷ (c1) ∷ (d + 6) ∷ (d + 6) ∷ (d + 6) ∷ (d + 6) ∷ (d + 6) ∷ (d + 6) ∷ (d + 6) ∷ (d + 6) ∷ []) → d + 4 ≤ c0 → c0 ≤ d + 6 → d + 5 ≤ c1 → c1 ≤ d + 6 → c1 ≤ max (d + 5) c0 → k - 1 < 2 ^ 64 → k < 2 ^ 64 → depth_at ds (p + 10) ≤ d + 6 → p + 10 < steps → d + 6 ≤ temporaries → AreFit p (down_code d p w k)
  down_fits p d c0 c1 k w h c0_low c0_high c1_low c1_high c1_c0 small1 small deep inside room =
      let xs : List ℕ = (c0) ∷ (c1) ∷ (d + 6) ∷ (d + 6) ∷ (d + 6) ∷ (d + 6) ∷ (d + 6) ∷ (d + 6) ∷ (d + 6) ∷ (d + 6) ∷ [] in
      let h0 : depth_at ds (p) ≡ c0 = along_at ds p xs 0 (p) (c0) h refl (omega arith) in
      let h1 : depth_at ds (p + 1) ≡ c1 = along_at ds p xs 1 (p + 1) (c1) h refl (omega arith) in
      let h2 : depth_at ds (p + 1 + 1) ≡ d + 6 = along_at ds p xs 2 (p + 1 + 1) (d + 6) h refl (omega arith) in
      let h3 : depth_at ds (p + 1 + 1 + 1) ≡ d + 6 = along_at ds p xs 3 (p + 1 + 1 + 1) (d + 6) h refl (omega arith) in
      let h4 : depth_at ds (p + 1 + 1 + 1 + 1) ≡ d + 6 = along_at ds p xs 4 (p + 1 + 1 + 1 + 1) (d + 6) h refl (omega arith) in
      let h5 : depth_at ds (p + 1 + 1 + 1 + 1 + 1) ≡ d + 6 = along_at ds p xs 5 (p + 1 + 1 + 1 + 1 + 1) (d + 6) h refl (omega arith) in
      let h6 : depth_at ds (p + 1 + 1 + 1 + 1 + 1 + 1) ≡ d + 6 = along_at ds p xs 6 (p + 1 + 1 + 1 + 1 + 1 + 1) (d + 6) h refl (omega arith) in
      let h7 : depth_at ds (p + 1 + 1 + 1 + 1 + 1 + 1 + 1) ≡ d + 6 = along_at ds p xs 7 (p + 1 + 1 + 1 + 1 + 1 + 1 + 1) (d + 6) h refl (omega arith) in
      let h8 : depth_at ds (p + 1 + 1 + 1 + 1 + 1 + 1 + 1 + 1) ≡ d + 6 = along_at ds p xs 8 (p + 1 + 1 + 1 + 1 + 1 + 1 + 1 + 1) (d + 6) h refl (omega arith) in
      let h9 : depth_at ds (p + 1 + 1 + 1 + 1 + 1 + 1 + 1 + 1 + 1) ≡ d + 6 = along_at ds p xs 9 (p + 1 + 1 + 1 + 1 + 1 + 1 + 1 + 1 + 1) (d + 6) h refl (omega arith) in
      let e10 : depth_at ds (p + 1 + 1 + 1 + 1 + 1 + 1 + 1 + 1 + 1 + 1) ≤ d + 6 = (let same : p + 10 ≡ p + 1 + 1 + 1 + 1 + 1 + 1 + 1 + 1 + 1 + 1 = omega arith in subst (λ (z : ℕ). depth_at ds z ≤ d + 6) same deep) in
      let g3 : depth_at ds (p + 3) ≡ d + 6 = along_at ds p xs 3 (p + 3) (d + 6) h refl refl in
      let g8 : depth_at ds (p + 8) ≡ d + 6 = along_at ds p xs 8 (p + 8) (d + 6) h refl refl in (
        wide_fit (names_by names temporaries steps) ds (const_step (d + 4) (k - 1)) (p) (p + 1) (c0) (d + 4) h0 refl (omega arith) (omega (arith, h1)) (omega arith) small1 tt (omega arith) (omega arith) refl refl,
        (
          wide_fit (names_by names temporaries steps) ds (const_step (d + 5) k) (p + 1) (p + 1 + 1) (c1) (d + 5) h1 refl (omega arith) (omega (arith, h2)) (omega arith) small tt (omega arith) (omega arith) refl refl,
          (
            jump_fit (names_by names temporaries steps) ds (p + 1 + 1) (p + 8) (d + 6) h2 (omega arith) (omega (arith, g8)) (omega arith),
            (
              wide_fit (names_by names temporaries steps) ds (binary_step d Subtract d (d + 5)) (p + 1 + 1 + 1) (p + 1 + 1 + 1 + 1) (d + 6) (d) h3 refl (omega arith) (omega (arith, h4)) (omega arith) tt (omega arith, (omega arith, tt)) (omega arith) (omega arith) refl refl,
              (
                wide_fit (names_by names temporaries steps) ds (binary_step (d + 1) Subtract (d + 1) (d + 5)) (p + 1 + 1 + 1 + 1) (p + 1 + 1 + 1 + 1 + 1) (d + 6) (d + 1) h4 refl (omega arith) (omega (arith, h5)) (omega arith) tt (omega arith, (omega arith, tt)) (omega arith) (omega arith) refl refl,
                (
                  wide_fit (names_by names temporaries steps) ds (load_step (d + 3) w (d + 1)) (p + 1 + 1 + 1 + 1 + 1) (p + 1 + 1 + 1 + 1 + 1 + 1) (d + 6) (d + 3) h5 refl (omega arith) (omega (arith, h6)) (omega arith) tt (omega arith, tt) (omega arith) (omega arith) refl refl,
                  (
                    pass_fit (names_by names temporaries steps) ds (store_step w d (d + 3)) (p + 1 + 1 + 1 + 1 + 1 + 1) (p + 1 + 1 + 1 + 1 + 1 + 1 + 1) (d + 6) h6 refl (omega arith) (omega (arith, h7)) tt (omega arith, (omega arith, tt)) (omega arith) refl refl,
                    (
                      wide_fit (names_by names temporaries steps) ds (binary_step (d + 2) Subtract (d + 2) (d + 5)) (p + 1 + 1 + 1 + 1 + 1 + 1 + 1) (p + 1 + 1 + 1 + 1 + 1 + 1 + 1 + 1) (d + 6) (d + 2) h7 refl (omega arith) (omega (arith, h8)) (omega arith) tt (omega arith, (omega arith, tt)) (omega arith) (omega arith) refl refl,
                      (
                        wide_fit (names_by names temporaries steps) ds (compare_step (d + 3) Below (d + 4) (d + 2)) (p + 1 + 1 + 1 + 1 + 1 + 1 + 1 + 1) (p + 1 + 1 + 1 + 1 + 1 + 1 + 1 + 1 + 1) (d + 6) (d + 3) h8 refl (omega arith) (omega (arith, h9)) (omega arith) tt (omega arith, (omega arith, tt)) (omega arith) (omega arith) refl refl,
                        (branch_fit (names_by names temporaries steps) ds (p + 1 + 1 + 1 + 1 + 1 + 1 + 1 + 1 + 1) (p + 1 + 1 + 1 + 1 + 1 + 1 + 1 + 1 + 1 + 1) (p + 3) (d + 3) (d + 6) h9 refl (omega arith) (omega (arith, e10)) (omega arith) (omega (arith, g3)) (omega arith) (omega arith), tt),
                      ),
                    ),
                  ),
                ),
              ),
            ),
          ),
        ),
      )

  pub clear_fits : (p d c0 c1 k : ℕ) (w : Width) → Along ds p ((c0) ∷ (c1) ∷ (d + 5) ∷ (d + 5) ∷ (d + 5) ∷ (d + 5) ∷ (d + 5) ∷ (d + 6) ∷ []) → d + 3 ≤ c0 → c0 ≤ d + 6 → d + 4 ≤ c1 → c1 ≤ d + 6 → c1 ≤ max (d + 4) c0 → k - 1 < 2 ^ 64 → k < 2 ^ 64 → depth_at ds (p + 8) ≤ d + 5 → p + 8 < steps → d + 6 ≤ temporaries → AreFit p (clear_code d p w k)
  clear_fits p d c0 c1 k w h c0_low c0_high c1_low c1_high c1_c0 small1 small deep inside room =
      let xs : List ℕ = (c0) ∷ (c1) ∷ (d + 5) ∷ (d + 5) ∷ (d + 5) ∷ (d + 5) ∷ (d + 5) ∷ (d + 6) ∷ [] in
      let h0 : depth_at ds (p) ≡ c0 = along_at ds p xs 0 (p) (c0) h refl (omega arith) in
      let h1 : depth_at ds (p + 1) ≡ c1 = along_at ds p xs 1 (p + 1) (c1) h refl (omega arith) in
      let h2 : depth_at ds (p + 1 + 1) ≡ d + 5 = along_at ds p xs 2 (p + 1 + 1) (d + 5) h refl (omega arith) in
      let h3 : depth_at ds (p + 1 + 1 + 1) ≡ d + 5 = along_at ds p xs 3 (p + 1 + 1 + 1) (d + 5) h refl (omega arith) in
      let h4 : depth_at ds (p + 1 + 1 + 1 + 1) ≡ d + 5 = along_at ds p xs 4 (p + 1 + 1 + 1 + 1) (d + 5) h refl (omega arith) in
      let h5 : depth_at ds (p + 1 + 1 + 1 + 1 + 1) ≡ d + 5 = along_at ds p xs 5 (p + 1 + 1 + 1 + 1 + 1) (d + 5) h refl (omega arith) in
      let h6 : depth_at ds (p + 1 + 1 + 1 + 1 + 1 + 1) ≡ d + 5 = along_at ds p xs 6 (p + 1 + 1 + 1 + 1 + 1 + 1) (d + 5) h refl (omega arith) in
      let h7 : depth_at ds (p + 1 + 1 + 1 + 1 + 1 + 1 + 1) ≡ d + 6 = along_at ds p xs 7 (p + 1 + 1 + 1 + 1 + 1 + 1 + 1) (d + 6) h refl (omega arith) in
      let e8 : depth_at ds (p + 1 + 1 + 1 + 1 + 1 + 1 + 1 + 1) ≤ d + 5 = (let same : p + 8 ≡ p + 1 + 1 + 1 + 1 + 1 + 1 + 1 + 1 = omega arith in subst (λ (z : ℕ). depth_at ds z ≤ d + 5) same deep) in
      let g3 : depth_at ds (p + 3) ≡ d + 5 = along_at ds p xs 3 (p + 3) (d + 5) h refl refl in
      let g6 : depth_at ds (p + 6) ≡ d + 5 = along_at ds p xs 6 (p + 6) (d + 5) h refl refl in (
        wide_fit (names_by names temporaries steps) ds (const_step (d + 3) (k - 1)) (p) (p + 1) (c0) (d + 3) h0 refl (omega arith) (omega (arith, h1)) (omega arith) small1 tt (omega arith) (omega arith) refl refl,
        (
          wide_fit (names_by names temporaries steps) ds (const_step (d + 4) k) (p + 1) (p + 1 + 1) (c1) (d + 4) h1 refl (omega arith) (omega (arith, h2)) (omega arith) small tt (omega arith) (omega arith) refl refl,
          (
            jump_fit (names_by names temporaries steps) ds (p + 1 + 1) (p + 6) (d + 5) h2 (omega arith) (omega (arith, g6)) (omega arith),
            (
              pass_fit (names_by names temporaries steps) ds (store_step w d (d + 2)) (p + 1 + 1 + 1) (p + 1 + 1 + 1 + 1) (d + 5) h3 refl (omega arith) (omega (arith, h4)) tt (omega arith, (omega arith, tt)) (omega arith) refl refl,
              (
                wide_fit (names_by names temporaries steps) ds (binary_step d Add d (d + 4)) (p + 1 + 1 + 1 + 1) (p + 1 + 1 + 1 + 1 + 1) (d + 5) (d) h4 refl (omega arith) (omega (arith, h5)) (omega arith) tt (omega arith, (omega arith, tt)) (omega arith) (omega arith) refl refl,
                (
                  wide_fit (names_by names temporaries steps) ds (binary_step (d + 1) Subtract (d + 1) (d + 4)) (p + 1 + 1 + 1 + 1 + 1) (p + 1 + 1 + 1 + 1 + 1 + 1) (d + 5) (d + 1) h5 refl (omega arith) (omega (arith, h6)) (omega arith) tt (omega arith, (omega arith, tt)) (omega arith) (omega arith) refl refl,
                  (
                    wide_fit (names_by names temporaries steps) ds (compare_step (d + 5) Below (d + 3) (d + 1)) (p + 1 + 1 + 1 + 1 + 1 + 1) (p + 1 + 1 + 1 + 1 + 1 + 1 + 1) (d + 5) (d + 5) h6 refl (omega arith) (omega (arith, h7)) (omega arith) tt (omega arith, (omega arith, tt)) (omega arith) (omega arith) refl refl,
                    (branch_fit (names_by names temporaries steps) ds (p + 1 + 1 + 1 + 1 + 1 + 1 + 1) (p + 1 + 1 + 1 + 1 + 1 + 1 + 1 + 1) (p + 3) (d + 5) (d + 6) h7 refl (omega arith) (omega (arith, e8)) (omega arith) (omega (arith, g3)) (omega arith) (omega arith), tt),
                  ),
                ),
              ),
            ),
          ),
        ),
      )

  -- the same at another name of its place
  fit_at : (i j : ℕ) (xs : List Step) → i ≡ j → AreFit i xs → AreFit j xs
  fit_at i j xs e h = subst (λ (z : ℕ). AreFit z xs) e h

  moved_along : (i j : ℕ) (xs : List ℕ) → i ≡ j → Along ds i xs → Along ds j xs
  moved_along i j xs e h = subst (λ (z : ℕ). Along ds z xs) e h

  pub copy_fits : (p d : ℕ) → Along ds p (copy_depths d) → depth_at ds (p + 45) ≤ d → p + 45 < steps → d + 6 ≤ temporaries → AreFit p (copy_code d p)
  copy_fits p d h deep inside room =
      let low : List ℕ = piece_depths d (d + 4) (d + 5) in
      let high : List ℕ = piece_depths d (d + 6) (d + 6) in
      let tail : List ℕ = (d + 6) ∷ (d + 4) ∷ (d + 4) ∷ (low ++ high) in
      let a2 : Along ds (p + 2) (low ++ (high ++ tail)) = moved_along (p + 1 + 1) (p + 2) (low ++ (high ++ tail)) (omega arith) h.1.1 in
      let a12 : Along ds (p + 12) (high ++ tail) = moved_along (p + 2 + 10) (p + 12) (high ++ tail) (omega arith) (along_second ds (p + 2) 10 low (high ++ tail) refl a2) in
      let a22 : Along ds (p + 22) tail = moved_along (p + 12 + 10) (p + 22) tail (omega arith) (along_second ds (p + 12) 10 high tail refl a12) in
      let a25 : Along ds (p + 25) (low ++ high) = moved_along (p + 22 + 1 + 1 + 1) (p + 25) (low ++ high) (omega arith) a22.1.1.1 in
      let a35 : Along ds (p + 35) high = moved_along (p + 25 + 10) (p + 35) high (omega arith) (along_second ds (p + 25) 10 low high refl a25) in
      let d1 : depth_at ds (p + 1) ≡ d + 4 = h.1.0 in
      let d2 : depth_at ds (p + 2) ≡ d + 4 = a2.0 in
      let d2' : depth_at ds (p + 1 + 1) ≡ d + 4 = h.1.1.0 in
      let d12 : depth_at ds (p + 12) ≡ d + 6 = a12.0 in
      let d22 : depth_at ds (p + 22) ≡ d + 6 = a22.0 in
      let d23' : depth_at ds (p + 22 + 1) ≡ d + 4 = a22.1.0 in
      let d23 : depth_at ds (p + 23) ≡ d + 4 = (let e : p + 22 + 1 ≡ p + 23 = omega arith in subst (λ (z : ℕ). depth_at ds z ≡ d + 4) e d23') in
      let d24' : depth_at ds (p + 22 + 1 + 1) ≡ d + 4 = a22.1.1.0 in
      let d25 : depth_at ds (p + 25) ≡ d + 4 = a25.0 in
      let d25' : depth_at ds (p + 22 + 1 + 1 + 1) ≡ d + 4 = a22.1.1.1.0 in
      let d35 : depth_at ds (p + 35) ≡ d + 6 = a35.0 in
      let e12 : depth_at ds (p + 2 + 10) ≤ d + 6 = (let e : p + 12 ≡ p + 2 + 10 = omega arith in let k : depth_at ds (p + 12) ≤ d + 6 = omega (arith, d12) in subst (λ (z : ℕ). depth_at ds z ≤ d + 6) e k) in
      let e22 : depth_at ds (p + 12 + 10) ≤ d + 6 = (let e : p + 22 ≡ p + 12 + 10 = omega arith in let k : depth_at ds (p + 22) ≤ d + 6 = omega (arith, d22) in subst (λ (z : ℕ). depth_at ds z ≤ d + 6) e k) in
      let e35 : depth_at ds (p + 25 + 10) ≤ d + 6 = (let e : p + 35 ≡ p + 25 + 10 = omega arith in let k : depth_at ds (p + 35) ≤ d + 6 = omega (arith, d35) in subst (λ (z : ℕ). depth_at ds z ≤ d + 6) e k) in
      let e45 : depth_at ds (p + 35 + 10) ≤ d + 6 = (let e : p + 45 ≡ p + 35 + 10 = omega arith in let k : depth_at ds (p + 45) ≤ d + 6 = omega arith in subst (λ (z : ℕ). depth_at ds z ≤ d + 6) e k) in
      let u8 = up_fits (p + 2) d (d + 4) (d + 5) 8 Double (along_first ds (p + 2) low (high ++ tail) a2) (omega arith) (omega arith) (omega arith) (omega arith) (omega arith) (omega arith) (omega arith) e12 (omega arith) room in
      let u1 = up_fits (p + 12) d (d + 6) (d + 6) 1 Byte (along_first ds (p + 12) high tail a12) (omega arith) (omega arith) (omega arith) (omega arith) (omega arith) (omega arith) (omega arith) e22 (omega arith) room in
      let w8 = down_fits (p + 25) d (d + 4) (d + 5) 8 Double (along_first ds (p + 25) low high a25) (omega arith) (omega arith) (omega arith) (omega arith) (omega arith) (omega arith) (omega arith) e35 (omega arith) room in
      let w1 = down_fits (p + 35) d (d + 6) (d + 6) 1 Byte a35 (omega arith) (omega arith) (omega arith) (omega arith) (omega arith) (omega arith) (omega arith) e45 (omega arith) room in
      let back : List Step = down_code d (p + 25) Double 8 ++ down_code d (p + 35) Byte 1 in
      let turn : List Step = jump_step (p + 45) ∷ binary_step d Add d (d + 2) ∷ binary_step (d + 1) Add (d + 1) (d + 2) ∷ back in
      let back_fit : AreFit (p + 22 + 1 + 1 + 1) back =
      fit_at (p + 25) (p + 22 + 1 + 1 + 1) back (omega arith) (two_fit (down_code d (p + 25) Double 8) (down_code d (p + 35) Byte 1) (p + 25) 10 refl w8 (fit_at (p + 35) (p + 25 + 10) (down_code d (p + 35) Byte 1) (omega arith) w1)) in
      let turn_fit : AreFit (p + 22) turn = (
        jump_fit (names_by names temporaries steps) ds (p + 22) (p + 45) (d + 6) d22 (omega arith) (omega arith) (omega arith),
        (
          wide_fit (names_by names temporaries steps) ds (binary_step d Add d (d + 2)) (p + 22 + 1) (p + 22 + 1 + 1) (d + 4) d d23' refl (omega arith) (omega (arith, d24')) (omega arith) tt (omega arith, (omega arith, tt)) (omega arith) (omega arith) refl refl,
          (
            wide_fit (names_by names temporaries steps) ds (binary_step (d + 1) Add (d + 1) (d + 2)) (p + 22 + 1 + 1) (p + 22 + 1 + 1 + 1) (d + 4) (d + 1) d24' refl (omega arith) (omega (arith, d25')) (omega arith) tt (omega arith, (omega arith, tt)) (omega arith) (omega arith) refl refl,
            back_fit,
          ),
        ),
      ) in
      let ups : AreFit (p + 2) (up_code d (p + 2) Double 8 ++ (up_code d (p + 12) Byte 1 ++ turn)) =
      two_fit (up_code d (p + 2) Double 8) (up_code d (p + 12) Byte 1 ++ turn) (p + 2) 10 refl u8
      (fit_at (p + 12) (p + 2 + 10) (up_code d (p + 12) Byte 1 ++ turn) (omega arith) (two_fit (up_code d (p + 12) Byte 1) turn (p + 12) 10 refl u1 (fit_at (p + 22) (p + 12 + 10) turn (omega arith) turn_fit))) in (
        wide_fit (names_by names temporaries steps) ds (compare_step (d + 3) Below (d + 1) d) p (p + 1) (d + 3) (d + 3) h.0 refl (omega arith) (omega (arith, d1)) (omega arith) tt (omega arith, (omega arith, tt)) (omega arith) (omega arith) refl refl,
        (
          branch_fit (names_by names temporaries steps) ds (p + 1) (p + 1 + 1) (p + 23) (d + 3) (d + 4) d1 refl (omega arith) (omega (arith, d2')) (omega arith) (omega (arith, d23)) (omega arith) (omega arith),
          fit_at (p + 2) (p + 1 + 1) (up_code d (p + 2) Double 8 ++ (up_code d (p + 12) Byte 1 ++ turn)) (omega arith) ups,
        ),
      )

  pub zero_fits : (p d : ℕ) → Along ds p (zero_depths d) → depth_at ds (p + 17) ≤ d → p + 17 < steps → d + 6 ≤ temporaries → AreFit p (zero_code d p)
  zero_fits p d h deep inside room =
      let low : List ℕ = clear_depths d (d + 3) (d + 4) in
      let high : List ℕ = clear_depths d (d + 5) (d + 5) in
      let a9 : Along ds (p + 9) high = moved_along (p + 1 + 8) (p + 9) high (omega arith) (along_second ds (p + 1) 8 low high refl h.1) in
      let d1 : depth_at ds (p + 1) ≡ d + 3 = h.1.0 in
      let d9 : depth_at ds (p + 9) ≡ d + 5 = a9.0 in
      let e9 : depth_at ds (p + 1 + 8) ≤ d + 5 = (let e : p + 9 ≡ p + 1 + 8 = omega arith in let k : depth_at ds (p + 9) ≤ d + 5 = omega (arith, d9) in subst (λ (z : ℕ). depth_at ds z ≤ d + 5) e k) in
      let e17 : depth_at ds (p + 9 + 8) ≤ d + 5 = (let e : p + 17 ≡ p + 9 + 8 = omega arith in let k : depth_at ds (p + 17) ≤ d + 5 = omega arith in subst (λ (z : ℕ). depth_at ds z ≤ d + 5) e k) in
      let c8 = clear_fits (p + 1) d (d + 3) (d + 4) 8 Double (along_first ds (p + 1) low high h.1) (omega arith) (omega arith) (omega arith) (omega arith) (omega arith) (omega arith) (omega arith) e9 (omega arith) room in
      let c1 = clear_fits (p + 9) d (d + 5) (d + 5) 1 Byte a9 (omega arith) (omega arith) (omega arith) (omega arith) (omega arith) (omega arith) (omega arith) e17 (omega arith) room in (
        wide_fit (names_by names temporaries steps) ds (const_step (d + 2) 0) p (p + 1) (d + 2) (d + 2) h.0 refl (omega arith) (omega (arith, d1)) (omega arith) (omega arith) tt (omega arith) (omega arith) refl refl,
        two_fit (clear_code d (p + 1) Double 8) (clear_code d (p + 9) Byte 1) (p + 1) 8 refl c8 (fit_at (p + 9) (p + 1 + 8) (clear_code d (p + 9) Byte 1) (omega arith) c1),
      )

  -- ---- statements

  -- each loop is left to a place of its own depth
  abbrev pub AreExits : ℕ → List ℕ → Type 0
  AreExits d [] = Unit {0}
  AreExits d (x ∷ xs) = ((x < steps) × (depth_at ds x ≤ d)) × AreExits d xs

  exit_at : (d : ℕ) (xs : List ℕ) (k : ℕ) → AreExits d xs → k < length xs → (get_or xs k 0 < steps) × (depth_at ds (get_or xs k 0) ≤ d)
  exit_at d [] k h inside = absurd (omega arith)
  exit_at d (x ∷ xs) zero h inside = h.0
  exit_at d (x ∷ xs) (suc k) h inside = exit_at d xs k h.1 (omega arith)

  deep_at : (i j d : ℕ) → i ≡ j → depth_at ds i ≤ d → depth_at ds j ≤ d
  deep_at i j d e h = subst (λ (z : ℕ). depth_at ds z ≤ d) e h

  -- an operand, and what is behind it
  operand : (e : Expr) (d i : ℕ) (ys : List Step) (zs : List ℕ) → Along ds i (expr_depths d e ++ zs) → depth_at ds (i + expr_nodes e) ≤ d + 1 → i + expr_nodes e < steps → d + expr_room e ≤ temporaries → IsExpr names e →
      AreFit (i + expr_nodes e) ys → AreFit i (expr_code d e ++ ys)
  operand e d i ys zs h deep inside room is rest = two_fit (expr_code d e) ys i (expr_nodes e) (expr_length e d) (expr_fits e d i (along_first ds i (expr_depths d e) zs h) deep inside room is) rest

  behind : (e : Expr) (d i : ℕ) (zs : List ℕ) → Along ds i (expr_depths d e ++ zs) → Along ds (i + expr_nodes e) zs
  behind e d i zs h = along_second ds i (expr_nodes e) (expr_depths d e) zs (depths_length e d) h

  begins : (e : Expr) (d i : ℕ) (zs : List ℕ) → Along ds i (expr_depths d e ++ zs) → depth_at ds i ≡ d
  begins e d i zs h = expr_begins ds e d i (along_first ds i (expr_depths d e) zs h)

  stmt_begins : (s : Stmt) (d i : ℕ) → Along ds i (stmt_depths d s) → depth_at ds i ≡ d
  stmt_begins (eval value) d i h = expr_begins ds value d i h
  stmt_begins (store width to value) d i h = begins to d i (expr_depths (d + 1) value ++ ((d + 2) ∷ [])) h
  stmt_begins (copy to from size) d i h = begins to d i (expr_depths (d + 1) from ++ (expr_depths (d + 2) size ++ copy_depths d)) h
  stmt_begins (zero_bytes to size) d i h = begins to d i (expr_depths (d + 1) size ++ zero_depths d) h
  stmt_begins (choose condition first second) d i h = begins condition d i ((d + 1) ∷ (stmts_depths d second ++ (d ∷ stmts_depths d first))) h
  stmt_begins (repeat body) d i h = h.0
  stmt_begins (leave depth) d i h = h.0
  stmt_begins (answer value) d i h = begins value d i ((d + 1) ∷ []) h
  stmt_begins (check condition which place) d i h = begins condition d i ((d + 1) ∷ []) h
  stmt_begins (read to size taken) d i h = begins to d i (expr_depths (d + 1) size ++ (expr_depths (d + 2) taken ++ ((d + 3) ∷ (d + 4) ∷ []))) h
  stmt_begins (write descriptor from size) d i h = begins from d i (expr_depths (d + 1) size ++ ((d + 2) ∷ [])) h
  stmt_begins (exit code) d i h = begins code d i ((d + 1) ∷ []) h

  -- a list begins at the depth, or what is behind it does
  stmts_begin : (ss : Stmts) (d i : ℕ) (zs : List ℕ) → Along ds i (stmts_depths d ss ++ zs) → depth_at ds (i + stmts_size ss) ≤ d → depth_at ds i ≤ d
  stmts_begin finish d i zs h deep = deep_at (i + 0) i d (omega arith) deep
  stmts_begin (follow s ss) d i zs h deep = omega (arith, stmt_begins s d i (along_first ds i (stmt_depths d s) (stmts_depths d ss) (along_first ds i (stmt_depths d s ++ stmts_depths d ss) zs h)))

  pub stmts_begins : (ss : Stmts) (d i : ℕ) → Along ds i (stmts_depths d ss) → depth_at ds (i + stmts_size ss) ≤ d → depth_at ds i ≤ d
  stmts_begins finish d i h deep = deep_at (i + 0) i d (omega arith) deep
  stmts_begins (follow s ss) d i h deep = omega (arith, stmt_begins s d i (along_first ds i (stmt_depths d s) (stmts_depths d ss) h))

  mutual
    pub stmt_fits : (s : Stmt) (d : ℕ) (exits : List ℕ) (i : ℕ) → Along ds i (stmt_depths d s) → depth_at ds (i + stmt_size s) ≤ d → i + stmt_size s < steps → d + stmt_room s ≤ temporaries → d < temporaries → AreExits d exits →
        IsStmt names (length exits) s → AreFit i (stmt_code d exits i s)
    stmt_fits (eval value) d exits i h deep inside room some out is = expr_fits value d i h (omega arith) inside room is
    stmt_fits (store width to value) d exits i h deep inside room some out is =
        let x = store_step width d (d + 1) in
        let j : ℕ = i + expr_nodes to in
        let k : ℕ = j + expr_nodes value in
        let zs : List ℕ = expr_depths (d + 1) value ++ ((d + 2) ∷ []) in
        let a = behind to d i zs h in
        let b = behind value (d + 1) j ((d + 2) ∷ []) a in
        let s1 = begins value (d + 1) j ((d + 2) ∷ []) a in
        let some_v = expr_room_some value in
        let next = deep_at (i + (expr_nodes to + expr_nodes value + 1)) (k + 1) d (omega arith) deep in
        operand to d i (expr_code (d + 1) value ++ (x ∷ [])) zs h (omega (arith, s1)) (omega arith) (omega arith) is.0
        (operand value (d + 1) j (x ∷ []) ((d + 2) ∷ []) a (omega (arith, b.0)) (omega arith) (omega arith) is.1
        (alone x k (pass_fit (names_by names temporaries steps) ds x k (k + 1) (d + 2) b.0 refl (omega arith) (omega arith) tt (omega arith, (omega arith, tt)) (omega arith) refl refl)))
    stmt_fits (copy to from size) d exits i h deep inside room some out is =
        let code = copy_code d (i + expr_nodes to + expr_nodes from + expr_nodes size) in
        let j : ℕ = i + expr_nodes to in
        let k : ℕ = j + expr_nodes from in
        let l : ℕ = k + expr_nodes size in
        let z2 : List ℕ = expr_depths (d + 2) size ++ copy_depths d in
        let z1 : List ℕ = expr_depths (d + 1) from ++ z2 in
        let a = behind to d i z1 h in
        let b = behind from (d + 1) j z2 a in
        let c = behind size (d + 2) k (copy_depths d) b in
        let s1 = begins from (d + 1) j z2 a in
        let s2 = begins size (d + 2) k (copy_depths d) b in
        let next = deep_at (i + (expr_nodes to + expr_nodes from + expr_nodes size + 45)) (l + 45) d (omega arith) deep in
        operand to d i (expr_code (d + 1) from ++ (expr_code (d + 2) size ++ code)) z1 h (omega (arith, s1)) (omega arith) (omega arith) is.0
        (operand from (d + 1) j (expr_code (d + 2) size ++ code) z2 a (omega (arith, s2)) (omega arith) (omega arith) is.1.0
        (operand size (d + 2) k code (copy_depths d) b (omega (arith, c.0)) (omega arith) (omega arith) is.1.1 (copy_fits l d c next (omega arith) (omega arith))))
    stmt_fits (zero_bytes to size) d exits i h deep inside room some out is =
        let code = zero_code d (i + expr_nodes to + expr_nodes size) in
        let j : ℕ = i + expr_nodes to in
        let k : ℕ = j + expr_nodes size in
        let z1 : List ℕ = expr_depths (d + 1) size ++ zero_depths d in
        let a = behind to d i z1 h in
        let b = behind size (d + 1) j (zero_depths d) a in
        let s1 = begins size (d + 1) j (zero_depths d) a in
        let next = deep_at (i + (expr_nodes to + expr_nodes size + 17)) (k + 17) d (omega arith) deep in
        operand to d i (expr_code (d + 1) size ++ code) z1 h (omega (arith, s1)) (omega arith) (omega arith) is.0
        (operand size (d + 1) j code (zero_depths d) a (omega (arith, b.0)) (omega arith) (omega arith) is.1 (zero_fits k d b next (omega arith) (omega arith)))
    stmt_fits (choose condition first second) d exits i h deep inside room some out is =
        let other : ℕ = i + expr_nodes condition + 1 in
        let begin : ℕ = other + stmts_size second + 1 in
        let end : ℕ = begin + stmts_size first in
        let q : ℕ = i + expr_nodes condition in
        let z2 : List ℕ = d ∷ stmts_depths d first in
        let z1 : List ℕ = (d + 1) ∷ (stmts_depths d second ++ z2) in
        let a = behind condition d i z1 h in
        let jump : ℕ = other + stmts_size second in
        let b : Along ds jump z2 = along_second ds other (stmts_size second) (stmts_depths d second) z2 (stmts_depths_length second d) a.1 in
        let end_deep : depth_at ds end ≤ d = deep_at (i + (expr_nodes condition + stmts_size first + stmts_size second + 2)) end d (omega arith) deep in
        let jump_deep : depth_at ds jump ≤ d = omega (arith, b.0) in
        let other_deep : depth_at ds other ≤ d = stmts_begin second d other z2 a.1 jump_deep in
        let first_along : Along ds begin (stmts_depths d first) = b.1 in
        let begin_deep : depth_at ds begin ≤ d = stmts_begins first d begin first_along end_deep in
        let tail : List Step = jump_step end ∷ stmts_code d exits begin first in
        let some_c = expr_room_some condition in
        operand condition d i (branch_step d begin ∷ (stmts_code d exits other second ++ tail)) z1 h (omega (arith, a.0)) (omega arith) (omega arith) is.0 (
          branch_fit (names_by names temporaries steps) ds q (q + 1) begin d (d + 1) a.0 refl (omega arith) (omega (arith, other_deep)) (omega arith) (omega (arith, begin_deep)) (omega arith) (omega arith),
          two_fit (stmts_code d exits other second) tail other (stmts_size second) (stmts_length second d exits other)
              (stmts_fits second d exits other (along_first ds other (stmts_depths d second) z2 a.1) jump_deep (omega arith) (omega arith) some out is.1.1)
              (jump_fit (names_by names temporaries steps) ds jump end d b.0 (omega arith) end_deep (omega arith), stmts_fits first d exits begin first_along end_deep (omega arith) (omega arith) some out is.1.0),
        )
    stmt_fits (repeat body) d exits i h deep inside room some out is =
        let begin : ℕ = i + 1 in
        let end : ℕ = begin + stmts_size body + 1 in
        let jump : ℕ = begin + stmts_size body in
        let b : Along ds jump (d ∷ []) = along_second ds begin (stmts_size body) (stmts_depths d body) (d ∷ []) (stmts_depths_length body d) h.1 in
        let end_deep : depth_at ds end ≤ d = deep_at (i + (stmts_size body + 2)) end d (omega arith) deep in
        let jump_deep : depth_at ds jump ≤ d = omega (arith, b.0) in
        let begin_deep : depth_at ds begin ≤ d = stmts_begin body d begin (d ∷ []) h.1 jump_deep in
        let inside_end : end < steps = omega arith in (
          jump_fit (names_by names temporaries steps) ds i begin d h.0 (omega arith) begin_deep (omega arith),
          two_fit (stmts_code d (end ∷ exits) begin body) (jump_step begin ∷ []) begin (stmts_size body) (stmts_length body d (end ∷ exits) begin)
              (stmts_fits body d (end ∷ exits) begin (along_first ds begin (stmts_depths d body) (d ∷ []) h.1) jump_deep (omega arith) room some ((inside_end, end_deep), out) is)
              (alone (jump_step begin) jump (jump_fit (names_by names temporaries steps) ds jump begin d b.0 (omega arith) begin_deep (omega arith))),
        )
    stmt_fits (leave depth) d exits i h deep inside room some out is =
        let there = exit_at d exits depth out is in
        alone (jump_step (get_or exits depth 0)) i (jump_fit (names_by names temporaries steps) ds i (get_or exits depth 0) d h.0 there.0 there.1 (omega arith))
    stmt_fits (answer value) d exits i h deep inside room some out is =
        let x = return_step d in
        let j : ℕ = i + expr_nodes value in
        let a = behind value d i ((d + 1) ∷ []) h in
        operand value d i (x ∷ []) ((d + 1) ∷ []) h (omega (arith, a.0)) (omega arith) room is
        (alone x j (flow_fit (names_by names temporaries steps) ds x j (d + 1) a.0 tt (omega arith, tt) (omega arith) refl tt))
    stmt_fits (check condition which place) d exits i h deep inside room some out is =
        let x = check_step d which place in
        let j : ℕ = i + expr_nodes condition in
        let a = behind condition d i ((d + 1) ∷ []) h in
        let next = deep_at (i + (expr_nodes condition + 1)) (j + 1) d (omega arith) deep in
        operand condition d i (x ∷ []) ((d + 1) ∷ []) h (omega (arith, a.0)) (omega arith) room is
        (alone x j (pass_fit (names_by names temporaries steps) ds x j (j + 1) (d + 1) a.0 refl (omega arith) (omega arith) tt (omega arith, tt) (omega arith) refl refl))
    stmt_fits (read to size taken) d exits i h deep inside room some out is =
        let x = system_step (Read (d + 3) d (d + 1)) in
        let y = store_step Double (d + 2) (d + 3) in
        let j : ℕ = i + expr_nodes to in
        let k : ℕ = j + expr_nodes size in
        let l : ℕ = k + expr_nodes taken in
        let z3 : List ℕ = (d + 3) ∷ (d + 4) ∷ [] in
        let z2 : List ℕ = expr_depths (d + 2) taken ++ z3 in
        let z1 : List ℕ = expr_depths (d + 1) size ++ z2 in
        let a = behind to d i z1 h in
        let b = behind size (d + 1) j z2 a in
        let c = behind taken (d + 2) k z3 b in
        let s1 = begins size (d + 1) j z2 a in
        let s2 = begins taken (d + 2) k z3 b in
        let next = deep_at (i + (expr_nodes to + expr_nodes size + expr_nodes taken + 2)) (l + 1 + 1) d (omega arith) deep in
        operand to d i (expr_code (d + 1) size ++ (expr_code (d + 2) taken ++ (x ∷ y ∷ []))) z1 h (omega (arith, s1)) (omega arith) (omega arith) is.0
        (operand size (d + 1) j (expr_code (d + 2) taken ++ (x ∷ y ∷ [])) z2 a (omega (arith, s2)) (omega arith) (omega arith) is.1.0
        (operand taken (d + 2) k (x ∷ y ∷ []) z3 b (omega (arith, c.0)) (omega arith) (omega arith) is.1.1 (
          wide_fit (names_by names temporaries steps) ds x l (l + 1) (d + 3) (d + 3) c.0 refl (omega arith) (omega (arith, c.1.0)) (omega arith) tt (omega arith, (omega arith, tt)) (omega arith) (omega arith) refl refl,
          (pass_fit (names_by names temporaries steps) ds y (l + 1) (l + 1 + 1) (d + 4) c.1.0 refl (omega arith) (omega arith) tt (omega arith, (omega arith, tt)) (omega arith) refl refl, tt),
        )))
    stmt_fits (write descriptor from size) d exits i h deep inside room some out is =
        let x = system_step (Write descriptor d (d + 1)) in
        let j : ℕ = i + expr_nodes from in
        let k : ℕ = j + expr_nodes size in
        let zs : List ℕ = expr_depths (d + 1) size ++ ((d + 2) ∷ []) in
        let a = behind from d i zs h in
        let b = behind size (d + 1) j ((d + 2) ∷ []) a in
        let s1 = begins size (d + 1) j ((d + 2) ∷ []) a in
        let some_v = expr_room_some size in
        let next = deep_at (i + (expr_nodes from + expr_nodes size + 1)) (k + 1) d (omega arith) deep in
        operand from d i (expr_code (d + 1) size ++ (x ∷ [])) zs h (omega (arith, s1)) (omega arith) (omega arith) is.0
        (operand size (d + 1) j (x ∷ []) ((d + 2) ∷ []) a (omega (arith, b.0)) (omega arith) (omega arith) is.1
        (alone x k (pass_fit (names_by names temporaries steps) ds x k (k + 1) (d + 2) b.0 refl (omega arith) (omega arith) tt (omega arith, (omega arith, tt)) (omega arith) refl refl)))
    stmt_fits (exit code) d exits i h deep inside room some out is =
        let x = system_step (Exit d) in
        let j : ℕ = i + expr_nodes code in
        let a = behind code d i ((d + 1) ∷ []) h in
        operand code d i (x ∷ []) ((d + 1) ∷ []) h (omega (arith, a.0)) (omega arith) room is
        (alone x j (flow_fit (names_by names temporaries steps) ds x j (d + 1) a.0 tt (omega arith, tt) (omega arith) refl tt))

    pub stmts_fits : (ss : Stmts) (d : ℕ) (exits : List ℕ) (i : ℕ) → Along ds i (stmts_depths d ss) → depth_at ds (i + stmts_size ss) ≤ d → i + stmts_size ss < steps → d + stmts_room ss ≤ temporaries → d < temporaries → AreExits d exits →
        AreStmts names (length exits) ss → AreFit i (stmts_code d exits i ss)
    stmts_fits finish d exits i h deep inside room some out is = tt
    stmts_fits (follow s ss) d exits i h deep inside room some out is =
        let j : ℕ = i + stmt_size s in
        let b = along_second ds i (stmt_size s) (stmt_depths d s) (stmts_depths d ss) (stmt_depths_length s d) h in
        let end_deep : depth_at ds (j + stmts_size ss) ≤ d = deep_at (i + (stmt_size s + stmts_size ss)) (j + stmts_size ss) d (omega arith) deep in
        let next : depth_at ds j ≤ d = stmts_begins ss d j b end_deep in
        two_fit (stmt_code d exits i s) (stmts_code d exits j ss) i (stmt_size s) (stmt_length s d exits i)
        (stmt_fits s d exits i (along_first ds i (stmt_depths d s) (stmts_depths d ss) h) next (omega arith) (omega arith) some out is.0)
        (stmts_fits ss d exits j b end_deep (omega arith) (omega arith) some out is.1)

  -- ---- parameters

  parameters_begin : (d n i : ℕ) → Along ds i (parameters_depths d n) → depth_at ds (i + 2 * n) ≤ d → depth_at ds i ≤ d
  parameters_begin d zero i h deep = deep_at (i + 0) i d (omega arith) deep
  parameters_begin d (suc n) i h deep = omega (arith, h.0)

  pub parameters_fits : (d k n i : ℕ) → Along ds i (parameters_depths d n) → depth_at ds (i + 2 * n) ≤ d → i + 2 * n < steps → d < temporaries → k + n ≤ names.variables → k + n ≤ d → AreFit i (parameters_code d k n)
  parameters_fits d k zero i h deep inside some variables low = tt
  parameters_fits d k (suc n) i h deep inside some variables low =
      let x = address_step d (Variable k) in
      let y = store_step Double d k in
      let end_deep = deep_at (i + 2 * suc n) (i + 1 + 1 + 2 * n) d (omega arith) deep in
      let next = parameters_begin d n (i + 1 + 1) h.1.1 end_deep in (
        set_fit (names_by names temporaries steps) ds x i (i + 1) d d h.0 refl (omega arith) (omega (arith, h.1.0)) (omega arith) (omega arith) tt (omega arith) some refl refl,
        (
          pass_fit (names_by names temporaries steps) ds y (i + 1) (i + 1 + 1) (d + 1) h.1.0 refl (omega arith) (omega arith) tt (omega arith, (omega arith, tt)) (omega arith) refl refl,
          parameters_fits d (k + 1) n (i + 1 + 1) h.1.1 end_deep (omega arith) some (omega arith) (omega arith),
        ),
      )

  -- the first position has the depth of the parameters at most
  pub first_low : (d : ℕ) (ss : Stmts) (n : ℕ) → Along ds 0 (parameters_depths d n) → Along ds (2 * n) (stmts_depths d ss) → depth_at ds (2 * n + stmts_size ss) ≤ d → depth_at ds 0 ≤ d
  first_low d ss n h g deep = let e : 2 * n ≡ 0 + 2 * n = omega arith in parameters_begin d n 0 h (deep_at (2 * n) (0 + 2 * n) d e (stmts_begins ss d (2 * n) g deep))

  -- what ends a procedure
  pub end_fits : (d i : ℕ) → Along ds i (d ∷ (d + 1) ∷ []) → i + 1 < steps → d < temporaries → AreFit i (const_step d 0 ∷ return_step d ∷ [])
  end_fits d i h inside some = (
    set_fit (names_by names temporaries steps) ds (const_step d 0) i (i + 1) d d h.0 refl inside (omega (arith, h.1.0)) (omega arith) (omega arith) tt (omega arith) some refl refl,
    (flow_fit (names_by names temporaries steps) ds (return_step d) (i + 1) (d + 1) h.1.0 tt (omega arith, tt) (omega arith) refl tt, tt),
  )
