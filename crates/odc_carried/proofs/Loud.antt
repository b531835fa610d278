-- Operations whose operands hold calls or checks.
use Rattle.std.proofs.Common.{◌≡◌, ℕ, ◌+◌, ◌*◌, ◌^◌, ◌<◌, ◌≤◌, Bool, true, false, arith, ap, ◌∙◌, sym, subst, refl}
use Rattle.std.specs.Prelude.{ℤ, ◌==◌, if◌then◌else◌}
use Rattle.std.specs.Int.{w64, cast_signed}
use Rattle.odc_text.specs.declared.place.Place.{Place}
use Rattle.odc_text.specs.declared.check.Check.TheVariants as check
use Rattle.odc_text.specs.Run.{checked}
use Rattle.odc_program.specs.declared.ops.BinaryOp.{BinaryOp}
use Rattle.odc_program.specs.States.Bytes.{Value, int_of}
use Rattle.odc_program.specs.States.Run.{Res, ok, stop, then_by}
use Rattle.odc_program.specs.States.State.{State, Leave, ends, Do, known, Base}
use Rattle.odc_program.specs.Kinds.Operators.{calculate}
use Rattle.odc_core.specs.Tree.{Expr as CoreExpr, check as checks, Stmts, follow}
use Rattle.odc_core.specs.Run.{Flow, falls, after, pure, spend, ◌>>=◌}
use Rattle.odc_core.specs.Run.{Res as CoreRes, stop as halt, then_by as onto}
use Rattle.odc_carried.specs.Carried.{is_quotient}
use Rattle.odc_carried.specs.Code.{join, one, waits, wait, binary_code}
use Rattle.odc_carried.specs.Tied.{Tied, Site, o}
use Rattle.odc_carried.proofs.Runs.{Face, at as standing, Fueled, Runs, runs_pure, runs_then, runs_node}
use Rattle.odc_carried.proofs.Sims.{rate, Told, Sim, sim_first, sim_later, sim_richer, sim_result}
use Rattle.odc_carried.proofs.Values.{Val, val_int}
use Rattle.odc_carried.proofs.Ties.{Facts}
use Rattle.odc_carried.proofs.Frame.{WordAt, ev, ex1, ex}
use Rattle.odc_carried.proofs.Quiet.{Quiet, costing, Evaluated, IsDivisor}
use Rattle.odc_carried.proofs.Operators.{Operator, stops_at_zero}
use Rattle.odc_carried.proofs.Codes.{join_assoc, Ready, Alike, alike_same, alike_on, ready_cost, waited, slot, waited_ready, waited_alike, waited_there, quiet_waits, still_waits, step_wait, rejoin, step_eval, step_known, Codes}

pub assoc4 : {A B C D E : Type 0} (r : Res Leave State A) (F : A → Do B) (G : B → Do C) (H : C → Do D) (K : D → Do E) → then_by (then_by (then_by (then_by r F) G) H) K ≡ then_by r (λ v. (λ t. then_by (then_by (then_by (F v t) G) H) K))
assoc4 (ok v t) F G H K = refl
assoc4 (stop e t) F G H K = refl

module _ (S : Site) (F : Facts S) where
  -- ---- the operation on two integers that are there
  module _ {A : Type 0} (Q : A → State → Flow → Face → Type 0) (j b g : ℕ) (Is2 Is3 : Value → ℕ → Type 0) (o1 : BinaryOp) (at : Place) (X : Operator S Is2 Is3 o1 at) (opr : Value → Value → Do Value)
      (oper : (v w : Value) (u : State) → opr v w u ≡ then_by (known at (int_of true 8 v) u) (λ y. (λ u1. then_by (known at (int_of true 8 w) u1) (λ z. calculate at o1 8 y z)))) (G : Value → Do Base) (H : Base → Do Value)
      (read : (v : Value) (w : ℕ) (u : State) → Is3 v w → then_by (then_by (let r : Res Leave State Value = ok v u in r) G) H ≡ ok v u) where
    pub step_op : (act : Fueled Flow) (u : State) (h : Face) (f : Value → Do A) (v w : Value) (a b' : ℕ) → Told S.entries u h → Val S.entries 8 v a → Is2 w b' →
        Sim S.entries Q j b g act (costing u (u.cost + X.k)) h (f (X.res a b') (costing u (u.cost + X.k))) → Sim S.entries Q j b g act u h (then_by (then_by (then_by (opr v w u) G) H) f)
    step_op act u h f v w a b' told isv isw sim =
        sim_result S.entries (ap (λ (q : Res Leave State Value). then_by (then_by (then_by q G) H) f) (oper v w u) ∙ assoc4 (known at (int_of true 8 v) u) (λ y. (λ u1. then_by (known at (int_of true 8 w) u1) (λ z. calculate at o1 8 y z))) G H f)
        (step_known S F Q j b g act at (int_of true 8 v) u h (λ y. (λ u1. then_by (then_by (then_by (then_by (known at (int_of true 8 w) u1) (λ z. calculate at o1 8 y z)) G) H) f)) told
        (λ yz ey.
        sim_result S.entries (assoc4 (known at (int_of true 8 w) u) (λ z. calculate at o1 8 yz z) G H f)
        (step_known S F Q j b g act at (int_of true 8 w) u h (λ z. (λ u1. then_by (then_by (then_by (calculate at o1 8 yz z u1) G) H) f)) told
        (λ zz ez.
        let left : yz ≡ cast_signed w64 a = val_int S.entries v a yz isv ey in
        let right : zz ≡ cast_signed w64 b' = val_int S.entries w b' zz (X.val2 w b' isw) ez in
        let small : b' < 2 ^ 64 = (X.val2 w b' isw).small in
        let u' : State = costing u (u.cost + X.k) in
        sim_result S.entries
        (ap (λ (q : ℤ). then_by (then_by (then_by (calculate at o1 8 q zz u) G) H) f) left
        ∙ ap (λ (q : ℤ). then_by (then_by (then_by (calculate at o1 8 (cast_signed w64 a) q u) G) H) f) right
        ∙ ap (λ (q : Res Leave State Value). then_by (then_by (then_by q G) H) f) (X.law a b' w isv.small small isw u)
        ∙ ap (λ (q : Res Leave State Value). then_by q f) (read (X.res a b') (X.fw a b') u' (X.good a b' isv.small small)))
        (sim_later S.entries Q j b g 0 act u u' h refl (omega arith) (f (X.res a b') u')
        (sim_richer S.entries Q j b (b + rate * 0) g act u' h (f (X.res a b') u') (omega arith) sim))))))

  -- ---- both operands in one expression: the right one changes nothing
  module _ (Is2 Is3 : Value → ℕ → Type 0) (o1 : BinaryOp) (at : Place) (X : Operator S Is2 Is3 o1 at) (opr : Value → Value → Do Value)
      (oper : (v w : Value) (u : State) → opr v w u ≡ then_by (known at (int_of true 8 v) u) (λ y. (λ u1. then_by (known at (int_of true 8 w) u1) (λ z. calculate at o1 8 y z)))) (G : Value → Do Base) (H : Base → Do Value)
      (read : (v : Value) (w : ℕ) (u : State) → Is3 v w → then_by (then_by (let r : Res Leave State Value = ok v u in r) G) H ≡ ok v u)
      (m m1 m2 : Do Value) (is : (s : State) → m s ≡ then_by (then_by (then_by (m1 (costing s (s.cost + 1))) (λ v. (λ t. then_by (m2 t) (λ w. opr v w)))) G) H) where
    pub nested_codes : (a : Stmts) (x y : CoreExpr) (d : ℕ) → Codes S F (Val S.entries 8) a x d m1 → ((s : State) (h : Face) → Tied S.entries s.memory h.memory → Evaluated S Is2 y s h (m2 s)) → Codes S F Is3 a (binary_code o1 x y) d m
    nested_codes a x y d left right = record {
      by = λ tail Q j b g s h f ready k.
          let s1 : State = costing s (s.cost + 1) in
          let act : Fueled Flow = ex S (join a tail) in
          let body : Value → Do _ = λ v. (λ t. then_by (then_by (then_by (then_by (m2 t) (λ w. opr v w)) G) H) f) in
          sim_result S.entries (ap (λ (q : Res Leave State Value). then_by q f) (is s) ∙ assoc4 (m1 s1) (λ v. (λ t. then_by (m2 t) (λ w. opr v w))) G H f)
          (sim_later S.entries Q j b g 1 act s s1 h refl (omega arith) (then_by (m1 s1) body)
          (left.by tail Q j (b + rate * 1) g s1 h body (ready_cost S F s h (s.cost + 1) ready)
          (λ v t a1 L h' isv qx ready' alike fewer.
          sim_result S.entries (assoc4 (m2 t) (λ w. opr v w) G H f)
          (step_eval S F Q j (b + rate * 1 + (L + 8)) g (ex S tail) t h' (m2 t) (λ w. (λ t1. then_by (then_by (then_by (opr v w t1) G) H) f)) ready'.told (right t h' ready'.now.tied)
          (λ w b1 cost paid enough some isw qy.
          let u : State = costing t cost in
          let u' : State = costing u (u.cost + X.k) in
          let small : b1 < 2 ^ 64 = qy.small in
          step_op Q j (b + rate * 1 + (L + 8) + rate * paid) g Is2 Is3 o1 at X opr oper G H read (ex S tail) u h' f v w a1 b1 (ready_cost S F t h' cost ready').told isv isw
          (sim_richer S.entries Q j (b + (L + 2 * paid + X.q + 8)) (b + rate * 1 + (L + 8) + rate * paid) g (ex S tail) u' h' (f (X.res a1 b1) u') (omega (arith, X.fits))
          (k (X.res a1 b1) u' (X.fw a1 b1) (L + 2 * paid + X.q) h' (X.good a1 b1 isv.small small) (X.quiet x y h' a1 b1 L (2 * paid) isv.small small qx qy) (ready_cost S F u h' (u.cost + X.k) (ready_cost S F t h' cost ready')) alike fewer)))))));
    }

    -- ---- the left one waits
    pub waiting_codes : (a b2 : Stmts) (x y : CoreExpr) (d : ℕ) → d < (o S).waiting → Codes S F (Val S.entries 8) a x d m1 → Codes S F Is2 b2 y (d + 1) m2 → Codes S F Is3 (join a (follow (wait (o S) d x) b2)) (binary_code o1 (waits (o S) d) y) d m
    waiting_codes a b2 x y d inside left right = record {
      by = λ tail Q j b g s h f ready k.
          let s1 : State = costing s (s.cost + 1) in
          let rest : Stmts = follow (wait (o S) d x) (join b2 tail) in
          let body : Value → Do _ = λ v. (λ t. then_by (then_by (then_by (then_by (m2 t) (λ w. opr v w)) G) H) f) in
          rejoin S F Q j b g (join (join a (follow (wait (o S) d x) b2)) tail) (join a rest) s h (then_by (m s) f) (join_assoc a (follow (wait (o S) d x) b2) tail)
          (sim_result S.entries (ap (λ (q : Res Leave State Value). then_by q f) (is s) ∙ assoc4 (m1 s1) (λ v. (λ t. then_by (m2 t) (λ w. opr v w))) G H f)
          (sim_later S.entries Q j b g 1 (ex S (join a rest)) s s1 h refl (omega arith) (then_by (m1 s1) body)
          (left.by rest Q j (b + rate * 1) g s1 h body (ready_cost S F s h (s.cost + 1) ready)
          (λ v t a1 L h' isv qx ready' alike fewer.
          let h1 : Face = waited S F d a1 h' in
          let r : Res Leave State _ = body v t in
          sim_richer S.entries Q j (b + rate * 1 + 5 + (L + 3)) (b + rate * 1 + (L + 8)) g (ex S rest) t h' r (omega arith)
          (step_wait S F Q j (b + rate * 1 + 5) g d a1 L x (join b2 tail) t h' r inside qx
          (sim_result S.entries (assoc4 (m2 t) (λ w. opr v w) G H f)
          (right.by tail Q j (b + rate * 1 + 5) g t h1 (λ w. (λ t1. then_by (then_by (then_by (opr v w t1) G) H) f)) (waited_ready S F d a1 inside t h' ready')
          (λ w t' b1 M h'' isw qy ready'' alike'' fewer''.
          let u' : State = costing t' (t'.cost + X.k) in
          let small : b1 < 2 ^ 64 = qy.small in
          let there : WordAt h''.memory (slot S F d) a1 = still_waits S F d (d + 1) a1 h1 h'' (omega arith) alike'' (waited_there S F d a1 inside t h' ready') in
          step_op Q j (b + rate * 1 + 5 + (M + 8)) g Is2 Is3 o1 at X opr oper G H read (ex S tail) t' h'' f v w a1 b1 ready''.told isv isw
          (sim_richer S.entries Q j (b + (3 + M + X.q + 8)) (b + rate * 1 + 5 + (M + 8)) g (ex S tail) u' h'' (f (X.res a1 b1) u') (omega (arith, X.fits))
          (k (X.res a1 b1) u' (X.fw a1 b1) (3 + M + X.q) h'' (X.good a1 b1 isv.small small) (X.quiet (waits (o S) d) y h'' a1 b1 3 M isv.small small (quiet_waits S F d a1 h'' inside isv.small there) qy)
          (ready_cost S F t' h'' (t'.cost + X.k) ready'') (alike_on S F d d h h' h'' (omega arith) alike (alike_on S F d (d + 1) h' h1 h'' (omega arith) (waited_alike S F d a1 inside t h' ready') alike'')) (omega (arith, fewer, fewer''))))))))))));
    }

  -- ---- checks
  module _ {A : Type 0} (Q : A → State → Flow → Face → Type 0) (j b g : ℕ) (at : Place) (e : CoreExpr) (tail : Stmts) (s : State) (h : Face) (w L : ℕ) (q : Quiet S e h w L) where
    pub step_check : (r : Res Leave State A) → (w == 0) ≡ false → Sim S.entries Q j b g (ex S tail) s h r → Sim S.entries Q j (b + (L + 1)) g (ex S (follow (checks e check.Division at) tail)) s h r
    step_check r z sim =
        let P : Bool → Type 0 = λ t. Runs j (λ i. if t then (λ c. halt (checked check.Division at) c) else pure falls) h 0 0 falls h in
        sim_first S.entries Q j (b + (L + 1)) b g (ex1 S (checks e check.Division at)) (λ flow n. after flow (ex S tail n)) s h h refl refl refl r (q.budget + 0 + 1) (q.cost + 0 + 1) falls
        (runs_node (λ i. ev S e i >>= (λ x. if x == 0 then (λ c. halt (checked check.Division at) c) else pure falls))
        (runs_then (ev S e) (λ x i. if x == 0 then (λ c. halt (checked check.Division at) c) else pure falls) (q.runs j) (subst P (sym z) (runs_pure j falls h)))) (omega (arith, q.cheap)) sim

    pub check_stops : (w == 0) ≡ true → L ≤ b → Told S.entries s h → Sim S.entries Q j b g (ex S (follow (checks e check.Division at) tail)) s h (stop (ends (checked check.Division at)) s)
    check_stops z enough told = record {
      by = record {
        face = h;
        budget = q.budget;
        cost = q.cost;
        is = λ n k c le.
            ap (λ (r : CoreRes ℕ). onto (onto (onto r (λ x. if x == 0 then (λ s. halt (checked check.Division at) s) else pure falls)) (λ f. spend (pure f))) (λ f. after f (ex S tail n))) ((q.runs j).is n k c le)
            ∙ ap (λ (t : Bool). onto (onto ((if t then (λ s. halt (checked check.Division at) s) else pure falls) (standing h k (c + q.cost))) (λ f. spend (pure f))) (λ f. after f (ex S tail n))) z;
        told = told;
        cheap = omega (arith, q.cheap);
      };
    }

  module _ (Is3 : Value → ℕ → Type 0) (o1 : BinaryOp) (quotient : is_quotient o1 ≡ true) (at : Place) (X : Operator S (IsDivisor S) Is3 o1 at) (opr : Value → Value → Do Value)
      (oper : (v w : Value) (u : State) → opr v w u ≡ then_by (known at (int_of true 8 v) u) (λ y. (λ u1. then_by (known at (int_of true 8 w) u1) (λ z. calculate at o1 8 y z)))) (G : Value → Do Base) (H : Base → Do Value)
      (read : (v : Value) (w : ℕ) (u : State) → Is3 v w → then_by (then_by (let r : Res Leave State Value = ok v u in r) G) H ≡ ok v u)
      (m m1 m2 : Do Value) (is : (s : State) → m s ≡ then_by (then_by (then_by (m1 (costing s (s.cost + 1))) (λ v. (λ t. then_by (m2 t) (λ w. opr v w)))) G) H) where
    -- behind the operands, which both wait
    module _ {A : Type 0} (Q : A → State → Flow → Face → Type 0) (j b g : ℕ) (e e2 : CoreExpr) (tail : Stmts) (f : Value → Do A) (u : State) (h : Face) (v w : Value) (a1 b1 : ℕ) (told : Told S.entries u h) (isv : Val S.entries 8 v a1) (isw : Val S.entries 8 w b1)
        (q : Quiet S e h b1 3) (sim : (b1 == 0) ≡ false → Sim S.entries Q j (b + 19) g (ex S tail) (costing u (u.cost + X.k)) h (f (X.res a1 b1) (costing u (u.cost + X.k)))) where
      pub check_then : Sim S.entries Q j (b + 23) g (ex S (follow (checks e check.Division at) tail)) u h (then_by (then_by (then_by (opr v w u) G) H) f)
      check_then = by (b1 == 0) refl
        where
          by : (t : Bool) → (b1 == 0) ≡ t → Sim S.entries Q j (b + 23) g (ex S (follow (checks e check.Division at) tail)) u h (then_by (then_by (then_by (opr v w u) G) H) f)
          by false z =
              sim_richer S.entries Q j (b + 19 + (3 + 1)) (b + 23) g (ex S (follow (checks e check.Division at) tail)) u h (then_by (then_by (then_by (opr v w u) G) H) f) (omega arith)
              (step_check Q j (b + 19) g at e tail u h b1 3 q (then_by (then_by (then_by (opr v w u) G) H) f) z
              (step_op Q j (b + 19) g (IsDivisor S) Is3 o1 at X opr oper G H read (ex S tail) u h f v w a1 b1 told isv (record { val = isw; some = z }) (sim z)))
          by true z =
              let act : Fueled Flow = ex S (follow (checks e check.Division at) tail) in
              sim_result S.entries (ap (λ (q : Res Leave State Value). then_by (then_by (then_by q G) H) f) (oper v w u) ∙ assoc4 (known at (int_of true 8 v) u) (λ y. (λ u1. then_by (known at (int_of true 8 w) u1) (λ z. calculate at o1 8 y z))) G H f)
              (step_known S F Q j (b + 23) g act at (int_of true 8 v) u h (λ y. (λ u1. then_by (then_by (then_by (then_by (known at (int_of true 8 w) u1) (λ z. calculate at o1 8 y z)) G) H) f)) told
              (λ yz ey.
              sim_result S.entries (assoc4 (known at (int_of true 8 w) u) (λ z. calculate at o1 8 yz z) G H f)
              (step_known S F Q j (b + 23) g act at (int_of true 8 w) u h (λ z. (λ u1. then_by (then_by (then_by (calculate at o1 8 yz z u1) G) H) f)) told
              (λ zz ez.
              let right : zz ≡ cast_signed w64 b1 = val_int S.entries w b1 zz isw ez in
              sim_result S.entries
              (ap (λ (q : ℤ). then_by (then_by (then_by (calculate at o1 8 yz q u) G) H) f) right
              ∙ ap (λ (q : Res Leave State Value). then_by (then_by (then_by q G) H) f) (stops_at_zero S at o1 quotient yz b1 u isw.small z))
              (check_stops Q j (b + 23) g at e tail u h b1 3 q z (omega arith) told)))))

    pub checking_codes : (a b2 : Stmts) (x y : CoreExpr) (d : ℕ) → d + 1 < (o S).waiting → Codes S F (Val S.entries 8) a x d m1 → Codes S F (Val S.entries 8) b2 y (d + 1) m2 →
        Codes S F Is3 (join a (follow (wait (o S) d x) (join b2 (follow (wait (o S) (d + 1) y) (one (checks (waits (o S) (d + 1)) check.Division at)))))) (binary_code o1 (waits (o S) d) (waits (o S) (d + 1))) d m
    checking_codes a b2 x y d inside left right = record {
      by = λ tail Q j b g s h f ready k.
          let s1 : State = costing s (s.cost + 1) in
          let first : d < (o S).waiting = omega arith in
          let last : Stmts = one (checks (waits (o S) (d + 1)) check.Division at) in
          let end : Stmts = follow (checks (waits (o S) (d + 1)) check.Division at) tail in
          let rest2 : Stmts = follow (wait (o S) (d + 1) y) end in
          let rest : Stmts = follow (wait (o S) d x) (join b2 rest2) in
          let body : Value → Do _ = λ v. (λ t. then_by (then_by (then_by (then_by (m2 t) (λ w. opr v w)) G) H) f) in
          let all : Stmts = join a (follow (wait (o S) d x) (join b2 (follow (wait (o S) (d + 1) y) last))) in
          rejoin S F Q j b g (join all tail) (join a rest) s h (then_by (m s) f)
          (join_assoc a (follow (wait (o S) d x) (join b2 (follow (wait (o S) (d + 1) y) last))) tail ∙ ap (λ (z : Stmts). join a (follow (wait (o S) d x) z)) (join_assoc b2 (follow (wait (o S) (d + 1) y) last) tail))
          (sim_result S.entries (ap (λ (q : Res Leave State Value). then_by q f) (is s) ∙ assoc4 (m1 s1) (λ v. (λ t. then_by (m2 t) (λ w. opr v w))) G H f)
          (sim_later S.entries Q j b g 1 (ex S (join a rest)) s s1 h refl (omega arith) (then_by (m1 s1) body)
          (left.by rest Q j (b + rate * 1) g s1 h body (ready_cost S F s h (s.cost + 1) ready)
          (λ v t a1 L h' isv qx ready' alike fewer.
          let h1 : Face = waited S F d a1 h' in
          sim_richer S.entries Q j (b + rate * 1 + (L + 3)) (b + rate * 1 + (L + 8)) g (ex S rest) t h' (body v t) (omega arith)
          (step_wait S F Q j (b + rate * 1) g d a1 L x (join b2 rest2) t h' (body v t) first qx
          (sim_result S.entries (assoc4 (m2 t) (λ w. opr v w) G H f)
          (right.by rest2 Q j (b + rate * 1) g t h1 (λ w. (λ t1. then_by (then_by (then_by (opr v w t1) G) H) f)) (waited_ready S F d a1 first t h' ready')
          (λ w t' b1 M h'' isw qy ready'' alike'' fewer''.
          let h2 : Face = waited S F (d + 1) b1 h'' in
          let u' : State = costing t' (t'.cost + X.k) in
          let small : b1 < 2 ^ 64 = qy.small in
          let ready2 : Ready S F t' h2 = waited_ready S F (d + 1) b1 inside t' h'' ready'' in
          let alike2 : Alike S F (d + 1) h'' h2 = waited_alike S F (d + 1) b1 inside t' h'' ready'' in
          let there1 : WordAt h''.memory (slot S F d) a1 = still_waits S F d (d + 1) a1 h1 h'' (omega arith) alike'' (waited_there S F d a1 first t h' ready') in
          let there : WordAt h2.memory (slot S F d) a1 = still_waits S F d (d + 1) a1 h'' h2 (omega arith) alike2 there1 in
          let q1 : Quiet S (waits (o S) d) h2 a1 3 = quiet_waits S F d a1 h2 first isv.small there in
          let q2 : Quiet S (waits (o S) (d + 1)) h2 b1 3 = quiet_waits S F (d + 1) b1 h2 inside small (waited_there S F (d + 1) b1 inside t' h'' ready'') in
          sim_richer S.entries Q j (b + 23 + (M + 3)) (b + rate * 1 + (M + 8)) g (ex S rest2) t' h'' (then_by (then_by (then_by (opr v w t') G) H) f) (omega arith)
          (step_wait S F Q j (b + 23) g (d + 1) b1 M y end t' h'' (then_by (then_by (then_by (opr v w t') G) H) f) inside qy
          (sim_richer S.entries Q j (b + 23) (b + 23) g (ex S end) t' h2 (then_by (then_by (then_by (opr v w t') G) H) f) (omega arith)
          (check_then Q j b g (waits (o S) (d + 1)) x tail f t' h2 v w a1 b1 ready2.told isv isw q2
          (λ z.
          let r : Res Leave State _ = f (X.res a1 b1) u' in
          sim_richer S.entries Q j (b + (3 + 3 + X.q + 8)) (b + 19) g (ex S tail) u' h2 r (omega (arith, X.fits))
          (k (X.res a1 b1) u' (X.fw a1 b1) (3 + 3 + X.q) h2 (X.good a1 b1 isv.small small) (X.quiet (waits (o S) d) (waits (o S) (d + 1)) h2 a1 b1 3 3 isv.small small q1 q2)
          (ready_cost S F t' h2 (t'.cost + X.k) ready2)
          (alike_on S F d d h h' h2 (omega arith) alike (alike_on S F d d h' h1 h2 (omega arith) (waited_alike S F d a1 first t h' ready') (alike_on S F d (d + 1) h1 h'' h2 (omega arith) (alike_on S F d (d + 1) h1 h1 h'' (omega arith) (alike_same S F d h1) alike'') alike2))) (omega (arith, fewer, fewer'')))))))))))))));
    }
