-- Core runs that stand, with a bound, where something was just written.
use Rattle.std.proofs.Common.{◌≡◌, ℕ, ◌+◌, ◌≤◌, List, arith, ap, ◌∙◌}
use Rattle.odc_text.specs.Run.{Log, going}
use Rattle.odc_core.specs.Memory.{Memory}
use Rattle.odc_core.specs.Tree.{Stmt, Stmts, finish, follow}
use Rattle.odc_core.specs.Run.{Res, stop, then_by, ◌>>=◌, node, pure, spend, Flow, falls, after}
use Rattle.odc_carried.specs.Code.{join}
use Rattle.odc_carried.specs.Tied.{Site, cenv}
use Rattle.odc_carried.proofs.Runs.{Fueled, at}
use Rattle.odc_carried.proofs.Frame.{ex1, ex, exec_join}
use Rattle.odc_carried.proofs.Shim.{face, Runs}

halt_as : {B : Type 0} (I : List ℕ) (K : ℕ) (m : Memory) (l : Log ℕ ℕ) (x x' : ℕ) → x ≡ x' → (let r : Res B = stop going (at (face I K m l) 0 x) in r) ≡ (let r : Res B = stop going (at (face I K m l) 0 x') in r)
halt_as {B} I K m l x x' e = ap (λ (y : ℕ). let r : Res B = stop going (at (face I K m l) 0 y) in r) e

module _ (I : List ℕ) (K : ℕ) where
  pub record Halts (j : ℕ) {B : Type 0} (act : Fueled B) (m : Memory) (l : Log ℕ ℕ) (m' : Memory) (l' : Log ℕ ℕ) : Type 0 where
    pub budget : ℕ
    pub cost : ℕ
    pub is : (n c : ℕ) → j + budget ≤ n → act n (at (face I K m l) budget c) ≡ stop going (at (face I K m' l') 0 (c + cost))

  -- the end of a node
  pub halts_node : {A : Type 0} (j : ℕ) (act : Fueled A) (m : Memory) (l : Log ℕ ℕ) (b x : ℕ) (v : A) (m' : Memory) (l' : Log ℕ ℕ) → Runs I K j act m l b x v m' l' → Halts j (λ n. node (act n)) m l m' l'
  halts_node {A} j act m l b x v m' l' r = record {
    budget = 0 + b;
    cost = x;
    is = λ n c le. ap (λ (q : Res A). then_by q (λ y. spend (pure y))) (r.is n 0 c (omega arith));
  }

  pub halts_then : {A B : Type 0} (j : ℕ) (act : Fueled A) (next : A → Fueled B) (m : Memory) (l : Log ℕ ℕ) (b x : ℕ) (v : A) (m1 : Memory) (l1 : Log ℕ ℕ) (m' : Memory) (l' : Log ℕ ℕ) → Runs I K j act m l b x v m1 l1 → Halts j (next v) m1 l1 m' l' → Halts j (λ n. act n >>= (λ y. next y n)) m l m' l'
  halts_then {A} j act next m l b x v m1 l1 m' l' r h = record {
    budget = h.budget + b;
    cost = x + h.cost;
    is = λ n c le. ap (λ (q : Res A). then_by q (λ y. next y n)) (r.is n h.budget c (omega arith)) ∙ h.is n (c + x) (omega arith) ∙ halt_as I K m' l' _ _ (omega arith);
  }

  module _ (j : ℕ) (S : Site) where
    pub halts_one : (s : Stmt) (m : Memory) (l : Log ℕ ℕ) (m' : Memory) (l' : Log ℕ ℕ) → Halts j (ex1 S s) m l m' l' → Halts j (ex S (follow s finish)) m l m' l'
    halts_one s m l m' l' h = record { budget = h.budget; cost = h.cost; is = λ n c le. ap (λ (q : Res Flow). then_by q (λ f. after f (ex S finish n))) (h.is n c le) }

    pub halts_follow : (s : Stmt) (ss : Stmts) (m m1 m' : Memory) (l l1 l' : Log ℕ ℕ) (b x : ℕ) → Runs I K j (ex1 S s) m l b x falls m1 l1 → Halts j (ex S ss) m1 l1 m' l' → Halts j (ex S (follow s ss)) m l m' l'
    halts_follow s ss m m1 m' l l1 l' b x r h = halts_then j (ex1 S s) (λ f n. after f (ex S ss n)) m l b x falls m1 l1 m' l' r h

    pub halts_join : (a c : Stmts) (m m1 m' : Memory) (l l1 l' : Log ℕ ℕ) (b x : ℕ) → Runs I K j (ex S a) m l b x falls m1 l1 → Halts j (ex S c) m1 l1 m' l' → Halts j (ex S (join a c)) m l m' l'
    halts_join a c m m1 m' l l1 l' b x r h =
        let z : Halts j (λ n. ex S a n >>= (λ f. after f (ex S c n))) m l m' l' = halts_then j (ex S a) (λ f n. after f (ex S c n)) m l b x falls m1 l1 m' l' r h in
        record { budget = z.budget; cost = z.cost; is = λ n k le. exec_join n (cenv S) a c (at (face I K m l) z.budget k) ∙ z.is n k le }
