-- Parts of core runs that end with a value: from this memory and log, with so much of the bound, at so
-- much cost, whatever else the state holds and whatever is left of the bound.
use Rattle.std.proofs.Common.{◌≡◌, ℕ, suc, ◌+◌, ◌≤◌, Bool, true, List, ◌++◌, length, map, arith, ap, ◌∙◌, sym, subst, refl}
use Rattle.std.specs.Prelude.{Option, Some, None, if◌then◌else◌}
use Rattle.std.proofs.Math.Nat.{add-zero}
use Rattle.odc_text.specs.Run.{Log}
use Rattle.odc_core.specs.declared.tree.Descriptor.{Descriptor}
use Rattle.odc_core.specs.Memory.{Memory, all_in, loaded, put}
use Rattle.odc_core.specs.Run.{State, Res, ok, Act, pure, then_by, ◌>>=◌, spend_from, spend, node, moved, charge, Env, need, remember, load_bytes, store_bytes, entry_to, write_bytes}

-- an action for each fuel
abbrev pub Fueled : Type 0 → Type 0
Fueled A = ℕ → Act A

abbrev pub from : State → Memory → Log ℕ ℕ → ℕ → State
from c m l left = record c { memory = m; log = l; left = left }

abbrev pub to : State → Memory → Log ℕ ℕ → ℕ → ℕ → State
to c m l left cost = record c { memory = m; log = l; left = left; cost = c.cost + cost }

-- with a fuel of at least `slack` more than what it uses of the bound and what is left
pub record Runs (slack : ℕ) {A : Type 0} (act : Fueled A) (m : Memory) (l : Log ℕ ℕ) (budget cost : ℕ) (v : A) (m' : Memory) (l' : Log ℕ ℕ) : Type 0 where
  pub is : (n k : ℕ) (c : State) → slack + (k + budget) ≤ n → act n (from c m l (k + budget)) ≡ ok v (to c m' l' k cost)

-- a result with its bound and cost written otherwise
pub as_told : {A : Type 0} (v : A) (c : State) (m : Memory) (l : Log ℕ ℕ) (k k' x x' : ℕ) → k ≡ k' → x ≡ x' →
    (let r : Res A = ok v (record c { memory = m; log = l; left = k; cost = x }) in r) ≡ (let r : Res A = ok v (record c { memory = m; log = l; left = k'; cost = x' }) in r)
as_told {A} v c m l k k' x x' e f =
    ap (λ (y : ℕ). let r : Res A = ok v (record c { memory = m; log = l; left = y; cost = x }) in r) e
    ∙ ap (λ (y : ℕ). let r : Res A = ok v (record c { memory = m; log = l; left = k'; cost = y }) in r) f

pub runs_pure : {A : Type 0} (j : ℕ) (v : A) (m : Memory) (l : Log ℕ ℕ) → Runs j (λ n. pure v) m l 0 0 v m l
runs_pure j v m l = record { is = λ n k c h. as_told v c m l (k + 0) k c.cost (c.cost + 0) (add-zero k) (sym (add-zero c.cost)) }

-- with a budget and cost written otherwise
pub runs_as : {A : Type 0} (j : ℕ) (act : Fueled A) (m : Memory) (l : Log ℕ ℕ) (b b' x x' : ℕ) (v : A) (m' : Memory) (l' : Log ℕ ℕ) → b ≡ b' → x ≡ x' → Runs j act m l b x v m' l' → Runs j act m l b' x' v m' l'
runs_as j act m l b b' x x' v m' l' e f r =
    let P : ℕ → Type 0 = λ y. Runs j act m l y x v m' l' in
    let Q : ℕ → Type 0 = λ y. Runs j act m l b' y v m' l' in
    subst Q f (subst P e r)

pub runs_then : {A B : Type 0} (j : ℕ) (act : Fueled A) (more : A → Fueled B) (m : Memory) (l : Log ℕ ℕ) (b x : ℕ) (v : A) (m' : Memory) (l' : Log ℕ ℕ) (b' x' : ℕ) (w : B) (m'' : Memory) (l'' : Log ℕ ℕ) →
    Runs j act m l b x v m' l' → Runs j (more v) m' l' b' x' w m'' l'' → Runs j (λ n. act n >>= (λ y. more y n)) m l (b + b') (x + x') w m'' l''
runs_then {A} {B} j act more m l b x v m' l' b' x' w m'' l'' r q = record {
  is = λ n k c h.
      let all : k + (b + b') ≡ (k + b') + b = omega arith in
      let sum : c.cost + x + x' ≡ c.cost + (x + x') = omega arith in
      ap (λ (left : ℕ). then_by (act n (from c m l left)) (λ y. more y n)) all
      ∙ ap (λ (res : Res A). then_by res (λ y. more y n)) (r.is n (k + b') c (omega arith))
      ∙ q.is n k (record c { cost = c.cost + x }) (omega arith)
      ∙ as_told w c m'' l'' k k (c.cost + x + x') (c.cost + (x + x')) refl sum;
}

-- one of the bound is used
pub runs_spend : {A : Type 0} (j : ℕ) (act : Fueled A) (m : Memory) (l : Log ℕ ℕ) (b x : ℕ) (v : A) (m' : Memory) (l' : Log ℕ ℕ) → Runs j act m l b x v m' l' → Runs j (λ n. spend (act n)) m l (b + 1) (x + 1) v m' l'
runs_spend {A} j act m l b x v m' l' r = record {
  is = λ n k c h.
      let more : k + (b + 1) ≡ suc (k + b) = omega arith in
      let sum : c.cost + 1 + x ≡ c.cost + (x + 1) = omega arith in
      ap (λ (left : ℕ). spend_from left (act n) (from c m l left)) more
      ∙ r.is n k (record c { cost = c.cost + 1 }) (omega arith)
      ∙ as_told v c m' l' k k (c.cost + 1 + x) (c.cost + (x + 1)) refl sum;
}

pub runs_node : {A : Type 0} (j : ℕ) (act : Fueled A) (m : Memory) (l : Log ℕ ℕ) (b x : ℕ) (v : A) (m' : Memory) (l' : Log ℕ ℕ) → Runs j act m l b x v m' l' → Runs j (λ n. node (act n)) m l (b + 1) (x + 1) v m' l'
runs_node {A} j act m l b x v m' l' r =
    runs_then j act (λ y n. spend (pure y)) m l b x v m' l' 1 1 v m' l' r (runs_spend j (λ n. pure v) m' l' 0 0 v m' l' (runs_pure j v m' l'))

-- ---- what is there

pub runs_need : {A : Type 0} (j : ℕ) (env : Env) (o : Option A) (v : A) (m : Memory) (l : Log ℕ ℕ) → o ≡ Some v → Runs j (λ n. need env o) m l 0 0 v m l
runs_need {A} j env o v m l e = let P : Option A → Type 0 = λ p. Runs j (λ n. need env p) m l 0 0 v m l in subst P (sym e) (runs_pure j v m l)

pub runs_charge : (j : ℕ) (k : ℕ) (m : Memory) (l : Log ℕ ℕ) → Runs j (λ n. charge k) m l 0 k tt m l
runs_charge j x m l = record { is = λ n k c h. as_told tt c m l (k + 0) k (c.cost + x) (c.cost + x) (add-zero k) refl }

pub runs_load : (j : ℕ) (env : Env) (a size : ℕ) (bytes : List ℕ) (m : Memory) (l : Log ℕ ℕ) → loaded env.touched m a size ≡ Some bytes →
    Runs j (λ n. load_bytes env a size) m l 0 (moved size) bytes m l
runs_load j env a size bytes m l e = record {
  is = λ n k c h.
      ap (λ (o : Option (List ℕ)). need env o (record (from c m l (k + 0)) { cost = c.cost + moved size })) e
      ∙ as_told bytes c m l (k + 0) k (c.cost + moved size) (c.cost + moved size) (add-zero k) refl;
}

pub runs_store : (j : ℕ) (env : Env) (a : ℕ) (bytes : List ℕ) (m : Memory) (l : Log ℕ ℕ) → all_in env.touched a (length bytes) ≡ true →
    Runs j (λ n. store_bytes env a bytes) m l 0 (moved (length bytes)) tt (put m a bytes) l
runs_store j env a bytes m l e = record {
  is = λ n k c h.
      ap (λ (b : Bool). remember env (if b then Some (put m a bytes) else None) (record (from c m l (k + 0)) { cost = c.cost + moved (length bytes) })) e
      ∙ as_told tt c (put m a bytes) l (k + 0) k (c.cost + moved (length bytes)) (c.cost + moved (length bytes)) (add-zero k) refl;
}

pub runs_write : (j : ℕ) (d : Descriptor) (bytes : List ℕ) (m : Memory) (l : Log ℕ ℕ) → Runs j (λ n. write_bytes d bytes) m l 0 (length bytes) tt m (l ++ map (entry_to d) bytes)
runs_write j d bytes m l = record { is = λ n k c h. as_told tt c m (l ++ map (entry_to d) bytes) (k + 0) k (c.cost + length bytes) (c.cost + length bytes) (add-zero k) refl }

-- more slack
pub runs_more : {A : Type 0} (i j : ℕ) (act : Fueled A) (m : Memory) (l : Log ℕ ℕ) (b x : ℕ) (v : A) (m' : Memory) (l' : Log ℕ ℕ) → i ≤ j → Runs i act m l b x v m' l' → Runs j act m l b x v m' l'
runs_more i j act m l b x v m' l' h r = record { is = λ n k c g. r.is n k c (omega arith) }
