-- Parts of core runs that end with a value: from this state but for bound and cost, with so much of the bound, at so
-- much cost, whatever is left of the bound.
use Rattle.std.proofs.Common.{◌≡◌, ℕ, suc, ◌+◌, ◌≤◌, Bool, true, List, ◌++◌, length, map, arith, ap, ◌∙◌, sym, subst, refl}
use Rattle.std.specs.Prelude.{Option, Some, None, if◌then◌else◌}
use Rattle.std.proofs.Math.Nat.{add-zero}
use Rattle.odc_text.specs.Run.{Log}
use Rattle.odc_core.specs.declared.tree.Descriptor.{Descriptor}
use Rattle.odc_core.specs.Memory.{Memory, all_in, loaded, put}
use Rattle.odc_core.specs.Run.{State, Res, ok, Act, pure, then_by, ◌>>=◌, spend_from, spend, node, moved, Env, need, remember, load_bytes, store_bytes, entry_to, write_bytes}

-- a state but for what is left of the bound, and the cost
pub record Face : Type 0 where
  pub memory : Memory
  pub log : Log ℕ ℕ
  pub input : List ℕ
  pub taken : ℕ

abbrev pub at : Face → ℕ → ℕ → State
at h left cost = record { memory = h.memory; log = h.log; input = h.input; taken = h.taken; left = left; cost = cost }

abbrev pub with_memory : Face → Memory → Face
with_memory h m = record { memory = m; log = h.log; input = h.input; taken = h.taken }

abbrev pub with_log : Face → Log ℕ ℕ → Face
with_log h l = record { memory = h.memory; log = l; input = h.input; taken = h.taken }

-- an action for each fuel
abbrev pub Fueled : Type 0 → Type 0
Fueled A = ℕ → Act A

-- with a fuel of at least `slack` more than what it uses of the bound and what is left
pub record Runs (slack : ℕ) {A : Type 0} (act : Fueled A) (h : Face) (budget cost : ℕ) (v : A) (h' : Face) : Type 0 where
  pub is : (n k c : ℕ) → slack + (k + budget) ≤ n → act n (at h (k + budget) c) ≡ ok v (at h' k (c + cost))

-- a result with its bound and cost written otherwise
pub as_told : {A : Type 0} (v : A) (h : Face) (k k' x x' : ℕ) → k ≡ k' → x ≡ x' → (let r : Res A = ok v (at h k x) in r) ≡ (let r : Res A = ok v (at h k' x') in r)
as_told {A} v h k k' x x' e f = ap (λ (y : ℕ). let r : Res A = ok v (at h y x) in r) e ∙ ap (λ (y : ℕ). let r : Res A = ok v (at h k' y) in r) f

pub runs_pure : {A : Type 0} (j : ℕ) (v : A) (h : Face) → Runs j (λ n. pure v) h 0 0 v h
runs_pure j v h = record { is = λ n k c g. as_told v h (k + 0) k c (c + 0) (add-zero k) (sym (add-zero c)) }

-- with a budget and cost written otherwise
pub runs_as : {A : Type 0} {j : ℕ} {h : Face} {b x : ℕ} {v : A} {h' : Face} (act : Fueled A) (b' x' : ℕ) → b ≡ b' → x ≡ x' → Runs j act h b x v h' → Runs j act h b' x' v h'
runs_as {A} {j} {h} {b} {x} {v} {h'} act b' x' e f r =
    let P : ℕ → Type 0 = λ y. Runs j act h y x v h' in
    let Q : ℕ → Type 0 = λ y. Runs j act h b' y v h' in
    subst Q f (subst P e r)

pub runs_then : {A B : Type 0} {j : ℕ} {h : Face} {b x : ℕ} {v : A} {h' : Face} {b' x' : ℕ} {w : B} {h'' : Face} (act : Fueled A) (next : A → Fueled B) →
    Runs j act h b x v h' → Runs j (next v) h' b' x' w h'' → Runs j (λ n. act n >>= (λ y. next y n)) h (b + b') (x + x') w h''
runs_then {A} {B} {j} {h} {b} {x} {v} {h'} {b'} {x'} {w} {h''} act next r q = record {
  is = λ n k c g.
      let all : k + (b + b') ≡ (k + b') + b = omega arith in
      let sum : c + x + x' ≡ c + (x + x') = omega arith in
      ap (λ (left : ℕ). then_by (act n (at h left c)) (λ y. next y n)) all
      ∙ ap (λ (res : Res A). then_by res (λ y. next y n)) (r.is n (k + b') c (omega arith))
      ∙ q.is n k (c + x) (omega arith)
      ∙ as_told w h'' k k (c + x + x') (c + (x + x')) refl sum;
}

-- one of the bound is used
pub runs_spend : {A : Type 0} {j : ℕ} {h : Face} {b x : ℕ} {v : A} {h' : Face} (act : Fueled A) → Runs j act h b x v h' → Runs j (λ n. spend (act n)) h (b + 1) (x + 1) v h'
runs_spend {A} {j} {h} {b} {x} {v} {h'} act r = record {
  is = λ n k c g.
      let next : k + (b + 1) ≡ suc (k + b) = omega arith in
      let sum : c + 1 + x ≡ c + (x + 1) = omega arith in
      ap (λ (left : ℕ). spend_from left (act n) (at h (k + (b + 1)) c)) next
      ∙ r.is n k (c + 1) (omega arith)
      ∙ as_told v h' k k (c + 1 + x) (c + (x + 1)) refl sum;
}

pub runs_node : {A : Type 0} {j : ℕ} {h : Face} {b x : ℕ} {v : A} {h' : Face} (act : Fueled A) → Runs j act h b x v h' → Runs j (λ n. node (act n)) h (b + 1) (x + 1) v h'
runs_node {A} {j} {h} {b} {x} {v} {h'} act r = runs_then act (λ y n. spend (pure y)) r (runs_spend (λ n. pure v) (runs_pure j v h'))

-- ---- what is there

pub runs_need : {A : Type 0} (j : ℕ) (env : Env) (o : Option A) (v : A) (h : Face) → o ≡ Some v → Runs j (λ n. need env o) h 0 0 v h
runs_need {A} j env o v h e = let P : Option A → Type 0 = λ p. Runs j (λ n. need env p) h 0 0 v h in subst P (sym e) (runs_pure j v h)

pub runs_load : (j : ℕ) (env : Env) (a size : ℕ) (bytes : List ℕ) (h : Face) → loaded env.touched h.memory a size ≡ Some bytes → Runs j (λ n. load_bytes env a size) h 0 (moved size) bytes h
runs_load j env a size bytes h e = record {
  is = λ n k c g. ap (λ (o : Option (List ℕ)). need env o (at h (k + 0) (c + moved size))) e ∙ as_told bytes h (k + 0) k (c + moved size) (c + moved size) (add-zero k) refl;
}

pub runs_store : (j : ℕ) (env : Env) (a : ℕ) (bytes : List ℕ) (h : Face) → all_in env.touched a (length bytes) ≡ true →
    Runs j (λ n. store_bytes env a bytes) h 0 (moved (length bytes)) tt (with_memory h (put h.memory a bytes))
runs_store j env a bytes h e = record {
  is = λ n k c g.
      ap (λ (b : Bool). remember env (if b then Some (put h.memory a bytes) else None) (at h (k + 0) (c + moved (length bytes)))) e
      ∙ as_told tt (with_memory h (put h.memory a bytes)) (k + 0) k (c + moved (length bytes)) (c + moved (length bytes)) (add-zero k) refl;
}

pub runs_write : (j : ℕ) (d : Descriptor) (bytes : List ℕ) (h : Face) → Runs j (λ n. write_bytes d bytes) h 0 (length bytes) tt (with_log h (h.log ++ map (entry_to d) bytes))
runs_write j d bytes h = record { is = λ n k c g. as_told tt (with_log h (h.log ++ map (entry_to d) bytes)) (k + 0) k (c + length bytes) (c + length bytes) (add-zero k) refl }

-- a greater slack
pub runs_more : {A : Type 0} {i : ℕ} {h : Face} {b x : ℕ} {v : A} {h' : Face} (j : ℕ) (act : Fueled A) → i ≤ j → Runs i act h b x v h' → Runs j act h b x v h'
runs_more j act g r = record { is = λ n k c f. r.is n k c (omega arith) }
