-- What a part of a run leaves where it doesn't stray: variables hold numbers, and those of older activations stay.
use Rattle.std.proofs.Common.{◌≡◌, ℕ, ◌<◌, ◌≤◌, List, [], ◌∷◌, length, arith, ap, ◌∙◌, sym, subst}
use Rattle.std.specs.Prelude.{Some}
use Rattle.odc_text.specs.Run.{End, HasStrayed}
use Rattle.odc_program.specs.States.Bytes.{variable, Byte, number, of_address, of_procedure, Value}
use Rattle.odc_program.specs.States.Memory.{Memory}
use Rattle.odc_program.specs.States.Run.{Res, ok, stop, then_by}
use Rattle.odc_program.specs.States.State.{State, Leave, ends, back, Do}

-- ---- values
abbrev pub IsPlain : Byte → Type 0
IsPlain (number n) = Unit {0}
IsPlain (of_address b o k) = ⊥
IsPlain (of_procedure f k) = ⊥

-- bytes of numbers, none of an address
abbrev pub ArePlain : Value → Type 0
ArePlain [] = Unit {0}
ArePlain (x ∷ v) = IsPlain x × ArePlain v

-- the value of an integer of eight bytes
pub record IsWord (v : Value) : Type 0 where
  pub long : length v ≡ 8
  pub plain : ArePlain v

abbrev pub AreWords : List Value → Type 0
AreWords [] = Unit {0}
AreWords (v ∷ vs) = IsWord v × AreWords vs

-- ---- states
-- the bytes of variables are those of numbers
pub record Plain (m : Memory) : Type 0 where
  pub byte : (f k at x i : ℕ) → IsPlain (m.byte (variable f k at x) i)

-- A later state: variables hold numbers, and those of eight bytes stay live where their activation is an older one.
pub record Onward (s t : State) : Type 0 where
  pub plain : Plain t.memory
  pub serial : s.serial ≤ t.serial
  pub live : (f k at x : ℕ) → k < s.serial → s.memory.size (variable f k at x) ≡ Some 8 → t.memory.size (variable f k at x) ≡ Some 8

pub onward_as : (s t : State) → Plain s.memory → t.serial ≡ s.serial → t.memory ≡ s.memory → Onward s t
onward_as s t h e f = record {
  plain = (let P : Memory → Type 0 = λ m. Plain m in subst P (sym f) h);
  serial = omega arith;
  live = λ g k at x less is. ap (λ (m : Memory). m.size (variable g k at x)) f ∙ is;
}

pub onward_then : (s t u : State) → Onward s t → Onward t u → Onward s u
onward_then s t u p q = record {
  plain = q.plain;
  serial = (let one : s.serial ≤ t.serial = p.serial in let two : t.serial ≤ u.serial = q.serial in omega arith);
  live = λ f k at x less is. (let one : s.serial ≤ t.serial = p.serial in q.live f k at x (omega arith) (p.live f k at x less is));
}

-- ---- outcomes
abbrev pub IsCalm : End → Type 0
IsCalm e = HasStrayed e → ⊥

abbrev pub Outcome : {A : Type 0} → (A → State → Type 0) → State → Res Leave State A → Type 0
Outcome P s (ok v t) = Onward s t × P v t
Outcome P s (stop (ends e) t) = IsCalm e
Outcome P s (stop back t) = ⊥

-- a value of which this holds, in a later state, or an end that isn't a straying
pub record Steady {A : Type 0} (P : A → State → Type 0) (s : State) (r : Res Leave State A) : Type 0 where
  pub by : Outcome P s r

pub steady_from : {A : Type 0} (P : A → State → Type 0) (s t : State) (r : Res Leave State A) → Onward s t → Steady P t r → Steady P s r
steady_from P s t (ok v u) p q = record { by = (onward_then s t u p q.by.0, q.by.1) }
steady_from P s t (stop (ends e) u) p q = record { by = q.by }
steady_from P s t (stop back u) p q = record { by = q.by }

-- one part after another, seen from the first state
pub steady_behind : {A B : Type 0} (P : A → State → Type 0) (Q : B → State → Type 0) (s : State) (r : Res Leave State A) (f : A → Do B) → Steady P s r →
    ((v : A) (t : State) → Onward s t → P v t → Steady Q s (f v t)) → Steady Q s (then_by r f)
steady_behind P Q s (ok v t) f p k = k v t p.by.0 p.by.1
steady_behind P Q s (stop (ends e) t) f p k = record { by = p.by }
steady_behind P Q s (stop back t) f p k = record { by = p.by }

pub steady_then : {A B : Type 0} (P : A → State → Type 0) (Q : B → State → Type 0) (s : State) (r : Res Leave State A) (f : A → Do B) → Steady P s r →
    ((v : A) (t : State) → Onward s t → P v t → Steady Q t (f v t)) → Steady Q s (then_by r f)
steady_then P Q s r f p k = steady_behind P Q s r f p (λ v t on holds. steady_from Q s t (f v t) on (k v t on holds))
