-- Parts of a run that stray nowhere while an activation runs: what each primitive does.
use Rattle.std.proofs.Common.{◌≡◌, ℕ, zero, suc, ◌+◌, ◌<◌, ◌≤◌, Bool, true, false, List, [], ◌∷◌, length, arith, ap, ◌∙◌, sym, subst, refl}
use Rattle.std.specs.Prelude.{◌==◌, ◌||◌, Option, Some, None, if◌then◌else◌}
use Rattle.std.proofs.lemmas.Bool.Decides.{nat_tests}
use Rattle.odc_text.specs.declared.place.Place.{Place}
use Rattle.odc_text.specs.declared.check.Check.{Check}
use Rattle.odc_text.specs.Run.{Entry, going}
use Rattle.odc_program.specs.States.Bytes.{Block, variable, Pointer, to, Byte, Value, same, zeros}
use Rattle.odc_program.specs.States.Memory.{Memory, stretch, written, at_block, fits, load, store, put, open_block}
use Rattle.odc_program.specs.States.Run.{Res, ok, stop, then_by, pure, halt, ◌>>=◌, moved}
use Rattle.odc_program.specs.States.State.{State, Leave, ends, Do, spend, leave_behind, turn_from, known, load_at, keep, store_at, fail, turn, tick, read_at, write_to, begin_block, begin_local, local_in, Env, Context}
use Rattle.odc_program.specs.Trees.Program.{Head, Tables}
use Rattle.odc_program.specs.Typing.WellTypes.{has}
use Rattle.odc_program.specs.Runs.Source.{env_of}
use Rattle.odc_carried.proofs.steady.Outcomes.{IsPlain, ArePlain, IsWord, Plain, Onward, onward_as, Steady, steady_then}

-- ---- an activation of a procedure
pub record Activation : Type 0 where
  pub tables : Tables
  pub proc : Head
  -- the procedure's number, the activation's serial number, and the low end of its frame
  pub number : ℕ
  pub serial : ℕ
  pub low : ℕ

abbrev pub env : Activation → Context → Env
env a c = env_of a.tables a.proc a.number a.serial a.low c

abbrev pub block : Activation → ℕ → Block
block a x = variable a.number a.serial (a.low + (local_in a.proc x).place) (0 + x)

-- its variables that have begun are live
pub record Ready (a : Activation) (xs : List ℕ) (s : State) : Type 0 where
  pub plain : Plain s.memory
  pub older : a.serial < s.serial
  pub live : (x : ℕ) → has x xs ≡ true → s.memory.size (block a x) ≡ Some 8

pub ready_on : (a : Activation) (xs : List ℕ) (s t : State) → Ready a xs s → Onward s t → Ready a xs t
ready_on a xs s t r p = record {
  plain = p.plain;
  older = (let one : s.serial ≤ t.serial = p.serial in let two : a.serial < s.serial = r.older in omega arith);
  live = λ x h. p.live a.number a.serial (a.low + (local_in a.proc x).place) (0 + x) r.older (r.live x h);
}

-- ---- memory
stretch_plain : (g : ℕ → Byte) → ((i : ℕ) → IsPlain (g i)) → (at n : ℕ) → ArePlain (stretch g at n)
stretch_plain g h at zero = tt
stretch_plain g h at (suc n) = (h at, stretch_plain g h (at + 1) n)

length_stretch : (g : ℕ → Byte) (at n : ℕ) → length (stretch g at n) ≡ n
length_stretch g at zero = refl
length_stretch g at (suc n) = ap suc (length_stretch g (at + 1) n)

pub plain_zeros : (n : ℕ) → ArePlain (zeros n)
plain_zeros zero = tt
plain_zeros (suc n) = (tt, plain_zeros n)

written_plain : (g : ℕ → Byte) → ((i : ℕ) → IsPlain (g i)) → (at : ℕ) (v : Value) → ArePlain v → (i : ℕ) → IsPlain (written g at v i)
written_plain g h at [] p i = h i
written_plain g h at (y ∷ v) p i = by (i == at) (written_plain g h (at + 1) v p.1 i)
  where
    by : (q : Bool) → IsPlain (written g (at + 1) v i) → IsPlain (if q then y else written g (at + 1) v i)
    by true rest = p.0
    by false rest = rest

module _ (m : Memory) (h : Plain m) (f k at x : ℕ) (v : Value) (p : ArePlain v) where
  abbrev b : Block
  b = variable f k at x

  bytes_plain : (g j from y i : ℕ) → IsPlain (at_block b (written (m.byte b) 0 v) m.byte (variable g j from y) i)
  bytes_plain g j from y i = by (same (variable g j from y) b)
    where
      by : (q : Bool) → IsPlain ((if q then written (m.byte b) 0 v else m.byte (variable g j from y)) i)
      by true = written_plain (m.byte b) (λ i. h.byte f k at x i) 0 v p i
      by false = h.byte g j from y i

  pub put_plain : Plain (put m b 0 v)
  put_plain = record { byte = bytes_plain }

  pub open_plain : Plain (open_block m b v)
  open_plain = record { byte = bytes_plain }

  -- a block of eight bytes that begins leaves those live that were
  pub open_live : length v ≡ 8 → (g j from y : ℕ) → m.size (variable g j from y) ≡ Some 8 → (open_block m b v).size (variable g j from y) ≡ Some 8
  open_live long g j from y e = by (same (variable g j from y) b)
    where
      by : (q : Bool) → (if q then Some (length v) else m.size (variable g j from y)) ≡ Some 8
      by true = ap (λ (n : ℕ). Some n) long
      by false = e

same_self : (f k at x : ℕ) → same (variable f k at x) (variable f k at x) ≡ true
same_self f k at x = grind (arith, nat_tests)

pub opened_live : (m : Memory) (f k at x : ℕ) (v : Value) → length v ≡ 8 → (open_block m (variable f k at x) v).size (variable f k at x) ≡ Some 8
opened_live m f k at x v long = ap (λ (q : Bool). if q then Some (length v) else m.size (variable f k at x)) (same_self f k at x) ∙ ap (λ (n : ℕ). Some n) long

pub either : (p q : Bool) → (p || q) ≡ true → (P : Type 0) → (p ≡ true → P) → (q ≡ true → P) → P
either true q e P f g = f refl
either false q e P f g = g e

-- ---- parts of a run while an activation runs
module _ (a : Activation) (xs : List ℕ) where
  -- a value of which this holds, in a later state, or an end that isn't a straying
  pub record Safe {A : Type 0} (P : A → Type 0) (m : Do A) : Type 0 where
    pub by : (s : State) → Ready a xs s → Steady (λ v t. P v) s (m s)

  pub safe_then : {A B : Type 0} {P : A → Type 0} {m : Do A} (Q : B → Type 0) (f : A → Do B) → Safe P m → ((v : A) → P v → Safe Q (f v)) → Safe Q (m >>= f)
  safe_then {A} {B} {P} {m} Q f p k = record { by = λ s r. steady_then (λ v t. P v) (λ v t. Q v) s (m s) f (p.by s r) (λ v t on h. (k v h).by t (ready_on a xs s t r on)) }

  pub safe_pure : {A : Type 0} (P : A → Type 0) (v : A) → P v → Safe P (pure v)
  safe_pure P v h = record { by = λ s r. record { by = (onward_as s s r.plain refl refl, h) } }

  pub safe_as : {A : Type 0} {P : A → Type 0} (Q : A → Type 0) (m : Do A) → ((v : A) → P v → Q v) → Safe P m → Safe Q m
  safe_as {A} {P} Q m k p = record { by = λ s r. by s (m s) (p.by s r) }
    where
      by : (s : State) (q : Res Leave State A) → Steady (λ v t. P v) s q → Steady (λ v t. Q v) s q
      by s (ok v t) h = record { by = (h.by.0, k v h.by.1) }
      by s (stop (ends e) t) h = record { by = h.by }
      by s (stop Rattle.odc_program.specs.States.State.back t) h = record { by = h.by }

  -- what changes neither memory nor serial numbers
  abbrev pub Any : {A : Type 0} → A → Type 0
  Any v = Unit {0}

  pub safe_spend : (n : ℕ) → Safe Any (spend n)
  safe_spend n = record { by = λ s r. record { by = (onward_as s (record s { cost = s.cost + n }) r.plain refl refl, tt) } }

  pub safe_tell : (es : List (Entry Pointer ℕ)) → Safe Any (leave_behind es)
  safe_tell es = record { by = λ s r. record { by = (onward_as s _ r.plain refl refl, tt) } }

  pub safe_tick : {A : Type 0} {P : A → Type 0} (m : Do A) → Safe P m → Safe P (tick m)
  safe_tick {A} {P} m p = safe_then P (λ _. m) (safe_spend 1) (λ _ _. p)

  pub safe_fail : {A : Type 0} (P : A → Type 0) (c : Check) (at : Place) → Safe P (fail c at)
  safe_fail P c at = record { by = λ s r. record { by = λ h. h } }

  pub safe_going : {A : Type 0} (P : A → Type 0) → Safe P (halt (ends going))
  safe_going P = record { by = λ s r. record { by = λ h. h } }

  pub safe_known : {A : Type 0} (P : A → Type 0) (at : Place) (o : Option A) (v : A) → o ≡ Some v → P v → Safe P (known at o)
  safe_known {A} P at o v e h = let M : Option A → Type 0 = λ q. Safe P (known at q) in subst M (sym e) (safe_pure P v h)

  pub safe_if : {A : Type 0} (P : A → Type 0) (m n : Do A) (b : Bool) → Safe P m → Safe P n → Safe P (if b then m else n)
  safe_if P m n true p q = p
  safe_if P m n false p q = q

  pub safe_turn : {A : Type 0} {P : A → Type 0} (m : Do A) → Safe P m → Safe P (turn m)
  safe_turn {A} {P} m p = record { by = λ s r. by s r s.left }
    where
      by : (s : State) → Ready a xs s → (left : ℕ) → Steady (λ v t. P v) s (then_by (turn_from left s) (λ _. m))
      by s r zero = record { by = λ h. h }
      by s r (suc left) =
          let t : State = record s { left = left; cost = s.cost + 1 } in
          let on : Onward s t = onward_as s t r.plain refl refl in
          steady_then (λ (v : Unit {0}) t. Unit {0}) (λ v t. P v) s (ok tt t) (λ _. m) (record { by = (on, tt) }) (λ v u on h. p.by u (ready_on a xs s u r on))

  -- ---- a variable that has begun
  pub safe_read : (at : Place) (x : ℕ) → has x xs ≡ true → Safe IsWord (read_at at (to (block a x) 0) 8)
  safe_read at x begun = safe_then IsWord (λ _. load_at at (block a x) 0 8) (safe_spend (moved 8)) (λ _ _. record { by = λ s r. loaded s r })
    where
      loaded : (s : State) → Ready a xs s → Steady (λ v t. IsWord v) s (load_at at (block a x) 0 8 s)
      loaded s r =
          let v : Value = stretch (s.memory.byte (block a x)) 0 8 in
          let there : load s.memory (block a x) 0 8 ≡ Some v = ap (λ (o : Option ℕ). if fits o 0 8 then Some v else None) (r.live x begun) in
          let word : IsWord v = record { long = length_stretch (s.memory.byte (block a x)) 0 8; plain = stretch_plain (s.memory.byte (block a x)) (λ i. r.plain.byte a.number a.serial (a.low + (local_in a.proc x).place) (0 + x) i) 0 8 } in
          (safe_known IsWord at (load s.memory (block a x) 0 8) v there word).by s r

  pub safe_write : (at : Place) (x : ℕ) (v : Value) → has x xs ≡ true → IsWord v → Safe Any (write_to at (to (block a x) 0) v)
  safe_write at x [] begun w = safe_pure Any tt tt
  safe_write at x (y ∷ v) begun w = safe_then Any (λ _. store_at at (block a x) 0 (y ∷ v)) (safe_spend (moved (length (y ∷ v)))) (λ _ _. record { by = λ s r. stored s r })
    where
      stored : (s : State) → Ready a xs s → Steady (λ u t. Unit {0}) s (store_at at (block a x) 0 (y ∷ v) s)
      stored s r =
          let m : Memory = put s.memory (block a x) 0 (y ∷ v) in
          let there : store s.memory (block a x) 0 (y ∷ v) ≡ Some m =
          ap (λ (o : Option ℕ). if fits o 0 (length (y ∷ v)) then Some m else None) (r.live x begun) ∙ ap (λ (n : ℕ). if fits (Some 8) 0 n then Some m else None) w.long in
          let on : Onward s (record s { memory = m }) = record {
            plain = put_plain s.memory r.plain a.number a.serial (a.low + (local_in a.proc x).place) (0 + x) (y ∷ v) w.plain;
            serial = omega arith;
            live = λ f k at x less e. e;
          } in
          let M : Option Memory → Type 0 = λ q. Steady (λ u t. Unit {0}) s (keep at q s) in
          subst M (sym there) (record { by = (on, tt) })

  -- a variable that begins
  pub begin_word : (c : Context) (x : ℕ) (v : Value) → IsWord v → (s : State) → Ready a xs s → Steady (λ u t. Ready a (x ∷ xs) t) s (begin_local (env a c) x v s)
  begin_word c x v w s r =
      let m : Memory = open_block s.memory (block a x) v in
      let t : State = record s { cost = s.cost + moved (length v); memory = m } in
      let on : Onward s t = record {
        plain = open_plain s.memory r.plain a.number a.serial (a.low + (local_in a.proc x).place) (0 + x) v w.plain;
        serial = omega arith;
        live = λ f k at y less e. open_live s.memory r.plain a.number a.serial (a.low + (local_in a.proc x).place) (0 + x) v w.plain w.long f k at y e;
      } in
      let now : Ready a xs t = ready_on a xs s t r on in
      record { by = (on, record { plain = now.plain; older = now.older; live = λ y h. both now y h }) }
    where
      both : Ready a xs (record s { cost = s.cost + moved (length v); memory = open_block s.memory (block a x) v }) → (y : ℕ) → ((y == x) || has y xs) ≡ true → (open_block s.memory (block a x) v).size (block a y) ≡ Some 8
      both now y h =
          let P : ℕ → Type 0 = λ z. (open_block s.memory (block a x) v).size (block a z) ≡ Some 8 in
          either (y == x) (has y xs) h (P y) (λ e. let test : (y == x) ≡ true = e in let is : x ≡ y = grind (arith, nat_tests) in subst P is (opened_live s.memory a.number a.serial (a.low + (local_in a.proc x).place) (0 + x) v w.long)) (λ e. now.live y e)
