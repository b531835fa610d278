-- A relation between the states of two runs that the primitives keep is kept by the whole run. Here: what a relation must
-- keep, sequencing, and what all kinds of nodes are made of.
use Rattle.std.proofs.Common.{◌≡◌, ℕ, zero, suc, Bool, true, false, List, [], ◌∷◌, refl, subst}
use Rattle.std.specs.Prelude.{Option, Some, None, if◌then◌else◌, ◌+◌, ◌==◌}
use Rattle.odc_text.specs.declared.place.Place.{Place}
use Rattle.odc_text.specs.declared.check.Check.{Check}
use Rattle.odc_text.specs.Run.{End, strayed, checked, Entry}
use Rattle.odc_program.specs.States.Run.{Res, ok, stop, pure, halt, then_by, ◌>>=◌}
use Rattle.odc_program.specs.States.Bytes.{Block, Pointer, nil, to, Value}
use Rattle.odc_program.specs.States.State as s

-- where the second stands
pub data Tail : Type 0 where
  went : (u : s.State) → Tail
  halts_at : (w : s.Leave) (u : s.State) → Tail

abbrev pub tail : {A : Type 0} → Res s.Leave s.State A → Tail
tail (ok a u) = went u
tail (stop w u) = halts_at w u

-- ends of two runs: both go on, with equal values; or the first stops, and the second did what is asked for there
abbrev pub Ends : (s.State → s.State → Type 0) → (s.Leave → s.State → Tail → Type 0) → {A : Type 0} → Res s.Leave s.State A → Res s.Leave s.State A → Type 0
Ends S Stops (ok a u) (ok b v) = (a ≡ b) × S u v
Ends S Stops (ok a u) (stop w v) = ⊥
Ends S Stops (stop w u) r = Stops w u (tail r)

abbrev pub IsBack : (s.State → s.State → Type 0) → s.State → Tail → Type 0
IsBack S u (halts_at s.back v) = S u v
IsBack S u _ = ⊥

pub record Like (S : s.State → s.State → Type 0) (Stops : s.Leave → s.State → Tail → Type 0) {A : Type 0} (m n : s.Do A) : Type 0 where
  pub by : (u v : s.State) → S u v → Ends S Stops (m u) (n v)

pub record SameCalls (S : s.State → s.State → Type 0) (Stops : s.Leave → s.State → Tail → Type 0) (c d : s.Calls) : Type 0 where
  pub by : (f : ℕ) (m n : s.Do (Unit {0})) (vs : List Value) (x : s.Context) (low : ℕ) → Like S Stops m n → Like S Stops (c.call f m vs x low) (d.call f n vs x low)
  pub helps : (h : ℕ) (vs : List Value) (env : s.Env) → Like S Stops (c.help h vs env) (d.help h vs env)

-- a place among those that are meant
pub record Within (In : Place → Type 0) : Type 0 where
  pub place : Place
  pub inside : In place

-- a run may stray there alone
abbrev pub MayLeave : (Place → Type 0) → s.Leave → Type 0
MayLeave In (s.ends (strayed at)) = In at
MayLeave In _ = Unit {0}

-- what a relation must keep: sequencing, and each primitive
pub record Alike (In : Place → Type 0) (S : s.State → s.State → Type 0) (Stops : s.Leave → s.State → Tail → Type 0) : Type 1 where
  pub stays : {A B : Type 0} (w : s.Leave) (u : s.State) (r : Res s.Leave s.State A) (f : A → s.Do B) → Stops w u (tail r) → Stops w u (tail (then_by r f))
  pub halts : (w : s.Leave) (u v : s.State) → MayLeave In w → S u v → Stops w u (halts_at w v)
  pub wakes : (e : End) (u v : s.State) → Stops (s.ends e) u (halts_at s.back v) → Stops (s.ends e) u (went v)
  pub backs : (u : s.State) (q : Tail) → Stops s.back u q → IsBack S u q
  pub spends : (n : ℕ) → Like S Stops (s.spend n) (s.spend n)
  pub tells : (es : List (Entry Pointer ℕ)) → Like S Stops (s.leave_behind es) (s.leave_behind es)
  pub loads : (at : Within In) (b : Block) (o n : ℕ) → Like S Stops (s.load_at at.place b o n) (s.load_at at.place b o n)
  pub stores : (at : Within In) (b : Block) (o : ℕ) (v : Value) → Like S Stops (s.store_at at.place b o v) (s.store_at at.place b o v)
  pub opens : (b : Block) (v : Value) → Like S Stops (s.open_at b v) (s.open_at b v)
  pub closes : (serial : ℕ) → Like S Stops (s.close_all serial) (s.close_all serial)
  pub closes_from : (serial low : ℕ) → Like S Stops (s.close_behind serial low) (s.close_behind serial low)
  pub inside : (at : Within In) (b : Block) (o : ℕ) → Like S Stops (s.in_block at.place b o) (s.in_block at.place b o)
  pub lives : (at : Within In) (b : Block) → Like S Stops (s.live_at at.place b) (s.live_at at.place b)
  pub rooms : (at : Within In) (b : Block) (o n : ℕ) → Like S Stops (s.room_at at.place b o n) (s.room_at at.place b o n)
  pub inputs : (n : ℕ) → Like S Stops (s.take_input n) (s.take_input n)
  pub turns : Like S Stops s.take_turn s.take_turn
  pub serials : Like S Stops s.next_serial s.next_serial

module _ (In : Place → Type 0) (S : s.State → s.State → Type 0) (Stops : s.Leave → s.State → Tail → Type 0) (r : Alike In S Stops) where
  abbrev pub Same : {A : Type 0} → s.Do A → s.Do A → Type 0
  Same m n = Like S Stops m n

  pub pures : {A : Type 0} (a : A) → Same (pure a) (pure a)
  pures a = record { by = λ u v h. (refl, h) }

  pub halted : {A : Type 0} (w : s.Leave) → MayLeave In w → Same {A = A} (halt w) (halt w)
  halted w i = record { by = λ u v h. r.halts w u v i h }

  then_ends : {A B : Type 0} (x y : Res s.Leave s.State A) (f g : A → s.Do B) → Ends S Stops x y → ((a : A) → Same (f a) (g a)) → Ends S Stops (then_by x f) (then_by y g)
  then_ends (ok a u) (ok b v) f g h k = subst (λ c. Ends S Stops (f a u) (g c v)) h.0 ((k a).by u v h.1)
  then_ends (ok a u) (stop w v) f g h k = absurd h
  then_ends (stop w u) y f g h k = r.stays w u y g h

  pub thens : {A B : Type 0} {m n : s.Do A} {f g : A → s.Do B} → Same m n → ((a : A) → Same (f a) (g a)) → Same (m >>= f) (n >>= g)
  thens {m = m} {n = n} {f = f} {g = g} h k = record { by = λ u v q. then_ends (m u) (n v) f g (h.by u v q) k }

  pub knowns : {A : Type 0} (at : Within In) (o : Option A) → Same (s.known at.place o) (s.known at.place o)
  knowns at (Some a) = pures a
  knowns at None = halted (s.ends (strayed at.place)) at.inside

  pub fails : {A : Type 0} (c : Check) (at : Within In) → Same {A = A} (s.fail c at.place) (s.fail c at.place)
  fails c at = halted (s.ends (checked c at.place)) tt

  pub strays : {A : Type 0} (at : Within In) → Same {A = A} (s.stray at.place) (s.stray at.place)
  strays at = halted (s.ends (strayed at.place)) at.inside

  pub ifs : {A : Type 0} (b : Bool) {m n m' n' : s.Do A} → Same m m' → Same n n' → Same (if b then m else n) (if b then m' else n')
  ifs true h k = h
  ifs false h k = k

  pub ticks : {A : Type 0} {m n : s.Do A} → Same m n → Same (s.tick m) (s.tick n)
  ticks h = thens (r.spends 1) (λ _. h)

  pub reads : (at : Within In) (a : Pointer) (n : ℕ) → Same (s.read_at at.place a n) (s.read_at at.place a n)
  reads at a zero = pures []
  reads at nil (suc n) = strays at
  reads at (to b o) (suc n) = thens (r.spends _) (λ _. r.loads at b o (suc n))

  pub writes : (at : Within In) (a : Pointer) (v : Value) → Same (s.write_to at.place a v) (s.write_to at.place a v)
  writes at a [] = pures tt
  writes at nil (v ∷ vs) = strays at
  writes at (to b o) (v ∷ vs) = thens (r.spends _) (λ _. r.stores at b o (v ∷ vs))

  pub begins : (b : Block) (v : Value) → Same (s.begin_block b v) (s.begin_block b v)
  begins b v = thens (r.spends _) (λ _. r.opens b v)

  pub local_begins : (env : s.Env) (x : ℕ) (v : Value) → Same (s.begin_local env x v) (s.begin_local env x v)
  local_begins env x v = begins (s.block_of env x) v

  pub maybe_begins : (env : s.Env) (x : Option ℕ) (v : Value) → Same (s.begin_maybe env x v) (s.begin_maybe env x v)
  maybe_begins env None v = pures {A = Unit {0}} tt
  maybe_begins env (Some x) v = local_begins env x v

  pub behinds : (at : Within In) (a : Pointer) (d : ℕ) → Same (s.behind at.place a d) (s.behind at.place a d)
  behinds at nil d = ifs (d == 0) (pures nil) (strays at)
  behinds at (to b o) d = r.inside at b (o + d)

  pub alive : (at : Within In) (a : Pointer) → Same (s.is_live at.place a) (s.is_live at.place a)
  alive at nil = pures tt
  alive at (to b o) = r.lives at b

  pub has_rooms : (at : Within In) (a : Pointer) (n : ℕ) → Same (s.has_room at.place a n) (s.has_room at.place a n)
  has_rooms at a zero = pures tt
  has_rooms at nil (suc n) = strays at
  has_rooms at (to b o) (suc n) = r.rooms at b o (suc n)

  pub givens : {m n : s.Do Value} → Same m n → Same (m >>= (λ v. pure (s.is v))) (n >>= (λ v. pure (s.is v)))
  givens h = thens h (λ v. pures (s.is v))
