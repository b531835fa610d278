-- The kinds of statements keep what the primitives keep.
use Rattle.std.proofs.Common.{ℕ, zero, suc, Bool, true, false, List, [], ◌∷◌, refl}
use Rattle.std.specs.Prelude.{pos, ◌&&◌, ◌==◌, int_le, int_lt, Option, Some, None, if◌then◌else◌, ◌+◌, drop}
use Rattle.odc_text.specs.declared.place.Place.{Place}
use Rattle.odc_text.specs.declared.check.Check.{Check}
use Rattle.odc_text.specs.Run.{going}
use Rattle.odc_program.specs.declared.ops.BinaryOp.{BinaryOp}
use Rattle.odc_program.specs.declared.ops.BinaryOp.TheVariants as op
use Rattle.odc_program.specs.States.Run.{Res, ok, stop, pure, halt, ◌>>=◌}
use Rattle.odc_program.specs.States.Bytes.{Value, zeros, int_bytes}
use Rattle.odc_program.specs.States.State as s
use Rattle.odc_program.specs.Kinds.Places as p
use Rattle.odc_program.specs.Runs.Statements as t
use Rattle.odc_program_laws.proofs.Alike as a
use Rattle.odc_program_laws.proofs.PlacesAlike as pl
use Rattle.odc_program_laws.proofs.OperatorsAlike as ol
use Rattle.odc_program_laws.proofs.CallsAlike as cl

abbrev pub Loose : (s.Leave → s.State → a.Tail → Type 0) → Type 0
Loose Stops = (u : s.State) (q : a.Tail) → Stops (s.ends going) u q

-- the second's fuel is the first's, or greater where a run that goes on past its bound is tied to all
abbrev pub Fuels : (s.Leave → s.State → a.Tail → Type 0) → ℕ → ℕ → Type 0
Fuels Stops zero zero = Unit {0}
Fuels Stops zero (suc m) = Loose Stops
Fuels Stops (suc n) zero = ⊥
Fuels Stops (suc n) (suc m) = Fuels Stops n m

module _ (In : Place → Type 0) (S : s.State → s.State → Type 0) (Stops : s.Leave → s.State → a.Tail → Type 0) (r : a.Alike In S Stops) where
  abbrev pub Same : {A : Type 0} → s.Do A → s.Do A → Type 0
  Same m n = a.Like S Stops m n

  thens : {A B : Type 0} {m n : s.Do A} {f g : A → s.Do B} → Same m n → ((x : A) → Same (f x) (g x)) → Same (m >>= f) (n >>= g)
  thens h k = a.thens In S Stops r h k

  pures : {A : Type 0} (x : A) → Same (pure x) (pure x)
  pures x = a.pures In S Stops r x

  knowns : {A : Type 0} (at : a.Within In) (o : Option A) → Same (s.known at.place o) (s.known at.place o)
  knowns at o = a.knowns In S Stops r at o

  strays : {A : Type 0} (at : a.Within In) → Same {A = A} (s.stray at.place) (s.stray at.place)
  strays at = a.strays In S Stops r at

  fails : {A : Type 0} (c : Check) (at : a.Within In) → Same {A = A} (s.fail c at.place) (s.fail c at.place)
  fails c at = a.fails In S Stops r c at

  ifs : {A : Type 0} (b : Bool) {m n m' n' : s.Do A} → Same m m' → Same n n' → Same (if b then m else n) (if b then m' else n')
  ifs b h k = a.ifs In S Stops r b h k

  pub record SamePart (m n : t.Part) : Type 0 where
    pub by : (c : s.Context) → Same (m c) (n c)

  pub data SameParts : List t.Part → List t.Part → Type 0 where
    no_parts : SameParts [] []
    and_part : {m n : t.Part} {ms ns : List t.Part} → SamePart m n → SameParts ms ns → SameParts (m ∷ ms) (n ∷ ns)

  pub lefts : (f : t.Flow) → SamePart (t.left_by f) (t.left_by f)
  lefts f = record { by = λ c. pures (record { flow = f; context = c }) }

  catches : (c : s.Context) (x y : Res s.Leave s.State t.Left) → a.Ends S Stops x y → a.Ends S Stops (t.caught_by c x) (t.caught_by c y)
  catches c (ok l u) (ok k v) h = h
  catches c (ok l u) (stop w v) h = absurd h
  catches c (stop (s.ends e) u) (ok k v) h = h
  catches c (stop (s.ends e) u) (stop (s.ends f) v) h = h
  catches c (stop (s.ends e) u) (stop s.back v) h = r.wakes e u v h
  catches c (stop s.back u) (ok k v) h = absurd (r.backs u (a.went v) h)
  catches c (stop s.back u) (stop (s.ends e) v) h = absurd (r.backs u (a.halts_at (s.ends e) v) h)
  catches c (stop s.back u) (stop s.back v) h = (refl, r.backs u (a.halts_at s.back v) h)

  pub caughts : {m n : t.Part} → SamePart m n → SamePart (t.caught m) (t.caught n)
  caughts {m = m} {n = n} h = record { by = λ c. record { by = λ u v q. catches c (m c u) (n c v) ((h.by c).by u v q) } }

  pub scopes : {m n : t.Part} → SamePart m n → SamePart (t.scoped m) (t.scoped n)
  scopes h = record { by = λ c. thens (h.by c) (λ l. (lefts l.flow).by c) }

  pub after_fall : {m n : t.Part} → SamePart m n → (f : t.Flow) → SamePart (t.after_falls m f) (t.after_falls n f)
  after_fall h t.falls = h
  after_fall h (t.breaks l) = lefts (t.breaks l)
  after_fall h (t.continues l) = lefts (t.continues l)
  after_fall h t.passes = lefts t.passes
  after_fall h t.returns = lefts t.returns

  finallies : {m n k j : t.Part} → SamePart m n → SamePart k j → SamePart (t.finally m k) (t.finally n j)
  finallies h g = record { by = λ c. thens (h.by c) (λ l. thens ((caughts g).by l.context) (λ x. (lefts l.flow).by x.context)) }

  -- a statement that may be deferred
  pub data SameLate : Option t.Part → Option t.Part → Type 0 where
    not_late : SameLate None None
    are_late : {m n : t.Part} → SamePart m n → SameLate (Some m) (Some n)

  pub steps : (d e : Option t.Part) → SameLate d e → {m n : t.Part} → SamePart m n → {x y : t.Part} → SamePart x y → SamePart (t.stepped d m x) (t.stepped e n y)
  steps None (Some n) x h k = elim x [ ]
  steps (Some m) None x h k = elim x [ ]
  steps None None not_late h k = record { by = λ c. thens ((caughts h).by c) (λ l. (after_fall k l.flow).by l.context) }
  steps (Some m) (Some n) (are_late g) h k = record { by = λ c. a.ticks In S Stops r ((finallies k g).by c) }

  -- ---- the kinds
  begin_eaches : (env : s.Env) (xs : List (Option ℕ)) (vs : List Value) → Same (t.begin_each env xs vs) (t.begin_each env xs vs)
  begin_eaches env [] vs = pures {A = Unit {0}} tt
  begin_eaches env (Some x ∷ xs) (v ∷ vs) = thens (a.local_begins In S Stops r env x v) (λ _. begin_eaches env xs vs)
  begin_eaches env (None ∷ xs) (v ∷ vs) = thens (pures {A = Unit {0}} tt) (λ _. begin_eaches env xs vs)
  begin_eaches env (Some x ∷ xs) [] = thens (a.local_begins In S Stops r env x (zeros (s.size_of env (s.local_of env x).ty))) (λ _. begin_eaches env xs [])
  begin_eaches env (None ∷ xs) [] = begin_eaches env xs []

  pub declares : (env : s.Env) (xs : List (Option ℕ)) {m n : s.Do (List Value)} → Same m n → (c : s.Context) → Same (t.run_declare env xs m c) (t.run_declare env xs n c)
  declares env xs h c = thens h (λ vs. thens (begin_eaches env xs vs) (λ _. (lefts t.falls).by c))

  each_stores : (at : a.Within In) (env : s.Env) (qs : List (Option s.Spot)) (vs : List Value) (c : s.Context) → Same (t.store_each at.place env qs vs c) (t.store_each at.place env qs vs c)
  each_stores at env (Some q ∷ qs) (v ∷ vs) c = thens (pl.spot_stores In S Stops r at env q v c) (λ d. each_stores at env qs vs d)
  each_stores at env (None ∷ qs) (v ∷ vs) c = each_stores at env qs vs c
  each_stores at env [] vs c = pures c
  each_stores at env (Some q ∷ qs) [] c = pures c
  each_stores at env (None ∷ qs) [] c = pures c

  pub assigns : (at : a.Within In) (env : s.Env) {m n : s.Do (List Value)} {k l : s.Do (List (Option s.Spot))} → Same m n → Same k l → (c : s.Context) → Same (t.run_assign at.place env m k c) (t.run_assign at.place env n l c)
  assigns at env h k c = thens h (λ vs. thens k (λ qs. thens (each_stores at env qs vs c) (λ d. (lefts t.falls).by d)))

  pub changes : (at from : a.Within In) (env : s.Env) (x : BinaryOp) (ty u : ℕ) {m n : s.Do s.Spot} {k l : s.Do Value} → Same m n → Same k l → (c : s.Context) → Same (t.run_change at.place from.place env x ty u m k c) (t.run_change at.place from.place env x ty u n l c)
  changes at from env x ty u h k c = thens h (λ q. thens (pl.read_spots In S Stops r env from q (s.size_of env ty)) (λ v. thens k (λ w. thens (ol.operates In S Stops r env at x ty u v w) (λ z. thens (pl.spot_stores In S Stops r at env q z c) (λ d. (lefts t.falls).by d)))))

  pub evals : {m n : s.Do Value} → Same m n → (c : s.Context) → Same (t.run_eval m c) (t.run_eval n c)
  evals h c = thens h (λ v. (lefts t.falls).by c)

  pub labels : (l : ℕ) {m n : t.Part} → SamePart m n → SamePart (t.labelled l m) (t.labelled l n)
  labels l h = record { by = λ c. thens (h.by c) (λ q. (lefts (t.stopped_at l q.flow)).by q.context) }

  pub blocks : (l : ℕ) {x y : t.Part} → SamePart x y → SamePart (t.run_block l x) (t.run_block l y)
  blocks l h = labels l (scopes h)

  pub headers : {m n k l : t.Part} → SamePart m n → SamePart k l → SamePart (t.headed m k) (t.headed n l)
  headers {k = k} {l = l} h g = scopes (record { by = λ c. thens (h.by c) (λ q. (after_fall g q.flow).by q.context) })

  pub conditionals : {m n : t.Part} {f g : s.Context → s.Do Bool} {x y z w : t.Part} → SamePart m n → ((c : s.Context) → Same (f c) (g c)) → SamePart x y → SamePart z w → SamePart (t.run_if m f x z) (t.run_if n g y w)
  conditionals h k i j = headers h (record { by = λ c. thens (k c) (λ b. ifs b ((scopes i).by c) ((scopes j).by c)) })

  -- ---- loops
  next_turns : {m n : t.Part} → SamePart m n → (f : Option t.Flow) → SamePart (t.next_turn f m) (t.next_turn f n)
  next_turns h None = h
  next_turns h (Some f) = lefts f

  loop_turns : (l : ℕ) {b b' q q' x x' : t.Part} → SamePart b b' → SamePart q q' → SamePart x x' → SamePart (t.run_turn l b q x) (t.run_turn l b' q' x')
  loop_turns l hb hq hx = record { by = λ c. thens r.turns (λ _. thens (hb.by c) (λ z. (next_turns (record { by = λ d. thens (hq.by d) (λ y. (after_fall hx y.flow).by y.context) }) (t.goes_on l z.flow)).by z.context)) }

  looses : {A : Type 0} → Loose Stops → (n : s.Do A) → Same (halt (s.ends going)) n
  looses h n = record { by = λ u v q. h u (a.tail (n v)) }

  pub loops_turn : (n m l : ℕ) → Fuels Stops n m → {f g : s.Context → s.Do Bool} {b b' q q' : t.Part} → ((c : s.Context) → Same (f c) (g c)) → SamePart b b' → SamePart q q' → SamePart (t.turns n l f b q) (t.turns m l g b' q')
  loops_turn zero zero l e hf hb hq = record { by = λ c. thens (hf c) (λ x. ifs x (a.halted In S Stops r (s.ends going) tt) ((lefts t.falls).by c)) }
  loops_turn zero (suc m) l e hf hb hq = record { by = λ c. thens (hf c) (λ x. ifs x (looses e _) ((lefts t.falls).by c)) }
  loops_turn (suc n) zero l e hf hb hq = absurd e
  loops_turn (suc n) (suc m) l e hf hb hq = record { by = λ c. thens (hf c) (λ x. ifs x ((loop_turns l hb hq (loops_turn n m l e hf hb hq)).by c) ((lefts t.falls).by c)) }

  pub loops : (n m l : ℕ) → Fuels Stops n m → {i j q w : t.Part} {f g : s.Context → s.Do Bool} {x y : t.Part} → SamePart i j → ((c : s.Context) → Same (f c) (g c)) → SamePart q w → SamePart x y → SamePart (t.run_loop n l i f q x) (t.run_loop m l j g w y)
  loops n m l e h k g b = headers h (loops_turn n m l e k (scopes b) g)

  pub counted_loops : (n l : ℕ) {f g : s.Context → s.Do Bool} {x y : t.Part} → ((c : s.Context) → Same (f c) (g c)) → SamePart x y → SamePart (t.run_counted n l f x) (t.run_counted n l g y)
  counted_loops zero l h k = lefts t.falls
  counted_loops (suc n) l h k = record { by = λ c. thens (h c) (λ b. ifs b (thens (k.by c) (λ z. (next_turns (counted_loops n l h k) (t.goes_on l z.flow)).by c)) ((lefts t.falls).by c)) }

  pub each_turns : (l n k : ℕ) (give : ℕ → s.Do s.Base) → ((i : ℕ) → Same (give i) (give i)) → {f g : ℕ → s.Base → t.Part} → ((i : ℕ) (b : s.Base) → SamePart (f i b) (g i b)) → SamePart (t.each_turn l n k give f) (t.each_turn l n k give g)
  each_turns l zero k give h g = lefts t.falls
  each_turns l (suc n) k give h g = record { by = λ c. thens (h k) (λ b. thens r.turns (λ _. thens ((g k b).by c) (λ z. (next_turns (each_turns l n (k + 1) give h g) (t.goes_on l z.flow)).by c))) }

  begins : (env : s.Env) (x : Option ℕ) (v : Value) → Same (s.begin_maybe env x v) (s.begin_maybe env x v)
  begins env x v = a.maybe_begins In S Stops r env x v

  pub beguns : (env : s.Env) (x y : Option ℕ) {f g : s.Env → t.Part} → ((e : s.Env) → SamePart (f e) (g e)) → (by_place : Bool) (k : ℕ) (b : s.Base) → SamePart (t.begun env x y f by_place k b) (t.begun env x y g by_place k b)
  beguns env x y h true k (s.lies q) = record { by = λ c. thens (begins env y (int_bytes 8 (pos k))) (λ _. (scopes (h (s.alias env x q))).by c) }
  beguns env x y h true k (s.is v) = record { by = λ c. thens (thens (begins env x v) (λ _. begins env y (int_bytes 8 (pos k)))) (λ _. (scopes (h env)).by c) }
  beguns env x y h false k (s.is v) = record { by = λ c. thens (thens (begins env x v) (λ _. begins env y (int_bytes 8 (pos k)))) (λ _. (scopes (h env)).by c) }
  beguns env x y h false k (s.lies q) = lefts t.falls
  beguns env x y h true k (s.views b u j) = lefts t.falls
  beguns env x y h false k (s.views b u j) = lefts t.falls

  pub spans : (env : s.Env) (at : a.Within In) (ty l : ℕ) (x y : Option ℕ) (closed : Bool) {m n k j : s.Do Value} {f g : s.Env → t.Part} → Same m n → Same k j → ((e : s.Env) → SamePart (f e) (g e)) → (c : s.Context) →
      Same (t.run_span env at.place ty l x y closed m k f c) (t.run_span env at.place ty l x y closed n j g c)
  spans env at ty l x y closed h k g c = thens h (λ v. thens k (λ w. thens (pl.wholes In S Stops r env at ty v) (λ i. thens (pl.wholes In S Stops r env at ty w) (λ j.
      (each_turns l (t.range_count i j closed) 0 _ (λ q. pures _) (beguns env x y g false)).by c))))

  element_reads : (env : s.Env) (at : a.Within In) (by_place : Bool) (e : ℕ) (b : s.Base) → Same (t.element_read env at.place by_place e b) (t.element_read env at.place by_place e b)
  element_reads env at true e b = pures b
  element_reads env at false e b = a.givens In S Stops r (pl.value_ins In S Stops r env at e b)

  pub throughs : (env : s.Env) (at from : a.Within In) (ty i l : ℕ) (x y : Option ℕ) (by_place : Bool) {m n : s.Do s.Base} {f g : s.Env → t.Part} → Same m n → ((e : s.Env) → SamePart (f e) (g e)) → (c : s.Context) →
      Same (t.run_through env at.place from.place ty i l x y by_place m f c) (t.run_through env at.place from.place ty i l x y by_place n g c)
  throughs env at from ty i l x y by_place h g c = thens h (λ b. thens (pl.elements In S Stops r env from ty b) (λ es.
      (each_turns l (p.natural es.count) 0 _ (λ k. thens (pl.element_found In S Stops r at (pos k) es) (λ e. element_reads env at by_place i e)) (beguns env x y g by_place)).by c))

  -- ---- switches
  pub data SameTests : List (Option t.Test) → List (Option t.Test) → Type 0 where
    no_tests : SameTests [] []
    a_default : {x y : List (Option t.Test)} → SameTests x y → SameTests (None ∷ x) (None ∷ y)
    a_test : {f g : t.Test} {x y : List (Option t.Test)} → ((v : Option Value) → Same (f v) (g v)) → SameTests x y → SameTests (Some f ∷ x) (Some g ∷ y)

  picks : (k : ℕ) (d : Option ℕ) (v : Option Value) {x y : List (Option t.Test)} → SameTests x y → Same (t.picked k d v x) (t.picked k d v y)
  picks k d v no_tests = pures d
  picks k d v (a_default h) = picks (k + 1) (Some k) v h
  picks k d v (a_test h g) = thens (h v) (λ b. ifs b (pures (Some k)) (picks (k + 1) d v g))

  behind_cases : {m n : t.Part} → SamePart m n → (f : t.Flow) → SamePart (t.behind_case m f) (t.behind_case n f)
  behind_cases h t.passes = h
  behind_cases h t.falls = lefts t.falls
  behind_cases h (t.breaks l) = lefts (t.breaks l)
  behind_cases h (t.continues l) = lefts (t.continues l)
  behind_cases h t.returns = lefts t.returns

  from_bodies : {ms ns : List t.Part} → SameParts ms ns → SamePart (t.bodies_from ms) (t.bodies_from ns)
  from_bodies no_parts = lefts t.falls
  from_bodies (and_part h k) = record { by = λ c. thens (h.by c) (λ z. (behind_cases (from_bodies k) z.flow).by c) }

  dropped : (k : ℕ) {ms ns : List t.Part} → SameParts ms ns → SameParts (drop k ms) (drop k ns)
  dropped zero h = h
  dropped (suc k) no_parts = no_parts
  dropped (suc k) (and_part h g) = dropped k g

  takens : {ms ns : List t.Part} → SameParts ms ns → (k : Option ℕ) → SamePart (t.taken_case ms k) (t.taken_case ns k)
  takens h None = lefts t.falls
  takens h (Some k) = from_bodies (dropped k h)

  pub cases : (l : ℕ) {f g : s.Context → s.Do (Option Value)} {x y : List (Option t.Test)} {ms ns : List t.Part} → ((c : s.Context) → Same (f c) (g c)) → SameTests x y → SameParts ms ns → SamePart (t.run_cases l f x ms) (t.run_cases l g y ns)
  cases l h k q = labels l (record { by = λ c. thens (h c) (λ v. thens (picks 0 None v k) (λ i. (takens q i).by c)) })

  pub tried : {m n k l : s.Do Bool} → Same m n → Same k l → Same (t.tried m k) (t.tried n l)
  tried h k = thens (thens (r.spends 1) (λ _. h)) (λ x. ifs x (pures true) k)

  pub item_tests : (env : s.Env) (at : a.Within In) (ty : ℕ) {m n : s.Do Value} → Same m n → (v : Option Value) → Same (t.item_holds env at.place ty m (p.read_truth at.place) v) (t.item_holds env at.place ty n (p.read_truth at.place) v)
  item_tests env at ty h None = thens h (λ v. pl.truths In S Stops r at v)
  item_tests env at ty h (Some v) = thens h (λ w. thens (ol.operates In S Stops r env at op.Equal ty ty v w) (λ x. pl.truths In S Stops r at x))

  in_spans : (env : s.Env) (at : a.Within In) (ty : ℕ) (closed : Bool) (v w x : Value) → Same (t.in_span env at.place ty closed v w x) (t.in_span env at.place ty closed v w x)
  in_spans env at ty closed v w x = thens (pl.wholes In S Stops r env at ty v) (λ i. thens (pl.wholes In S Stops r env at ty w) (λ j. thens (pl.wholes In S Stops r env at ty x) (λ k.
      thens (r.spends 2) (λ _. pures (int_le i k && (if closed then int_le k j else int_lt k j))))))

  pub span_tests : (env : s.Env) (at : a.Within In) (ty : ℕ) (closed : Bool) {m n k j : s.Do Value} → Same m n → Same k j → (v : Option Value) → Same (t.span_holds env at.place ty closed m k v) (t.span_holds env at.place ty closed n j v)
  span_tests env at ty closed h g None = pures false
  span_tests env at ty closed h g (Some v) = thens h (λ x. thens g (λ y. in_spans env at ty closed x y v))

  ones : (k : ℕ) (ts : List ℕ) → Same (t.one_of k ts) (t.one_of k ts)
  ones k [] = pures false
  ones k (x ∷ ts) = tried (thens (r.spends 1) (λ _. pures (k == x))) (ones k ts)

  pub variant_tests : (env : s.Env) (at : a.Within In) (ty : ℕ) (ts : List ℕ) (v : Option Value) → Same (t.tag_test env at.place ty ts v) (t.tag_test env at.place ty ts v)
  variant_tests env at ty ts None = pures false
  variant_tests env at ty ts (Some v) = thens (ol.tags In S Stops r env at ty v) (λ k. ones k ts)

  pub data SameBodies : List (Value → t.Part) → List (Value → t.Part) → Type 0 where
    no_bodies : SameBodies [] []
    and_body : {f g : Value → t.Part} {x y : List (Value → t.Part)} → ((v : Value) → SamePart (f v) (g v)) → SameBodies x y → SameBodies (f ∷ x) (g ∷ y)

  eaches : {x y : List (Value → t.Part)} → SameBodies x y → (v : Value) → SameParts (t.each_from x v) (t.each_from y v)
  eaches no_bodies v = no_parts
  eaches (and_body h k) v = and_part (h v) (eaches k v)

  pub named_bodies : (env : s.Env) (at : a.Within In) (x : Option ℕ) {y z : t.Part} → SamePart y z → (v : Value) → SamePart (t.named_body env at.place x y v) (t.named_body env at.place x z v)
  named_bodies env at None h v = scopes h
  named_bodies env at (Some x) h v = record { by = λ c. thens (ol.helds In S Stops r env at (s.local_of env x).ty v) (λ w. thens (a.local_begins In S Stops r env x w) (λ _. (scopes h).by c)) }

  pub type_cases : (l : ℕ) {f g : s.Context → s.Do Value} {x y : List (Option t.Test)} {ms ns : List (Value → t.Part)} → ((c : s.Context) → Same (f c) (g c)) → SameTests x y → SameBodies ms ns → SamePart (t.run_type_switch l f x ms) (t.run_type_switch l g y ns)
  type_cases l h k q = labels l (record { by = λ c. thens (h c) (λ v. thens (picks 0 None (Some v) k) (λ i. (takens (eaches q v) i).by c)) })

  -- ---- leaving
  results : (at : a.Within In) (env : s.Env) (x : ℕ) (vs : List Value) → Same (t.results_from at.place env x vs) (t.results_from at.place env x vs)
  results at env x [] = pures {A = Unit {0}} tt
  results at env x (v ∷ vs) = thens (cl.results_stored In S Stops r at env x v) (λ _. results at env (x + 1) vs)

  pub returns : (at : a.Within In) (env : s.Env) {m n : s.Do (List Value)} → Same m n → (c : s.Context) → Same (t.run_return at.place env m c) (t.run_return at.place env n c)
  returns at env h c = thens h (λ vs. thens (results at env env.proc.parameters vs) (λ _. (lefts t.returns).by c))
