-- A run of the definition, followed instruction by instruction.
use Rattle.std.proofs.Common.{◌≡◌, ℕ, zero, suc, ◌+◌, ◌-◌, ◌%◌, ◌^◌, ◌<◌, ◌≤◌, Bool, true, false, cond, List, [], ◌∷◌, ◌++◌, length, take, drop, map, Option, Some, None, eqb, arith, ap, ◌∙◌, sym, subst, refl, append_assoc}
use Rattle.std.specs.Prelude.{IfSome, slice_get}
use Rattle.std.proofs.lemmas.List.{length-append, append-nil, take-append-le}
use Rattle.std.proofs.Math.Seq.{drop-append_seam, take-append-add}
use Rattle.odc_io.specs.Streams.{grown, shrunk, GrewByFront}
use Rattle.odc_text.specs.Check.{number_of}
use Rattle.odc_text.specs.Run.{End, exited, checked, trapped, going, Log, Entry, out, err, call}
use Rattle.odc_text.specs.Steps.{After, on, over, Stand, stood_after, one_more}
use Rattle.rv_table.specs.State.{Area, State, Step, register, stepped}
use Rattle.rv_table.specs.Run.{Site, Config, trap, answer, took, reading, read_areas, refused, read_called, written_bytes, wrote, write_called, system_called, stopped_at, call_made, acted, act, ran}
use Rattle.rv_table.specs.declared.effect.Event.TheVariants.{Next, System, Break, AllocCall, Trap}
use Rattle.rv_machine.specs.Hart.{Advances}
use Rattle.rv_machine.specs.Machine.{Loaded}
use Rattle.rv_machine.specs.Outside.{Told, Took, out_bytes, err_bytes}
use Rattle.rv_machine.specs.Runs.{at, begun, Whole, Part, Ends, RunsAs}
use Rattle.rv_machine.specs.Turns.{Allows, IsEnded, Went, Broke, Turned}
use Rattle.rv_machine.specs.declared.stop.Stop.{Stop}
use Rattle.rv_machine.specs.declared.stop.Stop.TheVariants.{Exited, Checked, Trapped, StepsOut, ReadFault, WriteFault}
use Rattle.rv_machine.proofs.Pieces.{took_none, took_more}
use Rattle.rv_machine.proofs.Services.{grown_none}
use Rattle.rv_machine.proofs.Turning.{next_went}

-- ---- bytes of a log

pub out_bytes-append : (a b : Log ℕ ℕ) → out_bytes (a ++ b) ≡ out_bytes a ++ out_bytes b
out_bytes-append [] b = refl
out_bytes-append (out x ∷ a) b = ap (λ (xs : List ℕ). x ∷ xs) (out_bytes-append a b)
out_bytes-append (err x ∷ a) b = out_bytes-append a b
out_bytes-append (call c ∷ a) b = out_bytes-append a b

pub err_bytes-append : (a b : Log ℕ ℕ) → err_bytes (a ++ b) ≡ err_bytes a ++ err_bytes b
err_bytes-append [] b = refl
err_bytes-append (out x ∷ a) b = err_bytes-append a b
err_bytes-append (err x ∷ a) b = ap (λ (xs : List ℕ). x ∷ xs) (err_bytes-append a b)
err_bytes-append (call c ∷ a) b = err_bytes-append a b

grown_twice : (o : Option (List ℕ)) (a b : List ℕ) → grown (grown o a) b ≡ grown o (a ++ b)
grown_twice None a b = refl
grown_twice (Some w) a b = ap (λ (z : List ℕ). Some z) (append_assoc w a b)

-- a front of what follows was given behind all that came before
grown_front : (o o1 o2 : Option (List ℕ)) (a b c : List ℕ) → o1 ≡ grown o a → GrewByFront o1 o2 b → GrewByFront o o2 ((a ++ b) ++ c)
grown_front o o1 o2 a b c e (n, fits, g) =
    let long : length ((a ++ b) ++ c) ≡ length a + length b + length c = length-append (a ++ b) c ∙ ap (λ (k : ℕ). k + length c) (length-append a b) in
    let front : take (length a + n) ((a ++ b) ++ c) ≡ a ++ take n b =
    ap (take (length a + n)) (append_assoc a b c) ∙ take-append-add a (b ++ c) n ∙ ap (λ (xs : List ℕ). a ++ xs) (take-append-le n b c fits) in
    (length a + n, omega arith, g ∙ ap (λ (x : Option (List ℕ)). grown x (take n b)) e ∙ grown_twice o a (take n b) ∙ ap (grown o) (sym front))

-- ---- a run only adds to its log and to what it took

record Extends (c d : Config) : Type 0 where
  gave : Log ℕ ℕ
  log : d.log ≡ c.log ++ gave
  taken : c.taken ≤ d.taken

abbrev Adds : Config → After Config → Type 0
Adds c (on d) = Extends c d
Adds c (over end d) = Extends c d

extends_same : (c : Config) → Extends c c
extends_same c = record { gave = []; log = sym (append-nil c.log); taken = omega arith }

extends_state : (c : Config) (s : State) → Extends c (record c { state = s })
extends_state c s = record { gave = []; log = sym (append-nil c.log); taken = omega arith }

both : (c : Config) (b : Bool) (x y : After Config) → Adds c x → Adds c y → Adds c (cond b x y)
both c true x y p q = p
both c false x y p q = q

took_adds : (c : Config) (n : ℕ) (areas : Option (List Area)) → Adds c (took c n areas)
took_adds c n None = extends_same c
took_adds c n (Some areas) = record { gave = []; log = sym (append-nil c.log); taken = omega arith }

wrote_adds : (c : Config) (entry : ℕ → Entry ℕ ℕ) (bytes : Option (List ℕ)) → Adds c (wrote c entry bytes)
wrote_adds c entry None = extends_same c
wrote_adds c entry (Some bytes) = record { gave = map entry bytes; log = refl; taken = omega arith }

stopped_adds : (c : Config) (o : Option Site) → Adds c (stopped_at c o)
stopped_adds c None = extends_same c
stopped_adds c (Some site) = both c (eqb (number_of site.0) (register c.state 10)) (over (checked site.0 site.1) c) (trap c) (extends_same c) (extends_same c)

refused_adds : (c : Config) → Adds c (refused c)
refused_adds c = extends_state c (answer c.state 18446744073709551607)

read_adds : (c : Config) → Adds c (read_called c)
read_adds c = both c (eqb (register c.state 10) 0) (reading c) (refused c) (took_adds c (length (take (register c.state 12) c.input)) (read_areas c.state (take (register c.state 12) c.input))) (refused_adds c)

write_adds : (c : Config) → Adds c (write_called c)
write_adds c =
    let to_err = wrote c (λ b. err b) (written_bytes c.state) in
    both c (eqb (register c.state 10) 1) (wrote c (λ b. out b) (written_bytes c.state)) (cond (eqb (register c.state 10) 2) to_err (refused c))
    (wrote_adds c (λ b. out b) (written_bytes c.state))
    (both c (eqb (register c.state 10) 2) to_err (refused c) (wrote_adds c (λ b. err b) (written_bytes c.state)) (refused_adds c))

system_adds : (c : Config) → Adds c (system_called c)
system_adds c =
    let exits : After Config = over (exited (register c.state 10 % 2 ^ 8)) c in
    let last : After Config = cond (eqb (register c.state 17) 93) exits (trap c) in
    both c (eqb (register c.state 17) 63) (read_called c) (cond (eqb (register c.state 17) 64) (write_called c) last) (read_adds c)
    (both c (eqb (register c.state 17) 64) (write_called c) last (write_adds c) (both c (eqb (register c.state 17) 93) exits (trap c) (extends_same c) (extends_same c)))

acted_adds : (sites : List Site) (c : Config) (step : Step) → Adds c (acted sites c step)
acted_adds sites c (Next, s) = extends_state c s
acted_adds sites c (AllocCall, s) = record { gave = call (call_made c.state) ∷ []; log = refl; taken = omega arith }
acted_adds sites c (System, s) = system_adds c
acted_adds sites c (Break, s) = stopped_adds c (slice_get sites (register c.state 11))
acted_adds sites c (Trap, s) = extends_same c

act_adds : (sites : List Site) (calls : List ℕ) (c : Config) → Adds c (act sites calls c)
unfolding act
act_adds sites calls c = acted_adds sites c (stepped calls c.state)

extends_twice : (c d e : Config) → Extends c d → Extends d e → Extends c e
extends_twice c d e x y = record {
  gave = x.gave ++ y.gave;
  log = y.log ∙ ap (λ (l : Log ℕ ℕ). l ++ y.gave) x.log ∙ append_assoc c.log x.gave y.gave;
  taken = omega (arith, x.taken, y.taken);
}

after_extends : (c : Config) (f : Config → Stand Config) → ((d : Config) → Extends d (f d).last) → (a : After Config) → Adds c a → Extends c (stood_after f a).last
after_extends c f each (on d) x = extends_twice c d (f d).last x (each d)
after_extends c f each (over end d) x = x

ran_extends : (sites : List Site) (calls : List ℕ) (n : ℕ) (c : Config) → Extends c (ran sites calls n c).last
ran_extends sites calls zero c = extends_same c
ran_extends sites calls (suc n) c = after_extends c (ran sites calls n) (λ d. ran_extends sites calls n d) (act sites calls c) (act_adds sites calls c)

-- ---- following

-- a stand so many instructions later
abbrev pub later : ℕ → Stand Config → Stand Config
later i s = record { end = s.end; last = s.last; steps = s.steps + i }

-- what is known after i instructions of n
pub record Running (m : Loaded) (n i : ℕ) (s : State) (ended : Bool) (t0 t : Told) : Type 0 where
  pub got : List ℕ
  pub gave : Log ℕ ℕ
  pub is : (rest : List ℕ) → Allows ended rest → ran m.sites m.calls n (begun m.state (got ++ rest)) ≡ later i (ran m.sites m.calls (n - i) (at s gave rest (length got)))
  pub took : Took t0.input t.input got
  pub out : t.out ≡ grown t0.out (out_bytes gave)
  pub err : t.err ≡ grown t0.err (err_bytes gave)

pub running_first : (m : Loaded) (n : ℕ) (ended : Bool) (t : Told) → Running m n 0 m.state ended t t
running_first m n ended t = record {
  got = [];
  gave = [];
  is = λ rest allowed.
      let c = begun m.state rest in
      let all : n - 0 ≡ n = omega arith in
      let s = ran m.sites m.calls n c in
      let none : s.steps ≡ s.steps + 0 = omega arith in
      ap (λ (k : ℕ). record { end = s.end; last = s.last; steps = k }) none ∙ ap (λ (k : ℕ). later 0 (ran m.sites m.calls k c)) (sym all);
  took = took_none t.input;
  out = grown_none t.out;
  err = grown_none t.err;
}

module _ (m : Loaded) (n i : ℕ) (s s' : State) (ended ended' : Bool) (t0 t t' : Told) (r : Running m n i s ended t0 t) (left : i < n) where
  -- one more instruction from here, whatever it is
  step_on : (rest : List ℕ) → Allows ended rest → (a : After Config) → act m.sites m.calls (at s r.gave rest (length r.got)) ≡ a →
      ran m.sites m.calls n (begun m.state (r.got ++ rest)) ≡ later i (stood_after (ran m.sites m.calls (n - (i + 1))) a)
  step_on rest allowed a e =
      let one : n - i ≡ suc (n - (i + 1)) = omega arith in
      r.is rest allowed
      ∙ ap (λ (k : ℕ). later i (ran m.sites m.calls k (at s r.gave rest (length r.got)))) one
      ∙ ap (λ (x : After Config). later i (stood_after (ran m.sites m.calls (n - (i + 1))) x)) e

  pub running_more : Went (act m.sites m.calls) s s' ended ended' t t' → Running m n (i + 1) s' ended' t0 t'
  running_more w = record {
    got = r.got ++ w.got;
    gave = r.gave ++ w.gave;
    is = λ rest allowed.
        let allowed_before : Allows ended (w.got ++ rest) = λ h. (ap (λ (xs : List ℕ). xs ++ rest) (w.stays h).0 ∙ allowed (w.stays h).1) in
        let c = at s' (r.gave ++ w.gave) rest (length r.got + length w.got) in
        let x = ran m.sites m.calls (n - (i + 1)) c in
        let steps : x.steps + 1 + i ≡ x.steps + (i + 1) = omega arith in
        ap (λ (xs : List ℕ). ran m.sites m.calls n (begun m.state xs)) (append_assoc r.got w.got rest)
        ∙ step_on (w.got ++ rest) allowed_before (on c) (w.is r.gave rest (length r.got) allowed)
        ∙ ap (λ (k : ℕ). record { end = x.end; last = x.last; steps = k }) steps
        ∙ ap (λ (k : ℕ). later (i + 1) (ran m.sites m.calls (n - (i + 1)) (at s' (r.gave ++ w.gave) rest k))) (sym (length-append r.got w.got));
    took = took_more t0.input t.input t'.input r.got w.got r.took w.took;
    out = w.out ∙ ap (λ (o : Option (List ℕ)). grown o (out_bytes w.gave)) r.out ∙ grown_twice t0.out (out_bytes r.gave) (out_bytes w.gave) ∙ ap (grown t0.out) (sym (out_bytes-append r.gave w.gave));
    err = w.err ∙ ap (λ (o : Option (List ℕ)). grown o (err_bytes w.gave)) r.err ∙ grown_twice t0.err (err_bytes r.gave) (err_bytes w.gave) ∙ ap (grown t0.err) (sym (err_bytes-append r.gave w.gave));
  }

pub running_at : (m : Loaded) (n i j : ℕ) (s : State) (ended : Bool) (t0 t : Told) → i ≡ j → Running m n i s ended t0 t → Running m n j s ended t0 t
running_at m n i j s ended t0 t e r = let P : ℕ → Type 0 = λ k. Running m n k s ended t0 t in subst P e r

-- and so many that are no events
pub running_on : (m : Loaded) (n i k : ℕ) (s s' : State) (ended : Bool) (t0 t : Told) → Running m n i s ended t0 t → Advances k s s' → i + k ≤ n → Running m n (i + k) s' ended t0 t
running_on m n i zero s s' ended t0 t r a most =
    let P : State → Type 0 = λ x. Running m n i x ended t0 t in
    running_at m n i (i + 0) s' ended t0 t (omega arith) (subst P (sym a) r)
running_on m n i (suc k) s s' ended t0 t r a most =
    running_at m n (i + k + 1) (i + suc k) s' ended t0 t (omega arith)
    (running_more m n (i + k) a.mid s' ended ended t0 t t (running_on m n i k s a.mid ended t0 t r a.before (omega arith)) (omega arith) (next_went m.sites m.calls a.mid s' ended t (a.goes m.calls)))

-- the same, counted by what is left of n
pub running_down : (m : Loaded) (n left k : ℕ) (s s' : State) (ended : Bool) (t0 t : Told) → Running m n (n - left) s ended t0 t → Advances k s s' → k ≤ left → left ≤ n → Running m n (n - (left - k)) s' ended t0 t
running_down m n left k s s' ended t0 t r a most within =
    running_at m n (n - left + k) (n - (left - k)) s' ended t0 t (omega arith) (running_on m n (n - left) k s s' ended t0 t r a (omega arith))

pub running_next : (m : Loaded) (n left : ℕ) (s s' : State) (ended ended' : Bool) (t0 t t' : Told) → Running m n (n - left) s ended t0 t → 0 < left → left ≤ n → Went (act m.sites m.calls) s s' ended ended' t t' →
    Running m n (n - (left - 1)) s' ended' t0 t'
running_next m n left s s' ended ended' t0 t t' r some within w =
    running_at m n (n - left + 1) (n - (left - 1)) s' ended' t0 t' (omega arith) (running_more m n (n - left) s s' ended ended' t0 t t' r (omega arith) w)

-- ---- the ends

-- what is left of the input, or nothing where that isn't told
rest_of : Option (List ℕ) → List ℕ
rest_of None = []
rest_of (Some left) = left

rest_allowed : (ended : Bool) (o : Option (List ℕ)) → IsEnded ended o → Allows ended (rest_of o)
unfolding rest_of
rest_allowed ended None h = λ _. refl
rest_allowed ended (Some left) h = h

rest_told : (o o' : Option (List ℕ)) (got : List ℕ) → Took o o' got → IfSome o (λ rest. rest ≡ got ++ rest_of o')
unfolding rest_of
rest_told None o' got h = tt
rest_told (Some rest) o' got h = h.parts ∙ ap (λ (x : Option (List ℕ)). got ++ rest_of x) (sym h.now)

rest_shrunk : (o o' : Option (List ℕ)) (got : List ℕ) → Took o o' got → o' ≡ shrunk o (length got)
rest_shrunk None o' got h = h
rest_shrunk (Some rest) o' got h =
    let left : drop (length got) rest ≡ h.left = ap (drop (length got)) h.parts ∙ drop-append_seam got h.left in
    h.now ∙ ap (λ (xs : List ℕ). Some xs) (sym left)

module _ (m : Loaded) (n i : ℕ) (s : State) (ended : Bool) (t0 t : Told) (r : Running m n i s ended t0 t) where
  whole_here : (k : ℕ) (end : End) → Whole (record { end = end; last = at s r.gave (rest_of t.input) (length r.got); steps = k }) t0 t s
  whole_here k end = record { input = rest_shrunk t0.input t.input r.got r.took; out = r.out; err = r.err; state = refl }

  pub steps_out : i ≡ n → IsEnded ended t.input → RunsAs m n t0 t s StepsOut
  steps_out all done =
      let rest = rest_of t.input in
      let c = at s r.gave rest (length r.got) in
      let none : n - i ≡ 0 = omega arith in
      let here : Stand Config = record { end = going; last = c; steps = 0 + i } in
      let is : ran m.sites m.calls n (begun m.state (r.got ++ rest)) ≡ here =
      r.is rest (rest_allowed ended t.input done) ∙ ap (λ (k : ℕ). later i (ran m.sites m.calls k c)) none in
      let P : Stand Config → Type 0 = λ x. Ends going x t0 t s × (x.steps ≡ n) in
      let count : 0 + i ≡ n = omega arith in
      record {
        input = r.got ++ rest;
        told = rest_told t0.input t.input r.got r.took;
        comes = subst P (sym is) (record { end = refl; whole = whole_here (0 + i) going }, count);
      }

  -- the run is over with this instruction, which changed nothing
  pub finished : (end : End) → i < n → IsEnded ended t.input → ((log : Log ℕ ℕ) (rest : List ℕ) (taken : ℕ) → act m.sites m.calls (at s log rest taken) ≡ over end (at s log rest taken)) →
      (input : List ℕ) × (IfSome t0.input (λ rest. rest ≡ input) × Ends end (ran m.sites m.calls n (begun m.state input)) t0 t s)
  finished end left done step =
      let rest = rest_of t.input in
      let c = at s r.gave rest (length r.got) in
      let here : Stand Config = record { end = end; last = c; steps = 1 + i } in
      let is : ran m.sites m.calls n (begun m.state (r.got ++ rest)) ≡ here =
      step_on m n i s s ended ended t0 t t r left rest (rest_allowed ended t.input done) (over end c) (step r.gave rest (length r.got)) in
      let P : Stand Config → Type 0 = λ x. Ends end x t0 t s in
      (r.got ++ rest, (rest_told t0.input t.input r.got r.took, subst P (sym is) (record { end = refl; whole = whole_here (1 + i) end })))

  pub broke : (ended' : Bool) (t' : Told) → i < n → IsEnded ended' t'.input → Broke (act m.sites m.calls) s ended ended' t t' →
      (input : List ℕ) × (IfSome t0.input (λ rest. rest ≡ input) × Part (ran m.sites m.calls n (begun m.state input)) t0 t')
  broke ended' t' left done b =
      let rest = rest_of t'.input in
      let allowed : Allows ended (b.got ++ rest) = λ h. (ap (λ (xs : List ℕ). xs ++ rest) (b.stays h).0 ∙ rest_allowed ended' t'.input done (b.stays h).1) in
      let goes = b.is r.gave rest (length r.got) in
      let x = ran m.sites m.calls (n - (i + 1)) goes.next in
      let more = ran_extends m.sites m.calls (n - (i + 1)) goes.next in
      let here : Stand Config = later i (one_more x) in
      let is : ran m.sites m.calls n (begun m.state ((r.got ++ b.got) ++ rest)) ≡ here =
      ap (λ (xs : List ℕ). ran m.sites m.calls n (begun m.state xs)) (append_assoc r.got b.got rest)
      ∙ step_on m n i s s ended ended' t0 t t' r left (b.got ++ rest) allowed (on goes.next) goes.is in
      let log : x.last.log ≡ (r.gave ++ b.gave) ++ more.gave = more.log ∙ ap (λ (l : Log ℕ ℕ). l ++ more.gave) goes.left in
      let outs : out_bytes x.last.log ≡ (out_bytes r.gave ++ out_bytes b.gave) ++ out_bytes more.gave =
      ap out_bytes log ∙ out_bytes-append (r.gave ++ b.gave) more.gave ∙ ap (λ (xs : List ℕ). xs ++ out_bytes more.gave) (out_bytes-append r.gave b.gave) in
      let errs : err_bytes x.last.log ≡ (err_bytes r.gave ++ err_bytes b.gave) ++ err_bytes more.gave =
      ap err_bytes log ∙ err_bytes-append (r.gave ++ b.gave) more.gave ∙ ap (λ (xs : List ℕ). xs ++ err_bytes more.gave) (err_bytes-append r.gave b.gave) in
      let all = took_more t0.input t.input t'.input r.got b.got r.took b.took in
      let took_now : length r.got + length b.got ≤ x.last.taken = omega (arith, goes.took, more.taken) in
      let P : Stand Config → Type 0 = λ y. Part y t0 t' in (
        (r.got ++ b.got) ++ rest,
        (
          rest_told t0.input t'.input (r.got ++ b.got) all,
          subst P (sym is) (record {
            taken = length (r.got ++ b.got);
            at_most = omega (arith, length-append r.got b.got, took_now);
            input = rest_shrunk t0.input t'.input (r.got ++ b.got) all;
            out = subst (GrewByFront t0.out t'.out) (sym outs) (grown_front t0.out t.out t'.out (out_bytes r.gave) (out_bytes b.gave) (out_bytes more.gave) r.out b.out);
            err = subst (GrewByFront t0.err t'.err) (sym errs) (grown_front t0.err t.err t'.err (err_bytes r.gave) (err_bytes b.gave) (err_bytes more.gave) r.err b.err);
          }),
        ),
      )

-- ---- a turn that ends the run

-- what ends here ends so where the state and the outside are called otherwise
moved : (end : End) (x : Stand Config) (t0 t t' : Told) (s s' : State) → t' ≡ t → s' ≡ s → Ends end x t0 t s → Ends end x t0 t' s'
moved end x t0 t t' s s' et es h =
    let P : Told → Type 0 = λ u. Ends end x t0 u s' in
    let Q : State → Type 0 = λ z. Ends end x t0 t z in
    subst P (sym et) (subst Q (sym es) h)

module _ (m : Loaded) (n i : ℕ) (s s' : State) (ended ended' : Bool) (t0 t t' : Told) (r : Running m n i s ended t0 t) (left : i < n) (before : IsEnded ended t.input) (after : IsEnded ended' t'.input) where
  pub stop_runs : (stop : Stop) → Turned (act m.sites m.calls) (Some stop) s s' ended ended' t t' → RunsAs m n t0 t' s' stop
  stop_runs (Exited code) h =
      let e = finished m n i s ended t0 t r (exited code) left before h.is in
      record { input = e.0; told = e.1.0; comes = moved (exited code) (ran m.sites m.calls n (begun m.state e.0)) t0 t t' s s' h.told h.state e.1.1 }
  stop_runs (Checked check place) h =
      let e = finished m n i s ended t0 t r (checked check place) left before h.is in
      record { input = e.0; told = e.1.0; comes = moved (checked check place) (ran m.sites m.calls n (begun m.state e.0)) t0 t t' s s' h.told h.state e.1.1 }
  stop_runs (Trapped pc) h =
      let e = finished m n i s ended t0 t r (trapped pc) left before h.is in
      record { input = e.0; told = e.1.0; comes = moved (trapped pc) (ran m.sites m.calls n (begun m.state e.0)) t0 t t' s s' h.told h.state e.1.1 }
  stop_runs StepsOut h = absurd h
  stop_runs ReadFault h =
      let e = broke m n i s ended t0 t r ended' t' left after h in
      record { input = e.0; told = e.1.0; comes = e.1.1 }
  stop_runs WriteFault h =
      let e = broke m n i s ended t0 t r ended' t' left after h in
      record { input = e.0; told = e.1.0; comes = e.1.1 }

-- the lists of a machine don't change
pub turned_on : (m now : Loaded) (r : Option Stop) (s s' : State) (ended ended' : Bool) (t t' : Told) → now ≡ record m { state = now.state } →
    Turned (act now.sites now.calls) r s s' ended ended' t t' → Turned (act m.sites m.calls) r s s' ended ended' t t'
turned_on m now r s s' ended ended' t t' lists h =
    let P : Loaded → Type 0 = λ x. Turned (act x.sites x.calls) r s s' ended ended' t t' in subst P lists h
