-- What ties a configuration of mid code to one of the machine: memory shows what may be touched, the slots
-- hold the temporaries, and each caller on the stack waits at its return address.
use Rattle.std.proofs.Common.{◌≡◌, ℕ, zero, suc, ◌+◌, ◌%◌, ◌^◌, ◌<◌, ◌≤◌, Bool, true, false, cond, ◌⊎◌, inl, inr, List, [], ◌∷◌, ◌++◌, length, take, drop, arith, ap, ◌∙◌, sym, subst, refl}
use Rattle.std.specs.Prelude.{◌==◌, ◌&&◌, ◌||◌, nat_lt, Option, Some, None, slice_get}
use Rattle.std.specs.Int.{w64, to_le_bytes}
use Rattle.std.proofs.lemmas.Bool.Decides.{nat_tests}
use Rattle.odc_text.specs.declared.check.Check.TheVariants.{Stack}
use Rattle.odc_text.specs.Run.{Log}
use Rattle.rv_table.specs.Run.{Site}
use Rattle.rv_table.specs.State.{listed}
use Rattle.rv_table.specs.Bytes.{run, written}
use Rattle.rv_table.proofs.Bytes.{run_same, run_apart, run_written, written_out}
use Rattle.odc_core.specs.declared.tree.Variable.{Variable}
use Rattle.odc_core.specs.Memory.{Memory, all_in, put, lies}
use Rattle.odc_core.specs.Frames.{stack_end, in_variables, touched_in, touched_always}
use Rattle.odc_core.specs.Well.{AreLaid, AreBytes, AreInStore}
use Rattle.odc_mid.specs.declared.tree.MidStep.{MidStep}
use Rattle.odc_mid.specs.Tree.{Proc, Whole}
use Rattle.odc_mid.specs.Run.{Activation, Caller, Config, set}
use Rattle.odc_mid.specs.Well.{Names, Known, set_by, ways_of, IsStepAt, AreSteps, AllLead, Leads, IsSet, SetBelow, IsWellProc, names_in}
use Rattle.rv_emit.specs.Code.{text_start, Around, around_of, slot, step_code, step_sites, step_calls, enter_code, store_slot, variables_end, start_code}
use Rattle.rv_emit.specs.Layout.{HasSlots}
use Rattle.rv_emit.proofs.Flat.{Setting, Flat, Stands}
use Rattle.rv_emit.proofs.Ranges.{InRegion}
use Rattle.rv_emit.proofs.Words.{word_bytes}

-- ---- what the text holds

abbrev pub SitesAt : List Site → ℕ → List Site → Type 0
SitesAt sites k [] = Unit {0}
SitesAt sites k (s ∷ ss) = (slice_get sites k ≡ Some s) × SitesAt sites (suc k) ss

abbrev pub AreListed : List ℕ → List ℕ → Type 0
AreListed calls [] = Unit {0}
AreListed calls (c ∷ cs) = (listed calls c ≡ true) × AreListed calls cs

-- the code of a step
pub record HasStep (m : Setting) (around : Around) (s : MidStep) (p q : ℕ) : Type 0 where
  pub site : ℕ
  pub small : site < 2 ^ 31
  pub code : Stands m.code p (step_code around p site s) q
  pub sites : SitesAt m.sites site (step_sites s)
  pub calls : AreListed m.calls (step_calls p s)

-- the code of a procedure, from an address on
pub record HasProc (m : Setting) (w : Whole) (at : ℕ) (p : Proc) : Type 0 where
  pub site : ℕ
  pub small : site < 2 ^ 31
  pub enter : Stands m.code at (enter_code p.frame site) ((around_of m.entries w.addresses at p).place 0)
  pub told : slice_get m.sites site ≡ Some (Stack, p.at)
  pub steps : (i : ℕ) (s : MidStep) → slice_get p.steps i ≡ Some s → HasStep m (around_of m.entries w.addresses at p) s ((around_of m.entries w.addresses at p).place i) ((around_of m.entries w.addresses at p).place (i + 1))
  pub low : (i : ℕ) → i ≤ length p.steps → (around_of m.entries w.addresses at p).place i < 2 ^ 31
  pub even : (i : ℕ) → (around_of m.entries w.addresses at p).place i % 4 ≡ 0

pub record IsBuilt (m : Setting) (w : Whole) (f : ℕ) (p : Proc) : Type 0 where
  pub well : IsWellProc w p
  pub slots : HasSlots p
  pub has : HasProc m w (m.entries f) p
  pub entry : m.entries f < 2 ^ 31
  pub even : m.entries f % 4 ≡ 0

pub record Built (m : Setting) (w : Whole) : Type 1 where
  pub procs : (f : ℕ) (p : Proc) → slice_get w.procedures f ≡ Some p → IsBuilt m w f p
  pub addresses : AreInStore w.store_size w.addresses
  pub store : m.store_size ≡ w.store_size
  pub start : Stands m.code text_start (start_code (m.entries w.main)) (text_start + 40)

-- ---- variables and slots

pub lies_below : (a n x : ℕ) → x < a → lies a n x ≡ false
lies_below a n x h = grind (arith, nat_tests)

pub lies_above : (a n x : ℕ) → a + n ≤ x → lies a n x ≡ false
lies_above a n x h = grind (arith, nat_tests)

pub or_false : (a b : Bool) → a ≡ false → b ≡ false → (a || b) ≡ false
or_false a b h k = ap (λ (t : Bool). t || b) h ∙ k

pub variables_below : (low frame x : ℕ) (vs : List Variable) → AreLaid frame vs → x < low + 8 → in_variables low vs x ≡ false
variables_below low frame x [] h k = refl
variables_below low frame x (v ∷ vs) h k =
    or_false (lies (low + v.offset) v.size x) (in_variables low vs x) (lies_below (low + v.offset) v.size x (omega (arith, h.0.0))) (variables_below low frame x vs h.1.1 k)

pub variables_above : (low x : ℕ) (vs : List Variable) → low + variables_end vs ≤ x → in_variables low vs x ≡ false
variables_above low x [] k = refl
variables_above low x (v ∷ vs) k =
    or_false (lies (low + v.offset) v.size x) (in_variables low vs x) (lies_above (low + v.offset) v.size x (omega arith)) (variables_above low x vs (omega arith))

-- a temporary's word lies in its slot
pub record Held (g : ℕ → ℕ) (low frame temporaries t v : ℕ) : Type 0 where
  pub below : t < temporaries
  pub small : v < 2 ^ 64
  pub is : run g (low + slot frame t) 8 ≡ to_le_bytes w64 v

-- ---- activations

abbrev pub outer_of : ℕ → List Caller → ℕ → Bool
outer_of size [] = touched_always size
outer_of size (c ∷ cs) = c.activation.touched

abbrev pub base_of : List Caller → ℕ
base_of [] = stack_end
base_of (c ∷ cs) = c.activation.low

module _ (m : Setting) (w : Whole) (b : Built m w) where
  abbrev pub place_of : ℕ → Proc → ℕ → ℕ
  place_of f p i = (around_of m.entries w.addresses (m.entries f) p).place i

  pub record IsActivation (act : Activation) (outer : ℕ → Bool) (base f : ℕ) (p : Proc) : Type 0 where
    pub found : slice_get w.procedures f ≡ Some p
    pub steps : act.steps ≡ p.steps
    pub variables : act.variables ≡ p.variables
    pub high : act.low + p.frame ≡ base
    pub bottom : 0x7800_0000 ≤ act.low
    pub top : base ≤ 2 ^ 31
    pub touched : (x : ℕ) → act.touched x ≡ touched_in outer act.low p.variables x
    pub above : (x : ℕ) → 0x7800_0000 ≤ x → x < base → outer x ≡ false
    pub region : (x : ℕ) → act.touched x ≡ true → InRegion m.store_size x

  -- what holds of a procedure's frame
  pub frame_facts : (f : ℕ) (p : Proc) → slice_get w.procedures f ≡ Some p → (t : ℕ) → t < p.temporaries → (variables_end p.variables ≤ slot p.frame t) × ((slot p.frame t + 8 ≤ p.frame) × (8 ≤ slot p.frame t))
  frame_facts f p found t h = let room = (b.procs f p found).slots in (omega (arith, room), (omega (arith, room), omega (arith, room)))

  pub frame_small : (f : ℕ) (p : Proc) → slice_get w.procedures f ≡ Some p → p.frame ≤ 2 ^ 24
  frame_small f p found = (b.procs f p found).well.fits

  module _ (act : Activation) (outer : ℕ → Bool) (base f : ℕ) (p : Proc) (is : IsActivation act outer base f p) where
    -- the return address and the slots are never touched
    pub saved_quiet : (x : ℕ) → act.low ≤ x → x < act.low + 8 → act.touched x ≡ false
    saved_quiet x h k =
        let room = (b.procs f p is.found).slots in
        is.touched x
        ∙ or_false (in_variables act.low p.variables x) (outer x) (variables_below act.low p.frame x p.variables (b.procs f p is.found).well.laid k) (is.above x (omega (arith, is.bottom)) (omega (arith, is.high, room)))

    pub slots_quiet : (x : ℕ) → act.low + variables_end p.variables ≤ x → x < base → act.touched x ≡ false
    slots_quiet x h k =
        is.touched x ∙ or_false (in_variables act.low p.variables x) (outer x) (variables_above act.low x p.variables h) (is.above x (omega (arith, is.bottom)) k)

    -- above the frame nothing more is touched than before
    pub beyond_quiet : (x : ℕ) → base ≤ x → outer x ≡ false → act.touched x ≡ false
    beyond_quiet x h k =
        let room = (b.procs f p is.found).slots in
        is.touched x ∙ or_false (in_variables act.low p.variables x) (outer x) (variables_above act.low x p.variables (omega (arith, is.high, room))) k

  -- ---- callers

  abbrev pub known_in : (f : ℕ) (p : Proc) → slice_get w.procedures f ≡ Some p → Known
  known_in f p found = (b.procs f p found).well.known

  pub record IsReturn (ret : ℕ) : Type 0 where
    pub small : ret < 2 ^ 32
    pub even : ret % 4 ≡ 0

  -- a caller waits for its answer
  pub record Waits (g : ℕ → ℕ) (c : Caller) (cs : List Caller) (f : ℕ) (p : Proc) (ret back : ℕ) : Type 0 where
    pub act : IsActivation c.activation (outer_of w.store_size cs) (base_of cs) f p
    pub code : Stands m.code ret (store_slot p.frame 10 c.to) (place_of f p c.activation.next)
    pub to : c.to < p.temporaries
    pub held : (t : ℕ) → known_in f p act.found c.activation.next t ≡ true → (c.to ≡ t) ⊎ Held g c.activation.low p.frame p.temporaries t (c.activation.temps t)
    pub saved : run g c.activation.low 8 ≡ to_le_bytes w64 back
    pub return : IsReturn back

  abbrev pub Waiting : (ℕ → ℕ) → List Caller → ℕ → Type 0
  Waiting g [] ret = ret ≡ text_start + 28
  Waiting g (c ∷ cs) ret = (f : ℕ) × ((p : Proc) × ((back : ℕ) × (Waits g c cs f p ret back × Waiting g cs back)))

  pub held_kept : (g h : ℕ → ℕ) (act : Activation) (outer : ℕ → Bool) (base f : ℕ) (p : Proc) (is : IsActivation act outer base f p) → ((x : ℕ) → act.low ≤ x → act.touched x ≡ false → h x ≡ g x) →
      (t v : ℕ) → Held g act.low p.frame p.temporaries t v → Held h act.low p.frame p.temporaries t v
  held_kept g h act outer base f p is same t v held =
      let facts = frame_facts f p is.found t held.below in
      record {
        below = held.below;
        small = held.small;
        is = run_same h g (act.low + slot p.frame t) 8 (λ i l u. same i (omega arith) (slots_quiet act outer base f p is i (omega (arith, facts.0)) (omega (arith, facts.1.0, is.high)))) ∙ held.is;
      }

  pub saved_kept : (g h : ℕ → ℕ) (act : Activation) (outer : ℕ → Bool) (base f : ℕ) (p : Proc) (is : IsActivation act outer base f p) → ((x : ℕ) → act.low ≤ x → act.touched x ≡ false → h x ≡ g x) →
      (back : ℕ) → run g act.low 8 ≡ to_le_bytes w64 back → run h act.low 8 ≡ to_le_bytes w64 back
  saved_kept g h act outer base f p is same back saved =
      run_same h g act.low 8 (λ i l u. same i l (saved_quiet act outer base f p is i l u)) ∙ saved

  -- callers wait on where nothing changes that isn't touched from them
  pub waiting_kept : (g h : ℕ → ℕ) (cs : List Caller) (ret : ℕ) → ((x : ℕ) → base_of cs ≤ x → outer_of w.store_size cs x ≡ false → h x ≡ g x) → Waiting g cs ret → Waiting h cs ret
  waiting_kept g h [] ret same wait = wait
  waiting_kept g h (c ∷ cs) ret same wait =
      let f : ℕ = wait.0 in
      let p : Proc = wait.1.0 in
      let back : ℕ = wait.1.1.0 in
      let x : Waits g c cs f p ret back = wait.1.1.1.0 in
      let outer : ℕ → Bool = outer_of w.store_size cs in
      let base : ℕ = base_of cs in
      let beyond : (y : ℕ) → base ≤ y → outer y ≡ false → h y ≡ g y =
      λ y l q. same y (omega (arith, x.act.high)) (beyond_quiet c.activation outer base f p x.act y l q) in (
        f,
        (
          p,
          (
            back,
            (
              record {
                act = x.act;
                code = x.code;
                to = x.to;
                held = λ t k. elim (x.held t k) [
                  | inl e ↦ inl e
                  | inr e ↦ inr (held_kept g h c.activation outer base f p x.act same t (c.activation.temps t) e)
                ];
                saved = saved_kept g h c.activation outer base f p x.act same back x.saved;
                return = x.return;
              },
              waiting_kept g h cs back beyond wait.1.1.1.1,
            ),
          ),
        ),
      )

  -- ---- the tie

  pub record Tied (c : Config) (place : ℕ) (a : Flat) : Type 0 where
    pub f : ℕ
    pub p : Proc
    pub back : ℕ
    pub act : IsActivation c.here (outer_of w.store_size c.callers) (base_of c.callers) f p
    pub at : place ≡ place_of f p c.here.next
    pub sp : a.regs 2 ≡ c.here.low
    pub held : (t : ℕ) → known_in f p act.found c.here.next t ≡ true → Held a.mem c.here.low p.frame p.temporaries t (c.here.temps t)
    pub saved : run a.mem c.here.low 8 ≡ to_le_bytes w64 back
    pub return : IsReturn back
    pub waiting : Waiting a.mem c.callers back
    pub shows : (x v : ℕ) → c.here.touched x ≡ true → c.memory x ≡ Some v → a.mem x ≡ v
    pub bytes : (x : ℕ) → a.mem x < 256
    pub log : c.log ≡ a.log
    pub input : c.input ≡ a.input
    pub taken : c.taken ≡ a.taken
    pub given : AreBytes c.input

  -- ---- stores where it may be touched

  pub untouched : (touched : ℕ → Bool) (f : ℕ → ℕ) (a : ℕ) (vs : List ℕ) (x : ℕ) → all_in touched a (length vs) ≡ true → touched x ≡ false → written f a vs x ≡ f x
  untouched touched f a [] x all off = refl
  untouched touched f a (v ∷ vs) x all off =
      by (x == a) refl (untouched touched f (a + 1) vs x (second (touched a) (all_in touched (a + 1) (length vs)) all) off)
    where
      first : (s t : Bool) → s && t ≡ true → s ≡ true
      first true t h = refl
      first false t h = cc

      second : (s t : Bool) → s && t ≡ true → t ≡ true
      second true t h = h
      second false t h = cc

      by : (z : Bool) → (x == a) ≡ z → written f (a + 1) vs x ≡ f x → cond z v (written f (a + 1) vs x) ≡ f x
      by true e rest =
          let same : x ≡ a = grind (arith, nat_tests) in
          let on : touched a ≡ true = first (touched a) (all_in touched (a + 1) (length vs)) all in
          let P : ℕ → Type 0 = λ y. touched y ≡ false in
          let not_on : touched a ≡ false = subst P same off in
          cc
      by false e rest = rest

  pub written_shows : (m : Memory) (f : ℕ → ℕ) (a : ℕ) (vs : List ℕ) (x v : ℕ) → (m x ≡ Some v → f x ≡ v) → put m a vs x ≡ Some v → written f a vs x ≡ v
  written_shows m f a [] x v same h = same h
  written_shows m f a (u ∷ vs) x v same h = by (x == a) (written_shows m f (a + 1) vs x v same) h
    where
      by : (z : Bool) → (put m (a + 1) vs x ≡ Some v → written f (a + 1) vs x ≡ v) → cond z (Some u) (put m (a + 1) vs x) ≡ Some v → cond z u (written f (a + 1) vs x) ≡ v
      by true rest h = cc
      by false rest h = rest h

  pub written_bytes : (f : ℕ → ℕ) (a : ℕ) (vs : List ℕ) (x : ℕ) → AreBytes vs → ((y : ℕ) → f y < 256) → written f a vs x < 256
  written_bytes f a [] x are h = h x
  written_bytes f a (v ∷ vs) x are h = by (x == a) (written_bytes f (a + 1) vs x are.1 h)
    where
      by : (z : Bool) → written f (a + 1) vs x < 256 → cond z v (written f (a + 1) vs x) < 256
      by true rest = are.0
      by false rest = rest

  abbrev pub tied_put : (c : Config) (place : ℕ) (a : Flat) (address : ℕ) (vs : List ℕ) → Tied c place a → all_in c.here.touched address (length vs) ≡ true → AreBytes vs →
      Tied (record c { memory = put c.memory address vs }) place (record a { mem = written a.mem address vs })
  tied_put c place a address vs t all are =
      let g : ℕ → ℕ = a.mem in
      let h : ℕ → ℕ = written g address vs in
      let outer : ℕ → Bool = outer_of w.store_size c.callers in
      let base : ℕ = base_of c.callers in
      let same : (x : ℕ) → c.here.low ≤ x → c.here.touched x ≡ false → h x ≡ g x = λ x l off. untouched c.here.touched g address vs x all off in
      record {
        f = t.f;
        p = t.p;
        back = t.back;
        act = t.act;
        at = t.at;
        sp = t.sp;
        held = λ u k. held_kept g h c.here outer base t.f t.p t.act same u (c.here.temps u) (t.held u k);
        saved = saved_kept g h c.here outer base t.f t.p t.act same t.back t.saved;
        return = t.return;
        waiting = waiting_kept g h c.callers t.back (λ x l off. untouched c.here.touched g address vs x all (beyond_quiet c.here outer base t.f t.p t.act x l off)) t.waiting;
        shows = λ x v may is. written_shows c.memory g address vs x v (t.shows x v may) is;
        bytes = λ x. written_bytes g address vs x are t.bytes;
        log = t.log;
        input = t.input;
        taken = t.taken;
        given = t.given;
      }

  abbrev pub tied_log : (c : Config) (place : ℕ) (a : Flat) (more : Log ℕ ℕ) → Tied c place a → Tied (record c { log = c.log ++ more }) place (record a { log = a.log ++ more })
  tied_log c place a more t = record {
    f = t.f;
    p = t.p;
    back = t.back;
    act = t.act;
    at = t.at;
    sp = t.sp;
    held = t.held;
    saved = t.saved;
    return = t.return;
    waiting = t.waiting;
    shows = t.shows;
    bytes = t.bytes;
    log = ap (λ (l : Log ℕ ℕ). l ++ more) t.log;
    input = t.input;
    taken = t.taken;
    given = t.given;
  }

  pub bytes_behind : (n : ℕ) (xs : List ℕ) → AreBytes xs → AreBytes (drop n xs)
  bytes_behind zero xs h = h
  bytes_behind (suc n) [] h = tt
  bytes_behind (suc n) (x ∷ xs) h = bytes_behind n xs h.1

  pub drop_taken : (n : ℕ) (xs : List ℕ) → drop n xs ≡ drop (length (take n xs)) xs
  drop_taken zero xs = refl
  drop_taken (suc n) [] = refl
  drop_taken (suc n) (x ∷ xs) = drop_taken n xs

  abbrev pub tied_input : (c : Config) (place : ℕ) (a : Flat) (n : ℕ) → Tied c place a →
      Tied (record c { input = drop n c.input; taken = c.taken + length (take n c.input) }) place
      (record a { input = drop (length (take n c.input)) a.input; taken = a.taken + length (take n c.input) })
  tied_input c place a n t = record {
    f = t.f;
    p = t.p;
    back = t.back;
    act = t.act;
    at = t.at;
    sp = t.sp;
    held = t.held;
    saved = t.saved;
    return = t.return;
    waiting = t.waiting;
    shows = t.shows;
    bytes = t.bytes;
    log = t.log;
    input = drop_taken n c.input ∙ ap (drop (length (take n c.input))) t.input;
    taken = ap (λ (k : ℕ). k + length (take n c.input)) t.taken;
    given = bytes_behind n c.input t.given;
  }

  -- ---- a step of a well procedure

  step_at : (names : Names) (known : Known) (i : ℕ) (ss : List MidStep) (k : ℕ) (s : MidStep) → AreSteps names known i ss → slice_get ss k ≡ Some s → IsStepAt names known (k + i) s
  step_at names known i [] k s h e = cc
  step_at names known i (x ∷ ss) zero s h e =
      let same : x ≡ s = cc in
      let P : MidStep → Type 0 = λ y. IsStepAt names known (0 + i) y in
      let Q : ℕ → Type 0 = λ n. IsStepAt names known n x in
      let here : i ≡ 0 + i = omega arith in
      subst P same (subst Q here h.0)
  step_at names known i (x ∷ ss) (suc k) s h e =
      let next : k + suc i ≡ suc k + i = omega arith in
      let Q : ℕ → Type 0 = λ n. IsStepAt names known n s in
      subst Q next (step_at names known (suc i) ss k s h.1 e)

  pub well_step : (f : ℕ) (p : Proc) (found : slice_get w.procedures f ≡ Some p) (i : ℕ) (s : MidStep) → slice_get p.steps i ≡ Some s → IsStepAt (names_in w p) (known_in f p found) i s
  well_step f p found i s e =
      let Q : ℕ → Type 0 = λ n. IsStepAt (names_in w p) (known_in f p found) n s in
      let same : i + 0 ≡ i = omega arith in
      subst Q same (step_at (names_in w p) (known_in f p found) 0 p.steps i s (b.procs f p found).well.steps e)

  -- a word into a slot
  pub held_set : (g : ℕ → ℕ) (low f : ℕ) (p : Proc) → slice_get w.procedures f ≡ Some p → (to v : ℕ) (temps : ℕ → ℕ) → to < p.temporaries → v < 2 ^ 64 → (u : ℕ) →
      ((u == to) ≡ false → Held g low p.frame p.temporaries u (temps u)) →
      Held (written g (low + slot p.frame to) (to_le_bytes w64 v)) low p.frame p.temporaries u (set to v temps u)
  held_set g low f p found to v temps small fits u old = by (u == to) refl
    where
      at : ℕ
      at = low + slot p.frame to

      new : Held (written g at (to_le_bytes w64 v)) low p.frame p.temporaries to v
      new = record { below = small; small = fits; is = run_written g at (to_le_bytes w64 v) }

      by : (z : Bool) → (u == to) ≡ z → Held (written g at (to_le_bytes w64 v)) low p.frame p.temporaries u (cond z v (temps u))
      by true e =
          let same : u ≡ to = grind (arith, nat_tests) in
          let P : ℕ → Type 0 = λ y. Held (written g at (to_le_bytes w64 v)) low p.frame p.temporaries y v in
          subst P (sym same) new
      by false e =
          let x : Held g low p.frame p.temporaries u (temps u) = old e in
          let facts = frame_facts f p found u x.below in
          let facts' = frame_facts f p found to small in
          let room = (b.procs f p found).slots in
          let other : (u < to) ⊎ (to < u) = grind (arith, nat_tests) in
          let apart : (low + slot p.frame u + 8 ≤ at) ⊎ (at + length (to_le_bytes w64 v) ≤ low + slot p.frame u) =
          elim other [
            | inl l ↦ inr (omega (arith, room, x.below, small))
            | inr l ↦ inl (omega (arith, room, x.below, small))
          ] in
          record { below = x.below; small = x.small; is = run_apart g at (to_le_bytes w64 v) (low + slot p.frame u) 8 apart ∙ x.is }

  -- behind a step that sets a temporary
  pub tied_gives : (c : Config) (place : ℕ) (a : Flat) (t : Tied c place a) (s : MidStep) (to v : ℕ) → slice_get c.here.steps c.here.next ≡ Some s → set_by s ≡ Some to →
      ways_of c.here.next s ≡ suc c.here.next ∷ [] → v < 2 ^ 64 → (h : ℕ → ℕ) → h 2 ≡ a.regs 2 →
      Tied (record c { here = record c.here { next = c.here.next + 1; temps = set to v c.here.temps } }) (place_of t.f t.p (c.here.next + 1))
      (record a { regs = h; mem = written a.mem (c.here.low + slot t.p.frame to) (to_le_bytes w64 v) })
  tied_gives c place a t s to v e sets way fits h same_sp =
      let f : ℕ = t.f in
      let p : Proc = t.p in
      let i : ℕ = c.here.next in
      let known : Known = known_in f p t.act.found in
      let outer : ℕ → Bool = outer_of w.store_size c.callers in
      let base : ℕ = base_of c.callers in
      let at_step : slice_get p.steps i ≡ Some s = ap (λ (ss : List MidStep). slice_get ss i) (sym t.act.steps) ∙ e in
      let is : IsStepAt (names_in w p) known i s = well_step f p t.act.found i s at_step in
      let L : List ℕ → Type 0 = λ js. AllLead known i s js in
      let one : suc i ≡ i + 1 = omega arith in
      let N : ℕ → Type 0 = λ j. Leads known i s j in
      let leads : Leads known i s (i + 1) = subst N one (subst L way is.leads).0 in
      let B : Option ℕ → Type 0 = λ o. SetBelow p.temporaries o in
      let small : to < p.temporaries = subst B sets is.sets in
      let facts = frame_facts f p t.act.found to small in
      let at : ℕ = c.here.low + slot p.frame to in
      let g : ℕ → ℕ = a.mem in
      let k : ℕ → ℕ = written g at (to_le_bytes w64 v) in
      let off : (x : ℕ) → (x < at) ⊎ (at + 8 ≤ x) → k x ≡ g x = λ x o. written_out g at (to_le_bytes w64 v) x o in
      let quiet : (x : ℕ) → at ≤ x → x < at + 8 → c.here.touched x ≡ false =
      λ x l u. slots_quiet c.here outer base f p t.act x (omega (arith, facts.0)) (omega (arith, facts.1.0, t.act.high)) in
      record {
        f = f;
        p = p;
        back = t.back;
        act = record {
          found = t.act.found;
          steps = t.act.steps;
          variables = t.act.variables;
          high = t.act.high;
          bottom = t.act.bottom;
          top = t.act.top;
          touched = t.act.touched;
          above = t.act.above;
          region = t.act.region;
        };
        at = refl;
        sp = same_sp ∙ t.sp;
        held = λ u kn. held_set g c.here.low f p t.act.found to v c.here.temps small fits u (λ other.
            elim (leads.by u kn) [
              | inl old ↦ t.held u old
              | inr new ↦ (let S : Option ℕ → Type 0 = λ o. IsSet o u in
                  let same : to ≡ u = subst S sets new in
                  let self : (u == to) ≡ true = grind (arith, nat_tests) in
                  absurd (true_not_false (sym self ∙ other)))
            ]);
        saved = run_apart g at (to_le_bytes w64 v) c.here.low 8 (inl (omega (arith, facts.1.1))) ∙ t.saved;
        return = t.return;
        waiting = waiting_kept g k c.callers t.back (λ x l o. off x (inr (omega (arith, facts.1.0, t.act.high)))) t.waiting;
        shows = λ x u may told. by_place x u may told (nat_lt x at) (nat_lt x (at + 8)) refl refl off quiet;
        bytes = λ x. written_bytes g at (to_le_bytes w64 v) x (word_bytes v) t.bytes;
        log = t.log;
        input = t.input;
        taken = t.taken;
        given = t.given;
      }
    where
      true_not_false : true ≡ false → ⊥
      true_not_false e = cc

      by_place : (x u : ℕ) → c.here.touched x ≡ true → c.memory x ≡ Some u → (y z : Bool) → nat_lt x (c.here.low + slot t.p.frame to) ≡ y → nat_lt x (c.here.low + slot t.p.frame to + 8) ≡ z →
          ((x : ℕ) → (x < c.here.low + slot t.p.frame to) ⊎ (c.here.low + slot t.p.frame to + 8 ≤ x) →
          written a.mem (c.here.low + slot t.p.frame to) (to_le_bytes w64 v) x ≡ a.mem x) →
          ((x : ℕ) → c.here.low + slot t.p.frame to ≤ x → x < c.here.low + slot t.p.frame to + 8 → c.here.touched x ≡ false) →
          written a.mem (c.here.low + slot t.p.frame to) (to_le_bytes w64 v) x ≡ u
      by_place x u may told true z d q off quiet = let l : x < c.here.low + slot t.p.frame to = grind (arith, nat_tests) in off x (inl l) ∙ t.shows x u may told
      by_place x u may told false false d q off quiet = let l : c.here.low + slot t.p.frame to + 8 ≤ x = grind (arith, nat_tests) in off x (inr l) ∙ t.shows x u may told
      by_place x u may told false true d q off quiet =
          let l : c.here.low + slot t.p.frame to ≤ x = grind (arith, nat_tests) in
          let r : x < c.here.low + slot t.p.frame to + 8 = grind (arith, nat_tests) in
          absurd (true_not_false (sym may ∙ quiet x l r))

  -- a step that sets nothing, and goes to a position
  pub tied_goes : (c : Config) (place : ℕ) (a : Flat) (t : Tied c place a) (s : MidStep) (j : ℕ) → slice_get c.here.steps c.here.next ≡ Some s → set_by s ≡ None →
      Leads (known_in t.f t.p t.act.found) c.here.next s j → (h : ℕ → ℕ) → h 2 ≡ a.regs 2 →
      Tied (record c { here = record c.here { next = j } }) (place_of t.f t.p j) (record a { regs = h })
  tied_goes c place a t s j e sets leads h same_sp = record {
    f = t.f;
    p = t.p;
    back = t.back;
    act = record {
      found = t.act.found;
      steps = t.act.steps;
      variables = t.act.variables;
      high = t.act.high;
      bottom = t.act.bottom;
      top = t.act.top;
      touched = t.act.touched;
      above = t.act.above;
      region = t.act.region;
    };
    at = refl;
    sp = same_sp ∙ t.sp;
    held = λ u kn. elim (leads.by u kn) [
      | inl old ↦ t.held u old
      | inr new ↦ (let S : Option ℕ → Type 0 = λ o. IsSet o u in absurd (subst S sets new))
    ];
    saved = t.saved;
    return = t.return;
    waiting = t.waiting;
    shows = t.shows;
    bytes = t.bytes;
    log = t.log;
    input = t.input;
    taken = t.taken;
    given = t.given;
  }
