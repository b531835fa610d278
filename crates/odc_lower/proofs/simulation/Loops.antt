-- Steps over six temporaries, by what they hold.
use Rattle.std.proofs.Common.{◌≡◌, ℕ, zero, suc, ◌+◌, Bool, true, List, [], ◌∷◌, length, ap, ◌∙◌, subst, arith}
use Rattle.std.specs.Prelude.{Option, Some, None, option_map, slice_get, ◌==◌, if◌then◌else◌}
use Rattle.odc_text.specs.Steps.{on}
use Rattle.odc_core.specs.declared.tree.Width.{Width}
use Rattle.odc_core.specs.declared.tree.BinaryOp.{BinaryOp}
use Rattle.odc_core.specs.declared.tree.Comparison.TheVariants.{Below}
use Rattle.odc_core.specs.Words.{width_size, binary_word, compare_words, number_of, bytes_of}
use Rattle.odc_core.specs.Memory.{all_in, loaded, put, stored}
use Rattle.odc_core.specs.Run.{State}
use Rattle.odc_mid.specs.declared.tree.MidStep.{MidStep}
use Rattle.odc_mid.specs.Run.{World as MidWorld, act, set, gives, gives_found, go_on, go_to, with_memory}
use Rattle.odc_lower.specs.Plain.{Step, const_step, binary_step, compare_step, load_step, store_step, jump_step, branch_step}
use Rattle.odc_lower.proofs.simulation.Runs.{Leads, none_leads, step_on, leads_on, leads_as}
use Rattle.odc_lower.proofs.Plains.{Has, acts, Stands}
use Rattle.odc_lower.proofs.simulation.Sims.{Frame, stand}
use Rattle.odc_lower.proofs.simulation.Temps.{set_same, set_other}

-- ---- a step at its place in a list

pub has_at : (steps : List MidStep) (pc : ℕ) (xs : List Step) (end i q : ℕ) (x : Step) → Stands steps pc xs end → slice_get xs i ≡ Some x → pc + i ≡ q → Has steps q x
has_at steps pc [] end i q x h at e = absurd (cc)
has_at steps pc (y ∷ xs) end zero q x h at e =
    let same : y ≡ x = cc in
    let place : pc ≡ q = omega arith in
    subst (λ (p : ℕ). Has steps p x) place (subst (λ (z : Step). Has steps pc z) same h.0)
has_at steps pc (y ∷ xs) end (suc i) q x h at e = has_at steps (pc + 1) xs end i q x h.1 at (omega arith)

-- ---- six temporaries

pub record Holds (d : ℕ) (temps : ℕ → ℕ) (v0 v1 v2 v3 v4 v5 : ℕ) : Type 0 where
  pub t0 : temps d ≡ v0
  pub t1 : temps (d + 1) ≡ v1
  pub t2 : temps (d + 2) ≡ v2
  pub t3 : temps (d + 3) ≡ v3
  pub t4 : temps (d + 4) ≡ v4
  pub t5 : temps (d + 5) ≡ v5

module _ (d : ℕ) (temps : ℕ → ℕ) (v0 v1 v2 v3 v4 v5 v : ℕ) (h : Holds d temps v0 v1 v2 v3 v4 v5) where
  keeps : (to t w : ℕ) → (t ≡ to → ⊥) → temps t ≡ w → set to v temps t ≡ w
  keeps to t w other e = set_other to v temps t other ∙ e

  pub sets_0 : Holds d (set d v temps) v v1 v2 v3 v4 v5
  sets_0 = record {
    t0 = set_same d v temps;
    t1 = keeps d (d + 1) v1 (λ e. omega arith) h.t1;
    t2 = keeps d (d + 2) v2 (λ e. omega arith) h.t2;
    t3 = keeps d (d + 3) v3 (λ e. omega arith) h.t3;
    t4 = keeps d (d + 4) v4 (λ e. omega arith) h.t4;
    t5 = keeps d (d + 5) v5 (λ e. omega arith) h.t5;
  }

  pub sets_1 : Holds d (set (d + 1) v temps) v0 v v2 v3 v4 v5
  sets_1 = record {
    t0 = keeps (d + 1) d v0 (λ e. omega arith) h.t0;
    t1 = set_same (d + 1) v temps;
    t2 = keeps (d + 1) (d + 2) v2 (λ e. omega arith) h.t2;
    t3 = keeps (d + 1) (d + 3) v3 (λ e. omega arith) h.t3;
    t4 = keeps (d + 1) (d + 4) v4 (λ e. omega arith) h.t4;
    t5 = keeps (d + 1) (d + 5) v5 (λ e. omega arith) h.t5;
  }

  pub sets_2 : Holds d (set (d + 2) v temps) v0 v1 v v3 v4 v5
  sets_2 = record {
    t0 = keeps (d + 2) d v0 (λ e. omega arith) h.t0;
    t1 = keeps (d + 2) (d + 1) v1 (λ e. omega arith) h.t1;
    t2 = set_same (d + 2) v temps;
    t3 = keeps (d + 2) (d + 3) v3 (λ e. omega arith) h.t3;
    t4 = keeps (d + 2) (d + 4) v4 (λ e. omega arith) h.t4;
    t5 = keeps (d + 2) (d + 5) v5 (λ e. omega arith) h.t5;
  }

  pub sets_3 : Holds d (set (d + 3) v temps) v0 v1 v2 v v4 v5
  sets_3 = record {
    t0 = keeps (d + 3) d v0 (λ e. omega arith) h.t0;
    t1 = keeps (d + 3) (d + 1) v1 (λ e. omega arith) h.t1;
    t2 = keeps (d + 3) (d + 2) v2 (λ e. omega arith) h.t2;
    t3 = set_same (d + 3) v temps;
    t4 = keeps (d + 3) (d + 4) v4 (λ e. omega arith) h.t4;
    t5 = keeps (d + 3) (d + 5) v5 (λ e. omega arith) h.t5;
  }

  pub sets_4 : Holds d (set (d + 4) v temps) v0 v1 v2 v3 v v5
  sets_4 = record {
    t0 = keeps (d + 4) d v0 (λ e. omega arith) h.t0;
    t1 = keeps (d + 4) (d + 1) v1 (λ e. omega arith) h.t1;
    t2 = keeps (d + 4) (d + 2) v2 (λ e. omega arith) h.t2;
    t3 = keeps (d + 4) (d + 3) v3 (λ e. omega arith) h.t3;
    t4 = set_same (d + 4) v temps;
    t5 = keeps (d + 4) (d + 5) v5 (λ e. omega arith) h.t5;
  }

  pub sets_5 : Holds d (set (d + 5) v temps) v0 v1 v2 v3 v4 v
  sets_5 = record {
    t0 = keeps (d + 5) d v0 (λ e. omega arith) h.t0;
    t1 = keeps (d + 5) (d + 1) v1 (λ e. omega arith) h.t1;
    t2 = keeps (d + 5) (d + 2) v2 (λ e. omega arith) h.t2;
    t3 = keeps (d + 5) (d + 3) v3 (λ e. omega arith) h.t3;
    t4 = keeps (d + 5) (d + 4) v4 (λ e. omega arith) h.t4;
    t5 = set_same (d + 5) v temps;
  }

module _ (world : MidWorld) (f : Frame) where
  -- ---- single steps

  -- from one position to another one, with these temporaries and this state behind it
  abbrev pub Does : ℕ → (ℕ → ℕ) → State → ℕ → (ℕ → ℕ) → State → Type 0
  Does p temps s p' temps' s' = act world (stand f p temps s) ≡ on (stand f p' temps' s')

  placed : (p p' : ℕ) (temps temps' : ℕ → ℕ) (s s' : State) → p + 1 ≡ p' → Does p temps s (p + 1) temps' s' → Does p temps s p' temps' s'
  placed p p' temps temps' s s' e h = h ∙ ap (λ (q : ℕ). on (stand f q temps' s')) e

  pub consts : (p p' to v : ℕ) (temps : ℕ → ℕ) (s : State) → Has f.steps p (const_step to v) → p + 1 ≡ p' → Does p temps s p' (set to v temps) s
  consts p p' to v temps s has e = placed p p' temps (set to v temps) s s e (acts world (stand f p temps s) (const_step to v) has)

  pub jumps : (p p' : ℕ) (temps : ℕ → ℕ) (s : State) → Has f.steps p (jump_step p') → Does p temps s p' temps s
  jumps p p' temps s has = acts world (stand f p temps s) (jump_step p') has

  pub binaries : (p p' to left right x y z : ℕ) (op : BinaryOp) (temps : ℕ → ℕ) (s : State) → Has f.steps p (binary_step to op left right) → p + 1 ≡ p' →
      temps left ≡ x → temps right ≡ y → binary_word op x y ≡ z → Does p temps s p' (set to z temps) s
  binaries p p' to left right x y z op temps s has e l r w =
      placed p p' temps (set to z temps) s s e
      (acts world (stand f p temps s) (binary_step to op left right) has
      ∙ ap (λ (u : ℕ). gives to (binary_word op u (temps right)) (stand f p temps s)) l
      ∙ ap (λ (u : ℕ). gives to (binary_word op x u) (stand f p temps s)) r
      ∙ ap (λ (u : ℕ). gives to u (stand f p temps s)) w)

  pub compares : (p p' to left right x y z : ℕ) (temps : ℕ → ℕ) (s : State) → Has f.steps p (compare_step to Below left right) → p + 1 ≡ p' →
      temps left ≡ x → temps right ≡ y → compare_words Below x y ≡ z → Does p temps s p' (set to z temps) s
  compares p p' to left right x y z temps s has e l r w =
      placed p p' temps (set to z temps) s s e
      (acts world (stand f p temps s) (compare_step to Below left right) has
      ∙ ap (λ (u : ℕ). gives to (compare_words Below u (temps right)) (stand f p temps s)) l
      ∙ ap (λ (u : ℕ). gives to (compare_words Below x u) (stand f p temps s)) r
      ∙ ap (λ (u : ℕ). gives to u (stand f p temps s)) w)

  pub branches : (p label condition : ℕ) (temps : ℕ → ℕ) (s : State) → Has f.steps p (branch_step condition label) → temps condition ≡ 1 → Does p temps s label temps s
  branches p label condition temps s has one =
      acts world (stand f p temps s) (branch_step condition label) has
      ∙ ap (λ (u : ℕ). if u == 0 then go_on (stand f p temps s) else go_to label (stand f p temps s)) one

  pub passes : (p p' label condition : ℕ) (temps : ℕ → ℕ) (s : State) → Has f.steps p (branch_step condition label) → temps condition ≡ 0 → p + 1 ≡ p' → Does p temps s p' temps s
  passes p p' label condition temps s has none e =
      placed p p' temps temps s s e
      (acts world (stand f p temps s) (branch_step condition label) has
      ∙ ap (λ (u : ℕ). if u == 0 then go_on (stand f p temps s) else go_to label (stand f p temps s)) none)

  pub loads : (p p' to address a : ℕ) (width : Width) (bytes : List ℕ) (temps : ℕ → ℕ) (s : State) → Has f.steps p (load_step to width address) → p + 1 ≡ p' → temps address ≡ a →
      loaded f.touched s.memory a (width_size width) ≡ Some bytes → Does p temps s p' (set to (number_of bytes) temps) s
  loads p p' to address a width bytes temps s has e at h =
      placed p p' temps (set to (number_of bytes) temps) s s e
      (acts world (stand f p temps s) (load_step to width address) has
      ∙ ap (λ (u : ℕ). gives_found to (option_map number_of (loaded f.touched s.memory u (width_size width))) (stand f p temps s)) at
      ∙ ap (λ (o : Option (List ℕ)). gives_found to (option_map number_of o) (stand f p temps s)) h)

  pub stores : (p p' address value a v : ℕ) (width : Width) (bytes : List ℕ) (temps : ℕ → ℕ) (s : State) → Has f.steps p (store_step width address value) → p + 1 ≡ p' → temps address ≡ a → temps value ≡ v →
      bytes_of (width_size width) v ≡ bytes → all_in f.touched a (length bytes) ≡ true → Does p temps s p' temps (record s { memory = put s.memory a bytes })
  stores p p' address value a v width bytes temps s has e at what are touched =
      let c = stand f p temps s in
      placed p p' temps temps s (record s { memory = put s.memory a bytes }) e
      (acts world c (store_step width address value) has
      ∙ ap (λ (u : ℕ). with_memory (stored f.touched s.memory u (bytes_of (width_size width) (temps value))) c) at
      ∙ ap (λ (u : ℕ). with_memory (stored f.touched s.memory a (bytes_of (width_size width) u)) c) what
      ∙ ap (λ (xs : List ℕ). with_memory (stored f.touched s.memory a xs) c) are
      ∙ ap (λ (b : Bool). with_memory (if b then Some (put s.memory a bytes) else None) c) touched)

  -- ---- stretches

  -- so many steps lead to a position, a state, and temporaries of which something is known
  pub record Way (p : ℕ) (temps : ℕ → ℕ) (s : State) (n p' : ℕ) (s' : State) (wanted : (ℕ → ℕ) → Type 0) : Type 0 where
    pub temps_after : ℕ → ℕ
    pub leads : Leads (act world) (stand f p temps s) n (stand f p' temps_after s')
    pub holds : wanted temps_after

  pub arrived : (p : ℕ) (temps : ℕ → ℕ) (s : State) (wanted : (ℕ → ℕ) → Type 0) → wanted temps → Way p temps s 0 p s wanted
  arrived p temps s wanted h = record { temps_after = temps; leads = none_leads (act world) (stand f p temps s); holds = h }

  pub way_on : (p : ℕ) (temps : ℕ → ℕ) (s : State) (p1 : ℕ) (temps1 : ℕ → ℕ) (s1 : State) (n p' : ℕ) (s' : State) (wanted : (ℕ → ℕ) → Type 0) →
      Does p temps s p1 temps1 s1 → Way p1 temps1 s1 n p' s' wanted → Way p temps s (1 + n) p' s' wanted
  way_on p temps s p1 temps1 s1 n p' s' wanted first rest = record {
    temps_after = rest.temps_after;
    leads = step_on (act world) (stand f p temps s) (stand f p1 temps1 s1) n (stand f p' rest.temps_after s') first rest.leads;
    holds = rest.holds;
  }

  -- one way after another
  pub way_then : (p : ℕ) (temps : ℕ → ℕ) (s : State) (n p1 : ℕ) (s1 : State) (wanted1 : (ℕ → ℕ) → Type 0) (m p' : ℕ) (s' : State) (wanted : (ℕ → ℕ) → Type 0) →
      Way p temps s n p1 s1 wanted1 → ((temps1 : ℕ → ℕ) → wanted1 temps1 → Way p1 temps1 s1 m p' s' wanted) → Way p temps s (n + m) p' s' wanted
  way_then p temps s n p1 s1 wanted1 m p' s' wanted first rest =
      let r = rest first.temps_after first.holds in
      record {
        temps_after = r.temps_after;
        leads = leads_on (act world) (stand f p temps s) n (stand f p1 first.temps_after s1) m (stand f p' r.temps_after s') first.leads r.leads;
        holds = r.holds;
      }

  pub way_as : (p : ℕ) (temps : ℕ → ℕ) (s : State) (n m p' : ℕ) (s' : State) (wanted : (ℕ → ℕ) → Type 0) → n ≡ m → Way p temps s n p' s' wanted → Way p temps s m p' s' wanted
  way_as p temps s n m p' s' wanted same way = record {
    temps_after = way.temps_after;
    leads = leads_as (act world) (stand f p temps s) n m (stand f p' way.temps_after s') same way.leads;
    holds = way.holds;
  }
