-- Each procedure of a program becomes a block of its text.
use Rattle.std.proofs.Common.{◌≡◌, ℕ, zero, suc, ◌+◌, ◌*◌, ◌<◌, ◌≤◌, ◌⊎◌, inl, inr, List, [], ◌∷◌, ◌++◌, length, arith, ap, ◌∙◌, sym, subst, refl, append_assoc, length-append}
use Rattle.std.specs.Prelude.{Some, slice_get}
use Rattle.rv_table.specs.Run.{Site}
use Rattle.rv_table.specs.declared.inst.Inst.{Inst}
use Rattle.odc_mid.specs.Tree.{Proc, Whole}
use Rattle.rv_emit.specs.Code.{text_start, start_size, enter_size, entry_of, block_code, proc_size, proc_sites, steps_calls, procs_code, procs_size, procs_sites, procs_calls, procs_before, start_code, code_of, sites_of, calls_of}
use Rattle.rv_emit.specs.Encoded.{IsEncoded}
use Rattle.rv_emit.specs.Layout.{IsShort}
use Rattle.rv_emit.specs.Emitted.{Becomes, IsEmitted}
use Rattle.rv_emit.proofs.Placed.{block_long, code_long, few_steps_sites}

-- ---- the block of each procedure

-- blocks one behind the other, with what stands in front of them
pub becomes : (w : Whole) (at : ℕ) (ps : List Proc) (before : List Inst) (sites : List Site) (calls : List ℕ) → at ≡ text_start + 4 * length before → (f : ℕ) (p : Proc) → slice_get ps f ≡ Some p →
    Becomes (entry_of w) w.addresses (at + 4 * procs_before ps f) p (before ++ procs_code w at (length sites) ps) (sites ++ procs_sites ps) (calls ++ procs_calls at ps)
becomes w at [] before sites calls place f p e = cc
becomes w at (x ∷ ps) before sites calls place zero p e =
    let same : x ≡ p = cc in
    let none : at ≡ at + 0 = omega arith in
    let P : Proc → Type 0 = λ y. Becomes (entry_of w) w.addresses (at + 0) y (before ++ procs_code w at (length sites) (x ∷ ps)) (sites ++ procs_sites (x ∷ ps)) (calls ++ procs_calls at (x ∷ ps)) in
    let Q : ℕ → Type 0 = λ n. Becomes (entry_of w) w.addresses n x (before ++ procs_code w at (length sites) (x ∷ ps)) (sites ++ procs_sites (x ∷ ps)) (calls ++ procs_calls at (x ∷ ps)) in
    subst P same (subst Q none (record {
      before = before;
      behind = procs_code w (at + 4 * proc_size x) (length sites + length (proc_sites x)) ps;
      sites_before = sites;
      sites_behind = procs_sites ps;
      calls_before = calls;
      calls_behind = procs_calls (at + 4 * proc_size x) ps;
      place = place;
      block = refl;
      told = refl;
      called = refl;
    }))
becomes w at (x ∷ ps) before sites calls place (suc f) p e =
    let next : ℕ = at + 4 * proc_size x in
    let block : List Inst = block_code (entry_of w) w.addresses at (length sites) x in
    let here : List ℕ = steps_calls (at + 4 * enter_size) x.steps in
    let place' : next ≡ text_start + 4 * length (before ++ block) = omega (arith, place, length-append before block, block_long (entry_of w) w.addresses at (length sites) x) in
    let rest = becomes w next ps (before ++ block) (sites ++ proc_sites x) (calls ++ here) place' f p e in
    let from : next + 4 * procs_before ps f ≡ at + 4 * (proc_size x + procs_before ps f) = omega arith in
    let count : length (sites ++ proc_sites x) ≡ length sites + length (proc_sites x) = length-append sites (proc_sites x) in
    let code_is : (before ++ block) ++ procs_code w next (length (sites ++ proc_sites x)) ps ≡ before ++ procs_code w at (length sites) (x ∷ ps) =
    ap (λ (n : ℕ). (before ++ block) ++ procs_code w next n ps) count ∙ append_assoc before block (procs_code w next (length sites + length (proc_sites x)) ps) in
    let sites_are : (sites ++ proc_sites x) ++ procs_sites ps ≡ sites ++ procs_sites (x ∷ ps) = append_assoc sites (proc_sites x) (procs_sites ps) in
    let calls_are : (calls ++ here) ++ procs_calls next ps ≡ calls ++ procs_calls at (x ∷ ps) = append_assoc calls here (procs_calls next ps) in
    let A : ℕ → Type 0 = λ n. Becomes (entry_of w) w.addresses n p ((before ++ block) ++ procs_code w next (length (sites ++ proc_sites x)) ps) ((sites ++ proc_sites x) ++ procs_sites ps) ((calls ++ here) ++ procs_calls next ps) in
    let B : List Inst → Type 0 = λ c. Becomes (entry_of w) w.addresses (at + 4 * (proc_size x + procs_before ps f)) p c ((sites ++ proc_sites x) ++ procs_sites ps) ((calls ++ here) ++ procs_calls next ps) in
    let C : List Site → Type 0 = λ s. Becomes (entry_of w) w.addresses (at + 4 * (proc_size x + procs_before ps f)) p (before ++ procs_code w at (length sites) (x ∷ ps)) s ((calls ++ here) ++ procs_calls next ps) in
    let D : List ℕ → Type 0 = λ c. Becomes (entry_of w) w.addresses (at + 4 * (proc_size x + procs_before ps f)) p (before ++ procs_code w at (length sites) (x ∷ ps)) (sites ++ procs_sites (x ∷ ps)) c in
    subst D calls_are (subst C sites_are (subst B code_is (subst A from rest)))

-- ---- entries

before_grows : (ps : List Proc) (f g : ℕ) → f < g → g ≤ length ps → procs_before ps f < procs_before ps g
before_grows [] f g h k = absurd (omega arith)
before_grows (p ∷ ps) f zero h k = absurd (omega arith)
before_grows (p ∷ ps) zero (suc g) h k = omega arith
before_grows (p ∷ ps) (suc f) (suc g) h k = let rest : procs_before ps f < procs_before ps g = before_grows ps f g (omega arith) (omega arith) in omega (arith, rest)

-- two procedures have different entries
entries_apart : (w : Whole) (f g : ℕ) → f < length w.procedures → g < length w.procedures → entry_of w f ≡ entry_of w g → f ≡ g
entries_apart w f g h k e = by (grind arith)
  where
    by : (f < g) ⊎ ((f ≡ g) ⊎ (g < f)) → f ≡ g
    by (inl l) = absurd (omega (arith, e, before_grows w.procedures f g l (omega (arith, k))))
    by (inr (inl same)) = same
    by (inr (inr l)) = absurd (omega (arith, e, before_grows w.procedures g f l (omega (arith, h))))

few_procs_sites : (ps : List Proc) → length (procs_sites ps) ≤ procs_size ps
few_procs_sites [] = omega arith
few_procs_sites (p ∷ ps) =
    let rest : length (procs_sites ps) ≤ procs_size ps = few_procs_sites ps in
    omega (arith, rest, few_steps_sites p.steps, length-append (proc_sites p) (procs_sites ps))

-- the whole text
pub emitted : (w : Whole) → IsShort w → (text : List ℕ) (sites : List Site) (calls : List ℕ) → IsEncoded text (code_of w) → sites ≡ sites_of w → calls ≡ calls_of w → IsEmitted w (entry_of w) text sites calls
emitted w short text sites calls means told called = record {
  code = code_of w;
  blocks = procs_code w (text_start + 4 * start_size) 0 w.procedures;
  encoded = means;
  start = refl;
  procedures = λ f p found.
      let block : Becomes (entry_of w) w.addresses (text_start + 4 * start_size + 4 * procs_before w.procedures f) p (code_of w) (sites_of w) (calls_of w) =
      becomes w (text_start + 4 * start_size) w.procedures (start_code (entry_of w w.main)) [] [] refl f p found in
      let place : text_start + 4 * start_size + 4 * procs_before w.procedures f ≡ entry_of w f = omega arith in
      let A : ℕ → Type 0 = λ n. Becomes (entry_of w) w.addresses n p (code_of w) (sites_of w) (calls_of w) in
      let B : List Site → Type 0 = λ s. Becomes (entry_of w) w.addresses (entry_of w f) p (code_of w) s (calls_of w) in
      let C : List ℕ → Type 0 = λ c. Becomes (entry_of w) w.addresses (entry_of w f) p (code_of w) sites c in
      subst C (sym called) (subst B (sym told) (subst A place block));
  short = omega (arith, short, code_long w);
  few = (let count : length sites ≡ length (sites_of w) = ap length told in omega (arith, short, count, few_procs_sites w.procedures));
  apart = entries_apart w;
}
