-- The text of a program holds the code of each of its procedures, with its sites and calls.
use Rattle.std.proofs.Common.{◌≡◌, ℕ, zero, suc, ◌+◌, ◌*◌, ◌%◌, ◌^◌, ◌<◌, ◌≤◌, Bool, true, false, List, [], ◌∷◌, ◌++◌, length, arith, ap, ◌∙◌, sym, subst, refl, append_assoc, length-append}
use Rattle.std.specs.Prelude.{pos, Some, slice_get, ◌==◌, ◌||◌}
use Rattle.std.proofs.Math.Nat.{add-zero}
use Rattle.std.proofs.lemmas.Bool.Decides.{nat_tests}
use Rattle.rv_table.specs.Run.{Site}
use Rattle.rv_table.specs.State.{listed}
use Rattle.rv_table.specs.declared.inst.Inst.{Inst}
use Rattle.rv_table.specs.declared.inst.Inst.TheVariants.{Jalr}
use Rattle.odc_core.specs.declared.tree.UnaryOp.TheVariants.{Complement, SignByte, SignHalf, SignWord}
use Rattle.odc_core.specs.declared.tree.Comparison.TheVariants.{Equal, Different, Less, Below}
use Rattle.odc_mid.specs.declared.tree.Named.TheVariants.{Variable as OfVariable, Stored, Procedure}
use Rattle.odc_mid.specs.declared.tree.SystemCall.TheVariants.{Read, Write, Exit}
use Rattle.odc_mid.specs.declared.tree.MidStep.{MidStep}
use Rattle.odc_mid.specs.declared.tree.MidStep.TheVariants.{Const, Address, Move, Unary, Binary, Compare, Load, Store, Jump, Branch, Call, CallValue, Return, Check as CheckStep, System}
use Rattle.odc_mid.specs.Tree.{Proc, Whole}
use Rattle.odc_mid.specs.Well.{IsWell, AllWell, IsWellProc}
use Rattle.rv_emit.specs.Code.{number_code, load_slot, store_slot, text_start, Around, around_of, entry_of, step_code, step_size, step_sites, step_calls, steps_code, steps_size, steps_sites, steps_calls, size_before, enter_code, enter_size, proc_code, block_code, proc_size, proc_sites, procs_code, procs_size, procs_sites, procs_calls, procs_before, start_code, start_size, code_of, sites_of, calls_of, arguments_code, registers_code, registers_size, guard_code, pass_code}
use Rattle.rv_emit.specs.Layout.{HasSlots, AllHaveSlots}
use Rattle.rv_emit.specs.Emitted.{Becomes, IsEmitted}
use Rattle.rv_emit.proofs.Flat.{Setting, Stands, stands_parts}
use Rattle.rv_emit.proofs.simulation.Sims.{stands_long}
use Rattle.rv_emit.proofs.simulation.Ties.{SitesAt, AreListed, HasStep, HasProc, Built}

-- ---- lengths

arguments_long : (frame : ℕ) (ts : List ℕ) → length (arguments_code frame ts) ≡ 8 * length ts
arguments_long frame [] = refl
arguments_long frame (t ∷ ts) = let rest : length (arguments_code frame ts) ≡ 8 * length ts = arguments_long frame ts in omega (arith, rest)

pub pass_long : (frame : ℕ) (ts : List ℕ) (more : List Inst) → length (pass_code frame ts ++ more) ≡ 13 + 8 * length ts + length more
pass_long frame ts more =
    omega (arith, length-append (pass_code frame ts) more, length-append (guard_code (length ts)) (arguments_code frame ts), arguments_long frame ts)

registers_long : (frame : ℕ) (ts : List ℕ) → length (registers_code frame ts) ≡ registers_size ts
registers_long frame [] = refl
registers_long frame (a ∷ []) = refl
registers_long frame (a ∷ b ∷ []) = refl
registers_long frame (a ∷ b ∷ c ∷ []) = refl
registers_long frame (a ∷ b ∷ c ∷ d ∷ []) = refl
registers_long frame (a ∷ b ∷ c ∷ d ∷ e ∷ []) = refl
registers_long frame (a ∷ b ∷ c ∷ d ∷ e ∷ f ∷ []) = refl
registers_long frame (a ∷ b ∷ c ∷ d ∷ e ∷ f ∷ g ∷ ts) = refl

pub step_long : (around : Around) (at site : ℕ) (s : MidStep) → length (step_code around at site s) ≡ step_size s
step_long around at site (Const to v) = refl
step_long around at site (Address to (OfVariable x)) = refl
step_long around at site (Address to (Stored n)) = refl
step_long around at site (Address to (Procedure f)) = refl
step_long around at site (Move to u) = refl
step_long around at site (Unary to Complement u) = refl
step_long around at site (Unary to SignByte u) = refl
step_long around at site (Unary to SignHalf u) = refl
step_long around at site (Unary to SignWord u) = refl
step_long around at site (Binary to op u v) = refl
step_long around at site (Compare to Equal u v) = refl
step_long around at site (Compare to Different u v) = refl
step_long around at site (Compare to Less u v) = refl
step_long around at site (Compare to Below u v) = refl
step_long around at site (Load to width u) = refl
step_long around at site (Store width u v) = refl
step_long around at site (Jump label) = refl
step_long around at site (Branch u label) = refl
step_long around at site (Call to f arguments) =
    pass_long around.frame arguments.items (number_code 6 (around.entries f) ++ (Jalr 1 6 (pos 0) ∷ store_slot around.frame 10 to)) ∙ omega arith
step_long around at site (CallValue to target arguments true) =
    let frame : ℕ = around.frame in
    let ts : List ℕ = arguments.items in
    let last : List Inst = Jalr 1 5 (pos 0) ∷ store_slot frame 10 to in
    omega (
      arith,
      length-append (load_slot frame 5 target) (registers_code frame ts ++ (pass_code frame ts ++ last)),
      length-append (registers_code frame ts) (pass_code frame ts ++ last),
      registers_long frame ts,
      pass_long frame ts last,
    )
step_long around at site (CallValue to target arguments false) =
    let frame : ℕ = around.frame in
    let ts : List ℕ = arguments.items in
    let last : List Inst = Jalr 1 9 (pos 0) ∷ store_slot frame 10 to in
    omega (arith, length-append (load_slot frame 9 target) (pass_code frame ts ++ last), pass_long frame ts last)
step_long around at site (Return u) = refl
step_long around at site (CheckStep u which source) = refl
step_long around at site (System (Read to u v)) = refl
step_long around at site (System (Write d u v)) = refl
step_long around at site (System (Exit u)) = refl

pub steps_long : (around : Around) (at site : ℕ) (ss : List MidStep) → length (steps_code around at site ss) ≡ steps_size ss
steps_long around at site [] = refl
steps_long around at site (s ∷ ss) =
    let more : List Inst = steps_code around (at + 4 * step_size s) (site + length (step_sites s)) ss in
    let rest : length more ≡ steps_size ss = steps_long around (at + 4 * step_size s) (site + length (step_sites s)) ss in
    omega (arith, rest, step_long around at site s, length-append (step_code around at site s) more)

pub proc_long : (around : Around) (at site : ℕ) (p : Proc) → length (proc_code around at site p) ≡ proc_size p
proc_long around at site p =
    omega (arith, steps_long around (at + 4 * enter_size) (site + 1) p.steps, length-append (enter_code p.frame site) (steps_code around (at + 4 * enter_size) (site + 1) p.steps))

pub block_long : (entries : ℕ → ℕ) (addresses : List ℕ) (at site : ℕ) (p : Proc) → length (block_code entries addresses at site p) ≡ proc_size p
block_long entries addresses at site p = proc_long (around_of entries addresses at p) at site p

procs_long : (w : Whole) (at site : ℕ) (ps : List Proc) → length (procs_code w at site ps) ≡ procs_size ps
procs_long w at site [] = refl
procs_long w at site (p ∷ ps) =
    let more : List Inst = procs_code w (at + 4 * proc_size p) (site + length (proc_sites p)) ps in
    let rest : length more ≡ procs_size ps = procs_long w (at + 4 * proc_size p) (site + length (proc_sites p)) ps in
    omega (arith, rest, block_long (entry_of w) w.addresses at site p, length-append (block_code (entry_of w) w.addresses at site p) more)

pub code_long : (w : Whole) → length (code_of w) ≡ start_size + procs_size w.procedures
code_long w =
    omega (arith, procs_long w (text_start + 4 * start_size) 0 w.procedures, length-append (start_code (entry_of w w.main)) (procs_code w (text_start + 4 * start_size) 0 w.procedures))

-- ---- sites and calls

get_middle : {A : Type 0} (front : List A) (x : A) (rest : List A) → slice_get (front ++ (x ∷ rest)) (length front) ≡ Some x
get_middle [] x rest = refl
get_middle (y ∷ front) x rest = get_middle front x rest

sites_behind : (front xs : List Site) → SitesAt (front ++ xs) (length front) xs
sites_behind front [] = tt
sites_behind front (x ∷ xs) =
    let next : length (front ++ (x ∷ [])) ≡ suc (length front) = omega (arith, length-append front (x ∷ [])) in
    let P : List Site → Type 0 = λ all. SitesAt all (length (front ++ (x ∷ []))) xs in
    let Q : ℕ → Type 0 = λ k. SitesAt (front ++ (x ∷ xs)) k xs in
    (get_middle front x xs, subst Q next (subst P (append_assoc front (x ∷ []) xs) (sites_behind (front ++ (x ∷ [])) xs)))

sites_parts : (sites : List Site) (k : ℕ) (xs ys : List Site) → SitesAt sites k (xs ++ ys) → SitesAt sites k xs × SitesAt sites (k + length xs) ys
sites_parts sites k [] ys h = let P : ℕ → Type 0 = λ n. SitesAt sites n ys in let same : k ≡ k + 0 = omega arith in (tt, subst P same h)
sites_parts sites k (x ∷ xs) ys h =
    let rest = sites_parts sites (suc k) xs ys h.1 in
    let P : ℕ → Type 0 = λ n. SitesAt sites n ys in
    let same : suc k + length xs ≡ k + suc (length xs) = omega arith in
    ((h.0, rest.0), subst P same rest.1)

listed_middle : (front : List ℕ) (c : ℕ) (rest : List ℕ) → listed (front ++ (c ∷ rest)) c ≡ true
listed_middle [] c rest = let same : (c == c) ≡ true = grind (arith, nat_tests) in ap (λ (z : Bool). z || listed rest c) same
listed_middle (x ∷ front) c rest = or_true (x == c) (listed (front ++ (c ∷ rest)) c) (listed_middle front c rest)
  where
    or_true : (i j : Bool) → j ≡ true → (i || j) ≡ true
    or_true true j h = refl
    or_true false j h = h

listed_behind : (front xs : List ℕ) → AreListed (front ++ xs) xs
listed_behind front [] = tt
listed_behind front (x ∷ xs) =
    let P : List ℕ → Type 0 = λ all. AreListed all xs in
    (listed_middle front x xs, subst P (append_assoc front (x ∷ []) xs) (listed_behind (front ++ (x ∷ [])) xs))

listed_parts : (calls xs ys : List ℕ) → AreListed calls (xs ++ ys) → AreListed calls xs × AreListed calls ys
listed_parts calls [] ys h = (tt, h)
listed_parts calls (x ∷ xs) ys h = let rest = listed_parts calls xs ys h.1 in ((h.0, rest.0), rest.1)

pub few_sites : (s : MidStep) → length (step_sites s) ≤ step_size s
few_sites (Const to v) = omega arith
few_sites (Address to of) = omega arith
few_sites (Move to u) = omega arith
few_sites (Unary to op u) = omega arith
few_sites (Binary to op u v) = omega arith
few_sites (Compare to op u v) = omega arith
few_sites (Load to width u) = omega arith
few_sites (Store width u v) = omega arith
few_sites (Jump label) = omega arith
few_sites (Branch u label) = omega arith
few_sites (Call to f arguments) = omega arith
few_sites (CallValue to target arguments marked) = omega arith
few_sites (Return u) = omega arith
few_sites (CheckStep u which source) = omega arith
few_sites (System asked) = omega arith

pub few_steps_sites : (ss : List MidStep) → length (steps_sites ss) ≤ steps_size ss
few_steps_sites [] = omega arith
few_steps_sites (s ∷ ss) = let rest : length (steps_sites ss) ≤ steps_size ss = few_steps_sites ss in omega (arith, rest, few_sites s, length-append (step_sites s) (steps_sites ss))

pub before_small : (ss : List MidStep) (i : ℕ) → size_before ss i ≤ steps_size ss
before_small ss zero = omega arith
before_small [] (suc i) = omega arith
before_small (s ∷ ss) (suc i) = let rest : size_before ss i ≤ steps_size ss = before_small ss i in omega (arith, rest)

-- ---- steps and procedures

steps_placed : (m : Setting) (around : Around) (at end site : ℕ) (ss : List MidStep) → Stands m.code at (steps_code around at site ss) end → SitesAt m.sites site (steps_sites ss) →
    AreListed m.calls (steps_calls at ss) → site + length (steps_sites ss) < 2 ^ 31 → (i : ℕ) (s : MidStep) → slice_get ss i ≡ Some s → HasStep m around s (at + 4 * size_before ss i) (at + 4 * size_before ss (i + 1))
steps_placed m around at end site [] stands sites calls small i s e = cc
steps_placed m around at end site (x ∷ ss) stands sites calls small i s e = by i e (λ k q. steps_placed m around next end (site + length (step_sites x)) ss rest_code rest_sites.1 rest_calls.1 rest_small k s q)
  where
    next : ℕ
    next = at + 4 * step_size x

    more : List Inst
    more = steps_code around (at + 4 * step_size x) (site + length (step_sites x)) ss

    parts : (middle : ℕ) × Stands m.code at (step_code around at site x) middle × Stands m.code middle (steps_code around (at + 4 * step_size x) (site + length (step_sites x)) ss) end
    parts = stands_parts m.code at (step_code around at site x) more end stands

    middle_is : parts.0 ≡ at + 4 * step_size x
    middle_is = stands_long m.code at (step_code around at site x) parts.0 parts.1 ∙ ap (λ (n : ℕ). at + 4 * n) (step_long around at site x)

    rest_code : Stands m.code (at + 4 * step_size x) (steps_code around (at + 4 * step_size x) (site + length (step_sites x)) ss) end
    rest_code = let P : ℕ → Type 0 = λ n. Stands m.code n (steps_code around (at + 4 * step_size x) (site + length (step_sites x)) ss) end in subst P middle_is parts.2

    rest_sites : SitesAt m.sites site (step_sites x) × SitesAt m.sites (site + length (step_sites x)) (steps_sites ss)
    rest_sites = sites_parts m.sites site (step_sites x) (steps_sites ss) sites

    rest_calls : AreListed m.calls (step_calls at x) × AreListed m.calls (steps_calls (at + 4 * step_size x) ss)
    rest_calls = listed_parts m.calls (step_calls at x) (steps_calls (at + 4 * step_size x) ss) calls

    rest_small : site + length (step_sites x) + length (steps_sites ss) < 2 ^ 31
    rest_small = omega (arith, small, length-append (step_sites x) (steps_sites ss))

    here : HasStep m around x (at + 0) (at + 4 * (step_size x + 0))
    here =
        let P : ℕ → Type 0 = λ n. HasStep m around x n (at + 4 * (step_size x + 0)) in
        let Q : ℕ → Type 0 = λ n. HasStep m around x at n in
        let same : parts.0 ≡ at + 4 * (step_size x + 0) = middle_is ∙ omega arith in
        let none : at ≡ at + 0 = omega arith in
        subst P none (subst Q same (record { site = site; small = omega (arith, small); code = parts.1; sites = rest_sites.0; calls = rest_calls.0 }))

    by : (i : ℕ) → slice_get (x ∷ ss) i ≡ Some s → ((k : ℕ) → slice_get ss k ≡ Some s → HasStep m around s (at + 4 * step_size x + 4 * size_before ss k) (at + 4 * step_size x + 4 * size_before ss (k + 1))) →
        HasStep m around s (at + 4 * size_before (x ∷ ss) i) (at + 4 * size_before (x ∷ ss) (i + 1))
    by zero e rest =
        let same : x ≡ s = cc in
        let P : MidStep → Type 0 = λ y. HasStep m around y (at + 0) (at + 4 * (step_size x + 0)) in
        let Q : MidStep → Type 0 = λ y. HasStep m around s (at + 0) (at + 4 * (step_size x + 0)) in
        subst P same here
    by (suc i) e rest =
        let from : at + 4 * step_size x + 4 * size_before ss i ≡ at + 4 * (step_size x + size_before ss i) = omega arith in
        let one : suc i + 1 ≡ suc (i + 1) = omega arith in
        let to : at + 4 * step_size x + 4 * size_before ss (i + 1) ≡ at + 4 * size_before (x ∷ ss) (suc i + 1) =
        (let there : at + 4 * step_size x + 4 * size_before ss (i + 1) ≡ at + 4 * size_before (x ∷ ss) (suc (i + 1)) = omega arith in
        there ∙ ap (λ (n : ℕ). at + 4 * size_before (x ∷ ss) n) (sym one)) in
        let P : ℕ → Type 0 = λ n. HasStep m around s n (at + 4 * size_before (x ∷ ss) (suc i + 1)) in
        let Q : ℕ → Type 0 = λ n. HasStep m around s (at + 4 * step_size x + 4 * size_before ss i) n in
        subst P from (subst Q to (rest i e))

stands_all : (is front code : List Inst) → code ≡ front ++ is → Stands code (text_start + 4 * length front) is (text_start + 4 * (length front + length is))
stands_all [] front code e = ap (λ (n : ℕ). text_start + 4 * n) (sym (add-zero (length front)))
stands_all (i ∷ is) front code e =
    let next : text_start + 4 * length (front ++ (i ∷ [])) ≡ text_start + 4 * length front + 4 = omega (arith, length-append front (i ∷ [])) in
    let end : text_start + 4 * (length (front ++ (i ∷ [])) + length is) ≡ text_start + 4 * (length front + suc (length is)) = omega (arith, length-append front (i ∷ [])) in
    let P : ℕ → Type 0 = λ p. Stands code p is (text_start + 4 * (length front + suc (length is))) in
    let Q : ℕ → Type 0 = λ q. Stands code (text_start + 4 * length (front ++ (i ∷ []))) is q in (
      record { position = length front; place = refl; here = ap (λ (c : List Inst). slice_get c (length front)) e ∙ get_middle front i is },
      subst P next (subst Q end (stands_all is (front ++ (i ∷ [])) code (e ∙ sym (append_assoc front (i ∷ []) is)))),
    )

-- the block of a procedure that stands in the text, with its sites and calls
module _ (m : Setting) (w : Whole) (at : ℕ) (p : Proc) (block : Becomes m.entries w.addresses at p m.code m.sites m.calls) (few : length m.sites < 2 ^ 31) where
  abbrev around : Around
  around = around_of m.entries w.addresses at p

  abbrev site : ℕ
  site = length block.sites_before

  abbrev own : List Inst
  own = block_code m.entries w.addresses at site p

  own_long : length own ≡ proc_size p
  own_long = block_long m.entries w.addresses at site p

  inside : at + 4 * proc_size p ≤ text_start + 4 * length m.code
  inside =
      let whole : length m.code ≡ length block.before + (length own + length block.behind) =
      ap length block.block ∙ length-append block.before (own ++ block.behind) ∙ ap (λ (n : ℕ). length block.before + n) (length-append own block.behind) in
      omega (arith, whole, own_long, block.place)

  parts : (middle : ℕ) × Stands m.code at (block_code m.entries w.addresses at (length block.sites_before) p) middle × Stands m.code middle block.behind (text_start + 4 * (length block.before + length (own ++ block.behind)))
  parts =
      let P : ℕ → Type 0 = λ n. Stands m.code n (own ++ block.behind) (text_start + 4 * (length block.before + length (own ++ block.behind))) in
      stands_parts m.code at own block.behind (text_start + 4 * (length block.before + length (own ++ block.behind))) (subst P (sym block.place) (stands_all (own ++ block.behind) block.before m.code block.block))

  told : SitesAt m.sites site (proc_sites p)
  told =
      let P : List Site → Type 0 = λ all. SitesAt all site (proc_sites p ++ block.sites_behind) in
      (sites_parts m.sites site (proc_sites p) block.sites_behind (subst P (sym block.told) (sites_behind block.sites_before (proc_sites p ++ block.sites_behind)))).0

  called : AreListed m.calls (steps_calls (at + 4 * enter_size) p.steps)
  called =
      let P : List ℕ → Type 0 = λ all. AreListed all (steps_calls (at + 4 * enter_size) p.steps ++ block.calls_behind) in
      (listed_parts m.calls (steps_calls (at + 4 * enter_size) p.steps) block.calls_behind (subst P (sym block.called) (listed_behind block.calls_before (steps_calls (at + 4 * enter_size) p.steps ++ block.calls_behind)))).0

  small : site + length (proc_sites p) < 2 ^ 31
  small =
      let whole : length m.sites ≡ site + (length (proc_sites p) + length block.sites_behind) =
      ap length block.told ∙ length-append block.sites_before (proc_sites p ++ block.sites_behind) ∙ ap (λ (n : ℕ). site + n) (length-append (proc_sites p) block.sites_behind) in
      omega (arith, whole, few)

  -- the entry and the steps
  inner : (middle : ℕ) × Stands m.code at (enter_code p.frame site) middle × Stands m.code middle (steps_code around (at + 4 * enter_size) (site + 1) p.steps) parts.0
  inner = stands_parts m.code at (enter_code p.frame site) (steps_code around (at + 4 * enter_size) (site + 1) p.steps) parts.0 parts.1

  inner_is : inner.0 ≡ at + 4 * enter_size
  inner_is = stands_long m.code at (enter_code p.frame site) inner.0 inner.1

  body : Stands m.code (at + 4 * enter_size) (steps_code around (at + 4 * enter_size) (site + 1) p.steps) parts.0
  body = let P : ℕ → Type 0 = λ n. Stands m.code n (steps_code around (at + 4 * enter_size) (site + 1) p.steps) parts.0 in subst P inner_is inner.2

  body_sites : SitesAt m.sites (site + 1) (steps_sites p.steps)
  body_sites = let P : ℕ → Type 0 = λ n. SitesAt m.sites n (steps_sites p.steps) in let one : suc site ≡ site + 1 = omega arith in subst P one told.1

  step_there : (i : ℕ) (s : MidStep) → slice_get p.steps i ≡ Some s → HasStep m around s (at + 4 * (enter_size + size_before p.steps i)) (at + 4 * (enter_size + size_before p.steps (i + 1)))
  step_there i s q =
      let from : at + 4 * enter_size + 4 * size_before p.steps i ≡ at + 4 * (enter_size + size_before p.steps i) = omega arith in
      let to : at + 4 * enter_size + 4 * size_before p.steps (i + 1) ≡ at + 4 * (enter_size + size_before p.steps (i + 1)) = omega arith in
      let P : ℕ → Type 0 = λ n. HasStep m around s n (at + 4 * (enter_size + size_before p.steps (i + 1))) in
      let Q : ℕ → Type 0 = λ n. HasStep m around s (at + 4 * enter_size + 4 * size_before p.steps i) n in
      subst P from (subst Q to (steps_placed m around (at + 4 * enter_size) parts.0 (site + 1) p.steps body body_sites called (omega (arith, small)) i s q))

  pub proc_placed : HasProc m w at p
  proc_placed = record {
    site = site;
    small = omega (arith, small);
    enter = (let P : ℕ → Type 0 = λ n. Stands m.code at (enter_code p.frame site) n in subst P inner_is inner.1);
    told = told.0;
    steps = step_there;
    low = λ i l. omega (arith, inside, m.short, before_small p.steps i);
    even = λ i. omega (arith, block.place);
  }

  pub entry_small : at < 2 ^ 31
  entry_small = omega (arith, inside, m.short)

  pub entry_even : at % 4 ≡ 0
  entry_even = omega (arith, block.place)

-- ---- the whole program

abbrev pub setting : (w : Whole) (entries : ℕ → ℕ) (text : List ℕ) (sites : List Site) (calls : List ℕ) → IsEmitted w entries text sites calls → IsWell w → Setting
setting w entries text sites calls e well = record {
  code = e.code;
  entries = entries;
  store_size = w.store_size;
  sites = sites;
  calls = calls;
  short = e.short;
  low = well.low;
}

pub well_proc : (w : Whole) (ps : List Proc) (f : ℕ) (p : Proc) → AllWell w ps → slice_get ps f ≡ Some p → IsWellProc w p
well_proc w [] f p h e = cc
well_proc w (x ∷ ps) zero p h e = let same : x ≡ p = cc in let P : Proc → Type 0 = λ y. IsWellProc w y in subst P same h.0
well_proc w (x ∷ ps) (suc f) p h e = well_proc w ps f p h.1 e

pub slots_proc : (ps : List Proc) (f : ℕ) (p : Proc) → AllHaveSlots ps → slice_get ps f ≡ Some p → HasSlots p
slots_proc [] f p h e = cc
slots_proc (x ∷ ps) zero p h e = let same : x ≡ p = cc in let P : Proc → Type 0 = λ y. HasSlots y in subst P same h.0
slots_proc (x ∷ ps) (suc f) p h e = slots_proc ps f p h.1 e

pub before_all : (ps : List Proc) (f : ℕ) → procs_before ps f ≤ procs_size ps
before_all ps zero = omega arith
before_all [] (suc f) = omega arith
before_all (p ∷ ps) (suc f) = let rest : procs_before ps f ≤ procs_size ps = before_all ps f in omega (arith, rest)

pub built : (w : Whole) (entries : ℕ → ℕ) (text : List ℕ) (sites : List Site) (calls : List ℕ) (e : IsEmitted w entries text sites calls) (well : IsWell w) → AllHaveSlots w.procedures →
    Built (setting w entries text sites calls e well) w
built w entries text sites calls e well slots =
    let m : Setting = setting w entries text sites calls e well in
    let first : List Inst = start_code (entries w.main) in
    let end : ℕ = text_start + 4 * (0 + length (first ++ e.blocks)) in
    let all : Stands e.code (text_start + 0) (first ++ e.blocks) end = stands_all (first ++ e.blocks) [] e.code e.start in
    let begin : text_start + 0 ≡ text_start = omega arith in
    let B : ℕ → Type 0 = λ n. Stands e.code n (first ++ e.blocks) end in
    let parts = stands_parts e.code text_start first e.blocks end (subst B begin all) in
    let middle_is : parts.0 ≡ text_start + 40 = stands_long e.code text_start first parts.0 parts.1 in
    let Q : ℕ → Type 0 = λ n. Stands e.code text_start first n in
    record {
      procs = λ f p found. record {
        well = well_proc w w.procedures f p well.procedures found;
        slots = slots_proc w.procedures f p slots found;
        has = proc_placed m w (entries f) p (e.procedures f p found) e.few;
        entry = entry_small m w (entries f) p (e.procedures f p found) e.few;
        even = entry_even m w (entries f) p (e.procedures f p found) e.few;
      };
      addresses = well.addresses;
      store = refl;
      start = subst Q middle_is parts.1;
    }
