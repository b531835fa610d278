-- Filled holes: what a block becomes once its place, the entries, the addresses and the numbers of its
-- sites are known.
use Rattle.std.proofs.Common.{◌≡◌, ℕ, zero, suc, ◌+◌, ◌-◌, ◌*◌, ◌^◌, ◌<◌, ◌≤◌, Bool, true, false, cond, List, [], ◌∷◌, ◌++◌, length, take, drop, arith, ap, ◌∙◌, sym, subst, refl, append_assoc, length-append}
use Rattle.std.specs.Prelude.{pos, nat_lt, get_or}
use Rattle.std.proofs.lemmas.Bool.Decides.{nat_tests}
use Rattle.rv_table.specs.declared.inst.Inst.{Inst}
use Rattle.rv_table.specs.declared.inst.Inst.TheVariants.{Auipc, Jalr, Add, Addi, Beq, Bgeu, Bne, Ebreak, Sd, Sub}
use Rattle.odc_text.specs.declared.check.Check.TheVariants.{Stack}
use Rattle.odc_text.specs.Check.{number_of}
use Rattle.odc_core.specs.Frames.{stack_low}
use Rattle.odc_mid.specs.declared.tree.Named.TheVariants.{Variable as OfVariable, Stored, Procedure as OfProcedure}
use Rattle.odc_mid.specs.declared.tree.SystemCall.TheVariants.{Read, Write, Exit}
use Rattle.odc_mid.specs.declared.tree.MidStep.{MidStep}
use Rattle.odc_mid.specs.declared.tree.MidStep.TheVariants.{Const, Address as AddressStep, Move, Unary, Binary, Compare, Load, Store, Jump, Branch, Call, CallValue, Return, Check as CheckStep, System}
use Rattle.odc_mid.specs.Tree.{Proc}
use Rattle.rv_emit.specs.Code.{Around, around_of, number_code, distance, way_code, jump_code, load_slot, store_slot, pass_code, enter_code, enter_size, step_code, step_size, step_sites, steps_code, steps_size, steps_sites, size_before, proc_code, block_code}
use Rattle.rv_emit.specs.Blocks.{bare, bare_code, step_holes, steps_holes, proc_holes, hole_sites, hole_value, hole_register, filled}
use Rattle.rv_emit.specs.declared.unlinked.Hole.{Hole}
use Rattle.rv_emit.specs.declared.unlinked.HoleKind.TheVariants as hole
use Rattle.rv_emit.proofs.Placed.{step_long, pass_long}

-- ---- fronts of lists

take_front : {A : Type 0} (n : ℕ) (xs ys : List A) → length xs ≤ n → take n (xs ++ ys) ≡ xs ++ take (n - length xs) ys
take_front n [] ys h = let same : n ≡ n - 0 = omega arith in ap (λ (k : ℕ). take k ys) same
take_front zero (x ∷ xs) ys h = absurd (omega arith)
take_front (suc n) (x ∷ xs) ys h =
    let same : n - length xs ≡ suc n - suc (length xs) = omega arith in
    ap (λ zs. x ∷ zs) (take_front n xs ys (omega arith) ∙ ap (λ (k : ℕ). xs ++ take k ys) same)

drop_front : {A : Type 0} (n : ℕ) (xs ys : List A) → length xs ≤ n → drop n (xs ++ ys) ≡ drop (n - length xs) ys
drop_front n [] ys h = let same : n ≡ n - 0 = omega arith in ap (λ (k : ℕ). drop k ys) same
drop_front zero (x ∷ xs) ys h = absurd (omega arith)
drop_front (suc n) (x ∷ xs) ys h =
    let same : n - length xs ≡ suc n - suc (length xs) = omega arith in
    drop_front n xs ys (omega arith) ∙ ap (λ (k : ℕ). drop k ys) same

-- ---- the holes that are left begin at a position or behind it

abbrev pub BeginAt : ℕ → List Hole → Type 0
BeginAt next [] = Unit {0}
BeginAt next (h ∷ hs) = next ≤ h.at

begin_earlier : (n k : ℕ) (hs : List Hole) → n ≤ k → BeginAt k hs → BeginAt n hs
begin_earlier n k [] l h = tt
begin_earlier n k (x ∷ hs) l h = omega (arith, l, h)

module _ (entries : ℕ → ℕ) (addresses : List ℕ) where
  -- code without holes stays
  pub passes : (next site : ℕ) (hs : List Hole) (xs ys : List Inst) → BeginAt (next + length xs) hs → filled entries addresses next site hs (xs ++ ys) ≡ xs ++ filled entries addresses (next + length xs) site hs ys
  passes next site [] xs ys h = refl
  passes next site (x ∷ hs) xs ys h =
      let number : List Inst = number_code (hole_register x.kind) (hole_value entries addresses site x) in
      let more : List Inst → List Inst = λ zs. filled entries addresses (x.at + 4) (site + length (hole_sites x)) hs zs in
      let one : x.at - next - length xs ≡ x.at - (next + length xs) = omega arith in
      let two : x.at + 4 - next - length xs ≡ x.at + 4 - (next + length xs) = omega arith in
      let front : take (x.at - next) (xs ++ ys) ≡ xs ++ take (x.at - (next + length xs)) ys =
      take_front (x.at - next) xs ys (omega (arith, h)) ∙ ap (λ (n : ℕ). xs ++ take n ys) one in
      let back : drop (x.at + 4 - next) (xs ++ ys) ≡ drop (x.at + 4 - (next + length xs)) ys =
      drop_front (x.at + 4 - next) xs ys (omega (arith, h)) ∙ ap (λ (n : ℕ). drop n ys) two in
      ap (λ zs. zs ++ (number ++ more (drop (x.at + 4 - next) (xs ++ ys)))) front
      ∙ ap (λ zs. (xs ++ take (x.at - (next + length xs)) ys) ++ (number ++ more zs)) back
      ∙ append_assoc xs (take (x.at - (next + length xs)) ys) (number ++ more (drop (x.at + 4 - (next + length xs)) ys))

  -- a hole that stands next
  pub fills : (next site : ℕ) (h : Hole) (hs : List Hole) (xs ys : List Inst) → h.at ≡ next → length xs ≡ 4 →
      filled entries addresses next site (h ∷ hs) (xs ++ ys) ≡
      number_code (hole_register h.kind) (hole_value entries addresses site h) ++ filled entries addresses (next + 4) (site + length (hole_sites h)) hs ys
  fills next site h hs xs ys place long =
      let number : List Inst = number_code (hole_register h.kind) (hole_value entries addresses site h) in
      let more : ℕ → List Inst → List Inst = λ n zs. filled entries addresses n (site + length (hole_sites h)) hs zs in
      let none : h.at - next ≡ 0 = omega (arith, place) in
      let four : h.at + 4 - next ≡ 4 = omega (arith, place) in
      let rest : drop 4 (xs ++ ys) ≡ ys =
      (let zero : 4 - length xs ≡ 0 = omega (arith, long) in drop_front 4 xs ys (omega (arith, long)) ∙ ap (λ (n : ℕ). drop n ys) zero) in
      ap (λ (n : ℕ). take n (xs ++ ys) ++ (number ++ more (h.at + 4) (drop (h.at + 4 - next) (xs ++ ys)))) none
      ∙ ap (λ (n : ℕ). number ++ more (h.at + 4) (drop n (xs ++ ys))) four
      ∙ ap (λ zs. number ++ more (h.at + 4) zs) rest
      ∙ ap (λ (n : ℕ). number ++ more (n + 4) ys) place

-- ---- jumps tell only how far it is

far_same : (at from to : ℕ) → distance (at + from) (at + to) ≡ distance from to
far_same at from to = omega arith

way_same : (at from to : ℕ) → way_code (at + from) (at + to) ≡ way_code from to
way_same at from to =
    let same : nat_lt (at + to) (at + from) ≡ nat_lt to from = by (nat_lt to from) refl in
    ap (λ (z : Bool). cond z (Sub 6 6 7) (Add 6 6 7)) same
  where
    by : (z : Bool) → nat_lt to from ≡ z → nat_lt (at + to) (at + from) ≡ z
    by true e = grind (arith, nat_tests, e)
    by false e = grind (arith, nat_tests, e)

jump_same : (at from to : ℕ) → jump_code (at + from) (at + to) ≡ jump_code from to
jump_same at from to =
    ap (λ (n : ℕ). Auipc 6 (pos 0) ∷ (number_code 7 n ++ (way_code (at + from) (at + to) ∷ Jalr 0 6 (pos 0) ∷ []))) (far_same at from to)
    ∙ ap (λ (i : Inst). Auipc 6 (pos 0) ∷ (number_code 7 (distance from to) ++ (i ∷ Jalr 0 6 (pos 0) ∷ []))) (way_same at from to)

-- ---- steps

-- where the holes of steps begin
steps_begin : (at : ℕ) (ss : List MidStep) → BeginAt at (steps_holes at ss)
steps_begin at [] = tt
steps_begin at (s ∷ ss) = by s (begin_earlier at (at + step_size s) (steps_holes (at + step_size s) ss) (omega arith) (steps_begin (at + step_size s) ss))
  where
    by : (s : MidStep) → BeginAt at (steps_holes (at + step_size s) ss) → BeginAt at (step_holes at s ++ steps_holes (at + step_size s) ss)
    by (Const to v) h = h
    by (AddressStep to (OfVariable x)) h = h
    by (AddressStep to (Stored n)) h = omega arith
    by (AddressStep to (OfProcedure f)) h = omega arith
    by (Move to u) h = h
    by (Unary to op u) h = h
    by (Binary to op u v) h = h
    by (Compare to op u v) h = h
    by (Load to width u) h = h
    by (Store width u v) h = h
    by (Jump label) h = h
    by (Branch u label) h = h
    by (Call to f arguments) h = omega arith
    by (CallValue to target arguments true) h = h
    by (CallValue to target arguments false) h = h
    by (Return u) h = h
    by (CheckStep u which source) h = omega arith
    by (System (Read to u v)) h = h
    by (System (Write d u v)) h = h
    by (System (Exit u)) h = h

module _ (entries : ℕ → ℕ) (addresses : List ℕ) (base : ℕ) (p : Proc) where
  abbrev there : Around
  there = around_of entries addresses base p

  abbrev Turns : ℕ → ℕ → ℕ → MidStep → Type 0
  Turns at site own s =
      (hs : List Hole) (more : List Inst) → BeginAt (at + step_size s) hs →
      filled entries addresses at site (step_holes at s ++ hs) (step_code (bare p) (4 * at) own s ++ more) ≡
      step_code there (base + 4 * at) site s ++ filled entries addresses (at + step_size s) (site + length (step_sites s)) hs more

  -- a step without a hole, whose code is the same anywhere
  plain : (at site own : ℕ) (s : MidStep) → step_holes at s ≡ [] → step_sites s ≡ [] → step_code (bare p) (4 * at) own s ≡ step_code there (base + 4 * at) site s → Turns at site own s
  plain at site own s holes sites same hs more h =
      let long : length (step_code (bare p) (4 * at) own s) ≡ step_size s = step_long (bare p) (4 * at) own s in
      let begin : BeginAt (at + length (step_code (bare p) (4 * at) own s)) hs = (let P : ℕ → Type 0 = λ n. BeginAt (at + n) hs in subst P (sym long) h) in
      let none : site ≡ site + length (step_sites s) = omega (arith, ap (λ zs. length zs) sites) in
      ap (λ zs. filled entries addresses at site (zs ++ hs) (step_code (bare p) (4 * at) own s ++ more)) holes
      ∙ passes entries addresses at site hs (step_code (bare p) (4 * at) own s) more begin
      ∙ ap (λ (n : ℕ). step_code (bare p) (4 * at) own s ++ filled entries addresses (at + n) site hs more) long
      ∙ ap (λ (n : ℕ). step_code (bare p) (4 * at) own s ++ filled entries addresses (at + step_size s) n hs more) none
      ∙ ap (λ zs. zs ++ filled entries addresses (at + step_size s) (site + length (step_sites s)) hs more) same

  -- a step with one hole, between two pieces of code
  with_hole : (at site : ℕ) (front number behind : List Inst) (h : Hole) (hs : List Hole) (more : List Inst) → h.at ≡ at + length front → length number ≡ 4 → BeginAt (at + (length front + (4 + length behind))) hs →
      filled entries addresses at site (h ∷ hs) ((front ++ (number ++ behind)) ++ more) ≡
      (front ++ (number_code (hole_register h.kind) (hole_value entries addresses site h) ++ behind))
      ++ filled entries addresses (at + (length front + (4 + length behind))) (site + length (hole_sites h)) hs more
  with_hole at site front number behind h hs more place long begin =
      let next : ℕ = at + length front in
      let told : List Inst = number_code (hole_register h.kind) (hole_value entries addresses site h) in
      let after : ℕ = site + length (hole_sites h) in
      let end : next + 4 + length behind ≡ at + (length front + (4 + length behind)) = omega arith in
      let begin' : BeginAt (next + 4 + length behind) hs = (let P : ℕ → Type 0 = λ n. BeginAt n hs in subst P (sym end) begin) in
      ap (λ zs. filled entries addresses at site (h ∷ hs) zs) (append_assoc front (number ++ behind) more ∙ ap (λ zs. front ++ zs) (append_assoc number behind more))
      ∙ passes entries addresses at site (h ∷ hs) front (number ++ (behind ++ more)) (omega (arith, place))
      ∙ ap (λ zs. front ++ zs) (fills entries addresses next site h hs number (behind ++ more) place long)
      ∙ ap (λ zs. front ++ (told ++ zs)) (passes entries addresses (next + 4) after hs behind more begin')
      ∙ ap (λ (n : ℕ). front ++ (told ++ (behind ++ filled entries addresses n after hs more))) end
      ∙ ap (λ zs. front ++ zs) (sym (append_assoc told behind (filled entries addresses (at + (length front + (4 + length behind))) after hs more)))
      ∙ sym (append_assoc front (told ++ behind) (filled entries addresses (at + (length front + (4 + length behind))) after hs more))

  jump_moves : (at label : ℕ) → jump_code at ((bare p).place label) ≡ jump_code (base + at) (there.place label)
  jump_moves at label =
      let there' : ℕ = 4 * (enter_size + size_before p.steps label) in
      let same : (bare p).place label ≡ there' = omega arith in
      ap (λ (n : ℕ). jump_code at n) same ∙ sym (jump_same base at there')

  turns : (at site own : ℕ) (s : MidStep) → Turns at site own s
  turns at site own (Const to v) = plain at site own (Const to v) refl refl refl
  turns at site own (AddressStep to (OfVariable x)) = plain at site own (AddressStep to (OfVariable x)) refl refl refl
  turns at site own (AddressStep to (Stored n)) = λ hs more h. with_hole at site [] (number_code 6 0) (store_slot p.frame 6 to) (record { at = at; kind = hole.Address; own = n }) hs more (omega arith) refl h
  turns at site own (AddressStep to (OfProcedure f)) = λ hs more h. with_hole at site [] (number_code 6 0) (store_slot p.frame 6 to) (record { at = at; kind = hole.Procedure; own = f }) hs more (omega arith) refl h
  turns at site own (Move to u) = plain at site own (Move to u) refl refl refl
  turns at site own (Unary to op u) = plain at site own (Unary to op u) refl refl refl
  turns at site own (Binary to op u v) = plain at site own (Binary to op u v) refl refl refl
  turns at site own (Compare to op u v) = plain at site own (Compare to op u v) refl refl refl
  turns at site own (Load to width u) = plain at site own (Load to width u) refl refl refl
  turns at site own (Store width u v) = plain at site own (Store width u v) refl refl refl
  turns at site own (Jump label) = plain at site own (Jump label) refl refl (jump_moves (4 * at) label)
  turns at site own (Branch u label) =
      let from : base + (4 * at + 28) ≡ base + 4 * at + 28 = omega arith in
      plain at site own (Branch u label) refl refl
      (ap (λ zs. load_slot p.frame 6 u ++ (Beq 6 0 (pos 32) ∷ zs)) (jump_moves (4 * at + 28) label ∙ ap (λ (n : ℕ). jump_code n (there.place label)) from))
  turns at site own (Call to f arguments) = λ hs more h.
      let ts : List ℕ = arguments.items in
      let front : List Inst = pass_code p.frame ts in
      let behind : List Inst = Jalr 1 6 (pos 0) ∷ store_slot p.frame 10 to in
      let long : length front ≡ 13 + 8 * length ts = omega (arith, pass_long p.frame ts behind, length-append front behind) in
      let size : at + (length front + (4 + length behind)) ≡ at + step_size (Call to f arguments) = omega (arith, long) in
      let P : ℕ → Type 0 = λ n. BeginAt n hs in
      let place : at + (13 + 8 * length ts) ≡ at + length front = omega (arith, long) in
      with_hole at site front (number_code 6 0) behind (record { at = at + (13 + 8 * length ts); kind = hole.Procedure; own = f }) hs more place refl (subst P (sym size) h)
      ∙ ap (λ (n : ℕ). (front ++ (number_code 6 (entries f) ++ behind)) ++ filled entries addresses n (site + 0) hs more) size
  turns at site own (CallValue to target arguments true) = plain at site own (CallValue to target arguments true) refl refl refl
  turns at site own (CallValue to target arguments false) = plain at site own (CallValue to target arguments false) refl refl refl
  turns at site own (Return u) = plain at site own (Return u) refl refl refl
  turns at site own (CheckStep u which source) = λ hs more h.
      with_hole at site (load_slot p.frame 6 u ++ (Bne 6 0 (pos 28) ∷ Addi 10 0 (pos (number_of which)) ∷ [])) (number_code 11 own) (Ebreak ∷ [])
      (record { at = at + 8; kind = hole.Site source.line source.column which; own = source.file.number }) hs more (omega arith) refl h
  turns at site own (System (Read to u v)) = plain at site own (System (Read to u v)) refl refl refl
  turns at site own (System (Write d u v)) = plain at site own (System (Write d u v)) refl refl refl
  turns at site own (System (Exit u)) = plain at site own (System (Exit u)) refl refl refl

  steps_filled : (at site own : ℕ) (ss : List MidStep) → filled entries addresses at site (steps_holes at ss) (steps_code (bare p) (4 * at) own ss) ≡ steps_code there (base + 4 * at) site ss
  steps_filled at site own [] = refl
  steps_filled at site own (s ∷ ss) =
      let next : ℕ = at + step_size s in
      let here : 4 * at + 4 * step_size s ≡ 4 * next = omega arith in
      let beyond : base + 4 * next ≡ base + 4 * at + 4 * step_size s = omega arith in
      let behind : ℕ = site + length (step_sites s) in
      let rest : filled entries addresses next behind (steps_holes next ss) (steps_code (bare p) (4 * next) (own + length (step_sites s)) ss) ≡ steps_code there (base + 4 * next) behind ss =
      steps_filled next behind (own + length (step_sites s)) ss in
      ap (λ (n : ℕ). filled entries addresses at site (step_holes at s ++ steps_holes next ss) (step_code (bare p) (4 * at) own s ++ steps_code (bare p) n (own + length (step_sites s)) ss)) here
      ∙ turns at site own s (steps_holes next ss) (steps_code (bare p) (4 * next) (own + length (step_sites s)) ss) (steps_begin next ss)
      ∙ ap (λ zs. step_code there (base + 4 * at) site s ++ zs) rest
      ∙ ap (λ (n : ℕ). step_code there (base + 4 * at) site s ++ steps_code there n behind ss) beyond

  -- A block with its holes filled is the code of the procedure at any place, among any entries, addresses
  -- and numbers of sites.
  pub block_filled : (site : ℕ) → filled entries addresses 0 site (proc_holes p) (bare_code p) ≡ block_code entries addresses base site p
  block_filled site =
      let front : List Inst = number_code 6 (stack_low + p.frame) ++ (Bgeu 2 6 (pos 28) ∷ Addi 10 0 (pos (number_of Stack)) ∷ []) in
      let behind : List Inst = Ebreak ∷ (number_code 6 p.frame ++ (Sub 2 2 6 ∷ Sd 2 1 (pos 0) ∷ [])) in
      let first : Hole = record { at = 6; kind = hole.Site p.at.line p.at.column Stack; own = p.at.file.number } in
      with_hole 0 site front (number_code 11 0) behind first (steps_holes enter_size p.steps) (steps_code (bare p) (4 * enter_size) 1 p.steps) refl refl (steps_begin enter_size p.steps)
      ∙ ap (λ zs. enter_code p.frame site ++ zs) (steps_filled enter_size (site + 1) 1 p.steps)
