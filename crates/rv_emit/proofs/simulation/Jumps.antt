-- Addresses, jumps, branches and checks.
use Rattle.std.proofs.Common.{◌≡◌, ℕ, zero, suc, ◌+◌, ◌-◌, ◌*◌, ◌/◌, ◌%◌, ◌^◌, ◌<◌, ◌≤◌, Bool, true, false, List, [], ◌∷◌, ◌++◌, length, arith, ap, ◌∙◌, sym, subst, refl, lit<, lit≤}
use Rattle.std.specs.Prelude.{pos, cond, nat_lt, slice_index, ◌==◌, not, Option, Some, None, option_map, slice_get, get_or, if◌then◌else◌}
use Rattle.std.proofs.Math.Nat.{add-zero, mod-eq_of_lt}
use Rattle.std.proofs.lemmas.Bool.Decides.{nat_tests}
use Rattle.odc_text.specs.Run.{checked}
use Rattle.odc_text.specs.Steps.{After, over}
use Rattle.odc_text.specs.Check.{number_of as check_number}
use Rattle.odc_text.specs.declared.check.Check.{Check}
use Rattle.odc_text.specs.declared.place.Place.{Place}
use Rattle.rv_table.specs.State.{address_from}
use Rattle.rv_table.specs.Words.{plus, minus}
use Rattle.rv_table.specs.declared.effect.Effect.TheVariants.{Put}
use Rattle.rv_table.specs.declared.inst.Inst.{Inst}
use Rattle.rv_table.specs.declared.inst.Inst.TheVariants.{Auipc, Jalr, Beq, Bne, Add as Sum, Sub, Ebreak}
use Rattle.odc_core.specs.declared.tree.Variable.{Variable}
use Rattle.odc_core.specs.Well.{AreInStore, AreLaid}
use Rattle.odc_mid.specs.declared.tree.MidStep.{MidStep}
use Rattle.odc_mid.specs.declared.tree.MidStep.TheVariants.{Address, Jump, Branch, Check as CheckStep}
use Rattle.odc_mid.specs.Tree.{Proc, Whole}
use Rattle.odc_mid.specs.Run.{Config, gives, gives_found, go_on, go_to}
use Rattle.rv_emit.specs.Code.{load_slot, store_slot, number_code, distance, way_code, jump_code, break_code}
use Rattle.rv_emit.proofs.Flat.{Setting, Flat, reg, set, At, Stands, stands_parts, slice_get_below, Reaches, Ends, puts, breaks}
use Rattle.rv_emit.proofs.Steps.{putting, plus_small, adds, sums, finds, jumps, branches_eq, branches_ne}
use Rattle.rv_emit.proofs.Numbers.{number_sim}
use Rattle.rv_emit.proofs.simulation.Ties.{Built, place_of, frame_small, known_in, Tied}
use Rattle.rv_emit.proofs.simulation.Sims.{stands_long, Sim, joined, strays_sim, Here, here_step, temp_sim, give, pass, next_leads}
use Rattle.odc_text.specs.declared.check.Check.TheVariants.{Index, Slice, Division, Assertion, Nil, Stack as StackCheck, Assert, Panic, Length}
use Rattle.std.proofs.Math.Nat.{zero-add}
use Rattle.odc_mid.specs.declared.tree.Named.{Named}
use Rattle.odc_mid.specs.declared.tree.Named.TheVariants.{Variable as OfVariable, Stored, Procedure}
use Rattle.odc_mid.specs.Run.{world_of, named}
use Rattle.odc_mid.specs.Well.{parameters_of}
use Rattle.rv_emit.specs.Code.{offset_of}
use Rattle.rv_emit.proofs.Numbers.{place_sim}

-- a target of a jump by a register
pub jump_target : (x : ℕ) → x < 2 ^ 32 → x % 4 ≡ 0 → address_from x (pos 0) / 2 * 2 ≡ x
jump_target x h even = ap (λ (y : ℕ). y / 2 * 2) (plus_small x 0 (omega arith) ∙ add-zero x) ∙ omega arith

module _ (m : Setting) (w : Whole) (b : Built m w) where
  -- ---- places in the text

  pub record InText (p : ℕ) : Type 0 where
    pub even : p % 4 ≡ 0
    pub small : p < 2 ^ 31

  pub in_text : (p : ℕ) (inst : Inst) → At m.code p inst → InText p
  in_text p inst at =
      let small : at.position < length m.code = slice_get_below m.code at.position inst at.here in
      let short : 4 * length m.code ≤ 0x4fff_0000 = m.short in
      record { even = omega (arith, at.place); small = omega (arith, at.place) }

  -- ---- jumps

  -- up or down by the distance
  goes_there : (p : ℕ) (a : Flat) (from to : ℕ) → At m.code p (way_code from to) → reg a.regs 6 ≡ from → reg a.regs 7 ≡ distance from to → from < 2 ^ 31 → to < 2 ^ 31 → Reaches m p a 1 (p + 4) (putting a 6 to)
  goes_there p a from to at six seven low high = by (nat_lt to from) refl at
    where
      by : (z : Bool) → nat_lt to from ≡ z → At m.code p (cond z (Sub 6 6 7) (Sum 6 6 7)) → Reaches m p a 1 (p + 4) (putting a 6 to)
      by true e at =
          let below : to < from = grind (arith, nat_tests, e) in
          let back : from + (2 ^ 64 - distance from to) ≡ to + 2 ^ 64 = omega (arith, below) in
          let is : minus from (distance from to) ≡ to = ap (λ (n : ℕ). n % 2 ^ 64) back ∙ omega arith in
          puts m p a (Sub 6 6 7) 6 to at refl (lit< tt) (λ s r.
          ap (λ (x : ℕ). Put 6 (minus x (slice_index s.registers 7))) (r.each 6 (lit< tt) ∙ six) ∙ ap (λ (y : ℕ). Put 6 (minus from y)) (r.each 7 (lit< tt) ∙ seven) ∙ ap (Put 6) is)
      by false e at =
          let above : from ≤ to = grind (arith, nat_tests, e) in
          let there : from + distance from to ≡ to = omega (arith, above) in
          let is : plus from (distance from to) ≡ to = mod-eq_of_lt (omega (arith, there)) ∙ there in
          sums m p a 6 6 7 to at (lit< tt) (lit< tt) (lit< tt) (ap (λ (x : ℕ). plus x (reg a.regs 7)) six ∙ ap (plus from) seven ∙ is)

  pub record Jumped (q : ℕ) (a : Flat) (target : ℕ) : Type 0 where
    pub far : ℕ
    pub from : ℕ
    pub reaches : Reaches m q a 7 target (record a { regs = set (set (set (set a.regs 6 q) 7 far) 6 target) 0 from })

  pub jump_sim : (q end : ℕ) (a : Flat) (target : ℕ) → Stands m.code q (jump_code q target) end → target < 2 ^ 31 → target % 4 ≡ 0 → Jumped q a target
  jump_sim q end a target at small even =
      let far : ℕ = distance q target in
      let low : InText q = in_text q (Auipc 6 (pos 0)) at.0 in
      let r = stands_parts m.code (q + 4) (number_code 7 far) (way_code q target ∷ Jalr 0 6 (pos 0) ∷ []) end at.1 in
      let b0 : Flat = putting a 6 q in
      let b1 : Flat = putting b0 7 far in
      let b2 : Flat = putting b1 6 target in
      let one : Reaches m q a 1 (q + 4) b0 = finds m q a 6 at.0 (lit< tt) (omega (arith, low.small)) in
      let two : Reaches m (q + 4) b0 4 r.0 b1 = number_sim m (q + 4) r.0 b0 7 far r.1 (lit< tt) (lit< tt) (omega (arith, low.small, small)) in
      let three : Reaches m r.0 b1 1 (r.0 + 4) b2 = goes_there r.0 b1 q target r.2.0 refl refl low.small small in
      let four : Reaches m (r.0 + 4) b2 1 target (putting b2 0 (r.0 + 4 + 4)) =
      jumps m (r.0 + 4) b2 0 6 (pos 0) target r.2.1.0 refl (lit< tt) (lit< tt) (jump_target target (omega arith) even) even in
      record { far = far; from = r.0 + 4 + 4; reaches = joined m w b (joined m w b (joined m w b one two) three) four }

  choose_sim : (bound place : ℕ) (a : Flat) (z : Bool) (q : ℕ) (b0 : Flat) (x y : ℕ) (first second : After Config) → Reaches m q b0 1 (if z then x else y) b0 →
      (Reaches m q b0 1 x b0 → Sim m w b bound place a first) → (Reaches m q b0 1 y b0 → Sim m w b bound place a second) → Sim m w b bound place a (if z then first else second)
  choose_sim bound place a true q b0 x y first second r f g = f r
  choose_sim bound place a false q b0 x y first second r f g = g r

  choose_other : (bound place : ℕ) (a : Flat) (z : Bool) (q : ℕ) (b0 : Flat) (x y : ℕ) (first second : After Config) → Reaches m q b0 1 (if not z then x else y) b0 →
      (Reaches m q b0 1 y b0 → Sim m w b bound place a first) → (Reaches m q b0 1 x b0 → Sim m w b bound place a second) → Sim m w b bound place a (if z then first else second)
  choose_other bound place a true q b0 x y first second r f g = f r
  choose_other bound place a false q b0 x y first second r f g = g r

  label_small : (c : Config) (place : ℕ) (a : Flat) (t : Tied m w b c place a) (label : ℕ) → label < length t.p.steps → place_of m w b t.f t.p label < 2 ^ 31
  label_small c place a t label h = (b.procs t.f t.p t.act.found).has.low label (omega arith)

  label_even : (c : Config) (place : ℕ) (a : Flat) (t : Tied m w b c place a) (label : ℕ) → place_of m w b t.f t.p label % 4 ≡ 0
  label_even c place a t label = (b.procs t.f t.p t.act.found).has.even label

  pub goto_sim : (c : Config) (place : ℕ) (a : Flat) (t : Tied m w b c place a) (label : ℕ) → slice_get c.here.steps c.here.next ≡ Some (Jump label) → Sim m w b 32 place a (go_to label c)
  goto_sim c place a t label e =
      let x : Here m w b c place a t (Jump label) = here_step m w b c place a t (Jump label) e in
      let j : Jumped place a (place_of m w b t.f t.p label) =
      jump_sim place (place_of m w b t.f t.p (c.here.next + 1)) a (place_of m w b t.f t.p label) x.has.code (label_small c place a t label x.well.ways.0) (label_even c place a t label) in
      pass m w b 32 place a c place a t (Jump label) label e refl x.well.leads.0 7 (set (set (set (set a.regs 6 place) 7 j.far) 6 (place_of m w b t.f t.p label)) 0 j.from) j.reaches refl (lit< tt) (lit≤ tt)

  pub branch_sim : (c : Config) (place : ℕ) (a : Flat) (t : Tied m w b c place a) (u label : ℕ) → slice_get c.here.steps c.here.next ≡ Some (Branch u label) →
      Sim m w b 32 place a (if c.here.temps u == 0 then go_on c else go_to label c)
  branch_sim c place a t u label e =
      let s : MidStep = Branch u label in
      let x : Here m w b c place a t s = here_step m w b c place a t s e in
      let end : ℕ = place_of m w b t.f t.p (c.here.next + 1) in
      let q = stands_parts m.code place (load_slot t.p.frame 6 u) (Beq 6 0 (pos 32) ∷ jump_code (place + 28) (place_of m w b t.f t.p label)) end x.has.code in
      let v : ℕ = c.here.temps u in
      let b0 : Flat = putting a 6 v in
      let place_is : InText q.0 = in_text q.0 (Beq 6 0 (pos 32)) q.2.0 in
      let q_is : q.0 ≡ place + 4 * 6 = stands_long m.code place (load_slot t.p.frame 6 u) q.0 q.1 in
      let after : place + 28 ≡ q.0 + 4 = omega (arith, q_is) in
      let J : ℕ → Type 0 = λ n. Stands m.code (q.0 + 4) (jump_code n (place_of m w b t.f t.p label)) end in
      let jump : Stands m.code (q.0 + 4) (jump_code (q.0 + 4) (place_of m w b t.f t.p label)) end = subst J after q.2.1 in
      let length_is : end ≡ q.0 + 4 + 4 * 7 = stands_long m.code (q.0 + 4) (jump_code (q.0 + 4) (place_of m w b t.f t.p label)) end jump in
      let target : address_from q.0 (pos 32) ≡ end = plus_small q.0 32 (omega (arith, place_is.small)) ∙ omega (arith, length_is) in
      let front : Reaches m place a 6 q.0 b0 = temp_sim m w b c place a t place q.0 a.regs 6 u q.1 refl (lit< tt) (lit< tt) refl x.well.ready.0 in
      let one : Reaches m q.0 b0 1 (if v == 0 then end else q.0 + 4) b0 =
      branches_eq m q.0 b0 6 0 (pos 32) end (v == 0) q.2.0 (lit< tt) (lit< tt) target (omega (arith, length_is, place_is.even)) refl in
      let j : Jumped (q.0 + 4) b0 (place_of m w b t.f t.p label) =
      jump_sim (q.0 + 4) end b0 (place_of m w b t.f t.p label) jump (label_small c place a t label x.well.ways.1.0) (label_even c place a t label) in
      choose_sim 32 place a (v == 0) q.0 b0 end (q.0 + 4) (go_on c) (go_to label c) one
      (λ r. pass m w b 32 place a c place a t s (c.here.next + 1) e refl (next_leads m w b (known_in m w b t.f t.p t.act.found) c.here.next s x.well.leads.0) 7 (set a.regs 6 v) (joined m w b front r) refl (lit< tt) (lit≤ tt))
      (λ r.
      pass m w b 32 place a c place a t s label e refl x.well.leads.1.0 14 (set (set (set (set b0.regs 6 (q.0 + 4)) 7 j.far) 6 (place_of m w b t.f t.p label)) 0 j.from) (joined m w b (joined m w b front r) j.reaches) refl (lit< tt) (lit≤ tt))

  -- ---- checks

  pub record Broken (q : ℕ) (a : Flat) (which : Check) (source : Place) : Type 0 where
    pub to : ℕ
    pub regs : ℕ → ℕ
    pub reaches : Reaches m q a 5 to (record a { regs = regs })
    pub ends : Ends m to (record a { regs = regs }) (checked which source)

  check_small : (which : Check) → check_number which < 2 ^ 31
  check_small Index = lit< tt
  check_small Slice = lit< tt
  check_small Division = lit< tt
  check_small Assertion = lit< tt
  check_small Nil = lit< tt
  check_small StackCheck = lit< tt
  check_small Assert = lit< tt
  check_small Panic = lit< tt
  check_small Length = lit< tt

  pub break_sim : (q end : ℕ) (a : Flat) (which : Check) (source : Place) (site : ℕ) → Stands m.code q (break_code which site) end → site < 2 ^ 31 → slice_get m.sites site ≡ Some (which, source) → Broken q a which source
  break_sim q end a which source site at small told =
      let r = stands_parts m.code (q + 4) (number_code 11 site) (Ebreak ∷ []) end at.1 in
      let b0 : Flat = putting a 10 (check_number which) in
      let b1 : Flat = putting b0 11 site in
      let one : Reaches m q a 1 (q + 4) b0 = adds m q a 10 0 (pos (check_number which)) (check_number which) at.0 (lit< tt) (lit< tt) (plus_small 0 (check_number which) (omega (arith, check_small which)) ∙ zero-add (check_number which)) in
      let two : Reaches m (q + 4) b0 4 r.0 b1 = number_sim m (q + 4) r.0 b0 11 site r.1 (lit< tt) (lit< tt) small in
      record {
        to = r.0;
        regs = b1.regs;
        reaches = joined m w b one two;
        ends = breaks m r.0 b1 site which source r.2.0 refl refl told;
      }

  pub check_sim : (c : Config) (place : ℕ) (a : Flat) (t : Tied m w b c place a) (u : ℕ) (which : Check) (source : Place) → slice_get c.here.steps c.here.next ≡ Some (CheckStep u which source) →
      Sim m w b 32 place a (if c.here.temps u == 0 then over (checked which source) c else go_on c)
  check_sim c place a t u which source e =
      let s : MidStep = CheckStep u which source in
      let x : Here m w b c place a t s = here_step m w b c place a t s e in
      let end : ℕ = place_of m w b t.f t.p (c.here.next + 1) in
      let q = stands_parts m.code place (load_slot t.p.frame 6 u) (Bne 6 0 (pos 28) ∷ break_code which x.has.site) end x.has.code in
      let v : ℕ = c.here.temps u in
      let b0 : Flat = putting a 6 v in
      let place_is : InText q.0 = in_text q.0 (Bne 6 0 (pos 28)) q.2.0 in
      let length_is : end ≡ q.0 + 4 + 4 * length (break_code which x.has.site) = stands_long m.code (q.0 + 4) (break_code which x.has.site) end q.2.1 in
      let target : address_from q.0 (pos 28) ≡ end = plus_small q.0 28 (omega (arith, place_is.small)) ∙ omega (arith, length_is) in
      let front : Reaches m place a 6 q.0 b0 = temp_sim m w b c place a t place q.0 a.regs 6 u q.1 refl (lit< tt) (lit< tt) refl x.well.ready.0 in
      let one : Reaches m q.0 b0 1 (if not (v == 0) then end else q.0 + 4) b0 =
      branches_ne m q.0 b0 6 0 (pos 28) end (not (v == 0)) q.2.0 (lit< tt) (lit< tt) target (omega (arith, length_is, place_is.even)) refl in
      let broken : Broken (q.0 + 4) b0 which source = break_sim (q.0 + 4) end b0 which source x.has.site q.2.1 x.has.small x.has.sites.0 in
      choose_other 32 place a (v == 0) q.0 b0 end (q.0 + 4) (over (checked which source) c) (go_on c) one
      (λ r. record {
        by = record {
          to = broken.to;
          flat = record b0 { regs = broken.regs };
          steps = 12;
          few = lit≤ tt;
          reaches = joined m w b (joined m w b front r) broken.reaches;
          ends = broken.ends;
          log = t.log;
          taken = t.taken;
        };
      })
      (λ r. pass m w b 32 place a c place a t s (c.here.next + 1) e refl (next_leads m w b (known_in m w b t.f t.p t.act.found) c.here.next s x.well.leads.0) 7 (set a.regs 6 v) (joined m w b front r) refl (lit< tt) (lit≤ tt))

  -- ---- addresses

  offset_small : (frame : ℕ) (vs : List Variable) (x : ℕ) (v : Variable) → AreLaid frame vs → slice_get vs x ≡ Some v → v.offset ≤ frame
  offset_small frame [] x v h e = cc
  offset_small frame (y ∷ vs) zero v h e =
      let same : y ≡ v = cc in
      let P : Variable → Type 0 = λ z. z.offset ≤ frame in
      subst P same (omega (arith, h.0.1))
  offset_small frame (y ∷ vs) (suc x) v h e = offset_small frame vs x v h.1.1 e

  address_small : (size : ℕ) (xs : List ℕ) (n v : ℕ) → size ≤ 0x0fff_0000 → AreInStore size xs → slice_get xs n ≡ Some v → v < 2 ^ 31
  address_small size [] n v small h e = cc
  address_small size (x ∷ xs) zero v small h e =
      let same : x ≡ v = cc in
      let P : ℕ → Type 0 = λ y. y < 2 ^ 31 in
      subst P same (omega (arith, h.0.1, small))
  address_small size (x ∷ xs) (suc n) v small h e = address_small size xs n v small h.1 e

  found_or : (xs : List ℕ) (n v : ℕ) → slice_get xs n ≡ Some v → get_or xs n 0 ≡ v
  found_or [] n v e = cc
  found_or (x ∷ xs) zero v e = cc
  found_or (x ∷ xs) (suc n) v e = found_or xs n v e

  -- a number that is an address
  number_given : (c : Config) (place : ℕ) (a : Flat) (t : Tied m w b c place a) (to : ℕ) (of : Named) (v : ℕ) → slice_get c.here.steps c.here.next ≡ Some (Address to of) →
      Stands m.code place (number_code 6 v ++ store_slot t.p.frame 6 to) (place_of m w b t.f t.p (c.here.next + 1)) → v < 2 ^ 31 → Sim m w b 32 place a (gives to v c)
  number_given c place a t to of v e stands small =
      let q = stands_parts m.code place (number_code 6 v) (store_slot t.p.frame 6 to) (place_of m w b t.f t.p (c.here.next + 1)) stands in
      give m w b 32 place a c place a t (Address to of) to v 6 e refl refl (omega arith) q.0 4 (set a.regs 6 v) (number_sim m place q.0 a 6 v q.1 (lit< tt) (lit< tt) small) refl refl refl (lit< tt) q.2 (lit≤ tt)

  pub address_sim : (c : Config) (place : ℕ) (a : Flat) (t : Tied m w b c place a) (to : ℕ) (of : Named) → slice_get c.here.steps c.here.next ≡ Some (Address to of) →
      Sim m w b 32 place a (gives_found to (named (world_of m.entries w) c.here of) c)
  address_sim c place a t to (OfVariable x) e = by (slice_get t.p.variables x) refl
    where
      given : (v : Variable) → slice_get t.p.variables x ≡ Some v → Sim m w b 32 place a (gives to (c.here.low + v.offset) c)
      given v e' =
          let y : Here m w b c place a t (Address to (OfVariable x)) = here_step m w b c place a t (Address to (OfVariable x)) e in
          let end : ℕ = place_of m w b t.f t.p (c.here.next + 1) in
          let C : Option Variable → Type 0 = λ o. Stands m.code place ((number_code 6 (offset_of o) ++ (Sum 6 6 2 ∷ [])) ++ store_slot t.p.frame 6 to) end in
          let q = stands_parts m.code place (number_code 6 v.offset ++ (Sum 6 6 2 ∷ [])) (store_slot t.p.frame 6 to) end (subst C e' y.has.code) in
          let below : v.offset ≤ t.p.frame = offset_small t.p.frame t.p.variables x v (b.procs t.f t.p t.act.found).well.laid e' in
          let frame : t.p.frame ≤ 2 ^ 24 = frame_small m w b t.f t.p t.act.found in
          let low : c.here.low ≤ 2 ^ 31 = omega (arith, t.act.high, t.act.top) in
          give m w b 32 place a c place a t (Address to (OfVariable x)) to (c.here.low + v.offset) 6 e refl refl (omega arith) q.0 5 (set a.regs 6 (c.here.low + v.offset))
          (place_sim m place q.0 a 6 c.here.low v.offset q.1 refl (lit< tt) (lit< tt) t.sp (omega arith) (omega arith)) refl refl refl (lit< tt) q.2 (lit≤ tt)

      by : (o : Option Variable) → slice_get t.p.variables x ≡ o → Sim m w b 32 place a (gives_found to (option_map (λ (v : Variable). c.here.low + v.offset) (slice_get c.here.variables x)) c)
      by None q =
          let A : Option Variable → Type 0 = λ o. Sim m w b 32 place a (gives_found to (option_map (λ (v : Variable). c.here.low + v.offset) o) c) in
          let whole : slice_get c.here.variables x ≡ None = ap (λ (vs : List Variable). slice_get vs x) t.act.variables ∙ q in
          subst A (sym whole) (strays_sim m w b 32 c place a t)
      by (Some v) q =
          let A : Option Variable → Type 0 = λ o. Sim m w b 32 place a (gives_found to (option_map (λ (v : Variable). c.here.low + v.offset) o) c) in
          let whole : slice_get c.here.variables x ≡ Some v = ap (λ (vs : List Variable). slice_get vs x) t.act.variables ∙ q in
          subst A (sym whole) (given v q)
  address_sim c place a t to (Stored n) e = by (slice_get w.addresses n) refl
    where
      by : (o : Option ℕ) → slice_get w.addresses n ≡ o → Sim m w b 32 place a (gives_found to o c)
      by None q = strays_sim m w b 32 c place a t
      by (Some v) q =
          let y : Here m w b c place a t (Address to (Stored n)) = here_step m w b c place a t (Address to (Stored n)) e in
          let C : ℕ → Type 0 = λ k. Stands m.code place (number_code 6 k ++ store_slot t.p.frame 6 to) (place_of m w b t.f t.p (c.here.next + 1)) in
          let low : w.store_size ≤ 0x0fff_0000 = subst (λ (k : ℕ). k ≤ 0x0fff_0000) b.store m.low in
          number_given c place a t to (Stored n) v e (subst C (found_or w.addresses n v q) y.has.code) (address_small w.store_size w.addresses n v low b.addresses q)
  address_sim c place a t to (Procedure f) e = by (slice_get w.procedures f) refl
    where
      short : (ps : List Proc) (k : ℕ) → k < length (parameters_of ps) → slice_get ps k ≡ None → ⊥
      short [] k h q = omega arith
      short (p ∷ ps) zero h q = cc
      short (p ∷ ps) (suc k) h q = short ps k (omega arith) q

      by : (o : Option Proc) → slice_get w.procedures f ≡ o → Sim m w b 32 place a (gives to (m.entries f) c)
      by None q = let y : Here m w b c place a t (Address to (Procedure f)) = here_step m w b c place a t (Address to (Procedure f)) e in absurd (short w.procedures f y.well.named q)
      by (Some p) q =
          let y : Here m w b c place a t (Address to (Procedure f)) = here_step m w b c place a t (Address to (Procedure f)) e in
          number_given c place a t to (Procedure f) (m.entries f) e y.has.code (b.procs f p q).entry
