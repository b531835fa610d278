-- One step of each instruction that the code uses, over flat memory, and stretches of steps.
use Rattle.std.proofs.Common.{◌≡◌, ℕ, ◌+◌, ◌-◌, ◌*◌, ◌/◌, ◌%◌, ◌^◌, ◌<◌, ◌≤◌, Bool, true, false, [], ◌∷◌, length, arith, ap, ◌∙◌, refl}
use Rattle.std.specs.Prelude.{nat_lt, ℤ, pos, negsuc, slice_index, not, ◌==◌, if◌then◌else◌}
use Rattle.std.proofs.Math.Nat.{mod-eq_of_lt, add-zero}
use Rattle.std.specs.Int.{w64, to_le_bytes, from_le_bytes}
use Rattle.rv_table.specs.State.{address_from}
use Rattle.rv_table.specs.Words.{plus, word, shifted_left}
use Rattle.rv_table.specs.Bytes.{run, written}
use Rattle.rv_table.specs.declared.inst.Inst.TheVariants.{Auipc, Jalr, Beq, Bgeu, Bne, Sd, Ld, Addi, Slli, Add}
use Rattle.rv_table.specs.declared.effect.Effect.TheVariants.{Put, Load, Store, Branch, Link}
use Rattle.rv_table.specs.declared.effect.StoreKind.TheVariants.{Double as StoreDouble}
use Rattle.rv_table.specs.declared.effect.LoadKind.TheVariants.{Double as LoadDouble}
use Rattle.rv_table.specs.Words.{upper}
use Rattle.rv_table.specs.Areas.{has}
use Rattle.rv_table.specs.declared.effect.Access.TheVariants.{Read, Write}
use Rattle.rv_table.specs.declared.inst.Inst.TheVariants.{Lui}
use Rattle.rv_emit.proofs.Flat.{Setting, layout, Flat, reg, set, At, Reaches, puts, puts_here, loads, stores, branches, links, reaches_on, stays, regs_alike}

abbrev pub putting : Flat → ℕ → ℕ → Flat
putting a rd v = record a { regs = set a.regs rd v }

abbrev pub storing : Flat → ℕ → ℕ → Flat
storing a address v = record a { mem = written a.mem address (v ∷ []) }

-- a word in eight bytes, the lowest first
abbrev pub storing_word : Flat → ℕ → ℕ → Flat
storing_word a address v = record a { mem = written a.mem address (to_le_bytes w64 v) }

-- ---- words

pub word_pos : (n : ℕ) → n < 2 ^ 64 → word (pos n) ≡ n
word_pos n h = refl

pub word_minus_one : word (negsuc 0) ≡ 2 ^ 64 - 1
word_minus_one = refl

-- a small number added to a word
pub plus_small : (base n : ℕ) → base + n < 2 ^ 64 → address_from base (pos n) ≡ base + n
plus_small base n h = mod-eq_of_lt h

module _ (m : Setting) where
  pub adds : (p : ℕ) (a : Flat) (rd rs1 : ℕ) (imm : ℤ) (v : ℕ) → At m.code p (Addi rd rs1 imm) → rd < 32 → rs1 < 32 → address_from (reg a.regs rs1) imm ≡ v →
      Reaches m p a 1 (p + 4) (putting a rd v)
  adds p a rd rs1 imm v at d one e =
      puts m p a (Addi rd rs1 imm) rd v at refl d (λ s r. ap (λ (x : ℕ). Put rd (address_from x imm)) (r.each rs1 one) ∙ ap (Put rd) e)

  pub shifts : (p : ℕ) (a : Flat) (rd rs1 amount v : ℕ) → At m.code p (Slli rd rs1 amount) → rd < 32 → rs1 < 32 → shifted_left 64 (reg a.regs rs1) amount ≡ v →
      Reaches m p a 1 (p + 4) (putting a rd v)
  shifts p a rd rs1 amount v at d one e =
      puts m p a (Slli rd rs1 amount) rd v at refl d (λ s r. ap (λ (x : ℕ). Put rd (shifted_left 64 x amount)) (r.each rs1 one) ∙ ap (Put rd) e)

  pub sums : (p : ℕ) (a : Flat) (rd rs1 rs2 v : ℕ) → At m.code p (Add rd rs1 rs2) → rd < 32 → rs1 < 32 → rs2 < 32 → plus (reg a.regs rs1) (reg a.regs rs2) ≡ v →
      Reaches m p a 1 (p + 4) (putting a rd v)
  sums p a rd rs1 rs2 v at d one two e =
      puts m p a (Add rd rs1 rs2) rd v at refl d (λ s r.
      ap (λ (x : ℕ). Put rd (plus x (slice_index s.registers rs2))) (r.each rs1 one) ∙ ap (λ (y : ℕ). Put rd (plus (reg a.regs rs1) y)) (r.each rs2 two) ∙ ap (Put rd) e)

  -- a word from memory
  pub loads_word : (p : ℕ) (a : Flat) (rd rs1 address v : ℕ) → At m.code p (Ld rd rs1 (pos 0)) → rd < 32 → rs1 < 32 → reg a.regs rs1 ≡ address →
      from_le_bytes w64 (run a.mem address 8) ≡ v → address < 2 ^ 64 → has Read address 8 (layout (4 * length m.code) m.store_size) ≡ true → Reaches m p a 1 (p + 4) (putting a rd v)
  loads_word p a rd rs1 address v at d one to what small within =
      loads m p a (Ld rd rs1 (pos 0)) rd address v LoadDouble at refl d
      (λ s r.
      ap (λ (x : ℕ). Load rd (address_from x (pos 0)) LoadDouble) (r.each rs1 one ∙ to)
      ∙ ap (λ (x : ℕ). Load rd x LoadDouble) (plus_small address 0 (omega arith) ∙ add-zero address))
      what within

  -- a word into memory
  pub stores_word : (p : ℕ) (a : Flat) (rs1 rs2 address v : ℕ) → At m.code p (Sd rs1 rs2 (pos 0)) → rs1 < 32 → rs2 < 32 → reg a.regs rs1 ≡ address → reg a.regs rs2 ≡ v →
      address < 2 ^ 64 → has Write address 8 (layout (4 * length m.code) m.store_size) ≡ true → Reaches m p a 1 (p + 4) (storing_word a address v)
  stores_word p a rs1 rs2 address v at one two to what small within =
      stores m p a (Sd rs1 rs2 (pos 0)) address v StoreDouble at refl
      (λ s r.
      ap (λ (x : ℕ). Store (address_from x (pos 0)) StoreDouble (slice_index s.registers rs2)) (r.each rs1 one ∙ to)
      ∙ ap (λ (x : ℕ). Store x StoreDouble (slice_index s.registers rs2)) (plus_small address 0 (omega arith) ∙ add-zero address)
      ∙ ap (Store address StoreDouble) (r.each rs2 two ∙ what))
      within

  -- the upper bits of a number
  pub lifts : (p : ℕ) (a : Flat) (rd : ℕ) (imm : ℤ) (v : ℕ) → At m.code p (Lui rd imm) → rd < 32 → upper imm ≡ v → Reaches m p a 1 (p + 4) (putting a rd v)
  lifts p a rd imm v at d e = puts m p a (Lui rd imm) rd v at refl d (λ s r. ap (Put rd) e)

  -- the address at which the instruction stands
  pub finds : (p : ℕ) (a : Flat) (rd : ℕ) → At m.code p (Auipc rd (pos 0)) → rd < 32 → p < 2 ^ 64 → Reaches m p a 1 (p + 4) (putting a rd p)
  finds p a rd at d small =
      puts_here m p a (Auipc rd (pos 0)) rd p at refl d (λ s r q. ap (λ (x : ℕ). Put rd (plus x (upper (pos 0)))) q ∙ ap (Put rd) (plus_small p 0 (omega arith) ∙ add-zero p))

  pub branches_eq : (p : ℕ) (a : Flat) (rs1 rs2 : ℕ) (offset : ℤ) (target : ℕ) (taken : Bool) → At m.code p (Beq rs1 rs2 offset) → rs1 < 32 → rs2 < 32 →
      address_from p offset ≡ target → target % 4 ≡ 0 → ((reg a.regs rs1) == (reg a.regs rs2)) ≡ taken →
      Reaches m p a 1 (if taken then target else p + 4) a
  branches_eq p a rs1 rs2 offset target taken at one two to even e =
      branches m p a (Beq rs1 rs2 offset) taken target at refl (λ s r pc.
      ap (λ (x : ℕ). Branch ((x == (slice_index s.registers rs2))) (address_from s.pc offset)) (r.each rs1 one)
      ∙ ap (λ (y : ℕ). Branch (((reg a.regs rs1) == y)) (address_from s.pc offset)) (r.each rs2 two)
      ∙ ap (λ (b : Bool). Branch b (address_from s.pc offset)) e
      ∙ ap (λ (x : ℕ). Branch taken (address_from x offset)) pc
      ∙ ap (Branch taken) to) even

  pub branches_ne : (p : ℕ) (a : Flat) (rs1 rs2 : ℕ) (offset : ℤ) (target : ℕ) (taken : Bool) → At m.code p (Bne rs1 rs2 offset) → rs1 < 32 → rs2 < 32 →
      address_from p offset ≡ target → target % 4 ≡ 0 → not ((reg a.regs rs1) == (reg a.regs rs2)) ≡ taken →
      Reaches m p a 1 (if taken then target else p + 4) a
  branches_ne p a rs1 rs2 offset target taken at one two to even e =
      branches m p a (Bne rs1 rs2 offset) taken target at refl (λ s r pc.
      ap (λ (x : ℕ). Branch (not (x == (slice_index s.registers rs2))) (address_from s.pc offset)) (r.each rs1 one)
      ∙ ap (λ (y : ℕ). Branch (not ((reg a.regs rs1) == y)) (address_from s.pc offset)) (r.each rs2 two)
      ∙ ap (λ (b : Bool). Branch b (address_from s.pc offset)) e
      ∙ ap (λ (x : ℕ). Branch taken (address_from x offset)) pc
      ∙ ap (Branch taken) to) even

  pub branches_geu : (p : ℕ) (a : Flat) (rs1 rs2 : ℕ) (offset : ℤ) (target : ℕ) (taken : Bool) → At m.code p (Bgeu rs1 rs2 offset) → rs1 < 32 → rs2 < 32 →
      address_from p offset ≡ target → target % 4 ≡ 0 → not (nat_lt (reg a.regs rs1) (reg a.regs rs2)) ≡ taken →
      Reaches m p a 1 (if taken then target else p + 4) a
  branches_geu p a rs1 rs2 offset target taken at one two to even e =
      branches m p a (Bgeu rs1 rs2 offset) taken target at refl (λ s r pc.
      ap (λ (x : ℕ). Branch (not (nat_lt x (slice_index s.registers rs2))) (address_from s.pc offset)) (r.each rs1 one)
      ∙ ap (λ (y : ℕ). Branch (not (nat_lt (reg a.regs rs1) y)) (address_from s.pc offset)) (r.each rs2 two)
      ∙ ap (λ (b : Bool). Branch b (address_from s.pc offset)) e
      ∙ ap (λ (x : ℕ). Branch taken (address_from x offset)) pc
      ∙ ap (Branch taken) to) even

  -- a jump by a register
  pub jumps : (p : ℕ) (a : Flat) (rd rs1 : ℕ) (imm : ℤ) (target : ℕ) → At m.code p (Jalr rd rs1 imm) → (rs1 == 5) ≡ false → rd < 32 → rs1 < 32 →
      address_from (reg a.regs rs1) imm / 2 * 2 ≡ target → target % 4 ≡ 0 →
      Reaches m p a 1 target (putting a rd (p + 4))
  jumps p a rd rs1 imm target at other d one to even =
      links m p a (Jalr rd rs1 imm) rd target at other d (λ s r. ap (λ (x : ℕ). Link rd (address_from x imm / 2 * 2)) (r.each rs1 one) ∙ ap (Link rd) to) even

  -- ---- stretches of at most so many steps

  pub record Within (bound p : ℕ) (a : Flat) (p' : ℕ) (a' : Flat) : Type 0 where
    pub steps : ℕ
    pub small : steps ≤ bound
    pub reaches : Reaches m p a steps p' a'

  pub no_steps : (p : ℕ) (a : Flat) → Within 0 p a p a
  no_steps p a = record { steps = 0; small = omega arith; reaches = stays m p a }

  pub one_step : (p : ℕ) (a : Flat) (p' : ℕ) (a' : Flat) → Reaches m p a 1 p' a' → Within 1 p a p' a'
  one_step p a p' a' r = record { steps = 1; small = omega arith; reaches = r }

  pub within_on : (b p : ℕ) (a : Flat) (p' : ℕ) (a' : Flat) (e p'' : ℕ) (a'' : Flat) → Within b p a p' a' → Within e p' a' p'' a'' → Within (b + e) p a p'' a''
  within_on b p a p' a' e p'' a'' f g = record {
    steps = f.steps + g.steps;
    small = omega (arith, f.small, g.small);
    reaches = reaches_on m p a f.steps p' a' g.steps p'' a'' f.reaches g.reaches;
  }

  -- one step and then some more
  pub step_on : (p : ℕ) (a : Flat) (p' : ℕ) (a' : Flat) (e p'' : ℕ) (a'' : Flat) → Reaches m p a 1 p' a' → Within e p' a' p'' a'' → Within (1 + e) p a p'' a''
  step_on p a p' a' e p'' a'' r g = within_on 1 p a p' a' e p'' a'' (one_step p a p' a' r) g

  pub within_more : (b e p : ℕ) (a : Flat) (p' : ℕ) (a' : Flat) → b ≤ e → Within b p a p' a' → Within e p a p' a'
  within_more b e p a p' a' h w = record { steps = w.steps; small = omega (arith, w.small); reaches = w.reaches }

  -- the registers at the end told otherwise
  pub within_alike : (b p : ℕ) (a : Flat) (p' : ℕ) (a' : Flat) (h : ℕ → ℕ) → ((r : ℕ) → a'.regs r ≡ h r) → Within b p a p' a' → Within b p a p' (record a' { regs = h })
  within_alike b p a p' a' h same w = record {
    steps = w.steps;
    small = w.small;
    reaches = record {
      by = λ c is.
          let t = w.reaches.by c is in
          record {
            last = t.last;
            leads = t.leads;
            is = record {
              pc = t.is.pc;
              regs = regs_alike t.last.state a'.regs h same t.is.regs;
              shows = t.is.shows;
              shapes = t.is.shapes;
              text = t.is.text;
              log = t.is.log;
              input = t.is.input;
              taken = t.is.taken;
            };
          };
    };
  }
