-- The code that puts a number or a temporary into a register, and a register into a temporary's slot.
use Rattle.std.proofs.Common.{◌≡◌, ℕ, ◌+◌, ◌*◌, ◌/◌, ◌%◌, ◌^◌, ◌<◌, ◌≤◌, Bool, true, false, cond, [], ◌∷◌, ◌++◌, length, arith, ap, ◌∙◌, subst, refl, lit<}
use Rattle.std.specs.Prelude.{pos, ◌==◌, if◌then◌else◌}
use Rattle.std.specs.Int.{w64, from_le_bytes}
use Rattle.std.proofs.Math.Nat.{mod-eq_of_lt}
use Rattle.std.proofs.lemmas.Bool.Decides.{nat_tests}
use Rattle.rv_table.specs.Bytes.{run}
use Rattle.rv_table.specs.State.{address_from}
use Rattle.rv_table.specs.Words.{shifted_left, upper, plus}
use Rattle.rv_table.specs.declared.inst.Inst.TheVariants.{Addi, Add, Ld, Sd}
use Rattle.rv_emit.specs.Code.{number_code, chunk_code, word_code, slot, load_slot, store_slot}
use Rattle.rv_emit.proofs.Flat.{Setting, has_stack_read, has_stack_write, Flat, reg, set, At, Stands, stands_parts, stands_join, Reaches, reaches_on, regs_alike}
use Rattle.rv_emit.proofs.Steps.{putting, storing_word, plus_small, adds, shifts, sums, lifts, loads_word, stores_word}

pub reg_set_same : (g : ℕ → ℕ) (rd v : ℕ) → 0 < rd → reg (set g rd v) rd ≡ v
reg_set_same g rd v h = grind (arith, nat_tests)

pub reg_set_other : (g : ℕ → ℕ) (rd v r : ℕ) → (r == rd) ≡ false → reg (set g rd v) r ≡ reg g r
reg_set_other g rd v r h = ap (λ (b : Bool). if r == 0 then 0 else (if b then v else g r)) h

set_twice : (g : ℕ → ℕ) (rd v w r : ℕ) → set (set g rd v) rd w r ≡ set g rd w r
set_twice g rd v w r = by (r == rd)
  where
    by : (t : Bool) → cond t w (cond t v (g r)) ≡ cond t w (g r)
    by true = refl
    by false = refl

upper_small : (n : ℕ) → n < 2 ^ 51 → upper (pos n) ≡ n * 4096
upper_small n h = let fits : n * 2 ^ 12 < 2 ^ 64 = omega arith in mod-eq_of_lt fits

module _ (m : Setting) where
  -- the registers at the end told otherwise
  pub reaches_alike : (d p : ℕ) (a : Flat) (p' : ℕ) (a' : Flat) (h : ℕ → ℕ) → ((r : ℕ) → a'.regs r ≡ h r) → Reaches m p a d p' a' → Reaches m p a d p' (record a' { regs = h })
  reaches_alike d p a p' a' h same w = record {
    by = λ c is.
        let t = w.by c is in
        record {
          last = t.last;
          leads = t.leads;
          is = record {
            pc = t.is.pc;
            regs = regs_alike t.last.state a'.regs h same t.is.regs;
            shows = t.is.shows;
            shapes = t.is.shapes;
            text = t.is.text;
            log = t.is.log;
            input = t.is.input;
            taken = t.is.taken;
          };
        };
  }

  -- a register that is set twice
  again : (d p : ℕ) (a : Flat) (p' rd v w : ℕ) → Reaches m p a d p' (putting (putting a rd v) rd w) → Reaches m p a d p' (putting a rd w)
  again d p a p' rd v w r = reaches_alike d p a p' (putting (putting a rd v) rd w) (set a.regs rd w) (set_twice a.regs rd v w) r

  more : (p : ℕ) (a : Flat) (rd v n : ℕ) → At m.code p (Addi rd rd (pos n)) → 0 < rd → rd < 32 → v + n < 2 ^ 64 → Reaches m p (putting a rd v) 1 (p + 4) (putting (putting a rd v) rd (v + n))
  more p a rd v n at some small fits =
      adds m p (putting a rd v) rd rd (pos n) (v + n) at small small
      (ap (λ (x : ℕ). address_from x (pos n)) (reg_set_same a.regs rd v some) ∙ plus_small v n fits)

  pub number_sim : (p end : ℕ) (a : Flat) (rd v : ℕ) → Stands m.code p (number_code rd v) end → 0 < rd → rd < 32 → v < 2 ^ 31 → Reaches m p a 4 end (putting a rd v)
  number_sim p end a rd v h some small word =
      let high : ℕ = v / 4096 * 4096 in
      let half : ℕ = v % 4096 / 2 in
      let whole : high + half + half + v % 2 ≡ v = omega arith in
      let one : Reaches m p a 1 (p + 4) (putting a rd high) = lifts m p a rd (pos (v / 4096)) high h.0 small (upper_small (v / 4096) (omega arith)) in
      let two : Reaches m p a 2 (p + 4 + 4) (putting a rd (high + half)) =
      again 2 p a (p + 4 + 4) rd high (high + half) (reaches_on m p a 1 (p + 4) (putting a rd high) 1 (p + 4 + 4) _ one (more (p + 4) a rd high half h.1.0 some small (omega arith))) in
      let three : Reaches m p a 3 (p + 4 + 4 + 4) (putting a rd (high + half + half)) =
      again 3 p a (p + 4 + 4 + 4) rd (high + half) (high + half + half)
      (reaches_on m p a 2 (p + 4 + 4) (putting a rd (high + half)) 1 (p + 4 + 4 + 4) _ two (more (p + 4 + 4) a rd (high + half) half h.1.1.0 some small (omega arith))) in
      let four : Reaches m p a 4 (p + 4 + 4 + 4 + 4) (putting a rd (high + half + half + v % 2)) =
      again 4 p a (p + 4 + 4 + 4 + 4) rd (high + half + half) (high + half + half + v % 2)
      (reaches_on m p a 3 (p + 4 + 4 + 4) (putting a rd (high + half + half)) 1 (p + 4 + 4 + 4 + 4) _ three (more (p + 4 + 4 + 4) a rd (high + half + half) (v % 2) h.1.1.1.0 some small (omega arith))) in
      let P : ℕ → Type 0 = λ q. Reaches m p a 4 q (putting a rd v) in
      let Q : ℕ → Type 0 = λ w. Reaches m p a 4 (p + 4 + 4 + 4 + 4) (putting a rd w) in
      subst P h.1.1.1.1 (subst Q whole four)

  chunk_sim : (p end : ℕ) (a : Flat) (rd v n : ℕ) → Stands m.code p (chunk_code rd n) end → 0 < rd → rd < 32 → v < 2 ^ 53 → n < 2 ^ 11 →
      Reaches m p (putting a rd v) 2 end (putting a rd (v * 2 ^ 11 + n))
  chunk_sim p end a rd v n h some small high low =
      let one : Reaches m p (putting a rd v) 1 (p + 4) (putting (putting a rd v) rd (v * 2 ^ 11)) =
      shifts m p (putting a rd v) rd rd 11 (v * 2 ^ 11) h.0 small small (ap (λ (x : ℕ). shifted_left 64 x 11) (reg_set_same a.regs rd v some) ∙ mod-eq_of_lt (omega arith)) in
      let first : Reaches m p (putting a rd v) 1 (p + 4) (putting a rd (v * 2 ^ 11)) =
      reaches_alike 1 p (putting a rd v) (p + 4) (putting (putting a rd v) rd (v * 2 ^ 11)) (set a.regs rd (v * 2 ^ 11)) (set_twice a.regs rd v (v * 2 ^ 11)) one in
      let both : Reaches m p (putting a rd v) 2 (p + 4 + 4) (putting (putting a rd (v * 2 ^ 11)) rd (v * 2 ^ 11 + n)) =
      reaches_on m p (putting a rd v) 1 (p + 4) (putting a rd (v * 2 ^ 11)) 1 (p + 4 + 4) _ first (more (p + 4) a rd (v * 2 ^ 11) n h.1.0 some small (omega arith)) in
      let P : ℕ → Type 0 = λ q. Reaches m p (putting a rd v) 2 q (putting a rd (v * 2 ^ 11 + n)) in
      subst P h.1.1 (reaches_alike 2 p (putting a rd v) (p + 4 + 4) _ (set a.regs rd (v * 2 ^ 11 + n)) (set_twice a.regs rd (v * 2 ^ 11) (v * 2 ^ 11 + n)) both)

  pub word_sim : (p end : ℕ) (a : Flat) (rd v : ℕ) → Stands m.code p (word_code rd v) end → 0 < rd → rd < 32 → v < 2 ^ 64 → Reaches m p a 10 end (putting a rd v)
  word_sim p end a rd v h some small word =
      let x : ℕ = v / 2 ^ 33 in
      let y : ℕ = x * 2 ^ 11 + v / 2 ^ 22 % 2 ^ 11 in
      let z : ℕ = y * 2 ^ 11 + v / 2 ^ 11 % 2 ^ 11 in
      let whole : z * 2 ^ 11 + v % 2 ^ 11 ≡ v = omega arith in
      let q1 = stands_parts m.code p (number_code rd x) (chunk_code rd (v / 2 ^ 22 % 2 ^ 11) ++ (chunk_code rd (v / 2 ^ 11 % 2 ^ 11) ++ chunk_code rd (v % 2 ^ 11))) end h in
      let q2 = stands_parts m.code q1.0 (chunk_code rd (v / 2 ^ 22 % 2 ^ 11)) (chunk_code rd (v / 2 ^ 11 % 2 ^ 11) ++ chunk_code rd (v % 2 ^ 11)) end q1.2 in
      let q3 = stands_parts m.code q2.0 (chunk_code rd (v / 2 ^ 11 % 2 ^ 11)) (chunk_code rd (v % 2 ^ 11)) end q2.2 in
      let one : Reaches m p a 4 q1.0 (putting a rd x) = number_sim p q1.0 a rd x q1.1 some small (omega arith) in
      let two : Reaches m q1.0 (putting a rd x) 2 q2.0 (putting a rd y) = chunk_sim q1.0 q2.0 a rd x (v / 2 ^ 22 % 2 ^ 11) q2.1 some small (omega arith) (omega arith) in
      let three : Reaches m q2.0 (putting a rd y) 2 q3.0 (putting a rd z) = chunk_sim q2.0 q3.0 a rd y (v / 2 ^ 11 % 2 ^ 11) q3.1 some small (omega arith) (omega arith) in
      let four : Reaches m q3.0 (putting a rd z) 2 end (putting a rd (z * 2 ^ 11 + v % 2 ^ 11)) = chunk_sim q3.0 end a rd z (v % 2 ^ 11) q3.2 some small (omega arith) (omega arith) in
      let Q : ℕ → Type 0 = λ w. Reaches m p a 10 end (putting a rd w) in
      subst Q whole
      (reaches_on m p a 8 q3.0 (putting a rd z) 2 end _
      (reaches_on m p a 6 q2.0 (putting a rd y) 2 q3.0 _ (reaches_on m p a 4 q1.0 (putting a rd x) 2 q2.0 _ one two) three) four)

  -- an address in the frame
  pub place_sim : (p end : ℕ) (a : Flat) (rd low offset : ℕ) → Stands m.code p (number_code rd offset ++ (Add rd rd 2 ∷ [])) end → (2 == rd) ≡ false → 0 < rd → rd < 32 →
      a.regs 2 ≡ low → offset < 2 ^ 31 → low < 2 ^ 32 → Reaches m p a 5 end (putting a rd (low + offset))
  place_sim p end a rd low offset h other some small is fits below =
      let q = stands_parts m.code p (number_code rd offset) (Add rd rd 2 ∷ []) end h in
      let one : Reaches m p a 4 q.0 (putting a rd offset) = number_sim p q.0 a rd offset q.1 some small fits in
      let sum : plus (reg (putting a rd offset).regs rd) (reg (putting a rd offset).regs 2) ≡ low + offset =
      ap (λ (x : ℕ). plus x (reg (putting a rd offset).regs 2)) (reg_set_same a.regs rd offset some)
      ∙ ap (plus offset) (reg_set_other a.regs rd offset 2 other ∙ is)
      ∙ mod-eq_of_lt (omega arith)
      ∙ omega arith in
      let two : Reaches m q.0 (putting a rd offset) 1 (q.0 + 4) (putting (putting a rd offset) rd (low + offset)) = sums m q.0 (putting a rd offset) rd rd 2 (low + offset) q.2.0 small small (lit< tt) sum in
      let P : ℕ → Type 0 = λ e. Reaches m p a 5 e (putting a rd (low + offset)) in
      subst P q.2.1 (again 5 p a (q.0 + 4) rd offset (low + offset) (reaches_on m p a 4 q.0 (putting a rd offset) 1 (q.0 + 4) _ one two))

  -- a temporary into a register
  pub load_slot_sim : (p end : ℕ) (a : Flat) (frame rd t low v : ℕ) → Stands m.code p (load_slot frame rd t) end → (2 == rd) ≡ false → 0 < rd → rd < 32 → a.regs 2 ≡ low → frame < 2 ^ 31 →
      0x7800_0000 ≤ low → low + slot frame t + 8 ≤ 2 ^ 31 → from_le_bytes w64 (run a.mem (low + slot frame t) 8) ≡ v → Reaches m p a 6 end (putting a rd v)
  load_slot_sim p end a frame rd t low v h other some small is fits bottom top holds =
      let o : ℕ = slot frame t in
      let at : ℕ = low + o in
      let q = stands_parts m.code p (number_code rd o) (Add rd rd 2 ∷ Ld rd rd (pos 0) ∷ []) end h in
      let front : Stands m.code p (number_code rd o ++ (Add rd rd 2 ∷ [])) (q.0 + 4) = stands_join m.code p (number_code rd o) (Add rd rd 2 ∷ []) q.0 (q.0 + 4) q.1 (q.2.0, refl) in
      let one : Reaches m p a 5 (q.0 + 4) (putting a rd at) = place_sim p (q.0 + 4) a rd low o front other some small is (omega arith) (omega arith) in
      let two : Reaches m (q.0 + 4) (putting a rd at) 1 (q.0 + 4 + 4) (putting (putting a rd at) rd v) =
      loads_word m (q.0 + 4) (putting a rd at) rd rd at v q.2.1.0 small small (reg_set_same a.regs rd at some) holds (omega arith) (has_stack_read (4 * length m.code) m.store_size at 8 (omega arith) top) in
      let P : ℕ → Type 0 = λ e. Reaches m p a 6 e (putting a rd v) in
      subst P q.2.1.1 (again 6 p a (q.0 + 4 + 4) rd at v (reaches_on m p a 5 (q.0 + 4) (putting a rd at) 1 (q.0 + 4 + 4) _ one two))

  -- a register into a temporary's slot
  pub store_slot_sim : (p end : ℕ) (a : Flat) (frame rs t low v : ℕ) → Stands m.code p (store_slot frame rs t) end → (rs == 7) ≡ false → rs < 32 → a.regs 2 ≡ low → frame < 2 ^ 31 →
      0x7800_0000 ≤ low → low + slot frame t + 8 ≤ 2 ^ 31 → reg a.regs rs ≡ v → Reaches m p a 6 end (storing_word (putting a 7 (low + slot frame t)) (low + slot frame t) v)
  store_slot_sim p end a frame rs t low v h other small is fits bottom top holds =
      let o : ℕ = slot frame t in
      let at : ℕ = low + o in
      let q = stands_parts m.code p (number_code 7 o) (Add 7 7 2 ∷ Sd 7 rs (pos 0) ∷ []) end h in
      let front : Stands m.code p (number_code 7 o ++ (Add 7 7 2 ∷ [])) (q.0 + 4) = stands_join m.code p (number_code 7 o) (Add 7 7 2 ∷ []) q.0 (q.0 + 4) q.1 (q.2.0, refl) in
      let one : Reaches m p a 5 (q.0 + 4) (putting a 7 at) = place_sim p (q.0 + 4) a 7 low o front refl (lit< tt) (lit< tt) is (omega arith) (omega arith) in
      let two : Reaches m (q.0 + 4) (putting a 7 at) 1 (q.0 + 4 + 4) (storing_word (putting a 7 at) at v) =
      stores_word m (q.0 + 4) (putting a 7 at) 7 rs at v q.2.1.0 (lit< tt) small refl (reg_set_other a.regs 7 at rs other ∙ holds) (omega arith) (has_stack_write (4 * length m.code) m.store_size at 8 (omega arith) top) in
      let P : ℕ → Type 0 = λ e. Reaches m p a 6 e (storing_word (putting a 7 at) at v) in
      subst P q.2.1.1 (reaches_on m p a 5 (q.0 + 4) (putting a 7 at) 1 (q.0 + 4 + 4) _ one two)
