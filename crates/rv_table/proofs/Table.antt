-- One instruction has one word: the word of an instruction, and that each row undoes it.
use Rattle.std.proofs.Common.{◌≡◌, ℕ, ◌+◌, ◌-◌, ◌*◌, ◌/◌, ◌%◌, ◌^◌, ◌<◌, Bool, true, false, cond, ◌⊎◌, inl, inr, List, [], ◌∷◌, ℤ, pos, negsuc, ltb, arith, ap, ◌∙◌, sym, refl}
use Rattle.std.specs.Prelude.{Some, is_some, IsSome, ◌↔◌, ◌==◌, ◌&&◌, ◌||◌}
use Rattle.std.specs.List.{list_any}
use Rattle.std.proofs.lemmas.Bool.Decides.{nat_tests}
use Rattle.rv_table.specs.Fields.{bits, signed, unsigned, store_bits, branch_bits, jump_bits}
use Rattle.rv_table.specs.Table.{Row, Upper, Jump, Immediate, Branch, Store, Shift, ShiftWord, Register, Fixed, matches, read, lookup, rows, decoded, IsInTable}
use Rattle.rv_table.specs.declared.inst.Inst.{Inst}
use Rattle.rv_table.specs.declared.inst.Inst.TheVariants.{Lui, Auipc, Jal, Jalr, Lb, Lh, Lw, Ld, Lbu, Lhu, Lwu, Addi, Slti, Sltiu, Xori, Ori, Andi, Addiw, Fence, Beq, Bne, Blt, Bge, Bltu, Bgeu, Sb, Sh, Sw, Sd, Slli, Srli, Srai, Slliw, Srliw, Sraiw, Add, Sll, Slt, Sltu, Xor, Srl, Or, And, Sub, Sra, Mul, Mulh, Mulhsu, Mulhu, Div, Divu, Rem, Remu, Addw, Subw, Sllw, Srlw, Sraw, Mulw, Divw, Divuw, Remw, Remuw, Ecall, Ebreak}

-- ---- the word of an instruction

abbrev upper_word : ℕ → ℕ → ℕ → ℕ
upper_word opcode rd imm = opcode + rd * 2 ^ 7 + imm * 2 ^ 12

abbrev jump_word : ℕ → ℕ → ℕ → ℕ
jump_word opcode rd offset = opcode + rd * 2 ^ 7 + offset / 2 ^ 12 % 2 ^ 8 * 2 ^ 12 + offset / 2 ^ 11 % 2 * 2 ^ 20 + offset / 2 % 2 ^ 10 * 2 ^ 21 + offset / 2 ^ 20 * 2 ^ 31

abbrev immediate_word : ℕ → ℕ → ℕ → ℕ → ℕ → ℕ
immediate_word opcode funct3 rd rs1 imm = opcode + rd * 2 ^ 7 + funct3 * 2 ^ 12 + rs1 * 2 ^ 15 + imm * 2 ^ 20

abbrev branch_word : ℕ → ℕ → ℕ → ℕ → ℕ → ℕ
branch_word opcode funct3 rs1 rs2 offset =
    opcode + offset / 2 ^ 11 % 2 * 2 ^ 7 + offset / 2 % 2 ^ 4 * 2 ^ 8 + funct3 * 2 ^ 12 + rs1 * 2 ^ 15 + rs2 * 2 ^ 20 + offset / 2 ^ 5 % 2 ^ 6 * 2 ^ 25 + offset / 2 ^ 12 * 2 ^ 31

abbrev store_word : ℕ → ℕ → ℕ → ℕ → ℕ → ℕ
store_word opcode funct3 rs1 rs2 imm = opcode + imm % 2 ^ 5 * 2 ^ 7 + funct3 * 2 ^ 12 + rs1 * 2 ^ 15 + rs2 * 2 ^ 20 + imm / 2 ^ 5 * 2 ^ 25

abbrev shift_word : ℕ → ℕ → ℕ → ℕ → ℕ → ℕ → ℕ
shift_word opcode funct3 upper_six rd rs1 amount = opcode + rd * 2 ^ 7 + funct3 * 2 ^ 12 + rs1 * 2 ^ 15 + amount * 2 ^ 20 + upper_six * 2 ^ 26

abbrev register_word : ℕ → ℕ → ℕ → ℕ → ℕ → ℕ → ℕ
register_word opcode funct3 funct7 rd rs1 rs2 = opcode + rd * 2 ^ 7 + funct3 * 2 ^ 12 + rs1 * 2 ^ 15 + rs2 * 2 ^ 20 + funct7 * 2 ^ 25

abbrev word_of : Inst → ℕ
word_of (Lui rd imm) = upper_word 0b0110111 rd (unsigned 20 imm)
word_of (Auipc rd imm) = upper_word 0b0010111 rd (unsigned 20 imm)
word_of (Jal rd offset) = jump_word 0b1101111 rd (unsigned 21 offset)
word_of (Jalr rd rs1 imm) = immediate_word 0b1100111 0b000 rd rs1 (unsigned 12 imm)
word_of (Lb rd rs1 imm) = immediate_word 0b0000011 0b000 rd rs1 (unsigned 12 imm)
word_of (Lh rd rs1 imm) = immediate_word 0b0000011 0b001 rd rs1 (unsigned 12 imm)
word_of (Lw rd rs1 imm) = immediate_word 0b0000011 0b010 rd rs1 (unsigned 12 imm)
word_of (Ld rd rs1 imm) = immediate_word 0b0000011 0b011 rd rs1 (unsigned 12 imm)
word_of (Lbu rd rs1 imm) = immediate_word 0b0000011 0b100 rd rs1 (unsigned 12 imm)
word_of (Lhu rd rs1 imm) = immediate_word 0b0000011 0b101 rd rs1 (unsigned 12 imm)
word_of (Lwu rd rs1 imm) = immediate_word 0b0000011 0b110 rd rs1 (unsigned 12 imm)
word_of (Addi rd rs1 imm) = immediate_word 0b0010011 0b000 rd rs1 (unsigned 12 imm)
word_of (Slti rd rs1 imm) = immediate_word 0b0010011 0b010 rd rs1 (unsigned 12 imm)
word_of (Sltiu rd rs1 imm) = immediate_word 0b0010011 0b011 rd rs1 (unsigned 12 imm)
word_of (Xori rd rs1 imm) = immediate_word 0b0010011 0b100 rd rs1 (unsigned 12 imm)
word_of (Ori rd rs1 imm) = immediate_word 0b0010011 0b110 rd rs1 (unsigned 12 imm)
word_of (Andi rd rs1 imm) = immediate_word 0b0010011 0b111 rd rs1 (unsigned 12 imm)
word_of (Addiw rd rs1 imm) = immediate_word 0b0011011 0b000 rd rs1 (unsigned 12 imm)
word_of (Fence rd rs1 imm) = immediate_word 0b0001111 0b000 rd rs1 (unsigned 12 imm)
word_of (Beq rs1 rs2 offset) = branch_word 0b1100011 0b000 rs1 rs2 (unsigned 13 offset)
word_of (Bne rs1 rs2 offset) = branch_word 0b1100011 0b001 rs1 rs2 (unsigned 13 offset)
word_of (Blt rs1 rs2 offset) = branch_word 0b1100011 0b100 rs1 rs2 (unsigned 13 offset)
word_of (Bge rs1 rs2 offset) = branch_word 0b1100011 0b101 rs1 rs2 (unsigned 13 offset)
word_of (Bltu rs1 rs2 offset) = branch_word 0b1100011 0b110 rs1 rs2 (unsigned 13 offset)
word_of (Bgeu rs1 rs2 offset) = branch_word 0b1100011 0b111 rs1 rs2 (unsigned 13 offset)
word_of (Sb rs1 rs2 imm) = store_word 0b0100011 0b000 rs1 rs2 (unsigned 12 imm)
word_of (Sh rs1 rs2 imm) = store_word 0b0100011 0b001 rs1 rs2 (unsigned 12 imm)
word_of (Sw rs1 rs2 imm) = store_word 0b0100011 0b010 rs1 rs2 (unsigned 12 imm)
word_of (Sd rs1 rs2 imm) = store_word 0b0100011 0b011 rs1 rs2 (unsigned 12 imm)
word_of (Slli rd rs1 amount) = shift_word 0b0010011 0b001 0b000000 rd rs1 amount
word_of (Srli rd rs1 amount) = shift_word 0b0010011 0b101 0b000000 rd rs1 amount
word_of (Srai rd rs1 amount) = shift_word 0b0010011 0b101 0b010000 rd rs1 amount
word_of (Slliw rd rs1 amount) = register_word 0b0011011 0b001 0b0000000 rd rs1 amount
word_of (Srliw rd rs1 amount) = register_word 0b0011011 0b101 0b0000000 rd rs1 amount
word_of (Sraiw rd rs1 amount) = register_word 0b0011011 0b101 0b0100000 rd rs1 amount
word_of (Add rd rs1 rs2) = register_word 0b0110011 0b000 0b0000000 rd rs1 rs2
word_of (Sll rd rs1 rs2) = register_word 0b0110011 0b001 0b0000000 rd rs1 rs2
word_of (Slt rd rs1 rs2) = register_word 0b0110011 0b010 0b0000000 rd rs1 rs2
word_of (Sltu rd rs1 rs2) = register_word 0b0110011 0b011 0b0000000 rd rs1 rs2
word_of (Xor rd rs1 rs2) = register_word 0b0110011 0b100 0b0000000 rd rs1 rs2
word_of (Srl rd rs1 rs2) = register_word 0b0110011 0b101 0b0000000 rd rs1 rs2
word_of (Or rd rs1 rs2) = register_word 0b0110011 0b110 0b0000000 rd rs1 rs2
word_of (And rd rs1 rs2) = register_word 0b0110011 0b111 0b0000000 rd rs1 rs2
word_of (Sub rd rs1 rs2) = register_word 0b0110011 0b000 0b0100000 rd rs1 rs2
word_of (Sra rd rs1 rs2) = register_word 0b0110011 0b101 0b0100000 rd rs1 rs2
word_of (Mul rd rs1 rs2) = register_word 0b0110011 0b000 0b0000001 rd rs1 rs2
word_of (Mulh rd rs1 rs2) = register_word 0b0110011 0b001 0b0000001 rd rs1 rs2
word_of (Mulhsu rd rs1 rs2) = register_word 0b0110011 0b010 0b0000001 rd rs1 rs2
word_of (Mulhu rd rs1 rs2) = register_word 0b0110011 0b011 0b0000001 rd rs1 rs2
word_of (Div rd rs1 rs2) = register_word 0b0110011 0b100 0b0000001 rd rs1 rs2
word_of (Divu rd rs1 rs2) = register_word 0b0110011 0b101 0b0000001 rd rs1 rs2
word_of (Rem rd rs1 rs2) = register_word 0b0110011 0b110 0b0000001 rd rs1 rs2
word_of (Remu rd rs1 rs2) = register_word 0b0110011 0b111 0b0000001 rd rs1 rs2
word_of (Addw rd rs1 rs2) = register_word 0b0111011 0b000 0b0000000 rd rs1 rs2
word_of (Subw rd rs1 rs2) = register_word 0b0111011 0b000 0b0100000 rd rs1 rs2
word_of (Sllw rd rs1 rs2) = register_word 0b0111011 0b001 0b0000000 rd rs1 rs2
word_of (Srlw rd rs1 rs2) = register_word 0b0111011 0b101 0b0000000 rd rs1 rs2
word_of (Sraw rd rs1 rs2) = register_word 0b0111011 0b101 0b0100000 rd rs1 rs2
word_of (Mulw rd rs1 rs2) = register_word 0b0111011 0b000 0b0000001 rd rs1 rs2
word_of (Divw rd rs1 rs2) = register_word 0b0111011 0b100 0b0000001 rd rs1 rs2
word_of (Divuw rd rs1 rs2) = register_word 0b0111011 0b101 0b0000001 rd rs1 rs2
word_of (Remw rd rs1 rs2) = register_word 0b0111011 0b110 0b0000001 rd rs1 rs2
word_of (Remuw rd rs1 rs2) = register_word 0b0111011 0b111 0b0000001 rd rs1 rs2
word_of Ecall = 0x00000073
word_of Ebreak = 0x00100073

-- ---- reading a word's fields and putting them together again is the word

unsigned-signed : (size n : ℕ) → n < 2 ^ size → unsigned size (signed size n) ≡ n
unsigned-signed size n h = by_test (ltb n (2 ^ (size - 1)))
  where
    by_test : (z : Bool) → unsigned size (cond z (pos n) (negsuc (2 ^ size - 1 - n))) ≡ n
    by_test true = refl
    by_test false = omega arith

-- the row reads nothing but what its word says
abbrev IsUndone : Row → Type 0
IsUndone row = (w : ℕ) → w < 2 ^ 32 → matches row w ≡ true → word_of (read row w) ≡ w

abbrev AreUndone : List Row → Type 0
AreUndone [] = Unit {0}
AreUndone (row ∷ rows) = IsUndone row × AreUndone rows

upper_whole : (w opcode : ℕ) → w < 2 ^ 32 → bits 6 0 w ≡ opcode → upper_word opcode (bits 11 7 w) (bits 31 12 w) ≡ w
upper_whole w opcode h o = omega arith

jump_whole : (w opcode : ℕ) → w < 2 ^ 32 → bits 6 0 w ≡ opcode → jump_word opcode (bits 11 7 w) (jump_bits w) ≡ w
jump_whole w opcode h o = omega arith

module _ (w opcode funct3 : ℕ) (h : w < 2 ^ 32) (o : bits 6 0 w ≡ opcode) (f : bits 14 12 w ≡ funct3) where
  immediate_whole : immediate_word opcode funct3 (bits 11 7 w) (bits 19 15 w) (bits 31 20 w) ≡ w
  immediate_whole = omega arith

  branch_whole : branch_word opcode funct3 (bits 19 15 w) (bits 24 20 w) (branch_bits w) ≡ w
  branch_whole = omega arith

  store_whole : store_word opcode funct3 (bits 19 15 w) (bits 24 20 w) (store_bits w) ≡ w
  store_whole = omega arith

  shift_whole : (upper_six : ℕ) → bits 31 26 w ≡ upper_six → shift_word opcode funct3 upper_six (bits 11 7 w) (bits 19 15 w) (bits 25 20 w) ≡ w
  shift_whole upper_six u = omega arith

  register_whole : (funct7 : ℕ) → bits 31 25 w ≡ funct7 → register_word opcode funct3 funct7 (bits 11 7 w) (bits 19 15 w) (bits 24 20 w) ≡ w
  register_whole funct7 u = omega arith

branch_bits-bound : (w : ℕ) → branch_bits w < 2 ^ 13
branch_bits-bound w = omega arith

jump_bits-bound : (w : ℕ) → jump_bits w < 2 ^ 21
jump_bits-bound w = omega arith

store_bits-bound : (w : ℕ) → store_bits w < 2 ^ 12
store_bits-bound w = omega arith

pub two_parts : (a b : Bool) → (a && b) ≡ true → (a ≡ true) × (b ≡ true)
two_parts true true h = (refl, refl)
two_parts true false h = cc
two_parts false b h = cc

pub three_parts : (a b c : Bool) → (a && b && c) ≡ true → (a ≡ true) × (b ≡ true) × (c ≡ true)
three_parts true true true h = (refl, refl, refl)
three_parts true true false h = cc
three_parts true false c h = cc
three_parts false b c h = cc

pub same : (a b : ℕ) → (a == b) ≡ true → a ≡ b
same a b h = grind (arith, nat_tests)

module _ (opcode : ℕ) where
  upper_undone : (make : ℕ → ℤ → Inst) → ((d : ℕ) (i : ℤ) → word_of (make d i) ≡ upper_word opcode d (unsigned 20 i)) → IsUndone (Upper opcode make)
  upper_undone make is w h m =
      is (bits 11 7 w) (signed 20 (bits 31 12 w)) ∙ ap (λ (n : ℕ). upper_word opcode (bits 11 7 w) n) (unsigned-signed 20 (bits 31 12 w) (omega arith))
      ∙ upper_whole w opcode h (same (bits 6 0 w) opcode m)

  jump_undone : (make : ℕ → ℤ → Inst) → ((d : ℕ) (i : ℤ) → word_of (make d i) ≡ jump_word opcode d (unsigned 21 i)) → IsUndone (Jump opcode make)
  jump_undone make is w h m =
      is (bits 11 7 w) (signed 21 (jump_bits w)) ∙ ap (λ (n : ℕ). jump_word opcode (bits 11 7 w) n) (unsigned-signed 21 (jump_bits w) (jump_bits-bound w))
      ∙ jump_whole w opcode h (same (bits 6 0 w) opcode m)

  module _ (funct3 : ℕ) where
    immediate_undone : (make : ℕ → ℕ → ℤ → Inst) → ((d s : ℕ) (i : ℤ) → word_of (make d s i) ≡ immediate_word opcode funct3 d s (unsigned 12 i)) → IsUndone (Immediate opcode funct3 make)
    immediate_undone make is w h m =
        let p = two_parts (bits 6 0 w == opcode) (bits 14 12 w == funct3) m in
        is (bits 11 7 w) (bits 19 15 w) (signed 12 (bits 31 20 w))
        ∙ ap (λ (n : ℕ). immediate_word opcode funct3 (bits 11 7 w) (bits 19 15 w) n) (unsigned-signed 12 (bits 31 20 w) (omega arith))
        ∙ immediate_whole w opcode funct3 h (same (bits 6 0 w) opcode p.0) (same (bits 14 12 w) funct3 p.1)

    branch_undone : (make : ℕ → ℕ → ℤ → Inst) → ((s t : ℕ) (i : ℤ) → word_of (make s t i) ≡ branch_word opcode funct3 s t (unsigned 13 i)) → IsUndone (Branch opcode funct3 make)
    branch_undone make is w h m =
        let p = two_parts (bits 6 0 w == opcode) (bits 14 12 w == funct3) m in
        is (bits 19 15 w) (bits 24 20 w) (signed 13 (branch_bits w))
        ∙ ap (λ (n : ℕ). branch_word opcode funct3 (bits 19 15 w) (bits 24 20 w) n) (unsigned-signed 13 (branch_bits w) (branch_bits-bound w))
        ∙ branch_whole w opcode funct3 h (same (bits 6 0 w) opcode p.0) (same (bits 14 12 w) funct3 p.1)

    store_undone : (make : ℕ → ℕ → ℤ → Inst) → ((s t : ℕ) (i : ℤ) → word_of (make s t i) ≡ store_word opcode funct3 s t (unsigned 12 i)) → IsUndone (Store opcode funct3 make)
    store_undone make is w h m =
        let p = two_parts (bits 6 0 w == opcode) (bits 14 12 w == funct3) m in
        is (bits 19 15 w) (bits 24 20 w) (signed 12 (store_bits w))
        ∙ ap (λ (n : ℕ). store_word opcode funct3 (bits 19 15 w) (bits 24 20 w) n) (unsigned-signed 12 (store_bits w) (store_bits-bound w))
        ∙ store_whole w opcode funct3 h (same (bits 6 0 w) opcode p.0) (same (bits 14 12 w) funct3 p.1)

    module _ (top : ℕ) where
      shift_undone : (make : ℕ → ℕ → ℕ → Inst) → ((d s n : ℕ) → word_of (make d s n) ≡ shift_word opcode funct3 top d s n) → IsUndone (Shift opcode funct3 top make)
      shift_undone make is w h m =
          let p = three_parts (bits 6 0 w == opcode) (bits 14 12 w == funct3) (bits 31 26 w == top) m in
          is (bits 11 7 w) (bits 19 15 w) (bits 25 20 w)
          ∙ shift_whole w opcode funct3 h (same (bits 6 0 w) opcode p.0) (same (bits 14 12 w) funct3 p.1) top (same (bits 31 26 w) top p.2)

      shift_word_undone : (make : ℕ → ℕ → ℕ → Inst) → ((d s n : ℕ) → word_of (make d s n) ≡ register_word opcode funct3 top d s n) → IsUndone (ShiftWord opcode funct3 top make)
      shift_word_undone make is w h m =
          let p = three_parts (bits 6 0 w == opcode) (bits 14 12 w == funct3) (bits 31 25 w == top) m in
          is (bits 11 7 w) (bits 19 15 w) (bits 24 20 w)
          ∙ register_whole w opcode funct3 h (same (bits 6 0 w) opcode p.0) (same (bits 14 12 w) funct3 p.1) top (same (bits 31 25 w) top p.2)

      register_undone : (make : ℕ → ℕ → ℕ → Inst) → ((d s n : ℕ) → word_of (make d s n) ≡ register_word opcode funct3 top d s n) → IsUndone (Register opcode funct3 top make)
      register_undone make is w h m =
          let p = three_parts (bits 6 0 w == opcode) (bits 14 12 w == funct3) (bits 31 25 w == top) m in
          is (bits 11 7 w) (bits 19 15 w) (bits 24 20 w)
          ∙ register_whole w opcode funct3 h (same (bits 6 0 w) opcode p.0) (same (bits 14 12 w) funct3 p.1) top (same (bits 31 25 w) top p.2)

fixed_undone : (word : ℕ) (inst : Inst) → word_of inst ≡ word → IsUndone (Fixed word inst)
fixed_undone word inst is w h m = is ∙ sym (same w word m)

rows_undone : AreUndone rows
rows_undone = (
  upper_undone 0b0110111 Lui (λ _ _. refl),
  (
    upper_undone 0b0010111 Auipc (λ _ _. refl),
    (
      jump_undone 0b1101111 Jal (λ _ _. refl),
      (
        immediate_undone 0b1100111 0b000 Jalr (λ _ _ _. refl),
        (
          immediate_undone 0b0000011 0b000 Lb (λ _ _ _. refl),
          (
            immediate_undone 0b0000011 0b001 Lh (λ _ _ _. refl),
            (
              immediate_undone 0b0000011 0b010 Lw (λ _ _ _. refl),
              (
                immediate_undone 0b0000011 0b011 Ld (λ _ _ _. refl),
                (
                  immediate_undone 0b0000011 0b100 Lbu (λ _ _ _. refl),
                  (
                    immediate_undone 0b0000011 0b101 Lhu (λ _ _ _. refl),
                    (
                      immediate_undone 0b0000011 0b110 Lwu (λ _ _ _. refl),
                      (
                        immediate_undone 0b0010011 0b000 Addi (λ _ _ _. refl),
                        (
                          immediate_undone 0b0010011 0b010 Slti (λ _ _ _. refl),
                          (
                            immediate_undone 0b0010011 0b011 Sltiu (λ _ _ _. refl),
                            (
                              immediate_undone 0b0010011 0b100 Xori (λ _ _ _. refl),
                              (
                                immediate_undone 0b0010011 0b110 Ori (λ _ _ _. refl),
                                (
                                  immediate_undone 0b0010011 0b111 Andi (λ _ _ _. refl),
                                  (
                                    immediate_undone 0b0011011 0b000 Addiw (λ _ _ _. refl),
                                    (
                                      immediate_undone 0b0001111 0b000 Fence (λ _ _ _. refl),
                                      (
                                        branch_undone 0b1100011 0b000 Beq (λ _ _ _. refl),
                                        (
                                          branch_undone 0b1100011 0b001 Bne (λ _ _ _. refl),
                                          (
                                            branch_undone 0b1100011 0b100 Blt (λ _ _ _. refl),
                                            (
                                              branch_undone 0b1100011 0b101 Bge (λ _ _ _. refl),
                                              (
                                                branch_undone 0b1100011 0b110 Bltu (λ _ _ _. refl),
                                                (
                                                  branch_undone 0b1100011 0b111 Bgeu (λ _ _ _. refl),
                                                  (
                                                    store_undone 0b0100011 0b000 Sb (λ _ _ _. refl),
                                                    (
                                                      store_undone 0b0100011 0b001 Sh (λ _ _ _. refl),
                                                      (
                                                        store_undone 0b0100011 0b010 Sw (λ _ _ _. refl),
                                                        (
                                                          store_undone 0b0100011 0b011 Sd (λ _ _ _. refl),
                                                          (
                                                            shift_undone 0b0010011 0b001 0b000000 Slli (λ _ _ _. refl),
                                                            (
                                                              shift_undone 0b0010011 0b101 0b000000 Srli (λ _ _ _. refl),
                                                              (
                                                                shift_undone 0b0010011 0b101 0b010000 Srai (λ _ _ _. refl),
                                                                (
                                                                  shift_word_undone 0b0011011 0b001 0b0000000 Slliw (λ _ _ _. refl),
                                                                  (
                                                                    shift_word_undone 0b0011011 0b101 0b0000000 Srliw (λ _ _ _. refl),
                                                                    (
                                                                      shift_word_undone 0b0011011 0b101 0b0100000 Sraiw (λ _ _ _. refl),
                                                                      (
                                                                        register_undone 0b0110011 0b000 0b0000000 Add (λ _ _ _. refl),
                                                                        (
                                                                          register_undone 0b0110011 0b001 0b0000000 Sll (λ _ _ _. refl),
                                                                          (
                                                                            register_undone 0b0110011 0b010 0b0000000 Slt (λ _ _ _. refl),
                                                                            (
                                                                              register_undone 0b0110011 0b011 0b0000000 Sltu (λ _ _ _. refl),
                                                                              (
                                                                                register_undone 0b0110011 0b100 0b0000000 Xor (λ _ _ _. refl),
                                                                                (
                                                                                  register_undone 0b0110011 0b101 0b0000000 Srl (λ _ _ _. refl),
                                                                                  (
                                                                                    register_undone 0b0110011 0b110 0b0000000 Or (λ _ _ _. refl),
                                                                                    (
                                                                                      register_undone 0b0110011 0b111 0b0000000 And (λ _ _ _. refl),
                                                                                      (
                                                                                        register_undone 0b0110011 0b000 0b0100000 Sub (λ _ _ _. refl),
                                                                                        (
                                                                                          register_undone 0b0110011 0b101 0b0100000 Sra (λ _ _ _. refl),
                                                                                          (
                                                                                            register_undone 0b0110011 0b000 0b0000001 Mul (λ _ _ _. refl),
                                                                                            (
                                                                                              register_undone 0b0110011 0b001 0b0000001 Mulh (λ _ _ _. refl),
                                                                                              (
                                                                                                register_undone 0b0110011 0b010 0b0000001 Mulhsu (λ _ _ _. refl),
                                                                                                (
                                                                                                  register_undone 0b0110011 0b011 0b0000001 Mulhu (λ _ _ _. refl),
                                                                                                  (
                                                                                                    register_undone 0b0110011 0b100 0b0000001 Div (λ _ _ _. refl),
                                                                                                    (
                                                                                                      register_undone 0b0110011 0b101 0b0000001 Divu (λ _ _ _. refl),
                                                                                                      (
                                                                                                        register_undone 0b0110011 0b110 0b0000001 Rem (λ _ _ _. refl),
                                                                                                        (
                                                                                                          register_undone 0b0110011 0b111 0b0000001 Remu (λ _ _ _. refl),
                                                                                                          (
                                                                                                            register_undone 0b0111011 0b000 0b0000000 Addw (λ _ _ _. refl),
                                                                                                            (
                                                                                                              register_undone 0b0111011 0b000 0b0100000 Subw (λ _ _ _. refl),
                                                                                                              (
                                                                                                                register_undone 0b0111011 0b001 0b0000000 Sllw (λ _ _ _. refl),
                                                                                                                (
                                                                                                                  register_undone 0b0111011 0b101 0b0000000 Srlw (λ _ _ _. refl),
                                                                                                                  (
                                                                                                                    register_undone 0b0111011 0b101 0b0100000 Sraw (λ _ _ _. refl),
                                                                                                                    (
                                                                                                                      register_undone 0b0111011 0b000 0b0000001 Mulw (λ _ _ _. refl),
                                                                                                                      (
                                                                                                                        register_undone 0b0111011 0b100 0b0000001 Divw (λ _ _ _. refl),
                                                                                                                        (
                                                                                                                          register_undone 0b0111011 0b101 0b0000001 Divuw (λ _ _ _. refl),
                                                                                                                          (
                                                                                                                            register_undone 0b0111011 0b110 0b0000001 Remw (λ _ _ _. refl),
                                                                                                                            (
                                                                                                                              register_undone 0b0111011 0b111 0b0000001 Remuw (λ _ _ _. refl),
                                                                                                                              (
                                                                                                                                fixed_undone 0x00000073 Ecall refl,
                                                                                                                                (
                                                                                                                                  fixed_undone 0x00100073 Ebreak refl,
                                                                                                                                  tt,
                                                                                                                                ),
                                                                                                                              ),
                                                                                                                            ),
                                                                                                                          ),
                                                                                                                        ),
                                                                                                                      ),
                                                                                                                    ),
                                                                                                                  ),
                                                                                                                ),
                                                                                                              ),
                                                                                                            ),
                                                                                                          ),
                                                                                                        ),
                                                                                                      ),
                                                                                                    ),
                                                                                                  ),
                                                                                                ),
                                                                                              ),
                                                                                            ),
                                                                                          ),
                                                                                        ),
                                                                                      ),
                                                                                    ),
                                                                                  ),
                                                                                ),
                                                                              ),
                                                                            ),
                                                                          ),
                                                                        ),
                                                                      ),
                                                                    ),
                                                                  ),
                                                                ),
                                                              ),
                                                            ),
                                                          ),
                                                        ),
                                                      ),
                                                    ),
                                                  ),
                                                ),
                                              ),
                                            ),
                                          ),
                                        ),
                                      ),
                                    ),
                                  ),
                                ),
                              ),
                            ),
                          ),
                        ),
                      ),
                    ),
                  ),
                ),
              ),
            ),
          ),
        ),
      ),
    ),
  ),
)

chosen : {A : Type 0} (b : Bool) (x y z : A) → cond b x y ≡ z → ((b ≡ true) × (x ≡ z)) ⊎ ((b ≡ false) × (y ≡ z))
chosen true x y z e = inl (refl, e)
chosen false x y z e = inr (refl, e)

lookup_undone : (rows : List Row) → AreUndone rows → (w : ℕ) (i : Inst) → w < 2 ^ 32 → lookup rows w ≡ Some i → word_of i ≡ w
lookup_undone [] all w i h e = cc
lookup_undone (row ∷ rows) all w i h e =
    elim (chosen (matches row w) (Some (read row w)) (lookup rows w) (Some i) e) [
      | inl p ↦ let same : read row w ≡ i = cc in ap word_of (sym same) ∙ all.0 w h p.0
      | inr p ↦ lookup_undone rows all.1 w i h p.1
    ]

-- two words that mean one instruction are one
pub one_word : (v w : ℕ) (i : Inst) → v < 2 ^ 32 → w < 2 ^ 32 → lookup rows v ≡ Some i → lookup rows w ≡ Some i → v ≡ w
one_word v w i hv hw ev ew = sym (lookup_undone rows rows_undone v i hv ev) ∙ lookup_undone rows rows_undone w i hw ew

-- ---- a word is decoded exactly where some row matches

lookup_some : (rows : List Row) (w : ℕ) → is_some (lookup rows w) ≡ list_any (λ row. matches row w) rows
lookup_some [] w = refl
lookup_some (row ∷ rows) w =
    elim (matches row w) as (λ z. is_some (cond z (Some (read row w)) (lookup rows w)) ≡ (z || list_any (λ r. matches r w) rows)) [
      | true ↦ refl
      | false ↦ lookup_some rows w
    ]

pub decoded_some : (w : ℕ) → IsSome (decoded w) ↔ IsInTable w
unfolding decoded IsInTable
decoded_some w = (λ h. sym (lookup_some rows w) ∙ h, λ h. lookup_some rows w ∙ h)
