-- The table of instructions as data, and what a word means by it.
-- Source: the RISC-V unprivileged manual, "RV32/64G Instruction Set Listings".
use Rattle.std.specs.Prelude.{◌≡◌, ℕ, ◌<◌, ◌==◌, ◌&&◌, ◌⊎◌, Bool, ℤ, List, [], ◌∷◌, ◌++◌, Option, Some, None, if◌then◌else◌, IsTrue}
use Rattle.std.specs.List.{list_any}
use Rattle.rv_table.specs.Fields.{bits, signed, branch_bits, jump_bits, store_bits, FitsBits, FitsEven}
use Rattle.rv_table.specs.declared.inst.Inst.{Inst}
use Rattle.rv_table.specs.declared.inst.Inst.TheVariants.{Lui, Auipc, Jal, Jalr, Lb, Lh, Lw, Ld, Lbu, Lhu, Lwu, Addi, Slti, Sltiu, Xori, Ori, Andi, Addiw, Fence, Beq, Bne, Blt, Bge, Bltu, Bgeu, Sb, Sh, Sw, Sd, Slli, Srli, Srai, Slliw, Srliw, Sraiw, Add, Sll, Slt, Sltu, Xor, Srl, Or, And, Sub, Sra, Mul, Mulh, Mulhsu, Mulhu, Div, Divu, Rem, Remu, Addw, Subw, Sllw, Srlw, Sraw, Mulw, Divw, Divuw, Remw, Remuw, Ecall, Ebreak}

-- A row: its format, its fixed fields, and the instruction that the other fields make.
pub data Row : Type 0 where
  Upper : (opcode : ℕ) → (rd_imm : ℕ → ℤ → Inst) → Row
  Jump : (opcode : ℕ) → (rd_offset : ℕ → ℤ → Inst) → Row
  Immediate : (opcode funct3 : ℕ) → (rd_rs1_imm : ℕ → ℕ → ℤ → Inst) → Row
  Branch : (opcode funct3 : ℕ) → (rs1_rs2_offset : ℕ → ℕ → ℤ → Inst) → Row
  Store : (opcode funct3 : ℕ) → (rs1_rs2_imm : ℕ → ℕ → ℤ → Inst) → Row
  Shift : (opcode funct3 upper_six : ℕ) → (rd_rs1_amount : ℕ → ℕ → ℕ → Inst) → Row
  ShiftWord : (opcode funct3 funct7 : ℕ) → (rd_rs1_amount : ℕ → ℕ → ℕ → Inst) → Row
  Register : (opcode funct3 funct7 : ℕ) → (rd_rs1_rs2 : ℕ → ℕ → ℕ → Inst) → Row
  Fixed : (word : ℕ) → Inst → Row

-- the word has the fixed fields of the row
abbrev pub matches : Row → ℕ → Bool
matches (Upper opcode make) word = bits 6 0 word == opcode
matches (Jump opcode make) word = bits 6 0 word == opcode
matches (Immediate opcode funct3 make) word = (bits 6 0 word == opcode) && (bits 14 12 word == funct3)
matches (Branch opcode funct3 make) word = (bits 6 0 word == opcode) && (bits 14 12 word == funct3)
matches (Store opcode funct3 make) word = (bits 6 0 word == opcode) && (bits 14 12 word == funct3)
matches (Shift opcode funct3 upper_six make) word = (bits 6 0 word == opcode) && (bits 14 12 word == funct3) && (bits 31 26 word == upper_six)
matches (ShiftWord opcode funct3 funct7 make) word = (bits 6 0 word == opcode) && (bits 14 12 word == funct3) && (bits 31 25 word == funct7)
matches (Register opcode funct3 funct7 make) word = (bits 6 0 word == opcode) && (bits 14 12 word == funct3) && (bits 31 25 word == funct7)
matches (Fixed whole inst) word = word == whole

-- the instruction that the word is by the row
abbrev pub read : Row → ℕ → Inst
read (Upper opcode make) word = make (bits 11 7 word) (signed 20 (bits 31 12 word))
read (Jump opcode make) word = make (bits 11 7 word) (signed 21 (jump_bits word))
read (Immediate opcode funct3 make) word = make (bits 11 7 word) (bits 19 15 word) (signed 12 (bits 31 20 word))
read (Branch opcode funct3 make) word = make (bits 19 15 word) (bits 24 20 word) (signed 13 (branch_bits word))
read (Store opcode funct3 make) word = make (bits 19 15 word) (bits 24 20 word) (signed 12 (store_bits word))
read (Shift opcode funct3 upper_six make) word = make (bits 11 7 word) (bits 19 15 word) (bits 25 20 word)
read (ShiftWord opcode funct3 funct7 make) word = make (bits 11 7 word) (bits 19 15 word) (bits 24 20 word)
read (Register opcode funct3 funct7 make) word = make (bits 11 7 word) (bits 19 15 word) (bits 24 20 word)
read (Fixed whole inst) word = inst

-- the instruction of the first row that the word matches
abbrev pub lookup : List Row → ℕ → Option Inst
lookup [] word = None
lookup (row ∷ rows) word = if matches row word then Some (read row word) else lookup rows word

-- ---- the rows: opcode, funct3, then funct7 or the upper six bits

abbrev pub opcode_rows : List Row
opcode_rows =
    Upper 0b0110111 Lui ∷
    Upper 0b0010111 Auipc ∷
    Jump 0b1101111 Jal ∷
    []

abbrev pub funct3_rows : List Row
funct3_rows =
    Immediate 0b1100111 0b000 Jalr ∷
    Immediate 0b0000011 0b000 Lb ∷
    Immediate 0b0000011 0b001 Lh ∷
    Immediate 0b0000011 0b010 Lw ∷
    Immediate 0b0000011 0b011 Ld ∷
    Immediate 0b0000011 0b100 Lbu ∷
    Immediate 0b0000011 0b101 Lhu ∷
    Immediate 0b0000011 0b110 Lwu ∷
    Immediate 0b0010011 0b000 Addi ∷
    Immediate 0b0010011 0b010 Slti ∷
    Immediate 0b0010011 0b011 Sltiu ∷
    Immediate 0b0010011 0b100 Xori ∷
    Immediate 0b0010011 0b110 Ori ∷
    Immediate 0b0010011 0b111 Andi ∷
    Immediate 0b0011011 0b000 Addiw ∷
    Immediate 0b0001111 0b000 Fence ∷
    Branch 0b1100011 0b000 Beq ∷
    Branch 0b1100011 0b001 Bne ∷
    Branch 0b1100011 0b100 Blt ∷
    Branch 0b1100011 0b101 Bge ∷
    Branch 0b1100011 0b110 Bltu ∷
    Branch 0b1100011 0b111 Bgeu ∷
    Store 0b0100011 0b000 Sb ∷
    Store 0b0100011 0b001 Sh ∷
    Store 0b0100011 0b010 Sw ∷
    Store 0b0100011 0b011 Sd ∷
    []

abbrev pub shift_rows : List Row
shift_rows =
    Shift 0b0010011 0b001 0b000000 Slli ∷
    Shift 0b0010011 0b101 0b000000 Srli ∷
    Shift 0b0010011 0b101 0b010000 Srai ∷
    []

abbrev pub shift_word_rows : List Row
shift_word_rows =
    ShiftWord 0b0011011 0b001 0b0000000 Slliw ∷
    ShiftWord 0b0011011 0b101 0b0000000 Srliw ∷
    ShiftWord 0b0011011 0b101 0b0100000 Sraiw ∷
    []

abbrev pub register_rows : List Row
register_rows =
    Register 0b0110011 0b000 0b0000000 Add ∷
    Register 0b0110011 0b001 0b0000000 Sll ∷
    Register 0b0110011 0b010 0b0000000 Slt ∷
    Register 0b0110011 0b011 0b0000000 Sltu ∷
    Register 0b0110011 0b100 0b0000000 Xor ∷
    Register 0b0110011 0b101 0b0000000 Srl ∷
    Register 0b0110011 0b110 0b0000000 Or ∷
    Register 0b0110011 0b111 0b0000000 And ∷
    Register 0b0110011 0b000 0b0100000 Sub ∷
    Register 0b0110011 0b101 0b0100000 Sra ∷
    Register 0b0110011 0b000 0b0000001 Mul ∷
    Register 0b0110011 0b001 0b0000001 Mulh ∷
    Register 0b0110011 0b010 0b0000001 Mulhsu ∷
    Register 0b0110011 0b011 0b0000001 Mulhu ∷
    Register 0b0110011 0b100 0b0000001 Div ∷
    Register 0b0110011 0b101 0b0000001 Divu ∷
    Register 0b0110011 0b110 0b0000001 Rem ∷
    Register 0b0110011 0b111 0b0000001 Remu ∷
    []

abbrev pub register_word_rows : List Row
register_word_rows =
    Register 0b0111011 0b000 0b0000000 Addw ∷
    Register 0b0111011 0b000 0b0100000 Subw ∷
    Register 0b0111011 0b001 0b0000000 Sllw ∷
    Register 0b0111011 0b101 0b0000000 Srlw ∷
    Register 0b0111011 0b101 0b0100000 Sraw ∷
    Register 0b0111011 0b000 0b0000001 Mulw ∷
    Register 0b0111011 0b100 0b0000001 Divw ∷
    Register 0b0111011 0b101 0b0000001 Divuw ∷
    Register 0b0111011 0b110 0b0000001 Remw ∷
    Register 0b0111011 0b111 0b0000001 Remuw ∷
    []

abbrev pub fixed_rows : List Row
fixed_rows =
    Fixed 0x00000073 Ecall ∷
    Fixed 0x00100073 Ebreak ∷
    []

-- the whole table
abbrev pub rows : List Row
rows = opcode_rows ++ (funct3_rows ++ (shift_rows ++ (shift_word_rows ++ (register_rows ++ (register_word_rows ++ fixed_rows)))))

-- what a word means
unfoldable pub decoded : ℕ → Option Inst
decoded word = lookup rows word

-- the row is one of these
abbrev pub IsAmong : Row → List Row → Type 0
IsAmong row [] = ⊥
IsAmong row (other ∷ rest) = (other ≡ row) ⊎ IsAmong row rest

-- the row is one of the table
unfoldable pub IsRow : Row → Type 0
IsRow row = IsAmong row rows

-- the word is in a row
unfoldable pub IsInTable : ℕ → Type 0
IsInTable word = IsTrue (list_any (λ row. matches row word) rows)

-- the operands fit the fields of the instruction's format
abbrev pub Fits : Inst → Type 0
Fits (Lui rd imm) = (rd < 32) × FitsBits 20 imm
Fits (Auipc rd imm) = (rd < 32) × FitsBits 20 imm
Fits (Jal rd offset) = (rd < 32) × FitsEven 21 offset
Fits (Jalr rd rs1 imm) = (rd < 32) × (rs1 < 32) × FitsBits 12 imm
Fits (Lb rd rs1 imm) = (rd < 32) × (rs1 < 32) × FitsBits 12 imm
Fits (Lh rd rs1 imm) = (rd < 32) × (rs1 < 32) × FitsBits 12 imm
Fits (Lw rd rs1 imm) = (rd < 32) × (rs1 < 32) × FitsBits 12 imm
Fits (Ld rd rs1 imm) = (rd < 32) × (rs1 < 32) × FitsBits 12 imm
Fits (Lbu rd rs1 imm) = (rd < 32) × (rs1 < 32) × FitsBits 12 imm
Fits (Lhu rd rs1 imm) = (rd < 32) × (rs1 < 32) × FitsBits 12 imm
Fits (Lwu rd rs1 imm) = (rd < 32) × (rs1 < 32) × FitsBits 12 imm
Fits (Addi rd rs1 imm) = (rd < 32) × (rs1 < 32) × FitsBits 12 imm
Fits (Slti rd rs1 imm) = (rd < 32) × (rs1 < 32) × FitsBits 12 imm
Fits (Sltiu rd rs1 imm) = (rd < 32) × (rs1 < 32) × FitsBits 12 imm
Fits (Xori rd rs1 imm) = (rd < 32) × (rs1 < 32) × FitsBits 12 imm
Fits (Ori rd rs1 imm) = (rd < 32) × (rs1 < 32) × FitsBits 12 imm
Fits (Andi rd rs1 imm) = (rd < 32) × (rs1 < 32) × FitsBits 12 imm
Fits (Addiw rd rs1 imm) = (rd < 32) × (rs1 < 32) × FitsBits 12 imm
Fits (Fence rd rs1 imm) = (rd < 32) × (rs1 < 32) × FitsBits 12 imm
Fits (Beq rs1 rs2 offset) = (rs1 < 32) × (rs2 < 32) × FitsEven 13 offset
Fits (Bne rs1 rs2 offset) = (rs1 < 32) × (rs2 < 32) × FitsEven 13 offset
Fits (Blt rs1 rs2 offset) = (rs1 < 32) × (rs2 < 32) × FitsEven 13 offset
Fits (Bge rs1 rs2 offset) = (rs1 < 32) × (rs2 < 32) × FitsEven 13 offset
Fits (Bltu rs1 rs2 offset) = (rs1 < 32) × (rs2 < 32) × FitsEven 13 offset
Fits (Bgeu rs1 rs2 offset) = (rs1 < 32) × (rs2 < 32) × FitsEven 13 offset
Fits (Sb rs1 rs2 imm) = (rs1 < 32) × (rs2 < 32) × FitsBits 12 imm
Fits (Sh rs1 rs2 imm) = (rs1 < 32) × (rs2 < 32) × FitsBits 12 imm
Fits (Sw rs1 rs2 imm) = (rs1 < 32) × (rs2 < 32) × FitsBits 12 imm
Fits (Sd rs1 rs2 imm) = (rs1 < 32) × (rs2 < 32) × FitsBits 12 imm
Fits (Slli rd rs1 amount) = (rd < 32) × (rs1 < 32) × (amount < 64)
Fits (Srli rd rs1 amount) = (rd < 32) × (rs1 < 32) × (amount < 64)
Fits (Srai rd rs1 amount) = (rd < 32) × (rs1 < 32) × (amount < 64)
Fits (Slliw rd rs1 amount) = (rd < 32) × (rs1 < 32) × (amount < 32)
Fits (Srliw rd rs1 amount) = (rd < 32) × (rs1 < 32) × (amount < 32)
Fits (Sraiw rd rs1 amount) = (rd < 32) × (rs1 < 32) × (amount < 32)
Fits (Add rd rs1 rs2) = (rd < 32) × (rs1 < 32) × (rs2 < 32)
Fits (Sll rd rs1 rs2) = (rd < 32) × (rs1 < 32) × (rs2 < 32)
Fits (Slt rd rs1 rs2) = (rd < 32) × (rs1 < 32) × (rs2 < 32)
Fits (Sltu rd rs1 rs2) = (rd < 32) × (rs1 < 32) × (rs2 < 32)
Fits (Xor rd rs1 rs2) = (rd < 32) × (rs1 < 32) × (rs2 < 32)
Fits (Srl rd rs1 rs2) = (rd < 32) × (rs1 < 32) × (rs2 < 32)
Fits (Or rd rs1 rs2) = (rd < 32) × (rs1 < 32) × (rs2 < 32)
Fits (And rd rs1 rs2) = (rd < 32) × (rs1 < 32) × (rs2 < 32)
Fits (Sub rd rs1 rs2) = (rd < 32) × (rs1 < 32) × (rs2 < 32)
Fits (Sra rd rs1 rs2) = (rd < 32) × (rs1 < 32) × (rs2 < 32)
Fits (Mul rd rs1 rs2) = (rd < 32) × (rs1 < 32) × (rs2 < 32)
Fits (Mulh rd rs1 rs2) = (rd < 32) × (rs1 < 32) × (rs2 < 32)
Fits (Mulhsu rd rs1 rs2) = (rd < 32) × (rs1 < 32) × (rs2 < 32)
Fits (Mulhu rd rs1 rs2) = (rd < 32) × (rs1 < 32) × (rs2 < 32)
Fits (Div rd rs1 rs2) = (rd < 32) × (rs1 < 32) × (rs2 < 32)
Fits (Divu rd rs1 rs2) = (rd < 32) × (rs1 < 32) × (rs2 < 32)
Fits (Rem rd rs1 rs2) = (rd < 32) × (rs1 < 32) × (rs2 < 32)
Fits (Remu rd rs1 rs2) = (rd < 32) × (rs1 < 32) × (rs2 < 32)
Fits (Addw rd rs1 rs2) = (rd < 32) × (rs1 < 32) × (rs2 < 32)
Fits (Subw rd rs1 rs2) = (rd < 32) × (rs1 < 32) × (rs2 < 32)
Fits (Sllw rd rs1 rs2) = (rd < 32) × (rs1 < 32) × (rs2 < 32)
Fits (Srlw rd rs1 rs2) = (rd < 32) × (rs1 < 32) × (rs2 < 32)
Fits (Sraw rd rs1 rs2) = (rd < 32) × (rs1 < 32) × (rs2 < 32)
Fits (Mulw rd rs1 rs2) = (rd < 32) × (rs1 < 32) × (rs2 < 32)
Fits (Divw rd rs1 rs2) = (rd < 32) × (rs1 < 32) × (rs2 < 32)
Fits (Divuw rd rs1 rs2) = (rd < 32) × (rs1 < 32) × (rs2 < 32)
Fits (Remw rd rs1 rs2) = (rd < 32) × (rs1 < 32) × (rs2 < 32)
Fits (Remuw rd rs1 rs2) = (rd < 32) × (rs1 < 32) × (rs2 < 32)
Fits Ecall = Unit {0}
Fits Ebreak = Unit {0}
