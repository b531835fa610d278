-- The machine: its state, what an instruction does to it, and one step.
-- Source: the RISC-V unprivileged manual, chapters RV32I, RV64I and "M". Misaligned loads and stores
-- are carried out. Memory is a list of ranges; an access lies inside one of them.
use Rattle.std.specs.Prelude.{ℕ, ◌+◌, ◌-◌, ◌*◌, ◌/◌, ◌%◌, ◌^◌, ◌==◌, ◌&&◌, not, Bool, true, false, ℤ, List, [], ◌∷◌, ◌++◌, length, take, drop, Option, Some, None, option_map, option_and_then, position, slice_get, slice_index, slice_set, slice_range, nat_lt, nat_le, bit_and, bit_or, bit_xor, if◌then◌else◌}
use Rattle.std.specs.List.{list_any}
use Rattle.std.specs.Int.{w8, w16, w32, w64, from_le_bytes, to_le_bytes}
use Rattle.rv_table.specs.Table.{decoded}
use Rattle.rv_table.specs.Words.{word, upper, low, extended, plus, minus, flag, signed_below, shifted_left, shifted_right, shifted_signed, high_product, high_product_mixed, high_product_unsigned, quotient, remainder, quotient_unsigned, remainder_unsigned}
use Rattle.rv_table.specs.declared.inst.Inst.{Inst}
use Rattle.rv_table.specs.declared.inst.Inst.TheVariants.{Lui, Auipc, Jal, Jalr, Lb, Lh, Lw, Ld, Lbu, Lhu, Lwu, Addi, Slti, Sltiu, Xori, Ori, Andi, Addiw, Fence, Beq, Bne, Blt, Bge, Bltu, Bgeu, Sb, Sh, Sw, Sd, Slli, Srli, Srai, Slliw, Srliw, Sraiw, Add, Sll, Slt, Sltu, Xor, Srl, Or, And, Sub, Sra, Mul, Mulh, Mulhsu, Mulhu, Div, Divu, Rem, Remu, Addw, Subw, Sllw, Srlw, Sraw, Mulw, Divw, Divuw, Remw, Remuw, Ecall, Ebreak}
use Rattle.rv_table.specs.declared.effect.Access.{Access}
use Rattle.rv_table.specs.declared.effect.Access.TheVariants.{Read, Write, Execute}
use Rattle.rv_table.specs.declared.effect.LoadKind.{LoadKind}
use Rattle.rv_table.specs.declared.effect.LoadKind.TheVariants.{SignedByte, SignedHalf, SignedWord, Double as LoadDouble, UnsignedByte, UnsignedHalf, UnsignedWord}
use Rattle.rv_table.specs.declared.effect.StoreKind.{StoreKind}
use Rattle.rv_table.specs.declared.effect.StoreKind.TheVariants.{Byte, Half, Word, Double as StoreDouble}
use Rattle.rv_table.specs.declared.effect.Effect.{Effect}
use Rattle.rv_table.specs.declared.effect.Effect.TheVariants.{Put, Load, Store, Branch, Link, Pass, Ask, Stop}
use Rattle.rv_table.specs.declared.effect.Event.{Event}
use Rattle.rv_table.specs.declared.effect.Event.TheVariants.{Next, System, Break, AllocCall, Trap}

-- ---- memory

-- a range: its first address, what it allows, and its bytes
pub record Area : Type 0 where
  pub start : ℕ
  pub readable : Bool
  pub writable : Bool
  pub executable : Bool
  pub bytes : List ℕ

-- the one of three flags that speaks of the access
abbrev pub allowed : Access → (readable writable executable : Bool) → Bool
allowed Read readable writable executable = readable
allowed Write readable writable executable = writable
allowed Execute readable writable executable = executable

abbrev pub allows : Access → Area → Bool
allows access area = allowed access area.readable area.writable area.executable

-- the range allows the access and holds these addresses
abbrev pub covers : Access → ℕ → ℕ → Area → Bool
covers access address size area = allows access area && nat_le area.start address && nat_le (address + size) (area.start + length area.bytes)

-- the bytes there, where one range covers them
abbrev pub loaded : List Area → Access → ℕ → ℕ → Option (List ℕ)
loaded areas access address size =
    option_and_then (λ i. option_map (λ area. slice_range area.bytes (address - area.start) (address - area.start + size)) (slice_get areas i)) (position (covers access address size) areas)

-- the range with these bytes there
abbrev pub overwritten : Area → ℕ → List ℕ → Area
overwritten area address bytes =
    let at = address - area.start in
    record area { bytes = take at area.bytes ++ bytes ++ drop (at + length bytes) area.bytes }

-- memory with these bytes at the start of a buffer, where one range that may be written covers the buffer
abbrev pub filled : List Area → ℕ → ℕ → List ℕ → Option (List Area)
filled areas address size bytes =
    option_and_then (λ i. option_map (λ area. slice_set areas i (overwritten area address bytes)) (slice_get areas i)) (position (covers Write address size) areas)

-- memory with these bytes there, where one range that may be written covers them
abbrev pub stored : List Area → ℕ → List ℕ → Option (List Area)
stored areas address bytes = filled areas address (length bytes) bytes

-- ---- the state

-- 32 registers, of which the first stays 0, the program counter, and the ranges
pub record State : Type 0 where
  pub registers : List ℕ
  pub pc : ℕ
  pub areas : List Area

abbrev pub register : State → ℕ → ℕ
register s r = slice_index s.registers r

-- a write to register 0 is lost
abbrev pub with_register : List ℕ → ℕ → ℕ → List ℕ
with_register registers rd value = if rd == 0 then registers else slice_set registers rd value

abbrev pub next_pc : State → ℕ
next_pc s = plus s.pc 4

-- ---- what an instruction does

-- an immediate or an offset from an address
abbrev pub address_from : ℕ → ℤ → ℕ
address_from base by = plus base (word by)

abbrev pub effect_of : Inst → State → Effect
effect_of (Lui rd imm) s = Put rd (upper imm)
effect_of (Auipc rd imm) s = Put rd (plus s.pc (upper imm))
effect_of (Jal rd offset) s = Link rd (address_from s.pc offset)
effect_of (Jalr rd rs1 imm) s = Link rd (address_from (register s rs1) imm / 2 * 2)
effect_of (Lb rd rs1 imm) s = Load rd (address_from (register s rs1) imm) SignedByte
effect_of (Lh rd rs1 imm) s = Load rd (address_from (register s rs1) imm) SignedHalf
effect_of (Lw rd rs1 imm) s = Load rd (address_from (register s rs1) imm) SignedWord
effect_of (Ld rd rs1 imm) s = Load rd (address_from (register s rs1) imm) LoadDouble
effect_of (Lbu rd rs1 imm) s = Load rd (address_from (register s rs1) imm) UnsignedByte
effect_of (Lhu rd rs1 imm) s = Load rd (address_from (register s rs1) imm) UnsignedHalf
effect_of (Lwu rd rs1 imm) s = Load rd (address_from (register s rs1) imm) UnsignedWord
effect_of (Addi rd rs1 imm) s = Put rd (address_from (register s rs1) imm)
effect_of (Slti rd rs1 imm) s = Put rd (flag (signed_below (register s rs1) (word imm)))
effect_of (Sltiu rd rs1 imm) s = Put rd (flag (nat_lt (register s rs1) (word imm)))
effect_of (Xori rd rs1 imm) s = Put rd (bit_xor (register s rs1) (word imm))
effect_of (Ori rd rs1 imm) s = Put rd (bit_or (register s rs1) (word imm))
effect_of (Andi rd rs1 imm) s = Put rd (bit_and (register s rs1) (word imm))
effect_of (Addiw rd rs1 imm) s = Put rd (extended 32 (low (address_from (register s rs1) imm)))
effect_of (Fence rd rs1 imm) s = Pass
effect_of (Beq rs1 rs2 offset) s = Branch (register s rs1 == register s rs2) (address_from s.pc offset)
effect_of (Bne rs1 rs2 offset) s = Branch (not (register s rs1 == register s rs2)) (address_from s.pc offset)
effect_of (Blt rs1 rs2 offset) s = Branch (signed_below (register s rs1) (register s rs2)) (address_from s.pc offset)
effect_of (Bge rs1 rs2 offset) s = Branch (not (signed_below (register s rs1) (register s rs2))) (address_from s.pc offset)
effect_of (Bltu rs1 rs2 offset) s = Branch (nat_lt (register s rs1) (register s rs2)) (address_from s.pc offset)
effect_of (Bgeu rs1 rs2 offset) s = Branch (not (nat_lt (register s rs1) (register s rs2))) (address_from s.pc offset)
effect_of (Sb rs1 rs2 imm) s = Store (address_from (register s rs1) imm) Byte (register s rs2)
effect_of (Sh rs1 rs2 imm) s = Store (address_from (register s rs1) imm) Half (register s rs2)
effect_of (Sw rs1 rs2 imm) s = Store (address_from (register s rs1) imm) Word (register s rs2)
effect_of (Sd rs1 rs2 imm) s = Store (address_from (register s rs1) imm) StoreDouble (register s rs2)
effect_of (Slli rd rs1 amount) s = Put rd (shifted_left 64 (register s rs1) amount)
effect_of (Srli rd rs1 amount) s = Put rd (shifted_right (register s rs1) amount)
effect_of (Srai rd rs1 amount) s = Put rd (shifted_signed 64 (register s rs1) amount)
effect_of (Slliw rd rs1 amount) s = Put rd (extended 32 (shifted_left 32 (low (register s rs1)) amount))
effect_of (Srliw rd rs1 amount) s = Put rd (extended 32 (shifted_right (low (register s rs1)) amount))
effect_of (Sraiw rd rs1 amount) s = Put rd (extended 32 (shifted_signed 32 (low (register s rs1)) amount))
effect_of (Add rd rs1 rs2) s = Put rd (plus (register s rs1) (register s rs2))
effect_of (Sll rd rs1 rs2) s = Put rd (shifted_left 64 (register s rs1) (register s rs2 % 64))
effect_of (Slt rd rs1 rs2) s = Put rd (flag (signed_below (register s rs1) (register s rs2)))
effect_of (Sltu rd rs1 rs2) s = Put rd (flag (nat_lt (register s rs1) (register s rs2)))
effect_of (Xor rd rs1 rs2) s = Put rd (bit_xor (register s rs1) (register s rs2))
effect_of (Srl rd rs1 rs2) s = Put rd (shifted_right (register s rs1) (register s rs2 % 64))
effect_of (Or rd rs1 rs2) s = Put rd (bit_or (register s rs1) (register s rs2))
effect_of (And rd rs1 rs2) s = Put rd (bit_and (register s rs1) (register s rs2))
effect_of (Sub rd rs1 rs2) s = Put rd (minus (register s rs1) (register s rs2))
effect_of (Sra rd rs1 rs2) s = Put rd (shifted_signed 64 (register s rs1) (register s rs2 % 64))
effect_of (Mul rd rs1 rs2) s = Put rd (register s rs1 * register s rs2 % 2 ^ 64)
effect_of (Mulh rd rs1 rs2) s = Put rd (high_product (register s rs1) (register s rs2))
effect_of (Mulhsu rd rs1 rs2) s = Put rd (high_product_mixed (register s rs1) (register s rs2))
effect_of (Mulhu rd rs1 rs2) s = Put rd (high_product_unsigned (register s rs1) (register s rs2))
effect_of (Div rd rs1 rs2) s = Put rd (quotient w64 (register s rs1) (register s rs2))
effect_of (Divu rd rs1 rs2) s = Put rd (quotient_unsigned 64 (register s rs1) (register s rs2))
effect_of (Rem rd rs1 rs2) s = Put rd (remainder w64 (register s rs1) (register s rs2))
effect_of (Remu rd rs1 rs2) s = Put rd (remainder_unsigned (register s rs1) (register s rs2))
effect_of (Addw rd rs1 rs2) s = Put rd (extended 32 (low (register s rs1 + register s rs2)))
effect_of (Subw rd rs1 rs2) s = Put rd (extended 32 (low (low (register s rs1) + (2 ^ 32 - low (register s rs2)))))
effect_of (Sllw rd rs1 rs2) s = Put rd (extended 32 (shifted_left 32 (low (register s rs1)) (register s rs2 % 32)))
effect_of (Srlw rd rs1 rs2) s = Put rd (extended 32 (shifted_right (low (register s rs1)) (register s rs2 % 32)))
effect_of (Sraw rd rs1 rs2) s = Put rd (extended 32 (shifted_signed 32 (low (register s rs1)) (register s rs2 % 32)))
effect_of (Mulw rd rs1 rs2) s = Put rd (extended 32 (low (low (register s rs1) * low (register s rs2))))
effect_of (Divw rd rs1 rs2) s = Put rd (extended 32 (quotient w32 (low (register s rs1)) (low (register s rs2))))
effect_of (Divuw rd rs1 rs2) s = Put rd (extended 32 (quotient_unsigned 32 (low (register s rs1)) (low (register s rs2))))
effect_of (Remw rd rs1 rs2) s = Put rd (extended 32 (remainder w32 (low (register s rs1)) (low (register s rs2))))
effect_of (Remuw rd rs1 rs2) s = Put rd (extended 32 (remainder_unsigned (low (register s rs1)) (low (register s rs2))))
effect_of Ecall s = Ask
effect_of Ebreak s = Stop

-- ---- and what comes of it: the event and the state

abbrev pub Step : Type 0
Step = Event × State

abbrev pub put : State → ℕ → ℕ → Step
put s rd value = (Next, record s { registers = with_register s.registers rd value; pc = next_pc s })

-- an address where no instruction may stand is no target
abbrev pub aligned : ℕ → Bool
aligned address = address % 4 == 0

abbrev pub linked : State → ℕ → ℕ → Step
linked s rd target = if aligned target then (Next, record s { registers = with_register s.registers rd (next_pc s); pc = target }) else (Trap, s)

abbrev pub branched : State → Bool → ℕ → Step
branched s taken target = if taken then (if aligned target then (Next, record s { pc = target }) else (Trap, s)) else (Next, record s { pc = next_pc s })

abbrev pub load_size : LoadKind → ℕ
load_size SignedByte = 1
load_size SignedHalf = 2
load_size SignedWord = 4
load_size LoadDouble = 8
load_size UnsignedByte = 1
load_size UnsignedHalf = 2
load_size UnsignedWord = 4

-- the value that the bytes are, the lowest first
abbrev pub load_value : LoadKind → List ℕ → ℕ
load_value SignedByte bytes = extended 8 (from_le_bytes w8 bytes)
load_value SignedHalf bytes = extended 16 (from_le_bytes w16 bytes)
load_value SignedWord bytes = extended 32 (from_le_bytes w32 bytes)
load_value LoadDouble bytes = from_le_bytes w64 bytes
load_value UnsignedByte bytes = from_le_bytes w8 bytes
load_value UnsignedHalf bytes = from_le_bytes w16 bytes
load_value UnsignedWord bytes = from_le_bytes w32 bytes

-- the bytes of the value that are stored, the lowest first
abbrev pub store_bytes : StoreKind → ℕ → List ℕ
store_bytes Byte value = value % 2 ^ 8 ∷ []
store_bytes Half value = to_le_bytes w16 (value % 2 ^ 16)
store_bytes Word value = to_le_bytes w32 (value % 2 ^ 32)
store_bytes StoreDouble value = to_le_bytes w64 value

abbrev pub put_loaded : State → ℕ → LoadKind → Option (List ℕ) → Step
put_loaded s rd kind None = (Trap, s)
put_loaded s rd kind (Some bytes) = put s rd (load_value kind bytes)

abbrev pub kept : State → Option (List Area) → Step
kept s None = (Trap, s)
kept s (Some areas) = (Next, record s { areas = areas; pc = next_pc s })

abbrev pub applied : Effect → State → Step
applied (Put rd value) s = put s rd value
applied (Load rd address kind) s = put_loaded s rd kind (loaded s.areas Read address (load_size kind))
applied (Store address kind value) s = kept s (stored s.areas address (store_bytes kind value))
applied (Branch taken target) s = branched s taken target
applied (Link rd target) s = linked s rd target
applied Pass s = (Next, record s { pc = next_pc s })
applied Ask s = (System, s)
applied Stop s = (Break, s)

unfoldable pub executed : Inst → State → Step
executed inst s = applied (effect_of inst s) s

-- ---- one step, under a list of the addresses at which allocators are called

-- the instruction jumps by the register that holds the procedure of a call
abbrev pub jumps_by_x5 : Inst → Bool
jumps_by_x5 (Jalr rd rs1 imm) = rs1 == 5
jumps_by_x5 _ = false

-- a jump that was carried out at a listed address is an event
abbrev pub marked : Bool → Step → Step
marked true (Next, s) = (AllocCall, s)
marked _ step = step

abbrev pub listed : List ℕ → ℕ → Bool
listed calls pc = list_any (λ call. call == pc) calls

abbrev pub stepped_by : List ℕ → Option Inst → State → Step
stepped_by calls None s = (Trap, s)
stepped_by calls (Some inst) s = marked (jumps_by_x5 inst && listed calls s.pc) (executed inst s)

-- the instruction at the program counter, in a range that may be executed
abbrev pub fetched : State → Option Inst
fetched s = option_and_then (λ bytes. decoded (from_le_bytes w32 bytes)) (loaded s.areas Execute s.pc 4)

unfoldable pub stepped : List ℕ → State → Step
stepped calls s = stepped_by calls (fetched s) s
