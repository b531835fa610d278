-- The instructions of each step of mid code. Register 2 holds the low end of the frame. Each temporary
-- has a slot of eight bytes below the frame's high end, so that a caller, whose low end that is, can put
-- the arguments there. A step loads what it reads into registers, works on these, and stores the word
-- that it sets. The first eight bytes of a frame keep the return address.
use Rattle.std.specs.Prelude.{ℕ, zero, suc, ◌+◌, ◌-◌, ◌*◌, ◌/◌, ◌%◌, ◌^◌, pos, negsuc, Bool, true, false, cond, nat_lt, List, [], ◌∷◌, ◌++◌, length, Option, Some, None, slice_get, get_or}
use Rattle.odc_text.specs.declared.check.Check.{Check}
use Rattle.odc_text.specs.declared.check.Check.TheVariants.{Stack}
use Rattle.odc_text.specs.Check.{number_of}
use Rattle.rv_table.specs.Run.{Site}
use Rattle.rv_table.specs.declared.inst.Inst.{Inst}
use Rattle.rv_table.specs.declared.inst.Inst.TheVariants.{Lui, Auipc, Jalr, Beq, Bne, Bgeu, Lbu, Lhu, Lwu, Ld, Sb, Sh, Sw, Sd, Addi, Sltiu, Slli, Srai, Add, Sub, Sll, Slt, Sltu, Xor, Srl, Sra, Or, And, Mul, Div, Divu, Rem, Remu, Ecall, Ebreak}
use Rattle.odc_core.specs.declared.tree.Variable.{Variable}
use Rattle.odc_core.specs.declared.tree.Width.{Width}
use Rattle.odc_core.specs.declared.tree.Width.TheVariants.{Byte, Half, Word, Double}
use Rattle.odc_core.specs.declared.tree.UnaryOp.{UnaryOp}
use Rattle.odc_core.specs.declared.tree.UnaryOp.TheVariants.{Complement, SignByte, SignHalf, SignWord}
use Rattle.odc_core.specs.declared.tree.BinaryOp.{BinaryOp}
use Rattle.odc_core.specs.declared.tree.BinaryOp.TheVariants.{Add as Plus, Subtract, Multiply, Divide, DivideUnsigned, Remainder, RemainderUnsigned, And as Both, Or as Either, Xor as Differ, ShiftLeft, ShiftRight, ShiftRightSigned}
use Rattle.odc_core.specs.declared.tree.Comparison.{Comparison}
use Rattle.odc_core.specs.declared.tree.Comparison.TheVariants.{Equal, Different, Less, Below}
use Rattle.odc_core.specs.declared.tree.Descriptor.{Descriptor}
use Rattle.odc_core.specs.declared.tree.Descriptor.TheVariants.{Out, Err}
use Rattle.odc_core.specs.Frames.{stack_low}
use Rattle.odc_mid.specs.declared.tree.Named.{Named}
use Rattle.odc_mid.specs.declared.tree.Named.TheVariants.{Variable as OfVariable, Stored, Procedure}
use Rattle.odc_mid.specs.declared.tree.SystemCall.{SystemCall}
use Rattle.odc_mid.specs.declared.tree.SystemCall.TheVariants.{Read, Write, Exit}
use Rattle.odc_mid.specs.declared.tree.MidStep.{MidStep}
use Rattle.odc_mid.specs.declared.tree.MidStep.TheVariants.{Const, Address, Move, Unary, Binary, Compare, Load, Store, Jump, Branch, Call, CallValue, Return, Check as CheckStep, System}
use Rattle.odc_mid.specs.Tree.{Proc, Whole}

abbrev pub text_start : ℕ
text_start = 0x10000

-- ---- numbers

-- a number of 31 bits into a register
abbrev pub number_code : ℕ → ℕ → List Inst
number_code rd v = Lui rd (pos (v / 4096)) ∷ Addi rd rd (pos (v % 4096 / 2)) ∷ Addi rd rd (pos (v % 4096 / 2)) ∷ Addi rd rd (pos (v % 2)) ∷ []

-- eleven more bits below
abbrev pub chunk_code : ℕ → ℕ → List Inst
chunk_code rd v = Slli rd rd 11 ∷ Addi rd rd (pos v) ∷ []

-- a word
abbrev pub word_code : ℕ → ℕ → List Inst
word_code rd v =
    number_code rd (v / 2 ^ 33)
    ++ (chunk_code rd (v / 2 ^ 22 % 2 ^ 11) ++ (chunk_code rd (v / 2 ^ 11 % 2 ^ 11) ++ chunk_code rd (v % 2 ^ 11)))

-- ---- what surrounds a step: its procedure's frame and variables, the address of the code of the step
-- at each position, the address of each procedure's first instruction, and the addresses of the store

pub record Around : Type 0 where
  pub frame : ℕ
  pub variables : List Variable
  pub place : ℕ → ℕ
  pub entries : ℕ → ℕ
  pub addresses : List ℕ

-- ---- slots

-- where a temporary lies in the frame
abbrev pub slot : ℕ → ℕ → ℕ
slot frame t = frame - 8 * (t + 1)

abbrev pub load_slot : ℕ → ℕ → ℕ → List Inst
load_slot frame rd t = number_code rd (slot frame t) ++ (Add rd rd 2 ∷ Ld rd rd (pos 0) ∷ [])

abbrev pub store_slot : ℕ → ℕ → ℕ → List Inst
store_slot frame rs t = number_code 7 (slot frame t) ++ (Add 7 7 2 ∷ Sd 7 rs (pos 0) ∷ [])

-- ---- operations: on register 6, on registers 6 and 7, and into register 6

abbrev pub unary_code : UnaryOp → List Inst
unary_code Complement = Addi 7 0 (negsuc 0) ∷ Sub 6 7 6 ∷ []
unary_code SignByte = Slli 6 6 56 ∷ Srai 6 6 56 ∷ []
unary_code SignHalf = Slli 6 6 48 ∷ Srai 6 6 48 ∷ []
unary_code SignWord = Slli 6 6 32 ∷ Srai 6 6 32 ∷ []

abbrev pub binary_code : BinaryOp → Inst
binary_code Plus = Add 6 6 7
binary_code Subtract = Sub 6 6 7
binary_code Multiply = Mul 6 6 7
binary_code Divide = Div 6 6 7
binary_code DivideUnsigned = Divu 6 6 7
binary_code Remainder = Rem 6 6 7
binary_code RemainderUnsigned = Remu 6 6 7
binary_code Both = And 6 6 7
binary_code Either = Or 6 6 7
binary_code Differ = Xor 6 6 7
binary_code ShiftLeft = Sll 6 6 7
binary_code ShiftRight = Srl 6 6 7
binary_code ShiftRightSigned = Sra 6 6 7

-- two words are equal where their difference is below 1
abbrev pub compare_code : Comparison → List Inst
compare_code Equal = Sub 6 6 7 ∷ Sltiu 6 6 (pos 1) ∷ []
compare_code Different = Sub 6 6 7 ∷ Sltu 6 0 6 ∷ []
compare_code Less = Slt 6 6 7 ∷ []
compare_code Below = Sltu 6 6 7 ∷ []

abbrev pub load_code : Width → Inst
load_code Byte = Lbu 6 6 (pos 0)
load_code Half = Lhu 6 6 (pos 0)
load_code Word = Lwu 6 6 (pos 0)
load_code Double = Ld 6 6 (pos 0)

abbrev pub store_code : Width → Inst
store_code Byte = Sb 6 7 (pos 0)
store_code Half = Sh 6 7 (pos 0)
store_code Word = Sw 6 7 (pos 0)
store_code Double = Sd 6 7 (pos 0)

-- ---- addresses

abbrev pub offset_of : Option Variable → ℕ
offset_of (Some v) = v.offset
offset_of None = 0

abbrev pub named_code : Around → Named → List Inst
named_code around (OfVariable x) = number_code 6 (offset_of (slice_get around.variables x)) ++ (Add 6 6 2 ∷ [])
named_code around (Stored n) = number_code 6 (get_or around.addresses n 0)
named_code around (Procedure f) = number_code 6 (around.entries f)

abbrev pub named_size : Named → ℕ
named_size (OfVariable x) = 5
named_size (Stored n) = 4
named_size (Procedure f) = 4

-- ---- jumps

-- how far it is from one address to another, up or down
abbrev pub distance : ℕ → ℕ → ℕ
distance from to = (to - from) + (from - to)

-- the instruction that goes this far, up or down, from the address in register 6
abbrev pub way_code : ℕ → ℕ → Inst
way_code from to = cond (nat_lt to from) (Sub 6 6 7) (Add 6 6 7)

-- A jump from the address of its first instruction. It tells only how far it is to the other address, so
-- that code may stand anywhere.
abbrev pub jump_code : ℕ → ℕ → List Inst
jump_code from to = Auipc 6 (pos 0) ∷ (number_code 7 (distance from to) ++ (way_code from to ∷ Jalr 0 6 (pos 0) ∷ []))

-- ---- calls

-- Where the arguments go: register 8 is the low end of the frame, if there is room for so many below it.
-- If there is none, the callee has no room either and stops at once; then they go where it does no harm.
abbrev pub guard_code : ℕ → List Inst
guard_code n =
    number_code 6 (8 * n)
    ++ (Sub 6 2 6 ∷ (number_code 7 stack_low ++ (Addi 8 2 (pos 0) ∷ Bgeu 6 7 (pos 12) ∷ Addi 8 0 (pos 1) ∷ Slli 8 8 31 ∷ [])))

-- one argument after the other, downwards from register 8
abbrev pub arguments_code : ℕ → List ℕ → List Inst
arguments_code frame [] = []
arguments_code frame (t ∷ ts) = load_slot frame 6 t ++ (Addi 8 8 (negsuc 7) ∷ Sd 8 6 (pos 0) ∷ arguments_code frame ts)

abbrev pub pass_code : ℕ → List ℕ → List Inst
pass_code frame ts = guard_code (length ts) ++ arguments_code frame ts

-- a call of an allocator has its six arguments in registers 10 to 15 as well
abbrev pub registers_code : ℕ → List ℕ → List Inst
registers_code frame (a ∷ b ∷ c ∷ d ∷ e ∷ f ∷ []) =
    load_slot frame 10 a ++ (load_slot frame 11 b ++ (load_slot frame 12 c ++ (load_slot frame 13 d ++ (load_slot frame 14 e ++ load_slot frame 15 f))))
registers_code frame _ = []

abbrev pub registers_size : List ℕ → ℕ
registers_size (a ∷ b ∷ c ∷ d ∷ e ∷ f ∷ []) = 36
registers_size _ = 0

-- a call by a procedure's word
abbrev pub value_code : ℕ → ℕ → ℕ → List ℕ → Bool → List Inst
value_code frame to target ts true =
    load_slot frame 5 target ++ (registers_code frame ts ++ (pass_code frame ts ++ (Jalr 1 5 (pos 0) ∷ store_slot frame 10 to)))
value_code frame to target ts false = load_slot frame 9 target ++ (pass_code frame ts ++ (Jalr 1 9 (pos 0) ∷ store_slot frame 10 to))

abbrev pub value_size : List ℕ → Bool → ℕ
value_size ts true = 6 + (registers_size ts + (13 + 8 * length ts + 7))
value_size ts false = 6 + (13 + 8 * length ts + 7)

-- the answer in register 10, the frame is given up, and back to the caller
abbrev pub return_code : ℕ → ℕ → List Inst
return_code frame value = load_slot frame 10 value ++ (Ld 1 2 (pos 0) ∷ (number_code 6 frame ++ (Add 2 2 6 ∷ Jalr 0 1 (pos 0) ∷ [])))

-- ---- checks: the number of the check in register 10, that of the site in register 11

abbrev pub break_code : Check → ℕ → List Inst
break_code which site = Addi 10 0 (pos (number_of which)) ∷ (number_code 11 site ++ (Ebreak ∷ []))

-- ---- calls of the system

abbrev pub descriptor_number : Descriptor → ℕ
descriptor_number Out = 1
descriptor_number Err = 2

abbrev pub system_code : ℕ → SystemCall → List Inst
system_code frame (Read to a n) =
    load_slot frame 11 a ++ (load_slot frame 12 n ++ (Addi 10 0 (pos 0) ∷ Addi 17 0 (pos 63) ∷ Ecall ∷ store_slot frame 10 to))
system_code frame (Write d a n) =
    load_slot frame 11 a ++ (load_slot frame 12 n ++ (Addi 10 0 (pos (descriptor_number d)) ∷ Addi 17 0 (pos 64) ∷ Ecall ∷ []))
system_code frame (Exit code) = load_slot frame 10 code ++ (Addi 17 0 (pos 93) ∷ Ecall ∷ [])

abbrev pub system_size : SystemCall → ℕ
system_size (Read to a n) = 21
system_size (Write d a n) = 15
system_size (Exit code) = 8

-- ---- steps

-- the code of a step that begins at this address, and whose check, if it is one, has this site
abbrev pub step_code : Around → ℕ → ℕ → MidStep → List Inst
step_code around at site (Const to word) = word_code 6 word ++ store_slot around.frame 6 to
step_code around at site (Address to of) = named_code around of ++ store_slot around.frame 6 to
step_code around at site (Move to from) = load_slot around.frame 6 from ++ store_slot around.frame 6 to
step_code around at site (Unary to op operand) = load_slot around.frame 6 operand ++ (unary_code op ++ store_slot around.frame 6 to)
step_code around at site (Binary to op left right) =
    load_slot around.frame 6 left ++ (load_slot around.frame 7 right ++ (binary_code op ∷ store_slot around.frame 6 to))
step_code around at site (Compare to op left right) =
    load_slot around.frame 6 left ++ (load_slot around.frame 7 right ++ (compare_code op ++ store_slot around.frame 6 to))
step_code around at site (Load to width a) = load_slot around.frame 6 a ++ (load_code width ∷ store_slot around.frame 6 to)
step_code around at site (Store width a value) = load_slot around.frame 6 a ++ (load_slot around.frame 7 value ++ (store_code width ∷ []))
step_code around at site (Jump label) = jump_code at (around.place label)
step_code around at site (Branch condition label) = load_slot around.frame 6 condition ++ (Beq 6 0 (pos 32) ∷ jump_code (at + 28) (around.place label))
step_code around at site (Call to f arguments) =
    pass_code around.frame arguments.items ++ (number_code 6 (around.entries f) ++ (Jalr 1 6 (pos 0) ∷ store_slot around.frame 10 to))
step_code around at site (CallValue to target arguments marked) = value_code around.frame to target arguments.items marked
step_code around at site (Return value) = return_code around.frame value
step_code around at site (CheckStep condition which source) = load_slot around.frame 6 condition ++ (Bne 6 0 (pos 28) ∷ break_code which site)
step_code around at site (System call) = system_code around.frame call

-- how many instructions these are
abbrev pub step_size : MidStep → ℕ
step_size (Const to word) = 16
step_size (Address to of) = named_size of + 6
step_size (Move to from) = 12
step_size (Unary to op operand) = 14
step_size (Binary to op left right) = 19
step_size (Compare to op left right) = 12 + (length (compare_code op) + 6)
step_size (Load to width a) = 13
step_size (Store width a value) = 13
step_size (Jump label) = 7
step_size (Branch condition label) = 14
step_size (Call to f arguments) = 13 + 8 * length arguments.items + 11
step_size (CallValue to target arguments marked) = value_size arguments.items marked
step_size (Return value) = 13
step_size (CheckStep condition which at) = 13
step_size (System call) = system_size call

-- the site of a step
abbrev pub step_sites : MidStep → List Site
step_sites (CheckStep condition which at) = (which, at) ∷ []
step_sites _ = []

-- the call of an allocator in a step whose code begins at this address: the jump stands before the six
-- instructions that store the answer
abbrev pub step_calls : ℕ → MidStep → List ℕ
step_calls at (CallValue to target arguments true) = (at + 4 * (6 + (registers_size arguments.items + (13 + 8 * length arguments.items)))) ∷ []
step_calls at _ = []

-- the code of steps that begins at this address, and whose first check has this site
abbrev pub steps_code : Around → ℕ → ℕ → List MidStep → List Inst
steps_code around at site [] = []
steps_code around at site (s ∷ ss) = step_code around at site s ++ steps_code around (at + 4 * step_size s) (site + length (step_sites s)) ss

abbrev pub steps_size : List MidStep → ℕ
steps_size [] = 0
steps_size (s ∷ ss) = step_size s + steps_size ss

abbrev pub steps_sites : List MidStep → List Site
steps_sites [] = []
steps_sites (s ∷ ss) = step_sites s ++ steps_sites ss

abbrev pub steps_calls : ℕ → List MidStep → List ℕ
steps_calls at [] = []
steps_calls at (s ∷ ss) = step_calls at s ++ steps_calls (at + 4 * step_size s) ss

-- the instructions before a position
abbrev pub size_before : List MidStep → ℕ → ℕ
size_before ss zero = 0
size_before [] (suc i) = 0
size_before (s ∷ ss) (suc i) = step_size s + size_before ss i

-- ---- procedures

-- the stack check, the frame, and the return address into it
abbrev pub enter_code : ℕ → ℕ → List Inst
enter_code frame site =
    number_code 6 (stack_low + frame)
    ++ (Bgeu 2 6 (pos 28) ∷ (break_code Stack site ++ (number_code 6 frame ++ (Sub 2 2 6 ∷ Sd 2 1 (pos 0) ∷ []))))

abbrev pub enter_size : ℕ
enter_size = 17

abbrev pub proc_code : Around → ℕ → ℕ → Proc → List Inst
proc_code around at site p = enter_code p.frame site ++ steps_code around (at + 4 * enter_size) (site + 1) p.steps

abbrev pub proc_size : Proc → ℕ
proc_size p = enter_size + steps_size p.steps

abbrev pub proc_sites : Proc → List Site
proc_sites p = (Stack, p.at) ∷ steps_sites p.steps

-- ---- programs

-- at the start: the stack, a call of `main`, and the exit with 0
abbrev pub start_size : ℕ
start_size = 10

abbrev pub procs_before : List Proc → ℕ → ℕ
procs_before ps zero = 0
procs_before [] (suc f) = 0
procs_before (p ∷ ps) (suc f) = proc_size p + procs_before ps f

-- the address of the first instruction of each procedure
abbrev pub entry_of : Whole → ℕ → ℕ
entry_of w f = text_start + 4 * (start_size + procs_before w.procedures f)

-- what surrounds the steps of a procedure whose code begins at this address, among procedures that begin
-- at these, and data that lie at these
abbrev pub around_of : (ℕ → ℕ) → List ℕ → ℕ → Proc → Around
around_of entries addresses at p = record {
  frame = p.frame;
  variables = p.variables;
  place = λ i. at + 4 * (enter_size + size_before p.steps i);
  entries = entries;
  addresses = addresses;
}

-- the block of a procedure that begins at this address, and whose first check has this site
abbrev pub block_code : (ℕ → ℕ) → List ℕ → ℕ → ℕ → Proc → List Inst
block_code entries addresses at site p = proc_code (around_of entries addresses at p) at site p

abbrev pub procs_code : Whole → ℕ → ℕ → List Proc → List Inst
procs_code w at site [] = []
procs_code w at site (p ∷ ps) = block_code (entry_of w) w.addresses at site p ++ procs_code w (at + 4 * proc_size p) (site + length (proc_sites p)) ps

abbrev pub procs_size : List Proc → ℕ
procs_size [] = 0
procs_size (p ∷ ps) = proc_size p + procs_size ps

abbrev pub procs_sites : List Proc → List Site
procs_sites [] = []
procs_sites (p ∷ ps) = proc_sites p ++ procs_sites ps

abbrev pub procs_calls : ℕ → List Proc → List ℕ
procs_calls at [] = []
procs_calls at (p ∷ ps) = steps_calls (at + 4 * enter_size) p.steps ++ procs_calls (at + 4 * proc_size p) ps

abbrev pub start_code : ℕ → List Inst
start_code entry =
    Addi 2 0 (pos 1) ∷ Slli 2 2 31 ∷ (number_code 6 entry ++ (Jalr 1 6 (pos 0) ∷ Addi 10 0 (pos 0) ∷ Addi 17 0 (pos 93) ∷ Ecall ∷ []))

-- the whole text, its sites, and its calls of allocators
abbrev pub code_of : Whole → List Inst
code_of w = start_code (entry_of w w.main) ++ procs_code w (text_start + 4 * start_size) 0 w.procedures

abbrev pub sites_of : Whole → List Site
sites_of w = procs_sites w.procedures

abbrev pub calls_of : Whole → List ℕ
calls_of w = procs_calls (text_start + 4 * start_size) w.procedures

-- ---- limits

-- behind the last variable
abbrev pub variables_end : List Variable → ℕ
variables_end [] = 0
variables_end (v ∷ vs) = v.offset + v.size + (variables_end vs - (v.offset + v.size))
