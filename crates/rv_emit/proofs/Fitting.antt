-- The fields of the instructions have their widths.
use Rattle.std.proofs.Common.{◌≡◌, ℕ, suc, ◌+◌, ◌*◌, ◌/◌, ◌%◌, ◌^◌, ◌<◌, ◌≤◌, Bool, true, false, cond, List, [], ◌∷◌, ◌++◌, length, refl, arith, lit<}
use Rattle.std.specs.Prelude.{pos, negsuc, nat_lt, slice_get, get_or}
use Rattle.odc_text.specs.Check.{number_of}
use Rattle.odc_text.specs.declared.check.Check.{Check}
use Rattle.odc_text.specs.declared.check.Check.TheVariants.{Index, Slice, Division, Assertion, Nil, Stack, Assert, Panic, Length}
use Rattle.rv_table.specs.Table.{Fits}
use Rattle.rv_table.specs.declared.inst.Inst.{Inst}
use Rattle.rv_table.specs.declared.inst.Inst.TheVariants.{Auipc, Jalr, Beq, Bne, Bgeu, Ld, Sd, Addi, Slli, Add, Sub, Ecall, Ebreak}
use Rattle.odc_core.specs.Frames.{stack_low}
use Rattle.odc_core.specs.declared.tree.Width.{Width}
use Rattle.odc_core.specs.declared.tree.Width.TheVariants.{Byte, Half, Word, Double}
use Rattle.odc_core.specs.declared.tree.UnaryOp.{UnaryOp}
use Rattle.odc_core.specs.declared.tree.UnaryOp.TheVariants.{Complement, SignByte, SignHalf, SignWord}
use Rattle.odc_core.specs.declared.tree.BinaryOp.{BinaryOp}
use Rattle.odc_core.specs.declared.tree.BinaryOp.TheVariants.{Add as Plus, Subtract, Multiply, Divide, DivideUnsigned, Remainder, RemainderUnsigned, And as Both, Or as Either, Xor as Differ, ShiftLeft, ShiftRight, ShiftRightSigned}
use Rattle.odc_core.specs.declared.tree.Comparison.{Comparison}
use Rattle.odc_core.specs.declared.tree.Comparison.TheVariants.{Equal, Different, Less, Below}
use Rattle.odc_core.specs.declared.tree.Descriptor.{Descriptor}
use Rattle.odc_core.specs.declared.tree.Descriptor.TheVariants.{Out, Err}
use Rattle.odc_mid.specs.declared.tree.Named.{Named}
use Rattle.odc_mid.specs.declared.tree.Named.TheVariants.{Variable as OfVariable, Stored, Procedure}
use Rattle.odc_mid.specs.declared.tree.SystemCall.{SystemCall}
use Rattle.odc_mid.specs.declared.tree.SystemCall.TheVariants.{Read, Write, Exit}
use Rattle.odc_mid.specs.declared.tree.MidStep.{MidStep}
use Rattle.odc_mid.specs.declared.tree.MidStep.TheVariants.{Const, Address, Move, Unary, Binary, Compare, Load, Store, Jump, Branch, Call, CallValue, Return, Check as CheckStep, System}
use Rattle.odc_mid.specs.Tree.{Proc, Whole}
use Rattle.odc_mid.specs.Well.{IsWellProc, IsStep, AreSteps, Names, Known, names_in}
use Rattle.rv_emit.specs.Code.{Around, number_code, chunk_code, word_code, slot, load_slot, store_slot, offset_of, named_code, distance, way_code, jump_code, guard_code, arguments_code, pass_code, registers_code, value_code, return_code, break_code, descriptor_number, system_code, unary_code, binary_code, compare_code, load_code, store_code, step_code, step_size, step_sites, steps_code, steps_size, enter_code, enter_size, proc_size, start_code}
use Rattle.rv_emit.specs.Blocks.{bare, bare_code}
use Rattle.rv_emit.specs.Layout.{HasSlots, IsPlaced, CanEmit, AllCanEmit}
use Rattle.rv_emit.specs.Encoded.{AllFit}
use Rattle.rv_emit.proofs.Placed.{few_sites}
use Rattle.rv_emit.proofs.Able.{steps_can}

pub fit_both : (xs ys : List Inst) → AllFit xs → AllFit ys → AllFit (xs ++ ys)
fit_both [] ys h k = k
fit_both (x ∷ xs) ys h k = (h.0, fit_both xs ys h.1 k)

pub number_fit : (rd v : ℕ) → rd < 32 → v < 2 ^ 31 → AllFit (number_code rd v)
number_fit rd v h k = (
  (h, omega arith),
  ((h, h, omega arith), ((h, h, omega arith), ((h, h, omega arith), tt))),
)

chunk_fit : (rd v : ℕ) → rd < 32 → v < 2 ^ 11 → AllFit (chunk_code rd v)
chunk_fit rd v h k = ((h, h, lit< tt), ((h, h, omega arith), tt))

word_fit : (rd v : ℕ) → rd < 32 → v < 2 ^ 64 → AllFit (word_code rd v)
word_fit rd v h k =
    fit_both (number_code rd (v / 2 ^ 33)) (chunk_code rd (v / 2 ^ 22 % 2 ^ 11) ++ (chunk_code rd (v / 2 ^ 11 % 2 ^ 11) ++ chunk_code rd (v % 2 ^ 11))) (number_fit rd (v / 2 ^ 33) h (omega arith))
    (fit_both (chunk_code rd (v / 2 ^ 22 % 2 ^ 11)) (chunk_code rd (v / 2 ^ 11 % 2 ^ 11) ++ chunk_code rd (v % 2 ^ 11)) (chunk_fit rd (v / 2 ^ 22 % 2 ^ 11) h (omega arith))
    (fit_both (chunk_code rd (v / 2 ^ 11 % 2 ^ 11)) (chunk_code rd (v % 2 ^ 11)) (chunk_fit rd (v / 2 ^ 11 % 2 ^ 11) h (omega arith)) (chunk_fit rd (v % 2 ^ 11) h (omega arith))))

load_slot_fit : (frame rd t : ℕ) → rd < 32 → frame ≤ 2 ^ 24 → AllFit (load_slot frame rd t)
load_slot_fit frame rd t h k = fit_both (number_code rd (slot frame t)) (Add rd rd 2 ∷ Ld rd rd (pos 0) ∷ []) (number_fit rd (slot frame t) h (omega arith)) ((h, h, lit< tt), ((h, h, omega arith), tt))

store_slot_fit : (frame rs t : ℕ) → rs < 32 → frame ≤ 2 ^ 24 → AllFit (store_slot frame rs t)
store_slot_fit frame rs t h k = fit_both (number_code 7 (slot frame t)) (Add 7 7 2 ∷ Sd 7 rs (pos 0) ∷ []) (number_fit 7 (slot frame t) (lit< tt) (omega arith)) ((lit< tt, lit< tt, lit< tt), ((lit< tt, h, omega arith), tt))

arguments_fit : (frame : ℕ) (ts : List ℕ) → frame ≤ 2 ^ 24 → AllFit (arguments_code frame ts)
arguments_fit frame [] k = tt
arguments_fit frame (t ∷ ts) k =
    fit_both (load_slot frame 6 t) (Addi 8 8 (negsuc 7) ∷ Sd 8 6 (pos 0) ∷ arguments_code frame ts) (load_slot_fit frame 6 t (lit< tt) k)
    ((lit< tt, lit< tt, omega arith), ((lit< tt, lit< tt, omega arith), arguments_fit frame ts k))

-- ---- operations

unary_fit : (op : UnaryOp) → AllFit (unary_code op)
unary_fit Complement = ((lit< tt, lit< tt, omega arith), ((lit< tt, lit< tt, lit< tt), tt))
unary_fit SignByte = ((lit< tt, lit< tt, lit< tt), ((lit< tt, lit< tt, lit< tt), tt))
unary_fit SignHalf = ((lit< tt, lit< tt, lit< tt), ((lit< tt, lit< tt, lit< tt), tt))
unary_fit SignWord = ((lit< tt, lit< tt, lit< tt), ((lit< tt, lit< tt, lit< tt), tt))

binary_fit : (op : BinaryOp) → Fits (binary_code op)
binary_fit Plus = (lit< tt, lit< tt, lit< tt)
binary_fit Subtract = (lit< tt, lit< tt, lit< tt)
binary_fit Multiply = (lit< tt, lit< tt, lit< tt)
binary_fit Divide = (lit< tt, lit< tt, lit< tt)
binary_fit DivideUnsigned = (lit< tt, lit< tt, lit< tt)
binary_fit Remainder = (lit< tt, lit< tt, lit< tt)
binary_fit RemainderUnsigned = (lit< tt, lit< tt, lit< tt)
binary_fit Both = (lit< tt, lit< tt, lit< tt)
binary_fit Either = (lit< tt, lit< tt, lit< tt)
binary_fit Differ = (lit< tt, lit< tt, lit< tt)
binary_fit ShiftLeft = (lit< tt, lit< tt, lit< tt)
binary_fit ShiftRight = (lit< tt, lit< tt, lit< tt)
binary_fit ShiftRightSigned = (lit< tt, lit< tt, lit< tt)

compare_fit : (op : Comparison) → AllFit (compare_code op)
compare_fit Equal = ((lit< tt, lit< tt, lit< tt), ((lit< tt, lit< tt, omega arith), tt))
compare_fit Different = ((lit< tt, lit< tt, lit< tt), ((lit< tt, lit< tt, lit< tt), tt))
compare_fit Less = ((lit< tt, lit< tt, lit< tt), tt)
compare_fit Below = ((lit< tt, lit< tt, lit< tt), tt)

load_fit : (width : Width) → Fits (load_code width)
load_fit Byte = (lit< tt, lit< tt, omega arith)
load_fit Half = (lit< tt, lit< tt, omega arith)
load_fit Word = (lit< tt, lit< tt, omega arith)
load_fit Double = (lit< tt, lit< tt, omega arith)

store_fit : (width : Width) → Fits (store_code width)
store_fit Byte = (lit< tt, lit< tt, omega arith)
store_fit Half = (lit< tt, lit< tt, omega arith)
store_fit Word = (lit< tt, lit< tt, omega arith)
store_fit Double = (lit< tt, lit< tt, omega arith)

-- ---- addresses, jumps and calls

-- the data lie below 2^31, and so do the entries
record AreLow (around : Around) : Type 0 where
  addresses : (n : ℕ) → get_or around.addresses n 0 < 2 ^ 31
  entries : (f : ℕ) → around.entries f < 2 ^ 31

named_fit : (around : Around) (of : Named) → AreLow around → IsPlaced around of → AllFit (named_code around of)
named_fit around (OfVariable x) low h =
    fit_both (number_code 6 (offset_of (slice_get around.variables x))) (Add 6 6 2 ∷ []) (number_fit 6 (offset_of (slice_get around.variables x)) (lit< tt) h.1) ((lit< tt, lit< tt, lit< tt), tt)
named_fit around (Stored n) low h = number_fit 6 (get_or around.addresses n 0) (lit< tt) (low.addresses n)
named_fit around (Procedure f) low h = number_fit 6 (around.entries f) (lit< tt) (low.entries f)

way_fit : (z : Bool) → Fits (cond z (Sub 6 6 7) (Add 6 6 7))
way_fit true = (lit< tt, lit< tt, lit< tt)
way_fit false = (lit< tt, lit< tt, lit< tt)

jump_fit : (from to : ℕ) → from < 2 ^ 31 → to < 2 ^ 31 → AllFit (jump_code from to)
jump_fit from to h k = (
  (lit< tt, omega arith),
  fit_both (number_code 7 (distance from to)) (way_code from to ∷ Jalr 0 6 (pos 0) ∷ []) (number_fit 7 (distance from to) (lit< tt) (omega (arith, h, k)))
      (way_fit (nat_lt to from), ((lit< tt, lit< tt, omega arith), tt)),
)

guard_fit : (n : ℕ) → 8 * n < 2 ^ 31 → AllFit (guard_code n)
guard_fit n h =
    let choice : List Inst = Addi 8 2 (pos 0) ∷ Bgeu 6 7 (pos 12) ∷ Addi 8 0 (pos 1) ∷ Slli 8 8 31 ∷ [] in
    let choice_fit : AllFit choice =
    ((lit< tt, lit< tt, omega arith), ((lit< tt, lit< tt, (omega arith, refl)), ((lit< tt, lit< tt, omega arith), ((lit< tt, lit< tt, lit< tt), tt)))) in
    fit_both (number_code 6 (8 * n)) (Sub 6 2 6 ∷ (number_code 7 stack_low ++ choice)) (number_fit 6 (8 * n) (lit< tt) h)
    ((lit< tt, lit< tt, lit< tt), fit_both (number_code 7 stack_low) choice (number_fit 7 stack_low (lit< tt) (lit< tt)) choice_fit)

pass_fit : (frame : ℕ) (ts : List ℕ) → frame ≤ 2 ^ 24 → 8 * length ts < 2 ^ 31 → AllFit (pass_code frame ts)
pass_fit frame ts k h = fit_both (guard_code (length ts)) (arguments_code frame ts) (guard_fit (length ts) h) (arguments_fit frame ts k)

registers_fit : (frame : ℕ) (ts : List ℕ) → frame ≤ 2 ^ 24 → AllFit (registers_code frame ts)
registers_fit frame [] k = tt
registers_fit frame (a ∷ []) k = tt
registers_fit frame (a ∷ b ∷ []) k = tt
registers_fit frame (a ∷ b ∷ c ∷ []) k = tt
registers_fit frame (a ∷ b ∷ c ∷ d ∷ []) k = tt
registers_fit frame (a ∷ b ∷ c ∷ d ∷ e ∷ []) k = tt
registers_fit frame (a ∷ b ∷ c ∷ d ∷ e ∷ f ∷ []) k =
    let s5 : List Inst = load_slot frame 15 f in
    let s4 : List Inst = load_slot frame 14 e ++ s5 in
    let s3 : List Inst = load_slot frame 13 d ++ s4 in
    let s2 : List Inst = load_slot frame 12 c ++ s3 in
    let s1 : List Inst = load_slot frame 11 b ++ s2 in
    fit_both (load_slot frame 10 a) s1 (load_slot_fit frame 10 a (lit< tt) k)
    (fit_both (load_slot frame 11 b) s2 (load_slot_fit frame 11 b (lit< tt) k)
    (fit_both (load_slot frame 12 c) s3 (load_slot_fit frame 12 c (lit< tt) k)
    (fit_both (load_slot frame 13 d) s4 (load_slot_fit frame 13 d (lit< tt) k)
    (fit_both (load_slot frame 14 e) s5 (load_slot_fit frame 14 e (lit< tt) k) (load_slot_fit frame 15 f (lit< tt) k)))))
registers_fit frame (a ∷ b ∷ c ∷ d ∷ e ∷ f ∷ g ∷ ts) k = tt

-- the jump of a call, and the store of its answer
link_fit : (frame rs to : ℕ) → rs < 32 → frame ≤ 2 ^ 24 → AllFit (Jalr 1 rs (pos 0) ∷ store_slot frame 10 to)
link_fit frame rs to h k = ((lit< tt, h, omega arith), store_slot_fit frame 10 to (lit< tt) k)

value_fit : (frame to target : ℕ) (ts : List ℕ) (marked : Bool) → frame ≤ 2 ^ 24 → 8 * length ts < 2 ^ 31 → AllFit (value_code frame to target ts marked)
value_fit frame to target ts true k h =
    let last : List Inst = Jalr 1 5 (pos 0) ∷ store_slot frame 10 to in
    fit_both (load_slot frame 5 target) (registers_code frame ts ++ (pass_code frame ts ++ last)) (load_slot_fit frame 5 target (lit< tt) k)
    (fit_both (registers_code frame ts) (pass_code frame ts ++ last) (registers_fit frame ts k) (fit_both (pass_code frame ts) last (pass_fit frame ts k h) (link_fit frame 5 to (lit< tt) k)))
value_fit frame to target ts false k h =
    let last : List Inst = Jalr 1 9 (pos 0) ∷ store_slot frame 10 to in
    fit_both (load_slot frame 9 target) (pass_code frame ts ++ last) (load_slot_fit frame 9 target (lit< tt) k) (fit_both (pass_code frame ts) last (pass_fit frame ts k h) (link_fit frame 9 to (lit< tt) k))

return_fit : (frame value : ℕ) → frame ≤ 2 ^ 24 → AllFit (return_code frame value)
return_fit frame value k =
    let last : List Inst = Add 2 2 6 ∷ Jalr 0 1 (pos 0) ∷ [] in
    fit_both (load_slot frame 10 value) (Ld 1 2 (pos 0) ∷ (number_code 6 frame ++ last)) (load_slot_fit frame 10 value (lit< tt) k)
    ((lit< tt, lit< tt, omega arith), fit_both (number_code 6 frame) last (number_fit 6 frame (lit< tt) (omega arith)) ((lit< tt, lit< tt, lit< tt), ((lit< tt, lit< tt, omega arith), tt)))

-- ---- checks and calls of the system

check_fit : (which : Check) → Fits (Addi 10 0 (pos (number_of which)))
check_fit Index = (lit< tt, lit< tt, omega arith)
check_fit Slice = (lit< tt, lit< tt, omega arith)
check_fit Division = (lit< tt, lit< tt, omega arith)
check_fit Assertion = (lit< tt, lit< tt, omega arith)
check_fit Nil = (lit< tt, lit< tt, omega arith)
check_fit Stack = (lit< tt, lit< tt, omega arith)
check_fit Assert = (lit< tt, lit< tt, omega arith)
check_fit Panic = (lit< tt, lit< tt, omega arith)
check_fit Length = (lit< tt, lit< tt, omega arith)

break_fit : (which : Check) (site : ℕ) → site < 2 ^ 31 → AllFit (break_code which site)
break_fit which site h = (check_fit which, fit_both (number_code 11 site) (Ebreak ∷ []) (number_fit 11 site (lit< tt) h) (tt, tt))

service_fit : (n : ℕ) → n < 2 ^ 11 → (rest : List Inst) → AllFit rest → AllFit (Addi 17 0 (pos n) ∷ Ecall ∷ rest)
service_fit n h rest k = ((lit< tt, lit< tt, omega arith), (tt, k))

descriptor_fit : (d : Descriptor) → Fits (Addi 10 0 (pos (descriptor_number d)))
descriptor_fit Out = (lit< tt, lit< tt, omega arith)
descriptor_fit Err = (lit< tt, lit< tt, omega arith)

system_fit : (frame : ℕ) (asked : SystemCall) → frame ≤ 2 ^ 24 → AllFit (system_code frame asked)
system_fit frame (Read to a n) k =
    let last : List Inst = Addi 10 0 (pos 0) ∷ Addi 17 0 (pos 63) ∷ Ecall ∷ store_slot frame 10 to in
    fit_both (load_slot frame 11 a) (load_slot frame 12 n ++ last) (load_slot_fit frame 11 a (lit< tt) k)
    (fit_both (load_slot frame 12 n) last (load_slot_fit frame 12 n (lit< tt) k)
    ((lit< tt, lit< tt, omega arith), service_fit 63 (lit< tt) (store_slot frame 10 to) (store_slot_fit frame 10 to (lit< tt) k)))
system_fit frame (Write d a n) k =
    let last : List Inst = Addi 10 0 (pos (descriptor_number d)) ∷ Addi 17 0 (pos 64) ∷ Ecall ∷ [] in
    fit_both (load_slot frame 11 a) (load_slot frame 12 n ++ last) (load_slot_fit frame 11 a (lit< tt) k)
    (fit_both (load_slot frame 12 n) last (load_slot_fit frame 12 n (lit< tt) k) (descriptor_fit d, service_fit 64 (lit< tt) [] tt))
system_fit frame (Exit u) k =
    fit_both (load_slot frame 10 u) (Addi 17 0 (pos 93) ∷ Ecall ∷ []) (load_slot_fit frame 10 u (lit< tt) k) (service_fit 93 (lit< tt) [] tt)

-- ---- steps

-- loads of two operands, and what is behind them
two_loads : (frame u v : ℕ) (rest : List Inst) → frame ≤ 2 ^ 24 → AllFit rest → AllFit (load_slot frame 6 u ++ (load_slot frame 7 v ++ rest))
two_loads frame u v rest k h =
    fit_both (load_slot frame 6 u) (load_slot frame 7 v ++ rest) (load_slot_fit frame 6 u (lit< tt) k) (fit_both (load_slot frame 7 v) rest (load_slot_fit frame 7 v (lit< tt) k) h)

one_load : (frame u : ℕ) (rest : List Inst) → frame ≤ 2 ^ 24 → AllFit rest → AllFit (load_slot frame 6 u ++ rest)
one_load frame u rest k h = fit_both (load_slot frame 6 u) rest (load_slot_fit frame 6 u (lit< tt) k) h

one_store : (frame to : ℕ) → frame ≤ 2 ^ 24 → AllFit (store_slot frame 6 to)
one_store frame to k = store_slot_fit frame 6 to (lit< tt) k

-- the word of a constant is one
abbrev pub HasWord : MidStep → Type 0
HasWord (Const to v) = v < 2 ^ 64
HasWord _ = Unit {0}

step_fit : (around : Around) (n at site : ℕ) (s : MidStep) → AreLow around → CanEmit around n s → HasWord s → around.frame ≤ 2 ^ 24 → site < 2 ^ 31 → at + 4 * step_size s < 2 ^ 31 → AllFit (step_code around at site s)
step_fit around n at site (Const to v) low h word fits small there = fit_both (word_code 6 v) (store_slot around.frame 6 to) (word_fit 6 v (lit< tt) word) (one_store around.frame to fits)
step_fit around n at site (Address to of) low h word fits small there = fit_both (named_code around of) (store_slot around.frame 6 to) (named_fit around of low h.1) (one_store around.frame to fits)
step_fit around n at site (Move to u) low h word fits small there = one_load around.frame u (store_slot around.frame 6 to) fits (one_store around.frame to fits)
step_fit around n at site (Unary to op u) low h word fits small there =
    one_load around.frame u (unary_code op ++ store_slot around.frame 6 to) fits (fit_both (unary_code op) (store_slot around.frame 6 to) (unary_fit op) (one_store around.frame to fits))
step_fit around n at site (Binary to op u v) low h word fits small there = two_loads around.frame u v (binary_code op ∷ store_slot around.frame 6 to) fits (binary_fit op, one_store around.frame to fits)
step_fit around n at site (Compare to op u v) low h word fits small there =
    two_loads around.frame u v (compare_code op ++ store_slot around.frame 6 to) fits (fit_both (compare_code op) (store_slot around.frame 6 to) (compare_fit op) (one_store around.frame to fits))
step_fit around n at site (Load to width u) low h word fits small there = one_load around.frame u (load_code width ∷ store_slot around.frame 6 to) fits (load_fit width, one_store around.frame to fits)
step_fit around n at site (Store width u v) low h word fits small there = two_loads around.frame u v (store_code width ∷ []) fits (store_fit width, tt)
step_fit around n at site (Jump label) low h word fits small there = jump_fit at (around.place label) (omega (arith, there)) h.1
step_fit around n at site (Branch u label) low h word fits small there =
    one_load around.frame u (Beq 6 0 (pos 32) ∷ jump_code (at + 28) (around.place label)) fits ((lit< tt, lit< tt, (omega arith, refl)), jump_fit (at + 28) (around.place label) (omega (arith, there)) h.1.1)
step_fit around n at site (Call to f arguments) low h word fits small there =
    let ts : List ℕ = arguments.items in
    let last : List Inst = Jalr 1 6 (pos 0) ∷ store_slot around.frame 10 to in
    fit_both (pass_code around.frame ts) (number_code 6 (around.entries f) ++ last) (pass_fit around.frame ts fits h.1)
    (fit_both (number_code 6 (around.entries f)) last (number_fit 6 (around.entries f) (lit< tt) (low.entries f)) (link_fit around.frame 6 to (lit< tt) fits))
step_fit around n at site (CallValue to target arguments marked) low h word fits small there = value_fit around.frame to target arguments.items marked fits h.1
step_fit around n at site (Return u) low h word fits small there = return_fit around.frame u fits
step_fit around n at site (CheckStep u which source) low h word fits small there =
    one_load around.frame u (Bne 6 0 (pos 28) ∷ break_code which site) fits ((lit< tt, lit< tt, (omega arith, refl)), break_fit which site small)
step_fit around n at site (System asked) low h word fits small there = system_fit around.frame asked fits

abbrev pub HaveWords : List MidStep → Type 0
HaveWords [] = Unit {0}
HaveWords (s ∷ ss) = HasWord s × HaveWords ss

steps_fit : (around : Around) (n at site : ℕ) (ss : List MidStep) → AreLow around → AllCanEmit around n ss → HaveWords ss → around.frame ≤ 2 ^ 24 → site + steps_size ss < 2 ^ 31 → at + 4 * steps_size ss < 2 ^ 31 →
    AllFit (steps_code around at site ss)
steps_fit around n at site [] low h words fits small there = tt
steps_fit around n at site (s ∷ ss) low h words fits small there =
    let next : ℕ = site + length (step_sites s) in
    let behind : ℕ = at + 4 * step_size s in
    fit_both (step_code around at site s) (steps_code around behind next ss) (step_fit around n at site s low h.0 words.0 fits (omega (arith, small)) (omega (arith, there)))
    (steps_fit around n behind next ss low h.1 words.1 fits (omega (arith, small, few_sites s)) (omega (arith, there)))

-- ---- procedures and the program

enter_fit : (frame site : ℕ) → frame ≤ 2 ^ 24 → site < 2 ^ 31 → AllFit (enter_code frame site)
enter_fit frame site k h =
    let last : List Inst = Sub 2 2 6 ∷ Sd 2 1 (pos 0) ∷ [] in
    let tail : List Inst = number_code 6 frame ++ last in
    fit_both (number_code 6 (stack_low + frame)) (Bgeu 2 6 (pos 28) ∷ (break_code Stack site ++ tail)) (number_fit 6 (stack_low + frame) (lit< tt) (omega (arith, k))) (
      (lit< tt, lit< tt, (omega arith, refl)),
      fit_both (break_code Stack site) tail (break_fit Stack site h)
          (fit_both (number_code 6 frame) last (number_fit 6 frame (lit< tt) (omega (arith, k))) ((lit< tt, lit< tt, lit< tt), ((lit< tt, lit< tt, omega arith), tt))),
    )

pub start_fit : (entry : ℕ) → entry < 2 ^ 31 → AllFit (start_code entry)
start_fit entry h =
    let last : List Inst = Jalr 1 6 (pos 0) ∷ Addi 10 0 (pos 0) ∷ Addi 17 0 (pos 93) ∷ Ecall ∷ [] in (
      (lit< tt, lit< tt, omega arith),
      (
        (lit< tt, lit< tt, lit< tt),
        fit_both (number_code 6 entry) last (number_fit 6 entry (lit< tt) h) ((lit< tt, lit< tt, omega arith), ((lit< tt, lit< tt, omega arith), service_fit 93 (lit< tt) [] tt)),
      ),
    )

steps_words : (names : Names) (known : Known) (i : ℕ) (ss : List MidStep) → AreSteps names known i ss → HaveWords ss
steps_words names known i [] h = tt
steps_words names known i (s ∷ ss) h = (by s h.0.named, steps_words names known (suc i) ss h.1)
  where
    by : (s : MidStep) → IsStep names s → HasWord s
    by (Const to v) h = h
    by (Address to of) h = tt
    by (Move to u) h = tt
    by (Unary to op u) h = tt
    by (Binary to op u v) h = tt
    by (Compare to op u v) h = tt
    by (Load to width u) h = tt
    by (Store width u v) h = tt
    by (Jump label) h = tt
    by (Branch u label) h = tt
    by (Call to f arguments) h = tt
    by (CallValue to target arguments marked) h = tt
    by (Return u) h = tt
    by (CheckStep u which source) h = tt
    by (System asked) h = tt

-- a block that stands nowhere yet
pub bare_fit : (w : Whole) (p : Proc) → IsWellProc w p → HasSlots p → 4 * proc_size p < 2 ^ 31 → AllFit (bare_code p)
bare_fit w p sane slots low =
    fit_both (enter_code p.frame 0) (steps_code (bare p) (4 * enter_size) 1 p.steps) (enter_fit p.frame 0 sane.fits (lit< tt))
    (steps_fit (bare p) (length p.steps) (4 * enter_size) 1 p.steps (record { addresses = λ n. lit< tt; entries = λ f. lit< tt }) (steps_can w p sane slots low) (steps_words (names_in w p) sane.known 0 p.steps sane.steps)
    sane.fits (omega (arith, low)) (omega (arith, low)))
