-- The ranges of an executable: the text, the store, the two regions, and the stack.
use Rattle.std.specs.Prelude.{ℕ, length, slice_get, get_or, ◌<◌, ◌+◌, ◌-◌, ◌*◌, ◌/◌, ◌^◌, ◌≤◌, true, false, List, [], ◌∷◌}
use Rattle.rv_table.specs.Run.{Range, Site, Image}
use Rattle.odc_core.specs.Frames.{store_low, heap_low, heap_size, temp_low, temp_size, stack_low}
use Rattle.odc_mid.specs.Tree.{Proc, Whole}
use Rattle.odc_mid.specs.declared.tree.Named.{Named}
use Rattle.odc_mid.specs.declared.tree.Named.TheVariants.{Variable as OfVariable, Stored, Procedure}
use Rattle.odc_mid.specs.declared.tree.MidStep.{MidStep}
use Rattle.odc_mid.specs.declared.tree.MidStep.TheVariants.{Const, Address, Move, Unary, Binary, Compare, Load, Store, Jump, Branch, Call, CallValue, Return, Check, System}
use Rattle.odc_mid.specs.declared.tree.SystemCall.{SystemCall}
use Rattle.odc_mid.specs.declared.tree.SystemCall.TheVariants.{Read, Write, Exit}
use Rattle.rv_emit.specs.Code.{Around, offset_of, text_start, sites_of, calls_of, procs_size, start_size, variables_end}

abbrev pub text_range : List ℕ → Range
text_range text = record { start = text_start; size = length text; readable = true; writable = false; executable = true; bytes = text }

-- memory for reading and writing that begins with these bytes, and zeros behind them
abbrev pub memory_at : ℕ → ℕ → List ℕ → Range
memory_at start size bytes = record { start = start; size = size; readable = true; writable = true; executable = false; bytes = bytes }

abbrev pub memory_ranges : List ℕ → ℕ → List Range
memory_ranges store size =
    memory_at store_low size store ∷
    memory_at heap_low heap_size [] ∷
    memory_at temp_low temp_size [] ∷
    memory_at stack_low (2 ^ 27) [] ∷
    []

-- an image of a program with this text, these sites and these calls
abbrev pub image_with : Whole → List ℕ → List Site → List ℕ → Image
image_with w text sites calls = record { ranges = text_range text ∷ memory_ranges w.store w.store_size; entry = text_start; sites = sites; calls = calls }

abbrev pub image_of : Whole → List ℕ → Image
image_of w text = image_with w text (sites_of w) (calls_of w)

-- ---- limits

-- the slots of the temporaries lie in the frame, behind the last variable
abbrev pub HasSlots : Proc → Type 0
HasSlots p = (variables_end p.variables + 7) / 8 * 8 + 8 + 8 * p.temporaries + 8 ≤ p.frame

abbrev pub AllHaveSlots : List Proc → Type 0
AllHaveSlots [] = Unit {0}
AllHaveSlots (p ∷ ps) = HasSlots p × AllHaveSlots ps

-- the text lies below the store
abbrev pub IsShort : Whole → Type 0
IsShort w = 4 * (start_size + procs_size w.procedures) ≤ 0x4fff_0000

-- the most arguments of a call
abbrev pub more_of : ℕ → ℕ → ℕ
more_of a b = a + (b - a)

abbrev pub step_width : MidStep → ℕ
step_width (Call to f arguments) = length arguments.items
step_width (CallValue to target arguments marked) = length arguments.items
step_width _ = 0

abbrev pub steps_width : List MidStep → ℕ
steps_width [] = 0
steps_width (s ∷ ss) = more_of (step_width s) (steps_width ss)

abbrev pub procs_width : List Proc → ℕ
procs_width [] = 0
procs_width (p ∷ ps) = more_of (steps_width p.steps) (procs_width ps)

-- how many instructions a step takes at most: a call moves its arguments
abbrev pub factor : Whole → ℕ
factor w = 32 + 14 * procs_width w.procedures

-- temporaries whose slots lie in a frame of this size
abbrev pub AreSlots : ℕ → List ℕ → Type 0
AreSlots frame [] = Unit {0}
AreSlots frame (t ∷ ts) = (8 * (t + 1) ≤ frame) × AreSlots frame ts

-- a step whose slots lie in the frame, and whose numbers have 31 bits
abbrev pub IsSlot : ℕ → ℕ → Type 0
IsSlot frame t = 8 * (t + 1) ≤ frame

abbrev pub IsPlaced : Around → Named → Type 0
IsPlaced around (OfVariable x) = (x < length around.variables) × (offset_of (slice_get around.variables x) < 2 ^ 31)
IsPlaced around (Stored n) = Unit {0}
IsPlaced around (Procedure f) = Unit {0}

abbrev pub AreFew : List ℕ → Type 0
AreFew ts = 8 * length ts < 2 ^ 31

abbrev pub AreSystemSlots : ℕ → SystemCall → Type 0
AreSystemSlots frame (Read to a n) = IsSlot frame to × (IsSlot frame a × IsSlot frame n)
AreSystemSlots frame (Write d a n) = IsSlot frame a × IsSlot frame n
AreSystemSlots frame (Exit code) = IsSlot frame code

-- a step that can be emitted: its temporaries have slots, and its variables and labels lie below 2^31
abbrev pub CanEmit : Around → ℕ → MidStep → Type 0
CanEmit around steps (Const to word) = IsSlot around.frame to
CanEmit around steps (Address to of) = IsSlot around.frame to × IsPlaced around of
CanEmit around steps (Move to from) = IsSlot around.frame to × IsSlot around.frame from
CanEmit around steps (Unary to op operand) = IsSlot around.frame to × IsSlot around.frame operand
CanEmit around steps (Binary to op left right) = IsSlot around.frame to × (IsSlot around.frame left × IsSlot around.frame right)
CanEmit around steps (Compare to op left right) = IsSlot around.frame to × (IsSlot around.frame left × IsSlot around.frame right)
CanEmit around steps (Load to width a) = IsSlot around.frame to × IsSlot around.frame a
CanEmit around steps (Store width a value) = IsSlot around.frame a × IsSlot around.frame value
CanEmit around steps (Jump label) = (label < steps) × (around.place label < 2 ^ 31)
CanEmit around steps (Branch condition label) = IsSlot around.frame condition × ((label < steps) × (around.place label < 2 ^ 31))
CanEmit around steps (Call to f arguments) = (IsSlot around.frame to × AreSlots around.frame arguments.items) × AreFew arguments.items
CanEmit around steps (CallValue to target arguments marked) = (IsSlot around.frame to × (IsSlot around.frame target × AreSlots around.frame arguments.items)) × AreFew arguments.items
CanEmit around steps (Return value) = IsSlot around.frame value
CanEmit around steps (Check condition which at) = IsSlot around.frame condition
CanEmit around steps (System asked) = AreSystemSlots around.frame asked

abbrev pub AllCanEmit : Around → ℕ → List MidStep → Type 0
AllCanEmit around steps [] = Unit {0}
AllCanEmit around steps (s ∷ ss) = CanEmit around steps s × AllCanEmit around steps ss
