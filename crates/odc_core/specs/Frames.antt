-- The frames of activations: where the variables lie, and what may be touched.
use Rattle.std.specs.Prelude.{ℕ, ◌+◌, ◌*◌, ◌^◌, ◌||◌, Bool, false, List, [], ◌∷◌, Option, option_map, slice_get, nat_le}
use Rattle.odc_core.specs.declared.tree.Variable.{Variable}
use Rattle.odc_core.specs.Words.{bytes_of}
use Rattle.odc_core.specs.Memory.{Memory, lies, put, forgotten}

-- the stack's low end, and the address where the frame of `main` ends
abbrev pub stack_low : ℕ
stack_low = 0x7800_0000

abbrev pub stack_end : ℕ
stack_end = 2 ^ 31

-- the globals and literals, and the two regions
abbrev pub store_low : ℕ
store_low = 0x5000_0000

abbrev pub heap_low : ℕ
heap_low = 0x6000_0000

abbrev pub heap_size : ℕ
heap_size = 16 * 2 ^ 20

abbrev pub temp_low : ℕ
temp_low = 0x6800_0000

abbrev pub temp_size : ℕ
temp_size = 2 ^ 20

-- what may be touched at all times
abbrev pub touched_always : ℕ → ℕ → Bool
touched_always store_size x = lies store_low store_size x || (lies heap_low heap_size x || lies temp_low temp_size x)

-- the address lies in a variable of a frame with this low end
abbrev pub in_variables : ℕ → List Variable → ℕ → Bool
in_variables low [] x = false
in_variables low (v ∷ vs) x = lies (low + v.offset) v.size x || in_variables low vs x

-- what may be touched in a called procedure: what its caller may touch, and its own variables
abbrev pub touched_in : (ℕ → Bool) → ℕ → List Variable → ℕ → Bool
touched_in touched low variables x = in_variables low variables x || touched x

-- the address of a variable
abbrev pub variable_address : ℕ → List Variable → ℕ → Option ℕ
variable_address low variables x = option_map (λ (v : Variable). low + v.offset) (slice_get variables x)

-- the arguments lie in the first variables
abbrev pub with_arguments : ℕ → List Variable → List ℕ → Memory → Memory
with_arguments low (v ∷ vs) (w ∷ ws) m = with_arguments low vs ws (put m (low + v.offset) (bytes_of 8 w))
with_arguments low _ _ m = m

-- the memory in which a body begins: nothing is in its frame but the arguments
abbrev pub entered : ℕ → ℕ → List Variable → List ℕ → Memory → Memory
entered low frame variables words m = with_arguments low variables words (forgotten m low frame)

-- the frame still fits below a caller's low end
abbrev pub has_room : ℕ → ℕ → Bool
has_room base frame = nat_le (stack_low + frame) base
