-- The memory map of an executable: where each part begins, and how large it may be.
use Rattle.std.specs.Prelude.{ℕ}

-- the text
abbrev pub text_start : ℕ
text_start = 0x10000

-- the store of globals and literals
abbrev pub store_start : ℕ
store_start = 0x5000_0000

abbrev pub store_most : ℕ
store_most = 0x1000_0000

-- the region of the heap, that of temporaries, and the stack
abbrev pub heap_start : ℕ
heap_start = 0x6000_0000

abbrev pub heap_size : ℕ
heap_size = 0x100_0000

abbrev pub temp_start : ℕ
temp_start = 0x6800_0000

abbrev pub temp_size : ℕ
temp_size = 0x10_0000

abbrev pub stack_start : ℕ
stack_start = 0x7800_0000

abbrev pub stack_size : ℕ
stack_size = 0x800_0000
