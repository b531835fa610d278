-- 1 numbers in bytes
pub mod Numbers
-- 2 the two sections: their bytes, and what is read of them
pub mod Sections
-- 3 the lists as contracts see them
pub mod Listed
-- 4 the line of an allocator call
pub mod Trace
-- 5 the memory map of an executable
pub mod Layout
-- 6 ranges of memory
pub mod Seen
