-- 1 entries one behind the other
pub mod Counted
-- 2 what is written is read back
pub mod Spelled
