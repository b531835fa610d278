-- 1 the lists of linked blocks
pub mod Linked
