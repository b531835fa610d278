pub mod Plain
pub mod Size
pub mod Code
pub mod Lowered
