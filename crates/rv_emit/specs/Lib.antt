pub mod Code
pub mod Layout
pub mod Encoded
pub mod Tables
pub mod Blocks
pub mod Emitted
