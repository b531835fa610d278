pub mod Fields
pub mod Table
pub mod Words
pub mod State
pub mod Bytes
pub mod Areas
pub mod Standing
pub mod Run
