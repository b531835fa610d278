pub mod Tree
pub mod View
pub mod Words
pub mod Memory
pub mod Frames
pub mod Program
pub mod Run
pub mod Well
