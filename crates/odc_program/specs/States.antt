-- Sequencing, memory, and the state of a run.
pub mod Run
pub mod Bytes
pub mod Memory
pub mod State
