-- The programs that typing gives.
pub mod WellTypes
pub mod Gathered
pub mod Well
pub mod Frames
