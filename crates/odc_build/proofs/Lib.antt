mod Weights
mod Forms
mod Rooms
mod Widths
pub mod Limits
mod Whole
mod Counts
mod Files
mod Filed
