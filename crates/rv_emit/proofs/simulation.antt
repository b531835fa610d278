-- Each step of mid code, and what its instructions do.
pub mod Ties
pub mod Sims
pub mod Jumps
pub mod Services
pub mod Calls
pub mod Enters
pub mod Values
pub mod Returns
pub mod Runs
pub mod Begin
