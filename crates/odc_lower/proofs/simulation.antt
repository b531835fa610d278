-- Each form of core code, and what its steps do.
pub mod Runs
pub mod Sims
pub mod Temps
pub mod Worlds
pub mod Exprs
pub mod Flows
pub mod Stmts
pub mod Pieces
pub mod Loops
pub mod Copies
pub mod Bodies
pub mod Touching
pub mod Calls
