-- A carried program that is well strays nowhere: each variable that has begun is live and holds the bytes of a number.
pub mod Outcomes
pub mod Actions
pub mod Values
pub mod Exprs
pub mod Parts
pub mod Stmts
pub mod Calls
