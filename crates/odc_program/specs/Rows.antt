-- Small programs, and what they are asked.
pub mod Told
pub mod Writing
pub mod First
pub mod Second
pub mod Third
pub mod Columns
pub mod Asking
pub mod Orders
pub mod Framed
pub mod Tables
pub mod Ill
