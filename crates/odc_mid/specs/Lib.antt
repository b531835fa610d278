pub mod Tree
pub mod View
pub mod Run
pub mod Well
