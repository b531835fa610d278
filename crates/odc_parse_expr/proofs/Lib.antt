pub mod StatementExits
pub mod LoopExits
pub mod LoopFronts
pub mod LoopHeads
