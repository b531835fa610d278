pub mod Check
pub mod Code
pub mod Run
pub mod Follow
pub mod Steps
