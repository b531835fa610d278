pub mod Names
pub mod Libraries
pub mod Universe
pub mod Members
