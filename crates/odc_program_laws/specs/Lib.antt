pub mod Nodes
pub mod Rewriting
pub mod Laws
