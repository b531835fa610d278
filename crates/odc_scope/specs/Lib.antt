pub mod Scopes
pub mod Refusals
pub mod Stack
