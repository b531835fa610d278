pub mod Joining
pub mod Patching
pub mod Slots
