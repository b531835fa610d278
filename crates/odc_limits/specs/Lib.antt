pub mod Sized
pub mod Weighed
pub mod Placed
