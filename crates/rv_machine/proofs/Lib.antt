pub mod Found
pub mod Products
pub mod Pieces
pub mod Services
pub mod Turning
pub mod Running
pub mod Fixed
