pub mod Fields
pub mod Table
pub mod Apart
pub mod Bytes
pub mod Areas
pub mod Fetch
