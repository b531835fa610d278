pub mod Views
mod Turns
