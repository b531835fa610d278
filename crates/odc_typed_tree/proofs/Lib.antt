pub mod Elements
mod Cases
