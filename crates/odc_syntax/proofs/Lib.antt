pub mod Longest
pub mod Units
pub mod Fronts
pub mod NumberLemmas
pub mod SignLemmas
pub mod ClassLemmas
pub mod CutLemmas
