pub mod FileLemmas
pub mod GrownLemmas
pub mod ListingLemmas
