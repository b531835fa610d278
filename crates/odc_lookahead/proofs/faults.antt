-- The fault that a public call answers.
pub mod LawLemmas
pub mod BlameLemmas
pub mod RefusedLemmas
pub mod Worked
