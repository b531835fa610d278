pub mod Keep
pub mod StepLemmas
