-- `for`.
pub mod LoopBodies
pub mod LoopLemmas
pub mod StepLemmas
pub mod AfterLemmas
pub mod SpanLemmas
pub mod RangeLemmas
pub mod LoopClauses
pub mod LoopBounds
