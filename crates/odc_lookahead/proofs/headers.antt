-- Headers: what stands between `if`, `for` or `switch` and its body.
pub mod ClauseLemmas
pub mod HeadLemmas
pub mod HeadExpressions
pub mod FrontLemmas
pub mod HeaderFacts
pub mod ListBounds
pub mod HeaderOver
pub mod HeaderBounds
pub mod ClauseExpressions
pub mod RunBounds
pub mod HeadAnswers
pub mod IfLemmas
