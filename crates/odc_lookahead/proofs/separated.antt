-- Names and items between commas, up to a closing token.
pub mod MoreLemmas
pub mod ListLemmas
pub mod ListAnswers
pub mod ListRules
pub mod NameLemmas
pub mod NamesAnswers
pub mod LastItems
