-- Types, and operands that are types.
pub mod TypeLemmas
pub mod NameTypes
pub mod TypeLists
pub mod TypeAnswers
pub mod ArrayAnswers
pub mod FieldAnswers
pub mod EnumAnswers
pub mod CastLemmas
pub mod OperandAnswers
pub mod ProcPlaces
pub mod SignatureAnswers
pub mod ProcedureAnswers
pub mod TypeExits
