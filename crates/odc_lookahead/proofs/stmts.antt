-- Declarations and statements.
pub mod SimpleLemmas
pub mod SimpleAnswers
pub mod DeclarationLemmas
pub mod DeclarationAnswers
pub mod InitialLemmas
pub mod RunLemmas
pub mod RunExits
pub mod StatementForms
pub mod StatementLemmas
pub mod LeavingLemmas
pub mod NamedLemmas
pub mod StatementBounds
pub mod StatementColons
pub mod StmtsLemmas
pub mod BlockLemmas
