-- Declarations, statements and their headers.
-- the kinds of tokens that go on with statements and declarations
pub mod StatementSets
-- parts of declarations that functions read of their own
pub mod DeclarationParts
-- names at the start of a statement
pub mod Runs
-- how the first parts of a header were read
pub mod Headers
-- what a statement is, by its first token
pub mod StatementForms
-- parts of blocks and bodies that functions read of their own
pub mod BodyParts
-- what may stand at the start of a header
pub mod Clauses
-- what may stand behind `for`
pub mod Loops
-- which kinds of tokens go on with values of cases and with cases
pub mod SwitchSets
-- what may stand behind `switch`
pub mod SwitchParts
-- the clean forms of what the functions on statements give
pub mod Statements
-- names where too few levels are left
pub mod RunBounds
-- what stands first behind `for`
pub mod LoopStarts
