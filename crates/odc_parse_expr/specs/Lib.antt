-- what stands behind an operand, and arguments
pub mod Suffixes
-- the clean forms of what the functions on switches give
pub mod SwitchForms
-- the clean forms of fields, and of what stands behind the names of parameters
pub mod Fields
-- the clean form of statements in braces
pub mod Blocks
-- what the functions on `if` have read
pub mod Conditionals
-- the clean forms of what is read of a loop
pub mod LoopForms
