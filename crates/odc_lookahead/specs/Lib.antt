-- what a parse function answers, and when that is right
pub mod Exact
-- what the results of the functions answer
pub mod Read
-- the kinds of tokens that parts begin with
pub mod Sets
-- what an operand is, by its first token
pub mod Forms
-- parts of productions that functions read of their own
pub mod Parts
-- how lists go on behind an item
pub mod Lists
-- what a type is, by its first token
pub mod TypeForms
-- parts of types that functions read of their own
pub mod TypeParts
-- whether parameters have names
pub mod ParamForms
-- where types that are operands end
pub mod Ends
-- the worked cases
pub mod Worked
-- the forms that the language refuses
pub mod Refused
-- refused forms by their first token
pub mod RefusedForms
-- declarations, statements and their headers
pub mod stmts
-- what the public calls answer
pub mod Law
-- which fault is answered
pub mod Blame
