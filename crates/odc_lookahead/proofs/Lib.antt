-- Each folder stands on those before it.

-- 1 reading one production: the answer for it, made from those for its parts
pub mod reading
-- 2 names and items between commas, up to a closing token
pub mod separated
-- 3 expressions: operators, operands, suffixes, arguments
pub mod expr
-- 4 types, and operands that are types
pub mod types
-- 5 parameter lists, with names or without
pub mod params
-- 6 declarations and statements
pub mod stmts
-- 7 headers: what stands between `if`, `for` or `switch` and its body
pub mod headers
-- 8 `for`
pub mod loops
-- 9 `switch`
pub mod switches
-- 10 the fault that a public call answers
pub mod faults
