-- The kinds of expressions: one combinator each.
pub mod Layouts
pub mod Places
pub mod Operators
pub mod Calling
pub mod Printing
pub mod Builtins
pub mod Allocating
pub mod Expressions
