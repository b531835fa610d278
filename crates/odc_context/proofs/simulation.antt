-- Each form of the source, and what its core code does.
pub mod Signs
pub mod Printing
pub mod Print
pub mod Texts
pub mod Exprs
pub mod Nodes
pub mod Calling
pub mod Values
pub mod Conditions
pub mod Stmts
pub mod Forms
pub mod Loops
pub mod Turning
pub mod Bodies
